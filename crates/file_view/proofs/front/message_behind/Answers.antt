use Rattle.std.proofs.Common.{◌+◌, ap, drop, refl, subst}
use Rattle.std.specs.Prelude.{ℕ, List}
use Rattle.unit_messages.specs.Reading.{BeginsWith, BeginsNoMessage}
use Rattle.file_view.proofs.Leading.{leads_more}
use Rattle.file_view.proofs.Telling.{rest_is}
use Rattle.file_view.proofs.UnitFronts.{no_message}
use Rattle.file_view.proofs.front.message_behind.Goals as goal

pub returns-in-Err-clause-bad : goal.returns-in-Err-clause-bad
returns-in-Err-clause-bad c = (refl, no_message (drop c.args.front.end c.args.b.now) (subst BeginsNoMessage (rest_is c.args.b.now c.args.front.end) c.in-Err.ensures.bad.1))

pub returns-clause-more : goal.returns-clause-more
returns-clause-more c = λ before leads.
    let read = c.in-Ok.ensures.read in (
      read.message,
      leads_more c.args.b.now before c.args.front (record { end = c.args.front.end + c.in-Ok.read.len; registration = c.registration_behind.result }) read.message leads
          (subst (λ (l : List ℕ). BeginsWith read.message l) (rest_is c.args.b.now c.args.front.end) read.begins)
          (ap (λ (n : ℕ). c.args.front.end + n) read.len)
          (c.registration_behind.ensures read.message read.begins read.request),
    )
