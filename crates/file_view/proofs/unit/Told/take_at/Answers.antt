use Rattle.std.proofs.Common.{drop, refl, subst}
use Rattle.unit_messages.specs.Reading.{BeginsNoMessage}
use Rattle.file_view.proofs.Telling.{rest_is}
use Rattle.file_view.proofs.UnitFronts.{no_message}
use Rattle.file_view.proofs.unit.Told.take_at.Goals as goal

pub returns-in-Err-clause-bad : goal.returns-in-Err-clause-bad
returns-in-Err-clause-bad c = (refl, no_message (drop c.args.place c.args.b.now) (subst BeginsNoMessage (rest_is c.args.b.now c.args.place) c.in-Err.ensures.bad.1))
