use Rattle.std.proofs.Common.{◌≡◌, ◌∙◌, ℕ, ◌+◌, ◌-◌, List, [], ◌∷◌, ◌++◌, length, drop, refl, ap, subst, arith, length-drop}
use Rattle.link_model.specs.declared.request.Request.{Request}
use Rattle.unit_messages.specs.Reading.{BeginsWith, BeginsNoMessage}
use Rattle.file_view.proofs.Telling.{rest_is}
use Rattle.file_view.proofs.UnitFronts.{no_message}
use Rattle.file_view.specs.declared.places.MessageAt.{MessageAt}
use Rattle.file_view.proofs.places.take_message.Goals as goal

pub returns-in-Err-clause-bad : goal.returns-in-Err-clause-bad
returns-in-Err-clause-bad c = (refl, no_message (drop c.args.place c.args.b.now) (subst BeginsNoMessage (rest_is c.args.b.now c.args.place) c.in-Err.ensures.bad.1))

pub returns-clause-taken : goal.returns-clause-taken
returns-clause-taken c =
    let read = c.in-Ok.ensures.read in
    let place = c.args.place in
    let at : ℕ → Request → MessageAt = λ len request. record { place = c.args.place; len = len; request = request } in
    let long : c.in-Ok.read.len ≡ c.args.place + c.in-Ok.read.len - c.args.place = omega arith in (
      read.message,
      record {
        begins = subst (λ (l : List ℕ). BeginsWith read.message l) (rest_is c.args.b.now c.args.place) read.begins;
        end_is = ap (λ (n : ℕ). c.args.place + n) read.len;
        inside = omega (arith, c.in-Ok.ensures.inside, ap (λ (l : List ℕ). length l) (rest_is c.args.b.now c.args.place), length-drop c.args.place c.args.b.now, c.requires.inside);
      },
      c.in_ok-add_place.ensures
          ∙ ap (λ (n : ℕ). c.args.all.now.items ++ at n c.in-Ok.read.request ∷ []) long
          ∙ ap (λ (r : Request). c.args.all.now.items ++ at (c.args.place + c.in-Ok.read.len - c.args.place) r ∷ []) read.request,
    )
