use Rattle.std.proofs.Common.{◌∙◌, Some, List, [], ◌∷◌, ℕ, ap, sym, subst}
use Rattle.message_model.specs.Messages.{Message}
use Rattle.unit_messages.specs.Reading.{BeginsWith}
use Rattle.file_view.specs.Fronts.{registration_in}
use Rattle.file_view.proofs.Leading.{new_comes}
use Rattle.file_view.proofs.UnitFronts.{overview_asked}
use Rattle.file_view.proofs.front.registration_behind.Goals as goal

pub returns-in-Overview : goal.returns-in-Overview
returns-in-Overview c = λ m begins request.
    let asked = overview_asked m (sym c.in-Overview.is ∙ request) in
    let read = c.overview.ensures asked.0 (subst (λ (x : Message). BeginsWith x c.args.rest.now) asked.1 begins) in
    new_comes c.args.known (Some c.overview.result.registration.0) (registration_in (m ∷ [])) (sym c.is_some.ensures ∙ c.if-is_some.false)
    (ap (λ (r : List ℕ). Some r) read.registration ∙ sym (ap (λ (x : Message). registration_in (x ∷ [])) asked.1))
