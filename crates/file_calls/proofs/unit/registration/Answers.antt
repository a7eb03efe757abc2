use Rattle.std.proofs.Common.{◌≡◌, ◌∙◌, ℕ, length, List, ap, ⊎_elim}
use Rattle.std.proofs.lemmas.Bool.{cases_lt}
use Rattle.message_model.specs.Messages.{Message, IsUnitFile}
use Rattle.file_view.specs.Fronts.{registration_in, IsFront}
use Rattle.file_view.specs.declared.front.FrontRead.{FrontRead}
use Rattle.file_view.proofs.UnitOneWay.{unit_does_not_fail}
use Rattle.card_match.proofs.Sources.{one_file, front_bad, front_short, front_whole}
use Rattle.file_calls.proofs.unit.registration.Goals as goal

-- the messages at the front of a unit file are all of it
same_messages : (bytes : List ℕ) (f : FrontRead) (messages : List Message) → IsUnitFile messages bytes → (front : IsFront bytes f) → front.messages ≡ messages
same_messages bytes f messages file front = ⊎_elim
    (λ short. absurd (unit_does_not_fail messages bytes f.end file (front_short bytes f front short)))
    (λ whole. one_file front.messages messages bytes (front_whole bytes f front whole) file)
    (cases_lt f.end (length bytes))

pub returns : goal.returns
returns c = λ messages file.
    c.in-Ok.ensures.front.leads.registration_is ∙ ap (λ (l : List Message). registration_in l) (same_messages c.args.b.now c.in-Ok.front messages file c.in-Ok.ensures.front)

pub unreachable-requires : goal.unreachable-requires
unreachable-requires c = unit_does_not_fail c.requires.file.0 c.args.b.now c.in-Err.field-0 c.requires.file.1 (front_bad c.in-Err.field-0 c.args.b.now c.in-Err.ensures.bad)
