-- With whatever a stop might have left a run begins again.
use Rattle.std.proofs.Common.{◌≡◌, ℕ, List, Some, None, ◌<◌, All}
use Rattle.std.proofs.lemmas.List.Elements.{All-from_get_or}
use Rattle.tach_media.specs.card_layout.Fields.{IsBytes}
use Rattle.log_model.specs.declared.lines.Mark.{Mark}
use Rattle.device_calls.specs.safety_model.Recording.{Recording}
use Rattle.device_calls.specs.safety_model.Safe.{Devices, IsSafe, MayBegin}
use Rattle.run_again.specs.Left.{HasTwoNumbers}
use Rattle.run_again.proofs.Again.{begins_again}
use Rattle.recorder_with_cards.specs.Ends.{opened_with, BeginsAgain}

pub begins-anew : (r : Recording) (marks : List Mark) (began now : Devices) → IsSafe r marks began now → HasTwoNumbers r → BeginsAgain began now
begins-anew r marks began now safe two unit card_a card_b left left_a left_b start later =
    let may : MayBegin (opened_with unit card_a card_b) = begins_again r (opened_with unit card_a card_b) marks began now safe two (record { of_unit = left; of_a = left_a; of_b = left_b }) (λ s is. absurd (let none : None ≡ Some s = is in cc)) in
    record { decodes = may.decodes; later = later; numbers = may.numbers }

-- bytes as a list of them
pub all-bytes : (xs : List ℕ) → IsBytes xs → All (λ n. n < 256) xs
all-bytes xs bytes = All-from_get_or (λ (n : ℕ). n < 256) xs 0 (λ i inside. bytes i)
