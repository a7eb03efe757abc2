-- Parts of Application_Identification.
use Rattle.std.proofs.Common.{◌≡◌, ℕ, ◌+◌, ◌≤◌, List, Option, Some, None, IfSome, sym, ◌∙◌, ap, subst}
use Rattle.tach_media.proofs.Images.{part_in}
use Rattle.tach_media.specs.Medium.{State, IsCoherent, bytes_at}
use Rattle.tach_media.proofs.Runs.{if_told}
use Rattle.card_layout.specs.declared.command.CardState.{CardState}
use Rattle.card_commands.specs.Performing.{IsSound}

-- a part of the file is a part of the image
pub part_of : (x bytes : List ℕ) (offset n : ℕ) → offset + n ≤ 10 → bytes ≡ bytes_at x 33 10 → bytes_at bytes offset n ≡ bytes_at x (33 + offset) n
part_of x bytes offset n fits is = ap (λ (l : List ℕ). bytes_at l offset n) is ∙ part_in x 33 10 offset n fits

-- what is so of a value that is there
pub where_some : {A : Type 0} {o : Option A} (P : A → Type 0) {x : A} → o ≡ Some x → P x → IfSome o P
where_some {A} {o} P {x} is holds = subst (λ (p : Option A). IfSome p P) (sym is) holds

-- what is so of a told image
pub told_weaker : (o : Option (List ℕ)) {P : List ℕ → Type 0} (Q : List ℕ → Type 0) → IfSome o P → ((x : List ℕ) → P x → Q x) → IfSome o Q
told_weaker None Q said weaker = said
told_weaker (Some x) Q said weaker = weaker x said

-- the bytes by which a card goes stand in its image
pub goes_by_image : (card : CardState) (works : _) (s : State) (bytes : List ℕ) → IsCoherent s → IsSound card works s → card.application ≡ Some bytes → IfSome s.image (λ x. bytes ≡ bytes_at x 33 10)
goes_by_image card works s bytes whole sound is = if_told s.image _ (λ x told. sym (sound.agrees bytes is x (whole.is_left x told)))
