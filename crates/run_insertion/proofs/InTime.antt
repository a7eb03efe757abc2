-- A card that was written as it entered told of no later time.
use Rattle.std.proofs.Common.{◌≡◌, inl, inr, ⊎_elim, ℕ, ◌≤◌, Option, IfSome, List, sym, subst}
use Rattle.tach_media.specs.Medium.{State, IsCoherent, LeavesOnly, Unchanged}
use Rattle.tach_media.proofs.Runs.{goes_same, at_image, if_told, both_told, from_told, told_too, revived}
use Rattle.card_layout.specs.declared.files.Application.{Application}
use Rattle.card_validity.specs.card_image.Own.{own_sizes, own_view}
use Rattle.card_validity.specs.card_image.Judging.{IsValid}
use Rattle.card_validity.specs.card_image.View.{CardView, card_view}
use Rattle.device_calls.specs.Entering.{IsInTime}
use Rattle.device_calls.proofs.OnCard.{own-is}
use Rattle.run_insertion.specs.declared.lines.Entering.{Entering}
use Rattle.run_insertion.specs.Told.{IsEarly, WasInTime}

-- by the sizes that it told
by-sizes : (app : Application) (now : ℕ) (o : Option (List ℕ)) → IfSome o (λ x. own_sizes x ≡ app) → IfSome o (λ x. (card_view app x).stored ≤ now) → IfSome o (λ x. (own_view x).stored ≤ now)
by-sizes app now o sized early = both_told o (λ x. (own_view x).stored ≤ now) sized early
    (λ x is own le. subst (λ (v : CardView). v.stored ≤ now) (sym (own-is app x own)) le)

-- it was only judged, or its entering failed
pub judged-early : (app : Application) (e : Entering) (M N : State) → IfSome M.image (λ x. own_sizes x ≡ app) → IsInTime app e.at.second M N → IsEarly e M N
judged-early app e M N sized is = ⊎_elim (λ read. inl read) (λ early. inr (by-sizes app e.at.second M.image sized early)) is

-- it is accepted
pub taken-early : (app : Application) (e : Entering) (M N : State) → IfSome M.image (λ x. own_sizes x ≡ app) → IfSome M.image (λ x. IsValid app x × ((card_view app x).stored ≤ e.at.second)) → IsEarly e M N
taken-early app e M N sized valid = inr (by-sizes app e.at.second M.image sized (from_told M.image (λ x. IsValid app x × ((card_view app x).stored ≤ e.at.second)) (λ x. (card_view app x).stored ≤ e.at.second) valid (λ x is was. was.1)))

-- it was revived before
pub woken-early : (e : Entering) (X M Y : State) → IsCoherent M → LeavesOnly X M Unchanged → IsEarly e M Y → WasInTime e X Y
woken-early e X M Y whole leaves is = ⊎_elim
    (λ read. inl (goes_same leaves read))
    (λ early. inr (if_told X.image (λ x. (y : List ℕ) × X.may_leave y × ((own_view y).stored ≤ e.at.second)) (λ x is.
    let y = told_too X.image M.image x (sym leaves.tells) is in (y.0, revived whole leaves y.0 y.1, at_image (λ (l : List ℕ). (own_view l).stored ≤ e.at.second) y.1 early))))
    is
