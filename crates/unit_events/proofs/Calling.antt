-- What calls on a unit leave, one after another.
use Rattle.std.proofs.Common.{◌≡◌, ◌⊎◌, inl, inr, ℕ, true, Some, List, refl, sym, subst, ◌∙◌}
use Rattle.tach_media.specs.Medium.{State, IsCoherent, LeavesOnly, LiesInside}
use Rattle.tach_media.proofs.Runs.{goes_on}
use Rattle.unit_model.specs.declared.layout.TheConstants.{IMAGE_SIZE}
use Rattle.unit_model.specs.Image.{IsUnit}
use Rattle.unit_notes.specs.Journal.{LeavesJournal}

-- a unit stays one
pub still-unit : {U V : State} {R : List ℕ → List ℕ → Type 0} → LeavesOnly U V R → IsUnit U → IsUnit V
still-unit run unit = record { sized = run.size ∙ unit.sized; behind = run.behind ∙ unit.behind; writable = subst (λ (ws : List (ℕ × ℕ)). LiesInside ws 0 IMAGE_SIZE) (sym run.writable) unit.writable }

-- THE BYTES OF THE JOURNAL over two notes
pub journal-then : {U M V : State} → IsCoherent U → IsCoherent M → U.works ≡ true → LeavesOnly U M LeavesJournal → LeavesOnly M V LeavesJournal → LeavesOnly U V LeavesJournal
journal-then {U} {M} {V} before mid works first next = goes_on first next (λ x y c was is here. both x y c here (here-or x y was (first.now y (mid.is_left y is))))
  where
    itself : (x : List ℕ) → LeavesJournal x x
    itself x = record { keeps = record { front = refl; rest = refl; spare = refl; same_length = refl }; decodes = λ d. d }

    here-or : (x y : List ℕ) → U.image ≡ Some x → U.may_leave y ⊎ ((z : List ℕ) × (U.image ≡ Some z) × LeavesJournal z y) → LeavesJournal x y
    here-or x y was (inl old) = let one : Some x ≡ Some y = sym was ∙ before.only y works old in let same : x ≡ y = cc in subst (LeavesJournal x) same (itself x)
    here-or x y was (inr (z, is, here)) = let one : Some z ≡ Some x = sym is ∙ was in let same : z ≡ x = cc in subst (λ (w : List ℕ). LeavesJournal w y) same here

    both : (x y c : List ℕ) → LeavesJournal y c → LeavesJournal x y → LeavesJournal x c
    both x y c second one = record {
      keeps = record { front = second.keeps.front ∙ one.keeps.front; rest = second.keeps.rest ∙ one.keeps.rest; spare = second.keeps.spare ∙ one.keeps.spare; same_length = second.keeps.same_length ∙ one.keeps.same_length };
      decodes = λ d. second.decodes (one.decodes d);
    }
