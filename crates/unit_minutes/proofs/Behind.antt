-- Writes behind the words of a slot, one after the other.
use Rattle.std.proofs.Common.{◌≡◌, ℕ, ◌+◌, ◌-◌, ◌*◌, ◌<◌, ◌≤◌, List, length, arith, subst, sym, refl, Option, None, Some, IfSome, option_map}
use Rattle.unit_model.specs.declared.layout.TheConstants.{DAY_SLOTS, DAY_WORDS, DAY_WORD_LIMIT, IMAGE_SIZE}
use Rattle.unit_model.specs.Writing.{free_place, written, DiffersBehind}
use Rattle.unit_model.proofs.Numbers.{written_outside}

pub behind_written : (i n : ℕ) (ws x : List ℕ) → i < DAY_SLOTS → n + length ws ≤ DAY_WORD_LIMIT → length x ≡ IMAGE_SIZE → DiffersBehind i n x (written (free_place i n) ws x)
behind_written i n ws x below fits sized = written_outside (free_place i n) (DAY_WORDS.size - 2 * n) ws x (omega (arith, fits)) (omega (arith, fits, below, sized))

-- what is said of the image that a run turned into a known one
pub after_run : (o p : Option (List ℕ)) (f : List ℕ → List ℕ) (A B : List ℕ → Type 0) → p ≡ option_map f o → IfSome o A → ((x : List ℕ) → o ≡ Some x → A x → B (f x)) → IfSome p B
after_run None p f A B known said all = subst (λ (q : Option (List ℕ)). IfSome q B) (sym known) tt
after_run (Some x) p f A B known said all = subst (λ (q : Option (List ℕ)). IfSome q B) (sym known) (all x refl said)
