-- Ranges and words in two parts.
use Rattle.std.proofs.Common.{◌≡◌, ℕ, zero, suc, ◌+◌, ◌*◌, List, ◌∷◌, ◌++◌, map, refl, ◌∙◌, ap, arith}
use Rattle.std.specs.List.{range_with_len}
use Rattle.std.proofs.lemmas.List.{map-append}
use Rattle.gated_ring.specs.Ring.{number_at}
use Rattle.unit_model.specs.Image.{words_at}

pub range_add : (a m n : ℕ) → range_with_len a (m + n) ≡ range_with_len a m ++ range_with_len (a + m) n
range_add a zero n = ap (λ (k : ℕ). range_with_len a k) (omega arith) ∙ ap (λ (k : ℕ). range_with_len k n) (omega arith)
range_add a (suc m) n =
    let more : suc m + n ≡ suc (m + n) = omega arith in
    ap (λ (k : ℕ). range_with_len a k) more ∙ ap (λ (l : List ℕ). a ∷ l) (range_add (a + 1) m n) ∙ ap (λ (k : ℕ). a ∷ range_with_len (a + 1) m ++ range_with_len k n) (omega arith)

-- words in two runs
words_shift : (x : List ℕ) (a m n from : ℕ) → map (λ j. number_at x (a + 2 * j) 2) (range_with_len (m + from) n) ≡ map (λ j. number_at x (a + 2 * m + 2 * j) 2) (range_with_len from n)
words_shift x a m zero from = refl
words_shift x a m (suc n) from =
    ap (λ (q : ℕ). number_at x q 2 ∷ map (λ j. number_at x (a + 2 * j) 2) (range_with_len (m + from + 1) n)) (omega arith)
    ∙ ap (λ (q : ℕ). number_at x (a + 2 * m + 2 * from) 2 ∷ map (λ j. number_at x (a + 2 * j) 2) (range_with_len q n)) (omega arith)
    ∙ ap (λ (l : List ℕ). number_at x (a + 2 * m + 2 * from) 2 ∷ l) (words_shift x a m n (from + 1))

pub words_split : (x : List ℕ) (a m n : ℕ) → words_at x a (m + n) ≡ words_at x a m ++ words_at x (a + 2 * m) n
words_split x a m n =
    ap (map (λ j. number_at x (a + 2 * j) 2)) (range_add 0 m n) ∙ map-append (λ j. number_at x (a + 2 * j) 2) (range_with_len 0 m) (range_with_len (0 + m) n)
    ∙ ap (λ (q : ℕ). words_at x a m ++ map (λ j. number_at x (a + 2 * j) 2) (range_with_len q n)) (omega arith)
    ∙ ap (λ (l : List ℕ). words_at x a m ++ l) (words_shift x a m n 0)
