-- The lines that count, one line after another.
use Rattle.std.proofs.Common.{◌≡◌, ◌∙◌, ℕ, ◌+◌, true, false, List, [], ◌∷◌, ◌++◌, length, refl, ap, arith, append-nil}
use Rattle.activity_codec.proofs.ByTest.{by_test}
use Rattle.trace_text.specs.Text.{counts, fields, numbered, counted}

numbered-append : (n : ℕ) (xs ys : List (List ℕ)) → numbered n (xs ++ ys) ≡ numbered n xs ++ numbered (n + length xs) ys
numbered-append n [] ys = let e : n ≡ n + 0 = omega arith in ap (λ (m : ℕ). numbered m ys) e
numbered-append n (x ∷ xs) ys =
    let e : (n + 1) + length xs ≡ n + length (x ∷ xs) = omega arith in
    let rest : numbered (n + 1) (xs ++ ys) ≡ numbered (n + 1) xs ++ numbered (n + length (x ∷ xs)) ys = numbered-append (n + 1) xs ys ∙ ap (λ (m : ℕ). numbered (n + 1) xs ++ numbered m ys) e in
    by_test (counts x)
    (λ counts_it. rw counts_it (ap (λ (ls : List (ℕ × List (List ℕ))). (n, fields x) ∷ ls) rest))
    (λ skips_it. rw skips_it rest)

-- a line that counts, behind n others and with these behind it
pub counted-line : (before : List (List ℕ)) (line : List ℕ) (behind : List (List ℕ)) (n : ℕ) → counts line ≡ true → length before ≡ n → counted (before ++ line ∷ behind) ≡ counted before ++ (n + 1, fields line) ∷ numbered (n + 2) behind
counted-line before line behind n counts_it is =
    let e : 1 + length before ≡ n + 1 = omega (arith, is) in
    let f : (n + 1) + 1 ≡ n + 2 = omega arith in
    let here : numbered (n + 1) (line ∷ behind) ≡ (n + 1, fields line) ∷ numbered ((n + 1) + 1) behind = rw counts_it refl in
    numbered-append 1 before (line ∷ behind)
    ∙ ap (λ (m : ℕ). counted before ++ numbered m (line ∷ behind)) e
    ∙ ap (λ (ls : List (ℕ × List (List ℕ))). counted before ++ ls) here
    ∙ ap (λ (m : ℕ). counted before ++ (n + 1, fields line) ∷ numbered m behind) f

-- a line that is passed over
pub counted-same : (before : List (List ℕ)) (line : List ℕ) → counts line ≡ false → counted (before ++ line ∷ []) ≡ counted before
counted-same before line skips_it =
    let none : numbered (1 + length before) (line ∷ []) ≡ [] = rw skips_it refl in
    numbered-append 1 before (line ∷ []) ∙ ap (λ (ls : List (ℕ × List (List ℕ))). counted before ++ ls) none ∙ append-nil (counted before)
