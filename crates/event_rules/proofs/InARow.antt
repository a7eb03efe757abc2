-- n of a kind and the next are n + 1 of it.
use Rattle.std.proofs.Common.{◌≡◌, ℕ, zero, suc, ◌+◌, List, [], ◌∷◌, ◌++◌, ◌∙◌, ap, arith}
use Rattle.event_model.specs.Spans.{in_a_row}

pub one_more : {T : Type 0} (one : ℕ → T) (number n : ℕ) → in_a_row one number (suc n) ≡ in_a_row one number n ++ in_a_row one (number + n) 1
one_more {T} one number zero = let same : number ≡ number + 0 = omega arith in ap (λ (k : ℕ). one k ∷ []) same
one_more {T} one number (suc n) =
    let same : number + 1 + n ≡ number + suc n = omega arith in
    ap (λ (l : List T). one number ∷ l) (one_more one (number + 1) n ∙ ap (λ (k : ℕ). in_a_row one (number + 1) n ++ in_a_row one k 1) same)
