-- The pieces of a message join to the message.
use Rattle.std.proofs.Common.{◌≡◌, ℕ, ◌+◌, ◌-◌, ◌*◌, zero, suc, false, List, [], ◌∷◌, ◌++◌, length, take, drop, refl, sym, ◌∙◌, ap, append-nil, arith}
use Rattle.std.specs.List.{concat}
use Rattle.std.proofs.lemmas.Bool.{leb-false}
use Rattle.std.proofs.lemmas.List.{take-append-drop, take-take, take_all, drop-take}
use Rattle.std.proofs.lemmas.List.Folds.{concat-append}
use Rattle.link_model.specs.Answers.{cut, cuts, has_piece}

take_more : (n m : ℕ) (l : List ℕ) → take n l ++ take m (drop n l) ≡ take (n + m) l
take_more n m l =
    ap (λ (x : List ℕ). x ++ take m (drop n l)) (sym (take-take n (n + m) l (omega arith))) ∙ ap (λ (x : List ℕ). take n (take (n + m) l) ++ x) (sym (drop-take n m l))
    ∙ take-append-drop n (take (n + m) l)

cuts_front : (content : List ℕ) (n : ℕ) → concat (cuts content n) ≡ take (251 * n) content
cuts_front content zero = refl
cuts_front content (suc n) =
    let place : 251 * (suc n - 1) ≡ 251 * n = omega arith in
    let end : 251 * n + 251 ≡ 251 * suc n = omega arith in
    concat-append (cuts content n) (cut content (suc n) ∷ []) ∙ ap (λ (x : List ℕ). concat (cuts content n) ++ x) (append-nil (cut content (suc n)))
    ∙ ap (λ (x : List ℕ). x ++ cut content (suc n)) (cuts_front content n) ∙ ap (λ (k : ℕ). take (251 * n) content ++ take 251 (drop k content)) place
    ∙ take_more (251 * n) 251 content ∙ ap (λ (k : ℕ). take k content) end

pub cuts_join : (content : List ℕ) (last : ℕ) → has_piece content (last + 1) ≡ false → concat (cuts content last) ≡ content
cuts_join content last none =
    let past = leb-false (251 * (last + 1 - 1)) (length content) none in
    cuts_front content last ∙ take_all (251 * last) content (omega (arith, past))
