-- Pieces of a text, and of more of it.
use Rattle.std.proofs.Common.{◌≡◌, ◌∙◌, ℕ, true, false, List, [], ◌∷◌, ◌++◌, append-nil, refl, ap, sym}
use Rattle.std.specs.Prelude.{◌==◌}
use Rattle.activity_codec.proofs.ByTest.{by_test}
use Rattle.text_fields.specs.Pieces.{pieces, onto_first}
use Rattle.text_fields.proofs.PieceLemmas.{pieces-some}

-- a byte that is no separator, and one that is
no_cut : (s c : ℕ) (text : List ℕ) → (c == s) ≡ false → pieces s (c ∷ text) ≡ onto_first c (pieces s text)
no_cut s c text none = rw none refl

a_cut : (s c : ℕ) (text : List ℕ) → (c == s) ≡ true → pieces s (c ∷ text) ≡ [] ∷ pieces s text
a_cut s c text here = rw here refl

-- a text that is one piece, without its first byte
tail_onto : (c : ℕ) (text : List ℕ) (ps : List (List ℕ)) → (ps ≡ [] → ⊥) → onto_first c ps ≡ (c ∷ text) ∷ [] → ps ≡ text ∷ []
tail_onto c text [] some h = absurd (some refl)
tail_onto c text (q ∷ qs) some h = cc

one_tail : (s c : ℕ) (text : List ℕ) → pieces s (c ∷ text) ≡ (c ∷ text) ∷ [] → ((c == s) ≡ false) × (pieces s text ≡ text ∷ [])
one_tail s c text h =
    by_test (c == s)
    (λ here. let e : [] ∷ pieces s text ≡ (c ∷ text) ∷ [] = sym (a_cut s c text here) ∙ h in absurd (cc))
    (λ none. (none, tail_onto c text (pieces s text) (pieces-some s text) (sym (no_cut s c text none) ∙ h)))

-- more text behind a piece
pub one_more : (s : ℕ) (was text front : List ℕ) (behind : List (List ℕ)) → pieces s was ≡ was ∷ [] → pieces s text ≡ front ∷ behind → pieces s (was ++ text) ≡ (was ++ front) ∷ behind
one_more s [] text front behind one is = is
one_more s (c ∷ was) text front behind one is =
    let t = one_tail s c was one in
    no_cut s c (was ++ text) t.0 ∙ ap (λ (ps : List (List ℕ)). onto_first c ps) (one_more s was text front behind t.1 is)

-- more text behind pieces: the last of them goes on
not_empty : (xs : List (List ℕ)) (y : List ℕ) → [] ≡ xs ++ y ∷ [] → ⊥
not_empty [] y h = cc
not_empty (x ∷ xs) y h = cc

none_on : (s : ℕ) (ended : List (List ℕ)) (last more : List ℕ) → [] ∷ [] ≡ ended ++ last ∷ [] → pieces s more ≡ ended ++ pieces s (last ++ more)
none_on s [] last more h =
    let e : last ≡ [] = cc in sym (ap (λ (l : List ℕ). pieces s (l ++ more)) e)
none_on s (x ∷ ended) last more h =
    let e : [] ≡ ended ++ last ∷ [] = cc in absurd (not_empty ended last e)

cut_on : (s c : ℕ) (text : List ℕ) (ended : List (List ℕ)) (last more : List ℕ) → (c == s) ≡ true → ((es : List (List ℕ)) → pieces s text ≡ es ++ last ∷ [] → pieces s (text ++ more) ≡ es ++ pieces s (last ++ more))
    → [] ∷ pieces s text ≡ ended ++ last ∷ [] → pieces s (c ∷ text ++ more) ≡ ended ++ pieces s (last ++ more)
cut_on s c text [] last more here again h =
    let e : pieces s text ≡ [] = cc in absurd (pieces-some s text e)
cut_on s c text (e ∷ es) last more here again h =
    let f : e ≡ [] = cc in
    let rest : pieces s text ≡ es ++ last ∷ [] = cc in
    a_cut s c (text ++ more) here ∙ ap (λ (ps : List (List ℕ)). [] ∷ ps) (again es rest) ∙ sym (ap (λ (l : List ℕ). l ∷ (es ++ pieces s (last ++ more))) f)

onto_on : (s c : ℕ) (text : List ℕ) (ps ended : List (List ℕ)) (last more : List ℕ) → (c == s) ≡ false → (ps ≡ [] → ⊥)
    → ((es : List (List ℕ)) (l : List ℕ) → ps ≡ es ++ l ∷ [] → pieces s (text ++ more) ≡ es ++ pieces s (l ++ more))
    → onto_first c ps ≡ ended ++ last ∷ [] → pieces s (c ∷ text ++ more) ≡ ended ++ pieces s (last ++ more)
onto_on s c text [] ended last more none some again h = absurd (some refl)
onto_on s c text (p ∷ ps) [] last more none some again h =
    let f : last ≡ c ∷ p = cc in
    let rest : p ∷ ps ≡ p ∷ [] = cc in
    no_cut s c (text ++ more) none ∙ ap (λ (l : List (List ℕ)). onto_first c l) (again [] p rest) ∙ sym (no_cut s c (p ++ more) none)
    ∙ sym (ap (λ (l : List ℕ). pieces s (l ++ more)) f)
onto_on s c text (p ∷ ps) (e ∷ es) last more none some again h =
    let f : e ≡ c ∷ p = cc in
    let rest : p ∷ ps ≡ p ∷ (es ++ last ∷ []) = cc in
    no_cut s c (text ++ more) none ∙ ap (λ (l : List (List ℕ)). onto_first c l) (again (p ∷ es) last rest) ∙ sym (ap (λ (l : List ℕ). l ∷ (es ++ pieces s (last ++ more))) f)

pub pieces_on : (s : ℕ) (text : List ℕ) (ended : List (List ℕ)) (last more : List ℕ) → pieces s text ≡ ended ++ last ∷ [] → pieces s (text ++ more) ≡ ended ++ pieces s (last ++ more)
pieces_on s [] ended last more h = none_on s ended last more h
pieces_on s (c ∷ text) ended last more h =
    by_test (c == s)
    (λ here. cut_on s c text ended last more here (λ es is. pieces_on s text es last more is) (sym (a_cut s c text here) ∙ h))
    (λ none. onto_on s c text (pieces s text) ended last more none (pieces-some s text) (λ es l is. pieces_on s text es l more is) (sym (no_cut s c text none) ∙ h))

cancelled : (xs a b : List (List ℕ)) → xs ++ a ≡ xs ++ b → a ≡ b
cancelled [] a b h = h
cancelled (x ∷ xs) a b h =
    let e : xs ++ a ≡ xs ++ b = cc in cancelled xs a b e

-- the last piece has no separator
pub last_is_one : (s : ℕ) (text : List ℕ) (ended : List (List ℕ)) (last : List ℕ) → pieces s text ≡ ended ++ last ∷ [] → pieces s last ≡ last ∷ []
last_is_one s text ended last h =
    let on = pieces_on s text ended last [] h in
    cancelled ended (pieces s last) (last ∷ [])
    (sym (ap (λ (l : List ℕ). ended ++ pieces s l) (append-nil last)) ∙ sym on ∙ ap (λ (l : List ℕ). pieces s l) (append-nil text) ∙ h)
