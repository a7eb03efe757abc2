-- The pieces of a text, from the first one on.
use Rattle.std.proofs.Common.{◌≡◌, ◌∙◌, ℕ, ◌+◌, ◌-◌, ◌<◌, Bool, true, false, ◌||◌, List, [], ◌∷◌, ◌++◌, length, take, drop, get_or, refl, ap, sym}
use Rattle.std.specs.Prelude.{◌==◌}
use Rattle.std.specs.List.{list_any}
use Rattle.std.proofs.lemmas.Bool.{eq-eqb}
use Rattle.std.proofs.lemmas.List.{drop_more, take-append-drop, take_rest}
use Rattle.text_fields.specs.Pieces.{pieces, onto_first}

-- a separator is in this text
abbrev pub has : ℕ → List ℕ → Bool
has separator text = list_any (λ b. b == separator) text

or-false : (a b : Bool) → (a || b) ≡ false → (a ≡ false) × (b ≡ false)
or-false false b h = (refl, h)
or-false true b h = cc

-- a text without the separator is one piece
pub pieces-none : (separator : ℕ) (text : List ℕ) → has separator text ≡ false → pieces separator text ≡ text ∷ []
pieces-none separator [] h = refl
pieces-none separator (b ∷ text) h =
    let both = or-false (b == separator) (has separator text) h in
    rw (both.0, pieces-none separator text both.1) refl

-- up to the first separator it is the first piece
pub pieces-found : (separator : ℕ) (front rest : List ℕ) → has separator front ≡ false → pieces separator (front ++ separator ∷ rest) ≡ front ∷ pieces separator rest
pieces-found separator [] rest h = rw (eq-eqb separator separator refl) refl
pieces-found separator (b ∷ front) rest h =
    let both = or-false (b == separator) (has separator front) h in
    rw (both.0, pieces-found separator front rest both.1) refl

-- the first piece of a text whose first separator is at i
pub pieces-at : (separator : ℕ) (text : List ℕ) (i : ℕ) → i < length text → has separator (take i text) ≡ false → get_or text i 0 ≡ separator → pieces separator text ≡ take i text ∷ pieces separator (take (length text - (i + 1)) (drop (i + 1) text))
pieces-at separator text i lt before here =
    let split : text ≡ take i text ++ separator ∷ drop (i + 1) text = sym (take-append-drop i text) ∙ rw (drop_more text i 0 lt, here) refl in
    ap (pieces separator) split ∙ pieces-found separator (take i text) (drop (i + 1) text) before ∙ rw (take_rest text (i + 1)) refl

-- there is always a piece
pub pieces-some : (separator : ℕ) (text : List ℕ) → pieces separator text ≡ [] → ⊥
pieces-some separator [] h = cc
pieces-some separator (b ∷ text) h = by (b == separator) refl
  where
    onto : (ps : List (List ℕ)) → onto_first b ps ≡ [] → ⊥
    onto [] e = cc
    onto (p ∷ ps) e = cc

    by : (t : Bool) → (b == separator) ≡ t → ⊥
    by true here = let e = rw here at h in cc
    by false not_here = onto (pieces separator text) (rw not_here at h)

-- what stands behind a separator is at least one piece more
pub one_not_more : (separator : ℕ) (first text a : List ℕ) → first ∷ pieces separator text ≡ a ∷ [] → ⊥
one_not_more separator first text a h =
    let e : pieces separator text ≡ [] = cc in pieces-some separator text e
