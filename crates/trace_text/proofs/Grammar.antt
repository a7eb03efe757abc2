-- Lines that are those of a trace: one trace is theirs, and each front of them begins it.
use Rattle.std.proofs.Common.{◌≡◌, ◌∙◌, ℕ, List, [], ◌∷◌, ◌++◌, refl, ap, sym, subst, arith, append-nil, inl, inr}
use Rattle.std.specs.Prelude.{map}
use Rattle.std.specs.List.{AllByRecursion}
use Rattle.std.specs.Fmt.{decimal}
use Rattle.std.proofs.lemmas.List.{map_push}
use Rattle.trace_model.specs.declared.Item.{Item}
use Rattle.trace_text.specs.declared.lines_trace.Form.{Form}
use Rattle.trace_text.specs.Line.{start_fields, item_fields, IsStart, IsItem, IsKnown}
use Rattle.trace_text.specs.Trace.{Spells, InGrammar, line_of}
use Rattle.trace_text.proofs.Inverse.{item-one, decimal-one}

-- each of these is known to the form
abbrev pub AllKnown : Form → List (ℕ × Item) → Type 0
AllKnown form written = AllByRecursion (λ p. IsKnown form p.1) written

all-more : (form : Form) (xs ys : List (ℕ × Item)) → AllKnown form xs → AllKnown form ys → AllKnown form (xs ++ ys)
all-more form [] ys all more = more
all-more form (x ∷ xs) ys all more = (all.0, all-more form xs ys all.1 more)

all-behind : (form : Form) (xs ys : List (ℕ × Item)) → AllKnown form (xs ++ ys) → AllKnown form ys
all-behind form [] ys all = all
all-behind form (x ∷ xs) ys all = all-behind form xs ys all.1

-- no line
pub no_push : (lines behind : List (ℕ × List (List ℕ))) (line : ℕ × List (List ℕ)) → lines ++ line ∷ behind ≡ [] → ⊥
no_push [] behind line e = cc
no_push (x ∷ lines) behind line e = cc

-- the lines of a trace begin with its `start` line
pub spells-some : (form : Form) (lines : List (ℕ × List (List ℕ))) (start : ℕ) (written : List (ℕ × Item)) → Spells form lines start written → lines ≡ [] → ⊥
spells-some form lines start written s none = let e = s.text in cc

-- the line `start`
pub spells-start : (form : Form) (n start : ℕ) (fields : List (List ℕ)) → IsStart fields start → Spells form ((n, fields) ∷ []) start []
spells-start form n start fields is = record { start_line = n; text = rw is.0 refl; first = is.1; each = tt }

-- the line of one more item
pub spells-more : (form : Form) (lines : List (ℕ × List (List ℕ))) (n start : ℕ) (fields : List (List ℕ)) (written : List (ℕ × Item)) (item : Item) → Spells form lines start written → IsItem form fields item → Spells form (lines ++ (n, fields) ∷ []) start (written ++ (n, item) ∷ [])
spells-more form lines n start fields written item s is =
    let behind : map line_of written ++ (n, fields) ∷ [] ≡ map line_of (written ++ (n, item) ∷ []) = ap (λ (f : List (List ℕ)). map line_of written ++ (n, f) ∷ []) is.0 ∙ sym (map_push line_of written (n, item)) in
    record {
      start_line = s.start_line;
      text = ap (λ (ls : List (ℕ × List (List ℕ))). ls ++ (n, fields) ∷ []) s.text ∙ ap (λ (ls : List (ℕ × List (List ℕ))). (s.start_line, start_fields start) ∷ ls) behind;
      first = s.first;
      each = all-more form written ((n, item) ∷ []) s.each (is.1, tt);
    }

-- lines tell their items
line-one : (p q : ℕ × Item) → (form : Form) → IsKnown form p.1 → IsKnown form q.1 → line_of p ≡ line_of q → p ≡ q
line-one (n, a) (m, b) form p q e =
    let number : n ≡ m = ap (λ (line : ℕ × List (List ℕ)). line.0) e in
    let item = item-one a b p.1 q.1 (ap (λ (line : ℕ × List (List ℕ)). line.1) e) in
    rw (number, item) refl

items-front : (form : Form) (xs : List (ℕ × Item)) (more : List (ℕ × List (List ℕ))) (ys : List (ℕ × Item)) → AllKnown form xs → AllKnown form ys → map line_of xs ++ more ≡ map line_of ys → (rest : List (ℕ × Item)) × (ys ≡ xs ++ rest) × (more ≡ map line_of rest)
items-front form [] more ys p q e = (ys, refl, e)
items-front form (x ∷ xs) more [] p q e = cc
items-front form (x ∷ xs) more (y ∷ ys) p q e =
    let first : line_of x ≡ line_of y = cc in
    let behind : map line_of xs ++ more ≡ map line_of ys = cc in
    let same : y ≡ x = sym (line-one x y form p.0 q.0 first) in
    let found = items-front form xs more ys p.1 q.1 behind in
    (found.0, ap (λ (z : ℕ × Item). z ∷ ys) same ∙ ap (λ (zs : List (ℕ × Item)). x ∷ zs) found.1, found.2)

-- a trace whose lines begin with those of another: the same first second, and its items begin with the other's
pub record GoesOn (more : List (ℕ × List (List ℕ))) (start : ℕ) (xs : List (ℕ × Item)) (start' : ℕ) (ys : List (ℕ × Item)) : Type 0 where
  pub same_start : start ≡ start'
  pub rest : List (ℕ × Item)
  pub items_are : ys ≡ xs ++ rest
  pub lines_are : more ≡ map line_of rest

-- two lists of lines that are one begin with the same fields
start-words : (a b : ℕ × List (List ℕ)) (xs ys : List (ℕ × List (List ℕ))) → a ∷ xs ≡ b ∷ ys → a.1 ≡ b.1
start-words a b xs ys e = let f : a ≡ b = cc in ap (λ (line : ℕ × List (List ℕ)). line.1) f

pub spells-front : (form : Form) (lines more : List (ℕ × List (List ℕ))) (start start' : ℕ) (xs ys : List (ℕ × Item)) → Spells form lines start xs → Spells form (lines ++ more) start' ys → GoesOn more start xs start' ys
spells-front form lines more start start' xs ys s t =
    let whole : ((s.start_line, start_fields start) ∷ map line_of xs) ++ more ≡ (t.start_line, start_fields start') ∷ map line_of ys = ap (λ (ls : List (ℕ × List (List ℕ))). ls ++ more) (sym s.text) ∙ t.text in
    let words : start_fields start ≡ start_fields start' = start-words (s.start_line, start_fields start) (t.start_line, start_fields start') (map line_of xs ++ more) (map line_of ys) whole in
    let digits : decimal start ≡ decimal start' = cc in
    let behind : map line_of xs ++ more ≡ map line_of ys = cc in
    let found = items-front form xs more ys s.each t.each behind in
    record {
      same_start = decimal-one start start' (omega (arith, s.first.1)) (omega (arith, t.first.1)) digits;
      rest = found.0;
      items_are = found.1;
      lines_are = found.2;
    }

-- no line more is no item more
pub none-more : (rest : List (ℕ × Item)) → [] ≡ map line_of rest → rest ≡ []
none-more [] e = refl
none-more (x ∷ rest) e = cc

-- the lines of one trace
pub spells-one : (form : Form) (lines : List (ℕ × List (List ℕ))) (start start' : ℕ) (xs ys : List (ℕ × Item)) → Spells form lines start xs → Spells form lines start' ys → (start ≡ start') × (xs ≡ ys)
spells-one form lines start start' xs ys s t =
    let P : List (ℕ × List (List ℕ)) → Type 0 = λ ls. Spells form ls start' ys in
    let g = spells-front form lines [] start start' xs ys s (subst P (sym (append-nil lines)) t) in
    (g.same_start, sym (g.items_are ∙ ap (λ (zs : List (ℕ × Item)). xs ++ zs) (none-more g.rest g.lines_are) ∙ append-nil xs))

-- a line that is no item's ends the grammar
pub bad_item : (form : Form) (lines : List (ℕ × List (List ℕ))) (n start : ℕ) (fields : List (List ℕ)) (written : List (ℕ × Item)) → Spells form lines start written → ((item : Item) → IsItem form fields item → ⊥) → InGrammar form (lines ++ (n, fields) ∷ []) → ⊥
bad_item form lines n start fields written s none (inl nothing) = no_push lines [] (n, fields) nothing
bad_item form lines n start fields written s none (inr (start', others, t)) =
    let g = spells-front form lines ((n, fields) ∷ []) start start' written others s t in
    let P : List (ℕ × Item) → Type 0 = λ is. AllKnown form is in
    by_rest g.rest (all-behind form written g.rest (subst P g.items_are t.each)) g.lines_are
  where
    by_rest : (rest : List (ℕ × Item)) → AllKnown form rest → (n, fields) ∷ [] ≡ map line_of rest → ⊥
    by_rest [] all e = cc
    by_rest ((m, item) ∷ rest) all e =
        let same : (n, fields) ≡ (m, item_fields item) = cc in
        none item (ap (λ (line : ℕ × List (List ℕ)). line.1) same, all.0)

-- a first line that is not `start` ends it too
pub bad_start : (form : Form) (n : ℕ) (fields : List (List ℕ)) → ((t : ℕ) → IsStart fields t → ⊥) → InGrammar form ((n, fields) ∷ []) → ⊥
bad_start form n fields none (inl empty) = cc
bad_start form n fields none (inr (start, written, t)) =
    let text = t.text in
    let same : (n, fields) ≡ (t.start_line, start_fields start) = cc in
    none start (ap (λ (line : ℕ × List (List ℕ)). line.1) same, t.first)

-- a front of the lines of items are the lines of some of these items
front_items : (form : Form) (xs ys : List (ℕ × List (List ℕ))) (written : List (ℕ × Item)) → xs ++ ys ≡ map line_of written → AllKnown form written → (front : List (ℕ × Item)) × (xs ≡ map line_of front) × AllKnown form front
front_items form [] ys written e all = ([], refl, tt)
front_items form (x ∷ xs) ys [] e all = cc
front_items form (x ∷ xs) ys (item ∷ written) e all =
    let rest : xs ++ ys ≡ map line_of written = cc in
    let first : x ≡ line_of item = cc in
    let found = front_items form xs ys written rest all.1 in
    (item ∷ found.0, ap (λ (l : ℕ × List (List ℕ)). l ∷ xs) first ∙ ap (λ (ls : List (ℕ × List (List ℕ))). line_of item ∷ ls) found.1, (all.0, found.2))

-- each front of the lines of a trace begins a trace
pub front-in_grammar : (form : Form) (xs ys : List (ℕ × List (List ℕ))) (start : ℕ) (written : List (ℕ × Item)) → Spells form (xs ++ ys) start written → InGrammar form xs
front-in_grammar form [] ys start written s = inl refl
front-in_grammar form (x ∷ xs) ys start written s =
    let text : x ∷ (xs ++ ys) ≡ (s.start_line, start_fields start) ∷ map line_of written = s.text in
    let first : x ≡ (s.start_line, start_fields start) = cc in
    let rest : xs ++ ys ≡ map line_of written = cc in
    let found = front_items form xs ys written rest s.each in
    inr (start, found.0, record { start_line = s.start_line; text = ap (λ (l : ℕ × List (List ℕ)). l ∷ xs) first ∙ ap (λ (ls : List (ℕ × List (List ℕ))). (s.start_line, start_fields start) ∷ ls) found.1; first = s.first; each = found.2 })
