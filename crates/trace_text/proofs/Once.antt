-- A text is judged in one way only: it is one trace, or bad at one line, or too long at one line.
use Rattle.std.proofs.Common.{◌≡◌, ◌∙◌, ℕ, List, [], ◌∷◌, ◌++◌, refl, ap, sym, subst, arith, append_assoc, append-nil, inl, inr}
use Rattle.trace_model.specs.declared.Item.{Item}
use Rattle.trace_model.specs.Trace.{total_seconds}
use Rattle.trace_text.specs.declared.lines_trace.Form.{Form}
use Rattle.trace_text.specs.Text.{counted}
use Rattle.trace_text.specs.Trace.{Spells, IsTraceOf, InGrammar, BeginsWell, items_of, opened, ended}
use Rattle.trace_text.specs.Judged.{IsFirstBad, bad_line, no_start, IsFirstTooLong, IsPassedAt, items_before}
use Rattle.trace_text.proofs.Grammar.{no_push, spells-some, spells-front, spells-one, front-in_grammar}
use Rattle.trace_text.proofs.PutIn.{before-front}
use Rattle.trace_text.proofs.Passed.{passed-front, passed-one, not_passed}

-- a line that counts: its number and its fields
abbrev Counted : Type 0
Counted = ℕ × List (List ℕ)

-- of two fronts of the same lines one goes on with the other
data Fronts (front behind front' behind' : List Counted) : Type 0 where
  within : (mid : List Counted) → front' ≡ front ++ mid → behind ≡ mid ++ behind' → Fronts front behind front' behind'
  beyond : (line : Counted) (mid : List Counted) → front ≡ front' ++ line ∷ mid → behind' ≡ line ∷ (mid ++ behind) → Fronts front behind front' behind'

fronts : (front behind front' behind' : List Counted) → front ++ behind ≡ front' ++ behind' → Fronts front behind front' behind'
fronts [] behind front' behind' e = within front' refl e
fronts (x ∷ front) behind [] behind' e = beyond x front refl (sym e)
fronts (x ∷ front) behind (y ∷ front') behind' e =
    let a : x ≡ y = cc in
    let b : front ++ behind ≡ front' ++ behind' = cc in
    under a (fronts front behind front' behind' b)
  where
    under : x ≡ y → Fronts front behind front' behind' → Fronts (x ∷ front) behind (y ∷ front') behind'
    under a (within mid p q) = within mid (rw (a, p) refl) q
    under a (beyond line mid p q) = beyond line mid (rw (a, p) refl) q

-- where a limit is passed before some lines, it is passed at the same line behind them
passed-on : (form : Form) (front mid behind : List Counted) (start start' n : ℕ) (xs ys : List (ℕ × Item)) → Spells form front start xs → Spells form (front ++ mid) start' ys → IsPassedAt start 0 (items_before (mid ++ behind) xs) n → (start ≡ start') × IsPassedAt start 0 (items_before behind ys) n
passed-on form front [] behind start start' n xs ys s t p =
    let P : List Counted → Type 0 = λ ls. Spells form ls start' ys in
    let same = spells-one form front start start' xs ys s (subst P (append-nil front) t) in
    let Q : List (ℕ × Item) → Type 0 = λ is. IsPassedAt start 0 (items_before behind is) n in
    (same.0, subst Q same.1 p)
passed-on form front (line ∷ mid) behind start start' n xs ys s t p =
    let g = spells-front form front (line ∷ mid) start start' xs ys s t in
    let more = before-front behind xs g.rest in
    let items : items_before behind ys ≡ opened xs ++ more.0 = ap (items_before behind) g.items_are ∙ more.1 in
    let P : List (ℕ × Item) → Type 0 = λ is. IsPassedAt start 0 is n in
    (g.same_start, subst P (sym items) (passed-front start 0 (opened xs) more.0 n p))

-- where the lines of one are a front of those of the other, both are passed at one line
long-within : (form : Form) (lines : List (List ℕ)) (n m : ℕ) (l : IsFirstTooLong form lines n) (k : IsFirstTooLong form lines m) (mid : List Counted) → k.front ≡ l.front ++ mid → l.behind ≡ mid ++ k.behind → n ≡ m
long-within form lines n m l k mid p q =
    let P : List Counted → Type 0 = λ ls. Spells form ls k.start k.written in
    let Q : List Counted → Type 0 = λ ls. IsPassedAt l.start 0 (items_before ls l.written) n in
    let on = passed-on form l.front mid k.behind l.start k.start n l.written k.written l.spells (subst P p k.spells) (subst Q q l.passed) in
    let R : ℕ → Type 0 = λ start. IsPassedAt start 0 (items_before k.behind k.written) n in
    passed-one k.start 0 (items_before k.behind k.written) n m (subst R on.0 on.1) k.passed

-- the first line that is too long is one
pub long-one : (form : Form) (lines : List (List ℕ)) (n m : ℕ) → IsFirstTooLong form lines n → IsFirstTooLong form lines m → n ≡ m
long-one form lines n m l k = by_fronts (fronts l.front l.behind k.front k.behind (sym l.split ∙ k.split))
  where
    by_fronts : Fronts l.front l.behind k.front k.behind → n ≡ m
    by_fronts (within mid p q) = long-within form lines n m l k mid p q
    by_fronts (beyond line mid p q) = sym (long-within form lines m n k l (line ∷ mid) p q)

-- a trace passes no limit
pub no_too_long : (form : Form) (lines : List (List ℕ)) (start n : ℕ) (items : List Item) → IsTraceOf form lines start items → IsFirstTooLong form lines n → ⊥
no_too_long form lines start n items t l =
    let P : List Counted → Type 0 = λ ls. Spells form ls start t.written in
    let Q : List Counted → Type 0 = λ ls. IsPassedAt l.start 0 (items_before ls l.written) n in
    let on = passed-on form l.front l.behind [] l.start start n l.written t.written l.spells (subst P l.split t.spells) (subst Q (sym (append-nil l.behind)) l.passed) in
    let total : total_seconds items ≡ total_seconds (items_of (ended t.written)) = ap total_seconds t.items_are in
    not_passed l.start 0 (total_seconds items) (ended t.written) n (omega (arith, total)) (omega (arith, t.within.0), omega (arith, t.within.1, on.0)) on.1

-- the lines before one, and it
with_it : (before after : List Counted) (line : Counted) → before ++ line ∷ after ≡ (before ++ line ∷ []) ++ after
with_it before after line = sym (append_assoc before (line ∷ []) after)

-- what begins well is in the grammar, and so are its fronts
well-in_grammar : (form : Form) (xs ys : List Counted) → BeginsWell form (xs ++ ys) → InGrammar form xs
well-in_grammar form [] ys well = inl refl
well-in_grammar form (x ∷ xs) ys (inl none) = cc
well-in_grammar form (x ∷ xs) ys (inr (start, written, s, w)) = front-in_grammar form (x ∷ xs) ys start written s

-- a trace has no bad line
pub no_bad_line : (form : Form) (lines : List (List ℕ)) (start n : ℕ) (items : List Item) → IsTraceOf form lines start items → IsFirstBad form lines n → ⊥
no_bad_line form lines start n items t (bad_line before fields after split well bad) =
    let P : List Counted → Type 0 = λ ls. Spells form ls start t.written in
    bad (front-in_grammar form (before ++ (n, fields) ∷ []) after start t.written (subst P (split ∙ with_it before after (n, fields)) t.spells))
no_bad_line form lines start n items t (no_start none number) = spells-some form (counted lines) start t.written t.spells none

-- the first bad line is one
pub bad-one : (form : Form) (lines : List (List ℕ)) (n m : ℕ) → IsFirstBad form lines n → IsFirstBad form lines m → n ≡ m
bad-one form lines n m (no_start none number) (no_start none' number') = number ∙ sym number'
bad-one form lines n m (no_start none number) (bad_line before fields after split well bad) = absurd (no_push before after (m, fields) (sym split ∙ none))
bad-one form lines n m (bad_line before fields after split well bad) (no_start none number) = absurd (no_push before after (n, fields) (sym split ∙ none))
bad-one form lines n m (bad_line before fields after split well bad) (bad_line before' fields' after' split' well' bad') =
    by_fronts (fronts before ((n, fields) ∷ after) before' ((m, fields') ∷ after') (sym split ∙ split'))
  where
    by_fronts : Fronts before ((n, fields) ∷ after) before' ((m, fields') ∷ after') → n ≡ m
    by_fronts (within [] p q) = let e : (n, fields) ≡ (m, fields') = cc in ap (λ (line : Counted). line.0) e
    by_fronts (within (line ∷ mid) p q) =
        let e : (n, fields) ≡ line = cc in
        let P : List Counted → Type 0 = λ ls. BeginsWell form ls in
        absurd (bad (well-in_grammar form (before ++ (n, fields) ∷ []) mid (subst P (p ∙ ap (λ (l : Counted). before ++ l ∷ mid) (sym e) ∙ with_it before mid (n, fields)) well')))
    by_fronts (beyond line mid p q) =
        let e : (m, fields') ≡ line = cc in
        let P : List Counted → Type 0 = λ ls. BeginsWell form ls in
        absurd (bad' (well-in_grammar form (before' ++ (m, fields') ∷ []) mid (subst P (p ∙ ap (λ (l : Counted). before' ++ l ∷ mid) (sym e) ∙ with_it before' mid (m, fields')) well)))

-- a first bad line and a first line that is too long are not both there
pub bad-not_long : (form : Form) (lines : List (List ℕ)) (n m : ℕ) → IsFirstBad form lines n → IsFirstTooLong form lines m → ⊥
bad-not_long form lines n m (no_start none number) l =
    spells-some form l.front l.start l.written l.spells (front-none l.front l.behind (sym l.split ∙ none))
  where
    front-none : (xs ys : List Counted) → xs ++ ys ≡ [] → xs ≡ []
    front-none [] ys e = refl
    front-none (x ∷ xs) ys e = cc
bad-not_long form lines n m (bad_line before fields after split well bad) l =
    by_fronts (fronts l.front l.behind before ((n, fields) ∷ after) (sym l.split ∙ split))
  where
    by_well : (mid : List Counted) → before ≡ l.front ++ mid → l.behind ≡ mid ++ (n, fields) ∷ after → BeginsWell form before → ⊥
    by_well mid p q (inl none) =
        let text = l.spells.text in let e : l.front ++ mid ≡ [] = sym p ∙ none in cc
    by_well mid p q (inr (start, written, s, w)) =
        let P : List Counted → Type 0 = λ ls. Spells form ls start written in
        let Q : List Counted → Type 0 = λ ls. IsPassedAt l.start 0 (items_before ls l.written) m in
        let on = passed-on form l.front mid ((n, fields) ∷ after) l.start start m l.written written l.spells (subst P p s) (subst Q q l.passed) in
        not_passed l.start 0 (total_seconds (items_of (opened written))) (opened written) m (omega arith) (omega (arith, w.0), omega (arith, w.1, on.0)) on.1

    by_fronts : Fronts l.front l.behind before ((n, fields) ∷ after) → ⊥
    by_fronts (within mid p q) = by_well mid p q well
    by_fronts (beyond line mid p q) =
        let e : (n, fields) ≡ line = cc in
        let P : List Counted → Type 0 = λ ls. Spells form ls l.start l.written in
        bad (front-in_grammar form (before ++ (n, fields) ∷ []) mid l.start l.written (subst P (p ∙ ap (λ (l : Counted). before ++ l ∷ mid) (sym e) ∙ with_it before mid (n, fields)) l.spells))

-- the lines of a trace are those of one
pub trace-one : (form : Form) (lines : List (List ℕ)) (start start' : ℕ) (items items' : List Item) → IsTraceOf form lines start items → IsTraceOf form lines start' items' → (start ≡ start') × (items ≡ items')
trace-one form lines start start' items items' t u =
    let same = spells-one form (counted lines) start start' t.written u.written t.spells u.spells in
    (same.0, t.items_are ∙ ap (λ (written : List (ℕ × Item)). items_of (ended written)) same.1 ∙ sym u.items_are)
