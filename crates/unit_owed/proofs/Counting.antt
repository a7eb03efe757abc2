-- Cells that are looked through one after the other, and what is owed of a row.
use Rattle.std.proofs.Common.{◌≡◌, ℕ, ◌+◌, Bool, true, false, cond, List, [], ◌∷◌, ◌++◌, Option, Some, None, IfSome, refl, sym, ◌∙◌, ap, arith}
use Rattle.std.specs.Prelude.{fold, ◌&&◌, ◌==◌}
use Rattle.std.specs.List.{range_with_len}
use Rattle.std.proofs.lemmas.Bool.Decides.{nat_tests}
use Rattle.activity_codec.specs.declared.entries.Entry.{Entry}
use Rattle.unit_model.specs.Image.{last_kept}
use Rattle.unit_owed.specs.Owed.{Cell, cell_in, row_in, row_of, entry_of, holds, counts, counted, cell_entries, placed, in_order, owed_of, owed_to}
use Rattle.unit_owed.specs.Searching.{with_owed}
use Rattle.unit_owed.proofs.Finding.{range_next}

entries_behind : (step : List Entry → ℕ → List Entry) (start : List Entry) (l : List ℕ) (n : ℕ) → fold step start (l ++ n ∷ []) ≡ step (fold step start l) n
entries_behind step start [] n = refl
entries_behind step start (m ∷ l) n = entries_behind step (step start m) l n

pub entries_next : (step : List Entry → ℕ → List Entry) (n : ℕ) → fold step [] (range_with_len 0 (n + 1)) ≡ step (fold step [] (range_with_len 0 n)) n
entries_next step n = ap (fold step []) (range_next n) ∙ entries_behind step [] (range_with_len 0 n) n

-- one cell more
one_more : (session after kept : ℕ) (es : List Entry) (i : ℕ) (c : Cell) (cs : List Cell)
    → fold placed es (counted session after kept (cell_entries i (c ∷ cs))) ≡ fold placed (with_owed session after kept es i c) (counted session after kept (cell_entries (i + 1) cs))
one_more session after kept es i c cs = by (holds i c) (counts session after kept c.minute) refl
  where
    by : (h n : Bool) → counts session after kept c.minute ≡ n
        → fold placed es (counted session after kept (cond h (entry_of c ∷ cell_entries (i + 1) cs) (cell_entries (i + 1) cs))) ≡ fold placed (cond (h && n) (placed es (entry_of c)) es) (counted session after kept (cell_entries (i + 1) cs))
    by true true is = λ t. fold placed es (cond (is t) (entry_of c ∷ counted session after kept (cell_entries (i + 1) cs)) (counted session after kept (cell_entries (i + 1) cs)))
    by true false is = λ t. fold placed es (cond (is t) (entry_of c ∷ counted session after kept (cell_entries (i + 1) cs)) (counted session after kept (cell_entries (i + 1) cs)))
    by false n is = refl

pub cells_owed : (session after kept : ℕ) (rows : List ℕ) (r : ℕ)
    → fold (λ es i. with_owed session after kept es i (cell_in rows r i)) [] (range_with_len 0 4) ≡ in_order (counted session after kept (cell_entries 0 (row_in rows r).cells))
cells_owed session after kept rows r =
    let at = cell_in rows r in
    let step : List Entry → ℕ → List Entry = λ es i. with_owed session after kept es i (cell_in rows r i) in
    sym (one_more session after kept [] 0 (at 0) (at 1 ∷ at 2 ∷ at 3 ∷ [])
    ∙ one_more session after kept (step [] 0) 1 (at 1) (at 2 ∷ at 3 ∷ [])
    ∙ one_more session after kept (step (step [] 0) 1) 2 (at 2) (at 3 ∷ [])
    ∙ one_more session after kept (step (step (step [] 0) 1) 2) 3 (at 3) [])

pub session_true : (a b c : ℕ) → a ≡ b → a ≡ c → (b == c) ≡ true
session_true a b c one two = grind (arith, nat_tests, one, two)

pub owed_by : (x number : List ℕ) (session after : ℕ) → owed_of session after (last_kept x) (row_of number x) ≡ owed_to x number session after
unfolding owed_to
owed_by x number session after = refl

pub both_told : (o : Option (List ℕ)) (A B D : List ℕ → Type 0) → IfSome o A → IfSome o B → ((x : List ℕ) → A x → B x → D x) → IfSome o D
both_told None A B D a b all = tt
both_told (Some x) A B D a b all = all x a b
