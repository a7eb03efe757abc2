-- A moment of a mend, and its end, as the image says them, are steps of the rule: cells that are later than the last-kept minute go.
use Rattle.std.proofs.Common.{◌≡◌, ℕ, ◌+◌, ◌*◌, ◌<◌, ◌≤◌, Bool, true, false, cond, List, [], ◌∷◌, Option, Some, None, option_map, take, drop, filter, refl, sym, ◌∙◌, ap, arith}
use Rattle.std.specs.Prelude.{nat_le}
use Rattle.std.proofs.lemmas.Bool.Decides.{nat_tests}
use Rattle.unit_minutes.specs.activity_codec.declared.entries.Entry.{Entry}
use Rattle.run_unit_course.specs.trace_model.declared.Card.{Card}
use Rattle.run_unit_course.specs.trace_model.declared.Card.TheVariants.{A, B}
use Rattle.tach_media.specs.Medium.{bytes_at}
use Rattle.unit_minutes.specs.unit_model.declared.layout.TheConstants.{LAST_KEPT, OWED}
use Rattle.unit_minutes.specs.unit_model.Image.{last_kept, recorded}
use Rattle.unit_minutes.specs.unit_model.Decoding.{cell_minute}
use Rattle.unit_minutes.proofs.unit_model.Numbers.{number_same, part_in}
use Rattle.unit_minutes.specs.unit_owed.Owed.{Cell, Row, rows_in, row_in, cell_in, is_row_of, row_index, entry_of, holds, cell_entries, in_order, seen_row, row_view}
use Rattle.unit_minutes.proofs.unit_owed.Putting.{found_below}
use Rattle.unit_minutes.proofs.unit_owed.Mending.{HasRowsKept, kept_low, minute_is, session_same, index_same, cells_same}
use Rattle.unit_minutes.specs.declared.notes.Notes.{Notes}
use Rattle.unit_minutes.specs.Mends.{SameButRowsAndSlots, IsMending as IsMendingImage, IsMended as IsMendedImage}
use Rattle.unit_minutes.proofs.MendedOwed.{rows_mending, rows_mended}
use Rattle.safety_model.specs.device_rule.Views.{row, unit_view}
use Rattle.safety_model.specs.device_rule.Steps.{IsMending, IsMended, settled_cells}
use Rattle.safety_model.proofs.device_rule.OwedView.{filter-fold}
use Rattle.unit_rule.proofs.Putting.{seen_at}

le_false : (a b : ℕ) → b < a → nat_le a b ≡ false
le_false a b is = grind (arith, nat_tests)

le_true : (a b : ℕ) → a ≤ b → nat_le a b ≡ true
le_true a b is = grind (arith, nat_tests)

-- an entry is not later than the last-kept minute
abbrev settled : ℕ → Entry → Bool
settled kept e = nat_le e.minute kept

module _ (kept : ℕ) where
  -- a cell that is not later stays
  stays : (i : ℕ) (c : Cell) (cs : List Cell) → c.minute ≤ kept → filter (settled kept) (cell_entries (i + 1) cs) ≡ cell_entries (i + 1) cs → filter (settled kept) (cell_entries i (c ∷ cs)) ≡ cell_entries i (c ∷ cs)
  stays i c cs le rest = by (holds i c)
    where
      by : (h : Bool) → filter (settled kept) (cond h (entry_of c ∷ cell_entries (i + 1) cs) (cell_entries (i + 1) cs)) ≡ cond h (entry_of c ∷ cell_entries (i + 1) cs) (cell_entries (i + 1) cs)
      by true = (λ t. cond (le_true c.minute kept le t) (entry_of c ∷ filter (settled kept) (cell_entries (i + 1) cs)) (filter (settled kept) (cell_entries (i + 1) cs))) ∙ ap (λ (l : List Entry). entry_of c ∷ l) rest
      by false = rest

-- images whose rows have the same heads and words, and whose cells are kept
module _ (x c : List ℕ) (rows : HasRowsKept x c) where
  cells_settled : (r : ℕ) → r < 8 → filter (settled (last_kept x)) (cell_entries 0 (row_in (rows_in c) r).cells) ≡ filter (settled (last_kept x)) (cell_entries 0 (row_in (rows_in x) r).cells)
  cells_settled = cells_same x c rows (settled (last_kept x)) (λ e late. le_false e.minute (last_kept x) late)

  in_row : (r : ℕ) → r < 8 → settled_cells (last_kept x) (seen_row (Some (row_in (rows_in c) r))) ≡ settled_cells (last_kept x) (seen_row (Some (row_in (rows_in x) r)))
  in_row r low =
      filter-fold (settled (last_kept x)) [] (cell_entries 0 (row_in (rows_in c) r).cells) tt ∙ ap in_order (cells_settled r low)
      ∙ sym (filter-fold (settled (last_kept x)) [] (cell_entries 0 (row_in (rows_in x) r).cells) tt)

  -- a number's row has the same session, and says the same up to the last-kept minute
  seen_c : (number : List ℕ) (o : Option ℕ) → row_index number (rows_in x) ≡ o → row_view number c ≡ seen_row (option_map (row_in (rows_in c)) o)
  seen_c number o is = seen_at number c o (index_same x c rows number ∙ is)

  sessions : (number : List ℕ) (o : Option ℕ) → row_index number (rows_in x) ≡ o → (row_view number c).session ≡ (row_view number x).session
  sessions number None is = ap (λ (w : Row). w.session) (seen_c number None is ∙ sym (seen_at number x None is))
  sessions number (Some r) is =
      let low = found_below (is_row_of number (rows_in x)) 0 8 r is in
      ap (λ (w : Row). w.session) (seen_c number (Some r) is) ∙ session_same x c rows r low ∙ ap (λ (w : Row). w.session) (sym (seen_at number x (Some r) is))

  cells : (number : List ℕ) (o : Option ℕ) → row_index number (rows_in x) ≡ o → settled_cells (last_kept x) (row_view number c) ≡ settled_cells (last_kept x) (row_view number x)
  cells number None is = ap (settled_cells (last_kept x)) (seen_c number None is ∙ sym (seen_at number x None is))
  cells number (Some r) is =
      let low = found_below (is_row_of number (rows_in x)) 0 8 r is in
      ap (settled_cells (last_kept x)) (seen_c number (Some r) is) ∙ in_row r low ∙ ap (settled_cells (last_kept x)) (sym (seen_at number x (Some r) is))

  -- where no cell is later, these are all
  module _ (none : (n : ℕ) → n < 32 → cell_minute c n ≤ last_kept x) where
    all_settled : (r : ℕ) → r < 8 → filter (settled (last_kept x)) (cell_entries 0 (row_in (rows_in c) r).cells) ≡ cell_entries 0 (row_in (rows_in c) r).cells
    all_settled r low =
        let k = last_kept x in
        let now = cell_in (rows_in c) r in
        let le : (j : ℕ) → j < 4 → (now j).minute ≤ k = λ j few. omega (arith, minute_is c r j low few, none (r * 4 + j) (omega (arith, low, few))) in
        stays k 0 (now 0) (now 1 ∷ now 2 ∷ now 3 ∷ []) (le 0 (omega arith)) (stays k 1 (now 1) (now 2 ∷ now 3 ∷ []) (le 1 (omega arith)) (stays k 2 (now 2) (now 3 ∷ []) (le 2 (omega arith)) (stays k 3 (now 3) [] (le 3 (omega arith)) refl)))

    only : (number : List ℕ) (o : Option ℕ) → row_index number (rows_in x) ≡ o → (row_view number c).cells ≡ settled_cells (last_kept x) (row_view number x)
    only number None is = ap (λ (w : Row). w.cells) (seen_c number None is) ∙ ap (settled_cells (last_kept x)) (sym (seen_at number x None is))
    only number (Some r) is =
        let low = found_below (is_row_of number (rows_in x)) 0 8 r is in
        ap (λ (w : Row). w.cells) (seen_c number (Some r) is)
        ∙ ap in_order (sym (all_settled r low)) ∙ sym (filter-fold (settled (last_kept x)) [] (cell_entries 0 (row_in (rows_in c) r).cells) tt)
        ∙ in_row r low ∙ ap (settled_cells (last_kept x)) (sym (seen_at number x (Some r) is))

drop_none : (l : List ℕ) → drop 0 l ≡ l
drop_none [] = refl
drop_none (n ∷ l) = refl

front : (l : List ℕ) → bytes_at l 0 OWED.place ≡ take OWED.place l
front l = ap (λ (k : List ℕ). take OWED.place k) (drop_none l)

last_same : (x c : List ℕ) → SameButRowsAndSlots x c → last_kept c ≡ last_kept x
unfolding last_kept
last_same x c s =
    let fronts : bytes_at c 0 OWED.place ≡ bytes_at x 0 OWED.place = front c ∙ s.before ∙ sym (front x) in
    number_same x c LAST_KEPT.place LAST_KEPT.size (sym (part_in c 0 OWED.place LAST_KEPT.place LAST_KEPT.size (omega arith)) ∙ ap (λ (l : List ℕ). bytes_at l LAST_KEPT.place LAST_KEPT.size) fronts ∙ part_in x 0 OWED.place LAST_KEPT.place LAST_KEPT.size (omega arith))

module _ (a b : List ℕ) (x c : List ℕ) where
  each_session : ((number : List ℕ) → (row_view number c).session ≡ (row_view number x).session) → (k : Card) → (row k (unit_view a b c)).session ≡ (row k (unit_view a b x)).session
  unfolding unit_view
  each_session session A = session a
  each_session session B = session b

  each_settled : ((number : List ℕ) → settled_cells (last_kept x) (row_view number c) ≡ settled_cells (last_kept x) (row_view number x)) → (k : Card) → settled_cells (last_kept x) (row k (unit_view a b c)) ≡ settled_cells (last_kept x) (row k (unit_view a b x))
  unfolding unit_view
  each_settled is A = is a
  each_settled is B = is b

  each_only : ((number : List ℕ) → (row_view number c).cells ≡ settled_cells (last_kept x) (row_view number x)) → (k : Card) → (row k (unit_view a b c)).cells ≡ settled_cells (last_kept x) (row k (unit_view a b x))
  unfolding unit_view
  each_only is A = is a
  each_only is B = is b

  views : recorded c ≡ recorded x → last_kept c ≡ last_kept x →
      ((number : List ℕ) → (row_view number c).session ≡ (row_view number x).session) →
      ((number : List ℕ) → settled_cells (last_kept x) (row_view number c) ≡ settled_cells (last_kept x) (row_view number x)) → IsMending (unit_view a b x) (unit_view a b c)
  unfolding unit_view
  views days last session is = record { days = days; last = last; session = each_session session; cells = each_settled is }

  pub mending_view : (j : Notes) → IsMendingImage j x c → IsMending (unit_view a b x) (unit_view a b c)
  mending_view j is =
      let rows = rows_mending j x c is in
      views is.minutes (last_same x c is.outside)
      (λ number. sessions x c rows number (row_index number (rows_in x)) refl)
      (λ number. cells x c rows number (row_index number (rows_in x)) refl)

  mended_views : IsMending (unit_view a b x) (unit_view a b c) → ((number : List ℕ) → (row_view number c).cells ≡ settled_cells (last_kept x) (row_view number x)) → IsMended (unit_view a b x) (unit_view a b c)
  unfolding unit_view
  mended_views mending is = record { mending = mending; only = each_only is }

  pub mended_view : IsMendedImage x c → IsMended (unit_view a b x) (unit_view a b c)
  mended_view is =
      let rows = rows_mended x c is in
      mended_views
      (views is.minutes (last_same x c is.outside)
      (λ number. sessions x c rows number (row_index number (rows_in x)) refl)
      (λ number. cells x c rows number (row_index number (rows_in x)) refl))
      (λ number. only x c rows (λ n below. kept_low (last_kept x) (cell_minute x n) (cell_minute c n) (is.cells n below)) number (row_index number (rows_in x)) refl)
