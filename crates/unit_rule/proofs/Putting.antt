-- A moment of the putting of an entry, as the image says it, is one of the rule's putting.
use Rattle.std.proofs.Common.{◌≡◌, ◌≢◌, ◌⊎◌, inl, inr, ℕ, ◌%◌, ◌<◌, ◌≤◌, false, List, [], ◌∷◌, ◌++◌, Option, Some, None, option_map, filter, fold, All, refl, ap, sym, subst, ◌∙◌, arith}
use Rattle.std.specs.Prelude.{slice_set}
use Rattle.unit_minutes.specs.activity_codec.declared.entries.Entry.{Entry}
use Rattle.unit_minutes.specs.activity_codec.declared.words.Change.{Change}
use Rattle.unit_minutes.proofs.activity_codec.WordLemmas.{change_of-word_of}
use Rattle.run_unit_course.specs.trace_model.declared.Card.TheVariants.{A, B}
use Rattle.tach_media.specs.Medium.{SameOutside}
use Rattle.unit_minutes.specs.gated_ring.Ring.{PointsInside}
use Rattle.unit_minutes.specs.unit_model.declared.layout.TheConstants.{OWED}
use Rattle.unit_minutes.specs.unit_model.Image.{day_ring}
use Rattle.unit_minutes.specs.unit_owed.Owed.{Cell, OwedRow, Row, rows_in, row_in, row_index, entry_of, cell_entries, placed, in_order, seen_row, row_view}
use Rattle.unit_minutes.specs.unit_owed.Rows.{entry_word, with_cell, IsPuttingCell, IsPutting as IsPuttingRow, OwedRowHas as IsPutRow, HasRow}
use Rattle.unit_minutes.proofs.unit_owed.Laws.{view_by_row}
use Rattle.safety_model.specs.device_rule.Views.{unit_view}
use Rattle.safety_model.specs.device_rule.Steps.{IsPutting, UnitOwes, cleared, owing}
use Rattle.safety_model.proofs.device_rule.OwedView.{filter-fold}
use Rattle.unit_rule.proofs.Cells.{elsewhere, cleared_cells, put_cells, before_all, ordered_back, ordered_last}
use Rattle.unit_rule.proofs.Beginning.{last_same, recorded_same}

-- the cell of an entry tells the entry
cell_tells : (e : Entry) → entry_of (record { minute = e.minute; word = entry_word e }) ≡ e
cell_tells e =
    let change : Change = record { slot = e.slot; crew_or_known = e.crew; absent = false; act = e.act; minute = e.minute % 1440 } in
    ap (λ (ch : Change). record { minute = e.minute; slot = ch.slot; crew = ch.crew_or_known; act = ch.act }) (change_of-word_of change (omega arith))

-- a row, with the cells at their four places
module _ (e : Entry) (rows : List ℕ) (r : ℕ) where
  abbrev row : OwedRow
  row = row_in rows r

  abbrev p : ℕ
  p = e.minute % 4

  without : (word : ℕ) → filter (elsewhere p) (in_order (cell_entries 0 row.cells)) ≡ in_order (cell_entries 0 (slice_set row.cells p (record { minute = 0; word = word })))
  without word = filter-fold (elsewhere p) [] (cell_entries 0 row.cells) tt ∙ ap in_order (cleared_cells p p 0 word row.cells (omega arith) (omega arith))

  pub cleared_row : (word : ℕ) → seen_row (Some (with_cell p (record { minute = 0; word = word }) row)) ≡ cleared e (seen_row (Some row))
  cleared_row word = ap (λ (es : List Entry). record { session = row.session; cells = es }) (sym (without word))

  pub owing_row : 1440 ≤ e.minute → All (λ d. d.minute < e.minute) (cleared e (seen_row (Some row))).cells → seen_row (Some (with_cell p (record { minute = e.minute; word = entry_word e }) row)) ≡ owing e (seen_row (Some row))
  owing_row late all =
      let d : Cell = record { minute = e.minute; word = entry_word e } in
      let between = put_cells p p 0 0 d row.cells (omega arith) (omega arith) refl late in
      let ordered : fold placed [] (between.before ++ between.after) ≡ (cleared e (seen_row (Some row))).cells = ap in_order (sym between.others) ∙ sym (without 0) in
      let earlier = (ordered_back e.minute [] (between.before ++ between.after) (before_all e.minute (fold placed [] (between.before ++ between.after)) (subst (λ (es : List Entry). All (λ d. d.minute < e.minute) es) (sym ordered) all))).1 in
      ap (λ (es : List Entry). record { session = row.session; cells = es })
      (ap in_order (between.is ∙ ap (λ (f : Entry). between.before ++ f ∷ between.after) (cell_tells e))
      ∙ ordered_last e [] between.before between.after tt earlier ∙ ap (λ (es : List Entry). es ++ e ∷ []) ordered)

-- the number's row, as the card sees it
pub seen_at : (number x : List ℕ) (o : Option ℕ) → row_index number (rows_in x) ≡ o → row_view number x ≡ seen_row (option_map (row_in (rows_in x)) o)
unfolding row_view
seen_at number x o is = ap (λ (q : Option ℕ). seen_row (option_map (row_in (rows_in x)) q)) is

module _ (number : List ℕ) (e : Entry) (x c : List ℕ) (late : 1440 ≤ e.minute) (all : All (λ d. d.minute < e.minute) (cleared e (row_view number x)).cells) where
  abbrev Seen : Type 0
  Seen = (row_view number c ≡ row_view number x) ⊎ ((row_view number c ≡ cleared e (row_view number x)) ⊎ (row_view number c ≡ owing e (row_view number x)))

  by_cell : (r : ℕ) → row_view number x ≡ seen_row (Some (row_in (rows_in x) r)) → row_view number c ≡ seen_row (Some (row_in (rows_in c) r)) → IsPuttingCell e (row_in (rows_in x) r) (row_in (rows_in c) r) → Seen
  by_cell r old new (inl same) = inl (new ∙ ap (λ (w : OwedRow). seen_row (Some w)) same ∙ sym old)
  by_cell r old new (inr (inl shut)) = inr (inl (new ∙ ap (λ (w : OwedRow). seen_row (Some w)) shut.1 ∙ cleared_row e (rows_in x) r shut.0 ∙ ap (cleared e) (sym old)))
  by_cell r old new (inr (inr put)) = inr (inr (new ∙ ap (λ (w : OwedRow). seen_row (Some w)) put
      ∙ owing_row e (rows_in x) r late (subst (λ (w : Row). All (λ d. d.minute < e.minute) (cleared e w).cells) old all) ∙ ap (owing e) (sym old)))

  by_index : IsPuttingRow number e x c → (o : Option ℕ) → row_index number (rows_in x) ≡ o → Seen
  by_index is None none = inl (seen_at number c None (is.indices number ∙ none) ∙ sym (seen_at number x None none))
  by_index is (Some r) some = by_cell r (seen_at number x (Some r) some) (seen_at number c (Some r) (is.indices number ∙ some)) (is.own r some)

  pub own_seen : IsPuttingRow number e x c → Seen
  own_seen is = by_index is (row_index number (rows_in x)) refl

  -- at the end of a putting into a number that has a row, the entry stands behind the others
  pub own_put : HasRow number x → IsPutRow number e x c → row_view number c ≡ owing e (row_view number x)
  own_put has is =
      let old = seen_at number x (Some has.0) has.1 in
      seen_at number c (Some has.0) (is.putting.indices number ∙ has.1) ∙ ap (λ (w : OwedRow). seen_row (Some w)) (is.entry has.0 has.1)
      ∙ owing_row e (rows_in x) has.0 late (subst (λ (w : Row). All (λ d. d.minute < e.minute) (cleared e w).cells) old all) ∙ ap (owing e) (sym old)

module _ (a b : List ℕ) (e : Entry) (x c : List ℕ) (apart : a ≢ b) (known : PointsInside day_ring x) (late : 1440 ≤ e.minute) where
  back : b ≢ a
  back is = apart (sym is)

  with_row_a : SameOutside OWED.place OWED.size x c → row_view b c ≡ row_view b x → (w : Row) → row_view a c ≡ w → unit_view a b c ≡ record (unit_view a b x) { row_a = w }
  unfolding unit_view
  with_row_a outside other w is = λ t. record { days = recorded_same x c outside known t; last = last_same x c outside t; row_a = is t; row_b = other t }

  with_row_b : SameOutside OWED.place OWED.size x c → row_view a c ≡ row_view a x → (w : Row) → row_view b c ≡ w → unit_view a b c ≡ record (unit_view a b x) { row_b = w }
  unfolding unit_view
  with_row_b outside other w is = λ t. record { days = recorded_same x c outside known t; last = last_same x c outside t; row_a = other t; row_b = is t }

  first_by : SameOutside OWED.place OWED.size x c → row_view b c ≡ row_view b x → (row_view a c ≡ row_view a x) ⊎ ((row_view a c ≡ cleared e (row_view a x)) ⊎ (row_view a c ≡ owing e (row_view a x))) → IsPutting A e (unit_view a b x) (unit_view a b c)
  unfolding unit_view
  first_by outside other (inl same) = inl (with_row_a outside other (row_view a x) same)
  first_by outside other (inr (inl shut)) = inr (inl (with_row_a outside other (cleared e (row_view a x)) shut))
  first_by outside other (inr (inr put)) = inr (inr (with_row_a outside other (owing e (row_view a x)) put))

  second_by : SameOutside OWED.place OWED.size x c → row_view a c ≡ row_view a x → (row_view b c ≡ row_view b x) ⊎ ((row_view b c ≡ cleared e (row_view b x)) ⊎ (row_view b c ≡ owing e (row_view b x))) → IsPutting B e (unit_view a b x) (unit_view a b c)
  unfolding unit_view
  second_by outside other (inl same) = inl (with_row_b outside other (row_view b x) same)
  second_by outside other (inr (inl shut)) = inr (inl (with_row_b outside other (cleared e (row_view b x)) shut))
  second_by outside other (inr (inr put)) = inr (inr (with_row_b outside other (owing e (row_view b x)) put))

  pub first_putting : All (λ d. d.minute < e.minute) (cleared e (row_view a x)).cells → IsPuttingRow a e x c → IsPutting A e (unit_view a b x) (unit_view a b c)
  first_putting all is = first_by is.outside (view_by_row x c b (is.others b back)) (own_seen a e x c late all is)

  pub second_putting : All (λ d. d.minute < e.minute) (cleared e (row_view b x)).cells → IsPuttingRow b e x c → IsPutting B e (unit_view a b x) (unit_view a b c)
  second_putting all is = second_by is.outside (view_by_row x c a (is.others a apart)) (own_seen b e x c late all is)

  pub first_put : All (λ d. d.minute < e.minute) (cleared e (row_view a x)).cells → HasRow a x → IsPutRow a e x c → UnitOwes A e (unit_view a b x) (unit_view a b c)
  unfolding unit_view
  first_put all has is = with_row_a is.putting.outside (view_by_row x c b (is.putting.others b back)) (owing e (row_view a x)) (own_put a e x c late all has is)

  pub second_put : All (λ d. d.minute < e.minute) (cleared e (row_view b x)).cells → HasRow b x → IsPutRow b e x c → UnitOwes B e (unit_view a b x) (unit_view a b c)
  unfolding unit_view
  second_put all has is = with_row_b is.putting.outside (view_by_row x c a (is.putting.others a apart)) (owing e (row_view b x)) (own_put b e x c late all has is)
