-- A note on the unit: the rules of the unit and of a card.
use Rattle.std.proofs.Common.{◌≡◌, inl, inr, ⊎_elim, ℕ, ◌+◌, ◌-◌, ◌≤◌, List, ap, subst, ◌∙◌, sym, arith}
use Rattle.std.specs.Prelude.{option_map}
use Rattle.activity_codec.specs.declared.entries.Entry.{Entry}
use Rattle.trace_model.specs.declared.Card.{Card}
use Rattle.trace_model.specs.declared.Card.TheVariants.{A, B}
use Rattle.card_layout.proofs.Images.{part_in}
use Rattle.tach_media.specs.Medium.{State, IsCoherent, LeavesOnly, bytes_at}
use Rattle.unit_minutes.specs.unit_model.Days.{ShownDay}
use Rattle.unit_minutes.specs.unit_model.Image.{recorded, last_kept}
use Rattle.unit_minutes.specs.unit_model.Decoding.{Decodes}
use Rattle.unit_minutes.specs.unit_model.declared.layout.TheConstants.{DAYS, FIRST_OVER, INSERTIONS, LAST_KEPT, ODOMETER, OWED, SPARE_COUNTS, SPARE_ROWS}
use Rattle.unit_minutes.proofs.unit_model.WholeDays.{decoded_of}
use Rattle.unit_minutes.specs.unit_owed.Owed.{rows_in, row_in, row_index, row_view, seen_row}
use Rattle.unit_minutes.specs.Beside.{SameJournal}
use Rattle.unit_minutes.proofs.Beside.{last_beside, recorded_beside}
use Rattle.unit_notes.specs.Journal.{KeepsJournal, LeavesJournal}
use Rattle.unit_rule.specs.log_model.declared.lines.Mark.{Mark}
use Rattle.unit_rule.specs.history_model.Book.{Book}
use Rattle.unit_rule.specs.device_rule.Views.{UnitView, unit_view, row}
use Rattle.unit_rule.specs.device_rule.Device.{LeavesViews}
use Rattle.unit_rule.specs.device_rule.Rules.{Standing}
use Rattle.unit_rule.proofs.device_rule.CardLaws.{dark-beside, rule-beside}
use Rattle.unit_rule.proofs.device_rule.Viewed.{seen-run}
use Rattle.unit_rule.specs.Rule.{Started}
use Rattle.unit_rule.specs.Marks.{UnitFollowsBook}
use Rattle.unit_rule.proofs.Moves.{issued-parts}
use Rattle.unit_rule.proofs.Elsewhere.{holds-elsewhere}
use Rattle.unit_rule.proofs.RowsOn.{rows-beside}
use Rattle.unit_rule.proofs.Found.{left-decodes}
use Rattle.device_calls.specs.Rule.{Both, opened, number_of, unit_seen, card_seen, AnyString, CardHolds, CardRests}

zero_more : (q : ℕ) → 0 + q ≡ q
zero_more q = omega arith

module _ (x c : List ℕ) (keeps : KeepsJournal x c) where
  front_part : (q n : ℕ) → q + n ≤ FIRST_OVER.place → bytes_at c q n ≡ bytes_at x q n
  front_part q n inside = subst (λ (p : ℕ). bytes_at c p n ≡ bytes_at x p n) (zero_more q) (sym (part_in c 0 FIRST_OVER.place q n inside) ∙ ap (λ (l : List ℕ). bytes_at l q n) keeps.front ∙ part_in x 0 FIRST_OVER.place q n inside)

  rest_part : (q n : ℕ) → q + n ≤ INSERTIONS.place - SPARE_COUNTS.place → bytes_at c (SPARE_COUNTS.place + q) n ≡ bytes_at x (SPARE_COUNTS.place + q) n
  rest_part q n inside =
      sym (part_in c SPARE_COUNTS.place (INSERTIONS.place - SPARE_COUNTS.place) q n inside) ∙ ap (λ (l : List ℕ). bytes_at l q n) keeps.rest
      ∙ part_in x SPARE_COUNTS.place (INSERTIONS.place - SPARE_COUNTS.place) q n inside

  pub same_journal : SameJournal x c
  same_journal = record {
    front = front_part LAST_KEPT.place (LAST_KEPT.size + ODOMETER.size) (omega arith);
    days = rest_part (DAYS.place - SPARE_COUNTS.place) DAYS.size (omega arith);
    same_length = keeps.same_length;
  }

  -- the spare bytes behind the counts, and behind the owed rows
  counts_noted : bytes_at c SPARE_COUNTS.place SPARE_COUNTS.size ≡ bytes_at x SPARE_COUNTS.place SPARE_COUNTS.size
  counts_noted = rest_part 0 SPARE_COUNTS.size (omega arith)

  spare_noted : bytes_at c SPARE_ROWS.place SPARE_ROWS.size ≡ bytes_at x SPARE_ROWS.place SPARE_ROWS.size
  spare_noted = rest_part (SPARE_ROWS.place - SPARE_COUNTS.place) SPARE_ROWS.size (omega arith)

  rows_noted : rows_in c ≡ rows_in x
  rows_noted = rest_part (OWED.place - SPARE_COUNTS.place) OWED.size (omega arith)

  -- what the unit shows stays
  pub view_noted : (a b : List ℕ) → Decodes x → unit_view a b c ≡ unit_view a b x
  unfolding unit_view row_view
  view_noted a b decodes =
      ap (λ (ds : List ShownDay). record { days = ds; last = last_kept c; row_a = row_view a c; row_b = row_view b c }) (recorded_beside x c same_journal (decoded_of x decodes).known)
      ∙ ap (λ (n : ℕ). record { days = recorded x; last = n; row_a = row_view a c; row_b = row_view b c }) (last_beside x c same_journal)
      ∙ ap (λ (rows : List ℕ). record { days = recorded x; last = last_kept x; row_a = seen_row (option_map (row_in rows) (row_index a rows)); row_b = seen_row (option_map (row_in rows) (row_index b rows)) }) rows_noted

pub noted-holds : (s : Started) {U V : State} (due : ℕ) (b : Book) (marks : List Mark) → IsCoherent U → LeavesOnly U V LeavesJournal → UnitFollowsBook s due b marks U → UnitFollowsBook s due b marks V
noted-holds s {U} {V} due b marks whole run h = holds-elsewhere s due b marks h whole LeavesJournal run (λ x c is. (
  same_journal x c is.keeps,
  issued-parts x c (front_part x c is.keeps 0 LAST_KEPT.place (omega arith)) (counts_noted x c is.keeps) (spare_noted x c is.keeps) is.keeps.spare,
  is.decodes,
)) (λ x c is. rows-beside s x c (rows_noted x c is.keeps) (last_beside x c (same_journal x c is.keeps)))

module _ (r : Both) (c : Card) (s : Started) (due : ℕ) (b : Book) (marks : List Mark) (z : Standing) {U V : State} (X : State) (whole : IsCoherent U) (h : UnitFollowsBook s due b marks U) (run : LeavesOnly U V LeavesJournal) where
  abbrev Same : UnitView → UnitView → Type 0
  Same u v = v ≡ u

  abbrev Decoded : List ℕ → List ℕ → Type 0
  Decoded x y = Decodes x × LeavesJournal x y

  decoded : LeavesOnly U V Decoded
  decoded = record {
    size = run.size;
    behind = run.behind;
    writable = run.writable;
    layers = run.layers;
    tells = run.tells;
    later = run.later;
    since = λ t y le left. ⊎_elim inl (λ here. inr (here.0, here.1, (left-decodes s due b marks U whole h here.0 (whole.is_left here.0 here.1), here.2))) (run.since t y le left);
    now = λ y left. ⊎_elim inl (λ here. inr (here.0, here.1, (left-decodes s due b marks U whole h here.0 (whole.is_left here.0 here.1), here.2))) (run.now y left);
    keeps = run.keeps;
  }

  stays : LeavesViews (unit_seen r U) (unit_seen r V) Same
  stays = seen-run (unit_view (number_of r A) (number_of r B)) Decoded Same U V whole decoded (λ x y both. view_noted x y both.1.keeps (number_of r A) (number_of r B) both.0)

  beside_ : (u v : UnitView) → Same u v → (v.last ≡ u.last) × (row c v ≡ row c u)
  beside_ u v same = (ap (λ (w : UnitView). w.last) same, ap (row c) same)

  pub noted-card : (m d : List Entry) → CardHolds r c b z m d U X → CardHolds r c b z m d V X
  noted-card m d rule = rule-beside c (opened r c).start AnyString {U = unit_seen r U} {V = unit_seen r V} {X = card_seen X} Same (opened r c).began b z m d stays beside_ rule

  pub noted-rests : CardRests r c b z U X → CardRests r c b z V X
  noted-rests rests = dark-beside c (opened r c).start AnyString {U = unit_seen r U} {V = unit_seen r V} {X = card_seen X} Same (opened r c).began b z stays beside_ rests
