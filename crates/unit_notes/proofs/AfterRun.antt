-- What the places of a type hold after the events of a run.
use Rattle.std.proofs.Common.{◌≡◌, ◌≢◌, ◌⊎◌, inl, inr, ⊎_elim, ℕ, zero, suc, ◌+◌, ◌-◌, ◌/◌, ◌<◌, ◌≤◌, Bool, true, false, cond, Option, Some, None, IfSome, List, [], ◌∷◌, ◌++◌, length, map, refl, sym, ◌∙◌, ap, subst, arith, All}
use Rattle.std.specs.Prelude.{◌==◌, nat_eq, nat_lt, nat_le, slice_set, slice_index_or}
use Rattle.std.specs.List.{list_all, list_any}
use Rattle.std.proofs.lemmas.Bool.{eqb-true, ltb-true, ltb-false, leb-true, le-leb, cases_eq}
use Rattle.std.proofs.lemmas.Simd.{map-map}
use Rattle.std.proofs.lemmas.List.{length-map, map-set, length-set, get_or-map, get_or-set_same, get_or-set_other}
use Rattle.std.proofs.Math.Seq.{map-set_same}
use Rattle.std.proofs.lemmas.List.Elements.{All-nil, All-cons, All-head, All-tail}
use Rattle.std.proofs.lemmas.List.Quantifiers.{position-Some}
use Rattle.std.proofs.lemmas.List.Sorted.{IsPermutation-refl}
use Rattle.card_layout.specs.Fields.{total_width, number_in}
use Rattle.card_layout.specs.Images.{big_number, number_at}
use Rattle.trace_model.specs.declared.Card.{Card}
use Rattle.event_model.specs.declared.kinds.TheConstants.{CARD_FAULT, OVER_SPEEDING}
use Rattle.event_model.specs.declared.entries.Held.{Held}
use Rattle.event_model.specs.Kinds.{purpose_of, is_by_day, places_of}
use Rattle.event_model.specs.Places.{earliest, held_at, where_later, place_beside, place_of, day_place, placed, noted, similar_after}
use Rattle.event_model.specs.Kept.{stored, on_day, best_of, KeepsRecent, KeepsDays, all_noted}
use Rattle.event_model.specs.Counted.{Counted, counted_in, similar_in, counted_at, counted, all_counted, CountsDays}
use Rattle.event_model.proofs.Retaining.{and-first, and-second, stored-none}
use Rattle.event_model.proofs.Similar.{recent_all, days_all, similar_counted}
use Rattle.event_model.specs.Events.{Event}
use Rattle.note_model.specs.Tables.{over_widths, widths_of, held_in, held_of, similar_field, similar_at, CountsSimilar, HasRest, IsEntry, HasOneMore, IsNotedAt, IsNoted, AreNoted}
use Rattle.gated_ring.specs.Earliest.{IsEarliest}
use Rattle.unit_notes.specs.Retention.{IsOfType, held_rows, similar_of, counted_row, counted_rows, CountsOnce, IsStart, IsAfter}
use Rattle.unit_notes.proofs.Types.{held_is, width_is}
use Rattle.unit_notes.proofs.Placing.{day_below}
use Rattle.unit_notes.proofs.Journals.{part_of}

abbrev none_held : Held
none_held = record { begin = 0; end = 0; weight = 0 }

abbrev none_counted : Counted
none_counted = record { held = none_held; similar = 0 }

-- ---- the event that an entry tells

weight_of : (number : Card → List ℕ) (e : Event) (bytes : List ℕ) (b : Bool) → HasRest number b e bytes → e.average ≡ cond b e.average 0 → cond b (number_in over_widths 5 bytes) 0 ≡ e.average
weight_of number e bytes true has is = has.average
weight_of number e bytes false has is = sym is

entry_held : (number : Card → List ℕ) (e : Event) (similar : ℕ) (bytes : List ℕ) → e.average ≡ cond (nat_eq e.kind OVER_SPEEDING) e.average 0 → IsEntry number e similar bytes → held_in e.kind bytes ≡ held_of e
entry_held number e similar bytes average entry = λ t. record { begin = entry.front.begin t; end = entry.front.end t; weight = weight_of number e bytes (nat_eq e.kind OVER_SPEEDING) entry.rest average t }

-- with another count it tells the same
front_inside : (q n w : ℕ) → q + n ≤ 30 → 31 ≤ w → q + n ≤ w - 1
front_inside q n w few wide = omega (arith, few, wide)

begin_low : 2 + 4 ≤ 30
begin_low = omega arith

end_low : 6 + 4 ≤ 30
end_low = omega arith

average_low : 11 + 1 ≤ 30
average_low = omega arith

more_held : (kind similar : ℕ) (old new : List ℕ) → HasOneMore kind similar old new → held_in kind new ≡ held_in kind old
more_held kind similar old new more =
    let w : ℕ = total_width (widths_of kind) in
    let begin : number_at new 2 4 ≡ number_at old 2 4 = ap (big_number 4) (part_of 0 (w - 1) 2 4 old new (front_inside 2 4 w begin_low (width_is kind).0) more.front) in
    let end : number_at new 6 4 ≡ number_at old 6 4 = ap (big_number 4) (part_of 0 (w - 1) 6 4 old new (front_inside 6 4 w end_low (width_is kind).0) more.front) in
    let average : number_at new 11 1 ≡ number_at old 11 1 = ap (big_number 1) (part_of 0 (w - 1) 11 1 old new (front_inside 11 1 w average_low (width_is kind).0) more.front) in
    held_is new kind ∙ (λ t. record { begin = begin t; end = end t; weight = cond (nat_eq kind OVER_SPEEDING) (average t) 0 }) ∙ sym (held_is old kind)

-- ---- the number that an entry counts

no_field : {P : Type 0} (f : ℕ) → None ≡ Some f → P
no_field f is = absurd (cc)

number_counted : (kind similar : ℕ) (bytes : List ℕ) (field : Option ℕ) (f : ℕ) → field ≡ Some f → CountsSimilar kind similar bytes field → similar_of kind bytes field ≡ similar
number_counted kind similar bytes None f is counts = no_field f is
number_counted kind similar bytes (Some g) f is counts = counts

-- an entry as its event and the number in this field
abbrev row_by : (kind : ℕ) → Option ℕ → List ℕ → Counted
row_by kind field bytes = record { held = held_in kind bytes; similar = similar_of kind bytes field }

similar_same : (kind : ℕ) (rows : List (List ℕ)) (field : Option ℕ) (f : ℕ) → field ≡ Some f → (day : Option ℕ) → IfSome day (λ i. i < length rows) → similar_at kind rows field day ≡ similar_in (map (row_by kind field) rows) day
similar_same kind rows None f is day below = no_field f is
similar_same kind rows (Some g) f is None below = refl
similar_same kind rows (Some g) f is (Some i) below = ap (λ (c : Counted). Some c.similar) (sym (get_or-map (row_by kind (Some g)) rows i [] none_counted below))

some_field : (kind : ℕ) → nat_eq kind CARD_FAULT ≡ false → similar_field kind ≡ Some (cond {A = ℕ} (nat_eq kind OVER_SPEEDING) 7 8)
some_field kind other = by (nat_eq kind CARD_FAULT) (nat_eq kind OVER_SPEEDING) other
  where
    by : (b c : Bool) → b ≡ false → cond {A = Option ℕ} b None (cond {A = Option ℕ} c (Some 7) (Some 8)) ≡ Some (cond {A = ℕ} c 7 8)
    by true c is = cc
    by false true is = refl
    by false false is = refl

not_fault : (kind : ℕ) → is_by_day (purpose_of kind) ≡ true → nat_eq kind CARD_FAULT ≡ false
not_fault kind by_day = by (nat_eq kind 64) refl
  where
    by : (b : Bool) → nat_eq kind 64 ≡ b → b ≡ false
    by true is = let wrong : false ≡ true = subst (λ (k : ℕ). is_by_day (purpose_of k) ≡ true) (eqb-true kind 64 is) by_day in cc
    by false is = refl

no_fault : (kind : ℕ) → kind ≢ CARD_FAULT → nat_eq kind CARD_FAULT ≡ false
no_fault kind other = by (nat_eq kind 64) refl
  where
    by : (b : Bool) → nat_eq kind 64 ≡ b → b ≡ false
    by true is = absurd (other (eqb-true kind 64 is))
    by false is = refl

-- ---- one event more

module _ (number : Card → List ℕ) (e : Event) (old new : List (List ℕ)) (average : e.average ≡ cond (nat_eq e.kind OVER_SPEEDING) e.average 0) where
  held_at_place : (place day : Option ℕ) → IsNotedAt number old e place day new → held_rows e.kind new ≡ placed (held_rows e.kind old) (held_of e) place
  held_at_place (Some i) day (bytes, is, entry) =
      ap (map (held_in e.kind)) is
      ∙ map-set (held_in e.kind) old i bytes
      ∙ ap (slice_set (map (held_in e.kind) old) i) (entry_held number e (similar_after (similar_at e.kind old (similar_field e.kind) day)) bytes average entry)
  held_at_place None (Some i) (bytes, is, more) =
      ap (map (held_in e.kind)) is
      ∙ map-set_same (held_in e.kind) old i bytes [] (more_held e.kind (similar_after (similar_at e.kind old (similar_field e.kind) (Some i))) (slice_index_or old i []) bytes more)
  held_at_place None None is = ap (map (held_in e.kind)) is

  held_more : IsNoted number old e new → held_rows e.kind new ≡ noted e.kind (held_rows e.kind old) (held_of e)
  held_more done = held_at_place (place_of e.kind (held_rows e.kind old) (held_of e)) (day_place e.kind (held_rows e.kind old) (held_of e)) done

  module _ (f : ℕ) (some : similar_field e.kind ≡ Some f) where
    after_same : (day : Option ℕ) → IfSome day (λ i. i < length old) → similar_after (similar_at e.kind old (similar_field e.kind) day) ≡ similar_after (similar_in (counted_rows e.kind old) day)
    after_same day below = ap similar_after (similar_same e.kind old (similar_field e.kind) f some day below)

    counted_at_place : (place day : Option ℕ) → IfSome day (λ i. i < length old) → IsNotedAt number old e place day new → counted_rows e.kind new ≡ counted_at (counted_rows e.kind old) (held_of e) place day
    counted_at_place (Some i) day below (bytes, is, entry) =
        let s : ℕ = similar_after (similar_at e.kind old (similar_field e.kind) day) in
        let held : held_in e.kind bytes ≡ held_of e = entry_held number e s bytes average entry in
        let similar : similar_of e.kind bytes (similar_field e.kind) ≡ similar_after (similar_in (counted_rows e.kind old) day) = number_counted e.kind s bytes (similar_field e.kind) f some entry.counts ∙ after_same day below in
        ap (map (counted_row e.kind)) is
        ∙ map-set (counted_row e.kind) old i bytes
        ∙ ap (slice_set (map (counted_row e.kind) old) i) (λ t. record { held = held t; similar = similar t })
    counted_at_place None (Some i) below (bytes, is, more) =
        let s : ℕ = similar_after (similar_at e.kind old (similar_field e.kind) (Some i)) in
        let here : counted_in (counted_rows e.kind old) i ≡ counted_row e.kind (slice_index_or old i []) = get_or-map (counted_row e.kind) old i [] none_counted below in
        let held : held_in e.kind bytes ≡ (counted_in (counted_rows e.kind old) i).held = more_held e.kind s (slice_index_or old i []) bytes more ∙ sym (ap (λ (c : Counted). c.held) here) in
        let similar : similar_of e.kind bytes (similar_field e.kind) ≡ similar_after (similar_in (counted_rows e.kind old) (Some i)) = number_counted e.kind s bytes (similar_field e.kind) f some more.counts ∙ after_same (Some i) below in
        ap (map (counted_row e.kind)) is
        ∙ map-set (counted_row e.kind) old i bytes
        ∙ ap (slice_set (map (counted_row e.kind) old) i) (λ t. record { held = held t; similar = similar t })
    counted_at_place None None below is = ap (map (counted_row e.kind)) is

    rows_held : map (λ (c : Counted). c.held) (counted_rows e.kind old) ≡ held_rows e.kind old
    rows_held = map-map (λ (c : Counted). c.held) (counted_row e.kind) old

    day_inside : IfSome (day_place e.kind (held_rows e.kind old) (held_of e)) (λ i. i < length old)
    day_inside = subst (λ (n : ℕ). IfSome (day_place e.kind (held_rows e.kind old) (held_of e)) (λ i. i < n)) (length-map old (held_in e.kind)) (day_below e.kind (held_rows e.kind old) (held_of e))

    counted_more : IsNoted number old e new → counted_rows e.kind new ≡ counted e.kind (counted_rows e.kind old) (held_of e)
    counted_more done =
        subst (λ (h : List Held). counted_rows e.kind new ≡ counted_at (counted_rows e.kind old) (held_of e) (place_of e.kind h (held_of e)) (day_place e.kind h (held_of e))) (sym rows_held)
        (counted_at_place (place_of e.kind (held_rows e.kind old) (held_of e)) (day_place e.kind (held_rows e.kind old) (held_of e)) day_inside done)

-- ---- all events of a run

module _ (number : Card → List ℕ) (kind : ℕ) where
  pub run_held : (events : List Event) (old new : List (List ℕ)) → All (IsOfType kind) events → AreNoted number old events new → held_rows kind new ≡ all_noted kind (held_rows kind old) (map held_of events)
  run_held [] old new each is = ap (map (held_in kind)) is
  run_held (e ∷ events) old new each (next, first, rest) =
      let own = All-head (IsOfType kind) e events each in
      let one : held_rows kind next ≡ noted kind (held_rows kind old) (held_of e) =
      subst (λ (k : ℕ). held_rows k next ≡ noted k (held_rows k old) (held_of e)) own.kind_is (held_more number e old next own.average first) in
      run_held events next new (All-tail (IsOfType kind) e events each) rest ∙ ap (λ (h : List Held). all_noted kind h (map held_of events)) one

  run_counted : (events : List Event) (old new : List (List ℕ)) → nat_eq kind CARD_FAULT ≡ false → All (IsOfType kind) events → AreNoted number old events new → counted_rows kind new ≡ all_counted kind (counted_rows kind old) (map held_of events)
  run_counted [] old new other each is = ap (map (counted_row kind)) is
  run_counted (e ∷ events) old new other each (next, first, rest) =
      let own = All-head (IsOfType kind) e events each in
      let not_its : nat_eq e.kind CARD_FAULT ≡ false = subst (λ (k : ℕ). nat_eq k CARD_FAULT ≡ false) (sym own.kind_is) other in
      let one : counted_rows kind next ≡ counted kind (counted_rows kind old) (held_of e) =
      subst (λ (k : ℕ). counted_rows k next ≡ counted k (counted_rows k old) (held_of e)) own.kind_is
      (counted_more number e old next own.average (cond {A = ℕ} (nat_eq e.kind OVER_SPEEDING) 7 8) (some_field e.kind not_its) first) in
      run_counted events next new other (All-tail (IsOfType kind) e events each) rest ∙ ap (λ (table : List Counted). all_counted kind table (map held_of events)) one

begins : (kind : ℕ) (events : List Event) → All (IsOfType kind) events → All (λ (h : Held). 0 < h.begin) (map held_of events)
begins kind [] each = All-nil (λ (h : Held). 0 < h.begin)
begins kind (e ∷ events) each = All-cons (λ (h : Held). 0 < h.begin) (held_of e) (map held_of events) (All-head (IsOfType kind) e events each).begin (begins kind events (All-tail (IsOfType kind) e events each))

-- ---- of a type that keeps the most recent, each event that came counts itself

abbrev once_of : Held → Counted
once_of event = record { held = event; similar = 1 }

step_once : (start table : List Counted) (event : Held) (place : Option ℕ) → CountsOnce start table → CountsOnce start (counted_at table event place None)
step_once start table event None once i inside = once i inside
step_once start table event (Some p) once i inside = by (cases_eq i p)
  where
    low : i < length table
    low = subst (λ (n : ℕ). i < n) (length-set table p (once_of event)) inside

    by : (i ≡ p) ⊎ (i ≢ p) → (counted_in (slice_set table p (once_of event)) i ≡ counted_in start i) ⊎ ((counted_in (slice_set table p (once_of event)) i).similar ≡ 1)
    by (inl here) =
        let below : p < length table = subst (λ (j : ℕ). j < length table) here low in
        let at : counted_in (slice_set table p (once_of event)) i ≡ once_of event = ap (counted_in (slice_set table p (once_of event))) here ∙ get_or-set_same table p (once_of event) none_counted below in
        inr (ap (λ (x : Counted). x.similar) at)
    by (inr other) =
        let at : counted_in (slice_set table p (once_of event)) i ≡ counted_in table i = get_or-set_other table p i (once_of event) none_counted other in
        ⊎_elim (λ same. inl (at ∙ same)) (λ one. inr (ap (λ (x : Counted). x.similar) at ∙ one)) (once i low)

no_day : (kind : ℕ) (held : List Held) (event : Held) → is_by_day (purpose_of kind) ≡ false → day_place kind held event ≡ None
no_day kind held event other = rw other refl

run_once : (kind : ℕ) (start table : List Counted) (events : List Held) → is_by_day (purpose_of kind) ≡ false → CountsOnce start table → CountsOnce start (all_counted kind table events)
run_once kind start table [] other once = once
run_once kind start table (e ∷ events) other once =
    let held : List Held = map (λ (c : Counted). c.held) table in
    run_once kind start (counted kind table e) events other
    (subst (λ (day : Option ℕ). CountsOnce start (counted_at table e (place_of kind held e) day)) (sym (no_day kind held e other)) (step_once start table e (place_of kind held e) once))

-- ---- what is kept after a run

module _ (number : Card → List ℕ) (kind : ℕ) (events : List Event) (start rows : List (List ℕ)) (each : All (IsOfType kind) events) (is : IsStart kind start) (noted_all : AreNoted number start events rows) where
  abbrev held : List Held
  held = held_rows kind start

  abbrev came : List Held
  came = map held_of events

  room : length held ≡ places_of kind
  room = length-map start (held_in kind) ∙ is.size

  real : All (λ (h : Held). 0 < h.begin) came
  real = begins kind events each

  recent_after : is_by_day (purpose_of kind) ≡ false → KeepsRecent (places_of kind) (stored held ++ came) (stored (held_rows kind rows))
  recent_after other =
      let before : KeepsRecent (length held) (stored held) (stored held) = subst (λ (n : ℕ). KeepsRecent n (stored held) (stored held)) (sym room) (is.keeps.recent other) in
      subst (λ (h : List Held). KeepsRecent (places_of kind) (stored held ++ came) (stored h)) (sym (run_held number kind events start rows each noted_all))
      (subst (λ (n : ℕ). KeepsRecent n (stored held ++ came) (stored (all_noted kind held came))) room (recent_all kind held (stored held) came other real before))

  days_after : is_by_day (purpose_of kind) ≡ true → KeepsDays (purpose_of kind) (places_of kind) (stored held ++ came) (stored (held_rows kind rows))
  days_after by_day =
      let before : KeepsDays (purpose_of kind) (length held) (stored held) (stored held) = subst (λ (n : ℕ). KeepsDays (purpose_of kind) n (stored held) (stored held)) (sym room) (is.keeps.days by_day) in
      subst (λ (h : List Held). KeepsDays (purpose_of kind) (places_of kind) (stored held ++ came) (stored h)) (sym (run_held number kind events start rows each noted_all))
      (subst (λ (n : ℕ). KeepsDays (purpose_of kind) n (stored held ++ came) (stored (all_noted kind held came))) room (days_all kind held (stored held) came by_day real before))

  once_after : is_by_day (purpose_of kind) ≡ false → kind ≢ CARD_FAULT → CountsOnce (counted_rows kind start) (counted_rows kind rows)
  once_after other another =
      subst (λ (table : List Counted). CountsOnce (counted_rows kind start) table) (sym (run_counted number kind events start rows (no_fault kind another) each noted_all))
      (run_once kind (counted_rows kind start) (counted_rows kind start) came other (λ i inside. inl refl))

  similar_after_run : is_by_day (purpose_of kind) ≡ true → CountsDays (counted_rows kind start) came (counted_rows kind rows)
  similar_after_run by_day =
      let same : map (λ (c : Counted). c.held) (counted_rows kind start) ≡ held = map-map (λ (c : Counted). c.held) (counted_row kind) start in
      let size : length (counted_rows kind start) ≡ places_of kind = length-map start (counted_row kind) ∙ is.size in
      let own : KeepsDays (purpose_of kind) (places_of kind) (stored (map (λ (c : Counted). c.held) (counted_rows kind start))) (stored (map (λ (c : Counted). c.held) (counted_rows kind start))) =
      subst (λ (h : List Held). KeepsDays (purpose_of kind) (places_of kind) (stored h) (stored h)) (sym same) (is.keeps.days by_day) in
      let before = subst (λ (n : ℕ). KeepsDays (purpose_of kind) n (stored (map (λ (c : Counted). c.held) (counted_rows kind start))) (stored (map (λ (c : Counted). c.held) (counted_rows kind start)))) (sym size) own in
      subst (λ (table : List Counted). CountsDays (counted_rows kind start) came table) (sym (run_counted number kind events start rows (not_fault kind by_day) each noted_all))
      (similar_counted kind (counted_rows kind start) came by_day real before is.few)

  pub is_after : IsAfter kind start came rows
  is_after = record {
    keeps = record { recent = recent_after; days = days_after };
    once = once_after;
    similar = similar_after_run;
  }

-- ---- equal begins

all_at : (P : Held → Type 0) (xs : List Held) (i : ℕ) → i < length xs → All P xs → P (held_at xs i)
all_at P [] i below all = absurd (omega (arith, below))
all_at P (x ∷ xs) zero below all = All-head P x xs all
all_at P (x ∷ xs) (suc i) below all = all_at P xs i (omega (arith, below)) (All-tail P x xs all)

pub not_later : (kind : ℕ) (held : List Held) (event : Held) → is_by_day (purpose_of kind) ≡ false → All (λ (h : Held). event.begin ≤ h.begin) held → noted kind held event ≡ held
not_later kind held event other later =
    subst (λ (day : Option ℕ). placed held event (place_beside (purpose_of kind) held event day) ≡ held) (sym (no_day kind held event other))
    (by (earliest (λ h. h.begin) held) refl)
  where
    by : (o : Option ℕ) → earliest (λ h. h.begin) held ≡ o → placed held event (where_later held event o) ≡ held
    by None is = refl
    by (Some p) is =
        let found = position-Some (λ (h : Held). list_all (λ y. nat_le h.begin y.begin) held) held p none_held is in
        let le : event.begin ≤ (held_at held p).begin = all_at (λ (h : Held). event.begin ≤ h.begin) held p found.0 later in
        stays (nat_lt (held_at held p).begin event.begin) refl le
      where
        stays : (b : Bool) → nat_lt (held_at held p).begin event.begin ≡ b → event.begin ≤ (held_at held p).begin → placed held event (cond b (Some p) None) ≡ held
        stays true less le = let lt = ltb-true (held_at held p).begin event.begin less in absurd (omega (arith, lt, le))
        stays false more le = refl

-- ---- places that hold no event

none_stored : (kind : ℕ) (rows : List (List ℕ)) → All (λ (e : List ℕ). (held_in kind e).begin ≡ 0) rows → stored (held_rows kind rows) ≡ []
none_stored kind [] each = refl
none_stored kind (e ∷ rows) each =
    stored-none (held_in kind e) (held_rows kind rows) (All-head (λ (e : List ℕ). (held_in kind e).begin ≡ 0) e rows each)
    ∙ none_stored kind rows (All-tail (λ (e : List ℕ). (held_in kind e).begin ≡ 0) e rows each)

abbrev no_events : List Held
no_events = []

recent_none : (room : ℕ) → KeepsRecent room [] []
recent_none room = record {
  others = [];
  parts = IsPermutation-refl [];
  most = omega arith;
  recent = All-nil (λ (o : Held). (length no_events ≡ room) × All (λ (h : Held). o.begin ≤ h.begin) no_events);
}

days_none : (kind room : ℕ) → KeepsDays (purpose_of kind) room [] []
days_none kind room = record {
  best = All-nil (λ (h : Held). best_of (purpose_of kind) (on_day (h.begin / 86400) no_events) ≡ Some h);
  one = λ day. omega arith;
  most = omega arith;
  days = All-nil (λ (e : Held). (list_any (λ (h : Held). h.begin / 86400 == e.begin / 86400) no_events ≡ true) ⊎ ((length no_events ≡ room) × All (λ (h : Held). e.begin / 86400 < h.begin / 86400) no_events));
}

pub is_start : (kind : ℕ) (rows : List (List ℕ)) → length rows ≡ places_of kind → All (λ (e : List ℕ). (held_in kind e).begin ≡ 0) rows → All (λ (c : Counted). c.similar ≤ 255) (counted_rows kind rows) → IsStart kind rows
is_start kind rows size each few =
    let none : stored (held_rows kind rows) ≡ [] = none_stored kind rows each in
    record {
      size = size;
      keeps = record {
        recent = λ other. subst (λ (h : List Held). KeepsRecent (places_of kind) h h) (sym none) (recent_none (places_of kind));
        days = λ by_day. subst (λ (h : List Held). KeepsDays (purpose_of kind) (places_of kind) h h) (sym none) (days_none kind (places_of kind));
      };
      few = few;
    }

-- ---- the earliest place

least_at : (xs : List Held) (b : ℕ) → list_all (λ y. nat_le b y.begin) xs ≡ true → (j : ℕ) → j < length xs → b ≤ (held_at xs j).begin
least_at [] b all j below = absurd (omega (arith, below))
least_at (x ∷ xs) b all zero below = leb-true b x.begin (and-first (nat_le b x.begin) (list_all (λ y. nat_le b y.begin) xs) all)
least_at (x ∷ xs) b all (suc j) below = least_at xs b (and-second (nat_le b x.begin) (list_all (λ y. nat_le b y.begin) xs) all) j (omega (arith, below))

-- what is no more than the least is no more than any
less_all : (xs : List Held) (b c : ℕ) → c ≤ b → list_all (λ y. nat_le b y.begin) xs ≡ true → list_all (λ y. nat_le c y.begin) xs ≡ true
less_all [] b c le all = refl
less_all (x ∷ xs) b c le all =
    let here : b ≤ x.begin = leb-true b x.begin (and-first (nat_le b x.begin) (list_all (λ y. nat_le b y.begin) xs) all) in
    rw (le-leb c x.begin (omega (arith, le, here))) (less_all xs b c le (and-second (nat_le b x.begin) (list_all (λ y. nat_le b y.begin) xs) all))

pub first_of_least : (held : List Held) (i : ℕ) → earliest (λ h. h.begin) held ≡ Some i → IsEarliest (length held) (λ j. (held_at held j).begin) i
first_of_least held i is =
    let found = position-Some (λ (x : Held). list_all (λ y. nat_le x.begin y.begin) held) held i none_held is in
    record {
      below = found.0;
      least = least_at held (held_at held i).begin found.1;
      first = λ j before. less j (nat_lt (held_at held i).begin (held_at held j).begin) refl (found.2 j before) found.1;
    }
  where
    less : (j : ℕ) (b : Bool) → nat_lt (held_at held i).begin (held_at held j).begin ≡ b → list_all (λ y. nat_le (held_at held j).begin y.begin) held ≡ false
        → list_all (λ y. nat_le (held_at held i).begin y.begin) held ≡ true → (held_at held i).begin < (held_at held j).begin
    less j true is_less failed all = ltb-true (held_at held i).begin (held_at held j).begin is_less
    less j false more failed all =
        let passes = less_all held (held_at held i).begin (held_at held j).begin (ltb-false (held_at held i).begin (held_at held j).begin more) all in
        absurd (let wrong : true ≡ false = sym passes ∙ failed in cc)
