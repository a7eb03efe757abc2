-- A card never runs ahead of the unit: each entry of its history that it holds stands in the unit's minutes.
use Rattle.std.proofs.Common.{◌≡◌, inl, inr, ⊎_elim, ℕ, ◌/◌, ◌<◌, ◌≤◌, Bool, true, false, cond, Option, Some, None, List, [], ◌∷◌, ◌++◌, All, Contains, refl, ap, subst, ◌∙◌, sym, arith, filter, nat_le}
use Rattle.std.specs.Prelude.{option_to_list, is_some}
use Rattle.std.proofs.lemmas.Bool.Decides.{nat_tests}
use Rattle.std.proofs.lemmas.List.Elements.{All-nil, All-cons, All-head, All-tail, All-append, All-weaker, All-map, All-filter, All-contains, All-contains_itself, filter_passes, Contains-append_left, Contains-append_right, Contains-append_cases}
use Rattle.run_course.specs.activity_codec.declared.entries.Entry.{Entry}
use Rattle.run_course.specs.activity_codec.declared.entries.Manual.{Manual}
use Rattle.run_course.specs.activity_codec.declared.values.Slot.{Slot}
use Rattle.run_course.specs.activity_codec.declared.values.Slot.TheVariants.{Driver, CoDriver}
use Rattle.run_course.specs.trace_model.declared.Card.{Card}
use Rattle.unit_rule.specs.unit_model.Days.{UnitMinute, minutes_of}
use Rattle.unit_rule.specs.unit_model.Image.{recorded, unit_minutes, last_kept}
use Rattle.unit_rule.specs.unit_model.Decoding.{Decodes}
use Rattle.run_course.specs.log_model.Slots.{same_card}
use Rattle.run_course.specs.history_model.Minutes.{HistoryMinute, Seat, card_history, on_card, entry_in, is_crew, up_to}
use Rattle.run_course.specs.history_model.Book.{Rising, IsMark}
use Rattle.run_course.proofs.history_model.Books.{history-append, history-one, history-none, contains-up_to}
use Rattle.unit_rule.specs.card_retention.Retains.{entries_from}
use Rattle.unit_rule.specs.device_rule.View.{CardView, card_view}
use Rattle.unit_rule.specs.device_rule.Own.{own_view, own_sizes, KeepsOf}
use Rattle.unit_rule.specs.device_rule.Views.{UnitView, row, owed, counts, is_session}
use Rattle.unit_rule.specs.device_rule.Filling.{seen_by_unit, seat_state, FillsDays}
use Rattle.unit_rule.proofs.device_rule.Brought.{brought-marked}
use Rattle.unit_rule.specs.Recording.{Recording}
use Rattle.unit_rule.specs.Cards.{slot_state, StandsInUnit, HasDay}
use Rattle.run_promise.specs.Cards.{counted_to}
use Rattle.run_promise.proofs.DayShown.{stands-in}

-- ENTRIES AND THEIR MINUTES
-- the unit holds an entry as it was said
abbrev pub Told : Recording → Card → HistoryMinute → Entry → Type 0
Told r c i e = (e.minute ≡ i.minute) × (slot_state r c e.slot (seen_by_unit i) ≡ record { act = e.act; present = true })

seat-told : (r : Recording) (c : Card) (slot : Slot) (i : HistoryMinute) (seat : Seat) → slot_state r c slot (seen_by_unit i) ≡ seat_state seat → All (Told r c i) (entry_in c slot i seat)
seat-told r c slot i seat is =
    All-map (Told r c i) (λ (d : Card). record { minute = i.minute; slot = slot; crew = is_crew i; act = seat.act }) (filter (same_card c) (option_to_list seat.card)) (go seat.card refl)
  where
    go : (o : Option Card) → seat.card ≡ o → All (λ (d : Card). (i.minute ≡ i.minute) × (slot_state r c slot (seen_by_unit i) ≡ record { act = seat.act; present = true })) (filter (same_card c) (option_to_list o))
    go None none = All-nil (λ (d : Card). (i.minute ≡ i.minute) × (slot_state r c slot (seen_by_unit i) ≡ record { act = seat.act; present = true }))
    go (Some d) some = All-filter (same_card c) (λ (d : Card). (i.minute ≡ i.minute) × (slot_state r c slot (seen_by_unit i) ≡ record { act = seat.act; present = true })) (d ∷ [])
        (All-cons (λ (d : Card). (i.minute ≡ i.minute) × (slot_state r c slot (seen_by_unit i) ≡ record { act = seat.act; present = true })) d [] (refl, is ∙ ap (λ (o : Option Card). record { act = seat.act; present = is_some o }) some)
        (All-nil (λ (d : Card). (i.minute ≡ i.minute) × (slot_state r c slot (seen_by_unit i) ≡ record { act = seat.act; present = true }))))

said-told : (r : Recording) (c : Card) (i : HistoryMinute) → All (Told r c i) (on_card c i)
said-told r c i = All-append (Told r c i) (entry_in c Driver i i.driver) (entry_in c CoDriver i i.codriver) (seat-told r c Driver i i.driver refl) (seat-told r c CoDriver i i.codriver refl)

-- each entry of a card's history is of one of its minutes
pub said-by : (r : Recording) (c : Card) (past : List HistoryMinute) (e : Entry) → Contains (card_history c past) e → (i : HistoryMinute) × Contains past i × Told r c i e
said-by r c [] e at = absurd (let none : Contains {X = Entry} [] e = subst (λ (zs : List Entry). Contains zs e) (history-none c) at in omega (arith, none.1))
said-by r c (i ∷ past) e at = ⊎_elim
    (λ here. (i, Contains-append_left (i ∷ []) past i (0, omega arith, refl), All-contains (Told r c i) (on_card c i) e (said-told r c i) here))
    (λ later. let more = said-by r c past e later in (more.0, Contains-append_right (i ∷ []) past more.0 more.1, more.2))
    (Contains-append_cases (on_card c i) (card_history c past) e (subst (λ (zs : List Entry). Contains zs e) (history-append c (i ∷ []) past ∙ ap (λ (zs : List Entry). zs ++ card_history c past) (history-one c i)) at))

-- of what is counted, or shown from a day on
passed : (k m : ℕ) → nat_le m k ≡ true → m ≤ k
passed k m h = grind (arith, nat_tests)

pub counted-in : (k : ℕ) (es : List Entry) (e : Entry) → Contains (counted_to k es) e → Contains es e × (e.minute ≤ k)
counted-in k es e at = (
  All-contains (Contains es) (counted_to k es) e (All-filter (λ (d : Entry). nat_le d.minute k) (Contains es) es (All-contains_itself es)) at,
  passed k e.minute (All-contains (λ (d : Entry). nat_le d.minute k ≡ true) (counted_to k es) e (filter_passes (λ (d : Entry). nat_le d.minute k) es) at),
)

from-within : (P : Entry → Type 0) (day : ℕ) (es : List Entry) → All P es → All P (entries_from day es)
from-within P day [] each = All-nil P
from-within P day (e ∷ es) each = go (nat_le day (e.minute / 1440)) (from-within P day es (All-tail P e es each))
  where
    go : (b : Bool) → All P (entries_from day es) → All P (cond b (e ∷ entries_from day es) (entries_from day es))
    go true rest = All-cons P e (entries_from day es) (All-head P e es each) rest
    go false rest = rest

-- what overwriting leaves is of what it was
pub kept-within : (image : List ℕ) (given : List Manual) (es : List Entry) (x : List ℕ) (e : Entry) → KeepsOf image given es (own_view x).held → Contains (own_view x).held.entries e → Contains es e
kept-within image given es x e keeps at =
    let r = (keeps.1.keeps keeps.0 (omega arith)).0 in
    All-contains (Contains es) (entries_from r.oldest es) e (from-within (Contains es) r.oldest es (All-contains_itself es)) (subst (λ (zs : List Entry). Contains zs e) r.entries at)

-- the entries of an image are not later than its end mark
pub own-marked : (x : List ℕ) → All (λ e. e.minute ≤ (own_view x).mark) (own_view x).held.entries
unfolding own_view
own-marked x = brought-marked (own_sizes x) x (record { entries = []; owed = []; mark = (card_view (own_sizes x) x).mark; word = 0 }) refl

-- what a unit owes is not later than its last-kept minute
counted-until : (from mark last m : ℕ) → counts from mark last m ≡ true → m ≤ last
counted-until from mark last m is = grind (arith, nat_tests)

pub owed-until : (c : Card) (u : UnitView) (x : CardView) → All (λ e. e.minute ≤ u.last) (owed c u x)
owed-until c u x = by (is_session (row c u).session x.session)
  where
    by : (b : Bool) → All (λ e. e.minute ≤ u.last) (cond b (filter (λ e. counts (x.session / 60) x.mark u.last e.minute) (row c u).cells) [])
    by true = All-weaker (λ (e : Entry). counts (x.session / 60) x.mark u.last e.minute ≡ true) (λ e. e.minute ≤ u.last) (λ e is. counted-until (x.session / 60) x.mark u.last e.minute is)
        (filter (λ e. counts (x.session / 60) x.mark u.last e.minute) (row c u).cells) (filter_passes (λ (e : Entry). counts (x.session / 60) x.mark u.last e.minute) (row c u).cells)
    by false = All-nil (λ (e : Entry). e.minute ≤ u.last)

-- minutes that rise are later than the first
pub rising-above : (first : ℕ) (past : List HistoryMinute) → Rising first past → All (λ i. first < i.minute) past
rising-above first [] rising = All-nil (λ (i : HistoryMinute). first < i.minute)
rising-above first (i ∷ past) rising = All-cons (λ (j : HistoryMinute). first < j.minute) i past rising.0
    (All-weaker (λ (j : HistoryMinute). i.minute < j.minute) (λ j. first < j.minute) (λ j h. omega (arith, h, rising.0)) past (rising-above i.minute past rising.1))

-- a mark is not earlier than the first
pub mark-above : (first : ℕ) (past : List HistoryMinute) (last : ℕ) → Rising first past → IsMark first past last → first ≤ last
mark-above first past last rising (inl is) = omega (arith, is)
mark-above first past last rising (inr (i, at, is)) = let lt : first < i.minute = All-contains (λ (j : HistoryMinute). first < j.minute) past i (rising-above first past rising) at in omega (arith, lt, is)

rising-filter : (p : HistoryMinute → Bool) (first : ℕ) (past : List HistoryMinute) → Rising first past → Rising first (filter p past)
rising-filter p first [] rising = tt
rising-filter p first (i ∷ past) rising = go (p i) (rising-filter p i.minute past rising.1)
  where
    from : (a b : ℕ) (past : List HistoryMinute) → a < b → Rising b past → Rising a past
    from a b [] le h = tt
    from a b (j ∷ past) le h = (omega (arith, le, h.0), h.1)

    go : (b : Bool) → Rising i.minute (filter p past) → Rising first (cond b (i ∷ filter p past) (filter p past))
    go true rest = (rising.0, rest)
    go false rest = from first i.minute (filter p past) rising.0 rest

-- IN THE UNIT: an entry that one of the minutes up to the last-kept one says stands in the image, where this has its day
unit-minutes : (u : List ℕ) → unit_minutes u ≡ minutes_of (recorded u)
unfolding unit_minutes
unit-minutes u = refl

pub stands-there : (r : Recording) (c : Card) (start u : List ℕ) → Decodes start → (next : Option HistoryMinute) (past : List HistoryMinute) (k : ℕ) → Rising (last_kept start) past → FillsDays (recorded start) next (up_to k past) (recorded u) →
    (i : HistoryMinute) (e : Entry) → Contains past i → Told r c i e → i.minute ≤ k → HasDay r c (recorded u) (e.minute / 1440) → StandsInUnit r c (unit_minutes u) e
stands-there r c start u decodes next past k rising fills i e at told le has = (
  seen_by_unit i,
  subst (λ (ms : List UnitMinute). Contains ms (seen_by_unit i)) (sym (unit-minutes u))
      (stands-in start decodes next (up_to k past) (recorded u) (rising-filter (λ (j : HistoryMinute). nat_le j.minute k) (last_kept start) past rising) fills i (contains-up_to k past i le at) has.0 has.1
      (has.2 ∙ ap (λ (m : ℕ). m / 1440) told.0)),
  sym told.0,
  told.1,
)
