-- What a card has of the run the unit says too.
use Rattle.std.proofs.Common.{◌≡◌, ◌⊎◌, inl, inr, ⊎_elim, ℕ, ◌+◌, ◌/◌, ◌<◌, ◌≤◌, Bool, true, false, cond, Option, Some, None, List, [], ◌∷◌, ◌++◌, All, Contains, filter, length, nat_le, refl, ap, subst, sym, ◌∙◌, arith}
use Rattle.std.specs.Prelude.{option_to_list, is_some}
use Rattle.std.proofs.lemmas.List.Elements.{All-nil, All-cons, All-head, All-tail, All-append, All-map, All-filter, All-contains, All-contains_itself, Contains-append_left, Contains-append_right, Contains-append_cases}
use Rattle.safety_model.specs.device_rule.activity_codec.declared.entries.Entry.{Entry}
use Rattle.safety_model.specs.device_rule.activity_codec.declared.values.Slot.{Slot}
use Rattle.safety_model.specs.device_rule.activity_codec.declared.values.Slot.TheVariants.{Driver, CoDriver}
use Rattle.safety_model.specs.device_rule.activity_codec.declared.entries.Manual.{Manual}
use Rattle.safety_model.specs.device_rule.trace_model.declared.Card.{Card}
use Rattle.safety_model.specs.device_rule.trace_model.declared.Card.TheVariants.{A, B}
use Rattle.safety_model.specs.device_rule.unit_model.Days.{UnitMinute}
use Rattle.safety_model.specs.device_rule.unit_model.Image.{last_kept}
use Rattle.safety_model.specs.device_rule.unit_model.Decoding.{Decodes}
use Rattle.safety_model.specs.device_rule.log_model.Slots.{same_card}
use Rattle.safety_model.specs.device_rule.log_model.Spans.{AreInOrder}
use Rattle.safety_model.specs.device_rule.history_model.Minutes.{HistoryMinute, Seat, card_history, on_card, entry_in, is_crew, up_to}
use Rattle.safety_model.specs.device_rule.history_model.Presence.{CardStart, card_start}
use Rattle.safety_model.specs.device_rule.Filling.{seen_by_unit, seat_state}
use Rattle.safety_model.specs.device_rule.Own.{own_view, KeepsOf}
use Rattle.safety_model.specs.device_rule.View.{Held}
use Rattle.safety_model.specs.device_rule.Views.{unit_view, owed}
use Rattle.safety_model.specs.card_retention.Retains.{entries_from}
use Rattle.history_model.proofs.Books.{history-append, history-one, history-none, up_to-within}
use Rattle.history_model.proofs.Told.{rises}
use Rattle.history_model.proofs.Decided.{rises-within}
use Rattle.run_promise.proofs.Present.{bound, history-later}
use Rattle.run_promise.proofs.Behind.{own-marked, owed-until}
use Rattle.safety_model.specs.Recording.{Recording, card_image, brought, start_of, history_of, lost_of, unit_seen, told_of}
use Rattle.safety_model.specs.Hands.{hands_done}
use Rattle.safety_model.specs.Cards.{slot_state, expected_to, Agree}
use Rattle.short_promise.specs.InShort.{said, IsOverwritten, HasAll, Tells, AreTogether}
use Rattle.short_promise.proofs.Short.{has-due}

-- what overwriting leaves is of what it was
pub from-within : (P : Entry → Type 0) (day : ℕ) (es : List Entry) → All P es → All P (entries_from day es)
from-within P day [] each = All-nil P
from-within P day (e ∷ es) each = go (nat_le day (e.minute / 1440)) (from-within P day es (All-tail P e es each))
  where
    go : (b : Bool) → All P (entries_from day es) → All P (cond b (e ∷ entries_from day es) (entries_from day es))
    go true rest = All-cons P e (entries_from day es) (All-head P e es each) rest
    go false rest = rest

kept-in : (image : List ℕ) (given : List Manual) (es : List Entry) (held : Held) (e : Entry) → KeepsOf image given es held → Contains held.entries e → Contains es e
kept-in image given es held e keeps at =
    let k = (keeps.1.keeps keeps.0 (omega arith)).0 in
    All-contains (Contains es) (entries_from k.oldest es) e (from-within (Contains es) k.oldest es (All-contains_itself es)) (subst (λ (zs : List Entry). Contains zs e) k.entries at)

view-last : (a b x : List ℕ) → (unit_view a b x).last ≡ last_kept x
unfolding unit_view
view-last a b x = refl

started : (r : Recording) (c : Card) → card_start (start_of r) c ≡ brought r c
started r A = refl
started r B = refl

module _ (r : Recording) (c : Card) where
  -- what a minute says on a card the unit holds of it
  abbrev Same : HistoryMinute → Entry → Type 0
  Same i e = (e.minute ≡ i.minute) × (Tells r c (seen_by_unit i) e)

  abbrev SameSeat : (slot : Slot) (i : HistoryMinute) (seat : Seat) → Card → Type 0
  SameSeat slot i seat d = (i.minute ≡ i.minute) × ((slot_state r c slot (seen_by_unit i) ≡ record { act = seat.act; present = true }) × (is_crew i ≡ is_crew i))

  seat-same : (slot : Slot) (i : HistoryMinute) (seat : Seat) → slot_state r c slot (seen_by_unit i) ≡ seat_state seat → All (Same i) (entry_in c slot i seat)
  seat-same slot i seat is = All-map (Same i) (λ (d : Card). record { minute = i.minute; slot = slot; crew = is_crew i; act = seat.act }) (filter (same_card c) (option_to_list seat.card)) (go seat.card refl)
    where
      go : (o : Option Card) → seat.card ≡ o → All (SameSeat slot i seat) (filter (same_card c) (option_to_list o))
      go None none = All-nil (SameSeat slot i seat)
      go (Some d) some = All-filter (same_card c) (SameSeat slot i seat) (d ∷ [])
          (All-cons (SameSeat slot i seat) d [] (refl, (is ∙ ap (λ (o : Option Card). record { act = seat.act; present = is_some o }) some, refl)) (All-nil (SameSeat slot i seat)))

  said-same : (i : HistoryMinute) → All (Same i) (on_card c i)
  said-same i = All-append (Same i) (entry_in c Driver i i.driver) (entry_in c CoDriver i i.codriver) (seat-same Driver i i.driver refl) (seat-same CoDriver i i.codriver refl)

  said-by : (past : List HistoryMinute) (e : Entry) → Contains (card_history c past) e → (i : HistoryMinute) × Contains past i × Same i e
  said-by [] e at = absurd (let none : Contains {X = Entry} [] e = subst (λ (zs : List Entry). Contains zs e) (history-none c) at in omega (arith, none.1))
  said-by (i ∷ past) e at = ⊎_elim
      (λ here. (i, Contains-append_left (i ∷ []) past i (0, omega arith, refl), All-contains (Same i) (on_card c i) e (said-same i) here))
      (λ later. let more = said-by past e later in (more.0, Contains-append_right (i ∷ []) past more.0 more.1, more.2))
      (Contains-append_cases (on_card c i) (card_history c past) e (subst (λ (zs : List Entry). Contains zs e) (history-append c (i ∷ []) past ∙ ap (λ (zs : List Entry). zs ++ card_history c past) (history-one c i)) at))

  module _ (from : ℕ) (decodes : Decodes r.unit) (later : last_kept r.unit < from / 60) (order : AreInOrder from r.trace) (u x : List ℕ) (agree : Agree r c u x) where
    abbrev Ours : Entry → Type 0
    Ours e = Contains (card_history c (history_of r)) e

    -- an entry of the run that the card has is none of those of the start, nor one that was owed then
    not-own : (e : Entry) → Ours e → Contains (brought r c).entries e → ⊥
    not-own e at own =
        let low : e.minute ≤ (brought r c).mark = All-contains (λ (e : Entry). e.minute ≤ (own_view (card_image r c)).mark) (own_view (card_image r c)).held.entries e (own-marked (card_image r c)) own in
        let high : bound (brought r c) < e.minute = subst (λ (s : CardStart). bound s < e.minute) (started r c) (All-contains (λ (e : Entry). bound (card_start (start_of r) c) < e.minute) (card_history c (history_of r)) e (history-later r.rule (start_of r) r.log (told_of r) c) at) in
        omega (arith, low, high)

    not-owed : (e : Entry) → Ours e → Contains (brought r c).owed e → ⊥
    not-owed e at own =
        let low : e.minute ≤ (unit_seen r r.unit).last = All-contains (λ (e : Entry). e.minute ≤ (unit_seen r r.unit).last) (brought r c).owed e (owed-until c (unit_seen r r.unit) (own_view (card_image r c))) own in
        let i = said-by (history_of r) e at in
        let high : from / 60 ≤ i.0.minute = (rises-within (from / 60) ((from + length r.trace) / 60) (history_of r) i.0 (rises from r.rule (start_of r) r.log r.trace order) i.1).0 in
        let is : e.minute ≡ i.0.minute = i.2.0 in
        let last : (unit_seen r r.unit).last ≡ last_kept r.unit = view-last _ _ r.unit in
        omega (arith, low, high, is, last, later)

    far : (e : Entry) → Ours e → Contains (own_view x).held.entries e → e.minute ≤ last_kept u
    far e at has =
        let among = kept-in (card_image r c) (hands_done r c) (expected_to r c (last_kept u)) (record (own_view x).held { entries = (own_view x).held.entries ++ owed c (unit_seen r u) (own_view x) }) e agree.rest
        (Contains-append_left (own_view x).held.entries (owed c (unit_seen r u) (own_view x)) e has) in
        ⊎_elim
        (λ own. absurd (not-own e at own))
        (λ further. ⊎_elim
        (λ due_. absurd (not-owed e at due_))
        (λ run. let i = said-by (up_to (last_kept u) (history_of r)) e run in
        let low : i.0.minute ≤ last_kept u = All-contains (λ (j : HistoryMinute). j.minute ≤ last_kept u) (up_to (last_kept u) (history_of r)) i.0 (up_to-within (last_kept u) (history_of r)) i.1 in
        let is : e.minute ≡ i.0.minute = i.2.0 in omega (arith, low, is))
        (Contains-append_cases (brought r c).owed (card_history c (up_to (last_kept u) (history_of r))) e further))
        (Contains-append_cases (brought r c).entries ((brought r c).owed ++ card_history c (up_to (last_kept u) (history_of r))) e among)

    -- TOGETHER
    pub together : HasAll r.unit (history_of r) (lost_of r) u → AreTogether r c u x
    together all = record {
      far = far;
      says = λ e at has. let i = said-by (history_of r) e at in
          let is : i.0.minute ≡ e.minute = sym i.2.0 in
          let le : i.0.minute ≤ last_kept u = let low = far e at has in omega (arith, low, is) in
          subst (λ (k : ℕ). Tells r c (said u k) e ⊎ IsOverwritten u k) is
          (⊎_elim
          (λ same. inl (subst (λ (k : UnitMinute). Tells r c k e) (sym same) i.2.1))
          (λ older. inr older)
          (has-due r.unit r.rule (start_of r) r.log r.trace from decodes later order u all i.0 i.1 le));
      owes = agree.rest;
    }
