-- What a note with cards shows more, what a moment of it has left, and which bytes tell of no event.
use Rattle.std.proofs.Common.{◌≡◌, ◌≢◌, inl, inr, ℕ, ◌+◌, ◌^◌, ◌<◌, ◌≤◌, min, Bool, true, false, cond, List, [], ◌∷◌, length, Contains, refl, ap, sym, subst, ◌∙◌, arith, nat_eq}
use Rattle.std.specs.Prelude.{◌==◌}
use Rattle.std.proofs.lemmas.Bool.{eqb-true, eqb-false, ne_eqb, eq-eqb}
use Rattle.card_layout.specs.Images.{SameOutside, number_at, big_number}
use Rattle.card_layout.proofs.Spelled.{number_before, number_after}
use Rattle.trace_model.specs.declared.Card.{Card}
use Rattle.tacho_types.specs.declared.card_number.FullCardNumber.{FullCardNumber}
use Rattle.unit_model.specs.declared.layout.TheConstants.{FIRST_OVER, OVER_COUNT}
use Rattle.unit_model.specs.Image.{number_of}
use Rattle.event_model.specs.declared.kinds.TheConstants.{OVER_SPEEDING}
use Rattle.event_model.specs.declared.entries.Over.{Over}
use Rattle.event_model.specs.Events.{Event}
use Rattle.note_model.specs.Tables.{table_of, table_in, IsNoted}
use Rattle.note_model.specs.Unsure.{IsNotedSo, AreNotedBut, IsFirstSo, IsFirstBut, IsCountedBut}
use Rattle.unit_notes.specs.declared.unit_event.UnitEvent.{UnitEvent}
use Rattle.unit_notes.specs.Entries.{fault_bytes, over_bytes}
use Rattle.unit_notes.specs.Fields.{IsEventOf, IsOverOf}
use Rattle.unit_notes.specs.Noting.{IsEventNoted, IsNotingEvent, IsNotingOver, IsOverNoted, with_first, with_one_more}
use Rattle.unit_notes.proofs.EntryFields.{event_front_of, over_front_of}
use Rattle.unit_notes.proofs.Placing.{is_noted}
use Rattle.unit_events.specs.Shown.{all_kinds, KeepsEvents}
use Rattle.unit_events.proofs.Shows.{each-kind}
use Rattle.unit_events.proofs.EventFrames.{table-apart, table-high, table-behind, part_of}
use Rattle.unit_events.proofs.NoteFrames.{IsApart, AreApart, bares-apart, overs-apart, gaps-apart, others-same, numbers-same, tables-first, tables-both, enough, first-outside, more-outside, first-value, more-value}
use Rattle.run_events.specs.Shown.{by_kind, none_sure, all_sure, ShowsEvents, AreNumbers, SaysNothing}
use Rattle.run_events.proofs.Unsure.{event-moment, count-all, count-nothing}
use Rattle.run_events.proofs.Shows.{shown-sure}

-- each type's places lie apart from those of the others
invalids-apart : AreApart 0x01
invalids-apart = each-kind (λ (kind : ℕ). kind ≢ 0x01 → IsApart kind 0x01)
    (λ ne. absurd (ne refl))
    (λ ne. let is : 2386384 + 830 ≤ 2387214 = omega arith in inr is)
    (λ ne. let is : 2386384 + 830 ≤ 2388044 = omega arith in inr is)
    (λ ne. let is : 2386384 + 830 ≤ 2388874 = omega arith in inr is)
    (λ ne. let is : 2386384 + 830 ≤ 2389704 = omega arith in inr is)
    (λ ne. let is : 2386384 + 830 ≤ 2391364 = omega arith in inr is)
    (λ ne. let is : 2386384 + 830 ≤ 2390534 = omega arith in inr is)
    (λ ne. let is : 2386384 + 830 ≤ 2391674 = omega arith in inr is)

overlaps-apart : AreApart 0x03
overlaps-apart = each-kind (λ (kind : ℕ). kind ≢ 0x03 → IsApart kind 0x03)
    (λ ne. let is : 2386384 + 830 ≤ 2387214 = omega arith in inl is)
    (λ ne. absurd (ne refl))
    (λ ne. let is : 2387214 + 830 ≤ 2388044 = omega arith in inr is)
    (λ ne. let is : 2387214 + 830 ≤ 2388874 = omega arith in inr is)
    (λ ne. let is : 2387214 + 830 ≤ 2389704 = omega arith in inr is)
    (λ ne. let is : 2387214 + 830 ≤ 2391364 = omega arith in inr is)
    (λ ne. let is : 2387214 + 830 ≤ 2390534 = omega arith in inr is)
    (λ ne. let is : 2387214 + 830 ≤ 2391674 = omega arith in inr is)

moving-apart : AreApart 0x05
moving-apart = each-kind (λ (kind : ℕ). kind ≢ 0x05 → IsApart kind 0x05)
    (λ ne. let is : 2386384 + 830 ≤ 2388874 = omega arith in inl is)
    (λ ne. let is : 2387214 + 830 ≤ 2388874 = omega arith in inl is)
    (λ ne. let is : 2388044 + 830 ≤ 2388874 = omega arith in inl is)
    (λ ne. absurd (ne refl))
    (λ ne. let is : 2388874 + 830 ≤ 2389704 = omega arith in inr is)
    (λ ne. let is : 2388874 + 830 ≤ 2391364 = omega arith in inr is)
    (λ ne. let is : 2388874 + 830 ≤ 2390534 = omega arith in inr is)
    (λ ne. let is : 2388874 + 830 ≤ 2391674 = omega arith in inr is)

unclosed-apart : AreApart 0x06
unclosed-apart = each-kind (λ (kind : ℕ). kind ≢ 0x06 → IsApart kind 0x06)
    (λ ne. let is : 2386384 + 830 ≤ 2389704 = omega arith in inl is)
    (λ ne. let is : 2387214 + 830 ≤ 2389704 = omega arith in inl is)
    (λ ne. let is : 2388044 + 830 ≤ 2389704 = omega arith in inl is)
    (λ ne. let is : 2388874 + 830 ≤ 2389704 = omega arith in inl is)
    (λ ne. absurd (ne refl))
    (λ ne. let is : 2389704 + 830 ≤ 2391364 = omega arith in inr is)
    (λ ne. let is : 2389704 + 830 ≤ 2390534 = omega arith in inr is)
    (λ ne. let is : 2389704 + 830 ≤ 2391674 = omega arith in inr is)

faults-apart : AreApart 0x40
faults-apart = each-kind (λ (kind : ℕ). kind ≢ 0x40 → IsApart kind 0x40)
    (λ ne. let is : 2386384 + 830 ≤ 2391674 = omega arith in inl is)
    (λ ne. let is : 2387214 + 830 ≤ 2391674 = omega arith in inl is)
    (λ ne. let is : 2388044 + 830 ≤ 2391674 = omega arith in inl is)
    (λ ne. let is : 2388874 + 830 ≤ 2391674 = omega arith in inl is)
    (λ ne. let is : 2389704 + 830 ≤ 2391674 = omega arith in inl is)
    (λ ne. let is : 2391364 + 310 ≤ 2391674 = omega arith in inl is)
    (λ ne. let is : 2390534 + 830 ≤ 2391674 = omega arith in inl is)
    (λ ne. absurd (ne refl))

pub all-apart : (kind : ℕ) → Contains all_kinds kind → AreApart kind
all-apart = each-kind AreApart invalids-apart overlaps-apart bares-apart moving-apart unclosed-apart overs-apart gaps-apart faults-apart

-- ONE EVENT, by its type
same-kind : (e : Event) → by_kind (e ∷ []) e.kind ≡ e ∷ []
same-kind e = ap (λ (b : Bool). cond b (e ∷ []) []) (eq-eqb e.kind e.kind refl)

other-kind : (e : Event) (kind : ℕ) → kind ≢ e.kind → by_kind (e ∷ []) kind ≡ []
other-kind e kind ne = ap (λ (b : Bool). cond b (e ∷ []) []) (ne_eqb e.kind kind (λ is. ne (sym is)))

module _ (number : Card → List ℕ) (sure : Event → Bool) (e : Event) (x c : List ℕ) (others : (kind : ℕ) → Contains all_kinds kind → kind ≢ e.kind → table_in kind c ≡ table_in kind x)
    (noted : IsNotedSo number (sure e) (table_in e.kind x) e (table_in e.kind c)) where
  -- what comes of it in the places of its type, and of no other
  one-table : (kind : ℕ) → Contains all_kinds kind → AreNotedBut number sure (table_in kind x) (by_kind (e ∷ []) kind) (table_in kind c)
  one-table kind at = by (nat_eq kind e.kind) refl
    where
      by : (b : Bool) → nat_eq kind e.kind ≡ b → AreNotedBut number sure (table_in kind x) (by_kind (e ∷ []) kind) (table_in kind c)
      by true is =
          let here : AreNotedBut number sure (table_in e.kind x) (by_kind (e ∷ []) e.kind) (table_in e.kind c) =
          subst (λ (es : List Event). AreNotedBut number sure (table_in e.kind x) es (table_in e.kind c)) (sym (same-kind e)) (table_in e.kind c, noted, refl) in
          subst (λ (k : ℕ). AreNotedBut number sure (table_in k x) (by_kind (e ∷ []) k) (table_in k c)) (sym (eqb-true kind e.kind is)) here
      by false is =
          let ne = eqb-false kind e.kind is in
          subst (λ (es : List Event). AreNotedBut number sure (table_in kind x) es (table_in kind c)) (sym (other-kind e kind ne)) (others kind at ne)

  -- it is no over speeding
  one-event : e.kind ≢ OVER_SPEEDING → number_of c FIRST_OVER ≡ number_of x FIRST_OVER → number_of c OVER_COUNT ≡ number_of x OVER_COUNT → ShowsEvents number sure x (by_kind (e ∷ [])) c
  one-event other held many =
      let empty : by_kind (e ∷ []) OVER_SPEEDING ≡ [] = other-kind e OVER_SPEEDING (λ is. other (sym is)) in
      record {
        tables = one-table;
        first = subst (λ (es : List Event). IsFirstBut sure (number_of x FIRST_OVER) es (number_of c FIRST_OVER)) (sym empty) held;
        count = λ few. subst (λ (es : List Event). IsCountedBut sure (number_of x OVER_COUNT) es (number_of c OVER_COUNT)) (sym empty) (count-nothing sure [] (number_of x OVER_COUNT) (number_of c OVER_COUNT) tt few many);
      }

  -- or it is one
  one-over : e.kind ≡ OVER_SPEEDING → IsFirstSo (sure e) (number_of x FIRST_OVER) e (number_of c FIRST_OVER) → (number_of x OVER_COUNT ≤ 255 → IsCountedBut sure (number_of x OVER_COUNT) (e ∷ []) (number_of c OVER_COUNT)) → ShowsEvents number sure x (by_kind (e ∷ [])) c
  one-over is first count =
      let one : by_kind (e ∷ []) OVER_SPEEDING ≡ e ∷ [] = ap (λ (b : Bool). cond b (e ∷ []) []) (eq-eqb e.kind OVER_SPEEDING is) in
      record {
        tables = one-table;
        first = subst (λ (es : List Event). IsFirstBut sure (number_of x FIRST_OVER) es (number_of c FIRST_OVER)) (sym one) (number_of c FIRST_OVER, first, refl);
        count = λ few. subst (λ (es : List Event). IsCountedBut sure (number_of x OVER_COUNT) es (number_of c OVER_COUNT)) (sym one) (count few);
      }

module _ (number : Card → List ℕ) (long : AreNumbers number) (e : Event) (there : Contains all_kinds e.kind) (x c : List ℕ) (sized : length x ≡ 2485808) where
  -- AN EVENT was noted
  pub event-more : (v : UnitEvent) → e.kind ≢ OVER_SPEEDING → e.begin < 2 ^ 32 → e.end < 2 ^ 32 → IsEventOf number e v → IsEventNoted e.kind (fault_bytes v) x c → ShowsEvents number all_sure x (by_kind (e ∷ [])) c
  event-more v other begin end is done =
      let apart : AreApart e.kind = all-apart e.kind there in
      let numbers = numbers-same e.kind apart x c done.outside in
      one-event number all_sure e x c (others-same e.kind apart x c done.outside) (is_noted number e (fault_bytes v) x c sized (event_front_of number e v long other begin end is) done) other numbers.0 numbers.1

  -- A MOMENT OF IT: it was noted, or nothing has come of it, or its place is empty
  pub event-coming : (v : UnitEvent) → e.kind ≢ OVER_SPEEDING → e.begin < 2 ^ 32 → e.end < 2 ^ 32 → IsEventOf number e v → IsNotingEvent e.kind (fault_bytes v) x c → ShowsEvents number none_sure x (by_kind (e ∷ [])) c
  event-coming v other begin end is moment =
      let apart : AreApart e.kind = all-apart e.kind there in
      let numbers = numbers-same e.kind apart x c moment.outside in
      one-event number none_sure e x c (others-same e.kind apart x c moment.outside) (event-moment number e (fault_bytes v) x c sized (event_front_of number e v long other begin end is) moment) other numbers.0 numbers.1

  module _ (over : Over) (card : FullCardNumber) (begin : e.begin < 2 ^ 32) (end : e.end < 2 ^ 32) (is : IsOverOf number e over card) where
    abbrev front : List ℕ
    front = over_bytes over card

    small : over.begin < 2 ^ 32
    small = subst (λ (n : ℕ). n < 2 ^ 32) (sym is.begin) begin

    -- its entry was noted
    module _ (y : List ℕ) (done : IsEventNoted 0x07 front x y) where
      room : 580 ≤ length y
      room = enough over.begin front x sized y done

      over-noted : IsNoted number (table_in e.kind x) e (table_in e.kind y)
      over-noted = is_noted number e front x y sized (over_front_of number e over card long begin end is) (subst (λ (k : ℕ). IsEventNoted k front x y) (sym is.kind) done)

      held-first : number_of (with_first over.begin y) FIRST_OVER ≡ cond (nat_eq (number_of x FIRST_OVER) 0) e.begin (number_of x FIRST_OVER)
      held-first =
          let begin_is : over.begin ≡ e.begin = is.begin in
          let numbers = numbers-same 0x07 overs-apart x y done.outside in
          first-value over.begin y room small
          ∙ ap (λ (n : ℕ). cond (n == 0) over.begin n) numbers.0
          ∙ ap (λ (b : ℕ). cond (number_at x 572 4 == 0) b (number_at x 572 4)) begin_is

      held-count : number_of (with_first over.begin y) OVER_COUNT ≡ number_of x OVER_COUNT
      held-count =
          let numbers = numbers-same 0x07 overs-apart x y done.outside in
          number_after 572 4 576 4 y (with_first over.begin y) (first-outside over.begin y room) (omega arith) ∙ numbers.1

      -- the other types are as they were, where those of this image are
      aside : ((kind : ℕ) → table_in kind c ≡ table_in kind y) → (kind : ℕ) → Contains all_kinds kind → kind ≢ e.kind → table_in kind c ≡ table_in kind x
      aside same kind at ne = same kind ∙ others-same 0x07 overs-apart x y done.outside kind at (λ k. ne (k ∙ sym is.kind))

      -- AN OVER SPEEDING was noted, with both numbers
      both-noted : c ≡ with_one_more (with_first over.begin y) → ShowsEvents number all_sure x (by_kind (e ∷ [])) c
      both-noted last =
          let first = first-outside over.begin y room in
          let wide : 580 ≤ length (with_first over.begin y) = omega (arith, room, first.same_length) in
          let same : (kind : ℕ) → table_in kind c ≡ table_in kind y = λ kind. tables-both over.begin front x sized y c room last kind in
          let first_now : number_of c FIRST_OVER ≡ cond (nat_eq (number_of x FIRST_OVER) 0) e.begin (number_of x FIRST_OVER) =
          ap (λ (l : List ℕ). number_at l 572 4) last
          ∙ number_before 576 4 572 4 (with_first over.begin y) (with_one_more (with_first over.begin y)) (more-outside (with_first over.begin y) wide) (omega arith)
          ∙ held-first in
          let held : number_at (with_first over.begin y) 576 4 ≡ number_at x 576 4 = held-count in
          one-over number all_sure e x c (aside same) (subst (λ (rows : List (List ℕ)). IsNoted number (table_in e.kind x) e rows) (sym (same e.kind)) over-noted) is.kind first_now
          (λ few. count-all all_sure (number_of x OVER_COUNT) (e ∷ []) (number_of c OVER_COUNT)
          (ap (λ (l : List ℕ). number_at l 576 4) last
          ∙ more-value (with_first over.begin y) wide (omega (arith, held, few))
          ∙ ap (λ (n : ℕ). min 255 (n + 1)) held))

      -- or with the begin of the first one alone
      begin-noted : c ≡ with_first over.begin y → ShowsEvents number none_sure x (by_kind (e ∷ [])) c
      begin-noted last =
          let same : (kind : ℕ) → table_in kind c ≡ table_in kind y = λ kind. tables-first over.begin front x sized y c room last kind in
          let held : number_of c OVER_COUNT ≡ number_of x OVER_COUNT = ap (λ (l : List ℕ). number_at l 576 4) last ∙ held-count in
          one-over number none_sure e x c (aside same) (inl (subst (λ (rows : List (List ℕ)). IsNoted number (table_in e.kind x) e rows) (sym (same e.kind)) over-noted)) is.kind
          (inr (ap (λ (l : List ℕ). number_at l 572 4) last ∙ held-first))
          (λ few. count-nothing none_sure (e ∷ []) (number_of x OVER_COUNT) (number_of c OVER_COUNT) (refl, tt) few held)

    pub over-more : IsOverNoted over.begin (over_bytes over card) x c → ShowsEvents number all_sure x (by_kind (e ∷ [])) c
    over-more (y, done, last) = both-noted y done last

    -- a moment of its entry
    entry-coming : IsNotingEvent OVER_SPEEDING front x c → ShowsEvents number none_sure x (by_kind (e ∷ [])) c
    entry-coming moment =
        let numbers = numbers-same 0x07 overs-apart x c moment.outside in
        let held = numbers.1 in
        one-over number none_sure e x c (λ kind at ne. others-same 0x07 overs-apart x c moment.outside kind at (λ k. ne (k ∙ sym is.kind)))
        (event-moment number e front x c sized (over_front_of number e over card long begin end is) (subst (λ (k : ℕ). IsNotingEvent k front x c) (sym is.kind) moment)) is.kind (inl numbers.0)
        (λ few. count-nothing none_sure (e ∷ []) (number_of x OVER_COUNT) (number_of c OVER_COUNT) (refl, tt) few held)

    -- A MOMENT OF IT: of its entry; or that was noted, and the begin of the first one; or their number too
    pub over-coming : IsNotingOver over.begin (over_bytes over card) x c → ShowsEvents number none_sure x (by_kind (e ∷ [])) c
    over-coming (inl entry) = entry-coming entry
    over-coming (inr (y, done, inl last)) = begin-noted y done last
    over-coming (inr (y, done, inr last)) = shown-sure number none_sure (by_kind (e ∷ [])) x c (both-noted y done last)

-- BYTES THAT TELL OF NO EVENT: between the two numbers of over speedings and the places of events
pub between-nothing : (base size : ℕ) (x c : List ℕ) → SameOutside base size x c → 580 ≤ base → base + size ≤ 2386384 → SaysNothing x c
between-nothing base size x c same low high = record {
  tables = λ kind there. let above : 2386384 ≤ (table_of kind).base = table-high kind there in table-apart kind base size x c same (inr (omega (arith, high, above)));
  first_over = number_before base size 572 4 x c same (omega (arith, low));
  over_count = number_before base size 576 4 x c same (omega (arith, low));
}

-- and those that the journal writes
pub keeps-nothing : (x c : List ℕ) → KeepsEvents x c → SaysNothing x c
keeps-nothing x c keeps = record {
  tables = λ kind there. table-behind kind there x c keeps.rest;
  first_over = ap (big_number 4) (part_of 572 8 0 4 x c (omega arith) keeps.numbers);
  over_count = ap (big_number 4) (part_of 572 8 4 4 x c (omega arith) keeps.numbers);
}
