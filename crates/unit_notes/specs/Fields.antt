-- What the entries that are noted tell, field by field.
use Rattle.std.specs.Prelude.{◌≡◌, ℕ, ◌^◌, ◌<◌, List, length, nat_eq}
use Rattle.card_layout.specs.Fields.{field_at, number_in}
use Rattle.trace_model.specs.declared.Card.{Card}
use Rattle.tacho_types.specs.CardNumber.{card_number_bytes}
use Rattle.tacho_types.specs.declared.card_number.FullCardNumber.{FullCardNumber}
use Rattle.tacho_types.specs.declared.places.PlaceEntry.{PlaceEntry}
use Rattle.event_model.specs.declared.kinds.TheConstants.{OVER_SPEEDING}
use Rattle.event_model.specs.declared.entries.Over.{Over}
use Rattle.event_model.specs.Kinds.{purpose_of, purpose_number}
use Rattle.message_model.specs.Records.{insertion_widths, place_widths}
use Rattle.event_model.specs.Events.{Event}
use Rattle.note_model.specs.Tables.{widths_of, held_in, number_or_none, HasRest}
use Rattle.unit_notes.specs.declared.insertion.Insertion.{Insertion}
use Rattle.unit_notes.specs.declared.unit_event.UnitEvent.{UnitEvent}
use Rattle.unit_notes.specs.Tables.{front_size}

-- ---- insertions and places

-- the parts of an insertion have their sizes, and its numbers fit their fields
pub record InsertionFits (v : Insertion) : Type 0 where
  pub surname : length v.surname.0 ≡ 36
  pub first : length v.first.0 ≡ 36
  pub number : length (card_number_bytes v.number) ≡ 18
  pub previous : length v.previous.0 ≡ 15
  pub expiry : v.expiry.0 < 2 ^ 32
  pub time : v.time.0 < 2 ^ 32
  pub odometer : v.odometer.0 < 2 ^ 24
  pub out_time : v.out_time.0 < 2 ^ 32
  pub out_odometer : v.out_odometer.0 < 2 ^ 24
  pub previous_time : v.previous_time.0 < 2 ^ 32

-- an entry tells an insertion
pub record TellsInsertion (v : Insertion) (e : List ℕ) : Type 0 where
  pub size : length e ≡ 129
  pub surname : field_at insertion_widths 0 e ≡ v.surname.0
  pub first : field_at insertion_widths 1 e ≡ v.first.0
  pub number : field_at insertion_widths 2 e ≡ card_number_bytes v.number
  pub expiry : number_in insertion_widths 3 e ≡ v.expiry.0
  pub time : number_in insertion_widths 4 e ≡ v.time.0
  pub odometer : number_in insertion_widths 5 e ≡ v.odometer.0
  pub slot : number_in insertion_widths 6 e ≡ v.slot
  pub out_time : number_in insertion_widths 7 e ≡ v.out_time.0
  pub out_odometer : number_in insertion_widths 8 e ≡ v.out_odometer.0
  pub previous : field_at insertion_widths 9 e ≡ v.previous.0
  pub previous_time : number_in insertion_widths 10 e ≡ v.previous_time.0
  pub manual : number_in insertion_widths 11 e ≡ v.manual

-- an entry tells a place of a card's holder
pub record TellsPlace (card : FullCardNumber) (v : PlaceEntry) (e : List ℕ) : Type 0 where
  pub size : length e ≡ 28
  pub number : field_at place_widths 0 e ≡ card_number_bytes card
  pub time : number_in place_widths 1 e ≡ v.time.0
  pub kind : number_in place_widths 2 e ≡ v.kind
  pub country : number_in place_widths 3 e ≡ v.country.0
  pub region : number_in place_widths 4 e ≡ v.region
  pub odometer : number_in place_widths 5 e ≡ v.odometer.0

-- ---- events and faults

-- what is noted is this event of a run: `number` gives the numbers of the cards
pub record IsEventOf (number : Card → List ℕ) (e : Event) (v : UnitEvent) : Type 0 where
  pub kind : v.kind ≡ e.kind
  pub purpose : v.purpose ≡ purpose_number (purpose_of e.kind)
  pub begin : v.begin.0 ≡ e.begin
  pub end : v.end.0 ≡ e.end
  pub driver_begin : card_number_bytes v.driver_begin ≡ number_or_none number e.at_begin.driver
  pub codriver_begin : card_number_bytes v.codriver_begin ≡ number_or_none number e.at_begin.codriver
  pub driver_end : card_number_bytes v.driver_end ≡ number_or_none number e.at_end.driver
  pub codriver_end : card_number_bytes v.codriver_end ≡ number_or_none number e.at_end.codriver
  pub average : e.average ≡ 0

-- and this over speeding
pub record IsOverOf (number : Card → List ℕ) (e : Event) (over : Over) (card : FullCardNumber) : Type 0 where
  pub kind : e.kind ≡ OVER_SPEEDING
  pub begin : over.begin ≡ e.begin
  pub end : over.end ≡ e.end
  pub most : over.most ≡ e.most
  pub average : over.average ≡ e.average
  pub driver : card_number_bytes card ≡ number_or_none number e.at_begin.driver

-- the front of an entry, all but its number of similar events, tells an event of a run
pub record IsFrontOf (number : Card → List ℕ) (e : Event) (front : List ℕ) : Type 0 where
  pub size : length front ≡ front_size e.kind
  pub kind : number_in (widths_of e.kind) 0 front ≡ e.kind
  pub purpose : number_in (widths_of e.kind) 1 front ≡ purpose_number (purpose_of e.kind)
  pub begin : number_in (widths_of e.kind) 2 front ≡ e.begin
  pub end : number_in (widths_of e.kind) 3 front ≡ e.end
  pub weight : (held_in e.kind front).weight ≡ e.average
  pub rest : HasRest number (nat_eq e.kind OVER_SPEEDING) e front
