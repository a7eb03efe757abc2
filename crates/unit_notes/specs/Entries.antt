-- What a unit notes, in bytes (Appendix 1, VuCardIWRecord, VuPlaceDailyWorkPeriodRecord, VuEventRecord, VuFaultRecord,
-- VuOverSpeedingEventRecord).
use Rattle.std.specs.Prelude.{ℕ, List, [], ◌∷◌, ◌++◌}
use Rattle.card_layout.specs.Fields.{joined}
use Rattle.tacho_types.specs.Numbers.{time_bytes, odometer_bytes}
use Rattle.tacho_types.specs.CardNumber.{card_number_bytes}
use Rattle.tacho_types.specs.Places.{place_bytes}
use Rattle.tacho_types.specs.declared.card_number.FullCardNumber.{FullCardNumber}
use Rattle.tacho_types.specs.declared.places.PlaceEntry.{PlaceEntry}
use Rattle.event_model.specs.declared.entries.Over.{Over}
use Rattle.event_model.specs.declared.kinds.TheConstants.{OVER_SPEEDING}
use Rattle.event_model.specs.Kinds.{purpose_of, purpose_number}
use Rattle.unit_notes.specs.declared.insertion.Insertion.{Insertion}
use Rattle.unit_notes.specs.declared.unit_event.UnitEvent.{UnitEvent}

-- what an insertion says of the card's holder, field by field (message_model, `insertion_widths`)
abbrev pub holder_fields : Insertion → List (List ℕ)
holder_fields v = v.surname.0 ∷ v.first.0 ∷ card_number_bytes v.number ∷ time_bytes v.expiry ∷ []

-- and what it says of the card's use
abbrev pub use_fields : Insertion → List (List ℕ)
use_fields v =
    time_bytes v.time ∷ odometer_bytes v.odometer ∷ (v.slot ∷ []) ∷ time_bytes v.out_time
    ∷ odometer_bytes v.out_odometer
    ∷ v.previous.0 ∷ time_bytes v.previous_time ∷ (v.manual ∷ []) ∷ []

-- the fields of an insertion
abbrev pub insertion_fields : Insertion → List (List ℕ)
insertion_fields v = holder_fields v ++ use_fields v

-- and its bytes
unfoldable pub insertion_bytes : Insertion → List ℕ
insertion_bytes v = joined (insertion_fields v)

-- a place of a card's holder: the card's number, and the place
abbrev pub unit_place_bytes : FullCardNumber → PlaceEntry → List ℕ
unit_place_bytes number entry = card_number_bytes number ++ place_bytes entry

-- the fields of a fault, by note_model's `fault_widths`; an event has a number of similar events behind them
abbrev pub fault_fields : UnitEvent → List (List ℕ)
fault_fields v =
    (v.kind ∷ []) ∷ (v.purpose ∷ []) ∷ time_bytes v.begin ∷ time_bytes v.end
    ∷ card_number_bytes v.driver_begin ∷ card_number_bytes v.codriver_begin
    ∷ card_number_bytes v.driver_end ∷ card_number_bytes v.codriver_end ∷ []

-- and as bytes
unfoldable pub fault_bytes : UnitEvent → List ℕ
fault_bytes v = joined (fault_fields v)

-- the fields of an over speeding before its number of similar events, by note_model's `over_widths`
abbrev pub over_fields : Over → FullCardNumber → List (List ℕ)
over_fields over driver =
    (OVER_SPEEDING ∷ []) ∷ (purpose_number (purpose_of OVER_SPEEDING) ∷ [])
    ∷ time_bytes (record { 0 = over.begin }) ∷ time_bytes (record { 0 = over.end })
    ∷ (over.most ∷ []) ∷ (over.average ∷ []) ∷ card_number_bytes driver ∷ []

-- and as bytes
unfoldable pub over_bytes : Over → FullCardNumber → List ℕ
over_bytes over driver = joined (over_fields over driver)
