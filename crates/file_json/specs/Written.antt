-- The names under which what a unit and its cards write is told.
use Rattle.std.specs.Prelude.{◌≡◌, ℕ, ◌+◌, if◌then◌else◌, List, [], ◌∷◌, Option, Some, None, codes, bytes_eq}
use Rattle.card_layout.specs.Fields.{place_in}
use Rattle.json_fields.specs.declared.fields.Field.{Field}
use Rattle.json_fields.specs.declared.fields.Form.{Form}
use Rattle.json_fields.specs.Names.{name_text}

-- where the field of a name begins in a table
abbrev pub place_named : (name : List ℕ) → List Field → ℕ
place_named name [] = 0
place_named name (f ∷ fs) = if bytes_eq name (name_text f.name) then 0 else f.width + place_named name fs

-- the field of a name begins where the k-th of these widths does, and so on with the next names and widths
abbrev pub StandFrom : (k : ℕ) → (widths : List ℕ) → List Field → (names : List (List ℕ)) → Type 0
StandFrom k widths fields [] = Unit {0}
StandFrom k widths fields (name ∷ names) = (place_named name fields ≡ place_in widths k)
    × StandFrom (k + 1) widths fields names

-- the form of the field of a name, where a field has it
abbrev pub form_named : (name : List ℕ) → List Field → Option Form
form_named name [] = None
form_named name (f ∷ fs) = if bytes_eq name (name_text f.name) then Some f.form else form_named name fs

-- the fields of these names have this form
abbrev pub HaveForm : Form → List Field → (names : List (List ℕ)) → Type 0
HaveForm form fields [] = Unit {0}
HaveForm form fields (name ∷ names) = (form_named name fields ≡ Some form) × HaveForm form fields names

-- the fields of an insertion behind its holder's names, up to the vehicle before
abbrev pub insertion_names : List (List ℕ)
insertion_names = codes "fullCardNumber" ∷ codes "cardExpiryDate" ∷ codes "cardInsertionTime"
    ∷ codes "vehicleOdometerValueAtInsertion" ∷ codes "cardSlotNumber" ∷ codes "cardWithdrawalTime"
    ∷ codes "vehicleOdometerValueAtWithdrawal" ∷ codes "previousVehicleInfo" ∷ []

-- the cards in the slots at the begin and at the end of an event or a fault of a unit
abbrev pub card_names : List (List ℕ)
card_names = codes "cardNumberDriverSlotBegin" ∷ codes "cardNumberCodriverSlotBegin"
    ∷ codes "cardNumberDriverSlotEnd" ∷ codes "cardNumberCodriverSlotEnd" ∷ []

-- the fields of a fault of a unit
abbrev pub fault_names : List (List ℕ)
fault_names = codes "faultType" ∷ codes "faultRecordPurpose" ∷ codes "faultBeginTime" ∷ codes "faultEndTime"
    ∷ card_names

-- those of an event, behind which stands the number of similar ones
abbrev pub event_names : List (List ℕ)
event_names = codes "eventType" ∷ codes "eventRecordPurpose" ∷ codes "eventBeginTime" ∷ codes "eventEndTime"
    ∷ card_names

-- those of an over speeding
abbrev pub over_names : List (List ℕ)
over_names = codes "eventType" ∷ codes "eventRecordPurpose" ∷ codes "eventBeginTime" ∷ codes "eventEndTime"
    ∷ codes "maxSpeedValue" ∷ codes "averageSpeedValue" ∷ codes "cardNumberDriverSlotBegin"
    ∷ codes "similarEventsNumber" ∷ []

-- those of an event of a card
abbrev pub card_event_names : List (List ℕ)
card_event_names = codes "eventType" ∷ codes "eventBeginTime" ∷ codes "eventEndTime"
    ∷ codes "eventVehicleRegistration" ∷ []

-- those of a vehicle of a card
abbrev pub vehicle_names : List (List ℕ)
vehicle_names = codes "vehicleOdometerBegin" ∷ codes "vehicleOdometerEnd" ∷ codes "vehicleFirstUse"
    ∷ codes "vehicleLastUse" ∷ codes "vehicleRegistration" ∷ codes "vuDataBlockCounter" ∷ []

-- those of a place
abbrev pub place_names : List (List ℕ)
place_names = codes "entryTime" ∷ codes "entryTypeDailyWorkPeriod" ∷ codes "dailyWorkPeriodCountry"
    ∷ codes "dailyWorkPeriodRegion" ∷ codes "vehicleOdometerValue" ∷ []
