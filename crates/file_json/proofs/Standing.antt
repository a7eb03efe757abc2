-- The parts of each message stand there.
use Rattle.std.proofs.Common.{◌≡◌, ◌∙◌, ℕ, ◌+◌, ◌*◌, ◌<◌, ◌≤◌, ◌^◌, List, [], ◌∷◌, ◌++◌, length, All, refl, ap, sym, subst, arith, append_assoc, length-append}
use Rattle.std.proofs.lemmas.List.{drop_at, length-map}
use Rattle.std.proofs.lemmas.List.Elements.{All-nil, All-cons}
use Rattle.byteorder.specs.Endian.{big_number, big_bytes}
use Rattle.byteorder.specs.Numbers.{length-bytes_high_first}
use Rattle.card_layout.specs.Fields.{joined}
use Rattle.card_layout.proofs.Numbers.{big_number-big_bytes}
use Rattle.json_fields.specs.declared.kinds.Kind.{Kind}
use Rattle.json_fields.specs.declared.kinds.Kind.TheVariants as kind
use Rattle.json_fields.specs.declared.names.Name.{Name}
use Rattle.json_fields.specs.declared.names.Name.TheVariants as name
use Rattle.message_model.specs.Messages.{Message, Overview, DayMessage, EventMessage, SpeedMessage, TechnicalMessage, AnOverview, ADay, AnEventList, ASpeedList, ATechnical, AreEntries, counted, word_bytes, number_of, content_of, IsOverview, IsDayMessage, IsEventMessage, IsSpeedMessage, IsTechnicalMessage, IsMessage}
use Rattle.file_view.proofs.Laid.{joined_length}
use Rattle.file_json.specs.declared.parts.Part.{Part}
use Rattle.file_json.specs.declared.parts.Part.TheVariants.{Fields, Record, List as ListOf, Changes}
use Rattle.file_json.specs.declared.parts.TheConstants.{OVERVIEW, ACTIVITIES, EVENTS, SPEEDS, TECHNICAL}
use Rattle.file_json.specs.Parts.{HasParts, width_of}
use Rattle.file_json.specs.Units.{parts_of}

-- a part in front of others
fields_part : (kind : Kind) (front behind : List ℕ) (ps : List Part) → length front ≡ width_of kind → HasParts ps behind → HasParts (Fields kind ∷ ps) (front ++ behind)
fields_part kind front behind ps wide has = ((tt, omega (arith, length-append front behind, wide)), subst (λ (l : List ℕ). HasParts ps l) (sym (drop_at front behind (width_of kind) wide)) has)

record_part : (name : Name) (kind : Kind) (front behind : List ℕ) (ps : List Part) → length front ≡ width_of kind → HasParts ps behind → HasParts (Record name kind ∷ ps) (front ++ behind)
record_part name kind front behind ps wide has = ((tt, omega (arith, length-append front behind, wide)), subst (λ (l : List ℕ). HasParts ps l) (sym (drop_at front behind (width_of kind) wide)) has)

-- entries behind their count, one byte or two
record IsList (count size : ℕ) (entries : List (List ℕ)) (behind : List ℕ) : Type 0 where
  number : big_number count (counted count entries ++ behind) ≡ length entries
  long : length (counted count entries) ≡ count + size * length entries

few_list : (size : ℕ) (entries : List (List ℕ)) (behind : List ℕ) → AreEntries 1 size entries → IsList 1 size entries behind
few_list size entries behind are =
    record {
      number = big_number-big_bytes 1 (length entries) are.few;
      long = length-append (big_bytes 1 (length entries)) (joined entries) ∙ omega (arith, length-bytes_high_first 1 (length entries), joined_length size entries are.sized);
    }

many_list : (size : ℕ) (entries : List (List ℕ)) (behind : List ℕ) → AreEntries 2 size entries → IsList 2 size entries behind
many_list size entries behind are =
    record {
      number = big_number-big_bytes 2 (length entries) are.few;
      long = length-append (big_bytes 2 (length entries)) (joined entries) ∙ omega (arith, length-bytes_high_first 2 (length entries), joined_length size entries are.sized);
    }

list_part : (name : Name) (count : ℕ) (kind : Kind) (entries : List (List ℕ)) (behind : List ℕ) (ps : List Part) → 1 ≤ count → count ≤ 2
    → IsList count (width_of kind) entries behind → HasParts ps behind → HasParts (ListOf name count kind ∷ ps) (counted count entries ++ behind)
list_part name count kind entries behind ps some few is has =
    let long : length (counted count entries) ≡ count + width_of kind * big_number count (counted count entries ++ behind) = is.long ∙ ap (λ (n : ℕ). count + width_of kind * n) (sym is.number) in
    let whole : length (counted count entries ++ behind) ≡ length (counted count entries) + length behind = length-append (counted count entries) behind in (
      ((some, few, omega (arith, whole, is.long)), omega (arith, whole, long)),
      subst (λ (l : List ℕ). HasParts ps l) (sym (drop_at (counted count entries) behind (count + width_of kind * big_number count (counted count entries ++ behind)) long)) has,
    )

-- change words are entries of two bytes
words_sized : (words : List ℕ) → All (λ e. length e ≡ 2) (word_bytes words)
words_sized [] = All-nil (λ e. length e ≡ 2)
words_sized (w ∷ words) = All-cons (λ e. length e ≡ 2) (big_bytes 2 w) (word_bytes words) (length-bytes_high_first 2 w) (words_sized words)

changes_part : (words behind : List ℕ) (ps : List Part) → length words < 2 ^ 16 → HasParts ps behind → HasParts (Changes ∷ ps) (counted 2 (word_bytes words) ++ behind)
changes_part words behind ps few has =
    let is = many_list 2 (word_bytes words) behind (record { few = omega (arith, length-map words (big_bytes 2), few); sized = words_sized words }) in
    let long : length (counted 2 (word_bytes words)) ≡ 2 + 2 * big_number 2 (counted 2 (word_bytes words) ++ behind) = is.long ∙ ap (λ (n : ℕ). 2 + 2 * n) (sym is.number) in
    let whole : length (counted 2 (word_bytes words) ++ behind) ≡ length (counted 2 (word_bytes words)) + length behind = length-append (counted 2 (word_bytes words)) behind in (
      (omega (arith, whole, is.long), omega (arith, whole, long)),
      subst (λ (l : List ℕ). HasParts ps l) (sym (drop_at (counted 2 (word_bytes words)) behind (2 + 2 * big_number 2 (counted 2 (word_bytes words) ++ behind)) long)) has,
    )

-- the signature ends a message
signed : (signature : List ℕ) → length signature ≡ 128 → HasParts (Fields kind.Signature ∷ []) (signature ++ [])
signed signature wide = fields_part kind.Signature signature [] [] wide refl

overview_parts : (m : Overview) → IsOverview m → HasParts OVERVIEW (content_of (AnOverview m))
overview_parts m is =
    let has =
    fields_part kind.Certificates (m.state_certificate ++ m.unit_certificate)
    ((m.vin ++ (m.registration ++ (big_bytes 4 m.now ++ (big_bytes 4 m.begin ++ (big_bytes 4 m.end ++ (big_bytes 1 m.slot_status ++ m.last_download)))))) ++ (counted 1 m.locks ++ (counted 1 m.controls ++ (m.signature ++ []))))
    (Fields kind.VehicleOfUnit ∷ ListOf name.VuCompanyLocksRecords 1 kind.Lock ∷ ListOf name.VuControlActivityRecords 1 kind.Control ∷ Fields kind.Signature ∷ [])
    (length-append m.state_certificate m.unit_certificate ∙ omega (arith, is.certificates.0, is.certificates.1))
    (fields_part kind.VehicleOfUnit (m.vin ++ (m.registration ++ (big_bytes 4 m.now ++ (big_bytes 4 m.begin ++ (big_bytes 4 m.end ++ (big_bytes 1 m.slot_status ++ m.last_download))))))
    (counted 1 m.locks ++ (counted 1 m.controls ++ (m.signature ++ [])))
    (ListOf name.VuCompanyLocksRecords 1 kind.Lock ∷ ListOf name.VuControlActivityRecords 1 kind.Control ∷ Fields kind.Signature ∷ [])
    (length-append m.vin (m.registration ++ (big_bytes 4 m.now ++ (big_bytes 4 m.begin ++ (big_bytes 4 m.end ++ (big_bytes 1 m.slot_status ++ m.last_download)))))
    ∙ omega (arith, is.vehicle.0, is.vehicle.1, is.last, length-append m.registration (big_bytes 4 m.now ++ (big_bytes 4 m.begin ++ (big_bytes 4 m.end ++ (big_bytes 1 m.slot_status ++ m.last_download))))))
    (list_part name.VuCompanyLocksRecords 1 kind.Lock m.locks (counted 1 m.controls ++ (m.signature ++ [])) (ListOf name.VuControlActivityRecords 1 kind.Control ∷ Fields kind.Signature ∷ []) (omega arith) (omega arith)
    (few_list 98 m.locks (counted 1 m.controls ++ (m.signature ++ [])) is.locks)
    (list_part name.VuControlActivityRecords 1 kind.Control m.controls (m.signature ++ []) (Fields kind.Signature ∷ []) (omega arith) (omega arith)
    (few_list 31 m.controls (m.signature ++ []) is.controls)
    (signed m.signature is.signed)))) in
    let laid : content_of (AnOverview m) ≡ (m.state_certificate ++ m.unit_certificate) ++ ((m.vin ++ (m.registration ++ (big_bytes 4 m.now ++ (big_bytes 4 m.begin ++ (big_bytes 4 m.end ++ (big_bytes 1 m.slot_status ++ m.last_download)))))) ++ (counted 1 m.locks ++ (counted 1 m.controls ++ (m.signature ++ [])))) = simp append_assoc in
    subst (λ (l : List ℕ). HasParts OVERVIEW l) (sym laid) has

day_parts : (m : DayMessage) → IsDayMessage m → HasParts ACTIVITIES (content_of (ADay m))
day_parts m is =
    let has =
    fields_part kind.Day (big_bytes 4 m.date ++ big_bytes 3 m.odometer)
    (counted 2 m.insertions ++ (counted 2 (word_bytes m.words) ++ (counted 1 m.places ++ (counted 2 m.conditions ++ (m.signature ++ [])))))
    (ListOf name.VuCardIWRecords 2 kind.Insertion ∷ Changes ∷ ListOf name.VuPlaceDailyWorkPeriodRecords 1 kind.UnitPlace ∷ ListOf name.SpecificConditionRecords 2 kind.Condition ∷ Fields kind.Signature ∷ [])
    refl
    (list_part name.VuCardIWRecords 2 kind.Insertion m.insertions (counted 2 (word_bytes m.words) ++ (counted 1 m.places ++ (counted 2 m.conditions ++ (m.signature ++ []))))
    (Changes ∷ ListOf name.VuPlaceDailyWorkPeriodRecords 1 kind.UnitPlace ∷ ListOf name.SpecificConditionRecords 2 kind.Condition ∷ Fields kind.Signature ∷ []) (omega arith) (omega arith)
    (many_list 129 m.insertions (counted 2 (word_bytes m.words) ++ (counted 1 m.places ++ (counted 2 m.conditions ++ (m.signature ++ [])))) is.insertions)
    (changes_part m.words (counted 1 m.places ++ (counted 2 m.conditions ++ (m.signature ++ [])))
    (ListOf name.VuPlaceDailyWorkPeriodRecords 1 kind.UnitPlace ∷ ListOf name.SpecificConditionRecords 2 kind.Condition ∷ Fields kind.Signature ∷ []) is.few
    (list_part name.VuPlaceDailyWorkPeriodRecords 1 kind.UnitPlace m.places (counted 2 m.conditions ++ (m.signature ++ []))
    (ListOf name.SpecificConditionRecords 2 kind.Condition ∷ Fields kind.Signature ∷ []) (omega arith) (omega arith)
    (few_list 28 m.places (counted 2 m.conditions ++ (m.signature ++ [])) is.places)
    (list_part name.SpecificConditionRecords 2 kind.Condition m.conditions (m.signature ++ []) (Fields kind.Signature ∷ []) (omega arith) (omega arith)
    (many_list 5 m.conditions (m.signature ++ []) is.conditions)
    (signed m.signature is.signed))))) in
    let laid : content_of (ADay m) ≡ (big_bytes 4 m.date ++ big_bytes 3 m.odometer) ++ (counted 2 m.insertions ++ (counted 2 (word_bytes m.words) ++ (counted 1 m.places ++ (counted 2 m.conditions ++ (m.signature ++ []))))) = simp append_assoc in
    subst (λ (l : List ℕ). HasParts ACTIVITIES l) (sym laid) has

event_parts : (m : EventMessage) → IsEventMessage m → HasParts EVENTS (content_of (AnEventList m))
event_parts m is =
    let has =
    list_part name.VuFaultRecords 1 kind.UnitFault m.faults
    (counted 1 m.events ++ ((big_bytes 4 m.last_control ++ (big_bytes 4 m.first_over ++ big_bytes 1 m.over_count)) ++ (counted 1 m.overs ++ (counted 1 m.adjustments ++ (m.signature ++ [])))))
    (ListOf name.VuEventRecords 1 kind.UnitEvent ∷ Record name.VuOverSpeedingControlData kind.OverspeedControl ∷ ListOf name.VuOverSpeedingEventRecords 1 kind.Overspeed ∷ ListOf name.VuTimeAdjustmentRecords 1 kind.Adjustment ∷ Fields kind.Signature ∷ []) (omega arith) (omega arith)
    (few_list 82 m.faults (counted 1 m.events ++ ((big_bytes 4 m.last_control ++ (big_bytes 4 m.first_over ++ big_bytes 1 m.over_count)) ++ (counted 1 m.overs ++ (counted 1 m.adjustments ++ (m.signature ++ []))))) is.faults)
    (list_part name.VuEventRecords 1 kind.UnitEvent m.events
    ((big_bytes 4 m.last_control ++ (big_bytes 4 m.first_over ++ big_bytes 1 m.over_count)) ++ (counted 1 m.overs ++ (counted 1 m.adjustments ++ (m.signature ++ []))))
    (Record name.VuOverSpeedingControlData kind.OverspeedControl ∷ ListOf name.VuOverSpeedingEventRecords 1 kind.Overspeed ∷ ListOf name.VuTimeAdjustmentRecords 1 kind.Adjustment ∷ Fields kind.Signature ∷ []) (omega arith) (omega arith)
    (few_list 83 m.events ((big_bytes 4 m.last_control ++ (big_bytes 4 m.first_over ++ big_bytes 1 m.over_count)) ++ (counted 1 m.overs ++ (counted 1 m.adjustments ++ (m.signature ++ [])))) is.events)
    (record_part name.VuOverSpeedingControlData kind.OverspeedControl (big_bytes 4 m.last_control ++ (big_bytes 4 m.first_over ++ big_bytes 1 m.over_count)) (counted 1 m.overs ++ (counted 1 m.adjustments ++ (m.signature ++ [])))
    (ListOf name.VuOverSpeedingEventRecords 1 kind.Overspeed ∷ ListOf name.VuTimeAdjustmentRecords 1 kind.Adjustment ∷ Fields kind.Signature ∷ []) refl
    (list_part name.VuOverSpeedingEventRecords 1 kind.Overspeed m.overs (counted 1 m.adjustments ++ (m.signature ++ []))
    (ListOf name.VuTimeAdjustmentRecords 1 kind.Adjustment ∷ Fields kind.Signature ∷ []) (omega arith) (omega arith)
    (few_list 31 m.overs (counted 1 m.adjustments ++ (m.signature ++ [])) is.overs)
    (list_part name.VuTimeAdjustmentRecords 1 kind.Adjustment m.adjustments (m.signature ++ []) (Fields kind.Signature ∷ []) (omega arith) (omega arith)
    (few_list 98 m.adjustments (m.signature ++ []) is.adjustments)
    (signed m.signature is.signed))))) in
    let laid : content_of (AnEventList m) ≡ counted 1 m.faults ++ (counted 1 m.events ++ ((big_bytes 4 m.last_control ++ (big_bytes 4 m.first_over ++ big_bytes 1 m.over_count)) ++ (counted 1 m.overs ++ (counted 1 m.adjustments ++ (m.signature ++ []))))) = simp append_assoc in
    subst (λ (l : List ℕ). HasParts EVENTS l) (sym laid) has

speed_parts : (m : SpeedMessage) → IsSpeedMessage m → HasParts SPEEDS (content_of (ASpeedList m))
speed_parts m is =
    list_part name.VuDetailedSpeedBlocks 2 kind.SpeedBlock m.blocks (m.signature ++ []) (Fields kind.Signature ∷ []) (omega arith) (omega arith)
    (many_list 64 m.blocks (m.signature ++ []) is.blocks)
    (signed m.signature is.signed)

technical_parts : (m : TechnicalMessage) → IsTechnicalMessage m → HasParts TECHNICAL (content_of (ATechnical m))
technical_parts m is =
    record_part name.VuIdentification kind.UnitIdentification m.identification (m.sensor ++ (counted 1 m.calibrations ++ (m.signature ++ [])))
    (Record name.SensorPaired kind.Sensor ∷ ListOf name.VuCalibrationRecords 1 kind.Calibration ∷ Fields kind.Signature ∷ []) is.unit.0
    (record_part name.SensorPaired kind.Sensor m.sensor (counted 1 m.calibrations ++ (m.signature ++ [])) (ListOf name.VuCalibrationRecords 1 kind.Calibration ∷ Fields kind.Signature ∷ []) is.unit.1
    (list_part name.VuCalibrationRecords 1 kind.Calibration m.calibrations (m.signature ++ []) (Fields kind.Signature ∷ []) (omega arith) (omega arith)
    (few_list 167 m.calibrations (m.signature ++ []) is.calibrations)
    (signed m.signature is.signed)))

-- EACH MESSAGE has its parts
pub has_parts : (m : Message) → IsMessage m → HasParts (parts_of (number_of m)) (content_of m)
has_parts (AnOverview m) is = overview_parts m is
has_parts (ADay m) is = day_parts m is
has_parts (AnEventList m) is = event_parts m is
has_parts (ASpeedList m) is = speed_parts m is
has_parts (ATechnical m) is = technical_parts m is
