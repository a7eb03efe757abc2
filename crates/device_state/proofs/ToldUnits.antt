-- What a unit tells is what its image tells.
use Rattle.std.proofs.Common.{◌≡◌, ◌∙◌, ℕ, ◌+◌, ◌-◌, ◌<◌, ◌≤◌, Option, Some, None, option_map, Err, IfSome, List, [], ◌∷◌, ◌++◌, length, map, take, set, ap, sym, refl, arith}
use Rattle.std.specs.List.{range_with_len}
use Rattle.std.proofs.lemmas.List.{take_more_set}
use Rattle.std.proofs.lemmas.List.FromFn.{map-range_with_len_more}
use Rattle.std.proofs.lemmas.Option.{slice_get_past}
use Rattle.activity_codec.specs.declared.entries.Entry.{Entry}
use Rattle.minute_model.specs.declared.Rule.{Rule}
use Rattle.tach_media.specs.Medium.{bytes_at}
use Rattle.tach_media.proofs.Runs.{if_told}
use Rattle.unit_model.specs.declared.layout.TheConstants.{VIN, REGISTRATION}
use Rattle.unit_model.specs.Decoding.{first_bad_place}
use Rattle.unit_model.specs.Image.{last_kept, odometer_at, recorded, recorded_indices, slot_date}
use Rattle.unit_model.specs.Versions.{version_of, rule_byte_of, rule_by, rule_of}
use Rattle.unit_model.proofs.Recorded.{recorded_length}
use Rattle.unit_owed.specs.Owed.{owed_to}
use Rattle.unit_memory.specs.declared.format.Identity.{Identity}
use Rattle.unit_memory.specs.declared.memory.UnitFacts.{UnitFacts}
use Rattle.unit_memory.specs.declared.fault.UnitFault.{UnitFault}
use Rattle.unit_memory.specs.declared.fault.UnitFault.TheVariants.{Failed, BadUnit}
use Rattle.unit_memory.specs.Fault.{IfBadUnit}
use Rattle.unit_memory.specs.Identified.{AreFacts}
use Rattle.unit_minutes.specs.declared.journal.reading.UnitDay.{UnitDay}
use Rattle.unit_minutes.specs.Reading.{IsRecordedDay}
use Rattle.state_text.specs.declared.line.OwedTo.{OwedTo}
use Rattle.device_state.specs.declared.unit.CardsSeen.{CardsSeen}
use Rattle.device_state.specs.declared.unit.Question.{Question}
use Rattle.device_state.specs.declared.unit.DaysTold.{DaysTold}
use Rattle.device_state.specs.declared.unit.UnitTold.{UnitTold}
use Rattle.device_state.specs.Units.{identity_of, date_at, days_told, row_session, row_number, asked, minutes_owed, owed_by, owed_in, unit_told, TellsUnit}

-- a row by what is read of it
pub row-told : (seen : CardsSeen) (x : List ℕ) (r session minutes : ℕ) (number : List ℕ) (q : Question) (es : List Entry) → session ≡ row_session x r → number ≡ row_number x r
    → q ≡ asked seen number session → es ≡ owed_to x number q.session q.after → minutes ≡ length es → owed_by session number minutes ≡ owed_in seen x r
row-told seen x r session minutes number q es s n a e m =
    ap (owed_by session number) (m ∙ ap length e ∙ ap (minutes_owed x number) a)
    ∙ ap (λ (k : ℕ). owed_by k number (minutes_owed x number (asked seen number k))) s
    ∙ ap (λ (l : List ℕ). owed_by (row_session x r) l (minutes_owed x l (asked seen l (row_session x r)))) n

-- rows and one more
pub rows-more : (seen : CardsSeen) (x : List ℕ) (rows : List (Option OwedTo)) (r : ℕ) (told : Option OwedTo) → r < length rows → take r rows ≡ map (owed_in seen x) (range_with_len 0 r) → told ≡ owed_in seen x r
    → take (r + 1) (set rows r told) ≡ map (owed_in seen x) (range_with_len 0 (r + 1))
rows-more seen x rows r told lt so is =
    take_more_set rows r told lt
    ∙ ap (λ (l : List (Option OwedTo)). l ++ told ∷ []) so
    ∙ ap (λ (v : Option OwedTo). map (owed_in seen x) (range_with_len 0 r) ++ v ∷ []) is
    ∙ sym (map-range_with_len_more (owed_in seen x) 0 r r (omega arith))

-- no day behind the last one
pub none-at : (x : List ℕ) (n days : ℕ) → days ≡ length (recorded x) → days ≤ n → date_at x n ≡ None
none-at x n days is le = ap (option_map (slot_date x)) (slice_get_past (recorded_indices x) n (omega (arith, recorded_length x, is, le)))

-- the date of a day that is there
pub date-of : (x : List ℕ) (n i : ℕ) (d : UnitDay) → IsRecordedDay x n i d → Some d.date.0 ≡ date_at x n
date-of x n i d at = ap Some at.day.date ∙ sym (ap (option_map (slot_date x)) at.nth)

abbrev pub made-days : (count : ℕ) → (first last : Option ℕ) → DaysTold
made-days count first last = record { count = count; first = first; last = last }

pub days-made : (x : List ℕ) (count : ℕ) (first last : Option ℕ) → count ≡ length (recorded x) → first ≡ date_at x 0 → last ≡ date_at x (count - 1) → made-days count first last ≡ days_told x
days-made x count first last c f l =
    ap (made-days count first) l ∙ ap (λ (o : Option ℕ). made-days count o (date_at x (count - 1))) f ∙ ap (λ (n : ℕ). made-days n (date_at x 0) (date_at x (n - 1))) c

-- a unit by its fields
abbrev pub made-unit : (version : ℕ) → Rule → Identity → (odometer kept : ℕ) → DaysTold → List (Option OwedTo) → UnitTold
made-unit version rule identity odometer kept days owed =
    record { version = version; rule = rule; identity = identity; odometer = odometer; kept = kept; days = days; owed = owed }

rule-is : (x : List ℕ) → rule_of x ≡ rule_by (rule_byte_of x)
unfolding rule_of
rule-is x = refl

abbrev pub made-identity : (vin registration : List ℕ) → (limit : ℕ) → Identity
made-identity vin registration limit = record { vin = vin; registration = record { 0 = registration }; limit = limit }

identity-is : (f : UnitFacts) (x : List ℕ) → AreFacts f x → made-identity f.vin f.registration.0 f.limit ≡ identity_of x
identity-is f x facts =
    ap (λ (v : List ℕ). made-identity v f.registration.0 f.limit) facts.vin
    ∙ ap (λ (r : List ℕ). made-identity (bytes_at x VIN.place VIN.size) r f.limit) facts.registration
    ∙ ap (made-identity (bytes_at x VIN.place VIN.size) (bytes_at x REGISTRATION.place REGISTRATION.size)) facts.limit

pub unit-made : (seen : CardsSeen) (x : List ℕ) (f : UnitFacts) (version : ℕ) (rule : Rule) (identity : Identity) (odometer kept : ℕ) (days : DaysTold) (owed : List (Option OwedTo)) → AreFacts f x
    → version ≡ f.version → rule ≡ rule_by f.rule_byte → identity ≡ made-identity f.vin f.registration.0 f.limit → odometer ≡ odometer_at x → kept ≡ last_kept x → days ≡ days_told x
    → owed ≡ map (owed_in seen x) (range_with_len 0 8) → made-unit version rule identity odometer kept days owed ≡ unit_told seen x
unit-made seen x f version rule identity odometer kept days owed facts v r i o k d w =
    let version-is : version ≡ version_of x = v ∙ facts.version in
    let rule-too : rule ≡ rule_of x = r ∙ ap rule_by facts.rule_byte ∙ sym (rule-is x) in
    let identity-too : identity ≡ identity_of x = i ∙ identity-is f x facts in
    cc

-- what a load that refuses an image says of it
pub bad-told : (seen : CardsSeen) (o : Option (List ℕ)) (fault : UnitFault) → IfBadUnit fault (λ p. IfSome o (λ x. first_bad_place x ≡ Some p)) → IfSome o (TellsUnit seen (Err fault))
bad-told seen o Failed bad = if_told o (TellsUnit seen (Err Failed)) (λ x is. tt)
bad-told seen o (BadUnit place) bad = bad
