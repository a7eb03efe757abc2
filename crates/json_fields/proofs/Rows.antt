-- Worked rows, computed by the checker: a vehicle entry as text, entries that were never written, codes, changes of activity, and times.
use Rattle.std.proofs.Common.{◌≡◌, ℕ, List, [], ◌∷◌, true, false, refl}
use Rattle.std.specs.Prelude.{codes, replicate}
use Rattle.std.specs.Fmt.{digits}
use Rattle.hex.specs.Hex.{encode_with}
use Rattle.json.specs.Print.{print, print_from, escape_byte}
use Rattle.json.specs.Tree.{json_tokens}
use Rattle.json_fields.specs.declared.codes.Coding.TheVariants.{EventFault, Nation}
use Rattle.json_fields.specs.declared.tables.TheConstants.{VEHICLE}
use Rattle.json_fields.specs.Dates.{date_of, time_text}
use Rattle.json_fields.specs.Shown.{record_shown, records_shown, items_shown, width_of_record}
use Rattle.json_fields.specs.Texts.{change_value, code_value}

-- from kilometre 0 to 528, of 1970-03-01 07:00 to 14:40, M-AB-1 of Germany, counter 1
abbrev entry : List ℕ
entry = 0 ∷ 0 ∷ 0 ∷ 0 ∷ 2 ∷ 16 ∷ 0 ∷ 78 ∷ 42 ∷ 240 ∷ 0 ∷ 78 ∷ 150 ∷ 192 ∷ 13 ∷ 1 ∷ 77 ∷ 45 ∷ 65 ∷ 66 ∷ 45 ∷ 49 ∷ 32 ∷ 32 ∷ 32 ∷ 32 ∷ 32 ∷ 32 ∷ 32 ∷ 0 ∷ 1 ∷ []

width : width_of_record VEHICLE ≡ 31
width = refl

text : print (json_tokens (record_shown VEHICLE entry)) ≡ codes "{\"vehicleOdometerBegin\":0,\"vehicleOdometerEnd\":528,\"vehicleFirstUse\":\"1970-03-01T07:00:00Z\",\"vehicleLastUse\":\"1970-03-01T14:40:00Z\",\"vehicleRegistration\":{\"vehicleRegistrationNation\":{\"code\":13,\"name\":\"D\"},\"vehicleRegistrationNumber\":{\"codePage\":1,\"text\":\"M-AB-1\"}},\"vuDataBlockCounter\":\"0001\"}"
unfolding print_from escape_byte digits encode_with date_of lib.Utf8.encode
text = refl

-- two vehicles of a new card
unused : print (json_tokens (records_shown 2 VEHICLE (replicate 62 0))) ≡ codes "[null,null]"
unfolding print_from escape_byte items_shown
unused = refl

-- a card that was put in while driving, and a code that no data type names
while_driving : print (json_tokens (code_value EventFault 5)) ≡ codes "{\"code\":5,\"name\":\"cardInsertionWhileDriving\"}"
unfolding print_from escape_byte digits
while_driving = refl

no_nation : print (json_tokens (code_value Nation 100)) ≡ codes "{\"code\":100,\"name\":null}"
unfolding print_from escape_byte digits
no_nation = refl

-- an event of the manufacturer's
of_its_own : print (json_tokens (code_value EventFault 0x80)) ≡ codes "{\"code\":128,\"name\":\"manufacturerSpecific\"}"
unfolding print_from escape_byte digits
of_its_own = refl

-- on a card: a driver of a crew, an activity that was entered by hand, and one of which nothing is known; an empty slot of a unit
of_a_crew : print (json_tokens (change_value true 22903)) ≡ codes "{\"minute\":375,\"slot\":\"driver\",\"crew\":true,\"present\":true,\"activity\":\"drive\"}"
unfolding print_from escape_byte digits
of_a_crew = refl

by_hand : print (json_tokens (change_value true 29152)) ≡ codes "{\"minute\":480,\"slot\":\"driver\",\"byHand\":true,\"present\":false,\"activity\":\"work\"}"
unfolding print_from escape_byte digits
by_hand = refl

unknown : print (json_tokens (change_value true 8792)) ≡ codes "{\"minute\":600,\"slot\":\"driver\",\"byHand\":false,\"present\":false,\"activity\":\"rest\"}"
unfolding print_from escape_byte digits
unknown = refl

empty_slot : print (json_tokens (change_value false 40960)) ≡ codes "{\"minute\":0,\"slot\":\"codriver\",\"crew\":false,\"present\":false,\"activity\":\"rest\"}"
unfolding print_from escape_byte digits
empty_slot = refl

-- the leap day of 1972, and the day after it
leap_day : time_text 68255999 ≡ codes "1972-02-29T23:59:59Z"
unfolding date_of
leap_day = refl

day_after : time_text 68256000 ≡ codes "1972-03-01T00:00:00Z"
unfolding date_of
day_after = refl
