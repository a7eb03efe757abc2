-- Worked rows, computed by the checker: a file that nobody reads, a pointer with a place, and the newest of some records.
use Rattle.std.proofs.Common.{◌≡◌, [], ◌∷◌, refl}
use Rattle.std.specs.Prelude.{Some, None, codes}
use Rattle.std.specs.Fmt.{digits}
use Rattle.hex.specs.Hex.{encode_with}
use Rattle.json.specs.Json.{no_items, item, null, number}
use Rattle.json.specs.Print.{print, print_from, escape_byte}
use Rattle.json.specs.Tree.{json_tokens}
use Rattle.json_fields.specs.Dates.{date_of}
use Rattle.json_fields.specs.Shown.{items_shown}
use Rattle.file_json.specs.Days.{newest_items}
use Rattle.file_json.specs.Cards.{entry_shown}

-- an identifier that the regulation has not
other : print (json_tokens (entry_shown None 7 (record { fid = 0x0FFF; kind = 0; value = 1 ∷ 171 ∷ [] }))) ≡ codes "{\"place\":7,\"fileId\":\"0fff\",\"name\":\"other\",\"kind\":\"value\",\"length\":2,\"bytes\":\"01ab\"}"
unfolding print_from escape_byte digits encode_with
other = refl

-- a last download that never was
never : print (json_tokens (entry_shown None 0 (record { fid = 0x050E; kind = 0; value = 0 ∷ 0 ∷ 0 ∷ 0 ∷ [] }))) ≡ codes "{\"place\":0,\"fileId\":\"050e\",\"name\":\"cardDownload\",\"kind\":\"value\",\"length\":4,\"value\":{\"lastCardDownload\":null}}"
unfolding print_from escape_byte digits encode_with date_of
never = refl

-- a place of a begin, in Germany, of the minute 1 of 1970, and one that was never written
places : print (json_tokens (entry_shown None 0 (record { fid = 0x0506; kind = 0; value = 0 ∷ 0 ∷ 0 ∷ 0 ∷ 60 ∷ 0 ∷ 13 ∷ 0 ∷ 0 ∷ 0 ∷ 9 ∷ 0 ∷ 0 ∷ 0 ∷ 0 ∷ 0 ∷ 0 ∷ 0 ∷ 0 ∷ 0 ∷ 0 ∷ [] }))) ≡ codes "{\"place\":0,\"fileId\":\"0506\",\"name\":\"places\",\"kind\":\"value\",\"length\":21,\"value\":{\"placePointerNewestRecord\":0,\"placeRecords\":[{\"entryTime\":\"1970-01-01T00:01:00Z\",\"entryTypeDailyWorkPeriod\":{\"code\":0,\"name\":\"begin\"},\"dailyWorkPeriodCountry\":{\"code\":13,\"name\":\"D\"},\"dailyWorkPeriodRegion\":0,\"vehicleOdometerValue\":9},null]}}"
unfolding print_from escape_byte digits encode_with date_of items_shown lib.Utf8.encode
places = refl

-- of three records the last two, and all where more are wanted
newest : newest_items (Some 2) (item null (item (number (codes "1")) (item (number (codes "2")) no_items))) ≡ item (number (codes "1")) (item (number (codes "2")) no_items)
newest = refl

all_of_them : newest_items (Some 4) (item null (item (number (codes "1")) no_items)) ≡ item null (item (number (codes "1")) no_items)
all_of_them = refl
