-- The text of a unit file is read as its JSON, and tells the file.
use Rattle.std.proofs.Common.{◌≡◌, ◌∙◌, ℕ, zero, suc, ◌+◌, ◌-◌, ◌*◌, ◌%◌, ◌<◌, ◌≤◌, ◌^◌, Some, List, [], ◌∷◌, ◌++◌, length, take, drop, map, All, refl, ap, sym, subst, arith, rules, length-append, length-drop}
use Rattle.std.specs.Prelude.{Option, None, Bool, false}
use Rattle.std.proofs.lemmas.List.{take-append-drop, same_from_push, length-take-le}
use Rattle.std.proofs.lemmas.List.Elements.{All-head, All-tail}
use Rattle.std.proofs.lemmas.Fmt.{decimal_injective}
use Rattle.byteorder.specs.Endian.{big_number}
use Rattle.byteorder.specs.Numbers.{big_from-take}
use Rattle.card_layout.specs.Fields.{IsBytes, joined}
use Rattle.card_layout.proofs.Cuts.{IsBytes-take, IsBytes-drop}
use Rattle.card_layout.proofs.Numbers.{big_number-injective}
use Rattle.json.specs.Json.{Json, Items, Members, no_members, document}
use Rattle.json.specs.Print.{print}
use Rattle.json.specs.Tree.{json_tokens, HasNumbers, ItemsHaveNumbers, MembersHaveNumbers, depth, items_depth, members_depth}
use Rattle.json.proofs.Printed.Trees.{document-print}
use Rattle.json.proofs.Printed.Decimals.{IsNumber-decimal}
use Rattle.json_fields.specs.declared.kinds.Kind.{Kind}
use Rattle.json_fields.specs.declared.kinds.Kind.TheVariants as kind
use Rattle.json_fields.specs.declared.names.Name.{Name}
use Rattle.json_fields.specs.Kinds.{fields_of}
use Rattle.json_fields.specs.Shown.{items_shown, AreFields}
use Rattle.file_view.specs.UnitFiles.{days_told}
use Rattle.json_fields.proofs.Cutting.{by_test}
use Rattle.json_fields.proofs.Forms.{change-tells, front-bytes}
use Rattle.json_fields.proofs.Fronts.{two_parts, members_front, items_front, fields_numbers, fields_depth}
use Rattle.json_fields.proofs.Taking.{text_in, members_in, first_in, behind_in, value_in, items_in, first_item, behind_item, count_in}
use Rattle.json_fields.proofs.Telling.{count-shown, items_flat, items_numbers, members_flat, members_numbers}
use Rattle.message_model.specs.Messages.{Message, AnOverview, ADay, AnEventList, ASpeedList, ATechnical, number_of, content_of, message_bytes, IsMessage, IsUnitFile}
use Rattle.file_json.specs.declared.parts.Part.{Part}
use Rattle.file_json.specs.declared.parts.Part.TheVariants.{Fields, Record, List as ListOf, Changes}
use Rattle.file_json.specs.Parts.{HasParts, IsThere, changes_shown, part_len, part_then, parts_then, width_of}
use Rattle.file_json.specs.Units.{IsUnitJson, is_left_out, json_of_unit, message_shown, messages_shown, messages_told, parts_of}
use Rattle.file_json.proofs.LastDays.{messages_behind, first_out, first_kept}
use Rattle.file_json.proofs.Standing.{has_parts}

-- every table can be shown
pub kinds_are : (k : Kind) → AreFields (fields_of k)
kinds_are kind.Certificates = search rules
kinds_are kind.VehicleOfUnit = search rules
kinds_are kind.Lock = search rules
kinds_are kind.Control = search rules
kinds_are kind.Signature = search rules
kinds_are kind.Day = search rules
kinds_are kind.Insertion = search rules
kinds_are kind.UnitPlace = search rules
kinds_are kind.Condition = search rules
kinds_are kind.UnitFault = search rules
kinds_are kind.UnitEvent = search rules
kinds_are kind.OverspeedControl = search rules
kinds_are kind.Overspeed = search rules
kinds_are kind.Adjustment = search rules
kinds_are kind.SpeedBlock = search rules
kinds_are kind.UnitIdentification = search rules
kinds_are kind.Sensor = search rules
kinds_are kind.Calibration = search rules
kinds_are kind.Icc = search rules
kinds_are kind.Ic = search rules
kinds_are kind.ApplicationIdentification = search rules
kinds_are kind.CardCertificate = search rules
kinds_are kind.Identification = search rules
kinds_are kind.CardDownload = search rules
kinds_are kind.Licence = search rules
kinds_are kind.CardEvent = search rules
kinds_are kind.CardFault = search rules
kinds_are kind.Vehicle = search rules
kinds_are kind.CardPlace = search rules
kinds_are kind.CurrentUse = search rules
kinds_are kind.DailyRecord = search rules
kinds_are kind.CardControl = search rules

-- ---- what is told

-- a number in one byte or two tells them
pub front_number : (n : ℕ) (xs ys : List ℕ) → n ≤ length xs → n ≤ length ys → IsBytes xs → IsBytes ys → big_number n xs ≡ big_number n ys → take n xs ≡ take n ys
front_number n xs ys lx ly bx by e =
    big_number-injective n (take n xs) (take n ys) (length-take-le n xs lx) (length-take-le n ys ly) (IsBytes-take n xs bx) (IsBytes-take n ys by)
    (big_from-take 0 n n xs (omega arith) ∙ e ∙ sym (big_from-take 0 n n ys (omega arith)))

count-changes : (on_card : Bool) (n : ℕ) (bytes : List ℕ) → count_in (changes_shown on_card n bytes) ≡ n
unfolding changes_shown
count-changes on_card zero bytes = refl
count-changes on_card (suc n) bytes = ap suc (count-changes on_card n (drop 2 bytes))

word_low : (bytes : List ℕ) → IsBytes bytes → big_number 2 bytes < 65536
word_low bytes fits = omega (arith, fits 0, fits 1)

changes_front : (on_card : Bool) (n : ℕ) (xs ys : List ℕ) → 2 * n ≤ length xs → 2 * n ≤ length ys → IsBytes xs → IsBytes ys → changes_shown on_card n xs ≡ changes_shown on_card n ys → take (2 * n) xs ≡ take (2 * n) ys
unfolding changes_shown
changes_front on_card zero xs ys lx ly bx by e = refl
changes_front on_card (suc n) xs ys lx ly bx by e =
    let word : big_number 2 (take 2 xs) ≡ big_number 2 (take 2 ys) =
    change-tells on_card (big_number 2 (take 2 xs)) (big_number 2 (take 2 ys)) (word_low (take 2 xs) (IsBytes-take 2 xs bx)) (word_low (take 2 ys) (IsBytes-take 2 ys by)) (ap first_item e) in
    let front : take 2 xs ≡ take 2 ys = front_number 2 xs ys (omega (arith, lx)) (omega (arith, ly)) bx by (sym (big_from-take 0 2 2 xs (omega arith)) ∙ word ∙ big_from-take 0 2 2 ys (omega arith)) in
    let behind = changes_front on_card n (drop 2 xs) (drop 2 ys) (omega (arith, length-drop 2 xs, lx)) (omega (arith, length-drop 2 ys, ly)) (IsBytes-drop 2 xs bx) (IsBytes-drop 2 ys by) (ap behind_item e) in
    let more : 2 * suc n ≡ 2 + 2 * n = omega arith in
    rw more (two_parts 2 (2 * n) xs ys front behind)

-- what a part and what stands behind it make tells both
record IsTold (p : Part) (xs ys : List ℕ) (more others : Members) : Type 0 where
  long : part_len p xs ≡ part_len p ys
  own : take (part_len p xs) xs ≡ take (part_len p xs) ys
  behind : more ≡ others

list_told : (name : Name) (count : ℕ) (k : Kind) (xs ys : List ℕ) (more others : Members) → IsThere (ListOf name count k) xs → IsThere (ListOf name count k) ys → IsBytes xs → IsBytes ys
    → part_then (ListOf name count k) xs more ≡ part_then (ListOf name count k) ys others → IsTold (ListOf name count k) xs ys more others
list_told name count k xs ys more others hx hy bx by e =
    let items = ap (λ ms. items_in (first_in ms)) e in
    let same : big_number count xs ≡ big_number count ys = sym (count-shown (big_number count xs) (fields_of k) (drop count xs)) ∙ ap count_in items ∙ count-shown (big_number count ys) (fields_of k) (drop count ys) in
    let alike : items_shown (big_number count xs) (fields_of k) (drop count xs) ≡ items_shown (big_number count xs) (fields_of k) (drop count ys) = items ∙ ap (λ (m : ℕ). items_shown m (fields_of k) (drop count ys)) (sym same) in
    let swap : width_of k * big_number count xs ≡ big_number count xs * width_of k = grind arith in
    let head : take count xs ≡ take count ys = front_number count xs ys hx.0.2 hy.0.2 bx by same in
    let long : part_len (ListOf name count k) xs ≡ part_len (ListOf name count k) ys = ap (λ (m : ℕ). count + width_of k * m) same in
    let records = items_front (big_number count xs) (fields_of k) (drop count xs) (drop count ys) (kinds_are k) (omega (arith, length-drop count xs, hx.1, swap)) (omega (arith, length-drop count ys, hy.1, long, swap)) (IsBytes-drop count xs bx) (IsBytes-drop count ys by) alike in
    record {
      long = long;
      own = two_parts count (width_of k * big_number count xs) xs ys head (rw swap records);
      behind = ap behind_in e;
    }

changes_told : (xs ys : List ℕ) (more others : Members) → IsThere Changes xs → IsThere Changes ys → IsBytes xs → IsBytes ys → part_then Changes xs more ≡ part_then Changes ys others → IsTold Changes xs ys more others
changes_told xs ys more others hx hy bx by e =
    let items = ap (λ ms. items_in (first_in ms)) e in
    let same : big_number 2 xs ≡ big_number 2 ys = sym (count-changes false (big_number 2 xs) (drop 2 xs)) ∙ ap count_in items ∙ count-changes false (big_number 2 ys) (drop 2 ys) in
    let alike : changes_shown false (big_number 2 xs) (drop 2 xs) ≡ changes_shown false (big_number 2 xs) (drop 2 ys) = items ∙ ap (λ (m : ℕ). changes_shown false m (drop 2 ys)) (sym same) in
    let head : take 2 xs ≡ take 2 ys = front_number 2 xs ys hx.0 hy.0 bx by same in
    let long : part_len Changes xs ≡ part_len Changes ys = ap (λ (m : ℕ). 2 + 2 * m) same in
    let words = changes_front false (big_number 2 xs) (drop 2 xs) (drop 2 ys) (omega (arith, length-drop 2 xs, hx.1)) (omega (arith, length-drop 2 ys, hy.1, long)) (IsBytes-drop 2 xs bx) (IsBytes-drop 2 ys by) alike in
    record { long = long; own = two_parts 2 (2 * big_number 2 xs) xs ys head words; behind = ap behind_in e }

part_told : (p : Part) (xs ys : List ℕ) (more others : Members) → IsThere p xs → IsThere p ys → IsBytes xs → IsBytes ys → part_then p xs more ≡ part_then p ys others → IsTold p xs ys more others
part_told (Fields k) xs ys more others hx hy bx by e =
    let told = members_front (fields_of k) xs ys more others (kinds_are k) hx.1 hy.1 bx by e in
    record { long = refl; own = told.0; behind = told.1 }
part_told (Record name k) xs ys more others hx hy bx by e =
    let told = members_front (fields_of k) xs ys no_members no_members (kinds_are k) hx.1 hy.1 bx by (ap (λ ms. members_in (first_in ms)) e) in
    record { long = refl; own = told.0; behind = ap behind_in e }
part_told (ListOf name count k) xs ys more others hx hy bx by e = list_told name count k xs ys more others hx hy bx by e
part_told Changes xs ys more others hx hy bx by e = changes_told xs ys more others hx hy bx by e

parts_tell : (ps : List Part) (xs ys : List ℕ) → HasParts ps xs → HasParts ps ys → IsBytes xs → IsBytes ys → parts_then ps xs no_members ≡ parts_then ps ys no_members → xs ≡ ys
parts_tell [] xs ys hx hy bx by e = hx ∙ sym hy
parts_tell (p ∷ ps) xs ys hx hy bx by e =
    let told = part_told p xs ys (parts_then ps (drop (part_len p xs) xs) no_members) (parts_then ps (drop (part_len p ys) ys) no_members) hx.0 hy.0 bx by e in
    let there : HasParts ps (drop (part_len p xs) ys) = subst (λ (n : ℕ). HasParts ps (drop n ys)) (sym told.long) hy.1 in
    let made : parts_then ps (drop (part_len p xs) xs) no_members ≡ parts_then ps (drop (part_len p xs) ys) no_members = told.behind ∙ ap (λ (n : ℕ). parts_then ps (drop n ys) no_members) (sym told.long) in
    let behind = parts_tell ps (drop (part_len p xs) xs) (drop (part_len p xs) ys) hx.1 there (IsBytes-drop (part_len p xs) xs bx) (IsBytes-drop (part_len p xs) ys by) made in
    sym (take-append-drop (part_len p xs) xs) ∙ ap (λ (l : List ℕ). l ++ drop (part_len p xs) xs) told.own ∙ ap (λ (l : List ℕ). take (part_len p xs) ys ++ l) behind ∙ take-append-drop (part_len p xs) ys

number_low : (m : Message) → number_of m < 2 ^ 64
number_low (AnOverview m) = omega arith
number_low (ADay m) = omega arith
number_low (AnEventList m) = omega arith
number_low (ASpeedList m) = omega arith
number_low (ATechnical m) = omega arith

message_tells : (m n : Message) (place other : ℕ) → IsMessage m → IsMessage n → IsBytes (message_bytes m) → IsBytes (message_bytes n)
    → message_shown place (message_bytes m) ≡ message_shown other (message_bytes n) → message_bytes m ≡ message_bytes n
message_tells m n place other im ins bm bn e =
    let number : number_of m ≡ number_of n = decimal_injective (number_of m) (number_of n) (number_low m) (number_low n) (ap (λ j. text_in (first_in (behind_in (members_in j)))) e) in
    let made : parts_then (parts_of (number_of m)) (content_of m) no_members ≡ parts_then (parts_of (number_of n)) (content_of n) no_members = ap (λ j. behind_in (behind_in (behind_in (members_in j)))) e in
    let there : HasParts (parts_of (number_of n)) (content_of m) = subst (λ (t : ℕ). HasParts (parts_of t) (content_of m)) number (has_parts m im) in
    let alike : parts_then (parts_of (number_of n)) (content_of m) no_members ≡ parts_then (parts_of (number_of n)) (content_of n) no_members = ap (λ (t : ℕ). parts_then (parts_of t) (content_of m) no_members) (sym number) ∙ made in
    let content = parts_tell (parts_of (number_of n)) (content_of m) (content_of n) there (has_parts n ins) (IsBytes-drop 2 (message_bytes m) bm) (IsBytes-drop 2 (message_bytes n) bn) alike in
    ap (λ (t : ℕ). 0x76 ∷ t ∷ content_of m) number ∙ ap (λ (l : List ℕ). 0x76 ∷ number_of n ∷ l) content

-- ---- a file

pub behind-bytes : (front behind : List ℕ) → IsBytes (front ++ behind) → IsBytes behind
behind-bytes [] behind fits = fits
behind-bytes (b ∷ front) behind fits = behind-bytes front behind (λ i. fits (suc i))

messages_tell : (ms ns : List Message) (place other : ℕ) → All IsMessage ms → All IsMessage ns → IsBytes (joined (map message_bytes ms)) → IsBytes (joined (map message_bytes ns))
    → messages_shown place ms ≡ messages_shown other ns → joined (map message_bytes ms) ≡ joined (map message_bytes ns)
messages_tell [] [] place other im ins bm bn e = refl
messages_tell [] (n ∷ ns) place other im ins bm bn e = absurd (cc)
messages_tell (m ∷ ms) [] place other im ins bm bn e = absurd (cc)
messages_tell (m ∷ ms) (n ∷ ns) place other im ins bm bn e =
    let first = message_tells m n place other (All-head IsMessage m ms im) (All-head IsMessage n ns ins) (front-bytes (message_bytes m) (joined (map message_bytes ms)) bm) (front-bytes (message_bytes n) (joined (map message_bytes ns)) bn) (ap first_item e) in
    let rest = messages_tell ms ns (place + length (message_bytes m)) (other + length (message_bytes n)) (All-tail IsMessage m ms im) (All-tail IsMessage n ns ins) (behind-bytes (message_bytes m) (joined (map message_bytes ms)) bm) (behind-bytes (message_bytes n) (joined (map message_bytes ns)) bn) (ap behind_item e) in
    ap (λ (l : List ℕ). l ++ joined (map message_bytes ms)) first ∙ ap (λ (l : List ℕ). message_bytes n ++ l) rest

-- ---- its numbers are numbers, and it nests a few steps

pub changes-numbers : (on_card : Bool) (n : ℕ) (bytes : List ℕ) → ItemsHaveNumbers (changes_shown on_card n bytes)
unfolding changes_shown
changes-numbers on_card zero bytes = tt
changes-numbers on_card (suc n) bytes =
    ((IsNumber-decimal (big_number 2 (take 2 bytes) % 2048) (omega arith), (tt, (tt, (tt, (tt, tt))))), changes-numbers on_card n (drop 2 bytes))

pub changes-depth : (on_card : Bool) (n : ℕ) (bytes : List ℕ) → items_depth (changes_shown on_card n bytes) ≤ 1
unfolding changes_shown
changes-depth on_card zero bytes = omega arith
changes-depth on_card (suc n) bytes = omega (arith, changes-depth on_card n (drop 2 bytes))

part-numbers : (p : Part) (bytes : List ℕ) (more : Members) → IsThere p bytes → IsBytes bytes → MembersHaveNumbers more → MembersHaveNumbers (part_then p bytes more)
part-numbers (Fields k) bytes more there fits has = fields_numbers (fields_of k) bytes more (kinds_are k) there.1 fits has
part-numbers (Record name k) bytes more there fits has = (members_numbers (fields_of k) bytes (kinds_are k) there.1 fits, has)
part-numbers (ListOf name count k) bytes more there fits has =
    let swap : width_of k * big_number count bytes ≡ big_number count bytes * width_of k = grind arith in
    (items_numbers (big_number count bytes) (fields_of k) (drop count bytes) (kinds_are k) (omega (arith, length-drop count bytes, there.1, swap)) (IsBytes-drop count bytes fits), has)
part-numbers Changes bytes more there fits has = (changes-numbers false (big_number 2 bytes) (drop 2 bytes), has)

part-depth : (p : Part) (bytes : List ℕ) (more : Members) → members_depth more ≤ 5 → members_depth (part_then p bytes more) ≤ 5
part-depth (Fields k) bytes more le = fields_depth (fields_of k) bytes more 5 (omega arith) le
part-depth (Record name k) bytes more le = omega (arith, members_flat (fields_of k) bytes, le)
part-depth (ListOf name count k) bytes more le = omega (arith, items_flat (big_number count bytes) (fields_of k) (drop count bytes), le)
part-depth Changes bytes more le = omega (arith, changes-depth false (big_number 2 bytes) (drop 2 bytes), le)

parts-numbers : (ps : List Part) (bytes : List ℕ) → HasParts ps bytes → IsBytes bytes → MembersHaveNumbers (parts_then ps bytes no_members)
parts-numbers [] bytes has fits = tt
parts-numbers (p ∷ ps) bytes has fits = part-numbers p bytes (parts_then ps (drop (part_len p bytes) bytes) no_members) has.0 fits (parts-numbers ps (drop (part_len p bytes) bytes) has.1 (IsBytes-drop (part_len p bytes) bytes fits))

parts-depth : (ps : List Part) (bytes : List ℕ) → members_depth (parts_then ps bytes no_members) ≤ 5
parts-depth [] bytes = omega arith
parts-depth (p ∷ ps) bytes = part-depth p bytes (parts_then ps (drop (part_len p bytes) bytes) no_members) (parts-depth ps (drop (part_len p bytes) bytes))

message-numbers : (m : Message) (place : ℕ) → place < 2 ^ 64 → IsMessage m → IsBytes (message_bytes m) → HasNumbers (message_shown place (message_bytes m))
message-numbers m place low is fits =
    (IsNumber-decimal place low, (IsNumber-decimal (number_of m) (number_low m), (tt, parts-numbers (parts_of (number_of m)) (content_of m) (has_parts m is) (IsBytes-drop 2 (message_bytes m) fits))))

message-depth : (m : Message) (place : ℕ) → depth (message_shown place (message_bytes m)) ≤ 6
message-depth m place = omega (arith, parts-depth (parts_of (number_of m)) (content_of m))

messages-numbers : (ms : List Message) (place : ℕ) → place + length (joined (map message_bytes ms)) < 2 ^ 64 → All IsMessage ms → IsBytes (joined (map message_bytes ms)) → ItemsHaveNumbers (messages_shown place ms)
messages-numbers [] place low is fits = tt
messages-numbers (m ∷ ms) place low is fits =
    let long : length (message_bytes m ++ joined (map message_bytes ms)) ≡ length (message_bytes m) + length (joined (map message_bytes ms)) = length-append (message_bytes m) (joined (map message_bytes ms)) in (
      message-numbers m place (omega (arith, low)) (All-head IsMessage m ms is) (front-bytes (message_bytes m) (joined (map message_bytes ms)) fits),
      messages-numbers ms (place + length (message_bytes m)) (omega (arith, low, long)) (All-tail IsMessage m ms is) (behind-bytes (message_bytes m) (joined (map message_bytes ms)) fits),
    )

messages-depth : (ms : List Message) (place : ℕ) → items_depth (messages_shown place ms) ≤ 6
messages-depth [] place = omega arith
messages-depth (m ∷ ms) place = omega (arith, message-depth m place, messages-depth ms (place + length (message_bytes m)))

-- without those of the first days
behind-numbers : (skip place : ℕ) (ms : List Message) → place + length (joined (map message_bytes ms)) < 2 ^ 64 → All IsMessage ms → IsBytes (joined (map message_bytes ms)) → ItemsHaveNumbers (messages_behind skip place ms)
behind-numbers skip place [] low is fits = tt
behind-numbers skip place (m ∷ ms) low is fits =
    let long : length (message_bytes m ++ joined (map message_bytes ms)) ≡ length (message_bytes m) + length (joined (map message_bytes ms)) = length-append (message_bytes m) (joined (map message_bytes ms)) in
    let lower : place + length (message_bytes m) + length (joined (map message_bytes ms)) < 2 ^ 64 = omega (arith, low, long) in
    let others = All-tail IsMessage m ms is in
    let bytes = behind-bytes (message_bytes m) (joined (map message_bytes ms)) fits in
    by_test (is_left_out skip m)
    (λ out. subst ItemsHaveNumbers (sym (first_out skip place m ms out)) (behind-numbers (skip - 1) (place + length (message_bytes m)) ms lower others bytes))
    (λ kept. subst ItemsHaveNumbers (sym (first_kept skip place m ms kept)) (
      message-numbers m place (omega (arith, low)) (All-head IsMessage m ms is) (front-bytes (message_bytes m) (joined (map message_bytes ms)) fits),
      behind-numbers skip (place + length (message_bytes m)) ms lower others bytes,
    ))

behind-depth : (skip place : ℕ) (ms : List Message) → items_depth (messages_behind skip place ms) ≤ 6
behind-depth skip place [] = omega arith
behind-depth skip place (m ∷ ms) =
    by_test (is_left_out skip m)
    (λ out. subst (λ (js : Items). items_depth js ≤ 6) (sym (first_out skip place m ms out)) (behind-depth (skip - 1) (place + length (message_bytes m)) ms))
    (λ kept. subst (λ (js : Items). items_depth js ≤ 6) (sym (first_kept skip place m ms kept))
    (omega (arith, message-depth m place, behind-depth skip (place + length (message_bytes m)) ms)))

told-numbers : (last : Option ℕ) (ms : List Message) → length (joined (map message_bytes ms)) < 2 ^ 64 → All IsMessage ms → IsBytes (joined (map message_bytes ms)) → ItemsHaveNumbers (messages_told last ms)
told-numbers None ms low is fits = messages-numbers ms 0 (omega (arith, low)) is fits
told-numbers (Some n) ms low is fits = behind-numbers (length (days_told ms) - n) 0 ms (omega (arith, low)) is fits

told-depth : (last : Option ℕ) (ms : List Message) → items_depth (messages_told last ms) ≤ 6
told-depth None ms = messages-depth ms 0
told-depth (Some n) ms = behind-depth (length (days_told ms) - n) 0 ms

-- THE TEXT OF A UNIT FILE is read as its value
pub unit_is_json : (last : Option ℕ) (messages : List Message) (bytes : List ℕ) → length bytes < 2 ^ 32 → IsBytes bytes → IsUnitFile messages bytes → document (print (json_tokens (json_of_unit last messages))) ≡ Some (json_of_unit last messages)
unit_is_json last messages bytes short fits file =
    let are : IsBytes (joined (map message_bytes messages)) = subst IsBytes file.spelled fits in
    document-print (json_of_unit last messages)
    (tt, (told-numbers last messages (omega (arith, short, ap length file.spelled)) file.each are, tt))
    (omega (arith, told-depth last messages))

-- and tells the file
pub unit_text_tells : (xs ys out : List ℕ) → length xs < 2 ^ 32 → length ys < 2 ^ 32 → IsBytes xs → IsBytes ys → IsUnitJson None xs out → IsUnitJson None ys out → xs ≡ ys
unit_text_tells xs ys out lx ly bx by jx jy =
    let texts = (same_from_push (print (json_tokens (json_of_unit None jx.messages))) (print (json_tokens (json_of_unit None jy.messages))) 10 10 (sym jx.text ∙ jy.text)).0 in
    let reads = sym (unit_is_json None jx.messages xs lx bx jx.are) ∙ ap document texts ∙ unit_is_json None jy.messages ys ly by jy.are in
    let items : messages_shown 0 jx.messages ≡ messages_shown 0 jy.messages = ap (λ (o : Option Json). items_in (first_in (behind_in (members_in (value_in o))))) reads in
    jx.are.spelled
    ∙ messages_tell jx.messages jy.messages 0 0 jx.are.each jy.are.each (subst IsBytes jx.are.spelled bx) (subst IsBytes jy.are.spelled by) items
    ∙ sym jy.are.spelled
