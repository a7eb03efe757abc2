-- A record's JSON is read back, and tells the record's bytes.
use Rattle.std.proofs.Common.{◌≡◌, ℕ, zero, suc, ◌*◌, ◌+◌, ◌≤◌, ◌<◌, ◌^◌, Some, List, [], ◌∷◌, ◌++◌, length, take, drop, refl, sym, ap, ◌∙◌, arith, rules, subst, length-drop}
use Rattle.std.specs.Prelude.{Result, Ok, Err, Option, Bool, true, false, ◌==◌, if◌then◌else◌, slice_index}
use Rattle.std.proofs.lemmas.List.{take-append-drop, length-take-le}
use Rattle.std.proofs.Math.Nat.{pow-le-pow_right}
use Rattle.std.proofs.lemmas.Fmt.{decimal_injective}
use Rattle.byteorder.specs.Endian.{big_number}
use Rattle.hex.proofs.HexLemmas.{decode_of-encode_lower}
use Rattle.hex.specs.Hex.{decode_of}
use Rattle.byteorder.specs.Numbers.{big_from-lt}
use Rattle.card_layout.specs.Fields.{IsBytes}
use Rattle.card_layout.proofs.Cuts.{IsBytes-take, IsBytes-drop}
use Rattle.card_layout.proofs.Numbers.{big_number-injective}
use Rattle.json.specs.Json.{Json, null, string, no_members, document}
use Rattle.json.specs.Print.{print}
use Rattle.json.specs.Tree.{json_tokens, HasNumbers, ItemsHaveNumbers, MembersHaveNumbers, depth, items_depth, members_depth}
use Rattle.json.proofs.Printed.Trees.{document-print}
use Rattle.json.proofs.Printed.Decimals.{IsNumber-decimal}
use Rattle.json_fields.specs.declared.codes.Coding.{Coding}
use Rattle.json_fields.specs.declared.codes.Coding.TheVariants.{Equipment, Nation}
use Rattle.json_fields.specs.declared.fields.Form.{Form}
use Rattle.json_fields.specs.declared.fields.Form.TheVariants.{Number, Numbers, Bytes, Time, Text, Characters, Coded, Card, Registration, HolderName, Group as GroupOf}
use Rattle.json_fields.specs.declared.fields.Field.{Field}
use Rattle.json_fields.specs.declared.fields.Group.{Group}
use Rattle.json_fields.specs.declared.fields.Group.TheVariants as group
use Rattle.json_fields.specs.Codes.{meaning}
use Rattle.json_fields.specs.Groups.{group_fields}
use Rattle.json_fields.specs.Shown.{members_then, plain_shown, group_value, value_shown, members_shown, record_shown, entry_shown, items_shown, records_shown, width_of_record, CanShowPlain, CanShow, AllCan, AreFields, ArePlain}
use Rattle.json_fields.specs.Texts.{are_zeros, or_none, text_of, time_value, text_value, name_value, code_value, card_value, registration_value, holder_value, numbers_shown}
use Rattle.json_fields.proofs.Forms.{or_none-tells, time-tells, text-tells, latin-tells, code-tells, card-tells, registration-tells, holder-tells, numbers-tell}
use Rattle.json_fields.proofs.Taking.{text_in, members_in, first_in, behind_in, value_in, items_in, first_item, behind_item, count_in}

abbrev ok_in : {E : Type 0} → Result (List ℕ) E → List ℕ
ok_in (Ok xs) = xs
ok_in (Err e) = []

-- the number of at most eight bytes
number_fits : (bytes : List ℕ) → length bytes ≤ 8 → IsBytes bytes → big_number (length bytes) bytes < 2 ^ 64
number_fits bytes short fits =
    let below : big_number (length bytes) bytes < 256 ^ length bytes = big_from-lt 0 (length bytes) bytes fits in
    let room : 256 ^ length bytes ≤ 256 ^ 8 = pow-le-pow_right (omega arith) short in
    omega (arith, below, room)

-- a byte by what stands at its place
one_byte : (xs ys : List ℕ) → length xs ≡ length ys → length xs ≡ 1 → slice_index xs 0 ≡ slice_index ys 0 → xs ≡ ys
one_byte (x ∷ []) (y ∷ []) same one is = ap (λ (b : ℕ). b ∷ []) is
one_byte [] ys same one is = absurd (omega (arith, one))
one_byte (x ∷ []) [] same one is = absurd (omega (arith, same))
one_byte (x ∷ []) (y ∷ z ∷ ys) same one is = absurd (omega (arith, same))
one_byte (x ∷ w ∷ xs) ys same one is = absurd (omega (arith, one))

-- a value that is no record of others tells its bytes
plain_tells : (form : Form) (xs ys : List ℕ) → length xs ≡ length ys → CanShowPlain form (length xs) → IsBytes xs → IsBytes ys → plain_shown form xs ≡ plain_shown form ys → xs ≡ ys
plain_tells Number xs ys same can bx by e =
    let short : length ys ≤ 8 = omega (arith, same, can.1) in
    let numbers = decimal_injective (big_number (length xs) xs) (big_number (length ys) ys) (number_fits xs can.1 bx) (number_fits ys short by) (ap text_in e) in
    big_number-injective (length xs) xs ys refl (sym same) bx by (numbers ∙ ap (λ (n : ℕ). big_number n ys) (sym same))
plain_tells Numbers xs ys same can bx by e = numbers-tell xs ys same bx by (ap items_in e)
plain_tells Bytes xs ys same can bx by e =
    ap ok_in (sym (decode_of-encode_lower xs bx) ∙ ap (λ j. decode_of (text_in j)) e ∙ decode_of-encode_lower ys by)
plain_tells Time xs ys same can bx by e = or_none-tells time_value (λ bytes. refl) xs ys same (time-tells xs ys can (sym same ∙ can) bx by) e
plain_tells Text xs ys same can bx by e = text-tells xs ys can same bx by e
plain_tells Characters xs ys same can bx by e = latin-tells xs ys same bx by e
plain_tells (Coded coding) xs ys same can bx by e = one_byte xs ys same can (code-tells coding (slice_index xs 0) (slice_index ys 0) (bx 0) (by 0) e)
plain_tells Card xs ys same can bx by e = card-tells xs ys can (sym same ∙ can) bx by e
plain_tells Registration xs ys same can bx by e = registration-tells xs ys can (sym same ∙ can) bx by e
plain_tells HolderName xs ys same can bx by e = holder-tells xs ys can (sym same ∙ can) bx by e
plain_tells (GroupOf group) xs ys same can bx by e = absurd can

-- and the members of a record the record's, where the values do
members_tell : (shown : Form → List ℕ → Json) (can : Form → ℕ → Type 0)
    → ((form : Form) (xs ys : List ℕ) → length xs ≡ length ys → can form (length xs) → IsBytes xs → IsBytes ys → shown form xs ≡ shown form ys → xs ≡ ys)
    → (fields : List Field) (xs ys : List ℕ) → AllCan can fields → length xs ≡ width_of_record fields → length ys ≡ width_of_record fields
    → IsBytes xs → IsBytes ys → members_then shown fields xs no_members ≡ members_then shown fields ys no_members → xs ≡ ys
members_tell shown can tells [] [] [] table lx ly bx by e = refl
members_tell shown can tells [] (x ∷ xs) ys table lx ly bx by e = absurd (omega (arith, lx))
members_tell shown can tells [] [] (y ∷ ys) table lx ly bx by e = absurd (omega (arith, ly))
members_tell shown can tells (f ∷ fs) xs ys table lx ly bx by e =
    let wx : length (take f.width xs) ≡ f.width = length-take-le f.width xs (omega (arith, lx)) in
    let wy : length (take f.width ys) ≡ f.width = length-take-le f.width ys (omega (arith, ly)) in
    let front = tells f.form (take f.width xs) (take f.width ys) (wx ∙ sym wy) (subst (λ (n : ℕ). can f.form n) (sym wx) table.0) (IsBytes-take f.width xs bx) (IsBytes-take f.width ys by) (ap first_in e) in
    let behind = members_tell shown can tells fs (drop f.width xs) (drop f.width ys) table.1 (omega (arith, length-drop f.width xs, lx)) (omega (arith, length-drop f.width ys, ly)) (IsBytes-drop f.width xs bx) (IsBytes-drop f.width ys by) (ap behind_in e) in
    sym (take-append-drop f.width xs) ∙ ap (λ (l : List ℕ). l ++ drop f.width xs) front ∙ ap (λ (l : List ℕ). take f.width ys ++ l) behind ∙ take-append-drop f.width ys

-- the fields of a record in a record are none themselves
groups_are_plain : (group : Group) → ArePlain (group_fields group)
groups_are_plain group.DownloadablePeriod = search rules
groups_are_plain group.DownloadActivity = search rules
groups_are_plain group.PreviousVehicle = search rules
groups_are_plain group.Place = search rules
groups_are_plain group.Software = search rules
groups_are_plain group.CardIdentification = search rules
groups_are_plain group.HolderIdentification = search rules

group_tells : (group : Group) (xs ys : List ℕ) → length xs ≡ length ys → length xs ≡ width_of_record (group_fields group) → IsBytes xs → IsBytes ys
    → or_none (group_value (group_fields group)) xs ≡ or_none (group_value (group_fields group)) ys → xs ≡ ys
group_tells group xs ys same wide bx by =
    or_none-tells (group_value (group_fields group)) (λ bytes. refl) xs ys same
    (λ e. members_tell plain_shown CanShowPlain plain_tells (group_fields group) xs ys (groups_are_plain group) wide (sym same ∙ wide) bx by (ap members_in e))

-- a value tells its bytes
pub value_tells : (form : Form) (xs ys : List ℕ) → length xs ≡ length ys → CanShow form (length xs) → IsBytes xs → IsBytes ys → value_shown form xs ≡ value_shown form ys → xs ≡ ys
value_tells (GroupOf group) xs ys same can bx by e = group_tells group xs ys same can bx by e
value_tells Number xs ys same can bx by e = plain_tells Number xs ys same can bx by e
value_tells Numbers xs ys same can bx by e = plain_tells Numbers xs ys same can bx by e
value_tells Bytes xs ys same can bx by e = plain_tells Bytes xs ys same can bx by e
value_tells Time xs ys same can bx by e = plain_tells Time xs ys same can bx by e
value_tells Text xs ys same can bx by e = plain_tells Text xs ys same can bx by e
value_tells Characters xs ys same can bx by e = plain_tells Characters xs ys same can bx by e
value_tells (Coded coding) xs ys same can bx by e = plain_tells (Coded coding) xs ys same can bx by e
value_tells Card xs ys same can bx by e = plain_tells Card xs ys same can bx by e
value_tells Registration xs ys same can bx by e = plain_tells Registration xs ys same can bx by e
value_tells HolderName xs ys same can bx by e = plain_tells HolderName xs ys same can bx by e

pub record_tells : (fields : List Field) (xs ys : List ℕ) → AreFields fields → length xs ≡ width_of_record fields → length ys ≡ width_of_record fields
    → IsBytes xs → IsBytes ys → members_shown fields xs ≡ members_shown fields ys → xs ≡ ys
record_tells fields xs ys table lx ly bx by e = members_tell value_shown CanShow value_tells fields xs ys table lx ly bx by e

-- ---- how deep values nest

or_none-depth : (told : List ℕ → Json) (bytes : List ℕ) (k : ℕ) → depth (told bytes) ≤ k → depth (or_none told bytes) ≤ k
or_none-depth told bytes k le = elim (are_zeros bytes) as (λ (zeros : Bool). depth (if zeros then null else told bytes) ≤ k) [ true ↦ omega arith | false ↦ le ]

name-depth : (name : List ℕ) → depth (name_value name) ≡ 0
name-depth name = elim (length name == 0) as (λ (none : Bool). depth (if none then null else string name) ≡ 0) [ true ↦ refl | false ↦ refl ]

code-depth : (coding : Coding) (code : ℕ) → depth (code_value coding code) ≤ 1
code-depth coding code = omega (arith, name-depth (meaning coding code))

numbers-depth : (bytes : List ℕ) → items_depth (numbers_shown bytes) ≡ 0
numbers-depth [] = refl
numbers-depth (b ∷ bytes) = rw (numbers-depth bytes) refl

text-depth : (bytes : List ℕ) → depth (or_none text_value bytes) ≤ 1
text-depth bytes = or_none-depth text_value bytes 1 (omega arith)

plain_depth : (form : Form) (bytes : List ℕ) → depth (plain_shown form bytes) ≤ 2
plain_depth Number bytes = omega arith
plain_depth Numbers bytes = omega (arith, numbers-depth bytes)
plain_depth Bytes bytes = omega arith
plain_depth Time bytes = or_none-depth time_value bytes 2 (omega arith)
plain_depth Text bytes = or_none-depth text_value bytes 2 (omega arith)
plain_depth Characters bytes = or_none-depth text_of bytes 2 (omega arith)
plain_depth (Coded coding) bytes = omega (arith, code-depth coding (slice_index bytes 0))
plain_depth Card bytes = or_none-depth card_value bytes 2 (omega (arith, code-depth Equipment (slice_index bytes 0), code-depth Nation (slice_index bytes 1)))
plain_depth Registration bytes = or_none-depth registration_value bytes 2 (omega (arith, code-depth Nation (slice_index bytes 0), text-depth (drop 1 bytes)))
plain_depth HolderName bytes = or_none-depth holder_value bytes 2 (omega (arith, text-depth (take 36 bytes), text-depth (drop 36 bytes)))
plain_depth (GroupOf group) bytes = omega arith

members-depth : (shown : Form → List ℕ → Json) (k : ℕ) → ((form : Form) (bytes : List ℕ) → depth (shown form bytes) ≤ k)
    → (fields : List Field) (bytes : List ℕ) → members_depth (members_then shown fields bytes no_members) ≤ k
members-depth shown k each [] bytes = omega arith
members-depth shown k each (f ∷ fs) bytes = omega (arith, each f.form (take f.width bytes), members-depth shown k each fs (drop f.width bytes))

group_depth : (fields : List Field) (bytes : List ℕ) → depth (or_none (group_value fields) bytes) ≤ 3
group_depth fields bytes = or_none-depth (group_value fields) bytes 3 (omega (arith, members-depth plain_shown 2 plain_depth fields bytes))

-- a value has no more than three steps
pub value_depth : (form : Form) (bytes : List ℕ) → depth (value_shown form bytes) ≤ 3
value_depth (GroupOf group) bytes = group_depth (group_fields group) bytes
value_depth Number bytes = omega (arith, plain_depth Number bytes)
value_depth Numbers bytes = omega (arith, plain_depth Numbers bytes)
value_depth Bytes bytes = omega (arith, plain_depth Bytes bytes)
value_depth Time bytes = omega (arith, plain_depth Time bytes)
value_depth Text bytes = omega (arith, plain_depth Text bytes)
value_depth Characters bytes = omega (arith, plain_depth Characters bytes)
value_depth (Coded coding) bytes = omega (arith, plain_depth (Coded coding) bytes)
value_depth Card bytes = omega (arith, plain_depth Card bytes)
value_depth Registration bytes = omega (arith, plain_depth Registration bytes)
value_depth HolderName bytes = omega (arith, plain_depth HolderName bytes)

pub members_flat : (fields : List Field) (bytes : List ℕ) → members_depth (members_shown fields bytes) ≤ 3
members_flat fields bytes = members-depth value_shown 3 value_depth fields bytes

-- ---- its numbers are numbers

or_none-numbers : (told : List ℕ → Json) (bytes : List ℕ) → HasNumbers (told bytes) → HasNumbers (or_none told bytes)
or_none-numbers told bytes has = elim (are_zeros bytes) as (λ (zeros : Bool). HasNumbers (if zeros then null else told bytes)) [ true ↦ tt | false ↦ has ]

name-numbers : (name : List ℕ) → HasNumbers (name_value name)
name-numbers name = elim (length name == 0) as (λ (none : Bool). HasNumbers (if none then null else string name)) [ true ↦ tt | false ↦ tt ]

code-numbers : (coding : Coding) (code : ℕ) → code < 256 → HasNumbers (code_value coding code)
code-numbers coding code small = (IsNumber-decimal code (omega (arith, small)), (name-numbers (meaning coding code), tt))

numbers-numbers : (bytes : List ℕ) → IsBytes bytes → ItemsHaveNumbers (numbers_shown bytes)
numbers-numbers [] fits = tt
numbers-numbers (b ∷ bytes) fits = (IsNumber-decimal b (omega (arith, fits 0)), numbers-numbers bytes (λ i. fits (suc i)))

text-numbers : (bytes : List ℕ) → IsBytes bytes → HasNumbers (or_none text_value bytes)
text-numbers bytes fits = or_none-numbers text_value bytes (IsNumber-decimal (slice_index bytes 0) (omega (arith, fits 0)), (tt, tt))

plain_numbers : (form : Form) (bytes : List ℕ) → CanShowPlain form (length bytes) → IsBytes bytes → HasNumbers (plain_shown form bytes)
plain_numbers Number bytes can fits = IsNumber-decimal (big_number (length bytes) bytes) (number_fits bytes can.1 fits)
plain_numbers Numbers bytes can fits = numbers-numbers bytes fits
plain_numbers Bytes bytes can fits = tt
plain_numbers Time bytes can fits = or_none-numbers time_value bytes tt
plain_numbers Text bytes can fits = text-numbers bytes fits
plain_numbers Characters bytes can fits = or_none-numbers text_of bytes tt
plain_numbers (Coded coding) bytes can fits = code-numbers coding (slice_index bytes 0) (fits 0)
plain_numbers Card bytes can fits = or_none-numbers card_value bytes (code-numbers Equipment (slice_index bytes 0) (fits 0), (code-numbers Nation (slice_index bytes 1) (fits 1), (tt, tt)))
plain_numbers Registration bytes can fits = or_none-numbers registration_value bytes (code-numbers Nation (slice_index bytes 0) (fits 0), (text-numbers (drop 1 bytes) (IsBytes-drop 1 bytes fits), tt))
plain_numbers HolderName bytes can fits = or_none-numbers holder_value bytes (text-numbers (take 36 bytes) (IsBytes-take 36 bytes fits), (text-numbers (drop 36 bytes) (IsBytes-drop 36 bytes fits), tt))
plain_numbers (GroupOf group) bytes can fits = tt

members-numbers : (shown : Form → List ℕ → Json) (can : Form → ℕ → Type 0) → ((form : Form) (bytes : List ℕ) → can form (length bytes) → IsBytes bytes → HasNumbers (shown form bytes))
    → (fields : List Field) (bytes : List ℕ) → AllCan can fields → width_of_record fields ≤ length bytes → IsBytes bytes → MembersHaveNumbers (members_then shown fields bytes no_members)
members-numbers shown can each [] bytes table sized fits = tt
members-numbers shown can each (f ∷ fs) bytes table sized fits =
    let width : length (take f.width bytes) ≡ f.width = length-take-le f.width bytes (omega (arith, sized)) in (
      each f.form (take f.width bytes) (subst (λ (n : ℕ). can f.form n) (sym width) table.0) (IsBytes-take f.width bytes fits),
      members-numbers shown can each fs (drop f.width bytes) table.1 (omega (arith, length-drop f.width bytes, sized)) (IsBytes-drop f.width bytes fits),
    )

pub value_numbers : (form : Form) (bytes : List ℕ) → CanShow form (length bytes) → IsBytes bytes → HasNumbers (value_shown form bytes)
value_numbers (GroupOf group) bytes can fits =
    or_none-numbers (group_value (group_fields group)) bytes (members-numbers plain_shown CanShowPlain plain_numbers (group_fields group) bytes (groups_are_plain group) (omega (arith, can)) fits)
value_numbers Number bytes can fits = plain_numbers Number bytes can fits
value_numbers Numbers bytes can fits = plain_numbers Numbers bytes can fits
value_numbers Bytes bytes can fits = tt
value_numbers Time bytes can fits = plain_numbers Time bytes can fits
value_numbers Text bytes can fits = plain_numbers Text bytes can fits
value_numbers Characters bytes can fits = plain_numbers Characters bytes can fits
value_numbers (Coded coding) bytes can fits = plain_numbers (Coded coding) bytes can fits
value_numbers Card bytes can fits = plain_numbers Card bytes can fits
value_numbers Registration bytes can fits = plain_numbers Registration bytes can fits
value_numbers HolderName bytes can fits = plain_numbers HolderName bytes can fits

pub members_numbers : (fields : List Field) (bytes : List ℕ) → AreFields fields → width_of_record fields ≤ length bytes → IsBytes bytes → MembersHaveNumbers (members_shown fields bytes)
members_numbers fields bytes table sized fits = members-numbers value_shown CanShow value_numbers fields bytes table sized fits

-- ---- a record, and a list of records

-- the text of a record is read as its value
pub record_is_json : (fields : List Field) (bytes : List ℕ) → AreFields fields → width_of_record fields ≤ length bytes → IsBytes bytes
    → document (print (json_tokens (record_shown fields bytes))) ≡ Some (record_shown fields bytes)
record_is_json fields bytes table sized fits =
    document-print (record_shown fields bytes) (members_numbers fields bytes table sized fits) (omega (arith, members_flat fields bytes))

-- the text of a record tells its bytes
pub text_tells : (fields : List Field) (xs ys : List ℕ) → AreFields fields → length xs ≡ width_of_record fields → length ys ≡ width_of_record fields
    → IsBytes xs → IsBytes ys → print (json_tokens (record_shown fields xs)) ≡ print (json_tokens (record_shown fields ys)) → xs ≡ ys
text_tells fields xs ys table lx ly bx by e =
    let reads = sym (record_is_json fields xs table (omega (arith, lx)) bx) ∙ ap document e ∙ record_is_json fields ys table (omega (arith, ly)) by in
    record_tells fields xs ys table lx ly bx by (ap (λ (o : Option Json). members_in (value_in o)) reads)

pub count-shown : (n : ℕ) (fields : List Field) (bytes : List ℕ) → count_in (items_shown n fields bytes) ≡ n
unfolding items_shown
count-shown zero fields bytes = refl
count-shown (suc n) fields bytes = ap suc (count-shown n fields (drop (width_of_record fields) bytes))

-- an entry tells its bytes
pub entry_tells : (fields : List Field) (xs ys : List ℕ) → AreFields fields → length xs ≡ width_of_record fields → length ys ≡ width_of_record fields
    → IsBytes xs → IsBytes ys → entry_shown fields xs ≡ entry_shown fields ys → xs ≡ ys
entry_tells fields xs ys table lx ly bx by =
    or_none-tells (record_shown fields) (λ bytes. refl) xs ys (lx ∙ sym ly) (λ e. record_tells fields xs ys table lx ly bx by (ap members_in e))

entry_flat : (fields : List Field) (bytes : List ℕ) → depth (entry_shown fields bytes) ≤ 4
entry_flat fields bytes = or_none-depth (record_shown fields) bytes 4 (omega (arith, members_flat fields bytes))

entry_numbers : (fields : List Field) (bytes : List ℕ) → AreFields fields → width_of_record fields ≤ length bytes → IsBytes bytes → HasNumbers (entry_shown fields bytes)
entry_numbers fields bytes table sized fits = or_none-numbers (record_shown fields) bytes (members_numbers fields bytes table sized fits)

-- an array of records tells their bytes
pub items_tell : (n : ℕ) (fields : List Field) (xs ys : List ℕ) → AreFields fields → length xs ≡ n * width_of_record fields → length ys ≡ n * width_of_record fields
    → IsBytes xs → IsBytes ys → items_shown n fields xs ≡ items_shown n fields ys → xs ≡ ys
unfolding items_shown
items_tell zero fields [] [] table lx ly bx by e = refl
items_tell zero fields (x ∷ xs) ys table lx ly bx by e = absurd (omega (arith, lx))
items_tell zero fields [] (y ∷ ys) table lx ly bx by e = absurd (omega (arith, ly))
items_tell (suc n) fields xs ys table lx ly bx by e =
    let w = width_of_record fields in
    let more : suc n * w ≡ w + n * w = grind arith in
    let wx : length (take w xs) ≡ w = length-take-le w xs (omega (arith, lx, more)) in
    let wy : length (take w ys) ≡ w = length-take-le w ys (omega (arith, ly, more)) in
    let front = entry_tells fields (take w xs) (take w ys) table wx wy (IsBytes-take w xs bx) (IsBytes-take w ys by) (ap first_item e) in
    let behind = items_tell n fields (drop w xs) (drop w ys) table (omega (arith, length-drop w xs, lx, more)) (omega (arith, length-drop w ys, ly, more)) (IsBytes-drop w xs bx) (IsBytes-drop w ys by) (ap behind_item e) in
    sym (take-append-drop w xs) ∙ ap (λ (l : List ℕ). l ++ drop w xs) front ∙ ap (λ (l : List ℕ). take w ys ++ l) behind ∙ take-append-drop w ys

-- an array of records has few steps, and its numbers are numbers
pub items_flat : (n : ℕ) (fields : List Field) (bytes : List ℕ) → items_depth (items_shown n fields bytes) ≤ 4
unfolding items_shown
items_flat zero fields bytes = omega arith
items_flat (suc n) fields bytes =
    let w = width_of_record fields in
    omega (arith, entry_flat fields (take w bytes), items_flat n fields (drop w bytes))

pub items_numbers : (n : ℕ) (fields : List Field) (bytes : List ℕ) → AreFields fields → n * width_of_record fields ≤ length bytes → IsBytes bytes → ItemsHaveNumbers (items_shown n fields bytes)
unfolding items_shown
items_numbers zero fields bytes table sized fits = tt
items_numbers (suc n) fields bytes table sized fits =
    let w = width_of_record fields in
    let more : suc n * w ≡ w + n * w = grind arith in
    let wide : length (take w bytes) ≡ w = length-take-le w bytes (omega (arith, sized, more)) in (
      entry_numbers fields (take w bytes) table (omega (arith, wide)) (IsBytes-take w bytes fits),
      items_numbers n fields (drop w bytes) table (omega (arith, length-drop w bytes, sized, more)) (IsBytes-drop w bytes fits),
    )

-- the text of an array of records is read as its value
pub list_is_json : (n : ℕ) (fields : List Field) (bytes : List ℕ) → AreFields fields → n * width_of_record fields ≤ length bytes → IsBytes bytes
    → document (print (json_tokens (records_shown n fields bytes))) ≡ Some (records_shown n fields bytes)
list_is_json n fields bytes table sized fits =
    document-print (records_shown n fields bytes) (items_numbers n fields bytes table sized fits) (omega (arith, items_flat n fields bytes))

-- and tells how many there are, and their bytes
pub list_tells : (n m : ℕ) (fields : List Field) (xs ys : List ℕ) → AreFields fields → length xs ≡ n * width_of_record fields → length ys ≡ m * width_of_record fields
    → IsBytes xs → IsBytes ys → print (json_tokens (records_shown n fields xs)) ≡ print (json_tokens (records_shown m fields ys)) → (n ≡ m) × (xs ≡ ys)
list_tells n m fields xs ys table lx ly bx by e =
    let reads = sym (list_is_json n fields xs table (omega (arith, lx)) bx) ∙ ap document e ∙ list_is_json m fields ys table (omega (arith, ly)) by in
    let same = ap (λ (o : Option Json). items_in (value_in o)) reads in
    let count : n ≡ m = sym (count-shown n fields xs) ∙ ap count_in same ∙ count-shown m fields ys in
    let alike : items_shown n fields xs ≡ items_shown n fields ys = same ∙ ap (λ (k : ℕ). items_shown k fields ys) (sym count) in
    (count, items_tell n fields xs ys table lx (ly ∙ ap (λ (k : ℕ). k * width_of_record fields) (sym count)) bx by alike)
