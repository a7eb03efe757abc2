-- The text of a card file is read as its JSON, and tells the file.
use Rattle.std.proofs.Common.{◌≡◌, ◌∙◌, ℕ, zero, suc, ◌+◌, ◌-◌, ◌*◌, ◌/◌, ◌%◌, ◌<◌, ◌≤◌, ◌^◌, Some, Ok, List, [], ◌∷◌, ◌++◌, length, take, drop, map, All, refl, ap, sym, subst, arith, length-append, length-drop}
use Rattle.std.specs.Prelude.{Result, Err, Option, None, Bool, true, false, ◌==◌, ◌&&◌, nat_le, nat_lt, codes}
use Rattle.std.proofs.lemmas.Bool.Decides.{nat_tests}
use Rattle.std.proofs.lemmas.List.{take-append-drop, take_all, same_from_push, length-take-le, drop-drop}
use Rattle.std.proofs.lemmas.List.Elements.{All-head, All-tail}
use Rattle.std.proofs.lemmas.Fmt.{decimal_injective}
use Rattle.std.proofs.Math.Nat.{div-mul-le_self}
use Rattle.byteorder.specs.Endian.{big_number, big_bytes}
use Rattle.hex.specs.Hex.{encode_lower, decode_of}
use Rattle.hex.proofs.HexLemmas.{decode_of-encode_lower}
use Rattle.card_layout.specs.Fields.{IsBytes, joined}
use Rattle.card_layout.proofs.Cuts.{IsBytes-take, IsBytes-drop}
use Rattle.card_layout.proofs.Numbers.{IsBytes-big_bytes, big_number-big_bytes}
use Rattle.file_view.specs.Showing.{before_last}
use Rattle.card_image.specs.CardFile.{FileEntry, IsFileEntry, entry_bytes}
use Rattle.json.specs.Json.{Json, array, Items, no_items, item, no_members, member, document}
use Rattle.json.specs.Print.{print}
use Rattle.json.specs.Tree.{json_tokens, HasNumbers, ItemsHaveNumbers, MembersHaveNumbers, depth, items_depth, members_depth}
use Rattle.json.proofs.Printed.Trees.{document-print}
use Rattle.json.proofs.Printed.Decimals.{IsNumber-decimal}
use Rattle.json_fields.specs.declared.kinds.Kind.{Kind}
use Rattle.json_fields.specs.declared.kinds.Kind.TheVariants as kind
use Rattle.json_fields.specs.declared.names.Name.TheVariants.{ActivityChangeInfos}
use Rattle.json_fields.specs.Names.{name_text}
use Rattle.json_fields.specs.Kinds.{fields_of}
use Rattle.json_fields.specs.Shown.{items_shown}
use Rattle.json_fields.proofs.Cutting.{by_test, equal}
use Rattle.json_fields.proofs.Days.{one_more_byte}
use Rattle.json_fields.proofs.Forms.{front-bytes}
use Rattle.json_fields.proofs.Fronts.{items_front, fields_numbers, fields_depth}
use Rattle.json_fields.proofs.Taking.{text_in, members_in, first_in, behind_in, value_in, items_in, first_item, behind_item}
use Rattle.json_fields.proofs.Telling.{record_tells, items_flat, items_numbers, members_flat, members_numbers}
use Rattle.file_json.specs.declared.card.Shape.{Shape}
use Rattle.file_json.specs.declared.card.Shape.TheVariants.{Record, Events, Faults, Days, Vehicles, Places, Conditions, Bytes}
use Rattle.file_json.specs.Parts.{changes_shown, width_of}
use Rattle.file_json.specs.Days.{day_len, is_day, day_shown, days_shown, circle_from, far_between, items_behind, items_count, newest_items, string_shown}
use Rattle.file_json.specs.Cards.{bytes_then, list_shown, lists_shown, told, fits, content_then, shape_of, kind_name, entry_shown, entries_shown, json_of_card, IsCardJson}
use Rattle.file_view.specs.Files.{AreFiles}
use Rattle.file_json.proofs.Stringing.{day_is}
use Rattle.file_json.proofs.UnitTelling.{kinds_are, front_number, behind-bytes, changes-numbers, changes-depth}

-- ---- what is told

abbrev digits_in : {E : Type 0} → Result (List ℕ) E → List ℕ
digits_in (Ok xs) = xs
digits_in (Err e) = []

digits-tell : (xs ys : List ℕ) → IsBytes xs → IsBytes ys → encode_lower xs ≡ encode_lower ys → xs ≡ ys
digits-tell xs ys bx by e = ap digits_in (sym (decode_of-encode_lower xs bx) ∙ ap decode_of e ∙ decode_of-encode_lower ys by)

-- so many whole records
list_front : (k : Kind) (n : ℕ) (xs ys : List ℕ) → length xs ≡ n * width_of k → length xs ≡ length ys → IsBytes xs → IsBytes ys → items_shown n (fields_of k) xs ≡ items_shown n (fields_of k) ys → xs ≡ ys
list_front k n xs ys whole same bx by e =
    let front = items_front n (fields_of k) xs ys (kinds_are k) (omega (arith, whole)) (omega (arith, whole, same)) bx by e in
    sym (take_all (n * width_of k) xs (omega (arith, whole))) ∙ front ∙ take_all (n * width_of k) ys (omega (arith, whole, same))

list_tells : (k : Kind) (n : ℕ) (xs ys : List ℕ) → length xs / width_of k ≡ n → length xs ≡ n * width_of k → length xs ≡ length ys → IsBytes xs → IsBytes ys → list_shown k xs ≡ list_shown k ys → xs ≡ ys
list_tells k n xs ys count whole same bx by e =
    let other : length ys / width_of k ≡ n = ap (λ (m : ℕ). m / width_of k) (sym same) ∙ count in
    let items = ap items_in e in
    list_front k n xs ys whole same bx by
    (ap (λ (m : ℕ). items_shown m (fields_of k) xs) (sym count) ∙ items ∙ ap (λ (m : ℕ). items_shown m (fields_of k) ys) other)

lists_tell : (count len : ℕ) (k : Kind) (n : ℕ) (xs ys : List ℕ) → len / width_of k ≡ n → len ≡ n * width_of k → length xs ≡ count * len → length xs ≡ length ys → IsBytes xs → IsBytes ys
    → lists_shown count len k xs ≡ lists_shown count len k ys → xs ≡ ys
unfolding lists_shown
lists_tell zero len k n [] [] each wide whole same bx by e = refl
lists_tell zero len k n (x ∷ xs) ys each wide whole same bx by e = absurd (omega (arith, whole))
lists_tell zero len k n [] (y ∷ ys) each wide whole same bx by e = absurd (omega (arith, same))
lists_tell (suc count) len k n xs ys each wide whole same bx by e =
    let more : suc count * len ≡ len + count * len = grind arith in
    let tx : length (take len xs) ≡ len = length-take-le len xs (omega (arith, whole, more)) in
    let ty : length (take len ys) ≡ len = length-take-le len ys (omega (arith, whole, same, more)) in
    let front = list_tells k n (take len xs) (take len ys) (ap (λ (m : ℕ). m / width_of k) tx ∙ each) (tx ∙ wide) (tx ∙ sym ty) (IsBytes-take len xs bx) (IsBytes-take len ys by) (ap first_item e) in
    let behind = lists_tell count len k n (drop len xs) (drop len ys) each wide (omega (arith, length-drop len xs, whole, more)) (omega (arith, length-drop len xs, length-drop len ys, same)) (IsBytes-drop len xs bx) (IsBytes-drop len ys by) (ap behind_item e) in
    sym (take-append-drop len xs) ∙ ap (λ (l : List ℕ). l ++ drop len xs) front ∙ ap (λ (l : List ℕ). take len ys ++ l) behind ∙ take-append-drop len ys

-- a value by the number in its first bytes, and what stands behind it
by_pointer : (w : ℕ) (xs ys : List ℕ) → w ≤ length xs → length xs ≡ length ys → IsBytes xs → IsBytes ys → big_number w xs ≡ big_number w ys → drop w xs ≡ drop w ys → xs ≡ ys
by_pointer w xs ys lx same bx by e behind =
    let front : take w xs ≡ take w ys = front_number w xs ys lx (omega (arith, lx, same)) bx by e in
    sym (take-append-drop w xs) ∙ ap (λ (l : List ℕ). l ++ drop w xs) front ∙ ap (λ (l : List ℕ). take w ys ++ l) behind ∙ take-append-drop w ys

two_low : (xs : List ℕ) → IsBytes xs → big_number 2 xs < 2 ^ 64
two_low xs fits = omega (arith, fits 0, fits 1)

one_low : (xs : List ℕ) → IsBytes xs → big_number 1 xs < 2 ^ 64
one_low xs fits = omega (arith, fits 0)

-- a ring that fits
ring_is : (w r len : ℕ) → (nat_le w len && (len - w) % r == 0) ≡ true → (w ≤ len) × ((len - w) % r ≡ 0)
ring_is w r len fit = by_test (nat_le w len) (λ is. (grind (arith, nat_tests, is), equal ((len - w) % r) 0 (rw is at fit))) (λ is. absurd (clash (rw is at fit)))
  where
    clash : false ≡ true → ⊥
    clash is = cc

-- a value by its shape
told_tells : (s : Shape) (xs ys : List ℕ) → fits s (length xs) ≡ true → length xs ≡ length ys → IsBytes xs → IsBytes ys → told None s xs ≡ told None s ys → xs ≡ ys
told_tells (Record k) xs ys fit same bx by e =
    let wide : length xs ≡ width_of k = equal (length xs) (width_of k) fit in
    record_tells (fields_of k) xs ys (kinds_are k) wide (sym same ∙ wide) bx by (ap members_in e)
told_tells Events xs ys fit same bx by e =
    let whole : length xs % 144 ≡ 0 = equal (length xs % 144) 0 fit in
    let alike : length ys / 6 ≡ length xs / 6 = ap (λ (n : ℕ). n / 6) (sym same) in
    let items = ap (λ j. items_in (first_in (members_in j))) e in
    lists_tell 6 (length xs / 6) kind.CardEvent (length xs / 6 / 24) xs ys refl (omega (arith, whole)) (omega (arith, whole)) same bx by (items ∙ ap (λ (n : ℕ). lists_shown 6 n kind.CardEvent ys) alike)
told_tells Faults xs ys fit same bx by e =
    let whole : length xs % 48 ≡ 0 = equal (length xs % 48) 0 fit in
    let alike : length ys / 2 ≡ length xs / 2 = ap (λ (n : ℕ). n / 2) (sym same) in
    let items = ap (λ j. items_in (first_in (members_in j))) e in
    lists_tell 2 (length xs / 2) kind.CardFault (length xs / 2 / 24) xs ys refl (omega (arith, whole)) (omega (arith, whole)) same bx by (items ∙ ap (λ (n : ℕ). lists_shown 2 n kind.CardFault ys) alike)
told_tells Days xs ys fit same bx by e =
    let long : 4 ≤ length xs = grind (arith, nat_tests, fit) in
    let oldest = decimal_injective (big_number 2 xs) (big_number 2 ys) (two_low xs bx) (two_low ys by) (ap (λ j. text_in (first_in (members_in j))) e) in
    let newest = decimal_injective (big_number 2 (drop 2 xs)) (big_number 2 (drop 2 ys)) (two_low (drop 2 xs) (IsBytes-drop 2 xs bx)) (two_low (drop 2 ys) (IsBytes-drop 2 ys by)) (ap (λ j. text_in (first_in (behind_in (members_in j)))) e) in
    let days = digits-tell (drop 4 xs) (drop 4 ys) (IsBytes-drop 4 xs bx) (IsBytes-drop 4 ys by) (ap (λ j. text_in (first_in (behind_in (behind_in (behind_in (members_in j)))))) e) in
    let behind = by_pointer 2 (drop 2 xs) (drop 2 ys) (omega (arith, length-drop 2 xs, long)) (omega (arith, length-drop 2 xs, length-drop 2 ys, same)) (IsBytes-drop 2 xs bx) (IsBytes-drop 2 ys by) newest (drop-drop 2 2 xs ∙ days ∙ sym (drop-drop 2 2 ys)) in
    by_pointer 2 xs ys (omega (arith, long)) same bx by oldest behind
told_tells Vehicles xs ys fit same bx by e =
    let there : (2 ≤ length xs) × ((length xs - 2) % 31 ≡ 0) = ring_is 2 31 (length xs) fit in
    let pointer = decimal_injective (big_number 2 xs) (big_number 2 ys) (two_low xs bx) (two_low ys by) (ap (λ j. text_in (first_in (members_in j))) e) in
    let long : length (drop 2 xs) ≡ (length xs - 2) / 31 * 31 = omega (arith, length-drop 2 xs, there.0, there.1) in
    let records = list_tells kind.Vehicle ((length xs - 2) / 31) (drop 2 xs) (drop 2 ys) (ap (λ (n : ℕ). n / 31) (length-drop 2 xs)) long (omega (arith, length-drop 2 xs, length-drop 2 ys, same)) (IsBytes-drop 2 xs bx) (IsBytes-drop 2 ys by) (ap (λ j. first_in (behind_in (members_in j))) e) in
    by_pointer 2 xs ys there.0 same bx by pointer records
told_tells Places xs ys fit same bx by e =
    let there : (1 ≤ length xs) × ((length xs - 1) % 10 ≡ 0) = ring_is 1 10 (length xs) fit in
    let pointer = decimal_injective (big_number 1 xs) (big_number 1 ys) (one_low xs bx) (one_low ys by) (ap (λ j. text_in (first_in (members_in j))) e) in
    let long : length (drop 1 xs) ≡ (length xs - 1) / 10 * 10 = omega (arith, length-drop 1 xs, there.0, there.1) in
    let records = list_tells kind.CardPlace ((length xs - 1) / 10) (drop 1 xs) (drop 1 ys) (ap (λ (n : ℕ). n / 10) (length-drop 1 xs)) long (omega (arith, length-drop 1 xs, length-drop 1 ys, same)) (IsBytes-drop 1 xs bx) (IsBytes-drop 1 ys by) (ap (λ j. first_in (behind_in (members_in j))) e) in
    by_pointer 1 xs ys there.0 same bx by pointer records
told_tells Conditions xs ys fit same bx by e =
    let whole : length xs % 5 ≡ 0 = equal (length xs % 5) 0 fit in
    list_tells kind.Condition (length xs / 5) xs ys refl (omega (arith, whole)) same bx by (ap (λ j. first_in (members_in j)) e)
told_tells Bytes xs ys fit same bx by e = absurd (cc)

-- what a file holds
content_tells : (s : Shape) (xs ys : List ℕ) → length xs ≡ length ys → IsBytes xs → IsBytes ys → content_then None s xs no_members ≡ content_then None s ys no_members → xs ≡ ys
content_tells s xs ys same bx by e = by_test (fits s (length xs)) shaped digits
  where
    ys_too : (t : Bool) → fits s (length xs) ≡ t → fits s (length ys) ≡ t
    ys_too t is = ap (fits s) (sym same) ∙ is

    shaped : fits s (length xs) ≡ true → xs ≡ ys
    shaped is = told_tells s xs ys is same bx by (ap first_in (rw (is, ys_too true is) at e))

    digits : fits s (length xs) ≡ false → xs ≡ ys
    digits is = digits-tell xs ys bx by (ap (λ ms. text_in (first_in ms)) (rw (is, ys_too false is) at e))

kind-tells : (k l : ℕ) → k ≤ 1 → l ≤ 1 → kind_name k ≡ kind_name l → k ≡ l
kind-tells k l lk ll e = by_test (k == 0) (λ x. by_test (l == 0) (λ y. equal k 0 x ∙ sym (equal l 0 y)) (λ y. absurd (clash (rw (x, y) at e)))) (λ x. by_test (l == 0) (λ y. absurd (other (rw (x, y) at e))) (λ y. grind (arith, nat_tests, x, y)))
  where
    clash : codes "value" ≡ codes "signature" → ⊥
    clash is = cc

    other : codes "signature" ≡ codes "value" → ⊥
    other is = cc

file_tells : (e f : FileEntry) (place other : ℕ) → IsFileEntry e → IsFileEntry f → IsBytes e.value → IsBytes f.value → entry_shown None place e ≡ entry_shown None other f → entry_bytes e ≡ entry_bytes f
file_tells e f place other ie fine be bf is =
    let ms = ap members_in is in
    let ids : big_bytes 2 e.fid ≡ big_bytes 2 f.fid = digits-tell (big_bytes 2 e.fid) (big_bytes 2 f.fid) (IsBytes-big_bytes 2 e.fid) (IsBytes-big_bytes 2 f.fid) (ap (λ m. text_in (first_in (behind_in m))) ms) in
    let fid : e.fid ≡ f.fid = sym (big_number-big_bytes 2 e.fid ie.fid) ∙ ap (big_number 2) ids ∙ big_number-big_bytes 2 f.fid fine.fid in
    let kinds : e.kind ≡ f.kind = kind-tells e.kind f.kind ie.kind fine.kind (ap (λ m. text_in (first_in (behind_in (behind_in (behind_in m))))) ms) in
    let long : length e.value ≡ length f.value = decimal_injective (length e.value) (length f.value) (omega (arith, ie.short)) (omega (arith, fine.short)) (ap (λ m. text_in (first_in (behind_in (behind_in (behind_in (behind_in m)))))) ms) in
    let made = ap (λ m. behind_in (behind_in (behind_in (behind_in (behind_in m))))) ms in
    let shapes : shape_of e.fid e.kind ≡ shape_of f.fid f.kind = ap (λ (n : ℕ). shape_of n e.kind) fid ∙ ap (λ (n : ℕ). shape_of f.fid n) kinds in
    let value = content_tells (shape_of f.fid f.kind) e.value f.value long be bf (ap (λ (s : Shape). content_then None s e.value no_members) (sym shapes) ∙ made) in
    ap entry_bytes (λ t. record { fid = fid t; kind = kinds t; value = value t })

-- ---- a file

-- the value of a file that stands at the front of bytes
value_bytes : (e : FileEntry) (more : List ℕ) → IsBytes (entry_bytes e ++ more) → IsBytes e.value
value_bytes e more fits =
    let behind : IsBytes ((e.value ++ []) ++ more) = IsBytes-drop 5 (entry_bytes e ++ more) fits in
    front-bytes e.value [] (front-bytes (e.value ++ []) more behind)

files_tell : (es fs : List FileEntry) (place other : ℕ) → All IsFileEntry es → All IsFileEntry fs → IsBytes (joined (map entry_bytes es)) → IsBytes (joined (map entry_bytes fs))
    → entries_shown None place es ≡ entries_shown None other fs → joined (map entry_bytes es) ≡ joined (map entry_bytes fs)
files_tell [] [] place other ie fine be bf is = refl
files_tell [] (f ∷ fs) place other ie fine be bf is = absurd (cc)
files_tell (e ∷ es) [] place other ie fine be bf is = absurd (cc)
files_tell (e ∷ es) (f ∷ fs) place other ie fine be bf is =
    let first = file_tells e f place other (All-head IsFileEntry e es ie) (All-head IsFileEntry f fs fine) (value_bytes e (joined (map entry_bytes es)) be) (value_bytes f (joined (map entry_bytes fs)) bf) (ap first_item is) in
    let rest = files_tell es fs (place + length (entry_bytes e)) (other + length (entry_bytes f)) (All-tail IsFileEntry e es ie) (All-tail IsFileEntry f fs fine) (behind-bytes (entry_bytes e) (joined (map entry_bytes es)) be) (behind-bytes (entry_bytes f) (joined (map entry_bytes fs)) bf) (ap behind_item is) in
    ap (λ (l : List ℕ). l ++ joined (map entry_bytes es)) first ∙ ap (λ (l : List ℕ). entry_bytes f ++ l) rest

-- ---- its numbers are numbers, and it nests a few steps

list-numbers : (k : Kind) (value : List ℕ) → IsBytes value → HasNumbers (list_shown k value)
list-numbers k value fits = items_numbers (length value / width_of k) (fields_of k) value (kinds_are k) (div-mul-le_self (length value) (width_of k)) fits

list-depth : (k : Kind) (value : List ℕ) → depth (list_shown k value) ≤ 5
list-depth k value = omega (arith, items_flat (length value / width_of k) (fields_of k) value)

lists-numbers : (count len : ℕ) (k : Kind) (value : List ℕ) → IsBytes value → ItemsHaveNumbers (lists_shown count len k value)
unfolding lists_shown
lists-numbers zero len k value fits = tt
lists-numbers (suc count) len k value fits = (list-numbers k (take len value) (IsBytes-take len value fits), lists-numbers count len k (drop len value) (IsBytes-drop len value fits))

lists-depth : (count len : ℕ) (k : Kind) (value : List ℕ) → items_depth (lists_shown count len k value) ≤ 5
unfolding lists_shown
lists-depth zero len k value = omega arith
lists-depth (suc count) len k value = omega (arith, list-depth k (take len value), lists-depth count len k (drop len value))

-- ---- the records of a string

both-bytes : (front behind : List ℕ) → IsBytes front → IsBytes behind → IsBytes (front ++ behind)
both-bytes [] behind ff fb = fb
both-bytes (b ∷ front) behind ff fb = one_more_byte b (front ++ behind) (ff 0) (both-bytes front behind (λ i. ff (suc i)) fb)

day-numbers : (bytes : List ℕ) → 14 ≤ length bytes → IsBytes bytes → HasNumbers (day_shown bytes)
day-numbers bytes long fits =
    fields_numbers (fields_of kind.DailyRecord) bytes (member (name_text ActivityChangeInfos) (array (changes_shown true ((length bytes - 12) / 2) (drop 12 bytes))) no_members) (kinds_are kind.DailyRecord)
    (omega (arith, long)) fits (changes-numbers true ((length bytes - 12) / 2) (drop 12 bytes), tt)

day-depth : (bytes : List ℕ) → depth (day_shown bytes) ≤ 4
day-depth bytes =
    let inner : members_depth (member (name_text ActivityChangeInfos) (array (changes_shown true ((length bytes - 12) / 2) (drop 12 bytes))) no_members) ≤ 3 = omega (arith, changes-depth true ((length bytes - 12) / 2) (drop 12 bytes)) in
    omega (arith, fields_depth (fields_of kind.DailyRecord) bytes (member (name_text ActivityChangeInfos) (array (changes_shown true ((length bytes - 12) / 2) (drop 12 bytes))) no_members) 3 (omega arith) inner)

days-numbers : (most far : ℕ) (bytes : List ℕ) → IsBytes bytes → ItemsHaveNumbers (days_shown most far bytes)
unfolding days_shown
days-numbers zero far bytes fits = tt
days-numbers (suc most) far bytes fits =
    by_test (is_day bytes)
    (λ is.
    let there = day_is bytes is in
    let wide : length (take (day_len bytes) bytes) ≡ day_len bytes = length-take-le (day_len bytes) bytes there.1 in
    rw is (
      day-numbers (take (day_len bytes) bytes) (omega (arith, wide, there.0)) (IsBytes-take (day_len bytes) bytes fits),
      by_test (nat_lt far (day_len bytes)) (λ y. rw y tt) (λ y. rw y (days-numbers most (far - day_len bytes) (drop (day_len bytes) bytes) (IsBytes-drop (day_len bytes) bytes fits))),
    ))
    (λ is. rw is tt)

days-depth : (most far : ℕ) (bytes : List ℕ) → items_depth (days_shown most far bytes) ≤ 4
unfolding days_shown
days-depth zero far bytes = omega arith
days-depth (suc most) far bytes =
    by_test (is_day bytes)
    (λ is. by_test (nat_lt far (day_len bytes))
    (λ y. rw (is, y) (omega (arith, day-depth (take (day_len bytes) bytes))))
    (λ y. rw (is, y) (omega (arith, day-depth (take (day_len bytes) bytes), days-depth most (far - day_len bytes) (drop (day_len bytes) bytes)))))
    (λ is. rw is (omega arith))

-- without the first of them
behind-numbers : (n : ℕ) (js : Items) → ItemsHaveNumbers js → ItemsHaveNumbers (items_behind n js)
behind-numbers zero js has = has
behind-numbers (suc n) no_items has = tt
behind-numbers (suc n) (item j js) has = behind-numbers n js has.1

behind-depth : (n : ℕ) (js : Items) → items_depth (items_behind n js) ≤ items_depth js
behind-depth zero js = omega arith
behind-depth (suc n) no_items = omega arith
behind-depth (suc n) (item j js) = omega (arith, behind-depth n js)

newest-numbers : (last : Option ℕ) (js : Items) → ItemsHaveNumbers js → ItemsHaveNumbers (newest_items last js)
newest-numbers last js has = behind-numbers (before_last last (items_count js)) js has

newest-depth : (last : Option ℕ) (js : Items) → items_depth (newest_items last js) ≤ items_depth js
newest-depth last js = behind-depth (before_last last (items_count js)) js

string-numbers : (last : Option ℕ) (oldest newest : ℕ) (bytes : List ℕ) → IsBytes bytes → HasNumbers (string_shown last oldest newest bytes)
string-numbers last oldest newest bytes fits =
    newest-numbers last (days_shown (length bytes) (far_between oldest newest (length bytes)) (circle_from oldest bytes))
    (days-numbers (length bytes) (far_between oldest newest (length bytes)) (circle_from oldest bytes) (both-bytes (drop oldest bytes) (take oldest bytes) (IsBytes-drop oldest bytes fits) (IsBytes-take oldest bytes fits)))

string-depth : (last : Option ℕ) (oldest newest : ℕ) (bytes : List ℕ) → depth (string_shown last oldest newest bytes) ≤ 5
string-depth last oldest newest bytes =
    omega (arith, newest-depth last (days_shown (length bytes) (far_between oldest newest (length bytes)) (circle_from oldest bytes)), days-depth (length bytes) (far_between oldest newest (length bytes)) (circle_from oldest bytes))

bytes-numbers : (last : Option ℕ) (bytes : List ℕ) → MembersHaveNumbers (bytes_then last bytes no_members)
bytes-numbers None bytes = (tt, tt)
bytes-numbers (Some n) bytes = tt

bytes-depth : (last : Option ℕ) (bytes : List ℕ) → members_depth (bytes_then last bytes no_members) ≤ 0
bytes-depth None bytes = omega arith
bytes-depth (Some n) bytes = omega arith

told-numbers : (last : Option ℕ) (s : Shape) (value : List ℕ) → fits s (length value) ≡ true → IsBytes value → HasNumbers (told last s value)
told-numbers last (Record k) value fit are = members_numbers (fields_of k) value (kinds_are k) (let wide : length value ≡ width_of k = equal (length value) (width_of k) fit in omega (arith, wide)) are
told-numbers last Events value fit are = (lists-numbers 6 (length value / 6) kind.CardEvent value are, tt)
told-numbers last Faults value fit are = (lists-numbers 2 (length value / 2) kind.CardFault value are, tt)
told-numbers last Days value fit are = (IsNumber-decimal (big_number 2 value) (two_low value are), (IsNumber-decimal (big_number 2 (drop 2 value)) (two_low (drop 2 value) (IsBytes-drop 2 value are)), (string-numbers last (big_number 2 value) (big_number 2 (drop 2 value)) (drop 4 value) (IsBytes-drop 4 value are), bytes-numbers last (drop 4 value))))
told-numbers last Vehicles value fit are = (IsNumber-decimal (big_number 2 value) (two_low value are), (list-numbers kind.Vehicle (drop 2 value) (IsBytes-drop 2 value are), tt))
told-numbers last Places value fit are = (IsNumber-decimal (big_number 1 value) (one_low value are), (list-numbers kind.CardPlace (drop 1 value) (IsBytes-drop 1 value are), tt))
told-numbers last Conditions value fit are = (list-numbers kind.Condition value are, tt)
told-numbers last Bytes value fit are = tt

told-depth : (last : Option ℕ) (s : Shape) (value : List ℕ) → depth (told last s value) ≤ 7
told-depth last (Record k) value = omega (arith, members_flat (fields_of k) value)
told-depth last Events value = omega (arith, lists-depth 6 (length value / 6) kind.CardEvent value)
told-depth last Faults value = omega (arith, lists-depth 2 (length value / 2) kind.CardFault value)
told-depth last Days value = omega (arith, string-depth last (big_number 2 value) (big_number 2 (drop 2 value)) (drop 4 value), bytes-depth last (drop 4 value))
told-depth last Vehicles value = omega (arith, list-depth kind.Vehicle (drop 2 value))
told-depth last Places value = omega (arith, list-depth kind.CardPlace (drop 1 value))
told-depth last Conditions value = omega (arith, list-depth kind.Condition value)
told-depth last Bytes value = omega arith

content-numbers : (last : Option ℕ) (s : Shape) (value : List ℕ) → IsBytes value → MembersHaveNumbers (content_then last s value no_members)
content-numbers last s value are = by_test (fits s (length value)) (λ is. rw is (told-numbers last s value is are, tt)) (λ is. rw is (tt, tt))

content-depth : (last : Option ℕ) (s : Shape) (value : List ℕ) → members_depth (content_then last s value no_members) ≤ 7
content-depth last s value = by_test (fits s (length value)) (λ is. rw is (omega (arith, told-depth last s value))) (λ is. rw is (omega arith))

file-numbers : (last : Option ℕ) (e : FileEntry) (place : ℕ) → place < 2 ^ 64 → IsFileEntry e → IsBytes e.value → HasNumbers (entry_shown last place e)
file-numbers last e place low is are =
    (IsNumber-decimal place low, (tt, (tt, (tt, (IsNumber-decimal (length e.value) (omega (arith, is.short)), content-numbers last (shape_of e.fid e.kind) e.value are)))))

file-depth : (last : Option ℕ) (e : FileEntry) (place : ℕ) → depth (entry_shown last place e) ≤ 8
file-depth last e place = omega (arith, content-depth last (shape_of e.fid e.kind) e.value)

files-numbers : (last : Option ℕ) (es : List FileEntry) (place : ℕ) → place + length (joined (map entry_bytes es)) < 2 ^ 64 → All IsFileEntry es → IsBytes (joined (map entry_bytes es)) → ItemsHaveNumbers (entries_shown last place es)
files-numbers last [] place low is fits = tt
files-numbers last (e ∷ es) place low is fits =
    let long : length (entry_bytes e ++ joined (map entry_bytes es)) ≡ length (entry_bytes e) + length (joined (map entry_bytes es)) = length-append (entry_bytes e) (joined (map entry_bytes es)) in (
      file-numbers last e place (omega (arith, low)) (All-head IsFileEntry e es is) (value_bytes e (joined (map entry_bytes es)) fits),
      files-numbers last es (place + length (entry_bytes e)) (omega (arith, low, long)) (All-tail IsFileEntry e es is) (behind-bytes (entry_bytes e) (joined (map entry_bytes es)) fits),
    )

files-depth : (last : Option ℕ) (es : List FileEntry) (place : ℕ) → items_depth (entries_shown last place es) ≤ 8
files-depth last [] place = omega arith
files-depth last (e ∷ es) place = omega (arith, file-depth last e place, files-depth last es (place + length (entry_bytes e)))

-- THE TEXT OF A CARD FILE is read as its value
pub card_is_json : (last : Option ℕ) (entries : List FileEntry) (bytes : List ℕ) → length bytes < 2 ^ 32 → IsBytes bytes → AreFiles entries bytes → document (print (json_tokens (json_of_card last entries))) ≡ Some (json_of_card last entries)
card_is_json last entries bytes short fits files =
    let are : IsBytes (joined (map entry_bytes entries)) = subst IsBytes files.spelled fits in
    document-print (json_of_card last entries)
    (tt, (files-numbers last entries 0 (omega (arith, short, ap length files.spelled)) files.each are, tt))
    (omega (arith, files-depth last entries 0))

-- and tells the file
pub card_text_tells : (xs ys out : List ℕ) → length xs < 2 ^ 32 → length ys < 2 ^ 32 → IsBytes xs → IsBytes ys → IsCardJson None xs out → IsCardJson None ys out → xs ≡ ys
card_text_tells xs ys out lx ly bx by jx jy =
    let texts = (same_from_push (print (json_tokens (json_of_card None jx.entries))) (print (json_tokens (json_of_card None jy.entries))) 10 10 (sym jx.text ∙ jy.text)).0 in
    let fx : AreFiles jx.entries xs = record { each = jx.are.each; spelled = jx.are.spelled } in
    let fy : AreFiles jy.entries ys = record { each = jy.are.each; spelled = jy.are.spelled } in
    let reads = sym (card_is_json None jx.entries xs lx bx fx) ∙ ap document texts ∙ card_is_json None jy.entries ys ly by fy in
    let items : entries_shown None 0 jx.entries ≡ entries_shown None 0 jy.entries = ap (λ (o : Option Json). items_in (first_in (behind_in (members_in (value_in o))))) reads in
    jx.are.spelled
    ∙ files_tell jx.entries jy.entries 0 0 jx.are.each jy.are.each (subst IsBytes jx.are.spelled bx) (subst IsBytes jy.are.spelled by) items
    ∙ sym jy.are.spelled
