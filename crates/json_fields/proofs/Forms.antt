-- What the forms of fields tell.
use Rattle.std.proofs.Common.{◌≡◌, ◌∙◌, ℕ, zero, suc, replicate, subst, ◌-◌, ◌/◌, ◌%◌, ◌<◌, ◌≤◌, ◌^◌, Bool, true, false, List, [], ◌∷◌, ◌++◌, length, take, drop, refl, ap, sym, arith, rules, length-drop}
use Rattle.std.specs.Prelude.{◌==◌, ◌&&◌, if◌then◌else◌, chars, slice_index, codes, bytes_eq}
use Rattle.std.proofs.lemmas.List.{take-append-drop, length-take-le, get_or-drop, drop-drop}
use Rattle.std.proofs.lemmas.Str.{chars-encodes}
use Rattle.std.proofs.lemmas.Bool.Decides.{nat_tests}
use Rattle.std.proofs.lemmas.Fmt.{decimal_injective}
use Rattle.std.proofs.Math.Utf8.{scalars, low_scalar}
use Rattle.byteorder.specs.Endian.{big_number}
use Rattle.byteorder.specs.Numbers.{big_from-lt}
use Rattle.card_layout.specs.Fields.{IsBytes}
use Rattle.card_layout.proofs.Cuts.{IsBytes-take, IsBytes-drop}
use Rattle.card_layout.proofs.Numbers.{big_number-injective}
use Rattle.json.specs.Json.{Json}
use Rattle.json_fields.specs.declared.codes.Coding.{Coding}
use Rattle.json_fields.specs.declared.codes.Coding.TheVariants.{Equipment, Nation}
use Rattle.json_fields.specs.Dates.{time_text}
use Rattle.json_fields.specs.Texts.{are_zeros, or_none, cut, characters, text_of, time_value, text_value, code_value, card_value, registration_value, holder_value, numbers_shown, slot_word, activity_word, change_value}
use Rattle.json_fields.proofs.Cutting.{by_test, equal, cut-spaces, cut-tells}
use Rattle.json_fields.proofs.Days.{one_more_byte, time_text-tells, time_text-bytes}
use Rattle.json_fields.proofs.Taking.{text_in, truth_in, members_in, first_in, behind_in, first_item, behind_item, is_null}

-- bytes are characters below 256, each a scalar value
scalars-of : (bytes : List ℕ) → IsBytes bytes → scalars bytes ≡ true
scalars-of [] fits = refl
scalars-of (b ∷ bytes) fits = ap (λ (t : Bool). t && scalars bytes) (low_scalar b (omega (arith, fits 0))) ∙ scalars-of bytes (λ i. fits (suc i))

-- a front of bytes are bytes
pub front-bytes : (front behind : List ℕ) → IsBytes (front ++ behind) → IsBytes front
front-bytes [] behind fits = λ i. omega arith
front-bytes (b ∷ front) behind fits = one_more_byte b front (fits 0) (front-bytes front behind (λ k. fits (suc k)))

cut-bytes : (bytes : List ℕ) → IsBytes bytes → IsBytes (cut bytes)
cut-bytes bytes fits = front-bytes (cut bytes) (replicate (length bytes - length (cut bytes)) 32) (subst IsBytes (cut-spaces bytes) fits)

-- characters tell their bytes
pub characters-tell : (xs ys : List ℕ) → length xs ≡ length ys → IsBytes xs → IsBytes ys → characters xs ≡ characters ys → xs ≡ ys
characters-tell xs ys same bx by e =
    cut-tells xs ys same (sym (chars-encodes (cut xs) (scalars-of (cut xs) (cut-bytes xs bx))) ∙ ap chars e ∙ chars-encodes (cut ys) (scalars-of (cut ys) (cut-bytes ys by)))

-- the number of four bytes
four_fits : (bytes : List ℕ) → IsBytes bytes → big_number 4 bytes < 2 ^ 32
four_fits bytes fits = omega (arith, big_from-lt 0 4 bytes fits)

-- a time tells its bytes
pub time-tells : (xs ys : List ℕ) → length xs ≡ 4 → length ys ≡ 4 → IsBytes xs → IsBytes ys → time_value xs ≡ time_value ys → xs ≡ ys
time-tells xs ys lx ly bx by e =
    let v = big_number 4 xs in
    let w = big_number 4 ys in
    let lv : v < 2 ^ 32 = four_fits xs bx in
    let lw : w < 2 ^ 32 = four_fits ys by in
    let texts : time_text v ≡ time_text w = characters-tell (time_text v) (time_text w) refl (time_text-bytes v lv) (time_text-bytes w lw) (ap text_in e) in
    big_number-injective 4 xs ys lx ly bx by (time_text-tells v w lv lw texts)

-- bytes by their first one and what stands behind it
by_first : (xs ys : List ℕ) → 1 ≤ length xs → length xs ≡ length ys → slice_index xs 0 ≡ slice_index ys 0 → drop 1 xs ≡ drop 1 ys → xs ≡ ys
by_first [] ys some same first behind = absurd (omega (arith, some))
by_first (x ∷ xs) [] some same first behind = absurd (omega (arith, same))
by_first (x ∷ xs) (y ∷ ys) some same first behind = ap (λ (b : ℕ). b ∷ xs) first ∙ ap (λ (l : List ℕ). y ∷ l) behind

-- a code tells its byte
pub code-tells : (coding : Coding) (v w : ℕ) → v < 256 → w < 256 → code_value coding v ≡ code_value coding w → v ≡ w
code-tells coding v w lv lw e = decimal_injective v w (omega (arith, lv)) (omega (arith, lw)) (ap (λ j. text_in (first_in (members_in j))) e)

-- as many zeros are the same bytes
pub zeros_alike : (xs ys : List ℕ) → length xs ≡ length ys → are_zeros xs ≡ true → are_zeros ys ≡ true → xs ≡ ys
zeros_alike [] [] same zx zy = refl
zeros_alike [] (y ∷ ys) same zx zy = absurd (omega (arith, same))
zeros_alike (x ∷ xs) [] same zx zy = absurd (omega (arith, same))
zeros_alike (x ∷ xs) (y ∷ ys) same zx zy =
    let heads : x ≡ y = search rules in
    let rest : xs ≡ ys = zeros_alike xs ys (omega (arith, same)) (search rules) (search rules) in
    rw (heads, rest) refl

-- what tells bytes that are not all 0 tells them too where zeros are none
pub or_none-tells : (told : List ℕ → Json) → ((bytes : List ℕ) → is_null (told bytes) ≡ false) → (xs ys : List ℕ) → length xs ≡ length ys → (told xs ≡ told ys → xs ≡ ys)
    → or_none told xs ≡ or_none told ys → xs ≡ ys
or_none-tells told some xs ys long tells e = by_test (are_zeros xs) none not_none
  where
    null_is : (bytes : List ℕ) → is_null (or_none told bytes) ≡ are_zeros bytes
    null_is bytes = by_test (are_zeros bytes) (λ is. rw is refl) (λ is. rw is (some bytes))

    same : are_zeros xs ≡ are_zeros ys
    same = sym (null_is xs) ∙ ap is_null e ∙ null_is ys

    none : are_zeros xs ≡ true → xs ≡ ys
    none is = zeros_alike xs ys long is (sym same ∙ is)

    told_is : (bytes : List ℕ) → are_zeros bytes ≡ false → or_none told bytes ≡ told bytes
    told_is bytes is = rw is refl

    not_none : are_zeros xs ≡ false → xs ≡ ys
    not_none is = tells (sym (told_is xs is) ∙ e ∙ told_is ys (sym same ∙ is))

-- a code page with characters tells its bytes
pub text-tells : (xs ys : List ℕ) → 1 ≤ length xs → length xs ≡ length ys → IsBytes xs → IsBytes ys → or_none text_value xs ≡ or_none text_value ys → xs ≡ ys
text-tells xs ys some same bx by = or_none-tells text_value (λ bytes. refl) xs ys same told
  where
    told : text_value xs ≡ text_value ys → xs ≡ ys
    told e =
        let ms = ap members_in e in
        let page = decimal_injective (slice_index xs 0) (slice_index ys 0) (omega (arith, bx 0)) (omega (arith, by 0)) (ap (λ m. text_in (first_in m)) ms) in
        let text = characters-tell (drop 1 xs) (drop 1 ys) (omega (arith, length-drop 1 xs, length-drop 1 ys, same)) (IsBytes-drop 1 xs bx) (IsBytes-drop 1 ys by) (ap (λ m. text_in (first_in (behind_in m))) ms) in
        by_first xs ys some same page text

-- and so do characters alone
pub latin-tells : (xs ys : List ℕ) → length xs ≡ length ys → IsBytes xs → IsBytes ys → or_none text_of xs ≡ or_none text_of ys → xs ≡ ys
latin-tells xs ys same bx by = or_none-tells text_of (λ bytes. refl) xs ys same (λ e. characters-tell xs ys same bx by (ap text_in e))

-- a card's number, by its first byte, its second and the others
pub card-tells : (xs ys : List ℕ) → length xs ≡ 18 → length ys ≡ 18 → IsBytes xs → IsBytes ys → or_none card_value xs ≡ or_none card_value ys → xs ≡ ys
card-tells xs ys lx ly bx by = or_none-tells card_value (λ bytes. refl) xs ys (lx ∙ sym ly) told
  where
    dx : length (drop 1 xs) ≡ 17
    dx = omega (arith, length-drop 1 xs, lx)

    dy : length (drop 1 ys) ≡ 17
    dy = omega (arith, length-drop 1 ys, ly)

    told : card_value xs ≡ card_value ys → xs ≡ ys
    told e =
        let ms = ap members_in e in
        let kind = code-tells Equipment (slice_index xs 0) (slice_index ys 0) (bx 0) (by 0) (ap first_in ms) in
        let state = code-tells Nation (slice_index xs 1) (slice_index ys 1) (bx 1) (by 1) (ap (λ m. first_in (behind_in m)) ms) in
        let text = characters-tell (drop 2 xs) (drop 2 ys) (omega (arith, length-drop 2 xs, length-drop 2 ys, lx, ly)) (IsBytes-drop 2 xs bx) (IsBytes-drop 2 ys by) (ap (λ m. text_in (first_in (behind_in (behind_in m)))) ms) in
        let behind = by_first (drop 1 xs) (drop 1 ys) (omega (arith, dx)) (dx ∙ sym dy) (get_or-drop 1 xs 0 0 ∙ state ∙ sym (get_or-drop 1 ys 0 0)) (drop-drop 1 1 xs ∙ text ∙ sym (drop-drop 1 1 ys)) in
        by_first xs ys (omega (arith, lx)) (lx ∙ sym ly) kind behind

-- a nation with a plate
pub registration-tells : (xs ys : List ℕ) → length xs ≡ 15 → length ys ≡ 15 → IsBytes xs → IsBytes ys → or_none registration_value xs ≡ or_none registration_value ys → xs ≡ ys
registration-tells xs ys lx ly bx by = or_none-tells registration_value (λ bytes. refl) xs ys (lx ∙ sym ly) told
  where
    told : registration_value xs ≡ registration_value ys → xs ≡ ys
    told e =
        let ms = ap members_in e in
        let nation = code-tells Nation (slice_index xs 0) (slice_index ys 0) (bx 0) (by 0) (ap first_in ms) in
        let plate = text-tells (drop 1 xs) (drop 1 ys) (omega (arith, length-drop 1 xs, lx)) (omega (arith, length-drop 1 xs, length-drop 1 ys, lx, ly)) (IsBytes-drop 1 xs bx) (IsBytes-drop 1 ys by) (ap (λ m. first_in (behind_in m)) ms) in
        by_first xs ys (omega (arith, lx)) (lx ∙ sym ly) nation plate

-- a surname with first names
pub holder-tells : (xs ys : List ℕ) → length xs ≡ 72 → length ys ≡ 72 → IsBytes xs → IsBytes ys → or_none holder_value xs ≡ or_none holder_value ys → xs ≡ ys
holder-tells xs ys lx ly bx by = or_none-tells holder_value (λ bytes. refl) xs ys (lx ∙ sym ly) told
  where
    told : holder_value xs ≡ holder_value ys → xs ≡ ys
    told e =
        let ms = ap members_in e in
        let tx : length (take 36 xs) ≡ 36 = length-take-le 36 xs (omega (arith, lx)) in
        let ty : length (take 36 ys) ≡ 36 = length-take-le 36 ys (omega (arith, ly)) in
        let surname = text-tells (take 36 xs) (take 36 ys) (omega (arith, tx)) (tx ∙ sym ty) (IsBytes-take 36 xs bx) (IsBytes-take 36 ys by) (ap first_in ms) in
        let first_names = text-tells (drop 36 xs) (drop 36 ys) (omega (arith, length-drop 36 xs, lx)) (omega (arith, length-drop 36 xs, length-drop 36 ys, lx, ly)) (IsBytes-drop 36 xs bx) (IsBytes-drop 36 ys by) (ap (λ m. first_in (behind_in m)) ms) in
        sym (take-append-drop 36 xs) ∙ ap (λ (l : List ℕ). l ++ drop 36 xs) surname ∙ ap (λ (l : List ℕ). take 36 ys ++ l) first_names ∙ take-append-drop 36 ys

-- a number for each byte
pub numbers-tell : (xs ys : List ℕ) → length xs ≡ length ys → IsBytes xs → IsBytes ys → numbers_shown xs ≡ numbers_shown ys → xs ≡ ys
numbers-tell [] [] same bx by e = refl
numbers-tell [] (y ∷ ys) same bx by e = absurd (omega (arith, same))
numbers-tell (x ∷ xs) [] same bx by e = absurd (omega (arith, same))
numbers-tell (x ∷ xs) (y ∷ ys) same bx by e =
    let head : x ≡ y = decimal_injective x y (omega (arith, bx 0)) (omega (arith, by 0)) (ap (λ js. text_in (first_item js)) e) in
    let rest : xs ≡ ys = numbers-tell xs ys (omega (arith, same)) (λ i. bx (suc i)) (λ i. by (suc i)) (ap behind_item e) in
    ap (λ (b : ℕ). b ∷ xs) head ∙ ap (λ (l : List ℕ). y ∷ l) rest

-- ---- changes of activity

word_is : (v w : ℕ) → v < 65536 → w < 65536 → v / 32768 ≡ w / 32768 → v / 16384 % 2 ≡ w / 16384 % 2 → v / 8192 % 2 ≡ w / 8192 % 2 → v / 2048 % 4 ≡ w / 2048 % 4 → v % 2048 ≡ w % 2048 → v ≡ w
word_is v w lv lw slot crew card act minute = omega (arith, slot, crew, card, act, minute)

-- a number by the word for it
slot-tells : (v w : ℕ) → v < 65536 → w < 65536 → slot_word v ≡ slot_word w → v / 32768 ≡ w / 32768
slot-tells v w lv lw e = by_test (v / 32768 == 0) (λ x. by_test (w / 32768 == 0) (λ y. equal (v / 32768) 0 x ∙ sym (equal (w / 32768) 0 y)) (λ y. absurd (clash (rw (x, y) at e)))) (λ x. by_test (w / 32768 == 0) (λ y. absurd (other (rw (x, y) at e))) (λ y. grind (arith, nat_tests, x, y)))
  where
    clash : codes "driver" ≡ codes "codriver" → ⊥
    clash is = cc

    other : codes "codriver" ≡ codes "driver" → ⊥
    other is = cc

-- two bits by their test
bit-tells : (v w k : ℕ) → v < 2 → w < 2 → k < 2 → (v == k) ≡ (w == k) → v ≡ w
bit-tells v w k lv lw lk e = by_test (v == k) (λ x. equal v k x ∙ sym (equal w k (sym e ∙ x))) (λ x. let y : (w == k) ≡ false = sym e ∙ x in grind (arith, nat_tests, x, y))

-- an activity by its word
act_of : List ℕ → ℕ
act_of word = if bytes_eq word (codes "rest") then 0 else (if bytes_eq word (codes "available") then 1 else (if bytes_eq word (codes "work") then 2 else 3))

act_is : (n : ℕ) → n < 4 → act_of (activity_word n) ≡ n
unfolding act_of
act_is zero low = refl
act_is (suc zero) low = refl
act_is (suc (suc zero)) low = refl
act_is (suc (suc (suc zero))) low = refl
act_is (suc (suc (suc (suc n)))) low = absurd (omega (arith, low))

-- five fields tell a change of activity
pub change-tells : (on_card : Bool) (v w : ℕ) → v < 65536 → w < 65536 → change_value on_card v ≡ change_value on_card w → v ≡ w
change-tells on_card v w lv lw e =
    let ms = ap members_in e in
    let minute = decimal_injective (v % 2048) (w % 2048) (omega arith) (omega arith) (ap (λ m. text_in (first_in m)) ms) in
    let slot = slot-tells v w lv lw (ap (λ m. text_in (first_in (behind_in m))) ms) in
    let crew = bit-tells (v / 16384 % 2) (w / 16384 % 2) 1 (omega arith) (omega arith) (omega arith) (ap (λ m. truth_in (first_in (behind_in (behind_in m)))) ms) in
    let card = bit-tells (v / 8192 % 2) (w / 8192 % 2) 0 (omega arith) (omega arith) (omega arith) (ap (λ m. truth_in (first_in (behind_in (behind_in (behind_in m))))) ms) in
    let word : activity_word (v / 2048 % 4) ≡ activity_word (w / 2048 % 4) = ap (λ m. text_in (first_in (behind_in (behind_in (behind_in (behind_in m)))))) ms in
    let act = sym (act_is (v / 2048 % 4) (omega arith)) ∙ ap act_of word ∙ act_is (w / 2048 % 4) (omega arith) in
    word_is v w lv lw slot crew card act minute
