-- A unit with 365 days, by its bytes: two million of them, so what it records is reckoned, and not computed.
use Rattle.std.proofs.Common.{◌≡◌, ℕ, zero, suc, ◌+◌, ◌-◌, ◌*◌, ◌/◌, ◌^◌, ◌<◌, ◌≤◌, Bool, true, false, cond, List, [], ◌∷◌, ◌++◌, All, map, filter, length, take, drop, nat_le, refl, ap, subst, sym, ◌∙◌, arith}
use Rattle.std.specs.Prelude.{◌==◌, not, replicate}
use Rattle.std.specs.List.{range_with_len}
use Rattle.std.proofs.Math.Seq.{drop-append-add}
use Rattle.std.proofs.lemmas.List.{length-map}
use Rattle.std.proofs.lemmas.Bool.Decides.{nat_tests}
use Rattle.std.proofs.lemmas.List.Elements.{All-head, All-tail, All-map}
use Rattle.byteorder.specs.Endian.{big_number, big_bytes}
use Rattle.card_layout.proofs.Numbers.{big_number-big_bytes}
use Rattle.gated_ring.specs.Ring.{number_at, pointer, is_there, entry_at, gate_of, place_of, next, order, indices as ring_indices}
use Rattle.gated_ring.proofs.Orders.{range_each}
use Rattle.unit_model.specs.Days.{StoredDay, ShownDay, day_of, day_shown, days_shown}
use Rattle.unit_model.specs.Image.{recorded, unit_days, last_kept, day_ring, unit_day}
use Rattle.days_told.proofs.Turning.{each-all}

-- the place of a day: its date, and zeros; the first is the third day of 1970
abbrev slot : ℕ → List ℕ
slot i = big_bytes 4 (86400 * (i + 2)) ++ replicate 5772 0

unfoldable pub slots : (from n : ℕ) → List ℕ
slots from zero = []
slots from (suc n) = slot from ++ slots (from + 1) n

-- version 1, the day of the last place as last-kept minute, and that place as the newest
abbrev front : List ℕ
front = (0 ∷ 0 ∷ 0 ∷ 1 ∷ []) ++ replicate 560 0 ++ (0 ∷ 8 ∷ 10 ∷ 192 ∷ []) ++ replicate 456 0 ++ (0 ∷ 0 ∷ 1 ∷ 108 ∷ [])

-- THE IMAGE: all but the last of the 366 places have a day
abbrev pub year : List ℕ
year = front ++ slots 0 365

front-length : length front ≡ 1028
front-length = refl

slot-length : (i : ℕ) → length (slot i) ≡ 5776
slot-length i = refl

slots-drop : (i from n : ℕ) → i ≤ n → drop (i * 5776) (slots from n) ≡ slots (from + i) (n - i)
unfolding slots
slots-drop zero from n le =
    let e : from ≡ from + 0 = omega arith in
    let f : n ≡ n - 0 = omega arith in
    ap (λ (k : ℕ). slots k n) e ∙ ap (slots (from + 0)) f
slots-drop (suc i) from zero le = absurd (omega (arith, le))
slots-drop (suc i) from (suc n) le =
    let len = slot-length from in
    let e : suc i * 5776 ≡ length (slot from) + i * 5776 = omega (arith, len) in
    let f : (from + 1) + i ≡ from + suc i = omega arith in
    let g : n - i ≡ suc n - suc i = omega arith in
    ap (λ (k : ℕ). drop k (slot from ++ slots (from + 1) n)) e ∙ drop-append-add (slot from) (slots (from + 1) n) (i * 5776) ∙ slots-drop i (from + 1) n (omega (arith, le))
    ∙ ap (λ (k : ℕ). slots k (n - i)) f ∙ ap (slots (from + suc i)) g

-- what stands at a place
at-place : (i : ℕ) → i ≤ 365 → drop (place_of day_ring i) year ≡ slots i (365 - i)
at-place i le =
    let len = front-length in
    let p : place_of day_ring i ≡ 1024 + 4 + i * 5776 = refl in
    let e : place_of day_ring i ≡ length front + i * 5776 = omega (arith, len, p) in
    let f : 0 + i ≡ i = omega arith in
    ap (λ (k : ℕ). drop k year) e ∙ drop-append-add front (slots 0 365) (i * 5776) ∙ slots-drop i 0 365 le ∙ ap (λ (k : ℕ). slots k (365 - i)) f

first-date : (i n : ℕ) → 0 < n → i < 365 → big_number 4 (take 4 (slots i n)) ≡ 86400 * (i + 2)
unfolding slots
first-date i zero some small = absurd (omega (arith, some))
first-date i (suc n) some small = big_number-big_bytes 4 (86400 * (i + 2)) (let p : 256 ^ 4 ≡ 4294967296 = refl in omega (arith, small, p))

entry-date : (i n : ℕ) → 0 < n → i < 365 → big_number 4 (take 4 (take 5776 (slots i n))) ≡ 86400 * (i + 2)
unfolding slots
entry-date i zero some small = absurd (omega (arith, some))
entry-date i (suc n) some small = big_number-big_bytes 4 (86400 * (i + 2)) (let p : 256 ^ 4 ≡ 4294967296 = refl in omega (arith, small, p))

no-date : (n : ℕ) → n ≡ 0 → big_number 4 (take 4 (slots 365 n)) ≡ 0
unfolding slots
no-date zero none = refl
no-date (suc n) none = absurd (omega (arith, none))

gate-number : (i : ℕ) → i ≤ 365 → number_at year (gate_of day_ring i) 4 ≡ big_number 4 (take 4 (slots i (365 - i)))
gate-number i le =
    let e : gate_of day_ring i ≡ place_of day_ring i = omega arith in
    ap (λ (k : ℕ). number_at year k 4) e ∙ ap (λ (zs : List ℕ). big_number 4 (take 4 zs)) (at-place i le)

is-there : (i : ℕ) → i < 365 → is_there day_ring year i ≡ true
is-there i less = go (number_at year (gate_of day_ring i) 4) (gate-number i (omega (arith, less)) ∙ first-date i (365 - i) (omega (arith, less)) less)
  where
    go : (n : ℕ) → n ≡ 86400 * (i + 2) → not (n == 0) ≡ true
    go n is = let some : 0 < n = omega (arith, is) in grind (arith, nat_tests)

none-there : is_there day_ring year 365 ≡ false
none-there = go (number_at year (gate_of day_ring 365) 4) (gate-number 365 (omega arith) ∙ no-date (365 - 365) (omega arith))
  where
    go : (n : ℕ) → n ≡ 0 → not (n == 0) ≡ false
    go n is = grind (arith, nat_tests)

-- what passes a test all through stays whole
filters : {X : Type 0} (p : X → Bool) (xs : List X) → All (λ x. p x ≡ true) xs → filter p xs ≡ xs
filters p [] all = refl
filters p (x ∷ xs) all = ap (λ (b : Bool). cond b (x ∷ filter p xs) (filter p xs)) (All-head (λ x. p x ≡ true) x xs all) ∙ ap (λ ys. x ∷ ys) (filters p xs (All-tail (λ x. p x ≡ true) x xs all))

abbrev places : List ℕ
places = range_with_len 0 365

of-each : (P : ℕ → Type 0) → ((i : ℕ) → i < 365 → P i) → All P places
of-each P each = each-all P places (range_each P 0 365 (λ j low high. each j (omega (arith, high))))

pointer-is : pointer day_ring year ≡ 364
pointer-is = refl

indices-are : ring_indices day_ring year ≡ places
unfolding ring_indices
indices-are =
    ap (λ (k : ℕ). filter (is_there day_ring year) (order day_ring (next day_ring k))) pointer-is
    ∙ ap (λ (b : Bool). cond b (365 ∷ filter (is_there day_ring year) places) (filter (is_there day_ring year) places)) none-there
    ∙ filters (is_there day_ring year) places (of-each (λ i. is_there day_ring year i ≡ true) is-there)

kept-is : last_kept year ≡ 527040
unfolding last_kept
kept-is = refl

abbrev day-at : ℕ → StoredDay
day-at i = unit_day (entry_at day_ring year i)

day-date : (i : ℕ) → i < 365 → day_of (day-at i) ≡ i + 2
day-date i less =
    let is : (day-at i).date ≡ 86400 * (i + 2) = ap (λ (zs : List ℕ). big_number 4 (take 4 (take 5776 zs))) (at-place i (omega (arith, less))) ∙ entry-date i (365 - i) (omega (arith, less)) less in
    omega (arith, is)

abbrev days : List ShownDay
days = map (day_shown (last_kept year)) (map unit_day (map (entry_at day_ring year) places))

recorded-are : recorded year ≡ days
unfolding recorded unit_days
recorded-are =
    ap (λ (is : List ℕ). days_shown (last_kept year) (map unit_day (map (entry_at day_ring year) is))) indices-are
    ∙ ap (map (day_shown (last_kept year))) (filters (λ (d : StoredDay). nat_le (day_of d) (last_kept year / 1440)) (map unit_day (map (entry_at day_ring year) places))
    (All-map (λ (d : StoredDay). nat_le (day_of d) (last_kept year / 1440) ≡ true) unit_day (map (entry_at day_ring year) places)
    (All-map (λ (e : List ℕ). nat_le (day_of (unit_day e)) (last_kept year / 1440) ≡ true) (entry_at day_ring year) places
    (of-each (λ (i : ℕ). nat_le (day_of (day-at i)) (last_kept year / 1440) ≡ true) early))))
  where
    passes : (a b : ℕ) → a ≤ b → nat_le a b ≡ true
    passes a b le = grind (arith, nat_tests)

    early : (i : ℕ) → i < 365 → nat_le (day_of (day-at i)) (last_kept year / 1440) ≡ true
    early i less = let day = day-date i less in let kept = kept-is in passes (day_of (day-at i)) (last_kept year / 1440) (omega (arith, day, kept, less))

-- ITS DAYS: 365 of them, each later than the second day of 1970
pub year-days : length (recorded year) ≡ 365
year-days = ap length recorded-are ∙ length-map (map unit_day (map (entry_at day_ring year) places)) (day_shown (last_kept year)) ∙ length-map (map (entry_at day_ring year) places) unit_day ∙ length-map places (entry_at day_ring year) ∙ refl

pub year-later : All (λ (d : ShownDay). 1 < d.day) (recorded year)
year-later = subst (λ (ds : List ShownDay). All (λ (d : ShownDay). 1 < d.day) ds) (sym recorded-are)
    (All-map (λ (d : ShownDay). 1 < d.day) (day_shown (last_kept year)) (map unit_day (map (entry_at day_ring year) places))
    (All-map (λ (d : StoredDay). 1 < day_of d) unit_day (map (entry_at day_ring year) places)
    (All-map (λ (e : List ℕ). 1 < day_of (unit_day e)) (entry_at day_ring year) places
    (of-each (λ (i : ℕ). 1 < day_of (day-at i)) (λ i less. let day = day-date i less in omega (arith, day))))))
