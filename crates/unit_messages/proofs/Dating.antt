-- How many entries are meant on each of many dates.
use Rattle.std.proofs.Common.{◌≡◌, ◌∙◌, ℕ, suc, zero, ◌+◌, ◌*◌, ◌<◌, ◌≤◌, Bool, true, false, cond, ◌&&◌, ◌||◌, not, List, [], ◌∷◌, ◌++◌, length, Option, IfSome, set, get_or, replicate, filter, refl, sym, ap, arith, length-append}
use Rattle.std.specs.Prelude.{◌==◌}
use Rattle.std.specs.List.{range_with_len}
use Rattle.std.proofs.lemmas.Bool.{eqb-true, eqb-false, eq-eqb, ne_eqb}
use Rattle.std.proofs.lemmas.List.{get_or-set_same, get_or-set_other}
use Rattle.std.proofs.Math.Nat.{add-mul}
use Rattle.card_layout.specs.Images.{bytes_at, number_at}
use Rattle.card_layout.proofs.Fields.{number_part}
use Rattle.card_layout.proofs.Images.{part_in}
use Rattle.unit_memory.proofs.Told.{one_told}
use Rattle.unit_model.proofs.Words.{range_add}
use Rattle.activity_codec.proofs.ByTest.{by_test}
use Rattle.gated_ring.specs.Ring.{ring_list, entry_at, PointsInside}
use Rattle.message_model.specs.Records.{insertion_ring, unit_place_ring, insertion_widths, insertion_time, withdrawal_time, place_widths, place_time}
use Rattle.message_model.specs.Sending.{is_in_day, touches_day, place_in_day}
use Rattle.unit_model.specs.declared.layout.TheConstants.{INSERTIONS, PLACES}
use Rattle.unit_messages.specs.declared.entries.Entries.{Entries}
use Rattle.unit_messages.specs.declared.outline.counts.Dated.{Dated}
use Rattle.unit_messages.specs.declared.outline.counts.Dated.TheVariants.{Insertions, Places}
use Rattle.unit_messages.specs.Chosen.{chosen_at, shape_of, is_meant, insertions_on, places_on}
use Rattle.unit_messages.specs.Counts.{entries_on, AreFew, counted_on, CountsEach}
use Rattle.unit_messages.proofs.Choosing.{chosen_both}
use Rattle.unit_messages.proofs.Passing.{chosen_one, entry_inside}
use Rattle.unit_messages.proofs.Rings.{ring_counted}

-- two numbers are equal either way round
pub eq_turned : (a b : ℕ) → (a == b) ≡ (b == a)
eq_turned a b =
    by_test (b == a)
    (λ yes. eq-eqb a b (sym (eqb-true b a yes)) ∙ sym yes)
    (λ no. ne_eqb a b (λ e. eqb-false b a no (sym e)) ∙ sym no)

-- one of counts that are few
pub few_at : (most : ℕ) (counts : List ℕ) (i : ℕ) → AreFew most counts → get_or counts i 0 ≤ most
few_at most [] i few = omega arith
few_at most (n ∷ counts) zero few = few.0
few_at most (n ∷ counts) (suc i) few = few_at most counts i few.1

pub few_more : (most : ℕ) (counts : List ℕ) → AreFew most counts → AreFew (most + 1) counts
few_more most [] few = tt
few_more most (n ∷ counts) few = (omega (arith, few.0), few_more most counts few.1)

pub few_set : (most : ℕ) (counts : List ℕ) (i n : ℕ) → n ≤ most + 1 → AreFew most counts → AreFew (most + 1) (set counts i n)
few_set most [] i n le few = tt
few_set most (m ∷ counts) zero n le few = (le, few_more most counts few.1)
few_set most (m ∷ counts) (suc i) n le few = (omega (arith, few.0), few_set most counts i n le few.1)

pub few_less : (less most : ℕ) (counts : List ℕ) → less ≤ most → AreFew less counts → AreFew most counts
few_less less most [] le few = tt
few_less less most (n ∷ counts) le few = (omega (arith, few.0, le), few_less less most counts le few.1)

-- each of them is
pub few_each : (most : ℕ) (counts : List ℕ) → ((i : ℕ) → i < length counts → get_or counts i 0 ≤ most) → AreFew most counts
few_each most [] each = tt
few_each most (n ∷ counts) each = (each 0 (omega arith), few_each most counts (λ i lt. each (suc i) (omega (arith, lt))))

-- one more at most on each date
pub few_added : (most : ℕ) (old new : List ℕ) (more : ℕ → Bool) → length new ≡ 366 → ((i : ℕ) → i < 366 → get_or new i 0 ≡ get_or old i 0 + cond (more i) 1 0) → AreFew most old → AreFew (most + 1) new
few_added most old new more long added few =
    few_each (most + 1) new (λ i lt.
    let was = few_at most old i few in
    let is = added i (omega (arith, lt, long)) in
    by_test (more i)
    (λ yes. let one : get_or new i 0 ≡ get_or old i 0 + 1 = is ∙ ap (λ (b : Bool). get_or old i 0 + cond b 1 0) yes in omega (arith, one, was))
    (λ no. let none : get_or new i 0 ≡ get_or old i 0 + 0 = is ∙ ap (λ (b : Bool). get_or old i 0 + cond b 1 0) no in omega (arith, none, was)))

-- entries that were read at once of a told image, and what follows from them
pub told_some : (e : Entries) (o : Option (List ℕ)) (P : List ℕ → Type 0) (block : List ℕ) (i count place n len : ℕ) → place ≡ e.base + i * e.width → n ≡ len → len ≡ count * e.width
    → ((x : List ℕ) → block ≡ bytes_at x (e.base + i * e.width) (count * e.width) → P x) → IfSome o (λ x. block ≡ bytes_at x place n) → IfSome o P
told_some e o P block i count place n len at long bytes after read =
    one_told o P read (λ x is. after x (is ∙ ap (bytes_at x place) (long ∙ bytes) ∙ ap (λ (p : ℕ). bytes_at x p (count * e.width)) at))

pub count_most : (kind : Dated) → (entries_on kind 0).count ≤ 2048
count_most Insertions = omega arith
count_most Places = omega arith

-- no entry is counted yet
pub few_none : (n : ℕ) → AreFew 0 (replicate n 0)
few_none zero = tt
few_none (suc n) = (omega arith, few_none n)

none_at : (n i : ℕ) → ◌≡◌ {A = ℕ} (get_or (replicate n 0) i 0) 0
none_at zero i = refl
none_at (suc n) zero = refl
none_at (suc n) (suc i) = none_at n i

pub none_counted : (kind : Dated) (first : ℕ) (x : List ℕ) → CountsEach kind first x (range_with_len 0 0) (replicate 366 0)
none_counted kind first x i lt = none_at 366 i

-- one more on a date that is one of them
pub one_more : (counts : List ℕ) (first date index i : ℕ) → index < length counts → date ≡ first + 86400 * index
    → get_or (set counts index (get_or counts index 0 + 1)) i 0 ≡ get_or counts i 0 + cond (first + 86400 * i == date) 1 0
one_more counts first date index i lt is =
    by_test (i == index)
    (λ same.
    let e : i ≡ index = eqb-true i index same in
    let here : date ≡ first + 86400 * i = omega (arith, is, e) in
    rw (eq-eqb (first + 86400 * i) date (sym here), e) (get_or-set_same counts index (get_or counts index 0 + 1) 0 lt))
    (λ other.
    let ne = eqb-false i index other in
    rw (ne_eqb (first + 86400 * i) date (λ at. ne (omega (arith, at, is)))) (get_or-set_other counts index i (get_or counts index 0 + 1) 0 ne ∙ (let z : get_or counts i 0 ≡ get_or counts i 0 + 0 = omega arith in z)))

-- or it is none of them
pub none_more : (counts : List ℕ) (first date i : ℕ) → (date ≡ first + 86400 * i → ⊥) → get_or counts i 0 ≡ get_or counts i 0 + cond (first + 86400 * i == date) 1 0
none_more counts first date i none = rw (ne_eqb (first + 86400 * i) date (λ at. none (sym at))) (omega arith)

-- an entry that is meant on one date or on two is one more on each
pub both_more : (old one two date first second : ℕ) → one ≡ old + cond (date == first) 1 0 → two ≡ one + cond (date == second) 1 0 → (first ≡ second → ⊥)
    → two ≡ old + cond (date == first || date == second) 1 0
both_more old one two date first second a b apart =
    by_test (date == first)
    (λ at.
    let off = ne_eqb date second (λ e. apart (sym (eqb-true date first at) ∙ e)) in
    rw at (omega (arith, (rw at at a), (rw off at b))))
    (λ off. rw off (omega (arith, (rw off at a), b)))

-- one entry more
pub counted_more : (e : Entries) (x : List ℕ) (index : ℕ) → e.gate + 4 ≤ e.width → counted_on e x (range_with_len 0 (index + 1)) ≡ counted_on e x (range_with_len 0 index) + cond (is_meant e (entry_at (shape_of e) x index)) 1 0
counted_more e x index inside =
    let r = shape_of e in
    let js = range_with_len 0 index in
    let all : range_with_len 0 (index + 1) ≡ js ++ index ∷ [] = range_add 0 index 1 ∙ ap (λ (k : ℕ). js ++ k ∷ []) (let e : 0 + index ≡ index = omega arith in e) in
    ap (λ (l : List ℕ). counted_on e x l) all
    ∙ ap length (chosen_both r e.choice x js (index ∷ []))
    ∙ length-append (chosen_at r e.choice x js) (chosen_at r e.choice x (index ∷ []))
    ∙ ap (λ (l : List (List ℕ)). counted_on e x js + length l) (chosen_one e x index inside)
    ∙ by (is_meant e (entry_at r x index))
  where
    by : (t : Bool) → counted_on e x (range_with_len 0 index) + length (cond t (entry_at (shape_of e) x index ∷ []) []) ≡ counted_on e x (range_with_len 0 index) + cond t 1 0
    by true = refl
    by false = refl

pub gate_inside : (kind : Dated) (date : ℕ) → (entries_on kind date).gate + 4 ≤ (entries_on kind date).width
gate_inside Insertions date = omega arith
gate_inside Places date = omega arith

-- what is counted on a date stands where it stands on any
pub shape_same : (kind : Dated) (date : ℕ) → shape_of (entries_on kind date) ≡ shape_of (entries_on kind 0)
shape_same Insertions date = refl
shape_same Places date = refl

-- an entry of some that were read at once
pub entry_there : (e : Entries) (x block entry : List ℕ) (i turn count : ℕ) → turn < count → block ≡ bytes_at x (e.base + i * e.width) (count * e.width) → entry ≡ bytes_at block (turn * e.width) e.width
    → entry ≡ entry_at (shape_of e) x (i + turn)
entry_there e x block entry i turn count below read is =
    let at : e.base + i * e.width + turn * e.width ≡ e.base + 0 + (i + turn) * e.width = omega (arith, add-mul i turn e.width) in
    is ∙ ap (λ (l : List ℕ). bytes_at l (turn * e.width) e.width) read
    ∙ part_in x (e.base + i * e.width) (count * e.width) (turn * e.width) e.width (entry_inside e.width turn count below) ∙ ap (λ (p : ℕ). bytes_at x p e.width) at

-- one that is not there is meant on no date
pub not_there : (kind : Dated) (date : ℕ) (entry : List ℕ) → not (number_at entry (entries_on kind 0).gate 4 == 0) ≡ false → is_meant (entries_on kind date) entry ≡ false
not_there Insertions date entry off = rw off refl
not_there Places date entry off = rw off refl

-- the same date twice is one
pub same_twice : (old one date first second : ℕ) → second ≡ first → one ≡ old + cond (date == first) 1 0 → one ≡ old + cond (date == first || date == second) 1 0
same_twice old one date first second same is =
    by_test (date == first)
    (λ at. rw at (rw at at is))
    (λ off. rw off (rw (same, off) (rw off at is)))

-- an insertion is meant on its two dates, a place on its one
pub insertion_dates : (date a b : ℕ) (entry : List ℕ) → not (number_at entry 94 4 == 0) ≡ true → is_in_day date (number_at entry 94 4) ≡ (date == a) → is_in_day date (number_at entry 102 4) ≡ (date == b)
    → is_meant (insertions_on date) entry ≡ (date == a || date == b)
insertion_dates date a b entry there first second =
    let one : is_in_day date (insertion_time entry) ≡ (date == a) = ap (is_in_day date) (number_part insertion_widths 4 entry (omega arith)) ∙ first in
    let two : is_in_day date (withdrawal_time entry) ≡ (date == b) = ap (is_in_day date) (number_part insertion_widths 7 entry (omega arith)) ∙ second in
    ap (λ (t : Bool). t && (is_in_day date (insertion_time entry) || is_in_day date (withdrawal_time entry))) there
    ∙ ap (λ (t : Bool). t || is_in_day date (withdrawal_time entry)) one
    ∙ ap (λ (t : Bool). (date == a) || t) two

pub place_dates : (date a : ℕ) (entry : List ℕ) → not (number_at entry 18 4 == 0) ≡ true → is_in_day date (number_at entry 18 4) ≡ (date == a) → is_meant (places_on date) entry ≡ (date == a || date == a)
place_dates date a entry there first =
    let one : is_in_day date (place_time entry) ≡ (date == a) = ap (is_in_day date) (number_part place_widths 1 entry (omega arith)) ∙ first in
    ap (λ (t : Bool). t && is_in_day date (place_time entry)) there ∙ one ∙ by (date == a)
  where
    by : (t : Bool) → t ≡ (t || t)
    by true = refl
    by false = refl

-- the counts of one entry more
pub each_more : (kind : Dated) (first : ℕ) (x old new : List ℕ) (index : ℕ) → CountsEach kind first x (range_with_len 0 index) old
    → ((i : ℕ) → i < 366 → get_or new i 0 ≡ get_or old i 0 + cond (is_meant (entries_on kind (first + 86400 * i)) (entry_at (shape_of (entries_on kind (first + 86400 * i))) x index)) 1 0)
    → CountsEach kind first x (range_with_len 0 (index + 1)) new
each_more kind first x old new index was more i lt =
    let e = entries_on kind (first + 86400 * i) in
    more i lt
    ∙ ap (λ (n : ℕ). n + cond (is_meant e (entry_at (shape_of e) x index)) 1 0) (was i lt)
    ∙ sym (counted_more e x index (gate_inside kind (first + 86400 * i)))

-- the counts of all entries are those of the rings
pub insertions_all : (first : ℕ) (x counts : List ℕ) → PointsInside insertion_ring x → CountsEach Insertions first x (range_with_len 0 2048) counts
    → (i : ℕ) → i < 366 → get_or counts i 0 ≡ length (filter (touches_day (first + 86400 * i)) (ring_list insertion_ring x))
insertions_all first x counts inside all i lt =
    let e = insertions_on (first + 86400 * i) in
    ring_counted INSERTIONS.place (get_or counts i 0) e e x refl refl inside (all i lt)

pub places_all : (first : ℕ) (x counts : List ℕ) → PointsInside unit_place_ring x → CountsEach Places first x (range_with_len 0 255) counts
    → (i : ℕ) → i < 366 → get_or counts i 0 ≡ length (filter (place_in_day (first + 86400 * i)) (ring_list unit_place_ring x))
places_all first x counts inside all i lt =
    let e = places_on (first + 86400 * i) in
    ring_counted PLACES.place (get_or counts i 0) e e x refl refl inside (all i lt)
