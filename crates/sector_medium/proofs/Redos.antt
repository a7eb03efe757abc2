-- What is recovered of each image that a stop may leave of the writes of a record.
use Rattle.std.proofs.Common.{◌≡◌, ℕ, ◌+◌, ◌-◌, ◌%◌, ◌≤◌, ◌<◌, ◌^◌, List, ◌++◌, length, take, drop, Bool, true, false, refl, sym, ◌∙◌, ap, subst, arith, inl, inr, ⊎_elim, length-append, length-drop}
use Rattle.std.specs.Prelude.{◌⊎◌, ◌&&◌, if◌then◌else◌}
use Rattle.std.proofs.lemmas.Bool.Decides.{nat_tests}
use Rattle.std.proofs.lemmas.List.{take_at, drop_at, take-take, length-take-le, drop-drop, drop-take, take-append-drop}
use Rattle.byteorder.specs.Endian.{big_number, big_bytes}
use Rattle.card_layout.proofs.Numbers.{big_number-big_bytes}
use Rattle.card_layout.specs.Images.{bytes_at, put, SameOutside, number_at}
use Rattle.card_layout.proofs.Images.{part_before, part_after, part_split, part_put, put_same, put_outside, outside_wider, part_in}
use Rattle.tach_media.specs.Medium.{IsPartlyWritten}
use Rattle.sector_medium.specs.Disk.{IsTorn}
use Rattle.sector_medium.specs.Redo.{record_place, gate_of, is_gate, is_either, is_matched, is_pending, window, new_bytes, recovered, IsShut, IsOpen, IsReady, IsHalfDone, IsAround}
use Rattle.sector_medium.specs.RedoLaws.{gate_fits, pending_gate, record_behind, length_bytes_at}

-- behind a gate that is shut the memory stands as it is
pub shut_front : (size : ℕ) (c : List ℕ) → is_pending size c ≡ false → recovered size c ≡ take size c
unfolding recovered
shut_front size c is = ap (λ (b : Bool). take size (if b then put (window (gate_of size c)) (new_bytes size c) c else c)) is

pub shut_pending : (size : ℕ) (c : List ℕ) → IsShut size c → is_pending size c ≡ false
unfolding is_pending
shut_pending size c shut = ap (λ (b : Bool). b && is_matched size c (window (gate_of size c))) shut

pub open_front : (size : ℕ) (c : List ℕ) → is_pending size c ≡ true → recovered size c ≡ take size (put (window (gate_of size c)) (new_bytes size c) c)
unfolding recovered
open_front size c is = ap (λ (b : Bool). take size (if b then put (window (gate_of size c)) (new_bytes size c) c else c)) is

-- the same numbers at the same places
number_same : (a b : List ℕ) (p n : ℕ) → bytes_at a p n ≡ bytes_at b p n → number_at a p n ≡ number_at b p n
number_same a b p n same = ap (big_number n) same

-- a write elsewhere changes no number
number_before : (p n : ℕ) (d c : List ℕ) (a m : ℕ) → SameOutside p n d c → a + m ≤ p → number_at c a m ≡ number_at d a m
number_before p n d c a m same le = ap (big_number m) (part_before p n a m d c same le)

number_after : (p n : ℕ) (d c : List ℕ) (a m : ℕ) → SameOutside p n d c → p + n ≤ a → number_at c a m ≡ number_at d a m
number_after p n d c a m same le = ap (big_number m) (part_after p n a m d c same le)

-- the front of the disk, before a write behind it
front_same : (size p n : ℕ) (d c : List ℕ) → SameOutside p n d c → size ≤ p → take size c ≡ take size d
front_same size p n d c same le = sym (take-take size p c le) ∙ ap (take size) same.before ∙ take-take size p d le

-- the gate after a write before the record, or behind the gate
pub gate_kept : (size p n : ℕ) (d c : List ℕ) → SameOutside p n d c → (p + n ≤ record_place size) ⊎ (record_place size + 4 ≤ p) → gate_of size c ≡ gate_of size d
gate_kept size p n d c same (inl le) = number_after p n d c (record_place size) 4 same le
gate_kept size p n d c same (inr le) = number_before p n d c (record_place size) 4 same le

pub shut_kept : (size p n : ℕ) (d c : List ℕ) → SameOutside p n d c → (p + n ≤ record_place size) ⊎ (record_place size + 4 ≤ p) → IsShut size d → IsShut size c
shut_kept size p n d c same where_ shut = ap (is_gate size) (gate_kept size p n d c same where_) ∙ shut

-- A RECORD IS WRITTEN behind a shut gate: nothing is seen of it
pub record_quiet : (size p n : ℕ) (d c : List ℕ) → SameOutside p n d c → record_place size + 4 ≤ p → IsShut size d → recovered size c ≡ recovered size d
record_quiet size p n d c same le shut =
    shut_front size c (shut_pending size c (shut_kept size p n d c same (inr le) shut))
    ∙ front_same size p n d c same (omega (arith, record_behind size, le))
    ∙ sym (shut_front size d (shut_pending size d shut))

-- the gate that was written
pub gate_put : (size k : ℕ) (d : List ℕ) → k < 256 ^ 4 → record_place size + 4 ≤ length d → (w : List ℕ) → w ≡ big_bytes 4 k → length w ≡ 4 → gate_of size (put (record_place size) w d) ≡ k
gate_put size k d small inside w is four =
    let stands : bytes_at (put (record_place size) w d) (record_place size) (length w) ≡ w = part_put (record_place size) w d (omega (arith, inside, four)) in
    ap (λ (n : ℕ). big_number 4 (bytes_at (put (record_place size) w d) (record_place size) n)) (sym four) ∙ ap (big_number 4) stands ∙ ap (big_number 4) is ∙ big_number-big_bytes 4 k small

-- a gate of 0 is shut
pub zero_shut : (size : ℕ) → is_gate size 0 ≡ false
unfolding is_gate
zero_shut size = refl

-- THE GATE IS SHUT where what was to be recovered stands in place: nothing is seen of it
pub shut_quiet : (size : ℕ) (d c w : List ℕ) → w ≡ big_bytes 4 0 → length w ≡ 4 → record_place size + 4 ≤ length d → (c ≡ d) ⊎ (c ≡ put (record_place size) w d)
    → recovered size d ≡ take size d → recovered size c ≡ recovered size d
shut_quiet size d c w zeros four inside (inl is) done = ap (recovered size) is
shut_quiet size d c w zeros four inside (inr is) done =
    let gate : gate_of size c ≡ 0 = ap (gate_of size) is ∙ gate_put size 0 d (omega arith) inside w zeros four in
    let same : SameOutside (record_place size) (length w) d c = subst (SameOutside (record_place size) (length w) d) (sym is) (put_outside (record_place size) w d (omega (arith, inside, four))) in
    let shut : IsShut size c = ap (is_gate size) gate ∙ zero_shut size in
    shut_front size c (shut_pending size c shut) ∙ front_same size (record_place size) (length w) d c same (omega (arith, record_behind size)) ∙ sym done

pub shut_after : (size : ℕ) (d w : List ℕ) → w ≡ big_bytes 4 0 → length w ≡ 4 → record_place size + 4 ≤ length d → IsShut size (put (record_place size) w d)
shut_after size d w zeros four inside = ap (is_gate size) (gate_put size 0 d (omega arith) inside w zeros four) ∙ zero_shut size

-- lists that agree before a range, in it and behind it
pub same_parts : (x y : List ℕ) (q n : ℕ) → take q x ≡ take q y → bytes_at x q n ≡ bytes_at y q n → drop (q + n) x ≡ drop (q + n) y → x ≡ y
same_parts x y q n before inside behind = whole x ∙ (ap (λ (l : List ℕ). l ++ (bytes_at x q n ++ drop (q + n) x)) before
    ∙ ap (λ (l : List ℕ). take q y ++ (l ++ drop (q + n) x)) inside ∙ ap (λ (l : List ℕ). take q y ++ (bytes_at y q n ++ l)) behind) ∙ sym (whole y)
  where
    whole : (z : List ℕ) → z ≡ take q z ++ (bytes_at z q n ++ drop (q + n) z)
    whole z = sym (take-append-drop q z) ∙ ap (λ (l : List ℕ). take q z ++ l) (sym (take-append-drop n (drop q z)) ∙ ap (λ (l : List ℕ). bytes_at z q n ++ l) (drop-drop n q z))

-- a write over a part that differs is one over the other
pub put_again : (q : ℕ) (w d c : List ℕ) → SameOutside q (length w) d c → put q w c ≡ put q w d
put_again q w d c same = ap (λ (l : List ℕ). l ++ (w ++ drop (q + length w) c)) same.before ∙ ap (λ (l : List ℕ). take q d ++ (w ++ l)) same.after

-- a write inside a part is one of the part
pub put_part : (x : List ℕ) (q n o : ℕ) (b : List ℕ) → o + length b ≤ n → q + n ≤ length x → bytes_at (put (q + o) b x) q n ≡ put o b (bytes_at x q n)
put_part x q n o b le inside =
    let r = n - (o + length b) in
    let all : n ≡ o + (length b + r) = omega (arith, le) in
    let y = put (q + o) b x in
    let same : SameOutside (q + o) (length b) x y = put_outside (q + o) b x (omega (arith, le, inside)) in
    let one : bytes_at y q n ≡ bytes_at y q (o + (length b + r)) = ap (bytes_at y q) all in
    let two : bytes_at y q (o + (length b + r)) ≡ bytes_at y q o ++ bytes_at y (q + o) (length b + r) = part_split y q o (length b + r) in
    let three : bytes_at y (q + o) (length b + r) ≡ bytes_at y (q + o) (length b) ++ bytes_at y (q + o + length b) r = part_split y (q + o) (length b) r in
    let a : bytes_at y q o ≡ bytes_at x q o = part_before (q + o) (length b) q o x y same (omega arith) in
    let m : bytes_at y (q + o) (length b) ≡ b = part_put (q + o) b x (omega (arith, le, inside)) in
    let z : bytes_at y (q + o + length b) r ≡ bytes_at x (q + o + length b) r = part_after (q + o) (length b) (q + o + length b) r x y same (omega arith) in
    let p = bytes_at x q n in
    let long : length p ≡ n = length_bytes_at x q n inside in
    let front : take o p ≡ bytes_at x q o = take-take o n (drop q x) (omega (arith, le)) in
    let back : drop (o + length b) p ≡ bytes_at x (q + o + length b) r =
    ap (λ (k : ℕ). drop (o + length b) (take k (drop q x))) (omega (arith, le)) ∙ drop-take (o + length b) r (drop q x)
    ∙ ap (take r) (drop-drop (o + length b) q x) ∙ ap (λ (k : ℕ). bytes_at x k r) (omega arith) in
    one ∙ two ∙ ap (λ (l : List ℕ). bytes_at y q o ++ l) three
    ∙ ap (λ (l : List ℕ). l ++ (bytes_at y (q + o) (length b) ++ bytes_at y (q + o + length b) r)) a
    ∙ ap (λ (l : List ℕ). bytes_at x q o ++ (l ++ bytes_at y (q + o + length b) r)) m
    ∙ ap (λ (l : List ℕ). bytes_at x q o ++ (b ++ l)) z
    ∙ sym (ap (λ (l : List ℕ). l ++ (b ++ drop (o + length b) p)) front ∙ ap (λ (l : List ℕ). bytes_at x q o ++ (b ++ l)) back)

-- a write inside the front
pub take_put : (size place : ℕ) (bytes x : List ℕ) → place + length bytes ≤ size → size ≤ length x → take size (put place bytes x) ≡ put place bytes (take size x)
take_put size place bytes x le inside =
    ap (λ (k : ℕ). take size (put k bytes x)) (omega arith) ∙ put_part x 0 size place bytes le (omega (arith, inside))

-- a part with other bytes, written where it stood, is a write of those
pub put_inside : (x : List ℕ) (q n o : ℕ) (b : List ℕ) → o + length b ≤ n → q + n ≤ length x → put q (put o b (bytes_at x q n)) x ≡ put (q + o) b x
put_inside x q n o b le inside =
    let part = put_part x q n o b le inside in
    let long : length (bytes_at (put (q + o) b x) q n) ≡ n = length_bytes_at (put (q + o) b x) q n (omega (arith, inside, (put_outside (q + o) b x (omega (arith, le, inside))).same_length)) in
    let y = put (q + o) b x in
    let same : SameOutside (q + o) (length b) x y = put_outside (q + o) b x (omega (arith, le, inside)) in
    let wide : SameOutside q n x y = outside_wider q n (q + o) (length b) x y same (omega arith) (omega (arith, le)) in
    let wide_as : SameOutside q (length (bytes_at y q n)) x y = subst (λ (m : ℕ). SameOutside q m x y) (sym long) wide in
    ap (λ (l : List ℕ). put q l x) (sym part) ∙ sym (put_again q (bytes_at y q n) x y wide_as) ∙ put_same q n y (omega (arith, inside, same.same_length))

either_old : (c : List ℕ) (now old new : ℕ) → number_at c now 3 ≡ number_at c old 3 → is_either c now old new ≡ true
unfolding is_either
either_old c now old new same = grind (arith, nat_tests)

either_new : (c : List ℕ) (now old new : ℕ) → number_at c now 3 ≡ number_at c new 3 → is_either c now old new ≡ true
unfolding is_either
either_new c now old new same = grind (arith, nat_tests)

either_same : (c d : List ℕ) (now old new : ℕ) → number_at c now 3 ≡ number_at d now 3 → number_at c old 3 ≡ number_at d old 3 → number_at c new 3 ≡ number_at d new 3
    → is_either c now old new ≡ is_either d now old new
unfolding is_either
either_same c d now old new a b e = cc

both : (a b : Bool) → a ≡ true → b ≡ true → a && b ≡ true
both a b fa fb = cc

first_of_both : (a b : Bool) → a && b ≡ true → a ≡ true
first_of_both a b is = grind (arith, nat_tests)

second_of_both : (a b : Bool) → a && b ≡ true → b ≡ true
second_of_both a b is = grind (arith, nat_tests)

matched : (size : ℕ) (c : List ℕ) (q : ℕ) → is_either c q (record_place size + 4) (record_place size + 10) ≡ true → is_either c (q + 3) (record_place size + 7) (record_place size + 13) ≡ true
    → is_matched size c q ≡ true
unfolding is_matched
matched size c q a b = both (is_either c q (record_place size + 4) (record_place size + 10)) (is_either c (q + 3) (record_place size + 7) (record_place size + 13)) a b

matched_first : (size : ℕ) (c : List ℕ) (q : ℕ) → is_matched size c q ≡ true → is_either c q (record_place size + 4) (record_place size + 10) ≡ true
unfolding is_matched
matched_first size c q is = first_of_both (is_either c q (record_place size + 4) (record_place size + 10)) (is_either c (q + 3) (record_place size + 7) (record_place size + 13)) is

matched_second : (size : ℕ) (c : List ℕ) (q : ℕ) → is_matched size c q ≡ true → is_either c (q + 3) (record_place size + 7) (record_place size + 13) ≡ true
unfolding is_matched
matched_second size c q is = second_of_both (is_either c q (record_place size + 4) (record_place size + 10)) (is_either c (q + 3) (record_place size + 7) (record_place size + 13)) is

pending_matched : (size : ℕ) (c : List ℕ) → is_pending size c ≡ true → is_matched size c (window (gate_of size c)) ≡ true
unfolding is_pending
pending_matched size c is = second_of_both (is_gate size (gate_of size c)) (is_matched size c (window (gate_of size c))) is

pub pending_by : (size : ℕ) (c : List ℕ) → is_gate size (gate_of size c) ≡ true → is_matched size c (window (gate_of size c)) ≡ true → is_pending size c ≡ true
unfolding is_pending
pending_by size c gate match = both (is_gate size (gate_of size c)) (is_matched size c (window (gate_of size c))) gate match

-- what stands around an open record's border
pub open_around : (size : ℕ) (q : ℕ) (w d : List ℕ) → IsOpen size q w d → IsAround size q
open_around size q w d open_ =
    let g = gate_fits size (gate_of size d) (pending_gate size d open_.pending) in
    record { border = omega (arith, open_.here, g.0); inside = omega (arith, open_.here, g.0, g.1) }

-- while only bytes around the border change, and stay old or new, the record is still to be done and makes the same
pub open_kept : (size q : ℕ) (w d c : List ℕ) → IsOpen size q w d → record_place size + 16 ≤ length d → SameOutside q 6 d c → is_matched size c q ≡ true
    → IsOpen size q w c × (recovered size c ≡ recovered size d)
open_kept size q w d c opened room same match =
    let around = open_around size q w d opened in
    let gate : gate_of size c ≡ gate_of size d = gate_kept size q 6 d c same (inl (around.inside)) in
    let here : q ≡ window (gate_of size c) = opened.here ∙ ap window (sym gate) in
    let is : is_pending size c ≡ true = pending_by size c (ap (is_gate size) gate ∙ pending_gate size d opened.pending) (subst (λ (p : ℕ). is_matched size c p ≡ true) here match) in
    let new : new_bytes size c ≡ new_bytes size d = part_after q 6 (record_place size + 10) 6 d c same (omega (arith, around.inside)) in
    let long : length w ≡ 6 = ap length opened.these ∙ length_bytes_at d (record_place size + 10) 6 (omega (arith, room)) in
    let wide : SameOutside q (length w) d c = subst (λ (n : ℕ). SameOutside q n d c) (sym long) same in (
      record { pending = is; here = here; these = opened.these ∙ sym new },
      open_front size c is ∙ ap (λ (p : ℕ). take size (put p (new_bytes size c) c)) (sym here) ∙ ap (λ (v : List ℕ). take size (put q v c)) (new ∙ sym opened.these)
          ∙ ap (take size) (put_again q w d c wide)
          ∙ ap (λ (v : List ℕ). take size (put q v d)) opened.these ∙ ap (λ (p : ℕ). take size (put p (new_bytes size d) d)) opened.here ∙ sym (open_front size d opened.pending),
    )

-- the two halves of six bytes
first_half : (c : List ℕ) (p : ℕ) → bytes_at (bytes_at c p 6) 0 3 ≡ bytes_at c p 3
first_half c p = part_in c p 6 0 3 (omega arith) ∙ ap (λ (k : ℕ). bytes_at c k 3) (omega arith)

second_half : (c : List ℕ) (p : ℕ) → drop 3 (bytes_at c p 6) ≡ bytes_at c (p + 3) 3
second_half c p = drop-take 3 3 (drop p c) ∙ ap (take 3) (drop-drop 3 p c)

-- a side of the border after a write of the other
other_second : (size q n : ℕ) (d c : List ℕ) → SameOutside q n d c → n ≤ 3 → q + 6 ≤ record_place size → is_either d (q + 3) (record_place size + 7) (record_place size + 13) ≡ true
    → is_either c (q + 3) (record_place size + 7) (record_place size + 13) ≡ true
other_second size q n d c same short inside is = either_same c d (q + 3) (record_place size + 7) (record_place size + 13)
    (number_after q n d c (q + 3) 3 same (omega (arith, short))) (number_after q n d c (record_place size + 7) 3 same (omega (arith, short, inside)))
    (number_after q n d c (record_place size + 13) 3 same (omega (arith, short, inside))) ∙ is

other_first : (size q n : ℕ) (d c : List ℕ) → SameOutside (q + 3) n d c → n ≤ 3 → q + 6 ≤ record_place size → is_either d q (record_place size + 4) (record_place size + 10) ≡ true
    → is_either c q (record_place size + 4) (record_place size + 10) ≡ true
other_first size q n d c same short inside is = either_same c d q (record_place size + 4) (record_place size + 10)
    (number_before (q + 3) n d c q 3 same (omega arith)) (number_after (q + 3) n d c (record_place size + 4) 3 same (omega (arith, short, inside)))
    (number_after (q + 3) n d c (record_place size + 10) 3 same (omega (arith, short, inside))) ∙ is

-- the sides by what is open
sides : (size q : ℕ) (w d : List ℕ) → IsOpen size q w d → is_matched size d q ≡ true
sides size q w d opened = subst (λ (p : ℕ). is_matched size d p ≡ true) (sym opened.here) (pending_matched size d opened.pending)

six_of : (size q : ℕ) (w d : List ℕ) → IsOpen size q w d → record_place size + 16 ≤ length d → length w ≡ 6
six_of size q w d opened room = ap length opened.these ∙ length_bytes_at d (record_place size + 10) 6 (omega (arith, room))

-- THE SIDE BEFORE THE BORDER is written: nothing is seen of it
pub before_put : (size q : ℕ) (w d : List ℕ) → IsOpen size q w d → record_place size + 16 ≤ length d
    → IsHalfDone size q w (put q (take 3 w) d) × (recovered size (put q (take 3 w) d) ≡ recovered size d)
before_put size q w d opened room =
    let around = open_around size q w d opened in
    let long = six_of size q w d opened room in
    let v = take 3 w in
    let three : length v ≡ 3 = length-take-le 3 w (omega (arith, long)) in
    let c = put q v d in
    let same : SameOutside q (length v) d c = put_outside q v d (omega (arith, three, around.inside, room)) in
    let same_3 : SameOutside q 3 d c = subst (λ (n : ℕ). SameOutside q n d c) three same in
    let wide : SameOutside q 6 d c = outside_wider q 6 q 3 d c same_3 (omega arith) (omega arith) in
    let stands : bytes_at c q 3 ≡ v = ap (bytes_at c q) (sym three) ∙ part_put q v d (omega (arith, three, around.inside, room)) in
    let new : bytes_at c (record_place size + 10) 3 ≡ v =
    part_after q 3 (record_place size + 10) 3 d c same_3 (omega (arith, around.inside)) ∙ sym (first_half d (record_place size + 10)) ∙ ap (take 3) (sym opened.these) in
    let first = either_new c q (record_place size + 4) (record_place size + 10) (number_same c c q 3 refl ∙ ap (big_number 3) (stands ∙ sym new)) in
    let second = other_second size q 3 d c same_3 (omega arith) around.inside (matched_second size d q (sides size q w d opened)) in
    let kept = open_kept size q w d c opened room wide (matched size c q first second) in
    (record { opened = kept.0; left = stands }, kept.1)

-- THE SIDE BEHIND THE BORDER is written: nothing is seen of it, and what is recovered stands in place
pub behind_put : (size q : ℕ) (w d : List ℕ) → IsHalfDone size q w d → record_place size + 16 ≤ length d
    → (recovered size (put (q + 3) (drop 3 w) d) ≡ take size (put (q + 3) (drop 3 w) d)) × (recovered size (put (q + 3) (drop 3 w) d) ≡ recovered size d)
behind_put size q w d half room =
    let opened = half.opened in
    let around = open_around size q w d opened in
    let long = six_of size q w d opened room in
    let v = drop 3 w in
    let three : length v ≡ 3 = omega (arith, long, length-drop 3 w) in
    let c = put (q + 3) v d in
    let same : SameOutside (q + 3) (length v) d c = put_outside (q + 3) v d (omega (arith, three, around.inside, room)) in
    let same_3 : SameOutside (q + 3) 3 d c = subst (λ (n : ℕ). SameOutside (q + 3) n d c) three same in
    let wide : SameOutside q 6 d c = outside_wider q 6 (q + 3) 3 d c same_3 (omega arith) (omega arith) in
    let stands : bytes_at c (q + 3) 3 ≡ v = ap (bytes_at c (q + 3)) (sym three) ∙ part_put (q + 3) v d (omega (arith, three, around.inside, room)) in
    let eq : record_place size + 10 + 3 ≡ record_place size + 13 = omega arith in
    let new : bytes_at c (record_place size + 13) 3 ≡ v =
    part_after (q + 3) 3 (record_place size + 13) 3 d c same_3 (omega (arith, around.inside)) ∙ ap (λ (k : ℕ). bytes_at d k 3) (sym eq)
    ∙ sym (second_half d (record_place size + 10)) ∙ ap (drop 3) (sym opened.these) in
    let second = either_new c (q + 3) (record_place size + 7) (record_place size + 13) (ap (big_number 3) (stands ∙ sym new)) in
    let first = other_first size q 3 d c same_3 (omega arith) around.inside (matched_first size d q (sides size q w d opened)) in
    let kept = open_kept size q w d c opened room wide (matched size c q first second) in
    let left : bytes_at c q 3 ≡ take 3 w = part_before (q + 3) 3 q 3 d c same_3 (omega arith) ∙ half.left in
    let all : bytes_at c q 6 ≡ w = part_split c q 3 3 ∙ ap (λ (l : List ℕ). l ++ bytes_at c (q + 3) 3) left ∙ ap (λ (l : List ℕ). take 3 w ++ l) stands ∙ take-append-drop 3 w in
    let put_done : put q w c ≡ c = ap (λ (l : List ℕ). put q l c) (sym all) ∙ put_same q 6 c (omega (arith, around.inside, room, same.same_length)) in (
      open_front size c kept.0.pending ∙ ap (λ (p : ℕ). take size (put p (new_bytes size c) c)) (sym kept.0.here) ∙ ap (λ (l : List ℕ). take size (put q l c)) (sym kept.0.these) ∙ ap (take size) put_done,
      kept.1,
    )

-- THE GATE IS OPENED: from here on the write is done
pub gate_opened : (size k place : ℕ) (bytes new d w : List ℕ) → IsReady size (window k) place bytes new d → is_gate size k ≡ true → k < 256 ^ 4 → w ≡ big_bytes 4 k → length w ≡ 4
    → record_place size + 16 ≤ length d → window k ≤ place → place + length bytes ≤ window k + 6 → place + length bytes ≤ size
    → IsOpen size (window k) new (put (record_place size) w d) × (recovered size (put (record_place size) w d) ≡ put place bytes (recovered size d))
gate_opened size k place bytes new d w ready gate small is four room low high inside =
    let r = record_place size in
    let q = window k in
    let fits = gate_fits size k gate in
    let c = put r w d in
    let named : gate_of size c ≡ k = gate_put size k d small (omega (arith, room)) w is four in
    let same_w : SameOutside r (length w) d c = put_outside r w d (omega (arith, four, room)) in
    let same : SameOutside r 4 d c = subst (λ (n : ℕ). SameOutside r n d c) four same_w in
    let within : q + 6 ≤ r = omega (arith, fits.0, fits.1) in
    let q_c : bytes_at c q 6 ≡ bytes_at d q 6 = part_before r 4 q 6 d c same within in
    let old_c : bytes_at c (r + 4) 6 ≡ bytes_at c q 6 = part_after r 4 (r + 4) 6 d c same (omega arith) ∙ ready.old ∙ sym q_c in
    let new_c : bytes_at c (r + 10) 6 ≡ new = part_after r 4 (r + 10) 6 d c same (omega arith) ∙ ready.new in
    let eq : r + 4 + 3 ≡ r + 7 = omega arith in
    let first_eq : bytes_at c q 3 ≡ bytes_at c (r + 4) 3 = sym (first_half c q) ∙ ap (take 3) (sym old_c) ∙ first_half c (r + 4) in
    let second_eq : bytes_at c (q + 3) 3 ≡ bytes_at c (r + 7) 3 = sym (second_half c q) ∙ ap (drop 3) (sym old_c) ∙ second_half c (r + 4) ∙ ap (λ (p : ℕ). bytes_at c p 3) eq in
    let match : is_matched size c q ≡ true = matched size c q (either_old c q (r + 4) (r + 10) (ap (big_number 3) first_eq)) (either_old c (q + 3) (r + 7) (r + 13) (ap (big_number 3) second_eq)) in
    let pending : is_pending size c ≡ true = pending_by size c (ap (is_gate size) named ∙ gate) (subst (λ (g : ℕ). is_matched size c (window g) ≡ true) (sym named) match) in
    let from : q + (place - q) ≡ place = omega (arith, low) in
    let front : take size c ≡ take size d = front_same size r 4 d c same (omega (arith, record_behind size)) in (
      record { pending = pending; here = ap window (sym named); these = sym new_c },
      open_front size c pending ∙ ap (λ (g : ℕ). take size (put (window g) (new_bytes size c) c)) named
          ∙ ap (λ (v : List ℕ). take size (put q v c)) (new_c ∙ ready.made ∙ ap (put (place - q) bytes) (sym q_c))
          ∙ ap (take size) (put_inside c q 6 (place - q) bytes (omega (arith, low, high)) (omega (arith, within, room, same.same_length)))
          ∙ ap (λ (p : ℕ). take size (put p bytes c)) from
          ∙ take_put size place bytes c inside (omega (arith, room, same.same_length, record_behind size))
          ∙ ap (put place bytes) (front ∙ sym (shut_front size d (shut_pending size d ready.shut))),
    )

-- A WRITE IN PLACE behind a shut gate
pub in_place : (size place : ℕ) (bytes d c : List ℕ) → IsTorn place bytes d c → IsShut size d → place + length bytes ≤ size → size ≤ length d → (length bytes ≤ 4 → place % 512 + length bytes ≤ 512)
    → IsPartlyWritten place bytes (recovered size d) (recovered size c)
in_place size place bytes d c torn shut inside room sector =
    let r = record_behind size in
    let shut_c = shut_kept size place (length bytes) d c torn.outside (inl (omega (arith, inside, r))) shut in
    let is_d : recovered size d ≡ take size d = shut_front size d (shut_pending size d shut) in
    let is_c : recovered size c ≡ take size c = shut_front size c (shut_pending size c shut_c) in
    let all : IsPartlyWritten place bytes (take size d) (take size c) = record {
      outside = record {
        before = take-take place size c (omega (arith, inside)) ∙ torn.outside.before ∙ sym (take-take place size d (omega (arith, inside)));
        after = behind_front c ∙ ap (take (size - (place + length bytes))) torn.outside.after ∙ sym (behind_front d);
        same_length = length-take-le size c (omega (arith, room, torn.outside.same_length)) ∙ sym (length-take-le size d room);
      };
      whole = λ short. ⊎_elim (λ old. inl (ap (take size) old)) (λ new. inr (ap (take size) new ∙ take_put size place bytes d inside room)) (torn.whole short (sector short));
    } in
    subst (λ (l : List ℕ). IsPartlyWritten place bytes l (recovered size c)) (sym is_d) (subst (IsPartlyWritten place bytes (take size d)) (sym is_c) all)
  where
    behind_front : (x : List ℕ) → drop (place + length bytes) (take size x) ≡ take (size - (place + length bytes)) (drop (place + length bytes) x)
    behind_front x = ap (λ (n : ℕ). drop (place + length bytes) (take n x)) (omega (arith, inside)) ∙ drop-take (place + length bytes) (size - (place + length bytes)) x

pub in_place_done : (size place : ℕ) (bytes d : List ℕ) → IsShut size d → place + length bytes ≤ size → size ≤ length d → recovered size (put place bytes d) ≡ put place bytes (recovered size d)
in_place_done size place bytes d shut inside room =
    let same = put_outside place bytes d (omega (arith, inside, room)) in
    let shut_c = shut_kept size place (length bytes) d (put place bytes d) same (inl (omega (arith, inside, record_behind size))) shut in
    shut_front size (put place bytes d) (shut_pending size (put place bytes d) shut_c) ∙ take_put size place bytes d inside room ∙ ap (put place bytes) (sym (shut_front size d (shut_pending size d shut)))

-- an image that is partly written where nothing of the write reached it, or all
pub partly_same : (place : ℕ) (bytes x c : List ℕ) → c ≡ x → IsPartlyWritten place bytes x c
partly_same place bytes x c is = subst (IsPartlyWritten place bytes x) (sym is) (record { outside = record { before = refl; after = refl; same_length = refl }; whole = λ short. inl refl })

pub partly_put : (place : ℕ) (bytes x c : List ℕ) → place + length bytes ≤ length x → c ≡ put place bytes x → IsPartlyWritten place bytes x c
partly_put place bytes x c inside is = subst (IsPartlyWritten place bytes x) (sym is) (record { outside = put_outside place bytes x inside; whole = λ short. inr refl })

-- A RECORD THAT WAS WRITTEN behind a shut gate is ready
pub record_ready : (size at place : ℕ) (bytes old after d : List ℕ) → IsShut size d → at + 6 ≤ record_place size → record_place size + 16 ≤ length d
    → length old ≡ 6 → old ≡ bytes_at d at 6 → length after ≡ 6 → after ≡ put (place - at) bytes old
    → IsReady size at place bytes after (put (record_place size + 4) (old ++ after) d)
record_ready size at place bytes old after d shut inside room six was long made =
    let r = record_place size in
    let w = old ++ after in
    let twelve : length w ≡ 12 = length-append old after ∙ omega (arith, six, long) in
    let c = put (r + 4) w d in
    let same : SameOutside (r + 4) (length w) d c = put_outside (r + 4) w d (omega (arith, twelve, room)) in
    let stands : bytes_at c (r + 4) 12 ≡ w = ap (bytes_at c (r + 4)) (sym twelve) ∙ part_put (r + 4) w d (omega (arith, twelve, room)) in
    let first : bytes_at c (r + 4) 6 ≡ old = sym (take-take 6 12 (drop (r + 4) c) (omega arith)) ∙ ap (take 6) stands ∙ take_at old after 6 six in
    let eq : r + 4 + 6 ≡ r + 10 = omega arith in
    let second : bytes_at c (r + 10) 6 ≡ after =
    ap (λ (p : ℕ). bytes_at c p 6) (sym eq) ∙ sym (drop-take 6 6 (drop (r + 4) c) ∙ ap (take 6) (drop-drop 6 (r + 4) c)) ∙ ap (drop 6) stands ∙ drop_at old after 6 six in
    let there : bytes_at c at 6 ≡ bytes_at d at 6 = part_before (r + 4) (length w) at 6 d c same (omega (arith, inside)) in
    record {
      shut = shut_kept size (r + 4) (length w) d c same (inr (omega arith)) shut;
      six = long;
      old = first ∙ was ∙ sym there;
      new = second;
      made = made ∙ ap (put (place - at) bytes) (was ∙ sym there);
    }
