-- Bytes around a border, laid over a part that was read.
use Rattle.std.proofs.Common.{◌≡◌, ℕ, ◌+◌, ◌-◌, ◌≤◌, ◌<◌, List, ◌++◌, length, take, drop, sym, ◌∙◌, ap, arith, ⊎_elim, append_assoc, length-drop}
use Rattle.std.specs.Prelude.{max, min}
use Rattle.std.proofs.lemmas.Bool.{cases_lt}
use Rattle.std.proofs.lemmas.List.{take-take, drop-drop, drop-take, length-take-le}
use borrow.Rule.Slice.PartMut.{put_mid}
use Rattle.card_layout.specs.Images.{bytes_at, put, SameOutside}
use Rattle.card_layout.proofs.Images.{part_before, part_after, part_split, part_put, part_in, put_outside}

-- a part that differs in a range alone, by its three pieces
pieces : (x y : List ℕ) (place n a m : ℕ) (v : List ℕ) → a + m ≤ n → length v ≡ m → bytes_at y place a ≡ bytes_at x place a → bytes_at y (place + a) m ≡ v
    → bytes_at y (place + (a + m)) (n - (a + m)) ≡ bytes_at x (place + (a + m)) (n - (a + m)) → bytes_at y place n ≡ put a v (bytes_at x place n)
pieces x y place n a m v inside long before here behind =
    let b = n - (a + m) in
    let all : n ≡ (a + m) + b = omega (arith, inside) in
    let cut : bytes_at y place n ≡ (bytes_at y place a ++ bytes_at y (place + a) m) ++ bytes_at y (place + (a + m)) b =
    ap (bytes_at y place) all ∙ part_split y place (a + m) b ∙ ap (λ (l : List ℕ). l ++ bytes_at y (place + (a + m)) b) (part_split y place a m) in
    let front : take a (bytes_at x place n) ≡ bytes_at x place a = take-take a n (drop place x) (omega (arith, inside)) in
    let back : drop (a + length v) (bytes_at x place n) ≡ bytes_at x (place + (a + m)) b =
    ap (λ (k : ℕ). drop (a + k) (take n (drop place x))) long ∙ ap (λ (k : ℕ). drop (a + m) (take k (drop place x))) all ∙ drop-take (a + m) b (drop place x) ∙ ap (take b) (drop-drop (a + m) place x) in
    cut ∙ append_assoc (bytes_at y place a) (bytes_at y (place + a) m) (bytes_at y (place + (a + m)) b)
    ∙ ap (λ (l : List ℕ). l ++ (bytes_at y (place + a) m ++ bytes_at y (place + (a + m)) b)) (before ∙ sym front)
    ∙ ap (λ (l : List ℕ). take a (bytes_at x place n) ++ (l ++ bytes_at y (place + (a + m)) b)) here
    ∙ ap (λ (l : List ℕ). take a (bytes_at x place n) ++ (v ++ l)) (behind ∙ sym back)

-- where the range and the part have nothing in common, nothing is laid
pub lay_none : (x w : List ℕ) (q place n : ℕ) → q + length w ≤ length x → 0 < length w → min (place + n) (q + length w) ≤ max place q → bytes_at (put q w x) place n ≡ bytes_at x place n
lay_none x w q place n inside some apart = ⊎_elim
    (λ low. ⊎_elim
    (λ high. ap (bytes_at (put q w x) place) (empty low high) ∙ sym (ap (bytes_at x place) (empty low high)))
    (λ le. part_after q (length w) place n x (put q w x) (put_outside q w x inside) le)
    (cases_lt place (q + length w)))
    (λ le. part_before q (length w) place n x (put q w x) (put_outside q w x inside) le)
    (cases_lt q (place + n))
  where
    empty : q < place + n → place < q + length w → n ≡ 0
    empty low high = omega (arith, apart, some, low, high)

-- where it begins before the part, or in it, and ends in it or behind it
pub lay_some : (x w : List ℕ) (q place n from m : ℕ) → q + length w ≤ length x → from ≡ max place q → from + m ≡ min (place + n) (q + length w) → 0 < m
    → bytes_at (put q w x) place n ≡ put (from - place) (bytes_at w (from - q) m) (bytes_at x place n)
lay_some x w q place n from m inside is ends some =
    let y = put q w x in
    let same : SameOutside q (length w) x y = put_outside q w x inside in
    let stands : bytes_at y q (length w) ≡ w = part_put q w x inside in
    let a = from - place in
    let low : place + a ≡ from = omega (arith, is) in
    let there : q + (from - q) ≡ from = omega (arith, is) in
    let v = bytes_at w (from - q) m in
    let here : bytes_at y (place + a) m ≡ v =
    ap (λ (p : ℕ). bytes_at y p m) (low ∙ sym there) ∙ sym (part_in y q (length w) (from - q) m (omega (arith, is, ends))) ∙ ap (λ (l : List ℕ). bytes_at l (from - q) m) stands in
    let long : length v ≡ m = length-take-le m (drop (from - q) w) (omega (arith, is, ends, length-drop (from - q) w)) in
    pieces x y place n a m v (omega (arith, is, ends)) long (before same is) here (behind same is ends)
  where
    before : SameOutside q (length w) x (put q w x) → from ≡ max place q → bytes_at (put q w x) place (from - place) ≡ bytes_at x place (from - place)
    before same is = ⊎_elim
        (λ high. part_before q (length w) place (from - place) x (put q w x) same (omega (arith, is, high)))
        (λ low. ap (λ (k : ℕ). bytes_at (put q w x) place k) (none low) ∙ sym (ap (λ (k : ℕ). bytes_at x place k) (none low)))
        (cases_lt place q)
      where
        none : q ≤ place → from - place ≡ 0
        none low = omega (arith, is, low)

    behind : SameOutside q (length w) x (put q w x) → from ≡ max place q → from + m ≡ min (place + n) (q + length w)
        → bytes_at (put q w x) (place + ((from - place) + m)) (n - ((from - place) + m)) ≡ bytes_at x (place + ((from - place) + m)) (n - ((from - place) + m))
    behind same is ends = ⊎_elim
        (λ low. part_after q (length w) (place + ((from - place) + m)) (n - ((from - place) + m)) x (put q w x) same (omega (arith, is, ends, low)))
        (λ le. ap (λ (k : ℕ). bytes_at (put q w x) (place + ((from - place) + m)) k) (none le) ∙ sym (ap (λ (k : ℕ). bytes_at x (place + ((from - place) + m)) k) (none le)))
        (cases_lt (q + length w) (place + n))
      where
        none : place + n ≤ q + length w → n - ((from - place) + m) ≡ 0
        none le = omega (arith, is, ends, le)

-- A PART THAT WAS READ, with what reaches into it of the bytes around a border
pub laid : (x w out copy : List ℕ) (q place from to : ℕ) → q + length w ≤ length x → length w ≡ 6 → from ≡ max place q → to ≡ min (place + length out) (q + 6) → from < to
    → out ≡ bytes_at x place (length out) → copy ≡ bytes_at w (from - q) (to - q - (from - q))
    → put_mid (from - place) (to - place - (from - place)) out copy ≡ bytes_at (put q w x) place (length out)
laid x w out copy q place from to inside six is ends some read copied =
    let m = to - from in
    let a = from - place in
    let k = to - place - (from - place) in
    let v = bytes_at w (from - q) m in
    let one : copy ≡ v = copied ∙ ap (bytes_at w (from - q)) (omega (arith, is, some)) in
    let long : length v ≡ m = length-take-le m (drop (from - q) w) (omega (arith, is, ends, six, some, length-drop (from - q) w)) in
    let reach : a + k ≡ a + length v = omega (arith, long, is, some) in
    let all : bytes_at (put q w x) place (length out) ≡ put a v (bytes_at x place (length out)) =
    lay_some x w q place (length out) from m inside is (omega (arith, ends, six, some)) (omega (arith, some)) in
    ap (λ (l : List ℕ). take a out ++ (l ++ drop k (drop a out))) one
    ∙ ap (λ (l : List ℕ). take a out ++ (v ++ l)) (drop-drop k a out ∙ ap (λ (p : ℕ). drop p out) reach)
    ∙ ap (put a v) read ∙ sym all
