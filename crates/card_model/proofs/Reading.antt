-- What stands where in an image that holds days.
use Rattle.std.proofs.Common.{take-add, ◌≡◌, inl, inr, ⊎_elim, ℕ, ◌+◌, ◌-◌, ◌%◌, ◌<◌, ◌≤◌, List, [], ◌∷◌, ◌++◌, length, take, drop, refl, sym, ◌∙◌, ap, subst, arith, append_assoc, length-append}
use Rattle.std.proofs.lemmas.Bool.{cases_lt}
use Rattle.std.proofs.lemmas.List.{drop-drop, drop-take, take-take}
use Rattle.tach_media.specs.Medium.{bytes_at}
use Rattle.card_model.specs.Bytes.{number}
use Rattle.card_model.specs.Days.{Day, len_of, total, record_of, records, IsDay, AreDays}
use Rattle.card_model.specs.Image.{StringShape, IsStringShape, turned, oldest_pointer, string_of, circle_of, IsPointer, IsPlace, HoldsDays, IsAt, at}
use Rattle.card_model.proofs.Numbers.{number_two}
use Rattle.card_model.proofs.Lists.{records_length, previous_of, records-append, total-append}
use Rattle.card_model.proofs.Circle.{part_back, turned_front, turned_part, turned_twice, string_length, circle_length}

-- a place behind a place
pub place_then : (size o k p j q : ℕ) → o < size → p < size → q < size → k + j ≤ size → IsPlace size o k p → IsPlace size p j q → IsPlace size o (k + j) q
place_then size o k p j q o_below p_below q_below fits first next =
    ⊎_elim
    (λ p_is. ⊎_elim (λ q_is. inl (omega (arith, p_is, q_is))) (λ q_is. inr (omega (arith, p_is, q_is))) next)
    (λ p_is. ⊎_elim (λ q_is. inr (omega (arith, p_is, q_is))) (λ q_is. absurd (omega (arith, p_is, q_is, fits, o_below, p_below, q_below))) next) first

-- the way between two places that lie one behind the other
pub place_between : (size o k p j q : ℕ) → p < size → q < size → IsPlace size o k p → IsPlace size o (k + j) q → IsPlace size p j q
place_between size o k p j q p_below q_below first whole =
    ⊎_elim
    (λ p_is. ⊎_elim (λ q_is. inl (omega (arith, p_is, q_is))) (λ q_is. inr (omega (arith, p_is, q_is))) whole)
    (λ p_is. ⊎_elim (λ q_is. absurd (omega (arith, p_is, q_is, q_below))) (λ q_is. inl (omega (arith, p_is, q_is))) whole) first

-- one place lies so far behind another in one way
pub same_distance : (size o k j p : ℕ) → k < size → j < size → IsPlace size o k p → IsPlace size o j p → k ≡ j
same_distance size o k j p k_below j_below first next =
    ⊎_elim
    (λ a. ⊎_elim (λ b. omega (arith, a, b)) (λ b. absurd (omega (arith, a, b, j_below))) next)
    (λ a. ⊎_elim (λ b. absurd (omega (arith, a, b, k_below))) (λ b. omega (arith, a, b)) next) first

-- the place before
pub place_back : (size o k j p n : ℕ) → o < size → p < size → n < size → k + j < size → IsPlace size o (k + j) n → IsPlace size p j n → IsPlace size o k p
place_back size o k j p n o_below p_below n_below fits whole last =
    ⊎_elim
    (λ a. ⊎_elim (λ b. inl (omega (arith, a, b))) (λ b. ⊎_elim (λ c. c) (λ none. none) (inr (absurd (omega (arith, a, b, p_below))))) last)
    (λ a. ⊎_elim (λ b. inr (omega (arith, a, b))) (λ b. inl (omega (arith, a, b))) last) whole

-- a field of two bytes behind a place
pub field_place : (size o : ℕ) → size % 2 ≡ 0 → 5544 ≤ size → IsPointer size o → (q : ℕ) × IsPlace size o 2 q × IsPointer size q
field_place size o even low pointer = ⊎_elim
    (λ lt. (o + 2, inl refl, record { below = lt; even = omega (arith, pointer.even) }))
    (λ le. (o + 2 - size, inr (omega (arith, le)), record { below = omega (arith, le, pointer.below, low); even = omega (arith, le, pointer.even, pointer.below, even) }))
    (cases_lt (o + 2) size)

-- a record among the others
pub spelled_at : (q : ℕ) (older : List Day) (d : Day) (later : List Day) (rest : List ℕ) → records q (older ++ d ∷ later) ++ rest ≡ records q older ++ (record_of (previous_of q older) d ++ (records (len_of d) later ++ rest))
spelled_at q older d later rest =
    let e = previous_of q older in
    ap (λ (l : List ℕ). l ++ rest) (records-append q older (d ∷ later))
    ∙ append_assoc (records q older) (record_of e d ++ records (len_of d) later) rest
    ∙ ap (λ (l : List ℕ). records q older ++ l) (append_assoc (record_of e d) (records (len_of d) later) rest)

module _ (r : StringShape) (shape : IsStringShape r) (x : List ℕ) (inside : r.base + (4 + r.size) ≤ length x) where
  -- the records and what is free
  pub fills : (days : List Day) (h : HoldsDays r x days) → total days + length h.rest ≡ r.size
  fills days h = omega (arith, circle_length r x inside, ap length h.spelled, length-append (records h.previous days) h.rest, records_length h.previous days)

  -- a part of the string in the image
  pub string_part : (q n : ℕ) → q + n ≤ r.size → bytes_at (string_of r x) q n ≡ bytes_at x (at r q) n
  string_part q n fits =
      let m = r.size - q in
      let whole : q + m ≡ r.size = omega (arith, fits) in
      let t = drop (r.base + 4) x in
      ap (λ (k : ℕ). bytes_at (take k t) q n) (sym whole) ∙ ap (λ (l : List ℕ). take n l) (drop-take q m t) ∙ take-take n m (drop q t) (omega (arith, whole, fits)) ∙ ap (λ (l : List ℕ). take n l) (drop-drop q (r.base + 4) x)

  pub circle_part : (k q n : ℕ) → oldest_pointer r x < r.size → IsPlace r.size (oldest_pointer r x) k q → q + n ≤ r.size → k + n ≤ r.size → bytes_at (circle_of r x) k n ≡ bytes_at x (at r q) n
  circle_part k q n below place fits fits_too =
      let s = string_of r x in
      let s_length : length s ≡ r.size = string_length r x inside in
      turned_part s (oldest_pointer r x) k q n (omega (arith, below, s_length)) (omega (arith, fits, s_length)) (omega (arith, fits_too, s_length)) (subst (λ (m : ℕ). IsPlace m (oldest_pointer r x) k q) (sym s_length) place)
      ∙ string_part q n fits

  -- the length that stands in the record of a day
  pub len_read : (older : List Day) (d : Day) (later : List Day) → HoldsDays r x (older ++ d ∷ later) → (q : ℕ) → IsPlace r.size (oldest_pointer r x) (total older + 2) q → q + 2 ≤ r.size → number (bytes_at x (at r q) 2) ≡ len_of d
  len_read older d later h q place fits =
      let e = previous_of h.previous older in
      let a = records h.previous older in
      let back = record_of e d ++ (records (len_of d) later ++ h.rest) in
      let all : total (older ++ d ∷ later) + length h.rest ≡ r.size = fills (older ++ d ∷ later) h in
      let some : total older + 12 ≤ r.size = omega (arith, all, total-append older (d ∷ later)) in
      ap number (sym (circle_part (total older + 2) q 2 h.oldest.below place fits (omega (arith, some)))
      ∙ ap (λ (l : List ℕ). bytes_at l (total older + 2) 2) (h.spelled ∙ spelled_at h.previous older d later h.rest)
      ∙ ap (λ (m : ℕ). bytes_at (a ++ back) (m + 2) 2) (sym (records_length h.previous older)) ∙ part_back 2 2 a back)
      ∙ number_two (len_of d)

-- a day among the days
pub day_is : (date : ℕ) (older : List Day) (d : Day) (later : List Day) → AreDays date (older ++ d ∷ later) → IsDay d
day_is date [] d later are = are.1
day_is date (e ∷ older) d later are = day_is e.date older d later are.2

-- the place so far behind another is one
pub same_place : (size o k p q : ℕ) → p < size → q < size → IsPlace size o k p → IsPlace size o k q → p ≡ q
same_place size o k p q p_below q_below first next =
    ⊎_elim
    (λ a. ⊎_elim (λ b. omega (arith, a, b)) (λ b. absurd (omega (arith, a, b, p_below))) next)
    (λ a. ⊎_elim (λ b. absurd (omega (arith, a, b, q_below))) (λ b. omega (arith, a, b)) next) first

module _ (r : StringShape) (shape : IsStringShape r) (x : List ℕ) (inside : r.base + (4 + r.size) ≤ length x) where
  -- the string once round from a day that is there
  pub from_day : (p : ℕ) (d : Day) (here : IsAt r x p d)
      → turned p (string_of r x) ≡ record_of (previous_of here.holds.previous here.older) d ++ ((records (len_of d) here.later ++ here.holds.rest) ++ records here.holds.previous here.older)
  from_day p d here =
      let h = here.holds in
      let s = string_of r x in
      let k = total here.older in
      let a = records h.previous here.older in
      let front = record_of (previous_of h.previous here.older) d in
      let back = records (len_of d) here.later ++ h.rest in
      let s_length : length s ≡ r.size = string_length r x inside in
      let all : total (here.older ++ d ∷ here.later) + length h.rest ≡ r.size = fills r shape x inside (here.older ++ d ∷ here.later) h in
      turned_twice s (oldest_pointer r x) k p (omega (arith, h.oldest.below, s_length)) (omega (arith, here.pointer.below, s_length)) (omega (arith, all, s_length, total-append here.older (d ∷ here.later)))
      (subst (λ (m : ℕ). IsPlace m (oldest_pointer r x) k p) (sym s_length) here.place)
      ∙ ap (λ (l : List ℕ). turned k l) (h.spelled ∙ spelled_at h.previous here.older d here.later h.rest)
      ∙ turned_front a (front ++ back) k (records_length h.previous here.older) ∙ append_assoc front back a

  -- a part of the string round a place, in the image
  pub round_part : (p n : ℕ) → p < r.size → p + n ≤ r.size → take n (turned p (string_of r x)) ≡ bytes_at x (at r p) n
  round_part p n below fits =
      let s = string_of r x in
      let s_length : length s ≡ r.size = string_length r x inside in
      turned_part s p 0 p n (omega (arith, below, s_length)) (omega (arith, fits, s_length)) (omega (arith, fits, s_length)) (inl (omega arith)) ∙ string_part r shape x inside p n fits

  -- one that breaks over the end
  pub round_parts : (p n : ℕ) → p < r.size → r.size - p ≤ n → n ≤ r.size → take n (turned p (string_of r x)) ≡ bytes_at x (at r p) (r.size - p) ++ bytes_at x (at r 0) (n - (r.size - p))
  round_parts p n below past fits =
      let s = string_of r x in
      let m = r.size - p in
      let j = n - m in
      let s_length : length s ≡ r.size = string_length r x inside in
      let whole : n ≡ m + j = omega (arith, past) in
      ap (λ (i : ℕ). take i (turned p s)) whole ∙ take-add m j (turned p s)
      ∙ ap (λ (l : List ℕ). l ++ take j (drop m (turned p s))) (round_part p m below (omega (arith, below)))
      ∙ ap (λ (l : List ℕ). bytes_at x (at r p) m ++ l)
      (turned_part s p m 0 j (omega (arith, below, s_length)) (omega (arith, fits, below, s_length)) (omega (arith, past, fits, s_length)) (inr (omega (arith, below, s_length)))
      ∙ string_part r shape x inside 0 j (omega (arith, fits, below)))
