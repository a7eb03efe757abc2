-- The moments of a row that is begun.
use Rattle.std.proofs.Common.{◌≡◌, ◌≢◌, ◌⊎◌, inl, inr, ⊎_elim, ℕ, zero, suc, ◌+◌, ◌*◌, ◌/◌, ◌%◌, ◌<◌, ◌≤◌, Bool, true, false, cond, List, [], ◌∷◌, length, Option, Some, None, option_map, refl, sym, ◌∙◌, ap, subst, arith}
use Rattle.std.specs.Prelude.{find, not, ◌&&◌, ◌||◌, ◌==◌, nat_eq, nat_lt}
use Rattle.std.specs.List.{AllByRecursion, range_with_len}
use Rattle.std.specs.Int.{to_be_bytes, w32}
use Rattle.std.specs.Cmp.Lexicographic.{pointwise, bytes_decides}
use Rattle.std.proofs.lemmas.Bool.{cases_lt}
use Rattle.std.proofs.lemmas.Bool.Decides.{nat_tests}
use Rattle.tach_media.specs.Medium.{put, bytes_at, SameOutside}
use Rattle.tach_media.proofs.Images.{put_outside, part_before, part_after, part_put, outside_wider}
use Rattle.unit_model.specs.Ring.{number_at}
use Rattle.tach_media.specs.Plan.{Piece, piece, put_all, IsPartway, IsInside}
use Rattle.tach_media.proofs.Plans.{partway_either, partway_outside, puts_outside}
use Rattle.unit_model.specs.declared.layout.TheConstants.{IMAGE_SIZE, OWED, OWED_ROW_SIZE}
use Rattle.unit_model.specs.Days.{word_minute}
use Rattle.unit_model.specs.Decoding.{cell_check}
use Rattle.unit_model.proofs.Numbers.{number_same, part_in, number_before, number_put4}
use Rattle.unit_model.proofs.Numbers as numbers
use Rattle.unit_model.proofs.Checks.{still}
use Rattle.unit_model.proofs.StillDecodes.{rows_pass}
use Rattle.unit_owed.specs.Owed.{Cell, OwedRow, rows_in, row_in, cell_in, session_in, number_in, cell_begin, is_row_of, row_index, row_of}
use Rattle.unit_owed.specs.Rows.{row_pieces, pieces_at, beginning, begun_index, empty_index, is_this_row, spared_index, emptied, IsTaken, IsRowBeginning, IsRowBegun}
use Rattle.unit_owed.proofs.Putting.{find_below, found_below, found_passes, cell_passes, passes_is}
use Rattle.unit_owed.proofs.Taking.{begun_is, spared_apart}
use Rattle.unit_owed.proofs.Pieces.{IsApart, puts_apart, partway_apart, IsApartOrZero, IsHeld, puts_held, partway_held}

some_is : (a b : ℕ) → Some a ≡ Some b → a ≡ b
some_is a b is = cc

pub eq_cases : (a b : ℕ) → (a ≡ b) ⊎ (a ≢ b)
eq_cases a b = ⊎_elim (λ less. inr (λ is. absurd (omega (arith, less, is)))) (λ not_less. ⊎_elim (λ more. inr (λ is. absurd (omega (arith, more, is)))) (λ not_more. inl (omega (arith, not_less, not_more))) (cases_lt b a)) (cases_lt a b)

-- an image in which one row may have changed
module _ (x c : List ℕ) (r : ℕ) (low : r < 8) (same : SameOutside (OWED.place + r * OWED_ROW_SIZE) OWED_ROW_SIZE x c) where
  pub row_wide : SameOutside OWED.place OWED.size x c
  row_wide = outside_wider OWED.place OWED.size (OWED.place + r * OWED_ROW_SIZE) OWED_ROW_SIZE x c same (omega arith) (omega (arith, low))

  part : (s q n : ℕ) → s < 8 → s ≢ r → s * OWED_ROW_SIZE ≤ q → q + n ≤ s * OWED_ROW_SIZE + OWED_ROW_SIZE → bytes_at (rows_in c) q n ≡ bytes_at (rows_in x) q n
  part s q n below differ from to =
      part_in c OWED.place OWED.size q n (omega (arith, below, to))
      ∙ ⊎_elim (λ less. part_before (OWED.place + r * OWED_ROW_SIZE) OWED_ROW_SIZE (OWED.place + q) n x c same (omega (arith, less, to)))
      (λ not_less. ⊎_elim (λ more. part_after (OWED.place + r * OWED_ROW_SIZE) OWED_ROW_SIZE (OWED.place + q) n x c same (omega (arith, more, from))) (λ not_more. absurd (differ (omega (arith, not_less, not_more)))) (cases_lt r s))
      (cases_lt s r)
      ∙ sym (part_in x OWED.place OWED.size q n (omega (arith, below, to)))

  pub other_session : (s : ℕ) → s < 8 → s ≢ r → session_in (rows_in c) s ≡ session_in (rows_in x) s
  other_session s below differ = number_same (rows_in x) (rows_in c) (s * OWED_ROW_SIZE) 4 (part s (s * OWED_ROW_SIZE) 4 below differ (omega arith) (omega arith))

  pub other_number : (s : ℕ) → s < 8 → s ≢ r → number_in (rows_in c) s ≡ number_in (rows_in x) s
  other_number s below differ = part s (s * OWED_ROW_SIZE + 4) 18 below differ (omega arith) (omega arith)

  pub other_cell : (s j : ℕ) → s < 8 → s ≢ r → j < 4 → cell_in (rows_in c) s j ≡ cell_in (rows_in x) s j
  other_cell s j below differ small = λ t. record {
    minute = number_same (rows_in x) (rows_in c) (cell_begin s j) 4 (part s (cell_begin s j) 4 below differ (omega arith) (omega (arith, small))) t;
    word = number_same (rows_in x) (rows_in c) (cell_begin s j + 4) 2 (part s (cell_begin s j + 4) 2 below differ (omega arith) (omega (arith, small))) t;
  }

  pub other_row : (s : ℕ) → s < 8 → s ≢ r → row_in (rows_in c) s ≡ row_in (rows_in x) s
  other_row s below differ = λ t. record {
    session = other_session s below differ t;
    cells = other_cell s 0 below differ (omega arith) t ∷ other_cell s 1 below differ (omega arith) t ∷ other_cell s 2 below differ (omega arith) t ∷ other_cell s 3 below differ (omega arith) t ∷ [];
  }

  other_is : (n : List ℕ) (s : ℕ) → s < 8 → s ≢ r → is_row_of n (rows_in c) s ≡ is_row_of n (rows_in x) s
  other_is n s below differ = λ t. not (other_session s below differ t == 0) && pointwise nat_eq (other_number s below differ t) n

  -- a number whose row is not this one keeps it, where this one is not the number's afterwards
  pub other_index : (n : List ℕ) → is_row_of n (rows_in c) r ≡ false → is_row_of n (rows_in x) r ≡ false → row_index n (rows_in c) ≡ row_index n (rows_in x)
  other_index n after before = find_below (is_row_of n (rows_in c)) (is_row_of n (rows_in x)) 0 8 (λ s below. ⊎_elim (λ is. subst (λ (k : ℕ). is_row_of n (rows_in c) k ≡ is_row_of n (rows_in x) k) (sym is) (after ∙ sym before)) (other_is n s below) (eq_cases s r))

-- a search that passes over what fails
pub find_at : (p : ℕ → Bool) (a n r : ℕ) → a ≤ r → r < a + n → ((s : ℕ) → s < r → p s ≡ false) → p r ≡ true → find p (range_with_len a n) ≡ Some r
find_at p a zero r from to before here = absurd (omega (arith, from, to))
find_at p a (suc n) r from to before here = ⊎_elim
    (λ less. (λ t. cond (before a less t) (Some a) (find p (range_with_len (a + 1) n))) ∙ find_at p (a + 1) n r (omega (arith, less)) (omega (arith, to)) before here)
    (λ not_less. let is : a ≡ r = omega (arith, from, not_less) in (λ t. cond ((ap p is ∙ here) t) (Some a) (find p (range_with_len (a + 1) n))) ∙ ap Some is)
    (cases_lt a r)

-- before what a search finds nothing passes
pub find_before : (p : ℕ → Bool) (a n r s : ℕ) → find p (range_with_len a n) ≡ Some r → a ≤ s → s < r → p s ≡ false
find_before p a zero r s is from to = absurd (cc)
find_before p a (suc n) r s is from to = by (p a) refl (λ there next. find_before p (a + 1) n r s there next to) is
  where
    by : (b : Bool) → p a ≡ b → (find p (range_with_len (a + 1) n) ≡ Some r → a + 1 ≤ s → p s ≡ false) → cond b (Some a) (find p (range_with_len (a + 1) n)) ≡ Some r → p s ≡ false
    by true here rest found = absurd (omega (arith, some_is a r found, from, to))
    by false none rest found = ⊎_elim (λ more. rest found (omega (arith, more))) (λ not_more. let same : s ≡ a = omega (arith, from, not_more) in ap p same ∙ none) (cases_lt a s)

pub find_none : (p : ℕ → Bool) (a n s : ℕ) → find p (range_with_len a n) ≡ None → a ≤ s → s < a + n → p s ≡ false
find_none p a zero s is from to = absurd (omega (arith, from, to))
find_none p a (suc n) s is from to = by (p a) refl (λ there next. find_none p (a + 1) n s there next (omega (arith, to))) is
  where
    by : (b : Bool) → p a ≡ b → (find p (range_with_len (a + 1) n) ≡ None → a + 1 ≤ s → p s ≡ false) → cond b (Some a) (find p (range_with_len (a + 1) n)) ≡ None → p s ≡ false
    by true here rest none = absurd (cc)
    by false fails rest none = ⊎_elim (λ more. rest none (omega (arith, more))) (λ not_more. let same : s ≡ a = omega (arith, from, not_more) in ap p same ∙ fails) (cases_lt a s)

-- the writes of a row
module _ (x : List ℕ) (sized : length x ≡ IMAGE_SIZE) (r : ℕ) (low : r < 8) (number : List ℕ) (wide : length number ≡ 18) (session : ℕ) (small : session < 4294967296) where
  abbrev base : ℕ
  base = OWED.place + r * OWED_ROW_SIZE

  abbrev zero4 : List ℕ
  zero4 = to_be_bytes w32 0

  abbrev at_cell : ℕ → ℕ
  at_cell k = OWED.place + cell_begin r k

  abbrev mid : List Piece
  mid = piece (at_cell 0) zero4 ∷ piece (at_cell 1) zero4 ∷ piece (at_cell 2) zero4 ∷ piece (at_cell 3) zero4 ∷ piece (base + 4) number ∷ []

  abbrev last : List Piece
  last = piece base (to_be_bytes w32 session) ∷ []

  abbrev cleared : List ℕ
  cleared = put base zero4 x

  abbrev filled : List ℕ
  filled = put_all mid cleared

  abbrev y : List ℕ
  y = put base (to_be_bytes w32 session) filled

  inside : (p : Piece) → 0 < length p.bytes → length p.bytes ≤ 255 → base ≤ p.place → p.place + length p.bytes ≤ base + OWED_ROW_SIZE → IsInside base (base + OWED_ROW_SIZE) p
  inside p some short from to = record { some = some; short = short; behind = from; inside = to }

  all_inside : AllByRecursion (IsInside base (base + OWED_ROW_SIZE)) (row_pieces r number session)
  all_inside =
      let a = inside (piece base zero4) (omega arith) (omega arith) (omega arith) (omega arith) in
      let b0 = inside (piece (at_cell 0) zero4) (omega arith) (omega arith) (omega arith) (omega arith) in
      let b1 = inside (piece (at_cell 1) zero4) (omega arith) (omega arith) (omega arith) (omega arith) in
      let b2 = inside (piece (at_cell 2) zero4) (omega arith) (omega arith) (omega arith) (omega arith) in
      let b3 = inside (piece (at_cell 3) zero4) (omega arith) (omega arith) (omega arith) (omega arith) in
      let n = inside (piece (base + 4) number) (omega (arith, wide)) (omega (arith, wide)) (omega arith) (omega (arith, wide)) in
      let s = inside (piece base (to_be_bytes w32 session)) (omega arith) (omega arith) (omega arith) (omega arith) in
      (a, (b0, (b1, (b2, (b3, (n, (s, tt)))))))

  mid_inside : AllByRecursion (IsInside (base + 4) (base + 4 + 44)) mid
  mid_inside =
      let b0 : IsInside (base + 4) (base + 4 + 44) (piece (at_cell 0) zero4) = record { some = omega arith; short = omega arith; behind = omega arith; inside = omega arith } in
      let b1 : IsInside (base + 4) (base + 4 + 44) (piece (at_cell 1) zero4) = record { some = omega arith; short = omega arith; behind = omega arith; inside = omega arith } in
      let b2 : IsInside (base + 4) (base + 4 + 44) (piece (at_cell 2) zero4) = record { some = omega arith; short = omega arith; behind = omega arith; inside = omega arith } in
      let b3 : IsInside (base + 4) (base + 4 + 44) (piece (at_cell 3) zero4) = record { some = omega arith; short = omega arith; behind = omega arith; inside = omega arith } in
      let n : IsInside (base + 4) (base + 4 + 44) (piece (base + 4) number) = record { some = omega (arith, wide); short = omega (arith, wide); behind = omega arith; inside = omega (arith, wide) } in
      (b0, (b1, (b2, (b3, (n, tt)))))

  pub near : (c : List ℕ) → IsPartway (row_pieces r number session) x c → SameOutside base OWED_ROW_SIZE x c
  near c here = partway_outside base OWED_ROW_SIZE (row_pieces r number session) all_inside x c (omega (arith, sized, low)) here

  pub near_end : SameOutside base OWED_ROW_SIZE x y
  near_end = puts_outside base OWED_ROW_SIZE (row_pieces r number session) all_inside x (omega (arith, sized, low))

  one : SameOutside base 4 x cleared
  one = put_outside base zero4 x (omega (arith, sized, low))

  cleared_session : number_at cleared base 4 ≡ 0
  cleared_session = number_put4 base 0 x (omega (arith, sized, low)) (omega arith)

  two : SameOutside (base + 4) 44 cleared filled
  two = puts_outside (base + 4) 44 mid mid_inside cleared (omega (arith, sized, low, one.same_length))

  session_of : (c : List ℕ) → session_in (rows_in c) r ≡ number_at c base 4
  session_of c = numbers.number_in c OWED.place OWED.size (r * OWED_ROW_SIZE) 4 (omega (arith, low))

  -- the session time at each moment
  pub session_moment : (c : List ℕ) → IsPartway (row_pieces r number session) x c → (c ≡ x) ⊎ ((session_in (rows_in c) r ≡ 0) ⊎ (c ≡ y))
  session_moment c (inl cut) = ⊎_elim inl (λ is. inr (inl (session_of c ∙ ap (λ (l : List ℕ). number_at l base 4) is ∙ cleared_session))) (cut.whole (omega arith))
  session_moment c (inr there) = by (partway_either mid last cleared c there)
    where
      by : IsPartway mid cleared c ⊎ IsPartway last filled c → (c ≡ x) ⊎ ((session_in (rows_in c) r ≡ 0) ⊎ (c ≡ y))
      by (inl part) = inr (inl (session_of c ∙ number_before (base + 4) 44 base 4 cleared c (partway_outside (base + 4) 44 mid mid_inside cleared c (omega (arith, sized, low, one.same_length)) part) (omega arith) ∙ cleared_session))
      by (inr (inl cut)) = ⊎_elim (λ is. inr (inl (session_of c ∙ ap (λ (l : List ℕ). number_at l base 4) is ∙ number_before (base + 4) 44 base 4 cleared filled two (omega arith) ∙ cleared_session))) (λ is. inr (inr is)) (cut.whole (omega arith))
      by (inr (inr none)) = absurd none

  -- the words of its cells stay
  word_side : (j k : ℕ) → IsApart (at_cell j + 4) 2 (piece (at_cell k) zero4)
  word_side j k = ⊎_elim (λ less. inr (omega (arith, less))) (λ more. inl (omega (arith, more))) (cases_lt j k)

  word_apart : (j : ℕ) → AllByRecursion (IsApart (at_cell j + 4) 2) (row_pieces r number session)
  word_apart j = (inl (omega arith), (word_side j 0, (word_side j 1, (word_side j 2, (word_side j 3, (inl (omega (arith, wide)), (inl (omega arith), tt)))))))

  -- their minutes stay or are turned to 0
  minute_side : (j k : ℕ) → IsApartOrZero base (base + OWED_ROW_SIZE) (at_cell j) (piece (at_cell k) zero4)
  minute_side j k = ⊎_elim (λ less. inl (inr (omega (arith, less)))) (λ not_less. ⊎_elim (λ more. inl (inl (omega (arith, more)))) (λ not_more. inr (omega (arith, not_less, not_more), refl)) (cases_lt k j)) (cases_lt j k)

  minute_apart : (j : ℕ) → AllByRecursion (IsApartOrZero base (base + OWED_ROW_SIZE) (at_cell j)) (row_pieces r number session)
  minute_apart j = (inl (inl (omega arith)), (minute_side j 0, (minute_side j 1, (minute_side j 2, (minute_side j 3, (inl (inl (omega (arith, wide))), (inl (inl (omega arith)), tt)))))))

  fits : base + OWED_ROW_SIZE ≤ length x
  fits = omega (arith, sized, low)

  minute_of : (c : List ℕ) (j : ℕ) → j < 4 → (cell_in (rows_in c) r j).minute ≡ number_at c (at_cell j) 4
  minute_of c j few = numbers.number_in c OWED.place OWED.size (cell_begin r j) 4 (omega (arith, low, few))

  word_of : (c : List ℕ) (j : ℕ) → j < 4 → (cell_in (rows_in c) r j).word ≡ number_at c (at_cell j + 4) 2
  word_of c j few = numbers.number_in c OWED.place OWED.size (cell_begin r j + 4) 2 (omega (arith, low, few)) ∙ ap (λ (q : ℕ). number_at c q 2) next
    where
      next : OWED.place + (cell_begin r j + 4) ≡ at_cell j + 4
      next = omega arith

  pub word_moment : (c : List ℕ) → IsPartway (row_pieces r number session) x c → (j : ℕ) → j < 4 → (cell_in (rows_in c) r j).word ≡ (cell_in (rows_in x) r j).word
  word_moment c here j few = word_of c j few ∙ number_same x c (at_cell j + 4) 2 (partway_apart base (base + OWED_ROW_SIZE) (row_pieces r number session) (at_cell j + 4) 2 x c all_inside (word_apart j) fits here) ∙ sym (word_of x j few)

  pub minute_moment : (c : List ℕ) → IsPartway (row_pieces r number session) x c → (j : ℕ) → j < 4 → ((cell_in (rows_in c) r j).minute ≡ 0) ⊎ ((cell_in (rows_in c) r j).minute ≡ (cell_in (rows_in x) r j).minute)
  minute_moment c here j few = ⊎_elim (λ empty. inl (minute_of c j few ∙ empty)) (λ is. inr (minute_of c j few ∙ is ∙ sym (minute_of x j few)))
      (partway_held base (base + OWED_ROW_SIZE) (row_pieces r number session) (at_cell j) (number_at x (at_cell j) 4) x c all_inside (minute_apart j) fits (inr refl) here)

  -- at the end
  word_end : (j : ℕ) → j < 4 → (cell_in (rows_in y) r j).word ≡ (cell_in (rows_in x) r j).word
  word_end j few = word_of y j few ∙ number_same x y (at_cell j + 4) 2 (puts_apart base (base + OWED_ROW_SIZE) (row_pieces r number session) (at_cell j + 4) 2 x all_inside (word_apart j) fits) ∙ sym (word_of x j few)

  abbrev z0 : List ℕ
  z0 = put (at_cell 0) zero4 cleared

  abbrev z1 : List ℕ
  z1 = put (at_cell 1) zero4 z0

  abbrev z2 : List ℕ
  z2 = put (at_cell 2) zero4 z1

  abbrev z3 : List ℕ
  z3 = put (at_cell 3) zero4 z2

  len_0 : length z0 ≡ IMAGE_SIZE
  len_0 = omega (arith, sized, one.same_length, (put_outside (at_cell 0) zero4 cleared (omega (arith, sized, low, one.same_length))).same_length)

  len_1 : length z1 ≡ IMAGE_SIZE
  len_1 = omega (arith, len_0, (put_outside (at_cell 1) zero4 z0 (omega (arith, len_0, low))).same_length)

  len_2 : length z2 ≡ IMAGE_SIZE
  len_2 = omega (arith, len_1, (put_outside (at_cell 2) zero4 z1 (omega (arith, len_1, low))).same_length)

  len_3 : length z3 ≡ IMAGE_SIZE
  len_3 = omega (arith, len_2, (put_outside (at_cell 3) zero4 z2 (omega (arith, len_2, low))).same_length)

  zero_at : (a : ℕ) → IsHeld base (base + OWED_ROW_SIZE) a 0 y → number_at y a 4 ≡ 0
  zero_at a held = ⊎_elim (λ is. is) (λ is. is) held

  minute_0 : number_at y (at_cell 0) 4 ≡ 0
  minute_0 = zero_at (at_cell 0) (puts_held base (base + OWED_ROW_SIZE) (piece (at_cell 1) zero4 ∷ piece (at_cell 2) zero4 ∷ piece (at_cell 3) zero4 ∷ piece (base + 4) number ∷ last) (at_cell 0) 0 z0 all_inside.1.1 (minute_apart 0).1.1 (omega (arith, len_0, low))
      (inl (number_put4 (at_cell 0) 0 cleared (omega (arith, sized, low, one.same_length)) (omega arith))))

  minute_1 : number_at y (at_cell 1) 4 ≡ 0
  minute_1 = zero_at (at_cell 1) (puts_held base (base + OWED_ROW_SIZE) (piece (at_cell 2) zero4 ∷ piece (at_cell 3) zero4 ∷ piece (base + 4) number ∷ last) (at_cell 1) 0 z1 all_inside.1.1.1 (minute_apart 1).1.1.1 (omega (arith, len_1, low))
      (inl (number_put4 (at_cell 1) 0 z0 (omega (arith, len_0, low)) (omega arith))))

  minute_2 : number_at y (at_cell 2) 4 ≡ 0
  minute_2 = zero_at (at_cell 2) (puts_held base (base + OWED_ROW_SIZE) (piece (at_cell 3) zero4 ∷ piece (base + 4) number ∷ last) (at_cell 2) 0 z2 all_inside.1.1.1.1 (minute_apart 2).1.1.1.1 (omega (arith, len_2, low))
      (inl (number_put4 (at_cell 2) 0 z1 (omega (arith, len_1, low)) (omega arith))))

  minute_3 : number_at y (at_cell 3) 4 ≡ 0
  minute_3 = zero_at (at_cell 3) (puts_held base (base + OWED_ROW_SIZE) (piece (base + 4) number ∷ last) (at_cell 3) 0 z3 all_inside.1.1.1.1.1 (minute_apart 3).1.1.1.1.1 (omega (arith, len_3, low))
      (inl (number_put4 (at_cell 3) 0 z2 (omega (arith, len_2, low)) (omega arith))))

  cell_end : (j : ℕ) → j < 4 → number_at y (at_cell j) 4 ≡ 0 → cell_in (rows_in y) r j ≡ record { minute = 0; word = (cell_in (rows_in x) r j).word }
  cell_end j few empty = λ t. record { minute = (minute_of y j few ∙ empty) t; word = word_end j few t }

  filled_sized : length filled ≡ IMAGE_SIZE
  filled_sized = omega (arith, sized, one.same_length, two.same_length)

  pub session_end : session_in (rows_in y) r ≡ session
  session_end = session_of y ∙ number_put4 base session filled (omega (arith, filled_sized, low)) small

  pub taken : IsTaken number session r x y
  taken = record {
    named = part_in y OWED.place OWED.size (r * OWED_ROW_SIZE + 4) 18 (omega (arith, low)) ∙ ap (λ (q : ℕ). bytes_at y q 18) next
        ∙ part_after base 4 (base + 4) 18 filled y (put_outside base (to_be_bytes w32 session) filled (omega (arith, filled_sized, low))) (omega arith)
        ∙ ap (λ (n : ℕ). bytes_at filled (base + 4) n) (sym wide) ∙ part_put (base + 4) number z3 (omega (arith, len_3, low, wide));
    row = λ t. record {
      session = session_end t;
      cells = cell_end 0 (omega arith) minute_0 t ∷ cell_end 1 (omega arith) minute_1 t ∷ cell_end 2 (omega arith) minute_2 t ∷ cell_end 3 (omega arith) minute_3 t ∷ [];
    };
  }
    where
      next : OWED.place + (r * OWED_ROW_SIZE + 4) ≡ base + 4
      next = omega arith

-- the minute of a cell of a list
abbrev cell_at : List Cell → ℕ → ℕ
cell_at [] j = 0
cell_at (c ∷ cs) zero = c.minute
cell_at (c ∷ cs) (suc j) = cell_at cs j

-- a row that is begun for a number
module _ (number : List ℕ) (session : ℕ) (spared : Option (List ℕ)) (x : List ℕ) (sized : length x ≡ IMAGE_SIZE) (wide : length number ≡ 18) (some : 0 < session) (small : session < 4294967296) where
  abbrev begun : (r : ℕ) × ((begun_index number spared (rows_in x) ≡ Some r) × ((r < 8)
      × ((row_index number (rows_in x) ≡ Some r) ⊎ ((row_index number (rows_in x) ≡ None) × ((empty_index (rows_in x) ≡ Some r) ⊎ (is_this_row (spared_index spared (rows_in x)) r ≡ false))))))
  begun = begun_is number spared (rows_in x)

  abbrev r : ℕ
  r = begun.0

  abbrev low : r < 8
  low = begun.1.1.0

  abbrev end : List ℕ
  end = y x sized r low number wide session small

  this_row : (s : ℕ) → begun_index number spared (rows_in x) ≡ Some s → r ≡ s
  this_row s is = some_is r s (sym begun.1.0 ∙ is)

  not_this : (s : ℕ) → begun_index number spared (rows_in x) ≢ Some s → s ≢ r
  not_this s differ same = differ (begun.1.0 ∙ ap Some (sym same))

  -- what a moment is
  record Moment (c : List ℕ) : Type 0 where
    near : SameOutside (OWED.place + r * OWED_ROW_SIZE) OWED_ROW_SIZE x c
    words : (j : ℕ) → j < 4 → (cell_in (rows_in c) r j).word ≡ (cell_in (rows_in x) r j).word
    minutes : (j : ℕ) → j < 4 → ((cell_in (rows_in c) r j).minute ≡ 0) ⊎ ((cell_in (rows_in c) r j).minute ≡ (cell_in (rows_in x) r j).minute)
    own : (c ≡ x) ⊎ ((session_in (rows_in c) r ≡ 0) ⊎ (c ≡ end))

  session_zero : (n rows : List ℕ) → session_in rows r ≡ 0 → is_row_of n rows r ≡ false
  session_zero n rows is = λ t. not (zero_true (session_in rows r) is t) && pointwise nat_eq (number_in rows r) n
    where
      zero_true : (a : ℕ) → a ≡ 0 → (a == 0) ≡ true
      zero_true a same = grind (arith, nat_tests)

  and_false : (a b : Bool) → b ≡ false → (a && b) ≡ false
  and_false true b is = is
  and_false false b is = refl

  named_other : (n rows : List ℕ) → n ≢ number → number_in rows r ≡ number → is_row_of n rows r ≡ false
  named_other n rows differ named = and_false (not (session_in rows r == 0)) (pointwise nat_eq (number_in rows r) n) (by (pointwise nat_eq (number_in rows r) n) refl)
    where
      by : (b : Bool) → pointwise nat_eq (number_in rows r) n ≡ b → pointwise nat_eq (number_in rows r) n ≡ false
      by true is = absurd (differ (sym ((bytes_decides (number_in rows r) n).0 is) ∙ named))
      by false is = is

  -- another number whose row is not this one
  kept_by : (c : List ℕ) → Moment c → (n : List ℕ) → is_row_of n (rows_in c) r ≡ false → row_index n (rows_in x) ≢ Some r → row_of n c ≡ row_of n x
  kept_by c at n after apart = by (row_index n (rows_in x)) refl
    where
      by : (o : Option ℕ) → row_index n (rows_in x) ≡ o → row_of n c ≡ row_of n x
      by None none =
          let same : row_index n (rows_in c) ≡ row_index n (rows_in x) = other_index x c r low at.near n after (find_none (is_row_of n (rows_in x)) 0 8 r none (omega arith) (omega (arith, low))) in
          ap (option_map (row_in (rows_in c))) (same ∙ none) ∙ sym (ap (option_map (row_in (rows_in x))) none)
      by (Some s) his =
          let below = found_below (is_row_of n (rows_in x)) 0 8 s his in
          let differ : s ≢ r = λ same. apart (his ∙ ap Some same) in
          let still_his : row_index n (rows_in c) ≡ Some s = find_at (is_row_of n (rows_in c)) 0 8 s (omega arith) (omega (arith, below))
          (λ k less. ⊎_elim (λ is. subst (λ (m : ℕ). is_row_of n (rows_in c) m ≡ false) (sym is) after)
          (λ other. other_is x c r low at.near n k (omega (arith, less, below)) other ∙ find_before (is_row_of n (rows_in x)) 0 8 s k his (omega arith) less) (eq_cases k r))
          (other_is x c r low at.near n s below differ ∙ found_passes (is_row_of n (rows_in x)) (range_with_len 0 8) s his) in
          ap (option_map (row_in (rows_in c))) still_his ∙ ap Some (other_row x c r low at.near s below differ) ∙ sym (ap (option_map (row_in (rows_in x))) his)

  kept_row : (c : List ℕ) → Moment c → (n : List ℕ) → n ≢ number → row_index n (rows_in x) ≢ Some r → row_of n c ≡ row_of n x
  kept_row c at n differ apart = by at.own
    where
      by : (c ≡ x) ⊎ ((session_in (rows_in c) r ≡ 0) ⊎ (c ≡ end)) → row_of n c ≡ row_of n x
      by (inl same) = ap (row_of n) same
      by (inr (inl is)) = kept_by c at n (session_zero n (rows_in c) is) apart
      by (inr (inr is)) = kept_by c at n (named_other n (rows_in c) differ (subst (λ (d : List ℕ). number_in (rows_in d) r ≡ number) (sym is) (taken x sized r low number wide session small).named)) apart

  moment_is : (c : List ℕ) → Moment c → IsRowBeginning number session spared x c
  moment_is c at = record {
    outside = row_wide x c r low at.near;
    rows = λ s below differ. (other_number x c r low at.near s below (not_this s differ), other_row x c r low at.near s below (not_this s differ));
    others = λ n differ apart. kept_row c at n differ (λ his. apart (his ∙ sym begun.1.0));
    spares = λ n differ is. kept_row c at n differ (λ his. spared_apart n number (rows_in x) differ (his ∙ sym begun.1.0 ∙ ap (λ (o : Option (List ℕ)). begun_index number o (rows_in x)) is));
    own = λ s is. subst (λ (k : ℕ). (c ≡ x) ⊎ ((session_in (rows_in c) k ≡ 0) ⊎ IsTaken number session k x c)) (this_row s is)
        (⊎_elim inl (λ rest. inr (⊎_elim inl (λ same. inr (subst (IsTaken number session r x) (sym same) (taken x sized r low number wide session small))) rest)) at.own);
    decodes = still x c (rows_pass x c (row_wide x c r low at.near) good);
  }
    where
      here : (j : ℕ) → j < 4 → cell_passes (cell_in (rows_in x) r j) ≡ true → cell_passes (cell_in (rows_in c) r j) ≡ true
      here j few before = ⊎_elim
          (λ empty. λ t. (zero_true ((cell_in (rows_in c) r j).minute) empty t) || nat_lt (word_minute ((cell_in (rows_in c) r j).word)) 1440)
          (λ is. (λ t. is t == 0 || nat_lt (word_minute (at.words j few t)) 1440) ∙ before)
          (at.minutes j few)
        where
          zero_true : (a : ℕ) → a ≡ 0 → (a == 0) ≡ true
          zero_true a same = grind (arith, nat_tests)

      good : (n : ℕ) → n < 32 → (cell_check x n).passes ≡ true → (cell_check c n).passes ≡ true
      good n below ok = ⊎_elim
          (λ one. passes_is c n below ∙ (λ t. cell_passes (cell_in (rows_in c) (one t) (n % 4))) ∙ here (n % 4) (omega arith) ((λ t. cell_passes (cell_in (rows_in x) (sym one t) (n % 4))) ∙ sym (passes_is x n below) ∙ ok))
          (λ differ. passes_is c n below ∙ ap cell_passes (other_cell x c r low at.near (n / 4) (n % 4) (omega (arith, below)) differ (omega arith)) ∙ sym (passes_is x n below) ∙ ok)
          (eq_cases (n / 4) r)

  known : (c : List ℕ) → IsPartway (beginning number session spared (rows_in x)) x c → IsPartway (row_pieces r number session) x c
  known c here = subst (λ (o : Option ℕ). IsPartway (pieces_at number session o) x c) begun.1.0 here

  pub beginning_moment : (c : List ℕ) → IsPartway (beginning number session spared (rows_in x)) x c → IsRowBeginning number session spared x c
  beginning_moment c here = moment_is c (record {
    near = near x sized r low number wide session small c (known c here);
    words = word_moment x sized r low number wide session small c (known c here);
    minutes = minute_moment x sized r low number wide session small c (known c here);
    own = session_moment x sized r low number wide session small c (known c here);
  })

  at_end : Moment end
  at_end = record {
    near = near_end x sized r low number wide session small;
    words = word_end x sized r low number wide session small;
    minutes = λ j few. inl (end_minute j few);
    own = inr (inr refl);
  }
    where
      row_is : row_in (rows_in end) r ≡ emptied session (row_in (rows_in x) r)
      row_is = (taken x sized r low number wide session small).row

      end_minute : (j : ℕ) → j < 4 → (cell_in (rows_in end) r j).minute ≡ 0
      end_minute zero few = ap (λ (o : OwedRow). cell_at o.cells 0) row_is
      end_minute (suc zero) few = ap (λ (o : OwedRow). cell_at o.cells 1) row_is
      end_minute (suc (suc zero)) few = ap (λ (o : OwedRow). cell_at o.cells 2) row_is
      end_minute (suc (suc (suc zero))) few = ap (λ (o : OwedRow). cell_at o.cells 3) row_is
      end_minute (suc (suc (suc (suc j)))) few = absurd (omega (arith, few))

  index_end : row_index number (rows_in end) ≡ Some r
  index_end = find_at (is_row_of number (rows_in end)) 0 8 r (omega arith) (omega (arith, low)) before here
    where
      differ_less : (k : ℕ) → k < r → k ≢ r
      differ_less k less same = absurd (omega (arith, less, same))

      none_before : (k : ℕ) → k < r → is_row_of number (rows_in x) k ≡ false
      none_before k less = ⊎_elim (λ mine. find_before (is_row_of number (rows_in x)) 0 8 r k mine (omega arith) less)
          (λ none. find_none (is_row_of number (rows_in x)) 0 8 k none.0 (omega arith) (omega (arith, less, low))) begun.1.1.1

      before : (k : ℕ) → k < r → is_row_of number (rows_in end) k ≡ false
      before k less = other_is x end r low at_end.near number k (omega (arith, less, low)) (differ_less k less) ∙ none_before k less

      not_zero : (a : ℕ) → a ≡ session → not (a == 0) ≡ true
      not_zero a is = grind (arith, nat_tests, some, is)

      and_join : (a b : Bool) → a ≡ true → b ≡ true → (a && b) ≡ true
      and_join a b first next = ap (λ (v : Bool). v && b) first ∙ next

      here : is_row_of number (rows_in end) r ≡ true
      here = and_join (not (session_in (rows_in end) r == 0)) (pointwise nat_eq (number_in (rows_in end) r) number)
          (not_zero (session_in (rows_in end) r) (session_end x sized r low number wide session small))
          ((bytes_decides (number_in (rows_in end) r) number).1 (taken x sized r low number wide session small).named)

  pub begun_end : IsRowBegun number session spared x (put_all (beginning number session spared (rows_in x)) x)
  begun_end = subst (λ (o : Option ℕ). IsRowBegun number session spared x (put_all (pieces_at number session o) x)) (sym begun.1.0) (record {
    beginning = moment_is end at_end;
    index = index_end ∙ sym begun.1.0;
    row = λ s is. subst (λ (k : ℕ). IsTaken number session k x end) (this_row s is) (taken x sized r low number wide session small);
  })
