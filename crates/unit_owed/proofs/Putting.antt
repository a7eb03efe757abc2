-- The moments of an entry that is put into a row.
use Rattle.std.proofs.Common.{◌≡◌, ◌≢◌, ◌⊎◌, inl, inr, ⊎_elim, ℕ, zero, suc, ◌+◌, ◌*◌, ◌/◌, ◌%◌, ◌<◌, ◌≤◌, Bool, true, false, cond, List, [], ◌∷◌, length, take, Option, Some, None, option_map, refl, sym, ◌∙◌, ap, subst, arith}
use Rattle.std.specs.Prelude.{find, not, ◌&&◌, ◌||◌, ◌==◌, nat_eq, nat_lt}
use Rattle.std.specs.List.{range_with_len}
use Rattle.std.specs.Int.{to_be_bytes, w16, w32}
use Rattle.std.specs.Cmp.Lexicographic.{pointwise, bytes_decides}
use Rattle.std.proofs.lemmas.Bool.{cases_lt}
use Rattle.std.proofs.lemmas.Bool.Decides.{nat_tests}
use Rattle.tach_media.specs.Medium.{put, bytes_at, SameOutside}
use Rattle.tach_media.proofs.Images.{put_outside, part_before, part_after, outside_same, outside_wider, outside_then}
use Rattle.unit_model.specs.Ring.{number_at}
use Rattle.tach_media.specs.Plan.{put_all, IsPartway}
use Rattle.tach_media.proofs.Plans.{after_some}
use Rattle.activity_codec.specs.declared.entries.Entry.{Entry}
use Rattle.unit_model.specs.declared.layout.TheConstants.{IMAGE_SIZE, OWED, OWED_ROW_SIZE}
use Rattle.unit_model.specs.Days.{word_minute}
use Rattle.unit_model.specs.Decoding.{Decodes, cell_check, cell_minute, cell_word, cell_place}
use Rattle.unit_model.proofs.Numbers.{number_same, part_in, number_before, number_after, number_put4, number_put2}
use Rattle.unit_model.proofs.Numbers as numbers
use Rattle.unit_model.proofs.Checks.{still}
use Rattle.unit_model.proofs.StillDecodes.{rows_pass}
use Rattle.unit_owed.specs.Owed.{Cell, rows_in, row_in, cell_in, session_in, number_in, cell_begin, is_row_of, row_index, row_of}
use Rattle.unit_owed.specs.Rows.{cell_pieces, with_cell, IsPuttingCell, IsPutting, OwedRowHas, putting, pieces_into, entry_word}

-- what a search finds passes
pub found_passes : (p : ℕ → Bool) (l : List ℕ) (r : ℕ) → find p l ≡ Some r → p r ≡ true
found_passes p [] r is = absurd (cc)
found_passes p (y ∷ l) r is = by (p y) refl (found_passes p l r) is
  where
    some_same : (a b : ℕ) → Some a ≡ Some b → a ≡ b
    some_same a b is = cc

    by : (b : Bool) → p y ≡ b → (find p l ≡ Some r → p r ≡ true) → cond b (Some y) (find p l) ≡ Some r → p r ≡ true
    by true here rest is = subst (λ (z : ℕ). p z ≡ true) (some_same y r is) here
    by false here rest is = rest is

some_is : (a b : ℕ) → Some a ≡ Some b → a ≡ b
some_is a b is = cc

pub find_below : (p q : ℕ → Bool) (a n : ℕ) → ((s : ℕ) → s < a + n → p s ≡ q s) → find p (range_with_len a n) ≡ find q (range_with_len a n)
find_below p q a zero same = refl
find_below p q a (suc n) same = λ t. cond (same a (omega arith) t) (Some a) (find_below p q (a + 1) n (λ s below. same s (omega (arith, below))) t)

pub found_below : (p : ℕ → Bool) (a n r : ℕ) → find p (range_with_len a n) ≡ Some r → r < a + n
found_below p a zero r is = absurd (cc)
found_below p a (suc n) r is = by (p a) (λ there. omega (arith, found_below p (a + 1) n r there)) is
  where
    by : (b : Bool) → (find p (range_with_len (a + 1) n) ≡ Some r → r < a + suc n) → cond b (Some a) (find p (range_with_len (a + 1) n)) ≡ Some r → r < a + suc n
    by true rest here = omega (arith, some_is a r here)
    by false rest there = rest there

pub and_both : (a b : Bool) → (a && b) ≡ true → (a ≡ true) × (b ≡ true)
and_both true b is = (refl, is)
and_both false b is = absurd (cc)

-- the number of a row that is a number's
pub number_is : (number rows : List ℕ) (r : ℕ) → is_row_of number rows r ≡ true → number_in rows r ≡ number
number_is number rows r is = (bytes_decides (number_in rows r) number).0 (and_both (not (session_in rows r == 0)) (pointwise nat_eq (number_in rows r) number) is).1

-- the rows of two numbers are two
pub rows_apart : (n number rows : List ℕ) (s r : ℕ) → n ≢ number → row_index n rows ≡ Some s → row_index number rows ≡ Some r → s ≢ r
rows_apart n number rows s r differ his mine same =
    let first : number_in rows s ≡ n = number_is n rows s (found_passes (is_row_of n rows) (range_with_len 0 8) s his) in
    let second : number_in rows r ≡ number = number_is number rows r (found_passes (is_row_of number rows) (range_with_len 0 8) r mine) in
    differ (sym first ∙ ap (number_in rows) same ∙ second)

-- an image in which one cell may have changed
module _ (x c : List ℕ) (r i : ℕ) (low : r < 8) (few : i < 4) (same : SameOutside (OWED.place + cell_begin r i) 6 x c) where
  pub wide : SameOutside OWED.place OWED.size x c
  wide = outside_wider OWED.place OWED.size (OWED.place + cell_begin r i) 6 x c same (omega arith) (omega (arith, low, few))

  abbrev Apart : (q n : ℕ) → Type 0
  Apart q n = (q + n ≤ cell_begin r i) ⊎ (cell_begin r i + 6 ≤ q)

  part : (q n : ℕ) → q + n ≤ OWED.size → Apart q n → bytes_at (rows_in c) q n ≡ bytes_at (rows_in x) q n
  part q n fits apart =
      part_in c OWED.place OWED.size q n fits
      ∙ ⊎_elim (λ front. part_before (OWED.place + cell_begin r i) 6 (OWED.place + q) n x c same (omega (arith, front))) (λ behind. part_after (OWED.place + cell_begin r i) 6 (OWED.place + q) n x c same (omega (arith, behind))) apart
      ∙ sym (part_in x OWED.place OWED.size q n fits)

  number : (q n : ℕ) → q + n ≤ OWED.size → Apart q n → number_at (rows_in c) q n ≡ number_at (rows_in x) q n
  number q n fits apart = number_same (rows_in x) (rows_in c) q n (part q n fits apart)

  head_apart : (s q n : ℕ) → s * OWED_ROW_SIZE ≤ q → q + n ≤ s * OWED_ROW_SIZE + 24 → Apart q n
  head_apart s q n from to = ⊎_elim (λ less. inr (omega (arith, less, few, from))) (λ more. inl (omega (arith, more, to))) (cases_lt r s)

  pub sessions : (s : ℕ) → s < 8 → session_in (rows_in c) s ≡ session_in (rows_in x) s
  sessions s below = number (s * OWED_ROW_SIZE) 4 (omega (arith, below)) (head_apart s (s * OWED_ROW_SIZE) 4 (omega arith) (omega arith))

  pub heads : (s : ℕ) → s < 8 → number_in (rows_in c) s ≡ number_in (rows_in x) s
  heads s below = part (s * OWED_ROW_SIZE + 4) 18 (omega (arith, below)) (head_apart s (s * OWED_ROW_SIZE + 4) 18 (omega arith) (omega arith))

  is_row_same : (n : List ℕ) (s : ℕ) → s < 8 → is_row_of n (rows_in c) s ≡ is_row_of n (rows_in x) s
  is_row_same n s below = λ t. not (sessions s below t == 0) && pointwise nat_eq (heads s below t) n

  pub index_same : (n : List ℕ) → row_index n (rows_in c) ≡ row_index n (rows_in x)
  index_same n = find_below (is_row_of n (rows_in c)) (is_row_of n (rows_in x)) 0 8 (is_row_same n)

  abbrev IsOther : (s j : ℕ) → Type 0
  IsOther s j = (s ≢ r) ⊎ (j ≢ i)

  cell_apart : (s j q n : ℕ) → j < 4 → IsOther s j → cell_begin s j ≤ q → q + n ≤ cell_begin s j + 6 → Apart q n
  cell_apart s j q n small other from to = ⊎_elim
      (λ less. inl (omega (arith, less, to)))
      (λ not_less. ⊎_elim (λ more. inr (omega (arith, more, from))) (λ not_more. absurd (meet other (omega (arith, not_less, not_more, small, few)) (omega (arith, not_less, not_more, small, few)))) (cases_lt (cell_begin r i) (cell_begin s j)))
      (cases_lt (cell_begin s j) (cell_begin r i))
    where
      meet : IsOther s j → s ≡ r → j ≡ i → ⊥
      meet (inl differ) one two = differ one
      meet (inr differ) one two = differ two

  pub cell_same : (s j : ℕ) → s < 8 → j < 4 → IsOther s j → cell_in (rows_in c) s j ≡ cell_in (rows_in x) s j
  cell_same s j below small other = λ t. record {
    minute = number (cell_begin s j) 4 (omega (arith, below, small)) (cell_apart s j (cell_begin s j) 4 small other (omega arith) (omega arith)) t;
    word = number (cell_begin s j + 4) 2 (omega (arith, below, small)) (cell_apart s j (cell_begin s j + 4) 2 small other (omega arith) (omega arith)) t;
  }

  pub row_same : (s : ℕ) → s < 8 → s ≢ r → row_in (rows_in c) s ≡ row_in (rows_in x) s
  row_same s below differ = λ t. record {
    session = sessions s below t;
    cells = cell_same s 0 below (omega arith) (inl differ) t ∷ cell_same s 1 below (omega arith) (inl differ) t ∷ cell_same s 2 below (omega arith) (inl differ) t ∷ cell_same s 3 below (omega arith) (inl differ) t ∷ [];
  }

  pub others_same : (n mine : List ℕ) → n ≢ mine → row_index mine (rows_in x) ≡ Some r → row_of n c ≡ row_of n x
  others_same n mine differ is = ap (option_map (row_in (rows_in c))) (index_same n) ∙ by (row_index n (rows_in x)) refl
    where
      by : (o : Option ℕ) → row_index n (rows_in x) ≡ o → option_map (row_in (rows_in c)) o ≡ option_map (row_in (rows_in x)) o
      by None none = refl
      by (Some s) his = ap Some (row_same s (found_below (is_row_of n (rows_in x)) 0 8 s his) (rows_apart n mine (rows_in x) s r differ his is))

  pub row_with : (cell : Cell) → cell_in (rows_in c) r i ≡ cell → row_in (rows_in c) r ≡ with_cell i cell (row_in (rows_in x) r)
  row_with cell here = ⊎_elim first (⊎_elim second (⊎_elim third fourth)) which
    where
      which : (i ≡ 0) ⊎ ((i ≡ 1) ⊎ ((i ≡ 2) ⊎ (i ≡ 3)))
      which = ⊎_elim (λ a. inl (omega (arith, a))) (λ a. ⊎_elim (λ b. inr (inl (omega (arith, a, b)))) (λ b. ⊎_elim (λ d. inr (inr (inl (omega (arith, b, d))))) (λ d. inr (inr (inr (omega (arith, d, few))))) (cases_lt i 3)) (cases_lt i 2)) (cases_lt i 1)

      other : (j : ℕ) → j < 4 → j ≢ i → cell_in (rows_in c) r j ≡ cell_in (rows_in x) r j
      other j small differ = cell_same r j low small (inr differ)

      at : (k : ℕ) → i ≡ k → cell_in (rows_in c) r k ≡ cell
      at k is = ap (cell_in (rows_in c) r) (sym is) ∙ here

      first : i ≡ 0 → row_in (rows_in c) r ≡ with_cell i cell (row_in (rows_in x) r)
      first is = subst (λ (k : ℕ). row_in (rows_in c) r ≡ with_cell k cell (row_in (rows_in x) r)) (sym is) (λ t. record { session = sessions r low t; cells = at 0 is t ∷ other 1 (omega arith) (λ s. absurd (omega (arith, s, is))) t ∷ other 2 (omega arith) (λ s. absurd (omega (arith, s, is))) t ∷ other 3 (omega arith) (λ s. absurd (omega (arith, s, is))) t ∷ [] })

      second : i ≡ 1 → row_in (rows_in c) r ≡ with_cell i cell (row_in (rows_in x) r)
      second is = subst (λ (k : ℕ). row_in (rows_in c) r ≡ with_cell k cell (row_in (rows_in x) r)) (sym is) (λ t. record { session = sessions r low t; cells = other 0 (omega arith) (λ s. absurd (omega (arith, s, is))) t ∷ at 1 is t ∷ other 2 (omega arith) (λ s. absurd (omega (arith, s, is))) t ∷ other 3 (omega arith) (λ s. absurd (omega (arith, s, is))) t ∷ [] })

      third : i ≡ 2 → row_in (rows_in c) r ≡ with_cell i cell (row_in (rows_in x) r)
      third is = subst (λ (k : ℕ). row_in (rows_in c) r ≡ with_cell k cell (row_in (rows_in x) r)) (sym is) (λ t. record { session = sessions r low t; cells = other 0 (omega arith) (λ s. absurd (omega (arith, s, is))) t ∷ other 1 (omega arith) (λ s. absurd (omega (arith, s, is))) t ∷ at 2 is t ∷ other 3 (omega arith) (λ s. absurd (omega (arith, s, is))) t ∷ [] })

      fourth : i ≡ 3 → row_in (rows_in c) r ≡ with_cell i cell (row_in (rows_in x) r)
      fourth is = subst (λ (k : ℕ). row_in (rows_in c) r ≡ with_cell k cell (row_in (rows_in x) r)) (sym is) (λ t. record { session = sessions r low t; cells = other 0 (omega arith) (λ s. absurd (omega (arith, s, is))) t ∷ other 1 (omega arith) (λ s. absurd (omega (arith, s, is))) t ∷ other 2 (omega arith) (λ s. absurd (omega (arith, s, is))) t ∷ at 3 is t ∷ [] })

-- whether a cell passes
abbrev pub cell_passes : Cell → Bool
cell_passes c = c.minute == 0 || nat_lt (word_minute c.word) 1440

pub passes_is : (x : List ℕ) (n : ℕ) → n < 32 → (cell_check x n).passes ≡ cell_passes (cell_in (rows_in x) (n / 4) (n % 4))
passes_is x n below =
    let minute : cell_minute x n ≡ number_at (rows_in x) (cell_begin (n / 4) (n % 4)) 4 = ap (λ (p : ℕ). number_at x p 4) place ∙ sym (numbers.number_in x OWED.place OWED.size (cell_begin (n / 4) (n % 4)) 4 (omega (arith, below))) in
    let word : cell_word x n ≡ number_at (rows_in x) (cell_begin (n / 4) (n % 4) + 4) 2 = ap (λ (p : ℕ). number_at x (p + 4) 2) place ∙ ap (λ (p : ℕ). number_at x p 2) next ∙ sym (numbers.number_in x OWED.place OWED.size (cell_begin (n / 4) (n % 4) + 4) 2 (omega (arith, below))) in
    λ t. minute t == 0 || nat_lt (word_minute (word t)) 1440
  where
    place : cell_place n ≡ OWED.place + cell_begin (n / 4) (n % 4)
    place = omega arith

    next : OWED.place + cell_begin (n / 4) (n % 4) + 4 ≡ OWED.place + (cell_begin (n / 4) (n % 4) + 4)
    next = omega arith

-- the image still decodes where the cell passes
pub cell_decodes : (x c : List ℕ) (r i : ℕ) (low : r < 8) (few : i < 4) (same : SameOutside (OWED.place + cell_begin r i) 6 x c)
    → (cell_passes (cell_in (rows_in x) r i) ≡ true → cell_passes (cell_in (rows_in c) r i) ≡ true) → Decodes x → Decodes c
cell_decodes x c r i low few same passes = still x c (rows_pass x c (wide x c r i low few same) good)
  where
    eq_cases : (a b : ℕ) → (a ≡ b) ⊎ (a ≢ b)
    eq_cases a b = ⊎_elim (λ less. inr (λ is. absurd (omega (arith, less, is)))) (λ not_less. ⊎_elim (λ more. inr (λ is. absurd (omega (arith, more, is)))) (λ not_more. inl (omega (arith, not_less, not_more))) (cases_lt b a)) (cases_lt a b)

    other : (n : ℕ) → n < 32 → (n / 4 ≢ r) ⊎ (n % 4 ≢ i) → (cell_check x n).passes ≡ true → (cell_check c n).passes ≡ true
    other n below differ ok = passes_is c n below ∙ ap cell_passes (cell_same x c r i low few same (n / 4) (n % 4) (omega (arith, below)) (omega arith) differ) ∙ sym (passes_is x n below) ∙ ok

    this : (n : ℕ) → n < 32 → n / 4 ≡ r → n % 4 ≡ i → (cell_check x n).passes ≡ true → (cell_check c n).passes ≡ true
    this n below one two ok =
        let before : cell_passes (cell_in (rows_in x) r i) ≡ true = (λ t. cell_passes (cell_in (rows_in x) (sym one t) (sym two t))) ∙ sym (passes_is x n below) ∙ ok in
        passes_is c n below ∙ (λ t. cell_passes (cell_in (rows_in c) (one t) (two t))) ∙ passes before

    good : (n : ℕ) → n < 32 → (cell_check x n).passes ≡ true → (cell_check c n).passes ≡ true
    good n below = ⊎_elim (λ one. ⊎_elim (λ two. this n below one two) (λ differ. other n below (inr differ)) (eq_cases (n % 4) i)) (λ differ. other n below (inl differ)) (eq_cases (n / 4) r)

-- the three writes of an entry
module _ (x : List ℕ) (sized : length x ≡ IMAGE_SIZE) (r m w : ℕ) (low : r < 8) (small : m < 4294967296) (short : w < 65536) where
  abbrev i : ℕ
  i = m % 4

  abbrev p : ℕ
  p = OWED.place + cell_begin r i

  abbrev emptied : List ℕ
  emptied = put p (to_be_bytes w32 0) x

  abbrev worded : List ℕ
  worded = put (p + 4) (to_be_bytes w16 w) emptied

  abbrev entered : List ℕ
  entered = put p (to_be_bytes w32 m) worded

  one : SameOutside p 4 x emptied
  one = put_outside p (to_be_bytes w32 0) x (omega (arith, sized, low))

  two : SameOutside (p + 4) 2 emptied worded
  two = put_outside (p + 4) (to_be_bytes w16 w) emptied (omega (arith, sized, low, one.same_length))

  three : SameOutside p 4 worded entered
  three = put_outside p (to_be_bytes w32 m) worded (omega (arith, sized, low, one.same_length, two.same_length))

  pub near_1 : SameOutside p 6 x emptied
  near_1 = outside_wider p 6 p 4 x emptied one (omega arith) (omega arith)

  pub near_2 : SameOutside p 6 x worded
  near_2 = outside_then p 6 x emptied worded near_1 (outside_wider p 6 (p + 4) 2 emptied worded two (omega arith) (omega arith))

  pub near_3 : SameOutside p 6 x entered
  near_3 = outside_then p 6 x worded entered near_2 (outside_wider p 6 p 4 worded entered three (omega arith) (omega arith))

  minute_of : (c : List ℕ) → (cell_in (rows_in c) r i).minute ≡ number_at c p 4
  minute_of c = numbers.number_in c OWED.place OWED.size (cell_begin r i) 4 (omega (arith, low))

  word_of_cell : (c : List ℕ) → (cell_in (rows_in c) r i).word ≡ number_at c (p + 4) 2
  word_of_cell c = numbers.number_in c OWED.place OWED.size (cell_begin r i + 4) 2 (omega (arith, low)) ∙ ap (λ (q : ℕ). number_at c q 2) next
    where
      next : OWED.place + (cell_begin r i + 4) ≡ p + 4
      next = omega arith

  pub empty_1 : (cell_in (rows_in emptied) r i).minute ≡ 0
  empty_1 = minute_of emptied ∙ number_put4 p 0 x (omega (arith, sized, low)) (omega arith)

  pub empty_2 : (cell_in (rows_in worded) r i).minute ≡ 0
  empty_2 = minute_of worded ∙ number_before (p + 4) 2 p 4 emptied worded two (omega arith) ∙ number_put4 p 0 x (omega (arith, sized, low)) (omega arith)

  pub entered_is : cell_in (rows_in entered) r i ≡ record { minute = m; word = w }
  entered_is =
      let minute : (cell_in (rows_in entered) r i).minute ≡ m = minute_of entered ∙ number_put4 p m worded (omega (arith, sized, low, one.same_length, two.same_length)) small in
      let word : (cell_in (rows_in entered) r i).word ≡ w = word_of_cell entered ∙ number_after p 4 (p + 4) 2 worded entered three (omega arith) ∙ number_put2 (p + 4) w emptied (omega (arith, sized, low, one.same_length)) short in
      λ t. record { minute = minute t; word = word t }

-- an entry that is put into the row of a number
module _ (number : List ℕ) (e : Entry) (x : List ℕ) (sized : length x ≡ IMAGE_SIZE) (r : ℕ) (mine : row_index number (rows_in x) ≡ Some r)
    (small : e.minute < 4294967296) (short : entry_word e < 65536) (good : word_minute (entry_word e) < 1440) where
  abbrev m : ℕ
  m = e.minute

  abbrev w : ℕ
  w = entry_word e

  abbrev place : ℕ
  place = OWED.place + cell_begin r (m % 4)

  low : r < 8
  low = found_below (is_row_of number (rows_in x)) 0 8 r mine

  one_row : (s : ℕ) → row_index number (rows_in x) ≡ Some s → r ≡ s
  one_row s is = some_is r s (sym mine ∙ is)

  lt_true : (a b : ℕ) → a < b → nat_lt a b ≡ true
  lt_true a b is = grind (arith, nat_tests)

  zero_true : (a : ℕ) → a ≡ 0 → (a == 0) ≡ true
  zero_true a is = grind (arith, nat_tests)

  or_true : (a b : Bool) → b ≡ true → (a || b) ≡ true
  or_true true b is = refl
  or_true false b is = is

  not_mine : (s : ℕ) → row_index number (rows_in x) ≢ Some s → s ≢ r
  not_mine s differ is = differ (mine ∙ ap (λ (k : ℕ). Some k) (sym is))

  near : (c : List ℕ) → SameOutside place 6 x c → (cell_passes (cell_in (rows_in x) r (m % 4)) ≡ true → cell_passes (cell_in (rows_in c) r (m % 4)) ≡ true)
      → IsPuttingCell e (row_in (rows_in x) r) (row_in (rows_in c) r) → IsPutting number e x c
  near c same passes own = record {
    outside = wide x c r (m % 4) low (omega arith) same;
    indices = index_same x c r (m % 4) low (omega arith) same;
    rows = λ s below differ. (heads x c r (m % 4) low (omega arith) same s below, row_same x c r (m % 4) low (omega arith) same s below (not_mine s differ));
    others = λ n differ. others_same x c r (m % 4) low (omega arith) same n number differ mine;
    own = λ s is. subst (λ (k : ℕ). IsPuttingCell e (row_in (rows_in x) k) (row_in (rows_in c) k)) (one_row s is) own;
    decodes = cell_decodes x c r (m % 4) low (omega arith) same passes;
  }

  emptied_moment : (c : List ℕ) → SameOutside place 6 x c → (cell_in (rows_in c) r (m % 4)).minute ≡ 0 → IsPutting number e x c
  emptied_moment c same empty = near c same (λ before. λ t. (zero_true ((cell_in (rows_in c) r (m % 4)).minute) empty t) || nat_lt (word_minute ((cell_in (rows_in c) r (m % 4)).word)) 1440)
      (inr (inl ((cell_in (rows_in c) r (m % 4)).word, row_with x c r (m % 4) low (omega arith) same (record { minute = 0; word = (cell_in (rows_in c) r (m % 4)).word }) (λ t. record { minute = empty t; word = (cell_in (rows_in c) r (m % 4)).word }))))

  abbrev y : List ℕ
  y = entered x sized r m w low small short

  done : row_in (rows_in y) r ≡ with_cell (m % 4) (record { minute = m; word = w }) (row_in (rows_in x) r)
  done = row_with x y r (m % 4) low (omega arith) (near_3 x sized r m w low small short) (record { minute = m; word = w }) (entered_is x sized r m w low small short)

  at_end : IsPutting number e x y
  at_end = near y (near_3 x sized r m w low small short) (λ before. ap cell_passes (entered_is x sized r m w low small short) ∙ or_true (m == 0) (nat_lt (word_minute w) 1440) (lt_true (word_minute w) 1440 good)) (inr (inr done))

  untouched : IsPutting number e x x
  untouched = near x (outside_same place 6 x) (λ before. before) (inl refl)

  by_count : (c : List ℕ) (k : ℕ) → k ≤ 3 → c ≡ put_all (take k (cell_pieces r m w)) x → IsPutting number e x c
  by_count c zero le is = subst (IsPutting number e x) (sym is) untouched
  by_count c (suc zero) le is = subst (IsPutting number e x) (sym is) (emptied_moment (emptied x sized r m w low small short) (near_1 x sized r m w low small short) (empty_1 x sized r m w low small short))
  by_count c (suc (suc zero)) le is = subst (IsPutting number e x) (sym is) (emptied_moment (worded x sized r m w low small short) (near_2 x sized r m w low small short) (empty_2 x sized r m w low small short))
  by_count c (suc (suc (suc zero))) le is = subst (IsPutting number e x) (sym is) at_end
  by_count c (suc (suc (suc (suc k)))) le is = absurd (omega (arith, le))

  pub putting_moment : (c : List ℕ) → IsPartway (putting number m w (rows_in x)) x c → IsPutting number e x c
  putting_moment c here =
      let known : IsPartway (cell_pieces r m w) x c = subst (λ (o : Option ℕ). IsPartway (pieces_into m w o) x c) mine here in
      let some = after_some (cell_pieces r m w) (omega arith, (omega arith, (omega arith, tt))) x c known in
      by_count c some.0 some.1 some.2

  pub put_end : OwedRowHas number e x (put_all (putting number m w (rows_in x)) x)
  put_end = subst (λ (o : Option ℕ). OwedRowHas number e x (put_all (pieces_into m w o) x)) (sym mine) (record {
    putting = at_end;
    entry = λ s is. subst (λ (k : ℕ). row_in (rows_in y) k ≡ with_cell (m % 4) (record { minute = m; word = w }) (row_in (rows_in x) k)) (one_row s is) done;
  })
