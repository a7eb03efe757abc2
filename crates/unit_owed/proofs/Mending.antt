-- A mend keeps what is owed: it empties the cells that are later than the last-kept minute, which count for nothing.
use Rattle.std.proofs.Common.{◌≡◌, ◌⊎◌, inl, inr, ⊎_elim, ℕ, ◌+◌, ◌*◌, ◌/◌, ◌%◌, ◌<◌, ◌≤◌, Bool, true, false, cond, List, [], ◌∷◌, Option, Some, None, option_map, filter, refl, sym, ◌∙◌, ap, subst, arith}
use Rattle.std.specs.Prelude.{not, ◌&&◌, ◌==◌, nat_eq, nat_lt, nat_le}
use Rattle.std.specs.Cmp.Lexicographic.{pointwise}
use Rattle.std.proofs.lemmas.Bool.Decides.{nat_tests}
use Rattle.activity_codec.specs.declared.entries.Entry.{Entry}
use Rattle.tach_media.specs.Medium.{bytes_at}
use Rattle.unit_model.specs.Ring.{number_at}
use Rattle.unit_model.specs.Image.{last_kept}
use Rattle.unit_model.specs.declared.layout.TheConstants.{OWED, OWED_ROW_SIZE, ROW_CELLS, ROW_SESSION, ROW_NUMBER, CELL_MINUTE, CELL_WORD}
use Rattle.unit_model.specs.Decoding.{cell_minute, cell_word, cell_place}
use Rattle.unit_model.specs.Cells.{row_head, minute_kept}
use Rattle.unit_model.proofs.Numbers.{number_same, part_in}
use Rattle.unit_model.proofs.Numbers as numbers
use Rattle.unit_owed.specs.Owed.{Cell, rows_in, row_in, cell_in, cell_begin, session_in, number_in, is_row_of, row_index, entry_of, holds, counts, cell_entries, in_order, owed_of, owed_to}
use Rattle.unit_owed.specs.Standing.{IsKept, AreKept}
use Rattle.unit_owed.proofs.Putting.{find_below, found_below}

and_false : (a b : Bool) → b ≡ false → (a && b) ≡ false
and_false true b is = is
and_false false b is = refl

le_false : (a b : ℕ) → b < a → nat_le a b ≡ false
le_false a b is = grind (arith, nat_tests)

pub not_counted : (session after kept m : ℕ) → kept < m → counts session after kept m ≡ false
not_counted session after kept m late = and_false (nat_le (session / 60) m) (nat_lt after m && nat_le m kept) (and_false (nat_lt after m) (nat_le m kept) (le_false m kept late))

later : (a b : ℕ) → nat_lt a b ≡ true → a < b
later a b is = grind (arith, nat_tests)

not_later : (a b : ℕ) → nat_lt a b ≡ false → b ≤ a
not_later a b is = grind (arith, nat_tests)

-- the minute of a cell that was mended is as it was, or was later and is gone; and it is not later
pub kept_or_gone : (kept m n : ℕ) → n ≡ minute_kept kept m → (n ≡ m) ⊎ ((kept < m) × (n ≡ 0))
kept_or_gone kept m n is = by (nat_lt kept m) refl
  where
    by : (b : Bool) → nat_lt kept m ≡ b → (n ≡ m) ⊎ ((kept < m) × (n ≡ 0))
    by true late = inr (later kept m late, is ∙ ap (λ (b : Bool). cond {A = ℕ} b 0 m) late)
    by false now = inl (is ∙ ap (λ (b : Bool). cond {A = ℕ} b 0 m) now)

pub kept_low : (kept m n : ℕ) → n ≡ minute_kept kept m → n ≤ kept
kept_low kept m n is = by (nat_lt kept m) refl
  where
    by : (b : Bool) → nat_lt kept m ≡ b → n ≤ kept
    by true late = let zero_is : n ≡ 0 = is ∙ ap (λ (b : Bool). cond {A = ℕ} b 0 m) late in omega (arith, zero_is)
    by false now = let same : n ≡ m = is ∙ ap (λ (b : Bool). cond {A = ℕ} b 0 m) now in omega (arith, same, not_later kept m now)

-- of entries that are wanted none is later than the last-kept minute: they are the same in cells that are kept
module _ (wanted : Entry → Bool) (kept : ℕ) (none : (e : Entry) → kept < e.minute → wanted e ≡ false) where
  one : (i : ℕ) (x c : Cell) (xs cs : List Cell) → IsKept kept x c → filter wanted (cell_entries (i + 1) cs) ≡ filter wanted (cell_entries (i + 1) xs)
      → filter wanted (cell_entries i (c ∷ cs)) ≡ filter wanted (cell_entries i (x ∷ xs))
  one i x c xs cs (word, inl minute) rest =
      let same : c ≡ x = λ t. record { minute = minute t; word = word t } in
      ap (λ (d : Cell). filter wanted (cell_entries i (d ∷ cs))) same ∙ by (holds i x)
    where
      by : (h : Bool) → filter wanted (cond h (entry_of x ∷ cell_entries (i + 1) cs) (cell_entries (i + 1) cs)) ≡ filter wanted (cond h (entry_of x ∷ cell_entries (i + 1) xs) (cell_entries (i + 1) xs))
      by true = λ t. cond (wanted (entry_of x)) (entry_of x ∷ rest t) (rest t)
      by false = rest
  one i x c xs cs (word, inr (late, empty)) rest = gone ∙ rest ∙ sym (by (holds i x))
    where
      low : nat_le 1440 c.minute ≡ false
      low = le_false 1440 c.minute (omega (arith, empty))

      gone : filter wanted (cell_entries i (c ∷ cs)) ≡ filter wanted (cell_entries (i + 1) cs)
      gone = λ t. filter wanted (cond (and_false (c.minute % 4 == i) (nat_le 1440 c.minute) low t) (entry_of c ∷ cell_entries (i + 1) cs) (cell_entries (i + 1) cs))

      by : (h : Bool) → filter wanted (cond h (entry_of x ∷ cell_entries (i + 1) xs) (cell_entries (i + 1) xs)) ≡ filter wanted (cell_entries (i + 1) xs)
      by true = λ t. cond (none (entry_of x) late t) (entry_of x ∷ filter wanted (cell_entries (i + 1) xs)) (filter wanted (cell_entries (i + 1) xs))
      by false = refl

  -- and so they are in rows whose cells are kept
  pub all_kept : (i : ℕ) (xs cs : List Cell) → AreKept kept xs cs → filter wanted (cell_entries i cs) ≡ filter wanted (cell_entries i xs)
  all_kept i [] [] k = refl
  all_kept i [] (c ∷ cs) k = absurd k
  all_kept i (x ∷ xs) [] k = absurd k
  all_kept i (x ∷ xs) (c ∷ cs) k = one i x c xs cs k.0 (all_kept (i + 1) xs cs k.1)

-- images whose rows have the same heads and words, and whose cells are kept
pub record HasRowsKept (x c : List ℕ) : Type 0 where
  pub heads : (r : ℕ) → r < 8 → row_head c r ≡ row_head x r
  pub words : (n : ℕ) → n < 32 → cell_word c n ≡ cell_word x n
  pub minutes : (n : ℕ) → n < 32 → (cell_minute c n ≡ cell_minute x n) ⊎ ((last_kept x < cell_minute x n) × (cell_minute c n ≡ 0))

-- a cell of a row, by its number over all rows
module _ (l : List ℕ) (r j : ℕ) (low : r < 8) (few : j < 4) where
  place : OWED.place + cell_begin r j ≡ cell_place (r * 4 + j)
  place = omega (arith, few)

  place_2 : OWED.place + (cell_begin r j + CELL_WORD.place) ≡ cell_place (r * 4 + j) + CELL_WORD.place
  place_2 = omega (arith, few)

  pub minute_is : (cell_in (rows_in l) r j).minute ≡ cell_minute l (r * 4 + j)
  minute_is = numbers.number_in l OWED.place OWED.size (cell_begin r j) CELL_MINUTE.size (omega (arith, low, few)) ∙ ap (λ (q : ℕ). number_at l q CELL_MINUTE.size) place

  pub word_is : (cell_in (rows_in l) r j).word ≡ cell_word l (r * 4 + j)
  word_is = numbers.number_in l OWED.place OWED.size (cell_begin r j + CELL_WORD.place) CELL_WORD.size (omega (arith, low, few)) ∙ ap (λ (q : ℕ). number_at l q CELL_WORD.size) place_2

module _ (x c : List ℕ) (rows : HasRowsKept x c) where
  of_head : (l : List ℕ) (s k n : ℕ) → s < 8 → k + n ≤ ROW_CELLS.place → bytes_at (rows_in l) (s * OWED_ROW_SIZE + k) n ≡ bytes_at (row_head l s) k n
  of_head l s k n below le =
      let next : OWED.place + (s * OWED_ROW_SIZE + k) ≡ OWED.place + s * OWED_ROW_SIZE + k = omega arith in
      part_in l OWED.place OWED.size (s * OWED_ROW_SIZE + k) n (omega (arith, below, le)) ∙ ap (λ (q : ℕ). bytes_at l q n) next ∙ sym (part_in l (OWED.place + s * OWED_ROW_SIZE) ROW_CELLS.place k n le)

  head : (s k n : ℕ) → s < 8 → k + n ≤ ROW_CELLS.place → bytes_at (rows_in c) (s * OWED_ROW_SIZE + k) n ≡ bytes_at (rows_in x) (s * OWED_ROW_SIZE + k) n
  head s k n below le = of_head c s k n below le ∙ ap (λ (l : List ℕ). bytes_at l k n) (rows.heads s below) ∙ sym (of_head x s k n below le)

  pub session_same : (s : ℕ) → s < 8 → session_in (rows_in c) s ≡ session_in (rows_in x) s
  session_same s below =
      let at : s * OWED_ROW_SIZE + 0 ≡ s * OWED_ROW_SIZE = omega arith in
      number_same (rows_in x) (rows_in c) (s * OWED_ROW_SIZE) ROW_SESSION.size (subst (λ (q : ℕ). bytes_at (rows_in c) q ROW_SESSION.size ≡ bytes_at (rows_in x) q ROW_SESSION.size) at (head s 0 ROW_SESSION.size below (omega arith)))

  pub number_stays : (s : ℕ) → s < 8 → number_in (rows_in c) s ≡ number_in (rows_in x) s
  number_stays s below = head s ROW_NUMBER.place ROW_NUMBER.size below (omega arith)

  pub index_same : (number : List ℕ) → row_index number (rows_in c) ≡ row_index number (rows_in x)
  index_same number = find_below (is_row_of number (rows_in c)) (is_row_of number (rows_in x)) 0 8 (λ s below. λ t. not (session_same s below t == 0) && pointwise nat_eq (head s ROW_NUMBER.place ROW_NUMBER.size below (omega arith) t) number)

  cell_kept : (r j : ℕ) → r < 8 → j < 4 → IsKept (last_kept x) (cell_in (rows_in x) r j) (cell_in (rows_in c) r j)
  cell_kept r j low few =
      let below : r * 4 + j < 32 = omega (arith, low, few) in
      let minute = minute_is c r j low few in
      let was = minute_is x r j low few in (
        word_is c r j low few ∙ rows.words (r * 4 + j) below ∙ sym (word_is x r j low few),
        ⊎_elim (λ same. inl (minute ∙ same ∙ sym was)) (λ gone. inr (omega (arith, gone.0, was), minute ∙ gone.1)) (rows.minutes (r * 4 + j) below),
      )

  pub row_kept : (r : ℕ) → r < 8 → AreKept (last_kept x) (row_in (rows_in x) r).cells (row_in (rows_in c) r).cells
  row_kept r low = (cell_kept r 0 low (omega arith), (cell_kept r 1 low (omega arith), (cell_kept r 2 low (omega arith), (cell_kept r 3 low (omega arith), tt))))

  -- a row has the same wanted entries
  pub cells_same : (wanted : Entry → Bool) → ((e : Entry) → last_kept x < e.minute → wanted e ≡ false) → (r : ℕ) → r < 8
      → filter wanted (cell_entries 0 (row_in (rows_in c) r).cells) ≡ filter wanted (cell_entries 0 (row_in (rows_in x) r).cells)
  cells_same wanted none r low = all_kept wanted (last_kept x) none 0 (row_in (rows_in x) r).cells (row_in (rows_in c) r).cells (row_kept r low)

  pub owed_mended : last_kept c ≡ last_kept x → (number : List ℕ) (session after : ℕ) → owed_to c number session after ≡ owed_to x number session after
  unfolding owed_to
  owed_mended kept_same number session after =
      (λ t. owed_of session after (kept_same t) (option_map (row_in (rows_in c)) (index_same number t))) ∙ by (row_index number (rows_in x)) refl
    where
      by : (o : Option ℕ) → row_index number (rows_in x) ≡ o → owed_of session after (last_kept x) (option_map (row_in (rows_in c)) o) ≡ owed_of session after (last_kept x) (option_map (row_in (rows_in x)) o)
      by None is = refl
      by (Some r) is =
          let low = found_below (is_row_of number (rows_in x)) 0 8 r is in
          let same = cells_same (λ e. counts session after (last_kept x) e.minute) (λ e late. not_counted session after (last_kept x) e.minute late) r low in
          λ t. cond (session_same r low t == session) (in_order (same t)) []
