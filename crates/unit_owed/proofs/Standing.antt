-- The owed rows go on from those of an image, over each step of a unit; and what they owe to a number for which none is taken.
use Rattle.std.proofs.Common.{◌≡◌, ◌≢◌, ◌⊎◌, inl, inr, ⊎_elim, ℕ, ◌+◌, ◌*◌, ◌/◌, ◌<◌, ◌≤◌, Bool, true, false, cond, List, [], ◌∷◌, Option, Some, None, option_map, refl, sym, ◌∙◌, ap, subst, arith}
use Rattle.std.specs.Prelude.{not, ◌&&◌, ◌==◌, nat_eq, nat_lt, nat_le}
use Rattle.std.specs.List.{AllByRecursion, range_with_len}
use Rattle.std.specs.Cmp.Lexicographic.{pointwise, bytes_decides}
use Rattle.std.proofs.lemmas.Bool.Decides.{nat_tests}
use Rattle.activity_codec.specs.declared.entries.Entry.{Entry}
use Rattle.unit_model.specs.Image.{last_kept}
use Rattle.unit_model.specs.Decoding.{cell_minute}
use Rattle.unit_model.specs.Cells.{minute_kept}
use Rattle.unit_owed.specs.Owed.{Cell, OwedRow, rows_in, row_in, cell_in, session_in, number_in, is_row_of, row_index, entry_of, holds, counts, counted, cell_entries, in_order, owed_of, owed_to}
use Rattle.unit_owed.specs.Rows.{begun_index, or_else, empty_index, spared_index, is_this_row, least, IsPutting, IsPuttingCell, IsRowBeginning, IsTaken}
use Rattle.unit_owed.specs.Standing.{IsKept, AreKept, AreLow, IsStanding, RowStands, HasOneEmpty, IsTakenFor, HasOne, IsLost, IsGone, HasTwo, IsOthers, LoseFew, RowsGoOn, AreMended, IsOneOf, IsOwedStill, HasLostRow}
use Rattle.unit_owed.proofs.Putting.{found_passes, found_below, find_below, and_both}
use Rattle.unit_owed.proofs.Taking.{begun_is}
use Rattle.unit_owed.proofs.Beginning.{eq_cases, find_at, find_before, find_none}
use Rattle.unit_owed.proofs.Least.{least-is}
use Rattle.unit_owed.proofs.Mending.{HasRowsKept, kept_low, minute_is, not_counted, session_same, number_stays, row_kept, all_kept}

some_is : (a b : ℕ) → Some a ≡ Some b → a ≡ b
some_is a b is = cc

some-none : (r : ℕ) → Some r ≡ None → ⊥
some-none r is = cc

list-is : (n m : List ℕ) → Some n ≡ Some m → n ≡ m
list-is n m is = cc

never : true ≡ false → ⊥
never is = cc

zero_of : (a : ℕ) → (a == 0) ≡ true → a ≡ 0
zero_of a is = grind (arith, nat_tests)

same_of : (a b : ℕ) → (a == b) ≡ true → a ≡ b
same_of a b is = grind (arith, nat_tests)

zero_true : (a : ℕ) → a ≡ 0 → (a == 0) ≡ true
zero_true a is = grind (arith, nat_tests)

some_true : (a : ℕ) → (a ≡ 0 → ⊥) → not (a == 0) ≡ true
some_true a some = by (a == 0) refl
  where
    by : (b : Bool) → (a == 0) ≡ b → not b ≡ true
    by true is = absurd (some (zero_of a is))
    by false is = refl

-- ---- whose a row is

module _ (number rows : List ℕ) (r : ℕ) where
  empty-none : session_in rows r ≡ 0 → is_row_of number rows r ≡ false
  empty-none is = λ t. not (zero_true (session_in rows r) is t) && pointwise nat_eq (number_in rows r) number

  row-number : is_row_of number rows r ≡ true → number_in rows r ≡ number
  row-number is = (bytes_decides (number_in rows r) number).0 (and_both (not (session_in rows r == 0)) (pointwise nat_eq (number_in rows r) number) is).1

  row-some : is_row_of number rows r ≡ true → session_in rows r ≡ 0 → ⊥
  row-some is empty = never (sym is ∙ empty-none empty)

  row-apart : number_in rows r ≢ number → is_row_of number rows r ≡ false
  row-apart differ = by (is_row_of number rows r) refl
    where
      by : (b : Bool) → is_row_of number rows r ≡ b → is_row_of number rows r ≡ false
      by true is = absurd (differ (row-number is))
      by false is = is

  row-there : (session_in rows r ≡ 0 → ⊥) → number_in rows r ≡ number → is_row_of number rows r ≡ true
  row-there some is = λ t. some_true (session_in rows r) some t && (bytes_decides (number_in rows r) number).1 is t

-- ---- cells

kept-all : (k : ℕ) (cells : List Cell) → AreKept k cells cells
kept-all k [] = tt
kept-all k (c ∷ cells) = ((refl, inl refl), kept-all k cells)

cell-then : (first last : ℕ) → first ≤ last → (w a n : Cell) → IsKept first w a → IsKept last a n → IsKept first w n
cell-then first last le w a n one two = (two.0 ∙ one.0, by one.1 two.1)
  where
    by : (a.minute ≡ w.minute) ⊎ ((first < w.minute) × (a.minute ≡ 0)) → (n.minute ≡ a.minute) ⊎ ((last < a.minute) × (n.minute ≡ 0)) → (n.minute ≡ w.minute) ⊎ ((first < w.minute) × (n.minute ≡ 0))
    by (inl same) (inl still) = inl (still ∙ same)
    by (inl same) (inr gone) = inr (omega (arith, le, gone.0, same), gone.1)
    by (inr empty) (inl still) = inr (empty.0, still ∙ empty.1)
    by (inr empty) (inr gone) = inr (empty.0, gone.1)

kept-then : (first last : ℕ) → first ≤ last → (was at now : List Cell) → AreKept first was at → AreKept last at now → AreKept first was now
kept-then first last le [] [] [] one two = tt
kept-then first last le [] [] (n ∷ now) one two = absurd two
kept-then first last le [] (a ∷ at) now one two = absurd one
kept-then first last le (w ∷ was) [] now one two = absurd one
kept-then first last le (w ∷ was) (a ∷ at) [] one two = absurd two
kept-then first last le (w ∷ was) (a ∷ at) (n ∷ now) one two = (cell-then first last le w a n one.0 two.0, kept-then first last le was at now one.1 two.1)

low-kept : (first last : ℕ) (was now : List Cell) → AreKept last was now → AreLow first was → AreLow first now
low-kept first last [] [] k low = tt
low-kept first last [] (n ∷ now) k low = absurd k
low-kept first last (w ∷ was) [] k low = absurd k
low-kept first last (w ∷ was) (n ∷ now) k low = (by k.0.1, low-kept first last was now k.1 low.1)
  where
    by : (n.minute ≡ w.minute) ⊎ ((last < w.minute) × (n.minute ≡ 0)) → n.minute ≤ first
    by (inl still) = omega (arith, still, low.0)
    by (inr gone) = omega (arith, gone.1)

-- ---- the steps

module _ (mine : List ℕ → Type 0) (x : List ℕ) where
  -- at the start none is lost
  none-lost : (r : ℕ) → IsLost mine x (rows_in x) r → ⊥
  none-lost r l = ⊎_elim (λ empty. l.filled empty) (λ his. l.others (subst mine (sym his) l.taken.whose)) l.taken.now

  pub goes-start : RowsGoOn mine x (rows_in x) (last_kept x)
  goes-start = record {
    on = omega arith;
    each = λ r below. inl (refl, record { session = refl; cells = kept-all (last_kept x) (row_in (rows_in x) r).cells; low = inl refl });
    once = λ number his r s low few one two. inr (one, two);
    few = record { three = λ r s t l m n. absurd (none-lost r l); two = λ r s l m. absurd (none-lost r l); least = λ r s l low o. absurd (none-lost r l) };
  }

  -- a row that is as it was
  taken-same : (old new : List ℕ) (r : ℕ) → session_in new r ≡ session_in old r → number_in new r ≡ number_in old r → IsTakenFor mine x old r → IsTakenFor mine x new r
  taken-same old new r session number t = record {
    number = t.number;
    whose = t.whose;
    now = ⊎_elim (λ empty. inl (session ∙ empty)) (λ his. inr (number ∙ his)) t.now;
    may = t.may;
  }

  -- one that is lost was so before
  lost-same : (old new : List ℕ) (r : ℕ) → session_in new r ≡ session_in old r → number_in new r ≡ number_in old r → IsLost mine x new r → IsLost mine x old r
  lost-same old new r session number l = record { below = l.below; filled = l.filled; others = l.others; taken = taken-same new old r (sym session) (sym number) l.taken }

  others-same : (old new : List ℕ) (r : ℕ) → session_in new r ≡ session_in old r → number_in new r ≡ number_in old r → IsOthers mine new r → IsOthers mine old r
  others-same old new r session number o = (λ empty. o.0 (session ∙ empty), λ his. o.1 (subst mine (sym number) his))

  few-same : (old new : List ℕ) → ((r : ℕ) → r < 8 → (session_in new r ≡ session_in old r) × (number_in new r ≡ number_in old r)) → LoseFew mine x old → LoseFew mine x new
  few-same old new same few = record { three = λ r s t l m n. few.three r s t (back r l) (gone s m) (gone t n); two = λ r s l m. few.two r s (back r l) (gone s m); least = least-same }
    where
      back : (r : ℕ) → IsLost mine x new r → IsLost mine x old r
      back r l = let here = same r l.below in lost-same old new r here.0 here.1 l

      gone : (r : ℕ) → IsGone mine x new r → IsGone mine x old r
      gone r (inl empty) = inl empty
      gone r (inr l) = inr (back r l)

      least-same : (r s : ℕ) → IsLost mine x new r → s < 8 → IsOthers mine new s → session_in (rows_in x) r ≤ session_in new s
      least-same r s l low o =
          let here = same s low in
          let le = few.least r s (back r l) low (others-same old new s here.0 here.1 o) in
          subst (λ (t : ℕ). session_in (rows_in x) r ≤ t) (sym here.0) le

  row-same : (old new : List ℕ) (r last : ℕ) → number_in new r ≡ number_in old r → row_in new r ≡ row_in old r → RowStands x old last r ⊎ IsTakenFor mine x old r → RowStands x new last r ⊎ IsTakenFor mine x new r
  row-same old new r last number row (inl stands) = inl (number ∙ stands.0, subst (λ (o : OwedRow). IsStanding (last_kept x) last (row_in (rows_in x) r) o) (sym row) stands.1)
  row-same old new r last number row (inr t) = inr (taken-same old new r (ap (λ (o : OwedRow). o.session) row) number t)

  low-same : (old new : List ℕ) (r : ℕ) → number_in new r ≡ number_in old r → row_in new r ≡ row_in old r → AreLow (last_kept x) (row_in old r).cells ⊎ IsTakenFor mine x old r → AreLow (last_kept x) (row_in new r).cells ⊎ IsTakenFor mine x new r
  low-same old new r number row (inl low) = inl (subst (λ (o : OwedRow). AreLow (last_kept x) o.cells) (sym row) low)
  low-same old new r number row (inr t) = inr (taken-same old new r (ap (λ (o : OwedRow). o.session) row) number t)

  once-same : (old new : List ℕ) → ((n : List ℕ) (r : ℕ) → r < 8 → is_row_of n new r ≡ is_row_of n old r) → (number : List ℕ) → HasOne number x old → HasOne number x new
  once-same old new same number has = λ r s low few one two. has r s low few (sym (same number r low) ∙ one) (sym (same number s few) ∙ two)

  -- A KEEP: the rows stay, and the last-kept minute may be a later one, where each row that stands was mended
  pub goes-kept : (rows : List ℕ) (last later : ℕ) → RowsGoOn mine x rows last → AreMended mine x rows → last ≤ later → RowsGoOn mine x rows later
  goes-kept rows last later goes mended le = record { on = omega (arith, goes.on, le); each = λ r below. by r (goes.each r below) (mended r below); once = goes.once; few = goes.few }
    where
      by : (r : ℕ) → RowStands x rows last r ⊎ IsTakenFor mine x rows r → AreLow (last_kept x) (row_in rows r).cells ⊎ IsTakenFor mine x rows r → RowStands x rows later r ⊎ IsTakenFor mine x rows r
      by r (inl stands) (inl low) = inl (stands.0, record { session = stands.1.session; cells = stands.1.cells; low = inr low })
      by r (inl stands) (inr t) = inr t
      by r (inr t) m = inr t

  -- A MEND, at each moment
  module _ (p c : List ℕ) (kept : HasRowsKept p c) (mark : last_kept c ≡ last_kept p) (goes : RowsGoOn mine x (rows_in p) (last_kept p)) where
    same-row : (n : List ℕ) (r : ℕ) → r < 8 → is_row_of n (rows_in c) r ≡ is_row_of n (rows_in p) r
    same-row n r below = λ t. not (session_same p c kept r below t == 0) && pointwise nat_eq (number_stays p c kept r below t) n

    taken-still : (r : ℕ) → r < 8 → IsTakenFor mine x (rows_in p) r → IsTakenFor mine x (rows_in c) r
    taken-still r below = taken-same (rows_in p) (rows_in c) r (session_same p c kept r below) (number_stays p c kept r below)

    low-still : (r : ℕ) → r < 8 → AreLow (last_kept x) (row_in (rows_in p) r).cells → AreLow (last_kept x) (row_in (rows_in c) r).cells
    low-still r below = low-kept (last_kept x) (last_kept p) (row_in (rows_in p) r).cells (row_in (rows_in c) r).cells (row_kept p c kept r below)

    pub goes-mending : RowsGoOn mine x (rows_in c) (last_kept c)
    goes-mending = record { on = omega (arith, goes.on, mark); each = λ r below. by r below (goes.each r below); once = λ number his. once-same (rows_in p) (rows_in c) same-row number (goes.once number his); few = few-same (rows_in p) (rows_in c) (λ r below. (session_same p c kept r below, number_stays p c kept r below)) goes.few }
      where
        by : (r : ℕ) → r < 8 → RowStands x (rows_in p) (last_kept p) r ⊎ IsTakenFor mine x (rows_in p) r → RowStands x (rows_in c) (last_kept c) r ⊎ IsTakenFor mine x (rows_in c) r
        by r below (inl stands) = inl (
          number_stays p c kept r below ∙ stands.0,
          record {
            session = session_same p c kept r below ∙ stands.1.session;
            cells = kept-then (last_kept x) (last_kept p) goes.on (row_in (rows_in x) r).cells (row_in (rows_in p) r).cells (row_in (rows_in c) r).cells stands.1.cells (row_kept p c kept r below);
            low = ⊎_elim (λ same. inl (mark ∙ same)) (λ low. inr (low-still r below low)) stands.1.low;
          },
        )
        by r below (inr t) = inr (taken-still r below t)

    pub mended-mending : AreMended mine x (rows_in p) → AreMended mine x (rows_in c)
    mended-mending m = λ r below. ⊎_elim (λ low. inl (low-still r below low)) (λ t. inr (taken-still r below t)) (m r below)

    -- and behind it
    pub goes-mended : ((n : ℕ) → n < 32 → cell_minute c n ≡ minute_kept (last_kept p) (cell_minute p n)) → AreMended mine x (rows_in c)
    goes-mended mended = λ r below. by r below (goes.each r below)
      where
        at : (r j : ℕ) → r < 8 → j < 4 → (cell_in (rows_in c) r j).minute ≤ last_kept p
        at r j below few =
            let is = minute_is c r j below few in
            let le = kept_low (last_kept p) (cell_minute p (r * 4 + j)) (cell_minute c (r * 4 + j)) (mended (r * 4 + j) (omega (arith, below, few))) in
            omega (arith, is, le)

        all : (r : ℕ) → r < 8 → last_kept p ≡ last_kept x → AreLow (last_kept x) (row_in (rows_in c) r).cells
        all r below same = (here 0 (omega arith), (here 1 (omega arith), (here 2 (omega arith), (here 3 (omega arith), tt))))
          where
            here : (j : ℕ) → j < 4 → (cell_in (rows_in c) r j).minute ≤ last_kept x
            here j few = let le = at r j below few in omega (arith, le, same)

        by : (r : ℕ) → r < 8 → RowStands x (rows_in p) (last_kept p) r ⊎ IsTakenFor mine x (rows_in p) r → AreLow (last_kept x) (row_in (rows_in c) r).cells ⊎ IsTakenFor mine x (rows_in c) r
        by r below (inl stands) = inl (⊎_elim (λ same. all r below same) (λ low. low-still r below low) stands.1.low)
        by r below (inr t) = inr (taken-still r below t)

-- ---- for one of two numbers

-- where the row that is begun comes from
begun-cases : (o p q : Option ℕ) (k : ℕ) → or_else o (or_else p q) ≡ Some k → (o ≡ Some k) ⊎ ((o ≡ None) × ((p ≡ Some k) ⊎ (p ≡ None)))
begun-cases (Some r) p q k is = inl is
begun-cases None (Some r) q k is = inr (refl, inl is)
begun-cases None None q k is = inr (refl, inr refl)

-- the one with the least session time, where it comes from there
least-of : (o p q : Option ℕ) (k : ℕ) → or_else o (or_else p q) ≡ Some k → o ≡ None → p ≡ None → q ≡ Some k
least-of (Some r) p q k is none full = absurd (some-none r none)
least-of None (Some r) q k is none full = absurd (some-none r full)
least-of None None q k is none full = is

module _ (a b : Option (List ℕ)) (x number : List ℕ) (whose : IsOneOf a b number) (p c : List ℕ) (goes : RowsGoOn (IsOneOf a b) x (rows_in p) (last_kept p)) where
  abbrev Goes : List ℕ → Type 0
  Goes y = RowsGoOn (IsOneOf a b) x (rows_in y) (last_kept y)

  abbrev Taken : List ℕ → ℕ → Type 0
  Taken y r = IsTakenFor (IsOneOf a b) x (rows_in y) r

  passes : (r : ℕ) → row_index number (rows_in p) ≡ Some r → is_row_of number (rows_in p) r ≡ true
  passes r at = found_passes (is_row_of number (rows_in p)) (range_with_len 0 8) r at

  none-its : row_index number (rows_in p) ≡ None → (r : ℕ) → r < 8 → is_row_of number (rows_in p) r ≡ false
  none-its none r below = find_none (is_row_of number (rows_in p)) 0 8 r none (omega arith) (omega (arith, below))

  -- AN ENTRY IS PUT for it, at each moment
  module _ (e : Entry) (mark : last_kept c ≡ last_kept p) (is : IsPutting number e p c) where
    own-session : (r : ℕ) → row_index number (rows_in p) ≡ Some r → session_in (rows_in c) r ≡ session_in (rows_in p) r
    own-session r at = by (is.own r at)
      where
        by : IsPuttingCell e (row_in (rows_in p) r) (row_in (rows_in c) r) → session_in (rows_in c) r ≡ session_in (rows_in p) r
        by (inl same) = ap (λ (o : OwedRow). o.session) same
        by (inr (inl gone)) = ap (λ (o : OwedRow). o.session) gone.1
        by (inr (inr entered)) = ap (λ (o : OwedRow). o.session) entered

    own-was : (r : ℕ) → row_index number (rows_in p) ≡ Some r → number_in (rows_in p) r ≡ number
    own-was r at = row-number number (rows_in p) r (passes r at)

    own-is : (r : ℕ) → row_index number (rows_in p) ≡ Some r → number_in (rows_in c) r ≡ number
    own-is r at = row-number number (rows_in c) r (found_passes (is_row_of number (rows_in c)) (range_with_len 0 8) r (is.indices number ∙ at))

    either : (r : ℕ) → (row_index number (rows_in p) ≡ Some r) ⊎ (row_index number (rows_in p) ≢ Some r)
    either r = by (row_index number (rows_in p)) refl
      where
        no : None ≡ Some r → ⊥
        no same = cc

        by : (o : Option ℕ) → row_index number (rows_in p) ≡ o → (row_index number (rows_in p) ≡ Some r) ⊎ (row_index number (rows_in p) ≢ Some r)
        by None none = inr (λ at. no (sym none ∙ at))
        by (Some k) found = ⊎_elim (λ same. inl (found ∙ ap (λ (n : ℕ). Some n) same)) (λ other. inr (λ at. other (some_is k r (sym found ∙ at)))) (eq_cases k r)

    put-row : (n : List ℕ) (r : ℕ) → r < 8 → is_row_of n (rows_in c) r ≡ is_row_of n (rows_in p) r
    put-row n r below = ⊎_elim
        (λ at. let session = own-session r at in let named = own-is r at ∙ sym (own-was r at) in λ t. not (session t == 0) && pointwise nat_eq (named t) n)
        (λ other. let same = is.rows r below other in λ t. not ((same.1 t).session == 0) && pointwise nat_eq (same.0 t) n)
        (either r)

    put-taken : (r : ℕ) → row_index number (rows_in p) ≡ Some r → RowStands x (rows_in p) (last_kept p) r ⊎ Taken p r → Taken c r
    put-taken r at (inl stands) = record { number = number; whose = whose; now = inr (own-is r at); may = inl (subst (IsOneOf a b) (sym (own-was r at) ∙ stands.0) whose) }
    put-taken r at (inr t) = record { number = number; whose = whose; now = inr (own-is r at); may = t.may }

    put-same : (r : ℕ) → r < 8 → (session_in (rows_in c) r ≡ session_in (rows_in p) r) × (number_in (rows_in c) r ≡ number_in (rows_in p) r)
    put-same r below = ⊎_elim (λ at. (own-session r at, own-is r at ∙ sym (own-was r at))) (λ other. let same = is.rows r below other in (ap (λ (o : OwedRow). o.session) same.1, same.0)) (either r)

    pub goes-put : Goes c
    goes-put = subst (λ (n : ℕ). RowsGoOn (IsOneOf a b) x (rows_in c) n) (sym mark) (record {
      on = goes.on;
      each = λ r below. ⊎_elim (λ at. inr (put-taken r at (goes.each r below))) (λ other. let same = is.rows r below other in row-same (IsOneOf a b) x (rows_in p) (rows_in c) r (last_kept p) same.0 same.1 (goes.each r below)) (either r);
      once = λ n his. once-same (IsOneOf a b) x (rows_in p) (rows_in c) put-row n (goes.once n his);
      few = few-same (IsOneOf a b) x (rows_in p) (rows_in c) put-same goes.few;
    })

    pub mended-put : AreMended (IsOneOf a b) x (rows_in p) → AreMended (IsOneOf a b) x (rows_in c)
    mended-put m = λ r below. ⊎_elim (λ at. inr (put-taken r at (goes.each r below))) (λ other. let same = is.rows r below other in low-same (IsOneOf a b) x (rows_in p) (rows_in c) r same.0 same.1 (m r below)) (either r)

  -- where it has no row, and none is empty, no two rows were
  module _ (none : row_index number (rows_in p) ≡ None) (full : empty_index (rows_in p) ≡ None) where
    some : (r : ℕ) → r < 8 → session_in (rows_in p) r ≡ 0 → ⊥
    some r below empty = never (sym (zero_true (session_in (rows_in p) r) empty) ∙ find_none (λ (s : ℕ). session_in (rows_in p) s == 0) 0 8 r full (omega arith) (omega (arith, below)))

    -- one that was empty is the other number's
    its : (r : ℕ) → r < 8 → session_in (rows_in x) r ≡ 0 → (n : List ℕ) × IsOneOf a b n × (n ≢ number) × (is_row_of n (rows_in p) r ≡ true)
    its r below empty = by (goes.each r below)
      where
        named : (t : Taken p r) → number_in (rows_in p) r ≡ t.number → (n : List ℕ) × IsOneOf a b n × (n ≢ number) × (is_row_of n (rows_in p) r ≡ true)
        named t is =
            let there : is_row_of t.number (rows_in p) r ≡ true = row-there t.number (rows_in p) r (some r below) is in
            (t.number, t.whose, λ same. never (sym (subst (λ (n : List ℕ). is_row_of n (rows_in p) r ≡ true) same there) ∙ none-its none r below), there)

        by : RowStands x (rows_in p) (last_kept p) r ⊎ Taken p r → (n : List ℕ) × IsOneOf a b n × (n ≢ number) × (is_row_of n (rows_in p) r ≡ true)
        by (inl stands) = absurd (some r below (stands.1.session ∙ empty))
        by (inr t) = ⊎_elim (λ gone. absurd (some r below gone)) (λ is. named t is) t.now

    other-one : (n m : List ℕ) → IsOneOf a b n → IsOneOf a b m → n ≢ number → m ≢ number → n ≡ m
    other-one n m (inl one) (inl two) not_n not_m = list-is n m (sym one ∙ two)
    other-one n m (inr one) (inr two) not_n not_m = list-is n m (sym one ∙ two)
    other-one n m (inl one) (inr two) not_n not_m = absurd (⊎_elim (λ is. not_n (list-is n number (sym one ∙ is))) (λ is. not_m (list-is m number (sym two ∙ is))) whose)
    other-one n m (inr one) (inl two) not_n not_m = absurd (⊎_elim (λ is. not_m (list-is m number (sym two ∙ is))) (λ is. not_n (list-is n number (sym one ∙ is))) whose)

    one-empty : HasOneEmpty x
    one-empty = λ r s below few empty none_.
        let one = its r below empty in
        let two = its s few none_ in
        let there : is_row_of one.0 (rows_in p) s ≡ true = subst (λ (n : List ℕ). is_row_of n (rows_in p) s ≡ true) (other-one two.0 one.0 two.1 one.1 two.2 one.2) two.3 in
        ⊎_elim (λ same. same) (λ both. absurd (row-some one.0 (rows_in x) r both.0 empty)) (goes.once one.0 one.1 r s below few one.3 there)

  -- ITS ROW IS BEGUN, at each moment
  module _ (session : ℕ) (spared : Option (List ℕ)) (spare : (n : List ℕ) → spared ≡ Some n → IsOneOf a b n) (mark : last_kept c ≡ last_kept p) (is : IsRowBeginning number session spared p c) where
    abbrev k : ℕ
    k = (begun_is number spared (rows_in p)).0

    this : begun_index number spared (rows_in p) ≡ Some k
    this = (begun_is number spared (rows_in p)).1.0

    below_k : k < 8
    below_k = (begun_is number spared (rows_in p)).1.1.0

    from : (row_index number (rows_in p) ≡ Some k) ⊎ ((row_index number (rows_in p) ≡ None) × ((empty_index (rows_in p) ≡ Some k) ⊎ (empty_index (rows_in p) ≡ None)))
    from = begun-cases (row_index number (rows_in p)) (empty_index (rows_in p)) (least (rows_in p) (spared_index spared (rows_in p))) k this

    beside : (r : ℕ) → r < 8 → r ≢ k → (number_in (rows_in c) r ≡ number_in (rows_in p) r) × (row_in (rows_in c) r ≡ row_in (rows_in p) r)
    beside r below differ = is.rows r below (λ at. differ (some_is r k (sym at ∙ this)))

    begun-row : (n : List ℕ) (r : ℕ) → r < 8 → r ≢ k → is_row_of n (rows_in c) r ≡ is_row_of n (rows_in p) r
    begun-row n r below differ = let same = beside r below differ in λ t. not ((same.1 t).session == 0) && pointwise nat_eq (same.0 t) n

    -- it may be taken
    may : RowStands x (rows_in p) (last_kept p) k ⊎ Taken p k → IsOneOf a b (number_in (rows_in x) k) ⊎ ((session_in (rows_in x) k ≡ 0) ⊎ HasOneEmpty x)
    may (inr t) = t.may
    may (inl stands) = by from
      where
        by : (row_index number (rows_in p) ≡ Some k) ⊎ ((row_index number (rows_in p) ≡ None) × ((empty_index (rows_in p) ≡ Some k) ⊎ (empty_index (rows_in p) ≡ None))) → IsOneOf a b (number_in (rows_in x) k) ⊎ ((session_in (rows_in x) k ≡ 0) ⊎ HasOneEmpty x)
        by (inl own) = inl (subst (IsOneOf a b) (sym (row-number number (rows_in p) k (passes k own)) ∙ stands.0) whose)
        by (inr (none, inl empty)) = inr (inl (sym stands.1.session ∙ zero_of (session_in (rows_in p) k) (found_passes (λ (r : ℕ). session_in (rows_in p) r == 0) (range_with_len 0 8) k empty)))
        by (inr (none, inr full)) = inr (inr (one-empty none full))

    -- the row is as it was, or is taken, and no other number's
    own-row : (c ≡ p) ⊎ (Taken c k × ((n : List ℕ) → is_row_of n (rows_in c) k ≡ true → n ≡ number))
    own-row = by (is.own k this)
      where
        taken : (session_in (rows_in c) k ≡ 0) ⊎ (number_in (rows_in c) k ≡ number) → Taken c k
        taken now = record { number = number; whose = whose; now = now; may = may (goes.each k below_k) }

        by : (c ≡ p) ⊎ ((session_in (rows_in c) k ≡ 0) ⊎ IsTaken number session k p c) → (c ≡ p) ⊎ (Taken c k × ((n : List ℕ) → is_row_of n (rows_in c) k ≡ true → n ≡ number))
        by (inl same) = inl same
        by (inr (inl empty)) = inr (taken (inl empty), λ n his. absurd (row-some n (rows_in c) k his empty))
        by (inr (inr begun)) = inr (taken (inr begun.named), λ n his. sym (row-number n (rows_in c) k his) ∙ begun.named)

    -- where it has a row, that is its own
    own-there : (s : ℕ) → s < 8 → is_row_of number (rows_in p) s ≡ true → is_row_of number (rows_in p) k ≡ true
    own-there s few there = ⊎_elim (λ own. passes k own) (λ new. absurd (never (sym there ∙ none-its new.0 s few))) from

    abbrev AreOne : (n : List ℕ) → (r s : ℕ) → Type 0
    AreOne n r s = (r ≡ s) ⊎ ((is_row_of n (rows_in x) r ≡ true) × (is_row_of n (rows_in x) s ≡ true))

    module _ (his : (n : List ℕ) → is_row_of n (rows_in c) k ≡ true → n ≡ number) where
      with-own : (n : List ℕ) (s : ℕ) → s < 8 → s ≢ k → is_row_of n (rows_in c) k ≡ true → is_row_of n (rows_in c) s ≡ true → AreOne n k s
      with-own n s few differ here there =
          let named : n ≡ number = his n here in
          let now : is_row_of number (rows_in p) s ≡ true = subst (λ (m : List ℕ). is_row_of m (rows_in p) s ≡ true) named (sym (begun-row n s few differ) ∙ there) in
          subst (λ (m : List ℕ). AreOne m k s) (sym named) (goes.once number whose k s below_k few (own-there s few now) now)

      begun-once : (n : List ℕ) → IsOneOf a b n → HasOne n x (rows_in c)
      begun-once n one = λ r s below few here there. by r s below few here there (eq_cases r k) (eq_cases s k)
        where
          turned : (r s : ℕ) → AreOne n s r → AreOne n r s
          turned r s (inl same) = inl (sym same)
          turned r s (inr both) = inr (both.1, both.0)

          by : (r s : ℕ) → r < 8 → s < 8 → is_row_of n (rows_in c) r ≡ true → is_row_of n (rows_in c) s ≡ true → (r ≡ k) ⊎ (r ≢ k) → (s ≡ k) ⊎ (s ≢ k) → AreOne n r s
          by r s below few here there (inl first) (inl second) = inl (first ∙ sym second)
          by r s below few here there (inl first) (inr second) = subst (λ (q : ℕ). AreOne n q s) (sym first) (with-own n s few second (subst (λ (q : ℕ). is_row_of n (rows_in c) q ≡ true) first here) there)
          by r s below few here there (inr first) (inl second) = turned r s (subst (λ (q : ℕ). AreOne n q r) (sym second) (with-own n r below first (subst (λ (q : ℕ). is_row_of n (rows_in c) q ≡ true) second there) here))
          by r s below few here there (inr first) (inr second) = goes.once n one r s below few (sym (begun-row n r below first) ∙ here) (sym (begun-row n s few second) ∙ there)

    -- ---- which are lost

    abbrev Lost : List ℕ → ℕ → Type 0
    Lost y r = IsLost (IsOneOf a b) x (rows_in y) r

    abbrev Gone : List ℕ → ℕ → Type 0
    Gone y r = IsGone (IsOneOf a b) x (rows_in y) r

    -- it has no row, none is empty, and the row that it takes stands
    abbrev IsFull : Type 0
    IsFull = (row_index number (rows_in p) ≡ None) × (empty_index (rows_in p) ≡ None) × (session_in (rows_in p) k ≡ session_in (rows_in x) k)

    lost-before : (r : ℕ) → r ≢ k → Lost c r → Lost p r
    lost-before r differ l = let same = beside r l.below differ in lost-same (IsOneOf a b) x (rows_in p) (rows_in c) r (ap (λ (o : OwedRow). o.session) same.1) same.0 l

    -- this row was lost before, or it is taken where none is empty
    lost-now : Lost c k → Lost p k ⊎ IsFull
    lost-now l = by (goes.each k below_k)
      where
        full-by : RowStands x (rows_in p) (last_kept p) k → (row_index number (rows_in p) ≡ Some k) ⊎ ((row_index number (rows_in p) ≡ None) × ((empty_index (rows_in p) ≡ Some k) ⊎ (empty_index (rows_in p) ≡ None))) → IsFull
        full-by stands (inl own) = absurd (l.others (subst (IsOneOf a b) (sym (row-number number (rows_in p) k (passes k own)) ∙ stands.0) whose))
        full-by stands (inr (none, inl empty)) = absurd (l.filled (sym stands.1.session ∙ zero_of (session_in (rows_in p) k) (found_passes (λ (r : ℕ). session_in (rows_in p) r == 0) (range_with_len 0 8) k empty)))
        full-by stands (inr (none, inr full)) = (none, full, stands.1.session)

        by : RowStands x (rows_in p) (last_kept p) k ⊎ Taken p k → Lost p k ⊎ IsFull
        by (inl stands) = inr (full-by stands from)
        by (inr t) = inl (record { below = below_k; filled = l.filled; others = l.others; taken = t })

    -- then two that were lost are one: each is the other number's
    lost-its : IsFull → (r : ℕ) → Lost p r → (n : List ℕ) × IsOneOf a b n × (n ≢ number) × (is_row_of n (rows_in p) r ≡ true)
    lost-its new r l = ⊎_elim (λ gone. absurd (some new.0 new.1 r l.below gone)) (λ is. named is) l.taken.now
      where
        named : number_in (rows_in p) r ≡ l.taken.number → (n : List ℕ) × IsOneOf a b n × (n ≢ number) × (is_row_of n (rows_in p) r ≡ true)
        named is =
            let there : is_row_of l.taken.number (rows_in p) r ≡ true = row-there l.taken.number (rows_in p) r (some new.0 new.1 r l.below) is in
            (l.taken.number, l.taken.whose, λ same. never (sym (subst (λ (n : List ℕ). is_row_of n (rows_in p) r ≡ true) same there) ∙ none-its new.0 r l.below), there)

    -- and one that was empty
    gone-its : IsFull → (r : ℕ) → Gone p r → (n : List ℕ) × IsOneOf a b n × (n ≢ number) × (is_row_of n (rows_in p) r ≡ true)
    gone-its new r (inl empty) = its new.0 new.1 r empty.0 empty.1
    gone-its new r (inr l) = lost-its new r l

    gone-below : (r : ℕ) → Gone p r → r < 8
    gone-below r (inl empty) = empty.0
    gone-below r (inr l) = l.below

    -- at the start it was none's of these
    gone-none : (n : List ℕ) (r : ℕ) → IsOneOf a b n → Gone p r → is_row_of n (rows_in x) r ≡ true → ⊥
    gone-none n r one (inl empty) his = row-some n (rows_in x) r his empty.1
    gone-none n r one (inr l) his = l.others (subst (IsOneOf a b) (sym (row-number n (rows_in x) r his)) one)

    gone-one : IsFull → (r s : ℕ) → Gone p r → Gone p s → r ≡ s
    gone-one new r s l m =
        let one = gone-its new r l in
        let two = gone-its new s m in
        let there : is_row_of one.0 (rows_in p) s ≡ true = subst (λ (n : List ℕ). is_row_of n (rows_in p) s ≡ true) (other-one new.0 new.1 two.0 one.0 two.1 one.1 two.2 one.2) two.3 in
        ⊎_elim (λ same. same) (λ both. absurd (gone-none one.0 r one.1 l both.0)) (goes.once one.0 one.1 r s (gone-below r l) (gone-below s m) one.3 there)

    gone-two : IsFull → (r : ℕ) → Gone p r → HasTwo (IsOneOf a b)
    gone-two new r l = let one = gone-its new r l in record { first = one.0; second = number; one = one.1; other = whose; differ = one.2 }

    gone-before : (r : ℕ) → r ≢ k → Gone c r → Gone p r
    gone-before r differ (inl empty) = inl empty
    gone-before r differ (inr l) = inr (lost-before r differ l)

    lost-here : (q : ℕ) → q ≡ k → Lost c q → Lost p q ⊎ IsFull
    lost-here q is lost = ⊎_elim (λ before. inl (subst (Lost p) (sym is) before)) (λ new. inr new) (lost-now (subst (Lost c) is lost))

    gone-here : (q : ℕ) → q ≡ k → Gone c q → Gone p q ⊎ IsFull
    gone-here q is (inl empty) = inl (inl empty)
    gone-here q is (inr l) = ⊎_elim (λ before. inl (inr before)) (λ new. inr new) (lost-here q is l)

    begun-three : (r s t : ℕ) → Lost c r → Gone c s → Gone c t → (r ≡ k) ⊎ (r ≢ k) → (s ≡ k) ⊎ (s ≢ k) → (t ≡ k) ⊎ (t ≢ k) → (r ≡ s) ⊎ ((r ≡ t) ⊎ (s ≡ t))
    begun-three r s t l m n (inl one) (inl two) third = inl (one ∙ sym two)
    begun-three r s t l m n (inl one) (inr two) (inl three) = inr (inl (one ∙ sym three))
    begun-three r s t l m n (inr one) (inl two) (inl three) = inr (inr (two ∙ sym three))
    begun-three r s t l m n (inl one) (inr two) (inr three) =
        let at_s = gone-before s two m in
        let at_t = gone-before t three n in
        ⊎_elim (λ before. goes.few.three r s t before at_s at_t) (λ new. inr (inr (gone-one new s t at_s at_t))) (lost-here r one l)
    begun-three r s t l m n (inr one) (inl two) (inr three) =
        let at_r = lost-before r one l in
        let at_t = gone-before t three n in
        ⊎_elim (λ before. goes.few.three r s t at_r before at_t) (λ new. inr (inl (gone-one new r t (inr at_r) at_t))) (gone-here s two m)
    begun-three r s t l m n (inr one) (inr two) (inl three) =
        let at_r = lost-before r one l in
        let at_s = gone-before s two m in
        ⊎_elim (λ before. goes.few.three r s t at_r at_s before) (λ new. inl (gone-one new r s (inr at_r) at_s)) (gone-here t three n)
    begun-three r s t l m n (inr one) (inr two) (inr three) = goes.few.three r s t (lost-before r one l) (gone-before s two m) (gone-before t three n)

    begun-two : (r s : ℕ) → Lost c r → Gone c s → (r ≡ k) ⊎ (r ≢ k) → (s ≡ k) ⊎ (s ≢ k) → (r ≡ s) ⊎ HasTwo (IsOneOf a b)
    begun-two r s l m (inl one) (inl two) = inl (one ∙ sym two)
    begun-two r s l m (inl one) (inr two) =
        let at_s = gone-before s two m in
        ⊎_elim (λ before. goes.few.two r s before at_s) (λ new. inr (gone-two new s at_s)) (lost-here r one l)
    begun-two r s l m (inr one) (inl two) =
        let at_r = lost-before r one l in
        ⊎_elim (λ before. goes.few.two r s at_r before) (λ new. inr (gone-two new r (inr at_r))) (gone-here s two m)
    begun-two r s l m (inr one) (inr two) = goes.few.two r s (lost-before r one l) (gone-before s two m)

    -- then it is the one with the least session time, and the spared row is one's of these
    spared-not : (s : ℕ) → (IsOneOf a b (number_in (rows_in p) s) → ⊥) → is_this_row (spared_index spared (rows_in p)) s ≡ false
    spared-not s others = by spared refl
      where
        not-this : (n : List ℕ) → spared ≡ Some n → (q : Option ℕ) → row_index n (rows_in p) ≡ q → is_this_row q s ≡ false
        not-this n told None none = refl
        not-this n told (Some t) at = here (t == s) refl
          where
            here : (d : Bool) → (t == s) ≡ d → d ≡ false
            here true same =
                let this_one : is_row_of n (rows_in p) s ≡ true = found_passes (is_row_of n (rows_in p)) (range_with_len 0 8) s (at ∙ ap (λ (m : ℕ). Some m) (same_of t s same)) in
                absurd (others (subst (IsOneOf a b) (sym (row-number n (rows_in p) s this_one)) (spare n told)))
            here false other = refl

        by : (o : Option (List ℕ)) → spared ≡ o → is_this_row (spared_index o (rows_in p)) s ≡ false
        by None none = refl
        by (Some n) told = not-this n told (row_index n (rows_in p)) refl

    least-new : IsFull → (s : ℕ) → s < 8 → (IsOneOf a b (number_in (rows_in p) s) → ⊥) → session_in (rows_in x) k ≤ session_in (rows_in p) s
    least-new new s low others =
        let le = least-is (rows_in p) (spared_index spared (rows_in p)) k (least-of (row_index number (rows_in p)) (empty_index (rows_in p)) (least (rows_in p) (spared_index spared (rows_in p))) k this new.0 new.1) s low (spared-not s others) in
        subst (λ (t : ℕ). t ≤ session_in (rows_in p) s) new.2 le

    begun-least : Taken c k → (r s : ℕ) → Lost c r → s < 8 → IsOthers (IsOneOf a b) (rows_in c) s → session_in (rows_in x) r ≤ session_in (rows_in c) s
    begun-least t r s l low o = ⊎_elim (λ at. absurd (not-taken at)) (λ differ. beside-it differ) (eq_cases s k)
      where
        not-taken : s ≡ k → ⊥
        not-taken at = ⊎_elim (λ empty. o.0 (subst (λ (m : ℕ). session_in (rows_in c) m ≡ 0) (sym at) empty)) (λ his. o.1 (subst (λ (m : ℕ). IsOneOf a b (number_in (rows_in c) m)) (sym at) (subst (IsOneOf a b) (sym his) t.whose))) t.now

        beside-it : s ≢ k → session_in (rows_in x) r ≤ session_in (rows_in c) s
        beside-it differ =
            let same = beside s low differ in
            let session : session_in (rows_in c) s ≡ session_in (rows_in p) s = ap (λ (o : OwedRow). o.session) same.1 in
            let was = others-same (IsOneOf a b) x (rows_in p) (rows_in c) s session same.0 o in
            subst (λ (m : ℕ). session_in (rows_in x) r ≤ m) (sym session) (⊎_elim
            (λ at. ⊎_elim (λ before. goes.few.least r s before low was) (λ new. subst (λ (m : ℕ). session_in (rows_in x) m ≤ session_in (rows_in p) s) (sym at) (least-new new s low was.1)) (lost-here r at l))
            (λ apart. goes.few.least r s (lost-before r apart l) low was) (eq_cases r k))

    begun-few : Taken c k → LoseFew (IsOneOf a b) x (rows_in c)
    begun-few taken = record {
      three = λ r s t l m n. begun-three r s t l m n (eq_cases r k) (eq_cases s k) (eq_cases t k);
      two = λ r s l m. begun-two r s l m (eq_cases r k) (eq_cases s k);
      least = begun-least taken;
    }

    pub goes-begun : Goes c
    goes-begun = ⊎_elim (λ same. subst Goes (sym same) goes) (λ own. subst (λ (n : ℕ). RowsGoOn (IsOneOf a b) x (rows_in c) n) (sym mark) (record {
      on = goes.on;
      each = λ r below. ⊎_elim (λ is_k. inr (subst (Taken c) (sym is_k) own.0)) (λ other. let same = beside r below other in row-same (IsOneOf a b) x (rows_in p) (rows_in c) r (last_kept p) same.0 same.1 (goes.each r below)) (eq_cases r k);
      once = begun-once own.1;
      few = begun-few own.0;
    })) own-row

    pub mended-begun : AreMended (IsOneOf a b) x (rows_in p) → AreMended (IsOneOf a b) x (rows_in c)
    mended-begun m = ⊎_elim (λ same. subst (λ (y : List ℕ). AreMended (IsOneOf a b) x (rows_in y)) (sym same) m)
        (λ own. λ r below. ⊎_elim (λ is_k. inr (subst (Taken c) (sym is_k) own.0)) (λ other. let same = beside r below other in low-same (IsOneOf a b) x (rows_in p) (rows_in c) r same.0 same.1 (m r below)) (eq_cases r k))
        own-row

-- ---- for the same numbers, told in another way
pub goes-for : (mine his : List ℕ → Type 0) (x rows : List ℕ) (last : ℕ) → ((n : List ℕ) → mine n → his n) → ((n : List ℕ) → his n → mine n) → RowsGoOn mine x rows last → RowsGoOn his x rows last
goes-for mine his x rows last one other goes = record {
  on = goes.on;
  each = λ r below. ⊎_elim (λ stands. inl stands) (λ t. inr (by r t)) (goes.each r below);
  once = λ n is. goes.once n (other n is);
  few = record {
    three = λ r s t l m n. goes.few.three r s t (back r l) (gone s m) (gone t n);
    two = λ r s l m. ⊎_elim (λ same. inl same) (λ t. inr (as_his t)) (goes.few.two r s (back r l) (gone s m));
    least = λ r s l low o. goes.few.least r s (back r l) low (o.0, λ is. o.1 (one (number_in rows s) is));
  };
}
  where
    back : (r : ℕ) → IsLost his x rows r → IsLost mine x rows r
    back r l = record {
      below = l.below;
      filled = l.filled;
      others = λ is. l.others (one (number_in (rows_in x) r) is);
      taken = record { number = l.taken.number; whose = other l.taken.number l.taken.whose; now = l.taken.now; may = ⊎_elim (λ own. inl (other (number_in (rows_in x) r) own)) (λ free. inr free) l.taken.may };
    }

    gone : (r : ℕ) → IsGone his x rows r → IsGone mine x rows r
    gone r (inl empty) = inl empty
    gone r (inr l) = inr (back r l)

    as_his : HasTwo mine → HasTwo his
    as_his t = record { first = t.first; second = t.second; one = one t.first t.one; other = one t.second t.other; differ = t.differ }

    by : (r : ℕ) → IsTakenFor mine x rows r → IsTakenFor his x rows r
    by r t = record { number = t.number; whose = one t.number t.whose; now = t.now; may = ⊎_elim (λ own. inl (one (number_in (rows_in x) r) own)) (λ free. inr free) t.may }

-- ---- what is owed

le_true : (a b : ℕ) → a ≤ b → nat_le a b ≡ true
le_true a b is = grind (arith, nat_tests)

counts_same : (session after kept now m : ℕ) → m ≤ kept → kept ≤ now → counts session after now m ≡ counts session after kept m
counts_same session after kept now m low on = ap (λ (b : Bool). nat_le (session / 60) m && (nat_lt after m && b)) (le_true m now (omega (arith, low, on)) ∙ sym (le_true m kept low))

counted_same : (session after kept now : ℕ) → kept ≤ now → (es : List Entry) → AllByRecursion (λ (e : Entry). e.minute ≤ kept) es → counted session after now es ≡ counted session after kept es
counted_same session after kept now on [] low = refl
counted_same session after kept now on (e ∷ es) low =
    λ t. cond (counts_same session after kept now e.minute low.0 on t) (e ∷ counted_same session after kept now on es low.1 t) (counted_same session after kept now on es low.1 t)

entries_low : (kept i : ℕ) (cells : List Cell) → AreLow kept cells → AllByRecursion (λ (e : Entry). e.minute ≤ kept) (cell_entries i cells)
entries_low kept i [] low = tt
entries_low kept i (c ∷ cells) low = by (holds i c) (entries_low kept (i + 1) cells low.1)
  where
    by : (h : Bool) → AllByRecursion (λ (e : Entry). e.minute ≤ kept) (cell_entries (i + 1) cells) → AllByRecursion (λ (e : Entry). e.minute ≤ kept) (cond h (entry_of c ∷ cell_entries (i + 1) cells) (cell_entries (i + 1) cells))
    by true rest = (low.0, rest)
    by false rest = rest

-- a row that stands owes what it owed
row-owes : (first last : ℕ) → first ≤ last → (was now : OwedRow) → IsStanding first last was now → (session after : ℕ) → owed_of session after last (Some now) ≡ owed_of session after first (Some was)
row-owes first last on was now s session after = λ t. cond (s.session t == session) (in_order ((marks ∙ cells) t)) []
  where
    marks : counted session after last (cell_entries 0 now.cells) ≡ counted session after first (cell_entries 0 now.cells)
    marks = ⊎_elim
        (λ same. ap (λ (k : ℕ). counted session after k (cell_entries 0 now.cells)) same)
        (λ low. counted_same session after first last on (cell_entries 0 now.cells) (entries_low first 0 now.cells low))
        s.low

    cells : counted session after first (cell_entries 0 now.cells) ≡ counted session after first (cell_entries 0 was.cells)
    cells = all_kept (λ (e : Entry). counts session after first e.minute) first (λ e late. not_counted session after first e.minute late) 0 was.cells now.cells s.cells

module _ (mine : List ℕ → Type 0) (x y : List ℕ) (goes : RowsGoOn mine x (rows_in y) (last_kept y)) (n : List ℕ) where
  stands-its : (r : ℕ) → RowStands x (rows_in y) (last_kept y) r → is_row_of n (rows_in y) r ≡ is_row_of n (rows_in x) r
  stands-its r stands = λ t. not (stands.1.session t == 0) && pointwise nat_eq (stands.0 t) n

  no-row : row_index n (rows_in x) ≡ None → row_index n (rows_in y) ≡ None → (session after : ℕ) → owed_to y n session after ≡ owed_to x n session after
  unfolding owed_to
  no-row was now session after =
      ap (λ (o : Option ℕ). owed_of session after (last_kept y) (option_map (row_in (rows_in y)) o)) now
      ∙ sym (ap (λ (o : Option ℕ). owed_of session after (last_kept x) (option_map (row_in (rows_in x)) o)) was)

  same-owed : (r : ℕ) → row_index n (rows_in x) ≡ Some r → row_index n (rows_in y) ≡ Some r → RowStands x (rows_in y) (last_kept y) r → (session after : ℕ) → owed_to y n session after ≡ owed_to x n session after
  unfolding owed_to
  same-owed r was now stands session after =
      ap (λ (o : Option ℕ). owed_of session after (last_kept y) (option_map (row_in (rows_in y)) o)) now
      ∙ row-owes (last_kept x) (last_kept y) goes.on (row_in (rows_in x) r) (row_in (rows_in y) r) stands.1 session after
      ∙ sym (ap (λ (o : Option ℕ). owed_of session after (last_kept x) (option_map (row_in (rows_in x)) o)) was)

  -- A NUMBER THAT IS NONE OF THESE is owed what was owed to it, or has lost its row
  module _ (other : mine n → ⊥) where
    taken-none : (r : ℕ) → IsTakenFor mine x (rows_in y) r → is_row_of n (rows_in y) r ≡ false
    taken-none r t = ⊎_elim (λ empty. empty-none n (rows_in y) r empty) (λ named. row-apart n (rows_in y) r (λ same. other (subst mine (sym named ∙ same) t.whose))) t.now

    none-still : (r : ℕ) → r < 8 → is_row_of n (rows_in x) r ≡ false → is_row_of n (rows_in y) r ≡ false
    none-still r below none = ⊎_elim (λ stands. stands-its r stands ∙ none) (λ t. taken-none r t) (goes.each r below)

    pub goes-owed : IsOwedStill x y n ⊎ HasLostRow mine x y n
    goes-owed = by (row_index n (rows_in x)) refl
      where
        none-now : row_index n (rows_in x) ≡ None → row_index n (rows_in y) ≡ None
        none-now none = find_below (is_row_of n (rows_in y)) (is_row_of n (rows_in x)) 0 8
            (λ r below. let was = find_none (is_row_of n (rows_in x)) 0 8 r none (omega arith) below in none-still r (omega (arith, below)) was ∙ sym was) ∙ none

        of-row : (r : ℕ) → r < 8 → row_index n (rows_in x) ≡ Some r → RowStands x (rows_in y) (last_kept y) r ⊎ IsTakenFor mine x (rows_in y) r → IsOwedStill x y n ⊎ HasLostRow mine x y n
        of-row r below was (inl stands) =
            let here = stands-its r stands ∙ found_passes (is_row_of n (rows_in x)) (range_with_len 0 8) r was in
            let now : row_index n (rows_in y) ≡ Some r = find_at (is_row_of n (rows_in y)) 0 8 r (omega arith) (omega (arith, below))
            (λ s less. none-still s (omega (arith, less, below)) (find_before (is_row_of n (rows_in x)) 0 8 r s was (omega arith) less)) here in
            inl (λ session after. same-owed r was now stands session after)
        of-row r below was (inr t) =
            let here = found_passes (is_row_of n (rows_in x)) (range_with_len 0 8) r was in
            inr (record {
              row = r;
              below = below;
              was = here;
              taken = t;
              full = ⊎_elim (λ own. absurd (other (subst mine (row-number n (rows_in x) r here) own))) (⊎_elim (λ empty. absurd (row-some n (rows_in x) r here empty)) (λ full. full)) t.may;
            })

        by : (o : Option ℕ) → row_index n (rows_in x) ≡ o → IsOwedStill x y n ⊎ HasLostRow mine x y n
        by None none = inl (λ session after. no-row none (none-now none) session after)
        by (Some r) was = let below = found_below (is_row_of n (rows_in x)) 0 8 r was in of-row r (omega (arith, below)) was (goes.each r (omega (arith, below)))

  -- WHERE THERE IS NONE OF THESE, what is owed to any number is what was owed to it
  module _ (none : (m : List ℕ) → mine m → ⊥) where
    each-stands : (r : ℕ) → r < 8 → RowStands x (rows_in y) (last_kept y) r
    each-stands r below = ⊎_elim (λ stands. stands) (λ t. absurd (none t.number t.whose)) (goes.each r below)

    pub all-owed : IsOwedStill x y n
    all-owed = by (row_index n (rows_in x)) refl
      where
        same : row_index n (rows_in y) ≡ row_index n (rows_in x)
        same = find_below (is_row_of n (rows_in y)) (is_row_of n (rows_in x)) 0 8 (λ r below. stands-its r (each-stands r (omega (arith, below))))

        by : (o : Option ℕ) → row_index n (rows_in x) ≡ o → IsOwedStill x y n
        by None was = λ session after. no-row was (same ∙ was) session after
        by (Some r) was = let below = found_below (is_row_of n (rows_in x)) 0 8 r was in λ session after. same-owed r was (same ∙ was) (each-stands r (omega (arith, below))) session after
