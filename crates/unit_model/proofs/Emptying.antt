-- Cells that are emptied, one after the other.
use Rattle.std.proofs.Common.{◌≡◌, ◌≢◌, ⊎_elim, ℕ, zero, suc, ◌+◌, ◌*◌, ◌/◌, ◌<◌, ◌≤◌, Bool, true, false, cond, List, length, replicate, refl, sym, ◌∙◌, ap, arith, add-one}
use Rattle.std.specs.Prelude.{nat_lt}
use Rattle.gated_ring.specs.card_layout.Images.{big_number}
use Rattle.std.proofs.lemmas.Bool.{cases_lt}
use Rattle.gated_ring.specs.tach_media.Medium.{put, SameOutside}
use Rattle.gated_ring.proofs.tach_media.Images.{put_outside, part_before, part_after, part_put, outside_same, outside_wider, outside_then}
use Rattle.unit_model.specs.declared.layout.TheConstants.{IMAGE_SIZE, OWED, OWED_ROW_SIZE, SPARE_ROWS}
use Rattle.unit_model.specs.Decoding.{cell_place, cell_minute, cell_word}
use Rattle.unit_model.specs.Cells.{row_head, minute_kept, cells_emptied, cell_emptied}
use Rattle.unit_model.proofs.Numbers.{number_before, number_after}

-- one cell lies behind another
cell_order : (m n : ℕ) → m < n → cell_place m + 6 ≤ cell_place n
cell_order m n less = omega arith

cell_last : (n : ℕ) → n < 32 → cell_place n + 6 ≤ SPARE_ROWS.place
cell_last n below = omega arith

-- a cell is emptied
module _ (n : ℕ) (below : n < 32) (y : List ℕ) (sized : length y ≡ IMAGE_SIZE) where
  abbrev c : List ℕ
  c = put (cell_place n) (replicate 4 0) y

  pub cell_outside : SameOutside (cell_place n) 4 y c
  cell_outside = put_outside (cell_place n) (replicate 4 0) y (omega (arith, cell_last n below, sized))

  cell_here : cell_minute c n ≡ 0
  cell_here = ap (big_number 4) (part_put (cell_place n) (replicate 4 0) y (omega (arith, cell_last n below, sized)))

  cell_else : (m : ℕ) → m ≢ n → cell_minute c m ≡ cell_minute y m
  cell_else m other = ⊎_elim
      (λ less. number_before (cell_place n) 4 (cell_place m) 4 y c cell_outside (omega (arith, cell_order m n less)))
      (λ more. let greater : n < m = omega (arith, more, other) in number_after (cell_place n) 4 (cell_place m) 4 y c cell_outside (omega (arith, cell_order n m greater)))
      (cases_lt m n)

  cell_words : (m : ℕ) → cell_word c m ≡ cell_word y m
  cell_words m = ⊎_elim
      (λ less. number_before (cell_place n) 4 (cell_place m + 4) 2 y c cell_outside (omega (arith, cell_order m n less)))
      (λ more. number_after (cell_place n) 4 (cell_place m + 4) 2 y c cell_outside (behind more))
      (cases_lt m n)
    where
      behind : n ≤ m → cell_place n + 4 ≤ cell_place m + 4
      behind more = ⊎_elim (λ less. omega (arith, cell_order n m less)) (λ same. let is : m ≡ n = omega (arith, more, same) in omega (arith, ap cell_place is)) (cases_lt n m)

  cell_heads : (r : ℕ) → row_head c r ≡ row_head y r
  cell_heads r = ⊎_elim
      (λ less. part_after (cell_place n) 4 (OWED.place + r * OWED_ROW_SIZE) 24 y c cell_outside (omega (arith, less)))
      (λ more. part_before (cell_place n) 4 (OWED.place + r * OWED_ROW_SIZE) 24 y c cell_outside (omega (arith, more)))
      (cases_lt (n / 4) r)

module _ (kept : ℕ) (x : List ℕ) (sized : length x ≡ IMAGE_SIZE) where
  -- the first n cells are emptied where they are later
  pub record IsEmptied (n : ℕ) (c : List ℕ) : Type 0 where
    pub outside : SameOutside OWED.place OWED.size x c
    pub heads : (r : ℕ) → row_head c r ≡ row_head x r
    pub words : (m : ℕ) → cell_word c m ≡ cell_word x m
    pub done : (m : ℕ) → m < n → cell_minute c m ≡ minute_kept kept (cell_minute x m)
    pub left : (m : ℕ) → n ≤ m → cell_minute c m ≡ cell_minute x m

  kept_here : (b : Bool) (minute : ℕ) → nat_lt kept minute ≡ b → minute_kept kept minute ≡ cond b 0 minute
  kept_here b minute is = ap (λ (t : Bool). cond t 0 minute) is

  one_more : (n : ℕ) → n < 32 → (y : List ℕ) → IsEmptied n y → (b : Bool) → nat_lt kept (cell_minute y n) ≡ b → IsEmptied (suc n) (cond b (put (cell_place n) (replicate 4 0) y) y)
  one_more n below y was true is =
      let y_sized : length y ≡ IMAGE_SIZE = was.outside.same_length ∙ sized in
      let same = cell_outside n below y y_sized in
      let c = put (cell_place n) (replicate 4 0) y in
      let test : nat_lt kept (cell_minute x n) ≡ true = ap (nat_lt kept) (sym (was.left n (omega arith))) ∙ is in
      record {
        outside = outside_then OWED.place OWED.size x y c was.outside (outside_wider OWED.place OWED.size (cell_place n) 4 y c same (omega arith) (omega (arith, cell_last n below)));
        heads = λ r. cell_heads n below y y_sized r ∙ was.heads r;
        words = λ m. cell_words n below y y_sized m ∙ was.words m;
        done = λ m less. ⊎_elim
            (λ before. cell_else n below y y_sized m (λ same_cell. absurd (omega (arith, before, same_cell))) ∙ was.done m before)
            (λ here. let at : m ≡ n = omega (arith, less, here) in
            ap (cell_minute c) at ∙ cell_here n below y y_sized ∙ sym (kept_here true (cell_minute x n) test) ∙ ap (λ (k : ℕ). minute_kept kept (cell_minute x k)) (sym at))
            (cases_lt m n);
        left = λ m more. cell_else n below y y_sized m (λ same_cell. absurd (omega (arith, more, same_cell))) ∙ was.left m (omega (arith, more));
      }
  one_more n below y was false is =
      let test : nat_lt kept (cell_minute x n) ≡ false = ap (nat_lt kept) (sym (was.left n (omega arith))) ∙ is in
      record {
        outside = was.outside;
        heads = was.heads;
        words = was.words;
        done = λ m less. ⊎_elim
            (λ before. was.done m before)
            (λ here. let at : m ≡ n = omega (arith, less, here) in
            was.left m here ∙ ap (cell_minute x) at ∙ sym (kept_here false (cell_minute x n) test) ∙ ap (λ (k : ℕ). minute_kept kept (cell_minute x k)) (sym at))
            (cases_lt m n);
        left = λ m more. was.left m (omega (arith, more));
      }

  pub emptied : (n : ℕ) → n ≤ 32 → IsEmptied n (cells_emptied kept n x)
  unfolding cells_emptied
  emptied zero le = record { outside = outside_same OWED.place OWED.size x; heads = λ r. refl; words = λ m. refl; done = λ m less. absurd (omega (arith, less)); left = λ m more. refl }
  emptied (suc n) le = one_more n (omega (arith, le)) (cells_emptied kept n x) (emptied n (omega (arith, le))) (nat_lt kept (cell_minute (cells_emptied kept n x) n)) refl

pub cells_none : (kept : ℕ) (x : List ℕ) → cells_emptied kept 0 x ≡ x
unfolding cells_emptied
cells_none kept x = refl

pub cells_more : (kept n : ℕ) (x : List ℕ) → cells_emptied kept (n + 1) x ≡ cell_emptied kept n (cells_emptied kept n x)
unfolding cells_emptied
cells_more kept n x = ap (λ (m : ℕ). cells_emptied kept m x) (add-one n)
