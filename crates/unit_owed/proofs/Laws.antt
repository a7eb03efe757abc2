-- What is owed depends on the rows and on the last-kept minute alone.
use Rattle.std.proofs.Common.{◌≡◌, ℕ, List, [], Option, Some, option_map, refl, ◌∙◌, ap}
use Rattle.unit_owed.specs.Rows.{emptied, begun_index, IsRowBegun}
use Rattle.unit_owed.specs.Owed.{OwedRow, rows_in, row_in, row_index, row_of, owed_of, owed_to, row_view, seen_row}
use Rattle.unit_model.specs.Image.{last_kept}

pub owed_by_rows : (x c number : List ℕ) (session after : ℕ) → rows_in c ≡ rows_in x → last_kept c ≡ last_kept x → owed_to c number session after ≡ owed_to x number session after
unfolding owed_to
owed_by_rows x c number session after rows kept =
    λ t. owed_of session after (kept t) (option_map (row_in (rows t)) (row_index number (rows t)))

pub view_by_rows : (x c number : List ℕ) → rows_in c ≡ rows_in x → row_view number c ≡ row_view number x
unfolding row_view
view_by_rows x c number rows =
    λ t. seen_row (option_map (row_in (rows t)) (row_index number (rows t)))

-- a number whose row is the same is seen the same
pub view_by_row : (x c number : List ℕ) → row_of number c ≡ row_of number x → row_view number c ≡ row_view number x
unfolding row_view
view_by_row x c number same = ap seen_row same

-- a row that was begun is seen with its session and without an entry
pub begun_view : (number : List ℕ) (session : ℕ) (spared : Option (List ℕ)) (x y : List ℕ) → IsRowBegun number session spared x y → (r : ℕ) → begun_index number spared (rows_in x) ≡ Some r
    → row_view number y ≡ record { session = session; cells = [] }
unfolding row_view
begun_view number session spared x y begun r is =
    ap (λ (o : Option ℕ). seen_row (option_map (row_in (rows_in y)) o)) (begun.index ∙ is) ∙ ap (λ (row : OwedRow). seen_row (Some row)) (begun.row r is).row ∙ none
  where
    none : seen_row (Some (emptied session (row_in (rows_in x) r))) ≡ record { session = session; cells = [] }
    none = refl
