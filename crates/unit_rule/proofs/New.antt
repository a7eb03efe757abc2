-- A new unit is seen with no day, no minute and no row, and owes nothing.
use Rattle.std.proofs.Common.{◌≡◌, ℕ, None, List, [], option_map, length, refl, ◌∙◌, ap, arith}
use Rattle.unit_minutes.specs.unit_model.declared.layout.TheConstants.{OWED}
use Rattle.unit_minutes.specs.unit_model.Image.{last_kept}
use Rattle.unit_minutes.specs.unit_model.NewImage.{zeros, new_image}
use Rattle.unit_minutes.proofs.unit_model.New.{new_zeros, new_kept, new_recorded}
use Rattle.unit_minutes.specs.unit_owed.Owed.{rows_in, row_in, row_index, row_of, owed_of, owed_to, row_view, seen_row}
use Rattle.safety_model.specs.device_rule.Views.{unit_view}

-- in rows of zeros no row has a session
no_row : (number : List ℕ) → row_index number (zeros OWED.size) ≡ None
unfolding zeros
no_row number = refl

module _ (vin registration : List ℕ) (limit : ℕ) (vin_long : length vin ≡ 17) (registration_long : length registration ≡ 15) where
  abbrev x : List ℕ
  x = new_image vin registration limit

  rows_are : rows_in x ≡ zeros OWED.size
  rows_are = new_zeros vin registration limit vin_long registration_long OWED.place OWED.size (omega arith) (omega arith)

  none : (number : List ℕ) → row_of number x ≡ None
  none number = ap (λ (rows : List ℕ). option_map (row_in rows) (row_index number rows)) rows_are ∙ ap (option_map (row_in (zeros OWED.size))) (no_row number)

  seen : (number : List ℕ) → row_view number x ≡ record { session = 0; cells = [] }
  unfolding row_view
  seen number = ap seen_row (none number)

  pub new_owes : (number : List ℕ) (session after : ℕ) → owed_to x number session after ≡ []
  unfolding owed_to
  new_owes number session after = ap (owed_of session after (last_kept x)) (none number)

  pub new_seen : (a b : List ℕ) → unit_view a b x ≡ record { days = []; last = 0; row_a = record { session = 0; cells = [] }; row_b = record { session = 0; cells = [] } }
  unfolding unit_view
  new_seen a b = λ t. record {
    days = new_recorded vin registration limit vin_long registration_long t;
    last = new_kept vin registration limit vin_long registration_long t;
    row_a = seen a t;
    row_b = seen b t;
  }
