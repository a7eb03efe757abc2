-- Where the files lie that are judged, by the sizes of a card.
use Rattle.std.proofs.Common.{◌≡◌, ◌+◌, ◌-◌, ◌≤◌, ℕ, List, [], ◌∷◌, ◌++◌, Some, None, refl, ◌∙◌, ap, subst, arith}
use Rattle.card_layout.specs.declared.files.Application.{Application}
use Rattle.card_layout.specs.declared.files.Range.{Range}
use Rattle.card_layout.specs.Application.{IsApplication}
use Rattle.card_layout.specs.Files.{files_of, place_of, size_of, image_size_of}
use Rattle.card_layout.proofs.Sizes.{largest_image}
use Rattle.gated_ring.specs.Ring.{IsNewest, entry_at, size_of as ring_size}
use Rattle.card_files.specs.Vehicles.{vehicle_of}
use Rattle.card_image.specs.card_model.Image.{StringShape, IsStringShape}
use Rattle.card_image.specs.card_model.Walk.{days_of}
use Rattle.card_days.specs.Held.{Held, Knows}
use Rattle.card_days.specs.Loading.{shape_of}
use Rattle.card_image.specs.Fields.{file, day_string, vehicle_ring, last_of, vehicle_at, newest_vehicle}

pub day_file : (app : Application) → size_of app (file 0x0504) ≡ 4 + app.activity
unfolding files_of
day_file app = omega arith

pub use_file : (app : Application) → size_of app (file 0x0507) ≡ 19
unfolding files_of
use_file app = omega arith

pub identification_file : (app : Application) → size_of app (file 0x0520) ≡ 143
unfolding files_of
identification_file app = omega arith

pub files_ordered : (app : Application) → (place_of app (file 0x0504) ≤ place_of app (file 0x0508)) × (place_of app (file 0x0508) ≤ image_size_of app)
unfolding files_of
files_ordered app = (omega arith, omega arith)

pub vehicles_inside : (app : Application) → (vehicle_ring app).base + ring_size (vehicle_ring app) ≤ image_size_of app
unfolding files_of
vehicles_inside app = omega arith

pub string_inside : (app : Application) → (day_string app).base + (4 + (day_string app).size) ≤ image_size_of app
unfolding files_of
string_inside app = omega arith

pub string_shape : (app : Application) → IsApplication app → IsStringShape (day_string app)
string_shape app good = record {
  even = good.string_even;
  low = good.string_least;
  high = good.string_most;
  short = omega (arith, string_inside app, largest_image app good);
}

-- the string of the file of days
pub shape_is : (app : Application) (range : Range) → range.base ≡ place_of app (file 0x0504) → range.len ≡ size_of app (file 0x0504) → shape_of range ≡ day_string app
shape_is app range base len =
    let size : range.len - 4 ≡ app.activity = omega (arith, len, day_file app) in
    ap (λ (b : ℕ). let s : StringShape = record { base = b; size = range.len - 4 } in s) base ∙ ap (λ (n : ℕ). let s : StringShape = record { base = place_of app (file 0x0504); size = n } in s) size

pub knows_at : (v : Held) (r s : StringShape) (x y : List ℕ) → r ≡ s → x ≡ y → Knows v x (days_of r x) → Knows v y (days_of s y)
knows_at v r s x y shape image k = subst (λ (z : List ℕ). Knows v z (days_of s z)) image (subst (λ (q : StringShape). Knows v x (days_of q x)) shape k)

-- the newest entry is the last of the list
pub last_is : (is : List ℕ) (i : ℕ) → last_of (is ++ i ∷ []) ≡ Some i
last_is [] i = refl
last_is (j ∷ []) i = refl
last_is (j ∷ k ∷ is) i = last_is (k ∷ is) i

pub newest_none : (app : Application) (x : List ℕ) → IsNewest (vehicle_ring app) x None → newest_vehicle app x ≡ None
unfolding newest_vehicle
newest_none app x none = ap (λ (is : List ℕ). vehicle_at app x (last_of is)) none

pub newest_some : (app : Application) (x : List ℕ) (i : ℕ) → IsNewest (vehicle_ring app) x (Some i) → newest_vehicle app x ≡ Some (vehicle_of (entry_at (vehicle_ring app) x i))
unfolding newest_vehicle
newest_some app x i last = ap (λ (is : List ℕ). vehicle_at app x (last_of is)) last.indices_are ∙ ap (vehicle_at app x) (last_is last.older i)
