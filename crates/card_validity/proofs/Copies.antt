-- What is judged of a copy of the files is what is judged of the card.
use Rattle.std.proofs.Common.{◌≡◌, ℕ, ◌+◌, ◌-◌, ◌/◌, ◌<◌, ◌≤◌, Bool, true, false, cond, Option, Some, None, List, [], ◌∷◌, length, refl, sym, ◌∙◌, ap, subst, arith}
use Rattle.std.specs.Prelude.{nat_lt}
use Rattle.std.proofs.lemmas.Bool.{ltb-true}
use Rattle.std.proofs.lemmas.Slice.{between-put_mid}
use borrow.Rule.Slice.PartMut.{put_mid}
use Rattle.card_layout.proofs.Images.{part_in}
use Rattle.card_layout.specs.declared.files.Application.{Application}
use Rattle.card_layout.specs.declared.files.Fid.{Fid}
use Rattle.card_layout.specs.Application.{IsApplication}
use Rattle.card_layout.specs.Files.{files_of, place_of, size_of}
use Rattle.tach_media.specs.Medium.{bytes_at}
use Rattle.gated_ring.specs.Ring.{IsShape, size_of as ring_size, pointer, PointsInside, indices}
use Rattle.gated_ring.proofs.Elsewhere.{pointer_elsewhere, indices_elsewhere, entry_elsewhere, newest_elsewhere}
use Rattle.gated_ring.proofs.Listing.{indices_below}
use Rattle.gated_ring.proofs.Orders.{Each}
use Rattle.card_files.specs.declared.vehicle.Vehicle.{Vehicle}
use Rattle.card_files.specs.declared.current_use.CurrentUse.{CurrentUse}
use Rattle.card_files.specs.Vehicles.{vehicle_of}
use Rattle.card_files.specs.CurrentUses.{current_use_of}
use Rattle.card_image.specs.card_model.Days.{Day}
use Rattle.card_image.specs.card_model.Checks.{first_bad, first_failing}
use Rattle.card_image.proofs.card_model.Elsewhere.{bad_elsewhere, days_elsewhere, oldest_elsewhere}
use Rattle.card_image.specs.card_model.Image.{StringShape, oldest_pointer}
use Rattle.card_days.specs.Held.{Knows}
use Rattle.card_days.proofs.Elsewhere.{knows_elsewhere}
use Rattle.card_image.specs.Fields.{file, file_bytes, day_string, vehicle_ring, place_ring, last_of, vehicle_at, newest_vehicle, last_use_of, end_mark, current_use, session_time, card_days}
use Rattle.card_image.specs.Judging.{word_checks, file_check, first_bad_of, pointer_bad}
use Rattle.card_validity.specs.declared.files.Judged.{Judged}
use Rattle.card_validity.specs.Judged.{IsCopy, first_bad_behind, IsKnown}

-- the shape of the rings
pub vehicle_shape : (app : Application) → IsApplication app → IsShape (vehicle_ring app)
unfolding files_of
vehicle_shape app good = record { some = omega arith; gate = omega arith; pointer = omega arith; holds = λ some. omega arith; short = omega arith }

pub place_shape : (app : Application) → IsApplication app → IsShape (place_ring app)
unfolding files_of
place_shape app good = record { some = omega arith; gate = omega arith; pointer = omega arith; holds = λ some. omega arith; short = omega arith }

-- the first of four files that fails
abbrev first_of_four : Option ℕ → Option ℕ → Option ℕ → Option ℕ → Option (Fid × ℕ)
first_of_four a b c d = first_bad_of (file_check 0x0504 a ∷ file_check 0x0505 b ∷ file_check 0x0506 c ∷ file_check 0x0504 d ∷ [])

behind_bad : (a c d e : Option ℕ) → first_of_four a (Some 0) c d ≡ first_of_four a (Some 0) c e
behind_bad None c d e = refl
behind_bad (Some p) c d e = refl

module _ (app : Application) (good : IsApplication app) (x z : List ℕ) (copy : IsCopy app x z) where
  part_same : (p n : ℕ) → place_of app (file 0x0504) ≤ p → p + n ≤ place_of app (file 0x0508) → bytes_at z p n ≡ bytes_at x p n
  part_same p n low high =
      let from = place_of app (file 0x0504) in
      let len = place_of app (file 0x0508) - from in
      let inside : p - from + n ≤ len = omega (arith, low, high) in
      let is : from + (p - from) ≡ p = omega (arith, low) in
      ap (λ (q : ℕ). bytes_at z q n) (sym is) ∙ sym (part_in z from len (p - from) n inside) ∙ ap (λ (l : List ℕ). bytes_at l (p - from) n) copy
      ∙ part_in x from len (p - from) n inside ∙ ap (λ (q : ℕ). bytes_at x q n) is

  string_same : bytes_at z (day_string app).base (4 + app.activity) ≡ bytes_at x (day_string app).base (4 + app.activity)
  unfolding files_of
  string_same = part_same (place_of app (file 0x0504)) (4 + app.activity) (omega arith) (omega arith)

  vehicles_same : bytes_at z (vehicle_ring app).base (ring_size (vehicle_ring app)) ≡ bytes_at x (vehicle_ring app).base (ring_size (vehicle_ring app))
  unfolding files_of
  vehicles_same = part_same (place_of app (file 0x0505)) (ring_size (vehicle_ring app)) (omega arith) (omega arith)

  places_same : bytes_at z (place_ring app).base (ring_size (place_ring app)) ≡ bytes_at x (place_ring app).base (ring_size (place_ring app))
  unfolding files_of
  places_same = part_same (place_of app (file 0x0506)) (ring_size (place_ring app)) (omega arith) (omega arith)

  use_same : file_bytes app 0x0507 z ≡ file_bytes app 0x0507 x
  unfolding files_of
  use_same = part_same (place_of app (file 0x0507)) (size_of app (file 0x0507)) (omega arith) (omega arith)

  days_same : card_days app z ≡ card_days app x
  unfolding card_days
  days_same = days_elsewhere (day_string app) x z string_same

  current_same : current_use app z ≡ current_use app x
  unfolding current_use
  current_same = ap current_use_of use_same

  module _ (known : PointsInside (vehicle_ring app) x) where
    vehicle_same : newest_vehicle app z ≡ newest_vehicle app x
    unfolding newest_vehicle
    vehicle_same =
        ap (λ (is : List ℕ). vehicle_at app z (last_of is)) (indices_elsewhere (vehicle_ring app) (vehicle_shape app good) x z vehicles_same known)
        ∙ by (indices (vehicle_ring app) x) (indices_below (vehicle_ring app) x known)
      where
        by : (is : List ℕ) → Each (λ i. i < app.vehicles) is → vehicle_at app z (last_of is) ≡ vehicle_at app x (last_of is)
        by [] each = refl
        by (i ∷ []) each = ap (λ (bytes : List ℕ). Some (vehicle_of bytes)) (entry_elsewhere (vehicle_ring app) (vehicle_shape app good) x z vehicles_same i each.0)
        by (i ∷ j ∷ is) each = by (j ∷ is) each.1

    mark_same : end_mark app z ≡ end_mark app x
    mark_same = ap (λ (v : Option Vehicle). last_use_of v / 60) vehicle_same

    words_same : first_failing (word_checks app.activity (oldest_pointer (day_string app) z) (end_mark app z) (session_time app z) (card_days app z))
        ≡ first_failing (word_checks app.activity (oldest_pointer (day_string app) x) (end_mark app x) (session_time app x) (card_days app x))
    words_same =
        let oldest = oldest_elsewhere (day_string app) x z string_same in
        let session = ap (λ (u : CurrentUse). u.session.0) current_same in
        ap (λ (o : ℕ). first_failing (word_checks app.activity o (end_mark app z) (session_time app z) (card_days app z))) oldest
        ∙ ap (λ (m : ℕ). first_failing (word_checks app.activity (oldest_pointer (day_string app) x) m (session_time app z) (card_days app z))) mark_same
        ∙ ap (λ (s : ℕ). first_failing (word_checks app.activity (oldest_pointer (day_string app) x) (end_mark app x) s (card_days app z))) session
        ∙ ap (λ (ds : List Day). first_failing (word_checks app.activity (oldest_pointer (day_string app) x) (end_mark app x) (session_time app x) ds)) days_same

  abbrev words_bad : List ℕ → Option ℕ
  words_bad y = first_failing (word_checks app.activity (oldest_pointer (day_string app) y) (end_mark app y) (session_time app y) (card_days app y))

  -- the first file that fails
  pub behind_same : first_bad_behind app z ≡ first_bad_behind app x
  behind_same =
      ap (λ (a : Option ℕ). first_of_four a (pointer_bad (vehicle_ring app) z) (pointer_bad (place_ring app) z) (words_bad z)) (bad_elsewhere (day_string app) x z string_same)
      ∙ ap (λ (p : ℕ). first_of_four (first_bad (day_string app) x) (cond (nat_lt p app.vehicles) None (Some 0)) (pointer_bad (place_ring app) z) (words_bad z)) (pointer_elsewhere (vehicle_ring app) (vehicle_shape app good) x z vehicles_same)
      ∙ ap (λ (p : ℕ). first_of_four (first_bad (day_string app) x) (pointer_bad (vehicle_ring app) x) (cond (nat_lt p app.places) None (Some 0)) (words_bad z)) (pointer_elsewhere (place_ring app) (place_shape app good) x z places_same)
      ∙ by (nat_lt (pointer (vehicle_ring app) x) app.vehicles) refl
    where
      by : (t : Bool) → nat_lt (pointer (vehicle_ring app) x) app.vehicles ≡ t
          → first_of_four (first_bad (day_string app) x) (pointer_bad (vehicle_ring app) x) (pointer_bad (place_ring app) x) (words_bad z)
          ≡ first_of_four (first_bad (day_string app) x) (pointer_bad (vehicle_ring app) x) (pointer_bad (place_ring app) x) (words_bad x)
      by true is = ap (λ (d : Option ℕ). first_of_four (first_bad (day_string app) x) (pointer_bad (vehicle_ring app) x) (pointer_bad (place_ring app) x) d) (words_same (ltb-true (pointer (vehicle_ring app) x) app.vehicles is))
      by false is =
          let shut : pointer_bad (vehicle_ring app) x ≡ Some 0 = ap (λ (t : Bool). cond t None (Some 0)) is in
          ap (λ (b : Option ℕ). first_of_four (first_bad (day_string app) x) b (pointer_bad (place_ring app) x) (words_bad z)) shut
          ∙ behind_bad (first_bad (day_string app) x) (pointer_bad (place_ring app) x) (words_bad z) (words_bad x)
          ∙ sym (ap (λ (b : Option ℕ). first_of_four (first_bad (day_string app) x) b (pointer_bad (place_ring app) x) (words_bad x)) shut)

  -- what is known of it
  pub known_same : (j : Judged) → IsKnown app z j → IsKnown app x j
  known_same j k =
      let points : PointsInside (vehicle_ring app) x = subst (λ (n : ℕ). n < app.vehicles) (pointer_elsewhere (vehicle_ring app) (vehicle_shape app good) x z vehicles_same) k.points in
      let back : bytes_at x (vehicle_ring app).base (ring_size (vehicle_ring app)) ≡ bytes_at z (vehicle_ring app).base (ring_size (vehicle_ring app)) = sym vehicles_same in
      let string : bytes_at x j.days.shape.base (4 + j.days.shape.size) ≡ bytes_at z j.days.shape.base (4 + j.days.shape.size) = subst (λ (r : StringShape). bytes_at x r.base (4 + r.size) ≡ bytes_at z r.base (4 + r.size)) (sym k.shape) (sym string_same) in
      record {
        passes = sym behind_same ∙ k.passes;
        shape = k.shape;
        days = subst (λ (ds : List Day). Knows j.days x ds) days_same (knows_elsewhere j.days z x string (card_days app z) k.days);
        ring = k.ring;
        points = points;
        newest = newest_elsewhere (vehicle_ring app) (vehicle_shape app good) z x back k.points j.newest k.newest;
        vehicle = k.vehicle ∙ vehicle_same points;
        current = k.current ∙ current_same;
      }

-- a part of an image, read into its place in other bytes
pub copied : (app : Application) (x room out : List ℕ) (from end k : ℕ) → from ≡ place_of app (file 0x0504) → end ≡ place_of app (file 0x0508) → from ≤ length room → length out ≡ end - from
    → out ≡ bytes_at x from (end - from) → IsCopy app x (put_mid from k room out)
copied app x room out from end k from_is end_is within full read =
    let z : List ℕ = put_mid from k room out in
    let at : bytes_at (put_mid from k room out) from (end - from) ≡ bytes_at x from (end - from) = between-put_mid from k room out end within full ∙ read in
    subst (λ (f : ℕ). bytes_at z f (place_of app (file 0x0508) - f) ≡ bytes_at x f (place_of app (file 0x0508) - f)) from_is
    (subst (λ (e : ℕ). bytes_at z from (e - from) ≡ bytes_at x from (e - from)) end_is at)
