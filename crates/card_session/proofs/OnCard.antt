-- What a write on the days of a card, or on its vehicle entries, leaves of the card.
use Rattle.std.proofs.Common.{◌≡◌, ℕ, ◌+◌, ◌<◌, ◌≤◌, List, [], ◌∷◌, ◌++◌, length, Option, Some, None, option_map, refl, sym, ◌∙◌, ap, subst, arith}
use Rattle.card_layout.proofs.Images.{part_before, part_after, outside_wider}
use Rattle.card_layout.specs.declared.files.Application.{Application}
use Rattle.card_layout.specs.Application.{IsApplication}
use Rattle.card_layout.specs.Files.{files_of, image_size_of}
use Rattle.tach_media.specs.Medium.{State, SameOutside, LiesInside, LeavesOnly, bytes_at}
use Rattle.card_days.specs.card_model.Days.{Day}
use Rattle.card_days.specs.card_model.Image.{StringShape, IsStringShape, HoldsDays}
use Rattle.card_days.proofs.card_model.Walking.{walked}
use Rattle.card_days.proofs.card_model.Elsewhere.{holds_elsewhere, days_elsewhere}
use Rattle.gated_ring.specs.Ring.{Shape, IsShape, PointsInside, IsNewest, place_of, size_of as ring_size}
use Rattle.tach_media.proofs.Ranges.{lies_part}
use Rattle.gated_ring.proofs.Places.{place_high}
use Rattle.gated_ring.proofs.Elsewhere.{points_elsewhere, newest_elsewhere}
use Rattle.card_validity.specs.card_image.Fields.{day_string, vehicle_ring, vehicle_at, newest_vehicle, last_of, card_days}
use Rattle.card_files.specs.declared.vehicle.Vehicle.{Vehicle}
use Rattle.card_session.specs.Vehicles.{Vehicles, ring_round, on_newest, renewed}
use Rattle.card_session.specs.Sessions.{MayKeep, book_of}
use Rattle.card_session.specs.Cards.{IsCard, days_and_vehicles}
use Rattle.card_session.proofs.Round.{vehicles_is, vehicles_same, round_empty}

-- ---- where they lie

module _ (app : Application) (sound : IsApplication app) where
  pub string_shape : IsStringShape (day_string app)
  unfolding files_of
  string_shape = record {
    even = sound.string_even;
    low = sound.string_least;
    high = sound.string_most;
    short = omega (arith, sound.events_most, sound.faults_most, sound.string_most);
  }

  pub ring_shape : IsShape (vehicle_ring app)
  unfolding files_of
  ring_shape = record {
    some = omega (arith, sound.vehicles_least);
    gate = omega arith;
    pointer = omega arith;
    holds = λ _. omega (arith, sound.vehicles_most);
    short = omega (arith, sound.events_most, sound.faults_most, sound.string_most, sound.vehicles_most);
  }

-- the vehicle entries stand behind the days, inside the card
pub ring_behind : (app : Application) → (vehicle_ring app).base ≡ (day_string app).base + (4 + (day_string app).size)
unfolding files_of
ring_behind app = omega arith

pub ring_inside : (app : Application) → (vehicle_ring app).base + ring_size (vehicle_ring app) ≤ image_size_of app
unfolding files_of
ring_inside app = omega arith

last_is : (older : List ℕ) (i : ℕ) → last_of (older ++ i ∷ []) ≡ Some i
last_is [] i = refl
last_is (j ∷ []) i = refl
last_is (j ∷ k ∷ js) i = last_is (k ∷ js) i

-- the newest vehicle entry by its index
pub newest_told : (app : Application) (x : List ℕ) (o : Option ℕ) → IsNewest (vehicle_ring app) x o → (book_of app x).vehicles.newest ≡ vehicle_at app x o
unfolding book_of newest_vehicle
newest_told app x None none = ap (λ (js : List ℕ). vehicle_at app x (last_of js)) none
newest_told app x (Some i) last = ap (λ (js : List ℕ). vehicle_at app x (last_of js)) last.indices_are ∙ ap (vehicle_at app x) (last_is last.older i)

-- and all of them round the ring
pub ring_told : (app : Application) (x : List ℕ) → (book_of app x).vehicles.ring ≡ ring_round app x
unfolding book_of
ring_told app x = refl

-- where there is none, none changes
pub none_renewed : (app : Application) (x : List ℕ) → PointsInside (vehicle_ring app) x → IsNewest (vehicle_ring app) x None → (f : Vehicle → Vehicle) → renewed f (book_of app x).vehicles ≡ (book_of app x).vehicles
none_renewed app x points none f =
    vehicles_is (renewed f (book_of app x).vehicles) (book_of app x).vehicles (ap (option_map f) (newest_told app x None none) ∙ sym (newest_told app x None none))
    (ap (on_newest f) (ring_told app x) ∙ round_empty app x points f none ∙ sym (ring_told app x))

module _ (app : Application) (sound : IsApplication app) (x : List ℕ) (fits : image_size_of app ≤ length x) where
  string_fits : (c : List ℕ) → length c ≡ length x → (day_string app).base + (4 + (day_string app).size) ≤ length c
  string_fits c same = omega (arith, same, fits, ring_behind app, ring_inside app)

  -- the days of an image that holds such
  pub days_told : (c : List ℕ) → length c ≡ length x → (days : List Day) → HoldsDays (day_string app) c days → (book_of app c).days ≡ days
  unfolding book_of card_days
  days_told c same days holds = walked (day_string app) (string_shape app sound) c (string_fits c same) days holds

  module _ (c : List ℕ) where
    -- A WRITE ON THE DAYS
    module _ (known : PointsInside (vehicle_ring app) x) (outside : SameOutside (day_string app).base (4 + (day_string app).size) x c) where
      pub ring_same : bytes_at c (vehicle_ring app).base (ring_size (vehicle_ring app)) ≡ bytes_at x (vehicle_ring app).base (ring_size (vehicle_ring app))
      ring_same = part_after (day_string app).base (4 + (day_string app).size) (vehicle_ring app).base (ring_size (vehicle_ring app)) x c outside (omega (arith, ring_behind app))

      pub vehicles_still : (book_of app c).vehicles ≡ (book_of app x).vehicles
      unfolding book_of
      vehicles_still = vehicles_same app (ring_shape app sound) x c ring_same known

      pub points_still : PointsInside (vehicle_ring app) c
      points_still = points_elsewhere (vehicle_ring app) (ring_shape app sound) x c ring_same known

      pub newest_still : (o : Option ℕ) → IsNewest (vehicle_ring app) x o → IsNewest (vehicle_ring app) c o
      newest_still o newest = newest_elsewhere (vehicle_ring app) (ring_shape app sound) x c ring_same known o newest

      pub days_written : (P : List Day → Vehicles → Type 0) (days : List Day) → HoldsDays (day_string app) c days → P days (book_of app x).vehicles → IsCard app P x c
      days_written P days holds told =
          let are : (book_of app c).days ≡ days = days_told c outside.same_length days holds in
          record {
            outside = outside_wider (day_string app).base (days_and_vehicles app) (day_string app).base (4 + (day_string app).size) x c outside (omega arith) (omega arith);
            holds = subst (λ (ds : List Day). HoldsDays (day_string app) c ds) (sym are) holds;
            points = points_still;
            told = subst (λ (v : Vehicles). P (book_of app c).days v) (sym vehicles_still) (subst (λ (ds : List Day). P ds (book_of app x).vehicles) (sym are) told);
          }

    -- A WRITE ON THE VEHICLE ENTRIES
    module _ (outside : SameOutside (vehicle_ring app).base (ring_size (vehicle_ring app)) x c) where
      string_same : bytes_at c (day_string app).base (4 + (day_string app).size) ≡ bytes_at x (day_string app).base (4 + (day_string app).size)
      string_same = part_before (vehicle_ring app).base (ring_size (vehicle_ring app)) (day_string app).base (4 + (day_string app).size) x c outside (omega (arith, ring_behind app))

      pub days_still : (book_of app c).days ≡ (book_of app x).days
      unfolding book_of card_days
      days_still = days_elsewhere (day_string app) x c string_same

      pub string_still : bytes_at c (day_string app).base (4 + (day_string app).size) ≡ bytes_at x (day_string app).base (4 + (day_string app).size)
      string_still = string_same

      pub vehicles_written : (P : List Day → Vehicles → Type 0) → HoldsDays (day_string app) x (book_of app x).days → PointsInside (vehicle_ring app) c → P (book_of app x).days (book_of app c).vehicles → IsCard app P x c
      vehicles_written P holds points told = record {
        outside = outside_wider (day_string app).base (days_and_vehicles app) (vehicle_ring app).base (ring_size (vehicle_ring app)) x c outside (omega (arith, ring_behind app)) (omega (arith, ring_behind app));
        holds = subst (λ (ds : List Day). HoldsDays (day_string app) c ds) (sym days_still) (holds_elsewhere (day_string app) x c string_same (book_of app x).days holds);
        points = points;
        told = subst (λ (ds : List Day). P ds (book_of app c).vehicles) (sym days_still) told;
      }

-- ---- what may be written

-- after a run of calls the same may be written
pub may_still : (p q : Application) {old new : State} {R : List ℕ → List ℕ → Type 0} → LeavesOnly old new R → q ≡ p → MayKeep p old → MayKeep q new
may_still p q {old} {new} run is may = record {
  fits = subst (λ (a : Application). image_size_of a ≤ new.size) (sym is) (omega (arith, may.fits, run.size));
  days = subst (λ (a : Application). LiesInside new.writable (day_string a).base (4 + (day_string a).size)) (sym is) (subst (λ (w : List (ℕ × ℕ)). LiesInside w (day_string p).base (4 + (day_string p).size)) (sym run.writable) may.days);
  vehicles = subst (λ (a : Application). LiesInside new.writable (vehicle_ring a).base (ring_size (vehicle_ring a))) (sym is) (subst (λ (w : List (ℕ × ℕ)). LiesInside w (vehicle_ring p).base (ring_size (vehicle_ring p))) (sym run.writable) may.vehicles);
}

-- the string, and the vehicle entries, of a session's shapes
pub string_in : (p : Application) (q : StringShape) (s : State) → q ≡ day_string p → MayKeep p s → (q.base + (4 + q.size) ≤ s.size) × LiesInside s.writable q.base (4 + q.size)
string_in p q s is may = subst (λ (r : StringShape). (r.base + (4 + r.size) ≤ s.size) × LiesInside s.writable r.base (4 + r.size)) (sym is) (omega (arith, may.fits, ring_behind p, ring_inside p), may.days)

pub ring_in : (p : Application) (r : Shape) (s : State) → r ≡ vehicle_ring p → MayKeep p s → (r.base + ring_size r ≤ s.size) × LiesInside s.writable r.base (ring_size r)
ring_in p r s is may = subst (λ (q : Shape). (q.base + ring_size q ≤ s.size) × LiesInside s.writable q.base (ring_size q)) (sym is) (omega (arith, may.fits, ring_inside p), may.vehicles)

-- a part of an entry
pub field_in : (p : Application) (r : Shape) (s : State) (i offset n : ℕ) → r ≡ vehicle_ring p → MayKeep p s → i < r.count → offset + n ≤ r.width → LiesInside s.writable (place_of r i + offset) n
field_in p r s i offset n is may below inside = lies_part s.writable r.base (ring_size r) (place_of r i + offset) n (omega arith) (omega (arith, place_high r i below, inside)) (ring_in p r s is may).1
