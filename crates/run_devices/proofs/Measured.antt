-- The vehicle entries of a card are measured: over calls one after another, and at each moment of a keep, a closing and an insertion.
use Rattle.std.proofs.Common.{◌≡◌, ◌∙◌, inl, inr, ⊎_elim, ℕ, ◌+◌, ◌*◌, ◌/◌, ◌<◌, ◌≤◌, Bool, true, false, cond, Option, Some, None, List, [], IfSome, ◌∷◌, Contains, filter, length, nat_le, refl, sym, ap, subst, arith}
use Rattle.std.specs.Prelude.{◌&&◌, nat_lt}
use Rattle.std.proofs.lemmas.Bool.Decides.{nat_tests}
use Rattle.std.proofs.lemmas.List.Elements.{All-weaker, filter_passes}
use Rattle.device_calls.specs.activity_codec.declared.values.Activity.{Activity}
use Rattle.device_calls.specs.activity_codec.declared.entries.Entry.{Entry}
use Rattle.tach_media.specs.Medium.{State, SameOutside, bytes_at}
use Rattle.device_calls.specs.tacho_types.declared.numbers.Odometer.{Odometer}
use Rattle.device_calls.specs.tacho_types.declared.numbers.TimeReal.{TimeReal}
use Rattle.device_calls.specs.tacho_types.declared.texts.Registration.{Registration}
use Rattle.tach_media.proofs.card_layout.Images.{part_after, part_before}
use Rattle.tach_media.specs.card_layout.declared.files.Application.{Application}
use Rattle.tach_media.specs.card_layout.Application.{IsApplication}
use Rattle.tach_media.specs.card_layout.Files.{files_of, place_of, size_of, image_size_of}
use Rattle.device_calls.specs.card_files.declared.card_event.CardEvent.{CardEvent}
use Rattle.device_calls.specs.card_files.Noting.{IsNotingEvent, IsEventNoted}
use Rattle.device_calls.specs.card_files.Rings.{event_ring}
use Rattle.device_calls.specs.card_files.declared.vehicle.Vehicle.{Vehicle}
use Rattle.device_calls.proofs.card_files.Sets.{set_inside}
use Rattle.device_calls.specs.gated_ring.Ring.{PointsInside, place_of as entry_place, size_of as ring_size}
use Rattle.device_calls.proofs.gated_ring.Places.{place_high}
use Rattle.device_calls.specs.card_image.Beside.{HaveSameDays, HaveSameVehicles}
use Rattle.device_calls.specs.card_image.Fields.{file, card_number, day_string, end_mark, place_ring, session_time, vehicle_ring}
use Rattle.device_calls.specs.card_session.Vehicles.{Vehicles}
use Rattle.device_calls.specs.card_session.Books.{used, measured, begun_vehicle}
use Rattle.device_calls.specs.card_session.Sessions.{Session, book_of}
use Rattle.device_calls.specs.card_session.Cards.{IsCardKeeping, IsCardClosing}
use Rattle.device_calls.specs.card_session.Inserting.{Follow, IsCardInserting}
use Rattle.device_calls.proofs.card_session.OnCard.{ring_shape}
use Rattle.device_calls.proofs.card_session.Round.{vehicles_same}
use Rattle.device_calls.specs.unit_model.Image.{last_kept}
use Rattle.device_calls.specs.unit_owed.Owed.{row_view}
use Rattle.device_calls.specs.device_rule.Views.{counts, is_session}
use Rattle.device_calls.proofs.device_rule.OwedView.{owed-seen}
use Rattle.device_calls.specs.Entering.{owed_on}
use Rattle.device_calls.proofs.card_string.MadeSince.{on_same, on_then, on_close, on_insert}
use Rattle.device_calls.proofs.card_string.SameBook.{same_book}
use Rattle.run_devices.specs.Registered.{RingIn, AreIn, HasOne, SomeIs}
use Rattle.run_devices.specs.Measured.{Reading, reading_at, GoesOnFrom, IsMeasured, AreMeasured, vehicles_by, GoesMeasured, MeasuresOn, MakesOn}
use Rattle.run_promise.proofs.OwedRises.{rise-filter, view-rises}
use Rattle.run_devices.proofs.Power.{follow-of}
use Rattle.run_devices.proofs.Entries.{AllMay, keep-is, close-is, close-points, inserting-is, inserting-points, points-by}

-- ---- entries of a card

one-as : (A B : Vehicle → Type 0) → ((v : Vehicle) → A v → B v) → (os : List (Option Vehicle)) → HasOne A os → HasOne B os
one-as A B as_ [] has = has
one-as A B as_ (None ∷ os) has = one-as A B as_ os has
one-as A B as_ (Some v ∷ os) has = ⊎_elim (λ here. inl (as_ v here)) (λ rest. inr (one-as A B as_ os rest)) has

some-as : (A B : Vehicle → Type 0) → ((v : Vehicle) → A v → B v) → (v : Vehicles) → SomeIs A v → SomeIs B v
some-as A B as_ v has = ⊎_elim (λ newest. inl (newest.0, newest.1, as_ newest.0 newest.2)) (λ one. inr (one-as A B as_ v.ring one)) has

ring-as : (A B : Vehicle → Type 0) → ((v : Vehicle) → A v → B v) → (os : List (Option Vehicle)) → RingIn A os → RingIn B os
ring-as A B as_ [] is = tt
ring-as A B as_ (None ∷ os) is = ring-as A B as_ os is
ring-as A B as_ (Some v ∷ os) is = (as_ v is.0, ring-as A B as_ os is.1)

newest-as : (A B : Vehicle → Type 0) → ((v : Vehicle) → A v → B v) → (o : Option Vehicle) → IfSome o A → IfSome o B
newest-as A B as_ None is = tt
newest-as A B as_ (Some v) is = as_ v is

in-as : (A B : Vehicle → Type 0) → ((v : Vehicle) → A v → B v) → (v : Vehicles) → AreIn A v → AreIn B v
in-as A B as_ v is = record { newest = newest-as A B as_ v.newest is.newest; ring = ring-as A B as_ v.ring is.ring }

-- one that is so, of which all are so
one-of : (A B : Vehicle → Type 0) (os : List (Option Vehicle)) → RingIn A os → HasOne B os → (v : Vehicle) × A v × B v
one-of A B [] is has = absurd has
one-of A B (None ∷ os) is has = one-of A B os is has
one-of A B (Some v ∷ os) is has = ⊎_elim (λ here. (v, is.0, here)) (λ rest. one-of A B os is.1 rest) has

some-of : (A B : Vehicle → Type 0) (v : Vehicles) → AreIn A v → SomeIs B v → (w : Vehicle) × A w × B w
some-of A B v is has = ⊎_elim
    (λ newest. (newest.0, subst (λ (o : Option Vehicle). IfSome o A) newest.1 is.newest, newest.2))
    (λ one. one-of A B v.ring is.ring one)
    has

-- what is so of each that stands there
each-there : (A : Vehicle → Type 0) (os : List (Option Vehicle)) → ((w : Vehicle) → HasOne (λ v. v ≡ w) os → A w) → RingIn A os
each-there A [] each = tt
each-there A (None ∷ os) each = each-there A os each
each-there A (Some v ∷ os) each = (each v (inl refl), each-there A os (λ w has. each w (inr has)))

-- ---- measured

on-itself : (w v : Vehicle) → w ≡ v → GoesOnFrom w v
on-itself w v same = (ap (λ (u : Vehicle). u.registration) (sym same), ap (λ (u : Vehicle). u.first_use) (sym same), ap (λ (u : Vehicle). u.odometer_begin) (sym same))

on-then : (u v w : Vehicle) → GoesOnFrom u v → GoesOnFrom v w → GoesOnFrom u w
on-then u v w first next = (next.0 ∙ first.0, next.1 ∙ first.1, next.2 ∙ first.2)

ends-itself : (w v : Vehicle) → w ≡ v → GoesOnFrom w v × (v.odometer_end ≡ w.odometer_end)
ends-itself w v same = (on-itself w v same, ap (λ (u : Vehicle). u.odometer_end) (sym same))

module _ (Is : Reading → Type 0) where
  -- AN IMAGE IS MEASURED BY ITSELF,
  pub measured-itself : (v : Vehicles) → AreMeasured Is v v
  measured-itself v = record { newest = newest v.newest refl; ring = each-there (IsMeasured Is v) v.ring there }
    where
      newest : (o : Option Vehicle) → v.newest ≡ o → IfSome o (IsMeasured Is v)
      newest None is = tt
      newest (Some w) is = record { begins = inr (inl (w, is, on-itself w w refl)); ends = inr (inl (w, is, ends-itself w w refl)) }

      there : (w : Vehicle) → HasOne (λ u. u ≡ w) v.ring → IsMeasured Is v w
      there w has = record {
        begins = inr (inr (one-as (λ u. u ≡ w) (λ u. GoesOnFrom u w) (λ u same. on-itself u w same) v.ring has));
        ends = inr (inr (one-as (λ u. u ≡ w) (λ u. GoesOnFrom u w × (w.odometer_end ≡ u.odometer_end)) (λ u same. ends-itself u w same) v.ring has));
      }

  -- by one that has the same,
  pub measured-same : (v w : Vehicles) → w ≡ v → AreMeasured Is v w
  measured-same v w same = subst (λ (u : Vehicles). AreMeasured Is v u) (sym same) (measured-itself v)

  -- AND ONE AFTER ANOTHER
  then-one : (u v : Vehicles) → AreMeasured Is u v → (z : Vehicle) → IsMeasured Is v z → IsMeasured Is u z
  then-one u v first z is = record {
    begins = ⊎_elim (λ here. inl here)
        (λ some.
        let y = some-of (IsMeasured Is u) (λ w. GoesOnFrom w z) v first some in
        ⊎_elim
        (λ value. inl (subst (λ (o : Odometer). Is (reading_at (z.first_use.0 / 60) o.0)) (sym y.2.2) (subst (λ (t : TimeReal). Is (reading_at (t.0 / 60) y.0.odometer_begin.0)) (sym y.2.1) value)))
        (λ before. inr (some-as (λ w. GoesOnFrom w y.0) (λ w. GoesOnFrom w z) (λ w on. on-then w y.0 z on y.2) u before))
        y.1.begins)
        is.begins;
    ends = ⊎_elim (λ here. inl here)
        (λ some.
        let y = some-of (IsMeasured Is u) (λ w. GoesOnFrom w z × (z.odometer_end ≡ w.odometer_end)) v first some in
        ⊎_elim
        (λ value. inl (value.0, subst (λ (o : Odometer). Is (reading_at value.0 o.0)) (sym y.2.1) value.1))
        (λ before. inr (some-as (λ w. GoesOnFrom w y.0 × (y.0.odometer_end ≡ w.odometer_end)) (λ w. GoesOnFrom w z × (z.odometer_end ≡ w.odometer_end)) (λ w on. (on-then w y.0 z on.0 y.2.0, y.2.1 ∙ on.1)) u before))
        y.1.ends)
        is.ends;
  }

  pub measured-then : (u v w : Vehicles) → AreMeasured Is u v → AreMeasured Is v w → AreMeasured Is u w
  measured-then u v w first next = in-as (IsMeasured Is v) (IsMeasured Is u) (then-one u v first) w next

-- with more values
pub measured-more : (Is Now : Reading → Type 0) → ((r : Reading) → Is r → Now r) → (v w : Vehicles) → AreMeasured Is v w → AreMeasured Now v w
measured-more Is Now more v w is =
    in-as (IsMeasured Is v) (IsMeasured Now v)
    (λ z here. record { begins = ⊎_elim (λ value. inl (more (reading_at (z.first_use.0 / 60) z.odometer_begin.0) value)) (λ before. inr before) here.begins; ends = ⊎_elim (λ value. inl (value.0, more (reading_at value.0 z.odometer_end.0) value.1)) (λ before. inr before) here.ends })
    w is

-- ---- BY A CALL

module _ (Is : Reading → Type 0) (old : Vehicles) where
  used-so : (seconds : ℕ) (v : Vehicle) → IsMeasured Is old v → IsMeasured Is old (used seconds v)
  used-so seconds v is = record { begins = is.begins; ends = is.ends }

  measured-so : (minute odometer : ℕ) → Is (reading_at minute odometer) → (v : Vehicle) → IsMeasured Is old v → IsMeasured Is old (measured odometer v)
  measured-so minute odometer here v is = record { begins = is.begins; ends = inl (minute, here) }

  begun-so : (registration : Registration) (minute odometer : ℕ) → Is (reading_at minute odometer) → (counter : List ℕ) → IsMeasured Is old (begun_vehicle registration odometer minute counter)
  begun-so registration minute odometer here counter =
      let whole : 60 * minute / 60 ≡ minute = omega arith in
      record { begins = inl (subst (λ (m : ℕ). Is (reading_at m odometer)) (sym whole) here); ends = inl (minute, here) }

-- an image is measured by another, whatever it is made of
abbrev pub MeasuresOneOf : Application → (Is : Reading → Type 0) → (x y : List ℕ) → Type 0
MeasuresOneOf app Is x y = PointsInside (vehicle_ring app) x → PointsInside (vehicle_ring app) y × AreMeasured Is (vehicles_by app x) (vehicles_by app y)

module _ (app : Application) (Is : Reading → Type 0) where
  -- no call
  pub goes-itself : (x : List ℕ) → GoesMeasured app Is x x
  goes-itself x points = (points, measured-itself Is (vehicles_by app x), on_same app x x refl)

  -- calls one after another
  pub goes-then : (x y z : List ℕ) → GoesMeasured app Is x y → GoesMeasured app Is y z → GoesMeasured app Is x z
  goes-then x y z first next points =
      let one = first points in
      let two = next one.0 in
      (two.0, measured-then Is (vehicles_by app x) (vehicles_by app y) (vehicles_by app z) one.1 two.1, on_then app x y z one.2 two.2)

  -- with more values
  pub goes-more : (Now : Reading → Type 0) → ((r : Reading) → Is r → Now r) → (x y : List ℕ) → GoesMeasured app Is x y → GoesMeasured app Now x y
  goes-more Now more x y goes points =
      let one = goes points in
      (one.0, measured-more Is Now more (vehicles_by app x) (vehicles_by app y) one.1, one.2)

  -- what leaves the bytes of the days and of the entries
  pub bytes-go : IsApplication app → (x y : List ℕ) → HaveSameDays app x y → HaveSameVehicles app x y → GoesMeasured app Is x y
  unfolding book_of
  bytes-go sound x y days same points =
      (points-by app sound x y points same, measured-same Is (vehicles_by app x) (vehicles_by app y) (vehicles_same app (ring_shape app sound) x y same points), on_same app x y (same_book app sound x y points days same))

  -- an insertion
  pub inserting-goes : IsApplication app → (registration : Registration) → length registration.0 ≡ 15 → (odometer now : ℕ) → ((minute : ℕ) → minute < now / 60 → Is (reading_at minute odometer)) → (owed : List Entry) → Follow 1439 owed → AllMay (λ minute. minute < now / 60) owed → (x y : List ℕ) → image_size_of app ≤ length x → IsCardInserting app registration odometer owed now x y → GoesMeasured app Is x y
  inserting-goes sound registration long odometer now here owed ordered early x y fits inserting points =
      let old : Vehicles = vehicles_by app x in (
        inserting-points app sound registration long now x fits odometer owed y inserting,
        inserting-is (IsMeasured Is old) (used-so Is old) app sound registration long now x fits (measured-itself Is old) odometer (λ minute. minute < now / 60)
            (λ minute its. measured-so Is old minute odometer (here minute its)) (λ minute its counter. begun-so Is old registration minute odometer (here minute its) counter) owed early y inserting,
        on_insert app sound registration long odometer now owed ordered x y fits inserting,
      )

module _ (Is : Reading → Type 0) where
  -- a keep
  pub keep-measures : (s : Session) (e : Entry) (odometer : ℕ) (x y : List ℕ) → Is (reading_at e.minute odometer) → IsCardKeeping s e odometer x y → MeasuresOneOf s.application Is x y
  keep-measures s e odometer x y here keeping points =
      let old : Vehicles = vehicles_by s.application x in
      (keeping.card.points, keep-is (IsMeasured Is old) (used-so Is old) s e odometer (measured-so Is old e.minute odometer here) (λ counter. begun-so Is old s.registration e.minute odometer here counter) x y (measured-itself Is old) keeping)

  -- a closing
  pub close-goes : (s : Session) (act : Activity) (x y : List ℕ) → IsApplication s.application → image_size_of s.application ≤ length x → IsCardClosing s act x y → GoesMeasured s.application Is x y
  close-goes s act x y sound fits closing points =
      let old : Vehicles = vehicles_by s.application x in
      (close-points s act x y sound fits closing, close-is (IsMeasured Is old) (used-so Is old) s act x y sound fits (measured-itself Is old) closing, on_close s act x y sound fits closing)

-- ---- WHAT A UNIT OWES to a card follows the first day: only its later minutes count
not-first : (first rest : Bool) → (first && rest) ≡ true → first ≡ true
not-first true rest is = refl
not-first false rest is = is

pub owed-follows : (app : Application) (u x : List ℕ) → Follow 1439 (owed_on app u x)
owed-follows app u x = subst (Follow 1439) (sym (owed-seen u (card_number app x) (session_time app x) (end_mark app x))) (go (is_session (row_view (card_number app x) u).session (session_time app x)))
  where
    cells : List Entry
    cells = (row_view (card_number app x) u).cells

    counted : Entry → Bool
    counted e = counts (session_time app x / 60) (end_mark app x) (last_kept u) e.minute

    late : (m : ℕ) → counts (session_time app x / 60) (end_mark app x) (last_kept u) m ≡ true → 1439 < m
    late m is =
        let first : nat_le 1440 m ≡ true = not-first (nat_le 1440 m) _ is in
        grind (arith, nat_tests)

    go : (s : Bool) → Follow 1439 (cond s (filter counted cells) [])
    go true = follow-of 1439 (filter counted cells) (rise-filter counted cells (view-rises (card_number app x) u))
        (All-weaker (λ (e : Entry). counted e ≡ true) (λ e. 1439 < e.minute) (λ e is. late e.minute is) (filter counted cells) (filter_passes counted cells))
    go false = tt

-- and it was kept: each of its minutes is before one before which the last of those is
second-too : (a b : Bool) → (a && b) ≡ true → b ≡ true
second-too true b is = is
second-too false b is = absurd (let wrong : false ≡ true = is in cc)

counts-early : (from mark last n : ℕ) → last < n → (m : ℕ) → counts from mark last m ≡ true → m < n
counts-early from mark last n early m is =
    let one : (nat_le from m && (nat_lt mark m && nat_le m last)) ≡ true = second-too (nat_le 1440 m) (nat_le from m && (nat_lt mark m && nat_le m last)) is in
    let two : (nat_lt mark m && nat_le m last) ≡ true = second-too (nat_le from m) (nat_lt mark m && nat_le m last) one in
    let three : nat_le m last ≡ true = second-too (nat_lt mark m) (nat_le m last) two in
    let most : m ≤ last = grind (arith, nat_tests) in
    omega (arith, most, early)

early-among : (from mark last n : ℕ) → last < n → (es : List Entry) → AllMay (λ minute. minute < n) (filter (λ (e : Entry). counts from mark last e.minute) es)
early-among from mark last n early [] = tt
early-among from mark last n early (e ∷ es) = by (counts from mark last e.minute) refl (early-among from mark last n early es)
  where
    by : (b : Bool) → counts from mark last e.minute ≡ b → AllMay (λ minute. minute < n) (filter (λ (x : Entry). counts from mark last x.minute) es)
        → AllMay (λ minute. minute < n) (cond b (e ∷ filter (λ (x : Entry). counts from mark last x.minute) es) (filter (λ (x : Entry). counts from mark last x.minute) es))
    by true is rest = (counts-early from mark last n early e.minute is, rest)
    by false is rest = rest

pub owed-early : (app : Application) (u x : List ℕ) (n : ℕ) → last_kept u < n → AllMay (λ minute. minute < n) (owed_on app u x)
owed-early app u x n early = subst (AllMay (λ minute. minute < n)) (sym (owed-seen u (card_number app x) (session_time app x) (end_mark app x))) (go (is_session (row_view (card_number app x) u).session (session_time app x)))
  where
    go : (s : Bool) → AllMay (λ minute. minute < n) (cond s (filter (λ (e : Entry). counts (session_time app x / 60) (end_mark app x) (last_kept u) e.minute) (row_view (card_number app x) u).cells) [])
    go true = early-among (session_time app x / 60) (end_mark app x) (last_kept u) n early (row_view (card_number app x) u).cells
    go false = tt

-- ---- events and places lie beside them

events-first : (app : Application) → place_of app (file 0x0502) + size_of app (file 0x0502) ≤ (vehicle_ring app).base
unfolding files_of
events-first app = omega arith

events-before : (app : Application) → place_of app (file 0x0502) + size_of app (file 0x0502) ≤ (day_string app).base
unfolding files_of
events-before app = omega arith

days-behind : (app : Application) → (day_string app).base + (4 + (day_string app).size) ≤ (place_ring app).base
unfolding files_of
days-behind app = omega arith

places-behind : (app : Application) → (vehicle_ring app).base + ring_size (vehicle_ring app) ≤ (place_ring app).base
unfolding files_of
places-behind app = omega arith

module _ (app : Application) (x c : List ℕ) where
  event-beside : (kind i : ℕ) → i < (event_ring app kind).count → SameOutside (entry_place (event_ring app kind) i) (event_ring app kind).width x c → HaveSameVehicles app x c
  event-beside kind i below outside =
      part_after (entry_place (event_ring app kind) i) (event_ring app kind).width (vehicle_ring app).base (ring_size (vehicle_ring app)) x c outside (omega (arith, place_high (event_ring app kind) i below, set_inside app kind, events-first app))

  event-beside_days : (kind i : ℕ) → i < (event_ring app kind).count → SameOutside (entry_place (event_ring app kind) i) (event_ring app kind).width x c → HaveSameDays app x c
  event-beside_days kind i below outside =
      part_after (entry_place (event_ring app kind) i) (event_ring app kind).width (day_string app).base (4 + (day_string app).size) x c outside (omega (arith, place_high (event_ring app kind) i below, set_inside app kind, events-before app))

  pub event-days : (e : CardEvent) → IsNotingEvent app e x c → HaveSameDays app x c
  event-days e noting = ⊎_elim
      (λ same. ap (λ (l : List ℕ). bytes_at l (day_string app).base (4 + (day_string app).size)) same)
      (λ changed. ⊎_elim (λ absent. event-beside_days e.kind noting.place noting.takes.below absent.outside) (λ replaced. event-beside_days e.kind noting.place noting.takes.below replaced.outside) changed)
      noting.entry

  pub noted-days : (e : CardEvent) → IsEventNoted app e x c → HaveSameDays app x c
  noted-days e noted = event-beside_days e.kind noted.place noted.takes.below noted.entry.outside

  pub place-days : SameOutside (place_ring app).base (ring_size (place_ring app)) x c → HaveSameDays app x c
  place-days outside = part_before (place_ring app).base (ring_size (place_ring app)) (day_string app).base (4 + (day_string app).size) x c outside (days-behind app)

  -- an event that is noted, and a moment of that
  pub event-vehicles : (e : CardEvent) → IsNotingEvent app e x c → HaveSameVehicles app x c
  event-vehicles e noting = ⊎_elim
      (λ same. ap (λ (l : List ℕ). bytes_at l (vehicle_ring app).base (ring_size (vehicle_ring app))) same)
      (λ changed. ⊎_elim (λ absent. event-beside e.kind noting.place noting.takes.below absent.outside) (λ replaced. event-beside e.kind noting.place noting.takes.below replaced.outside) changed)
      noting.entry

  pub noted-vehicles : (e : CardEvent) → IsEventNoted app e x c → HaveSameVehicles app x c
  noted-vehicles e noted = event-beside e.kind noted.place noted.takes.below noted.entry.outside

  -- a place
  pub place-vehicles : SameOutside (place_ring app).base (ring_size (place_ring app)) x c → HaveSameVehicles app x c
  place-vehicles outside = part_before (place_ring app).base (ring_size (place_ring app)) (vehicle_ring app).base (ring_size (vehicle_ring app)) x c outside (places-behind app)

-- ---- OF STATES

module _ (app : Application) (values : List Reading) where
  pub measures-self : (X : State) → MeasuresOn app values X X
  measures-self X y left = (y, left, goes-itself app (λ r. Contains values r) y)

  pub measures-then : (X Y Z : State) → MeasuresOn app values X Y → MeasuresOn app values Y Z → MeasuresOn app values X Z
  measures-then X Y Z first next z left =
      let behind = next z left in
      let was = first behind.0 behind.1 in
      (was.0, was.1, goes-then app (λ r. Contains values r) was.0 behind.0 z was.2 behind.2)

  pub measures-more : (now : List Reading) → ((r : Reading) → Contains values r → Contains now r) → (X Y : State) → MeasuresOn app values X Y → MeasuresOn app now X Y
  measures-more now more X Y is y left =
      let was = is y left in
      (was.0, was.1, goes-more app (λ r. Contains values r) (λ r. Contains now r) more was.0 y was.2)

-- and its images are made of those before
pub measures-makes : (app : Application) (values : List Reading) (X Y : State) → MeasuresOn app values X Y → MakesOn app X Y
measures-makes app values X Y is y left =
    let was = is y left in
    (was.0, was.1, λ points. let goes = was.2 points in (goes.0, goes.2))

pub makes-self : (app : Application) (X : State) → MakesOn app X X
makes-self app X y left = (y, left, λ points. (points, on_same app y y refl))

pub makes-then : (app : Application) (X Y Z : State) → MakesOn app X Y → MakesOn app Y Z → MakesOn app X Z
makes-then app X Y Z first next z left =
    let behind = next z left in
    let was = first behind.0 behind.1 in (
      was.0,
      was.1,
      λ points.
          let one = was.2 points in
          let two = behind.2 one.0 in
          (two.0, on_then app was.0 behind.0 z one.1 two.1),
    )
