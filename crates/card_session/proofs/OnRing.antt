-- What the calls on the vehicle entries make of a card that a session knows.
use Rattle.std.proofs.Common.{◌≡◌, inl, inr, ⊎_elim, ℕ, ◌+◌, ◌^◌, ◌<◌, ◌≤◌, Bool, false, List, [], ◌∷◌, ◌++◌, length, length-drop, drop, Option, Some, None, option_map, IfSome, refl, sym, ◌∙◌, ap, subst, arith}
use Rattle.std.specs.Prelude.{◌⊎◌}
use Rattle.std.proofs.lemmas.List.{append-nil, length-take-le}
use Rattle.card_layout.specs.Fields.{field_at}
use Rattle.card_layout.proofs.Fields.{field_part}
use Rattle.card_layout.proofs.Images.{part_before, part_after, part_put, put_outside, outside_wider, outside_same}
use Rattle.card_layout.proofs.Numbers.{big_number-big_bytes}
use Rattle.card_layout.specs.declared.files.Application.{Application}
use Rattle.card_layout.specs.Files.{image_size_of}
use Rattle.tach_media.specs.Medium.{State, IsCoherent, LeavesOnly, HasCause, SameOutside, put, bytes_at}
use Rattle.tach_media.proofs.Runs.{weaken, where_told, at_image}
use Rattle.tacho_types.specs.declared.numbers.Odometer.{Odometer}
use Rattle.tacho_types.specs.declared.numbers.TimeReal.{TimeReal}
use Rattle.tacho_types.specs.Numbers.{time_bytes, time_of, odometer_bytes, odometer_of}
use Rattle.card_files.specs.declared.vehicle.Vehicle.{Vehicle}
use Rattle.card_files.specs.Vehicles.{vehicle_of, vehicle_bytes, vehicle_widths}
use Rattle.card_days.specs.card_model.Days.{Day}
use Rattle.card_days.specs.card_model.Image.{StringShape, HoldsDays}
use Rattle.card_files.proofs.Changes.{vehicle_gate}
use Rattle.gated_ring.specs.Ring.{number_at, gate_number, Shape, PointsInside, IsNewest, entry_at, taken, with_head, place_of, size_of as ring_size}
use Rattle.gated_ring.specs.Change.{IsSet, IsShortened, IsExtended, OrUnwritten, IsAdding, IsAdded, IsAddStep, SameOthers}
use Rattle.gated_ring.proofs.Listing.{taken_below}
use Rattle.gated_ring.proofs.NewestMoments.{newest_set, newest_added, newest_stays, newest_bytes}
use Rattle.gated_ring.proofs.Places.{place_high}
use Rattle.gated_ring.proofs.Dense.{drop_all}
use Rattle.card_days.specs.Held.{Held, Knows}
use Rattle.card_days.proofs.Elsewhere.{knows_elsewhere}
use Rattle.card_validity.specs.card_image.Fields.{day_string, vehicle_ring}
use Rattle.card_session.specs.Vehicles.{Vehicles, ring_round, on_newest, renewed, behind_first, with_vehicle, with_room}
use Rattle.card_session.specs.Books.{Book, measured, used}
use Rattle.card_session.specs.Sessions.{Session, IsValue, KnowsCard, MayKeep, book_of}
use Rattle.card_session.specs.Moments.{IsBook}
use Rattle.card_session.specs.Cards.{IsCard}
use Rattle.card_session.specs.Parts.{DoesPart, IsPartDone, IsPartMoment, AnyBook, SameButVehicle}
use Rattle.card_session.proofs.OnCard.{newest_told, ring_told, days_still, string_still, vehicles_written, ring_inside}
use Rattle.card_session.proofs.Round.{vehicles_is, round_set, round_extended, round_freed}

-- ---- fields of a vehicle entry that are written

same_vehicle : (o o' p p' : Odometer) (f f' l l' : TimeReal) (r r' c c' : List ℕ) → o ≡ o' → p ≡ p' → f ≡ f' → l ≡ l' → r ≡ r' → c ≡ c'
    → (let x : Vehicle = record { odometer_begin = o; odometer_end = p; first_use = f; last_use = l; registration = record { 0 = r }; counter = c } in x)
    ≡ record { odometer_begin = o'; odometer_end = p'; first_use = f'; last_use = l'; registration = record { 0 = r' }; counter = c' }
same_vehicle o o' p p' f f' l l' r r' c c' eo ep ef el er ec = rw (eo, ep, ef, el, er, ec) refl

module _ (e bytes : List ℕ) (place : ℕ) (inside : place + length bytes ≤ length e) where
  low : (k : ℕ) → k < length vehicle_widths → (a n : ℕ) → field_at vehicle_widths k (put place bytes e) ≡ bytes_at (put place bytes e) a n → field_at vehicle_widths k e ≡ bytes_at e a n → a + n ≤ place
      → field_at vehicle_widths k (put place bytes e) ≡ field_at vehicle_widths k e
  low k there a n new old before = new ∙ part_before place (length bytes) a n e (put place bytes e) (put_outside place bytes e inside) before ∙ sym old

  high : (k : ℕ) → k < length vehicle_widths → (a n : ℕ) → field_at vehicle_widths k (put place bytes e) ≡ bytes_at (put place bytes e) a n → field_at vehicle_widths k e ≡ bytes_at e a n → place + length bytes ≤ a
      → field_at vehicle_widths k (put place bytes e) ≡ field_at vehicle_widths k e
  high k there a n new old behind = new ∙ part_after place (length bytes) a n e (put place bytes e) (put_outside place bytes e inside) behind ∙ sym old

pub vehicle_measured : (e : List ℕ) (odometer : ℕ) → length e ≡ 31 → odometer < 2 ^ 24 → vehicle_of (put 3 (odometer_bytes (record { 0 = odometer })) e) ≡ measured odometer (vehicle_of e)
unfolding vehicle_of
vehicle_measured e odometer len fits =
    let bytes : List ℕ = odometer_bytes (record { 0 = odometer }) in
    let three : length bytes ≡ 3 = refl in
    let inside : 3 + length bytes ≤ length e = omega (arith, len, three) in
    same_vehicle _ _ _ _ _ _ _ _ _ _ _ _
    (ap odometer_of (low e bytes 3 inside 0 (omega arith) 0 3 (field_part vehicle_widths 0 (put 3 bytes e) (omega arith)) (field_part vehicle_widths 0 e (omega arith)) (omega arith)))
    (ap odometer_of (field_part vehicle_widths 1 (put 3 bytes e) (omega arith) ∙ part_put 3 bytes e inside) ∙ ap (λ (n : ℕ). let o : Odometer = record { 0 = n } in o) (big_number-big_bytes 3 odometer (omega (arith, fits))))
    (ap time_of (high e bytes 3 inside 2 (omega arith) 6 4 (field_part vehicle_widths 2 (put 3 bytes e) (omega arith)) (field_part vehicle_widths 2 e (omega arith)) (omega (arith, three))))
    (ap time_of (high e bytes 3 inside 3 (omega arith) 10 4 (field_part vehicle_widths 3 (put 3 bytes e) (omega arith)) (field_part vehicle_widths 3 e (omega arith)) (omega (arith, three))))
    (high e bytes 3 inside 4 (omega arith) 14 15 (field_part vehicle_widths 4 (put 3 bytes e) (omega arith)) (field_part vehicle_widths 4 e (omega arith)) (omega (arith, three)))
    (high e bytes 3 inside 5 (omega arith) 29 2 (field_part vehicle_widths 5 (put 3 bytes e) (omega arith)) (field_part vehicle_widths 5 e (omega arith)) (omega (arith, three)))

pub vehicle_used : (e : List ℕ) (seconds : ℕ) → length e ≡ 31 → seconds < 2 ^ 32 → vehicle_of (put 10 (time_bytes (record { 0 = seconds })) e) ≡ used seconds (vehicle_of e)
unfolding vehicle_of
vehicle_used e seconds len fits =
    let bytes : List ℕ = time_bytes (record { 0 = seconds }) in
    let four : length bytes ≡ 4 = refl in
    let inside : 10 + length bytes ≤ length e = omega (arith, len, four) in
    same_vehicle _ _ _ _ _ _ _ _ _ _ _ _
    (ap odometer_of (low e bytes 10 inside 0 (omega arith) 0 3 (field_part vehicle_widths 0 (put 10 bytes e) (omega arith)) (field_part vehicle_widths 0 e (omega arith)) (omega arith)))
    (ap odometer_of (low e bytes 10 inside 1 (omega arith) 3 3 (field_part vehicle_widths 1 (put 10 bytes e) (omega arith)) (field_part vehicle_widths 1 e (omega arith)) (omega arith)))
    (ap time_of (low e bytes 10 inside 2 (omega arith) 6 4 (field_part vehicle_widths 2 (put 10 bytes e) (omega arith)) (field_part vehicle_widths 2 e (omega arith)) (omega arith)))
    (ap time_of (field_part vehicle_widths 3 (put 10 bytes e) (omega arith) ∙ part_put 10 bytes e inside) ∙ ap (λ (n : ℕ). let t : TimeReal = record { 0 = n } in t) (big_number-big_bytes 4 seconds (omega (arith, fits))))
    (high e bytes 10 inside 4 (omega arith) 14 15 (field_part vehicle_widths 4 (put 10 bytes e) (omega arith)) (field_part vehicle_widths 4 e (omega arith)) (omega (arith, four)))
    (high e bytes 10 inside 5 (omega arith) 29 2 (field_part vehicle_widths 5 (put 10 bytes e) (omega arith)) (field_part vehicle_widths 5 e (omega arith)) (omega (arith, four)))

-- the gate of a vehicle entry is its first use
pub vehicle_opens : (r : Shape) → r.gate ≡ 6 → (v : Vehicle) (head : List ℕ) → head ≡ vehicle_bytes v → v.first_use.0 < 2 ^ 32 → gate_number r head ≡ v.first_use.0
vehicle_opens r gate v head is fits =
    ap (λ (g : ℕ). number_at head g 4) gate ∙ ap (λ (l : List ℕ). number_at l 6 4) is ∙ ap (λ (l : List ℕ). (time_of l).0) (vehicle_gate v) ∙ big_number-big_bytes 4 v.first_use.0 (omega (arith, fits))

part_length : (x : List ℕ) (p n : ℕ) → p + n ≤ length x → length (bytes_at x p n) ≡ n
part_length x p n inside = length-take-le n (drop p x) (omega (arith, inside, length-drop p x))

-- ---- the calls

knows_as : (s t : Session) (y : List ℕ) → SameButVehicle s t → Knows s.days y (book_of s.application y).days → PointsInside (vehicle_ring s.application) y → IsNewest (vehicle_ring s.application) y t.newest
    → t.vehicle ≡ (book_of s.application y).vehicles.newest → KnowsCard t y
knows_as s t y same days points newest vehicle = record {
  days = subst (λ (p : Application). Knows t.days y (book_of p y).days) (sym same.application) (subst (λ (h : Held). Knows h y (book_of s.application y).days) (sym same.days) days);
  points = subst (λ (p : Application). PointsInside (vehicle_ring p) y) (sym same.application) points;
  newest = subst (λ (p : Application). IsNewest (vehicle_ring p) y t.newest) (sym same.application) newest;
  vehicle = vehicle ∙ ap (λ (p : Application). (book_of p y).vehicles.newest) (sym same.application);
}

module _ (s t : Session) (value : IsValue s) (same : SameButVehicle s t) (old new : State) (failed : Bool) (card : MayKeep s.application old) (whole : IsCoherent old) where
  abbrev app : Application
  app = s.application

  abbrev ring : Shape
  ring = vehicle_ring s.application

  fits : (x : List ℕ) → old.image ≡ Some x → image_size_of app ≤ length x
  fits x was = omega (arith, card.fits, whole.sized x was)

  -- after a write on the entries
  known : (x y : List ℕ) → old.image ≡ Some x → KnowsCard s x → SameOutside ring.base (ring_size ring) x y → PointsInside ring y → IsNewest ring y t.newest → t.vehicle ≡ (book_of app y).vehicles.newest → KnowsCard t y
  known x y was knows outside points newest vehicle =
      let days : Knows s.days y (book_of app x).days = knows_elsewhere s.days x y (subst (λ (q : StringShape). bytes_at y q.base (4 + q.size) ≡ bytes_at x q.base (4 + q.size)) (sym value.days) (string_still app value.sizes x (fits x was) y outside)) (book_of app x).days knows.days in
      knows_as s t y same (subst (λ (ds : List Day). Knows s.days y ds) (sym (days_still app value.sizes x (fits x was) y outside)) days) points newest vehicle

  holds_at : (x : List ℕ) → KnowsCard s x → HoldsDays (day_string app) x (book_of app x).days
  holds_at x knows = subst (λ (q : StringShape). HoldsDays q x (book_of app x).days) value.days knows.days.holds

  -- SET A FIELD of the newest vehicle entry
  module _ (i offset : ℕ) (bytes : List ℕ) (u : Vehicle → Vehicle) (here : s.newest ≡ Some i) (still : t.newest ≡ s.newest) (vehicle : t.vehicle ≡ option_map u s.vehicle)
      (makes : (e : List ℕ) → length e ≡ 31 → vehicle_of (put offset bytes e) ≡ u (vehicle_of e)) where
    abbrev with_field : Book → Book
    with_field b = record { days = b.days; vehicles = renewed u b.vehicles }

    abbrev IsSettingField : Book → List Day → Vehicles → Type 0
    IsSettingField b days now = (days ≡ b.days) × ((now ≡ b.vehicles) ⊎ (now ≡ renewed u b.vehicles))

    newest_at : (x : List ℕ) → KnowsCard s x → IsNewest ring x (Some i)
    newest_at x knows = subst (λ (o : Option ℕ). IsNewest ring x o) here knows.newest

    set_outside : (x y : List ℕ) → KnowsCard s x → IsSet ring i offset bytes x y → SameOutside ring.base (ring_size ring) x y
    set_outside x y knows is = outside_wider ring.base (ring_size ring) (place_of ring i) ring.width x y is.outside (omega arith) (omega (arith, place_high ring i (newest_at x knows).below))

    set_makes : (x : List ℕ) → old.image ≡ Some x → KnowsCard s x → vehicle_of (put offset bytes (entry_at ring x i)) ≡ u (vehicle_of (entry_at ring x i))
    set_makes x was knows = makes (entry_at ring x i) (part_length x (place_of ring i) 31 (omega (arith, fits x was, ring_inside app, place_high ring i (newest_at x knows).below)))

    set_newest : (x y : List ℕ) → old.image ≡ Some x → KnowsCard s x → IsSet ring i offset bytes x y → (book_of app y).vehicles.newest ≡ option_map u (book_of app x).vehicles.newest
    set_newest x y was knows is =
        let newest = newest_at x knows in
        newest_told app y (Some i) (newest_set ring i offset bytes x y knows.points is (Some i) newest)
        ∙ ap (λ (l : List ℕ). Some (vehicle_of l)) is.entry
        ∙ ap (λ (v : Vehicle). Some v) (set_makes x was knows)
        ∙ ap (option_map u) (sym (newest_told app x (Some i) newest))

    set_vehicles : (x y : List ℕ) → old.image ≡ Some x → KnowsCard s x → IsSet ring i offset bytes x y → (book_of app y).vehicles ≡ renewed u (book_of app x).vehicles
    set_vehicles x y was knows is =
        vehicles_is (book_of app y).vehicles (renewed u (book_of app x).vehicles) (set_newest x y was knows is)
        (ring_told app y ∙ round_set app x knows.points y i offset bytes (newest_at x knows) is u (set_makes x was knows) ∙ ap (on_newest u) (sym (ring_told app x)))

    set_points : (x y : List ℕ) → KnowsCard s x → IsSet ring i offset bytes x y → PointsInside ring y
    set_points x y knows is = subst (λ (n : ℕ). n < ring.count) (sym is.pointer_is) knows.points

    pub set_part : (failed ≡ false → IfSome old.image (λ x. IfSome new.image (IsSet ring i offset bytes x))) → LeavesOnly old new (OrUnwritten (IsSet ring i offset bytes)) → HasCause old new failed
        → DoesPart old new failed (IsPartDone s t AnyBook with_field) (IsPartMoment s AnyBook IsSettingField)
    set_part set moments cause = record {
      done = λ fine. where_told old.image new.image _ (λ x y was is knows any.
          let one = at_image (λ y. IsSet ring i offset bytes x y) is (at_image (λ x. IfSome new.image (IsSet ring i offset bytes x)) was (set fine)) in (
            vehicles_written app value.sizes x (fits x was) y (set_outside x y knows one) (IsBook (with_field (book_of app x))) (holds_at x knows) (set_points x y knows one) (refl, set_vehicles x y was knows one),
            known x y was knows (set_outside x y knows one) (set_points x y knows one) (subst (λ (o : Option ℕ). IsNewest ring y o) (sym still) (newest_set ring i offset bytes x y knows.points one s.newest knows.newest))
                (vehicle ∙ ap (option_map u) knows.vehicle ∙ sym (set_newest x y was knows one)),
          ));
      leaves = weaken moments (λ x c was is knows any.
          ⊎_elim
          (λ unwritten. subst (λ (l : List ℕ). IsCard app (IsSettingField (book_of app x)) x l) (sym unwritten)
          (vehicles_written app value.sizes x (fits x was) x (outside_same ring.base (ring_size ring) x) (IsSettingField (book_of app x)) (holds_at x knows) knows.points (refl, inl refl)))
          (λ set. vehicles_written app value.sizes x (fits x was) c (set_outside x c knows set) (IsSettingField (book_of app x)) (holds_at x knows) (set_points x c knows set) (refl, inr (set_vehicles x c was knows set)))
          is);
      cause = inl cause;
    }

    -- the same by a shape that is the card's
    pub set_with : (q : Shape) → q ≡ ring → (failed ≡ false → IfSome old.image (λ x. IfSome new.image (IsSet q i offset bytes x))) → LeavesOnly old new (OrUnwritten (IsSet q i offset bytes)) → HasCause old new failed
        → DoesPart old new failed (IsPartDone s t AnyBook with_field) (IsPartMoment s AnyBook IsSettingField)
    set_with q is set moments cause =
        set_part (subst (λ (k : Shape). failed ≡ false → IfSome old.image (λ x. IfSome new.image (IsSet k i offset bytes x))) is set) (subst (λ (k : Shape). LeavesOnly old new (OrUnwritten (IsSet k i offset bytes))) is moments) cause

  -- A NEW ENTRY
  module _ (index : ℕ) (v : Vehicle) (head : List ℕ) (len : length head ≡ 31) (spelled : vehicle_of head ≡ v) (now : t.vehicle ≡ Some v) where
    abbrev with_new : Book → Book
    with_new b = record { days = b.days; vehicles = with_vehicle v b.vehicles }

    abbrev IsAddingNew : Book → List Day → Vehicles → Type 0
    IsAddingNew b days vehicles = (days ≡ b.days) × ((vehicles ≡ b.vehicles) ⊎ ((vehicles ≡ with_room b.vehicles) ⊎ (vehicles ≡ with_vehicle v b.vehicles)))

    two : 2 ≤ ring.count
    two = omega (arith, value.sizes.vehicles_least)

    -- all of the entry is new
    head_whole : (x : List ℕ) → old.image ≡ Some x → PointsInside ring x → with_head ring x (taken ring x) head ≡ head
    head_whole x was points =
        let below = taken_below ring x points in
        let none : drop (length head) (entry_at ring x (taken ring x)) ≡ [] = drop_all (length head) (entry_at ring x (taken ring x)) (omega (arith, len, part_length x (place_of ring (taken ring x)) 31 (omega (arith, fits x was, ring_inside app, place_high ring (taken ring x) below)))) in
        ap (λ (l : List ℕ). head ++ l) none ∙ append-nil head

    new_newest : (x y : List ℕ) → old.image ≡ Some x → PointsInside ring x → IsNewest ring y (Some (taken ring x)) → entry_at ring y (taken ring x) ≡ with_head ring x (taken ring x) head → (book_of app y).vehicles.newest ≡ Some v
    new_newest x y was points newest entry =
        newest_told app y (Some (taken ring x)) newest
        ∙ ap (λ (l : List ℕ). Some (vehicle_of l)) (entry ∙ head_whole x was points)
        ∙ ap (λ (w : Vehicle). Some w) spelled

    new_vehicles : (x y : List ℕ) → old.image ≡ Some x → PointsInside ring x → SameOthers ring (taken ring x) x y → IsExtended ring head x y → (book_of app y).vehicles ≡ with_vehicle v (book_of app x).vehicles
    new_vehicles x y was points others long =
        vehicles_is (book_of app y).vehicles (with_vehicle v (book_of app x).vehicles) (new_newest x y was points (newest_added ring head x y points long) long.entry)
        (ring_told app y ∙ round_extended app x points y others head long
        ∙ ap (λ (w : Vehicle). behind_first (ring_round app x) ++ Some w ∷ []) (ap vehicle_of (head_whole x was points) ∙ spelled)
        ∙ ap (λ (l : List (Option Vehicle)). behind_first l ++ Some v ∷ []) (sym (ring_told app x)))

    old_newest : (x c : List ℕ) → KnowsCard s x → (o : Option ℕ) → s.newest ≡ o → IsNewest ring c o → ((i : ℕ) → o ≡ Some i → entry_at ring c i ≡ entry_at ring x i) → (book_of app c).vehicles.newest ≡ (book_of app x).vehicles.newest
    old_newest x c knows None is newest same_entry = newest_told app c None newest ∙ sym (newest_told app x None (subst (λ (o : Option ℕ). IsNewest ring x o) is knows.newest))
    old_newest x c knows (Some i) is newest same_entry =
        newest_told app c (Some i) newest ∙ ap (λ (l : List ℕ). Some (vehicle_of l)) (same_entry i refl) ∙ sym (newest_told app x (Some i) (subst (λ (o : Option ℕ). IsNewest ring x o) is knows.newest))

    freed_vehicles : (x c : List ℕ) → KnowsCard s x → IsAddStep ring head x c → IsShortened ring x c → (book_of app c).vehicles ≡ with_room (book_of app x).vehicles
    freed_vehicles x c knows step short =
        vehicles_is (book_of app c).vehicles (with_room (book_of app x).vehicles)
        (old_newest x c knows s.newest refl (newest_stays ring two x knows.points c short.indices_are step.others s.newest knows.newest)
        (λ i is. newest_bytes ring two x knows.points c short.indices_are step.others i (subst (λ (o : Option ℕ). IsNewest ring x o) is knows.newest)))
        (ring_told app c ∙ round_freed app x knows.points c step.others two short.shut step.pointer_is ∙ ap (λ (l : List (Option Vehicle)). None ∷ behind_first l) (sym (ring_told app x)))

    at_step : (x c : List ℕ) → old.image ≡ Some x → KnowsCard s x → IsAddStep ring head x c
        → ((book_of app c).vehicles ≡ (book_of app x).vehicles) ⊎ (((book_of app c).vehicles ≡ with_room (book_of app x).vehicles) ⊎ ((book_of app c).vehicles ≡ with_vehicle v (book_of app x).vehicles))
    at_step x c was knows step =
        ⊎_elim (λ unwritten. inl (ap (λ (l : List ℕ). (book_of app l).vehicles) unwritten))
        (λ changed. inr (⊎_elim (λ short. inl (freed_vehicles x c knows step short)) (λ long. inr (new_vehicles x c was knows.points step.others long)) changed))
        step.list

    pub new_part : (failed ≡ false → t.newest ≡ Some index) → (failed ≡ false → IfSome old.image (λ x. PointsInside ring x → index ≡ taken ring x))
        → (failed ≡ false → IfSome old.image (λ x. IfSome new.image (IsAdded ring head x))) → LeavesOnly old new (IsAdding ring head) → HasCause old new failed
        → DoesPart old new failed (IsPartDone s t AnyBook with_new) (IsPartMoment s AnyBook IsAddingNew)
    new_part newest placed added moments cause = record {
      done = λ fine. where_told old.image new.image _ (λ x y was is knows any.
          let one = at_image (λ y. IsAdded ring head x y) is (at_image (λ x. IfSome new.image (IsAdded ring head x)) was (added fine)) in
          let at : index ≡ taken ring x = at_image (λ x. PointsInside ring x → index ≡ taken ring x) was (placed fine) knows.points in
          let last : IsNewest ring y (Some (taken ring x)) = newest_added ring head x y knows.points (one.list knows.points) in
          let vehicles = new_vehicles x y was knows.points (one.others knows.points) (one.list knows.points) in (
            vehicles_written app value.sizes x (fits x was) y one.outside (IsBook (with_new (book_of app x))) (holds_at x knows) (one.points knows.points) (refl, vehicles),
            known x y was knows one.outside (one.points knows.points) (subst (λ (o : Option ℕ). IsNewest ring y o) (sym (newest fine ∙ ap (λ (n : ℕ). Some n) at)) last)
                (now ∙ sym (new_newest x y was knows.points last (one.list knows.points).entry)),
          ));
      leaves = weaken moments (λ x c was is knows any.
          let step = is.step knows.points in
          vehicles_written app value.sizes x (fits x was) c is.outside (IsAddingNew (book_of app x)) (holds_at x knows) step.points (refl, at_step x c was knows step));
      cause = inl cause;
    }

    pub new_with : (q : Shape) → q ≡ ring → (failed ≡ false → t.newest ≡ Some index) → (failed ≡ false → IfSome old.image (λ x. PointsInside q x → index ≡ taken q x))
        → (failed ≡ false → IfSome old.image (λ x. IfSome new.image (IsAdded q head x))) → LeavesOnly old new (IsAdding q head) → HasCause old new failed
        → DoesPart old new failed (IsPartDone s t AnyBook with_new) (IsPartMoment s AnyBook IsAddingNew)
    new_with q is newest placed added moments cause =
        new_part newest (subst (λ (k : Shape). failed ≡ false → IfSome old.image (λ x. PointsInside k x → index ≡ taken k x)) is placed)
        (subst (λ (k : Shape). failed ≡ false → IfSome old.image (λ x. IfSome new.image (IsAdded k head x))) is added) (subst (λ (k : Shape). LeavesOnly old new (IsAdding k head)) is moments) cause

-- the newest index is one of the ring
pub index_in : (s : Session) → IsValue s → (i : ℕ) → s.newest ≡ Some i → i < s.vehicles.count
index_in s value i is =
    let low : i < s.application.vehicles = subst (λ (o : Option ℕ). IfSome o (λ j. j < s.application.vehicles)) is value.newest in
    omega (arith, low, ap (λ (r : Shape). r.count) value.vehicles)
