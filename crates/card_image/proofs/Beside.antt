-- What writes leave of what a card shows: a write beside its parts, one of its vehicle entries alone, one of its session alone.
use Rattle.std.proofs.Common.{◌≡◌, inl, inr, ℕ, ◌+◌, ◌/◌, ◌<◌, cond, Option, Some, None, option_map, List, [], ◌∷◌, ◌++◌, refl, sym, ◌∙◌, ap, subst, arith}
use Rattle.std.specs.Prelude.{nat_lt}
use Rattle.card_files.specs.card_layout.Images.{big_number}
use Rattle.card_files.proofs.tach_media.Images.{part_before, part_after, part_in}
use Rattle.card_files.specs.card_layout.declared.files.Application.{Application}
use Rattle.card_files.specs.card_layout.Application.{IsApplication, first_bad_field, place_of_field}
use Rattle.card_files.specs.card_layout.Files.{place_of, size_of, files_of}
use Rattle.card_files.specs.tach_media.Medium.{bytes_at, SameOutside}
use Rattle.card_files.specs.Vehicles.{vehicle_of}
use Rattle.card_files.specs.CurrentUses.{current_use_of}
use Rattle.card_retention.specs.card_model.Days.{Day}
use Rattle.card_retention.specs.card_model.Image.{oldest_pointer}
use Rattle.card_retention.specs.card_model.Checks.{first_failing, first_bad}
use Rattle.card_image.proofs.DaysBeside.{oldest_elsewhere, days_elsewhere, bad_elsewhere}
use Rattle.card_files.specs.gated_ring.Ring.{IsShape, PointsInside, indices, entry_at, size_of as ring_size, IsLast}
use Rattle.card_files.proofs.gated_ring.Orders.{Each}
use Rattle.card_files.proofs.gated_ring.Listing.{indices_below}
use Rattle.card_files.proofs.gated_ring.Elsewhere.{indices_elsewhere, entry_elsewhere, pointer_elsewhere}
use Rattle.card_image.specs.Fields.{file, file_bytes, day_string, vehicle_ring, place_ring, last_of, vehicle_at, newest_vehicle, last_use_of, last_use, end_mark, current_use, session_time, card_days, card_number}
use Rattle.card_image.specs.View.{view_of, card_view}
use Rattle.card_image.specs.Judging.{FileCheck, file_check, first_bad_of, pointer_bad, word_checks, first_bad_file}
use Rattle.card_image.specs.Beside.{HaveSame, HaveSameDays, HaveSameVehicles, HaveSameSession, HaveSameSizes, HaveSamePlacePointer, HaveSameIdentification, LiesBeside, IsBeside}

-- a write beside a part leaves it
beside : (place len base size : ℕ) (x c : List ℕ) → LiesBeside place len base size → SameOutside place len x c → HaveSame base size x c
beside place len base size x c (inl low) same = part_after place len base size x c same low
beside place len base size x c (inr high) same = part_before place len base size x c same high

-- the last of some indices below a number is below it
last_below : (n : ℕ) (js : List ℕ) → Each (λ j. j < n) js → (i : ℕ) → last_of js ≡ Some i → i < n
last_below n [] all i is = cc
last_below n (j ∷ []) all i is = subst (λ (k : ℕ). k < n) (some_is j i is) all.0
  where
    some_is : (j i : ℕ) → Some j ≡ Some i → j ≡ i
    some_is j i is = cc
last_below n (j ∷ k ∷ js) all i is = last_below n (k ∷ js) all.1 i is

module _ (app : Application) (x c : List ℕ) where
  pub days_same : HaveSameDays app x c → card_days app c ≡ card_days app x
  unfolding card_days
  days_same same = days_elsewhere (day_string app) x c same

  pub session_same : HaveSameSession app x c → session_time app c ≡ session_time app x
  unfolding current_use files_of current_use_of
  session_same same = ap (big_number 4) (part_in c (place_of app (file 0x0507)) 19 0 4 (omega arith) ∙ at_front c ∙ same ∙ sym (at_front x) ∙ sym (part_in x (place_of app (file 0x0507)) 19 0 4 (omega arith)))
    where
      at_front : (y : List ℕ) → bytes_at y (place_of app (file 0x0507) + 0) 4 ≡ bytes_at y (place_of app (file 0x0507)) 4
      at_front y = let none : place_of app (file 0x0507) + 0 ≡ place_of app (file 0x0507) = omega arith in ap (λ (p : ℕ). bytes_at y p 4) none

  pub number_same : HaveSameSizes app x c → HaveSameIdentification app x c → card_number app c ≡ card_number app x
  unfolding card_number files_of
  number_same sizes own =
      ap (λ (l : List ℕ). l ++ bytes_at c (place_of app (file 0x0520)) 17) (sym (kind c) ∙ ap (λ (l : List ℕ). bytes_at l 0 1) sizes ∙ kind x)
      ∙ ap (λ (l : List ℕ). bytes_at x (place_of app (file 0x0501)) 1 ++ l) own
    where
      kind : (y : List ℕ) → bytes_at (bytes_at y (place_of app (file 0x0501)) 10) 0 1 ≡ bytes_at y (place_of app (file 0x0501)) 1
      kind y =
          let none : place_of app (file 0x0501) + 0 ≡ place_of app (file 0x0501) = omega arith in
          part_in y (place_of app (file 0x0501)) 10 0 1 (omega arith) ∙ ap (λ (p : ℕ). bytes_at y p 1) none

  module _ (sound : IsApplication app) where
    ring_shape : IsShape (vehicle_ring app)
    unfolding files_of
    ring_shape = record {
      some = omega (arith, sound.vehicles_least);
      gate = omega arith;
      pointer = omega arith;
      holds = λ _. omega (arith, sound.vehicles_most);
      short = omega (arith, sound.events_most, sound.faults_most, sound.string_most, sound.vehicles_most);
    }

    module _ (known : PointsInside (vehicle_ring app) x) (same : HaveSameVehicles app x c) where
      vehicle_same : (o : Option ℕ) → ((i : ℕ) → o ≡ Some i → i < app.vehicles) → vehicle_at app c o ≡ vehicle_at app x o
      vehicle_same None below = refl
      vehicle_same (Some i) below = ap (λ (l : List ℕ). Some (vehicle_of l)) (entry_elsewhere (vehicle_ring app) ring_shape x c same i (below i refl))

      pub last_use_same : last_use app c ≡ last_use app x
      unfolding newest_vehicle
      last_use_same =
          ap (λ (js : List ℕ). last_use_of (vehicle_at app c (last_of js))) (indices_elsewhere (vehicle_ring app) ring_shape x c same known)
          ∙ ap last_use_of (vehicle_same (last_of (indices (vehicle_ring app) x)) (last_below app.vehicles (indices (vehicle_ring app) x) (indices_below (vehicle_ring app) x known)))

      -- THE SESSION ALONE
      pub session_alone : HaveSameDays app x c → card_view app c ≡ view_of (last_use app x) (end_mark app x) (session_time app c) (card_days app x)
      unfolding card_view
      session_alone days =
          ap (λ (u : ℕ). view_of u (u / 60) (session_time app c) (card_days app c)) last_use_same
          ∙ ap (λ (ds : List Day). view_of (last_use app x) (end_mark app x) (session_time app c) ds) (days_same days)

      -- A WRITE BESIDE what a card shows
      pub view_same : HaveSameDays app x c → HaveSameSession app x c → card_view app c ≡ card_view app x
      unfolding card_view
      view_same days session = session_alone days ∙ ap (λ (s : ℕ). view_of (last_use app x) (end_mark app x) s (card_days app x)) (session_same session)

      pub bad_same : HaveSameSizes app x c → HaveSameDays app x c → HaveSamePlacePointer app x c → HaveSameSession app x c → first_bad_file app c ≡ first_bad_file app x
      unfolding first_bad_file
      bad_same sizes days places session =
          ap (λ (l : List ℕ). first_bad_of (file_check 0x0501 (option_map place_of_field (first_bad_field l)) ∷ rest c)) sizes
          ∙ ap (λ (o : Option ℕ). first_bad_of (first_check ∷ file_check 0x0504 o ∷ rings c ∷ place_check c ∷ words c)) (bad_elsewhere (day_string app) x c days)
          ∙ ap (λ (p : ℕ). first_bad_of (first_check ∷ days_check ∷ file_check 0x0505 (cond (nat_lt p app.vehicles) None (Some 0)) ∷ place_check c ∷ words c)) (pointer_elsewhere (vehicle_ring app) ring_shape x c same)
          ∙ ap (λ (l : List ℕ). first_bad_of (first_check ∷ days_check ∷ rings x ∷ file_check 0x0506 (cond (nat_lt (big_number 1 l) app.places) None (Some 0)) ∷ words c)) places
          ∙ ap (λ (w : List FileCheck). first_bad_of (first_check ∷ days_check ∷ rings x ∷ place_check x ∷ w)) words_same
        where
          rings : List ℕ → FileCheck
          rings y = file_check 0x0505 (pointer_bad (vehicle_ring app) y)

          place_check : List ℕ → FileCheck
          place_check y = file_check 0x0506 (pointer_bad (place_ring app) y)

          words_by : (oldest mark session : ℕ) → List Day → List FileCheck
          words_by oldest mark session ds = file_check 0x0504 (first_failing (word_checks app.activity oldest mark session ds)) ∷ []

          words : List ℕ → List FileCheck
          words y = words_by (oldest_pointer (day_string app) y) (end_mark app y) (session_time app y) (card_days app y)

          rest : List ℕ → List FileCheck
          rest y = file_check 0x0504 (first_bad (day_string app) y) ∷ rings y ∷ place_check y ∷ words y

          first_check : FileCheck
          first_check = file_check 0x0501 (option_map place_of_field (first_bad_field (file_bytes app 0x0501 x)))

          days_check : FileCheck
          days_check = file_check 0x0504 (first_bad (day_string app) x)

          words_same : words c ≡ words x
          words_same =
              ap (λ (o : ℕ). words_by o (end_mark app c) (session_time app c) (card_days app c)) (oldest_elsewhere (day_string app) x c days)
              ∙ ap (λ (u : ℕ). words_by (oldest_pointer (day_string app) x) (u / 60) (session_time app c) (card_days app c)) last_use_same
              ∙ ap (λ (s : ℕ). words_by (oldest_pointer (day_string app) x) (end_mark app x) s (card_days app c)) (session_same session)
              ∙ ap (λ (ds : List Day). words_by (oldest_pointer (day_string app) x) (end_mark app x) (session_time app x) ds) (days_same days)

    pub card_beside : PointsInside (vehicle_ring app) x → (place len : ℕ) → IsBeside app place len → SameOutside place len x c →
        (card_view app c ≡ card_view app x) × (first_bad_file app c ≡ first_bad_file app x) × (card_number app c ≡ card_number app x)
    card_beside known place len b same =
        let sizes = beside place len (place_of app (file 0x0501)) (size_of app (file 0x0501)) x c b.sizes same in
        let days = beside place len (day_string app).base (4 + (day_string app).size) x c b.days same in
        let vehicles = beside place len (vehicle_ring app).base (ring_size (vehicle_ring app)) x c b.vehicles same in
        let places = beside place len (place_ring app).base (place_ring app).pointer_width x c b.places same in
        let session = beside place len (place_of app (file 0x0507)) 4 x c b.session same in
        let own = beside place len (place_of app (file 0x0520)) 17 x c b.identification same in
        (view_same known vehicles days session, bad_same known vehicles sizes days places session, number_same sizes own)

  -- THE VEHICLE ENTRIES ALONE: of the view they move the end mark and what follows from it
  pub vehicles_alone : HaveSameDays app x c → HaveSameSession app x c → card_view app c ≡ view_of (last_use app c) (end_mark app c) (session_time app x) (card_days app x)
  unfolding card_view
  vehicles_alone days session =
      ap (λ (s : ℕ). view_of (last_use app c) (end_mark app c) s (card_days app c)) (session_same session)
      ∙ ap (λ (ds : List Day). view_of (last_use app c) (end_mark app c) (session_time app x) ds) (days_same days)

last_is : (older : List ℕ) (i : ℕ) → last_of (older ++ i ∷ []) ≡ Some i
last_is [] i = refl
last_is (j ∷ []) i = refl
last_is (j ∷ k ∷ js) i = last_is (k ∷ js) i

-- the last use is that of the ring's last entry, and 0 where the ring is empty
pub last_use_at : (app : Application) (x : List ℕ) (i : ℕ) → IsLast (vehicle_ring app) x i → last_use app x ≡ (vehicle_of (entry_at (vehicle_ring app) x i)).last_use.0
unfolding newest_vehicle
last_use_at app x i last = ap (λ (js : List ℕ). last_use_of (vehicle_at app x (last_of js))) last.indices_are ∙ ap (λ (o : Option ℕ). last_use_of (vehicle_at app x o)) (last_is last.older i)
