-- What the vehicle entries of a card come to at each moment of each call on it: a keep, a closing, an insertion and a note. And so each of them is what it was.
use Rattle.std.proofs.Common.{◌≡◌, ◌⊎◌, inl, inr, ℕ, suc, ◌+◌, ◌*◌, ◌/◌, ◌≤◌, Bool, true, false, cond, Option, Some, None, IfSome, List, [], ◌∷◌, ◌++◌, length, refl, sym, ◌∙◌, ap, subst, arith, option_map}
use Rattle.std.specs.Prelude.{nat_lt}
use Rattle.device_calls.specs.activity_codec.declared.values.Activity.{Activity}
use Rattle.device_calls.specs.activity_codec.declared.values.Activity.TheVariants.{Rest}
use Rattle.device_calls.specs.activity_codec.declared.entries.Entry.{Entry}
use Rattle.device_calls.specs.tacho_types.declared.texts.Registration.{Registration}
use Rattle.tach_media.specs.card_layout.declared.files.Application.{Application}
use Rattle.tach_media.specs.card_layout.Application.{IsApplication}
use Rattle.tach_media.specs.card_layout.Files.{place_of, image_size_of}
use Rattle.device_calls.specs.gated_ring.Ring.{PointsInside}
use Rattle.device_calls.proofs.gated_ring.Elsewhere.{points_elsewhere}
use Rattle.device_calls.specs.card_image.Beside.{HaveSameVehicles}
use Rattle.device_calls.specs.card_image.Fields.{file, vehicle_ring}
use Rattle.device_calls.specs.card_image.Judging.{IsValid}
use Rattle.device_calls.specs.card_files.declared.vehicle.Vehicle.{Vehicle}
use Rattle.device_calls.specs.card_model.Days.{Day}
use Rattle.device_calls.specs.card_retention.Shown.{is_open}
use Rattle.device_calls.specs.card_session.Vehicles.{Vehicles, last_use_in, any_stands, on_newest, renewed, behind_first, with_vehicle, with_room}
use Rattle.device_calls.specs.card_session.Books.{Book, mark_of, with_entry, closed, closed_days, used, used_until, measured, measured_to, goes_on_with, begun_vehicle, vehicle_counter, vehicles_with, last_used}
use Rattle.device_calls.specs.card_session.Sessions.{Session, book_of}
use Rattle.device_calls.specs.card_session.Moments.{IsKeepMoment, IsBeforeUse, IsCloseMoment}
use Rattle.device_calls.specs.card_session.Cards.{IsCardKeeping, IsCardClosing, ended, grown}
use Rattle.device_calls.specs.card_session.Inserting.{lacked, with_cut, with_owed, IsReplaying, repaired, IsRepairMoment, IsStill, IsRepaired, IsNoted, IsNoting, IsShut, IsShutting, IsReopening, During, InsertingClosed, InsertingOpen, IsCardInserting}
use Rattle.device_calls.proofs.card_session.OnCard.{ring_shape}
use Rattle.device_calls.proofs.card_session.Composing.{told_book}
use Rattle.device_calls.proofs.card_session.InsertingCards.{noted_same, noting_same}
use Rattle.device_calls.proofs.card_session.InsertingUse.{use_inside}
use Rattle.device_calls.proofs.card_session.InsertingOpen.{opening_same, reopening_same}
use Rattle.device_calls.proofs.card_session.InsertingAgain.{noted_keeps}
use Rattle.device_calls.proofs.card_session.Stopping.{ended_same}
use Rattle.device_calls.proofs.card_string.SameBook.{same_book}
use Rattle.device_calls.specs.CardNotes.{IsNote}
use Rattle.run_devices.specs.Registered.{RingIn, AreIn}
use Rattle.run_devices.proofs.NotedCard.{note-book}

-- ---- WHAT A CALL COMES TO, from vehicle entries that are so

-- they are so still, or the last use of the newest one was moved to the minute behind it
abbrev pub OrClosed : (K : Vehicles → Type 0) → Vehicles → Type 0
OrClosed K v = K v ⊎ ((u : Vehicles) × K u × (v ≡ last_used (60 * suc (last_use_in u / 60)) u))

-- or a keep is on its way, of a minute that may be: the newest one, which goes on, has the odometer value; or the place of a new one is free
abbrev pub OrKeeping : (K : Vehicles → Type 0) → (May : ℕ → Type 0) → Registration → (odometer : ℕ) → Vehicles → Type 0
OrKeeping K May registration odometer v =
    K v ⊎ ((minute : ℕ) × May minute × (u : Vehicles) × K u × (((goes_on_with registration minute u.newest ≡ true) × (v ≡ measured_to odometer u)) ⊎ (v ≡ with_room u)))

-- one or the other
abbrev pub OrInserting : (K : Vehicles → Type 0) → (May : ℕ → Type 0) → Registration → (odometer : ℕ) → Vehicles → Type 0
OrInserting K May registration odometer v = OrClosed K v ⊎ OrKeeping K May registration odometer v

-- a minute like any other
abbrev pub AnyMinute : ℕ → Type 0
AnyMinute minute = Unit {0}

-- each of these entries is of a minute that may be
abbrev pub AllMay : (May : ℕ → Type 0) → List Entry → Type 0
AllMay May [] = Unit {0}
AllMay May (e ∷ es) = May e.minute × AllMay May es

pub any-may : (es : List Entry) → AllMay AnyMinute es
any-may [] = tt
any-may (e ∷ es) = (tt, any-may es)

lacked-may : (May : ℕ → Type 0) (mark : ℕ) (es : List Entry) → AllMay May es → AllMay May (lacked mark es)
lacked-may May mark [] may = tt
lacked-may May mark (e ∷ es) may = by (nat_lt mark e.minute) (lacked-may May mark es may.1)
  where
    by : (b : Bool) → AllMay May (lacked mark es) → AllMay May (cond b (e ∷ es) (lacked mark es))
    by true rest = may
    by false rest = rest

module _ (K : Vehicles → Type 0) where
  same-so : (v w : Vehicles) → w ≡ v → K v → K w
  same-so v w same is = subst K (sym same) is

  closed-so : (size : ℕ) (act : Activity) (b : Book) → K b.vehicles → OrClosed K (closed size act b).vehicles
  closed-so size act b is = by (is_open (mark_of b) b.days)
    where
      by : (o : Bool) → OrClosed K (cond o (let c : Book = record { days = closed_days size (mark_of b) act b.days; vehicles = last_used (60 * suc (mark_of b)) b.vehicles } in c) b).vehicles
      by true = inr (b.vehicles, is, refl)
      by false = inl is

  closing-so : (size : ℕ) (act : Activity) (b : Book) (days : List Day) (vehicles : Vehicles) → K b.vehicles → IsCloseMoment size act b days vehicles → OrClosed K vehicles
  closing-so size act b days vehicles is (inl old) = inl (same-so b.vehicles vehicles old.0 is)
  closing-so size act b days vehicles is (inr new) = subst (OrClosed K) (sym new.1) (closed-so size act b is)

  use-so : (May : ℕ → Type 0) (registration : Registration) (odometer minute : ℕ) → May minute → (v w : Vehicles) → K v → IsBeforeUse registration odometer minute v w → OrKeeping K May registration odometer w
  use-so May registration odometer minute may v w is (inl same) = inl (same-so v w same is)
  use-so May registration odometer minute may v w is (inr (inl on)) = inr (minute, may, v, is, inl on)
  use-so May registration odometer minute may v w is (inr (inr room)) = inr (minute, may, v, is, inr room.1)

  -- a keep, where they are so with its minute
  keeping-so : (May : ℕ → Type 0) (size : ℕ) (registration : Registration) (odometer more : ℕ) (e : Entry) → May e.minute → (b : Book) (days : List Day) (vehicles : Vehicles) → K (vehicles_with registration odometer e.minute b.vehicles) → K b.vehicles → IsKeepMoment size registration odometer more e b days vehicles → OrKeeping K May registration odometer vehicles
  keeping-so May size registration odometer more e may b days vehicles with_it is (inl old) = inl (same-so b.vehicles vehicles old.0 is)
  keeping-so May size registration odometer more e may b days vehicles with_it is (inr (now, inl before)) = use-so May registration odometer e.minute may b.vehicles vehicles is before
  keeping-so May size registration odometer more e may b days vehicles with_it is (inr (now, inr new)) = inl (same-so (with_entry size registration odometer more b e).vehicles vehicles new with_it)

  -- where they are so with each minute more that may be, in this vehicle and with this odometer value
  module _ (May : ℕ → Type 0) (size : ℕ) (registration : Registration) (odometer : ℕ) (minute-so : (minute : ℕ) → May minute → (v : Vehicles) → K v → K (vehicles_with registration odometer minute v)) where
    entry-so : (more : ℕ) (b : Book) (e : Entry) → May e.minute → K b.vehicles → K (with_entry size registration odometer more b e).vehicles
    entry-so more b e may is = minute-so e.minute may b.vehicles is

    pub owed-so : (es : List Entry) (b : Book) → AllMay May es → K b.vehicles → K (with_owed size registration odometer es b).vehicles
    owed-so [] b may is = is
    owed-so (e ∷ es) b may is = owed-so es (with_entry size registration odometer 0 b e) may.1 (entry-so 0 b e may.0 is)

    pub replaying-so : (es : List Entry) (b : Book) (days : List Day) (vehicles : Vehicles) → AllMay May es → K b.vehicles → IsReplaying size registration odometer es b days vehicles → OrKeeping K May registration odometer vehicles
    replaying-so [] b days vehicles may is book = inl (same-so b.vehicles vehicles book.1 is)
    replaying-so (e ∷ es) b days vehicles may is (inl moment) = keeping-so May size registration odometer 0 e may.0 b days vehicles (entry-so 0 b e may.0 is) is moment
    replaying-so (e ∷ es) b days vehicles may is (inr rest) = replaying-so es (with_entry size registration odometer 0 b e) days vehicles may.1 (entry-so 0 b e may.0 is) rest

    repairing-so : (owed : List Entry) (b : Book) (days : List Day) (vehicles : Vehicles) → AllMay May owed → K b.vehicles → IsRepairMoment size registration odometer owed b days vehicles → OrKeeping K May registration odometer vehicles
    repairing-so owed b days vehicles may is (inl cutting) = inl (same-so b.vehicles vehicles cutting.1 is)
    repairing-so owed b days vehicles may is (inr replaying) = replaying-so (lacked (mark_of b) owed) (with_cut (mark_of b) b) days vehicles (lacked-may May (mark_of b) owed may) is replaying

    repaired-so : (owed : List Entry) (b : Book) → AllMay May owed → K b.vehicles → K (repaired size registration odometer owed b).vehicles
    repaired-so owed b may is = owed-so (lacked (mark_of b) owed) (with_cut (mark_of b) b) (lacked-may May (mark_of b) owed may) is

  -- ---- OF A CARD'S IMAGE
  abbrev On : Application → List ℕ → Type 0
  On app x = K (book_of app x).vehicles

  same-on : (app : Application) (x y : List ℕ) → book_of app y ≡ book_of app x → On app x → On app y
  same-on app x y same is = subst (λ (b : Book). K b.vehicles) (sym same) is

  same-closed : (app : Application) (x y : List ℕ) → book_of app y ≡ book_of app x → OrClosed K (book_of app x).vehicles → OrClosed K (book_of app y).vehicles
  same-closed app x y same is = subst (λ (b : Book). OrClosed K b.vehicles) (sym same) is

  -- a keep
  pub keep-so : (s : Session) (e : Entry) (odometer : ℕ) → ((v : Vehicles) → K v → K (vehicles_with s.registration odometer e.minute v)) → (x y : List ℕ) → On s.application x → IsCardKeeping s e odometer x y → OrKeeping K AnyMinute s.registration odometer (book_of s.application y).vehicles
  keep-so s e odometer minute-so x y is keeping =
      keeping-so AnyMinute s.application.activity s.registration odometer (grown s.odometer odometer) e tt (book_of s.application x) (book_of s.application y).days (book_of s.application y).vehicles (minute-so (book_of s.application x).vehicles is) is keeping.card.told

  shutting-on : (app : Application) (act : Activity) (x y : List ℕ) → On app x → IsCloseMoment app.activity act (book_of app x) (book_of app y).days (book_of app y).vehicles → OrClosed K (book_of app y).vehicles
  shutting-on app act x y is moment = closing-so app.activity act (book_of app x) (book_of app y).days (book_of app y).vehicles is moment

  -- a closing
  pub close-so : (s : Session) (act : Activity) (x y : List ℕ) → IsApplication s.application → image_size_of s.application ≤ length x → On s.application x → IsCardClosing s act x y → OrClosed K (book_of s.application y).vehicles
  close-so s act x y sound fits is (inl card) = shutting-on s.application act x y is card.told
  close-so s act x y sound fits is (inr done) =
      let k : List ℕ = done.before in
      let side = ended_same s.application sound k (omega (arith, fits, done.card.outside.same_length)) done.card.points in
      let same : book_of s.application y ≡ book_of s.application k = ap (book_of s.application) done.session ∙ same_book s.application sound k (ended s.application k) done.card.points side.0 side.1 in
      same-closed s.application k y same (shutting-on s.application act x k is (inr done.card.told))

  -- a note
  pub note-so : (app : Application) → IsApplication app → (x : List ℕ) → IsValid app x → (y : List ℕ) → IsNote app x y → On app x → On app y
  note-so app sound x valid y note is = same-on app x y (note-book app sound x valid y note) is

  -- an insertion
  module _ (app : Application) (sound : IsApplication app) (registration : Registration) (long : length registration.0 ≡ 15) (now : ℕ) (x : List ℕ) (fits : image_size_of app ≤ length x) where
    shut-on : (x1 x2 : List ℕ) → On app x1 → IsShut app x1 x2 → OrClosed K (book_of app x2).vehicles
    shut-on x1 x2 on shut = shutting-on app Rest x1 x2 on (inr shut.told)

    -- behind the repair, of an image as long as before
    pub mended-on : (x2 : List ℕ) → length x2 ≡ length x → PointsInside (vehicle_ring app) x2 → On app x2 → (y : List ℕ)
        → During (IsNoting app now) (IsNoted app now) (During (IsShutting app) (IsShut app) (IsReopening app registration now)) x2 y → OrClosed K (book_of app y).vehicles
    mended-on x2 same points on y (inl noting) =
        let side = noting_same app now x2 y noting in inl (same-on app x2 y (same_book app sound x2 y points side.0 side.1) on)
    mended-on x2 same points on y (inr (x3, noted, inl shutting)) =
        let side = noted_same app now x2 x3 noted in
        shutting-on app Rest x3 y (same-on app x2 x3 (same_book app sound x2 x3 points side.0 side.1) on) shutting.told
    mended-on x2 same points on y (inr (x3, noted, inr (x4, shut, reopening))) =
        let two : image_size_of app ≤ length x2 = omega (arith, fits, same) in
        let side = noted_same app now x2 x3 noted in
        let third : On app x3 = same-on app x2 x3 (same_book app sound x2 x3 points side.0 side.1) on in
        let room : place_of app (file 0x0507) + 19 ≤ length x4 = omega (arith, use_inside app, two, (noted_keeps app now x2 x3 (omega (arith, use_inside app, two)) noted).1, shut.outside.same_length) in
        let last = reopening_same app registration now long x4 y room reopening in
        same-closed app x4 y (same_book app sound x4 y shut.points last.0 last.1) (shut-on x3 x4 third shut)

    module _ (is : On app x) where
      still-on : (y : List ℕ) → IsStill app x y → On app y
      still-on y still = same-on app x y (told_book app (book_of app x) x y still) is

      closed-on : (y : List ℕ) → InsertingClosed app registration now x y → OrClosed K (book_of app y).vehicles
      closed-on y (inl still) = inl (still-on y still)
      closed-on y (inr (x1, still, inl shutting)) = shutting-on app Rest x1 y (still-on x1 still) shutting.told
      closed-on y (inr (x1, still, inr (x2, shut, opening))) =
          let side = opening_same app registration now long x2 y (omega (arith, use_inside app, fits, still.outside.same_length, shut.outside.same_length)) opening in
          same-closed app x2 y (same_book app sound x2 y shut.points side.0 side.1) (shut-on x1 x2 (still-on x1 still) shut)

      module _ (odometer : ℕ) (May : ℕ → Type 0) (minute-so : (minute : ℕ) → May minute → (v : Vehicles) → K v → K (vehicles_with registration odometer minute v)) (owed : List Entry) (may : AllMay May owed) where
        repaired-on : (x1 x2 : List ℕ) → IsStill app x x1 → IsRepaired app registration odometer owed x1 x2 → On app x2
        repaired-on x1 x2 still mended =
            same-so (repaired app.activity registration odometer owed (book_of app x1)).vehicles (book_of app x2).vehicles mended.told.1
            (repaired-so May app.activity registration odometer minute-so owed (book_of app x1) may (still-on x1 still))

        open-on : (y : List ℕ) → InsertingOpen app registration odometer owed now x y → OrInserting K May registration odometer (book_of app y).vehicles
        open-on y (inl still) = inl (inl (still-on y still))
        open-on y (inr (x1, still, inl repairing)) =
            inr (repairing-so May app.activity registration odometer minute-so owed (book_of app x1) (book_of app y).days (book_of app y).vehicles may (still-on x1 still) repairing.told)
        open-on y (inr (x1, still, inr (x2, mended, rest))) = inl (mended-on x2 (omega (arith, still.outside.same_length, mended.outside.same_length)) mended.points (repaired-on x1 x2 still mended) y rest)

        pub inserting-so : (y : List ℕ) → IsCardInserting app registration odometer owed now x y → OrInserting K May registration odometer (book_of app y).vehicles
        inserting-so y (inl shut) = inl (closed-on y shut.1)
        inserting-so y (inr unclosed) = open-on y unclosed.1

-- ---- EACH VEHICLE ENTRY is so still

-- what stays so with another last use
module _ (P : Vehicle → Type 0) (used-is : (seconds : ℕ) (v : Vehicle) → P v → P (used seconds v)) where
  renewed-one : (f : Vehicle → Vehicle) → ((v : Vehicle) → P v → P (f v)) → (o : Option Vehicle) → IfSome o P → IfSome (option_map f o) P
  renewed-one f keeps None is = tt
  renewed-one f keeps (Some v) is = keeps v is

  renewed-ring : (f : Vehicle → Vehicle) → ((v : Vehicle) → P v → P (f v)) → (os : List (Option Vehicle)) → RingIn P os → RingIn P (on_newest f os)
  renewed-ring f keeps [] is = tt
  renewed-ring f keeps (None ∷ os) is = by (any_stands os) (renewed-ring f keeps os is)
    where
      by : (b : Bool) → RingIn P (on_newest f os) → RingIn P (cond b (None ∷ on_newest f os) (None ∷ os))
      by true behind = behind
      by false behind = is
  renewed-ring f keeps (Some v ∷ os) is = by (any_stands os) (renewed-ring f keeps os is.1)
    where
      by : (b : Bool) → RingIn P (on_newest f os) → RingIn P (cond b (Some v ∷ on_newest f os) (Some (f v) ∷ os))
      by true behind = (is.0, behind)
      by false behind = (keeps v is.0, is.1)

  renewed-in : (f : Vehicle → Vehicle) → ((v : Vehicle) → P v → P (f v)) → (v : Vehicles) → AreIn P v → AreIn P (renewed f v)
  renewed-in f keeps v is = record { newest = renewed-one f keeps v.newest is.newest; ring = renewed-ring f keeps v.ring is.ring }

  behind-in : (os : List (Option Vehicle)) → RingIn P os → RingIn P (behind_first os)
  behind-in [] is = tt
  behind-in (None ∷ os) is = is
  behind-in (Some v ∷ os) is = is.1

  one-behind : (os : List (Option Vehicle)) (w : Vehicle) → RingIn P os → P w → RingIn P (os ++ Some w ∷ [])
  one-behind [] w is here = (here, tt)
  one-behind (None ∷ os) w is here = one-behind os w is here
  one-behind (Some v ∷ os) w is here = (is.0, one-behind os w is.1 here)

  closed-in : (v : Vehicles) → OrClosed (AreIn P) v → AreIn P v
  closed-in v (inl is) = is
  closed-in v (inr (u, is, at)) = subst (AreIn P) (sym at) (renewed-in (used (60 * suc (last_use_in u / 60))) (used-is (60 * suc (last_use_in u / 60))) u is)

  room-in : (v : Vehicles) → AreIn P v → AreIn P (with_room v)
  room-in v is = record { newest = is.newest; ring = behind-in v.ring is.ring }

  -- and with an odometer value of a minute that may be at its end, or as an entry of this vehicle begins
  module _ (May : ℕ → Type 0) (registration : Registration) (odometer : ℕ) (measured-is : (minute : ℕ) → May minute → (v : Vehicle) → P v → P (measured odometer v)) where
    vehicles-in : (minute : ℕ) → May minute → ((counter : List ℕ) → P (begun_vehicle registration odometer minute counter)) → (v : Vehicles) → AreIn P v → AreIn P (vehicles_with registration odometer minute v)
    vehicles-in minute may begun-is v is = by (goes_on_with registration minute v.newest)
      where
        by : (b : Bool) → AreIn P (cond b (renewed (used_until odometer (60 * minute)) v) (with_vehicle (begun_vehicle registration odometer minute (vehicle_counter v.newest)) v))
        by true = renewed-in (used_until odometer (60 * minute)) (λ w here. used-is (60 * minute) (measured odometer w) (measured-is minute may w here)) v is
        by false = record { newest = begun-is (vehicle_counter v.newest); ring = one-behind (behind_first v.ring) (begun_vehicle registration odometer minute (vehicle_counter v.newest)) (behind-in v.ring is.ring) (begun-is (vehicle_counter v.newest)) }

    keeping-in : (v : Vehicles) → OrKeeping (AreIn P) May registration odometer v → AreIn P v
    keeping-in v (inl is) = is
    keeping-in v (inr (minute, may, u, is, inl on)) = subst (AreIn P) (sym on.1) (renewed-in (measured odometer) (measured-is minute may) u is)
    keeping-in v (inr (minute, may, u, is, inr room)) = subst (AreIn P) (sym room) (room-in u is)

    inserting-in : (v : Vehicles) → OrInserting (AreIn P) May registration odometer v → AreIn P v
    inserting-in v (inl closed) = closed-in v closed
    inserting-in v (inr keeping) = keeping-in v keeping

  -- ---- OF A CARD'S IMAGE
  abbrev AreOn : Application → List ℕ → Type 0
  AreOn app x = AreIn P (book_of app x).vehicles

  -- a keep
  pub keep-is : (s : Session) (e : Entry) (odometer : ℕ) → ((v : Vehicle) → P v → P (measured odometer v)) → ((counter : List ℕ) → P (begun_vehicle s.registration odometer e.minute counter)) → (x y : List ℕ) → AreOn s.application x → IsCardKeeping s e odometer x y → AreOn s.application y
  keep-is s e odometer measured-is begun-is x y is keeping =
      keeping-in AnyMinute s.registration odometer (λ minute any. measured-is) (book_of s.application y).vehicles
      (keep-so (AreIn P) s e odometer (λ v here. vehicles-in AnyMinute s.registration odometer (λ minute any. measured-is) e.minute tt begun-is v here) x y is keeping)

  -- a closing
  pub close-is : (s : Session) (act : Activity) (x y : List ℕ) → IsApplication s.application → image_size_of s.application ≤ length x → AreOn s.application x → IsCardClosing s act x y → AreOn s.application y
  close-is s act x y sound fits is closing = closed-in (book_of s.application y).vehicles (close-so (AreIn P) s act x y sound fits is closing)

  -- an insertion
  pub inserting-is : (app : Application) → IsApplication app → (registration : Registration) → length registration.0 ≡ 15 → (now : ℕ) (x : List ℕ) → image_size_of app ≤ length x → AreOn app x → (odometer : ℕ) (May : ℕ → Type 0) → ((minute : ℕ) → May minute → (v : Vehicle) → P v → P (measured odometer v)) → ((minute : ℕ) → May minute → (counter : List ℕ) → P (begun_vehicle registration odometer minute counter)) → (owed : List Entry) → AllMay May owed → (y : List ℕ)
      → IsCardInserting app registration odometer owed now x y → AreOn app y
  inserting-is app sound registration long now x fits is odometer May measured-is begun-is owed may y inserting =
      inserting-in May registration odometer measured-is (book_of app y).vehicles
      (inserting-so (AreIn P) app sound registration long now x fits is odometer May (λ minute its v here. vehicles-in May registration odometer measured-is minute its (begun-is minute its) v here) owed may y inserting)

-- ---- THE POINTER of their ring is an index behind each of these

-- where the bytes stay it stays one
pub points-by : (app : Application) → IsApplication app → (x y : List ℕ) → PointsInside (vehicle_ring app) x → HaveSameVehicles app x y → PointsInside (vehicle_ring app) y
points-by app sound x y points same = points_elsewhere (vehicle_ring app) (ring_shape app sound) x y same points

pub close-points : (s : Session) (act : Activity) (x y : List ℕ) → IsApplication s.application → image_size_of s.application ≤ length x → IsCardClosing s act x y → PointsInside (vehicle_ring s.application) y
close-points s act x y sound fits (inl card) = card.points
close-points s act x y sound fits (inr done) =
    let k : List ℕ = done.before in
    let side = ended_same s.application sound k (omega (arith, fits, done.card.outside.same_length)) done.card.points in
    subst (λ (l : List ℕ). PointsInside (vehicle_ring s.application) l) (sym done.session) (points-by s.application sound k (ended s.application k) done.card.points side.1)

module _ (app : Application) (sound : IsApplication app) (registration : Registration) (long : length registration.0 ≡ 15) (now : ℕ) (x : List ℕ) (fits : image_size_of app ≤ length x) where
  closed-points : (y : List ℕ) → InsertingClosed app registration now x y → PointsInside (vehicle_ring app) y
  closed-points y (inl still) = still.points
  closed-points y (inr (x1, still, inl shutting)) = shutting.points
  closed-points y (inr (x1, still, inr (x2, shut, opening))) =
      let side = opening_same app registration now long x2 y (omega (arith, use_inside app, fits, still.outside.same_length, shut.outside.same_length)) opening in
      points-by app sound x2 y shut.points side.1

  module _ (odometer : ℕ) (owed : List Entry) where
    open-points : (y : List ℕ) → InsertingOpen app registration odometer owed now x y → PointsInside (vehicle_ring app) y
    open-points y (inl still) = still.points
    open-points y (inr (x1, still, inl repairing)) = repairing.points
    open-points y (inr (x1, still, inr (x2, mended, inl noting))) = points-by app sound x2 y mended.points (noting_same app now x2 y noting).1
    open-points y (inr (x1, still, inr (x2, mended, inr (x3, noted, inl shutting)))) = shutting.points
    open-points y (inr (x1, still, inr (x2, mended, inr (x3, noted, inr (x4, shut, reopening))))) =
        let two : image_size_of app ≤ length x2 = omega (arith, fits, still.outside.same_length, mended.outside.same_length) in
        let room : place_of app (file 0x0507) + 19 ≤ length x4 = omega (arith, use_inside app, two, (noted_keeps app now x2 x3 (omega (arith, use_inside app, two)) noted).1, shut.outside.same_length) in
        points-by app sound x4 y shut.points (reopening_same app registration now long x4 y room reopening).1

    pub inserting-points : (y : List ℕ) → IsCardInserting app registration odometer owed now x y → PointsInside (vehicle_ring app) y
    inserting-points y (inl shut) = closed-points y shut.1
    inserting-points y (inr unclosed) = open-points y unclosed.1
