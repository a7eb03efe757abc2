-- The vehicle entries of a card stand as at the start, each at its place, at each moment of each call on it: a keep, a closing, an insertion and a note; and no minute comes in another vehicle.
use Rattle.std.proofs.Common.{◌≡◌, ◌≢◌, ◌∙◌, ◌⊎◌, inl, inr, ⊎_elim, ℕ, suc, ◌*◌, ◌/◌, ◌%◌, ◌<◌, ◌≤◌, Bool, true, false, cond, Option, Some, None, IfSome, option_map, List, [], ◌∷◌, ◌++◌, length, refl, sym, ap, subst, append_assoc, arith}
use Rattle.std.specs.Prelude.{nat_eq, bytes_eq}
use Rattle.std.proofs.lemmas.Bool.{and_parts}
use Rattle.std.proofs.lemmas.Slice.Eq.{bytes_eq-Decides}
use Rattle.device_calls.specs.activity_codec.declared.values.Activity.{Activity}
use Rattle.device_calls.specs.activity_codec.declared.entries.Entry.{Entry}
use Rattle.device_calls.specs.tacho_types.declared.texts.Registration.{Registration}
use Rattle.tach_media.specs.card_layout.declared.files.Application.{Application}
use Rattle.tach_media.specs.card_layout.Application.{IsApplication}
use Rattle.tach_media.specs.card_layout.Files.{image_size_of}
use Rattle.device_calls.specs.gated_ring.Ring.{PointsInside}
use Rattle.device_calls.specs.card_image.Fields.{vehicle_ring, last_of, last_use_of, end_mark, session_time}
use Rattle.device_calls.specs.card_image.Judging.{IsValid}
use Rattle.device_calls.specs.card_image.View.{CardView, card_view}
use Rattle.device_calls.specs.card_image.Own.{own_view, own_sizes}
use Rattle.device_calls.specs.card_files.declared.vehicle.Vehicle.{Vehicle}
use Rattle.device_calls.specs.card_model.Days.{Day}
use Rattle.device_calls.specs.card_session.Vehicles.{Vehicles, standing, any_stands, on_newest, renewed, behind_first, with_vehicle, with_room, last_use_in}
use Rattle.device_calls.specs.card_retention.Entries.{closed_at}
use Rattle.device_calls.specs.card_session.Books.{Book, mark_of, with_entry, used, used_until, measured, goes_on_with, begun_vehicle, vehicle_counter, vehicles_with, last_used}
use Rattle.device_calls.specs.card_session.Sessions.{Session, book_of}
use Rattle.device_calls.specs.card_session.Moments.{IsKeepMoment}
use Rattle.device_calls.specs.card_session.Cards.{IsCardKeeping, IsCardClosing, grown}
use Rattle.device_calls.specs.card_session.Inserting.{Follow, lacked, with_cut, with_owed, IsReplaying, IsRepairMoment, InsertingOpen, IsCardInserting, AreOwed}
use Rattle.device_calls.specs.card_session.Repairs.{lacked_by, mark_behind, newest_behind, NewestSoFar}
use Rattle.device_calls.proofs.card_session.Composing.{told_book}
use Rattle.device_calls.proofs.card_session.InsertingBooks.{lacked_follow}
use Rattle.device_calls.proofs.card_session.Marks.{mark_told, use_before}
use Rattle.device_calls.proofs.card_session.Renewing.{newest_first, closed_renews}
use Rattle.device_calls.proofs.card_session.Round.{newest_last}
use Rattle.device_calls.proofs.card_session.Valid.{above_zero}
use Rattle.device_calls.proofs.Inserted.{bound_of}
use Rattle.device_calls.proofs.OnCard.{own-is, mark-is}
use Rattle.device_calls.specs.CardNotes.{IsNote}
use Rattle.run_devices.specs.Registered.{VehiclesBefore, vehicles_before, IsUsedOn, IsNewestOf, StandsAt, at_first, StandInPlace, StandAsBefore, NewestIsOf, HasNoMinuteElsewhere}
use Rattle.run_devices.proofs.Entries.{OrClosed, OrKeeping, AnyMinute, keep-so, close-so, note-so, inserting-so, mended-on, any-may, owed-so, replaying-so}

-- ---- THE LAST THAT STANDS in a ring is the newest one

abbrev last_stands : List (Option Vehicle) → Option Vehicle
last_stands [] = None
last_stands (o ∷ os) = cond (any_stands os) (last_stands os) o

-- none stands
none-standing : (os : List (Option Vehicle)) → any_stands os ≡ false → standing os ≡ []
none-standing [] none = refl
none-standing (None ∷ os) none = none-standing os none
none-standing (Some v ∷ os) none = absurd (cc)

last-cons : (v : Vehicle) (os : List (Option Vehicle)) → any_stands os ≡ true → last_of (v ∷ standing os) ≡ last_of (standing os)
last-cons v [] some = absurd (cc)
last-cons v (None ∷ os) some = last-cons v os some
last-cons v (Some u ∷ os) some = refl

last-is : (os : List (Option Vehicle)) → last_stands os ≡ last_of (standing os)
last-is [] = refl
last-is (None ∷ os) = by (any_stands os) refl (last-is os)
  where
    by : (a : Bool) → any_stands os ≡ a → last_stands os ≡ last_of (standing os) → cond a (last_stands os) None ≡ last_of (standing os)
    by true some rest = rest
    by false none rest = sym (ap (λ (l : List Vehicle). last_of l) (none-standing os none))
last-is (Some v ∷ os) = by (any_stands os) refl (last-is os)
  where
    by : (a : Bool) → any_stands os ≡ a → last_stands os ≡ last_of (standing os) → cond a (last_stands os) (Some v) ≡ last_of (v ∷ standing os)
    by true some rest = rest ∙ sym (last-cons v os some)
    by false none rest = sym (ap (λ (l : List Vehicle). last_of (v ∷ l)) (none-standing os none))

-- of a card's image
last-newest : (app : Application) (x : List ℕ) → PointsInside (vehicle_ring app) x → last_stands (book_of app x).vehicles.ring ≡ (book_of app x).vehicles.newest
unfolding book_of
last-newest app x points = last-is (book_of app x).vehicles.ring ∙ newest_last app x points

-- where it changes
any-renewed : (f : Vehicle → Vehicle) (os : List (Option Vehicle)) → any_stands (on_newest f os) ≡ any_stands os
any-renewed f [] = refl
any-renewed f (None ∷ os) = by (any_stands os) (any-renewed f os)
  where
    by : (a : Bool) → any_stands (on_newest f os) ≡ any_stands os → any_stands (cond a (None ∷ on_newest f os) (None ∷ os)) ≡ any_stands os
    by true rest = rest
    by false rest = refl
any-renewed f (Some v ∷ os) = by (any_stands os)
  where
    by : (a : Bool) → any_stands (cond a (Some v ∷ on_newest f os) (Some (f v) ∷ os)) ≡ true
    by true = refl
    by false = refl

last-renewed : (f : Vehicle → Vehicle) (os : List (Option Vehicle)) → last_stands (on_newest f os) ≡ option_map f (last_stands os)
last-renewed f [] = refl
last-renewed f (o ∷ os) = by (any_stands os) refl (last-renewed f os)
  where
    by : (a : Bool) → any_stands os ≡ a → last_stands (on_newest f os) ≡ option_map f (last_stands os) → last_stands (cond a (o ∷ on_newest f os) (option_map f o ∷ os)) ≡ option_map f (cond a (last_stands os) o)
    by true some rest = ap (λ (c : Bool). cond c (last_stands (on_newest f os)) o) (any-renewed f os ∙ some) ∙ rest
    by false none rest = ap (λ (c : Bool). cond c (last_stands os) (option_map f o)) none

-- and where one stands behind all others
any-behind : (os : List (Option Vehicle)) (w : Vehicle) → any_stands (os ++ Some w ∷ []) ≡ true
any-behind [] w = refl
any-behind (None ∷ os) w = any-behind os w
any-behind (Some v ∷ os) w = refl

last-behind : (os : List (Option Vehicle)) (w : Vehicle) → last_stands (os ++ Some w ∷ []) ≡ Some w
last-behind [] w = refl
last-behind (o ∷ os) w = ap (λ (c : Bool). cond c (last_stands (os ++ Some w ∷ [])) o) (any-behind os w) ∙ last-behind os w

-- ---- the newest one goes on only in its own vehicle

same-registration : (r s : Registration) → r.0 ≡ s.0 → r ≡ s
same-registration r s same = ap (λ (bs : List ℕ). let made : Registration = record { 0 = bs } in made) same

going-in : (registration : Registration) (minute : ℕ) (w : Vehicle) → goes_on_with registration minute (Some w) ≡ true → w.registration ≡ registration
going-in registration minute w on =
    same-registration w.registration registration ((bytes_eq-Decides w.registration.0 registration.0).0 (and_parts (bytes_eq w.registration.0 registration.0) (nat_eq (w.first_use.0 / 86400) (minute / 1440)) on).0)

going-on : (registration : Registration) (minute : ℕ) (o : Option Vehicle) → goes_on_with registration minute o ≡ true → (w : Vehicle) → o ≡ Some w → w.registration ≡ registration
going-on registration minute o on w is = going-in registration minute w (ap (goes_on_with registration minute) (sym is) ∙ on)

-- ---- THE NEWEST ONE, of this vehicle, stays so

module _ (registration : Registration) where
  abbrev Newest : Vehicles → Type 0
  Newest v = NewestIsOf registration v

  still-of : (f : Vehicle → Vehicle) → ((w : Vehicle) → (f w).registration ≡ w.registration) → (o : Option Vehicle) → IfSome o (λ w. w.registration ≡ registration) → IfSome (option_map f o) (λ w. w.registration ≡ registration)
  still-of f keeps None is = tt
  still-of f keeps (Some w) is = keeps w ∙ is

  -- a minute makes it so
  minute-of : (odometer minute : ℕ) (v : Vehicles) → Newest (vehicles_with registration odometer minute v)
  minute-of odometer minute v = by v.newest (goes_on_with registration minute v.newest) refl
    where
      by : (o : Option Vehicle) (g : Bool) → goes_on_with registration minute o ≡ g
          → Newest (cond g (let u : Vehicles = record { newest = option_map (used_until odometer (60 * minute)) o; ring = on_newest (used_until odometer (60 * minute)) v.ring } in u)
          (with_vehicle (begun_vehicle registration odometer minute (vehicle_counter o)) v))
      by None true on = tt
      by None false other = refl
      by (Some w) true on = going-in registration minute w on
      by (Some w) false other = refl

  closed-of : (v : Vehicles) → OrClosed Newest v → Newest v
  closed-of v (inl is) = is
  closed-of v (inr (u, is, at)) = subst Newest (sym at) (still-of (used (60 * suc (last_use_in u / 60))) (λ w. refl) u.newest is)

  keeping-of : (odometer : ℕ) (v : Vehicles) → OrKeeping Newest AnyMinute registration odometer v → Newest v
  keeping-of odometer v (inl is) = is
  keeping-of odometer v (inr (minute, any, u, is, inl on)) = subst Newest (sym on.1) (still-of (measured odometer) (λ w. refl) u.newest is)
  keeping-of odometer v (inr (minute, any, u, is, inr room)) = subst Newest (sym room) is

  -- a moment of a keep leaves the last use, or makes it so
  moment-of : (size odometer more : ℕ) (e : Entry) (b : Book) (days : List Day) (vehicles : Vehicles) → IsKeepMoment size registration odometer more e b days vehicles → (last_use_in vehicles ≡ last_use_in b.vehicles) ⊎ Newest vehicles
  moment-of size odometer more e b days vehicles (inl old) = inl (ap (λ (v : Vehicles). last_use_in v) old.0)
  moment-of size odometer more e b days vehicles (inr (now, inl before)) = inl (use_before registration odometer e.minute b.vehicles vehicles before)
  moment-of size odometer more e b days vehicles (inr (now, inr new)) = inr (subst Newest (sym new) (minute-of odometer e.minute b.vehicles))

  -- and so does a moment of entries that are replayed
  replaying-of : (size odometer : ℕ) (es : List Entry) (b : Book) (days : List Day) (vehicles : Vehicles) → IsReplaying size registration odometer es b days vehicles → (last_use_in vehicles ≡ last_use_in b.vehicles) ⊎ Newest vehicles
  replaying-of size odometer [] b days vehicles book = inl (ap (λ (v : Vehicles). last_use_in v) book.1)
  replaying-of size odometer (e ∷ es) b days vehicles (inl moment) = moment-of size odometer 0 e b days vehicles moment
  replaying-of size odometer (e ∷ es) b days vehicles (inr rest) = inr (keeping-of odometer vehicles
      (replaying-so Newest AnyMinute size registration odometer (λ minute its v here. minute-of odometer minute v) es (with_entry size registration odometer 0 b e) days vehicles (any-may es) (minute-of odometer e.minute b.vehicles) rest))

  owed-of : (size odometer : ℕ) (e : Entry) (es : List Entry) (b : Book) → Newest (with_owed size registration odometer (e ∷ es) b).vehicles
  owed-of size odometer e es b = owed-so Newest AnyMinute size registration odometer (λ minute its v here. minute-of odometer minute v) es (with_entry size registration odometer 0 b e) (any-may es) (minute-of odometer e.minute b.vehicles)

-- ---- IN PLACE

module _ (b : VehiclesBefore) where
  -- one more behind all others
  stand-behind : (stood os : List (Option Vehicle)) (w : Vehicle) → StandInPlace b stood os → IsNewestOf b w → StandInPlace b stood (os ++ Some w ∷ [])
  stand-behind stood [] w stands here = (inr here, tt)
  stand-behind stood (o ∷ os) w stands here = (stands.0, stand-behind (behind_first stood) os w stands.1 here)

  -- without the first
  stand-moved : (stood os : List (Option Vehicle)) → StandInPlace b stood os → StandInPlace b (behind_first stood) (behind_first os)
  stand-moved stood [] stands = tt
  stand-moved stood (o ∷ os) stands = stands.1

  -- and with the last that stands in another form
  stand-renewed : (f : Vehicle → Vehicle) (stood os : List (Option Vehicle)) → StandInPlace b stood os → ((w : Vehicle) → last_stands os ≡ Some w → IsNewestOf b (f w)) → StandInPlace b stood (on_newest f os)
  stand-renewed f stood [] stands newest = tt
  stand-renewed f stood (o ∷ os) stands newest = by (any_stands os) newest (λ here. stand-renewed f (behind_first stood) os stands.1 here)
    where
      at : (p : Option Vehicle) → ((w : Vehicle) → p ≡ Some w → IsNewestOf b (f w)) → IfSome (option_map f p) (StandsAt b (at_first stood))
      at None here = tt
      at (Some w) here = inr (here w refl)

      by : (a : Bool) → ((w : Vehicle) → cond a (last_stands os) o ≡ Some w → IsNewestOf b (f w)) → (((w : Vehicle) → last_stands os ≡ Some w → IsNewestOf b (f w)) → StandInPlace b (behind_first stood) (on_newest f os)) → StandInPlace b stood (cond a (o ∷ on_newest f os) (option_map f o ∷ os))
      by true here rest = (stands.0, rest here)
      by false here rest = (at o here, stands.1)

  -- those that are kept, without the oldest
  part-on : (ring gone kept : List (Option Vehicle)) → ring ≡ gone ++ kept → (more : List (Option Vehicle)) × (ring ≡ more ++ behind_first kept)
  part-on ring gone [] split = (gone, split)
  part-on ring gone (o ∷ os) split = (gone ++ o ∷ [], split ∙ sym (append_assoc gone (o ∷ []) os))

  -- ---- of the vehicle entries, of which the last that stands is the newest
  abbrev Stand : Vehicles → Type 0
  Stand v = StandAsBefore b v × (last_stands v.ring ≡ v.newest)

  renewed-newest : (f : Vehicle → Vehicle) (o : Option Vehicle) → ((w : Vehicle) → o ≡ Some w → IsNewestOf b (f w)) → IfSome (option_map f o) (IsNewestOf b)
  renewed-newest f None each = tt
  renewed-newest f (Some w) each = each w refl

  stand-on : (f : Vehicle → Vehicle) (v : Vehicles) → Stand v → ((w : Vehicle) → v.newest ≡ Some w → IsNewestOf b (f w)) → StandAsBefore b (renewed f v)
  stand-on f v is each = record {
    newest = renewed-newest f v.newest each;
    gone = is.0.gone;
    kept = is.0.kept;
    split = is.0.split;
    places = stand-renewed f is.0.kept v.ring is.0.places (λ w last. each w (sym is.1 ∙ last));
  }

  stand-new : (w : Vehicle) (v : Vehicles) → StandAsBefore b v → w.registration ≡ b.registration → StandAsBefore b (with_vehicle w v)
  stand-new w v is here =
      let part = part-on b.vehicles.ring is.gone is.kept is.split in
      record {
        newest = inl here;
        gone = part.0;
        kept = behind_first is.kept;
        split = part.1;
        places = stand-behind (behind_first is.kept) (behind_first v.ring) w (stand-moved is.kept v.ring is.places) (inl here);
      }

  stand-room : (v : Vehicles) → StandAsBefore b v → StandAsBefore b (with_room v)
  stand-room v is = record { newest = is.newest; gone = is.gone; kept = is.kept; split = is.split; places = (tt, stand-moved is.kept v.ring is.places) }

  -- a minute of the unit's vehicle
  module _ (registration : Registration) (here : registration ≡ b.registration) (odometer : ℕ) where
    pub stand-minute : (minute : ℕ) (v : Vehicles) → Stand v → Stand (vehicles_with registration odometer minute v)
    stand-minute minute v is = by (goes_on_with registration minute v.newest) refl
      where
        by : (g : Bool) → goes_on_with registration minute v.newest ≡ g
            → Stand (cond g (renewed (used_until odometer (60 * minute)) v) (with_vehicle (begun_vehicle registration odometer minute (vehicle_counter v.newest)) v))
        by true on = (
          stand-on (used_until odometer (60 * minute)) v is (λ w newest. inl (going-on registration minute v.newest on w newest ∙ here)),
          last-renewed (used_until odometer (60 * minute)) v.ring ∙ ap (option_map (used_until odometer (60 * minute))) is.1,
        )
        by false other = (
          stand-new (begun_vehicle registration odometer minute (vehicle_counter v.newest)) v is.0 here,
          last-behind (behind_first v.ring) (begun_vehicle registration odometer minute (vehicle_counter v.newest)),
        )

    stand-keeping : (v : Vehicles) → OrKeeping Stand AnyMinute registration odometer v → StandAsBefore b v
    stand-keeping v (inl is) = is.0
    stand-keeping v (inr (minute, any, u, is, inl on)) = subst (StandAsBefore b) (sym on.1) (stand-on (measured odometer) u is (λ w newest. inl (going-on registration minute u.newest on.0 w newest ∙ here)))
    stand-keeping v (inr (minute, any, u, is, inr room)) = subst (StandAsBefore b) (sym room) (stand-room u is.0)

  -- a closing, where the newest one is of the unit's vehicle, or its last use no later than the newest minute of the start
  abbrev IsBounded : Vehicles → Type 0
  IsBounded v = NewestIsOf b.registration v ⊎ (last_use_in v / 60 ≤ b.minute)

  used-newest : (u : Vehicles) (w : Vehicle) → u.newest ≡ Some w → IsNewestOf b w → IsBounded (last_used (60 * suc (last_use_in u / 60)) u) → IsNewestOf b (used (60 * suc (last_use_in u / 60)) w)
  used-newest u w newest (inl here) bounded = inl here
  used-newest u w newest (inr (z, first, was)) bounded = ⊎_elim
      (λ its. inl (subst (λ (o : Option Vehicle). IfSome (option_map (used (60 * suc (last_use_in u / 60))) o) (λ v. v.registration ≡ b.registration)) newest its))
      (λ low. inr (z, first, inr (used-of was, later was, subst (λ (o : Option Vehicle). last_use_of (option_map (used (60 * suc (last_use_in u / 60))) o) / 60 ≤ b.minute) newest low)))
      bounded
    where
      last : last_use_in u ≡ w.last_use.0
      last = ap (λ (o : Option Vehicle). last_use_of o) newest

      used-of : (w ≡ z) ⊎ IsUsedOn b.minute z w → used (60 * suc (last_use_in u / 60)) w ≡ used (60 * suc (last_use_in u / 60)) z
      used-of (inl same) = ap (used (60 * suc (last_use_in u / 60))) same
      used-of (inr on) = ap (used (60 * suc (last_use_in u / 60))) on.0

      later : (w ≡ z) ⊎ IsUsedOn b.minute z w → z.last_use.0 ≤ 60 * suc (last_use_in u / 60)
      later (inl same) = let at : w.last_use.0 ≡ z.last_use.0 = ap (λ (v : Vehicle). v.last_use.0) same in omega (arith, last, at)
      later (inr on) = omega (arith, last, on.1)

  stand-closed : (v : Vehicles) → OrClosed Stand v → IsBounded v → StandAsBefore b v
  stand-closed v (inl is) bounded = is.0
  stand-closed v (inr (u, is, at)) bounded = subst (StandAsBefore b) (sym at)
      (stand-on (used (60 * suc (last_use_in u / 60))) u is (λ w newest. used-newest u w newest (subst (λ (o : Option Vehicle). IfSome o (IsNewestOf b)) newest is.0.newest) (subst IsBounded at bounded)))

  -- ---- THE START stands as it stands
  first-newest : (o : Option Vehicle) → b.vehicles.newest ≡ o → IfSome o (IsNewestOf b)
  first-newest None is = tt
  first-newest (Some w) is = inr (w, is, inl refl)

  first-places : (os : List (Option Vehicle)) → StandInPlace b os os
  first-places [] = tt
  first-places (None ∷ os) = (tt, first-places os)
  first-places (Some w ∷ os) = (inl refl, first-places os)

  first-stand : StandAsBefore b b.vehicles
  first-stand = record { newest = first-newest b.vehicles.newest refl; gone = []; kept = b.vehicles.ring; split = refl; places = first-places b.vehicles.ring }

pub first-stands : (app : Application) (registration : Registration) (start : List ℕ) → StandAsBefore (vehicles_before app registration start) (book_of app start).vehicles
first-stands app registration start = first-stand (vehicles_before app registration start)

pub first-minutes : (app : Application) (registration : Registration) (start : List ℕ) → HasNoMinuteElsewhere (vehicles_before app registration start) app start
first-minutes app registration start = inr (omega arith)

-- ---- OF A CARD'S IMAGE

module _ (b : VehiclesBefore) where
  stand-at : (app : Application) (x : List ℕ) → PointsInside (vehicle_ring app) x → StandAsBefore b (book_of app x).vehicles → Stand b (book_of app x).vehicles
  stand-at app x points is = (is, last-newest app x points)

  -- where it has no later minute, the last use of its newest entry is none
  pub bounded-by : (app : Application) (y : List ℕ) → own_sizes y ≡ app → HasNoMinuteElsewhere b app y → IsBounded b (book_of app y).vehicles
  bounded-by app y same (inl its) = inl its
  bounded-by app y same (inr low) = inr (omega (arith, low, bound_of app y, ap (λ (k : CardView). k.newest) (own-is app y same), mark-is app y, mark_told app y))

  -- a keep
  pub keep-stands : (s : Session) (e : Entry) (odometer : ℕ) (x y : List ℕ) → s.registration ≡ b.registration → PointsInside (vehicle_ring s.application) x → StandAsBefore b (book_of s.application x).vehicles → IsCardKeeping s e odometer x y → StandAsBefore b (book_of s.application y).vehicles
  keep-stands s e odometer x y here points is keeping =
      stand-keeping b s.registration here odometer (book_of s.application y).vehicles
      (keep-so (Stand b) s e odometer (λ v stands. stand-minute b s.registration here odometer e.minute v stands) x y (stand-at s.application x points is) keeping)

  -- a closing
  pub close-stands : (s : Session) (act : Activity) (x y : List ℕ) → IsApplication s.application → image_size_of s.application ≤ length x → PointsInside (vehicle_ring s.application) x → StandAsBefore b (book_of s.application x).vehicles → IsCardClosing s act x y → IsBounded b (book_of s.application y).vehicles → StandAsBefore b (book_of s.application y).vehicles
  close-stands s act x y sound fits points is closing bounded = stand-closed b (book_of s.application y).vehicles (close-so (Stand b) s act x y sound fits (stand-at s.application x points is) closing) bounded

  -- a note
  pub note-stands : (app : Application) → IsApplication app → (x : List ℕ) → IsValid app x → (y : List ℕ) → IsNote app x y → StandAsBefore b (book_of app x).vehicles → StandAsBefore b (book_of app y).vehicles
  note-stands app sound x valid y note is = note-so (StandAsBefore b) app sound x valid y note is

  pub note-minutes : (app : Application) → IsApplication app → (x : List ℕ) → IsValid app x → (y : List ℕ) → IsNote app x y → own_view y ≡ own_view x → HasNoMinuteElsewhere b app x → HasNoMinuteElsewhere b app y
  note-minutes app sound x valid y note same (inl its) = inl (note-so (NewestIsOf b.registration) app sound x valid y note its)
  note-minutes app sound x valid y note same (inr low) = inr (subst (λ (v : CardView). v.newest ≤ b.minute) (sym same) low)

-- the newest entry behind a keep, and behind a closing
pub keep-newest : (s : Session) (e : Entry) (odometer : ℕ) (x y : List ℕ) → NewestIsOf s.registration (book_of s.application x).vehicles → IsCardKeeping s e odometer x y → NewestIsOf s.registration (book_of s.application y).vehicles
keep-newest s e odometer x y is keeping =
    keeping-of s.registration odometer (book_of s.application y).vehicles (keep-so (Newest s.registration) s e odometer (λ v here. minute-of s.registration odometer e.minute v) x y is keeping)

pub keep-moves : (s : Session) (e : Entry) (odometer : ℕ) (x y : List ℕ) → IsCardKeeping s e odometer x y → (last_use_in (book_of s.application y).vehicles ≡ last_use_in (book_of s.application x).vehicles) ⊎ NewestIsOf s.registration (book_of s.application y).vehicles
keep-moves s e odometer x y keeping =
    moment-of s.registration s.application.activity odometer (grown s.odometer odometer) e (book_of s.application x) (book_of s.application y).days (book_of s.application y).vehicles keeping.card.told

pub close-newest : (registration : Registration) (s : Session) (act : Activity) (x y : List ℕ) → IsApplication s.application → image_size_of s.application ≤ length x → NewestIsOf registration (book_of s.application x).vehicles → IsCardClosing s act x y → NewestIsOf registration (book_of s.application y).vehicles
close-newest registration s act x y sound fits is closing = closed-of registration (book_of s.application y).vehicles (close-so (Newest registration) s act x y sound fits is closing)

-- ---- AN INSERTION

mark-past : (m : ℕ) (es rest : List Entry) → Follow m (es ++ rest) → m ≤ mark_behind m es
mark-past m [] rest follow = omega arith
mark-past m (e ∷ es) rest follow = let behind = mark-past e.minute es rest follow.1 in omega (arith, follow.0, behind)

closed-least : (e : Entry) → e.minute ≤ closed_at (Some e)
closed-least e = by (nat_eq (suc e.minute % 1440) 0)
  where
    by : (last : Bool) → e.minute ≤ cond last e.minute (suc e.minute)
    by true = omega arith
    by false = omega arith

newest-past : (m n : ℕ) (es rest : List Entry) → m ≤ n → Follow m (es ++ rest) → m ≤ newest_behind n es
newest-past m n [] rest low follow = low
newest-past m n (e ∷ es) rest low follow = let behind = newest-past e.minute (closed_at (Some e)) es rest (closed-least e) follow.1 in omega (arith, follow.0, behind)

positive : (n : ℕ) → (n ≡ 0 → ⊥) → 0 < n
positive n apart = omega (arith, apart)

module _ (app : Application) (sound : IsApplication app) (registration : Registration) (long : length registration.0 ≡ 15) (odometer now : ℕ) (owed : List Entry) (x : List ℕ) (fits : image_size_of app ≤ length x) where
  newest-put : (y : List ℕ) → NewestIsOf registration (book_of app x).vehicles → IsCardInserting app registration odometer owed now x y → NewestIsOf registration (book_of app y).vehicles
  newest-put y is inserting = ⊎_elim
      (λ closed. closed-of registration (book_of app y).vehicles closed)
      (λ keeping. keeping-of registration odometer (book_of app y).vehicles keeping)
      (inserting-so (Newest registration) app sound registration long now x fits is odometer AnyMinute (λ minute its v here. minute-of registration odometer minute v) owed (any-may owed) y inserting)

  -- the end mark stays, or one that it lacked has come in this vehicle
  moved-put : (y : List ℕ) (e : Entry) (es : List Entry) → lacked_by app x owed ≡ e ∷ es → InsertingOpen app registration odometer owed now x y → (end_mark app y ≡ end_mark app x) ⊎ NewestIsOf registration (book_of app y).vehicles
  moved-put y e es lack (inl still) = inl (mark_told app y ∙ ap (λ (k : Book). mark_of k) (told_book app (book_of app x) x y still) ∙ sym (mark_told app x))
  moved-put y e es lack (inr (x1, still, inl repairing)) =
      let same : book_of app x1 ≡ book_of app x = told_book app (book_of app x) x x1 still in
      ⊎_elim
      (λ stays. inl (mark_told app y ∙ ap (λ (n : ℕ). n / 60) stays ∙ ap (λ (k : Book). mark_of k) same ∙ sym (mark_told app x)))
      (λ its. inr its)
      (repairing-of (book_of app x1) repairing.told)
    where
      repairing-of : (k : Book) → IsRepairMoment app.activity registration odometer owed k (book_of app y).days (book_of app y).vehicles → (last_use_in (book_of app y).vehicles ≡ last_use_in k.vehicles) ⊎ NewestIsOf registration (book_of app y).vehicles
      repairing-of k (inl cutting) = inl (ap (λ (v : Vehicles). last_use_in v) cutting.1)
      repairing-of k (inr replaying) = replaying-of registration app.activity odometer (lacked (mark_of k) owed) (with_cut (mark_of k) k) (book_of app y).days (book_of app y).vehicles replaying
  moved-put y e es lack (inr (x1, still, inr (x2, mended, rest))) =
      let one : Book = book_of app x1 in
      let same : book_of app x1 ≡ book_of app x = told_book app (book_of app x) x x1 still in
      let lacks : lacked (mark_of (book_of app x1)) owed ≡ e ∷ es = ap (λ (k : Book). lacked (mark_of k) owed) same ∙ ap (λ (n : ℕ). lacked n owed) (sym (mark_told app x)) ∙ lack in
      let newest : NewestIsOf registration (book_of app x2).vehicles = subst (NewestIsOf registration) (sym mended.told.1)
      (subst (λ (ds : List Entry). NewestIsOf registration (with_owed app.activity registration odometer ds (with_cut (mark_of one) one)).vehicles) (sym lacks) (owed-of registration app.activity odometer e es (with_cut (mark_of one) one))) in
      inr (closed-of registration (book_of app y).vehicles
      (mended-on (Newest registration) app sound registration long now x fits x2 (omega (arith, still.outside.same_length, mended.outside.same_length)) mended.points newest y rest))

  module _ (b : VehiclesBefore) (here : registration ≡ b.registration) where
    -- so no minute comes in another vehicle
    module _ (are : AreOwed now owed) (valid : IsValid app x) (sizes : own_sizes x ≡ app) (y : List ℕ) (same_sizes : own_sizes y ≡ app) where
      of-unit : NewestIsOf registration (book_of app y).vehicles → HasNoMinuteElsewhere b app y
      of-unit its = inl (subst (λ (r : Registration). NewestIsOf r (book_of app y).vehicles) here its)

      still-low : (own_view x).newest ≤ b.minute → (card_view app y).newest ≡ (card_view app x).newest → HasNoMinuteElsewhere b app y
      still-low low same = inr (omega (arith, low, same, ap (λ (k : CardView). k.newest) (own-is app x sizes), ap (λ (k : CardView). k.newest) (own-is app y same_sizes)))

      open-low : (own_view x).newest ≤ b.minute → session_time app x ≢ 0 → InsertingOpen app registration odometer owed now x y → HasNoMinuteElsewhere b app y
      open-low low open_ inserting = by first.done refl
        where
          first : NewestSoFar (end_mark app x) (card_view app x).newest (lacked_by app x owed) (end_mark app y) (card_view app y).newest
          first = (newest_first app sound x fits registration long odometer now owed are valid (above_zero (session_time app x) (positive (session_time app x) open_)) y inserting).0

          follows : Follow (end_mark app x) (first.done ++ first.rest)
          follows = subst (Follow (end_mark app x)) first.split (lacked_follow 1439 (end_mark app x) owed are.0)

          by : (es : List Entry) → first.done ≡ es → HasNoMinuteElsewhere b app y
          by [] none = still-low low (first.newest ∙ ap (newest_behind (card_view app x).newest) none)
          by (e ∷ es) some = ⊎_elim
              (λ stays. absurd (⊎_elim
              (λ at.
              let mark : end_mark app y ≡ mark_behind e.minute es = at ∙ ap (mark_behind (end_mark app x)) some in
              omega (arith, stays, mark, later.0, mark-past e.minute es first.rest later.1))
              (λ full.
              let newest : (card_view app y).newest ≡ newest_behind (closed_at (Some e)) es = first.newest ∙ ap (newest_behind (card_view app x).newest) some in
              omega (arith, stays, full.1, newest, later.0, newest-past e.minute (closed_at (Some e)) es first.rest (closed-least e) later.1))
              first.behind))
              of-unit
              (moved-put y e (es ++ first.rest) (first.split ∙ ap (λ (ds : List Entry). ds ++ first.rest) some) inserting)
            where
              later : Follow (end_mark app x) (e ∷ (es ++ first.rest))
              later = subst (λ (ds : List Entry). Follow (end_mark app x) (ds ++ first.rest)) some follows

      pub inserting-minutes : HasNoMinuteElsewhere b app x → IsCardInserting app registration odometer owed now x y → HasNoMinuteElsewhere b app y
      inserting-minutes (inl its) inserting = of-unit (newest-put y (subst (λ (r : Registration). NewestIsOf r (book_of app x).vehicles) (sym here) its) inserting)
      inserting-minutes (inr low) (inl shut) = still-low low (closed_renews app sound x fits registration long now valid shut.0 y shut.1).newest
      inserting-minutes (inr low) (inr unclosed) = open-low low unclosed.0 unclosed.1

    pub inserting-stands : PointsInside (vehicle_ring app) x → StandAsBefore b (book_of app x).vehicles → (y : List ℕ) → IsCardInserting app registration odometer owed now x y → IsBounded b (book_of app y).vehicles → StandAsBefore b (book_of app y).vehicles
    inserting-stands points is y inserting bounded = ⊎_elim
        (λ closed. stand-closed b (book_of app y).vehicles closed bounded)
        (λ keeping. stand-keeping b registration here odometer (book_of app y).vehicles keeping)
        (inserting-so (Stand b) app sound registration long now x fits (stand-at b app x points is) odometer AnyMinute (λ minute its v stands. stand-minute b registration here odometer minute v stands) owed (any-may owed) y inserting)
