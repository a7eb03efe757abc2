-- The last use of a card at each moment of a keep, of a withdrawal, of an insertion and of a note: the old one, or a whole minute.
use Rattle.std.proofs.Common.{◌≡◌, inl, inr, ⊎_elim, ℕ, suc, ◌*◌, ◌≤◌, Bool, true, false, cond, Option, Some, None, option_map, List, [], ◌∷◌, length, refl, sym, subst, ◌∙◌, ap, arith}
use Rattle.activity_codec.specs.declared.values.Activity.{Activity}
use Rattle.activity_codec.specs.declared.values.Activity.TheVariants.{Rest}
use Rattle.activity_codec.specs.declared.entries.Entry.{Entry}
use Rattle.activity_codec.specs.declared.entries.Manual.{Manual}
use Rattle.tacho_types.specs.declared.texts.Registration.{Registration}
use Rattle.card_layout.specs.declared.files.Application.{Application}
use Rattle.card_layout.specs.Application.{IsApplication}
use Rattle.card_layout.specs.Files.{image_size_of}
use Rattle.card_files.specs.declared.vehicle.Vehicle.{Vehicle}
use Rattle.unit_rule.specs.card_model.Days.{Day}
use Rattle.unit_rule.specs.card_retention.Shown.{is_open}
use Rattle.card_session.specs.gated_ring.Ring.{PointsInside}
use Rattle.card_validity.specs.card_image.Fields.{vehicle_ring, last_use_of, last_use}
use Rattle.card_validity.specs.card_image.Beside.{HaveSameVehicles}
use Rattle.card_validity.proofs.card_image.Beside.{last_use_same}
use Rattle.card_session.specs.Vehicles.{Vehicles, last_use_in}
use Rattle.card_session.specs.Books.{Book, mark_of, closed, closed_days, used, last_used, with_entry}
use Rattle.card_session.specs.Sessions.{book_of}
use Rattle.card_session.specs.Moments.{IsBook, IsKeepMoment, IsCloseMoment}
use Rattle.card_session.specs.ByHand.{by_hand, IsByHandMoment}
use Rattle.card_session.specs.Cards.{IsCard, ended}
use Rattle.card_session.specs.Inserting.{lacked, with_cut, with_owed, IsReplaying, IsRepairMoment, IsStill, IsRepaired, IsShut, IsShutting, InsertingOpen, InsertingClosed, IsCardInserting}
use Rattle.card_session.proofs.Preparing.{use_at}
use Rattle.card_session.proofs.Marks.{use_before}
use Rattle.card_session.proofs.Stopping.{ended_same}
use Rattle.card_session.proofs.InsertingCards.{noted_same, noting_same}
use Rattle.card_session.proofs.InsertingUse.{use_inside}
use Rattle.card_session.proofs.InsertingOpen.{opening_same, reopening_same}
use Rattle.card_session.proofs.InsertingAgain.{noted_keeps}
use Rattle.device_calls.specs.Times.{IsWhole}

-- one step after another
pub whole-then : (a b c : ℕ) → IsWhole a b → IsWhole b c → IsWhole a c
whole-then a b c first (inl same) = ⊎_elim (λ old. inl (same ∙ old)) (λ one. inr (one.0, same ∙ one.1)) first
whole-then a b c first (inr one) = inr one

-- ---- of a vehicle entry

abbrev Goes : (old now : Vehicles) → Type 0
Goes old now = IsWhole (last_use_in old) (last_use_in now)

module _ (size : ℕ) (registration : Registration) (odometer : ℕ) where
  entered-goes : (more : ℕ) (e : Entry) (b : Book) → Goes b.vehicles (with_entry size registration odometer more b e).vehicles
  entered-goes more e b = inr (e.minute, use_at registration odometer e.minute b.vehicles)

  keep-goes : (more : ℕ) (e : Entry) (b : Book) (days : List Day) (v : Vehicles) → IsKeepMoment size registration odometer more e b days v → Goes b.vehicles v
  keep-goes more e b days v moment = ⊎_elim
      (λ old. inl (ap last_use_in old.0))
      (λ new. ⊎_elim
      (λ unused. inl (use_before registration odometer e.minute b.vehicles v unused))
      (λ after. inr (e.minute, ap last_use_in after ∙ use_at registration odometer e.minute b.vehicles))
      new.1)
      moment

  replay-goes : (es : List Entry) (b : Book) (days : List Day) (v : Vehicles) → IsReplaying size registration odometer es b days v → Goes b.vehicles v
  replay-goes [] b days v is = inl (ap last_use_in is.1)
  replay-goes (e ∷ es) b days v (inl moment) = keep-goes 0 e b days v moment
  replay-goes (e ∷ es) b days v (inr later) =
      let next : Book = with_entry size registration odometer 0 b e in
      whole-then (last_use_in b.vehicles) (last_use_in next.vehicles) (last_use_in v) (entered-goes 0 e b) (replay-goes es next days v later)

  owed-goes : (es : List Entry) (b : Book) → Goes b.vehicles (with_owed size registration odometer es b).vehicles
  owed-goes [] b = inl refl
  owed-goes (e ∷ es) b =
      let next : Book = with_entry size registration odometer 0 b e in
      whole-then (last_use_in b.vehicles) (last_use_in next.vehicles) (last_use_in (with_owed size registration odometer es next).vehicles) (entered-goes 0 e b) (owed-goes es next)

  repair-goes : (owed : List Entry) (b : Book) (days : List Day) (v : Vehicles) → IsRepairMoment size registration odometer owed b days v → Goes b.vehicles v
  repair-goes owed b days v (inl cutting) = inl (ap last_use_in cutting.1)
  repair-goes owed b days v (inr replaying) = replay-goes (lacked (mark_of b) owed) (with_cut (mark_of b) b) days v replaying

used-goes : (minute : ℕ) (v : Vehicles) → Goes v (last_used (60 * minute) v)
used-goes minute v = by v.newest
  where
    by : (o : Option Vehicle) → IsWhole (last_use_of o) (last_use_of (option_map (used (60 * minute)) o))
    by None = inl refl
    by (Some u) = inr (minute, refl)

closed-goes : (size : ℕ) (act : Activity) (b : Book) → Goes b.vehicles (closed size act b).vehicles
closed-goes size act b = by (is_open (mark_of b) b.days)
  where
    by : (o : Bool) → Goes b.vehicles (cond o (let c : Book = record { days = closed_days size (mark_of b) act b.days; vehicles = last_used (60 * suc (mark_of b)) b.vehicles } in c) b).vehicles
    by true = used-goes (suc (mark_of b)) b.vehicles
    by false = inl refl

closing-goes : (size : ℕ) (act : Activity) (b : Book) (days : List Day) (v : Vehicles) → IsCloseMoment size act b days v → Goes b.vehicles v
closing-goes size act b days v (inl before) = inl (ap last_use_in before.0)
closing-goes size act b days v (inr after) = ⊎_elim (λ same. inl (ap last_use_in after.1 ∙ same)) (λ one. inr (one.0, ap last_use_in after.1 ∙ one.1)) (closed-goes size act b)

-- ---- of a card of these sizes

module _ (app : Application) where
  use-told : (x : List ℕ) → last_use app x ≡ last_use_in (book_of app x).vehicles
  unfolding book_of
  use-told x = refl

  by-vehicle : (x y : List ℕ) → Goes (book_of app x).vehicles (book_of app y).vehicles → IsWhole (last_use app x) (last_use app y)
  by-vehicle x y goes = ⊎_elim (λ same. inl (use-told y ∙ same ∙ sym (use-told x))) (λ one. inr (one.0, use-told y ∙ one.1)) goes

  -- a keep
  pub keeping-whole : (registration : Registration) (odometer more : ℕ) (e : Entry) (x y : List ℕ) → IsCard app (IsKeepMoment app.activity registration odometer more e (book_of app x)) x y → IsWhole (last_use app x) (last_use app y)
  keeping-whole registration odometer more e x y card = by-vehicle x y (keep-goes app.activity registration odometer more e (book_of app x) (book_of app y).days (book_of app y).vehicles card.told)

  -- an entry by hand writes no vehicle entry
  pub written-whole : (h : Manual) (x y : List ℕ) → IsCard app (IsBook (by_hand app.activity h (book_of app x))) x y → IsWhole (last_use app x) (last_use app y)
  written-whole h x y card = by-vehicle x y (inl (ap last_use_in card.told.1))

  pub writing-whole : (h : Manual) (x y : List ℕ) → IsCard app (IsByHandMoment app.activity h (book_of app x)) x y → IsWhole (last_use app x) (last_use app y)
  writing-whole h x y card = by-vehicle x y (inl (ap last_use_in card.told.1))

  still-whole : (x y : List ℕ) → IsStill app x y → IsWhole (last_use app x) (last_use app y)
  still-whole x y card = by-vehicle x y (inl (ap last_use_in card.told.1))

  shutting-whole : (x y : List ℕ) → IsShutting app x y → IsWhole (last_use app x) (last_use app y)
  shutting-whole x y card = by-vehicle x y (closing-goes app.activity Rest (book_of app x) (book_of app y).days (book_of app y).vehicles card.told)

  shut-whole : (x y : List ℕ) → IsShut app x y → IsWhole (last_use app x) (last_use app y)
  shut-whole x y card = by-vehicle x y (closing-goes app.activity Rest (book_of app x) (book_of app y).days (book_of app y).vehicles (inr card.told))

  module _ (sound : IsApplication app) where
    beside-whole : (x y : List ℕ) → PointsInside (vehicle_ring app) x → HaveSameVehicles app x y → IsWhole (last_use app x) (last_use app y)
    beside-whole x y points same = inl (last_use_same app x y sound points same)

    -- a withdrawal
    at-closing : (act : Activity) (x y : List ℕ) → IsCard app (IsCloseMoment app.activity act (book_of app x)) x y → IsWhole (last_use app x) (last_use app y)
    at-closing act x y card = by-vehicle x y (closing-goes app.activity act (book_of app x) (book_of app y).days (book_of app y).vehicles card.told)

    pub ended-whole : (act : Activity) (x before y : List ℕ) → image_size_of app ≤ length x → IsCard app (IsBook (closed app.activity act (book_of app x))) x before → y ≡ ended app before → IsWhole (last_use app x) (last_use app y)
    ended-whole act x before y fits card is =
        whole-then (last_use app x) (last_use app before) (last_use app y)
        (at-closing act x before (record { outside = card.outside; holds = card.holds; points = card.points; told = inr card.told }))
        (subst (λ (l : List ℕ). IsWhole (last_use app before) (last_use app l)) (sym is)
        (beside-whole before (ended app before) card.points (ended_same app sound before (omega (arith, fits, card.outside.same_length)) card.points).1))

    pub closing-whole : (act : Activity) (x y : List ℕ) → IsCard app (IsCloseMoment app.activity act (book_of app x)) x y → IsWhole (last_use app x) (last_use app y)
    closing-whole act x y card = at-closing act x y card

    -- an insertion
    module _ (registration : Registration) (long : length registration.0 ≡ 15) (odometer now : ℕ) (owed : List Entry) (x : List ℕ) (fits : image_size_of app ≤ length x) where
      abbrev Whole : (x y : List ℕ) → Type 0
      Whole x y = IsWhole (last_use app x) (last_use app y)

      behind : (y z : List ℕ) → Whole x y → Whole y z → Whole x z
      behind y z first next = whole-then (last_use app x) (last_use app y) (last_use app z) first next

      shut-inserting : (y : List ℕ) → InsertingClosed app registration now x y → Whole x y
      shut-inserting y (inl still) = still-whole x y still
      shut-inserting y (inr (x1, still, inl shutting)) = behind x1 y (still-whole x x1 still) (shutting-whole x1 y shutting)
      shut-inserting y (inr (x1, still, inr (x2, shut, opening))) =
          behind x2 y (behind x1 x2 (still-whole x x1 still) (shut-whole x1 x2 shut))
          (beside-whole x2 y shut.points (opening_same app registration now long x2 y (omega (arith, use_inside app, fits, still.outside.same_length, shut.outside.same_length)) opening).1)

      mended : (x1 x2 : List ℕ) → IsStill app x x1 → IsRepaired app registration odometer owed x1 x2 → Whole x x2
      mended x1 x2 still repaired_ =
          behind x1 x2 (still-whole x x1 still)
          (by-vehicle x1 x2 (⊎_elim (λ same. inl (ap last_use_in repaired_.told.1 ∙ same)) (λ one. inr (one.0, ap last_use_in repaired_.told.1 ∙ one.1))
          (owed-goes app.activity registration odometer (lacked (mark_of (book_of app x1)) owed) (with_cut (mark_of (book_of app x1)) (book_of app x1)))))

      open-inserting : (y : List ℕ) → InsertingOpen app registration odometer owed now x y → Whole x y
      open-inserting y (inl still) = still-whole x y still
      open-inserting y (inr (x1, still, inl repairing)) =
          behind x1 y (still-whole x x1 still) (by-vehicle x1 y (repair-goes app.activity registration odometer owed (book_of app x1) (book_of app y).days (book_of app y).vehicles repairing.told))
      open-inserting y (inr (x1, still, inr (x2, repaired_, inl noting))) =
          behind x2 y (mended x1 x2 still repaired_) (beside-whole x2 y repaired_.points (noting_same app now x2 y noting).1)
      open-inserting y (inr (x1, still, inr (x2, repaired_, inr (x3, noted, inl shutting)))) =
          behind x3 y (behind x2 x3 (mended x1 x2 still repaired_) (beside-whole x2 x3 repaired_.points (noted_same app now x2 x3 noted).1)) (shutting-whole x3 y shutting)
      open-inserting y (inr (x1, still, inr (x2, repaired_, inr (x3, noted, inr (x4, shut, reopening))))) =
          let room2 : image_size_of app ≤ length x2 = omega (arith, fits, still.outside.same_length, repaired_.outside.same_length) in
          let room3 = (noted_keeps app now x2 x3 (omega (arith, use_inside app, room2)) noted).1 in
          behind x4 y
          (behind x3 x4 (behind x2 x3 (mended x1 x2 still repaired_) (beside-whole x2 x3 repaired_.points (noted_same app now x2 x3 noted).1)) (shut-whole x3 x4 shut))
          (beside-whole x4 y shut.points (reopening_same app registration now long x4 y (omega (arith, use_inside app, room2, room3, shut.outside.same_length)) reopening).1)

      pub inserting-whole : (y : List ℕ) → IsCardInserting app registration odometer owed now x y → IsWhole (last_use app x) (last_use app y)
      inserting-whole y is = ⊎_elim (λ closed. shut-inserting y closed.1) (λ open_. open-inserting y open_.1) is
