-- What calls write in the rings of the unit, one after another.
use Rattle.std.proofs.Common.{◌≡◌, inl, inr, ⊎_elim, ℕ, ◌+◌, ◌≤◌, Bool, true, false, not, Option, Some, None, IfSome, is_some, List, length, refl, ap, sym, subst, arith}
use Rattle.tach_media.specs.Medium.{State, IsCoherent, LeavesOnly}
use Rattle.tach_media.proofs.Runs.{at_image}
use Rattle.run_events.specs.gated_ring.Ring.{Shape}
use Rattle.run_events.specs.gated_ring.Change.{IsAdded, IsAdding}
use Rattle.run_events.specs.message_model.Records.{insertion_ring, unit_place_ring}
use Rattle.tacho_types.specs.declared.numbers.Odometer.{Odometer}
use Rattle.unit_model.specs.minute_model.declared.Minute.{Minute}
use Rattle.unit_notes.specs.declared.unit_event.UnitEvent.{UnitEvent}
use Rattle.unit_notes.specs.Noting.{IsEventNoted, IsNotingEvent, IsOverNoted, IsNotingOver, IsWithdrawn, IsWithdrawing, with_first, with_one_more}
use Rattle.unit_notes.specs.event_model.declared.kinds.TheConstants.{OVER_SPEEDING, DRIVING_WITHOUT_CARD}
use Rattle.run_events.proofs.unit_events.NoteFrames.{first-outside, more-outside}
use Rattle.unit_model.specs.Image.{IsUnit}
use Rattle.run_crew.specs.declared.cards.Accepted.{Accepted}
use Rattle.run_events.specs.declared.watch.Ended.{Ended}
use Rattle.run_events.specs.Noting.{IsBareNoted, IsNotingBare, IsFastNoted, IsNotingFast, AreNoted, AreBeingNoted}
use Rattle.run_events.specs.Watching.{BareWith, OverWith, bare_ended, over_ended}
use Rattle.run_outcome.specs.declared.outcome.Outcome.{Outcome}
use Rattle.run_events.proofs.run_rings.Same.{same-rings, then-same, outside-both, table-outside, rings-then}
use Rattle.run_note_record.specs.Ringed.{HasSameRings, LeavesRings, WritesImages, Seating, MayBeAdded, IsWithdrawnAt, MayBeWithdrawn}
use Rattle.run_minutes.proofs.run_devices.Parts.{told-one}
use Rattle.run_minutes.specs.declared.keeper.Moment.{Moment}
use Rattle.run_minutes.specs.Faults.{faults_to}
use Rattle.run_minutes.proofs.Faults.{tells-rings, faults-leave}
use Rattle.run_acts.specs.declared.run.Run.{Run}
use Rattle.run_acts.specs.Turning.{late_moment, told_of}
use Rattle.run_acts.specs.Faults.{NotesSettling, EndsTo, NotesKeeping, NotesTurn}
use Rattle.run_acts.proofs.KeptEvents.{as-long, tells-long}
use Rattle.run_acts.specs.Acting.{Closing, Bare, Closed, Fell}
use Rattle.run_acts.specs.Ringing.{AddsPlace, WithdrawalStands, ClosesRings}

-- ---- one call after another

pub leaves-writes : (R : List ℕ → List ℕ → Type 0) (U V W : State) → LeavesRings U V → WritesImages R V W → WritesImages R U W
leaves-writes R U V W a b = λ y at.
    let m = b y at in
    let x = a m.0 m.1 in
    (x.0, x.1, (m.2.0, m.2.1, then-same x.0 m.0 m.2.0 x.2 m.2.2, m.2.3, m.2.4))

pub writes-leave : (R : List ℕ → List ℕ → Type 0) (U V W : State) → WritesImages R U V → LeavesRings V W → WritesImages R U W
writes-leave R U V W a b = λ y at.
    let m = b y at in
    let x = a m.0 m.1 in
    (x.0, x.1, (x.2.0, x.2.1, x.2.2, x.2.3, then-same x.2.1 m.0 y x.2.4 m.2))

pub writes-weaken : (R T : List ℕ → List ℕ → Type 0) (U V : State) → ((p q : List ℕ) → R p q → T p q) → WritesImages R U V → WritesImages T U V
writes-weaken R T U V weaker a = λ y at. let x = a y at in (x.0, x.1, (x.2.0, x.2.1, x.2.2, weaker x.2.0 x.2.1 x.2.3, x.2.4))

-- a call that writes nothing
pub none-written : (R : List ℕ → List ℕ → Type 0) (U : State) → ((x : List ℕ) → R x x) → WritesImages R U U
none-written R U none = λ y at. (y, at, (y, y, same-rings y, none y, same-rings y))

-- ---- of a call on a unit that tells its image

module _ (U V : State) (before : IsCoherent U) (behind : IsCoherent V) where
  pub call-done : (R : List ℕ → List ℕ → Type 0) → is_some U.image ≡ true → IfSome U.image (λ x. IfSome V.image (R x)) → V.works ≡ true → WritesImages R U V
  call-done R tells noted works = λ y at.
      let x = told-one U.image tells in
      let one : R x.0 y = at_image (R x.0) (behind.only y works at) (at_image (λ (l : List ℕ). IfSome V.image (R l)) x.1 noted) in
      (x.0, before.is_left x.0 x.1, (x.0, y, same-rings x.0, one, same-rings y))

  pub call-broken : (S T : List ℕ → List ℕ → Type 0) → LeavesOnly U V S → ((x : List ℕ) → T x x) → ((x c : List ℕ) → S x c → T x c) → WritesImages T U V
  call-broken S T run none moment = λ y at. ⊎_elim
      (λ old. (y, old, (y, y, same-rings y, none y, same-rings y)))
      (λ new. (new.0, before.is_left new.0 new.1, (new.0, y, same-rings new.0, moment new.0 y new.2, same-rings y)))
      (run.now y at)

-- ---- a place

pub added-moment : (r : Shape) (head x y : List ℕ) → IsAdded r head x y → IsAdding r head x y
added-moment r head x y added = record {
  outside = added.outside;
  step = λ points. record {
    others = added.others points;
    pointer_is = inr (added.list points).pointer_is;
    points = added.points points;
    list = inr (inr (added.list points));
    dense = added.dense points;
  };
}

module _ (head : List ℕ) (U V W : State) (before : IsCoherent U) (behind : IsCoherent V) (tells : is_some U.image ≡ true) (moments : LeavesOnly U V (IsAdding unit_place_ring head)) where
  -- the unit failed in its note
  pub place-broken : AddsPlace true head U V
  place-broken = call-broken U V before behind (IsAdding unit_place_ring head) (MayBeAdded unit_place_ring head) moments (λ x. inl refl) (λ x c h. inr h)

  -- it is noted, and then the card was called, which may have failed, and the unit in the note of that
  pub place-then : (failed : Bool) → IfSome U.image (λ x. IfSome V.image (IsAdded unit_place_ring head x)) → V.works ≡ true → LeavesRings V W → AddsPlace failed head U W
  place-then false noted works rest = writes-leave (IsAdded unit_place_ring head) U V W (call-done U V before behind (IsAdded unit_place_ring head) tells noted works) rest
  place-then true noted works rest =
      writes-weaken (IsAdded unit_place_ring head) (MayBeAdded unit_place_ring head) U W (λ p q h. inr (added-moment unit_place_ring head p q h)) (writes-leave (IsAdded unit_place_ring head) U V W (call-done U V before behind (IsAdded unit_place_ring head) tells noted works) rest)

-- ---- a withdrawal

-- so many were added since that it is gone
pub withdrawal-gone : (s : Seating) (second : ℕ) (odometer : Odometer) (U : State) → insertion_ring.count ≤ s.behind → WithdrawalStands false s second odometer U U
withdrawal-gone s second odometer U most = none-written (IsWithdrawnAt s (record { 0 = second }) odometer) U (λ x. inr (same-rings x, most))

pub withdrawal-noted : (s : Seating) (second : ℕ) (odometer : Odometer) (failed : Bool) (U V : State) → IsCoherent U → IsCoherent V → is_some U.image ≡ true → s.behind + 1 ≤ insertion_ring.count →
    (failed ≡ false → IfSome U.image (λ x. IfSome V.image (IsWithdrawn s.index (record { 0 = second }) odometer x))) → LeavesOnly U V (IsWithdrawing s.index (record { 0 = second }) odometer) → V.works ≡ not failed → WithdrawalStands failed s second odometer U V
withdrawal-noted s second odometer false U V before behind tells there noted moments works =
    writes-weaken (IsWithdrawn s.index (record { 0 = second }) odometer) (IsWithdrawnAt s (record { 0 = second }) odometer) U V (λ p q h. inl (h, omega (arith, there)))
    (call-done U V before behind (IsWithdrawn s.index (record { 0 = second }) odometer) tells (noted refl) works)
withdrawal-noted s second odometer true U V before behind tells there noted moments works =
    call-broken U V before behind (IsWithdrawing s.index (record { 0 = second }) odometer) (MayBeWithdrawn s (record { 0 = second }) odometer) moments (λ x. inl (inl refl, omega (arith, there))) (λ x c h. inl (h, omega (arith, there)))

pub withdraws-behind : (failed : Bool) (s : Seating) (second : ℕ) (odometer : Odometer) (U V W : State) → LeavesRings U V → WithdrawalStands failed s second odometer V W → WithdrawalStands failed s second odometer U W
withdraws-behind false s second odometer U V W a b = leaves-writes (IsWithdrawnAt s (record { 0 = second }) odometer) U V W a b
withdraws-behind true s second odometer U V W a b = leaves-writes (MayBeWithdrawn s (record { 0 = second }) odometer) U V W a b

-- the minutes before are kept first
pub closes-behind : (closing : Closing) (session : Option Accepted) (at : Moment) (failed : Bool) (run : Run) (U V W : State) → LeavesRings U V → ClosesRings closing session at failed run V W → ClosesRings closing session at failed run U W
closes-behind Bare session at failed run U V W a b = rings-then U V W a b
closes-behind Closed None at failed run U V W a b = absurd b
closes-behind Closed (Some s) at failed run U V W a b = λ span stands. withdraws-behind failed _ at.second _ U V W a (b span stands)
closes-behind Fell session at failed run U V W a b = rings-then U V W a b

-- ---- what has ended

event-rings : (kind : ℕ) (front x c : List ℕ) → IsEventNoted kind front x c → HasSameRings x c
event-rings kind front x c noted = table-outside kind x c noted.outside

moment-rings : (kind : ℕ) (front x c : List ℕ) → IsNotingEvent kind front x c → HasSameRings x c
moment-rings kind front x c noted = table-outside kind x c noted.outside

over-rings : (begin : ℕ) (front x c : List ℕ) → 580 ≤ length x → IsOverNoted begin front x c → HasSameRings x c
over-rings begin front x c long h =
    let y : List ℕ = h.0 in
    let same = h.1.outside.same_length in
    let wide : 580 ≤ length y = omega (arith, long, same) in
    let first = first-outside begin y wide in
    let wider : 580 ≤ length (with_first begin y) = let more = first.same_length in omega (arith, wide, more) in
    subst (λ (l : List ℕ). HasSameRings x l) (sym h.2)
    (then-same x y (with_one_more (with_first begin y)) (event-rings OVER_SPEEDING front x y h.1)
    (then-same y (with_first begin y) (with_one_more (with_first begin y)) (outside-both 572 4 y (with_first begin y) (inl (omega arith)) first)
    (outside-both 576 4 (with_first begin y) (with_one_more (with_first begin y)) (inl (omega arith)) (more-outside (with_first begin y) wider))))

noting-rings : (begin : ℕ) (front x c : List ℕ) → 580 ≤ length x → IsNotingOver begin front x c → HasSameRings x c
noting-rings begin front x c long (inl moment) = moment-rings OVER_SPEEDING front x c moment
noting-rings begin front x c long (inr (y, done, inl is)) =
    let same = done.outside.same_length in
    let wide : 580 ≤ length y = omega (arith, long, same) in
    subst (λ (l : List ℕ). HasSameRings x l) (sym is)
    (then-same x y (with_first begin y) (event-rings OVER_SPEEDING front x y done) (outside-both 572 4 y (with_first begin y) (inl (omega arith)) (first-outside begin y wide)))
noting-rings begin front x c long (inr (y, done, inr is)) = over-rings begin front x c long (y, done, is)

bare-rings : (o : Option BareWith) (x y : List ℕ) → IsBareNoted o x y → HasSameRings x y × (length y ≡ length x)
bare-rings None x y is = (subst (λ (l : List ℕ). HasSameRings x l) (sym is) (same-rings x), ap (λ (l : List ℕ). length l) is)
bare-rings (Some b) x y noted = (event-rings DRIVING_WITHOUT_CARD _ x y noted, noted.outside.same_length)

bare-moment : (o : Option BareWith) (x c : List ℕ) → IsNotingBare o x c → HasSameRings x c
bare-moment None x c is = subst (λ (l : List ℕ). HasSameRings x l) (sym is) (same-rings x)
bare-moment (Some b) x c moment = moment-rings DRIVING_WITHOUT_CARD _ x c moment

fast-rings : (o : Option OverWith) (x y : List ℕ) → 580 ≤ length x → IsFastNoted o x y → HasSameRings x y
fast-rings None x y long is = subst (λ (l : List ℕ). HasSameRings x l) (sym is) (same-rings x)
fast-rings (Some o) x y long noted = over-rings o.over.begin _ x y long noted

fast-moment : (o : Option OverWith) (x c : List ℕ) → 580 ≤ length x → IsNotingFast o x c → HasSameRings x c
fast-moment None x c long is = subst (λ (l : List ℕ). HasSameRings x l) (sym is) (same-rings x)
fast-moment (Some o) x c long moment = noting-rings o.over.begin _ x c long moment

module _ (ended : Ended) (y c : List ℕ) (long : 580 ≤ length y) where
  noted-rings : AreNoted ended y c → HasSameRings y c
  noted-rings h =
      let bare = bare-rings (bare_ended ended) y h.between h.bare in
      let same = bare.1 in
      then-same y h.between c bare.0 (fast-rings (over_ended ended) h.between c (omega (arith, long, same)) h.over)

  being-rings : AreBeingNoted ended y c → HasSameRings y c
  being-rings (inl moment) = bare-moment (bare_ended ended) y c moment
  being-rings (inr h) =
      let bare = bare-rings (bare_ended ended) y h.between h.bare in
      let same = bare.1 in
      then-same y h.between c bare.0 (fast-moment (over_ended ended) h.between c (omega (arith, long, same)) h.over)

ends-rings : (failed : Bool) (ended : Ended) (y c : List ℕ) → 580 ≤ length y → EndsTo failed ended y c → HasSameRings y c
ends-rings false ended y c long h = noted-rings ended y c long h
ends-rings true ended y c long (inl is) = subst (λ (l : List ℕ). HasSameRings y l) (sym is) (same-rings y)
ends-rings true ended y c long (inr moment) = being-rings ended y c long moment

-- ---- the keeping of minutes

-- A SETTLING leaves both rings as they are;
pub settling-leaves : (at : Moment) (failed : Bool) (old new : Run) (before after : Outcome) (U V : State) → NotesSettling at failed old new before after U V → LeavesRings U V
settling-leaves at failed old new before after U V h = faults-leave failed (faults_to old.keeper at h.2 (told_of old before)) U V h.4

-- and so does a turn
keeping-leaves : (decided : List Minute) (n speed : ℕ) (at : Moment) (failed : Bool) (old new : Run) (before after : Outcome) (U V : State) → IsCoherent U → IsUnit U → NotesKeeping decided n speed at failed old new before after U V → LeavesRings U V
keeping-leaves decided n speed at failed old new before after U V whole unit (reach, is, inl cut) = faults-leave true (faults_to old.keeper at reach (told_of old before)) U V cut.2
keeping-leaves decided n speed at failed old new before after U V whole unit (reach, is, inr e) = λ c here.
    let h = e.noted c here in
    let vs : List UnitEvent = faults_to old.keeper at reach (told_of old before) in
    let sized = tells-long vs h.0 h.2 h.3 (as-long U whole unit h.0 h.1) in
    (h.0, h.1, then-same h.0 h.2 c (tells-rings vs h.0 h.2 h.3) (ends-rings failed e.ended h.2 c (omega (arith, sized)) h.4))

pub turn-leaves : (n speed begun : ℕ) (old new : Run) (before after : Outcome) (U V : State) → IsCoherent U → IsUnit U → NotesTurn n speed begun old new before after U V → LeavesRings U V
turn-leaves n speed begun old new before after U V whole unit h = keeping-leaves h.0.decided n speed (late_moment old.next n begun) h.0.failed h.0.fed h.0.between before h.0.told U V whole unit h.1
