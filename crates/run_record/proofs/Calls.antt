-- What the calls of a power-on say of the devices is what the record needs: the unit was read, or not; and mended, or not.
use Rattle.std.proofs.Common.{◌≡◌, inl, inr, ⊎_elim, ℕ, ◌+◌, ◌<◌, ◌≤◌, nat_le, Bool, true, false, not, Some, is_some, List, [], All, refl, ap, subst, ◌∙◌, arith}
use Rattle.std.proofs.lemmas.Bool.Decides.{nat_tests}
use Rattle.run_devices.specs.trace_model.declared.Card.{Card}
use Rattle.run_devices.specs.trace_model.declared.Card.TheVariants.{A, B}
use Rattle.run_devices.specs.trace_model.Trace.{TraceSecond}
use Rattle.tach_media.specs.Medium.{State, IsCoherent, LeavesOnly, Unchanged, Rose, HasCause, last_count, revivable}
use Rattle.minute_rules.specs.Kept.{Kept, CountsSpan}
use Rattle.run_devices.specs.log_model.declared.lines.Mark.{Mark}
use Rattle.run_devices.specs.log_model.Causes.{device_of, RoseBy}
use Rattle.run_devices.specs.history_model.Minutes.{HistoryMinute}
use Rattle.run_devices.specs.history_model.Book.{Book, all, found, IsMark}
use Rattle.run_devices.specs.device_rule.Rules.{Standing}
use Rattle.run_devices.specs.device_rule.Views.{unit_view}
use Rattle.run_devices.specs.unit_model.Image.{last_kept, odometer_at}
use Rattle.run_devices.specs.unit_minutes.declared.notes.Notes.{Notes}
use Rattle.run_devices.specs.unit_minutes.Mends.{IsMending}
use Rattle.run_devices.specs.run_unit_course.Followed.{UnitPower, MayPower}
use Rattle.run_devices.specs.run_unit_course.Legs.{resumed}
use Rattle.run_devices.specs.run_unit_course.Travelled.{MayShow}
use Rattle.run_devices.specs.run_unit_course.Turn.{span_at}
use Rattle.run_devices.specs.unit_rule.Rule.{Started}
use Rattle.run_devices.specs.device_calls.Rule.{IsHeldMended, Both, CardRests, IsTakenUp}
use Rattle.run_devices.specs.unit_rule.Marks.{UnitFollowsBook}
use Rattle.run_devices.specs.unit_rule.Odometer.{ShowsOdometer, HasTravelled}
use Rattle.run_devices.proofs.unit_rule.Moves.{shown-last}
use Rattle.run_devices.proofs.unit_rule.Travelling.{travelled-read, travelled-found}
use Rattle.run_devices.specs.card_image.Own.{IsOwnValid}
use Rattle.run_devices.specs.device_calls.Times.{AreTimedSince}
use Rattle.run_devices.specs.safety_model.Safe.{Devices, card_of, breakdowns_of}
use Rattle.run_devices.specs.run_promise.Between.{RunLedger, devices}
use Rattle.run_devices.specs.run_promise.Cards.{IsUntouched}
use Rattle.run_devices.specs.run_promise.Found.{found_of}
use Rattle.run_devices.specs.run_course.Telling.{IsMore}
use Rattle.run_devices.specs.Told.{carried_found, DevicesUnpowered}
use Rattle.run_devices.proofs.Power.{found-powerless, unread-powerless, mended-powered, mended-powerless}
use Rattle.run_devices.proofs.Travelled.{travelled-mended}
use Rattle.run_devices.specs.run_promise.Origin.{Origin, rule_of, first_of}
use Rattle.run_record.specs.Recorded.{Values, carried, AreThere, RecordUnpowered, RecordBetweenSeconds}
use Rattle.run_record.specs.Powering.{GoOn, WasRead, IsBack, IsOnlyRead, IsNotRead}
use Rattle.run_record.proofs.Powering.{off-of}

-- a device that broke down did so once more
rose-by : (a b : ℕ) → Rose a b → RoseBy 1 a b
rose-by a b h = by (nat_le (a + 1) last_count) refl
  where
    by : (t : Bool) → nat_le (a + 1) last_count ≡ t → RoseBy 1 a b
    by true is = let le : a + 1 ≤ last_count = grind (arith, nat_tests) in inl (omega (arith, le, h))
    by false is = let gt : last_count < a + 1 = grind (arith, nat_tests) in inr (omega (arith, gt, h))

-- only the unit was called
module _ (o : Origin) (d : Devices) (V : State) (rise : d.unit.breakdowns ≤ V.breakdowns) (tells : is_some V.image ≡ is_some d.unit.image) (keeps : (x : List ℕ) → d.unit.left_since o.found.unit.began x → V.left_since o.found.unit.began x) where
  pub goes-on : GoOn o d (devices V d.card_a d.card_b)
  goes-on = record { breakdowns = more; left = record { unit = keeps; card = left }; there = λ h. record { unit = tells ∙ h.unit; cards = images h; clocks = clocks h; timed = timed h }; untouched = still }
    where
      images : AreThere o.found d → (c : Card) → is_some (card_of (devices V d.card_a d.card_b) c).image ≡ true
      images h A = h.cards A
      images h B = h.cards B

      clocks : AreThere o.found d → (c : Card) → (found_of o.found c).began ≤ (card_of (devices V d.card_a d.card_b) c).clock
      clocks h A = h.clocks A
      clocks h B = h.clocks B

      timed : AreThere o.found d → (c : Card) → IsOwnValid (found_of o.found c).image → AreTimedSince (found_of o.found c).image (found_of o.found c).began (card_of (devices V d.card_a d.card_b) c)
      timed h A valid = h.timed A valid
      timed h B valid = h.timed B valid

      stays : (c : Card) → breakdowns_of (devices V d.card_a d.card_b) (device_of c) ≡ breakdowns_of d (device_of c)
      stays A = refl
      stays B = refl

      more : IsMore (breakdowns_of d) (breakdowns_of (devices V d.card_a d.card_b))
      more = record { unit = rise; cards = stays }

      left : (c : Card) (x : List ℕ) → (card_of d c).left_since (found_of o.found c).began x → (card_of (devices V d.card_a d.card_b) c).left_since (found_of o.found c).began x
      left A x h = h
      left B x h = h

      still : (c : Card) → IsUntouched (found_of o.found c) (card_of d c) → IsUntouched (found_of o.found c) (card_of (devices V d.card_a d.card_b) c)
      still A h = h
      still B h = h

-- WITHOUT POWER the unit is called
module _ (o : Origin) (done : List TraceSecond) (supply : UnitPower) (v : Values) (d : Devices) (r : RecordBetweenSeconds o done supply v d) (may : MayPower supply v.next) (V : State) (whole : IsCoherent d.unit) (run : LeavesOnly d.unit V Unchanged) where
  abbrev w : RunLedger
  w = carried v r.due r.book r.standing r.brought r.hands r.firsts

  off : RecordUnpowered o done v w d
  off = off-of o done supply v w d may r.held

  began : o.found.unit.began ≤ d.unit.clock
  began = (off.powerless.carried.unit.unit_holds [] []).later

  -- THE UNIT WAS NOT READ
  pub not-read : HasCause (revivable d.unit) V true → IsNotRead o done supply v d r (devices V d.card_a d.card_b)
  not-read cause = record {
    powerless = unread-powerless o.found w d V r.found.two whole off.powerless run;
    broke = rose-by d.unit.breakdowns V.breakdowns (cause.breaks refl refl);
    goes = goes-on o d V cause.breakdowns run.tells (λ x left. run.keeps o.found.unit.began x began left);
    travels = travelled-read (odometer_at o.recording.unit) r.book r.travel r.beside.travels whole run;
  }

  -- IT WAS READ
  module _ (after : IsCoherent V) (wholes : (c : Card) → IsCoherent (card_of d c)) (works : V.works ≡ true) (x : List ℕ) (is : V.image ≡ Some x) (same : V.breakdowns ≡ d.unit.breakdowns) (first : o.found.unit.first ≡ first_of o) where
    abbrev k : ℕ
    k = last_kept x

    read : DevicesUnpowered o.found (carried_found k w) (devices V d.card_a d.card_b)
    read = found-powerless o.found w d V r.found.two whole after wholes off.powerless run works x is

    odometers : (shown : ShowsOdometer (odometer_at o.recording.unit) r.book r.travel x) × HasTravelled (odometer_at o.recording.unit) (found k r.book) (resumed shown.leg r.travel) V
    odometers = travelled-found (odometer_at o.recording.unit) r.book r.travel r.beside.travels whole k x after run works is refl

    before : d.unit.may_leave x
    before = ⊎_elim (λ was. was) (λ never. absurd never.2) (run.now x (after.is_left x is))

    shows : MayShow (first_of o) r.book r.travel k odometers.0.leg
    shows =
        let held = (off.powerless.carried.unit.unit_holds [] []).now (unit_view [] [] x) (x, before, refl) in
        record {
          mark = subst (λ (n : ℕ). IsMark n (all r.book) k) first (subst (IsMark o.found.unit.first (all r.book)) (shown-last [] [] x) held.mark);
          low = subst (λ (n : ℕ). All (λ (i : HistoryMinute). i.minute ≤ n) r.book.sure) (shown-last [] [] x) held.sure;
          side = odometers.0.side;
          behind = odometers.0.behind;
        }

    -- and its mending wrote this
    module _ (j : Notes) (W : State) (failed : Bool) (mends : LeavesOnly V W (IsMending j)) (tells : is_some W.image ≡ is_some V.image) (cause : HasCause V W failed)
        (holds : (s : Started) (due : ℕ) (b : Book) (marks : List Mark) → UnitFollowsBook s due b marks V → IsHeldMended s due b marks W)
        (taken_a : (q : Both) (c : Card) (b : Book) (z : Standing) → CardRests q c b z V d.card_a → IsTakenUp q c b z failed W d.card_a)
        (taken_b : (q : Both) (c : Card) (b : Book) (z : Standing) → CardRests q c b z V d.card_b → IsTakenUp q c b z failed W d.card_b) where
      goes : GoOn o d (devices W d.card_a d.card_b)
      goes = goes-on o d W (let rise = cause.breakdowns in omega (arith, rise, same)) (tells ∙ run.tells)
          (λ y left. mends.keeps o.found.unit.began y (let le = began in let on = run.later in omega (arith, le, on)) (run.keeps o.found.unit.began y began left))

      travels : HasTravelled (odometer_at o.recording.unit) (found k r.book) (resumed odometers.0.leg r.travel) W
      travels = travelled-mended (odometer_at o.recording.unit) (found k r.book) (resumed odometers.0.leg r.travel) odometers.1 after j mends

      was-read : WasRead o k (devices W d.card_a d.card_b)
      was-read = (x, goes.left.unit x (whole.counts_now o.found.unit.began x began before), refl)

      pub is-back : failed ≡ false → (minutes : Kept) → CountsSpan minutes (span_at (rule_of o) v.next []) → IsBack o done supply v d r k minutes (devices W d.card_a d.card_b)
      is-back well minutes stands = record {
        leg = odometers.0.leg;
        shows = shows;
        read = was-read;
        stands = stands;
        powered = mended-powered o.found (carried_found k w) v.cabin.cards V W d.card_a d.card_b r.found after refl read failed holds taken_a taken_b tells well (cause.works ∙ ap not well) off.bare;
        goes = goes;
        travels = travels;
      }

      pub only-read : failed ≡ true → IsOnlyRead o done supply v d r k (devices W d.card_a d.card_b)
      only-read fails = record {
        leg = odometers.0.leg;
        shows = shows;
        read = was-read;
        powerless = mended-powerless o.found (carried_found k w) v.cabin.cards V W d.card_a d.card_b r.found after refl read failed holds taken_a taken_b tells;
        broke = rose-by d.unit.breakdowns W.breakdowns (subst (λ (n : ℕ). Rose n W.breakdowns) same (cause.breaks works fails));
        goes = goes;
        travels = travels;
      }
