-- What a second leaves of detailed speed up to its turn: as it begins, and behind its actions.
use Rattle.std.proofs.Common.{◌≡◌, ◌∙◌, ◌⊎◌, inl, inr, ⊎_elim, ℕ, ◌+◌, ◌%◌, ◌<◌, ◌≤◌, Bool, true, false, cond, Option, Some, None, IfSome, is_some, List, [], ◌∷◌, ◌++◌, filter, refl, sym, ap, subst, arith, append-nil}
use Rattle.std.specs.Prelude.{◌&&◌, ◌==◌, not, nat_eq, min, option_to_list}
use Rattle.std.specs.List.{AllByRecursion, list_any}
use Rattle.activity_codec.specs.declared.values.Slot.{Slot}
use Rattle.activity_codec.specs.declared.values.Slot.TheVariants.{Driver, CoDriver}
use Rattle.trace_model.specs.declared.Card.{Card}
use Rattle.trace_model.specs.declared.Action.{Action}
use Rattle.trace_model.specs.declared.Item.{Item}
use Rattle.trace_model.specs.declared.Item.TheVariants.{Run as Driven, Off, Act}
use Rattle.trace_model.specs.Trace.{TraceSecond}
use Rattle.log_model.specs.declared.lines.Break.{Break}
use Rattle.log_model.specs.declared.lines.SlotFault.{SlotFault}
use Rattle.log_model.specs.Causes.{second_of, is_cut, has_failed}
use Rattle.log_model.specs.Log.{RunLog, cut_in}
use Rattle.log_model.specs.Course.{Before, has_power, went}
use Rattle.device_calls.specs.note_model.Done.{has_failed_in}
use Rattle.device_calls.specs.event_model.Spans.{SpeedSecond, gap_of}
use Rattle.device_calls.specs.event_model.declared.entries.Span.{Span}
use Rattle.run_minutes.specs.card_slots.Calls.{seat_in, card_in}
use Rattle.device_calls.specs.safety_model.Safe.{Devices}
use Rattle.run_acts.specs.speed_model.declared.block.Block.{Block}
use Rattle.run_acts.specs.speed_model.Blocks.{blocks_of, blocks_in}
use Rattle.run_acts.specs.speed_store.Feeding as minute
use Rattle.run_acts.proofs.speed_store.Feeding.{given-at, time-at}
use Rattle.run_acts.specs.unit_notes.declared.unit_event.UnitEvent.{UnitEvent}
use Rattle.device_calls.specs.run_unit_course.Lines.{log_of as log_with, cut_at, found_from}
use Rattle.device_calls.specs.run_unit_course.Followed.{UnitPower, Lit as IsLit, Due as IsDue, Lost as IsLost}
use Rattle.device_calls.proofs.run_unit_course.Lines.{cut-found}
use Rattle.run_acts.specs.run_course.Moments.{and_break}
use Rattle.run_acts.specs.run_course.Followed.{BookFollowsRun, Comes, IsSupplied}
use Rattle.run_acts.proofs.run_course.Lookups.{cut-by}
use Rattle.run_acts.proofs.run_course.Logs.{cut-rest, other-number}
use Rattle.run_acts.proofs.run_course.Told.{lit-power, comes-power}
use Rattle.run_outcome.specs.Lines.{Listed}
use Rattle.run_outcome.specs.declared.outcome.Outcome.{Outcome}
use Rattle.run_minutes.specs.declared.keeper.Moment.{Moment}
use Rattle.run_minutes.specs.run_promise.Origin.{Origin, rule_of, start_at, first_of}
use Rattle.run_acts.proofs.run_note_record.SoFar.{failed-more}
use Rattle.run_acts.proofs.run_note_record.Bases.{failed-here}
use Rattle.run_acts.proofs.run_note_record.RingsWaking.{still-failed}
use Rattle.run_acts.specs.run_record.Recorded.{progress}
use Rattle.run_acts.specs.run_speeds.Speeds.{LeavesSpeeds}
use Rattle.run_acts.specs.run_speeds.Spans.{speed_spans, last_speeds, speeds_before}
use Rattle.run_acts.proofs.run_speeds.Blocks.{carries-unsure}
use Rattle.run_acts.proofs.run_speeds.Spans.{grown, before-them, grown-blocks, no-block, one-block, as-speed, speeds-lit, IsAlike, alike-power, SameCut, same-power, cuts-before}
use Rattle.run_acts.specs.run_events.declared.watch.Watch.{Watch}
use Rattle.run_acts.specs.declared.run.Run.{Run}
use Rattle.run_acts.specs.declared.run.Power.{Power}
use Rattle.run_acts.specs.declared.run.Power.TheVariants.{Lit, Due, Lost}
use Rattle.run_acts.specs.Acting.{IsNotedIn, noted_run, now_moment}
use Rattle.run_acts.specs.Noting.{GapReach, NoGap, UnitFailed, DriverFell, BothSlots, IsGapNoted, AreGapEvents}
use Rattle.run_acts.specs.Going.{largest_number}
use Rattle.run_acts.specs.Power.{is_lit, has_power as has_by, over_by, minute_over}
use Rattle.run_acts.specs.Recording.{log_of, values_of, Supplies, InSecondBy, RunRecorded}
use Rattle.run_acts.specs.Speeds.{HasBlocks, SpeedsBehind, SpeedsInBy}
use Rattle.run_acts.proofs.SpeedLogs.{FailsMore, unsure-here, blocks-same, blocks-more}
use Rattle.run_acts.specs.ByHand.{stopped_in}
use Rattle.recorder_with_cards.specs.Acting.{moment_of, cut_where, cut_breaks, IsCarriedOut, IsActedBy, IsActed, IsItemActed, AreActed}
use Rattle.recorder_with_cards.specs.Carded.{InSecondCardedBy}
use Rattle.recorder_with_cards.specs.Noting.{JudgesThese, JudgesBoth, JudgesThenGap, HasBegunSpan, WakeReach, Unmended, AtDriver, AtCoDriver, NoneBefore, AtGap, AreWakingEvents, EndsWaking, read_run, read_outcome, NotesPowerOn}
use Rattle.recorder_with_cards.proofs.GapShown.{gap-lines}
use Rattle.recorder_with_cards.proofs.HereDone.{TellsMoreOf, of-then, accepted-of, done-of}
use Rattle.recorder_with_cards.proofs.Read.{may-of}
use Rattle.recorder_with_cards.proofs.Staying.{StaysWatched, done-watched}
use Rattle.recorder_with_cards.proofs.WokenRinged.{comes-of}

-- ---- WHAT MORE LINES OF A SECOND SAY: no cut of a second before, and no failed call less

pub record SaysMore (u : ℕ) (log later : RunLog) : Type 0 where
  pub cuts : (v : ℕ) → v < u → cut_in later v ≡ cut_in log v
  pub fails : FailsMore log later

pub says-lines : (u : ℕ) (log later : RunLog) → TellsMoreOf u log.breaks later.breaks → SaysMore u log later
says-lines u log later more = record {
  cuts = λ v less.
      cut-by later v ∙ ap (λ (bs : List Break). cut_in (log_with bs) v) more.1 ∙ cut-rest log.breaks more.0 u v (other-number u v less) more.2 ∙ sym (cut-by log v);
  fails = failed-more log later (more.0, more.1);
}

pub says-found : (u : ℕ) (log later : RunLog) (i k : ℕ) → later.breaks ≡ found_from i k log.breaks → SaysMore u log later
says-found u log later i k is = record {
  cuts = λ v less. cut-by later v ∙ ap (λ (bs : List Break). cut_in (log_with bs) v) is ∙ cut-found i k log.breaks v ∙ sym (cut-by log v);
  fails = λ v has.
      let is_failed : Break → Bool = λ (b : Break). is_cut b && has_failed b in
      ap (λ (bs : List Break). list_any (λ (b : Break). nat_eq (second_of b) v) (filter is_failed bs)) is ∙ still-failed log i k v has;
}

pub says-then : (u : ℕ) (a b c : RunLog) → SaysMore u a b → SaysMore u b c → SaysMore u a c
says-then u a b c first next = record { cuts = λ v less. next.cuts v less ∙ first.cuts v less; fails = λ v has. next.fails v (first.fails v has) }

none-more : (u : ℕ) (a b : List Break) → b ≡ a → TellsMoreOf u a b
none-more u a b is = ([], is ∙ sym (append-nil a), tt)

-- ---- WHAT STAYS of a run

pub record StaysSo (old new : Run) : Type 0 where
  pub watch : new.watch ≡ old.watch
  pub power : new.power ≡ old.power
  pub next : new.next ≡ old.next

so-is : (old new : Run) → new ≡ old → StaysSo old new
so-is old new is = record { watch = ap (λ (r : Run). r.watch) is; power = ap (λ (r : Run). r.power) is; next = ap (λ (r : Run). r.next) is }

so-then : (a b c : Run) → StaysSo a b → StaysSo b c → StaysSo a c
so-then a b c first next = record { watch = next.watch ∙ first.watch; power = next.power ∙ first.power; next = next.next ∙ first.next }

-- so many lines of a second more, and a run that stays so
abbrev GoesSo : (u : ℕ) → (old new : Run) → (before after : Outcome) → Type 0
GoesSo u old new before after = TellsMoreOf u before.breaks.items after.breaks.items × StaysSo old new

goes-then : (u : ℕ) (a b c : Run) (x y z : Outcome) → GoesSo u a b x y → GoesSo u b c y z → GoesSo u a c x z
goes-then u a b c x y z first next = (of-then u x.breaks.items y.breaks.items z.breaks.items first.0 next.0, so-then a b c first.1 next.1)

-- ---- cards are judged, and an interruption is noted

judged-goes : (who : Option Card) (slot : Slot) (at : Moment) (speed : ℕ) (old new : Run) (before after : Outcome) (vs : List UnitEvent) → JudgesThese who slot at speed old new before after vs → GoesSo at.second old new before after
judged-goes None slot at speed old new before after vs is = (none-more at.second before.breaks.items after.breaks.items (ap (λ (o : Outcome). o.breaks.items) is.1), so-is old new is.0)
judged-goes (Some card) slot at speed old new before after vs is = (
  subst (λ (m : Moment). TellsMoreOf m.second before.breaks.items after.breaks.items) is.1.moment (accepted-of is.0 old new before after is.2),
  record { watch = ap (λ (r : Run). r.watch) is.2.only; power = ap (λ (r : Run). r.power) is.2.only; next = ap (λ (r : Run). r.next) is.2.only },
)

both-go : (speed : ℕ) (old new : Run) (before after : Outcome) (vs : List UnitEvent) → JudgesBoth speed old new before after vs → GoesSo old.next old new before after
both-go speed old new before after vs is =
    goes-then old.next old is.one new before is.told after
    (judged-goes (card_in (seat_in old.keeper.cabin.slots.seats Driver)) Driver (now_moment old) speed old is.one before is.told is.first is.driver)
    (judged-goes (card_in (seat_in is.one.keeper.cabin.slots.seats CoDriver)) CoDriver (now_moment old) speed is.one new is.told after is.second is.codriver)

noted-so : (fell : Bool) (card : Card) (second : ℕ) (old new : Run) → new ≡ noted_run fell card second old → StaysSo old new
noted-so false card second old new is = so-is old new is
noted-so true card second old new is = record { watch = ap (λ (r : Run). r.watch) is; power = ap (λ (r : Run). r.power) is; next = ap (λ (r : Run). r.next) is }

note-stays : (who : Option Card) (slot : Slot) (at : Moment) (old new : Run) (breaks after : Listed Break) (fell : Bool) → IsNotedIn who slot at old new breaks after fell → StaysSo old new
note-stays None slot at old new breaks after fell is = so-is old new is.0
note-stays (Some card) slot at old new breaks after fell is = noted-so fell card at.second old new is.0.run

gap-stays : (gap : Option Span) (at : Moment) (failed : Bool) (old new : Run) (breaks after : Listed Break) (reach : GapReach) → IsGapNoted gap at failed old new breaks after reach → StaysSo old new
gap-stays None at failed old new breaks after NoGap is = so-is old new is.1
gap-stays None at failed old new breaks after UnitFailed is = absurd is
gap-stays None at failed old new breaks after DriverFell is = absurd is
gap-stays None at failed old new breaks after (BothSlots driver codriver) is = absurd is
gap-stays (Some gap) at failed old new breaks after NoGap is = absurd is
gap-stays (Some gap) at failed old new breaks after UnitFailed is = so-is old new is.1
gap-stays (Some gap) at failed old new breaks after DriverFell is = note-stays (card_in (seat_in old.keeper.cabin.slots.seats Driver)) Driver at old new breaks after true is.1
gap-stays (Some gap) at failed old new breaks after (BothSlots driver codriver) is =
    so-then old is.0.between new (note-stays (card_in (seat_in old.keeper.cabin.slots.seats Driver)) Driver at old is.0.between breaks is.0.told driver is.0.first)
    (note-stays (card_in (seat_in is.0.between.keeper.cabin.slots.seats CoDriver)) CoDriver at is.0.between new is.0.told after codriver is.0.second)

gap-noted : (gap : Option Span) (at : Moment) (failed : Bool) (old new : Run) (breaks after : Listed Break) (reach : GapReach) (vs : List UnitEvent) → AreGapEvents gap at failed old new breaks after reach vs → IsGapNoted gap at failed old new breaks after reach
gap-noted None at failed old new breaks after reach vs is = is.0
gap-noted (Some gap) at failed old new breaks after NoGap vs is = absurd is
gap-noted (Some gap) at failed old new breaks after UnitFailed vs is = is.0
gap-noted (Some gap) at failed old new breaks after DriverFell vs is = is.0
gap-noted (Some gap) at failed old new breaks after (BothSlots driver codriver) vs is = (is.0, is.1)

then-gap : (kept speed : ℕ) (failed : Bool) (old new : Run) (before after : Outcome) (reach : GapReach) (vs : List UnitEvent) → JudgesThenGap kept speed failed old new before after reach vs → GoesSo old.next old new before after
then-gap kept speed failed old new before after reach vs is =
    let first = both-go speed old is.two before is.told is.judged is.both in
    let noted = gap-noted (gap_of kept is.two.next) (now_moment is.two) failed is.two new is.told.breaks after.breaks reach is.later is.gap in
    goes-then old.next old is.two new before is.told after first (
      subst (λ (u : ℕ). TellsMoreOf u is.told.breaks.items after.breaks.items) first.1.next (gap-lines (gap_of kept is.two.next) (now_moment is.two) failed is.two new is.told.breaks after.breaks reach noted),
      gap-stays (gap_of kept is.two.next) (now_moment is.two) failed is.two new is.told.breaks after.breaks reach noted,
    )

-- ---- POWER COMES: a span begins, with no second yet

-- nothing is kept of a minute yet
abbrev pub IsFresh : Run → Type 0
IsFresh run = (next : ℕ) → minute.KeepsSpeedsOf run.watch.speeds [] next

fresh-so : (old new : Run) → StaysSo old new → IsFresh old → IsFresh new
fresh-so old new same fresh = λ next. subst (λ (w : Watch). minute.KeepsSpeedsOf w.speeds [] next) (sym same.watch) (fresh next)

pub record GoesAwake (failed : Bool) (first : ℕ) (new : Run) (before after : Outcome) : Type 0 where
  pub more : TellsMoreOf first before.breaks.items after.breaks.items
  pub next : new.next ≡ first
  pub lit : failed ≡ false → new.power ≡ Lit
  pub fresh : failed ≡ false → IsFresh new

module _ (failed : Bool) (old mid new : Run) (before after : Outcome) (begun : HasBegunSpan old mid) where
  awake-by : GoesSo mid.next mid new before after → GoesAwake failed old.next new before after
  awake-by goes = record {
    more = subst (λ (u : ℕ). TellsMoreOf u before.breaks.items after.breaks.items) begun.2.next goes.0;
    next = goes.1.next ∙ begun.2.next;
    lit = λ fine. goes.1.power ∙ begun.2.power;
    fresh = λ fine. fresh-so mid new goes.1 begun.2.speeds;
  }

pub goes-awake : (reach : WakeReach) (kept speed : ℕ) (failed : Bool) (old new : Run) (before after : Outcome) (vs : List UnitEvent) → AreWakingEvents reach kept speed failed old new before after vs → GoesAwake failed old.next new before after
goes-awake Unmended kept speed failed old new before after vs is = record {
  more = none-more old.next before.breaks.items after.breaks.items (ap (λ (o : Outcome). o.breaks.items) is.2);
  next = ap (λ (r : Run). r.next) is.1;
  lit = λ fine. absurd (let clash : true ≡ false = sym is.0 ∙ fine in cc);
  fresh = λ fine. absurd (let clash : true ≡ false = sym is.0 ∙ fine in cc);
}
goes-awake (AtDriver mid) kept speed failed old new before after vs is =
    awake-by failed old mid new before after is.0 (judged-goes (card_in (seat_in mid.keeper.cabin.slots.seats Driver)) Driver (now_moment mid) speed mid new before after vs is.2)
goes-awake (AtCoDriver mid) kept speed failed old new before after vs is = awake-by failed old mid new before after is.0 (both-go speed mid new before after vs is.2)
goes-awake (NoneBefore mid) kept speed failed old new before after vs is = awake-by failed old mid new before after is.0 (both-go speed mid new before after vs is.3)
goes-awake (AtGap mid reach) kept speed failed old new before after vs is = awake-by failed old mid new before after is.0 (then-gap kept speed failed mid new before after reach vs is.2)

-- ---- HOW FAR A SECOND HAS COME since it began with power: by its lines, and its watch

-- the watch goes on, or began with it
abbrev WatchGoes : (old new : Run) → Type 0
WatchGoes old new = ((old.power ≡ Lit) × (new.watch.speeds ≡ old.watch.speeds)) ⊎ ((is_lit old.power ≡ false) × IsFresh new)

pub record CameSo (u : ℕ) (old new : Run) (before after : Outcome) : Type 0 where
  pub says : SaysMore u (log_of before) (log_of after)
  pub cut : is_lit new.power ≡ false → has_failed_in (log_of after) u ≡ true
  pub watch : is_lit new.power ≡ true → WatchGoes old new
  pub next : new.next ≡ old.next

lit-is : (p : Power) → is_lit p ≡ true → p ≡ Lit
lit-is Lit on = refl
lit-is Due on = absurd (cc)
lit-is Lost on = absurd (cc)

over-same : (b : Bool) (old : Run) → StaysSo old (over_by b old)
over-same true old = record { watch = refl; power = refl; next = refl }
over-same false old = record { watch = refl; power = refl; next = refl }

-- power that goes on
came-lit : (u : ℕ) (old new : Run) (before after : Outcome) → is_lit old.power ≡ true → new ≡ minute_over old → after ≡ before → CameSo u old new before after
came-lit u old new before after on is same =
    let s : StaysSo old new = so-then old (minute_over old) new (over-same (old.next % 60 == 0) old) (so-is (minute_over old) new is) in
    let lit : is_lit new.power ≡ true = ap is_lit s.power ∙ on in
    record {
      says = says-lines u (log_of before) (log_of after) (none-more u before.breaks.items after.breaks.items (ap (λ (o : Outcome). o.breaks.items) same));
      cut = λ dark. absurd (let clash : true ≡ false = sym lit ∙ dark in cc);
      watch = λ yes. inl (lit-is old.power on, ap (λ (w : Watch). w.speeds) s.watch);
      next = s.next;
    }

-- a cut that a failed call made
came-cut : (u : ℕ) (old mid new : Run) (before told after : Outcome) → SaysMore u (log_of before) (log_of told) → mid.next ≡ old.next → old.next ≡ u → EndsWaking true mid new told after → CameSo u old new before after
came-cut u old mid new before told after says next here ends =
    let at : mid.next ≡ u = next ∙ here in
    record {
      says = says-then u (log_of before) (log_of told) (log_of after) says
          (says-lines u (log_of told) (log_of after) (cut_at mid.next true 0 ∷ [], ap (λ (o : Outcome). o.breaks.items) ends.1, (at, tt)));
      cut = λ dark. ap (λ (o : Outcome). has_failed_in (log_of o) u) ends.1 ∙ ap (λ (n : ℕ). has_failed_in (and_break (log_of told) (cut_at n true 0)) u) at ∙ failed-here (log_of told) u 0;
      watch = λ yes. absurd (let clash : false ≡ true = sym (ap (λ (r : Run). is_lit r.power) ends.0) ∙ yes in cc);
      next = ap (λ (r : Run). r.next) ends.0 ∙ next;
    }

-- power that comes
module _ (kept u : ℕ) (old : Run) (before : Outcome) (here : old.next ≡ u) (dark : is_lit old.power ≡ false) where
  came-found : (failed : Bool) (woken new : Run) (out after : Outcome) → GoesAwake failed old.next woken (read_outcome kept old before) out → EndsWaking failed woken new out after → CameSo u old new before after
  came-found failed woken new out after goes ends = by failed goes ends
    where
      found : SaysMore u (log_of before) (log_of out)
      found =
          says-then u (log_of before) (log_of (read_outcome kept old before)) (log_of out)
          (says-found u (log_of before) (log_of (read_outcome kept old before)) old.unfound kept refl)
          (says-lines u (log_of (read_outcome kept old before)) (log_of out) (subst (λ (v : ℕ). TellsMoreOf v (read_outcome kept old before).breaks.items out.breaks.items) here goes.more))

      by : (f : Bool) → GoesAwake f old.next woken (read_outcome kept old before) out → EndsWaking f woken new out after → CameSo u old new before after
      by true g e = came-cut u old woken new before out after found g.next here e
      by false g e = record {
        says = subst (λ (o : Outcome). SaysMore u (log_of before) (log_of o)) (sym e.1) found;
        cut = λ off. absurd (let clash : true ≡ false = sym (ap is_lit (ap (λ (r : Run). r.power) e.0 ∙ g.lit refl)) ∙ off in cc);
        watch = λ yes. inr (dark, λ next. subst (λ (r : Run). minute.KeepsSpeedsOf r.watch.speeds [] next) (sym e.0) (g.fresh refl next));
        next = ap (λ (r : Run). r.next) e.0 ∙ g.next;
      }

-- A SECOND HAS BEGUN WITH POWER, as its beginning says by value
pub came-begun : (speed u : ℕ) (old new : Run) (before after : Outcome) (d e : Devices) → old.next ≡ u → (is_lit old.power ≡ true → (new ≡ minute_over old) × (after ≡ before)) →
    (is_lit old.power ≡ false → NotesPowerOn speed old new before after d e) → CameSo u old new before after
came-begun speed u old new before after d e here going comes = by (is_lit old.power) refl
  where
    by : (b : Bool) → is_lit old.power ≡ b → CameSo u old new before after
    by true on = let is = going on in came-lit u old new before after on is.0 is.1
    by false dark = ⊎_elim
        (λ found. let n = found.1 in
        came-found found.0 u old before here dark n.failed n.woken new n.out after
        (goes-awake n.waking.reach found.0 speed n.failed (read_run old before) n.woken (read_outcome found.0 old before) n.out n.waking.events n.waking.are) n.ends)
        (λ unread. came-cut u old old new before before after (says-lines u (log_of before) (log_of before) (none-more u before.breaks.items before.breaks.items refl)) refl here unread.ends)
        (comes dark)

-- ---- BEHIND SOME ACTIONS

pub record ActedSo (u : ℕ) (old new : Run) (before after : Outcome) : Type 0 where
  pub more : TellsMoreOf u before.breaks.items after.breaks.items
  pub lit : is_lit new.power ≡ true → (is_lit old.power ≡ true) × (new.watch ≡ old.watch)
  pub cut : is_lit new.power ≡ false → (is_lit old.power ≡ false) ⊎ (has_failed_in (log_of after) u ≡ true)
  pub next : new.next ≡ old.next

acted-none : (u : ℕ) (old new : Run) (before after : Outcome) → new ≡ old → after.breaks.items ≡ before.breaks.items → ActedSo u old new before after
acted-none u old new before after is same = record {
  more = none-more u before.breaks.items after.breaks.items same;
  lit = λ on. (sym (ap (λ (r : Run). is_lit r.power) is) ∙ on, ap (λ (r : Run). r.watch) is);
  cut = λ off. inl (sym (ap (λ (r : Run). is_lit r.power) is) ∙ off);
  next = ap (λ (r : Run). r.next) is;
}

acted-then : (u : ℕ) (a b c : Run) (x y z : Outcome) → ActedSo u a b x y → ActedSo u b c y z → ActedSo u a c x z
acted-then u a b c x y z first next = record {
  more = of-then u x.breaks.items y.breaks.items z.breaks.items first.more next.more;
  lit = λ on. let n = next.lit on in let f = first.lit n.0 in (f.0, n.1 ∙ f.1);
  cut = λ off. ⊎_elim
      (λ was. ⊎_elim (λ before_. inl before_) (λ failed. inr ((says-lines u (log_of y) (log_of z) next.more).fails u failed)) (first.cut was))
      (λ failed. inr failed)
      (next.cut off);
  next = next.next ∙ first.next;
}

carried-so : (action : Action) (begun speed : ℕ) (old new : Run) (before after : Outcome) → is_lit old.power ≡ true → IsCarriedOut action begun speed old new before after → ActedSo old.next old new before after
carried-so action begun speed old new before after on c = by c.failed c.run c.outcome
  where
    more : TellsMoreOf old.next before.breaks.items c.told.breaks.items
    more = done-of action (moment_of begun old) speed c.failed old c.between before c.told c.done

    stays : StaysWatched old c.between
    stays = done-watched action (moment_of begun old) speed c.failed old c.between before c.told c.done

    by : (f : Bool) → new ≡ cut_where f c.between → after ≡ cut_breaks f c.between.next begun c.told → ActedSo old.next old new before after
    by false is told = record {
      more = subst (λ (o : Outcome). TellsMoreOf old.next before.breaks.items o.breaks.items) (sym told) more;
      lit = λ yes. (on, ap (λ (r : Run). r.watch) is ∙ stays.watch);
      cut = λ off. absurd (let clash : true ≡ false = sym (ap (λ (r : Run). is_lit r.power) is ∙ ap is_lit stays.power ∙ on) ∙ off in cc);
      next = ap (λ (r : Run). r.next) is ∙ stays.next;
    }
    by true is told = record {
      more = of-then old.next before.breaks.items c.told.breaks.items after.breaks.items more (cut_at c.between.next true begun ∷ [], ap (λ (o : Outcome). o.breaks.items) told, (stays.next, tt));
      lit = λ yes. absurd (let clash : false ≡ true = sym (ap (λ (r : Run). is_lit r.power) is) ∙ yes in cc);
      cut = λ off. inr (ap (λ (o : Outcome). has_failed_in (log_of o) old.next) told ∙ ap (λ (n : ℕ). has_failed_in (and_break (log_of c.told) (cut_at n true begun)) old.next) stays.next ∙ failed-here (log_of c.told) old.next begun);
      next = ap (λ (r : Run). r.next) is ∙ stays.next;
    }

action-so : (action : Action) (begun speed : ℕ) (old new : Run) (before after : Outcome) (lit : Bool) → is_lit old.power ≡ lit → IsActed true lit action begun speed old new before after → ActedSo old.next old new before after
action-so action begun speed old new before after false off is = acted-none old.next old new before after is.0 (ap (λ (o : Outcome). o.breaks.items) is.1)
action-so action begun speed old new before after true on is = by (stopped_in old speed action) is
  where
    by : (r : Option SlotFault) → IsActedBy r action begun speed old new before after → ActedSo old.next old new before after
    by None c = carried-so action begun speed old new before after on c
    by (Some fault) c = acted-none old.next old new before after c.0 (ap (λ (o : Outcome). o.breaks.items) c.1)

pub item-so : (item : Item) (begun speed : ℕ) (old new : Run) (before after : Outcome) → IsItemActed item true (is_lit old.power) begun speed old new before after → ActedSo old.next old new before after
item-so (Driven seconds driven) begun speed old new before after is = acted-none old.next old new before after is.0 (ap (λ (o : Outcome). o.breaks.items) is.1)
item-so (Off seconds) begun speed old new before after is = acted-none old.next old new before after is.0 (ap (λ (o : Outcome). o.breaks.items) is.1)
item-so (Act action) begun speed old new before after is = action-so action begun speed old new before after (is_lit old.power) refl is

pub all-so : (speed number : ℕ) (items : List Item) (old new : Run) (before after : Outcome) → AreActed true speed number items old new before after → ActedSo old.next old new before after
all-so speed number [] old new before after is = acted-none old.next old new before after is.0 (ap (λ (o : Outcome). o.breaks.items) is.1)
all-so speed number (item ∷ items) old new before after is =
    let first = item-so item (min (number + 1) largest_number) speed old is.0 before is.1 is.2 in
    acted-then old.next old is.0 new before is.1 after first (subst (λ (u : ℕ). ActedSo u is.0 new is.1 after) first.next (all-so speed (number + 1) items is.0 new is.1 after is.3))

-- BEHIND THE ACTIONS OF A SECOND that had power as it began
pub came-acted : (u speed number : ℕ) (items : List Item) (old mid new : Run) (before told after : Outcome) → old.next ≡ u → CameSo u old mid before told → AreActed true speed number items mid new told after → CameSo u old new before after
came-acted u speed number items old mid new before told after here came is =
    let at : mid.next ≡ u = came.next ∙ here in
    let acted : ActedSo u mid new told after = subst (λ (v : ℕ). ActedSo v mid new told after) at (all-so speed number items mid new told after is) in
    let more : SaysMore u (log_of told) (log_of after) = says-lines u (log_of told) (log_of after) acted.more in
    record {
      says = says-then u (log_of before) (log_of told) (log_of after) came.says more;
      cut = λ off. ⊎_elim (λ was. more.fails u (came.cut was)) (λ failed. failed) (acted.cut off);
      watch = λ on.
          let a = acted.lit on in
          ⊎_elim
          (λ goes. inl (goes.0, ap (λ (w : Watch). w.speeds) a.1 ∙ goes.1))
          (λ begins. inr (begins.0, λ next. subst (λ (w : Watch). minute.KeepsSpeedsOf w.speeds [] next) (sym a.1) (begins.1 next)))
          (came.watch a.0);
      next = acted.next ∙ came.next;
    }

-- ---- THE POWER OF A SECOND, as the seconds before it have it

pub runs : (before : Before) (next : ℕ) (supply : UnitPower) → Supplies Lit supply → IsSupplied supply before next → before.running ≡ true
runs before next (IsLit (t ∷ span)) h power = power.running
runs before next (IsLit []) h power = absurd h
runs before next IsDue h power = absurd h
runs before next IsLost h power = absurd h

pub lit-has : (before : Before) (s : TraceSecond) (next : ℕ) (supply : UnitPower) → Supplies Lit supply → IsSupplied supply before next → s.number ≡ next → s.has_power ≡ true → has_power before s ≡ true
lit-has before s next (IsLit (t ∷ span)) h power number given = lit-power (t ∷ span) before s next power number given
lit-has before s next (IsLit []) h power number given = absurd h
lit-has before s next IsDue h power number given = absurd h
lit-has before s next IsLost h power number given = absurd h

-- ---- IN A SECOND: what its seconds before carry it carries behind its actions too

module _ (o : Origin) (done : List TraceSecond) (s : TraceSecond) (old new : Run) (before after : Outcome) (d e : Devices) (r : RunRecorded o done old before d) (h : SpeedsBehind o done old before d)
    (number : s.number ≡ old.next) (given : s.has_power ≡ true) (has : has_by old.power old.next ≡ true) (came : CameSo s.number old new before after) (leaves : LeavesSpeeds d.unit e.unit) where
  abbrev log : RunLog
  log = log_of before

  abbrev later : RunLog
  later = log_of after

  abbrev first : Before
  first = (went log done).before

  abbrev spans : List (List SpeedSecond)
  spans = speed_spans log done

  f : BookFollowsRun (rule_of o) (start_at o) o.from (first_of o) done (progress (values_of old before) r.supply r.recorded.book)
  f = r.recorded.recorded.followed

  -- power, and whether a span goes on
  comes : is_lit old.power ≡ false → Comes first old.next
  comes dark = comes-of r.supply first old.next (may-of old.power r.supply old.next r.powers dark has) f.power

  powers : is_lit old.power ≡ true → Supplies Lit r.supply
  powers on = subst (λ (p : Power). Supplies p r.supply) (lit-is old.power on) r.powers

  runs-so : (b : Bool) → is_lit old.power ≡ b → (first.running ≡ b) × (has_power first s ≡ true)
  runs-so true on = (runs first old.next r.supply (powers on) f.power, lit-has first s old.next r.supply (powers on) f.power number given)
  runs-so false dark = ((comes dark).running, comes-power first s old.next (comes dark) number given)

  running : first.running ≡ is_lit old.power
  running = (runs-so (is_lit old.power) refl).0

  -- the later log tells the same of the seconds before
  same : AllByRecursion (SameCut log later) done
  same = let next = f.next in cuts-before log later o.from s.number done f.order (omega (arith, next, number)) (λ u less. ap is_some (came.says.cuts u less))

  alike : IsAlike first (went later done).before × (speed_spans later done ≡ spans)
  alike = same-power log later done same

  -- the speeds that are kept stand for the seconds of its span
  abbrev behind : (running : Bool) → List SpeedSecond
  behind running_ = cond running_ (last_speeds spans) []

  behind-is : speeds_before later done ≡ behind (is_lit old.power)
  behind-is = (λ i. cond (alike.0.running i) (last_speeds (alike.1 i)) []) ∙ ap behind running

  stands : is_lit new.power ≡ true → minute.KeepsSpeedsOf new.watch.speeds (speeds_before later done) new.next
  stands on = subst (λ (xs : List SpeedSecond). minute.KeepsSpeedsOf new.watch.speeds xs new.next) (sym behind-is) (⊎_elim goes begins (came.watch on))
    where
      goes : (old.power ≡ Lit) × (new.watch.speeds ≡ old.watch.speeds) → minute.KeepsSpeedsOf new.watch.speeds (behind (is_lit old.power)) new.next
      goes w =
          subst (λ (b : Bool). minute.KeepsSpeedsOf new.watch.speeds (behind b) new.next) (sym (ap is_lit w.0))
          (subst (λ (n : ℕ). minute.KeepsSpeedsOf new.watch.speeds (last_speeds spans) n) (sym came.next) (subst (λ (kept : List ℕ). minute.KeepsSpeedsOf kept (last_speeds spans) old.next) (sym w.1) (h.watched w.0)))

      begins : (is_lit old.power ≡ false) × IsFresh new → minute.KeepsSpeedsOf new.watch.speeds (behind (is_lit old.power)) new.next
      begins w = subst (λ (b : Bool). minute.KeepsSpeedsOf new.watch.speeds (behind b) new.next) (sym w.0) (w.1 new.next)

  -- the unit carries what it carried
  carries : HasBlocks o later done e
  carries = blocks-same o log later came.says.fails done done d e (ap blocks_in alike.1) leaves h.blocks

  -- or power was cut in it: the block that it would have brought is not sure
  spans-cut : speed_spans later (done ++ s ∷ []) ≡ grown (not (is_lit old.power)) spans (as-speed s ∷ [])
  spans-cut =
      speeds-lit later done s (alike-power first (went later done).before s alike.0 ∙ (runs-so (is_lit old.power) refl).1)
      ∙ (λ i. grown (not (alike.0.running i)) (alike.1 i) (as-speed s ∷ []))
      ∙ ap (λ (b : Bool). grown (not b) spans (as-speed s ∷ [])) running

  record Brought (running : Bool) : Type 0 where
    block : Option Block
    brings : blocks_of (before-them (not running) spans ++ as-speed s ∷ []) ≡ blocks_of (before-them (not running) spans) ++ option_to_list block
    last : IfSome block (λ b. b.time + 60 ≡ s.number + 1)

  brought : (b : Bool) → is_lit old.power ≡ b → Brought b
  brought true on =
      let kept : List ℕ = old.watch.speeds in
      let within : old.next % 60 + 1 ≤ 60 = omega arith in
      record {
        block = minute.block_at kept old.next 1 s.speed;
        brings = subst (λ (n : ℕ). blocks_of (last_speeds spans ++ record { number = n; speed = s.speed } ∷ []) ≡ blocks_of (last_speeds spans) ++ option_to_list (minute.block_at kept old.next 1 s.speed)) (sym number)
            (given-at 1 kept (last_speeds spans) old.next s.speed (omega arith) within (h.watched (lit-is old.power on)));
        last = subst (λ (n : ℕ). IfSome (minute.block_at kept old.next 1 s.speed) (λ b. b.time + 60 ≡ n + 1)) (sym number) (time-at 1 kept old.next s.speed within);
      }
  brought false dark = record {
    block = None;
    brings = one-block (as-speed s) ∙ sym no-block ∙ sym (append-nil (blocks_of []));
    last = tt;
  }

  cut-carries : is_lit new.power ≡ false → HasBlocks o later (done ++ s ∷ []) e
  cut-carries dark =
      let b : Brought (is_lit old.power) = brought (is_lit old.power) refl in
      blocks-more o log later came.says.fails done (done ++ s ∷ []) d e b.block true
      (ap blocks_in spans-cut ∙ grown-blocks (not (is_lit old.power)) spans (as-speed s ∷ []) (option_to_list b.block) b.brings)
      r.recorded.there.unit (λ failed. unsure-here later s.number b.block b.last (came.cut dark)) (carries-unsure d.unit e.unit b.block leaves) h.blocks

  pub in-second : (n : ℕ) → InSecondBy (is_lit new.power) o done s n new after e → SpeedsInBy (is_lit new.power) o done s n new after e
  in-second n here = by (is_lit new.power) refl here
    where
      by : (b : Bool) → is_lit new.power ≡ b → InSecondBy b o done s n new after e → SpeedsInBy b o done s n new after e
      by true on x = (x, stands on, carries)
      by false dark x = (x, cut-carries dark)

-- as it is carried with all else
pub carded-in : (b : Bool) (o : Origin) (done : List TraceSecond) (s : TraceSecond) (n : ℕ) (run : Run) (out : Outcome) (d : Devices) → InSecondCardedBy b o done s n run out d → InSecondBy b o done s n run out d
carded-in true o done s n run out d h = h.ringed.evented.within
carded-in false o done s n run out d h = h.ringed.evented.cut
