-- The minutes that seconds of one minute decide are kept behind them, and what has ended is noted: what is recorded of it.
use Rattle.std.proofs.Common.{◌≡◌, ℕ, zero, suc, ◌+◌, ◌-◌, ◌/◌, ◌%◌, ◌<◌, ◌≤◌, Bool, true, false, Some, None, List, [], ◌∷◌, ◌++◌, length, is_some, refl, ap, sym, subst, ◌∙◌, arith, append-nil, append_assoc}
use Rattle.trace_model.specs.declared.Action.{Action}
use Rattle.trace_model.specs.declared.Card.{Card}
use Rattle.trace_model.specs.Trace.{TraceSecond, driven}
use Rattle.tach_media.specs.Medium.{State, last_count}
use Rattle.card_files.specs.card_layout.declared.command.CardState.{CardState}
use Rattle.log_model.specs.run_model.declared.Device.TheVariants.{Unit as Recorder}
use Rattle.unit_model.specs.minute_model.declared.Minute.{Minute}
use Rattle.unit_model.specs.minute_model.Span.{Span, fed_many, decided_in, ungiven_of}
use Rattle.minute_rules.specs.Kept.{Kept, CountsSpan}
use Rattle.log_model.specs.declared.lines.Break.{Break}
use Rattle.log_model.specs.declared.lines.Mark.{Mark}
use Rattle.log_model.specs.declared.lines.Refused.{Refused}
use Rattle.log_model.specs.Log.{In, Keeping}
use Rattle.log_model.specs.Causes.{RoseBy, device_of}
use Rattle.log_model.specs.Course.{ToldSecond as Second}
use Rattle.log_model.specs.ByHand.{by_slots}
use Rattle.device_calls.specs.safety_model.Safe.{Devices, breakdowns_of}
use Rattle.device_calls.specs.run_unit_course.Followed.{Lit as IsLit, Lost as IsLost}
use Rattle.device_calls.specs.run_unit_course.Legs.{all_travelled}
use Rattle.device_calls.proofs.run_unit_course.Legs.{travelled-earlier}
use Rattle.unit_model.specs.Image.{odometer_at}
use Rattle.device_calls.specs.unit_rule.Odometer.{odometer_after}
use Rattle.run_crew.specs.Cabin.{AreTwo, with_power_lost}
use Rattle.run_events.specs.declared.watch.Watch.{Watch}
use Rattle.run_outcome.specs.Lines.{Listed, cut_at}
use Rattle.run_outcome.specs.declared.outcome.Outcome.{Outcome}
use Rattle.run_minutes.specs.run_promise.Origin.{Origin}
use Rattle.run_events.specs.run_course.Moments.{and_break}
use Rattle.run_events.specs.run_course.Seconds.{next_told}
use Rattle.run_record.specs.Recorded.{Values, RecordBetweenSeconds}
use Rattle.run_record.specs.Within.{Beginning, RecordInSecond, RecordAtFailure, RecordedFrom, passed_values}
use Rattle.run_record.specs.Turning.{last_of, before_last, IsTurned}
use Rattle.run_record.proofs.Cutting.{cut-recorded}
use Rattle.run_record.proofs.Ending.{second-over}
use Rattle.run_record.proofs.Going.{dark-recorded}
use Rattle.run_record.proofs.Turning.{turn-ends, turn-is_fed}
use Rattle.run_minutes.specs.declared.keeper.Keeper.{Keeper}
use Rattle.run_minutes.specs.declared.keeper.Moment.{Moment}
use Rattle.run_minutes.specs.Minutes.{KeepingState, Reach, Whole, Short, IsReach, present_at}
use Rattle.run_minutes.specs.Deeds.{AllKeep, kepts_on}
use Rattle.run_minutes.specs.Books.{HaveTime, AreTimedOn}
use Rattle.run_minutes.specs.Decided.{readings_of}
use Rattle.run_acts.specs.Rounds.{Point, IsPoint, told_values, keeping_of, moment_of}
use Rattle.run_acts.specs.RoundLaws.{KeepsSo, HaveBrokenOff, carried_at}
use Rattle.run_acts.proofs.RoundBegun.{are-over, may-book}
use Rattle.run_acts.proofs.RoundKept.{keeping-recorded, note-fails}
use Rattle.run_acts.specs.declared.run.Run.{Run}
use Rattle.run_acts.specs.declared.run.Power.{Power}
use Rattle.run_acts.specs.declared.run.Power.TheVariants.{Lit, Lost}
use Rattle.run_acts.specs.Booked.{IsTurnReach, IsTurnBooked, BooksTurn, IsBookedTurn}
use Rattle.run_acts.specs.Devices.{DevicesGoOn}
use Rattle.run_acts.specs.Power.{cut_run, passed}
use Rattle.run_acts.specs.Going.{end_of_seconds, RunHasPowerAllSeated as MayBeCalled}
use Rattle.run_acts.specs.Recording.{IsOrigin, IsNow, Supplies, RunRecorded, RunWithin, RunCut, log_of, values_of}
use Rattle.run_note_record.specs.Uses.{vehicle_in}
use Rattle.run_acts.specs.Turning.{IsLitTurn, told_of, late_moment, cut_where, cut_breaks}
use Rattle.run_acts.proofs.GoesOn.{goes-on, unit-rose}
use Rattle.run_acts.proofs.SettledRecorded.{same-ungiven, two-present}
use Rattle.run_acts.proofs.Turned.{turn-decides, turn-most}
use Rattle.unit_notes.specs.note_model.Noted.{Note}
use Rattle.run_note_record.specs.Ringed.{notes_in}
use Rattle.run_note_record.specs.RingsSoFar.{GoesBehind, notes_so_far}
use Rattle.run_acts.specs.Closings.{notes_within}
use Rattle.run_acts.specs.Comings.{TellMore}
use Rattle.run_acts.specs.Truths.{truths_of, truths_within, marked}
use Rattle.run_crew.specs.Cards.{session_of}
use Rattle.run_acts.specs.Stays.{Whose, covers, AreKnown, AllStay}
use Rattle.run_acts.proofs.RingedSecond.{goes-behind, power-here}
use Rattle.run_acts.proofs.NotesThen.{actions-all, notes-end, notes-last, behind-goes}
use Rattle.run_acts.proofs.AllStay.{StoodBefore, Reached, all-of, all-kept, all-true, all-second, known-uncut, lines-on, no-cut, reach-told, turn-memory}
use Rattle.run_acts.proofs.RingedLines.{TellsBeside, tears-beside}
use Rattle.run_acts.proofs.KeptSeats.{floor-in, stood-kept, session-stays, reach-seats}
use Rattle.run_acts.proofs.TornNotes.{spells-kept}
use Rattle.run_acts.proofs.SeatsThen.{stands-seated}
use Rattle.run_acts.proofs.WholeLegs.{kepts-now}
use Rattle.run_acts.proofs.Truths.{grow-self, marked-grow, marked-still}
use Rattle.run_acts.proofs.TruthsThen.{began-uncut, truths-end, truths-last}

-- a span that goes on has a second
pub record IsPushed (xs : List Second) (x : Second) : Type 0 where
  pub first : Second
  pub rest : List Second
  pub is : xs ++ x ∷ [] ≡ first ∷ rest

pub pushed : (xs : List Second) (x : Second) → IsPushed xs x
pushed [] x = record { first = x; rest = []; is = refl }
pushed (y ∷ xs) x = record { first = y; rest = xs ++ x ∷ []; is = refl }

last-point : (s : TraceSecond) → IsPoint s (keeping_of s)
last-point s = record { phase = refl; acted = λ is. absurd (cc); few = omega arith; all = λ is. refl; unfed = λ no. absurd (no refl); feeds = λ is. refl }

-- IN THE KEEPING of the last second
module _ (old : Run) (before : Outcome) (minutes : Kept) (keeper : Keeper) (watch : Watch) (marks : Listed Mark) (breaks : Listed Break) (n begun : ℕ) (failed : Bool) (decided : List Minute) (reach : Reach) (d e : Devices) where
  abbrev fed : Run
  fed = record old { minutes = minutes }

  abbrev between : Run
  between = record old { minutes = minutes; keeper = keeper; watch = watch }

  abbrev told : Outcome
  told = record before { marks = marks; breaks = breaks }

  module _ (is : IsTurnReach decided (late_moment old.next n begun) failed (told_of fed before) (told_of between told) reach) (books : BooksTurn decided failed reach (told_of fed before) (told_of between told) d e)
      (devices : DevicesGoOn failed old.keeper.cabin.cards keeper.cabin.cards d e) (odometer : keeper.odometer ≡ old.keeper.odometer) (two : (m : ℕ) → AreTwo (present_at old.keeper.cabin m).driver (present_at old.keeper.cabin m).codriver)
      (lit : old.power ≡ Lit) (some : 0 < n) (time : HaveTime e)
      (o : Origin) (origin : IsOrigin o) (done : List TraceSecond) (s : TraceSecond) (next gone : ℕ) (w : RecordInSecond o done s Keeping [] (Some s.speed) decided (record (values_of old before) { minutes = minutes; next = next; begun = gone }) d)
      (number : s.number ≡ old.next + n - 1) (next_is : next ≡ old.next + n - 1) (actions : length s.actions ≡ begun) (stored : old.keeper.odometer ≡ odometer_after (odometer_at o.recording.unit) w.b.travel.before)
      (few : s.number / 60 ≤ w.from + 4) (low : w.from + length decided ≤ s.number / 60) where
    abbrev q : Point
    q = keeping_of s

    abbrev v : Values
    v = record (values_of old before) { minutes = minutes; next = next; begun = gone }

    abbrev t : KeepingState
    t = told_of fed before

    abbrev u : KeepingState
    u = told_of between told

    pub booked : IsTurnBooked o.found (odometer_at o.recording.unit) (carried_at o done s q decided t v d w) old.keeper failed reach (all_travelled w.ds w.b.travel) u e × AreTimedOn o.found (readings_of old.keeper decided) d e
        × (failed ≡ false → AllKeep o.found (kepts_on t.keeper decided) t.keeper.cabin.cards u.keeper.cabin.cards d e)
    booked = books o.found (carried_at o done s q decided t v d w) (odometer_at o.recording.unit) (all_travelled w.ds w.b.travel) (may-book o done s q decided t v d w few (are-over o done s decided t v d w)) w.travels
        (stored ∙ ap (odometer_after (odometer_at o.recording.unit)) (sym (travelled-earlier w.ds w.b.travel))) time

    pub keeps : KeepsSo o done s q decided t v d e w
    keeps = record {
      point = last-point s;
      few = few;
      over = are-over o done s decided t v d w;
      two = two;
      goes = goes-on o (carried_at o done s q decided t v d w) failed old.keeper.cabin.cards keeper.cabin.cards d e w.powered w.there devices (readings_of old.keeper decided) booked.1;
      unit = devices.cause.breakdowns;
    }

    pub off : HaveBrokenOff t u d e
    off = record { a = devices.card_a.broken; b = devices.card_b.broken; rests = record { card_a = devices.card_a.rests; card_b = devices.card_b.rests } }

    pub rose : failed ≡ true → RoseBy 1 (breakdowns_of d Recorder) (breakdowns_of e Recorder)
    rose = unit-rose o (carried_at o done s q decided t v d w) failed old.keeper.cabin.cards keeper.cabin.cards d e w.powered w.there devices (readings_of old.keeper decided) booked.1

    pub at-is : late_moment old.next n begun ≡ moment_of s q
    at-is = ap (λ (m : ℕ). record { second = m; begun = begun; late = true }) (sym number) ∙ ap (λ (b : ℕ). record { second = s.number; begun = b; late = true }) (sym actions)

    turn-reach : IsTurnReach decided (moment_of s q) failed t u reach
    turn-reach = subst (λ (m : Moment). IsTurnReach decided m failed t u reach) at-is is

    later : suc next ≡ old.next + n
    later = omega (arith, next_is, some)

    abbrev U : Values
    U = told_values u v

    -- what is known behind it was known before
    floor : (c : Card) → o.breakdowns (device_of c) < last_count → o.breakdowns (device_of c) ≤ breakdowns_of d (device_of c)
    floor c low_ = floor-in o done s Keeping [] (Some s.speed) decided v d w c low_

    stood : StoodBefore o d e
    stood = stood-kept o failed old.keeper.cabin.cards keeper.cabin.cards d e devices floor

    -- what is noted of a card, its session and its seat
    beside-kept : Reached (moment_of s q) t u → TellsBeside (log_of before) (log_of told) s.number Keeping
    beside-kept how = tears-beside (moment_of s q) how.more (log_of before) (log_of told) (ap (λ (bs : List Break). record (log_of before) { breaks = bs }) how.lines) how.tears

    turned-has : Reached (moment_of s q) t u → (whose : Whose) → AreKnown whose o (log_of told) e → (c : Card) → covers whose c ≡ true → is_some (session_of old.keeper.cabin.cards c) ≡ true → is_some (session_of keeper.cabin.cards c) ≡ true
    turned-has how whose known c in_ = session-stays whose o (log_of told) failed old.keeper.cabin.cards keeper.cabin.cards d e c devices (floor c) (λ none some_. how.stay c none.1 some_) in_ known

    -- what is made of the cards
    turned-stay : TellMore [] d.unit e.unit → AllStay o (marked before.marks.items (truths_within o w.b.run.log done s)) 0 (log_of before) (notes_within w.b done s Keeping (log_of before)) old.keeper.memory.registration old.keeper.cabin d → failed ≡ false → (r : Reach) → IsReach decided (moment_of s q) false t u r →
        AllStay o (marked told.marks.items (truths_within o w.b.run.log done s)) 0 (log_of told) (notes_within w.b done s Keeping (log_of told)) keeper.memory.registration keeper.cabin e
    turned-stay go stay well r is_ =
        let how = reach-told decided (moment_of s q) t u r is_ in
        all-of o (marked told.marks.items (truths_within o w.b.run.log done s)) 0 (log_of told) (notes_within w.b done s Keeping (log_of told)) old.keeper.memory.registration keeper.memory.registration keeper.cabin e how.registered
        (all-kept o (marked told.marks.items (truths_within o w.b.run.log done s)) 0 (log_of before) (log_of told) (notes_within w.b done s Keeping (log_of before)) (notes_within w.b done s Keeping (log_of told)) old.keeper.memory.registration (kepts_on old.keeper decided) old.keeper.cabin keeper.cabin d e go
        (lines-on o (log_of before) breaks.items how.more d e how.lines stood)
        (λ whose known c in_. spells-kept w.b done s (log_of before) (log_of told) c w.moment.up_to.uncut (beside-kept how))
        (λ whose known c in_. reach-seats decided (moment_of s q) t u r is_ c (turned-has how whose known c in_)) (turned-has how) (booked.2 well)
        (λ whose known c. kepts-now o done s Keeping [] (Some s.speed) decided v d w (began-uncut o done s Keeping [] (Some s.speed) decided v d w (known-uncut whose o (log_of before) d (lines-on o (log_of before) breaks.items how.more d e how.lines stood whose known).known)) old.keeper refl c)
        (all-true o (marked before.marks.items (truths_within o w.b.run.log done s)) (marked told.marks.items (truths_within o w.b.run.log done s)) 0 (log_of before) (notes_within w.b done s Keeping (log_of before)) old.keeper.memory.registration old.keeper.cabin d
        (λ whose known. marked-grow before.marks.items told.marks.items (truths_within o w.b.run.log done s) (truths_within o w.b.run.log done s) how.marks (grow-self (truths_within o w.b.run.log done s))) stay))

    -- the seconds before went as they did
    behind-now : (x : RecordInSecond o done s Keeping [] (Some s.speed) [] U e) → GoesBehind x.b.run.log (log_of told) done
    behind-now x = goes-behind o done s Keeping [] (Some s.speed) [] U e x [] (log_of told) (ap (λ (bs : List Break). record (log_of told) { breaks = bs }) (sym (append-nil breaks.items))) tt

    -- all that was noted in it
    all-notes : (x : RecordInSecond o done s Keeping [] (Some s.speed) [] U e) → notes_in (log_of told) (done ++ s ∷ []) ≡ notes_within x.b done s Keeping (log_of told)
    all-notes x =
        notes-end x.b.run.log (log_of told) done s (behind-now x) (power-here o done s Keeping [] (Some s.speed) [] U e x)

    -- what the unit was told of its vehicle stays
    same-vehicle : old.keeper.memory.registration ≡ vehicle_in o → keeper.memory.registration ≡ vehicle_in o
    same-vehicle vehicle = turn-memory decided (moment_of s q) failed t u reach turn-reach ∙ vehicle

    -- all is kept
    over-now : old.keeper.memory.registration ≡ vehicle_in o → (x : RecordInSecond o done s Keeping [] (Some s.speed) [] U e) → x.b ≡ w.b → AllStay o (marked told.marks.items (truths_within o w.b.run.log done s)) 0 (log_of told) (notes_within w.b done s Keeping (log_of told)) keeper.memory.registration keeper.cabin e → RunRecorded o (done ++ s ∷ []) (passed n begun between) told e
    over-now vehicle x same stays =
        let p = pushed x.b.span (next_told U.log done s) in
        let V : Values = values_of (passed n begun between) told in
        let before_ : List ℕ = x.b.travel.before in
        let r = second-over o done s U e x in
        let there : RecordedFrom o (done ++ s ∷ []) (IsLit (p.first ∷ p.rest)) (record V { next = suc next; begun = length s.actions; odometer = old.keeper.odometer }) e before_ =
        subst (λ (ss : List Second). RecordedFrom o (done ++ s ∷ []) (IsLit ss) (record V { next = suc next; begun = length s.actions; odometer = old.keeper.odometer }) e before_) p.is r in
        let so : RecordedFrom o (done ++ s ∷ []) (IsLit (p.first ∷ p.rest)) V e before_ =
        subst (λ (k : ℕ). RecordedFrom o (done ++ s ∷ []) (IsLit (p.first ∷ p.rest)) (record V { odometer = k }) e before_) (sym odometer)
        (subst (λ (m : ℕ). RecordedFrom o (done ++ s ∷ []) (IsLit (p.first ∷ p.rest)) (record V { next = m; begun = begun; odometer = old.keeper.odometer }) e before_) later
        (subst (λ (b : ℕ). RecordedFrom o (done ++ s ∷ []) (IsLit (p.first ∷ p.rest)) (record V { next = suc next; begun = b; odometer = old.keeper.odometer }) e before_) actions there)) in
        record {
          origin = origin;
          vehicle = same-vehicle vehicle;
          supply = IsLit (p.first ∷ p.rest);
          powers = subst (λ (pw : Power). Supplies pw (IsLit (p.first ∷ p.rest))) (sym lit) tt;
          recorded = so.recorded;
          odometer = λ on. odometer ∙ stored ∙ ap (odometer_after (odometer_at o.recording.unit)) (ap (λ (b : Beginning). b.travel.before) (sym same) ∙ sym so.travelled_before);
          stay = subst (λ (ns : List Note). AllStay o (marked told.marks.items (truths_of o (log_of told) (done ++ s ∷ []))) 0 (log_of told) ns keeper.memory.registration keeper.cabin e) (sym (all-notes x))
              (all-true o (marked told.marks.items (truths_within o x.b.run.log done s)) (marked told.marks.items (truths_of o (log_of told) (done ++ s ∷ []))) 0 (log_of told) (notes_within x.b done s Keeping (log_of told)) keeper.memory.registration keeper.cabin e
              (λ whose known. marked-still told.marks.items (truths_within o x.b.run.log done s) (truths_of o (log_of told) (done ++ s ∷ [])) (truths-end o x.b.run.log (log_of told) done s (behind-now x).went_is))
              (subst (λ (b : Beginning). AllStay o (marked told.marks.items (truths_within o b.run.log done s)) 0 (log_of told) (notes_within b done s Keeping (log_of told)) keeper.memory.registration keeper.cabin e) (sym same) stays));
        }

    -- or power is cut
    cut-now : old.keeper.memory.registration ≡ vehicle_in o → RecordAtFailure o done s Keeping [] (Some s.speed) U e → RunRecorded o (done ++ s ∷ []) (passed n begun (cut_run (old.next + n - 1) between)) (cut_breaks true (old.next + n - 1) begun told) e
    cut-now vehicle x =
        let V : (second begun_ next_ : ℕ) → Values = λ second begun_ next_. record U { log = and_break U.log (cut_at second true begun_); cabin = with_power_lost second U.cabin; next = next_; begun = begun_ } in
        let R : Values → Type 0 = λ val. RecordBetweenSeconds o (done ++ s ∷ []) IsLost val e in
        record {
          origin = origin;
          vehicle = same-vehicle vehicle;
          supply = IsLost;
          powers = tt;
          recorded = subst (λ (k : ℕ). R (record (V (old.next + n - 1) begun (old.next + n)) { odometer = k })) (sym odometer)
              (subst (λ (m : ℕ). R (V (old.next + n - 1) begun m)) later
              (subst (λ (b : ℕ). R (V (old.next + n - 1) b (suc next))) actions
              (subst (λ (m : ℕ). R (V m (length s.actions) (suc next))) number (cut-recorded o done s Keeping [] (Some s.speed) U e x [] refl))));
          odometer = λ on. absurd (cc);
          stay = λ whose known. no-cut (log_of told) (old.next + n - 1) begun (known-uncut whose o (log_of (cut_breaks true (old.next + n - 1) begun told)) e known);
        }

    by : old.keeper.memory.registration ≡ vehicle_in o → TellMore [] d.unit e.unit → AllStay o (marked before.marks.items (truths_within o w.b.run.log done s)) 0 (log_of before) (notes_within w.b done s Keeping (log_of before)) old.keeper.memory.registration old.keeper.cabin d → (f : Bool) (r : Reach) → failed ≡ f → IsTurnReach decided (moment_of s q) f t u r → IsTurnBooked o.found (odometer_at o.recording.unit) (carried_at o done s q decided t v d w) old.keeper f r (all_travelled w.ds w.b.travel) u e →
        RunRecorded o (done ++ s ∷ []) (passed n begun (cut_where f (old.next + n - 1) between)) (cut_breaks f (old.next + n - 1) begun told) e
    by vehicle go stay false (Whole xs) same is_ b = let k = keeping-recorded d e o done s q decided t u v w keeps false (Whole xs) is_ off (λ no. absurd (cc)) b in over-now vehicle k.0.within k.0.began (turned-stay go stay same (Whole xs) is_)
    by vehicle go stay true (Whole xs) same is_ b = cut-now vehicle (note-fails d e o done s q decided t u v w keeps low xs is_ off (rose same) b.0 b.1)
    by vehicle go stay false (Short xs m round) same is_ b = absurd is_
    by vehicle go stay true (Short xs m round) same is_ b = cut-now vehicle (keeping-recorded d e o done s q decided t u v w keeps true (Short xs m round) is_ off (λ yes_. rose same) b)

    -- where the unit failed: the record as power is about to be cut
    fails-by : (f : Bool) (r : Reach) → failed ≡ f → IsTurnReach decided (moment_of s q) f t u r → IsTurnBooked o.found (odometer_at o.recording.unit) (carried_at o done s q decided t v d w) old.keeper f r (all_travelled w.ds w.b.travel) u e →
        f ≡ true → RecordAtFailure o done s Keeping [] (Some s.speed) U e
    fails-by false r same is_ b on = absurd (cc)
    fails-by true (Whole xs) same is_ b on = note-fails d e o done s q decided t u v w keeps low xs is_ off (rose same) b.0 b.1
    fails-by true (Short xs m round) same is_ b on = keeping-recorded d e o done s q decided t u v w keeps true (Short xs m round) is_ off (λ yes_. rose same) b

    pub turn-fails : failed ≡ true → RecordAtFailure o done s Keeping [] (Some s.speed) U e
    turn-fails on = fails-by failed reach refl turn-reach booked.0 on

    pub turn-core : old.keeper.memory.registration ≡ vehicle_in o → TellMore [] d.unit e.unit → AllStay o (marked before.marks.items (truths_within o w.b.run.log done s)) 0 (log_of before) (notes_within w.b done s Keeping (log_of before)) old.keeper.memory.registration old.keeper.cabin d → RunRecorded o (done ++ s ∷ []) (passed n begun (cut_where failed (old.next + n - 1) between)) (cut_breaks failed (old.next + n - 1) begun told) e
    turn-core vehicle go stay = by vehicle go stay failed reach refl turn-reach booked.0

-- ---- the last of some seconds
pub last-actions : (c begun : ℕ) (s : TraceSecond) → length s.actions ≡ begun → (0 < c → s.actions ≡ []) → length (last_of c s).actions ≡ begun
last-actions zero begun s is none = is
last-actions (suc c) begun s is none = let some : 0 < suc c = omega arith in sym (ap (λ (as_ : List Action). length as_) (none some)) ∙ is

pub last-number : (c : ℕ) (s : TraceSecond) → (last_of c s).number ≡ s.number + c
last-number zero s = omega arith
last-number (suc c) s = refl

-- SECONDS WITH POWER
module _ {U A0 B0 : State} {chip_a chip_b : CardState} (n speed begun : ℕ) (old new : Run) (before after : Outcome) (d e : Devices) (g : MayBeCalled (old.next / 60) old U chip_a chip_b A0 B0) (lit : old.power ≡ Lit) (some : 0 < n)
    (minute : old.next % 60 + n ≤ 60) (small : old.next + n ≤ end_of_seconds) (h : IsBookedTurn n speed begun old new before after d e) where
  abbrev T : IsLitTurn n speed begun old new before after
  T = h.0

  abbrev here : Run
  here = record old { minutes = T.fed.minutes; keeper = T.between.keeper; watch = T.between.watch }

  abbrev lines : Outcome
  lines = record before { marks = T.told.marks; breaks = T.told.breaks }

  abbrev t_of : Keeper → KeepingState
  t_of k = record { keeper = k; marks = before.marks; breaks = before.breaks }

  pub reach-is : IsTurnReach T.decided (late_moment old.next n begun) T.failed (t_of old.keeper) (told_of here lines) h.1
  reach-is = subst (λ (k : Keeper). IsTurnReach T.decided (late_moment old.next n begun) T.failed (t_of k) (told_of here lines) h.1) (ap (λ (r : Run). r.keeper) T.only) h.2

  pub books-is : BooksTurn T.decided T.failed h.1 (t_of old.keeper) (told_of here lines) d e
  books-is = subst (λ (k : Keeper). BooksTurn T.decided T.failed h.1 (t_of k) (told_of here lines) d e) (ap (λ (r : Run). r.keeper) T.only) h.3

  pub between-is : T.between ≡ here
  between-is = T.kept.only ∙ ap (λ (r : Run). record r { keeper = T.between.keeper; watch = T.between.watch }) T.only

  pub new-is : cut_where T.failed (old.next + n - 1) here ≡ new
  new-is = ap (cut_where T.failed (old.next + n - 1)) (sym between-is) ∙ sym T.run

  pub after-is : cut_breaks T.failed (old.next + n - 1) begun lines ≡ after
  after-is = ap (cut_breaks T.failed (old.next + n - 1) begun) (sym T.kept.outcome) ∙ sym T.outcome

  module _ (o : Origin) (done : List TraceSecond) (s : TraceSecond) (now : IsNow s speed old) (actions : length s.actions ≡ begun) (none : 0 < n - 1 → s.actions ≡ []) (r : RunWithin o done s (In (length s.actions)) [] [] old before d) (time : HaveTime e) where
    many : n ≡ suc (n - 1)
    many = omega (arith, some)

    fed-so : (sp : Span) → CountsSpan old.minutes sp → CountsSpan T.fed.minutes (fed_many sp s.speed (suc (n - 1)))
    fed-so sp x = subst (λ (k : ℕ). CountsSpan T.fed.minutes (fed_many sp s.speed k)) many (subst (λ (k : ℕ). CountsSpan T.fed.minutes (fed_many sp k n)) (sym now.speed_is) (T.minutes sp x))

    given-so : (sp : Span) → CountsSpan old.minutes sp → decided_in (fed_many sp s.speed (suc (n - 1))) ≡ decided_in sp ++ T.decided
    given-so sp x = subst (λ (k : ℕ). decided_in (fed_many sp s.speed k) ≡ decided_in sp ++ T.decided) many (subst (λ (k : ℕ). decided_in (fed_many sp k n) ≡ decided_in sp ++ T.decided) (sym now.speed_is) (T.given sp x))

    pub turned : IsTurned o done s (n - 1) T.decided T.fed.minutes (values_of old before) d r.within
    turned = turn-is_fed d o done s (values_of old before) r.within (n - 1) (let is = now.number in omega (arith, minute, some, is)) T.fed.minutes fed-so T.decided given-so

    from-is : r.within.from ≡ ungiven_of g.span
    from-is = let to = r.within.until in let same = same-ungiven old.minutes r.within.sp g.span r.within.minutes g.stands in omega (arith, to, same)

    ends-by : ungiven_of g.span + length T.decided ≤ old.next / 60
    ends-by =
        let count = (turn-decides old g speed n T.decided small (T.given g.span g.stands)).count in
        let most = turn-most old g speed n minute in
        omega (arith, count, most)

    -- over the last second
    by-last : (c : ℕ) → c ≡ n - 1 → (D : List TraceSecond) (L : TraceSecond) (next gone : ℕ) → L.number ≡ s.number + c → next ≡ old.next + c → length L.actions ≡ begun →
        (w : RecordInSecond o D L Keeping [] (Some L.speed) T.decided (record (values_of old before) { minutes = T.fed.minutes; next = next; begun = gone }) d) → w.b.travel.before ≡ r.within.b.travel.before → w.from ≡ r.within.from → TellMore [] d.unit e.unit →
        AllStay o (marked before.marks.items (truths_within o w.b.run.log D L)) 0 (log_of before) (notes_within w.b D L Keeping (log_of before)) old.keeper.memory.registration old.keeper.cabin d → RunRecorded o (D ++ L ∷ []) (passed n begun new) after e
    by-last c is D L next gone number next_is acts w travel from go stay =
        let at = now.number in
        let num : L.number ≡ old.next + n - 1 = omega (arith, number, is, at, some) in
        let first = from-is in
        let few = g.ended.few in
        let end = ends-by in
        let day : (old.next + n - 1) / 60 ≡ old.next / 60 = omega (arith, minute, some) in
        let same : L.number / 60 ≡ old.next / 60 = ap (λ (m : ℕ). m / 60) num ∙ day in
        subst (λ (x : Run). RunRecorded o (D ++ L ∷ []) (passed n begun x) after e) new-is
        (subst (λ (x : Outcome). RunRecorded o (D ++ L ∷ []) (passed n begun (cut_where T.failed (old.next + n - 1) here)) x e) after-is
        (turn-core old before T.fed.minutes T.between.keeper T.between.watch T.told.marks T.told.breaks n begun T.failed T.decided h.1 d e reach-is books-is h.4 h.5 (two-present (ungiven_of g.span) None old.keeper.cabin g.cabin)
        lit some time o r.origin D L next gone w num (omega (arith, next_is, is, some)) acts (r.odometer ∙ ap (odometer_after (odometer_at o.recording.unit)) (sym travel))
        (omega (arith, from, first, few, same)) (omega (arith, from, first, end, same)) r.vehicle go stay))

    -- where the unit failed in its keeping: its record as power is about to be cut
    pub fails-last : (c : ℕ) → c ≡ n - 1 → (D : List TraceSecond) (L : TraceSecond) (next gone : ℕ) → L.number ≡ s.number + c → next ≡ old.next + c → length L.actions ≡ begun →
        (w : RecordInSecond o D L Keeping [] (Some L.speed) T.decided (record (values_of old before) { minutes = T.fed.minutes; next = next; begun = gone }) d) → w.b.travel.before ≡ r.within.b.travel.before → w.from ≡ r.within.from →
        T.failed ≡ true → RecordAtFailure o D L Keeping [] (Some L.speed) (told_values (told_of here lines) (record (values_of old before) { minutes = T.fed.minutes; next = next; begun = gone })) e
    fails-last c is D L next gone number next_is acts w travel from on =
        let at = now.number in
        let num : L.number ≡ old.next + n - 1 = omega (arith, number, is, at, some) in
        let first = from-is in
        let few = g.ended.few in
        let end = ends-by in
        let day : (old.next + n - 1) / 60 ≡ old.next / 60 = omega (arith, minute, some) in
        let same : L.number / 60 ≡ old.next / 60 = ap (λ (m : ℕ). m / 60) num ∙ day in
        turn-fails old before T.fed.minutes T.between.keeper T.between.watch T.told.marks T.told.breaks n begun T.failed T.decided h.1 d e reach-is books-is h.4 h.5 (two-present (ungiven_of g.span) None old.keeper.cabin g.cabin)
        lit some time o r.origin D L next gone w num (omega (arith, next_is, is, some)) acts (r.odometer ∙ ap (odometer_after (odometer_at o.recording.unit)) (sym travel))
        (omega (arith, from, first, few, same)) (omega (arith, from, first, end, same)) on

    -- what its keeping leaves of when cards were used, and of their events
    pub timed-last : (c : ℕ) → c ≡ n - 1 → (D : List TraceSecond) (L : TraceSecond) (next gone : ℕ) → L.number ≡ s.number + c → next ≡ old.next + c → length L.actions ≡ begun →
        (w : RecordInSecond o D L Keeping [] (Some L.speed) T.decided (record (values_of old before) { minutes = T.fed.minutes; next = next; begun = gone }) d) → w.b.travel.before ≡ r.within.b.travel.before → w.from ≡ r.within.from → AreTimedOn o.found (readings_of old.keeper T.decided) d e
    timed-last c is D L next gone number next_is acts w travel from =
        let at = now.number in
        let num : L.number ≡ old.next + n - 1 = omega (arith, number, is, at, some) in
        let first = from-is in
        let few = g.ended.few in
        let end = ends-by in
        let day : (old.next + n - 1) / 60 ≡ old.next / 60 = omega (arith, minute, some) in
        let same : L.number / 60 ≡ old.next / 60 = ap (λ (m : ℕ). m / 60) num ∙ day in
        (booked old before T.fed.minutes T.between.keeper T.between.watch T.told.marks T.told.breaks n begun T.failed T.decided h.1 d e reach-is books-is h.4 h.5 (two-present (ungiven_of g.span) None old.keeper.cabin g.cabin)
        lit some time o r.origin D L next gone w num (omega (arith, next_is, is, some)) acts (r.odometer ∙ ap (odometer_after (odometer_at o.recording.unit)) (sym travel))
        (omega (arith, from, first, few, same)) (omega (arith, from, first, end, same))).1

    -- as the first of them is fed, all of its actions are noted
    stay-first : AllStay o (marked before.marks.items (truths_within o r.within.b.run.log done s)) 0 (log_of before) (notes_within r.within.b done s Keeping (log_of before)) old.keeper.memory.registration old.keeper.cabin d
    stay-first =
        all-second o (marked before.marks.items (truths_within o r.within.b.run.log done s)) s.number 0 (log_of before) (notes_within r.within.b done s Keeping (log_of before)) old.keeper.memory.registration old.keeper.cabin d (stands-seated (ungiven_of g.span) old.keeper.cabin g.cabin)
        (subst (λ (as_ : List Action). AllStay o (marked before.marks.items (truths_within o r.within.b.run.log done s)) s.number (log_of before) (notes_so_far r.within.b.run.log done (log_of before) s as_) old.keeper.memory.registration old.keeper.cabin d) (actions-all s.actions) r.stay)

    behind-first : GoesBehind r.within.b.run.log (log_of before) done
    behind-first =
        goes-behind o done s (In (length s.actions)) [] None [] (values_of old before) d r.within [] (log_of before) (ap (λ (bs : List Break). record (log_of before) { breaks = bs }) (sym (append-nil (log_of before).breaks))) tt

    by-count : TellMore [] d.unit e.unit → (c : ℕ) → c ≡ n - 1 → IsTurned o done s c T.decided T.fed.minutes (values_of old before) d r.within → RunRecorded o (before_last c s done ++ last_of c s ∷ []) (passed n begun new) after e
    by-count go zero is x =
        by-last zero is done s (old.next + 0) x.begun (last-number zero s) refl (last-actions zero begun s actions (λ lt. none (omega (arith, lt, is)))) x.fed x.travelled_before x.from go
        (subst (λ (b : Beginning). AllStay o (marked before.marks.items (truths_within o b.run.log done s)) 0 (log_of before) (notes_within b done s Keeping (log_of before)) old.keeper.memory.registration old.keeper.cabin d) (sym (x.first refl)) stay-first)
    by-count go (suc c) is x =
        by-last (suc c) is (before_last (suc c) s done) (last_of (suc c) s) (old.next + suc c) x.begun (last-number (suc c) s) refl (last-actions (suc c) begun s actions (λ lt. none (omega (arith, lt, is)))) x.fed x.travelled_before x.from go
        (subst (λ (ns : List Note). AllStay o (marked before.marks.items (truths_within o x.fed.b.run.log (before_last (suc c) s done) (last_of (suc c) s))) 0 (log_of before) ns old.keeper.memory.registration old.keeper.cabin d)
        (sym (notes-last r.within.b.run.log (log_of before) done s c behind-first (power-here o done s (In (length s.actions)) [] None [] (values_of old before) d r.within)
        (behind-goes o done s (values_of old before) d (x.behind (omega arith)) now.number) x.fed.b (x.goes_on (omega arith)).0))
        (all-true o (marked before.marks.items (truths_within o r.within.b.run.log done s)) (marked before.marks.items (truths_within o x.fed.b.run.log (before_last (suc c) s done) (last_of (suc c) s))) 0 (log_of before) (notes_within r.within.b done s Keeping (log_of before)) old.keeper.memory.registration
        old.keeper.cabin d (λ whose known.
        marked-still before.marks.items (truths_within o r.within.b.run.log done s) (truths_within o x.fed.b.run.log (before_last (suc c) s done) (last_of (suc c) s))
        (truths-last o r.within.b.run.log (log_of before) done s c behind-first.went_is x.fed.b.run.log (x.goes_on (omega arith)).0)) stay-first))

    pub turn-lit : TellMore [] d.unit e.unit → RunRecorded o (done ++ s ∷ driven (n - 1) (s.number + 1) speed []) (passed n begun new) after e
    turn-lit go =
        subst (λ (k : ℕ). RunRecorded o (done ++ s ∷ driven (n - 1) (s.number + 1) k []) (passed n begun new) after e) now.speed_is
        (subst (λ (ss : List TraceSecond). RunRecorded o ss (passed n begun new) after e) (turn-ends done s (n - 1)) (by-count go (n - 1) refl turned))

-- WITHOUT POWER: it was cut in the first of them
module _ (n speed begun : ℕ) (old : Run) (before : Outcome) (d : Devices) (some : 0 < n) (minute : old.next % 60 + n ≤ 60) (o : Origin) (done : List TraceSecond) (s : TraceSecond) (now : IsNow s speed old) (actions : length s.actions ≡ begun)
    (none : 0 < n - 1 → s.actions ≡ []) (r : RunCut o done s old before d) where
  abbrev V : (next gone : ℕ) → Values
  V next gone = record (values_of old before) { next = next; begun = gone }

  cut-recorded_ : (next gone : ℕ) (done_ : List TraceSecond) → next ≡ old.next + n → gone ≡ begun → RecordBetweenSeconds o done_ IsLost (V next gone) d → RunRecorded o done_ (passed n begun old) before d
  cut-recorded_ next gone done_ is at rec = record {
    origin = r.origin;
    vehicle = r.vehicle;
    supply = IsLost;
    powers = subst (λ (pw : Power). Supplies pw IsLost) (sym r.lost) tt;
    recorded = subst (λ (m : ℕ). RecordBetweenSeconds o done_ IsLost (V m begun) d) is (subst (λ (b : ℕ). RecordBetweenSeconds o done_ IsLost (V next b) d) at rec);
    odometer = λ on. absurd (let clash : Lost ≡ Lit = sym r.lost ∙ on in cc);
    stay = λ whose known. absurd (r.failed (known-uncut whose o (log_of before) d known));
  }

  by-more : (c : ℕ) → c ≡ n - 1 → RunRecorded o (done ++ s ∷ driven c (s.number + 1) speed []) (passed n begun old) before d
  by-more zero is = cut-recorded_ (suc old.next) (length s.actions) (done ++ s ∷ []) (omega (arith, is, some)) actions r.recorded
  by-more (suc c) is =
      let at = now.number in
      let number : suc old.next ≡ s.number + 1 = omega (arith, at) in
      let gone : 0 ≡ begun = sym (ap (λ (as_ : List Action). length as_) (none (omega (arith, is)))) ∙ actions in
      let dark = dark-recorded d o (done ++ s ∷ []) (passed_values s (values_of old before)) r.recorded c speed [] [] begun (omega (arith, minute, is)) (omega (arith, minute, is)) refl in
      cut-recorded_ (suc old.next + suc c) begun (done ++ s ∷ driven (suc c) (s.number + 1) speed []) (omega (arith, is, some)) refl
      (subst (λ (ss : List TraceSecond). RecordBetweenSeconds o ss IsLost (V (suc old.next + suc c) begun) d) (append_assoc done (s ∷ []) (driven (suc c) (suc old.next) speed []) ∙ ap (λ (m : ℕ). done ++ s ∷ driven (suc c) m speed []) number)
      (subst (λ (rs : List Refused). RecordBetweenSeconds o ((done ++ s ∷ []) ++ driven (suc c) (suc old.next) speed []) IsLost (record (V (suc old.next + suc c) begun) { log = record (log_of before) { refused = rs } }) d) (append-nil (by_slots before.refused.items)) dark))

  pub turn-dark : RunRecorded o (done ++ s ∷ driven (n - 1) (s.number + 1) speed []) (passed n begun old) before d
  turn-dark = by-more (n - 1) refl
