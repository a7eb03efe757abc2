-- The minutes that a settling decides are kept within a second that has power: what is recorded behind it.
use Rattle.std.proofs.Common.{◌≡◌, ℕ, ◌+◌, ◌-◌, ◌/◌, ◌<◌, ◌≤◌, Bool, true, false, nat_eq, Option, None, List, [], ◌∷◌, ◌++◌, All, length, is_some, refl, ap, sym, subst, ◌∙◌, arith}
use Rattle.std.proofs.lemmas.List.Elements.{All-head, All-tail}
use Rattle.trace_model.specs.declared.Card.{Card}
use Rattle.trace_model.specs.Trace.{TraceSecond}
use Rattle.tach_media.specs.Medium.{State, last_count}
use Rattle.card_files.specs.card_layout.declared.command.CardState.{CardState}
use Rattle.unit_model.specs.minute_model.declared.Minute.{Minute}
use Rattle.unit_model.specs.minute_model.Span.{Span, end_of, settled, decided_in, ungiven_of}
use Rattle.unit_model.proofs.minute_model.Counted.{ungiven-most}
use Rattle.minute_rules.specs.Kept.{Kept, CountsSpan, kept_of}
use Rattle.log_model.specs.declared.lines.Break.{Break}
use Rattle.log_model.specs.declared.lines.Mark.{Mark}
use Rattle.log_model.specs.Log.{In}
use Rattle.log_model.specs.Course.{Visit, went}
use Rattle.run_crew.specs.card_slots.declared.seats.Ended.{Ended}
use Rattle.run_crew.specs.card_slots.Calls.{present_in}
use Rattle.device_calls.specs.safety_model.Safe.{Devices, breakdowns_of}
use Rattle.log_model.specs.Causes.{device_of}
use Rattle.device_calls.specs.run_unit_course.Legs.{all_travelled}
use Rattle.device_calls.proofs.run_unit_course.Legs.{travelled-earlier}
use Rattle.unit_model.specs.Image.{odometer_at}
use Rattle.device_calls.specs.unit_rule.Odometer.{odometer_after}
use Rattle.run_crew.specs.declared.cabin.Cabin.{Cabin}
use Rattle.run_crew.specs.Cabin.{AreTwo, EndedStands, CabinIsSound}
use Rattle.run_outcome.specs.Lines.{Listed}
use Rattle.run_outcome.specs.declared.outcome.Outcome.{Outcome}
use Rattle.run_minutes.specs.run_promise.Origin.{Origin}
use Rattle.run_record.specs.Recorded.{Values}
use Rattle.run_record.specs.Within.{Beginning, RecordInSecond, RecordAtFailure}
use Rattle.run_minutes.specs.declared.keeper.Keeper.{Keeper}
use Rattle.run_minutes.specs.declared.keeper.Moment.{Moment}
use Rattle.run_minutes.specs.Minutes.{Reach, IsReach, or_nobody, present_at}
use Rattle.run_minutes.specs.Deeds.{AllKeep, kepts_on}
use Rattle.run_minutes.specs.Books.{HaveTime, AreTimedOn}
use Rattle.run_minutes.specs.Decided.{EndsAll, BooksAll, readings_of}
use Rattle.run_acts.specs.Rounds.{Point, IsPoint, settling_at}
use Rattle.run_acts.specs.RoundLaws.{KeepsSo, IsKeptTo, carried_at}
use Rattle.run_acts.proofs.RoundBegun.{over-so, may-book}
use Rattle.run_acts.proofs.RoundWhole.{leaving-later}
use Rattle.run_acts.proofs.RoundKept.{keeping-recorded}
use Rattle.run_acts.specs.declared.run.Run.{Run}
use Rattle.run_acts.specs.Acting.{told_of}
use Rattle.run_acts.specs.Devices.{DevicesGoOn}
use Rattle.run_acts.specs.Going.{end_of_seconds, RunHasPower}
use Rattle.run_acts.specs.Recording.{log_of, values_of, RunWithin}
use Rattle.run_acts.specs.Settling.{settled_run, SettlesTo}
use Rattle.run_acts.proofs.GoesOn.{goes-on, unit-rose}
use Rattle.run_acts.proofs.Settled.{settled-ungiven, settled-decides}
use Rattle.run_acts.specs.Closings.{spells_of, notes_within}
use Rattle.run_acts.specs.Comings.{TellMore}
use Rattle.run_acts.specs.Truths.{truths_within, marked}
use Rattle.run_crew.specs.Cards.{session_of}
use Rattle.run_acts.specs.Stays.{Whose, Both, Only, covers, AreKnown, AllStay}
use Rattle.run_acts.proofs.AllStay.{StoodBefore, Reached, all-of, all-kept, all-true, known-uncut, lines-on, reach-told, reach-memory}
use Rattle.run_acts.proofs.RingedLines.{TellsBeside, phase_at, tears-beside}
use Rattle.run_acts.proofs.KeptSeats.{floor-in, stood-kept, session-stays, reach-seats}
use Rattle.run_acts.proofs.TornNotes.{spells-unhurt}
use Rattle.run_acts.proofs.Truths.{grow-self, marked-grow}
use Rattle.run_acts.proofs.WholeLegs.{kepts-now}
use Rattle.run_acts.proofs.TruthsThen.{began-uncut}

-- ---- two spans for which the same minutes stand
pub same-ungiven : (minutes : Kept) (a b : Span) → CountsSpan minutes a → CountsSpan minutes b → ungiven_of a ≡ ungiven_of b
same-ungiven minutes a b x y =
    let same : kept_of a ≡ kept_of b = sym x.kept ∙ y.kept in
    let next : end_of a ≡ end_of b = ap (λ (k : Kept). k.next) same in
    let owing : end_of a / 60 - ungiven_of a ≡ end_of b / 60 - ungiven_of b = ap (λ (k : Kept). k.owing) same in
    let most_a = ungiven-most a x.settled in
    let most_b = ungiven-most b y.settled in
    omega (arith, next, owing, most_a, most_b)

-- ---- two cards at most were present in a minute
two-in : (from before : ℕ) (cabin : Cabin) (past : List Ended) (m : ℕ) → All (EndedStands from before cabin.cards) past → AreTwo (or_nobody (present_in past m)).driver (or_nobody (present_in past m)).codriver
two-in from before cabin [] m all = tt
two-in from before cabin (e ∷ past) m all = by (two-in from before cabin past m (All-tail (EndedStands from before cabin.cards) e past all)) (nat_eq e.minute m) refl
  where
    by : AreTwo (or_nobody (present_in past m)).driver (or_nobody (present_in past m)).codriver → (b : Bool) → nat_eq e.minute m ≡ b → AreTwo (or_nobody (present_in (e ∷ past) m)).driver (or_nobody (present_in (e ∷ past) m)).codriver
    by rest true is = rw is (All-head (EndedStands from before cabin.cards) e past all).apart
    by rest false is = rw is rest

pub two-present : (from : ℕ) (leaving : Option Card) (cabin : Cabin) → CabinIsSound from leaving cabin → (m : ℕ) → AreTwo (present_at cabin m).driver (present_at cabin m).codriver
two-present from leaving cabin h m = two-in from cabin.slots.minute cabin cabin.slots.past m h.past

in-point : (s : TraceSecond) (n : ℕ) (waits : List Visit) → 0 < n → n ≤ length s.actions → IsPoint s (settling_at n waits)
in-point s n waits some few = record { phase = refl; acted = λ is. (let none : n ≡ 0 = cc in omega (arith, none, some)); few = few; all = λ is. absurd (cc); unfed = λ no. refl; feeds = λ is. absurd (cc) }

-- ---- A SETTLING
module _ {U A0 B0 : State} {chip_a chip_b : CardState} (old : Run) (before : Outcome) (minutes : Kept) (keeper : Keeper) (marks : Listed Mark) (breaks : Listed Break) (at : Moment) (failed : Bool) (decided : List Minute) (d e : Devices)
    (leaving : Option Card) (g : RunHasPower leaving (old.next / 60) old U chip_a chip_b A0 B0) (small : old.next ≤ end_of_seconds) (stands : CountsSpan minutes (settled g.span)) (given : decided_in (settled g.span) ≡ decided_in g.span ++ decided)
    (odometer : keeper.odometer ≡ old.keeper.odometer) (reach : Reach) where
  abbrev new : Run
  new = record old { minutes = minutes; keeper = keeper }

  abbrev after : Outcome
  after = record before { marks = marks; breaks = breaks }

  module _ (is : IsReach decided at failed (told_of old before) (told_of new after) reach) (books : BooksAll decided failed reach (told_of old before) (told_of new after) d e) (devices : DevicesGoOn failed old.keeper.cabin.cards keeper.cabin.cards d e)
      (o : Origin) (done : List TraceSecond) (s : TraceSecond) (n : ℕ) (waits : List Visit) (some : 0 < n) (here : at ≡ record { second = s.number; begun = n; late = false }) (r : RunWithin o done s (In n) waits decided (settled_run minutes old) before d)
      (time : HaveTime e) where
    abbrev q : Point
    q = settling_at n waits

    abbrev v : Values
    v = values_of (settled_run minutes old) before

    abbrev w : RecordInSecond o done s (In n) waits None decided v d
    w = r.within

    pub number : s.number ≡ old.next
    number = w.moment.number ∙ sym w.next

    to-is : ungiven_of w.sp ≡ s.number / 60
    to-is = same-ungiven minutes w.sp (settled g.span) w.minutes stands ∙ settled-ungiven leaving (old.next / 60) old g ∙ ap (λ (m : ℕ). m / 60) (sym number)

    pub end : w.from + length decided ≡ s.number / 60
    end = w.until ∙ to-is

    few : s.number / 60 ≤ w.from + 4
    few =
        let count = (settled-decides leaving (old.next / 60) old g decided small given).count in
        let last = settled-ungiven leaving (old.next / 60) old g in
        let most = g.ended.few in
        let to = end in
        let is_ = number in
        let same : old.next / 60 ≡ s.number / 60 = ap (λ (m : ℕ). m / 60) (sym is_) in
        omega (arith, count, last, most, to, same)

    over : All (λ (m : Minute). m.minute < s.number / 60) decided
    over = over-so o done s q decided (told_of old before) v d w (let to = end in omega (arith, to))

    pub booked : EndsAll o.found (odometer_at o.recording.unit) (carried_at o done s q decided (told_of old before) v d w) old.keeper failed reach (all_travelled w.ds w.b.travel) (told_of new after) e × AreTimedOn o.found (readings_of old.keeper decided) d e
        × (failed ≡ false → AllKeep o.found (kepts_on old.keeper decided) old.keeper.cabin.cards keeper.cabin.cards d e)
    booked = books o.found (carried_at o done s q decided (told_of old before) v d w) (odometer_at o.recording.unit) (all_travelled w.ds w.b.travel)
        (may-book o done s q decided (told_of old before) v d w few over) w.travels
        (r.odometer ∙ ap (odometer_after (odometer_at o.recording.unit)) (sym (travelled-earlier w.ds w.b.travel))) time

    pub keeps : KeepsSo o done s q decided (told_of old before) v d e w
    keeps = record {
      point = in-point s n waits some w.moment.is;
      few = few;
      over = over;
      two = two-present (ungiven_of g.span) leaving old.keeper.cabin g.cabin;
      goes = goes-on o (carried_at o done s q decided (told_of old before) v d w) failed old.keeper.cabin.cards keeper.cabin.cards d e w.powered w.there devices (readings_of old.keeper decided) booked.1;
      unit = devices.cause.breakdowns;
    }

    kept : IsKeptTo failed o done s q decided (told_of old before) (told_of new after) v d e w
    kept = keeping-recorded d e o done s q decided (told_of old before) (told_of new after) v w keeps failed reach
        (subst (λ (m : Moment). IsReach decided m failed (told_of old before) (told_of new after) reach) here is)
        (record { a = devices.card_a.broken; b = devices.card_b.broken; rests = record { card_a = devices.card_a.rests; card_b = devices.card_b.rests } })
        (unit-rose o (carried_at o done s q decided (told_of old before) v d w) failed old.keeper.cabin.cards keeper.cabin.cards d e w.powered w.there devices (readings_of old.keeper decided) booked.1)
        booked.0

    -- what is known behind it was known before
    floor : (c : Card) → o.breakdowns (device_of c) < last_count → o.breakdowns (device_of c) ≤ breakdowns_of d (device_of c)
    floor c low = floor-in o done s (In n) waits None decided v d w c low

    stood : StoodBefore o d e
    stood = stood-kept o failed old.keeper.cabin.cards keeper.cabin.cards d e devices floor

    reached : failed ≡ false → Reached at (told_of old before) (told_of new after)
    reached well = reach-told decided at (told_of old before) (told_of new after) reach (subst (λ (b : Bool). IsReach decided at b (told_of old before) (told_of new after) reach) well is)

    -- what is noted of a card, its session and its seat
    settled-spells : failed ≡ false → (x : RecordInSecond o done s (In n) waits None [] (values_of new after) e) → x.b ≡ w.b → (whose : Whose) → AreKnown whose o (log_of after) e → (c : Card) → covers whose c ≡ true →
        spells_of c (notes_within w.b done s (In n) (log_of after)) ≡ spells_of c (notes_within w.b done s (In n) (log_of before))
    settled-spells well x began Both none c in_ = ap (λ (bs : List Break). spells_of c (notes_within w.b done s (In n) (record (log_of before) { breaks = bs }))) ((reached well).same none.1)
    settled-spells well x began (Only k) known c in_ =
        spells-unhurt o done s n waits waits decided [] v (values_of new after) d e w x began w.moment.is w.moment.up_to.uncut
        (subst (λ (m : Moment). TellsBeside (log_of before) (log_of after) m.second (phase_at m)) here
        (tears-beside at (reached well).more (log_of before) (log_of after) (ap (λ (bs : List Break). record (log_of before) { breaks = bs }) (reached well).lines) (reached well).tears))
        stood k c in_ known

    settled-has : failed ≡ false → (whose : Whose) → AreKnown whose o (log_of after) e → (c : Card) → covers whose c ≡ true → is_some (session_of old.keeper.cabin.cards c) ≡ true → is_some (session_of keeper.cabin.cards c) ≡ true
    settled-has well whose known c in_ = session-stays whose o (log_of after) failed old.keeper.cabin.cards keeper.cabin.cards d e c devices (floor c) (λ none some_. (reached well).stay c none.1 some_) in_ known

    -- what is made of the cards
    settled-stay : TellMore [] d.unit e.unit → failed ≡ false → (x : RecordInSecond o done s (In n) waits None [] (values_of new after) e) → x.b ≡ w.b → AllStay o (marked after.marks.items (truths_within o w.b.run.log done s)) s.number (log_of after) (notes_within w.b done s (In n) (log_of after)) keeper.memory.registration keeper.cabin e
    settled-stay go well x began =
        let all = subst (λ (b : Bool). IsReach decided at b (told_of old before) (told_of new after) reach) well is in
        let how = reached well in
        all-of o (marked after.marks.items (truths_within o w.b.run.log done s)) s.number (log_of after) (notes_within w.b done s (In n) (log_of after)) old.keeper.memory.registration keeper.memory.registration keeper.cabin e how.registered
        (all-kept o (marked after.marks.items (truths_within o w.b.run.log done s)) s.number (log_of before) (log_of after) (notes_within w.b done s (In n) (log_of before)) (notes_within w.b done s (In n) (log_of after)) old.keeper.memory.registration (kepts_on old.keeper decided) old.keeper.cabin keeper.cabin d e go
        (lines-on o (log_of before) breaks.items how.more d e how.lines stood)
        (settled-spells well x began)
        (λ whose known c in_. reach-seats decided at (told_of old before) (told_of new after) reach all c (settled-has well whose known c in_)) (settled-has well) (booked.2 well)
        (λ whose known c. kepts-now o done s (In n) waits None decided v d w (began-uncut o done s (In n) waits None decided v d w (known-uncut whose o (log_of before) d (lines-on o (log_of before) breaks.items how.more d e how.lines stood whose known).known)) old.keeper refl c)
        (all-true o (marked before.marks.items (truths_within o w.b.run.log done s)) (marked after.marks.items (truths_within o w.b.run.log done s)) s.number (log_of before) (notes_within w.b done s (In n) (log_of before)) old.keeper.memory.registration old.keeper.cabin d
        (λ whose known. marked-grow before.marks.items after.marks.items (truths_within o w.b.run.log done s) (truths_within o w.b.run.log done s) how.marks (grow-self (truths_within o w.b.run.log done s))) r.stay))

    so : TellMore [] d.unit e.unit → (f : Bool) → failed ≡ f → IsKeptTo f o done s q decided (told_of old before) (told_of new after) v d e w → SettlesTo f o done s (In n) waits w.b w.from (w.from + length decided) old new before after d e
    so go false well k =
        subst (λ (m : ℕ). (x : RecordInSecond o done s (In n) waits None [] (record (values_of new after) { odometer = m }) e) → x.b ≡ w.b → x.from ≡ w.from + length decided → SettlesTo false o done s (In n) waits w.b w.from (w.from + length decided) old new before after d e) odometer
        (λ (x : RecordInSecond o done s (In n) waits None [] (values_of new after) e) (began : x.b ≡ w.b) (from : x.from ≡ w.from + length decided). record {
          goes = record {
            origin = r.origin;
            vehicle = reach-memory decided at failed (told_of old before) (told_of new after) reach is ∙ r.vehicle;
            lit = r.lit;
            within = x;
            odometer = odometer ∙ r.odometer ∙ ap (λ (b : Beginning). odometer_after (odometer_at o.recording.unit) b.travel.before) (sym began);
            stay = subst (λ (b : Beginning). AllStay o (marked after.marks.items (truths_within o b.run.log done s)) s.number (log_of after) (notes_within b done s (In n) (log_of after)) keeper.memory.registration keeper.cabin e) (sym began) (settled-stay go well x began);
          };
          began = began;
          from = from ∙ end;
          known = λ whose known. (lines-on o (log_of before) breaks.items (reached well).more d e (reached well).lines stood whose known).known;
          quiet = settled-spells well x began;
          finds = refl;
          leave = λ slot card l some. leaving-later (log_of after) (went w.b.run.log done).before s (In n) w.from (w.from + length decided) (s.number / 60) (s.number / 60) keeper.cabin slot card (let to = end in omega (arith, to)) (sym end) (k.1 slot card l some);
        }) k.0.within k.0.began k.0.from
    so go true bad k = subst (λ (m : ℕ). RecordAtFailure o done s (In n) waits None (record (values_of new after) { odometer = m }) e) (sym odometer) k

    pub settling-so : TellMore [] d.unit e.unit → SettlesTo failed o done s (In n) waits w.b w.from (w.from + length decided) old new before after d e
    settling-so go = so go failed refl kept
