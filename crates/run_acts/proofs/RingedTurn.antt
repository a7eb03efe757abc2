-- Seconds of one minute turn over: behind them the rings show what they noted.
use Rattle.std.proofs.Common.{◌≡◌, ◌∙◌, inl, inr, ⊎_elim, ℕ, zero, suc, ◌+◌, ◌-◌, ◌/◌, ◌%◌, ◌<◌, ◌≤◌, Bool, true, false, not, Option, Some, None, option_map, List, [], ◌∷◌, ◌++◌, All, length, refl, ap, sym, subst, arith, append_assoc, append-nil}
use Rattle.std.specs.List.{AllByRecursion}
use Rattle.std.proofs.lemmas.Bool.{lt-ltb}
use Rattle.std.proofs.lemmas.List.Elements.{All-nil, All-cons}
use Rattle.trace_model.specs.declared.Card.{Card}
use Rattle.trace_model.specs.declared.Card.TheVariants.{A, B}
use Rattle.trace_model.specs.Trace.{TraceSecond, driven}
use Rattle.tach_media.specs.Medium.{State}
use Rattle.card_files.specs.card_layout.declared.command.CardState.{CardState}
use Rattle.unit_model.specs.minute_model.declared.Minute.{Minute}
use Rattle.log_model.specs.declared.lines.Break.{Break}
use Rattle.log_model.specs.Causes.{second_of}
use Rattle.log_model.specs.Log.{RunLog, In, Keeping, cut_in}
use Rattle.log_model.specs.Same.{SameAt}
use Rattle.log_model.specs.Course.{ToldSecond, Before, Went, begins, has_power, went, second_told}
use Rattle.log_model.proofs.Growth.{went-more}
use Rattle.unit_notes.specs.note_model.Odometer.{SpanFrom}
use Rattle.device_calls.specs.safety_model.Safe.{Devices}
use Rattle.device_calls.specs.run_unit_course.Lines.{cut_at}
use Rattle.run_events.specs.run_course.Moments.{and_break}
use Rattle.run_events.specs.run_course.Followed.{PowerGoesOn, IsLost as HasLost}
use Rattle.run_events.proofs.run_course.Told.{IsLitAs, lit-told, dark-told, lit-power, lost-dark, next-dark}
use Rattle.run_crew.specs.declared.cards.Accepted.{Accepted}
use Rattle.run_outcome.specs.declared.outcome.Outcome.{Outcome}
use Rattle.run_minutes.specs.declared.keeper.Moment.{Moment}
use Rattle.run_minutes.specs.Keeping.{SessionsGoOn}
use Rattle.run_minutes.specs.Books.{HaveTime, AreTimedOn}
use Rattle.run_minutes.specs.Decided.{readings_of}
use Rattle.run_events.specs.run_rings.Notes.{TellSameTo}
use Rattle.run_events.specs.run_rings.Spans.{with_second}
use Rattle.run_minutes.specs.run_promise.Origin.{Origin, first_of}
use Rattle.run_minutes.specs.run_promise.Beside.{HaveLeftMore}
use Rattle.run_note_record.specs.Ringed.{Seating, LeavesRings, notes_in, since_behind}
use Rattle.run_note_record.specs.RingsSoFar.{RingedBehind, RingedIn, IsSecond, AreFewer, HasMoreBreaks, GoesBehind}
use Rattle.run_note_record.specs.Steps.{nobody, spans_cut}
use Rattle.run_note_record.specs.Stored.{StoresOn, StoresOff, Stores}
use Rattle.run_note_record.proofs.Bases.{stored-later, stored-next, stored-alike}
use Rattle.run_note_record.proofs.Rings.{fewer-sit}
use Rattle.run_note_record.proofs.SoFar.{second-begins, go-on-in, second-ends, dark-ends}
use Rattle.run_record.specs.Recorded.{Values}
use Rattle.run_record.specs.Within.{Beginning, RecordInSecond, RecordAtFailure}
use Rattle.run_record.specs.Turning.{last_of, before_last, BehindFirst, IsTurned}
use Rattle.run_record.proofs.Turning.{turn-ends}
use Rattle.run_acts.specs.declared.run.Run.{Run}
use Rattle.run_acts.specs.declared.run.Power.{Power}
use Rattle.run_acts.specs.declared.run.Power.TheVariants.{Lit, Lost}
use Rattle.run_acts.specs.Booked.{IsBookedTurn}
use Rattle.run_acts.specs.Going.{end_of_seconds, RunHasPower}
use Rattle.run_acts.specs.Power.{is_lit, passed, cut_run}
use Rattle.run_acts.specs.Rounds.{told_values}
use Rattle.run_acts.specs.Recording.{log_of, values_of, IsOrigin, IsNow, RunWithin, RunCut}
use Rattle.run_acts.specs.RunRinged.{seats_of, IsLastFrom, RingsWithin, TurnedRings}
use Rattle.run_acts.specs.Turning.{late_moment, told_of, cut_where, cut_breaks, IsLitTurn}
use Rattle.run_note_record.specs.OnCards.{CardsStay}
use Rattle.run_acts.proofs.CardPlaces.{timed-stays}
use Rattle.run_acts.proofs.Readings.{values-read}
use Rattle.run_acts.proofs.TurnRecorded.{last-actions, last-number, turned, fails-last, timed-last}
use Rattle.run_acts.proofs.StoredRun.{found-first, cut-stored}
use Rattle.run_acts.specs.Ringing.{seating_of}
use Rattle.run_acts.proofs.RingedLines.{AreTears, TellsBeside, TellsTears, tears-beside, kept-tells, up-to-tells}
use Rattle.run_acts.proofs.RingedSecond.{cut-is, cut-torn, cut-found, here-append, tears-here_, goes-behind, power-here, goes-last, alike-last, more-left}
use Rattle.run_acts.proofs.RingedClosed.{fewer-seats}
use Rattle.run_acts.proofs.NotesThen.{behind-goes}

-- ---- a second with power, as its log tells it

pub second-as : (log : RunLog) (before : Before) (s : TraceSecond) → has_power before s ≡ true → IsSecond s before (second_told log before s)
second-as log before s power =
    let l = lit-told log before s power in
    record { number = l.number; speed = speed; lit = l.lit; starts = l.starts }
  where
    speed : (second_told log before s).second.speed ≡ s.speed
    speed = rw power refl

all-same : (log : RunLog) (ss : List TraceSecond) → All (λ (s : TraceSecond). SameAt log log s.number) ss
all-same log [] = All-nil (λ (s : TraceSecond). SameAt log log s.number)
all-same log (s ∷ ss) = All-cons (λ (s : TraceSecond). SameAt log log s.number) s ss (record { cut = refl; torn = λ p slot. refl; found = λ p slot. refl }) (all-same log ss)

same-behind : (log : RunLog) (done : List TraceSecond) → GoesBehind log log done
same-behind log done = record { same = all-same log done; went_is = refl }

-- ---- QUIET SECONDS of a span that goes on

abbrev quiet : (number speed : ℕ) → TraceSecond
quiet number speed = record { number = number; has_power = true; speed = speed; actions = [] }

-- behind some seconds: their spans, the last from this odometer
pub record SpansBehind (o : Origin) (done : List TraceSecond) (log : RunLog) (next unfound base : ℕ) (seats : Card → Option Seating) (d : Devices) : Type 0 where
  pub spans : List SpanFrom
  pub base_is : IsLastFrom base spans
  pub ringed : RingedBehind o done log next spans seats d
  pub stored : StoresOn o log unfound base spans

one-quiet : (o : Origin) (done : List TraceSecond) (log : RunLog) (u speed unfound base : ℕ) (seats : Card → Option Seating) (d : Devices) → PowerGoesOn (went log done).before → SpansBehind o done log u unfound base seats d →
    SpansBehind o (done ++ quiet u speed ∷ []) log (suc u) unfound base seats d
one-quiet o done log u speed unfound base seats d goes q =
    let x : TraceSecond = quiet u speed in
    let before : Before = (went log done).before in
    let power : has_power before x ≡ true = lit-power (second_told log before x ∷ []) before x u goes refl refl in
    let t : ToldSecond = second_told log before x in
    let is = second-as log before x power in
    record {
      spans = with_second q.spans base t;
      base_is = goes-last base q.spans t is.lit (is.starts ∙ ap not goes.running) q.base_is;
      ringed = second-ends d o done x log log q.spans base t seats (second-begins d o done x log q.spans base t seats q.ringed goes.running is) (same-behind log done) power;
      stored = stored-next o log unfound base base q.spans t is.lit (is.starts ∙ ap not goes.running) q.stored;
    }

many-quiet : (j : ℕ) (o : Origin) (done : List TraceSecond) (log : RunLog) (u speed unfound base : ℕ) (seats : Card → Option Seating) (d : Devices) → ((i : ℕ) → PowerGoesOn (went log (done ++ driven i u speed [])).before) → SpansBehind o done log u unfound base seats d →
    SpansBehind o (done ++ driven j u speed []) log (u + j) unfound base seats d
many-quiet zero o done log u speed unfound base seats d goes q =
    subst (λ (k : ℕ). SpansBehind o (done ++ []) log k unfound base seats d) (let same : u ≡ u + 0 = omega arith in same) (subst (λ (ss : List TraceSecond). SpansBehind o ss log u unfound base seats d) (sym (append-nil done)) q)
many-quiet (suc j) o done log u speed unfound base seats d goes q =
    let x : TraceSecond = quiet u speed in
    let first : SpansBehind o (done ++ x ∷ []) log (u + 1) unfound base seats d =
    subst (λ (k : ℕ). SpansBehind o (done ++ x ∷ []) log k unfound base seats d) (let same : suc u ≡ u + 1 = omega arith in same)
    (one-quiet o done log u speed unfound base seats d (subst (λ (ss : List TraceSecond). PowerGoesOn (went log ss).before) (append-nil done) (goes zero)) q) in
    let rest = many-quiet j o (done ++ x ∷ []) log (u + 1) speed unfound base seats d (λ i. subst (λ (ss : List TraceSecond). PowerGoesOn (went log ss).before) (sym (append_assoc done (x ∷ []) (driven i (u + 1) speed []))) (goes (suc i))) first in
    subst (λ (k : ℕ). SpansBehind o (done ++ driven (suc j) u speed []) log k unfound base seats d) (let same : u + 1 + j ≡ u + suc j = omega arith in same)
    (subst (λ (ss : List TraceSecond). SpansBehind o ss log (u + 1 + j) unfound base seats d) (append_assoc done (x ∷ []) (driven j (u + 1) speed [])) rest)

-- ---- DARK SECONDS behind a cut
one-dark : (o : Origin) (done : List TraceSecond) (log : RunLog) (u speed : ℕ) (spans : List SpanFrom) (base : ℕ) (d : Devices) → HasLost (went log done).before → 0 < u % 60 → RingedBehind o done log u spans nobody d →
    HasLost (went log (done ++ quiet u speed ∷ [])).before × RingedBehind o (done ++ quiet u speed ∷ []) log (suc u) spans nobody d
one-dark o done log u speed spans base d lost some v =
    let x : TraceSecond = quiet u speed in
    let before : Before = (went log done).before in
    let off : has_power before x ≡ false = lost-dark before x lost some in
    let t = dark-told log before x off in (
      subst (λ (g : Went). HasLost g.before) (sym (went-more log done x)) (next-dark before (second_told log before x) lost t.lit t.cut t.given),
      dark-ends d o done x log log spans base nobody nobody v (same-behind log done) ([], sym (append-nil log.breaks)) off (λ c. inl refl),
    )

pub many-dark : (j : ℕ) (o : Origin) (done : List TraceSecond) (log : RunLog) (u speed : ℕ) (spans : List SpanFrom) (base : ℕ) (d : Devices) → HasLost (went log done).before → 0 < u % 60 → u % 60 + j ≤ 60 → RingedBehind o done log u spans nobody d →
    RingedBehind o (done ++ driven j u speed []) log (u + j) spans nobody d
many-dark zero o done log u speed spans base d lost some few v =
    subst (λ (k : ℕ). RingedBehind o (done ++ []) log k spans nobody d) (let same : u ≡ u + 0 = omega arith in same) (subst (λ (ss : List TraceSecond). RingedBehind o ss log u spans nobody d) (sym (append-nil done)) v)
many-dark (suc zero) o done log u speed spans base d lost some few v =
    subst (λ (k : ℕ). RingedBehind o (done ++ quiet u speed ∷ []) log k spans nobody d) (let same : suc u ≡ u + 1 = omega arith in same) (one-dark o done log u speed spans base d lost some v).1
many-dark (suc (suc j)) o done log u speed spans base d lost some few v =
    let x : TraceSecond = quiet u speed in
    let one = one-dark o done log u speed spans base d lost some v in
    let first : RingedBehind o (done ++ x ∷ []) log (u + 1) spans nobody d = subst (λ (k : ℕ). RingedBehind o (done ++ x ∷ []) log k spans nobody d) (let same : suc u ≡ u + 1 = omega arith in same) one.1 in
    let rest = many-dark (suc j) o (done ++ x ∷ []) log (u + 1) speed spans base d one.0 (omega (arith, some, few)) (omega (arith, some, few)) first in
    subst (λ (k : ℕ). RingedBehind o (done ++ driven (suc (suc j)) u speed []) log k spans nobody d) (let same : u + 1 + suc j ≡ u + suc (suc j) = omega arith in same)
    (subst (λ (ss : List TraceSecond). RingedBehind o ss log (u + 1 + suc j) spans nobody d) (append_assoc done (x ∷ []) (driven (suc j) (u + 1) speed [])) rest)

-- fewer cards are accepted behind some seconds
fewer-behind : (o : Origin) (done : List TraceSecond) (log : RunLog) (next : ℕ) (spans : List SpanFrom) (seats fewer : Card → Option Seating) (d : Devices) → RingedBehind o done log next spans seats d → AreFewer seats fewer → RingedBehind o done log next spans fewer d
fewer-behind o done log next spans seats fewer d v few = record { spans_are = v.spans_are; before = v.before; early = v.early; ringed = fewer-sit d (since_behind o log done) log spans (notes_in log done) seats fewer v.ringed few }

-- THE SECOND WAS CUT: behind it nothing is noted before the next minute.
pub dark-ringed : (n speed begun : ℕ) (old : Run) (before : Outcome) (d : Devices) → 0 < n → old.next % 60 + n ≤ 60 → (o : Origin) (done : List TraceSecond) (s : TraceSecond) → IsNow s speed old → (cut : RunCut o done s old before d) →
    (spans : List SpanFrom) → old.noted ≤ length before.finds.items → RingedBehind o (done ++ s ∷ []) (log_of before) (suc old.next) spans nobody d → StoresOff o (log_of before) old.unfound spans d →
    TurnedRings o (done ++ s ∷ driven (n - 1) (s.number + 1) speed []) (passed n begun old) before d
dark-ringed n speed begun old before d some minute o done s now cut spans counted v off = record {
  spans = spans;
  counted = counted;
  base = λ on. absurd (let clash : Lost ≡ Lit = sym cut.lost ∙ on in cc);
  ringed = fewer-behind o (done ++ s ∷ driven (n - 1) (s.number + 1) speed []) (log_of before) (old.next + n) spans nobody (seats_of old) d
      (subst (λ (u : ℕ). RingedBehind o (done ++ s ∷ driven (n - 1) (s.number + 1) speed []) (log_of before) u spans nobody d) (let same : s.number + 1 + (n - 1) ≡ old.next + n = omega (arith, number, some) in same)
      (subst (λ (ss : List TraceSecond). RingedBehind o ss (log_of before) (s.number + 1 + (n - 1)) spans nobody d) (append_assoc done (s ∷ []) (driven (n - 1) (s.number + 1) speed [])) (all (n - 1) refl)))
      (λ c. inr (ap (λ (q : Option Accepted). option_map (seating_of old.noted) q) (cut.recorded.held.bare c)));
  stored = subst (λ (p : Power). Stores (is_lit p) o (log_of before) old.unfound old.keeper.odometer spans d) (sym cut.lost) off;
}
  where
    number : s.number ≡ old.next
    number = now.number

    lost : HasLost (went (log_of before) (done ++ s ∷ [])).before
    lost = cut.recorded.recorded.followed.power

    first : RingedBehind o (done ++ s ∷ []) (log_of before) (s.number + 1) spans nobody d
    first = subst (λ (u : ℕ). RingedBehind o (done ++ s ∷ []) (log_of before) u spans nobody d) (let same : suc old.next ≡ s.number + 1 = omega (arith, number) in same) v

    all : (j : ℕ) → n - 1 ≡ j → RingedBehind o ((done ++ s ∷ []) ++ driven j (s.number + 1) speed []) (log_of before) (s.number + 1 + j) spans nobody d
    all zero none =
        subst (λ (k : ℕ). RingedBehind o ((done ++ s ∷ []) ++ []) (log_of before) k spans nobody d) (let same : s.number + 1 ≡ s.number + 1 + 0 = omega arith in same)
        (subst (λ (ss : List TraceSecond). RingedBehind o ss (log_of before) (s.number + 1) spans nobody d) (sym (append-nil (done ++ s ∷ []))) first)
    all (suc j) more = many-dark (suc j) o (done ++ s ∷ []) (log_of before) (s.number + 1) speed spans 0 d lost (omega (arith, number, minute, more)) (omega (arith, number, minute, more)) first

-- ---- WITH POWER
module _ {U A0 B0 : State} {chip_a chip_b : CardState} (n speed begun : ℕ) (old new : Run) (before after : Outcome) (d e : Devices) (g : RunHasPower None (old.next / 60) old U chip_a chip_b A0 B0) (lit : old.power ≡ Lit) (some : 0 < n)
    (minute : old.next % 60 + n ≤ 60) (small : old.next + n ≤ end_of_seconds) (h : IsBookedTurn n speed begun old new before after d e) (leaves : LeavesRings d.unit e.unit) where
  abbrev T : IsLitTurn n speed begun old new before after
  T = h.0

  abbrev at : Moment
  at = late_moment old.next n begun

  -- what the keeping has told, and which sessions go on
  told-tears : TellsTears at (told_of T.fed before) (told_of T.between T.told)
  told-tears = ⊎_elim
      (λ short. up-to-tells at T.decided true (told_of T.fed before) (told_of T.between T.told) short.1)
      (λ whole. kept-tells at T.decided (told_of T.fed before) (told_of T.between T.told) whole.0)
      T.kept.how

  told-is : log_of T.told ≡ record (log_of before) { breaks = (log_of before).breaks ++ told-tears.lines }
  told-is = ap log_of T.kept.outcome ∙ ap (λ (bs : List Break). record (log_of before) { breaks = bs }) told-tears.are

  between-noted : T.between.noted ≡ old.noted
  between-noted = ap (λ (r : Run). r.noted) T.kept.only ∙ ap (λ (r : Run). r.noted) T.only

  between-sessions : SessionsGoOn old.keeper.cabin.cards T.between.keeper.cabin.cards
  between-sessions = subst (λ (r : Run). SessionsGoOn r.keeper.cabin.cards T.between.keeper.cabin.cards) T.only told-tears.sessions

  between-odometer : T.between.keeper.odometer ≡ old.keeper.odometer
  between-odometer = h.5

  between-unfound : T.between.unfound ≡ old.unfound
  between-unfound = ap (λ (r : Run). r.unfound) T.kept.only ∙ ap (λ (r : Run). r.unfound) T.only

  between-power : T.between.power ≡ old.power
  between-power = ap (λ (r : Run). r.power) T.kept.only ∙ ap (λ (r : Run). r.power) T.only

  between-next : T.between.next ≡ old.next
  between-next = ap (λ (r : Run). r.next) T.kept.only ∙ ap (λ (r : Run). r.next) T.only

  -- where power was cut nobody is accepted
  cut-seats : (second : ℕ) (run : Run) (c : Card) → seats_of (cut_run second run) c ≡ None
  cut-seats second run A = refl
  cut-seats second run B = refl

  new-fewer : (f : Bool) (r : Run) → r ≡ cut_where f (old.next + n - 1) T.between → AreFewer (seats_of old) (seats_of r)
  new-fewer false r is = subst (λ (x : Run). AreFewer (seats_of old) (seats_of x)) (sym is) (fewer-seats old T.between between-noted between-sessions)
  new-fewer true r is = subst (λ (x : Run). AreFewer (seats_of old) (seats_of x)) (sym is) (λ c. inr (cut-seats (old.next + n - 1) T.between c))

  -- THE LAST SECOND, once its actions are noted: its keeping writes no ring, and it ends, cut or not
  module _ (o : Origin) (first : o.found.unit.first ≡ first_of o) (D : List TraceSecond) (L : TraceSecond) (rest : List Minute) (next_ gone : ℕ) (w : RecordInSecond o D L Keeping [] (Some L.speed) rest (record (values_of old before) { minutes = T.fed.minutes; next = next_; begun = gone }) d)
      (number : L.number ≡ old.next + n - 1) (acts : length L.actions ≡ begun)
      (fails : T.failed ≡ true → RecordAtFailure o D L Keeping [] (Some L.speed) (told_values (told_of (record old { minutes = T.fed.minutes; keeper = T.between.keeper; watch = T.between.watch }) (record before { marks = T.told.marks; breaks = T.told.breaks }))
      (record (values_of old before) { minutes = T.fed.minutes; next = next_; begun = gone })) e)
      (origin : IsOrigin o) (timed : AreTimedOn o.found (readings_of old.keeper rest) d e) (spans : List SpanFrom) (t : ToldSecond) (base : IsLastFrom old.keeper.odometer (with_second spans old.keeper.odometer t)) (counted : old.noted ≤ length (log_of before).finds) (r : RingedIn o D L w.b.run.log L.actions (log_of before) spans old.keeper.odometer t (seats_of old) d)
      (st : StoresOn o w.b.run.log w.b.run.unfound old.keeper.odometer (with_second spans old.keeper.odometer t)) where
    abbrev log : RunLog
    log = log_of before

    abbrev v : Values
    v = record (values_of old before) { minutes = T.fed.minutes; next = next_; begun = gone }

    abbrev kept_log : RunLog
    kept_log = log_of T.told

    at-is : at ≡ record { second = L.number; begun = length L.actions; late = true }
    at-is = ap (λ (u : ℕ). record { second = u; begun = begun; late = true }) (sym number) ∙ ap (λ (k : ℕ). record { second = L.number; begun = k; late = true }) (sym acts)

    tears : AreTears (record { second = L.number; begun = length L.actions; late = true }) told-tears.lines
    tears = subst (λ (m : Moment). AreTears m told-tears.lines) at-is told-tears.tears

    told : TellsBeside log kept_log L.number Keeping
    told = tears-beside (record { second = L.number; begun = length L.actions; late = true }) told-tears.lines log kept_log told-is tears

    uncut : cut_in log L.number ≡ None
    uncut = w.moment.up_to.uncut

    kept-uncut : cut_in kept_log L.number ≡ None
    kept-uncut = told.cut ∙ uncut

    lines-here : AllByRecursion (λ (b : Break). second_of b ≡ L.number) told-tears.lines
    lines-here = tears-here_ L.number (length L.actions) true told-tears.lines tears

    left : HaveLeftMore o d e
    left = more-left o d e (w.powered.lit.unit.unit_holds [] []).later w.there.clocks (record { unit = h.4.keeps; card_a = h.4.card_a.keeps; card_b = h.4.card_b.keeps })

    -- the cards' places stay, and what it keeps on them are readings
    places : CardsStay o (with_second spans old.keeper.odometer t) d e
    places =
        timed-stays o origin (readings_of old.keeper rest) d e timed (with_second spans old.keeper.odometer t)
        (values-read o D L Keeping [] (Some L.speed) rest v d w spans old.keeper.odometer t (record { last = base; are = r.spans_are; second = r.second }) old.keeper refl)

    -- by a log behind it
    module _ (later : RunLog) (lines : List Break) (is : later ≡ record log { breaks = log.breaks ++ lines }) (here : AllByRecursion (λ (b : Break). second_of b ≡ L.number) lines) where
      more-told : HasMoreBreaks w.b.run.log later
      more-told = (w.moment.breaks ++ lines, ap (λ (l : RunLog). l.breaks) is ∙ ap (λ (bs : List Break). bs ++ lines) w.moment.breaks_are ∙ append_assoc w.b.run.log.breaks w.moment.breaks lines)

      behind : GoesBehind w.b.run.log later D
      behind = goes-behind o D L Keeping [] (Some L.speed) rest v d w lines later is here

      power : has_power (went w.b.run.log D).before L ≡ true
      power = power-here o D L Keeping [] (Some L.speed) rest v d w

      as-told : IsLitAs later (went later D).before L (second_told later (went later D).before L)
      as-told = lit-told later (went later D).before L (ap (λ (x : Went). has_power x.before L) behind.went_is ∙ power)

      starts-so : (second_told later (went later D).before L).starts ≡ t.starts
      starts-so = as-told.starts ∙ ap (λ (y : Went). not y.before.running) behind.went_is ∙ sym r.second.starts

      ended : (seats : Card → Option Seating) → AreFewer (seats_of old) seats → TellSameTo log later L.number (length L.actions) →
          RingedBehind o (D ++ L ∷ []) later (suc L.number) (with_second spans old.keeper.odometer (second_told later (went later D).before L)) seats e
      ended seats few same =
          let moved : RingedIn o D L w.b.run.log L.actions later spans old.keeper.odometer t seats e =
          go-on-in d e o D L w.b.run.log L.actions log later spans old.keeper.odometer t (seats_of old) seats r (lines, ap (λ (l : RunLog). l.breaks) is) same leaves left places few in
          second-ends e o D L w.b.run.log later spans old.keeper.odometer t seats moved behind power

      ended-base : IsLastFrom old.keeper.odometer (with_second spans old.keeper.odometer (second_told later (went later D).before L))
      ended-base = alike-last old.keeper.odometer spans t (second_told later (went later D).before L) r.second.lit as-told.lit starts-so base

      ended-stored : StoresOn o later old.unfound old.keeper.odometer (with_second spans old.keeper.odometer (second_told later (went later D).before L))
      ended-stored =
          subst (λ (k : ℕ). StoresOn o later k old.keeper.odometer (with_second spans old.keeper.odometer (second_told later (went later D).before L))) (sym w.unfound)
          (stored-alike o later w.b.run.unfound old.keeper.odometer spans t (second_told later (went later D).before L) r.second.lit as-told.lit starts-so
          (stored-later o w.b.run.log later w.b.run.unfound old.keeper.odometer (with_second spans old.keeper.odometer t) w.began.followed.unfound more-told st))

    -- it went on
    same-kept : TellSameTo log kept_log L.number (length L.actions)
    same-kept = record {
      begun = λ k lt. ap (λ (q : Option ℕ). begins q k) uncut;
      begun_later = λ k lt. ap (λ (q : Option ℕ). begins q k) kept-uncut;
      torn = λ k slot le. told.torn (In k) slot refl;
      found = λ k slot le. told.found (In k) slot;
    }

    -- or was cut in its keeping
    same-cut : TellSameTo log (and_break kept_log (cut_at L.number true (length L.actions))) L.number (length L.actions)
    same-cut = record {
      begun = λ k lt. ap (λ (q : Option ℕ). begins q k) uncut;
      begun_later = λ k lt. ap (λ (q : Option ℕ). begins q k) (cut-is kept_log L.number (length L.actions) kept-uncut) ∙ lt-ltb k (length L.actions) lt;
      torn = λ k slot le. cut-torn kept_log L.number (length L.actions) kept-uncut (In k) slot ∙ told.torn (In k) slot refl;
      found = λ k slot le. cut-found kept_log L.number (length L.actions) kept-uncut (In k) slot ∙ told.found (In k) slot;
    }

    cut-lines : and_break kept_log (cut_at L.number true (length L.actions)) ≡ record log { breaks = log.breaks ++ (told-tears.lines ++ cut_at L.number true (length L.actions) ∷ []) }
    cut-lines =
        ap (λ (l : RunLog). and_break l (cut_at L.number true (length L.actions))) told-is
        ∙ ap (λ (bs : List Break). record log { breaks = bs }) (append_assoc log.breaks told-tears.lines (cut_at L.number true (length L.actions) ∷ []))

    kept-counted : old.noted ≤ length kept_log.finds
    kept-counted = subst (λ (l : RunLog). old.noted ≤ length l.finds) (sym told-is) counted

    next-is : suc L.number ≡ old.next + n
    next-is = omega (arith, number, some)

    -- the log of the record is the one that was told
    log-same : record log { breaks = T.told.breaks.items } ≡ kept_log
    log-same = sym (ap log_of T.kept.outcome)

    -- where it was cut, what was stored
    cut-off : T.failed ≡ true → StoresOff o (and_break kept_log (cut_at L.number true (length L.actions))) old.unfound
        (with_second spans old.keeper.odometer (second_told (and_break kept_log (cut_at L.number true (length L.actions))) (went (and_break kept_log (cut_at L.number true (length L.actions))) D).before L)) e
    cut-off broke =
        let gone_ : HasMoreBreaks w.b.run.log kept_log = more-told kept_log told-tears.lines told-is lines-here in
        let behind_ : GoesBehind w.b.run.log (and_break kept_log (cut_at L.number true (length L.actions))) D =
        behind (and_break kept_log (cut_at L.number true (length L.actions))) (told-tears.lines ++ cut_at L.number true (length L.actions) ∷ []) cut-lines (here-append L.number told-tears.lines (cut_at L.number true (length L.actions) ∷ []) lines-here (refl, tt)) in
        let there : (l : RunLog) → l ≡ kept_log → HasMoreBreaks w.b.run.log l × (went (and_break l (cut_at L.number true (length L.actions))) D ≡ went w.b.run.log D) =
        λ l is. (subst (HasMoreBreaks w.b.run.log) (sym is) gone_, ap (λ (x : RunLog). went (and_break x (cut_at L.number true (length L.actions))) D) is ∙ behind_.went_is) in
        let at_log = there (record log { breaks = T.told.breaks.items }) log-same in
        subst (λ (l : RunLog). StoresOff o (and_break l (cut_at L.number true (length L.actions))) old.unfound (spans_cut spans old.keeper.odometer (and_break l (cut_at L.number true (length L.actions))) D L) e) log-same
        (cut-stored o first D L w.b.run w.began.followed w.b.span w.lit w.moment.number Keeping [] (Some L.speed)
        (told_values (told_of (record old { minutes = T.fed.minutes; keeper = T.between.keeper; watch = T.between.watch }) (record before { marks = T.told.marks; breaks = T.told.breaks })) v) e (fails broke) [] refl
        w.unfound old.keeper.odometer refl at_log.0 at_log.1 spans r.spans_are t r.second.lit r.second.starts st)

    pub last-ringed : TurnedRings o (D ++ L ∷ []) (passed n begun new) after e
    last-ringed = by T.failed refl
      where
        by : (f : Bool) → T.failed ≡ f → TurnedRings o (D ++ L ∷ []) (passed n begun new) after e
        by false fine =
            let new_is : new ≡ T.between = T.run ∙ ap (λ (b : Bool). cut_where b (old.next + n - 1) T.between) fine in
            let after_is : after ≡ T.told = T.outcome ∙ ap (λ (b : Bool). cut_breaks b (old.next + n - 1) begun T.told) fine in
            let ss : List SpanFrom = with_second spans old.keeper.odometer (second_told kept_log (went kept_log D).before L) in
            let rings = ended kept_log told-tears.lines told-is lines-here (seats_of new) (new-fewer false new new_is) same-kept in
            let next : suc L.number ≡ new.next + n = next-is ∙ ap (λ (k : ℕ). k + n) (sym (ap (λ (r_ : Run). r_.next) new_is ∙ between-next)) in
            let odometer : new.keeper.odometer ≡ old.keeper.odometer = ap (λ (r_ : Run). r_.keeper.odometer) new_is ∙ between-odometer in
            let unfound : new.unfound ≡ old.unfound = ap (λ (r_ : Run). r_.unfound) new_is ∙ between-unfound in
            let on_ : new.power ≡ Lit = ap (λ (r_ : Run). r_.power) new_is ∙ between-power ∙ lit in
            subst (λ (out : Outcome). TurnedRings o (D ++ L ∷ []) (passed n begun new) out e) (sym after_is) (record {
              spans = ss;
              counted = subst (λ (k : ℕ). k ≤ length kept_log.finds) (sym (ap (λ (r_ : Run). r_.noted) new_is ∙ between-noted)) kept-counted;
              base = λ on. subst (λ (b : ℕ). IsLastFrom b ss) (sym odometer) (ended-base kept_log told-tears.lines told-is lines-here);
              ringed = subst (λ (k : ℕ). RingedBehind o (D ++ L ∷ []) kept_log k ss (seats_of new) e) next rings;
              stored = subst (λ (p : Power). Stores (is_lit p) o kept_log new.unfound new.keeper.odometer ss e) (sym on_)
                  (subst (λ (k : ℕ). StoresOn o kept_log k new.keeper.odometer ss) (sym unfound)
                  (subst (λ (b : ℕ). StoresOn o kept_log old.unfound b ss) (sym odometer) (ended-stored kept_log told-tears.lines told-is lines-here)));
            })
        by true broke =
            let new_is : new ≡ cut_run (old.next + n - 1) T.between = T.run ∙ ap (λ (b : Bool). cut_where b (old.next + n - 1) T.between) broke in
            let after_is : after ≡ cut_breaks true (old.next + n - 1) begun T.told = T.outcome ∙ ap (λ (b : Bool). cut_breaks b (old.next + n - 1) begun T.told) broke in
            let cut_log_ : RunLog = and_break kept_log (cut_at L.number true (length L.actions)) in
            let ss : List SpanFrom = with_second spans old.keeper.odometer (second_told (and_break kept_log (cut_at L.number true (length L.actions))) (went (and_break kept_log (cut_at L.number true (length L.actions))) D).before L) in
            let rings = ended cut_log_ (told-tears.lines ++ cut_at L.number true (length L.actions) ∷ []) cut-lines (here-append L.number told-tears.lines (cut_at L.number true (length L.actions) ∷ []) lines-here (refl, tt))
            (seats_of new) (new-fewer true new new_is) same-cut in
            let next : suc L.number ≡ new.next + n = next-is ∙ ap (λ (k : ℕ). k + n) (sym (ap (λ (r_ : Run). r_.next) new_is ∙ between-next)) in
            let unfound : new.unfound ≡ old.unfound = ap (λ (r_ : Run). r_.unfound) new_is ∙ between-unfound in
            let log_is : cut_log_ ≡ log_of after = (λ i. and_break kept_log (cut_at (number i) true (acts i))) ∙ sym (ap log_of after_is) in
            record {
              spans = ss;
              counted = subst (λ (l : RunLog). new.noted ≤ length l.finds) log_is (subst (λ (k : ℕ). k ≤ length kept_log.finds) (sym (ap (λ (r_ : Run). r_.noted) new_is ∙ between-noted)) kept-counted);
              base = λ on. absurd (let clash : Lost ≡ Lit = sym (ap (λ (r_ : Run). r_.power) new_is) ∙ on in cc);
              ringed = subst (λ (l : RunLog). RingedBehind o (D ++ L ∷ []) l (new.next + n) ss (seats_of new) e) log_is
                  (subst (λ (k : ℕ). RingedBehind o (D ++ L ∷ []) cut_log_ k ss (seats_of new) e) next rings);
              stored = subst (λ (p : Power). Stores (is_lit p) o (log_of after) new.unfound new.keeper.odometer ss e) (sym (ap (λ (r_ : Run). r_.power) new_is))
                  (subst (λ (k : ℕ). StoresOff o (log_of after) k ss e) (sym unfound)
                  (subst (λ (l : RunLog). StoresOff o l old.unfound ss e) log_is (cut-off broke)));
            }

  -- ---- ONE SECOND, OR SEVERAL
  module _ (o : Origin) (done : List TraceSecond) (s : TraceSecond) (now : IsNow s speed old) (actions : length s.actions ≡ begun) (none : 0 < n - 1 → s.actions ≡ []) (r : RunWithin o done s (In (length s.actions)) [] [] old before d) (time : HaveTime e)
      (spans : List SpanFrom) (t : ToldSecond) (rings : RingsWithin o done s r.within.b.run.log s.actions old (log_of before) spans t d) (st : StoresOn o r.within.b.run.log r.within.b.run.unfound old.keeper.odometer (with_second spans old.keeper.odometer t)) where
    abbrev log_ : RunLog
    log_ = log_of before

    abbrev base_ : ℕ
    base_ = old.keeper.odometer

    -- the first of several has ended
    first-behind : SpansBehind o (done ++ s ∷ []) log_ (suc s.number) old.unfound base_ (seats_of old) d
    first-behind =
        let v : Values = values_of old before in
        let behind = goes-behind o done s (In (length s.actions)) [] None [] v d r.within [] log_ (ap (λ (bs : List Break). record log_ { breaks = bs }) (sym (append-nil log_.breaks))) tt in
        let power = power-here o done s (In (length s.actions)) [] None [] v d r.within in
        let power_now : has_power (went log_ done).before s ≡ true = ap (λ (x : Went). has_power x.before s) behind.went_is ∙ power in
        let x = lit-told log_ (went log_ done).before s power_now in
        let starts : (second_told log_ (went log_ done).before s).starts ≡ t.starts = x.starts ∙ ap (λ (y : Went). not y.before.running) behind.went_is ∙ sym rings.ringed.second.starts in
        record {
          spans = with_second spans base_ (second_told log_ (went log_ done).before s);
          base_is = alike-last base_ spans t (second_told log_ (went log_ done).before s) rings.ringed.second.lit x.lit starts rings.base;
          ringed = second-ends d o done s r.within.b.run.log log_ spans base_ t (seats_of old) rings.ringed behind power;
          stored = subst (λ (k : ℕ). StoresOn o log_ k base_ (with_second spans base_ (second_told log_ (went log_ done).before s))) (sym r.within.unfound)
              (stored-alike o log_ r.within.b.run.unfound base_ spans t (second_told log_ (went log_ done).before s) rings.ringed.second.lit x.lit starts
              (stored-later o r.within.b.run.log log_ r.within.b.run.unfound base_ (with_second spans base_ t) r.within.began.followed.unfound (r.within.moment.breaks, r.within.moment.breaks_are) st));
        }

    acts-of : (c : ℕ) → c ≡ n - 1 → length (last_of c s).actions ≡ begun
    acts-of c is = last-actions c begun s actions (λ lt. none (omega (arith, lt, is)))

    number-of : (c : ℕ) → c ≡ n - 1 → (last_of c s).number ≡ old.next + n - 1
    number-of c is = last-number c s ∙ (let at_ = now.number in let same : s.number + c ≡ old.next + n - 1 = omega (arith, at_, is, some) in same)

    -- those behind it go on, up to the last
    module _ (c : ℕ) (x : IsTurned o done s (suc c) T.decided T.fed.minutes (values_of old before) d r.within) where
      after_one : BehindFirst o done s (values_of old before) d
      after_one = x.behind (omega arith)

      goes : (i : ℕ) → PowerGoesOn (went log_ ((done ++ s ∷ []) ++ driven i (s.number + 1) s.speed [])).before
      goes = behind-goes o done s (values_of old before) d after_one now.number

      done-is : (done ++ s ∷ []) ++ driven c (s.number + 1) s.speed [] ≡ done ++ s ∷ driven c (s.number + 1) s.speed []
      done-is = append_assoc done (s ∷ []) (driven c (s.number + 1) s.speed [])

      behind-all : SpansBehind o (done ++ s ∷ driven c (s.number + 1) s.speed []) log_ (s.number + suc c) old.unfound base_ (seats_of old) d
      behind-all =
          subst (λ (u : ℕ). SpansBehind o (done ++ s ∷ driven c (s.number + 1) s.speed []) log_ u old.unfound base_ (seats_of old) d) (let same : s.number + 1 + c ≡ s.number + suc c = omega arith in same)
          (subst (λ (ss : List TraceSecond). SpansBehind o ss log_ (s.number + 1 + c) old.unfound base_ (seats_of old) d) done-is
          (many-quiet c o (done ++ s ∷ []) log_ (s.number + 1) s.speed old.unfound base_ (seats_of old) d goes
          (subst (λ (u : ℕ). SpansBehind o (done ++ s ∷ []) log_ u old.unfound base_ (seats_of old) d) (let same : suc s.number ≡ s.number + 1 = omega arith in same) first-behind)))

      goes-l : PowerGoesOn (went log_ (done ++ s ∷ driven c (s.number + 1) s.speed [])).before
      goes-l = subst (λ (ss : List TraceSecond). PowerGoesOn (went log_ ss).before) done-is (goes c)

      power-l : has_power (went log_ (done ++ s ∷ driven c (s.number + 1) s.speed [])).before (last_of (suc c) s) ≡ true
      power-l = lit-power (after_one.told ∷ []) (went log_ (done ++ s ∷ driven c (s.number + 1) s.speed [])).before (last_of (suc c) s) (s.number + suc c) goes-l refl refl

      several-ringed : suc c ≡ n - 1 → TurnedRings o (before_last (suc c) s done ++ last_of (suc c) s ∷ []) (passed n begun new) after e
      several-ringed is =
          let q = behind-all in
          let before_ : Before = (went log_ (done ++ s ∷ driven c (s.number + 1) s.speed [])).before in
          let t_ : ToldSecond = second_told log_ before_ (last_of (suc c) s) in
          let second = second-as log_ before_ (last_of (suc c) s) power-l in
          let begun_ : RingedIn o (done ++ s ∷ driven c (s.number + 1) s.speed []) (last_of (suc c) s) log_ [] log_ q.spans base_ t_ (seats_of old) d =
          second-begins d o (done ++ s ∷ driven c (s.number + 1) s.speed []) (last_of (suc c) s) log_ q.spans base_ t_ (seats_of old) q.ringed goes-l.running second in
          let log_is = (x.goes_on (omega arith)).0 in
          last-ringed o (found-first o r.origin) (done ++ s ∷ driven c (s.number + 1) s.speed []) (last_of (suc c) s) T.decided (old.next + suc c) x.begun x.fed (number-of (suc c) is) (acts-of (suc c) is)
          (fails-last n speed begun old new before after d e g lit some minute small h o done s now actions none r time (suc c) is (done ++ s ∷ driven c (s.number + 1) s.speed []) (last_of (suc c) s) (old.next + suc c) x.begun (last-number (suc c) s) refl (acts-of (suc c) is)
          x.fed x.travelled_before x.from)
          r.origin
          (timed-last n speed begun old new before after d e g lit some minute small h o done s now actions none r time (suc c) is (done ++ s ∷ driven c (s.number + 1) s.speed []) (last_of (suc c) s) (old.next + suc c) x.begun (last-number (suc c) s) refl (acts-of (suc c) is)
          x.fed x.travelled_before x.from)
          q.spans t_ (goes-last base_ q.spans t_ second.lit (second.starts ∙ ap not goes-l.running) q.base_is) rings.counted
          (subst (λ (l : RunLog). RingedIn o (done ++ s ∷ driven c (s.number + 1) s.speed []) (last_of (suc c) s) l [] log_ q.spans base_ t_ (seats_of old) d) (sym log_is) begun_)
          (subst (λ (l : RunLog). StoresOn o l x.fed.b.run.unfound base_ (with_second q.spans base_ t_)) (sym log_is)
          (subst (λ (k : ℕ). StoresOn o log_ k base_ (with_second q.spans base_ t_)) x.fed.unfound
          (stored-next o log_ old.unfound base_ base_ q.spans t_ second.lit (second.starts ∙ ap not goes-l.running) q.stored)))

    by-count : (c : ℕ) → c ≡ n - 1 → IsTurned o done s c T.decided T.fed.minutes (values_of old before) d r.within → TurnedRings o (before_last c s done ++ last_of c s ∷ []) (passed n begun new) after e
    by-count zero is x =
        last-ringed o (found-first o r.origin) done s T.decided (old.next + 0) x.begun x.fed (number-of zero is) (acts-of zero is)
        (fails-last n speed begun old new before after d e g lit some minute small h o done s now actions none r time zero is done s (old.next + 0) x.begun (last-number zero s) refl (acts-of zero is) x.fed x.travelled_before x.from)
        r.origin
        (timed-last n speed begun old new before after d e g lit some minute small h o done s now actions none r time zero is done s (old.next + 0) x.begun (last-number zero s) refl (acts-of zero is) x.fed x.travelled_before x.from)
        spans t rings.base rings.counted
        (subst (λ (b : Beginning). RingedIn o done s b.run.log s.actions log_ spans base_ t (seats_of old) d) (sym (x.first refl)) rings.ringed)
        (subst (λ (b : Beginning). StoresOn o b.run.log b.run.unfound base_ (with_second spans base_ t)) (sym (x.first refl)) st)
    by-count (suc c) is x = several-ringed c x is

    pub seconds-ringed : TurnedRings o (done ++ s ∷ driven (n - 1) (s.number + 1) speed []) (passed n begun new) after e
    seconds-ringed =
        subst (λ (k : ℕ). TurnedRings o (done ++ s ∷ driven (n - 1) (s.number + 1) k []) (passed n begun new) after e) now.speed_is
        (subst (λ (ss : List TraceSecond). TurnedRings o ss (passed n begun new) after e) (turn-ends done s (n - 1))
        (by-count (n - 1) refl (turned n speed begun old new before after d e g lit some minute small h o done s now actions none r time)))
