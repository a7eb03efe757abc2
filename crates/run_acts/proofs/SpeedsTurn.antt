-- Seconds of one minute turn over: behind them the unit carries the blocks of all.
use Rattle.std.proofs.Common.{◌≡◌, ◌∙◌, ⊎_elim, ℕ, zero, suc, ◌+◌, ◌-◌, ◌/◌, ◌%◌, ◌<◌, ◌≤◌, Bool, true, false, cond, Option, Some, None, IfSome, List, [], ◌∷◌, ◌++◌, length, refl, sym, ap, subst, arith, append_assoc, append-nil}
use Rattle.std.specs.Prelude.{not, option_to_list}
use Rattle.std.specs.List.{AllByRecursion}
use Rattle.trace_model.specs.Trace.{TraceSecond, driven}
use Rattle.tach_media.specs.Medium.{State}
use Rattle.card_files.specs.card_layout.declared.command.CardState.{CardState}
use Rattle.unit_model.specs.minute_model.declared.Minute.{Minute}
use Rattle.log_model.specs.declared.lines.Break.{Break}
use Rattle.log_model.specs.Causes.{second_of}
use Rattle.log_model.specs.Log.{RunLog, In, Keeping}
use Rattle.log_model.specs.Course.{Went, has_power, went, second_told}
use Rattle.log_model.proofs.Growth.{went-more}
use Rattle.unit_notes.specs.note_model.Done.{has_failed_in}
use Rattle.unit_notes.specs.event_model.Spans.{SpeedSecond, at_speed}
use Rattle.device_calls.specs.safety_model.Safe.{Devices}
use Rattle.run_events.specs.speed_store.Feeding as minute
use Rattle.run_events.specs.speed_model.Blocks.{blocks_of, blocks_in}
use Rattle.run_events.specs.run_speeds.Speeds.{HasSpeeds}
use Rattle.run_events.specs.run_speeds.Spans.{speeds_of, speed_spans, blocks_by, is_sure_block, last_speeds, speeds_before}
use Rattle.run_events.proofs.run_speeds.Spans.{on-last, grown, before-them, grown-then, last-grown, grown-blocks, as-speed, speeds-lit, speeds-dark}
use Rattle.device_calls.specs.run_unit_course.Lines.{cut_at}
use Rattle.run_events.specs.run_course.Moments.{and_break}
use Rattle.run_events.specs.run_course.Followed.{PowerGoesOn, IsLost as HasLost}
use Rattle.run_events.proofs.run_course.Told.{going-power, lost-dark, dark-told, next-dark}
use Rattle.run_outcome.specs.declared.outcome.Outcome.{Outcome}
use Rattle.run_minutes.specs.declared.keeper.Moment.{Moment}
use Rattle.run_minutes.specs.Books.{HaveTime}
use Rattle.run_minutes.specs.run_promise.Origin.{Origin}
use Rattle.run_note_record.proofs.SoFar.{failed-more}
use Rattle.run_note_record.proofs.Bases.{failed-here}
use Rattle.run_record.specs.Recorded.{Values}
use Rattle.run_record.specs.Within.{RecordInSecond}
use Rattle.run_record.specs.Turning.{last_of, before_last, IsTurned}
use Rattle.run_record.proofs.Turning.{turn-ends}
use Rattle.run_acts.specs.declared.run.Run.{Run}
use Rattle.run_acts.specs.declared.run.Power.{Power}
use Rattle.run_acts.specs.declared.run.Power.TheVariants.{Lit, Lost}
use Rattle.run_acts.specs.Booked.{IsBookedTurn}
use Rattle.run_acts.specs.Going.{end_of_seconds, RunHasPower}
use Rattle.run_acts.specs.Power.{is_lit, passed}
use Rattle.run_acts.specs.Recording.{log_of, values_of, IsNow, RunWithin, RunCut}
use Rattle.run_acts.specs.Turning.{late_moment, told_of, cut_where, cut_breaks, IsLitTurn}
use Rattle.run_acts.specs.Speeds.{BringsBlock, HasBlocks, SpeedsBehind}
use Rattle.run_acts.proofs.RingedLines.{TellsTears, kept-tells, up-to-tells}
use Rattle.run_acts.proofs.RingedSecond.{here-append, tears-here_, goes-behind, power-here}
use Rattle.run_acts.proofs.TurnRecorded.{last-number, turned}
use Rattle.run_acts.proofs.NotesThen.{behind-goes}
use Rattle.run_acts.proofs.SpeedLogs.{FailsMore, unsure-here, blocks-more}

abbrev quiet : (number speed : ℕ) → TraceSecond
quiet number speed = record { number = number; has_power = true; speed = speed; actions = [] }

-- ---- QUIET SECONDS of a span that goes on

pub grown-quiet : (j : ℕ) (log : RunLog) (front : List TraceSecond) (u speed : ℕ) (starts : Bool) (spans : List (List SpeedSecond)) (xs : List SpeedSecond) → ((i : ℕ) → PowerGoesOn (went log (front ++ driven i u speed [])).before) → speed_spans log front ≡ grown starts spans xs →
    speed_spans log (front ++ driven j u speed []) ≡ grown starts spans (xs ++ at_speed u j speed)
grown-quiet zero log front u speed starts spans xs goes is = ap (speed_spans log) (append-nil front) ∙ is ∙ ap (grown starts spans) (sym (append-nil xs))
grown-quiet (suc j) log front u speed starts spans xs goes is =
    let x : TraceSecond = quiet u speed in
    let now : PowerGoesOn (went log front).before = subst (λ (ss : List TraceSecond). PowerGoesOn (went log ss).before) (append-nil front) (goes zero) in
    let power : has_power (went log front).before x ≡ true = going-power (went log front).before x now refl in
    let one : speed_spans log (front ++ x ∷ []) ≡ grown starts spans (xs ++ as-speed x ∷ []) =
    speeds-lit log front x power
    ∙ ap (λ (b : Bool). grown (not b) (speed_spans log front) (as-speed x ∷ [])) now.running
    ∙ ap (λ (l : List (List SpeedSecond)). on-last l (as-speed x ∷ [])) is
    ∙ grown-then starts spans xs (as-speed x ∷ []) in
    ap (speed_spans log) (sym (append_assoc front (x ∷ []) (driven j (u + 1) speed [])))
    ∙ grown-quiet j log (front ++ x ∷ []) (u + 1) speed starts spans (xs ++ as-speed x ∷ []) (λ i. subst (λ (ss : List TraceSecond). PowerGoesOn (went log ss).before) (sym (append_assoc front (x ∷ []) (driven i (u + 1) speed []))) (goes (suc i))) one
    ∙ ap (grown starts spans) (append_assoc xs (as-speed x ∷ []) (at_speed (u + 1) j speed))

-- ---- DARK SECONDS behind a cut

pub one-dark : (log : RunLog) (done : List TraceSecond) (x : TraceSecond) → HasLost (went log done).before → 0 < x.number % 60 → x.has_power ≡ true → HasLost (went log (done ++ x ∷ [])).before × (speed_spans log (done ++ x ∷ []) ≡ speed_spans log done)
one-dark log done x lost some given =
    let off : has_power (went log done).before x ≡ false = lost-dark (went log done).before x lost some in
    let t = dark-told log (went log done).before x off in (
      subst (λ (g : Went). HasLost g.before) (sym (went-more log done x)) (next-dark (went log done).before (second_told log (went log done).before x) lost t.lit t.cut (t.given ∙ given)),
      speeds-dark log done x off,
    )

pub many-dark : (j : ℕ) (log : RunLog) (done : List TraceSecond) (u speed : ℕ) → HasLost (went log done).before → 0 < u % 60 → u % 60 + j ≤ 60 → speed_spans log (done ++ driven j u speed []) ≡ speed_spans log done
many-dark zero log done u speed lost some few = ap (speed_spans log) (append-nil done)
many-dark (suc zero) log done u speed lost some few = (one-dark log done (quiet u speed) lost some refl).1
many-dark (suc (suc j)) log done u speed lost some few =
    let one = one-dark log done (quiet u speed) lost some refl in
    ap (speed_spans log) (sym (append_assoc done (quiet u speed ∷ []) (driven (suc j) (u + 1) speed [])))
    ∙ many-dark (suc j) log (done ++ quiet u speed ∷ []) (u + 1) speed one.0 (omega (arith, some, few)) (omega (arith, some, few))
    ∙ one.1

-- THE SECOND WAS CUT
pub dark-speeds : (n speed begun : ℕ) (old : Run) (before : Outcome) (d : Devices) → 0 < n → old.next % 60 + n ≤ 60 → (o : Origin) (done : List TraceSecond) (s : TraceSecond) → IsNow s speed old → RunCut o done s old before d → HasBlocks o (log_of before) (done ++ s ∷ []) d →
    SpeedsBehind o (done ++ s ∷ driven (n - 1) (s.number + 1) speed []) (passed n begun old) before d
dark-speeds n speed begun old before d some minute_ o done s now cut h = record {
  watched = λ on. absurd (let clash : Lost ≡ Lit = sym cut.lost ∙ on in cc);
  blocks = λ ring. subst (λ (spans : List (List SpeedSecond)). HasSpeeds (is_sure_block log) o.recording.unit o.found.unit.began (blocks_in spans) d.unit) (sym all) (h ring);
}
  where
    log : RunLog
    log = log_of before

    number : s.number ≡ old.next
    number = now.number

    lost : HasLost (went log (done ++ s ∷ [])).before
    lost = cut.recorded.recorded.followed.power

    by : (j : ℕ) → n - 1 ≡ j → speed_spans log ((done ++ s ∷ []) ++ driven j (s.number + 1) speed []) ≡ speed_spans log (done ++ s ∷ [])
    by zero none = ap (speed_spans log) (append-nil (done ++ s ∷ []))
    by (suc j) more = many-dark (suc j) log (done ++ s ∷ []) (s.number + 1) speed lost (omega (arith, number, minute_, more)) (omega (arith, number, minute_, more))

    all : speed_spans log (done ++ s ∷ driven (n - 1) (s.number + 1) speed []) ≡ speed_spans log (done ++ s ∷ [])
    all = ap (speed_spans log) (sym (append_assoc done (s ∷ []) (driven (n - 1) (s.number + 1) speed []))) ∙ by (n - 1) refl

-- ---- WITH POWER

-- the seconds that a turn comes behind
before-is : (running : Bool) (spans : List (List SpeedSecond)) → before-them (not running) spans ≡ cond running (last_speeds spans) []
before-is true spans = refl
before-is false spans = refl

where-next : (failed : Bool) (second : ℕ) (run : Run) → (cut_where failed second run).next ≡ run.next
where-next true second run = refl
where-next false second run = refl

lit-cut : (failed : Bool) (second : ℕ) (run : Run) → run.power ≡ Lit → not (is_lit (cut_where failed second run).power) ≡ failed
lit-cut true second run lit = refl
lit-cut false second run lit = ap (λ (p : Power). not (is_lit p)) lit

module _ {U A0 B0 : State} {chip_a chip_b : CardState} (n speed begun : ℕ) (old new : Run) (before after : Outcome) (d e : Devices) (g : RunHasPower None (old.next / 60) old U chip_a chip_b A0 B0) (lit : old.power ≡ Lit) (some : 0 < n)
    (minute_ : old.next % 60 + n ≤ 60) (small : old.next + n ≤ end_of_seconds) (h : IsBookedTurn n speed begun old new before after d e) (brings : BringsBlock n speed (not (is_lit new.power)) old new d.unit e.unit) where
  abbrev T : IsLitTurn n speed begun old new before after
  T = h.0

  abbrev log : RunLog
  log = log_of before

  abbrev later : RunLog
  later = log_of after

  abbrev last : ℕ
  last = old.next + n - 1

  abbrev at : Moment
  at = late_moment old.next n begun

  told-tears : TellsTears at (told_of T.fed before) (told_of T.between T.told)
  told-tears = ⊎_elim
      (λ short. up-to-tells at T.decided true (told_of T.fed before) (told_of T.between T.told) short.1)
      (λ whole. kept-tells at T.decided (told_of T.fed before) (told_of T.between T.told) whole.0)
      T.kept.how

  told-is : log_of T.told ≡ record log { breaks = log.breaks ++ told-tears.lines }
  told-is = ap log_of T.kept.outcome ∙ ap (λ (bs : List Break). record log { breaks = bs }) told-tears.are

  -- its lines are all of the last second
  abbrev lines : (failed : Bool) → List Break
  lines true = told-tears.lines ++ cut_at last true begun ∷ []
  lines false = told-tears.lines

  after-is : (f : Bool) → T.failed ≡ f → after ≡ cut_breaks f last begun T.told
  after-is f is = T.outcome ∙ ap (λ (b : Bool). cut_breaks b last begun T.told) is

  lines-are : (f : Bool) → T.failed ≡ f → later ≡ record log { breaks = log.breaks ++ lines f }
  lines-are true is =
      ap log_of (after-is true is)
      ∙ ap (λ (l : RunLog). and_break l (cut_at last true begun)) told-is
      ∙ ap (λ (bs : List Break). record log { breaks = bs }) (append_assoc log.breaks told-tears.lines (cut_at last true begun ∷ []))
  lines-are false is = ap log_of (after-is false is) ∙ told-is

  tears-here : AllByRecursion (λ (b : Break). second_of b ≡ last) told-tears.lines
  tears-here = tears-here_ last begun true told-tears.lines told-tears.tears

  lines-here : (f : Bool) → AllByRecursion (λ (b : Break). second_of b ≡ last) (lines f)
  lines-here true = here-append last told-tears.lines (cut_at last true begun ∷ []) tears-here (refl, tt)
  lines-here false = tears-here

  fails-more : FailsMore log later
  fails-more = failed-more log later (lines T.failed, ap (λ (l : RunLog). l.breaks) (lines-are T.failed refl))

  failed-is : not (is_lit new.power) ≡ T.failed
  failed-is = ap (λ (r : Run). not (is_lit r.power)) T.run ∙ lit-cut T.failed last T.between (ap (λ (r : Run). r.power) T.kept.only ∙ ap (λ (r : Run). r.power) T.only ∙ lit)

  new-next : new.next ≡ old.next
  new-next = ap (λ (r : Run). r.next) T.run ∙ where-next T.failed last T.between ∙ ap (λ (r : Run). r.next) T.kept.only ∙ ap (λ (r : Run). r.next) T.only

  ends : IfSome brings.block (λ b. b.time + 60 ≡ last + 1)
  ends = subst (λ (k : ℕ). IfSome brings.block (λ b. b.time + 60 ≡ k)) (let same : old.next + n ≡ last + 1 = omega (arith, some) in same) brings.last

  fails-here : T.failed ≡ true → has_failed_in later last ≡ true
  fails-here is = ap (λ (out : Outcome). has_failed_in (log_of out) last) (after-is true is) ∙ failed-here (log_of T.told) last begun

  -- THE LAST SECOND: by the log behind it the seconds have the same speeds as by that before
  module _ (o : Origin) (D : List TraceSecond) (L : TraceSecond) (picked : Option ℕ) (rest : List Minute) (next_ gone : ℕ)
      (w : RecordInSecond o D L Keeping [] picked rest (record (values_of old before) { minutes = T.fed.minutes; next = next_; begun = gone }) d) (number : L.number ≡ last) where
    abbrev v : Values
    v = record (values_of old before) { minutes = T.fed.minutes; next = next_; begun = gone }

    went-began : went log D ≡ went w.b.run.log D
    went-began = (goes-behind o D L Keeping [] picked rest v d w [] log (ap (λ (bs : List Break). record log { breaks = bs }) (sym (append-nil log.breaks))) tt).went_is

    went-later : went later D ≡ went w.b.run.log D
    went-later =
        (goes-behind o D L Keeping [] picked rest v d w (lines T.failed) later (lines-are T.failed refl) (subst (λ (u : ℕ). AllByRecursion (λ (b : Break). second_of b ≡ u) (lines T.failed)) (sym number) (lines-here T.failed))).went_is

    power : has_power (went w.b.run.log D).before L ≡ true
    power = power-here o D L Keeping [] picked rest v d w

    both : went later D ≡ went log D
    both = went-later ∙ sym went-began

    pub spans-last : speed_spans later (D ++ L ∷ []) ≡ speed_spans log (D ++ L ∷ [])
    spans-last =
        speeds-lit later D L (ap (λ (x : Went). has_power x.before L) went-later ∙ power)
        ∙ ap (λ (x : Went). grown (not x.before.running) (speeds_of x.told) (as-speed L ∷ [])) both
        ∙ sym (speeds-lit log D L (ap (λ (x : Went). has_power x.before L) went-began ∙ power))

  -- ONE SECOND, OR SEVERAL
  module _ (o : Origin) (done : List TraceSecond) (s : TraceSecond) (now : IsNow s speed old) (actions : length s.actions ≡ begun) (none : 0 < n - 1 → s.actions ≡ []) (r : RunWithin o done s (In (length s.actions)) [] [] old before d) (time : HaveTime e) where
    abbrev starts : Bool
    starts = not (went log done).before.running

    abbrev spans : List (List SpeedSecond)
    spans = speed_spans log done

    went-first : went log done ≡ went r.within.b.run.log done
    went-first = (goes-behind o done s (In (length s.actions)) [] None [] (values_of old before) d r.within [] log (ap (λ (bs : List Break). record log { breaks = bs }) (sym (append-nil log.breaks))) tt).went_is

    power-first : has_power (went log done).before s ≡ true
    power-first = ap (λ (x : Went). has_power x.before s) went-first ∙ power-here o done s (In (length s.actions)) [] None [] (values_of old before) d r.within

    first : speed_spans log (done ++ s ∷ []) ≡ grown starts spans (as-speed s ∷ [])
    first = speeds-lit log done s power-first

    spans-of : (c : ℕ) → IsTurned o done s c T.decided T.fed.minutes (values_of old before) d r.within → speed_spans log (done ++ s ∷ driven c (s.number + 1) s.speed []) ≡ grown starts spans (at_speed s.number (suc c) s.speed)
    spans-of zero x = first
    spans-of (suc c) x =
        ap (speed_spans log) (sym (append_assoc done (s ∷ []) (driven (suc c) (s.number + 1) s.speed [])))
        ∙ grown-quiet (suc c) log (done ++ s ∷ []) (s.number + 1) s.speed starts spans (as-speed s ∷ []) (behind-goes o done s (values_of old before) d (x.behind (omega arith)) now.number) first

    spans-later : (c : ℕ) → c ≡ n - 1 → IsTurned o done s c T.decided T.fed.minutes (values_of old before) d r.within → speed_spans later (done ++ s ∷ driven c (s.number + 1) s.speed []) ≡ grown starts spans (at_speed s.number (suc c) s.speed)
    spans-later c is x =
        let at_ = now.number in
        let number : (last_of c s).number ≡ last = last-number c s ∙ (let same : s.number + c ≡ old.next + n - 1 = omega (arith, at_, is, some) in same) in
        ap (speed_spans later) (sym (turn-ends done s c))
        ∙ spans-last o (before_last c s done) (last_of c s) (Some s.speed) T.decided (old.next + c) x.begun x.fed number
        ∙ ap (speed_spans log) (turn-ends done s c)
        ∙ spans-of c x

    abbrev all : List TraceSecond
    all = done ++ s ∷ driven (n - 1) (s.number + 1) speed []

    abbrev more : List SpeedSecond
    more = at_speed old.next n speed

    spans-all : speed_spans later all ≡ grown starts spans more
    spans-all =
        let many : suc (n - 1) ≡ n = omega (arith, some) in
        ap (λ (k : ℕ). speed_spans later (done ++ s ∷ driven (n - 1) (s.number + 1) k [])) (sym now.speed_is)
        ∙ spans-later (n - 1) refl (turned n speed begun old new before after d e g lit some minute_ small h o done s now actions none r time)
        ∙ (λ i. grown starts spans (at_speed (now.number i) (many i) (now.speed_is i)))

    -- the seconds of its span before it
    before-it : before-them starts spans ≡ speeds_before log done
    before-it = before-is (went log done).before.running spans

    blocks-are : minute.KeepsSpeedsOf old.watch.speeds (speeds_before log done) old.next → blocks_by later all ≡ blocks_by log done ++ option_to_list brings.block
    blocks-are stands =
        ap blocks_in spans-all
        ∙ grown-blocks starts spans more (option_to_list brings.block)
        (subst (λ (before_ : List SpeedSecond). blocks_of (before_ ++ more) ≡ blocks_of before_ ++ option_to_list brings.block) (sym before-it) (brings.given (speeds_before log done) stands))

    pub seconds-speeds : minute.KeepsSpeedsOf old.watch.speeds (speeds_before log done) old.next → HasBlocks o log done d → SpeedsBehind o all (passed n begun new) after e
    seconds-speeds stands has = record {
      watched = λ on.
          subst (λ (k : ℕ). minute.KeepsSpeedsOf new.watch.speeds (last_speeds (speed_spans later all)) (k + n)) (sym new-next)
          (subst (λ (l : List SpeedSecond). minute.KeepsSpeedsOf new.watch.speeds l (old.next + n)) (sym (ap last_speeds spans-all ∙ last-grown starts spans more ∙ ap (λ (l : List SpeedSecond). l ++ more) before-it))
          (brings.stands (ap (λ (p : Power). not (is_lit p)) on) (speeds_before log done) stands));
      blocks = blocks-more o log later fails-more done all d e brings.block (not (is_lit new.power)) (blocks-are stands) r.within.there.unit
          (λ cut. unsure-here later last brings.block ends (fails-here (sym failed-is ∙ cut))) brings.carries has;
    }
