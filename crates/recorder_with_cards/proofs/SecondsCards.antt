-- What seconds of a run leave of the events that its cards show: without power, and of an `off` line; and the vehicle stays.
use Rattle.std.proofs.Common.{◌≡◌, ◌∙◌, inl, ⊎_elim, ℕ, zero, suc, ◌+◌, ◌-◌, ◌%◌, ◌<◌, ◌≤◌, Bool, true, false, None, List, [], ◌∷◌, ◌++◌, length, take, refl, ap, sym, subst, arith, append-nil}
use Rattle.trace_model.specs.declared.Action.{Action}
use Rattle.trace_model.specs.Trace.{TraceSecond, driven, dark}
use Rattle.log_model.specs.declared.lines.Refused.{Refused}
use Rattle.log_model.specs.Log.{RunLog, In}
use Rattle.log_model.specs.Course.{Went, has_power, went}
use Rattle.device_calls.specs.run_unit_course.Followed.{UnitPower, Lit as IsLit, Due as IsDue, Lost as IsLost}
use Rattle.device_calls.specs.run_unit_course.Lines.{cut_at}
use Rattle.run_minutes.specs.unit_memory.declared.memory.UnitFacts.{UnitFacts}
use Rattle.device_calls.specs.safety_model.Safe.{Devices}
use Rattle.run_acts.specs.run_course.Moments.{and_break}
use Rattle.run_acts.specs.run_course.Followed.{Progress, BookFollowsRun}
use Rattle.run_acts.specs.run_course.Seconds.{GoesOnBy}
use Rattle.run_acts.proofs.run_course.Logs.{went-refused}
use Rattle.run_acts.proofs.run_course.Steps.{with-supply}
use Rattle.run_acts.proofs.run_course.Told.{lost-dark}
use Rattle.run_outcome.specs.declared.outcome.Outcome.{Outcome}
use Rattle.run_outcome.specs.Lines.{Listed}
use Rattle.log_model.specs.declared.lines.Break.{Break}
use Rattle.log_model.specs.ByHand.{by_slots}
use Rattle.run_minutes.specs.Keeping.{with_lines}
use Rattle.run_minutes.proofs.Fates.{no-lines}
use Rattle.run_minutes.specs.run_promise.Origin.{Origin, rule_of, start_at, first_of}
use Rattle.run_acts.specs.run_record.Recorded.{progress}
use Rattle.run_acts.proofs.run_note_record.Lines.{early-before}
use Rattle.run_acts.proofs.run_note_record.Unlit.{acted-last, off-last, behind-more}
use Rattle.run_acts.specs.declared.run.Run.{Run}
use Rattle.run_acts.specs.declared.run.Power.{Power}
use Rattle.run_acts.specs.declared.run.Power.TheVariants.{Lit, Due, Lost}
use Rattle.run_acts.specs.run_crew.Cabin.{CabinIsSound}
use Rattle.run_acts.specs.Power.{is_lit, has_power as has_by, over_by, darkened, off_run, off_cut, passed}
use Rattle.run_acts.specs.Going.{first_second}
use Rattle.run_acts.specs.Recording.{log_of, values_of, Supplies, RunRecorded}
use Rattle.run_acts.specs.Turning.{IsTurnOf, IsLitTurn, cut_where, told_of, late_moment}
use Rattle.run_acts.specs.RunRinged.{RunRinged, InSecondRinged}
use Rattle.run_acts.specs.RunCards.{vehicle_in, CardsBehind, CardsIn, CardsAtBy}
use Rattle.run_acts.specs.Stood.{HaveStoodBehind}
use Rattle.recorder_with_cards.proofs.StoodSeconds.{dark-stood, off-stood}
use Rattle.run_acts.proofs.CardEnds.{IsLater, second-begins, plain-second, plain-same}
use Rattle.run_acts.proofs.CardUses.{untold-to}
use Rattle.recorder_with_cards.specs.Carded.{RunCarded, InSecondCardedBy, InSecondCarded}
use Rattle.recorder_with_cards.proofs.SecondsRecorded.{lost-away, lost-supply}
use Rattle.recorder_with_cards.proofs.SlotLines.{refused_dark, log-dark}
use Rattle.recorder_with_cards.proofs.SecondsRinged.{refused-all, lost, away, dark-ringed, off-ringed}
use Rattle.recorder_with_cards.proofs.Staying.{kept-memory, up-to-memory}
use Rattle.recorder_with_cards.proofs.RingsHeld.{in-ringed_lit, in-ringed_cut}
use Rattle.recorder_with_cards.proofs.CardsHeld.{first-are, to-began}
use Rattle.recorder_with_cards.proofs.OffCards.{off-cut-cards}
use Rattle.run_acts.specs.Speeds.{SpeedsBehind}
use Rattle.recorder_with_cards.proofs.SpeedsSoFar.{runs, lit-has}
use Rattle.recorder_with_cards.proofs.SpeedsUnlit.{dark-behind, off-speeds}

-- ---- the memory of the unit's identity stays

where-memory : (failed : Bool) (second : ℕ) (run : Run) → (cut_where failed second run).keeper.memory ≡ run.keeper.memory
where-memory true second run = refl
where-memory false second run = refl

lit-memory : (n speed begun : ℕ) (old new : Run) (before after : Outcome) → IsLitTurn n speed begun old new before after → new.keeper.memory ≡ old.keeper.memory
lit-memory n speed begun old new before after t =
    ap (λ (r : Run). r.keeper.memory) t.run ∙ where-memory t.failed (old.next + n - 1) t.between
    ∙ ⊎_elim
    (λ short. up-to-memory t.decided (late_moment old.next n begun) true (told_of t.fed before) (told_of t.between t.told) short.1)
    (λ whole. kept-memory (late_moment old.next n begun) t.decided (told_of t.fed before) (told_of t.between t.told) whole.0)
    t.kept.how
    ∙ ap (λ (r : Run). r.keeper.memory) t.only

pub turn-memory : (lit : Bool) (n speed begun : ℕ) (old new : Run) (before after : Outcome) → IsTurnOf lit n speed begun old new before after → new.keeper.memory ≡ old.keeper.memory
turn-memory false n speed begun old new before after is = ap (λ (r : Run). r.keeper.memory) is.0
turn-memory true n speed begun old new before after is = ap (λ (r : Run). r.keeper.memory) is.2 ∙ lit-memory n speed begun old is.0 before after is.1

off-memory : (lit : Bool) (old : Run) → (darkened lit old).keeper.memory ≡ old.keeper.memory
off-memory true old = refl
off-memory false old = refl

-- ---- a second begins in a span that goes on

pub over-lit : (b : Bool) (run : Run) → is_lit (over_by b run).power ≡ is_lit run.power
over-lit true run = refl
over-lit false run = refl

pub over-vehicle : (b : Bool) (run : Run) → (over_by b run).keeper.memory.registration ≡ run.keeper.memory.registration
over-vehicle true run = refl
over-vehicle false run = refl

pub begins-cards : (o : Origin) (done : List TraceSecond) (run : Run) (out : Outcome) (d : Devices) → RunCarded o done run out d → run.power ≡ Lit → (s : TraceSecond) → s.number ≡ run.next → s.has_power ≡ true → CardsIn o done s (log_of out) (take 0 s.actions) (log_of out) d
begins-cards o done run out d h lit s number given =
    let r = h.ringed.evented.recorded in
    subst (λ (front : List Action). CardsIn o done s (log_of out) front (log_of out) d) (sym (first-are s.actions [] s.actions 0 refl refl))
    (second-begins o done s (log_of out) d h.cards (runs (went (log_of out) done).before run.next r.supply (subst (λ (p : Power). Supplies p r.supply) lit r.powers) r.recorded.recorded.followed.power)
    (lit-has (went (log_of out) done).before s run.next r.supply (subst (λ (p : Power). Supplies p r.supply) lit r.powers) r.recorded.recorded.followed.power number given)
    (untold-to o done (progress (values_of run out) r.supply r.recorded.book) r.recorded.recorded.followed s.number (omega (arith, number)) 0))

-- ---- an `off` line: the trace gives no power
off-behind : (o : Origin) (d : Devices) (log : RunLog) (n : ℕ) (done : List TraceSecond) (next : ℕ) → CardsBehind o done log d → CardsBehind o (done ++ dark (suc n) next) log d
off-behind o d log zero done next h = plain-same o done (record { number = next; has_power = false; speed = 0; actions = [] }) log d (inl refl) h
off-behind o d log (suc n) done next h =
    let s : TraceSecond = record { number = next + suc n; has_power = false; speed = 0; actions = [] } in
    let front : List TraceSecond = dark (suc n) next in
    subst (λ (ss : List TraceSecond). CardsBehind o ss log d) (behind-more done front (dark (suc (suc n)) next) s (off-last (suc n) next))
    (plain-same o (done ++ front) s log d (inl refl) (off-behind o d log n done next h))

-- ---- of a run

module _ (o : Origin) (done : List TraceSecond) (old : Run) (before : Outcome) (d : Devices) (h : RunCarded o done old before d) (low : first_second ≤ old.next) where
  abbrev r : RunRecorded o done old before d
  r = h.ringed.evented.recorded

  abbrev p : Progress
  p = progress (values_of old before) r.supply r.recorded.book

  abbrev f : BookFollowsRun (rule_of o) (start_at o) o.from (first_of o) done (progress (values_of old before) h.ringed.evented.recorded.supply h.ringed.evented.recorded.recorded.book)
  f = h.ringed.evented.recorded.recorded.recorded.followed

  -- SO MANY SECONDS without power behind a failed call, the first with these actions
  lost-behind : (speed : ℕ) (actions : List Action) (refused : List Refused) (supply : h.ringed.evented.recorded.supply ≡ IsLost) (some : 0 < old.next % 60) (n : ℕ) → old.next % 60 + suc n ≤ 60 →
      CardsBehind o (done ++ driven (suc n) old.next speed actions) (record (log_of before) { refused = refused }) d
  lost-behind speed actions refused supply some zero within =
      let s : TraceSecond = record { number = old.next; has_power = true; speed = speed; actions = actions } in
      let later : RunLog = record (log_of before) { refused = refused } in
      let goes : GoesOnBy p later s = record { number = refl; given = refl; breaks = ([], sym (append-nil (log_of before).breaks), tt); finds = ([], sym (append-nil (log_of before).finds), tt) } in
      let dark_ : has_power (went later done).before s ≡ false = ap (λ (w : Went). has_power w.before s) (went-refused (log_of before) later refl refl done) ∙ lost-dark (went (log_of before) done).before s (lost o done p f d h.ringed.spans _ h.ringed.ringed supply speed actions refused some) some in
      let l : IsLater (log_of before) later done s.number = record {
        behind = record { same = refused-all (log_of before) later refl refl done; went_is = went-refused (log_of before) later refl refl done };
        more = [];
        breaks = sym (append-nil (log_of before).breaks);
        here = tt;
        early = early-before o done p f s later goes;
        some = omega (arith, low);
      } in
      plain-second o done s (log_of before) later d l (inl dark_) h.cards
  lost-behind speed actions refused supply some (suc n) within =
      let s : TraceSecond = record { number = old.next + suc n; has_power = true; speed = speed; actions = [] } in
      let later : RunLog = record (log_of before) { refused = refused } in
      let front : List TraceSecond = driven (suc n) old.next speed actions in
      subst (λ (ss : List TraceSecond). CardsBehind o ss later d) (behind-more done front (driven (suc (suc n)) old.next speed actions) s (acted-last n old.next speed actions))
      (plain-same o (done ++ front) s later d (inl (away o done p f d h.ringed.spans _ h.ringed.ringed supply speed actions refused some (suc n) s (omega (arith, within)) (omega (arith, within, some)))) (lost-behind speed actions refused supply some n (omega (arith, within))))

  pub dark-carded : (n speed begun : ℕ) (actions : List Action) → 0 < n → has_by old.power old.next ≡ false → old.next % 60 + n ≤ 60 → (new : Run) (after : Outcome) → new ≡ passed n begun old →
      after ≡ record before { refused = with_lines (refused_dark old.next actions) before.refused } → RunCarded o (done ++ driven n old.next speed actions) new after d
  dark-carded zero speed begun actions some away_ fits new after is told = absurd (omega (arith, some))
  dark-carded (suc n) speed begun actions some away_ fits new after is told =
      let none = lost-away old.power old.next away_ in
      let supply : r.supply ≡ IsLost = lost-supply old.power r.supply none.0 r.powers in
      record {
        ringed = dark-ringed o done old before d h.ringed (suc n) speed begun actions some away_ fits new after is told;
        vehicle = ap (λ (x : Run). x.keeper.memory.registration) is ∙ h.vehicle;
        cards = subst (λ (q : Outcome). CardsBehind o (done ++ driven (suc n) old.next speed actions) (log_of q) d) (sym told)
            (subst (λ (l : RunLog). CardsBehind o (done ++ driven (suc n) old.next speed actions) l d) (sym (log-dark before old.next actions))
            (lost-behind speed actions (by_slots before.refused.items ++ refused_dark old.next actions) supply none.1 n fits));
        past = subst (λ (q : Outcome). HaveStoodBehind o (done ++ driven (suc n) old.next speed actions) (log_of q) d) (sym told)
            (subst (λ (l : RunLog). HaveStoodBehind o (done ++ driven (suc n) old.next speed actions) l d) (sym (log-dark before old.next actions))
            (dark-stood o done (driven (suc n) old.next speed actions) (log_of before) (record (log_of before) { refused = by_slots before.refused.items ++ refused_dark old.next actions }) d refl refl h.past));
        speeds = dark-behind o done old before d r h.speeds (suc n) speed begun actions some none fits new after is told;
      }

  -- AN `off` LINE
  pub off-carded : (old.power ≡ Lit → (low : ℕ) × CabinIsSound low None old.keeper.cabin) → (n : ℕ) → 0 < n → (breaks : Listed Break) → breaks ≡ with_lines (off_cut (is_lit old.power) (old.next - 1) old.begun) before.breaks → (new : Run) → new ≡ off_run n old → RunCarded o (done ++ dark n old.next) new (record before { breaks = breaks }) d
  off-carded sits zero some breaks told new is = absurd (omega (arith, some))
  off-carded sits (suc n) some breaks told new is = record {
    ringed = off-ringed o done old before d h.ringed sits (suc n) some breaks told new is;
    vehicle = ap (λ (x : Run). x.keeper.memory.registration) is ∙ ap (λ (m : UnitFacts). m.registration) (off-memory (is_lit old.power) old) ∙ h.vehicle;
    cards = subst (λ (l : Listed Break). CardsBehind o (done ++ dark (suc n) old.next) (log_of (record before { breaks = l })) d) (sym told) (by old.power refl r.supply refl r.powers);
    past = subst (λ (l : Listed Break). HaveStoodBehind o (done ++ dark (suc n) old.next) (log_of (record before { breaks = l })) d) (sym told) (past-by old.power refl r.supply refl r.powers);
    speeds = off-speeds o done old before d r h.speeds (suc n) breaks told new is;
  }
    where
      plain : CardsBehind o (done ++ dark (suc n) old.next) (log_of (record before { breaks = with_lines [] before.breaks })) d
      plain = subst (λ (l : Listed Break). CardsBehind o (done ++ dark (suc n) old.next) (log_of (record before { breaks = l })) d) (no-lines before.breaks) (off-behind o d (log_of before) n done old.next h.cards)

      so : (q : Power) (s : UnitPower) → r.supply ≡ s → Supplies q s → CardsBehind o (done ++ dark (suc n) old.next) (log_of (record before { breaks = with_lines (off_cut (is_lit q) (old.next - 1) old.begun) before.breaks })) d
      so Lit (IsLit []) at powers = absurd powers
      so Lit (IsLit (t ∷ span)) at powers =
          off-behind o d (and_break (log_of before) (cut_at (old.next - 1) false old.begun)) n done old.next
          (off-cut-cards (rule_of o) (start_at o) o.from (first_of o) done p t span (with-supply (rule_of o) (start_at o) o.from (first_of o) done p (IsLit (t ∷ span)) at f) (omega (arith, low)) o d h.cards)
      so Lit IsDue at powers = absurd powers
      so Lit IsLost at powers = absurd powers
      so Due (IsLit span) at powers = absurd powers
      so Due IsDue at powers = plain
      so Due IsLost at powers = absurd powers
      so Lost (IsLit span) at powers = absurd powers
      so Lost IsDue at powers = absurd powers
      so Lost IsLost at powers = plain

      by : (q : Power) → old.power ≡ q → (s : UnitPower) → r.supply ≡ s → Supplies old.power s → CardsBehind o (done ++ dark (suc n) old.next) (log_of (record before { breaks = with_lines (off_cut (is_lit old.power) (old.next - 1) old.begun) before.breaks })) d
      by q is_ s at powers =
          subst (λ (x : Power). CardsBehind o (done ++ dark (suc n) old.next) (log_of (record before { breaks = with_lines (off_cut (is_lit x) (old.next - 1) old.begun) before.breaks })) d) (sym is_)
          (so q s at (subst (λ (x : Power). Supplies x s) is_ powers))

      plain-past : HaveStoodBehind o (done ++ dark (suc n) old.next) (log_of (record before { breaks = with_lines [] before.breaks })) d
      plain-past = subst (λ (l : Listed Break). HaveStoodBehind o (done ++ dark (suc n) old.next) (log_of (record before { breaks = l })) d) (no-lines before.breaks) (dark-stood o done (dark (suc n) old.next) (log_of before) (log_of before) d refl refl h.past)

      past-so : (q : Power) (s : UnitPower) → r.supply ≡ s → Supplies q s → HaveStoodBehind o (done ++ dark (suc n) old.next) (log_of (record before { breaks = with_lines (off_cut (is_lit q) (old.next - 1) old.begun) before.breaks })) d
      past-so Lit (IsLit []) at powers = absurd powers
      past-so Lit (IsLit (t ∷ span)) at powers = off-stood o done p t span (with-supply (rule_of o) (start_at o) o.from (first_of o) done p (IsLit (t ∷ span)) at f) (omega (arith, low)) (dark (suc n) old.next) d h.past
      past-so Lit IsDue at powers = absurd powers
      past-so Lit IsLost at powers = absurd powers
      past-so Due (IsLit span) at powers = absurd powers
      past-so Due IsDue at powers = plain-past
      past-so Due IsLost at powers = absurd powers
      past-so Lost (IsLit span) at powers = absurd powers
      past-so Lost IsDue at powers = absurd powers
      past-so Lost IsLost at powers = plain-past

      past-by : (q : Power) → old.power ≡ q → (s : UnitPower) → r.supply ≡ s → Supplies old.power s → HaveStoodBehind o (done ++ dark (suc n) old.next) (log_of (record before { breaks = with_lines (off_cut (is_lit old.power) (old.next - 1) old.begun) before.breaks })) d
      past-by q is_ s at powers =
          subst (λ (x : Power). HaveStoodBehind o (done ++ dark (suc n) old.next) (log_of (record before { breaks = with_lines (off_cut (is_lit x) (old.next - 1) old.begun) before.breaks })) d) (sym is_)
          (past-so q s at (subst (λ (x : Power). Supplies x s) is_ powers))

-- ---- behind all actions of a second seconds turn over

at-turn : (o : Origin) (done : List TraceSecond) (s : TraceSecond) (begun : ℕ) (run : Run) (out : Outcome) (d : Devices) → length s.actions ≡ begun → 0 < s.number → (b : Bool) → is_lit run.power ≡ b → InSecondCardedBy b o done s begun run out d →
    InSecondRinged o done s begun run out d × (run.keeper.memory.registration ≡ vehicle_in o) × CardsAtBy b o done s begun run out d
at-turn o done s begun run out d many some true lit h =
    let w = h.ringed.evented.within in (
      in-ringed_lit o done s run out d begun h.ringed,
      h.vehicle,
      (
        w,
        to-began o done s (In begun) [] None [] (values_of run out) d w.within some s.actions
            (subst (λ (front : List Action). CardsIn o done s (log_of out) front (log_of out) d) (first-are s.actions s.actions [] begun (sym (append-nil s.actions)) many) h.cards),
      ),
    )
at-turn o done s begun run out d many some false dark_ h = (in-ringed_cut o done s run out d begun h.ringed, h.vehicle, (h.ringed.evented.cut, h.cards))

pub turned-carded : {all : List TraceSecond} (o : Origin) (done : List TraceSecond) (s : TraceSecond) (n speed begun : ℕ) (old new : Run) (before after : Outcome) (d e : Devices) → length s.actions ≡ begun → 0 < s.number → InSecondCarded o done s begun old before d →
    IsTurnOf (is_lit old.power) n speed begun old new before after → (InSecondRinged o done s begun old before d → RunRinged o all new after e) → (CardsAtBy (is_lit old.power) o done s begun old before d → CardsBehind o all (log_of after) e) →
    (RunRinged o all new after e → HaveStoodBehind o all (log_of after) e) → SpeedsBehind o all new after e → RunCarded o all new after e
turned-carded o done s n speed begun old new before after d e many some h turned ringed cards past speeds =
    let at = at-turn o done s begun old before d many some (is_lit old.power) refl h in
    record {
      ringed = ringed at.0;
      vehicle = ap (λ (m : UnitFacts). m.registration) (turn-memory (is_lit old.power) n speed begun old new before after turned) ∙ at.1;
      cards = cards at.2;
      past = past (ringed at.0);
      speeds = speeds;
    }
