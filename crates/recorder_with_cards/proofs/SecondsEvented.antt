-- What seconds of a run leave of its events: without power, and of an `off` line.
use Rattle.std.proofs.Common.{◌≡◌, ◌∙◌, ℕ, zero, suc, ◌+◌, ◌-◌, ◌%◌, ◌<◌, ◌≤◌, Bool, true, false, None, List, [], ◌∷◌, ◌++◌, refl, ap, sym, subst, arith, append_assoc}
use Rattle.std.proofs.lemmas.List.{append-nil}
use Rattle.trace_model.specs.declared.Action.{Action}
use Rattle.trace_model.specs.Trace.{TraceSecond, driven, dark}
use Rattle.log_model.specs.declared.lines.Break.{Break}
use Rattle.log_model.specs.declared.lines.Refused.{Refused}
use Rattle.log_model.specs.ByHand.{by_slots}
use Rattle.log_model.specs.Log.{RunLog}
use Rattle.device_calls.specs.run_unit_course.Followed.{UnitPower, IsDark, Lit as IsLit, Due as IsDue, Lost as IsLost}
use Rattle.device_calls.specs.safety_model.Safe.{Devices}
use Rattle.run_acts.specs.run_course.Followed.{Progress}
use Rattle.run_outcome.specs.declared.outcome.Outcome.{Outcome}
use Rattle.run_outcome.specs.Lines.{Listed}
use Rattle.run_minutes.specs.Keeping.{with_lines}
use Rattle.run_minutes.specs.run_promise.Origin.{Origin}
use Rattle.run_acts.specs.run_record.Recorded.{progress}
use Rattle.run_acts.specs.run_note_record.Evented.{Evented}
use Rattle.run_acts.proofs.run_note_record.Unlit.{dark-seconds, off-line, off-line_cuts}
use Rattle.run_minutes.specs.unit_memory.declared.memory.UnitFacts.{UnitFacts}
use Rattle.run_acts.specs.declared.run.Run.{Run}
use Rattle.run_acts.specs.declared.run.Power.{Power}
use Rattle.run_acts.specs.declared.run.Power.TheVariants.{Lit, Due, Lost}
use Rattle.run_acts.specs.run_crew.Cabin.{CabinIsSound}
use Rattle.run_acts.specs.Power.{is_lit, has_power, darkened, off_run, off_cut, passed}
use Rattle.run_acts.specs.Recording.{log_of, values_of, Supplies, RunRecorded}
use Rattle.run_acts.specs.Evented.{RunEvented, LastAt}
use Rattle.run_minutes.proofs.Fates.{no-lines}
use Rattle.recorder_with_cards.proofs.SecondsRecorded.{lost-away, lost-supply, dark-run, off-seconds}
use Rattle.recorder_with_cards.proofs.SlotLines.{refused_dark, log-dark}

due-supply : (p : Power) (supply : UnitPower) → p ≡ Due → Supplies p supply → supply ≡ IsDue
due-supply Lit supply is powers = absurd (cc)
due-supply Lost supply is powers = absurd (cc)
due-supply Due (IsLit span) is powers = absurd powers
due-supply Due IsDue is powers = refl
due-supply Due IsLost is powers = absurd powers

dark-limit : (b : Bool) (run : Run) → (darkened b run).keeper.memory ≡ run.keeper.memory
dark-limit true run = refl
dark-limit false run = refl

dark-unfound : (b : Bool) (run : Run) → (darkened b run).unfound ≡ run.unfound
dark-unfound true run = refl
dark-unfound false run = refl

module _ (o : Origin) (done : List TraceSecond) (old : Run) (before : Outcome) (d : Devices) (h : RunEvented o done old before d) where
  abbrev r : RunRecorded o done old before d
  r = h.recorded

  abbrev p : Progress
  p = progress (values_of old before) r.supply r.recorded.book

  -- SO MANY SECONDS without power, the first with these actions
  pub dark-evented : (n speed begun : ℕ) (actions : List Action) → 0 < n → has_power old.power old.next ≡ false → old.next % 60 + n ≤ 60 → (new : Run) (after : Outcome) → new ≡ passed n begun old →
      after ≡ record before { refused = with_lines (refused_dark old.next actions) before.refused } → RunEvented o (done ++ driven n old.next speed actions) new after d
  dark-evented zero speed begun actions some away fits new after is told = absurd (omega (arith, some))
  dark-evented (suc n) speed begun actions some away fits new after is told =
      let lost = lost-away old.power old.next away in
      let supply : r.supply ≡ IsLost = lost-supply old.power r.supply lost.0 r.powers in
      let power : new.power ≡ Lost = ap (λ (x : Run). x.power) is ∙ lost.0 in
      let on = dark-run o done old before d r (suc n) speed begun actions some away fits new after is told in
      let off : on.supply ≡ IsLost = lost-supply new.power on.supply power on.powers in
      let lines : List Refused = by_slots before.refused.items ++ refused_dark old.next actions in
      let one : Evented o (done ++ driven (suc n) old.next speed actions) (record (log_of before) { refused = lines }) old.unfound (old.next + suc n) IsLost d =
      dark-seconds d o done p r.recorded.recorded.followed h.evented supply n speed actions lines lost.1 fits in
      record {
        recorded = on;
        evented = subst (λ (s : UnitPower). Evented o (done ++ driven (suc n) old.next speed actions) (log_of after) new.unfound new.next s d) (sym off)
            (subst (λ (x : Run). Evented o (done ++ driven (suc n) old.next speed actions) (log_of after) x.unfound x.next IsLost d) (sym is)
            (subst (λ (q : Outcome). Evented o (done ++ driven (suc n) old.next speed actions) (log_of q) old.unfound (old.next + suc n) IsLost d) (sym told)
            (subst (λ (l : RunLog). Evented o (done ++ driven (suc n) old.next speed actions) l old.unfound (old.next + suc n) IsLost d) (sym (log-dark before old.next actions)) one)));
        limit = ap (λ (x : Run). x.keeper.memory.limit) is ∙ h.limit;
        watched = λ lit. absurd (let bad : Lost ≡ Lit = sym power ∙ lit in cc);
      }

  -- AN `off` LINE
  pub off-evented : (old.power ≡ Lit → (low : ℕ) × CabinIsSound low None old.keeper.cabin) → (n : ℕ) → 0 < n → (breaks : Listed Break) → breaks ≡ with_lines (off_cut (is_lit old.power) (old.next - 1) old.begun) before.breaks → (new : Run) → new ≡ off_run n old → RunEvented o (done ++ dark n old.next) new (record before { breaks = breaks }) d
  off-evented sits zero some breaks told new is = absurd (omega (arith, some))
  off-evented sits (suc n) some breaks told new is =
      let on = off-seconds o done old before d r sits (suc n) some breaks told new is in
      let power : new.power ≡ Due = ap (λ (x : Run). x.power) is in
      let due : on.supply ≡ IsDue = due-supply new.power on.supply power on.powers in
      let unfound : new.unfound ≡ old.unfound = ap (λ (x : Run). x.unfound) is ∙ dark-unfound (is_lit old.power) old in
      let next : new.next ≡ old.next + suc n = ap (λ (x : Run). x.next) is in
      record {
        recorded = on;
        evented = subst (λ (s : UnitPower). Evented o (done ++ dark (suc n) old.next) (log_of (record before { breaks = breaks })) new.unfound new.next s d) (sym due)
            (subst (λ (k : ℕ). Evented o (done ++ dark (suc n) old.next) (log_of (record before { breaks = breaks })) k new.next IsDue d) (sym unfound)
            (subst (λ (k : ℕ). Evented o (done ++ dark (suc n) old.next) (log_of (record before { breaks = breaks })) old.unfound k IsDue d) (sym next)
            (subst (λ (l : Listed Break). Evented o (done ++ dark (suc n) old.next) (log_of (record before { breaks = l })) old.unfound (old.next + suc n) IsDue d) (sym told)
            (by old.power refl r.supply refl r.powers))));
        limit = ap (λ (x : Run). x.keeper.memory.limit) is ∙ ap (λ (m : UnitFacts). m.limit) (dark-limit (is_lit old.power) old) ∙ h.limit;
        watched = λ lit. absurd (let bad : Due ≡ Lit = sym power ∙ lit in cc);
      }
    where
      plain : Evented o (done ++ dark (suc n) old.next) (log_of before) old.unfound (old.next + suc n) IsDue d → Evented o (done ++ dark (suc n) old.next) (log_of (record before { breaks = with_lines [] before.breaks })) old.unfound (old.next + suc n) IsDue d
      plain e = subst (λ (l : Listed Break). Evented o (done ++ dark (suc n) old.next) (log_of (record before { breaks = l })) old.unfound (old.next + suc n) IsDue d) (no-lines before.breaks) e

      so : (q : Power) (s : UnitPower) → r.supply ≡ s → Supplies q s → Evented o (done ++ dark (suc n) old.next) (log_of (record before { breaks = with_lines (off_cut (is_lit q) (old.next - 1) old.begun) before.breaks })) old.unfound (old.next + suc n) IsDue d
      so Lit (IsLit []) at powers = absurd powers
      so Lit (IsLit (t ∷ span)) at powers = off-line_cuts d o done p r.recorded.recorded.followed h.evented t span at n
      so Lit IsDue at powers = absurd powers
      so Lit IsLost at powers = absurd powers
      so Due (IsLit span) at powers = absurd powers
      so Due IsDue at powers = plain (off-line d o done p r.recorded.recorded.followed h.evented (subst IsDark (sym at) tt) n)
      so Due IsLost at powers = absurd powers
      so Lost (IsLit span) at powers = absurd powers
      so Lost IsDue at powers = absurd powers
      so Lost IsLost at powers = plain (off-line d o done p r.recorded.recorded.followed h.evented (subst IsDark (sym at) tt) n)

      by : (q : Power) → old.power ≡ q → (s : UnitPower) → r.supply ≡ s → Supplies old.power s → Evented o (done ++ dark (suc n) old.next) (log_of (record before { breaks = with_lines (off_cut (is_lit old.power) (old.next - 1) old.begun) before.breaks })) old.unfound (old.next + suc n) IsDue d
      by q is_ s at powers =
          subst (λ (x : Power). Evented o (done ++ dark (suc n) old.next) (log_of (record before { breaks = with_lines (off_cut (is_lit x) (old.next - 1) old.begun) before.breaks })) old.unfound (old.next + suc n) IsDue d) (sym is_)
          (so q s at (subst (λ (x : Power). Supplies x s) is_ powers))

-- ---- more seconds at one speed

-- the last of them has it
pub last-more : (n number speed : ℕ) (done : List TraceSecond) → LastAt done speed → LastAt (done ++ driven n number speed []) speed
last-more zero number speed done last = subst (λ (ss : List TraceSecond). LastAt ss speed) (sym (append-nil done)) last
last-more (suc n) number speed done last =
    let s : TraceSecond = record { number = number; has_power = true; speed = speed; actions = [] } in
    subst (λ (ss : List TraceSecond). LastAt ss speed) (append_assoc done (s ∷ []) (driven n (number + 1) speed [])) (last-more n (number + 1) speed (done ++ s ∷ []) (done, s, refl, refl))
