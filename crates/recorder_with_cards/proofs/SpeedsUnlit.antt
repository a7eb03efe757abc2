-- What seconds without power leave of detailed speed, and an `off` line.
use Rattle.std.proofs.Common.{◌≡◌, ◌∙◌, ℕ, zero, suc, ◌+◌, ◌-◌, ◌%◌, ◌<◌, ◌≤◌, true, false, is_some, List, [], ◌∷◌, ◌++◌, length, refl, sym, ap, subst, arith, append-nil, append_assoc, length-append}
use Rattle.std.specs.List.{AllByRecursion}
use Rattle.trace_model.specs.declared.Action.{Action}
use Rattle.trace_model.specs.Trace.{TraceSecond, driven, dark}
use Rattle.log_model.specs.declared.lines.Break.{Break}
use Rattle.log_model.specs.declared.lines.Refused.{Refused}
use Rattle.log_model.specs.Log.{RunLog}
use Rattle.log_model.specs.Course.{Went, went}
use Rattle.log_model.specs.Spans.{AreInOrder}
use Rattle.log_model.proofs.Spanning.{order-parts}
use Rattle.log_model.specs.ByHand.{by_slots}
use Rattle.run_acts.specs.speed_model.Blocks.{blocks_in}
use Rattle.device_calls.specs.safety_model.Safe.{Devices}
use Rattle.device_calls.specs.run_unit_course.Lines.{cut_at}
use Rattle.device_calls.specs.run_unit_course.Followed.{UnitPower, Lit as IsLit, Due as IsDue, Lost as IsLost}
use Rattle.run_acts.specs.run_course.Moments.{and_break}
use Rattle.run_acts.specs.run_course.Followed.{BookFollowsRun, IsSupplied, IsLost as HasLost, HadActions, IsLastOf}
use Rattle.run_acts.proofs.run_course.Logs.{went-refused}
use Rattle.run_minutes.specs.run_promise.Origin.{Origin, rule_of, start_at, first_of}
use Rattle.run_outcome.specs.Lines.{Listed}
use Rattle.run_outcome.specs.declared.outcome.Outcome.{Outcome}
use Rattle.run_minutes.specs.Keeping.{with_lines}
use Rattle.run_minutes.proofs.Fates.{no-lines}
use Rattle.run_acts.specs.run_record.Recorded.{progress}
use Rattle.run_acts.specs.run_speeds.Spans.{speeds_of, speed_spans}
use Rattle.run_acts.proofs.run_speeds.Leaving.{leaves-none}
use Rattle.run_acts.proofs.run_speeds.Spans.{speeds-dark, last-same, SameCut, cuts-before}
use Rattle.run_acts.specs.declared.run.Run.{Run}
use Rattle.run_acts.specs.declared.run.Power.{Power}
use Rattle.run_acts.specs.declared.run.Power.TheVariants.{Lit, Due, Lost}
use Rattle.run_acts.specs.Power.{is_lit, off_run, off_cut, passed}
use Rattle.run_acts.specs.Recording.{log_of, values_of, Supplies, RunRecorded}
use Rattle.run_acts.specs.Speeds.{HasBlocks, SpeedsBehind}
use Rattle.run_acts.proofs.SpeedLogs.{blocks-same}
use Rattle.run_acts.proofs.SpeedsTurn.{one-dark, many-dark}
use Rattle.recorder_with_cards.proofs.SecondsRecorded.{lost-supply}
use Rattle.recorder_with_cards.proofs.SlotLines.{refused_dark, log-dark}
use Rattle.recorder_with_cards.proofs.SpeedsSoFar.{SaysMore, says-lines}

-- ---- an `off` line: the trace gives no power

many-off : (n : ℕ) (log : RunLog) (done : List TraceSecond) (next : ℕ) → speed_spans log (done ++ dark n next) ≡ speed_spans log done
many-off zero log done next = ap (speed_spans log) (append-nil done)
many-off (suc n) log done next =
    let x : TraceSecond = record { number = next; has_power = false; speed = 0; actions = [] } in
    ap (speed_spans log) (sym (append_assoc done (x ∷ []) (dark n (next + 1)))) ∙ many-off n log (done ++ x ∷ []) (next + 1) ∙ speeds-dark log done x refl

module _ (o : Origin) (done : List TraceSecond) (old : Run) (before : Outcome) (d : Devices) (r : RunRecorded o done old before d) (h : SpeedsBehind o done old before d) where
  abbrev log : RunLog
  log = log_of before

  f : BookFollowsRun (rule_of o) (start_at o) o.from (first_of o) done (progress (values_of old before) r.supply r.recorded.book)
  f = r.recorded.recorded.followed

  -- ---- so many seconds without power behind a failed call, the first with these actions

  lost : r.supply ≡ IsLost → HasLost (went log done).before
  lost is = subst (λ (s : UnitPower). IsSupplied s (went log done).before old.next) is f.power

  spans-lost : (speed : ℕ) (actions : List Action) (refused : List Refused) → r.supply ≡ IsLost → 0 < old.next % 60 → (n : ℕ) → old.next % 60 + suc n ≤ 60 →
      speed_spans (record log { refused = refused }) (done ++ driven (suc n) old.next speed actions) ≡ speed_spans log done
  spans-lost speed actions refused is some n few = by n few ∙ one.1 ∙ ap (λ (w : Went). speeds_of w.told) same
    where
      later : RunLog
      later = record log { refused = refused }

      x : TraceSecond
      x = record { number = old.next; has_power = true; speed = speed; actions = actions }

      same : went later done ≡ went log done
      same = went-refused log later refl refl done

      one : HasLost (went later (done ++ x ∷ [])).before × (speed_spans later (done ++ x ∷ []) ≡ speed_spans later done)
      one = one-dark later done x (subst (λ (w : Went). HasLost w.before) (sym same) (lost is)) some refl

      by : (m : ℕ) → old.next % 60 + suc m ≤ 60 → speed_spans later (done ++ driven (suc m) old.next speed actions) ≡ speed_spans later (done ++ x ∷ [])
      by zero le = refl
      by (suc m) le =
          ap (speed_spans later) (sym (append_assoc done (x ∷ []) (driven (suc m) (old.next + 1) speed [])))
          ∙ many-dark (suc m) later (done ++ x ∷ []) (old.next + 1) speed one.0 (omega (arith, some, le)) (omega (arith, some, le))

  pub dark-behind : (n speed begun : ℕ) (actions : List Action) → 0 < n → (away : (old.power ≡ Lost) × (0 < old.next % 60)) → old.next % 60 + n ≤ 60 → (new : Run) (after : Outcome) → new ≡ passed n begun old →
      after ≡ record before { refused = with_lines (refused_dark old.next actions) before.refused } → SpeedsBehind o (done ++ driven n old.next speed actions) new after d
  dark-behind zero speed begun actions some away fits new after is told = absurd (omega (arith, some))
  dark-behind (suc n) speed begun actions some away fits new after is told =
      let later : RunLog = record log { refused = by_slots before.refused.items ++ refused_dark old.next actions } in
      record {
        watched = λ on. absurd (let clash : Lost ≡ Lit = sym (ap (λ (x : Run). x.power) is ∙ away.0) ∙ on in cc);
        blocks = subst (λ (q : Outcome). HasBlocks o (log_of q) (done ++ driven (suc n) old.next speed actions) d) (sym told)
            (subst (λ (l : RunLog). HasBlocks o l (done ++ driven (suc n) old.next speed actions) d) (sym (log-dark before old.next actions))
            (blocks-same o log later (λ u has. has) done (done ++ driven (suc n) old.next speed actions) d d
            (ap blocks_in (spans-lost speed actions (by_slots before.refused.items ++ refused_dark old.next actions) (lost-supply old.power r.supply away.0 r.powers) away.1 n fits)) (leaves-none d.unit) h.blocks));
      }

  -- ---- an `off` line

  -- at the last second before it power was cut: its span has the same seconds
  module _ (t : HadActions done old.begun) where
    abbrev last : TraceSecond
    last = record { number = t.number; has_power = true; speed = t.speed; actions = t.actions }

    abbrev cut_log : RunLog
    cut_log = and_break log (cut_at (old.next - 1) false old.begun)

    says : SaysMore (old.next - 1) log cut_log
    says = says-lines (old.next - 1) log cut_log (cut_at (old.next - 1) false old.begun ∷ [], refl, (refl, tt))

    front-same : AllByRecursion (SameCut log cut_log) t.before
    front-same =
        let parts = order-parts o.from t.before last (subst (AreInOrder o.from) t.are f.order) in
        let long = ap length t.are ∙ length-append t.before (last ∷ []) in
        let next = f.next in
        cuts-before log cut_log o.from (old.next - 1) t.before parts.0 (omega (arith, long, next)) (λ u less. ap is_some (says.cuts u less))

    spans-cut : speed_spans cut_log done ≡ speed_spans log done
    spans-cut = ap (speed_spans cut_log) t.are ∙ last-same log cut_log t.before last front-same ∙ ap (speed_spans log) (sym t.are)

  had : (supply : UnitPower) → Supplies Lit supply → IsLastOf supply done old.begun → HadActions done old.begun
  had (IsLit []) powers _ = absurd powers
  had (IsLit (t ∷ span)) powers last = last
  had IsDue powers _ = absurd powers
  had IsLost powers _ = absurd powers

  plain-off : (n : ℕ) (breaks : Listed Break) → breaks ≡ with_lines [] before.breaks → HasBlocks o (log_of (record before { breaks = breaks })) (done ++ dark n old.next) d
  plain-off n breaks told =
      subst (λ (l : Listed Break). HasBlocks o (log_of (record before { breaks = l })) (done ++ dark n old.next) d) (sym (told ∙ sym (no-lines before.breaks)))
      (blocks-same o log log (λ u has. has) done (done ++ dark n old.next) d d (ap blocks_in (many-off n log done old.next)) (leaves-none d.unit) h.blocks)

  off-blocks : (p : Power) → old.power ≡ p → (n : ℕ) (breaks : Listed Break) → breaks ≡ with_lines (off_cut (is_lit p) (old.next - 1) old.begun) before.breaks → HasBlocks o (log_of (record before { breaks = breaks })) (done ++ dark n old.next) d
  off-blocks Lit on n breaks told =
      let t = had r.supply (subst (λ (p : Power). Supplies p r.supply) on r.powers) f.last in
      subst (λ (l : Listed Break). HasBlocks o (log_of (record before { breaks = l })) (done ++ dark n old.next) d) (sym told)
      (blocks-same o log (cut_log t) (says t).fails done (done ++ dark n old.next) d d (ap blocks_in (many-off n (cut_log t) done old.next ∙ spans-cut t)) (leaves-none d.unit) h.blocks)
  off-blocks Due on n breaks told = plain-off n breaks told
  off-blocks Lost on n breaks told = plain-off n breaks told

  pub off-speeds : (n : ℕ) (breaks : Listed Break) → breaks ≡ with_lines (off_cut (is_lit old.power) (old.next - 1) old.begun) before.breaks → (new : Run) → new ≡ off_run n old → SpeedsBehind o (done ++ dark n old.next) new (record before { breaks = breaks }) d
  off-speeds n breaks told new is = record {
    watched = λ on. absurd (let clash : Due ≡ Lit = sym (ap (λ (x : Run). x.power) is) ∙ on in cc);
    blocks = off-blocks old.power refl n breaks told;
  }
