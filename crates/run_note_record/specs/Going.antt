-- The events of a run over seconds that are taken at once (profile): without power, of an `off` line, and with power
-- where nothing happens.
use Rattle.std.specs.Prelude.{◌≡◌, ℕ, suc, ◌+◌, ◌-◌, ◌%◌, ◌<◌, ◌≤◌, Bool, true, false, List, [], ◌∷◌, ◌++◌}
use Rattle.std.specs.List.{AllByRecursion}
use Rattle.run_devices.specs.trace_model.declared.Action.{Action}
use Rattle.run_devices.specs.trace_model.Trace.{TraceSecond, driven, dark}
use Rattle.run_devices.specs.log_model.declared.lines.Refused.{Refused}
use Rattle.run_devices.specs.log_model.Log.{RunLog}
use Rattle.run_devices.specs.log_model.Course.{ToldSecond, went}
use Rattle.run_devices.specs.event_model.Events.{Seen, seen_of, seen_spans, is_bare}
use Rattle.run_devices.specs.run_unit_course.Lines.{cut_at}
use Rattle.run_devices.specs.run_unit_course.Followed.{Lit, Due, Lost, IsDark}
use Rattle.run_devices.specs.safety_model.Safe.{Devices}
use Rattle.run_devices.specs.run_course.Moments.{and_break}
use Rattle.run_devices.specs.run_course.Followed.{Progress, BookFollowsRun}
use Rattle.run_devices.specs.run_course.Quiet.{quiet_seconds}
use Rattle.run_events.specs.Seconds.{last_of, bares_by, overs_by, is_fast}
use Rattle.run_devices.specs.run_promise.Origin.{Origin, rule_of, start_at, first_of}
use Rattle.run_note_record.specs.Evented.{limit_in, Evented, EventedBy}

-- ---- without power

-- SECONDS AFTER A FAILED CALL, up to the minute's end: their actions are refused.
abbrev pub DarkSecondsBringNothing : Devices → Type 0
DarkSecondsBringNothing d = (o : Origin) (done : List TraceSecond) (p : Progress)
    → BookFollowsRun (rule_of o) (start_at o) o.from (first_of o) done p → EventedBy o done p d → p.supply ≡ Lost
    → (n speed : ℕ) (actions : List Action) (refused : List Refused) →
    0 < p.next % 60 → p.next % 60 + suc n ≤ 60
    → Evented o (done ++ driven (suc n) p.next speed actions) (record p.log { refused = refused }) p.unfound
    (p.next + suc n) Lost d

-- AN `off` LINE where there is no power brings nothing,
abbrev pub AnOffLineBringsNothing : Devices → Type 0
AnOffLineBringsNothing d = (o : Origin) (done : List TraceSecond) (p : Progress)
    → BookFollowsRun (rule_of o) (start_at o) o.from (first_of o) done p → EventedBy o done p d → IsDark p.supply
    → (n : ℕ) →
    Evented o (done ++ dark (suc n) p.next) p.log p.unfound (p.next + suc n) Due d

-- nor does one that cuts the power.
abbrev pub AnOffLineCutsAndBringsNothing : Devices → Type 0
AnOffLineCutsAndBringsNothing d = (o : Origin) (done : List TraceSecond) (p : Progress)
    → BookFollowsRun (rule_of o) (start_at o) o.from (first_of o) done p → EventedBy o done p d
    → (t : ToldSecond) (span : List ToldSecond) → p.supply ≡ Lit (t ∷ span) → (n : ℕ) →
    Evented o (done ++ dark (suc n) p.next) (and_break p.log (cut_at (p.next - 1) false p.begun)) p.unfound
    (p.next + suc n) Due d

-- ---- with power, where nothing happens

-- seconds of a span in which nothing happens, as their events see them: nothing ends with them
pub record AreQuiet (o : Origin) (log : RunLog) (done more : List TraceSecond) (seen : List Seen) : Type 0 where
  pub are : seen_of log (done ++ more) ≡ seen_of log done ++ seen
  pub bares : bares_by (last_of (seen_spans (seen_of log done))) seen ≡ []
  pub overs : overs_by (limit_in o) (last_of (seen_spans (seen_of log done))) seen ≡ []

-- QUIET SECONDS bring no event where nothing ends with them.
abbrev pub QuietSecondsBringNothing : Devices → Type 0
QuietSecondsBringNothing d = (o : Origin) (done : List TraceSecond) (p : Progress)
    → BookFollowsRun (rule_of o) (start_at o) o.from (first_of o) done p → EventedBy o done p d
    → (t : ToldSecond) (span : List ToldSecond) → p.supply ≡ Lit (t ∷ span) →
    (n speed : ℕ) (seen : List Seen) → AreQuiet o p.log done (driven (suc n) p.next speed []) seen →
    Evented o (done ++ driven (suc n) p.next speed []) p.log p.unfound (p.next + suc n)
    (Lit ((t ∷ span) ++ quiet_seconds (suc n) p.next speed (went p.log done).before.slots)) d

-- NOTHING ENDS with seconds that are all alike, each a bare one if the second before them is, and a fast one if that
-- is.
abbrev pub SecondsAlikeEndNothing : Type 0
SecondsAlikeEndNothing = (limit : ℕ) (front : List Seen) (y : Seen) (xs : List Seen) (bare fast : Bool)
    → AllByRecursion (λ (x : Seen). is_bare x ≡ bare) xs → (is_bare y ≡ true → bare ≡ true) →
    AllByRecursion (λ (x : Seen). is_fast limit x ≡ fast) xs → (is_fast limit y ≡ true → fast ≡ true)
    → (bares_by (front ++ y ∷ []) xs ≡ []) × (overs_by limit (front ++ y ∷ []) xs ≡ [])
