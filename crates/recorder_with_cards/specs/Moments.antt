-- The moments of a run: what was told by then, and how often each device had broken down as a minute was acknowledged
-- (profile). So no failed call is told later than in the second in which its device acknowledges the next minute.
use Rattle.std.specs.Prelude.{◌≡◌, ◌⊎◌, ℕ, suc, ◌+◌, ◌/◌, ◌<◌, ◌≤◌, true, false, List, [], ◌++◌}
use Rattle.std.specs.Prelude.{All, length, map, filter, take, drop}
use Rattle.std.specs.List.{AllByRecursion}
use Rattle.trace_model.specs.declared.Card.{Card}
use Rattle.trace_model.specs.Trace.{TraceSecond}
use Rattle.log_model.specs.run_model.declared.Device.{Device}
use Rattle.log_model.specs.run_model.declared.Device.TheVariants.{Unit as Recorder}
use Rattle.minute_rules.specs.minute_model.declared.Rule.{Rule}
use Rattle.tach_media.specs.Medium.{State, last_count}
use Rattle.log_model.specs.declared.lines.Break.{Break}
use Rattle.log_model.specs.declared.lines.Find.{Find}
use Rattle.log_model.specs.declared.lines.Mark.{Mark}
use Rattle.log_model.specs.Log.{RunLog}
use Rattle.log_model.specs.Slots.{same_card}
use Rattle.log_model.specs.Causes.{device_of, second_of, cuts, cards_torn}
use Rattle.log_model.specs.Course.{went}
use Rattle.device_calls.specs.history_model.Presence.{Start}
use Rattle.device_calls.specs.history_model.Completeness.{IsComplete}
use Rattle.device_calls.specs.safety_model.Recording.{Recording, start_of}
use Rattle.device_calls.specs.safety_model.Unit.{marks_of}
use Rattle.device_calls.specs.safety_model.Safe.{Devices, card_of, breakdowns_of}
use Rattle.run_outcome.specs.Lines.{with_kept}

-- a break as it is told before it is known what was kept
abbrev pub as_first_told : Break → Break
as_first_told b = with_kept 0 b

-- MORE WAS TOLD since the begin of a second: these breaks and finds stand behind those of before, which are as they
-- were but for what was found kept. No find is of an earlier second, and no break but of the last one before, which an
-- `off` line makes a cut's.
pub record TellsMoreSince (second : ℕ) (log later : RunLog) : Type 0 where
  pub breaks : List Break
  pub finds : List Find
  pub breaks_are : map as_first_told later.breaks ≡ map as_first_told (log.breaks ++ breaks)
  pub finds_are : later.finds ≡ log.finds ++ finds
  pub no_earlier : AllByRecursion (λ (b : Break). second ≤ suc (second_of b)) breaks
  pub found_since : AllByRecursion (λ (f : Find). second ≤ f.second) finds

-- A DEVICE HAD BROKEN DOWN SO OFTEN AT MOST as so many writes were begun on it, by what it tells of each count before.
pub record HadBroken (device : State) (writes most : ℕ) : Type 0 where
  pub begun : writes ≤ device.clock
  pub told : (t n : ℕ) → t < writes → device.broke t n → n ≤ most

-- A MOMENT of a run, behind these seconds, as a second with this number begins. By the log of then, whose breaks are of
-- earlier seconds, and which is that of now but for what was told since, and by the marks of then all is complete: each
-- decided minute is acknowledged, and each entry of a card, but for the exceptions. And no device had broken down more
-- often, as it had begun the writes of one of these marks, than that log tells: the unit no more often than failed
-- calls have cut the power, and a card no more often than one has torn it out.
pub record IsMoment (rule : Rule) (start : Start) (before : Device → ℕ) (done : List TraceSecond) (number : ℕ)
    (log : RunLog) (marks : List Mark) (now : Devices) : Type 0 where
  pub by_then : RunLog
  pub told : TellsMoreSince number by_then log
  pub earlier : AllByRecursion (λ (b : Break). second_of b < number) by_then.breaks
  pub count : ℕ
  pub few : count ≤ length marks
  pub complete : IsComplete rule start by_then (went by_then done).told (take count marks)
  pub unit : now.unit.breakdowns < last_count → All (λ (m : Mark).
      HadBroken now.unit m.clock (before Recorder + length (cuts true by_then))) (marks_of Recorder (take count marks))
  pub cards : now.card_a.breakdowns < last_count → now.card_b.breakdowns < last_count → (c : Card) → All
      (λ (m : Mark). HadBroken (card_of now c) m.clock
      (before (device_of c) + length (filter (same_card c) (cards_torn (went by_then done).told))))
      (marks_of (device_of c) (take count marks))

-- of a trace from this number on, behind so many of its seconds a moment is near another, which is behind so many: it
-- is the same; or it is of the same minute, and no second from it up to the other one has an action; or the trace gave
-- no power since
abbrev pub IsNear : (from : ℕ) → List TraceSecond → (k n : ℕ) → Type 0
IsNear from trace k n = (k ≡ n)
    ⊎ ((((from + k) / 60 ≡ (from + n) / 60)
    × AllByRecursion (λ (s : TraceSecond). s.actions ≡ []) (drop k (take (suc n) trace)))
    ⊎ AllByRecursion (λ (s : TraceSecond). s.has_power ≡ false) (drop k (take n trace)))

-- EACH FAILURE IS TOLD BY THE SECOND IN WHICH ITS DEVICE ACKNOWLEDGES A DECIDED MINUTE: as any second of a run began
-- that has an action, comes behind one that has, or begins a minute, the run had come to such a moment; or since one
-- the trace gave no power. No other second decides a minute.
abbrev pub HasMoments : Rule → Start → (before : Device → ℕ) → (from : ℕ) → List TraceSecond → RunLog → List Mark
    → Devices → Type 0
HasMoments rule start before from trace log marks now = (n : ℕ) → n < length trace → (k : ℕ) × (k ≤ n)
    × IsNear from trace k n × IsMoment rule start before (take k trace) (from + k) log marks now

-- so a run that is over has told each
abbrev pub TellsInTime : Recording → (from : ℕ) → List Mark → (began now : Devices) → Type 0
TellsInTime r from marks began now = HasMoments r.rule (start_of r) (breakdowns_of began) from r.trace r.log marks now
