-- Detailed speed, as a run with cards carries it (profile): between two seconds, and within one; and what seconds of
-- one minute bring of it.
use Rattle.std.specs.Prelude.{◌≡◌, ℕ, ◌+◌, ◌-◌, ◌<◌, Bool, true, false, Option, IfSome, option_to_list, List, [], ◌∷◌}
use Rattle.std.specs.Prelude.{◌++◌, length}
use Rattle.trace_model.specs.Trace.{TraceSecond, driven}
use Rattle.tach_media.specs.Medium.{State}
use Rattle.log_model.specs.Log.{RunLog, In}
use Rattle.unit_notes.specs.event_model.Spans.{SpeedSecond, at_speed}
use Rattle.run_events.specs.speed_model.declared.block.Block.{Block}
use Rattle.run_events.specs.speed_model.Blocks.{blocks_of}
use Rattle.run_events.specs.speed_store.Feeding as minute
use Rattle.device_calls.specs.safety_model.Safe.{Devices}
use Rattle.run_minutes.specs.run_promise.Origin.{Origin}
use Rattle.run_events.specs.run_speeds.Speeds.{HasSpeedRing, HasSpeeds, CarriesBlock}
use Rattle.run_events.specs.run_speeds.Spans.{speed_spans, blocks_by, is_sure_block, last_speeds, speeds_before}
use Rattle.run_outcome.specs.declared.outcome.Outcome.{Outcome}
use Rattle.run_minutes.specs.Books.{HaveTime}
use Rattle.run_acts.specs.declared.run.Run.{Run}
use Rattle.run_acts.specs.declared.run.Power.TheVariants.{Lit}
use Rattle.run_acts.specs.Power.{is_lit}
use Rattle.run_acts.specs.Recording.{log_of, IsNow, RunWithin, RunCut}

-- N SECONDS AT A SPEED BRING A BLOCK, or none: the one that the seconds of their power span have more with them. The
-- unit carries it behind those of before, but for one that is not sure, where a call failed; else the speeds that are
-- kept stand for these seconds too.
pub record BringsBlock (n speed : ℕ) (failed : Bool) (old new : Run) (prior unit : State) : Type 0 where
  pub block : Option Block
  pub given : (seconds : List SpeedSecond) → minute.KeepsSpeedsOf old.watch.speeds seconds old.next
      → blocks_of (seconds ++ at_speed old.next n speed) ≡ blocks_of seconds ++ option_to_list block
  pub last : IfSome block (λ b. b.time + 60 ≡ old.next + n)
  pub stands : failed ≡ false → (seconds : List SpeedSecond) → minute.KeepsSpeedsOf old.watch.speeds seconds old.next
      → minute.KeepsSpeedsOf new.watch.speeds (seconds ++ at_speed old.next n speed) (old.next + n)
  pub carries : CarriesBlock block failed prior unit

-- ---- of a run

-- a unit carries the blocks of these seconds, as this log tells them
abbrev pub HasBlocks : Origin → RunLog → List TraceSecond → Devices → Type 0
HasBlocks o log done d = HasSpeedRing o.recording.unit
    → HasSpeeds (is_sure_block log) o.recording.unit o.found.unit.began (blocks_by log done) d.unit

-- BETWEEN TWO SECONDS: with power the speeds of the minute that goes on are kept, and the unit carries the blocks of
-- the seconds so far.
pub record SpeedsBehind (o : Origin) (done : List TraceSecond) (run : Run) (out : Outcome) (d : Devices) : Type 0 where
  pub watched : run.power ≡ Lit → minute.KeepsSpeedsOf run.watch.speeds (last_speeds (speed_spans (log_of out) done))
      run.next
  pub blocks : HasBlocks o (log_of out) done d

-- BEHIND ALL ACTIONS of a second it is so of the seconds before it; or power was cut in it, and it is over.
abbrev pub SpeedsInBy : (lit : Bool) → Origin → List TraceSecond → TraceSecond → (n : ℕ) → Run → Outcome → Devices
    → Type 0
SpeedsInBy true o done s n run out d = RunWithin o done s (In n) [] [] run out d
    × minute.KeepsSpeedsOf run.watch.speeds (speeds_before (log_of out) done) run.next × HasBlocks o (log_of out) done d
SpeedsInBy false o done s n run out d = RunCut o done s run out d × HasBlocks o (log_of out) (done ++ s ∷ []) d

-- N SECONDS of one minute: behind them it is so of all.
abbrev pub SpeedsTurn : (n speed begun : ℕ) → (old new : Run) → (before after : Outcome) → (d e : Devices) → Type 0
SpeedsTurn n speed begun old new before after d e = (o : Origin) (done : List TraceSecond) (s : TraceSecond)
    → IsNow s speed old → length s.actions ≡ begun → (1 < n → s.actions ≡ []) →
    SpeedsInBy (is_lit old.power) o done s begun old before d → HaveTime e
    → SpeedsBehind o (done ++ s ∷ driven (n - 1) (s.number + 1) speed []) new after e
