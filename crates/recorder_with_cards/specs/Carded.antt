-- What a run with cards carries of the events that its cards show, beside its rings (profile): between two seconds, and
-- within one. The vehicle is that of the unit's image at the start.
use Rattle.std.specs.Prelude.{◌≡◌, ◌++◌, ◌+◌, ◌<◌, ◌≤◌, ℕ, Bool, true, false, Result, List, [], ◌∷◌, take}
use Rattle.trace_model.specs.declared.Action.{Action}
use Rattle.trace_model.specs.declared.Item.{Item}
use Rattle.trace_model.specs.Trace.{TraceSecond, driven}
use Rattle.tach_media.specs.Medium.{last_count}
use Rattle.log_model.specs.declared.lines.Break.{Break}
use Rattle.log_model.specs.run_model.declared.Device.{Device}
use Rattle.log_model.specs.run_model.declared.Device.TheVariants.{Unit as Recorder, CardA, CardB}
use Rattle.device_calls.specs.safety_model.Safe.{Devices}
use Rattle.run_minutes.specs.run_promise.Origin.{Origin, rule_of, start_at}
use Rattle.run_minutes.specs.Later.{failed_tears}
use Rattle.run_outcome.specs.Broken.{failed_cuts}
use Rattle.run_minutes.specs.Books.{HaveTime}
use Rattle.run_opening.specs.declared.fault.RunFault.{RunFault}
use Rattle.run_outcome.specs.declared.outcome.Outcome.{Outcome}
use Rattle.run_acts.specs.declared.run.Run.{Run}
use Rattle.run_acts.specs.Power.{is_lit}
use Rattle.run_acts.specs.Recording.{log_of}
use Rattle.run_acts.specs.Evented.{LastAt}
use Rattle.run_acts.specs.RunRinged.{RunRinged, WithinRinged, CutRinged}
use Rattle.run_acts.specs.RunCards.{vehicle_in, CardsBehind, CardsIn}
use Rattle.run_acts.specs.Stood.{HaveStood, HaveStoodBehind}
use Rattle.run_acts.specs.Speeds.{SpeedsBehind}
use Rattle.recorder_with_cards.specs.Moments.{HasMoments}
use Rattle.recorder_with_cards.specs.Recorded.{BeginsBy, ActsBy, SecondsBy, HasRunBy, ItemBy}

-- BETWEEN TWO SECONDS: each card shows the events of these seconds, and what was exact on it before the first failed
-- call stands; and the unit carries their blocks of detailed speed
pub record RunCarded (o : Origin) (done : List TraceSecond) (run : Run) (out : Outcome) (d : Devices) : Type 0 where
  pub ringed : RunRinged o done run out d
  pub vehicle : run.keeper.memory.registration ≡ vehicle_in o
  pub cards : CardsBehind o done (log_of out) d
  pub past : HaveStoodBehind o done (log_of out) d
  pub speeds : SpeedsBehind o done run out d

-- THE DEVICES HAVE BROKEN DOWN no more often than these breaks tell, as long as their counts stand below their last
-- values: the unit than failed calls have cut the power, and both cards together than failed calls have torn one out.
pub record HasBrokenSo (before : Device → ℕ) (breaks : List Break) (d : Devices) : Type 0 where
  pub unit : d.unit.breakdowns < last_count → d.unit.breakdowns ≤ before Recorder + failed_cuts breaks
  pub cards : d.card_a.breakdowns < last_count → d.card_b.breakdowns < last_count
      → d.card_a.breakdowns + d.card_b.breakdowns ≤ (before CardA + before CardB) + failed_tears breaks

-- BETWEEN TWO SECONDS: and as each of these seconds began, the run had come to a moment near it, at which it was
-- complete, with each failed call told
pub record RunMoments (o : Origin) (done : List TraceSecond) (out : Outcome) (d : Devices) : Type 0 where
  pub counts : HasBrokenSo o.breakdowns out.breaks.items d
  pub moments : HasMoments (rule_of o) (start_at o) o.breakdowns o.from done (log_of out) out.marks.items d

-- BETWEEN TWO SECONDS, all of it
pub record RunTimely (o : Origin) (done : List TraceSecond) (run : Run) (out : Outcome) (d : Devices) : Type 0 where
  pub carded : RunCarded o done run out d
  pub timely : RunMoments o done out d

-- WITHIN A SECOND, while there is power, behind so many of its actions: and of these
pub record WithinCarded (o : Origin) (done : List TraceSecond) (s : TraceSecond) (n : ℕ) (run : Run) (out : Outcome)
    (d : Devices) : Type 0 where
  pub ringed : WithinRinged o done s n run out d
  pub vehicle : run.keeper.memory.registration ≡ vehicle_in o
  pub cards : CardsIn o done s (log_of out) (take n s.actions) (log_of out) d
  pub past : HaveStood o done (log_of out) d

-- and where power was cut in it: it is over
pub record CutCarded (o : Origin) (done : List TraceSecond) (s : TraceSecond) (run : Run) (out : Outcome)
    (d : Devices) : Type 0 where
  pub ringed : CutRinged o done s run out d
  pub vehicle : run.keeper.memory.registration ≡ vehicle_in o
  pub cards : CardsBehind o (done ++ s ∷ []) (log_of out) d
  pub past : HaveStoodBehind o (done ++ s ∷ []) (log_of out) d

-- IN A SECOND, behind so many of its actions
abbrev pub InSecondCardedBy : (lit : Bool) → Origin → List TraceSecond → TraceSecond → (n : ℕ) → Run → Outcome → Devices
    → Type 0
InSecondCardedBy true o done s n run out d = WithinCarded o done s n run out d
InSecondCardedBy false o done s n run out d = CutCarded o done s run out d

-- with power, or cut, as the run has it
abbrev pub InSecondCarded : Origin → List TraceSecond → TraceSecond → (n : ℕ) → Run → Outcome → Devices → Type 0
InSecondCarded o done s n run out d = InSecondCardedBy (is_lit run.power) o done s n run out d

-- ---- as the functions of the loop say it

-- a second begins
abbrev pub BeginsCarded : Result Bool RunFault → (speed : ℕ) → (old new : Run) → (before after : Outcome)
    → (d e : Devices) → Type 0
BeginsCarded result speed old new before after d e = BeginsBy RunCarded InSecondCarded result speed old new before after
    d e

-- actions of a second are carried out
abbrev pub CardsActions : List Action → (begun speed : ℕ) → (old new : Run) → (before after : Outcome) → (d e : Devices)
    → Type 0
CardsActions actions begun speed old new before after d e = ActsBy InSecondCarded actions begun speed old new before
    after d e

-- seconds at one speed are over
abbrev pub CardsSeconds : Result (Unit {0}) RunFault → (seconds speed : ℕ) → List Action → (old new : Run)
    → (before after : Outcome) → (d e : Devices) → Type 0
CardsSeconds result seconds speed actions old new before after d e = SecondsBy RunTimely result seconds speed actions
    old new before after d e

-- so many seconds more without actions, behind one at their speed
abbrev pub CardsMore : Result (Unit {0}) RunFault → (seconds speed : ℕ) → (old new : Run) → (before after : Outcome)
    → (d e : Devices) → Type 0
CardsMore result seconds speed old new before after d e = (o : Origin) (done : List TraceSecond) → LastAt done speed
    → RunTimely o done old before d → HaveTime e
    → HasRunBy RunTimely result o (done ++ driven seconds old.next speed []) new after e

-- an item is over
abbrev pub CardsItem : Result (Unit {0}) RunFault → Item → List Action → (old new : Run) → (before after : Outcome)
    → (d e : Devices) → Type 0
CardsItem result item waiting old new before after d e = ItemBy RunTimely result item waiting old new before after d e
