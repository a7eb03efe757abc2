-- What is recorded of a run with cards, as the functions of its loop say it (profile).
use Rattle.std.specs.Prelude.{◌≡◌, ◌+◌, ◌≤◌, ℕ, Bool, true, false, Result, Ok, Err, List, [], ◌∷◌, ◌++◌, length}
use Rattle.std.specs.Prelude.{flat_map}
use Rattle.trace_model.specs.declared.Action.{Action}
use Rattle.trace_model.specs.declared.Item.{Item}
use Rattle.trace_model.specs.declared.Item.TheVariants.{Run as Driven, Off, Act}
use Rattle.trace_model.specs.Trace.{TraceSecond, driven, seconds_at}
use Rattle.device_calls.specs.safety_model.Safe.{Devices}
use Rattle.run_minutes.specs.run_promise.Origin.{Origin}
use Rattle.run_minutes.specs.Books.{HaveTime}
use Rattle.run_opening.specs.declared.fault.RunFault.{RunFault}
use Rattle.run_outcome.specs.declared.outcome.Outcome.{Outcome}
use Rattle.run_acts.specs.declared.run.Run.{Run}
use Rattle.run_acts.specs.Going.{largest_number}
use Rattle.run_acts.specs.Recording.{IsNow}
use Rattle.run_acts.specs.Evented.{LastAt}
use Rattle.run_acts.specs.RunRinged.{RunRinged, InSecondRinged}

-- an item's action, where it is one
abbrev pub action_of : Item → List Action
action_of (Driven seconds speed) = []
action_of (Off seconds) = []
action_of (Act action) = action ∷ []

-- the actions among items
abbrev pub actions_in : List Item → List Action
actions_in items = flat_map action_of items

-- ---- what calls carry on, whatever that is

-- what is carried within a second, behind so many of its actions
abbrev pub Inside : Type 1
Inside = Origin → List TraceSecond → TraceSecond → (n : ℕ) → Run → Outcome → Devices → Type 0

-- what is carried between two seconds
abbrev pub Between : Type 1
Between = Origin → List TraceSecond → Run → Outcome → Devices → Type 0

-- A SECOND HAS BEGUN to which the trace gives power: it has power, or had it as it began; or there is none up to the
-- next minute. A unit that tells its image refuses none.
abbrev pub HasBegunBy : Between → Inside → Result Bool RunFault → Origin → List TraceSecond → TraceSecond → Run
    → Outcome → Devices → Type 0
HasBegunBy R I (Ok true) o done s run out d = I o done s 0 run out d
HasBegunBy R I (Ok false) o done s run out d = R o done run out d
HasBegunBy R I (Err fault) o done s run out d = ⊥

-- so it is, whatever is carried, of the next second of a run
abbrev pub BeginsBy : Between → Inside → Result Bool RunFault → (speed : ℕ) → (old new : Run) → (before after : Outcome)
    → (d e : Devices) → Type 0
BeginsBy R I result speed old new before after d e = (o : Origin) (done : List TraceSecond) (s : TraceSecond)
    → IsNow s speed old → R o done old before d → HaveTime e → HasBegunBy R I result o done s new after e

-- SOME ACTIONS of a second with power, one after another, behind those before them: it goes on, or power is cut in it.
abbrev pub ActsBy : Inside → List Action → (begun speed : ℕ) → (old new : Run) → (before after : Outcome)
    → (d e : Devices) → Type 0
ActsBy I actions begun speed old new before after d e = (o : Origin) (done : List TraceSecond) (s : TraceSecond)
    → IsNow s speed old →
    (front rest : List Action) → s.actions ≡ front ++ (actions ++ rest) → begun ≡ length front + length actions
    → I o done s (length front) old before d → HaveTime e → I o done s begun new after e

-- behind these seconds all is carried; a unit that tells its image refuses none
abbrev pub HasRunBy : Between → Result (Unit {0}) RunFault → Origin → List TraceSecond → Run → Outcome → Devices
    → Type 0
HasRunBy R (Ok done_) o done run out d = R o done run out d
HasRunBy R (Err fault) o done run out d = ⊥

-- SO MANY SECONDS at one speed, the first with these actions
abbrev pub SecondsBy : Between → Result (Unit {0}) RunFault → (seconds speed : ℕ) → List Action → (old new : Run)
    → (before after : Outcome) → (d e : Devices) → Type 0
SecondsBy R result seconds speed actions old new before after d e = (o : Origin) (done : List TraceSecond)
    → R o done old before d → HaveTime e
    → HasRunBy R result o (done ++ driven seconds old.next speed actions) new after e

-- AN ITEM, where these actions wait for their second, so few that a line of the outcome can tell their number
abbrev pub ItemBy : Between → Result (Unit {0}) RunFault → Item → List Action → (old new : Run)
    → (before after : Outcome) → (d e : Devices) → Type 0
ItemBy R result item waiting old new before after d e = (o : Origin) (done : List TraceSecond)
    → length waiting ≤ largest_number → R o done old before d → HaveTime e
    → HasRunBy R result o (done ++ seconds_at old.next waiting item) new after e

-- ---- what is recorded, with its events and rings

-- a second begins
abbrev pub BeginsRinged : Result Bool RunFault → (speed : ℕ) → (old new : Run) → (before after : Outcome)
    → (d e : Devices) → Type 0
BeginsRinged result speed old new before after d e = BeginsBy RunRinged InSecondRinged result speed old new before after
    d e

-- actions of a second are carried out
abbrev pub RingsActions : List Action → (begun speed : ℕ) → (old new : Run) → (before after : Outcome) → (d e : Devices)
    → Type 0
RingsActions actions begun speed old new before after d e = ActsBy InSecondRinged actions begun speed old new before
    after d e

-- seconds at one speed are over
abbrev pub RingsSeconds : Result (Unit {0}) RunFault → (seconds speed : ℕ) → List Action → (old new : Run)
    → (before after : Outcome) → (d e : Devices) → Type 0
RingsSeconds result seconds speed actions old new before after d e = SecondsBy RunRinged result seconds speed actions
    old new before after d e

-- so many seconds more without actions, behind one at their speed
abbrev pub RingsMore : Result (Unit {0}) RunFault → (seconds speed : ℕ) → (old new : Run) → (before after : Outcome)
    → (d e : Devices) → Type 0
RingsMore result seconds speed old new before after d e = (o : Origin) (done : List TraceSecond) → LastAt done speed
    → RunRinged o done old before d → HaveTime e
    → HasRunBy RunRinged result o (done ++ driven seconds old.next speed []) new after e

-- an item is over
abbrev pub RingsItem : Result (Unit {0}) RunFault → Item → List Action → (old new : Run) → (before after : Outcome)
    → (d e : Devices) → Type 0
RingsItem result item waiting old new before after d e = ItemBy RunRinged result item waiting old new before after d e
