-- What the keeping of a turn leaves of unit and cards, over devices that tell their images (profile).
use Rattle.std.specs.Prelude.{◌≡◌, ℕ, Bool, true, false, List, map}
use Rattle.unit_model.specs.minute_model.declared.Minute.{Minute}
use Rattle.device_calls.specs.run_unit_course.Legs.{Travel, all_travelled}
use Rattle.device_calls.specs.unit_rule.Odometer.{HasTravelled, odometer_after}
use Rattle.device_calls.specs.safety_model.Safe.{Devices}
use Rattle.run_minutes.specs.run_promise.Found.{Found}
use Rattle.run_minutes.specs.run_promise.Between.{RunLedger}
use Rattle.run_minutes.specs.run_devices.Told.{DevicesUnpowered}
use Rattle.run_outcome.specs.declared.outcome.Outcome.{Outcome}
use Rattle.run_minutes.specs.declared.keeper.Keeper.{Keeper}
use Rattle.run_minutes.specs.declared.keeper.Moment.{Moment}
use Rattle.run_minutes.specs.Minutes.{Done, Reach, Whole, Short, KeepingState, IsReach}
use Rattle.run_minutes.specs.Deeds.{AllKeep, kepts_on}
use Rattle.run_minutes.specs.Books.{AreBooked, HaveTime, AreTimedOn}
use Rattle.run_minutes.specs.Decided.{MayBookAll, EndsAll, carried_by, readings_of}
use Rattle.run_acts.specs.declared.run.Run.{Run}
use Rattle.run_acts.specs.Devices.{DevicesGoOn}
use Rattle.run_acts.specs.Turning.{IsLitTurn, late_moment, told_of}

-- HOW FAR A TURN CAME with the minutes that it decides: all are kept, whether the note behind them failed or not; or
-- the unit failed in one.
abbrev pub IsTurnReach : List Minute → Moment → (failed : Bool) → (t u : KeepingState) → Reach → Type 0
IsTurnReach decided at failed t u (Whole xs) = IsReach decided at false t u (Whole xs)
IsTurnReach decided at failed t u (Short xs m round) = IsReach decided at failed t u (Short xs m round)

-- WHAT IS LEFT: unit and cards are as the book says that has all these minutes, and so much was travelled; or the unit
-- failed in the note behind them, or in one of them.
abbrev pub IsTurnBooked : Found → (start : ℕ) → RunLedger → Keeper → (failed : Bool) → Reach → Travel
    → (u : KeepingState) → Devices → Type 0
IsTurnBooked f start w k false (Whole xs) g u e = AreBooked f (carried_by k xs w) u.keeper.cabin.cards u.marks.items e
    × HasTravelled start (carried_by k xs w).book (all_travelled (map (λ (x : Done). x.minute) xs) g) e.unit
IsTurnBooked f start w k true (Whole xs) g u e = DevicesUnpowered f (carried_by k xs w) e
    × HasTravelled start (carried_by k xs w).book (all_travelled (map (λ (x : Done). x.minute) xs) g) e.unit
IsTurnBooked f start w k failed (Short xs m round) g u e = EndsAll f start w k failed (Short xs m round) g u e

-- A TURN'S MINUTES WERE TO BE KEPT, and it came so far: so they are booked, and the cards keep them.
abbrev pub BooksTurn : List Minute → (failed : Bool) → Reach → (t u : KeepingState) → (d e : Devices) → Type 0
BooksTurn decided failed reach t u d e = (f : Found) (w : RunLedger) (start : ℕ) (g : Travel)
    → MayBookAll f w decided t d → HasTravelled start w.book g d.unit
    → t.keeper.odometer ≡ odometer_after start g.before → HaveTime e
    → IsTurnBooked f start w t.keeper failed reach g u e × AreTimedOn f (readings_of t.keeper decided) d e
    × (failed ≡ false → AllKeep f (kepts_on t.keeper decided) t.keeper.cabin.cards u.keeper.cabin.cards d e)

-- N SECONDS WITH POWER, booked: by how they went, and how far their minutes came; and unit and cards go on
abbrev pub IsBookedTurn : (n speed begun : ℕ) → (old new : Run) → (before after : Outcome) → (d e : Devices) → Type 0
IsBookedTurn n speed begun old new before after d e = (turn : IsLitTurn n speed begun old new before after)
    × (reach : Reach)
    × IsTurnReach turn.decided (late_moment old.next n begun) turn.failed (told_of turn.fed before)
    (told_of turn.between turn.told) reach
    × BooksTurn turn.decided turn.failed reach (told_of turn.fed before) (told_of turn.between turn.told) d e
    × DevicesGoOn turn.failed old.keeper.cabin.cards turn.between.keeper.cabin.cards d e
    × (turn.between.keeper.odometer ≡ old.keeper.odometer)
