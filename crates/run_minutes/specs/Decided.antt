-- What the keeping of some decided minutes leaves of unit and cards, over devices that tell their images (profile).
use Rattle.std.specs.Prelude.{◌≡◌, ◌⊎◌, ℕ, ◌+◌, ◌<◌, ◌≤◌, Bool, true, false, Option, List, [], ◌∷◌, All, map}
use Rattle.trace_model.specs.declared.Card.{Card}
use Rattle.unit_model.specs.minute_model.declared.Minute.{Minute}
use Rattle.hand_model.specs.card_image.Own.{IsOwnValid}
use Rattle.run_devices.specs.history_model.Minutes.{HistoryMinute, on_card}
use Rattle.run_devices.specs.device_rule.Rules.{IsPresent}
use Rattle.run_devices.specs.safety_model.Safe.{Devices}
use Rattle.run_devices.specs.run_unit_course.Legs.{Travel, all_travelled}
use Rattle.device_calls.specs.unit_rule.Odometer.{HasTravelled, odometer_after}
use Rattle.run_devices.specs.run_promise.Found.{Found, found_of}
use Rattle.run_devices.specs.Measured.{Reading, reading_at}
use Rattle.run_devices.specs.run_promise.Between.{RunLedger}
use Rattle.run_minutes.specs.declared.keeper.Keeper.{Keeper}
use Rattle.run_minutes.specs.Minutes.{Round, Done, Reach, Whole, Short, KeepingState, present_at, minute_of}
use Rattle.run_minutes.specs.Deeds.{AllKeep, kepts_on}
use Rattle.run_minutes.specs.Books.{AreBooked, AreTimedOn, HaveTime, IsCutIn, carried_after, history_minute}

-- a decided minute as the history has it: with the cards that were present in it, as the slots remember
abbrev pub decided_minute : Keeper → Minute → HistoryMinute
decided_minute k m = history_minute (present_at k.cabin m.minute) (minute_of m k)

-- the odometer value at the end of a decided minute, with its minute
abbrev pub reading_of : Keeper → Minute → Reading
reading_of k m = reading_at m.minute (minute_of m k).odometer.0

-- and those of some minutes, one after another
abbrev pub readings_of : Keeper → List Minute → List Reading
readings_of k decided = map (reading_of k) decided

-- what is carried behind some that are kept
abbrev pub carried_by : Keeper → List Done → RunLedger → RunLedger
carried_by k [] w = w
carried_by k (x ∷ xs) w = carried_by k xs
    (carried_after (present_at k.cabin x.minute.minute) (decided_minute k x.minute) x.round w)

-- Minutes may come, one after another: none is earlier than it may, they are among four that follow one another, and
-- each says something on a card only where that is valid, and present as it stands before them.
pub record MayAllCome (f : Found) (w : RunLedger) (is : List HistoryMinute) : Type 0 where
  pub late : All (λ i. w.due ≤ i.minute) is
  pub first : ℕ
  pub from : All (λ i. first ≤ i.minute) is
  pub few : All (λ i. i.minute < first + 4) is
  pub fits : (c : Card) → All (λ i. (on_card c i ≡ [])
      ⊎ (IsOwnValid (found_of f c).image × IsPresent (found_of f c).start (w.standing c) i.minute)) is

-- WHAT IS ASKED: unit and cards are as the book says, and the minutes may come.
pub record MayBookAll (f : Found) (w : RunLedger) (decided : List Minute) (t : KeepingState) (d : Devices) : Type
    0 where
  pub booked : AreBooked f w t.keeper.cabin.cards t.marks.items d
  pub comes : MayAllCome f w (map (decided_minute t.keeper) decided)

-- how the unit failed in a decided minute: it was not begun, or was; or it is kept, and a card was torn out
abbrev pub IsCutSo : Found → (start : ℕ) → Keeper → Minute → Option Round → RunLedger → Travel → Devices → Type 0
IsCutSo f start k m round w g e = IsCutIn f start w (present_at k.cabin m.minute) (decided_minute k m) g m.travelled
    round e

-- WHAT IS LEFT: unit and cards are as the book says that has all these minutes, and so much was travelled; or the unit
-- failed in one, and all that is carried stands by the book with those before it, and with that one not begun, or
-- begun, or kept.
abbrev pub EndsAll : Found → (start : ℕ) → RunLedger → Keeper → (failed : Bool) → Reach → Travel → (u : KeepingState)
    → Devices → Type 0
EndsAll f start w k false (Whole xs) g u e = AreBooked f (carried_by k xs w) u.keeper.cabin.cards u.marks.items e
    × HasTravelled start (carried_by k xs w).book (all_travelled (map (λ (x : Done). x.minute) xs) g) e.unit
EndsAll f start w k false (Short xs m round) g u e = ⊥
EndsAll f start w k true (Whole xs) g u e = ⊥
EndsAll f start w k true (Short xs m round) g u e = IsCutSo f start k m round (carried_by k xs w)
    (all_travelled (map (λ (x : Done). x.minute) xs) g) e

-- DECIDED MINUTES WERE TO BE KEPT, counted from the odometer that was found when power came last, and it came so far:
-- so they are booked, and the cards keep them.
abbrev pub BooksAll : List Minute → (failed : Bool) → Reach → (t u : KeepingState) → (d e : Devices) → Type 0
BooksAll decided failed reach t u d e = (f : Found) (w : RunLedger) (start : ℕ) (g : Travel)
    → MayBookAll f w decided t d → HasTravelled start w.book g d.unit
    → t.keeper.odometer ≡ odometer_after start g.before → HaveTime e
    → EndsAll f start w t.keeper failed reach g u e × AreTimedOn f (readings_of t.keeper decided) d e
    × (failed ≡ false → AllKeep f (kepts_on t.keeper decided) t.keeper.cabin.cards u.keeper.cabin.cards d e)
