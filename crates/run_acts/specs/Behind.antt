-- What the withdrawal of a card leaves of unit and cards, over devices that tell their images (profile).
use Rattle.std.specs.Prelude.{◌≡◌, ℕ, Bool, true, false, Option, Some, None, List, map}
use Rattle.trace_model.specs.declared.Card.{Card}
use Rattle.unit_model.specs.minute_model.declared.Minute.{Minute}
use Rattle.device_calls.specs.device_rule.Rules.{Out}
use Rattle.device_calls.specs.run_unit_course.Legs.{Travel, all_travelled}
use Rattle.device_calls.specs.unit_rule.Odometer.{HasTravelled, odometer_after}
use Rattle.device_calls.specs.safety_model.Safe.{Devices}
use Rattle.run_crew.specs.declared.cards.Cards.{Cards}
use Rattle.run_minutes.specs.run_promise.Found.{Found}
use Rattle.run_minutes.specs.run_promise.Between.{RunLedger}
use Rattle.run_minutes.specs.run_devices.Told.{DevicesPowered, DevicesUnpowered, with_standing}
use Rattle.run_minutes.specs.declared.keeper.Keeper.{Keeper}
use Rattle.run_minutes.specs.Minutes.{KeepingState, Done, Reach, Whole, Short}
use Rattle.run_minutes.specs.Books.{AreBooked, HaveTime}
use Rattle.run_minutes.specs.Decided.{MayBookAll, EndsAll, carried_by}
use Rattle.run_acts.specs.Acting.{Closing, Bare, Closed, Fell}

-- what is carried behind the closing of a card's session: it is not accepted any more
abbrev pub carried_closed : Closing → Card → RunLedger → RunLedger
carried_closed Bare card w = w
carried_closed Closed card w = with_standing card Out w
carried_closed Fell card w = with_standing card Out w

-- unit and cards with power, or behind a failure of the unit
abbrev pub IsPoweredOrOff : (failed : Bool) → Found → RunLedger → Cards → Devices → Type 0
IsPoweredOrOff false f w cards d = DevicesPowered f w cards d
IsPoweredOrOff true f w cards d = DevicesUnpowered f w d

-- A CARD IS WITHDRAWN: these minutes are kept, and then its session is closed, so that unit and cards are as the book
-- says that has these minutes, and the card is not accepted any more, and so much was travelled; or the unit failed in
-- the keeping, or in a note behind.
abbrev pub IsWithdrawnTo : Found → (start : ℕ) → RunLedger → Keeper → Card → (failed : Bool) → Reach → Option Closing
    → Travel → KeepingState → Devices → Type 0
IsWithdrawnTo f start w k card false (Whole xs) (Some closing) g u e =
    AreBooked f (carried_closed closing card (carried_by k xs w)) u.keeper.cabin.cards u.marks.items e
    × HasTravelled start (carried_by k xs w).book (all_travelled (map (λ (x : Done). x.minute) xs) g) e.unit
IsWithdrawnTo f start w k card true (Whole xs) (Some closing) g u e =
    DevicesUnpowered f (carried_closed closing card (carried_by k xs w)) e
    × HasTravelled start (carried_by k xs w).book (all_travelled (map (λ (x : Done). x.minute) xs) g) e.unit
IsWithdrawnTo f start w k card true (Short xs m round) None g u e = EndsAll f start w k true (Short xs m round) g u e
IsWithdrawnTo f start w k card false (Whole xs) None g u e = ⊥
IsWithdrawnTo f start w k card false (Short xs m round) closing g u e = ⊥
IsWithdrawnTo f start w k card true (Whole xs) None g u e = ⊥
IsWithdrawnTo f start w k card true (Short xs m round) (Some closing) g u e = ⊥

-- THE CARD OF A SLOT WAS TO BE WITHDRAWN, and what that settles came so far: so it is booked.
abbrev pub BooksWithdrawn : Card → List Minute → (failed : Bool) → Reach → Option Closing → (t u : KeepingState)
    → (d e : Devices) → Type 0
BooksWithdrawn card decided failed reach closing t u d e = (f : Found) (w : RunLedger) (start : ℕ) (g : Travel)
    → MayBookAll f w decided t d → HasTravelled start w.book g d.unit
    → t.keeper.odometer ≡ odometer_after start g.before → HaveTime e
    → IsWithdrawnTo f start w t.keeper card failed reach closing g u e
