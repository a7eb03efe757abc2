-- What a run leaves on a card on which no call failed, where none on the unit did (profile): exactly what its stays in
-- the slots make of it, one for each acceptance that the log tells, withdrawn where the run notes that, and nowhere
-- else. And that what stood on a card before the first call that failed on it, or on the unit, stands.
use Rattle.std.specs.Prelude.{List, All}
use Rattle.std.specs.List.{AllByRecursion}
use Rattle.activity_codec.specs.declared.entries.Entry.{Entry}
use Rattle.trace_model.specs.declared.Card.{Card}
use Rattle.trace_model.specs.declared.Card.TheVariants.{A, B}
use Rattle.log_model.specs.declared.lines.Mark.{Mark}
use Rattle.log_model.specs.Causes.{device_of}
use Rattle.device_calls.specs.history_model.Completeness.{IsMarked}
use Rattle.device_calls.specs.card_image.Own.{own_sizes, IsOwnValid}
use Rattle.device_calls.specs.safety_model.Recording.{Recording, card_image, brought, start_of}
use Rattle.device_calls.specs.safety_model.Safe.{Devices, card_of, breakdowns_of}
use Rattle.run_minutes.specs.run_promise.Whole.{NothingFailed}
use Rattle.run_acts.specs.run_note_record.Uses.{vehicle_of}
pub use Rattle.run_acts.specs.run_note_record.Uses.{NothingFailedOn}
use Rattle.run_acts.specs.Stays.{Stay, TellsBefores, acceptances_told, AreMerged, start_shown, AreOwed, judged_told}
use Rattle.run_acts.specs.Stays.{judged_in}
use Rattle.run_acts.specs.Stood.{HasExactStays, StoodExactly}
use Rattle.run_acts.specs.Owed.{IsOwed}

-- EACH ENTRY that was owed at it has its mark
abbrev pub IsAcknowledgedSo : List Mark → Card → Stay → Type 0
IsAcknowledgedSo marks c s = All (λ (e : Entry). IsMarked marks (device_of c) e.minute) s.owed

-- THE STAYS OF A CARD: each image that a stop may leave of it has exactly what they make of that at the start
-- (`exact`); and each entry that was owed as a stay began has a mark of the card (`acknowledged`).
pub record LeavesStays (r : Recording) (marks : List Mark) (c : Card) (now : Devices) : Type 0 where
  pub exact : HasExactStays r c (card_of now c).may_leave
  pub acknowledged : AllByRecursion (IsAcknowledgedSo marks c) exact.stays

-- SO IT IS OF EACH CARD on which no call failed, whatever the other did.
abbrev pub HaveTheirStays : Recording → List Mark → (began now : Devices) → Type 0
HaveTheirStays r marks began now = (c : Card) → NothingFailedOn r c began → LeavesStays r marks c now

-- THE STAYS OF BOTH CARDS (`own`): each of those lines is the next of the one card's or of the other's (`judged`). THE
-- VEHICLE BEFORE of each insertion, as every image that a stop may leave of the unit tells it, is the newest vehicle
-- entry of what the card's stays before it make of its image at the start: in the order in which the log tells the
-- acceptances, one entry each, the oldest giving way (`befores`). WHAT WAS OWED AT EACH, in order, is all that the unit
-- had of the card, at the start and by the minutes since, that is later than the end mark of what the card showed by
-- then, and nothing else: of the minutes since, only those behind whose end a `tear` line pulled this card out before
-- they were decided, or, where the second of the acceptance decides them, in that second and before it (`owes`).
pub record LeaveStays (r : Recording) (marks : List Mark) (now : Devices) : Type 0 where
  pub own : (c : Card) → LeavesStays r marks c now
  pub judged : AreMerged (judged_told r.log) (judged_in (own A).exact.stays (own A).exact.since)
      (judged_in (own B).exact.stays (own B).exact.since)
  pub befores : TellsBefores r.unit (acceptances_told r.log) (vehicle_of r.unit) (card_image r)
      (λ (c : Card). (own c).exact.stays) now.unit
  pub owes : (c : Card) → AreOwed (IsOwed r.rule (start_of r) r.log r.trace c (brought r c).owed) (vehicle_of r.unit)
      (own_sizes (card_image r c)).activity (own c).exact.stays (start_shown (card_image r c))

-- so it is where no call failed on either
abbrev pub HasAllStays : Recording → List Mark → Devices → Type 0
HasAllStays r marks now = NothingFailed r.log → LeaveStays r marks now

-- WHAT STOOD ON A CARD BEFORE THE FIRST CALL THAT FAILED ON IT, or on the unit, STANDS, of each that was valid at the
-- start, whatever failed.
abbrev pub HaveStoodExactly : Recording → (began now : Devices) → Type 0
HaveStoodExactly r began now = (c : Card) → IsOwnValid (card_image r c)
    → StoodExactly r c (card_of began c).clock (breakdowns_of began (device_of c)) (card_of now c)
