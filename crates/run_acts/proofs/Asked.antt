-- What the slots of a run allow, the slots of the log allow; and then a card sits there.
use Rattle.std.proofs.Common.{◌≡◌, ◌∙◌, ℕ, Option, Some, None, List, ◌++◌, refl, sym, subst}
use Rattle.activity_codec.specs.declared.values.Slot.{Slot}
use Rattle.activity_codec.specs.declared.values.Slot.TheVariants.{Driver, CoDriver}
use Rattle.trace_model.specs.declared.Action.{Action}
use Rattle.trace_model.specs.declared.Action.TheVariants.{Withdraw, Tear as Pull}
use Rattle.trace_model.specs.Trace.{TraceSecond}
use Rattle.unit_model.specs.minute_model.declared.Minute.{Minute}
use Rattle.log_model.specs.Log.{Phase}
use Rattle.log_model.specs.Slots.{refusal}
use Rattle.log_model.specs.Course.{Visit}
use Rattle.device_calls.specs.safety_model.Safe.{Devices}
use Rattle.run_crew.specs.card_slots.declared.seats.Seat.{Seat}
use Rattle.run_crew.specs.card_slots.Calls.{Seats, seat_in, card_in, logged}
use Rattle.run_crew.proofs.card_slots.Refusing.{refuse-alike}
use Rattle.run_events.proofs.run_course.Presence.{slots-agree}
use Rattle.run_minutes.specs.run_promise.Origin.{Origin, start_at}
use Rattle.run_record.specs.Recorded.{Values}
use Rattle.run_record.specs.Within.{told_before, course_in, RecordInSecond}

pub allowed-in : (o : Origin) (done : List TraceSecond) (s : TraceSecond) (at : Phase) (waits : List Visit) (speed : Option ℕ) (rest : List Minute) (v : Values) (d : Devices) (w : RecordInSecond o done s at waits speed rest v d) (now : ℕ) (a : Action) → s.speed ≡ now →
    refusal (logged v.cabin.slots.seats) now a ≡ None → refusal (course_in w.b done s at v.log).slots s.speed a ≡ None
allowed-in o done s at waits speed rest v d w now a is allowed =
    let c = course_in w.b done s at v.log in
    refuse-alike v.cabin.slots.seats c.slots s.speed a (slots-agree (start_at o) (told_before w.b done) (w.b.run.book.sure ++ w.new) c.left s.number w.from c.slots v.cabin.slots w.tells)
    ∙ subst (λ (n : ℕ). refusal (logged v.cabin.slots.seats) n a ≡ None) (sym is) allowed

no-card : (seat : Option Seat) → card_in seat ≡ None → seat ≡ None
no-card None is = refl
no-card (Some seat) is = absurd (some is)
  where
    some : Some seat.card ≡ None → ⊥
    some e = cc

none-pulled : (seats : Seats) (slot : Slot) (speed : ℕ) → seat_in seats slot ≡ None → refusal (logged seats) speed (Pull slot) ≡ None → ⊥
none-pulled seats Driver speed is allowed = by seats.driver is allowed
  where
    by : (seat : Option Seat) → seat ≡ None → refusal (logged (record seats { driver = seat })) speed (Pull Driver) ≡ None → ⊥
    by None e h = cc
    by (Some s) e h = cc
none-pulled seats CoDriver speed is allowed = by seats.codriver is allowed
  where
    by : (seat : Option Seat) → seat ≡ None → refusal (logged (record seats { codriver = seat })) speed (Pull CoDriver) ≡ None → ⊥
    by None e h = cc
    by (Some s) e h = cc

none-withdrawn : (seats : Seats) (slot : Slot) (speed : ℕ) → seat_in seats slot ≡ None → refusal (logged seats) speed (Withdraw slot) ≡ None → ⊥
none-withdrawn seats Driver speed is allowed = by seats.driver is allowed
  where
    by : (seat : Option Seat) → seat ≡ None → refusal (logged (record seats { driver = seat })) speed (Withdraw Driver) ≡ None → ⊥
    by None e h = cc
    by (Some s) e h = cc
none-withdrawn seats CoDriver speed is allowed = by seats.codriver is allowed
  where
    by : (seat : Option Seat) → seat ≡ None → refusal (logged (record seats { codriver = seat })) speed (Withdraw CoDriver) ≡ None → ⊥
    by None e h = cc
    by (Some s) e h = cc

-- a card is pulled out where one sits,
pub pulls-one : (seats : Seats) (slot : Slot) (speed : ℕ) → refusal (logged seats) speed (Pull slot) ≡ None → card_in (seat_in seats slot) ≡ None → ⊥
pulls-one seats slot speed allowed is = none-pulled seats slot speed (no-card (seat_in seats slot) is) allowed

-- and withdrawn
pub withdraws-one : (seats : Seats) (slot : Slot) (speed : ℕ) → refusal (logged seats) speed (Withdraw slot) ≡ None → card_in (seat_in seats slot) ≡ None → ⊥
withdraws-one seats slot speed allowed is = none-withdrawn seats slot speed (no-card (seat_in seats slot) is) allowed
