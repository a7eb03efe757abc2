-- One run with two cards, of 390 seconds from 2010-03-01 08:00:00 on, and the log that it writes: what the rows of this
-- crate are computed of.
use Rattle.std.proofs.Common.{◌≡◌, ℕ, ◌+◌, ◌*◌, ◌-◌, zero, suc, true, false, Some, None, List, [], ◌∷◌, ◌++◌, refl}
use Rattle.activity_codec.specs.declared.values.Slot.{Slot}
use Rattle.activity_codec.specs.declared.values.Slot.TheVariants.{Driver, CoDriver}
use Rattle.activity_codec.specs.declared.values.Pick.TheVariants as pick
use Rattle.trace_model.specs.declared.Card.TheVariants.{A, B}
use Rattle.trace_model.specs.declared.Action.TheVariants.{Select, Insert, Withdraw, Tear, Place, Manual}
use Rattle.trace_model.specs.declared.Item.{Item}
use Rattle.trace_model.specs.declared.Item.TheVariants.{Run, Off, Act}
use Rattle.trace_model.specs.Trace.{TraceSecond, seconds_of}
use Rattle.log_model.specs.declared.lines.Break.TheVariants as break
use Rattle.log_model.specs.declared.lines.Find.{Find}
use Rattle.log_model.specs.declared.lines.Refused.{Refused}
use Rattle.log_model.specs.declared.lines.SlotFault.TheVariants.{Moving, NoPower, NotFree}
use Rattle.log_model.specs.declared.lines.Verdict.{Verdict}
use Rattle.log_model.specs.declared.lines.Verdict.TheVariants.{Accepted, TimeOverlap}
use Rattle.log_model.specs.Log.{RunLog}
use Rattle.log_model.specs.Course.{ToldSecond, went}

-- the first second, and its minute: 2010-03-01 08:00:00
abbrev pub start : ℕ
start = 1267430400

abbrev pub minute : ℕ
minute = 21123840

-- so many seconds later
abbrev pub at : ℕ → ℕ
at n = start + n

-- THE LINES. Both cards are put in; the driver enters the begin of the day in country 13, region 5, and by hand that he
-- worked from 07:50 on. A minute at rest, a minute at 72 km/h. In motion the co-driver's card is not withdrawn, and half
-- a minute later it is pulled out. Power fails for half a minute behind 08:03:59. The co-driver's card is put in again,
-- and a call on it fails as it is judged. At 08:05:00 the driver's card is withdrawn and put in again; an entry by hand
-- is not free, and the driver enters the end of the day. At 08:05:50 a call on the unit fails, and power is gone until
-- 08:06:00; a selection in between is refused. At 08:06:20 the co-driver's card is turned away, since it tells of a later
-- time.
abbrev pub lines : List Item
lines =
    Act (Insert Driver A) ∷ Act (Insert CoDriver B) ∷ Act (Place Driver false 13 5) ∷ Act (Manual Driver pick.Work 470) ∷ Run 60 0
    ∷ Run 60 72 ∷ Act (Withdraw CoDriver) ∷ Run 30 72 ∷ Act (Tear CoDriver) ∷ Run 90 72
    ∷ Off 30 ∷ Act (Insert CoDriver B) ∷ Run 30 0
    ∷ Act (Withdraw Driver) ∷ Act (Insert Driver A) ∷ Act (Manual Driver pick.Rest 475) ∷ Act (Place Driver true 13 7) ∷ Run 55 0
    ∷ Act (Select Driver pick.Rest) ∷ Run 25 0 ∷ Act (Insert CoDriver B) ∷ Run 10 0 ∷ []

abbrev pub seconds : List TraceSecond
seconds = seconds_of start lines

-- a line of a find
abbrev pub finds : (second begun : ℕ) → Slot → Verdict → Find
finds second begun slot verdict = record { second = second; slot = slot; verdict = verdict; begun = begun }

-- a line of a refusal
abbrev pub refusal_of_hand : (second begun : ℕ) → Refused
refusal_of_hand second begun = record { second = second; fault = NotFree 21123845 21123845; begun = begun }

-- THE LOG. Before the first cut the minutes 08:00 and 08:01 were kept, before the second also 08:04.
abbrev pub log : RunLog
log = record {
  breaks =
      break.Tear (at 150) CoDriver false 1 false
      ∷ break.Cut (at 239) 21123841 false 0
      ∷ break.Tear (at 270) CoDriver true 1 false
      ∷ break.Cut (at 350) 21123844 true 0 ∷ [];
  refused =
      record { second = at 120; fault = Moving 72; begun = 1 }
      ∷ record { second = at 355; fault = NoPower; begun = 1 } ∷ [];
  finds =
      finds (at 0) 1 Driver (Accepted 0)
      ∷ finds (at 0) 2 CoDriver (Accepted 0)
      ∷ finds (at 270) 0 Driver (Accepted 0)
      ∷ finds (at 300) 2 Driver (Accepted 0)
      ∷ finds (at 360) 0 Driver (Accepted 0)
      ∷ finds (at 380) 1 CoDriver (TimeOverlap (at 500) (at 380)) ∷ [];
}

-- the line by which a session stops the second entry by hand
abbrev pub stops : List Refused
stops = refusal_of_hand (at 300) 3 ∷ []

-- the seconds as they went
abbrev pub told : List ToldSecond
told = (went log seconds).told

-- the start is a whole minute
start_is_whole : start ≡ 60 * minute
start_is_whole = refl
