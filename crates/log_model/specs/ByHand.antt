-- The entries by hand of a run (profile): which of them the slots let pass, why a session stops one, and which were
-- done.
use Rattle.std.specs.Prelude.{ℕ, ◌+◌, ◌*◌, ◌/◌, Bool, true, false, not, ◌&&◌, Option, Some, None, List, [], ◌∷◌, ◌++◌}
use Rattle.std.specs.Prelude.{map, filter, nat_eq, nat_lt, nat_le, if◌then◌else◌}
use Rattle.std.specs.List.{list_any}
use Rattle.activity_codec.specs.declared.values.Slot.{Slot}
use Rattle.activity_codec.specs.declared.values.Pick.{Pick}
use Rattle.trace_model.specs.declared.Action.{Action}
use Rattle.trace_model.specs.declared.Action.TheVariants.{Manual}
use Rattle.trace_model.specs.Trace.{TraceSecond}
use Rattle.log_model.specs.declared.lines.SlotFault.{SlotFault}
use Rattle.log_model.specs.declared.lines.SlotFault.TheVariants.{Begun, NotFree, Full}
use Rattle.log_model.specs.declared.lines.Refused.{Refused}
use Rattle.log_model.specs.Log.{RunLog, In, cut_in}
use Rattle.log_model.specs.Slots.{Slots, Sitting, in_slot, refusal}
use Rattle.log_model.specs.Course.{Course, Before, begins, acted, both_told, unmoved, fresh, has_power, second_told}
use Rattle.log_model.specs.Course.{before_next, not_begun}

-- an entry by hand that the slots let pass: its second, how many actions of that had begun, it included, the slot and
-- the card that sits there, what is entered, and the minute from which on it holds
pub record Asked : Type 0 where
  pub second : ℕ
  pub begun : ℕ
  pub slot : Slot
  pub sitting : Sitting
  pub pick : Pick
  pub minute : ℕ

-- this minute of the day of a second, counted from 1970-01-01 00:00
abbrev pub minute_on : (second minute : ℕ) → ℕ
minute_on second minute = second / 86400 * 1440 + minute

-- what sits in a slot, as a list
abbrev pub sitting_in : Option Sitting → List Sitting
sitting_in None = []
sitting_in (Some x) = x ∷ []

-- what an action asks that has n before it
abbrev pub asks : (second n : ℕ) → Option SlotFault → Action → Slots → List Asked
asks u n (Some r) a slots = []
asks u n None (Manual slot pick minute) slots =
    map (λ x. record { second = u; begun = n + 1; slot = slot; sitting = x; pick = pick; minute = minute_on u minute })
    (sitting_in (in_slot slots slot))
asks u n None a slots = []

-- what these actions ask, with n before them
abbrev pub asked_by : RunLog → TraceSecond → ℕ → List Action → Course → List Asked
asked_by log s n [] c = []
asked_by log s n (a ∷ actions) c =
    (if begins (cut_in log s.number) n then asks s.number n (refusal c.slots s.speed a) a c.slots else [])
    ++ asked_by log s (n + 1) actions (acted log s n a c)

-- what a second asks
abbrev pub asked_in : RunLog → Before → TraceSecond → List Asked
asked_in log before s =
    if has_power before s
    then asked_by log s 0 s.actions (both_told log s.number (In 0) (unmoved (not before.running))
    (fresh (not before.running) before.slots))
    else []

-- what these seconds ask, one after another, where the first has this to know of those before it
abbrev pub asked_from : RunLog → Before → List TraceSecond → List Asked
asked_from log before [] = []
asked_from log before (s ∷ ss) = asked_in log before s
    ++ asked_from log (before_next before (second_told log before s)) ss

-- THE ENTRIES BY HAND that a run asks of its sessions
unfoldable pub asked_of : RunLog → List TraceSecond → List Asked
asked_of log ss = asked_from log not_begun.before ss

-- WHY A SESSION STOPS ONE, if it does: with the first minute that it has kept, the newest minute of the card and of its
-- entries by hand, the minute of its insertion, and how many entries by hand it holds.
abbrev pub stopped_by : (kept : Option ℕ) → (newest inserted held : ℕ) → (minute : ℕ) → Option SlotFault
stopped_by (Some first) newest inserted held minute = Some (Begun first)
stopped_by None newest inserted held minute =
    if nat_lt newest minute && nat_lt minute inserted then (if nat_le 8 held then Some (Full held) else None)
    else Some (NotFree newest inserted)

-- it is a session that refused, and not the slots or the power
abbrev pub is_stop : SlotFault → Bool
is_stop (Begun first) = true
is_stop (NotFree newest inserted) = true
is_stop (Full held) = true
is_stop fault = false

-- the refusals of sessions
abbrev pub stops : List Refused → List Refused
stops refused = filter (λ r. is_stop r.fault) refused

-- the refusals by the slots, the speed or want of power, by which alone the course of a run goes
abbrev pub by_slots : List Refused → List Refused
by_slots refused = filter (λ r. not (is_stop r.fault)) refused

-- an entry by hand is stopped by one of these lines
abbrev pub is_stopped : List Refused → Asked → Bool
is_stopped lines a = list_any (λ r. nat_eq r.second a.second && nat_eq r.begun a.begun) lines

-- THE ENTRIES BY HAND THAT WERE DONE, where these refusals are told
abbrev pub done_by_hand : List Refused → List Asked → List Asked
done_by_hand refused asked = filter (λ a. not (is_stopped (stops refused) a)) asked
