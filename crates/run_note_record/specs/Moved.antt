-- WHICH CARDS A RUN PUTS IN AND TAKES OUT, each with its second (profile): an action puts a card into a slot, and power
-- that begins puts in anew each card that stands in one; an action withdraws a card that was accepted.
use Rattle.std.specs.Prelude.{ℕ, ◌+◌, Bool, true, false, not, Option, Some, None, List, [], ◌∷◌, ◌++◌, map}
use Rattle.std.specs.Prelude.{Contains, if◌then◌else◌}
use Rattle.run_devices.specs.trace_model.declared.Action.{Action}
use Rattle.run_devices.specs.trace_model.declared.Action.TheVariants.{Insert, Withdraw}
use Rattle.run_devices.specs.trace_model.declared.Card.{Card}
use Rattle.run_devices.specs.trace_model.Trace.{TraceSecond}
use Rattle.run_devices.specs.log_model.declared.lines.SlotFault.{SlotFault}
use Rattle.run_devices.specs.log_model.Log.{RunLog, cut_in}
use Rattle.run_devices.specs.log_model.Slots.{Slots, in_slot, refusal}
use Rattle.run_devices.specs.log_model.Course.{Course, Before, card_in, begins, acted, has_power, second_told}
use Rattle.run_devices.specs.log_model.Course.{before_next, not_begun, went}
use Rattle.run_devices.specs.note_model.Done.{course_powered}
use Rattle.run_devices.specs.note_model.Noted.{accepted_card}

-- a move: the second in which a card is put in, or meets power in its slot; or is taken out, where `out` is set
pub record Move : Type 0 where
  pub second : ℕ
  pub card : Card
  pub out : Bool

-- a card is put in in this second, or meets power in its slot
abbrev pub goes_in : (second : ℕ) → Card → Move
goes_in u card = record { second = u; card = card; out = false }

-- a card is taken out in this second
abbrev pub goes_out : (second : ℕ) → Card → Move
goes_out u card = record { second = u; card = card; out = true }

-- by these moves a card is put in in a second
abbrev pub IsPutIn : List Move → Card → (second : ℕ) → Type 0
IsPutIn moves c u = Contains moves (goes_in u c)

-- what an action moves: one that is refused moves nothing
abbrev pub moves_of : (second : ℕ) → Option SlotFault → Action → Slots → List Move
moves_of u (Some fault) a slots = []
moves_of u None (Insert slot card) slots = goes_in u card ∷ []
moves_of u None (Withdraw slot) slots = map (λ card. goes_out u card) (accepted_card (in_slot slots slot))
moves_of u None a slots = []

-- what these move that have begun, one after another, with n before them
abbrev pub moves_from : RunLog → TraceSecond → (n : ℕ) → List Action → Course → List Move
moves_from log s n [] c = []
moves_from log s n (a ∷ actions) c =
    (if begins (cut_in log s.number) n then moves_of s.number (refusal c.slots s.speed a) a c.slots else [])
    ++ moves_from log s (n + 1) actions (acted log s n a c)

-- what power moves that begins in a second
abbrev pub woken : (starts : Bool) → (second : ℕ) → Slots → List Move
woken false u slots = []
woken true u slots =
    map (λ card. goes_in u card) (card_in slots.driver) ++ map (λ card. goes_in u card) (card_in slots.codriver)

-- what a second with power moves, up to these of its actions
abbrev pub moves_to : RunLog → Before → TraceSecond → (front : List Action) → List Move
moves_to log before s front = woken (not before.running) s.number before.slots
    ++ moves_from log s 0 front (course_powered log before s)

-- what a second moves
abbrev pub moves_by : RunLog → Before → TraceSecond → List Move
moves_by log before s = if has_power before s then moves_to log before s s.actions else []

-- what these seconds move, one after another, where the first has this to know of those before it
abbrev pub moves_behind : RunLog → Before → List TraceSecond → List Move
moves_behind log before [] = []
moves_behind log before (s ∷ ss) = moves_by log before s
    ++ moves_behind log (before_next before (second_told log before s)) ss

-- ALL CARDS THAT A RUN PUT IN OR TOOK OUT
unfoldable pub moves_in : RunLog → List TraceSecond → List Move
moves_in log ss = moves_behind log not_begun.before ss

-- those of the seconds before one, and its own so far, where the log was this as it began
abbrev pub moves_so_far : (began : RunLog) → List TraceSecond → (log : RunLog) → TraceSecond → (front : List Action)
    → List Move
moves_so_far began done log s front = moves_in began done ++ moves_to log (went began done).before s front
