-- How each second of a run went, by the trace and the run log (profile).
use Rattle.std.specs.Prelude.{ℕ, ◌+◌, ◌%◌, Bool, true, false, not, ◌&&◌, ◌||◌, Option, Some, None, List, [], ◌∷◌, ◌++◌}
use Rattle.std.specs.Prelude.{map, nat_eq, nat_lt, if◌then◌else◌, is_some, option_map, fold, flat_map}
use Rattle.std.specs.List.{list_any}
use Rattle.activity_codec.specs.declared.values.Slot.{Slot}
use Rattle.activity_codec.specs.declared.values.Slot.TheVariants.{Driver, CoDriver}
use Rattle.activity_codec.specs.declared.values.Pick.{Pick}
use Rattle.activity_codec.specs.Activity.{same_slot}
use Rattle.trace_model.specs.declared.Card.{Card}
use Rattle.trace_model.specs.declared.Action.{Action}
use Rattle.trace_model.specs.declared.Action.TheVariants.{Select, Insert, Withdraw, Tear, Place, Manual}
use Rattle.trace_model.specs.Trace.{TraceSecond}
use Rattle.run_model.specs.minute_model.Second.{Second}
use Rattle.log_model.specs.declared.lines.SlotFault.{SlotFault}
use Rattle.log_model.specs.declared.lines.SlotFault.TheVariants.{NoPower}
use Rattle.log_model.specs.declared.lines.Verdict.{Verdict}
use Rattle.log_model.specs.Log.{RunLog, Phase, In, Keeping, cut_in, is_torn_in, found_in, is_accepting}
use Rattle.log_model.specs.Slots.{Slots, Sitting, in_slot, refusal}

-- a card in a slot, at a moment of a second
pub record Visit : Type 0 where
  pub phase : Phase
  pub slot : Slot
  pub card : Card

-- a second as far as it has gone: its selections, the cards that left or lost power, those that a `tear` line pulled
-- and those that a failed call tore out, those that entered and what was found of them, the refusals, each with the
-- number of actions that had begun, the refused one included, whether there was a settling, and the slots now
pub record Course : Type 0 where
  pub picks : List (Slot × Pick)
  pub left : List Card
  pub pulled : List Visit
  pub torn : List Visit
  pub entered : List Visit
  pub found : List (Visit × Verdict)
  pub refused : List (ℕ × SlotFault)
  pub settled : Bool
  pub slots : Slots

-- the card in a slot, if there is one
abbrev pub card_in : Option Sitting → List Card
card_in None = []
card_in (Some sitting) = sitting.card ∷ []

-- the card that sits in a slot as a visit at this moment, if one sits there
abbrev pub visits : Phase → Slot → Slots → List Visit
visits p slot slots = map (λ card. record { phase = p; slot = slot; card = card }) (card_in (in_slot slots slot))

-- the slots with this in one of them
abbrev pub with_slot : Slots → Slot → Option Sitting → Slots
with_slot slots Driver sitting = record slots { driver = sitting }
with_slot slots CoDriver sitting = record slots { codriver = sitting }

-- the slot is empty from now on
abbrev pub leaves : Slot → Course → Course
leaves slot c = record c { left = c.left ++ card_in (in_slot c.slots slot); slots = with_slot c.slots slot None }

-- an action that has n before it is carried out
abbrev pub carried_out : ℕ → Action → Course → Course
carried_out n (Select slot pick) c = record c { picks = c.picks ++ (slot, pick) ∷ [] }
carried_out n (Insert slot card) c = record c {
  settled = true;
  entered = c.entered ++ record { phase = In (n + 1); slot = slot; card = card } ∷ [];
  slots = with_slot c.slots slot (Some (record { card = card; accepted = None }));
}
carried_out n (Withdraw slot) c = record (leaves slot c) { settled = true }
carried_out n (Tear slot) c = record (leaves slot c) { pulled = c.pulled ++ visits (In (n + 1)) slot c.slots }
carried_out n (Place slot ending country region) c = c
carried_out n (Manual slot pick minute) c = c

-- an action is carried out or refused
abbrev pub answered : ℕ → Option SlotFault → Action → Course → Course
answered n None a c = carried_out n a c
answered n (Some r) a c = record c { refused = c.refused ++ (n + 1, r) ∷ [] }

-- the slots that a card enters at a moment, and the cards that are taken out of them
pub record Moved : Type 0 where
  pub enters : Slot → Bool
  pub leaving : Slot → List Visit

-- no card is taken out; each enters anew at a power-on
abbrev pub unmoved : (starts : Bool) → Moved
unmoved starts = record { enters = λ slot. starts; leaving = λ slot. [] }

-- what an action moves that has n before it
abbrev pub moved_by : ℕ → Option SlotFault → Action → Slots → Moved
moved_by n (Some r) a slots = unmoved false
moved_by n None (Select s pick) slots = unmoved false
moved_by n None (Insert s card) slots = record { enters = same_slot s; leaving = λ slot. [] }
moved_by n None (Withdraw s) slots =
    record { enters = λ slot. false; leaving = λ slot. if same_slot s slot then visits (In (n + 1)) slot slots else [] }
moved_by n None (Tear s) slots = unmoved false
moved_by n None (Place s ending country region) slots = unmoved false
moved_by n None (Manual s pick minute) slots = unmoved false

-- what the log tells of a slot at a moment: what was found of its card where one entered, and then whether it, or one
-- that was taken out, was torn
abbrev pub slot_told : RunLog → ℕ → Phase → Moved → Slot → Course → Course
slot_told log u p moved slot c =
    let verdicts : List Verdict = if moved.enters slot then found_in log u p slot else [] in
    let seen : List (Visit × Verdict) = flat_map (λ visit. map (λ v. (visit, v)) verdicts) (visits p slot c.slots) in
    let judged : Course = record c { found = c.found ++ seen } in
    if is_torn_in log u p slot then record
    (leaves slot judged) { torn = c.torn ++ (moved.leaving slot ++ visits p slot c.slots) }
    else (if list_any is_accepting verdicts
    then record judged {
      slots = with_slot c.slots slot (option_map {T = Sitting} (λ x. record x { accepted = Some u })
          (in_slot c.slots slot));
    }
    else judged)

-- the driver slot before the co-driver slot
abbrev pub both_told : RunLog → ℕ → Phase → Moved → Course → Course
both_told log u p moved c = slot_told log u p moved CoDriver (slot_told log u p moved Driver c)

-- an action that has n before it begins, where so many had begun at a cut
abbrev pub begins : Option ℕ → ℕ → Bool
begins None n = true
begins (Some begun) n = nat_lt n begun

-- a line that withdraws or inserts a card
abbrev pub is_settling : Action → Bool
is_settling (Select slot pick) = false
is_settling (Insert slot card) = true
is_settling (Withdraw slot) = true
is_settling (Tear slot) = false
is_settling (Place slot ending country region) = false
is_settling (Manual slot pick minute) = false

-- one action more, with n before it; one that a cut came before counts as a settling alone
abbrev pub acted : RunLog → TraceSecond → ℕ → Action → Course → Course
acted log s n a c =
    if begins (cut_in log s.number) n
    then both_told log s.number
    (In (n + 1)) (moved_by n (refusal c.slots s.speed a) a c.slots) (answered n (refusal c.slots s.speed a) a c)
    else record c { settled = c.settled || is_settling a }

-- these actions, with n before them
abbrev pub all_acted : RunLog → TraceSecond → ℕ → List Action → Course → Course
all_acted log s n [] c = c
all_acted log s n (a ∷ actions) c = all_acted log s (n + 1) actions (acted log s n a c)

-- its card is not accepted any more
abbrev pub powerless : Option Sitting → Option Sitting
powerless sitting = option_map {T = Sitting} (λ x. record x { accepted = None }) sitting

-- at a cut each card in a slot loses power
abbrev pub cut_told : Bool → Course → Course
cut_told false c = c
cut_told true c = record c {
  left = c.left ++ card_in c.slots.driver ++ card_in c.slots.codriver;
  slots = record { driver = powerless c.slots.driver; codriver = powerless c.slots.codriver };
}

-- a second begins; at a power-on each card in a slot enters anew
abbrev pub fresh : (starts : Bool) → Slots → Course
fresh starts slots = record {
  picks = [];
  left = [];
  pulled = [];
  torn = [];
  entered = if starts then visits (In 0) Driver slots ++ visits (In 0) CoDriver slots else [];
  found = [];
  refused = [];
  settled = false;
  slots = slots;
}

-- a second with power: the power-on if it is one, the actions, what the keeping tore, and the cut
abbrev pub lit_course : RunLog → TraceSecond → (starts : Bool) → Slots → Course
lit_course log s starts slots =
    cut_told (is_some (cut_in log s.number))
    (both_told log s.number Keeping
    (unmoved false) (all_acted log s 0 s.actions (both_told log s.number (In 0) (unmoved starts) (fresh starts slots))))

-- without power each of these actions is refused, with so many before them
abbrev pub without_power : ℕ → List Action → List (ℕ × SlotFault)
without_power n [] = []
without_power n (a ∷ actions) = (n + 1, NoPower) ∷ without_power (n + 1) actions

-- a second without power
abbrev pub dark_course : TraceSecond → Slots → Course
dark_course s slots = record {
  picks = [];
  left = [];
  pulled = [];
  torn = [];
  entered = [];
  found = [];
  refused = without_power 0 s.actions;
  settled = false;
  slots = slots;
}

-- a second as it went: whether the trace gave it power, whether it had power, whether that began or ended with it, and
-- its course
pub record ToldSecond : Type 0 where
  pub second : Second
  pub given : Bool
  pub lit : Bool
  pub starts : Bool
  pub cut : Bool
  pub course : Course

-- what the next second has to know of those before it: whether the last one kept its power, whether power is gone,
-- whether the trace gave the last one power, and the slots
pub record Before : Type 0 where
  pub running : Bool
  pub gone : Bool
  pub given : Bool
  pub slots : Slots

-- a second has power that the trace gives, but where it is gone: then it returns with a minute or behind an `off` line
abbrev pub has_power : Before → TraceSecond → Bool
has_power before s = s.has_power && (not before.gone || nat_eq (s.number % 60) 0 || not before.given)

-- how a second goes
abbrev pub second_told : RunLog → Before → TraceSecond → ToldSecond
second_told log before s =
    if has_power before s
    then (let c : Course = lit_course log s (not before.running) before.slots in
    record {
      second = record { number = s.number; speed = s.speed; picks = c.picks };
      given = s.has_power;
      lit = true;
      starts = not before.running;
      cut = is_some (cut_in log s.number);
      course = c;
    })
    else record {
      second = record { number = s.number; speed = s.speed; picks = [] };
      given = s.has_power;
      lit = false;
      starts = false;
      cut = false;
      course = dark_course s before.slots;
    }

-- what the second after it has to know
abbrev pub before_next : Before → ToldSecond → Before
before_next before t =
    record {
      running = t.lit && not t.cut;
      gone = t.cut
          || (before.gone && not t.lit);
      given = t.given;
      slots = t.course.slots;
    }

-- the seconds so far, and what the next has to know
pub record Went : Type 0 where
  pub told : List ToldSecond
  pub before : Before

-- the course of a run with one second more
abbrev pub went_on : RunLog → Went → TraceSecond → Went
went_on log w s = let t : ToldSecond = second_told log w.before s
    in record { told = w.told ++ t ∷ []; before = before_next w.before t }

-- before the first second
abbrev pub not_begun : Went
not_begun = record {
  told = [];
  before = record { running = false; gone = false; given = true; slots = record { driver = None; codriver = None } };
}

-- how the seconds of a trace went
unfoldable pub went : RunLog → List TraceSecond → Went
went log ss = fold (went_on log) not_begun ss
