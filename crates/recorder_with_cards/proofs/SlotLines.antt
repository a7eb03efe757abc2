-- Lines of refusals in the log of an outcome: those of slots and power are in it, and those of sessions are not.
use Rattle.std.proofs.Common.{◌≡◌, ◌∙◌, ℕ, ◌+◌, Bool, true, false, cond, Option, Some, None, is_some, List, [], ◌∷◌, ◌++◌, append-nil, refl, ap, ◌⊎◌, inl, inr}
use Rattle.std.specs.Prelude.{not, nat_lt, option_map}
use Rattle.std.proofs.lemmas.List.Elements.{filter-append}
use Rattle.trace_model.specs.declared.Action.{Action}
use Rattle.trace_model.specs.declared.Action.TheVariants.{Select, Insert, Withdraw, Tear, Place, Manual}
use Rattle.device_calls.specs.hand_model.declared.held.EnterFault.{EnterFault}
use Rattle.device_calls.specs.hand_model.declared.held.EnterFault.TheVariants as enter
use Rattle.device_calls.specs.hand_model.Holding.{stopped_by}
use Rattle.log_model.specs.declared.lines.Refused.{Refused}
use Rattle.log_model.specs.declared.lines.SlotFault.{SlotFault}
use Rattle.log_model.specs.declared.lines.SlotFault.TheVariants.{Moving, Empty, Occupied, NoCard, Elsewhere, NoPower}
use Rattle.log_model.specs.Slots.{Slots, refusal, in_slot, other_slot, holds, is_accepted}
use Rattle.log_model.specs.ByHand.{is_stop, by_slots, stops, minute_on}
use Rattle.log_model.specs.Log.{RunLog}
use Rattle.run_acts.specs.run_course.Moments.{and_refused}
use Rattle.run_minutes.specs.Keeping.{with_lines}
use Rattle.run_outcome.specs.declared.outcome.Outcome.{Outcome}
use Rattle.run_acts.specs.run_crew.declared.cards.Accepted.{Accepted}
use Rattle.run_acts.specs.ByHand.{stop_in, session_in, stop_by, or_else, stopped_in}
use Rattle.run_acts.specs.declared.run.Run.{Run}
use Rattle.run_acts.specs.Recording.{log_of, values_of}
use Rattle.run_minutes.specs.card_slots.Calls.{logged}
use Rattle.activity_codec.specs.declared.values.Pick.{Pick}
use Rattle.activity_codec.specs.declared.values.Slot.{Slot}
use Rattle.run_acts.specs.run_record.Within.{stop_told}

-- ---- whose refusal it is

if-none : (b : Bool) (fault : SlotFault) (rest : Option SlotFault) → is_stop fault ≡ false → ((f : SlotFault) → rest ≡ Some f → is_stop f ≡ false) → (f : SlotFault) → cond b (Some fault) rest ≡ Some f → is_stop f ≡ false
if-none true fault rest apart others f is = ap is_stop (let e : f ≡ fault = cc in e) ∙ apart
if-none false fault rest apart others f is = others f is

never : (f : SlotFault) → None ≡ Some f → is_stop f ≡ false
never f is = absurd (cc)

-- slots and speed are no session
pub refusal-by-slots : (slots : Slots) (speed : ℕ) (a : Action) (f : SlotFault) → refusal slots speed a ≡ Some f → is_stop f ≡ false
refusal-by-slots slots speed (Select slot pick) f is = absurd (cc)
refusal-by-slots slots speed (Insert slot card) f is =
    if-none (is_some (in_slot slots slot)) (Occupied slot) (cond (holds (in_slot slots (other_slot slot)) card) (Some (Elsewhere card)) None) refl (if-none (holds (in_slot slots (other_slot slot)) card) (Elsewhere card) None refl never) f is
refusal-by-slots slots speed (Withdraw slot) f is =
    if-none (not (is_some (in_slot slots slot))) (Empty slot) (cond (nat_lt 0 speed) (Some (Moving speed)) None) refl (if-none (nat_lt 0 speed) (Moving speed) None refl never) f is
refusal-by-slots slots speed (Tear slot) f is = by (is_some (in_slot slots slot)) is
  where
    by : (b : Bool) → cond b None (Some (Empty slot)) ≡ Some f → is_stop f ≡ false
    by true h = absurd (cc)
    by false h = ap is_stop (let e : f ≡ Empty slot = cc in e)
refusal-by-slots slots speed (Place slot ending country region) f is = by (is_accepted (in_slot slots slot)) is
  where
    by : (b : Bool) → cond b None (Some (NoCard slot)) ≡ Some f → is_stop f ≡ false
    by true h = absurd (cc)
    by false h = ap is_stop (let e : f ≡ NoCard slot = cc in e)
refusal-by-slots slots speed (Manual slot pick minute) f is =
    if-none (not (is_accepted (in_slot slots slot))) (NoCard slot) (cond (nat_lt 0 speed) (Some (Moving speed)) None) refl (if-none (nat_lt 0 speed) (Moving speed) None refl never) f is

-- but what stops an entry by hand is one
told-stop : (f : EnterFault) → is_stop (stop_told f) ≡ true
told-stop (enter.Begun first) = refl
told-stop (enter.NotFree newest inserted) = refl
told-stop (enter.Full held) = refl

in-stop : (o : Option Accepted) (minute : ℕ) (f : SlotFault) → stop_in o minute ≡ Some f → is_stop f ≡ true
in-stop None minute f is = absurd (cc)
in-stop (Some a) minute f is = by (stopped_by a.held a.session.minute minute) is
  where
    by : (o : Option EnterFault) → option_map stop_told o ≡ Some f → is_stop f ≡ true
    by None h = absurd (cc)
    by (Some g) h = ap is_stop (let e : f ≡ stop_told g = cc in e) ∙ told-stop g

pub stop-by-session : (a : Action) (run : Run) (f : SlotFault) → stop_by a run ≡ Some f → is_stop f ≡ true
stop-by-session (Select slot pick) run f is = absurd (cc)
stop-by-session (Insert slot card) run f is = absurd (cc)
stop-by-session (Withdraw slot) run f is = absurd (cc)
stop-by-session (Tear slot) run f is = absurd (cc)
stop-by-session (Place slot ending country region) run f is = absurd (cc)
stop-by-session (Manual slot pick minute) run f is = in-stop (session_in slot run.keeper.cabin) (minute_on run.next minute) f is

-- A STOP is of the slots and the speed, or else of a session
pub whose : (run : Run) (speed : ℕ) (a : Action) (f : SlotFault) → stopped_in run speed a ≡ Some f
    → (refusal (logged run.keeper.cabin.slots.seats) speed a ≡ Some f) ⊎ ((refusal (logged run.keeper.cabin.slots.seats) speed a ≡ None) × (stop_by a run ≡ Some f))
whose run speed a f is = by (refusal (logged run.keeper.cabin.slots.seats) speed a) refl is
  where
    by : (r : Option SlotFault) → refusal (logged run.keeper.cabin.slots.seats) speed a ≡ r → or_else r (stop_by a run) ≡ Some f
        → (refusal (logged run.keeper.cabin.slots.seats) speed a ≡ Some f) ⊎ ((refusal (logged run.keeper.cabin.slots.seats) speed a ≡ None) × (stop_by a run ≡ Some f))
    by None same h = inr (same, h)
    by (Some g) same h = inl (same ∙ h)

pub none-of-both : (run : Run) (speed : ℕ) (a : Action) → stopped_in run speed a ≡ None → (refusal (logged run.keeper.cabin.slots.seats) speed a ≡ None) × (stop_by a run ≡ None)
none-of-both run speed a is = by (refusal (logged run.keeper.cabin.slots.seats) speed a) refl is
  where
    by : (r : Option SlotFault) → refusal (logged run.keeper.cabin.slots.seats) speed a ≡ r → or_else r (stop_by a run) ≡ None → (refusal (logged run.keeper.cabin.slots.seats) speed a ≡ None) × (stop_by a run ≡ None)
    by None same h = (same, h)
    by (Some g) same h = absurd (cc)

-- what no session stops is stopped by the slots alone
pub slots-alone : (r : Option SlotFault) → r ≡ or_else r None
slots-alone None = refl
slots-alone (Some f) = refl

-- of an entry by hand alone
pub stops-hand : (a : Action) (run : Run) (f : SlotFault) → stop_by a run ≡ Some f → (slot : Slot) × (pick : Pick) × (minute : ℕ) × (a ≡ Manual slot pick minute)
stops-hand (Select slot pick) run f is = absurd (cc)
stops-hand (Insert slot card) run f is = absurd (cc)
stops-hand (Withdraw slot) run f is = absurd (cc)
stops-hand (Tear slot) run f is = absurd (cc)
stops-hand (Place slot ending country region) run f is = absurd (cc)
stops-hand (Manual slot pick minute) run f is = (slot, pick, minute, refl)

-- ---- lines more

-- without power all actions are refused for that, the first of these with so many before it
abbrev pub refused_from : (second number : ℕ) → List Action → List Refused
refused_from second number [] = []
refused_from second number (a ∷ actions) = record { second = second; fault = NoPower; begun = number + 1 } ∷ refused_from second (number + 1) actions

abbrev pub refused_dark : (second : ℕ) → List Action → List Refused
refused_dark second actions = refused_from second 0 actions

one-of-slots : (r : Refused) → is_stop r.fault ≡ false → by_slots (r ∷ []) ≡ r ∷ []
one-of-slots r is = ap (λ (b : Bool). cond (not b) (r ∷ []) []) is

one-of-session : (r : Refused) → is_stop r.fault ≡ true → by_slots (r ∷ []) ≡ []
one-of-session r is = ap (λ (b : Bool). cond (not b) (r ∷ []) []) is

pub slots-one : (l : List Refused) (r : Refused) → is_stop r.fault ≡ false → by_slots (l ++ r ∷ []) ≡ by_slots l ++ r ∷ []
slots-one l r is = filter-append (λ (x : Refused). not (is_stop x.fault)) l (r ∷ []) ∙ ap (λ (m : List Refused). by_slots l ++ m) (one-of-slots r is)

pub slots-stop : (l : List Refused) (r : Refused) → is_stop r.fault ≡ true → by_slots (l ++ r ∷ []) ≡ by_slots l
slots-stop l r is = filter-append (λ (x : Refused). not (is_stop x.fault)) l (r ∷ []) ∙ ap (λ (m : List Refused). by_slots l ++ m) (one-of-session r is) ∙ append-nil (by_slots l)

all-dark : (second number : ℕ) (actions : List Action) → by_slots (refused_from second number actions) ≡ refused_from second number actions
all-dark second number [] = refl
all-dark second number (a ∷ actions) = ap (λ (m : List Refused). record { second = second; fault = NoPower; begun = number + 1 } ∷ m) (all-dark second (number + 1) actions)

pub slots-dark : (l : List Refused) (second : ℕ) (actions : List Action) → by_slots (l ++ refused_dark second actions) ≡ by_slots l ++ refused_dark second actions
slots-dark l second actions = filter-append (λ (x : Refused). not (is_stop x.fault)) l (refused_dark second actions) ∙ ap (λ (m : List Refused). by_slots l ++ m) (all-dark second 0 actions)

-- of those of sessions there are as many more
none-of-slots : (r : Refused) → is_stop r.fault ≡ false → stops (r ∷ []) ≡ []
none-of-slots r is = ap (λ (b : Bool). cond b (r ∷ []) []) is

one-stop : (r : Refused) → is_stop r.fault ≡ true → stops (r ∷ []) ≡ r ∷ []
one-stop r is = ap (λ (b : Bool). cond b (r ∷ []) []) is

pub stops-same : (l : List Refused) (r : Refused) → is_stop r.fault ≡ false → stops (l ++ r ∷ []) ≡ stops l
stops-same l r is = filter-append (λ (x : Refused). is_stop x.fault) l (r ∷ []) ∙ ap (λ (m : List Refused). stops l ++ m) (none-of-slots r is) ∙ append-nil (stops l)

pub stops-one : (l : List Refused) (r : Refused) → is_stop r.fault ≡ true → stops (l ++ r ∷ []) ≡ stops l ++ r ∷ []
stops-one l r is = filter-append (λ (x : Refused). is_stop x.fault) l (r ∷ []) ∙ ap (λ (m : List Refused). stops l ++ m) (one-stop r is)

dark-stops : (second number : ℕ) (actions : List Action) → stops (refused_from second number actions) ≡ []
dark-stops second number [] = refl
dark-stops second number (a ∷ actions) = dark-stops second (number + 1) actions

pub stops-dark : (l : List Refused) (second : ℕ) (actions : List Action) → stops (l ++ refused_dark second actions) ≡ stops l
stops-dark l second actions = filter-append (λ (x : Refused). is_stop x.fault) l (refused_dark second actions) ∙ ap (λ (m : List Refused). stops l ++ m) (dark-stops second 0 actions) ∙ append-nil (stops l)

-- THE LOG with a refusal of slots, with one of a session, and with those without power
pub log-one : (out : Outcome) (r : Refused) → is_stop r.fault ≡ false → log_of (record out { refused = with_lines (r ∷ []) out.refused }) ≡ and_refused (log_of out) r
log-one out r is = ap (λ (l : List Refused). record (log_of out) { refused = l }) (slots-one out.refused.items r is)

pub log-stop : (out : Outcome) (r : Refused) → is_stop r.fault ≡ true → log_of (record out { refused = with_lines (r ∷ []) out.refused }) ≡ log_of out
log-stop out r is = ap (λ (l : List Refused). record (log_of out) { refused = l }) (slots-stop out.refused.items r is)

pub log-dark : (out : Outcome) (second : ℕ) (actions : List Action) → log_of (record out { refused = with_lines (refused_dark second actions) out.refused }) ≡ record (log_of out) { refused = by_slots out.refused.items ++ refused_dark second actions }
log-dark out second actions = ap (λ (l : List Refused). record (log_of out) { refused = l }) (slots-dark out.refused.items second actions)

-- THE VALUES OF A RUN with them
pub values-slots : (run : Run) (out : Outcome) (r : Refused) → is_stop r.fault ≡ false → values_of run (record out { refused = with_lines (r ∷ []) out.refused }) ≡ record (values_of run out) { log = and_refused (log_of out) r }
values-slots run out r is =
    ap (λ (l : RunLog). record (values_of run (record out { refused = with_lines (r ∷ []) out.refused })) { log = l }) (log-one out r is)
    ∙ ap (λ (l : List Refused). record (values_of run out) { log = and_refused (log_of out) r; stops = l }) (stops-same out.refused.items r is)

pub values-dark : (run : Run) (out : Outcome) (second : ℕ) (actions : List Action) → values_of run (record out { refused = with_lines (refused_dark second actions) out.refused }) ≡ record (values_of run out) { log = record (log_of out) { refused = by_slots out.refused.items ++ refused_dark second actions } }
values-dark run out second actions =
    ap (λ (l : RunLog). record (values_of run (record out { refused = with_lines (refused_dark second actions) out.refused })) { log = l }) (log-dark out second actions)
    ∙ ap (λ (l : List Refused). record (values_of run out) { log = record (log_of out) { refused = by_slots out.refused.items ++ refused_dark second actions }; stops = l }) (stops-dark out.refused.items second actions)
