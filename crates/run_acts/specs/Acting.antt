-- What the actions of a second do that need no card to be judged, by value (profile).
use Rattle.std.specs.Prelude.{◌≡◌, ◌⊎◌, ℕ, Bool, true, false, Option, Some, None, IfSome, is_some, List, [], ◌∷◌}
use Rattle.std.specs.Prelude.{◌++◌}
use Rattle.activity_codec.specs.declared.values.Slot.{Slot}
use Rattle.trace_model.specs.declared.Card.{Card}
use Rattle.unit_model.specs.minute_model.declared.Minute.{Minute}
use Rattle.unit_model.specs.minute_model.Span.{Span, settled, decided_in}
use Rattle.minute_rules.specs.Kept.{CountsSpan, Kept as Minutes}
use Rattle.log_model.specs.declared.lines.Break.{Break}
use Rattle.log_model.specs.declared.lines.Break.TheVariants.{Tear}
use Rattle.run_crew.specs.card_slots.Calls.{seat_in}
use Rattle.run_crew.specs.declared.cards.Accepted.{Accepted}
use Rattle.run_crew.specs.declared.cabin.Cabin.{Cabin}
use Rattle.run_crew.specs.Cards.{session_of}
use Rattle.run_crew.specs.Cabin.{torn_out, with_slot_left, with_session_of}
use Rattle.run_outcome.specs.Lines.{Listed}
use Rattle.run_outcome.specs.declared.outcome.Outcome.{Outcome}
use Rattle.run_minutes.specs.declared.keeper.Moment.{Moment}
use Rattle.run_minutes.specs.Keeping.{tear_of, with_lines}
use Rattle.run_minutes.specs.Minutes.{KeepingState, AreKeptUpTo}
use Rattle.run_acts.specs.declared.run.Run.{Run}
use Rattle.run_acts.specs.Power.{with_cabin}

-- keeper, marks and breaks of a run
abbrev pub told_of : Run → Outcome → KeepingState
told_of run o = record { keeper = run.keeper; marks = o.marks; breaks = o.breaks }

-- THESE MINUTES ARE DECIDED as a second settles what these stand for, and were not before
abbrev pub SettlingDecides : Minutes → List Minute → Type 0
SettlingDecides minutes decided = (span : Span) → CountsSpan minutes span
    → decided_in (settled span) ≡ decided_in span ++ decided

-- THE MINUTES BEFORE THIS ONE ARE DECIDED AND KEPT, up to the first that fails
pub record IsSettled (at : Moment) (failed : Bool) (old new : Run) (before after : Outcome) : Type 0 where
  pub only : new ≡ record old { minutes = new.minutes; keeper = new.keeper }
  pub minutes : (span : Span) → CountsSpan old.minutes span → CountsSpan new.minutes (settled span)
  pub decided : List Minute
  pub given : SettlingDecides old.minutes decided
  pub kept : AreKeptUpTo decided at failed (told_of old before) (told_of new after)
  pub outcome : after ≡ record before { marks = after.marks; breaks = after.breaks }

-- a slot is empty, or its card has no session
abbrev pub IsBareIn : Cabin → Slot → Type 0
IsBareIn cabin slot = IfSome (seat_in cabin.slots.seats slot) (λ s. session_of cabin.cards s.card ≡ None)

-- ---- a card is withdrawn

-- A card that was taken out of its slot: it had no session, or that was closed, or the call failed.
pub data Closing : Type 0 where
  Bare : Closing
  Closed : Closing
  Fell : Closing

-- slots and sessions behind it: no session, and where the call failed the card torn out
abbrev pub closed_cabin : Closing → Card → (second : ℕ) → Cabin → Cabin
closed_cabin Bare card second cabin = with_session_of card None cabin
closed_cabin Closed card second cabin = with_session_of card None cabin
closed_cabin Fell card second cabin = torn_out card second (with_session_of card None cabin)

-- and the line of its tear, where the call failed
abbrev pub closed_breaks : Closing → Slot → Moment → List Break
closed_breaks Bare slot at = []
closed_breaks Closed slot at = []
closed_breaks Fell slot at = tear_of slot at ∷ []

-- so often the card has failed
abbrev pub closed_falls : Closing → ℕ
closed_falls Bare = 0
closed_falls Closed = 0
closed_falls Fell = 1

-- a session that there was is closed, or the card fell
abbrev pub IsClosingOf : Option Accepted → Closing → Type 0
IsClosingOf None Bare = Unit {0}
IsClosingOf None Closed = ⊥
IsClosingOf None Fell = ⊥
IsClosingOf (Some session) Bare = ⊥
IsClosingOf (Some session) Closed = Unit {0}
IsClosingOf (Some session) Fell = Unit {0}

-- the session of a card that has left its slot is closed: what is left of a run, and its breaks
pub record IsClosed (card : Card) (slot : Slot) (at : Moment) (old new : Run) (breaks after : Listed Break)
    (closing : Closing) : Type 0 where
  pub is : IsClosingOf (session_of old.keeper.cabin.cards card) closing
  pub run : new ≡ with_cabin (closed_cabin closing card at.second old.keeper.cabin) old
  pub told : after ≡ with_lines (closed_breaks closing slot at) breaks

-- a run whose card has left a slot, with its session still
abbrev pub left_run : Slot → (second : ℕ) → Run → Run
left_run slot second run = with_cabin (with_slot_left slot second run.keeper.cabin) run

-- A CARD IS WITHDRAWN: it has left its slot, and the minutes before are kept; then its session is closed.
pub record IsClosedBehind (card : Card) (slot : Slot) (at : Moment) (old new : Run) (before after : Outcome) : Type
    0 where
  pub between : Run
  pub told : Outcome
  pub settled_first : IsSettled at false (left_run slot at.second old) between before told
  pub closing : Closing
  pub closed : IsClosed card slot at between new told.breaks after.breaks closing
  pub outcome : after ≡ record told { breaks = after.breaks }

-- there was none in the slot; or it failed in the keeping of the minutes before, or only then
abbrev pub IsWithdrawn : Option Card → Slot → Moment → (failed : Bool) → (old new : Run) → (before after : Outcome)
    → Type 0
IsWithdrawn None slot at failed old new before after = (new ≡ old) × (after ≡ before)
IsWithdrawn (Some card) slot at failed old new before after =
    ((failed ≡ true) × IsSettled at true (left_run slot at.second old) new before after)
    ⊎ IsClosedBehind card slot at old new before after

-- ---- a card is pulled out, or fails

-- the line of a card that was pulled out of a slot
abbrev pub pull_of : Slot → Moment → Break
pull_of slot at = Tear at.second slot false at.begun false

-- A CARD IS PULLED OUT, where there is one
abbrev pub pulled_run : Option Card → (second : ℕ) → Run → Run
pulled_run None second run = run
pulled_run (Some card) second run = with_cabin (torn_out card second run.keeper.cabin) run

-- and the line that tells so
abbrev pub pulled_breaks : Option Card → Slot → Moment → List Break
pulled_breaks None slot at = []
pulled_breaks (Some card) slot at = pull_of slot at ∷ []

-- SOMETHING IS NOTED ON A CARD, which is torn out of its slot where that fails
abbrev pub noted_run : (fell : Bool) → Card → (second : ℕ) → Run → Run
noted_run false card second run = run
noted_run true card second run = with_cabin (torn_out card second run.keeper.cabin) run

-- and the line of its tear, if it is
abbrev pub noted_breaks : (fell : Bool) → Slot → Moment → List Break
noted_breaks false slot at = []
noted_breaks true slot at = tear_of slot at ∷ []

-- so many cards were torn out
abbrev pub falls_by : (fell : Bool) → ℕ
falls_by false = 0
falls_by true = 1

-- run and breaks behind a note on a card, which fell or did not
pub record IsNotedOn (card : Card) (slot : Slot) (at : Moment) (old new : Run) (breaks after : Listed Break)
    (fell : Bool) : Type 0 where
  pub run : new ≡ noted_run fell card at.second old
  pub told : after ≡ with_lines (noted_breaks fell slot at) breaks

-- A PLACE IS NOTED for the card of a slot, where there is one: on the unit, which may have failed, and on the card,
-- which may fall
abbrev pub IsPlaced : Option Card → Slot → Moment → (old new : Run) → (breaks after : Listed Break) → (fell : Bool)
    → Type 0
IsPlaced None slot at old new breaks after fell = (new ≡ old) × (after ≡ breaks)
IsPlaced (Some card) slot at old new breaks after fell = IsNotedOn card slot at old new breaks after fell

-- the begin of the next second, before its actions
abbrev pub now_moment : Run → Moment
now_moment run = record { second = run.next; begun = 0; late = false }

-- IT IS NOTED ON THE CARD OF A SLOT, where there is one that is accepted, which alone may fall
abbrev pub IsNotedIn : Option Card → Slot → Moment → (old new : Run) → (breaks after : Listed Break) → (fell : Bool)
    → Type 0
IsNotedIn None slot at old new breaks after fell = (new ≡ old) × (after ≡ breaks) × (fell ≡ false)
IsNotedIn (Some card) slot at old new breaks after fell = IsNotedOn card slot at old new breaks after fell
    × (fell ≡ true → is_some (session_of old.keeper.cabin.cards card) ≡ true)
