-- What is said of a unit's events whatever cards are there (Annex IB, section III.12; profile): their types, the first
-- over speeding and their number, and which bytes tell of them.
use Rattle.std.specs.Prelude.{◌≡◌, ℕ, ◌+◌, ◌<◌, min, List, [], ◌∷◌, length, nat_eq}
use Rattle.std.specs.Prelude.{drop, if◌then◌else◌}
use Rattle.std.specs.List.{AllByRecursion}
use Rattle.card_layout.specs.Images.{bytes_at}
use Rattle.unit_model.specs.declared.layout.TheConstants.{FIRST_OVER, OVER_COUNT, INSERTIONS}
use Rattle.event_model.specs.declared.kinds.TheConstants.{CARD_NOT_VALID, TIME_OVERLAP, DRIVING_WITHOUT_CARD}
use Rattle.event_model.specs.declared.kinds.TheConstants.{INSERTION_WHILE_DRIVING, SESSION_NOT_CLOSED, OVER_SPEEDING}
use Rattle.event_model.specs.declared.kinds.TheConstants.{POWER_INTERRUPTION, CARD_FAULT}
use Rattle.event_model.specs.Events.{Event}

-- all types of which a unit holds events or faults
abbrev pub all_kinds : List ℕ
all_kinds =
    CARD_NOT_VALID ∷ TIME_OVERLAP ∷ DRIVING_WITHOUT_CARD ∷ INSERTION_WHILE_DRIVING ∷ SESSION_NOT_CLOSED ∷ OVER_SPEEDING
    ∷ POWER_INTERRUPTION ∷ CARD_FAULT ∷ []

-- the begin of the first of some events, 0 without one
abbrev pub first_begin : List Event → ℕ
first_begin [] = 0
first_begin (e ∷ events) = e.begin

-- the begin of the first over speeding, where this one was held, or 0, and these came
abbrev pub first_on : (held : ℕ) → List Event → ℕ
first_on held overs = if nat_eq held 0 then first_begin overs else held

-- and the number of over speedings, at most 255
abbrev pub count_on : (held : ℕ) → List Event → ℕ
count_on held overs = min 255 (held + length overs)

-- each of these has a begin
abbrev pub HaveBegins : List Event → Type 0
HaveBegins events = AllByRecursion (λ (e : Event). 0 < e.begin) events

-- nothing has changed that tells of events: the two numbers of over speedings, and what stands from the insertions on
pub record KeepsEvents (x c : List ℕ) : Type 0 where
  pub numbers : bytes_at c FIRST_OVER.place (FIRST_OVER.size + OVER_COUNT.size)
      ≡ bytes_at x FIRST_OVER.place (FIRST_OVER.size + OVER_COUNT.size)
  pub rest : drop INSERTIONS.place c ≡ drop INSERTIONS.place x
