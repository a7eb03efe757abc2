-- What a card has acknowledged, and what its acceptances brought, from one step to the next (profile): of the devices,
-- by what their images show.
use Rattle.std.specs.Prelude.{◌≡◌, ℕ, ◌/◌, ◌<◌, ◌≤◌, List, []}
use Rattle.activity_codec.specs.declared.entries.Entry.{Entry}
use Rattle.trace_model.specs.declared.Card.{Card}
use Rattle.tach_media.specs.Medium.{State}
use Rattle.history_model.specs.Minutes.{HistoryMinute, on_card}
use Rattle.history_model.specs.Presence.{CardStart}
use Rattle.card_image.specs.View.{CardView, Held}
use Rattle.card_image.specs.Own.{own_view}
use Rattle.device_rule.specs.Views.{UnitView, unit_view, owed}
use Rattle.device_rule.specs.Device.{Seen, seen}
use Rattle.device_rule.specs.Steps.{SameRows}
use Rattle.device_rule.specs.Rules.{Acknowledges, Cells, Fits, IsRepaired, Standing, MeetsStanding}

-- the unit, where the cards have these numbers
abbrev pub of_unit : (number_a number_b : List ℕ) → State → Seen UnitView
of_unit number_a number_b unit = seen (unit_view number_a number_b) unit

-- a card
abbrev pub of_card : State → Seen CardView
of_card card = seen own_view card

-- What a step leaves of a card's entries is said apart: here any may be added.
abbrev pub AnyAdded : ℕ → Held → List Entry → Held → Type 0
AnyAdded next old taken new = Unit {0}

-- MARKS. A card has acknowledged a minute at a clock: no image that it might have left since has an earlier end mark.
abbrev pub HasMarked : (minute clock : ℕ) → State → Type 0
HasMarked minute clock card = Acknowledges (λ x. x.mark) minute clock (of_card card)

-- it goes on to have what it had
abbrev pub KeepsMarks : (old new : State) → Type 0
KeepsMarks old new = (minute clock : ℕ) → HasMarked minute clock old → HasMarked minute clock new

-- These entries are all that the unit owes to the card, in a second of a later minute than its last-kept one.
pub record IsOwing (number_a number_b : List ℕ) (c : Card) (given : List Entry) (now : ℕ) (unit card : State) : Type
    0 where
  pub some : (u : List ℕ) × unit.may_leave u
  pub owes : (u : UnitView) (x : CardView) → (of_unit number_a number_b unit).may_leave u → (of_card card).may_leave x
      → given ≡ owed c u x
  pub late : (u : UnitView) → (of_unit number_a number_b unit).may_leave u → u.last < now / 60

-- WHAT AN ACCEPTANCE BROUGHT. No entry up to a minute is owed to the card: one that the unit had kept last when it was
-- accepted.
abbrev pub HasBrought : (number_a number_b : List ℕ) → Card → ℕ → (unit card : State) → Type 0
HasBrought number_a number_b c k unit card = IsRepaired c k (of_unit number_a number_b unit) (of_card card)

-- so it stays as the unit goes on
abbrev pub UnitKeepsBrought : (number_a number_b : List ℕ) → Card → (old new card : State) → Type 0
UnitKeepsBrought number_a number_b c old new card = (k : ℕ) → HasBrought number_a number_b c k old card
    → HasBrought number_a number_b c k new card

-- and as the card does
abbrev pub CardKeepsBrought : (number_a number_b : List ℕ) → Card → (unit old new : State) → Type 0
CardKeepsBrought number_a number_b c unit old new = (k : ℕ) → HasBrought number_a number_b c k unit old
    → HasBrought number_a number_b c k unit new

-- the last-kept minute is earlier than this one
abbrev pub IsBefore : (number_a number_b : List ℕ) → ℕ → State → Type 0
IsBefore number_a number_b m unit = (u : UnitView) → (of_unit number_a number_b unit).may_leave u → u.last < m

-- A minute may be kept by the unit: what it says on the card is put for it, and the card is present in it or it says
-- nothing.
pub record MayCommit (number_a number_b : List ℕ) (c : Card) (start : CardStart) (began : ℕ) (s : Standing)
    (i : HistoryMinute) (unit card : State) : Type 0 where
  pub day : 1440 ≤ i.minute
  pub late : IsBefore number_a number_b i.minute unit
  pub stands : MeetsStanding c start began s [] (of_unit number_a number_b unit) (of_card card)
  pub cells : (u : UnitView) → (of_unit number_a number_b unit).may_leave u → Cells c (on_card c i) u
  pub fits : Fits c start s i

-- what leaves the rows and the last-kept minute of a unit, as a note does
pub record IsBeside (u v : UnitView) : Type 0 where
  pub last : v.last ≡ u.last
  pub rows : SameRows u v
