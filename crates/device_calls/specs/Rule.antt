-- How a unit and its cards stand between two calls (profile): the rules of device_rule, of the images of the devices.
use Rattle.std.specs.Prelude.{◌≡◌, ◌≢◌, ℕ, suc, ◌<◌, Bool, true, false, List, [], ◌∷◌, ◌++◌}
use Rattle.activity_codec.specs.declared.entries.Entry.{Entry}
use Rattle.trace_model.specs.declared.Card.{Card}
use Rattle.trace_model.specs.declared.Card.TheVariants.{A, B}
use Rattle.unit_rule.specs.run_model.declared.Device.TheVariants.{Unit as Recorder}
use Rattle.tach_media.specs.Medium.{State, last_count}
use Rattle.unit_rule.specs.log_model.declared.lines.Mark.{Mark}
use Rattle.unit_rule.specs.history_model.Minutes.{HistoryMinute, on_card}
use Rattle.unit_rule.specs.history_model.Presence.{CardStart}
use Rattle.unit_rule.specs.history_model.Book.{Book, kept, broken}
use Rattle.card_validity.specs.card_image.View.{CardView, Held}
use Rattle.card_validity.specs.card_image.Own.{own_view}
use Rattle.unit_rule.specs.device_rule.Views.{UnitView, unit_view}
use Rattle.unit_rule.specs.device_rule.Device.{Seen, seen}
use Rattle.unit_rule.specs.device_rule.Rules.{Standing, In, Out, CardDark, CardRule}
use Rattle.unit_rule.specs.Rule.{Started, once_mended}
use Rattle.unit_rule.specs.Marks.{UnitFollowsBook}

-- A card as the opening found it: its number, what it brings, and the clock. A card that is not valid may be named by
-- any list that is no card's number: no row is its own then.
pub record Opened : Type 0 where
  pub number : List ℕ
  pub start : CardStart
  pub began : ℕ

-- both cards, which have two numbers
pub record Both : Type 0 where
  pub card_a : Opened
  pub card_b : Opened
  pub two : card_a.number ≢ card_b.number

-- what the opening found of a card
abbrev pub opened : Both → Card → Opened
opened r A = r.card_a
opened r B = r.card_b

-- and its number
abbrev pub number_of : Both → Card → List ℕ
number_of r c = (opened r c).number

-- the unit, by what its images show where the cards have these numbers
abbrev pub unit_seen : Both → State → Seen UnitView
unit_seen r unit = seen (unit_view (number_of r A) (number_of r B)) unit

-- a card, by what its images show
abbrev pub card_seen : State → Seen CardView
card_seen card = seen own_view card

-- What overwriting leaves of a card's entries is carried apart.
abbrev pub AnyString : ℕ → List Entry → Held → Type 0
AnyString next all held = Unit {0}

-- a card as it stands while the unit has power: this entry is put for the minute that comes, and this is owed to it
abbrev pub CardHolds : Both → Card → Book → Standing → (mine due : List Entry) → (unit card : State) → Type 0
CardHolds r c b s mine due unit card =
    CardRule c (opened r c).start AnyString (opened r c).began b s mine due (unit_seen r unit) (card_seen card)

-- and whether it has or not
abbrev pub CardRests : Both → Card → Book → Standing → (unit card : State) → Type 0
CardRests r c b s unit card =
    CardDark c (opened r c).start AnyString (opened r c).began b s (unit_seen r unit) (card_seen card)

-- after a step on the unit: without a failure the one, and the other in any case
pub record IsKeptUp (r : Both) (c : Card) (b : Book) (s : Standing) (mine due : List Entry) (failed : Bool)
    (unit card : State) : Type 0 where
  pub lit : failed ≡ false → CardHolds r c b s mine due unit card
  pub dark : CardRests r c b s unit card

-- after a minute was kept by the unit, its entry is owed to the card; where that failed the minute may be there or not
pub record IsCommitted (r : Both) (c : Card) (b : Book) (i : HistoryMinute) (s : Standing) (failed : Bool)
    (unit card : State) : Type 0 where
  pub lit : failed ≡ false → CardHolds r c (kept i b) s [] (on_card c i) unit card
  pub dark : CardRests r c (broken i b) s unit card

-- the unit and its marks after that
pub record IsHeldUp (s : Started) (b : Book) (marks : List Mark) (i : HistoryMinute) (failed : Bool)
    (unit : State) : Type 0 where
  pub lit : failed ≡ false → unit.clock < last_count →
      UnitFollowsBook (once_mended s) (suc i.minute) (kept i b)
      (marks ++ record { device = Recorder; minute = i.minute; clock = unit.clock } ∷ []) unit
  pub dark : UnitFollowsBook s (suc i.minute) (broken i b) marks unit

-- and after a mend: a unit that works is mended
pub record IsHeldMended (s : Started) (due : ℕ) (b : Book) (marks : List Mark) (unit : State) : Type 0 where
  pub lit : unit.works ≡ true → UnitFollowsBook (once_mended s) due b marks unit
  pub dark : UnitFollowsBook s due b marks unit

-- after a card's row was begun it is accepted, where that failed it is not yet
pub record IsRowTaken (r : Both) (c : Card) (b : Book) (session newest : ℕ) (failed : Bool) (unit card : State) : Type
    0 where
  pub lit : failed ≡ false → CardHolds r c b (In session newest) [] [] unit card
  pub dark : CardRests r c b Out unit card

-- after a power-on a card is not accepted; where it was broken off it stands as it did
pub record IsTakenUp (r : Both) (c : Card) (b : Book) (s : Standing) (failed : Bool) (unit card : State) : Type 0 where
  pub lit : failed ≡ false → CardHolds r c b Out [] [] unit card
  pub dark : CardRests r c b s unit card
