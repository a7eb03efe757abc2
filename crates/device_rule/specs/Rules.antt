-- The rules between two calls: of the unit, of each card, and of the pair.
use Rattle.std.specs.Prelude.{◌≡◌, ◌⊎◌, ℕ, suc, ◌+◌, ◌/◌, max, ◌<◌, ◌≤◌, true, Option, Some, None, List, [], ◌∷◌, ◌++◌}
use Rattle.std.specs.Prelude.{All, option_to_list}
use Rattle.activity_codec.specs.declared.entries.Entry.{Entry}
use Rattle.trace_model.specs.declared.Card.{Card}
use Rattle.history_model.specs.Minutes.{HistoryMinute, card_history, on_card, up_to}
use Rattle.unit_model.specs.Days.{ShownDay}
use Rattle.history_model.specs.Presence.{CardStart, trimmed_by}
use Rattle.card_retention.specs.Retains.{Rise}
use Rattle.card_image.specs.View.{CardView, Held}
use Rattle.device_rule.specs.Views.{UnitView, row, owed, newest_with, beyond, next_of}
use Rattle.device_rule.specs.Device.{Seen}
use Rattle.history_model.specs.Book.{Book, all, IsReached, IsNext, IsMark, Ordered}

-- UNIT. An image shows the start and all minutes up to its mark, among them the sure ones, but for days given up; the
-- minute that comes next may have taken one.
pub record Shows (Fills : Option HistoryMinute → List HistoryMinute → List ShownDay → Type 0)
    (first : ℕ) (b : Book) (u : UnitView) : Type 0 where
  pub next : Option HistoryMinute
  pub comes : IsNext b (up_to u.last (all b)) next
  pub days : Fills next (up_to u.last (all b)) u.days
  pub sure : All (λ i. i.minute ≤ u.last) b.sure
  pub mark : IsMark first (all b) u.last

-- an image since the start shows the start and minutes that were reached, and has the mark of the last of them
pub record Showed (Fills : Option HistoryMinute → List HistoryMinute → List ShownDay → Type 0)
    (first : ℕ) (b : Book) (u : UnitView) : Type 0 where
  pub past : List HistoryMinute
  pub next : Option HistoryMinute
  pub reached : IsReached b past
  pub comes : IsNext b past next
  pub days : Fills next past u.days
  pub mark : IsMark first past u.last
  pub until : All (λ i. i.minute ≤ u.last) past

-- a unit, with power or without: each image shows the minutes, and each since the start
pub record UnitHolds (Fills : Option HistoryMinute → List HistoryMinute → List ShownDay → Type 0)
    (first began due : ℕ) (b : Book) (unit : Seen UnitView) : Type 0 where
  pub later : began ≤ unit.clock
  pub order : Ordered first due b
  pub now : (u : UnitView) → unit.may_leave u → Shows Fills first b u
  pub since : (u : UnitView) → unit.left_since began u → Showed Fills first b u

-- what a unit's days do: a minute more, kept or given up for, no earlier than one that was given up for before
abbrev pub IsBefore : Option HistoryMinute → HistoryMinute → Type 0
IsBefore None i = Unit {0}
IsBefore (Some next) i = next.minute ≤ i.minute

-- what is asked of `Fills`: it goes on with a minute that is kept, and with one that a day was given up for
pub record DaysGoOn (Fills : Option HistoryMinute → List HistoryMinute → List ShownDay → Type 0)
    (Adds Gives : HistoryMinute → List ShownDay → List ShownDay → Type 0) : Type 0 where
  pub added : (next : Option HistoryMinute) (past : List HistoryMinute) (i : HistoryMinute) (x y : List ShownDay) →
      Fills next past x → IsBefore next i → Adds i x y → Fills None (past ++ i ∷ []) y
  pub given : (next : Option HistoryMinute) (past : List HistoryMinute) (i : HistoryMinute) (x y : List ShownDay) →
      Fills next past x → IsBefore next i → Gives i x y → Fills (Some i) past y

-- a mark: every view left since its clock is not behind it
abbrev pub Acknowledges : {V : Type 0} → (V → ℕ) → (minute clock : ℕ) → Seen V → Type 0
Acknowledges {V} level minute clock s = (clock ≤ s.clock) × ((v : V) → s.left_since clock v → minute ≤ level v)

-- how a card stands: not accepted, accepted, or torn out since
pub data Standing : Type 0 where
  Out : Standing
  In : (session newest : ℕ) → Standing
  Torn : (session newest floor : ℕ) → Standing

-- the newest minute of a card at its acceptance; of one that is not accepted this one
abbrev pub since : Standing → (newest : ℕ) → ℕ
since Out newest = newest
since (In session at) newest = at
since (Torn session at floor) newest = at

-- from which minute on an entry may come on a card to which these are owed
abbrev pub comes_from : CardStart → Standing → List Entry → CardView → ℕ
comes_from start s due x = next_of (suc (max start.word (since s (newest_with x due)))) due

-- What is asked of `Keeps`, which says that a string keeps these entries where the next one is not earlier than a
-- minute. It keeps them where the next one is later too, and the string goes on with entries that are added.
pub record EntriesGoOn (Keeps : ℕ → List Entry → Held → Type 0)
    (Adds : ℕ → Held → List Entry → Held → Type 0) : Type 0 where
  pub later : (next n : ℕ) (full : List Entry) (x : Held) → next ≤ n → Keeps next full x → Keeps n full x
  pub added : (next : ℕ) (full taken : List Entry) (x y : Held) → Keeps (next_of next taken) full x →
      Adds next x taken y → Keeps next (full ++ taken) y

-- What is asked of what is stated of a card, `Retains`, beside `Keeps`: entries that are owed, and come next, count as
-- there. They rise, and are later than the words at the start and than the end mark, which none of the others is
-- behind.
abbrev pub OwedCounts : CardStart → (Keeps : ℕ → List Entry → Held → Type 0) → (Retains : List Entry → Held → Type 0)
    → Type 0
OwedCounts start Keeps Retains = (next mark : ℕ) (more due : List Entry) (x : Held) → start.mark ≤ mark →
    All (λ e. e.minute ≤ mark) (start.entries ++ more) → All (λ e. mark < e.minute) due →
    All (λ e. start.word < e.minute) due → Rise due → Keeps (next_of next due) (start.entries ++ more) x →
    Retains (start.entries ++ (more ++ due)) (record x { entries = x.entries ++ due })

-- what a card brings, of the views at the opening
pub record Brings (Keeps : ℕ → List Entry → Held → Type 0) (c : Card) (start : CardStart) (u : UnitView)
    (x : CardView) : Type 0 where
  pub entries : start.entries ≡ x.held.entries
  pub owed : start.owed ≡ owed c u x
  pub mark : start.mark ≡ x.mark
  pub word : start.word ≡ beyond x
  pub kept : Keeps (comes_from start Out start.owed x) x.held.entries x.held
  pub marked : All (λ e. e.minute ≤ x.mark) x.held.entries
  pub bound : x.mark ≤ x.newest
  pub newest : x.newest ≡ trimmed_by start x.held.entries

-- PAIR. Between two calls, for each view that a stop may leave of the unit, and of the card.
pub record Meets (c : Card) (start : CardStart) (Keeps : ℕ → List Entry → Held → Type 0)
    (past : List HistoryMinute) (s : Standing) (u : UnitView) (x : CardView) : Type 0 where
  -- what the card has had beside its entries at the start; of all of these its entries are left
  pub more : List Entry
  pub left : Keeps (comes_from start s (owed c u x) x) (start.entries ++ more) x.held
  pub had : All (λ e. e.minute ≤ x.mark) (start.entries ++ more)
  pub whole : more ++ owed c u x ≡ start.owed ++ card_history c (up_to u.last past)
  -- an insertion that brings what is owed ends with the newest minute of the expected entries
  pub newest : newest_with x (owed c u x) ≡ trimmed_by start (start.entries ++ (more ++ owed c u x))
  -- not later than which is that of its acceptance, or the newest word at the start
  pub accepted : since s (newest_with x (owed c u x)) ≤ max start.word (newest_with x (owed c u x))
  pub mark : start.mark ≤ x.mark
  pub bound : x.mark ≤ x.newest
  -- where no session is open, words beyond the end mark are the start's, or no later than the newest minute
  pub words : x.session ≡ 0 → x.word ≤ max start.word x.newest

-- the session of the card is open, and is that of its row; what is owed is not earlier than a minute
pub record IsOpen (c : Card) (session newest floor : ℕ) (u : UnitView) (x : CardView) : Type 0 where
  pub opened : 0 < session
  pub same : x.session ≡ session
  pub taken : (row c u).session ≡ session
  pub mark : x.mark ≤ newest
  pub recent : All (λ e. floor ≤ e.minute) (owed c u x)

-- the cells for a card: those up to the last-kept minute, then these
pub record Cells (c : Card) (mine : List Entry) (u : UnitView) : Type 0 where
  pub olds : List Entry
  pub cells : (row c u).cells ≡ olds ++ mine
  pub kept : All (λ e. e.minute ≤ u.last) olds

-- no image since the start has a later end mark
abbrev pub NoLater : (began newest : ℕ) → Seen CardView → Type 0
NoLater began newest card = (x : CardView) → card.left_since began x → x.mark ≤ newest

-- an accepted card: no word of it is later than the start's and the newest minute
pub record IsIn (c : Card) (start : CardStart) (session newest : ℕ) (due : List Entry) (u : UnitView)
    (x : CardView) : Type 0 where
  pub open_ : IsOpen c session newest 0 u x
  pub due_ : owed c u x ≡ due
  pub words : x.word ≤ max start.word x.newest

-- what holds of a card as it stands
abbrev pub MeetsStanding : Card → CardStart → ℕ → Standing → List Entry → Seen UnitView → Seen CardView → Type 0
MeetsStanding c start began Out due unit card = Unit {0}
MeetsStanding c start began (In session newest) due unit card = (card.works ≡ true) × NoLater began newest card
    × ((u : UnitView) (x : CardView) → unit.may_leave u → card.may_leave x → IsIn c start session newest due u x)
MeetsStanding c start began (Torn session newest floor) due unit card = NoLater began newest card
    × ((u : UnitView) (x : CardView) → unit.may_leave u → card.may_leave x → IsOpen c session newest floor u x)

-- a card was inserted, and its row is not begun yet
pub record IsEntered (start : CardStart) (began now newest : ℕ) (card : Seen CardView) : Type 0 where
  pub works : card.works ≡ true
  pub no_later : NoLater began newest card
  pub session : (x : CardView) → card.may_leave x → x.session ≡ now
  pub mark : (x : CardView) → card.may_leave x → x.mark ≤ newest
  pub words : (x : CardView) → card.may_leave x → x.word ≤ max start.word x.newest
  pub answered : (x : CardView) → card.may_leave x → (x.newest ≤ newest) × (newest ≤ max start.word x.newest)

-- a minute in which a card is present: it is later than the words at the start, too
abbrev pub IsPresent : CardStart → Standing → ℕ → Type 0
IsPresent start Out m = ⊥
IsPresent start (In session newest) m = (start.word < m) × (newest < m) × (session / 60 ≤ m)
IsPresent start (Torn session newest floor) m = (start.word < m) × (newest < m) × (session / 60 ≤ m) × (floor ≤ m)
    × (m < floor + 4)

-- a minute says something on a card only where it is present
abbrev pub Fits : Card → CardStart → Standing → HistoryMinute → Type 0
Fits c start s i = (on_card c i ≡ []) ⊎ IsPresent start s i.minute

-- an image of a card since the start: what it has is a front of what is expected, and what it lacks is later than its
-- end mark
pub record Had (c : Card) (start : CardStart) (Keeps : ℕ → List Entry → Held → Type 0) (b : Book) (x : CardView) : Type
    0 where
  pub more : List Entry
  pub rest : List Entry
  pub next : ℕ
  pub left : Keeps next (start.entries ++ more) x.held
  pub whole : start.owed ++ card_history c b.sure ≡ more ++ rest
  pub lacks : All (λ e. x.mark < e.minute) (rest ++ card_history c (option_to_list b.maybe))
  pub bound : x.mark ≤ trimmed_by start (start.entries ++ (start.owed ++ card_history c b.sure))

-- a card while the unit is without power, or may be
pub record CardDark (c : Card) (start : CardStart) (Keeps : ℕ → List Entry → Held → Type 0)
    (began : ℕ) (b : Book) (s : Standing) (unit : Seen UnitView) (card : Seen CardView) : Type 0 where
  pub meets : (u : UnitView) (x : CardView) → unit.may_leave u → card.may_leave x → Meets c start Keeps (all b) s u x
  pub later : began ≤ card.clock
  pub since : (x : CardView) → card.left_since began x → Had c start Keeps b x

-- and while the unit has power
pub record CardRule (c : Card) (start : CardStart) (Keeps : ℕ → List Entry → Held → Type 0)
    (began : ℕ) (b : Book) (s : Standing)
    (mine due : List Entry) (unit : Seen UnitView) (card : Seen CardView) : Type 0 where
  pub dark : CardDark c start Keeps began b s unit card
  pub cells : (u : UnitView) → unit.may_leave u → Cells c mine u
  pub stands : MeetsStanding c start began s due unit card

-- and while the unit has power, no minute is half kept
pub record UnitRule (Fills : Option HistoryMinute → List HistoryMinute → List ShownDay → Type 0)
    (first began due : ℕ) (b : Book) (unit : Seen UnitView) : Type 0 where
  pub works : unit.works ≡ true
  pub none : b.maybe ≡ None
  pub holds : UnitHolds Fills first began due b unit

-- a card that was accepted when the unit's last-kept minute was this: nothing up to it is owed to it since
abbrev pub IsRepaired : Card → ℕ → Seen UnitView → Seen CardView → Type 0
IsRepaired c k unit card =
    (u : UnitView) (x : CardView) → unit.may_leave u → card.may_leave x → All (λ e. k < e.minute) (owed c u x)
