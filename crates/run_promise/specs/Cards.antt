-- How a card of a run stands between two steps (profile).
use Rattle.std.specs.Prelude.{◌≡◌, ℕ, ◌/◌, ◌<◌, ◌≤◌, Option, Some, None, List, [], ◌∷◌, ◌++◌, All, Contains, filter}
use Rattle.std.specs.Prelude.{nat_le, option_to_list}
use Rattle.run_course.specs.activity_codec.declared.entries.Entry.{Entry}
use Rattle.run_course.specs.activity_codec.declared.entries.Manual.{Manual}
use Rattle.run_course.specs.trace_model.declared.Card.{Card}
use Rattle.tach_media.specs.Medium.{State}
use Rattle.run_course.specs.log_model.declared.lines.Mark.{Mark}
use Rattle.run_course.specs.log_model.Causes.{device_of}
use Rattle.unit_rule.specs.card_retention.Retains.{Rise}
use Rattle.unit_rule.specs.device_rule.Own.{own_view, own_sizes, own_number, IsOwnValid, KeepsFrom, KeepsOf}
use Rattle.unit_rule.specs.hand_model.AtStart.{all_at, hands_at, HasDayOf, StaysTold}
use Rattle.unit_rule.specs.hand_model.ByHand.{by_hand_in}
use Rattle.unit_rule.specs.hand_model.Holding.{AreOfDay}
use Rattle.unit_rule.specs.hand_model.Written.{Hands, IsPartOf}
use Rattle.run_course.specs.history_model.Minutes.{HistoryMinute, card_history, on_card}
use Rattle.run_course.specs.history_model.Presence.{CardStart}
use Rattle.run_course.specs.history_model.Book.{Book, all}
use Rattle.unit_rule.specs.device_rule.Views.{unit_view, owed}
use Rattle.unit_rule.specs.device_rule.Rules.{Standing, comes_from, Fits, CardDark, CardRule}
use Rattle.unit_rule.specs.device_rule.Marked.{of_card, HasMarked, HasBrought, IsBefore}
use Rattle.unit_rule.specs.Cards.{IsPromptOn, HasStood}
use Rattle.unit_rule.specs.Unit.{marks_of, Increase}
use Rattle.run_promise.specs.Found.{CardFound, Found, found_of, unit_seen, AnyKept}

-- the entries that a card is to have beside those at the start: those that are owed to it there, and then what the
-- minutes of a book say
abbrev pub brought_by : Card → CardStart → Book → List Entry
brought_by c start b = start.owed ++ card_history c (all b)

-- of entries those that an end mark counts
abbrev pub counted_to : ℕ → List Entry → List Entry
counted_to mark es = filter (λ e. nat_le e.minute mark) es

-- THE STRING. Each image since the start keeps the card's entries and those of the run up to its end mark, but for the
-- days that the stated overwriting took; of entries by hand it tells some of those at the start and of those given to
-- keeps, in their order, and those of the start of each day that it has; each is valid, and has the card's number; and
-- these entries rise.
pub record StringHolds (f : CardFound) (h : Hands) (c : Card) (b : Book) (card : State) : Type 0 where
  pub kept : (x : List ℕ) → card.left_since f.began x →
      KeepsOf f.image h.given (f.start.entries ++ counted_to (own_view x).mark (brought_by c f.start b))
      (own_view x).held
  pub told : (x : List ℕ) → card.left_since f.began x
      → IsPartOf (by_hand_in (own_sizes f.image) x) (hands_at f.image ++ h.given)
  pub behind : (x : List ℕ) → card.left_since f.began x → (own_view x).session ≡ 0
      → IsPartOf (all_at x) (hands_at f.image ++ h.given)
  pub stay : (x : List ℕ) → card.left_since f.began x → StaysTold f.image (own_sizes f.image) x
  pub valid : (x : List ℕ) → card.left_since f.began x → IsOwnValid x
  pub sizes : (x : List ℕ) → card.left_since f.began x → own_sizes x ≡ own_sizes f.image
  pub number : (x : List ℕ) → card.left_since f.began x → own_number x ≡ own_number f.image
  pub rises : Rise (brought_by c f.start b)

-- The string of an image goes on where the joint rule lets the next entry come: with the first that is owed, or else
-- behind the newest minute as the card stands.
abbrev pub StringGoesOn : CardFound → (given : List Manual) → Card → Book → Standing → (due : List Entry) → List ℕ
    → Type 0
StringGoesOn f given c b z due x =
    KeepsFrom f.image given (comes_from f.start z due (own_view x))
    (f.start.entries ++ counted_to (own_view x).mark (brought_by c f.start b)) (own_view x).held

-- so it is of each two images that a stop may leave of unit and card
abbrev pub MayBeBrought : Found → (given : List Manual) → Card → Book → Standing → (unit card : State) → Type 0
MayBeBrought f given c b z unit card = (u x : List ℕ) → unit.may_leave u → card.may_leave x →
    StringGoesOn (found_of f c) given c b z (owed c (unit_view f.card_a.number f.card_b.number u) (own_view x)) x

-- A minute may be kept by the unit, with its entry put for the card: nothing is half kept, it is later than all that
-- the card is to have so far, and it says at most one entry on the card, and only where that is present.
pub record MayKeep (f : Found) (c : Card) (b : Book) (z : Standing) (i : HistoryMinute) (unit card : State) : Type
    0 where
  pub none : b.maybe ≡ None
  pub day : 1440 ≤ i.minute
  pub early : IsBefore f.card_a.number f.card_b.number i.minute unit
  pub rule : CardRule c (found_of f c).start AnyKept (found_of f c).began b z (on_card c i) [] (unit_seen f unit)
      (of_card card)
  pub fits : Fits c (found_of f c).start z i
  pub one : (o : Option Entry) × (on_card c i ≡ option_to_list o)
  pub later : All (λ e. e.minute < i.minute) (brought_by c (found_of f c).start b)

-- a card's string, of all images since the start and of those that a stop may leave now
pub record IsStrung (f : Found) (h : Hands) (c : Card) (b : Book) (z : Standing) (unit card : State) : Type 0 where
  pub string : StringHolds (found_of f c) h c b card
  pub comes : MayBeBrought f h.given c b z unit card

-- THE CARD, while the unit has power or has none: the rule that joins it to the unit, its string, and what was brought
-- at its acceptances, when the unit had kept these minutes last
pub record CardWaits (f : Found) (h : Hands) (c : Card) (b : Book) (z : Standing) (ks : List ℕ)
    (unit card : State) : Type 0 where
  pub rests : CardDark c (found_of f c).start AnyKept (found_of f c).began b z (unit_seen f unit) (of_card card)
  pub string : StringHolds (found_of f c) h c b card
  pub comes : MayBeBrought f h.given c b z unit card
  pub brought : (k : ℕ) → Contains ks k → HasBrought f.card_a.number f.card_b.number c k unit card

-- and while it has power, with nothing put for a minute and nothing owed to a card that is accepted
pub record CardStands (f : Found) (h : Hands) (c : Card) (b : Book) (z : Standing) (ks : List ℕ)
    (unit card : State) : Type 0 where
  pub holds : CardRule c (found_of f c).start AnyKept (found_of f c).began b z [] [] (unit_seen f unit) (of_card card)
  pub string : StringHolds (found_of f c) h c b card
  pub comes : MayBeBrought f h.given c b z unit card
  pub brought : (k : ℕ) → Contains ks k → HasBrought f.card_a.number f.card_b.number c k unit card

-- MARKS. A mark's minute is that of an entry that is owed at the start or said by a sure minute, and the card has
-- acknowledged it, at once; and what stood then stands.
pub record IsCardHeld (f : CardFound) (c : Card) (b : Book) (card : State) (m : Mark) : Type 0 where
  pub began : f.began ≤ m.clock
  pub holds : HasMarked m.minute m.clock card
  pub prompt : IsPromptOn card m
  pub stood : HasStood (own_sizes f.image) card m
  pub sure : (e : Entry) × Contains (f.start.owed ++ card_history c b.sure) e × (e.minute ≡ m.minute)

-- of the marks those of a card are held, and increase; one that is not valid has none
pub record CardMarksHold (f : CardFound) (c : Card) (b : Book) (marks : List Mark) (card : State) : Type 0 where
  pub held : All (IsCardHeld f c b card) (marks_of (device_of c) marks)
  pub rise : Increase (marks_of (device_of c) marks)
  pub none : (IsOwnValid f.image → ⊥) → marks_of (device_of c) marks ≡ []

-- A SESSION'S FIRST KEEP that was acknowledged: its mark, and the entries by hand that it wrote
pub record FirstKeep : Type 0 where
  pub mark : Mark
  pub hands : List Manual

-- the first keeps of sessions with that of a keep more: one more, where its session had kept no minute before
abbrev pub and_first : (begun : Option ℕ) → FirstKeep → List FirstKeep → List FirstKeep
and_first None first firsts = firsts ++ first ∷ []
and_first (Some minute) first firsts = firsts

-- its entries by hand are among those that are sure; and every image since its mark whose days have that of the mark
-- tells them
pub record IsFirstHeld (f : CardFound) (h : Hands) (card : State) (k : FirstKeep) : Type 0 where
  pub clock : k.mark.clock ≤ card.clock
  pub day : AreOfDay (k.mark.minute / 1440) k.hands
  pub sure : All (λ e. Contains h.sure e) k.hands
  pub told : (x : List ℕ) → card.left_since k.mark.clock x → HasDayOf k.mark.minute (own_sizes f.image) x
      → All (λ e. Contains (by_hand_in (own_sizes f.image) x) e) k.hands

-- so it is of each first keep of a card
abbrev pub HandMarksHold : CardFound → Hands → List FirstKeep → State → Type 0
HandMarksHold f h firsts card = All (IsFirstHeld f h card) firsts

-- a card that the run may not write: it is as it was
abbrev pub IsUntouched : CardFound → State → Type 0
IsUntouched f card = (x : List ℕ) → card.left_since f.began x → x ≡ f.image
