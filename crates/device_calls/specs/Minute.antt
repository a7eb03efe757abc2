-- A card keeps its entry of a minute that the unit has (profile): what the rules know then, and what is carried of the
-- card's string from one entry to the next.
use Rattle.std.specs.Prelude.{◌≡◌, ◌⊎◌, ℕ, suc, ◌<◌, ◌≤◌, None, IfSome, List, [], ◌∷◌, ◌++◌, length}
use Rattle.std.specs.Prelude.{is_some, true}
use Rattle.activity_codec.specs.declared.entries.Entry.{Entry}
use Rattle.activity_codec.specs.declared.entries.Manual.{Manual}
use Rattle.trace_model.specs.declared.Card.{Card}
use Rattle.tach_media.specs.Medium.{State}
use Rattle.unit_rule.specs.card_retention.Expected.{Counted, with_entry}
use Rattle.unit_rule.specs.card_retention.Shown.{Bound}
use Rattle.card_session.specs.Sessions.{Session}
use Rattle.card_session.specs.Overwriting.{BeginsBehind, and_entry}
use Rattle.card_by_hand.specs.First.{AreHandsOf, IsShutAt}
use Rattle.card_by_hand.specs.Wider.{with_hands}
use Rattle.unit_rule.specs.card_string.Carried.{IsFresh}
use Rattle.hand_model.specs.Holding.{Holding}
use Rattle.unit_rule.specs.log_model.declared.lines.Mark.{Mark}
use Rattle.unit_rule.specs.history_model.Book.{Book}
use Rattle.unit_rule.specs.device_rule.Rules.{Standing, Out, In, Torn}
use Rattle.unit_rule.specs.Rule.{Started}
use Rattle.unit_rule.specs.Marks.{UnitFollowsBook}
use Rattle.device_calls.specs.Rule.{Both, opened, CardHolds}
use Rattle.device_calls.specs.OnCard.{SessionKnowsCard, CardMayTake, hands_for}

-- What minutes are kept over: how it all began, from where on a minute may come, the history, and the marks.
pub record Known : Type 0 where
  pub both : Both
  pub started : Started
  pub due : ℕ
  pub book : Book
  pub marks : List Mark

-- ---- a card that sits in its slot

-- what is carried of its string (card_string, `Goes`)
pub record Carry : Type 0 where
  pub slack : Bound
  pub covered : ℕ
  pub from : ℕ
  pub counted : Counted
  pub all : List Entry

-- with one entry more, and these entries by hand before it
abbrev pub and_kept : Carry → List Manual → Entry → Carry
and_kept w hands e =
    record {
      slack = and_entry w.slack e;
      covered = w.covered;
      from = suc e.minute;
      counted = with_entry w.covered (with_hands w.covered w.counted hands) e;
      all = w.all ++ e ∷ [];
    }

-- the session knows the card, and its string is carried so
abbrev pub KnowsCarried : Session → Carry → List ℕ → Type 0
KnowsCarried t w x = SessionKnowsCard t w.slack w.covered w.from w.counted w.all x

-- and this entry may come, with these entries by hand before it
abbrev pub MayTake : Session → Carry → List Manual → Entry → List ℕ → Type 0
MayTake t w hands e x = CardMayTake t w.slack w.covered w.from w.counted w.all hands e x

-- BY THE RULES AN ENTRY MAY BE KEPT on a card that came into its slot at this second: the unit tells its image and
-- follows its book, in which no minute is begun; the card sits in its slot and owes this entry alone, which lies behind
-- the words at the card's start; and it may come, with the entries by hand of its day that the session holds.
pub record MayKeepByRules (k : Known) (which : Card) (time : ℕ) (w : Carry) (session : Session) (held : Holding)
    (e : Entry) (unit card : State) : Type 0 where
  pub tells : is_some unit.image ≡ true
  pub holds : UnitFollowsBook k.started k.due k.book k.marks unit
  pub none : k.book.maybe ≡ None
  pub owed : CardHolds k.both which k.book (In time session.minute) [] (e ∷ []) unit card
  pub late : (opened k.both which).start.word < e.minute
  pub takes : IfSome card.image (MayTake session w (hands_for held e.minute) e)

-- the day of each entry that may come, where it is new, is later than that of the end mark, or none so far is as late
abbrev pub IsClear : Session → Carry → List ℕ → Type 0
IsClear t w x = (e : Entry) → t.minute < e.minute
    → BeginsBehind t.application e x ⊎ IsFresh t.application w.counted w.all x

-- THE ENTRIES BY HAND of a keep: they are of its minute's day and lie before it, they are at most eight, and no entry
-- is open where there is one
pub record MayWriteBefore (t : Session) (hands : List Manual) (e : Entry) (card : State) : Type 0 where
  pub are : AreHandsOf t e.minute hands
  pub few : length hands ≤ 8
  pub shut : 0 < length hands → IfSome card.image (IsShutAt t.application)

-- The card is in its slot with this session, and its string is carried so.
pub record IsSitting (t : Session) (w : Carry) (card : State) : Type 0 where
  pub from : w.from ≤ suc t.minute
  pub carried : IfSome card.image (SessionKnowsCard t w.slack w.covered w.from w.counted w.all)
  pub clear : IfSome card.image (IsClear t w)

-- a card that is not in its slot, accepted
abbrev pub IsNotIn : Standing → Type 0
IsNotIn Out = Unit {0}
IsNotIn (In session newest) = ⊥
IsNotIn (Torn session newest floor) = Unit {0}
