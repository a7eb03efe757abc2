-- What a changed session leaves of the others.
use Rattle.std.proofs.Common.{◌≡◌, ◌∙◌, ◌⊎◌, inl, inr, ⊎_elim, ℕ, ◌<◌, ◌≤◌, List, [], ◌∷◌, length, true, false, Option, Some, None, IfSome, refl, sym, ap, subst, arith, is_some}
use Rattle.std.specs.Prelude.{Ok}
use Rattle.trace_model.specs.declared.Card.{Card}
use Rattle.trace_model.specs.declared.Card.TheVariants.{A, B}
use Rattle.tacho_types.specs.declared.card_number.FullCardNumber.{FullCardNumber}
use Rattle.log_model.specs.Slots.{same_card}
use Rattle.card_slots.specs.declared.seats.Seat.{Seat}
use Rattle.card_slots.specs.Calls.{card_in, is_card}
use Rattle.run_crew.specs.declared.cards.Accepted.{Accepted}
use Rattle.run_crew.specs.declared.cards.Cards.{Cards}
use Rattle.run_crew.specs.Cards.{known_of, session_of, with_session, with_number, IsKnown}
use Rattle.activity_codec.specs.declared.entries.Manual.{Manual}
use Rattle.hand_model.specs.Holding.{Holding, LieBetween, first_of, begun_by}
use Rattle.run_crew.specs.Cabin.{AnswersTo, SeatAnswers, AreTwo, IsBehind, CanKeepNext, HoldsBy, HoldsHands, MayKeepAt, EndedStands}
use Rattle.card_slots.specs.declared.seats.Ended.{Ended}

-- ---- two cards are one or not

pub same_self : (c : Card) → same_card c c ≡ true
same_self A = refl
same_self B = refl

pub same_is : (c d : Card) → same_card c d ≡ true → c ≡ d
same_is A A e = refl
same_is B B e = refl
same_is A B e = absurd (cc)
same_is B A e = absurd (cc)

pub same_turned : (c d : Card) → same_card c d ≡ same_card d c
same_turned A A = refl
same_turned B B = refl
same_turned A B = refl
same_turned B A = refl

-- ---- a session that is changed

pub session_set : (c : Card) (s : Option Accepted) (cards : Cards) → session_of (with_session c s cards) c ≡ s
session_set A s cards = refl
session_set B s cards = refl

pub session_apart : (c d : Card) (s : Option Accepted) (cards : Cards) → same_card d c ≡ false → session_of (with_session c s cards) d ≡ session_of cards d
session_apart A A s cards e = absurd (cc)
session_apart B B s cards e = absurd (cc)
session_apart A B s cards e = refl
session_apart B A s cards e = refl

pub session_named : (c d : Card) (n : FullCardNumber) (row : ℕ) (cards : Cards) → session_of (with_number c n row cards) d ≡ session_of cards d
session_named A A n row cards = refl
session_named A B n row cards = refl
session_named B A n row cards = refl
session_named B B n row cards = refl

pub sized_of : (cards : Cards) (c : Card) (old : Accepted) → session_of cards c ≡ Some old → IsKnown cards.a → IsKnown cards.b → (known_of cards c).sizes ≡ Ok old.session.application
sized_of cards A old is a b = subst (λ (o : Option Accepted). IfSome o (λ x. cards.a.sizes ≡ Ok x.session.application)) is a.sized
sized_of cards B old is a b = subst (λ (o : Option Accepted). IfSome o (λ x. cards.b.sizes ≡ Ok x.session.application)) is b.sized

pub numbered_of : (cards : Cards) (c : Card) (old : Accepted) → session_of cards c ≡ Some old → IsKnown cards.a → IsKnown cards.b → is_some (known_of cards c).number ≡ true
numbered_of cards A old is a b = subst (λ (o : Option Accepted). IfSome o (λ x. is_some cards.a.number ≡ true)) is a.numbered
numbered_of cards B old is a b = subst (λ (o : Option Accepted). IfSome o (λ x. is_some cards.b.number ≡ true)) is b.numbered

-- ---- the card of a slot

-- the sessions are the same but for those of one card
abbrev pub SameBut : Card → Cards → Cards → Type 0
SameBut card cards new = (c : Card) → same_card c card ≡ false → session_of new c ≡ session_of cards c

pub seat_apart : (from : ℕ) (card : Card) (cards new : Cards) → SameBut card cards new → (seat : Option Seat) → is_card seat card ≡ false → SeatAnswers from cards seat → SeatAnswers from new seat
seat_apart from card cards new same None off answers = tt
seat_apart from card cards new same (Some seat) off answers = subst (λ (s : Option Accepted). AnswersTo from seat.newest s) (sym (same seat.card off)) answers

pub two_first : (card : Card) (seat : Option Seat) → is_card seat card ≡ false → AreTwo (Some card) (card_in seat)
two_first card None off = tt
two_first card (Some seat) off = same_turned card seat.card ∙ off

pub two_second : (card : Card) (seat : Option Seat) → is_card seat card ≡ false → AreTwo (card_in seat) (Some card)
two_second card None off = tt
two_second card (Some seat) off = off

pub two_none : (o : Option Card) → AreTwo o None
two_none None = tt
two_none (Some c) = tt

-- the card of one slot is not that of the other
pub off_first : (card : Card) (seat : Option Seat) → AreTwo (Some card) (card_in seat) → is_card seat card ≡ false
off_first card None two = refl
off_first card (Some seat) two = same_turned seat.card card ∙ two

pub off_second : (card : Card) (seat : Option Seat) → AreTwo (card_in seat) (Some card) → is_card seat card ≡ false
off_second card None two = refl
off_second card (Some seat) two = two

-- a card that sits in a slot is the slot's
pub sits_is : (card : Card) (seat : Option Seat) → is_card seat card ≡ true → card_in seat ≡ Some card
sits_is card None here = absurd (cc)
sits_is card (Some seat) here = ap (λ (c : Card). Some c) (same_is seat.card card here)

-- ---- the cards that were present

pub behind_none : (cards : Cards) (m : ℕ) (o : Option Card) → ((c : Card) → session_of cards c ≡ None) → IsBehind cards m o
behind_none cards m None none = tt
behind_none cards m (Some c) none = subst (λ (s : Option Accepted). IfSome s (λ a. a.session.minute < m)) (sym (none c)) tt

-- where each session is as it was, or gone
pub behind_less : (cards new : Cards) → ((c : Card) → (session_of new c ≡ None) ⊎ (session_of new c ≡ session_of cards c)) → (m : ℕ) (o : Option Card) → IsBehind cards m o → IsBehind new m o
behind_less cards new less m None behind = tt
behind_less cards new less m (Some c) behind = by (less c)
  where
    by : (session_of new c ≡ None) ⊎ (session_of new c ≡ session_of cards c) → IsBehind new m (Some c)
    by (inl gone) = subst (λ (s : Option Accepted). IfSome s (λ a. a.session.minute < m)) (sym gone) tt
    by (inr same) = subst (λ (s : Option Accepted). IfSome s (λ a. a.session.minute < m)) (sym same) behind

pub ended_less : (from before after : ℕ) (cards new : Cards) → before ≤ after → ((c : Card) → (session_of new c ≡ None) ⊎ (session_of new c ≡ session_of cards c))
    → (e : Ended) → EndedStands from before cards e → EndedStands from after new e
ended_less from before after cards new le less e h =
    let over = h.over in
    record {
      over = omega (arith, over, le);
      driver = λ late. behind_less cards new less e.minute e.present.driver (h.driver late);
      codriver = λ late. behind_less cards new less e.minute e.present.codriver (h.codriver late);
      apart = h.apart;
    }

-- one session is gone
pub gone_or_same : (card : Card) (cards : Cards) (c : Card) → (session_of (with_session card None cards) c ≡ None) ⊎ (session_of (with_session card None cards) c ≡ session_of cards c)
gone_or_same A cards A = inl refl
gone_or_same A cards B = inr refl
gone_or_same B cards A = inr refl
gone_or_same B cards B = inl refl

pub all_gone : (cards : Cards) (c : Card) → session_of (with_session B None (with_session A None cards)) c ≡ None
all_gone cards A = refl
all_gone cards B = refl

-- a card that has a session has not lost it
pub kept_is_apart : (card c : Card) (cards : Cards) → is_some (session_of (with_session card None cards) c) ≡ true → same_card c card ≡ false
kept_is_apart A A cards some = absurd (cc)
kept_is_apart A B cards some = refl
kept_is_apart B A cards some = refl
kept_is_apart B B cards some = absurd (cc)

-- ---- what sessions hold of entries by hand

-- from a later minute on
hold_by : (from to : ℕ) → from ≤ to → (a : Accepted) (o : Option ℕ) → HoldsBy from o a → HoldsBy to o a
hold_by from to le a (Some first) h = h
hold_by from to le a None h = (omega (arith, h.0, le), h.1, h.2)

pub hold_later : (from to : ℕ) → from ≤ to → (o : Option Accepted) → IfSome o (HoldsHands from) → IfSome o (HoldsHands to)
hold_later from to le None h = tt
hold_later from to le (Some a) h = hold_by from to le a a.held.begun h

-- where each session is as it was, or gone
pub hold_less : (from : ℕ) (cards new : Cards) → ((c : Card) → (session_of new c ≡ None) ⊎ (session_of new c ≡ session_of cards c)) → ((c : Card) → IfSome (session_of cards c) (HoldsHands from)) → (c : Card) → IfSome (session_of new c) (HoldsHands from)
hold_less from cards new less h c = ⊎_elim
    (λ gone. subst (λ (o : Option Accepted). IfSome o (HoldsHands from)) (sym gone) tt)
    (λ same. subst (λ (o : Option Accepted). IfSome o (HoldsHands from)) (sym same) (h c)) (less c)

-- entries by hand lie before a later minute too
pub lie_later : (after before later : ℕ) (es : List Manual) → before ≤ later → LieBetween after before es → LieBetween after later es
lie_later after before later [] le lie = omega (arith, lie, le)
lie_later after before later (e ∷ es) le lie = (lie.0, lie_later e.minute before later es le lie.1)

-- A MINUTE THAT MAY BE KEPT lies behind all that a session holds
may_by : (from m : ℕ) (a : Accepted) (o : Option ℕ) → a.held.begun ≡ o → from ≤ m → a.session.minute < m → HoldsBy from o a → MayKeepAt m a
may_by from m a (Some first) is le late h = record {
  lie = subst (λ (es : List Manual). LieBetween a.session.minute m es) (sym h) late;
  few = subst (λ (es : List Manual). length es ≤ 8) (sym h) (omega arith);
  once = λ n begun. h;
}
may_by from m a None is le late h = record {
  lie = ⊎_elim (λ none. subst (λ (es : List Manual). LieBetween a.session.minute m es) (sym none) late) (λ lie. lie_later a.session.minute a.held.inserted m a.held.entries (omega (arith, h.0, le)) lie) h.2;
  few = h.1;
  once = λ n begun. absurd (cc);
}

pub ready_for : (from m : ℕ) (cards : Cards) → from ≤ m → ((c : Card) → IfSome (session_of cards c) (HoldsHands from)) → (o : Option Card) → IsBehind cards m o → CanKeepNext cards m o
ready_for from m cards le holds None behind = tt
ready_for from m cards le holds (Some c) behind = by (session_of cards c) (holds c) behind
  where
    by : (o : Option Accepted) → IfSome o (HoldsHands from) → IfSome o (λ a. a.session.minute < m) → IfSome o (MayKeepAt m)
    by None h behind = tt
    by (Some a) h behind = may_by from m a a.held.begun refl le behind h

-- a session that kept a minute holds none
pub begun_holds : (n m : ℕ) (was : Holding) (a : Accepted) → a.held ≡ begun_by m was → HoldsHands n a
begun_holds n m was a is = subst (λ (g : Holding). HoldsBy n g.begun (record a { held = g })) (sym is) (by was.begun)
  where
    by : (o : Option ℕ) → HoldsBy n (first_of m o) (record a { held = record { inserted = was.inserted; begun = first_of m o; entries = [] } })
    by None = refl
    by (Some first) = refl
