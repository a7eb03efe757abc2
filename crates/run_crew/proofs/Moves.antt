-- Slots and sessions go together after each call.
use Rattle.std.proofs.Common.{◌≡◌, ◌∙◌, inl, inr, ℕ, ◌+◌, ◌/◌, ◌<◌, ◌≤◌, Bool, true, false, cond, Option, Some, None, IfSome, List, [], ◌∷◌, refl, sym, ap, subst, arith, is_some, All, take}
use Rattle.std.specs.Prelude.{◌⊎◌, Result, Ok, nat_eq, not, ◌&&◌}
use Rattle.std.proofs.lemmas.Bool.{eqb-true, ltb-true}
use Rattle.std.proofs.lemmas.List.Elements.{All-nil, All-cons, All-head, All-tail, All-take, All-weaker}
use Rattle.activity_codec.specs.declared.values.Slot.{Slot}
use Rattle.activity_codec.specs.declared.values.Slot.TheVariants.{Driver, CoDriver}
use Rattle.trace_model.specs.declared.Card.{Card}
use Rattle.trace_model.specs.declared.Card.TheVariants.{A, B}
use Rattle.card_layout.specs.declared.files.Application.{Application}
use Rattle.tacho_types.specs.declared.card_number.FullCardNumber.{FullCardNumber}
use Rattle.log_model.specs.Slots.{same_card, other_slot}
use Rattle.card_slots.specs.declared.seats.Seat.{Seat}
use Rattle.card_slots.specs.declared.seats.Ended.{Ended}
use Rattle.card_slots.specs.declared.seats.Present.{Present}
use Rattle.card_slots.specs.Calls.{Seats, seat_in, card_in, is_card, powerless, is_earlier, present_of, present_in}
use Rattle.card_slots.specs.Kept.{KnowsNewest, left_in, nothing_yet, put_in, taken, cut_off, minute_ended}
use Rattle.card_slots.proofs.Newest.{new-knows}
use Rattle.run_crew.specs.declared.cards.Accepted.{Accepted}
use Rattle.run_crew.specs.declared.cards.Known.{Known}
use Rattle.run_crew.specs.declared.cards.Cards.{Cards}
use Rattle.run_crew.specs.declared.cabin.Cabin.{Cabin}
use Rattle.run_crew.specs.Cards.{known_of, session_of, with_session, with_number, with_sizes, IsKnown}
use Rattle.run_crew.specs.Cabin.{CabinIsSound, HoldsHands, AnswersTo, SeatAnswers, AreTwo, IsBehind, EndedStands, SitsThere, SitsNowhere, MayBeKept, slot_with, left_from, with_card_in, with_sizes_of, with_accepted, with_slot_left, with_session_of, torn_out, with_power_lost, with_minute_ended}
use Rattle.run_crew.proofs.Sessions.{hold_later, hold_less, ready_for, same_self, session_set, session_apart, session_named, sized_of, numbered_of, SameBut, seat_apart, two_first, two_second, two_none, off_first, off_second, sits_is, behind_none, ended_less, gone_or_same, all_gone, kept_is_apart}

-- ---- a card that has no session

known_bare : (known : Known) → known.accepted ≡ None → IsKnown known
known_bare known none = record {
  sized = subst (λ (o : Option Accepted). IfSome o (λ a. known.sizes ≡ Ok a.session.application)) (sym none) tt;
  numbered = subst (λ (o : Option Accepted). IfSome o (λ a. is_some known.number ≡ true)) (sym none) tt;
}

pub new-stands : (a b : Known) → a.accepted ≡ None → b.accepted ≡ None → (from : ℕ) → CabinIsSound from None (record { slots = nothing_yet; cards = record { a = a; b = b } })
new-stands a b no_a no_b from = record {
  a = known_bare a no_a;
  b = known_bare b no_b;
  driver = tt;
  codriver = tt;
  apart = tt;
  only = λ c some. absurd (bare c some);
  left = tt;
  past = All-nil (EndedStands from 0 (record { a = a; b = b }));
  newest = new-knows;
  hands = λ c. bare_holds c;
}
  where
    bare_holds : (c : Card) → IfSome (session_of (record { a = a; b = b }) c) (HoldsHands from)
    bare_holds A = subst (λ (o : Option Accepted). IfSome o (HoldsHands from)) (sym no_a) tt
    bare_holds B = subst (λ (o : Option Accepted). IfSome o (HoldsHands from)) (sym no_b) tt

    bare : (c : Card) → is_some (session_of (record { a = a; b = b }) c) ≡ true → ⊥
    bare A some = let e : false ≡ true = ap is_some (sym no_a) ∙ some in cc
    bare B some = let e : false ≡ true = ap is_some (sym no_b) ∙ some in cc

without : (card c : Card) (cards : Cards) → IsKnown cards.a → IsKnown cards.b → IsKnown (known_of (with_session card None cards) c)
without A A cards a b = record { sized = tt; numbered = tt }
without A B cards a b = b
without B A cards a b = a
without B B cards a b = record { sized = tt; numbered = tt }

-- ---- a card is put in

-- a card that sits nowhere has no session
no_session : (cabin : Cabin) (from : ℕ) (card : Card) → CabinIsSound from None cabin → SitsNowhere cabin.slots.seats card → session_of cabin.cards card ≡ None
no_session cabin from card h off = by (session_of cabin.cards card) refl
  where
    nowhere : SitsThere cabin.slots.seats card ⊎ (None ≡ Some card) → ⊥
    nowhere (inl (inl here)) = let d = off.driver in absurd (cc)
    nowhere (inl (inr here)) = let d = off.codriver in absurd (cc)
    nowhere (inr gone) = absurd (cc)

    by : (o : Option Accepted) → session_of cabin.cards card ≡ o → o ≡ None
    by None is = refl
    by (Some a) is = absurd (nowhere (h.only card (ap is_some is)))

put-seats : (seats : Seats) (slot : Slot) (card : Card) → seat_in seats slot ≡ None → is_card (seat_in seats (other_slot slot)) card ≡ false → SitsNowhere seats card
put-seats seats Driver card empty off = record { driver = ap (λ (o : Option Seat). is_card o card) empty; codriver = off }
put-seats seats CoDriver card empty off = record { driver = off; codriver = ap (λ (o : Option Seat). is_card o card) empty }

bare_answers : (from : ℕ) (cards : Cards) (card : Card) → session_of cards card ≡ None → AnswersTo from None (session_of cards card)
bare_answers from cards card none = subst (λ (s : Option Accepted). AnswersTo from None s) (sym none) tt

pub put-stands : (cabin : Cabin) (slot : Slot) (card : Card) (from : ℕ) → seat_in cabin.slots.seats slot ≡ None → is_card (seat_in cabin.slots.seats (other_slot slot)) card ≡ false
    → KnowsNewest (put_in slot card None cabin.slots) → CabinIsSound from None cabin → CabinIsSound from None (with_card_in slot card cabin)
put-stands cabin Driver card from empty off newest h =
    let none = no_session cabin from card h (put-seats cabin.slots.seats Driver card empty off) in
    record {
      a = h.a;
      b = h.b;
      driver = bare_answers from cabin.cards card none;
      codriver = h.codriver;
      apart = two_first card cabin.slots.seats.codriver off;
      only = λ c some. sits c (h.only c some);
      left = tt;
      past = h.past;
      newest = newest;
      hands = h.hands;
    }
  where
    sits : (c : Card) → SitsThere cabin.slots.seats c ⊎ (None ≡ Some c) → SitsThere (put_in Driver card None cabin.slots).seats c ⊎ (None ≡ Some c)
    sits c (inl (inl here)) = let e : is_card cabin.slots.seats.driver c ≡ false = ap (λ (o : Option Seat). is_card o c) empty in absurd (cc)
    sits c (inl (inr here)) = inl (inr here)
    sits c (inr gone) = absurd (cc)
put-stands cabin CoDriver card from empty off newest h =
    let none = no_session cabin from card h (put-seats cabin.slots.seats CoDriver card empty off) in
    record {
      a = h.a;
      b = h.b;
      driver = h.driver;
      codriver = bare_answers from cabin.cards card none;
      apart = two_second card cabin.slots.seats.driver off;
      only = λ c some. sits c (h.only c some);
      left = tt;
      past = h.past;
      newest = newest;
      hands = h.hands;
    }
  where
    sits : (c : Card) → SitsThere cabin.slots.seats c ⊎ (None ≡ Some c) → SitsThere (put_in CoDriver card None cabin.slots).seats c ⊎ (None ≡ Some c)
    sits c (inl (inl here)) = inl (inl here)
    sits c (inl (inr here)) = let e : is_card cabin.slots.seats.codriver c ≡ false = ap (λ (o : Option Seat). is_card o c) empty in absurd (cc)
    sits c (inr gone) = absurd (cc)

-- ---- a card has told its sizes

seat_same : (from : ℕ) (cards new : Cards) → ((c : Card) → session_of new c ≡ session_of cards c) → (seat : Option Seat) → SeatAnswers from cards seat → SeatAnswers from new seat
seat_same from cards new same None answers = tt
seat_same from cards new same (Some seat) answers = subst (λ (s : Option Accepted). AnswersTo from seat.newest s) (sym (same seat.card)) answers

-- where each session is as it was
same-stands : (cabin : Cabin) (new : Cards) (from : ℕ) (leaving : Option Card) → ((c : Card) → session_of new c ≡ session_of cabin.cards c) → IsKnown new.a → IsKnown new.b → CabinIsSound from leaving cabin
    → CabinIsSound from leaving (record { slots = cabin.slots; cards = new })
same-stands cabin new from leaving same a b h = record {
  a = a;
  b = b;
  driver = seat_same from cabin.cards new same cabin.slots.seats.driver h.driver;
  codriver = seat_same from cabin.cards new same cabin.slots.seats.codriver h.codriver;
  apart = h.apart;
  only = λ c some. h.only c (ap is_some (sym (same c)) ∙ some);
  left = h.left;
  past = All-weaker (EndedStands from cabin.slots.minute cabin.cards) (EndedStands from cabin.slots.minute new)
      (λ e was. ended_less from cabin.slots.minute cabin.slots.minute cabin.cards new (omega arith) (λ c. inr (same c)) e was) cabin.slots.past h.past;
  newest = h.newest;
  hands = λ c. subst (λ (o : Option Accepted). IfSome o (HoldsHands from)) (sym (same c)) (h.hands c);
}

pub measure-stands : (cabin : Cabin) (card : Card) (sizes : Result Application ℕ) (from : ℕ) (leaving : Option Card) → session_of cabin.cards card ≡ None → CabinIsSound from leaving cabin → CabinIsSound from leaving (with_sizes_of card sizes cabin)
measure-stands cabin A sizes from leaving bare h =
    same-stands cabin (with_sizes A sizes cabin.cards) from leaving same (known_bare (record cabin.cards.a { sizes = sizes }) bare) h.b h
  where
    same : (c : Card) → session_of (with_sizes A sizes cabin.cards) c ≡ session_of cabin.cards c
    same A = refl
    same B = refl
measure-stands cabin B sizes from leaving bare h =
    same-stands cabin (with_sizes B sizes cabin.cards) from leaving same h.a (known_bare (record cabin.cards.b { sizes = sizes }) bare) h
  where
    same : (c : Card) → session_of (with_sizes B sizes cabin.cards) c ≡ session_of cabin.cards c
    same A = refl
    same B = refl

-- ---- a card is accepted

module _ (cabin : Cabin) (card : Card) (number : FullCardNumber) (row : ℕ) (accepted : Accepted) (from : ℕ) (early : cabin.slots.minute ≤ from)
    (sizes : (known_of cabin.cards card).sizes ≡ Ok accepted.session.application) (holds : HoldsHands from accepted) (h : CabinIsSound from None cabin) where
  hands_now : (c : Card) → IfSome (session_of (with_session card (Some accepted) (with_number card number row cabin.cards)) c) (HoldsHands from)
  hands_now c = by card c h.hands
    where
      by : (k c : Card) → ((c : Card) → IfSome (session_of cabin.cards c) (HoldsHands from)) → IfSome (session_of (with_session k (Some accepted) (with_number k number row cabin.cards)) c) (HoldsHands from)
      by A A was = holds
      by A B was = was B
      by B A was = was A
      by B B was = holds

  known_now : (c : Card) → IsKnown (known_of (with_session card (Some accepted) (with_number card number row cabin.cards)) c)
  known_now c = by card c sizes
    where
      by : (k c : Card) → (known_of cabin.cards k).sizes ≡ Ok accepted.session.application → IsKnown (known_of (with_session k (Some accepted) (with_number k number row cabin.cards)) c)
      by A A sizes = record { sized = sizes; numbered = refl }
      by A B sizes = h.b
      by B A sizes = h.a
      by B B sizes = record { sized = sizes; numbered = refl }

  same_but : SameBut card cabin.cards (with_session card (Some accepted) (with_number card number row cabin.cards))
  same_but c off = session_apart card c (Some accepted) (with_number card number row cabin.cards) off ∙ session_named card c number row cabin.cards

  answers_now : AnswersTo from (Some accepted.session.minute) (session_of (with_session card (Some accepted) (with_number card number row cabin.cards)) card)
  answers_now =
      let le : accepted.session.minute ≤ accepted.session.minute = omega arith in
      subst (λ (s : Option Accepted). AnswersTo from (Some accepted.session.minute) s) (sym (session_set card (Some accepted) (with_number card number row cabin.cards))) (inl le)

  -- no minute that has ended is to be kept any more
  past_now : All (EndedStands from cabin.slots.minute (with_session card (Some accepted) (with_number card number row cabin.cards))) cabin.slots.past
  past_now = All-weaker (EndedStands from cabin.slots.minute cabin.cards) (EndedStands from cabin.slots.minute (with_session card (Some accepted) (with_number card number row cabin.cards)))
      (λ e was. let over = was.over in record { over = over; driver = λ late. absurd (omega (arith, over, late, early)); codriver = λ late. absurd (omega (arith, over, late, early)); apart = was.apart })
      cabin.slots.past h.past

  -- where a card has its session from
  old_or_new : (c : Card) → is_some (session_of (with_session card (Some accepted) (with_number card number row cabin.cards)) c) ≡ true → (same_card card c ≡ true) ⊎ (is_some (session_of cabin.cards c) ≡ true)
  old_or_new c some = by card c some
    where
      by : (k c : Card) → is_some (session_of (with_session k (Some accepted) (with_number k number row cabin.cards)) c) ≡ true → (same_card k c ≡ true) ⊎ (is_some (session_of cabin.cards c) ≡ true)
      by A A some = inl refl
      by A B some = inr some
      by B A some = inr some
      by B B some = inl refl

  seated : (o : Option Seat) (c : Card) → o ≡ Some (record { card = card; newest = None }) → is_card o c ≡ same_card card c
  seated o c is = ap (λ (o : Option Seat). is_card o c) is

  pub accept-stands : (slot : Slot) → seat_in cabin.slots.seats slot ≡ Some (record { card = card; newest = None }) → is_card (seat_in cabin.slots.seats (other_slot slot)) card ≡ false
      → KnowsNewest (put_in slot card (Some accepted.session.minute) cabin.slots) → CabinIsSound from None (with_accepted slot card number row accepted cabin)
  accept-stands Driver seat off newest = record {
    a = known_now A;
    b = known_now B;
    driver = answers_now;
    codriver = seat_apart from card cabin.cards (with_session card (Some accepted) (with_number card number row cabin.cards)) same_but cabin.slots.seats.codriver off h.codriver;
    apart = two_first card cabin.slots.seats.codriver off;
    only = λ c some. sits c (old_or_new c some);
    left = tt;
    past = past_now;
    newest = newest;
    hands = hands_now;
  }
    where
      stays : (c : Card) → SitsThere cabin.slots.seats c ⊎ (None ≡ Some c) → SitsThere (put_in Driver card (Some accepted.session.minute) cabin.slots).seats c ⊎ (None ≡ Some c)
      stays c (inl (inl here)) = inl (inl (sym (seated cabin.slots.seats.driver c seat) ∙ here))
      stays c (inl (inr here)) = inl (inr here)
      stays c (inr gone) = inr gone

      sits : (c : Card) → (same_card card c ≡ true) ⊎ (is_some (session_of cabin.cards c) ≡ true) → SitsThere (put_in Driver card (Some accepted.session.minute) cabin.slots).seats c ⊎ (None ≡ Some c)
      sits c (inl here) = inl (inl here)
      sits c (inr some) = stays c (h.only c some)
  accept-stands CoDriver seat off newest = record {
    a = known_now A;
    b = known_now B;
    driver = seat_apart from card cabin.cards (with_session card (Some accepted) (with_number card number row cabin.cards)) same_but cabin.slots.seats.driver off h.driver;
    codriver = answers_now;
    apart = two_second card cabin.slots.seats.driver off;
    only = λ c some. sits c (old_or_new c some);
    left = tt;
    past = past_now;
    newest = newest;
    hands = hands_now;
  }
    where
      stays : (c : Card) → SitsThere cabin.slots.seats c ⊎ (None ≡ Some c) → SitsThere (put_in CoDriver card (Some accepted.session.minute) cabin.slots).seats c ⊎ (None ≡ Some c)
      stays c (inl (inl here)) = inl (inl here)
      stays c (inl (inr here)) = inl (inr (sym (seated cabin.slots.seats.codriver c seat) ∙ here))
      stays c (inr gone) = inr gone

      sits : (c : Card) → (same_card card c ≡ true) ⊎ (is_some (session_of cabin.cards c) ≡ true) → SitsThere (put_in CoDriver card (Some accepted.session.minute) cabin.slots).seats c ⊎ (None ≡ Some c)
      sits c (inl here) = inl (inr here)
      sits c (inr some) = stays c (h.only c some)

-- ---- a card leaves its slot

later_past : (from before after : ℕ) (cards : Cards) (past : List Ended) → before ≤ after → All (EndedStands from before cards) past → All (EndedStands from after cards) past
later_past from before after cards past le h =
    All-weaker (EndedStands from before cards) (EndedStands from after cards) (λ e was. ended_less from before after cards cards le (λ c. inr refl) e was) past h

pub leave-stands : (cabin : Cabin) (slot : Slot) (second from : ℕ) (card : Card) → cabin.slots.minute ≤ second / 60 → card_in (seat_in cabin.slots.seats slot) ≡ Some card
    → KnowsNewest (taken slot second cabin.slots) → CabinIsSound from None cabin → CabinIsSound from (Some card) (with_slot_left slot second cabin)
leave-stands cabin Driver second from card le is newest h = record {
  a = h.a;
  b = h.b;
  driver = tt;
  codriver = h.codriver;
  apart = tt;
  only = λ c some. sits c (h.only c some);
  left = record { driver = refl; codriver = off_first card cabin.slots.seats.codriver (subst (λ (o : Option Card). AreTwo o (card_in cabin.slots.seats.codriver)) is h.apart) };
  past = later_past from cabin.slots.minute (second / 60) cabin.cards cabin.slots.past le h.past;
  newest = newest;
  hands = h.hands;
}
  where
    sits : (c : Card) → SitsThere cabin.slots.seats c ⊎ (None ≡ Some c) → SitsThere (taken Driver second cabin.slots).seats c ⊎ (Some card ≡ Some c)
    sits c (inl (inl here)) = inr (sym is ∙ sits_is c cabin.slots.seats.driver here)
    sits c (inl (inr here)) = inl (inr here)
    sits c (inr gone) = absurd (cc)
leave-stands cabin CoDriver second from card le is newest h = record {
  a = h.a;
  b = h.b;
  driver = h.driver;
  codriver = tt;
  apart = two_none (card_in cabin.slots.seats.driver);
  only = λ c some. sits c (h.only c some);
  left = record { driver = off_second card cabin.slots.seats.driver (subst (λ (o : Option Card). AreTwo (card_in cabin.slots.seats.driver) o) is h.apart); codriver = refl };
  past = later_past from cabin.slots.minute (second / 60) cabin.cards cabin.slots.past le h.past;
  newest = newest;
  hands = h.hands;
}
  where
    sits : (c : Card) → SitsThere cabin.slots.seats c ⊎ (None ≡ Some c) → SitsThere (taken CoDriver second cabin.slots).seats c ⊎ (Some card ≡ Some c)
    sits c (inl (inl here)) = inl (inl here)
    sits c (inl (inr here)) = inr (sym is ∙ sits_is c cabin.slots.seats.codriver here)
    sits c (inr gone) = absurd (cc)

-- ---- a session is closed, or a card torn out

apart_none : (card : Card) (cards : Cards) → SameBut card cards (with_session card None cards)
apart_none card cards c off = session_apart card c None cards off

-- what it had it has still
still_some : (card c : Card) (cards : Cards) → is_some (session_of (with_session card None cards) c) ≡ true → is_some (session_of cards c) ≡ true
still_some card c cards some = ap is_some (sym (session_apart card c None cards (kept_is_apart card c cards some))) ∙ some

pub close-stands : (cabin : Cabin) (card : Card) (from : ℕ) → CabinIsSound from (Some card) cabin → CabinIsSound from None (with_session_of card None cabin)
close-stands cabin card from h = record {
  a = without card A cabin.cards h.a h.b;
  b = without card B cabin.cards h.a h.b;
  driver = seat_apart from card cabin.cards (with_session card None cabin.cards) (apart_none card cabin.cards) cabin.slots.seats.driver h.left.driver h.driver;
  codriver = seat_apart from card cabin.cards (with_session card None cabin.cards) (apart_none card cabin.cards) cabin.slots.seats.codriver h.left.codriver h.codriver;
  apart = h.apart;
  only = λ c some. sits c (kept_is_apart card c cabin.cards some) (h.only c (still_some card c cabin.cards some));
  left = tt;
  past = All-weaker (EndedStands from cabin.slots.minute cabin.cards) (EndedStands from cabin.slots.minute (with_session card None cabin.cards))
      (λ e was. ended_less from cabin.slots.minute cabin.slots.minute cabin.cards (with_session card None cabin.cards) (omega arith) (gone_or_same card cabin.cards) e was) cabin.slots.past h.past;
  newest = h.newest;
  hands = hold_less from cabin.cards (with_session card None cabin.cards) (gone_or_same card cabin.cards) h.hands;
}
  where
    sits : (c : Card) → same_card c card ≡ false → SitsThere cabin.slots.seats c ⊎ (Some card ≡ Some c) → SitsThere cabin.slots.seats c ⊎ (None ≡ Some c)
    sits c off (inl here) = inl here
    sits c off (inr is) =
        let e : card ≡ c = cc in
        let own : same_card c card ≡ true = subst (λ (d : Card). same_card d card ≡ true) e (same_self card) in
        absurd (cc)

module _ (cabin : Cabin) (card : Card) (second from : ℕ) (leaving : Option Card) (le : cabin.slots.minute ≤ second / 60) (h : CabinIsSound from leaving cabin) where
  torn_past : (after : ℕ) → cabin.slots.minute ≤ after → All (EndedStands from after (with_session card None cabin.cards)) cabin.slots.past
  torn_past after late = All-weaker (EndedStands from cabin.slots.minute cabin.cards) (EndedStands from after (with_session card None cabin.cards))
      (λ e was. ended_less from cabin.slots.minute after cabin.cards (with_session card None cabin.cards) late (gone_or_same card cabin.cards) e was) cabin.slots.past h.past

  -- from the driver slot
  torn-driver : is_card cabin.slots.seats.driver card ≡ true → KnowsNewest (taken Driver second cabin.slots)
      → CabinIsSound from leaving (record { slots = taken Driver second cabin.slots; cards = with_session card None cabin.cards })
  torn-driver here newest =
      let off = off_first card cabin.slots.seats.codriver (subst (λ (o : Option Card). AreTwo o (card_in cabin.slots.seats.codriver)) (sits_is card cabin.slots.seats.driver here) h.apart) in
      record {
        a = without card A cabin.cards h.a h.b;
        b = without card B cabin.cards h.a h.b;
        driver = tt;
        codriver = seat_apart from card cabin.cards (with_session card None cabin.cards) (apart_none card cabin.cards) cabin.slots.seats.codriver off h.codriver;
        apart = tt;
        only = λ c some. sits c (kept_is_apart card c cabin.cards some) (h.only c (still_some card c cabin.cards some));
        left = nowhere leaving h.left;
        past = torn_past (second / 60) le;
        newest = newest;
        hands = hold_less from cabin.cards (with_session card None cabin.cards) (gone_or_same card cabin.cards) h.hands;
      }
    where
      sits : (c : Card) → same_card c card ≡ false → SitsThere cabin.slots.seats c ⊎ (leaving ≡ Some c) → SitsThere (taken Driver second cabin.slots).seats c ⊎ (leaving ≡ Some c)
      sits c off (inl (inl there)) =
          let e : Some card ≡ Some c = sym (sits_is card cabin.slots.seats.driver here) ∙ sits_is c cabin.slots.seats.driver there in
          let one : card ≡ c = cc in
          let own : same_card c card ≡ true = subst (λ (d : Card). same_card d card ≡ true) one (same_self card) in
          absurd (cc)
      sits c off (inl (inr there)) = inl (inr there)
      sits c off (inr is) = inr is

      nowhere : (l : Option Card) → IfSome l (SitsNowhere cabin.slots.seats) → IfSome l (SitsNowhere (taken Driver second cabin.slots).seats)
      nowhere None none = tt
      nowhere (Some c) none = record { driver = refl; codriver = none.codriver }

  -- from the co-driver slot
  torn-codriver : is_card cabin.slots.seats.driver card ≡ false → is_card cabin.slots.seats.codriver card ≡ true → KnowsNewest (taken CoDriver second cabin.slots)
      → CabinIsSound from leaving (record { slots = taken CoDriver second cabin.slots; cards = with_session card None cabin.cards })
  torn-codriver off here newest = record {
    a = without card A cabin.cards h.a h.b;
    b = without card B cabin.cards h.a h.b;
    driver = seat_apart from card cabin.cards (with_session card None cabin.cards) (apart_none card cabin.cards) cabin.slots.seats.driver off h.driver;
    codriver = tt;
    apart = two_none (card_in cabin.slots.seats.driver);
    only = λ c some. sits c (kept_is_apart card c cabin.cards some) (h.only c (still_some card c cabin.cards some));
    left = nowhere leaving h.left;
    past = torn_past (second / 60) le;
    newest = newest;
    hands = hold_less from cabin.cards (with_session card None cabin.cards) (gone_or_same card cabin.cards) h.hands;
  }
    where
      sits : (c : Card) → same_card c card ≡ false → SitsThere cabin.slots.seats c ⊎ (leaving ≡ Some c) → SitsThere (taken CoDriver second cabin.slots).seats c ⊎ (leaving ≡ Some c)
      sits c off (inl (inl there)) = inl (inl there)
      sits c off (inl (inr there)) =
          let e : Some card ≡ Some c = sym (sits_is card cabin.slots.seats.codriver here) ∙ sits_is c cabin.slots.seats.codriver there in
          let one : card ≡ c = cc in
          let own : same_card c card ≡ true = subst (λ (d : Card). same_card d card ≡ true) one (same_self card) in
          absurd (cc)
      sits c off (inr is) = inr is

      nowhere : (l : Option Card) → IfSome l (SitsNowhere cabin.slots.seats) → IfSome l (SitsNowhere (taken CoDriver second cabin.slots).seats)
      nowhere None none = tt
      nowhere (Some c) none = record { driver = none.driver; codriver = refl }

  -- from none
  torn-nowhere : is_card cabin.slots.seats.driver card ≡ false → is_card cabin.slots.seats.codriver card ≡ false
      → CabinIsSound from leaving (record { slots = cabin.slots; cards = with_session card None cabin.cards })
  torn-nowhere off beside = record {
    a = without card A cabin.cards h.a h.b;
    b = without card B cabin.cards h.a h.b;
    driver = seat_apart from card cabin.cards (with_session card None cabin.cards) (apart_none card cabin.cards) cabin.slots.seats.driver off h.driver;
    codriver = seat_apart from card cabin.cards (with_session card None cabin.cards) (apart_none card cabin.cards) cabin.slots.seats.codriver beside h.codriver;
    apart = h.apart;
    only = λ c some. h.only c (still_some card c cabin.cards some);
    left = h.left;
    past = torn_past cabin.slots.minute (omega arith);
    newest = h.newest;
    hands = hold_less from cabin.cards (with_session card None cabin.cards) (gone_or_same card cabin.cards) h.hands;
  }

  abbrev TornBy : Option Slot → Type 0
  TornBy o = CabinIsSound from leaving (record { slots = left_from o second cabin.slots; cards = with_session card None cabin.cards })

  pub tear-stands : KnowsNewest (left_from (slot_with cabin.slots.seats card) second cabin.slots) → CabinIsSound from leaving (torn_out card second cabin)
  tear-stands newest = by (is_card cabin.slots.seats.driver card) (is_card cabin.slots.seats.codriver card) refl refl
    where
      by : (d k : Bool) → is_card cabin.slots.seats.driver card ≡ d → is_card cabin.slots.seats.codriver card ≡ k → CabinIsSound from leaving (torn_out card second cabin)
      by true k here beside =
          let at : slot_with cabin.slots.seats card ≡ Some Driver = ap (λ (d : Bool). cond d (Some Driver) (cond (is_card cabin.slots.seats.codriver card) (Some CoDriver) None)) here in
          subst TornBy (sym at) (torn-driver here (subst (λ (o : Option Slot). KnowsNewest (left_from o second cabin.slots)) at newest))
      by false true off here =
          let at : slot_with cabin.slots.seats card ≡ Some CoDriver =
          ap (λ (d : Bool). cond d (Some Driver) (cond (is_card cabin.slots.seats.codriver card) (Some CoDriver) None)) off ∙ ap (λ (k : Bool). cond k (Some CoDriver) None) here in
          subst TornBy (sym at) (torn-codriver off here (subst (λ (o : Option Slot). KnowsNewest (left_from o second cabin.slots)) at newest))
      by false false off beside =
          let at : slot_with cabin.slots.seats card ≡ None =
          ap (λ (d : Bool). cond d (Some Driver) (cond (is_card cabin.slots.seats.codriver card) (Some CoDriver) None)) off ∙ ap (λ (k : Bool). cond k (Some CoDriver) None) beside in
          subst TornBy (sym at) (torn-nowhere off beside)

-- a card that has left its slot is torn out as its session is closed
pub tear-left : (cabin : Cabin) (card : Card) (second from : ℕ) → CabinIsSound from (Some card) cabin → CabinIsSound from None (torn_out card second cabin)
tear-left cabin card second from h =
    let at : slot_with cabin.slots.seats card ≡ None =
    ap (λ (d : Bool). cond d (Some Driver) (cond (is_card cabin.slots.seats.codriver card) (Some CoDriver) None)) h.left.driver ∙ ap (λ (k : Bool). cond k (Some CoDriver) None) h.left.codriver in
    subst (λ (o : Option Slot). CabinIsSound from None (record { slots = left_from o second cabin.slots; cards = with_session card None cabin.cards })) (sym at) (close-stands cabin card from h)

-- ---- power is lost

dark_seat : (from : ℕ) (cards : Cards) (seat : Option Seat) → ((c : Card) → session_of cards c ≡ None) → SeatAnswers from cards (powerless seat)
dark_seat from cards None none = tt
dark_seat from cards (Some seat) none = bare_answers from cards seat.card (none seat.card)

dark_card : (seat : Option Seat) → card_in (powerless seat) ≡ card_in seat
dark_card None = refl
dark_card (Some seat) = refl

pub cut-stands : (cabin : Cabin) (second from to : ℕ) (leaving : Option Card) → cabin.slots.minute ≤ second / 60 → KnowsNewest (cut_off second cabin.slots) → CabinIsSound from leaving cabin → CabinIsSound to None (with_power_lost second cabin)
cut-stands cabin second from to leaving le newest h = record {
  a = record { sized = tt; numbered = tt };
  b = record { sized = tt; numbered = tt };
  driver = dark_seat to (with_session B None (with_session A None cabin.cards)) cabin.slots.seats.driver (all_gone cabin.cards);
  codriver = dark_seat to (with_session B None (with_session A None cabin.cards)) cabin.slots.seats.codriver (all_gone cabin.cards);
  apart = subst (λ (o : Option Card). AreTwo o (card_in (powerless cabin.slots.seats.codriver))) (sym (dark_card cabin.slots.seats.driver))
      (subst (λ (o : Option Card). AreTwo (card_in cabin.slots.seats.driver) o) (sym (dark_card cabin.slots.seats.codriver)) h.apart);
  only = λ c some. absurd (none c some);
  left = tt;
  past = All-weaker (EndedStands from cabin.slots.minute cabin.cards) (EndedStands to (second / 60) (with_session B None (with_session A None cabin.cards))) (λ e was. dark e was) cabin.slots.past h.past;
  newest = newest;
  hands = λ c. none_held_dark c;
}
  where
    none : (c : Card) → is_some (session_of (with_session B None (with_session A None cabin.cards)) c) ≡ true → ⊥
    none A some = cc
    none B some = cc

    none_held_dark : (c : Card) → IfSome (session_of (with_session B None (with_session A None cabin.cards)) c) (HoldsHands to)
    none_held_dark A = tt
    none_held_dark B = tt

    dark : (e : Ended) → EndedStands from cabin.slots.minute cabin.cards e → EndedStands to (second / 60) (with_session B None (with_session A None cabin.cards)) e
    dark e was = record {
      over = let over = was.over in omega (arith, over, le);
      driver = λ late. behind_none (with_session B None (with_session A None cabin.cards)) e.minute e.present.driver (all_gone cabin.cards);
      codriver = λ late. behind_none (with_session B None (with_session A None cabin.cards)) e.minute e.present.codriver (all_gone cabin.cards);
      apart = was.apart;
    }

-- ---- a minute has ended

answered : (from m : ℕ) → from ≤ m → (newest : Option ℕ) (session : Option Accepted) → is_earlier newest m ≡ true → AnswersTo from newest session → IfSome session (λ a. a.session.minute < m)
answered from m le None session early h = absurd (cc)
answered from m le (Some n) None early h = tt
answered from m le (Some n) (Some a) early h = by h
  where
    by : (a.session.minute ≤ n) ⊎ (a.session.minute < from) → a.session.minute < m
    by (inl most) = let less : n < m = ltb-true n m early in omega (arith, most, less)
    by (inr kept) = omega (arith, kept, le)

both_true : (a b : Bool) → (a && b) ≡ true → a ≡ true
both_true true b is = refl
both_true false b is = cc

present_behind : (from m : ℕ) (cards : Cards) (left : Card → ℕ → Bool) → from ≤ m → (seat : Option Seat) → SeatAnswers from cards seat → IsBehind cards m (present_of left m seat)
present_behind from m cards left le None h = tt
present_behind from m cards left le (Some seat) h = by (is_earlier seat.newest m && not (left seat.card m)) refl
  where
    by : (b : Bool) → (is_earlier seat.newest m && not (left seat.card m)) ≡ b → IsBehind cards m (cond b (Some seat.card) None)
    by false is = tt
    by true is = answered from m le seat.newest (session_of cards seat.card) (both_true (is_earlier seat.newest m) (not (left seat.card m)) is) h

-- the card that was present is that of the slot, or none was
present_or : (left : Card → ℕ → Bool) (m : ℕ) (seat : Option Seat) → (present_of left m seat ≡ None) ⊎ (present_of left m seat ≡ card_in seat)
present_or left m None = inl refl
present_or left m (Some seat) = by (is_earlier seat.newest m && not (left seat.card m))
  where
    by : (b : Bool) → (cond b (Some seat.card) None ≡ None) ⊎ (cond b (Some seat.card) None ≡ Some seat.card)
    by true = inr refl
    by false = inl refl

two_less : (a b c d : Option Card) → AreTwo c d → (a ≡ None) ⊎ (a ≡ c) → (b ≡ None) ⊎ (b ≡ d) → AreTwo a b
two_less a b c d two (inl none) second = subst (λ (o : Option Card). AreTwo o b) (sym none) tt
two_less a b c d two (inr same) (inl none) = subst (λ (o : Option Card). AreTwo a o) (sym none) (two_none a)
two_less a b c d two (inr same) (inr here) = subst (λ (o : Option Card). AreTwo o b) (sym same) (subst (λ (o : Option Card). AreTwo c o) (sym here) two)

pub end-stands : (cabin : Cabin) (m from : ℕ) → cabin.slots.minute ≤ m → from ≤ m → KnowsNewest (minute_ended m cabin.slots) → CabinIsSound from None cabin → CabinIsSound from None (with_minute_ended m cabin)
end-stands cabin m from le early newest h =
    let ended : Ended = record { minute = m; present = record { driver = present_of (left_in cabin.slots.left) m cabin.slots.seats.driver; codriver = present_of (left_in cabin.slots.left) m cabin.slots.seats.codriver } } in
    record {
      a = h.a;
      b = h.b;
      driver = h.driver;
      codriver = h.codriver;
      apart = h.apart;
      only = h.only;
      left = tt;
      past = All-cons (EndedStands from (m + 1) cabin.cards) ended (take 3 cabin.slots.past)
          (record {
            over = omega arith;
            driver = λ late. present_behind from m cabin.cards (left_in cabin.slots.left) early cabin.slots.seats.driver h.driver;
            codriver = λ late. present_behind from m cabin.cards (left_in cabin.slots.left) early cabin.slots.seats.codriver h.codriver;
            apart = two_less _ _ (card_in cabin.slots.seats.driver) (card_in cabin.slots.seats.codriver) h.apart (present_or (left_in cabin.slots.left) m cabin.slots.seats.driver) (present_or (left_in cabin.slots.left) m cabin.slots.seats.codriver);
          })
          (All-take (EndedStands from (m + 1) cabin.cards) 3 cabin.slots.past (later_past from cabin.slots.minute (m + 1) cabin.cards cabin.slots.past (omega arith) h.past));
      newest = newest;
      hands = h.hands;
    }

-- ---- who was present

pub present-found : (from before : ℕ) (cards : Cards) (m : ℕ) (p : Present) (past : List Ended) → from ≤ m → ((c : Card) → IfSome (session_of cards c) (HoldsHands from)) → All (EndedStands from before cards) past → Some p ≡ present_in past m → MayBeKept cards m p
present-found from before cards m p [] late holds h is = absurd (cc)
present-found from before cards m p (e ∷ past) late holds h is =
    by (λ at. present-found from before cards m p past late holds (All-tail (EndedStands from before cards) e past h) at) (nat_eq e.minute m) refl
  where
    by : (Some p ≡ present_in past m → MayBeKept cards m p) → (b : Bool) → nat_eq e.minute m ≡ b → MayBeKept cards m p
    by rest true here =
        let at : Some p ≡ Some e.present = rw here at is in
        let same : p ≡ e.present = cc in
        let one : e.minute ≡ m = eqb-true e.minute m here in
        let own = All-head (EndedStands from before cards) e past h in
        let since : from ≤ e.minute = omega arith in
        let kept : MayBeKept cards e.minute e.present = record { driver = ready_for from e.minute cards since holds e.present.driver (own.driver since); codriver = ready_for from e.minute cards since holds e.present.codriver (own.codriver since); apart = own.apart } in
        subst (λ (q : Present). MayBeKept cards m q) (sym same) (subst (λ (n : ℕ). MayBeKept cards n e.present) one kept)
    by rest false other = rest (rw other at is)

-- ---- a session that kept a minute

module _ (from m : ℕ) (card : Card) (old new : Accepted) (cabin : Cabin) (leaving : Option Card) (le : from ≤ m + 1) (is : session_of cabin.cards card ≡ Some old)
    (sizes : new.session.application ≡ old.session.application) (most : new.session.minute ≤ m) (holds : HoldsHands (m + 1) new) (h : CabinIsSound from leaving cabin) where
  hands_on : (c : Card) → ((c ≡ card) × (session_of (with_session card (Some new) cabin.cards) c ≡ Some new)) ⊎ (session_of (with_session card (Some new) cabin.cards) c ≡ session_of cabin.cards c)
      → IfSome (session_of (with_session card (Some new) cabin.cards) c) (HoldsHands (m + 1))
  hands_on c (inl own) = subst (λ (o : Option Accepted). IfSome o (HoldsHands (m + 1))) (sym own.1) holds
  hands_on c (inr same) = subst (λ (o : Option Accepted). IfSome o (HoldsHands (m + 1))) (sym same) (hold_later from (m + 1) le (session_of cabin.cards c) (h.hands c))

  known_on : (c : Card) → IsKnown (known_of (with_session card (Some new) cabin.cards) c)
  known_on c = by card c is (sized_of cabin.cards card old is h.a h.b) (numbered_of cabin.cards card old is h.a h.b)
    where
      by : (k c : Card) → session_of cabin.cards k ≡ Some old → (known_of cabin.cards k).sizes ≡ Ok old.session.application → is_some (known_of cabin.cards k).number ≡ true
          → IsKnown (known_of (with_session k (Some new) cabin.cards) c)
      by A A is sized numbered = record { sized = sized ∙ ap Ok (sym sizes); numbered = numbered }
      by A B is sized numbered = h.b
      by B A is sized numbered = h.a
      by B B is sized numbered = record { sized = sized ∙ ap Ok (sym sizes); numbered = numbered }

  -- a card is this one, or its session is as it was
  is_or_same : (c : Card) → ((c ≡ card) × (session_of (with_session card (Some new) cabin.cards) c ≡ Some new)) ⊎ (session_of (with_session card (Some new) cabin.cards) c ≡ session_of cabin.cards c)
  is_or_same c = by card c
    where
      by : (k c : Card) → ((c ≡ k) × (session_of (with_session k (Some new) cabin.cards) c ≡ Some new)) ⊎ (session_of (with_session k (Some new) cabin.cards) c ≡ session_of cabin.cards c)
      by A A = inl (refl, refl)
      by A B = inr refl
      by B A = inr refl
      by B B = inl (refl, refl)

  renewed : (newest : Option ℕ) → AnswersTo from newest (Some old) → AnswersTo (m + 1) newest (Some new)
  renewed None answers = absurd answers
  renewed (Some n) answers = inr (omega (arith, most))

  further : (newest : Option ℕ) (session : Option Accepted) → AnswersTo from newest session → AnswersTo (m + 1) newest session
  further None None answers = tt
  further None (Some a) answers = absurd answers
  further (Some n) None answers = absurd answers
  further (Some n) (Some a) (inl below) = inl below
  further (Some n) (Some a) (inr kept) = inr (omega (arith, kept, le))

  answers_on : (seat : Option Seat) → SeatAnswers from cabin.cards seat → SeatAnswers (m + 1) (with_session card (Some new) cabin.cards) seat
  answers_on None answers = tt
  answers_on (Some seat) answers = by (is_or_same seat.card)
    where
      by : ((seat.card ≡ card) × (session_of (with_session card (Some new) cabin.cards) seat.card ≡ Some new)) ⊎ (session_of (with_session card (Some new) cabin.cards) seat.card ≡ session_of cabin.cards seat.card)
          → AnswersTo (m + 1) seat.newest (session_of (with_session card (Some new) cabin.cards) seat.card)
      by (inl own) =
          let was : AnswersTo from seat.newest (Some old) = subst (λ (s : Option Accepted). AnswersTo from seat.newest s) (ap (session_of cabin.cards) own.0 ∙ is) answers in
          subst (λ (s : Option Accepted). AnswersTo (m + 1) seat.newest s) (sym own.1) (renewed seat.newest was)
      by (inr same) = subst (λ (s : Option Accepted). AnswersTo (m + 1) seat.newest s) (sym same) (further seat.newest (session_of cabin.cards seat.card) answers)

  behind_on : (n : ℕ) → m + 1 ≤ n → (o : Option Card) → IsBehind cabin.cards n o → IsBehind (with_session card (Some new) cabin.cards) n o
  behind_on n late None behind = tt
  behind_on n late (Some c) behind = by (is_or_same c)
    where
      by : ((c ≡ card) × (session_of (with_session card (Some new) cabin.cards) c ≡ Some new)) ⊎ (session_of (with_session card (Some new) cabin.cards) c ≡ session_of cabin.cards c)
          → IfSome (session_of (with_session card (Some new) cabin.cards) c) (λ a. a.session.minute < n)
      by (inl own) = let less : new.session.minute < n = omega (arith, most, late) in subst (λ (s : Option Accepted). IfSome s (λ a. a.session.minute < n)) (sym own.1) less
      by (inr same) = subst (λ (s : Option Accepted). IfSome s (λ a. a.session.minute < n)) (sym same) behind

  ended_on : (before : ℕ) (e : Ended) → EndedStands from before cabin.cards e → EndedStands (m + 1) before (with_session card (Some new) cabin.cards) e
  ended_on before e was = record {
    over = was.over;
    driver = λ late. behind_on e.minute late e.present.driver (was.driver (omega (arith, late, le)));
    codriver = λ late. behind_on e.minute late e.present.codriver (was.codriver (omega (arith, late, le)));
    apart = was.apart;
  }

  some_on : (c : Card) → is_some (session_of (with_session card (Some new) cabin.cards) c) ≡ true → is_some (session_of cabin.cards c) ≡ true
  some_on c some = by (is_or_same c)
    where
      by : ((c ≡ card) × (session_of (with_session card (Some new) cabin.cards) c ≡ Some new)) ⊎ (session_of (with_session card (Some new) cabin.cards) c ≡ session_of cabin.cards c)
          → is_some (session_of cabin.cards c) ≡ true
      by (inl own) = ap is_some (ap (session_of cabin.cards) own.0 ∙ is)
      by (inr same) = ap is_some (sym same) ∙ some

  pub kept-stands : CabinIsSound (m + 1) leaving (with_session_of card (Some new) cabin)
  kept-stands = record {
    a = known_on A;
    b = known_on B;
    driver = answers_on cabin.slots.seats.driver h.driver;
    codriver = answers_on cabin.slots.seats.codriver h.codriver;
    apart = h.apart;
    only = λ c some. h.only c (some_on c some);
    left = h.left;
    past = All-weaker (EndedStands from cabin.slots.minute cabin.cards) (EndedStands (m + 1) cabin.slots.minute (with_session card (Some new) cabin.cards))
        (λ e was. ended_on cabin.slots.minute e was) cabin.slots.past h.past;
    newest = h.newest;
    hands = λ c. hands_on c (is_or_same c);
  }

-- ---- from a later minute on

later_answers : (from to : ℕ) → from ≤ to → (newest : Option ℕ) (session : Option Accepted) → AnswersTo from newest session → AnswersTo to newest session
later_answers from to le None None answers = tt
later_answers from to le None (Some a) answers = absurd answers
later_answers from to le (Some n) None answers = absurd answers
later_answers from to le (Some n) (Some a) (inl below) = inl below
later_answers from to le (Some n) (Some a) (inr kept) = inr (omega (arith, kept, le))

later_seat : (from to : ℕ) (cards : Cards) → from ≤ to → (seat : Option Seat) → SeatAnswers from cards seat → SeatAnswers to cards seat
later_seat from to cards le None answers = tt
later_seat from to cards le (Some seat) answers = later_answers from to le seat.newest (session_of cards seat.card) answers

pub later-stands : (from to : ℕ) (leaving : Option Card) (cabin : Cabin) → from ≤ to → CabinIsSound from leaving cabin → CabinIsSound to leaving cabin
later-stands from to leaving cabin le h = record {
  a = h.a;
  b = h.b;
  driver = later_seat from to cabin.cards le cabin.slots.seats.driver h.driver;
  codriver = later_seat from to cabin.cards le cabin.slots.seats.codriver h.codriver;
  apart = h.apart;
  only = h.only;
  left = h.left;
  past = All-weaker (EndedStands from cabin.slots.minute cabin.cards) (EndedStands to cabin.slots.minute cabin.cards)
      (λ e was. record { over = was.over; driver = λ late. was.driver (omega (arith, late, le)); codriver = λ late. was.codriver (omega (arith, late, le)); apart = was.apart }) cabin.slots.past h.past;
  newest = h.newest;
  hands = λ c. hold_later from to le (session_of cabin.cards c) (h.hands c);
}
