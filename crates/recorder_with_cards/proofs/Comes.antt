-- Slots and sessions behind a card that was accepted or turned away.
use Rattle.std.proofs.Common.{◌≡◌, ◌∙◌, ℕ, ◌+◌, ◌/◌, ◌<◌, ◌≤◌, ◌^◌, Result, Ok, Err, Bool, true, false, Option, Some, None, IfSome, List, length, refl, ap, sym, subst, arith}
use Rattle.activity_codec.specs.declared.values.Slot.{Slot}
use Rattle.activity_codec.specs.declared.values.Slot.TheVariants.{Driver, CoDriver}
use Rattle.trace_model.specs.declared.Card.{Card}
use Rattle.trace_model.specs.declared.Card.TheVariants.{A, B}
use Rattle.log_model.specs.Slots.{same_card, other_slot}
use Rattle.device_calls.specs.device_rule.Views.{other}
use Rattle.run_minutes.specs.card_slots.declared.seats.Seat.{Seat}
use Rattle.run_minutes.specs.card_slots.Calls.{Seats, seat_in, card_in, is_card}
use Rattle.tach_media.specs.card_layout.declared.files.Application.{Application}
use Rattle.tacho_types.specs.declared.texts.Registration.{Registration}
use Rattle.tach_media.specs.Medium.{State}
use Rattle.run_outcome.specs.declared.outcome.Outcome.{Outcome}
use Rattle.run_minutes.specs.declared.keeper.Keeper.{Keeper}
use Rattle.run_minutes.specs.Keeping.{tears_of}
use Rattle.run_insertion.specs.declared.lines.Entering.{Entering}
use Rattle.run_insertion.specs.Entering.{Ending, Unfit, Ahead, Fell, Unasked, Unnoted, Seated, Lost, Way, Unread, Unsized, Judged, breaks_by, cabin_by, noted_by, and_one, ending_of, measured}
use Rattle.run_insertion.specs.Entered.{IsEnding, IsWay, IsLeft}
use Rattle.run_insertion.specs.declared.waking.TheConstants.{UNTOLD}
use Rattle.device_calls.specs.hand_model.Holding.{none_held}
use Rattle.run_acts.specs.run_crew.declared.cards.Accepted.{Accepted}
use Rattle.run_acts.specs.run_crew.declared.cabin.Cabin.{Cabin}
use Rattle.run_acts.specs.run_crew.Cards.{known_of, session_of}
use Rattle.run_acts.specs.run_crew.Cabin.{CabinIsSound, SeatAnswers, AnswersTo, AreTwo, torn_out, slot_with, left_from, with_accepted, with_sizes_of}
use Rattle.tacho_types.specs.declared.card_number.FullCardNumber.{FullCardNumber}
use Rattle.run_acts.specs.Room.{bare_count, falls_of}
use Rattle.run_acts.proofs.Torn.{torn-past, torn-minute, torn-falls, sitting-falls}
use Rattle.recorder_with_cards.specs.Accepting.{HasEntry}

-- what holds behind it: the minutes that have ended, the other card and the other slot are as before; a session is of an insertion that was
-- noted; and each card that fell could fall before
pub record Comes (slot : Slot) (which : Card) (second noted after : ℕ) (old new : Cabin) (lines : ℕ) : Type 0 where
  pub past : new.slots.past ≡ old.slots.past
  pub minute : (to : ℕ) → old.slots.minute ≤ to → second / 60 ≤ to → new.slots.minute ≤ to
  pub others : known_of new.cards (other which) ≡ known_of old.cards (other which)
  pub seat : seat_in new.slots.seats (other_slot slot) ≡ seat_in old.slots.seats (other_slot slot)
  pub entry : IfSome (session_of new.cards which) (HasEntry after)
  pub falls : lines + falls_of new ≤ falls_of old
  pub count : noted ≤ after

-- it sits in its slot alone
abbrev pub SitsIn : Slot → Card → Seats → Type 0
SitsIn slot card seats = (is_card (seat_in seats slot) card ≡ true) × (is_card (seat_in seats (other_slot slot)) card ≡ false)

slot-there : (slot : Slot) (card : Card) (seats : Seats) → SitsIn slot card seats → slot_with seats card ≡ Some slot
slot-there Driver card seats sits = rw sits.0 refl
slot-there CoDriver card seats sits = rw sits.1 (rw sits.0 refl)

torn-other : (slot : Slot) (card : Card) (second : ℕ) (cabin : Cabin) → SitsIn slot card cabin.slots.seats → seat_in (torn_out card second cabin).slots.seats (other_slot slot) ≡ seat_in cabin.slots.seats (other_slot slot)
torn-other slot card second cabin sits = by slot (slot_with cabin.slots.seats card) (slot-there slot card cabin.slots.seats sits)
  where
    by : (s : Slot) (o : Option Slot) → o ≡ Some s → seat_in (left_from o second cabin.slots).seats (other_slot s) ≡ seat_in cabin.slots.seats (other_slot s)
    by Driver None is = absurd (cc)
    by CoDriver None is = absurd (cc)
    by Driver (Some Driver) is = refl
    by Driver (Some CoDriver) is = absurd (cc)
    by CoDriver (Some CoDriver) is = refl
    by CoDriver (Some Driver) is = absurd (cc)

torn-known : (card : Card) (second : ℕ) (cabin : Cabin) → known_of (torn_out card second cabin).cards (other card) ≡ known_of cabin.cards (other card)
torn-known A second cabin = refl
torn-known B second cabin = refl

torn-bare : (card : Card) (second : ℕ) (cabin : Cabin) → session_of (torn_out card second cabin).cards card ≡ None
torn-bare A second cabin = refl
torn-bare B second cabin = refl

module _ (slot : Slot) (which : Card) (second noted : ℕ) (cabin : Cabin) where
  -- nothing has changed
  pub comes-still : session_of cabin.cards which ≡ None → Comes slot which second noted noted cabin cabin 0
  comes-still none = record {
    past = refl;
    minute = λ to le here. le;
    others = refl;
    seat = refl;
    entry = subst (λ (o : Option Accepted). IfSome o (HasEntry noted)) (sym none) tt;
    falls = omega arith;
    count = omega arith;
  }

  -- it fell
  pub comes-torn : falls_of (torn_out which second cabin) + 1 ≤ falls_of cabin → SitsIn slot which cabin.slots.seats → Comes slot which second noted noted cabin (torn_out which second cabin) 1
  comes-torn falls sits = record {
    past = torn-past which second cabin;
    minute = torn-minute which second cabin;
    others = torn-known which second cabin;
    seat = torn-other slot which second cabin sits;
    entry = subst (λ (o : Option Accepted). IfSome o (HasEntry noted)) (sym (torn-bare which second cabin)) tt;
    falls = omega (arith, falls);
    count = omega arith;
  }

  module _ (number : FullCardNumber) (row : ℕ) (accepted : Accepted) (after : ℕ) (has : HasEntry after accepted) (more : noted ≤ after) (bare : session_of cabin.cards which ≡ None)
      (seat : seat_in cabin.slots.seats slot ≡ Some (record { card = which; newest = None })) where
    abbrev new : Cabin
    new = with_accepted slot which number row accepted cabin

    seated-known : (c : Card) → known_of (with_accepted slot c number row accepted cabin).cards (other c) ≡ known_of cabin.cards (other c)
    seated-known A = refl
    seated-known B = refl

    seated-session : (c : Card) → session_of (with_accepted slot c number row accepted cabin).cards c ≡ Some accepted
    seated-session A = refl
    seated-session B = refl

    seated-other : (s : Slot) (c : Card) → seat_in (with_accepted s c number row accepted cabin).slots.seats (other_slot s) ≡ seat_in cabin.slots.seats (other_slot s)
    seated-other Driver c = refl
    seated-other CoDriver c = refl

    seated-falls : (s : Slot) (c : Card) → seat_in cabin.slots.seats s ≡ Some (record { card = c; newest = None }) → session_of cabin.cards c ≡ None → falls_of (with_accepted s c number row accepted cabin) ≤ falls_of cabin
    seated-falls Driver A at none = let x = ap bare_count at in let y = ap tears_of none in omega (arith, x, y)
    seated-falls Driver B at none = let x = ap bare_count at in let y = ap tears_of none in omega (arith, x, y)
    seated-falls CoDriver A at none = let x = ap bare_count at in let y = ap tears_of none in omega (arith, x, y)
    seated-falls CoDriver B at none = let x = ap bare_count at in let y = ap tears_of none in omega (arith, x, y)

    seated-there : (s : Slot) (c : Card) → is_card (seat_in (with_accepted s c number row accepted cabin).slots.seats s) c ≡ true
    seated-there Driver A = refl
    seated-there Driver B = refl
    seated-there CoDriver A = refl
    seated-there CoDriver B = refl

    seated-sits : is_card (seat_in cabin.slots.seats (other_slot slot)) which ≡ false → SitsIn slot which new.slots.seats
    seated-sits elsewhere = (seated-there slot which, ap (λ (s : Option Seat). is_card s which) (seated-other slot which) ∙ elsewhere)

    -- it is accepted
    pub comes-seated : Comes slot which second noted after cabin new 0
    comes-seated = record {
      past = refl;
      minute = λ to le here. le;
      others = seated-known which;
      seat = seated-other slot which;
      entry = subst (λ (o : Option Accepted). IfSome o (HasEntry after)) (sym (seated-session which)) has;
      falls = let less = seated-falls slot which seat bare in omega (arith, less);
      count = more;
    }

    -- and fell since
    pub comes-lost : is_card (seat_in cabin.slots.seats (other_slot slot)) which ≡ false → Comes slot which second noted after cabin (torn_out which second new) 1
    comes-lost elsewhere = record {
      past = torn-past which second new;
      minute = λ to le here. torn-minute which second new to le here;
      others = torn-known which second new ∙ seated-known which;
      seat = torn-other slot which second new (seated-sits elsewhere) ∙ seated-other slot which;
      entry = subst (λ (o : Option Accepted). IfSome o (HasEntry after)) (sym (torn-bare which second new)) tt;
      falls =
          let less = seated-falls slot which seat bare in
          let torn = torn-falls which second new in
          let one = ap tears_of (seated-session which) in
          omega (arith, less, torn, one);
      count = more;
    }

-- ---- it has told its sizes before

module _ (slot : Slot) (second noted after : ℕ) (sizes : Result Application ℕ) (cabin : Cabin) where
  told-known : (c : Card) → known_of (with_sizes_of c sizes cabin).cards (other c) ≡ known_of cabin.cards (other c)
  told-known A = refl
  told-known B = refl

  told-falls : (c : Card) → falls_of (with_sizes_of c sizes cabin) ≡ falls_of cabin
  told-falls A = refl
  told-falls B = refl

  pub told-torn : (c : Card) → falls_of (torn_out c second (with_sizes_of c sizes cabin)) ≡ falls_of (torn_out c second cabin)
  told-torn A = refl
  told-torn B = refl

  pub told-session : (c : Card) → session_of (with_sizes_of c sizes cabin).cards c ≡ session_of cabin.cards c
  told-session A = refl
  told-session B = refl

  pub comes-told : (which : Card) (new : Cabin) (lines : ℕ) → Comes slot which second noted after (with_sizes_of which sizes cabin) new lines → Comes slot which second noted after cabin new lines
  comes-told which new lines h = record {
    past = h.past;
    minute = h.minute;
    others = h.others ∙ told-known which;
    seat = h.seat;
    entry = h.entry;
    falls = let less = h.falls in let same = told-falls which in omega (arith, less, same);
    count = h.count;
  }

  pub told-fell : (which : Card) → falls_of (torn_out which second cabin) + 1 ≤ falls_of cabin → falls_of (torn_out which second (with_sizes_of which sizes cabin)) + 1 ≤ falls_of (with_sizes_of which sizes cabin)
  told-fell which less = let a = told-torn which in let b = told-falls which in omega (arith, less, a, b)

-- ---- where it sits

same-turned : (a b : Card) → same_card a b ≡ false → same_card b a ≡ false
same-turned A A apart = apart
same-turned A B apart = refl
same-turned B A apart = refl
same-turned B B apart = apart

pub self-card : (c : Card) → same_card c c ≡ true
self-card A = refl
self-card B = refl

pub elsewhere-of : (slot : Slot) (which : Card) (seats : Seats) → seat_in seats slot ≡ Some (record { card = which; newest = None }) → AreTwo (card_in seats.driver) (card_in seats.codriver) → is_card (seat_in seats (other_slot slot)) which ≡ false
elsewhere-of Driver which seats at two = by seats.codriver (subst (λ (s : Option Seat). AreTwo (card_in s) (card_in seats.codriver)) at two)
  where
    by : (s : Option Seat) → AreTwo (Some which) (card_in s) → is_card s which ≡ false
    by None two = refl
    by (Some s) two = same-turned which s.card two
elsewhere-of CoDriver which seats at two = by seats.driver (subst (λ (s : Option Seat). AreTwo (card_in seats.driver) (card_in s)) at two)
  where
    by : (s : Option Seat) → AreTwo (card_in s) (Some which) → is_card s which ≡ false
    by None two = refl
    by (Some s) two = two

answers-none : (from : ℕ) (o : Option Accepted) → AnswersTo from None o → o ≡ None
answers-none from None h = refl
answers-none from (Some a) h = absurd h

pub bare-of : (from : ℕ) (slot : Slot) (which : Card) (cabin : Cabin) (leaving : Option Card) → seat_in cabin.slots.seats slot ≡ Some (record { card = which; newest = None }) → CabinIsSound from leaving cabin → session_of cabin.cards which ≡ None
bare-of from Driver which cabin leaving at st = answers-none from (session_of cabin.cards which) (subst (λ (s : Option Seat). SeatAnswers from cabin.cards s) at st.driver)
bare-of from CoDriver which cabin leaving at st = answers-none from (session_of cabin.cards which) (subst (λ (s : Option Seat). SeatAnswers from cabin.cards s) at st.codriver)

-- ---- A CARD THAT ENTERED

module _ (e : Entering) (k v : Keeper) (noted after : ℕ) (o p : Outcome) (registration : Registration) (failed : Bool) (unit : Option (List ℕ)) (card card_after : State) (from : ℕ) (stands : CabinIsSound from None k.cabin)
    (at : seat_in k.cabin.slots.seats e.slot ≡ Some (record { card = e.which; newest = None })) (few : noted < 2 ^ 64) where
  bare : session_of k.cabin.cards e.which ≡ None
  bare = bare-of from e.slot e.which k.cabin None at stands

  sits : SitsIn e.slot e.which k.cabin.slots.seats
  sits = (ap (λ (s : Option Seat). is_card s e.which) at ∙ self-card e.which, elsewhere-of e.slot e.which k.cabin.slots.seats at stands.apart)

  fell : falls_of (torn_out e.which e.at.second k.cabin) + 1 ≤ falls_of k.cabin
  fell = sitting-falls e.which e.slot e.at.second from None k.cabin sits.0 stands

  abbrev lines_of : Ending → ℕ
  lines_of ending = length (breaks_by ending e)

  seats-now : (sizes : Result Application ℕ) → seat_in (with_sizes_of e.which sizes k.cabin).slots.seats e.slot ≡ Some (record { card = e.which; newest = None })
  seats-now sizes = at

  by-ending : (sizes : Result Application ℕ) (app : Application) (ending : Ending) → IsEnding ending app registration e failed unit card card_after →
      Comes e.slot e.which e.at.second noted (noted_by ending noted) (with_sizes_of e.which sizes k.cabin) (cabin_by ending e noted (with_sizes_of e.which sizes k.cabin)) (lines_of ending)
  by-ending sizes app (Unfit fid place) is = comes-still e.slot e.which e.at.second noted (with_sizes_of e.which sizes k.cabin) (told-session e.slot e.at.second noted after sizes k.cabin e.which ∙ bare)
  by-ending sizes app (Ahead stored) is = comes-still e.slot e.which e.at.second noted (with_sizes_of e.which sizes k.cabin) (told-session e.slot e.at.second noted after sizes k.cabin e.which ∙ bare)
  by-ending sizes app Unasked is = comes-still e.slot e.which e.at.second noted (with_sizes_of e.which sizes k.cabin) (told-session e.slot e.at.second noted after sizes k.cabin e.which ∙ bare)
  by-ending sizes app (Unnoted entered clock) is = comes-still e.slot e.which e.at.second noted (with_sizes_of e.which sizes k.cabin) (told-session e.slot e.at.second noted after sizes k.cabin e.which ∙ bare)
  by-ending sizes app Fell is = comes-torn e.slot e.which e.at.second noted (with_sizes_of e.which sizes k.cabin) (told-fell e.slot e.at.second noted after sizes k.cabin e.which fell) sits
  by-ending sizes app (Seated entered clock entry) is =
      comes-seated e.slot e.which e.at.second noted (with_sizes_of e.which sizes k.cabin) entered.look.number entered.row (record { session = entered.session; held = none_held (e.at.second / 60); entry = entry; noted = and_one noted }) (and_one noted) (is.0.0, omega arith) (omega arith)
      (told-session e.slot e.at.second noted after sizes k.cabin e.which ∙ bare) (seats-now sizes)
  by-ending sizes app (Lost entered clock entry) is =
      comes-lost e.slot e.which e.at.second noted (with_sizes_of e.which sizes k.cabin) entered.look.number entered.row (record { session = entered.session; held = none_held (e.at.second / 60); entry = entry; noted = and_one noted }) (and_one noted) (is.0.0, omega arith) (omega arith)
      (told-session e.slot e.at.second noted after sizes k.cabin e.which ∙ bare) (seats-now sizes) sits.1

  by-way : (way : Way) → IsWay way registration e failed unit card card_after → Comes e.slot e.which e.at.second noted (noted_by (ending_of way) noted) k.cabin (cabin_by (ending_of way) e noted (measured way e k).cabin) (lines_of (ending_of way))
  by-way Unread is = comes-told e.slot e.at.second noted noted (Err UNTOLD) k.cabin e.which _ 1 (comes-torn e.slot e.which e.at.second noted (with_sizes_of e.which (Err UNTOLD) k.cabin) (told-fell e.slot e.at.second noted after (Err UNTOLD) k.cabin e.which fell) sits)
  by-way (Unsized field) is = comes-told e.slot e.at.second noted noted (Err field) k.cabin e.which _ 0 (comes-still e.slot e.which e.at.second noted (with_sizes_of e.which (Err field) k.cabin) (told-session e.slot e.at.second noted after (Err field) k.cabin e.which ∙ bare))
  by-way (Judged app ending) is = comes-told e.slot e.at.second noted (noted_by ending noted) (Ok app) k.cabin e.which _ (lines_of ending) (by-ending (Ok app) app ending is)

  pub comes-of : (way : Way) → IsWay way registration e failed unit card card_after → IsLeft (ending_of way) e (measured way e k) v noted after o p → Comes e.slot e.which e.at.second noted after k.cabin v.cabin (lines_of (ending_of way))
  comes-of way is left =
      subst (λ (n : ℕ). Comes e.slot e.which e.at.second noted n k.cabin v.cabin (lines_of (ending_of way))) (sym left.count)
      (subst (λ (q : Keeper). Comes e.slot e.which e.at.second noted (noted_by (ending_of way) noted) k.cabin q.cabin (lines_of (ending_of way))) (sym left.keeper) (by-way way is))
