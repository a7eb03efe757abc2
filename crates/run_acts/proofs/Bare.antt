-- A card in a slot that has no session stays there while minutes are kept.
use Rattle.std.proofs.Common.{◌≡◌, ◌∙◌, ⊎_elim, ℕ, Bool, true, false, cond, Option, Some, None, IfSome, List, is_some, refl, ap, sym, subst}
use Rattle.activity_codec.specs.declared.values.Slot.{Slot}
use Rattle.activity_codec.specs.declared.values.Slot.TheVariants.{Driver, CoDriver}
use Rattle.trace_model.specs.declared.Card.{Card}
use Rattle.trace_model.specs.declared.Card.TheVariants.{A, B}
use Rattle.unit_model.specs.minute_model.declared.Minute.{Minute}
use Rattle.device_calls.specs.card_session.declared.session.Kept.{Kept}
use Rattle.unit_minutes.specs.declared.kept.KeptMinute.{KeptMinute}
use Rattle.log_model.specs.Slots.{same_card}
use Rattle.run_crew.specs.card_slots.declared.seats.Seat.{Seat}
use Rattle.run_crew.specs.card_slots.declared.seats.Present.{Present}
use Rattle.run_crew.specs.card_slots.Calls.{seat_in, is_card}
use Rattle.run_crew.specs.card_slots.Kept.{Kept as Slots}
use Rattle.run_crew.specs.declared.cards.Accepted.{Accepted}
use Rattle.run_crew.specs.declared.cards.Cards.{Cards}
use Rattle.run_crew.specs.declared.cabin.Cabin.{Cabin}
use Rattle.run_crew.specs.Cards.{session_of, with_session}
use Rattle.run_crew.specs.Cabin.{left_from, slot_with}
use Rattle.run_minutes.specs.declared.keeper.Moment.{Moment}
use Rattle.run_minutes.specs.Keeping.{Fate, Still, Has, Fell, IsFateOf, cabin_by, session_at, kept_in}
use Rattle.run_minutes.specs.Minutes.{Round, IsRound, KeepingState, AreKept, none, more, present_at, minute_of, cabin_after}
use Rattle.run_acts.specs.Acting.{IsBareIn}

two-cards : (a b : Card) (cards : Cards) → session_of cards a ≡ None → is_some (session_of cards b) ≡ true → same_card a b ≡ false
two-cards A A cards no_a some_b = absurd (let e = ap is_some no_a in let bad : true ≡ false = sym some_b ∙ e in cc)
two-cards B B cards no_a some_b = absurd (let e = ap is_some no_a in let bad : true ≡ false = sym some_b ∙ e in cc)
two-cards A B cards no_a some_b = refl
two-cards B A cards no_a some_b = refl

-- another card leaves its slot
driver-stays : (here there : Bool) (second : ℕ) (slots : Slots) → here ≡ false → (left_from (cond here (Some Driver) (cond there (Some CoDriver) None)) second slots).seats.driver ≡ slots.seats.driver
driver-stays true there second slots is = absurd (cc)
driver-stays false true second slots is = refl
driver-stays false false second slots is = refl

codriver-stays : (there here : Bool) (second : ℕ) (slots : Slots) → here ≡ false → (left_from (cond there (Some Driver) (cond here (Some CoDriver) None)) second slots).seats.codriver ≡ slots.seats.codriver
codriver-stays there true second slots is = absurd (cc)
codriver-stays true false second slots is = refl
codriver-stays false false second slots is = refl

other-seat : (seat : Option Seat) (card : Card) → IfSome seat (λ s. same_card s.card card ≡ false) → is_card seat card ≡ false
other-seat None card h = refl
other-seat (Some s) card h = h

pub left-stays : (slot : Slot) (card : Card) (second : ℕ) (slots : Slots) → IfSome (seat_in slots.seats slot) (λ s. same_card s.card card ≡ false) → seat_in (left_from (slot_with slots.seats card) second slots).seats slot ≡ seat_in slots.seats slot
left-stays Driver card second slots h = driver-stays (is_card slots.seats.driver card) (is_card slots.seats.codriver card) second slots (other-seat slots.seats.driver card h)
left-stays CoDriver card second slots h = codriver-stays (is_card slots.seats.driver card) (is_card slots.seats.codriver card) second slots (other-seat slots.seats.codriver card h)

-- what a seat says of its card, said more weakly
seat-goes : (o : Option Seat) (P Q : Seat → Type 0) → ((s : Seat) → P s → Q s) → IfSome o P → IfSome o Q
seat-goes None P Q goes h = tt
seat-goes (Some s) P Q goes h = goes s h

pub had : (o : Option Accepted) (kept : Kept) → IsFateOf o kept Fell → is_some o ≡ true
had None kept h = absurd h
had (Some a) kept h = refl

-- sessions: none comes
pub gone : (c card : Card) (cards : Cards) → session_of cards c ≡ None → session_of (with_session card None cards) c ≡ None
gone A A cards h = refl
gone A B cards h = h
gone B A cards h = h
gone B B cards h = refl

pub has-one : (o : Option Accepted) (kept : Kept) (a : Accepted) (clock : ℕ) → IsFateOf o kept (Has a clock) → is_some o ≡ true
has-one None kept a clock h = absurd h
has-one (Some b) kept a clock h = refl

pub stays-none : (c card : Card) (cards : Cards) (a : Accepted) → session_of cards c ≡ None → is_some (session_of cards card) ≡ true → session_of (with_session card (Some a) cards) c ≡ None
stays-none A A cards a h some = absurd (let e = ap is_some h in let bad : true ≡ false = sym some ∙ e in cc)
stays-none A B cards a h some = h
stays-none B A cards a h some = h
stays-none B B cards a h some = absurd (let e = ap is_some h in let bad : true ≡ false = sym some ∙ e in cc)

-- the seat is the same, and its card has no session still
pub record StaysBare (slot : Slot) (old new : Cabin) : Type 0 where
  pub seat : seat_in new.slots.seats slot ≡ seat_in old.slots.seats slot
  pub bare : IsBareIn new slot

same-bare : (slot : Slot) (cabin : Cabin) → IsBareIn cabin slot → StaysBare slot cabin cabin
same-bare slot cabin h = record { seat = refl; bare = h }

then-bare : (slot : Slot) (a b c : Cabin) → StaysBare slot a b → StaysBare slot b c → StaysBare slot a c
then-bare slot a b c first next = record { seat = next.seat ∙ first.seat; bare = next.bare }

pub fate-bare : (fate : Fate) (present : Option Card) (kept : Kept) (second : ℕ) (slot : Slot) (cabin : Cabin) → IsFateOf (session_at cabin.cards present) kept fate → IsBareIn cabin slot → StaysBare slot cabin (cabin_by fate present second cabin)
fate-bare Still None kept second slot cabin is h = same-bare slot cabin h
fate-bare (Has a clock) None kept second slot cabin is h = same-bare slot cabin h
fate-bare Fell None kept second slot cabin is h = same-bare slot cabin h
fate-bare Still (Some card) kept second slot cabin is h = same-bare slot cabin h
fate-bare (Has a clock) (Some card) kept second slot cabin is h =
    let some = has-one (session_of cabin.cards card) kept a clock is in
    record { seat = refl; bare = seat-goes (seat_in cabin.slots.seats slot) (λ s. session_of cabin.cards s.card ≡ None) (λ s. session_of (with_session card (Some a) cabin.cards) s.card ≡ None) (λ s no_s. stays-none s.card card cabin.cards a no_s some) h }
fate-bare Fell (Some card) kept second slot cabin is h =
    let some = had (session_of cabin.cards card) kept is in
    let same = left-stays slot card second cabin.slots (seat-goes (seat_in cabin.slots.seats slot) (λ s. session_of cabin.cards s.card ≡ None) (λ s. same_card s.card card ≡ false) (λ s no_s. two-cards s.card card cabin.cards no_s some) h) in
    record {
      seat = same;
      bare = subst (λ (o : Option Seat). IfSome o (λ s. session_of (with_session card None cabin.cards) s.card ≡ None)) (sym same)
          (seat-goes (seat_in cabin.slots.seats slot) (λ s. session_of cabin.cards s.card ≡ None) (λ s. session_of (with_session card None cabin.cards) s.card ≡ None) (λ s no_s. gone s.card card cabin.cards no_s) h);
    }

-- a fate that was not asked changes nothing
pub still-bare : (fate : Fate) (present : Option Card) (second : ℕ) (slot : Slot) (cabin : Cabin) → fate ≡ Still → IsBareIn cabin slot → StaysBare slot cabin (cabin_by fate present second cabin)
still-bare fate None second slot cabin is h = subst (λ (f : Fate). StaysBare slot cabin (cabin_by f None second cabin)) (sym is) (same-bare slot cabin h)
still-bare fate (Some card) second slot cabin is h = subst (λ (f : Fate). StaysBare slot cabin (cabin_by f (Some card) second cabin)) (sym is) (same-bare slot cabin h)

round-bare : (present : Present) (minute : KeptMinute) (at : Moment) (failed : Bool) (t : KeepingState) (round : Round) (slot : Slot) → IsRound present minute at failed t.keeper round → IsBareIn t.keeper.cabin slot
    → StaysBare slot t.keeper.cabin (cabin_after present at.second round t.keeper.cabin)
round-bare present minute at failed t round slot is h =
    let cabin = t.keeper.cabin in
    let first = fate-bare round.driver present.driver (kept_in minute Driver) at.second slot cabin is.driver h in
    let between = cabin_by round.driver present.driver at.second cabin in
    then-bare slot cabin between (cabin_after present at.second round cabin) first
    (⊎_elim (λ broken. still-bare round.codriver present.codriver at.second slot between broken.not_asked first.bare) (λ fate. fate-bare round.codriver present.codriver (kept_in minute CoDriver) at.second slot between fate first.bare) is.codriver)

pub all-bare : (at : Moment) (ms : List Minute) (t u : KeepingState) (slot : Slot) → AreKept at ms t u → IsBareIn t.keeper.cabin slot → StaysBare slot t.keeper.cabin u.keeper.cabin
all-bare at ms t u slot (none v) h = same-bare slot v.keeper.cabin h
all-bare at ms t u slot (more m front round v mid kept is) h =
    let before = all-bare at front v mid slot kept h in
    let present = present_at mid.keeper.cabin m.minute in
    then-bare slot v.keeper.cabin mid.keeper.cabin (cabin_after present at.second round mid.keeper.cabin) before (round-bare present (minute_of m mid.keeper) at false mid round slot is before.bare)
