-- A run of which nothing but slots and sessions has changed.
use Rattle.std.proofs.Common.{◌≡◌, ◌∙◌, ℕ, ◌+◌, ◌/◌, ◌≤◌, Bool, true, false, cond, Option, Some, None, Ok, is_some, length, refl, ap, sym, subst, arith}
use Rattle.activity_codec.specs.declared.values.Slot.{Slot}
use Rattle.trace_model.specs.declared.Card.{Card}
use Rattle.trace_model.specs.declared.Card.TheVariants.{A, B}
use Rattle.tach_media.specs.Medium.{State}
use Rattle.card_files.specs.card_layout.declared.command.CardState.{CardState}
use Rattle.card_files.specs.card_layout.declared.files.Application.{Application}
use Rattle.device_calls.specs.card_commands.Ports.{IsPort}
use Rattle.unit_model.specs.minute_model.Span.{ungiven_of}
use Rattle.unit_model.specs.Image.{IsUnit}
use Rattle.run_crew.specs.declared.cards.Accepted.{Accepted}
use Rattle.run_crew.specs.declared.cards.Cards.{Cards}
use Rattle.run_crew.specs.declared.cabin.Cabin.{Cabin}
use Rattle.tacho_types.specs.declared.card_number.FullCardNumber.{FullCardNumber}
use Rattle.run_crew.specs.card_slots.declared.seats.Seat.{Seat}
use Rattle.run_crew.specs.card_slots.Calls.{card_in}
use Rattle.run_crew.specs.Cards.{known_of, session_of, with_session, accepted_number}
use Rattle.run_crew.specs.Cabin.{CabinIsSound, number_of_seat}
use Rattle.run_minutes.specs.declared.keeper.Moment.{Moment}
use Rattle.run_minutes.specs.Keeping.{UnitMayBeCalled, CardMayBeCalled, HasItsRow, SessionsGoOn, tears_of}
use Rattle.run_minutes.proofs.Seats.{sessions-none}
use Rattle.run_events.specs.Blocks.{KnowsNewest}
use Rattle.run_acts.specs.declared.run.Run.{Run}
use Rattle.run_acts.specs.Power.{with_cabin}
use Rattle.run_acts.specs.Going.{CardAt, StandSomehow, CanBeCut, RunHasPower}
use Rattle.run_acts.specs.Room.{falls_of}
use Rattle.run_acts.proofs.Kept.{moved-going}
use Rattle.run_acts.proofs.Torn.{torn-past, torn-minute, torn-falls, torn-sessions}
use Rattle.run_acts.specs.Acting.{noted_run, noted_breaks}

-- ---- in general

module _ {U V A0 A1 B0 B1 : State} {chip_a chip_b next_a next_b : CardState} (to : ℕ) (old new : Run) (cabin : Cabin) (is : new ≡ with_cabin cabin old) where
  pub cabin-going : (leaving other : Option Card) (g : RunHasPower leaving to old U chip_a chip_b A0 B0) → UnitMayBeCalled new.keeper V → CardMayBeCalled new.keeper.cabin.cards.a next_a A1 → CardMayBeCalled new.keeper.cabin.cards.b next_b B1
      → ((card : Card) → HasItsRow old.keeper.cabin.cards U card → HasItsRow new.keeper.cabin.cards V card) → cabin.slots.past ≡ old.keeper.cabin.slots.past → CabinIsSound (ungiven_of g.span) other new.keeper.cabin
      → SessionsGoOn old.keeper.cabin.cards cabin.cards → (KnowsNewest old.watch.newest U → KnowsNewest old.watch.newest V) → RunHasPower other to new V next_a next_b A1 B1
  cabin-going leaving other g unit a b rows past stands sessions knows =
      let same : new.keeper.cabin ≡ cabin = ap (λ (r : Run). r.keeper.cabin) is in
      moved-going leaving other to old new g (ap (λ (r : Run). r.minutes) is) (ap (λ (r : Run). r.next) is) (ap (λ (r : Run). r.keeper.journal.kept) is) (record { unit_ready = unit; card_a = a; card_b = b }) rows
      (ap (λ (c : Cabin). c.slots.past) same ∙ past) stands (subst (λ (c : Cabin). SessionsGoOn old.keeper.cabin.cards c.cards) (sym same) sessions) (ap (λ (r : Run). r.noted) is) (ap (λ (r : Run). r.watch) is) knows

  pub cabin-held : CanBeCut to old U chip_a chip_b A0 B0 → IsUnit V → cabin.slots.minute ≤ to → CardAt new.keeper.cabin.cards.a next_a A1 → CardAt new.keeper.cabin.cards.b next_b B1 → StandSomehow new.keeper.cabin
      → CanBeCut to new V next_a next_b A1 B1
  cabin-held h unit minute a b stand =
      let odometer = ap (λ (r : Run). r.keeper.odometer) is in
      let same = ap (λ (r : Run). r.keeper.cabin.slots.minute) is in
      let most = h.odometer in
      record { is_unit = unit; odometer = omega (arith, odometer, most); minute = omega (arith, same, minute); card_a = a; card_b = b; stand = stand }

-- a card that is ready, or at hand, is so still where the same is known of it
pub ready-same : {chip : CardState} {card : State} (old new : Cards) (c : Card) → known_of new c ≡ known_of old c → CardMayBeCalled (known_of old c) chip card → CardMayBeCalled (known_of new c) chip card
ready-same {chip} {card} old new c is h = subst (λ k. CardMayBeCalled k chip card) (sym is) h

pub at-same : {chip : CardState} {card : State} (old new : Cards) (c : Card) → known_of new c ≡ known_of old c → CardAt (known_of old c) chip card → CardAt (known_of new c) chip card
at-same {chip} {card} old new c is h = subst (λ k. CardAt k chip card) (sym is) h

pub session-known : (cards : Cards) (card : Card) → session_of cards card ≡ (known_of cards card).accepted
session-known cards A = refl
session-known cards B = refl

-- one whose session was taken twice
pub twice-ready : (which : Card) (cards : Cards) {chip : CardState} {card : State} → ((app : Application) → (known_of cards which).sizes ≡ Ok app → IsPort app None chip card)
    → CardMayBeCalled (known_of (with_session which None (with_session which None cards)) which) chip card
twice-ready A cards port = record { is_known = record { sized = tt; numbered = tt }; port = port; works = tt }
twice-ready B cards port = record { is_known = record { sized = tt; numbered = tt }; port = port; works = tt }

-- nothing else of the run before has changed
pub cabin-only : (run between new : Run) (cabin : Cabin) → between ≡ record run { minutes = between.minutes; keeper = between.keeper } → new ≡ with_cabin cabin between → new ≡ record run { minutes = new.minutes; keeper = new.keeper }
cabin-only run between new cabin only is = subst (λ (r : Run). r ≡ record run { minutes = r.minutes; keeper = r.keeper }) (sym is) (ap (with_cabin cabin) only)

pub keeper-only : (run new : Run) (cabin : Cabin) → new ≡ with_cabin cabin run → new ≡ record run { keeper = new.keeper }
keeper-only run new cabin is = subst (λ (r : Run). r ≡ record run { keeper = r.keeper }) (sym is) refl

-- ---- something was noted on a card

abbrev pub noted_cabin : (fell : Bool) → Card → (second : ℕ) → Run → Cabin
noted_cabin fell card second run = (noted_run fell card second run).keeper.cabin

pub noted-is : (fell : Bool) (card : Card) (second : ℕ) (run : Run) → noted_run fell card second run ≡ with_cabin (noted_cabin fell card second run) run
noted-is false card second run = refl
noted-is true card second run = refl

module _ (card : Card) (second : ℕ) (run : Run) where
  pub noted-past : (fell : Bool) → (noted_cabin fell card second run).slots.past ≡ run.keeper.cabin.slots.past
  noted-past false = refl
  noted-past true = torn-past card second run.keeper.cabin

  pub noted-minute : (fell : Bool) (to : ℕ) → run.keeper.cabin.slots.minute ≤ to → second / 60 ≤ to → (noted_cabin fell card second run).slots.minute ≤ to
  noted-minute false to le here = le
  noted-minute true to le here = torn-minute card second run.keeper.cabin to le here

  pub noted-sessions : (fell : Bool) → SessionsGoOn run.keeper.cabin.cards (noted_cabin fell card second run).cards
  noted-sessions false = sessions-none run.keeper.cabin.cards
  noted-sessions true = torn-sessions card second run.keeper.cabin

  had : (o : Option Accepted) → is_some o ≡ true → tears_of o ≡ 1
  had None h = absurd (cc)
  had (Some a) h = refl

  pub noted-falls : (fell : Bool) (slot : Slot) (at : Moment) → is_some (session_of run.keeper.cabin.cards card) ≡ true → length (noted_breaks fell slot at) + falls_of (noted_cabin fell card second run) ≤ falls_of run.keeper.cabin
  noted-falls false slot at some = omega arith
  noted-falls true slot at some =
      let one = had (session_of run.keeper.cabin.cards card) some in
      let less = torn-falls card second run.keeper.cabin in
      omega (arith, one, less)

pub noted-b : (fell : Bool) (second : ℕ) (run : Run) → (noted_cabin fell A second run).cards.b ≡ run.keeper.cabin.cards.b
noted-b false second run = refl
noted-b true second run = refl

pub noted-a : (fell : Bool) (second : ℕ) (run : Run) → (noted_cabin fell B second run).cards.a ≡ run.keeper.cabin.cards.a
noted-a false second run = refl
noted-a true second run = refl

-- ---- the accepted card of a slot has a session

accepted-session : (cards : Cards) (card : Card) (n : FullCardNumber) → accepted_number (known_of cards card) ≡ Some n → is_some (session_of cards card) ≡ true
accepted-session cards A n is = by cards.a.accepted is
  where
    by : (o : Option Accepted) → cond (is_some o) cards.a.number None ≡ Some n → is_some o ≡ true
    by None h = absurd (cc)
    by (Some a) h = refl
accepted-session cards B n is = by cards.b.accepted is
  where
    by : (o : Option Accepted) → cond (is_some o) cards.b.number None ≡ Some n → is_some o ≡ true
    by None h = absurd (cc)
    by (Some a) h = refl

pub numbered-session : (cards : Cards) (seat : Option Seat) (card : Card) (n : FullCardNumber) → card_in seat ≡ Some card → number_of_seat cards seat ≡ Some n → is_some (session_of cards card) ≡ true
numbered-session cards None card n here is = absurd (cc)
numbered-session cards (Some seat) card n here is = let same : seat.card ≡ card = cc in accepted-session cards card n (subst (λ (c : Card). accepted_number (known_of cards c) ≡ Some n) same is)
