-- A run whose card has left its slot, and whose session is closed.
use Rattle.std.proofs.Common.{◌≡◌, ℕ, ◌+◌, ◌/◌, ◌≤◌, Option, Some, None, length, refl, arith}
use Rattle.activity_codec.specs.declared.values.Slot.{Slot}
use Rattle.activity_codec.specs.declared.values.Slot.TheVariants.{Driver, CoDriver}
use Rattle.trace_model.specs.declared.Card.{Card}
use Rattle.trace_model.specs.declared.Card.TheVariants.{A, B}
use Rattle.tach_media.specs.Medium.{State}
use Rattle.card_files.specs.card_layout.declared.command.CardState.{CardState}
use Rattle.unit_model.specs.minute_model.Span.{ungiven_of}
use Rattle.run_crew.specs.declared.cards.Accepted.{Accepted}
use Rattle.run_crew.specs.declared.cabin.Cabin.{Cabin}
use Rattle.run_crew.specs.Cards.{session_of, with_session}
use Rattle.run_crew.specs.Cabin.{CabinIsSound, with_session_of, with_slot_left}
use Rattle.run_minutes.specs.declared.keeper.Moment.{Moment}
use Rattle.run_minutes.specs.Keeping.{SessionsGoOn, tears_of}
use Rattle.run_minutes.proofs.Seats.{sessions-none, sessions-then}
use Rattle.run_acts.specs.declared.run.Run.{Run}
use Rattle.run_acts.specs.Going.{CanBeCut, RunHasPower, RunHasPowerAllSeated}
use Rattle.run_acts.specs.Room.{falls_of}
use Rattle.run_acts.proofs.Kept.{moved-going}
use Rattle.run_acts.proofs.Torn.{torn-past, torn-minute, torn-falls, torn-sessions, sessions-without, tears-without}
use Rattle.run_acts.specs.Acting.{Closing, Bare, Closed, Fell, IsClosingOf, closed_cabin, closed_breaks, left_run}

-- ---- it has left its slot

module _ {U A0 B0 : State} {chip_a chip_b : CardState} (slot : Slot) (card : Card) (second : ℕ) (run : Run) where
  pub left-going : (to : ℕ) (g : RunHasPowerAllSeated to run U chip_a chip_b A0 B0) → ((from : ℕ) → CabinIsSound from None run.keeper.cabin → CabinIsSound from (Some card) (with_slot_left slot second run.keeper.cabin)) → RunHasPower (Some card) to (left_run slot second run) U chip_a chip_b A0 B0
  left-going to g goes =
      let unit = g.ready.unit_ready in
      moved-going None (Some card) to run (left_run slot second run) g refl refl refl
      (record { unit_ready = record { is_unit = unit.is_unit; works = unit.works; agrees = unit.agrees }; card_a = g.ready.card_a; card_b = g.ready.card_b })
      (λ c h. h) refl (goes (ungiven_of g.span) g.cabin) (sessions-none run.keeper.cabin.cards) refl refl (λ known. known)

  pub left-held : (to : ℕ) → CanBeCut to run U chip_a chip_b A0 B0 → second / 60 ≤ to → (from : ℕ) → CabinIsSound from (Some card) (with_slot_left slot second run.keeper.cabin) → CanBeCut to (left_run slot second run) U chip_a chip_b A0 B0
  left-held to h le from stands = record { is_unit = h.is_unit; odometer = h.odometer; minute = le; card_a = h.card_a; card_b = h.card_b; stand = (from, Some card, stands) }

-- ---- its session is closed

module _ (which : Card) (second : ℕ) (cabin : Cabin) where
  pub closed-past : (closing : Closing) → (closed_cabin closing which second cabin).slots.past ≡ cabin.slots.past
  closed-past Bare = refl
  closed-past Closed = refl
  closed-past Fell = torn-past which second (with_session_of which None cabin)

  pub closed-minute : (closing : Closing) (to : ℕ) → cabin.slots.minute ≤ to → second / 60 ≤ to → (closed_cabin closing which second cabin).slots.minute ≤ to
  closed-minute Bare to le here = le
  closed-minute Closed to le here = le
  closed-minute Fell to le here = torn-minute which second (with_session_of which None cabin) to le here

  pub closed-sessions : (closing : Closing) → SessionsGoOn cabin.cards (closed_cabin closing which second cabin).cards
  closed-sessions Bare = sessions-without which cabin.cards
  closed-sessions Closed = sessions-without which cabin.cards
  closed-sessions Fell =
      sessions-then cabin.cards (with_session which None cabin.cards) (with_session which None (with_session which None cabin.cards)) (sessions-without which cabin.cards)
      (torn-sessions which second (with_session_of which None cabin))

  fell-had : (o : Option Accepted) → IsClosingOf o Fell → tears_of o ≡ 1
  fell-had None h = absurd h
  fell-had (Some a) h = refl

  pub closed-falls : (closing : Closing) (slot : Slot) (at : Moment) → IsClosingOf (session_of cabin.cards which) closing → length (closed_breaks closing slot at) + falls_of (closed_cabin closing which second cabin) ≤ falls_of cabin
  closed-falls Bare slot at is = let t = tears-without which cabin.cards in omega (arith, t)
  closed-falls Closed slot at is = let t = tears-without which cabin.cards in omega (arith, t)
  closed-falls Fell slot at is =
      let had = fell-had (session_of cabin.cards which) is in
      let t = tears-without which cabin.cards in
      let f = torn-falls which second (with_session_of which None cabin) in
      omega (arith, had, t, f)

-- the other card
pub closed-b : (closing : Closing) (second : ℕ) (cabin : Cabin) → (closed_cabin closing A second cabin).cards.b ≡ cabin.cards.b
closed-b Bare second cabin = refl
closed-b Closed second cabin = refl
closed-b Fell second cabin = refl

pub closed-a : (closing : Closing) (second : ℕ) (cabin : Cabin) → (closed_cabin closing B second cabin).cards.a ≡ cabin.cards.a
closed-a Bare second cabin = refl
closed-a Closed second cabin = refl
closed-a Fell second cabin = refl

-- ---- room

pub left-falls : (slot : Slot) (second : ℕ) (cabin : Cabin) → falls_of (with_slot_left slot second cabin) ≤ falls_of cabin
left-falls Driver second cabin = omega arith
left-falls CoDriver second cabin = omega arith
