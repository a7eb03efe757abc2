-- What slots, sessions and lines are behind what became of an entry.
use Rattle.std.proofs.Common.{◌≡◌, ℕ, ◌+◌, ◌/◌, ◌≤◌, false, List, length, length-append, Option, None, Some, refl, ap, sym, subst, arith}
use Rattle.activity_codec.specs.declared.values.Slot.{Slot}
use Rattle.trace_model.specs.declared.Card.{Card}
use Rattle.trace_model.specs.declared.Card.TheVariants.{A, B}
use Rattle.tach_media.specs.Medium.{State}
use Rattle.card_session.specs.declared.session.Kept.{Kept}
use Rattle.card_slots.specs.Kept.{Kept as Slots}
use Rattle.run_crew.specs.declared.cards.Accepted.{Accepted}
use Rattle.run_crew.specs.declared.cards.Cards.{Cards}
use Rattle.run_crew.specs.declared.cabin.Cabin.{Cabin}
use Rattle.run_crew.specs.Cards.{session_of}
use Rattle.run_crew.specs.Cabin.{AreTwo, left_from, slot_with}
use Rattle.run_outcome.specs.Lines.{Listed}
use Rattle.run_minutes.specs.declared.keeper.Moment.{Moment}
use Rattle.run_minutes.specs.Keeping.{Fate, Still, Has, Fell, IsFateOf, IsOnCard, cabin_by, marks_by, breaks_by, session_at, state_at, is_this, tears_of, most_tears, with_lines}

-- ---- the slots

left-past : (o : Option Slot) (second : ℕ) (slots : Slots) → (left_from o second slots).past ≡ slots.past
left-past None second slots = refl
left-past (Some slot) second slots = refl

left-minute : (o : Option Slot) (second : ℕ) (slots : Slots) → slots.minute ≤ second / 60 → (left_from o second slots).minute ≤ second / 60
left-minute None second slots low = low
left-minute (Some slot) second slots low = omega arith

pub past-by : (fate : Fate) (o : Option Card) (second : ℕ) (cabin : Cabin) → (cabin_by fate o second cabin).slots.past ≡ cabin.slots.past
past-by Still None second cabin = refl
past-by (Has a n) None second cabin = refl
past-by Fell None second cabin = refl
past-by Still (Some c) second cabin = refl
past-by (Has a n) (Some c) second cabin = refl
past-by Fell (Some c) second cabin = left-past (slot_with cabin.slots.seats c) second cabin.slots

pub minute-by : (fate : Fate) (o : Option Card) (second : ℕ) (cabin : Cabin) → cabin.slots.minute ≤ second / 60 → (cabin_by fate o second cabin).slots.minute ≤ second / 60
minute-by Still None second cabin low = low
minute-by (Has a n) None second cabin low = low
minute-by Fell None second cabin low = low
minute-by Still (Some c) second cabin low = low
minute-by (Has a n) (Some c) second cabin low = low
minute-by Fell (Some c) second cabin low = left-minute (slot_with cabin.slots.seats c) second cabin.slots low

-- ---- the sessions

-- each tear has its session
tears-card : (fate : Fate) (c : Card) (second : ℕ) (kept : Kept) (slot : Slot) (at : Moment) (cabin : Cabin) (s : Option Accepted) → session_of cabin.cards c ≡ s → IsFateOf s kept fate
    → most_tears (cabin_by fate (Some c) second cabin).cards + length (breaks_by fate slot at) ≤ most_tears cabin.cards
tears-card Still c second kept slot at cabin s is h = omega arith
tears-card (Has a n) c second kept slot at cabin None is h = absurd h
tears-card (Has a n) A second kept slot at cabin (Some b) is h = let one : tears_of cabin.cards.a.accepted ≡ 1 = ap tears_of is in omega (arith, one)
tears-card (Has a n) B second kept slot at cabin (Some b) is h = let one : tears_of cabin.cards.b.accepted ≡ 1 = ap tears_of is in omega (arith, one)
tears-card Fell c second kept slot at cabin None is h = absurd h
tears-card Fell A second kept slot at cabin (Some b) is h = let one : tears_of cabin.cards.a.accepted ≡ 1 = ap tears_of is in omega (arith, one)
tears-card Fell B second kept slot at cabin (Some b) is h = let one : tears_of cabin.cards.b.accepted ≡ 1 = ap tears_of is in omega (arith, one)

pub tears-by : (fate : Fate) (present : Option Card) (second : ℕ) (kept : Kept) (slot : Slot) (at : Moment) (cabin : Cabin) → IsFateOf (session_at cabin.cards present) kept fate
    → most_tears (cabin_by fate present second cabin).cards + length (breaks_by fate slot at) ≤ most_tears cabin.cards
tears-by Still None second kept slot at cabin h = omega arith
tears-by (Has a n) None second kept slot at cabin h = absurd h
tears-by Fell None second kept slot at cabin h = absurd h
tears-by fate (Some c) second kept slot at cabin h = tears-card fate c second kept slot at cabin (session_of cabin.cards c) refl h

-- one session has one tear, and both have two
pub tears-one : (present : Option Card) (cards : Cards) → tears_of (session_at cards present) ≤ most_tears cards
tears-one None cards = omega arith
tears-one (Some A) cards = omega arith
tears-one (Some B) cards = omega arith

-- ---- the lines

pub few-marks : (fate : Fate) (present : Option Card) (minute : ℕ) → length (marks_by fate present minute) ≤ 1
few-marks Still None minute = omega arith
few-marks (Has a n) None minute = omega arith
few-marks Fell None minute = omega arith
few-marks Still (Some c) minute = omega arith
few-marks (Has a n) (Some c) minute = omega arith
few-marks Fell (Some c) minute = omega arith

pub lines-length : {T : Type 0} (more : List T) (l : Listed T) → length (with_lines more l).items ≡ length l.items + length more
lines-length more l = length-append l.items more

-- ---- the cards

-- the other card is not asked
apart-this : (o p : Option Card) (c : Card) → o ≡ Some c → AreTwo o p → is_this p c ≡ false
apart-this None p c is two = absurd (cc)
apart-this (Some d) None c is two = refl
apart-this (Some A) (Some A) c is two = absurd (cc)
apart-this (Some B) (Some B) c is two = absurd (cc)
apart-this (Some A) (Some B) A is two = refl
apart-this (Some A) (Some B) B is two = absurd (cc)
apart-this (Some B) (Some A) B is two = refl
apart-this (Some B) (Some A) A is two = absurd (cc)

pub apart-turned : (o p : Option Card) (c : Card) → p ≡ Some c → AreTwo o p → is_this o c ≡ false
apart-turned None p c is two = refl
apart-turned (Some d) None c is two = absurd (cc)
apart-turned (Some A) (Some A) c is two = absurd (cc)
apart-turned (Some B) (Some B) c is two = absurd (cc)
apart-turned (Some A) (Some B) B is two = refl
apart-turned (Some A) (Some B) A is two = absurd (cc)
apart-turned (Some B) (Some A) A is two = refl
apart-turned (Some B) (Some A) B is two = absurd (cc)

module _ {C D : Type 0} (c_state : C → State) (d_state : D → State) (fate : Fate) (kept : Kept) where
  -- the first card is as it was behind its entry
  pub first-stays : (o p : Option Card) (cards : Cards) → AreTwo o p → IsFateOf (session_at cards o) kept fate → (X : State) (a b : C) (c d : D) (Z : State) → (is_this p A ≡ false → b ≡ a) → (is_this p B ≡ false → d ≡ c)
      → IsOnCard fate (state_at o X Z) (state_at o (c_state a) (d_state c)) → IsOnCard fate (state_at o X Z) (state_at o (c_state b) (d_state d))
  first-stays None p cards two is X a b c d Z one other h = by fate is
    where
      by : (fate : Fate) → IsFateOf None kept fate → IsOnCard fate X (c_state b)
      by Still is = tt
      by (Has a n) is = absurd is
      by Fell is = absurd is
  first-stays (Some A) p cards two is X a b c d Z one other h = subst (λ (x : C). IsOnCard fate X (c_state x)) (sym (one (apart-this (Some A) p A refl two))) h
  first-stays (Some B) p cards two is X a b c d Z one other h = subst (λ (x : D). IsOnCard fate Z (d_state x)) (sym (other (apart-this (Some B) p B refl two))) h

  -- and the second one before it
  pub second-stays : (o p : Option Card) (cards : Cards) → AreTwo o p → IsFateOf (session_at cards p) kept fate → (X : State) (a b : C) (c d : D) (Z : State) → (is_this o A ≡ false → b ≡ a) → (is_this o B ≡ false → d ≡ c)
      → IsOnCard fate (state_at p (c_state b) (d_state d)) (state_at p X Z) → IsOnCard fate (state_at p (c_state a) (d_state c)) (state_at p X Z)
  second-stays o None cards two is X a b c d Z one other h = by fate is
    where
      by : (fate : Fate) → IsFateOf None kept fate → IsOnCard fate (c_state a) X
      by Still is = tt
      by (Has a n) is = absurd is
      by Fell is = absurd is
  second-stays o (Some A) cards two is X a b c d Z one other h = subst (λ (x : C). IsOnCard fate (c_state x) X) (one (apart-turned o (Some A) A refl two)) h
  second-stays o (Some B) cards two is X a b c d Z one other h = subst (λ (x : D). IsOnCard fate (d_state x) Z) (other (apart-turned o (Some B) B refl two)) h
