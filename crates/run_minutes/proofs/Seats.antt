-- The slots and the sessions behind an entry, and the card that was not asked.
use Rattle.std.proofs.Common.{◌≡◌, ◌⊎◌, inl, inr, ⊎_elim, ℕ, Option, Some, None, refl, sym, subst, ◌∙◌}
use Rattle.activity_codec.specs.declared.values.Slot.{Slot}
use Rattle.activity_codec.specs.declared.values.Slot.TheVariants.{Driver, CoDriver}
use Rattle.trace_model.specs.declared.Card.{Card}
use Rattle.trace_model.specs.declared.Card.TheVariants.{A, B}
use Rattle.card_slots.specs.declared.seats.Seat.{Seat}
use Rattle.card_slots.specs.Calls.{Seats}
use Rattle.card_slots.specs.Kept.{Kept as Slots}
use Rattle.card_session.specs.declared.session.Kept.{Kept}
use Rattle.run_crew.specs.declared.cards.Accepted.{Accepted}
use Rattle.run_crew.specs.declared.cards.Cards.{Cards}
use Rattle.run_crew.specs.declared.cabin.Cabin.{Cabin}
use Rattle.run_crew.specs.Cabin.{CanKeepNext, AreTwo, left_from, slot_with}
use Rattle.run_minutes.specs.declared.keeper.Keeper.{Keeper}
use Rattle.run_minutes.specs.Keeping.{AreEmptied, GoesOnFrom, SessionsGoOn, Fate, Still, Has, Fell, IsFateOf, cabin_by, session_at}

pub emptied-none : (s : Seats) → AreEmptied s s
emptied-none s = (inl refl, inl refl)

slot-then : (a b c : Option Seat) → (b ≡ a) ⊎ (b ≡ None) → (c ≡ b) ⊎ (c ≡ None) → (c ≡ a) ⊎ (c ≡ None)
slot-then a b c first next = ⊎_elim (λ same. ⊎_elim (λ was. inl (same ∙ was)) (λ none. inr (same ∙ none)) first) (λ none. inr none) next

pub emptied-then : (a b c : Seats) → AreEmptied a b → AreEmptied b c → AreEmptied a c
emptied-then a b c first next = (slot-then a.driver b.driver c.driver first.0 next.0, slot-then a.codriver b.codriver c.codriver first.1 next.1)

-- a card leaves the slot that it sits in
left-seats : (o : Option Slot) (second : ℕ) (slots : Slots) → AreEmptied slots.seats (left_from o second slots).seats
left-seats None second slots = (inl refl, inl refl)
left-seats (Some Driver) second slots = (inr refl, inl refl)
left-seats (Some CoDriver) second slots = (inl refl, inr refl)

pub fate-seats : (fate : Fate) (present : Option Card) (second : ℕ) (cabin : Cabin) → AreEmptied cabin.slots.seats (cabin_by fate present second cabin).slots.seats
fate-seats Still None second cabin = emptied-none cabin.slots.seats
fate-seats (Has accepted clock) None second cabin = emptied-none cabin.slots.seats
fate-seats Fell None second cabin = emptied-none cabin.slots.seats
fate-seats Still (Some card) second cabin = emptied-none cabin.slots.seats
fate-seats (Has accepted clock) (Some card) second cabin = emptied-none cabin.slots.seats
fate-seats Fell (Some card) second cabin = left-seats (slot_with cabin.slots.seats card) second cabin.slots

-- ---- sessions

goes-same : (o : Option Accepted) → GoesOnFrom o o
goes-same None = tt
goes-same (Some a) = (refl, refl)

goes-then : (a b c : Option Accepted) → GoesOnFrom a b → GoesOnFrom b c → GoesOnFrom a c
goes-then a b None first next = tt
goes-then a None (Some z) first next = absurd next
goes-then None (Some y) (Some z) first next = absurd first
goes-then (Some x) (Some y) (Some z) first next = (next.0 ∙ first.0, next.1 ∙ first.1)

-- where there is none, none comes
pub stays-none : (a b : Option Accepted) → GoesOnFrom a b → a ≡ None → b ≡ None
stays-none a None goes is = refl
stays-none None (Some y) goes is = absurd goes
stays-none (Some x) (Some y) goes is = absurd (cc)

pub sessions-none : (cards : Cards) → SessionsGoOn cards cards
sessions-none cards = record { a = goes-same cards.a.accepted; b = goes-same cards.b.accepted }

pub sessions-then : (x y z : Cards) → SessionsGoOn x y → SessionsGoOn y z → SessionsGoOn x z
sessions-then x y z first next = record { a = goes-then x.a.accepted y.a.accepted z.a.accepted first.a next.a; b = goes-then x.b.accepted y.b.accepted z.b.accepted first.b next.b }

has-goes : (o : Option Accepted) (kept : Kept) (after : Accepted) (clock : ℕ) → IsFateOf o kept (Has after clock) → GoesOnFrom o (Some after)
has-goes None kept after clock h = absurd h
has-goes (Some before) kept after clock h = (h.entry, h.noted)

fate-sessions : (fate : Fate) (present : Option Card) (kept : Kept) (second : ℕ) (cabin : Cabin) → IsFateOf (session_at cabin.cards present) kept fate → SessionsGoOn cabin.cards (cabin_by fate present second cabin).cards
fate-sessions Still None kept second cabin is = sessions-none cabin.cards
fate-sessions (Has accepted clock) None kept second cabin is = sessions-none cabin.cards
fate-sessions Fell None kept second cabin is = sessions-none cabin.cards
fate-sessions Still (Some card) kept second cabin is = sessions-none cabin.cards
fate-sessions (Has accepted clock) (Some A) kept second cabin is = record { a = has-goes cabin.cards.a.accepted kept accepted clock is; b = goes-same cabin.cards.b.accepted }
fate-sessions (Has accepted clock) (Some B) kept second cabin is = record { a = goes-same cabin.cards.a.accepted; b = has-goes cabin.cards.b.accepted kept accepted clock is }
fate-sessions Fell (Some A) kept second cabin is = record { a = tt; b = goes-same cabin.cards.b.accepted }
fate-sessions Fell (Some B) kept second cabin is = record { a = goes-same cabin.cards.a.accepted; b = tt }

pub brought-sessions : (fate : Fate) (present : Option Card) (kept : Kept) (second : ℕ) (k v : Keeper) → IsFateOf (session_at k.cabin.cards present) kept fate → v ≡ record k { cabin = cabin_by fate present second k.cabin }
    → SessionsGoOn k.cabin.cards v.cabin.cards
brought-sessions fate present kept second k v goes is = subst (λ (q : Keeper). SessionsGoOn k.cabin.cards q.cabin.cards) (sym is) (fate-sessions fate present kept second k.cabin goes)

-- ---- the other card of a minute can keep it still

pub other-ready : (o p : Option Card) → AreTwo o p → (fate : Fate) (second : ℕ) (cabin : Cabin) (m : ℕ) → CanKeepNext cabin.cards m p → CanKeepNext (cabin_by fate o second cabin).cards m p
other-ready None p two Still second cabin m h = h
other-ready None p two (Has accepted clock) second cabin m h = h
other-ready None p two Fell second cabin m h = h
other-ready (Some c) None two fate second cabin m h = tt
other-ready (Some A) (Some A) two fate second cabin m h = absurd (cc)
other-ready (Some B) (Some B) two fate second cabin m h = absurd (cc)
other-ready (Some A) (Some B) two Still second cabin m h = h
other-ready (Some A) (Some B) two (Has accepted clock) second cabin m h = h
other-ready (Some A) (Some B) two Fell second cabin m h = h
other-ready (Some B) (Some A) two Still second cabin m h = h
other-ready (Some B) (Some A) two (Has accepted clock) second cabin m h = h
other-ready (Some B) (Some A) two Fell second cabin m h = h
