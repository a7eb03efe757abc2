-- A run goes on behind a card that was accepted or turned away.
use Rattle.std.proofs.Common.{◌≡◌, ◌∙◌, ◌⊎◌, inl, inr, ℕ, ◌≤◌, true, Option, Some, None, IfSome, is_some, List, length, refl, ap, sym, subst, arith}
use Rattle.std.specs.List.{slice_get}
use Rattle.trace_model.specs.declared.Card.{Card}
use Rattle.trace_model.specs.declared.Card.TheVariants.{A, B}
use Rattle.device_calls.specs.device_rule.Views.{other}
use Rattle.tach_media.specs.Medium.{State}
use Rattle.tach_media.specs.card_layout.declared.command.CardState.{CardState}
use Rattle.run_minutes.specs.card_slots.declared.seats.Ended.{Ended}
use Rattle.run_minutes.specs.card_slots.declared.seats.Present.{Present}
use Rattle.run_minutes.specs.card_slots.Kept.{Kept as Slots}
use Rattle.run_acts.specs.run_crew.declared.cards.Accepted.{Accepted}
use Rattle.run_acts.specs.run_crew.declared.cards.Cards.{Cards}
use Rattle.run_acts.specs.run_crew.declared.cards.Known.{Known}
use Rattle.run_acts.specs.run_crew.Cards.{known_of, session_of}
use Rattle.run_acts.specs.run_crew.Cabin.{KnowsEnded}
use Rattle.run_minutes.specs.Keeping.{CardMayBeCalled, HasItsRow, HaveRows}
use Rattle.run_insertion.specs.declared.lines.Entering.{Entering}
use Rattle.run_insertion.specs.Entering.{Ending, Unfit, Ahead, Fell, Unasked, Unnoted, Seated, Lost, finds_by}
use Rattle.run_minutes.specs.card_slots.declared.seats.Seat.{Seat}
use Rattle.run_minutes.specs.card_slots.Calls.{card_in}
use Rattle.run_acts.specs.Going.{CardAt}
use Rattle.run_acts.specs.Room.{bare_count}
use Rattle.run_acts.proofs.Kept.{present-went}
use Rattle.recorder_with_cards.specs.Accepting.{chip_a_of, chip_b_of, a_of, b_of, HasEntry, IsBare}

-- ---- of two cards

pub card-or-other : (which card : Card) → (card ≡ which) ⊎ (card ≡ other which)
card-or-other A A = inl refl
card-or-other A B = inr refl
card-or-other B A = inr refl
card-or-other B B = inl refl

pub known-session : (cards : Cards) (card : Card) → session_of cards card ≡ (known_of cards card).accepted
known-session cards A = refl
known-session cards B = refl

-- what is known of the other one is as before, and so is its session
pub others-session : (which : Card) (old new : Cards) → known_of new (other which) ≡ known_of old (other which) → session_of new (other which) ≡ session_of old (other which)
others-session which old new same = known-session new (other which) ∙ ap (λ (k : Known). k.accepted) same ∙ sym (known-session old (other which))

module _ (cards : Cards) (mine others : CardState) (M O : State) where
  pub both-at : (which : Card) → CardAt (known_of cards which) mine M → CardAt (known_of cards (other which)) others O
      → CardAt cards.a (chip_a_of which mine others) (a_of which M O) × CardAt cards.b (chip_b_of which mine others) (b_of which M O)
  both-at A x y = (x, y)
  both-at B x y = (y, x)

  pub other-at : (which : Card) → CardAt cards.a (chip_a_of which mine others) (a_of which M O) → CardAt cards.b (chip_b_of which mine others) (b_of which M O) → CardAt (known_of cards (other which)) others O
  other-at A x y = y
  other-at B x y = x

  pub mine-at : (which : Card) → CardAt cards.a (chip_a_of which mine others) (a_of which M O) → CardAt cards.b (chip_b_of which mine others) (b_of which M O) → CardAt (known_of cards which) mine M
  mine-at A x y = x
  mine-at B x y = y

  pub both-ready : (which : Card) → CardMayBeCalled (known_of cards which) mine M → CardMayBeCalled (known_of cards (other which)) others O
      → CardMayBeCalled cards.a (chip_a_of which mine others) (a_of which M O) × CardMayBeCalled cards.b (chip_b_of which mine others) (b_of which M O)
  both-ready A x y = (x, y)
  both-ready B x y = (y, x)

  pub other-ready : (which : Card) → CardMayBeCalled cards.a (chip_a_of which mine others) (a_of which M O) → CardMayBeCalled cards.b (chip_b_of which mine others) (b_of which M O) → CardMayBeCalled (known_of cards (other which)) others O
  other-ready A x y = y
  other-ready B x y = x

-- ---- rows and entries

pub some-gives : {T P : Type 0} (o : Option T) → IfSome o (λ (a : T). P) → is_some o ≡ true → P
some-gives None p is = absurd (cc)
some-gives (Some a) p is = p

pub entry-more : (noted after : ℕ) (o : Option Accepted) → noted ≤ after → IfSome o (HasEntry noted) → IfSome o (HasEntry after)
entry-more noted after None le h = tt
entry-more noted after (Some a) le h = let had = h.1 in (h.0, omega (arith, had, le))

card-went : (old new : Cards) (U V : State) → ((card : Card) → HasItsRow old U card → HasItsRow new V card) → (o : Option Card) → IfSome o (HasItsRow old U) → IfSome o (HasItsRow new V)
card-went old new U V rows None h = tt
card-went old new U V rows (Some card) h = rows card h

pub rows-went : (old new : Cards) (U V : State) → ((card : Card) → HasItsRow old U card → HasItsRow new V card) → (o : Option Present) → IfSome o (HaveRows old U) → IfSome o (HaveRows new V)
rows-went old new U V rows o h = present-went (HaveRows old U) (HaveRows new V) (λ p r. record { driver = card-went old new U V rows p.driver r.driver; codriver = card-went old new U V rows p.codriver r.codriver }) o h

pub ended-went : (from to : ℕ) (old new : Slots) → new.past ≡ old.past → KnowsEnded from to old → KnowsEnded from to new
ended-went from to old new same h = record {
  few = h.few;
  each = λ k lt. let was = h.each k lt in (was.0, subst (λ (l : List Ended). slice_get l k ≡ Some was.0) (sym same) was.1, was.2);
}

-- ---- lines

pub few-finds : (ending : Ending) (e : Entering) → length (finds_by ending e) ≤ 1
few-finds (Unfit fid place) e = omega arith
few-finds (Ahead stored) e = omega arith
few-finds Fell e = omega arith
few-finds Unasked e = omega arith
few-finds (Unnoted entered clock) e = omega arith
few-finds (Seated entered clock entry) e = omega arith
few-finds (Lost entered clock entry) e = omega arith

-- a card that sits in a slot, not accepted
pub bare-one : (o : Option Seat) (card : Card) → card_in o ≡ Some card → IsBare o → bare_count o ≡ 1
bare-one None card is bare = absurd (cc)
bare-one (Some s) card is bare = ap (λ (n : Option ℕ). bare_count (Some (record { card = s.card; newest = n }))) bare
