-- A card that was torn out in a round has no session any more: so it broke down, by what is known behind all of them.
use Rattle.std.proofs.Common.{◌≡◌, ◌⊎◌, inl, inr, ⊎_elim, ℕ, Bool, true, false, Option, Some, None, IfSome, is_some, List, [], ◌∷◌, refl, ap, sym, subst, ◌∙◌}
use Rattle.activity_codec.specs.declared.values.Slot.TheVariants.{Driver, CoDriver}
use Rattle.trace_model.specs.declared.Card.{Card}
use Rattle.trace_model.specs.declared.Card.TheVariants.{A, B}
use Rattle.log_model.specs.run_model.declared.Device.{Device}
use Rattle.log_model.specs.Causes.{device_of, RoseBy}
use Rattle.unit_model.specs.minute_model.declared.Minute.{Minute}
use Rattle.device_calls.specs.card_session.declared.session.Kept.{Kept}
use Rattle.run_crew.specs.card_slots.declared.seats.Present.{Present}
use Rattle.run_crew.specs.declared.cards.Accepted.{Accepted}
use Rattle.run_crew.specs.declared.cards.Cards.{Cards}
use Rattle.run_crew.specs.declared.cabin.Cabin.{Cabin}
use Rattle.run_crew.specs.Cards.{session_of}
use Rattle.run_crew.proofs.Sessions.{session_set}
use Rattle.run_minutes.specs.declared.keeper.Keeper.{Keeper}
use Rattle.run_minutes.specs.declared.keeper.Moment.{Moment}
use Rattle.run_minutes.specs.Keeping.{Fate, Still, Has, Fell, cabin_by, session_at, kept_in, IsFateOf, GoesOnFrom, SessionsGoOn}
use Rattle.run_minutes.specs.Minutes.{Round, IsRound, KeepingState, Done, AreRounds, told_after, told_by, present_at, minute_of}
use Rattle.run_minutes.proofs.Seats.{sessions-none, sessions-then, brought-sessions}
use Rattle.run_acts.specs.Rounds.{HasBrokenDown, HaveBroken}
use Rattle.run_acts.specs.RoundLaws.{HasBrokenLast, AreGone}

-- ---- sessions

gone-one : (a b : Option Accepted) → GoesOnFrom a b → a ≡ None → b ≡ None
gone-one a None h is = refl
gone-one a (Some y) h is = absurd (subst (λ (q : Option Accepted). GoesOnFrom q (Some y)) is h)

pub gone : (x y : Cards) (card : Card) → SessionsGoOn x y → session_of x card ≡ None → session_of y card ≡ None
gone x y A h is = gone-one x.a.accepted y.a.accepted h.a is
gone x y B h is = gone-one x.b.accepted y.b.accepted h.b is

had-one : (a b : Option Accepted) → GoesOnFrom a b → is_some b ≡ true → is_some a ≡ true
had-one (Some x) b h is = refl
had-one None None h is = is
had-one None (Some y) h is = absurd h

pub had : (x y : Cards) (card : Card) → SessionsGoOn x y → is_some (session_of y card) ≡ true → is_some (session_of x card) ≡ true
had x y A h is = had-one x.a.accepted y.a.accepted h.a is
had x y B h is = had-one x.b.accepted y.b.accepted h.b is

-- a fate, asked or not
fate-on : (fate : Fate) (present : Option Card) (kept : Kept) (second : ℕ) (k : Keeper) (cabin : Cabin) → (fate ≡ Still) ⊎ IsFateOf (session_at cabin.cards present) kept fate → SessionsGoOn cabin.cards (cabin_by fate present second cabin).cards
fate-on fate present kept second k cabin (inr is) = brought-sessions fate present kept second (record k { cabin = cabin }) (record k { cabin = cabin_by fate present second cabin }) is refl
fate-on Still None kept second k cabin (inl is) = sessions-none cabin.cards
fate-on Still (Some card) kept second k cabin (inl is) = sessions-none cabin.cards
fate-on (Has a n) present kept second k cabin (inl is) = absurd (cc)
fate-on Fell present kept second k cabin (inl is) = absurd (cc)

-- who falls had a session, and has none then
fell-had : (cards : Cards) (card : Card) (kept : Kept) → IsFateOf (session_of cards card) kept Fell → is_some (session_of cards card) ≡ true
fell-had cards card kept is = by (session_of cards card) refl is
  where
    by : (q : Option Accepted) → session_of cards card ≡ q → IsFateOf q kept Fell → is_some (session_of cards card) ≡ true
    by None none h = absurd h
    by (Some a) some h = ap (λ (o : Option Accepted). is_some o) some

pub fell-asked : (fate : Fate) (cards : Cards) (present : Option Card) (card : Card) (kept : Kept) → (fate ≡ Still) ⊎ IsFateOf (session_at cards present) kept fate → fate ≡ Fell → present ≡ Some card → is_some (session_of cards card) ≡ true
fell-asked fate cards present card kept (inl still) fell is = let clash : Still ≡ Fell = sym still ∙ fell in absurd (cc)
fell-asked fate cards present card kept (inr asked) fell is =
    fell-had cards card kept (subst (λ (o : Option Card). IsFateOf (session_at cards o) kept Fell) is (subst (IsFateOf (session_at cards present) kept) fell asked))

pub fell-gone : (fate : Fate) (present : Option Card) (card : Card) (second : ℕ) (cabin : Cabin) → fate ≡ Fell → present ≡ Some card → session_of (cabin_by fate present second cabin).cards card ≡ None
fell-gone fate present card second cabin fell is =
    ap (λ (f : Fate). session_of (cabin_by f present second cabin).cards card) fell ∙ ap (λ (o : Option Card). session_of (cabin_by Fell o second cabin).cards card) is ∙ session_set card None cabin.cards

some-each : (o : Option Card) (P : Card → Type 0) → ((card : Card) → o ≡ Some card → P card) → IfSome o P
some-each None P h = tt
some-each (Some card) P h = h card refl

-- ---- rounds

module _ (k : Keeper) (at : Moment) (m : Minute) (round : Round) (failed : Bool) (t : KeepingState) (is : IsRound (present_at k.cabin m.minute) (minute_of m k) at failed t.keeper round) where
  abbrev p : Present
  p = present_at k.cabin m.minute

  abbrev cabin1 : Cabin
  cabin1 = cabin_by round.driver p.driver at.second t.keeper.cabin

  abbrev u : KeepingState
  u = told_after p m.minute at round t

  pub second-is : (round.codriver ≡ Still) ⊎ IsFateOf (session_at cabin1.cards p.codriver) (kept_in (minute_of m k) CoDriver) round.codriver
  second-is = ⊎_elim (λ off. inl off.not_asked) (λ f. inr f) is.codriver

  pub first-on : SessionsGoOn t.keeper.cabin.cards cabin1.cards
  first-on = fate-on round.driver p.driver (kept_in (minute_of m k) Driver) at.second k t.keeper.cabin (inr is.driver)

  pub second-on : SessionsGoOn cabin1.cards u.keeper.cabin.cards
  second-on = fate-on round.codriver p.codriver (kept_in (minute_of m k) CoDriver) at.second k cabin1 second-is

  pub round-on : SessionsGoOn t.keeper.cabin.cards u.keeper.cabin.cards
  round-on = sessions-then t.keeper.cabin.cards cabin1.cards u.keeper.cabin.cards first-on second-on

  pub driver-broken : (end : Cards) (first last : Device → ℕ) → SessionsGoOn u.keeper.cabin.cards end → AreGone t.keeper.cabin.cards end first last → HasBrokenDown round.driver p.driver first last
  driver-broken end first last on broke = λ fell. some-each p.driver (λ (card : Card). RoseBy 1 (first (device_of card)) (last (device_of card)))
      (λ card here. broke card (fell-asked round.driver t.keeper.cabin.cards p.driver card (kept_in (minute_of m k) Driver) (inr is.driver) fell here)
      (gone u.keeper.cabin.cards end card on (gone cabin1.cards u.keeper.cabin.cards card second-on (fell-gone round.driver p.driver card at.second t.keeper.cabin fell here))))

  pub codriver-broken : (end : Cards) (first last : Device → ℕ) → SessionsGoOn u.keeper.cabin.cards end → AreGone t.keeper.cabin.cards end first last → HasBrokenDown round.codriver p.codriver first last
  codriver-broken end first last on broke = λ fell. some-each p.codriver (λ (card : Card). RoseBy 1 (first (device_of card)) (last (device_of card)))
      (λ card here. broke card (had t.keeper.cabin.cards cabin1.cards card first-on (fell-asked round.codriver cabin1.cards p.codriver card (kept_in (minute_of m k) CoDriver) second-is fell here))
      (gone u.keeper.cabin.cards end card on (fell-gone round.codriver p.codriver card at.second cabin1 fell here)))

pub rounds-on : (k : Keeper) (at : Moment) (xs : List Done) (t : KeepingState) → AreRounds k at xs t → SessionsGoOn t.keeper.cabin.cards (told_by k at xs t).keeper.cabin.cards
rounds-on k at [] t rounds = sessions-none t.keeper.cabin.cards
rounds-on k at (x ∷ xs) t rounds =
    let u : KeepingState = told_after (present_at k.cabin x.minute.minute) x.minute.minute at x.round t in
    sessions-then t.keeper.cabin.cards u.keeper.cabin.cards (told_by k at xs u).keeper.cabin.cards (round-on k at x.minute x.round false t rounds.0) (rounds-on k at xs u rounds.1)

-- what is known of the cards at the end is known behind a round
gone-on : (x y end : Cards) (first last : Device → ℕ) → SessionsGoOn x y → AreGone x end first last → AreGone y end first last
gone-on x y end first last on broke = λ card some none. broke card (had x y card on some) none

pub have-broken : (k : Keeper) (at : Moment) (xs : List Done) (t : KeepingState) (end : Cards) (first last : Device → ℕ) → AreRounds k at xs t → SessionsGoOn (told_by k at xs t).keeper.cabin.cards end → AreGone t.keeper.cabin.cards end first last → HaveBroken k xs first last
have-broken k at [] t end first last rounds on broke = tt
have-broken k at (x ∷ xs) t end first last rounds on broke =
    let u : KeepingState = told_after (present_at k.cabin x.minute.minute) x.minute.minute at x.round t in
    let later : SessionsGoOn u.keeper.cabin.cards end = sessions-then u.keeper.cabin.cards (told_by k at xs u).keeper.cabin.cards end (rounds-on k at xs u rounds.1) on in (
      driver-broken k at x.minute x.round false t rounds.0 end first last later broke,
      codriver-broken k at x.minute x.round false t rounds.0 end first last later broke,
      have-broken k at xs u end first last rounds.1 on (gone-on t.keeper.cabin.cards u.keeper.cabin.cards end first last (round-on k at x.minute x.round false t rounds.0) broke),
    )

-- WHOLE, and where the unit failed
pub cards-broken : (k : Keeper) (at : Moment) (xs : List Done) (t : KeepingState) (first last : Device → ℕ) → AreRounds k at xs t → AreGone t.keeper.cabin.cards (told_by k at xs t).keeper.cabin.cards first last → HaveBroken k xs first last
cards-broken k at xs t first last rounds broke = have-broken k at xs t (told_by k at xs t).keeper.cabin.cards first last rounds (sessions-none (told_by k at xs t).keeper.cabin.cards) broke

pub cards-broken_last : (k : Keeper) (at : Moment) (xs : List Done) (m : Minute) (round : Round) (t : KeepingState) (first last : Device → ℕ) → AreRounds k at xs t → IsRound (present_at k.cabin m.minute) (minute_of m k) at true (told_by k at xs t).keeper round →
    AreGone t.keeper.cabin.cards (told_after (present_at k.cabin m.minute) m.minute at round (told_by k at xs t)).keeper.cabin.cards first last → HaveBroken k xs first last × HasBrokenLast k m (Some round) first last
cards-broken_last k at xs m round t first last rounds is broke =
    let u : KeepingState = told_by k at xs t in
    let end : Cards = (told_after (present_at k.cabin m.minute) m.minute at round u).keeper.cabin.cards in
    let here : AreGone u.keeper.cabin.cards end first last = gone-on t.keeper.cabin.cards u.keeper.cabin.cards end first last (rounds-on k at xs t rounds) broke in (
      have-broken k at xs t end first last rounds (round-on k at m round true u is) broke,
      (driver-broken k at m round true u is end first last (sessions-none end) here, codriver-broken k at m round true u is end first last (sessions-none end) here),
    )
