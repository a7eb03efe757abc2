-- A card that has no session when minutes are kept has none behind it.
use Rattle.std.proofs.Common.{◌≡◌, ⊎_elim, ℕ, false, Option, Some, None, List, subst, sym}
use Rattle.activity_codec.specs.declared.values.Slot.TheVariants.{Driver, CoDriver}
use Rattle.trace_model.specs.declared.Card.{Card}
use Rattle.unit_model.specs.minute_model.declared.Minute.{Minute}
use Rattle.device_calls.specs.card_session.declared.session.Kept.{Kept}
use Rattle.unit_minutes.specs.declared.kept.KeptMinute.{KeptMinute}
use Rattle.run_crew.specs.card_slots.declared.seats.Present.{Present}
use Rattle.run_crew.specs.declared.cabin.Cabin.{Cabin}
use Rattle.run_crew.specs.Cards.{session_of}
use Rattle.run_minutes.specs.declared.keeper.Moment.{Moment}
use Rattle.run_minutes.specs.Keeping.{Fate, Still, Has, Fell, cabin_by, session_at, kept_in, IsFateOf}
use Rattle.run_minutes.specs.Minutes.{KeepingState, Round, AreKept, none, more, IsRound, minute_of, present_at, cabin_after}
use Rattle.run_acts.proofs.Bare.{gone, has-one, stays-none}

module _ (c : Card) where
  fate-none : (fate : Fate) (present : Option Card) (kept : Kept) (second : ℕ) (cabin : Cabin) → IsFateOf (session_at cabin.cards present) kept fate → session_of cabin.cards c ≡ None → session_of (cabin_by fate present second cabin).cards c ≡ None
  fate-none Still None kept second cabin is h = h
  fate-none (Has a clock) None kept second cabin is h = h
  fate-none Fell None kept second cabin is h = h
  fate-none Still (Some card) kept second cabin is h = h
  fate-none (Has a clock) (Some card) kept second cabin is h = stays-none c card cabin.cards a h (has-one (session_of cabin.cards card) kept a clock is)
  fate-none Fell (Some card) kept second cabin is h = gone c card cabin.cards h

  still-none : (fate : Fate) (present : Option Card) (second : ℕ) (cabin : Cabin) → fate ≡ Still → session_of cabin.cards c ≡ None → session_of (cabin_by fate present second cabin).cards c ≡ None
  still-none fate None second cabin is h = subst (λ (f : Fate). session_of (cabin_by f None second cabin).cards c ≡ None) (sym is) h
  still-none fate (Some card) second cabin is h = subst (λ (f : Fate). session_of (cabin_by f (Some card) second cabin).cards c ≡ None) (sym is) h

  round-none : (present : Present) (minute : KeptMinute) (at : Moment) (t : KeepingState) (round : Round) → IsRound present minute at false t.keeper round → session_of t.keeper.cabin.cards c ≡ None → session_of (cabin_after present at.second round t.keeper.cabin).cards c ≡ None
  round-none present minute at t round is h =
      let cabin = t.keeper.cabin in
      let between = cabin_by round.driver present.driver at.second cabin in
      let first = fate-none round.driver present.driver (kept_in minute Driver) at.second cabin is.driver h in
      ⊎_elim (λ broken. still-none round.codriver present.codriver at.second between broken.not_asked first) (λ fate. fate-none round.codriver present.codriver (kept_in minute CoDriver) at.second between fate first) is.codriver

  pub none-comes : (at : Moment) (ms : List Minute) (t u : KeepingState) → AreKept at ms t u → session_of t.keeper.cabin.cards c ≡ None → session_of u.keeper.cabin.cards c ≡ None
  none-comes at ms t u (none v) h = h
  none-comes at ms t u (more m front round v mid kept is) h = round-none (present_at mid.keeper.cabin m.minute) (minute_of m mid.keeper) at mid round is (none-comes at front v mid kept h)
