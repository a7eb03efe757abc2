-- Which card has a session once a run is over: one that sits in a slot; so the spells of its stays are the noted ones. And what is true of them then.
use Rattle.std.proofs.Common.{◌≡◌, ◌∙◌, ⊎_elim, ℕ, Bool, true, false, List, [], ◌∷◌, Option, Some, None, is_some, refl, ap, sym}
use Rattle.std.specs.List.{AllByRecursion}
use Rattle.trace_model.specs.declared.Card.{Card}
use Rattle.trace_model.specs.Trace.{TraceSecond}
use Rattle.log_model.specs.Course.{ToldSecond}
use Rattle.log_model.specs.declared.lines.Mark.{Mark}
use Rattle.tacho_types.specs.declared.texts.Registration.{Registration}
use Rattle.device_calls.specs.safety_model.Safe.{Devices}
use Rattle.device_calls.specs.run_unit_course.Followed.{UnitPower, Lit as IsLit, Due as IsDue, Lost as IsLost}
use Rattle.run_acts.specs.run_crew.declared.cards.Accepted.{Accepted}
use Rattle.run_acts.specs.run_crew.Cards.{session_of}
use Rattle.run_acts.specs.run_crew.Cabin.{CabinIsSound}
use Rattle.run_outcome.specs.declared.outcome.Outcome.{Outcome}
use Rattle.run_minutes.specs.run_promise.Origin.{Origin}
use Rattle.run_minutes.specs.run_promise.Between.{RunLedger}
use Rattle.run_acts.specs.run_record.Recorded.{IsHeldBy, carried}
use Rattle.run_acts.specs.declared.run.Run.{Run}
use Rattle.run_acts.specs.declared.run.Power.{Power}
use Rattle.run_acts.specs.declared.run.Power.TheVariants.{Lit, Due, Lost}
use Rattle.run_acts.specs.Recording.{Supplies, RunRecorded, values_of}
use Rattle.run_acts.specs.Closings.{Spell}
use Rattle.run_acts.specs.Truths.{Truths, past_of, truths_by, marked}
use Rattle.run_acts.specs.Stays.{Stay, Shown, after_stay, sits_in, as_noted, AreOwed, Whose, Both, Only, owed_by, IsTrueOf}
use Rattle.run_acts.proofs.SeatsThen.{sits-in-one}
use Rattle.unit_minutes.specs.unit_model.Image.{odometer_at}
use Rattle.device_calls.specs.safety_model.Recording.{Recording, brought, start_of}
use Rattle.run_acts.specs.Stood.{IsClosedSo, IsCountedSo}
use Rattle.recorder_with_cards.specs.Stays.{IsAcknowledgedSo}
use Rattle.run_acts.specs.Owed.{IsOwed}

-- none is leaving then
pub noted-at-end : (u : ℕ) (s : Option Accepted) (sits : Bool) (ss : List Spell) → (is_some s ≡ true → sits ≡ true) → as_noted u s sits ss ≡ ss
noted-at-end u None sits ss there = refl
noted-at-end u (Some a) sits ss there = ap (λ (b : Bool). as_noted u (Some a) b ss) (there refl)

module _ (o : Origin) (done : List TraceSecond) (run : Run) (out : Outcome) (d : Devices) (h : RunRecorded o done run out d) (sits : run.power ≡ Lit → (low : ℕ) × CabinIsSound low None run.keeper.cabin) (c : Card) where
  has-power : (p : Power) (span : List ToldSecond) → Supplies p (IsLit span) → p ≡ Lit
  has-power Lit span powers = refl
  has-power Due span powers = absurd powers
  has-power Lost span powers = absurd powers

  seated : ((low : ℕ) × CabinIsSound low None run.keeper.cabin) → is_some (session_of run.keeper.cabin.cards c) ≡ true → sits_in run.keeper.cabin.slots.seats c ≡ true
  seated stands some = ⊎_elim (λ there. sits-in-one run.keeper.cabin.slots.seats c there) (λ leaving. absurd (let wrong : None ≡ Some c = leaving in cc)) (stands.1.only c some)

  -- without power it has none
  bare : session_of run.keeper.cabin.cards c ≡ None → is_some (session_of run.keeper.cabin.cards c) ≡ true → sits_in run.keeper.cabin.slots.seats c ≡ true
  bare none some = absurd (let wrong : true ≡ false = sym some ∙ ap (λ (s : Option Accepted). is_some s) none in cc)

  by-supply : (supply : UnitPower) (w : RunLedger) → Supplies run.power supply → IsHeldBy o done supply (values_of run out) w d → is_some (session_of run.keeper.cabin.cards c) ≡ true → sits_in run.keeper.cabin.slots.seats c ≡ true
  by-supply (IsLit span) w powers held some = seated (sits (has-power run.power span powers)) some
  by-supply IsDue w powers held some = bare (held.bare c) some
  by-supply IsLost w powers held some = bare (held.bare c) some

  pub sits-at-end : is_some (session_of run.keeper.cabin.cards c) ≡ true → sits_in run.keeper.cabin.slots.seats c ≡ true
  sits-at-end some =
      by-supply h.supply (carried (values_of run out) h.recorded.due h.recorded.book h.recorded.standing h.recorded.brought h.recorded.hands h.recorded.firsts) h.powers h.recorded.held some

-- ---- what is true of the stays of a run

module _ (r : Recording) where
  abbrev HoldIn : List Stay → Type 0
  HoldIn ss = AllByRecursion (IsTrueOf (truths_by r.rule (odometer_at r.unit) (past_of r.log r.trace) (λ k. IsOwed r.rule (start_of r) r.log r.trace k (brought r k).owed))) ss

  -- the words of their closings
  pub words-so : (ss : List Stay) → HoldIn ss → AllByRecursion (IsClosedSo r) ss
  words-so [] all = tt
  words-so (s ∷ ss) all = (all.0.2, words-so ss all.1)

  -- and their odometers
  pub odometers-so : (ss : List Stay) → HoldIn ss → AllByRecursion (IsCountedSo r) ss
  odometers-so [] all = tt
  odometers-so (s ∷ ss) all = ((all.0.0, all.0.1), odometers-so ss all.1)

-- what was owed to a card at each
pub owes-so : (t : Truths) (marks : List Mark) (c : Card) (vehicle : Registration) (size : ℕ) (ss : List Stay) (p : Shown) → AreOwed (owed_by Both (marked marks t) c) vehicle size ss p → AreOwed (t.owed c) vehicle size ss p
owes-so t marks c vehicle size [] p h = tt
owes-so t marks c vehicle size (s ∷ ss) p h = (h.0.0, owes-so t marks c vehicle size ss (after_stay vehicle size s p) h.1)

-- and that each entry of it has its mark
pub acknowledged-so : (whose : Whose) (t : Truths) (marks : List Mark) (c : Card) (vehicle : Registration) (size : ℕ) (ss : List Stay) (p : Shown) → AreOwed (owed_by whose (marked marks t) c) vehicle size ss p → AllByRecursion (IsAcknowledgedSo marks c) ss
acknowledged-so Both t marks c vehicle size [] p h = tt
acknowledged-so (Only k) t marks c vehicle size [] p h = tt
acknowledged-so Both t marks c vehicle size (s ∷ ss) p h = (h.0.1, acknowledged-so Both t marks c vehicle size ss (after_stay vehicle size s p) h.1)
acknowledged-so (Only k) t marks c vehicle size (s ∷ ss) p h = (h.0, acknowledged-so (Only k) t marks c vehicle size ss (after_stay vehicle size s p) h.1)
