-- What the keeping of minutes leaves of the devices is what a call leaves of them: what might have been left might be left still, and a card that was as it was is so, or has a session.
use Rattle.std.proofs.Common.{◌≡◌, ◌⊎◌, inl, inr, ⊎_elim, ℕ, ◌+◌, ◌≤◌, Bool, true, Option, Some, None, is_some, List, [], refl, subst, ◌∙◌, arith}
use Rattle.std.proofs.lemmas.Bool.{cases_lt}
use Rattle.trace_model.specs.declared.Card.{Card}
use Rattle.trace_model.specs.declared.Card.TheVariants.{A, B}
use Rattle.tach_media.specs.Medium.{State, Rose}
use Rattle.log_model.specs.run_model.declared.Device.TheVariants.{Unit as Recorder}
use Rattle.log_model.specs.Causes.{RoseBy}
use Rattle.device_calls.specs.safety_model.Safe.{Devices, card_of, breakdowns_of}
use Rattle.run_crew.specs.declared.cards.Accepted.{Accepted}
use Rattle.run_crew.specs.declared.cards.Cards.{Cards}
use Rattle.run_crew.specs.Cards.{session_of}
use Rattle.run_minutes.specs.run_promise.Found.{CardFound, found_of}
use Rattle.run_minutes.specs.run_promise.Cards.{IsUntouched}
use Rattle.run_minutes.specs.run_promise.Between.{RunLedger}
use Rattle.run_minutes.specs.run_devices.Measured.{Reading}
use Rattle.run_minutes.specs.run_devices.Told.{DevicesPowered}
use Rattle.run_minutes.specs.run_promise.Origin.{Origin}
use Rattle.run_outcome.specs.declared.outcome.Outcome.{Outcome}
use Rattle.run_events.specs.run_speeds.Speeds.{LeavesSpeeds}
use Rattle.run_minutes.specs.declared.keeper.Moment.{Moment}
use Rattle.run_minutes.specs.Books.{AreTimedOn}
use Rattle.run_minutes.specs.Later.{IsLater, AreLater, RestsBy}
use Rattle.run_minutes.specs.Stand.{Stand, StandsAfter, CardGoes, KeepingGoes, cards_of}
use Rattle.run_record.specs.Recorded.{AreThere}
use Rattle.run_record.specs.Within.{GoesOnSo}
use Rattle.run_acts.specs.declared.run.Run.{Run}
use Rattle.run_acts.specs.Devices.{CardGoesOn, DevicesGoOn, AreLeftMore}
use Rattle.run_acts.specs.Faults.{NotesSettling}
use Rattle.run_acts.specs.Keepings.{KeepsSettled}

rose-by : (before now : ℕ) → Rose before now → RoseBy 1 before now
rose-by before now rose = ⊎_elim (λ less. inr (omega (arith, rose, less))) (λ all. inl all) (cases_lt now (before + 1))

-- a card that was not called is as it was
pub same-left : (old new : State) → new ≡ old → (n : ℕ) (x : List ℕ) → new.left_since n x → old.left_since n x
same-left old new same n x at = subst (λ (s : State). s.left_since n x) same at

-- BEHIND KEEPINGS they go on
kept-card : (session after : Option Accepted) (old new : State) → IsLater old new → CardGoes session after old new → RestsBy session after old new → (session ≡ None → new ≡ old) → CardGoesOn session after old new
kept-card session after old new later goes rests bare = record {
  keeps = goes.keeps;
  clock = later.clock;
  tells = goes.tells;
  more = later.breakdowns;
  broken = goes.broken;
  rests = rests;
  bare = λ none. same-left old new (bare none);
}

pub kept-devices : {at : Moment} {failed : Bool} {s t : Stand} → StandsAfter at failed s t → KeepingGoes s t → ((cards_of s).a.accepted ≡ None → t.devices.card_a ≡ s.devices.card_a) → ((cards_of s).b.accepted ≡ None → t.devices.card_b ≡ s.devices.card_b)
    → DevicesGoOn failed (cards_of s) (cards_of t) s.devices t.devices
kept-devices {s = s} {t = t} stands goes bare_a bare_b = record {
  cause = stands.cause;
  keeps = goes.unit_keeps;
  tells = goes.unit_tells;
  clock = goes.all.later.unit.clock;
  card_a = kept-card (cards_of s).a.accepted (cards_of t).a.accepted s.devices.card_a t.devices.card_a goes.all.later.card_a goes.card_a goes.rests.card_a bare_a;
  card_b = kept-card (cards_of s).b.accepted (cards_of t).b.accepted s.devices.card_b t.devices.card_b goes.all.later.card_b goes.card_b goes.rests.card_b bare_b;
}

-- BEHIND A SETTLING
pub settled-left : {s t : Stand} → KeepingGoes s t → AreLeftMore s.devices t.devices
settled-left goes = record { unit = goes.unit_keeps; card_a = goes.card_a.keeps; card_b = goes.card_b.keeps }

pub settled-later : {s t : Stand} → KeepingGoes s t → LeavesSpeeds s.devices.unit t.devices.unit → AreLater s.devices t.devices
settled-later goes speeds = record { unit = goes.all.later.unit; card_a = goes.all.later.card_a; card_b = goes.all.later.card_b; speeds = speeds }

pub settled-noted : {at : Moment} {failed : Bool} {old new : Run} {before after : Outcome} {d e : Devices} → KeepsSettled at failed old new before after d e → NotesSettling at failed old new before after d.unit e.unit
settled-noted k = (k.decided, k.given, k.reach, k.is, k.noted)

-- a card without a session is as it was
untouched-card : (f : CardFound) (session after : Option Accepted) (old new : State) → CardGoesOn session after old new → IsUntouched f old → IsUntouched f new ⊎ (is_some session ≡ true)
untouched-card f None after old new h whole = inl (λ x at. whole x (h.bare refl f.began x at))
untouched-card f (Some a) after old new h whole = inr refl

module _ (o : Origin) (w : RunLedger) (failed : Bool) (cards after : Cards) (d e : Devices) (powered : DevicesPowered o.found w cards d) (there : AreThere o.found d) (h : DevicesGoOn failed cards after d e) (values : List Reading) (timed : AreTimedOn o.found values d e) where
  -- where the unit failed it broke down
  pub unit-rose : failed ≡ true → RoseBy 1 (breakdowns_of d Recorder) (breakdowns_of e Recorder)
  unit-rose is = rose-by d.unit.breakdowns e.unit.breakdowns (h.cause.breaks powered.lit.works is)

  there-now : AreThere o.found d → AreThere o.found e
  there-now t = record {
    unit = h.tells ∙ t.unit;
    cards = λ card. cards-told card t;
    clocks = λ card. cards-later card t;
    timed = λ card valid. (timed card valid).0 (t.timed card valid);
  }
    where
      cards-told : (card : Card) → AreThere o.found d → is_some (card_of e card).image ≡ true
      cards-told A t = h.card_a.tells ∙ t.cards A
      cards-told B t = h.card_b.tells ∙ t.cards B

      cards-later : (card : Card) → AreThere o.found d → (found_of o.found card).began ≤ (card_of e card).clock
      cards-later A t = let was = t.clocks A in let on = h.card_a.clock in omega (arith, was, on)
      cards-later B t = let was = t.clocks B in let on = h.card_b.clock in omega (arith, was, on)

  pub goes-on : GoesOnSo o cards d e
  goes-on = record {
    left = record { unit = λ x at. h.keeps o.found.unit.began x (powered.lit.unit.unit_holds [] []).later at; card = cards-left };
    there = there-now;
    untouched = spared;
  }
    where
      cards-left : (c : Card) (x : List ℕ) → (card_of d c).left_since (found_of o.found c).began x → (card_of e c).left_since (found_of o.found c).began x
      cards-left A x at = h.card_a.keeps o.found.card_a.began x (there.clocks A) at
      cards-left B x at = h.card_b.keeps o.found.card_b.began x (there.clocks B) at

      spared : (c : Card) → IsUntouched (found_of o.found c) (card_of d c) → IsUntouched (found_of o.found c) (card_of e c) ⊎ (is_some (session_of cards c) ≡ true)
      spared A whole = untouched-card o.found.card_a cards.a.accepted after.a.accepted d.card_a e.card_a h.card_a whole
      spared B whole = untouched-card o.found.card_b cards.b.accepted after.b.accepted d.card_b e.card_b h.card_b whole
