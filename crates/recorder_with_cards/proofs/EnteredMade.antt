-- A card is judged: each image that it may leave is made of one before.
use Rattle.std.proofs.Common.{◌≡◌, ◌∙◌, ⊎_elim, ℕ, ◌<◌, ◌≤◌, ◌/◌, Bool, None, List, [], length, sym, ap, subst, arith}
use Rattle.trace_model.specs.declared.Card.{Card}
use Rattle.trace_model.specs.Trace.{TraceSecond}
use Rattle.tach_media.specs.Medium.{State}
use Rattle.tacho_types.specs.declared.texts.Registration.{Registration}
use Rattle.minute_rules.specs.Kept.{Kept}
use Rattle.tach_media.specs.card_layout.declared.files.Application.{Application}
use Rattle.tach_media.specs.card_layout.declared.files.TheConstants.{LARGEST_IMAGE}
use Rattle.tach_media.specs.card_layout.Application.{IsApplication}
use Rattle.tach_media.specs.card_layout.Files.{image_size_of}
use Rattle.tach_media.proofs.card_layout.Sizes.{largest_image}
use Rattle.unit_minutes.specs.unit_model.Image.{last_kept}
use Rattle.device_calls.specs.card_image.Own.{own_sizes, IsOwnValid}
use Rattle.device_calls.specs.device_rule.Views.{other}
use Rattle.log_model.specs.Log.{In}
use Rattle.log_model.specs.Course.{Visit}
use Rattle.device_calls.specs.safety_model.Recording.{card_image}
use Rattle.device_calls.specs.safety_model.Safe.{card_of}
use Rattle.run_minutes.specs.run_promise.Found.{found_of}
use Rattle.run_minutes.specs.run_promise.Origin.{Origin}
use Rattle.run_minutes.specs.run_devices.Told.{arranged}
use Rattle.run_minutes.specs.run_devices.Measured.{GoesMeasured, MakesOn, Reading}
use Rattle.run_minutes.proofs.run_devices.Measured.{goes-itself, makes-self}
use Rattle.run_outcome.specs.declared.outcome.Outcome.{Outcome}
use Rattle.run_minutes.specs.declared.keeper.Keeper.{Keeper}
use Rattle.run_insertion.specs.declared.lines.Entering.{Entering}
use Rattle.run_insertion.specs.Entering.{Way, Unread, Unsized, Judged}
use Rattle.run_insertion.specs.Noted.{IsOnCard, IsComingOnCard, AreBeingDone, AreComingOnCard, card_notes_by}
use Rattle.run_insertion.specs.Entered.{IsFoundIn}
use Rattle.run_acts.specs.run_record.Within.{RecordInSecond}
use Rattle.run_acts.specs.Entered.{values_with, MayJudge, HasGone, AreSound}
use Rattle.run_acts.specs.Recording.{IsOrigin}
use Rattle.run_acts.specs.RunCards.{sizes_in}
use Rattle.run_acts.proofs.CardStays.{valid-found}
use Rattle.run_acts.proofs.EnteredFacts.{mine-back, each, early-run}
use Rattle.run_acts.proofs.EnteredWhole.{found-in}
use Rattle.recorder_with_cards.proofs.EnteredPlaces.{coming-goes}

-- whatever its odometer
abbrev Any : Reading → Type 0
Any n = Unit {0}

module _ (o : Origin) (done : List TraceSecond) (s : TraceSecond) (n : ℕ) (waits fewer : List Visit) (e : Entering) (k : Keeper) (out : Outcome) (unfound next_ begun : ℕ) (minutes : Kept) (U X Z : State) (w : RecordInSecond o done s (In n) waits None [] (values_with k out unfound next_ begun minutes) (arranged e.which U X Z)) (m : MayJudge o done s n waits fewer e k out unfound next_ begun minutes U X Z w)
    (origin : IsOrigin o) (failed : Bool) (k' : Keeper) (noted noted' : ℕ) (out' : Outcome) (W Y : State) (way : Way) (g : HasGone e failed k k' noted noted' out out' U W X Y Z way) (sound : AreSound U W X Y) (fits : LARGEST_IMAGE ≤ X.size) where
  -- of this card, where it was valid
  module _ (valid : IsOwnValid (card_image o.recording e.which)) where
    there : IsOwnValid (found_of o.found e.which).image
    there = valid-found o origin e.which valid

    sizes-are : (x : List ℕ) → X.may_leave x → own_sizes x ≡ sizes_in o e.which
    sizes-are x at = ((w.powered.go.held e.which there).now x (mine-back e.which U X Z (λ (q : State). q.may_leave x) at)).0 ∙ ap own_sizes (origin.image e.which)

    good : IsApplication (sizes_in o e.which)
    good = subst (λ (l : List ℕ). IsApplication (own_sizes l)) (origin.image e.which) (w.found.sizes e.which there)

    all : (x : List ℕ) → X.may_leave x → image_size_of (sizes_in o e.which) ≤ length x
    all x at =
        let most = largest_image (sizes_in o e.which) good in
        let long = sound.card_before.left_sized x at in
        omega (arith, fits, most, long)

    named : length k.memory.registration.0 ≡ 15
    named = subst (λ (r : Registration). length r.0 ≡ 15) (sym (m.vehicle ∙ origin.vehicle e.which)) origin.named

    was : (x : List ℕ) × X.may_leave x × IsFoundIn e.at.second U.image way x
    was = found-in o done s n waits fewer e k out unfound next_ begun minutes U X Z w m failed k' noted noted' out' W Y way g sound

    by-way : (v : Way) (u x y : List ℕ) → last_kept u < e.at.second / 60 → X.may_leave x → IsFoundIn e.at.second U.image v was.0 → AreComingOnCard v k.memory.registration e u x y → GoesMeasured (sizes_in o e.which) Any x y
    by-way Unread u x y early at found comes = absurd comes
    by-way (Unsized field) u x y early at found comes = absurd comes
    by-way (Judged app ending) u x y early at found comes =
        let same : app ≡ sizes_in o e.which = sym found.0 ∙ sizes-are was.0 was.1 in
        coming-goes (sizes_in o e.which) good Any k.memory.registration named e (λ m is. tt) u early (card_notes_by ending k.memory.registration e) x y (all x at)
        (subst (λ (a : Application). AreBeingDone (IsOnCard a k.memory.registration e u) (IsComingOnCard a k.memory.registration e u) (card_notes_by ending k.memory.registration e) x y) same comes)

    goes-to : (y : List ℕ) → Y.may_leave y → (x : List ℕ) × X.may_leave x × GoesMeasured (sizes_in o e.which) Any x y
    goes-to y left =
        let run = early-run o done s n waits fewer e k out unfound next_ begun minutes U X Z w m failed k' noted noted' out' W Y way g sound in
        ⊎_elim
        (λ before. (y, before, goes-itself (sizes_in o e.which) Any y))
        (λ late. (late.2.0, late.2.1, by-way way run.0 late.2.0 y run.1 late.2.1 was.2 late.2.2))
        (run.2.now y left)

    own-makes : MakesOn (sizes_in o e.which) X Y
    own-makes y left =
        let one = goes-to y left in
        (one.0, one.1, λ points. let goes = one.2 points in (goes.0, goes.2))

  -- SO IT IS OF BOTH CARDS
  pub judged-makes : (c : Card) → IsOwnValid (card_image o.recording c) → MakesOn (sizes_in o c) (card_of (arranged e.which U X Z) c) (card_of (arranged e.which W Y Z) c)
  judged-makes c valid =
      each e.which U W X Y Z (λ (q : Card) (a b : State). IsOwnValid (card_image o.recording q) → MakesOn (sizes_in o q) a b) (λ v. own-makes v) (λ v. makes-self (sizes_in o (other e.which)) Z) c valid
