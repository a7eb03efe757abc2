-- Why a run on the unit alone is refused: for no cause of a card.
use Rattle.std.proofs.Common.{◌≡◌, inl, inr, ℕ, Bool, false, Option, Some, None, List, refl, sym, subst}
use Rattle.std.specs.Prelude.{◌<◌, IfSome, Result, Ok, Err, IfErr}
use Rattle.trace_model.specs.declared.Card.TheVariants.{A}
use Rattle.run_model.specs.declared.Device.TheVariants.{Unit as OfUnit, CardA, CardB}
use Rattle.tach_media.specs.Medium.{State, IsCoherent, LeavesOnly, Unchanged, last_count}
use Rattle.unit_model.specs.Image.{last_kept}
use Rattle.unit_model.specs.Decoding.{Decodes, first_bad_place}
use Rattle.run_promise.specs.Between.{devices}
use Rattle.run_opening.specs.Units.{IsUnitRefused}
use Rattle.run_opening.specs.declared.fault.RunFault.{RunFault}
use Rattle.run_opening.specs.declared.fault.RunFault.TheVariants.{MediumFault, BadUnit, ClockBack, SameCard}
use Rattle.run_outcome.specs.declared.outcome.Outcome.{Outcome}
use Rattle.recorder_with_cards.specs.Words.{HaveTime}
use Rattle.recorder_with_cards.specs.Ends.{BeginAs, IsKeptFrom}
use Rattle.recorder_with_cards.specs.Gone.{IsRefusedBy}
use Rattle.tacho.specs.Alone.{StartsAs, IsUnitFault, IsRefusedAlone}
use Rattle.tacho.specs.Blank.{no_image, blank_state}
use Rattle.tacho.proofs.NoCard.{no-valid, never-failed, begins-alone, time-alone}
use Rattle.tacho.proofs.UnitRuns.{told-still}

module _ (start : ℕ) (U V : State) (a b c d : Bool) (new_a : a ≡ false) (new_b : b ≡ false) where
  -- whatever the unit tells
  pub refused-alone : (before after : Outcome) (fault : RunFault) → IsRefusedBy start before after U V (blank_state a) (blank_state c) (blank_state b) (blank_state d) fault → IsRefusedAlone start before after U V fault
  refused-alone before after (MediumFault OfUnit) (inl h) = inl ((refl, h.0.0), h.1.leaves, h.4)
  refused-alone before after (MediumFault CardA) (inl h) = absurd (never-failed a c new_a h.2.clock h.0.0)
  refused-alone before after (MediumFault CardB) (inl h) = absurd (never-failed b d new_b h.3.clock h.0.0)
  refused-alone before after (BadUnit place) (inl h) = inl (h.0, h.1.leaves, h.4)
  refused-alone before after (ClockBack kept second) (inl h) = inl (h.0, h.1.leaves, h.4)
  refused-alone before after (SameCard number) (inl h) = absurd (no-valid h.0.1.0)
  refused-alone before after fault (inr late) = inr late

  -- over a unit that began with this image
  pub kept-alone : (x : List ℕ) (fault : RunFault) → IsCoherent U → IsCoherent V → StartsAs x U → IsKeptFrom x no_image no_image start (devices U (blank_state a) (blank_state b)) (devices V (blank_state c) (blank_state d)) fault →
      IsUnitRefused start U V fault × LeavesOnly U V Unchanged
  kept-alone x fault before after alone h = (cause fault h, h.same_unit.leaves)
    where
      shown : (P : List ℕ → Type 0) → P x → IfSome V.image P
      shown P p = by V.image refl
        where
          by : (o : Option (List ℕ)) → V.image ≡ o → IfSome o P
          by (Some y) is = subst P (sym (told-still x y U V before after alone h.same_unit.leaves is)) p
          by None is = tt

      cause : (f : RunFault) → IsKeptFrom x no_image no_image start (devices U (blank_state a) (blank_state b)) (devices V (blank_state c) (blank_state d)) f → IsUnitRefused start U V f
      cause (MediumFault OfUnit) k = (refl, k.cause)
      cause (MediumFault CardA) k = absurd (never-failed a c new_a k.same_a.clock k.cause)
      cause (MediumFault CardB) k = absurd (never-failed b d new_b k.same_b.clock k.cause)
      cause (BadUnit place) k = shown (λ (y : List ℕ). first_bad_place y ≡ Some place) k.cause
      cause (ClockBack kept second) k = (k.cause.2, k.cause.3, shown (λ (y : List ℕ). Decodes y × (last_kept y ≡ kept)) (k.cause.0, k.cause.1))
      cause (SameCard number) k = absurd (no-valid (k.cause.2 A).0)

  pub refused-by : (r : Result (Unit {0}) RunFault) (Few : Type 0) (before after : Outcome) → IsCoherent U → IsCoherent V
      → ((x y z : List ℕ) → BeginAs x y z (devices U (blank_state a) (blank_state b)) → HaveTime (devices V (blank_state c) (blank_state d)) → Few
      → IfErr r (λ fault. IsKeptFrom x y z start (devices U (blank_state a) (blank_state b)) (devices V (blank_state c) (blank_state d)) fault × (after ≡ before)))
      → IfErr r (λ fault. (x : List ℕ) → StartsAs x U → V.clock < last_count → Few → IsUnitRefused start U V fault × LeavesOnly U V Unchanged × (after ≡ before))
  refused-by (Ok done) Few before after whole whole_new h = tt
  refused-by (Err fault) Few before after whole whole_new h = λ x alone time few.
      let k = h x no_image no_image (begins-alone x U a b whole alone) (time-alone V c d time) few in
      let u = kept-alone x fault whole whole_new alone k.0 in
      (u.0, u.1, k.1)

-- a fault of such a run is the unit's
pub of-unit-alone : (start : ℕ) (before after : Outcome) (U V : State) (fault : RunFault) → IsRefusedAlone start before after U V fault → IsUnitFault U V fault
of-unit-alone start before after U V (MediumFault device) (inl h) = h.0
of-unit-alone start before after U V (BadUnit place) (inl h) = tt
of-unit-alone start before after U V (ClockBack kept second) (inl h) = tt
of-unit-alone start before after U V (SameCard number) (inl h) = h.0
of-unit-alone start before after U V (MediumFault device) (inr late) = absurd late
of-unit-alone start before after U V (BadUnit place) (inr late) = tt
of-unit-alone start before after U V (ClockBack kept second) (inr late) = tt
of-unit-alone start before after U V (SameCard number) (inr late) = late
