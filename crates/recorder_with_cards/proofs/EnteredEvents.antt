-- What is noted on the unit of a card that enters.
use Rattle.std.proofs.Common.{◌≡◌, ◌∙◌, ⊎_elim, ℕ, Bool, true, false, not, Option, Some, None, IfSome, is_some, List, [], ◌∷◌, length, refl, ap, sym, subst, arith}
use Rattle.trace_model.specs.declared.Card.{Card}
use Rattle.tach_media.specs.Medium.{State, IsCoherent}
use Rattle.device_calls.specs.event_model.Events.{Event}
use Rattle.unit_minutes.specs.unit_model.Image.{IsUnit}
use Rattle.run_minutes.specs.run_promise.Between.{devices}
use Rattle.run_acts.specs.run_note_record.Evented.{number_in}
use Rattle.run_insertion.specs.Noted.{UnitNote, Inserts, BeginsRow, Tells, IsOnUnit, IsComing, AreDone, HasNoted}
use Rattle.recorder_with_cards.specs.EnteredTold.{TellEvents}
use Rattle.run_acts.specs.NotedEvents.{AreTold, NotesEvents}
use Rattle.run_acts.specs.run_events.Shown.{by_kind}
use Rattle.run_acts.proofs.run_events.Shows.{nothing-of}
use Rattle.run_acts.proofs.NotedEvents.{same-says}
use Rattle.recorder_with_cards.specs.EnteredEvents.{events_in}
use Rattle.recorder_with_cards.proofs.EnteredTold.{told-shown, told-coming}

tell-told : (number : Card → List ℕ) (notes : List UnitNote) (es : List Event) → AreTold number (events_in notes) es → TellEvents number notes es
tell-told number [] [] h = tt
tell-told number [] (e ∷ es) h = absurd h
tell-told number (Inserts insertion ∷ notes) es h = tell-told number notes es h
tell-told number (BeginsRow card session spared ∷ notes) es h = tell-told number notes es h
tell-told number (Tells v ∷ notes) [] h = absurd h
tell-told number (Tells v ∷ notes) (e ∷ es) h = (h.0, tell-told number notes es h.1)

-- ---- a card that enters

module _ (U V A B C D : State) (notes : List UnitNote) (whole : IsCoherent U) (behind : IsCoherent V) (unit : IsUnit U) where
  long-enough : (x : List ℕ) → U.image ≡ Some x → length x ≡ 2485808
  long-enough x is = let all = whole.sized x is in let size = unit.sized in let none_behind = unit.behind in omega (arith, all, size, none_behind)

  by-image : (image after : Option (List ℕ)) (c : List ℕ) → after ≡ Some c → is_some after ≡ is_some image → (x : List ℕ) × (image ≡ Some x)
  by-image None after c is tells = absurd (let bad : true ≡ false = sym (ap is_some is) ∙ tells in cc)
  by-image (Some x) after c is tells = (x, refl)

  pub entered-noted : (failed : Bool) → HasNoted IsOnUnit IsComing notes failed U V → V.works ≡ not failed → NotesEvents (events_in notes) failed (devices U A B) (devices V C D)
  entered-noted false h works o long es told = λ c there.
      let is : V.image ≡ Some c = behind.only c works there in
      let was = by-image U.image V.image c is h.moments.tells in
      let done = subst (λ (q : Option (List ℕ)). IfSome q (λ y. AreDone IsOnUnit notes was.0 y)) is (subst (λ (q : Option (List ℕ)). IfSome q (λ x. IfSome V.image (AreDone IsOnUnit notes x))) was.1 (h.whole refl)) in
      (was.0, whole.is_left was.0 was.1, told-shown (number_in o) long notes es was.0 c (long-enough was.0 was.1) (tell-told (number_in o) notes es told) done)
  entered-noted true h works o long es told = λ c there.
      ⊎_elim
      (λ was. (c, was, nothing-of (number_in o) (by_kind es) c c (same-says c)))
      (λ moment. (
        moment.0,
        whole.is_left moment.0 moment.1,
        told-coming (number_in o) long notes es moment.0 c (long-enough moment.0 moment.1) (tell-told (number_in o) notes es told) moment.2,
      ))
      (h.moments.now c there)
