-- What calls note on the unit, one call after another.
use Rattle.std.proofs.Common.{◌≡◌, ◌∙◌, ⊎_elim, ℕ, Bool, true, false, not, Option, Some, None, IfSome, is_some, List, [], ◌∷◌, ◌++◌, length, refl, ap, sym, subst, arith}
use Rattle.trace_model.specs.declared.Card.{Card}
use Rattle.tach_media.specs.Medium.{State, IsCoherent, LeavesOnly}
use Rattle.unit_notes.specs.event_model.Events.{Event}
use Rattle.unit_model.specs.Image.{IsUnit}
use Rattle.unit_notes.specs.declared.unit_event.UnitEvent.{UnitEvent}
use Rattle.device_calls.specs.safety_model.Safe.{Devices}
use Rattle.run_minutes.specs.run_promise.Between.{devices}
use Rattle.run_events.specs.Shown.{by_kind, all_sure, SaysNothing}
use Rattle.run_events.proofs.Shows.{more-then, moment-then, nothing-more, nothing-of}
use Rattle.run_events.proofs.Frames.{event-more, event-coming}
use Rattle.unit_notes.specs.Entries.{fault_bytes}
use Rattle.unit_notes.specs.Noting.{IsEventNoted, IsNotingEvent}
use Rattle.run_minutes.specs.run_promise.Origin.{Origin}
use Rattle.run_note_record.specs.Evented.{number_in}
use Rattle.run_note_record.specs.Noting.{NotesThese}
use Rattle.run_acts.specs.NotedEvents.{AreTold, IsSplit, NotesSo, NotesEvents}

-- ---- lists of events

pub split : (number : Card → List ℕ) (vs ws : List UnitEvent) (es : List Event) → AreTold number (vs ++ ws) es → IsSplit number vs ws es
split number [] ws es h = record { first = []; later = es; are = refl; first_told = tt; later_told = h }
split number (v ∷ vs) ws [] h = absurd h
split number (v ∷ vs) ws (e ∷ es) h =
    let rest = split number vs ws es h.1 in
    record { first = e ∷ rest.first; later = rest.later; are = ap (λ (xs : List Event). e ∷ xs) rest.are; first_told = (h.0, rest.first_told); later_told = rest.later_told }

-- ---- calls

-- nothing is noted where the images say the same
pub quiet-noted : (U V A B C D : State) → ((c : List ℕ) → V.may_leave c → (x : List ℕ) × U.may_leave x × SaysNothing x c) → NotesEvents [] false (devices U A B) (devices V C D)
quiet-noted U V A B C D same o long [] told c there = let one = same c there in (one.0, one.1, nothing-more (number_in o) all_sure one.0 c one.2)
quiet-noted U V A B C D same o long (e ∷ es) told c there = absurd told

-- some events, and then others
pub so-then : (o : Origin) (failed : Bool) (xs ys : List Event) (d e f : Devices) → NotesThese o xs d e → NotesSo failed o ys e f → NotesSo failed o (xs ++ ys) d f
so-then o false xs ys d e f one two = λ c there.
    let mid = two c there in
    let start = one mid.0 mid.1 in
    (start.0, start.1, more-then (number_in o) all_sure xs ys start.0 mid.0 c start.2 mid.2)
so-then o true xs ys d e f one two = λ c there.
    let mid = two c there in
    let start = one mid.0 mid.1 in
    (start.0, start.1, moment-then (number_in o) xs ys start.0 mid.0 c start.2 mid.2)

-- one call after another
pub then-noted : (vs ws : List UnitEvent) (failed : Bool) (d e f : Devices) → NotesEvents vs false d e → NotesEvents ws failed e f → NotesEvents (vs ++ ws) failed d f
then-noted vs ws failed d e f first later o long es told =
    let parts = split (number_in o) vs ws es told in
    subst (λ (xs : List Event). NotesSo failed o xs d f) (sym parts.are) (so-then o failed parts.first parts.later d e f (first o long parts.first parts.first_told) (later o long parts.later parts.later_told))

-- the other devices do not matter
pub noted-any : (vs : List UnitEvent) (failed : Bool) (d e f g : Devices) → d.unit ≡ f.unit → e.unit ≡ g.unit → NotesEvents vs failed d e → NotesEvents vs failed f g
noted-any vs false d e f g first later h o long es told = λ c there.
    let one = h o long es told c (subst (λ (U : State). U.may_leave c) (sym later) there) in
    (one.0, subst (λ (U : State). U.may_leave one.0) first one.1, one.2)
noted-any vs true d e f g first later h o long es told = λ c there.
    let one = h o long es told c (subst (λ (U : State). U.may_leave c) (sym later) there) in
    (one.0, subst (λ (U : State). U.may_leave one.0) first one.1, one.2)

-- nothing was called
pub same-says : (x : List ℕ) → SaysNothing x x
same-says x = record { tables = λ kind there. refl; first_over = refl; over_count = refl }

pub same-noted : (U A B : State) → NotesEvents [] false (devices U A B) (devices U A B)
same-noted U A B = quiet-noted U U A B A B (λ c there. (c, there, same-says c))

-- ---- one event

module _ (U V A B C D : State) (whole : IsCoherent U) (behind : IsCoherent V) (unit : IsUnit U) (v : UnitEvent) where
  sized-so : (x : List ℕ) → U.image ≡ Some x → length x ≡ 2485808
  sized-so x is = let all = whole.sized x is in let size = unit.sized in let none_behind = unit.behind in omega (arith, all, size, none_behind)

  told-image : (image after : Option (List ℕ)) (c : List ℕ) → after ≡ Some c → is_some after ≡ is_some image → (x : List ℕ) × (image ≡ Some x)
  told-image None after c is tells = absurd (let bad : true ≡ false = sym (ap is_some is) ∙ tells in cc)
  told-image (Some x) after c is tells = (x, refl)

  pub one-noted : (failed : Bool) → (failed ≡ false → IfSome U.image (λ x. IfSome V.image (IsEventNoted v.kind (fault_bytes v) x))) → LeavesOnly U V (IsNotingEvent v.kind (fault_bytes v)) → V.works ≡ not failed →
      NotesEvents (v ∷ []) failed (devices U A B) (devices V C D)
  one-noted failed noted moments works o long [] told = absurd told
  one-noted failed noted moments works o long (e ∷ f ∷ es) told = absurd told.1
  one-noted false noted moments works o long (e ∷ []) told = λ c there.
      let first = told.0 in
      let is : V.image ≡ Some c = behind.only c works there in
      let was = told-image U.image V.image c is moments.tells in
      let done = subst (λ (q : Option (List ℕ)). IfSome q (λ y. IsEventNoted v.kind (fault_bytes v) was.0 y)) is (subst (λ (q : Option (List ℕ)). IfSome q (λ x. IfSome V.image (IsEventNoted v.kind (fault_bytes v) x))) was.1 (noted refl)) in (
        was.0,
        whole.is_left was.0 was.1,
        event-more (number_in o) long e first.there was.0 c (sized-so was.0 was.1) v first.other first.begin first.end first.is (subst (λ (k : ℕ). IsEventNoted k (fault_bytes v) was.0 c) first.is.kind done),
      )
  one-noted true noted moments works o long (e ∷ []) told = λ c there.
      let first = told.0 in
      ⊎_elim
      (λ was. (c, was, nothing-of (number_in o) (by_kind (e ∷ [])) c c (same-says c)))
      (λ moment. (
        moment.0,
        whole.is_left moment.0 moment.1,
        event-coming (number_in o) long e first.there moment.0 c (sized-so moment.0 moment.1) v first.other first.begin first.end first.is (subst (λ (k : ℕ). IsNotingEvent k (fault_bytes v) moment.0 c) first.is.kind moment.2),
      ))
      (moments.now c there)
