-- A unit and a card that were made new: a run begins with their images alone.
use Rattle.std.proofs.Common.{⊎_elim, ◌≡◌, ◌∙◌, ap, sym, refl, ℕ, ◌+◌, ◌≤◌, true, List, [], ◌++◌, length, drop, is_some, Option, None, Some, option_map, arith, append-nil}
use Rattle.std.proofs.lemmas.List.{drop_all}
use Rattle.trace_model.specs.declared.Card.{Card}
use Rattle.trace_model.specs.declared.Card.TheVariants.{A, B}
use Rattle.trace_model.specs.declared.Item.{Item}
use Rattle.run_model.specs.declared.Device.{Device}
use Rattle.run_model.specs.declared.Device.TheVariants.{Unit as Recorder, CardA, CardB}
use Rattle.tach_media.specs.Medium.{State, IsCoherent, IsSettled, put}
use Rattle.safety_model.specs.Safe.{Devices, card_of, breakdowns_of}
use Rattle.run_promise.specs.Opening.{BeginsAs}
use Rattle.run_promise.specs.Between.{devices}
use Rattle.log_model.specs.Causes.{cuts}
use Rattle.recorder_with_cards.specs.Words.{HaveTime, AreAfter, log_of}
use Rattle.run_outcome.specs.declared.outcome.Outcome.{Outcome}
use Rattle.run_opening.specs.declared.fault.RunFault.{RunFault}
use Rattle.run_opening.specs.declared.fault.RunFault.TheVariants.{MediumFault, BadUnit, ClockBack, SameCard}
use Rattle.recorder_with_cards.specs.Ends.{BeginAs, MayRecord, EndsTrace, IsKeptFrom}
use Rattle.recorder_with_cards.specs.Gone.{IsRefusedBy}
use Rattle.recorder_with_cards.specs.Writes.{WritesIn}
use Rattle.tacho.specs.declared.anew.AnewFault.TheVariants.{Kept}
use Rattle.unit_memory.specs.Formats.{format_most}
use Rattle.tacho.specs.Formatting.{issue_most}
use Rattle.tacho.specs.Anew.{began_at, MayBeAnew, EndsAnew, IsFailed, IsFailure}
use Rattle.tacho.proofs.Recordings.{none-bad}
use Rattle.tacho.proofs.DemoNumbers.{ends-by}

-- an image that covers all of the old one
put-whole : (image x : List ℕ) → length x ≡ length image → put 0 image x ≡ image
put-whole image x same =
    let rest : drop (0 + length image) x ≡ [] = drop_all (0 + length image) x (omega (arith, same)) in
    ap (λ (l : List ℕ). image ++ l) rest ∙ append-nil image

some-tells : (image : List ℕ) (o p : Option (List ℕ)) (f : List ℕ → List ℕ) → p ≡ option_map f o → is_some o ≡ true → ((x : List ℕ) → o ≡ Some x → f x ≡ image) → p ≡ Some image
some-tells image None p f is tells gives = absurd (cc)
some-tells image (Some x) p f is tells gives = is ∙ ap Some (gives x refl)

one-only : (image : List ℕ) (s : State) → s.image ≡ Some image → IsSettled s → BeginsAs image s
one-only image s is settled = record { tells = is; only = λ c left. let same : Some c ≡ Some image = sym (settled c left) ∙ is in cc }

-- the unit
unit-new : (image : List ℕ) (old new : State) → new.image ≡ option_map (λ _. image) old.image → is_some old.image ≡ true → IsSettled new → BeginsAs image new
unit-new image old new is tells settled = one-only image new (some-tells image old.image new.image (λ _. image) is tells (λ x at. refl)) settled

-- and the card
card-new : (image : List ℕ) (old new : State) → IsCoherent old → length image ≡ old.size → old.behind ≡ 0 → new.image ≡ option_map (put 0 image) old.image → is_some old.image ≡ true → IsSettled new → BeginsAs image new
card-new image old new whole size behind is tells settled =
    one-only image new (some-tells image old.image new.image (put 0 image) is tells (λ x at. let long = whole.sized x at in put-whole image x (omega (arith, long, size, behind)))) settled

-- so the run promises what it does from then on
pub ends-anew : (x a b : List ℕ) (start : ℕ) (items : List Item) (out : Outcome) (U V X Y Z : State) (now : Devices) → U.clock ≤ V.clock → X.clock ≤ Y.clock → V.breakdowns ≡ U.breakdowns → Y.breakdowns ≡ X.breakdowns → V.clock ≤ now.unit.clock → Y.clock ≤ now.card_a.clock → V.clock ≤ U.clock + format_most → Y.clock ≤ X.clock + issue_most →
    WritesIn start items (length (cuts true (log_of out))) (devices V Y Z) now → EndsTrace x a b start items out (devices V Y Z) now → EndsAnew x a b start items out (devices U X Z) now
ends-anew x a b start items out U V X Y Z now unit card unit_same card_same before before_card made made_card most h = record {
  unit_clock = V.clock;
  card_clock = Y.clock;
  unit_later = unit;
  card_later = card;
  unit_before = before;
  card_before = before_card;
  unit_made = made;
  card_made = made_card;
  ends = ends-by x a b start items out (devices V Y Z) (began_at V.clock Y.clock (devices U X Z)) now refl clocks broken h;
  writes = record { unit = most.unit; card_a = most.card_a; card_b = most.card_b };
}
  where
    clocks : (c : Card) → (card_of (devices V Y Z) c).clock ≡ (card_of (began_at V.clock Y.clock (devices U X Z)) c).clock
    clocks A = refl
    clocks B = refl

    broken : (device : Device) → breakdowns_of (devices V Y Z) device ≡ breakdowns_of (began_at V.clock Y.clock (devices U X Z)) device
    broken Recorder = unit_same
    broken CardA = card_same
    broken CardB = refl

-- no clock stood at its last value before, where none does now
pub time-before : (d e : Devices) → AreAfter d e → HaveTime e → HaveTime d
time-before d e later time = record {
  unit = let clock = later.unit.clock in omega (arith, clock, time.unit);
  card_a = let clock = later.card_a.clock in omega (arith, clock, time.card_a);
  card_b = let clock = later.card_b.clock in omega (arith, clock, time.card_b);
}

-- what is told to have failed
pub kept-failed : (start : ℕ) (before after : Outcome) (U V W X Y Z S T : State) (fault : RunFault) → U.faults ≤ V.faults → X.faults ≤ Y.faults → IsRefusedBy start before after V W Y Z S T fault → IsFailed (Kept fault) (devices U X S) (devices W Z T)
kept-failed start before after U V W X Y Z S T (MediumFault Recorder) unit card h = ⊎_elim (λ was. omega (arith, unit, was.0.0)) (λ late. absurd late) h
kept-failed start before after U V W X Y Z S T (MediumFault CardA) unit card h = ⊎_elim (λ was. omega (arith, card, was.0.0)) (λ late. absurd late) h
kept-failed start before after U V W X Y Z S T (MediumFault CardB) unit card h = ⊎_elim (λ was. was.0.0) (λ late. absurd late) h
kept-failed start before after U V W X Y Z S T (BadUnit place) unit card h = tt
kept-failed start before after U V W X Y Z S T (ClockBack kept second) unit card h = tt
kept-failed start before after U V W X Y Z S T (SameCard number) unit card h = tt

-- where a run may begin with these images only a failed call keeps it from being recorded
pub only-failed : (x a b : List ℕ) (start : ℕ) (began now : Devices) (fault : RunFault) → MayRecord x a b start → IsKeptFrom x a b start began now fault → IsFailure (Kept fault)
only-failed x a b start began now (MediumFault device) may h = tt
only-failed x a b start began now (BadUnit place) may h = none-bad x place may.decodes h.cause
only-failed x a b start began now (ClockBack kept second) may h =
    let late = may.later in
    let same = h.cause.1 in
    let back = h.cause.3 in
    omega (arith, late, same, back)
only-failed x a b start began now (SameCard number) may h = may.numbers (h.cause.2 A).0 (h.cause.2 B).0 ((h.cause.2 A).1 ∙ sym (h.cause.2 B).1)

-- once the unit and card a are new, each device has its image alone
pub begins-new : (x a b : List ℕ) (U V X Y Z : State) → IsCoherent X → length a ≡ X.size → X.behind ≡ 0 → MayBeAnew b (devices U X Z)
    → V.image ≡ option_map (λ _. x) U.image → IsSettled V → Y.image ≡ option_map (put 0 a) X.image → IsSettled Y → BeginAs x a b (devices V Y Z)
begins-new x a b U V X Y Z whole size behind may unit unit_settled card card_settled = record {
  of_unit = unit-new x U V unit may.unit_tells unit_settled;
  of_a = card-new a X Y whole size behind card may.card_tells card_settled;
  of_b = may.of_b;
}
