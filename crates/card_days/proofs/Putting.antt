-- What is looked at, if anything, and then a plan.
use Rattle.std.proofs.Common.{◌≡◌, ⊎_elim, inl, inr, ℕ, Bool, List, length, IfSome, option_map, refl, ◌∙◌, ap, subst, arith}
use Rattle.std.specs.Prelude.{◌≤◌}
use Rattle.tach_media.specs.Medium.{State, Writes, HasCause, IsSettled}
use Rattle.tach_media.proofs.Runs.{broken_then, after_reads, goes_same, reads_then, reads_writes, settled_then}
use Rattle.tach_media.specs.Plan.{Piece, PutsAll, PutsBy}
use Rattle.tach_media.proofs.Plans.{puts_as}
use Rattle.card_days.specs.Steps.{IsIdle, Looks}

-- the cause of an answer, where before it no call was made
idle_cause : {old mid new : State} {failed : Bool} → IsIdle old mid → HasCause mid new failed → HasCause old new failed
idle_cause {old} {mid} {new} {failed} idle next = record {
  works = next.works;
  broken = λ was. next.broken (idle.works ∙ was);
  faults = omega (arith, idle.faults, next.faults);
  fault = λ f. omega (arith, idle.faults, next.fault f);
  breakdowns = omega (arith, idle.breakdowns, next.breakdowns);
  breaks = λ was f. omega (arith, idle.breakdowns, next.breaks (idle.works ∙ was) f);
  unbroken = λ f. next.unbroken f ∙ idle.breakdowns;
  already = λ was. next.already (idle.works ∙ was) ∙ idle.breakdowns;
  once = λ low. let few = next.once low in omega (arith, idle.breakdowns, few);
  tells = broken_then idle.tells next.tells;
}

idle_settled : {old mid : State} → IsIdle old mid → IsSettled old → IsSettled mid
idle_settled {old} {mid} idle settled c left =
    let was : old.left_since old.clock c = ⊎_elim (λ l. l) (λ none. absurd none.2) (idle.leaves.since old.clock c (omega arith) (subst (λ (t : ℕ). mid.left_since t c) idle.clock left)) in
    idle.image ∙ settled c was

pub looks_writes : {old mid new : State} {failed : Bool} {l m : ℕ} {f : List ℕ → List ℕ} {R : List ℕ → List ℕ → Type 0} → Looks old mid → Writes mid new failed l m f R → Writes old new failed l m f R
looks_writes (inl reads) next = reads_writes reads next
looks_writes {old} {mid} {new} {failed} {l} {m} {f} {R} (inr idle) next = record {
  written = λ fine. next.written fine ∙ ap (option_map f) idle.image;
  leaves = after_reads idle.leaves idle.image next.leaves;
  settled = λ fine. settled_then old mid new next.leaves.later (λ was known. ⊎_elim (λ more. absurd (omega (arith, more, idle.clock))) (λ is. idle_settled idle is) was) (next.settled fine);
  begun = λ fine. omega (arith, idle.clock, next.begun fine);
  clock = omega (arith, idle.clock, next.clock);
  cause = idle_cause idle next.cause;
}

pub looks_same : {old mid : State} → Looks old mid → mid.image ≡ old.image
looks_same (inl reads) = reads.same refl
looks_same (inr idle) = idle.image

pub looks_clock : {old mid : State} → Looks old mid → mid.clock ≡ old.clock
looks_clock (inl reads) = reads.clock
looks_clock (inr idle) = idle.clock

pub looks_then : {old mid new : State} → Looks old mid → Looks mid new → Looks old new
looks_then (inl first) (inl next) = inl (reads_then first next)
looks_then (inl first) (inr idle) = inl (record {
  same = λ fine. idle.image ∙ first.same refl;
  leaves = goes_same first.leaves idle.leaves;
  clock = idle.clock ∙ first.clock;
  cause = record {
    works = idle.works ∙ first.cause.works;
    broken = first.cause.broken;
    faults = omega (arith, idle.faults, first.cause.faults);
    fault = λ f. absurd (cc);
    breakdowns = omega (arith, idle.breakdowns, first.cause.breakdowns);
    breaks = λ was f. absurd (cc);
    unbroken = λ f. idle.breakdowns ∙ first.cause.unbroken f;
    already = λ was. idle.breakdowns ∙ first.cause.already was;
    once = λ low. let same = first.cause.unbroken refl in omega (arith, idle.breakdowns, same);
    tells = broken_then first.cause.tells idle.tells;
  };
})
looks_then (inr idle) (inl next) = inl (record { same = λ fine. next.same fine ∙ idle.image; leaves = goes_same idle.leaves next.leaves; clock = next.clock ∙ idle.clock; cause = idle_cause idle next.cause })
looks_then (inr first) (inr next) = inr (record {
  image = next.image ∙ first.image;
  leaves = goes_same first.leaves next.leaves;
  clock = next.clock ∙ first.clock;
  works = next.works ∙ first.works;
  faults = next.faults ∙ first.faults;
  breakdowns = next.breakdowns ∙ first.breakdowns;
  tells = broken_then first.tells next.tells;
})

-- the plan is that of the image, where it is told
pub puts_told : {old mid new : State} {failed : Bool} {least most : ℕ} (ps : List Piece) (plan : List ℕ → List Piece) → Looks old mid → IfSome old.image (λ x. plan x ≡ ps) → PutsAll mid new failed ps
    → least ≤ length ps → length ps ≤ most → PutsBy old new failed least most plan
puts_told ps plan first told next low high = puts_as ps plan told (looks_writes first next) low high
