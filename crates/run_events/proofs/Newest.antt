-- The newest block of detailed speed, as a span knows it: calls that leave the ring leave it so.
use Rattle.std.proofs.Common.{◌≡◌, ℕ, ◌+◌, ◌*◌, ◌<◌, ◌≤◌, true, not, Option, None, Some, IfSome, is_some, List, sym, ap, ◌∙◌, subst, arith}
use Rattle.std.specs.Prelude.{◌==◌, Result, Ok, Err, IfOk}
use Rattle.card_layout.specs.Images.{number_at}
use Rattle.card_layout.proofs.Spelled.{number_same}
use Rattle.tach_media.specs.Medium.{State, IsCoherent}
use Rattle.tach_media.specs.declared.fault.Failed.{Failed}
use Rattle.tach_media.proofs.Runs.{at_image, if_told}
use Rattle.gated_ring.specs.Ring.{PointsInside, IsAtPointer, pointer, gate_of}
use Rattle.unit_events.proofs.EventFrames.{part_of}
use Rattle.speed_model.specs.declared.block.TheConstants.{BLOCK_SLOTS}
use Rattle.speed_model.specs.Stored.{speed_ring}
use Rattle.run_speeds.specs.Speeds.{HasSameSpeeds, LeavesSpeeds}
use Rattle.run_events.specs.declared.watch.Watch.{Watch}
use Rattle.run_events.specs.declared.watch.Ended.{Ended}
use Rattle.run_events.specs.Watching.{CrewSecond, WatchesSpan, WatchesEvents}
use Rattle.run_events.specs.Noting.{IsFed}
use Rattle.run_events.specs.Blocks.{KnowsNewest}
use Rattle.run_crew.specs.declared.cards.Crew.{Crew}

-- ---- another image with the same ring

number-part : (x y : List ℕ) (q : ℕ) → q + 4 ≤ 92164 → HasSameSpeeds x y → number_at y (2393644 + q) 4 ≡ number_at x (2393644 + q) 4
number-part x y q inside same = number_same x y (2393644 + q) 4 (part_of 2393644 92164 q 4 x y inside same)

gate-part : (x y : List ℕ) (i : ℕ) → i < BLOCK_SLOTS → HasSameSpeeds x y → number_at y (gate_of speed_ring i) 4 ≡ number_at x (gate_of speed_ring i) 4
gate-part x y i below same =
    let place : 2393644 + (4 + i * 64) ≡ gate_of speed_ring i = omega arith in
    subst (λ (p : ℕ). number_at y p 4 ≡ number_at x p 4) place (number-part x y (4 + i * 64) (omega (arith, below)) same)

pointer-part : (x y : List ℕ) → HasSameSpeeds x y → pointer speed_ring y ≡ pointer speed_ring x
pointer-part x y same =
    let place : 2393644 + 0 ≡ 2393644 = omega arith in
    subst (λ (p : ℕ). number_at y p 4 ≡ number_at x p 4) place (number-part x y 0 (omega arith) same)

same-at : (x y : List ℕ) (i : ℕ) → i < BLOCK_SLOTS → HasSameSpeeds x y → IsAtPointer speed_ring i x → IsAtPointer speed_ring i y
same-at x y i below same at = record {
  pointer_is = pointer-part x y same ∙ at.pointer_is;
  there = ap (λ (n : ℕ). not (n == 0)) (gate-part x y i below same) ∙ at.there;
}

-- behind calls that leave the ring
pub knows-left : (newest : Option ℕ) (U V : State) → IsCoherent U → IsCoherent V → U.works ≡ true → LeavesSpeeds U V → KnowsNewest newest U → KnowsNewest newest V
knows-left None U V whole behind works leaves knows =
    if_told V.image (PointsInside speed_ring) (λ y is.
    let x = leaves.now y (behind.is_left y is) in
    let same = pointer-part x.0 y x.2 in
    let inside : PointsInside speed_ring x.0 = at_image (PointsInside speed_ring) (whole.only x.0 works x.1) knows in
    subst (λ (n : ℕ). n < speed_ring.count) (sym same) inside)
knows-left (Some i) U V whole behind works leaves knows = (
  knows.0,
  if_told V.image (IsAtPointer speed_ring i) (λ y is.
      let x = leaves.now y (behind.is_left y is) in
      same-at x.0 y i knows.0 x.2 (at_image (IsAtPointer speed_ring i) (whole.only x.0 works x.1) knows.1)),
)

-- ---- a block is added

pub told-newest : (o p : Option (List ℕ)) (P : List ℕ → Type 0) → is_some p ≡ is_some o → IfSome o (PointsInside speed_ring) → IfSome o (λ x. PointsInside speed_ring x → IfSome p P) → IfSome p P
told-newest None None P tells points all = tt
told-newest None (Some y) P tells points all = absurd (cc)
told-newest (Some x) p P tells points all = all points

pub ok-then : (result : Result ℕ Failed) (P Q : ℕ → Type 0) → ((i : ℕ) → P i → Q i) → IfOk result P → IfOk result Q
ok-then (Ok i) P Q then_ h = then_ i h
ok-then (Err e) P Q then_ h = tt

-- ---- what is watched does not hang on it

module _ (w : Watch) (newest : Option ℕ) where
  abbrev with_newest : Watch
  with_newest = record w { newest = newest }

  stands-on : (seconds : List CrewSecond) → WatchesSpan w seconds → WatchesSpan with_newest seconds
  stands-on seconds h = record { bare = h.bare; over = h.over; bare_begin = h.bare_begin; over_begin = h.over_begin; last = h.last }

  pub watches-newest : (next : ℕ) → WatchesEvents w next → WatchesEvents with_newest next
  watches-newest next h = record { seconds = h.seconds; stands = stands-on h.seconds h.stands; bare_next = h.bare_next; over_next = h.over_next; late = h.late }

  pub fed-newest : (old : Watch) (first n speed : ℕ) (crew : Crew) (ended : Ended) → IsFed old w first n speed crew ended → IsFed old with_newest first n speed crew ended
  fed-newest old first n speed crew ended h = record { bares = h.bares; overs = h.overs; stands = λ seconds stands. stands-on _ (h.stands seconds stands); limit = h.limit }
