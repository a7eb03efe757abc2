-- A list of checks ends by the first that fails.
use Rattle.std.proofs.Common.{◌≡◌, ℕ, Bool, true, false, ◌&&◌, List, [], ◌∷◌, Option, Some, map, refl}
use Rattle.std.specs.Prelude.{is_none, if◌then◌else◌}
use Rattle.link_model.specs.Answers.{LinkState, Reply, refuses, checked}
use Rattle.link_frames.specs.declared.step.Check.{Check}
use Rattle.link_frames.specs.Steps.{check_of, all_hold, failing_code, decided}

-- the head of a list of checks, and the code of the first of the others that fails
by_head : (state : LinkState) (service : ℕ) (reply : Reply) (holds : Bool) (code : ℕ) (others : Option ℕ)
    → (if holds then decided state service others reply else refuses state service code) ≡ decided state service (if holds then others else Some code) reply
by_head state service reply true code others = refl
by_head state service reply false code others = refl

pub decided_is : (state : LinkState) (service : ℕ) (reply : Reply) (cs : List Check) → checked state service (map check_of cs) reply ≡ decided state service (failing_code cs) reply
decided_is state service reply [] = refl
decided_is state service reply (c ∷ cs) = rw (decided_is state service reply cs) (by_head state service reply c.holds c.code (failing_code cs))

head_holds : (holds others : Bool) (code : ℕ) (o : Option ℕ) → others ≡ is_none o → (holds && others) ≡ is_none (if holds then o else Some code)
head_holds true others code o is = is
head_holds false others code o is = refl

pub all_is : (cs : List Check) → all_hold (map check_of cs) ≡ is_none (failing_code cs)
all_is [] = refl
all_is (c ∷ cs) = head_holds c.holds (all_hold (map check_of cs)) c.code (failing_code cs) (all_is cs)
