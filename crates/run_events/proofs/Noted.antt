-- What two notes leave, one after the other.
use Rattle.std.proofs.Common.{◌≡◌, ◌∙◌, inl, inr, ℕ, Some, IfSome, List, sym, is_some}
use Rattle.tach_media.specs.Medium.{State, LeavesOnly}
use Rattle.tach_media.proofs.Runs.{goes_on, weaken, through, at_image, where_told}
use Rattle.run_events.specs.declared.watch.Ended.{Ended}
use Rattle.run_events.specs.Watching.{bare_ended, over_ended}
use Rattle.run_events.specs.Noting.{IsBareNoted, IsNotingBare, IsFastNoted, IsNotingFast, AreNoted, AreBeingNoted}

-- nothing has ended, and nothing is noted
pub itself : (S : State) → IfSome S.image (λ x. IfSome S.image (λ y. y ≡ x))
itself S = where_told S.image S.image (λ x y. y ≡ x) (λ x y was now. let e : Some x ≡ Some y = sym was ∙ now in cc)

-- the first alone
pub first-moments : (e : Ended) {U V : State} → LeavesOnly U V (IsNotingBare (bare_ended e)) → LeavesOnly U V (AreBeingNoted e)
first-moments e run = weaken run (λ x c was moment. inl moment)

-- both
pub both-noted : (e : Ended) (U M V : State) → is_some M.image ≡ is_some U.image → IfSome U.image (λ x. IfSome M.image (IsBareNoted (bare_ended e) x)) → IfSome M.image (λ y. IfSome V.image (IsFastNoted (over_ended e) y))
    → IfSome U.image (λ x. IfSome V.image (AreNoted e x))
both-noted e U M V tells first second =
    through U.image M.image V.image (IsBareNoted (bare_ended e)) (IsFastNoted (over_ended e)) (AreNoted e) tells first second (λ x y z was bare over. record { between = y; bare = bare; over = over })

pub both-moments : (e : Ended) {U M V : State} → LeavesOnly U M (IsNotingBare (bare_ended e)) → IfSome U.image (λ x. IfSome M.image (IsBareNoted (bare_ended e) x)) → LeavesOnly M V (IsNotingFast (over_ended e))
    → LeavesOnly U V (AreBeingNoted e)
both-moments e {U} {M} {V} first done second =
    goes_on (first-moments e first) second
    (λ x y c was is over. inr (record { between = y; bare = at_image (IsBareNoted (bare_ended e) x) is (at_image (λ (x : List ℕ). IfSome M.image (IsBareNoted (bare_ended e) x)) was done); over = over }))
