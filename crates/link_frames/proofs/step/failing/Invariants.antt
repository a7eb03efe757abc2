use Rattle.std.proofs.Common.{◌≡◌, drop}
use Rattle.link_frames.specs.Steps.{failing_code}
use Rattle.link_frames.proofs.step.failing.Given as goal

-- the checks so far hold
abbrev pub invariant-loop-check : goal.invariant-loop-check
invariant-loop-check l = failing_code (drop l.check-index l.checks) ≡ failing_code l.fn.checks
