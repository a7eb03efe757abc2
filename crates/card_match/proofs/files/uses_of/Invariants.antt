use Rattle.std.proofs.Common.{◌≡◌, take}
use Rattle.card_match.specs.Files.{uses_of}
use Rattle.card_match.proofs.files.uses_of.Given as goal

-- the uses so far
abbrev pub invariant-loop-v : goal.invariant-loop-v
invariant-loop-v l = l.uses.items ≡ uses_of l.registration.0 (take l.v-index l.vehicles)
