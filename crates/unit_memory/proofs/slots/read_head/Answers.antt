use Rattle.std.proofs.Common.{◌∙◌, ap}
use Rattle.unit_memory.specs.Judging.{head_in}
use Rattle.unit_memory.proofs.Heads.{head_read}
use Rattle.unit_memory.proofs.Told.{one_told}
use Rattle.unit_memory.proofs.slots.read_head.Goals as goal

pub returns-clause-head : goal.returns-clause-head
returns-clause-head g c = one_told (g.M.Medium.state c.args.unit.now).image _ c.in_ok-read_at.ensures.bytes (λ x bytes. c.head_in.ensures ∙ ap head_in bytes ∙ head_read x c.args.index)
