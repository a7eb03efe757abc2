use Rattle.std.proofs.Common.{refl, arith}
use Rattle.card_commands.proofs.PortLemmas.{loaded}
use Rattle.card_commands.proofs.loading.read_sizes.Goals as goal

pub returns-clause-loaded : goal.returns-clause-loaded
returns-clause-loaded g c =
    loaded c.in_ok-read_application.field-0 c.read.new.out (g.C.Chip.card c.args.chip.now) (g.C.Chip.card c.enter.new.chip) (g.C.Chip.card c.select.new.chip) (g.C.Chip.card c.read.new.chip)
    (g.C.Chip.state c.select.new.chip).image (g.C.Chip.state c.read.new.chip)
    c.in_ok-enter.ensures.card c.in_ok-select.ensures.card c.in_ok-read.ensures.card c.in_ok-read.ensures.sizes (g.met.C.Chip.ten c.read.new.chip) (c.in_ok-read.ensures.told refl)
    c.in_ok-read_application.ensures.value c.in_ok-read_application.ensures.good
    (omega (arith, c.requires, c.in_ok-enter.ensures.reads.leaves.size, c.in_ok-select.ensures.reads.leaves.size, c.in_ok-read.ensures.reads.leaves.size))
    c.in_ok-read.ensures.reads.cause.works
