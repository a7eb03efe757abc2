use Rattle.std.proofs.Common.{arith}
use Rattle.card_layout.proofs.Sizes.{largest_image}
use Rattle.card_commands.proofs.FileLemmas.{finds_file}
use Rattle.card_commands.proofs.port.Port.read_part.Goals as goal

pub select-requires : goal.select-requires
select-requires g c = finds_file c.args.self.now.application c.args.place c.file_at-file.result (g.C.Chip.card c.args.self.now.chip).application c.file_at-file.ensures.value c.args.self.now.sound.sizes

pub read_selected-requires-clause-file : goal.read_selected-requires-clause-file
read_selected-requires-clause-file g c = omega (arith, c.file_at-file.ensures.inside, largest_image c.args.self.now.application c.args.self.now.sound.good)
