use Rattle.std.proofs.Common.{rules, ◌<◌, length, arith}
use Rattle.card_layout.proofs.Sizes.{largest_image}
use Rattle.card_commands.proofs.FileLemmas.{finds_file, at_updated}
use Rattle.card_commands.proofs.Pieces.{where_ok}
use Rattle.card_commands.proofs.port.PortMedium.write_at.Goals as goal

pub select-requires : goal.select-requires
select-requires g c = finds_file c.args.self.now.application c.args.place c.file_at-file.result (g.C.Chip.card c.args.self.now.chip).application c.file_at-file.ensures.value c.args.self.now.sound.sizes

pub write_all-requires-clause-updated : goal.write_all-requires-clause-updated
write_all-requires-clause-updated g c =
    let some : 0 < length c.args.bytes.now = search rules in
    (at_updated c.args.self.now.application c.args.place (length c.args.bytes.now) c.file_at-file.result some c.requires.writable c.file_at-file.ensures.value).0

pub write_all-requires-clause-inside : goal.write_all-requires-clause-inside
write_all-requires-clause-inside g c =
    let some : 0 < length c.args.bytes.now = search rules in
    (at_updated c.args.self.now.application c.args.place (length c.args.bytes.now) c.file_at-file.result some c.requires.writable c.file_at-file.ensures.value).1

pub write_all-requires-clause-file : goal.write_all-requires-clause-file
write_all-requires-clause-file g c = omega (arith, c.file_at-file.ensures.inside, largest_image c.args.self.now.application c.args.self.now.sound.good)

pub returns-clause-settled : goal.returns-clause-settled
returns-clause-settled g c = where_ok c.write_all.result _ (λ fine some small left. c.write_all.ensures.writes.settled fine small left)
