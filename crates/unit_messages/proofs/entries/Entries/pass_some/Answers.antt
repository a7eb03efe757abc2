use Rattle.std.proofs.Common.{◌≡◌, ◌∙◌, length, rules}
use Rattle.unit_messages.proofs.Passing.{told_block}
use Rattle.unit_messages.proofs.entries.Entries.pass_some.Goals as goal

pub pass_block-requires-clause-whole : goal.pass_block-requires-clause-whole
pass_block-requires-clause-whole g c =
    let long : length c.read_at.new.out ≡ c.bytes_of-len.result = search rules in
    long ∙ c.bytes_of-len.ensures.bytes

pub returns-clause-passed : goal.returns-clause-passed
returns-clause-passed g c =
    told_block c.args.self.now (g.M.Medium.state c.args.unit.now).image c.pass_block.new.window c.args.window.now c.read_at.new.out c.args.index c.args.count c.place_of-place.result _ c.bytes_of-len.result
    c.place_of-place.ensures.place (search rules) c.bytes_of-len.ensures.bytes c.pass_block.ensures c.in_ok-read_at.ensures.bytes
