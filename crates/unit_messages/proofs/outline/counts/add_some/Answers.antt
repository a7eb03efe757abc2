use Rattle.std.proofs.Common.{◌≡◌, ◌∙◌, ℕ, ◌+◌, ◌*◌, length, ap, arith, rules}
use Rattle.unit_messages.specs.declared.entries.Entries.{Entries}
use Rattle.unit_messages.specs.Counts.{entries_on}
use Rattle.unit_messages.proofs.Dating.{count_most, told_some}
use Rattle.unit_messages.proofs.outline.counts.add_some.Goals as goal

pub add_block-requires-clause-block : goal.add_block-requires-clause-block
add_block-requires-clause-block g c =
    let long : length c.read_at.new.out ≡ c.bytes_of-len.result = search rules in
    long ∙ c.bytes_of-len.ensures.bytes ∙ ap (λ (e : Entries). c.at_once-count.result * e.width) c.entries_on-entries.ensures.is

pub add_block-requires-clause-few : goal.add_block-requires-clause-few
add_block-requires-clause-few g c =
    let count = ap (λ (e : Entries). e.count) c.entries_on-entries.ensures.is in
    (c.args.index, c.requires.few, omega (arith, c.at_once-count.ensures.within, count, count_most c.args.kind, c.requires.below))

pub returns-clause-some : goal.returns-clause-some
returns-clause-some g c =
    let count = ap (λ (e : Entries). e.count) c.entries_on-entries.ensures.is in
    (c.at_once-count.ensures.some, omega (arith, c.at_once-count.ensures.within, count, c.requires.below), c.add_block.ensures.few c.args.index c.requires.few)

pub returns-clause-added : goal.returns-clause-added
returns-clause-added g c =
    let e = entries_on c.args.kind 0 in
    let n : ℕ = c.at_once-count.result in
    let is = c.entries_on-entries.ensures.is in
    let at : c.place_of-place.result ≡ e.base + c.args.index * e.width = c.place_of-place.ensures.place ∙ ap (λ (a : Entries). a.base + c.args.index * a.width) is in
    let bytes : c.bytes_of-len.result ≡ n * e.width = c.bytes_of-len.ensures.bytes ∙ ap (λ (a : Entries). n * a.width) is in
    told_some e (g.M.Medium.state c.args.unit.now).image _ c.read_at.new.out c.args.index n c.place_of-place.result _ c.bytes_of-len.result at (search rules) bytes
    (λ x read was. c.add_block.ensures.added x c.args.index read was) c.in_ok-read_at.ensures.bytes
