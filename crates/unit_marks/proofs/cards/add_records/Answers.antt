use Rattle.std.proofs.Common.{◌≤◌, ◌++◌, List, ℕ, length, ap, arith, rules}
use Rattle.std.proofs.lemmas.List.{length-take}
use Rattle.unit_marks.specs.Cards.{list_marks}
use Rattle.file_view.proofs.Filing.{list_there}
use Rattle.unit_marks.proofs.TellingCards.{no_record_told, one_record_told, all_records_told}
use Rattle.unit_marks.proofs.cards.add_records.Goals as goal

pub loop-left-init : goal.loop-left-init
loop-left-init c = no_record_told c.card_width-width.result c.args.kind c.args.bytes.now c.args.marks.now.items c.card_width-width.ensures.width

pub split_at-requires : goal.split_at-requires
split_at-requires c = list_there c.loop-left.left c.card_width-width.result c.loop-left.rest.now (search rules) c.loop-left.invariant.sized

pub card_mark-requires : goal.card_mark-requires
card_mark-requires c =
    let there : c.card_width-width.result ≤ length c.loop-left.rest.now = list_there c.loop-left.left c.card_width-width.result c.loop-left.rest.now (search rules) c.loop-left.invariant.sized in
    omega (arith, there, c.card_width-width.ensures.most_read, ap (λ (l : List ℕ). length l) c.split_at.ensures.front, length-take c.card_width-width.result c.loop-left.rest.now)

pub loop-left-preserved : goal.loop-left-preserved
loop-left-preserved c =
    one_record_told c.loop-left.left c.card_width-width.result c.args.kind c.loop-left.rest.now c.split_at.result.0.now c.split_at.result.1.now c.loop-left.marks.items c.add_written.new.marks.items
    (c.args.marks.now.items ++ list_marks c.args.kind c.args.bytes.now)
    (search rules) c.split_at.ensures.front c.split_at.ensures.back c.loop-left.invariant (rw c.card_mark.ensures at c.in_ok-add_written.ensures)

pub returns : goal.returns
returns c = all_records_told c.loop-left.left c.card_width-width.result c.args.kind c.loop-left.rest.now c.loop-left.marks.items (c.args.marks.now.items ++ list_marks c.args.kind c.args.bytes.now) (search rules) c.loop-left.invariant
