use Rattle.std.proofs.Common.{arith, ◌∙◌, ◌≤◌, length, take, ap, sym, add-one, List}
use Rattle.std.proofs.lemmas.List.{take_all}
use Rattle.minute_model.specs.Span.{Span, begin, decided_in}
use Rattle.trace_model.specs.declared.Item.{Item}
use Rattle.tacho.specs.Feeding.{fed_items}
use Rattle.tacho.specs.Minutes.{lines_shown}
use Rattle.tacho.proofs.Fed.{fed_items-at, total-at, known-at, decided-items, decided-begin}
use Rattle.tacho.proofs.minutes.lines_of.Goals as goal

pub loop-i-init : goal.loop-i-init
loop-i-init c =
    record {
      stands = c.new-minutes.ensures.span;
      lines = c.new-lines.ensures.items ∙ sym (ap lines_shown (decided-begin c.args.rule c.args.trace.now.start));
      next = omega (arith, c.new-minutes.ensures.next, c.requires.well.within.1);
    }

pub feed_item-requires-clause-fits : goal.feed_item-requires-clause-fits
feed_item-requires-clause-fits c =
    omega (arith, total-at c.args.trace.now.items c.loop-i.i c.get-item.result.now c.get-item.ensures, c.loop-i.invariant.next)

pub feed_item-requires-clause-known : goal.feed_item-requires-clause-known
feed_item-requires-clause-known c = known-at c.args.trace.now.items c.loop-i.i c.get-item.result.now c.get-item.ensures c.requires.known

pub loop-i-preserved : goal.loop-i-preserved
loop-i-preserved c =
    let v = c.loop-i.invariant in
    let before : Span = fed_items (begin c.args.rule c.args.trace.now.start) (take c.loop-i.i c.args.trace.now.items) in
    let more = fed_items-at (begin c.args.rule c.args.trace.now.start) c.args.trace.now.items c.loop-i.i c.get-item.result.now c.get-item.ensures in
    record {
      stands = rw (add-one, more) (c.in_ok-feed_item.ensures.stands before v.stands);
      lines = rw (add-one, more) (c.in_ok-feed_item.ensures.lines before v.stands v.lines);
      next = rw add-one (omega (arith, total-at c.args.trace.now.items c.loop-i.i c.get-item.result.now c.get-item.ensures, v.next, c.in_ok-feed_item.ensures.next));
    }

pub returns : goal.returns
returns c =
    let end : length c.args.trace.now.items ≤ c.loop-i.i = omega arith in
    c.loop-i.invariant.lines ∙ ap (λ (items : List Item). lines_shown (decided_in (fed_items (begin c.args.rule c.args.trace.now.start) items))) (take_all c.loop-i.i c.args.trace.now.items end) ∙ ap lines_shown (decided-items c.args.rule c.args.trace.now.start c.args.trace.now.items c.requires.known)
