use Rattle.std.proofs.Common.{◌≡◌, ℕ, ap, sym, ◌∙◌, arith}
use Rattle.trace_text.specs.Demo.{drawn}
use Rattle.trace_text.specs.declared.drawn_trace.TheConstants.{PARTS}
use Rattle.trace_text.proofs.Groups.{drawn-none, drawn-more, parts-few}
use Rattle.trace_text.proofs.Pushed.{no-parts, no-seconds, parts-pushed, parts-seconds, day-pushed}
use Rattle.trace_text.proofs.drawn_trace.add_day.Goals as goal

pub loop-k-init : goal.loop-k-init
loop-k-init c = record {
  items = no-parts c.args.items.now c.args.x;
  seconds = no-seconds c.args.x;
  last = sym (drawn-none c.args.x);
}

pub overflow_add-seconds : goal.overflow_add-seconds
overflow_add-seconds c =
    let most = parts-few c.loop-k.k c.args.x in let so_far = c.loop-k.invariant.seconds in let few = c.in_ok-part.ensures.few in
    omega (arith, most, so_far, few)

pub loop-k-preserved : goal.loop-k-preserved
loop-k-preserved c =
    let v = c.loop-k.invariant in let part = c.in_ok-part.ensures in
    record {
      items = parts-pushed c.args.items.now c.loop-k.items c.add_part.new.items c.loop-k.k c.args.x c.loop-k.last v.items v.last part.items;
      seconds = parts-seconds c.loop-k.k c.args.x c.loop-k.last c.loop-k.seconds c.in_ok-part.part.seconds v.last v.seconds part.seconds;
      last = part.last ∙ ap (λ (n : ℕ). drawn 3 n) v.last ∙ sym (drawn-more 3 c.loop-k.k c.args.x);
    }

pub overflow_sub-seconds : goal.overflow_sub-seconds
overflow_sub-seconds c =
    let most = parts-few c.loop-k.k c.args.x in let so_far = c.loop-k.invariant.seconds in
    omega (arith, most, so_far)

pub returns-clause-items : goal.returns-clause-items
returns-clause-items c =
    let eight : c.loop-k.k ≡ PARTS = omega arith in let v = c.loop-k.invariant in
    day-pushed c.args.items.now c.loop-k.items c.push.new.self c.loop-k.k c.args.x c.loop-k.seconds eight v.items v.seconds c.in_ok-push.ensures.ok
