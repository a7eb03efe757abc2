use Rattle.std.proofs.Common.{◌≡◌, ◌+◌, ◌-◌, ◌*◌, ℕ, true, take, drop, subst, below_more, arith}
use Rattle.card_files.specs.Noting.{IsEvent}
use Rattle.card_files.proofs.event_set.holds.Goals as goal

pub loop-index-preserved : goal.loop-index-preserved
loop-index-preserved c =
    let i = c.loop-index.index in
    below_more _ _ c.loop-index.invariant (λ is.
    let len : 24 ≡ 24 * i + 24 - 24 * i = omega arith in
    let yes : c.is_event.result ≡ true = c.is_event.ensures.1 (subst (λ (n : ℕ). IsEvent c.args.kind c.args.begin.0 (take n (drop (24 * i) c.args.set.now))) len is) in
    let no = c.if-is_event.false in
    cc)
