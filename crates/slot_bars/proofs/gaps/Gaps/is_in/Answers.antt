use Rattle.slot_bars.proofs.Ordered.{in_last}
use Rattle.slot_bars.proofs.gaps.Gaps.is_in.Goals as goal

pub returns : goal.returns
returns c =
    in_last c.args.self.now c.begun.ensures.order c.begun.result c.args.minute c.end_before.result c.begun.ensures.most c.begun.ensures.front c.begun.ensures.behind c.end_before.ensures.last c.end_before.ensures.none
