use Rattle.std.proofs.Common.{refl}
use Rattle.device_state.proofs.Dated.{dated-lines}
use Rattle.device_state.proofs.lines.state_lines.Goals as goal

pub returns-clause-lines : goal.returns-clause-lines
returns-clause-lines c = rw (c.in_ok-add_card-2.ensures, c.in_ok-add_card.ensures, c.in_ok-add_unit.ensures, c.new-lines.ensures.items) refl

pub returns-clause-dated : goal.returns-clause-dated
returns-clause-dated c = rw (c.in_ok-add_card-2.ensures, c.in_ok-add_card.ensures, c.in_ok-add_unit.ensures, c.new-lines.ensures.items) (dated-lines c.args.told.now)
