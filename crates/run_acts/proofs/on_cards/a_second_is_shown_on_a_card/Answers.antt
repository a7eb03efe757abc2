use Rattle.run_acts.proofs.CardSure.{start-shown, second-shown, sure-shown}
use Rattle.run_acts.proofs.on_cards.a_second_is_shown_on_a_card.Goals as goal

pub returns-clause-starts : goal.returns-clause-starts
returns-clause-starts g c = λ card own start since log alone. start-shown card own ((g.C.Chip.state c.args.before.now).left_since since) start log (g.C.Chip.state c.args.before.now) alone

pub returns-clause-goes_on : goal.returns-clause-goes_on
returns-clause-goes_on g c = λ card own start since log done s uses more left are shown comes.
    second-shown card own start log done s ((g.C.Chip.state c.args.before.now).left_since since) ((g.D.Chip.state c.args.after.now).left_since since) left uses more are (g.C.Chip.state c.args.before.now) (g.D.Chip.state c.args.after.now) shown comes

pub returns-clause-sure : goal.returns-clause-sure
returns-clause-sure g c = λ card own start since uses log done shown x left kind sure.
    sure-shown card own ((g.C.Chip.state c.args.before.now).left_since since) uses start log done (g.C.Chip.state c.args.before.now) shown x left kind sure
