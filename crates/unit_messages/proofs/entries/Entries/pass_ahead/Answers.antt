use Rattle.std.proofs.Common.{◌∙◌, sym}
use Rattle.unit_messages.proofs.Ahead.{none_ahead}
use Rattle.unit_messages.proofs.entries.Entries.pass_ahead.Goals as goal

pub returns-then-over-clause-passed : goal.returns-then-over-clause-passed
returns-then-over-clause-passed c = λ bytes long. c.passes_over-over.ensures.over c.if-over.true bytes (long ∙ sym c.room_of-len.ensures)

pub returns-clause-passed : goal.returns-clause-passed
returns-clause-passed c = λ bytes long. none_ahead c.passes_over-over.new.self c.args.window.now bytes c.args.self.now.width (c.passes_over-over.ensures.same c.if-over.false) long
