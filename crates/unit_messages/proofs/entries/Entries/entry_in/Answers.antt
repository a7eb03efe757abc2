use Rattle.std.proofs.Common.{◌∙◌, ℕ, ap}
use Rattle.card_layout.specs.Images.{bytes_at}
use Rattle.unit_messages.proofs.entries.Entries.entry_in.Goals as goal

pub returns-clause-bytes : goal.returns-clause-bytes
returns-clause-bytes c = c.cut.ensures.bytes ∙ ap (λ (p : ℕ). bytes_at c.args.block.now p c.args.self.now.width) c.bytes_of-place.ensures.bytes
