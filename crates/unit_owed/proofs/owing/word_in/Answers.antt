use Rattle.std.proofs.Common.{◌∙◌, sym}
use Rattle.card_layout.proofs.Spelled.{number_two_bytes}
use Rattle.unit_owed.proofs.owing.word_in.Goals as goal

pub returns-clause-value : goal.returns-clause-value
returns-clause-value c = c.from.ensures ∙ c.from_be_bytes.ensures ∙ sym (number_two_bytes c.args.rows.now c.args.place)
