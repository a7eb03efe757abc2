use Rattle.std.proofs.Common.{◌∙◌, sym}
use Rattle.file_extract.proofs.Downloads.{again_yes, again_no}
use Rattle.file_extract.proofs.entries.comes_again.Goals as goal

pub returns-then-is_single : goal.returns-then-is_single
returns-then-is_single c = λ bytes. c.has_value.ensures ∙ sym (again_yes bytes c.args.before.now c.args.entry (sym (c.is_single.ensures bytes) ∙ c.if-is_single.true))

pub returns-else-is_single : goal.returns-else-is_single
returns-else-is_single c = λ bytes. c.if-is_single.false ∙ sym (again_no bytes c.args.before.now c.args.entry (sym (c.is_single.ensures bytes) ∙ c.if-is_single.false))
