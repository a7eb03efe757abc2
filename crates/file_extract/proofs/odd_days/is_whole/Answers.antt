use Rattle.std.proofs.Common.{◌∙◌, sym}
use Rattle.file_extract.proofs.OddFiles.{bad_is_none}
use Rattle.file_extract.proofs.odd_days.is_whole.Goals as goal

pub returns-clause-no : goal.returns-clause-no
returns-clause-no c = bad_is_none c.in-Err.fault c.args.b.now (sym c.is_memory.ensures ∙ c.if-is_memory.false) c.in-Err.ensures.bad
