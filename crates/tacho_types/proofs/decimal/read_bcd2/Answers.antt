use Rattle.std.proofs.Common.{sym, ◌∙◌}
use Rattle.tacho_types.proofs.DecimalLemmas.{bcd2_of-bad, bcd2_of-good, bcd2_bytes-spelled}
use Rattle.tacho_types.proofs.decimal.read_bcd2.Goals as goal

pub returns-in-Some-clause-value : goal.returns-in-Some-clause-value
returns-in-Some-clause-value c =
    sym (bcd2_of-bad c.args.b.now c.in-Some.place c.requires (sym c.first_above_nine.ensures ∙ c.in-Some.is))

pub returns-in-None-clause-value : goal.returns-in-None-clause-value
returns-in-None-clause-value c =
    sym (bcd2_of-good c.args.b.now c.requires (sym c.first_above_nine.ensures ∙ c.in-None.is))

pub returns-in-None-clause-bytes : goal.returns-in-None-clause-bytes
returns-in-None-clause-bytes c =
    bcd2_bytes-spelled c.args.b.now c.requires (sym c.first_above_nine.ensures ∙ c.in-None.is)
