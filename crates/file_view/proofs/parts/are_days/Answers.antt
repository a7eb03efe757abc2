use Rattle.std.proofs.Common.{◌∙◌, arith}
use Rattle.file_view.proofs.Loading.{days_loaded}
use Rattle.file_view.proofs.parts.are_days.Goals as goal

pub returns : goal.returns
returns c = c.is_some.ensures ∙ days_loaded c.args.app c.args.value.now c.load_days.result (omega (arith, c.if-value-days_len.false, c.days_len.ensures.value)) c.requires.sound c.load_days.ensures.some c.load_days.ensures.none
