use Rattle.std.proofs.Common.{◌+◌, arith}
use Rattle.activity_codec.specs.declared.values.Activity.TheVariants.{Work}
use Rattle.minute_rules.proofs.Fitting.{with_run-going}
use Rattle.minute_rules.proofs.counted.Counted.wait.Goals as goal

pub add-requires-2 : goal.add-requires-2
add-requires-2 c =
    let left = c.saturating_sub-left.result in
    let le = with_run-going c.args.self.now.driver Work (c.args.self.now.open_seconds + left) in
    rw c.close.ensures (omega (arith, le, c.requires, c.if-seconds-left.false))
