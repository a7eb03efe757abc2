use Rattle.std.proofs.Common.{◌≡◌, ◌++◌, take}
use Rattle.day_chart.specs.Bars.{bars_text}
use Rattle.day_chart.proofs.band.write_bars.Given as goal

-- the bars so far
abbrev pub invariant-loop-bar : goal.invariant-loop-bar
invariant-loop-bar l = l.text.items ≡ l.initial.text.items ++ bars_text l.date l.name (take l.bar-index l.bars)
