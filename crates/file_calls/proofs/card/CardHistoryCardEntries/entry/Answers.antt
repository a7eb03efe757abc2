use Rattle.std.proofs.Common.{◌∙◌, List, length, get_or, ap, sym, arith}
use Rattle.std.proofs.Math.ListN.{length-map}
use Rattle.activity_codec.specs.declared.entries.Entry.{Entry}
use Rattle.file_view.specs.Histories.{entry_told, minutes_on}
use Rattle.file_calls.proofs.card.CardHistoryCardEntries.entry.Goals as goal

pub entry_on-requires : goal.entry_on-requires
entry_on-requires c = omega (arith, length-map (minutes_on c.lines.result.now) entry_told, ap (λ (es : List Entry). length es) c.lines.ensures.entries, c.requires)

pub returns : goal.returns
returns c = λ d. ap (λ (es : List Entry). get_or es c.args.nth d) (sym c.lines.ensures.entries) ∙ c.entry_on.ensures d
