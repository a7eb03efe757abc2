use Rattle.std.proofs.Common.{◌≡◌, ◌∙◌, ◌<◌, ◌^◌, List, length, map, ap, sym, subst, arith}
use Rattle.std.proofs.Math.ListN.{length-map}
use Rattle.activity_codec.specs.declared.entries.Entry.{Entry}
use Rattle.card_retention.specs.Retains.{Rise}
use Rattle.view_model.specs.declared.CardShown.{CardShown}
use Rattle.view_model.specs.declared.Line.{Line}
use Rattle.file_view.specs.Histories.{entry_told, minutes_on}
use Rattle.card_match.proofs.Few.{few_minutes}
use Rattle.file_calls.proofs.card.CardHistoryCardEntries.count.Goals as goal

-- as many entries as minutes
as_many : (lines : List (Line CardShown)) (entries : List Entry) → map entry_told (minutes_on lines) ≡ entries → length (minutes_on lines) ≡ length entries
as_many lines entries is = sym (length-map (minutes_on lines) entry_told) ∙ ap (λ (es : List Entry). length es) is

pub returns-clause-count : goal.returns-clause-count
returns-clause-count c = let same = as_many c.lines.result.now c.args.self.now c.lines.ensures.entries in omega (arith, same, c.count_on.ensures)

pub returns-clause-all : goal.returns-clause-all
returns-clause-all c = λ rise.
    let same = as_many c.lines.result.now c.args.self.now c.lines.ensures.entries in
    let few : length (minutes_on c.lines.result.now) < 2 ^ 32 = few_minutes c.lines.result.now c.lines.ensures.lines (subst Rise (sym c.lines.ensures.entries) rise) in
    omega (arith, same, few, c.count_on.ensures)
