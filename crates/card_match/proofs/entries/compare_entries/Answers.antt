use Rattle.std.proofs.Common.{◌≡◌, ◌∙◌, List, length, map, ap, sym, subst, arith}
use Rattle.std.proofs.Math.ListN.{length-map}
use Rattle.std.proofs.lemmas.Result.{IfOk-weaker}
use Rattle.activity_codec.specs.declared.entries.Entry.{Entry}
use Rattle.file_view.specs.Histories.{entry_told, minute_told, minutes_on}
use Rattle.card_match.specs.Matching.{Against}
use Rattle.card_match.specs.Differences.{AreDifferences}
use Rattle.card_match.specs.declared.cases.Case.{Case}
use Rattle.card_match.specs.Cases.{AreRising, fresh}
use Rattle.card_match.proofs.Rising.{rising_entries}
use Rattle.card_match.proofs.entries.compare_entries.Goals as goal

pub answer-requires-clause-rising : goal.answer-requires-clause-rising
answer-requires-clause-rising c = subst AreRising (sym (c.as_mut_slice.ensures.value ∙ c.in_ok-cases.ensures)) (rising_entries (map entry_told (minutes_on c.args.card.now)) c.requires.rise)

pub answer-requires-clause-few : goal.answer-requires-clause-few
answer-requires-clause-few c =
    let is : c.as_mut_slice.result.now ≡ map fresh (map entry_told (minutes_on c.args.card.now)) = c.as_mut_slice.ensures.value ∙ c.in_ok-cases.ensures in
    omega (arith, c.requires.few, ap (λ (l : List Case). length l) is, length-map (map entry_told (minutes_on c.args.card.now)) fresh, length-map (minutes_on c.args.card.now) entry_told)

pub returns : goal.returns
returns c =
    let entries : List Entry = map entry_told (minutes_on c.args.card.now) in
    let a : Against = record { uses = c.args.uses.now; minutes = map minute_told (minutes_on c.args.unit.now) } in
    IfOk-weaker c.answer.result (λ all. (es : List Entry) → c.as_mut_slice.result.now ≡ map fresh es → AreDifferences a es all) (λ all. AreDifferences a entries all)
    (λ all is. is entries (c.as_mut_slice.ensures.value ∙ c.in_ok-cases.ensures)) c.answer.ensures
