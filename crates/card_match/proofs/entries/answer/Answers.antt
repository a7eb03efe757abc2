use Rattle.std.proofs.Common.{◌≡◌, ℕ, List, [], map}
use Rattle.std.proofs.lemmas.Result.{IfOk-weaker}
use Rattle.activity_codec.specs.declared.entries.Entry.{Entry}
use Rattle.file_view.specs.Histories.{minute_told, minutes_on}
use Rattle.card_match.specs.Matching.{Against}
use Rattle.card_match.specs.Differences.{AreDifferences}
use Rattle.card_match.specs.Cases.{case_of, fresh, begins_by, is_from}
use Rattle.card_match.proofs.entries.answer.Goals as goal

pub returns : goal.returns
returns c =
    let none : Against = record { uses = []; minutes = [] } in
    let used : Against = record { uses = c.args.uses.now; minutes = [] } in
    let all : Against = record { uses = c.args.uses.now; minutes = map minute_told (minutes_on c.args.unit.now) } in
    IfOk-weaker c.find_differences.result
    (λ found. (a : Against) (es : List Entry) → c.tell_lines.new.cases ≡ map (case_of a) es → ((day : ℕ) → begins_by a.minutes day ≡ is_from c.first_day.result day) → AreDifferences a es found)
    (λ found. (es : List Entry) → c.args.cases.now ≡ map fresh es → AreDifferences all es found)
    (λ found is es are. is all es (c.tell_lines.ensures.told used es (c.tell_uses.ensures.told none es are)) c.first_day.ensures) c.find_differences.ensures
