use Rattle.std.proofs.Common.{◌≡◌, ℕ, ◌+◌, [], ◌++◌, Option, Bool, sym, ◌∙◌, ap}
use Rattle.unit_model.specs.Image.{slot_place, slot_words}
use Rattle.unit_model.specs.Decoding.{first_failing, word_checks}
use Rattle.unit_memory.specs.Judging.{day_front, failed_of}
use Rattle.unit_model.specs.Decoding.{or_else}
use Rattle.unit_model.proofs.Failing.{failing_append}
use Rattle.unit_memory.proofs.WordLaws.{all_words_fail}
use Rattle.unit_memory.proofs.Told.{one_told}
use Rattle.unit_memory.proofs.slots.bad_day.Goals as goal

pub returns-in_ok-scan-in-None-clause-found : goal.returns-in_ok-scan-in-None-clause-found
returns-in_ok-scan-in-None-clause-found g c =
    let i = c.args.index in
    let place = slot_place i in
    let o = c.args.head.odometer in
    let n = c.args.head.count in
    one_told (g.M.Medium.state c.args.unit.now).image _ c.in_ok-scan-in-None.ensures.scan (λ x scan.
    let front = λ (b : Bool). day_front place b o n in
    let words = word_checks (place + 16) [] (slot_words x i n) in
    let whole : first_failing (front c.date_passes-passes.result ++ words) ≡ first_failing words =
    failing_append (front c.date_passes-passes.result) words ∙ ap (λ (q : Option ℕ). or_else q (first_failing words)) (sym c.in-None.ensures.found) in
    c.failed_of.ensures ∙ ap failed_of scan ∙ sym (all_words_fail 1439 (place + 16) (slot_words x i n))
    ∙ sym whole ∙ ap (λ (b : Bool). first_failing (front b ++ words)) c.date_passes-passes.ensures)
