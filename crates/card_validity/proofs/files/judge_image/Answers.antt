use Rattle.std.proofs.Common.{rules}
use Rattle.std.specs.Prelude.{IsTrue, IsFalse}
use Rattle.card_validity.proofs.Verdicts.{days_fail, vehicles_fail, places_fail}
use Rattle.card_validity.proofs.files.judge_image.Goals as goal

pub returns-in-Err-clause-bad : goal.returns-in-Err-clause-bad
returns-in-Err-clause-bad c = days_fail c.args.app.now c.args.image.now c.in-Err.place c.in-Err.ensures.bad

pub returns-in-None-clause-bad : goal.returns-in-None-clause-bad
returns-in-None-clause-bad c =
    vehicles_fail c.args.app.now c.requires.sizes c.args.image.now c.requires.inside c.in-Ok.days c.in-Ok.ensures.shape c.in-Ok.ensures.days c.in-None.ensures.bad

pub returns-then-not-places_point-clause-bad : goal.returns-then-not-places_point-clause-bad
returns-then-not-places_point-clause-bad c =
    let no : IsFalse c.places_point.result = search rules in
    places_fail c.args.app.now c.requires.sizes c.args.image.now c.requires.inside c.in-Ok.days c.in-Ok.ensures.shape c.in-Ok.ensures.days c.in-Some.ensures.good (c.places_point.ensures.bad no)

pub judge_words-requires-clause-places : goal.judge_words-requires-clause-places
judge_words-requires-clause-places c =
    let yes : IsTrue c.places_point.result = search rules in
    c.places_point.ensures.good yes
