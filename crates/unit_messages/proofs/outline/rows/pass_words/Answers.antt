use Rattle.unit_memory.proofs.Told.{one_told}
use Rattle.unit_messages.proofs.Rings.{words_counted}
use Rattle.unit_messages.proofs.outline.rows.pass_words.Goals as goal

pub returns-clause-passed : goal.returns-clause-passed
returns-clause-passed g c =
    one_told (g.M.Medium.state c.args.unit.now).image _ c.in_ok-pass_words_at.ensures.passed (λ x after.
    words_counted x c.pass_words_at.new.self c.pass_count.new.window c.args.window.now c.args.day.words_place c.args.day.words c.pass_count.ensures after)
