use Rattle.std.proofs.Common.{◌≡◌, sym, ◌∙◌}
use Rattle.std.proofs.lemmas.Result.{IfOk-weaker}
use Rattle.card_model.specs.Changes.{date_of}
use Rattle.card_days.proofs.CutLast.{cut_early}
use Rattle.card_days.proofs.Told.{from_told}
use Rattle.card_days.proofs.circle.Circle.kept_words.Goals as goal

pub returns-clause-kept : goal.returns-clause-kept
returns-clause-kept g c =
    let same : c.args.date ≡ date_of c.args.minute = sym c.from.ensures ∙ c.if-from-first_second.false ∙ c.first_second.ensures in
    IfOk-weaker c.words_until.result _ _ (λ k words. from_told (g.M.Medium.state c.args.medium.now).image _ _ words (λ x was kept d here count date_is.
    kept d here count ∙ sym (cut_early c.args.minute d (sym date_is ∙ same)))) c.words_until.ensures.words
