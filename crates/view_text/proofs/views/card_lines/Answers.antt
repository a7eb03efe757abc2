use Rattle.std.proofs.Common.{◌∙◌, [], ◌∷◌, ◌++◌, sym, ap, map, take, arith}
use Rattle.std.proofs.lemmas.List.{map_more}
use Rattle.view_model.specs.declared.CardShown.{CardShown}
use Rattle.view_model.specs.declared.Viewed.{Viewed}
use Rattle.view_model.specs.Lines.{lines_of, same_card}
use Rattle.view_text.specs.Entries.{entry_shown}
use Rattle.view_text.proofs.views.card_lines.Goals as goal

pub loop-entry-preserved : goal.loop-entry-preserved
loop-entry-preserved c =
    let before = map entry_shown (take c.loop-entry.entry-index c.args.entries.now) in
    c.in_ok-add_minute.ensures before c.loop-entry.invariant
    ∙ ap (λ (v : Viewed CardShown). lines_of same_card (before ++ v ∷ [])) c.viewed.ensures
    ∙ ap (lines_of same_card) (sym (map_more entry_shown c.args.entries.now c.loop-entry.entry-index _ (omega arith)))
