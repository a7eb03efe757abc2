use Rattle.std.proofs.Common.{◌≡◌, ◌∙◌, List, map, ap, sym, subst}
use Rattle.activity_codec.specs.declared.entries.Entry.{Entry}
use Rattle.view_model.specs.declared.CardShown.{CardShown}
use Rattle.view_model.specs.declared.Line.{Line}
use Rattle.view_model.specs.Lines.{lines_of, same_card}
use Rattle.view_text.specs.Text.{IsCardView, IsTextOf, card_words}
use Rattle.view_text.specs.Entries.{entry_shown}
use Rattle.file_view.specs.Histories.{minutes_on}
use Rattle.file_view.proofs.Lines.{all_low, told_entries}
use Rattle.file_view.proofs.card.card_text.Goals as goal

pub lines_text-requires : goal.lines_text-requires
lines_text-requires c = rw c.as_slice.ensures.value (all_low c.h.inside.lines.items c.h.invariant.days)

pub returns : goal.returns
unfolding IsCardView
returns c =
    let lines = c.h.inside.lines.items in
    let shown : lines_of same_card (map entry_shown c.args.h.now) ≡ c.as_slice.result.now =
    ap (λ (l : List Entry). lines_of same_card (map entry_shown l)) (sym c.h.view_is)
    ∙ ap (lines_of same_card) (told_entries (minutes_on c.h.inside.lines.items)) ∙ sym c.h.invariant.exact ∙ sym c.as_slice.ensures.value in
    subst (λ (l : List (Line CardShown)). IsTextOf card_words l c.in_ok-text.text.items) (sym shown) c.in_ok-text.ensures
