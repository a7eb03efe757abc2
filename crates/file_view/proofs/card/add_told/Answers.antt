use Rattle.std.proofs.Common.{◌≡◌, ◌∙◌, ◌++◌, List, [], map, Option, ap, sym, subst, arith, append-nil}
use Rattle.std.proofs.lemmas.List.{map-append}
use Rattle.activity_codec.specs.declared.entries.Entry.{Entry}
use Rattle.activity_codec.specs.declared.words.Change.{Change}
use Rattle.view_model.specs.declared.CardShown.{CardShown}
use Rattle.view_model.specs.declared.Viewed.{Viewed}
use Rattle.view_model.specs.Lines.{lines_of, same_card}
use Rattle.view_text.specs.Entries.{entry_shown}
use Rattle.std.specs.Prelude.{OnOk}
use Rattle.file_view.specs.Histories.{line_minutes}
use Rattle.file_view.specs.Showing.{entries_in}
use Rattle.file_view.proofs.Entries.{none_in, behind_in, absent_in, run_in, shown_of}
use Rattle.file_view.proofs.Growing.{run_parts, run_so}
use Rattle.file_view.proofs.Lines.{card_self}
use Rattle.file_view.proofs.card.add_told.Goals as goal

no_more : (before none : List Entry) → none ≡ [] → lines_of same_card (map entry_shown before) ≡ lines_of same_card (map entry_shown (before ++ none))
no_more before none is = ap (λ (l : List Entry). lines_of same_card (map entry_shown l)) (sym (ap (λ (l : List Entry). before ++ l) is ∙ append-nil before))

pub returns-in-None : goal.returns-in-None
returns-in-None c = λ before is. is ∙ no_more before (entries_in c.args.mark c.args.first c.args.last c.args.change) (ap (λ (o : Option Change). entries_in c.args.mark c.args.first c.args.last o) c.in-None.is ∙ none_in c.args.mark c.args.first c.args.last)

pub returns-then-first-mark : goal.returns-then-first-mark
returns-then-first-mark c = λ before is. is ∙ no_more before (entries_in c.args.mark c.args.first c.args.last c.args.change) (behind_in c.args.mark c.args.first c.args.last c.args.change (omega (arith, c.if-first-mark.true)))

pub returns-then-change : goal.returns-then-change
returns-then-change c = λ before is. is ∙ no_more before (entries_in c.args.mark c.args.first c.args.last c.args.change) (ap (λ (o : Option Change). entries_in c.args.mark c.args.first c.args.last o) c.in-Some.is ∙ absent_in c.args.mark c.args.first c.args.last c.in-Some.change c.if-change.true)

pub add_run-requires-clause-run : goal.add_run-requires-clause-run
add_run-requires-clause-run c =
    let parts = run_parts c.args.first c.args.last c.requires in
    run_so c.args.first c.min.result (omega (arith, parts.0, c.if-first-mark.false, c.min.ensures)) (omega (arith, parts.0, parts.1, c.if-first-mark.false, c.min.ensures))

pub add_run-requires-clause-same : goal.add_run-requires-clause-same
add_run-requires-clause-same c = card_self (shown_of c.in-Some.change)

pub returns : goal.returns
returns c = λ before is.
    let parts = run_parts c.args.first c.args.last c.requires in
    let one : map entry_shown (entries_in c.args.mark c.args.first c.args.last c.args.change) ≡ line_minutes (record { first = c.args.first; last = c.min.result; shown = shown_of c.in-Some.change }) =
    ap (λ (o : Option Change). map entry_shown (entries_in c.args.mark c.args.first c.args.last o)) c.in-Some.is
    ∙ run_in c.args.mark c.args.first c.args.last c.min.result c.in-Some.change c.if-change.false (omega (arith, c.if-first-mark.false)) parts.0 c.min.ensures in
    subst (λ (l : List (Viewed CardShown)). OnOk c.add_run.result (c.add_run.new.lines.items ≡ lines_of same_card l))
    (ap (λ (l : List (Viewed CardShown)). map entry_shown before ++ l) (sym one) ∙ sym (map-append entry_shown before (entries_in c.args.mark c.args.first c.args.last c.args.change)))
    (c.add_run.ensures (map entry_shown before) is)
