use Rattle.std.proofs.Common.{◌∙◌, List, ◌++◌, get_or, take, ap, sym, append_assoc}
use Rattle.std.proofs.lemmas.List.{take_more}
use Rattle.activity_codec.specs.declared.entries.Manual.{Manual}
use Rattle.view_model.specs.declared.marks.Mark.{Mark}
use Rattle.day_reports.specs.Hands.{if_in_time, hand_marks}
use Rattle.day_reports.proofs.HandMarks.{no_hand, hands_more}
use Rattle.day_reports.proofs.hands.add_hands.Goals as goal

pub loop-entry-preserved : goal.loop-entry-preserved
loop-entry-preserved c =
    let es = c.args.entries.now in
    let i = c.loop-entry.entry-index in
    let e : Manual = get_or c.args.entries.now c.loop-entry.entry-index no_hand in
    c.in_ok-add_hand.ensures
    ∙ ap (λ (l : List Mark). l ++ if_in_time (get_or c.args.entries.now c.loop-entry.entry-index no_hand)) c.loop-entry.invariant
    ∙ append_assoc c.args.marks.now.items (hand_marks (take i es)) (if_in_time e)
    ∙ ap (λ (l : List Mark). c.args.marks.now.items ++ l)
    (sym (ap (λ (l : List Manual). hand_marks l) (take_more es i no_hand c.loop-entry-test.true) ∙ hands_more (take i es) e))
