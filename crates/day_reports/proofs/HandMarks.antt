-- The marks of entries by hand, and one more.
use Rattle.std.proofs.Common.{◌≡◌, ◌∙◌, List, [], ◌∷◌, ◌++◌, ap, sym, append_assoc, append-nil}
use Rattle.activity_codec.specs.declared.values.Activity.TheVariants.{Rest}
use Rattle.activity_codec.specs.declared.values.Slot.TheVariants.{Driver}
use Rattle.activity_codec.specs.declared.entries.Manual.{Manual}
use Rattle.view_model.specs.declared.marks.Mark.{Mark}
use Rattle.day_reports.specs.Hands.{if_in_time, hand_marks}

-- what stands for an entry past the end
abbrev pub no_hand : Manual
no_hand = record { minute = 0; slot = Driver; act = Rest }

pub hands_more : (entries : List Manual) (entry : Manual) → hand_marks (entries ++ entry ∷ []) ≡ hand_marks entries ++ if_in_time entry
hands_more [] entry = append-nil (if_in_time entry)
hands_more (e ∷ entries) entry =
    ap (λ (l : List Mark). if_in_time e ++ l) (hands_more entries entry)
    ∙ sym (append_assoc (if_in_time e) (hand_marks entries) (if_in_time entry))
