-- The entries by hand of a card file as marks of its picture (profile).
use Rattle.std.specs.Prelude.{◌*◌, nat_le, if◌then◌else◌, List, [], ◌∷◌, ◌++◌}
use Rattle.activity_codec.specs.declared.day.TheConstants.{LAST_MINUTE}
use Rattle.activity_codec.specs.declared.entries.Manual.{Manual}
use Rattle.view_model.specs.declared.marks.Sign.TheVariants.{ByHand}
use Rattle.view_model.specs.declared.marks.Mark.{Mark}

-- the mark of an entry by hand: its activity, at the minute in which it began
abbrev pub hand_mark : Manual → Mark
hand_mark e = record { sign = ByHand e.act; code = 0; second = 60 * e.minute }

-- where its seconds have a number
abbrev pub if_in_time : Manual → List Mark
if_in_time e = if nat_le e.minute LAST_MINUTE then hand_mark e ∷ [] else []

-- THE MARKS of entries by hand, in their order
abbrev pub hand_marks : List Manual → List Mark
hand_marks [] = []
hand_marks (e ∷ es) = if_in_time e ++ hand_marks es
