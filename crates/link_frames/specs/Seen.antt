-- What a scanner gives, in the words of the grammar.
use Rattle.link_model.specs.Frames.{Heard, Right, Wrong}
use Rattle.link_frames.specs.declared.frame.Seen.{Seen}
use Rattle.link_frames.specs.declared.frame.Seen.TheVariants.{Whole, BadSum}

-- a frame, or one whose sum is wrong
abbrev pub meant : Seen → Heard
meant (Whole frame) = Right frame
meant (BadSum byte) = Wrong byte
