-- A frame as it is written, with its right sum.
use Rattle.std.specs.Prelude.{ℕ, ◌%◌, ◌==◌, ◌&&◌, if◌then◌else◌, List, [], ◌∷◌, ◌++◌, length, sum, slice_index}
use Rattle.link_model.specs.declared.side.End.{End}
use Rattle.link_model.specs.declared.side.End.TheVariants as side
use Rattle.link_model.specs.declared.services.TheConstants.{LONG_FORM, SHORT_FORM, UNIT_ADDRESS, LOADER_ADDRESS}
use Rattle.link_model.specs.declared.services.TheConstants.{START_COMMUNICATION}
use Rattle.link_model.specs.Frames.{second, third}

-- the side to which the other one writes
abbrev pub other : End → End
other side.Unit = side.Loader
other side.Loader = side.Unit

-- bytes, and their sum modulo 256
abbrev pub with_sum : List ℕ → List ℕ
with_sum bytes = bytes ++ sum bytes % 256 ∷ []

-- the form with a length
abbrev pub written_long : End → List ℕ → List ℕ
written_long end body = with_sum (LONG_FORM ∷ second end ∷ third end ∷ length body ∷ body)

-- the one frame that is written in the short form: the start of communication, to the unit
abbrev pub start_of_communication : List ℕ
start_of_communication = with_sum (SHORT_FORM ∷ UNIT_ADDRESS ∷ LOADER_ADDRESS ∷ START_COMMUNICATION ∷ [])

-- a frame with this data, written to this side
abbrev pub written_to : End → List ℕ → List ℕ
written_to side.Unit body = if length body == 1 && slice_index body 0 == START_COMMUNICATION
    then start_of_communication else written_long side.Unit body
written_to side.Loader body = written_long side.Loader body
