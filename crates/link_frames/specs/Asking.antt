-- When the answer to a frame hangs on the unit.
use Rattle.std.specs.Prelude.{ℕ, ◌+◌, ◌==◌, ◌&&◌, ◌||◌, not, Bool, false, if◌then◌else◌, None, List, [], ◌∷◌, take}
use Rattle.std.specs.Prelude.{slice_index}
use Rattle.link_model.specs.declared.services.TheConstants.{TRANSFER_DATA, ACKNOWLEDGE, END_OF_TRANSFER}
use Rattle.link_model.specs.declared.services.TheConstants.{OUT_OF_RANGE}
use Rattle.link_model.specs.Frames.{Heard, Right, Wrong}
use Rattle.link_model.specs.Answers.{LinkState, Idle, Sending, check, transfer_checks, acknowledge_checks, code_in}
use Rattle.link_frames.specs.Steps.{all_hold}

-- a request of a message that passes all checks before the last, whether there is such a message
abbrev pub asks_message : LinkState → List ℕ → Bool
asks_message state bytes = all_hold (take 5 (transfer_checks (λ _. None) state bytes))

-- an acknowledged piece that asks for itself again, or for the next one
abbrev pub asks_piece : LinkState → ℕ → Bool
asks_piece (Sending request counter) code = not (code == END_OF_TRANSFER)
    && all_hold (check (code == counter + 1 || code == counter) OUT_OF_RANGE ∷ [])
asks_piece state code = false

-- a request of a message, or an acknowledged piece, that asks
abbrev pub asks_by : LinkState → List ℕ → Bool
asks_by state bytes =
    if slice_index bytes 0 == TRANSFER_DATA then asks_message state bytes
    else if slice_index bytes 0 == ACKNOWLEDGE then asks_piece state (code_in bytes)
    && all_hold (acknowledge_checks state bytes)
    else false

-- what is heard once communication has started; a wrong sum asks nothing
abbrev pub asks_active : LinkState → Heard → Bool
asks_active state (Right bytes) = asks_by state bytes
asks_active state (Wrong byte) = false

-- the answer hangs on the unit
abbrev pub asks_unit : LinkState → Heard → Bool
asks_unit Idle heard = false
asks_unit state heard = asks_active state heard
