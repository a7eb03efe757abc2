-- A unit on the link, frame after frame.
use Rattle.std.specs.Prelude.{◌≡◌, ℕ, true, Option, List, [], ◌∷◌, ◌++◌, map}
use Rattle.std.specs.List.{concat}
use Rattle.std.specs.Io.KnownBytes.{Appends}
use Rattle.link_model.specs.declared.request.Request.{Request}
use Rattle.link_model.specs.declared.side.End.TheVariants as side
use Rattle.link_model.specs.Frames.{Heard}
use Rattle.link_model.specs.Writing.{written_to}
use Rattle.link_model.specs.Answers.{LinkState, run_from}
use Rattle.link_frames.specs.Scanning.{Scan}
use Rattle.hex.specs.Hex.{encode_lower}
use Rattle.link_frames.specs.Asking.{asks_unit}
use Rattle.link_frames.specs.Running.{state_after}
use Rattle.link_session.specs.declared.line.Spelling.{Spelling}
use Rattle.link_session.specs.declared.line.Spelling.TheVariants.{Bytes, HexLines}

-- a scanner of the unit's side, which has this of a frame that is not whole yet
abbrev pub listening : List ℕ → Scan
listening kept = record { end = side.Unit; kept = kept }

-- a frame as it goes to the loader, or the line of its bytes
abbrev pub spelled : Spelling → List ℕ → List ℕ
spelled Bytes answer = written_to side.Loader answer
spelled HexLines answer = encode_lower (written_to side.Loader answer) ++ 10 ∷ []

-- answers so spelled, one after the other
abbrev pub bytes_of : Spelling → List (List ℕ) → List ℕ
bytes_of spelling answers = concat (map (spelled spelling) answers)

-- after these were heard the unit stands so, and the sink has taken the answers
pub record IsAnswered (spelling : Spelling) (messages : Request → Option (List ℕ)) (before : LinkState)
    (seen : List Heard) (after : LinkState) (held sunk : Option (List ℕ)) : Type 0 where
  pub stands : after ≡ state_after messages before seen
  pub sent : Appends held sunk (bytes_of spelling (run_from messages before seen))

-- The unit ended the answers at a frame that was heard, whose answer hangs on it: what was heard before was answered,
-- and nothing else went to the sink.
pub record StopsAsking (spelling : Spelling) (messages : Request → Option (List ℕ)) (state : LinkState)
    (seen : List Heard) (held sunk : Option (List ℕ)) : Type 0 where
  pub before : List Heard
  pub asking : Heard
  pub behind : List Heard
  pub seen_are : seen ≡ before ++ asking ∷ behind
  pub asks : asks_unit (state_after messages state before) asking ≡ true
  pub sent : Appends held sunk (bytes_of spelling (run_from messages state before))
