-- What a frame is that comes to the loader, by its bytes (Annex IB, Appendix 7; the length that marks the last piece:
-- profile).
use Rattle.std.specs.Prelude.{◌≡◌, ℕ, ◌≤◌, ◌==◌, ◌&&◌, nat_le, nat_lt, Bool, if◌then◌else◌, List, length}
use Rattle.std.specs.Prelude.{slice_index, bytes_eq}
use Rattle.link_model.specs.declared.request.Request.{Request}
use Rattle.link_model.specs.declared.lengths.TheConstants.{FRAME_MOST}
use Rattle.link_model.specs.declared.services.TheConstants.{COMMUNICATION_STARTED, COMMUNICATION_STOPPED}
use Rattle.link_model.specs.declared.services.TheConstants.{DIAGNOSTIC_STARTED, UPLOAD_ACCEPTED, TRANSFER_EXITED}
use Rattle.link_model.specs.declared.services.TheConstants.{MESSAGE, REFUSAL}
use Rattle.link_model.specs.Answers.{number_of}
use Rattle.unit_messages.specs.Joining.{counter_in}
use Rattle.link_loader.specs.declared.stage.Stage.{Stage}
use Rattle.link_loader.specs.declared.stage.Stage.TheVariants.{Start, Diagnostic, Upload, Asked, Acknowledged, Exit}
use Rattle.link_loader.specs.declared.stage.Stage.TheVariants.{Stop, Finished}
use Rattle.link_loader.specs.declared.kind.Kind.{Kind}
use Rattle.link_loader.specs.declared.kind.Kind.TheVariants.{Negative, Broken, Agreed, Piece, Single, Other}

-- a negative answer has three bytes: 7F, the service, the code
abbrev pub is_negative : List ℕ → Bool
is_negative frame = length frame == 3 && slice_index frame 0 == REFUSAL

-- 76 and the number that was asked for stand in front
abbrev pub begins_as : Request → List ℕ → Bool
begins_as request frame = slice_index frame 0 == MESSAGE && slice_index frame 1 == number_of request

-- a piece is broken where its counter is not the wanted one
abbrev pub piece_kind : Request → (wanted counter : ℕ) → Kind
piece_kind request wanted counter = if counter == wanted then Piece request else Broken wanted counter

-- as the answer to a request a piece fills its frame; in fewer bytes stands a message that goes in one frame, if any
abbrev pub request_kind : Request → List ℕ → Kind
request_kind request frame =
    if length frame == FRAME_MOST && begins_as request frame then piece_kind request 1 (counter_in frame)
    else if nat_lt (length frame) FRAME_MOST then Single request else Other

-- as the answer to an acknowledgement a piece has 4 bytes at least
abbrev pub acknowledgement_kind : Request → (wanted : ℕ) → List ℕ → Kind
acknowledgement_kind request wanted frame =
    if nat_le 4 (length frame) && begins_as request frame then piece_kind request wanted (counter_in frame) else Other

-- what asks for no message has one positive answer
abbrev pub answer_kind : (answer frame : List ℕ) → Kind
answer_kind answer frame = if bytes_eq frame answer then Agreed else Other

-- what a frame is that is no negative answer, by what was sent
abbrev pub kind_at : Stage → List ℕ → Kind
kind_at Start frame = answer_kind COMMUNICATION_STARTED frame
kind_at Diagnostic frame = answer_kind DIAGNOSTIC_STARTED frame
kind_at Upload frame = answer_kind UPLOAD_ACCEPTED frame
kind_at (Asked request) frame = request_kind request frame
kind_at (Acknowledged request counter) frame = acknowledgement_kind request counter frame
kind_at Exit frame = answer_kind TRANSFER_EXITED frame
kind_at Stop frame = answer_kind COMMUNICATION_STOPPED frame
kind_at Finished frame = Other

-- what a frame is, at a stage
abbrev pub kind_of : Stage → List ℕ → Kind
kind_of stage frame = if is_negative frame then Negative (slice_index frame 1) (slice_index frame 2)
    else kind_at stage frame

-- a piece has a counter, which is the wanted one
abbrev pub IsInOrder : (wanted : ℕ) → List ℕ → Kind → Type 0
IsInOrder wanted frame (Piece request) = (4 ≤ length frame) × (counter_in frame ≡ wanted)
IsInOrder wanted frame kind = Unit {0}
