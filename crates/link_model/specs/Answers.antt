-- What a unit answers on the link (Appendix 7), by one table of checks in their order. The numbers of the codes, and
-- which check gives which, are this project's profile.
use Rattle.std.specs.Prelude.{ℕ, zero, suc, ◌+◌, ◌-◌, ◌*◌, ◌/◌, ◌%◌, ◌<◌, ◌≤◌, ◌==◌, ◌&&◌, ◌||◌, nat_le, Bool, true}
use Rattle.std.specs.Prelude.{false, if◌then◌else◌, List, [], ◌∷◌, ◌++◌, length, take, drop, slice_index, bytes_eq}
use Rattle.std.specs.Prelude.{Option, Some, None, IfSome, is_some, option_to_list, map}
use Rattle.link_model.specs.declared.side.End.TheVariants as side
use Rattle.link_model.specs.declared.lengths.TheConstants.{FRAME_MOST, WHOLE_MOST, PIECE_MOST}
use Rattle.link_model.specs.declared.services.TheConstants.{START_COMMUNICATION, STOP_COMMUNICATION, START_DIAGNOSTIC}
use Rattle.link_model.specs.declared.services.TheConstants.{DIAGNOSTIC_SESSION, REQUEST_UPLOAD, TRANSFER_DATA}
use Rattle.link_model.specs.declared.services.TheConstants.{TRANSFER_EXIT, ACKNOWLEDGE, UPLOAD_REQUEST, MESSAGE}
use Rattle.link_model.specs.declared.services.TheConstants.{COMMUNICATION_STARTED, COMMUNICATION_STOPPED}
use Rattle.link_model.specs.declared.services.TheConstants.{DIAGNOSTIC_STARTED, UPLOAD_ACCEPTED, TRANSFER_EXITED}
use Rattle.link_model.specs.declared.services.TheConstants.{REFUSAL, GENERAL_REJECT, SERVICE_NOT_SUPPORTED}
use Rattle.link_model.specs.declared.services.TheConstants.{SUB_FUNCTION_NOT_SUPPORTED, INCORRECT_LENGTH}
use Rattle.link_model.specs.declared.services.TheConstants.{SEQUENCE_ERROR, OUT_OF_RANGE, UPLOAD_NOT_ACCEPTED}
use Rattle.link_model.specs.declared.services.TheConstants.{DATA_NOT_AVAILABLE, OVERVIEW_NUMBER, DAY_NUMBER}
use Rattle.link_model.specs.declared.services.TheConstants.{EVENTS_NUMBER, SPEED_NUMBER, TECHNICAL_NUMBER}
use Rattle.link_model.specs.declared.services.TheConstants.{END_OF_TRANSFER, DAY_SECONDS}
use Rattle.link_model.specs.declared.request.Request.{Request}
use Rattle.link_model.specs.declared.request.Request.TheVariants.{Overview, Day, Events, Speed, Technical}
use Rattle.link_model.specs.Frames.{Heard, Right, Wrong}
use Rattle.link_model.specs.Hearing.{heard_in}
use Rattle.link_model.specs.Writing.{written_to}

-- where a unit stands on the link; while it sends a message in pieces, the request and the counter of the last piece
pub data LinkState : Type 0 where
  Idle : LinkState
  Started : LinkState
  Diagnostic : LinkState
  Upload : LinkState
  Sending : Request → ℕ → LinkState

-- an answer's data, where there is one, and where the unit stands after it
pub record Reply : Type 0 where
  pub answer : Option (List ℕ)
  pub state : LinkState

-- an answer that a frame holds
abbrev pub Fits : Reply → Type 0
Fits reply = IfSome reply.answer (λ bytes. (0 < length bytes) × (length bytes ≤ FRAME_MOST))

-- these bytes are answered, and the unit stands so then
abbrev pub answers : List ℕ → LinkState → Reply
answers bytes state = record { answer = Some bytes; state = state }

-- nothing is answered, and the unit stands so then
abbrev pub silent : LinkState → Reply
silent state = record { answer = None; state = state }

-- a refusal names the service and the code, and leaves the state
abbrev pub refuses : LinkState → ℕ → ℕ → Reply
refuses state service code = answers (REFUSAL ∷ service ∷ code ∷ []) state

-- a check, and the code where it fails
pub record Check : Type 0 where
  pub holds : Bool
  pub code : ℕ

-- this is to hold, and this is the code where it does not
abbrev pub check : Bool → ℕ → Check
check holds code = record { holds = holds; code = code }

-- the first check that fails refuses; where none does, the reply
abbrev pub checked : LinkState → ℕ → List Check → Reply → Reply
checked state service [] reply = reply
checked state service (c ∷ checks) reply = if c.holds then checked state service checks reply
    else refuses state service c.code

-- an upload may be requested
abbrev pub is_diagnostic : LinkState → Bool
is_diagnostic Diagnostic = true
is_diagnostic Upload = true
is_diagnostic (Sending request counter) = true
is_diagnostic state = false

-- messages may be requested
abbrev pub is_upload : LinkState → Bool
is_upload Upload = true
is_upload (Sending request counter) = true
is_upload state = false

-- a message is sent in pieces
abbrev pub is_sending : LinkState → Bool
is_sending (Sending request counter) = true
is_sending state = false

-- the number of a request's message
abbrev pub number_of : Request → ℕ
number_of Overview = OVERVIEW_NUMBER
number_of (Day second) = DAY_NUMBER
number_of Events = EVENTS_NUMBER
number_of Speed = SPEED_NUMBER
number_of Technical = TECHNICAL_NUMBER

-- the four bytes of a day, the highest first
abbrev pub day_in : List ℕ → ℕ
day_in bytes = ((slice_index bytes 2 * 256 + slice_index bytes 3) * 256 + slice_index bytes 4) * 256
    + slice_index bytes 5

-- the request that these bytes make, behind its checks
abbrev pub request_in : List ℕ → Request
request_in bytes =
    if slice_index bytes 1 == OVERVIEW_NUMBER then Overview
    else if slice_index bytes 1 == DAY_NUMBER then Day (day_in bytes)
    else if slice_index bytes 1 == EVENTS_NUMBER then Events
    else if slice_index bytes 1 == SPEED_NUMBER then Speed else Technical

-- The bytes of a message that go in its piece of this counter, from 1 on: as many as a piece has room for, in the last
-- piece fewer, none where nothing is left.
abbrev pub cut : List ℕ → ℕ → List ℕ
cut content counter = take PIECE_MOST (drop (PIECE_MOST * (counter - 1)) content)

-- a piece: the message's number, the counter, and these bytes
abbrev pub piece : Request → List ℕ → ℕ → List ℕ
piece request content counter = MESSAGE ∷ number_of request ∷ counter / 256 ∷ counter % 256 ∷ cut content counter

-- the first pieces of a message, so many
abbrev pub cuts : List ℕ → ℕ → List (List ℕ)
cuts content zero = []
cuts content (suc n) = cuts content n ++ cut content (suc n) ∷ []

-- a message has a piece of this counter: its bytes go up to there at least
abbrev pub has_piece : List ℕ → ℕ → Bool
has_piece content counter = nat_le (PIECE_MOST * (counter - 1)) (length content)

-- a message that has room in one frame, behind its number, goes whole, a longer one in pieces
abbrev pub begins_to_send : Request → List ℕ → Reply
begins_to_send request content =
    if nat_le (length content) WHOLE_MOST then answers (MESSAGE ∷ number_of request ∷ content) Upload
    else answers (piece request content 1) (Sending request 1)

-- the same where there is such a message; else nothing is answered, since the last check has refused then
abbrev pub begins_if_any : Request → Option (List ℕ) → LinkState → Reply
begins_if_any request None state = silent state
begins_if_any request (Some content) state = begins_to_send request content

-- the checks of a request of a message: there is a number; it is a message's; its exact length; the state; the day; and
-- there is such a message
abbrev pub transfer_checks : (Request → Option (List ℕ)) → LinkState → List ℕ → List Check
transfer_checks messages state bytes =
    check (nat_le 2 (length bytes)) INCORRECT_LENGTH
    ∷ check (nat_le OVERVIEW_NUMBER (slice_index bytes 1) && nat_le (slice_index bytes 1) TECHNICAL_NUMBER)
    SUB_FUNCTION_NOT_SUPPORTED
    ∷ check (length bytes == (if slice_index bytes 1 == DAY_NUMBER then 6 else 2)) INCORRECT_LENGTH
    ∷ check (is_upload state) SEQUENCE_ERROR
    ∷ check ((if slice_index bytes 1 == DAY_NUMBER then day_in bytes % DAY_SECONDS else 0) == 0) OUT_OF_RANGE
    ∷ check (is_some (messages (request_in bytes))) DATA_NOT_AVAILABLE
    ∷ []

-- a request of a message; what stands behind the number in each message, where there is one
abbrev pub transfer : (Request → Option (List ℕ)) → LinkState → List ℕ → Reply
transfer messages state bytes =
    checked state TRANSFER_DATA (transfer_checks messages state bytes)
    (begins_if_any (request_in bytes) (messages (request_in bytes)) state)

-- behind its checks an acknowledged piece asks for the same piece again, or for the next one; behind the last piece
-- there is none, and the transfer is over
abbrev pub sends_on : Request → ℕ → Option (List ℕ) → ℕ → Reply
sends_on request counter None code = refuses (Sending request counter) ACKNOWLEDGE DATA_NOT_AVAILABLE
sends_on request counter (Some content) code =
    if code == counter then answers (piece request content counter) (Sending request counter)
    else if has_piece content code then answers (piece request content code) (Sending request code)
    else silent Upload

-- the two bytes of the counter that is asked for, the higher first
abbrev pub code_in : List ℕ → ℕ
code_in bytes = slice_index bytes 2 * 256 + slice_index bytes 3

-- an acknowledged piece: FFFF ends the transfer; else the counter of the last piece, or the one behind it, is asked for
abbrev pub after_piece : (Request → Option (List ℕ)) → LinkState → ℕ → Reply
after_piece messages (Sending request counter) code =
    if code == END_OF_TRANSFER then silent Upload
    else checked (Sending request counter) ACKNOWLEDGE
    (check (code == counter + 1 || code == counter) OUT_OF_RANGE ∷ [])
    (sends_on request counter (messages request) code)
after_piece messages state code = silent state

-- the checks of an acknowledgement: its length; it names a message; and one is sent in pieces
abbrev pub acknowledge_checks : LinkState → List ℕ → List Check
acknowledge_checks state bytes =
    check (length bytes == 4) INCORRECT_LENGTH
    ∷ check (slice_index bytes 1 == MESSAGE) SUB_FUNCTION_NOT_SUPPORTED
    ∷ check (is_sending state) SEQUENCE_ERROR
    ∷ []

-- an acknowledgement
abbrev pub acknowledge : (Request → Option (List ℕ)) → LinkState → List ℕ → Reply
acknowledge messages state bytes = checked state ACKNOWLEDGE (acknowledge_checks state bytes)
    (after_piece messages state (code_in bytes))

-- The table, by the first byte: the service.
abbrev pub served : (Request → Option (List ℕ)) → LinkState → List ℕ → Reply
served messages state bytes =
    if slice_index bytes 0 == START_COMMUNICATION then
    checked state START_COMMUNICATION (check (length bytes == 1) INCORRECT_LENGTH ∷ [])
    (answers COMMUNICATION_STARTED Started)
    else if slice_index bytes 0 == STOP_COMMUNICATION then
    checked state STOP_COMMUNICATION (check (length bytes == 1) INCORRECT_LENGTH ∷ [])
    (answers COMMUNICATION_STOPPED Idle)
    else if slice_index bytes 0 == START_DIAGNOSTIC then
    checked state START_DIAGNOSTIC (check (length bytes == 2) INCORRECT_LENGTH
    ∷ check (slice_index bytes 1 == DIAGNOSTIC_SESSION) SUB_FUNCTION_NOT_SUPPORTED ∷ [])
    (answers DIAGNOSTIC_STARTED Diagnostic)
    else if slice_index bytes 0 == REQUEST_UPLOAD then
    checked state REQUEST_UPLOAD (check (length bytes == 10) INCORRECT_LENGTH
    ∷ check (is_diagnostic state) SEQUENCE_ERROR ∷ check (bytes_eq bytes UPLOAD_REQUEST) UPLOAD_NOT_ACCEPTED ∷ [])
    (answers UPLOAD_ACCEPTED Upload)
    else if slice_index bytes 0 == TRANSFER_DATA then transfer messages state bytes
    else if slice_index bytes 0 == TRANSFER_EXIT then
    checked state TRANSFER_EXIT (check (length bytes == 1) INCORRECT_LENGTH ∷ check (is_upload state) SEQUENCE_ERROR
    ∷ []) (answers TRANSFER_EXITED Diagnostic)
    else if slice_index bytes 0 == ACKNOWLEDGE then acknowledge messages state bytes
    else refuses state (slice_index bytes 0) SERVICE_NOT_SUPPORTED

-- in Idle the start of communication alone is answered
abbrev pub idle : Heard → Reply
idle (Right bytes) = if bytes_eq bytes (START_COMMUNICATION ∷ []) then answers COMMUNICATION_STARTED Started
    else silent Idle
idle (Wrong byte) = silent Idle

-- elsewhere the table answers, and a wrong sum is refused
abbrev pub active : (Request → Option (List ℕ)) → LinkState → Heard → Reply
active messages state (Right bytes) = served messages state bytes
active messages state (Wrong byte) = refuses state byte GENERAL_REJECT

-- what a unit answers to what it hears, where it stands
abbrev pub answered : (Request → Option (List ℕ)) → LinkState → Heard → Reply
answered messages Idle heard = idle heard
answered messages state heard = active messages state heard

-- the answers to what is heard, one after the other, from a state on
abbrev pub run_from : (Request → Option (List ℕ)) → LinkState → List Heard → List (List ℕ)
run_from messages state [] = []
run_from messages state (heard ∷ seen) = option_to_list (answered messages state heard).answer
    ++ run_from messages (answered messages state heard).state seen

-- the frames that go out for the bytes that come in
abbrev pub frames_out : (Request → Option (List ℕ)) → LinkState → List ℕ → List (List ℕ)
frames_out messages state bytes = map (written_to side.Loader) (run_from messages state (heard_in side.Unit [] bytes))
