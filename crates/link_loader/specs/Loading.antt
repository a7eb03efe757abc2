-- A download, frame after frame: where it stands, what a frame finishes, and when one is refused.
use Rattle.std.specs.Prelude.{◌≡◌, ◌⊎◌, ℕ, ◌==◌, true, if◌then◌else◌, List, [], ◌++◌, length, drop, Option, Some, None}
use Rattle.std.specs.Prelude.{◌≤◌, ◌<◌, ◌↔◌, option_map, is_some, Result, IsErrOf}
use Rattle.std.specs.Io.KnownBytes.{Keeps}
use Rattle.tach_media.specs.Medium.{Rose}
use Rattle.tach_media.specs.Streams.{AppendsFront}
use Rattle.link_model.specs.declared.request.Request.{Request}
use Rattle.link_model.specs.declared.lengths.TheConstants.{FRAME_MOST}
use Rattle.message_model.specs.Messages.{Message, IsMessage, message_bytes}
use Rattle.unit_messages.specs.Reading.{request_of}
use Rattle.unit_messages.specs.Joining.{Joined, wanted, begun_with}
use Rattle.link_loader.specs.declared.stage.Stage.{Stage}
use Rattle.link_loader.specs.declared.stage.Stage.TheVariants.{Start, Acknowledged, Finished}
use Rattle.link_loader.specs.declared.stage.Next.{Next}
use Rattle.link_loader.specs.declared.kind.Kind.{Kind}
use Rattle.link_loader.specs.declared.kind.Kind.TheVariants.{Negative, Broken, Agreed, Piece, Single, Other}
use Rattle.link_loader.specs.declared.fault.LoadFault.{LoadFault}
use Rattle.link_loader.specs.declared.fault.LoadFault.TheVariants as faults
use Rattle.link_loader.specs.Stages.{behind_message, end_told, passed_over, behind_answer, counter_at, next_counter}
use Rattle.link_loader.specs.Coming.{kind_of}

-- the stage; the end of the period that the overview told; and of the message whose pieces come the bytes so far
pub record Loading : Type 0 where
  pub stage : Stage
  pub end : ℕ
  pub bytes : List ℕ

-- a download, and for how many bytes of a message there is room
pub record Load : Type 0 where
  pub loading : Loading
  pub room : ℕ

-- at a stage, with no bytes of a message
abbrev pub at_stage : (end : ℕ) → Stage → Loading
at_stage end stage = record { stage = stage; end = end; bytes = [] }

-- nothing has come yet
abbrev pub begun : Loading
begun = at_stage 0 Start

-- no frame more is taken
abbrev pub over : Loading → Loading
over now = at_stage now.end Finished

-- the bytes of a message with a piece more: without its counter, and of the first one with 76 and the number
abbrev pub with_piece : List ℕ → (frame : List ℕ) → List ℕ
with_piece bytes frame = begun_with bytes frame ++ drop 4 frame

-- a piece that another one follows fills its frame, and the next one is acknowledged by its counter
abbrev pub continued : Loading → Request → (frame : List ℕ) → Loading
continued now request frame =
    record {
      stage = Acknowledged request (next_counter (counter_at now.stage));
      end = now.end;
      bytes = with_piece now.bytes frame;
    }

-- behind a frame of this kind that neither finishes a message nor is refused
abbrev pub goes_on_by : Loading → (frame : List ℕ) → Kind → Option Loading
goes_on_by now frame (Negative service code) = option_map (at_stage now.end)
    (passed_over now.end now.stage service code)
goes_on_by now frame Agreed = Some (at_stage now.end (behind_answer now.stage))
goes_on_by now frame (Piece request) = if length frame == FRAME_MOST then Some (continued now request frame) else None
goes_on_by now frame kind = None

-- behind any frame that neither finishes a message nor is refused
abbrev pub goes_on : Loading → (frame : List ℕ) → Option Loading
goes_on now frame = goes_on_by now frame (kind_of now.stage frame)

-- the message that a frame of this kind closes: what was asked for, and all its bytes
abbrev pub closed_by : Loading → (frame : List ℕ) → Kind → Option (Request × List ℕ)
closed_by now frame (Piece request) =
    if length frame == FRAME_MOST then None else Some (request, with_piece now.bytes frame)
closed_by now frame (Single request) = Some (request, frame)
closed_by now frame kind = None

-- the message that a frame closes, if any
abbrev pub closed : Loading → (frame : List ℕ) → Option (Request × List ℕ)
closed now frame = closed_by now frame (kind_of now.stage frame)

-- the bytes are this message of the grammar, and it answers the request
pub record IsAnswer (request : Request) (bytes : List ℕ) (m : Message) : Type 0 where
  pub is_message : IsMessage m
  pub spelled : bytes ≡ message_bytes m
  pub asked : request ≡ request_of m

-- the bytes are no message of the grammar that answers the request
abbrev pub AnswersNone : Request → List ℕ → Type 0
AnswersNone request bytes = (m : Message) → IsAnswer request bytes m → ⊥

-- a frame finishes this message
pub record Finishes (now : Loading) (frame : List ℕ) (m : Message) : Type 0 where
  pub request : Request
  pub bytes : List ℕ
  pub closes : closed now frame ≡ Some (request, bytes)
  pub answer : IsAnswer request bytes m

-- what is sent behind a message, and the period's end
abbrev pub next_of : (end : ℕ) → Message → Next
next_of end m = record { stage = behind_message end m; end = end_told end m }

-- a download behind a message
abbrev pub after_message : Loading → Message → Loading
after_message now m = at_stage (end_told now.end m) (behind_message now.end m)

-- A frame that is taken: it finishes no message, and nothing goes out; or it finishes one, whose bytes go out.
abbrev pub Takes : (old : Loading) → (frame : List ℕ) → (new : Loading) → (out : List ℕ) → Type 0
Takes old frame new out =
    ((goes_on old frame ≡ Some new) × (out ≡ []))
    ⊎ ((m : Message) × Finishes old frame m × (new ≡ after_message old m) × (out ≡ message_bytes m))

-- A frame is unexpected where it is of no kind that can be taken, or closes what is no message of the one that was
-- asked for.
abbrev pub IsUnexpected : Loading → (frame : List ℕ) → Type 0
IsUnexpected now frame =
    (kind_of now.stage frame ≡ Other)
    ⊎ ((is_some (closed now frame) ≡ true) × ((m : Message) → Finishes now frame m → ⊥))

-- a frame is refused so
abbrev pub IsRefused : Loading → (frame : List ℕ) → LoadFault → Type 0
IsRefused now frame (faults.Negative service code) = (kind_of now.stage frame ≡ Negative service code)
    × (passed_over now.end now.stage service code ≡ None)
IsRefused now frame faults.Unexpected = IsUnexpected now frame
IsRefused now frame (faults.Broken wanted counter) = kind_of now.stage frame ≡ Broken wanted counter
IsRefused now frame faults.WriteFault = (m : Message) × Finishes now frame m
IsRefused now frame faults.Memory = (request : Request) × (kind_of now.stage frame ≡ Piece request)

-- a refusal ends the download, but for want of memory, which leaves it as it was
abbrev pub left_by : LoadFault → Loading → Loading
left_by faults.Memory now = now
left_by fault now = over now

-- What a sink holds after a refusal: what it held; and where it failed, behind that a front of the message that was
-- finished.
abbrev pub LeavesSink : Loading → (frame : List ℕ) → LoadFault → (old new : Option (List ℕ)) → Type 0
LeavesSink now frame faults.WriteFault old new = (m : Message) × Finishes now frame m
    × AppendsFront old new (message_bytes m)
LeavesSink now frame fault old new = Keeps old new

-- why a message that was closed does not go out
abbrev pub IsNotPut : Request → (bytes : List ℕ) → LoadFault → (old new : Option (List ℕ)) → Type 0
IsNotPut request bytes faults.Unexpected old new = AnswersNone request bytes × Keeps old new
IsNotPut request bytes faults.WriteFault old new = (m : Message) × IsAnswer request bytes m
    × AppendsFront old new (message_bytes m)
IsNotPut request bytes fault old new = ⊥

-- the counter that a joiner wants is the one that is wanted at the stage
abbrev pub CounterIsWanted : Stage → Joined → Type 0
CounterIsWanted stage joined = wanted joined ≡ counter_at stage

-- ---- what a call that takes a frame says of its failures

-- FAILURES OF THE SINK ARE COUNTED: no count falls, and where a message could not be written it rose
pub record CountsFailures (result : Result (Unit {0}) LoadFault) (before after : ℕ) : Type 0 where
  pub later : before ≤ after
  pub cause : IsErrOf result faults.WriteFault → Rose before after

-- MEMORY IS WANTED only where there is no room for the bytes with the piece; and no room is given up
pub record WantsRoom (result : Result (Unit {0}) LoadFault) (old new : Load) (frame : List ℕ) : Type 0 where
  pub room : old.room ≤ new.room
  pub enough : IsErrOf result faults.Memory → old.room < length (with_piece old.loading.bytes frame)

-- FRAMES ARE REFUSED EXACTLY where such a frame comes, but for want of memory at a piece
pub record RefusesExactly (result : Result (Unit {0}) LoadFault) (now : Loading) (frame : List ℕ) : Type 0 where
  pub negative : (service code : ℕ) → (IsErrOf result (faults.Negative service code))
      ↔ ((kind_of now.stage frame ≡ Negative service code) × (passed_over now.end now.stage service code ≡ None))
  pub broken : (wants counter : ℕ) → (IsErrOf result (faults.Broken wants counter))
      ↔ (kind_of now.stage frame ≡ Broken wants counter)
  pub unexpected : IsUnexpected now frame → (IsErrOf result faults.Unexpected) ⊎ (IsErrOf result faults.Memory)
