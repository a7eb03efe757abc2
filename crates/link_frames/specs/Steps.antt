-- What a session does about a frame, in the words of the link's table.
use Rattle.std.specs.Prelude.{ℕ, Bool, true, false, if◌then◌else◌, Option, Some, None, is_some, List, [], ◌∷◌}
use Rattle.std.specs.List.{list_all}
use Rattle.link_model.specs.declared.request.Request.{Request}
use Rattle.link_model.specs.declared.services.TheConstants.{TRANSFER_DATA, DATA_NOT_AVAILABLE}
use Rattle.link_model.specs.Answers.{LinkState, Idle, Started, Diagnostic, Upload, Sending, Reply, answers, silent}
use Rattle.link_model.specs.Answers.{refuses, Check, checked, begins_if_any, sends_on, check}
use Rattle.link_frames.specs.declared.standing.Standing.{Standing}
use Rattle.link_frames.specs.declared.standing.Standing.TheVariants as standing
use Rattle.link_frames.specs.declared.step.Step.{Step}
use Rattle.link_frames.specs.declared.step.Step.TheVariants.{Answer, Silence, Begin, Piece}
use Rattle.link_frames.specs.declared.step.Check.{Check as CodeCheck}

-- where a session stands, as the table says it
abbrev pub state_of : Standing → LinkState
state_of standing.Idle = Idle
state_of standing.Started = Started
state_of standing.Diagnostic = Diagnostic
state_of standing.Upload = Upload
state_of (standing.Sending request counter) = Sending request counter

-- a check of the code, as the table says it
abbrev pub check_of : CodeCheck → Check
check_of c = record { holds = c.holds; code = c.code }

-- all of these checks hold
abbrev pub all_hold : List Check → Bool
all_hold checks = list_all (λ c. c.holds) checks

-- the code of the first check that fails
abbrev pub failing_code : List CodeCheck → Option ℕ
failing_code [] = None
failing_code (c ∷ cs) = if c.holds then failing_code cs else Some c.code

-- how checks end, by the code of the first that fails
abbrev pub decided : LinkState → ℕ → Option ℕ → Reply → Reply
decided state service None reply = reply
decided state service (Some code) reply = refuses state service code

-- a request of a message, behind its other checks: where there is no such message it is refused
abbrev pub begins : LinkState → Request → Option (List ℕ) → Reply
begins state request content = checked state TRANSFER_DATA (check (is_some content) DATA_NOT_AVAILABLE ∷ [])
    (begins_if_any request content state)

-- what is answered by a step, and where the session stands then
abbrev pub performed : (Request → Option (List ℕ)) → Step → Reply
performed messages (Answer frame next) = answers frame (state_of next)
performed messages (Silence next) = silent (state_of next)
performed messages (Begin request next) = begins (state_of next) request (messages request)
performed messages (Piece request counter code) = sends_on request counter (messages request) code

-- a step that hangs on the unit's messages
abbrev pub asks : Step → Bool
asks (Answer frame next) = false
asks (Silence next) = false
asks (Begin request next) = true
asks (Piece request counter code) = true
