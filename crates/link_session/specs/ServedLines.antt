-- How a service of lines ends.
use Rattle.std.specs.Prelude.{◌≡◌, ◌≢◌, ◌⊎◌, ℕ, ◌+◌, ◌<◌, ◌≤◌, Bool, true, false, Option, Some, None, IfSome, List, []}
use Rattle.std.specs.Prelude.{◌∷◌, ◌++◌, length, take, Result, Ok, Err, IfErr}
use Rattle.std.specs.Io.KnownBytes.{Appends, Consumes, IsAtEnd}
use Rattle.text_fields.specs.Pieces.{pieces}
use Rattle.text_fields.specs.Lines.{line_bytes}
use Rattle.link_model.specs.declared.request.Request.{Request}
use Rattle.link_model.specs.declared.side.End.TheVariants as side
use Rattle.link_model.specs.Hearing.{heard_in, kept_after}
use Rattle.link_model.specs.Answers.{LinkState, Idle, run_from}
use Rattle.link_frames.specs.Scanning.{Scan}
use Rattle.message_model.specs.Sending.{content_sent}
use Rattle.link_session.specs.declared.line.Spelling.TheVariants.{HexLines}
use Rattle.link_session.specs.declared.fault.ServeFault.{ServeFault}
use Rattle.link_session.specs.declared.fault.ServeFault.TheVariants.{ReadFault, WriteFault, Failed, BadUnit, TooLong}
use Rattle.link_session.specs.declared.fault.LinesFault.{LinesFault}
use Rattle.link_session.specs.declared.fault.LinesFault.TheVariants.{Ended, BadLine, Memory}
use Rattle.link_session.specs.declared.service.TheConstants.{MOST}
use Rattle.link_session.specs.Lines.{listening, bytes_of, IsAnswered}
use Rattle.link_session.specs.Served.{Stops}
use Rattle.tach_media.specs.Medium.{State, Rose}
use Rattle.unit_model.specs.Decoding.{first_bad_place}
use Rattle.unit_minutes.specs.Reading.{ReadsIfAny}

-- two texts' bytes one after the other, where both spell some
abbrev pub joined : Option (List ℕ) → Option (List ℕ) → Option (List ℕ)
joined (Some bytes) (Some more) = Some (bytes ++ more)
joined (Some bytes) None = None
joined None more = None

-- the bytes that lines spell, one line after the other
abbrev pub bytes_in : List (List ℕ) → Option (List ℕ)
bytes_in [] = Some []
bytes_in (line ∷ lines) = joined (line_bytes line) (bytes_in lines)

-- the answers to bytes, each as a line
abbrev pub lines_to : (Request → Option (List ℕ)) → List ℕ → List ℕ
lines_to messages bytes = bytes_of HexLines (run_from messages Idle (heard_in side.Unit [] bytes))

-- These lines spell bytes, and the sink took the answers to them.
pub record AreAnswered (messages : Request → Option (List ℕ)) (lines : List (List ℕ))
    (held sunk : Option (List ℕ)) : Type 0 where
  pub bytes : List ℕ
  pub spell : bytes_in lines ≡ Some bytes
  pub sent : Appends held sunk (lines_to messages bytes)

-- The lines before one of a text were answered, this one is the next, and these are behind it.
pub record StandsAt (text : List ℕ) (before : List (List ℕ)) (line : List ℕ) (behind : List (List ℕ)) : Type 0 where
  pub lines : pieces 10 text ≡ before ++ line ∷ behind

-- all lines of a text but the last, which no LF has ended, were answered
pub record WholeAnswered (messages : Request → Option (List ℕ)) (text : List ℕ) (held sunk : Option (List ℕ)) : Type
    0 where
  pub before : List (List ℕ)
  pub last : List ℕ
  pub stands : StandsAt text before last []
  pub answered : AreAnswered messages before held sunk

-- the sink or the unit ended the service at the frames of a line that spells bytes
pub record StopsAtLine (P : List ℕ → Type 0) (text : List ℕ) : Type 0 where
  pub before : List (List ℕ)
  pub line : List ℕ
  pub behind : List (List ℕ)
  pub stands : StandsAt text before line behind
  pub bytes : List ℕ
  pub spell : bytes_in (before ++ line ∷ []) ≡ Some bytes
  pub stops : P bytes

-- a line of this number spells no bytes, and has ended: by LF, or with the source; those before it were answered
pub record IsBadLine (number : ℕ) (messages : Request → Option (List ℕ)) (text : List ℕ)
    (unread held sunk : Option (List ℕ)) : Type 0 where
  pub before : List (List ℕ)
  pub line : List ℕ
  pub behind : List (List ℕ)
  pub stands : StandsAt text before line behind
  pub number_is : number ≡ length before + 1
  pub bad : line_bytes line ≡ None
  pub ended : (behind ≢ []) ⊎ IsAtEnd unread
  pub answered : AreAnswered messages before held sunk

-- memory ran out at a line: those before it were answered
pub record IsOutAt (messages : Request → Option (List ℕ)) (text : List ℕ) (held sunk : Option (List ℕ)) : Type 0 where
  pub before : List (List ℕ)
  pub line : List ℕ
  pub behind : List (List ℕ)
  pub stands : StandsAt text before line behind
  pub answered : AreAnswered messages before held sunk

-- What went to the sink for a text that came: the answers to all of its lines; or to the whole ones, or to those before
-- the one at which the service ended.
abbrev pub LinesSend : {T : Type 0} → Result T LinesFault → (Request → Option (List ℕ)) → (came : List ℕ)
    → (unread held sunk : Option (List ℕ)) → Type 0
LinesSend (Ok done) messages came unread held sunk = (length came ≤ MOST)
    × AreAnswered messages (pieces 10 came) held sunk
LinesSend (Err (Ended ReadFault)) messages came unread held sunk = (length came ≤ MOST)
    × WholeAnswered messages came held sunk
LinesSend (Err (Ended TooLong)) messages came unread held sunk = (MOST < length came)
    × WholeAnswered messages (take MOST came) held sunk
LinesSend (Err (Ended fault)) messages came unread held sunk =
    StopsAtLine (λ bytes. Stops HexLines fault messages Idle (heard_in side.Unit [] bytes) held sunk) (take MOST came)
LinesSend (Err (BadLine number)) messages came unread held sunk = IsBadLine number messages (take MOST came) unread held
    sunk
LinesSend (Err Memory) messages came unread held sunk = IsOutAt messages (take MOST came) held sunk

-- The text that came from the source, and what went to the sink for it.
pub record AreServed {T : Type 0} (result : Result T LinesFault) (messages : Request → Option (List ℕ))
    (left unread held sunk : Option (List ℕ)) : Type 0 where
  pub came : List ℕ
  pub consumed : Consumes left unread came
  pub sends : LinesSend result messages came unread held sunk

-- the source failed, the sink failed, or the unit's image has this place; the other faults have their causes elsewhere
abbrev pub AreCaused : LinesFault → (read wrote : Type 0) → (ℕ → Type 0) → Type 0
AreCaused (Ended ReadFault) read wrote Bad = read
AreCaused (Ended WriteFault) read wrote Bad = wrote
AreCaused (Ended Failed) read wrote Bad = Unit {0}
AreCaused (Ended (BadUnit place)) read wrote Bad = Bad place
AreCaused (Ended TooLong) read wrote Bad = Unit {0}
AreCaused (BadLine number) read wrote Bad = Unit {0}
AreCaused Memory read wrote Bad = Unit {0}

-- the answer is that the unit failed
abbrev pub have_failed : {T : Type 0} → Result T LinesFault → Bool
have_failed (Err (Ended Failed)) = true
have_failed _ = false

-- From where the unit stood these lines have ended, of which so many were whole before: they spell bytes, the frames in
-- them were answered, this stands behind them, and these lines behind that.
pub record AreHeard (all rest : List (List ℕ)) (whole : ℕ) (kept : List ℕ) (state : LinkState) (text : List ℕ)
    (reached : ℕ) (scanner : Scan) (after : LinkState) (image held sunk : Option (List ℕ)) : Type 0 where
  pub ended : List (List ℕ)
  pub bytes : List ℕ
  pub stands : all ≡ ended ++ text ∷ rest
  pub spell : bytes_in ended ≡ Some bytes
  pub count : reached ≡ whole + length ended
  pub hears : scanner ≡ listening (kept_after side.Unit kept bytes)
  pub answered : IfSome image (λ x. IsAnswered HexLines (content_sent x) state (heard_in side.Unit kept bytes) after
      held sunk)

-- a line spells bytes, and the frames in them were answered
pub record IsHeard (line kept : List ℕ) (state : LinkState) (scanner : Scan) (after : LinkState)
    (image held sunk : Option (List ℕ)) : Type 0 where
  pub bytes : List ℕ
  pub spell : line_bytes line ≡ Some bytes
  pub hears : scanner ≡ listening (kept_after side.Unit kept bytes)
  pub answered : IfSome image (λ x. IsAnswered HexLines (content_sent x) state (heard_in side.Unit kept bytes) after
      held sunk)

-- a line spells bytes, and the sink or the unit ended the service at the frames in them
pub record StopsInLine (fault : ServeFault) (messages : Request → Option (List ℕ)) (state : LinkState)
    (kept line : List ℕ) (held sunk : Option (List ℕ)) : Type 0 where
  pub bytes : List ℕ
  pub spell : line_bytes line ≡ Some bytes
  pub stops : Stops HexLines fault messages state (heard_in side.Unit kept bytes) held sunk

-- why a service ends at a line of this number
abbrev pub StopsAt : LinesFault → (Request → Option (List ℕ)) → LinkState → (kept line : List ℕ) → (number : ℕ)
    → (held sunk : Option (List ℕ)) → Type 0
StopsAt (Ended fault) messages state kept line number held sunk = StopsInLine fault messages state kept line held sunk
StopsAt (BadLine found) messages state kept line number held sunk = (found ≡ number) × (line_bytes line ≡ None)
    × (sunk ≡ held)
StopsAt Memory messages state kept line number held sunk = sunk ≡ held

-- where it ends for its spelling, the line has ended
abbrev pub EndedWhere : LinesFault → Type 0 → Type 0
EndedWhere (Ended fault) P = Unit {0}
EndedWhere (BadLine found) P = P
EndedWhere Memory P = Unit {0}

-- From where the unit stood a service ended at one of these lines: those before it spell bytes, and the frames in them
-- were answered.
pub record StopsAmong (fault : LinesFault) (source : Type 0) (all : List (List ℕ))
    (messages : Request → Option (List ℕ)) (whole : ℕ) (kept : List ℕ) (state : LinkState)
    (held sunk : Option (List ℕ)) : Type 0 where
  pub before : List (List ℕ)
  pub line : List ℕ
  pub behind : List (List ℕ)
  pub bytes : List ℕ
  pub reached : LinkState
  pub mid : Option (List ℕ)
  pub stands : all ≡ before ++ line ∷ behind
  pub ended : EndedWhere fault ((behind ≢ []) ⊎ source)
  pub spell : bytes_in before ≡ Some bytes
  pub answered : IsAnswered HexLines messages state (heard_in side.Unit kept bytes) reached held mid
  pub stops : StopsAt fault messages reached (kept_after side.Unit kept bytes) line (whole + length before + 1) mid sunk

-- WHATEVER A CALL ON LINES ANSWERS: where it stops, the sink, the unit or memory has failed, or a line spells no bytes,
-- or the unit's image has this bad place; no count of the sink's faults falls; and the unit is read, if at all.
pub record LinesGo {T : Type 0} (result : Result T LinesFault) (old new : State) (before after : ℕ) : Type 0 where
  pub cause : IfErr result (λ fault. AreCaused fault ⊥ (Rose before after)
      (λ p. IfSome old.image (λ x. first_bad_place x ≡ Some p)))
  pub counts : before ≤ after
  pub unit : ReadsIfAny old new (have_failed result)
