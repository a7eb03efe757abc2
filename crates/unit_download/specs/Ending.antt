-- How a download ends.
use Rattle.std.specs.Prelude.{◌≡◌, ◌⊎◌, ℕ, ◌<◌, Bool, true, false, List, [], ◌∷◌, ◌++◌, length, Option, Some, None}
use Rattle.std.specs.Prelude.{◌≤◌, ◌^◌, IfSome, Result, Ok, Err, IsErrOf, OnOk, OnErr, IfErr}
use Rattle.std.specs.Io.KnownBytes.{Appends, Keeps}
use Rattle.tach_media.specs.Medium.{Rose}
use Rattle.tach_media.specs.Streams.{AppendsFront}
use Rattle.card_layout.specs.Fields.{IsBytes}
use Rattle.link_model.specs.declared.request.Request.{Request}
use Rattle.link_model.specs.Frames.{Right}
use Rattle.link_model.specs.Answers.{LinkState}
use Rattle.message_model.specs.Messages.{Message, message_bytes}
use Rattle.message_model.specs.Sending.{unit_file}
use Rattle.unit_model.specs.Decoding.{Decodes, first_bad_place}
use Rattle.unit_messages.specs.declared.joining.TheConstants.{LONGEST}
use Rattle.link_frames.specs.Asking.{asks_unit}
use Rattle.link_session.specs.declared.asking.AnswerFault.{AnswerFault}
use Rattle.link_session.specs.declared.asking.AnswerFault.TheVariants as session
use Rattle.link_loader.specs.declared.stage.Stage.TheVariants.{Finished}
use Rattle.link_loader.specs.declared.kind.Kind.TheVariants.{Piece}
use Rattle.link_loader.specs.declared.fault.LoadFault.{LoadFault}
use Rattle.link_loader.specs.declared.fault.LoadFault.TheVariants as load
use Rattle.link_loader.specs.Stages.{sent_at}
use Rattle.link_loader.specs.Coming.{kind_of}
use Rattle.link_loader.specs.Loading.{Loading, Finishes, IsRefused, with_piece}
use Rattle.link_loader.specs.Talking.{Talk, fresh_talk}
use Rattle.unit_download.specs.declared.wire.Passed.{Passed}
use Rattle.unit_download.specs.declared.fault.DownloadFault.{DownloadFault}
use Rattle.unit_download.specs.declared.fault.DownloadFault.TheVariants.{Failed, BadUnit, Changed, WriteFault, Memory}
use Rattle.unit_download.specs.Wires.{of_loader, of_unit, Replies, Runs}

-- a session's fault, as the download tells it
abbrev pub fault_of : AnswerFault → DownloadFault
fault_of session.Failed = Failed
fault_of (session.BadUnit place) = BadUnit place

-- a fact of the place of the field that fails
abbrev pub IfBad : DownloadFault → (ℕ → Type 0) → Type 0
IfBad (BadUnit place) P = P place
IfBad fault P = Unit {0}

-- the answer is that the unit failed
abbrev pub has_failed : {T : Type 0} → Result T DownloadFault → Bool
has_failed (Err Failed) = true
has_failed _ = false

-- No answer of the unit came on the wire: the unit failed, or is bad, at a frame whose answer hangs on it; its table
-- gives no answer; or memory ran out as a frame was to be added.
abbrev pub IsUnanswered : (image : Option (List ℕ)) → DownloadFault → LinkState → (sent : List ℕ)
    → (behind : List Passed) → Type 0
IsUnanswered image Failed state sent behind = (behind ≡ of_loader sent ∷ []) × (asks_unit state (Right sent) ≡ true)
IsUnanswered image (BadUnit place) state sent behind = (behind ≡ of_loader sent ∷ [])
    × (asks_unit state (Right sent) ≡ true)
IsUnanswered image Changed state sent behind = (behind ≡ of_loader sent ∷ [])
    × ((after : LinkState) × Replies image state sent (record { answer = None; state = after }))
IsUnanswered image WriteFault state sent behind = ⊥
IsUnanswered image Memory state sent behind = (behind ≡ []) ⊎ (behind ≡ of_loader sent ∷ [])

-- the frame itself is why the loader refuses it
abbrev pub IsOfFrame : LoadFault → Type 0
IsOfFrame (load.Negative service code) = Unit {0}
IsOfFrame load.Unexpected = Unit {0}
IsOfFrame (load.Broken wanted counter) = Unit {0}
IsOfFrame load.WriteFault = ⊥
IsOfFrame load.Memory = ⊥

-- The loader did not take the unit's answer: it is a negative one that is not passed over, a broken piece, or
-- unexpected; the sink failed at the message that it finished, of which a front went out; or it is a piece of more than
-- the longest message of a unit.
abbrev pub IsUntaken : DownloadFault → Loading → (frame : List ℕ) → (held sunk : Option (List ℕ)) → Type 0
IsUntaken Failed loader frame held sunk = ⊥
IsUntaken (BadUnit place) loader frame held sunk = ⊥
IsUntaken Changed loader frame held sunk = ((fault : LoadFault) × IsOfFrame fault × IsRefused loader frame fault)
    × Keeps held sunk
IsUntaken WriteFault loader frame held sunk = (m : Message) × Finishes loader frame m
    × AppendsFront held sunk (message_bytes m)
IsUntaken Memory loader frame held sunk =
    ((request : Request) × (kind_of loader.stage frame ≡ Piece request))
    × (LONGEST < length (with_piece loader.bytes frame)) × Keeps held sunk

-- An answer of the unit that the loader did not take: both frames are on the wire. No unit that tells its image, of
-- bytes, sends more than there is room for.
pub record Answers (image : Option (List ℕ)) (fault : DownloadFault) (talk : Talk) (sent : List ℕ)
    (behind : List Passed) (held sunk : Option (List ℕ)) : Type 0 where
  pub frame : List ℕ
  pub after : LinkState
  pub answers : Replies image talk.unit sent (record { answer = Some frame; state = after })
  pub behind_is : behind ≡ of_loader sent ∷ of_unit frame ∷ []
  pub untaken : IsUntaken fault talk.loader frame held sunk
  pub long : fault ≡ Memory → IfSome image (λ x. IsBytes x → ⊥)

-- A download ended at an exchange: at the frame that the loader sent, or at the answer that it did not take.
pub record StopsAt (image : Option (List ℕ)) (fault : DownloadFault) (talk : Talk) (behind : List Passed)
    (held sunk : Option (List ℕ)) : Type 0 where
  pub sent : List ℕ
  pub sends : sent_at talk.loader.stage ≡ Some sent
  pub stops : (IsUnanswered image fault talk.unit sent behind × Keeps held sunk)
      ⊎ Answers image fault talk sent behind held sunk

-- where exchanges have led: the download is finished, or it ended at the next exchange
abbrev pub Ends : {T : Type 0} → Result T DownloadFault → (image : Option (List ℕ)) → Talk → (behind : List Passed)
    → (held sunk : Option (List ℕ)) → Type 0
Ends (Ok done) image talk behind held sunk = (talk.loader.stage ≡ Finished) × (behind ≡ []) × Keeps held sunk
Ends (Err fault) image talk behind held sunk = StopsAt image fault talk behind held sunk

-- HOW A DOWNLOAD ENDS, whatever the unit tells: the wire is a run of both tables, and behind it what of the last
-- exchange passed. What the loader put out has gone to the sink, behind what that held.
pub record IsDownload {T : Type 0} (result : Result T DownloadFault) (image : Option (List ℕ)) (wire : List Passed)
    (held sunk : Option (List ℕ)) : Type 0 where
  pub exchanges : List Passed
  pub behind : List Passed
  pub wire_is : wire ≡ exchanges ++ behind
  pub talk : Talk
  pub runs : Runs image exchanges fresh_talk talk
  pub mid : Option (List ℕ)
  pub put : Appends held mid talk.out
  pub ends : Ends result image talk behind mid sunk

-- WHAT A DOWNLOAD LEAVES of this wire and sink, over a unit that tells this image, or none; over whatever link.
pub record IsDownloaded (r : Result (Unit {0}) DownloadFault) (image : Option (List ℕ)) (wire : List Passed)
    (held sunk : Option (List ℕ)) : Type 0 where
  -- the wire is a run of the tables of both sides, up to where the download ended; and what they put out has gone to
  -- the sink
  pub downloaded : IsDownload r image wire held sunk
  -- at the end the image decodes, and the sink has its file; else a front of it
  pub file : OnOk r (IfSome image (λ x. Decodes x × Appends held sunk (unit_file x)))
  pub front : OnErr r (IfSome image (λ x. AppendsFront held sunk (unit_file x)))
  -- no unit that tells its image gives no answer, or one that the loader refuses
  pub changed : IsErrOf r Changed → IfSome image (λ x. ⊥)
  -- a unit is bad at the first place of its image that fails, and nothing went to the sink
  pub bad : IfErr r (λ fault. IfBad fault (λ p. IfSome image (λ x. first_bad_place x ≡ Some p)))
  pub nothing : IfErr r (λ fault. IfBad fault (λ p. Keeps held sunk))

-- ---- what a call of a download says of its failures, and of the wire

-- FAILURES OF THE SINK ARE COUNTED: no count falls, and where it could not be written it rose
pub record CountsFailures (result : Result (Unit {0}) DownloadFault) (before after : ℕ) : Type 0 where
  pub cause : IsErrOf result WriteFault → Rose before after
  pub counts : before ≤ after

-- MORE FRAMES are on the wire behind an answer; a number of 64 bits counts them
pub record CountsFrames {A : Type 0} (result : Result A DownloadFault) (before after : ℕ) : Type 0 where
  pub more : OnOk result (before < after)
  pub few : OnOk result (before < 2 ^ 64)

-- A UNIT IS JUDGED: one that was asked, and gives no answer, decodes; a bad one is bad at this place, and was not
-- judged before
pub record JudgesUnit {A : Type 0} (result : Result A DownloadFault) (asked judged : Bool)
    (image : Option (List ℕ)) : Type 0 where
  pub found : IsErrOf result Changed → asked ≡ true → IfSome image Decodes
  pub bad : IfErr result (λ fault. IfBad fault (λ p. (judged ≡ false)
      × IfSome image (λ x. first_bad_place x ≡ Some p)))
