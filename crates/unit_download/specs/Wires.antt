-- What passes on the link in a download: a run of the tables of both sides.
use Rattle.std.specs.Prelude.{◌≡◌, ℕ, List, [], ◌∷◌, ◌++◌, Option, Some, None}
use Rattle.link_model.specs.declared.request.Request.{Request}
use Rattle.link_model.specs.declared.side.End.TheVariants as side
use Rattle.link_model.specs.Frames.{Right}
use Rattle.link_model.specs.Answers.{LinkState, Reply, answered}
use Rattle.message_model.specs.Sending.{content_sent}
use Rattle.link_loader.specs.Stages.{sent_at}
use Rattle.link_loader.specs.Loading.{Loading, Takes}
use Rattle.link_loader.specs.Talking.{Talk}
use Rattle.unit_download.specs.declared.wire.Passed.{Passed}

-- a frame of the loader, and one of the unit
abbrev pub of_loader : List ℕ → Passed
of_loader frame = record { from = side.Loader; frame = frame }

-- a frame of the unit
abbrev pub of_unit : List ℕ → Passed
of_unit frame = record { from = side.Unit; frame = frame }

-- where both stand, and what the loader has put out
abbrev pub talk_of : LinkState → Loading → (out : List ℕ) → Talk
talk_of unit loader out = record { unit = unit; loader = loader; out = out }

-- What the unit does about a frame, by its table: over the messages of its image, or, where it does not tell that, over
-- some.
abbrev pub Replies : (image : Option (List ℕ)) → LinkState → (sent : List ℕ) → Reply → Type 0
Replies (Some x) state sent reply = reply ≡ answered (content_sent x) state (Right sent)
Replies None state sent reply = (messages : Request → Option (List ℕ)) × (reply ≡ answered messages state (Right sent))

-- One exchange: the loader sends the frame of its stage, the unit answers by its table, and the loader takes that
-- frame.
pub record Exchanged (image : Option (List ℕ)) (old : Talk) (first second : Passed) (new : Talk) : Type 0 where
  pub by_loader : first.from ≡ side.Loader
  pub sends : sent_at old.loader.stage ≡ Some first.frame
  pub by_unit : second.from ≡ side.Unit
  pub answers : Replies image old.unit first.frame (record { answer = Some second.frame; state = new.unit })
  pub put : List ℕ
  pub takes : Takes old.loader second.frame new.loader put
  pub puts : new.out ≡ old.out ++ put

-- A RUN OF BOTH TABLES: exchanges one after the other, each of two frames.
abbrev pub Runs : (image : Option (List ℕ)) → List Passed → Talk → Talk → Type 0
Runs image [] old new = new ≡ old
Runs image (first ∷ []) old new = ⊥
Runs image (first ∷ second ∷ wire) old new = (mid : Talk) × Exchanged image old first second mid
    × Runs image wire mid new
