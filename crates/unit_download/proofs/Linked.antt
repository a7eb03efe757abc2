-- Exchanges one after the other.
use Rattle.std.proofs.Common.{ℕ, List, [], ◌∷◌, ◌++◌, Option, Some, refl, sym, subst}
use Rattle.message_model.specs.Sending.{content_sent}
use Rattle.link_loader.specs.Talking.{Talk, Exchanges, Talks}
use Rattle.unit_download.specs.declared.wire.Passed.{Passed}
use Rattle.unit_download.specs.Wires.{Exchanged, Runs}

-- one more exchange
pub runs_on : (image : Option (List ℕ)) (wire : List Passed) (old mid : Talk) (first second : Passed) (new : Talk) → Runs image wire old mid → Exchanged image mid first second new
    → Runs image (wire ++ first ∷ second ∷ []) old new
runs_on image [] old mid first second new runs next = (new, subst (λ (t : Talk). Exchanged image t first second new) runs next, refl)
runs_on image (p ∷ []) old mid first second new runs next = absurd runs
runs_on image (p ∷ q ∷ wire) old mid first second new runs next = (runs.0, runs.1, runs_on image wire runs.0 mid first second new runs.2 next)

-- the unit's frames
abbrev pub answers_in : List Passed → List (List ℕ)
answers_in [] = []
answers_in (p ∷ []) = []
answers_in (p ∷ q ∷ wire) = q.frame ∷ answers_in wire

-- over a unit that tells its image it is a talk of both
pub exchanges : (x : List ℕ) (old new : Talk) (p q : Passed) → Exchanged (Some x) old p q new → Exchanges (content_sent x) old q.frame new
exchanges x old new p q e = record { sent = p.frame; sends = e.sends; answers = sym e.answers; put = e.put; takes = e.takes; puts = e.puts }

pub talks : (x : List ℕ) (wire : List Passed) (old new : Talk) → Runs (Some x) wire old new → Talks (content_sent x) (answers_in wire) old new
talks x [] old new runs = runs
talks x (p ∷ []) old new runs = absurd runs
talks x (p ∷ q ∷ wire) old new runs = (runs.0, exchanges x old runs.0 p q runs.1, talks x wire runs.0 new runs.2)
