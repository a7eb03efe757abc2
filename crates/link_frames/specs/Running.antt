-- A run of a unit on the link: where it stands after what was heard, and the bytes that go out for the bytes that come
-- in.
use Rattle.std.specs.Prelude.{ℕ, Option, List, [], ◌∷◌, map}
use Rattle.std.specs.List.{concat}
use Rattle.link_model.specs.declared.request.Request.{Request}
use Rattle.link_model.specs.declared.side.End.TheVariants as side
use Rattle.link_model.specs.Frames.{Heard}
use Rattle.link_model.specs.Hearing.{heard_in, kept_after}
use Rattle.link_model.specs.Writing.{written_to}
use Rattle.link_model.specs.Answers.{LinkState, Idle, answered, run_from}

-- where the unit stands after these were heard, one after the other
abbrev pub state_after : (Request → Option (List ℕ)) → LinkState → List Heard → LinkState
state_after messages state [] = state
state_after messages state (heard ∷ seen) = state_after messages (answered messages state heard).state seen

-- what has come of a frame that is not whole yet, and where the unit stands
pub record Line : Type 0 where
  pub kept : List ℕ
  pub state : LinkState

-- nothing has come yet
abbrev pub fresh_line : Line
fresh_line = record { kept = []; state = Idle }

-- after these bytes have come
abbrev pub line_after : (Request → Option (List ℕ)) → Line → List ℕ → Line
line_after messages line bytes = record {
  kept = kept_after side.Unit line.kept bytes;
  state = state_after messages line.state (heard_in side.Unit line.kept bytes);
}

-- the bytes of the frames that go out for these bytes
abbrev pub answers_from : (Request → Option (List ℕ)) → Line → List ℕ → List ℕ
answers_from messages line bytes = concat
    (map (written_to side.Loader) (run_from messages line.state (heard_in side.Unit line.kept bytes)))
