use Rattle.std.proofs.Common.{ℕ, List, ◌∷◌, [], ap, ◌∙◌}
use Rattle.link_model.specs.Frames.{Right}
use Rattle.link_model.specs.Hearing.{heard_in, kept_after}
use Rattle.link_model.specs.Writing.{other}
use Rattle.link_model.proofs.Runs.{written_is_heard}
use Rattle.link_frames.proofs.writing.write_frame.Goals as goal

pub returns-clause-heard : goal.returns-clause-heard
returns-clause-heard c =
    ap (λ (l : List ℕ). heard_in (other c.args.from) [] l) c.written.ensures ∙ (written_is_heard (other c.args.from) c.bytes.result.now c.bytes.ensures.some).0
    ∙ ap (λ (l : List ℕ). Right l ∷ []) c.bytes.ensures.value

pub returns-clause-whole : goal.returns-clause-whole
returns-clause-whole c =
    ap (λ (l : List ℕ). kept_after (other c.args.from) [] l) c.written.ensures ∙ (written_is_heard (other c.args.from) c.bytes.result.now c.bytes.ensures.some).1
