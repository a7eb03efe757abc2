use Rattle.std.proofs.Common.{ℕ, List, ◌∷◌, sym, ◌∙◌, ap}
use Rattle.link_model.specs.Answers.{Upload, answers}
use Rattle.link_frames.specs.Steps.{state_of}
use Rattle.link_frames.proofs.Pieces.{begun_whole, begun_in_pieces}
use Rattle.link_frames.proofs.sending.begun.Goals as goal

pub returns-then-len : goal.returns-then-len
returns-then-len c = λ content part.
    ap (λ (l : List ℕ). answers l Upload) (c.framed.ensures ∙ ap (λ (n : ℕ). 0x76 ∷ n ∷ c.args.bytes.now) c.number_of.ensures)
    ∙ sym (begun_whole c.args.request (state_of c.args.standing) c.args.told c.in-Some.len c.args.bytes.now content c.in-Some.is part c.if-len.true)

pub returns : goal.returns
returns c = λ content part.
    c.sent.ensures
    ∙ sym (begun_in_pieces c.args.request (state_of c.args.standing) c.args.told c.in-Some.len c.args.bytes.now content c.in-Some.is part c.if-len.false)
