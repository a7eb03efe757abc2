use Rattle.std.proofs.Common.{◌≡◌, ◌⊎◌, inl, inr, ◌+◌, ◌-◌, ◌*◌, ◌≤◌, sym, ◌∙◌, arith}
use Rattle.link_frames.proofs.Pieces.{piece_sent}
use Rattle.link_frames.proofs.sending.sent_on.Goals as goal
use Rattle.link_frames.proofs.sending.sent_on.Goals.{then-code-counter-via-then-code-counter, then-code-counter-via-else-code-counter+then-place_of-len}

pub returns-then-code-counter : goal.returns-then-code-counter
returns-then-code-counter c = λ content part.
    let asked : (c.args.code ≡ c.args.counter) ⊎ (2 + 251 * (c.args.code - 1) ≤ c.in-Some.len) =
    elim c.then-code-counter.branch [
      | then-code-counter-via-then-code-counter w ↦ inl w.if-code-counter.true
      | then-code-counter-via-else-code-counter+then-place_of-len w ↦ inr (omega (arith, w.if-place_of-len.true, w.place_of.ensures))
    ] in
    c.sent.ensures ∙ sym (piece_sent c.args.request c.args.counter c.args.code c.args.told c.in-Some.len c.args.bytes.now content c.in-Some.is part asked)
