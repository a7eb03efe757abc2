use Rattle.std.proofs.Common.{◌∙◌, ◌++◌, ℕ, List, ◌<◌, take, get_or, length, ap, sym, arith}
use Rattle.std.specs.List.{flat_map}
use Rattle.std.proofs.lemmas.List.{take_more, flat_map_more}
use Rattle.state_text.specs.Shown.{byte_text}
use Rattle.state_text.proofs.shown.write_bytes.Goals as goal

pub loop-byte-preserved : goal.loop-byte-preserved
loop-byte-preserved c =
    let front = c.args.bytes.now in
    let i = c.loop-byte.byte-index in
    let lt : i < length front = omega arith in
    c.in_ok-write_byte.ensures
    ∙ ap (λ (l : List ℕ). l ++ byte_text (get_or front i 0)) c.loop-byte.invariant
    ∙ flat_map_more byte_text c.args.text.now.items (take i front) (get_or front i 0)
    ∙ ap (λ (l : List ℕ). c.args.text.now.items ++ flat_map byte_text l) (sym (take_more front i 0 lt))
