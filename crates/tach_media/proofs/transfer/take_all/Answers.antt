use Rattle.std.proofs.Common.{arith, rules, ◌<◌, ◌≤◌, ◌++◌, length, take, length-append, length-take}
use Rattle.std.proofs.KnownBytes.{Consumes-trans}
use Rattle.tach_media.proofs.transfer.take_all.Goals as goal

pub returns-then-count-most-clause-exactly : goal.returns-then-count-most-clause-exactly
returns-then-count-most-clause-exactly g c =
    let came = c.loop-turn.bytes.items ++ take c.in-Ok.count c.read.new.buf in
    let more : c.args.most < length came =
    grind (arith, length-append, length-take, c.if-count-most.true, c.len.ensures, c.loop-turn.bytes.ok, c.in-Ok.ensures.bound, c.loop-turn.invariant) in
    (came, Consumes-trans _ _ _ _ _ c.loop-turn.invariant.2 c.in-Ok.ensures.bytes.0, (λ is. more, λ is. search rules))

pub returns-then-is_err-clause-exactly : goal.returns-then-is_err-clause-exactly
returns-then-is_err-clause-exactly g c =
    let came = c.loop-turn.bytes.items ++ take c.in-Ok.count c.read.new.buf in
    let few : length came ≤ c.args.most =
    grind (arith, length-append, length-take, c.if-count-most.false, c.len.ensures, c.loop-turn.bytes.ok, c.in-Ok.ensures.bound, c.loop-turn.invariant) in
    (came, Consumes-trans _ _ _ _ _ c.loop-turn.invariant.2 c.in-Ok.ensures.bytes.0, (λ is. search rules, λ is. absurd (omega (arith, is, few))))
