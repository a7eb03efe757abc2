use Rattle.std.proofs.Common.{◌≡◌, ◌∙◌, ℕ, ◌+◌, ◌-◌, ◌*◌, length, get_or, sym, ap, arith}
use Rattle.packet_service.specs.Datagrams.{gathered_by}
use Rattle.packet_service.proofs.Parts.{front_tells, half_tells}
use Rattle.packet_service.proofs.datagrams.told_by.Goals as goal

pub returns-then-kept-lt2 : goal.returns-then-kept-lt2
returns-then-kept-lt2 c = half_tells c.args.kept.now (omega arith)

pub returns : goal.returns
returns c =
    let kept = c.args.kept.now in
    let read : c.read_u16-size.result ≡ get_or kept 0 0 * 256 + (get_or kept 1 0 * 1 + 0) = c.read_u16-size.ensures in
    let size : c.read_u16-size.result ≡ 256 * get_or kept 0 0 + get_or kept 1 0 = omega (arith, read) in
    c.gathered_by.ensures ∙ ap (λ (n : ℕ). gathered_by n (length kept - 2)) size ∙ sym (front_tells kept (omega arith))
