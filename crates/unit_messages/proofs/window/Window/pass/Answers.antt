use Rattle.std.proofs.Common.{ℕ, List, ◌-◌, ◌++◌, length, take, drop, ap, ◌∙◌, arith, length-drop}
use Rattle.std.proofs.lemmas.List.{take_all}
use Rattle.unit_messages.proofs.Windows.{bytes_passed}
use Rattle.unit_messages.proofs.window.Window.pass.Goals as goal

pub returns : goal.returns
returns c =
    let w = c.args.self.now in
    let b = c.args.bytes.now in
    let over = c.over-over.result in
    let taken = c.taken-taken.result in
    bytes_passed c.take.new.self w b over taken c.over-over.ensures c.taken-taken.ensures.count c.take.ensures.skip
    (c.take.ensures.held ∙ ap (λ (l : List ℕ). w.held ++ take taken l) (take_all (length b - over) (drop over b) (omega (arith, length-drop over b))))
