use Rattle.std.proofs.Common.{◌≡◌, ◌*◌, Some, List, ℕ, take, false}
use Rattle.std.specs.Prelude.{IfSome}
use Rattle.unit_minutes.specs.Reading.{ReadsIfAny}
use Rattle.unit_messages.specs.Outlines.{bytes_sent, asked}
use Rattle.unit_messages.proofs.sending.whole.Given as goal

abbrev pub invariant-loop-turn : goal.invariant-loop-turn
invariant-loop-turn g l =
    let before = g.M.Medium.state l.initial.unit in
    record {
      passed : IfSome before.image (λ x. (b : List ℕ) → bytes_sent x (asked l.outline) ≡ Some b → l.bytes.items ≡ take (l.turn * 252) b);
      reads : ReadsIfAny before (g.M.Medium.state l.unit) false;
    }
