use Rattle.std.proofs.Common.{◌≡◌, ◌≤◌, ◌-◌, false, take}
use Rattle.std.specs.Prelude.{IfSome}
use Rattle.tach_media.specs.Medium.{Reads, bytes_at}
use Rattle.card_commands.proofs.port.Port.read_all.Given as goal

abbrev pub invariant-loop-done : goal.invariant-loop-done
invariant-loop-done g l =
    let before = g.C.Chip.state l.fn.self.chip in
    let now = g.C.Chip.state l.self.chip in
    record {
      within : l.done ≤ l.len;
      read : IfSome before.image (λ x. take l.done l.out ≡ bytes_at x l.place l.done);
      reads : Reads before now false;
      application : l.self.application ≡ l.fn.self.application;
    }

abbrev pub decreases-loop-done : goal.decreases-loop-done
decreases-loop-done g l = l.len - l.done
