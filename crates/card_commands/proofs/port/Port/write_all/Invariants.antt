use Rattle.std.proofs.Common.{◌≡◌, ◌≤◌, ◌<◌, ◌-◌, ◌+◌, ◌/◌, ◌%◌, false, length, take, Some}
use Rattle.std.specs.Prelude.{option_map}
use Rattle.tach_media.specs.Medium.{LeavesOnly, IsPartlyWritten, IsSettled, HasCause, Rose, put, last_count}
use Rattle.card_commands.proofs.port.Port.write_all.Given as goal

abbrev pub invariant-loop-done : goal.invariant-loop-done
invariant-loop-done g l =
    let before = g.C.Chip.state l.fn.self.chip in
    let now = g.C.Chip.state l.self.chip in
    record {
      within : l.done ≤ length l.bytes;
      long : l.done < length l.bytes → 255 ≤ l.done;
      written : now.image ≡ option_map (put l.place (take l.done l.bytes)) before.image;
      moments : LeavesOnly before now (IsPartlyWritten l.place l.bytes);
      settled : now.clock < last_count → IsSettled now;
      clock : Rose before.clock now.clock;
      whole : l.done < length l.bytes → l.done % 255 ≡ 0;
      few : now.clock ≤ before.clock + (l.done + 254) / 255;
      cause : HasCause before now false;
      selected : l.self.selected ≡ Some l.file;
      application : l.self.application ≡ l.fn.self.application;
    }

abbrev pub decreases-loop-done : goal.decreases-loop-done
decreases-loop-done g l = length l.bytes - l.done
