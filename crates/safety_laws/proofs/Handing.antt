-- What is kept, handed out.
use Rattle.std.proofs.Common.{◌≡◌, ℕ, List, length}
use Rattle.card_layout.specs.Fields.{IsBytes}
use Rattle.tach_media.specs.Medium.{State}
use Rattle.log_model.specs.declared.lines.Mark.{Mark}
use Rattle.history_model.specs.Minutes.{HistoryMinute}
use Rattle.unit_model.specs.declared.layout.TheConstants.{IMAGE_SIZE}
use Rattle.unit_model.specs.Days.{ShownDay}
use Rattle.link_loader.specs.Talking.{IsUnitImage}
use Rattle.link_loader.proofs.ImageMessages.{file_good}
use Rattle.safety_model.specs.Unit.{UnitSafe}
use Rattle.safety_laws.specs.Handed.{IsHandedOut}
use Rattle.safety_laws.proofs.OneFile.{view_shows}

pub handed_out :
    (start : List ShownDay) (past : List HistoryMinute) (lost : List (List HistoryMinute)) (marks : List Mark) (since : ℕ) (unit : State) (x : List ℕ) →
    UnitSafe start past lost marks since unit → unit.left_since since x → length x ≡ IMAGE_SIZE → IsBytes x → IsHandedOut start past lost marks unit x
handed_out start past lost marks since unit x safe left sized bytes =
    let image : IsUnitImage x = record { sized = sized; bytes = bytes; decodes = safe.decodes x left } in
    record {
      file = file_good x image;
      viewed = λ shown file. view_shows x shown image file;
      kept = safe.minutes x left;
      acknowledged = λ m there after. let holds = safe.marked m there in (holds.i, holds.minute, holds.shown x after);
    }
