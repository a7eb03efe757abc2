-- The end mark of a card file, by the newest of its vehicle entries.
use Rattle.std.proofs.Common.{◌≡◌, ◌∙◌, ℕ, ◌/◌, Option, List, ap}
use Rattle.card_layout.specs.declared.files.Application.{Application}
use Rattle.card_files.specs.Vehicles.{vehicle_of}
use Rattle.card_image.specs.CardFile.{vehicles_alone, last_minute}
use Rattle.card_image.specs.Fields.{last_of}
use Rattle.gated_ring.specs.Ring.{entry_at, IsLast}
use Rattle.file_view.specs.CardFiles.{mark_of}
use Rattle.file_view.proofs.Entries.{last_is}

pub mark_some : (app : Application) (x : List ℕ) (i : ℕ) → IsLast (vehicles_alone app) x i → mark_of app x ≡ (vehicle_of (entry_at (vehicles_alone app) x i)).last_use.0 / 60
mark_some app x i last = ap (λ (l : List ℕ). last_minute app x (last_of l)) last.indices_are ∙ ap (λ (o : Option ℕ). last_minute app x o) (last_is last.older i)
