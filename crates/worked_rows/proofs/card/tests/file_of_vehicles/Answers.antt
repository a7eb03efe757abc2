use Rattle.std.proofs.Common.{◌≤◌, ◌+◌, ◌*◌, refl}
use Rattle.card_layout.specs.declared.files.Fid.{Fid}
use Rattle.card_layout.specs.Files.{files_of, image_size_of}
use Rattle.card_layout.proofs.Ranges.{range_inside}
use Rattle.card_layout.proofs.Sizes.{vehicles_at, of_range}
use Rattle.tach_media.specs.Medium.{LiesInside}
use Rattle.card_commands.specs.Ports.{writable_of}
use Rattle.card_commands.proofs.Updated.{updated_writable}
use Rattle.worked_rows.proofs.card.tests.file_of_vehicles.Goals as goal

abbrev fid : Fid
fid = record { 0 = 0x0505 }

pub returns-clause-inside : goal.returns-clause-inside
returns-clause-inside c =
    let app = c.args.app.now in
    of_range (λ r. r.base + (2 + 31 * app.vehicles) ≤ image_size_of app) app fid _ c.file_range.result (vehicles_at app) c.file_range.ensures.value (range_inside app fid _ (vehicles_at app))

pub returns-clause-writable : goal.returns-clause-writable
unfolding files_of
returns-clause-writable c =
    let app = c.args.app.now in
    of_range (λ r. LiesInside (writable_of app) r.base (2 + 31 * app.vehicles)) app fid _ c.file_range.result (vehicles_at app) c.file_range.ensures.value (updated_writable app fid _ (vehicles_at app) refl)
