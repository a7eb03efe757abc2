-- The files of a new card, one after the other.
use Rattle.std.proofs.Common.{◌≡◌, refl}
use Rattle.card_layout.specs.declared.files.Application.{Application}
use Rattle.card_layout.specs.Files.{files_of, image_size_of}
use Rattle.card_files.specs.NewCard.{new_total}

-- the files have their sizes of the table
pub new_total-files_of : (app : Application) → new_total (files_of app) ≡ image_size_of app
unfolding files_of
new_total-files_of app = refl
