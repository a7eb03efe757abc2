-- The entries that are passed on, by where they stand.
use Rattle.std.specs.Prelude.{Bool, if◌then◌else◌, List, [], ◌++◌, filter}
use Rattle.file_extract.specs.declared.entries.DownloadEntry.{DownloadEntry}
use Rattle.file_extract.specs.declared.passing.Pick.{Pick}
use Rattle.file_extract.specs.declared.passing.Pick.TheVariants.{All, Sizes, Others}
use Rattle.file_extract.specs.Cards.{is_first, is_first_of_sizes, is_first_of_others, are_sizes_late}
use Rattle.file_extract.specs.Reading.{told, told_at}
use Rattle.card_image.specs.CardFile.{FileEntry}

-- an entry is picked
abbrev pub picks : Pick → FileEntry → Bool
picks All e = is_first e
picks Sizes e = is_first_of_sizes e
picks Others e = is_first_of_others e

-- by its identifier and its kind alone
abbrev pub picks_at : Pick → DownloadEntry → Bool
picks_at pick at = picks pick (told_at [] at)

-- the entries that are passed on
abbrev pub passed_at : List DownloadEntry → List DownloadEntry
passed_at all = if are_sizes_late (told [] all) then filter (picks_at Sizes) all ++ filter (picks_at Others) all
    else filter (picks_at All) all
