-- Worked rows: heads of entries, the parts of files, and an image that is no card's.
use Rattle.std.proofs.Common.{◌≡◌, ◌++◌, Some, [], ◌∷◌, refl, replicate}
use Rattle.card_layout.specs.declared.files.TheConstants.{LARGEST}
use Rattle.card_layout.specs.Application.{first_bad_field}
use Rattle.card_layout.specs.Files.{files_of, kept}
use Rattle.card_download.specs.Copied.{head_bytes, file_part}
use Rattle.card_download.specs.Written.{bad_field}

-- Driver_Activity_Data of the largest card
head_of_days : head_bytes 0x0504 13780 ≡ 0x05 ∷ 0x04 ∷ 0 ∷ 0x35 ∷ 0xD4 ∷ []
head_of_days = refl

-- the second file, of eight bytes, stands behind the 25 of the first
second_file : file_part LARGEST (replicate 25 9 ++ (1 ∷ 2 ∷ 3 ∷ 4 ∷ 5 ∷ 6 ∷ 7 ∷ 8 ∷ [])) (kept 0x0005 8) ≡ 0x00 ∷ 0x05 ∷ 0 ∷ 0 ∷ 8 ∷ 1 ∷ 2 ∷ 3 ∷ 4 ∷ 5 ∷ 6 ∷ 7 ∷ 8 ∷ []
unfolding files_of
second_file = refl

-- nothing is written of Card_Download
no_download : file_part LARGEST (replicate 24959 1) (kept 0x050E 4) ≡ []
no_download = refl

-- a memory of zeros: the card type is the first bad field
zeros : bad_field (replicate 24959 0) ≡ Some 1
unfolding first_bad_field
zeros = refl
