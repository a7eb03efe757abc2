-- The flat image of a new card (profile): what its maker writes into each file.
use Rattle.std.specs.Prelude.{ℕ, ◌+◌, ◌==◌, if◌then◌else◌, List, [], ◌∷◌, map, replicate, codes}
use Rattle.card_layout.specs.Fields.{joined}
use Rattle.card_layout.specs.declared.files.Application.{Application}
use Rattle.card_layout.specs.declared.files.CardFile.{CardFile}
use Rattle.card_layout.specs.Application.{application_bytes}
use Rattle.card_layout.specs.Files.{files_of}
use Rattle.tacho_types.specs.Numbers.{time_bytes}
use Rattle.card_files.specs.declared.new_card.CardIdentity.{CardIdentity}

-- text padded with spaces: code page 1, and nothing in 35 characters
abbrev pub blank_name : List ℕ
blank_name = 1 ∷ replicate 35 32

-- issue and begin of validity 2009-01-01 00:00:00, expiry 2013-12-31 23:59:59
abbrev pub validity_bytes : List ℕ
validity_bytes =
    joined (time_bytes (record { 0 = 1_230_768_000 }) ∷ time_bytes (record { 0 = 1_230_768_000 })
    ∷ time_bytes (record { 0 = 1_388_534_399 }) ∷ [])

-- Identification: issuing state, card number, authority, issue, begin of validity and expiry, surname, first names,
-- birth date 1970-01-01 in decimal digits, language
unfoldable pub identification_bytes : CardIdentity → List ℕ
identification_bytes id =
    joined
    ((id.state.0 ∷ [])
    ∷ id.number
    ∷ blank_name
    ∷ validity_bytes
    ∷ id.surname.0
    ∷ id.first.0
    ∷ (0x19 ∷ 0x70 ∷ 0x01 ∷ 0x01 ∷ [])
    ∷ codes "en"
    ∷ [])

-- what a new card has in a file
abbrev pub new_contents : CardIdentity → Application → CardFile → List ℕ
new_contents id app file =
    if file.fid.0 == 0x0501 then application_bytes app
    else if file.fid.0 == 0x0520 then identification_bytes id
    else replicate file.size 0

-- how many bytes a new card has in a file
abbrev pub new_size : CardFile → ℕ
new_size file = if file.fid.0 == 0x0501 then 10 else if file.fid.0 == 0x0520 then 143 else file.size

-- how many bytes it has in all of these files
abbrev pub new_total : List CardFile → ℕ
new_total [] = 0
new_total (file ∷ files) = new_size file + new_total files

-- its flat image
abbrev pub new_card : CardIdentity → Application → List ℕ
new_card id app = joined (map (new_contents id app) (files_of app))
