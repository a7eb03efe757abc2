-- The elementary files of a driver card, one after the other in its flat image (Appendix 2, section 4.2).
use Rattle.std.specs.Prelude.{ℕ, ◌+◌, ◌*◌, ◌≤◌, ◌⊎◌, ◌==◌, if◌then◌else◌, Bool, true, false, Option, Some, None, List}
use Rattle.std.specs.Prelude.{[], ◌∷◌, unwrap_or, option_map}
use Rattle.card_layout.specs.declared.files.Application.{Application}
use Rattle.card_layout.specs.declared.files.CardFile.{CardFile}
use Rattle.card_layout.specs.declared.files.Fid.{Fid}
use Rattle.card_layout.specs.declared.files.Range.{Range}

-- a file that stays as the card's maker wrote it
abbrev pub kept : ℕ → ℕ → CardFile
kept fid size = record { fid = record { 0 = fid }; size = size; updated = false }

-- a file that the unit updates
abbrev pub updated : ℕ → ℕ → CardFile
updated fid size = record { fid = record { 0 = fid }; size = size; updated = true }

-- The files in their order, with their sizes: of the events six types, of the faults two, each entry of 24 bytes; the
-- two pointers and the string of days; a pointer and the vehicle entries; a pointer and the place entries.
unfoldable pub files_of : Application → List CardFile
files_of app =
    kept 0x0002 25
    ∷ kept 0x0005 8
    ∷ kept 0x0501 10
    ∷ updated 0x0502 (6 * app.events * 24)
    ∷ updated 0x0503 (2 * app.faults * 24)
    ∷ updated 0x0504 (4 + app.activity)
    ∷ updated 0x0505 (2 + 31 * app.vehicles)
    ∷ updated 0x0506 (1 + 10 * app.places)
    ∷ updated 0x0507 19
    ∷ kept 0x0508 46
    ∷ kept 0x050E 4
    ∷ kept 0x0520 143
    ∷ kept 0x0521 53
    ∷ kept 0x0522 280
    ∷ kept 0xC100 194
    ∷ kept 0xC108 194
    ∷ []

-- the range of the file with this identifier, where the first of the files begins at this place
abbrev pub range_from : ℕ → List CardFile → Fid → Option Range
range_from base [] fid = None
range_from base (f ∷ fs) fid = if fid.0 == f.fid.0 then Some (record { base = base; len = f.size })
    else range_from (base + f.size) fs fid

-- the range of a file in the flat image
abbrev pub range_of : Application → Fid → Option Range
range_of app fid = range_from 0 (files_of app) fid

-- the place of a file in the flat image, 0 where there is none with this identifier
abbrev pub place_of : Application → Fid → ℕ
place_of app fid = unwrap_or (option_map (λ r. r.base) (range_of app fid)) 0

-- the size of a file in bytes, 0 where there is none with this identifier
abbrev pub size_of : Application → Fid → ℕ
size_of app fid = unwrap_or (option_map (λ r. r.len) (range_of app fid)) 0

-- the size of files together
abbrev pub total_size : List CardFile → ℕ
total_size [] = 0
total_size (f ∷ fs) = f.size + total_size fs

-- the size of the flat image
abbrev pub image_size_of : Application → ℕ
image_size_of app = total_size (files_of app)

-- whether the unit updates the file with this identifier
abbrev pub is_updated_in : List CardFile → Fid → Bool
is_updated_in [] fid = false
is_updated_in (f ∷ fs) fid = if fid.0 == f.fid.0 then f.updated else is_updated_in fs fid

-- the same among the files of a card of these sizes
abbrev pub is_updated : Application → Fid → Bool
is_updated app fid = is_updated_in (files_of app) fid

-- the ranges of the files that the unit updates, where the first of the files begins at this place
abbrev pub updated_from : ℕ → List CardFile → List Range
updated_from base [] = []
updated_from base (f ∷ fs) =
    if f.updated then record { base = base; len = f.size } ∷ updated_from (base + f.size) fs
    else updated_from (base + f.size) fs

-- the ranges that the unit updates on a card of these sizes
abbrev pub updated_ranges : Application → List Range
updated_ranges app = updated_from 0 (files_of app)

-- an identifier of the table
abbrev pub is_listed : List CardFile → Fid → Bool
is_listed [] fid = false
is_listed (f ∷ fs) fid = if fid.0 == f.fid.0 then true else is_listed fs fid

-- two ranges that do not overlap
abbrev pub AreApart : Range → Range → Type 0
AreApart a b = (a.base + a.len ≤ b.base) ⊎ (b.base + b.len ≤ a.base)
