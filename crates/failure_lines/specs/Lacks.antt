-- What is told of a device whose file, or file system, lacks what its medium asks of it (profile).
use Rattle.std.specs.Prelude.{ℕ, Option, Some, None, List, [], ◌++◌, codes}
use Rattle.run_model.specs.Names.{device_name}
use Rattle.run_model.specs.declared.Device.{Device}
use Rattle.run_model.specs.declared.Device.TheVariants.{Unit as OfUnit, CardA, CardB}
use Rattle.sector_medium.specs.declared.file.Missing.{Missing}
use Rattle.sector_medium.specs.declared.file.Missing.TheVariants.{Locks, SynchronisedFolders, Bytes, Copy}

-- what is missing
abbrev pub missing_words : Missing → List ℕ
missing_words Locks = codes "no locks in its file system"
missing_words SynchronisedFolders = codes "no synchronised folders in its file system"
missing_words Bytes = codes "its file is too short"
missing_words Copy = codes "no copy of what it held could be made"

-- a line: `unit: no locks in its file system`, or `unit: its file is too short`
abbrev pub missing_line : Device → Missing → List ℕ
missing_line device missing = device_name device ++ codes ": " ++ missing_words missing ++ codes "\n"

-- WHAT IS TOLD of the unit and the cards: one line, of the first of them that lacks something; nothing where none does
abbrev pub missing_text : (unit card_a card_b : Option Missing) → List ℕ
missing_text (Some missing) card_a card_b = missing_line OfUnit missing
missing_text None (Some missing) card_b = missing_line CardA missing
missing_text None None (Some missing) = missing_line CardB missing
missing_text None None None = []
