-- How the writing of a card file ends.
use Rattle.std.specs.Prelude.{◌≡◌, ◌⊎◌, ℕ, List, Option, Some, None, Result, Ok, Err, MatchResult}
use Rattle.std.specs.Io.KnownBytes.{Appends, Keeps}
use Rattle.tach_media.specs.Streams.{AppendsFront}
use Rattle.card_layout.specs.Application.{first_bad_field, application_in}
use Rattle.card_image.specs.Own.{own_sizes}
use Rattle.card_image.specs.CardFile.{card_file}
use Rattle.card_download.specs.declared.fault.CardFileFault.{CardFileFault}
use Rattle.card_download.specs.declared.fault.CardFileFault.TheVariants.{Failed, WriteFault, BadApplication}

-- the card file of an image, by the sizes that it tells itself
unfoldable pub file_of : List ℕ → List ℕ
file_of x = card_file (own_sizes x) x

-- the first field of its Application_Identification that is out of its range
abbrev pub bad_field : List ℕ → Option ℕ
bad_field x = first_bad_field (application_in x)

-- What the sink has gained of a card with this image. Its sizes are in their ranges where the file is written, or
-- begun; a field that is named is the first that is not, and then nothing was written.
abbrev pub Writes : {T : Type 0} → Result T CardFileFault → List ℕ → (held sunk : Option (List ℕ)) → Type 0
Writes (Ok done) x held sunk = (bad_field x ≡ None) × Appends held sunk (file_of x)
Writes (Err WriteFault) x held sunk = (bad_field x ≡ None) × AppendsFront held sunk (file_of x)
Writes (Err Failed) x held sunk = Keeps held sunk ⊎ ((bad_field x ≡ None) × AppendsFront held sunk (file_of x))
Writes (Err (BadApplication field)) x held sunk = (bad_field x ≡ Some field) × Keeps held sunk

-- the sink is told to have failed
abbrev pub IsWriteFault : {T : Type 0} → Result T CardFileFault → Type 0
IsWriteFault result = MatchResult result (λ _. ⊥) (λ fault. fault ≡ WriteFault)

-- a field is named
abbrev pub IsBad : {T : Type 0} → Result T CardFileFault → Type 0
IsBad (Ok done) = ⊥
IsBad (Err Failed) = ⊥
IsBad (Err WriteFault) = ⊥
IsBad (Err (BadApplication field)) = Unit {0}
