-- What a call leaves in a sink that copies bytes of a card there, file by file.
use Rattle.std.specs.Prelude.{ℕ, ◌≤◌, List, [], ◌∷◌, ◌++◌, Option, Result, Ok, Err, IsErrOf, nat_eq, if◌then◌else◌}
use Rattle.std.specs.Io.KnownBytes.{Appends}
use Rattle.byteorder.specs.Endian.{big_bytes}
use Rattle.card_layout.specs.declared.files.Application.{Application}
use Rattle.card_layout.specs.declared.files.CardFile.{CardFile}
use Rattle.card_image.specs.CardFile.{entry_bytes, entry_of}
use Rattle.tach_media.specs.Medium.{Rose}
use Rattle.tach_media.specs.Streams.{AppendsFront}
use Rattle.card_download.specs.declared.fault.CopyFault.{CopyFault}
use Rattle.card_download.specs.declared.fault.CopyFault.TheVariants.{WriteFault}

-- all of these bytes went to a sink, or a front of them where the card or the sink failed
abbrev pub Copies : {T : Type 0} → Result T CopyFault → List ℕ → (held sunk : Option (List ℕ)) → Type 0
Copies (Ok done) bytes held sunk = Appends held sunk bytes
Copies (Err fault) bytes held sunk = AppendsFront held sunk bytes

-- the sink's count of faults has not fallen, and it has risen, or stands at its last value, where the sink is told to
-- have failed
pub record CountsWrites {T : Type 0} (result : Result T CopyFault) (before now : ℕ) : Type 0 where
  pub later : before ≤ now
  pub wrote : IsErrOf result WriteFault → Rose before now

-- the head of an entry that is a file's value: its identifier, the kind 0, and how many bytes follow
abbrev pub head_bytes : (fid len : ℕ) → List ℕ
head_bytes fid len = big_bytes 2 fid ++ 0 ∷ big_bytes 2 len

-- the bytes of a file in a card file: an entry, but none of Card_Download
abbrev pub file_part : Application → List ℕ → CardFile → List ℕ
file_part app x f = if nat_eq f.fid.0 0x050E then [] else entry_bytes (entry_of app x f)
