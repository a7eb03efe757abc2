-- The bytes of a command as a unit writes it.
use Rattle.std.specs.Prelude.{ℕ, ◌/◌, ◌%◌, ◌<◌, ◌≤◌, Result, Ok, Err, List, [], ◌∷◌, ◌++◌, length}
use Rattle.card_layout.specs.declared.command.Command.{Command}
use Rattle.card_layout.specs.declared.command.Command.TheVariants.{Application, Select, Read, Update}
use Rattle.card_layout.specs.Commands.{tachograph_name}
use Rattle.card_commands.specs.declared.codec.Header.{Header}
use Rattle.card_commands.specs.declared.codec.Header.TheVariants as header_of

-- class, instruction, P1 and P2, and the length
abbrev pub header : ℕ → ℕ → ℕ → ℕ → List ℕ
header instruction p1 p2 len = 0x00 ∷ instruction ∷ p1 ∷ p2 ∷ len ∷ []

-- a command's bytes
abbrev pub bytes_of : Command → List ℕ
bytes_of Application = header 0xA4 0x04 0x0C 6 ++ tachograph_name
bytes_of (Select fid) = header 0xA4 0x02 0x0C 2 ++ (fid.0 / 256 ∷ fid.0 % 256 ∷ [])
bytes_of (Read offset len) = header 0xB0 (offset / 256) (offset % 256) (len % 256)
bytes_of (Update offset bytes) = header 0xD6 (offset / 256) (offset % 256) (length bytes.items) ++ bytes.items

-- a command that can be written: its offset is below 32768, a read is of 1 to 256 bytes, an update of at least one
abbrev pub IsWritable : Command → Type 0
IsWritable Application = Unit {0}
IsWritable (Select fid) = Unit {0}
IsWritable (Read offset len) = (offset < 32768) × (1 ≤ len) × (len ≤ 256)
IsWritable (Update offset bytes) = (offset < 32768) × (0 < length bytes.items)

-- a command by its header, with its data
abbrev pub command_with : Header → List ℕ → Command
command_with header_of.Application bytes = Application
command_with (header_of.Select fid) bytes = Select fid
command_with (header_of.Read offset len) bytes = Read offset len
command_with (header_of.Update offset) bytes = Update offset (record { items = bytes })

-- what is read, with the data
abbrev pub read_with : Result Header ℕ → List ℕ → Result Command ℕ
read_with (Ok header) bytes = Ok (command_with header bytes)
read_with (Err status) bytes = Err status
