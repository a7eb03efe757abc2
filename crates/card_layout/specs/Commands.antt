-- The commands of a card (Appendix 2, section 3.6) by their bytes: class, instruction, P1, P2, then a length and data.
use Rattle.std.specs.Prelude.{ℕ, ◌+◌, ◌==◌, ◌&&◌, ◌||◌, not, nat_lt, if◌then◌else◌, Bool, Result, Ok, Err, List, []}
use Rattle.std.specs.Prelude.{◌∷◌, length, drop, slice_index, bytes_eq}
use Rattle.card_layout.specs.Images.{number_at}
use Rattle.card_layout.specs.declared.command.Command.{Command}
use Rattle.card_layout.specs.declared.command.Command.TheVariants.{Application, Select, Read, Update}

-- the name of DF Tachograph: FF, then TACHO
abbrev pub tachograph_name : List ℕ
tachograph_name = 0xFF ∷ 0x54 ∷ 0x41 ∷ 0x43 ∷ 0x48 ∷ 0x4F ∷ []

-- SELECT FILE, by the instruction
abbrev pub is_select : List ℕ → Bool
is_select b = slice_index b 1 == 0xA4

-- READ BINARY, by the instruction
abbrev pub is_read : List ℕ → Bool
is_read b = slice_index b 1 == 0xB0

-- UPDATE BINARY, by the instruction
abbrev pub is_update : List ℕ → Bool
is_update b = slice_index b 1 == 0xD6

-- a SELECT by name; another one is by file identifier
abbrev pub is_by_name : List ℕ → Bool
is_by_name b = slice_index b 2 == 0x04

-- P1 and P2: a SELECT is by name or by identifier and asks for no answer data; else they are an offset below 32768
abbrev pub has_good_parameters : List ℕ → Bool
has_good_parameters b =
    if is_select b then (is_by_name b || slice_index b 2 == 0x02) && slice_index b 3 == 0x0C
    else nat_lt (slice_index b 2) 0x80

-- a name has six bytes and an identifier two, READ BINARY has no data, and UPDATE BINARY has some
abbrev pub has_good_length : List ℕ → Bool
has_good_length b =
    if is_select b then (if is_by_name b then slice_index b 4 == 6 && length b == 11 else slice_index b 4 == 2
    && length b == 7)
    else if is_read b then length b == 5
    else not (slice_index b 4 == 0) && length b == 5 + slice_index b 4

-- what a command means that passes the checks; a read of length 0 is one of 256 bytes
abbrev pub meaning : List ℕ → Command
meaning b =
    if is_select b then (if is_by_name b then Application else Select (record { 0 = number_at b 5 2 }))
    else if is_read b then Read (number_at b 2 2) (if slice_index b 4 == 0 then 256 else slice_index b 4)
    else Update (number_at b 2 2) (record { items = drop 5 b })

-- The table of the checks on the bytes alone, in their order: the first that fails gives the status word.
abbrev pub command_of : List ℕ → Result Command ℕ
command_of b =
    if nat_lt (length b) 5 then Err 0x6700
    else if not (slice_index b 0 == 0) then Err 0x6E00
    else if not (is_select b || is_read b || is_update b) then Err 0x6D00
    else if not (has_good_parameters b) then Err 0x6A86
    else if not (has_good_length b) then Err 0x6700
    else if is_select b && is_by_name b && not (bytes_eq (drop 5 b) tachograph_name) then Err 0x6A82
    else Ok (meaning b)
