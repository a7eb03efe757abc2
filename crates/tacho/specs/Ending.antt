-- How the program's status comes of the top call's (profile).
use Rattle.std.specs.Prelude.{◌==◌, ◌&&◌, ℕ, Bool, if◌then◌else◌}

-- the program's status: 15 where all is done, and the file of a device was taken away meanwhile
abbrev pub program_status : ℕ → Bool → ℕ
program_status status taken_away = if status == 0 && taken_away then 15 else status
