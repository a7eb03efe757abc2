-- The most writes that a call on a journal begins (profile).
use Rattle.std.specs.Prelude.{ℕ}

-- an entry is put among those owed to a card: the minute of its cell to 0, the word, the minute
abbrev pub owe_most : ℕ
owe_most = 3

-- a row is begun for a card: the session to 0, the minutes of four cells to 0, the number, the session
abbrev pub begin_most : ℕ
begin_most = 7

-- a minute is kept: those of one that begins a day
abbrev pub keep_most : ℕ
keep_most = 12

-- a unit is mended: the minutes of 32 cells, the gate of a day, the count of a day's words
abbrev pub mend_most : ℕ
mend_most = 34
