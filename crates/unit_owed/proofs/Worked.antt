-- Worked rows, computed.
use Rattle.std.proofs.Common.{◌≡◌, ℕ, List, [], ◌∷◌, ◌++◌, Some, None, true, false, replicate, refl}
use Rattle.activity_codec.specs.declared.values.Activity.TheVariants.{Driving, Work}
use Rattle.activity_codec.specs.declared.values.Slot.TheVariants.{Driver, CoDriver}
use Rattle.unit_owed.specs.Owed.{row_index, row_in, owed_of}
use Rattle.unit_owed.specs.Rows.{begun_index, entry_word}

-- a number, and a row of it: session 2010-03-01 00:01, the minutes 21123364, none, 21123362 (a driver's, driving), 21123363 (a co-driver's work in a crew)
number : ℕ → List ℕ
number n = 1 ∷ 17 ∷ replicate 15 48 ++ n ∷ []

row : List ℕ → ℕ → List ℕ
row session n = session ++ (number n ++ (0 ∷ 0 ∷ (1 ∷ 66 ∷ 81 ∷ 36 ∷ 24 ∷ 4 ∷ 0 ∷ 0 ∷ 0 ∷ 0 ∷ 24 ∷ 1 ∷ 1 ∷ 66 ∷ 81 ∷ 34 ∷ 24 ∷ 2 ∷ 1 ∷ 66 ∷ 81 ∷ 35 ∷ 208 ∷ 3 ∷ [])))

late : List ℕ
late = 75 ∷ 139 ∷ 3 ∷ 188 ∷ []

early : List ℕ
early = 75 ∷ 139 ∷ 3 ∷ 128 ∷ []

none : List ℕ
none = 0 ∷ 0 ∷ 0 ∷ 0 ∷ []

-- eight rows: of the numbers 1 to 8, the third empty; and with a later session in all but the fifth
rows : List ℕ
rows = row late 1 ++ (row late 2 ++ (row none 3 ++ (row late 4 ++ (row early 5 ++ (row late 6 ++ (row late 7 ++ row late 8))))))

full : List ℕ
full = row late 1 ++ (row late 2 ++ (row late 3 ++ (row late 4 ++ (row early 5 ++ (row late 6 ++ (row early 7 ++ row late 8))))))

-- a row by its number; one with session 0 is nobody's
fourth : row_index (number 4) rows ≡ Some 3
unfolding number row late early none rows
fourth = refl

third : row_index (number 3) rows ≡ None
unfolding number row late early none rows
third = refl

-- what is owed of it with session 2010-03-01 00:01 behind the end mark 21123361: two entries up to the last-kept minute 21123363
owed_rows : owed_of 1267401660 21123361 21123363 (Some (row_in rows 3))
    ≡ record { minute = 21123362; slot = Driver; crew = false; act = Driving } ∷ record { minute = 21123363; slot = CoDriver; crew = true; act = Work } ∷ []
unfolding number row late early none rows
owed_rows = refl

-- another session, a later end mark, a later session
other_session : owed_of 1267401661 21123361 21123363 (Some (row_in rows 3)) ≡ []
unfolding number row late early none rows
other_session = refl

later_mark : owed_of 1267401660 21123362 21123363 (Some (row_in rows 3)) ≡ record { minute = 21123363; slot = CoDriver; crew = true; act = Work } ∷ []
unfolding number row late early none rows
later_mark = refl

-- a row's own number, the lowest empty row, the least session time, and that of the rows but the spared one
own : begun_index (number 4) None rows ≡ Some 3
unfolding number row late early none rows
own = refl

empty : begun_index (number 9) None rows ≡ Some 2
unfolding number row late early none rows
empty = refl

least_session : begun_index (number 9) None full ≡ Some 4
unfolding number row late early none full
least_session = refl

spared_row : begun_index (number 9) (Some (number 5)) full ≡ Some 6
unfolding number row late early none full
spared_row = refl

-- the word of an entry: a driver's driving at 00:02, a co-driver's work in a crew at 00:03
words : entry_word (record { minute = 21123362; slot = Driver; crew = false; act = Driving }) ≡ 0x1802
words = refl

crew_word : entry_word (record { minute = 21123363; slot = CoDriver; crew = true; act = Work }) ≡ 0xD003
crew_word = refl
