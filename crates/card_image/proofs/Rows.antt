-- Worked rows of a card: what it shows, and where it is not valid.
use Rattle.std.proofs.Common.{◌≡◌, ◌+◌, ◌*◌, ℕ, List, [], ◌∷◌, Some, None, length, map, refl, replicate}
use Rattle.card_retention.specs.card_model.Days.{Day}
use Rattle.card_retention.specs.card_model.Checks.{first_failing}
use Rattle.card_retention.specs.Entries.{day_entries}
use Rattle.card_image.specs.Fields.{file}
use Rattle.card_image.specs.View.{CardView, view_of}
use Rattle.card_image.specs.CardFile.{entry_bytes, entries_of}
use Rattle.card_image.specs.Judging.{word_checks, first_bad_file}
use Rattle.card_files.specs.card_layout.Application.{first_bad_field}
use Rattle.card_files.specs.card_layout.Files.{files_of}

-- 2010-03-01, with these words
abbrev day : List ℕ → Day
day words = record { date = 1267401600; counter = 1; km = 0; words = words }

-- the day's first minute
abbrev midnight : ℕ
midnight = 21123360

-- in the card since 00:00, rest in 00:00, driving from 00:01 to 00:57, and the session goes on
abbrev driving : CardView
driving = view_of (60 * (midnight + 57)) (midnight + 57) 1267401600 (day (0x0000 ∷ 0x1801 ∷ []) ∷ [])

driven_minutes : length driving.held.entries ≡ 58
unfolding day_entries
driven_minutes = refl

-- its newest minute is that of the closing word which an insertion would write
driving_newest : driving.newest ≡ midnight + 58
driving_newest = refl

-- withdrawn in 00:10: ten minutes are on the card, and the closing word stands at the end mark
abbrev withdrawn : CardView
withdrawn = view_of (60 * (midnight + 10)) (midnight + 10) 0 (day (0x0000 ∷ 0x1805 ∷ 0x300A ∷ []) ∷ [])

withdrawn_minutes : length withdrawn.held.entries ≡ 10
unfolding day_entries
withdrawn_minutes = refl

withdrawn_newest : withdrawn.newest ≡ midnight + 10
withdrawn_newest = refl

-- a closed card with a word of no card behind its end mark: as trimmed to the mark it would get that word again
abbrev beyond : CardView
beyond = view_of (60 * (midnight + 4)) (midnight + 4) 0 (day (0x0000 ∷ 0x2005 ∷ []) ∷ [])

beyond_newest : beyond.newest ≡ midnight + 5
beyond_newest = refl

-- no second before the minute of that word may be recorded
beyond_stored : beyond.stored ≡ 60 * (midnight + 5)
beyond_stored = refl

-- while a session is open that word does not count
beyond_open : (view_of (60 * (midnight + 4)) (midnight + 4) 1267401600 (day (0x0000 ∷ 0x2005 ∷ []) ∷ [])).held.days ≡ record { day = 14669; words = 1 } ∷ []
beyond_open = refl

-- rest until 00:04, and a word of no card at 00:05: it closes at the minute after the end mark
closes : first_failing (word_checks 5544 0 (midnight + 4) 0 (day (0x0000 ∷ 0x2005 ∷ []) ∷ [])) ≡ None
closes = refl

-- with the end mark at 00:03 it leaves 00:04 open
leaves_open : first_failing (word_checks 5544 0 (midnight + 3) 0 (day (0x0000 ∷ 0x2005 ∷ []) ∷ [])) ≡ Some 18
leaves_open = refl

-- a session that is open is cut at its end mark, so what stands behind is not looked at
cut_later : first_failing (word_checks 5544 0 (midnight + 3) 1267401600 (day (0x0000 ∷ 0x2005 ∷ []) ∷ [])) ≡ None
cut_later = refl

-- an entry behind the end mark
entry_behind : first_failing (word_checks 5544 0 (midnight + 4) 0 (day (0x0000 ∷ 0x2005 ∷ 0x0006 ∷ []) ∷ [])) ≡ Some 20
entry_behind = refl

-- two words at one minute: up to the end mark, and behind it, where no session is open
twice_before : first_failing (word_checks 5544 0 (midnight + 10) 1267401600 (day (0x0000 ∷ 0x2005 ∷ 0x2005 ∷ []) ∷ [])) ≡ Some 20
twice_before = refl

twice_behind : first_failing (word_checks 5544 0 (midnight + 4) 0 (day (0x0000 ∷ 0x2005 ∷ 0x2005 ∷ []) ∷ [])) ≡ Some 20
twice_behind = refl

twice_cut : first_failing (word_checks 5544 0 (midnight + 4) 1267401600 (day (0x0000 ∷ 0x2005 ∷ 0x2005 ∷ []) ∷ [])) ≡ None
twice_cut = refl

-- a day that begins at place 5538 of a string of 5544 bytes: its second word stands at place 8 of the string
round_the_end : first_failing (word_checks 5544 5538 (midnight + 3) 0 (day (0x0000 ∷ 0x2005 ∷ []) ∷ [])) ≡ Some 12
round_the_end = refl

-- a memory of zeros is no driver card: the card type fails
zeros : first_bad_file (record { structure = 0; events = 12; faults = 24; activity = 13776; vehicles = 200; places = 112 }) (replicate 24959 0) ≡ Some (file 0x0501, 0)
unfolding first_bad_file first_bad_field files_of
zeros = refl

-- an entry of a card file: identifier, kind, length, bytes
file_entry : entry_bytes (record { fid = 0x050E; kind = 0; value = 1 ∷ 2 ∷ 3 ∷ 4 ∷ [] }) ≡ 0x05 ∷ 0x0E ∷ 0 ∷ 0 ∷ 4 ∷ 1 ∷ 2 ∷ 3 ∷ 4 ∷ []
file_entry = refl

-- all files are written but Card_Download
files_written : map (λ e. e.fid) (entries_of (record { structure = 0; events = 12; faults = 24; activity = 13776; vehicles = 200; places = 112 }) [])
    ≡ 0x0002 ∷ 0x0005 ∷ 0x0501 ∷ 0x0502 ∷ 0x0503 ∷ 0x0504 ∷ 0x0505 ∷ 0x0506 ∷ 0x0507 ∷ 0x0508 ∷ 0x0520 ∷ 0x0521 ∷ 0x0522 ∷ 0xC100 ∷ 0xC108 ∷ []
unfolding files_of
files_written = refl
