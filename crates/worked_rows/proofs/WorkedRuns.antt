-- Worked runs with cards: the minutes of the unit, the entries of the cards and the refusals, computed from the lines of a trace and a written run log.
use Rattle.std.proofs.Common.{◌≡◌, ℕ, zero, suc, ◌+◌, true, false, Some, None, List, [], ◌∷◌, ◌++◌, refl}
use Rattle.activity_codec.specs.declared.entries.Entry.{Entry}
use Rattle.activity_codec.specs.declared.values.Slot.{Slot}
use Rattle.activity_codec.specs.declared.values.Slot.TheVariants.{Driver, CoDriver}
use Rattle.activity_codec.specs.declared.values.Activity.{Activity}
use Rattle.activity_codec.specs.declared.values.Activity.TheVariants.{Rest, Available, Work, Driving}
use Rattle.activity_codec.specs.declared.values.Pick.TheVariants as pick
use Rattle.trace_model.specs.declared.Card.{Card}
use Rattle.trace_model.specs.declared.Card.TheVariants.{A, B}
use Rattle.trace_model.specs.declared.Action.TheVariants.{Select, Insert, Withdraw, Tear}
use Rattle.trace_model.specs.declared.Item.{Item}
use Rattle.trace_model.specs.declared.Item.TheVariants.{Run, Off, Act}
use Rattle.trace_model.specs.Trace.{seconds_of}
use Rattle.minute_model.specs.declared.Rule.TheVariants.{Original}
use Rattle.minute_model.specs.Minute.{decided}
use Rattle.log_model.specs.declared.lines.Break.{Break}
use Rattle.log_model.specs.declared.lines.Break.TheVariants as torn
use Rattle.log_model.specs.declared.lines.Find.{Find}
use Rattle.log_model.specs.declared.lines.SlotFault.{SlotFault}
use Rattle.log_model.specs.declared.lines.SlotFault.TheVariants.{Moving, Empty}
use Rattle.log_model.specs.declared.lines.Verdict.TheVariants.{Accepted}
use Rattle.log_model.specs.Log.{RunLog, cut_in, kept_after, is_torn_in, found_in}
use Rattle.log_model.specs.Course.{ToldSecond, went}
use Rattle.log_model.specs.Spans.{spans_of}
use Rattle.log_model.specs.Causes.{refusals_of}
use Rattle.history_model.specs.Minutes.{HistoryMinute, card_history}
use Rattle.history_model.specs.Presence.{Start, CardStart, newest_minute, present_in}
use Rattle.history_model.specs.History.{unit_history, with_lost}

-- two new cards
abbrev new_card : CardStart
new_card = record { entries = []; owed = []; mark = 0; word = 0 }

abbrev new_cards : Start
new_cards = record { card_a = new_card; card_b = new_card }

-- how the seconds of these lines went, from 2010-03-01 00:00 on
abbrev told_from : ℕ → RunLog → List Item → List ToldSecond
told_from start log lines = (went log (seconds_of start lines)).told

abbrev minutes_from : ℕ → RunLog → List Item → List HistoryMinute
minutes_from start log lines = unit_history Original new_cards log (told_from start log lines)

abbrev minutes : RunLog → List Item → List HistoryMinute
minutes log lines = minutes_from 1267401600 log lines

abbrev refusals : RunLog → List Item → List (ℕ × ℕ × SlotFault)
refusals log lines = refusals_of (told_from 1267401600 log lines)

-- a log of breaks and finds
abbrev logged : List Break → List Find → RunLog
logged breaks finds = record { breaks = breaks; refused = []; finds = finds }

-- a card was accepted in a slot, with so many entries that were owed to it
abbrev accepts_in : Slot → (second begun replayed : ℕ) → Find
accepts_in slot second begun replayed = record { second = second; slot = slot; verdict = Accepted replayed; begun = begun }

abbrev accepts : (second begun replayed : ℕ) → Find
accepts second begun replayed = accepts_in Driver second begun replayed

-- a minute of that day by its number since midnight, with card a in the driver slot, or with no card
abbrev with_a : ℕ → Activity → Activity → HistoryMinute
with_a m driver codriver = record { minute = 21123360 + m; driver = record { act = driver; card = Some A }; codriver = record { act = codriver; card = None } }

abbrev bare : ℕ → Activity → Activity → HistoryMinute
bare m driver codriver = record { minute = 21123360 + m; driver = record { act = driver; card = None }; codriver = record { act = codriver; card = None } }

-- an entry of the driver slot, alone
abbrev entry : ℕ → Activity → Entry
entry m act = record { minute = 21123360 + m; slot = Driver; crew = false; act = act }

-- n minutes or entries from one on
abbrev drives : ℕ → ℕ → List HistoryMinute
drives m zero = []
drives m (suc n) = with_a m Driving Available ∷ drives (m + 1) n

abbrev drive_entries : ℕ → ℕ → List Entry
drive_entries m zero = []
drive_entries m (suc n) = entry m Driving ∷ drive_entries (m + 1) n

-- A DRIVE with a card, an hour's in short: a minute of rest, and all but the last two of driving
abbrev drive : List Item
drive = Act (Insert Driver A) ∷ Run 60 0 ∷ Run 540 50 ∷ []

drive_with_a_card : minutes (logged [] (accepts 1267401600 1 0 ∷ [])) drive ≡ with_a 0 Rest Rest ∷ drives 1 7
unfolding decided seconds_of went spans_of cut_in kept_after is_torn_in found_in unit_history present_in newest_minute card_history
drive_with_a_card = refl

entries_of_a_drive : card_history A (minutes (logged [] (accepts 1267401600 1 0 ∷ [])) drive) ≡ entry 0 Rest ∷ drive_entries 1 7
unfolding decided seconds_of went spans_of cut_in kept_after is_torn_in found_in unit_history present_in newest_minute card_history
entries_of_a_drive = refl

-- A WITHDRAWAL in motion is refused, and a later one settles
abbrev withdrawn : List Item
withdrawn = Act (Insert Driver A) ∷ Run 300 0 ∷ Act (Withdraw Driver) ∷ Run 300 60 ∷ Act (Withdraw Driver) ∷ Run 120 0 ∷ []

abbrev withdrawn_log : RunLog
withdrawn_log = logged [] (accepts 1267401600 1 0 ∷ [])

abbrev rests : ℕ → ℕ → List HistoryMinute
rests m zero = []
rests m (suc n) = with_a m Rest Rest ∷ rests (m + 1) n

minutes_to_a_withdrawal : minutes withdrawn_log withdrawn ≡ rests 0 5 ++ drives 5 5
unfolding decided seconds_of went spans_of cut_in kept_after is_torn_in found_in unit_history present_in newest_minute card_history
minutes_to_a_withdrawal = refl

refused_in_motion : refusals withdrawn_log withdrawn ≡ (1267401900, 1, Moving 60) ∷ []
unfolding seconds_of went cut_in is_torn_in found_in
refused_in_motion = refl

-- WITHDRAWN AND PUT IN AGAIN within a minute: the card is not present in it, but in the next one
abbrev in_again : List Item
in_again = Act (Insert Driver A) ∷ Run 300 0 ∷ Act (Withdraw Driver) ∷ Run 300 60 ∷ Act (Withdraw Driver) ∷ Act (Insert Driver A) ∷ Run 240 0 ∷ []

absent_in_the_minute_between : minutes (logged [] (accepts 1267401600 1 0 ∷ accepts 1267402200 2 0 ∷ [])) in_again ≡ rests 0 5 ++ (drives 5 5 ++ bare 10 Work Available ∷ with_a 11 Work Available ∷ [])
unfolding decided seconds_of went spans_of cut_in kept_after is_torn_in found_in unit_history present_in newest_minute card_history
absent_in_the_minute_between = refl

-- OVER MIDNIGHT: one minute on each day
over_midnight : minutes_from 1267487940 (logged [] (accepts 1267487940 1 0 ∷ [])) (Act (Insert Driver A) ∷ Run 240 0 ∷ []) ≡ with_a 1439 Rest Rest ∷ with_a 1440 Rest Rest ∷ []
unfolding decided seconds_of went spans_of cut_in kept_after is_torn_in found_in unit_history present_in newest_minute card_history
over_midnight = refl

-- TORN IN THE KEEPING of the second minute: the card was present in three, of which the repair brings two
abbrev torn_keeping : List Item
torn_keeping = Act (Insert Driver A) ∷ Run 60 0 ∷ Run 300 50 ∷ Act (Insert Driver A) ∷ Run 60 0 ∷ []

abbrev torn_keeping_log : RunLog
torn_keeping_log = logged (torn.Tear 1267401839 Driver true 0 true ∷ []) (accepts 1267401600 1 0 ∷ accepts 1267401960 1 2 ∷ [])

abbrev drives_bare : ℕ → ℕ → List HistoryMinute
drives_bare m zero = []
drives_bare m (suc n) = bare m Driving Available ∷ drives_bare (m + 1) n

present_until_the_tear : minutes torn_keeping_log torn_keeping ≡ with_a 0 Rest Rest ∷ (drives 1 2 ++ drives_bare 3 3)
unfolding decided seconds_of went spans_of cut_in kept_after is_torn_in found_in unit_history present_in newest_minute card_history
present_until_the_tear = refl

entries_of_a_torn_card : card_history A (minutes torn_keeping_log torn_keeping) ≡ entry 0 Rest ∷ drive_entries 1 2
unfolding decided seconds_of went spans_of cut_in kept_after is_torn_in found_in unit_history present_in newest_minute card_history
entries_of_a_torn_card = refl

-- PULLED OUT by a line: the same, a minute later
abbrev pulled : List Item
pulled = Act (Insert Driver A) ∷ Run 60 0 ∷ Run 180 50 ∷ Act (Tear Driver) ∷ Run 120 50 ∷ Act (Insert Driver A) ∷ Run 60 0 ∷ []

abbrev pulled_log : RunLog
pulled_log = logged (torn.Tear 1267401840 Driver false 1 false ∷ []) (accepts 1267401600 1 0 ∷ accepts 1267401960 1 2 ∷ [])

present_until_it_is_pulled : minutes pulled_log pulled ≡ with_a 0 Rest Rest ∷ (drives 1 3 ++ drives_bare 4 2)
unfolding decided seconds_of went spans_of cut_in kept_after is_torn_in found_in unit_history present_in newest_minute card_history
present_until_it_is_pulled = refl

entries_of_a_pulled_card : card_history A (minutes pulled_log pulled) ≡ entry 0 Rest ∷ drive_entries 1 3
unfolding decided seconds_of went spans_of cut_in kept_after is_torn_in found_in unit_history present_in newest_minute card_history
entries_of_a_pulled_card = refl

-- POWER IS LOST at the mark of the second minute
abbrev cut_at_mark : List Item
cut_at_mark = Act (Insert Driver A) ∷ Run 60 0 ∷ Run 300 50 ∷ []

abbrev cut_log : ℕ → RunLog
cut_log kept = logged (torn.Cut 1267401839 kept true 0 ∷ []) (accepts 1267401600 1 0 ∷ accepts 1267401840 0 1 ∷ [])

-- the new mark was found: both minutes count, and none is lost
kept_where_the_mark_was_found : minutes (cut_log 21123361) cut_at_mark ≡ with_a 0 Rest Rest ∷ with_a 1 Driving Available ∷ []
unfolding decided seconds_of went spans_of cut_in kept_after is_torn_in found_in unit_history present_in newest_minute card_history
kept_where_the_mark_was_found = refl

none_lost_where_the_mark_was_found : with_lost Original new_cards (cut_log 21123361) (told_from 1267401600 (cut_log 21123361) cut_at_mark) ≡ []
unfolding decided seconds_of went spans_of cut_in kept_after is_torn_in found_in with_lost present_in newest_minute card_history
none_lost_where_the_mark_was_found = refl

entries_where_the_mark_was_found : card_history A (minutes (cut_log 21123361) cut_at_mark) ≡ entry 0 Rest ∷ drive_entries 1 1
unfolding decided seconds_of went spans_of cut_in kept_after is_torn_in found_in unit_history present_in newest_minute card_history
entries_where_the_mark_was_found = refl

-- the old mark was found: the second minute is lost
lost_where_the_old_mark_was_found : minutes (cut_log 21123360) cut_at_mark ≡ with_a 0 Rest Rest ∷ []
unfolding decided seconds_of went spans_of cut_in kept_after is_torn_in found_in unit_history present_in newest_minute card_history
lost_where_the_old_mark_was_found = refl

one_lost_where_the_old_mark_was_found : with_lost Original new_cards (cut_log 21123360) (told_from 1267401600 (cut_log 21123360) cut_at_mark) ≡ (with_a 0 Rest Rest ∷ with_a 1 Driving Available ∷ []) ∷ []
unfolding decided seconds_of went spans_of cut_in kept_after is_torn_in found_in with_lost present_in newest_minute card_history
one_lost_where_the_old_mark_was_found = refl

-- POWER IS LOST at the first minute of a new day, which the unit was keeping: it is lost
abbrev cut_on_new_day : List Item
cut_on_new_day = Act (Insert Driver A) ∷ Run 420 0 ∷ []

abbrev new_day_log : RunLog
new_day_log = logged (torn.Cut 1267488179 21124799 true 0 ∷ []) (accepts 1267487880 1 0 ∷ accepts 1267488180 0 0 ∷ [])

kept_before_the_new_day : minutes_from 1267487880 new_day_log cut_on_new_day ≡ rests 1438 2
unfolding decided seconds_of went spans_of cut_in kept_after is_torn_in found_in unit_history present_in newest_minute card_history
kept_before_the_new_day = refl

lost_on_the_new_day : with_lost Original new_cards new_day_log (told_from 1267487880 new_day_log cut_on_new_day) ≡ rests 1438 3 ∷ []
unfolding decided seconds_of went spans_of cut_in kept_after is_torn_in found_in with_lost present_in newest_minute card_history
lost_on_the_new_day = refl

-- TWO DRIVERS who change places; the long stretches of the day are a minute or two here
abbrev two_drivers : List Item
two_drivers =
    Act (Insert Driver A) ∷ Act (Insert CoDriver B) ∷ Act (Select Driver pick.Work) ∷ Run 120 0 ∷ Run 120 80 ∷ Act (Select Driver pick.Rest) ∷ Run 120 0
    ∷ Act (Withdraw Driver) ∷ Act (Withdraw CoDriver) ∷ Act (Insert Driver B) ∷ Act (Insert CoDriver A) ∷ Run 60 0 ∷ Run 120 85 ∷ Act (Select Driver pick.Work) ∷ Run 120 0
    ∷ Act (Withdraw Driver) ∷ Act (Withdraw CoDriver) ∷ Run 1 0 ∷ []

abbrev two_drivers_log : RunLog
two_drivers_log = logged [] (accepts_in Driver 1267401600 1 0 ∷ accepts_in CoDriver 1267401600 2 0 ∷ accepts_in Driver 1267401960 3 0 ∷ accepts_in CoDriver 1267401960 4 0 ∷ [])

abbrev crew : ℕ → Activity → Card → Activity → Card → HistoryMinute
crew m driver one codriver other = record { minute = 21123360 + m; driver = record { act = driver; card = Some one }; codriver = record { act = codriver; card = Some other } }

nobody_in_the_minute_of_the_change : minutes two_drivers_log two_drivers
    ≡ crew 0 Work A Rest B ∷ crew 1 Work A Rest B ∷ crew 2 Driving A Available B ∷ crew 3 Driving A Available B ∷ crew 4 Rest A Available B ∷ crew 5 Rest A Available B
    ∷ bare 6 Rest Available ∷ crew 7 Driving B Available A ∷ crew 8 Driving B Available A ∷ crew 9 Work B Available A ∷ crew 10 Work B Available A ∷ []
unfolding decided seconds_of went spans_of cut_in kept_after is_torn_in found_in unit_history present_in newest_minute card_history
nobody_in_the_minute_of_the_change = refl

abbrev crew_entry : ℕ → Slot → Activity → Entry
crew_entry m slot act = record { minute = 21123360 + m; slot = slot; crew = true; act = act }

entries_of_the_first_driver : card_history A (minutes two_drivers_log two_drivers)
    ≡ crew_entry 0 Driver Work ∷ crew_entry 1 Driver Work ∷ crew_entry 2 Driver Driving ∷ crew_entry 3 Driver Driving ∷ crew_entry 4 Driver Rest ∷ crew_entry 5 Driver Rest
    ∷ crew_entry 7 CoDriver Available ∷ crew_entry 8 CoDriver Available ∷ crew_entry 9 CoDriver Available ∷ crew_entry 10 CoDriver Available ∷ []
unfolding decided seconds_of went spans_of cut_in kept_after is_torn_in found_in unit_history present_in newest_minute card_history
entries_of_the_first_driver = refl

nothing_refused : refusals two_drivers_log two_drivers ≡ []
unfolding seconds_of went cut_in is_torn_in found_in
nothing_refused = refl

-- Without power each action is refused, an `off` line before any power is no cut, and power begins with the first second that the trace gives it.
abbrev begins_dark : List Item
begins_dark = Off 30 ∷ Act (Withdraw Driver) ∷ Act (Insert Driver A) ∷ Run 200 0 ∷ []

refused_where_nothing_sits : refusals (logged [] (accepts 1267401630 2 0 ∷ [])) begins_dark ≡ (1267401630, 1, Empty Driver) ∷ []
unfolding seconds_of went cut_in is_torn_in found_in
refused_where_nothing_sits = refl
