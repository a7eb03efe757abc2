-- Worked turns and runs from 2010-03-01 00:00 on, computed from the seconds of a trace and a written log.
use Rattle.std.proofs.Common.{◌≡◌, inl, inr, ℕ, ◌+◌, true, false, None, List, [], ◌∷◌, ◌++◌, refl}
use Rattle.activity_codec.specs.declared.values.Slot.TheVariants.{Driver}
use Rattle.activity_codec.specs.declared.values.Activity.TheVariants.{Available, Driving, Rest}
use Rattle.activity_codec.specs.declared.values.Pick.TheVariants as pick
use Rattle.trace_model.specs.declared.Action.TheVariants.{Select}
use Rattle.trace_model.specs.declared.Item.{Item}
use Rattle.trace_model.specs.declared.Item.TheVariants.{Run, Off}
use Rattle.trace_model.specs.Trace.{driven, seconds_of}
use Rattle.minute_model.specs.declared.Rule.TheVariants.{Original}
use Rattle.minute_model.specs.declared.Minute.{Minute}
use Rattle.minute_model.specs.Minute.{decided}
use Rattle.log_model.specs.declared.lines.Break.{Break}
use Rattle.log_model.specs.Log.{cut_in, kept_after, is_torn_in, found_in}
use Rattle.log_model.specs.Course.{went}
use Rattle.log_model.specs.Spans.{spans_of}
use Rattle.history_model.specs.Minutes.{HistoryMinute}
use Rattle.history_model.specs.Presence.{Start, CardStart, present_in}
use Rattle.history_model.specs.History.{unit_history, with_lost, limit_of}
use Rattle.history_model.specs.Book.{Book, all, not_begun, kept, broken, found}
use Rattle.run_unit_course.specs.Turn.{lit_seconds, dark_seconds, cut_last}
use Rattle.run_unit_course.specs.Lines.{log_of, cut_at, found_from}
use Rattle.run_unit_course.specs.Legs.{kilometres_of, IsLeg, AreLegs}

-- A DRIVE OVER THE HOUR in two turns, the first with a selection
over_the_hour : (went (log_of []) (driven 30 1267405170 50 (Select Driver pick.Work ∷ []) ++ driven 30 1267405200 50 [])).told
    ≡ lit_seconds 30 1267405170 50 ((Driver, pick.Work) ∷ []) true ++ lit_seconds 30 1267405200 50 [] false
unfolding went cut_in is_torn_in found_in
over_the_hour = refl

-- a call fails in the last second of a turn: it is a cut's, and the seconds up to the next minute are dark
cut_and_dark : (went (log_of (cut_at 1267405189 true 0 ∷ [])) (driven 20 1267405170 50 [] ++ (driven 10 1267405190 50 [] ++ driven 2 1267405200 50 []))).told
    ≡ cut_last (lit_seconds 20 1267405170 50 [] true) ++ (dark_seconds 10 1267405190 50 true [] ++ lit_seconds 2 1267405200 50 [] true)
unfolding went cut_in is_torn_in found_in
cut_and_dark = refl

-- RUNS
abbrev new_card : CardStart
new_card = record { entries = []; owed = []; mark = 0; word = 0 }

abbrev new_cards : Start
new_cards = record { card_a = new_card; card_b = new_card }

abbrev minutes : List Break → List Item → List HistoryMinute
minutes breaks items = unit_history Original new_cards (log_of breaks) (went (log_of breaks) (seconds_of 1267401600 items)).told

abbrev lost : List Break → List Item → List (List HistoryMinute)
lost breaks items = with_lost Original new_cards (log_of breaks) (went (log_of breaks) (seconds_of 1267401600 items)).told

-- a minute of that day at some speed
abbrev drives : ℕ → HistoryMinute
drives m = record { minute = 21123360 + m; driver = record { act = Driving; card = None }; codriver = record { act = Available; card = None } }

-- A LOST MINUTE: the keeping of the second minute was broken off, and the first was found to be the last-kept one
abbrev broken_off : Book
broken_off = found 21123360 (broken (drives 1) (kept (drives 0) not_begun))

lost_minute_of_a_cut : lost (found_from 0 21123360 (cut_at 1267401839 true 0 ∷ [])) (Run 242 50 ∷ []) ≡ broken_off.lost
unfolding decided seconds_of went spans_of cut_in kept_after is_torn_in found_in with_lost present_in
lost_minute_of_a_cut = refl

minutes_of_a_cut : minutes (found_from 0 21123360 (cut_at 1267401839 true 0 ∷ [])) (Run 242 50 ∷ []) ≡ all broken_off
unfolding decided seconds_of went spans_of cut_in kept_after is_torn_in found_in unit_history present_in
minutes_of_a_cut = refl

-- AN OFF LINE INSIDE: its last second with power is a cut's, and a new span begins behind it, within a minute
minutes_around_off : minutes (found_from 0 21123360 (cut_at 1267401799 false 0 ∷ [])) (Run 200 50 ∷ Off 10 ∷ Run 200 50 ∷ []) ≡ drives 0 ∷ drives 3 ∷ []
unfolding decided seconds_of went spans_of cut_in kept_after is_torn_in found_in unit_history present_in
minutes_around_off = refl

-- TWO POWER-ONS IN A ROW, the first of which fails: what is found at the second one counts for both cuts
abbrev twice : List Break
twice = found_from 0 21123360 (cut_at 1267401839 true 0 ∷ cut_at 1267401840 true 0 ∷ [])

minutes_of_two_power_ons : minutes twice (Run 302 50 ∷ []) ≡ all broken_off
unfolding decided seconds_of went spans_of cut_in kept_after is_torn_in found_in unit_history present_in
minutes_of_two_power_ons = refl

lost_of_two_power_ons : lost twice (Run 302 50 ∷ []) ≡ broken_off.lost
unfolding decided seconds_of went spans_of cut_in kept_after is_torn_in found_in with_lost present_in
lost_of_two_power_ons = refl

-- in the first second of a span alone the limit of the cut before does not count yet
minutes_before_the_second_second : minutes twice (Run 301 50 ∷ []) ≡ drives 0 ∷ drives 1 ∷ []
unfolding decided seconds_of went spans_of cut_in kept_after is_torn_in found_in unit_history present_in
minutes_before_the_second_second = refl

-- LEGS: whole kilometres, each for itself
three_legs : kilometres_of (7199 ∷ 3600 ∷ 0 ∷ []) ≡ 2
three_legs = refl

-- of two minutes the first was kept, and the keeping of the second was broken off
abbrev first_minute : Minute
first_minute = record { minute = 1440; driver = Driving; codriver = Rest; travelled = 3000 }

abbrev second_minute : Minute
second_minute = record { minute = 1441; driver = Driving; codriver = Rest; travelled = 6000 }

its_own : IsLeg 1440 (first_minute ∷ second_minute ∷ []) 3000
its_own = inl refl

the_one_begun : IsLeg 1440 (first_minute ∷ second_minute ∷ []) 6000
the_one_begun = inr (second_minute, refl, refl)

none_kept : IsLeg 1439 (first_minute ∷ second_minute ∷ []) 0
none_kept = inl refl

-- the legs of that run: of the first span the first minute was found, and the other two decided nothing
legs_of_two_power_ons : AreLegs Original (limit_of (log_of twice)) 0 (spans_of (went (log_of twice) (seconds_of 1267401600 (Run 302 50 ∷ []))).told) (3000 ∷ 0 ∷ 0 ∷ [])
unfolding decided seconds_of went spans_of cut_in kept_after is_torn_in found_in
legs_of_two_power_ons = (inl refl, (inl refl, (inl refl, refl)))

-- in the first second of the last span they go by the last-kept minute of the unit, here by the second one, as long as its keeping may have ended
legs_before_the_second_second : AreLegs Original (limit_of (log_of twice)) 21123361 (spans_of (went (log_of twice) (seconds_of 1267401600 (Run 301 50 ∷ []))).told) (6000 ∷ 0 ∷ 0 ∷ [])
unfolding decided seconds_of went spans_of cut_in kept_after is_torn_in found_in
legs_before_the_second_second = (inl refl, (inl refl, (inl refl, refl)))
