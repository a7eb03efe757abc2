-- Worked rows of the match, computed.
use Rattle.std.proofs.Common.{◌≡◌, ℕ, Bool, true, false, List, [], ◌∷◌, refl}
use Rattle.std.specs.Prelude.{codes}
use Rattle.activity_codec.specs.declared.entries.Entry.{Entry}
use Rattle.activity_codec.specs.declared.values.Activity.{Activity}
use Rattle.activity_codec.specs.declared.values.Activity.TheVariants.{Rest, Available, Work, Driving}
use Rattle.activity_codec.specs.declared.values.Slot.{Slot}
use Rattle.activity_codec.specs.declared.values.Slot.TheVariants.{Driver, CoDriver}
use Rattle.view_model.specs.declared.State.{State}
use Rattle.view_model.specs.declared.Viewed.{Viewed}
use Rattle.view_model.specs.declared.Line.{Line}
use Rattle.view_model.specs.Lines.{lines_of}
use Rattle.unit_model.specs.Days.{UnitMinute}
use Rattle.card_match.specs.declared.difference.Instead.{Instead}
use Rattle.card_match.specs.declared.difference.Instead.TheVariants.{NoMinute, NoCard, Doing, Crew}
use Rattle.card_match.specs.declared.difference.Difference.{Difference}
use Rattle.card_match.specs.Differences.{differences, same_difference}
use Rattle.card_match.specs.Text.{difference_words}
use Rattle.card_match.specs.declared.verdict.Matched.TheVariants.{Yes, No}
use Rattle.card_match.specs.Matching.{Against, is_own, is_other, is_before, is_tested, stands, IsMatch}

abbrev entry : ℕ → Slot → Bool → Activity → Entry
entry minute slot crew act = record { minute = minute; slot = slot; crew = crew; act = act }

abbrev inside : Activity → State
inside act = record { act = act; present = true }

abbrev outside : Activity → State
outside act = record { act = act; present = false }

abbrev alone : ℕ → Activity → UnitMinute
alone minute act = record { minute = minute; driver = inside act; codriver = outside Rest; crew = false }

-- a use from 2010-03-01 00:00 to 00:57, and a unit file with the first two minutes of that day
abbrev seven : Against
seven = record { uses = record { first = 21123360; last = 21123417 } ∷ []; minutes = alone 21123360 Rest ∷ alone 21123361 Driving ∷ [] }

-- the first and the last minute of a use are own, the minutes beside them are other
first_own : is_own seven (entry 21123360 Driver false Rest) ≡ true
first_own = refl

last_own : is_own seven (entry 21123417 Driver false Rest) ≡ true
last_own = refl

before_other : is_other seven (entry 21123359 Driver false Rest) ≡ true
before_other = refl

behind_other : is_other seven (entry 21123418 Driver false Rest) ≡ true
behind_other = refl

-- a minute of the day is tested, also where the file has not this minute
same_day : is_tested seven (entry 21123410 Driver false Rest) ≡ true
same_day = refl

absent : stands seven (entry 21123410 Driver false Rest) ≡ false
absent = refl

-- slot, activity and crew are to be the same, and a card present
alike : stands seven (entry 21123361 Driver false Driving) ≡ true
alike = refl

other_act : stands seven (entry 21123361 Driver false Rest) ≡ false
other_act = refl

other_crew : stands seven (entry 21123361 Driver true Driving) ≡ false
other_crew = refl

no_card : stands seven (entry 21123361 CoDriver false Rest) ≡ false
no_card = refl

-- a day before the file's first day, and a file without a day
abbrev next_day : Against
next_day = record { uses = seven.uses; minutes = alone 21124800 Rest ∷ [] }

day_before : is_before next_day (entry 21123361 Driver false Driving) ≡ true
day_before = refl

abbrev no_day : Against
no_day = record { uses = seven.uses; minutes = [] }

without_day : is_before no_day (entry 21123361 Driver false Driving) ≡ true
without_day = refl

-- of a day that stands twice the first decides
abbrev twice : Against
twice = record { uses = seven.uses; minutes = alone 21123361 Work ∷ alone 21123361 Driving ∷ [] }

first_decides : stands twice (entry 21123361 Driver false Work) ≡ true
first_decides = refl

second_not : stands twice (entry 21123361 Driver false Driving) ≡ false
second_not = refl

-- both tested entries stand; with another activity the second is the first that does not
abbrev both : List Entry
both = entry 21123360 Driver false Rest ∷ entry 21123361 Driver false Driving ∷ entry 21123500 Driver false Rest ∷ []

yes_row : IsMatch seven both (Yes 2 1 0)
yes_row = record { met = (λ is. refl, (λ is. refl, (λ is. cc, tt))); tested_are = refl; other_are = refl; before_are = refl }

abbrev changed : List Entry
changed = entry 21123360 Driver false Rest ∷ entry 21123361 Driver false Work ∷ []

no_row : IsMatch seven changed (No 21123361 Driver)
no_row =
    record {
      before = entry 21123360 Driver false Rest ∷ [];
      entry = entry 21123361 Driver false Work;
      behind = [];
      here = refl;
      met = (λ is. refl, tt);
      tested = refl;
      missed = refl;
      minute_is = refl;
      slot_is = refl;
    }

-- ---- all that differs

abbrev how : Slot → Activity → Instead → Difference
how slot act instead = record { slot = slot; act = act; instead = instead }

abbrev at : ℕ → Difference → Viewed Difference
at minute d = record { minute = minute; shown = d }

abbrev run : ℕ → ℕ → Difference → Line Difference
run first last d = record { first = first; last = last; shown = d }

-- another activity; the other crew alone; no card in the slot; no such minute; an entry that stands
differs_act : differences seven (entry 21123361 Driver false Work ∷ []) ≡ at 21123361 (how Driver Work (Doing Driving)) ∷ []
differs_act = refl

differs_crew : differences seven (entry 21123361 Driver true Driving ∷ []) ≡ at 21123361 (how Driver Driving (Crew false)) ∷ []
differs_crew = refl

differs_slot : differences seven (entry 21123361 CoDriver false Driving ∷ []) ≡ at 21123361 (how CoDriver Driving NoCard) ∷ []
differs_slot = refl

differs_absent : differences seven (entry 21123410 Driver false Rest ∷ []) ≡ at 21123410 (how Driver Rest NoMinute) ∷ []
differs_absent = refl

differs_not : differences seven (entry 21123361 Driver false Driving ∷ []) ≡ []
differs_not = refl

-- minutes in a row that differ in the same way are one run; a minute between, another way and another slot are not
one_run : lines_of same_difference (differences seven (entry 21123410 Driver false Rest ∷ entry 21123411 Driver false Rest ∷ [])) ≡ run 21123410 21123411 (how Driver Rest NoMinute) ∷ []
one_run = refl

a_minute_between : lines_of same_difference (differences seven (entry 21123410 Driver false Rest ∷ entry 21123412 Driver false Rest ∷ []))
    ≡ run 21123410 21123410 (how Driver Rest NoMinute) ∷ run 21123412 21123412 (how Driver Rest NoMinute) ∷ []
a_minute_between = refl

another_way : lines_of same_difference (differences seven (entry 21123410 Driver false Rest ∷ entry 21123411 Driver false Work ∷ []))
    ≡ run 21123410 21123410 (how Driver Rest NoMinute) ∷ run 21123411 21123411 (how Driver Work NoMinute) ∷ []
another_way = refl

-- the words
words_of_act : difference_words (how Driver Work (Doing Rest)) ≡ codes "driver card=work unit=rest"
words_of_act = refl

words_of_crew : difference_words (how CoDriver Driving (Crew false)) ≡ codes "codriver card=drive,crew unit=drive,single"
words_of_crew = refl

words_of_none : difference_words (how Driver Rest NoMinute) ≡ codes "driver card=rest unit=none"
words_of_none = refl

words_of_out : difference_words (how Driver Available NoCard) ≡ codes "driver card=available unit=out"
words_of_out = refl
