-- Worked rows: of the expected days, and of a day that was begun and holds no entry.
use Rattle.std.proofs.Common.{◌≡◌, inl, inr, ℕ, ◌*◌, true, false, None, [], ◌∷◌, refl, arith}
use Rattle.activity_codec.specs.declared.entries.Entry.{Entry}
use Rattle.activity_codec.specs.declared.values.Slot.TheVariants.{Driver}
use Rattle.activity_codec.specs.declared.values.Activity.{Activity}
use Rattle.activity_codec.specs.declared.values.Activity.TheVariants.{Rest, Work}
use Rattle.card_model.specs.Days.{Day}
use Rattle.card_model.specs.Changes.{trimmed}
use Rattle.card_retention.specs.Expected.{WordDay, Counted, counted, expected_days}
use Rattle.card_retention.specs.Shown.{sizes}
use Rattle.card_retention.specs.Retains.{begun_on, HasBegun, CardRetains}

abbrev at : ℕ → Activity → Entry
at minute act = record { minute = minute; slot = Driver; crew = false; act = act }

abbrev blank : Counted
blank = record { days = []; before = None }

-- 2010-03-01 (day 14669), 10:00 and 10:01 rest, 10:03 work: the day's first word, rest, the gap, work, and the word that will close it
gap_row : expected_days 0 99999999 (counted 0 blank (at 21123960 Rest ∷ at 21123961 Rest ∷ at 21123963 Work ∷ [])) ≡ record { day = 14669; words = 5 } ∷ []
unfolding counted
gap_row = refl

-- the next entry goes on at once: no closing word counts yet
open_row : expected_days 0 21123964 (counted 0 blank (at 21123960 Rest ∷ at 21123961 Rest ∷ at 21123963 Work ∷ [])) ≡ record { day = 14669; words = 4 } ∷ []
unfolding counted
open_row = refl

-- 23:59 and 00:00: one word, as the day begins with the entry; no closing word behind 23:59
midnight_row : expected_days 0 21124801 (counted 0 blank (at 21124799 Rest ∷ at 21124800 Rest ∷ [])) ≡ record { day = 14669; words = 2 } ∷ record { day = 14670; words = 1 } ∷ []
unfolding counted
midnight_row = refl

-- 23:58: a closing word counts behind it where the next entry is late, and none where it may come at once
late_row : expected_days 0 99999999 (counted 0 blank (at 21124798 Rest ∷ [])) ≡ record { day = 14669; words = 3 } ∷ []
unfolding counted
late_row = refl

next_row : expected_days 0 21124799 (counted 0 blank (at 21124798 Rest ∷ [])) ≡ record { day = 14669; words = 2 } ∷ []
unfolding counted
next_row = refl

-- so an entry may bring a word less: at 23:59 the state goes on, and nothing closes it
last_row : expected_days 0 99999999 (counted 0 blank (at 21124798 Rest ∷ at 21124799 Rest ∷ [])) ≡ record { day = 14669; words = 2 } ∷ []
unfolding counted
last_row = refl

-- A DAY THAT WAS BEGUN. A day that begins with a word of no card, and one with so many words.
abbrev day_of : ℕ → Day
day_of n = record { date = n * 86400; counter = n; km = 0; words = 8192 ∷ [] }

abbrev words_of : (day words : ℕ) → WordDay
words_of day words = record { day = day; words = words }

-- The end mark is at the third minute of day 3, which the string does not have, and an entry of the fifth begins that day: a repair
-- leaves its first word.
begun_row : sizes (trimmed 4322 (day_of 1 ∷ day_of 2 ∷ record { date = 3 * 86400; counter = 3; km = 0; words = 8192 ∷ 4100 ∷ [] } ∷ [])) ≡ words_of 1 1 ∷ words_of 2 1 ∷ begun_on 3 ∷ []
begun_row = refl

-- the string keeps the rule, of a start whose days were 1 and 2
begun_retains : CardRetains 5544 16 3 (words_of 1 1 ∷ words_of 2 1 ∷ []) [] (words_of 1 1 ∷ words_of 2 1 ∷ begun_on 3 ∷ []) []
begun_retains = record {
  gone = [];
  there = words_of 1 1 ∷ words_of 2 1 ∷ [];
  split = refl;
  covers = inr (record {
    older = words_of 1 1 ∷ words_of 2 1 ∷ [];
    newest = refl;
    before = (omega arith, (omega arith, tt));
    covers = inl (record { day = refl; words = omega arith }, inl (record { day = refl; words = omega arith }, tt));
    further = refl;
    empty = refl;
  });
  full = tt;
  some = λ _. refl;
  oldest = 0;
  low = tt;
  high = (omega arith, (omega arith, tt));
  none = λ _. refl;
  entries = refl;
}

-- of a day that an entry brought the first word alone does not
lost_row : HasBegun 3 (words_of 3 2 ∷ []) [] (at 4324 Work ∷ []) (begun_on 3 ∷ []) → ⊥
lost_row b = no b.further
  where
    no : true ≡ false → ⊥
    no is = cc
