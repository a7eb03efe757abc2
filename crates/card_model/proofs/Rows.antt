-- Worked rows of the string, by computation.
use Rattle.std.proofs.Common.{◌≡◌, ◌*◌, ℕ, List, [], ◌∷◌, ◌++◌, Some, None, drop, refl, replicate}
use Rattle.card_model.specs.Days.{Day}
use Rattle.card_model.specs.Image.{StringShape}
use Rattle.card_model.specs.Walk.{days_of}
use Rattle.card_model.specs.Checks.{first_bad}

abbrev pub small : StringShape
small = record { base = 0; size = 42 }

abbrev pub whole : StringShape
whole = record { base = 0; size = 5544 }

abbrev pub day : ℕ → List ℕ → Day
day n words = record { date = 86400 * n; counter = n; km = 0; words = words }

-- a day begun at place 5538 has its date at places 5542, 5543, 0 and 1
abbrev pub across : List ℕ
across = 0x15 ∷ 0xA2 ∷ 0x15 ∷ 0xA2 ∷ 0x03 ∷ 0x80 ∷ 0 ∷ 1 ∷ 0 ∷ 0 ∷ 0 ∷ 0 ∷ replicate 5530 0 ++ 0 ∷ 0 ∷ 0 ∷ 0x0E ∷ 0x4B ∷ 0x8B ∷ []

abbrev pub first_day : Day
first_day = record { date = 1267401600; counter = 1; km = 0; words = 0 ∷ [] }

across_days : days_of whole across ≡ first_day ∷ []
unfolding days_of
across_days = refl

-- the writes of `begin_day` on an empty string leave it, and before the length stands there is no day
abbrev pub empty_at_end : List ℕ
empty_at_end = 0x15 ∷ 0xA2 ∷ 0x15 ∷ 0xA2 ∷ replicate 5544 0

before_any : days_of whole empty_at_end ≡ []
unfolding days_of
before_any = refl

-- a string full of days of 14 bytes, here three in 42 bytes, takes a word: the oldest is dropped, and the word stands at places 0 and 1
abbrev pub three_days : List ℕ
three_days = 0 ∷ 0 ∷ 0 ∷ 28 ∷
    0 ∷ 0 ∷ 0 ∷ 14 ∷ 0 ∷ 1 ∷ 0x51 ∷ 0x80 ∷ 0 ∷ 1 ∷ 0 ∷ 0 ∷ 0 ∷ 0 ∷
    0 ∷ 14 ∷ 0 ∷ 14 ∷ 0 ∷ 2 ∷ 0xA3 ∷ 0x00 ∷ 0 ∷ 2 ∷ 0 ∷ 0 ∷ 0 ∷ 0 ∷
    0 ∷ 14 ∷ 0 ∷ 14 ∷ 0 ∷ 3 ∷ 0xF4 ∷ 0x80 ∷ 0 ∷ 3 ∷ 0 ∷ 0 ∷ 0 ∷ 0 ∷ []

abbrev pub two_days : List ℕ
two_days = 0 ∷ 14 ∷ 0 ∷ 28 ∷
    0x18 ∷ 5 ∷ 0 ∷ 14 ∷ 0 ∷ 1 ∷ 0x51 ∷ 0x80 ∷ 0 ∷ 1 ∷ 0 ∷ 0 ∷ 0 ∷ 0 ∷
    0 ∷ 0 ∷ 0 ∷ 14 ∷ 0 ∷ 2 ∷ 0xA3 ∷ 0x00 ∷ 0 ∷ 2 ∷ 0 ∷ 0 ∷ 0 ∷ 0 ∷
    0 ∷ 14 ∷ 0 ∷ 16 ∷ 0 ∷ 3 ∷ 0xF4 ∷ 0x80 ∷ 0 ∷ 3 ∷ 0 ∷ 0 ∷ 0 ∷ 0 ∷ []

three : days_of small three_days ≡ day 1 (0 ∷ []) ∷ day 2 (0 ∷ []) ∷ day 3 (0 ∷ []) ∷ []
unfolding days_of
three = refl

two : days_of small two_days ≡ day 2 (0 ∷ []) ∷ day 3 (0 ∷ 0x1805 ∷ []) ∷ []
unfolding days_of
two = refl

-- each of them passes all checks
across_passes : first_bad whole across ≡ None
unfolding first_bad
across_passes = refl

empty_passes : first_bad whole empty_at_end ≡ None
unfolding first_bad
empty_passes = refl

three_pass : first_bad small three_days ≡ None
unfolding first_bad
three_pass = refl

two_pass : first_bad small two_days ≡ None
unfolding first_bad
two_pass = refl

-- a card of one hour: a day with a word at minute 1
abbrev one_hour : (length_low word_high word_low : ℕ) → List ℕ
one_hour length_low word_high word_low =
    0 ∷ 0 ∷ 0 ∷ 0 ∷ 0 ∷ 0 ∷ 0 ∷ length_low ∷ 0x4B ∷ 0x8B ∷ 0x03 ∷ 0x80 ∷ 0 ∷ 1 ∷ 0 ∷ 0x2F ∷ word_high ∷ word_low ∷ 0x18 ∷ 0x01 ∷ replicate 26 0

hour_days : days_of small (one_hour 0x10 0 0) ≡ record { date = 1267401600; counter = 1; km = 47; words = 0 ∷ 0x1801 ∷ [] } ∷ []
unfolding days_of
hour_days = refl

hour_passes : first_bad small (one_hour 0x10 0 0) ≡ None
unfolding first_bad
hour_passes = refl

-- a length of 12, and a first word at minute 1440
short_length : first_bad small (one_hour 0x0C 0 0) ≡ Some 6
unfolding first_bad
short_length = refl

late_word : first_bad small (one_hour 0x10 0x05 0xA0) ≡ Some 16
unfolding first_bad
late_word = refl

-- pointers at the end of the string, and odd ones
past_end : first_bad small (0 ∷ 42 ∷ replicate 44 0) ≡ Some 0
unfolding first_bad
past_end = refl

both_odd : first_bad small (0 ∷ 3 ∷ replicate 44 0) ≡ Some 0
unfolding first_bad
both_odd = refl

newest_odd : first_bad small (0 ∷ 0 ∷ 0 ∷ 3 ∷ replicate 42 0) ≡ Some 2
unfolding first_bad
newest_odd = refl

-- a newest pointer inside a day
inside_day : first_bad small (0 ∷ 0 ∷ 0 ∷ 26 ∷ drop 4 three_days) ≡ Some 2
unfolding first_bad
inside_day = refl
