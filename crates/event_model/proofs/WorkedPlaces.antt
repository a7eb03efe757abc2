-- Worked places of events, computed on the definitions.
use Rattle.std.proofs.Common.{◌≡◌, ℕ, ◌+◌, Some, None, List, [], ◌∷◌, refl, replicate}
use Rattle.event_model.specs.declared.entries.Held.{Held}
use Rattle.event_model.specs.Places.{earliest, place_of, day_place, similar_after, noted}

-- an event of so many seconds, with an average
abbrev lasting : (begin seconds weight : ℕ) → Held
lasting begin seconds weight = record { begin = begin; end = begin + seconds; weight = weight }

abbrev nothing : Held
nothing = record { begin = 0; end = 0; weight = 0 }

-- ten events of days 1 to 10
abbrev ten_days : List Held
ten_days = lasting 86400 5 1 ∷ lasting 172800 5 2 ∷ lasting 259200 5 3 ∷ lasting 345600 5 4 ∷ lasting 432000 5 5 ∷ lasting 518400 5 6
    ∷ lasting 604800 5 7 ∷ lasting 691200 5 8 ∷ lasting 777600 5 9 ∷ lasting 864000 5 10 ∷ []

abbrev two_of_ten : List Held
two_of_ten = lasting 86400 5 1 ∷ lasting 172800 5 2 ∷ replicate 8 nothing

-- an empty place before all others, the lowest first
first_empty_place : place_of 0x01 two_of_ten (lasting 172800 0 0) ≡ Some 2
first_empty_place = refl

-- the most recent: the earliest goes, and an event that begins no later than all held ones is not kept
earliest_goes : place_of 0x06 ten_days (lasting 86401 0 0) ≡ Some 0
earliest_goes = refl

equal_begin_stays : place_of 0x06 ten_days (lasting 86400 9 0) ≡ None
equal_begin_stays = refl

-- the longest of a day: it keeps its place, and of equals the held one stays
longer_one : place_of 0x04 ten_days (lasting 345610 6 0) ≡ Some 3
longer_one = refl

equal_length_stays : place_of 0x04 ten_days (lasting 345610 5 0) ≡ None
equal_length_stays = refl

-- it counts as similar all the same
counts_as_similar : day_place 0x04 ten_days (lasting 345610 5 0) ≡ Some 3
counts_as_similar = refl

similar_rises : similar_after (Some 7) ≡ 8
similar_rises = refl

similar_ends_at_255 : similar_after (Some 255) ≡ 255
similar_ends_at_255 = refl

-- the last of a day, the highest average of a day
last_of_a_day : place_of 0x05 ten_days (lasting 345601 0 0) ≡ Some 3
last_of_a_day = refl

highest_average : place_of 0x07 ten_days (lasting 345601 61 5) ≡ Some 3
highest_average = refl

lower_average : place_of 0x07 ten_days (lasting 345601 900 4) ≡ None
lower_average = refl

-- a new day takes the place of the earliest one, where it is later
eleventh_day : place_of 0x07 ten_days (lasting 950400 61 1) ≡ Some 0
eleventh_day = refl

earlier_day : place_of 0x07 (lasting 950400 5 1 ∷ noted 0x07 ten_days (lasting 950400 61 1)) (lasting 86400 61 99) ≡ None
earlier_day = refl

-- on a card: an empty place, else the earliest begin, of equals the lowest place
on_a_card : earliest (λ begin. begin) (5 ∷ 3 ∷ 4 ∷ 3 ∷ []) ≡ Some 1
on_a_card = refl

empty_on_a_card : earliest (λ begin. begin) (5 ∷ 0 ∷ 4 ∷ 0 ∷ []) ≡ Some 1
empty_on_a_card = refl
