-- The words that a minute writes.
use Rattle.std.specs.Prelude.{ℕ, List, [], ◌∷◌, ◌++◌, ◌==◌, if◌then◌else◌}
use Rattle.unit_model.specs.Days.{word_by, bare}

-- the word that a slot's new state brings
abbrev pub change : (slot minute old new : ℕ) → List ℕ
change slot minute old new = if old == new then [] else word_by slot new minute ∷ []

-- the words that the new states of both slots bring, the driver's first
abbrev pub changes : (minute driver codriver driver' codriver' : ℕ) → List ℕ
changes minute driver codriver driver' codriver' = change 0 minute driver driver' ++ change 1 minute codriver codriver'

-- the words that a minute brings on a day whose minutes below `next` are there: in a gap nothing is known
abbrev pub new_words : (next minute driver codriver driver' codriver' : ℕ) → List ℕ
new_words next minute driver codriver driver' codriver' =
    if next == minute
    then changes minute driver codriver driver' codriver'
    else changes next driver codriver bare bare ++ changes minute bare bare driver' codriver'

-- the words that close a day behind its last-kept minute, where a later day goes on
abbrev pub closing_words : (next driver codriver : ℕ) → List ℕ
closing_words next driver codriver = if next == 1440 then [] else changes next driver codriver bare bare

-- the first two words of a new day, whose first kept minute this is: the states of both slots at 00:00
abbrev pub first_states : (minute driver codriver : ℕ) → List ℕ
first_states minute driver codriver =
    if minute == 0 then word_by 0 driver 0 ∷ word_by 1 codriver 0 ∷ [] else word_by 0 bare 0 ∷ word_by 1 bare 0 ∷ []

-- and the words of that minute behind them, where it is later than 00:00
abbrev pub further_words : (minute driver codriver : ℕ) → List ℕ
further_words minute driver codriver = if minute == 0 then [] else changes minute bare bare driver codriver

-- a slot's state at 00:00 of a new day
abbrev pub first_state : (minute state : ℕ) → ℕ
first_state minute state = if minute == 0 then state else bare
