-- The days that a card's entries bring, each with the number of its words.
use Rattle.std.specs.Prelude.{ℕ, suc, ◌+◌, ◌*◌, ◌/◌, ◌%◌, Bool, false, true, not, ◌&&◌, Option, Some, None, List, []}
use Rattle.std.specs.Prelude.{◌∷◌, ◌++◌, fold, nat_eq, nat_lt, if◌then◌else◌}
use Rattle.activity_codec.specs.declared.entries.Entry.{Entry}
use Rattle.activity_codec.specs.Activity.{same_slot, same_activity}

-- a day with the number of its words
pub record WordDay : Type 0 where
  pub day : ℕ
  pub words : ℕ

-- how many bytes its record has
abbrev pub size_of : WordDay → ℕ
size_of d = 12 + 2 * d.words

-- how many bytes the records of days have
abbrev pub size_all : List WordDay → ℕ
size_all [] = 0
size_all (d ∷ ds) = size_of d + size_all ds

-- a day with one word more
abbrev pub one_more : WordDay → WordDay
one_more d = record d { words = d.words + 1 }

-- one word more on the newest day
abbrev pub more : List WordDay → List WordDay
more [] = []
more (d ∷ []) = one_more d ∷ []
more (d ∷ e ∷ ds) = d ∷ more (e ∷ ds)

-- this is the newest day
abbrev pub is_newest : ℕ → List WordDay → Bool
is_newest day [] = false
is_newest day (d ∷ []) = nat_eq d.day day
is_newest day (d ∷ e ∷ ds) = is_newest day (e ∷ ds)

-- two truths are the same
abbrev pub same_bool : Bool → Bool → Bool
same_bool true b = b
same_bool false b = not b

-- an entry goes on with the state of the minute before
abbrev pub goes_on : Option Entry → Entry → Bool
goes_on None e = false
goes_on (Some p) e = nat_eq (suc p.minute) e.minute
    && (same_slot p.slot e.slot && (same_activity p.act e.act && same_bool p.crew e.crew))

-- Behind an entry a closing word counts where the next minute lies in its day, has no word of the start and comes
-- before the next entry.
abbrev pub is_closed : (covered : ℕ) → Entry → (next : ℕ) → Bool
is_closed covered p next = not (nat_eq (suc p.minute % 1440) 0)
    && (nat_lt covered (suc p.minute) && nat_lt (suc p.minute) next)

-- the days with that word, which stands in the newest
abbrev pub closes : (covered : ℕ) → Option Entry → (next : ℕ) → List WordDay → List WordDay
closes covered None next days = days
closes covered (Some p) next days = if is_closed covered p next then more days else days

-- the words that begin a day with an entry
abbrev pub first_words : ℕ → ℕ
first_words minute = if nat_eq (minute % 1440) 0 then 1 else 2

-- the words of an entry: those that begin its day, or one where its state is new
abbrev pub adds : Option Entry → Entry → List WordDay → List WordDay
adds before e days = if is_newest (e.minute / 1440) days then (if goes_on before e then days else more days) else days
    ++ record { day = e.minute / 1440; words = first_words e.minute } ∷ []

-- days with their words, and the entry that came last
pub record Counted : Type 0 where
  pub days : List WordDay
  pub before : Option Entry

-- one entry more; words of the start stand up to the minute `covered`
abbrev pub with_entry : (covered : ℕ) → Counted → Entry → Counted
with_entry covered c e = record { days = adds c.before e (closes covered c.before e.minute c.days); before = Some e }

-- these entries more, one after the other
unfoldable pub counted : (covered : ℕ) → Counted → List Entry → Counted
counted covered start es = fold (with_entry covered) start es

-- The days of the start and of these entries, where the next entry is not earlier than `next`.
abbrev pub expected_days : (covered next : ℕ) → Counted → List WordDay
expected_days covered next c = closes covered c.before next c.days
