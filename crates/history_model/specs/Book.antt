-- The history of a run as its keeping unfolds (profile).
use Rattle.std.specs.Prelude.{◌≡◌, ◌⊎◌, ℕ, ◌<◌, Option, Some, None, List, [], ◌∷◌, ◌++◌, All, Contains, option_to_list}
use Rattle.history_model.specs.Minutes.{HistoryMinute, up_to}

-- the minutes that the unit has, the one that it may have, and what it might have had at a stop and lost
pub record Book : Type 0 where
  pub sure : List HistoryMinute
  pub maybe : Option HistoryMinute
  pub lost : List (List HistoryMinute)

-- all minutes that count: the sure ones, and behind them the one that may be there
abbrev pub all : Book → List HistoryMinute
all b = b.sure ++ option_to_list b.maybe

-- the book at the start of a run: no minute is kept or lost
abbrev pub not_begun : Book
not_begun = record { sure = []; maybe = None; lost = [] }

-- a minute is kept
abbrev pub kept : HistoryMinute → Book → Book
kept i b = record b { sure = b.sure ++ i ∷ []; maybe = None }

-- the keeping of a minute was broken off
abbrev pub broken : HistoryMinute → Book → Book
broken i b = record b { maybe = Some i }

-- at the next power-on this minute is found to be the last kept one
abbrev pub found : ℕ → Book → Book
found k b = record { sure = up_to k (all b); maybe = None; lost = all b ∷ b.lost }

-- a unit may have stood after these minutes: some from the front, or those with a lost one
abbrev pub IsReached : Book → List HistoryMinute → Type 0
IsReached b past = ((rest : List HistoryMinute) × (all b ≡ past ++ rest)) ⊎ Contains b.lost past

-- the minute that comes next after these, in all of them or as a lost one; or none
abbrev pub IsNext : Book → List HistoryMinute → Option HistoryMinute → Type 0
IsNext b past None = Unit {0}
IsNext b past (Some i) = IsReached b (past ++ i ∷ [])

-- the minutes rise, and are later than this one
abbrev pub Rising : ℕ → List HistoryMinute → Type 0
Rising first [] = Unit {0}
Rising first (i ∷ past) = (first < i.minute) × Rising i.minute past

-- the minutes rise between two
pub record Between (first due : ℕ) (past : List HistoryMinute) : Type 0 where
  pub rising : Rising first past
  pub until : All (λ i. i.minute < due) past

-- minutes that part from these: what they have beyond the parting is earlier than what comes there
pub record IsFork (past lost : List HistoryMinute) : Type 0 where
  pub front : List HistoryMinute
  pub rest : List HistoryMinute
  pub tail : List HistoryMinute
  pub goes : past ≡ front ++ rest
  pub parts : lost ≡ front ++ tail
  pub earlier : (i j : HistoryMinute) → Contains tail i → Contains rest j → i.minute < j.minute

-- all minutes, also with a lost one, rise, are later than the start's last and earlier than the next that may be
-- decided
pub record Ordered (first due : ℕ) (b : Book) : Type 0 where
  pub begins : first < due
  pub now : Between first due (all b)
  pub lost : All (Between first due) b.lost
  pub forks : All (IsFork (all b)) b.lost

-- the book follows the history (`minutes`) and the histories with a lost minute (`lost`) of the seconds so far
pub record Follows (minutes : List HistoryMinute) (with_lost : List (List HistoryMinute)) (b : Book) : Type 0 where
  pub front : (rest : List HistoryMinute) × (minutes ≡ all b ++ rest)
  pub each : (past : List HistoryMinute) → Contains b.lost past
      → ((rest : List HistoryMinute) × (minutes ≡ past ++ rest))
      ⊎ Contains with_lost past

-- a mark: the one at the start, or one of these minutes
abbrev pub IsMark : ℕ → List HistoryMinute → ℕ → Type 0
IsMark first past last = (last ≡ first) ⊎ ((i : HistoryMinute) × Contains past i × (i.minute ≡ last))

-- each history that was broken off stands in front of the sure minutes, or is one with a lost minute
abbrev pub AreLost : List (List HistoryMinute) → Book → Type 0
AreLost with_lost b = (past : List HistoryMinute) → Contains b.lost past →
    ((rest : List HistoryMinute) × (b.sure ≡ past ++ rest)) ⊎ Contains with_lost past
