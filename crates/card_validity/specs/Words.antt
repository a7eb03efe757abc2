-- What a walk tells of the words of the days that it met.
use Rattle.std.specs.Prelude.{◌≡◌, ℕ, suc, ◌%◌, Bool, true, false, not, ◌&&◌, Option, Some, None, List, [], ◌∷◌}
use Rattle.std.specs.Prelude.{◌++◌, map, filter, nat_eq, nat_le, nat_lt, if◌then◌else◌}
use Rattle.card_image.specs.card_model.Days.{Day}
use Rattle.card_image.specs.card_model.Image.{StringShape, oldest_pointer}
use Rattle.card_image.specs.card_model.Changes.{date_of, until}
use Rattle.card_image.specs.card_model.Checks.{Check, check, first_failing}
use Rattle.card_image.specs.Fields.{last_of}
use Rattle.card_image.specs.Judging.{PlacedWord, minute_at, tells_none, days_placed}
use Rattle.card_validity.specs.declared.behind.Behind.{Behind}
use Rattle.card_validity.specs.declared.behind.First.{First}
use Rattle.card_validity.specs.declared.walk.Walked.{Walked}
use Rattle.card_validity.specs.Walks.{IsLastOf}

-- the words up to the mark
abbrev pub up_to : (mark : ℕ) → List PlacedWord → List PlacedWord
up_to mark ws = filter (λ w. nat_le (minute_at w) mark) ws

-- the words behind the mark
abbrev pub beyond : (mark : ℕ) → List PlacedWord → List PlacedWord
beyond mark ws = filter (λ w. nat_lt mark (minute_at w)) ws

-- the latest word up to the mark is an entry's and lies in the mark's day
abbrev pub is_left_open : (mark : ℕ) → Option PlacedWord → Bool
is_left_open mark None = false
is_left_open mark (Some w) = nat_eq w.date (date_of mark) && not (tells_none w)

-- what is kept of the first word behind the mark
abbrev pub first_by : (mark : ℕ) → PlacedWord → First
first_by mark w = record { absent = tells_none w; apart = not (nat_eq (minute_at w) (suc mark)); place = w.place }

-- the words behind the first are those of no card
abbrev pub others_checks : List PlacedWord → List Check
others_checks ws = map (λ v. check (tells_none v) v.place) ws

-- the first failing check, with one check more
abbrev pub with_check : Option ℕ → (passes : Bool) → (place : ℕ) → Option ℕ
with_check None passes place = if passes then None else Some place
with_check (Some p) passes place = Some p

-- what is kept of the first word behind the mark, with one word more
abbrev pub first_after : (mark : ℕ) → Option First → PlacedWord → Option First
first_after mark None w = Some (first_by mark w)
first_after mark (Some f) w = Some f

-- the place of the first of the words behind that one that is an entry's, with one word more
abbrev pub bad_after : Option First → Option ℕ → PlacedWord → Option ℕ
bad_after None bad w = bad
bad_after (Some f) bad w = with_check bad (tells_none w) w.place

-- what was seen, with one word more
abbrev pub seen_by : (mark : ℕ) → Behind → PlacedWord → Behind
seen_by mark b w =
    if nat_le (minute_at w) mark then record { unclosed = is_left_open mark (Some w); first = b.first; bad = b.bad }
    else record { unclosed = b.unclosed; first = first_after mark b.first w; bad = bad_after b.first b.bad w }

-- the place of the first that is bad, by what was seen of all
abbrev pub answer_by : (unclosed : Bool) → Option First → Option ℕ → Option ℕ
answer_by unclosed None bad = None
answer_by unclosed (Some f) bad = if f.absent && not (unclosed && f.apart) then bad else Some f.place

-- this is kept of the words behind the mark: the first of them, and the first of the others that is an entry's
abbrev pub AreBehind : (mark : ℕ) → List PlacedWord → Option First → Option ℕ → Type 0
AreBehind mark [] first bad = (first ≡ None) × (bad ≡ None)
AreBehind mark (w ∷ ws) first bad = (first ≡ Some (first_by mark w)) × (bad ≡ first_failing (others_checks ws))

-- what is kept of these words: what the mark leaves open, and what stands behind it
pub record IsBehind (mark : ℕ) (ws : List PlacedWord) (b : Behind) : Type 0 where
  pub unclosed : b.unclosed ≡ is_left_open mark (last_of (up_to mark ws))
  pub behind : AreBehind mark (beyond mark ws) b.first b.bad

-- whether a day later than the mark's was met, behind which no day counts
abbrev pub IsPast : (date : ℕ) → List Day → Bool → Type 0
IsPast date ds true = (more : List Day) → until date (ds ++ more) ≡ until date ds
IsPast date ds false = until date ds ≡ ds

-- what a walk over these days has found
pub record HasMet (r : StringShape) (x : List ℕ) (mark : ℕ) (ds : List Day) (w : Walked) : Type 0 where
  pub behind : IsBehind mark (days_placed r.size (oldest_pointer r x) 0 ds) w.behind
  pub past : IsPast (date_of mark) ds w.past
  pub cut : IsLastOf r x (until (date_of mark) ds) w.cut
  pub newest : IsLastOf r x ds w.newest

-- a minute is later than the one before it, if there is one
abbrev pub passes_after : Option ℕ → ℕ → Bool
passes_after None minute = true
passes_after (Some earlier) minute = nat_lt earlier minute

-- the first of two, if there is one
abbrev pub first_of : Option ℕ → Option ℕ → Option ℕ
first_of None o = o
first_of (Some p) o = Some p

-- up to which minute a day counts that is not later than the mark's: the mark's own up to the mark
abbrev pub limit_of : (mark date : ℕ) → ℕ
limit_of mark date = if nat_eq date (date_of mark) then mark % 1440 else 2047
