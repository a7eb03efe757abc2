use Rattle.std.proofs.Common.{◌≡◌, ◌++◌, ◌-◌, length}
use Rattle.file_extract.specs.OddDays.{places_back}
use Rattle.file_extract.proofs.odd_days.places_back.Given as goal

-- the places so far, and those to come
abbrev pub invariant-loop-day : goal.invariant-loop-day
invariant-loop-day l = l.places.items ++ places_back (l.most - l.day) (length l.string) l.place l.string ≡ places_back l.most (length l.string) l.newest l.string

abbrev pub decreases-loop-day : goal.decreases-loop-day
decreases-loop-day l = l.most - l.day
