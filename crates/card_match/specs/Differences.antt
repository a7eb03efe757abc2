-- Which entries of a card file differ from a unit file, and how (profile).
use Rattle.std.specs.Prelude.{◌≡◌, ◌&&◌, not, Bool, true, false, Option, Some, None, List, [], ◌∷◌, if◌then◌else◌}
use Rattle.std.specs.Prelude.{map, filter, count_by}
use Rattle.activity_codec.specs.Activity.{same_slot, same_activity}
use Rattle.activity_codec.specs.declared.entries.Entry.{Entry}
use Rattle.activity_codec.specs.declared.values.Activity.{Activity}
use Rattle.view_model.specs.declared.State.{State}
use Rattle.view_model.specs.declared.Viewed.{Viewed}
use Rattle.view_model.specs.declared.Line.{Line}
use Rattle.view_model.specs.Lines.{same_bool, lines_of}
use Rattle.unit_model.specs.Days.{UnitMinute}
use Rattle.card_match.specs.Matching.{Against, minute_at, state_in, is_other, is_before, is_tested, stands}
use Rattle.card_match.specs.declared.difference.Instead.{Instead}
use Rattle.card_match.specs.declared.difference.Instead.TheVariants.{NoMinute, NoCard, Doing, Crew}
use Rattle.card_match.specs.declared.difference.Difference.{Difference}
use Rattle.card_match.specs.declared.verdict.Counts.{Counts}
use Rattle.card_match.specs.declared.verdict.Differences.{Differences}
use Rattle.card_match.specs.declared.verdict.Matched.{Matched}
use Rattle.card_match.specs.declared.verdict.Matched.TheVariants.{Yes, No}

-- what a slot of the unit's minute has in place of an activity: no card; another activity; or the same, with this crew
abbrev pub instead_in : Activity → State → (crew : Bool) → Instead
instead_in act s crew = if s.present then (if same_activity s.act act then Crew crew else Doing s.act) else NoCard

-- what the unit file has in place of an entry, by its minute, if it has that
abbrev pub instead_of : Entry → Option UnitMinute → Instead
instead_of e None = NoMinute
instead_of e (Some m) = instead_in e.act (state_in e.slot m) m.crew

-- an entry differs: it is tested, and does not stand
abbrev pub differs : Against → Entry → Bool
differs a e = is_tested a e && not (stands a e)

-- how an entry differs
abbrev pub difference_of : Against → Entry → Viewed Difference
difference_of a e = record {
  minute = e.minute;
  shown = record { slot = e.slot; act = e.act; instead = instead_of e (minute_at a.minutes e.minute) };
}

-- the entries that differ, each as it does
abbrev pub differences : Against → List Entry → List (Viewed Difference)
differences a entries = map (difference_of a) (filter (differs a) entries)

-- the unit file has the same in place of two entries
abbrev pub same_instead : Instead → Instead → Bool
same_instead NoMinute NoMinute = true
same_instead NoCard NoCard = true
same_instead (Doing a) (Doing b) = same_activity a b
same_instead (Crew a) (Crew b) = same_bool a b
same_instead _ _ = false

-- two entries differ in the same way
abbrev pub same_difference : Difference → Difference → Bool
same_difference a b = same_slot a.slot b.slot && same_activity a.act b.act && same_instead a.instead b.instead

-- so many entries are tested, other, before
pub record AreCounted (a : Against) (entries : List Entry) (c : Counts) : Type 0 where
  pub tested_are : c.tested ≡ count_by (is_tested a) entries
  pub other_are : c.other ≡ count_by (is_other a) entries
  pub before_are : c.before ≡ count_by (is_before a) entries

-- THE ANSWER THAT TELLS ALL: the runs of consecutive minutes within a day of which the entries differ in the same way,
-- and the counts
pub record AreDifferences (a : Against) (entries : List Entry) (all : Differences) : Type 0 where
  pub runs_are : all.runs.items ≡ lines_of same_difference (differences a entries)
  pub counts_are : AreCounted a entries all.counts

-- the answer to a match by all differences: the first of them, or the counts where there is none
abbrev pub first_in : List (Line Difference) → Counts → Matched
first_in [] c = Yes c.tested c.other c.before
first_in (run ∷ runs) c = No run.first run.shown.slot

-- the answer to a match by all that differs and the counts
abbrev pub first_of : Differences → Matched
first_of all = first_in all.runs.items all.counts
