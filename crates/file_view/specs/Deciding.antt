-- Which change of a day decides a minute, as the words come from the last to the first.
use Rattle.std.specs.Prelude.{◌≡◌, ℕ, ◌<◌, ◌≤◌, option_map, List, drop}
use Rattle.activity_codec.specs.Words.{change_of}
use Rattle.card_retention.specs.Entries.{latest}
use Rattle.file_view.specs.declared.day_words.DayWords.{DayWords}
use Rattle.file_view.specs.declared.day_words.Run.{Run}
use Rattle.file_view.specs.Kept.{AreKept}

-- the words that came are these
abbrev pub Decides : DayWords → List ℕ → Type 0
Decides d words = AreKept (drop d.from d.words) d.first words

-- the change of the last of these words, in their order, that is not later is the same for each minute of a run, which
-- lies in the day
pub record IsRun (words : List ℕ) (minute : ℕ) (run : Run) : Type 0 where
  pub each : (t : ℕ) → minute ≤ t → t < run.end → option_map change_of (latest words t) ≡ run.change
  pub inside : run.end ≤ 1440
