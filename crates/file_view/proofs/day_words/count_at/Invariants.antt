use Rattle.std.proofs.Common.{◌-◌, ◌<◌, ◌≤◌, length, get_or}
use Rattle.activity_codec.specs.Words.{word_minute}
use Rattle.file_view.proofs.day_words.count_at.Given as goal

-- the word before the place is not later
abbrev pub invariant-loop-count : goal.invariant-loop-count
invariant-loop-count l = record {
  most : l.count ≤ length l.words;
  before : 0 < l.count → word_minute (get_or l.words (l.count - 1) 0) ≤ l.minute;
}

abbrev pub decreases-loop-count : goal.decreases-loop-count
decreases-loop-count l = length l.words - l.count
