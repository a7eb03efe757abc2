use Rattle.file_view.proofs.Deciding.{none_kept}
use Rattle.file_view.proofs.day_words.DayWords.new.Goals as goal

pub returns : goal.returns
returns c = none_kept
