use Rattle.std.proofs.Common.{◌≡◌, true}
use Rattle.unit_model.specs.Image.{words_at}
use Rattle.unit_messages.specs.Parts.{are_words}
use Rattle.unit_messages.proofs.reading.are_words.Given as goal

abbrev pub invariant-loop-nth : goal.invariant-loop-nth
invariant-loop-nth l = are_words (words_at l.b l.place l.nth) ≡ true
