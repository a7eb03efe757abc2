use Rattle.std.proofs.Common.{◌+◌, List, ◌++◌, take}
use Rattle.card_image.specs.card_model.Days.{Day}
use Rattle.card_image.specs.card_model.Image.{oldest_pointer}
use Rattle.card_image.specs.Judging.{PlacedWord, words_placed}
use Rattle.card_validity.specs.Walks.{IsMet}
use Rattle.card_validity.specs.Words.{IsBehind}
use Rattle.card_validity.proofs.walk.see_words.Given as goal

-- the words so far were seen
abbrev pub invariant-loop-index : goal.invariant-loop-index
invariant-loop-index l =
    (older : List Day) (d : Day) → IsMet l.days.shape l.image older d l.met → (ws : List PlacedWord) → IsBehind l.mark ws l.fn.behind
    → IsBehind l.mark (ws ++ words_placed l.days.shape.size (oldest_pointer l.days.shape l.image) (l.met.so_far + 12) d.date (take l.index d.words)) l.seen
