use Rattle.std.proofs.Common.{◌≡◌, ◌+◌, ◌*◌, None, List, drop}
use Rattle.card_image.specs.card_model.Days.{Day}
use Rattle.card_image.specs.card_model.Image.{oldest_pointer}
use Rattle.card_validity.specs.Walks.{IsMet}
use Rattle.card_validity.proofs.Rising.{rising_after}
use Rattle.card_validity.proofs.words.first_not_later.Given as goal

-- what the words from here on tell is what all of them tell
abbrev pub invariant-loop-index : goal.invariant-loop-index
invariant-loop-index l =
    (older : List Day) (d : Day) → IsMet l.days.shape l.image older d l.met
    → rising_after l.days.shape.size (oldest_pointer l.days.shape l.image) (l.met.so_far + 12) l.limit None d.words
    ≡ rising_after l.days.shape.size (oldest_pointer l.days.shape l.image) (l.met.so_far + 12 + 2 * l.index) l.limit l.before (drop l.index d.words)
