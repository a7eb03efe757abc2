use Rattle.std.proofs.Common.{◌≡◌, ◌+◌, ◌++◌, drop, map, vec_len}
use Rattle.card_layout.specs.Fields.{joined}
use Rattle.card_layout.specs.Files.{image_size_of}
use Rattle.card_files.specs.NewCard.{new_card, new_contents, new_total}
use Rattle.card_files.proofs.new_card.blank_card.Given as goal

abbrev pub invariant-loop-file : goal.invariant-loop-file
invariant-loop-file l =
    (l.image.items ++ joined (map (new_contents l.identity l.app) (drop l.file-index l.file-items)) ≡ new_card l.identity l.app)
    × (vec_len l.image + new_total (drop l.file-index l.file-items) ≡ image_size_of l.app)
