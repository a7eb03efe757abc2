use Rattle.std.proofs.Common.{◌≡◌, ◌+◌, refl, arith, vec_len}
use Rattle.card_layout.specs.Files.{files_of, image_size_of}
use Rattle.card_files.specs.NewCard.{new_total}
use Rattle.card_files.proofs.NewCardLemmas.{new_total-files_of}
use Rattle.card_files.proofs.new_card.blank_card.Goals as goal

pub loop-file-init : goal.loop-file-init
loop-file-init c =
    let sum : vec_len c.in_ok-image.image + new_total (files_of c.args.app.now) ≡ image_size_of c.args.app.now = omega (arith, c.in_ok-image.ensures.len, new_total-files_of c.args.app.now) in
    (rw (c.in_ok-image.ensures.items, c.files-file-items.ensures.table) refl, rw c.files-file-items.ensures.table sum)
