use Rattle.std.proofs.Common.{◌≡◌, ◌+◌, ◌-◌, ◌∙◌, ℕ, take, drop, ap, arith}
use Rattle.card_layout.specs.Files.{size_of}
use Rattle.card_files.specs.CurrentUses.{current_use_of}
use Rattle.card_image.specs.Fields.{file, current_use}
use Rattle.card_validity.proofs.Places.{use_file}
use Rattle.card_validity.proofs.files.current_use.Goals as goal

pub slice_bounds-read_current_use-end : goal.slice_bounds-read_current_use-end
slice_bounds-read_current_use-end c = omega (arith, use_file c.args.app.now, c.file_of-place.ensures.len, c.file_of-place.ensures.inside, c.requires.inside)

pub returns : goal.returns
unfolding current_use
returns c =
    let x = c.args.image.now in
    let p = c.file_of-place.result.base in
    let len : p + 19 - p ≡ size_of c.args.app.now (file 0x0507) = omega (arith, use_file c.args.app.now) in
    c.read_current_use.ensures.value
    ∙ ap (λ (n : ℕ). current_use_of (take n (drop p x))) len
    ∙ ap (λ (q : ℕ). current_use_of (take (size_of c.args.app.now (file 0x0507)) (drop q x))) c.file_of-place.ensures.base
