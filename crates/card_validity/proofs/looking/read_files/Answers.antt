use Rattle.std.proofs.Common.{◌≡◌, ◌∙◌, ◌-◌, ◌≤◌, ℕ, length, take, drop, ap, arith, length-drop}
use Rattle.std.proofs.lemmas.List.{length-take-le}
use Rattle.tach_media.specs.Medium.{bytes_at}
use Rattle.card_layout.proofs.Sizes.{largest_image}
use Rattle.card_validity.proofs.Copies.{copied}
use Rattle.card_validity.proofs.Places.{files_ordered}
use Rattle.card_validity.proofs.Slices.{on_ok, told_one}
use Rattle.card_validity.proofs.looking.read_files.Goals as goal

pub returns-clause-copy : goal.returns-clause-copy
returns-clause-copy g c =
    let app = c.args.app.now in
    let room = c.args.room.now in
    let from = c.file_of-from.result.base in
    let end = c.file_of-end.result.base in
    let within : from ≤ length room = omega (arith, (files_ordered app).0, (files_ordered app).1, largest_image app c.requires.sizes, c.requires.room, c.file_of-from.ensures.base) in
    let part : length (take (end - from) (drop from room)) ≡ end - from =
    length-take-le (end - from) (drop from room) (omega (arith, length-drop from room, (files_ordered app).0, (files_ordered app).1, largest_image app c.requires.sizes, c.requires.room, c.file_of-from.ensures.base, c.file_of-end.ensures.base)) in
    on_ok c.read_at.result _ _ (told_one (g.M.Medium.state c.args.port.now).image _ _ (λ x read.
    copied app x room c.read_at.new.out from end _ c.file_of-from.ensures.base c.file_of-end.ensures.base within (c.read_at.auto.out ∙ part) (read ∙ ap (λ (n : ℕ). bytes_at x from n) part))) c.read_at.ensures.bytes

pub slice_bounds-read_at-count : goal.slice_bounds-read_at-count
slice_bounds-read_at-count g c = omega (arith, (files_ordered c.args.app.now).0, c.file_of-from.ensures.base, c.file_of-end.ensures.base)

pub slice_bounds-read_at-start : goal.slice_bounds-read_at-start
slice_bounds-read_at-start g c =
    let low : c.file_of-from.result.base ≤ c.file_of-end.result.base = omega (arith, (files_ordered c.args.app.now).0, c.file_of-from.ensures.base, c.file_of-end.ensures.base) in
    low

pub slice_bounds-read_at-end : goal.slice_bounds-read_at-end
slice_bounds-read_at-end g c =
    let high : c.file_of-end.result.base ≤ length c.args.room.now = omega (arith, (files_ordered c.args.app.now).1, largest_image c.args.app.now c.requires.sizes, c.requires.room, c.file_of-end.ensures.base) in
    high
