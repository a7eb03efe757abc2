use Rattle.std.proofs.Common.{List, ℕ, length, ◌∙◌, ap, arith}
use Rattle.file_extract.proofs.OddFiles.{pointed_size}
use Rattle.file_extract.proofs.odd_days.is_whole_with.Goals as goal

pub is_whole-requires : goal.is_whole-requires
is_whole-requires c = omega (arith, ap (λ (l : List ℕ). length l) (c.as_slice.ensures.value ∙ c.in_ok-out.ensures), pointed_size c.args.at c.args.oldest c.args.newest c.args.b.now c.requires.inside, c.requires.short)
