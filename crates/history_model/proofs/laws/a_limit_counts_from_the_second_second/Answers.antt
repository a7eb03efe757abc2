use Rattle.std.proofs.Common.{◌+◌, [], ◌∷◌, ◌++◌, length}
use Rattle.log_model.specs.Course.{went, second_told}
use Rattle.history_model.proofs.Told.{second, more-told, spanned-so_far, told-next}
use Rattle.history_model.proofs.laws.a_limit_counts_from_the_second_second.Goals as goal

pub returns : goal.returns
returns c = λ rule start log ss s order lit starts one k limit b follows lost known low high. second rule start log c.args.n (c.args.n + length ss) (went log ss) (second_told log (went log ss).before s) (went log (ss ++ s ∷ [])).told (more-told log ss s) (spanned-so_far c.args.n log ss s order) (told-next c.args.n log ss s order) lit starts one k limit b follows lost known low high
