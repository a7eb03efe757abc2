use Rattle.std.proofs.Common.{refl}
use Rattle.link_frames.proofs.laws.a_fresh_line_answers_by_the_table.Goals as goal

pub returns : goal.returns
returns c = λ messages bytes. refl
