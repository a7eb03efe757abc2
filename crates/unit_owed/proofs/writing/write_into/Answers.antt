use Rattle.std.proofs.Common.{ap, subst, is_err}
use Rattle.tach_media.specs.Plan.{Pieces, PutsAll}
use Rattle.unit_owed.proofs.writing.write_into.Goals as goal

pub returns-clause-puts : goal.returns-clause-puts
returns-clause-puts g c =
    subst (PutsAll (g.M.Medium.state c.args.unit.now) (g.M.Medium.state c.put_pieces.new.medium) (is_err c.put_pieces.result)) (ap (λ (p : Pieces). p.pieces) c.putting-plan.ensures.plan) c.put_pieces.ensures.puts
