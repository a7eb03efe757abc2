use Rattle.std.proofs.Common.{rules, ◌≡◌, true, is_err}
use Rattle.sector_medium.proofs.Lifts.{read_change, change_read, read_failed, changes_as}
use Rattle.sector_medium.proofs.Moves.{crossing, gate_around}
use Rattle.sector_medium.proofs.steps.cross.Goals as goal

pub prepare-requires-clause-inside : goal.prepare-requires-clause-inside
prepare-requires-clause-inside g c = (gate_around c.args.size _ (crossing c.args.size c.args.place _ c.requires.crosses c.requires.short c.requires.inside)).inside

pub commit-requires-clause-border : goal.commit-requires-clause-border
commit-requires-clause-border g c = crossing c.args.size c.args.place _ c.requires.crosses c.requires.short c.requires.inside

pub finish-requires-clause-around : goal.finish-requires-clause-around
finish-requires-clause-around g c = gate_around c.args.size _ (crossing c.args.size c.args.place _ c.requires.crosses c.requires.short c.requires.inside)

pub returns-in_err-new-clause-changes : goal.returns-in_err-new-clause-changes
returns-in_err-new-clause-changes g c =
    let failed : is_err c.from_residual.result ≡ true = search rules in
    changes_as failed (read_failed c.in_err-new.ensures.reads)

pub returns-in_err-commit-clause-changes : goal.returns-in_err-commit-clause-changes
returns-in_err-commit-clause-changes g c =
    let failed : is_err c.from_residual-in_err-commit.result ≡ true = search rules in
    changes_as failed (read_change c.in_ok-new.ensures.reads c.in_err-commit.ensures.changes)

pub returns-clause-changes : goal.returns-clause-changes
returns-clause-changes g c = change_read (read_change c.in_ok-new.ensures.reads c.in_ok-commit.ensures.changes) c.finish.ensures.reads
