use Rattle.std.proofs.Common.{◌<◌, Option, Some, IfSome, sym, subst, arith}
use Rattle.std.specs.Prelude.{OnOk}
use Rattle.tach_media.specs.Medium.{LeavesOnly}
use Rattle.tach_media.proofs.Runs.{starts, no_reads, weaken}
use Rattle.unit_events.proofs.Calling.{still-unit}
use Rattle.speed_model.specs.declared.block.Block.{Block}
use Rattle.unit_notes.specs.Journal.{LeavesJournal}
use Rattle.run_events.specs.Blocks.{IsBlockPut, IsPuttingBlock}
use Rattle.run_events.proofs.Noted.{itself}
use Rattle.run_events.proofs.Behind.{putting-journal}
use Rattle.run_events.proofs.watch.put_block.Goals as goal

pub put_some-requires-clause-time : goal.put_some-requires-clause-time
put_some-requires-clause-time g c =
    let some : 0 < c.in-Some.block.time = subst (λ (o : Option Block). IfSome o (λ b. 0 < b.time)) c.in-Some.is c.requires.time in
    λ gone. omega (arith, some, gone)

pub returns-in-Some-clause-put : goal.returns-in-Some-clause-put
returns-in-Some-clause-put g c =
    subst (λ (o : Option Block). OnOk c.put_some.result (IfSome (g.M.Medium.state c.args.unit.now).image (λ x. IfSome (g.M.Medium.state c.put_some.new.unit).image (IsBlockPut o x)))) (sym c.in-Some.is) c.put_some.ensures.added

pub returns-in-Some-clause-moments : goal.returns-in-Some-clause-moments
returns-in-Some-clause-moments g c =
    subst (λ (o : Option Block). LeavesOnly (g.M.Medium.state c.args.unit.now) (g.M.Medium.state c.put_some.new.unit) (IsPuttingBlock o)) (sym c.in-Some.is) c.put_some.ensures.moments

pub returns-in-Some-clause-journal : goal.returns-in-Some-clause-journal
returns-in-Some-clause-journal g c = weaken c.put_some.ensures.moments (λ x d was moment. putting-journal (Some c.in-Some.block) x d moment)

pub returns-in-Some-clause-unit : goal.returns-in-Some-clause-unit
returns-in-Some-clause-unit g c = still-unit c.put_some.ensures.moments c.requires.unit

pub returns-in-None-clause-put : goal.returns-in-None-clause-put
returns-in-None-clause-put g c =
    subst (λ (o : Option Block). IfSome (g.M.Medium.state c.args.unit.now).image (λ x. IfSome (g.M.Medium.state c.args.unit.now).image (IsBlockPut o x))) (sym c.in-None.is) (itself (g.M.Medium.state c.args.unit.now))

pub returns-in-None-clause-moments : goal.returns-in-None-clause-moments
returns-in-None-clause-moments g c = starts (g.M.Medium.state c.args.unit.now) _

pub returns-in-None-clause-journal : goal.returns-in-None-clause-journal
returns-in-None-clause-journal g c = starts (g.M.Medium.state c.args.unit.now) LeavesJournal

pub returns-in-None-clause-cause : goal.returns-in-None-clause-cause
returns-in-None-clause-cause g c = (no_reads (g.M.Medium.state c.args.unit.now) c.requires.works).cause

-- ---- the newest block

pub put_some-requires-clause-newest : goal.put_some-requires-clause-newest
put_some-requires-clause-newest g c = c.requires.newest

pub returns-in-None-clause-newest : goal.returns-in-None-clause-newest
returns-in-None-clause-newest g c = c.requires.newest
