use Rattle.std.proofs.Common.{rules, ◌≡◌, ◌<◌, ◌≤◌, ◌+◌, IfSome, true, sym, subst, arith}
use Rattle.tach_media.specs.Medium.{LiesInside}
use Rattle.tach_media.proofs.Ranges.{lies_part}
use Rattle.tach_media.proofs.Runs.{alters_as}
use Rattle.gated_ring.specs.Ring.{Shape, IsAtPointer, size_of}
use Rattle.gated_ring.specs.Change.{adding_writes}
use Rattle.speed_store.proofs.ring.add_block_behind.Goals as goal
use Rattle.gated_ring.proofs.AddedAs.{added_as}
use Rattle.std.specs.Prelude.{is_err}

pub add_behind-requires-clause-writable : goal.add_behind-requires-clause-writable
add_behind-requires-clause-writable g c =
    let ranges = (g.M.Medium.state c.args.unit.now).writable in
    subst (λ (r : Shape). LiesInside ranges r.base (size_of r)) (sym c.blocks-2.ensures) (lies_part ranges 0 2485808 2393644 92164 (omega arith) (omega arith) c.requires.unit.writable)

pub add_behind-requires-clause-known : goal.add_behind-requires-clause-known
add_behind-requires-clause-known g c =
    subst (λ (r : Shape). IfSome (g.M.Medium.state c.args.unit.now).image (IsAtPointer r c.args.last)) (sym c.blocks-2.ensures) c.requires.known

pub returns-in_err-index-clause-writes : goal.returns-in_err-index-clause-writes
returns-in_err-index-clause-writes g c =
    subst (λ (r : Shape). IfSome (g.M.Medium.state c.args.unit.now).image (λ x. (g.M.Medium.state c.add_behind.new.medium).clock ≤ (g.M.Medium.state c.args.unit.now).clock + adding_writes r x)) c.blocks-2.ensures c.in_err-index.ensures.writes

pub returns-clause-writes : goal.returns-clause-writes
returns-clause-writes g c =
    subst (λ (r : Shape). IfSome (g.M.Medium.state c.args.unit.now).image (λ x. (g.M.Medium.state c.add_behind.new.medium).clock ≤ (g.M.Medium.state c.args.unit.now).clock + adding_writes r x)) c.blocks-2.ensures c.in_ok-index.ensures.writes

pub returns-clause-newest : goal.returns-clause-newest
returns-clause-newest g c =
    subst (λ (r : Shape). IfSome (g.M.Medium.state c.add_behind.new.medium).image (IsAtPointer r c.in_ok-index.index)) c.blocks-2.ensures c.in_ok-index.ensures.took.newest

pub returns-in_err-index-clause-alters : goal.returns-in_err-index-clause-alters
returns-in_err-index-clause-alters g c =
    let failed : is_err c.from_residual.result ≡ true = search rules in
    alters_as c.from_residual.result failed (added_as c.blocks-2.ensures c.write_block.ensures.bytes c.in_err-index.ensures.alters)

pub returns-clause-alters : goal.returns-clause-alters
returns-clause-alters g c = added_as c.blocks-2.ensures c.write_block.ensures.bytes c.in_ok-index.ensures.alters

pub returns-clause-below : goal.returns-clause-below
returns-clause-below g c = subst (λ (r : Shape). c.in_ok-index.index < r.count) c.blocks-2.ensures c.in_ok-index.ensures.took.below
