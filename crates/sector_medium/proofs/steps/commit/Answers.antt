use Rattle.std.proofs.Common.{ℕ, IfSome, arith, sym, subst, ◌∙◌}
use Rattle.card_layout.proofs.Spelled.{bytes_filled}
use Rattle.tach_media.proofs.Runs.{on_ok}
use Rattle.sector_medium.specs.Redo.{IsOpen, IsReady}
use Rattle.sector_medium.proofs.Moves.{wrote, wrote_at, opened_changes, opened_opens}
use Rattle.sector_medium.proofs.steps.commit.Goals as goal

pub returns-clause-changes : goal.returns-clause-changes
returns-clause-changes g c =
    let e = c.write_at.ensures in
    let a = c.args in
    let r = c.requires in
    let run = wrote_at c.place_behind.ensures (c.to_be_bytes.ensures ∙ bytes_filled 4 a.border (omega arith)) (wrote c.write_at.result e.written e.moments e.clock e.cause) in
    opened_changes a.size r.room (g.met.D.Disk.coherent a.disk.now) a.border a.place a.bytes.now a.redo.now.bytes run r.border (omega (arith, c.ranges.border.fits))
    (omega (arith, r.at, r.behind)) (omega (arith, r.at, r.short)) r.inside
    (subst (λ (p : ℕ). IfSome (g.D.Disk.state a.disk.now).image (IsReady a.size p a.place a.bytes.now a.redo.now.bytes)) r.at r.ready)

pub returns-clause-open : goal.returns-clause-open
returns-clause-open g c =
    let e = c.write_at.ensures in
    let a = c.args in
    let r = c.requires in
    let run = wrote_at c.place_behind.ensures (c.to_be_bytes.ensures ∙ bytes_filled 4 a.border (omega arith)) (wrote c.write_at.result e.written e.moments e.clock e.cause) in
    on_ok c.write_at.result (λ fine. subst (λ (p : ℕ). IfSome (g.D.Disk.state c.write_at.new.self).image (IsOpen a.size p a.redo.now.bytes)) (sym r.at)
    (opened_opens a.size r.room (g.met.D.Disk.coherent a.disk.now) a.border a.place a.bytes.now a.redo.now.bytes run r.border (omega (arith, c.ranges.border.fits))
    (omega (arith, r.at, r.behind)) (omega (arith, r.at, r.short)) r.inside
    (subst (λ (p : ℕ). IfSome (g.D.Disk.state a.disk.now).image (IsReady a.size p a.place a.bytes.now a.redo.now.bytes)) r.at r.ready) fine))
