use Rattle.std.proofs.Common.{rules, ◌≡◌, Bool, true, IfSome, sym, subst, arith}
use Rattle.std.specs.Prelude.{is_err, OnOk}
use Rattle.tach_media.proofs.Runs.{on_ok}
use Rattle.tach_media.specs.Plan.{PutsBy}
use Rattle.tach_media.proofs.Plans.{puts_by_unread}
use Rattle.unit_minutes.specs.Image.{Notes}
use Rattle.unit_minutes.specs.Mends.{mending, HasNothingLater}
use Rattle.unit_minutes.proofs.MendPlan.{mend_puts, mend_idle}
use Rattle.unit_minutes.proofs.journal.Journal.write_mends.Goals as goal

pub returns-in_err-plan-clause-puts : goal.returns-in_err-plan-clause-puts
returns-in_err-plan-clause-puts g c =
    let failed : is_err c.from_residual.result ≡ true = search rules in
    subst (λ (b : Bool). PutsBy (g.M.Medium.state c.args.unit.now) (g.M.Medium.state c.late_cells.new.unit) b 0 34 (mending c.args.self.now)) (sym failed) (puts_by_unread 0 34 (mending c.args.self.now) c.in_err-plan.ensures.reads)

pub returns-clause-puts : goal.returns-clause-puts
returns-clause-puts g c =
    subst (λ (j : Notes). PutsBy (g.M.Medium.state c.args.unit.now) (g.M.Medium.state c.put_pieces.new.medium) (is_err c.put_pieces.result) 0 34 (mending j)) c.self.view_is
    (mend_puts c.self.inside.notes c.in_ok-plan.plan c.add_shut.new.plan c.add_cut.new.plan c.in_ok-plan.ensures.reads c.in_ok-plan.ensures.plan c.add_shut.ensures.plan c.add_cut.ensures.plan
    (omega (arith, c.in_ok-plan.ensures.room.few, c.add_shut.ensures.length, c.add_cut.ensures.length)) c.put_pieces.ensures.puts)

pub returns-clause-idle : goal.returns-clause-idle
returns-clause-idle g c =
    subst (λ (j : Notes). OnOk c.put_pieces.result (IfSome (g.M.Medium.state c.args.unit.now).image (λ x. HasNothingLater j x → (g.M.Medium.state c.put_pieces.new.medium).clock ≡ (g.M.Medium.state c.args.unit.now).clock))) c.self.view_is
    (on_ok c.put_pieces.result (λ fine. mend_idle c.self.inside.notes c.in_ok-plan.plan c.add_shut.new.plan c.add_cut.new.plan c.in_ok-plan.ensures.reads c.in_ok-plan.ensures.plan c.add_shut.ensures.plan c.add_cut.ensures.plan
    (omega (arith, c.in_ok-plan.ensures.room.few, c.add_shut.ensures.length, c.add_cut.ensures.length)) c.put_pieces.ensures.puts))
