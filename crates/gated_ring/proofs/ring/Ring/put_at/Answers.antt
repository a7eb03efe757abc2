use Rattle.std.proofs.lemmas.Grind.{common_steps}
use Rattle.std.proofs.Common.{◌∙◌, not, refl, arith, rules, true, ◌≡◌}
use Rattle.std.specs.Prelude.{◌==◌, is_err}
use Rattle.tach_media.proofs.Runs.{where_told, turned_into, settled_now, on_ok, alters_failed, from_reads}
use Rattle.tach_media.specs.Plan.{put_all}
use Rattle.gated_ring.specs.Change.{IsReplaced}
use Rattle.gated_ring.specs.Plans.{exchanging_pieces}
use Rattle.gated_ring.proofs.Planned.{exchanging_some, put_puts, put_moments, put_end}
use Rattle.gated_ring.proofs.ring.Ring.put_at.Goals as goal

pub returns-clause-puts : goal.returns-clause-puts
returns-clause-puts g c = put_puts c.args.self.now c.args.index c.args.head.now c.in_ok-gate.gate _ _ _ c.in_ok-gate.ensures.reads c.in_ok-gate.ensures.value (is_err c.exchange.result) c.exchange.ensures.puts

pub returns-clause-alters : goal.returns-clause-alters
returns-clause-alters g c = record {
  done =
      let q = c.requires in
      let r = c.args.self.now in
      let i = c.args.index in
      let head = c.args.head.now in
      let old = g.M.Medium.state c.args.medium.now in
      let new = g.M.Medium.state c.exchange.new.medium in
      let e = c.in_ok-gate.ensures in
      on_ok c.exchange.result (λ fine. where_told old.image new.image (IsReplaced r i head) (λ x y was is.
      put_end r i head c.in_ok-gate.gate old (g.M.Medium.state c.gate.new.medium) new e.reads e.value (is_err c.exchange.result) c.exchange.ensures.puts
      c.exchange.ensures.shape (λ x was. omega (arith, q.fits, (g.met.M.Medium.coherent c.args.medium.now).sized x was)) q.index q.head.gate q.head.width q.head.opens x y was
      (turned_into (put_all (exchanging_pieces r i (not (c.in_ok-gate.gate == 0)) head)) (c.exchange.ensures.puts.written fine) (e.reads.same refl ∙ was) is)));
  moments =
      let q = c.requires in
      put_moments c.args.self.now c.args.index c.args.head.now c.in_ok-gate.gate _ _ _ c.in_ok-gate.ensures.reads c.in_ok-gate.ensures.value (is_err c.exchange.result) c.exchange.ensures.puts
      c.exchange.ensures.shape (λ x was. omega (arith, q.fits, (g.met.M.Medium.coherent c.args.medium.now).sized x was)) q.index q.head.gate q.head.width q.head.opens;
  settled = on_ok c.exchange.result (λ fine. settled_now c.exchange.ensures.puts fine (exchanging_some c.args.self.now c.args.index _ c.args.head.now).0);
  cause = first_of (search rules, grind (arith, common_steps));
  most = first_of (search rules, grind (arith, common_steps));
}

pub returns-in_err-gate-clause-alters : goal.returns-in_err-gate-clause-alters
returns-in_err-gate-clause-alters g c =
    let failed : is_err c.from_residual.result ≡ true = search rules in
    alters_failed c.from_residual.result failed (from_reads c.in_err-gate.ensures.reads.leaves) c.in_err-gate.ensures.reads.cause (omega (arith, c.in_err-gate.ensures.reads.clock))
