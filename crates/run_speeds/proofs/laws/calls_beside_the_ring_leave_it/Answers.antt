use Rattle.run_speeds.specs.Speeds.{HasSameSpeeds}
use Rattle.run_speeds.proofs.Leaving.{leaves-none, leaves-then, leaves-moments}
use Rattle.run_speeds.proofs.laws.calls_beside_the_ring_leave_it.Goals as goal

pub returns : goal.returns
returns g c =
    let U = g.M.Medium.state c.args.first.now in
    let V = g.N.Medium.state c.args.mid.now in
    let W = g.O.Medium.state c.args.last.now in
    record {
      none = leaves-none U;
      two = leaves-then U V W;
      moments = λ run. leaves-moments U V HasSameSpeeds (g.met.M.Medium.coherent c.args.first.now) run (λ x d same. same);
    }
