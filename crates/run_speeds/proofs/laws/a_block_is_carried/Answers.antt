use Rattle.run_speeds.proofs.Speeds.{speeds-added, speeds-broken}
use Rattle.run_speeds.proofs.laws.a_block_is_carried.Goals as goal

pub returns : goal.returns
returns g c =
    let U = g.M.Medium.state c.args.old.now in
    let V = g.N.Medium.state c.args.new.now in
    let before = g.met.M.Medium.coherent c.args.old.now in
    record {
      added = λ is_sure start began blocks h b sixty run works tells done. speeds-added is_sure start began blocks U V h before b sixty run (g.met.N.Medium.coherent c.args.new.now) works tells done;
      broken = λ is_sure start began blocks h b sixty unsure run. speeds-broken is_sure start began blocks U V h before b sixty run unsure;
    }
