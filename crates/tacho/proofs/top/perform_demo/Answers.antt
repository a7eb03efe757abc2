use Rattle.tacho.proofs.Demo.{demo-ends}
use Rattle.tacho.proofs.top.perform_demo.Goals as goal

pub returns : goal.returns
returns g c = record {
  does = record {
    ends =
        let e = c.demo-done.ensures in
        rw c.after.ensures (demo-ends c.args.seed _ _ c.demo-done.new.outcome c.demo-done.result e.ends e.causes);
    spares = record { others = c.demo-done.ensures.source; cards = λ is. absurd (cc); before = λ none. absurd none; nothing = λ none. absurd none; unprinted = λ none. absurd none };
  };
}
