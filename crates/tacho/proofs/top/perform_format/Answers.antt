use Rattle.std.proofs.Common.{rules}
use Rattle.tacho.proofs.top.perform_format.Goals as goal

pub returns-in-A : goal.returns-in-A
returns-in-A g c = record {
  does = record {
    ends = rw (c.in-A.is, c.by_answer.ensures.2) (search rules);
    spares = rw (c.in-A.is, c.by_answer.ensures.2) (search rules);
  };
}

pub returns-in-B : goal.returns-in-B
returns-in-B g c = record {
  does = record {
    ends = rw (c.in-B.is, c.by_answer-in-B.ensures.2) (search rules);
    spares = rw (c.in-B.is, c.by_answer-in-B.ensures.2) (search rules);
  };
}
