use Rattle.std.proofs.Common.{refl}
use Rattle.tacho.proofs.CardServices.{slot-a-ends, slot-b-ends}
use Rattle.tacho.proofs.top.perform_slot.Goals as goal

pub returns-in-A-clause-does : goal.returns-in-A-clause-does
returns-in-A-clause-does g c = record {
  ends =
      let e = c.serve_card.ensures in
      rw (c.in-A.is, c.by_fault.ensures.2, c.slot_end.ensures)
      (slot-a-ends _ _ c.serve_card.result e.served e.end e.cause e.counts.0 e.counts.1 c.by_fault.ensures.0 c.by_fault.ensures.1);
  spares = rw c.in-A.is (record { others = (refl, refl); cards = λ is. absurd (cc); before = λ none. absurd none; nothing = λ none. absurd none; unprinted = λ none. absurd none });
}

pub returns-in-A-clause-in_time : goal.returns-in-A-clause-in_time
returns-in-A-clause-in_time g c = rw c.in-A.is c.serve_card.ensures.in_time

pub returns-in-B-clause-does : goal.returns-in-B-clause-does
returns-in-B-clause-does g c = record {
  ends =
      let e = c.serve_card-in-B.ensures in
      rw (c.in-B.is, c.by_fault-in-B.ensures.2, c.slot_end-in-B.ensures)
      (slot-b-ends _ _ c.serve_card-in-B.result e.served e.end e.cause e.counts.0 e.counts.1 c.by_fault-in-B.ensures.0 c.by_fault-in-B.ensures.1);
  spares = rw c.in-B.is (record { others = (refl, refl); cards = λ is. absurd (cc); before = λ none. absurd none; nothing = λ none. absurd none; unprinted = λ none. absurd none });
}

pub returns-in-B-clause-in_time : goal.returns-in-B-clause-in_time
returns-in-B-clause-in_time g c = rw c.in-B.is c.serve_card-in-B.ensures.in_time
