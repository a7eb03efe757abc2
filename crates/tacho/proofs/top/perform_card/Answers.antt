use Rattle.std.proofs.Common.{refl, arith}
use Rattle.run_model.specs.declared.Device.TheVariants.{CardA, CardB}
use Rattle.tacho.proofs.CardEnds.{card-a-ends, card-b-ends, is-bad}
use Rattle.tacho.proofs.top.perform_card.Goals as goal

pub returns-in-A : goal.returns-in-A
returns-in-A g c = record {
  does = record {
    ends =
        let e = c.write_card_file.ensures in
        rw (c.in-A.is, c.by_fault.ensures.2, c.card_end.ensures)
        (card-a-ends _ _ c.write_card_file.result e.writes e.cause (omega arith) e.counts e.card c.by_fault.ensures.0 c.by_fault.ensures.1);
    spares =
        rw (c.in-A.is, c.by_fault.ensures.2, c.card_end.ensures)
        (record { others = (refl, refl, refl); cards = λ is. absurd (cc); before = λ none. absurd none; nothing = λ none. absurd none; unprinted = λ named. c.write_card_file.ensures.untouched (is-bad CardA c.write_card_file.result named) });
  };
}

pub returns-in-B : goal.returns-in-B
returns-in-B g c = record {
  does = record {
    ends =
        let e = c.write_card_file-in-B.ensures in
        rw (c.in-B.is, c.by_fault-in-B.ensures.2, c.card_end-in-B.ensures)
        (card-b-ends _ _ c.write_card_file-in-B.result e.writes e.cause (omega arith) e.counts e.card c.by_fault-in-B.ensures.0 c.by_fault-in-B.ensures.1);
    spares =
        rw (c.in-B.is, c.by_fault-in-B.ensures.2, c.card_end-in-B.ensures)
        (record { others = (refl, refl, refl); cards = λ is. absurd (cc); before = λ none. absurd none; nothing = λ none. absurd none; unprinted = λ named. c.write_card_file-in-B.ensures.untouched (is-bad CardB c.write_card_file-in-B.result named) });
  };
}
