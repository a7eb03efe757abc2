use Rattle.std.proofs.Common.{◌∙◌, Option, IfSome, ap, sym, subst, arith}
use Rattle.std.specs.Prelude.{is_err}
use Rattle.tach_media.proofs.Runs.{ok_gives}
use Rattle.unit_minutes.specs.unit_owed.Rows.{IsPutting}
use Rattle.tacho_types.specs.CardNumber.{card_number_bytes}
use Rattle.tacho_types.specs.declared.card_number.FullCardNumber.{FullCardNumber}
use Rattle.run_events.specs.Entries.{number_or_no_card}
use Rattle.run_crew.specs.declared.cards.Known.{Known}
use Rattle.unit_minutes.specs.Image.{Agrees}
use Rattle.unit_minutes.specs.declared.notes.Notes.{Notes}
use Rattle.trace_model.specs.declared.Card.{Card}
use Rattle.run_minutes.specs.Keeping.{HasItsRow}
use Rattle.run_minutes.proofs.EntryPut.{row-known, books-put-a, books-put-b}
use Rattle.run_minutes.proofs.Faults.{putting-nothing}
use Rattle.run_minutes.proofs.Speeds.{putting-speeds}
use Rattle.run_minutes.proofs.OnUnit.{unit-none, unit-moments, unit-stands-none, journal-stands}
use Rattle.run_minutes.proofs.keeper.Keeper.owe_to.Goals as goal

pub returns-in-A-clause-booked : goal.returns-in-A-clause-booked
returns-in-A-clause-booked g c =
    books-put-a c.args.present c.args.self.now.cabin.cards c.args.entry.now (card_number_bytes c.number_or_zeros-number.result) _ (g.M.Medium.state c.args.unit.now) (g.M.Medium.state c.owe.new.unit) (g.C.Chip.state c.args.card_a.now) (g.D.Chip.state c.args.card_b.now)
    (g.met.M.Medium.coherent c.args.unit.now) c.requires.row c.owe.ensures.answers.goes.tells c.owe.ensures.answers.goes.cause c.owe.ensures.rules.holds c.in-Some.card c.in-Some.is c.in-A.is
    (ap (λ (n : FullCardNumber). card_number_bytes n) (c.number_or_zeros-number.ensures ∙ ap (λ (known : Known). number_or_no_card known.number) c.of-known.ensures)) c.owe.ensures.rules.mine c.owe.ensures.rules.others

pub returns-in-B-clause-booked : goal.returns-in-B-clause-booked
returns-in-B-clause-booked g c =
    books-put-b c.args.present c.args.self.now.cabin.cards c.args.entry.now (card_number_bytes c.number_or_zeros-number.result) _ (g.M.Medium.state c.args.unit.now) (g.M.Medium.state c.owe-in-B.new.unit) (g.C.Chip.state c.args.card_a.now) (g.D.Chip.state c.args.card_b.now)
    (g.met.M.Medium.coherent c.args.unit.now) c.requires.row c.owe-in-B.ensures.answers.goes.tells c.owe-in-B.ensures.answers.goes.cause c.owe-in-B.ensures.rules.holds c.in-Some.card c.in-Some.is c.in-B.is
    (ap (λ (n : FullCardNumber). card_number_bytes n) (c.number_or_zeros-number.ensures ∙ ap (λ (known : Known). number_or_no_card known.number) c.of-known.ensures)) c.owe-in-B.ensures.rules.mine c.owe-in-B.ensures.rules.others

-- ---- the unit goes on

pub returns-in_default-clause-goes : goal.returns-in_default-clause-goes
returns-in_default-clause-goes g c = record {
  all = unit-none (g.M.Medium.state c.args.unit.now) c.requires.ready.works;
  most = omega arith;
}

pub returns-in-A-clause-goes : goal.returns-in-A-clause-goes
returns-in-A-clause-goes g c = record {
  all =
      let number = card_number_bytes c.number_or_zeros-number.result in
      let e = c.args.entry.now in
      unit-moments _ (g.M.Medium.state c.args.unit.now) (g.M.Medium.state c.owe.new.unit) (IsPutting number e) (g.met.M.Medium.coherent c.args.unit.now) (g.met.M.Medium.coherent c.owe.new.unit) c.owe.ensures.leaves.moments
      (putting-speeds number e) (λ x y h. putting-nothing number e x y h) c.owe.ensures.answers.goes.cause;
  most = c.owe.ensures.answers.most;
}

pub returns-in-B-clause-goes : goal.returns-in-B-clause-goes
returns-in-B-clause-goes g c = record {
  all =
      let number = card_number_bytes c.number_or_zeros-number.result in
      let e = c.args.entry.now in
      unit-moments _ (g.M.Medium.state c.args.unit.now) (g.M.Medium.state c.owe-in-B.new.unit) (IsPutting number e) (g.met.M.Medium.coherent c.args.unit.now) (g.met.M.Medium.coherent c.owe-in-B.new.unit) c.owe-in-B.ensures.leaves.moments
      (putting-speeds number e) (λ x y h. putting-nothing number e x y h) c.owe-in-B.ensures.answers.goes.cause;
  most = c.owe-in-B.ensures.answers.most;
}

-- ---- how it stands

pub returns-in_default-clause-stands : goal.returns-in_default-clause-stands
returns-in_default-clause-stands g c = unit-stands-none c.args.self.now (g.M.Medium.state c.args.unit.now) c.requires.ready

pub returns-in-A-clause-stands : goal.returns-in-A-clause-stands
returns-in-A-clause-stands g c =
    let V = g.M.Medium.state c.owe.new.unit in
    journal-stands c.args.self.now c.owe.new.journal (g.M.Medium.state c.args.unit.now) V (is_err c.owe.result) c.owe.ensures.stands.unit c.owe.ensures.answers.goes.cause
    (λ well. subst (λ (j : Notes). IfSome V.image (Agrees j)) (sym c.owe.ensures.stands.same) (ok_gives c.owe.result c.owe.ensures.stands.agrees well)) (λ well r n h. ok_gives c.owe.result (c.owe.ensures.stands.rows r n h) well)

pub returns-in-B-clause-stands : goal.returns-in-B-clause-stands
returns-in-B-clause-stands g c =
    let V = g.M.Medium.state c.owe-in-B.new.unit in
    journal-stands c.args.self.now c.owe-in-B.new.journal (g.M.Medium.state c.args.unit.now) V (is_err c.owe-in-B.result) c.owe-in-B.ensures.stands.unit c.owe-in-B.ensures.answers.goes.cause
    (λ well. subst (λ (j : Notes). IfSome V.image (Agrees j)) (sym c.owe-in-B.ensures.stands.same) (ok_gives c.owe-in-B.result c.owe-in-B.ensures.stands.agrees well)) (λ well r n h. ok_gives c.owe-in-B.result (c.owe-in-B.ensures.stands.rows r n h) well)

-- ---- the row of the card

pub owe-requires-clause-row : goal.owe-requires-clause-row
owe-requires-clause-row g c = record {
  low =
      (row-known c.args.self.now.cabin.cards (g.M.Medium.state c.args.unit.now) c.in-Some.card c.of-known.result.now c.number_or_zeros-number.result
      (subst (λ (o : Option Card). IfSome o (HasItsRow c.args.self.now.cabin.cards (g.M.Medium.state c.args.unit.now))) c.in-Some.is c.requires.row) c.of-known.ensures c.number_or_zeros-number.ensures).0;
  row =
      (row-known c.args.self.now.cabin.cards (g.M.Medium.state c.args.unit.now) c.in-Some.card c.of-known.result.now c.number_or_zeros-number.result
      (subst (λ (o : Option Card). IfSome o (HasItsRow c.args.self.now.cabin.cards (g.M.Medium.state c.args.unit.now))) c.in-Some.is c.requires.row) c.of-known.ensures c.number_or_zeros-number.ensures).1;
}

pub owe-requires-in-B-clause-row : goal.owe-requires-in-B-clause-row
owe-requires-in-B-clause-row g c = record {
  low =
      (row-known c.args.self.now.cabin.cards (g.M.Medium.state c.args.unit.now) c.in-Some.card c.of-known.result.now c.number_or_zeros-number.result
      (subst (λ (o : Option Card). IfSome o (HasItsRow c.args.self.now.cabin.cards (g.M.Medium.state c.args.unit.now))) c.in-Some.is c.requires.row) c.of-known.ensures c.number_or_zeros-number.ensures).0;
  row =
      (row-known c.args.self.now.cabin.cards (g.M.Medium.state c.args.unit.now) c.in-Some.card c.of-known.result.now c.number_or_zeros-number.result
      (subst (λ (o : Option Card). IfSome o (HasItsRow c.args.self.now.cabin.cards (g.M.Medium.state c.args.unit.now))) c.in-Some.is c.requires.row) c.of-known.ensures c.number_or_zeros-number.ensures).1;
}

-- ---- its writes

pub owe-requires-clause-ready : goal.owe-requires-clause-ready
owe-requires-clause-ready g c = record {
  unit = c.requires.ready.is_unit;
  agrees = c.requires.ready.agrees;
}

pub owe-requires-in-B-clause-ready : goal.owe-requires-in-B-clause-ready
owe-requires-in-B-clause-ready g c = record {
  unit = c.requires.ready.is_unit;
  agrees = c.requires.ready.agrees;
}
