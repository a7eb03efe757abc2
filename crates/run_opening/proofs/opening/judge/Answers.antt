use Rattle.std.proofs.lemmas.Grind.{common_steps}
use Rattle.std.proofs.Common.{rules, arith, IfOk, IfErr, Ok}
use Rattle.run_promise.specs.Between.{devices}
use Rattle.run_opening.specs.Opening.{IsRefused}
use Rattle.run_opening.specs.Calls.{DevicesAreFound}
use Rattle.run_opening.proofs.AsItWas.{as-it-is}
use Rattle.run_opening.proofs.Began.{begun}
use Rattle.run_opening.proofs.opening.judge.Goals as goal

pub returns-in_err-opened-clause-same : goal.returns-in_err-opened-clause-same
returns-in_err-opened-clause-same g c = record { unit = c.judge_unit.ensures.same; is_unit = c.judge_unit.ensures.unit; card_a = as-it-is (g.C.Chip.state c.args.card_a.now); card_b = as-it-is (g.D.Chip.state c.args.card_b.now) }

pub returns-in_err-a-clause-same : goal.returns-in_err-a-clause-same
returns-in_err-a-clause-same g c = record { unit = c.judge_unit.ensures.same; is_unit = c.judge_unit.ensures.unit; card_a = c.judge_card.ensures.same; card_b = as-it-is (g.D.Chip.state c.args.card_b.now) }

pub returns-in_err-b-clause-same : goal.returns-in_err-b-clause-same
returns-in_err-b-clause-same g c = record { unit = c.judge_unit.ensures.same; is_unit = c.judge_unit.ensures.unit; card_a = c.judge_card.ensures.same; card_b = c.judge_card-2.ensures.same }

pub returns-in_err-judge_numbers-clause-same : goal.returns-in_err-judge_numbers-clause-same
returns-in_err-judge_numbers-clause-same g c = record { unit = c.judge_unit.ensures.same; is_unit = c.judge_unit.ensures.unit; card_a = c.judge_card.ensures.same; card_b = c.judge_card-2.ensures.same }

pub returns-clause-same : goal.returns-clause-same
returns-clause-same g c = record { unit = c.judge_unit.ensures.same; is_unit = c.judge_unit.ensures.unit; card_a = c.judge_card.ensures.same; card_b = c.judge_card-2.ensures.same }

-- ---- all were judged

pub returns-clause-found : goal.returns-clause-found
returns-clause-found g c = record {
  unit = first_of (search rules, grind (arith, common_steps));
  card_a = first_of (search rules, grind (arith, common_steps));
  card_b = first_of (search rules, grind (arith, common_steps));
  two = first_of (search rules, grind (arith, common_steps));
}

pub returns-clause-works : goal.returns-clause-works
returns-clause-works g c = record {
  unit = first_of (search rules, grind (arith, common_steps));
  card_a = first_of (search rules, grind (arith, common_steps));
  card_b = first_of (search rules, grind (arith, common_steps));
}

-- ---- where the devices have one image each

pub returns-in_err-opened-clause-begins : goal.returns-in_err-opened-clause-begins
returns-in_err-opened-clause-begins g c = λ r begins.
    let finds : IfOk c.from_residual.result (DevicesAreFound c.args.start (g.M.Medium.state c.judge_unit.new.unit) (g.C.Chip.state c.args.card_a.now) (g.D.Chip.state c.args.card_b.now) (g.C.Chip.card c.args.card_a.now) (g.D.Chip.card c.args.card_b.now)) =
    first_of (search rules, grind (arith, common_steps)) in
    let why : IfErr c.from_residual.result (IsRefused c.args.start (devices (g.M.Medium.state c.args.unit.now) (g.C.Chip.state c.args.card_a.now) (g.D.Chip.state c.args.card_b.now)) (devices (g.M.Medium.state c.judge_unit.new.unit) (g.C.Chip.state c.args.card_a.now) (g.D.Chip.state c.args.card_b.now))) =
    first_of (search rules, grind (arith, common_steps)) in
    begun r c.args.start (g.M.Medium.state c.args.unit.now) (g.M.Medium.state c.judge_unit.new.unit) (g.C.Chip.state c.args.card_a.now) (g.C.Chip.state c.args.card_a.now) (g.D.Chip.state c.args.card_b.now) (g.D.Chip.state c.args.card_b.now)
    (g.met.M.Medium.coherent c.args.unit.now) (g.met.M.Medium.coherent c.judge_unit.new.unit) (g.met.C.Chip.coherent c.args.card_a.now) (g.met.C.Chip.coherent c.args.card_a.now) (g.met.D.Chip.coherent c.args.card_b.now) (g.met.D.Chip.coherent c.args.card_b.now)
    c.judge_unit.ensures.same (as-it-is (g.C.Chip.state c.args.card_a.now)) (as-it-is (g.D.Chip.state c.args.card_b.now)) begins (g.C.Chip.card c.args.card_a.now) (g.D.Chip.card c.args.card_b.now) c.from_residual.result finds why

pub returns-in_err-judge_numbers-clause-begins : goal.returns-in_err-judge_numbers-clause-begins
returns-in_err-judge_numbers-clause-begins g c = λ r begins.
    let finds : IfOk c.from_residual-in_err-judge_numbers.result (DevicesAreFound c.args.start (g.M.Medium.state c.judge_unit.new.unit) (g.C.Chip.state c.judge_card.new.card) (g.D.Chip.state c.judge_card-2.new.card) (g.C.Chip.card c.judge_card.new.card) (g.D.Chip.card c.judge_card-2.new.card)) =
    first_of (search rules, grind (arith, common_steps)) in
    let why : IfErr c.from_residual-in_err-judge_numbers.result (IsRefused c.args.start (devices (g.M.Medium.state c.args.unit.now) (g.C.Chip.state c.args.card_a.now) (g.D.Chip.state c.args.card_b.now)) (devices (g.M.Medium.state c.judge_unit.new.unit) (g.C.Chip.state c.judge_card.new.card) (g.D.Chip.state c.judge_card-2.new.card))) =
    first_of (search rules, grind (arith, common_steps)) in
    begun r c.args.start (g.M.Medium.state c.args.unit.now) (g.M.Medium.state c.judge_unit.new.unit) (g.C.Chip.state c.args.card_a.now) (g.C.Chip.state c.judge_card.new.card) (g.D.Chip.state c.args.card_b.now) (g.D.Chip.state c.judge_card-2.new.card)
    (g.met.M.Medium.coherent c.args.unit.now) (g.met.M.Medium.coherent c.judge_unit.new.unit) (g.met.C.Chip.coherent c.args.card_a.now) (g.met.C.Chip.coherent c.judge_card.new.card) (g.met.D.Chip.coherent c.args.card_b.now) (g.met.D.Chip.coherent c.judge_card-2.new.card)
    c.judge_unit.ensures.same c.judge_card.ensures.same c.judge_card-2.ensures.same begins (g.C.Chip.card c.judge_card.new.card) (g.D.Chip.card c.judge_card-2.new.card) c.from_residual-in_err-judge_numbers.result finds why

pub returns-clause-begins : goal.returns-clause-begins
returns-clause-begins g c = λ r begins.
    begun r c.args.start (g.M.Medium.state c.args.unit.now) (g.M.Medium.state c.judge_unit.new.unit) (g.C.Chip.state c.args.card_a.now) (g.C.Chip.state c.judge_card.new.card) (g.D.Chip.state c.args.card_b.now) (g.D.Chip.state c.judge_card-2.new.card)
    (g.met.M.Medium.coherent c.args.unit.now) (g.met.M.Medium.coherent c.judge_unit.new.unit) (g.met.C.Chip.coherent c.args.card_a.now) (g.met.C.Chip.coherent c.judge_card.new.card) (g.met.D.Chip.coherent c.args.card_b.now) (g.met.D.Chip.coherent c.judge_card-2.new.card)
    c.judge_unit.ensures.same c.judge_card.ensures.same c.judge_card-2.ensures.same begins (g.C.Chip.card c.judge_card.new.card) (g.D.Chip.card c.judge_card-2.new.card)
    (Ok (record { unit = c.in_ok-opened.opened; card_a = c.in_ok-a.a; card_b = c.in_ok-b.b })) (returns-clause-found g c) tt
