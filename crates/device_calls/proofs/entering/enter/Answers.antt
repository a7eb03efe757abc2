use Rattle.std.proofs.lemmas.Grind.{common_steps}
use Rattle.std.proofs.Common.{rules, ◌≡◌, subst, arith}
use Rattle.card_layout.proofs.Sizes.{largest_image}
use Rattle.unit_rule.specs.device_rule.Views.{other}
use Rattle.unit_rule.proofs.Marking.{holds-read}
use Rattle.device_calls.specs.OnCard.{Anything}
use Rattle.device_calls.proofs.Enters.{unit-read, unit-still, agrees-still, entering-rule, entered-answer}
use Rattle.card_layout.specs.declared.files.Application.{Application}
use Rattle.tach_media.specs.Medium.{State, LeavesOnly, lent}
use Rattle.card_commands.specs.Ports.{port_state}
use Rattle.card_session.specs.Inserting.{MayInsert}
use Rattle.device_calls.specs.Entering.{IsEntering, IsInTime}
use Rattle.device_calls.proofs.Ported.{may_insert_port, port_same, port_leaves, port_enters, port_in_time}
use Rattle.device_calls.proofs.entering.enter.Goals as goal

pub enter_by-requires-clause-card : goal.enter_by-requires-clause-card
enter_by-requires-clause-card g c = record {
  sizes = first_of (search rules, grind (arith, common_steps));
  card = subst (λ (a : Application). MayInsert a (port_state c.resume-port.result.application (lent c.resume-port.result.chip.ghost_name (g.C.Chip.state c.resume-port.result.chip.now)))) c.resume-port.ensures.sizes (may_insert_port c.resume-port.result.sound);
  told = first_of (search rules, grind (arith, common_steps));
}

pub returns-clause-enters : goal.returns-clause-enters
returns-clause-enters g c =
    let name = c.resume-port.result.chip.ghost_name in
    let after = c.enter_by.new.card.chip.ghost_name in
    let X = g.C.Chip.state c.resume-port.result.chip.now in
    let Y = g.C.Chip.state c.enter_by.new.card.chip.now in
    let was : g.C.Chip.state c.resume-port.result.chip.now ≡ g.C.Chip.state c.args.card.now = search rules in
    let same = port_same c.resume-port.result.application c.enter_by.new.card.application name after X Y c.enter_by.ensures.put.leaves in
    let enters = port_enters c.resume-port.result.application c.enter_by.new.card.application name after X Y c.args.insertion.app c.args.insertion.registration c.args.insertion.odometer.0 c.args.insertion.time.0 (g.M.Medium.state c.args.unit.now) (g.M.Medium.state c.enter_by.new.unit) same
    c.enter_by.result c.enter_by.ensures.enters in
    let moved = subst (λ (k : State). IsEntering c.args.insertion.app c.args.insertion.registration c.args.insertion.odometer.0 c.args.insertion.time.0 (g.M.Medium.state c.args.unit.now) (g.M.Medium.state c.enter_by.new.unit) k (g.C.Chip.state c.enter_by.new.card.chip.now) c.enter_by.result) was enters in
    search (rules, moved)

pub returns-clause-row : goal.returns-clause-row
returns-clause-row g c = c.enter_by.ensures.row

pub returns-clause-rules : goal.returns-clause-rules
returns-clause-rules g c = record {
  holds = λ s due b marks h. holds-read s due b marks h (g.met.M.Medium.coherent c.args.unit.now) c.enter_by.ensures.enters.unit.leaves;
  others = λ r b z m d rule. unit-read r (other c.args.which) b z m d (g.M.Medium.state c.args.unit.now) (g.M.Medium.state c.enter_by.new.unit) (g.D.Chip.state c.args.others.now) (g.met.M.Medium.coherent c.args.unit.now) c.enter_by.ensures.enters.unit.leaves rule;
  mine =
      λ r s due b marks h none late tells tells_card asked rule.
      entering-rule r c.args.which s due b marks c.args.insertion.app c.requires.port.good c.args.insertion.registration c.length_of-bytes.ensures c.args.insertion.odometer.0 c.args.insertion.time.0 (omega (arith, c.requires.may.last)) h none late (g.met.M.Medium.coherent c.args.unit.now) (g.met.M.Medium.coherent c.enter_by.new.unit)
      (g.met.C.Chip.coherent c.args.card.now) (omega (arith, largest_image c.args.insertion.app c.requires.port.good, c.requires.port.size)) tells tells_card asked rule c.enter_by.result (returns-clause-enters g c);
  entered =
      λ r s due b marks h none late tells tells_card asked rule.
      entered-answer r c.args.which s due b marks c.args.insertion.app c.requires.port.good c.args.insertion.registration c.length_of-bytes.ensures c.args.insertion.odometer.0 c.args.insertion.time.0 (omega (arith, c.requires.may.last)) h none late (g.met.M.Medium.coherent c.args.unit.now) (g.met.M.Medium.coherent c.enter_by.new.unit)
      (g.met.C.Chip.coherent c.args.card.now) (g.met.C.Chip.coherent _) (omega (arith, largest_image c.args.insertion.app c.requires.port.good, c.requires.port.size)) tells tells_card asked rule c.enter_by.result (returns-clause-enters g c);
}

pub returns-clause-stands : goal.returns-clause-stands
returns-clause-stands g c = record {
  unit = unit-still (g.M.Medium.state c.args.unit.now) (g.M.Medium.state c.enter_by.new.unit) c.enter_by.ensures.enters.unit.leaves c.requires.ready.unit;
  agrees = λ well. agrees-still c.args.journal.now _ _ (c.enter_by.ensures.enters.unit.same well) c.requires.ready.agrees;
}

pub returns-clause-card : goal.returns-clause-card
returns-clause-card g c = record {
  leaves =
      let name = c.resume-port.result.chip.ghost_name in
      let after = c.enter_by.new.card.chip.ghost_name in
      let X = g.C.Chip.state c.resume-port.result.chip.now in
      let Y = g.C.Chip.state c.enter_by.new.card.chip.now in
      let was : g.C.Chip.state c.resume-port.result.chip.now ≡ g.C.Chip.state c.args.card.now = search rules in
      let same = port_same c.resume-port.result.application c.enter_by.new.card.application name after X Y c.enter_by.ensures.put.leaves in
      let run = port_leaves c.resume-port.result.application c.enter_by.new.card.application name after X Y same c.enter_by.ensures.put.leaves in
      let leaves = subst (λ (s : State). LeavesOnly s (g.C.Chip.state c.enter_by.new.card.chip.now) Anything) was run in
      search (rules, leaves);
  in_time =
      let name = c.resume-port.result.chip.ghost_name in
      let after = c.enter_by.new.card.chip.ghost_name in
      let X = g.C.Chip.state c.resume-port.result.chip.now in
      let Y = g.C.Chip.state c.enter_by.new.card.chip.now in
      let was : g.C.Chip.state c.resume-port.result.chip.now ≡ g.C.Chip.state c.args.card.now = search rules in
      let same = port_same c.resume-port.result.application c.enter_by.new.card.application name after X Y c.enter_by.ensures.put.leaves in
      let in_time = port_in_time c.resume-port.result.application c.enter_by.new.card.application name after X Y c.args.insertion.app c.args.insertion.registration c.args.insertion.odometer.0 c.args.insertion.time.0 (g.M.Medium.state c.args.unit.now) (g.M.Medium.state c.enter_by.new.unit) same c.enter_by.ensures.put.in_time in
      let moved = subst (λ (s : State). IsInTime c.args.insertion.app c.args.insertion.time.0 s (g.C.Chip.state c.enter_by.new.card.chip.now)) was in_time in
      search (rules, moved);
  port = first_of (search rules, grind (arith, common_steps));
}

pub enter_by-requires-clause-ready : goal.enter_by-requires-clause-ready
enter_by-requires-clause-ready g c = c.requires.ready

pub enter_by-requires-clause-may : goal.enter_by-requires-clause-may
enter_by-requires-clause-may g c = c.requires.may
