use Rattle.run_devices.proofs.Entered.{entered-powered, entered-powerless, accepted-put, accepted-marked}
use Rattle.run_devices.proofs.device_laws.a_card_that_is_put_in_leaves_what_is_carried.Goals as goal

pub returns-clause-powered : goal.returns-clause-powered
returns-clause-powered g c = λ f w cards card registration odometer now found long vehicle few out bare late room enters works p.
    entered-powered f w cards card (g.M.Medium.state c.args.unit.now) (g.N.Medium.state c.args.unit_after.now) (g.C.Chip.state c.args.mine.now) (g.D.Chip.state c.args.mine_after.now) (g.E.Chip.state c.args.others.now) found (g.met.M.Medium.coherent c.args.unit.now)
    (g.met.N.Medium.coherent c.args.unit_after.now) (g.met.C.Chip.coherent c.args.mine.now) (g.met.D.Chip.coherent c.args.mine_after.now) registration long vehicle odometer now few c.args.answer.now out bare p late room enters works

pub returns-clause-powerless : goal.returns-clause-powerless
returns-clause-powerless g c = λ f w cards card registration odometer now found long vehicle few out bare late room enters p.
    entered-powerless f w cards card (g.M.Medium.state c.args.unit.now) (g.N.Medium.state c.args.unit_after.now) (g.C.Chip.state c.args.mine.now) (g.D.Chip.state c.args.mine_after.now) (g.E.Chip.state c.args.others.now) found (g.met.M.Medium.coherent c.args.unit.now)
    (g.met.N.Medium.coherent c.args.unit_after.now) (g.met.C.Chip.coherent c.args.mine.now) (g.met.D.Chip.coherent c.args.mine_after.now) registration long vehicle odometer now few c.args.answer.now out bare p late room enters

pub returns-clause-accepted : goal.returns-clause-accepted
returns-clause-accepted g c = λ f w cards card registration odometer now found long vehicle few out bare late room enters p valid e ok. (
  accepted-put f w cards card (g.M.Medium.state c.args.unit.now) (g.N.Medium.state c.args.unit_after.now) (g.C.Chip.state c.args.mine.now) (g.D.Chip.state c.args.mine_after.now) (g.E.Chip.state c.args.others.now) found (g.met.M.Medium.coherent c.args.unit.now)
      (g.met.N.Medium.coherent c.args.unit_after.now) (g.met.C.Chip.coherent c.args.mine.now) (g.met.D.Chip.coherent c.args.mine_after.now) registration long vehicle odometer now few c.args.answer.now out bare p late room enters valid e ok,
  λ works settled.
      accepted-marked f w cards card (g.M.Medium.state c.args.unit.now) (g.N.Medium.state c.args.unit_after.now) (g.C.Chip.state c.args.mine.now) (g.D.Chip.state c.args.mine_after.now) (g.E.Chip.state c.args.others.now) found (g.met.M.Medium.coherent c.args.unit.now)
      (g.met.N.Medium.coherent c.args.unit_after.now) (g.met.C.Chip.coherent c.args.mine.now) (g.met.D.Chip.coherent c.args.mine_after.now) registration long vehicle odometer now few c.args.answer.now out bare p late room enters valid e ok works settled,
)
