use Rattle.run_devices.specs.run_promise.Between.{devices}
use Rattle.run_note_record.proofs.RingsWaking.{power-begins, passed-anew, accepted-anew, cut-anew}
use Rattle.run_note_record.proofs.ring_laws.a_power_on_is_carried_in_rings.Goals as goal

pub returns : goal.returns
returns g c =
    let d = devices (g.M.Medium.state c.args.old_unit.now) (g.C.Chip.state c.args.old_a.now) (g.D.Chip.state c.args.old_b.now) in
    let e = devices (g.N.Medium.state c.args.unit.now) (g.E.Chip.state c.args.card_a.now) (g.F.Chip.state c.args.card_b.now) in
    record {
      begins = power-begins d;
      passed = passed-anew d e;
      accepted = accepted-anew d e;
      cut = cut-anew d e;
    }
