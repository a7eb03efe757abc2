use Rattle.run_devices.specs.run_promise.Between.{devices}
use Rattle.run_note_record.proofs.SoFar.{second-begins, notes-nothing, second-ends, cut-ends, dark-ends}
use Rattle.run_note_record.proofs.ring_laws.a_second_is_carried_in_rings.Goals as goal

pub returns : goal.returns
returns g c =
    let d = devices (g.M.Medium.state c.args.unit.now) (g.C.Chip.state c.args.card_a.now) (g.D.Chip.state c.args.card_b.now) in
    record { begins = second-begins d; nothing = notes-nothing d; ends = second-ends d; cut = cut-ends d; dark = dark-ends d }
