use Rattle.run_devices.specs.run_promise.Between.{devices}
use Rattle.run_note_record.proofs.RingSteps.{passes, action-cut, place-entered, place-is-cut, card-withdrawn, withdrawal-is-cut, card-accepted, acceptance-is-cut}
use Rattle.run_note_record.proofs.ring_laws.an_action_is_carried_in_rings.Goals as goal

pub returns : goal.returns
returns g c =
    let d = devices (g.M.Medium.state c.args.old_unit.now) (g.C.Chip.state c.args.old_a.now) (g.D.Chip.state c.args.old_b.now) in
    let e = devices (g.N.Medium.state c.args.unit.now) (g.E.Chip.state c.args.card_a.now) (g.F.Chip.state c.args.card_b.now) in
    record {
      passes = passes d e;
      cut = action-cut d e;
      place = place-entered d e;
      place_cut = place-is-cut d e;
      withdrawal = card-withdrawn d e;
      withdrawal_cut = withdrawal-is-cut d e;
      insertion = card-accepted d e;
      insertion_cut = acceptance-is-cut d e;
    }
