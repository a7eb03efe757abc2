use Rattle.std.specs.List.{flat_map}
use Rattle.device_state.specs.Lines.{vehicle_lines, time_lines, owed_line}
use Rattle.device_state.proofs.Joining.{three_pieces}
use Rattle.device_state.proofs.lines.add_told.Goals as goal

pub returns : goal.returns
returns c =
    rw (c.in_ok-add_rows.ensures, c.in_ok-extend_from_slice-2.ensures.items, c.time_lines.ensures, c.in_ok-extend_from_slice.ensures.items, c.vehicle_lines.ensures)
    (three_pieces c.args.lines.now.items (vehicle_lines c.args.told.now) (time_lines c.args.told.now) (flat_map owed_line c.args.told.now.owed))
