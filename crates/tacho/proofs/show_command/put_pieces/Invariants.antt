use Rattle.std.proofs.Common.{◌≤◌, take}
use Rattle.std.specs.Io.KnownBytes.{Appends}
use Rattle.file_json.specs.Pieces.{pieces_text}
use Rattle.tacho.proofs.show_command.put_pieces.Given as goal

-- the pieces so far went to the sink
abbrev pub invariant-loop-piece : goal.invariant-loop-piece
invariant-loop-piece g l = record {
  written : Appends (g.K.Sink.held l.fn.sink) (g.K.Sink.held l.sink) (pieces_text l.b (take l.piece-index l.pieces));
  counts : g.K.Sink.faults l.fn.sink ≤ g.K.Sink.faults l.sink;
}
