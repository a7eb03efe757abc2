use Rattle.std.proofs.lemmas.Result.{err_from_is_err_and}
use Rattle.std.proofs.Common.{◌≡◌, ◌∙◌, ℕ, List, length, take, ap, subst, arith}
use Rattle.std.proofs.Math.Seq.{take-length}
use Rattle.std.proofs.KnownBytes.{Appends-nil}
use Rattle.std.specs.Io.KnownBytes.{Appends}
use Rattle.file_json.specs.declared.pieces.Piece.{Piece}
use Rattle.file_json.specs.Pieces.{pieces_text}
use Rattle.tacho.specs.declared.end.Fault.TheVariants.{WriteFault}
use Rattle.std.specs.Prelude.{Err}
use Rattle.tacho.proofs.Puts.{rose-later}
use Rattle.tacho.proofs.Pieces.{no_piece, piece_put, piece_cut}
use Rattle.tacho.proofs.show_command.put_pieces.Goals as goal

pub loop-piece-init : goal.loop-piece-init
loop-piece-init g c = record { written = Appends-nil (g.K.Sink.held c.args.sink.now); counts = omega arith }

pub put_piece-requires : goal.put_piece-requires
put_piece-requires g c = c.requires c.loop-piece.piece-index no_piece c.loop-piece-test.true

pub loop-piece-preserved : goal.loop-piece-preserved
loop-piece-preserved g c = record {
  written = piece_put c.args.b.now c.args.pieces.now c.loop-piece.piece-index c.loop-piece-test.true (g.K.Sink.held c.args.sink.now) (g.K.Sink.held c.loop-piece.sink) (g.K.Sink.held c.put_piece.new.sink) c.loop-piece.invariant.written c.in_ok-put_piece.ensures.writes;
  counts = omega (arith, c.loop-piece.invariant.counts, c.put_piece.ensures.counts);
}

pub returns-in_err-put_piece-clause-writes : goal.returns-in_err-put_piece-clause-writes
returns-in_err-put_piece-clause-writes g c =
    let p = err_from_is_err_and c.from_residual.result c.from_residual.ensures.1 in
    rw (p.1, p.2) (
      piece_cut c.args.b.now c.args.pieces.now c.loop-piece.piece-index c.loop-piece-test.true (g.K.Sink.held c.args.sink.now) (g.K.Sink.held c.loop-piece.sink) (g.K.Sink.held c.put_piece.new.sink) c.loop-piece.invariant.written c.in_err-put_piece.ensures.writes.0,
      c.in_err-put_piece.ensures.writes.1,
    )

pub returns-in_err-put_piece-clause-cause : goal.returns-in_err-put_piece-clause-cause
returns-in_err-put_piece-clause-cause g c = λ is.
    let p = err_from_is_err_and c.from_residual.result c.from_residual.ensures.1 in
    let made = p.1 in
    let fault = p.2 in
    let was = c.in_err-put_piece.was in
    let same : c.put_piece.result ≡ Err WriteFault = cc in
    rose-later (g.K.Sink.faults c.args.sink.now) (g.K.Sink.faults c.loop-piece.sink) (g.K.Sink.faults c.put_piece.new.sink) c.loop-piece.invariant.counts (c.put_piece.ensures.cause same)

pub returns-clause-writes : goal.returns-clause-writes
returns-clause-writes g c =
    let all : c.loop-piece.piece-index ≡ length c.args.pieces.now = omega (arith, c.loop-piece-test.false, c.loop-piece.auto.piece-index-end) in
    subst (λ (l : List Piece). Appends (g.K.Sink.held c.args.sink.now) (g.K.Sink.held c.loop-piece.sink) (pieces_text c.args.b.now l))
    (ap (λ (n : ℕ). take n c.args.pieces.now) all ∙ take-length c.args.pieces.now) c.loop-piece.invariant.written
