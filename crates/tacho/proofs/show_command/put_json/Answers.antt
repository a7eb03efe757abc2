use Rattle.std.proofs.lemmas.Result.{err_from_is_err_and}
use Rattle.std.proofs.Common.{◌≡◌, refl}
use Rattle.file_json.specs.Pieces.{pieces_text}
use Rattle.tacho.specs.declared.end.Fault.TheVariants.{WriteFault}
use Rattle.tacho.specs.View.{IsBadFile}
use Rattle.tacho.specs.declared.forms.Reading.TheVariants.{Show}
use Rattle.tacho.proofs.Puts.{not-written, unshown-put, pieces-put}
use Rattle.tacho.proofs.show_command.put_json.Goals as goal

pub returns-in_err-pieces-clause-ends : goal.returns-in_err-pieces-clause-ends
returns-in_err-pieces-clause-ends g c =
    let p = err_from_is_err_and c.from_residual.result c.from_residual.ensures.1 in
    rw (p.1, p.2) (unshown-put (Show c.args.last) c.args.b.now (g.K.Sink.held c.args.sink.now) (g.K.Sink.held c.args.sink.now) (c.args.sink.now ≡ c.args.sink.now) c.in_err-pieces.field-0.0 c.in_err-pieces.ensures.err refl)

pub put_pieces-requires : goal.put_pieces-requires
put_pieces-requires g c = rw c.as_slice.ensures.value c.in_ok-pieces.ensures.each

pub returns-clause-ends : goal.returns-clause-ends
returns-clause-ends g c =
    pieces-put c.args.last c.args.b.now (pieces_text c.args.b.now c.as_slice.result.now) (g.K.Sink.held c.args.sink.now) (g.K.Sink.held c.put_pieces.new.sink) (c.put_pieces.new.sink ≡ c.args.sink.now) c.put_pieces.result
    (rw c.as_slice.ensures.value c.in_ok-pieces.ensures.text) c.put_pieces.ensures.writes

pub returns-in_err-pieces-clause-cause : goal.returns-in_err-pieces-clause-cause
returns-in_err-pieces-clause-cause g c = λ is.
    let p = err_from_is_err_and c.from_residual.result c.from_residual.ensures.1 in
    let made = p.1 in
    let same = p.2 in
    let wrote : c.in_err-pieces.field-0.0 ≡ WriteFault = cc in
    absurd (not-written (λ p. IsBadFile p c.args.b.now) c.in_err-pieces.field-0.0 c.in_err-pieces.ensures.err wrote)
