use Rattle.std.proofs.Common.{◌∙◌, Bool, subst, sym}
use Rattle.run_model.specs.declared.Device.TheVariants.{Unit as OfUnit}
use Rattle.tach_media.specs.Medium.{HasCause}
use Rattle.unit_memory.specs.Formats.{IsFormatting}
use Rattle.tacho.specs.Formatting.{unit_image}
use Rattle.tacho.specs.Outside.{SinkTold}
use Rattle.tacho.proofs.Formats.{of-ok, make-failed, make-done}
use Rattle.tacho.proofs.format_command.make_unit.Goals as goal

pub returns-then-is_err-clause-ends : goal.returns-then-is_err-clause-ends
returns-then-is_err-clause-ends g c =
    let old = g.U.Medium.state c.args.unit.now in
    let new = g.U.Medium.state c.format_unit.new.unit in
    let sink : SinkTold = record { held = g.K.Sink.held c.args.sink.now; faults = g.K.Sink.faults c.args.sink.now } in
    let failed = sym c.is_err.ensures.value ∙ c.if-is_err.true in
    make-failed OfUnit (unit_image c.args.identity.now) (IsFormatting (unit_image c.args.identity.now)) old new sink c.format_unit.ensures.moments
    (subst (λ (f : Bool). HasCause old new f) failed c.format_unit.ensures.cause)

pub returns-clause-ends : goal.returns-clause-ends
returns-clause-ends g c =
    let old = g.U.Medium.state c.args.unit.now in
    let new = g.U.Medium.state c.format_unit.new.unit in
    let before : SinkTold = record { held = g.K.Sink.held c.args.sink.now; faults = g.K.Sink.faults c.args.sink.now } in
    let after : SinkTold = record { held = g.K.Sink.held c.print_formatted.new.sink; faults = g.K.Sink.faults c.print_formatted.new.sink } in
    let fine = sym c.is_err.ensures.value ∙ c.if-is_err.false in
    make-done OfUnit (unit_image c.args.identity.now) (IsFormatting (unit_image c.args.identity.now)) old new before after c.print_formatted.result c.format_unit.ensures.moments
    (of-ok c.format_unit.result fine c.format_unit.ensures.formatted) (of-ok c.format_unit.result fine c.format_unit.ensures.settled)
    (subst (λ (f : Bool). HasCause old new f) fine c.format_unit.ensures.cause)
    c.print_formatted.ensures.ok c.print_formatted.ensures.err c.print_formatted.ensures.cause

-- ---- its writes

pub returns-then-is_err-clause-writes : goal.returns-then-is_err-clause-writes
returns-then-is_err-clause-writes g c = c.format_unit.ensures.most

pub returns-clause-writes : goal.returns-clause-writes
returns-clause-writes g c = c.format_unit.ensures.most
