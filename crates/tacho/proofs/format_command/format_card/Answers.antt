use Rattle.std.proofs.lemmas.Result.{err_from_is_err_and}
use Rattle.std.proofs.lemmas.Grind.{common_steps}
use Rattle.std.proofs.Common.{◌≡◌, ◌∙◌, List, ℕ, length, Bool, ap, subst, sym, arith, rules}
use Rattle.std.specs.Prelude.{Err}
use Rattle.tach_media.specs.Medium.{HasCause}
use Rattle.tacho.specs.Formatting.{EndsFormat, IsIssuing}
use Rattle.tacho.specs.Outside.{SinkTold}
use Rattle.tacho.specs.End.{end_of}
use Rattle.tacho.specs.declared.end.Fault.TheVariants.{MediumFault}
use Rattle.tacho.proofs.Formats.{largest-size, of-ok, issue-failed, issue-done}
use Rattle.tacho.proofs.format_command.format_card.Goals as goal

pub issue-requires-clause-least : goal.issue-requires-clause-least
issue-requires-clause-least g c = omega (arith, c.as_slice.ensures.len, c.in_ok-image.ensures.size, largest-size)

pub issue-requires-clause-most : goal.issue-requires-clause-most
issue-requires-clause-most g c = omega (arith, c.as_slice.ensures.len, c.in_ok-image.ensures.size, largest-size, c.requires.sized)

pub returns-then-is_err-clause-ends : goal.returns-then-is_err-clause-ends
returns-then-is_err-clause-ends g c =
    let old = g.C.Chip.state c.args.card.now in
    let new = g.C.Chip.state c.issue.new.self in
    let sink : SinkTold = record { held = g.K.Sink.held c.args.sink.now; faults = g.K.Sink.faults c.args.sink.now } in
    let failed = sym c.is_err.ensures.value ∙ c.if-is_err.true in
    let cause = subst (λ (f : Bool). HasCause old new f) failed c.issue.ensures.cause in
    subst (λ (image : List ℕ). EndsFormat c.args.device image (IsIssuing image) old new sink sink (MediumFault c.args.device)) (c.as_slice.ensures.value ∙ c.in_ok-image.ensures.image)
    (issue-failed c.args.device c.as_slice.result.now old new (g.met.C.Chip.coherent c.args.card.now) (omega (arith, c.as_slice.ensures.len, c.in_ok-image.ensures.size, largest-size)) c.requires sink c.issue.ensures.moments cause)

pub returns-clause-ends : goal.returns-clause-ends
returns-clause-ends g c =
    let old = g.C.Chip.state c.args.card.now in
    let new = g.C.Chip.state c.issue.new.self in
    let before : SinkTold = record { held = g.K.Sink.held c.args.sink.now; faults = g.K.Sink.faults c.args.sink.now } in
    let after : SinkTold = record { held = g.K.Sink.held c.print_formatted.new.sink; faults = g.K.Sink.faults c.print_formatted.new.sink } in
    let fine = sym c.is_err.ensures.value ∙ c.if-is_err.false in
    let cause = subst (λ (f : Bool). HasCause old new f) fine c.issue.ensures.cause in
    subst (λ (image : List ℕ). EndsFormat c.args.device image (IsIssuing image) old new before after (end_of c.print_formatted.result)) (c.as_slice.ensures.value ∙ c.in_ok-image.ensures.image)
    (issue-done c.args.device c.as_slice.result.now old new (g.met.C.Chip.coherent c.args.card.now) (omega (arith, c.as_slice.ensures.len, c.in_ok-image.ensures.size, largest-size)) c.requires
    before after c.print_formatted.result c.issue.ensures.moments (of-ok c.issue.result fine c.issue.ensures.written) (of-ok c.issue.result fine c.issue.ensures.settled) cause
    c.print_formatted.ensures.ok c.print_formatted.ensures.err c.print_formatted.ensures.cause)

-- ---- its writes

pub returns-then-is_err-clause-writes : goal.returns-then-is_err-clause-writes
returns-then-is_err-clause-writes g c =
    let long : length c.as_slice.result.now ≡ 24959 = omega (arith, c.as_slice.ensures.len, c.in_ok-image.ensures.size, largest-size) in
    let few = c.issue.ensures.few in
    omega (arith, long, few)

pub returns-clause-writes : goal.returns-clause-writes
returns-clause-writes g c =
    let long : length c.as_slice.result.now ≡ 24959 = omega (arith, c.as_slice.ensures.len, c.in_ok-image.ensures.size, largest-size) in
    let few = c.issue.ensures.few in
    omega (arith, long, few)

-- ---- there was no memory

pub returns-in_err-image-clause-ends : goal.returns-in_err-image-clause-ends
returns-in_err-image-clause-ends g c =
    let p = err_from_is_err_and c.from_residual.result c.from_residual.ensures.1 in
    rw (p.1, p.2) (first_of (search rules, grind (arith, common_steps)))

pub returns-in_err-image-clause-state : goal.returns-in_err-image-clause-state
returns-in_err-image-clause-state g c = λ none.
    let p = err_from_is_err_and c.from_residual.result c.from_residual.ensures.1 in
    absurd (none (p.1 ∙ ap Err p.2))
