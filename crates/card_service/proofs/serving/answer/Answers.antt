use Rattle.std.proofs.Common.{◌≡◌, ◌∙◌, ◌<◌, Bool, ℕ, List, sym, ap, subst, arith}
use Rattle.std.specs.Prelude.{OnOk, IfErr, is_err, not, slice_index}
use Rattle.std.specs.Io.KnownBytes.{Appends}
use Rattle.card_layout.specs.Outcomes.{outcome_of}
use Rattle.tach_media.specs.Medium.{Rose}
use Rattle.tach_media.specs.Chip.{Does}
use Rattle.tach_media.specs.Streams.{AppendsFront}
use Rattle.card_service.specs.declared.serving.CardFault.TheVariants.{WriteFault}
use Rattle.card_service.specs.Packets.{packet}
use Rattle.card_service.specs.Answering.{card_told}
use Rattle.card_service.proofs.Cards.{does_cause, does_clock, does_leave, few_put, where_ok, where_err, on_ok}
use Rattle.card_service.proofs.Hearing.{heard_done, heard_failed, heard_untold}
use Rattle.card_service.proofs.serving.answer.Goals as goal

pub returns-in_err-send-clause-heard : goal.returns-in_err-send-clause-heard
returns-in_err-send-clause-heard g c =
    let low : slice_index c.args.command.now 4 < 256 = omega (arith, c.type_inv.command 4) in
    let few = few_put (g.C.Chip.card c.args.chip.now) c.args.command.now low in
    let count = does_clock (outcome_of (g.C.Chip.card c.args.chip.now) c.args.command.now).effect (g.C.Chip.state c.args.chip.now) (g.C.Chip.state c.transmit.new.self) (is_err c.transmit.result) few c.transmit.ensures.image in
    let failed = sym c.is_err.ensures.value ∙ c.if-is_err.true in
    heard_untold c.from_residual.result _ c.args.command.now (card_told (g.C.Chip.state c.args.chip.now) (g.C.Chip.card c.args.chip.now)) (card_told (g.C.Chip.state c.transmit.new.self) (g.C.Chip.card c.transmit.new.self))
    (g.K.Sink.held c.args.sink.now) (g.K.Sink.held c.send.new.sink) _ c.from_residual.ensures.1 (where_err c.transmit.result failed c.transmit.ensures.kept) count c.in_err-send.ensures.err

pub returns-in_err-send-clause-counts : goal.returns-in_err-send-clause-counts
returns-in_err-send-clause-counts g c =
    let cause = does_cause (outcome_of (g.C.Chip.card c.args.chip.now) c.args.command.now).effect (g.C.Chip.state c.args.chip.now) (g.C.Chip.state c.transmit.new.self) (is_err c.transmit.result) c.transmit.ensures.image in
    (c.send.ensures.counts, cause.faults)

pub returns-then-is_err-clause-heard : goal.returns-then-is_err-clause-heard
returns-then-is_err-clause-heard g c =
    let low : slice_index c.args.command.now 4 < 256 = omega (arith, c.type_inv.command 4) in
    let few = few_put (g.C.Chip.card c.args.chip.now) c.args.command.now low in
    let count = does_clock (outcome_of (g.C.Chip.card c.args.chip.now) c.args.command.now).effect (g.C.Chip.state c.args.chip.now) (g.C.Chip.state c.transmit.new.self) (is_err c.transmit.result) few c.transmit.ensures.image in
    let failed = sym c.is_err.ensures.value ∙ c.if-is_err.true in
    heard_failed c.args.command.now (card_told (g.C.Chip.state c.args.chip.now) (g.C.Chip.card c.args.chip.now)) (card_told (g.C.Chip.state c.transmit.new.self) (g.C.Chip.card c.transmit.new.self))
    (g.K.Sink.held c.args.sink.now) (g.K.Sink.held c.send.new.sink) (where_err c.transmit.result failed c.transmit.ensures.kept) count c.in_ok-send.ensures.ok

pub returns-then-is_err-clause-cause : goal.returns-then-is_err-clause-cause
returns-then-is_err-clause-cause g c =
    let failed = sym c.is_err.ensures.value ∙ c.if-is_err.true in
    let cause = does_cause (outcome_of (g.C.Chip.card c.args.chip.now) c.args.command.now).effect (g.C.Chip.state c.args.chip.now) (g.C.Chip.state c.transmit.new.self) (is_err c.transmit.result) c.transmit.ensures.image in
    cause.fault failed

pub returns-then-is_err-clause-counts : goal.returns-then-is_err-clause-counts
returns-then-is_err-clause-counts g c =
    let cause = does_cause (outcome_of (g.C.Chip.card c.args.chip.now) c.args.command.now).effect (g.C.Chip.state c.args.chip.now) (g.C.Chip.state c.transmit.new.self) (is_err c.transmit.result) c.transmit.ensures.image in
    (c.send.ensures.counts, cause.faults)

pub returns-clause-heard : goal.returns-clause-heard
returns-clause-heard g c =
    let low : slice_index c.args.command.now 4 < 256 = omega (arith, c.type_inv.command 4) in
    let few = few_put (g.C.Chip.card c.args.chip.now) c.args.command.now low in
    let well = sym c.is_err.ensures.value ∙ c.if-is_err.false in
    let held = g.K.Sink.held c.args.sink.now in
    let sunk = g.K.Sink.held c.send-2.new.sink in
    let old = g.C.Chip.state c.args.chip.now in
    let new = g.C.Chip.state c.transmit.new.self in
    let state = g.C.Chip.card c.args.chip.now in
    let r = c.send-2.result in
    let command = c.args.command.now in
    let does = subst (λ (b : Bool). Does (outcome_of state command).effect old new b) well c.transmit.ensures.image in
    heard_done r command c.transmit.new.answer.items old new state (g.C.Chip.card c.transmit.new.self) held sunk (Rose (g.K.Sink.faults c.args.sink.now) (g.K.Sink.faults c.send-2.new.sink))
    (where_ok c.transmit.result well c.transmit.ensures.answered) few does
    (subst (λ (l : List ℕ). OnOk r (Appends held sunk (packet l))) c.as_slice.ensures.value c.send-2.ensures.ok)
    (subst (λ (l : List ℕ). IfErr r (λ fault. (fault ≡ WriteFault) × AppendsFront held sunk (packet l) × Rose (g.K.Sink.faults c.args.sink.now) (g.K.Sink.faults c.send-2.new.sink))) c.as_slice.ensures.value c.send-2.ensures.err)

pub returns-clause-works : goal.returns-clause-works
returns-clause-works g c =
    let well = sym c.is_err.ensures.value ∙ c.if-is_err.false in
    let cause = does_cause (outcome_of (g.C.Chip.card c.args.chip.now) c.args.command.now).effect (g.C.Chip.state c.args.chip.now) (g.C.Chip.state c.transmit.new.self) (is_err c.transmit.result) c.transmit.ensures.image in
    on_ok c.send-2.result (cause.works ∙ ap not well)

pub returns-clause-counts : goal.returns-clause-counts
returns-clause-counts g c =
    let cause = does_cause (outcome_of (g.C.Chip.card c.args.chip.now) c.args.command.now).effect (g.C.Chip.state c.args.chip.now) (g.C.Chip.state c.transmit.new.self) (is_err c.transmit.result) c.transmit.ensures.image in
    (c.send-2.ensures.counts, cause.faults)

pub returns-in_err-send-clause-moments : goal.returns-in_err-send-clause-moments
returns-in_err-send-clause-moments g c = does_leave (outcome_of (g.C.Chip.card c.args.chip.now) c.args.command.now).effect (g.C.Chip.state c.args.chip.now) (g.C.Chip.state c.transmit.new.self) (is_err c.transmit.result) c.transmit.ensures.image

pub returns-then-is_err-clause-moments : goal.returns-then-is_err-clause-moments
returns-then-is_err-clause-moments g c = does_leave (outcome_of (g.C.Chip.card c.args.chip.now) c.args.command.now).effect (g.C.Chip.state c.args.chip.now) (g.C.Chip.state c.transmit.new.self) (is_err c.transmit.result) c.transmit.ensures.image

pub returns-clause-moments : goal.returns-clause-moments
returns-clause-moments g c = does_leave (outcome_of (g.C.Chip.card c.args.chip.now) c.args.command.now).effect (g.C.Chip.state c.args.chip.now) (g.C.Chip.state c.transmit.new.self) (is_err c.transmit.result) c.transmit.ensures.image
