use Rattle.std.proofs.Common.{◌∙◌, sym}
use Rattle.tach_media.specs.Medium.{Rose}
use Rattle.card_service.specs.declared.serving.Asked.TheVariants.{Reset, AnswerToReset, Command}
use Rattle.tach_media.proofs.Runs.{starts, weaken, from_reads}
use Rattle.card_service.specs.Answering.{card_told, asked_by}
use Rattle.card_service.proofs.Hearing.{heard_so, heard_reset, heard_told, caused_reset, caused_sent}
use Rattle.card_service.proofs.serving.hear.Goals as goal

pub returns-in-Reset-clause-heard : goal.returns-in-Reset-clause-heard
returns-in-Reset-clause-heard g c =
    let old = g.C.Chip.state c.args.chip.now in
    let new = g.C.Chip.state c.reset.new.chip in
    let held = g.K.Sink.held c.args.sink.now in
    let s = g.C.Chip.card c.args.chip.now in
    let t = g.C.Chip.card c.reset.new.chip in
    heard_so (asked_by c.args.bytes.now) Reset c.reset.result (card_told old s) c.args.bytes.now (card_told new t) held held (sym c.asked_by.ensures ∙ c.in-Reset.is)
    (heard_reset c.reset.result c.args.bytes.now old.image new.image old.clock new.clock s t held (c.reset.ensures.image.same c.requires.works) c.reset.ensures.clock c.reset.ensures.state c.reset.ensures.err)

pub returns-in-Reset-clause-moments : goal.returns-in-Reset-clause-moments
returns-in-Reset-clause-moments g c = from_reads c.reset.ensures.moments

pub returns-in-AnswerToReset-clause-moments : goal.returns-in-AnswerToReset-clause-moments
returns-in-AnswerToReset-clause-moments g c = starts (g.C.Chip.state c.args.chip.now) _

pub returns-in-Command-clause-moments : goal.returns-in-Command-clause-moments
returns-in-Command-clause-moments g c = weaken c.answer.ensures.moments (λ x d was left. (sym c.asked_by.ensures ∙ c.in-Command.is, left))

pub returns-in-Reset-clause-cause : goal.returns-in-Reset-clause-cause
returns-in-Reset-clause-cause g c = caused_reset c.reset.result _ (Rose (g.C.Chip.state c.args.chip.now).faults (g.C.Chip.state c.reset.new.chip).faults) c.reset.ensures.err c.reset.ensures.cause

pub returns-in-AnswerToReset-clause-heard : goal.returns-in-AnswerToReset-clause-heard
returns-in-AnswerToReset-clause-heard g c =
    let card = card_told (g.C.Chip.state c.args.chip.now) (g.C.Chip.card c.args.chip.now) in
    let held = g.K.Sink.held c.args.sink.now in
    let sunk = g.K.Sink.held c.send.new.sink in
    heard_so (asked_by c.args.bytes.now) AnswerToReset c.send.result card c.args.bytes.now card held sunk (sym c.asked_by.ensures ∙ c.in-AnswerToReset.is)
    (heard_told c.send.result c.args.bytes.now card held sunk (Rose (g.K.Sink.faults c.args.sink.now) (g.K.Sink.faults c.send.new.sink)) c.send.ensures.ok c.send.ensures.err)

pub returns-in-AnswerToReset-clause-cause : goal.returns-in-AnswerToReset-clause-cause
returns-in-AnswerToReset-clause-cause g c = caused_sent c.send.result _ (Rose (g.K.Sink.faults c.args.sink.now) (g.K.Sink.faults c.send.new.sink)) _ c.send.ensures.err

pub returns-in-Command-clause-heard : goal.returns-in-Command-clause-heard
returns-in-Command-clause-heard g c =
    heard_so (asked_by c.args.bytes.now) Command c.answer.result (card_told (g.C.Chip.state c.args.chip.now) (g.C.Chip.card c.args.chip.now)) c.args.bytes.now (card_told (g.C.Chip.state c.answer.new.chip) (g.C.Chip.card c.answer.new.chip))
    (g.K.Sink.held c.args.sink.now) (g.K.Sink.held c.answer.new.sink) (sym c.asked_by.ensures ∙ c.in-Command.is) c.answer.ensures.heard
