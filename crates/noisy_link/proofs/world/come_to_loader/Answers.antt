use Rattle.std.proofs.Common.{length, Err, refl, sym, ap, arith}
use Rattle.std.proofs.lemmas.Option.{slice_get_read}
use Rattle.unit_download.specs.declared.fault.DownloadFault.TheVariants.{Changed, WriteFault}
use Rattle.noisy_link.specs.Steps.{told_as}
use Rattle.noisy_link.proofs.Stepping.{takes_there, refusal_there, memory_there}
use Rattle.noisy_link.proofs.world.come_to_loader.Goals as goal

pub returns-in-Ok-clause-taken : goal.returns-in-Ok-clause-taken
returns-in-Ok-clause-taken g c =
    let p = c.index-answers-place.result in
    let at = slice_get_read c.args.answers.now (length c.args.answers.now) c.args.place p refl (omega arith) c.index-answers-place.is in
    takes_there c.args.end.now c.args.answers.now c.args.place p c.take.new.self _ (g.K.Sink.held c.args.sink.now) (g.K.Sink.held c.take.new.sink) at c.in-Ok.ensures.taken

pub returns-in-Err-WriteFault-clause-taken : goal.returns-in-Err-WriteFault-clause-taken
returns-in-Err-WriteFault-clause-taken g c =
    let p = c.index-answers-place.result in
    let at = slice_get_read c.args.answers.now (length c.args.answers.now) c.args.place p refl (omega arith) c.index-answers-place.is in
    refusal_there WriteFault c.in-Err-WriteFault.field-0 c.args.end.now c.args.answers.now c.args.place p c.take.new.self (g.K.Sink.held c.args.sink.now) (g.K.Sink.held c.take.new.sink) at (sym (ap told_as c.in-Err-WriteFault.field-0-is))
    c.in-Err-WriteFault.ensures.refused c.in-Err-WriteFault.ensures.left

pub returns-in-Err-Memory-clause-taken : goal.returns-in-Err-Memory-clause-taken
returns-in-Err-Memory-clause-taken g c =
    let p = c.index-answers-place.result in
    let at = slice_get_read c.args.answers.now (length c.args.answers.now) c.args.place p refl (omega arith) c.index-answers-place.is in
    let e = c.in-Err-Memory.ensures in
    let none = c.in-Err-Memory.field-0-is in
    memory_there c.in-Err-Memory.field-0 c.args.end.now c.args.answers.now c.args.place p c.take.new.self (g.K.Sink.held c.args.sink.now) (g.K.Sink.held c.take.new.sink) at none e.refused (e.enough (ap Err none)) (e.same (ap Err none))

pub returns-in-Err-Negative-clause-taken : goal.returns-in-Err-Negative-clause-taken
returns-in-Err-Negative-clause-taken g c =
    let p = c.index-answers-place.result in
    let at = slice_get_read c.args.answers.now (length c.args.answers.now) c.args.place p refl (omega arith) c.index-answers-place.is in
    refusal_there Changed c.in-Err-Negative.field-0 c.args.end.now c.args.answers.now c.args.place p c.take.new.self (g.K.Sink.held c.args.sink.now) (g.K.Sink.held c.take.new.sink) at (sym (ap told_as c.in-Err-Negative.field-0-is))
    c.in-Err-Negative.ensures.refused c.in-Err-Negative.ensures.left

pub returns-in-Err-Unexpected-clause-taken : goal.returns-in-Err-Unexpected-clause-taken
returns-in-Err-Unexpected-clause-taken g c =
    let p = c.index-answers-place.result in
    let at = slice_get_read c.args.answers.now (length c.args.answers.now) c.args.place p refl (omega arith) c.index-answers-place.is in
    refusal_there Changed c.in-Err-Unexpected.field-0 c.args.end.now c.args.answers.now c.args.place p c.take.new.self (g.K.Sink.held c.args.sink.now) (g.K.Sink.held c.take.new.sink) at (sym (ap told_as c.in-Err-Unexpected.field-0-is))
    c.in-Err-Unexpected.ensures.refused c.in-Err-Unexpected.ensures.left

pub returns-in-Err-Broken-clause-taken : goal.returns-in-Err-Broken-clause-taken
returns-in-Err-Broken-clause-taken g c =
    let p = c.index-answers-place.result in
    let at = slice_get_read c.args.answers.now (length c.args.answers.now) c.args.place p refl (omega arith) c.index-answers-place.is in
    refusal_there Changed c.in-Err-Broken.field-0 c.args.end.now c.args.answers.now c.args.place p c.take.new.self (g.K.Sink.held c.args.sink.now) (g.K.Sink.held c.take.new.sink) at (sym (ap told_as c.in-Err-Broken.field-0-is))
    c.in-Err-Broken.ensures.refused c.in-Err-Broken.ensures.left
