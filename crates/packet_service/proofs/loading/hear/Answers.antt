use Rattle.std.proofs.Common.{◌∙◌, Bool, Err, refl, sym, ap, subst}
use Rattle.tach_media.specs.Medium.{Rose}
use Rattle.link_loader.specs.declared.fault.LoadFault.TheVariants as load
use Rattle.noisy_link.specs.Sides.{TakesPacket}
use Rattle.packet_service.specs.Loading.{Sinks}
use Rattle.packet_service.proofs.Hearing.{taken_again, taken_none, taken_not, taken_next, refused_last, lacks_last, empty_so, filled_so, caused_sending}
use Rattle.packet_service.proofs.loading.hear.Goals as goal

pub returns-then-is_empty-clause-taken : goal.returns-then-is_empty-clause-taken
returns-then-is_empty-clause-taken g c =
    let held : Sinks = record { link = g.K.Sink.held c.args.link.now; file = g.F.Sink.held c.args.file.now } in
    let sunk : Sinks = record { link = g.K.Sink.held c.send.new.link; file = g.F.Sink.held c.args.file.now } in
    taken_again c.args.end.now c.args.bytes.now held sunk c.send.result _ (empty_so c.args.bytes.now (sym c.is_empty.ensures ∙ c.if-is_empty.true)) c.send.ensures.ok c.send.ensures.err refl

pub returns-then-is_empty-clause-cause : goal.returns-then-is_empty-clause-cause
returns-then-is_empty-clause-cause g c =
    caused_sending c.send.result _ (Rose (g.K.Sink.faults c.args.link.now) (g.K.Sink.faults c.send.new.link)) (Rose (g.F.Sink.faults c.args.file.now) (g.F.Sink.faults c.args.file.now)) c.send.ensures.err

pub returns-in_default-clause-taken : goal.returns-in_default-clause-taken
returns-in_default-clause-taken g c =
    let held : Sinks = record { link = g.K.Sink.held c.args.link.now; file = g.F.Sink.held c.args.file.now } in
    taken_none c.args.end.now c.args.bytes.now held held (filled_so c.args.bytes.now (sym c.is_empty.ensures ∙ c.if-is_empty.false)) (sym c.read_packet.ensures ∙ c.in_default.is) refl refl

pub returns-else-taken-clause-taken : goal.returns-else-taken-clause-taken
returns-else-taken-clause-taken g c =
    let held : Sinks = record { link = g.K.Sink.held c.args.link.now; file = g.F.Sink.held c.args.file.now } in
    let sunk : Sinks = record { link = g.K.Sink.held c.args.link.now; file = g.F.Sink.held c.take.new.sink } in
    taken_not c.args.end.now c.args.bytes.now held sunk c.in-Some.packet (filled_so c.args.bytes.now (sym c.is_empty.ensures ∙ c.if-is_empty.false)) (sym c.read_packet.ensures ∙ c.in-Some.is) c.take.new.self
    (subst (λ (b : Bool). TakesPacket c.args.end.now c.in-Some.packet c.take.new.self b held.file sunk.file) c.if-taken.false c.in-Ok.ensures.taken) refl

pub returns-then-taken-clause-taken : goal.returns-then-taken-clause-taken
returns-then-taken-clause-taken g c =
    let held : Sinks = record { link = g.K.Sink.held c.args.link.now; file = g.F.Sink.held c.args.file.now } in
    let sunk : Sinks = record { link = g.K.Sink.held c.send-then-taken.new.link; file = g.F.Sink.held c.take.new.sink } in
    let s = c.send-then-taken in
    taken_next c.args.end.now c.args.bytes.now held sunk c.in-Some.packet (filled_so c.args.bytes.now (sym c.is_empty.ensures ∙ c.if-is_empty.false)) (sym c.read_packet.ensures ∙ c.in-Some.is) c.take.new.self s.result _
    (subst (λ (b : Bool). TakesPacket c.args.end.now c.in-Some.packet c.take.new.self b held.file sunk.file) c.if-taken.true c.in-Ok.ensures.taken)
    s.ensures.ok s.ensures.err

pub returns-then-taken-clause-cause : goal.returns-then-taken-clause-cause
returns-then-taken-clause-cause g c =
    let s = c.send-then-taken in
    caused_sending s.result _ (Rose (g.K.Sink.faults c.args.link.now) (g.K.Sink.faults s.new.link)) (Rose (g.F.Sink.faults c.args.file.now) (g.F.Sink.faults c.take.new.sink)) s.ensures.err

pub returns-in-Err-WriteFault-clause-taken : goal.returns-in-Err-WriteFault-clause-taken
returns-in-Err-WriteFault-clause-taken g c =
    let held : Sinks = record { link = g.K.Sink.held c.args.link.now; file = g.F.Sink.held c.args.file.now } in
    let sunk : Sinks = record { link = g.K.Sink.held c.args.link.now; file = g.F.Sink.held c.take.new.sink } in
    let w = c.in-Err-WriteFault in
    refused_last c.args.end.now c.args.bytes.now held sunk c.in-Some.packet (sym c.read_packet.ensures ∙ c.in-Some.is) w.field-0 w.ensures.refused load.WriteFault w.field-0-is refl

pub returns-in-Err-Memory-clause-taken : goal.returns-in-Err-Memory-clause-taken
returns-in-Err-Memory-clause-taken g c =
    let held : Sinks = record { link = g.K.Sink.held c.args.link.now; file = g.F.Sink.held c.args.file.now } in
    let sunk : Sinks = record { link = g.K.Sink.held c.args.link.now; file = g.F.Sink.held c.take.new.sink } in
    let w = c.in-Err-Memory in
    lacks_last c.args.end.now c.args.bytes.now held sunk c.in-Some.packet (sym c.read_packet.ensures ∙ c.in-Some.is) w.field-0 w.ensures.refused w.field-0-is (w.ensures.enough (ap Err w.field-0-is)) refl

pub returns-in-Err-Negative-clause-taken : goal.returns-in-Err-Negative-clause-taken
returns-in-Err-Negative-clause-taken g c =
    let held : Sinks = record { link = g.K.Sink.held c.args.link.now; file = g.F.Sink.held c.args.file.now } in
    let sunk : Sinks = record { link = g.K.Sink.held c.args.link.now; file = g.F.Sink.held c.take.new.sink } in
    let w = c.in-Err-Negative in
    (_, tt, refused_last c.args.end.now c.args.bytes.now held sunk c.in-Some.packet (sym c.read_packet.ensures ∙ c.in-Some.is) w.field-0 w.ensures.refused _ w.field-0-is refl)

pub returns-in-Err-Unexpected-clause-taken : goal.returns-in-Err-Unexpected-clause-taken
returns-in-Err-Unexpected-clause-taken g c =
    let held : Sinks = record { link = g.K.Sink.held c.args.link.now; file = g.F.Sink.held c.args.file.now } in
    let sunk : Sinks = record { link = g.K.Sink.held c.args.link.now; file = g.F.Sink.held c.take.new.sink } in
    let w = c.in-Err-Unexpected in
    (load.Unexpected, tt, refused_last c.args.end.now c.args.bytes.now held sunk c.in-Some.packet (sym c.read_packet.ensures ∙ c.in-Some.is) w.field-0 w.ensures.refused load.Unexpected w.field-0-is refl)

pub returns-in-Err-Broken-clause-taken : goal.returns-in-Err-Broken-clause-taken
returns-in-Err-Broken-clause-taken g c =
    let held : Sinks = record { link = g.K.Sink.held c.args.link.now; file = g.F.Sink.held c.args.file.now } in
    let sunk : Sinks = record { link = g.K.Sink.held c.args.link.now; file = g.F.Sink.held c.take.new.sink } in
    let w = c.in-Err-Broken in
    (_, tt, refused_last c.args.end.now c.args.bytes.now held sunk c.in-Some.packet (sym c.read_packet.ensures ∙ c.in-Some.is) w.field-0 w.ensures.refused _ w.field-0-is refl)
