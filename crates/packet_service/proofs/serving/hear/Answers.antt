use Rattle.std.proofs.Common.{◌≡◌, ◌∙◌, Option, IfSome, Some, refl, sym, subst}
use Rattle.tach_media.specs.Medium.{Rose}
use Rattle.unit_model.specs.Decoding.{first_bad_place}
use Rattle.noisy_model.specs.declared.packet.Packet.{Packet}
use Rattle.noisy_model.specs.Ends.{Hears}
use Rattle.noisy_model.specs.Packets.{packet_in}
use Rattle.noisy_link.specs.Sides.{IsReply}
use Rattle.packet_service.proofs.Hearing.{heard_none, heard_silent, heard_back, asks_there, caused_back, back_reads}
use Rattle.packet_service.proofs.serving.hear.Goals as goal

pub returns-in_default-clause-heard : goal.returns-in_default-clause-heard
returns-in_default-clause-heard g c = heard_none (g.U.Medium.state c.args.unit.now).image c.args.end.now (packet_in c.args.bytes.now) (g.K.Sink.held c.args.sink.now) (sym c.read_packet.ensures ∙ c.in_default.is)

pub returns-in-Ok-None-clause-heard : goal.returns-in-Ok-None-clause-heard
returns-in-Ok-None-clause-heard g c =
    let image = (g.U.Medium.state c.args.unit.now).image in
    heard_silent image c.args.end.now (packet_in c.args.bytes.now) c.in-Some.packet c.take.new.self (g.K.Sink.held c.args.sink.now) (sym c.read_packet.ensures ∙ c.in-Some.is)
    (subst (λ (o : Option Packet). Hears (IsReply image) c.args.end.now c.in-Some.packet c.take.new.self o) c.in-Ok-None.field-0-is c.in-Ok-None.ensures.heard)

pub returns-in-Ok-Some-clause-heard : goal.returns-in-Ok-Some-clause-heard
returns-in-Ok-Some-clause-heard g c =
    let image = (g.U.Medium.state c.args.unit.now).image in
    heard_back image c.args.end.now c.send_back.result (packet_in c.args.bytes.now) c.in-Some.packet c.take.new.self c.in-Ok-Some.answer (g.K.Sink.held c.args.sink.now) (g.K.Sink.held c.send_back.new.sink) _ (sym c.read_packet.ensures ∙ c.in-Some.is)
    (subst (λ (o : Option Packet). Hears (IsReply image) c.args.end.now c.in-Some.packet c.take.new.self o) c.in-Ok-Some.field-0-is c.in-Ok-Some.ensures.heard) c.send_back.ensures.ok c.send_back.ensures.err

pub returns-in-Ok-Some-clause-cause : goal.returns-in-Ok-Some-clause-cause
returns-in-Ok-Some-clause-cause g c =
    caused_back c.send_back.result _ (Rose (g.K.Sink.faults c.args.sink.now) (g.K.Sink.faults c.send_back.new.sink)) (λ p. IfSome (g.U.Medium.state c.args.unit.now).image (λ x. first_bad_place x ≡ Some p)) c.send_back.ensures.err

pub returns-in-Ok-Some-clause-reads : goal.returns-in-Ok-Some-clause-reads
returns-in-Ok-Some-clause-reads g c = back_reads c.send_back.result _ _ (g.U.Medium.state c.args.unit.now) (g.U.Medium.state c.take.new.unit) c.send_back.ensures.err c.in-Ok-Some.ensures.reads

pub returns-in-Err-Failed-clause-heard : goal.returns-in-Err-Failed-clause-heard
returns-in-Err-Failed-clause-heard g c =
    (asks_there (g.U.Medium.state c.args.unit.now).image c.args.end.now (packet_in c.args.bytes.now) c.in-Some.packet (sym c.read_packet.ensures ∙ c.in-Some.is) c.in-Err-Failed.ensures.new, refl)

pub returns-in-Err-BadUnit-clause-heard : goal.returns-in-Err-BadUnit-clause-heard
returns-in-Err-BadUnit-clause-heard g c =
    (asks_there (g.U.Medium.state c.args.unit.now).image c.args.end.now (packet_in c.args.bytes.now) c.in-Some.packet (sym c.read_packet.ensures ∙ c.in-Some.is) c.in-Err-BadUnit.ensures.new, refl)
