use Rattle.std.proofs.Common.{◌∙◌, ℕ, List, refl, sym, subst}
use Rattle.std.specs.Io.KnownBytes.{Appends}
use Rattle.std.proofs.KnownBytes.{Appends-nil}
use Rattle.tach_media.specs.Streams.{AppendsFront}
use Rattle.packet_service.proofs.Hearing.{sent_one, sent_none}
use Rattle.packet_service.proofs.loading.send.Goals as goal

pub returns-in_default-clause-ok : goal.returns-in_default-clause-ok
returns-in_default-clause-ok g c =
    let held = g.K.Sink.held c.args.link.now in
    subst (λ (l : List ℕ). Appends held held l) (sym (sent_none c.args.end.now (sym c.send.ensures ∙ c.in_default.is))) (Appends-nil held)

pub returns-in-Ok-clause-ok : goal.returns-in-Ok-clause-ok
returns-in-Ok-clause-ok g c =
    subst (λ (l : List ℕ). Appends (g.K.Sink.held c.args.link.now) (g.K.Sink.held c.put_packet.new.sink) l) (sym (sent_one c.args.end.now c.in-Some.packet (sym c.send.ensures ∙ c.in-Some.is))) c.in-Ok.ensures.ok

pub returns-in-Err-clause-err : goal.returns-in-Err-clause-err
returns-in-Err-clause-err g c = (
  refl,
  subst (λ (l : List ℕ). AppendsFront (g.K.Sink.held c.args.link.now) (g.K.Sink.held c.put_packet.new.sink) l) (sym (sent_one c.args.end.now c.in-Some.packet (sym c.send.ensures ∙ c.in-Some.is))) c.in-Err.ensures.err,
  c.in-Err.ensures.cause,
)
