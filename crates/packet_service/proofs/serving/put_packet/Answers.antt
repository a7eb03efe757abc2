use Rattle.std.proofs.Common.{◌≡◌, ◌∙◌, ℕ, List, ap, subst}
use Rattle.std.specs.Prelude.{OnOk, OnErr}
use Rattle.std.specs.Io.KnownBytes.{Appends}
use Rattle.tach_media.specs.Streams.{AppendsFront}
use Rattle.noisy_model.specs.Packets.{packet_bytes}
use Rattle.packet_service.specs.Datagrams.{datagram}
use Rattle.packet_service.proofs.serving.put_packet.Goals as goal

pub returns-clause-ok : goal.returns-clause-ok
returns-clause-ok g c =
    let is : c.as_slice-2.result.now ≡ datagram (packet_bytes c.args.packet.now) = c.as_slice-2.ensures.value ∙ c.write_datagram-whole.ensures ∙ ap (λ (l : List ℕ). datagram l) (c.as_slice.ensures.value ∙ c.write_packet-bytes.ensures) in
    subst (λ (l : List ℕ). OnOk c.put_all.result (Appends (g.K.Sink.held c.args.sink.now) (g.K.Sink.held c.put_all.new.sink) l)) is c.put_all.ensures.ok

pub returns-clause-err : goal.returns-clause-err
returns-clause-err g c =
    let is : c.as_slice-2.result.now ≡ datagram (packet_bytes c.args.packet.now) = c.as_slice-2.ensures.value ∙ c.write_datagram-whole.ensures ∙ ap (λ (l : List ℕ). datagram l) (c.as_slice.ensures.value ∙ c.write_packet-bytes.ensures) in
    subst (λ (l : List ℕ). OnErr c.put_all.result (AppendsFront (g.K.Sink.held c.args.sink.now) (g.K.Sink.held c.put_all.new.sink) l)) is c.put_all.ensures.err
