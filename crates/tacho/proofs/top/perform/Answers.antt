use Rattle.std.proofs.Common.{◌≡◌, rules, refl, ap, arith}
use Rattle.tacho.specs.Read.{Prints, IsBad}
use Rattle.tacho.proofs.Endings.{ends-minutes, minutes-ends, ends-reading, reading-ends, help-ends, version-ends, no-other-end}
use Rattle.tacho.proofs.Services.{serve-ends}
use Rattle.tacho.proofs.LineServices.{serve-hex-ends}
use Rattle.tacho.proofs.Downloads.{download-ends, download-noisy-ends}
use Rattle.tacho.proofs.PacketServices.{serve-packets-ends, download-packets-ends, packets-filed}
use Rattle.tach_media.specs.Medium.{Rose}
use Rattle.tacho.proofs.Upgraded.{upgrade-ends, upgrade-spares}
use Rattle.tacho.proofs.Stated.{state-ends}
use Rattle.tacho.proofs.Spared.{reading-spares, kept-or}
use Rattle.tacho.proofs.top.perform.Goals as goal

pub returns-in-Minutes-clause-does : goal.returns-in-Minutes-clause-does
returns-in-Minutes-clause-does g c = record {
  ends =
      let e = c.print_minutes.ensures in
      rw (c.in-Minutes.is, c.by_answer.ensures.2)
      (minutes-ends c.in-Minutes.rule _ _ c.print_minutes.result
      (ends-minutes c.in-Minutes.rule _ _ c.print_minutes.result e.prints.printed e.read e.judges.bad_trace e.judges.too_long e.faults.read_fault e.faults.write_fault e.judges.prints e.judges.finds_bad_trace e.judges.finds_too_long e.prints.front e.other)
      e.faults.read_fault e.faults.write_fault e.faults.counts c.by_answer.ensures.0 c.by_answer.ensures.1);
  spares = rw (c.in-Minutes.is, c.by_answer.ensures.2) (search rules);
}

pub returns-in-Serve-clause-does : goal.returns-in-Serve-clause-does
returns-in-Serve-clause-does g c = record {
  ends =
      let e = c.serve.ensures in
      rw (c.in-Serve.is, c.by_fault.ensures.2, c.serve_end.ensures)
      (serve-ends _ _ c.serve.result e.served e.end e.cause e.unit e.counts c.by_fault.ensures.0 c.by_fault.ensures.1);
  spares = rw c.in-Serve.is (record { others = (refl, refl); cards = λ is. absurd (cc); before = λ none. absurd none; nothing = λ none. absurd none; unprinted = λ none. absurd none });
}

pub returns-in-ServeHex-clause-does : goal.returns-in-ServeHex-clause-does
returns-in-ServeHex-clause-does g c = record {
  ends =
      let e = c.serve_lines.ensures in
      rw (c.in-ServeHex.is, c.by_fault-in-ServeHex.ensures.2, c.lines_end.ensures)
      (serve-hex-ends _ _ c.serve_lines.result e.served e.end e.cause e.unit e.counts c.by_fault-in-ServeHex.ensures.0 c.by_fault-in-ServeHex.ensures.1);
  spares = rw c.in-ServeHex.is (record { others = (refl, refl); cards = λ is. absurd (cc); before = λ none. absurd none; nothing = λ none. absurd none; unprinted = λ none. absurd none });
}

pub returns-in-ServePackets-clause-does : goal.returns-in-ServePackets-clause-does
returns-in-ServePackets-clause-does g c = record {
  ends =
      let e = c.serve_packets.ensures in
      rw (c.in-ServePackets.is, c.by_fault-in-ServePackets.ensures.2, c.serve_end-in-ServePackets.ensures)
      (serve-packets-ends _ _ c.serve_packets.result e.served e.end e.cause e.unit e.counts c.by_fault-in-ServePackets.ensures.0 c.by_fault-in-ServePackets.ensures.1);
  spares = rw c.in-ServePackets.is (record { others = (refl, refl); cards = λ is. absurd (cc); before = λ none. absurd none; nothing = λ none. absurd none; unprinted = λ none. absurd none });
}

pub returns-in-ServePackets-clause-in_time : goal.returns-in-ServePackets-clause-in_time
returns-in-ServePackets-clause-in_time g c = rw c.in-ServePackets.is c.serve_packets.ensures.in_time

pub returns-in-DownloadPackets-clause-does : goal.returns-in-DownloadPackets-clause-does
returns-in-DownloadPackets-clause-does g c = record {
  ends =
      let e = c.download_packets.ensures in
      rw (c.in-DownloadPackets.is, c.by_fault-in-DownloadPackets.ensures.2, c.packets_end.ensures)
      (download-packets-ends _ _ c.download_packets.result (Rose (g.F.Sink.faults c.args.file.now) (g.F.Sink.faults c.download_packets.new.file)) e.cause e.counts.0 e.counts.1 c.by_fault-in-DownloadPackets.ensures.0 c.by_fault-in-DownloadPackets.ensures.1);
  spares = rw c.in-DownloadPackets.is (record { others = (refl, refl, refl); cards = λ is. absurd (cc); before = λ none. absurd none; nothing = λ none. absurd none; unprinted = λ none. absurd none });
}

pub returns-in-DownloadPackets-clause-in_time : goal.returns-in-DownloadPackets-clause-in_time
returns-in-DownloadPackets-clause-in_time g c = rw c.in-DownloadPackets.is c.download_packets.ensures.in_time

pub returns-in-DownloadPackets-clause-file : goal.returns-in-DownloadPackets-clause-file
returns-in-DownloadPackets-clause-file g c =
    let e = c.download_packets.ensures in
    rw (c.in-DownloadPackets.is, c.by_fault-in-DownloadPackets.ensures.2, c.packets_end.ensures)
    (packets-filed c.download_packets.result (g.S.Source.left c.args.source.now) (g.S.Source.left c.download_packets.new.source) _ _ (Rose (g.S.Source.faults c.args.source.now) (g.S.Source.faults c.download_packets.new.source))
    (Rose (g.K.Sink.faults c.args.sink.now) (g.K.Sink.faults c.download_packets.new.link)) (Rose (g.F.Sink.faults c.args.file.now) (g.F.Sink.faults c.download_packets.new.file)) e.loaded e.cause)

pub returns-in-Serve-clause-in_time : goal.returns-in-Serve-clause-in_time
returns-in-Serve-clause-in_time g c = rw c.in-Serve.is c.serve.ensures.in_time

pub returns-in-ServeHex-clause-in_time : goal.returns-in-ServeHex-clause-in_time
returns-in-ServeHex-clause-in_time g c = rw c.in-ServeHex.is c.serve_lines.ensures.in_time

pub returns-in-Read-clause-does : goal.returns-in-Read-clause-does
returns-in-Read-clause-does g c = record {
  ends =
      let e = c.print_reading.ensures in
      rw (c.in-Read.is, c.by_answer-in-Read.ensures.2)
      (reading-ends c.in-Read.reading _ _ c.print_reading.result
      (ends-reading (Prints c.in-Read.reading) (IsBad c.in-Read.reading) _ _ c.print_reading.result e.prints.printed e.read e.judges.bad_file e.judges.too_long e.judges.finds_too_long e.faults.read_fault e.faults.write_fault e.prints.front
      (λ bytes told is. kept-or (g.K.Sink.held c.args.sink.now) (g.K.Sink.held c.print_reading.new.sink) (c.print_reading.new.sink ≡ c.args.sink.now) _ (λ same. ap (λ s. g.K.Sink.held s) same) (e.short bytes told is)) e.other)
      e.faults.read_fault e.faults.write_fault e.faults.counts c.by_answer-in-Read.ensures.0 c.by_answer-in-Read.ensures.1);
  spares =
      rw (c.in-Read.is, c.by_answer-in-Read.ensures.2)
      (reading-spares c.in-Read.reading c.print_reading.result refl refl refl c.print_reading.ensures.nothing);
}

pub returns-in-Download-clause-does : goal.returns-in-Download-clause-does
returns-in-Download-clause-does g c = record {
  ends =
      let e = c.download-done.ensures in
      rw (c.in-Download.is, c.by_wire.ensures.2, c.download_end.ensures)
      (download-ends _ _ c.download-done.new.wire c.download-done.result e.downloaded e.faults.cause (omega arith) e.faults.counts e.unit c.by_wire.ensures.0 c.by_wire.ensures.1);
  spares = rw c.in-Download.is (record { others = (refl, refl, refl); cards = λ is. absurd (cc); before = λ none. absurd none; nothing = λ none. absurd none; unprinted = λ none. absurd none });
}

pub returns-in-DownloadNoisy-clause-does : goal.returns-in-DownloadNoisy-clause-does
returns-in-DownloadNoisy-clause-does g c = record {
  ends =
      let e = c.download_noisy-done.ensures in
      rw (c.in-DownloadNoisy.is, c.by_wire-in-DownloadNoisy.ensures.2, c.download_end-in-DownloadNoisy.ensures)
      (download-noisy-ends c.in-DownloadNoisy.seed _ _ c.download_noisy-done.new.wire c.download_noisy-done.result e.downloaded e.cause (omega arith) e.counts e.unit c.by_wire-in-DownloadNoisy.ensures.0 c.by_wire-in-DownloadNoisy.ensures.1);
  spares = rw c.in-DownloadNoisy.is (record { others = (refl, refl, refl); cards = λ is. absurd (cc); before = λ none. absurd none; nothing = λ none. absurd none; unprinted = λ none. absurd none });
}

pub returns-in-Upgrade-clause-does : goal.returns-in-Upgrade-clause-does
returns-in-Upgrade-clause-does g c = record {
  ends =
      let e = c.upgrade_unit.ensures in
      rw (c.in-Upgrade.is, c.by_answer-in-Upgrade.ensures.2)
      (upgrade-ends _ _ c.by_answer-in-Upgrade.ensures.0 c.upgrade_unit.result e.ends c.by_answer-in-Upgrade.ensures.1 (omega arith) e.counts);
  spares =
      let e = c.upgrade_unit.ensures in
      rw (c.in-Upgrade.is, c.by_answer-in-Upgrade.ensures.2) (upgrade-spares c.upgrade_unit.result e.ends refl refl refl e.nothing);
}

pub returns-in-State-clause-does : goal.returns-in-State-clause-does
returns-in-State-clause-does g c = record {
  ends =
      let d = c.devices_state-told.ensures in
      rw (c.in-State.is, c.by_answer-in-State.ensures.2)
      (state-ends c.devices_state-told.result _ _ c.by_answer-in-State.ensures.0 c.print_state.result
      (record { unit = d.unit; card_a = d.card_a; card_b = d.card_b; reads_unit = d.reads_unit; reads_a = d.reads_a; reads_b = d.reads_b })
      c.print_state.ensures.prints c.by_answer-in-State.ensures.1 (omega arith) c.print_state.ensures.counts);
  spares = rw c.in-State.is (record { others = refl; cards = λ is. absurd (cc); before = λ none. absurd none; nothing = λ none. absurd none; unprinted = λ none. absurd none });
}

pub returns-in-Help-clause-does : goal.returns-in-Help-clause-does
returns-in-Help-clause-does g c = record {
  ends =
      rw (c.in-Help.is, c.by_answer-in-Help.ensures.2)
      (help-ends _ _ c.print_help.result c.print_help.ensures.ends (omega arith) c.print_help.ensures.counts c.by_answer-in-Help.ensures.0 c.by_answer-in-Help.ensures.1);
  spares =
      rw (c.in-Help.is, c.by_answer-in-Help.ensures.2) (record {
        others = (refl, refl, refl, refl);
        cards = λ is. absurd (cc);
        before = λ first is. (refl, refl, refl);
        nothing = λ first done wrote. absurd (no-other-end _ c.print_help.ensures.ends.ends done wrote);
        unprinted = λ none. absurd none;
      });
}

pub returns-in-Version-clause-does : goal.returns-in-Version-clause-does
returns-in-Version-clause-does g c = record {
  ends =
      rw (c.in-Version.is, c.by_answer-in-Version.ensures.2)
      (version-ends _ _ c.print_version.result c.print_version.ensures.ends (omega arith) c.print_version.ensures.counts c.by_answer-in-Version.ensures.0 c.by_answer-in-Version.ensures.1);
  spares =
      rw (c.in-Version.is, c.by_answer-in-Version.ensures.2) (record {
        others = (refl, refl, refl, refl);
        cards = λ is. absurd (cc);
        before = λ first is. (refl, refl, refl);
        nothing = λ first done wrote. absurd (no-other-end _ c.print_version.ensures.ends.ends done wrote);
        unprinted = λ none. absurd none;
      });
}

pub returns-in-FormatUnit-clause-does : goal.returns-in-FormatUnit-clause-does
returns-in-FormatUnit-clause-does g c = record {
  ends = rw (c.in-FormatUnit.is, c.by_answer-in-FormatUnit.ensures.2) (search rules);
  spares = rw (c.in-FormatUnit.is, c.by_answer-in-FormatUnit.ensures.2) (search rules);
}

pub returns-in-ServeCard-clause-in_time : goal.returns-in-ServeCard-clause-in_time
returns-in-ServeCard-clause-in_time g c = rw c.in-ServeCard.is c.perform_slot.ensures.in_time
