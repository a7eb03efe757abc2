use Rattle.std.proofs.lemmas.Result.{err_from_is_err_and}
use Rattle.std.proofs.lemmas.Grind.{common_steps}
use Rattle.std.proofs.Common.{◌≡◌, refl, ap, arith, rules, Err}
use Rattle.trace_text.specs.declared.lines_trace.Form.TheVariants.{Minutes}
use Rattle.trace_text.specs.declared.lines_trace.TraceFault.TheVariants.{BadLine, TooLong}
use Rattle.tacho.specs.declared.end.Fault.TheVariants as end
use Rattle.tacho.specs.End.{refusal_of}
use Rattle.tacho.specs.Minutes.{IsMinutesEnd, PrintsMinutes}
use Rattle.tacho.specs.Outside.{SinkTold}
use Rattle.tacho.proofs.EndLaws.{refusal-bad, refusal-long, refusal-read, refusal-unwritten, failure-unprinted, refusal-end, refused}
use Rattle.tacho.proofs.Printed.{if-wrote, puts-from, puts-faults, puts-judges}
use Rattle.tacho.proofs.Puts.{on-ok}
use Rattle.tacho.proofs.minutes_command.print_minutes.Goals as goal

-- ---- no trace was read

pub returns-in_err-trace-clause-prints : goal.returns-in_err-trace-clause-prints
returns-in_err-trace-clause-prints g c =
    let p = err_from_is_err_and c.from_residual.result c.from_residual.ensures.1 in
    rw (p.1, p.2) (record {
      printed = λ text told. tt;
      front = λ text told is.
          let same : refusal_of c.in_err-trace.field-0.0 ≡ end.WriteFault = cc in
          absurd (refusal-unwritten c.in_err-trace.field-0.0 same);
    })

pub returns-in_err-trace-clause-faults : goal.returns-in_err-trace-clause-faults
returns-in_err-trace-clause-faults g c =
    let p = err_from_is_err_and c.from_residual.result c.from_residual.ensures.1 in
    rw (p.1, p.2) (record {
      read_fault = λ is.
          let same : refusal_of c.in_err-trace.field-0.0 ≡ end.ReadFault = cc in
          c.in_err-trace.ensures.refused.read_fault (ap Err (refusal-read c.in_err-trace.field-0.0 same));
      write_fault = λ is.
          let same : refusal_of c.in_err-trace.field-0.0 ≡ end.WriteFault = cc in
          absurd (refusal-unwritten c.in_err-trace.field-0.0 same);
      counts = first_of (search rules, grind (arith, common_steps));
    })

pub returns-in_err-trace-clause-judges : goal.returns-in_err-trace-clause-judges
returns-in_err-trace-clause-judges g c =
    let p = err_from_is_err_and c.from_residual.result c.from_residual.ensures.1 in
    let fault = c.in_err-trace.field-0.0 in
    rw (p.1, p.2) (record {
      bad_trace = λ text n told is.
          let same : refusal_of fault ≡ end.BadTrace n = cc in
          c.in_err-trace.ensures.refused.bad_line text n told (ap Err (refusal-bad fault n same));
      too_long = λ text n told is.
          let same : refusal_of fault ≡ end.TooLong n = cc in
          c.in_err-trace.ensures.refused.too_long text n told (ap Err (refusal-long fault n same));
      prints = λ text start items told is. failure-unprinted fault (c.in_err-trace.ensures.judged.reads text start items told is);
      finds_bad_trace = λ text n told is. refused fault (BadLine n) (c.in_err-trace.ensures.judged.finds_bad_line text n told is);
      finds_too_long = λ text n told is. refused fault (TooLong n) (c.in_err-trace.ensures.judged.finds_too_long text n told is);
    })

pub returns-in_err-trace-clause-other : goal.returns-in_err-trace-clause-other
returns-in_err-trace-clause-other g c =
    let p = err_from_is_err_and c.from_residual.result c.from_residual.ensures.1 in
    rw (p.1, p.2) (refusal-end c.in_err-trace.field-0.0)

-- ---- there was no memory for the text

pub returns-in_err-text-clause-judges : goal.returns-in_err-text-clause-judges
returns-in_err-text-clause-judges g c =
    let p = err_from_is_err_and c.from_residual-in_err-text.result c.from_residual-in_err-text.ensures.1 in
    rw (p.1, p.2) (record {
      bad_trace = λ text n told is. absurd (cc);
      too_long = λ text n told is. absurd (cc);
      prints = λ text start items told is. tt;
      finds_bad_trace = λ text n told is. absurd (c.in_ok-trace.ensures.judged.finds_bad_line text n told is);
      finds_too_long = λ text n told is. absurd (c.in_ok-trace.ensures.judged.finds_too_long text n told is);
    })

pub returns-in_err-text-clause-other : goal.returns-in_err-text-clause-other
returns-in_err-text-clause-other g c =
    let p = err_from_is_err_and c.from_residual-in_err-text.result c.from_residual-in_err-text.ensures.1 in
    rw (p.1, p.2) (λ e. cc, tt)

-- ---- the text was printed, or a front of it

pub returns-clause-prints : goal.returns-clause-prints
returns-clause-prints g c =
    let before : SinkTold = record { held = g.K.Sink.held c.args.sink.now; faults = g.K.Sink.faults c.args.sink.now } in
    let after : SinkTold = record { held = g.K.Sink.held c.print_text.new.sink; faults = g.K.Sink.faults c.print_text.new.sink } in
    puts-from c.as_slice.result.now before after (PrintsMinutes c.args.rule) (g.S.Source.left c.args.source.now) c.print_text.result
    (λ bytes told. record {
      start = c.in_ok-trace.trace.start;
      items = c.in_ok-trace.trace.items;
      trace = c.in_ok-trace.ensures.read.trace bytes told;
      view = rw c.as_slice.ensures.value c.in_ok-text.ensures;
    }) c.print_text.ensures

pub returns-clause-read : goal.returns-clause-read
returns-clause-read g c = on-ok c.print_text.result c.in_ok-trace.ensures.end

pub returns-clause-judges : goal.returns-clause-judges
returns-clause-judges g c =
    let before : SinkTold = record { held = g.K.Sink.held c.args.sink.now; faults = g.K.Sink.faults c.args.sink.now } in
    let after : SinkTold = record { held = g.K.Sink.held c.print_text.new.sink; faults = g.K.Sink.faults c.print_text.new.sink } in
    puts-judges c.as_slice.result.now before after Minutes (g.S.Source.left c.args.source.now) c.print_text.result
    c.in_ok-trace.ensures.judged.finds_bad_line c.in_ok-trace.ensures.judged.finds_too_long c.print_text.ensures

pub returns-clause-faults : goal.returns-clause-faults
returns-clause-faults g c =
    let before : SinkTold = record { held = g.K.Sink.held c.args.sink.now; faults = g.K.Sink.faults c.args.sink.now } in
    let after : SinkTold = record { held = g.K.Sink.held c.print_text.new.sink; faults = g.K.Sink.faults c.print_text.new.sink } in
    puts-faults c.as_slice.result.now before after (g.S.Source.faults c.args.source.now) (g.S.Source.faults c.read_trace.new.source) c.print_text.result
    (first_of (search rules, grind (arith, common_steps))) c.print_text.ensures

pub returns-clause-nothing : goal.returns-clause-nothing
returns-clause-nothing g c =
    let before : SinkTold = record { held = g.K.Sink.held c.args.sink.now; faults = g.K.Sink.faults c.args.sink.now } in
    let after : SinkTold = record { held = g.K.Sink.held c.print_text.new.sink; faults = g.K.Sink.faults c.print_text.new.sink } in
    if-wrote c.as_slice.result.now before after (λ fault. (fault ≡ end.WriteFault → ⊥) → c.print_text.new.sink ≡ c.args.sink.now) c.print_text.result c.print_text.ensures (λ no. absurd (no refl))

pub returns-clause-other : goal.returns-clause-other
returns-clause-other g c =
    let before : SinkTold = record { held = g.K.Sink.held c.args.sink.now; faults = g.K.Sink.faults c.args.sink.now } in
    let after : SinkTold = record { held = g.K.Sink.held c.print_text.new.sink; faults = g.K.Sink.faults c.print_text.new.sink } in
    if-wrote c.as_slice.result.now before after (λ fault. (fault ≡ end.Done → ⊥) × IsMinutesEnd fault) c.print_text.result c.print_text.ensures (λ e. cc, tt)
