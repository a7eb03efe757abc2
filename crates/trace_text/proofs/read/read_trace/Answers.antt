use Rattle.std.proofs.lemmas.Grind.{common_steps}
use Rattle.std.proofs.Common.{ℕ, List, ◌≡◌, ◌∙◌, ◌≤◌, length, sym, subst, arith, Some, rules}
use Rattle.trace_text.specs.Text.{text_lines}
use Rattle.trace_text.proofs.Answered.{Judges, told-text, judges-trace, judges-bad, judges-long, reads-trace, finds-bad, finds-long, trace-well_formed, trace-known, trace-few, trace-read}
use Rattle.trace_text.proofs.read.read_trace.Given.{Over}
use Rattle.trace_text.proofs.read.read_trace.Goals as goal

-- what was read is judged as the text that the source told
judged : (g : Over) (c : goal.After-drop-text g) (text : List ℕ) → g.S.Source.left c.args.source.now ≡ Some text → (length text ≤ 16777216) × Judges c.args.form (text_lines text) c.trace_of.result
judged g c text told =
    let same = told-text (g.S.Source.left c.args.source.now) (g.S.Source.left c.take_all.new.source) c.in-Ok.text.items text told c.in-Ok.ensures.bytes c.in-Ok.ensures.end in
    let P : List ℕ → Type 0 = λ bytes. (length bytes ≤ 16777216) × Judges c.args.form (text_lines bytes) c.trace_of.result in
    subst P (c.as_slice.ensures.value ∙ sym same) (omega (arith, c.as_slice.ensures.len, c.in-Ok.ensures.few), c.trace_of.ensures)

pub returns-clause-refused : goal.returns-clause-refused
returns-clause-refused g c = record {
  bad_line = λ text n told is.
      let j = judged g c text told in judges-bad c.args.form text n c.trace_of.result j.0 j.1 is;
  too_long = λ text n told is.
      let j = judged g c text told in judges-long c.args.form text n c.trace_of.result j.0 j.1 is;
  read_fault = first_of (search rules, grind (arith, common_steps));
}

pub returns-clause-judged : goal.returns-clause-judged
returns-clause-judged g c = record {
  reads = λ text start items told is.
      let j = judged g c text told in reads-trace c.args.form text start items c.trace_of.result j.1 is;
  finds_bad_line = λ text n told is.
      let j = judged g c text told in finds-bad c.args.form text n c.trace_of.result j.1 is;
  finds_too_long = λ text n told is.
      let j = judged g c text told in finds-long c.args.form text n c.trace_of.result j.0 j.1 is;
}

pub returns-clause-read : goal.returns-clause-read
returns-clause-read g c =
    trace-read c.args.form (g.S.Source.left c.args.source.now) c.trace_of.result
    (λ text told.
    let j = judged g c text told in judges-trace c.args.form text c.trace_of.result j.0 j.1)
    (trace-well_formed c.args.form (text_lines c.as_slice.result.now) c.trace_of.result c.trace_of.ensures)
    (trace-known c.args.form (text_lines c.as_slice.result.now) c.trace_of.result c.trace_of.ensures)
    (trace-few c.args.form c.as_slice.result.now c.trace_of.result (omega (arith, c.as_slice.ensures.len, c.in-Ok.ensures.few)) c.trace_of.ensures)
