use Rattle.std.proofs.Common.{◌≡◌, ◌∙◌, ◌+◌, ◌<◌, ◌≤◌, ℕ, sym, ap, take, length, [], ◌∷◌, ◌++◌, arith}
use Rattle.std.proofs.lemmas.List.{take_all, take_more}
use Rattle.view_model.specs.declared.Line.{Line}
use Rattle.tacho_types.specs.declared.calendar.TheConstants.{DAYS}
use Rattle.view_text.proofs.Texts.{text-more, below-at}
use Rattle.view_text.proofs.text.lines_text.Goals as goal

pub date_on-date-requires-clause-range : goal.date_on-date-requires-clause-range
date_on-date-requires-clause-range g c =
    let lt : c.loop-line.line-index < length c.args.lines.now = omega arith in
    rw (← c.line-item.is) at (below-at DAYS c.args.lines.now c.loop-line.line-index c.line-item.result lt c.requires)

pub write_line-requires : goal.write_line-requires
write_line-requires g c = rw c.as_slice.ensures.value c.date_on-date.ensures

pub loop-line-preserved : goal.loop-line-preserved
loop-line-preserved g c =
    let lines = c.args.lines.now in
    let i : ℕ = c.loop-line.line-index in
    let lt : i < length lines = omega arith in
    let front : take (i + 1) lines ≡ take i lines ++ c.line-item.result ∷ [] = take_more lines i c.line-item.result lt ∙ ap (λ (l : Line _). take i lines ++ l ∷ []) (sym c.line-item.is) in
    record {
      text = rw front (text-more g.T.Shown.words (take i lines) c.line-item.result c.loop-line.text.items _ c.loop-line.invariant.text c.in_ok-write_line.ensures);
      date = c.date_on-date.ensures;
    }

pub returns : goal.returns
returns g c =
    let all : length c.args.lines.now ≤ c.loop-line.line-index = omega arith in
    rw (take_all c.loop-line.line-index c.args.lines.now all) at c.loop-line.invariant.text
