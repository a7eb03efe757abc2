use Rattle.std.proofs.Common.{◌∙◌, ◌+◌, List, ◌++◌, get_or, take, map, ap, sym, subst, append_assoc}
use Rattle.std.proofs.lemmas.List.{take_more}
use Rattle.view_model.specs.declared.UnitShown.{UnitShown}
use Rattle.view_model.specs.declared.Line.{Line}
use Rattle.card_match.specs.declared.cases.Case.{Case}
use Rattle.unit_model.specs.Days.{UnitMinute}
use Rattle.file_view.specs.Histories.{minute_told, line_minutes, minutes_on}
use Rattle.card_match.specs.Matching.{Against}
use Rattle.card_match.specs.Cases.{case_of, with_line, AreRising, minute_of_case}
use Rattle.card_match.proofs.Empty.{no_unit_line}
use Rattle.card_match.proofs.Lines.{unit_more}
use Rattle.card_match.proofs.Marking.{map_twice}
use Rattle.card_match.proofs.Rising.{rising_map}
use Rattle.card_match.proofs.Telling.{line_keeps, one_line}
use Rattle.card_match.proofs.cases.tell_lines.Goals as goal

pub loop-line-preserved : goal.loop-line-preserved
loop-line-preserved c =
    let line : Line UnitShown = get_or c.args.lines.now c.loop-line.line-index no_unit_line in
    record {
      rising = subst AreRising (sym c.tell_line.ensures.told) (rising_map minute_of_case minute_of_case (with_line (get_or c.args.lines.now c.loop-line.line-index no_unit_line)) c.loop-line.cases (line_keeps line) c.loop-line.invariant.rising);
      told = λ a entries is.
          let by : List UnitMinute → Against = λ ms. record { uses = a.uses; minutes = ms } in
          let on : List (Line UnitShown) → List UnitMinute = λ ls. map minute_told (minutes_on ls) in
          c.tell_line.ensures.told
          ∙ ap (λ (l : List Case). map (with_line (get_or c.args.lines.now c.loop-line.line-index no_unit_line)) l) (c.loop-line.invariant.told a entries is)
          ∙ map_twice (case_of (by (a.minutes ++ on (take c.loop-line.line-index c.args.lines.now)))) (with_line (get_or c.args.lines.now c.loop-line.line-index no_unit_line)) (case_of (by (a.minutes ++ on (take (c.loop-line.line-index + 1) c.args.lines.now)))) entries
          (λ e.
          one_line (by (a.minutes ++ on (take c.loop-line.line-index c.args.lines.now))) (get_or c.args.lines.now c.loop-line.line-index no_unit_line) e
          ∙ ap (λ (ms : List UnitMinute). case_of (by ms) e) (append_assoc a.minutes (on (take c.loop-line.line-index c.args.lines.now)) (map minute_told (line_minutes (get_or c.args.lines.now c.loop-line.line-index no_unit_line)))
          ∙ ap (λ (l : List UnitMinute). a.minutes ++ l) (sym (ap on (take_more c.args.lines.now c.loop-line.line-index no_unit_line c.loop-line-test.true)
          ∙ unit_more (take c.loop-line.line-index c.args.lines.now) (get_or c.args.lines.now c.loop-line.line-index no_unit_line)))));
    }
