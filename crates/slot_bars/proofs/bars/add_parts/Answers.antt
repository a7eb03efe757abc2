use Rattle.std.proofs.Common.{◌≡◌, ◌∙◌, ℕ, ◌≤◌, ◌+◌, ◌-◌, List, ◌++◌, map, ap, sym, arith, append_assoc, append-nil}
use Rattle.view_model.specs.declared.Viewed.{Viewed}
use Rattle.file_view.specs.Histories.{line_minutes}
use Rattle.file_view.specs.Runs.{is_run}
use Rattle.file_view.proofs.Growing.{row, run_parts, run_so}
use Rattle.slot_bars.specs.declared.seen.Seen.{Seen}
use Rattle.slot_bars.specs.Seeing.{bars_of, slot_seen}
use Rattle.slot_bars.proofs.Runs.{part_more, seen_self}
use Rattle.slot_bars.proofs.bars.add_parts.Goals as goal

pub parts-init : goal.parts-init
parts-init c =
    let run = run_parts c.args.line.first c.args.line.last c.requires in
    let none : c.args.line.first - c.args.line.first ≡ 0 = omega arith in
    record {
      begun = omega arith;
      within = omega (arith, run.0);
      told = λ minutes is.
          is
          ∙ ap (λ (l : List (Viewed Seen)). bars_of l) (sym (append-nil minutes))
          ∙ ap (λ (n : ℕ). bars_of (minutes ++ map (slot_seen c.args.gaps.now c.args.slot) (row c.args.line.shown c.args.line.first n))) (sym none);
    }

pub add_run-requires-clause-same : goal.add_run-requires-clause-same
add_run-requires-clause-same c = seen_self c.part_from-part.result.shown

pub add_run-requires-clause-run : goal.add_run-requires-clause-run
add_run-requires-clause-run c =
    let run = run_parts c.args.line.first c.args.line.last c.requires in
    let inside = c.part_from-part.ensures.inside in
    let first = c.part_from-part.ensures.first in
    run_so c.part_from-part.result.first c.part_from-part.result.last (omega (arith, inside.0, first))
    (omega (arith, run.1, inside.0, inside.1, first, c.parts.invariant.begun))

pub parts-preserved : goal.parts-preserved
parts-preserved c =
    let line = c.args.line in
    let part = c.part_from-part.result in
    let inside = c.part_from-part.ensures.inside in
    let before : List (Viewed Seen) = map (slot_seen c.args.gaps.now c.args.slot) (row c.args.line.shown c.args.line.first (c.parts.from - c.args.line.first)) in
    record {
      begun = omega (arith, c.parts.invariant.begun, inside.0);
      within = omega (arith, inside.1);
      told = λ minutes is.
          c.in_ok-add_run.ensures (minutes ++ before) (c.parts.invariant.told minutes is)
          ∙ ap (λ (l : List (Viewed Seen)). bars_of l)
          (append_assoc minutes before (line_minutes part)
          ∙ ap (λ (l : List (Viewed Seen)). minutes ++ l)
          (part_more c.args.gaps.now c.args.slot line.shown part line.first c.parts.from c.parts.invariant.begun c.part_from-part.ensures.first inside.0 c.part_from-part.ensures.seen));
    }

pub parts-smaller : goal.parts-smaller
parts-smaller c =
    let inside = c.part_from-part.ensures.inside in
    omega (arith, inside.0, inside.1, c.parts-test.true)

pub returns : goal.returns
returns c = λ minutes is.
    let all : c.parts.from - c.args.line.first ≡ c.args.line.last + 1 - c.args.line.first = omega (arith, c.parts.invariant.within, c.parts-test.false) in
    c.parts.invariant.told minutes is
    ∙ ap (λ (n : ℕ). bars_of (minutes ++ map (slot_seen c.args.gaps.now c.args.slot) (row c.args.line.shown c.args.line.first n))) all
