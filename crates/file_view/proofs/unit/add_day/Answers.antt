use Rattle.std.proofs.Common.{◌≡◌, ◌∙◌, ℕ, ◌+◌, ◌-◌, ◌/◌, ◌≤◌, ◌++◌, List, map, refl, ap, sym, arith, append_assoc, append-nil}
use Rattle.std.specs.List.{range_with_len}
use Rattle.std.proofs.lemmas.List.{map-append}
use Rattle.unit_model.specs.Days.{UnitMinute, minute_at}
use Rattle.message_model.specs.Showing.{told_day}
use Rattle.view_model.specs.declared.UnitShown.{UnitShown}
use Rattle.view_model.specs.declared.Viewed.{Viewed}
use Rattle.view_model.specs.Lines.{lines_of, same_unit}
use Rattle.file_view.specs.Histories.{minute_shown}
use Rattle.file_view.specs.UnitShowing.{minutes_of_day, slot_words}
use Rattle.file_view.proofs.Growing.{row, run_so}
use Rattle.file_view.proofs.Lines.{unit_self}
use Rattle.file_view.proofs.UnitDays.{first_minutes, minutes_more, rows_are, day_whole}
use Rattle.file_view.proofs.unit.add_day.Goals as goal

pub words_of-words-requires : goal.words_of-words-requires
words_of-words-requires c = c.requires.1.inside

pub loop-t-init : goal.loop-t-init
loop-t-init c = record {
  most = omega arith;
  told = λ m before is same. same ∙ ap (λ (l : List UnitMinute). lines_of same_unit (map minute_shown l)) (sym (append-nil before));
}

pub add_run-requires-clause-run : goal.add_run-requires-clause-run
add_run-requires-clause-run c =
    let m = c.requires.0 in
    let is = c.requires.1 in
    let some = c.run_at-driver.ensures.some in
    let other = c.run_at-codriver.ensures.some in
    let le : c.args.day.date / 60 + c.loop-t.t ≤ c.args.day.date / 60 + c.min-end.result - 1 = omega (arith, some, other, c.loop-t-test.true, c.min.ensures, c.min-end.ensures) in
    run_so (c.args.day.date / 60 + c.loop-t.t) (c.args.day.date / 60 + c.min-end.result - 1) le
    (omega (arith, le, is.date, is.is.date.1, c.min.ensures, c.min-end.ensures, c.count_of-count.ensures.most))

pub add_run-requires-clause-same : goal.add_run-requires-clause-same
add_run-requires-clause-same c = unit_self c.shown_by.result

pub loop-t-preserved : goal.loop-t-preserved
loop-t-preserved c = record {
  most = omega (arith, c.min-end.ensures);
  told = λ m before is same.
      let decide = c.words_of-words.ensures m is in
      let driver = c.run_at-driver.ensures.run (slot_words 0 m.words) decide.0 in
      let codriver = c.run_at-codriver.ensures.run (slot_words 1 m.words) decide.1 in
      let le : c.loop-t.t ≤ c.min-end.result = omega (arith, c.run_at-driver.ensures.some, c.run_at-codriver.ensures.some, c.loop-t-test.true, c.min.ensures, c.min-end.ensures) in
      let first : c.args.day.date / 60 ≡ m.date / 60 = ap (λ (n : ℕ). n / 60) is.date in
      let long : c.args.day.date / 60 + c.min-end.result - 1 + 1 - (c.args.day.date / 60 + c.loop-t.t) ≡ c.min-end.result - c.loop-t.t =
      omega (arith, le, c.run_at-driver.ensures.some, c.run_at-codriver.ensures.some, c.loop-t-test.true, c.min.ensures, c.min-end.ensures) in
      let run : List UnitMinute = map (minute_at (told_day m)) (range_with_len c.loop-t.t (c.min-end.result - c.loop-t.t)) in
      let rows : map minute_shown run ≡ row c.shown_by.result (c.args.day.date / 60 + c.loop-t.t) (c.args.day.date / 60 + c.min-end.result - 1 + 1 - (c.args.day.date / 60 + c.loop-t.t)) =
      rows_are m (c.args.day.date / 60) first is.is.date.1 c.run_at-driver.result.change c.run_at-codriver.result.change (c.min-end.result - c.loop-t.t) c.loop-t.t (c.args.day.date / 60 + c.loop-t.t) refl
      (λ k low high. driver.each k low (omega (arith, high, le, c.min.ensures, c.min-end.ensures)))
      (λ k low high. codriver.each k low (omega (arith, high, le, c.min.ensures, c.min-end.ensures)))
      ∙ ap (λ (shown : UnitShown). row shown (c.args.day.date / 60 + c.loop-t.t) (c.min-end.result - c.loop-t.t)) (sym c.shown_by.ensures)
      ∙ ap (λ (n : ℕ). row c.shown_by.result (c.args.day.date / 60 + c.loop-t.t) n) (sym long) in
      c.in_ok-add_run.ensures (map minute_shown (before ++ first_minutes m c.loop-t.t)) (c.loop-t.invariant.told m before is same)
      ∙ ap (λ (l : List (Viewed UnitShown)). lines_of same_unit l)
      (ap (λ (l : List (Viewed UnitShown)). map minute_shown (before ++ first_minutes m c.loop-t.t) ++ l) (sym rows)
      ∙ sym (map-append minute_shown (before ++ first_minutes m c.loop-t.t) run)
      ∙ ap (λ (l : List UnitMinute). map minute_shown l) (append_assoc before (first_minutes m c.loop-t.t) run ∙ ap (λ (l : List UnitMinute). before ++ l) (sym (minutes_more m c.loop-t.t c.min-end.result le))));
}

pub loop-t-smaller : goal.loop-t-smaller
loop-t-smaller c = omega (arith, c.run_at-driver.ensures.some, c.run_at-codriver.ensures.some, c.loop-t-test.true, c.min.ensures, c.min-end.ensures)

pub returns : goal.returns
returns c = λ m before is same.
    let whole : c.loop-t.t ≡ minutes_of_day c.args.day.date c.args.time = omega (arith, c.count_of-count.ensures.value, c.loop-t-test.false, c.loop-t.invariant.most) in
    c.loop-t.invariant.told m before is same
    ∙ ap (λ (l : List UnitMinute). lines_of same_unit (map minute_shown (before ++ l))) (day_whole m c.args.day.date c.args.time c.loop-t.t is.date whole)
