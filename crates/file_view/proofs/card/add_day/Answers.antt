use Rattle.std.proofs.Common.{◌≡◌, ◌∙◌, ℕ, ◌+◌, ◌-◌, ◌/◌, ◌<◌, ◌≤◌, ◌++◌, List, map, flat_map, ap, sym, arith, append_assoc, append-nil}
use Rattle.std.specs.List.{range_with_len}
use Rattle.activity_codec.specs.declared.entries.Entry.{Entry}
use Rattle.card_retention.specs.Entries.{entry_at, minutes_from}
use Rattle.card_days.specs.declared.head.DayHead.{DayHead}
use Rattle.view_model.specs.Lines.{lines_of, same_card}
use Rattle.view_text.specs.Entries.{entry_shown}
use Rattle.file_view.specs.Showing.{entry_up_to, entries_in}
use Rattle.file_view.proofs.Entries.{run_told, minutes_more, day_minutes}
use Rattle.file_view.proofs.Growing.{run_so}
use Rattle.file_view.proofs.card.add_day.Goals as goal

pub loop-t-init : goal.loop-t-init
loop-t-init c = record {
  most = omega arith;
  told = λ d before is same. same ∙ ap (λ (l : List Entry). lines_of same_card (map entry_shown l)) (sym (append-nil before));
}

pub add_told-requires : goal.add_told-requires
add_told-requires c =
    let d = c.requires.day.0 in
    let is = c.requires.day.1 in
    let run = c.run_at-run.ensures.run d.words (c.words_of-words.ensures d is) in
    let date : c.args.head.now.date.0 ≡ d.date = ap (λ (h : DayHead). h.date.0) is.head_is in
    let le : c.args.head.now.date.0 / 60 + c.loop-t.t ≤ c.args.head.now.date.0 / 60 + c.run_at-run.result.end - 1 = omega (arith, c.run_at-run.ensures.some) in
    run_so (c.args.head.now.date.0 / 60 + c.loop-t.t) (c.args.head.now.date.0 / 60 + c.run_at-run.result.end - 1) le
    (omega (arith, le, date, is.day.midnight, run.inside))

pub loop-t-preserved : goal.loop-t-preserved
loop-t-preserved c = record {
  most = (c.run_at-run.ensures.run c.requires.day.0.words (c.words_of-words.ensures c.requires.day.0 c.requires.day.1)).inside;
  told = λ d before is same.
      let f = entry_at c.args.mark d in
      let run = c.run_at-run.ensures.run d.words (c.words_of-words.ensures d is) in
      let first : c.args.head.now.date.0 / 60 + c.loop-t.t ≡ d.date / 60 + c.loop-t.t = ap (λ (h : DayHead). h.date.0 / 60 + c.loop-t.t) is.head_is in
      let le : c.loop-t.t < c.run_at-run.result.end = c.run_at-run.ensures.some in
      let long : c.args.head.now.date.0 / 60 + c.run_at-run.result.end - 1 + 1 - (c.args.head.now.date.0 / 60 + c.loop-t.t) ≡ c.run_at-run.result.end - c.loop-t.t = omega (arith, le) in
      let whole : c.run_at-run.result.end ≡ c.loop-t.t + (c.run_at-run.result.end - c.loop-t.t) = omega (arith, le) in
      let told : entries_in c.args.mark (c.args.head.now.date.0 / 60 + c.loop-t.t) (c.args.head.now.date.0 / 60 + c.run_at-run.result.end - 1) c.run_at-run.result.change ≡ minutes_from (entry_at c.args.mark d) (c.run_at-run.result.end - c.loop-t.t) c.loop-t.t =
      ap (λ (n : ℕ). flat_map (λ (m : ℕ). entry_up_to c.args.mark m c.run_at-run.result.change) (range_with_len (c.args.head.now.date.0 / 60 + c.loop-t.t) n)) long
      ∙ run_told c.args.mark d c.run_at-run.result.change (c.run_at-run.result.end - c.loop-t.t) c.loop-t.t (c.args.head.now.date.0 / 60 + c.loop-t.t) first (λ k low high. run.each k low (omega (arith, high, le))) in
      let next : minutes_from (entry_at c.args.mark d) c.loop-t.t 0 ++ minutes_from (entry_at c.args.mark d) (c.run_at-run.result.end - c.loop-t.t) c.loop-t.t ≡ minutes_from (entry_at c.args.mark d) c.run_at-run.result.end 0 =
      ap (λ (k : ℕ). minutes_from (entry_at c.args.mark d) c.loop-t.t 0 ++ minutes_from (entry_at c.args.mark d) (c.run_at-run.result.end - c.loop-t.t) k) (omega arith)
      ∙ sym (minutes_more f c.loop-t.t (c.run_at-run.result.end - c.loop-t.t) 0) ∙ ap (λ (k : ℕ). minutes_from (entry_at c.args.mark d) k 0) (sym whole) in
      c.in_ok-add_told.ensures (before ++ minutes_from (entry_at c.args.mark d) c.loop-t.t 0) (c.loop-t.invariant.told d before is same)
      ∙ ap (λ (l : List Entry). lines_of same_card (map entry_shown l))
      (ap (λ (l : List Entry). (before ++ minutes_from (entry_at c.args.mark d) c.loop-t.t 0) ++ l) told
      ∙ append_assoc before (minutes_from (entry_at c.args.mark d) c.loop-t.t 0) (minutes_from (entry_at c.args.mark d) (c.run_at-run.result.end - c.loop-t.t) c.loop-t.t)
      ∙ ap (λ (l : List Entry). before ++ l) next);
}

pub loop-t-smaller : goal.loop-t-smaller
loop-t-smaller c = omega (arith, c.run_at-run.ensures.some, c.loop-t-test.true)

pub returns : goal.returns
returns c = λ d before is same.
    let whole : c.loop-t.t ≡ 1440 = omega (arith, c.loop-t-test.false, c.loop-t.invariant.most) in
    c.loop-t.invariant.told d before is same
    ∙ ap (λ (l : List Entry). lines_of same_card (map entry_shown (before ++ l))) (ap (λ (k : ℕ). minutes_from (entry_at c.args.mark d) k 0) whole ∙ day_minutes c.args.mark d)

pub overflow_add-first-in-loop-t : goal.overflow_add-first-in-loop-t
overflow_add-first-in-loop-t c =
    let run = c.run_at-run.ensures.run c.requires.day.0.words (c.words_of-words.ensures c.requires.day.0 c.requires.day.1) in
    omega (arith, run.inside)
