use Rattle.std.proofs.Common.{◌≡◌, ◌∙◌, ℕ, suc, ◌+◌, ◌%◌, ◌<◌, ◌++◌, List, ap, sym, take, drop, length, arith, append_assoc, append-nil}
use Rattle.std.proofs.Math.Seq.{take-append_seam}
use Rattle.view_model.specs.declared.UnitShown.{UnitShown}
use Rattle.view_model.specs.declared.Viewed.{Viewed}
use Rattle.view_model.specs.Lines.{lines_of, same_unit}
use Rattle.tacho.specs.LineRuns.{minute_after, shown_run, ended_at}
use Rattle.tacho.proofs.LineRuns.{run_added, run_parts}
use Rattle.tacho.proofs.minutes.show_run.Goals as goal

pub loop-done-init : goal.loop-done-init
loop-done-init c = record {
  most = omega arith;
  lines = λ before is. is ∙ ap (lines_of same_unit) (sym (append-nil before));
}

pub loop-done-preserved : goal.loop-done-preserved
loop-done-preserved c =
    let v = c.loop-done.invariant in
    let m : Viewed UnitShown = c.args.minute in
    let done : ℕ = c.loop-done.done in
    let more : ℕ = c.min-more.result in
    let next : Viewed UnitShown = minute_after done m in
    let new = c.end_at.new.lines in
    let rest = drop (length new) c.add_minute.new.lines.items in
    let long : c.add_minute.new.lines.len ≡ length new = omega (arith, c.as_mut_slice.ensures.len, c.end_at.auto.lines) in
    let day : next.minute % 1440 + more < 1440 = omega (arith, c.min-more.ensures) in
    let step : 1 + more ≡ suc more = omega arith in
    record {
      most = omega (arith, v.most, c.min-more.ensures);
      lines = λ before is.
          let so_far : List (Viewed UnitShown) = before ++ shown_run m done in
          ap (λ (n : ℕ). take n (new ++ rest)) long
          ∙ take-append_seam new rest
          ∙ c.end_at.ensures
          ∙ ap (ended_at (next.minute + more)) (c.as_mut_slice.ensures.value ∙ c.in_ok-add_minute.ensures so_far (v.lines before is))
          ∙ run_added so_far next more day
          ∙ ap (lines_of same_unit) (append_assoc before (shown_run m done) (shown_run next (suc more)) ∙ ap (λ (ms : List (Viewed UnitShown)). before ++ ms) (run_parts m done (suc more) ∙ ap (λ (n : ℕ). shown_run m (done + n)) (sym step)));
    }

pub returns : goal.returns
returns c = λ before is.
    let all : c.loop-done.done ≡ c.args.times = omega (arith, c.loop-done.invariant.most) in
    c.loop-done.invariant.lines before is ∙ ap (λ (n : ℕ). lines_of same_unit (before ++ shown_run c.args.minute n)) all
