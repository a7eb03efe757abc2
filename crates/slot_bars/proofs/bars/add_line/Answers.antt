use Rattle.std.proofs.Common.{◌≡◌, ◌∙◌, ℕ, ◌+◌, ◌-◌, List, [], ◌∷◌, ◌++◌, map, ap, sym, arith, append_assoc, append-nil}
use Rattle.view_model.specs.declared.Viewed.{Viewed}
use Rattle.slot_bars.specs.declared.seen.Seen.{Seen}
use Rattle.slot_bars.specs.Seeing.{bars_of, slot_seen}
use Rattle.file_view.proofs.Growing.{viewed, row}
use Rattle.slot_bars.proofs.Runs.{slot_more}
use Rattle.slot_bars.proofs.bars.add_line.Goals as goal

pub loop-minute-init : goal.loop-minute-init
loop-minute-init c =
    let none : c.args.line.first - c.args.line.first ≡ 0 = omega arith in
    record {
      few = omega arith;
      told = λ minutes is.
          is
          ∙ ap (λ (l : List (Viewed Seen)). bars_of l) (sym (append-nil minutes))
          ∙ ap (λ (n : ℕ). bars_of (minutes ++ map (slot_seen c.args.gaps.now c.args.slot) (row c.args.line.shown c.args.line.first n))) (sym none);
    }

pub loop-minute-preserved : goal.loop-minute-preserved
loop-minute-preserved c =
    let see = slot_seen c.args.gaps.now c.args.slot in
    let count : ℕ = c.loop-minute.minute - c.args.line.first in
    let more : c.loop-minute.minute - c.args.line.first + 1 ≡ c.loop-minute.minute + 1 - c.args.line.first = omega (arith, c.loop-minute.auto.minute) in
    let place : c.args.line.first + (c.loop-minute.minute - c.args.line.first) ≡ c.loop-minute.minute = omega (arith, c.loop-minute.auto.minute) in
    let before : List (Viewed Seen) = map (slot_seen c.args.gaps.now c.args.slot) (row c.args.line.shown c.args.line.first (c.loop-minute.minute - c.args.line.first)) in
    let here : Viewed Seen = slot_seen c.args.gaps.now c.args.slot (viewed c.args.line.shown c.loop-minute.minute) in
    record {
      few = omega (arith, c.loop-minute.auto.minute, c.loop-minute-test.true);
      told = λ minutes is.
          c.in_ok-add_minute.ensures (minutes ++ before) (c.loop-minute.invariant.told minutes is)
          ∙ ap (λ (v : Viewed Seen). bars_of ((minutes ++ before) ++ v ∷ [])) (c.slot_seen.ensures ∙ ap see c.viewed_at-viewed.ensures)
          ∙ ap (λ (l : List (Viewed Seen)). bars_of l)
          (append_assoc minutes before (here ∷ [])
          ∙ ap (λ (l : List (Viewed Seen)). minutes ++ l) (sym (slot_more c.args.gaps.now c.args.slot c.args.line.shown c.args.line.first (c.loop-minute.minute - c.args.line.first) c.loop-minute.minute place)
          ∙ ap (λ (n : ℕ). map see (row c.args.line.shown c.args.line.first n)) more));
    }

pub returns : goal.returns
returns c = λ minutes is.
    let all : c.loop-minute.minute - c.args.line.first ≡ c.args.line.last + 1 - c.args.line.first = omega (arith, c.loop-minute.auto.minute, c.loop-minute.invariant.few, c.loop-minute-test.false) in
    c.loop-minute.invariant.told minutes is
    ∙ ap (λ (n : ℕ). bars_of (minutes ++ map (slot_seen c.args.gaps.now c.args.slot) (row c.args.line.shown c.args.line.first n))) all
