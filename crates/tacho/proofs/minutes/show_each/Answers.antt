use Rattle.std.proofs.Common.{◌≡◌, ◌∙◌, ℕ, suc, ◌+◌, ◌≤◌, List, ◌++◌, map, sym, ap, arith, append_assoc, append-nil}
use Rattle.minute_model.specs.declared.Minute.{Minute}
use Rattle.minute_model.proofs.Ranges.{each-then}
use Rattle.minute_rules.specs.Alike.{minute_later, repeated}
use Rattle.tacho.specs.Minutes.{lines_shown}
use Rattle.tacho.specs.declared.minutes.TheConstants.{LAST_TIME}
use Rattle.tacho.proofs.minutes.show_each.Goals as goal

pub loop-turn-init : goal.loop-turn-init
loop-turn-init c = λ speed before is. is ∙ ap lines_shown (sym (append-nil before))

pub show_later-requires : goal.show_later-requires
show_later-requires c =
    (each-then (λ (m : Minute). m.minute + c.args.times ≤ LAST_TIME) (λ (m : Minute). m.minute + c.loop-turn.turn ≤ LAST_TIME) (λ m le. omega (arith, le)) c.args.minutes.now c.requires)

pub loop-turn-preserved : goal.loop-turn-preserved
loop-turn-preserved c = λ speed before is.
    let ms : List Minute = c.args.minutes.now in
    let t : ℕ = c.loop-turn.turn in
    let next : suc t ≡ t + 1 = omega arith in
    c.in_ok-show_later.ensures speed (before ++ repeated speed t ms) (c.loop-turn.invariant speed before is)
    ∙ ap lines_shown (append_assoc before (repeated speed t ms) (map (minute_later t speed) ms) ∙ ap (λ (n : ℕ). before ++ repeated speed n ms) next)

pub returns : goal.returns
returns c = λ speed before is.
    let all : c.loop-turn.turn ≡ c.args.times = omega arith in
    c.loop-turn.invariant speed before is ∙ ap (λ (n : ℕ). lines_shown (before ++ repeated speed n c.args.minutes.now)) all
