use Rattle.std.proofs.Common.{◌≡◌, ◌∙◌, ℕ, ◌+◌, List, true, false, Some, take, ap, sym, arith}
use Rattle.std.specs.Prelude.{slice_get, if◌then◌else◌}
use Rattle.std.proofs.lemmas.List.Sums.{count_by_more_yes, count_by_more_no}
use Rattle.std.proofs.lemmas.Option.{slice_get_within, get_or_from_slice_get}
use Rattle.activity_codec.proofs.ByTest.{by_test}
use Rattle.run_model.specs.declared.Device.{Device}
use Rattle.log_model.specs.declared.lines.Mark.{Mark}
use Rattle.safety_model.specs.Unit.{is_of}
use Rattle.tacho.specs.Outcomes.{mark_count}
use Rattle.tacho.proofs.outcome_text.mark_count.Goals.{then-is_of, else-is_of}
use Rattle.tacho.proofs.outcome_text.mark_count.Goals as goal

-- one mark more
count-more : (device : Device) (marks : List Mark) (i : ℕ) (m : Mark) → slice_get marks i ≡ Some m
    → mark_count device (take (i + 1) marks) ≡ mark_count device (take i marks) + (if is_of device m.device then 1 else 0)
count-more device marks i m here =
    let here_is = ap (λ (k : Mark). is_of device k.device) (get_or_from_slice_get marks i m m here) in
    by_test (is_of device m.device)
    (λ yes. rw yes (count_by_more_yes (λ (k : Mark). is_of device k.device) marks i m (slice_get_within marks i m here) (here_is ∙ yes)))
    (λ no. rw no (omega (arith, count_by_more_no (λ (k : Mark). is_of device k.device) marks i m (slice_get_within marks i m here) (here_is ∙ no))))

pub loop-i-preserved : goal.loop-i-preserved
loop-i-preserved c =
    let v = c.loop-i.invariant in
    let more = count-more c.args.device c.args.marks.now.items c.loop-i.i c.get.result.now c.get.ensures in
    elim c.if-is_of.branch [
      | then-is_of w ↦
          let yes : is_of c.args.device c.get.result.now.device ≡ true = sym c.is_of.ensures ∙ w.if-is_of.true in
          record { few = omega (arith, w.count-is, v.few); counted = omega (arith, w.count-is, v.counted, rw yes at more) }
      | else-is_of w ↦
          let no : is_of c.args.device c.get.result.now.device ≡ false = sym c.is_of.ensures ∙ w.if-is_of.false in
          record { few = omega (arith, w.count-is, v.few); counted = omega (arith, w.count-is, v.counted, rw no at more) }
    ]
