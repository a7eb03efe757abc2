use Rattle.std.proofs.Common.{◌≡◌, ℕ, ◌+◌, ◌-◌, ◌/◌, List, [], ◌∷◌, ◌++◌, refl, sym, ◌∙◌, ap, arith, IfSome}
use Rattle.std.specs.List.{range_with_len}
use Rattle.std.proofs.lemmas.List.{append-nil}
use Rattle.tach_media.proofs.Runs.{reads_then, both_told}
use Rattle.unit_model.specs.Image.{slot_date}
use Rattle.unit_model.specs.Decoding.{Check, first_failing, or_else}
use Rattle.unit_memory.specs.Walks.{next_walk, walk_from}
use Rattle.unit_memory.specs.declared.walk.Walk.{Walk}
use Rattle.unit_memory.specs.Judging.{slots_by, slot_checks_by}
use Rattle.unit_model.proofs.Failing.{failing_append}
use Rattle.unit_memory.proofs.Walking.{range_more, walk_more}
use Rattle.unit_memory.proofs.WalkLaws.{latest_over, walk_latest, slots_append}
use Rattle.unit_memory.proofs.Told.{carried, three_told}
use Rattle.unit_memory.proofs.slots.judge_slots.Goals as goal

pub loop-index-preserved : goal.loop-index-preserved
loop-index-preserved g c =
    let image = (g.M.Medium.state c.args.unit.now).image in
    let k = c.args.kept in
    let start = c.args.start in
    let from = c.args.from in
    let i = c.loop-index.index in
    let walk = c.loop-index.walk in
    let was = c.loop-index.invariant in
    let same = was.reads.same refl in
    let R = range_with_len from (i - from) in
    let next = c.in_ok-next.next in
    let bad = c.in_ok-next.bad in
    let more : range_with_len from (i + 1 - from) ≡ R ++ i ∷ [] = range_more from (i - from) i (i + 1 - from) (omega arith) (omega arith) in
    let walked : IfSome image (λ x. walk ≡ walk_from (k / 1440) x start R) = was.walked in
    let found : IfSome image (λ x. c.loop-index.found ≡ first_failing (slots_by k x start.latest R)) = was.found in
    let here : IfSome image (λ x. next ≡ next_walk (k / 1440) walk i (slot_date x i)) = carried (λ x. next ≡ next_walk (k / 1440) walk i (slot_date x i)) same c.in_ok-next.ensures.walk in
    let slot : IfSome image (λ x. bad ≡ first_failing (slot_checks_by k walk.latest x i)) = carried (λ x. bad ≡ first_failing (slot_checks_by k walk.latest x i)) same c.in_ok-next.ensures.bad in
    record {
      walked = both_told image _ walked here (λ x is walked here. here ∙ walk_more (k / 1440) x start walk from i (i - from) (i + 1 - from) (omega arith) (omega arith) walked);
      found = three_told image _ found walked slot (λ x found walked slot.
          let latest : walk.latest ≡ latest_over x start.latest R = ap (λ (w : Walk). w.latest) walked ∙ walk_latest (k / 1440) x start R in
          c.or_else-found.ensures ∙ (λ t. or_else (found t) ((slot ∙ ap (λ (l : ℕ). first_failing (slot_checks_by k l x i)) latest) t))
          ∙ sym (ap (λ (l : List ℕ). first_failing (slots_by k x start.latest l)) more ∙ ap first_failing (slots_append k x start.latest R (i ∷ []))
          ∙ failing_append (slots_by k x start.latest R) (slots_by k x (latest_over x start.latest R) (i ∷ []))
          ∙ ap (λ (l : List Check). or_else (first_failing (slots_by k x start.latest R)) (first_failing l)) (append-nil (slot_checks_by k (latest_over x start.latest R) x i))));
      few = omega (arith, c.in_ok-next.ensures.few, was.few);
      reads = reads_then was.reads c.in_ok-next.ensures.reads;
    }
