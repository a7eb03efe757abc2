use Rattle.std.proofs.Common.{◌≡◌, ◌-◌, ◌/◌, None, is_some, refl, ◌∙◌, ap, arith}
use Rattle.std.specs.List.{range_with_len}
use Rattle.unit_model.specs.gated_ring.Ring.{number_at, pointer}
use Rattle.tach_media.proofs.Runs.{reads_then, at_image}
use Rattle.unit_model.specs.declared.layout.TheConstants.{DAYS, DAY_SLOTS, LAST_KEPT}
use Rattle.unit_model.specs.Image.{last_kept, day_ring}
use Rattle.unit_model.specs.Decoding.{first_failing, cell_checks, ring_checks, or_else, or_failing}
use Rattle.unit_memory.specs.Walks.{walk_start, walk_from}
use Rattle.unit_memory.specs.Judging.{front_by, slots_by, turn_at, walk_round, pointer_passes}
use Rattle.unit_memory.proofs.JudgeLaws.{judged_whole}
use Rattle.unit_memory.proofs.Told.{carried, told_all, err_true, reads_failed}
use Rattle.unit_memory.proofs.judge.judge_image.Goals as goal

pub returns-in_err-cell-clause-reads : goal.returns-in_err-cell-clause-reads
returns-in_err-cell-clause-reads g c =
    let r2 = reads_then c.in_ok-kept.ensures.reads c.in_ok-pointer.ensures.reads in
    let r4 = reads_then (reads_then r2 c.in_ok-oldest.ensures.reads) c.in_ok-walk.ensures.reads in
    reads_failed _ (err_true c.from_residual-in_err-cell.result c.from_residual-in_err-cell.ensures.0) (reads_then (reads_then r4 c.in_ok-front.ensures.reads) c.in_err-cell.ensures.reads)

pub returns-in_err-ring-clause-reads : goal.returns-in_err-ring-clause-reads
returns-in_err-ring-clause-reads g c =
    let r2 = reads_then c.in_ok-kept.ensures.reads c.in_ok-pointer.ensures.reads in
    let r4 = reads_then (reads_then r2 c.in_ok-oldest.ensures.reads) c.in_ok-walk.ensures.reads in
    let r6 = reads_then (reads_then r4 c.in_ok-front.ensures.reads) c.in_ok-cell.ensures.reads in
    reads_failed _ (err_true c.from_residual-in_err-ring.result c.from_residual-in_err-ring.ensures.0) (reads_then r6 c.in_err-ring.ensures.reads)

pub returns-clause-reads : goal.returns-clause-reads
returns-clause-reads g c =
    let r2 = reads_then c.in_ok-kept.ensures.reads c.in_ok-pointer.ensures.reads in
    let r4 = reads_then (reads_then r2 c.in_ok-oldest.ensures.reads) c.in_ok-walk.ensures.reads in
    let r6 = reads_then (reads_then r4 c.in_ok-front.ensures.reads) c.in_ok-cell.ensures.reads in
    reads_then r6 c.in_ok-ring.ensures.reads

pub returns-clause-judged : goal.returns-clause-judged
unfolding last_kept
returns-clause-judged g c =
    let image = (g.M.Medium.state c.args.unit.now).image in
    let r1 = c.in_ok-kept.ensures.reads in
    let r2 = reads_then r1 c.in_ok-pointer.ensures.reads in
    let r3 = reads_then r2 c.in_ok-oldest.ensures.reads in
    let r4 = reads_then r3 c.in_ok-walk.ensures.reads in
    let r5 = reads_then r4 c.in_ok-front.ensures.reads in
    let r6 = reads_then r5 c.in_ok-cell.ensures.reads in
    let kept = c.in_ok-kept.kept in
    let p = c.in_ok-pointer.pointer in
    let q = c.turn_at-turn.result in
    let oldest = c.in_ok-oldest.oldest in
    let high = c.in_ok-oldest.high in
    let walk = c.in_ok-walk.walk in
    let low = c.in_ok-walk.low in
    let front = c.in_ok-front.front in
    let cell = c.in_ok-cell.cell in
    let ring = c.in_ok-ring.ring in
    told_all image _ (λ x is.
    let kept_is : kept ≡ last_kept x = at_image (λ x. kept ≡ number_at x LAST_KEPT.place LAST_KEPT.size) is c.in_ok-kept.ensures.value in
    let p_is : p ≡ pointer day_ring x = at_image (λ x. p ≡ number_at x DAYS.place 4) is (carried (λ x. p ≡ number_at x DAYS.place 4) (r1.same refl) c.in_ok-pointer.ensures.value) in
    let q_is : q ≡ turn_at (pointer day_ring x) = c.turn_at-turn.ensures.turn ∙ ap turn_at p_is in
    let oldest_is : oldest ≡ walk_from (last_kept x / 1440) x walk_start (range_with_len (turn_at (pointer day_ring x)) (DAY_SLOTS - turn_at (pointer day_ring x))) =
    at_image (λ x. oldest ≡ walk_from (kept / 1440) x walk_start (range_with_len q (DAY_SLOTS - q))) is (carried (λ x. oldest ≡ walk_from (kept / 1440) x walk_start (range_with_len q (DAY_SLOTS - q))) (r2.same refl) c.in_ok-oldest.ensures.walk)
    ∙ (λ t. walk_from (kept_is t / 1440) x walk_start (range_with_len (q_is t) (DAY_SLOTS - q_is t))) in
    let high_is : high ≡ first_failing (slots_by (last_kept x) x 0 (range_with_len (turn_at (pointer day_ring x)) (DAY_SLOTS - turn_at (pointer day_ring x)))) =
    at_image (λ x. high ≡ first_failing (slots_by kept x 0 (range_with_len q (DAY_SLOTS - q)))) is (carried (λ x. high ≡ first_failing (slots_by kept x 0 (range_with_len q (DAY_SLOTS - q)))) (r2.same refl) c.in_ok-oldest.ensures.bad)
    ∙ (λ t. first_failing (slots_by (kept_is t) x 0 (range_with_len (q_is t) (DAY_SLOTS - q_is t)))) in
    let none : q - 0 ≡ q = omega arith in
    let walk_is : walk ≡ walk_round (last_kept x / 1440) (turn_at (pointer day_ring x)) x =
    at_image (λ x. walk ≡ walk_from (kept / 1440) x oldest (range_with_len 0 (q - 0))) is (carried (λ x. walk ≡ walk_from (kept / 1440) x oldest (range_with_len 0 (q - 0))) (r3.same refl) c.in_ok-walk.ensures.walk)
    ∙ (λ t. walk_from (kept_is t / 1440) x (oldest_is t) (range_with_len 0 ((none ∙ q_is) t))) in
    let low_is : low ≡ first_failing (slots_by (last_kept x) x (walk_from (last_kept x / 1440) x walk_start (range_with_len (turn_at (pointer day_ring x)) (DAY_SLOTS - turn_at (pointer day_ring x)))).latest (range_with_len 0 (turn_at (pointer day_ring x)))) =
    at_image (λ x. low ≡ first_failing (slots_by kept x oldest.latest (range_with_len 0 (q - 0)))) is (carried (λ x. low ≡ first_failing (slots_by kept x oldest.latest (range_with_len 0 (q - 0)))) (r3.same refl) c.in_ok-walk.ensures.bad)
    ∙ (λ t. first_failing (slots_by (kept_is t) x (oldest_is t).latest (range_with_len 0 ((none ∙ q_is) t)))) in
    let b_is : c.has_today-has_day.result ≡ is_some walk.today = c.has_today-has_day.ensures in
    let front_is : front ≡ first_failing (front_by (last_kept x) (is_some walk.today) x) =
    at_image (λ x. front ≡ first_failing (front_by kept c.has_today-has_day.result x)) is (carried (λ x. front ≡ first_failing (front_by kept c.has_today-has_day.result x)) (r4.same refl) c.in_ok-front.ensures.found)
    ∙ (λ t. first_failing (front_by (kept_is t) (b_is t) x)) in
    let cell_is : cell ≡ first_failing (cell_checks x) = at_image (λ x. cell ≡ first_failing (cell_checks x)) is (carried (λ x. cell ≡ first_failing (cell_checks x)) (r5.same refl) c.in_ok-cell.ensures.found) in
    let ring_is : ring ≡ first_failing (ring_checks x) = at_image (λ x. ring ≡ first_failing (ring_checks x)) is (carried (λ x. ring ≡ first_failing (ring_checks x)) (r6.same refl) c.in_ok-ring.ensures.found) in
    let point : c.or_failing-point.result ≡ or_failing None DAYS.place (pointer_passes (last_kept x) (pointer day_ring x) walk) = c.or_failing-point.ensures ∙ (λ t. or_failing None DAYS.place ((c.pointer_passes.ensures ∙ (λ i. pointer_passes (kept_is i) (p_is i) walk)) t)) in
    record {
      bad = c.or_else-bad.ensures
          ∙ (λ t. or_else front ((c.or_else-from_cells.ensures ∙ (λ u. or_else cell ((c.or_else-from_days.ensures ∙ (λ v. or_else (point v) ((c.or_else-behind.ensures ∙ (λ w. or_else (c.or_else-slots.ensures w) ring)) v))) u))) t))
          ∙ judged_whole x front cell low high ring walk walk_is front_is cell_is low_is high_is ring_is;
      kept = kept_is;
      pointer_is = p_is;
      walk = walk_is;
    })
