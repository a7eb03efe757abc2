use Rattle.std.proofs.Common.{◌≡◌, ℕ, ◌+◌, map, refl, sym, ◌∙◌, ap, arith, IfSome}
use Rattle.std.specs.Prelude.{◌==◌, ◌||◌, nat_lt}
use Rattle.std.specs.List.{range_with_len}
use Rattle.std.proofs.lemmas.List.FromFn.{map-range_with_len_more}
use Rattle.unit_model.specs.gated_ring.Ring.{number_at}
use Rattle.tach_media.proofs.Runs.{reads_then}
use Rattle.unit_model.specs.Days.{word_minute}
use Rattle.unit_model.specs.Decoding.{first_failing, cell_check, cell_place, or_failing}
use Rattle.unit_model.proofs.Failing.{failing_more}
use Rattle.unit_memory.proofs.Told.{carried, one_told, three_told}
use Rattle.unit_memory.proofs.judge.bad_cell.Goals as goal

pub loop-nth-preserved : goal.loop-nth-preserved
loop-nth-preserved g c =
    let image = (g.M.Medium.state c.args.unit.now).image in
    let nth = c.loop-nth.nth in
    let was = c.loop-nth.invariant in
    let place = c.cell_place-place.result in
    let m = c.in_ok-minute.minute in
    let w = c.in_ok-word.word in
    let place_is : place ≡ cell_place nth = c.cell_place-place.ensures.place in
    let same_1 = was.reads.same refl in
    let same_2 = c.in_ok-minute.ensures.reads.same refl ∙ same_1 in
    let before : IfSome image (λ x. c.loop-nth.found ≡ first_failing (map (cell_check x) (range_with_len 0 nth))) = was.found in
    let minute : IfSome image (λ x. m ≡ number_at x place 4) = carried (λ x. m ≡ number_at x place 4) same_1 c.in_ok-minute.ensures.value in
    let word : IfSome image (λ x. w ≡ number_at x (place + 4) 2) = carried (λ x. w ≡ number_at x (place + 4) 2) same_2 c.in_ok-word.ensures.value in
    record {
      found = three_told image _ before minute word (λ x found minute word.
          c.or_failing-found.ensures
          ∙ (λ i. or_failing (found i) (place_is i + 4) ((c.cell_passes.ensures
          ∙ (λ j. (minute ∙ ap (λ (q : ℕ). number_at x q 4) place_is) j == 0 || nat_lt (word_minute ((word ∙ ap (λ (q : ℕ). number_at x (q + 4) 2) place_is) j)) 1440)) i))
          ∙ sym (ap first_failing (map-range_with_len_more (cell_check x) 0 nth nth (omega arith)) ∙ failing_more (map (cell_check x) (range_with_len 0 nth)) (cell_check x nth)));
      reads = reads_then (reads_then was.reads c.in_ok-minute.ensures.reads) c.in_ok-word.ensures.reads;
    }

pub returns-clause-found : goal.returns-clause-found
returns-clause-found g c =
    let image = (g.M.Medium.state c.args.unit.now).image in
    let nth = c.loop-nth.nth in
    let end : nth ≡ 32 = omega (arith, c.loop-nth-test.false, c.loop-nth.auto.nth-end) in
    let found : IfSome image (λ x. c.loop-nth.found ≡ first_failing (map (cell_check x) (range_with_len 0 nth))) = c.loop-nth.invariant.found in
    one_told image _ found (λ x found. found ∙ ap (λ (n : ℕ). first_failing (map (cell_check x) (range_with_len 0 n))) end)
