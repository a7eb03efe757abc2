use Rattle.std.proofs.Common.{◌≡◌, ◌∙◌, ◌<◌, ℕ, List, Option, IfSome, map, length, ap, subst, sym, refl, arith}
use Rattle.std.specs.List.{range_with_len}
use Rattle.std.proofs.lemmas.List.{length-set, take_all}
use Rattle.tach_media.proofs.Runs.{both_told, if_told, no_reads, reads_then}
use Rattle.unit_model.specs.Image.{last_kept}
use Rattle.unit_memory.proofs.Told.{carried, one_told}
use Rattle.device_calls.proofs.Enters.{unit-still}
use Rattle.device_state.specs.Units.{owed_in}
use Rattle.device_state.proofs.ToldUnits.{rows-more}
use Rattle.device_state.proofs.unit.read_owed.Goals as goal

pub loop-row-init : goal.loop-row-init
loop-row-init g c = record { rows = if_told (g.M.Medium.state c.args.unit.now).image _ (λ x is. refl); full = refl; reads = no_reads (g.M.Medium.state c.args.unit.now) c.requires.works }

pub read_row-requires-clause-unit : goal.read_row-requires-clause-unit
read_row-requires-clause-unit g c = unit-still _ _ c.loop-row.invariant.reads.leaves c.requires.unit

pub read_row-requires-clause-kept : goal.read_row-requires-clause-kept
read_row-requires-clause-kept g c = subst (λ (o : Option (List ℕ)). IfSome o (λ x. c.args.kept ≡ last_kept x)) (sym (c.loop-row.invariant.reads.same refl)) c.requires.kept

pub loop-row-preserved : goal.loop-row-preserved
loop-row-preserved g c =
    let image = (g.M.Medium.state c.args.unit.now).image in
    let row = c.loop-row.row in
    let was = c.loop-row.invariant in
    let lt : row < length c.loop-row.rows = omega (arith, was.full, c.loop-row-test.true, c.loop-row.auto.row-end) in
    let told : IfSome image (λ x. c.in_ok-told.told ≡ owed_in c.args.seen.now x row) = carried (λ x. c.in_ok-told.told ≡ owed_in c.args.seen.now x row) (was.reads.same refl) c.in_ok-told.ensures.owed in
    record {
      rows = both_told image _ was.rows told (λ x is so told. rows-more c.args.seen.now x c.loop-row.rows row c.in_ok-told.told lt so told);
      full = length-set c.loop-row.rows row c.in_ok-told.told ∙ was.full;
      reads = reads_then was.reads c.in_ok-told.ensures.reads;
    }

pub returns-clause-owed : goal.returns-clause-owed
returns-clause-owed g c =
    let row = c.loop-row.row in
    let end : row ≡ 8 = omega (arith, c.loop-row-test.false, c.loop-row.auto.row-end) in
    one_told (g.M.Medium.state c.args.unit.now).image _ c.loop-row.invariant.rows (λ x so.
    sym (take_all row c.loop-row.rows (omega (arith, end, c.loop-row.invariant.full))) ∙ so ∙ ap (λ (n : ℕ). map (owed_in c.args.seen.now x) (range_with_len 0 n)) end)
