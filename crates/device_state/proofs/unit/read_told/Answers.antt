use Rattle.std.proofs.Common.{◌≡◌, ◌∙◌, ℕ, List, Option, IfSome, map, subst, sym, refl}
use Rattle.std.specs.List.{range_with_len}
use Rattle.tach_media.proofs.Runs.{reads_then}
use Rattle.unit_model.specs.Image.{last_kept}
use Rattle.unit_memory.proofs.Told.{carried, one_told, four_told}
use Rattle.device_state.specs.Units.{days_told, owed_in}
use Rattle.device_state.proofs.ToldUnits.{unit-made}
use Rattle.device_state.proofs.unit.read_told.Goals as goal

pub read_owed-requires-clause-kept : goal.read_owed-requires-clause-kept
read_owed-requires-clause-kept g c =
    let same = c.in_ok-days.ensures.reads.same refl ∙ c.in_ok-memory.ensures.reads.same refl in
    subst (λ (o : Option (List ℕ)). IfSome o (λ x. c.last_kept.result ≡ last_kept x)) (sym same)
    (one_told (g.M.Medium.state c.args.unit.now).image (λ x. c.last_kept.result ≡ last_kept x) c.requires.found (λ x found. c.last_kept.ensures.kept ∙ sym found.kept))

pub returns-clause-told : goal.returns-clause-told
returns-clause-told g c =
    let image = (g.M.Medium.state c.args.unit.now).image in
    let same_1 = c.in_ok-memory.ensures.reads.same refl in
    let same_2 = c.in_ok-days.ensures.reads.same refl ∙ same_1 in
    let days : IfSome image (λ x. c.in_ok-days.days ≡ days_told x) = carried (λ x. c.in_ok-days.days ≡ days_told x) same_1 c.in_ok-days.ensures.days in
    let owed : IfSome image (λ x. c.in_ok-owed.owed ≡ map (owed_in c.args.seen.now x) (range_with_len 0 8)) = carried (λ x. c.in_ok-owed.owed ≡ map (owed_in c.args.seen.now x) (range_with_len 0 8)) same_2 c.in_ok-owed.ensures.owed in
    four_told image _ c.in_ok-memory.ensures.facts days owed c.requires.found (λ x facts days owed found.
    unit-made c.args.seen.now x _ _ _ _ _ _ _ _ facts c.version.ensures c.rule.ensures c.identity.ensures (c.odometer.ensures.odometer ∙ sym found.odometer) (c.last_kept-2.ensures.kept ∙ sym found.kept) days owed)

pub returns-clause-reads : goal.returns-clause-reads
returns-clause-reads g c = reads_then (reads_then c.in_ok-memory.ensures.reads c.in_ok-days.ensures.reads) c.in_ok-owed.ensures.reads
