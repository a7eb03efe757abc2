use Rattle.std.proofs.Common.{◌≡◌, ltb, ltb-true, ap, sym, arith, rules}
use Rattle.std.specs.Prelude.{Option, option_map}
use Rattle.std.proofs.lemmas.Bool.{ltb-false}
use Rattle.std.proofs.lemmas.List.Sorted.{IsPartitionPoint-from_clause, IsPartitionedBy-ltb}
use Rattle.view_model.specs.declared.marks.Distance.{Distance}
use Rattle.day_totals.specs.Figures.{day_told}
use Rattle.day_totals.proofs.ByDay.{found_at, lost_at, none_at}
use Rattle.day_totals.proofs.figures.distance_on.Goals as goal

pub returns-then-place-distances : goal.returns-then-place-distances
returns-then-place-distances c =
    let parted = IsPartitionedBy-ltb day_told c.args.distances.now c.args.day c.requires in
    let point = IsPartitionPoint-from_clause (λ (d : Distance). ltb (day_told d) c.args.day) _ _ c.partition_point-place.ensures.partitioned parted (λ a r q k. search rules) in
    sym (ap (λ (o : Option Distance). option_map (λ (d : Distance). d.km) o)
    (none_at day_told c.args.day c.args.distances.now (λ k e low. ltb-true _ _ (point.0 k e (omega arith) (omega (arith, c.if-place-distances.true, low))))))

pub returns-then-told-day : goal.returns-then-told-day
returns-then-told-day c =
    let parted = IsPartitionedBy-ltb day_told c.args.distances.now c.args.day c.requires in
    let point = IsPartitionPoint-from_clause (λ (d : Distance). ltb (day_told d) c.args.day) _ _ c.partition_point-place.ensures.partitioned parted (λ a r q k. search rules) in
    sym (ap (λ (o : Option Distance). option_map (λ (d : Distance). d.km) o)
    (found_at day_told c.args.day c.args.distances.now c.partition_point-place.result (record { day = 0; km = 0 }) c.requires (omega (arith, c.partition_point-place.ensures.bound, c.if-place-distances.false))
    (λ k e low. ltb-true _ _ (point.0 k e (omega arith) low)) (λ k e least low. ltb-false _ _ (point.1 k e least low)) c.if-told-day.true))

pub returns-else-told-day : goal.returns-else-told-day
returns-else-told-day c =
    let parted = IsPartitionedBy-ltb day_told c.args.distances.now c.args.day c.requires in
    let point = IsPartitionPoint-from_clause (λ (d : Distance). ltb (day_told d) c.args.day) _ _ c.partition_point-place.ensures.partitioned parted (λ a r q k. search rules) in
    sym (ap (λ (o : Option Distance). option_map (λ (d : Distance). d.km) o)
    (lost_at day_told c.args.day c.args.distances.now c.partition_point-place.result (record { day = 0; km = 0 }) c.requires (omega (arith, c.partition_point-place.ensures.bound, c.if-place-distances.false))
    (λ k e low. ltb-true _ _ (point.0 k e (omega arith) low)) (λ k e least low. ltb-false _ _ (point.1 k e least low)) c.if-told-day.false))
