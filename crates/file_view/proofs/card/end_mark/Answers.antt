use Rattle.std.proofs.Common.{◌≡◌, ◌∙◌, ℕ, ◌+◌, ◌*◌, ◌/◌, List, Option, Some, ap, sym, subst, refl, arith}
use Rattle.tach_media.specs.Medium.{bytes_at}
use Rattle.card_image.specs.CardFile.{vehicles_alone}
use Rattle.card_files.specs.declared.vehicle.Vehicle.{Vehicle}
use Rattle.card_files.specs.Vehicles.{vehicle_of}
use Rattle.gated_ring.specs.Ring.{Shape, PointsInside, IsNewest}
use Rattle.file_view.proofs.Marks.{mark_some}
use Rattle.file_view.proofs.card.end_mark.Goals as goal

pub returns-clause-mark : goal.returns-clause-mark
returns-clause-mark c =
    let told : Some c.load.new.medium ≡ Some c.new-medium.result = c.in-Ok.ensures.reads.same refl in
    let same : c.load.new.medium ≡ c.new-medium.result = cc in
    let x_is : c.load.new.medium ≡ c.args.value.now = same ∙ c.new-medium.ensures in
    let ring_is : c.in-Ok.ring ≡ vehicles_alone c.args.app = c.in-Ok.ensures.ok ∙ ap (λ (n : ℕ). let r : Shape = record { base = 0; width = 31; count = n; pointer_width = 2; gate = 6 } in r) c.from-count.ensures in
    let known : PointsInside (vehicles_alone c.args.app) c.args.value.now =
    subst (λ (r : Shape). PointsInside r c.args.value.now) ring_is (subst (λ (x : List ℕ). PointsInside c.in-Ok.ring x) c.new-medium.ensures c.in-Ok.ensures.known) in
    let newest : IsNewest (vehicles_alone c.args.app) c.args.value.now (Some c.in-Ok-Some.index) =
    subst (λ (o : Option ℕ). IsNewest (vehicles_alone c.args.app) c.args.value.now o) c.in-Ok-Some.field-0-is
    (subst (λ (r : Shape). PointsInside r c.args.value.now → IsNewest r c.args.value.now c.in-Ok-Some.field-0) ring_is
    (subst (λ (x : List ℕ). PointsInside c.in-Ok.ring x → IsNewest c.in-Ok.ring x c.in-Ok-Some.field-0) x_is c.in-Ok-Some.ensures.newest) known) in
    let place : 2 + 31 * c.in-Ok-Some.index ≡ 0 + 2 + c.in-Ok-Some.index * 31 = omega arith in
    ap (λ (v : Vehicle). v.last_use.0 / 60) (c.read_vehicle.ensures.value ∙ ap vehicle_of (c.part.ensures.bytes ∙ ap (λ (p : ℕ). bytes_at c.args.value.now p 31) place))
    ∙ sym (mark_some c.args.app c.args.value.now c.in-Ok-Some.index newest)
