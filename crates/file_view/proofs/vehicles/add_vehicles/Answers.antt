use Rattle.std.proofs.Common.{◌≡◌, ◌∙◌, ℕ, ◌+◌, ◌-◌, ◌*◌, List, [], ◌∷◌, ◌++◌, ap, sym, arith, append_assoc}
use Rattle.std.specs.List.{range_with_len}
use Rattle.tach_media.specs.Medium.{bytes_at}
use Rattle.card_files.specs.declared.vehicle.Vehicle.{Vehicle}
use Rattle.card_files.specs.Vehicles.{vehicle_of}
use Rattle.file_view.specs.Vehicles.{vehicle_in}
use Rattle.file_view.proofs.Ringed.{there_among, one_there, none_there, there_by, closed_by}
use Rattle.file_view.proofs.vehicles.add_vehicles.Goals as goal
use Rattle.file_view.proofs.vehicles.add_vehicles.Goals.{then-read_u32-ne0+in_ok-push, else-read_u32-ne0}

pub loop-i-preserved : goal.loop-i-preserved
loop-i-preserved c =
    let place : c.args.from + (c.loop-i.i - c.args.from) ≡ c.loop-i.i = omega (arith, c.loop-i.auto.i) in
    let more : c.loop-i.i - c.args.from + 1 ≡ c.loop-i.i + 1 - c.args.from = omega (arith, c.loop-i.auto.i) in
    record {
      few = omega (arith, c.loop-i.auto.i, c.loop-i-test.true);
      told = λ app.
          let among : ℕ → List Vehicle = λ n. there_among app c.args.value.now (range_with_len c.args.from n) in
          elim c.if-read_u32-ne0.branch [
            | then-read_u32-ne0+in_ok-push w ↦
                let there = there_by app c.args.value.now c.part.result.now c.loop-i.i c.read_u32.result (2 + 31 * c.loop-i.i + 6) (omega arith) c.part.ensures.bytes c.read_u32.ensures w.if-read_u32-ne0.true in
                let here : 2 + 31 * c.loop-i.i ≡ 0 + 2 + c.loop-i.i * 31 = omega arith in
                let vehicle : w.read_vehicle.result ≡ vehicle_in app c.args.value.now c.loop-i.i =
                w.read_vehicle.ensures.value ∙ ap vehicle_of (w.part-then-read_u32-ne0.ensures.bytes ∙ ap (λ (p : ℕ). bytes_at c.args.value.now p 31) here) in
                rw w.all-is
                (w.in_ok-push.ensures.items
                ∙ ap (λ (v : Vehicle). c.loop-i.all.items ++ v ∷ []) vehicle
                ∙ ap (λ (l : List Vehicle). l ++ vehicle_in app c.args.value.now c.loop-i.i ∷ []) (c.loop-i.invariant.told app)
                ∙ append_assoc c.args.all.now.items (among (c.loop-i.i - c.args.from)) (vehicle_in app c.args.value.now c.loop-i.i ∷ [])
                ∙ ap (λ (l : List Vehicle). c.args.all.now.items ++ l) (sym (one_there app c.args.value.now c.args.from (c.loop-i.i - c.args.from) c.loop-i.i place there) ∙ ap among more))
            | else-read_u32-ne0 w ↦
                let closed = closed_by app c.args.value.now c.part.result.now c.loop-i.i c.read_u32.result (2 + 31 * c.loop-i.i + 6) (omega arith) c.part.ensures.bytes c.read_u32.ensures w.if-read_u32-ne0.false in
                rw w.all-is
                (c.loop-i.invariant.told app
                ∙ ap (λ (l : List Vehicle). c.args.all.now.items ++ l) (sym (none_there app c.args.value.now c.args.from (c.loop-i.i - c.args.from) c.loop-i.i place closed) ∙ ap among more))
          ];
    }

pub returns : goal.returns
returns c = λ app.
    let all : c.loop-i.i - c.args.from ≡ c.args.to - c.args.from = omega (arith, c.loop-i.auto.i, c.loop-i.invariant.few, c.loop-i-test.false) in
    c.loop-i.invariant.told app ∙ ap (λ (n : ℕ). c.args.all.now.items ++ there_among app c.args.value.now (range_with_len c.args.from n)) all
