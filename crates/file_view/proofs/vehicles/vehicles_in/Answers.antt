use Rattle.std.proofs.Common.{◌≡◌, ◌∙◌, ℕ, ◌-◌, List, ◌++◌, refl, ap, sym, arith}
use Rattle.std.specs.List.{range_with_len}
use Rattle.card_files.specs.declared.vehicle.Vehicle.{Vehicle}
use Rattle.card_image.specs.CardFile.{vehicles_alone}
use Rattle.gated_ring.specs.Ring.{order}
use Rattle.file_view.proofs.Ringed.{there_among, among_append, told_among}
use Rattle.file_view.proofs.vehicles.vehicles_in.Goals as goal

pub returns : goal.returns
returns c =
    let app = c.args.app in
    let value = c.args.value.now in
    let next = c.next_of-next.ensures c.args.app refl c.requires.good in
    let start : c.next_of-next.result - 0 ≡ c.next_of-next.result = omega arith in
    c.in_ok-add_vehicles-2.ensures c.args.app
    ∙ ap (λ (l : List Vehicle). l ++ there_among c.args.app c.args.value.now (range_with_len 0 (c.next_of-next.result - 0)))
    (c.in_ok-add_vehicles.ensures c.args.app ∙ ap (λ (l : List Vehicle). l ++ there_among c.args.app c.args.value.now (range_with_len c.next_of-next.result (c.args.app.vehicles - c.next_of-next.result))) c.new-all.ensures.items)
    ∙ ap (λ (n : ℕ). there_among c.args.app c.args.value.now (range_with_len c.next_of-next.result (c.args.app.vehicles - c.next_of-next.result)) ++ there_among c.args.app c.args.value.now (range_with_len 0 n)) start
    ∙ sym (among_append app value (range_with_len c.next_of-next.result (c.args.app.vehicles - c.next_of-next.result)) (range_with_len 0 c.next_of-next.result))
    ∙ ap (λ (n : ℕ). there_among c.args.app c.args.value.now (order (vehicles_alone c.args.app) n)) next.0
    ∙ sym (told_among app value)
