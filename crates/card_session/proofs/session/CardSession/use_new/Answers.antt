use Rattle.std.proofs.lemmas.Grind.{common_steps}
use Rattle.std.proofs.Common.{rules, ◌≡◌, ◌*◌, ℕ, true, false, List, length, Some, refl, sym, ◌∙◌, ap, subst, arith}
use Rattle.std.specs.Prelude.{is_err}
use Rattle.card_layout.specs.declared.files.Application.{Application}
use Rattle.gated_ring.specs.Ring.{Shape}
use Rattle.card_validity.specs.card_image.Fields.{vehicle_ring}
use Rattle.card_session.specs.Sessions.{Session, IsValue, MayKeep}
use Rattle.card_session.specs.Parts.{AnyBook, with_new_use, IsAddingUse}
use Rattle.card_files.specs.declared.vehicle.Vehicle.{Vehicle}
use Rattle.card_session.specs.Books.{begun_vehicle, vehicle_counter}
use Rattle.card_session.proofs.Composing.{failed_part}
use Rattle.card_session.proofs.Keeping.{new_use_as}
use Rattle.card_session.proofs.OnCard.{ring_in}
use Rattle.card_session.proofs.OnRing.{new_with, vehicle_opens}
use Rattle.card_session.proofs.Told.{ring_else}
use Rattle.card_session.proofs.session.CardSession.use_new.Goals as goal

pub add-requires-clause-fits : goal.add-requires-clause-fits
add-requires-clause-fits g c = (ring_in c.self.inside.application c.self.inside.vehicles (g.M.Medium.state c.args.port.now) c.self.invariant.vehicles (subst (λ (p : Application). MayKeep p (g.M.Medium.state c.args.port.now)) (ap (λ (s : Session). s.application) (sym c.self.view_is)) c.requires.card)).0

pub add-requires-clause-head : goal.add-requires-clause-head
add-requires-clause-head g c = record {
  gate = first_of (search rules, grind (arith, common_steps));
  width = first_of (search rules, grind (arith, common_steps));
  short = first_of (search rules, grind (arith, common_steps));
  opens = λ zero.
      let v = c.begun-vehicle.result in
      let first : v.first_use.0 ≡ 60 * c.args.kept.now.entry.minute = ap (λ (u : Vehicle). u.first_use.0) c.begun-vehicle.ensures in
      let opens = vehicle_opens c.self.inside.vehicles (ap (λ (r : Shape). r.gate) c.self.invariant.vehicles) v c.write_vehicle.new.out c.write_vehicle.ensures.bytes (omega (arith, first, c.requires.last)) in
      omega (arith, zero, opens, first, c.requires.first);
}

pub returns-in_err-index-clause-part : goal.returns-in_err-index-clause-part
returns-in_err-index-clause-part g c =
    let failed : is_err c.from_residual.result ≡ true = search rules in
    let s = c.args.self.now in
    let value : IsValue s = subst IsValue c.self.view_is c.self.invariant in
    let k = c.args.kept.now in
    let i = c.self.inside in
    let old = g.M.Medium.state c.args.port.now in
    let head = c.write_vehicle.new.out in
    let vehicle_long : length head ≡ 31 = search rules in
    let begun_is = c.begun-vehicle.ensures ∙ ap (λ (b : List ℕ). begun_vehicle i.registration k.odometer.0 k.entry.minute b) c.counter_behind-counter.ensures
    ∙ ap (λ (t : Session). begun_vehicle t.registration k.odometer.0 k.entry.minute (vehicle_counter t.vehicle)) c.self.view_is in
    let v = c.begun-vehicle.result in
    let t : Session = record s { newest = Some 0; vehicle = Some v } in
    let e = c.in_err-index.ensures in
    failed_part s t _ AnyBook (with_new_use s.registration k.odometer.0 k.entry.minute) (with_new_use s.registration k.odometer.0 k.entry.minute) (IsAddingUse s.registration k.odometer.0 k.entry.minute) (IsAddingUse s.registration k.odometer.0 k.entry.minute)
    (new_use_as s k.odometer.0 k.entry.minute t v begun_is
    (new_with s t value (record { application = refl; days = refl; registration = refl; minute = refl; odometer = refl }) old (g.M.Medium.state c.add.new.medium) true c.requires.card (g.met.M.Medium.coherent c.args.port.now) 0 v head
    vehicle_long c.write_vehicle.ensures.reads_back refl c.self.inside.vehicles (c.self.invariant.vehicles ∙ ap (λ (s : Session). vehicle_ring s.application) c.self.view_is) (λ fine. absurd (cc)) (λ fine. absurd (cc)) (λ fine. absurd (cc)) e.alters.moments e.alters.cause)) failed
    (λ b ds u any q. q)

pub returns-clause-part : goal.returns-clause-part
returns-clause-part g c =
    let s = c.args.self.now in
    let value : IsValue s = subst IsValue c.self.view_is c.self.invariant in
    let k = c.args.kept.now in
    let i = c.self.inside in
    let old = g.M.Medium.state c.args.port.now in
    let head = c.write_vehicle.new.out in
    let vehicle_long : length head ≡ 31 = search rules in
    let begun_is = c.begun-vehicle.ensures ∙ ap (λ (b : List ℕ). begun_vehicle i.registration k.odometer.0 k.entry.minute b) c.counter_behind-counter.ensures
    ∙ ap (λ (t : Session). begun_vehicle t.registration k.odometer.0 k.entry.minute (vehicle_counter t.vehicle)) c.self.view_is in
    let v = c.begun-vehicle.result in
    let e = c.in_ok-index.ensures in
    let index = c.in_ok-index.index in
    new_use_as s k.odometer.0 k.entry.minute _ v begun_is
    (new_with s _ value (ring_else i.application i.days i.vehicles i.newest i.vehicle i.registration i.minute i.odometer s c.self.view_is c.add.new.self (Some index) (Some v)) old (g.M.Medium.state c.add.new.medium) false c.requires.card (g.met.M.Medium.coherent c.args.port.now) index v head
    vehicle_long c.write_vehicle.ensures.reads_back refl c.self.inside.vehicles (c.self.invariant.vehicles ∙ ap (λ (s : Session). vehicle_ring s.application) c.self.view_is) (λ fine. refl) (λ fine. e.took.is) (λ fine. e.alters.done) e.alters.moments e.alters.cause)
