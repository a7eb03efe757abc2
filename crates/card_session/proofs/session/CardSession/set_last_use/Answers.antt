use Rattle.std.proofs.Common.{rules, inr, ◌≡◌, ℕ, true, false, List, length, option_map, Some, refl, sym, ◌∙◌, ap, subst, arith}
use Rattle.std.specs.Prelude.{is_err}
use Rattle.card_layout.specs.declared.files.Application.{Application}
use Rattle.card_files.specs.declared.vehicle.Vehicle.{Vehicle}
use Rattle.card_files.specs.Vehicles.{vehicle_of}
use Rattle.tach_media.specs.Medium.{put}
use Rattle.gated_ring.specs.Ring.{Shape}
use Rattle.card_validity.specs.card_image.Fields.{vehicle_ring}
use Rattle.card_session.specs.Sessions.{Session, IsValue, MayKeep}
use Rattle.card_session.specs.Books.{used}
use Rattle.card_session.specs.Parts.{AnyBook, with_last_use, IsSettingUse}
use Rattle.card_session.proofs.Composing.{failed_part}
use Rattle.card_session.proofs.OnCard.{ring_in, field_in}
use Rattle.card_session.proofs.OnRing.{set_with, index_in, vehicle_used}
use Rattle.card_session.proofs.Told.{ring_else}
use Rattle.card_session.proofs.session.CardSession.set_last_use.Goals as goal

pub set_small-requires-clause-fits : goal.set_small-requires-clause-fits
set_small-requires-clause-fits g c = (ring_in c.self.inside.application c.self.inside.vehicles (g.M.Medium.state c.args.port.now) c.self.invariant.vehicles (subst (λ (p : Application). MayKeep p (g.M.Medium.state c.args.port.now)) (ap (λ (s : Session). s.application) (sym c.self.view_is)) c.requires.card)).0

pub set_small-requires-clause-index : goal.set_small-requires-clause-index
set_small-requires-clause-index g c = index_in _ c.self.invariant c.args.index (ap (λ (s : Session). s.newest) c.self.view_is ∙ c.requires.newest)

pub set_small-requires-clause-writable : goal.set_small-requires-clause-writable
set_small-requires-clause-writable g c =
    field_in c.self.inside.application c.self.inside.vehicles (g.M.Medium.state c.args.port.now) c.args.index 10 (length c.write_time.new.out) c.self.invariant.vehicles (subst (λ (p : Application). MayKeep p (g.M.Medium.state c.args.port.now)) (ap (λ (s : Session). s.application) (sym c.self.view_is)) c.requires.card)
    (index_in _ c.self.invariant c.args.index (ap (λ (s : Session). s.newest) c.self.view_is ∙ c.requires.newest)) (omega (arith, ap (λ (r : Shape). r.width) c.self.invariant.vehicles, ap length c.write_time.ensures.bytes))

pub set_small-requires-clause-width : goal.set_small-requires-clause-width
set_small-requires-clause-width g c = omega (arith, ap (λ (r : Shape). r.width) c.self.invariant.vehicles, ap length c.write_time.ensures.bytes)

pub set_small-requires-clause-apart : goal.set_small-requires-clause-apart
set_small-requires-clause-apart g c = inr (omega (arith, ap (λ (r : Shape). r.gate) c.self.invariant.vehicles, ap length c.write_time.ensures.bytes))

pub returns-in_err-set_small-clause-part : goal.returns-in_err-set_small-clause-part
returns-in_err-set_small-clause-part g c =
    let failed : is_err c.from_residual.result ≡ true = search rules in
    let s = c.args.self.now in
    let value : IsValue s = subst IsValue c.self.view_is c.self.invariant in
    let u : Vehicle → Vehicle = used c.args.seconds in
    let t : Session = record s { vehicle = option_map u s.vehicle } in
    let e = c.in_err-set_small.ensures in
    let old = g.M.Medium.state c.args.port.now in
    failed_part s t _ AnyBook (with_last_use c.args.seconds) (with_last_use c.args.seconds) (IsSettingUse c.args.seconds) (IsSettingUse c.args.seconds)
    (set_with s t value (record { application = refl; days = refl; registration = refl; minute = refl; odometer = refl }) old (g.M.Medium.state c.set_small.new.medium) true c.requires.card (g.met.M.Medium.coherent c.args.port.now) c.args.index 10 c.write_time.new.out u c.requires.newest refl refl
    (λ l len. ap (λ (b : List ℕ). vehicle_of (put 10 b l)) c.write_time.ensures.bytes ∙ vehicle_used l c.args.seconds len (omega (arith, c.requires.last))) c.self.inside.vehicles (c.self.invariant.vehicles ∙ ap (λ (s : Session). vehicle_ring s.application) c.self.view_is) (λ fine. absurd (cc)) e.alters.moments e.alters.cause) failed (λ b ds v any q. q)

pub returns-clause-part : goal.returns-clause-part
returns-clause-part g c =
    let s = c.args.self.now in
    let value : IsValue s = subst IsValue c.self.view_is c.self.invariant in
    let u : Vehicle → Vehicle = used c.args.seconds in
    let i = c.self.inside in
    let e = c.in_ok-set_small.ensures in
    let old = g.M.Medium.state c.args.port.now in
    set_with s _ value (ring_else i.application i.days i.vehicles i.newest i.vehicle i.registration i.minute i.odometer s c.self.view_is c.set_small.new.self i.newest (Some c.used.result)) old (g.M.Medium.state c.set_small.new.medium) false c.requires.card (g.met.M.Medium.coherent c.args.port.now) c.args.index 10 c.write_time.new.out u c.requires.newest
    (ap (λ (t : Session). t.newest) c.self.view_is) (ap (λ (v : Vehicle). Some v) c.used.ensures ∙ ap (option_map u) (sym c.requires.vehicle))
    (λ l len. ap (λ (b : List ℕ). vehicle_of (put 10 b l)) c.write_time.ensures.bytes ∙ vehicle_used l c.args.seconds len (omega (arith, c.requires.last))) c.self.inside.vehicles (c.self.invariant.vehicles ∙ ap (λ (s : Session). vehicle_ring s.application) c.self.view_is) (λ fine. e.alters.done) e.alters.moments e.alters.cause
