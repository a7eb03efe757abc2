use Rattle.std.proofs.Common.{inr, ℕ, List, length, refl, sym, ◌∙◌, ap, subst, arith}
use Rattle.std.specs.Prelude.{is_err}
use Rattle.tach_media.proofs.Runs.{ok_gives}
use Rattle.card_layout.specs.declared.files.Application.{Application}
use Rattle.card_files.specs.Vehicles.{vehicle_of}
use Rattle.tach_media.specs.Medium.{put}
use Rattle.gated_ring.specs.Ring.{Shape}
use Rattle.card_validity.specs.card_image.Fields.{vehicle_ring}
use Rattle.card_session.specs.Sessions.{Session, IsValue, MayKeep}
use Rattle.card_session.specs.Books.{used}
use Rattle.card_session.specs.Parts.{used_session}
use Rattle.card_session.proofs.OnCard.{ring_in, field_in}
use Rattle.card_session.proofs.OnRing.{set_with, index_in, vehicle_used}
use Rattle.card_session.proofs.session.CardSession.write_last_use.Goals as goal

pub set_small-requires-clause-fits : goal.set_small-requires-clause-fits
set_small-requires-clause-fits g c = (ring_in c.self.inside.application c.self.inside.vehicles (g.M.Medium.state c.args.port.now) c.self.invariant.vehicles (subst (λ (p : Application). MayKeep p (g.M.Medium.state c.args.port.now)) (ap (λ (s : Session). s.application) (sym c.self.view_is)) c.requires.card)).0

pub set_small-requires-clause-index : goal.set_small-requires-clause-index
set_small-requires-clause-index g c = index_in _ c.self.invariant c.args.index (ap (λ (s : Session). s.newest) c.self.view_is ∙ c.requires.newest)

pub set_small-requires-clause-writable : goal.set_small-requires-clause-writable
set_small-requires-clause-writable g c =
    field_in c.self.inside.application c.self.inside.vehicles (g.M.Medium.state c.args.port.now) c.args.index 10 (length c.write_time.new.out) c.self.invariant.vehicles (subst (λ (p : Application). MayKeep p (g.M.Medium.state c.args.port.now)) (ap (λ (s : Session). s.application) (sym c.self.view_is)) c.requires.card)
    (index_in _ c.self.invariant c.args.index (ap (λ (s : Session). s.newest) c.self.view_is ∙ c.requires.newest)) (omega (arith, ap (λ (r : Shape). r.width) c.self.invariant.vehicles, ap length c.write_time.ensures.bytes))

pub set_small-requires-clause-width : goal.set_small-requires-clause-width
set_small-requires-clause-width g c = omega (arith, ap (λ (r : Shape). r.width) c.self.invariant.vehicles, ap length c.write_time.ensures.bytes)

pub set_small-requires-clause-apart : goal.set_small-requires-clause-apart
set_small-requires-clause-apart g c = inr (omega (arith, ap (λ (r : Shape). r.gate) c.self.invariant.vehicles, ap length c.write_time.ensures.bytes))

pub returns-clause-part : goal.returns-clause-part
returns-clause-part g c =
    let s = c.args.self.now in
    let value : IsValue s = subst IsValue c.self.view_is c.self.invariant in
    let e = c.set_small.ensures in
    let r = c.set_small.result in
    let old = g.M.Medium.state c.args.port.now in
    set_with s (used_session c.args.seconds s) value (record { application = refl; days = refl; registration = refl; minute = refl; odometer = refl }) old (g.M.Medium.state c.set_small.new.medium) (is_err r) c.requires.card (g.met.M.Medium.coherent c.args.port.now) c.args.index 10 c.write_time.new.out (used c.args.seconds) c.requires.newest refl refl
    (λ l len. ap (λ (b : List ℕ). vehicle_of (put 10 b l)) c.write_time.ensures.bytes ∙ vehicle_used l c.args.seconds len c.requires.fits) c.self.inside.vehicles (c.self.invariant.vehicles ∙ ap (λ (s : Session). vehicle_ring s.application) c.self.view_is) (λ fine. ok_gives r e.alters.done fine) e.alters.moments e.alters.cause
