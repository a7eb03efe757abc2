use Rattle.std.proofs.Common.{◌≡◌, ℕ, List, refl, sym, ap, subst}
use Rattle.std.specs.Prelude.{is_err, ◌⊎◌}
use Rattle.tach_media.proofs.Runs.{ok_gives}
use Rattle.card_layout.specs.declared.files.Application.{Application}
use Rattle.card_days.specs.card_model.Days.{Day}
use Rattle.card_days.specs.Held.{Held, Knows, tail_in}
use Rattle.card_session.specs.Sessions.{Session, IsValue, MayKeep}
use Rattle.card_session.proofs.OnCard.{string_in}
use Rattle.card_session.proofs.OnDays.{distance_part}
use Rattle.card_days.specs.card_model.Changes.{with_newest, with_km}
use Rattle.card_session.specs.Books.{Book}
use Rattle.card_session.specs.Parts.{DoesPart, IsPartDone, IsPartMoment, HasDay}
use Rattle.card_session.proofs.Told.{session, days_else, km_part}
use Rattle.card_session.proofs.session.CardSession.travel.Goals as goal

pub set_distance-requires-clause-fits : goal.set_distance-requires-clause-fits
set_distance-requires-clause-fits g c =
    (string_in c.self.inside.application c.self.inside.days.shape (g.M.Medium.state c.args.port.now) c.self.invariant.days (subst (λ (p : Application). MayKeep p (g.M.Medium.state c.args.port.now)) (ap (λ (s : Session). s.application) (sym c.self.view_is)) c.requires.card)).0

pub returns-clause-part : goal.returns-clause-part
returns-clause-part g c =
    let value : IsValue c.args.self.now = subst IsValue c.self.view_is c.self.invariant in
    let i = c.self.inside in
    let e = c.set_distance.ensures in
    let r = c.set_distance.result in
    let km = c.distance-km.result.0 in
    let old = g.M.Medium.state c.args.port.now in
    let new = g.M.Medium.state c.set_distance.new.medium in
    let s : Session = session i.application i.days i.vehicles i.newest i.vehicle i.registration i.minute i.odometer in
    let t : Session = session i.application c.set_distance.new.self i.vehicles i.newest i.vehicle i.registration i.minute i.odometer in
    km_part c.args.self.now value t c.args.km km c.tail.result (subst (λ (h : Held). (x : List ℕ) (days : List Day) → Knows h x days → c.tail.result ≡ tail_in h.shape x days) (ap (λ (s : Session). s.days) c.self.view_is) c.tail.ensures.newest) c.distance-km.ensures
    (subst (λ (u : Session). DoesPart old new (is_err r) (IsPartDone u t HasDay (λ b. let n : Book = record { days = with_newest (with_km km) b.days; vehicles = b.vehicles } in n)) (IsPartMoment u HasDay (λ b ds v. ((ds ≡ b.days) ⊎ (ds ≡ with_newest (with_km km) b.days)) × (v ≡ b.vehicles)))) c.self.view_is
    (distance_part s t c.self.invariant (days_else i.application i.days i.vehicles i.newest i.vehicle i.registration i.minute i.odometer s refl c.set_distance.new.self)
    old new (is_err r) (subst (λ (p : Application). MayKeep p old) (ap (λ (u : Session). u.application) (sym c.self.view_is)) c.requires.card) (g.met.M.Medium.coherent c.args.port.now) km
    e.shape (λ fine. ok_gives r e.alters.done fine) (λ fine. ok_gives r e.knows fine) e.alters.moments e.alters.cause))
