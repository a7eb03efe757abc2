use Rattle.std.proofs.Common.{refl, sym, ap, subst}
use Rattle.std.specs.Prelude.{is_err}
use Rattle.tach_media.proofs.Runs.{ok_gives}
use Rattle.card_layout.specs.declared.files.Application.{Application}
use Rattle.card_session.specs.Sessions.{Session, MayKeep}
use Rattle.card_session.specs.Parts.{DoesPart, IsPartDone, IsPartMoment, AnyBook}
use Rattle.card_session.specs.Inserting.{with_cut, IsCutting}
use Rattle.card_session.proofs.OnCard.{string_in}
use Rattle.card_session.proofs.Told.{session, days_else}
use Rattle.card_session.proofs.InsertingDays.{cut_part, value_as}
use Rattle.card_session.proofs.session.CardSession.cut.Goals as goal

pub trim-requires-clause-fits : goal.trim-requires-clause-fits
trim-requires-clause-fits g c =
    (string_in c.self.inside.application c.self.inside.days.shape (g.M.Medium.state c.args.port.now) c.self.invariant.days (subst (λ (p : Application). MayKeep p (g.M.Medium.state c.args.port.now)) (ap (λ (s : Session). s.application) (sym c.self.view_is)) c.requires.card)).0

pub returns-clause-value : goal.returns-clause-value
returns-clause-value g c =
    let i = c.self.inside in
    let s : Session = session i.application i.days i.vehicles i.newest i.vehicle i.registration i.minute i.odometer in
    value_as s (session i.application c.trim.new.self i.vehicles i.newest i.vehicle i.registration i.minute i.odometer) c.self.invariant
    (days_else i.application i.days i.vehicles i.newest i.vehicle i.registration i.minute i.odometer s refl c.trim.new.self) c.trim.ensures.shape

pub returns-clause-part : goal.returns-clause-part
returns-clause-part g c =
    let i = c.self.inside in
    let e = c.trim.ensures in
    let r = c.trim.result in
    let old = g.M.Medium.state c.args.port.now in
    let new = g.M.Medium.state c.trim.new.medium in
    let s : Session = session i.application i.days i.vehicles i.newest i.vehicle i.registration i.minute i.odometer in
    let t : Session = session i.application c.trim.new.self i.vehicles i.newest i.vehicle i.registration i.minute i.odometer in
    subst (λ (u : Session). DoesPart old new (is_err r) (IsPartDone u t AnyBook (with_cut c.args.minute)) (IsPartMoment u AnyBook (IsCutting c.args.minute))) c.self.view_is
    (cut_part s t c.self.invariant (days_else i.application i.days i.vehicles i.newest i.vehicle i.registration i.minute i.odometer s refl c.trim.new.self)
    old new (is_err r) (subst (λ (p : Application). MayKeep p old) (ap (λ (u : Session). u.application) (sym c.self.view_is)) c.requires.card) (g.met.M.Medium.coherent c.args.port.now)
    c.args.minute e.shape (λ fine. (ok_gives r e.cut fine).is) (λ fine. (ok_gives r e.cut fine).knows) e.moments e.cause)
