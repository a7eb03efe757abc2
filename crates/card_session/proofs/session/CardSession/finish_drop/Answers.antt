use Rattle.std.proofs.Common.{refl, sym, ap, subst}
use Rattle.std.specs.Prelude.{is_err}
use Rattle.tach_media.proofs.Runs.{ok_gives}
use Rattle.card_layout.specs.declared.files.Application.{Application}
use Rattle.card_session.specs.Sessions.{Session, MayKeep}
use Rattle.card_session.specs.Moments.{IsBook}
use Rattle.card_session.specs.Parts.{DoesPart, IsPartDone, IsPartMoment, AnyBook}
use Rattle.card_session.proofs.OnCard.{string_in}
use Rattle.card_session.proofs.Told.{session, days_else}
use Rattle.card_session.proofs.InsertingDays.{still_part}
use Rattle.card_session.proofs.session.CardSession.finish_drop.Goals as goal

pub finish_drop-requires-clause-fits : goal.finish_drop-requires-clause-fits
finish_drop-requires-clause-fits g c =
    (string_in c.self.inside.application c.self.inside.days.shape (g.M.Medium.state c.args.port.now) c.self.invariant.days (subst (λ (p : Application). MayKeep p (g.M.Medium.state c.args.port.now)) (ap (λ (s : Session). s.application) (sym c.self.view_is)) c.requires.card)).0

pub returns-clause-part : goal.returns-clause-part
returns-clause-part g c =
    let i = c.self.inside in
    let e = c.finish_drop.ensures in
    let r = c.finish_drop.result in
    let old = g.M.Medium.state c.args.port.now in
    let new = g.M.Medium.state c.finish_drop.new.medium in
    let s : Session = session i.application i.days i.vehicles i.newest i.vehicle i.registration i.minute i.odometer in
    let t : Session = session i.application c.finish_drop.new.self i.vehicles i.newest i.vehicle i.registration i.minute i.odometer in
    subst (λ (u : Session). DoesPart old new (is_err r) (IsPartDone u t AnyBook (λ b. b)) (IsPartMoment u AnyBook IsBook)) c.self.view_is
    (still_part s t c.self.invariant (days_else i.application i.days i.vehicles i.newest i.vehicle i.registration i.minute i.odometer s refl c.finish_drop.new.self)
    old new (is_err r) (subst (λ (p : Application). MayKeep p old) (ap (λ (u : Session). u.application) (sym c.self.view_is)) c.requires.card) (g.met.M.Medium.coherent c.args.port.now)
    e.kept (λ fine. (ok_gives r e.ended fine).same) (λ fine. (ok_gives r e.ended fine).knows) e.moments e.cause)
