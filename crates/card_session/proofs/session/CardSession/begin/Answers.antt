use Rattle.std.proofs.Common.{[], ◌∷◌, refl, sym, ap, subst}
use Rattle.std.specs.Prelude.{is_err}
use Rattle.tach_media.proofs.Runs.{ok_gives}
use Rattle.card_layout.specs.declared.files.Application.{Application}
use Rattle.card_session.specs.Sessions.{Session, MayKeep}
use Rattle.card_session.proofs.OnCard.{string_in}
use Rattle.card_session.specs.Parts.{DoesPart, IsPartDone, IsPartMoment, BeginsDay, with_day, IsBeforeDay}
use Rattle.card_session.proofs.Following.{words_alone, words_behind}
use Rattle.card_session.proofs.OnDays.{begin_with}
use Rattle.card_session.proofs.Told.{session, days_else}
use Rattle.card_session.proofs.session.CardSession.begin.Goals as goal

pub begin_day-requires-else-entry-eq0-clause-fits : goal.begin_day-requires-else-entry-eq0-clause-fits
begin_day-requires-else-entry-eq0-clause-fits g c =
    (string_in c.self.inside.application c.self.inside.days.shape (g.M.Medium.state c.args.port.now) c.self.invariant.days (subst (λ (p : Application). MayKeep p (g.M.Medium.state c.args.port.now)) (ap (λ (s : Session). s.application) (sym c.self.view_is)) c.requires.card)).0

pub begin_day-requires-clause-fits : goal.begin_day-requires-clause-fits
begin_day-requires-clause-fits g c =
    (string_in c.self.inside.application c.self.inside.days.shape (g.M.Medium.state c.args.port.now) c.self.invariant.days (subst (λ (p : Application). MayKeep p (g.M.Medium.state c.args.port.now)) (ap (λ (s : Session). s.application) (sym c.self.view_is)) c.requires.card)).0

pub returns-then-entry-eq0-clause-part : goal.returns-then-entry-eq0-clause-part
returns-then-entry-eq0-clause-part g c =
    let i = c.self.inside in
    let d = c.begin_day.ensures in
    let r = c.begin_day.result in
    let e = c.args.entry.now in
    let old = g.M.Medium.state c.args.port.now in
    let new = g.M.Medium.state c.begin_day.new.medium in
    let s : Session = session i.application i.days i.vehicles i.newest i.vehicle i.registration i.minute i.odometer in
    let t : Session = session i.application c.begin_day.new.self i.vehicles i.newest i.vehicle i.registration i.minute i.odometer in
    subst (λ (u : Session). DoesPart old new (is_err r) (IsPartDone u t (BeginsDay e) (with_day u.application.activity e)) (IsPartMoment u (BeginsDay e) (IsBeforeDay u.application.activity e))) c.self.view_is
    (begin_with s t c.self.invariant (days_else i.application i.days i.vehicles i.newest i.vehicle i.registration i.minute i.odometer s refl c.begin_day.new.self)
    old new (is_err r) (subst (λ (p : Application). MayKeep p old) (ap (λ (u : Session). u.application) (sym c.self.view_is)) c.requires.card) (g.met.M.Medium.coherent c.args.port.now) e
    (c.entry_word-word.result ∷ []) (words_alone e c.entry_word-word.result c.entry_word-word.ensures.word c.if-entry-eq0.true) c.date_of.result c.date_of.ensures
    d.shape (λ fine. ok_gives r d.alters.done fine) (λ fine. (ok_gives r d.began fine).knows) d.alters.moments d.alters.cause)

pub returns-else-entry-eq0-clause-part : goal.returns-else-entry-eq0-clause-part
returns-else-entry-eq0-clause-part g c =
    let i = c.self.inside in
    let d = c.begin_day-else-entry-eq0.ensures in
    let r = c.begin_day-else-entry-eq0.result in
    let e = c.args.entry.now in
    let old = g.M.Medium.state c.args.port.now in
    let new = g.M.Medium.state c.begin_day-else-entry-eq0.new.medium in
    let s : Session = session i.application i.days i.vehicles i.newest i.vehicle i.registration i.minute i.odometer in
    let t : Session = session i.application c.begin_day-else-entry-eq0.new.self i.vehicles i.newest i.vehicle i.registration i.minute i.odometer in
    subst (λ (u : Session). DoesPart old new (is_err r) (IsPartDone u t (BeginsDay e) (with_day u.application.activity e)) (IsPartMoment u (BeginsDay e) (IsBeforeDay u.application.activity e))) c.self.view_is
    (begin_with s t c.self.invariant (days_else i.application i.days i.vehicles i.newest i.vehicle i.registration i.minute i.odometer s refl c.begin_day-else-entry-eq0.new.self)
    old new (is_err r) (subst (λ (p : Application). MayKeep p old) (ap (λ (u : Session). u.application) (sym c.self.view_is)) c.requires.card) (g.met.M.Medium.coherent c.args.port.now) e
    (c.bare_word.result ∷ c.entry_word-word.result ∷ []) (words_behind e c.bare_word.result c.entry_word-word.result c.bare_word.ensures c.entry_word-word.ensures.word c.if-entry-eq0.false) c.date_of.result c.date_of.ensures
    d.shape (λ fine. ok_gives r d.alters.done fine) (λ fine. (ok_gives r d.began fine).knows) d.alters.moments d.alters.cause)
