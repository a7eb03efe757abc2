use Rattle.std.proofs.Common.{[], ◌∷◌, refl, sym, ap, subst, arith}
use Rattle.std.specs.Prelude.{is_err}
use Rattle.tach_media.proofs.Runs.{ok_gives}
use Rattle.card_layout.specs.declared.files.Application.{Application}
use Rattle.std.proofs.lemmas.Result.{on_ok_weaker}
use Rattle.card_days.specs.card_model.Changes.{date_of}
use Rattle.hand_model.specs.Manual.{manual_word}
use Rattle.card_session.proofs.FewWrites.{ends_as}
use Rattle.hand_model.proofs.Words.{minute_is}
use Rattle.card_session.specs.Sessions.{Session, MayKeep}
use Rattle.card_session.specs.Parts.{DoesPart, IsPartDone, IsPartMoment}
use Rattle.card_session.specs.ByHand.{BeginsFrom, with_day_in, IsBeforeDayFrom}
use Rattle.card_session.proofs.ByHand.{few_drops, from_alone, from_behind, from_with}
use Rattle.card_session.proofs.OnCard.{string_in}
use Rattle.card_session.proofs.Told.{session, days_else}
use Rattle.card_session.proofs.session.CardSession.begin_by_hand.Goals as goal

pub begin_day-requires-else-entry-eq0-clause-fits : goal.begin_day-requires-else-entry-eq0-clause-fits
begin_day-requires-else-entry-eq0-clause-fits g c =
    (string_in c.self.inside.application c.self.inside.days.shape (g.M.Medium.state c.args.port.now) c.self.invariant.days (subst (λ (p : Application). MayKeep p (g.M.Medium.state c.args.port.now)) (ap (λ (s : Session). s.application) (sym c.self.view_is)) c.requires.card)).0

pub begin_day-requires-clause-fits : goal.begin_day-requires-clause-fits
begin_day-requires-clause-fits g c =
    (string_in c.self.inside.application c.self.inside.days.shape (g.M.Medium.state c.args.port.now) c.self.invariant.days (subst (λ (p : Application). MayKeep p (g.M.Medium.state c.args.port.now)) (ap (λ (s : Session). s.application) (sym c.self.view_is)) c.requires.card)).0

pub returns-then-entry-eq0-clause-part : goal.returns-then-entry-eq0-clause-part
returns-then-entry-eq0-clause-part g c =
    let i = c.self.inside in
    let d = c.begin_day.ensures in
    let r = c.begin_day.result in
    let e = c.args.entry.now in
    let old = g.M.Medium.state c.args.port.now in
    let new = g.M.Medium.state c.begin_day.new.medium in
    let s : Session = session i.application i.days i.vehicles i.newest i.vehicle i.registration i.minute i.odometer in
    let t : Session = session i.application c.begin_day.new.self i.vehicles i.newest i.vehicle i.registration i.minute i.odometer in
    subst (λ (u : Session). DoesPart old new (is_err r) (IsPartDone u t (BeginsFrom e.minute (manual_word e)) (with_day_in u.application.activity e.minute (manual_word e))) (IsPartMoment u (BeginsFrom e.minute (manual_word e)) (IsBeforeDayFrom u.application.activity e.minute (manual_word e)))) c.self.view_is
    (from_with s t c.self.invariant (days_else i.application i.days i.vehicles i.newest i.vehicle i.registration i.minute i.odometer s refl c.begin_day.new.self)
    old new (is_err r) (subst (λ (p : Application). MayKeep p old) (ap (λ (u : Session). u.application) (sym c.self.view_is)) c.requires.card) (g.met.M.Medium.coherent c.args.port.now) e.minute (manual_word e)
    (c.manual_word-word.result ∷ []) (from_alone e.minute (manual_word e) (minute_is e) c.manual_word-word.result c.manual_word-word.ensures c.if-entry-eq0.true) c.date_of.result c.date_of.ensures
    d.shape (λ fine. ok_gives r d.alters.done fine) (λ fine. (ok_gives r d.began fine).knows) d.alters.moments d.alters.cause)

pub returns-else-entry-eq0-clause-part : goal.returns-else-entry-eq0-clause-part
returns-else-entry-eq0-clause-part g c =
    let i = c.self.inside in
    let d = c.begin_day-else-entry-eq0.ensures in
    let r = c.begin_day-else-entry-eq0.result in
    let e = c.args.entry.now in
    let old = g.M.Medium.state c.args.port.now in
    let new = g.M.Medium.state c.begin_day-else-entry-eq0.new.medium in
    let s : Session = session i.application i.days i.vehicles i.newest i.vehicle i.registration i.minute i.odometer in
    let t : Session = session i.application c.begin_day-else-entry-eq0.new.self i.vehicles i.newest i.vehicle i.registration i.minute i.odometer in
    subst (λ (u : Session). DoesPart old new (is_err r) (IsPartDone u t (BeginsFrom e.minute (manual_word e)) (with_day_in u.application.activity e.minute (manual_word e))) (IsPartMoment u (BeginsFrom e.minute (manual_word e)) (IsBeforeDayFrom u.application.activity e.minute (manual_word e)))) c.self.view_is
    (from_with s t c.self.invariant (days_else i.application i.days i.vehicles i.newest i.vehicle i.registration i.minute i.odometer s refl c.begin_day-else-entry-eq0.new.self)
    old new (is_err r) (subst (λ (p : Application). MayKeep p old) (ap (λ (u : Session). u.application) (sym c.self.view_is)) c.requires.card) (g.met.M.Medium.coherent c.args.port.now) e.minute (manual_word e)
    (c.bare_word.result ∷ c.manual_word-word.result ∷ []) (from_behind e.minute (manual_word e) (minute_is e) c.bare_word.result c.manual_word-word.result c.bare_word.ensures c.manual_word-word.ensures c.if-entry-eq0.false) c.date_of.result c.date_of.ensures
    d.shape (λ fine. ok_gives r d.alters.done fine) (λ fine. (ok_gives r d.began fine).knows) d.alters.moments d.alters.cause)

pub returns-then-entry-eq0-clause-most : goal.returns-then-entry-eq0-clause-most
returns-then-entry-eq0-clause-most g c = omega (arith, c.begin_day.ensures.alters.most, few_drops c.self.inside.days.shape.size c.self.inside.days.tail.used 14)

pub returns-else-entry-eq0-clause-most : goal.returns-else-entry-eq0-clause-most
returns-else-entry-eq0-clause-most g c = omega (arith, c.begin_day-else-entry-eq0.ensures.alters.most, few_drops c.self.inside.days.shape.size c.self.inside.days.tail.used 16)

pub returns-then-entry-eq0-clause-ends : goal.returns-then-entry-eq0-clause-ends
returns-then-entry-eq0-clause-ends g c =
    on_ok_weaker c.begin_day.result (λ e. ends_as c.begin_day.new.self c.date_of.result (date_of c.args.entry.now.minute) c.manual_word-word.result (manual_word c.args.entry.now) c.date_of.ensures c.manual_word-word.ensures e)
    c.begin_day.ensures.ends

pub returns-else-entry-eq0-clause-ends : goal.returns-else-entry-eq0-clause-ends
returns-else-entry-eq0-clause-ends g c =
    on_ok_weaker c.begin_day-else-entry-eq0.result (λ e. ends_as c.begin_day-else-entry-eq0.new.self c.date_of.result (date_of c.args.entry.now.minute) c.manual_word-word.result (manual_word c.args.entry.now) c.date_of.ensures c.manual_word-word.ensures e)
    c.begin_day-else-entry-eq0.ensures.ends
