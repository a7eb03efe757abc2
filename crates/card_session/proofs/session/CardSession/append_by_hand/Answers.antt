use Rattle.std.proofs.Common.{ℕ, Some, refl, sym, ap, subst, arith}
use Rattle.std.specs.Prelude.{is_err}
use Rattle.tach_media.proofs.Runs.{ok_gives}
use Rattle.card_layout.specs.declared.files.Application.{Application}
use Rattle.card_session.specs.Sessions.{Session, MayKeep}
use Rattle.card_session.specs.Parts.{DoesPart, IsPartDone, IsPartMoment, TakesSome, with_some, IsAdding}
use Rattle.std.proofs.lemmas.Result.{on_ok_weaker}
use Rattle.hand_model.specs.Manual.{manual_word}
use Rattle.card_session.proofs.FewWrites.{one_drop, ends_as}
use Rattle.card_session.proofs.OnCard.{string_in}
use Rattle.card_session.proofs.OnDays.{add_part}
use Rattle.card_session.proofs.Told.{session, days_else}
use Rattle.card_session.proofs.session.CardSession.append_by_hand.Goals as goal

pub add_change-requires-clause-fits : goal.add_change-requires-clause-fits
add_change-requires-clause-fits g c =
    (string_in c.self.inside.application c.self.inside.days.shape (g.M.Medium.state c.args.port.now) c.self.invariant.days (subst (λ (p : Application). MayKeep p (g.M.Medium.state c.args.port.now)) (ap (λ (s : Session). s.application) (sym c.self.view_is)) c.requires.card)).0

pub returns-clause-part : goal.returns-clause-part
returns-clause-part g c =
    let i = c.self.inside in
    let e = c.add_change.ensures in
    let r = c.add_change.result in
    let old = g.M.Medium.state c.args.port.now in
    let new = g.M.Medium.state c.add_change.new.medium in
    let s : Session = session i.application i.days i.vehicles i.newest i.vehicle i.registration i.minute i.odometer in
    let t : Session = session i.application c.add_change.new.self i.vehicles i.newest i.vehicle i.registration i.minute i.odometer in
    let w = c.manual_word.result in
    let size = c.args.self.now.application.activity in
    subst (λ (v : ℕ). DoesPart old new (is_err r) (IsPartDone c.args.self.now t (TakesSome (Some v)) (with_some size (Some v))) (IsPartMoment c.args.self.now (TakesSome (Some v)) (IsAdding size (Some v)))) c.manual_word.ensures
    (subst (λ (u : Session). DoesPart old new (is_err r) (IsPartDone u t (TakesSome (Some w)) (with_some u.application.activity (Some w))) (IsPartMoment u (TakesSome (Some w)) (IsAdding u.application.activity (Some w)))) c.self.view_is
    (add_part s t c.self.invariant (days_else i.application i.days i.vehicles i.newest i.vehicle i.registration i.minute i.odometer s refl c.add_change.new.self)
    old new (is_err r) (subst (λ (p : Application). MayKeep p old) (ap (λ (u : Session). u.application) (sym c.self.view_is)) c.requires.card) (g.met.M.Medium.coherent c.args.port.now) w
    e.shape (λ fine. ok_gives r e.alters.done fine) (λ fine. (ok_gives r e.added fine).knows) e.alters.moments e.alters.cause))

pub returns-clause-most : goal.returns-clause-most
returns-clause-most g c = omega (arith, c.add_change.ensures.alters.most, one_drop c.self.inside.days.shape.size c.self.inside.days.tail.used c.add_change.ensures.held.most)

pub returns-clause-ends : goal.returns-clause-ends
returns-clause-ends g c =
    on_ok_weaker c.add_change.result (λ e. ends_as c.add_change.new.self c.self.inside.days.tail.head.date.0 c.args.self.now.days.tail.head.date.0 c.manual_word.result (manual_word c.args.entry.now) (ap (λ (s : Session). s.days.tail.head.date.0) c.self.view_is) c.manual_word.ensures e)
    c.add_change.ensures.ends
