use Rattle.std.proofs.Common.{ℕ, false, Option, Some, None, refl, sym, ◌∙◌, ap, subst, arith}
use Rattle.std.specs.Prelude.{is_err}
use Rattle.tach_media.proofs.Runs.{ok_gives}
use Rattle.card_layout.specs.declared.files.Application.{Application}
use Rattle.card_session.specs.Sessions.{Session, MayKeep}
use Rattle.card_session.proofs.FewWrites.{none_some, one_drop}
use Rattle.card_session.proofs.OnCard.{string_in}
use Rattle.card_session.proofs.OnDays.{add_part}
use Rattle.card_session.specs.Parts.{DoesPart, IsPartDone, IsPartMoment, TakesSome, with_some, IsAdding}
use Rattle.card_session.proofs.Told.{session, days_else, none_part}
use Rattle.card_session.proofs.session.CardSession.add.Goals as goal

pub add_change-requires-clause-fits : goal.add_change-requires-clause-fits
add_change-requires-clause-fits g c =
    (string_in c.self.inside.application c.self.inside.days.shape (g.M.Medium.state c.args.port.now) c.self.invariant.days (subst (λ (p : Application). MayKeep p (g.M.Medium.state c.args.port.now)) (ap (λ (s : Session). s.application) (sym c.self.view_is)) c.requires.card)).0

pub returns-in-Some-clause-part : goal.returns-in-Some-clause-part
returns-in-Some-clause-part g c =
    let i = c.self.inside in
    let e = c.add_change.ensures in
    let r = c.add_change.result in
    let old = g.M.Medium.state c.args.port.now in
    let new = g.M.Medium.state c.add_change.new.medium in
    let s : Session = session i.application i.days i.vehicles i.newest i.vehicle i.registration i.minute i.odometer in
    let t : Session = session i.application c.add_change.new.self i.vehicles i.newest i.vehicle i.registration i.minute i.odometer in
    let size = c.args.self.now.application.activity in
    subst (λ (o : Option ℕ). DoesPart old new (is_err r) (IsPartDone c.args.self.now t (TakesSome o) (with_some size o)) (IsPartMoment c.args.self.now (TakesSome o) (IsAdding size o))) (sym c.in-Some.is)
    (subst (λ (u : Session). DoesPart old new (is_err r) (IsPartDone u t (TakesSome (Some c.in-Some.word)) (with_some u.application.activity (Some c.in-Some.word))) (IsPartMoment u (TakesSome (Some c.in-Some.word)) (IsAdding u.application.activity (Some c.in-Some.word)))) c.self.view_is
    (add_part s t c.self.invariant (days_else i.application i.days i.vehicles i.newest i.vehicle i.registration i.minute i.odometer s refl c.add_change.new.self)
    old new (is_err r) (subst (λ (p : Application). MayKeep p old) (ap (λ (u : Session). u.application) (sym c.self.view_is)) c.requires.card) (g.met.M.Medium.coherent c.args.port.now) c.in-Some.word
    e.shape (λ fine. ok_gives r e.alters.done fine) (λ fine. (ok_gives r e.added fine).knows) e.alters.moments e.alters.cause))

pub returns-in-None-clause-part : goal.returns-in-None-clause-part
returns-in-None-clause-part g c =
    let i = c.self.inside in
    let old = g.M.Medium.state c.args.port.now in
    let s : Session = session i.application i.days i.vehicles i.newest i.vehicle i.registration i.minute i.odometer in
    let size = c.args.self.now.application.activity in
    subst (λ (o : Option ℕ). DoesPart old old false (IsPartDone c.args.self.now c.args.self.now (TakesSome o) (with_some size o)) (IsPartMoment c.args.self.now (TakesSome o) (IsAdding size o))) (sym c.in-None.is)
    (subst (λ (u : Session). DoesPart old old false (IsPartDone u u (TakesSome None) (with_some u.application.activity None)) (IsPartMoment u (TakesSome None) (IsAdding u.application.activity None))) c.self.view_is
    (none_part s c.self.invariant s refl old))

pub returns-in-Some-clause-none : goal.returns-in-Some-clause-none
returns-in-Some-clause-none g c = λ none. absurd (none_some (sym none ∙ c.in-Some.is))

pub returns-in-Some-clause-few : goal.returns-in-Some-clause-few
returns-in-Some-clause-few g c = omega (arith, c.add_change.ensures.alters.most, one_drop c.self.inside.days.shape.size c.self.inside.days.tail.used c.add_change.ensures.held.most)

pub returns-in-None-clause-none : goal.returns-in-None-clause-none
returns-in-None-clause-none g c = λ none. (refl, refl)
