use Rattle.std.proofs.Common.{rules, inl, inr, ⊎_elim, ◌≡◌, ◌+◌, ◌*◌, ℕ, true, List, Option, None, sym, ◌∙◌, ap, subst, arith}
use Rattle.std.specs.Prelude.{is_err, IfNone, ◌⊎◌}
use Rattle.card_files.specs.declared.vehicle.Vehicle.{Vehicle}
use Rattle.activity_codec.specs.declared.values.Activity.TheVariants.{Rest}
use Rattle.card_days.specs.card_model.Days.{Day}
use Rattle.card_days.specs.Held.{Held, Knows, tail_in}
use Rattle.card_session.specs.Books.{closed}
use Rattle.card_session.specs.Sessions.{Session, IsValue}
use Rattle.card_session.specs.Moments.{IsCloseMoment}
use Rattle.card_session.proofs.OnCard.{may_still}
use Rattle.card_session.proofs.Closing.{none_shut, worded_part, word_failed, word_alone, mark_then}
use Rattle.card_session.proofs.InsertingWords.{shut_as, late_shut}
use Rattle.card_session.proofs.session.CardSession.shut.Goals as goal

pub returns-then-mark-eq-LATEST_MINUTE-clause-part : goal.returns-then-mark-eq-LATEST_MINUTE-clause-part
returns-then-mark-eq-LATEST_MINUTE-clause-part g c = late_shut c.args.self.now _ c.mark-mark.result c.mark-mark.ensures.mark c.if-mark-eq-LATEST_MINUTE.true (closed c.args.self.now.application.activity Rest) (IsCloseMoment c.args.self.now.application.activity Rest) (g.M.Medium.state c.args.port.now)

pub returns-in_default-clause-part : goal.returns-in_default-clause-part
returns-in_default-clause-part g c =
    let s = c.args.self.now in
    let value : IsValue s = subst IsValue c.self.view_is c.self.invariant in
    shut_as s _ (closed s.application.activity Rest) (IsCloseMoment s.application.activity Rest) (none_shut s value Rest c.mark-mark.result c.mark-mark.ensures.mark c.tail.result (subst (λ (h : Held). (x : List ℕ) (days : List Day) → Knows h x days → c.tail.result ≡ tail_in h.shape x days) (ap (λ (s : Session). s.days) c.self.view_is) c.tail.ensures.newest)
    (sym c.closing.ensures ∙ c.in_default.is) (g.M.Medium.state c.args.port.now))

pub returns-in_err-add-clause-part : goal.returns-in_err-add-clause-part
returns-in_err-add-clause-part g c =
    let failed : is_err c.from_residual.result ≡ true = search rules in
    let s = c.args.self.now in
    let value : IsValue s = subst IsValue c.self.view_is c.self.invariant in
    let told = subst (λ (h : Held). (x : List ℕ) (days : List Day) → Knows h x days → c.tail.result ≡ tail_in h.shape x days) (ap (λ (s : Session). s.days) c.self.view_is) c.tail.ensures.newest in
    let mark_is = c.mark-mark.ensures.mark in
    let one = sym c.closing.ensures ∙ c.in-Some.is in
    shut_as s _ (closed s.application.activity Rest) (IsCloseMoment s.application.activity Rest) (word_failed s value Rest c.mark-mark.result mark_is c.tail.result told c.in-Some.word one c.add.new.self _
    (worded_part s value Rest c.mark-mark.result mark_is c.tail.result told c.in-Some.word one c.add.new.self c.in_err-add.ensures.part) failed)

pub returns-in-None-clause-part : goal.returns-in-None-clause-part
returns-in-None-clause-part g c =
    let s = c.args.self.now in
    let value : IsValue s = subst IsValue c.self.view_is c.self.invariant in
    let told = subst (λ (h : Held). (x : List ℕ) (days : List Day) → Knows h x days → c.tail.result ≡ tail_in h.shape x days) (ap (λ (s : Session). s.days) c.self.view_is) c.tail.ensures.newest in
    let mark_is = c.mark-mark.ensures.mark in
    let one = sym c.closing.ensures ∙ c.in-Some.is in
    let same = c.in_ok-add.ensures.same in
    shut_as s _ (closed s.application.activity Rest) (IsCloseMoment s.application.activity Rest) (word_alone s value Rest c.mark-mark.result mark_is c.tail.result told c.in-Some.word one c.add.new.self
    (worded_part s value Rest c.mark-mark.result mark_is c.tail.result told c.in-Some.word one c.add.new.self c.in_ok-add.ensures.part)
    (⊎_elim (λ newest. inl (sym same.newest ∙ newest)) (λ vehicle. inr (sym same.vehicle ∙ vehicle))
    (subst (λ (o : Option (ℕ × Vehicle)). IfNone o ((c.add.new.self.newest ≡ None) ⊎ (c.add.new.self.vehicle ≡ None))) c.in-None.is c.newest_use.ensures.none)))

pub set_last_use-requires-clause-card : goal.set_last_use-requires-clause-card
set_last_use-requires-clause-card g c = may_still c.args.self.now.application c.add.new.self.application c.in_ok-add.ensures.part.leaves c.in_ok-add.ensures.same.application c.requires.card

pub set_last_use-requires-clause-last : goal.set_last_use-requires-clause-last
set_last_use-requires-clause-last g c = omega (arith, c.mark-mark.ensures.most, c.if-mark-eq-LATEST_MINUTE.false)

pub returns-in-Some-newest_use-clause-part : goal.returns-in-Some-newest_use-clause-part
returns-in-Some-newest_use-clause-part g c =
    let s = c.args.self.now in
    let value : IsValue s = subst IsValue c.self.view_is c.self.invariant in
    let told = subst (λ (h : Held). (x : List ℕ) (days : List Day) → Knows h x days → c.tail.result ≡ tail_in h.shape x days) (ap (λ (s : Session). s.days) c.self.view_is) c.tail.ensures.newest in
    let mark_is = c.mark-mark.ensures.mark in
    let one = sym c.closing.ensures ∙ c.in-Some.is in
    shut_as s _ (closed s.application.activity Rest) (IsCloseMoment s.application.activity Rest) (mark_then s value Rest c.mark-mark.result mark_is c.tail.result told c.in-Some.word one c.add.new.self
    (60 * (c.mark-mark.result + 1)) (omega arith) _ c.in_ok-add.ensures.same.application
    (worded_part s value Rest c.mark-mark.result mark_is c.tail.result told c.in-Some.word one c.add.new.self c.in_ok-add.ensures.part) c.set_last_use.ensures.part)
