use Rattle.std.proofs.Common.{rules, inl, ◌≡◌, ◌+◌, ◌*◌, ℕ, true, List, sym, ◌∙◌, ap, subst, arith}
use Rattle.std.specs.Prelude.{is_err}
use Rattle.card_days.specs.card_model.Days.{Day}
use Rattle.card_days.specs.Held.{Held, Knows, tail_in}
use Rattle.card_session.specs.Sessions.{Session, IsValue}
use Rattle.card_session.specs.Parts.{used_session}
use Rattle.card_session.proofs.OnCard.{may_still}
use Rattle.card_session.proofs.Closing.{closes, none_shut, worded_part, word_failed, word_alone, mark_then}
use Rattle.card_session.proofs.session.CardSession.close_words.Goals as goal

pub returns-in_default-clause-part : goal.returns-in_default-clause-part
returns-in_default-clause-part g c =
    let s = c.args.self.now in
    let value : IsValue s = subst IsValue c.self.view_is c.self.invariant in
    closes s s c.args.act (none_shut s value c.args.act c.mark-mark.result c.mark-mark.ensures.mark c.tail.result (subst (λ (h : Held). (x : List ℕ) (days : List Day) → Knows h x days → c.tail.result ≡ tail_in h.shape x days) (ap (λ (s : Session). s.days) c.self.view_is) c.tail.ensures.newest)
    (sym c.closing.ensures ∙ c.in_default.is) (g.M.Medium.state c.args.port.now))

pub returns-in_err-add-clause-part : goal.returns-in_err-add-clause-part
returns-in_err-add-clause-part g c =
    let failed : is_err c.from_residual.result ≡ true = search rules in
    let s = c.args.self.now in
    let value : IsValue s = subst IsValue c.self.view_is c.self.invariant in
    let told = subst (λ (h : Held). (x : List ℕ) (days : List Day) → Knows h x days → c.tail.result ≡ tail_in h.shape x days) (ap (λ (s : Session). s.days) c.self.view_is) c.tail.ensures.newest in
    let mark_is = c.mark-mark.ensures.mark in
    let one = sym c.closing.ensures ∙ c.in-Some.is in
    closes s s c.args.act (word_failed s value c.args.act c.mark-mark.result mark_is c.tail.result told c.in-Some.word one c.add.new.self s
    (worded_part s value c.args.act c.mark-mark.result mark_is c.tail.result told c.in-Some.word one c.add.new.self c.in_err-add.ensures.part) failed)

pub returns-in-None-clause-part : goal.returns-in-None-clause-part
returns-in-None-clause-part g c =
    let s = c.args.self.now in
    let value : IsValue s = subst IsValue c.self.view_is c.self.invariant in
    let told = subst (λ (h : Held). (x : List ℕ) (days : List Day) → Knows h x days → c.tail.result ≡ tail_in h.shape x days) (ap (λ (s : Session). s.days) c.self.view_is) c.tail.ensures.newest in
    let mark_is = c.mark-mark.ensures.mark in
    let one = sym c.closing.ensures ∙ c.in-Some.is in
    closes s c.add.new.self c.args.act (word_alone s value c.args.act c.mark-mark.result mark_is c.tail.result told c.in-Some.word one c.add.new.self
    (worded_part s value c.args.act c.mark-mark.result mark_is c.tail.result told c.in-Some.word one c.add.new.self c.in_ok-add.ensures.part)
    (inl (sym c.in_ok-add.ensures.same.newest ∙ ap (λ (t : Session). t.newest) (sym c.self-2.view_is) ∙ c.in-None.is)))

pub write_last_use-requires-clause-card : goal.write_last_use-requires-clause-card
write_last_use-requires-clause-card g c = may_still c.args.self.now.application c.add.new.self.application c.in_ok-add.ensures.part.leaves c.in_ok-add.ensures.same.application c.requires.card

pub write_last_use-requires-clause-newest : goal.write_last_use-requires-clause-newest
write_last_use-requires-clause-newest g c = ap (λ (t : Session). t.newest) (sym c.self-2.view_is) ∙ c.in-Some-newest.is

pub returns-in-Some-newest-clause-part : goal.returns-in-Some-newest-clause-part
returns-in-Some-newest-clause-part g c =
    let s = c.args.self.now in
    let value : IsValue s = subst IsValue c.self.view_is c.self.invariant in
    let told = subst (λ (h : Held). (x : List ℕ) (days : List Day) → Knows h x days → c.tail.result ≡ tail_in h.shape x days) (ap (λ (s : Session). s.days) c.self.view_is) c.tail.ensures.newest in
    let mark_is = c.mark-mark.ensures.mark in
    let one = sym c.closing.ensures ∙ c.in-Some.is in
    closes s (used_session (60 * (c.mark-mark.result + 1)) c.add.new.self) c.args.act (mark_then s value c.args.act c.mark-mark.result mark_is c.tail.result told c.in-Some.word one c.add.new.self
    (60 * (c.mark-mark.result + 1)) (omega arith) (used_session (60 * (c.mark-mark.result + 1)) c.add.new.self) c.in_ok-add.ensures.same.application
    (worded_part s value c.args.act c.mark-mark.result mark_is c.tail.result told c.in-Some.word one c.add.new.self c.in_ok-add.ensures.part) c.write_last_use.ensures.part)
