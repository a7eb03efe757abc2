use Rattle.std.proofs.Common.{◌≡◌, ℕ, List, sym, ◌∙◌, ap, subst}
use Rattle.card_days.specs.card_model.Days.{Day}
use Rattle.card_days.specs.Held.{Held, Knows, tail_in, tail_of}
use Rattle.card_session.specs.Sessions.{Session, IsValue}
use Rattle.card_session.proofs.FewWrites.{elsewhere}
use Rattle.card_session.proofs.Told.{change_part, day_part}
use Rattle.card_session.proofs.session.CardSession.write_words.Goals as goal

pub returns-then-is_newest_day-clause-part : goal.returns-then-is_newest_day-clause-part
returns-then-is_newest_day-clause-part g c =
    let value : IsValue c.args.self.now = subst IsValue c.self.view_is c.self.invariant in
    change_part c.args.self.now value _ c.args.entry.now c.tail-tail.result (subst (λ (h : Held). (x : List ℕ) (days : List Day) → Knows h x days → c.tail-tail.result ≡ tail_in h.shape x days) (ap (λ (s : Session). s.days) c.self.view_is) c.tail-tail.ensures.newest) c.entry_change.result (sym c.is_newest_day.ensures ∙ c.if-is_newest_day.true) c.entry_change.ensures c.add.ensures.part

pub returns-else-is_newest_day-clause-part : goal.returns-else-is_newest_day-clause-part
returns-else-is_newest_day-clause-part g c =
    let value : IsValue c.args.self.now = subst IsValue c.self.view_is c.self.invariant in
    day_part c.args.self.now value _ c.args.entry.now c.tail-tail.result (subst (λ (h : Held). (x : List ℕ) (days : List Day) → Knows h x days → c.tail-tail.result ≡ tail_in h.shape x days) (ap (λ (s : Session). s.days) c.self.view_is) c.tail-tail.ensures.newest) (sym c.is_newest_day.ensures ∙ c.if-is_newest_day.false) c.requires.first c.begin.ensures.part

pub returns-then-is_newest_day-clause-few : goal.returns-then-is_newest_day-clause-few
returns-then-is_newest_day-clause-few g c = λ ends. c.add.ensures.few

pub returns-else-is_newest_day-clause-few : goal.returns-else-is_newest_day-clause-few
returns-else-is_newest_day-clause-few g c = λ ends.
    let told : c.tail-tail.result ≡ tail_of c.args.self.now.days = c.tail-tail.ensures.tail ∙ ap (λ (t : Session). tail_of t.days) c.self.view_is in
    absurd (elsewhere c.args.self.now c.args.entry.now.minute c.tail-tail.result ends told (sym c.is_newest_day.ensures ∙ c.if-is_newest_day.false))
