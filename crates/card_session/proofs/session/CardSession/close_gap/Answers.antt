use Rattle.std.proofs.Common.{◌≡◌, ◌∙◌, ℕ, List, ap, subst}
use Rattle.card_days.specs.card_model.Days.{Day}
use Rattle.card_days.specs.Held.{Held, Knows, tail_in, tail_of}
use Rattle.card_session.specs.Sessions.{Session, IsValue}
use Rattle.card_session.proofs.FewWrites.{no_gap}
use Rattle.card_session.proofs.Told.{gap_part}
use Rattle.card_session.proofs.session.CardSession.close_gap.Goals as goal

pub returns-clause-part : goal.returns-clause-part
returns-clause-part g c =
    let value : IsValue c.args.self.now = subst IsValue c.self.view_is c.self.invariant in
    gap_part c.args.self.now value _ c.args.minute c.mark.result c.tail.result c.gap_word-word.result c.mark.ensures.mark (subst (λ (h : Held). (x : List ℕ) (days : List Day) → Knows h x days → c.tail.result ≡ tail_in h.shape x days) (ap (λ (s : Session). s.days) c.self.view_is) c.tail.ensures.newest) c.gap_word-word.ensures c.add.ensures.part

pub returns-clause-shut : goal.returns-clause-shut
returns-clause-shut g c = λ ends.
    c.add.ensures.none (c.gap_word-word.ensures ∙ no_gap c.args.self.now c.args.minute c.mark.result c.tail.result ends (c.tail.ensures.tail ∙ ap (λ (t : Session). tail_of t.days) c.self.view_is))
