use Rattle.std.proofs.lemmas.Grind.{common_steps}
use Rattle.std.proofs.Common.{◌≡◌, ℕ, List, refl, sym, ◌∙◌, ap, subst, rules, arith}
use Rattle.std.proofs.lemmas.Result.{on_ok_weaker}
use Rattle.card_days.specs.card_model.Days.{Day}
use Rattle.card_days.specs.card_model.Changes.{date_of}
use Rattle.card_days.specs.Held.{Held, Knows, tail_in, tail_of}
use Rattle.hand_model.specs.Manual.{manual_word}
use Rattle.hand_model.proofs.Words.{absent_is}
use Rattle.card_session.proofs.FewWrites.{day_is, ends_by_hand, elsewhere}
use Rattle.card_session.specs.Sessions.{Session, IsValue}
use Rattle.card_session.proofs.ByHand.{on_part, day_part}
use Rattle.card_session.proofs.session.CardSession.write_by_hand.Goals as goal

pub returns-then-is_newest_day-clause-part : goal.returns-then-is_newest_day-clause-part
returns-then-is_newest_day-clause-part g c =
    let value : IsValue c.args.self.now = subst IsValue c.self.view_is c.self.invariant in
    on_part c.args.self.now value c.args.entry.now _ c.tail-tail.result (subst (λ (h : Held). (x : List ℕ) (days : List Day) → Knows h x days → c.tail-tail.result ≡ tail_in h.shape x days) (ap (λ (s : Session). s.days) c.self.view_is) c.tail-tail.ensures.newest) (sym c.is_newest_day.ensures ∙ c.if-is_newest_day.true) c.append_by_hand.ensures.part

pub returns-else-is_newest_day-clause-part : goal.returns-else-is_newest_day-clause-part
returns-else-is_newest_day-clause-part g c =
    let value : IsValue c.args.self.now = subst IsValue c.self.view_is c.self.invariant in
    day_part c.args.self.now value c.args.entry.now _ c.tail-tail.result (subst (λ (h : Held). (x : List ℕ) (days : List Day) → Knows h x days → c.tail-tail.result ≡ tail_in h.shape x days) (ap (λ (s : Session). s.days) c.self.view_is) c.tail-tail.ensures.newest) (sym c.is_newest_day.ensures ∙ c.if-is_newest_day.false) c.requires.first c.begin_by_hand.ensures.part

pub returns-then-is_newest_day-clause-ends : goal.returns-then-is_newest_day-clause-ends
returns-then-is_newest_day-clause-ends g c =
    let e = c.args.entry.now in
    let s : Session = c.args.self.now in
    let told : c.tail-tail.result ≡ tail_of c.args.self.now.days = c.tail-tail.ensures.tail ∙ ap (λ (t : Session). tail_of t.days) c.self.view_is in
    on_ok_weaker c.append_by_hand.result (λ ends. ends_by_hand c.append_by_hand.new.self e.minute s.days.tail.head.date.0 (manual_word e) (day_is s e.minute c.tail-tail.result told (sym c.is_newest_day.ensures ∙ c.if-is_newest_day.true)) (absent_is e) ends)
    c.append_by_hand.ensures.ends

pub returns-else-is_newest_day-clause-ends : goal.returns-else-is_newest_day-clause-ends
returns-else-is_newest_day-clause-ends g c =
    let e = c.args.entry.now in
    on_ok_weaker c.begin_by_hand.result (λ ends. ends_by_hand c.begin_by_hand.new.self e.minute (date_of e.minute) (manual_word e) refl (absent_is e) ends) c.begin_by_hand.ensures.ends

pub returns-then-is_newest_day-clause-writes : goal.returns-then-is_newest_day-clause-writes
returns-then-is_newest_day-clause-writes g c = record {
  most = first_of (search rules, grind (arith, common_steps));
  few = λ ends. c.append_by_hand.ensures.most;
}

pub returns-else-is_newest_day-clause-writes : goal.returns-else-is_newest_day-clause-writes
returns-else-is_newest_day-clause-writes g c = record {
  most = first_of (search rules, grind (arith, common_steps));
  few = λ ends.
      let told : c.tail-tail.result ≡ tail_of c.args.self.now.days = c.tail-tail.ensures.tail ∙ ap (λ (t : Session). tail_of t.days) c.self.view_is in
      absurd (elsewhere c.args.self.now c.args.entry.now.minute c.tail-tail.result ends told (sym c.is_newest_day.ensures ∙ c.if-is_newest_day.false));
}
