use Rattle.std.proofs.Common.{◌≡◌, ◌∙◌, None, ap, subst, sym}
use Rattle.trace_model.specs.declared.Card.TheVariants.{A, B}
use Rattle.card_slots.specs.Kept.{Kept, KnowsNewest, cut_off}
use Rattle.run_crew.specs.declared.cards.Cards.{Cards}
use Rattle.run_crew.specs.Cards.{with_session}
use Rattle.run_crew.specs.Cabin.{CabinIsSound}
use Rattle.run_crew.proofs.Moves.{cut-stands}
use Rattle.run_crew.proofs.cabin.Cabin.cut.Goals as goal

pub returns-clause-stands : goal.returns-clause-stands
returns-clause-stands c = λ from to leaving h.
    let cards : c.set_session-2.new.self ≡ with_session B None (with_session A None c.args.self.now.cards) = c.set_session-2.ensures ∙ ap (with_session B None) c.set_session.ensures in
    subst (λ (s : Kept). CabinIsSound to None (record { slots = s; cards = c.set_session-2.new.self })) (sym c.cut.ensures.kept)
    (subst (λ (k : Cards). CabinIsSound to None (record { slots = cut_off c.args.second c.args.self.now.slots; cards = k })) (sym cards)
    (cut-stands c.args.self.now c.args.second from to leaving c.requires.minute (subst KnowsNewest c.cut.ensures.kept (c.cut.ensures.newest h.newest)) h))
