use Rattle.std.proofs.Common.{◌≡◌, ◌∙◌, ℕ, Some, None, inr, ap, subst, sym}
use Rattle.card_slots.specs.Kept.{Kept, KnowsNewest, put_in}
use Rattle.run_crew.specs.declared.cards.Cards.{Cards}
use Rattle.run_crew.specs.Cards.{with_session, with_number}
use Rattle.run_crew.specs.Cabin.{CabinIsSound}
use Rattle.run_crew.proofs.Moves.{accept-stands}
use Rattle.run_crew.proofs.cabin.Cabin.accept.Goals as goal

pub put-requires : goal.put-requires
put-requires c = record { free = record { here = inr c.requires.seat; elsewhere = c.requires.elsewhere } }

pub returns-clause-kept : goal.returns-clause-kept
returns-clause-kept c =
    let slots = c.put.ensures.kept ∙ ap (λ (n : ℕ). put_in c.args.slot c.args.card (Some n) c.args.self.now.slots) c.newest_minute-newest.ensures in
    let cards = c.set_session.ensures ∙ ap (with_session c.args.card (Some c.args.accepted)) c.name.ensures in
    ap (λ (s : Kept). record { slots = s; cards = c.set_session.new.self }) slots
    ∙ ap (λ (k : Cards). record { slots = put_in c.args.slot c.args.card (Some c.args.accepted.session.minute) c.args.self.now.slots; cards = k }) cards

pub returns-clause-stands : goal.returns-clause-stands
returns-clause-stands c = λ from early holds h.
    let slots : c.put.new.self ≡ put_in c.args.slot c.args.card (Some c.args.accepted.session.minute) c.args.self.now.slots =
    c.put.ensures.kept ∙ ap (λ (n : ℕ). put_in c.args.slot c.args.card (Some n) c.args.self.now.slots) c.newest_minute-newest.ensures in
    let cards : c.set_session.new.self ≡ with_session c.args.card (Some c.args.accepted) (with_number c.args.card c.args.number c.args.row c.args.self.now.cards) =
    c.set_session.ensures ∙ ap (with_session c.args.card (Some c.args.accepted)) c.name.ensures in
    subst (λ (s : Kept). CabinIsSound from None (record { slots = s; cards = c.set_session.new.self })) (sym slots)
    (subst (λ (k : Cards). CabinIsSound from None (record { slots = put_in c.args.slot c.args.card (Some c.args.accepted.session.minute) c.args.self.now.slots; cards = k })) (sym cards)
    (accept-stands c.args.self.now c.args.card c.args.number c.args.row c.args.accepted from early c.requires.sizes holds h c.args.slot c.requires.seat c.requires.elsewhere
    (subst KnowsNewest slots (c.put.ensures.newest h.newest))))
