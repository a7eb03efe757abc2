use Rattle.std.proofs.Common.{◌≡◌, ◌∙◌, Option, None, ap, subst, sym}
use Rattle.activity_codec.specs.declared.values.Slot.{Slot}
use Rattle.card_slots.specs.Kept.{Kept, KnowsNewest}
use Rattle.run_crew.specs.declared.cards.Cards.{Cards}
use Rattle.run_crew.specs.declared.cabin.Cabin.{Cabin}
use Rattle.run_crew.specs.Cards.{with_session}
use Rattle.run_crew.specs.Cabin.{CabinIsSound, slot_with, left_from}
use Rattle.run_crew.proofs.Moves.{tear-stands, tear-left}
use Rattle.run_crew.proofs.cabin.Cabin.tear.Goals as goal
use Rattle.run_crew.proofs.cabin.Cabin.tear.Goals.{in-Some, in_default}

pub returns-clause-kept : goal.returns-clause-kept
returns-clause-kept c =
    let left : c.match-slot_of.self ≡ record { slots = left_from (slot_with c.args.self.now.slots.seats c.args.card) c.args.second c.args.self.now.slots; cards = c.args.self.now.cards } =
    elim c.match-slot_of.branch [
      | in-Some w ↦
          w.self-is
          ∙ ap (λ (s : Kept). record { slots = s; cards = c.args.self.now.cards }) (w.take.ensures.kept ∙ ap (λ (o : Option Slot). left_from o c.args.second c.args.self.now.slots) (sym w.in-Some.is ∙ c.slot_of.ensures))
      | in_default w ↦ w.self-is ∙ ap (λ (o : Option Slot). record { slots = left_from o c.args.second c.args.self.now.slots; cards = c.args.self.now.cards }) (sym w.in_default.is ∙ c.slot_of.ensures)
    ] in
    ap (λ (k : Cards). record { slots = c.match-slot_of.self.slots; cards = k }) c.set_session.ensures
    ∙ ap (λ (b : Cabin). record { slots = b.slots; cards = with_session c.args.card None b.cards }) left

pub returns-clause-stands : goal.returns-clause-stands
returns-clause-stands c = λ from leaving h.
    let newest : KnowsNewest (left_from (slot_with c.args.self.now.slots.seats c.args.card) c.args.second c.args.self.now.slots) =
    elim c.match-slot_of.branch [
      | in-Some w ↦
          subst KnowsNewest (w.take.ensures.kept ∙ ap (λ (o : Option Slot). left_from o c.args.second c.args.self.now.slots) (sym w.in-Some.is ∙ c.slot_of.ensures)) (w.take.ensures.newest h.newest)
      | in_default w ↦ subst (λ (o : Option Slot). KnowsNewest (left_from o c.args.second c.args.self.now.slots)) (sym w.in_default.is ∙ c.slot_of.ensures) h.newest
    ] in
    subst (λ (b : Cabin). CabinIsSound from leaving b) (sym (returns-clause-kept c)) (tear-stands c.args.self.now c.args.card c.args.second from leaving c.requires.minute h newest)

pub returns-clause-left : goal.returns-clause-left
returns-clause-left c = λ from h.
    subst (λ (b : Cabin). CabinIsSound from None b) (sym (returns-clause-kept c)) (tear-left c.args.self.now c.args.card c.args.second from h)
