use Rattle.std.proofs.Common.{◌≡◌, ◌∙◌, ℕ, Option, Some, None, ap, sym, subst}
use Rattle.activity_codec.specs.declared.entries.Manual.{Manual}
use Rattle.activity_codec.specs.declared.values.Activity.{Activity}
use Rattle.trace_model.specs.declared.Card.{Card}
use Rattle.log_model.specs.ByHand.{minute_on}
use Rattle.run_crew.specs.card_slots.Calls.{seat_in, card_in}
use Rattle.run_crew.specs.declared.cards.Cards.{Cards}
use Rattle.run_crew.specs.declared.cabin.Cabin.{Cabin}
use Rattle.run_crew.specs.Cards.{session_of}
use Rattle.run_crew.specs.Cabin.{CabinIsSound}
use Rattle.run_acts.specs.Power.{with_cabin}
use Rattle.run_minutes.specs.Keeping.{session_at}
use Rattle.run_acts.specs.ByHand.{stop_in, entry_from, cards_holding, cabin_holding}
use Rattle.run_acts.proofs.ByHand.{taken-there, room-there, holding-stands}
use Rattle.run_acts.proofs.OneCard.{none-there}
use Rattle.run_acts.proofs.by_hand.enter.Goals.{After-hold, In_default}
use Rattle.run_acts.proofs.by_hand.enter.Goals as goal

pub hold-requires : goal.hold-requires
hold-requires c =
    let run = c.args.run.now in
    let there : card_in (seat_in run.keeper.cabin.slots.seats c.args.slot) ≡ Some c.in-Some.card = cc in
    record {
      room = room-there (session_of run.keeper.cabin.cards c.in-Some.card) (minute_on run.next c.args.minute)
          (ap (λ (o : Option Card). stop_in (session_at run.keeper.cabin.cards o) (minute_on run.next c.args.minute)) (sym there) ∙ c.requires.taken);
    }

-- ---- no card is in the slot

module _ (c : In_default) where
  none-in : card_in (seat_in c.args.run.now.keeper.cabin.slots.seats c.args.slot) ≡ None
  none-in = sym c.card.ensures ∙ none-there c.card.result c.in_default.not-Some

pub returns-in_default-clause-entered : goal.returns-in_default-clause-entered
returns-in_default-clause-entered c =
    let run = c.args.run.now in
    ap (λ (o : Option Card). with_cabin (cabin_holding (entry_from c.args.slot c.args.pick (minute_on run.next c.args.minute)) o run.keeper.cabin) run) (sym (none-in c))

pub returns-in_default-clause-stands : goal.returns-in_default-clause-stands
returns-in_default-clause-stands c = λ from leaving h. h

-- ---- the session of one takes it

module _ (c : After-hold) where
  abbrev there : Option Card
  there = card_in (seat_in c.args.run.now.keeper.cabin.slots.seats c.args.slot)

  card-is : there ≡ Some c.in-Some.card
  card-is = cc

  abbrev entry_now : Manual
  entry_now = entry_from c.args.slot c.args.pick (minute_on c.args.run.now.next c.args.minute)

  held-is : c.hold.new.cards ≡ cards_holding entry_now c.in-Some.card c.args.run.now.keeper.cabin.cards
  held-is =
      c.hold.ensures
      ∙ ap (λ (m : ℕ). cards_holding (record { minute = m; slot = c.args.slot; act = c.activity.result }) c.in-Some.card c.args.run.now.keeper.cabin.cards) c.minute_of.ensures
      ∙ ap (λ (x : Activity). cards_holding (record { minute = minute_on c.args.run.now.next c.args.minute; slot = c.args.slot; act = x }) c.in-Some.card c.args.run.now.keeper.cabin.cards) c.activity.ensures

  cabin-is : record c.args.run.now.keeper.cabin { cards = c.hold.new.cards } ≡ cabin_holding entry_now there c.args.run.now.keeper.cabin
  cabin-is =
      ap (λ (k : Cards). record c.args.run.now.keeper.cabin { cards = k }) held-is
      ∙ ap (λ (o : Option Card). cabin_holding entry_now o c.args.run.now.keeper.cabin) (sym card-is)

pub returns-clause-entered : goal.returns-clause-entered
returns-clause-entered c = ap (λ (b : Cabin). with_cabin b c.args.run.now) (cabin-is c)

pub returns-clause-stands : goal.returns-clause-stands
returns-clause-stands c = λ from leaving h.
    let run = c.args.run.now in
    subst (λ (b : Cabin). CabinIsSound from leaving b) (sym (cabin-is c))
    (holding-stands (entry_now c) run.keeper.cabin (there c) from leaving (taken-there (session_at run.keeper.cabin.cards (there c)) (minute_on run.next c.args.minute) c.requires.taken) h)
