use Rattle.std.proofs.Common.{◌≡◌, ◌∙◌, ◌<◌, Option, Some, None, IfSome, length, ap, sym, subst}
use Rattle.hand_model.specs.Holding.{Holding}
use Rattle.run_crew.specs.declared.cards.Accepted.{Accepted}
use Rattle.run_crew.specs.declared.cards.Cards.{Cards}
use Rattle.run_crew.specs.Cards.{session_of, with_session}
use Rattle.run_acts.specs.ByHand.{holding}
use Rattle.run_acts.proofs.ByHand.{held-back, none-held}
use Rattle.run_minutes.proofs.CardBooked.{none-there}
use Rattle.run_acts.proofs.by_hand.hold.Goals as goal

pub enter-requires : goal.enter-requires
enter-requires c = record {
  room = subst (λ (o : Option Accepted). IfSome o (λ a. length a.held.entries < 8)) (sym c.in-Some.ensures.taken) c.requires.room;
}

pub returns-in_default : goal.returns-in_default
returns-in_default c =
    let cards = c.args.cards.now in
    let gone : session_of cards c.args.card ≡ None = sym c.take.ensures.taken ∙ none-there c.take.result c.in_default.not-Some in
    c.take.ensures.left ∙ none-held c.args.entry.now c.args.card cards gone

pub returns : goal.returns
returns c =
    let cards = c.args.cards.now in
    let a = c.in-Some.accepted in
    c.set_session.ensures
    ∙ ap (λ (h : Holding). with_session c.args.card (Some (record a { held = h })) c.take.new.self) c.enter.ensures
    ∙ ap (λ (k : Cards). with_session c.args.card (Some (holding c.args.entry.now a)) k) c.take.ensures.left
    ∙ held-back c.args.entry.now c.args.card a cards (sym c.in-Some.ensures.taken)
