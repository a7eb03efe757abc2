use Rattle.std.proofs.Common.{◌∙◌, ap, sym}
use Rattle.trace_model.specs.declared.Action.{Action}
use Rattle.trace_model.specs.declared.Action.TheVariants.{Insert, Tear, Place, Withdraw}
use Rattle.log_model.specs.Slots.{refusal}
use Rattle.run_minutes.specs.card_slots.Calls.{logged}
use Rattle.run_acts.specs.ByHand.{stopped_in}
use Rattle.recorder_with_cards.proofs.SlotLines.{slots-alone}
use Rattle.recorder_with_cards.proofs.acts.may.Goals as goal

pub returns-in-Insert : goal.returns-in-Insert
returns-in-Insert c = c.may_insert.ensures.answer c.args.speed ∙ slots-alone (refusal (logged c.args.run.now.keeper.cabin.slots.seats) c.args.speed (Insert c.in-Insert.slot c.in-Insert.card)) ∙ ap (λ (a : Action). stopped_in c.args.run.now c.args.speed a) (sym c.in-Insert.is)

pub returns-in-Withdraw : goal.returns-in-Withdraw
returns-in-Withdraw c = c.may_withdraw.ensures.answer ∙ slots-alone (refusal (logged c.args.run.now.keeper.cabin.slots.seats) c.args.speed (Withdraw c.in-Withdraw.slot)) ∙ ap (λ (a : Action). stopped_in c.args.run.now c.args.speed a) (sym c.in-Withdraw.is)

pub returns-in-Tear : goal.returns-in-Tear
returns-in-Tear c = c.may_tear.ensures.answer c.args.speed ∙ slots-alone (refusal (logged c.args.run.now.keeper.cabin.slots.seats) c.args.speed (Tear c.in-Tear.slot)) ∙ ap (λ (a : Action). stopped_in c.args.run.now c.args.speed a) (sym c.in-Tear.is)

pub returns-in-Place : goal.returns-in-Place
returns-in-Place c =
    c.may_note.ensures.answer c.args.speed c.in-Place.ending c.in-Place.country c.in-Place.region ∙ slots-alone (refusal (logged c.args.run.now.keeper.cabin.slots.seats) c.args.speed (Place c.in-Place.slot c.in-Place.ending c.in-Place.country c.in-Place.region))
    ∙ ap (λ (a : Action). stopped_in c.args.run.now c.args.speed a) (sym c.in-Place.is)

pub returns-in-Manual : goal.returns-in-Manual
returns-in-Manual c = c.may_hold.ensures.answer c.in-Manual.pick ∙ ap (λ (a : Action). stopped_in c.args.run.now c.args.speed a) (sym c.in-Manual.is)
