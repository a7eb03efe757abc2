-- No line of a card that enters, or of an action that is done, is a cut.
use Rattle.std.proofs.Common.{◌≡◌, ◌∙◌, ⊎_elim, ℕ, Bool, true, false, Option, Some, None, refl, ap}
use Rattle.activity_codec.specs.declared.values.Slot.{Slot}
use Rattle.trace_model.specs.declared.Card.{Card}
use Rattle.trace_model.specs.declared.Action.{Action}
use Rattle.trace_model.specs.declared.Action.TheVariants.{Select, Insert, Withdraw, Tear, Place, Manual}
use Rattle.run_minutes.specs.card_slots.Calls.{seat_in, card_in}
use Rattle.run_outcome.specs.Broken.{failed_cuts}
use Rattle.run_outcome.specs.declared.outcome.Outcome.{Outcome}
use Rattle.run_minutes.specs.declared.keeper.Moment.{Moment}
use Rattle.run_insertion.specs.declared.lines.Entering.{Entering}
use Rattle.run_insertion.specs.Entering.{Ending, Unfit, Ahead, Fell, Unasked, Unnoted, Seated, Lost, breaks_by, ending_of}
use Rattle.run_acts.specs.declared.run.Run.{Run}
use Rattle.run_acts.specs.Power.{off_cut}
use Rattle.run_acts.specs.Acting.{pulled_breaks}
use Rattle.run_acts.proofs.Uncut.{more-uncut, settled-uncut, withdrawn-uncut, pulled-uncut, placed-uncut}
use Rattle.recorder_with_cards.specs.Accepting.{IsAccepted, IsAnew, IsInserted}
use Rattle.recorder_with_cards.specs.Acting.{IsDone}
use Rattle.run_minutes.specs.Later.{failed_tears}

-- ---- a card that enters

ending-uncut : (ending : Ending) (e : Entering) → failed_cuts (breaks_by ending e) ≡ 0
ending-uncut (Unfit fid place) e = refl
ending-uncut (Ahead stored) e = refl
ending-uncut Fell e = refl
ending-uncut Unasked e = refl
ending-uncut (Unnoted entered clock) e = refl
ending-uncut (Seated entered clock entry) e = refl
ending-uncut (Lost entered clock entry) e = refl

pub accepted-uncut : (e : Entering) (old new : Run) (before after : Outcome) → IsAccepted e old new before after → failed_cuts after.breaks.items ≡ failed_cuts before.breaks.items
accepted-uncut e old new before after is =
    ap (λ (o : Outcome). failed_cuts o.breaks.items) is.left.outcome ∙ more-uncut before.breaks.items (breaks_by (ending_of is.way) e) (ending-uncut (ending_of is.way) e)

pub anew-uncut : (card : Option Card) (slot : Slot) (at : Moment) (speed : ℕ) (old new : Run) (before after : Outcome) → IsAnew card slot at speed old new before after → failed_cuts after.breaks.items ≡ failed_cuts before.breaks.items
anew-uncut None slot at speed old new before after is = ap (λ (o : Outcome). failed_cuts o.breaks.items) is.1
anew-uncut (Some card) slot at speed old new before after is = accepted-uncut is.0 old new before after is.2

inserted-uncut : (slot : Slot) (card : Card) (at : Moment) (speed : ℕ) (failed : Bool) (old new : Run) (before after : Outcome) → IsInserted slot card at speed failed old new before after
    → failed_cuts after.breaks.items ≡ failed_cuts before.breaks.items
inserted-uncut slot card at speed failed old new before after is =
    ⊎_elim (λ short. settled-uncut at true _ new before after short.1)
    (λ behind. accepted-uncut behind.entering behind.between new behind.told after behind.accepted ∙ settled-uncut at false _ behind.between before behind.told behind.settled_first) is

-- ---- an action

pub done-uncut : (action : Action) (at : Moment) (speed : ℕ) (failed : Bool) (old new : Run) (before after : Outcome) → IsDone action at speed failed old new before after → failed_cuts after.breaks.items ≡ failed_cuts before.breaks.items
done-uncut (Select slot pick) at speed failed old new before after is = ap (λ (o : Outcome). failed_cuts o.breaks.items) is.2
done-uncut (Insert slot card) at speed failed old new before after is = inserted-uncut slot card at speed failed old new before after is
done-uncut (Withdraw slot) at speed failed old new before after is = withdrawn-uncut (card_in (seat_in old.keeper.cabin.slots.seats slot)) slot at failed old new before after is
done-uncut (Tear slot) at speed failed old new before after is =
    let card = card_in (seat_in old.keeper.cabin.slots.seats slot) in
    ap (λ (o : Outcome). failed_cuts o.breaks.items) is.2 ∙ more-uncut before.breaks.items (pulled_breaks card slot at) (pulled-uncut card slot at)
done-uncut (Place slot ending country region) at speed failed old new before after is =
    placed-uncut (card_in (seat_in old.keeper.cabin.slots.seats slot)) slot at old new before.breaks after.breaks is.0 is.1
done-uncut (Manual slot pick minute) at speed failed old new before after is = ap (λ (o : Outcome). failed_cuts o.breaks.items) is.2

-- ---- an `off` line

pub off-uncut : (lit : Bool) (second begun : ℕ) → failed_cuts (off_cut lit second begun) ≡ 0
off-uncut true second begun = refl
off-uncut false second begun = refl

-- ---- no tear that a failed call made

pub off-calm : (lit : Bool) (second begun : ℕ) → failed_tears (off_cut lit second begun) ≡ 0
off-calm true second begun = refl
off-calm false second begun = refl

pub pulled-calm : (card : Option Card) (slot : Slot) (at : Moment) → failed_tears (pulled_breaks card slot at) ≡ 0
pulled-calm None slot at = refl
pulled-calm (Some card) slot at = refl
