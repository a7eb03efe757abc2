-- Each line of an action is of its second.
use Rattle.std.proofs.Common.{◌≡◌, ◌∙◌, ⊎_elim, ℕ, Bool, true, false, List, [], ◌∷◌, ◌++◌, Option, Some, None, refl, ap, sym, subst, append-nil, append_assoc}
use Rattle.std.specs.List.{AllByRecursion}
use Rattle.activity_codec.specs.declared.values.Slot.{Slot}
use Rattle.trace_model.specs.declared.Card.{Card}
use Rattle.trace_model.specs.declared.Action.{Action}
use Rattle.trace_model.specs.declared.Action.TheVariants.{Select, Insert, Withdraw, Tear, Place, Manual}
use Rattle.log_model.specs.declared.lines.Break.{Break}
use Rattle.log_model.specs.Causes.{second_of}
use Rattle.run_minutes.specs.card_slots.Calls.{seat_in, card_in}
use Rattle.run_outcome.specs.Lines.{Listed}
use Rattle.run_outcome.specs.declared.outcome.Outcome.{Outcome}
use Rattle.run_minutes.specs.declared.keeper.Moment.{Moment}
use Rattle.run_minutes.specs.Keeping.{with_lines}
use Rattle.run_insertion.specs.declared.lines.Entering.{Entering}
use Rattle.run_insertion.specs.Entering.{Ending, Unfit, Ahead, Fell, Unasked, Unnoted, Seated, Lost, breaks_by, ending_of}
use Rattle.run_acts.specs.declared.run.Run.{Run}
use Rattle.run_acts.specs.Acting.{told_of, IsSettled, IsClosedBehind, IsWithdrawn, IsPlaced, closed_breaks, noted_breaks, pulled_breaks}
use Rattle.run_acts.proofs.RingedLines.{AreTears, up-to-tells}
use Rattle.run_acts.proofs.RingedSecond.{tears-here_}
use Rattle.run_acts.proofs.RingedPlace.{noted-tears}
use Rattle.run_acts.proofs.RingedClosed.{closed-tears}
use Rattle.recorder_with_cards.specs.Accepting.{IsAccepted, IsInserted}
use Rattle.recorder_with_cards.specs.Acting.{IsDone}

-- LINES MORE, all of this second
abbrev pub TellsMoreOf : (u : ℕ) → (before after : List Break) → Type 0
TellsMoreOf u before after = (more : List Break) × (after ≡ before ++ more) × AllByRecursion (λ (b : Break). second_of b ≡ u) more

both : (u : ℕ) (xs ys : List Break) → AllByRecursion (λ (b : Break). second_of b ≡ u) xs → AllByRecursion (λ (b : Break). second_of b ≡ u) ys → AllByRecursion (λ (b : Break). second_of b ≡ u) (xs ++ ys)
both u [] ys one two = two
both u (x ∷ xs) ys one two = (one.0, both u xs ys one.1 two)

pub of-then : (u : ℕ) (a b c : List Break) → TellsMoreOf u a b → TellsMoreOf u b c → TellsMoreOf u a c
of-then u a b c first next = (
  first.0 ++ next.0,
  next.1 ∙ ap (λ (bs : List Break). bs ++ next.0) first.1 ∙ append_assoc a first.0 next.0,
  both u first.0 next.0 first.2 next.2,
)

of-none : (u : ℕ) (a b : List Break) → b ≡ a → TellsMoreOf u a b
of-none u a b is = ([], is ∙ sym (append-nil a), tt)

of-lines : (u : ℕ) (a : Listed Break) (b : List Break) (lines : List Break) → b ≡ (with_lines lines a).items → AllByRecursion (λ (x : Break). second_of x ≡ u) lines → TellsMoreOf u a.items b
of-lines u a b lines is here = (lines, is, here)

of-tears : (at : Moment) (lines : List Break) → AreTears at lines → AllByRecursion (λ (b : Break). second_of b ≡ at.second) lines
of-tears at lines h = tears-here_ at.second at.begun at.late lines h

settled-of : (at : Moment) (failed : Bool) (old new : Run) (before after : Outcome) → IsSettled at failed old new before after → TellsMoreOf at.second before.breaks.items after.breaks.items
settled-of at failed old new before after is =
    let t = up-to-tells at is.decided failed (told_of old before) (told_of new after) is.kept in
    (t.lines, t.are, of-tears at t.lines t.tears)

-- ---- of each action

ending-here : (ending : Ending) (e : Entering) → AllByRecursion (λ (b : Break). second_of b ≡ e.at.second) (breaks_by ending e)
ending-here (Unfit fid place) e = tt
ending-here (Ahead stored) e = tt
ending-here Fell e = (refl, tt)
ending-here Unasked e = tt
ending-here (Unnoted entered clock) e = tt
ending-here (Seated entered clock entry) e = tt
ending-here (Lost entered clock entry) e = (refl, tt)

pub accepted-of : (e : Entering) (old new : Run) (before after : Outcome) → IsAccepted e old new before after → TellsMoreOf e.at.second before.breaks.items after.breaks.items
accepted-of e old new before after is = (breaks_by (ending_of is.way) e, ap (λ (o : Outcome). o.breaks.items) is.left.outcome, ending-here (ending_of is.way) e)

inserted-of : (slot : Slot) (card : Card) (at : Moment) (speed : ℕ) (failed : Bool) (old new : Run) (before after : Outcome) → IsInserted slot card at speed failed old new before after → TellsMoreOf at.second before.breaks.items after.breaks.items
inserted-of slot card at speed failed old new before after is =
    ⊎_elim (λ short. settled-of at true _ new before after short.1)
    (λ behind. of-then at.second before.breaks.items behind.told.breaks.items after.breaks.items (settled-of at false _ behind.between before behind.told behind.settled_first)
    (subst (λ (m : Moment). TellsMoreOf m.second behind.told.breaks.items after.breaks.items) behind.now.moment (accepted-of behind.entering behind.between new behind.told after behind.accepted)))
    is

closed-of : (card : Card) (slot : Slot) (at : Moment) (old new : Run) (before after : Outcome) → IsClosedBehind card slot at old new before after → TellsMoreOf at.second before.breaks.items after.breaks.items
closed-of card slot at old new before after is =
    of-then at.second before.breaks.items is.told.breaks.items after.breaks.items (settled-of at false _ is.between before is.told is.settled_first)
    (of-lines at.second is.told.breaks after.breaks.items (closed_breaks is.closing slot at) (ap (λ (l : Listed Break). l.items) is.closed.told) (of-tears at (closed_breaks is.closing slot at) (closed-tears is.closing slot at)))

withdrawn-of : (card : Option Card) (slot : Slot) (at : Moment) (failed : Bool) (old new : Run) (before after : Outcome) → IsWithdrawn card slot at failed old new before after → TellsMoreOf at.second before.breaks.items after.breaks.items
withdrawn-of None slot at failed old new before after is = of-none at.second before.breaks.items after.breaks.items (ap (λ (o : Outcome). o.breaks.items) is.1)
withdrawn-of (Some card) slot at failed old new before after is =
    ⊎_elim (λ short. settled-of at true _ new before after short.1) (λ behind. closed-of card slot at old new before after behind) is

pulled-here : (card : Option Card) (slot : Slot) (at : Moment) → AllByRecursion (λ (b : Break). second_of b ≡ at.second) (pulled_breaks card slot at)
pulled-here None slot at = tt
pulled-here (Some card) slot at = (refl, tt)

placed-of : (card : Option Card) (slot : Slot) (at : Moment) (old new : Run) (breaks after : Listed Break) (fell : Bool) → IsPlaced card slot at old new breaks after fell → TellsMoreOf at.second breaks.items after.items
placed-of None slot at old new breaks after fell is = of-none at.second breaks.items after.items (ap (λ (l : Listed Break). l.items) is.1)
placed-of (Some card) slot at old new breaks after fell is =
    of-lines at.second breaks after.items (noted_breaks fell slot at) (ap (λ (l : Listed Break). l.items) is.told) (of-tears at (noted_breaks fell slot at) (noted-tears fell slot at))

-- AN ACTION
pub done-of : (action : Action) (at : Moment) (speed : ℕ) (failed : Bool) (old new : Run) (before after : Outcome) → IsDone action at speed failed old new before after → TellsMoreOf at.second before.breaks.items after.breaks.items
done-of (Select slot pick) at speed failed old new before after is = of-none at.second before.breaks.items after.breaks.items (ap (λ (o : Outcome). o.breaks.items) is.2)
done-of (Insert slot card) at speed failed old new before after is = inserted-of slot card at speed failed old new before after is
done-of (Withdraw slot) at speed failed old new before after is = withdrawn-of (card_in (seat_in old.keeper.cabin.slots.seats slot)) slot at failed old new before after is
done-of (Tear slot) at speed failed old new before after is =
    let card = card_in (seat_in old.keeper.cabin.slots.seats slot) in
    of-lines at.second before.breaks after.breaks.items (pulled_breaks card slot at) (ap (λ (o : Outcome). o.breaks.items) is.2) (pulled-here card slot at)
done-of (Place slot ending country region) at speed failed old new before after is =
    placed-of (card_in (seat_in old.keeper.cabin.slots.seats slot)) slot at old new before.breaks after.breaks is.0 is.1
done-of (Manual slot pick minute) at speed failed old new before after is = of-none at.second before.breaks.items after.breaks.items (ap (λ (o : Outcome). o.breaks.items) is.2)
