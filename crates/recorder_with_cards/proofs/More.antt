-- An insertion takes no break away.
use Rattle.std.proofs.Common.{⊎_elim, ℕ, ◌≤◌, Bool, true, false, List, length, ap, arith, length-append}
use Rattle.activity_codec.specs.declared.values.Slot.{Slot}
use Rattle.activity_codec.specs.declared.values.Slot.TheVariants.{Driver, CoDriver}
use Rattle.trace_model.specs.declared.Card.{Card}
use Rattle.minute_rules.specs.minute_model.declared.Minute.{Minute}
use Rattle.run_minutes.specs.card_slots.declared.seats.Present.{Present}
use Rattle.run_outcome.specs.declared.outcome.Outcome.{Outcome}
use Rattle.run_minutes.specs.declared.keeper.Moment.{Moment}
use Rattle.run_minutes.specs.Keeping.{breaks_by, with_lines}
use Rattle.run_minutes.specs.Minutes.{Round, KeepingState, AreKept, none, more, AreKeptUpTo, told_after, present_at}
use Rattle.run_minutes.proofs.Counts.{lines-length}
use Rattle.run_insertion.specs.declared.lines.Entering.{Entering}
use Rattle.run_insertion.specs.Entering.{ending_of, breaks_by as entered_breaks}
use Rattle.run_acts.specs.declared.run.Run.{Run}
use Rattle.run_acts.specs.Acting.{IsSettled}
use Rattle.recorder_with_cards.specs.Accepting.{IsAccepted, IsInserted}

round-more : (present : Present) (minute : ℕ) (at : Moment) (round : Round) (t : KeepingState) → length t.breaks.items ≤ length (told_after present minute at round t).breaks.items
round-more present minute at round t =
    let first = lines-length (breaks_by round.driver Driver at) t.breaks in
    let next = lines-length (breaks_by round.codriver CoDriver at) (with_lines (breaks_by round.driver Driver at) t.breaks) in
    omega (arith, first, next)

kept-more : {at : Moment} {ms : List Minute} {t u : KeepingState} → AreKept at ms t u → length t.breaks.items ≤ length u.breaks.items
kept-more (none t) = omega arith
kept-more {at} (more m ms round t u before is) = let rest = kept-more before in let here = round-more (present_at u.keeper.cabin m.minute) m.minute at round u in omega (arith, rest, here)

up-to-more : (failed : Bool) (at : Moment) (ms : List Minute) (t u : KeepingState) → AreKeptUpTo ms at failed t u → length t.breaks.items ≤ length u.breaks.items
up-to-more false at ms t u h = kept-more h
up-to-more true at ms t u h =
    let front = kept-more h.kept in
    ⊎_elim
    (λ same. let is = ap (λ (w : KeepingState). length w.breaks.items) same in omega (arith, front, is))
    (λ last.
    let is = ap (λ (w : KeepingState). length w.breaks.items) last.2 in
    let here = round-more (present_at h.between.keeper.cabin h.here.minute) h.here.minute at last.0 h.between in
    omega (arith, front, is, here))
    h.last

pub settled-more : (at : Moment) (failed : Bool) (old new : Run) (o p : Outcome) → IsSettled at failed old new o p → length o.breaks.items ≤ length p.breaks.items
settled-more at failed old new o p h = up-to-more failed at h.decided _ _ h.kept

pub accepted-more : (e : Entering) (old new : Run) (o p : Outcome) → IsAccepted e old new o p → length o.breaks.items ≤ length p.breaks.items
accepted-more e old new o p h =
    let more = ap (λ (q : Outcome). length q.breaks.items) h.left.outcome in
    let sum = length-append o.breaks.items (entered_breaks (ending_of h.way) e) in
    omega (arith, more, sum)

pub inserted-more : (slot : Slot) (card : Card) (at : Moment) (speed : ℕ) (failed : Bool) (old new : Run) (o p : Outcome) → IsInserted slot card at speed failed old new o p → length o.breaks.items ≤ length p.breaks.items
inserted-more slot card at speed failed old new o p h =
    ⊎_elim
    (λ short. settled-more at true _ new o p short.1)
    (λ whole. let first = settled-more at false _ whole.between o whole.told whole.settled_first in let then = accepted-more whole.entering whole.between new whole.told p whole.accepted in omega (arith, first, then))
    h
