use Rattle.std.proofs.Common.{◌≡◌, ℕ, ◌+◌, ◌-◌, ◌≤◌, List, length, take, drop}
use Rattle.trace_model.specs.Trace.{total_seconds, seconds_of}
use Rattle.run_minutes.specs.run_promise.Between.{IsFound, devices}
use Rattle.run_minutes.specs.Books.{HaveTime}
use Rattle.run_opening.specs.Begun.{found_in}
use Rattle.run_acts.specs.Going.{largest_number, IsBetweenSeconds}
use Rattle.recorder_with_cards.specs.Carded.{RunTimely}
use Rattle.recorder_with_cards.specs.Recorded.{actions_in}
use Rattle.recorder_with_cards.specs.Writes.{WritesBetween, powered, turns_of}
use Rattle.recorder_with_cards.specs.Ends.{BeginAs, MayRecord, opened_with, origin_of}
use Rattle.recorder_with_cards.proofs.Waiting.{Waits}
use Rattle.run_outcome.specs.Room.{offs, insertions}
use Rattle.run_acts.specs.Room.{HasRoom}
use Rattle.run_minutes.specs.Later.{AreAfter, AreCalm}
use Rattle.run_outcome.specs.Broken.{BreaksDown}
use Rattle.recorder_with_cards.proofs.run.run_trace.Given as goal

abbrev pub invariant-loop-i : goal.invariant-loop-i
invariant-loop-i g l = record {
  first : l.first ≤ l.i;
  going : IsBetweenSeconds l.run (g.U.Medium.state l.unit) (g.C.Chip.card l.card_a) (g.C.Chip.card l.card_b) (g.C.Chip.state l.card_a) (g.C.Chip.state l.card_b);
  next : l.run.next + total_seconds (drop l.i l.trace.items) ≡ l.trace.start + total_seconds l.trace.items;
  room : HasRoom l.run l.outcome (total_seconds (drop l.i l.trace.items)) (offs (drop l.i l.trace.items)) (insertions (drop l.first l.trace.items)) (length l.trace.items - l.first);
  unfound : l.run.unfound ≤ length l.outcome.breaks.items;
  waits : Waits l.trace.items l.first l.i;
  time : HaveTime (devices (g.U.Medium.state l.unit) (g.C.Chip.state l.card_a) (g.C.Chip.state l.card_b)) → HaveTime (devices (g.U.Medium.state l.fn.unit) (g.C.Chip.state l.fn.card_a) (g.C.Chip.state l.fn.card_b));
  later : AreAfter (devices (g.U.Medium.state l.fn.unit) (g.C.Chip.state l.fn.card_a) (g.C.Chip.state l.fn.card_b)) (devices (g.U.Medium.state l.unit) (g.C.Chip.state l.card_a) (g.C.Chip.state l.card_b));
  calm : AreCalm l.fn.outcome.breaks.items l.outcome.breaks.items (devices (g.U.Medium.state l.fn.unit) (g.C.Chip.state l.fn.card_a) (g.C.Chip.state l.fn.card_b)) (devices (g.U.Medium.state l.unit) (g.C.Chip.state l.card_a) (g.C.Chip.state l.card_b));
  most : WritesBetween (turns_of l.trace.start (take l.i l.trace.items)) (length (actions_in (take l.first l.trace.items))) 0 (offs (take l.i l.trace.items) + powered l.run l.outcome) (devices (g.U.Medium.state l.fn.unit) (g.C.Chip.state l.fn.card_a) (g.C.Chip.state l.fn.card_b)) (devices (g.U.Medium.state l.unit) (g.C.Chip.state l.card_a) (g.C.Chip.state l.card_b));
  broke : BreaksDown l.fn.outcome.breaks.items l.outcome.breaks.items (g.U.Medium.state l.fn.unit) (g.U.Medium.state l.unit);
  told : (x a b : List ℕ) → BeginAs x a b (devices (g.U.Medium.state l.fn.unit) (g.C.Chip.state l.fn.card_a) (g.C.Chip.state l.fn.card_b)) → MayRecord x a b l.trace.start × IsFound (opened_with x a b) (found_in (opened_with x a b) (devices (g.U.Medium.state l.fn.unit) (g.C.Chip.state l.fn.card_a) (g.C.Chip.state l.fn.card_b))) (devices (g.U.Medium.state l.fn.unit) (g.C.Chip.state l.fn.card_a) (g.C.Chip.state l.fn.card_b));
  cards : (x a b : List ℕ) → BeginAs x a b (devices (g.U.Medium.state l.fn.unit) (g.C.Chip.state l.fn.card_a) (g.C.Chip.state l.fn.card_b)) → HaveTime (devices (g.U.Medium.state l.unit) (g.C.Chip.state l.card_a) (g.C.Chip.state l.card_b)) → length l.trace.items ≤ largest_number
      → RunTimely (origin_of x a b l.trace.start (devices (g.U.Medium.state l.fn.unit) (g.C.Chip.state l.fn.card_a) (g.C.Chip.state l.fn.card_b))) (seconds_of l.trace.start (take l.i l.trace.items)) l.run l.outcome (devices (g.U.Medium.state l.unit) (g.C.Chip.state l.card_a) (g.C.Chip.state l.card_b));
}
