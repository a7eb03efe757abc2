use Rattle.std.proofs.Common.{◌≡◌, ℕ, ◌+◌, ◌-◌, ◌≤◌, true, false, length}
use Rattle.run_minutes.specs.run_promise.Between.{devices}
use Rattle.run_minutes.specs.Later.{AreLater, AreCalm}
use Rattle.run_acts.specs.Going.{largest_number, IsInsideSecond}
use Rattle.recorder_with_cards.specs.Recorded.{actions_in, RingsActions}
use Rattle.recorder_with_cards.specs.Carded.{CardsActions}
use Rattle.run_acts.specs.Power.{is_lit}
use Rattle.run_acts.specs.Room.{HasRoomWithin}
use Rattle.recorder_with_cards.specs.Acting.{AreActed}
use Rattle.recorder_with_cards.specs.Items.{between, insertions_in}
use Rattle.recorder_with_cards.specs.Writes.{WritesFor}
use Rattle.run_outcome.specs.Broken.{BreaksDown}
use Rattle.recorder_with_cards.proofs.acts.act_all.Given as goal

abbrev pub invariant-loop-i : goal.invariant-loop-i
invariant-loop-i g l = record {
  going : IsInsideSecond l.run (g.M.Medium.state l.unit) (g.C.Chip.card l.card_a) (g.D.Chip.card l.card_b) (g.C.Chip.state l.card_a) (g.D.Chip.state l.card_b);
  acted : AreActed l.fn.due.has_power l.fn.due.speed 0 (between l.fn.due.from l.i l.fn.due.items.now) l.fn.run l.run l.fn.outcome l.outcome;
  ringed : l.fn.due.has_power ≡ true → length (actions_in (between l.fn.due.from l.i l.fn.due.items.now)) ≡ l.i - l.fn.due.from → l.i - l.fn.due.from ≤ largest_number
      → RingsActions (actions_in (between l.fn.due.from l.i l.fn.due.items.now)) (l.i - l.fn.due.from) l.fn.due.speed l.fn.run l.run l.fn.outcome l.outcome (devices (g.M.Medium.state l.fn.unit) (g.C.Chip.state l.fn.card_a) (g.D.Chip.state l.fn.card_b)) (devices (g.M.Medium.state l.unit) (g.C.Chip.state l.card_a) (g.D.Chip.state l.card_b));
  cards : l.fn.due.has_power ≡ true → length (actions_in (between l.fn.due.from l.i l.fn.due.items.now)) ≡ l.i - l.fn.due.from → l.i - l.fn.due.from ≤ largest_number
      → CardsActions (actions_in (between l.fn.due.from l.i l.fn.due.items.now)) (l.i - l.fn.due.from) l.fn.due.speed l.fn.run l.run l.fn.outcome l.outcome (devices (g.M.Medium.state l.fn.unit) (g.C.Chip.state l.fn.card_a) (g.D.Chip.state l.fn.card_b)) (devices (g.M.Medium.state l.unit) (g.C.Chip.state l.card_a) (g.D.Chip.state l.card_b));
  still : is_lit l.fn.run.power ≡ false → (is_lit l.run.power ≡ false) × (l.unit ≡ l.fn.unit) × (l.card_a ≡ l.fn.card_a) × (l.card_b ≡ l.fn.card_b);
  later : AreLater (devices (g.M.Medium.state l.fn.unit) (g.C.Chip.state l.fn.card_a) (g.D.Chip.state l.fn.card_b)) (devices (g.M.Medium.state l.unit) (g.C.Chip.state l.card_a) (g.D.Chip.state l.card_b));
  calm : AreCalm l.fn.outcome.breaks.items l.outcome.breaks.items (devices (g.M.Medium.state l.fn.unit) (g.C.Chip.state l.fn.card_a) (g.D.Chip.state l.fn.card_b)) (devices (g.M.Medium.state l.unit) (g.C.Chip.state l.card_a) (g.D.Chip.state l.card_b));
  most : WritesFor 0 (l.i - l.fn.due.from) (devices (g.M.Medium.state l.fn.unit) (g.C.Chip.state l.fn.card_a) (g.D.Chip.state l.fn.card_b)) (devices (g.M.Medium.state l.unit) (g.C.Chip.state l.card_a) (g.D.Chip.state l.card_b));
  broke : BreaksDown l.fn.outcome.breaks.items l.outcome.breaks.items (g.M.Medium.state l.fn.unit) (g.M.Medium.state l.unit);
  dark : l.fn.due.has_power ≡ false → is_lit l.run.power ≡ false;
  next : l.run.next ≡ l.fn.run.next;
  unfound : l.run.unfound ≡ l.fn.run.unfound;
  room : (left offs insertions actions : ℕ) → HasRoomWithin l.fn.run l.fn.outcome (1 + left) offs (insertions_in l.fn.due.from l.fn.due.to l.fn.due.items.now + insertions) (l.fn.due.to - l.fn.due.from + actions)
      → HasRoomWithin l.run l.outcome (1 + left) offs (insertions_in l.i l.fn.due.to l.fn.due.items.now + insertions) (l.fn.due.to - l.i + actions);
  breaks : length l.fn.outcome.breaks.items ≤ length l.outcome.breaks.items;
}
