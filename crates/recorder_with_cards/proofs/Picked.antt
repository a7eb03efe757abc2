-- A run whose next second has a selection more.
use Rattle.std.proofs.Common.{ℕ}
use Rattle.activity_codec.specs.declared.values.Slot.{Slot}
use Rattle.activity_codec.specs.declared.values.Pick.{Pick}
use Rattle.tach_media.specs.Medium.{State}
use Rattle.tach_media.specs.card_layout.declared.command.CardState.{CardState}
use Rattle.minute_rules.specs.minute_model.Span.{picked}
use Rattle.minute_rules.specs.Kept.{CountsSpan, Kept as Minutes}
use Rattle.run_acts.specs.declared.run.Run.{Run}
use Rattle.run_acts.specs.Going.{RunHasPowerAllSeated}

module _ {U A0 B0 : State} {chip_a chip_b : CardState} (to : ℕ) (run : Run) (minutes : Minutes) (slot : Slot) (pick : Pick) where
  pub picked-going : (g : RunHasPowerAllSeated to run U chip_a chip_b A0 B0) → CountsSpan minutes (picked g.span slot pick) → RunHasPowerAllSeated to (record run { minutes = minutes }) U chip_a chip_b A0 B0
  picked-going g stands = record {
    ready = g.ready;
    span = picked g.span slot pick;
    stands = stands;
    next = g.next;
    low = g.low;
    due = g.due;
    later = g.later;
    cabin = g.cabin;
    ended = g.ended;
    rows = g.rows;
    present = g.present;
    entries = g.entries;
    watches = g.watches;
    limit = g.limit;
    newest = g.newest;
  }
