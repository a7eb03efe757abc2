use Rattle.std.proofs.Common.{ℕ, ◌<◌, ◌≢◌, false}
use Rattle.std.specs.Prelude.{IfSome}
use Rattle.unit_model.specs.Image.{slot_date}
use Rattle.unit_minutes.specs.Reading.{nth_index, ReadsIfAny}
use Rattle.unit_minutes.proofs.journal.Journal.scan_older.Given as goal

abbrev pub invariant-loop-nth : goal.invariant-loop-nth
invariant-loop-nth g l =
    let before = g.M.Medium.state l.initial.unit in
    let now = g.M.Medium.state l.unit in
    record {
      none : IfSome before.image (λ x. (n : ℕ) → n < l.nth → slot_date x (nth_index l.self n) ≢ l.date);
      reads : ReadsIfAny before now false;
    }
