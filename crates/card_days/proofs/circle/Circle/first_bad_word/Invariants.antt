use Rattle.std.proofs.Common.{◌≡◌, ◌≤◌, ◌-◌, ◌+◌, ◌*◌, drop, false}
use Rattle.std.specs.Prelude.{IfSome}
use Rattle.tach_media.specs.Medium.{Reads}
use Rattle.card_model.specs.Image.{turned, string_of}
use Rattle.card_model.specs.Walk.{words_of}
use Rattle.card_model.specs.Checks.{first_failing, word_checks}
use Rattle.card_days.specs.Loading.{ArePairs}
use Rattle.card_days.proofs.circle.Circle.first_bad_word.Given as goal

abbrev pub invariant-loop-index : goal.invariant-loop-index
invariant-loop-index g l =
    let before = g.M.Medium.state l.fn.medium in
    let now = g.M.Medium.state l.medium in
    record {
      high : l.index ≤ l.count;
      passed : IfSome before.image (λ x. first_failing (word_checks 12 0 1 (words_of l.count (drop 12 (turned l.place (string_of l.self x)))))
          ≡ first_failing (word_checks (12 + 2 * l.index) l.from l.below (words_of (l.count - l.index) (drop (2 * l.index) (drop 12 (turned l.place (string_of l.self x)))))));
      pairs : IfSome before.image (λ x. ArePairs l.index (drop 12 (turned l.place (string_of l.self x))));
      reads : Reads before now false;
    }

abbrev pub decreases-loop-index : goal.decreases-loop-index
decreases-loop-index g l = l.count - l.index
