use Rattle.std.proofs.Common.{◌≡◌, ◌≤◌, ◌<◌, ◌-◌, ◌⊎◌, ℕ, get_or, length, false}
use Rattle.std.specs.Prelude.{IfSome}
use Rattle.tach_media.specs.Medium.{Reads}
use Rattle.activity_codec.specs.Words.{word_minute}
use Rattle.card_model.specs.Days.{Day}
use Rattle.card_model.specs.Image.{IsAt}
use Rattle.card_days.proofs.circle.Circle.words_until.Given as goal

abbrev pub invariant-loop-kept : goal.invariant-loop-kept
invariant-loop-kept g l =
    let before = g.M.Medium.state l.initial.medium in
    let now = g.M.Medium.state l.medium in
    record {
      ordered : l.kept ≤ l.end;
      high : l.end ≤ l.count;
      passed : IfSome before.image (λ x. (d : Day) → IsAt l.self x l.place d → l.count ≡ length d.words → (j : ℕ) → j < l.kept → word_minute (get_or d.words j 0) ≤ l.minute);
      later : IfSome before.image (λ x. (d : Day) → IsAt l.self x l.place d → l.count ≡ length d.words → (l.end ≡ length d.words) ⊎ (l.minute < word_minute (get_or d.words l.end 0)));
      reads : Reads before now false;
    }

abbrev pub decreases-loop-kept : goal.decreases-loop-kept
decreases-loop-kept g l = l.end - l.kept
