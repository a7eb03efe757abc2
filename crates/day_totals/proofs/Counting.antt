-- Figures of the minutes of bars.
use Rattle.std.proofs.Common.{◌≡◌, ◌∙◌, ℕ, suc, zero, ◌+◌, ◌-◌, ◌<◌, ◌≤◌, List, [], ◌∷◌, ◌++◌, length, get_or, take, drop, map, refl, ap, arith, append-nil, length-append}
use Rattle.std.specs.Prelude.{if◌then◌else◌}
use Rattle.std.proofs.lemmas.List.{take_more, take-append-drop, length-map}
use Rattle.std.proofs.lemmas.List.Sums.{sum_by-cons, sum_by-append, count_by-le-length}
use Rattle.activity_codec.proofs.ByTest.{by_test}
use Rattle.view_model.specs.declared.Viewed.{Viewed}
use Rattle.view_model.specs.declared.Line.{Line}
use Rattle.file_view.specs.Histories.{line_minutes, minutes_on}
use Rattle.file_view.proofs.Lines.{minutes_back}
use Rattle.slot_bars.specs.declared.seen.Seen.{Seen}
use Rattle.slot_bars.specs.Seeing.{same_seen, bars_of}
use Rattle.slot_bars.specs.Exact.{seen_exact}
use Rattle.file_view.proofs.Growing.{row, viewed}
use Rattle.slot_bars.proofs.Runs.{on_append}
use Rattle.day_totals.specs.declared.figures.Figure.{Figure}
use Rattle.day_totals.specs.Figures.{counts, total, line_total}

row_total : (figure : Figure) (shown : Seen) (a n : ℕ) → total figure (row shown a n) ≡ (if counts figure shown then n else 0)
row_total figure shown a zero = by_test (counts figure shown) (λ yes. rw yes refl) (λ none. rw none refl)
row_total figure shown a (suc n) =
    sum_by-cons (λ (m : Viewed Seen). if counts figure m.shown then 1 else 0) (viewed shown a) (row shown (a + 1) n)
    ∙ by_test (counts figure shown)
    (λ yes. let rest = row_total figure shown (a + 1) n in let more : total figure (row shown (a + 1) n) ≡ n = rw yes at rest in rw yes (omega (arith, more)))
    (λ none. let rest = row_total figure shown (a + 1) n in let more : total figure (row shown (a + 1) n) ≡ 0 = rw none at rest in rw none (omega (arith, more)))

-- one bar more
pub one_bar_more : (figure : Figure) (bars : List (Line Seen)) (i : ℕ) (d : Line Seen) → i < length bars
    → total figure (minutes_on (take (i + 1) bars)) ≡ total figure (minutes_on (take i bars)) + line_total figure (get_or bars i d)
one_bar_more figure bars i d low =
    let bar = get_or bars i d in
    ap (λ (l : List (Line Seen)). total figure (minutes_on l)) (take_more bars i d low)
    ∙ ap (λ (l : List (Viewed Seen)). total figure l) (on_append (take i bars) (get_or bars i d ∷ []) ∙ ap (λ (l : List (Viewed Seen)). minutes_on (take i bars) ++ l) (append-nil (line_minutes (get_or bars i d))))
    ∙ sum_by-append (λ (m : Viewed Seen). if counts figure m.shown then 1 else 0) (minutes_on (take i bars)) (line_minutes (get_or bars i d))
    ∙ ap (λ (n : ℕ). total figure (minutes_on (take i bars)) + n) (row_total figure bar.shown bar.first (bar.last + 1 - bar.first))

-- no more count than there are
pub total_within : (figure : Figure) (bars : List (Line Seen)) (i : ℕ) → total figure (minutes_on (take i bars)) ≤ length (minutes_on bars)
total_within figure bars i =
    omega (
      arith,
      count_by-le-length (λ (m : Viewed Seen). counts figure m.shown) (minutes_on (take i bars)),
      ap (λ (l : List (Line Seen)). length (minutes_on l)) (take-append-drop i bars),
      ap (λ (l : List (Viewed Seen)). length l) (on_append (take i bars) (drop i bars)),
      length-append (minutes_on (take i bars)) (minutes_on (drop i bars)),
    )

-- bars stand for their minutes
pub bars_stand : (minutes : List (Viewed Seen)) (bars : List (Line Seen)) → bars ≡ bars_of minutes → minutes_on bars ≡ minutes
bars_stand minutes bars is = minutes_back same_seen seen_exact minutes bars is

pub bars_few : {X : Type 0} → (see : Viewed X → Viewed Seen) (minutes : List (Viewed X)) (bars : List (Line Seen)) → bars ≡ bars_of (map see minutes) → length minutes ≤ 1440 → length (minutes_on bars) ≤ 1440
bars_few see minutes bars is few = omega (arith, ap (λ (l : List (Viewed Seen)). length l) (bars_stand (map see minutes) bars is), length-map minutes see, few)
