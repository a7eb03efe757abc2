-- Bars, one more; and how many days are left.
use Rattle.std.proofs.Common.{◌≡◌, ◌∙◌, ℕ, ◌+◌, List, [], ◌∷◌, ◌++◌, length, ap, sym, arith, append_assoc, append-nil}
use Rattle.view_model.specs.declared.Viewed.{Viewed}
use Rattle.view_model.specs.declared.Line.{Line}
use Rattle.file_view.specs.Histories.{minutes_on}
use Rattle.slot_bars.specs.declared.seen.Seen.{Seen}
use Rattle.slot_bars.specs.DaysOf.{days_of}
use Rattle.day_chart.specs.Bars.{bar_text, bars_text}

pub bars_more : (date name : List ℕ) (bars : List (Line Seen)) (bar : Line Seen) → bars_text date name (bars ++ bar ∷ []) ≡ bars_text date name bars ++ bar_text date name bar
bars_more date name [] bar = append-nil (bar_text date name bar)
bars_more date name (first ∷ bars) bar =
    ap (λ (l : List ℕ). bar_text date name first ++ l) (bars_more date name bars bar) ∙ sym (append_assoc (bar_text date name first) (bars_text date name bars) (bar_text date name bar))

-- one day less is left
pub one_less : {X : Type 0} → (all place : ℕ) (rest front behind : List (Line X)) → all ≡ place + length (days_of (minutes_on rest)) → days_of (minutes_on rest) ≡ minutes_on front ∷ days_of (minutes_on behind)
    → all ≡ place + 1 + length (days_of (minutes_on behind))
one_less {X} all place rest front behind count split = omega (arith, count, ap (λ (l : List (List (Viewed X))). length l) split)

pub none_more : {X : Type 0} → (all place : ℕ) (rest : List (Line X)) → all ≡ place + length (days_of (minutes_on rest)) → rest ≡ [] → place ≡ all
none_more {X} all place rest count none = omega (arith, count, ap (λ (l : List (Line X)). length (days_of (minutes_on l))) none)
