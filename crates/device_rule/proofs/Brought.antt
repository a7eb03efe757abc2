-- What a card's image brings: its newest minute is that of its end mark and its last entry, and no entry is later than the mark.
use Rattle.std.proofs.Common.{◌≡◌, ℕ, zero, suc, ◌≤◌, max, Option, Some, None, List, [], ◌∷◌, All, refl, sym, ◌∙◌, ap, arith}
use Rattle.std.proofs.Math.Nat.{le-max_left}
use Rattle.activity_codec.specs.declared.entries.Entry.{Entry}
use Rattle.minute_model.specs.Activity.{last}
use Rattle.card_layout.specs.declared.files.Application.{Application}
use Rattle.card_model.specs.Days.{AreDays}
use Rattle.card_retention.specs.Shown.{AllUpTo}
use Rattle.card_retention.specs.Entries.{last_entry, entries_up_to, closed_at as closed_on_card}
use Rattle.card_retention.proofs.Starting.{entries_by}
use Rattle.card_image.specs.Fields.{card_days}
use Rattle.card_image.specs.View.{card_view}
use Rattle.card_image.proofs.Newest.{newest_of_entries}
use Rattle.history_model.specs.Presence.{CardStart, closed_at, trimmed_by, newest_by}
use Rattle.device_rule.specs.Views.{beyond}

pub last-same : (es : List Entry) → last es ≡ last_entry es
last-same [] = refl
last-same (e ∷ []) = refl
last-same (e ∷ f ∷ es) = last-same (f ∷ es)

pub closed-same : (o : Option Entry) → closed_at o ≡ closed_on_card o
closed-same None = refl
closed-same (Some e) = refl

pub all-up_to : (mark : ℕ) (es : List Entry) → AllUpTo mark es → All (λ e. e.minute ≤ mark) es
all-up_to mark [] up k d low = absurd (omega (arith, low))
all-up_to mark (e ∷ es) up zero d low = up.0
all-up_to mark (e ∷ es) up (suc k) d low = all-up_to mark es up.1 k d (omega (arith, low))

swap : (w m n : ℕ) → max w (max m n) ≡ max (max m w) n
swap w m n = omega arith

module _ (app : Application) (x : List ℕ) (start : CardStart) (mark : start.mark ≡ (card_view app x).mark) where
  pub brought-newest : AreDays 0 (card_days app x) → (card_view app x).newest ≡ trimmed_by start (card_view app x).held.entries
  brought-newest are =
      newest_of_entries app x are ∙ ap (λ (m : ℕ). max m (closed_on_card (last_entry (card_view app x).held.entries))) (sym mark)
      ∙ ap (λ (n : ℕ). max start.mark n) (sym (closed-same (last_entry (card_view app x).held.entries)))
      ∙ ap (λ (o : Option Entry). max start.mark (closed_at o)) (sym (last-same (card_view app x).held.entries))

  pub brought-bound : AreDays 0 (card_days app x) → (card_view app x).mark ≤ (card_view app x).newest
  brought-bound are = omega (arith, newest_of_entries app x are, le-max_left (card_view app x).mark (closed_on_card (last_entry (card_view app x).held.entries)))

  pub brought-marked : All (λ e. e.minute ≤ (card_view app x).mark) (card_view app x).held.entries
  unfolding card_view
  brought-marked = all-up_to (card_view app x).mark (entries_up_to (card_view app x).mark (card_days app x)) (entries_by (card_view app x).mark (card_days app x))

  -- with its newest word, where no session is open
  pub brought-by : AreDays 0 (card_days app x) → start.word ≡ beyond (card_view app x) → max (beyond (card_view app x)) (card_view app x).newest ≡ newest_by start (card_view app x).held.entries
  brought-by are word =
      ap (λ (n : ℕ). max (beyond (card_view app x)) n) (brought-newest are) ∙ ap (λ (w : ℕ). max w (trimmed_by start (card_view app x).held.entries)) (sym word)
      ∙ swap start.word start.mark (closed_at (last (card_view app x).held.entries))
