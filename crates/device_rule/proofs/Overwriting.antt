-- What is stated of a card's overwriting goes on with what is owed to it.
use Rattle.std.proofs.Common.{◌≡◌, ℕ, suc, ◌/◌, ◌<◌, ◌≤◌, List, [], ◌∷◌, ◌++◌, All, cond, refl, sym, ◌∙◌, ap, subst, arith, append_assoc, nat_lt}
use Rattle.std.proofs.lemmas.List.{append-nil}
use Rattle.std.proofs.lemmas.List.Elements.{All-head, All-weaker}
use Rattle.activity_codec.specs.declared.entries.Entry.{Entry}
use Rattle.activity_codec.specs.declared.entries.Manual.{Manual}
use Rattle.card_model.specs.Days.{AreDays}
use Rattle.card_retention.specs.Expected.{WordDay, Counted, counted, expected_days}
use Rattle.card_retention.specs.ByHand.{and_by_hand}
use Rattle.card_retention.specs.Shown.{AllBefore}
use Rattle.card_retention.specs.Entries.{newest_word}
use Rattle.card_retention.specs.Retains.{CardRetains}
use Rattle.card_retention.proofs.Due.{before_counted, counted_then, retains_due}
use Rattle.card_image.specs.Fields.{card_days, end_mark, session_time}
use Rattle.card_image.specs.View.{card_view}
use Rattle.card_image.specs.Own.{own_sizes, own_view, own_covered, counted_view, expected_with, most_slack, StandsFrom, KeepsFrom, KeepsOf}
use Rattle.card_image.proofs.Newest.{counting_before}
use Rattle.history_model.specs.Presence.{CardStart}
use Rattle.history_model.proofs.Filters.{all-back}
use Rattle.device_rule.specs.Views.{beyond}
use Rattle.device_rule.specs.Rules.{OwedCounts}

module _ (image : List ℕ) where
  -- the days at the start are not later than a later minute
  days-before : (k : ℕ) → AreDays 0 (card_days (own_sizes image) image) → (own_view image).mark ≤ k → beyond (own_view image) ≤ k → AllBefore (suc (k / 1440)) (own_view image).held.days
  unfolding own_view card_view
  days-before k are low word = counting_before (session_time (own_sizes image) image) (end_mark (own_sizes image) image) k (card_days (own_sizes image) image) are low
      (λ none. subst (λ (s : ℕ). cond {A = ℕ} (nat_lt 0 s) 0 (newest_word (card_days (own_sizes image) image)) ≤ k) none word)

  days-due : (next : ℕ) (more : List Entry) → expected_with image next more ≡ expected_days (own_covered image) next (counted (own_covered image) (counted_view (own_view image)) more)
  unfolding expected_with
  days-due next more = refl

  module _ (hands : List Manual) (start : CardStart) (are : AreDays 0 (card_days (own_sizes image) image)) (entries : start.entries ≡ (own_view image).held.entries) (mark : start.mark ≡ (own_view image).mark) (word : start.word ≡ beyond (own_view image)) where
    pub owed-entries_count : OwedCounts start (KeepsFrom image hands) (KeepsOf image hands)
    owed-entries_count next marked more [] x low had above late rise kept = (
      next,
      record {
        more = kept.more;
        begins = ap (λ (zs : List Entry). start.entries ++ zs) (append-nil more) ∙ kept.begins;
        keeps = λ n le. subst (λ (zs : List Entry). (r : CardRetains (own_sizes image).activity most_slack ((own_view image).mark / 1440) (and_by_hand hands (expected_with image n kept.more)) (start.entries ++ zs) x.days (x.entries ++ [])) × StandsFrom image r.oldest x.days) (sym (append-nil more))
            (subst (λ (zs : List Entry). (r : CardRetains (own_sizes image).activity most_slack ((own_view image).mark / 1440) (and_by_hand hands (expected_with image n kept.more)) (start.entries ++ more) x.days zs) × StandsFrom image r.oldest x.days) (sym (append-nil x.entries)) (kept.keeps n le));
      },
    )
    owed-entries_count next marked more (e ∷ es) x low had above late rise kept = (
      0,
      record {
        more = kept.more ++ e ∷ es;
        begins = whole ∙ ap (λ (zs : List Entry). zs ++ e ∷ es) kept.begins ∙ append_assoc (own_view image).held.entries kept.more (e ∷ es);
        keeps = λ n le. subst (λ (zs : List Entry). (r : CardRetains (own_sizes image).activity most_slack ((own_view image).mark / 1440) (and_by_hand hands (expected_with image n (kept.more ++ e ∷ es))) zs x.days (x.entries ++ e ∷ es)) × StandsFrom image r.oldest x.days) (sym whole)
            (subst (λ (days : List WordDay). (r : CardRetains (own_sizes image).activity most_slack ((own_view image).mark / 1440) (and_by_hand hands days) ((start.entries ++ more) ++ e ∷ es) x.days (x.entries ++ e ∷ es)) × StandsFrom image r.oldest x.days)
            (sym (days-due n (kept.more ++ e ∷ es) ∙ ap (λ (c : Counted). expected_days (own_covered image) n c) (counted_then (own_covered image) (counted_view (own_view image)) kept.more (e ∷ es))))
            ((with-due n).0, subst (λ (o : ℕ). StandsFrom image o x.days) (sym (with-due n).1) first.1));
      },
    )
      where
        whole : start.entries ++ (more ++ e ∷ es) ≡ (start.entries ++ more) ++ e ∷ es
        whole = sym (append_assoc start.entries more (e ∷ es))

        behind : marked < e.minute
        behind = All-head (λ (d : Entry). marked < d.minute) e es above

        each : All (λ (d : Entry). d.minute / 1440 < suc (e.minute / 1440)) kept.more
        each = All-weaker (λ (d : Entry). d.minute ≤ marked) (λ d. d.minute / 1440 < suc (e.minute / 1440)) (λ d le. omega (arith, le, behind)) kept.more
            (all-back (λ (d : Entry). d.minute ≤ marked) (own_view image).held.entries kept.more (subst (All (λ (d : Entry). d.minute ≤ marked)) kept.begins had))

        before : AllBefore (suc (e.minute / 1440)) (counted (own_covered image) (counted_view (own_view image)) kept.more).days
        before = before_counted (suc (e.minute / 1440)) (own_covered image) (counted_view (own_view image)) kept.more
            (days-before e.minute are (omega (arith, mark, low, behind)) (omega (arith, word, All-head (λ (d : Entry). start.word < d.minute) e es late))) each

        from_mark : (own_view image).mark / 1440 ≤ e.minute / 1440
        from_mark = omega (arith, mark, low, behind)

        first : (r : CardRetains (own_sizes image).activity most_slack ((own_view image).mark / 1440) (and_by_hand hands (expected_days (own_covered image) e.minute (counted (own_covered image) (counted_view (own_view image)) kept.more))) (start.entries ++ more) x.days x.entries) × StandsFrom image r.oldest x.days
        first = subst (λ (days : List WordDay). (r : CardRetains (own_sizes image).activity most_slack ((own_view image).mark / 1440) (and_by_hand hands days) (start.entries ++ more) x.days x.entries) × StandsFrom image r.oldest x.days) (days-due e.minute kept.more) (kept.keeps e.minute (omega arith))

        with-due : (n : ℕ) → (k : CardRetains (own_sizes image).activity most_slack ((own_view image).mark / 1440) (and_by_hand hands (expected_days (own_covered image) n (counted (own_covered image) (counted (own_covered image) (counted_view (own_view image)) kept.more) (e ∷ es)))) ((start.entries ++ more) ++ e ∷ es) x.days (x.entries ++ e ∷ es))
            × (k.oldest ≡ first.0.oldest)
        with-due n = retains_due hands (own_sizes image).activity most_slack ((own_view image).mark / 1440) (own_covered image) n (counted (own_covered image) (counted_view (own_view image)) kept.more) (start.entries ++ more) e es x.days x.entries rise before from_mark first.0
