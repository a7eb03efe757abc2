-- How the history grows with one second more: not at all where there is no power or power begins, and else by the minutes that the second decides.
use Rattle.std.proofs.Common.{◌≡◌, ℕ, ◌/◌, ◌<◌, Bool, true, false, not, ◌||◌, Option, List, [], ◌∷◌, ◌++◌, length, refl, ap, sym, subst, ◌∙◌, arith, nat_lt, append_assoc, length-append}
use Rattle.std.specs.Prelude.{unwrap_or}
use Rattle.std.specs.List.{AllByRecursion}
use Rattle.std.proofs.lemmas.Bool.Decides.{nat_tests}
use Rattle.log_model.specs.minute_model.declared.Rule.{Rule}
use Rattle.log_model.specs.minute_model.declared.Minute.{Minute}
use Rattle.log_model.specs.minute_model.Span.{AreNumbered}
use Rattle.log_model.proofs.minute_model.Ranges.{last-push}
use Rattle.log_model.specs.Log.{RunLog}
use Rattle.log_model.specs.Course.{ToldSecond, Went}
use Rattle.log_model.specs.Spans.{go_on, spans_of, seconds_in, first_in, end_in, AreApart}
use Rattle.log_model.proofs.Spanning.{IsSpanned, IsNext, EndsAt, spans-more, spans-new, spans-on, spans-dark}
use Rattle.history_model.specs.Minutes.{HistoryMinute}
use Rattle.history_model.specs.Presence.{Start}
use Rattle.history_model.specs.History.{decided_of, span_minutes, minutes_after, limit_of, any_long, history_by, lost_by, unit_history, with_lost}
use Rattle.history_model.specs.Growth.{closed_limit, newest_span, earlier_spans}
use Rattle.history_model.proofs.Deciding.{apart-ended, short-none, decided-grows}
use Rattle.history_model.proofs.Stilled.{history-still, lost-still, minutes-still}
use Rattle.history_model.proofs.Closing.{history-long, lost-long, history-short, lost-short, minutes-parts}

-- these minutes are earlier than that of a number
abbrev pub AreBefore : Rule → ℕ → List (List ToldSecond) → Type 0
AreBefore rule n spans = AllByRecursion (λ (span : List ToldSecond). AllByRecursion (λ (d : Minute). d.minute < n / 60) (decided_of rule span)) spans

-- the spans before the newest, and the newest, which ends with a number
pub record Split (u : ℕ) (spans : List (List ToldSecond)) : Type 0 where
  pub before : List (List ToldSecond)
  pub span : List ToldSecond
  pub are : spans ≡ before ++ span ∷ []
  pub end : end_in span ≡ u

pub split : (u : ℕ) (spans : List (List ToldSecond)) → EndsAt spans u → Split u spans
split u [] ends = absurd ends
split u (span ∷ []) ends = record { before = []; span = span; are = refl; end = ends }
split u (span ∷ next ∷ spans) ends =
    let rest = split u (next ∷ spans) ends in
    record { before = span ∷ rest.before; span = rest.span; are = ap (λ (ss : List (List ToldSecond)). span ∷ ss) rest.are; end = rest.end }

pub go_on-last : (spans : List (List ToldSecond)) (span : List ToldSecond) (t : ToldSecond) → go_on (spans ++ span ∷ []) t ≡ spans ++ (span ++ t ∷ []) ∷ []
go_on-last [] span t = refl
go_on-last (x ∷ []) span t = refl
go_on-last (x ∷ y ∷ spans) span t = ap (λ (ss : List (List ToldSecond)). x ∷ ss) (go_on-last (y ∷ spans) span t)

-- a span among spans that are apart
pub apart-last : (from until : ℕ) (spans : List (List ToldSecond)) (span : List ToldSecond) → AreApart from (spans ++ span ∷ []) until → (0 < length span) × AreNumbered (first_in span) (seconds_in span)
apart-last from until [] span h = (h.0, h.2)
apart-last from until (x ∷ spans) span h = apart-last (end_in x) until spans span h.3

pub newest-last : (spans : List (List ToldSecond)) (span : List ToldSecond) → newest_span (spans ++ span ∷ []) ≡ span
newest-last spans span = ap (λ (o : Option (List ToldSecond)). unwrap_or o []) (last-push spans span)

pub earlier-last : (spans : List (List ToldSecond)) (span : List ToldSecond) → earlier_spans (spans ++ span ∷ []) ≡ spans
earlier-last [] span = refl
earlier-last (x ∷ []) span = refl
earlier-last (x ∷ y ∷ spans) span = ap (λ (ss : List (List ToldSecond)). x ∷ ss) (earlier-last (y ∷ spans) span)

front-before : (rule : Rule) (n : ℕ) (spans behind : List (List ToldSecond)) → AreBefore rule n (spans ++ behind) → AreBefore rule n spans
front-before rule n [] behind h = tt
front-before rule n (x ∷ spans) behind h = (h.0, front-before rule n spans behind h.1)

last-before : (rule : Rule) (n : ℕ) (spans : List (List ToldSecond)) (span : List ToldSecond) → AreBefore rule n (spans ++ span ∷ []) → AllByRecursion (λ (d : Minute). d.minute < n / 60) (decided_of rule span)
last-before rule n [] span h = h.0
last-before rule n (x ∷ spans) span h = last-before rule n spans span h.1

module _ (rule : Rule) (start : Start) (log : RunLog) (from until : ℕ) (w : Went) (t : ToldSecond) (h : IsSpanned from until w) (next : IsNext w.before until t) where
  before : AreBefore rule t.second.number (spans_of w.told)
  before = subst (λ (n : ℕ). AreBefore rule n (spans_of w.told)) (sym next.number) (apart-ended rule from until (spans_of w.told) h.apart)

  abbrev later : List ToldSecond
  later = w.told ++ t ∷ []

  -- no power: the same history
  pub dark-history : t.lit ≡ false → unit_history rule start log (w.told ++ t ∷ []) ≡ unit_history rule start log w.told
  unfolding unit_history
  dark-history dark =
      ap (history_by rule start (limit_of log) later []) (spans-more w.told t ∙ spans-dark (spans_of w.told) t dark)
      ∙ history-still start w.told t rule (limit_of log) [] (spans_of w.told) before

  pub dark-lost : t.lit ≡ false → with_lost rule start log (w.told ++ t ∷ []) ≡ with_lost rule start log w.told
  unfolding with_lost
  dark-lost dark =
      ap (lost_by rule start (limit_of log) later []) (spans-more w.told t ∙ spans-dark (spans_of w.told) t dark)
      ∙ lost-still start w.told t rule (limit_of log) [] (spans_of w.told) before

  -- power begins: the same history
  pub begun-history : t.lit ≡ true → t.starts ≡ true → unit_history rule start log (w.told ++ t ∷ []) ≡ unit_history rule start log w.told
  unfolding unit_history
  begun-history lit starts =
      ap (history_by rule start (limit_of log) later []) (spans-more w.told t ∙ spans-new (spans_of w.told) t lit starts)
      ∙ history-short rule start later log (spans_of w.told) ((t ∷ []) ∷ []) refl (short-none rule t, tt)
      ∙ history-still start w.told t rule (limit_of log) [] (spans_of w.told) before

  pub begun-lost : t.lit ≡ true → t.starts ≡ true → with_lost rule start log (w.told ++ t ∷ []) ≡ with_lost rule start log w.told
  unfolding with_lost
  begun-lost lit starts =
      ap (lost_by rule start (limit_of log) later []) (spans-more w.told t ∙ spans-new (spans_of w.told) t lit starts)
      ∙ lost-short rule start later log (spans_of w.told) ((t ∷ []) ∷ []) refl (short-none rule t, tt)
      ∙ lost-still start w.told t rule (limit_of log) [] (spans_of w.told) before

  -- power is kept: the newest span goes on
  running : t.lit ≡ true → t.starts ≡ false → w.before.running ≡ true
  running lit starts = go w.before.running (sym (next.starts lit) ∙ starts)
    where
      go : (b : Bool) → not b ≡ false → b ≡ true
      go true is = refl
      go false is = absurd (cc)

  pub goes : t.lit ≡ true → t.starts ≡ false → Split until (spans_of w.told)
  goes lit starts = split until (spans_of w.told) (h.running (running lit starts))

  spans-later : (lit : t.lit ≡ true) (starts : t.starts ≡ false) → spans_of (w.told ++ t ∷ []) ≡ (goes lit starts).before ++ ((goes lit starts).span ++ t ∷ []) ∷ []
  spans-later lit starts =
      spans-more w.told t ∙ spans-on (spans_of w.told) t lit starts ∙ ap (λ (ss : List (List ToldSecond)). go_on ss t) (goes lit starts).are ∙ go_on-last (goes lit starts).before (goes lit starts).span t

  pub still-before : (lit : t.lit ≡ true) (starts : t.starts ≡ false) → AreBefore rule t.second.number (goes lit starts).before
  still-before lit starts = front-before rule t.second.number (goes lit starts).before ((goes lit starts).span ∷ []) (subst (AreBefore rule t.second.number) (goes lit starts).are before)

  long-on : (span : List ToldSecond) → 0 < length span → any_long ((span ++ t ∷ []) ∷ []) ≡ true
  long-on span some =
      let n = length-append span (t ∷ []) in
      let two : 1 < length (span ++ t ∷ []) = omega (arith, n, some) in
      let test : nat_lt 1 (length (span ++ t ∷ [])) ≡ true = grind (arith, nat_tests) in
      ap (λ (b : Bool). b || false) test

  -- what is closed, and then all minutes of the span that goes on
  pub on-history : (lit : t.lit ≡ true) (starts : t.starts ≡ false) → let s = goes lit starts in
      unit_history rule start log (w.told ++ t ∷ [])
      ≡ history_by rule start (closed_limit log) w.told [] s.before ++ span_minutes rule start (w.told ++ t ∷ []) (history_by rule start (closed_limit log) w.told [] s.before) (s.span ++ t ∷ [])
  unfolding unit_history
  on-history lit starts =
      let s = goes lit starts in
      let some = apart-last from until s.before s.span (subst (λ (ss : List (List ToldSecond)). AreApart from ss until) s.are h.apart) in
      ap (history_by rule start (limit_of log) later []) (spans-later lit starts)
      ∙ history-long rule start later log s.before (s.span ++ t ∷ []) (long-on s.span some.0)
      ∙ ap (λ (is : List HistoryMinute). is ++ span_minutes rule start later is (s.span ++ t ∷ [])) (history-still start w.told t rule (closed_limit log) [] s.before (still-before lit starts))

  pub on-lost : (lit : t.lit ≡ true) (starts : t.starts ≡ false) → with_lost rule start log (w.told ++ t ∷ []) ≡ lost_by rule start (closed_limit log) w.told [] (goes lit starts).before
  unfolding with_lost
  on-lost lit starts =
      let s = goes lit starts in
      let some = apart-last from until s.before s.span (subst (λ (ss : List (List ToldSecond)). AreApart from ss until) s.are h.apart) in
      ap (lost_by rule start (limit_of log) later []) (spans-later lit starts)
      ∙ lost-long rule start later log s.before (s.span ++ t ∷ []) (long-on s.span some.0)
      ∙ lost-still start w.told t rule (closed_limit log) [] s.before (still-before lit starts)

  -- the minutes that a second decides
  pub new-minutes : (lit : t.lit ≡ true) (starts : t.starts ≡ false) → (new : List Minute) × (decided_of rule ((goes lit starts).span ++ t ∷ []) ≡ decided_of rule (goes lit starts).span ++ new)
  new-minutes lit starts =
      let s = goes lit starts in
      let some = apart-last from until s.before s.span (subst (λ (ss : List (List ToldSecond)). AreApart from ss until) s.are h.apart) in
      decided-grows rule s.span t some.0 (next.number ∙ sym s.end) some.1

  -- it had two seconds before: the history grows by them, and nothing else changes
  pub on-grown : (lit : t.lit ≡ true) (starts : t.starts ≡ false) → any_long ((goes lit starts).span ∷ []) ≡ true →
      unit_history rule start log (w.told ++ t ∷ []) ≡ unit_history rule start log w.told ++ minutes_after start (w.told ++ t ∷ []) (unit_history rule start log w.told) (new-minutes lit starts).0
  unfolding unit_history
  on-grown lit starts long =
      let s = goes lit starts in
      let new = new-minutes lit starts in
      let closed : List HistoryMinute = history_by rule start (closed_limit log) w.told [] s.before in
      let mine : List HistoryMinute = minutes_after start w.told closed (decided_of rule s.span) in
      let still = minutes-still start w.told t closed (decided_of rule s.span) (last-before rule t.second.number s.before s.span (subst (AreBefore rule t.second.number) s.are before)) in
      let whole : history_by rule start (limit_of log) w.told [] (spans_of w.told) ≡ closed ++ mine = ap (history_by rule start (limit_of log) w.told []) s.are ∙ history-long rule start w.told log s.before s.span long in
      on-history lit starts
      ∙ ap (λ (ds : List Minute). closed ++ minutes_after start later closed ds) new.1
      ∙ ap (λ (is : List HistoryMinute). closed ++ is) (minutes-parts rule start later closed (decided_of rule s.span) new.0 ∙ ap (λ (is : List HistoryMinute). is ++ minutes_after start later (closed ++ is) new.0) still)
      ∙ sym (append_assoc closed mine (minutes_after start later (closed ++ mine) new.0))
      ∙ ap (λ (is : List HistoryMinute). is ++ minutes_after start later is new.0) (sym whole)

  pub on-grown_lost : (lit : t.lit ≡ true) (starts : t.starts ≡ false) → any_long ((goes lit starts).span ∷ []) ≡ true → with_lost rule start log (w.told ++ t ∷ []) ≡ with_lost rule start log w.told
  unfolding with_lost
  on-grown_lost lit starts long =
      let s = goes lit starts in
      on-lost lit starts ∙ sym (ap (lost_by rule start (limit_of log) w.told []) s.are ∙ lost-long rule start w.told log s.before s.span long)
