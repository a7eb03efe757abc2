-- The book follows the history second by second.
use Rattle.std.proofs.Common.{◌≡◌, inl, inr, ⊎_elim, ℕ, ◌<◌, ◌≤◌, Bool, true, false, ◌||◌, nat_lt, cond, Option, Some, None, List, [], ◌∷◌, ◌++◌, All, Contains, length, map, refl, ap, sym, subst, ◌∙◌, append-nil}
use Rattle.std.specs.Prelude.{option_to_list}
use Rattle.std.specs.List.{AllByRecursion}
use Rattle.std.proofs.lemmas.List.Elements.{Contains-append_left, Contains-push}
use Rattle.log_model.specs.minute_model.declared.Rule.{Rule}
use Rattle.log_model.specs.minute_model.Activity.{last}
use Rattle.log_model.specs.Log.{RunLog}
use Rattle.log_model.specs.Course.{ToldSecond, Went}
use Rattle.log_model.specs.Spans.{spans_of, first_in, end_in, AreApart}
use Rattle.log_model.proofs.Spanning.{IsSpanned, IsNext}
use Rattle.history_model.specs.Minutes.{HistoryMinute}
use Rattle.history_model.specs.Presence.{Start}
use Rattle.history_model.specs.History.{decided_of, span_minutes, limited_to, lost_minute, limit_by, cut_second, limit_of, any_long, history_by, lost_by, unit_history, with_lost}
use Rattle.history_model.specs.Growth.{closed_limit, EndsAtLimit, SameLimits}
use Rattle.history_model.specs.Book.{Book, all, found, Follows, AreLost}
use Rattle.history_model.proofs.Closing.{agree-closed, agree-log, history-same, lost-same, history-parts, lost-parts, history-short, lost-short, history-none, lost-none, shorts-none, agree-all}
use Rattle.history_model.proofs.Growing.{goes, on-history, on-lost}
use Rattle.history_model.proofs.Following.{follows-limit}

-- what is told later of cuts that have no limit yet changes nothing
pub same-history : (rule : Rule) (start : Start) (log later : RunLog) (told : List ToldSecond) → SameLimits log later (spans_of told) → unit_history rule start later told ≡ unit_history rule start log told
unfolding unit_history
same-history rule start log later told same = history-same rule start told (limit_of later) (limit_of log) [] (spans_of told) (agree-log log later (spans_of told) same)

pub same-lost : (rule : Rule) (start : Start) (log later : RunLog) (told : List ToldSecond) → SameLimits log later (spans_of told) → with_lost rule start later told ≡ with_lost rule start log told
unfolding with_lost
same-lost rule start log later told same = lost-same rule start told (limit_of later) (limit_of log) [] (spans_of told) (agree-log log later (spans_of told) same)

apart-behind : (from until : ℕ) (spans behind : List (List ToldSecond)) → AreApart from (spans ++ behind) until → (n : ℕ) × AreApart n behind until
apart-behind from until [] behind h = (from, h)
apart-behind from until (x ∷ spans) behind h = apart-behind (end_in x) until spans behind h.3

apart-front : (from until : ℕ) (spans : List (List ToldSecond)) (span : List ToldSecond) → AreApart from (spans ++ span ∷ []) until → (n : ℕ) × AreApart from spans n
apart-front from until [] span h = (first_in span, h.1)
apart-front from until (x ∷ spans) span h = let rest = apart-front (end_in x) until spans span h.3 in (rest.0, (h.0, h.1, h.2, rest.1))

-- spans that end at a limit, and behind them one of one second
module _ (rule : Rule) (start : Start) (log : RunLog) (told : List ToldSecond) (k : ℕ) (spans : List (List ToldSecond)) (limit : EndsAtLimit log k spans) (from until : ℕ) (apart : AreApart from spans until) where
  none : AllByRecursion (λ (span : List ToldSecond). decided_of rule span ≡ []) limit.short
  none =
      let behind = apart-behind from until limit.before (limit.span ∷ limit.short) (subst (λ (ss : List (List ToldSecond)). AreApart from ss until) limit.are apart) in
      shorts-none rule (end_in limit.span) until limit.short behind.1.3 limit.none

  abbrev pub closed : List HistoryMinute
  closed = history_by rule start (closed_limit log) told [] limit.before

  abbrev pub mine : List HistoryMinute
  mine = span_minutes rule start told closed limit.span

  long : any_long (limit.span ∷ limit.short) ≡ true
  long = rw limit.long refl

  -- while the limit does not count, all minutes of the span stand in the history
  pub open-history : history_by rule start (limit_of log) told [] spans ≡ closed ++ mine
  open-history =
      ap (history_by rule start (limit_of log) told []) limit.are
      ∙ history-parts rule start told (limit_of log) (closed_limit log) [] limit.before (limit.span ∷ limit.short) (agree-closed log (limit.span ∷ limit.short) long limit.before)
      ∙ ap (λ (is : List HistoryMinute). closed ++ is) (
      ap (λ (b : Bool). limited_to (cond b (limit_by log (cut_second (last limit.span))) None) mine ++ history_by rule start (limit_of log) told (closed ++ limited_to (cond b (limit_by log (cut_second (last limit.span))) None) mine) limit.short) limit.none
      ∙ ap (λ (is : List HistoryMinute). mine ++ is) (history-none rule start told (limit_of log) (closed ++ mine) limit.short none)
      ∙ append-nil mine
      )

  pub open-lost : lost_by rule start (limit_of log) told [] spans ≡ lost_by rule start (closed_limit log) told [] limit.before
  open-lost =
      ap (lost_by rule start (limit_of log) told []) limit.are
      ∙ lost-parts rule start told (limit_of log) (closed_limit log) [] limit.before (limit.span ∷ limit.short) (agree-closed log (limit.span ∷ limit.short) long limit.before)
      ∙ ap (λ (ls : List (List HistoryMinute)). lost_by rule start (closed_limit log) told [] limit.before ++ ls) (
      ap (λ (b : Bool). map (λ i. closed ++ (limited_to (cond b (limit_by log (cut_second (last limit.span))) None) mine ++ i ∷ [])) (option_to_list (lost_minute (cond b (limit_by log (cut_second (last limit.span))) None) mine)) ++ lost_by rule start (limit_of log) told (closed ++ limited_to (cond b (limit_by log (cut_second (last limit.span))) None) mine) limit.short) limit.none
      ∙ lost-none rule start told (limit_of log) (closed ++ mine) limit.short none
      )
      ∙ append-nil (lost_by rule start (closed_limit log) told [] limit.before)

  -- once it counts, those up to the limit
  pub closed-history : history_by rule start (closed_limit log) told [] spans ≡ closed ++ limited_to (Some k) mine
  closed-history =
      ap (history_by rule start (closed_limit log) told []) limit.are
      ∙ history-parts rule start told (closed_limit log) (closed_limit log) [] limit.before (limit.span ∷ limit.short) (agree-all (closed_limit log) (closed_limit log) (λ span later. refl) limit.before)
      ∙ ap (λ (is : List HistoryMinute). closed ++ is) (
      ap (λ (o : Option ℕ). limited_to o mine ++ history_by rule start (closed_limit log) told (closed ++ limited_to o mine) limit.short) limit.limit
      ∙ ap (λ (is : List HistoryMinute). limited_to (Some k) mine ++ is) (history-none rule start told (closed_limit log) (closed ++ limited_to (Some k) mine) limit.short none)
      ∙ append-nil (limited_to (Some k) mine)
      )

  pub closed-lost : lost_by rule start (closed_limit log) told [] spans
      ≡ lost_by rule start (closed_limit log) told [] limit.before ++ map (λ i. closed ++ (limited_to (Some k) mine ++ i ∷ [])) (option_to_list (lost_minute (Some k) mine))
  closed-lost =
      ap (lost_by rule start (closed_limit log) told []) limit.are
      ∙ lost-parts rule start told (closed_limit log) (closed_limit log) [] limit.before (limit.span ∷ limit.short) (agree-all (closed_limit log) (closed_limit log) (λ span later. refl) limit.before)
      ∙ ap (λ (ls : List (List HistoryMinute)). lost_by rule start (closed_limit log) told [] limit.before ++ ls) (
      ap (λ (o : Option ℕ). map (λ i. closed ++ (limited_to o mine ++ i ∷ [])) (option_to_list (lost_minute o mine)) ++ lost_by rule start (closed_limit log) told (closed ++ limited_to o mine) limit.short) limit.limit
      ∙ ap (λ (ls : List (List HistoryMinute)). map (λ i. closed ++ (limited_to (Some k) mine ++ i ∷ [])) (option_to_list (lost_minute (Some k) mine)) ++ ls) (lost-none rule start told (closed_limit log) (closed ++ limited_to (Some k) mine) limit.short none)
      ∙ append-nil (map (λ i. closed ++ (limited_to (Some k) mine ++ i ∷ [])) (option_to_list (lost_minute (Some k) mine)))
      )

-- the second second of a span: the limit of the cut before it counts, and the book, in which this minute was found, follows
pub follows-second : (rule : Rule) (start : Start) (log : RunLog) (from until : ℕ) (w : Went) (t : ToldSecond) (h : IsSpanned from until w) (next : IsNext w.before until t) (lit : t.lit ≡ true) (starts : t.starts ≡ false) →
    let s = goes rule start log from until w t h next lit starts in
    length s.span ≡ 1 → (k : ℕ) (limit : EndsAtLimit log k s.before) (b : Book) →
    Follows (unit_history rule start log w.told) (with_lost rule start log w.told) b → AreLost (with_lost rule start log w.told) b →
    All (λ i. i.minute ≤ k) b.sure → All (λ i. i.minute ≤ k) (history_by rule start (closed_limit log) w.told [] limit.before) →
    ((rest : List HistoryMinute) → unit_history rule start log w.told ≡ all b ++ rest → All (λ i. k < i.minute) rest) →
    (Follows (unit_history rule start log (w.told ++ t ∷ [])) (with_lost rule start log (w.told ++ t ∷ [])) (found k b) × AreLost (with_lost rule start log (w.told ++ t ∷ [])) (found k b))
    × (history_by rule start (closed_limit log) w.told [] s.before ≡ all (found k b))
unfolding unit_history with_lost
follows-second rule start log from until w t h next lit starts one k limit b follows lost known low high =
    let s = goes rule start log from until w t h next lit starts in
    let apart = subst (λ (ss : List (List ToldSecond)). AreApart from ss until) s.are h.apart in
    let front = apart-front from until s.before s.span apart in
    let behind = apart-behind from until s.before (s.span ∷ []) apart in
    let short : any_long (s.span ∷ []) ≡ false = ap (λ (n : ℕ). nat_lt 1 n || false) one in
    let nothing = shorts-none rule behind.0 until (s.span ∷ []) behind.1 short in
    let shut : List HistoryMinute = closed rule start log w.told k s.before limit from front.0 front.1 in
    let own : List HistoryMinute = mine rule start log w.told k s.before limit from front.0 front.1 in
    let old_lost : List (List HistoryMinute) = lost_by rule start (closed_limit log) w.told [] limit.before in
    let now = ap (history_by rule start (limit_of log) w.told []) s.are ∙ history-short rule start w.told log s.before (s.span ∷ []) short nothing ∙ open-history rule start log w.told k s.before limit from front.0 front.1 in
    let now_lost = ap (lost_by rule start (limit_of log) w.told []) s.are ∙ lost-short rule start w.told log s.before (s.span ∷ []) short nothing ∙ open-lost rule start log w.told k s.before limit from front.0 front.1 in
    let more : List HistoryMinute = span_minutes rule start (w.told ++ t ∷ []) (history_by rule start (closed_limit log) w.told [] s.before) (s.span ++ t ∷ []) in
    let then_ = on-history rule start log from until w t h next lit starts ∙ ap (λ (is : List HistoryMinute). is ++ more) (closed-history rule start log w.told k s.before limit from front.0 front.1) in
    let then_lost = on-lost rule start log from until w t h next lit starts ∙ closed-lost rule start log w.told k s.before limit from front.0 front.1 in
    let goes_on = follows-limit k b known shut own follows.front.0 more (lost_by rule start (limit_of log) (w.told ++ t ∷ []) [] (spans_of (w.told ++ t ∷ []))) (sym now ∙ follows.front.1) low (high follows.front.0 follows.front.1)
    (λ i is. subst (λ (ls : List (List HistoryMinute)). Contains ls (shut ++ (limited_to (Some k) own ++ i ∷ []))) (sym (then_lost ∙ ap (λ (o : Option HistoryMinute). old_lost ++ map (λ i. shut ++ (limited_to (Some k) own ++ i ∷ [])) (option_to_list o)) is)) (Contains-push old_lost (shut ++ (limited_to (Some k) own ++ i ∷ []))))
    (λ past at. ⊎_elim (λ in_. inl in_) (λ old. inr (subst (λ (ls : List (List HistoryMinute)). Contains ls past) (sym then_lost) (Contains-append_left old_lost (map (λ i. shut ++ (limited_to (Some k) own ++ i ∷ [])) (option_to_list (lost_minute (Some k) own))) past (subst (λ (ls : List (List HistoryMinute)). Contains ls past) now_lost old)))) (lost past at)) in
    ((subst (λ (minutes : List HistoryMinute). Follows minutes (lost_by rule start (limit_of log) (w.told ++ t ∷ []) [] (spans_of (w.told ++ t ∷ []))) (found k b)) (sym then_) goes_on.0.0, goes_on.0.1), closed-history rule start log w.told k s.before limit from front.0 front.1 ∙ goes_on.1)
