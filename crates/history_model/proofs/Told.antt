-- The laws of one second more, said of the seconds of a trace.
use Rattle.std.proofs.Common.{◌≡◌, ◌⊎◌, inl, inr, ℕ, ◌+◌, ◌<◌, ◌≤◌, ◌/◌, Bool, true, false, ◌||◌, List, [], ◌∷◌, ◌++◌, All, length, refl, ap, sym, subst, ◌∙◌, arith, nat_lt}
use Rattle.std.proofs.lemmas.Bool.Decides.{nat_tests}
use Rattle.log_model.specs.trace_model.Trace.{TraceSecond}
use Rattle.log_model.specs.minute_model.declared.Rule.{Rule}
use Rattle.log_model.specs.minute_model.declared.Minute.{Minute}
use Rattle.log_model.specs.minute_model.Span.{fed}
use Rattle.log_model.specs.Log.{RunLog}
use Rattle.log_model.specs.Course.{ToldSecond, Went, went, second_told}
use Rattle.log_model.specs.Spans.{spans_of, AreInOrder, AreApart}
use Rattle.log_model.proofs.Growth.{went-more}
use Rattle.log_model.proofs.Spanning.{IsSpanned, IsNext, spanned, next-told, order-parts}
use Rattle.history_model.specs.Minutes.{HistoryMinute}
use Rattle.history_model.specs.Presence.{Start}
use Rattle.history_model.specs.History.{decided_of, minutes_after, any_long, limit_of, unit_history, with_lost}
use Rattle.history_model.specs.Growth.{closed_limit, as_span, settled_where, picking, newest_span, earlier_spans, closed_history, EndsAtLimit, Rises}
use Rattle.history_model.specs.Book.{Book, all, found, Follows, AreLost}
use Rattle.history_model.proofs.Deciding.{span-more, apart-ended}
use Rattle.history_model.proofs.Stilled.{history-still}
use Rattle.history_model.proofs.Growing.{AreBefore, Split, apart-last, newest-last, earlier-last, dark-history, dark-lost, begun-history, begun-lost, goes, new-minutes, on-grown, on-grown_lost}
use Rattle.history_model.proofs.BySeconds.{follows-second}
use Rattle.history_model.proofs.Rising.{rises-spans}

module _ (rule : Rule) (start : Start) (log : RunLog) (n u : ℕ) (w : Went) (t : ToldSecond) (later : List ToldSecond) (more : later ≡ w.told ++ t ∷ []) (so_far : IsSpanned n u w) (next : IsNext w.before u t) where
  pub alone : (t.lit ≡ false) ⊎ (t.starts ≡ true) → (unit_history rule start log later ≡ unit_history rule start log w.told) × (with_lost rule start log later ≡ with_lost rule start log w.told)
  alone which = subst (λ (told : List ToldSecond). (unit_history rule start log told ≡ unit_history rule start log w.told) × (with_lost rule start log told ≡ with_lost rule start log w.told)) (sym more) (go t.lit refl which)
    where
      go : (b : Bool) → t.lit ≡ b → (t.lit ≡ false) ⊎ (t.starts ≡ true) → (unit_history rule start log (w.told ++ t ∷ []) ≡ unit_history rule start log w.told) × (with_lost rule start log (w.told ++ t ∷ []) ≡ with_lost rule start log w.told)
      go false dark which = (dark-history rule start log n u w t so_far next dark, dark-lost rule start log n u w t so_far next dark)
      go true lit (inl dark) = absurd (let is : true ≡ false = sym lit ∙ dark in cc)
      go true lit (inr starts) = (begun-history rule start log n u w t so_far next lit starts, begun-lost rule start log n u w t so_far next lit starts)

  module _ (lit : t.lit ≡ true) (starts : t.starts ≡ false) where
    abbrev parts : Split u (spans_of w.told)
    parts = goes rule start log n u w t so_far next lit starts

    newest : newest_span (spans_of w.told) ≡ parts.span
    newest = ap newest_span parts.are ∙ newest-last parts.before parts.span

    earlier : earlier_spans (spans_of w.told) ≡ parts.before
    earlier = ap earlier_spans parts.are ∙ earlier-last parts.before parts.span

    pub rules_see : as_span rule (newest_span (spans_of w.told) ++ t ∷ []) ≡ fed (picking t.second.picks (settled_where t.course.settled (as_span rule (newest_span (spans_of w.told))))) t.second.speed
    rules_see =
        let some = apart-last n u parts.before parts.span (subst (λ (spans : List (List ToldSecond)). AreApart n spans u) parts.are so_far.apart) in
        subst (λ (span : List ToldSecond). as_span rule (span ++ t ∷ []) ≡ fed (picking t.second.picks (settled_where t.course.settled (as_span rule span))) t.second.speed) (sym newest)
        (span-more rule parts.span t some.0 (next.number ∙ sym parts.end))

    pub grows : 1 < length (newest_span (spans_of w.told)) → (new : List Minute) × (decided_of rule (newest_span (spans_of w.told) ++ t ∷ []) ≡ decided_of rule (newest_span (spans_of w.told)) ++ new)
        × (unit_history rule start log later ≡ unit_history rule start log w.told ++ minutes_after start later (unit_history rule start log w.told) new)
        × (with_lost rule start log later ≡ with_lost rule start log w.told)
    grows two =
        let new = new-minutes rule start log n u w t so_far next lit starts in
        let here : nat_lt 1 (length (newest_span (spans_of w.told))) ≡ true = grind (arith, nat_tests) in
        let test : nat_lt 1 (length parts.span) ≡ true = subst (λ (span : List ToldSecond). nat_lt 1 (length span) ≡ true) newest here in
        let long : any_long (parts.span ∷ []) ≡ true = ap (λ (b : Bool). b || false) test in (
          new.0,
          subst (λ (span : List ToldSecond). decided_of rule (span ++ t ∷ []) ≡ decided_of rule span ++ new.0) (sym newest) new.1,
          subst (λ (told : List ToldSecond). unit_history rule start log told ≡ unit_history rule start log w.told ++ minutes_after start told (unit_history rule start log w.told) new.0) (sym more) (on-grown rule start log n u w t so_far next lit starts long),
          subst (λ (told : List ToldSecond). with_lost rule start log told ≡ with_lost rule start log w.told) (sym more) (on-grown_lost rule start log n u w t so_far next lit starts long),
        )

    at_limit : (k : ℕ) (xs ys : List (List ToldSecond)) → xs ≡ ys → (l : EndsAtLimit log k xs) → (m : EndsAtLimit log k ys) × (m.before ≡ l.before)
    at_limit k xs ys is l = (record { before = l.before; span = l.span; short = l.short; long = l.long; are = sym is ∙ l.are; limit = l.limit; none = l.none }, refl)

    pub second : length (newest_span (spans_of w.told)) ≡ 1 → (k : ℕ) (limit : EndsAtLimit log k (earlier_spans (spans_of w.told))) (b : Book) →
        Follows (unit_history rule start log w.told) (with_lost rule start log w.told) b → AreLost (with_lost rule start log w.told) b →
        All (λ i. i.minute ≤ k) b.sure → All (λ i. i.minute ≤ k) (closed_history rule start log w.told limit.before) →
        ((rest : List HistoryMinute) → unit_history rule start log w.told ≡ all b ++ rest → All (λ i. k < i.minute) rest) →
        (Follows (unit_history rule start log later) (with_lost rule start log later) (found k b) × AreLost (with_lost rule start log later) (found k b))
        × (closed_history rule start log w.told (earlier_spans (spans_of w.told)) ≡ all (found k b))
    second one k limit b follows lost known low high =
        let at = at_limit k (earlier_spans (spans_of w.told)) parts.before earlier limit in
        let goes_on = follows-second rule start log n u w t so_far next lit starts (ap (λ (span : List ToldSecond). length span) (sym newest) ∙ one) k at.0 b follows lost known
        (subst (λ (spans : List (List ToldSecond)). All (λ (i : HistoryMinute). i.minute ≤ k) (closed_history rule start log w.told spans)) (sym at.1) low) high in (
          subst (λ (told : List ToldSecond). Follows (unit_history rule start log told) (with_lost rule start log told) (found k b) × AreLost (with_lost rule start log told) (found k b)) (sym more) goes_on.0,
          subst (λ (spans : List (List ToldSecond)). closed_history rule start log w.told spans ≡ all (found k b)) (sym earlier) goes_on.1,
        )

-- one second more of a trace
pub more-told : (log : RunLog) (ss : List TraceSecond) (s : TraceSecond) → (went log (ss ++ s ∷ [])).told ≡ (went log ss).told ++ second_told log (went log ss).before s ∷ []
more-told log ss s = ap (λ (v : Went). v.told) (went-more log ss s)

pub spanned-so_far : (n : ℕ) (log : RunLog) (ss : List TraceSecond) (s : TraceSecond) → AreInOrder n (ss ++ s ∷ []) → IsSpanned n (n + length ss) (went log ss)
spanned-so_far n log ss s order = spanned log n ss (order-parts n ss s order).0

pub told-next : (n : ℕ) (log : RunLog) (ss : List TraceSecond) (s : TraceSecond) → AreInOrder n (ss ++ s ∷ []) → IsNext (went log ss).before (n + length ss) (second_told log (went log ss).before s)
told-next n log ss s order =
    let is = (order-parts n ss s order).1 in
    subst (λ (u : ℕ). IsNext (went log ss).before u (second_told log (went log ss).before s)) is (next-told log (went log ss).before s)

-- the closed history of the spans before the newest stays as seconds come
closed-still : (rule : Rule) (start : Start) (log : RunLog) (n u : ℕ) (w : Went) (t : ToldSecond) → IsSpanned n u w → IsNext w.before u t →
    closed_history rule start log (w.told ++ t ∷ []) (earlier_spans (spans_of w.told)) ≡ closed_history rule start log w.told (earlier_spans (spans_of w.told))
closed-still rule start log n u w t so_far next =
    history-still start w.told t rule (closed_limit log) [] (earlier_spans (spans_of w.told))
    (earlier-before t.second.number (spans_of w.told) (subst (λ (m : ℕ). AreBefore rule m (spans_of w.told)) (sym next.number) (apart-ended rule n u (spans_of w.told) so_far.apart)))
  where
    earlier-before : (m : ℕ) (spans : List (List ToldSecond)) → AreBefore rule m spans → AreBefore rule m (earlier_spans spans)
    earlier-before m [] h = tt
    earlier-before m (x ∷ []) h = tt
    earlier-before m (x ∷ y ∷ spans) h = (h.0, earlier-before m (y ∷ spans) h.1)

pub closed-stays : (n : ℕ) (rule : Rule) (start : Start) (log : RunLog) (ss : List TraceSecond) (s : TraceSecond) → AreInOrder n (ss ++ s ∷ []) →
    closed_history rule start log (went log (ss ++ s ∷ [])).told (earlier_spans (spans_of (went log ss).told)) ≡ closed_history rule start log (went log ss).told (earlier_spans (spans_of (went log ss).told))
closed-stays n rule start log ss s order =
    ap (λ (told : List ToldSecond). closed_history rule start log told (earlier_spans (spans_of (went log ss).told))) (more-told log ss s)
    ∙ closed-still rule start log n (n + length ss) (went log ss) (second_told log (went log ss).before s) (spanned-so_far n log ss s order) (told-next n log ss s order)

-- the minutes of the history rise, and all of them have ended
pub rises : (n : ℕ) (rule : Rule) (start : Start) (log : RunLog) (ss : List TraceSecond) → AreInOrder n ss → Rises (n / 60) (unit_history rule start log (went log ss).told) ((n + length ss) / 60)
unfolding unit_history
rises n rule start log ss order = rises-spans rule start (went log ss).told (limit_of log) [] n (n + length ss) (spans_of (went log ss).told) (spanned log n ss order).apart
