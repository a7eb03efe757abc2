-- How the book of a run goes with its power spans: the numbers of its minutes, and in which second the last of them were decided.
use Rattle.std.proofs.Common.{◌≡◌, ◌⊎◌, inl, inr, ⊎_elim, ℕ, zero, suc, ◌+◌, ◌-◌, ◌/◌, ◌<◌, ◌≤◌, Bool, true, false, cond, nat_le, Option, Some, None, List, [], ◌∷◌, ◌++◌, All, Contains, map, filter, take, refl, ap, sym, subst, ◌∙◌, arith, append-nil}
use Rattle.std.specs.Prelude.{max}
use Rattle.std.proofs.lemmas.List.{map-append, append_cancel_right, same_from_push, length-append}
use Rattle.std.proofs.lemmas.List.Elements.{filter-append, All-map, Contains-push_cases, Contains-append_cases}
use Rattle.run_devices.specs.trace_model.Trace.{TraceSecond}
use Rattle.run_devices.specs.minute_model.Activity.{last}
use Rattle.run_devices.specs.minute_model.declared.Minute.{Minute}
use Rattle.run_devices.specs.minute_model.declared.Rule.{Rule}
use Rattle.run_devices.specs.minute_model.Minute.{minutes_ahead}
use Rattle.run_devices.specs.minute_model.Span.{AreNumbered, count_from, end_of, latest, ungiven_of}
use Rattle.run_devices.proofs.minute_model.Counted.{decided-minutes}
use Rattle.run_devices.specs.log_model.Course.{ToldSecond, went}
use Rattle.run_devices.specs.log_model.Log.{RunLog}
use Rattle.run_devices.specs.log_model.Spans.{seconds_in, first_in, spans_of}
use Rattle.run_devices.specs.history_model.Minutes.{HistoryMinute, up_to}
use Rattle.run_devices.specs.history_model.Presence.{Start}
use Rattle.run_devices.specs.history_model.History.{seated, minutes_after, span_minutes, settlings_of, decided_of, limit_by, limited_to, history_by, cut_second}
use Rattle.run_devices.specs.history_model.Completeness.{deciding_of}
use Rattle.run_devices.specs.history_model.Growth.{as_span, closed_limit, closed_history}
use Rattle.run_devices.specs.history_model.Book.{Book, all, found, IsMark}
use Rattle.run_devices.proofs.history_model.Books.{up_to-within, contains-up_to}
use Rattle.run_devices.proofs.history_model.Deciding.{counted, span-settled}
use Rattle.run_devices.specs.run_unit_course.Followed.{UnitPower, Lit, going_on, as_spans}
use Rattle.run_devices.specs.run_unit_course.Turn.{span_at}
use Rattle.run_devices.specs.note_model.Odometer.{SpanFrom}
use Rattle.run_devices.specs.run_course.Followed.{Progress, BookFollowsRun, IsShut, IsTied}
use Rattle.run_devices.proofs.run_course.Deciding.{added, decides-now}
use Rattle.run_devices.proofs.run_course.Steps.{lit-parts, span-end}
use Rattle.run_note_record.specs.Origin.{Origin}
use Rattle.run_events.specs.run_rings.Spans.{go_on_from, with_second}
use Rattle.run_note_record.specs.Stored.{limited, minutes_kept, IsNewest, StandsOn, StoresOn}
use Rattle.run_note_record.proofs.Stored.{numbers, mapped, AtEnd, nothing, push, at-end}
use Rattle.run_note_record.proofs.Bases.{with-next, with-first, goes-on}

-- ---- the numbers of minutes

limited-numbers : (l : Option ℕ) (past : List HistoryMinute) → numbers (limited_to l past) ≡ limited l (numbers past)
limited-numbers None past = refl
limited-numbers (Some k) [] = refl
limited-numbers (Some k) (i ∷ past) = by (nat_le i.minute k) (limited-numbers (Some k) past)
  where
    by : (b : Bool) → numbers (up_to k past) ≡ filter (λ (m : ℕ). nat_le m k) (numbers past) → numbers (cond b (i ∷ up_to k past) (up_to k past)) ≡ cond b (i.minute ∷ filter (λ (m : ℕ). nat_le m k) (numbers past)) (filter (λ (m : ℕ). nat_le m k) (numbers past))
    by true rest = ap (λ (ms : List ℕ). i.minute ∷ ms) rest
    by false rest = rest

pub after-numbers : (start : Start) (told : List ToldSecond) (past : List HistoryMinute) (ds : List Minute) → numbers (minutes_after start told past ds) ≡ map (λ (d : Minute). d.minute) ds
after-numbers start told past [] = refl
after-numbers start told past (d ∷ ds) = ap (λ (ms : List ℕ). d.minute ∷ ms) (after-numbers start told (past ++ seated start told past d ∷ []) ds)

closed-numbers : (rule : Rule) (start : Start) (log : RunLog) (told : List ToldSecond) (past : List HistoryMinute) (spans : List SpanFrom) → numbers (history_by rule start (closed_limit log) told past (map (λ (s : SpanFrom). s.span) spans)) ≡ minutes_kept rule log spans
closed-numbers rule start log told past [] = refl
closed-numbers rule start log told past (s ∷ spans) =
    let l : Option ℕ = limit_by log (cut_second (last s.span)) in
    let more : List HistoryMinute = limited_to l (span_minutes rule start told past s.span) in
    map-append (λ (i : HistoryMinute). i.minute) more (history_by rule start (closed_limit log) told (past ++ more) (map (λ (x : SpanFrom). x.span) spans))
    ∙ ap (λ (ms : List ℕ). ms ++ numbers (history_by rule start (closed_limit log) told (past ++ more) (map (λ (x : SpanFrom). x.span) spans))) (limited-numbers l (span_minutes rule start told past s.span) ∙ ap (limited l) (after-numbers start told past (decided_of rule s.span)))
    ∙ ap (λ (ms : List ℕ). limited l (map (λ (d : Minute). d.minute) (decided_of rule s.span)) ++ ms) (closed-numbers rule start log told (past ++ more) spans)

-- THE BOOK OF A RUN WITH POWER has the minutes that were kept of the spans before, and all of the one that goes on.
module _ (rule : Rule) (start : Start) (from first : ℕ) (done : List TraceSecond) (p : Progress) (f : BookFollowsRun rule start from first done p) (span : List ToldSecond) (lit : p.supply ≡ Lit span) (waiting : p.waiting ≡ []) (earlier : List SpanFrom)
    (are : spans_of (went p.log done).told ≡ map (λ (s : SpanFrom). s.span) earlier ++ as_spans span) where
  abbrev told : List ToldSecond
  told = (went p.log done).told

  shut : IsShut rule start p.log (take p.unfound p.log.breaks) told f.ended span p.book p.waiting
  shut = subst (λ (s : UnitPower). IsTied rule start p.log (take p.unfound p.log.breaks) told f.ended s p.book p.waiting) lit f.tied

  ended-are : f.ended ≡ map (λ (s : SpanFrom). s.span) earlier
  ended-are = append_cancel_right f.ended (map (λ (s : SpanFrom). s.span) earlier) (as_spans span) (sym (f.spans ∙ ap (λ (s : UnitPower). f.ended ++ as_spans (going_on s)) lit) ∙ are)

  pub book-numbers : numbers p.book.sure ≡ minutes_kept rule p.log earlier ++ map (λ (d : Minute). d.minute) (decided_of rule span)
  book-numbers =
      ap numbers (sym (ap (λ (w : List HistoryMinute). p.book.sure ++ w) waiting ∙ append-nil p.book.sure) ∙ sym shut.minutes)
      ∙ map-append (λ (i : HistoryMinute). i.minute) (closed_history rule start p.log told f.ended) (span_minutes rule start told (closed_history rule start p.log told f.ended) span)
      ∙ ap (λ (ms : List ℕ). numbers (closed_history rule start p.log told f.ended) ++ ms) (after-numbers start told (closed_history rule start p.log told f.ended) (decided_of rule span))
      ∙ ap (λ (ms : List ℕ). ms ++ map (λ (d : Minute). d.minute) (decided_of rule span))
      (ap (λ (ss : List (List ToldSecond)). numbers (closed_history rule start p.log told ss)) ended-are ∙ closed-numbers rule start p.log told [] earlier)

  pub book-none : p.book.maybe ≡ None
  book-none = shut.none

  pub span-ends : end_of (span_at rule p.next span) ≡ p.next
  span-ends = by span lit
    where
      by : (sp : List ToldSecond) → p.supply ≡ Lit sp → end_of (span_at rule p.next sp) ≡ p.next
      by [] is = omega arith
      by (t ∷ sp) is =
          let g = lit-parts rule start from first done p f (t ∷ sp) is waiting in
          let end = span-end p.log from done g.ended t sp p.next g.order g.next g.power.running g.spans in
          let c = counted (t ∷ sp) in
          omega (arith, end, c)

-- THE LAST-KEPT MINUTE THAT WAS FOUND is the newest of those that count then
pub found-newest : (first k : ℕ) (b : Book) → IsMark first (all b) k → IsNewest first (numbers (found k b).sure) k
found-newest first k b mark = record {
  among = ⊎_elim (λ (is : k ≡ first). inl is)
      (λ (m : (i : HistoryMinute) × Contains (all b) i × (i.minute ≡ k)). inr (subst (Contains (numbers (up_to k (all b)))) m.2 (mapped (λ (i : HistoryMinute). i.minute) (up_to k (all b)) m.0 (contains-up_to k (all b) m.0 (let is = m.2 in omega (arith, is)) m.1))))
      mark;
  highest = All-map_ (up_to k (all b)) (up_to-within k (all b));
}
  where
    All-map_ : (is : List HistoryMinute) → All (λ (i : HistoryMinute). i.minute ≤ k) is → All (λ (m : ℕ). m ≤ k) (numbers is)
    All-map_ is h = All-map (λ (m : ℕ). m ≤ k) (λ (i : HistoryMinute). i.minute) is h

-- ---- the second that decides

settlings-push : (span : List ToldSecond) (t : ToldSecond) (n : ℕ) → t.second.number ≡ n → settlings_of (span ++ t ∷ []) ≡ added t.course.settled n (settlings_of span)
settlings-push span t n is =
    ap (map (λ (x : ToldSecond). x.second.number)) (filter-append (λ (x : ToldSecond). x.course.settled) span (t ∷ []))
    ∙ map-append (λ (x : ToldSecond). x.second.number) (filter (λ (x : ToldSecond). x.course.settled) span) (filter (λ (x : ToldSecond). x.course.settled) (t ∷ []))
    ∙ by t.course.settled
  where
    by : (b : Bool) → settlings_of span ++ map (λ (x : ToldSecond). x.second.number) (cond b (t ∷ []) []) ≡ added b n (settlings_of span)
    by true = ap (λ (k : ℕ). settlings_of span ++ k ∷ []) is
    by false = refl

in-count : (a n m : ℕ) → Contains (count_from a n) m → m < a + n
in-count a zero m at = absurd (omega (arith, at.1))
in-count a (suc n) m at = ⊎_elim
    (λ (here : Contains (a ∷ []) m). ⊎_elim (λ (none : Contains [] m). absurd (omega (arith, none.1))) (λ (same : a ≡ m). omega (arith, same)) (Contains-push_cases [] a m here))
    (λ (there : Contains (count_from (a + 1) n) m). let rest = in-count (a + 1) n m there in omega (arith, rest))
    (Contains-append_cases (a ∷ []) (count_from (a + 1) n) m at)

-- a minute that was not decided before, and is behind this second, was decided by it
pub deciding-now : (rule : Rule) (next : ℕ) (span : List ToldSecond) (t : ToldSecond) (d : Minute) → t.second.number ≡ next → end_of (span_at rule next span) ≡ next → AreNumbered (first_in (span ++ t ∷ [])) (seconds_in (span ++ t ∷ [])) →
    Contains (decided_of rule (span ++ t ∷ [])) d → ungiven_of (span_at rule next span) ≤ d.minute → deciding_of rule (settlings_of (span ++ t ∷ [])) d.minute ≡ next
deciding-now rule next span t d is ends numbered at from =
    ap (λ (us : List ℕ). deciding_of rule us d.minute) (settlings-push span t next is)
    ∙ decides-now rule (settlings_of span) t.course.settled next d.minute (late span ends from) (ahead span ends from) (below span is ends from (ap latest (settlings-push span t next is)) within)
  where
    within : d.minute < first_in (span ++ t ∷ []) / 60 + (ungiven_of (as_span rule (span ++ t ∷ [])) - first_in (span ++ t ∷ []) / 60)
    within = in-count (first_in (span ++ t ∷ []) / 60) (ungiven_of (as_span rule (span ++ t ∷ [])) - first_in (span ++ t ∷ []) / 60) d.minute
        (subst (λ (ms : List ℕ). Contains ms d.minute) (decided-minutes (as_span rule (span ++ t ∷ [])) numbered (span-settled rule (span ++ t ∷ []) numbered)) (mapped (λ (x : Minute). x.minute) (decided_of rule (span ++ t ∷ [])) d at))

    late : (sp : List ToldSecond) → end_of (span_at rule next sp) ≡ next → ungiven_of (span_at rule next sp) ≤ d.minute → latest (settlings_of sp) / 60 ≤ d.minute
    late [] e low = omega arith
    late (x ∷ xs) e low = omega (arith, low)

    ahead : (sp : List ToldSecond) → end_of (span_at rule next sp) ≡ next → ungiven_of (span_at rule next sp) ≤ d.minute → next / 60 - minutes_ahead rule ≤ d.minute
    ahead [] e low = omega (arith, low)
    ahead (x ∷ xs) e low = omega (arith, low, e)

    below : (sp : List ToldSecond) → t.second.number ≡ next → end_of (span_at rule next sp) ≡ next → ungiven_of (span_at rule next sp) ≤ d.minute → latest (settlings_of (sp ++ t ∷ [])) ≡ latest (added t.course.settled next (settlings_of sp)) →
        d.minute < first_in (sp ++ t ∷ []) / 60 + (ungiven_of (as_span rule (sp ++ t ∷ [])) - first_in (sp ++ t ∷ []) / 60) → d.minute < max ((next + 1) / 60 - minutes_ahead rule) (latest (added t.course.settled next (settlings_of sp)) / 60)
    below [] here e low same lt = let n = counted (t ∷ []) in omega (arith, here, low, same, lt, n)
    below (x ∷ xs) here e low same lt = let n = counted ((x ∷ xs) ++ t ∷ []) in let c = counted (x ∷ xs) in let l = length-append (x ∷ xs) (t ∷ []) in omega (arith, e, low, same, lt, n, c, l)

-- ---- within a second

-- of the spans with a second more the last one goes on with it, or begins
pub in-second : (o : Origin) (log : RunLog) (unfound base : ℕ) (spans : List SpanFrom) (t : ToldSecond) → t.lit ≡ true → StoresOn o log unfound base (with_second spans base t) →
    ((t.starts ≡ true) × StandsOn o log unfound spans base) ⊎ ((t.starts ≡ false) × ((spans ≡ []) ⊎ StoresOn o log unfound base spans))
in-second o log unfound base spans t lit h = by t.starts refl
  where
    by : (b : Bool) → t.starts ≡ b → ((t.starts ≡ true) × StandsOn o log unfound spans base) ⊎ ((t.starts ≡ false) × ((spans ≡ []) ⊎ StoresOn o log unfound base spans))
    by true is =
        let same = same_from_push spans h.earlier (record { base = base; span = t ∷ [] }) (record { base = base; span = h.span }) (sym (with-first spans base t lit is) ∙ h.are) in
        inl (is, subst (λ (e : List SpanFrom). StandsOn o log unfound e base) (sym same.0) h.stands)
    by false is = inr (is, at_last spans (sym (with-next spans base t lit is) ∙ h.are) (at-end spans))
      where
        at_last : (ss : List SpanFrom) → go_on_from ss base t ≡ h.earlier ++ record { base = base; span = h.span } ∷ [] → AtEnd ss → (ss ≡ []) ⊎ StoresOn o log unfound base ss
        at_last _ are nothing = inl refl
        at_last _ are (push e s) =
            let same = same_from_push e h.earlier (record { base = s.base; span = s.span ++ t ∷ [] }) (record { base = base; span = h.span }) (sym (goes-on e s base t) ∙ are) in
            inr (record {
              earlier = e;
              span = s.span;
              are = ap (λ (n : ℕ). e ++ record { base = n; span = s.span } ∷ []) (ap (λ (x : SpanFrom). x.base) same.1);
              stands = subst (λ (x : List SpanFrom). StandsOn o log unfound x base) (sym same.0) h.stands;
            })
