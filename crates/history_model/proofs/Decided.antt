-- Each minute of the history is decided in a span; and where each decided minute is in the history, none was lost.
use Rattle.std.proofs.Common.{◌≡◌, ⊎_elim, ℕ, ◌+◌, ◌/◌, ◌<◌, ◌≤◌, Bool, true, false, cond, nat_lt, nat_le, Option, Some, None, List, [], ◌∷◌, ◌++◌, Contains, length, map, filter, refl, ap, sym, subst, ◌∙◌, arith}
use Rattle.std.specs.Prelude.{find, option_to_list}
use Rattle.std.proofs.lemmas.Bool.Decides.{nat_tests}
use Rattle.std.proofs.lemmas.List.Elements.{All-contains, All-filter, All-contains_itself, Contains-append_left, Contains-append_right, Contains-push, Contains-push_cases, Contains-append_cases}
use Rattle.log_model.specs.trace_model.Trace.{TraceSecond}
use Rattle.log_model.specs.minute_model.declared.Rule.{Rule}
use Rattle.log_model.specs.minute_model.declared.Minute.{Minute}
use Rattle.log_model.specs.minute_model.Span.{AreNumbered}
use Rattle.log_model.specs.Log.{RunLog}
use Rattle.log_model.specs.Course.{ToldSecond, went}
use Rattle.log_model.specs.Spans.{spans_of, seconds_in, first_in, end_in, AreInOrder, AreApart}
use Rattle.log_model.proofs.Spanning.{spanned}
use Rattle.history_model.specs.Minutes.{HistoryMinute, up_to}
use Rattle.history_model.specs.Presence.{Start}
use Rattle.history_model.specs.History.{seated, minutes_after, decided_of, span_minutes, limited_to, limit_of, lost_minute, history_by, unit_history, lost_by, with_lost}
use Rattle.history_model.specs.Growth.{Rises}
use Rattle.history_model.proofs.Books.{up_to-within}
use Rattle.history_model.proofs.Rising.{rises-span, rises-spans}

-- WHERE A MINUTE OF THE HISTORY COMES FROM: it is decided in one of the spans
pub record IsDecidedIn (rule : Rule) (spans : List (List ToldSecond)) (m : ℕ) : Type 0 where
  pub span : List ToldSecond
  pub decided : Minute
  pub among : Contains spans span
  pub within : Contains (decided_of rule span) decided
  pub same : decided.minute ≡ m

pub after-decided : (start : Start) (told : List ToldSecond) (past : List HistoryMinute) (ds : List Minute) (i : HistoryMinute) → Contains (minutes_after start told past ds) i → (d : Minute) × Contains ds d × (d.minute ≡ i.minute)
after-decided start told past [] i at = absurd (omega (arith, at.1))
after-decided start told past (d ∷ ds) i at =
    ⊎_elim
    (λ here. ⊎_elim (λ none. absurd (omega (arith, none.1))) (λ is. (d, Contains-append_left (d ∷ []) ds d (Contains-push [] d), ap (λ (j : HistoryMinute). j.minute) is)) (Contains-push_cases [] (seated start told past d) i here))
    (λ there. let rest = after-decided start told (past ++ seated start told past d ∷ []) ds i there in (rest.0, Contains-append_right (d ∷ []) ds rest.0 rest.1, rest.2))
    (Contains-append_cases (seated start told past d ∷ []) (minutes_after start told (past ++ seated start told past d ∷ []) ds) i at)

-- and each decided one is among them
pub decided-after : (start : Start) (told : List ToldSecond) (past : List HistoryMinute) (ds : List Minute) (d : Minute) → Contains ds d → (i : HistoryMinute) × Contains (minutes_after start told past ds) i × (i.minute ≡ d.minute)
decided-after start told past [] d at = absurd (omega (arith, at.1))
decided-after start told past (x ∷ ds) d at =
    ⊎_elim
    (λ here. ⊎_elim
    (λ none. absurd (omega (arith, none.1)))
    (λ is. (seated start told past x, Contains-append_left (seated start told past x ∷ []) (minutes_after start told (past ++ seated start told past x ∷ []) ds) (seated start told past x) (Contains-push [] (seated start told past x)), ap (λ (y : Minute). y.minute) is))
    (Contains-push_cases [] x d here))
    (λ there. let rest = decided-after start told (past ++ seated start told past x ∷ []) ds d there in
    (rest.0, Contains-append_right (seated start told past x ∷ []) (minutes_after start told (past ++ seated start told past x ∷ []) ds) rest.0 rest.1, rest.2))
    (Contains-append_cases (x ∷ []) ds d at)

filter-among : (p : HistoryMinute → Bool) (xs : List HistoryMinute) (x : HistoryMinute) → Contains (filter p xs) x → Contains xs x
filter-among p xs x at = All-contains (Contains xs) (filter p xs) x (All-filter p (Contains xs) xs (All-contains_itself xs)) at

pub limited-among : (o : Option ℕ) (xs : List HistoryMinute) (x : HistoryMinute) → Contains (limited_to o xs) x → Contains xs x
limited-among None xs x at = at
limited-among (Some k) xs x at = filter-among (λ i. nat_le i.minute k) xs x at

history-decided : (rule : Rule) (start : Start) (told : List ToldSecond) (limit : List ToldSecond → List (List ToldSecond) → Option ℕ) (past : List HistoryMinute) (spans : List (List ToldSecond)) (i : HistoryMinute) →
    Contains (history_by rule start limit told past spans) i → IsDecidedIn rule spans i.minute
history-decided rule start told limit past [] i at = absurd (omega (arith, at.1))
history-decided rule start told limit past (span ∷ later) i at =
    let more : List HistoryMinute = limited_to (limit span later) (span_minutes rule start told past span) in
    ⊎_elim
    (λ here.
    let d = after-decided start told past (decided_of rule span) i (limited-among (limit span later) (span_minutes rule start told past span) i here) in
    record { span = span; decided = d.0; among = Contains-append_left (span ∷ []) later span (Contains-push [] span); within = d.1; same = d.2 })
    (λ there.
    let rest = history-decided rule start told limit (past ++ more) later i there in
    record { span = rest.span; decided = rest.decided; among = Contains-append_right (span ∷ []) later rest.span rest.among; within = rest.within; same = rest.same })
    (Contains-append_cases more (history_by rule start limit told (past ++ more) later) i at)

pub unit-decided : (rule : Rule) (start : Start) (log : RunLog) (told : List ToldSecond) (i : HistoryMinute) → Contains (unit_history rule start log told) i → IsDecidedIn rule (spans_of told) i.minute
unfolding unit_history
unit-decided rule start log told i at = history-decided rule start told (limit_of log) [] (spans_of told) i at

-- MINUTES that rise from one number to another
rises-most : (a until : ℕ) (past : List HistoryMinute) → Rises a past until → a ≤ until
rises-most a until [] h = h
rises-most a until (x ∷ past) h = let low : a ≤ x.minute = h.0 in let most = rises-most (x.minute + 1) until past h.1 in omega (arith, low, most)

pub rises-within : (a until : ℕ) (past : List HistoryMinute) (i : HistoryMinute) → Rises a past until → Contains past i → (a ≤ i.minute) × (i.minute < until)
rises-within a until [] i h at = absurd (omega (arith, at.1))
rises-within a until (x ∷ past) i h at =
    let low : a ≤ x.minute = h.0 in
    let most = rises-most (x.minute + 1) until past h.1 in
    ⊎_elim
    (λ here. ⊎_elim
    (λ none. absurd (omega (arith, none.1)))
    (λ (is : x ≡ i). let e : i.minute ≡ x.minute = ap (λ (y : HistoryMinute). y.minute) (sym is) in (omega (arith, low, e), omega (arith, most, e)))
    (Contains-push_cases [] x i here))
    (λ there. let w = rises-within (x.minute + 1) until past i h.1 there in let from = w.0 in (omega (arith, from, low), w.1))
    (Contains-append_cases (x ∷ []) past i at)

-- those of a front are earlier than those behind it
pub rises-split : (a until : ℕ) (xs ys : List HistoryMinute) (i j : HistoryMinute) → Rises a (xs ++ ys) until → Contains xs i → Contains ys j → i.minute < j.minute
rises-split a until [] ys i j h at behind = absurd (omega (arith, at.1))
rises-split a until (x ∷ xs) ys i j h at behind = ⊎_elim
    (λ here. ⊎_elim
    (λ none. absurd (omega (arith, none.1)))
    (λ (is : x ≡ i).
    let e : i.minute ≡ x.minute = ap (λ (y : HistoryMinute). y.minute) (sym is) in
    let w = (rises-within (x.minute + 1) until (xs ++ ys) j h.1 (Contains-append_right xs ys j behind)).0 in omega (arith, e, w))
    (Contains-push_cases [] x i here))
    (λ there. rises-split (x.minute + 1) until xs ys i j h.1 there behind)
    (Contains-append_cases (x ∷ []) xs i at)

-- what a look-up finds
found-in : (p : HistoryMinute → Bool) (xs : List HistoryMinute) (i : HistoryMinute) → find p xs ≡ Some i → Contains xs i × (p i ≡ true)
found-in p [] i is = absurd (cc)
found-in p (x ∷ xs) i is = go (p x) refl (λ rest. found-in p xs i rest) is
  where
    go : (b : Bool) → p x ≡ b → (find p xs ≡ Some i → Contains xs i × (p i ≡ true)) → cond b (Some x) (find p xs) ≡ Some i → Contains (x ∷ xs) i × (p i ≡ true)
    go true test more is = let same : x ≡ i = cc in (Contains-append_left (x ∷ []) xs i (0, omega arith, same), subst (λ (y : HistoryMinute). p y ≡ true) same test)
    go false test more is = let rest = more is in (Contains-append_right (x ∷ []) xs i rest.0, rest.1)

-- WHERE EACH DECIDED MINUTE IS IN THE HISTORY, no span has lost one
module _ (rule : Rule) (start : Start) (told : List ToldSecond) where
  decided-within : (span : List ToldSecond) (d : Minute) → AreNumbered (first_in span) (seconds_in span) → Contains (decided_of rule span) d → (first_in span / 60 ≤ d.minute) × (d.minute < end_in span / 60)
  decided-within span d numbered at =
      let i = decided-after start told [] (decided_of rule span) d at in
      let w = rises-within (first_in span / 60) (end_in span / 60) (span_minutes rule start told [] span) i.0 (rises-span rule start told [] span numbered) i.1 in
      let same = i.2 in
      let low = w.0 in
      let high = w.1 in
      (omega (arith, low, same), omega (arith, high, same))

  decided-late : (from until : ℕ) (spans : List (List ToldSecond)) (span : List ToldSecond) (d : Minute) → AreApart from spans until → Contains spans span → Contains (decided_of rule span) d → from / 60 ≤ d.minute
  decided-late from until [] span d apart at in_ = absurd (omega (arith, at.1))
  decided-late from until (x ∷ spans) span d apart at in_ =
      let begins : from ≤ first_in x = apart.1 in
      ⊎_elim
      (λ here. ⊎_elim
      (λ none. absurd (omega (arith, none.1)))
      (λ (is : x ≡ span). let w = (decided-within x d apart.2 (subst (λ (y : List ToldSecond). Contains (decided_of rule y) d) (sym is) in_)).0 in omega (arith, begins, w))
      (Contains-push_cases [] x span here))
      (λ there. let w : (first_in x + length x) / 60 ≤ d.minute = decided-late (end_in x) until spans span d apart.3 there in_ in omega (arith, begins, w))
      (Contains-append_cases (x ∷ []) spans span at)

  module _ (limit : List ToldSecond → List (List ToldSecond) → Option ℕ) where
    nothing-lost : (past : List HistoryMinute) (from until : ℕ) (spans : List (List ToldSecond)) → AreApart from spans until →
        ((span : List ToldSecond) (d : Minute) → Contains spans span → Contains (decided_of rule span) d → (i : HistoryMinute) × Contains (history_by rule start limit told past spans) i × (i.minute ≡ d.minute)) →
        lost_by rule start limit told past spans ≡ []
    nothing-lost past from until [] apart each = refl
    nothing-lost past from until (span ∷ later) apart each =
        let more : List HistoryMinute = limited_to (limit span later) (span_minutes rule start told past span) in
        ap (λ (o : Option HistoryMinute). map (λ (i : HistoryMinute). past ++ (more ++ i ∷ [])) (option_to_list o) ++ lost_by rule start limit told (past ++ more) later) (none (limit span later) refl)
        ∙ nothing-lost (past ++ more) (end_in span) until later apart.3 others
      where
        own : (i : HistoryMinute) → Contains (span_minutes rule start told past span) i → i.minute < end_in span / 60
        own i at = (rises-within (first_in span / 60) (end_in span / 60) (span_minutes rule start told past span) i (rises-span rule start told past span apart.2) at).1

        others : (s : List ToldSecond) (d : Minute) → Contains later s → Contains (decided_of rule s) d →
            (i : HistoryMinute) × Contains (history_by rule start limit told (past ++ limited_to (limit span later) (span_minutes rule start told past span)) later) i × (i.minute ≡ d.minute)
        others s d at in_ =
            let i = each s d (Contains-append_right (span ∷ []) later s at) in_ in
            ⊎_elim
            (λ here. absurd (
            let lt = own i.0 (limited-among (limit span later) (span_minutes rule start told past span) i.0 here) in
            let ge = decided-late (end_in span) until later s d apart.3 at in_ in
            let same = i.2 in omega (arith, lt, ge, same)))
            (λ there. (i.0, there, i.2))
            (Contains-append_cases (limited_to (limit span later) (span_minutes rule start told past span))
            (history_by rule start limit told (past ++ limited_to (limit span later) (span_minutes rule start told past span)) later) i.0 i.1)

        none : (o : Option ℕ) → limit span later ≡ o → lost_minute (limit span later) (span_minutes rule start told past span) ≡ None
        none None is = ap (λ (o : Option ℕ). lost_minute o (span_minutes rule start told past span)) is
        none (Some k) is = ap (λ (o : Option ℕ). lost_minute o (span_minutes rule start told past span)) is ∙ nobody (find (λ (i : HistoryMinute). nat_lt k i.minute) (span_minutes rule start told past span)) refl
          where
            nobody : (o : Option HistoryMinute) → find (λ (i : HistoryMinute). nat_lt k i.minute) (span_minutes rule start told past span) ≡ o → find (λ (i : HistoryMinute). nat_lt k i.minute) (span_minutes rule start told past span) ≡ None
            nobody None found = found
            nobody (Some i) found =
                let at = found-in (λ (i : HistoryMinute). nat_lt k i.minute) (span_minutes rule start told past span) i found in
                let d = after-decided start told past (decided_of rule span) i at.0 in
                let j = each span d.0 (Contains-append_left (span ∷ []) later span (Contains-push [] span)) d.1 in
                let same = j.2 in
                let is_d = d.2 in
                let test = at.1 in
                let lt : k < i.minute = grind (arith, test, nat_tests) in
                absurd (⊎_elim
                (λ here.
                let le : j.0.minute ≤ k = All-contains (λ (x : HistoryMinute). x.minute ≤ k) (up_to k (span_minutes rule start told past span)) j.0 (up_to-within k (span_minutes rule start told past span))
                (subst (λ (o : Option ℕ). Contains (limited_to o (span_minutes rule start told past span)) j.0) is here) in omega (arith, le, lt, same, is_d))
                (λ there.
                let ge = (rises-within (end_in span / 60) (until / 60) (history_by rule start limit told (past ++ limited_to (limit span later) (span_minutes rule start told past span)) later) j.0
                (rises-spans rule start told limit (past ++ limited_to (limit span later) (span_minutes rule start told past span)) (end_in span) until later apart.3) there).0 in
                let high = own i at.0 in omega (arith, ge, high, same, is_d))
                (Contains-append_cases (limited_to (limit span later) (span_minutes rule start told past span))
                (history_by rule start limit told (past ++ limited_to (limit span later) (span_minutes rule start told past span)) later) j.0 j.1))

pub nothing-was-lost : (rule : Rule) (start : Start) (log : RunLog) (n : ℕ) (ss : List TraceSecond) → AreInOrder n ss →
    ((span : List ToldSecond) (d : Minute) → Contains (spans_of (went log ss).told) span → Contains (decided_of rule span) d → (i : HistoryMinute) × Contains (unit_history rule start log (went log ss).told) i × (i.minute ≡ d.minute)) →
    with_lost rule start log (went log ss).told ≡ []
unfolding with_lost unit_history
nothing-was-lost rule start log n ss order each = nothing-lost rule start (went log ss).told (limit_of log) [] n (n + length ss) (spans_of (went log ss).told) (spanned log n ss order).apart each
