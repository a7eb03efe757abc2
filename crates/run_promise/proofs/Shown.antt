-- While power has just come back, what the history has beyond the book is shown to be lost.
use Rattle.std.proofs.Common.{◌≡◌, ◌⊎◌, inl, inr, ⊎_elim, ℕ, suc, ◌+◌, ◌*◌, ◌/◌, ◌<◌, ◌≤◌, Bool, true, false, cond, Option, Some, None, List, [], ◌∷◌, ◌++◌, All, Contains, refl, ap, subst, ◌∙◌, sym, arith, length, nat_eq, nat_lt, nat_le, take, length-append}
use Rattle.std.specs.Prelude.{◌&&◌, ◌||◌, is_some, unwrap_or}
use Rattle.std.specs.List.{AllByRecursion, list_any}
use Rattle.std.proofs.lemmas.Bool.Decides.{nat_tests}
use Rattle.std.proofs.lemmas.List.{append-nil, map-append}
use Rattle.std.proofs.lemmas.List.Elements.{All-nil, All-cons, All-append, All-weaker, All-contains, All-contains_itself, Contains-append_left, Contains-append_right}
use Rattle.run_course.specs.minute_model.declared.Rule.{Rule}
use Rattle.run_course.specs.minute_model.declared.Minute.{Minute}
use Rattle.run_course.specs.minute_model.Activity.{last}
use Rattle.run_course.specs.minute_model.Span.{AreNumbered}
use Rattle.run_course.proofs.minute_model.Numbered.{numbered-parts}
use Rattle.run_course.proofs.minute_model.Ranges.{last-push}
use Rattle.run_course.specs.log_model.declared.lines.Break.{Break}
use Rattle.run_course.specs.log_model.declared.lines.Break.TheVariants.{Cut, Tear}
use Rattle.run_course.specs.log_model.Log.{RunLog, kept_after, kept_by}
use Rattle.run_course.specs.log_model.Course.{ToldSecond, went}
use Rattle.run_course.specs.log_model.Spans.{spans_of, seconds_in, first_in, end_in, AreApart}
use Rattle.run_course.proofs.log_model.Spanning.{spanned}
use Rattle.run_course.specs.trace_model.Trace.{TraceSecond}
use Rattle.run_course.specs.history_model.Minutes.{HistoryMinute, up_to}
use Rattle.run_course.specs.history_model.Presence.{Start}
use Rattle.run_course.specs.history_model.History.{seated, minutes_after, decided_of, span_minutes, limited_to, limit_by, cut_second, limit_of, any_long, history_by, unit_history}
use Rattle.run_course.specs.history_model.Growth.{closed_limit, closed_history}
use Rattle.run_course.proofs.history_model.Books.{contains-up_to}
use Rattle.run_course.proofs.history_model.Closing.{shorts-none, history-none}
use Rattle.run_course.proofs.history_model.Deciding.{counted, span-ended, apart-until}
use Rattle.unit_rule.specs.run_unit_course.Lines.{log_of, tells_cut}
use Rattle.unit_rule.specs.run_unit_course.Followed.{Lit, IsKnown}
use Rattle.unit_rule.proofs.run_unit_course.Lines.{tells-front}
use Rattle.unit_rule.proofs.run_unit_course.Alike.{decided-empty}
use Rattle.unit_rule.proofs.run_unit_course.Spans.{snoc}
use Rattle.run_course.specs.Followed.{Progress, BookFollowsRun, IsShut}
use Rattle.run_course.proofs.Lookups.{kept-by}
use Rattle.unit_rule.specs.safety_model.Cards.{shows_lost}
use Rattle.run_promise.specs.Accounts.{IsShownLost}

-- A CUT shows what it lost
pick : (o rest : Option ℕ) → unwrap_or (cond (is_some o) o rest) 0 ≡ cond (is_some o) (unwrap_or o 0) (unwrap_or rest 0)
pick None rest = refl
pick (Some k) rest = refl

kept-first : (b : Break) (bs : List Break) (u : ℕ) → kept_after (log_of (b ∷ bs)) u ≡ cond (is_some (kept_by u b)) (unwrap_or (kept_by u b) 0) (kept_after (log_of bs) u)
unfolding kept_after
kept-first b bs u = pick (kept_by u b) _

or-true : (b : Bool) → (b || true) ≡ true
or-true true = refl
or-true false = refl

three : (q kept m u : ℕ) → q < u → kept < m → m ≤ q / 60 → ((nat_lt q u && nat_lt kept m) && nat_le m (q / 60)) ≡ true
three q kept m u a b c = grind (arith, nat_tests)

shown-by : (bs : List Break) (q m u : ℕ) → tells_cut q bs ≡ true → kept_after (log_of bs) q < m → m ≤ q / 60 → q < u → list_any (shows_lost u m) bs ≡ true
shown-by [] q m u told kept low late = absurd (cc)
shown-by (Cut second k failed begun ∷ bs) q m u told kept low late = go (nat_eq second q) refl (λ rest more. shown-by bs q m u rest more low late)
  where
    go : (b : Bool) → nat_eq second q ≡ b → (tells_cut q bs ≡ true → kept_after (log_of bs) q < m → list_any (shows_lost u m) bs ≡ true) → (shows_lost u m (Cut second k failed begun) || list_any (shows_lost u m) bs) ≡ true
    go true is on =
        let same : second ≡ q = grind (arith, nat_tests) in
        let first : kept_after (log_of (Cut second k failed begun ∷ bs)) q ≡ k = kept-first (Cut second k failed begun) bs q ∙ rw is refl in
        let here : shows_lost u m (Cut second k failed begun) ≡ true = three second k m u (omega (arith, same, late)) (omega (arith, first, kept)) (subst (λ (n : ℕ). m ≤ n / 60) (sym same) low) in
        ap (λ (b : Bool). b || list_any (shows_lost u m) bs) here
    go false is on =
        let rest : kept_after (log_of (Cut second k failed begun ∷ bs)) q ≡ kept_after (log_of bs) q = kept-first (Cut second k failed begun) bs q ∙ rw is refl in
        ap (λ (b : Bool). shows_lost u m (Cut second k failed begun) || b) (on (rw is at told) (omega (arith, rest, kept))) ∙ or-true (shows_lost u m (Cut second k failed begun))
shown-by (Tear second slot failed begun late_ ∷ bs) q m u told kept low late =
    let rest : kept_after (log_of (Tear second slot failed begun late_ ∷ bs)) q ≡ kept_after (log_of bs) q = kept-first (Tear second slot failed begun late_) bs q in
    shown-by bs q m u told (omega (arith, rest, kept)) low late

-- LOST in a cut of these spans: later than what was found kept after it, and decided before it
record IsLostBy (log : RunLog) (until m : ℕ) : Type 0 where
  second : ℕ
  told : tells_cut second log.breaks ≡ true
  later : kept_after log second < m
  before : m ≤ second / 60
  by : second < until

lost-shown : (log : RunLog) (until : ℕ) (i : HistoryMinute) → IsLostBy log until i.minute → IsShownLost log until i
lost-shown log until i l u le = shown-by log.breaks l.second i.minute u l.told (let same = kept-by log l.second in let late = l.later in omega (arith, same, late)) l.before (let lt = l.by in omega (arith, lt, le))

-- the minutes of a span have ended
seated-minutes : (start : Start) (told : List ToldSecond) (n : ℕ) (past : List HistoryMinute) (ds : List Minute) → AllByRecursion (λ (d : Minute). 60 * d.minute + 60 ≤ n) ds → All (λ (i : HistoryMinute). 60 * i.minute + 60 ≤ n) (minutes_after start told past ds)
seated-minutes start told n past [] h = All-nil (λ (i : HistoryMinute). 60 * i.minute + 60 ≤ n)
seated-minutes start told n past (d ∷ ds) h = All-cons (λ (i : HistoryMinute). 60 * i.minute + 60 ≤ n) (seated start told past d) (minutes_after start told (past ++ seated start told past d ∷ []) ds) h.0 (seated-minutes start told n (past ++ seated start told past d ∷ []) ds h.1)

cut-of : (b : Bool) (n q : ℕ) → cond b (Some n) None ≡ Some q → n ≡ q
cut-of true n q is = cc
cut-of false n q is = cc

-- the number of the last second of a span that is a cut's
cut-last : (span : List ToldSecond) (q : ℕ) → 0 < length span → AreNumbered (first_in span) (seconds_in span) → cut_second (last span) ≡ Some q → end_in span ≡ suc q
cut-last [] q some numbered cut = absurd (omega (arith, some))
cut-last (t ∷ ts) q some numbered cut =
    let s = snoc t ts in
    let n = length-append s.front (s.t ∷ []) in
    let same = ap (λ (zs : List ToldSecond). length zs) s.are in
    let each = subst (λ (zs : List ToldSecond). AreNumbered (first_in (t ∷ ts)) (seconds_in zs)) s.are numbered in
    let parts = numbered-parts (first_in (t ∷ ts)) (seconds_in s.front) (seconds_in (s.t ∷ [])) (subst (AreNumbered (first_in (t ∷ ts))) (map-append (λ (t : ToldSecond). t.second) s.front (s.t ∷ [])) each) in
    let c = counted s.front in
    let here : s.t.second.number ≡ first_in (t ∷ ts) + length (seconds_in s.front) = parts.1.0 in
    let is : cut_second (Some s.t) ≡ Some q = ap cut_second (sym (last-push s.front s.t) ∙ ap (λ (zs : List ToldSecond). last zs) (sym s.are)) ∙ cut in
    let number : s.t.second.number ≡ q = cut-of s.t.cut s.t.second.number q is in
    omega (arith, here, c, n, same, number)

module _ (rule : Rule) (start : Start) (log : RunLog) (found : List Break) (told : List ToldSecond) (until : ℕ) (tells : (q : ℕ) → tells_cut q found ≡ true → tells_cut q log.breaks ≡ true) where
  -- a minute of a span's is kept up to its limit, or lost
  limited-or_lost : (past : List HistoryMinute) (span : List ToldSecond) → 0 < length span → AreNumbered (first_in span) (seconds_in span) → end_in span ≤ until → IsKnown rule found span →
      All (λ i. Contains (limited_to (limit_by log (cut_second (last span))) (span_minutes rule start told past span)) i ⊎ IsLostBy log until i.minute) (span_minutes rule start told past span)
  limited-or_lost past span some numbered ends (inl nothing) =
      subst (λ (ds : List Minute). All (λ i. Contains (limited_to (limit_by log (cut_second (last span))) (minutes_after start told past ds)) i ⊎ IsLostBy log until i.minute) (minutes_after start told past ds)) (sym nothing)
      (All-nil (λ (i : HistoryMinute). Contains (limited_to (limit_by log (cut_second (last span))) []) i ⊎ IsLostBy log until i.minute))
  limited-or_lost past span some numbered ends (inr (q, cut, is)) =
      let mine : List HistoryMinute = span_minutes rule start told past span in
      let end : end_in span ≡ suc q = cut-last span q some numbered cut in
      subst (λ (o : Option ℕ). All (λ i. Contains (limited_to (limit_by log o) mine) i ⊎ IsLostBy log until i.minute) mine) (sym cut)
      (All-weaker (λ (i : HistoryMinute). Contains mine i × (60 * i.minute + 60 ≤ end_in span)) (λ i. Contains (up_to (kept_after log q) mine) i ⊎ IsLostBy log until i.minute)
      (λ i both. ⊎_elim
      (λ low. inl (contains-up_to (kept_after log q) mine i low both.0))
      (λ high. inr (record { second = q; told = tells q is; later = high; before = (let e = both.1 in omega (arith, e, end)); by = omega (arith, end, ends) }))
      (either (kept_after log q) i.minute)) mine
      (both-of mine (seated-minutes start told (end_in span) past (decided_of rule span) (span-ended rule span numbered))))
    where
      either : (k m : ℕ) → (m ≤ k) ⊎ (k < m)
      either k m = go (nat_le m k) refl
        where
          go : (b : Bool) → nat_le m k ≡ b → (m ≤ k) ⊎ (k < m)
          go true is = inl (grind (arith, nat_tests))
          go false is = inr (grind (arith, nat_tests))

      both-of : (is : List HistoryMinute) → All (λ (i : HistoryMinute). 60 * i.minute + 60 ≤ end_in span) is → All (λ (i : HistoryMinute). Contains is i × (60 * i.minute + 60 ≤ end_in span)) is
      both-of is each = All-weaker (Contains is) (λ i. Contains is i × (60 * i.minute + 60 ≤ end_in span)) (λ i at. (at, All-contains (λ (j : HistoryMinute). 60 * j.minute + 60 ≤ end_in span) is i each at)) is (All-contains_itself is)

  -- of all spans that have ended
  ended-or_lost : (from : ℕ) (past : List HistoryMinute) (spans : List (List ToldSecond)) → AreApart from spans until → AllByRecursion (IsKnown rule found) spans →
      All (λ i. Contains (history_by rule start (closed_limit log) told past spans) i ⊎ IsLostBy log until i.minute) (history_by rule start (limit_of log) told past spans)
  ended-or_lost from past [] apart known = All-nil (λ (i : HistoryMinute). Contains (history_by rule start (closed_limit log) told past []) i ⊎ IsLostBy log until i.minute)
  ended-or_lost from past (span ∷ later) apart known = by (any_long later) refl (λ past. ended-or_lost (end_in span) past later apart.3 known.1)
    where
      limit : Option ℕ
      limit = limit_by log (cut_second (last span))

      mine : List HistoryMinute
      mine = span_minutes rule start told past span

      closed : List HistoryMinute
      closed = limited_to limit mine ++ history_by rule start (closed_limit log) told (past ++ limited_to limit mine) later

      by : (b : Bool) → any_long later ≡ b → ((past : List HistoryMinute) → All (λ i. Contains (history_by rule start (closed_limit log) told past later) i ⊎ IsLostBy log until i.minute) (history_by rule start (limit_of log) told past later)) →
          All (λ i. Contains closed i ⊎ IsLostBy log until i.minute) (limited_to (cond b limit None) mine ++ history_by rule start (limit_of log) told (past ++ limited_to (cond b limit None) mine) later)
      by true long rest =
          All-append (λ (i : HistoryMinute). Contains closed i ⊎ IsLostBy log until i.minute) (limited_to limit mine) (history_by rule start (limit_of log) told (past ++ limited_to limit mine) later)
          (All-weaker (Contains (limited_to limit mine)) (λ i. Contains closed i ⊎ IsLostBy log until i.minute) (λ i at. inl (Contains-append_left (limited_to limit mine) (history_by rule start (closed_limit log) told (past ++ limited_to limit mine) later) i at)) (limited_to limit mine) (All-contains_itself (limited_to limit mine)))
          (All-weaker (λ (i : HistoryMinute). Contains (history_by rule start (closed_limit log) told (past ++ limited_to limit mine) later) i ⊎ IsLostBy log until i.minute) (λ i. Contains closed i ⊎ IsLostBy log until i.minute)
          (λ i is. ⊎_elim (λ at. inl (Contains-append_right (limited_to limit mine) (history_by rule start (closed_limit log) told (past ++ limited_to limit mine) later) i at)) inr is)
          (history_by rule start (limit_of log) told (past ++ limited_to limit mine) later) (rest (past ++ limited_to limit mine)))
      by false short rest =
          let none : history_by rule start (limit_of log) told (past ++ mine) later ≡ [] = history-none rule start told (limit_of log) (past ++ mine) later (shorts-none rule (end_in span) until later apart.3 short) in
          subst (λ (is : List HistoryMinute). All (λ i. Contains closed i ⊎ IsLostBy log until i.minute) (mine ++ is)) (sym none)
          (subst (All (λ (i : HistoryMinute). Contains closed i ⊎ IsLostBy log until i.minute)) (sym (append-nil mine))
          (All-weaker (λ (i : HistoryMinute). Contains (limited_to limit mine) i ⊎ IsLostBy log until i.minute) (λ i. Contains closed i ⊎ IsLostBy log until i.minute)
          (λ i is. ⊎_elim (λ at. inl (Contains-append_left (limited_to limit mine) (history_by rule start (closed_limit log) told (past ++ limited_to limit mine) later) i at)) inr is) mine
          (limited-or_lost past span apart.0 apart.2 (apart-until (end_in span) until later apart.3) known.0)))

-- POWER IS BACK and nothing is decided yet: each minute of the history is a sure one, or shown to be lost
pub lost-is_shown : (rule : Rule) (start : Start) (from first : ℕ) (done : List TraceSecond) (p : Progress) → BookFollowsRun rule start from first done (record p { supply = Lit []; waiting = [] }) →
    All (λ i. Contains p.book.sure i ⊎ IsShownLost p.log p.next i) (unit_history rule start p.log (went p.log done).told)
unfolding unit_history
lost-is_shown rule start from first done p f =
    let told : List ToldSecond = (went p.log done).told in
    let spans : spans_of told ≡ f.ended = f.spans ∙ append-nil f.ended in
    let shut : IsShut rule start p.log (take p.unfound p.log.breaks) told f.ended [] p.book [] = f.tied in
    let closed : closed_history rule start p.log told f.ended ≡ p.book.sure =
    sym (append-nil (closed_history rule start p.log told f.ended)) ∙ ap (λ (ds : List Minute). closed_history rule start p.log told f.ended ++ minutes_after start told (closed_history rule start p.log told f.ended) ds) (sym (decided-empty rule))
    ∙ shut.minutes ∙ append-nil p.book.sure in
    let apart : AreApart from f.ended p.next = subst (λ (n : ℕ). AreApart from f.ended n) (sym f.next) (subst (λ (ss : List (List ToldSecond)). AreApart from ss (from + length done)) spans (spanned p.log from done f.order).apart) in
    subst (λ (ss : List (List ToldSecond)). All (λ i. Contains p.book.sure i ⊎ IsShownLost p.log p.next i) (history_by rule start (limit_of p.log) told [] ss)) (sym spans)
    (All-weaker (λ (i : HistoryMinute). Contains (closed_history rule start p.log told f.ended) i ⊎ IsLostBy p.log p.next i.minute) (λ i. Contains p.book.sure i ⊎ IsShownLost p.log p.next i)
    (λ i is. ⊎_elim (λ at. inl (subst (λ (is : List HistoryMinute). Contains is i) closed at)) (λ lost. inr (lost-shown p.log p.next i lost)) is)
    (history_by rule start (limit_of p.log) told [] f.ended)
    (ended-or_lost rule start p.log (take p.unfound p.log.breaks) told p.next (λ q is. tells-front q p.unfound p.log.breaks is) from [] f.ended apart shut.known))
