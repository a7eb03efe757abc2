-- The minutes that a second decides have ended before it: the last second of each lies in the power span, and what was travelled by then is what was
-- driven in the span up to it.
use Rattle.std.proofs.Common.{◌≡◌, ◌∙◌, ◌⊎◌, inl, inr, ⊎_elim, ℕ, zero, suc, ◌+◌, ◌-◌, ◌*◌, ◌/◌, ◌<◌, ◌≤◌, Bool, true, false, cond, nat_lt, Option, Some, None, List, [], ◌∷◌, ◌++◌, Contains, length, map, filter, sum, sum_by, refl, ap, sym, subst, arith, append-nil, length-append}
use Rattle.std.proofs.lemmas.Bool.{cases_lt}
use Rattle.std.proofs.lemmas.List.{length-map}
use Rattle.std.proofs.lemmas.Bool.Decides.{nat_tests}
use Rattle.std.proofs.lemmas.List.Elements.{filter-append, Contains-append_right, Contains-append_cases, Contains-push_cases}
use Rattle.std.proofs.lemmas.List.Sums.{sum_by-cons}
use Rattle.trace_model.specs.Trace.{TraceSecond}
use Rattle.unit_model.specs.minute_model.declared.Minute.{Minute}
use Rattle.unit_model.specs.minute_model.declared.Rule.{Rule}
use Rattle.unit_model.specs.minute_model.declared.Rule.TheVariants.{Original, Amended}
use Rattle.unit_model.specs.minute_model.Minute.{minutes_ahead}
use Rattle.unit_model.specs.minute_model.Second.{Second}
use Rattle.unit_model.specs.minute_model.Span.{Span, fed, end_of, decided_in, ungiven_of, AreNumbered, AreSettled, count_from}
use Rattle.unit_model.proofs.minute_model.Counted.{decided-minutes, ungiven-most, settled-more}
use Rattle.log_model.specs.Log.{RunLog, Phase}
use Rattle.log_model.specs.Course.{ToldSecond, Visit, Went, went}
use Rattle.log_model.specs.Spans.{spans_with, spans_of, seconds_in, first_in, end_in, AreInOrder, AreApart}
use Rattle.log_model.proofs.Growth.{went-more}
use Rattle.log_model.proofs.Spanning.{spanned, spans-more as spans-one}
use Rattle.device_calls.specs.history_model.Growth.{as_span, picking}
use Rattle.device_calls.specs.history_model.History.{decided_of}
use Rattle.device_calls.proofs.history_model.Deciding.{counted, span-settled}
use Rattle.device_calls.proofs.history_model.Growing.{apart-last}
use Rattle.device_calls.specs.run_unit_course.Followed.{Lit as IsLit, as_spans}
use Rattle.device_calls.specs.run_unit_course.Turn.{span_at}
use Rattle.device_calls.specs.safety_model.Safe.{Devices}
use Rattle.run_events.specs.run_course.Followed.{BookFollowsRun, IsSupplied}
use Rattle.run_events.specs.run_course.Seconds.{next_told}
use Rattle.run_events.proofs.run_course.Steps.{with-supply, span-end}
use Rattle.run_events.proofs.run_course.Told.{IsLitAs, lit-told, lit-starts, spans-lit}
use Rattle.run_events.specs.run_course.Kept.{settled_times, fed_where}
use Rattle.run_minutes.specs.run_promise.Origin.{Origin, rule_of, start_at, first_of}
use Rattle.run_note_record.proofs.Stored.{mapped, travelled-is}
use Rattle.run_record.specs.Recorded.{Values}
use Rattle.run_record.specs.Within.{RecordInSecond, course_in}
use Rattle.run_acts.specs.Truths.{driven_in}
use Rattle.run_acts.proofs.RingedSecond.{power-here}

-- ---- numbers that are counted

in-cons : {X : Type 0} (x : X) (xs : List X) (y : X) → Contains (x ∷ xs) y → (x ≡ y) ⊎ Contains xs y
in-cons x xs y at = ⊎_elim
    (λ (here : Contains (x ∷ []) y). ⊎_elim (λ (none : Contains [] y). absurd (omega (arith, none.1))) (λ (same : x ≡ y). inl same) (Contains-push_cases [] x y here))
    (λ (there : Contains xs y). inr there)
    (Contains-append_cases (x ∷ []) xs y at)

counted-range : (a n m : ℕ) → Contains (count_from a n) m → (a ≤ m) × (m < a + n)
counted-range a zero m at = absurd (omega (arith, at.1))
counted-range a (suc n) m at = ⊎_elim
    (λ (same : a ≡ m). (omega (arith, same), omega (arith, same)))
    (λ (there : Contains (count_from (a + 1) n) m). let w = counted-range (a + 1) n m there in let low = w.0 in let high = w.1 in (omega (arith, low), omega (arith, high)))
    (in-cons a (count_from (a + 1) n) m at)

-- the decided minutes of a span: none before its first second, and none that is not decided yet
pub decided-range : (sp : Span) → AreNumbered sp.first sp.seconds → AreSettled sp → (m : Minute) → Contains (decided_in sp) m → (sp.first / 60 ≤ m.minute) × (m.minute < ungiven_of sp)
decided-range sp numbered settled_ m at =
    let there : Contains (count_from (sp.first / 60) (ungiven_of sp - sp.first / 60)) m.minute = subst (λ (ns : List ℕ). Contains ns m.minute) (decided-minutes sp numbered settled_) (mapped (λ (x : Minute). x.minute) (decided_in sp) m at) in
    let w = counted-range (sp.first / 60) (ungiven_of sp - sp.first / 60) m.minute there in
    let low : sp.first / 60 ≤ m.minute = w.0 in
    let high : m.minute < sp.first / 60 + (ungiven_of sp - sp.first / 60) = w.1 in
    (low, omega (arith, high))

-- so of a power span: none before its first second, and each has ended with it
pub decided-within : (rule : Rule) (span : List ToldSecond) → AreNumbered (first_in span) (seconds_in span) → (d : Minute) → Contains (decided_of rule span) d → (first_in span / 60 ≤ d.minute) × (d.minute < end_in span / 60)
decided-within rule span numbered d at =
    let all = span-settled rule span numbered in
    let range = decided-range (as_span rule span) numbered all d at in
    let most = ungiven-most (as_span rule span) all in
    let n = counted span in
    let low : first_in span / 60 ≤ d.minute = range.0 in
    let high : d.minute < ungiven_of (as_span rule span) = range.1 in
    (low, omega (arith, high, most, n))

-- and of spans none before the first
pub decided-late : (rule : Rule) (from until : ℕ) (spans : List (List ToldSecond)) → AreApart from spans until → (span : List ToldSecond) (d : Minute) → Contains spans span → Contains (decided_of rule span) d → from / 60 ≤ d.minute
decided-late rule from until [] apart span d at in_ = absurd (omega (arith, at.1))
decided-late rule from until (x ∷ spans) apart span d at in_ =
    let begins : from ≤ first_in x = apart.1 in
    ⊎_elim
    (λ (is : x ≡ span). let low = (decided-within rule x apart.2 d (subst (λ (y : List ToldSecond). Contains (decided_of rule y) d) (sym is) in_)).0 in omega (arith, begins, low))
    (λ (there : Contains spans span). let rest : (first_in x + length x) / 60 ≤ d.minute = decided-late rule (end_in x) until spans apart.3 span d there in_ in omega (arith, begins, rest))
    (in-cons x spans span at)

-- ---- a span as it is fed

ahead-some : (rule : Rule) → 1 ≤ minutes_ahead rule
ahead-some Original = omega arith
ahead-some Amended = omega arith

-- what it has decided has ended before its last second
fed-low : (span : Span) (speed : ℕ) → AreSettled span → ungiven_of (fed span speed) ≤ end_of span / 60
fed-low span speed all =
    let most = ungiven-most span all in
    let some = ahead-some span.rule in
    let n = length-append span.seconds (record { number = end_of span; speed = speed; picks = span.pending } ∷ []) in
    omega (arith, most, some, n)

where-low : (speed : Option ℕ) (span : Span) → AreSettled span → ungiven_of (fed_where speed span) ≤ end_of span / 60
where-low None span all = ungiven-most span all
where-low (Some speed) span all = fed-low span speed all

where-first : (speed : Option ℕ) (span : Span) → (fed_where speed span).first ≡ span.first
where-first None span = refl
where-first (Some speed) span = refl

under : (a b : ℕ) → a < b → nat_lt a b ≡ true
under a b lt = grind (arith, nat_tests)

over : (a b : ℕ) → b ≤ a → nat_lt a b ≡ false
over a b le = grind (arith, nat_tests)

-- the seconds before a number that has been reached
where-seconds : (speed : Option ℕ) (span : Span) (k : ℕ) → k ≤ end_of span → filter (λ (x : Second). nat_lt x.number k) (fed_where speed span).seconds ≡ filter (λ (x : Second). nat_lt x.number k) span.seconds
where-seconds None span k le = refl
where-seconds (Some speed) span k le =
    let x : Second = record { number = end_of span; speed = speed; picks = span.pending } in
    filter-append (λ (x : Second). nat_lt x.number k) span.seconds (x ∷ [])
    ∙ ap (λ (b : Bool). filter (λ (x : Second). nat_lt x.number k) span.seconds ++ cond {A = List Second} b (x ∷ []) []) (over (end_of span) k le)
    ∙ append-nil (filter (λ (x : Second). nat_lt x.number k) span.seconds)

-- settlings change none of that
times-settled : (n : ℕ) (span : Span) → AreSettled span → AreSettled (settled_times n span)
times-settled zero span all = all
times-settled (suc n) span all = settled-more (settled_times n span) (times-settled n span all)

times-first : (n : ℕ) (span : Span) → (settled_times n span).first ≡ span.first
times-first zero span = refl
times-first (suc n) span = times-first n span

times-seconds : (n : ℕ) (span : Span) → (settled_times n span).seconds ≡ span.seconds
times-seconds zero span = refl
times-seconds (suc n) span = times-seconds n span

times-end : (n : ℕ) (span : Span) → end_of (settled_times n span) ≡ end_of span
times-end zero span = refl
times-end (suc n) span = times-end n span

at-seconds : (rule : Rule) (next : ℕ) (span : List ToldSecond) → (span_at rule next span).seconds ≡ seconds_in span
at-seconds rule next [] = refl
at-seconds rule next (t ∷ span) = refl

-- ---- what it has decided

decided-at : (rule : Rule) (next : ℕ) (span : List ToldSecond) → decided_in (span_at rule next span) ≡ decided_of rule span
decided-at rule next [] = refl
decided-at rule next (t ∷ span) = refl

count-long : (a n : ℕ) → length (count_from a n) ≡ n
count-long a zero = refl
count-long a (suc n) = ap suc (count-long (a + 1) n)

-- of minutes that are counted those behind some are no earlier
behind-low : (xs ys : List Minute) (a n : ℕ) → map (λ (x : Minute). x.minute) (xs ++ ys) ≡ count_from a n → (m : Minute) → Contains ys m → a + length xs ≤ m.minute
behind-low [] ys a n is m at =
    let w = counted-range a n m.minute (subst (λ (ns : List ℕ). Contains ns m.minute) is (mapped (λ (x : Minute). x.minute) ys m at)) in
    let low = w.0 in
    omega (arith, low)
behind-low (x ∷ xs) ys a zero is m at = absurd (cc)
behind-low (x ∷ xs) ys a (suc n) is m at =
    let rest : map (λ (y : Minute). y.minute) (xs ++ ys) ≡ count_from (a + 1) n = cc in
    let low = behind-low xs ys (a + 1) n rest m at in
    omega (arith, low)

-- ---- the span that goes on, as a second begins

pub record StandsAt (sp : Span) (next : ℕ) : Type 0 where
  pub numbered : AreNumbered sp.first sp.seconds
  pub settled : AreSettled sp
  pub end : end_of sp ≡ next

pub span-stands : (rule : Rule) (log : RunLog) (from : ℕ) (done : List TraceSecond) (ended : List (List ToldSecond)) (span : List ToldSecond) (next : ℕ) → AreInOrder from done → next ≡ from + length done →
    IsSupplied (IsLit span) (went log done).before next → spans_of (went log done).told ≡ ended ++ as_spans span → StandsAt (span_at rule next span) next
span-stands rule log from done ended [] next order number power are = record { numbered = tt; settled = tt; end = omega arith }
span-stands rule log from done ended (t ∷ span) next order number power are =
    let apart = apart-last from (from + length done) ended (t ∷ span) (subst (λ (ss : List (List ToldSecond)). AreApart from ss (from + length done)) are (spanned log from done order).apart) in
    let all = counted (t ∷ span) in
    let end_ = span-end log from done ended t span next order number power.running are in
    record { numbered = apart.1; settled = span-settled rule (t ∷ span) apart.1; end = omega (arith, all, end_) }

-- ---- a second of a span

late-none : (a : ℕ) (xs : List Second) (k : ℕ) → AreNumbered a xs → k ≤ a → filter (λ (x : Second). nat_lt x.number k) xs ≡ []
late-none a [] k numbered le = refl
late-none a (x ∷ xs) k numbered le =
    let is : x.number ≡ a = numbered.0 in
    ap (λ (b : Bool). cond b (x ∷ filter (λ (y : Second). nat_lt y.number k) xs) (filter (λ (y : Second). nat_lt y.number k) xs)) (over x.number k (omega (arith, is, le)))
    ∙ late-none (a + 1) xs k numbered.1 (omega (arith, le))

-- it stands behind some and before others, and those up to it are these
pub second-lies : (a : ℕ) (span : List ToldSecond) → AreNumbered a (seconds_in span) → (u : ℕ) → a ≤ u → u < a + length span →
    (front : List ToldSecond) × (t : ToldSecond) × (behind : List ToldSecond) × (span ≡ front ++ t ∷ behind) × (t.second.number ≡ u) × (filter (λ (x : Second). nat_lt x.number (u + 1)) (seconds_in span) ≡ seconds_in (front ++ t ∷ []))
second-lies a [] numbered u from to = absurd (omega (arith, from, to))
second-lies a (x ∷ span) numbered u from to =
    let is : x.second.number ≡ a = numbered.0 in
    let first : filter (λ (y : Second). nat_lt y.number (u + 1)) (x.second ∷ seconds_in span) ≡ x.second ∷ filter (λ (y : Second). nat_lt y.number (u + 1)) (seconds_in span) =
    ap (λ (b : Bool). cond b (x.second ∷ filter (λ (y : Second). nat_lt y.number (u + 1)) (seconds_in span)) (filter (λ (y : Second). nat_lt y.number (u + 1)) (seconds_in span))) (under x.second.number (u + 1) (omega (arith, is, from))) in
    ⊎_elim
    (λ (later : a < u).
    let r = second-lies (a + 1) span numbered.1 u (omega (arith, later)) (omega (arith, to)) in
    (x ∷ r.0, r.1, r.2, ap (λ (l : List ToldSecond). x ∷ l) r.3, r.4, first ∙ ap (λ (l : List Second). x.second ∷ l) r.5))
    (λ (here : u ≤ a). ([], x, span, refl, omega (arith, is, from, here), first ∙ ap (λ (l : List Second). x.second ∷ l) (late-none (a + 1) (seconds_in span) (u + 1) numbered.1 (omega (arith, here)))))
    (cases_lt a u)

sum-of : (xs : List Second) → sum (map (λ (x : Second). x.speed) xs) ≡ sum_by (λ (x : Second). x.speed) xs
sum-of [] = refl
sum-of (x ∷ xs) = sum_by-cons (λ (n : ℕ). n) x.speed (map (λ (y : Second). y.speed) xs) ∙ ap (λ (n : ℕ). x.speed + n) (sum-of xs) ∙ sym (sum_by-cons (λ (y : Second). y.speed) x xs)

-- ---- within a second

module _ (o : Origin) (done : List TraceSecond) (s : TraceSecond) (at : Phase) (waits : List Visit) (speed : Option ℕ) (rest : List Minute) (v : Values) (d : Devices) (w : RecordInSecond o done s at waits speed rest v d) where
  pub followed-lit : BookFollowsRun (rule_of o) (start_at o) o.from (first_of o) done (record w.b.run { supply = IsLit w.b.span })
  followed-lit = with-supply (rule_of o) (start_at o) o.from (first_of o) done w.b.run (IsLit w.b.span) w.lit w.began.followed

  -- the span as the second began
  abbrev old : Span
  old = span_at (rule_of o) w.b.run.next w.b.span

  -- with what was selected and settled since
  abbrev now : Span
  now = picking (course_in w.b done s at v.log).picks (settled_times w.decided.times (span_at (rule_of o) w.b.run.next w.b.span))

  pub old-stands : StandsAt (span_at (rule_of o) w.b.run.next w.b.span) w.b.run.next
  old-stands = span-stands (rule_of o) w.b.run.log o.from done followed-lit.ended w.b.span w.b.run.next followed-lit.order followed-lit.next followed-lit.power followed-lit.spans

  now-settled : AreSettled now
  now-settled = times-settled w.decided.times old old-stands.settled

  now-end : end_of now ≡ w.b.run.next
  now-end = times-end w.decided.times old ∙ old-stands.end

  pub first-is : w.sp.first ≡ (span_at (rule_of o) w.b.run.next w.b.span).first
  first-is = ap (λ (x : Span). x.first) w.decided.span_is ∙ where-first speed now ∙ times-first w.decided.times old

  -- what it decides is no minute before the span, and none that has not ended
  pub minute-range : (m : Minute) → Contains (w.ds ++ rest) m → ((span_at (rule_of o) w.b.run.next w.b.span).first / 60 ≤ m.minute) × (m.minute < s.number / 60)
  minute-range m among =
      let there : Contains (decided_in w.sp) m = subst (λ (ms : List Minute). Contains ms m) (sym w.decided.decided) (Contains-append_right (decided_of (rule_of o) w.b.span) (w.ds ++ rest) m among) in
      let range = decided-range w.sp w.minutes.numbered w.minutes.settled m there in
      let most : ungiven_of w.sp ≤ end_of now / 60 = subst (λ (x : Span). ungiven_of x ≤ end_of now / 60) (sym w.decided.span_is) (where-low speed now now-settled) in
      let low : w.sp.first / 60 ≤ m.minute = range.0 in
      let high : m.minute < ungiven_of w.sp = range.1 in
      let reached : end_of now / 60 ≡ s.number / 60 = ap (λ (n : ℕ). n / 60) (now-end ∙ sym w.moment.number) in
      (subst (λ (n : ℕ). n / 60 ≤ m.minute) first-is low, subst (λ (n : ℕ). m.minute < n) reached (before (ungiven_of w.sp) (end_of now / 60) m.minute high most))
    where
      before : (a b m : ℕ) → m < a → a ≤ b → m < b
      before a b m lt le = omega (arith, lt, le)

  -- nor one that was decided as the second began
  pub fresh-low : (m : Minute) → Contains (w.ds ++ rest) m → ungiven_of (span_at (rule_of o) s.number w.b.span) ≤ m.minute
  fresh-low m among =
      let a : ℕ = old.first / 60 in
      let was : map (λ (x : Minute). x.minute) (decided_of (rule_of o) w.b.span) ≡ count_from a (ungiven_of old - a) =
      ap (λ (ms : List Minute). map (λ (x : Minute). x.minute) ms) (sym (decided-at (rule_of o) w.b.run.next w.b.span)) ∙ decided-minutes old old-stands.numbered old-stands.settled in
      let are : map (λ (x : Minute). x.minute) (decided_of (rule_of o) w.b.span ++ (w.ds ++ rest)) ≡ count_from a (ungiven_of w.sp - a) =
      ap (λ (ms : List Minute). map (λ (x : Minute). x.minute) ms) (sym w.decided.decided)
      ∙ decided-minutes w.sp w.minutes.numbered w.minutes.settled
      ∙ ap (λ (n : ℕ). count_from (n / 60) (ungiven_of w.sp - n / 60)) first-is in
      let low : a + length (decided_of (rule_of o) w.b.span) ≤ m.minute = behind-low (decided_of (rule_of o) w.b.span) (w.ds ++ rest) a (ungiven_of w.sp - a) are m among in
      let many : length (decided_of (rule_of o) w.b.span) ≡ ungiven_of old - a = sym (length-map (decided_of (rule_of o) w.b.span) (λ (x : Minute). x.minute)) ∙ ap length was ∙ count-long a (ungiven_of old - a) in
      subst (λ (u : ℕ). ungiven_of (span_at (rule_of o) u w.b.span) ≤ m.minute) (sym w.moment.number) (least a (length (decided_of (rule_of o) w.b.span)) (ungiven_of old) m.minute low many)
    where
      least : (a n u m : ℕ) → a + n ≤ m → n ≡ u - a → u ≤ m
      least a n u m low many = omega (arith, low, many)

  -- the seconds before one that has come
  seconds-to : (k : ℕ) → k ≤ s.number → filter (λ (x : Second). nat_lt x.number k) w.sp.seconds ≡ filter (λ (x : Second). nat_lt x.number k) (seconds_in w.b.span)
  seconds-to k le =
      let reached : k ≤ end_of now = subst (λ (n : ℕ). k ≤ n) (w.moment.number ∙ sym now-end) le in
      ap (λ (x : Span). filter (λ (y : Second). nat_lt y.number k) x.seconds) w.decided.span_is
      ∙ where-seconds speed now k reached
      ∙ ap (λ (xs : List Second). filter (λ (y : Second). nat_lt y.number k) xs) (times-seconds w.decided.times old ∙ at-seconds (rule_of o) w.b.run.next w.b.span)

  -- THE END OF A MINUTE that it decides lies in the span
  pub minute-ends : (m : Minute) → Contains (w.ds ++ rest) m →
      (front : List ToldSecond) × (t : ToldSecond) × (behind : List ToldSecond) × (w.b.span ≡ front ++ t ∷ behind) × (t.second.number ≡ 60 * m.minute + 59) × (m.travelled ≡ driven_in (front ++ t ∷ []))
  minute-ends m among = by w.b.span refl
    where
      by : (span : List ToldSecond) → w.b.span ≡ span → (front : List ToldSecond) × (t : ToldSecond) × (behind : List ToldSecond) × (w.b.span ≡ front ++ t ∷ behind) × (t.second.number ≡ 60 * m.minute + 59) × (m.travelled ≡ driven_in (front ++ t ∷ []))
      by [] is =
          let range = minute-range m among in
          let low : w.b.run.next / 60 ≤ m.minute = subst (λ (l : List ToldSecond). (span_at (rule_of o) w.b.run.next l).first / 60 ≤ m.minute) is range.0 in
          let high = range.1 in
          let number = w.moment.number in
          absurd (omega (arith, low, high, number))
      by (x ∷ span) is =
          let range = minute-range m among in
          let low : first_in (x ∷ span) / 60 ≤ m.minute = subst (λ (l : List ToldSecond). (span_at (rule_of o) w.b.run.next l).first / 60 ≤ m.minute) is range.0 in
          let high = range.1 in
          let number = w.moment.number in
          let stands : StandsAt (span_at (rule_of o) w.b.run.next (x ∷ span)) w.b.run.next = subst (λ (l : List ToldSecond). StandsAt (span_at (rule_of o) w.b.run.next l) w.b.run.next) is old-stands in
          let end_ = stands.end in
          let all = counted (x ∷ span) in
          let lies = second-lies (first_in (x ∷ span)) (x ∷ span) stands.numbered (60 * m.minute + 59) (omega (arith, low)) (omega (arith, high, number, end_, all)) in
          let there : Contains (decided_in w.sp) m = subst (λ (ms : List Minute). Contains ms m) (sym w.decided.decided) (Contains-append_right (decided_of (rule_of o) w.b.span) (w.ds ++ rest) m among) in
          let same : 60 * (m.minute + 1) ≡ 60 * m.minute + 59 + 1 = omega arith in (
            lies.0,
            lies.1,
            lies.2,
            is ∙ lies.3,
            lies.4,
            sym (travelled-is w.sp.rule w.sp.seconds w.sp.settlings m there)
                ∙ ap (λ (xs : List Second). sum (map (λ (y : Second). y.speed) xs))
                (seconds-to (60 * (m.minute + 1)) (omega (arith, high)) ∙ (λ i. filter (λ (y : Second). nat_lt y.number (same i)) (seconds_in (is i))) ∙ lies.5)
                ∙ sum-of (seconds_in (lies.0 ++ lies.1 ∷ [])),
          )

  -- ---- WITH THIS SECOND the span goes on

  pub this-lit : IsLitAs w.b.run.log (went w.b.run.log done).before s (next_told w.b.run.log done s)
  this-lit = lit-told w.b.run.log (went w.b.run.log done).before s (power-here o done s at waits speed rest v d w)

  pub spans-now : spans_of (went w.b.run.log (done ++ s ∷ [])).told ≡ followed-lit.ended ++ (w.b.span ++ next_told w.b.run.log done s ∷ []) ∷ []
  spans-now =
      ap (λ (g : Went). spans_of g.told) (went-more w.b.run.log done s)
      ∙ spans-one (went w.b.run.log done).told (next_told w.b.run.log done s)
      ∙ ap (λ (ss : List (List ToldSecond)). spans_with ss (next_told w.b.run.log done s)) followed-lit.spans
      ∙ spans-lit followed-lit.ended w.b.span (next_told w.b.run.log done s) this-lit.lit (this-lit.starts ∙ lit-starts w.b.span (went w.b.run.log done).before w.b.run.next followed-lit.power)
