-- Where no call on the unit failed, each of its images at the end has every minute of the history.
use Rattle.std.proofs.Common.{◌≡◌, ◌⊎◌, inl, inr, ⊎_elim, ℕ, ◌+◌, ◌/◌, ◌≤◌, Bool, true, false, cond, Option, Some, None, List, [], ◌∷◌, ◌++◌, Contains, length, map, filter, refl, ap, sym, subst, ◌∙◌, arith, length-append}
use Rattle.std.proofs.lemmas.List.{append-nil}
use Rattle.std.proofs.lemmas.List.Elements.{Contains-append_left, Contains-append_right, Contains-push, Contains-push_cases, Contains-append_cases}
use Rattle.device_rule.specs.trace_model.Trace.{TraceSecond}
use Rattle.device_rule.specs.run_model.declared.Device.{Device}
use Rattle.device_rule.specs.run_model.declared.Device.TheVariants.{Unit as Recorder, CardA, CardB}
use Rattle.device_rule.specs.minute_model.declared.Rule.{Rule}
use Rattle.device_rule.specs.minute_model.declared.Minute.{Minute}
use Rattle.tach_media.specs.Medium.{State, IsCoherent}
use Rattle.device_rule.specs.unit_model.Days.{ShownDay}
use Rattle.device_rule.specs.unit_model.Image.{recorded}
use Rattle.device_rule.specs.log_model.declared.lines.Break.{Break}
use Rattle.device_rule.specs.log_model.declared.lines.Mark.{Mark}
use Rattle.device_rule.specs.log_model.Log.{RunLog}
use Rattle.device_rule.specs.log_model.Course.{ToldSecond, went}
use Rattle.device_rule.specs.log_model.Spans.{spans_of, AreInOrder}
use Rattle.device_rule.specs.log_model.Causes.{second_of, cuts}
use Rattle.device_rule.specs.history_model.Minutes.{HistoryMinute}
use Rattle.device_rule.specs.history_model.Presence.{Start}
use Rattle.device_rule.specs.history_model.History.{decided_of, unit_history, with_lost}
use Rattle.device_rule.specs.history_model.Growth.{Rises}
use Rattle.device_rule.specs.history_model.Completeness.{IsMarked, FailedCutIn}
use Rattle.device_rule.proofs.history_model.Told.{rises}
use Rattle.device_rule.proofs.history_model.Decided.{unit-decided, rises-split, nothing-was-lost}
use Rattle.device_rule.specs.Filling.{FillsDays}
use Rattle.safety_model.specs.Recording.{MayCome}
use Rattle.safety_model.specs.Unit.{is_of, marks_of, UnitShows, UnitMarkHolds, UnitSafe, HasEachDecided, IsFilled}

-- MARKS of a device
kept-by : (p : Mark → Bool) (marks : List Mark) (m : Mark) → Contains marks m → p m ≡ true → Contains (filter p marks) m
kept-by p [] m at is = absurd (omega (arith, at.1))
kept-by p (x ∷ marks) m at is = ⊎_elim
    (λ first. ⊎_elim (λ none. absurd (omega (arith, none.1))) (λ (same : x ≡ m). here same (p x) refl) (Contains-push_cases [] x m first))
    (λ rest. there (p x) (kept-by p marks m rest is))
    (Contains-append_cases (x ∷ []) marks m at)
  where
    there : (b : Bool) → Contains (filter p marks) m → Contains (cond b (x ∷ filter p marks) (filter p marks)) m
    there true rest = Contains-append_right (x ∷ []) (filter p marks) m rest
    there false rest = rest

    here : x ≡ m → (b : Bool) → p x ≡ b → Contains (cond b (x ∷ filter p marks) (filter p marks)) m
    here same true e = Contains-append_left (x ∷ []) (filter p marks) m (0, omega arith, same)
    here same false e = absurd (let clash : false ≡ true = sym e ∙ ap p same ∙ is in cc)

is-itself : (d : Device) → is_of d d ≡ true
is-itself Recorder = refl
is-itself CardA = refl
is-itself CardB = refl

pub mark-of : (device : Device) (marks : List Mark) (minute : ℕ) → IsMarked marks device minute → (m : Mark) × Contains (marks_of device marks) m × (m.minute ≡ minute)
mark-of device marks minute k = (k.0, kept-by (λ (m : Mark). is_of device m.device) marks k.0 k.1 (ap (is_of device) k.2 ∙ is-itself device), k.3)

pub no-failure : (log : RunLog) → cuts true log ≡ [] → (u : ℕ) → FailedCutIn log u → ⊥
no-failure log none u c = let at : Contains {X = ℕ} [] u = subst (λ (bs : List Break). Contains (map second_of bs) u) none c in omega (arith, at.1)

-- the last of a list, where there is one
record HasLast {X : Type 0} (xs : List X) : Type 0 where
  front : List X
  last : X
  are : xs ≡ front ++ last ∷ []

last-of : {X : Type 0} (xs : List X) → (xs ≡ []) ⊎ HasLast xs
last-of [] = inl refl
last-of {X} (x ∷ xs) = ⊎_elim
    (λ none. inr (record { front = []; last = x; are = ap (λ (ys : List X). x ∷ ys) none }))
    (λ some. inr (record { front = x ∷ some.front; last = some.last; are = ap (λ (ys : List X). x ∷ ys) some.are }))
    (last-of xs)

-- THE UNIT
none-past : (xs rest : List HistoryMinute) → [] ≡ xs ++ rest → xs ≡ []
none-past [] rest is = refl
none-past (x ∷ xs) rest is = absurd (cc)

module _ (rule : Rule) (start : Start) (log : RunLog) (n : ℕ) (ss : List TraceSecond) (order : AreInOrder n ss) (days : List ShownDay) (marks : List Mark) (since : ℕ) (unit : State) (coherent : IsCoherent unit) (early : since ≤ unit.clock)
    (marked : (span : List ToldSecond) (d : Minute) → Contains (spans_of (went log ss).told) span → Contains (decided_of rule span) d → IsMarked marks Recorder d.minute)
    (safe : UnitSafe days (unit_history rule start log (went log ss).told) (with_lost rule start log (went log ss).told) marks since unit) where
  abbrev told : List ToldSecond
  told = (went log ss).told

  abbrev past : List HistoryMinute
  past = unit_history rule start log (went log ss).told

  abbrev lost : List (List HistoryMinute)
  lost = with_lost rule start log (went log ss).told

  record IsHeld (minute : ℕ) : Type 0 where
    mark : Mark
    holds : UnitMarkHolds days past lost unit mark
    same : mark.minute ≡ minute

  held : (minute : ℕ) → IsMarked marks Recorder minute → IsHeld minute
  held minute k = let m = mark-of Recorder marks minute k in record { mark = m.0; holds = safe.marked m.0 m.1; same = m.2 }

  pub in-history : HasEachDecided rule (went log ss).told (unit_history rule start log (went log ss).told)
  in-history span d at in_ = let h = held d.minute (marked span d at in_) in (h.holds.i, h.holds.stands, h.holds.minute ∙ h.same)

  lost-none : with_lost rule start log (went log ss).told ≡ []
  lost-none = nothing-was-lost rule start log n ss order in-history

  never : (xs : List HistoryMinute) → Contains (with_lost rule start log (went log ss).told) xs → ⊥
  never xs at = let none : Contains {X = List HistoryMinute} [] xs = subst (λ (ls : List (List HistoryMinute)). Contains ls xs) lost-none at in omega (arith, none.1)

  rising : Rises (n / 60) (unit_history rule start log (went log ss).told) ((n + length ss) / 60)
  rising = rises n rule start log ss order

  -- an image that shows the whole history has it in its days
  filled : (x : List ℕ) (s : UnitShows days past lost x) → s.some ≡ past → IsFilled days past x
  filled x s all = go s.next (subst (λ (is : List HistoryMinute). MayCome past lost is s.next) all s.comes) (subst (λ (is : List HistoryMinute). FillsDays days s.next is (recorded x)) all s.days)
    where
      go : (next : Option HistoryMinute) → MayCome past lost past next → FillsDays days next past (recorded x) → IsFilled days past x
      go None comes (inl whole) = whole
      go None comes (inr less) = absurd (let no : false ≡ true = less.0 in cc)
      go (Some i) (inl front) fills = absurd (
          let long = ap length front.1 in
          let a = length-append (past ++ i ∷ []) front.0 in
          let b = length-append past (i ∷ []) in omega (arith, long, a, b))
      go (Some i) (inr gone) fills = absurd (never (past ++ i ∷ []) gone)

  pub unit-whole : (x : List ℕ) → unit.may_leave x → IsFilled days (unit_history rule start log (went log ss).told) x
  unit-whole x left = ⊎_elim empty some (last-of past)
    where
      empty : past ≡ [] → IsFilled days past x
      empty none =
          let s = safe.minutes x (coherent.counts_now since x early left) in
          filled x s (⊎_elim
          (λ front. none-past s.some front.0 (sym none ∙ front.1) ∙ sym none)
          (λ gone. absurd (never s.some gone))
          s.passed)

      some : HasLast past → IsFilled days past x
      some l =
          let at : Contains past l.last = subst (λ (is : List HistoryMinute). Contains is l.last) (sym l.are) (Contains-push l.front l.last) in
          let from_ = unit-decided rule start log told l.last at in
          let h = held from_.decided.minute (marked from_.span from_.decided from_.among from_.within) in
          let shown = h.holds.shown x (coherent.counts_now h.mark.clock x h.holds.clock left) in
          let same : h.holds.i.minute ≡ l.last.minute = h.holds.minute ∙ h.same ∙ from_.same in
          filled x shown.0 (⊎_elim
          (λ front. whole shown.0 front.0 front.1 h.holds.i shown.1 same)
          (λ gone. absurd (never shown.0.some gone))
          shown.0.passed)
        where
          -- nothing is later than the last one
          latest : (j : HistoryMinute) → Contains past j → j.minute ≤ l.last.minute
          latest j at = ⊎_elim
              (λ before. let lt = rises-split (n / 60) ((n + length ss) / 60) l.front (l.last ∷ []) j l.last (subst (λ (is : List HistoryMinute). Rises (n / 60) is ((n + length ss) / 60)) l.are rising) before (Contains-push [] l.last) in omega (arith, lt))
              (λ (is : l.last ≡ j). let e : j.minute ≡ l.last.minute = ap (λ (y : HistoryMinute). y.minute) (sym is) in omega (arith, e))
              (Contains-push_cases l.front l.last j (subst (λ (is : List HistoryMinute). Contains is j) l.are at))

          whole : (s : UnitShows days past lost x) (rest : List HistoryMinute) → past ≡ s.some ++ rest → (i : HistoryMinute) → Contains s.some i → i.minute ≡ l.last.minute → s.some ≡ past
          whole s [] is i in_ same = sym (is ∙ append-nil s.some)
          whole s (j ∷ rest) is i in_ same = absurd (
              let lt = rises-split (n / 60) ((n + length ss) / 60) s.some (j ∷ rest) i j (subst (λ (is_ : List HistoryMinute). Rises (n / 60) is_ ((n + length ss) / 60)) is rising) in_ (Contains-append_left (j ∷ []) rest j (Contains-push [] j)) in
              let le = latest j (subst (λ (is_ : List HistoryMinute). Contains is_ j) (sym is) (Contains-append_right s.some (j ∷ rest) j (Contains-append_left (j ∷ []) rest j (Contains-push [] j)))) in
              omega (arith, lt, le, same))
