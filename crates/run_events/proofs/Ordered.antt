-- A second with power comes right behind those of its own span.
use Rattle.std.proofs.Common.{◌≡◌, ◌⊎◌, inl, inr, ℕ, ◌+◌, Bool, true, false, cond, not, ◌&&◌, List, [], ◌∷◌, ◌++◌, length, refl, ap, sym, subst, ◌∙◌, arith, length-append}
use Rattle.trace_model.specs.Trace.{TraceSecond}
use Rattle.log_model.specs.Log.{RunLog}
use Rattle.log_model.specs.Spans.{AreInOrder}
use Rattle.log_model.specs.Course.{ToldSecond, Before, Went, has_power, second_told, before_next, went}
use Rattle.log_model.proofs.Growth.{went-more}
use Rattle.event_model.specs.Events.{Seen, number_of, last_number, seen_of, seen_on, seen_with, seen_spans}
use Rattle.run_events.specs.Seconds.{last_of, IsBehind, seen_next}
use Rattle.run_events.proofs.Growing.{seen-more, spans-more}
use Rattle.run_events.proofs.Later.{told-number}
use Rattle.run_events.proofs.Sure.{last-push}

-- seconds in order, from behind
order-last : (from : ℕ) (front : List TraceSecond) (r : TraceSecond) → AreInOrder from (front ++ r ∷ []) → r.number ≡ from + length front
order-last from [] r h = let is : r.number ≡ from = h.0 in omega (arith, is)
order-last from (s ∷ front) r h = let rest : r.number ≡ from + 1 + length front = order-last (from + 1) front r h.1 in omega (arith, rest)

snoc : (ss : List TraceSecond) → (ss ≡ []) ⊎ ((front : List TraceSecond) × (r : TraceSecond) × (ss ≡ front ++ r ∷ []))
snoc [] = inl refl
snoc (s ∷ ss) = by (snoc ss)
  where
    by : (ss ≡ []) ⊎ ((front : List TraceSecond) × (r : TraceSecond) × (ss ≡ front ++ r ∷ [])) → (s ∷ ss ≡ []) ⊎ ((front : List TraceSecond) × (r : TraceSecond) × (s ∷ ss ≡ front ++ r ∷ []))
    by (inl is) = inr ([], s, ap (λ (l : List TraceSecond). s ∷ l) is)
    by (inr (front, r, is)) = inr (s ∷ front, r, ap (λ (l : List TraceSecond). s ∷ l) is)

-- how a second with power begins
picked : (b : Bool) (x y : ToldSecond) → y.lit ≡ false → (cond b x y).lit ≡ true → (cond b x y).starts ≡ x.starts
picked true x y dark lit = refl
picked false x y dark lit = absurd (let wrong : false ≡ true = sym dark ∙ lit in cc)

starts-as : (log : RunLog) (before : Before) (s : TraceSecond) → (second_told log before s).lit ≡ true → (second_told log before s).starts ≡ not before.running
starts-as log before s lit = picked (has_power before s) _ _ refl lit

-- the last span, where the last second has power
last-of-on : (spans : List (List Seen)) (y : Seen) → last_number (last_of (seen_on spans y)) ≡ number_of y
last-of-on [] y = refl
last-of-on (span ∷ []) y = last-push span y
last-of-on (span ∷ next ∷ []) y = last-push next y
last-of-on (span ∷ next ∷ third ∷ spans) y = last-of-on (next ∷ third ∷ spans) y

last-of-one : (spans : List (List Seen)) (y : Seen) → last_number (last_of (spans ++ (y ∷ []) ∷ [])) ≡ number_of y
last-of-one [] y = refl
last-of-one (span ∷ []) y = refl
last-of-one (span ∷ next ∷ spans) y = last-of-one (next ∷ spans) y

last-of-with : (spans : List (List Seen)) (y : Seen) → y.told.lit ≡ true → last_number (last_of (seen_with spans y)) ≡ number_of y
last-of-with spans y lit = by y.told.lit y.told.starts lit
  where
    by : (l starts : Bool) → l ≡ true → last_number (last_of (cond l (cond starts (spans ++ (y ∷ []) ∷ []) (seen_on spans y)) spans)) ≡ number_of y
    by true true is = last-of-one spans y
    by true false is = last-of-on spans y
    by false starts is = absurd (cc)

and-first : (a b : Bool) → (a && b) ≡ true → a ≡ true
and-first true b is = refl
and-first false b is = absurd (cc)

not-false : (b : Bool) → not b ≡ false → b ≡ true
not-false true is = refl
not-false false is = absurd (cc)

-- behind a first second at least
module _ (log : RunLog) (s : TraceSecond) (from : ℕ) (front : List TraceSecond) (r : TraceSecond) (order : AreInOrder from (front ++ r ∷ [])) (next : s.number ≡ from + length front + 1) where
  abbrev before : Before
  before = (went log (front ++ r ∷ [])).before

  abbrev y : Seen
  y = seen_next log front r

  before-is : before ≡ before_next (went log front).before y.told
  before-is = ap (λ (w : Went). w.before) (went-more log front r)

  -- the second before had power
  was-lit : (second_told log before s).lit ≡ true → (second_told log before s).starts ≡ false → y.told.lit ≡ true
  was-lit lit starts =
      let running : before.running ≡ true = not-false before.running (sym (starts-as log before s lit) ∙ starts) in
      and-first y.told.lit (not y.told.cut) (sym (ap (λ (b : Before). b.running) before-is) ∙ running)

  last-is : y.told.lit ≡ true → last_number (last_of (seen_spans (seen_of log (front ++ r ∷ [])))) + 1 ≡ number_of (seen_next log (front ++ r ∷ []) s)
  last-is lit =
      let spans : seen_spans (seen_of log (front ++ r ∷ [])) ≡ seen_with (seen_spans (seen_of log front)) y = ap seen_spans (seen-more log front r) ∙ spans-more (seen_of log front) y in
      let here : last_number (last_of (seen_spans (seen_of log (front ++ r ∷ [])))) ≡ r.number =
      ap (λ (sp : List (List Seen)). last_number (last_of sp)) spans ∙ last-of-with (seen_spans (seen_of log front)) y lit ∙ told-number log (went log front).before r in
      let at : r.number ≡ from + length front = order-last from front r order in
      ap (λ (n : ℕ). n + 1) (here ∙ at) ∙ sym next ∙ sym (told-number log before s)

  behind-more : IsBehind (seen_spans (seen_of log (front ++ r ∷ []))) (seen_next log (front ++ r ∷ []) s)
  behind-more lit = by (second_told log before s).starts refl
    where
      by : (b : Bool) → (second_told log before s).starts ≡ b → (cond b [] (last_of (seen_spans (seen_of log (front ++ r ∷ [])))) ≡ []) ⊎ (last_number (cond b [] (last_of (seen_spans (seen_of log (front ++ r ∷ []))))) + 1 ≡ number_of (seen_next log (front ++ r ∷ []) s))
      by true is = inl refl
      by false is = inr (last-is (was-lit lit is))

nothing-before : (b : Bool) → cond {A = List Seen} b [] [] ≡ []
nothing-before true = refl
nothing-before false = refl

pub behind : (log : RunLog) (from : ℕ) (done : List TraceSecond) (s : TraceSecond) → AreInOrder from done → s.number ≡ from + length done → IsBehind (seen_spans (seen_of log done)) (seen_next log done s)
unfolding seen_of
behind log from done s order next = by (snoc done)
  where
    by : (done ≡ []) ⊎ ((front : List TraceSecond) × (r : TraceSecond) × (done ≡ front ++ r ∷ [])) → IsBehind (seen_spans (seen_of log done)) (seen_next log done s)
    by (inl is) = subst (λ (ss : List TraceSecond). IsBehind (seen_spans (seen_of log ss)) (seen_next log ss s)) (sym is) (λ lit. inl (nothing-before (seen_next log [] s).told.starts))
    by (inr (front, r, is)) =
        let many : length done ≡ length front + 1 = ap (λ (ss : List TraceSecond). length ss) is ∙ length-append front (r ∷ []) in
        subst (λ (ss : List TraceSecond). IsBehind (seen_spans (seen_of log ss)) (seen_next log ss s)) (sym is)
        (behind-more log s from front r (subst (λ (ss : List TraceSecond). AreInOrder from ss) is order) (omega (arith, next, many)))
