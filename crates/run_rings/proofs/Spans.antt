-- The odometers of power spans, second by second.
use Rattle.std.proofs.Common.{◌≡◌, ℕ, ◌+◌, ◌/◌, ◌<◌, min, Bool, true, false, cond, ◌||◌, List, [], ◌∷◌, ◌++◌, map, filter, sum, sum_by, nat_eq, refl, ap, sym, subst, ◌∙◌, arith}
use Rattle.std.specs.Prelude.{nat_lt}
use Rattle.std.specs.List.{list_any}
use Rattle.std.proofs.lemmas.List.{map-append}
use Rattle.std.proofs.lemmas.List.Sums.{sum_by-cons}
use Rattle.std.proofs.lemmas.Bool.Decides.{nat_tests}
use Rattle.minute_model.specs.Second.{Second}
use Rattle.unit_model.specs.declared.layout.TheConstants.{HIGHEST_ODOMETER}
use Rattle.log_model.specs.Course.{ToldSecond}
use Rattle.log_model.specs.Spans.{go_on, seconds_in}
use Rattle.note_model.specs.Odometer.{SpanFrom, odometer_before, has_second, odometer_at}
use Rattle.run_rings.specs.Spans.{go_on_from, TheyAreTheSpans, EarlierOdometersStay, AreAlike, AlikeSecondsCountAlike, AreBefore, AreAllBefore, odometer_on, TheOdometerOfNow}

-- ---- the spans

go-on-spans : (spans : List SpanFrom) (base : ℕ) (t : ToldSecond) → map (λ (s : SpanFrom). s.span) (go_on_from spans base t) ≡ go_on (map (λ (s : SpanFrom). s.span) spans) t
go-on-spans [] base t = refl
go-on-spans (s ∷ []) base t = refl
go-on-spans (s ∷ next ∷ spans) base t = ap (λ (l : List (List ToldSecond)). s.span ∷ l) (go-on-spans (next ∷ spans) base t)

pub are-spans : TheyAreTheSpans
are-spans spans base t = by t.lit t.starts
  where
    by : (lit starts : Bool) → map (λ (s : SpanFrom). s.span) (cond lit (cond starts (spans ++ record { base = base; span = t ∷ [] } ∷ []) (go_on_from spans base t)) spans)
        ≡ cond lit (cond starts (map (λ (s : SpanFrom). s.span) spans ++ (t ∷ []) ∷ []) (go_on (map (λ (s : SpanFrom). s.span) spans) t)) (map (λ (s : SpanFrom). s.span) spans)
    by false starts = refl
    by true true = map-append (λ (s : SpanFrom). s.span) spans (record { base = base; span = t ∷ [] } ∷ [])
    by true false = go-on-spans spans base t

-- ---- one span

-- a second lies in a longer span
any-append : {X : Type 0} (p : X → Bool) (xs : List X) (x : X) → list_any p (xs ++ x ∷ []) ≡ (list_any p xs || p x)
any-append p [] x = or-false (p x)
  where
    or-false : (b : Bool) → (b || false) ≡ b
    or-false true = refl
    or-false false = refl
any-append p (y ∷ xs) x = ap (λ (b : Bool). p y || b) (any-append p xs x) ∙ by (p y)
  where
    by : (b : Bool) → (b || (list_any p xs || p x)) ≡ ((b || list_any p xs) || p x)
    by true = refl
    by false = refl

or-false : (a b : Bool) → b ≡ false → (a || b) ≡ a
or-false true b is = refl
or-false false b is = is

has-longer : (u : ℕ) (base : ℕ) (span : List ToldSecond) (t : ToldSecond) → nat_eq t.second.number u ≡ false → has_second u (record { base = base; span = span ++ t ∷ [] }) ≡ has_second u (record { base = base; span = span })
has-longer u base span t ne = any-append (λ (x : ToldSecond). nat_eq x.second.number u) span t ∙ or-false (list_any (λ (x : ToldSecond). nat_eq x.second.number u) span) (nat_eq t.second.number u) ne

-- what was driven in it before a second
abbrev speeds_before : ℕ → List Second → List ℕ
speeds_before u seconds = map (λ (s : Second). s.speed) (filter (λ (s : Second). nat_lt s.number u) seconds)

seconds-append : (span : List ToldSecond) (t : ToldSecond) → seconds_in (span ++ t ∷ []) ≡ seconds_in span ++ t.second ∷ []
seconds-append span t = map-append (λ (x : ToldSecond). x.second) span (t ∷ [])

speeds-longer : (u : ℕ) (seconds : List Second) (s : Second) → nat_lt s.number u ≡ false → speeds_before u (seconds ++ s ∷ []) ≡ speeds_before u seconds
speeds-longer u [] s late = ap (λ (b : Bool). map (λ (x : Second). x.speed) (cond b (s ∷ []) [])) late
speeds-longer u (x ∷ seconds) s late = by (nat_lt x.number u) (speeds-longer u seconds s late)
  where
    by : (b : Bool) → speeds_before u (seconds ++ s ∷ []) ≡ speeds_before u seconds → map (λ (x : Second). x.speed) (cond b (x ∷ filter (λ (s : Second). nat_lt s.number u) (seconds ++ s ∷ [])) (filter (λ (s : Second). nat_lt s.number u) (seconds ++ s ∷ [])))
        ≡ map (λ (x : Second). x.speed) (cond b (x ∷ filter (λ (s : Second). nat_lt s.number u) seconds) (filter (λ (s : Second). nat_lt s.number u) seconds))
    by true rest = ap (λ (l : List ℕ). x.speed ∷ l) rest
    by false rest = rest

before-longer : (u base : ℕ) (span : List ToldSecond) (t : ToldSecond) → nat_lt t.second.number u ≡ false → odometer_before u (record { base = base; span = span ++ t ∷ [] }) ≡ odometer_before u (record { base = base; span = span })
before-longer u base span t late =
    ap (λ (l : List Second). min HIGHEST_ODOMETER (base + sum (speeds_before u l) / 3600)) (seconds-append span t)
    ∙ ap (λ (l : List ℕ). min HIGHEST_ODOMETER (base + sum l / 3600)) (speeds-longer u (seconds_in span) t.second late)

-- ---- earlier odometers

abbrev by_span : Bool → ℕ → ℕ → ℕ
by_span has here later = cond has here later

at-new : (spans : List SpanFrom) (base : ℕ) (t : ToldSecond) (u : ℕ) → nat_eq t.second.number u ≡ false → odometer_at u (spans ++ record { base = base; span = t ∷ [] } ∷ []) ≡ odometer_at u spans
at-new [] base t u ne = ap (λ (b : Bool). cond (b || false) (odometer_before u (record { base = base; span = t ∷ [] })) 0) ne
at-new (s ∷ spans) base t u ne = ap (λ (n : ℕ). by_span (has_second u s) (odometer_before u s) n) (at-new spans base t u ne)

at-longer : (spans : List SpanFrom) (base : ℕ) (t : ToldSecond) (u : ℕ) → nat_eq t.second.number u ≡ false → nat_lt t.second.number u ≡ false → odometer_at u (go_on_from spans base t) ≡ odometer_at u spans
at-longer [] base t u ne late = ap (λ (b : Bool). cond (b || false) (odometer_before u (record { base = base; span = t ∷ [] })) 0) ne
at-longer (s ∷ []) base t u ne late = λ i. by_span (has-longer u s.base s.span t ne i) (before-longer u s.base s.span t late i) 0
at-longer (s ∷ next ∷ spans) base t u ne late = ap (λ (n : ℕ). by_span (has_second u s) (odometer_before u s) n) (at-longer (next ∷ spans) base t u ne late)

pub earlier-stay : EarlierOdometersStay
earlier-stay spans base t u lt = by t.lit t.starts
  where
    ne : nat_eq t.second.number u ≡ false
    ne = grind (arith, nat_tests)

    late : nat_lt t.second.number u ≡ false
    late = grind (arith, nat_tests)

    by : (lit starts : Bool) → odometer_at u (cond lit (cond starts (spans ++ record { base = base; span = t ∷ [] } ∷ []) (go_on_from spans base t)) spans) ≡ odometer_at u spans
    by false starts = refl
    by true true = at-new spans base t u ne
    by true false = at-longer spans base t u ne late

-- ---- alike seconds

module _ (t x : ToldSecond) (same : AreAlike t x) (u : ℕ) where
  has-alike : (base : ℕ) (span : List ToldSecond) → has_second u (record { base = base; span = span ++ x ∷ [] }) ≡ has_second u (record { base = base; span = span ++ t ∷ [] })
  has-alike base span =
      any-append (λ (y : ToldSecond). nat_eq y.second.number u) span x
      ∙ ap (λ (n : ℕ). list_any (λ (y : ToldSecond). nat_eq y.second.number u) span || nat_eq n u) same.number
      ∙ sym (any-append (λ (y : ToldSecond). nat_eq y.second.number u) span t)

  speeds-alike : (seconds : List Second) → speeds_before u (seconds ++ x.second ∷ []) ≡ speeds_before u (seconds ++ t.second ∷ [])
  speeds-alike [] = one (nat_lt x.second.number u) (nat_lt t.second.number u) (ap (λ (n : ℕ). nat_lt n u) same.number)
    where
      one : (b d : Bool) → b ≡ d → map (λ (y : Second). y.speed) (cond b (x.second ∷ []) []) ≡ map (λ (y : Second). y.speed) (cond d (t.second ∷ []) [])
      one true true is = ap (λ (n : ℕ). n ∷ []) same.speed
      one true false is = absurd (cc)
      one false true is = absurd (cc)
      one false false is = refl
  speeds-alike (y ∷ seconds) = by (nat_lt y.number u) (speeds-alike seconds)
    where
      by : (b : Bool) → speeds_before u (seconds ++ x.second ∷ []) ≡ speeds_before u (seconds ++ t.second ∷ []) →
          map (λ (z : Second). z.speed) (cond b (y ∷ filter (λ (s : Second). nat_lt s.number u) (seconds ++ x.second ∷ [])) (filter (λ (s : Second). nat_lt s.number u) (seconds ++ x.second ∷ [])))
          ≡ map (λ (z : Second). z.speed) (cond b (y ∷ filter (λ (s : Second). nat_lt s.number u) (seconds ++ t.second ∷ [])) (filter (λ (s : Second). nat_lt s.number u) (seconds ++ t.second ∷ [])))
      by true rest = ap (λ (l : List ℕ). y.speed ∷ l) rest
      by false rest = rest

  before-alike : (base : ℕ) (span : List ToldSecond) → odometer_before u (record { base = base; span = span ++ x ∷ [] }) ≡ odometer_before u (record { base = base; span = span ++ t ∷ [] })
  before-alike base span =
      ap (λ (l : List Second). min HIGHEST_ODOMETER (base + sum (speeds_before u l) / 3600)) (seconds-append span x)
      ∙ ap (λ (l : List ℕ). min HIGHEST_ODOMETER (base + sum l / 3600)) (speeds-alike (seconds_in span))
      ∙ sym (ap (λ (l : List Second). min HIGHEST_ODOMETER (base + sum (speeds_before u l) / 3600)) (seconds-append span t))

  new-alike : (spans : List SpanFrom) (base : ℕ) → odometer_at u (spans ++ record { base = base; span = x ∷ [] } ∷ []) ≡ odometer_at u (spans ++ record { base = base; span = t ∷ [] } ∷ [])
  new-alike [] base = λ i. by_span (has-alike base [] i) (before-alike base [] i) 0
  new-alike (s ∷ spans) base = ap (λ (n : ℕ). by_span (has_second u s) (odometer_before u s) n) (new-alike spans base)

  longer-alike : (spans : List SpanFrom) (base : ℕ) → odometer_at u (go_on_from spans base x) ≡ odometer_at u (go_on_from spans base t)
  longer-alike [] base = λ i. by_span (has-alike base [] i) (before-alike base [] i) 0
  longer-alike (s ∷ []) base = λ i. by_span (has-alike s.base s.span i) (before-alike s.base s.span i) 0
  longer-alike (s ∷ next ∷ spans) base = ap (λ (n : ℕ). by_span (has_second u s) (odometer_before u s) n) (longer-alike (next ∷ spans) base)

  with-alike : (spans : List SpanFrom) (base : ℕ) (lit starts : Bool) → odometer_at u (cond lit (cond starts (spans ++ record { base = base; span = x ∷ [] } ∷ []) (go_on_from spans base x)) spans)
      ≡ odometer_at u (cond lit (cond starts (spans ++ record { base = base; span = t ∷ [] } ∷ []) (go_on_from spans base t)) spans)
  with-alike spans base false starts = refl
  with-alike spans base true true = new-alike spans base
  with-alike spans base true false = longer-alike spans base

pub alike : AlikeSecondsCountAlike
alike spans base t x same u =
    (λ i. odometer_at u (cond (same.lit i) (cond (same.starts i) (spans ++ record { base = base; span = x ∷ [] } ∷ []) (go_on_from spans base x)) spans)) ∙ with-alike t x same u spans base t.lit t.starts

-- ---- the odometer of now

before-itself : (u : ℕ) → nat_lt u u ≡ false
before-itself u = grind (arith, nat_tests)

same-itself : (u : ℕ) → nat_eq u u ≡ true
same-itself u = grind (arith, nat_tests)

-- all of these were driven before it
all-before : (u : ℕ) (seconds : List Second) → AreBefore u seconds → sum (speeds_before u seconds) ≡ sum_by (λ (s : Second). s.speed) seconds
all-before u [] all = refl
all-before u (s ∷ seconds) all =
    ap (λ (b : Bool). sum (map (λ (x : Second). x.speed) (cond b (s ∷ filter (λ (x : Second). nat_lt x.number u) seconds) (filter (λ (x : Second). nat_lt x.number u) seconds)))) (below s.number u all.0)
    ∙ sum_by-cons (λ (n : ℕ). n) s.speed (speeds_before u seconds) ∙ ap (λ (n : ℕ). s.speed + n) (all-before u seconds all.1) ∙ sym (sum_by-cons (λ (x : Second). x.speed) s seconds)
  where
    below : (a b : ℕ) → a < b → nat_lt a b ≡ true
    below a b lt = grind (arith, nat_tests)

-- it is in none of them
none-has : (u : ℕ) (span : List ToldSecond) → AreBefore u (seconds_in span) → list_any (λ (x : ToldSecond). nat_eq x.second.number u) span ≡ false
none-has u [] all = refl
none-has u (t ∷ span) all = ap (λ (b : Bool). b || list_any (λ (x : ToldSecond). nat_eq x.second.number u) span) (other t.second.number u all.0) ∙ none-has u span all.1
  where
    other : (a b : ℕ) → a < b → nat_eq a b ≡ false
    other a b lt = grind (arith, nat_tests)

or-true : (a b : Bool) → b ≡ true → (a || b) ≡ true
or-true true b is = refl
or-true false b is = is

now-in : (u base : ℕ) (span : List ToldSecond) (t : ToldSecond) → t.second.number ≡ u → AreBefore u (seconds_in span) →
    by_span (has_second u (record { base = base; span = span ++ t ∷ [] })) (odometer_before u (record { base = base; span = span ++ t ∷ [] })) 0 ≡ odometer_on base (seconds_in span)
now-in u base span t is all =
    let has : has_second u (record { base = base; span = span ++ t ∷ [] }) ≡ true =
    any-append (λ (x : ToldSecond). nat_eq x.second.number u) span t ∙ or-true (list_any (λ (x : ToldSecond). nat_eq x.second.number u) span) (nat_eq t.second.number u) (ap (λ (n : ℕ). nat_eq n u) is ∙ same-itself u) in
    let late : nat_lt t.second.number u ≡ false = ap (λ (n : ℕ). nat_lt n u) is ∙ before-itself u in
    ap (λ (b : Bool). by_span b (odometer_before u (record { base = base; span = span ++ t ∷ [] })) 0) has
    ∙ before-longer u base span t late
    ∙ ap (λ (n : ℕ). min HIGHEST_ODOMETER (base + n / 3600)) (all-before u (seconds_in span) all)

now-behind : (u : ℕ) (earlier : List SpanFrom) (s : SpanFrom) → AreAllBefore u earlier → odometer_at u (earlier ++ s ∷ []) ≡ odometer_at u (s ∷ [])
now-behind u [] s all = refl
now-behind u (x ∷ earlier) s all = ap (λ (b : Bool). by_span b (odometer_before u x) (odometer_at u (earlier ++ s ∷ []))) (none-has u x.span all.0) ∙ now-behind u earlier s all.1

front-before : (u : ℕ) (earlier : List SpanFrom) (s : SpanFrom) → AreAllBefore u (earlier ++ s ∷ []) → AreAllBefore u earlier × AreBefore u (seconds_in s.span)
front-before u [] s all = (tt, all.0)
front-before u (x ∷ earlier) s all = let rest = front-before u earlier s all.1 in ((all.0, rest.0), rest.1)

go-on-last : (earlier : List SpanFrom) (s : SpanFrom) (base : ℕ) (t : ToldSecond) → go_on_from (earlier ++ s ∷ []) base t ≡ earlier ++ record { base = s.base; span = s.span ++ t ∷ [] } ∷ []
go-on-last [] s base t = refl
go-on-last (x ∷ []) s base t = refl
go-on-last (x ∷ y ∷ earlier) s base t = ap (λ (l : List SpanFrom). x ∷ l) (go-on-last (y ∷ earlier) s base t)

pub odometer-now : TheOdometerOfNow
odometer-now spans base t lit all = (
  (λ starts.
      (λ i. odometer_at t.second.number (cond (lit i) (cond (starts i) (spans ++ record { base = base; span = t ∷ [] } ∷ []) (go_on_from spans base t)) spans))
      ∙ now-behind t.second.number spans (record { base = base; span = t ∷ [] }) all ∙ now-in t.second.number base [] t refl tt),
  (λ earlier s off are.
      let parts = front-before t.second.number earlier s (subst (AreAllBefore t.second.number) are all) in
      (λ i. odometer_at t.second.number (cond (lit i) (cond (off i) (are i ++ record { base = base; span = t ∷ [] } ∷ []) (go_on_from (are i) base t)) (are i)))
      ∙ ap (λ (l : List SpanFrom). odometer_at t.second.number l) (go-on-last earlier s base t)
      ∙ now-behind t.second.number earlier (record { base = s.base; span = s.span ++ t ∷ [] }) parts.0
      ∙ now-in t.second.number s.base s.span t refl parts.1),
)
