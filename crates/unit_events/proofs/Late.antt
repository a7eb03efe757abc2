-- What ends begins no earlier than the seconds that were fed.
use Rattle.std.proofs.Common.{◌≡◌, ℕ, ◌/◌, ◌≤◌, max, Bool, true, false, cond, Option, Some, None, List, [], ◌∷◌, ◌++◌, length, map, sum, fold, refl, subst, nat_lt}
use Rattle.std.specs.List.{AllByRecursion, filter_map, cons_option}
use Rattle.event_model.specs.declared.entries.Over.{Over}
use Rattle.event_model.specs.declared.entries.Span.{Span}
use Rattle.event_model.specs.Runs.{runs_behind}
use Rattle.event_model.specs.Spans.{DriverSecond, SpeedSecond, is_above, bare_of, bares_of, over_of, overs_of}
use Rattle.unit_events.proofs.Bridge.{each-push}

-- of runs of good seconds good things are made
module _ {T Y : Type 0} (Good : T → Type 0) (passes : T → Bool) (made : List T → Option Y) (Fine : Y → Type 0) (each : (run : List T) (y : Y) → AllByRecursion Good run → made run ≡ Some y → Fine y) where
  one-made : (o : Option Y) (ys : List Y) → ((y : Y) → o ≡ Some y → Fine y) → AllByRecursion Fine ys → AllByRecursion Fine (cons_option o ys)
  one-made None ys h all = all
  one-made (Some y) ys h all = (h y refl, all)

  step-made : (b : Bool) (run : List T) (x : T) (xs : List T) → AllByRecursion Good run → AllByRecursion Fine (filter_map made (runs_behind passes (run ++ x ∷ []) xs)) → AllByRecursion Fine (filter_map made (runs_behind passes [] xs)) →
      AllByRecursion Fine (filter_map made (cond b [] (run ∷ []) ++ runs_behind passes (cond b (run ++ x ∷ []) []) xs))
  step-made true run x xs good on off = on
  step-made false run x xs good on off = one-made (made run) (filter_map made (runs_behind passes [] xs)) (λ y is. each run y good is) off

  made-all : (xs run : List T) → AllByRecursion Good run → AllByRecursion Good xs → AllByRecursion Fine (filter_map made (runs_behind passes run xs))
  made-all [] run good all = tt
  made-all (x ∷ xs) run good all =
      step-made (passes x) run x xs good (made-all xs (run ++ x ∷ []) (each-push Good run x good all.0) all.1) (made-all xs [] tt all.1)

each-append : {T : Type 0} (P : T → Type 0) (xs ys : List T) → AllByRecursion P xs → AllByRecursion P ys → AllByRecursion P (xs ++ ys)
each-append P [] ys h k = k
each-append P (x ∷ xs) ys h k = (h.0, each-append P xs ys h.1 k)

each-last : {T : Type 0} (P : T → Type 0) (xs : List T) (x : T) → AllByRecursion P (xs ++ x ∷ []) → P x
each-last P [] x h = h.0
each-last P (y ∷ xs) x h = each-last P xs x h.1

-- driving without a card
bare-begin : (low : ℕ) (run : List DriverSecond) (y : Span) → AllByRecursion (λ (s : DriverSecond). low ≤ s.number) run → bare_of run ≡ Some y → low ≤ y.begin
bare-begin low [] y all is = absurd (let no : None ≡ Some y = is in cc)
bare-begin low (x ∷ run) y all is = let begin : x.number ≡ y.begin = cc in subst (λ (n : ℕ). low ≤ n) begin all.0

bares-late : (low : ℕ) (ds : List DriverSecond) → AllByRecursion (λ (s : DriverSecond). low ≤ s.number) ds → AllByRecursion (λ (s : Span). low ≤ s.begin) (bares_of ds)
unfolding bares_of
bares-late low ds all = made-all (λ (s : DriverSecond). low ≤ s.number) (λ (s : DriverSecond). s.bare) bare_of (λ (s : Span). low ≤ s.begin) (bare-begin low) ds [] tt all

pub bare-late : (low : ℕ) (ds row : List DriverSecond) → AllByRecursion (λ (s : DriverSecond). low ≤ s.number) ds → AllByRecursion (λ (s : DriverSecond). low ≤ s.number) row → (s : Span) → bares_of (ds ++ row) ≡ bares_of ds ++ s ∷ [] → low ≤ s.begin
bare-late low ds row all more s is =
    each-last (λ (s : Span). low ≤ s.begin) (bares_of ds) s
    (subst (AllByRecursion (λ (s : Span). low ≤ s.begin)) is (bares-late low (ds ++ row) (each-append (λ (s : DriverSecond). low ≤ s.number) ds row all more)))

-- over speeding
over-begin : (low : ℕ) (run : List SpeedSecond) (y : Over) → AllByRecursion (λ (s : SpeedSecond). low ≤ s.number) run → over_of run ≡ Some y → low ≤ y.begin
over-begin low [] y all is = absurd (let no : None ≡ Some y = is in cc)
over-begin low (x ∷ run) y all is = by (nat_lt 60 (length (x ∷ run))) is
  where
    by : (b : Bool) → cond {A = Option Over} b (Some (record {
      begin = x.number;
      end = fold (λ (before n : ℕ). n) 0 (map (λ (s : SpeedSecond). s.number) (x ∷ run));
      most = fold max 0 (map (λ (s : SpeedSecond). s.speed) (x ∷ run));
      average = sum (map (λ (s : SpeedSecond). s.speed) (x ∷ run)) / length (x ∷ run);
    })) None ≡ Some y → low ≤ y.begin
    by true e = let begin : x.number ≡ y.begin = cc in subst (λ (n : ℕ). low ≤ n) begin all.0
    by false e = absurd (cc)

overs-late : (limit low : ℕ) (ds : List SpeedSecond) → AllByRecursion (λ (s : SpeedSecond). low ≤ s.number) ds → AllByRecursion (λ (o : Over). low ≤ o.begin) (overs_of limit ds)
unfolding overs_of
overs-late limit low ds all = made-all (λ (s : SpeedSecond). low ≤ s.number) (is_above limit) over_of (λ (o : Over). low ≤ o.begin) (over-begin low) ds [] tt all

pub over-late : (limit low : ℕ) (ds row : List SpeedSecond) → AllByRecursion (λ (s : SpeedSecond). low ≤ s.number) ds → AllByRecursion (λ (s : SpeedSecond). low ≤ s.number) row → (o : Over) → overs_of limit (ds ++ row) ≡ overs_of limit ds ++ o ∷ [] → low ≤ o.begin
over-late limit low ds row all more o is =
    each-last (λ (o : Over). low ≤ o.begin) (overs_of limit ds) o
    (subst (AllByRecursion (λ (o : Over). low ≤ o.begin)) is (overs-late limit low (ds ++ row) (each-append (λ (s : SpeedSecond). low ≤ s.number) ds row all more)))
