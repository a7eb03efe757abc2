-- What ends begins at a second of its span.
use Rattle.std.proofs.Common.{◌≡◌, ℕ, zero, suc, ◌+◌, ◌<◌, ◌≤◌, Bool, Option, Some, None, IfSome, List, [], ◌∷◌, ◌++◌, arith}
use Rattle.std.specs.Prelude.{option_to_list}
use Rattle.std.specs.List.{AllByRecursion}
use Rattle.event_model.specs.declared.entries.Over.{Over}
use Rattle.event_model.specs.declared.entries.Span.{Span}
use Rattle.event_model.specs.Spans.{DriverSecond, SpeedSecond, bares_of, overs_of, all_bare, at_speed}
use Rattle.unit_events.proofs.Late.{bare-late, over-late}

pub each-append : {T : Type 0} (P : T → Type 0) (xs ys : List T) → AllByRecursion P xs → AllByRecursion P ys → AllByRecursion P (xs ++ ys)
each-append P [] ys h k = k
each-append P (x ∷ xs) ys h k = (h.0, each-append P xs ys h.1 k)

each-one : {T : Type 0} (P Q : T → Type 0) → ((x : T) → P x → Q x) → (xs : List T) → AllByRecursion P xs → AllByRecursion Q xs
each-one P Q on [] h = tt
each-one P Q on (x ∷ xs) h = (on x h.0, each-one P Q on xs h.1)

-- the seconds of a row
pub bare-row : (first n : ℕ) (b : Bool) → 0 < first → AllByRecursion (λ (s : DriverSecond). 0 < s.number) (all_bare first n b)
bare-row first zero b low = tt
bare-row first (suc n) b low = (low, bare-row (first + 1) n b (omega (arith, low)))

pub speed-row : (first n speed : ℕ) → 0 < first → AllByRecursion (λ (s : SpeedSecond). 0 < s.number) (at_speed first n speed)
speed-row first zero speed low = tt
speed-row first (suc n) speed low = (low, speed-row (first + 1) n speed (omega (arith, low)))

one-more : (n : ℕ) → 0 < n → 1 ≤ n
one-more n low = omega (arith, low)

some-more : (n : ℕ) → 1 ≤ n → 0 < n
some-more n low = omega (arith, low)

pub bare-some : (ds row : List DriverSecond) → AllByRecursion (λ (s : DriverSecond). 0 < s.number) ds → AllByRecursion (λ (s : DriverSecond). 0 < s.number) row → (ended : Option Span) →
    bares_of (ds ++ row) ≡ bares_of ds ++ option_to_list ended → IfSome ended (λ s. 0 < s.begin)
bare-some ds row all more None given = tt
bare-some ds row all more (Some s) given =
    some-more s.begin
    (bare-late 1 ds row (each-one (λ (s : DriverSecond). 0 < s.number) (λ (s : DriverSecond). 1 ≤ s.number) (λ s low. one-more s.number low) ds all)
    (each-one (λ (s : DriverSecond). 0 < s.number) (λ (s : DriverSecond). 1 ≤ s.number) (λ s low. one-more s.number low) row more) s given)

pub over-some : (limit : ℕ) (ds row : List SpeedSecond) → AllByRecursion (λ (s : SpeedSecond). 0 < s.number) ds → AllByRecursion (λ (s : SpeedSecond). 0 < s.number) row → (ended : Option Over) →
    overs_of limit (ds ++ row) ≡ overs_of limit ds ++ option_to_list ended → IfSome ended (λ o. 0 < o.begin)
over-some limit ds row all more None given = tt
over-some limit ds row all more (Some o) given =
    some-more o.begin
    (over-late limit 1 ds row (each-one (λ (s : SpeedSecond). 0 < s.number) (λ (s : SpeedSecond). 1 ≤ s.number) (λ s low. one-more s.number low) ds all)
    (each-one (λ (s : SpeedSecond). 0 < s.number) (λ (s : SpeedSecond). 1 ≤ s.number) (λ s low. one-more s.number low) row more) o given)
