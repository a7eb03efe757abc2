-- The span of a second whose settling came more than once is that of the rules of minutes.
use Rattle.std.proofs.Common.{◌≡◌, ℕ, zero, suc, ◌-◌, ◌/◌, ◌≤◌, max, Bool, true, false, nat_lt, List, [], ◌∷◌, ◌++◌, refl, ap, sym, subst, ◌∙◌, arith}
use Rattle.std.specs.List.{AllByRecursion}
use Rattle.std.proofs.lemmas.Bool.Decides.{nat_tests}
use Rattle.minute_rules.specs.activity_codec.declared.values.Slot.{Slot}
use Rattle.minute_rules.specs.activity_codec.declared.values.Pick.{Pick}
use Rattle.minute_rules.specs.minute_model.Minute.{minutes_ahead}
use Rattle.minute_rules.specs.minute_model.Span.{Span, end_of, fed, settled, latest, ungiven_of}
use Rattle.minute_rules.specs.Kept.{Kept, kept_at, CountsSpan}
use Rattle.run_devices.specs.history_model.Growth.{picking, settled_where}
use Rattle.run_devices.specs.run_course.Kept.{settled_times}

-- a span with other settlings
abbrev with : List ℕ → Span → Span
with ts span = record span { settlings = ts }

latest-twice : (xs : List ℕ) (e : ℕ) → latest ((xs ++ e ∷ []) ++ e ∷ []) ≡ latest (xs ++ e ∷ [])
latest-twice [] e = omega arith
latest-twice (x ∷ xs) e = ap (max x) (latest-twice xs e)

latest-times : (k : ℕ) (span : Span) → latest (settled_times (suc k) span).settlings ≡ latest (settled span).settlings
latest-times zero span = refl
latest-times (suc k) span = latest-twice (settled_times k span).settlings (end_of (settled_times k span)) ∙ latest-times k span

front-all : (P : ℕ → Type 0) (xs ys : List ℕ) → AllByRecursion P (xs ++ ys) → AllByRecursion P xs
front-all P [] ys h = tt
front-all P (x ∷ xs) ys h = (h.0, front-all P xs ys h.1)

less-all : (P : ℕ → Type 0) (k : ℕ) (span : Span) → AllByRecursion P (settled_times (suc k) span).settlings → AllByRecursion P (settled span).settlings
less-all P zero span h = h
less-all P (suc k) span h = less-all P k span (front-all P (settled_times (suc k) span).settlings (end_of (settled_times (suc k) span) ∷ []) h)

-- it has the seconds of the other
parts : (k : ℕ) (span : Span) → settled_times k span ≡ with (settled_times k span).settlings span
parts zero span = refl
parts (suc k) span =
    ap (λ (x : Span). record { rule = x.rule; first = x.first; seconds = x.seconds; pending = x.pending; settlings = (settled_times k span).settlings ++ end_of (settled_times k span) ∷ [] }) (parts k span)

fed-parts : (k : ℕ) (picks : List (Slot × Pick)) (span : Span) (speed : ℕ) (other : List ℕ) →
    fed (picking picks (settled_times k span)) speed ≡ with (settled_times k span).settlings (fed (picking picks (with other span)) speed)
fed-parts k picks span speed other = ap (λ (x : Span). fed (picking picks x) speed) (parts k span)

some : (k : ℕ) → nat_lt 0 (suc k) ≡ true
some k = grind (arith, nat_tests)

-- THE SAME MINUTES stand for both, and they have decided alike
pub record AreAlike (a b : Span) : Type 0 where
  pub ungiven : ungiven_of a ≡ ungiven_of b
  pub stands : (minutes : Kept) → CountsSpan minutes a → CountsSpan minutes b

alike-with : (ts : List ℕ) (b : Span) → latest ts ≡ latest b.settlings → (AllByRecursion (λ (t : ℕ). t ≤ end_of b) ts → AllByRecursion (λ (t : ℕ). t ≤ end_of b) b.settlings) → AreAlike (with ts b) b
alike-with ts b same less =
    let ungiven : ungiven_of (with ts b) ≡ ungiven_of b = ap (λ (n : ℕ). max (b.first / 60) (max (end_of b / 60 - minutes_ahead b.rule) (n / 60))) same in
    record {
      ungiven = ungiven;
      stands = λ minutes h. record { kept = h.kept ∙ ap (λ (n : ℕ). kept_at (end_of b / 60) (end_of b / 60 - n) b) ungiven; numbered = h.numbered; settled = less h.settled };
    }

pub alike : (k : ℕ) (settles : Bool) (picks : List (Slot × Pick)) (span : Span) (speed : ℕ) → nat_lt 0 k ≡ settles → AreAlike (fed (picking picks (settled_times k span)) speed) (fed (picking picks (settled_where settles span)) speed)
alike zero true picks span speed is = absurd (cc)
alike zero false picks span speed is = record { ungiven = refl; stands = λ minutes h. h }
alike (suc k) false picks span speed is = absurd (let clash : true ≡ false = sym (some k) ∙ is in cc)
alike (suc k) true picks span speed is =
    subst (λ (x : Span). AreAlike x (fed (picking picks (settled span)) speed)) (sym (fed-parts (suc k) picks span speed (settled span).settlings))
    (alike-with (settled_times (suc k) span).settlings (fed (picking picks (settled span)) speed) (latest-times k span)
    (λ h. less-all (λ (t : ℕ). t ≤ end_of (fed (picking picks (settled span)) speed)) k span h))
