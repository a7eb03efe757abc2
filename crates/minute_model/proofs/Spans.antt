-- Seconds at one speed, one after another.
use Rattle.std.proofs.Common.{◌≡◌, ◌∙◌, ℕ, suc, zero, ◌+◌, ◌≤◌, List, [], ◌∷◌, ◌++◌, refl, ap, sym, arith, append_assoc, append-nil, length-append}
use Rattle.std.specs.List.{AllByRecursion}
use Rattle.minute_model.specs.declared.Rule.{Rule}
use Rattle.minute_model.specs.Second.{Second}
use Rattle.minute_model.specs.Minute.{SettlingsRise, class_of}
use Rattle.std.specs.Prelude.{◌-◌, ◌*◌, ◌/◌, map}
use Rattle.minute_model.specs.Span.{Span, begin, end_of, fed, fed_many, settled, decided_in, ungiven_of, AreSettled, AreNumbered}
use Rattle.minute_model.proofs.Numbered.{numbered-more, numbered-parts}
use Rattle.minute_model.proofs.Counted.{count_from, decided-more}

pub numbered-fed : (span : Span) (speed : ℕ) → AreNumbered span.first span.seconds → AreNumbered span.first (fed span speed).seconds
numbered-fed span speed numbered = numbered-more span.first span.seconds (record { number = end_of span; speed = speed; picks = span.pending }) numbered refl

pub end-fed : (span : Span) (speed : ℕ) → end_of (fed span speed) ≡ end_of span + 1
end-fed span speed = omega (arith, length-append span.seconds (record { number = end_of span; speed = speed; picks = span.pending } ∷ []))

-- the first of n + 1 seconds, and then the others
pub fed_many-first : (span : Span) (speed n : ℕ) → fed_many span speed (suc n) ≡ fed_many (fed span speed) speed n
fed_many-first span speed zero = refl
fed_many-first span speed (suc n) = ap (λ (k : Span). fed k speed) (fed_many-first span speed n)

-- some of the seconds, and then the others
pub fed_many-parts : (span : Span) (speed n k : ℕ) → fed_many (fed_many span speed n) speed k ≡ fed_many span speed (n + k)
fed_many-parts span speed n zero = let e : n ≡ n + 0 = omega arith in ap (fed_many span speed) e
fed_many-parts span speed n (suc k) = let e : suc (n + k) ≡ n + suc k = omega arith in ap (λ (s : Span). fed s speed) (fed_many-parts span speed n k) ∙ ap (fed_many span speed) e

pub fed_many-end : (span : Span) (speed n : ℕ) → end_of (fed_many span speed n) ≡ end_of span + n
fed_many-end span speed zero = omega arith
fed_many-end span speed (suc n) = end-fed (fed_many span speed n) speed ∙ omega (arith, fed_many-end span speed n)

pub fed_many-rule : (span : Span) (speed n : ℕ) → (fed_many span speed n).rule ≡ span.rule
fed_many-rule span speed zero = refl
fed_many-rule span speed (suc n) = fed_many-rule span speed n

pub fed_many-first_number : (span : Span) (speed n : ℕ) → (fed_many span speed n).first ≡ span.first
fed_many-first_number span speed zero = refl
fed_many-first_number span speed (suc n) = fed_many-first_number span speed n

pub fed_many-settlings : (span : Span) (speed n : ℕ) → (fed_many span speed n).settlings ≡ span.settlings
fed_many-settlings span speed zero = refl
fed_many-settlings span speed (suc n) = fed_many-settlings span speed n

pub fed_many-numbered : (span : Span) (speed n : ℕ) → AreNumbered span.first span.seconds → AreNumbered (fed_many span speed n).first (fed_many span speed n).seconds
fed_many-numbered span speed zero numbered = numbered
fed_many-numbered span speed (suc n) numbered = numbered-fed (fed_many span speed n) speed (fed_many-numbered span speed n numbered)

pub fed_many-behind : (span : Span) (speed n : ℕ) → (ys : List Second) × ((fed_many span speed n).seconds ≡ span.seconds ++ ys)
fed_many-behind span speed zero = ([], sym (append-nil span.seconds))
fed_many-behind span speed (suc n) =
    let before = fed_many-behind span speed n in
    let x : Second = record { number = end_of (fed_many span speed n); speed = speed; picks = (fed_many span speed n).pending } in
    (before.0 ++ x ∷ [], ap (λ (zs : List Second). zs ++ x ∷ []) before.1 ∙ append_assoc span.seconds before.0 (x ∷ []))

pub settled-later : (end later : ℕ) (ts : List ℕ) → end ≤ later → AllByRecursion (λ (t : ℕ). t ≤ end) ts → AllByRecursion (λ (t : ℕ). t ≤ later) ts
settled-later end later [] le h = tt
settled-later end later (t ∷ ts) le h = let here : t ≤ end = h.0 in (omega (arith, here, le), settled-later end later ts le h.1)

pub fed_many-settled : (span : Span) (speed n : ℕ) → AreSettled span → AreSettled (fed_many span speed n)
fed_many-settled span speed n all =
    let end = fed_many-end span speed n in
    rw (fed_many-settlings span speed n) (settled-later (end_of span) (end_of (fed_many span speed n)) span.settlings (omega (arith, end)) all)

-- The settlings of a span rise: there are none at its begin, and each further one is no earlier than those before. Seconds and
-- selections add none.
pub begin-rising : (rule : Rule) (first : ℕ) → SettlingsRise 0 (begin rule first).settlings
begin-rising rule first = tt

rising-push : (from end : ℕ) (ts : List ℕ) → from ≤ end → SettlingsRise from ts → AllByRecursion (λ (t : ℕ). t ≤ end) ts → SettlingsRise from (ts ++ end ∷ [])
rising-push from end [] low rising all = (low, tt)
rising-push from end (t ∷ ts) low rising all = let here : t ≤ end = all.0 in (rising.0, rising-push t end ts here rising.1 all.1)

pub settled-rising : (span : Span) → AreSettled span → SettlingsRise 0 span.settlings → SettlingsRise 0 (settled span).settlings
settled-rising span all rising = rising-push 0 (end_of span) span.settlings (omega arith) rising all

-- Seconds of one minute: what was decided, and the minute that the last of them decides.
pub decided-fed_many : (span : Span) (speed n : ℕ) → AreNumbered span.first span.seconds → AreSettled span → end_of span + n ≤ 60 * (end_of span / 60) + 60 → decided_in (fed_many span speed n) ≡ decided_in span ++ map (class_of span.rule (fed_many span speed n).seconds) (count_from (ungiven_of span) (ungiven_of (fed_many span speed n) - ungiven_of span))
decided-fed_many span speed n numbered all within =
    let new : Span = fed_many span speed n in
    let end = fed_many-end span speed n in
    let behind = fed_many-behind span speed n in
    let first = fed_many-first_number span speed n in
    let rule = fed_many-rule span speed n in
    let numbered' = fed_many-numbered span speed n numbered in
    let whole : AreNumbered span.first (span.seconds ++ behind.0) = rw (first, behind.1) at numbered' in
    let parts = numbered-parts span.first span.seconds behind.0 whole in
    decided-more span new behind.0 numbered all numbered' (fed_many-settled span speed n all) rule first (fed_many-settlings span speed n) behind.1 parts.1 (omega (arith, end)) (omega (arith, end, within))
    ∙ ap (λ (r : Rule). decided_in span ++ map (class_of r new.seconds) (count_from (ungiven_of span) (ungiven_of new - ungiven_of span))) rule
