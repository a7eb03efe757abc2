-- Which minutes have ended is known.
use Rattle.std.proofs.Common.{◌≡◌, ◌∙◌, ℕ, zero, suc, ◌+◌, ◌-◌, ◌<◌, ◌≤◌, Bool, true, false, cond, Option, Some, None, List, [], ◌∷◌, refl, ap, arith, is_some, take}
use Rattle.std.specs.Prelude.{nat_eq, option_map, slice_get}
use Rattle.std.proofs.lemmas.Bool.{eq-eqb}
use Rattle.card_slots.specs.declared.seats.Ended.{Ended}
use Rattle.card_slots.specs.declared.seats.Present.{Present}
use Rattle.card_slots.specs.Calls.{ending, ended_in, present_in}
use Rattle.card_slots.specs.Kept.{Kept, left_in, minute_ended}
use Rattle.run_crew.specs.Cabin.{KnowsEnded}

-- one that stands there is found
found : (past : List Ended) (k m : ℕ) (e : Ended) → slice_get past k ≡ Some e → e.minute ≡ m → is_some (ended_in past m) ≡ true
found [] k m e is at = absurd (cc)
found (x ∷ past) zero m e is at =
    let one : x ≡ e = cc in
    let here : nat_eq x.minute m ≡ true = eq-eqb x.minute m (ap (λ (y : Ended). y.minute) one ∙ at) in
    ap (λ (b : Bool). is_some (cond b (Some x) (ended_in past m))) here
found (x ∷ past) (suc k) m e is at = by (nat_eq x.minute m) (found past k m e is at)
  where
    by : (b : Bool) → is_some (ended_in past m) ≡ true → is_some (cond b (Some x) (ended_in past m)) ≡ true
    by true rest = refl
    by false rest = rest

some_present : (o : Option Ended) → is_some o ≡ true → is_some (option_map {T = Ended} {U = Present} (λ e. e.present) o) ≡ true
some_present None some = some
some_present (Some e) some = refl

pub ended-known : (from to m : ℕ) (slots : Kept) → from ≤ m → m < to → KnowsEnded from to slots → is_some (present_in slots.past m) ≡ true
ended-known from to m slots early late h =
    let there = h.each (to - 1 - m) (omega arith) in
    let at = there.2 in
    some_present (ended_in slots.past m) (found slots.past (to - 1 - m) m there.0 there.1 (omega (arith, at)))

pub ended-later : (from later to : ℕ) (slots : Kept) → from ≤ later → KnowsEnded from to slots → KnowsEnded later to slots
ended-later from later to slots le h = record { few = let few = h.few in omega (arith, few, le); each = λ k less. h.each k (omega (arith, less, le)) }

pub ended-none : (from : ℕ) (slots : Kept) → KnowsEnded from from slots
ended-none from slots = record { few = omega arith; each = λ k less. absurd (omega (arith, less)) }

pub ended-same : (from to : ℕ) (slots new : Kept) → new.past ≡ slots.past → KnowsEnded from to slots → KnowsEnded from to new
ended-same from to slots new same h = record { few = h.few; each = λ k less. let e = h.each k less in (e.0, ap (λ (p : List Ended). slice_get p k) same ∙ e.1, e.2) }

-- ---- one minute more

front : (n : ℕ) (past : List Ended) (k : ℕ) → k < n → slice_get (take n past) k ≡ slice_get past k
front zero past k less = absurd (omega (arith, less))
front (suc n) [] k less = refl
front (suc n) (x ∷ past) zero less = refl
front (suc n) (x ∷ past) (suc k) less = front n past k (omega (arith, less))

pub ended-more : (from m : ℕ) (slots : Kept) → m < from + 4 → KnowsEnded from m slots → KnowsEnded from (m + 1) (minute_ended m slots)
ended-more from m slots few h = record { few = omega (arith, few); each = each }
  where
    each : (k : ℕ) → k + from < m + 1 → (e : Ended) × (slice_get (minute_ended m slots).past k ≡ Some e) × (e.minute + k + 1 ≡ m + 1)
    each zero less = (ending (left_in slots.left) m slots.seats, refl, omega arith)
    each (suc k) less =
        let e = h.each k (omega (arith, less)) in
        let at = e.2 in
        let near : k < 3 = omega (arith, less, few) in
        (e.0, front 3 slots.past k near ∙ e.1, omega (arith, at))
