-- The driver's second in the words of the regulation: by the second of the first rest or availability.
use Rattle.std.proofs.Common.{◌≡◌, ◌∙◌, ℕ, suc, zero, ◌+◌, ◌-◌, ◌<◌, ◌≤◌, Bool, true, false, ◌||◌, List, [], ◌∷◌, ◌++◌, length, take, refl, ap, sym, arith}
use Rattle.std.specs.Prelude.{filter, nat_le, if◌then◌else◌}
use Rattle.std.specs.declared.option.Option.{Option}
use Rattle.std.specs.declared.option.Option.TheVariants.{None, Some}
use Rattle.std.specs.List.{list_any}
use Rattle.std.proofs.lemmas.Bool.{le-leb, lt-leb}
use Rattle.std.proofs.lemmas.List.Folds.{list_any-append}
use Rattle.activity_codec.proofs.ByTest.{by_test}
use Rattle.activity_codec.specs.Activity.{is_rest_or_available}
use Rattle.activity_codec.specs.declared.values.Activity.{Activity}
use Rattle.activity_codec.specs.declared.values.Activity.TheVariants.{Work}
use Rattle.minute_model.specs.Second.{Second}
use Rattle.minute_model.specs.Stops.{picks_for}
use Rattle.activity_codec.specs.declared.values.Slot.TheVariants.{Driver}
use Rattle.minute_model.specs.Stops.{driver_picks}
use Rattle.minute_model.proofs.EachSecond.{first_still}
use Rattle.minute_model.specs.Stops.{last_pick}
use Rattle.minute_model.proofs.EachSecond.{first_pick, driver_after_stop}
use Rattle.minute_model.proofs.Picked.{last_pick-work}
use Rattle.minute_model.proofs.Next.{or-false, early-first, early-second}

abbrev pub has_early : Second → Bool
has_early second = list_any is_rest_or_available (picks_for Driver second.picks)

-- How many seconds after the stop the first rest or availability is selected, and what is selected there first:
-- of the seconds at speed 0 from the stop on, of which n came before these.
abbrev pub first_early_from : ℕ → List Second → Option (ℕ × Activity)
first_early_from n [] = None
first_early_from n (second ∷ seconds) =
    if has_early second then Some (n, first_pick Work (filter is_rest_or_available (picks_for Driver second.picks))) else first_early_from (n + 1) seconds

-- If it comes later than `now`, which is the last of `since`, it counts; else the last selection since the stop.
abbrev pub decided_by : List Second → Option (ℕ × Activity) → Activity
decided_by since None = last_pick Work (driver_picks since)
decided_by since (Some found) = if nat_le (length since) found.0 then found.1 else last_pick Work (driver_picks since)

abbrev pub literal : List Second → List Second → Activity
literal since after = decided_by since (first_early_from 0 (take 121 (since ++ first_still after)))

-- no early pick among these seconds: the search goes on behind them
passes : (n k : ℕ) (since rest : List Second) → list_any is_rest_or_available (driver_picks since) ≡ false → first_early_from n (take k (since ++ rest)) ≡ first_early_from (n + length since) (take (k - length since) rest)
passes n k [] rest none =
    let e : n ≡ n + 0 = omega arith in
    let f : k ≡ k - 0 = omega arith in
    ap (λ (m : ℕ). first_early_from m (take k rest)) e ∙ ap (λ (j : ℕ). first_early_from (n + 0) (take j rest)) f
passes n zero (x ∷ since) rest none =
    let e : 0 ≡ 0 - suc (length since) = omega arith in
    ap (λ (j : ℕ). first_early_from (n + suc (length since)) (take j rest)) e
passes n (suc k) (x ∷ since) rest none =
    let both = or-false (has_early x) (list_any is_rest_or_available (driver_picks since)) (sym (list_any-append is_rest_or_available (picks_for Driver x.picks) (driver_picks since)) ∙ none) in
    let e : n + 1 + length since ≡ n + suc (length since) = omega arith in
    let f : k - length since ≡ suc k - suc (length since) = omega arith in
    rw both.0 (passes (n + 1) k since rest both.1 ∙ ap (λ (m : ℕ). first_early_from m (take (k - length since) rest)) e ∙ ap (λ (j : ℕ). first_early_from (n + suc (length since)) (take j rest)) f)

-- what is found behind n seconds
found-behind : (n : ℕ) (rest : List Second) (since : List Second) → length since ≤ n → list_any is_rest_or_available (driver_picks since) ≡ false → decided_by since (first_early_from n rest) ≡ first_pick Work (filter is_rest_or_available (driver_picks rest))
found-behind n [] since le none = last_pick-work (driver_picks since) none
found-behind n (x ∷ rest) since le none =
    by_test (has_early x)
    (λ early. rw (early, le-leb (length since) n le) (sym (early-first (picks_for Driver x.picks) (driver_picks rest) early)))
    (λ late. rw late (found-behind (n + 1) rest since (omega (arith, le)) none ∙ sym (early-second (picks_for Driver x.picks) (driver_picks rest) late)))

-- an early pick among these seconds is found there, or not at all
found-here : (n k : ℕ) (front rest since : List Second) → n + length front ≡ length since → list_any is_rest_or_available (driver_picks front) ≡ true → decided_by since (first_early_from n (take k (front ++ rest))) ≡ last_pick Work (driver_picks since)
found-here n k [] rest since e some = cc
found-here n zero (x ∷ front) rest since e some = refl
found-here n (suc k) (x ∷ front) rest since e some =
    by_test (has_early x)
    (λ early. let lt : n < length since = omega (arith, e) in rw (early, lt-leb (length since) n lt) refl)
    (λ late.
    let both : (has_early x || list_any is_rest_or_available (driver_picks front)) ≡ true = sym (list_any-append is_rest_or_available (picks_for Driver x.picks) (driver_picks front)) ∙ some in
    let more : list_any is_rest_or_available (driver_picks front) ≡ true = rw late at both in
    rw late (found-here (n + 1) k front rest since (omega (arith, e)) more))

-- the definition says what the literal one says
pub literal-same : (since after : List Second) → driver_after_stop since after ≡ literal since after
literal-same since after =
    by_test (list_any is_rest_or_available (driver_picks since))
    (λ some. rw some (sym (found-here 0 121 since (first_still after) since (zero-add (length since)) some)))
    (λ none. rw none (sym (ap (decided_by since) (passes 0 121 since (first_still after) none) ∙ found-behind (0 + length since) (take (121 - length since) (first_still after)) since (omega arith) none)))
  where
    zero-add : (n : ℕ) → 0 + n ≡ n
    zero-add n = omega arith
