-- The counts of the run above the limit, as more seconds of one speed come.
use Rattle.std.proofs.Common.{◌≡◌, ◌∙◌, ℕ, zero, suc, ◌+◌, ◌-◌, ◌*◌, ◌/◌, ◌<◌, max, true, false, cond, Option, Some, List, [], ◌∷◌, ◌++◌, length, refl, ap, sym, subst, arith, fold, append-nil, zero-add, sum}
use Rattle.std.specs.Prelude.{nat_lt, ◌==◌, option_to_list}
use Rattle.std.proofs.lemmas.Bool.{ltb-true, ne_eqb}
use Rattle.std.proofs.lemmas.List.{length-append, map-append, length-map}
use Rattle.std.proofs.lemmas.List.Sums.{fold-append, sum_by-append}
use Rattle.activity_codec.proofs.ByTest.{by_test}
use Rattle.event_model.specs.declared.entries.Over.{Over}
use Rattle.event_model.specs.Runs.{last_run}
use Rattle.event_model.specs.Spans.{SpeedSecond, InARow, first_of, last_of, at_speed, is_above, numbers, speeds, over_of, overs_of}
use Rattle.event_model.proofs.RunLemmas.{last_run-append, row-on, row-off, ended-on, ended-off}
use Rattle.event_model.proofs.SpanLemmas.{last_of-row, first_of-row, row-append, row-in, length-row}
use Rattle.event_rules.specs.Speeding.{Speeding, CountsSpeedSeconds, IsNext, no_run, counted, grown, over_in}

-- a second of this speed
abbrev one : ℕ → ℕ → SpeedSecond
one speed k = record { number = k; speed = speed }

sum-row : (speed number n : ℕ) → sum (speeds (at_speed number n speed)) ≡ n * speed
sum-row speed number zero = omega arith
sum-row speed number (suc n) =
    let rest : sum (speeds (at_speed (number + 1) n speed)) ≡ n * speed = sum-row speed (number + 1) n in
    let more : suc n * speed ≡ speed + n * speed = grind arith in
    let parts : sum (speeds (at_speed number (suc n) speed)) ≡ sum (speed ∷ []) + sum (speeds (at_speed (number + 1) n speed)) =
    sum_by-append (λ (x : ℕ). x) (speed ∷ []) (speeds (at_speed (number + 1) n speed)) in
    let first : sum (speed ∷ []) ≡ speed = zero-add speed in
    parts ∙ ap (λ (k : ℕ). k + sum (speeds (at_speed (number + 1) n speed))) first ∙ ap (λ (k : ℕ). speed + k) rest ∙ sym more

max-again : (m v : ℕ) → max (max m v) v ≡ max m v
max-again m v = omega arith

most-row : (speed number n m : ℕ) → fold max m (speeds (at_speed number (suc n) speed)) ≡ max m speed
most-row speed number zero m = refl
most-row speed number (suc n) m = most-row speed (number + 1) n (max m speed) ∙ max-again m speed

-- a run with a second is one
some-run : (s : SpeedSecond) (run : List SpeedSecond) → (length (s ∷ run) == 0) ≡ false
some-run s run = ne_eqb (length (s ∷ run)) 0 (λ z. omega (arith, z))

first-append : (run : List SpeedSecond) (second n speed : ℕ) →
    first_of (numbers (run ++ at_speed second (suc n) speed)) ≡ cond (length run == 0) second (first_of (numbers run))
first-append [] second n speed = refl
first-append (s ∷ run) second n speed = rw (some-run s run) refl

-- the counts of a run and more
counted-grown : (run : List SpeedSecond) (second n speed : ℕ) → grown second (suc n) speed (counted run) ≡ counted (run ++ at_speed second (suc n) speed)
counted-grown run second n speed =
    let row : List SpeedSecond = at_speed second (suc n) speed in
    let first = sym (first-append run second n speed) in
    let many : length run + suc n ≡ length (run ++ row) = sym (length-append run row ∙ ap (λ (k : ℕ). length run + k) (length-row (one speed) second (suc n))) in
    let all : sum (speeds run) + suc n * speed ≡ sum (speeds (run ++ row)) =
    sym (ap sum (map-append (λ (s : SpeedSecond). s.speed) run row) ∙ sum_by-append (λ (x : ℕ). x) (speeds run) (speeds row) ∙ ap (λ (k : ℕ). sum (speeds run) + k) (sum-row speed second (suc n))) in
    let most : max (fold max 0 (speeds run)) speed ≡ fold max 0 (speeds (run ++ row)) =
    sym (ap (fold max 0) (map-append (λ (s : SpeedSecond). s.speed) run row) ∙ fold-append max 0 (speeds run) (speeds row) ∙ most-row speed second n (fold max 0 (speeds run))) in
    cc

-- the numbers of a run and more
grown-row : (run : List SpeedSecond) (begin second n speed : ℕ) → InARow begin (numbers run) → (0 < length run → begin + length run ≡ second) →
    InARow (cond (length run == 0) second begin) (numbers (run ++ at_speed second n speed))
grown-row [] begin second n speed row next = row-in (λ (s : SpeedSecond). s.number) (one speed) (λ k. refl) second n
grown-row (s ∷ run) begin second n speed row next =
    let many : length (numbers (s ∷ run)) ≡ length (s ∷ run) = length-map (s ∷ run) (λ (x : SpeedSecond). x.number) in
    let some : 0 < length (s ∷ run) = omega arith in
    let from : second ≡ begin + length (numbers (s ∷ run)) = sym (next some) ∙ ap (λ (k : ℕ). begin + k) (sym many) in
    let more : InARow (begin + length (numbers (s ∷ run))) (numbers (at_speed second n speed)) = subst (λ (k : ℕ). InARow k (numbers (at_speed second n speed))) from (row-in (λ (x : SpeedSecond). x.number) (one speed) (λ k. refl) second n) in
    let whole : InARow begin (numbers (s ∷ run) ++ numbers (at_speed second n speed)) = row-append begin (numbers (s ∷ run)) (numbers (at_speed second n speed)) row more in
    let all : InARow begin (numbers ((s ∷ run) ++ at_speed second n speed)) =
    subst (λ (ns : List ℕ). InARow begin ns) (sym (map-append (λ (x : SpeedSecond). x.number) (s ∷ run) (at_speed second n speed))) whole in
    rw (some-run s run) all

-- the over speeding of a run, by its counts
over-counted : (run : List SpeedSecond) (begin : ℕ) → InARow begin (numbers run) → over_in (counted run) ≡ over_of run
over-counted run begin row =
    by_test (nat_lt 60 (length run))
    (λ long.
    let many : length (numbers run) ≡ length run = length-map run (λ (s : SpeedSecond). s.number) in
    let is : 60 < length run = ltb-true 60 (length run) long in
    let some : 0 < length (numbers run) = omega (arith, many, is) in
    let first : first_of (numbers run) ≡ begin = first_of-row begin (numbers run) row some in
    let last : last_of (numbers run) + 1 ≡ begin + length (numbers run) = last_of-row begin (numbers run) row some in
    let end : first_of (numbers run) + length run - 1 ≡ last_of (numbers run) = omega (arith, first, last, many) in
    rw long (ap (λ (e : ℕ). Some (record { begin = first_of (numbers run); end = e; most = fold max 0 (speeds run); average = sum (speeds run) / length run })) end))
    (λ short. rw short refl)

module _ (kept : Speeding) (seconds : List SpeedSecond) (stands : CountsSpeedSeconds kept seconds) (second n speed : ℕ) where
  -- above the limit the run goes on
  module _ (above : nat_lt kept.limit speed ≡ true) where
    on : last_run (is_above kept.limit) (seconds ++ at_speed second n speed) ≡ last_run (is_above kept.limit) seconds ++ at_speed second n speed
    on = last_run-append (is_above kept.limit) seconds (at_speed second n speed) ∙ row-on (is_above kept.limit) (one speed) (λ k. above) (last_run (is_above kept.limit) seconds) second n

    pub fed-on : IsNext kept.run second → 0 < n → CountsSpeedSeconds (record { limit = kept.limit; run = grown second n speed kept.run }) (seconds ++ at_speed second n speed)
    fed-on next some = go n refl
      where
        go : (m : ℕ) → m ≡ n → CountsSpeedSeconds (record { limit = kept.limit; run = grown second n speed kept.run }) (seconds ++ at_speed second n speed)
        go zero is = absurd (omega (arith, some, is))
        go (suc m) is = record {
          run = rw on (ap (grown second n speed) stands.run ∙ rw (← is) (counted-grown (last_run (is_above kept.limit) seconds) second m speed));
          row = rw on (rw stands.run
              (grown-row (last_run (is_above kept.limit) seconds) (first_of (numbers (last_run (is_above kept.limit) seconds))) second n speed (rw stands.run at stands.row) (rw stands.run at next)));
        }

    pub given-on : overs_of kept.limit (seconds ++ at_speed second n speed) ≡ overs_of kept.limit seconds ++ []
    unfolding overs_of
    given-on = ended-on (is_above kept.limit) (one speed) over_of (λ k. above) seconds second n ∙ sym (append-nil (overs_of kept.limit seconds))

  -- at most at the limit it ends
  module _ (within : nat_lt kept.limit speed ≡ false) where
    pub fed-off : 0 < n → CountsSpeedSeconds (record { limit = kept.limit; run = no_run }) (seconds ++ at_speed second n speed)
    fed-off some = go n refl
      where
        off : (m : ℕ) → last_run (is_above kept.limit) (seconds ++ at_speed second (suc m) speed) ≡ []
        off m = last_run-append (is_above kept.limit) seconds (at_speed second (suc m) speed) ∙ row-off (is_above kept.limit) (one speed) (λ k. within) (last_run (is_above kept.limit) seconds) second m

        go : (m : ℕ) → m ≡ n → CountsSpeedSeconds (record { limit = kept.limit; run = no_run }) (seconds ++ at_speed second n speed)
        go zero is = absurd (omega (arith, some, is))
        go (suc m) is = record { run = rw (← is) (rw (off m) refl); row = rw (← is) (rw (off m) tt) }

    pub given-off : 0 < n → overs_of kept.limit (seconds ++ at_speed second n speed) ≡ overs_of kept.limit seconds ++ option_to_list (over_in kept.run)
    unfolding overs_of
    given-off some = go n refl
      where
        over : over_of (last_run (is_above kept.limit) seconds) ≡ over_in kept.run
        over = sym (ap over_in stands.run ∙ over-counted (last_run (is_above kept.limit) seconds) kept.run.begin stands.row)

        go : (m : ℕ) → m ≡ n → overs_of kept.limit (seconds ++ at_speed second n speed) ≡ overs_of kept.limit seconds ++ option_to_list (over_in kept.run)
        go zero is = absurd (omega (arith, some, is))
        go (suc m) is =
            rw (← is) (ended-off (is_above kept.limit) (one speed) over_of refl (λ k. within) seconds second m)
            ∙ ap (λ (o : Option Over). overs_of kept.limit seconds ++ option_to_list o) over

-- the same value stands for the same seconds
pub by-value : (now same : Speeding) (seconds : List SpeedSecond) → CountsSpeedSeconds same seconds → now ≡ same → CountsSpeedSeconds now seconds
by-value now same seconds h is = rw is h

-- no second yet
pub new-stands : (limit : ℕ) → CountsSpeedSeconds (record { limit = limit; run = no_run }) []
new-stands limit = record { run = refl; row = tt }
