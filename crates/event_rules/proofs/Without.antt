-- The counts of the run without a card, as more seconds of one kind come.
use Rattle.std.proofs.Common.{◌≡◌, ◌∙◌, ℕ, zero, suc, ◌+◌, ◌-◌, ◌<◌, Bool, true, false, cond, Option, Some, List, [], ◌∷◌, ◌++◌, length, refl, ap, sym, subst, arith, append-nil}
use Rattle.std.specs.Prelude.{◌==◌, option_to_list}
use Rattle.std.proofs.lemmas.Bool.{ne_eqb}
use Rattle.std.proofs.lemmas.List.{length-append, map-append, length-map}
use Rattle.event_model.specs.declared.entries.Span.{Span}
use Rattle.event_model.specs.Runs.{last_run}
use Rattle.event_model.specs.Spans.{DriverSecond, InARow, first_of, last_of, all_bare, bare_of, bares_of}
use Rattle.event_model.proofs.RunLemmas.{last_run-append, row-on, row-off, ended-on, ended-off}
use Rattle.event_model.proofs.SpanLemmas.{last_of-row, row-append, row-in, length-row}
use Rattle.event_rules.specs.Bare.{Bare, CountsDriverSeconds, IsNext, no_run, bare_run, numbers, counted, grown, span_in}

abbrev one : Bool → ℕ → DriverSecond
one bare k = record { number = k; bare = bare }

-- a run with a second is one
some-run : (s : DriverSecond) (run : List DriverSecond) → (length (s ∷ run) == 0) ≡ false
some-run s run = ne_eqb (length (s ∷ run)) 0 (λ z. omega (arith, z))

first-append : (run : List DriverSecond) (second n : ℕ) →
    first_of (numbers (run ++ all_bare second (suc n) true)) ≡ cond (length run == 0) second (first_of (numbers run))
first-append [] second n = refl
first-append (s ∷ run) second n = rw (some-run s run) refl

-- the counts of a run and more
counted-grown : (run : List DriverSecond) (second n : ℕ) → grown second (suc n) (counted run) ≡ counted (run ++ all_bare second (suc n) true)
counted-grown run second n =
    let row : List DriverSecond = all_bare second (suc n) true in
    let first = sym (first-append run second n) in
    let many : length run + suc n ≡ length (run ++ row) = sym (length-append run row ∙ ap (λ (k : ℕ). length run + k) (length-row (one true) second (suc n))) in
    cc

-- the numbers of a run and more
grown-row : (run : List DriverSecond) (begin second n : ℕ) → InARow begin (numbers run) → (0 < length run → begin + length run ≡ second) →
    InARow (cond (length run == 0) second begin) (numbers (run ++ all_bare second n true))
grown-row [] begin second n row next = row-in (λ (s : DriverSecond). s.number) (one true) (λ k. refl) second n
grown-row (s ∷ run) begin second n row next =
    let many : length (numbers (s ∷ run)) ≡ length (s ∷ run) = length-map (s ∷ run) (λ (x : DriverSecond). x.number) in
    let some : 0 < length (s ∷ run) = omega arith in
    let from : second ≡ begin + length (numbers (s ∷ run)) = sym (next some) ∙ ap (λ (k : ℕ). begin + k) (sym many) in
    let more : InARow (begin + length (numbers (s ∷ run))) (numbers (all_bare second n true)) = subst (λ (k : ℕ). InARow k (numbers (all_bare second n true))) from (row-in (λ (x : DriverSecond). x.number) (one true) (λ k. refl) second n) in
    let whole : InARow begin (numbers (s ∷ run) ++ numbers (all_bare second n true)) = row-append begin (numbers (s ∷ run)) (numbers (all_bare second n true)) row more in
    let all : InARow begin (numbers ((s ∷ run) ++ all_bare second n true)) =
    subst (λ (ns : List ℕ). InARow begin ns) (sym (map-append (λ (x : DriverSecond). x.number) (s ∷ run) (all_bare second n true))) whole in
    rw (some-run s run) all

-- a run's span, by its counts
span-counted : (run : List DriverSecond) (begin : ℕ) → InARow begin (numbers run) → span_in (counted run) ≡ bare_of run
span-counted [] begin row = refl
span-counted (s ∷ run) begin row =
    let many : length (numbers (s ∷ run)) ≡ length (s ∷ run) = length-map (s ∷ run) (λ (x : DriverSecond). x.number) in
    let some : 0 < length (numbers (s ∷ run)) = omega arith in
    let first : s.number ≡ begin = row.0 in
    let last : last_of (numbers (s ∷ run)) + 1 ≡ begin + length (numbers (s ∷ run)) = last_of-row begin (numbers (s ∷ run)) row some in
    let end : s.number + length (s ∷ run) - 1 ≡ last_of (numbers (s ∷ run)) = omega (arith, first, last, many) in
    rw (some-run s run) (ap (λ (e : ℕ). Some (record { begin = s.number; end = e })) end)

module _ (kept : Bare) (seconds : List DriverSecond) (stands : CountsDriverSeconds kept seconds) (second n : ℕ) where
  on : last_run (λ s. s.bare) (seconds ++ all_bare second n true) ≡ bare_run seconds ++ all_bare second n true
  on = last_run-append (λ (s : DriverSecond). s.bare) seconds (all_bare second n true) ∙ row-on (λ (s : DriverSecond). s.bare) (one true) (λ k. refl) (bare_run seconds) second n

  -- the run goes on
  pub fed-on : IsNext kept second → 0 < n → CountsDriverSeconds (grown second n kept) (seconds ++ all_bare second n true)
  fed-on next some = go n refl
    where
      go : (m : ℕ) → m ≡ n → CountsDriverSeconds (grown second n kept) (seconds ++ all_bare second n true)
      go zero is = absurd (omega (arith, some, is))
      go (suc m) is = record {
        run = rw on (ap (grown second n) stands.run ∙ rw (← is) (counted-grown (bare_run seconds) second m));
        row = rw on (rw stands.run (grown-row (bare_run seconds) (first_of (numbers (bare_run seconds))) second n (rw stands.run at stands.row) (rw stands.run at next)));
      }

  pub given-on : bares_of (seconds ++ all_bare second n true) ≡ bares_of seconds ++ []
  unfolding bares_of
  given-on = ended-on (λ (s : DriverSecond). s.bare) (one true) bare_of (λ k. refl) seconds second n ∙ sym (append-nil (bares_of seconds))

  -- it ends
  pub fed-off : 0 < n → CountsDriverSeconds no_run (seconds ++ all_bare second n false)
  fed-off some = go n refl
    where
      off : (m : ℕ) → last_run (λ s. s.bare) (seconds ++ all_bare second (suc m) false) ≡ []
      off m = last_run-append (λ (s : DriverSecond). s.bare) seconds (all_bare second (suc m) false) ∙ row-off (λ (s : DriverSecond). s.bare) (one false) (λ k. refl) (bare_run seconds) second m

      go : (m : ℕ) → m ≡ n → CountsDriverSeconds no_run (seconds ++ all_bare second n false)
      go zero is = absurd (omega (arith, some, is))
      go (suc m) is = record { run = rw (← is) (rw (off m) refl); row = rw (← is) (rw (off m) tt) }

  pub given-off : 0 < n → bares_of (seconds ++ all_bare second n false) ≡ bares_of seconds ++ option_to_list (span_in kept)
  unfolding bares_of
  given-off some = go n refl
    where
      span : bare_of (bare_run seconds) ≡ span_in kept
      span = sym (ap span_in stands.run ∙ span-counted (bare_run seconds) kept.begin stands.row)

      go : (m : ℕ) → m ≡ n → bares_of (seconds ++ all_bare second n false) ≡ bares_of seconds ++ option_to_list (span_in kept)
      go zero is = absurd (omega (arith, some, is))
      go (suc m) is =
          rw (← is) (ended-off (λ (s : DriverSecond). s.bare) (one false) bare_of refl (λ k. refl) seconds second m)
          ∙ ap (λ (o : Option Span). bares_of seconds ++ option_to_list o) span

-- no second yet
pub new-stands : CountsDriverSeconds no_run []
new-stands = record { run = refl; row = tt }
