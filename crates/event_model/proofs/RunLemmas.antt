-- Runs of seconds that pass a test, as more seconds come.
use Rattle.std.proofs.Common.{◌≡◌, ◌∙◌, ℕ, zero, suc, ◌+◌, Bool, true, false, cond, Option, Some, None, List, [], ◌∷◌, ◌++◌, refl, ap, sym, append_assoc, append-nil, fold}
use Rattle.std.specs.List.{filter_map, cons_option}
use Rattle.std.specs.Prelude.{option_to_list}
use Rattle.std.proofs.lemmas.List.Sums.{fold-append}
use Rattle.std.proofs.lemmas.List.Elements.{filter_map-append}
use Rattle.event_model.specs.Runs.{run_with, last_run, ended_by, runs_behind, ended_runs}
use Rattle.event_model.specs.Spans.{in_a_row}

module _ {T : Type 0} (passes : T → Bool) where
  -- the last run of a list and more
  pub last_run-append : (xs ys : List T) → last_run passes (xs ++ ys) ≡ fold (run_with passes) (last_run passes xs) ys
  last_run-append xs ys = fold-append (run_with passes) [] xs ys

  runs_behind-append : (run xs ys : List T) → runs_behind passes run (xs ++ ys) ≡ runs_behind passes run xs ++ runs_behind passes (fold (run_with passes) run xs) ys
  runs_behind-append run [] ys = refl
  runs_behind-append run (x ∷ xs) ys =
      ap (λ (rs : List (List T)). ended_by passes run x ++ rs) (runs_behind-append (run_with passes run x) xs ys)
      ∙ sym (append_assoc (ended_by passes run x) (runs_behind passes (run_with passes run x) xs) (runs_behind passes (fold (run_with passes) (run_with passes run x) xs) ys))

  -- the runs that have ended of a list and more
  pub ended_runs-append : (xs ys : List T) → ended_runs passes (xs ++ ys) ≡ ended_runs passes xs ++ runs_behind passes (last_run passes xs) ys
  ended_runs-append xs ys = runs_behind-append [] xs ys

  module _ (one : ℕ → T) where
    -- more that pass: the run goes on, and none ends
    pub row-on : ((k : ℕ) → passes (one k) ≡ true) → (run : List T) (number n : ℕ) → fold (run_with passes) run (in_a_row one number n) ≡ run ++ in_a_row one number n
    row-on pass run number zero = sym (append-nil run)
    row-on pass run number (suc n) =
        ap (λ (b : Bool). fold (run_with passes) (cond b (run ++ one number ∷ []) []) (in_a_row one (number + 1) n)) (pass number)
        ∙ row-on pass (run ++ one number ∷ []) (number + 1) n
        ∙ append_assoc run (one number ∷ []) (in_a_row one (number + 1) n)

    pub row-on-ends : ((k : ℕ) → passes (one k) ≡ true) → (run : List T) (number n : ℕ) → runs_behind passes run (in_a_row one number n) ≡ []
    row-on-ends pass run number zero = refl
    row-on-ends pass run number (suc n) =
        ap (λ (b : Bool). cond b [] (run ∷ []) ++ runs_behind passes (run_with passes run (one number)) (in_a_row one (number + 1) n)) (pass number)
        ∙ row-on-ends pass (run_with passes run (one number)) (number + 1) n

    -- more that do not pass: nothing goes on
    pub row-off : ((k : ℕ) → passes (one k) ≡ false) → (run : List T) (number n : ℕ) → fold (run_with passes) run (in_a_row one number (suc n)) ≡ []
    row-off fail run number zero = ap (λ (b : Bool). cond b (run ++ one number ∷ []) []) (fail number)
    row-off fail run number (suc n) = row-off fail (run_with passes run (one number)) (number + 1) n

    -- the run ends with the first of them; the empty ones behind it count for nothing
    row-off-rest : {Y : Type 0} (made : List T → Option Y) → made [] ≡ None → ((k : ℕ) → passes (one k) ≡ false) → (number n : ℕ) →
        filter_map made (runs_behind passes [] (in_a_row one number n)) ≡ []
    row-off-rest made none fail number zero = refl
    row-off-rest {Y} made none fail number (suc n) =
        ap (λ (b : Bool). filter_map made (cond b [] ([] ∷ []) ++ runs_behind passes (cond b ([] ++ one number ∷ []) []) (in_a_row one (number + 1) n))) (fail number)
        ∙ ap (λ (o : Option Y). cons_option o (filter_map made (runs_behind passes [] (in_a_row one (number + 1) n)))) none
        ∙ row-off-rest made none fail (number + 1) n

    pub row-off-ends : {Y : Type 0} (made : List T → Option Y) → made [] ≡ None → ((k : ℕ) → passes (one k) ≡ false) → (run : List T) (number n : ℕ) →
        filter_map made (runs_behind passes run (in_a_row one number (suc n))) ≡ option_to_list (made run)
    row-off-ends {Y} made none fail run number n =
        ap (λ (b : Bool). filter_map made (cond b [] (run ∷ []) ++ runs_behind passes (cond b (run ++ one number ∷ []) []) (in_a_row one (number + 1) n))) (fail number)
        ∙ ap (cons_option (made run)) (row-off-rest made none fail (number + 1) n)
        ∙ one_of (made run)
      where
        one_of : (o : Option Y) → cons_option o [] ≡ option_to_list o
        one_of None = refl
        one_of (Some y) = refl

    -- what has ended, of a list and such a row
    pub ended-on : {Y : Type 0} (made : List T → Option Y) → ((k : ℕ) → passes (one k) ≡ true) → (xs : List T) (number n : ℕ) →
        filter_map made (ended_runs passes (xs ++ in_a_row one number n)) ≡ filter_map made (ended_runs passes xs)
    ended-on made pass xs number n =
        ap (filter_map made) (ended_runs-append xs (in_a_row one number n) ∙ ap (λ (rs : List (List T)). ended_runs passes xs ++ rs) (row-on-ends pass (last_run passes xs) number n) ∙ append-nil (ended_runs passes xs))

    pub ended-off : {Y : Type 0} (made : List T → Option Y) → made [] ≡ None → ((k : ℕ) → passes (one k) ≡ false) → (xs : List T) (number n : ℕ) →
        filter_map made (ended_runs passes (xs ++ in_a_row one number (suc n))) ≡ filter_map made (ended_runs passes xs) ++ option_to_list (made (last_run passes xs))
    ended-off {Y} made none fail xs number n =
        ap (filter_map made) (ended_runs-append xs (in_a_row one number (suc n)))
        ∙ filter_map-append made (ended_runs passes xs) (runs_behind passes (last_run passes xs) (in_a_row one number (suc n)))
        ∙ ap (λ (ys : List Y). filter_map made (ended_runs passes xs) ++ ys) (row-off-ends made none fail (last_run passes xs) number n)
