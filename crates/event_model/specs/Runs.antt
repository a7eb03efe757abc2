-- Runs of seconds one after another that pass a test.
use Rattle.std.specs.Prelude.{Bool, List, [], ◌∷◌, ◌++◌, fold, if◌then◌else◌}

-- the run at the end of a list, longer by one more where that passes the test, else gone
abbrev pub run_with : {T : Type 0} → (T → Bool) → List T → T → List T
run_with passes run x = if passes x then run ++ x ∷ [] else []

-- the longest run at the end of a list
abbrev pub last_run : {T : Type 0} → (T → Bool) → List T → List T
last_run passes xs = fold (run_with passes) [] xs

-- the run that one more ends, behind this run: none where it goes on
abbrev pub ended_by : {T : Type 0} → (T → Bool) → List T → T → List (List T)
ended_by passes run x = if passes x then [] else run ∷ []

-- behind this run: what stands before each one that does not pass the test, back to the last such one; what stands
-- behind the last of them has not ended
abbrev pub runs_behind : {T : Type 0} → (T → Bool) → List T → List T → List (List T)
runs_behind passes run [] = []
runs_behind passes run (x ∷ xs) = ended_by passes run x ++ runs_behind passes (run_with passes run x) xs

-- the longest runs that have ended, empty ones between
abbrev pub ended_runs : {T : Type 0} → (T → Bool) → List T → List (List T)
ended_runs passes xs = runs_behind passes [] xs
