-- The breaks of a run log of a unit alone (profile).
use Rattle.std.specs.Prelude.{ℕ, ◌<◌, Bool, List, [], ◌++◌, map, take, drop, is_some}
use Rattle.std.specs.List.{list_any}
use Rattle.log_model.specs.declared.lines.Break.{Break}
use Rattle.log_model.specs.declared.lines.Break.TheVariants.{Cut, Tear}
use Rattle.log_model.specs.Log.{RunLog, cut_of}

-- a log whose breaks are these, and that tells no more of how a second went
abbrev pub log_of : List Break → RunLog
log_of breaks = record { breaks = breaks; refused = []; finds = [] }

-- a cut of which it is not known yet what was kept
abbrev pub cut_at : (second : ℕ) → (failed : Bool) → (begun : ℕ) → Break
cut_at second failed begun = Cut second 0 failed begun

-- a cut after which this minute was found to be the last-kept one
abbrev pub with_kept : ℕ → Break → Break
with_kept k (Cut second kept failed begun) = Cut second k failed begun
with_kept k (Tear second slot failed begun late) = Tear second slot failed begun late

-- of these breaks those from an index on tell that this minute was found
abbrev pub found_from : ℕ → ℕ → List Break → List Break
found_from unfound k breaks = take unfound breaks ++ map (with_kept k) (drop unfound breaks)

-- a cut in a second before a number
abbrev pub IsCutBefore : ℕ → Break → Type 0
IsCutBefore number (Cut second kept failed begun) = second < number
IsCutBefore number (Tear second slot failed begun late) = ⊥

-- one of them is a cut in this second
abbrev pub tells_cut : ℕ → List Break → Bool
tells_cut u breaks = list_any (λ b. is_some (cut_of u b)) breaks
