-- Names of files among words (profile).
use Rattle.std.specs.Prelude.{◌≡◌, ◌==◌, ◌≤◌, ◌+◌, ℕ, Bool, true, false, List, length}
use Rattle.std.specs.Prelude.{◌||◌, slice_get, Some}
use Rattle.std.specs.List.{list_any}

-- a character that is in names of files alone: `.` or `/`
abbrev pub marks_name : ℕ → Bool
marks_name c = c == 46 || c == 47

-- a word that is the name of a file
abbrev pub is_name : List ℕ → Bool
is_name word = list_any marks_name word

-- HOW THE NAMES END SOME WORDS: so many words stand before them, and the last of these is no name
pub record EndsInNames (words : List (List ℕ)) (before : ℕ) : Type 0 where
  pub there : before ≤ length words
  -- each word behind is a name
  pub names : (k : ℕ) (word : List ℕ) → before ≤ k → slice_get words k ≡ Some word → is_name word ≡ true
  -- the last one before is none
  pub other : (k : ℕ) (word : List ℕ) → before ≡ k + 1 → slice_get words k ≡ Some word → is_name word ≡ false
