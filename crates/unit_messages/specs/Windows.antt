-- A window on a list of bytes that pass by, part after part: the bytes from a place on, at most 252.
use Rattle.std.specs.Prelude.{◌≡◌, ◌⊎◌, min, ℕ, ◌-◌, List, ◌++◌, length, take, drop}
use Rattle.link_model.specs.declared.lengths.TheConstants.{WHOLE_MOST}

-- what a window sees: how many bytes are still to be passed over, and those that are held
pub record Sight : Type 0 where
  pub skip : ℕ
  pub held : List ℕ

-- after these bytes have passed by
abbrev pub passed : Sight → List ℕ → Sight
passed w bytes = record {
  skip = w.skip - length bytes;
  held = w.held
      ++ take (WHOLE_MOST - length w.held) (drop w.skip bytes);
}

-- a window that takes no more
pub record IsFull (w : Sight) : Type 0 where
  pub begun : w.skip ≡ 0
  pub whole : length w.held ≡ WHOLE_MOST

-- so many of the words to come are read: none where the window is full, else all, but at most 127
abbrev pub IsWordCount : Sight → (count taken : ℕ) → Type 0
IsWordCount w count taken = (IsFull w × (taken ≡ 0)) ⊎ (taken ≡ min count 127)
