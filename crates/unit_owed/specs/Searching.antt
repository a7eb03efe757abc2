-- Rows that are looked through one after the other.
use Rattle.std.specs.List.{AllByRecursion}
use Rattle.std.specs.Prelude.{ℕ, ◌%◌, ◌≤◌, ◌<◌, ◌&&◌, Bool, Option, Some, None, List, [], ◌∷◌, if◌then◌else◌}
use Rattle.activity_codec.specs.declared.entries.Entry.{Entry}
use Rattle.unit_owed.specs.Owed.{Cell, entry_of, holds, counts, placed}

-- the row that was found before, else this one where it is one
abbrev pub or_this : Option ℕ → ℕ → Bool → Option ℕ
or_this (Some found) row is = Some found
or_this None row is = if is then Some row else None

-- entries with that of a cell, where it holds one that is owed
abbrev pub with_owed : (session after kept : ℕ) → List Entry → (place : ℕ) → Cell → List Entry
with_owed session after kept es i c = if holds i c && counts session after kept c.minute then placed es (entry_of c)
    else es

-- what is owed: minutes that rise, later than one and not later than another, and none of the first day
abbrev pub IsSane : (after kept : ℕ) → List Entry → Type 0
IsSane after kept [] = Unit {0}
IsSane after kept (e ∷ es) = (after < e.minute) × (1440 ≤ e.minute) × (e.minute ≤ kept) × IsSane e.minute kept es

-- each at a place below one
abbrev pub AreBelow : ℕ → List Entry → Type 0
AreBelow i es = AllByRecursion (λ e. e.minute % 4 < i) es
