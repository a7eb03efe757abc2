-- What is said of a refusal.
use Rattle.std.specs.Prelude.{ℕ, Bool, true, false, Result, Ok, Err}
use Rattle.card_layout.specs.declared.files.Fid.{Fid}
use Rattle.card_validity.specs.declared.fault.InsertFault.{InsertFault}
use Rattle.card_validity.specs.declared.fault.InsertFault.TheVariants.{Failed, NotValid, TimeOverlap}

-- a fact of the file and the place, where the card is not valid
abbrev pub IfNotValid : InsertFault → (Fid → ℕ → Type 0) → Type 0
IfNotValid Failed P = Unit {0}
IfNotValid (NotValid fid place) P = P fid place
IfNotValid (TimeOverlap stored now) P = Unit {0}

-- a fact of the stored time and now, where the one is later
abbrev pub IfTimeOverlap : InsertFault → (ℕ → ℕ → Type 0) → Type 0
IfTimeOverlap Failed P = Unit {0}
IfTimeOverlap (NotValid fid place) P = Unit {0}
IfTimeOverlap (TimeOverlap stored now) P = P stored now

-- a call on the card failed
abbrev pub has_failed : {T : Type 0} → Result T InsertFault → Bool
has_failed (Ok v) = false
has_failed (Err Failed) = true
has_failed (Err (NotValid fid place)) = false
has_failed (Err (TimeOverlap stored now)) = false
