-- The owed rows go on from the start's, over each step of a unit.
use Rattle.std.proofs.Common.{◌≡◌, ℕ, ◌+◌, ◌-◌, ◌≤◌, List, Option, Some, ap, subst, sym, ◌∙◌, arith}
use Rattle.unit_minutes.specs.activity_codec.declared.entries.Entry.{Entry}
use Rattle.tach_media.specs.Medium.{bytes_at}
use Rattle.unit_minutes.specs.unit_model.declared.layout.TheConstants.{FIRST_OVER, OWED, DAYS}
use Rattle.unit_minutes.specs.unit_model.Image.{last_kept}
use Rattle.unit_minutes.proofs.unit_model.Numbers.{part_in}
use Rattle.unit_minutes.specs.unit_owed.Owed.{rows_in}
use Rattle.unit_minutes.specs.unit_owed.Rows.{IsPutting, IsRowBeginning}
use Rattle.unit_minutes.specs.unit_owed.Standing.{IsOneOf, RowsGoOn, AreMended}
use Rattle.unit_minutes.proofs.unit_owed.Standing.{goes-start, goes-kept, goes-mending, mended-mending, goes-mended, goes-put, mended-put, goes-begun, mended-begun}
use Rattle.unit_minutes.specs.declared.notes.Notes.{Notes}
use Rattle.unit_minutes.specs.Keeping.{SameBesides}
use Rattle.unit_minutes.specs.Mends.{IsMending, IsMended}
use Rattle.unit_minutes.proofs.MendedOwed.{rows_mending, rows_mended}
use Rattle.unit_rule.specs.Rule.{Started, IsCards, HasRowsOn, HasRowsMended}
use Rattle.unit_rule.proofs.Mending.{mark-kept, mending-odometer}

-- a step of the rows, and of those that were mended
abbrev pub AreRowsOn : Started → List ℕ → List ℕ → Type 0
AreRowsOn s p c = (HasRowsOn s p → HasRowsOn s c) × (HasRowsOn s p → HasRowsMended s p → HasRowsMended s c)

-- the rows are within other bytes
rows-within : (p c : List ℕ) (a w : ℕ) → a ≤ OWED.place → OWED.place + OWED.size ≤ a + w → bytes_at c a w ≡ bytes_at p a w → rows_in c ≡ rows_in p
rows-within p c a w low high same = sym (of_part c) ∙ ap (λ (l : List ℕ). bytes_at l (OWED.place - a) OWED.size) same ∙ of_part p
  where
    of_part : (l : List ℕ) → bytes_at (bytes_at l a w) (OWED.place - a) OWED.size ≡ rows_in l
    of_part l =
        let at : a + (OWED.place - a) ≡ OWED.place = omega (arith, low) in
        part_in l a w (OWED.place - a) OWED.size (omega (arith, low, high)) ∙ ap (λ (q : ℕ). bytes_at l q OWED.size) at

-- they lie between the odometer and the days
pub rows-besides : (p c : List ℕ) → SameBesides p c → rows_in c ≡ rows_in p
rows-besides p c is = rows-within p c FIRST_OVER.place (DAYS.place - FIRST_OVER.place) (omega arith) (omega arith) is.between

pub rows-start : (s : Started) (x : List ℕ) → s.image ≡ x → HasRowsOn s x
rows-start s x is = subst (HasRowsOn s) is (goes-start (IsOneOf s.number_a s.number_b) s.image)

-- A STEP that leaves rows and mark
pub rows-beside : (s : Started) (p c : List ℕ) → rows_in c ≡ rows_in p → last_kept c ≡ last_kept p → AreRowsOn s p c
rows-beside s p c rows mark = (
  λ goes. subst (λ (l : List ℕ). RowsGoOn (IsOneOf s.number_a s.number_b) s.image l (last_kept c)) (sym rows) (subst (λ (n : ℕ). RowsGoOn (IsOneOf s.number_a s.number_b) s.image (rows_in p) n) (sym mark) goes),
  λ goes low. subst (λ (l : List ℕ). AreMended (IsOneOf s.number_a s.number_b) s.image l) (sym rows) low,
)

-- A KEEP, once the unit was mended
pub rows-kept : (s : Started) (p c : List ℕ) → rows_in c ≡ rows_in p → last_kept p ≤ last_kept c → HasRowsOn s p → HasRowsMended s p → HasRowsOn s c
rows-kept s p c rows on goes low = subst (λ (l : List ℕ). RowsGoOn (IsOneOf s.number_a s.number_b) s.image l (last_kept c)) (sym rows) (goes-kept (IsOneOf s.number_a s.number_b) s.image (rows_in p) (last_kept p) (last_kept c) goes low on)

pub low-kept : (s : Started) (p c : List ℕ) → rows_in c ≡ rows_in p → HasRowsMended s p → HasRowsMended s c
low-kept s p c rows low = subst (λ (l : List ℕ). AreMended (IsOneOf s.number_a s.number_b) s.image l) (sym rows) low

-- A MEND, at each moment, and behind it
pub rows-mends : (s : Started) (j : Notes) (p c : List ℕ) → IsMending j p c → AreRowsOn s p c
rows-mends s j p c is = (
  λ goes. goes-mending (IsOneOf s.number_a s.number_b) s.image p c (rows_mending j p c is) (mending-odometer j p c is).1 goes,
  λ goes low. mended-mending (IsOneOf s.number_a s.number_b) s.image p c (rows_mending j p c is) (mending-odometer j p c is).1 goes low,
)

pub rows-low : (s : Started) (p c : List ℕ) → IsMended p c → HasRowsOn s p → HasRowsMended s c
rows-low s p c is goes = goes-mended (IsOneOf s.number_a s.number_b) s.image p c (rows_mended p c is) (mark-kept p c is.outside.before) goes is.cells

-- AN ENTRY PUT for a card's number, and its ROW BEGUN
module _ (s : Started) (number : List ℕ) (whose : IsCards s number) (p c : List ℕ) (mark : last_kept c ≡ last_kept p) where
  pub rows-put : (e : Entry) → IsPutting number e p c → AreRowsOn s p c
  rows-put e is = (
    λ goes. goes-put s.number_a s.number_b s.image number whose p c goes e mark is,
    λ goes low. mended-put s.number_a s.number_b s.image number whose p c goes e mark is low,
  )

  pub rows-begun : (session : ℕ) (spared : Option (List ℕ)) → ((n : List ℕ) → spared ≡ Some n → IsCards s n) → IsRowBeginning number session spared p c → AreRowsOn s p c
  rows-begun session spared spare is = (
    λ goes. goes-begun s.number_a s.number_b s.image number whose p c goes session spared spare mark is,
    λ goes low. mended-begun s.number_a s.number_b s.image number whose p c goes session spared spare mark is low,
  )
