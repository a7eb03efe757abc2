-- The unit over a note: it is the same, what the journal knows is so still, and each row is there; and what might be left of a device.
use Rattle.std.proofs.Common.{◌≡◌, ◌∙◌, ⊎_elim, ℕ, ◌-◌, ◌<◌, ◌≤◌, true, Option, List, IfSome, ap, subst, sym, arith}
use Rattle.std.specs.Prelude.{Result}
use Rattle.tach_media.proofs.card_layout.Images.{part_in}
use Rattle.tach_media.specs.Medium.{State, IsCoherent, LeavesOnly, bytes_at}
use Rattle.tach_media.proofs.Runs.{at_image, if_told}
use Rattle.unit_model.specs.Image.{IsUnit}
use Rattle.unit_model.specs.declared.layout.TheConstants.{INSERTIONS, OWED, SPARE_COUNTS}
use Rattle.unit_minutes.specs.unit_owed.Owed.{rows_in, row_index}
use Rattle.unit_minutes.specs.unit_owed.Rows.{begun_index, IsRowAt, IsRowFor}
use Rattle.unit_minutes.specs.declared.notes.Notes.{Notes}
use Rattle.unit_minutes.specs.Image.{Agrees}
use Rattle.unit_minutes.proofs.Beside.{agrees_beside}
use Rattle.unit_notes.specs.Journal.{KeepsJournal, LeavesJournal}
use Rattle.unit_notes.proofs.Journals.{same_journal}
use Rattle.trace_model.specs.declared.Card.{Card}
use Rattle.trace_model.specs.declared.Card.TheVariants.{A, B}
use Rattle.tach_media.specs.card_layout.declared.files.Application.{Application}
use Rattle.tacho_types.specs.CardNumber.{card_number_bytes}
use Rattle.run_crew.specs.declared.cards.Accepted.{Accepted}
use Rattle.run_crew.specs.declared.cards.Cards.{Cards}
use Rattle.run_crew.specs.Cards.{known_of, with_session, with_sizes}
use Rattle.run_minutes.specs.Keeping.{HasLeftMore, HasItsRow}
use Rattle.run_minutes.proofs.Sessions.{number-set, row-set}

-- a card of which number and row are known as before has its row still
pub has-row : (old new : Cards) (U V : State) (card : Card) → (known_of new card).number ≡ (known_of old card).number → (known_of new card).row ≡ (known_of old card).row
    → ((r : ℕ) (n : List ℕ) → IfSome U.image (IsRowAt r n) → IfSome V.image (IsRowAt r n)) → HasItsRow old U card → HasItsRow new V card
has-row old new U V card number row still h = record {
  number = h.number;
  told = number ∙ h.told;
  low = subst (λ (k : ℕ). k < 8) (sym row) h.low;
  row = subst (λ (k : ℕ). IfSome V.image (IsRowAt k (card_number_bytes h.number))) (sym row) (still (known_of old card).row (card_number_bytes h.number) h.row);
}

-- so it has where a session begins or ends, or it tells its sizes
pub row-beside : (c : Card) (s : Option Accepted) (cards : Cards) (U : State) (card : Card) → HasItsRow cards U card → HasItsRow (with_session c s cards) U card
row-beside c s cards U card h = has-row cards (with_session c s cards) U U card (number-set c card s cards) (row-set c card s cards) (λ r n at. at) h

pub row-measured : (c : Card) (sizes : Result Application ℕ) (cards : Cards) (U : State) (card : Card) → HasItsRow cards U card → HasItsRow (with_sizes c sizes cards) U card
row-measured A sizes cards U A h = record { number = h.number; told = h.told; low = h.low; row = h.row }
row-measured A sizes cards U B h = record { number = h.number; told = h.told; low = h.low; row = h.row }
row-measured B sizes cards U A h = record { number = h.number; told = h.told; low = h.low; row = h.row }
row-measured B sizes cards U B h = record { number = h.number; told = h.told; low = h.low; row = h.row }

-- it is a unit still
pub unit-stays : {U V : State} {R : List ℕ → List ℕ → Type 0} → LeavesOnly U V R → IsUnit U → IsUnit V
unit-stays {U} {V} run is = record {
  sized = run.size ∙ is.sized;
  behind = run.behind ∙ is.behind;
  writable = rw run.writable is.writable;
}

-- a note leaves the owed rows
pub rows-noted : (x c : List ℕ) → KeepsJournal x c → rows_in c ≡ rows_in x
rows-noted x c keeps =
    sym (part_in c SPARE_COUNTS.place (INSERTIONS.place - SPARE_COUNTS.place) (OWED.place - SPARE_COUNTS.place) OWED.size (omega arith))
    ∙ ap (λ (l : List ℕ). bytes_at l (OWED.place - SPARE_COUNTS.place) OWED.size) keeps.rest
    ∙ part_in x SPARE_COUNTS.place (INSERTIONS.place - SPARE_COUNTS.place) (OWED.place - SPARE_COUNTS.place) OWED.size (omega arith)

module _ {U V : State} (before : IsCoherent U) (after : IsCoherent V) (works : U.works ≡ true) (run : LeavesOnly U V LeavesJournal) where
  -- what holds of the image before, and of each that it is noted on, holds of that after
  noted-image : (P : List ℕ → Type 0) → ((x c : List ℕ) → P x → LeavesJournal x c → P c) → IfSome U.image P → IfSome V.image P
  noted-image P goes said =
      if_told V.image P (λ c is. ⊎_elim
      (λ old. at_image P (before.only c works old) said)
      (λ here. goes here.0 c (at_image P here.1 said) here.2) (run.now c (after.is_left c is)))

  pub agrees-noted : (j : Notes) → IfSome U.image (Agrees j) → IfSome V.image (Agrees j)
  agrees-noted j said = noted-image (Agrees j) (λ x c is same. agrees_beside x c (same_journal x c same.keeps) j is) said

  pub row-noted : (r : ℕ) (n : List ℕ) → IfSome U.image (IsRowAt r n) → IfSome V.image (IsRowAt r n)
  row-noted r n said = noted-image (IsRowAt r n) (λ x c is same. ap (λ (rows : List ℕ). row_index n rows) (rows-noted x c same.keeps) ∙ is) said

  pub row-for-noted : (r : ℕ) (n : List ℕ) (spared : Option (List ℕ)) → IfSome U.image (IsRowFor r n spared) → IfSome V.image (IsRowFor r n spared)
  row-for-noted r n spared said = noted-image (IsRowFor r n spared) (λ x c is same. ap (λ (rows : List ℕ). begun_index n spared rows) (rows-noted x c same.keeps) ∙ is) said

-- what might be left might be left still, behind one call and another
pub left-then : (U V W : State) → HasLeftMore U V → U.clock ≤ V.clock → HasLeftMore V W → HasLeftMore U W
left-then U V W first later next = λ t x le left. next t x (omega (arith, le, later)) (first t x le left)
