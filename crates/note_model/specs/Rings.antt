-- What the rings of insertions and places of a unit show of a run (profile).
use Rattle.std.specs.Prelude.{◌≡◌, ◌⊎◌, ℕ, ◌+◌, ◌<◌, ◌≤◌, Bool, true, false, not, Option, Some, None, List, [], ◌∷◌}
use Rattle.std.specs.Prelude.{◌++◌, length, filter, if◌then◌else◌, Contains}
use Rattle.message_model.specs.card_layout.Fields.{field_at, number_in}
use Rattle.event_model.specs.activity_codec.Words.{slot_number}
use Rattle.event_model.specs.trace_model.declared.Card.{Card}
use Rattle.message_model.specs.unit_model.Ring.{Shape, PointsInside, indices, ring_list, taken, IsDense}
use Rattle.history_model.specs.log_model.Log.{RunLog}
use Rattle.message_model.specs.Records.{insertion_widths, place_widths}
use Rattle.note_model.specs.Done.{has_failed_in}
use Rattle.note_model.specs.Odometer.{SpanFrom, odometer_at}
use Rattle.note_model.specs.Noted.{InsertionNote, PlaceNote}

-- what is known of a card's holder, as bytes: surname, first names, card number, expiry
pub record Holder : Type 0 where
  pub surname : List ℕ
  pub first_names : List ℕ
  pub number : List ℕ
  pub expiry : List ℕ

-- Entries stand for these notes in their order; a note that is not sure may be missing.
abbrev pub Stand : {N : Type 0} → (N → Bool) → (N → List ℕ → Type 0) → List N → List (List ℕ) → Type 0
Stand is_sure Is [] entries = entries ≡ []
Stand is_sure Is (n ∷ notes) entries =
    ((e : List ℕ) × (rest : List (List ℕ)) × (entries ≡ e ∷ rest) × Is n e × Stand is_sure Is notes rest)
    ⊎ ((is_sure n ≡ false) × Stand is_sure Is notes entries)

-- how many of these notes are not sure
abbrev pub unsure_count : {N : Type 0} → (N → Bool) → List N → ℕ
unsure_count is_sure notes = length (filter (λ n. not (is_sure n)) notes)

-- an index lies so many places ahead of another, round the end
abbrev pub LiesAhead : Shape → (from places at : ℕ) → Type 0
LiesAhead r from places at = (at ≡ from + places) ⊎ (at + r.count ≡ from + places)

-- a ring that so many entries did not bring round: the index that the next one takes lies no more places ahead of the
-- one that it was at the start
abbrev pub HasTurned : Shape → (entries : ℕ) → (start x : List ℕ) → Type 0
HasTurned r entries start x = entries < r.count
    → (places : ℕ) × (places ≤ entries) × LiesAhead r (taken r start) places (taken r x)

-- each entry that stood at the start at none of so many places, from the next one on, stands still, at its index
abbrev pub FarOnesStand : Shape → (entries : ℕ) → (start x : List ℕ) → Type 0
FarOnesStand r entries start x = (places at : ℕ) → entries ≤ places → places < r.count
    → LiesAhead r (taken r start) places at → Contains (indices r start) at → Contains (indices r x) at

-- A RING LOSES NO OTHERS, whether it had a gap at the start or none: it shows no fewer entries than then, but for one
-- for each note that is not sure (`many`); and each note brings it on by one place at most (`turned`), and takes no
-- entry but that which stood there, if one did (`far`).
pub record AreNoFewer {N : Type 0} (r : Shape) (is_sure : N → Bool) (notes : List N) (start x : List ℕ) : Type 0 where
  pub begins : PointsInside r start
  pub many : length (ring_list r start) ≤ length (ring_list r x) + unsure_count is_sure notes
  pub turned : HasTurned r (length notes) start x
  pub far : FarOnesStand r (length notes) start x

-- A RING SHOWS what it showed at the start and entries that stand for the notes. Some are gone at its old end, but no
-- more than entries came, or notes are not sure, and none but of the places that these take, from the next one on
-- (`few`); and of a ring that was dense at the start only where it is full, or lacks one entry.
pub record RingShows {N : Type 0} (r : Shape) (is_sure : N → Bool) (Is : N → List ℕ → Type 0) (notes : List N)
    (start x : List ℕ) : Type 0 where
  pub more : List (List ℕ)
  pub stand : Stand is_sure Is notes more
  pub gone : List (List ℕ)
  pub shown : ring_list r start ++ more ≡ gone ++ ring_list r x
  pub full : IsDense r start → (gone ≡ []) ⊎ (r.count ≤ length (ring_list r x) + 1)
  pub few : AreNoFewer r is_sure notes start x

-- the type of a place entry (Appendix 1, EntryTypeDailyWorkPeriod): 0 where the day begins, 1 where it ends
abbrev pub kind_of : (ending : Bool) → ℕ
kind_of ending = if ending then 1 else 0

module _ (log : RunLog) (spans : List SpanFrom) (holder : Card → Holder) where
  -- the withdrawal that an entry tells: none, or its second and odometer; of a second in which a call on the unit
  -- failed also none, or the second alone
  abbrev pub TellsWithdrawal : Option ℕ → (time odometer : ℕ) → Type 0
  TellsWithdrawal None time odometer = (time ≡ 0) × (odometer ≡ 0)
  TellsWithdrawal (Some u) time odometer =
      ((time ≡ u) × (odometer ≡ odometer_at u spans))
      ⊎ ((has_failed_in log u ≡ true) × ((time ≡ 0) ⊎ (time ≡ u)) × (odometer ≡ 0))

  -- an entry of an insertion; the previous vehicle is one that the card told
  pub record IsInsertion (Tells : Card → (registration : List ℕ) → (time : ℕ) → Type 0) (i : InsertionNote)
      (e : List ℕ) : Type 0 where
    pub size : length e ≡ 129
    pub surname : field_at insertion_widths 0 e ≡ (holder i.accepted.card).surname
    pub first_names : field_at insertion_widths 1 e ≡ (holder i.accepted.card).first_names
    pub number : field_at insertion_widths 2 e ≡ (holder i.accepted.card).number
    pub expiry : field_at insertion_widths 3 e ≡ (holder i.accepted.card).expiry
    pub time : number_in insertion_widths 4 e ≡ i.accepted.second
    pub odometer : number_in insertion_widths 5 e ≡ odometer_at i.accepted.second spans
    pub slot : number_in insertion_widths 6 e ≡ slot_number i.accepted.slot
    pub withdrawal : TellsWithdrawal i.withdrawn (number_in insertion_widths 7 e) (number_in insertion_widths 8 e)
    pub previous : Tells i.accepted.card (field_at insertion_widths 9 e) (number_in insertion_widths 10 e)
    pub by_hand : number_in insertion_widths 11 e ≡ 0

  -- an entry of a place: begin or end of the day, entered with its second
  pub record IsPlace (p : PlaceNote) (e : List ℕ) : Type 0 where
    pub size : length e ≡ 28
    pub number : field_at place_widths 0 e ≡ (holder p.card).number
    pub time : number_in place_widths 1 e ≡ p.second
    pub kind : number_in place_widths 2 e ≡ kind_of p.ending
    pub country : number_in place_widths 3 e ≡ p.country
    pub region : number_in place_widths 4 e ≡ p.region
    pub odometer : number_in place_widths 5 e ≡ odometer_at p.second spans

  -- an insertion is sure: it was noted in a second in which no call on the unit failed
  abbrev pub is_sure_insertion : InsertionNote → Bool
  is_sure_insertion i = not (has_failed_in log i.accepted.second)

  -- a place is sure: it was noted in a second in which no call on the unit failed
  abbrev pub is_sure_place : PlaceNote → Bool
  is_sure_place p = not (has_failed_in log p.second)
