-- The places of a unit's events and faults behind a run in which calls failed (Annex IB, section III.12; profile): each
-- event is noted; or, where it is not sure, nothing has come of it, or the one place that it takes is empty.
use Rattle.std.specs.Prelude.{◌≡◌, ◌⊎◌, ℕ, ◌+◌, ◌≤◌, min, Bool, true, false, Option, Some, None, List, [], ◌∷◌}
use Rattle.std.specs.Prelude.{length, map, filter, slice_set, nat_eq, if◌then◌else◌}
use Rattle.event_model.specs.trace_model.declared.Card.{Card}
use Rattle.event_model.specs.Places.{place_of}
use Rattle.event_model.specs.Events.{Event}
use Rattle.note_model.specs.Tables.{held_in, held_of, IsNoted}

-- ---- the places of a type

-- the entry at a place is empty, and those at the others are as they were; where no place is taken, none is emptied
abbrev pub IsEmptiedAt : (kind : ℕ) → (old : List (List ℕ)) → Option ℕ → (new : List (List ℕ)) → Type 0
IsEmptiedAt kind old None new = ⊥
IsEmptiedAt kind old (Some i) new = (bytes : List ℕ) × (new ≡ slice_set old i bytes) × ((held_in kind bytes).begin ≡ 0)

-- the place that an event takes is empty
abbrev pub IsEmptiedFor : (old : List (List ℕ)) → Event → (new : List (List ℕ)) → Type 0
IsEmptiedFor old e new = IsEmptiedAt e.kind old (place_of e.kind (map (held_in e.kind) old) (held_of e)) new

module _ (number : Card → List ℕ) where
  -- an event was noted, or nothing has come of it, or its place is empty
  abbrev pub IsNotedOrNot : (old : List (List ℕ)) → Event → (new : List (List ℕ)) → Type 0
  IsNotedOrNot old e new = IsNoted number old e new ⊎ ((new ≡ old) ⊎ IsEmptiedFor old e new)

  -- a sure event was noted
  abbrev pub IsNotedSo : (is_sure : Bool) → (old : List (List ℕ)) → Event → (new : List (List ℕ)) → Type 0
  IsNotedSo true old e new = IsNoted number old e new
  IsNotedSo false old e new = IsNotedOrNot old e new

  -- THESE EVENTS WERE NOTED, one after the other, BUT those that are not sure
  abbrev pub AreNotedBut : (Event → Bool) → (old : List (List ℕ)) → List Event → (new : List (List ℕ)) → Type 0
  AreNotedBut sure old [] new = new ≡ old
  AreNotedBut sure old (e ∷ events) new = (next : List (List ℕ)) × IsNotedSo (sure e) old e next
      × AreNotedBut sure next events new

-- ---- the first over speeding, and their number

-- the begin of the first one behind one more: one that was held stays; where it is not sure, it may have stayed
abbrev pub IsFirstSo : (is_sure : Bool) → (held : ℕ) → Event → (now : ℕ) → Type 0
IsFirstSo true held e now = now ≡ (if nat_eq held 0 then e.begin else held)
IsFirstSo false held e now = (now ≡ held) ⊎ (now ≡ (if nat_eq held 0 then e.begin else held))

-- the begin of the first over speeding behind these, one after the other
abbrev pub IsFirstBut : (Event → Bool) → (held : ℕ) → List Event → (now : ℕ) → Type 0
IsFirstBut sure held [] now = now ≡ held
IsFirstBut sure held (e ∷ overs) now = (next : ℕ) × IsFirstSo (sure e) held e next × IsFirstBut sure next overs now

-- their number lies between that with the sure ones more and that with all of them, at most 255
pub record IsCountedBut (sure : Event → Bool) (held : ℕ) (overs : List Event) (now : ℕ) : Type 0 where
  pub least : min 255 (held + length (filter sure overs)) ≤ now
  pub most : now ≤ min 255 (held + length overs)
