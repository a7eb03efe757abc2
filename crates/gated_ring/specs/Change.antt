-- What the calls on a ring leave of it, after them and at each moment.
use Rattle.std.specs.Prelude.{◌≡◌, ◌≢◌, ◌⊎◌, ℕ, ◌+◌, ◌-◌, ◌<◌, List, [], ◌∷◌, ◌++◌, map, replicate, if◌then◌else◌, ◌==◌}
use Rattle.std.specs.Prelude.{true, false, IfSome}
use Rattle.tach_media.specs.Medium.{State, put, SameOutside}
use Rattle.gated_ring.specs.Ring.{Shape, size_of, place_of, gate_of, pointer, PointsInside, is_there, entry_at, next}
use Rattle.gated_ring.specs.Ring.{indices, ring_list, indices_with, indices_without, taken, staying, with_head, IsDense}
use Rattle.gated_ring.specs.Ring.{newest_of, IsAtPointer}

-- the entries of other indices are the same in both images
abbrev pub SameOthers : Shape → ℕ → List ℕ → List ℕ → Type 0
SameOthers r i x c = (j : ℕ) → j < r.count → j ≢ i
    → (entry_at r c j ≡ entry_at r x j) × (is_there r c j ≡ is_there r x j)

-- the list without its first entry where that stood at the index that is taken; no entry is there
pub record IsShortened (r : Shape) (x c : List ℕ) : Type 0 where
  pub shut : is_there r c (taken r x) ≡ false
  pub indices_are : indices r c ≡ staying r x
  pub list_is : ring_list r c ≡ map (entry_at r x) (staying r x)
  -- a dense ring has room for one
  pub newest : IsDense r x → ring_list r c ≡ newest_of (r.count - 1) (ring_list r x)

-- that list, followed by the new entry
pub record IsExtended (r : Shape) (head x c : List ℕ) : Type 0 where
  pub there : is_there r c (taken r x) ≡ true
  pub entry : entry_at r c (taken r x) ≡ with_head r x (taken r x) head
  pub pointer_is : pointer r c ≡ taken r x
  pub next_is : taken r c ≡ next r (taken r x)
  pub indices_are : indices r c ≡ staying r x ++ taken r x ∷ []
  pub list_is : ring_list r c ≡ map (entry_at r x) (staying r x) ++ with_head r x (taken r x) head ∷ []
  -- a dense ring holds as many of the newest as it has places
  pub newest : IsDense r x → ring_list r c ≡ newest_of r.count (ring_list r x ++ with_head r x (taken r x) head ∷ [])

-- how many writes shut a gate: none where it is shut
abbrev pub shut_writes : Shape → List ℕ → ℕ → ℕ
shut_writes r x i = if is_there r x i then 1 else 0

-- how many writes move the pointer from one index to another: none where they are equal
abbrev pub pointer_writes : (last i : ℕ) → ℕ
pointer_writes last i = if last == i then 0 else 1

-- How many writes add an entry whose head is written at once: its gate is shut, the bytes before the gate and behind
-- it, the pointer, and the gate is opened.
abbrev pub adding_writes : Shape → List ℕ → ℕ
adding_writes r x = shut_writes r x (taken r x) + (3 + pointer_writes (pointer r x) (taken r x))

-- and how many replace one
abbrev pub replacing_writes : Shape → List ℕ → ℕ → ℕ
replacing_writes r x i = shut_writes r x i + 3

-- an image of a ring to which an entry is added: nothing is written yet, or one of these two lists
pub record IsAddStep (r : Shape) (head x c : List ℕ) : Type 0 where
  pub others : SameOthers r (taken r x) x c
  pub pointer_is : (pointer r c ≡ pointer r x) ⊎ (pointer r c ≡ taken r x)
  pub points : PointsInside r c
  pub list : (c ≡ x) ⊎ (IsShortened r x c ⊎ IsExtended r head x c)
  pub dense : IsDense r x → IsDense r c

-- a moment of an `add`: the list before, that list without the entry whose place is taken, or the new list
pub record IsAdding (r : Shape) (head x c : List ℕ) : Type 0 where
  pub outside : SameOutside r.base (size_of r) x c
  pub step : PointsInside r x → IsAddStep r head x c

-- after an `add`: the new list
pub record IsAdded (r : Shape) (head x y : List ℕ) : Type 0 where
  pub outside : SameOutside r.base (size_of r) x y
  pub others : PointsInside r x → SameOthers r (taken r x) x y
  pub points : PointsInside r x → PointsInside r y
  pub list : PointsInside r x → IsExtended r head x y
  pub dense : PointsInside r x → IsDense r x → IsDense r y

-- one entry is replaced
pub record IsReplaced (r : Shape) (i : ℕ) (head x y : List ℕ) : Type 0 where
  pub outside : SameOutside (place_of r i) r.width x y
  pub others : SameOthers r i x y
  pub there : is_there r y i ≡ true
  pub entry : entry_at r y i ≡ with_head r x i head
  pub pointer_is : pointer r y ≡ pointer r x
  pub indices_are : PointsInside r x → indices r y ≡ indices_with r x i
  pub list_is : PointsInside r x
      → ring_list r y ≡ map (λ j. if j == i then with_head r x i head else entry_at r x j) (indices_with r x i)

-- one entry is not there
pub record IsAbsent (r : Shape) (i : ℕ) (x c : List ℕ) : Type 0 where
  pub outside : SameOutside (place_of r i) r.width x c
  pub others : SameOthers r i x c
  pub shut : is_there r c i ≡ false
  pub pointer_is : pointer r c ≡ pointer r x
  pub indices_are : PointsInside r x → indices r c ≡ indices_without r x i
  pub list_is : PointsInside r x → ring_list r c ≡ map (entry_at r x) (indices_without r x i)
  -- without the entry at its pointer's index a dense ring is dense
  pub dense : PointsInside r x → i ≡ pointer r x → IsDense r x → IsDense r c

-- a moment of a `put_at`: the entry as it was, none, or the new one
abbrev pub IsReplacingEntry : Shape → ℕ → List ℕ → List ℕ → List ℕ → Type 0
IsReplacingEntry r i head x c = (c ≡ x) ⊎ (IsAbsent r i x c ⊎ IsReplaced r i head x c)

-- the four bytes of a gate are 0, and no other byte has changed
pub record IsClosed (r : Shape) (i : ℕ) (x y : List ℕ) : Type 0 where
  pub image_is : y ≡ put (gate_of r i) (replicate 4 0) x
  pub absent : IsAbsent r i x y

-- these bytes of an entry stand there, and no other byte has changed
pub record IsSet (r : Shape) (i offset : ℕ) (bytes x y : List ℕ) : Type 0 where
  pub image_is : y ≡ put (place_of r i + offset) bytes x
  pub outside : SameOutside (place_of r i) r.width x y
  pub others : SameOthers r i x y
  pub there : is_there r y i ≡ is_there r x i
  pub entry : entry_at r y i ≡ put offset bytes (entry_at r x i)
  pub pointer_is : pointer r y ≡ pointer r x
  pub indices_are : PointsInside r x → indices r y ≡ indices r x
  pub list_is : PointsInside r x
      → ring_list r y ≡ map (λ j. if j == i then put offset bytes (entry_at r x i) else entry_at r x j) (indices r x)

-- a write of a few bytes is whole or absent
abbrev pub OrUnwritten : (List ℕ → List ℕ → Type 0) → List ℕ → List ℕ → Type 0
OrUnwritten R x c = (c ≡ x) ⊎ R x c

-- AN ENTRY TOOK this index: the one that the image had for the next one
pub record TookNext (r : Shape) (old : State) (index : ℕ) : Type 0 where
  pub is : IfSome old.image (λ x. PointsInside r x → index ≡ taken r x)
  pub below : index < r.count

-- AN ENTRY TOOK this index behind that of the newest: the one after it, at which it is the newest now
pub record TookBehind (r : Shape) (last : ℕ) (new : State) (index : ℕ) : Type 0 where
  pub is : index ≡ next r last
  pub below : index < r.count
  pub newest : IfSome new.image (IsAtPointer r index)
