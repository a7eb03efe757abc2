-- A ring of entries inside an image: a pointer, and behind it places of one width. An entry is there where its gate is
-- not 0.
use Rattle.std.specs.Prelude.{◌≡◌, ◌≢◌, ◌⊎◌, ℕ, ◌+◌, ◌-◌, ◌*◌, ◌^◌, ◌<◌, ◌≤◌, Bool, not, ◌||◌}
use Rattle.std.specs.Prelude.{List, [], ◌∷◌, ◌++◌, length}
use Rattle.std.specs.Prelude.{drop, map, filter, if◌then◌else◌, ◌==◌, true, Option, Some, None}
use Rattle.std.specs.List.{range_with_len}
pub use Rattle.tach_media.specs.card_layout.Images.{number_at}
use Rattle.tach_media.specs.Medium.{State, bytes_at}

-- where a ring begins, how wide an entry is, how many places there are, how wide the pointer is, and where the gate
-- stands in an entry
pub record Shape : Type 0 where
  pub base : ℕ
  pub width : ℕ
  pub count : ℕ
  pub pointer_width : ℕ
  pub gate : ℕ

-- how many bytes the ring has
abbrev pub size_of : Shape → ℕ
size_of r = r.pointer_width + r.count * r.width

-- no pointer, or one of 1, 2 or 4 bytes
abbrev pub is_pointer_width : ℕ → Bool
is_pointer_width w = (w == 0) || ((w == 1) || ((w == 2) || (w == 4)))

-- the numbers of a ring fit one another: it has a place, a gate lies in an entry, the pointer can name each place, and
-- it ends below 2 ^ 32
pub record IsShape (r : Shape) : Type 0 where
  pub some : 0 < r.count
  pub gate : r.gate + 4 ≤ r.width
  pub pointer : r.pointer_width ≤ 4
  pub holds : 0 < r.pointer_width → r.count ≤ 256 ^ r.pointer_width
  pub short : r.base + size_of r < 2 ^ 32

-- the ring lies inside the medium
abbrev pub FitsIn : Shape → State → Type 0
FitsIn r s = r.base + size_of r ≤ s.size

-- where an entry begins
abbrev pub place_of : Shape → ℕ → ℕ
place_of r i = r.base + r.pointer_width + i * r.width

-- where its gate begins
abbrev pub gate_of : Shape → ℕ → ℕ
gate_of r i = place_of r i + r.gate

-- the index of the newest entry; 0 in a ring without a pointer
abbrev pub pointer : Shape → List ℕ → ℕ
pointer r x = number_at x r.base r.pointer_width

-- the image is one that a ring stands for: its pointer is an index
abbrev pub PointsInside : Shape → List ℕ → Type 0
PointsInside r x = pointer r x < r.count

-- an entry is there: its gate is not 0
abbrev pub is_there : Shape → List ℕ → ℕ → Bool
is_there r x i = not (number_at x (gate_of r i) 4 == 0)

-- the bytes of the entry at an index
abbrev pub entry_at : Shape → List ℕ → ℕ → List ℕ
entry_at r x i = bytes_at x (place_of r i) r.width

-- the index after this one, round the end
abbrev pub next : Shape → ℕ → ℕ
next r i = if i + 1 == r.count then 0 else i + 1

-- the indices from this one round to the one before it
abbrev pub order : Shape → ℕ → List ℕ
order r i = range_with_len i (r.count - i) ++ range_with_len 0 i

-- the indices of the entries that are there, from the one after the pointer round to the pointer
unfoldable pub indices : Shape → List ℕ → List ℕ
indices r x = filter (is_there r x) (order r (next r (pointer r x)))

-- the list of a ring, the newest entry last
abbrev pub ring_list : Shape → List ℕ → List (List ℕ)
ring_list r x = map (entry_at r x) (indices r x)

-- the indices in the list's order that are there, or are this one
unfoldable pub indices_with : Shape → List ℕ → ℕ → List ℕ
indices_with r x i = filter (λ j. (j == i) || is_there r x j) (order r (next r (pointer r x)))

-- those that are there, but for this one
unfoldable pub indices_without : Shape → List ℕ → ℕ → List ℕ
indices_without r x i = filter (λ j. not (j == i)) (indices r x)

-- the entry at this index is there, and is the last of the list
pub record IsLast (r : Shape) (x : List ℕ) (i : ℕ) : Type 0 where
  pub below : i < r.count
  pub there : is_there r x i ≡ true
  pub older : List ℕ
  pub indices_are : indices r x ≡ older ++ i ∷ []

-- this is the index of the newest entry, None where no entry is there
abbrev pub IsNewest : Shape → List ℕ → Option ℕ → Type 0
IsNewest r x None = indices r x ≡ []
IsNewest r x (Some i) = IsLast r x i

-- the index that the next entry takes: the pointer's own where no entry is there, else the next
abbrev pub taken : Shape → List ℕ → ℕ
taken r x = if is_there r x (pointer r x) then next r (pointer r x) else pointer r x

-- an entry is there at the pointer, which is this index
pub record IsAtPointer (r : Shape) (i : ℕ) (x : List ℕ) : Type 0 where
  pub pointer_is : pointer r x ≡ i
  pub there : is_there r x i ≡ true

-- a list without its first, where that is this one
abbrev pub without_first : ℕ → List ℕ → List ℕ
without_first i [] = []
without_first i (j ∷ js) = if j == i then js else j ∷ js

-- the indices of the list without its first entry where that stands at the index that the next one takes
abbrev pub staying : Shape → List ℕ → List ℕ
staying r x = without_first (taken r x) (indices r x)

-- the entry that stands at an index after its beginning was written: what lies behind a short head is as it was
abbrev pub with_head : Shape → List ℕ → ℕ → List ℕ → List ℕ
with_head r x i head = head ++ drop (length head) (entry_at r x i)

-- the bytes of the gate in a head
abbrev pub gate_bytes : Shape → List ℕ → List ℕ
gate_bytes r head = bytes_at head r.gate 4

-- the number in the gate of a head
abbrev pub gate_number : Shape → List ℕ → ℕ
gate_number r head = number_at head r.gate 4

-- the n indices that end with this one, round the end
abbrev pub up_to : Shape → ℕ → ℕ → List ℕ
up_to r i n = drop (r.count - n) (order r (next r i))

-- the entries that are there stand one after the other, round the end, and the last of them stands here, at the
-- pointer's index or at the one before it
pub record IsRun (r : Shape) (x : List ℕ) (last : ℕ) : Type 0 where
  pub below : last < r.count
  pub at_pointer : (last ≡ pointer r x) ⊎ (next r last ≡ pointer r x)
  pub len : ℕ
  pub few : len ≤ r.count
  pub indices_are : indices r x ≡ up_to r last len

-- the ring is empty, or its entries stand so
abbrev pub IsDense : Shape → List ℕ → Type 0
IsDense r x = (indices r x ≡ []) ⊎ ((last : ℕ) × IsRun r x last)

-- the last n of a list, or all where there are fewer
abbrev pub newest_of : {X : Type 0} → ℕ → List X → List X
newest_of n l = drop (length l - n) l

-- THE HEAD OF AN ENTRY that is written at once: its gate lies in it and is not 0, and it is no longer than an entry
pub record IsHead (r : Shape) (head : List ℕ) : Type 0 where
  pub gate : r.gate + 4 ≤ length head
  pub width : length head ≤ r.width
  pub short : length head ≤ 254
  pub opens : gate_number r head ≢ 0
