-- The newest end of a string, as it was read.
use Rattle.std.specs.Prelude.{◌≡◌, ℕ, ◌+◌, ◌≤◌, ◌&&◌, List, Bool, nat_lt, take, IfSome}
use Rattle.tach_media.specs.Medium.{bytes_at, State}
use Rattle.card_model.specs.Image.{StringShape, IsPointer, oldest_pointer, newest_pointer, string_of, turned, at}
use Rattle.card_days.specs.declared.head.RecordHead.{RecordHead}
use Rattle.card_days.specs.declared.rear.TheConstants.{BLOCK}
use Rattle.card_days.specs.declared.rear.Block.{Block}
use Rattle.card_days.specs.declared.rear.Rear.{Rear}
use Rattle.card_days.specs.Heads.{head_bytes}

-- a day of this head is there, and it is later than a date
abbrev pub head_later : ℕ → RecordHead → Bool
head_later date h = nat_lt 0 h.len && nat_lt date h.date

-- the bytes of a block stand on the string
abbrev pub IsBlock : StringShape → Block → List ℕ → Type 0
IsBlock r b x = b.bytes ≡ bytes_at x (at r b.place) BLOCK

-- whatever was read, it lies on the string
pub record LiesOn (r : StringShape) (v : Rear) : Type 0 where
  pub oldest : IsPointer r.size v.oldest
  pub newest : IsPointer r.size v.newest
  pub block : v.block.place + BLOCK ≤ r.size

-- what was read is what the image tells
pub record IsRear (r : StringShape) (v : Rear) (x : List ℕ) : Type 0 where
  pub oldest : IsPointer r.size (oldest_pointer r x) → v.oldest ≡ oldest_pointer r x
  pub newest : IsPointer r.size (newest_pointer r x) → v.newest ≡ newest_pointer r x
  pub head : head_bytes v.head ≡ take 12 (turned v.newest (string_of r x))
  pub block : IsBlock r v.block x

-- THE ENDS OF THE STRING are known: both are pointers, and where those of the image are, these are they
pub record EndsAreKnown (r : StringShape) (oldest newest : ℕ) (U : State) : Type 0 where
  pub start : IsPointer r.size oldest
  pub end : IsPointer r.size newest
  pub oldest_is : IfSome U.image (λ x. IsPointer r.size (oldest_pointer r x) → oldest ≡ oldest_pointer r x)
  pub newest_is : IfSome U.image (λ x. IsPointer r.size (newest_pointer r x) → newest ≡ newest_pointer r x)

-- A BLOCK IS KNOWN: it lies in the string, and its bytes are those of the image
pub record BlockIsKnown (r : StringShape) (block : Block) (U : State) : Type 0 where
  pub inside : block.place + BLOCK ≤ r.size
  pub bytes : IfSome U.image (IsBlock r block)
