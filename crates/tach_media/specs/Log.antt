-- The writes that a medium in memory has begun, and the images that a stop might have left.
use Rattle.std.specs.Prelude.{◌≡◌, ◌⊎◌, ℕ, zero, suc, ◌+◌, List, [], ◌∷◌, ◌++◌, length, take, drop, replicate, Bool}
use Rattle.std.specs.Prelude.{◌&&◌, if◌then◌else◌, nat_le, nat_lt}
use Rattle.card_layout.specs.Fields.{IsBytes}
use Rattle.tach_media.specs.Medium.{put, IsPartlyWritten}
use Rattle.tach_media.specs.declared.log.Entry.{Entry}
use Rattle.tach_media.specs.declared.log.Left.{Left}
use Rattle.tach_media.specs.declared.log.Left.TheVariants.{Before, After, Torn}

-- an image, and the writes that were begun on it, whose bytes stand one after the other; there is room for so many
-- writes with so many bytes
pub record History : Type 0 where
  pub start : List ℕ
  pub entries : List Entry
  pub written : List ℕ
  pub most_writes : ℕ
  pub most_bytes : ℕ

-- the image after a write that ended so
abbrev pub image_left : Left → ℕ → List ℕ → List ℕ → List ℕ
image_left Before place bytes image = image
image_left After place bytes image = put place bytes image
image_left (Torn fill) place bytes image = if nat_le (length bytes) 4 then image
    else put place (replicate (length bytes) fill) image

-- the image after these writes
abbrev pub image_after : List Entry → List ℕ → List ℕ → List ℕ
image_after [] bytes image = image
image_after (e ∷ entries) bytes image = image_after entries (drop e.len bytes)
    (image_left e.left e.place (take e.len bytes) image)

-- the image after all writes of a history
abbrev pub image_of : History → List ℕ
image_of h = image_after h.entries h.written h.start

-- how many bytes they have
abbrev pub bytes_of : List Entry → ℕ
bytes_of [] = 0
bytes_of (e ∷ entries) = e.len + bytes_of entries

-- one write more, on a medium that had broken down so often
abbrev pub add : History → ℕ → Left → (broken : ℕ) → List ℕ → History
add h place left broken bytes = record h {
  entries = h.entries ++ (record { place = place; len = length bytes; left = left; broken = broken })
      ∷ [];
  written = h.written ++ bytes;
}

-- the medium had broken down n times as the write behind the first t of these was begun
abbrev pub BrokenAsBegun : List Entry → (t n : ℕ) → Type 0
BrokenAsBegun [] t n = ⊥
BrokenAsBegun (e ∷ entries) zero n = n ≡ e.broken
BrokenAsBegun (e ∷ entries) (suc t) n = BrokenAsBegun entries t n

-- there is room for a write of so many bytes
abbrev pub has_room : History → ℕ → Bool
has_room h len = nat_lt (length h.entries) h.most_writes && nat_le (length h.written + len) h.most_bytes

-- a stop might have left c, which is of bytes, at a moment after the first t of these writes had ended
abbrev pub MightLeave : List Entry → List ℕ → List ℕ → ℕ → List ℕ → Type 0
MightLeave [] bytes image t c = c ≡ image
MightLeave (e ∷ entries) bytes image zero c = (IsPartlyWritten e.place (take e.len bytes) image c × IsBytes c)
    ⊎ MightLeave entries (drop e.len bytes) (image_left e.left e.place (take e.len bytes) image) zero c
MightLeave (e ∷ entries) bytes image (suc t) c = MightLeave entries (drop e.len bytes)
    (image_left e.left e.place (take e.len bytes) image) t c
