-- Hearing byte after byte: what is kept of a frame that has begun, and what is heard at its last byte.
use Rattle.std.specs.Prelude.{ℕ, ◌+◌, ◌==◌, ◌&&◌, ◌||◌, not, nat_lt, Bool, true, if◌then◌else◌, List, [], ◌∷◌, ◌++◌}
use Rattle.std.specs.Prelude.{length, drop, slice_index, Option, Some, None, option_to_list}
use Rattle.link_model.specs.declared.side.End.{End}
use Rattle.link_model.specs.declared.side.End.TheVariants as side
use Rattle.link_model.specs.declared.services.TheConstants.{LONG_FORM, SHORT_FORM}
use Rattle.link_model.specs.Frames.{Heard, judged, second, third}

-- a frame may begin with this byte
abbrev pub starts : End → ℕ → Bool
starts side.Unit byte = byte == LONG_FORM || byte == SHORT_FORM
starts side.Loader byte = byte == LONG_FORM

-- the bytes are the beginning of a frame, or begin with one
abbrev pub looks_right : End → List ℕ → Bool
looks_right end [] = true
looks_right end (a ∷ []) = starts end a
looks_right end (a ∷ b ∷ []) = starts end a && b == second end
looks_right end (a ∷ b ∷ c ∷ []) = starts end a && b == second end && c == third end
looks_right end (a ∷ b ∷ c ∷ d ∷ more) = starts end a && b == second end && c == third end
    && (a == SHORT_FORM || not (d == 0))

-- how many bytes the frame has that begins so; none has fewer than five
abbrev pub size_of : List ℕ → ℕ
size_of (a ∷ b ∷ c ∷ d ∷ more) = if a == SHORT_FORM then 5 else d + 5
size_of bytes = 5

-- how many bytes stand before the data
abbrev pub header_size : List ℕ → ℕ
header_size bytes = if slice_index bytes 0 == SHORT_FORM then 3 else 4

-- a frame that has begun, of which a byte or more are to come
abbrev pub is_kept : End → List ℕ → Bool
is_kept end kept = looks_right end kept && nat_lt (length kept) (size_of kept)

-- after a byte: what is kept, and what was heard
pub record Ear : Type 0 where
  pub kept : List ℕ
  pub heard : Option Heard

-- of a byte with which a beginning does not go on, the byte itself may begin a frame
abbrev pub anew : End → ℕ → List ℕ
anew end byte = if starts end byte then byte ∷ [] else []

-- what the frame says whose sum is this byte
abbrev pub heard_at_last : List ℕ → ℕ → Heard
heard_at_last kept byte = judged (slice_index kept (header_size kept)) kept (drop (header_size kept) kept) byte

-- one byte more
abbrev pub after_byte : End → List ℕ → ℕ → Ear
after_byte end kept byte =
    if not (looks_right end (kept ++ byte ∷ [])) then record { kept = anew end byte; heard = None }
    else if length (kept ++ byte ∷ []) == size_of (kept ++ byte ∷ [])
    then record { kept = []; heard = Some (heard_at_last kept byte) }
    else record { kept = kept ++ byte ∷ []; heard = None }

-- what is heard in these bytes, behind what is kept
abbrev pub heard_in : End → List ℕ → List ℕ → List Heard
heard_in end kept [] = []
heard_in end kept (byte ∷ bytes) = option_to_list (after_byte end kept byte).heard
    ++ heard_in end (after_byte end kept byte).kept bytes

-- what is kept behind these bytes
abbrev pub kept_after : End → List ℕ → List ℕ → List ℕ
kept_after end kept [] = kept
kept_after end kept (byte ∷ bytes) = kept_after end (after_byte end kept byte).kept bytes

-- the same of a stream in pieces, one after the other
abbrev pub heard_in_pieces : End → List ℕ → List (List ℕ) → List Heard
heard_in_pieces end kept [] = []
heard_in_pieces end kept (piece ∷ pieces) = heard_in end kept piece
    ++ heard_in_pieces end (kept_after end kept piece) pieces
