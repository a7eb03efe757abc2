-- The frames of a stream of bytes (Appendix 7), as the side reads them that listens.
use Rattle.std.specs.Prelude.{◌≡◌, ℕ, ◌%◌, ◌==◌, ◌<◌, if◌then◌else◌, List, [], ◌∷◌, ◌++◌, length, sum, slice_index}
use Rattle.link_model.specs.declared.side.End.{End}
use Rattle.link_model.specs.declared.side.End.TheVariants as side
use Rattle.link_model.specs.declared.services.TheConstants.{LONG_FORM, SHORT_FORM, UNIT_ADDRESS, LOADER_ADDRESS}

-- what a side hears: the data of a frame, or the first data byte of one whose sum is wrong
pub data Heard : Type 0 where
  Right : List ℕ → Heard
  Wrong : ℕ → Heard

-- a frame as its bytes stand: its data and the byte for the sum; the short form has one data byte and no length
pub data Shape : Type 0 where
  Long : List ℕ → ℕ → Shape
  Short : ℕ → ℕ → Shape

-- the second byte: who listens
abbrev pub second : End → ℕ
second side.Unit = UNIT_ADDRESS
second side.Loader = LOADER_ADDRESS

-- the third byte: who sends
abbrev pub third : End → ℕ
third side.Unit = LOADER_ADDRESS
third side.Loader = UNIT_ADDRESS

-- the bytes before the data; the long form ends with the length
abbrev pub header : End → Shape → List ℕ
header end (Long body last) = LONG_FORM ∷ second end ∷ third end ∷ length body ∷ []
header end (Short byte last) = SHORT_FORM ∷ second end ∷ third end ∷ []

-- the data
abbrev pub body_of : Shape → List ℕ
body_of (Long body last) = body
body_of (Short byte last) = byte ∷ []

-- the byte for the sum
abbrev pub last_of : Shape → ℕ
last_of (Long body last) = last
last_of (Short byte last) = last

-- the bytes of a frame: header, data, and one byte for the sum
abbrev pub spelled : End → Shape → List ℕ
spelled end shape = header end shape ++ (body_of shape ++ last_of shape ∷ [])

-- a frame has data, and its length is a byte, so 1 to 255; the short form goes to the unit alone
abbrev pub IsShape : End → Shape → Type 0
IsShape end (Long body last) = 0 < length body
IsShape side.Unit (Short byte last) = Unit {0}
IsShape side.Loader (Short byte last) = ⊥

-- What is heard of a frame: of its first data byte, the bytes before the sum, the data, and the byte for the sum.
abbrev pub judged : ℕ → List ℕ → List ℕ → ℕ → Heard
judged byte front body last = if last == sum front % 256 then Right body else Wrong byte

-- what is heard of a frame: its data where the last byte is the sum of all earlier ones modulo 256
abbrev pub heard_of : End → Shape → Heard
heard_of end shape = judged (slice_index (body_of shape) 0) (header end shape ++ body_of shape) (body_of shape)
    (last_of shape)

-- the bytes begin with a frame
pub record BeginsFrame (end : End) (bytes : List ℕ) : Type 0 where
  pub shape : Shape
  pub more : List ℕ
  pub is_shape : IsShape end shape
  pub bytes_are : bytes ≡ spelled end shape ++ more

-- the bytes are a frame's, without its last ones; none are the beginning of any
pub record IsUnfinished (end : End) (bytes : List ℕ) : Type 0 where
  pub shape : Shape
  pub more : List ℕ
  pub is_shape : IsShape end shape
  pub some : 0 < length more
  pub whole : spelled end shape ≡ bytes ++ more

-- a part of a stream: a frame, or a byte that is passed over
pub data Part : Type 0 where
  Framed : Shape → Part
  Passed : ℕ → Part

-- The stream is these parts, and then the beginning of a frame. A byte is passed over only where neither a frame nor
-- the beginning of one stands.
abbrev pub IsRead : End → List Part → List ℕ → List ℕ → Type 0
IsRead end [] bytes rest = (bytes ≡ rest) × IsUnfinished end bytes
IsRead end (Framed shape ∷ parts) bytes rest = (more : List ℕ) × IsShape end shape × (bytes ≡ spelled end shape ++ more)
    × IsRead end parts more rest
IsRead end (Passed byte ∷ parts) bytes rest =
    (more : List ℕ) × (bytes ≡ byte ∷ more) × (BeginsFrame end bytes → ⊥) × (IsUnfinished end bytes → ⊥)
    × IsRead end parts more rest

-- what is heard of the frames among these parts
abbrev pub heard_in_parts : End → List Part → List Heard
heard_in_parts end [] = []
heard_in_parts end (Framed shape ∷ parts) = heard_of end shape ∷ heard_in_parts end parts
heard_in_parts end (Passed byte ∷ parts) = heard_in_parts end parts

-- of this stream the frames are heard so, and the rest is no whole frame yet
abbrev pub Stream : End → List ℕ → List Heard → List ℕ → Type 0
Stream end bytes seen rest = (parts : List Part) × IsRead end parts bytes rest × (heard_in_parts end parts ≡ seen)
