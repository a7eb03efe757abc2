-- Fields that stand one after the other, by their widths. A number stands with its highest byte first.
use Rattle.std.specs.Prelude.{◌≡◌, ℕ, ◌+◌, ◌^◌, ◌<◌, List, [], ◌∷◌, ◌++◌, length, take, drop, slice_index}
use Rattle.std.specs.Prelude.{slice_index_or}
use Rattle.byteorder.specs.Endian.{big_number, big_bytes}

-- the fields of these widths, from the front of the bytes
abbrev pub cut : List ℕ → List ℕ → List (List ℕ)
cut [] bytes = []
cut (width ∷ widths) bytes = take width bytes ∷ cut widths (drop width bytes)

-- the k-th field of these widths, counted from 0
abbrev pub field_at : List ℕ → ℕ → List ℕ → List ℕ
field_at widths k bytes = slice_index_or (cut widths bytes) k []

-- the number in the k-th field of these widths
abbrev pub number_in : List ℕ → ℕ → List ℕ → ℕ
number_in widths k bytes = big_number (slice_index widths k) (field_at widths k bytes)

-- fields one after the other
abbrev pub joined : List (List ℕ) → List ℕ
joined [] = []
joined (field ∷ fields) = field ++ joined fields

-- these numbers in fields of these widths
abbrev pub numbers_written : List ℕ → List ℕ → List ℕ
numbers_written [] numbers = []
numbers_written (width ∷ widths) [] = []
numbers_written (width ∷ widths) (n ∷ numbers) = big_bytes width n ++ numbers_written widths numbers

-- the numbers in fields of these widths
abbrev pub numbers_of : List ℕ → List ℕ → List ℕ
numbers_of [] bytes = []
numbers_of (width ∷ widths) bytes = big_number width (take width bytes) ∷ numbers_of widths (drop width bytes)

-- numbers of which each fits its field
abbrev pub FitIn : List ℕ → List ℕ → Type 0
FitIn [] numbers = numbers ≡ []
FitIn (width ∷ widths) [] = ⊥
FitIn (width ∷ widths) (n ∷ numbers) = (n < 256 ^ width) × FitIn widths numbers

-- the widths together
abbrev pub total_width : List ℕ → ℕ
total_width [] = 0
total_width (width ∷ widths) = width + total_width widths

-- each is a byte
abbrev pub IsBytes : List ℕ → Type 0
IsBytes bytes = (i : ℕ) → slice_index bytes i < 256

-- fields that have these widths
abbrev pub HaveWidths : List ℕ → List (List ℕ) → Type 0
HaveWidths [] fields = fields ≡ []
HaveWidths (width ∷ widths) [] = ⊥
HaveWidths (width ∷ widths) (field ∷ fields) = (length field ≡ width) × HaveWidths widths fields

-- the place of the k-th field of these widths
abbrev pub place_in : List ℕ → ℕ → ℕ
place_in widths k = total_width (take k widths)
