-- Fields that are cut and joined again.
use Rattle.std.proofs.Common.{◌≡◌, ℕ, ◌+◌, List, [], ◌∷◌, ◌++◌, length, take, drop, refl, sym, arith, inl, inr}
use Rattle.std.proofs.lemmas.Bool.{cases_lt}
use Rattle.std.proofs.lemmas.List.{take-append-drop, take_at, drop_at, get_or-drop, get_or-take, get_or_past, length-take, length-drop}
use Rattle.byteorder.specs.Endian.{big_number, big_bytes}
use Rattle.byteorder.specs.Numbers.{length-bytes_high_first}
use Rattle.card_layout.specs.Fields.{IsBytes, FitIn, HaveWidths, cut, joined, total_width, numbers_of, numbers_written}
use Rattle.card_layout.proofs.Numbers.{big_bytes-big_number, big_number-big_bytes}

-- a part of bytes is bytes
pub IsBytes-drop : (n : ℕ) (bytes : List ℕ) → IsBytes bytes → IsBytes (drop n bytes)
IsBytes-drop n bytes fits i = rw get_or-drop (fits (n + i))

pub IsBytes-take : (n : ℕ) (bytes : List ℕ) → IsBytes bytes → IsBytes (take n bytes)
IsBytes-take n bytes fits i =
    elim (cases_lt i n) [
      | inl below ↦ rw (get_or-take n bytes i 0 below) (fits i)
      | inr past ↦ rw (get_or_past (take n bytes) i 0 (omega (arith, length-take n bytes))) (omega arith)
    ]

-- numbers that are read and written again
pub numbers_written-numbers_of : (widths bytes : List ℕ) → total_width widths ≡ length bytes → IsBytes bytes → numbers_written widths (numbers_of widths bytes) ≡ bytes
numbers_written-numbers_of [] [] sum fits = refl
numbers_written-numbers_of [] (b ∷ bytes) sum fits = absurd (omega arith)
numbers_written-numbers_of (width ∷ widths) bytes sum fits =
    let front : big_bytes width (big_number width (take width bytes)) ≡ take width bytes =
    big_bytes-big_number width (take width bytes) (omega (arith, length-take width bytes)) (IsBytes-take width bytes fits) in
    let rest = numbers_written-numbers_of widths (drop width bytes) (omega (arith, length-drop width bytes)) (IsBytes-drop width bytes fits) in
    rw (front, rest) (take-append-drop width bytes)

-- numbers that are written and read again
pub numbers_of-numbers_written : (widths numbers : List ℕ) → FitIn widths numbers → numbers_of widths (numbers_written widths numbers) ≡ numbers
numbers_of-numbers_written [] numbers fit = sym fit
numbers_of-numbers_written (width ∷ widths) [] fit = absurd fit
numbers_of-numbers_written (width ∷ widths) (n ∷ numbers) fit =
    let front : take width (big_bytes width n ++ numbers_written widths numbers) ≡ big_bytes width n =
    take_at (big_bytes width n) (numbers_written widths numbers) width (length-bytes_high_first width n) in
    let rest : drop width (big_bytes width n ++ numbers_written widths numbers) ≡ numbers_written widths numbers =
    drop_at (big_bytes width n) (numbers_written widths numbers) width (length-bytes_high_first width n) in
    rw (front, rest, big_number-big_bytes width n fit.0, numbers_of-numbers_written widths numbers fit.1) refl

-- fields that are joined and cut again
pub cut-joined : (widths : List ℕ) (fields : List (List ℕ)) → HaveWidths widths fields → cut widths (joined fields) ≡ fields
cut-joined [] fields have = sym have
cut-joined (width ∷ widths) [] have = absurd have
cut-joined (width ∷ widths) (field ∷ fields) have =
    rw (take_at field (joined fields) width have.0, drop_at field (joined fields) width have.0, cut-joined widths fields have.1) refl
