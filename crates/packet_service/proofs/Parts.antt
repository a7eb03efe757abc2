-- Parts of datagrams, byte after byte.
use Rattle.std.proofs.Common.{◌≡◌, ◌∙◌, ℕ, ◌+◌, ◌-◌, ◌*◌, ◌/◌, ◌%◌, ◌<◌, ◌≤◌, Bool, true, false, List, [], ◌∷◌, ◌++◌, length, get_or, drop, refl, sym, ap, subst, arith, append_assoc, append-nil, length-append}
use Rattle.std.specs.Prelude.{◌==◌, nat_lt, if◌then◌else◌}
use Rattle.std.proofs.lemmas.Bool.Decides.{nat_tests}
use Rattle.packet_service.specs.declared.datagrams.Gathered.{Gathered}
use Rattle.packet_service.specs.declared.datagrams.Gathered.TheVariants.{More, Whole, TooLong}
use Rattle.packet_service.specs.declared.datagrams.TheConstants.{LONGEST}
use Rattle.packet_service.specs.Datagrams.{datagram, stream_of, IsPart, IsTooLong, gathered_by, gathered}

is_lower : (m n : ℕ) → nat_lt m n ≡ true → m < n
is_lower m n is = grind (arith, nat_tests)

not_lower : (m n : ℕ) → nat_lt m n ≡ false → n ≤ m
not_lower m n is = grind (arith, nat_tests)

same_number : (m n : ℕ) → (m == n) ≡ true → m ≡ n
same_number m n is = grind (arith, nat_tests)

other_number : (m n : ℕ) → (m == n) ≡ false → m ≡ n → ⊥
other_number m n is same = grind (arith, nat_tests)

-- what the length says of the bytes that are there
record Tells (size count : ℕ) (g : Gathered) : Type 0 where
  more : g ≡ More → (size ≤ LONGEST) × (count ≡ size → ⊥)
  whole : g ≡ Whole → (size ≤ LONGEST) × (count ≡ size)
  long : g ≡ TooLong → LONGEST < size

tells : (size count : ℕ) → Tells size count (gathered_by size count)
tells size count = by (nat_lt LONGEST size) (count == size) refl refl
  where
    by : (a b : Bool) → nat_lt LONGEST size ≡ a → (count == size) ≡ b → Tells size count (if a then TooLong else if b then Whole else More)
    by true b is eq = record { more = λ g. absurd (cc); whole = λ g. absurd (cc); long = λ g. is_lower LONGEST size is }
    by false true is eq = record { more = λ g. absurd (cc); whole = λ g. (not_lower LONGEST size is, same_number count size eq); long = λ g. absurd (cc) }
    by false false is eq = record { more = λ g. (not_lower LONGEST size is, other_number count size eq); whole = λ g. absurd (cc); long = λ g. absurd (cc) }

pub short_part : (part : List ℕ) → IsPart part → length part < 266
short_part [] is = omega arith
short_part (high ∷ []) is = omega arith
short_part (high ∷ low ∷ bytes) is = omega (arith, is.2, is.3)

-- a byte more, and it is a part still
pub part_more : (part : List ℕ) (byte : ℕ) → byte < 256 → IsPart part → gathered (part ++ byte ∷ []) ≡ More → IsPart (part ++ byte ∷ [])
part_more [] byte low is more = low
part_more (high ∷ []) byte low is more =
    let t = (tells (256 * high + byte) 0).more more in
    (is, low, t.0, let some = t.1 in above (256 * high + byte) some)
  where
    above : (n : ℕ) → (0 ≡ n → ⊥) → 0 < n
    above n some = grind arith
part_more (high ∷ second ∷ bytes) byte low is more =
    let long : length (bytes ++ byte ∷ []) ≡ length bytes + 1 = length-append bytes (byte ∷ []) in
    let t = (tells (256 * high + second) (length (bytes ++ byte ∷ []))).more more in
    (is.0, is.1, is.2, subst (λ (n : ℕ). n < 256 * high + second) (sym long) (above (length bytes) (256 * high + second) is.3 (λ e. t.1 (long ∙ e))))
  where
    above : (m n : ℕ) → m < n → (m + 1 ≡ n → ⊥) → m + 1 < n
    above m n under other = grind arith

-- high and low of a length
spelled_so : (high low size : ℕ) → high < 256 → low < 256 → size ≡ 256 * high + low → (size / 256 ≡ high) × (size % 256 ≡ low)
spelled_so high low size h l is = (omega arith, omega arith)

datagram_is : (high low : ℕ) (bytes : List ℕ) → high < 256 → low < 256 → length bytes ≡ 256 * high + low → high ∷ low ∷ bytes ≡ datagram bytes
datagram_is high low bytes h l size =
    let both = spelled_so high low (length bytes) h l size in
    ap (λ (n : ℕ). n ∷ low ∷ bytes) (sym both.0) ∙ ap (λ (n : ℕ). length bytes / 256 ∷ n ∷ bytes) (sym both.1)

-- a byte more, and it is a whole one
pub record IsWhole (part : List ℕ) : Type 0 where
  pub spelled : part ≡ datagram (drop 2 part)
  pub short : length (drop 2 part) ≤ LONGEST

pub part_whole : (part : List ℕ) (byte : ℕ) → byte < 256 → IsPart part → gathered (part ++ byte ∷ []) ≡ Whole → IsWhole (part ++ byte ∷ [])
part_whole [] byte low is whole = absurd (cc)
part_whole (high ∷ []) byte low is whole =
    let t = (tells (256 * high + byte) 0).whole whole in
    record { spelled = datagram_is high byte [] is low t.1; short = omega arith }
part_whole (high ∷ second ∷ bytes) byte low is whole =
    let t = (tells (256 * high + second) (length (bytes ++ byte ∷ []))).whole whole in
    record { spelled = datagram_is high second (bytes ++ byte ∷ []) is.0 is.1 t.1; short = let most = t.0 in let size = t.1 in omega arith }

-- a byte more, and its length is too long
pub part_long : (part : List ℕ) (byte : ℕ) → byte < 256 → IsPart part → gathered (part ++ byte ∷ []) ≡ TooLong → IsTooLong (part ++ byte ∷ [])
part_long [] byte low is long = absurd (cc)
part_long (high ∷ []) byte low is long = record { high = high; low = byte; is = refl; long = (tells (256 * high + byte) 0).long long }
part_long (high ∷ second ∷ bytes) byte low is long = let t = (tells (256 * high + second) (length (bytes ++ byte ∷ []))).long long in absurd (omega (arith, is.2, t))

-- a stream with a datagram more
pub stream_on : (datagrams : List (List ℕ)) (d : List ℕ) → stream_of (datagrams ++ d ∷ []) ≡ stream_of datagrams ++ datagram d
stream_on [] d = append-nil (datagram d)
stream_on (first ∷ datagrams) d = ap (λ (l : List ℕ). datagram first ++ l) (stream_on datagrams d) ∙ sym (append_assoc (datagram first) (stream_of datagrams) (datagram d))

-- what the first two bytes tell of a length, by their places
pub front_tells : (l : List ℕ) → 2 ≤ length l → gathered l ≡ gathered_by (256 * get_or l 0 0 + get_or l 1 0) (length l - 2)
front_tells [] two = absurd (omega arith)
front_tells (high ∷ []) two = absurd (omega arith)
front_tells (high ∷ low ∷ bytes) two = let count : length bytes ≡ length (high ∷ low ∷ bytes) - 2 = omega arith in ap (λ (n : ℕ). gathered_by (256 * high + low) n) count

pub half_tells : (l : List ℕ) → length l < 2 → More ≡ gathered l
half_tells [] half = refl
half_tells (high ∷ []) half = refl
half_tells (high ∷ low ∷ bytes) half = absurd (omega arith)
