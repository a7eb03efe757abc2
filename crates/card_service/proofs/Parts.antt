-- Parts of packets, byte after byte.
use Rattle.std.proofs.Common.{◌≡◌, ◌∙◌, ℕ, ◌+◌, ◌-◌, ◌*◌, ◌/◌, ◌%◌, ◌<◌, ◌≤◌, true, false, List, [], ◌∷◌, ◌++◌, length, get_or, drop, refl, sym, ap, subst, arith, append_assoc, append-nil, length-append}
use Rattle.std.specs.Prelude.{◌==◌}
use Rattle.std.proofs.lemmas.Bool.Decides.{nat_tests}
use Rattle.card_service.specs.declared.packets.TheConstants.{LONGEST}
use Rattle.card_service.specs.Packets.{packet, stream_of, IsPart, is_whole}

same_number : (m n : ℕ) → (m == n) ≡ true → m ≡ n
same_number m n is = grind (arith, nat_tests)

other_number : (m n : ℕ) → (m == n) ≡ false → m ≡ n → ⊥
other_number m n is same = grind (arith, nat_tests)

pub short_part : (part : List ℕ) → IsPart part → length part < 65537
short_part [] is = omega arith
short_part (high ∷ []) is = omega arith
short_part (high ∷ low ∷ bytes) is = omega (arith, is.0, is.1, is.2)

above : (m n : ℕ) → m < n → (m + 1 ≡ n → ⊥) → m + 1 < n
above m n under other = grind arith

over : (n : ℕ) → (0 ≡ n → ⊥) → 0 < n
over n some = grind arith

-- a byte more, and it is a part still
pub part_more : (part : List ℕ) (byte : ℕ) → byte < 256 → IsPart part → is_whole (part ++ byte ∷ []) ≡ false → IsPart (part ++ byte ∷ [])
part_more [] byte low is more = low
part_more (high ∷ []) byte low is more = (is, low, over (256 * high + byte) (other_number 0 (256 * high + byte) more))
part_more (high ∷ second ∷ bytes) byte low is more =
    let long : length (bytes ++ byte ∷ []) ≡ length bytes + 1 = length-append bytes (byte ∷ []) in
    let other = other_number (length (bytes ++ byte ∷ [])) (256 * high + second) more in
    (is.0, is.1, subst (λ (n : ℕ). n < 256 * high + second) (sym long) (above (length bytes) (256 * high + second) is.2 (λ e. other (long ∙ e))))

-- high and low of a length
spelled_so : (high low size : ℕ) → high < 256 → low < 256 → size ≡ 256 * high + low → (size / 256 ≡ high) × (size % 256 ≡ low)
spelled_so high low size h l is = (omega arith, omega arith)

packet_is : (high low : ℕ) (bytes : List ℕ) → high < 256 → low < 256 → length bytes ≡ 256 * high + low → high ∷ low ∷ bytes ≡ packet bytes
packet_is high low bytes h l size =
    let both = spelled_so high low (length bytes) h l size in
    ap (λ (n : ℕ). n ∷ low ∷ bytes) (sym both.0) ∙ ap (λ (n : ℕ). length bytes / 256 ∷ n ∷ bytes) (sym both.1)

-- a byte more, and it is a whole one
pub record IsWhole (part : List ℕ) : Type 0 where
  pub spelled : part ≡ packet (drop 2 part)
  pub short : length (drop 2 part) ≤ LONGEST

pub part_whole : (part : List ℕ) (byte : ℕ) → byte < 256 → IsPart part → is_whole (part ++ byte ∷ []) ≡ true → IsWhole (part ++ byte ∷ [])
part_whole [] byte low is whole = absurd (cc)
part_whole (high ∷ []) byte low is whole =
    let t = same_number 0 (256 * high + byte) whole in
    record { spelled = packet_is high byte [] is low t; short = omega arith }
part_whole (high ∷ second ∷ bytes) byte low is whole =
    let t = same_number (length (bytes ++ byte ∷ [])) (256 * high + second) whole in
    record { spelled = packet_is high second (bytes ++ byte ∷ []) is.0 is.1 t; short = let h = is.0 in let l = is.1 in omega (arith, t, h, l) }

-- a stream with a packet more
pub stream_on : (packets : List (List ℕ)) (p : List ℕ) → stream_of (packets ++ p ∷ []) ≡ stream_of packets ++ packet p
stream_on [] p = append-nil (packet p)
stream_on (first ∷ packets) p = ap (λ (l : List ℕ). packet first ++ l) (stream_on packets p) ∙ sym (append_assoc (packet first) (stream_of packets) (packet p))

-- streams one after the other
pub streams_on : (a b : List (List ℕ)) → stream_of (a ++ b) ≡ stream_of a ++ stream_of b
streams_on [] b = refl
streams_on (p ∷ a) b = ap (λ (l : List ℕ). packet p ++ l) (streams_on a b) ∙ sym (append_assoc (packet p) (stream_of a) (stream_of b))

pub one_packet : (p : List ℕ) → stream_of (p ∷ []) ≡ packet p
one_packet p = append-nil (packet p)

-- what the first two bytes tell of a length, by their places
pub front_tells : (l : List ℕ) → 2 ≤ length l → is_whole l ≡ ((length l - 2) == 256 * get_or l 0 0 + get_or l 1 0)
front_tells [] two = absurd (omega arith)
front_tells (high ∷ []) two = absurd (omega arith)
front_tells (high ∷ low ∷ bytes) two = let count : length bytes ≡ length (high ∷ low ∷ bytes) - 2 = omega arith in ap (λ (n : ℕ). n == 256 * high + low) count

pub half_tells : (l : List ℕ) → length l < 2 → false ≡ is_whole l
half_tells [] half = refl
half_tells (high ∷ []) half = refl
half_tells (high ∷ low ∷ bytes) half = absurd (omega arith)
