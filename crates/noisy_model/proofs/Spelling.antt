-- What is read of a packet that was written, and the other way round.
use Rattle.std.proofs.Common.{◌≡◌, ◌∙◌, ℕ, suc, ◌%◌, ◌^◌, ◌<◌, ◌≤◌, Bool, true, false, List, [], ◌∷◌, ◌++◌, length, drop, take, Option, Some, None, refl, sym, ap, arith, length-append, length-take}
use Rattle.std.specs.Prelude.{◌==◌, ◌&&◌, nat_le, if◌then◌else◌, IfSome}
use Rattle.std.proofs.lemmas.Bool.Decides.{nat_tests}
use Rattle.std.proofs.Math.Seq.{drop-append_seam}
use Rattle.byteorder.specs.Endian.{big_bytes, big_number}
use Rattle.std.proofs.lemmas.List.{take-append-drop}
use Rattle.card_layout.specs.Fields.{IsBytes}
use Rattle.card_layout.proofs.Cuts.{IsBytes-take}
use Rattle.card_layout.proofs.Numbers.{big_bytes-big_number}
use Rattle.byteorder.specs.Numbers.{big_from-bytes, big_from-take, length-bytes_high_first}
use Rattle.noisy_model.specs.declared.packet.Packet.{Packet}
use Rattle.noisy_model.specs.Packets.{data_of, frame_in, packet_bytes, is_packet, packet_in, number_bytes, number_in}

-- a frame has 1 to 255 bytes
abbrev pub IsFrame : List ℕ → Type 0
IsFrame frame = (0 < length frame) × (length frame ≤ 255)

in_data : (o : Option (List ℕ)) → IfSome o IsFrame → frame_in (data_of o) ≡ o
in_data None is = refl
in_data (Some []) is = absurd (omega (arith, is.0))
in_data (Some (byte ∷ bytes)) is = refl

few : (o : Option (List ℕ)) → IfSome o IsFrame → length (data_of o) ≤ 255
few None is = omega arith
few (Some frame) is = is.1

yes : (n : ℕ) → 9 ≤ n → n ≤ 264 → (nat_le 9 n && nat_le n 264 && 0x4E == 0x4E) ≡ true
yes n low high = grind (arith, nat_tests)

same_number : (n : ℕ) → n < 2 ^ 64 → n % 256 ^ 8 ≡ n
same_number n low = omega arith

pub read_written : (p : Packet) → p.number < 2 ^ 64 → IfSome p.frame IsFrame → packet_in (packet_bytes p) ≡ Some p
unfolding number_bytes number_in
read_written p low is =
    let numbers = length-bytes_high_first 8 p.number in
    let long = length-append (big_bytes 8 p.number) (data_of p.frame) in
    let most = few p.frame is in
    let size : length (packet_bytes p) ≡ suc (length (big_bytes 8 p.number ++ data_of p.frame)) = refl in
    let test = yes (length (packet_bytes p)) (omega (arith, size, long, numbers)) (omega (arith, size, long, numbers, most)) in
    let number : big_number 8 (big_bytes 8 p.number ++ data_of p.frame) ≡ p.number = big_from-bytes 8 p.number (data_of p.frame) ∙ same_number p.number low in
    let rest : drop 9 (packet_bytes p) ≡ data_of p.frame = ap (λ (n : ℕ). drop n (big_bytes 8 p.number ++ data_of p.frame)) (sym numbers) ∙ drop-append_seam (big_bytes 8 p.number) (data_of p.frame) in
    ap (λ (b : Bool). if b then Some (record { number = number_in (drop 1 (packet_bytes p)); frame = frame_in (drop 9 (packet_bytes p)) }) else None) test
    ∙ ap (λ (n : ℕ). Some (record { number = n; frame = frame_in (drop 9 (packet_bytes p)) })) number
    ∙ ap (λ (l : List ℕ). Some (record { number = p.number; frame = frame_in l })) rest
    ∙ ap (λ (o : Option (List ℕ)). Some (record { number = p.number; frame = o })) (in_data p.frame is)

-- the bytes of a number, and what stands behind them
number_back : (bytes : List ℕ) → IsBytes bytes → 8 ≤ length bytes → big_bytes 8 (big_number 8 bytes) ++ drop 8 bytes ≡ bytes
number_back bytes each low =
    let front : big_number 8 (take 8 bytes) ≡ big_number 8 bytes = big_from-take 0 8 8 bytes (omega arith) in
    let back = big_bytes-big_number 8 (take 8 bytes) (omega (arith, length-take 8 bytes)) (IsBytes-take 8 bytes each) in
    ap (λ (n : ℕ). big_bytes 8 n ++ drop 8 bytes) (sym front) ∙ ap (λ (l : List ℕ). l ++ drop 8 bytes) back ∙ take-append-drop 8 bytes

data_back : (bytes : List ℕ) → data_of (frame_in bytes) ≡ bytes
data_back [] = refl
data_back (byte ∷ bytes) = refl

one_in : (p q : Packet) → Some p ≡ Some q → p ≡ q
one_in p q is = cc

-- bytes that are a packet are those of it
pub written_read : (bytes : List ℕ) (p : Packet) → IsBytes bytes → packet_in bytes ≡ Some p → packet_bytes p ≡ bytes
unfolding number_bytes number_in
written_read [] p each is = absurd (cc)
written_read (first ∷ rest) p each is = by (is_packet (first ∷ rest)) refl is
  where
    first_is : (a b : Bool) → (a && b && first == 0x4E) ≡ true → first ≡ 0x4E
    first_is a b test = grind (arith, nat_tests)

    low : (n : ℕ) (b c : Bool) → (nat_le 9 n && b && c) ≡ true → 9 ≤ n
    low n b c test = grind (arith, nat_tests)

    by : (b : Bool) → is_packet (first ∷ rest) ≡ b → (if b then Some (record { number = big_number 8 rest; frame = frame_in (drop 8 rest) }) else None) ≡ Some p → packet_bytes p ≡ first ∷ rest
    by false test is = absurd (cc)
    by true test is =
        let same = one_in (record { number = big_number 8 rest; frame = frame_in (drop 8 rest) }) p is in
        let head = first_is (nat_le 9 (length (first ∷ rest))) (nat_le (length (first ∷ rest)) 264) test in
        let long = low (length (first ∷ rest)) (nat_le (length (first ∷ rest)) 264) (first == 0x4E) test in
        ap packet_bytes (sym same) ∙ ap (λ (l : List ℕ). 0x4E ∷ (big_bytes 8 (big_number 8 rest) ++ l)) (data_back (drop 8 rest)) ∙ ap (λ (l : List ℕ). 0x4E ∷ l) (number_back rest (λ i. each (suc i)) (omega arith)) ∙ ap (λ (n : ℕ). n ∷ rest) (sym head)
