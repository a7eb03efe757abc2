-- What the memory that a disk holds has in length and in bytes.
use Rattle.std.specs.Prelude.{◌≡◌, ℕ, zero, suc, ◌+◌, ◌*◌, ◌/◌, ◌≤◌, ◌<◌, Bool, true, false, if◌then◌else◌}
use Rattle.std.specs.Prelude.{List, [], ◌∷◌, ◌++◌, length, take, drop}
use Rattle.std.proofs.Common.{refl, sym, subst, arith, length-drop}
use Rattle.std.proofs.lemmas.Bool.Decides.{nat_tests}
use Rattle.std.proofs.lemmas.List.{length-take-le}
use Rattle.card_layout.specs.Fields.{IsBytes}
use Rattle.card_layout.proofs.Images.{put_outside}
use Rattle.card_layout.proofs.Cuts.{IsBytes-take, IsBytes-drop}
use Rattle.tach_media.specs.Medium.{bytes_at, put}
use Rattle.sector_medium.specs.Redo.{record_place, gate_of, is_gate, is_pending, window, new_bytes}
use Rattle.sector_medium.specs.Redo.{recovered}

-- a gate's border lies inside the memory
pub gate_fits : (size g : ℕ) → is_gate size g ≡ true → (3 ≤ g * 512) × (g * 512 + 3 ≤ record_place size)
unfolding is_gate record_place
gate_fits size g is =
    let low : 0 < g = grind (arith, nat_tests) in
    let high : g ≤ size / 512 = grind (arith, nat_tests) in
    (omega arith, omega arith)

pub pending_gate : (size : ℕ) (c : List ℕ) → is_pending size c ≡ true → is_gate size (gate_of size c) ≡ true
unfolding is_pending
pending_gate size c is = grind (arith, nat_tests)

pub record_behind : (size : ℕ) → size < record_place size
unfolding record_place
record_behind size = omega arith

-- and no further than a sector
pub record_near : (size : ℕ) → record_place size ≤ size + 512
unfolding record_place
record_near size = omega arith

pub length_bytes_at : (c : List ℕ) (place n : ℕ) → place + n ≤ length c → length (bytes_at c place n) ≡ n
length_bytes_at c place n le = length-take-le n (drop place c) (omega (arith, le, length-drop place c))

-- the bytes of a disk with its record laid over them, or without
abbrev pub laid_if : ℕ → List ℕ → Bool → List ℕ
laid_if size c b = if b then put (window (gate_of size c)) (new_bytes size c) c else c

-- the memory has its size
pub recovered_sized : (size : ℕ) (c : List ℕ) → record_place size + 16 ≤ length c → length (recovered size c) ≡ size
unfolding recovered
recovered_sized size c fits = by (is_pending size c) refl
  where
    motive : Bool → Type 0
    motive b = length (take size (laid_if size c b)) ≡ size

    by : (b : Bool) → is_pending size c ≡ b → motive (is_pending size c)
    by true is =
        let at = window (gate_of size c) in
        let new = new_bytes size c in
        let g = gate_fits size (gate_of size c) (pending_gate size c is) in
        let six = length_bytes_at c (record_place size + 10) 6 (omega (arith, fits)) in
        let inside : at + length new ≤ length c = omega (arith, fits, g.0, g.1, six) in
        let long = (put_outside at new c inside).same_length in
        subst motive (sym is)
        (length-take-le size (put at new c) (omega (arith, long, fits, record_behind size)))
    by false is = subst motive (sym is) (length-take-le size c (omega (arith, fits, record_behind size)))

-- bytes one after the other are bytes
pub IsBytes-append : (a b : List ℕ) → IsBytes a → IsBytes b → IsBytes (a ++ b)
IsBytes-append [] b fa fb i = fb i
IsBytes-append (x ∷ a) b fa fb zero = fa 0
IsBytes-append (x ∷ a) b fa fb (suc i) = IsBytes-append a b (λ k. fa (suc k)) fb i

pub IsBytes-put : (place : ℕ) (bytes x : List ℕ) → IsBytes bytes → IsBytes x → IsBytes (put place bytes x)
IsBytes-put place bytes x fb fx =
    let rest = drop (place + length bytes) x in
    IsBytes-append (take place x) (bytes ++ rest) (IsBytes-take place x fx)
    (IsBytes-append bytes rest fb (IsBytes-drop (place + length bytes) x fx))

-- it is of bytes where the disk is
pub recovered_bytes : (size : ℕ) (c : List ℕ) → IsBytes c → IsBytes (recovered size c)
unfolding recovered
recovered_bytes size c fit = by (is_pending size c) refl
  where
    motive : Bool → Type 0
    motive b = IsBytes (take size (laid_if size c b))

    by : (b : Bool) → is_pending size c ≡ b → motive (is_pending size c)
    by true is =
        let at = window (gate_of size c) in
        let new = new_bytes size c in
        let behind = record_place size + 10 in
        let fine : IsBytes new = IsBytes-take 6 (drop behind c) (IsBytes-drop behind c fit) in
        subst motive (sym is) (IsBytes-take size (put at new c) (IsBytes-put at new c fine fit))
    by false is = subst motive (sym is) (IsBytes-take size c fit)
