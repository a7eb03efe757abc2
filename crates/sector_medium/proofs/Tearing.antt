-- What stands of a write of which a part is written.
use Rattle.std.proofs.Common.{◌≡◌, inl, inr, ℕ, ◌+◌, ◌-◌, ◌≤◌, ◌%◌, List, length, take, refl, sym, ◌∙◌, ap, subst}
use Rattle.std.proofs.Common.{arith}
use Rattle.std.proofs.Common.{drop, ◌++◌}
use Rattle.std.proofs.lemmas.List.{take_all, drop-drop}
use borrow.Rule.Slice.PartMut.{put_mid}
use Rattle.card_layout.specs.Images.{bytes_at, put}
use Rattle.card_layout.proofs.Images.{outside_same, outside_wider, put_outside}
use Rattle.sector_medium.specs.Disk.{IsTorn}
use Rattle.sector_medium.specs.RedoLaws.{length_bytes_at}

-- nothing of it is
pub nothing_torn : (place : ℕ) (bytes x : List ℕ) → IsTorn place bytes x x
nothing_torn place bytes x = record {
  outside = outside_same place (length bytes) x;
  whole = λ short inside. inl refl;
}

-- a part of it is; all of it, where at most four bytes lie inside one sector
pub part_torn : (place i n : ℕ) (bytes x : List ℕ) → i + n ≤ length bytes → place + length bytes ≤ length x
    → (length bytes ≤ 4 → place % 512 + length bytes ≤ 512 → n ≡ length bytes)
    → IsTorn place bytes x (put (place + i) (bytes_at bytes i n) x)
part_torn place i n bytes x part inside all =
    let long : length (bytes_at bytes i n) ≡ n = length_bytes_at bytes i n part in
    let outside = put_outside (place + i) (bytes_at bytes i n) x (omega (arith, part, inside, long)) in
    record {
      outside = outside_wider place (length bytes) (place + i) (length (bytes_at bytes i n)) x
          (put (place + i) (bytes_at bytes i n) x) outside (omega arith) (omega (arith, part, long));
      whole = λ short sector.
          let full : n ≡ length bytes = all short sector in
          let front : i ≡ 0 = omega (arith, part, full) in
          inr (part_is i n bytes front full place x);
    }
  where
    part_is : (i n : ℕ) (bytes : List ℕ) → i ≡ 0 → n ≡ length bytes → (place : ℕ) (x : List ℕ)
        → put (place + i) (bytes_at bytes i n) x ≡ put place bytes x
    part_is i n bytes front full place x =
        let same : bytes_at bytes i n ≡ bytes = ap (λ (k : ℕ). bytes_at bytes k n) front ∙ take_all n bytes (omega (arith, full)) in
        let here : place + i ≡ place = omega (arith, front) in
        ap (λ (k : ℕ). put k (bytes_at bytes i n) x) here ∙ ap (λ (l : List ℕ). put place l x) same

-- the same, as it is written into a part of the image
pub cut_torn : (place from to : ℕ) (bytes x copy : List ℕ) → from ≤ to → to ≤ length bytes
    → place + length bytes ≤ length x
    → (length bytes ≤ 4 → place % 512 + length bytes ≤ 512 → to - from ≡ length bytes)
    → copy ≡ bytes_at bytes from (to - from)
    → IsTorn place bytes x (put_mid (place + from) (place + to - (place + from)) x copy)
cut_torn place from to bytes x copy low high inside all copied =
    let a = place + from in
    let k = place + to - (place + from) in
    let n = to - from in
    let v = bytes_at bytes from n in
    let long : length v ≡ n = length_bytes_at bytes from n (omega (arith, low, high)) in
    let reach : a + k ≡ a + length v = omega (arith, long, low) in
    let same : put_mid a k x copy ≡ put a v x =
    ap (λ (l : List ℕ). take a x ++ (l ++ drop k (drop a x))) copied
    ∙ ap (λ (l : List ℕ). take a x ++ (v ++ l)) (drop-drop k a x ∙ ap (λ (p : ℕ). drop p x) reach) in
    subst (IsTorn place bytes x) (sym same) (part_torn place from n bytes x (omega (arith, low, high)) inside all)
