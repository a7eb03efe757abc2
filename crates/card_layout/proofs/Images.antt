-- Parts of images, and images that differ in a range alone.
use Rattle.std.proofs.Common.{◌≡◌, ℕ, ◌+◌, ◌-◌, ◌≤◌, List, ◌++◌, length, take, drop, refl, sym, ◌∙◌, ap, arith, append_assoc, take-add, length-append, length-drop}
use Rattle.std.proofs.lemmas.List.{take_at, drop_at, take-take, length-take-le, drop-drop, drop-take, take-append-drop}
use Rattle.card_layout.specs.Images.{bytes_at, put, SameOutside}

-- a part that ends before the range, or begins behind it, is the same
pub part_before : (place len a n : ℕ) (x c : List ℕ) → SameOutside place len x c → a + n ≤ place → bytes_at c a n ≡ bytes_at x a n
part_before place len a n x c same le =
    let front : take (a + n) c ≡ take (a + n) x = sym (take-take (a + n) place c le) ∙ ap (λ (l : List ℕ). take (a + n) l) same.before ∙ take-take (a + n) place x le in
    sym (drop-take a n c) ∙ ap (λ (l : List ℕ). drop a l) front ∙ drop-take a n x

pub part_after : (place len a n : ℕ) (x c : List ℕ) → SameOutside place len x c → place + len ≤ a → bytes_at c a n ≡ bytes_at x a n
part_after place len a n x c same le =
    let k = a - (place + len) in
    let from : place + len + k ≡ a = omega (arith, le) in
    let back : drop a c ≡ drop a x =
    ap (λ (m : ℕ). drop m c) (sym from) ∙ sym (drop-drop k (place + len) c) ∙ ap (λ (l : List ℕ). drop k l) same.after ∙ drop-drop k (place + len) x ∙ ap (λ (m : ℕ). drop m x) from in
    ap (λ (l : List ℕ). take n l) back

-- a part in two parts
pub part_split : (x : List ℕ) (a m n : ℕ) → bytes_at x a (m + n) ≡ bytes_at x a m ++ bytes_at x (a + m) n
part_split x a m n = take-add m n (drop a x) ∙ ap (λ (l : List ℕ). take m (drop a x) ++ take n l) (drop-drop m a x)

-- what was written stands there
pub part_put : (place : ℕ) (bytes x : List ℕ) → place + length bytes ≤ length x → bytes_at (put place bytes x) place (length bytes) ≡ bytes
part_put place bytes x le =
    let front : length (take place x) ≡ place = length-take-le place x (omega (arith, le)) in
    ap (λ (l : List ℕ). take (length bytes) l) (drop_at (take place x) (bytes ++ drop (place + length bytes) x) place front) ∙ take_at bytes (drop (place + length bytes) x) (length bytes) refl

-- a write of what stands there already changes nothing
pub put_same : (place n : ℕ) (x : List ℕ) → place + n ≤ length x → put place (bytes_at x place n) x ≡ x
put_same place n x le =
    let part : length (bytes_at x place n) ≡ n = length-take-le n (drop place x) (omega (arith, le, length-drop place x)) in
    ap (λ (m : ℕ). take place x ++ (bytes_at x place n ++ drop (place + m) x)) part
    ∙ ap (λ (l : List ℕ). take place x ++ (bytes_at x place n ++ l)) (sym (drop-drop n place x))
    ∙ ap (λ (l : List ℕ). take place x ++ l) (take-append-drop n (drop place x)) ∙ take-append-drop place x

-- nothing differs
pub outside_same : (place len : ℕ) (x : List ℕ) → SameOutside place len x x
outside_same place len x = record { before = refl; after = refl; same_length = refl }

-- of a larger range too
pub outside_wider : (q m p n : ℕ) (x c : List ℕ) → SameOutside p n x c → q ≤ p → p + n ≤ q + m → SameOutside q m x c
outside_wider q m p n x c same below above = record {
  before = sym (take-take q p c below) ∙ ap (λ (l : List ℕ). take q l) same.before ∙ take-take q p x below;
  after = drops (q + m) above;
  same_length = same.same_length;
}
  where
    drops : (a : ℕ) → p + n ≤ a → drop a c ≡ drop a x
    drops a le =
        let k = a - (p + n) in
        let from : p + n + k ≡ a = omega (arith, le) in
        ap (λ (m : ℕ). drop m c) (sym from) ∙ sym (drop-drop k (p + n) c) ∙ ap (λ (l : List ℕ). drop k l) same.after ∙ drop-drop k (p + n) x ∙ ap (λ (m : ℕ). drop m x) from

-- one after the other
pub outside_then : (q m : ℕ) (x y c : List ℕ) → SameOutside q m x y → SameOutside q m y c → SameOutside q m x c
outside_then q m x y c first next = record { before = next.before ∙ first.before; after = next.after ∙ first.after; same_length = next.same_length ∙ first.same_length }

-- a write changes its range alone
pub put_outside : (place : ℕ) (bytes image : List ℕ) → place + length bytes ≤ length image → SameOutside place (length bytes) image (put place bytes image)
put_outside place bytes image le =
    let front : length (take place image) ≡ place = length-take-le place image (omega arith) in
    record {
      before = take_at (take place image) (bytes ++ drop (place + length bytes) image) place front;
      after = drop_past place bytes (take place image) (drop (place + length bytes) image) front;
      same_length = omega (arith, front, length-append (take place image) (bytes ++ drop (place + length bytes) image), length-append bytes (drop (place + length bytes) image), length-drop (place + length bytes) image);
    }
  where
    drop_past : (place : ℕ) (bytes front rest : List ℕ) → length front ≡ place → drop (place + length bytes) (front ++ (bytes ++ rest)) ≡ rest
    drop_past place bytes front rest is = ap (λ (l : List ℕ). drop (place + length bytes) l) (sym (append_assoc front bytes rest)) ∙ drop_at (front ++ bytes) rest (place + length bytes) (omega (arith, length-append front bytes))

-- a part of a part
pub part_in : (x : List ℕ) (p w q n : ℕ) → q + n ≤ w → bytes_at (bytes_at x p w) q n ≡ bytes_at x (p + q) n
part_in x p w q n le =
    let k = w - q in
    let whole : q + k ≡ w = omega (arith, le) in
    ap (λ (m : ℕ). take n (drop q (take m (drop p x)))) (sym whole) ∙ ap (λ (l : List ℕ). take n l) (drop-take q k (drop p x))
    ∙ take-take n k (drop q (drop p x)) (omega (arith, le)) ∙ ap (λ (l : List ℕ). take n l) (drop-drop q p x)
