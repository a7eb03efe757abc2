-- Parts of a circle of bytes.
use Rattle.std.proofs.Common.{◌≡◌, ⊎_elim, ℕ, suc, ◌+◌, ◌<◌, ◌≤◌, List, [], ◌∷◌, ◌++◌, length, take, drop, refl, sym, ◌∙◌, ap, arith, append_assoc, length-append, length-drop, take-append-drop}
use Rattle.std.proofs.lemmas.List.{take_at, drop_at, length-take-le, take-append-le, drop-append-le, drop-drop}
use Rattle.tach_media.specs.Medium.{put, bytes_at}
use Rattle.card_model.specs.Image.{StringShape, turned, oldest_pointer, string_of, circle_of, IsPlace}

-- a part behind a front
pub drop_more : (a b : List ℕ) (k : ℕ) → drop (length a + k) (a ++ b) ≡ drop k b
drop_more a b k = sym (drop-drop k (length a) (a ++ b)) ∙ ap (λ (l : List ℕ). drop k l) (drop_at a b (length a) refl)

pub take_more : (a b : List ℕ) (k : ℕ) → take (length a + k) (a ++ b) ≡ a ++ take k b
take_more [] b k = let none : length {A = ℕ} [] + k ≡ k = omega arith in ap (λ (n : ℕ). take n b) none
take_more (x ∷ a) b k = let one : length (x ∷ a) + k ≡ suc (length a + k) = omega arith in ap (λ (n : ℕ). take n (x ∷ (a ++ b))) one ∙ ap (λ (l : List ℕ). x ∷ l) (take_more a b k)

-- a write in the front, or behind it
pub put_front : (p : ℕ) (b front back : List ℕ) → p + length b ≤ length front → put p b (front ++ back) ≡ put p b front ++ back
put_front p b front back le =
    ap (λ (l : List ℕ). l ++ (b ++ drop (p + length b) (front ++ back))) (take-append-le p front back (omega (arith, le)))
    ∙ ap (λ (l : List ℕ). take p front ++ (b ++ l)) (drop-append-le (p + length b) front back le)
    ∙ ap (λ (l : List ℕ). take p front ++ l) (sym (append_assoc b (drop (p + length b) front) back))
    ∙ sym (append_assoc (take p front) (b ++ drop (p + length b) front) back)

pub put_back : (k : ℕ) (b front back : List ℕ) → put (length front + k) b (front ++ back) ≡ front ++ put k b back
put_back k b front back =
    ap (λ (l : List ℕ). l ++ (b ++ drop (length front + k + length b) (front ++ back))) (take_more front back k)
    ∙ ap (λ (l : List ℕ). (front ++ take k back) ++ (b ++ l)) (let far : length front + k + length b ≡ length front + (k + length b) = omega arith in ap (λ (n : ℕ). drop n (front ++ back)) far ∙ drop_more front back (k + length b))
    ∙ append_assoc front (take k back) (b ++ drop (k + length b) back)

pub put_length : (p : ℕ) (b x : List ℕ) → p + length b ≤ length x → length (put p b x) ≡ length x
put_length p b x le = omega (arith, length-append (take p x) (b ++ drop (p + length b) x), length-append b (drop (p + length b) x), length-drop (p + length b) x, length-take-le p x (omega (arith, le)))

-- a part in the front, or behind it
pub part_front : (p n : ℕ) (front back : List ℕ) → p + n ≤ length front → bytes_at (front ++ back) p n ≡ bytes_at front p n
part_front p n front back le =
    ap (λ (l : List ℕ). take n l) (drop-append-le p front back (omega (arith, le))) ∙ take-append-le n (drop p front) back (omega (arith, le, length-drop p front))

pub part_back : (k n : ℕ) (front back : List ℕ) → bytes_at (front ++ back) (length front + k) n ≡ bytes_at back k n
part_back k n front back = ap (λ (l : List ℕ). take n l) (drop_more front back k)

-- a circle, turned at the end of its front
pub turned_front : (front back : List ℕ) (n : ℕ) → length front ≡ n → turned n (front ++ back) ≡ back ++ front
turned_front front back n is = ap (λ (l : List ℕ). l ++ take n (front ++ back)) (drop_at front back n is) ∙ ap (λ (l : List ℕ). back ++ l) (take_at front back n is)

pub turned_length : (o : ℕ) (s : List ℕ) → length (turned o s) ≡ length s
turned_length o s = omega (arith, length-append (drop o s) (take o s), length-append (take o s) (drop o s), ap length (take-append-drop o s))

-- A write on a circle is one on the circle turned, where neither breaks over an end.
module _ (s b : List ℕ) (o k p : ℕ) (below : o < length s) (inside : p + length b ≤ length s) (before : k + length b ≤ length s) where
  parts : take o s ++ drop o s ≡ s
  parts = take-append-drop o s

  front_length : length (take o s) ≡ o
  front_length = length-take-le o s (omega (arith, below))

  back_length : length (drop o s) + o ≡ length s
  back_length = omega (arith, length-drop o s, below)

  straight : p ≡ o + k → turned o (put p b s) ≡ put k b (turned o s)
  straight is =
      let made : put p b s ≡ take o s ++ put k b (drop o s) =
      ap (λ (l : List ℕ). put p b l) (sym parts) ∙ ap (λ (n : ℕ). put n b (take o s ++ drop o s)) (is ∙ ap (λ (n : ℕ). n + k) (sym front_length)) ∙ put_back k b (take o s) (drop o s) in
      ap (λ (l : List ℕ). turned o l) made ∙ turned_front (take o s) (put k b (drop o s)) o front_length
      ∙ sym (put_front k b (drop o s) (take o s) (omega (arith, back_length, is, inside)))

  round : p + length s ≡ o + k → turned o (put p b s) ≡ put k b (turned o s)
  round is =
      let fits : p + length b ≤ length (take o s) = omega (arith, front_length, is, before) in
      let made : put p b s ≡ put p b (take o s) ++ drop o s = ap (λ (l : List ℕ). put p b l) (sym parts) ∙ put_front p b (take o s) (drop o s) fits in
      let at : length (drop o s) + p ≡ k = omega (arith, back_length, is) in
      ap (λ (l : List ℕ). turned o l) made ∙ turned_front (put p b (take o s)) (drop o s) o (put_length p b (take o s) fits ∙ front_length)
      ∙ sym (ap (λ (n : ℕ). put n b (drop o s ++ take o s)) (sym at) ∙ put_back p b (drop o s) (take o s))

  pub turned_put : IsPlace (length s) o k p → turned o (put p b s) ≡ put k b (turned o s)
  turned_put place = ⊎_elim straight round place

-- a part of a circle turned
module _ (s : List ℕ) (o k p n : ℕ) (below : o < length s) (inside : p + n ≤ length s) (before : k + n ≤ length s) where
  pub turned_part : IsPlace (length s) o k p → bytes_at (turned o s) k n ≡ bytes_at s p n
  turned_part place =
      let parts : take o s ++ drop o s ≡ s = take-append-drop o s in
      let front_length : length (take o s) ≡ o = length-take-le o s (omega (arith, below)) in
      let back_length : length (drop o s) + o ≡ length s = omega (arith, length-drop o s, below) in
      ⊎_elim
      (λ is. part_front k n (drop o s) (take o s) (omega (arith, back_length, is, inside)) ∙ sym (part_back k n (take o s) (drop o s))
      ∙ ap (λ (m : ℕ). bytes_at (take o s ++ drop o s) m n) (ap (λ (m : ℕ). m + k) front_length ∙ sym is) ∙ ap (λ (l : List ℕ). bytes_at l p n) parts)
      (λ is. let at : k ≡ length (drop o s) + p = omega (arith, back_length, is) in
      ap (λ (m : ℕ). bytes_at (drop o s ++ take o s) m n) at ∙ part_back p n (drop o s) (take o s)
      ∙ sym (part_front p n (take o s) (drop o s) (omega (arith, front_length, is, before))) ∙ ap (λ (l : List ℕ). bytes_at l p n) parts) place

-- a circle turned twice
pub turned_twice : (s : List ℕ) (o k p : ℕ) → o < length s → p < length s → k ≤ length s → IsPlace (length s) o k p → turned p s ≡ turned k (turned o s)
turned_twice s o k p below inside le place =
    let parts : take o s ++ drop o s ≡ s = take-append-drop o s in
    let front_length : length (take o s) ≡ o = length-take-le o s (omega (arith, below)) in
    let back_length : length (drop o s) + o ≡ length s = omega (arith, length-drop o s, below) in
    let a : List ℕ = take o s in
    let b : List ℕ = drop o s in
    ⊎_elim
    (λ is. let at : p ≡ length (take o s) + k = omega (arith, is, front_length) in
    let short : k ≤ length (drop o s) = omega (arith, back_length, is, inside) in
    ap (λ (l : List ℕ). turned p l) (sym parts) ∙ ap (λ (n : ℕ). turned n (take o s ++ drop o s)) at
    ∙ ap (λ (l : List ℕ). l ++ take (length (take o s) + k) (take o s ++ drop o s)) (drop_more (take o s) (drop o s) k)
    ∙ ap (λ (l : List ℕ). drop k (drop o s) ++ l) (take_more (take o s) (drop o s) k)
    ∙ sym (append_assoc (drop k (drop o s)) (take o s) (take k (drop o s)))
    ∙ sym (ap (λ (l : List ℕ). l ++ take k (drop o s ++ take o s)) (drop-append-le k (drop o s) (take o s) short) ∙ ap (λ (l : List ℕ). (drop k (drop o s) ++ take o s) ++ l) (take-append-le k (drop o s) (take o s) short)))
    (λ is. let at : k ≡ length (drop o s) + p = omega (arith, back_length, is) in
    let short : p ≤ length (take o s) = omega (arith, front_length, is, le) in
    ap (λ (l : List ℕ). turned p l) (sym parts)
    ∙ ap (λ (l : List ℕ). l ++ take p (take o s ++ drop o s)) (drop-append-le p (take o s) (drop o s) short)
    ∙ ap (λ (l : List ℕ). (drop p (take o s) ++ drop o s) ++ l) (take-append-le p (take o s) (drop o s) short)
    ∙ append_assoc (drop p (take o s)) (drop o s) (take p (take o s))
    ∙ sym (ap (λ (n : ℕ). turned n (drop o s ++ take o s)) at
    ∙ ap (λ (l : List ℕ). l ++ take (length (drop o s) + p) (drop o s ++ take o s)) (drop_more (drop o s) (take o s) p)
    ∙ ap (λ (l : List ℕ). drop p (take o s) ++ l) (take_more (drop o s) (take o s) p))) place

-- the string and the circle of an image that has them
module _ (r : StringShape) (x : List ℕ) (inside : r.base + (4 + r.size) ≤ length x) where
  pub string_length : length (string_of r x) ≡ r.size
  string_length = length-take-le r.size (drop (r.base + 4) x) (omega (arith, length-drop (r.base + 4) x, inside))

  pub circle_length : length (circle_of r x) ≡ r.size
  circle_length = turned_length (oldest_pointer r x) (string_of r x) ∙ string_length
