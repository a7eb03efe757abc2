-- Writes on the string, seen on the circle from the oldest day on.
use Rattle.std.proofs.Common.{◌≡◌, ℕ, ◌+◌, ◌<◌, ◌≤◌, List, ◌++◌, length, take, drop, sym, ◌∙◌, ap, subst, arith, take-append-drop}
use Rattle.std.proofs.lemmas.List.{take_at, drop_at, length-take-le}
use Rattle.tach_media.specs.Medium.{put, bytes_at, SameOutside}
use Rattle.tach_media.proofs.Images.{put_outside, part_before, part_after, part_put, outside_wider}
use Rattle.card_model.specs.Bytes.{number, two_bytes}
use Rattle.card_model.specs.Image.{StringShape, turned, oldest_pointer, newest_pointer, string_of, circle_of, IsPlace, at}
use Rattle.card_model.proofs.Circle.{put_front, put_back, put_length, turned_put, turned_twice, string_length, circle_length}
use Rattle.card_model.proofs.Numbers.{number_two}

-- bytes that were written so far behind the oldest day, and nothing else
pub record Stands (r : StringShape) (k : ℕ) (b x y : List ℕ) : Type 0 where
  pub outside : SameOutside r.base (4 + r.size) x y
  pub oldest : oldest_pointer r y ≡ oldest_pointer r x
  pub newest : newest_pointer r y ≡ newest_pointer r x
  pub circle : circle_of r y ≡ put k b (circle_of r x)

-- the oldest pointer was set
pub record Turned (r : StringShape) (k p : ℕ) (x y : List ℕ) : Type 0 where
  pub outside : SameOutside r.base (4 + r.size) x y
  pub oldest : oldest_pointer r y ≡ p
  pub newest : newest_pointer r y ≡ newest_pointer r x
  pub circle : circle_of r y ≡ turned k (circle_of r x)

-- the newest pointer was set
pub record Pointed (r : StringShape) (p : ℕ) (x y : List ℕ) : Type 0 where
  pub outside : SameOutside r.base (4 + r.size) x y
  pub oldest : oldest_pointer r y ≡ oldest_pointer r x
  pub newest : newest_pointer r y ≡ p
  pub circle : circle_of r y ≡ circle_of r x

module _ (r : StringShape) (x : List ℕ) (inside : r.base + (4 + r.size) ≤ length x) where
  pub string_put : (p : ℕ) (b : List ℕ) → p + length b ≤ r.size → string_of r (put (at r p) b x) ≡ put p b (string_of r x)
  string_put p b fits =
      let n = r.base + 4 in
      let f : List ℕ = take n x in
      let t : List ℕ = drop n x in
      let s : List ℕ = take r.size t in
      let u : List ℕ = drop r.size t in
      let f_length : length f ≡ n = length-take-le n x (omega (arith, inside)) in
      let s_length : length s ≡ r.size = string_length r x inside in
      let whole : f ++ t ≡ x = take-append-drop n x in
      let halves : s ++ u ≡ t = take-append-drop r.size t in
      let made : put (n + p) b x ≡ f ++ (put p b s ++ u) =
      ap (λ (l : List ℕ). put (n + p) b l) (sym whole) ∙ ap (λ (m : ℕ). put (m + p) b (f ++ t)) (sym f_length) ∙ put_back p b f t
      ∙ ap (λ (l : List ℕ). f ++ put p b l) (sym halves) ∙ ap (λ (l : List ℕ). f ++ l) (put_front p b s u (omega (arith, s_length, fits))) in
      ap (λ (l : List ℕ). bytes_at l n r.size) made ∙ ap (λ (l : List ℕ). take r.size l) (drop_at f (put p b s ++ u) n f_length)
      ∙ take_at (put p b s) u r.size (put_length p b s (omega (arith, s_length, fits)) ∙ s_length)

  -- what is written on the string stands on the circle
  pub stands : (k p : ℕ) (b : List ℕ) → oldest_pointer r x < r.size → IsPlace r.size (oldest_pointer r x) k p → p + length b ≤ r.size → k + length b ≤ r.size → Stands r k b x (put (at r p) b x)
  stands k p b below place fits fits_too =
      let y = put (at r p) b x in
      let same : SameOutside (at r p) (length b) x y = put_outside (at r p) b x (omega (arith, inside, fits)) in
      let oldest : oldest_pointer r y ≡ oldest_pointer r x = ap number (part_before (at r p) (length b) r.base 2 x y same (omega arith)) in
      let s = string_of r x in
      let s_length : length s ≡ r.size = string_length r x inside in
      record {
        outside = outside_wider r.base (4 + r.size) (at r p) (length b) x y same (omega arith) (omega (arith, fits));
        oldest = oldest;
        newest = ap number (part_before (at r p) (length b) (r.base + 2) 2 x y same (omega arith));
        circle = ap (λ (n : ℕ). turned n (string_of r y)) oldest ∙ ap (λ (l : List ℕ). turned (oldest_pointer r x) l) (string_put p b fits)
            ∙ turned_put s b (oldest_pointer r x) k p (omega (arith, below, s_length)) (omega (arith, fits, s_length)) (omega (arith, fits_too, s_length)) (subst (λ (n : ℕ). IsPlace n (oldest_pointer r x) k p) (sym s_length) place);
      }

  -- a write behind them leaves the first two bytes
  pub stands_front : (k : ℕ) (b y : List ℕ) → 2 ≤ k → k + length b ≤ r.size → Stands r k b x y → take 2 (circle_of r y) ≡ take 2 (circle_of r x)
  stands_front k b y behind fits s =
      let le : k + length b ≤ length (circle_of r x) = omega (arith, fits, circle_length r x inside) in
      ap (λ (l : List ℕ). take 2 l) s.circle ∙ part_before k (length b) 0 2 (circle_of r x) (put k b (circle_of r x)) (put_outside k b (circle_of r x) le) (omega (arith, behind))

  -- the oldest pointer, moved to a place so far behind it
  pub turns : (k p : ℕ) → oldest_pointer r x < r.size → p < r.size → k ≤ r.size → IsPlace r.size (oldest_pointer r x) k p → Turned r k p x (put r.base (two_bytes p) x)
  turns k p below p_below k_fits place =
      let y = put r.base (two_bytes p) x in
      let same : SameOutside r.base 2 x y = put_outside r.base (two_bytes p) x (omega (arith, inside)) in
      let s = string_of r x in
      let s_length : length s ≡ r.size = string_length r x inside in
      let oldest : oldest_pointer r y ≡ p = ap number (part_put r.base (two_bytes p) x (omega (arith, inside))) ∙ number_two p in
      record {
        outside = outside_wider r.base (4 + r.size) r.base 2 x y same (omega arith) (omega arith);
        oldest = oldest;
        newest = ap number (part_after r.base 2 (r.base + 2) 2 x y same (omega arith));
        circle = ap (λ (n : ℕ). turned n (string_of r y)) oldest ∙ ap (λ (l : List ℕ). turned p l) (part_after r.base 2 (r.base + 4) r.size x y same (omega arith))
            ∙ turned_twice s (oldest_pointer r x) k p (omega (arith, below, s_length)) (omega (arith, p_below, s_length)) (omega (arith, k_fits, s_length)) (subst (λ (n : ℕ). IsPlace n (oldest_pointer r x) k p) (sym s_length) place);
      }

  -- the newest pointer
  pub points : (p : ℕ) → Pointed r p x (put (r.base + 2) (two_bytes p) x)
  points p =
      let y = put (r.base + 2) (two_bytes p) x in
      let same : SameOutside (r.base + 2) 2 x y = put_outside (r.base + 2) (two_bytes p) x (omega (arith, inside)) in
      let oldest : oldest_pointer r y ≡ oldest_pointer r x = ap number (part_before (r.base + 2) 2 r.base 2 x y same (omega arith)) in
      record {
        outside = outside_wider r.base (4 + r.size) (r.base + 2) 2 x y same (omega arith) (omega arith);
        oldest = oldest;
        newest = ap number (part_put (r.base + 2) (two_bytes p) x (omega (arith, inside))) ∙ number_two p;
        circle = ap (λ (n : ℕ). turned n (string_of r y)) oldest ∙ ap (λ (l : List ℕ). turned (oldest_pointer r x) l) (part_after (r.base + 2) 2 (r.base + 4) r.size x y same (omega arith));
      }
