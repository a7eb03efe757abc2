-- What the ring of blocks holds of a run.
use Rattle.std.proofs.Common.{◌≡◌, ◌⊎◌, inl, inr, ⊎_elim, ℕ, ◌+◌, ◌-◌, ◌*◌, ◌<◌, ◌≤◌, List, [], ◌∷◌, ◌++◌, length, take, drop, map, sym, ◌∙◌, ap, subst, arith, append-nil, append_assoc, length-append, length-drop, length-take, take-append-drop, drop-drop, lit≤, lit<}
use Rattle.std.proofs.lemmas.Bool.{cases_lt}
use Rattle.std.proofs.lemmas.List.{map-append, drop-append-le, length-map}
use Rattle.card_layout.specs.Images.{SameOutside}
use Rattle.gated_ring.specs.Ring.{IsShape, PointsInside, IsDense, entry_at, indices, taken, with_head, newest_of}
use Rattle.gated_ring.specs.Change.{IsAdding, IsAdded}
use Rattle.gated_ring.proofs.Dense.{drop_all}
use Rattle.gated_ring.proofs.Elsewhere.{ring_outside, ring_elsewhere}
use Rattle.gated_ring.proofs.Listing.{few_indices}
use Rattle.run_rings.specs.Carried.{RingKeeps}
use Rattle.run_rings.proofs.Carried.{carries-more, carries-maybe}
use Rattle.std.specs.Int.{to_be_bytes, w32}
use Rattle.speed_model.specs.declared.block.Block.{Block}
use Rattle.speed_model.specs.Blocks.{block_bytes}
use Rattle.speed_model.specs.Stored.{speed_ring, stored_blocks, HoldsNewest}

-- ---- the newest of a list

all-newest : {X : Type 0} (n : ℕ) (l : List X) → length l ≤ n → newest_of n l ≡ l
all-newest {X} n l few = let none : length l - n ≡ 0 = omega (arith, few) in ap (λ (k : ℕ). drop k l) none

one-more : {X : Type 0} (l : List X) (e : X) → length (l ++ e ∷ []) ≡ length l + 1
one-more {X} l e = length-append l (e ∷ [])

-- with one more it is that of what was the newest
newest-more : {X : Type 0} (n : ℕ) (l : List X) (e : X) → 0 < n → newest_of n (newest_of n l ++ e ∷ []) ≡ newest_of n (l ++ e ∷ [])
newest-more {X} n l e some = ⊎_elim few many (cases_lt (length l) n)
  where
    few : length l < n → newest_of n (newest_of n l ++ e ∷ []) ≡ newest_of n (l ++ e ∷ [])
    few lt = ap (λ (k : List X). newest_of n (k ++ e ∷ [])) (all-newest n l (omega (arith, lt)))

    many : n ≤ length l → newest_of n (newest_of n l ++ e ∷ []) ≡ newest_of n (l ++ e ∷ [])
    many le =
        let k = length l - n in
        let long : length (drop k l) ≡ n = omega (arith, length-drop k l, le) in
        let left : length (drop k l ++ e ∷ []) - n ≡ 1 = omega (arith, one-more (drop k l) e, long) in
        let right : length (l ++ e ∷ []) - n ≡ k + 1 = omega (arith, one-more l e, le) in
        ap (λ (j : ℕ). drop j (drop k l ++ e ∷ [])) left
        ∙ drop-append-le 1 (drop k l) (e ∷ []) (omega (arith, long, some))
        ∙ ap (λ (m : List X). m ++ e ∷ []) (drop-drop 1 k l)
        ∙ sym (drop-append-le (k + 1) l (e ∷ []) (omega (arith, le, some)))
        ∙ ap (λ (j : ℕ). drop j (l ++ e ∷ [])) (sym right)

-- ---- the ring

pub ring-shape : IsShape speed_ring
ring-shape = record { some = lit< tt; gate = lit≤ tt; pointer = lit≤ tt; holds = λ some. lit≤ tt; short = lit< tt }

-- a block fills its place
pub whole-head : (x : List ℕ) (i : ℕ) (b : Block) → length b.speeds ≡ 60 → with_head speed_ring x i (block_bytes b) ≡ block_bytes b
whole-head x i b sixty =
    let long : length (block_bytes b) ≡ 64 = omega (arith, length-append (to_be_bytes w32 b.time) b.speeds, sixty) in
    let few : length (entry_at speed_ring x i) ≤ 64 = omega (arith, length-take 64 (drop (2393648 + i * 64) x)) in
    ap (λ (l : List ℕ). block_bytes b ++ l) (drop_all (length (block_bytes b)) (entry_at speed_ring x i) (omega (arith, long, few))) ∙ append-nil (block_bytes b)

map-more : (more : List Block) (b : Block) → map block_bytes (more ++ b ∷ []) ≡ map block_bytes more ++ block_bytes b ∷ []
map-more more b = map-append block_bytes more (b ∷ [])

pub newest-begins : (start : List ℕ) → PointsInside speed_ring start → IsDense speed_ring start → HoldsNewest start start []
newest-begins start points dense =
    let few : length (stored_blocks start) ≤ 1440 = omega (arith, length-map (indices speed_ring start) (entry_at speed_ring start), few_indices speed_ring start points) in
    record {
      points = points;
      dense = dense;
      newest = sym (ap (newest_of 1440) (append-nil (stored_blocks start)) ∙ all-newest 1440 (stored_blocks start) few);
    }

module _ (start x : List ℕ) (more : List Block) (h : HoldsNewest start x more) where
  abbrev all : List (List ℕ)
  all = stored_blocks start ++ map block_bytes more

  pub newest-added : (b : Block) (y : List ℕ) → length b.speeds ≡ 60 → IsAdded speed_ring (block_bytes b) x y → HoldsNewest start y (more ++ b ∷ [])
  newest-added b y sixty added = record {
    points = added.points h.points;
    dense = added.dense h.points h.dense;
    newest =
        (added.list h.points).newest h.dense
        ∙ ap (λ (e : List ℕ). newest_of 1440 (stored_blocks x ++ e ∷ [])) (whole-head x (taken speed_ring x) b sixty)
        ∙ ap (λ (l : List (List ℕ)). newest_of 1440 (l ++ block_bytes b ∷ [])) h.newest
        ∙ newest-more 1440 all (block_bytes b) (lit< tt)
        ∙ ap (newest_of 1440) (append_assoc (stored_blocks start) (map block_bytes more) (block_bytes b ∷ []) ∙ ap (λ (l : List (List ℕ)). stored_blocks start ++ l) (sym (map-more more b)));
  }

  pub newest-elsewhere : (place len : ℕ) (c : List ℕ) → place + len ≤ 2393644 → SameOutside place len x c → HoldsNewest start c more
  newest-elsewhere place len c before same =
      let is = ring_elsewhere speed_ring ring-shape x c (ring_outside speed_ring place len x c (inl before) same) h.points in
      record {
        points = subst (λ (n : ℕ). n < 1440) (sym is.0) h.points;
        dense = is.3 h.dense;
        newest = is.2 ∙ h.newest;
      }

  pub newest-carries : RingKeeps speed_ring start x (map block_bytes more)
  newest-carries = record {
    points = h.points;
    dense = λ d. h.dense;
    gone = take (length all - 1440) all;
    shown = sym (take-append-drop (length all - 1440) all) ∙ ap (λ (l : List (List ℕ)). take (length all - 1440) all ++ l) (sym h.newest);
    full = λ d. ⊎_elim few many (cases_lt 1440 (length all));
  }
    where
      many : length all ≤ 1440 → (take (length all - 1440) all ≡ []) ⊎ (1440 ≤ length (stored_blocks x) + 1)
      many le = inl (let none : length all - 1440 ≡ 0 = omega (arith, le) in ap (λ (k : ℕ). take k all) none)

      few : 1440 < length all → (take (length all - 1440) all ≡ []) ⊎ (1440 ≤ length (stored_blocks x) + 1)
      few lt = inr (let long : length (stored_blocks x) ≡ length all - (length all - 1440) = ap (λ (l : List (List ℕ)). length l) h.newest ∙ length-drop (length all - 1440) all in omega (arith, long, lt))

-- what a run carries, whatever failed
module _ (start x : List ℕ) (more : List Block) (h : RingKeeps speed_ring start x (map block_bytes more)) (b : Block) (sixty : length b.speeds ≡ 60) where
  with-block : (c : List ℕ) → RingKeeps speed_ring start c (map block_bytes more ++ with_head speed_ring x (taken speed_ring x) (block_bytes b) ∷ []) → RingKeeps speed_ring start c (map block_bytes (more ++ b ∷ []))
  with-block c carries = subst (RingKeeps speed_ring start c) (ap (λ (e : List ℕ). map block_bytes more ++ e ∷ []) (whole-head x (taken speed_ring x) b sixty) ∙ sym (map-more more b)) carries

  pub carries-added : (y : List ℕ) → IsAdded speed_ring (block_bytes b) x y → RingKeeps speed_ring start y (map block_bytes (more ++ b ∷ []))
  carries-added y added = with-block y (carries-more speed_ring start x (map block_bytes more) h (block_bytes b) y added)

  pub carries-moment : (c : List ℕ) → IsAdding speed_ring (block_bytes b) x c → RingKeeps speed_ring start c (map block_bytes more) ⊎ RingKeeps speed_ring start c (map block_bytes (more ++ b ∷ []))
  carries-moment c moment = ⊎_elim (λ before. inl before) (λ after. inr (with-block c after)) (carries-maybe speed_ring start x (map block_bytes more) h (block_bytes b) c moment)
