-- What pieces leave of a part of an image.
use Rattle.std.proofs.Common.{◌≡◌, ◌⊎◌, inl, inr, ⊎_elim, ℕ, ◌+◌, ◌≤◌, List, [], ◌∷◌, length, refl, sym, ◌∙◌, ap, subst, arith}
use Rattle.std.specs.List.{AllByRecursion}
use Rattle.std.specs.Int.{to_be_bytes, w32}
use Rattle.tach_media.specs.Medium.{put, bytes_at, SameOutside}
use Rattle.tach_media.proofs.Images.{put_outside, part_before, part_after}
use Rattle.unit_model.specs.Ring.{number_at}
use Rattle.tach_media.specs.Plan.{Piece, put_all, IsPartway, IsInside}
use Rattle.unit_model.proofs.Numbers.{number_same, number_put4}

-- a piece that lies before or behind a part
abbrev pub IsApart : (a n : ℕ) → Piece → Type 0
IsApart a n p = (p.place + length p.bytes ≤ a) ⊎ (a + n ≤ p.place)

apart_same : (a n place len : ℕ) (x c : List ℕ) → SameOutside place len x c → (place + len ≤ a) ⊎ (a + n ≤ place) → bytes_at c a n ≡ bytes_at x a n
apart_same a n place len x c same (inl before) = part_after place len a n x c same before
apart_same a n place len x c same (inr behind) = part_before place len a n x c same behind

module _ (from end : ℕ) where
  pub puts_apart : (ps : List Piece) (a n : ℕ) (x : List ℕ) → AllByRecursion (IsInside from end) ps → AllByRecursion (IsApart a n) ps → end ≤ length x → bytes_at (put_all ps x) a n ≡ bytes_at x a n
  puts_apart [] a n x inside apart fits = refl
  puts_apart (p ∷ ps) a n x inside apart fits =
      let one : SameOutside p.place (length p.bytes) x (put p.place p.bytes x) = put_outside p.place p.bytes x (omega (arith, inside.0.inside, fits)) in
      puts_apart ps a n (put p.place p.bytes x) inside.1 apart.1 (omega (arith, fits, one.same_length)) ∙ apart_same a n p.place (length p.bytes) x (put p.place p.bytes x) one apart.0

  pub partway_apart : (ps : List Piece) (a n : ℕ) (x c : List ℕ) → AllByRecursion (IsInside from end) ps → AllByRecursion (IsApart a n) ps → end ≤ length x → IsPartway ps x c → bytes_at c a n ≡ bytes_at x a n
  partway_apart [] a n x c inside apart fits none = absurd none
  partway_apart (p ∷ ps) a n x c inside apart fits (inl here) = apart_same a n p.place (length p.bytes) x c here.outside apart.0
  partway_apart (p ∷ ps) a n x c inside apart fits (inr there) =
      let one : SameOutside p.place (length p.bytes) x (put p.place p.bytes x) = put_outside p.place p.bytes x (omega (arith, inside.0.inside, fits)) in
      partway_apart ps a n (put p.place p.bytes x) c inside.1 apart.1 (omega (arith, fits, one.same_length)) there ∙ apart_same a n p.place (length p.bytes) x (put p.place p.bytes x) one apart.0

  -- a number of four bytes that pieces leave or turn to 0
  abbrev pub IsApartOrZero : ℕ → Piece → Type 0
  IsApartOrZero a p = IsApart a 4 p ⊎ ((p.place ≡ a) × (p.bytes ≡ to_be_bytes w32 0))

  abbrev pub IsHeld : (a v : ℕ) → List ℕ → Type 0
  IsHeld a v x = (number_at x a 4 ≡ 0) ⊎ (number_at x a 4 ≡ v)

  held_same : (a v : ℕ) (x c : List ℕ) → bytes_at c a 4 ≡ bytes_at x a 4 → IsHeld a v x → IsHeld a v c
  held_same a v x c same (inl empty) = inl (number_same x c a 4 same ∙ empty)
  held_same a v x c same (inr is) = inr (number_same x c a 4 same ∙ is)

  held_put : (p : Piece) (a v : ℕ) (x : List ℕ) → IsInside from end p → IsApartOrZero a p → end ≤ length x → IsHeld a v x → IsHeld a v (put p.place p.bytes x)
  held_put p a v x inside (inl apart) fits held = held_same a v x (put p.place p.bytes x) (apart_same a 4 p.place (length p.bytes) x (put p.place p.bytes x) (put_outside p.place p.bytes x (omega (arith, inside.inside, fits))) apart) held
  held_put p a v x inside (inr zero) fits held =
      let len : length p.bytes ≡ 4 = ap length zero.1 in
      inl ((λ t. number_at (put (zero.0 t) (zero.1 t) x) a 4) ∙ number_put4 a 0 x (omega (arith, inside.inside, fits, zero.0, len)) (omega arith))

  pub puts_held : (ps : List Piece) (a v : ℕ) (x : List ℕ) → AllByRecursion (IsInside from end) ps → AllByRecursion (IsApartOrZero a) ps → end ≤ length x → IsHeld a v x → IsHeld a v (put_all ps x)
  puts_held [] a v x inside all fits held = held
  puts_held (p ∷ ps) a v x inside all fits held =
      let one : SameOutside p.place (length p.bytes) x (put p.place p.bytes x) = put_outside p.place p.bytes x (omega (arith, inside.0.inside, fits)) in
      puts_held ps a v (put p.place p.bytes x) inside.1 all.1 (omega (arith, fits, one.same_length)) (held_put p a v x inside.0 all.0 fits held)

  pub partway_held : (ps : List Piece) (a v : ℕ) (x c : List ℕ) → AllByRecursion (IsInside from end) ps → AllByRecursion (IsApartOrZero a) ps → end ≤ length x → IsHeld a v x → IsPartway ps x c → IsHeld a v c
  partway_held [] a v x c inside all fits held none = absurd none
  partway_held (p ∷ ps) a v x c inside all fits held (inl here) = by all.0
    where
      by : IsApartOrZero a p → IsHeld a v c
      by (inl apart) = held_same a v x c (apart_same a 4 p.place (length p.bytes) x c here.outside apart) held
      by (inr zero) = let len : length p.bytes ≡ 4 = ap length zero.1 in
          ⊎_elim (λ is. subst (IsHeld a v) (sym is) held) (λ is. subst (IsHeld a v) (sym is) (held_put p a v x inside.0 (inr zero) fits held)) (here.whole (omega (arith, len)))
  partway_held (p ∷ ps) a v x c inside all fits held (inr there) =
      let one : SameOutside p.place (length p.bytes) x (put p.place p.bytes x) = put_outside p.place p.bytes x (omega (arith, inside.0.inside, fits)) in
      partway_held ps a v (put p.place p.bytes x) c inside.1 all.1 (omega (arith, fits, one.same_length)) (held_put p a v x inside.0 all.0 fits held) there
