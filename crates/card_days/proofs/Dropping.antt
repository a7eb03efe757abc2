-- The two writes that drop the oldest day.
use Rattle.std.proofs.Common.{◌≡◌, ◌⊎◌, inl, inr, ⊎_elim, ℕ, ◌+◌, ◌≤◌, List, [], ◌∷◌, length, take, sym, ◌∙◌, ap, subst, arith, lit≤}
use Rattle.tach_media.specs.Medium.{put, SameOutside}
use Rattle.tach_media.proofs.Images.{put_outside}
use Rattle.tach_media.specs.Plan.{piece, IsPartway}
use Rattle.card_model.specs.Bytes.{two_bytes}
use Rattle.card_model.specs.Days.{Day, len_of}
use Rattle.card_model.specs.Image.{StringShape, IsStringShape, circle_of, oldest_pointer, newest_pointer, IsPointer, IsPlace, HoldsDays, at}
use Rattle.card_model.proofs.Lists.{len_most}
use Rattle.card_days.proofs.Holding.{without_first, finished}
use Rattle.card_days.proofs.Places.{Stands, Turned, stands, turns}

-- The oldest of several days, and where the next one begins.
module _ (r : StringShape) (shape : IsStringShape r) (x : List ℕ) (inside : r.base + (4 + r.size) ≤ length x) (d e : Day) (ds : List Day) (h : HoldsDays r x (d ∷ e ∷ ds))
    (next : ℕ) (pointer : IsPointer r.size next) (place : IsPlace r.size (oldest_pointer r x) (len_of d) next) where
  abbrev y : List ℕ
  y = put r.base (two_bytes next) x

  abbrev z : List ℕ
  z = put (at r next) (two_bytes 0) y

  y_same : SameOutside r.base 2 x y
  y_same = put_outside r.base (two_bytes next) x (omega (arith, inside))

  y_inside : r.base + (4 + r.size) ≤ length y
  y_inside = omega (arith, inside, y_same.same_length)

  turned : Turned r (len_of d) next x y
  turned = turns r x inside (len_of d) next h.oldest.below pointer.below (omega (arith, len_most d h.ordered.1, shape.low)) place

  first_gone : HoldsDays r y (e ∷ ds)
  first_gone = without_first r shape x inside d e ds next y h pointer place turned

  zeroed : Stands r 0 (two_bytes 0) y z
  zeroed = stands r y y_inside 0 next (two_bytes 0) first_gone.oldest.below (inl (omega (arith, turned.oldest))) (omega (arith, pointer.below, pointer.even, shape.even)) (omega (arith, shape.low))

  pub first_finished : HoldsDays r z (e ∷ ds)
  first_finished = finished r shape y y_inside e ds 0 z first_gone zeroed

  pub cleared : take 2 (circle_of r z) ≡ two_bytes 0
  cleared = ap (λ (l : List ℕ). take 2 l) zeroed.circle

  pub newest_same : newest_pointer r z ≡ newest_pointer r x
  newest_same = zeroed.newest ∙ turned.newest

  pub while_dropping : (c : List ℕ) → IsPartway (piece r.base (two_bytes next) ∷ piece (at r next) (two_bytes 0) ∷ []) x c → HoldsDays r c (d ∷ e ∷ ds) ⊎ HoldsDays r c (e ∷ ds)
  while_dropping c (inl pointing) = ⊎_elim (λ is. inl (subst (λ (l : List ℕ). HoldsDays r l (d ∷ e ∷ ds)) (sym is) h)) (λ is. inr (subst (λ (l : List ℕ). HoldsDays r l (e ∷ ds)) (sym is) first_gone)) (pointing.whole (lit≤ tt))
  while_dropping c (inr (inl zeroing)) = inr (⊎_elim (λ is. subst (λ (l : List ℕ). HoldsDays r l (e ∷ ds)) (sym is) first_gone) (λ is. subst (λ (l : List ℕ). HoldsDays r l (e ∷ ds)) (sym is) first_finished) (zeroing.whole (lit≤ tt)))
  while_dropping c (inr (inr none)) = absurd none
