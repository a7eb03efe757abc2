-- Writes of one field: the length before the oldest day, and the distance of the newest.
use Rattle.std.proofs.Common.{◌≡◌, inl, inr, ⊎_elim, ℕ, ◌+◌, ◌≤◌, List, [], ◌∷◌, ◌++◌, length, refl, sym, ◌∙◌, ap, subst, arith, lit≤}
use Rattle.tach_media.specs.Medium.{put, bytes_at, SameOutside, IsPartlyWritten}
use Rattle.tach_media.proofs.Images.{outside_same, outside_wider, put_outside}
use Rattle.card_model.specs.Bytes.{number, two_bytes}
use Rattle.card_model.specs.Days.{Day, len_of, total, far, record_of, records, IsDay}
use Rattle.card_model.specs.Changes.{with_newest, with_km}
use Rattle.card_model.specs.Image.{StringShape, IsStringShape, oldest_pointer, newest_pointer, IsPointer, IsPlace, HoldsDays, at}
use Rattle.card_days.specs.Steps.{SameDays, IsMeasured, IsMeasuring}
use Rattle.card_model.proofs.Circle.{put_back}
use Rattle.card_model.proofs.Lists.{previous_of, records_length, total-append, far_last, last_is, len_least}
use Rattle.card_model.proofs.Trims.{with_last}
use Rattle.card_days.proofs.Lists.{some_appended, another_newest, split, some_newest}
use Rattle.card_days.proofs.Places.{Stands, stands}
use Rattle.card_model.proofs.Reading.{place_then, spelled_at, fills}
use Rattle.card_days.proofs.Holding.{beyond, finished}

-- a write of two bytes in the string
module _ (r : StringShape) (shape : IsStringShape r) (x : List ℕ) (inside : r.base + (4 + r.size) ≤ length x) (p : ℕ) (p_pointer : IsPointer r.size p) (m : ℕ) where
  abbrev y : List ℕ
  y = put (at r p) (two_bytes m) x

  p_fits : p + 2 ≤ r.size
  p_fits = omega (arith, p_pointer.below, p_pointer.even, shape.even)

  y_outside : SameOutside r.base (4 + r.size) x y
  y_outside = outside_wider r.base (4 + r.size) (at r p) 2 x y (put_outside (at r p) (two_bytes m) x (omega (arith, p_fits, inside))) (omega arith) (omega (arith, p_fits))

  module _ (p_is : IsPointer r.size (oldest_pointer r x) → p ≡ oldest_pointer r x) where
    pub first_mended : SameDays r x y
    first_mended = record { outside = y_outside; list = λ days h. by days h (stands r x inside 0 p (two_bytes m) h.oldest.below (inl (omega (arith, p_is h.oldest))) p_fits (omega (arith, shape.low))) }
      where
        by : (days : List Day) → HoldsDays r x days → Stands r 0 (two_bytes m) x y → HoldsDays r y days
        by [] h s = (beyond r shape x inside [] 0 0 (two_bytes m) y h refl s (λ none. ap (λ (l : List ℕ). number (bytes_at l 2 2)) s.circle ∙ h.empty refl)).0
        by (d ∷ ds) h s = finished r shape x inside d ds m y h s

    pub while_mending : (c : List ℕ) → IsPartlyWritten (at r p) (two_bytes m) x c → SameDays r x c
    while_mending c part = ⊎_elim
        (λ is. subst (λ (l : List ℕ). SameDays r x l) (sym is) (record { outside = outside_same r.base (4 + r.size) x; list = λ days h. h }))
        (λ is. subst (λ (l : List ℕ). SameDays r x l) (sym is) first_mended) (part.whole (lit≤ tt))

  module _ (n : ℕ) (n_is : IsPointer r.size (newest_pointer r x) → n ≡ newest_pointer r x) (n_pointer : IsPointer r.size n) (p_place : IsPlace r.size n 10 p) where
    of_last : (older : List Day) (d : Day) → HoldsDays r x (older ++ d ∷ []) → HoldsDays r y (older ++ with_km m d ∷ [])
    of_last older d h =
        let e = previous_of h.previous older in
        let f = with_km m d in
        let a = records h.previous older in
        let back = record_of e d ++ ([] ++ h.rest) in
        let day : IsDay d = last_is 0 older d h.ordered in
        let all = fills r shape x inside (older ++ d ∷ []) h in
        let whole : total (older ++ d ∷ []) ≡ total older + (len_of d + 0) = total-append older (d ∷ []) in
        let newest : IsPlace r.size (oldest_pointer r x) (total older) n =
        subst (λ (k : ℕ). IsPlace r.size (oldest_pointer r x) (total older) k) (sym (n_is h.newest)) (subst (λ (k : ℕ). IsPlace r.size (oldest_pointer r x) k (newest_pointer r x)) (far_last older d) h.distance) in
        let field : IsPlace r.size (oldest_pointer r x) (total older + 10) p = place_then r.size (oldest_pointer r x) (total older) n 10 p h.oldest.below n_pointer.below p_pointer.below (omega (arith, all, whole, len_least d day)) newest p_place in
        let s = stands r x inside (total older + 10) p (two_bytes m) h.oldest.below field p_fits (omega (arith, all, whole, len_least d day)) in
        let same_far : far (older ++ f ∷ []) ≡ far (older ++ d ∷ []) = far_last older f ∙ sym (far_last older d) in
        record {
          oldest = subst (λ (k : ℕ). IsPointer r.size k) (sym s.oldest) h.oldest;
          newest = subst (λ (k : ℕ). IsPointer r.size k) (sym s.newest) h.newest;
          distance = subst (λ (k : ℕ). IsPlace r.size k (far (older ++ f ∷ [])) (newest_pointer r y)) (sym s.oldest)
              (subst (λ (k : ℕ). IsPlace r.size (oldest_pointer r x) (far (older ++ f ∷ [])) k) (sym s.newest) (subst (λ (k : ℕ). IsPlace r.size (oldest_pointer r x) k (newest_pointer r x)) (sym same_far) h.distance));
          previous = h.previous;
          rest = h.rest;
          spelled = s.circle ∙ ap (λ (l : List ℕ). put (total older + 10) (two_bytes m) l) (h.spelled ∙ spelled_at h.previous older d [] h.rest)
              ∙ ap (λ (k : ℕ). put (k + 10) (two_bytes m) (a ++ back)) (sym (records_length h.previous older)) ∙ put_back 10 (two_bytes m) a back
              ∙ sym (spelled_at h.previous older f [] h.rest);
          empty = λ none. absurd (some_appended older f none);
          ordered = another_newest 0 older d f refl (record { midnight = day.midnight; decimal = day.decimal; most = day.most; ordered = day.ordered }) h.ordered;
        }

    pub measured_one : IsMeasured r m x y
    measured_one = record {
      outside = y_outside;
      list = λ days h some.
          let s = split (λ e. Unit {0}) days (some_newest days some) in
          subst (λ (l : List Day). HoldsDays r y l) (sym (ap (λ (l : List Day). with_newest (with_km m) l) s.is ∙ with_last (with_km m) s.older s.newest)) (of_last s.older s.newest (subst (λ (l : List Day). HoldsDays r x l) s.is h));
    }

    pub while_measuring : (c : List ℕ) → IsPartlyWritten (at r p) (two_bytes m) x c → IsMeasuring r m x c
    while_measuring c part = ⊎_elim
        (λ is. subst (λ (l : List ℕ). IsMeasuring r m x l) (sym is) (record { outside = outside_same r.base (4 + r.size) x; list = λ days h some. inl h }))
        (λ is. subst (λ (l : List ℕ). IsMeasuring r m x l) (sym is) (record { outside = y_outside; list = λ days h some. inr (measured_one.list days h some) })) (part.whole (lit≤ tt))
