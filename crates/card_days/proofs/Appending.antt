-- The two writes that add a word to the newest day.
use Rattle.std.proofs.Common.{◌≡◌, ◌⊎◌, inl, inr, ⊎_elim, ℕ, ◌+◌, ◌≤◌, List, [], ◌∷◌, ◌++◌, length, take, drop, sym, ◌∙◌, ap, subst, arith, lit≤}
use Rattle.tach_media.specs.Medium.{put, SameOutside}
use Rattle.tach_media.specs.Plan.{piece, IsPartway}
use Rattle.tach_media.proofs.Images.{put_outside}
use Rattle.card_model.specs.Bytes.{two_bytes}
use Rattle.card_model.specs.Days.{Day, len_of, total, last_len, IsDay}
use Rattle.card_model.specs.Changes.{OnNewest, with_newest, with_word, TakesWord}
use Rattle.card_model.specs.Image.{StringShape, IsStringShape, circle_of, oldest_pointer, newest_pointer, IsPointer, IsPlace, HoldsDays, at}
use Rattle.card_model.proofs.Lists.{total-append, far_last, last_is, last_len_last}
use Rattle.card_model.proofs.Trims.{with_last}
use Rattle.card_days.proofs.Lists.{Split, some_appended, split, newest_on, longer_day}
use Rattle.card_days.proofs.Places.{Stands, stands, stands_front}
use Rattle.card_model.proofs.Reading.{place_then}
use Rattle.card_days.proofs.Holding.{beyond, longer}

-- Where the newest day begins and how long it is, and where the word and the length go.
module _ (r : StringShape) (shape : IsStringShape r) (x : List ℕ) (inside : r.base + (4 + r.size) ≤ length x) (w n len p q : ℕ) (n_is : n ≡ newest_pointer r x)
    (p_place : IsPlace r.size n len p) (p_pointer : IsPointer r.size p) (q_place : IsPlace r.size n 2 q) (q_pointer : IsPointer r.size q) where
  abbrev y : List ℕ
  y = put (at r p) (two_bytes w) x

  abbrev z : List ℕ
  z = put (at r q) (two_bytes (len + 2)) y

  p_fits : p + 2 ≤ r.size
  p_fits = omega (arith, p_pointer.below, p_pointer.even, shape.even)

  q_fits : q + 2 ≤ r.size
  q_fits = omega (arith, q_pointer.below, q_pointer.even, shape.even)

  y_same : SameOutside (at r p) 2 x y
  y_same = put_outside (at r p) (two_bytes w) x (omega (arith, p_fits, inside))

  y_inside : r.base + (4 + r.size) ≤ length y
  y_inside = omega (arith, inside, y_same.same_length)

  module _ (older : List Day) (d : Day) (h : HoldsDays r x (older ++ d ∷ [])) (takes : TakesWord w d) (len_found : len ≡ len_of d) (room : total older + len_of d + 2 ≤ r.size) where
    n_pointer : IsPointer r.size n
    n_pointer = subst (λ (m : ℕ). IsPointer r.size m) (sym n_is) h.newest

    day : IsDay d
    day = last_is 0 older d h.ordered

    newest_place : IsPlace r.size (oldest_pointer r x) (total older) n
    newest_place = subst (λ (m : ℕ). IsPlace r.size (oldest_pointer r x) (total older) m) (sym n_is) (subst (λ (m : ℕ). IsPlace r.size (oldest_pointer r x) m (newest_pointer r x)) (far_last older d) h.distance)

    length_place : IsPlace r.size (oldest_pointer r x) (total older + 2) q
    length_place = place_then r.size (oldest_pointer r x) (total older) n 2 q h.oldest.below n_pointer.below q_pointer.below (omega (arith, room)) newest_place q_place

    word_place : IsPlace r.size (oldest_pointer r x) (total older + len_of d) p
    word_place = place_then r.size (oldest_pointer r x) (total older) n (len_of d) p h.oldest.below n_pointer.below p_pointer.below (omega (arith, room)) newest_place (subst (λ (m : ℕ). IsPlace r.size n m p) len_found p_place)

    word_stands : Stands r (total older + len_of d) (two_bytes w) x y
    word_stands = stands r x inside (total older + len_of d) p (two_bytes w) h.oldest.below word_place p_fits room

    some : older ++ d ∷ [] ≡ [] → ⊥
    some none = some_appended older d none

    written : (g : HoldsDays r y (older ++ d ∷ [])) × (g.rest ≡ put 0 (two_bytes w) h.rest) × (g.previous ≡ h.previous)
    written = beyond r shape x inside (older ++ d ∷ []) (total older + len_of d) 0 (two_bytes w) y h (omega (arith, total-append older (d ∷ []))) word_stands (λ none. absurd (some none))

    still : HoldsDays r y (older ++ d ∷ [])
    still = written.0

    length_stands : Stands r (total older + 2) (two_bytes (len_of d + 2)) y z
    length_stands = subst (λ (m : ℕ). Stands r (total older + 2) (two_bytes (len_of d + 2)) y (put (at r q) (two_bytes (m + 2)) y)) (sym len_found)
        (stands r y y_inside (total older + 2) q (two_bytes (len_of d + 2)) still.oldest.below (subst (λ (m : ℕ). IsPlace r.size m (total older + 2) q) (sym word_stands.oldest) length_place) q_fits (omega (arith, room)))

    counted : HoldsDays r z (older ++ with_word w d ∷ [])
    counted = longer r shape y y_inside older d w written.0 (drop 2 h.rest) z written.1 length_stands (longer_day w d day takes)

    counted_newest : newest_pointer r z ≡ newest_pointer r x
    counted_newest = length_stands.newest ∙ word_stands.newest

    counted_front : take 2 (circle_of r z) ≡ take 2 (circle_of r x)
    counted_front = stands_front r y y_inside (total older + 2) (two_bytes (len_of d + 2)) z (omega arith) (omega (arith, room)) length_stands
        ∙ stands_front r x inside (total older + len_of d) (two_bytes w) y (omega arith) room word_stands

  -- The days that are there: the writes count the word, and before the second one nothing has changed.
  module _ (days : List Day) (h : HoldsDays r x days) (on : OnNewest (TakesWord w) days) (len_is : len ≡ last_len days) (room : total days + 2 ≤ r.size) where
    ends : Split days
    ends = split (TakesWord w) days on

    abbrev older : List Day
    older = ends.older

    abbrev d : Day
    d = ends.newest

    g : HoldsDays r x (older ++ d ∷ [])
    g = subst (λ (l : List Day). HoldsDays r x l) ends.is h

    takes : TakesWord w d
    takes = newest_on (TakesWord w) older d (subst (λ (l : List Day). OnNewest (TakesWord w) l) ends.is on)

    found : len ≡ len_of d
    found = len_is ∙ ap last_len ends.is ∙ last_len_last older d

    fits : total older + len_of d + 2 ≤ r.size
    fits = omega (arith, room, ap total ends.is, total-append older (d ∷ []))

    longer_days : with_newest (with_word w) days ≡ older ++ with_word w d ∷ []
    longer_days = ap (λ (l : List Day). with_newest (with_word w) l) ends.is ∙ with_last (with_word w) older d

    kept : HoldsDays r y days
    kept = subst (λ (l : List Day). HoldsDays r y l) (sym ends.is) (still older d g takes found fits)

    pub appended : HoldsDays r z (with_newest (with_word w) days)
    appended = subst (λ (l : List Day). HoldsDays r z l) (sym longer_days) (counted older d g takes found fits)

    pub newest_same : newest_pointer r z ≡ newest_pointer r x
    newest_same = counted_newest older d g takes found fits

    pub front_same : take 2 (circle_of r z) ≡ take 2 (circle_of r x)
    front_same = counted_front older d g takes found fits

    pub while_appending : (c : List ℕ) → IsPartway (piece (at r p) (two_bytes w) ∷ piece (at r q) (two_bytes (len + 2)) ∷ []) x c → HoldsDays r c days ⊎ HoldsDays r c (with_newest (with_word w) days)
    while_appending c (inl part) = inl (⊎_elim (λ is. subst (λ (l : List ℕ). HoldsDays r l days) (sym is) h) (λ is. subst (λ (l : List ℕ). HoldsDays r l days) (sym is) kept) (part.whole (lit≤ tt)))
    while_appending c (inr (inl part)) = ⊎_elim (λ is. inl (subst (λ (l : List ℕ). HoldsDays r l days) (sym is) kept)) (λ is. inr (subst (λ (l : List ℕ). HoldsDays r l (with_newest (with_word w) days)) (sym is) appended)) (part.whole (lit≤ tt))
    while_appending c (inr (inr none)) = absurd none
