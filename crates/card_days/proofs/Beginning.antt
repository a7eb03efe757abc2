-- The writes of a new day.
use Rattle.std.proofs.Common.{◌≡◌, ◌⊎◌, inl, inr, ⊎_elim, ℕ, ◌+◌, ◌*◌, ◌/◌, ◌%◌, ◌<◌, ◌≤◌, Bool, true, false, cond, List, [], ◌∷◌, ◌++◌, length, take, drop, refl, sym, ◌∙◌, ap, subst, arith, lit≤, append_assoc}
use Rattle.std.specs.Prelude.{◌==◌}
use Rattle.std.proofs.lemmas.Bool.Decides.{nat_tests}
use Rattle.std.proofs.lemmas.List.{append-nil}
use Rattle.tach_media.specs.Medium.{put, bytes_at}
use Rattle.tach_media.proofs.Images.{put_outside, part_before}
use Rattle.card_model.specs.Days.{last_len, Day, len_of, total, far, body, record_of, records, IsDay, AreDays}
use Rattle.card_model.specs.Bytes.{number, two_bytes}
use Rattle.card_model.specs.Changes.{next_counter, new_day, IsLater, IsNext}
use Rattle.card_model.specs.Image.{StringShape, IsStringShape, oldest_pointer, newest_pointer, circle_of, IsPointer, IsPlace, spot, HoldsDays}
use Rattle.card_days.specs.Steps.{preceded, day_filled, measured, begun, IsBeginStep}
use Rattle.card_model.proofs.Circle.{put_back, circle_length}
use Rattle.card_model.proofs.Lists.{records_length, previous_of, records-append, far_last, last_len_is}
use Rattle.card_days.proofs.Lists.{some_appended, strict_words, few_strict}
use Rattle.card_days.proofs.Places.{Stands, stands, points, stands_front}
use Rattle.card_model.proofs.Reading.{place_then, fills}
use Rattle.card_days.proofs.Holding.{beyond}
use Rattle.card_days.proofs.Rounds.{Covered, rounds, covers, spot_is}

-- what stands before a further day
precedes : (q : ℕ) (d : Day) (ds : List Day) → previous_of q (d ∷ ds) ≡ last_len (d ∷ ds)
precedes q d [] = refl
precedes q d (e ∷ ds) = precedes (len_of d) e ds

-- a later day may follow
follows : (date : ℕ) (d : Day) (ds : List Day) (e : Day) → AreDays date (d ∷ ds) → IsLater e.date (d ∷ ds) → IsDay e → AreDays date (d ∷ (ds ++ e ∷ []))
follows date d [] e are later is = (are.0, are.1, (later, is, tt))
follows date d (f ∷ ds) e are later is = (are.0, are.1, follows d.date f ds e are.2 later is)

follows_any : (days : List Day) (e : Day) → AreDays 0 days → IsLater e.date days → IsDay e → AreDays 0 (days ++ e ∷ [])
follows_any [] e are later is = (later, is, tt)
follows_any (d ∷ ds) e are later is = follows 0 d ds e are later is

counter_short : (days : List Day) → next_counter days ≤ 9999
counter_short [] = lit≤ tt
counter_short (d ∷ []) = grind (arith, nat_tests)
counter_short (d ∷ e ∷ ds) = counter_short (e ∷ ds)

pub new_is : (days : List Day) (date : ℕ) (words : List ℕ) → IsNext days date words → IsDay (new_day days date words)
new_is days date words next = record { midnight = next.midnight; decimal = counter_short days; most = few_strict words next.ordered; ordered = strict_words words next.ordered }

-- the writes before the pointer, on what is free
three : (len m : ℕ) (bytes rest : List ℕ) → 4 ≤ length rest → put 2 (two_bytes m) (put 4 bytes (put 0 (two_bytes len) rest)) ≡ two_bytes len ++ (two_bytes m ++ (bytes ++ drop (length bytes) (drop 4 rest)))
three len m bytes [] le = absurd (omega (arith, le))
three len m bytes (a ∷ []) le = absurd (omega (arith, le))
three len m bytes (a ∷ b ∷ []) le = absurd (omega (arith, le))
three len m bytes (a ∷ b ∷ c ∷ []) le = absurd (omega (arith, le))
three len m bytes (a ∷ b ∷ c ∷ d ∷ rest) le =
    let zero_more : 0 + length bytes ≡ length bytes = omega arith in
    ap (λ (l : List ℕ). put 2 (two_bytes m) l) (put_back 0 bytes (len / 256 ∷ len % 256 ∷ c ∷ d ∷ []) rest)
    ∙ ap (λ (k : ℕ). two_bytes len ++ (two_bytes m ++ (bytes ++ drop k rest))) zero_more

same_start : (size o n p : ℕ) → n < size → p < size → o < size → IsPlace size o 0 n → IsPlace size o 0 p → n ≡ p
same_start size o n p n_below p_below o_below first next = ⊎_elim
    (λ a. ⊎_elim (λ b. omega (arith, a, b)) (λ b. absurd (omega (arith, b, o_below))) next) (λ a. absurd (omega (arith, a, o_below))) first

-- Where the newest day begins and how long it is, where the new one goes, and its bytes.
module _ (r : StringShape) (shape : IsStringShape r) (x : List ℕ) (inside : r.base + (4 + r.size) ≤ length x) (n p len date : ℕ) (words bytes : List ℕ) (few : length words ≤ 2)
    (n_pointer : IsPointer r.size n) (p_place : IsPlace r.size n len p) (p_pointer : IsPointer r.size p) (bytes_long : length bytes ≡ 8 + 2 * length words) where
  abbrev y1 : List ℕ
  y1 = preceded r p len x

  abbrev y2 : List ℕ
  y2 = day_filled r p len bytes x

  abbrev y3 : List ℕ
  y3 = measured r p len bytes x

  abbrev z : List ℕ
  z = begun r n p len bytes x

  abbrev a : ℕ
  a = spot r.size p 2

  abbrev b : ℕ
  b = spot r.size p 4

  a_is : IsPlace r.size p 2 a × IsPointer r.size a
  a_is = spot_is r.size p 2 shape.even p_pointer refl (omega (arith, shape.low))

  b_is : IsPlace r.size p 4 b × IsPointer r.size b
  b_is = spot_is r.size p 4 shape.even p_pointer refl (omega (arith, shape.low))

  two_fit : (m : ℕ) → IsPointer r.size m → m + 2 ≤ r.size
  two_fit m pointer = omega (arith, pointer.below, pointer.even, shape.even)

  module _ (days : List Day) (h : HoldsDays r x days) (next : IsNext days date words) (room : total days + (12 + 2 * length words) ≤ r.size)
      (n_is : n ≡ newest_pointer r x) (len_is : len ≡ last_len days) (bytes_is : bytes ≡ body (new_day days date words)) where
    abbrev k : ℕ
    k = total days

    abbrev o : ℕ
    o = oldest_pointer r x

    abbrev new : Day
    new = new_day days date words

    newest_place : IsPlace r.size o (far days) n
    newest_place = subst (λ (m : ℕ). IsPlace r.size o (far days) m) (sym n_is) h.distance

    whole : far days + len ≡ k
    whole = omega (arith, len_is, last_len_is days)

    p_far : IsPlace r.size o k p
    p_far = subst (λ (m : ℕ). IsPlace r.size o m p) whole (place_then r.size o (far days) n len p h.oldest.below n_pointer.below p_pointer.below (omega (arith, whole, room)) newest_place p_place)

    a_far : IsPlace r.size o (k + 2) a
    a_far = place_then r.size o k p 2 a h.oldest.below p_pointer.below a_is.1.below (omega (arith, room)) p_far a_is.0

    b_far : IsPlace r.size o (k + 4) b
    b_far = place_then r.size o k p 4 b h.oldest.below p_pointer.below b_is.1.below (omega (arith, room)) p_far b_is.0

    s1 : Stands r k (two_bytes len) x y1
    s1 = stands r x inside k p (two_bytes len) h.oldest.below p_far (two_fit p p_pointer) (omega (arith, room))

    y1_inside : r.base + (4 + r.size) ≤ length y1
    y1_inside = omega (arith, inside, s1.outside.same_length)

    free_fits : k + 4 + length bytes ≤ r.size
    free_fits = omega (arith, room, bytes_long)

    s2 : Stands r (k + 4) bytes y1 y2
    s2 = rounds r y1 y1_inside (k + 4) b bytes (omega (arith, s1.oldest, h.oldest.below)) b_is.1.below (subst (λ (m : ℕ). IsPlace r.size m (k + 4) b) (sym s1.oldest) b_far) free_fits

    y2_inside : r.base + (4 + r.size) ≤ length y2
    y2_inside = omega (arith, y1_inside, s2.outside.same_length)

    o_same : oldest_pointer r y2 ≡ o
    o_same = s2.oldest ∙ s1.oldest

    s3 : Stands r (k + 2) (two_bytes (4 + length bytes)) y2 y3
    s3 = stands r y2 y2_inside (k + 2) a (two_bytes (4 + length bytes)) (omega (arith, o_same, h.oldest.below)) (subst (λ (m : ℕ). IsPlace r.size m (k + 2) a) (sym o_same) a_far) (two_fit a a_is.1) (omega (arith, room))

    y3_inside : r.base + (4 + r.size) ≤ length y3
    y3_inside = omega (arith, y2_inside, s3.outside.same_length)

    -- while the length does not stand, an empty string is empty
    empty_1 : days ≡ [] → number (bytes_at (circle_of r y1) 2 2) ≡ 0
    empty_1 none =
        let at : k ≡ 0 = ap total none in
        ap (λ (l : List ℕ). number (bytes_at l 2 2)) (s1.circle ∙ ap (λ (m : ℕ). put m (two_bytes len) (circle_of r x)) at) ∙ h.empty none

    pub held_1 : (g : HoldsDays r y1 days) × (g.rest ≡ put 0 (two_bytes len) h.rest) × (g.previous ≡ h.previous)
    held_1 = beyond r shape x inside days k 0 (two_bytes len) y1 h (omega arith) s1 empty_1

    pub held_c : (c : List ℕ) → Covered r (k + 4) (length bytes) y1 c → HoldsDays r c days
    held_c c cover = (beyond r shape y1 y1_inside days (k + 4) 4 cover.bytes c held_1.0 refl cover.stands empty).0
      where
        empty : days ≡ [] → number (bytes_at (circle_of r c) 2 2) ≡ 0
        empty none =
            let fits : k + 4 + length cover.bytes ≤ length (circle_of r y1) = omega (arith, circle_length r y1 y1_inside, cover.long, free_fits) in
            ap (λ (l : List ℕ). number (bytes_at l 2 2)) cover.stands.circle
            ∙ ap number (part_before (k + 4) (length cover.bytes) 2 2 (circle_of r y1) (put (k + 4) cover.bytes (circle_of r y1)) (put_outside (k + 4) cover.bytes (circle_of r y1) fits) (omega arith)) ∙ empty_1 none

    pub held_2 : HoldsDays r y2 days
    held_2 = held_c y2 (record { bytes = bytes; long = omega arith; stands = s2 })

    -- what the string is then
    rest_long : 4 + length bytes ≤ length h.rest
    rest_long = omega (arith, fills r shape x inside days h, free_fits)

    circle_3 : circle_of r y3 ≡ records h.previous days ++ (record_of len new ++ drop (length bytes) (drop 4 h.rest))
    circle_3 =
        let front = records h.previous days in
        let m = 4 + length bytes in
        let front_length : length front ≡ k = records_length h.previous days in
        let none : length front + 0 ≡ k = omega (arith, front_length) in
        let m_is : m ≡ len_of new = omega (arith, bytes_long) in
        s3.circle ∙ ap (λ (l : List ℕ). put (k + 2) (two_bytes m) l) (s2.circle ∙ ap (λ (l : List ℕ). put (k + 4) bytes l) (s1.circle ∙ ap (λ (l : List ℕ). put k (two_bytes len) l) h.spelled))
        ∙ ap (λ (j : ℕ). put (k + 2) (two_bytes m) (put (k + 4) bytes (put j (two_bytes len) (front ++ h.rest)))) (sym none)
        ∙ ap (λ (j : ℕ). put (j + 2) (two_bytes m) (put (j + 4) bytes (put (length front + 0) (two_bytes len) (front ++ h.rest)))) (sym front_length)
        ∙ ap (λ (l : List ℕ). put (length front + 2) (two_bytes m) (put (length front + 4) bytes l)) (put_back 0 (two_bytes len) front h.rest)
        ∙ ap (λ (l : List ℕ). put (length front + 2) (two_bytes m) l) (put_back 4 bytes front (put 0 (two_bytes len) h.rest))
        ∙ put_back 2 (two_bytes m) front (put 4 bytes (put 0 (two_bytes len) h.rest))
        ∙ ap (λ (l : List ℕ). front ++ l) (three len m bytes h.rest (omega (arith, rest_long)))
        ∙ ap (λ (j : ℕ). front ++ (two_bytes len ++ (two_bytes j ++ (bytes ++ drop (length bytes) (drop 4 h.rest))))) m_is
        ∙ ap (λ (l : List ℕ). front ++ (two_bytes len ++ (two_bytes (len_of new) ++ (l ++ drop (length bytes) (drop 4 h.rest))))) bytes_is

    first_of : List Day → ℕ → ℕ
    first_of [] q = len
    first_of (d ∷ ds) q = q

    spelled_with : (ds : List Day) (q : ℕ) (rest : List ℕ) → len ≡ last_len ds → records q ds ++ (record_of len new ++ rest) ≡ records (first_of ds q) (ds ++ new ∷ []) ++ rest
    unfolding first_of
    spelled_with [] q rest len_known = ap (λ (l : List ℕ). l ++ rest) (sym (append-nil (record_of len new)))
    spelled_with (d ∷ ds) q rest len_known =
        let e = previous_of q (d ∷ ds) in
        let e_is : len ≡ e = len_known ∙ sym (precedes q d ds) in
        ap (λ (m : ℕ). records q (d ∷ ds) ++ (record_of m new ++ rest)) e_is ∙ sym (append_assoc (records q (d ∷ ds)) (record_of e new) rest)
        ∙ ap (λ (l : List ℕ). (records q (d ∷ ds) ++ l) ++ rest) (sym (append-nil (record_of e new))) ∙ ap (λ (l : List ℕ). l ++ rest) (sym (records-append q (d ∷ ds) (new ∷ [])))

    -- once the pointer is there too
    pub commit : (c : List ℕ) → oldest_pointer r c ≡ oldest_pointer r y3 → newest_pointer r c ≡ p → circle_of r c ≡ circle_of r y3 → HoldsDays r c (days ++ new ∷ [])
    commit c oldest newest circle =
        let o_is : oldest_pointer r c ≡ o = oldest ∙ s3.oldest ∙ o_same in
        record {
          oldest = subst (λ (m : ℕ). IsPointer r.size m) (sym o_is) h.oldest;
          newest = subst (λ (m : ℕ). IsPointer r.size m) (sym newest) p_pointer;
          distance = subst (λ (m : ℕ). IsPlace r.size m (far (days ++ new ∷ [])) (newest_pointer r c)) (sym o_is)
              (subst (λ (m : ℕ). IsPlace r.size o (far (days ++ new ∷ [])) m) (sym newest) (subst (λ (m : ℕ). IsPlace r.size o m p) (sym (far_last days new)) p_far));
          previous = first_of days h.previous;
          rest = drop (length bytes) (drop 4 h.rest);
          spelled = circle ∙ circle_3 ∙ spelled_with days h.previous (drop (length bytes) (drop 4 h.rest)) len_is;
          empty = λ none. absurd (some_appended days new none);
          ordered = follows_any days new h.ordered next.later (new_is days date words next);
        }

    -- before the pointer is moved
    pub held_3 : (days ≡ [] → ⊥) → HoldsDays r y3 days
    held_3 some = (beyond r shape y2 y2_inside days (k + 2) 2 (two_bytes (4 + length bytes)) y3 held_2 refl s3 (λ none. absurd (some none))).0

    n_same : newest_pointer r y3 ≡ n
    n_same = s3.newest ∙ s2.newest ∙ s1.newest ∙ sym n_is

    pub commit_same : n ≡ p → HoldsDays r y3 (days ++ new ∷ [])
    commit_same same = commit y3 refl (n_same ∙ same) refl

    pub commit_put : HoldsDays r (put (r.base + 2) (two_bytes p) y3) (days ++ new ∷ [])
    commit_put = let s = points r y3 y3_inside p in commit (put (r.base + 2) (two_bytes p) y3) s.oldest s.newest s.circle

    empty_same : days ≡ [] → n ≡ p
    empty_same none =
        same_start r.size o n p n_pointer.below p_pointer.below h.oldest.below (subst (λ (m : ℕ). IsPlace r.size o m n) (ap far none) newest_place) (subst (λ (m : ℕ). IsPlace r.size o m p) (ap total none) p_far)

    pub after_length : HoldsDays r y3 days ⊎ HoldsDays r y3 (days ++ new ∷ [])
    after_length = by days refl
      where
        by : (ds : List Day) → days ≡ ds → HoldsDays r y3 days ⊎ HoldsDays r y3 (days ++ new ∷ [])
        by [] is = inr (commit_same (empty_same is))
        by (d ∷ ds) is = inl (held_3 (λ none. let absurd_is : d ∷ ds ≡ [] = sym is ∙ none in cc))

    pub placed : HoldsDays r z (days ++ new ∷ [])
    placed = by (n == p) refl
      where
        by : (test : Bool) → (n == p) ≡ test → HoldsDays r (cond test y3 (put (r.base + 2) (two_bytes p) y3)) (days ++ new ∷ [])
        by true test = let same : n ≡ p = grind (arith, nat_tests, test) in commit_same same
        by false test = commit_put

    pub newest_placed : newest_pointer r z ≡ p
    newest_placed = by (n == p) refl
      where
        by : (test : Bool) → (n == p) ≡ test → newest_pointer r (cond test y3 (put (r.base + 2) (two_bytes p) y3)) ≡ p
        by true test = let same : n ≡ p = grind (arith, nat_tests, test) in n_same ∙ same
        by false test = (points r y3 y3_inside p).newest

    -- the first two bytes of the circle
    circle_z : circle_of r z ≡ circle_of r y3
    circle_z = by (n == p)
      where
        by : (test : Bool) → circle_of r (cond test y3 (put (r.base + 2) (two_bytes p) y3)) ≡ circle_of r y3
        by true = refl
        by false = (points r y3 y3_inside p).circle

    front_3 : take 2 (circle_of r z) ≡ take 2 (circle_of r y1)
    front_3 = ap (λ (l : List ℕ). take 2 l) circle_z ∙ stands_front r y2 y2_inside (k + 2) (two_bytes (4 + length bytes)) y3 (omega arith) (omega (arith, room)) s3
        ∙ stands_front r y1 y1_inside (k + 4) bytes y2 (omega arith) free_fits s2

    pub front_first : days ≡ [] → take 2 (circle_of r z) ≡ two_bytes 0
    front_first none =
        let len_none : len ≡ 0 = len_is ∙ ap last_len none in
        front_3 ∙ ap (λ (l : List ℕ). take 2 l) s1.circle ∙ ap (λ (m : ℕ). take 2 (put m (two_bytes len) (circle_of r x))) (ap total none) ∙ ap two_bytes len_none

    pub front_same : 2 ≤ k → take 2 (circle_of r z) ≡ take 2 (circle_of r x)
    front_same some = front_3 ∙ stands_front r x inside k (two_bytes len) y1 some (omega (arith, room)) s1

    pub again : days ≡ [] → (oldest_pointer r z ≡ oldest_pointer r x) × (newest_pointer r z ≡ oldest_pointer r x)
    again none = (oldest_z (n == p), newest_placed ∙ start)
      where
        oldest_z : (test : Bool) → oldest_pointer r (cond test y3 (put (r.base + 2) (two_bytes p) y3)) ≡ oldest_pointer r x
        oldest_z true = s3.oldest ∙ o_same
        oldest_z false = (points r y3 y3_inside p).oldest ∙ (s3.oldest ∙ o_same)

        start : p ≡ oldest_pointer r x
        start = let nothing = ap total none in ⊎_elim (λ is. omega (arith, is, nothing)) (λ is. absurd (omega (arith, is, nothing, h.oldest.below))) p_far

    pub placing : (c : List ℕ) → IsBeginStep r n p len bytes x c → HoldsDays r c days ⊎ HoldsDays r c (days ++ new ∷ [])
    placing c (inl part) = inl (⊎_elim (λ is. subst (λ (l : List ℕ). HoldsDays r l days) (sym is) h) (λ is. subst (λ (l : List ℕ). HoldsDays r l days) (sym is) held_1.0) (part.whole (lit≤ tt)))
    placing c (inr (inl round)) = inl (held_c c (covers r y1 y1_inside (k + 4) b bytes held_1.0.oldest.below b_is.1.below (subst (λ (m : ℕ). IsPlace r.size m (k + 4) b) (sym s1.oldest) b_far) free_fits c round))
    placing c (inr (inr (inl part))) = ⊎_elim (λ is. inl (subst (λ (l : List ℕ). HoldsDays r l days) (sym is) held_2)) (λ is. subst (λ (l : List ℕ). HoldsDays r l days ⊎ HoldsDays r l (days ++ new ∷ [])) (sym is) after_length) (part.whole (lit≤ tt))
    placing c (inr (inr (inr (other, part)))) = ⊎_elim (λ is. subst (λ (l : List ℕ). HoldsDays r l days ⊎ HoldsDays r l (days ++ new ∷ [])) (sym is) after_length) (λ is. inr (subst (λ (l : List ℕ). HoldsDays r l (days ++ new ∷ [])) (sym is) commit_put)) (part.whole (lit≤ tt))
