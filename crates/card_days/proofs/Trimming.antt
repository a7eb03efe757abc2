-- The newest day goes.
use Rattle.std.proofs.Common.{◌≡◌, ◌≢◌, inl, inr, ⊎_elim, ℕ, suc, ◌+◌, ◌%◌, ◌<◌, ◌≤◌, Bool, true, false, cond, List, [], ◌∷◌, ◌++◌, length, refl, sym, ◌∙◌, ap, subst, arith, lit≤, append_assoc, length-append}
use Rattle.std.proofs.lemmas.Bool.Decides.{nat_tests}
use Rattle.std.proofs.lemmas.Bool.{le-leb}
use Rattle.std.proofs.lemmas.List.{append-nil}
use Rattle.tach_media.specs.Medium.{put, bytes_at, SameOutside, IsPartlyWritten}
use Rattle.tach_media.proofs.Images.{outside_same, outside_then, outside_wider, put_outside}
use Rattle.card_model.specs.Bytes.{number, two_bytes}
use Rattle.card_model.specs.Days.{Day, len_of, total, far, record_of, records, IsDay, AreDays}
use Rattle.card_model.specs.Image.{StringShape, IsStringShape, oldest_pointer, newest_pointer, circle_of, IsPointer, IsPlace, HoldsDays, at}
use Rattle.std.specs.Prelude.{nat_le, not}
use Rattle.card_days.proofs.Lists.{some_appended}
use Rattle.card_model.proofs.Lists.{count_least, previous_of, records_length, total-append, far_last, last_is, len_least, len_even, len_most, front_days, previous_last}
use Rattle.card_model.proofs.Trims.{until_none}
use Rattle.card_days.specs.Trim.{newest_later, ShorterBy, IsTrimming, IsTrimmed, IsWithoutLast, IsLosingLast}
use Rattle.card_model.specs.Changes.{until, AllLater}
use Rattle.card_model.proofs.Circle.{part_back, circle_length}
use Rattle.card_days.proofs.Places.{Pointed, stands, points}
use Rattle.card_model.proofs.Numbers.{number_two}
use Rattle.card_model.proofs.Reading.{place_back, same_distance, spelled_at, fills, circle_part}

-- the last of the older days
pub record Front (older : List Day) : Type 0 where
  pub before : List Day
  pub last : Day
  pub is : older ≡ before ++ last ∷ []

fronts : (d : Day) (ds : List Day) → Front (d ∷ ds)
fronts d [] = record { before = []; last = d; is = refl }
fronts d (e ∷ ds) = let f = fronts e ds in record { before = d ∷ f.before; last = f.last; is = ap (λ (l : List Day). d ∷ l) f.is }

module _ (r : StringShape) (shape : IsStringShape r) (x : List ℕ) (inside : r.base + (4 + r.size) ≤ length x) (n : ℕ) (n_is : IsPointer r.size (newest_pointer r x) → n ≡ newest_pointer r x) (n_pointer : IsPointer r.size n) where
  newest_at : (older : List Day) (d : Day) → HoldsDays r x (older ++ d ∷ []) → IsPlace r.size (oldest_pointer r x) (total older) n
  newest_at older d h = subst (λ (m : ℕ). IsPlace r.size (oldest_pointer r x) (total older) m) (sym (n_is h.newest)) (subst (λ (m : ℕ). IsPlace r.size (oldest_pointer r x) m (newest_pointer r x)) (far_last older d) h.distance)

  room : (older : List Day) (d : Day) → HoldsDays r x (older ++ d ∷ []) → total older + 14 ≤ r.size
  room older d h = omega (arith, fills r shape x inside (older ++ d ∷ []) h, total-append older (d ∷ []), len_least d (last_is 0 older d h.ordered))

  -- the only day
  module _ (o_same : IsPointer r.size (oldest_pointer r x) → n ≡ oldest_pointer r x) (q : ℕ) (q_place : IsPlace r.size n 2 q) (q_pointer : IsPointer r.size q) where
    abbrev y : List ℕ
    y = put (at r q) (two_bytes 0) x

    q_fits : q + 2 ≤ r.size
    q_fits = omega (arith, q_pointer.below, q_pointer.even, shape.even)

    y_outside : SameOutside r.base (4 + r.size) x y
    y_outside = outside_wider r.base (4 + r.size) (at r q) 2 x y (put_outside (at r q) (two_bytes 0) x (omega (arith, q_fits, inside))) (omega arith) (omega (arith, q_fits))

    none_left : (older : List Day) (d : Day) → HoldsDays r x (older ++ d ∷ []) → older ≡ []
    none_left [] d h = refl
    none_left (e ∷ es) d h =
        let start : IsPlace r.size (oldest_pointer r x) 0 n = inl (omega (arith, o_same h.oldest)) in
        let zero_far : total (e ∷ es) ≡ 0 = same_distance r.size (oldest_pointer r x) (total (e ∷ es)) 0 n (omega (arith, room (e ∷ es) d h)) (omega (arith, shape.low)) (newest_at (e ∷ es) d h) start in
        absurd (omega (arith, zero_far))

    emptied : (d : Day) → HoldsDays r x (d ∷ []) → HoldsDays r y []
    emptied d h =
        let s = stands r x inside 2 q (two_bytes 0) h.oldest.below (subst (λ (m : ℕ). IsPlace r.size m 2 q) (o_same h.oldest) q_place) q_fits (omega (arith, shape.low)) in
        let long : 2 + 2 ≤ length (circle_of r x) = omega (arith, circle_length r x inside, shape.low) in
        record {
          oldest = subst (λ (m : ℕ). IsPointer r.size m) (sym s.oldest) h.oldest;
          newest = subst (λ (m : ℕ). IsPointer r.size m) (sym s.newest) h.newest;
          distance = inl (omega (arith, s.newest, s.oldest, o_same h.oldest, n_is h.newest));
          previous = 0;
          rest = circle_of r y;
          spelled = refl;
          empty = λ none. ap (λ (l : List ℕ). number (bytes_at l 2 2)) s.circle ∙ ap number (stands_there (circle_of r x) long);
          ordered = tt;
        }
      where
        stands_there : (t : List ℕ) → 2 + 2 ≤ length t → bytes_at (put 2 (two_bytes 0) t) 2 2 ≡ two_bytes 0
        stands_there [] le = absurd (omega (arith, le))
        stands_there (a ∷ []) le = absurd (omega (arith, le))
        stands_there (a ∷ b ∷ t) le = refl

    pub only_gone : IsWithoutLast r x y
    only_gone = record {
      outside = y_outside;
      list = λ older d h. let none = none_left older d h in
          subst (λ (l : List Day). HoldsDays r y l) (sym none) (emptied d (subst (λ (l : List Day). HoldsDays r x (l ++ d ∷ [])) none h));
    }

    pub while_only : (c : List ℕ) → IsPartlyWritten (at r q) (two_bytes 0) x c → IsLosingLast r x c
    while_only c part = ⊎_elim
        (λ is. subst (λ (l : List ℕ). IsLosingLast r x l) (sym is) (record { outside = outside_same r.base (4 + r.size) x; list = λ older d h. inl h }))
        (λ is. subst (λ (l : List ℕ). IsLosingLast r x l) (sym is) (record { outside = y_outside; list = λ older d h. inr (only_gone.list older d h) })) (part.whole (lit≤ tt))

  -- one of several
  module _ (other : IsPointer r.size (oldest_pointer r x) → n ≢ oldest_pointer r x) (len p : ℕ) (len_is : number (bytes_at x (at r n) 2) % 2 ≡ 0 → number (bytes_at x (at r n) 2) ≤ 2892 → len ≡ number (bytes_at x (at r n) 2))
      (p_place : IsPlace r.size p len n) (p_pointer : IsPointer r.size p) where
    abbrev z : List ℕ
    z = put (r.base + 2) (two_bytes p) x

    moved : Pointed r p x z
    moved = points r x inside p

    back_to : (before : List Day) (e d : Day) → HoldsDays r x ((before ++ e ∷ []) ++ d ∷ []) → HoldsDays r z (before ++ e ∷ [])
    back_to before e d h =
        let older = before ++ e ∷ [] in
        let q = previous_of h.previous older in
        let a = records h.previous older in
        let back = record_of q d ++ ([] ++ h.rest) in
        let day : IsDay e = last_is 0 before e (front_days 0 older (d ∷ []) h.ordered) in
        let free = room older d h in
        let whole : total older ≡ total before + (len_of e + 0) = total-append before (e ∷ []) in
        let field : number (bytes_at x (at r n) 2) ≡ len_of e =
        ap number (sym (circle_part r shape x inside (total older) n 2 h.oldest.below (newest_at older d h) (omega (arith, n_pointer.below, n_pointer.even, shape.even)) (omega (arith, free)))
        ∙ ap (λ (l : List ℕ). bytes_at l (total older) 2) (h.spelled ∙ spelled_at h.previous older d [] h.rest)
        ∙ ap (λ (m : ℕ). bytes_at (a ++ back) m 2) (sym (omega (arith, records_length h.previous older))) ∙ part_back 0 2 a back) ∙ number_two q ∙ previous_last h.previous before e in
        let found : len ≡ len_of e = len_is (ap (λ (m : ℕ). m % 2) field ∙ len_even e) (omega (arith, field, len_most e day)) ∙ field in
        let s = moved in
        let at_far : IsPlace r.size (oldest_pointer r x) (total before) p =
        place_back r.size (oldest_pointer r x) (total before) len p n h.oldest.below p_pointer.below n_pointer.below (omega (arith, found, whole, free))
        (subst (λ (m : ℕ). IsPlace r.size (oldest_pointer r x) m n) (omega (arith, whole, found)) (newest_at older d h)) p_place in
        record {
          oldest = subst (λ (m : ℕ). IsPointer r.size m) (sym s.oldest) h.oldest;
          newest = subst (λ (m : ℕ). IsPointer r.size m) (sym s.newest) p_pointer;
          distance = subst (λ (m : ℕ). IsPlace r.size m (far older) (newest_pointer r z)) (sym s.oldest)
              (subst (λ (m : ℕ). IsPlace r.size (oldest_pointer r x) (far older) m) (sym s.newest) (subst (λ (m : ℕ). IsPlace r.size (oldest_pointer r x) m p) (sym (far_last before e)) at_far));
          previous = h.previous;
          rest = record_of q d ++ h.rest;
          spelled = s.circle ∙ h.spelled ∙ spelled_at h.previous older d [] h.rest;
          empty = λ none. absurd (some_appended before e none);
          ordered = front_days 0 older (d ∷ []) h.ordered;
        }

    pub one_gone : IsWithoutLast r x z
    one_gone = record { outside = moved.outside; list = by }
      where
        by : (older : List Day) (d : Day) → HoldsDays r x (older ++ d ∷ []) → HoldsDays r z older
        by [] d h = absurd (other h.oldest (n_is h.newest ∙ at_start h.distance))
          where
            at_start : IsPlace r.size (oldest_pointer r x) 0 (newest_pointer r x) → newest_pointer r x ≡ oldest_pointer r x
            at_start place = ⊎_elim (λ is. omega (arith, is)) (λ is. absurd (omega (arith, is, h.oldest.below))) place
        by (e ∷ es) d h = let f = fronts e es in subst (λ (l : List Day). HoldsDays r z l) (sym f.is) (back_to f.before f.last d (subst (λ (l : List Day). HoldsDays r x (l ++ d ∷ [])) f.is h))

    pub while_one : (c : List ℕ) → IsPartlyWritten (r.base + 2) (two_bytes p) x c → IsLosingLast r x c
    while_one c part = ⊎_elim
        (λ is. subst (λ (l : List ℕ). IsLosingLast r x l) (sym is) (record { outside = outside_same r.base (4 + r.size) x; list = λ older d h. inl h }))
        (λ is. subst (λ (l : List ℕ). IsLosingLast r x l) (sym is) (record { outside = moved.outside; list = λ older d h. inr (one_gone.list older d h) })) (part.whole (lit≤ tt))

-- what goes on
pub shorter_then : (date i j : ℕ) (days kept still : List Day) → ShorterBy date i days kept → ShorterBy date j kept still → ShorterBy date (i + j) days still
shorter_then date i j days kept still first next = record {
  less = record {
    gone = next.less.gone ++ first.less.gone;
    is = first.less.is ∙ ap (λ (l : List Day). l ++ first.less.gone) next.less.is ∙ append_assoc still next.less.gone first.less.gone;
    later = both next.less.gone first.less.gone next.less.later first.less.later;
  };
  many = omega (arith, length-append next.less.gone first.less.gone, first.many, next.many);
}
  where
    both : (ds es : List Day) → AllLater date ds → AllLater date es → AllLater date (ds ++ es)
    both [] es a b = b
    both (d ∷ ds) es a b = (a.0, both ds es a.1 b)

pub trimming_then : (r : StringShape) (date i j : ℕ) (x y c : List ℕ) → IsTrimming r date i x y → IsTrimming r date j y c → IsTrimming r date (i + j) x c
trimming_then r date i j x y c first next = record {
  outside = outside_then r.base (4 + r.size) x y c first.outside next.outside;
  list = λ days h.
      let one = first.list days h in
      let two = next.list one.0 one.2 in
      (two.0, shorter_then date i j days one.0 two.0 one.1 two.1, two.2);
}

-- the first is no later than the newest
first_low : (date last : ℕ) (k : Day) (ks gone : List Day) → AreDays last (k ∷ (ks ++ gone)) → newest_later date (k ∷ ks) ≡ false → k.date ≤ date
first_low date last k [] gone are newest = low k.date date newest
  where
    low : (m n : ℕ) → not (nat_le m n) ≡ false → m ≤ n
    low m n is = grind (arith, nat_tests)
first_low date last k (e ∷ ks) gone are newest = omega (arith, are.2.0, first_low date k.date e ks gone are.2 newest)

-- the days up to a date, where the rest are later
pub until_is : (date last : ℕ) (kept gone : List Day) → AreDays last (kept ++ gone) → AllLater date gone → newest_later date kept ≡ false → until date (kept ++ gone) ≡ kept
until_is date last [] gone are later newest = until_none date gone later
until_is date last (k ∷ []) gone are later newest =
    ap (λ (b : Bool). cond b (k ∷ until date gone) []) (le-leb k.date date (first_low date last k [] gone are newest)) ∙ ap (λ (l : List Day). k ∷ l) (until_none date gone later)
until_is date last (k ∷ e ∷ ks) gone are later newest =
    ap (λ (b : Bool). cond b (k ∷ until date ((e ∷ ks) ++ gone)) []) (le-leb k.date date (first_low date last k (e ∷ ks) gone are newest)) ∙ ap (λ (l : List Day). k ∷ l) (until_is date k.date (e ∷ ks) gone are.2 later newest)

-- one drop of a later day
later_is : (date : ℕ) (days : List Day) → newest_later date days ≡ true → (f : Front days) × (date < f.last.date)
later_is date [] is = absurd (cc)
later_is date (d ∷ []) is = (record { before = []; last = d; is = refl }, high d.date date is)
  where
    high : (m n : ℕ) → not (nat_le m n) ≡ true → n < m
    high m n is = grind (arith, nat_tests)
later_is date (d ∷ e ∷ ds) is =
    let f = later_is date (e ∷ ds) is in
    (record { before = d ∷ f.0.before; last = f.0.last; is = ap (λ (l : List Day). d ∷ l) f.0.is }, f.1)

one_shorter : (date : ℕ) (days : List Day) (f : Front days) → date < f.last.date → ShorterBy date 1 days f.before
one_shorter date days f lt = record { less = record { gone = f.last ∷ []; is = f.is; later = (lt, tt) }; many = lit≤ tt }

pub trimming_one : (r : StringShape) (date : ℕ) (x y : List ℕ) → ((days : List Day) → HoldsDays r x days → newest_later date days ≡ true) → IsWithoutLast r x y → IsTrimming r date 1 x y
trimming_one r date x y later step = record {
  outside = step.outside;
  list = λ days h.
      let f = later_is date days (later days h) in
      (f.0.before, one_shorter date days f.0 f.1, step.list f.0.before f.0.last (subst (λ (l : List Day). HoldsDays r x l) f.0.is h));
}

pub trimming_part : (r : StringShape) (date : ℕ) (x c : List ℕ) → ((days : List Day) → HoldsDays r x days → newest_later date days ≡ true) → IsLosingLast r x c → IsTrimming r date 0 x c
trimming_part r date x c later step = record {
  outside = step.outside;
  list = λ days h.
      let f = later_is date days (later days h) in
      ⊎_elim
      (λ still. (days, record { less = record { gone = []; is = sym (append-nil days); later = tt }; many = lit≤ tt }, subst (λ (l : List Day). HoldsDays r c l) (sym f.0.is) still))
      (λ gone. let one = one_shorter date days f.0 f.1 in (f.0.before, record { less = one.less; many = omega arith }, gone))
      (step.list f.0.before f.0.last (subst (λ (l : List Day). HoldsDays r x l) f.0.is h));
}

pub trimming_fewer : (r : StringShape) (date i : ℕ) (x c : List ℕ) → IsTrimming r date i x c → IsTrimming r date 0 x c
trimming_fewer r date i x c step = record { outside = step.outside; list = λ days h. let s = step.list days h in (s.0, record { less = s.1.less; many = omega arith }, s.2) }

-- when no later day is left
pub ends_trimmed : (r : StringShape) (date i : ℕ) (x y : List ℕ) → IsTrimming r date i x y → ((days kept : List Day) → HoldsDays r x days → ShorterBy date i days kept → HoldsDays r y kept → newest_later date kept ≡ false) → IsTrimmed r date x y
ends_trimmed r date i x y step none = record {
  outside = step.outside;
  list = λ days h.
      let s = step.list days h in
      subst (λ (l : List Day). HoldsDays r y l) (sym (ap (λ (l : List Day). until date l) s.1.less.is ∙ until_is date 0 s.0 s.1.less.gone (subst (λ (l : List Day). AreDays 0 l) s.1.less.is h.ordered) s.1.less.later (none days s.0 h s.1 s.2))) s.2;
}

-- of days of which the rest are later no more are left than these
until_few : (date : ℕ) (kept gone : List Day) → AllLater date gone → length (until date (kept ++ gone)) ≤ length kept
until_few date [] gone later = omega (arith, ap length (until_none date gone later))
until_few date (k ∷ ks) gone later = by (nat_le k.date date) (until_few date ks gone later)
  where
    by : (b : Bool) → length (until date (ks ++ gone)) ≤ length ks → length (cond b (k ∷ until date (ks ++ gone)) []) ≤ suc (length ks)
    by true rest = omega arith
    by false rest = omega arith

pub until_short : (date : ℕ) (days : List Day) → length (until date days) ≤ length days
until_short date days = subst (λ (l : List Day). length (until date l) ≤ length days) (append-nil days) (until_few date days [] tt)

-- as many days are gone at least as drops were made
pub drops_few : (r : StringShape) (date i : ℕ) (x c : List ℕ) → IsTrimming r date i x c → (days : List Day) → HoldsDays r x days → i + length (until date days) ≤ length days
drops_few r date i x c step days h =
    let s = step.list days h in
    omega (arith, s.1.many, ap length s.1.less.is, length-append s.0 s.1.less.gone, subst (λ (l : List Day). length (until date l) ≤ length s.0) (sym s.1.less.is) (until_few date s.0 s.1.less.gone s.1.less.later))

-- so many can't be gone and one be left
pub too_many : (r : StringShape) (shape : IsStringShape r) (date i : ℕ) (x : List ℕ) → r.base + (4 + r.size) ≤ length x → 984 ≤ i → (days kept : List Day) → HoldsDays r x days → ShorterBy date i days kept → newest_later date kept ≡ false
too_many r shape date i x inside all days [] h s = refl
too_many r shape date i x inside all days (k ∷ ks) h s =
    let whole : length days ≡ length ((k ∷ ks) ++ s.less.gone) = ap length s.less.is in
    absurd (omega (arith, whole, all, length-append (k ∷ ks) s.less.gone, s.many, count_least 0 days h.ordered, fills r shape x inside days h, shape.high))
