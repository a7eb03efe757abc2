-- The walk of `load` from the oldest day to the newest.
use Rattle.std.proofs.Common.{◌≡◌, ◌≢◌, ◌⊎◌, inl, inr, ⊎_elim, ℕ, zero, suc, ◌+◌, ◌*◌, ◌%◌, ◌<◌, ◌≤◌, Bool, true, false, cond, Some, List, [], ◌∷◌, ◌++◌, length, take, drop, refl, sym, ◌∙◌, ap, subst, arith, append_assoc, length-append, take-append-drop}
use Rattle.std.specs.Prelude.{nat_eq, nat_lt}
use Rattle.std.proofs.lemmas.Bool.{and_parts, eqb-true, ltb-true}
use Rattle.std.proofs.lemmas.List.{take_at, take-append-le, append-nil}
use Rattle.tach_media.specs.Medium.{bytes_at}
use Rattle.card_model.specs.Bytes.{number}
use Rattle.card_model.specs.Days.{Day, len_of, total, record_of, records, IsDay, AreDays}
use Rattle.card_model.specs.Image.{StringShape, IsStringShape, turned, oldest_pointer, newest_pointer, string_of, circle_of, IsPointer, IsPlace, spot, HoldsDays}
use Rattle.card_model.specs.Walk.{days_of}
use Rattle.card_model.specs.Checks.{Check, check, first_failing, is_pointer, day_checks, distance_of, is_empty, first_bad}
use Rattle.card_model.proofs.Numbers.{number_two, number_four}
use Rattle.card_days.proofs.Lists.{some_appended}
use Rattle.card_model.proofs.Lists.{record_length, records_length, previous_of, previous_last, records-append, total-append, far_last, len_least}
use Rattle.card_model.proofs.Circle.{turned_front, turned_twice, string_length, circle_length}
use Rattle.card_model.proofs.Walking.{walked}
use Rattle.card_model.proofs.Judging.{passes_one, day_bad, day_past, day_next, checks_unless}
use Rattle.card_days.specs.declared.head.RecordHead.{RecordHead}
use Rattle.card_days.specs.Loading.{IsRecord, FailsAt}
use Rattle.card_days.proofs.Rounds.{spot_is}

-- the date of the last day, or else this one
abbrev pub last_date : ℕ → List Day → ℕ
last_date date [] = date
last_date date (d ∷ ds) = last_date d.date ds

pub days_more : (date : ℕ) (ds : List Day) (d : Day) → AreDays date ds → last_date date ds < d.date → IsDay d → AreDays date (ds ++ d ∷ [])
days_more date [] d are later is = (later, is, tt)
days_more date (e ∷ ds) d are later is = (are.0, are.1, days_more e.date ds d are.2 later is)

last_date_last : (date : ℕ) (ds : List Day) (d : Day) → last_date date (ds ++ d ∷ []) ≡ d.date
last_date_last date [] d = refl
last_date_last date (e ∷ ds) d = last_date_last e.date ds d

cons_none : (e : Day) (es : List Day) → e ∷ es ≡ [] → ⊥
cons_none e es none = cc

-- what was read: days whose records begin the circle, and what is left of the checks
pub record IsWalked (r : StringShape) (x : List ℕ) (reach so_far before date : ℕ) : Type 0 where
  pub done : List Day
  pub first : ℕ
  pub rest : List ℕ
  pub most : ℕ
  pub spelled : circle_of r x ≡ records first done ++ rest
  pub sum : so_far ≡ total done
  pub ordered : AreDays 0 done
  pub follows : (done ≡ []) ⊎ (previous_of first done ≡ before)
  pub date_is : last_date 0 done ≡ date
  pub enough : r.size ≤ so_far + 14 * most
  pub checks : first_failing (day_checks 984 r.size (oldest_pointer r x) reach 0 0 0 (circle_of r x)) ≡ first_failing (day_checks most r.size (oldest_pointer r x) reach so_far before date (turned so_far (circle_of r x)))

-- before the first
pub walked_none : (r : StringShape) (shape : IsStringShape r) (x : List ℕ) (reach : ℕ) → IsWalked r x reach 0 0 0
walked_none r shape x reach = record {
  done = [];
  first = 0;
  rest = circle_of r x;
  most = 984;
  spelled = refl;
  sum = refl;
  ordered = tt;
  follows = inl refl;
  date_is = refl;
  enough = omega (arith, shape.high);
  checks = ap (λ (l : List ℕ). first_failing (day_checks 984 r.size (oldest_pointer r x) reach 0 0 0 l)) (sym (append-nil (circle_of r x)));
}

-- the circle from a place on, and from a distance on
pub from_place : (r : StringShape) (shape : IsStringShape r) (x : List ℕ) → r.base + (4 + r.size) ≤ length x → (o so_far : ℕ) → o ≡ oldest_pointer r x → IsPointer r.size o → so_far < r.size → so_far % 2 ≡ 0 → turned (spot r.size o so_far) (string_of r x) ≡ turned so_far (circle_of r x)
from_place r shape x inside o so_far o_is pointer below even =
    let s = string_of r x in
    let s_length : length s ≡ r.size = string_length r x inside in
    let p = spot_is r.size o so_far shape.even pointer even (omega (arith, below)) in
    turned_twice s o so_far (spot r.size o so_far) (omega (arith, pointer.below, s_length)) (omega (arith, p.1.below, s_length)) (omega (arith, below, s_length)) (subst (λ (m : ℕ). IsPlace m o so_far (spot r.size o so_far)) (sym s_length) p.0)
    ∙ ap (λ (k : ℕ). turned so_far (turned k s)) o_is

turned_more : (l : List ℕ) (j k : ℕ) → j + k < length l → turned k (turned j l) ≡ turned (j + k) l
turned_more l j k fits = sym (turned_twice l j k (j + k) (omega (arith, fits)) fits (omega (arith, fits)) (inl refl))

module _ (r : StringShape) (shape : IsStringShape r) (x : List ℕ) (inside : r.base + (4 + r.size) ≤ length x) (reach so_far before date : ℕ) (below : so_far < r.size) (w : IsWalked r x reach so_far before date) where
  abbrev bytes : List ℕ
  bytes = turned so_far (circle_of r x)

  -- a day more may come
  more : (m : ℕ) × (w.most ≡ suc m)
  more = by w.most refl
    where
      by : (n : ℕ) → w.most ≡ n → (m : ℕ) × (w.most ≡ suc m)
      by zero is = absurd (omega (arith, w.enough, is, below))
      by (suc m) is = (m, is)

  left : first_failing (day_checks 984 r.size (oldest_pointer r x) reach 0 0 0 (circle_of r x)) ≡ first_failing (day_checks (suc more.0) r.size (oldest_pointer r x) reach so_far before date bytes)
  left = w.checks ∙ ap (λ (n : ℕ). first_failing (day_checks n r.size (oldest_pointer r x) reach so_far before date bytes)) more.1

  pub walked_bad : (p : ℕ) → FailsAt r.size (oldest_pointer r x) so_far before date bytes p → first_failing (day_checks 984 r.size (oldest_pointer r x) reach 0 0 0 (circle_of r x)) ≡ Some p
  walked_bad p bad = left ∙ day_bad more.0 r.size (oldest_pointer r x) reach so_far before date bytes bad.offset bad.fails ∙ ap Some (sym bad.is)

  module _ (h : RecordHead) (one : IsRecord r.size so_far before date bytes h) where
    len_same : number (bytes_at bytes 2 2) ≡ h.len
    len_same = ap (λ (l : List ℕ). number (bytes_at l 2 2)) one.spelled ∙ number_two (len_of one.day) ∙ sym one.len

    date_same : number (bytes_at bytes 4 4) ≡ h.date
    date_same = ap (λ (l : List ℕ). number (bytes_at l 4 4)) one.spelled ∙ number_four one.day.date ∙ sym one.date_is

    pub walked_past : so_far ≢ reach → reach < so_far + h.len → first_failing (day_checks 984 r.size (oldest_pointer r x) reach 0 0 0 (circle_of r x)) ≡ Some 2
    walked_past other past = left ∙ day_past more.0 r.size (oldest_pointer r x) reach so_far before date bytes one.passes other (omega (arith, past, len_same))

    -- the records with one more
    abbrev Longer : Type 0
    Longer = (q : ℕ) × (l : List ℕ) × (circle_of r x ≡ records q (w.done ++ one.day ∷ []) ++ l)

    longer : Longer
    longer = by w.done refl
      where
        by : (done : List Day) → w.done ≡ done → Longer
        by [] is =
            let start : so_far ≡ 0 = w.sum ∙ ap total is in
            let whole : turned so_far (circle_of r x) ≡ circle_of r x = ap (λ (k : ℕ). turned k (circle_of r x)) start ∙ append-nil (circle_of r x) in
            (one.previous, one.rest, sym whole ∙ one.spelled ∙ sym (append_assoc (record_of one.previous one.day) [] one.rest) ∙ ap (λ (l : List Day). records one.previous (l ++ one.day ∷ []) ++ one.rest) (sym is))
        by (e ∷ es) is =
            let q = previous_of w.first w.done in
            let n = len_of one.day in
            let front = records w.first w.done in
            let some : 0 < so_far = omega (arith, w.sum, ap total is) in
            let previous : one.previous ≡ previous_of w.first w.done = ⊎_elim (λ none. absurd (omega (arith, none, some))) (λ same. same ∙ ⊎_elim (λ none. absurd (cons_none e es (sym is ∙ none))) (λ before_is. sym before_is) w.follows) one.follows in
            let split : turned so_far (circle_of r x) ≡ w.rest ++ front = ap (λ (l : List ℕ). turned so_far l) w.spelled ∙ turned_front front w.rest so_far (records_length w.first w.done ∙ sym w.sum) in
            let long : n ≤ length w.rest = omega (arith, ap length w.spelled, length-append front w.rest, records_length w.first w.done, w.sum, circle_length r x inside, one.fits) in
            let taken : take n w.rest ≡ record_of one.previous one.day = sym (take-append-le n w.rest front long) ∙ ap (λ (l : List ℕ). take n l) (sym split ∙ one.spelled) ∙ take_at (record_of one.previous one.day) one.rest n (record_length one.previous one.day) in (
              w.first,
              drop n w.rest,
              w.spelled ∙ ap (λ (l : List ℕ). front ++ l) (sym (take-append-drop n w.rest) ∙ ap (λ (l : List ℕ). l ++ drop n w.rest) (taken ∙ ap (λ (k : ℕ). record_of k one.day) previous))
                  ∙ sym (append_assoc front (record_of q one.day) (drop n w.rest))
                  ∙ ap (λ (l : List ℕ). (front ++ l) ++ drop n w.rest) (sym (append-nil (record_of q one.day)))
                  ∙ ap (λ (l : List ℕ). l ++ drop n w.rest) (sym (records-append w.first w.done (one.day ∷ []))),
            )

    days_too : AreDays 0 (w.done ++ one.day ∷ [])
    days_too = days_more 0 w.done one.day w.ordered (omega (arith, w.date_is, one.later)) one.is

    pub walked_next : so_far ≢ reach → so_far + h.len ≤ reach → reach < r.size → IsWalked r x reach (so_far + h.len) h.len h.date
    walked_next other within reach_below =
        let bytes_too : turned (number (bytes_at bytes 2 2)) bytes ≡ turned (so_far + h.len) (circle_of r x) = ap (λ (k : ℕ). turned k bytes) len_same ∙ turned_more (circle_of r x) so_far h.len (omega (arith, circle_length r x inside, within, reach_below)) in
        record {
          done = w.done ++ one.day ∷ [];
          first = longer.0;
          rest = longer.1;
          most = more.0;
          spelled = longer.2;
          sum = omega (arith, w.sum, total-append w.done (one.day ∷ []), one.len);
          ordered = days_too;
          follows = inr (previous_last longer.0 w.done one.day ∙ sym one.len);
          date_is = last_date_last 0 w.done one.day ∙ sym one.date_is;
          enough = omega (arith, w.enough, more.1, one.len, len_least one.day one.is);
          checks = left ∙ day_next more.0 r.size (oldest_pointer r x) reach so_far before date bytes one.passes other (omega (arith, within, len_same))
              ∙ ap (λ (k : ℕ). first_failing (day_checks more.0 r.size (oldest_pointer r x) reach (so_far + k) k (number (bytes_at bytes 4 4)) (turned (number (bytes_at bytes 2 2)) bytes))) len_same
              ∙ ap (λ (k : ℕ). first_failing (day_checks more.0 r.size (oldest_pointer r x) reach (so_far + h.len) h.len k (turned (number (bytes_at bytes 2 2)) bytes))) date_same
              ∙ ap (λ (l : List ℕ). first_failing (day_checks more.0 r.size (oldest_pointer r x) reach (so_far + h.len) h.len h.date l)) bytes_too;
        }

    pub walked_last : so_far ≡ reach → IsPointer r.size (oldest_pointer r x) → IsPointer r.size (newest_pointer r x) → IsPlace r.size (oldest_pointer r x) reach (newest_pointer r x) → HoldsDays r x (w.done ++ one.day ∷ [])
    walked_last last oldest newest place = record {
      oldest = oldest;
      newest = newest;
      distance = subst (λ (k : ℕ). IsPlace r.size (oldest_pointer r x) k (newest_pointer r x)) (sym last ∙ w.sum ∙ sym (far_last w.done one.day)) place;
      previous = longer.0;
      rest = longer.1;
      spelled = longer.2;
      empty = λ none. absurd (some_appended w.done one.day none);
      ordered = days_too;
    }

    -- and so those that the walk of the definition finds
    pub walked_holds : so_far ≡ reach → IsPointer r.size (oldest_pointer r x) → IsPointer r.size (newest_pointer r x) → IsPlace r.size (oldest_pointer r x) reach (newest_pointer r x) → HoldsDays r x (days_of r x)
    walked_holds last oldest newest place =
        let h = walked_last last oldest newest place in
        subst (λ (l : List Day). HoldsDays r x l) (sym (walked r shape x inside (w.done ++ one.day ∷ []) h)) h

-- the first checks of a string
false_first : (t : Bool) (p : ℕ) (cs : List Check) → t ≡ false → first_failing (check t p ∷ cs) ≡ Some p
false_first t p cs is = ap (λ (b : Bool). cond b (first_failing cs) (Some p)) is

pub pointer_is : (size p : ℕ) → is_pointer size p ≡ true → IsPointer size p
pointer_is size p test =
    let two = and_parts (nat_lt p size) (nat_eq (p % 2) 0) test in
    record { below = ltb-true p size two.0; even = eqb-true (p % 2) 0 two.1 }

module _ (r : StringShape) (x : List ℕ) where
  pub bad_oldest : is_pointer r.size (oldest_pointer r x) ≡ false → first_bad r x ≡ Some 0
  unfolding first_bad
  bad_oldest is = false_first (is_pointer r.size (oldest_pointer r x)) 0 (check (is_pointer r.size (newest_pointer r x)) 2 ∷ checks_unless r x (is_empty r x)) is

  module _ (oldest : is_pointer r.size (oldest_pointer r x) ≡ true) where
    pub bad_newest : is_pointer r.size (newest_pointer r x) ≡ false → first_bad r x ≡ Some 2
    unfolding first_bad
    bad_newest is = passes_one (is_pointer r.size (oldest_pointer r x)) 0 (check (is_pointer r.size (newest_pointer r x)) 2 ∷ checks_unless r x (is_empty r x)) oldest
        ∙ false_first (is_pointer r.size (newest_pointer r x)) 2 (checks_unless r x (is_empty r x)) is

    module _ (newest : is_pointer r.size (newest_pointer r x) ≡ true) where
      -- the days' checks, where the string is not empty
      pub bad_days : is_empty r x ≡ false → first_bad r x ≡ first_failing (day_checks 984 r.size (oldest_pointer r x) (distance_of r.size (oldest_pointer r x) (newest_pointer r x)) 0 0 0 (circle_of r x))
      unfolding first_bad
      bad_days some = passes_one (is_pointer r.size (oldest_pointer r x)) 0 (check (is_pointer r.size (newest_pointer r x)) 2 ∷ checks_unless r x (is_empty r x)) oldest
          ∙ passes_one (is_pointer r.size (newest_pointer r x)) 2 (checks_unless r x (is_empty r x)) newest
          ∙ ap (λ (b : Bool). first_failing (checks_unless r x b)) some

      pub empty_holds : IsStringShape r → r.base + (4 + r.size) ≤ length x → is_empty r x ≡ true → HoldsDays r x (days_of r x)
      empty_holds shape inside none =
          let two = and_parts (nat_eq (oldest_pointer r x) (newest_pointer r x)) (nat_eq (number (bytes_at (circle_of r x) 2 2)) 0) none in
          let same : oldest_pointer r x ≡ newest_pointer r x = eqb-true (oldest_pointer r x) (newest_pointer r x) two.0 in
          let h : HoldsDays r x [] = record {
            oldest = pointer_is r.size (oldest_pointer r x) oldest;
            newest = pointer_is r.size (newest_pointer r x) newest;
            distance = inl (omega (arith, same));
            previous = 0;
            rest = circle_of r x;
            spelled = refl;
            empty = λ is. eqb-true (number (bytes_at (circle_of r x) 2 2)) 0 two.1;
            ordered = tt;
          } in
          subst (λ (l : List Day). HoldsDays r x l) (sym (walked r shape x inside [] h)) h
