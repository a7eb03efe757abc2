-- What the writes of a `keep` leave, on the day of the last-kept minute or on a further one.
use Rattle.std.proofs.Common.{◌≡◌, ◌≢◌, ℕ, ◌+◌, ◌/◌, ◌%◌, ◌<◌, ◌≤◌, Bool, true, false, cond, List, ◌++◌, length, length-append, refl, sym, ap, subst, arith, lit≤, Some, IfSome}
use Rattle.std.specs.Prelude.{◌==◌, min}
use Rattle.std.proofs.lemmas.Bool.Decides.{nat_tests}
use Rattle.tach_media.specs.Medium.{State, LeavesOnly}
use Rattle.tach_media.proofs.Runs.{weaken, at_image, where_told, turned_into, writes_as}
use Rattle.tach_media.specs.Plan.{put_all, IsPartway, PutsAll, PutsBy}
use Rattle.gated_ring.specs.Ring.{taken}
use Rattle.unit_model.specs.declared.layout.TheConstants.{DAY_SLOTS, IMAGE_SIZE}
use Rattle.unit_model.specs.Days.{bare, UnitMinute, minute_by}
use Rattle.unit_model.specs.Image.{day_ring}
use Rattle.unit_model.specs.Changes.{changes, new_words}
use Rattle.unit_minutes.specs.Coming.{Coming, IsComing}
use Rattle.unit_minutes.specs.Image.{Notes, IsNotes, Agrees}
use Rattle.unit_minutes.specs.Keeping.{IsKept, IsKeeping}
use Rattle.unit_minutes.specs.Minute.{words_on, notes_on, notes_begun, notes_after}
use Rattle.unit_minutes.specs.DaysWith.{HasDays, AreBetween}
use Rattle.unit_minutes.specs.Plans.{counted, mark, going, renewing, keeping, most_kept}
use Rattle.unit_minutes.specs.declared.kept.KeptMinute.{KeptMinute}
use Rattle.unit_minutes.specs.Kept.{is_crew, kept_minute, coming_of, HasDaysWith, HasDaysBetween, keeping_of}
use Rattle.unit_minutes.proofs.KeptBits.{kept_by}
use Rattle.unit_minutes.proofs.Told.{told_back}
use Rattle.unit_minutes.proofs.Premises.{IsNoted}
use Rattle.unit_minutes.proofs.Keeping.{changes_few, moments, kept_last, kept_days, kept_minutes, kept_decodes, besides_y, new_agrees, gone_is}
use Rattle.unit_minutes.proofs.Renewing.{counted_length, renewing_moment, renewed, renewed_kept, renewed_days, renewed_agrees}

-- a minute brings four words at most
words_few : (next t d c d' c' : ℕ) → length (new_words next t d c d' c') ≤ 4
words_few next t d c d' c' = by (next == t)
  where
    by : (b : Bool) → length (cond b (changes t d c d' c') (changes next d c bare bare ++ changes t bare bare d' c')) ≤ 4
    by true = omega (arith, changes_few t d c d' c')
    by false = omega (arith, length-append (changes next d c bare bare) (changes t bare bare d' c'), changes_few next d c bare bare, changes_few t bare bare d' c')

module _ (j : Notes) (coming : Coming) where
  going_few : (3 ≤ length (going j coming)) × (length (going j coming) ≤ 7)
  going_few =
      let ws = words_on j coming in
      let sum : length (going j coming) ≡ length ws + 3 = omega (arith, length-append (counted j.index j.count ws) (mark coming.minute), counted_length j.index j.count ws) in
      (omega (arith, sum), omega (arith, sum, words_few (j.kept % 1440 + 1) (coming.minute % 1440) j.bits.driver j.bits.codriver coming.bits.driver coming.bits.codriver))

  -- which writes they are
  pub going_puts : {old new : State} {failed : Bool} → coming.minute / 1440 ≡ j.kept / 1440 → PutsAll old new failed (going j coming) → PutsBy old new failed 3 (most_kept j.kept coming.minute) (keeping j coming)
  going_puts {old} {new} {failed} same puts =
      let test : (coming.minute / 1440 == j.kept / 1440) ≡ true = grind (arith, nat_tests, same) in
      subst (λ (b : Bool). PutsBy old new failed 3 (cond b 7 12) (λ x. cond b (going j coming) (renewing j coming x))) (sym test)
      (writes_as puts going_few.0 going_few.1 (λ x. refl) (λ x c was here. here))

  pub renewing_puts : {old new : State} {failed : Bool} → coming.minute / 1440 ≢ j.kept / 1440 → PutsBy old new failed 5 12 (renewing j coming) → PutsBy old new failed 3 (most_kept j.kept coming.minute) (keeping j coming)
  renewing_puts {old} {new} {failed} other puts =
      let test : (coming.minute / 1440 == j.kept / 1440) ≡ false = grind (arith, nat_tests, other) in
      subst (λ (b : Bool). PutsBy old new failed 3 (cond b 7 12) (λ x. cond b (going j coming) (renewing j coming x))) (sym test)
      (writes_as puts (lit≤ tt) (lit≤ tt) (λ x. refl) (λ x c was here. here))

  pub notes_same : (x : List ℕ) → coming.minute / 1440 ≡ j.kept / 1440 → notes_on j coming ≡ notes_after j coming x
  notes_same x same =
      let test : (coming.minute / 1440 == j.kept / 1440) ≡ true = grind (arith, nat_tests, same) in
      sym (ap (λ (b : Bool). cond b (notes_on j coming) (notes_begun (taken day_ring x) (min (j.day_count + 1) DAY_SLOTS) coming)) test)

  pub notes_other : (x : List ℕ) → coming.minute / 1440 ≢ j.kept / 1440 → notes_begun (taken day_ring x) (min (j.day_count + 1) DAY_SLOTS) coming ≡ notes_after j coming x
  notes_other x other =
      let test : (coming.minute / 1440 == j.kept / 1440) ≡ false = grind (arith, nat_tests, other) in
      sym (ap (λ (b : Bool). cond b (notes_on j coming) (notes_begun (taken day_ring x) (min (j.day_count + 1) DAY_SLOTS) coming)) test)

-- the minute that is kept
abbrev minute_of : Coming → UnitMinute
minute_of coming = minute_by coming.minute coming.bits.driver coming.bits.codriver

-- after a `keep`, with these notes
pub record IsEnd (next : Notes) (coming : Coming) (x y : List ℕ) : Type 0 where
  pub kept : IsKept (minute_of coming) x y
  pub days : HasDays coming x y
  pub agrees : Agrees next y

module _ (j : Notes) (x : List ℕ) (noted : IsNoted j x) (coming : Coming) (fits : IsComing coming) (later : j.kept < coming.minute) where
  abbrev Moment : List ℕ → Type 0
  Moment c = IsKeeping (minute_of coming) coming.odometer x c × AreBetween coming x c

  abbrev End : Notes → List ℕ → Type 0
  End next y = IsEnd next coming x y

  pub keeping_moment : (c : List ℕ) → IsPartway (keeping j coming x) x c → Moment c
  keeping_moment c = by (coming.minute / 1440 == j.kept / 1440) refl
    where
      by : (b : Bool) → (coming.minute / 1440 == j.kept / 1440) ≡ b → IsPartway (cond b (going j coming) (renewing j coming x)) x c → Moment c
      by true is here = let same : coming.minute / 1440 ≡ j.kept / 1440 = grind (arith, nat_tests, is) in moments j x noted coming fits same later c here
      by false is here =
          let other : coming.minute / 1440 ≢ j.kept / 1440 = grind (arith, nat_tests, is) in
          renewing_moment j x noted coming fits (omega (arith, later, other)) c here

  pub keeping_end : End (notes_after j coming x) (put_all (keeping j coming x) x)
  keeping_end = by (coming.minute / 1440 == j.kept / 1440) refl
    where
      by : (b : Bool) → (coming.minute / 1440 == j.kept / 1440) ≡ b → End (notes_after j coming x) (put_all (cond b (going j coming) (renewing j coming x)) x)
      by true is =
          let same : coming.minute / 1440 ≡ j.kept / 1440 = grind (arith, nat_tests, is) in
          subst (λ (n : Notes). End n (put_all (going j coming) x)) (notes_same j coming x same)
          (subst (End (notes_on j coming)) (sym (gone_is j x noted coming fits same later)) (record {
            kept = record {
              last = kept_last j x noted coming fits same later;
              outside = besides_y j x noted coming fits same later;
              minutes = kept_minutes j x noted coming fits same later;
              decodes = kept_decodes j x noted coming fits same later;
            };
            days = kept_days j x noted coming fits same later;
            agrees = new_agrees j x noted coming fits same later;
          }))
      by false is =
          let other : coming.minute / 1440 ≢ j.kept / 1440 = grind (arith, nat_tests, is) in
          let next : j.kept / 1440 < coming.minute / 1440 = omega (arith, later, other) in
          subst (λ (n : Notes). End n (put_all (renewing j coming x) x)) (notes_other j coming x other)
          (subst (End (notes_begun (taken day_ring x) (min (j.day_count + 1) DAY_SLOTS) coming)) (sym (renewed j x noted coming fits next)) (record {
            kept = renewed_kept j x noted coming fits next;
            days = renewed_days j x noted coming fits next;
            agrees = renewed_agrees j x noted coming fits next;
          }))

-- of a minute as it is handed in
module _ (j : Notes) (ok : IsNotes j) (k : KeptMinute) (fits : IsComing (coming_of k)) (later : j.kept < k.minute)
    (old new : State) (failed : Bool) (sized : (x : List ℕ) → old.image ≡ Some x → length x ≡ IMAGE_SIZE) (agrees : IfSome old.image (Agrees j))
    (puts : PutsBy old new failed 3 (most_kept j.kept k.minute) (keeping_of j k)) where
  abbrev coming : Coming
  coming = coming_of k

  it : minute_of coming ≡ kept_minute k
  it = kept_by k.minute k.driver k.codriver (is_crew k)

  noted : (x : List ℕ) → old.image ≡ Some x → IsNoted j x
  noted x was = record { ok = ok; sized = sized x was; agrees = at_image (Agrees j) was agrees }

  moment : (x c : List ℕ) → old.image ≡ Some x → IsPartway (keeping_of j k x) x c → IsKeeping (minute_of coming) k.odometer.0 x c × AreBetween coming x c
  moment x c was = keeping_moment j x (noted x was) coming fits later c

  pub keep_moments : LeavesOnly old new (IsKeeping (kept_minute k) k.odometer.0)
  keep_moments = weaken puts.leaves (λ x c was part. subst (λ (m : UnitMinute). IsKeeping m k.odometer.0 x c) it (moment x c was part).0)

  pub keep_words : LeavesOnly old new (HasDaysBetween k)
  keep_words = weaken puts.leaves (λ x c was part. (moment x c was part).1)

  ended : failed ≡ false → (x y : List ℕ) → old.image ≡ Some x → new.image ≡ Some y → IsEnd (notes_after j coming x) coming x y
  ended fine x y was is =
      let same : y ≡ put_all (keeping_of j k x) x = turned_into (λ x. put_all (keeping_of j k x) x) (puts.written fine) was is in
      subst (IsEnd (notes_after j coming x) coming x) (sym same) (keeping_end j x (noted x was) coming fits later)

  pub keep_kept : failed ≡ false → IfSome old.image (λ x. IfSome new.image (IsKept (kept_minute k) x))
  keep_kept fine = where_told old.image new.image (IsKept (kept_minute k)) (λ x y was is. subst (λ (m : UnitMinute). IsKept m x y) it (ended fine x y was is).kept)

  pub keep_days : failed ≡ false → IfSome old.image (λ x. IfSome new.image (HasDaysWith k x))
  keep_days fine = where_told old.image new.image (HasDaysWith k) (λ x y was is. (ended fine x y was is).days)

  pub keep_agrees : failed ≡ false → (next : Notes) → IfSome old.image (λ x. next ≡ notes_after j coming x) → IfSome new.image (Agrees next)
  keep_agrees fine next notes = told_back old.image new.image (Agrees next) puts.leaves.tells (λ x y was is.
      subst (λ (n : Notes). Agrees n y) (sym (at_image (λ x. next ≡ notes_after j coming x) was notes)) (ended fine x y was is).agrees)
