-- A word at a minute behind all words of a card: what it asks of the days, what it makes of them, and what a session knows then.
use Rattle.std.proofs.Common.{◌≡◌, ◌≢◌, inl, inr, ⊎_elim, ℕ, ◌+◌, ◌-◌, ◌*◌, ◌/◌, ◌%◌, ◌<◌, ◌≤◌, Bool, true, false, cond, List, [], ◌∷◌, ◌++◌, length, Option, Some, IfSome, refl, sym, ◌∙◌, ap, subst, arith}
use Rattle.std.specs.Prelude.{◌⊎◌, nat_eq, nat_le}
use Rattle.std.proofs.lemmas.Bool.{eqb-true, eqb-false}
use Rattle.activity_codec.specs.Words.{word_minute, word_absent}
use Rattle.tach_media.specs.Medium.{State, IsCoherent, LeavesOnly, HasCause}
use Rattle.tach_media.proofs.Runs.{weaken, where_told, at_image}
use Rattle.card_layout.specs.declared.files.Application.{Application}
use Rattle.card_days.specs.card_model.Days.{Day, AreDays, last_word, total}
use Rattle.card_days.specs.card_model.Changes.{Remain, OnNewest, TakesWord, AreStrict, IsLater, IsNext, fitting, with_newest, with_word, new_day, date_of}
use Rattle.card_days.specs.card_model.Image.{StringShape, HoldsDays, newest_pointer}
use Rattle.card_days.proofs.card_model.Retention.{remain_some, remain_fitting}
use Rattle.gated_ring.specs.Ring.{PointsInside, IsNewest}
use Rattle.card_days.specs.declared.head.Tail.{Tail}
use Rattle.card_days.specs.Held.{Held, Knows, tail_in}
use Rattle.card_days.specs.Moments.{IfKnown, IsDayBeginning, IsDayBegun, KnowsBegun}
use Rattle.card_days.specs.Plans.{most_drops}
use Rattle.card_validity.specs.card_retention.Expected.{is_newest}
use Rattle.card_validity.specs.card_retention.Shown.{sizes, EndsAbsent}
use Rattle.card_validity.specs.card_retention.Entries.{EndsBy, newest_word}
use Rattle.card_validity.proofs.card_retention.Entering.{date_newest, last_append, on_append}
use Rattle.card_validity.specs.card_image.Fields.{day_string, vehicle_ring}
use Rattle.activity_codec.specs.declared.entries.Manual.{Manual}
use Rattle.hand_model.specs.Manual.{manual_word}
use Rattle.hand_model.proofs.Words.{minute_is, absent_is}
use Rattle.card_session.specs.Vehicles.{Vehicles}
use Rattle.card_session.specs.Books.{Book, mark_of, bare_word, with_change}
use Rattle.card_session.specs.Telling.{is_newest_day}
use Rattle.card_session.specs.Sessions.{Session, IsValue, IsSession, IsOpenBook, KnowsCard, EndsStrictly, MayKeep, newest_in, book_of}
use Rattle.card_session.specs.Moments.{IsBook}
use Rattle.card_session.specs.Parts.{DoesPart, IsPartDone, IsPartMoment, HasSame, TakesSome, with_some, IsAdding}
use Rattle.card_session.specs.ByHand.{words_from, with_day_from, with_word_at, word_len, by_hand, IsByHandMoment, IsCardByHand, IsCardEntering, IsBeforeWordAt, BeginsFrom, with_day_in, IsBeforeDayFrom}
use Rattle.card_session.proofs.Composing.{part_of, told_book}
use Rattle.card_session.proofs.Following.{strict_more, day_told}
use Rattle.card_session.proofs.OnDays.{written, known}
use Rattle.card_session.proofs.Preparing.{strict_with, newest_with, on_as}

-- ---- no more than two days go for a word or a day

pub few_drops : (size used new : ℕ) → most_drops size used new ≤ 2
few_drops size used new = by (nat_le (used + new) size) (nat_le (used + new) (size + 14))
  where
    by : (a b : Bool) → cond a 0 (cond b 1 2) ≤ 2
    by true b = omega arith
    by false true = omega arith
    by false false = omega arith

module _ (minute w : ℕ) (at : word_minute w ≡ minute % 1440) where
  -- ---- the word goes on with the newest day, or begins one

  takes_at : (date : ℕ) (days : List Day) → AreDays date days → EndsStrictly days → is_newest (minute / 1440) (sizes days) ≡ true → newest_word days < minute → OnNewest (TakesWord w) days
  takes_at date [] are strict is late = absurd (cc)
  takes_at date (d ∷ []) are strict is late =
      let day : d.date / 86400 ≡ minute / 1440 = eqb-true _ _ is in
      strict_more d.words w strict (omega (arith, day, late, at, are.1.midnight)) (omega (arith, at))
  takes_at date (d ∷ f ∷ ds) are strict is late = takes_at d.date (f ∷ ds) are.2 strict is late

  later_at : (date : ℕ) (d : Day) (ds : List Day) → AreDays date (d ∷ ds) → is_newest (minute / 1440) (sizes (d ∷ ds)) ≡ false → newest_word (d ∷ ds) < minute → IsLater (date_of minute) (d ∷ ds)
  later_at date d [] are is late =
      let day : d.date / 86400 ≢ minute / 1440 = eqb-false _ _ is in
      omega (arith, day, late, are.1.midnight)
  later_at date d (f ∷ ds) are is late = later_at d.date f ds are.2 is late

  from_strict : AreStrict (words_from minute w)
  from_strict = by (nat_eq (minute % 1440) 0) refl
    where
      by : (b : Bool) → nat_eq (minute % 1440) 0 ≡ b → AreStrict (cond b (w ∷ []) (bare_word ∷ w ∷ []))
      by true is = (at ∙ eqb-true (minute % 1440) 0 is, tt)
      by false is =
          let some : minute % 1440 ≢ 0 = eqb-false (minute % 1440) 0 is in
          (refl, (omega (arith, at, some), omega (arith, at), tt))

  begins_at : (days : List Day) → 1440 ≤ minute → AreDays 0 days → is_newest (minute / 1440) (sizes days) ≡ false → newest_word days < minute → IsNext days (date_of minute) (words_from minute w)
  begins_at [] some are is late = record { later = omega (arith, some); midnight = omega arith; ordered = from_strict }
  begins_at (d ∷ ds) some are is late = record { later = later_at 0 d ds are is late; midnight = omega arith; ordered = from_strict }

  -- the words that begin its day, by whether it stands at midnight
  pub from_alone : (v : ℕ) → v ≡ w → minute % 1440 ≡ 0 → v ∷ [] ≡ words_from minute w
  from_alone v is zero = ap (λ (n : ℕ). n ∷ []) is ∙ by (nat_eq (minute % 1440) 0) refl
    where
      by : (b : Bool) → nat_eq (minute % 1440) 0 ≡ b → w ∷ [] ≡ cond b (w ∷ []) (bare_word ∷ w ∷ [])
      by true here = refl
      by false here = absurd (eqb-false (minute % 1440) 0 here zero)

  pub from_behind : (u v : ℕ) → u ≡ bare_word → v ≡ w → minute % 1440 ≢ 0 → u ∷ v ∷ [] ≡ words_from minute w
  from_behind u v first is some = ap (λ (n : ℕ). n ∷ v ∷ []) first ∙ ap (λ (n : ℕ). bare_word ∷ n ∷ []) is ∙ by (nat_eq (minute % 1440) 0) refl
    where
      by : (b : Bool) → nat_eq (minute % 1440) 0 ≡ b → bare_word ∷ w ∷ [] ≡ cond b (w ∷ []) (bare_word ∷ w ∷ [])
      by true here = absurd (some (eqb-true (minute % 1440) 0 here))
      by false here = refl

  last_from : last_word (words_from minute w) ≡ w
  last_from = by (nat_eq (minute % 1440) 0)
    where
      by : (b : Bool) → last_word (cond b (w ∷ []) (bare_word ∷ w ∷ [])) ≡ w
      by true = refl
      by false = refl

  -- ---- of a book

  module _ (size : ℕ) (long : 5544 ≤ size) (b : Book) (are : AreDays 0 b.days) (before : IsBeforeWordAt minute b) where
    abbrev Made : List Day → Vehicles → Type 0
    Made ds v = (Remain (size - word_len minute w b.days) b.days ds ⊎ (ds ≡ with_word_at size minute w b.days)) × (v ≡ b.vehicles)

    abbrev after : Book
    after = record { days = with_word_at size minute w b.days; vehicles = b.vehicles }

    module _ (newest : is_newest (minute / 1440) (sizes b.days) ≡ true) where
      pub on_asks : TakesSome (Some w) b
      on_asks = takes_at 0 b.days are before.0 newest before.1

      on_is : with_word_at size minute w b.days ≡ with_change size w b.days
      on_is = ap (λ (n : Bool). cond n (with_change size w b.days) (with_day_from size minute w b.days)) newest

      pub on_makes : with_some size (Some w) b ≡ after
      on_makes = ap (λ (l : List Day). let c : Book = record { days = l; vehicles = b.vehicles } in c) (sym on_is)

      pub on_moments : (ds : List Day) (v : Vehicles) → IsAdding size (Some w) b ds v → Made ds v
      on_moments ds v adding = (⊎_elim (λ left. inl (subst (λ (n : ℕ). Remain (size - n) b.days ds) (sym two) left)) (λ done. inr (done ∙ sym on_is)) adding.0, adding.1)
        where
          two : word_len minute w b.days ≡ 2
          two = ap (λ (n : Bool). cond n 2 (12 + 2 * length (words_from minute w))) newest

    module _ (other : is_newest (minute / 1440) (sizes b.days) ≡ false) (some : 1440 ≤ minute) where
      pub from_asks : BeginsFrom minute w b
      from_asks = begins_at b.days some are other before.1

      from_is : with_word_at size minute w b.days ≡ with_day_from size minute w b.days
      from_is = ap (λ (n : Bool). cond n (with_change size w b.days) (with_day_from size minute w b.days)) other

      pub from_makes : with_day_in size minute w b ≡ after
      from_makes = ap (λ (l : List Day). let c : Book = record { days = l; vehicles = b.vehicles } in c) (sym from_is)

      pub from_moments : (ds : List Day) (v : Vehicles) → IsBeforeDayFrom size minute w b ds v → Made ds v
      from_moments ds v is = (⊎_elim (λ left. inl (subst (λ (n : ℕ). Remain (size - n) b.days ds) (sym len) left)) (λ done. inr (done ∙ sym from_is)) is.0, is.1)
        where
          len : word_len minute w b.days ≡ 12 + 2 * length (words_from minute w)
          len = ap (λ (n : Bool). cond n 2 (12 + 2 * length (words_from minute w))) other

    -- then its minute is that of the newest word, and a word may follow
    pub at_last : (newest_word (with_word_at size minute w b.days) ≡ minute) × EndsStrictly (with_word_at size minute w b.days)
    at_last = by (is_newest (minute / 1440) (sizes b.days)) refl
      where
        newest_append : (ds : List Day) (d : Day) → newest_word (ds ++ d ∷ []) ≡ d.date / 60 + word_minute (last_word d.words)
        newest_append [] d = refl
        newest_append (e ∷ []) d = refl
        newest_append (e ∷ f ∷ ds) d = newest_append (f ∷ ds) d

        strict_append : (ds : List Day) (d : Day) → AreStrict d.words → EndsStrictly (ds ++ d ∷ [])
        strict_append [] d strict = strict
        strict_append (e ∷ []) d strict = strict
        strict_append (e ∷ f ∷ ds) d strict = strict_append (f ∷ ds) d strict

        by : (n : Bool) → is_newest (minute / 1440) (sizes b.days) ≡ n
            → (newest_word (cond n (with_change size w b.days) (with_day_from size minute w b.days)) ≡ minute) × EndsStrictly (cond n (with_change size w b.days) (with_day_from size minute w b.days))
        by true is =
            let takes : OnNewest (TakesWord w) (fitting (size - 2) b.days) = remain_some (TakesWord w) (size - 2) 0 b.days (fitting (size - 2) b.days) (omega (arith, long)) are (remain_fitting (size - 2) b.days) (takes_at 0 b.days are before.0 is before.1) in
            let dated : OnNewest (λ d. d.date ≡ minute / 1440 * 86400) (fitting (size - 2) b.days) = remain_some (λ d. d.date ≡ minute / 1440 * 86400) (size - 2) 0 b.days (fitting (size - 2) b.days) (omega (arith, long)) are (remain_fitting (size - 2) b.days) (date_newest (minute / 1440) 0 b.days are is) in
            let word : newest_word (with_newest (with_word w) (fitting (size - 2) b.days)) ≡ minute = newest_with w minute (fitting (size - 2) b.days) (on_as (λ d. d.date ≡ minute / 1440 * 86400) (λ d. d.date / 60 + word_minute w ≡ minute) (fitting (size - 2) b.days) (λ d date. omega (arith, date, at)) dated) in
            (word, strict_with w (fitting (size - 2) b.days) takes)
        by false is =
            let day : Day = new_day b.days (date_of minute) (words_from minute w) in (
              newest_append (fitting (size - (12 + 2 * length (words_from minute w))) b.days) day ∙ ap (λ (v : ℕ). date_of minute / 60 + word_minute v) last_from ∙ omega (arith, at),
              strict_append (fitting (size - (12 + 2 * length (words_from minute w))) b.days) day from_strict,
            )

    -- it is of no entry where it tells no card
    pub at_absent : word_absent w ≡ true → EndsAbsent (with_word_at size minute w b.days)
    at_absent absent = by (is_newest (minute / 1440) (sizes b.days)) refl
      where
        on_with : (P : Day → Type 0) (ds : List Day) → OnNewest (TakesWord w) ds → ((d : Day) → P (with_word w d)) → OnNewest P (with_newest (with_word w) ds)
        on_with P [] takes is = absurd takes
        on_with P (d ∷ []) takes is = is d
        on_with P (d ∷ e ∷ []) takes is = is e
        on_with P (d ∷ e ∷ f ∷ ds) takes is = on_with P (e ∷ f ∷ ds) takes is

        by : (n : Bool) → is_newest (minute / 1440) (sizes b.days) ≡ n → EndsAbsent (cond n (with_change size w b.days) (with_day_from size minute w b.days))
        by true is =
            on_with (λ d. word_absent (last_word d.words) ≡ true) (fitting (size - 2) b.days) (remain_some (TakesWord w) (size - 2) 0 b.days (fitting (size - 2) b.days) (omega (arith, long)) are (remain_fitting (size - 2) b.days) (takes_at 0 b.days are before.0 is before.1))
            (λ d. ap word_absent (last_append d.words w) ∙ absent)
        by false is =
            on_append (λ d. word_absent (last_word d.words) ≡ true) (fitting (size - (12 + 2 * length (words_from minute w))) b.days) (new_day b.days (date_of minute) (words_from minute w)) (ap word_absent last_from ∙ absent)

-- no word of an entry is the latest where that tells no card
pub absent_ends : (m : ℕ) (ds : List Day) → EndsAbsent ds → EndsBy m ds
absent_ends m [] on = absurd on
absent_ends m (d ∷ []) on = λ present. absurd (differ (sym on ∙ present))
  where
    differ : true ≡ false → ⊥
    differ e = cc
absent_ends m (d ∷ e ∷ ds) on = absent_ends m (e ∷ ds) on

-- ---- a day is begun with a word at a minute, on a card that a session knows

abbrev Begins : StringShape → (date : ℕ) → (words : List ℕ) → List Day → List ℕ → Type 0
Begins r date words days c =
    ((kept : List Day) × Remain (r.size - (12 + 2 * length words)) days kept × HoldsDays r c kept)
    ⊎ HoldsDays r c (fitting (r.size - (12 + 2 * length words)) days ++ new_day days date words ∷ [])

module _ (s t : Session) (value : IsValue s) (same : HasSame s t) (old new : State) (failed : Bool) (card : MayKeep s.application old) (whole : IsCoherent old)
    (minute w : ℕ) (words : List ℕ) (are : words ≡ words_from minute w) where
  abbrev app : Application
  app = s.application

  abbrev size : ℕ
  size = s.application.activity

  begins : (x c : List ℕ) → IfKnown s.days (IsDayBeginning s.days.shape (date_of minute) words) x c → KnowsCard s x → BeginsFrom minute w (book_of app x) → Begins (day_string app) (date_of minute) (words_from minute w) (book_of app x).days c
  begins x c is knows next =
      subst (λ (ws : List ℕ). Begins (day_string app) (date_of minute) ws (book_of app x).days c) are
      (subst (λ (q : StringShape). Begins q (date_of minute) words (book_of app x).days c) value.days
      ((is.told (book_of app x).days knows.days).list (book_of app x).days knows.days.holds (subst (λ (ws : List ℕ). IsNext (book_of app x).days (date_of minute) ws) (sym are) next)))

  from_part : t.days.shape ≡ s.days.shape
      → (failed ≡ false → IfSome old.image (λ x. IfSome new.image (IfKnown s.days (IsDayBegun s.days.shape (date_of minute) words) x)))
      → (failed ≡ false → IfSome old.image (λ x. IfSome new.image (KnowsBegun s.days t.days (date_of minute) words x)))
      → LeavesOnly old new (IfKnown s.days (IsDayBeginning s.days.shape (date_of minute) words)) → HasCause old new failed
      → DoesPart old new failed (IsPartDone s t (BeginsFrom minute w) (with_day_in size minute w)) (IsPartMoment s (BeginsFrom minute w) (IsBeforeDayFrom size minute w))
  from_part shape begun knowing moments cause = record {
    done = λ fine. where_told old.image new.image _ (λ x y was is knows next.
        let one = at_image (λ y. IfKnown s.days (IsDayBegun s.days.shape (date_of minute) words) x y) is (at_image (λ x. IfSome new.image (IfKnown s.days (IsDayBegun s.days.shape (date_of minute) words) x)) was (begun fine)) in
        let two = at_image (λ y. KnowsBegun s.days t.days (date_of minute) words x y) is (at_image (λ x. IfSome new.image (KnowsBegun s.days t.days (date_of minute) words x)) was (knowing fine)) in
        let there : Knows t.days y (with_day_from size minute w (book_of app x).days) =
        subst (λ (ws : List ℕ). Knows t.days y (fitting (size - (12 + 2 * length ws)) (book_of app x).days ++ new_day (book_of app x).days (date_of minute) ws ∷ [])) are
        (subst (λ (q : StringShape). Knows t.days y (fitting (q.size - (12 + 2 * length words)) (book_of app x).days ++ new_day (book_of app x).days (date_of minute) words ∷ [])) value.days
        (two (book_of app x).days knows.days (subst (λ (ws : List ℕ). IsNext (book_of app x).days (date_of minute) ws) (sym are) next))) in
        let k = known s t value same old new failed card whole x y was knows one.outside (with_day_from size minute w (book_of app x).days) there shape in
        (written s t value same old new failed card whole (IsBook (with_day_in size minute w (book_of app x))) x y was knows one.outside (with_day_from size minute w (book_of app x).days) k.0 (refl, refl), k.1));
    leaves = weaken moments (λ x c was is knows next.
        ⊎_elim
        (λ left. written s t value same old new failed card whole (IsBeforeDayFrom size minute w (book_of app x)) x c was knows is.outside left.0 left.2 (inl left.1, refl))
        (λ done. written s t value same old new failed card whole (IsBeforeDayFrom size minute w (book_of app x)) x c was knows is.outside (with_day_from size minute w (book_of app x).days) done (inr refl, refl))
        (begins x c is knows next));
    cause = inl cause;
  }

  -- the same by a date that is the minute's
  pub from_with : (date : ℕ) → date ≡ date_of minute → t.days.shape ≡ s.days.shape
      → (failed ≡ false → IfSome old.image (λ x. IfSome new.image (IfKnown s.days (IsDayBegun s.days.shape date words) x)))
      → (failed ≡ false → IfSome old.image (λ x. IfSome new.image (KnowsBegun s.days t.days date words x)))
      → LeavesOnly old new (IfKnown s.days (IsDayBeginning s.days.shape date words)) → HasCause old new failed
      → DoesPart old new failed (IsPartDone s t (BeginsFrom minute w) (with_day_in size minute w)) (IsPartMoment s (BeginsFrom minute w) (IsBeforeDayFrom size minute w))
  from_with date is shape begun knowing moments cause =
      from_part shape (subst (λ (d : ℕ). failed ≡ false → IfSome old.image (λ x. IfSome new.image (IfKnown s.days (IsDayBegun s.days.shape d words) x))) is begun)
      (subst (λ (d : ℕ). failed ≡ false → IfSome old.image (λ x. IfSome new.image (KnowsBegun s.days t.days d words x))) is knowing)
      (subst (λ (d : ℕ). LeavesOnly old new (IfKnown s.days (IsDayBeginning s.days.shape d words))) is moments) cause

-- ---- an entry by hand, whole

module _ (s : Session) (value : IsValue s) (e : Manual) where
  abbrev w : ℕ
  w = manual_word e

  abbrev room : ℕ
  room = s.application.activity

  abbrev P : Book → Type 0
  P = IsBeforeWordAt e.minute

  abbrev Tells : Option Tail → Type 0
  Tells tail = (x : List ℕ) (days : List Day) → Knows s.days x days → tail ≡ tail_in s.days.shape x days

  newest_is : (tail : Option Tail) → Tells tail → (x : List ℕ) → KnowsCard s x → is_newest (e.minute / 1440) (sizes (book_of s.application x).days) ≡ is_newest_day e.minute tail
  newest_is tail told x knows =
      sym (ap (is_newest_day e.minute) (told x (book_of s.application x).days knows.days) ∙ day_told 0 e.minute (newest_pointer s.days.shape x) (total (book_of s.application x).days) (book_of s.application x).days knows.days.holds.ordered)

  pub on_part : {old new : State} {failed : Bool} (t : Session) (tail : Option Tail) → Tells tail → is_newest_day e.minute tail ≡ true
      → DoesPart old new failed (IsPartDone s t (TakesSome (Some w)) (with_some room (Some w))) (IsPartMoment s (TakesSome (Some w)) (IsAdding room (Some w)))
      → DoesPart old new failed (IsPartDone s t P (by_hand room e)) (IsPartMoment s P (IsByHandMoment room e))
  on_part t tail told in_day part =
      part_of s t (TakesSome (Some w)) P (with_some room (Some w)) (by_hand room e) (IsAdding room (Some w)) (IsByHandMoment room e) part
      (λ x knows before. on_asks e.minute w (minute_is e) room value.sizes.string_least (book_of s.application x) knows.days.holds.ordered before (newest_is tail told x knows ∙ in_day))
      (λ x knows before. on_makes e.minute w (minute_is e) room value.sizes.string_least (book_of s.application x) knows.days.holds.ordered before (newest_is tail told x knows ∙ in_day))
      (λ x knows before ds v adding. on_moments e.minute w (minute_is e) room value.sizes.string_least (book_of s.application x) knows.days.holds.ordered before (newest_is tail told x knows ∙ in_day) ds v adding)

  pub day_part : {old new : State} {failed : Bool} (t : Session) (tail : Option Tail) → Tells tail → is_newest_day e.minute tail ≡ false → 1440 ≤ e.minute
      → DoesPart old new failed (IsPartDone s t (BeginsFrom e.minute w) (with_day_in room e.minute w)) (IsPartMoment s (BeginsFrom e.minute w) (IsBeforeDayFrom room e.minute w))
      → DoesPart old new failed (IsPartDone s t P (by_hand room e)) (IsPartMoment s P (IsByHandMoment room e))
  day_part t tail told other some part =
      part_of s t (BeginsFrom e.minute w) P (with_day_in room e.minute w) (by_hand room e) (IsBeforeDayFrom room e.minute w) (IsByHandMoment room e) part
      (λ x knows before. from_asks e.minute w (minute_is e) room value.sizes.string_least (book_of s.application x) knows.days.holds.ordered before (newest_is tail told x knows ∙ other) some)
      (λ x knows before. from_makes e.minute w (minute_is e) room value.sizes.string_least (book_of s.application x) knows.days.holds.ordered before (newest_is tail told x knows ∙ other) some)
      (λ x knows before ds v is. from_moments e.minute w (minute_is e) room value.sizes.string_least (book_of s.application x) knows.days.holds.ordered before (newest_is tail told x knows ∙ other) some ds v is)

  -- ---- of a card that the session knows

  pub asked : (x : List ℕ) → s.minute < e.minute → IsSession s x → P (book_of s.application x)
  asked x later knows = (knows.book.strict, omega (arith, later, knows.minute))

  pub entered_moment : (x c : List ℕ) → s.minute < e.minute → IsPartMoment s P (IsByHandMoment room e) x c → IsSession s x → IsCardEntering s e x c
  entered_moment x c later part knows = record { card = part knows.card (asked x later knows) }

  knows_same : (t u : Session) (y : List ℕ) → u.application ≡ t.application → u.days ≡ t.days → u.newest ≡ t.newest → u.vehicle ≡ t.vehicle → KnowsCard t y → KnowsCard u y
  knows_same t u y app days newest vehicle knows = record {
    days = subst (λ (p : Application). Knows u.days y (book_of p y).days) (sym app) (subst (λ (h : Held). Knows h y (book_of t.application y).days) (sym days) knows.days);
    points = subst (λ (p : Application). PointsInside (vehicle_ring p) y) (sym app) knows.points;
    newest = subst (λ (p : Application). IsNewest (vehicle_ring p) y u.newest) (sym app) (subst (λ (o : Option ℕ). IsNewest (vehicle_ring t.application) y o) (sym newest) knows.newest);
    vehicle = vehicle ∙ knows.vehicle ∙ ap (λ (p : Application). (book_of p y).vehicles.newest) (sym app);
  }

  entered_done : (x y : List ℕ) (t u : Session) → s.minute < e.minute → t.application ≡ s.application → IsPartDone s t P (by_hand room e) x y
      → u.application ≡ t.application → u.days ≡ t.days → u.newest ≡ t.newest → u.vehicle ≡ t.vehicle → u.minute ≡ e.minute → IsSession s x → IsCardByHand s u e x y
  entered_done x y t u later app part same_app days newest vehicle minute knows =
      let b : Book = book_of s.application x in
      let p = asked x later knows in
      let done = part knows.card p in
      let made : book_of s.application y ≡ by_hand room e b = told_book s.application (by_hand room e b) x y done.0 in
      let last = at_last e.minute w (minute_is e) room value.sizes.string_least b knows.card.days.holds.ordered p in
      let ends : EndsAbsent (by_hand room e b).days = at_absent e.minute w (minute_is e) room value.sizes.string_least b knows.card.days.holds.ordered p (absent_is e) in
      let there : book_of u.application y ≡ by_hand room e b = ap (λ (q : Application). book_of q y) (same_app ∙ app) ∙ made in
      let open_book : IsOpenBook (by_hand room e b) = record { ends = absent_ends (mark_of (by_hand room e b)) (by_hand room e b).days ends; strict = last.1 } in
      let at : newest_in (by_hand room e b) ≡ e.minute = omega (arith, last.0, later, knows.minute) in
      record {
        card = done.0;
        knows = record {
          card = knows_same t u y same_app days newest vehicle done.1;
          book = subst IsOpenBook (sym there) open_book;
          minute = minute ∙ sym at ∙ sym (ap newest_in there);
        };
      }

  pub entered_told : {old new : State} (t u : Session) → s.minute < e.minute → t.application ≡ s.application → DoesPart old new false (IsPartDone s t P (by_hand room e)) (IsPartMoment s P (IsByHandMoment room e))
      → u.application ≡ t.application → u.days ≡ t.days → u.newest ≡ t.newest → u.vehicle ≡ t.vehicle → u.minute ≡ e.minute → IfSome old.image (λ x. IfSome new.image (λ y. IsSession s x → IsCardByHand s u e x y))
  entered_told {old} {new} t u later app part same_app days newest vehicle minute =
      where_told old.image new.image (λ x y. IsSession s x → IsCardByHand s u e x y) (λ x y was there knows.
      entered_done x y t u later app
      (at_image (λ y. IsPartDone s t P (by_hand room e) x y) there (at_image (λ x. IfSome new.image (IsPartDone s t P (by_hand room e) x)) was (part.done refl)))
      same_app days newest vehicle minute knows)
