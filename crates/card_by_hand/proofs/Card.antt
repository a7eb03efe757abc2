-- The days of a card at the moments of a session's first keep, by its images.
use Rattle.std.proofs.Common.{◌≡◌, inl, inr, ⊎_elim, ℕ, suc, ◌+◌, ◌-◌, ◌/◌, ◌<◌, ◌≤◌, Bool, true, false, cond, List, refl, sym, ◌∙◌, ap, subst, arith}
use Rattle.std.specs.Prelude.{◌⊎◌, ◌&&◌, nat_lt}
use Rattle.activity_codec.specs.declared.values.Activity.TheVariants.{Rest}
use Rattle.activity_codec.specs.declared.entries.Entry.{Entry}
use Rattle.card_session.specs.tacho_types.declared.texts.Registration.{Registration}
use Rattle.tach_media.specs.card_layout.declared.files.Application.{Application}
use Rattle.tach_media.specs.card_layout.Application.{IsApplication}
use Rattle.card_session.specs.card_model.Days.{Day, AreDays}
use Rattle.card_session.specs.card_model.Changes.{Remain, trimmed}
use Rattle.card_session.proofs.card_model.Trims.{are_trimmed}
use Rattle.card_session.specs.card_retention.Expected.{Counted, is_newest}
use Rattle.card_session.specs.card_retention.Shown.{Bound, Rests, Lives, sizes, is_open}
use Rattle.hand_model.specs.card_image.Fields.{card_days, end_mark}
use Rattle.activity_codec.specs.declared.entries.Manual.{Manual}
use Rattle.hand_model.specs.Manual.{manual_word}
use Rattle.hand_model.specs.Counted.{with_by_hand}
use Rattle.hand_model.proofs.Words.{minute_is, absent_is}
use Rattle.card_session.specs.Vehicles.{Vehicles, last_use_in}
use Rattle.card_session.specs.Books.{Book, mark_of, latest_of, closing_word, with_change, gap_closed, entered_days, travelled, with_entry}
use Rattle.card_session.specs.Sessions.{book_of}
use Rattle.card_session.specs.Moments.{IsBook, IsBeforeGap, IsBeforeWords, IsBeforeMark, IsKeepMoment}
use Rattle.card_session.specs.Cards.{IsCard}
use Rattle.card_session.specs.Parts.{IsBeforeGapOf}
use Rattle.card_session.specs.Overwriting.{DaysFollowOverwriting, IsRepairable}
use Rattle.card_session.specs.ByHand.{by_hand, IsByHandMoment, with_word_at, word_len}
use Rattle.card_session.proofs.Alike.{Alike, alike_km, trimmed_alike, rests_alike}
use Rattle.card_session.proofs.Marks.{mark_told}
use Rattle.card_session.proofs.Preparing.{used_at}
use Rattle.card_session.proofs.Stopping.{book_days}
use Rattle.card_by_hand.specs.Clear.{BeginsLater}
use Rattle.card_by_hand.specs.Over.{IsOver}
use Rattle.card_by_hand.proofs.Counting.{counted_lives}
use Rattle.card_by_hand.proofs.Over.{over_first, over_next, over_words, over_entered, over_rests}

module _ (app : Application) (sound : IsApplication app) (x : List ℕ) (ordered : AreDays 0 (book_of app x).days) where
  -- the same of an image's days as of its book's
  there : AreDays 0 (card_days app x)
  there = subst (λ (ds : List Day). AreDays 0 ds) (book_days app x) ordered

  module _ (e : Manual) (y : List ℕ) where
    marks : (v : Vehicles) → v ≡ (book_of app x).vehicles → (book_of app y).vehicles ≡ v → end_mark app y ≡ end_mark app x
    marks v same is = mark_told app y ∙ ap (λ (o : Vehicles). last_use_in o / 60) (is ∙ same) ∙ sym (mark_told app x)

    -- the word counts
    pub goes_by_hand : is_open (end_mark app x) (card_days app x) ≡ false → end_mark app x < e.minute → (slack : Bound) (covered from to : ℕ) (c : Counted) → 16 ≤ slack.bytes → (from ≤ e.minute) ⊎ ((end_mark app x < covered) × (from / 1440 ≤ e.minute / 1440)) → from ≤ to → e.minute < to
        → DaysFollowOverwriting app slack covered from c x → IsCard app (IsBook (by_hand app.activity e (book_of app x))) x y → DaysFollowOverwriting app slack covered to (with_by_hand covered c e.minute) y
    goes_by_hand shut past slack covered from to c least comes low below goes card =
        let days : card_days app y ≡ with_word_at app.activity e.minute (manual_word e) (card_days app x) = sym (book_days app y) ∙ card.told.0 ∙ ap (with_word_at app.activity e.minute (manual_word e)) (book_days app x) in
        let are : AreDays 0 (with_word_at app.activity e.minute (manual_word e) (card_days app x)) = subst (λ (ds : List Day). AreDays 0 ds) (sym (book_days app y) ∙ book_days app y ∙ days) (subst (λ (ds : List Day). AreDays 0 ds) (book_days app y) card.holds.ordered) in
        let lives = counted_lives app.activity slack covered from (end_mark app x) c (card_days app x) goes e.minute (manual_word e) (minute_is e) (absent_is e) past comes to low below shut sound.string_least least are in
        subst (λ (ds : List Day). Lives app.activity slack covered to (end_mark app y) (with_by_hand covered c e.minute) ds) (sym days)
        (subst (λ (n : ℕ). Lives app.activity slack covered to n (with_by_hand covered c e.minute) (with_word_at app.activity e.minute (manual_word e) (card_days app x))) (sym (marks (book_of app x).vehicles refl card.told.1)) lives)

    module _ (late : mark_of (book_of app x) < e.minute) (card : IsCard app (IsByHandMoment app.activity e (book_of app x)) x y) where
      abbrev Moment : List Day → Type 0
      Moment ds = (Remain (app.activity - word_len e.minute (manual_word e) ds) ds (book_of app y).days) ⊎ ((book_of app y).days ≡ with_word_at app.activity e.minute (manual_word e) ds)

      late_at : end_mark app x < e.minute
      late_at = subst (λ (n : ℕ). n < e.minute) (sym (mark_told app x)) late

      -- the first entry by hand
      pub first_over : BeginsLater app e.minute x → IsOver app.activity (end_mark app x) 16 (card_days app x) (card_days app y)
      first_over clear =
          subst (λ (ds : List Day). IsOver app.activity (end_mark app x) 16 (card_days app x) ds) (book_days app y)
          (over_first app.activity (end_mark app x) sound.string_least (card_days app x) e.minute (manual_word e) (minute_is e) late_at there clear (book_of app y).days
          (subst (λ (ds : List Day). Moment ds) (book_days app x) card.told.0))

      -- and each further one
      pub next_over : (days : List Day) (bytes : ℕ) → is_newest (e.minute / 1440) (sizes (card_days app x)) ≡ true → bytes ≤ 30 → IsOver app.activity (end_mark app x) bytes days (card_days app x)
          → IsOver app.activity (end_mark app x) (bytes + 2) days (card_days app y)
      next_over days bytes newest few over =
          subst (λ (ds : List Day). IsOver app.activity (end_mark app x) (bytes + 2) days ds) (book_days app y)
          (over_next app.activity (end_mark app x) sound.string_least days e.minute (manual_word e) (minute_is e) late_at bytes (card_days app x) few there newest over (book_of app y).days
          (subst (λ (ds : List Day). Moment ds) (book_days app x) card.told.0))

-- ---- what a repair leaves

pub over_repaired : (app : Application) → IsApplication app → (x y : List ℕ) (bytes : ℕ) → bytes ≤ 32 → end_mark app y ≡ end_mark app x → IsOver app.activity (end_mark app x) bytes (card_days app x) (card_days app y)
    → (slack : Bound) (covered from next : ℕ) (c : Counted) → 32 ≤ slack.bytes → from ≤ next → DaysFollowOverwriting app slack covered from c x → IsRepairable app slack covered next c y
over_repaired app sound x y bytes few same over slack covered from next c least later goes =
    subst (λ (n : ℕ). Rests app.activity slack covered next n c (trimmed n (card_days app y))) (sym same)
    (over_rests app.activity (end_mark app x) sound.string_least (card_days app x) slack covered from c goes next later least bytes (card_days app y) few over)

-- a moment of the entry behind them, before the end mark moves
module _ (app : Application) (sound : IsApplication app) (x : List ℕ) (ordered : AreDays 0 (book_of app x).days) (e : Entry) (registration : Registration) (odometer more : ℕ) (y : List ℕ) (before : IsBeforeGapOf e.minute (book_of app x))
    (card : IsCard app (IsKeepMoment app.activity registration odometer more e (book_of app x)) x y) (same : end_mark app y ≡ end_mark app x) (newest : is_newest (e.minute / 1440) (sizes (card_days app x)) ≡ true)
    (shut : is_open (end_mark app x) (card_days app x) ≡ false) where
  abbrev pub b : Book
  b = book_of app x

  abbrev pub gapped : List Day
  gapped = gap_closed app.activity (mark_of b) e.minute b.days

  pub shut_there : is_open (mark_of b) b.days ≡ false
  shut_there = subst (λ (ds : List Day). is_open (mark_of b) ds ≡ false) (sym (book_days app x)) (subst (λ (n : ℕ). is_open n (card_days app x) ≡ false) (mark_told app x) shut)

  no_gap : gapped ≡ b.days
  no_gap = ap (λ (o : Bool). cond (o && nat_lt (suc (mark_of b)) e.minute) (with_change app.activity (closing_word (suc (mark_of b)) Rest (latest_of b.days)) b.days) b.days) shut_there

  -- the keep's own last state before its mark moves is that with its words, but for the distance
  abbrev pub Before : List Day → Type 0
  Before kept = IsBeforeMark app.activity b (with_entry app.activity registration odometer more b e) e kept

  pub still : Before (book_of app y).days
  still = ⊎_elim
      (λ old. old.1)
      (λ new. ⊎_elim
      (λ unused. inr (inr (inr new.0)))
      (λ used.
      let now : end_mark app y ≡ e.minute = mark_told app y ∙ ap (λ (o : Vehicles). last_use_in o / 60) used ∙ used_at registration odometer e.minute b.vehicles in
      let then : end_mark app y ≡ mark_of b = same ∙ mark_told app x in
      absurd (omega (arith, before.1, now, then)))
      new.1)
      card.told

  pub late : end_mark app x < e.minute
  late = omega (arith, before.1, mark_told app x)

  pub are : AreDays 0 (card_days app x)
  are = subst (λ (ds : List Day). AreDays 0 ds) (book_days app x) ordered

  pub base_is : gapped ≡ card_days app x
  base_is = no_gap ∙ book_days app x

  module _ (days : List Day) (bytes : ℕ) (few : bytes ≤ 30) (over : IsOver app.activity (end_mark app x) bytes days (card_days app x)) where
    -- a moment but for the distance
    moment_over : (kept : List Day) → IsBeforeGap app.activity (mark_of b) e.minute b.days kept ⊎ (IsBeforeWords app.activity e gapped kept ⊎ (kept ≡ entered_days app.activity e gapped)) → IsOver app.activity (end_mark app x) (bytes + 2) days kept
    moment_over kept moment = ⊎_elim
        (λ gap. ⊎_elim
        (λ unchanged. subst (λ (l : List Day). IsOver app.activity (end_mark app x) (bytes + 2) days l) (sym (unchanged ∙ book_days app x)) (over_words app.activity (end_mark app x) sound.string_least days bytes (card_days app x) few are over e late newest (card_days app x) (inl refl)))
        (λ gone. absurd (differ (sym gone.0 ∙ shut_there))) gap)
        (λ rest. ⊎_elim
        (λ words. over_words app.activity (end_mark app x) sound.string_least days bytes (card_days app x) few are over e late newest kept (subst (λ (l : List Day). IsBeforeWords app.activity e l kept) base_is words))
        (λ done. subst (λ (l : List Day). IsOver app.activity (end_mark app x) (bytes + 2) days l) (sym (done ∙ ap (entered_days app.activity e) base_is)) (over_entered app.activity (end_mark app x) sound.string_least days bytes (card_days app x) few are over e late newest)) rest) moment
      where
        differ : true ≡ false → ⊥
        differ e = cc

    module _ (slack : Bound) (covered from next : ℕ) (c : Counted) (least : 32 ≤ slack.bytes) (later : from ≤ next) (first : List ℕ) (days_are : card_days app first ≡ days) (mark : end_mark app first ≡ end_mark app x) (goes : DaysFollowOverwriting app slack covered from c first) where
      lives : Lives app.activity slack covered from (end_mark app x) c days
      lives = subst (λ (n : ℕ). Lives app.activity slack covered from n c days) mark (subst (λ (ds : List Day). Lives app.activity slack covered from (end_mark app first) c ds) days_are goes)

      rests : (kept : List Day) → IsOver app.activity (end_mark app x) (bytes + 2) days kept → Rests app.activity slack covered next (end_mark app x) c (trimmed (end_mark app x) kept)
      rests kept o = over_rests app.activity (end_mark app x) sound.string_least days slack covered from c lives next later least (bytes + 2) kept (omega (arith, few)) o

      rests_there : (kept : List Day) → AreDays 0 kept → Before kept → Rests app.activity slack covered next (end_mark app x) c (trimmed (end_mark app x) kept)
      rests_there kept whole moment = ⊎_elim
          (λ gap. rests kept (moment_over kept (inl gap)))
          (λ rest. ⊎_elim
          (λ words. rests kept (moment_over kept (inr (inl words))))
          (λ last. ⊎_elim
          (λ word. rests kept (moment_over kept (inr (inr word))))
          (λ km.
          rests_alike app.activity slack covered next (end_mark app x) c (trimmed (end_mark app x) (entered_days app.activity e gapped)) (trimmed (end_mark app x) kept)
          (subst (λ (l : List Day). Alike (trimmed (end_mark app x) (entered_days app.activity e gapped)) (trimmed (end_mark app x) l)) (sym km) (trimmed_alike (end_mark app x) (entered_days app.activity e gapped) (travelled more (entered_days app.activity e gapped)) (alike_km more (entered_days app.activity e gapped))))
          (are_trimmed (end_mark app x) 0 kept whole)
          (rests (entered_days app.activity e gapped) (moment_over (entered_days app.activity e gapped) (inr (inr refl)))))
          last) rest) moment

      pub keep_repaired_at : IsRepairable app slack covered next c y
      keep_repaired_at =
          subst (λ (n : ℕ). Rests app.activity slack covered next n c (trimmed n (card_days app y))) (sym same)
          (subst (λ (ds : List Day). Rests app.activity slack covered next (end_mark app x) c (trimmed (end_mark app x) ds)) (book_days app y) (rests_there (book_of app y).days card.holds.ordered still))

pub keep_repaired : (app : Application) (sound : IsApplication app) (x : List ℕ) (ordered : AreDays 0 (book_of app x).days) (e : Entry) (registration : Registration) (odometer more : ℕ) (y : List ℕ) → IsBeforeGapOf e.minute (book_of app x)
    → IsCard app (IsKeepMoment app.activity registration odometer more e (book_of app x)) x y → end_mark app y ≡ end_mark app x → is_newest (e.minute / 1440) (sizes (card_days app x)) ≡ true
    → is_open (end_mark app x) (card_days app x) ≡ false → (days : List Day) (bytes : ℕ) → bytes ≤ 30 → IsOver app.activity (end_mark app x) bytes days (card_days app x)
    → (slack : Bound) (covered from next : ℕ) (c : Counted) → 32 ≤ slack.bytes → from ≤ next → (first : List ℕ) → card_days app first ≡ days → end_mark app first ≡ end_mark app x → DaysFollowOverwriting app slack covered from c first → IsRepairable app slack covered next c y
keep_repaired app sound x ordered e registration odometer more y before card same newest shut days bytes few over slack covered from next c least later first days_are mark goes =
    keep_repaired_at app sound x ordered e registration odometer more y before card same newest shut days bytes few over slack covered from next c least later first days_are mark goes
