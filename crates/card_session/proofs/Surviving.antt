-- What is said of a card's days up to its end mark survives all that a keep or a withdrawal writes before that mark moves.
use Rattle.std.proofs.Common.{◌≡◌, ⊎_elim, ℕ, suc, ◌+◌, ◌-◌, ◌*◌, ◌/◌, ◌%◌, ◌<◌, ◌≤◌, Bool, true, false, cond, ◌&&◌, List, [], ◌∷◌, ◌++◌, length, refl, sym, ◌∙◌, ap, subst, arith}
use Rattle.std.specs.Prelude.{nat_eq, nat_lt}
use Rattle.std.proofs.lemmas.Bool.{cases_lt}
use Rattle.activity_codec.specs.declared.values.Activity.{Activity}
use Rattle.activity_codec.specs.declared.values.Activity.TheVariants.{Rest}
use Rattle.activity_codec.specs.declared.entries.Entry.{Entry}
use Rattle.tacho_types.specs.declared.texts.Registration.{Registration}
use Rattle.card_days.specs.card_model.Days.{Day, AreDays}
use Rattle.card_days.specs.card_model.Changes.{Remain, OnNewest, fitting, with_newest, with_word, new_day, date_of, trimmed}
use Rattle.card_days.proofs.card_model.Retention.{remain_fitting, remain_some}
use Rattle.card_days.proofs.card_model.Trims.{Behind, trimmed_word, trimmed_day, trimmed_cases}
use Rattle.card_validity.specs.card_retention.Expected.{is_newest}
use Rattle.card_validity.specs.card_retention.Shown.{Fits, sizes, is_open, AllUpTo}
use Rattle.card_validity.specs.card_retention.Retains.{entries_in}
use Rattle.card_validity.proofs.card_retention.Entering.{fits_sizes, newest_more, date_newest}
use Rattle.card_validity.proofs.card_retention.Growing.{sizes_word, left_newest, left_of}
use Rattle.card_validity.proofs.card_retention.Stops.{are_left}
use Rattle.card_validity.proofs.card_retention.Listing.{Lists, lists_left, lists_word, lists_day}
use Rattle.card_session.specs.Books.{Book, mark_of, latest_of, closing_word, with_change, gap_closed, entry_word, bare_word, day_words, tells_state, with_new_day, entered_days, travelled, with_entry}
use Rattle.card_session.specs.Sessions.{EndsStrictly}
use Rattle.card_session.specs.Moments.{IsBeforeGap, IsBeforeWords, IsBeforeMark, IsClosingWord, entry_len}
use Rattle.card_session.specs.Parts.{IsBeforeGapOf}
use Rattle.card_session.proofs.Following.{closing_minute, entry_minute}
use Rattle.card_session.proofs.Preparing.{gap_are, gap_ready, open_date, on_as}
use Rattle.card_session.proofs.OnMark.{IsBegunOn, all_before, before_left, cut_entry}
use Rattle.card_session.proofs.Alike.{Alike, alike_km, trimmed_alike, strict_alike, entries_alike, sizes_alike}

-- It survives that the oldest days go, but for the newest, and a word behind the mark; what follows from it survives a day behind the
-- mark too, and looks at dates and words alone.
pub record Survives (mark : ℕ) (Q R : List Day → Type 0) : Type 0 where
  pub drops : (room : ℕ) (days kept : List Day) → 2894 ≤ room → AreDays 0 days → Remain room days kept → Q days → Q kept
  pub word : (w : ℕ) (days : List Day) → AreDays 0 days → OnNewest (Behind mark w) days → Q days → Q (with_newest (with_word w) days)
  pub still : (days : List Day) → Q days → R days
  pub day : (days : List Day) (d : Day) → d.date % 86400 ≡ 0 → date_of mark < d.date → Q days → R (days ++ d ∷ [])
  pub alike : (days kept : List Day) → Alike days kept → R days → R kept

-- an entry adds few words and bytes
few_words : (e : Entry) → length (day_words e) ≤ 2
few_words e = count (nat_eq (e.minute % 1440) 0)
  where
    count : (m : Bool) → length (cond m (entry_word e ∷ []) (bare_word ∷ entry_word e ∷ [])) ≤ 2
    count true = omega arith
    count false = omega arith

pub few_bytes : (e : Entry) (days : List Day) → entry_len e days ≤ 16
few_bytes e days = by (is_newest (e.minute / 1440) (sizes days))
  where
    by : (n : Bool) → cond n 2 (12 + 2 * length (day_words e)) ≤ 16
    by true = omega arith
    by false = omega (arith, few_words e)

-- the closing word of a gap stands in the newest day
pub newest_gapped : (size : ℕ) → 5544 ≤ size → (b : Book) → AreDays 0 b.days → (minute k : ℕ) → is_newest k (sizes (gap_closed size (mark_of b) minute b.days)) ≡ is_newest k (sizes b.days)
newest_gapped size long b ordered minute k = by (is_open (mark_of b) b.days && nat_lt (suc (mark_of b)) minute)
  where
    w : ℕ
    w = closing_word (suc (mark_of b)) Rest (latest_of b.days)

    fits : Fits (size - 2) (sizes b.days)
    fits = (fits_sizes 0 (size - 2) b.days (omega (arith, long)) ordered).0

    by : (g : Bool) → is_newest k (sizes (cond g (with_newest (with_word w) (fitting (size - 2) b.days)) b.days)) ≡ is_newest k (sizes b.days)
    by true =
        ap (is_newest k) (sizes_word w (fitting (size - 2) b.days)) ∙ newest_more k (sizes (fitting (size - 2) b.days))
        ∙ left_newest (size - 2) k (sizes b.days) (sizes (fitting (size - 2) b.days)) fits (left_of (size - 2) b.days (fitting (size - 2) b.days) (remain_fitting (size - 2) b.days))
    by false = refl

module _ (size : ℕ) (long : 5544 ≤ size) (b : Book) (ordered : AreDays 0 b.days) (Q R : List Day → Type 0) (s : Survives (mark_of b) Q R) (q : Q b.days) where
  fitting_are : AreDays 0 (fitting (size - 2) b.days)
  fitting_are = are_left (size - 2) b.days (fitting (size - 2) b.days) (remain_fitting (size - 2) b.days) ordered

  fitting_q : Q (fitting (size - 2) b.days)
  fitting_q = s.drops (size - 2) b.days (fitting (size - 2) b.days) (omega (arith, long)) ordered (remain_fitting (size - 2) b.days) q

  closing_behind : (act : Activity) → is_open (mark_of b) b.days ≡ true → OnNewest (Behind (mark_of b) (closing_word (suc (mark_of b)) act (latest_of b.days))) (fitting (size - 2) b.days)
  closing_behind act is =
      on_as (λ d. d.date ≡ date_of (suc (mark_of b))) (Behind (mark_of b) (closing_word (suc (mark_of b)) act (latest_of b.days))) (fitting (size - 2) b.days)
      (λ d date. record { day = omega (arith, date); minute = λ same. omega (arith, date, same, closing_minute (suc (mark_of b)) act (latest_of b.days)) })
      (remain_some (λ d. d.date ≡ date_of (suc (mark_of b))) (size - 2) 0 b.days (fitting (size - 2) b.days) (omega (arith, long)) ordered (remain_fitting (size - 2) b.days) (open_date (mark_of b) b.days is))

  closing_q : (act : Activity) → is_open (mark_of b) b.days ≡ true → Q (with_change size (closing_word (suc (mark_of b)) act (latest_of b.days)) b.days)
  closing_q act is = s.word (closing_word (suc (mark_of b)) act (latest_of b.days)) (fitting (size - 2) b.days) fitting_are (closing_behind act is) fitting_q

  -- ---- a withdrawal
  pub closing_survives : (act : Activity) (kept : List Day) → IsClosingWord size act b kept → R kept
  closing_survives act kept moment = ⊎_elim
      (λ still. subst R (sym still) (s.still b.days q))
      (λ rest. ⊎_elim
      (λ gone. s.still kept (s.drops (size - 2) b.days kept (omega (arith, long)) ordered gone q))
      (λ word. subst R (sym (word ∙ ap (λ (o : Bool). cond o (with_change size (closing_word (suc (mark_of b)) act (latest_of b.days)) b.days) b.days) rest.0)) (s.still (with_change size (closing_word (suc (mark_of b)) act (latest_of b.days)) b.days) (closing_q act rest.0)))
      rest.1) moment

  -- ---- a keep
  module _ (e : Entry) (before : IsBeforeGapOf e.minute b) where
    abbrev gapped : List Day
    gapped = gap_closed size (mark_of b) e.minute b.days

    are : AreDays 0 gapped
    are = gap_are size long b ordered e.minute before

    mark_before : mark_of b < e.minute
    mark_before = omega (arith, before.1)

    gap_q : Q gapped
    gap_q = by (is_open (mark_of b) b.days) (nat_lt (suc (mark_of b)) e.minute) refl
      where
        by : (o g : Bool) → is_open (mark_of b) b.days ≡ o → Q (cond (o && g) (with_newest (with_word (closing_word (suc (mark_of b)) Rest (latest_of b.days))) (fitting (size - 2) b.days)) b.days)
        by true true is = closing_q Rest is
        by true false is = q
        by false g is = q

    first_q : (kept : List Day) → IsBeforeGap size (mark_of b) e.minute b.days kept → R kept
    first_q kept moment = ⊎_elim (λ still. subst R (sym still) (s.still b.days q)) (λ gone. s.still kept (s.drops (size - 2) b.days kept (omega (arith, long)) ordered gone.2 q)) moment

    second_q : (kept : List Day) → IsBeforeWords size e gapped kept → R kept
    second_q kept moment = ⊎_elim (λ still. subst R (sym still) (s.still gapped gap_q)) (λ gone. s.still kept (s.drops (size - entry_len e gapped) gapped kept (omega (arith, long, few_bytes e gapped)) are gone.1 gap_q)) moment

    -- the days that the entry's day goes behind
    abbrev room : ℕ
    room = size - (12 + 2 * length (day_words e))

    abbrev older : List Day
    older = fitting (size - (12 + 2 * length (day_words e))) gapped

    older_are : AreDays 0 older
    older_are = are_left room gapped older (remain_fitting room gapped) are

    older_q : Q older
    older_q = s.drops room gapped older (omega (arith, long, few_words e)) are (remain_fitting room gapped) gap_q

    -- a day behind the mark's
    later_day : mark_of b / 1440 < e.minute / 1440 → R (with_new_day size e gapped)
    later_day less = s.day older (new_day gapped (date_of e.minute) (day_words e)) (omega arith) (omega (arith, less)) older_q

    module _ (day : is_newest (e.minute / 1440) (sizes gapped) ≡ false → R (with_new_day size e gapped)) where
      entered_by : R (entered_days size e gapped)
      entered_by = by (is_newest (e.minute / 1440) (sizes gapped)) (tells_state e gapped) refl
        where
          behind : is_newest (e.minute / 1440) (sizes gapped) ≡ true → OnNewest (Behind (mark_of b) (entry_word e)) (fitting (size - 2) gapped)
          behind is =
              on_as (λ d. d.date ≡ e.minute / 1440 * 86400) (Behind (mark_of b) (entry_word e)) (fitting (size - 2) gapped)
              (λ d date. record { day = omega (arith, date, mark_before); minute = λ same. omega (arith, date, same, mark_before, entry_minute e) })
              (remain_some (λ d. d.date ≡ e.minute / 1440 * 86400) (size - 2) 0 gapped (fitting (size - 2) gapped) (omega (arith, long)) are (remain_fitting (size - 2) gapped) (date_newest (e.minute / 1440) 0 gapped are is))

          by : (n told : Bool) → is_newest (e.minute / 1440) (sizes gapped) ≡ n → R (cond n (cond told gapped (with_change size (entry_word e) gapped)) (with_new_day size e gapped))
          by true true is = s.still gapped gap_q
          by true false is =
              s.still (with_change size (entry_word e) gapped)
              (s.word (entry_word e) (fitting (size - 2) gapped) (are_left (size - 2) gapped (fitting (size - 2) gapped) (remain_fitting (size - 2) gapped) are) (behind is)
              (s.drops (size - 2) gapped (fitting (size - 2) gapped) (omega (arith, long)) are (remain_fitting (size - 2) gapped) gap_q))
          by false told is = day is

      km_by : (more : ℕ) → R (travelled more (entered_days size e gapped))
      km_by more = s.alike (entered_days size e gapped) (travelled more (entered_days size e gapped)) (alike_km more (entered_days size e gapped)) entered_by

      keep_by : (registration : Registration) (odometer more : ℕ) (kept : List Day) → IsBeforeMark size b (with_entry size registration odometer more b e) e kept → R kept
      keep_by registration odometer more kept moment = ⊎_elim
          (λ gap. first_q kept gap)
          (λ rest. ⊎_elim
          (λ words. second_q kept words)
          (λ last. ⊎_elim (λ word. subst R (sym word) entered_by) (λ km. subst R (sym km) (km_by more)) last) rest) moment

    -- where the entry's day, if it is new, is behind the mark's
    module _ (clear : is_newest (e.minute / 1440) (sizes gapped) ≡ false → mark_of b / 1440 < e.minute / 1440) where
      pub entered_survives : R (entered_days size e gapped)
      entered_survives = entered_by (λ other. later_day (clear other))

      pub keep_survives : (registration : Registration) (odometer more : ℕ) (kept : List Day) → IsBeforeMark size b (with_entry size registration odometer more b e) e kept → R kept
      keep_survives registration odometer more kept moment = keep_by (λ other. later_day (clear other)) registration odometer more kept moment

    -- or where what follows survives a day that is begun on the mark's too
    module _ (begun : (days : List Day) (d : Day) → IsBegunOn (mark_of b) days d → Q days → R (days ++ d ∷ [])) where
      on_mark : is_newest (e.minute / 1440) (sizes gapped) ≡ false → e.minute / 1440 ≤ mark_of b / 1440 → R (with_new_day size e gapped)
      on_mark other late =
          let at : e.minute / 1440 ≡ mark_of b / 1440 = omega (arith, late, mark_before) in
          let date : date_of e.minute ≡ date_of (mark_of b) = ap (λ (n : ℕ). n * 86400) at in
          begun older (new_day gapped (date_of e.minute) (day_words e)) (record {
            are = older_are;
            before = before_left (mark_of b / 1440) room gapped older (remain_fitting room gapped)
                (all_before (mark_of b / 1440) e.minute 0 gapped are (gap_ready size long b ordered e.minute before e refl).1 at (subst (λ (n : ℕ). is_newest n (sizes gapped) ≡ false) at other));
            date = date;
            first = cut_entry (mark_of b) (new_day gapped (date_of e.minute) (day_words e)) e date refl (omega (arith, at, mark_before));
          }) older_q

      pub keep_survives_begun : (registration : Registration) (odometer more : ℕ) (kept : List Day) → IsBeforeMark size b (with_entry size registration odometer more b e) e kept → R kept
      keep_survives_begun registration odometer more kept moment =
          keep_by (λ other. ⊎_elim (λ less. later_day less) (λ late. on_mark other late) (cases_lt (mark_of b / 1440) (e.minute / 1440))) registration odometer more kept moment

-- ---- the entries that are shown

pub lists_survive : (mark : ℕ) (all : List Entry) → AllUpTo mark all → Survives mark (Lists mark all) (Lists mark all)
lists_survive mark all up = record {
  drops = λ room days kept wide are left is. lists_left mark room 0 all days kept are left is;
  word = λ w days are on is. lists_word mark w 0 all days are on is;
  still = λ days is. is;
  day = λ days d midnight later is. lists_day mark all days d midnight later up is;
  alike = λ days kept a is. entries_alike mark days kept a ∙ is ∙ ap (λ l. entries_in l all) (sym (sizes_alike days kept a));
}

-- ---- the words of the newest day that counts

strict_drop : (m date : ℕ) (d : Day) (ds : List Day) → AreDays date (d ∷ ds) → EndsStrictly (trimmed m (d ∷ ds)) → EndsStrictly (trimmed m ds)
strict_drop m date d ds are strict = ⊎_elim
    (λ none. subst EndsStrictly (sym none.0) tt)
    (λ some. subst EndsStrictly (sym some.less) (subst EndsStrictly some.whole strict))
    (trimmed_cases m date d ds are)

strict_left : (m room date : ℕ) (days kept : List Day) → AreDays date days → Remain room days kept → EndsStrictly (trimmed m days) → EndsStrictly (trimmed m kept)
strict_left m room date [] kept are left strict = subst (λ (l : List Day). EndsStrictly (trimmed m l)) (sym left) strict
strict_left m room date (d ∷ ds) kept are left strict = ⊎_elim
    (λ same. subst (λ (l : List Day). EndsStrictly (trimmed m l)) (sym same) strict)
    (λ gone. strict_left m room d.date ds kept are.2 gone.1 (strict_drop m date d ds are strict)) left

pub strict_survives : (mark : ℕ) → Survives mark (λ ds. EndsStrictly (trimmed mark ds)) (λ ds. EndsStrictly (trimmed mark ds))
strict_survives mark = record {
  drops = λ room days kept wide are left strict. strict_left mark room 0 days kept are left strict;
  word = λ w days are on strict. subst EndsStrictly (sym (trimmed_word mark w days on)) strict;
  still = λ days strict. strict;
  day = λ days d midnight later strict. subst EndsStrictly (sym (trimmed_day mark days d later)) strict;
  alike = λ days kept a strict. strict_alike (trimmed mark days) (trimmed mark kept) (trimmed_alike mark days kept a) strict;
}
