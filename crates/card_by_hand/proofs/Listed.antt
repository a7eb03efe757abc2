-- The entries by hand that a card's days tell up to a mark, at the moments of an entry by hand and of a keep.
use Rattle.std.proofs.Common.{◌≡◌, inr, ⊎_elim, ℕ, suc, ◌+◌, ◌-◌, ◌*◌, ◌/◌, ◌%◌, ◌≤◌, Bool, true, false, cond, List, [], ◌∷◌, ◌++◌, length, refl, sym, ◌∙◌, ap, subst, arith, append_assoc, append-nil}
use Rattle.std.specs.Prelude.{◌&&◌, nat_eq, nat_le, nat_lt}
use Rattle.std.proofs.lemmas.Bool.Decides.{nat_tests}
use Rattle.activity_codec.specs.declared.values.Activity.{Activity}
use Rattle.activity_codec.specs.declared.values.Activity.TheVariants.{Rest}
use Rattle.activity_codec.specs.declared.entries.Entry.{Entry}
use Rattle.activity_codec.specs.declared.words.Change.{Change}
use Rattle.activity_codec.specs.Words.{word_minute, word_slot, word_absent, word_crew}
use Rattle.activity_codec.proofs.WordLemmas.{change_of-word_of}
use Rattle.card_session.specs.tacho_types.declared.texts.Registration.{Registration}
use Rattle.card_session.specs.card_model.Days.{Day, AreDays}
use Rattle.card_session.specs.card_model.Changes.{Remain, OnNewest, fitting, with_newest, with_word, new_day, date_of}
use Rattle.card_session.proofs.card_model.Retention.{remain_fitting, remain_some}
use Rattle.card_session.specs.card_retention.Expected.{is_newest}
use Rattle.card_session.specs.card_retention.Shown.{sizes, is_open}
use Rattle.card_session.proofs.card_retention.Entering.{date_newest}
use Rattle.activity_codec.specs.declared.entries.Manual.{Manual}
use Rattle.hand_model.specs.Manual.{manual_word, is_by_hand, tells_by_hand}
use Rattle.hand_model.specs.ByHand.{words_by_hand, by_hand_up_to}
use Rattle.hand_model.proofs.Words.{by_hand_is, minute_is, tells_it}
use Rattle.hand_model.proofs.Lists.{one_more, words_append, up_to_append}
use Rattle.card_session.specs.Vehicles.{Vehicles}
use Rattle.card_session.specs.Books.{Book, mark_of, latest_of, closing_word, entry_word, bare_word, day_words, tells_state, with_change, gap_closed, entered_days, with_new_day, travelled, with_entry}
use Rattle.card_session.specs.Moments.{IsBeforeMark, IsKeepMoment}
use Rattle.card_session.specs.ByHand.{words_from, with_day_from, with_word_at}
use Rattle.card_session.proofs.Preparing.{on_as}
use Rattle.card_by_hand.specs.Listed.{AreLeft}

-- ---- what is left

pub left_all : (l : List Manual) → AreLeft l l
left_all l = record { gone = []; is = refl }

pub left_then : (a b c : List Manual) → AreLeft a b → AreLeft b c → AreLeft a c
left_then a b c one two = record { gone = one.gone ++ two.gone; is = one.is ∙ ap (λ (l : List Manual). one.gone ++ l) two.is ∙ sym (append_assoc one.gone two.gone c) }

left_as : (a b c : List Manual) → b ≡ c → AreLeft a b → AreLeft a c
left_as a b c same is = subst (λ (l : List Manual). AreLeft a l) same is

-- ---- lists of words and of days

pub up_to_word : (mark w : ℕ) (ds : List Day) (l : List Manual) → OnNewest (λ d. one_more mark d.date w ≡ l) ds → by_hand_up_to mark (with_newest (with_word w) ds) ≡ by_hand_up_to mark ds ++ l
up_to_word mark w [] l on = absurd on
up_to_word mark w (d ∷ []) l on =
    append-nil (words_by_hand mark d.date (d.words ++ w ∷ [])) ∙ words_append mark d.date d.words w ∙ ap (λ (m : List Manual). words_by_hand mark d.date d.words ++ m) on
    ∙ ap (λ (m : List Manual). m ++ l) (sym (append-nil (words_by_hand mark d.date d.words)))
up_to_word mark w (d ∷ e ∷ ds) l on =
    by_rest e ds (up_to_word mark w (e ∷ ds) l on)
  where
    by_rest : (e : Day) (ds : List Day) → by_hand_up_to mark (with_newest (with_word w) (e ∷ ds)) ≡ by_hand_up_to mark (e ∷ ds) ++ l
        → words_by_hand mark d.date d.words ++ by_hand_up_to mark (with_newest (with_word w) (e ∷ ds)) ≡ (words_by_hand mark d.date d.words ++ by_hand_up_to mark (e ∷ ds)) ++ l
    by_rest e ds rest = ap (λ (m : List Manual). words_by_hand mark d.date d.words ++ m) rest ∙ sym (append_assoc (words_by_hand mark d.date d.words) (by_hand_up_to mark (e ∷ ds)) l)

pub up_to_drops : (mark room : ℕ) (ds kept : List Day) → Remain room ds kept → AreLeft (by_hand_up_to mark ds) (by_hand_up_to mark kept)
up_to_drops mark room [] kept left = subst (λ (l : List Day). AreLeft (by_hand_up_to mark []) (by_hand_up_to mark l)) (sym left) (left_all [])
up_to_drops mark room (d ∷ ds) kept left = ⊎_elim
    (λ same. subst (λ (l : List Day). AreLeft (by_hand_up_to mark (d ∷ ds)) (by_hand_up_to mark l)) (sym same) (left_all (by_hand_up_to mark (d ∷ ds))))
    (λ gone. left_then (by_hand_up_to mark (d ∷ ds)) (by_hand_up_to mark ds) (by_hand_up_to mark kept) (record { gone = words_by_hand mark d.date d.words; is = refl }) (up_to_drops mark room ds kept gone.1)) left

pub up_to_km : (mark more : ℕ) (ds : List Day) → by_hand_up_to mark (travelled more ds) ≡ by_hand_up_to mark ds
up_to_km mark more [] = refl
up_to_km mark more (d ∷ []) = refl
up_to_km mark more (d ∷ e ∷ []) = refl
up_to_km mark more (d ∷ e ∷ f ∷ ds) = ap (λ (l : List Manual). words_by_hand mark d.date d.words ++ l) (up_to_km mark more (e ∷ f ∷ ds))

-- a word that is none tells none
none_more : (mark date w : ℕ) → is_by_hand w ≡ false → one_more mark date w ≡ []
none_more mark date w is = ap (λ (b : Bool). cond (b && nat_le (date / 60 + word_minute w) mark) (tells_by_hand date w ∷ []) []) is

on_all : (P : Day → Type 0) (ds : List Day) → OnNewest (λ d. Unit {0}) ds → ((d : Day) → P d) → OnNewest P ds
on_all P [] on is = absurd on
on_all P (d ∷ []) on is = is d
on_all P (d ∷ e ∷ ds) on is = on_all P (e ∷ ds) on is

pub word_none : (mark w : ℕ) (ds : List Day) → is_by_hand w ≡ false → by_hand_up_to mark (with_newest (with_word w) ds) ≡ by_hand_up_to mark ds
word_none mark w [] is = refl
word_none mark w (d ∷ ds) is = up_to_word mark w (d ∷ ds) [] (on_all (λ e. one_more mark e.date w ≡ []) (d ∷ ds) (some d ds) (λ e. none_more mark e.date w is)) ∙ append-nil (by_hand_up_to mark (d ∷ ds))
  where
    some : (d : Day) (ds : List Day) → OnNewest (λ d. Unit {0}) (d ∷ ds)
    some d [] = tt
    some d (e ∷ ds) = some e ds

-- ---- the words of a session that are none

pub closing_none : (m : ℕ) (act : Activity) (latest : ℕ) → is_by_hand (closing_word m act latest) ≡ false
closing_none m act latest =
    let told = change_of-word_of (record { slot = word_slot latest; crew_or_known = false; absent = true; act = act; minute = m % 1440 }) (omega arith) in
    and_false (word_absent (closing_word m act latest)) (word_crew (closing_word m act latest)) (ap (λ (c : Change). c.crew_or_known) told)
  where
    and_false : (a b : Bool) → b ≡ false → a && b ≡ false
    and_false true b is = is
    and_false false b is = refl

pub entry_none : (e : Entry) → is_by_hand (entry_word e) ≡ false
entry_none e =
    let told = change_of-word_of (record { slot = e.slot; crew_or_known = e.crew; absent = false; act = e.act; minute = e.minute % 1440 }) (omega arith) in
    ap (λ (b : Bool). b && word_crew (entry_word e)) (ap (λ (c : Change). c.absent) told)

-- ---- AN ENTRY BY HAND, by a mark that it is not behind

module _ (size : ℕ) (long : 5544 ≤ size) (days : List Day) (ordered : AreDays 0 days) (e : Manual) (mark : ℕ) (low : e.minute ≤ mark) where
  abbrev w : ℕ
  w = manual_word e

  within : (minute : ℕ) → minute ≤ mark → nat_le minute mark ≡ true
  within minute le = grind (arith, nat_tests)

  pub this_one : (date : ℕ) → date ≡ date_of e.minute → one_more mark date w ≡ e ∷ []
  this_one date is =
      ap (λ (n : ℕ). one_more mark n w) is
      ∙ ap (λ (b : Bool). cond (b && nat_le (date_of e.minute / 60 + word_minute w) mark) (tells_by_hand (date_of e.minute) w ∷ []) []) (by_hand_is e)
      ∙ ap (λ (b : Bool). cond b (tells_by_hand (date_of e.minute) w ∷ []) []) (within (date_of e.minute / 60 + word_minute w) (omega (arith, low, minute_is e)))
      ∙ ap (λ (m : Manual). m ∷ []) (tells_it e)

  pub begun_one : words_by_hand mark (date_of e.minute) (words_from e.minute w) ≡ e ∷ []
  begun_one = by (nat_eq (e.minute % 1440) 0)
    where
      by : (b : Bool) → words_by_hand mark (date_of e.minute) (cond b (w ∷ []) (bare_word ∷ w ∷ [])) ≡ e ∷ []
      by true = this_one (date_of e.minute) refl
      by false = this_one (date_of e.minute) refl

  -- of those of before the oldest may be gone, and this one stands behind them
  pub by_hand_more : (kept : List Manual) × AreLeft (by_hand_up_to mark days) kept × (by_hand_up_to mark (with_word_at size e.minute w days) ≡ kept ++ e ∷ [])
  by_hand_more = by (is_newest (e.minute / 1440) (sizes days)) refl
    where
      by : (n : Bool) → is_newest (e.minute / 1440) (sizes days) ≡ n
          → (kept : List Manual) × AreLeft (by_hand_up_to mark days) kept × (by_hand_up_to mark (cond n (with_change size w days) (with_day_from size e.minute w days)) ≡ kept ++ e ∷ [])
      by true is =
          let left = remain_fitting (size - 2) days in
          let dated : OnNewest (λ d. d.date ≡ e.minute / 1440 * 86400) (fitting (size - 2) days) = remain_some (λ d. d.date ≡ e.minute / 1440 * 86400) (size - 2) 0 days (fitting (size - 2) days) (omega (arith, long)) ordered left (date_newest (e.minute / 1440) 0 days ordered is) in (
            by_hand_up_to mark (fitting (size - 2) days),
            up_to_drops mark (size - 2) days (fitting (size - 2) days) left,
            up_to_word mark w (fitting (size - 2) days) (e ∷ []) (on_as (λ d. d.date ≡ e.minute / 1440 * 86400) (λ d. one_more mark d.date w ≡ e ∷ []) (fitting (size - 2) days) (λ d date. this_one d.date date) dated),
          )
      by false is =
          let room = size - (12 + 2 * length (words_from e.minute w)) in (
            by_hand_up_to mark (fitting room days),
            up_to_drops mark room days (fitting room days) (remain_fitting room days),
            up_to_append mark (fitting room days) (new_day days (date_of e.minute) (words_from e.minute w)) ∙ ap (λ (l : List Manual). by_hand_up_to mark (fitting room days) ++ l) begun_one,
          )

-- ---- A KEEP tells none, by any mark, at each of its moments

module _ (size : ℕ) (mark : ℕ) (b : Book) (e : Entry) where
  abbrev gapped : List Day
  gapped = gap_closed size (mark_of b) e.minute b.days

  gap_left : AreLeft (by_hand_up_to mark b.days) (by_hand_up_to mark gapped)
  gap_left = by (is_open (mark_of b) b.days && nat_lt (suc (mark_of b)) e.minute)
    where
      by : (g : Bool) → AreLeft (by_hand_up_to mark b.days) (by_hand_up_to mark (cond g (with_newest (with_word (closing_word (suc (mark_of b)) Rest (latest_of b.days))) (fitting (size - 2) b.days)) b.days))
      by true =
          left_as (by_hand_up_to mark b.days) (by_hand_up_to mark (fitting (size - 2) b.days)) (by_hand_up_to mark (with_newest (with_word (closing_word (suc (mark_of b)) Rest (latest_of b.days))) (fitting (size - 2) b.days)))
          (sym (word_none mark (closing_word (suc (mark_of b)) Rest (latest_of b.days)) (fitting (size - 2) b.days) (closing_none (suc (mark_of b)) Rest (latest_of b.days))))
          (up_to_drops mark (size - 2) b.days (fitting (size - 2) b.days) (remain_fitting (size - 2) b.days))
      by false = left_all (by_hand_up_to mark b.days)

  pub day_none : words_by_hand mark (date_of e.minute) (day_words e) ≡ []
  day_none = by (nat_eq (e.minute % 1440) 0)
    where
      by : (m : Bool) → words_by_hand mark (date_of e.minute) (cond m (entry_word e ∷ []) (bare_word ∷ entry_word e ∷ [])) ≡ []
      by true = none_more mark (date_of e.minute) (entry_word e) (entry_none e)
      by false = none_more mark (date_of e.minute) (entry_word e) (entry_none e)

  entered_left : AreLeft (by_hand_up_to mark gapped) (by_hand_up_to mark (entered_days size e gapped))
  entered_left = by (is_newest (e.minute / 1440) (sizes gapped)) (tells_state e gapped)
    where
      by : (n t : Bool) → AreLeft (by_hand_up_to mark gapped) (by_hand_up_to mark (cond n (cond t gapped (with_change size (entry_word e) gapped)) (with_new_day size e gapped)))
      by true true = left_all (by_hand_up_to mark gapped)
      by true false =
          left_as (by_hand_up_to mark gapped) (by_hand_up_to mark (fitting (size - 2) gapped)) (by_hand_up_to mark (with_change size (entry_word e) gapped)) (sym (word_none mark (entry_word e) (fitting (size - 2) gapped) (entry_none e)))
          (up_to_drops mark (size - 2) gapped (fitting (size - 2) gapped) (remain_fitting (size - 2) gapped))
      by false t =
          left_as (by_hand_up_to mark gapped) (by_hand_up_to mark (fitting (size - (12 + 2 * length (day_words e))) gapped)) (by_hand_up_to mark (with_new_day size e gapped))
          (sym (up_to_append mark (fitting (size - (12 + 2 * length (day_words e))) gapped) (new_day gapped (date_of e.minute) (day_words e)) ∙ ap (λ (l : List Manual). by_hand_up_to mark (fitting (size - (12 + 2 * length (day_words e))) gapped) ++ l) day_none
          ∙ append-nil (by_hand_up_to mark (fitting (size - (12 + 2 * length (day_words e))) gapped))))
          (up_to_drops mark (size - (12 + 2 * length (day_words e))) gapped (fitting (size - (12 + 2 * length (day_words e))) gapped) (remain_fitting (size - (12 + 2 * length (day_words e))) gapped))

  abbrev Left : List Day → Type 0
  Left kept = AreLeft (by_hand_up_to mark b.days) (by_hand_up_to mark kept)

  entered_all : Left (entered_days size e gapped)
  entered_all = left_then (by_hand_up_to mark b.days) (by_hand_up_to mark gapped) (by_hand_up_to mark (entered_days size e gapped)) gap_left entered_left

  before_left : (registration : Registration) (odometer more : ℕ) (kept : List Day) → IsBeforeMark size b (with_entry size registration odometer more b e) e kept → Left kept
  before_left registration odometer more kept moment = ⊎_elim
      (λ gap. ⊎_elim (λ same. subst Left (sym same) (left_all (by_hand_up_to mark b.days))) (λ gone. up_to_drops mark (size - 2) b.days kept gone.2) gap)
      (λ rest. ⊎_elim
      (λ words. ⊎_elim
      (λ same. subst Left (sym same) gap_left)
      (λ gone. left_then (by_hand_up_to mark b.days) (by_hand_up_to mark gapped) (by_hand_up_to mark kept) gap_left (up_to_drops mark _ gapped kept gone.1)) words)
      (λ last. ⊎_elim
      (λ word. subst Left (sym word) entered_all)
      (λ km. subst Left (sym km) (left_as (by_hand_up_to mark b.days) (by_hand_up_to mark (entered_days size e gapped)) (by_hand_up_to mark (travelled more (entered_days size e gapped))) (sym (up_to_km mark more (entered_days size e gapped))) entered_all))
      last) rest) moment

  pub keep_left : (registration : Registration) (odometer more : ℕ) (ds : List Day) (v : Vehicles) → IsKeepMoment size registration odometer more e b ds v → Left ds
  keep_left registration odometer more ds v moment = ⊎_elim
      (λ old. before_left registration odometer more ds old.1)
      (λ new. before_left registration odometer more ds (inr (inr (inr new.0)))) moment
