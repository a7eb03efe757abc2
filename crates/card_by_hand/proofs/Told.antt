-- A card's days with an entry by hand more tell of all those whose day is there.
use Rattle.std.proofs.Common.{◌≡◌, inr, ⊎_elim, ℕ, suc, ◌+◌, ◌-◌, ◌*◌, ◌/◌, ◌%◌, ◌<◌, ◌≤◌, Bool, true, false, cond, ◌||◌, List, [], ◌∷◌, ◌++◌, length, refl, sym, ◌∙◌, ap, subst, arith, append-nil}
use Rattle.std.specs.Prelude.{◌&&◌, nat_eq, nat_lt}
use Rattle.std.proofs.lemmas.Bool.{lt-leb}
use Rattle.std.proofs.lemmas.Bool.Decides.{nat_tests}
use Rattle.activity_codec.specs.Words.{word_minute}
use Rattle.activity_codec.specs.declared.entries.Entry.{Entry}
use Rattle.activity_codec.specs.declared.entries.Manual.{Manual}
use Rattle.activity_codec.specs.declared.values.Activity.TheVariants.{Rest}
use Rattle.card_session.specs.tacho_types.declared.texts.Registration.{Registration}
use Rattle.card_session.specs.card_model.Days.{Day, AreDays}
use Rattle.card_session.specs.card_model.Changes.{Remain, OnNewest, fitting, with_newest, with_word, new_day, date_of}
use Rattle.card_session.proofs.card_model.Retention.{remain_fitting, remain_some}
use Rattle.card_session.specs.card_retention.Expected.{WordDay, is_newest}
use Rattle.card_session.specs.card_retention.Shown.{sizes, is_open}
use Rattle.card_session.specs.card_retention.Retains.{is_day}
use Rattle.card_session.specs.card_retention.ByHand.{hands_in}
use Rattle.card_session.proofs.card_retention.Entering.{date_newest}
use Rattle.card_session.proofs.card_retention.Listing.{days_word}
use Rattle.hand_model.specs.Manual.{manual_word, is_by_hand, tells_by_hand}
use Rattle.hand_model.specs.ByHand.{words_by_hand, by_hand_up_to, TellsHands, HandsBefore}
use Rattle.hand_model.proofs.Lists.{one_more, up_to_append}
use Rattle.hand_model.proofs.Words.{minute_is}
use Rattle.hand_model.proofs.Told.{in_append, in_same, in_day, tells_left}
use Rattle.card_session.specs.Vehicles.{Vehicles}
use Rattle.card_session.specs.Books.{Book, mark_of, latest_of, closing_word, entry_word, bare_word, day_words, tells_state, with_change, gap_closed, entered_days, with_new_day, travelled, with_entry}
use Rattle.card_session.specs.Moments.{IsBeforeMark, IsKeepMoment}
use Rattle.card_session.specs.ByHand.{words_from, with_day_from, with_word_at}
use Rattle.card_session.proofs.Preparing.{on_as}
use Rattle.card_by_hand.proofs.Listed.{up_to_word, this_one, begun_one, word_none, up_to_km, closing_none, entry_none, day_none}

-- the newest day is there
day_on : (k : ℕ) (ds : List Day) → OnNewest (λ d. d.date ≡ k * 86400) ds → is_day k (sizes ds) ≡ true
day_on k [] on = absurd on
day_on k (d ∷ []) on = one (nat_eq (d.date / 86400) k) (same (d.date / 86400) k (omega (arith, on)))
  where
    same : (m n : ℕ) → m ≡ n → nat_eq m n ≡ true
    same m n is = grind (arith, nat_tests)

    one : (b : Bool) → b ≡ true → b || false ≡ true
    one true is = refl
    one false is = is
day_on k (d ∷ e ∷ ds) on = further (nat_eq (d.date / 86400) k) (is_day k (sizes (e ∷ ds))) (day_on k (e ∷ ds) on)
  where
    further : (a b : Bool) → b ≡ true → a || b ≡ true
    further true b is = refl
    further false b is = is

day_last : (k : ℕ) (ds : List Day) (d : Day) → d.date ≡ k * 86400 → is_day k (sizes (ds ++ d ∷ [])) ≡ true
day_last k [] d at = day_on k (d ∷ []) at
day_last k (e ∷ ds) d at = further (nat_eq (e.date / 86400) k) (is_day k (sizes (ds ++ d ∷ []))) (day_last k ds d at)
  where
    further : (a b : Bool) → b ≡ true → a || b ≡ true
    further true b is = refl
    further false b is = is

one_in : (ws : List WordDay) (e : Manual) → is_day (e.minute / 1440) ws ≡ true → hands_in ws (e ∷ []) ≡ e ∷ []
one_in ws e is = ap (λ (b : Bool). cond b (e ∷ []) []) is

-- a day of a minute is later than those of all that are before its day
before_date : (minute : ℕ) (all : List Manual) → HandsBefore (minute / 1440) all → HandsBefore (date_of minute / 86400) all
before_date minute all before =
    let same : minute / 1440 ≡ date_of minute / 86400 = omega arith in
    subst (λ (k : ℕ). HandsBefore k all) same before

module _ (size : ℕ) (long : 5544 ≤ size) (days : List Day) (ordered : AreDays 0 days) (e : Manual) (mark : ℕ) (all : List Manual) (clear : is_newest (e.minute / 1440) (sizes days) ≡ false → HandsBefore (e.minute / 1440) all)
    (tells : TellsHands mark all days) where
  abbrev w : ℕ
  w = manual_word e

  abbrev fewer : List Day
  fewer = fitting (size - 2) days

  abbrev worded : List Day
  worded = with_newest (with_word (manual_word e)) (fitting (size - 2) days)

  abbrev room : ℕ
  room = size - (12 + 2 * length (words_from e.minute (manual_word e)))

  abbrev older : List Day
  older = fitting (size - (12 + 2 * length (words_from e.minute (manual_word e)))) days

  abbrev young : Day
  young = new_day days (date_of e.minute) (words_from e.minute (manual_word e))

  -- drops
  pub tells_drops : (less : ℕ) (kept : List Day) → Remain less days kept → TellsHands mark all kept
  tells_drops less kept left = tells_left mark less 0 all days kept ordered left tells

  dated : is_newest (e.minute / 1440) (sizes days) ≡ true → OnNewest (λ d. d.date ≡ e.minute / 1440 * 86400) (fitting (size - 2) days)
  dated is = remain_some (λ d. d.date ≡ e.minute / 1440 * 86400) (size - 2) 0 days (fitting (size - 2) days) (omega (arith, long)) ordered (remain_fitting (size - 2) days) (date_newest (e.minute / 1440) 0 days ordered is)

  same_days : hands_in (sizes worded) all ≡ hands_in (sizes fewer) all
  same_days = in_same (sizes worded) (sizes fewer) (λ k. days_word (manual_word e) k fewer) all

  less_days : is_newest (e.minute / 1440) (sizes days) ≡ false → hands_in (sizes (older ++ young ∷ [])) all ≡ hands_in (sizes older) all
  less_days is = in_day all older young (before_date e.minute all (clear is))

  -- ---- by a mark that the entry is not behind

  module _ (low : e.minute ≤ mark) where
    -- a word on the newest day
    on_newest : is_newest (e.minute / 1440) (sizes days) ≡ true → TellsHands mark (all ++ e ∷ []) (with_change size (manual_word e) days)
    on_newest is =
        up_to_word mark w fewer (e ∷ []) (on_as (λ d. d.date ≡ e.minute / 1440 * 86400) (λ d. one_more mark d.date w ≡ e ∷ []) fewer (λ d date. this_one size long days ordered e mark low d.date date) (dated is))
        ∙ ap (λ (l : List Manual). l ++ e ∷ []) (tells_drops (size - 2) fewer (remain_fitting (size - 2) days) ∙ sym same_days)
        ∙ ap (λ (l : List Manual). hands_in (sizes worded) all ++ l) (sym (one_in (sizes worded) e (days_word (manual_word e) (e.minute / 1440) fewer ∙ day_on (e.minute / 1440) fewer (dated is))))
        ∙ sym (in_append (sizes worded) all (e ∷ []))

    -- its day
    on_day : is_newest (e.minute / 1440) (sizes days) ≡ false → TellsHands mark (all ++ e ∷ []) (with_day_from size e.minute (manual_word e) days)
    on_day is =
        up_to_append mark older young
        ∙ ap (λ (l : List Manual). by_hand_up_to mark older ++ l) (begun_one size long days ordered e mark low)
        ∙ ap (λ (l : List Manual). l ++ e ∷ []) (tells_drops room older (remain_fitting room days) ∙ sym (less_days is))
        ∙ ap (λ (l : List Manual). hands_in (sizes (older ++ young ∷ [])) all ++ l) (sym (one_in (sizes (older ++ young ∷ [])) e (day_last (e.minute / 1440) older young refl)))
        ∙ sym (in_append (sizes (older ++ young ∷ [])) all (e ∷ []))

    pub tells_more : TellsHands mark (all ++ e ∷ []) (with_word_at size e.minute (manual_word e) days)
    tells_more = by (is_newest (e.minute / 1440) (sizes days)) refl
      where
        by : (n : Bool) → is_newest (e.minute / 1440) (sizes days) ≡ n → TellsHands mark (all ++ e ∷ []) (cond n (with_change size (manual_word e) days) (with_day_from size e.minute (manual_word e) days))
        by true is = on_newest is
        by false is = on_day is

  -- ---- by a mark that it is behind

  module _ (late : mark < e.minute) where
    none_at : (date : ℕ) → date ≡ date_of e.minute → one_more mark date (manual_word e) ≡ []
    none_at date is =
        ap (λ (b : Bool). cond (is_by_hand (manual_word e) && b) (tells_by_hand date (manual_word e) ∷ []) []) (lt-leb (date / 60 + word_minute (manual_word e)) mark (omega (arith, late, is, minute_is e)))
        ∙ none (is_by_hand (manual_word e))
      where
        none : (h : Bool) → cond (h && false) (tells_by_hand date (manual_word e) ∷ []) [] ≡ []
        none true = refl
        none false = refl

    begun_none : words_by_hand mark (date_of e.minute) (words_from e.minute (manual_word e)) ≡ []
    begun_none = by (nat_eq (e.minute % 1440) 0)
      where
        by : (b : Bool) → words_by_hand mark (date_of e.minute) (cond b (manual_word e ∷ []) (bare_word ∷ manual_word e ∷ [])) ≡ []
        by true = none_at (date_of e.minute) refl
        by false = none_at (date_of e.minute) refl

    behind_newest : is_newest (e.minute / 1440) (sizes days) ≡ true → TellsHands mark all (with_change size (manual_word e) days)
    behind_newest is =
        up_to_word mark w fewer [] (on_as (λ d. d.date ≡ e.minute / 1440 * 86400) (λ d. one_more mark d.date w ≡ []) fewer (λ d date. none_at d.date date) (dated is))
        ∙ append-nil (by_hand_up_to mark fewer) ∙ tells_drops (size - 2) fewer (remain_fitting (size - 2) days) ∙ sym same_days

    behind_day : is_newest (e.minute / 1440) (sizes days) ≡ false → TellsHands mark all (with_day_from size e.minute (manual_word e) days)
    behind_day is =
        up_to_append mark older young ∙ ap (λ (l : List Manual). by_hand_up_to mark older ++ l) begun_none ∙ append-nil (by_hand_up_to mark older)
        ∙ tells_drops room older (remain_fitting room days) ∙ sym (less_days is)

    pub tells_still : TellsHands mark all (with_word_at size e.minute (manual_word e) days)
    tells_still = by (is_newest (e.minute / 1440) (sizes days)) refl
      where
        by : (n : Bool) → is_newest (e.minute / 1440) (sizes days) ≡ n → TellsHands mark all (cond n (with_change size (manual_word e) days) (with_day_from size e.minute (manual_word e) days))
        by true is = behind_newest is
        by false is = behind_day is

-- ---- A KEEP tells none more, and those whose day is there still, at each of its moments

days_km : (more k : ℕ) (ds : List Day) → is_day k (sizes (travelled more ds)) ≡ is_day k (sizes ds)
days_km more k [] = refl
days_km more k (d ∷ []) = refl
days_km more k (d ∷ e ∷ []) = refl
days_km more k (d ∷ e ∷ f ∷ ds) = ap (λ (b : Bool). nat_eq (d.date / 86400) k || b) (days_km more k (e ∷ f ∷ ds))

-- a word that is none
pub word_tells : (mark w : ℕ) (all : List Manual) (ds : List Day) → is_by_hand w ≡ false → TellsHands mark all ds → TellsHands mark all (with_newest (with_word w) ds)
word_tells mark w all ds is tells = word_none mark w ds is ∙ tells ∙ sym (in_same (sizes (with_newest (with_word w) ds)) (sizes ds) (λ k. days_word w k ds) all)

km_tells : (mark more : ℕ) (all : List Manual) (ds : List Day) → TellsHands mark all ds → TellsHands mark all (travelled more ds)
km_tells mark more all ds tells = up_to_km mark more ds ∙ tells ∙ sym (in_same (sizes (travelled more ds)) (sizes ds) (λ k. days_km more k ds) all)

module _ (size : ℕ) (mark : ℕ) (b : Book) (e : Entry) (ordered : AreDays 0 b.days) (behind : AreDays 0 (gap_closed size (mark_of b) e.minute b.days)) (all : List Manual)
    (clear : is_newest (e.minute / 1440) (sizes (gap_closed size (mark_of b) e.minute b.days)) ≡ false → HandsBefore (e.minute / 1440) all) (tells : TellsHands mark all b.days) where
  abbrev gapped : List Day
  gapped = gap_closed size (mark_of b) e.minute b.days

  left_of : (room : ℕ) (ds kept : List Day) → AreDays 0 ds → Remain room ds kept → TellsHands mark all ds → TellsHands mark all kept
  left_of room ds kept are left t = tells_left mark room 0 all ds kept are left t

  gap_tells : TellsHands mark all (gap_closed size (mark_of b) e.minute b.days)
  gap_tells = by (is_open (mark_of b) b.days && nat_lt (suc (mark_of b)) e.minute)
    where
      by : (g : Bool) → TellsHands mark all (cond g (with_newest (with_word (closing_word (suc (mark_of b)) Rest (latest_of b.days))) (fitting (size - 2) b.days)) b.days)
      by true =
          word_tells mark (closing_word (suc (mark_of b)) Rest (latest_of b.days)) all (fitting (size - 2) b.days) (closing_none (suc (mark_of b)) Rest (latest_of b.days))
          (left_of (size - 2) b.days (fitting (size - 2) b.days) ordered (remain_fitting (size - 2) b.days) tells)
      by false = tells

  entered_tells : TellsHands mark all (entered_days size e (gap_closed size (mark_of b) e.minute b.days))
  entered_tells = by (is_newest (e.minute / 1440) (sizes gapped)) (tells_state e gapped) refl
    where
      by : (n t : Bool) → is_newest (e.minute / 1440) (sizes gapped) ≡ n → TellsHands mark all (cond n (cond t gapped (with_change size (entry_word e) gapped)) (with_new_day size e gapped))
      by true true is = gap_tells
      by true false is = word_tells mark (entry_word e) all (fitting (size - 2) gapped) (entry_none e) (left_of (size - 2) gapped (fitting (size - 2) gapped) behind (remain_fitting (size - 2) gapped) gap_tells)
      by false t is =
          let room = size - (12 + 2 * length (day_words e)) in
          let young = new_day gapped (date_of e.minute) (day_words e) in
          up_to_append mark (fitting room gapped) young ∙ ap (λ (l : List Manual). by_hand_up_to mark (fitting room gapped) ++ l) (day_none size mark b e) ∙ append-nil (by_hand_up_to mark (fitting room gapped))
          ∙ left_of room gapped (fitting room gapped) behind (remain_fitting room gapped) gap_tells
          ∙ sym (in_day all (fitting room gapped) young (before_date e.minute all (clear is)))

  before_tells : (registration : Registration) (odometer more : ℕ) (kept : List Day) → IsBeforeMark size b (with_entry size registration odometer more b e) e kept → TellsHands mark all kept
  before_tells registration odometer more kept moment = ⊎_elim
      (λ gap. ⊎_elim (λ same. subst (TellsHands mark all) (sym same) tells) (λ gone. left_of (size - 2) b.days kept ordered gone.2 tells) gap)
      (λ rest. ⊎_elim
      (λ words. ⊎_elim
      (λ same. subst (TellsHands mark all) (sym same) gap_tells)
      (λ gone. left_of _ gapped kept behind gone.1 gap_tells) words)
      (λ late. ⊎_elim
      (λ word. subst (TellsHands mark all) (sym word) entered_tells)
      (λ km. subst (TellsHands mark all) (sym km) (km_tells mark more all (entered_days size e gapped) entered_tells)) late) rest) moment

  pub keep_tells : (registration : Registration) (odometer more : ℕ) (ds : List Day) (v : Vehicles) → IsKeepMoment size registration odometer more e b ds v → TellsHands mark all ds
  keep_tells registration odometer more ds v moment = ⊎_elim
      (λ old. before_tells registration odometer more ds old.1)
      (λ new. before_tells registration odometer more ds (inr (inr (inr new.0)))) moment
