-- The newest minute of a card at each moment of a keep, and of a withdrawal.
use Rattle.std.proofs.Common.{◌≡◌, inl, inr, ⊎_elim, ℕ, suc, ◌-◌, ◌*◌, ◌/◌, ◌≤◌, max, Bool, true, false, cond, Some, List, [], ◌∷◌, refl, sym, ◌∙◌, ap, subst, arith}
use Rattle.std.specs.Prelude.{◌⊎◌, nat_le}
use Rattle.std.proofs.lemmas.Bool.{cases_lt}
use Rattle.std.proofs.lemmas.Bool.Decides.{nat_tests}
use Rattle.activity_codec.specs.declared.values.Activity.{Activity}
use Rattle.activity_codec.specs.declared.entries.Entry.{Entry}
use Rattle.activity_codec.specs.Words.{word_absent}
use Rattle.tacho_types.specs.declared.texts.Registration.{Registration}
use Rattle.card_layout.specs.declared.files.Application.{Application}
use Rattle.card_layout.specs.Application.{IsApplication}
use Rattle.card_days.specs.card_model.Days.{Day, AreDays, last_word}
use Rattle.card_days.specs.card_model.Changes.{Remain, OnNewest, fitting, with_newest, with_word, until, cut, date_of, trimmed}
use Rattle.card_days.proofs.card_model.Retention.{remain_fitting, remain_some}
use Rattle.card_days.proofs.card_model.Trims.{trimmed_word, trimmed_day, trimmed_cases}
use Rattle.card_validity.specs.card_retention.Shown.{is_open, Tells}
use Rattle.card_validity.specs.card_retention.Entries.{newest_minute, newest_word, closed_at}
use Rattle.card_validity.proofs.card_retention.Entering.{on_word, last_append}
use Rattle.card_validity.proofs.card_retention.Flat.{Ends}
use Rattle.card_validity.proofs.card_retention.Moments.{kept_newest}
use Rattle.card_validity.proofs.card_retention.Newest.{at_mark}
use Rattle.card_validity.proofs.card_retention.Stops.{absent_shut}
use Rattle.card_validity.specs.card_image.Fields.{card_days, end_mark}
use Rattle.card_validity.specs.card_image.View.{card_view}
use Rattle.card_session.specs.Vehicles.{Vehicles, last_use_in}
use Rattle.card_session.specs.Books.{Book, mark_of, latest_of, closing_word, with_change, gap_closed, closed_days, closed, last_used, entered_days, travelled, with_entry}
use Rattle.card_session.specs.Sessions.{IsOpenBook, newest_in, book_of}
use Rattle.card_session.specs.Moments.{IsBook, IsBeforeMark, IsKeepMoment, IsClosingWord, IsCloseMoment}
use Rattle.card_session.specs.Cards.{IsCard}
use Rattle.card_session.specs.Parts.{IsBeforeGapOf}
use Rattle.card_session.proofs.Preparing.{gap_are, gap_ready, words_last, open_date, used_at, entry_last, use_at}
use Rattle.card_session.proofs.Lasting.{entered_as}
use Rattle.card_session.proofs.Alike.{Alike, alike_km, are_bare, trimmed_alike, open_alike, word_alike}
use Rattle.card_session.proofs.Marks.{mark_told, use_before}
use Rattle.card_session.proofs.OnMark.{begun_newest, newest_of_before}
use Rattle.card_session.proofs.Surviving.{Survives, keep_survives_begun, closing_survives}
use Rattle.card_session.proofs.Stopping.{book_days, mark_at, before_use, mark_moves, used_whole, closing_absent}
use Rattle.card_session.proofs.Valid.{flat_of, closing_newest}
use Rattle.card_session.proofs.InsertingBooks.{trimmed_low}
use Rattle.card_session.proofs.Committed.{entered_tells}

-- the newest minute as a mark trims it
abbrev pub newest_by_mark : ℕ → List Day → ℕ
newest_by_mark m ds = newest_minute m (trimmed m ds)

-- no day is later than the mark's
abbrev Low : ℕ → List Day → Type 0
Low m [] = Unit {0}
Low m (d ∷ []) = d.date ≤ date_of m
Low m (d ∷ e ∷ ds) = Low m (e ∷ ds)

abbrev HasNewest : (m n : ℕ) → List Day → Type 0
HasNewest m n ds = (newest_by_mark m ds ≡ n) × Low m ds

low_of : (m date : ℕ) (ds : List Day) → AreDays date ds → newest_word ds ≤ m → Low m ds
low_of m date [] are low = tt
low_of m date (d ∷ []) are low = omega (arith, low, are.1.midnight)
low_of m date (d ∷ e ∷ ds) are low = low_of m d.date (e ∷ ds) are.2 low

first_low : (m date : ℕ) (d : Day) (ds : List Day) → AreDays date (d ∷ ds) → Low m (d ∷ ds) → d.date ≤ date_of m
first_low m date d [] are low = low
first_low m date d (e ∷ ds) are low = let rest = first_low m d.date e ds are.2 low in omega (arith, are.2.0, rest)

some_left : (m : ℕ) (d : Day) (ds : List Day) → d.date ≤ date_of m → trimmed m (d ∷ ds) ≡ [] → ⊥
some_left m d ds le none = by (nat_le d.date (date_of m)) (until (date_of m) ds) (le_is d.date (date_of m) le) none
  where
    le_is : (p q : ℕ) → p ≤ q → nat_le p q ≡ true
    le_is p q le = grind (arith, nat_tests)

    by : (b : Bool) (us : List Day) → b ≡ true → with_newest (cut m) (cond b (d ∷ us) []) ≡ [] → ⊥
    by false us is none = cc
    by true [] is none = cc
    by true (u ∷ us) is none = cc

-- ---- as long as the end mark stays

newest_drop : (m n date : ℕ) (d e : Day) (ds : List Day) → AreDays date (d ∷ e ∷ ds) → Low m (e ∷ ds) → newest_by_mark m (d ∷ e ∷ ds) ≡ n → newest_by_mark m (e ∷ ds) ≡ n
newest_drop m n date d e ds are low is = ⊎_elim
    (λ none. absurd (some_left m e ds (first_low m d.date e ds are.2 low) none.0))
    (λ t. ap (newest_minute m) t.less ∙ sym (ap (newest_minute m) t.whole) ∙ is)
    (trimmed_cases m date d (e ∷ ds) are)

newest_drops : (m n room date : ℕ) (days kept : List Day) → 2894 ≤ room → AreDays date days → Remain room days kept → HasNewest m n days → HasNewest m n kept
newest_drops m n room date [] kept wide are left q = subst (λ (l : List Day). HasNewest m n l) (sym left) q
newest_drops m n room date (d ∷ []) kept wide are left q = ⊎_elim
    (λ same. subst (λ (l : List Day). HasNewest m n l) (sym same) q)
    (λ gone. absurd (omega (arith, gone.0, wide, are.1.most))) left
newest_drops m n room date (d ∷ e ∷ ds) kept wide are left q = ⊎_elim
    (λ same. subst (λ (l : List Day). HasNewest m n l) (sym same) q)
    (λ gone. newest_drops m n room d.date (e ∷ ds) kept wide are.2 gone.1 (newest_drop m n date d e ds are q.1 q.0, q.1)) left

low_word : (m w : ℕ) (ds : List Day) → Low m ds → Low m (with_newest (with_word w) ds)
low_word m w [] low = tt
low_word m w (d ∷ []) low = low
low_word m w (d ∷ e ∷ []) low = low
low_word m w (d ∷ e ∷ f ∷ ds) low = low_word m w (e ∷ f ∷ ds) low

newest_alike : (m : ℕ) (ds fs : List Day) → Alike ds fs → newest_minute m fs ≡ newest_minute m ds
newest_alike m ds fs a =
    ap (λ (o : Bool). cond o (suc m) (max m (newest_word fs))) (open_alike m ds fs a) ∙ ap (λ (w : ℕ). cond (is_open m ds) (suc m) (max m w)) (word_alike ds fs a)

newest_survives : (mark n : ℕ) → Survives mark (HasNewest mark n) (λ ds. newest_by_mark mark ds ≡ n)
newest_survives mark n = record {
  drops = λ room days kept wide are left q. newest_drops mark n room 0 days kept wide are left q;
  word = λ w days are on q. (ap (newest_minute mark) (trimmed_word mark w days on) ∙ q.0, low_word mark w days q.1);
  still = λ days q. q.0;
  day = λ days d midnight later q. ap (newest_minute mark) (trimmed_day mark days d later) ∙ q.0;
  alike = λ days kept a is. newest_alike mark (trimmed mark days) (trimmed mark kept) (trimmed_alike mark days kept a) ∙ is;
}

-- ---- it is at most the minute after the end mark

pub newest_bound : (m : ℕ) (ds : List Day) → AreDays 0 ds → newest_by_mark m ds ≤ suc m
newest_bound m ds are = by (is_open m (trimmed m ds))
  where
    by : (o : Bool) → cond o (suc m) (max m (newest_word (trimmed m ds))) ≤ suc m
    by true = omega arith
    by false = omega (arith, trimmed_low m ds are)

ends_on : (e : Entry) (ds : List Day) → Tells e ds → newest_word ds ≤ e.minute → OnNewest (Ends e.minute) ds
ends_on e [] tells low = absurd tells
ends_on e (d ∷ []) tells low = record { day = tells.date; last = omega (arith, tells.date, low) }
ends_on e (d ∷ f ∷ ds) tells low = ends_on e (f ∷ ds) tells low

-- ---- of a book: an entry

module _ (size : ℕ) (long : 5544 ≤ size) (b : Book) (ordered : AreDays 0 b.days) (registration : Registration) (odometer more : ℕ) (e : Entry) (before : IsBeforeGapOf e.minute b) where
  abbrev gapped : List Day
  gapped = gap_closed size (mark_of b) e.minute b.days

  are : AreDays 0 gapped
  are = gap_are size long b ordered e.minute before

  newest_stays : newest_word b.days ≤ mark_of b → (kept : List Day)
      → IsBeforeMark size b (with_entry size registration odometer more b e) e kept → newest_by_mark (mark_of b) kept ≡ newest_by_mark (mark_of b) b.days
  newest_stays low kept moment =
      keep_survives_begun size long b ordered (HasNewest (mark_of b) (newest_by_mark (mark_of b) b.days)) (λ ds. newest_by_mark (mark_of b) ds ≡ newest_by_mark (mark_of b) b.days) (newest_survives (mark_of b) (newest_by_mark (mark_of b) b.days))
      (refl, low_of (mark_of b) 0 b.days ordered low) e before (λ days d on q. begun_newest (mark_of b) days d on ∙ sym (newest_of_before (mark_of b) days on.are on.before) ∙ q.0) registration odometer more kept moment

  entered_newest : AreDays 0 (travelled more (entered_days size e gapped)) → newest_by_mark e.minute (travelled more (entered_days size e gapped)) ≡ closed_at (Some e)
  entered_newest whole =
      let tells : Tells e (entered_days size e gapped) = entered_tells size long e gapped (entered_days size e gapped) are (entered_as size e gapped are) in
      let last = words_last size long (record { days = gapped; vehicles = b.vehicles }) are e (gap_ready size long b ordered e.minute before e refl) in
      newest_alike e.minute (trimmed e.minute (entered_days size e gapped)) (trimmed e.minute (travelled more (entered_days size e gapped)))
      (trimmed_alike e.minute (entered_days size e gapped) (travelled more (entered_days size e gapped)) (alike_km more (entered_days size e gapped)))
      ∙ ap (newest_minute e.minute) (flat_of e.minute 0 (entered_days size e gapped) (are_bare more 0 (entered_days size e gapped) whole) last.0)
      ∙ kept_newest e (entered_days size e gapped) tells (ends_on e (entered_days size e gapped) tells last.0)

  -- with the entry it is that of its closing word
  pub next_newest : AreDays 0 (with_entry size registration odometer more b e).days → newest_by_mark e.minute (with_entry size registration odometer more b e).days ≡ closed_at (Some e)
  next_newest whole = entered_newest whole

  -- and no word is later than the entry
  pub next_low : newest_word (with_entry size registration odometer more b e).days ≤ e.minute
  next_low =
      let last = entry_last size long registration odometer more e b ordered before in
      let in_ : max (mark_of (with_entry size registration odometer more b e)) (newest_word (with_entry size registration odometer more b e).days) ≡ e.minute = last.1 in
      omega (arith, in_)

  -- AT EACH MOMENT it is the one or the other
  pub keep_newest : newest_word b.days ≤ mark_of b → (ds : List Day) (v : Vehicles) → AreDays 0 ds
      → IsKeepMoment size registration odometer more e b ds v
      → ((last_use_in v ≡ last_use_in b.vehicles) × (newest_by_mark (mark_of b) ds ≡ newest_by_mark (mark_of b) b.days)) ⊎ ((last_use_in v ≡ 60 * e.minute) × (newest_by_mark e.minute ds ≡ closed_at (Some e)))
  keep_newest low ds v whole (inl old) = inl (ap last_use_in old.0, newest_stays low ds old.1)
  keep_newest low ds v whole (inr new) = ⊎_elim
      (λ unused. inl (use_before registration odometer e.minute b.vehicles v unused, newest_stays low ds (inr (inr (inr new.0)))))
      (λ used. inr (
        ap last_use_in used ∙ use_at registration odometer e.minute b.vehicles,
        ap (newest_by_mark e.minute) new.0 ∙ entered_newest (subst (λ (l : List Day). AreDays 0 l) new.0 whole),
      ))
      new.1

-- ---- of a book: a closing word

pub word_drops : (room date : ℕ) (days kept : List Day) → 2894 ≤ room → AreDays date days → Remain room days kept → newest_word kept ≡ newest_word days
word_drops room date [] kept wide are left = ap newest_word left
word_drops room date (d ∷ []) kept wide are left = ⊎_elim (λ same. ap newest_word same) (λ gone. absurd (omega (arith, gone.0, wide, are.1.most))) left
word_drops room date (d ∷ e ∷ ds) kept wide are left = ⊎_elim (λ same. ap newest_word same) (λ gone. word_drops room d.date (e ∷ ds) kept wide are.2 gone.1) left

-- The newest minute stays; the last use stays or is that minute's; and no word is later than those of before and that minute.
pub record Rewrites (b : Book) (ds : List Day) (v : Vehicles) : Type 0 where
  pub newest : newest_by_mark (last_use_in v / 60) ds ≡ newest_by_mark (mark_of b) b.days
  pub used : (last_use_in v ≡ last_use_in b.vehicles) ⊎ (last_use_in v ≡ 60 * newest_by_mark (mark_of b) b.days)
  pub word : newest_word ds ≤ max (newest_word b.days) (newest_by_mark (mark_of b) b.days)

module _ (size : ℕ) (long : 5544 ≤ size) (b : Book) (ordered : AreDays 0 b.days) (act : Activity) (may : IsOpenBook b) where
  abbrev w : ℕ
  w = closing_word (suc (mark_of b)) act (latest_of b.days)

  abbrev marked : Book
  marked = record { days = closed_days size (mark_of b) act b.days; vehicles = last_used (60 * suc (mark_of b)) b.vehicles }

  changed : is_open (mark_of b) b.days ≡ true → closed_days size (mark_of b) act b.days ≡ with_change size w b.days
  changed is = ap (λ (o : Bool). cond o (with_change size w b.days) b.days) is

  pub open_low : is_open (mark_of b) b.days ≡ true → newest_word b.days ≤ mark_of b
  open_low is = (at_mark (mark_of b) 0 b.days ordered may.ends is).word

  open_newest : is_open (mark_of b) b.days ≡ true → newest_by_mark (mark_of b) b.days ≡ suc (mark_of b)
  open_newest is =
      ap (newest_minute (mark_of b)) (flat_of (mark_of b) 0 b.days ordered (open_low is))
      ∙ ap (λ (o : Bool). cond o (suc (mark_of b)) (max (mark_of b) (newest_word b.days))) is

  last_is : is_open (mark_of b) b.days ≡ true → newest_word (with_change size w b.days) ≡ suc (mark_of b)
  last_is is = closing_newest size long b ordered act may is

  change_shut : (m : ℕ) → is_open (mark_of b) b.days ≡ true → is_open m (with_change size w b.days) ≡ false
  change_shut m is =
      absent_shut m (with_change size w b.days)
      (on_word (λ d. d.date ≡ date_of (suc (mark_of b))) (λ d. word_absent (last_word d.words) ≡ true) w (fitting (size - 2) b.days)
      (λ d date. ap word_absent (last_append d.words w) ∙ closing_absent (suc (mark_of b)) act (latest_of b.days))
      (remain_some (λ d. d.date ≡ date_of (suc (mark_of b))) (size - 2) 0 b.days (fitting (size - 2) b.days) (omega (arith, long)) ordered (remain_fitting (size - 2) b.days) (open_date (mark_of b) b.days is)))

  change_newest : AreDays 0 (with_change size w b.days) → is_open (mark_of b) b.days ≡ true → newest_by_mark (suc (mark_of b)) (with_change size w b.days) ≡ suc (mark_of b)
  change_newest whole is =
      let flat : trimmed (suc (mark_of b)) (with_change size w b.days) ≡ with_change size w b.days = flat_of (suc (mark_of b)) 0 (with_change size w b.days) whole (omega (arith, last_is is)) in
      let most : max (suc (mark_of b)) (newest_word (with_change size w b.days)) ≡ suc (mark_of b) = omega (arith, last_is is) in
      ap (newest_minute (suc (mark_of b))) flat
      ∙ ap (λ (o : Bool). cond o (suc (suc (mark_of b))) (max (suc (mark_of b)) (newest_word (with_change size w b.days)))) (change_shut (suc (mark_of b)) is)
      ∙ most

  use_moves : is_open (mark_of b) b.days ≡ true → last_use_in (last_used (60 * suc (mark_of b)) b.vehicles) ≡ 60 * suc (mark_of b)
  use_moves is = used_whole b.vehicles (mark_of b) (mark_moves b ordered is)

  -- the end mark is the old one
  waiting : (ds : List Day) (v : Vehicles) → v ≡ b.vehicles → IsClosingWord size act b ds → Rewrites b ds v
  waiting ds v same moment = record {
    newest = ap (λ (o : Vehicles). newest_by_mark (last_use_in o / 60) ds) same ∙ newest;
    used = inl (ap last_use_in same);
    word = word;
  }
    where
      newest : newest_by_mark (mark_of b) ds ≡ newest_by_mark (mark_of b) b.days
      newest = ⊎_elim
          (λ still. ap (newest_by_mark (mark_of b)) still)
          (λ rest.
          closing_survives size long b ordered (HasNewest (mark_of b) (newest_by_mark (mark_of b) b.days)) (λ ds. newest_by_mark (mark_of b) ds ≡ newest_by_mark (mark_of b) b.days) (newest_survives (mark_of b) (newest_by_mark (mark_of b) b.days))
          (refl, low_of (mark_of b) 0 b.days ordered (open_low rest.0)) act ds (inr rest)) moment

      word : newest_word ds ≤ max (newest_word b.days) (newest_by_mark (mark_of b) b.days)
      word = ⊎_elim
          (λ still. let is : newest_word ds ≡ newest_word b.days = ap newest_word still in omega (arith, is))
          (λ rest. ⊎_elim
          (λ gone. let is : newest_word ds ≡ newest_word b.days = word_drops (size - 2) 0 b.days ds (omega (arith, long)) ordered gone in omega (arith, is))
          (λ there. let is : newest_word ds ≡ suc (mark_of b) = ap newest_word (there ∙ changed rest.0) ∙ last_is rest.0 in omega (arith, is, open_newest rest.0)) rest.1) moment

  -- or it is the closing word's
  moved : (ds : List Day) (v : Vehicles) → AreDays 0 ds → IsBook (closed size act b) ds v → Rewrites b ds v
  moved ds v whole book = by (is_open (mark_of b) b.days) refl book
    where
      by : (o : Bool) → is_open (mark_of b) b.days ≡ o → IsBook (cond o marked b) ds v → Rewrites b ds v
      by false is book = waiting ds v book.1 (inl book.0)
      by true is book =
          let days : ds ≡ with_change size w b.days = book.0 ∙ changed is in
          let seconds : last_use_in v ≡ 60 * suc (mark_of b) = ap last_use_in book.1 ∙ use_moves is in
          let mark : last_use_in v / 60 ≡ suc (mark_of b) = omega (arith, seconds) in
          let word : newest_word ds ≡ suc (mark_of b) = ap newest_word days ∙ last_is is in
          record {
            newest = ap (λ (n : ℕ). newest_by_mark n ds) mark ∙ ap (newest_by_mark (suc (mark_of b))) days ∙ change_newest (subst (λ (l : List Day). AreDays 0 l) days whole) is ∙ sym (open_newest is);
            used = inr (seconds ∙ ap (λ (n : ℕ). 60 * n) (sym (open_newest is)));
            word = omega (arith, word, open_newest is);
          }

  pub close_newest : (ds : List Day) (v : Vehicles) → AreDays 0 ds → IsCloseMoment size act b ds v → Rewrites b ds v
  close_newest ds v whole (inl old) = waiting ds v old.0 old.1
  close_newest ds v whole (inr book) = moved ds v whole book

  -- it is the newest minute that a session knows then, or a later word's that stood there
  pub closed_in : newest_in (closed size act b) ≡ max (newest_word b.days) (newest_by_mark (mark_of b) b.days)
  closed_in = by (is_open (mark_of b) b.days) refl
    where
      bare : is_open (mark_of b) b.days ≡ false → max (mark_of b) (newest_word b.days) ≡ max (newest_word b.days) (newest_by_mark (mark_of b) b.days)
      bare is = ⊎_elim
          (λ late. omega (arith, late, newest_bound (mark_of b) b.days ordered))
          (λ low.
          let at : newest_by_mark (mark_of b) b.days ≡ max (mark_of b) (newest_word b.days) =
          ap (newest_minute (mark_of b)) (flat_of (mark_of b) 0 b.days ordered low) ∙ ap (λ (o : Bool). cond o (suc (mark_of b)) (max (mark_of b) (newest_word b.days))) is in
          omega (arith, low, at))
          (cases_lt (mark_of b) (newest_word b.days))

      by : (o : Bool) → is_open (mark_of b) b.days ≡ o → newest_in (cond o marked b) ≡ max (newest_word b.days) (newest_by_mark (mark_of b) b.days)
      by false is = bare is
      by true is =
          let word : newest_word marked.days ≡ suc (mark_of b) = ap newest_word (changed is) ∙ last_is is in
          let mark : mark_of marked ≡ suc (mark_of b) = mark_moves b ordered is in
          omega (arith, word, mark, open_low is, open_newest is)

  -- and no entry is open behind it
  pub closed_open : is_open (mark_of (closed size act b)) (closed size act b).days ≡ false
  closed_open = by (is_open (mark_of b) b.days) refl
    where
      by : (o : Bool) → is_open (mark_of b) b.days ≡ o → is_open (mark_of (cond o marked b)) (cond o marked b).days ≡ false
      by false is = is
      by true is = ap (λ (ds : List Day). is_open (mark_of marked) ds) (changed is) ∙ change_shut (mark_of marked) is

-- ---- on a card, by its view

pub view_newest : (app : Application) (x : List ℕ) → (card_view app x).newest ≡ newest_by_mark (end_mark app x) (card_days app x)
unfolding card_view
view_newest app x = refl

pub view_word : (app : Application) (x : List ℕ) → (card_view app x).word ≡ newest_word (card_days app x)
unfolding card_view
view_word app x = refl

newest_at : (app : Application) (y : List ℕ) (m : ℕ) → end_mark app y ≡ m → (card_view app y).newest ≡ newest_by_mark m (book_of app y).days
newest_at app y m at = view_newest app y ∙ ap (λ (n : ℕ). newest_by_mark n (card_days app y)) at ∙ ap (newest_by_mark m) (sym (book_days app y))

module _ (app : Application) (sound : IsApplication app) (x : List ℕ) (ordered : AreDays 0 (book_of app x).days) (registration : Registration) (odometer more : ℕ) (e : Entry) (before : IsBeforeGapOf e.minute (book_of app x)) (y : List ℕ)
    (card : IsCard app (IsKeepMoment app.activity registration odometer more e (book_of app x)) x y) where
  abbrev b : Book
  b = book_of app x

  survives : newest_word b.days ≤ mark_of b → (kept : List Day) → IsBeforeMark app.activity b (with_entry app.activity registration odometer more b e) e kept → newest_by_mark (mark_of b) kept ≡ newest_by_mark (mark_of b) b.days
  survives low kept moment = newest_stays app.activity sound.string_least b ordered registration odometer more e before low kept moment

  old_newest : newest_word b.days ≤ mark_of b → end_mark app y ≡ end_mark app x → newest_by_mark (mark_of b) (book_of app y).days ≡ newest_by_mark (mark_of b) b.days
  old_newest low same = ⊎_elim
      (λ old. survives low (book_of app y).days old.1)
      (λ new. ⊎_elim
      (λ unused. survives low (book_of app y).days (inr (inr (inr new.0))))
      (λ after.
      let now : end_mark app y ≡ e.minute = mark_told app y ∙ ap (λ (o : Vehicles). last_use_in o / 60) after ∙ used_at registration odometer e.minute b.vehicles in
      let stays : end_mark app y ≡ mark_of (book_of app x) = same ∙ mark_told app x in
      absurd (omega (arith, before.1, now, stays)))
      new.1) card.told

  pub newest_before : end_mark app y ≡ end_mark app x → max (card_view app x).word (card_view app y).newest ≡ max (card_view app x).word (card_view app x).newest
  newest_before same = ⊎_elim
      (λ behind.
      let up : newest_by_mark (mark_of b) (book_of app y).days ≤ suc (mark_of b) = newest_bound (mark_of b) (book_of app y).days card.holds.ordered in
      let was : newest_by_mark (mark_of b) b.days ≤ suc (mark_of b) = newest_bound (mark_of b) b.days ordered in
      omega (arith, behind, up, was, word, now, then_))
      (λ low. ap (λ (n : ℕ). max (card_view app x).word n) (now ∙ old_newest low same ∙ sym then_))
      (cases_lt (mark_of b) (newest_word b.days))
    where
      word : (card_view app x).word ≡ newest_word (book_of app x).days
      word = view_word app x ∙ ap newest_word (sym (book_days app x))

      now : (card_view app y).newest ≡ newest_by_mark (mark_of (book_of app x)) (book_of app y).days
      now = newest_at app y (mark_of (book_of app x)) (same ∙ mark_told app x)

      then_ : (card_view app x).newest ≡ newest_by_mark (mark_of (book_of app x)) (book_of app x).days
      then_ = newest_at app x (mark_of (book_of app x)) (mark_told app x)

  -- ---- and once it has moved

  pub newest_after : end_mark app y ≡ e.minute → (card_view app y).newest ≡ closed_at (Some e)
  newest_after at = ⊎_elim
      (λ old. absurd (omega (arith, before.1, at, mark_at app b y old.0)))
      (λ new. ⊎_elim
      (λ unused. absurd (omega (arith, before.1, at, mark_told app y, before_use registration odometer e.minute b.vehicles (book_of app y).vehicles unused)))
      (λ after. newest_at app y e.minute at ∙ ap (newest_by_mark e.minute) new.0 ∙ entered_newest app.activity sound.string_least b ordered registration odometer more e before (subst (λ (ds : List Day). AreDays 0 ds) new.0 card.holds.ordered))
      new.1) card.told
