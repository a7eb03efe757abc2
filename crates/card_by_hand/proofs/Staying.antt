-- What is said of a card's days up to its end mark survives each moment of an entry by hand.
use Rattle.std.proofs.Common.{◌≡◌, ⊎_elim, ℕ, ◌+◌, ◌-◌, ◌*◌, ◌/◌, ◌%◌, ◌<◌, ◌≤◌, Bool, true, false, cond, List, [], ◌∷◌, length, refl, sym, ◌∙◌, ap, subst, arith}
use Rattle.std.specs.Prelude.{◌⊎◌, nat_eq}
use Rattle.std.proofs.lemmas.Bool.Decides.{nat_tests}
use Rattle.activity_codec.specs.declared.entries.Entry.{Entry}
use Rattle.activity_codec.specs.Words.{word_minute}
use Rattle.tach_media.specs.card_layout.declared.files.Application.{Application}
use Rattle.tach_media.specs.card_layout.Application.{IsApplication}
use Rattle.tach_media.specs.card_layout.Files.{image_size_of}
use Rattle.card_session.specs.card_model.Days.{Day, AreDays}
use Rattle.card_session.specs.card_model.Changes.{Remain, OnNewest, fitting, new_day, date_of, trimmed}
use Rattle.card_session.proofs.card_model.Retention.{remain_fitting, remain_some}
use Rattle.card_session.proofs.card_model.Trims.{Behind}
use Rattle.card_session.specs.card_retention.Expected.{is_newest}
use Rattle.card_session.specs.card_retention.Shown.{sizes, AllUpTo}
use Rattle.card_session.proofs.card_retention.Entering.{date_newest}
use Rattle.card_session.proofs.card_retention.Listing.{Lists}
use Rattle.card_session.proofs.card_retention.Stops.{are_left}
use Rattle.hand_model.specs.card_image.Fields.{card_days, end_mark, session_time}
use Rattle.hand_model.specs.card_image.Judging.{IsValid}
use Rattle.activity_codec.specs.declared.entries.Manual.{Manual}
use Rattle.hand_model.specs.Manual.{manual_word}
use Rattle.hand_model.proofs.Words.{minute_is}
use Rattle.card_session.specs.Vehicles.{Vehicles, last_use_in}
use Rattle.card_session.specs.Books.{Book, mark_of, bare_word, with_change}
use Rattle.card_session.specs.Sessions.{Session, IsSession, EndsStrictly, book_of}
use Rattle.card_session.specs.Cards.{IsCard}
use Rattle.card_session.specs.Overwriting.{ShowsEntries}
use Rattle.card_session.specs.ByHand.{words_from, with_day_from, with_word_at, word_len, IsByHandMoment}
use Rattle.card_session.proofs.Marks.{mark_told}
use Rattle.card_session.proofs.Preparing.{on_as}
use Rattle.card_session.proofs.Stopping.{book_days}
use Rattle.card_session.proofs.Surviving.{Survives, lists_survive, strict_survives}
use Rattle.card_session.proofs.Valid.{valid_open, valid_strict}
use Rattle.card_by_hand.specs.Clear.{BeginsLater}

-- a word adds few bytes
pub few_bytes : (minute w : ℕ) (days : List Day) → word_len minute w days ≤ 16
few_bytes minute w days = by (is_newest (minute / 1440) (sizes days)) (nat_eq (minute % 1440) 0)
  where
    by : (n m : Bool) → cond n 2 (12 + 2 * length (cond m (w ∷ []) (bare_word ∷ w ∷ []))) ≤ 16
    by true m = omega arith
    by false true = omega arith
    by false false = omega arith

-- no more than two words begin a day
pub few_words : (minute w : ℕ) → length (words_from minute w) ≤ 2
few_words minute w = by (nat_eq (minute % 1440) 0)
  where
    by : (m : Bool) → length (cond m (w ∷ []) (bare_word ∷ w ∷ [])) ≤ 2
    by true = omega arith
    by false = omega arith

module _ (size : ℕ) (long : 5544 ≤ size) (mark : ℕ) (days : List Day) (ordered : AreDays 0 days) (Q R : List Day → Type 0) (s : Survives mark Q R) (q : Q days) (minute w : ℕ) (at : word_minute w ≡ minute % 1440)
    (late : mark < minute) (clear : is_newest (minute / 1440) (sizes days) ≡ false → mark / 1440 < minute / 1440) where
  on_newest : is_newest (minute / 1440) (sizes days) ≡ true → R (with_change size w days)
  on_newest newest =
      let left = remain_fitting (size - 2) days in
      let dated : OnNewest (λ d. d.date ≡ minute / 1440 * 86400) (fitting (size - 2) days) = remain_some (λ d. d.date ≡ minute / 1440 * 86400) (size - 2) 0 days (fitting (size - 2) days) (omega (arith, long)) ordered left (date_newest (minute / 1440) 0 days ordered newest) in
      let behind : OnNewest (Behind mark w) (fitting (size - 2) days) = on_as (λ d. d.date ≡ minute / 1440 * 86400) (Behind mark w) (fitting (size - 2) days) (λ d date. record { day = omega (arith, date, late); minute = λ same. omega (arith, date, same, late, at) }) dated in
      s.still (with_change size w days) (s.word w (fitting (size - 2) days) (are_left (size - 2) days (fitting (size - 2) days) left ordered) behind (s.drops (size - 2) days (fitting (size - 2) days) (omega (arith, long)) ordered left q))

  on_day : is_newest (minute / 1440) (sizes days) ≡ false → R (with_day_from size minute w days)
  on_day other =
      s.day (fitting (size - (12 + 2 * length (words_from minute w))) days) (new_day days (date_of minute) (words_from minute w)) (omega arith) (omega (arith, clear other))
      (s.drops (size - (12 + 2 * length (words_from minute w))) days (fitting (size - (12 + 2 * length (words_from minute w))) days) (omega (arith, long, few_words minute w)) ordered (remain_fitting (size - (12 + 2 * length (words_from minute w))) days) q)

  -- at each moment of a word at a minute behind the mark
  pub word_survives : (kept : List Day) → (Remain (size - word_len minute w days) days kept) ⊎ (kept ≡ with_word_at size minute w days) → R kept
  word_survives kept moment = ⊎_elim
      (λ gone. s.still kept (s.drops (size - word_len minute w days) days kept (omega (arith, long, few_bytes minute w days)) ordered gone q))
      (λ done. subst R (sym done) (by (is_newest (minute / 1440) (sizes days)) refl))
      moment
    where
      by : (n : Bool) → is_newest (minute / 1440) (sizes days) ≡ n → R (cond n (with_change size w days) (with_day_from size minute w days))
      by true is = on_newest is
      by false is = on_day is

-- ---- of a card

module _ (app : Application) (sound : IsApplication app) (x : List ℕ) (ordered : AreDays 0 (book_of app x).days) (e : Manual) (y : List ℕ) (late : mark_of (book_of app x) < e.minute) (clear : BeginsLater app e.minute x)
    (card : IsCard app (IsByHandMoment app.activity e (book_of app x)) x y) where
  abbrev b : Book
  b = book_of app x

  -- the end mark stays
  pub mark_stays : end_mark app y ≡ end_mark app x
  mark_stays = mark_told app y ∙ ap (λ (v : Vehicles). last_use_in v / 60) card.told.1 ∙ sym (mark_told app x)

  clear_at : is_newest (e.minute / 1440) (sizes b.days) ≡ false → mark_of b / 1440 < e.minute / 1440
  clear_at other = subst (λ (n : ℕ). n / 1440 < e.minute / 1440) (mark_told app x) (clear (ap (λ (ds : List Day). is_newest (e.minute / 1440) (sizes ds)) (sym (book_days app x)) ∙ other))

  pub survives : (Q R : List Day → Type 0) → Survives (mark_of b) Q R → Q b.days → R (book_of app y).days
  survives Q R s q = word_survives app.activity sound.string_least (mark_of b) b.days ordered Q R s q e.minute (manual_word e) (minute_is e) late clear_at (book_of app y).days card.told.0

  -- the entries of before, whose day is there, and no other
  pub shows_before : (all : List Entry) → AllUpTo (end_mark app x) all → ShowsEntries app all x → ShowsEntries app all y
  shows_before all up shown =
      let listed : Lists (mark_of b) all b.days = subst (λ (ds : List Day). Lists (mark_of b) all ds) (sym (book_days app x)) (subst (λ (n : ℕ). Lists n all (card_days app x)) (mark_told app x) shown) in
      let there : Lists (mark_of b) all (book_of app y).days = survives (Lists (mark_of b) all) (Lists (mark_of b) all) (lists_survive (mark_of b) all (subst (λ (n : ℕ). AllUpTo n all) (mark_told app x) up)) listed in
      subst (λ (ds : List Day). Lists (end_mark app y) all ds) (book_days app y) (subst (λ (n : ℕ). Lists n all (book_of app y).days) (sym (mark_stays ∙ mark_told app x)) there)

  -- the words of the newest day up to the mark still rise
  pub strict_stays : EndsStrictly (trimmed (end_mark app x) (card_days app x)) → EndsStrictly (trimmed (end_mark app y) (card_days app y))
  strict_stays strict =
      let here : EndsStrictly (trimmed (mark_of b) b.days) = subst (λ (ds : List Day). EndsStrictly (trimmed (mark_of b) ds)) (sym (book_days app x)) (subst (λ (n : ℕ). EndsStrictly (trimmed n (card_days app x))) (mark_told app x) strict) in
      let there = survives (λ ds. EndsStrictly (trimmed (mark_of b) ds)) (λ ds. EndsStrictly (trimmed (mark_of b) ds)) (strict_survives (mark_of b)) here in
      subst (λ (ds : List Day). EndsStrictly (trimmed (end_mark app y) ds)) (book_days app y) (subst (λ (n : ℕ). EndsStrictly (trimmed n (book_of app y).days)) (sym (mark_stays ∙ mark_told app x)) there)

  -- a card is valid that was, while its session is open
  pub valid_stays : image_size_of app ≤ length x → nat_eq (session_time app x) 0 ≡ false → IsValid app x → IsValid app y
  valid_stays fits open_ valid =
      valid_open app x valid sound fits y (IsByHandMoment app.activity e (book_of app x)) card open_
      (strict_stays (valid_strict app x valid (subst (λ (ds : List Day). AreDays 0 ds) (book_days app x) ordered) open_))

-- ---- what a session knows of a card

pub late_of : (s : Session) (x : List ℕ) (minute : ℕ) → IsSession s x → s.minute < minute → mark_of (book_of s.application x) < minute
late_of s x minute knows later = omega (arith, later, knows.minute)

pub some_open : (app : Application) (x : List ℕ) → 0 < session_time app x → nat_eq (session_time app x) 0 ≡ false
some_open app x some = differs (session_time app x) some
  where
    differs : (n : ℕ) → 0 < n → nat_eq n 0 ≡ false
    differs n some = grind (arith, nat_tests)
