-- The newest minute and the stored time of a card at each moment of an entry by hand.
use Rattle.std.proofs.Common.{◌≡◌, ⊎_elim, ℕ, suc, ◌<◌, max, Bool, false, cond, List, [], ◌∷◌, refl, sym, ◌∙◌, ap, subst, arith, inr, ◌/◌}
use Rattle.std.specs.Prelude.{nat_eq}
use Rattle.tach_media.specs.card_layout.declared.files.Application.{Application}
use Rattle.tach_media.specs.card_layout.Application.{IsApplication}
use Rattle.card_session.specs.card_model.Days.{Day, AreDays}
use Rattle.card_session.specs.card_model.Changes.{Remain, trimmed}
use Rattle.card_session.proofs.card_model.Trims.{trimmed_word, trimmed_day, trimmed_cases}
use Rattle.card_session.specs.card_retention.Shown.{is_open, sizes}
use Rattle.card_session.specs.card_retention.Entries.{newest_minute, newest_word}
use Rattle.hand_model.specs.card_image.Fields.{card_days, end_mark, last_use, session_time}
use Rattle.hand_model.specs.card_image.View.{card_view}
use Rattle.activity_codec.specs.declared.entries.Manual.{Manual}
use Rattle.card_session.specs.Vehicles.{Vehicles, last_use_in}
use Rattle.card_session.specs.Books.{mark_of, Book, with_entry}
use Rattle.card_session.specs.Sessions.{book_of}
use Rattle.card_session.specs.Cards.{IsCard}
use Rattle.card_session.specs.ByHand.{IsByHandMoment}
use Rattle.card_session.proofs.Alike.{trimmed_alike, open_alike}
use Rattle.card_session.proofs.InsertingBooks.{trimmed_low}
use Rattle.card_session.proofs.Marks.{mark_told, session_same}
use Rattle.card_session.proofs.NewestStays.{view_newest}
use Rattle.card_session.proofs.Renewing.{stored_open}
use Rattle.card_session.proofs.Stopping.{book_days}
use Rattle.card_session.proofs.Surviving.{Survives, keep_survives, newest_gapped}
use Rattle.card_by_hand.specs.Clear.{BeginsLater}
use Rattle.card_by_hand.proofs.Staying.{survives, mark_stays}
use Rattle.activity_codec.specs.declared.entries.Entry.{Entry}
use Rattle.card_session.specs.tacho_types.declared.texts.Registration.{Registration}
use Rattle.card_session.specs.card_retention.Expected.{is_newest}
use Rattle.card_session.specs.Moments.{IsBeforeMark, IsKeepMoment}
use Rattle.card_session.specs.Parts.{IsBeforeGapOf}
use Rattle.card_session.proofs.Preparing.{used_at}

-- no entry is open behind a cut to the mark
abbrev pub IsShutAt : (mark : ℕ) → List Day → Type 0
IsShutAt mark ds = is_open mark (trimmed mark ds) ≡ false

shut_drop : (m date : ℕ) (d : Day) (ds : List Day) → AreDays date (d ∷ ds) → IsShutAt m (d ∷ ds) → IsShutAt m ds
shut_drop m date d ds are is = ⊎_elim
    (λ none. ap (is_open m) none.0)
    (λ t. ap (is_open m) t.less ∙ sym (ap (is_open m) t.whole) ∙ is)
    (trimmed_cases m date d ds are)

shut_drops : (m room date : ℕ) (days kept : List Day) → AreDays date days → Remain room days kept → IsShutAt m days → IsShutAt m kept
shut_drops m room date [] kept are left is = subst (IsShutAt m) (sym left) is
shut_drops m room date (d ∷ ds) kept are left is = ⊎_elim
    (λ same. subst (IsShutAt m) (sym same) is)
    (λ gone. shut_drops m room d.date ds kept are.2 gone.1 (shut_drop m date d ds are is)) left

pub shut_survives : (mark : ℕ) → Survives mark (IsShutAt mark) (IsShutAt mark)
shut_survives mark = record {
  drops = λ room days kept wide are left is. shut_drops mark room 0 days kept are left is;
  word = λ w days are on is. ap (is_open mark) (trimmed_word mark w days on) ∙ is;
  still = λ days is. is;
  day = λ days d midnight later is. ap (is_open mark) (trimmed_day mark days d later) ∙ is;
  alike = λ days kept a is. open_alike mark (trimmed mark days) (trimmed mark kept) (trimmed_alike mark days kept a) ∙ is;
}

-- then the newest minute is the mark
pub newest_shut : (mark : ℕ) (ds : List Day) → AreDays 0 ds → IsShutAt mark ds → newest_minute mark (trimmed mark ds) ≡ mark
newest_shut mark ds are is =
    ap (λ (o : Bool). cond o (suc mark) (max mark (newest_word (trimmed mark ds)))) is ∙ low
  where
    low : max mark (newest_word (trimmed mark ds)) ≡ mark
    low = omega (arith, trimmed_low mark ds are)

module _ (app : Application) (sound : IsApplication app) (x : List ℕ) (ordered : AreDays 0 (book_of app x).days) (e : Manual) (y : List ℕ) (late : mark_of (book_of app x) < e.minute) (clear : BeginsLater app e.minute x)
    (card : IsCard app (IsByHandMoment app.activity e (book_of app x)) x y) where
  mark_same : end_mark app y ≡ end_mark app x
  mark_same = mark_stays app sound x ordered e y late clear card

  -- a card that is shut stays so, and its newest minute
  pub shut_stays : IsShutAt (end_mark app x) (card_days app x) → IsShutAt (end_mark app y) (card_days app y)
  shut_stays shut =
      let here : IsShutAt (mark_of (book_of app x)) (book_of app x).days = subst (IsShutAt (mark_of (book_of app x))) (sym (book_days app x)) (subst (λ (n : ℕ). IsShutAt n (card_days app x)) (mark_told app x) shut) in
      let there = survives app sound x ordered e y late clear card (IsShutAt (mark_of (book_of app x))) (IsShutAt (mark_of (book_of app x))) (shut_survives (mark_of (book_of app x))) here in
      subst (IsShutAt (end_mark app y)) (book_days app y) (subst (λ (n : ℕ). IsShutAt n (book_of app y).days) (sym (mark_same ∙ mark_told app x)) there)

  pub newest_stays : IsShutAt (end_mark app x) (card_days app x) → (card_view app y).newest ≡ (card_view app x).newest
  newest_stays shut =
      view_newest app y ∙ newest_shut (end_mark app y) (card_days app y) (subst (λ (ds : List Day). AreDays 0 ds) (book_days app y) card.holds.ordered) (shut_stays shut) ∙ mark_same
      ∙ sym (view_newest app x ∙ newest_shut (end_mark app x) (card_days app x) (subst (λ (ds : List Day). AreDays 0 ds) (book_days app x) ordered) shut)

  -- the stored time of a card whose session is open is its last use
  use_told : (z : List ℕ) → last_use app z ≡ last_use_in (book_of app z).vehicles
  unfolding book_of
  use_told z = refl

  pub stored_stays : nat_eq (session_time app x) 0 ≡ false → (card_view app y).stored ≡ (card_view app x).stored
  stored_stays open_ =
      stored_open app y (ap (λ (n : ℕ). nat_eq n 0) (session_same app (IsByHandMoment app.activity e (book_of app x)) x y card) ∙ open_)
      ∙ use_told y ∙ ap last_use_in card.told.1 ∙ sym (use_told x) ∙ sym (stored_open app x open_)

-- ---- the same of a keep behind entries by hand, before its end mark moves

module _ (app : Application) (sound : IsApplication app) (x : List ℕ) (ordered : AreDays 0 (book_of app x).days) (e : Entry) (registration : Registration) (odometer more : ℕ) (y : List ℕ) (before : IsBeforeGapOf e.minute (book_of app x))
    (clear : BeginsLater app e.minute x) (card : IsCard app (IsKeepMoment app.activity registration odometer more e (book_of app x)) x y) (same : end_mark app y ≡ end_mark app x) where
  abbrev b : Book
  b = book_of app x

  still : IsBeforeMark app.activity b (with_entry app.activity registration odometer more b e) e (book_of app y).days
  still = ⊎_elim
      (λ old. old.1)
      (λ new. ⊎_elim
      (λ unused. inr (inr (inr new.0)))
      (λ used.
      let now : end_mark app y ≡ e.minute = mark_told app y ∙ ap (λ (o : Vehicles). last_use_in o / 60) used ∙ used_at registration odometer e.minute b.vehicles in
      let then : end_mark app y ≡ mark_of b = same ∙ mark_told app x in
      absurd (omega (arith, before.1, now, then)))
      new.1)
      card.told

  clear_at : is_newest (e.minute / 1440) (sizes b.days) ≡ false → mark_of b / 1440 < e.minute / 1440
  clear_at other = subst (λ (n : ℕ). n / 1440 < e.minute / 1440) (mark_told app x) (clear (ap (λ (ds : List Day). is_newest (e.minute / 1440) (sizes ds)) (sym (book_days app x)) ∙ other))

  keep_shut : IsShutAt (end_mark app x) (card_days app x) → IsShutAt (end_mark app y) (card_days app y)
  keep_shut shut =
      let here : IsShutAt (mark_of b) b.days = subst (IsShutAt (mark_of b)) (sym (book_days app x)) (subst (λ (n : ℕ). IsShutAt n (card_days app x)) (mark_told app x) shut) in
      let there : IsShutAt (mark_of b) (book_of app y).days =
      keep_survives app.activity sound.string_least b ordered (IsShutAt (mark_of b)) (IsShutAt (mark_of b)) (shut_survives (mark_of b)) here e before
      (λ other. clear_at (sym (newest_gapped app.activity sound.string_least b ordered e.minute (e.minute / 1440)) ∙ other)) registration odometer more (book_of app y).days still in
      subst (IsShutAt (end_mark app y)) (book_days app y) (subst (λ (n : ℕ). IsShutAt n (book_of app y).days) (sym (same ∙ mark_told app x)) there)

  pub keep_newest : IsShutAt (end_mark app x) (card_days app x) → (card_view app y).newest ≡ (card_view app x).newest
  keep_newest shut =
      view_newest app y ∙ newest_shut (end_mark app y) (card_days app y) (subst (λ (ds : List Day). AreDays 0 ds) (book_days app y) card.holds.ordered) (keep_shut shut) ∙ same
      ∙ sym (view_newest app x ∙ newest_shut (end_mark app x) (card_days app x) (subst (λ (ds : List Day). AreDays 0 ds) (book_days app x) ordered) shut)
