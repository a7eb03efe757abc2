-- The newest minute, the last use and the newest word of a card at each moment of a withdrawal and of an insertion.
use Rattle.std.proofs.Common.{◌≡◌, inl, inr, ⊎_elim, ℕ, suc, ◌+◌, ◌*◌, ◌/◌, ◌%◌, ◌<◌, ◌≤◌, max, min, Bool, true, false, cond, Some, List, [], ◌∷◌, ◌++◌, length, refl, sym, ◌∙◌, ap, subst, arith}
use Rattle.std.specs.Prelude.{◌⊎◌, nat_eq, nat_lt}
use Rattle.std.specs.List.{AllByRecursion}
use Rattle.std.proofs.lemmas.Bool.{cases_lt, le-ltb}
use Rattle.std.proofs.lemmas.Bool.Decides.{nat_tests}
use Rattle.std.proofs.lemmas.List.{append-nil}
use Rattle.std.proofs.lemmas.List.Elements.{recursion_from_All}
use Rattle.activity_codec.specs.declared.values.Activity.{Activity}
use Rattle.activity_codec.specs.declared.values.Activity.TheVariants.{Rest}
use Rattle.activity_codec.specs.declared.entries.Entry.{Entry}
use Rattle.tacho_types.specs.declared.texts.Registration.{Registration}
use Rattle.card_layout.specs.declared.files.Application.{Application}
use Rattle.card_layout.specs.Application.{IsApplication}
use Rattle.card_layout.specs.Files.{image_size_of, place_of}
use Rattle.card_days.specs.card_model.Days.{Day, AreDays}
use Rattle.card_days.specs.card_model.Changes.{trimmed}
use Rattle.card_days.proofs.card_model.Trims.{are_trimmed, trim_from_moment, trimmed_twice}
use Rattle.card_validity.specs.card_retention.Shown.{is_open}
use Rattle.card_validity.specs.card_retention.Entries.{newest_minute, newest_word, closed_at}
use Rattle.gated_ring.specs.Ring.{PointsInside}
use Rattle.card_validity.specs.card_image.Fields.{file, vehicle_ring, last_use, card_days, end_mark, session_time}
use Rattle.card_validity.specs.card_image.Beside.{HaveSameDays, HaveSameVehicles}
use Rattle.card_validity.specs.card_image.Judging.{IsValid}
use Rattle.card_validity.specs.card_image.View.{card_view}
use Rattle.card_validity.proofs.card_image.Beside.{days_same, last_use_same}
use Rattle.card_session.specs.Vehicles.{Vehicles, last_use_in}
use Rattle.card_session.specs.Books.{Book, mark_of, with_entry, closed}
use Rattle.card_session.specs.Sessions.{Session, IsSession, IsOpenBook, newest_in, book_of}
use Rattle.card_session.specs.Moments.{IsBook, IsKeepMoment}
use Rattle.card_session.specs.Cards.{IsCard, IsCardClosing, ended}
use Rattle.card_session.specs.Parts.{IsBeforeGapOf}
use Rattle.card_session.specs.Inserting.{AreOwed, Follow, lacked, with_cut, with_owed, IsBeforeAll, IsReplaying, EndsCut, repaired, IsRepairMoment, IsStill, IsRepaired, IsRepairing, IsNoted, IsNoting, IsShut, IsShutting, InsertsOpen, InsertingOpen, InsertsClosed, InsertingClosed}
use Rattle.card_session.specs.Repairs.{mark_behind, lacked_by, newest_behind, NewestSoFar}
use Rattle.card_session.proofs.Composing.{told_book}
use Rattle.card_session.proofs.Marks.{session_same, mark_told, use_before}
use Rattle.card_session.proofs.Preparing.{use_at, used_at}
use Rattle.card_session.proofs.Stopping.{days_there, ended_same}
use Rattle.card_session.proofs.Valid.{valid_words}
use Rattle.card_session.proofs.NewestStays.{newest_by_mark, next_newest, next_low, keep_newest, Rewrites, close_newest, closed_in, closed_open, view_newest, view_word}
use Rattle.card_session.proofs.InsertingBooks.{lacked_each, cut_ready, trimmed_low}
use Rattle.card_session.proofs.InsertingCards.{noted_same, noting_same}
use Rattle.card_session.proofs.InsertingUse.{use_inside}
use Rattle.card_session.proofs.InsertingOpen.{Same, opening_same, opened_same, reopening_same, reopened_same}
use Rattle.card_session.proofs.InsertingValid.{closed_by_words}
use Rattle.card_session.proofs.Replaying.{with_are, with_before}
use Rattle.card_session.proofs.Repairing.{lacked_many, lacked_again, owed_at, mark_beside}
use Rattle.card_session.proofs.Revalid.{book_are, book_may, days_are, cut_strict, full_is, noted_fine, noted_low, noted_fits, use_low, stands}

-- ---- of two images of a card

-- The newest minute stays, the last use stays or is that minute's, and no word is later than those of before and that minute.
pub record Renews (app : Application) (x y : List ℕ) : Type 0 where
  pub newest : (card_view app y).newest ≡ (card_view app x).newest
  pub used : (last_use app y ≡ last_use app x) ⊎ (last_use app y ≡ 60 * (card_view app x).newest)
  pub word : (card_view app y).word ≤ max (card_view app x).word (card_view app x).newest

module _ (app : Application) where
  renews_by : (x y : List ℕ) → Rewrites (book_of app x) (book_of app y).days (book_of app y).vehicles → Renews app x y
  unfolding card_view book_of
  renews_by x y r = record { newest = r.newest; used = r.used; word = r.word }

  no_change : (b : Book) → Rewrites b b.days b.vehicles
  no_change b = record { newest = refl; used = inl refl; word = omega arith }

  renews_same : (x y : List ℕ) → book_of app y ≡ book_of app x → Renews app x y
  renews_same x y is = renews_by x y (subst (λ (k : Book). Rewrites (book_of app x) k.days k.vehicles) (sym is) (no_change (book_of app x)))

  renews_then : (x y z : List ℕ) → Renews app x y → Renews app y z → Renews app x z
  renews_then x y z first next = record {
    newest = next.newest ∙ first.newest;
    used = ⊎_elim
        (λ same. ⊎_elim (λ still. inl (same ∙ still)) (λ at. inr (same ∙ at)) first.used)
        (λ at. inr (at ∙ ap (λ (n : ℕ). 60 * n) first.newest)) next.used;
    word = omega (arith, first.word, next.word, first.newest);
  }

  renews_beside : IsApplication app → (x c : List ℕ) → HaveSameDays app x c → HaveSameVehicles app x c → PointsInside (vehicle_ring app) x → Renews app x c
  renews_beside sound x c days vehicles points =
      let mark : end_mark app c ≡ end_mark app x = mark_beside app sound x c days vehicles points in
      let same : card_days app c ≡ card_days app x = days_same app x c days in
      let word : (card_view app c).word ≡ (card_view app x).word = view_word app c ∙ ap newest_word same ∙ sym (view_word app x) in
      record {
        newest = view_newest app c ∙ ap (λ (n : ℕ). newest_by_mark n (card_days app c)) mark ∙ ap (newest_by_mark (end_mark app x)) same ∙ sym (view_newest app x);
        used = inl (last_use_same app x c sound points vehicles);
        word = omega (arith, word);
      }

  -- ---- the stored time

  stored_told : (y : List ℕ) → (card_view app y).stored ≡ cond (nat_eq (session_time app y) 0) (max (last_use app y) (min 4294967295 (60 * newest_word (card_days app y)))) (last_use app y)
  unfolding card_view
  stored_told y = refl

  pub stored_open : (y : List ℕ) → nat_eq (session_time app y) 0 ≡ false → (card_view app y).stored ≡ last_use app y
  stored_open y is = stored_told y ∙ ap (λ (t : Bool). cond t (max (last_use app y) (min 4294967295 (60 * newest_word (card_days app y)))) (last_use app y)) is

  pub stored_shut : (y : List ℕ) → nat_eq (session_time app y) 0 ≡ true → (card_view app y).stored ≡ max (last_use app y) (min 4294967295 (60 * newest_word (card_days app y)))
  stored_shut y is = stored_told y ∙ ap (λ (t : Bool). cond t (max (last_use app y) (min 4294967295 (60 * newest_word (card_days app y)))) (last_use app y)) is

  capped : (n : ℕ) → min 4294967295 n ≤ n
  capped n = omega arith

  pub stored_least : (y : List ℕ) → last_use app y ≤ (card_view app y).stored
  stored_least y = by (nat_eq (session_time app y) 0) refl
    where
      by : (t : Bool) → nat_eq (session_time app y) 0 ≡ t → last_use app y ≤ (card_view app y).stored
      by true is = omega (arith, stored_shut y is)
      by false is = omega (arith, stored_open y is)

  pub stored_most : (y : List ℕ) → (card_view app y).stored ≤ max (last_use app y) (60 * (card_view app y).word)
  stored_most y = by (nat_eq (session_time app y) 0) refl
    where
      by : (t : Bool) → nat_eq (session_time app y) 0 ≡ t → (card_view app y).stored ≤ max (last_use app y) (60 * (card_view app y).word)
      by true is = omega (arith, stored_shut y is, capped (60 * newest_word (card_days app y)), view_word app y)
      by false is = omega (arith, stored_open y is)

  -- where the newest minute stays
  pub renewed_stored : (x y : List ℕ) → Renews app x y → (card_view app y).stored ≤ max (card_view app x).stored (60 * max (card_view app x).word (card_view app x).newest)
  renewed_stored x y renews = ⊎_elim
      (λ same. omega (arith, stored_most y, stored_least x, renews.word, same))
      (λ at. omega (arith, stored_most y, renews.word, at)) renews.used

-- the newest word and the newest minute, and the newest minute that a session knows
both_told : (app : Application) (x : List ℕ) → max (card_view app x).word (card_view app x).newest ≡ max (newest_word (book_of app x).days) (newest_by_mark (mark_of (book_of app x)) (book_of app x).days)
unfolding card_view book_of
both_told app x = refl

words_told : (app : Application) (x : List ℕ) → newest_word (card_days app x) ≡ newest_word (book_of app x).days
unfolding book_of
words_told app x = refl

in_beside : (app : Application) → IsApplication app → (x c : List ℕ) → HaveSameDays app x c → HaveSameVehicles app x c → PointsInside (vehicle_ring app) x → newest_in (book_of app c) ≡ newest_in (book_of app x)
unfolding book_of
in_beside app sound x c days vehicles points =
    ap (λ (n : ℕ). max n (newest_word (card_days app c))) (mark_beside app sound x c days vehicles points) ∙ ap (λ (ds : List Day). max (end_mark app x) (newest_word ds)) (days_same app x c days)

-- ---- whether an entry is open behind the end mark

open_told : (app : Application) (y : List ℕ) → is_open (end_mark app y) (card_days app y) ≡ is_open (mark_of (book_of app y)) (book_of app y).days
unfolding book_of
open_told app y = refl

open_beside : (app : Application) → IsApplication app → (x c : List ℕ) → HaveSameDays app x c → HaveSameVehicles app x c → PointsInside (vehicle_ring app) x → is_open (end_mark app c) (card_days app c) ≡ is_open (end_mark app x) (card_days app x)
open_beside app sound x c days vehicles points =
    ap (λ (n : ℕ). is_open n (card_days app c)) (mark_beside app sound x c days vehicles points) ∙ ap (is_open (end_mark app x)) (days_same app x c days)

-- the closing word is written, where one is to be
shut_open : (app : Application) → IsApplication app → (x y : List ℕ) → AreDays 0 (book_of app x).days → IsOpenBook (book_of app x) → IsShut app x y → is_open (end_mark app y) (card_days app y) ≡ false
shut_open app sound x y are may shut =
    open_told app y ∙ ap (λ (k : Book). is_open (mark_of k) k.days) (told_book app (closed app.activity Rest (book_of app x)) x y shut) ∙ closed_open app.activity sound.string_least (book_of app x) are Rest may

-- ---- a withdrawal

pub closing_renews : (s : Session) (act : Activity) (x y : List ℕ) → IsApplication s.application → image_size_of s.application ≤ length x → IsSession s x → IsCardClosing s act x y → Renews s.application x y
closing_renews s act x y sound fits knows closing = ⊎_elim
    (λ card. renews_by s.application x y
    (close_newest s.application.activity sound.string_least (book_of s.application x) (days_there s x knows) act knows.book (book_of s.application y).days (book_of s.application y).vehicles card.holds.ordered card.told))
    (λ done.
    let app = s.application in
    let first : Renews app x done.before =
    renews_by app x done.before
    (close_newest app.activity sound.string_least (book_of app x) (days_there s x knows) act knows.book (book_of app done.before).days (book_of app done.before).vehicles done.card.holds.ordered (inr done.card.told)) in
    let beside = ended_same app sound done.before (omega (arith, fits, done.card.outside.same_length)) done.card.points in
    let last : Renews app done.before (ended app done.before) = renews_beside app sound done.before (ended app done.before) beside.0 beside.1 done.card.points in
    subst (λ (l : List ℕ). Renews app x l) (sym done.session) (renews_then app x done.before (ended app done.before) first last))
    closing

-- ---- a keep

module _ (app : Application) (x : List ℕ) (registration : Registration) (odometer more : ℕ) (e : Entry) (y : List ℕ) (card : IsCard app (IsKeepMoment app.activity registration odometer more e (book_of app x)) x y) where
  use_told : (z : List ℕ) → last_use app z ≡ last_use_in (book_of app z).vehicles
  unfolding book_of
  use_told z = refl

  keep_used : ((end_mark app y ≡ end_mark app x) × (last_use app y ≡ last_use app x)) ⊎ ((end_mark app y ≡ e.minute) × (last_use app y ≡ 60 * e.minute))
  keep_used = ⊎_elim
      (λ old. let same : last_use app y ≡ last_use app x = use_told y ∙ ap last_use_in old.0 ∙ sym (use_told x) in inl (ap (λ (n : ℕ). n / 60) same, same))
      (λ new. ⊎_elim
      (λ unused. let same : last_use app y ≡ last_use app x = use_told y ∙ use_before registration odometer e.minute (book_of app x).vehicles (book_of app y).vehicles unused ∙ sym (use_told x) in inl (ap (λ (n : ℕ). n / 60) same, same))
      (λ after. let at : last_use app y ≡ 60 * e.minute = use_told y ∙ ap last_use_in after ∙ use_at registration odometer e.minute (book_of app x).vehicles in inr (omega (arith, at), at))
      new.1) card.told

  pub keep_stored : nat_eq (session_time app x) 0 ≡ false → ((end_mark app y ≡ end_mark app x) × ((card_view app y).stored ≡ (card_view app x).stored)) ⊎ ((end_mark app y ≡ e.minute) × ((card_view app y).stored ≡ 60 * e.minute))
  keep_stored open_ =
      let now : (card_view app y).stored ≡ last_use app y = stored_open app y (ap (λ (n : ℕ). nat_eq n 0) (session_same app (IsKeepMoment app.activity registration odometer more e (book_of app x)) x y card) ∙ open_) in
      ⊎_elim
      (λ old. inl (old.0, now ∙ old.1 ∙ sym (stored_open app x open_)))
      (λ new. inr (new.0, now ∙ new.1)) keep_used

  -- once the end mark has moved no word is later
  pub keep_word : IsApplication app → AreDays 0 (book_of app x).days → IsBeforeGapOf e.minute (book_of app x) → end_mark app y ≡ e.minute → (card_view app y).word ≤ e.minute
  keep_word sound ordered before at = ⊎_elim
      (λ old. let same : end_mark app y ≡ mark_of (book_of app x) = mark_told app y ∙ ap (λ (o : Vehicles). last_use_in o / 60) old.0 in absurd (omega (arith, before.1, at, same)))
      (λ new. let is : (card_view app y).word ≡ newest_word (with_entry app.activity registration odometer more (book_of app x) e).days = view_word app y ∙ words_told app y ∙ ap newest_word new.0 in
      omega (arith, is, next_low app.activity sound.string_least (book_of app x) ordered registration odometer more e before)) card.told

-- ---- some entries more

minute_behind : (m n : ℕ) (es : List Entry) → m ≤ n → mark_behind m es ≤ newest_behind n es
minute_behind m n [] le = le
minute_behind m n (e ∷ es) le = minute_behind e.minute (closed_at (Some e)) es (by (nat_eq (suc e.minute % 1440) 0))
  where
    by : (t : Bool) → e.minute ≤ cond t e.minute (suc e.minute)
    by true = omega arith
    by false = omega arith

newest_append : (n : ℕ) (es fs : List Entry) → newest_behind (newest_behind n es) fs ≡ newest_behind n (es ++ fs)
newest_append n [] fs = refl
newest_append n (e ∷ es) fs = newest_append (closed_at (Some e)) es fs

late_still : (m n k : ℕ) → m ≤ n → nat_lt m k ≡ false → k ≤ n
late_still m n k le is = grind (arith, nat_tests)

none_more : (m n : ℕ) (es : List Entry) → m ≤ n → lacked m es ≡ [] → lacked n es ≡ []
none_more m n [] le none = refl
none_more m n (e ∷ es) le none = by (nat_lt m e.minute) refl none (λ rest. none_more m n es le rest)
  where
    by : (t : Bool) → nat_lt m e.minute ≡ t → cond t (e ∷ es) (lacked m es) ≡ [] → (lacked m es ≡ [] → lacked n es ≡ []) → lacked n (e ∷ es) ≡ []
    by true is none more = absurd (cc)
    by false is none more = ap (λ (t : Bool). cond t (e ∷ es) (lacked n es)) (le-ltb n e.minute (late_still m n e.minute le is)) ∙ more none

-- the rest is what is lacked then, and with it the newest minute is the one with all
again_newest : (low mark was now is : ℕ) (owed : List Entry) → Follow low owed → mark ≤ was → NewestSoFar mark was (lacked mark owed) now is → newest_behind is (lacked now owed) ≡ newest_behind was (lacked mark owed)
again_newest low mark was now is owed follow le so_far =
    ap (newest_behind is) rest
    ∙ ap (λ (n : ℕ). newest_behind n so_far.rest) so_far.newest
    ∙ newest_append was so_far.done so_far.rest
    ∙ ap (newest_behind was) (sym so_far.split)
  where
    rest : lacked now owed ≡ so_far.rest
    rest = ⊎_elim
        (λ at. ap (λ (m : ℕ). lacked m owed) at ∙ lacked_again low mark owed so_far.done so_far.rest follow so_far.split)
        (λ all.
        none_more (mark_behind mark so_far.done) now owed (omega (arith, minute_behind mark was so_far.done le, so_far.newest, all.1))
        (lacked_again low mark owed so_far.done so_far.rest follow so_far.split ∙ all.0)
        ∙ sym all.0) so_far.behind

-- the newest minute is not earlier than its mark
newest_least : (m : ℕ) (ds : List Day) → m ≤ newest_by_mark m ds
newest_least m ds = by (is_open m (trimmed m ds))
  where
    by : (o : Bool) → m ≤ cond o (suc m) (max m (newest_word (trimmed m ds)))
    by true = omega arith
    by false = omega arith

-- ---- a replay

module _ (size : ℕ) (long : 5544 ≤ size) (registration : Registration) (odometer latest : ℕ) where
  abbrev SoFar : Book → List Entry → List Day → Vehicles → Type 0
  SoFar b es ds v = NewestSoFar (mark_of b) (newest_by_mark (mark_of b) b.days) es (last_use_in v / 60) (newest_by_mark (last_use_in v / 60) ds) × (last_use_in v ≤ max (last_use_in b.vehicles) (60 * latest))

  -- none of them is there yet
  none_so_far : (b : Book) (es : List Entry) (ds : List Day) (v : Vehicles) → last_use_in v ≡ last_use_in b.vehicles → newest_by_mark (mark_of b) ds ≡ newest_by_mark (mark_of b) b.days → SoFar b es ds v
  none_so_far b es ds v same is =
      let at : last_use_in v / 60 ≡ mark_of b = ap (λ (n : ℕ). n / 60) same in
      (record { done = []; rest = es; split = refl; behind = inl at; newest = ap (λ (n : ℕ). newest_by_mark n ds) at ∙ is }, omega (arith, same))

  module _ (e : Entry) (b : Book) (are : AreDays 0 b.days) (gap : IsBeforeGapOf e.minute b) (some : 1440 ≤ e.minute) where
    abbrev next : Book
    next = with_entry size registration odometer 0 b e

    next_are : AreDays 0 next.days
    next_are = with_are size long registration odometer 0 b are e gap some

    next_mark : mark_of next ≡ e.minute
    next_mark = used_at registration odometer e.minute b.vehicles

    next_is : newest_by_mark (mark_of next) next.days ≡ closed_at (Some e)
    next_is = ap (λ (n : ℕ). newest_by_mark n next.days) next_mark ∙ next_newest size long b are registration odometer 0 e gap next_are

    next_below : newest_word next.days ≤ mark_of next
    next_below = omega (arith, next_mark, next_low size long b are registration odometer 0 e gap)

    and_first : (es : List Entry) (now is : ℕ) → NewestSoFar (mark_of next) (newest_by_mark (mark_of next) next.days) es now is → NewestSoFar (mark_of b) (newest_by_mark (mark_of b) b.days) (e ∷ es) now is
    and_first es now is one = record {
      done = e ∷ one.done;
      rest = one.rest;
      split = ap (λ (l : List Entry). e ∷ l) one.split;
      behind = ⊎_elim (λ at. inl (at ∙ ap (λ (m : ℕ). mark_behind m one.done) next_mark)) (λ all. inr all) one.behind;
      newest = one.newest ∙ ap (λ (n : ℕ). newest_behind n one.done) next_is;
    }

  -- with all of them
  replay_newest : (es : List Entry) (b : Book) → AreDays 0 b.days → IsBeforeAll es b → AllByRecursion (λ e. 1440 ≤ e.minute) es
      → newest_by_mark (mark_of (with_owed size registration odometer es b)) (with_owed size registration odometer es b).days ≡ newest_behind (newest_by_mark (mark_of b) b.days) es
  replay_newest [] b are before many = refl
  replay_newest (e ∷ es) b are before many =
      let gap : IsBeforeGapOf e.minute b = (before.0, before.1.0) in
      replay_newest es (next e b are gap many.0) (next_are e b are gap many.0) (with_before size long registration odometer 0 b are e gap many.0 es before.1.1) many.1
      ∙ ap (λ (n : ℕ). newest_behind n es) (next_is e b are gap many.0)

  replay_used : (es : List Entry) (b : Book) → AllByRecursion (λ e. e.minute < latest) es → last_use_in (with_owed size registration odometer es b).vehicles ≤ max (last_use_in b.vehicles) (60 * latest)
  replay_used [] b early = omega arith
  replay_used (e ∷ es) b early =
      omega (arith, early.0, replay_used es (with_entry size registration odometer 0 b e) early.1, use_at registration odometer e.minute b.vehicles)

  -- AT EACH MOMENT with the first of them
  replay_so_far : (es : List Entry) (b : Book) → AreDays 0 b.days → newest_word b.days ≤ mark_of b → IsBeforeAll es b → AllByRecursion (λ e. 1440 ≤ e.minute) es → AllByRecursion (λ e. e.minute < latest) es
      → (ds : List Day) (v : Vehicles) → AreDays 0 ds → IsReplaying size registration odometer es b ds v → SoFar b es ds v
  replay_so_far [] b are low before many early ds v whole is = none_so_far b [] ds v (ap last_use_in is.1) (ap (newest_by_mark (mark_of b)) is.0)
  replay_so_far (e ∷ es) b are low before many early ds v whole (inl moment) =
      let gap : IsBeforeGapOf e.minute b = (before.0, before.1.0) in
      ⊎_elim
      (λ old. none_so_far b (e ∷ es) ds v old.0 old.1)
      (λ new.
      let at : last_use_in v / 60 ≡ e.minute = omega (arith, new.0) in (
        record { done = e ∷ []; rest = es; split = refl; behind = inl at; newest = ap (λ (n : ℕ). newest_by_mark n ds) at ∙ new.1 },
        omega (arith, new.0, early.0),
      ))
      (keep_newest size long b are registration odometer 0 e gap low ds v whole moment)
  replay_so_far (e ∷ es) b are low before many early ds v whole (inr later) =
      let gap : IsBeforeGapOf e.minute b = (before.0, before.1.0) in
      let one =
      replay_so_far es (next e b are gap many.0) (next_are e b are gap many.0) (next_below e b are gap many.0) (with_before size long registration odometer 0 b are e gap many.0 es before.1.1) many.1 early.1
      ds v whole later in (
        and_first e b are gap many.0 es (last_use_in v / 60) (newest_by_mark (last_use_in v / 60) ds) one.0,
        omega (arith, one.1, early.0, use_at registration odometer e.minute b.vehicles),
      )

  -- ---- a repair

  module _ (b : Book) (are : AreDays 0 b.days) (strict : EndsCut b) (owed : List Entry) (ordered : Follow 1439 owed) (early : AllByRecursion (λ e. e.minute < latest) (lacked (mark_of b) owed)) where
    abbrev lacks : List Entry
    lacks = lacked (mark_of b) owed

    abbrev cut : Book
    cut = with_cut (mark_of b) b

    cut_are : AreDays 0 cut.days
    cut_are = are_trimmed (mark_of b) 0 b.days are

    cut_before : IsBeforeAll lacks cut
    cut_before = cut_ready 1439 (mark_of b) owed b are refl strict ordered

    cut_is : newest_by_mark (mark_of b) cut.days ≡ newest_by_mark (mark_of b) b.days
    cut_is = ap (newest_minute (mark_of b)) (trimmed_twice (mark_of b) b.days)

    pub repair_newest : newest_by_mark (mark_of (repaired size registration odometer owed b)) (repaired size registration odometer owed b).days ≡ newest_behind (newest_by_mark (mark_of b) b.days) lacks
    repair_newest = replay_newest lacks cut cut_are cut_before (lacked_many (mark_of b) owed ordered) ∙ ap (λ (n : ℕ). newest_behind n lacks) cut_is

    pub repair_used : last_use_in (repaired size registration odometer owed b).vehicles ≤ max (last_use_in b.vehicles) (60 * latest)
    repair_used = replay_used lacks cut early

    pub repair_so_far : (ds : List Day) (v : Vehicles) → AreDays 0 ds → IsRepairMoment size registration odometer owed b ds v → SoFar b lacks ds v
    repair_so_far ds v whole (inl cutting) =
        none_so_far b lacks ds v (ap last_use_in cutting.1)
        (ap (newest_minute (mark_of b)) (⊎_elim (λ shorter. trim_from_moment (mark_of b) b.days ds shorter) (λ done. ap (trimmed (mark_of b)) done ∙ trimmed_twice (mark_of b) b.days) cutting.0))
    repair_so_far ds v whole (inr replaying) =
        let one = replay_so_far lacks cut cut_are (trimmed_low (mark_of b) b.days are) cut_before (lacked_many (mark_of b) owed ordered) early ds v whole replaying in
        (subst (λ (n : ℕ). NewestSoFar (mark_of b) n lacks (last_use_in v / 60) (newest_by_mark (last_use_in v / 60) ds)) cut_is one.0, one.1)

-- ---- a card whose session was left open

module _ (app : Application) (sound : IsApplication app) (x : List ℕ) (fits : image_size_of app ≤ length x) (registration : Registration) (long : length registration.0 ≡ 15) (odometer now : ℕ) (owed : List Entry) (are_owed : AreOwed now owed)
    (valid : IsValid app x) (open_ : nat_eq (session_time app x) 0 ≡ false) where
  abbrev lacking : List Entry
  lacking = lacked (mark_of (book_of app x)) owed

  abbrev was : ℕ
  was = newest_by_mark (mark_of (book_of app x)) (book_of app x).days

  -- the newest minute with the first of them; the session stays until all are there; and the last use
  record StandsNewest (y : List ℕ) : Type 0 where
    pub so_far : NewestSoFar (mark_of (book_of app x)) was lacking (end_mark app y) (card_view app y).newest
    pub session : (session_time app y ≡ session_time app x) ⊎ (so_far.rest ≡ [])
    pub used : last_use app y ≤ max (max (last_use app x) now) (60 * (card_view app y).newest)

  early : AllByRecursion (λ e. e.minute < now / 60) lacking
  early = recursion_from_All (λ e. e.minute < now / 60) lacking (lacked_each (λ e. e.minute < now / 60) (mark_of (book_of app x)) owed are_owed.1)

  told : (y : List ℕ) → session_time app y ≡ session_time app x → SoFar app.activity sound.string_least registration odometer (now / 60) (book_of app x) lacking (book_of app y).days (book_of app y).vehicles → StandsNewest y
  unfolding card_view book_of
  told y same one = record { so_far = one.0; session = inl same; used = omega (arith, one.1) }

  -- all of them are there
  module _ (y z : List ℕ) (renews : Renews app y z) (marked : end_mark app y ≡ mark_behind (mark_of (book_of app x)) lacking) (is : (card_view app y).newest ≡ newest_behind was lacking) (used : last_use app y ≤ max (last_use app x) now) where
    behind_all : (end_mark app z ≡ mark_behind (mark_of (book_of app x)) lacking) ⊎ (end_mark app z ≡ (card_view app z).newest)
    behind_all = ⊎_elim
        (λ same. inl (ap (λ (n : ℕ). n / 60) same ∙ marked))
        (λ at. inr (omega (arith, at, renews.newest))) renews.used

    all_stand : StandsNewest z
    all_stand = record {
      so_far = record {
        done = lacking;
        rest = [];
        split = sym (append-nil lacking);
        behind = ⊎_elim (λ at. inl at) (λ at. inr (refl, at)) behind_all;
        newest = renews.newest ∙ is;
      };
      session = inr refl;
      used = ⊎_elim (λ same. omega (arith, same, used)) (λ at. omega (arith, at, renews.newest)) renews.used;
    }

  module _ (y : List ℕ) (still : IsStill app x y) where
    abbrev x_are : AreDays 0 (book_of app x).days
    x_are = days_are app sound x fits registration long odometer now owed are_owed.0 valid open_ y still

    abbrev x_strict : EndsCut (book_of app x)
    x_strict = cut_strict app sound x fits registration long odometer now owed are_owed.0 valid open_ y still

    still_newest : StandsNewest y
    still_newest =
        told y (session_same app (IsBook (book_of app x)) x y still)
        (none_so_far app.activity sound.string_least registration odometer (now / 60) (book_of app x) lacking (book_of app y).days (book_of app y).vehicles (ap last_use_in still.told.1) (ap (newest_by_mark (mark_of (book_of app x))) still.told.0))

    repairing_newest : (z : List ℕ) → IsRepairing app registration odometer owed y z → StandsNewest z
    repairing_newest z card =
        told z (session_same app (IsRepairMoment app.activity registration odometer owed (book_of app y)) y z card ∙ session_same app (IsBook (book_of app x)) x y still)
        (repair_so_far app.activity sound.string_least registration odometer (now / 60) (book_of app x) x_are x_strict owed are_owed.0 early (book_of app z).days (book_of app z).vehicles card.holds.ordered
        (subst (λ (k : Book). IsRepairMoment app.activity registration odometer owed k (book_of app z).days (book_of app z).vehicles) (told_book app (book_of app x) x y still) card.told))

    module _ (z : List ℕ) (card : IsRepaired app registration odometer owed y z) where
      abbrev z_is : book_of app z ≡ repaired app.activity registration odometer owed (book_of app x)
      z_is = full_is app sound x fits registration long odometer now owed are_owed.0 valid open_ y still z card

      full_mark : end_mark app z ≡ mark_behind (mark_of (book_of app x)) lacking
      full_mark = mark_told app z ∙ ap (λ (k : Book). mark_of k) z_is ∙ owed_at app.activity registration odometer lacking (with_cut (mark_of (book_of app x)) (book_of app x))

      by_book : (c : List ℕ) → (card_view app c).newest ≡ newest_by_mark (mark_of (book_of app c)) (book_of app c).days
      unfolding card_view book_of
      by_book c = refl

      use_by : (c : List ℕ) → last_use app c ≡ last_use_in (book_of app c).vehicles
      unfolding book_of
      use_by c = refl

      full_newest : (card_view app z).newest ≡ newest_behind was lacking
      full_newest =
          by_book z ∙ ap (λ (k : Book). newest_by_mark (mark_of k) k.days) z_is
          ∙ repair_newest app.activity sound.string_least registration odometer (now / 60) (book_of app x) x_are x_strict owed are_owed.0 early

      full_used : last_use app z ≤ max (last_use app x) now
      full_used =
          let is : last_use app z ≡ last_use_in (repaired app.activity registration odometer owed (book_of app x)).vehicles = use_by z ∙ ap (λ (k : Book). last_use_in k.vehicles) z_is in
          let most = repair_used app.activity sound.string_least registration odometer (now / 60) (book_of app x) x_are x_strict owed are_owed.0 early in
          omega (arith, is, most, use_by x)

      noting_newest : (c : List ℕ) → IsNoting app now z c → StandsNewest c
      noting_newest c noting = let side = noting_same app now z c noting in all_stand z c (renews_beside app sound z c side.0 side.1 card.points) full_mark full_newest full_used

      module _ (c : List ℕ) (noted : IsNoted app now z c) where
        noted_renews : Renews app z c
        noted_renews = let side = noted_same app now z c noted in renews_beside app sound z c side.0 side.1 card.points

        shutting_renews : (w : List ℕ) → IsShutting app c w → Renews app z w
        shutting_renews w shutting =
            let fine = noted_fine app sound x fits registration long odometer now owed are_owed.0 valid open_ y still z card c noted in
            let low = noted_low app sound x fits registration long odometer now owed are_owed.0 valid open_ y still z card c noted in
            renews_then app z c w noted_renews
            (renews_by app c w
            (close_newest app.activity sound.string_least (book_of app c) (book_are app sound c fine low) Rest (book_may app sound c fine low) (book_of app w).days (book_of app w).vehicles shutting.holds.ordered shutting.told))

        shut_renews : (w : List ℕ) → IsShut app c w → Renews app z w
        shut_renews w shut = shutting_renews w (record { outside = shut.outside; holds = shut.holds; points = shut.points; told = inr shut.told })

        use_renews : (w v : List ℕ) → IsShut app c w → Same app w v → Renews app z v
        use_renews w v shut side = renews_then app z w v (shut_renews w shut) (renews_beside app sound w v side.0 side.1 shut.points)

        use_newest : (v : List ℕ) → Renews app z v → StandsNewest v
        use_newest v renews = all_stand z v renews full_mark full_newest full_used

        room : (w : List ℕ) → IsShut app c w → place_of app (file 0x0507) + 19 ≤ length w
        room w shut = omega (arith, use_inside app, noted_fits app sound x fits registration long odometer now owed are_owed.0 valid open_ y still z card c noted, shut.outside.same_length)

  stands_newest : (y : List ℕ) → InsertingOpen app registration odometer owed now x y → StandsNewest y
  stands_newest y (inl still) = still_newest y still
  stands_newest y (inr (x1, still, inl repairing)) = repairing_newest x1 still y repairing
  stands_newest y (inr (x1, still, inr (x2, mended, inl noting))) = noting_newest x1 still x2 mended y noting
  stands_newest y (inr (x1, still, inr (x2, mended, inr (x3, noted, inl shutting)))) = use_newest x1 still x2 mended x3 noted y (shutting_renews x1 still x2 mended x3 noted y shutting)
  stands_newest y (inr (x1, still, inr (x2, mended, inr (x3, noted, inr (x4, shut, reopening))))) =
      use_newest x1 still x2 mended x3 noted y
      (use_renews x1 still x2 mended x3 noted x4 y shut (reopening_same app registration now long x4 y (room x1 still x2 mended x3 noted x4 shut) reopening))

  ends_newest : (y : List ℕ) → InsertsOpen app registration odometer owed now x y → (card_view app y).newest ≡ newest_behind was lacking
  ends_newest y (x1, still, (x2, mended, (x3, noted, (x4, shut, reopened)))) =
      (use_renews x1 still x2 mended x3 noted x4 y shut (reopened_same app registration now long x4 y (room x1 still x2 mended x3 noted x4 shut) reopened)).newest ∙ full_newest x1 still x2 mended

  -- as the card tells it
  pub newest_first : (y : List ℕ) → InsertingOpen app registration odometer owed now x y
      → (first : NewestSoFar (end_mark app x) (card_view app x).newest (lacked_by app x owed) (end_mark app y) (card_view app y).newest) × ((session_time app y ≡ session_time app x) ⊎ (first.rest ≡ []))
  unfolding card_view book_of
  newest_first y inserting = let there = stands_newest y inserting in (there.so_far, there.session)

  pub newest_again : (y : List ℕ) → InsertingOpen app registration odometer owed now x y → newest_behind (card_view app y).newest (lacked_by app y owed) ≡ newest_behind (card_view app x).newest (lacked_by app x owed)
  newest_again y inserting =
      let first = newest_first y inserting in
      again_newest 1439 (end_mark app x) (card_view app x).newest (end_mark app y) (card_view app y).newest owed are_owed.0 (omega (arith, view_newest app x, newest_least (end_mark app x) (card_days app x))) first.0

  pub newest_end : (y : List ℕ) → InsertsOpen app registration odometer owed now x y → (card_view app y).newest ≡ newest_behind (card_view app x).newest (lacked_by app x owed)
  unfolding card_view book_of
  newest_end y inserts = ends_newest y inserts

  -- the newest minute that a session knows at its end
  pub ends_answered : (y : List ℕ) → InsertsOpen app registration odometer owed now x y → newest_in (book_of app y) ≡ (card_view app y).newest
  ends_answered y (x1, still, (x2, mended, (x3, noted, (x4, shut, reopened)))) =
      let side = reopened_same app registration now long x4 y (room x1 still x2 mended x3 noted x4 shut) reopened in
      let fine = noted_fine app sound x fits registration long odometer now owed are_owed.0 valid open_ x1 still x2 mended x3 noted in
      let low : newest_word (card_days app x3) ≤ end_mark app x3 = noted_low app sound x fits registration long odometer now owed are_owed.0 valid open_ x1 still x2 mended x3 noted in
      let may : IsOpenBook (book_of app x3) = book_may app sound x3 fine low in
      let are : AreDays 0 (book_of app x3).days = book_are app sound x3 fine low in
      let in_ : newest_in (book_of app x4) ≡ max (card_view app x3).word (card_view app x3).newest =
      ap newest_in (told_book app (closed app.activity Rest (book_of app x3)) x3 x4 shut) ∙ closed_in app.activity sound.string_least (book_of app x3) are Rest may ∙ sym (both_told app x3) in
      let more : (card_view app x3).word ≤ (card_view app x3).newest = omega (arith, view_word app x3, view_newest app x3, low, newest_least (end_mark app x3) (card_days app x3)) in
      let rest = use_renews x1 still x2 mended x3 noted x4 y shut side in
      let first = noted_renews x1 still x2 mended x3 noted in
      in_beside app sound x4 y side.0 side.1 shut.points ∙ in_ ∙ omega (arith, more, rest.newest, first.newest)

  -- no entry is open at its end
  pub ends_shut : (y : List ℕ) → InsertsOpen app registration odometer owed now x y → is_open (end_mark app y) (card_days app y) ≡ false
  ends_shut y (x1, still, (x2, mended, (x3, noted, (x4, shut, reopened)))) =
      let side = reopened_same app registration now long x4 y (room x1 still x2 mended x3 noted x4 shut) reopened in
      let fine = noted_fine app sound x fits registration long odometer now owed are_owed.0 valid open_ x1 still x2 mended x3 noted in
      let low : newest_word (card_days app x3) ≤ end_mark app x3 = noted_low app sound x fits registration long odometer now owed are_owed.0 valid open_ x1 still x2 mended x3 noted in
      open_beside app sound x4 y side.0 side.1 shut.points ∙ shut_open app sound x3 x4 (book_are app sound x3 fine low) (book_may app sound x3 fine low) shut

  -- ---- what stands behind the end mark

  pub ends_low : (y : List ℕ) → InsertsOpen app registration odometer owed now x y → (card_view app y).word ≤ end_mark app y
  ends_low y (x1, still, (x2, mended, (x3, noted, (x4, shut, reopened)))) =
      let low : newest_word (card_days app y) ≤ end_mark app y =
      use_low app sound x fits registration long odometer now owed are_owed.0 valid open_ x1 still x2 mended x3 noted x4 y shut
      (reopened_same app registration now long x4 y (room x1 still x2 mended x3 noted x4 shut) reopened) in
      omega (arith, view_word app y, low)

  pub moments_low : (y : List ℕ) → InsertingOpen app registration odometer owed now x y → session_time app y ≡ 0 → (card_view app y).word ≤ end_mark app y
  moments_low y inserting none = ⊎_elim
      (λ same. let is : nat_eq (session_time app x) 0 ≡ true = ap (λ (n : ℕ). nat_eq n 0) (sym same ∙ none) in absurd (cc))
      (λ low. let there : newest_word (card_days app y) ≤ end_mark app y = low in omega (arith, view_word app y, there))
      (stands app sound x fits registration long odometer now owed are_owed.0 valid open_ y inserting).1

  pub stored_stands : (y : List ℕ) → InsertingOpen app registration odometer owed now x y → (card_view app y).stored ≤ max (max (card_view app x).stored now) (60 * (card_view app y).newest)
  stored_stands y inserting = by (nat_eq (session_time app y) 0) refl
    where
      zero_is : (n : ℕ) → nat_eq n 0 ≡ true → n ≡ 0
      zero_is n is = grind (arith, nat_tests)

      by : (t : Bool) → nat_eq (session_time app y) 0 ≡ t → (card_view app y).stored ≤ max (max (card_view app x).stored now) (60 * (card_view app y).newest)
      by false is = omega (arith, stored_open app y is, (stands_newest y inserting).used, stored_least app x)
      by true is =
          let low = moments_low y inserting (zero_is (session_time app y) is) in
          omega (arith, stored_most app y, low, (stands_newest y inserting).used, stored_least app x)

-- ---- a card without a session

module _ (app : Application) (sound : IsApplication app) (x : List ℕ) (fits : image_size_of app ≤ length x) (registration : Registration) (long : length registration.0 ≡ 15) (now : ℕ) (valid : IsValid app x) (none : session_time app x ≡ 0) where
  module _ (y : List ℕ) (still : IsStill app x y) where
    same_is : book_of app y ≡ book_of app x
    same_is = told_book app (book_of app x) x y still

    closed_are : AreDays 0 (card_days app x)
    unfolding book_of
    closed_are = subst (λ (ds : List Day). AreDays 0 ds) still.told.0 still.holds.ordered

    pub x_may : IsOpenBook (book_of app x)
    unfolding book_of
    x_may =
        let both = closed_by_words app x closed_are (valid_words app x valid) (ap (λ (n : ℕ). nat_eq n 0) none) in
        record { ends = both.0; strict = both.1 }

    y_may : IsOpenBook (book_of app y)
    y_may = subst IsOpenBook (sym same_is) x_may

    words_renew : (z : List ℕ) → IsShutting app y z → Renews app x z
    words_renew z card =
        renews_then app x y z (renews_same app x y same_is)
        (renews_by app y z (close_newest app.activity sound.string_least (book_of app y) still.holds.ordered Rest y_may (book_of app z).days (book_of app z).vehicles card.holds.ordered card.told))

    shut_renew : (z : List ℕ) → IsShut app y z → Renews app x z
    shut_renew z card = words_renew z (record { outside = card.outside; holds = card.holds; points = card.points; told = inr card.told })

    shut_room : (z : List ℕ) → IsShut app y z → place_of app (file 0x0507) + 19 ≤ length z
    shut_room z card = omega (arith, use_inside app, fits, still.outside.same_length, card.outside.same_length)

    shut_in : (z : List ℕ) → IsShut app y z → newest_in (book_of app z) ≡ max (card_view app x).word (card_view app x).newest
    shut_in z card =
        let first = renews_same app x y same_is in
        let word : (card_view app y).word ≡ (card_view app x).word = view_word app y ∙ words_told app y ∙ ap (λ (k : Book). newest_word k.days) same_is ∙ sym (words_told app x) ∙ sym (view_word app x) in
        ap newest_in (told_book app (closed app.activity Rest (book_of app y)) y z card)
        ∙ closed_in app.activity sound.string_least (book_of app y) still.holds.ordered Rest y_may
        ∙ sym (both_told app y) ∙ ap (λ (n : ℕ). max n (card_view app y).newest) word ∙ ap (λ (n : ℕ). max (card_view app x).word n) first.newest

  pub closed_renews : (y : List ℕ) → InsertingClosed app registration now x y → Renews app x y
  closed_renews y (inl still) = renews_same app x y (same_is y still)
  closed_renews y (inr (x1, still, inl shutting)) = words_renew x1 still y shutting
  closed_renews y (inr (x1, still, inr (x2, shut, opening))) =
      let side = opening_same app registration now long x2 y (shut_room x1 still x2 shut) opening in
      renews_then app x x2 y (shut_renew x1 still x2 shut) (renews_beside app sound x2 y side.0 side.1 shut.points)

  pub closed_answered : (y : List ℕ) → InsertsClosed app registration now x y → newest_in (book_of app y) ≡ max (card_view app x).word (card_view app x).newest
  closed_answered y (x1, still, (x2, shut, opened)) =
      let side = opened_same app registration now long x2 y (shut_room x1 still x2 shut) opened in
      in_beside app sound x2 y side.0 side.1 shut.points ∙ shut_in x1 still x2 shut

  pub closed_shut : (y : List ℕ) → InsertsClosed app registration now x y → is_open (end_mark app y) (card_days app y) ≡ false
  closed_shut y (x1, still, (x2, shut, opened)) =
      let side = opened_same app registration now long x2 y (shut_room x1 still x2 shut) opened in
      open_beside app sound x2 y side.0 side.1 shut.points ∙ shut_open app sound x1 x2 still.holds.ordered (y_may x1 still) shut

  pub closed_stored : (y : List ℕ) → InsertingClosed app registration now x y → (card_view app y).stored ≤ max (max (card_view app x).stored now) (60 * (card_view app y).newest)
  closed_stored y inserting = by (nat_eq (session_time app y) 0) refl
    where
      renews : Renews app x y
      renews = closed_renews y inserting

      used : last_use app y ≤ max (card_view app x).stored (60 * (card_view app y).newest)
      used = ⊎_elim
          (λ same. omega (arith, same, stored_least app x))
          (λ at. omega (arith, at, renews.newest)) renews.used

      later : (n m : ℕ) → n ≤ m → min 4294967295 (60 * n) ≤ min 4294967295 (60 * m)
      later n m le = omega (arith, le)

      by : (t : Bool) → nat_eq (session_time app y) 0 ≡ t → (card_view app y).stored ≤ max (max (card_view app x).stored now) (60 * (card_view app y).newest)
      by false is = omega (arith, stored_open app y is, used)
      by true is = ⊎_elim
          (λ old.
          omega (
            arith,
            stored_shut app y is,
            stored_shut app x (ap (λ (n : ℕ). nat_eq n 0) none),
            used,
            later (newest_word (card_days app y)) (newest_word (card_days app x)) (omega (arith, old, view_word app x, view_word app y)),
          ))
          (λ new. omega (arith, stored_most app y, used, new, renews.newest))
          (either (card_view app y).word (card_view app x).word (card_view app x).newest renews.word)
        where
          either : (n a b : ℕ) → n ≤ max a b → (n ≤ a) ⊎ (n ≤ b)
          either n a b le = ⊎_elim (λ low. inr (omega (arith, le, low))) (λ high. inl (omega (arith, le, high))) (cases_lt a b)
