-- A card that would be valid, were its session ended: so it is at the end of an insertion and of a keep, and then a withdrawal leaves it valid.
use Rattle.std.proofs.Common.{◌≡◌, ◌≢◌, inl, inr, ℕ, suc, ◌*◌, ◌≤◌, Bool, true, false, cond, List, length, refl, sym, ◌∙◌, ap, subst, arith}
use Rattle.std.specs.Prelude.{nat_eq}
use Rattle.activity_codec.specs.declared.values.Activity.{Activity}
use Rattle.activity_codec.specs.declared.values.Activity.TheVariants.{Rest}
use Rattle.activity_codec.specs.declared.entries.Entry.{Entry}
use Rattle.tacho_types.specs.declared.texts.Registration.{Registration}
use Rattle.card_layout.specs.declared.files.Application.{Application}
use Rattle.card_layout.specs.Application.{IsApplication}
use Rattle.card_layout.specs.Files.{image_size_of}
use Rattle.card_days.specs.card_model.Days.{Day, AreDays}
use Rattle.card_days.specs.card_model.Changes.{trimmed}
use Rattle.card_validity.specs.card_retention.Shown.{is_open}
use Rattle.card_validity.specs.card_image.Fields.{vehicle_ring, card_days, end_mark, session_time}
use Rattle.card_validity.specs.card_image.Beside.{HaveSameSizes, HaveSamePlacePointer}
use Rattle.card_validity.specs.card_image.Judging.{IsValid}
use Rattle.card_validity.proofs.card_image.Beside.{days_same}
use Rattle.card_session.specs.Vehicles.{Vehicles}
use Rattle.card_session.specs.Books.{Book, mark_of, closed, closed_days, last_used}
use Rattle.card_session.specs.Sessions.{EndsStrictly, IsOpenBook, book_of}
use Rattle.card_session.specs.Moments.{IsBook, IsKeepMoment}
use Rattle.card_session.specs.Cards.{IsCard, ended, MayEnd}
use Rattle.card_session.specs.Parts.{IsBeforeGapOf}
use Rattle.card_session.specs.Inserting.{AreOwed, IsStill, IsShut, InsertsOpen, InsertsClosed}
use Rattle.gated_ring.specs.Ring.{PointsInside}
use Rattle.card_session.proofs.Composing.{told_book}
use Rattle.card_session.proofs.Marks.{sizes_still, mark_told}
use Rattle.card_session.proofs.Stopping.{book_days, session_ends, ended_same, ended_days, ended_mark}
use Rattle.card_session.proofs.Valid.{places_still, valid_strict, keep_strict, close_strict, closed_low}
use Rattle.card_session.proofs.NewestStays.{open_low, view_word}
use Rattle.card_session.proofs.InsertingUse.{use_inside}
use Rattle.card_session.proofs.InsertingOpen.{Same, opened_same}
use Rattle.card_session.proofs.InsertingAgain.{Keeps, ended_keeps, inserting_keeps}
use Rattle.card_session.proofs.Repairing.{mark_beside}
use Rattle.card_session.proofs.Revalid.{Fine, Low, card_fine, beside_fine, beside_low, low_told, fine_low, stands}
use Rattle.card_session.proofs.ShutValid.{same_valid, strict_book}
use Rattle.card_session.proofs.Ends.{open_end, closed_end}
use Rattle.card_session.proofs.Renewing.{keep_word, ends_low, x_may}

-- what the days of one book are of another
days_as : (app : Application) (x y : List ℕ) → book_of app y ≡ book_of app x → card_days app y ≡ card_days app x
unfolding book_of
days_as app x y is = ap (λ (k : Book). k.days) is

mark_as : (app : Application) (x y : List ℕ) → book_of app y ≡ book_of app x → end_mark app y ≡ end_mark app x
unfolding book_of
mark_as app x y is = ap (λ (k : Book). mark_of k) is

-- the sizes and the pointer of places are those of another
abbrev Judged : Application → List ℕ → List ℕ → Type 0
Judged app x y = HaveSameSizes app x y × HaveSamePlacePointer app x y

module _ (app : Application) (sound : IsApplication app) (y : List ℕ) (fits : image_size_of app ≤ length y) where
  ended_keep : Keeps app y (ended app y)
  ended_keep = ended_keeps app y (ended app y) (omega (arith, fits, use_inside app)) refl

  ended_judged : (x : List ℕ) → Judged app x y → Judged app x (ended app y)
  ended_judged x same = (ended_keep.0 ∙ same.0, ended_keep.3 ∙ same.1)

  module _ (fine : Fine app y) where
    ended_fine : Fine app (ended app y)
    ended_fine = let side = ended_same app sound y fits fine.points in beside_fine app sound y (ended app y) side.0 side.1 fine

    -- no word stands behind the end mark
    low_ends : (x : List ℕ) → IsValid app x → Judged app x y → Low app y → MayEnd app y
    low_ends x valid same low =
        let side = ended_same app sound y fits fine.points in
        let there = ended_judged x same in
        fine_low app x (ended app y) valid there.0 there.1 ended_fine (beside_low app sound y (ended app y) side.0 side.1 fine low)

    -- or the days and the end mark are those of a card without a session
    same_ends : (x : List ℕ) → IsValid app x → session_time app x ≡ 0 → AreDays 0 (card_days app x) → Judged app x y → card_days app y ≡ card_days app x → end_mark app y ≡ end_mark app x → MayEnd app y
    same_ends x valid none are same days mark =
        let there = ended_judged x same in
        same_valid app x valid none are (ended app y) (ended_days app sound y fits fine.points ∙ days) (ended_mark app sound y fits fine.points ∙ mark) ended_fine there.0 there.1

-- ---- a keep

module _ (app : Application) (sound : IsApplication app) (x : List ℕ) (fits : image_size_of app ≤ length x) (valid : IsValid app x) (open_ : nat_eq (session_time app x) 0 ≡ false) (ordered : AreDays 0 (book_of app x).days) where
  strict_there : EndsStrictly (trimmed (mark_of (book_of app x)) (book_of app x).days)
  strict_there =
      subst (λ (ds : List Day). EndsStrictly (trimmed (mark_of (book_of app x)) ds)) (sym (book_days app x))
      (subst (λ (n : ℕ). EndsStrictly (trimmed n (card_days app x))) (mark_told app x) (valid_strict app x valid (subst (λ (ds : List Day). AreDays 0 ds) (book_days app x) ordered) open_))

  card_judged : (P : List Day → Vehicles → Type 0) (y : List ℕ) → IsCard app P x y → Judged app x y
  card_judged P y card = (sizes_still app P x y card, places_still app x valid sound fits y P card)

  -- once its end mark has moved
  pub keep_ends : (registration : Registration) (odometer more : ℕ) (e : Entry) (y : List ℕ) → IsBeforeGapOf e.minute (book_of app x)
      → IsCard app (IsKeepMoment app.activity registration odometer more e (book_of app x)) x y → end_mark app y ≡ e.minute → MayEnd app y
  keep_ends registration odometer more e y before card at =
      low_ends app sound y (omega (arith, fits, card.outside.same_length))
      (card_fine app sound (IsKeepMoment app.activity registration odometer more e (book_of app x)) x y fits card
      (keep_strict app.activity sound.string_least (book_of app x) ordered strict_there e before registration odometer more (book_of app y).days (book_of app y).vehicles card.holds.ordered card.told))
      x valid (card_judged (IsKeepMoment app.activity registration odometer more e (book_of app x)) y card)
      (omega (arith, view_word app y, at, keep_word app x registration odometer more e y card sound ordered before at))

  -- ---- a withdrawal

  pub closed_ends : (act : Activity) (k y : List ℕ) → PointsInside (vehicle_ring app) x → IsOpenBook (book_of app x) → MayEnd app x → IsCard app (IsBook (closed app.activity act (book_of app x))) x k → y ≡ ended app k → IsValid app y
  closed_ends act k y points may ends card is = subst (IsValid app) (sym is) (by (is_open (mark_of (book_of app x)) (book_of app x).days) refl)
    where
      room : image_size_of app ≤ length k
      room = omega (arith, fits, card.outside.same_length)

      book_is : book_of app k ≡ closed app.activity act (book_of app x)
      book_is = told_book app (closed app.activity act (book_of app x)) x k card

      fine : Fine app k
      fine =
          card_fine app sound (IsBook (closed app.activity act (book_of app x))) x k fits card
          (close_strict app.activity sound.string_least (book_of app x) ordered act may strict_there (book_of app k).days (book_of app k).vehicles card.holds.ordered (inr card.told))

      marked : Book
      marked = record { days = closed_days app.activity (mark_of (book_of app x)) act (book_of app x).days; vehicles = last_used (60 * suc (mark_of (book_of app x))) (book_of app x).vehicles }

      by : (o : Bool) → is_open (mark_of (book_of app x)) (book_of app x).days ≡ o → IsValid app (ended app k)
      by true is =
          low_ends app sound k room fine x valid (card_judged (IsBook (closed app.activity act (book_of app x))) k card)
          (low_told app k (closed app.activity act (book_of app x)) book_is
          (closed_low app.activity sound.string_least (book_of app x) ordered act may (open_low app.activity sound.string_least (book_of app x) ordered act may is)))
      by false is =
          let still : book_of app k ≡ book_of app x = book_is ∙ ap (λ (o : Bool). cond o marked (book_of app x)) is in
          let zero = ended_keep app sound x fits in
          let same = card_judged (IsBook (closed app.activity act (book_of app x))) k card in
          let days : card_days app (ended app x) ≡ card_days app x = ended_days app sound x fits points in
          same_ends app sound k room fine (ended app x) ends (session_ends app x fits) (subst (λ (ds : List Day). AreDays 0 ds) (book_days app x ∙ sym days) ordered)
          (same.0 ∙ sym zero.0, same.1 ∙ sym zero.3)
          (days_as app x k still ∙ sym days) (mark_as app x k still ∙ sym (ended_mark app sound x fits points))

-- ---- an insertion

module _ (app : Application) (sound : IsApplication app) (x : List ℕ) (fits : image_size_of app ≤ length x) (registration : Registration) (long : length registration.0 ≡ 15) (odometer now : ℕ) (owed : List Entry) (valid : IsValid app x) where
  -- of a card whose session was left open
  pub open_ends : (are_owed : AreOwed now owed) → nat_eq (session_time app x) 0 ≡ false → session_time app x ≢ 0
      → (y : List ℕ) → InsertsOpen app registration odometer owed now x y → MayEnd app y
  open_ends are_owed open_ some y inserts =
      let moment = open_end app registration odometer now owed x y inserts in
      let same = inserting_keeps app registration odometer now owed long x y (omega (arith, use_inside app, fits)) (inr (some, moment)) in
      let low = ends_low app sound x fits registration long odometer now owed are_owed valid open_ y inserts in
      low_ends app sound y (omega (arith, fits, same.1)) (stands app sound x fits registration long odometer now owed are_owed.0 valid open_ y moment).0 x valid (same.0, same.3)
      (omega (arith, view_word app y, low))

  -- of one without a session
  module _ (none : session_time app x ≡ 0) where
    module _ (x1 : List ℕ) (still : IsStill app x x1) (x2 : List ℕ) (shut : IsShut app x1 x2) where
      one_is : book_of app x1 ≡ book_of app x
      one_is = told_book app (book_of app x) x x1 still

      two_is : book_of app x2 ≡ closed app.activity Rest (book_of app x)
      two_is = told_book app (closed app.activity Rest (book_of app x1)) x1 x2 shut ∙ ap (closed app.activity Rest) one_is

      may : IsOpenBook (book_of app x)
      may = x_may app sound x fits registration long now valid none x1 still

      x_are : AreDays 0 (book_of app x).days
      x_are = subst (λ (k : Book). AreDays 0 k.days) one_is still.holds.ordered

      card_are : AreDays 0 (card_days app x)
      card_are = subst (λ (ds : List Day). AreDays 0 ds) (book_days app x) x_are

      room_one : image_size_of app ≤ length x1
      room_one = omega (arith, fits, still.outside.same_length)

      two_fine : Fine app x2
      two_fine =
          card_fine app sound (IsBook (closed app.activity Rest (book_of app x1))) x1 x2 room_one shut
          (close_strict app.activity sound.string_least (book_of app x) x_are Rest may (strict_book app x valid none card_are) (book_of app x2).days (book_of app x2).vehicles shut.holds.ordered
          (inr (subst (λ (k : Book). IsBook (closed app.activity Rest k) (book_of app x2).days (book_of app x2).vehicles) one_is shut.told)))

      module _ (y : List ℕ) (side : Same app x2 y) (same : Judged app x y) (size : length y ≡ length x) where
        y_fine : Fine app y
        y_fine = beside_fine app sound x2 y side.0 side.1 two_fine

        y_room : image_size_of app ≤ length y
        y_room = omega (arith, fits, size)

        shut_ends : MayEnd app y
        shut_ends = by (is_open (mark_of (book_of app x)) (book_of app x).days) refl
          where
            marked : Book
            marked = record { days = closed_days app.activity (mark_of (book_of app x)) Rest (book_of app x).days; vehicles = last_used (60 * suc (mark_of (book_of app x))) (book_of app x).vehicles }

            by : (o : Bool) → is_open (mark_of (book_of app x)) (book_of app x).days ≡ o → MayEnd app y
            by true is =
                low_ends app sound y y_room y_fine x valid same
                (beside_low app sound x2 y side.0 side.1 two_fine
                (low_told app x2 (closed app.activity Rest (book_of app x)) two_is (closed_low app.activity sound.string_least (book_of app x) x_are Rest may (open_low app.activity sound.string_least (book_of app x) x_are Rest may is))))
            by false is =
                let whole : book_of app x2 ≡ book_of app x = two_is ∙ ap (λ (o : Bool). cond o marked (book_of app x)) is in
                same_ends app sound y y_room y_fine x valid none card_are same (days_same app x2 y side.0 ∙ days_as app x x2 whole)
                (mark_beside app sound x2 y side.0 side.1 shut.points ∙ mark_as app x x2 whole)

    pub none_ends : (y : List ℕ) → InsertsClosed app registration now x y → MayEnd app y
    none_ends y (x1, still, (x2, shut, opened)) =
        let keeps = inserting_keeps app registration odometer now owed long x y (omega (arith, use_inside app, fits)) (inl (none, closed_end app registration odometer now owed x y (x1, still, (x2, shut, opened)))) in
        let side = opened_same app registration now long x2 y (omega (arith, use_inside app, fits, still.outside.same_length, shut.outside.same_length)) opened in
        shut_ends x1 still x2 shut y side (keeps.0, keeps.3) keeps.1
