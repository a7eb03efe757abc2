-- What a stop in an insertion leaves of a card, by the stated overwriting.
use Rattle.std.proofs.Common.{◌≡◌, inl, inr, ⊎_elim, ℕ, suc, ◌+◌, ◌*◌, ◌/◌, ◌<◌, ◌≤◌, max, Bool, true, false, cond, List, [], ◌∷◌, ◌++◌, length, refl, sym, ◌∙◌, ap, subst, arith}
use Rattle.std.specs.Prelude.{◌⊎◌, nat_eq, nat_lt}
use Rattle.std.proofs.lemmas.Bool.{ltb-true, lt-ltb, le-ltb}
use Rattle.std.specs.List.{AllByRecursion}
use Rattle.std.proofs.lemmas.Bool.Decides.{nat_tests}
use Rattle.std.proofs.lemmas.List.{append-nil}
use Rattle.std.proofs.lemmas.List.Elements.{recursion_from_All, All-from_recursion}
use Rattle.activity_codec.specs.declared.values.Activity.TheVariants.{Rest}
use Rattle.activity_codec.specs.declared.entries.Entry.{Entry}
use Rattle.tacho_types.specs.declared.texts.Registration.{Registration}
use Rattle.card_layout.specs.declared.files.Application.{Application}
use Rattle.card_layout.specs.Application.{IsApplication}
use Rattle.card_layout.specs.Files.{image_size_of, place_of}
use Rattle.card_days.specs.card_model.Days.{Day, AreDays}
use Rattle.card_days.specs.card_model.Changes.{trimmed}
use Rattle.card_days.proofs.card_model.Trims.{trim_from_moment, trimmed_twice}
use Rattle.card_validity.specs.card_retention.Expected.{Counted}
use Rattle.card_validity.specs.card_retention.Entries.{newest_minute, newest_word}
use Rattle.card_validity.specs.card_retention.Shown.{Bound, Rests, Lives, is_open}
use Rattle.card_validity.proofs.card_retention.Stops.{stop_none}
use Rattle.card_validity.proofs.card_retention.Closing.{lives_trimmed}
use Rattle.card_validity.proofs.card_retention.Moments.{rests_later}
use Rattle.gated_ring.specs.Ring.{PointsInside}
use Rattle.card_validity.specs.card_image.Fields.{file, vehicle_ring, card_days, end_mark, session_time}
use Rattle.card_validity.specs.card_image.Beside.{HaveSameDays, HaveSameVehicles}
use Rattle.card_validity.specs.card_image.Judging.{IsValid}
use Rattle.card_validity.proofs.card_image.Beside.{days_same, last_use_same, session_same as session_beside}
use Rattle.card_session.specs.Vehicles.{Vehicles, last_use_in}
use Rattle.card_session.specs.Books.{Book, mark_of, closed_days, last_used}
use Rattle.card_session.specs.Sessions.{book_of}
use Rattle.card_session.specs.Moments.{IsBook, IsCloseMoment}
use Rattle.card_session.specs.Inserting.{Follow, lacked, with_cut, with_owed, IsBeforeAll, EndsCut, repaired, IsRepairMoment, IsStill, IsRepaired, IsRepairing, IsNoted, IsNoting, IsShut, IsShutting, InsertsClosed, InsertingClosed, InsertsOpen, InsertingOpen}
use Rattle.card_session.specs.Overwriting.{DaysFollowOverwriting, IsRepairable}
use Rattle.card_session.specs.Repairs.{first_minute, mark_behind, and_entries, with_entries, HasFirst, BeginsLater, lacked_by, ShowsFirst, ShowsOwed}
use Rattle.card_session.proofs.Composing.{told_book}
use Rattle.card_session.proofs.Preparing.{used_at}
use Rattle.card_session.proofs.Marks.{session_same}
use Rattle.card_session.proofs.Stopping.{close_leaves, closed_leaves}
use Rattle.card_session.proofs.Valid.{valid_strict}
use Rattle.card_session.proofs.InsertingBooks.{lacked_follow, lacked_each, each_as, follow_from, trimmed_low, cut_ready}
use Rattle.card_session.proofs.InsertingCards.{noted_same, noting_same}
use Rattle.card_session.proofs.InsertingUse.{use_inside}
use Rattle.card_session.proofs.InsertingOpen.{Same, opening_same, reopening_same, opened_same, reopened_same}
use Rattle.card_session.proofs.InsertingAgain.{noted_keeps}
use Rattle.card_session.proofs.Replaying.{replay_lives, replay_stops, replay_low}

-- ---- of books

up_to : (m next : ℕ) (es : List Entry) → Follow m es → mark_behind m es < next → AllByRecursion (λ e. e.minute < next) es × (m < next)
up_to m next [] follow low = (tt, low)
up_to m next (e ∷ es) follow low =
    let later = up_to e.minute next es follow.1 low in
    ((later.1, later.0), omega (arith, follow.0, later.1))

pub owed_at : (size : ℕ) (registration : Registration) (odometer : ℕ) (es : List Entry) (b : Book) → mark_of (with_owed size registration odometer es b) ≡ mark_behind (mark_of b) es
owed_at size registration odometer [] b = refl
owed_at size registration odometer (e ∷ es) b = owed_at size registration odometer es _ ∙ ap (λ (m : ℕ). mark_behind m es) (used_at registration odometer e.minute b.vehicles)

bytes_same : (slack : Bound) (es : List Entry) → (and_entries slack es).bytes ≡ slack.bytes
bytes_same slack [] = refl
bytes_same slack (e ∷ es) = bytes_same _ es

-- what a card lacks once the first of those that it lacked are on it
behind_later : (m : ℕ) (done rest : List Entry) → Follow m (done ++ rest) → m ≤ mark_behind m done
behind_later m [] rest follow = omega arith
behind_later m (d ∷ done) rest follow = omega (arith, follow.0, behind_later d.minute done rest follow.1)

rest_lacked : (m : ℕ) (done rest : List Entry) → Follow m (done ++ rest) → lacked (mark_behind m done) (done ++ rest) ≡ rest
rest_lacked m [] [] follow = refl
rest_lacked m [] (e ∷ es) follow = ap (λ (b : Bool). cond b (e ∷ es) (lacked m es)) (lt-ltb m e.minute follow.0)
rest_lacked m (d ∷ done) rest follow =
    ap (λ (b : Bool). cond b (d ∷ (done ++ rest)) (lacked (mark_behind d.minute done) (done ++ rest))) (le-ltb (mark_behind d.minute done) d.minute (behind_later d.minute done rest follow.1))
    ∙ rest_lacked d.minute done rest follow.1

pub lacked_again : (low m : ℕ) (owed done rest : List Entry) → Follow low owed → lacked m owed ≡ done ++ rest → lacked (mark_behind m done) owed ≡ rest
lacked_again low m [] [] rest follow is = is
lacked_again low m [] (d ∷ done) rest follow is = absurd (cc)
lacked_again low m (e ∷ es) done rest follow is = by (nat_lt m e.minute) refl is (lacked_again e.minute m es done rest follow.1)
  where
    by : (b : Bool) → nat_lt m e.minute ≡ b → cond b (e ∷ es) (lacked m es) ≡ done ++ rest → (lacked m es ≡ done ++ rest → lacked (mark_behind m done) es ≡ rest) → lacked (mark_behind m done) (e ∷ es) ≡ rest
    by true late whole again =
        let all : Follow m (done ++ rest) = subst (Follow m) whole (ltb-true m e.minute late, follow.1) in
        ap (lacked (mark_behind m done)) whole ∙ rest_lacked m done rest all
    by false early whole again =
        let all : Follow m (done ++ rest) = subst (Follow m) whole (lacked_follow e.minute m es follow.1) in
        ap (λ (b : Bool). cond b (e ∷ es) (lacked (mark_behind m done) es)) (le-ltb (mark_behind m done) e.minute (early_behind m e.minute (mark_behind m done) early (behind_later m done rest all))) ∙ again whole
      where
        early_behind : (m n k : ℕ) → nat_lt m n ≡ false → m ≤ k → n ≤ k
        early_behind m n k is le = grind (arith, nat_tests)

-- no owed entry is of the first day
pub lacked_many : (mark : ℕ) (owed : List Entry) → Follow 1439 owed → AllByRecursion (λ e. 1440 ≤ e.minute) (lacked mark owed)
lacked_many mark owed ordered =
    recursion_from_All (λ e. 1440 ≤ e.minute) (lacked mark owed) (lacked_each (λ e. 1440 ≤ e.minute) mark owed
    (each_as (λ e. 1439 < e.minute) (λ e. 1440 ≤ e.minute) owed (λ e low. omega (arith, low)) (All-from_recursion (λ e. 1439 < e.minute) owed (follow_from 1439 1439 owed (omega arith) ordered))))

-- the newest minute once the words are closed
newest_short : (mark next : ℕ) (days : List Day) → newest_word days ≤ mark → suc mark < next → newest_minute mark days < next
newest_short mark next days low enough = by (is_open mark days)
  where
    by : (o : Bool) → cond o (suc mark) (max mark (newest_word days)) < next
    by true = enough
    by false = omega (arith, low, enough)

module _ (size : ℕ) (long : 5544 ≤ size) (registration : Registration) (odometer covered : ℕ) (b : Book) (are : AreDays 0 b.days) (strict : EndsCut b) (owed : List Entry) (ordered : Follow 1439 owed)
    (slack : Bound) (from next : ℕ) (c : Counted) (rests : Rests size slack covered from (mark_of b) c (trimmed (mark_of b) b.days)) (least : 16 ≤ slack.bytes) (later : from ≤ first_minute next (lacked (mark_of b) owed))
    (enough : suc (mark_behind (mark_of b) (lacked (mark_of b) owed)) < next) where
  abbrev ls : List Entry
  ls = lacked (mark_of b) owed

  abbrev cut : Book
  cut = with_cut (mark_of b) b

  before : IsBeforeAll ls cut
  before = cut_ready 1439 (mark_of b) owed b are refl strict ordered

  many : AllByRecursion (λ e. 1440 ≤ e.minute) ls
  many = lacked_many (mark_of b) owed ordered

  up : AllByRecursion (λ e. e.minute < next) ls
  up = (up_to (mark_of b) next ls (lacked_follow 1439 (mark_of b) owed ordered) (omega (arith, enough))).0

  cut_lives : Lives size slack covered from (mark_of b) c (trimmed (mark_of b) b.days)
  cut_lives = lives_trimmed size slack covered from (mark_of b) c b.days rests

  pub repair_lives : Lives size (and_entries slack ls) covered next (mark_of (repaired size registration odometer owed b)) (with_entries covered c ls) (repaired size registration odometer owed b).days
  repair_lives = replay_lives size long registration odometer covered ls slack from next c cut cut_lives least before many up later

  pub repair_newest : newest_minute (mark_of (repaired size registration odometer owed b)) (repaired size registration odometer owed b).days < next
  repair_newest =
      let at : mark_of (repaired size registration odometer owed b) ≡ mark_behind (mark_of b) ls = owed_at size registration odometer ls cut in
      newest_short (mark_of (repaired size registration odometer owed b)) next (repaired size registration odometer owed b).days
      (replay_low size long registration odometer covered ls cut cut_lives.rests.ordered (trimmed_low (mark_of b) b.days are) before many)
      (omega (arith, at, enough))

  -- none of them is there yet
  pub none_yet : (ds : List Day) (v : Vehicles) → v ≡ b.vehicles → trimmed (mark_of b) ds ≡ trimmed (mark_of b) b.days → HasFirst size slack covered next (mark_of b) c ls (last_use_in v / 60) ds
  none_yet ds v same whole =
      let at : last_use_in v / 60 ≡ mark_of b = ap (λ (o : Vehicles). last_use_in o / 60) same in
      record {
        done = [];
        rest = ls;
        split = refl;
        behind = at;
        shows = subst (λ (n : ℕ). Rests size slack covered (first_minute next ls) n c (trimmed n ds)) (sym at)
            (subst (λ (l : List Day). Rests size slack covered (first_minute next ls) (mark_of b) c l) (sym whole) (rests_later size slack covered from (first_minute next ls) (mark_of b) c (trimmed (mark_of b) b.days) later rests));
      }

  pub repair_stops : BeginsLater (mark_of b) ls (trimmed (mark_of b) b.days) → (ds : List Day) (v : Vehicles) → AreDays 0 ds → IsRepairMoment size registration odometer owed b ds v → HasFirst size slack covered next (mark_of b) c ls (last_use_in v / 60) ds
  repair_stops begins ds v ordered (inl cutting) =
      none_yet ds v cutting.1 (⊎_elim (λ shorter. trim_from_moment (mark_of b) b.days ds shorter) (λ done. ap (trimmed (mark_of b)) done ∙ trimmed_twice (mark_of b) b.days) cutting.0)
  repair_stops begins ds v ordered (inr replaying) = replay_stops size long registration odometer covered ls slack from next c cut cut_lives least before many up later begins ds v ordered replaying

-- all of them are there
all_there : (size : ℕ) (slack : Bound) (covered next mark : ℕ) (c : Counted) (es : List Entry) (now : ℕ) (days : List Day) → now ≡ mark_behind mark es → Rests size (and_entries slack es) covered next now (with_entries covered c es) (trimmed now days)
    → HasFirst size slack covered next mark c es now days
all_there size slack covered next mark c es now days at shows = record { done = es; rest = []; split = sym (append-nil es); behind = at; shows = shows }

-- ---- a write elsewhere

module _ (app : Application) (sound : IsApplication app) (x c : List ℕ) (days : HaveSameDays app x c) (vehicles : HaveSameVehicles app x c) (points : PointsInside (vehicle_ring app) x) where
  pub mark_beside : end_mark app c ≡ end_mark app x
  mark_beside = ap (λ (n : ℕ). n / 60) (last_use_same app x c sound points vehicles)

  goes_beside : (slack : Bound) (covered from : ℕ) (k : Counted) → DaysFollowOverwriting app slack covered from k x → DaysFollowOverwriting app slack covered from k c
  goes_beside slack covered from k goes =
      subst (λ (ds : List Day). Lives app.activity slack covered from (end_mark app c) k ds) (sym (days_same app x c days))
      (subst (λ (n : ℕ). Lives app.activity slack covered from n k (card_days app x)) (sym mark_beside) goes)

  first_beside : (slack : Bound) (covered next mark : ℕ) (k : Counted) (es : List Entry) → HasFirst app.activity slack covered next mark k es (end_mark app x) (card_days app x) → HasFirst app.activity slack covered next mark k es (end_mark app c) (card_days app c)
  first_beside slack covered next mark k es first =
      subst (λ (ds : List Day). HasFirst app.activity slack covered next mark k es (end_mark app c) ds) (sym (days_same app x c days))
      (subst (λ (n : ℕ). HasFirst app.activity slack covered next mark k es n (card_days app x)) (sym mark_beside) first)

  newest_beside : (next : ℕ) → newest_minute (end_mark app x) (card_days app x) < next → newest_minute (end_mark app c) (card_days app c) < next
  newest_beside next low =
      subst (λ (ds : List Day). newest_minute (end_mark app c) ds < next) (sym (days_same app x c days))
      (subst (λ (n : ℕ). newest_minute n (card_days app x) < next) (sym mark_beside) low)

-- ---- a card, as its book tells

module _ (app : Application) (slack : Bound) (covered next : ℕ) (c : Counted) (y : List ℕ) where
  lives_told : (b : Book) → book_of app y ≡ b → Lives app.activity slack covered next (mark_of b) c b.days → DaysFollowOverwriting app slack covered next c y
  unfolding book_of
  lives_told b is l = subst (λ (k : Book). Lives app.activity slack covered next (mark_of k) c k.days) (sym is) l

  newest_told : (b : Book) → book_of app y ≡ b → newest_minute (mark_of b) b.days < next → newest_minute (end_mark app y) (card_days app y) < next
  unfolding book_of
  newest_told b is low = subst (λ (k : Book). newest_minute (mark_of k) k.days < next) (sym is) low

  first_told : (mark : ℕ) (es : List Entry) → HasFirst app.activity slack covered next mark c es (last_use_in (book_of app y).vehicles / 60) (book_of app y).days → HasFirst app.activity slack covered next mark c es (end_mark app y) (card_days app y)
  unfolding book_of
  first_told mark es first = first

-- ---- a card whose session was left open

module _ (app : Application) (sound : IsApplication app) (x : List ℕ) (fits : image_size_of app ≤ length x) (registration : Registration) (long : length registration.0 ≡ 15) (odometer now : ℕ) (owed : List Entry) (ordered : Follow 1439 owed)
    (slack : Bound) (covered from next : ℕ) (c : Counted) (least : 16 ≤ slack.bytes) where
  abbrev b : Book
  b = book_of app x

  abbrev lacks : List Entry
  lacks = lacked (mark_of (book_of app x)) owed

  abbrev full : Book
  full = repaired app.activity registration odometer owed (book_of app x)

  -- what is asked of it, by its book
  pub record Asked : Type 0 where
    pub are : AreDays 0 (book_of app x).days
    pub strict : EndsCut (book_of app x)
    pub rests : Rests app.activity slack covered from (mark_of (book_of app x)) c (trimmed (mark_of (book_of app x)) (book_of app x).days)
    pub later : from ≤ first_minute next lacks
    pub enough : suc (mark_behind (mark_of (book_of app x)) lacks) < next
    pub begins : BeginsLater (mark_of (book_of app x)) lacks (trimmed (mark_of (book_of app x)) (book_of app x).days)

  abbrev First : List ℕ → Type 0
  First y = (session_time app y ≡ session_time app x) × HasFirst app.activity slack covered next (mark_of (book_of app x)) c lacks (end_mark app y) (card_days app y)

  abbrev All_on : List ℕ → Type 0
  All_on y = DaysFollowOverwriting app (and_entries slack lacks) covered next (with_entries covered c lacks) y

  module _ (asked : Asked) where
    -- the repair is done
    full_goes : (y : List ℕ) → book_of app y ≡ full → All_on y
    full_goes y is =
        lives_told app (and_entries slack lacks) covered next (with_entries covered c lacks) y full is
        (repair_lives app.activity sound.string_least registration odometer covered b asked.are asked.strict owed ordered slack from next c asked.rests least asked.later asked.enough)

    full_newest : (y : List ℕ) → book_of app y ≡ full → newest_minute (end_mark app y) (card_days app y) < next
    full_newest y is =
        newest_told app slack covered next c y full is
        (repair_newest app.activity sound.string_least registration odometer covered b asked.are asked.strict owed ordered slack from next c asked.rests least asked.later asked.enough)

    full_mark : (y : List ℕ) → book_of app y ≡ full → end_mark app y ≡ mark_behind (mark_of b) lacks
    unfolding book_of
    full_mark y is = ap (λ (k : Book). mark_of k) is ∙ owed_at app.activity registration odometer lacks (with_cut (mark_of (book_of app x)) (book_of app x))

    goes_first : (y : List ℕ) → end_mark app y ≡ mark_behind (mark_of b) lacks → All_on y → HasFirst app.activity slack covered next (mark_of (book_of app x)) c lacks (end_mark app y) (card_days app y)
    goes_first y at goes =
        all_there app.activity slack covered next (mark_of b) c lacks (end_mark app y) (card_days app y) at
        (stop_none app.activity (and_entries slack lacks) covered next (end_mark app y) (with_entries covered c lacks) (card_days app y) goes next (omega arith) sound.string_least (omega (arith, least, bytes_same slack lacks)))

    -- behind it
    module _ (y : List ℕ) (same : session_time app y ≡ session_time app x) (size_y : length y ≡ length x) (is : book_of app y ≡ full) (points : PointsInside (vehicle_ring app) y) where
      noting_leaves : (z : List ℕ) → IsNoting app now y z → First z
      noting_leaves z noting =
          let beside = noting_same app now y z noting in
          (session_beside app y z beside.2 ∙ same, first_beside app sound y z beside.0 beside.1 points slack covered next (mark_of b) c lacks (goes_first y (full_mark y is) (full_goes y is)))

      module _ (z : List ℕ) (noted : IsNoted app now y z) where
        abbrev side : HaveSameDays app y z × HaveSameVehicles app y z
        side = ((noted_same app now y z noted).0, (noted_same app now y z noted).1)

        size_z : length z ≡ length x
        size_z = (noted_keeps app now y z (omega (arith, use_inside app, fits, size_y)) noted).1 ∙ size_y

        noted_goes : All_on z
        noted_goes = goes_beside app sound y z side.0 side.1 points (and_entries slack lacks) covered next (with_entries covered c lacks) (full_goes y is)

        noted_newest : newest_minute (end_mark app z) (card_days app z) < next
        noted_newest = newest_beside app sound y z side.0 side.1 points next (full_newest y is)

        noted_mark : end_mark app z ≡ mark_behind (mark_of b) lacks
        noted_mark = mark_beside app sound y z side.0 side.1 points ∙ full_mark y is

        shutting_leaves : (w : List ℕ) → IsShutting app z w → First w ⊎ All_on w
        shutting_leaves w card = ⊎_elim
            (λ old. inl (
              session_same app (IsCloseMoment app.activity Rest (book_of app z)) z w card ∙ session_beside app y z (noted_same app now y z noted).2 ∙ same,
              all_there app.activity slack covered next (mark_of b) c lacks (end_mark app w) (card_days app w) (old.0 ∙ noted_mark) old.1,
            ))
            (λ goes. inr goes)
            (close_leaves app sound z (and_entries slack lacks) covered next (with_entries covered c lacks) (omega (arith, least, bytes_same slack lacks)) noted_goes Rest next w (omega arith) noted_newest card)

        shut_goes : (w : List ℕ) → IsShut app z w → All_on w
        shut_goes w card =
            closed_leaves app sound z (and_entries slack lacks) covered next (with_entries covered c lacks) (omega (arith, least, bytes_same slack lacks)) noted_goes Rest next w (omega arith) noted_newest card.holds.ordered card.told

        -- the current use
        use_goes : (w v : List ℕ) → IsShut app z w → Same app w v → All_on v
        use_goes w v card beside = goes_beside app sound w v beside.0 beside.1 card.points (and_entries slack lacks) covered next (with_entries covered c lacks) (shut_goes w card)

        room : (w : List ℕ) → IsShut app z w → place_of app (file 0x0507) + 19 ≤ length w
        room w card = omega (arith, use_inside app, fits, size_z, card.outside.same_length)

    -- the end of a drop, and the repair
    still_leaves : (y : List ℕ) → IsStill app x y → First y
    still_leaves y card = (
      session_same app (IsBook b) x y card,
      first_told app slack covered next c y (mark_of b) lacks
          (none_yet app.activity sound.string_least registration odometer covered b asked.are asked.strict owed ordered slack from next c asked.rests least asked.later asked.enough (book_of app y).days (book_of app y).vehicles card.told.1
          (ap (trimmed (mark_of b)) card.told.0)),
    )

    repairing_leaves : (y z : List ℕ) → IsStill app x y → IsRepairing app registration odometer owed y z → First z
    repairing_leaves y z still card = (
      session_same app (IsRepairMoment app.activity registration odometer owed (book_of app y)) y z card ∙ session_same app (IsBook b) x y still,
      first_told app slack covered next c z (mark_of b) lacks
          (repair_stops app.activity sound.string_least registration odometer covered b asked.are asked.strict owed ordered slack from next c asked.rests least asked.later asked.enough asked.begins (book_of app z).days (book_of app z).vehicles card.holds.ordered
          (subst (λ (k : Book). IsRepairMoment app.activity registration odometer owed k (book_of app z).days (book_of app z).vehicles) (told_book app b x y still) card.told)),
    )

    module _ (y z : List ℕ) (still : IsStill app x y) (card : IsRepaired app registration odometer owed y z) where
      repaired_session : session_time app z ≡ session_time app x
      repaired_session = session_same app (IsBook (repaired app.activity registration odometer owed (book_of app y))) y z card ∙ session_same app (IsBook b) x y still

      repaired_size : length z ≡ length x
      repaired_size = card.outside.same_length ∙ still.outside.same_length

      repaired_is : book_of app z ≡ full
      repaired_is = told_book app (repaired app.activity registration odometer owed (book_of app y)) y z card ∙ ap (repaired app.activity registration odometer owed) (told_book app b x y still)

    -- AT EACH MOMENT
    pub open_leaves : (y : List ℕ) → InsertingOpen app registration odometer owed now x y → First y ⊎ All_on y
    open_leaves y (inl still) = inl (still_leaves y still)
    open_leaves y (inr (x1, still, inl repairing)) = inl (repairing_leaves x1 y still repairing)
    open_leaves y (inr (x1, still, inr (x2, mended, inl noting))) =
        inl (noting_leaves x2 (repaired_session x1 x2 still mended) (repaired_size x1 x2 still mended) (repaired_is x1 x2 still mended) mended.points y noting)
    open_leaves y (inr (x1, still, inr (x2, mended, inr (x3, noted, inl shutting)))) =
        shutting_leaves x2 (repaired_session x1 x2 still mended) (repaired_size x1 x2 still mended) (repaired_is x1 x2 still mended) mended.points x3 noted y shutting
    open_leaves y (inr (x1, still, inr (x2, mended, inr (x3, noted, inr (x4, shut, reopening))))) =
        inr (use_goes x2 (repaired_session x1 x2 still mended) (repaired_size x1 x2 still mended) (repaired_is x1 x2 still mended) mended.points x3 noted x4 y shut
        (reopening_same app registration now long x4 y (room x2 (repaired_session x1 x2 still mended) (repaired_size x1 x2 still mended) (repaired_is x1 x2 still mended) mended.points x3 noted x4 shut) reopening))

    -- and at its end
    pub open_ends : (y : List ℕ) → InsertsOpen app registration odometer owed now x y → All_on y
    open_ends y (x1, still, (x2, mended, (x3, noted, (x4, shut, reopened)))) =
        use_goes x2 (repaired_session x1 x2 still mended) (repaired_size x1 x2 still mended) (repaired_is x1 x2 still mended) mended.points x3 noted x4 y shut
        (reopened_same app registration now long x4 y (room x2 (repaired_session x1 x2 still mended) (repaired_size x1 x2 still mended) (repaired_is x1 x2 still mended) mended.points x3 noted x4 shut) reopened)

-- as the card tells it
module _ (app : Application) (sound : IsApplication app) (x : List ℕ) (fits : image_size_of app ≤ length x) (registration : Registration) (long : length registration.0 ≡ 15) (odometer now : ℕ) (owed : List Entry) (ordered : Follow 1439 owed)
    (slack : Bound) (covered from next : ℕ) (c : Counted) (least : 16 ≤ slack.bytes) (valid : IsValid app x) (open_ : nat_eq (session_time app x) 0 ≡ false)
    (rests : Rests app.activity slack covered from (end_mark app x) c (trimmed (end_mark app x) (card_days app x))) (later : from ≤ first_minute next (lacked_by app x owed)) (enough : suc (mark_behind (end_mark app x) (lacked_by app x owed)) < next)
    (begins : BeginsLater (end_mark app x) (lacked_by app x owed) (trimmed (end_mark app x) (card_days app x))) where
  asked : (y : List ℕ) → IsStill app x y → Asked app sound x fits registration long odometer now owed ordered slack covered from next c least
  unfolding book_of
  asked y still =
      let are : AreDays 0 (card_days app x) = subst (λ (ds : List Day). AreDays 0 ds) still.told.0 still.holds.ordered in
      record { are = are; strict = valid_strict app x valid are open_; rests = rests; later = later; enough = enough; begins = begins }

  first_still : (y : List ℕ) → InsertingOpen app registration odometer owed now x y → (z : List ℕ) × IsStill app x z
  first_still y (inl still) = (y, still)
  first_still y (inr (z, still, rest)) = (z, still)

  pub leaves_owed : (y : List ℕ) → InsertingOpen app registration odometer owed now x y → ((session_time app y ≡ session_time app x) × ShowsFirst app slack covered next c owed x y) ⊎ ShowsOwed app slack covered next c owed x y
  unfolding book_of
  leaves_owed y inserting =
      let still = first_still y inserting in
      open_leaves app sound x fits registration long odometer now owed ordered slack covered from next c least (asked still.0 still.1) y inserting

  pub ends_owed : (y : List ℕ) → InsertsOpen app registration odometer owed now x y → ShowsOwed app slack covered next c owed x y
  unfolding book_of
  ends_owed y inserts = open_ends app sound x fits registration long odometer now owed ordered slack covered from next c least (asked inserts.0 inserts.1) y inserts

-- ---- a card without a session, whose words are closed

pub closed_still : (size : ℕ) (b : Book) → is_open (mark_of b) b.days ≡ false → (ds : List Day) (v : Vehicles) → IsCloseMoment size Rest b ds v → IsBook b ds v
closed_still size b shut ds v (inl old) = (⊎_elim (λ same. same) (λ opened. let no : true ≡ false = sym opened.0 ∙ shut in absurd (cc)) old.1, old.0)
closed_still size b shut ds v (inr book) =
    subst (λ (k : Book). IsBook k ds v) (ap (λ (o : Bool). cond o (let c : Book = record { days = closed_days size (mark_of b) Rest b.days; vehicles = last_used (60 * suc (mark_of b)) b.vehicles } in c) b) shut) book

module _ (app : Application) (sound : IsApplication app) (x : List ℕ) (fits : image_size_of app ≤ length x) (registration : Registration) (long : length registration.0 ≡ 15) (now : ℕ)
    (slack : Bound) (covered from : ℕ) (c : Counted) (goes : DaysFollowOverwriting app slack covered from c x) (shut : is_open (end_mark app x) (card_days app x) ≡ false) where
  goes_told : (y : List ℕ) → book_of app y ≡ book_of app x → DaysFollowOverwriting app slack covered from c y
  unfolding book_of
  goes_told y is = subst (λ (k : Book). Lives app.activity slack covered from (mark_of k) c k.days) (sym is) goes

  shut_told : (y : List ℕ) → book_of app y ≡ book_of app x → is_open (mark_of (book_of app y)) (book_of app y).days ≡ false
  unfolding book_of
  shut_told y is = ap (λ (k : Book). is_open (mark_of k) k.days) is ∙ shut

  module _ (y : List ℕ) (still : IsStill app x y) where
    same_book : book_of app y ≡ book_of app x
    same_book = told_book app (book_of app x) x y still

    shut_book : (z : List ℕ) → IsShutting app y z → book_of app z ≡ book_of app x
    shut_book z card =
        let is = closed_still app.activity (book_of app y) (shut_told y same_book) (book_of app z).days (book_of app z).vehicles card.told in
        told_book app (book_of app y) y z (record { outside = card.outside; holds = card.holds; points = card.points; told = is }) ∙ same_book

    closing : (z : List ℕ) → IsShut app y z → IsShutting app y z
    closing z card = record { outside = card.outside; holds = card.holds; points = card.points; told = inr card.told }

    use_still : (z w : List ℕ) → IsShut app y z → Same app z w → DaysFollowOverwriting app slack covered from c w
    use_still z w card beside = goes_beside app sound z w beside.0 beside.1 card.points slack covered from c (goes_told z (shut_book z (closing z card)))

    room_left : (z : List ℕ) → IsShut app y z → place_of app (file 0x0507) + 19 ≤ length z
    room_left z card = omega (arith, use_inside app, fits, still.outside.same_length, card.outside.same_length)

  pub closed_moments : (y : List ℕ) → InsertingClosed app registration now x y → DaysFollowOverwriting app slack covered from c y
  closed_moments y (inl still) = goes_told y (same_book y still)
  closed_moments y (inr (x1, still, inl shutting)) = goes_told y (shut_book x1 still y shutting)
  closed_moments y (inr (x1, still, inr (x2, shut_, opening))) = use_still x1 still x2 y shut_ (opening_same app registration now long x2 y (room_left x1 still x2 shut_) opening)

  pub closed_ends : (y : List ℕ) → InsertsClosed app registration now x y → DaysFollowOverwriting app slack covered from c y
  closed_ends y (x1, still, (x2, shut_, opened)) = use_still x1 still x2 y shut_ (opened_same app registration now long x2 y (room_left x1 still x2 shut_) opened)

-- ---- one whose latest word may be an entry's: the closing word follows it

module _ (app : Application) (sound : IsApplication app) (x : List ℕ) (fits : image_size_of app ≤ length x) (registration : Registration) (long : length registration.0 ≡ 15) (now : ℕ)
    (slack : Bound) (covered from next : ℕ) (c : Counted) (least : 16 ≤ slack.bytes) (later : from ≤ next) (before : newest_minute (end_mark app x) (card_days app x) < next) (goes : DaysFollowOverwriting app slack covered from c x) where
  abbrev Leaves : List ℕ → Type 0
  Leaves y = ((end_mark app y ≡ end_mark app x) × IsRepairable app slack covered next c y) ⊎ DaysFollowOverwriting app slack covered next c y

  module _ (y : List ℕ) (still : IsStill app x y) where
    y_is : book_of app y ≡ book_of app x
    y_is = told_book app (book_of app x) x y still

    y_goes : DaysFollowOverwriting app slack covered from c y
    unfolding book_of
    y_goes = lives_told app slack covered from c y (book_of app x) y_is goes

    y_before : newest_minute (end_mark app y) (card_days app y) < next
    unfolding book_of
    y_before = newest_told app slack covered next c y (book_of app x) y_is before

    y_mark : end_mark app y ≡ end_mark app x
    unfolding book_of
    y_mark = ap (λ (k : Book). mark_of k) y_is

    still_left : Leaves y
    still_left =
        close_leaves app sound x slack covered from c least goes Rest next y later before
        (record { outside = still.outside; holds = still.holds; points = still.points; told = inl (still.told.1, inl still.told.0) })

    closing_left : (z : List ℕ) → IsShutting app y z → Leaves z
    closing_left z card = ⊎_elim
        (λ old. inl (old.0 ∙ y_mark, old.1)) (λ on. inr on)
        (close_leaves app sound y slack covered from c least y_goes Rest next z later y_before card)

    use_left : (z w : List ℕ) → IsShut app y z → Same app z w → DaysFollowOverwriting app slack covered next c w
    use_left z w card side =
        goes_beside app sound z w side.0 side.1 card.points slack covered next c
        (closed_leaves app sound y slack covered from c least y_goes Rest next z later y_before card.holds.ordered card.told)

    room_there : (z : List ℕ) → IsShut app y z → place_of app (file 0x0507) + 19 ≤ length z
    room_there z card = omega (arith, use_inside app, fits, still.outside.same_length, card.outside.same_length)

  pub unclosed_moments : (y : List ℕ) → InsertingClosed app registration now x y → Leaves y
  unclosed_moments y (inl still) = still_left y still
  unclosed_moments y (inr (x1, still, inl shutting)) = closing_left x1 still y shutting
  unclosed_moments y (inr (x1, still, inr (x2, shut, opening))) = inr (use_left x1 still x2 y shut (opening_same app registration now long x2 y (room_there x1 still x2 shut) opening))

  pub unclosed_ends : (y : List ℕ) → InsertsClosed app registration now x y → DaysFollowOverwriting app slack covered next c y
  unclosed_ends y (x1, still, (x2, shut, opened)) = use_left x1 still x2 y shut (opened_same app registration now long x2 y (room_there x1 still x2 shut) opened)
