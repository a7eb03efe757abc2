-- What a stop in a keep or in a withdrawal leaves of the days, by the stated overwriting.
use Rattle.std.proofs.Common.{◌≡◌, inl, inr, ⊎_elim, ℕ, suc, ◌+◌, ◌-◌, ◌*◌, ◌/◌, ◌%◌, ◌<◌, ◌≤◌, max, Bool, true, false, cond, ◌&&◌, Option, Some, None, List, [], ◌∷◌, length, refl, sym, ◌∙◌, ap, subst, arith, option_map}
use Rattle.std.specs.Prelude.{◌⊎◌, ◌==◌, nat_lt}
use Rattle.std.proofs.lemmas.Bool.{lt-ltb}
use Rattle.activity_codec.specs.declared.values.Activity.{Activity}
use Rattle.activity_codec.specs.declared.values.Activity.TheVariants.{Rest, Available, Work, Driving}
use Rattle.activity_codec.specs.declared.entries.Entry.{Entry}
use Rattle.activity_codec.specs.Words.{word_minute, word_absent, activity_number}
use Rattle.tacho_types.specs.declared.texts.Registration.{Registration}
use Rattle.card_layout.specs.declared.files.Application.{Application}
use Rattle.card_layout.specs.Application.{IsApplication}
use Rattle.card_days.specs.card_model.Days.{Day, AreDays}
use Rattle.card_days.specs.card_model.Changes.{OnNewest, fitting, with_newest, with_word, date_of, trimmed}
use Rattle.card_days.proofs.card_model.Retention.{remain_all}
use Rattle.card_days.proofs.card_model.Trims.{are_trimmed}
use Rattle.card_validity.specs.card_retention.Expected.{Counted, is_newest, with_entry as counted_with}
use Rattle.card_validity.specs.card_retention.Shown.{Bound, AllUpTo, Rests, Lives, sizes, is_open, with_closing}
use Rattle.card_validity.specs.card_retention.Entries.{newest_minute, newest_word}
use Rattle.card_validity.proofs.card_retention.Stops.{stop_none, stop_first, stop_between, stop_after}
use Rattle.card_validity.proofs.card_retention.Closing.{kept_lives, closed_lives}
use Rattle.card_validity.proofs.card_retention.Listing.{Lists}
use Rattle.card_layout.specs.Files.{files_of, image_size_of, place_of}
use Rattle.card_layout.specs.Images.{big_number}
use Rattle.card_layout.proofs.Images.{part_before, part_put, put_outside}
use Rattle.tach_media.proofs.Images.{part_in}
use Rattle.card_files.specs.CurrentUses.{current_use_of}
use Rattle.tach_media.specs.Medium.{SameOutside, bytes_at}
use Rattle.gated_ring.specs.Ring.{PointsInside, size_of as ring_size}
use Rattle.card_validity.specs.card_image.Fields.{file, day_string, vehicle_ring, card_days, end_mark, current_use, session_time, last_use_of}
use Rattle.card_validity.specs.card_image.Beside.{HaveSameDays, HaveSameVehicles}
use Rattle.card_validity.proofs.card_image.Beside.{days_same, last_use_same}
use Rattle.card_files.specs.declared.vehicle.Vehicle.{Vehicle}
use Rattle.card_session.specs.Vehicles.{Vehicles, last_use_in}
use Rattle.card_session.specs.Books.{Book, mark_of, latest_of, closing_word, gap_closed, closed_days, closed, last_used, entered_days, travelled, with_entry, used}
use Rattle.card_session.specs.Sessions.{Session, IsSession, book_of}
use Rattle.card_session.specs.Moments.{IsBook, IsBeforeGap, IsBeforeWords, IsBeforeMark, IsBeforeUse, IsKeepMoment, IsClosingWord, IsCloseMoment, entry_len}
use Rattle.card_session.specs.Cards.{IsCard, IsCardClosed, IsCardClosing, ended}
use Rattle.card_session.specs.Parts.{IsBeforeGapOf}
use Rattle.card_session.specs.Overwriting.{DaysFollowOverwriting, IsRepairable, ShowsEntries, BeginsBehind, and_entry}
use Rattle.card_session.proofs.OnCard.{ring_behind}
use Rattle.card_session.proofs.Marks.{mark_told, use_before}
use Rattle.card_session.proofs.Following.{closing_minute}
use Rattle.card_session.proofs.Preparing.{gap_are, used_at, open_date}
use Rattle.card_session.proofs.Lasting.{entered_as}
use Rattle.card_session.proofs.Surviving.{few_bytes, newest_gapped, keep_survives, lists_survive}
use Rattle.card_session.proofs.Alike.{alike_km, are_bare, trimmed_alike, rests_alike, lives_alike}

pub closing_absent : (m : ℕ) (act : Activity) (latest : ℕ) → word_absent (closing_word m act latest) ≡ true
closing_absent m act latest = ap (λ (n : ℕ). n == 1) odd
  where
    few : (a : Activity) → activity_number a < 4
    few Rest = omega arith
    few Available = omega arith
    few Work = omega arith
    few Driving = omega arith

    odd : closing_word m act latest / 8192 % 2 ≡ 1
    odd = omega (arith, few act)

-- a later bound
pub lives_later : (size : ℕ) (slack : Bound) (covered from to mark : ℕ) (c : Counted) (days : List Day) → from ≤ to → Lives size slack covered from mark c days → Lives size slack covered to mark c days
lives_later size slack covered from to mark c days le l = record {
  rests = record {
    ordered = l.rests.ordered;
    rising = l.rests.rising;
    filled = l.rests.filled;
    top = l.rests.top;
    words = l.rests.words;
    entry = l.rests.entry;
    low = l.rests.low;
    next = omega (arith, l.rests.next, le);
    later = omega (arith, l.rests.later, le);
    by_mark = l.rests.by_mark;
    tells = l.rests.tells;
    shows = λ n more. l.rests.shows n (omega (arith, le, more));
  };
  sound = l.sound;
}

-- the end mark of a withdrawal is at its closing word
none_later : (date : ℕ) (ds : List Day) → AreDays date ds → OnNewest (λ d. d.date ≡ 0) ds → ⊥
none_later date [] are on = on
none_later date (d ∷ []) are on = omega (arith, are.0, on)
none_later date (d ∷ f ∷ ds) are on = none_later d.date (f ∷ ds) are.2 on

pub mark_moves : (b : Book) → AreDays 0 b.days → is_open (mark_of b) b.days ≡ true → last_use_in (last_used (60 * suc (mark_of b)) b.vehicles) / 60 ≡ suc (mark_of b)
mark_moves b are is = by b.vehicles.newest refl
  where
    by : (o : Option Vehicle) → b.vehicles.newest ≡ o → last_use_of (option_map (used (60 * suc (mark_of b))) o) / 60 ≡ suc (mark_of b)
    by (Some u) there = omega arith
    by None there =
        let zero : mark_of b ≡ 0 = ap (λ (o : Option Vehicle). last_use_of o / 60) there in
        absurd (none_later 0 b.days are (subst (λ (m : ℕ). OnNewest (λ d. d.date ≡ date_of (suc m)) b.days) zero (open_date (mark_of b) b.days is)))

-- there it stands in whole minutes
pub used_whole : (v : Vehicles) (n : ℕ) → last_use_in (last_used (60 * suc n) v) / 60 ≡ suc n → last_use_in (last_used (60 * suc n) v) ≡ 60 * suc n
used_whole v n at = by v.newest at
  where
    by : (o : Option Vehicle) → last_use_of (option_map (used (60 * suc n)) o) / 60 ≡ suc n → last_use_of (option_map (used (60 * suc n)) o) ≡ 60 * suc n
    by (Some u) at = refl
    by None at = absurd (omega (arith, at))

module _ (size : ℕ) (slack : Bound) (covered from : ℕ) (c : Counted) (b : Book) (l : Lives size slack covered from (mark_of b) c b.days) (long : 5544 ≤ size) (least : 16 ≤ slack.bytes) where
  -- ---- a keep

  module _ (e : Entry) (before : IsBeforeGapOf e.minute b) (later : from ≤ e.minute) where
    abbrev gapped : List Day
    gapped = gap_closed size (mark_of b) e.minute b.days

    abbrev w : ℕ
    w = closing_word (suc (mark_of b)) Rest (latest_of b.days)

    abbrev Stopped : List Day → Type 0
    Stopped kept = Rests size slack covered e.minute (mark_of b) c (trimmed (mark_of b) kept)

    minute : word_minute w ≡ suc (mark_of b) % 1440
    minute = closing_minute (suc (mark_of b)) Rest (latest_of b.days)

    are : AreDays 0 gapped
    are = gap_are size long b l.rests.ordered e.minute before

    gap_stop : (kept : List Day) → IsBeforeGap size (mark_of b) e.minute b.days kept → Stopped kept
    gap_stop kept moment = ⊎_elim
        (λ still. subst Stopped (sym still) (stop_none size slack covered from (mark_of b) c b.days l e.minute later long least))
        (λ gone. stop_first size slack covered from (mark_of b) c b.days l e.minute later long least (size - 2) kept (omega (arith, long)) (omega (arith, least)) gone.2)
        moment

    words_stop : (kept : List Day) → IsBeforeWords size e gapped kept → Stopped kept
    words_stop kept moment = ⊎_elim
        (λ still. subst Stopped (sym still) (stop_between size slack covered from (mark_of b) c b.days l e.minute later long least w size gapped minute (omega (arith, long)) (omega (arith, least)) (remain_all size gapped)))
        (λ gone. stop_between size slack covered from (mark_of b) c b.days l e.minute later long least w (size - entry_len e gapped) kept minute (omega (arith, long, few_bytes e gapped)) (omega (arith, least, few_bytes e gapped)) gone.1)
        moment

    module _ (clear : is_newest (e.minute / 1440) (sizes b.days) ≡ false → mark_of b / 1440 < e.minute / 1440) where
      word_stop : Stopped (entered_days size e gapped)
      word_stop =
          stop_after size slack covered from (mark_of b) c b.days l e.minute later long least w e (entered_days size e gapped) refl minute are
          (λ other. clear (sym (newest_gapped size long b l.rests.ordered e.minute (e.minute / 1440)) ∙ other)) (entered_as size e gapped are)

      km_stop : (more : ℕ) → AreDays 0 (travelled more (entered_days size e gapped)) → Stopped (travelled more (entered_days size e gapped))
      km_stop more ordered =
          rests_alike size slack covered e.minute (mark_of b) c (trimmed (mark_of b) (entered_days size e gapped)) (trimmed (mark_of b) (travelled more (entered_days size e gapped)))
          (trimmed_alike (mark_of b) (entered_days size e gapped) (travelled more (entered_days size e gapped)) (alike_km more (entered_days size e gapped)))
          (are_trimmed (mark_of b) 0 (travelled more (entered_days size e gapped)) ordered) word_stop

      pub before_stop : (registration : Registration) (odometer more : ℕ) (kept : List Day) → AreDays 0 kept → IsBeforeMark size b (with_entry size registration odometer more b e) e kept → Stopped kept
      before_stop registration odometer more kept ordered moment = ⊎_elim
          (λ gap. gap_stop kept gap)
          (λ rest. ⊎_elim
          (λ words. words_stop kept words)
          (λ last. ⊎_elim
          (λ word. subst Stopped (sym word) word_stop)
          (λ km. subst Stopped (sym km) (km_stop more (subst (λ (ds : List Day). AreDays 0 ds) km ordered)))
          last) rest) moment

    pub goes_on : (more : ℕ) → AreDays 0 (travelled more (entered_days size e gapped)) → Lives size (and_entry slack e) covered (suc e.minute) e.minute (counted_with covered c e) (travelled more (entered_days size e gapped))
    goes_on more ordered =
        lives_alike size (and_entry slack e) covered (suc e.minute) e.minute (counted_with covered c e) (entered_days size e gapped) (travelled more (entered_days size e gapped))
        (alike_km more (entered_days size e gapped)) ordered
        (kept_lives size slack covered from (mark_of b) c b.days l long least e w (entered_days size e gapped) later (closing_absent (suc (mark_of b)) Rest (latest_of b.days)) are (are_bare more 0 (entered_days size e gapped) ordered)
        (entered_as size e gapped are))

  -- ---- a withdrawal

  module _ (act : Activity) (next : ℕ) (later : from ≤ next) (before : newest_minute (mark_of b) b.days < next) where
    abbrev v : ℕ
    v = closing_word (suc (mark_of b)) act (latest_of b.days)

    open_before : is_open (mark_of b) b.days ≡ true → suc (mark_of b) < next
    open_before is = by (is_open (mark_of b) b.days) is before
      where
        by : (o : Bool) → o ≡ true → cond o (suc (mark_of b)) (max (mark_of b) (newest_word b.days)) < next → suc (mark_of b) < next
        by true is lt = lt
        by false is lt = absurd (cc)

    closing_is : is_open (mark_of b) b.days ≡ true → closed_days size (mark_of b) act b.days ≡ with_newest (with_word v) (fitting (size - 2) b.days)
    closing_is is = ap (λ (o : Bool). cond o (with_newest (with_word v) (fitting (size - 2) b.days)) b.days) is

    closing_as : is_open (mark_of b) b.days ≡ true → with_closing size v (mark_of b) next b.days ≡ with_newest (with_word v) (fitting (size - 2) b.days)
    closing_as is =
        ap (λ (o : Bool). cond (o && nat_lt (suc (mark_of b)) next) (with_newest (with_word v) (fitting (size - 2) b.days)) b.days) is
        ∙ ap (λ (g : Bool). cond g (with_newest (with_word v) (fitting (size - 2) b.days)) b.days) (lt-ltb (suc (mark_of b)) next (open_before is))

    abbrev Torn : List Day → Type 0
    Torn kept = Rests size slack covered next (mark_of b) c (trimmed (mark_of b) kept)

    closing_stop : (kept : List Day) → IsClosingWord size act b kept → Torn kept
    closing_stop kept moment = ⊎_elim
        (λ still. subst Torn (sym still) (stop_none size slack covered from (mark_of b) c b.days l next later long least))
        (λ rest. ⊎_elim
        (λ gone. stop_first size slack covered from (mark_of b) c b.days l next later long least (size - 2) kept (omega (arith, long)) (omega (arith, least)) gone)
        (λ word. subst Torn (closing_as rest.0 ∙ sym (word ∙ closing_is rest.0))
        (stop_between size slack covered from (mark_of b) c b.days l next later long least v size (with_closing size v (mark_of b) next b.days) (closing_minute (suc (mark_of b)) act (latest_of b.days)) (omega (arith, long)) (omega (arith, least)) (remain_all size (with_closing size v (mark_of b) next b.days))))
        rest.1) moment

    abbrev marked : Book
    marked = record { days = closed_days size (mark_of b) act b.days; vehicles = last_used (60 * suc (mark_of b)) b.vehicles }

    closed_goes : AreDays 0 (closed size act b).days → Lives size slack covered next (mark_of (closed size act b)) c (closed size act b).days
    closed_goes ordered = by (is_open (mark_of b) b.days) refl ordered
      where
        later_lives : Lives size slack covered next (mark_of b) c b.days
        later_lives = lives_later size slack covered from next (mark_of b) c b.days later l

        by : (o : Bool) → is_open (mark_of b) b.days ≡ o → AreDays 0 (cond o marked b).days → Lives size slack covered next (mark_of (cond o marked b)) c (cond o marked b).days
        by false is ordered = later_lives
        by true is ordered =
            subst (λ (m : ℕ). Lives size slack covered next m c (closed_days size (mark_of b) act b.days)) (sym (mark_moves b l.rests.ordered is))
            (subst (λ (ds : List Day). Lives size slack covered next (suc (mark_of b)) c ds) (sym (closing_is is))
            (closed_lives size slack covered next (mark_of b) c b.days later_lives long least v is (closing_absent (suc (mark_of b)) act (latest_of b.days)) (closing_minute (suc (mark_of b)) act (latest_of b.days)) (open_before is)
            (subst (λ (ds : List Day). AreDays 0 ds) (closing_is is) ordered)))

-- ---- on a card

-- no word and no end mark reaches an entry's minute
pub asked_at : (s : Session) (x : List ℕ) (minute : ℕ) → s.minute < minute → IsSession s x → IsBeforeGapOf minute (book_of s.application x)
asked_at s x minute later knows = (knows.book, omega (arith, later, knows.minute))

pub book_days : (app : Application) (x : List ℕ) → (book_of app x).days ≡ card_days app x
unfolding book_of
book_days app x = refl

pub days_there : (s : Session) (x : List ℕ) → IsSession s x → AreDays 0 (book_of s.application x).days
days_there s x knows = knows.card.days.holds.ordered

pub mark_at : (app : Application) (b : Book) (y : List ℕ) → (book_of app y).vehicles ≡ b.vehicles → end_mark app y ≡ mark_of b
mark_at app b y same = mark_told app y ∙ ap (λ (o : Vehicles). last_use_in o / 60) same

-- where an entry's use is still to be written
pub before_use : (registration : Registration) (odometer minute : ℕ) (old now : Vehicles) → IsBeforeUse registration odometer minute old now → last_use_in now / 60 ≡ last_use_in old / 60
before_use registration odometer minute old now moment = ap (λ (n : ℕ). n / 60) (use_before registration odometer minute old now moment)

module _ (app : Application) (slack : Bound) (covered from : ℕ) (c : Counted) (y : List ℕ) (m : ℕ) (at : end_mark app y ≡ m) where
  repairable_at : Rests app.activity slack covered from m c (trimmed m (book_of app y).days) → IsRepairable app slack covered from c y
  repairable_at r =
      subst (λ (ds : List Day). Rests app.activity slack covered from (end_mark app y) c (trimmed (end_mark app y) ds)) (book_days app y)
      (subst (λ (n : ℕ). Rests app.activity slack covered from n c (trimmed n (book_of app y).days)) (sym at) r)

  goes_at : Lives app.activity slack covered from m c (book_of app y).days → DaysFollowOverwriting app slack covered from c y
  goes_at l =
      subst (λ (ds : List Day). Lives app.activity slack covered from (end_mark app y) c ds) (book_days app y)
      (subst (λ (n : ℕ). Lives app.activity slack covered from n c (book_of app y).days) (sym at) l)

-- the session time stands behind the days and the vehicle entries
use_behind : (app : Application) → (vehicle_ring app).base + ring_size (vehicle_ring app) ≤ place_of app (file 0x0507)
unfolding files_of
use_behind app = omega arith

use_inside : (app : Application) → place_of app (file 0x0507) + 4 ≤ image_size_of app
unfolding files_of
use_inside app = omega arith

module _ (app : Application) (sound : IsApplication app) (k : List ℕ) (fits : image_size_of app ≤ length k) (points : PointsInside (vehicle_ring app) k) where
  ended_outside : SameOutside (place_of app (file 0x0507)) 4 k (ended app k)
  ended_outside = put_outside (place_of app (file 0x0507)) (0 ∷ 0 ∷ 0 ∷ 0 ∷ []) k (omega (arith, use_inside app, fits))

  pub ended_same : HaveSameDays app k (ended app k) × HaveSameVehicles app k (ended app k)
  ended_same = (
    part_before (place_of app (file 0x0507)) 4 (day_string app).base (4 + (day_string app).size) k (ended app k) ended_outside (omega (arith, use_behind app, ring_behind app)),
    part_before (place_of app (file 0x0507)) 4 (vehicle_ring app).base (ring_size (vehicle_ring app)) k (ended app k) ended_outside (omega (arith, use_behind app)),
  )

  pub ended_days : card_days app (ended app k) ≡ card_days app k
  ended_days = days_same app k (ended app k) ended_same.0

  pub ended_mark : end_mark app (ended app k) ≡ end_mark app k
  ended_mark = ap (λ (n : ℕ). n / 60) (last_use_same app k (ended app k) sound points ended_same.1)

-- the session time is what its four bytes tell
pub session_told : (app : Application) (y : List ℕ) → session_time app y ≡ big_number 4 (bytes_at y (place_of app (file 0x0507)) 4)
unfolding current_use files_of current_use_of
session_told app y = ap (big_number 4) (part_in y (place_of app (file 0x0507)) 19 0 4 (omega arith) ∙ at_front)
  where
    at_front : bytes_at y (place_of app (file 0x0507) + 0) 4 ≡ bytes_at y (place_of app (file 0x0507)) 4
    at_front = let none : place_of app (file 0x0507) + 0 ≡ place_of app (file 0x0507) = omega arith in ap (λ (p : ℕ). bytes_at y p 4) none

pub session_ends : (app : Application) (k : List ℕ) → image_size_of app ≤ length k → session_time app (ended app k) ≡ 0
session_ends app k fits = session_told app (ended app k) ∙ ap (big_number 4) (part_put (place_of app (file 0x0507)) (0 ∷ 0 ∷ 0 ∷ 0 ∷ []) k (omega (arith, use_inside app, fits)))

pub closed_session : (s : Session) (act : Activity) (x y : List ℕ) → image_size_of s.application ≤ length x → IsCardClosed s act x y → session_time s.application y ≡ 0
closed_session s act x y fits closed_ =
    ap (λ (l : List ℕ). session_time s.application l) closed_.session ∙ session_ends s.application closed_.before (omega (arith, fits, closed_.card.outside.same_length))

pub ended_not : (s : Session) (act : Activity) (x y : List ℕ) → image_size_of s.application ≤ length x → IsCardClosed s act x y → 0 < session_time s.application y → ⊥
ended_not s act x y fits closed_ still = omega (arith, closed_session s act x y fits closed_, still)

-- the end mark of a withdrawal is the old one, or the minute after it
closed_mark : (size : ℕ) (act : Activity) (b : Book) → AreDays 0 b.days → (mark_of (closed size act b) ≡ mark_of b) ⊎ (mark_of (closed size act b) ≡ suc (mark_of b))
closed_mark size act b are = by (is_open (mark_of b) b.days) refl
  where
    ends : Book
    ends = record { days = closed_days size (mark_of b) act b.days; vehicles = last_used (60 * suc (mark_of b)) b.vehicles }

    by : (o : Bool) → is_open (mark_of b) b.days ≡ o → (mark_of (cond o ends b) ≡ mark_of b) ⊎ (mark_of (cond o ends b) ≡ suc (mark_of b))
    by true is = inr (mark_moves b are is)
    by false is = inl refl

card_mark : (s : Session) (act : Activity) (x y : List ℕ) → IsSession s x → IsBook (closed s.application.activity act (book_of s.application x)) (book_of s.application y).days (book_of s.application y).vehicles
    → (end_mark s.application y ≡ end_mark s.application x) ⊎ (end_mark s.application y ≡ suc (end_mark s.application x))
card_mark s act x y knows book =
    let at = mark_at s.application (closed s.application.activity act (book_of s.application x)) y book.1 in
    ⊎_elim (λ same. inl (at ∙ same ∙ sym (mark_told s.application x))) (λ next. inr (at ∙ next ∙ sym (ap suc (mark_told s.application x))))
    (closed_mark s.application.activity act (book_of s.application x) (days_there s x knows))

pub closing_mark : (s : Session) (act : Activity) (x y : List ℕ) → IsApplication s.application → image_size_of s.application ≤ length x → IsSession s x → IsCardClosing s act x y
    → (end_mark s.application y ≡ end_mark s.application x) ⊎ (end_mark s.application y ≡ suc (end_mark s.application x))
closing_mark s act x y sound fits knows closing = ⊎_elim
    (λ card. ⊎_elim
    (λ old. inl (mark_at s.application (book_of s.application x) y old.0 ∙ sym (mark_told s.application x)))
    (λ book. card_mark s act x y knows book) card.told)
    (λ closed_.
    let room : image_size_of s.application ≤ length closed_.before = omega (arith, fits, closed_.card.outside.same_length) in
    let same : end_mark s.application y ≡ end_mark s.application closed_.before = ap (λ (l : List ℕ). end_mark s.application l) closed_.session ∙ ended_mark s.application sound closed_.before room closed_.card.points in
    ⊎_elim (λ still. inl (same ∙ still)) (λ next. inr (same ∙ next)) (card_mark s act x closed_.before knows closed_.card.told)) closing

module _ (app : Application) (sound : IsApplication app) (x : List ℕ) (slack : Bound) (covered from : ℕ) (c : Counted) (least : 16 ≤ slack.bytes) (goes : DaysFollowOverwriting app slack covered from c x) where
  abbrev b : Book
  b = book_of app x

  lives_there : Lives app.activity slack covered from (mark_of (book_of app x)) c (book_of app x).days
  lives_there =
      subst (λ (ds : List Day). Lives app.activity slack covered from (mark_of (book_of app x)) c ds) (sym (book_days app x))
      (subst (λ (n : ℕ). Lives app.activity slack covered from n c (card_days app x)) (mark_told app x) goes)

  -- a moment of a keep
  pub keep_leaves : (registration : Registration) (odometer more : ℕ) (e : Entry) (y : List ℕ) → IsBeforeGapOf e.minute (book_of app x) → from ≤ e.minute → BeginsBehind app e x
      → IsCard app (IsKeepMoment app.activity registration odometer more e (book_of app x)) x y
      → ((end_mark app y ≡ end_mark app x) × IsRepairable app slack covered e.minute c y) ⊎ ((end_mark app y ≡ e.minute) × DaysFollowOverwriting app (and_entry slack e) covered (suc e.minute) (counted_with covered c e) y)
  keep_leaves registration odometer more e y before later clear card = ⊎_elim
      (λ old. let at = mark_at app b y old.0 in
      inl (at ∙ sym (mark_told app x), repairable_at app slack covered e.minute c y (mark_of b) at (before_stop app.activity slack covered from c b lives_there sound.string_least least e before later clear_at registration odometer more (book_of app y).days card.holds.ordered old.1)))
      (λ new. ⊎_elim
      (λ unused. let at : end_mark app y ≡ mark_of b = mark_told app y ∙ before_use registration odometer e.minute b.vehicles (book_of app y).vehicles unused in
      inl (at ∙ sym (mark_told app x), repairable_at app slack covered e.minute c y (mark_of b) at (before_stop app.activity slack covered from c b lives_there sound.string_least least e before later clear_at registration odometer more (book_of app y).days card.holds.ordered (inr (inr (inr new.0))))))
      (λ after. let at : end_mark app y ≡ e.minute = mark_told app y ∙ ap (λ (o : Vehicles). last_use_in o / 60) after ∙ used_at registration odometer e.minute b.vehicles in
      inr (
        at,
        goes_at app (and_entry slack e) covered (suc e.minute) (counted_with covered c e) y e.minute at
            (subst (λ (ds : List Day). Lives app.activity (and_entry slack e) covered (suc e.minute) e.minute (counted_with covered c e) ds) (sym new.0)
            (goes_on app.activity slack covered from c b lives_there sound.string_least least e before later more (subst (λ (ds : List Day). AreDays 0 ds) new.0 card.holds.ordered))),
      ))
      new.1)
      card.told
    where
      clear_at : is_newest (e.minute / 1440) (sizes (book_of app x).days) ≡ false → mark_of (book_of app x) / 1440 < e.minute / 1440
      clear_at other = subst (λ (n : ℕ). n / 1440 < e.minute / 1440) (mark_told app x) (clear (ap (λ (ds : List Day). is_newest (e.minute / 1440) (sizes ds)) (sym (book_days app x)) ∙ other))

  newest_there : (next : ℕ) → newest_minute (end_mark app x) (card_days app x) < next → newest_minute (mark_of b) b.days < next
  newest_there next before =
      subst (λ (ds : List Day). newest_minute (mark_of b) ds < next) (sym (book_days app x)) (subst (λ (n : ℕ). newest_minute n (card_days app x) < next) (mark_told app x) before)

  -- with the closing word, and the end mark at it
  pub closed_leaves : (act : Activity) (next : ℕ) (y : List ℕ) → from ≤ next → newest_minute (end_mark app x) (card_days app x) < next → AreDays 0 (book_of app y).days
      → IsBook (closed app.activity act b) (book_of app y).days (book_of app y).vehicles → DaysFollowOverwriting app slack covered next c y
  closed_leaves act next y later before ordered book =
      goes_at app slack covered next c y (mark_of (closed app.activity act b)) (mark_at app (closed app.activity act b) y book.1)
      (subst (λ (ds : List Day). Lives app.activity slack covered next (mark_of (closed app.activity act b)) c ds) (sym book.0)
      (closed_goes app.activity slack covered from c b lives_there sound.string_least least act next later (newest_there next before) (subst (λ (ds : List Day). AreDays 0 ds) book.0 ordered)))

  -- a moment of a withdrawal
  pub close_leaves : (act : Activity) (next : ℕ) (y : List ℕ) → from ≤ next → newest_minute (end_mark app x) (card_days app x) < next → IsCard app (IsCloseMoment app.activity act (book_of app x)) x y
      → ((end_mark app y ≡ end_mark app x) × IsRepairable app slack covered next c y) ⊎ DaysFollowOverwriting app slack covered next c y
  close_leaves act next y later before card = ⊎_elim
      (λ old. let at = mark_at app b y old.0 in
      inl (at ∙ sym (mark_told app x), repairable_at app slack covered next c y (mark_of b) at (closing_stop app.activity slack covered from c b lives_there sound.string_least least act next later (newest_there next before) (book_of app y).days old.1)))
      (λ book. inr (closed_leaves act next y later before card.holds.ordered book))
      card.told

  -- and its end
  pub close_ends : (act : Activity) (next : ℕ) (k y : List ℕ) → image_size_of app ≤ length x → from ≤ next → newest_minute (end_mark app x) (card_days app x) < next → IsCard app (IsBook (closed app.activity act (book_of app x))) x k → y ≡ ended app k
      → DaysFollowOverwriting app slack covered next c y
  close_ends act next k y fits later before card is =
      let room : image_size_of app ≤ length k = omega (arith, fits, card.outside.same_length) in
      subst (λ (l : List ℕ). DaysFollowOverwriting app slack covered next c l) (sym is)
      (subst (λ (ds : List Day). Lives app.activity slack covered next (end_mark app (ended app k)) c ds) (sym (ended_days app sound k room card.points))
      (subst (λ (n : ℕ). Lives app.activity slack covered next n c (card_days app k)) (sym (ended_mark app sound k room card.points))
      (closed_leaves act next k later before card.holds.ordered card.told)))

-- ---- the entries that are shown

module _ (app : Application) (sound : IsApplication app) (x : List ℕ) (ordered : AreDays 0 (book_of app x).days) (all : List Entry) (up : AllUpTo (end_mark app x) all) (shown : ShowsEntries app all x) where
  abbrev at_mark : ℕ
  at_mark = mark_of (book_of app x)

  listed : Lists at_mark all (book_of app x).days
  listed =
      subst (λ (ds : List Day). Lists at_mark all ds) (sym (book_days app x))
      (subst (λ (n : ℕ). Lists n all (card_days app x)) (mark_told app x) shown)

  up_at : AllUpTo at_mark all
  up_at = subst (λ (n : ℕ). AllUpTo n all) (mark_told app x) up

  shown_at : (y : List ℕ) → end_mark app y ≡ at_mark → Lists at_mark all (book_of app y).days → ShowsEntries app all y
  shown_at y at lists =
      subst (λ (ds : List Day). Lists (end_mark app y) all ds) (book_days app y) (subst (λ (n : ℕ). Lists n all (book_of app y).days) (sym at) lists)

  pub keep_shows : (registration : Registration) (odometer more : ℕ) (e : Entry) (y : List ℕ) → IsBeforeGapOf e.minute (book_of app x) → BeginsBehind app e x
      → IsCard app (IsKeepMoment app.activity registration odometer more e (book_of app x)) x y → end_mark app y ≡ end_mark app x → ShowsEntries app all y
  keep_shows registration odometer more e y before clear card same = ⊎_elim
      (λ old. shown_at y (same ∙ mark_told app x) (survives (book_of app y).days old.1))
      (λ new. ⊎_elim
      (λ unused. shown_at y (same ∙ mark_told app x) (survives (book_of app y).days (inr (inr (inr new.0)))))
      (λ after.
      let now : end_mark app y ≡ e.minute = mark_told app y ∙ ap (λ (o : Vehicles). last_use_in o / 60) after ∙ used_at registration odometer e.minute (book_of app x).vehicles in
      let then : end_mark app y ≡ mark_of (book_of app x) = same ∙ mark_told app x in
      absurd (omega (arith, before.1, now, then)))
      new.1)
      card.told
    where
      clear_at : is_newest (e.minute / 1440) (sizes (book_of app x).days) ≡ false → mark_of (book_of app x) / 1440 < e.minute / 1440
      clear_at other = subst (λ (n : ℕ). n / 1440 < e.minute / 1440) (mark_told app x) (clear (ap (λ (ds : List Day). is_newest (e.minute / 1440) (sizes ds)) (sym (book_days app x)) ∙ other))

      survives : (kept : List Day) → IsBeforeMark app.activity (book_of app x) (with_entry app.activity registration odometer more (book_of app x) e) e kept → Lists (mark_of (book_of app x)) all kept
      survives kept moment =
          keep_survives app.activity sound.string_least (book_of app x) ordered (Lists (mark_of (book_of app x)) all) (Lists (mark_of (book_of app x)) all) (lists_survive (mark_of (book_of app x)) all up_at) listed e before
          (λ other. clear_at (sym (newest_gapped app.activity sound.string_least (book_of app x) ordered e.minute (e.minute / 1440)) ∙ other)) registration odometer more kept moment
