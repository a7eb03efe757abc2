-- An insertion at each of its moments, and at its end, by the rule of overwriting.
use Rattle.std.proofs.Common.{◌≡◌, ◌⊎◌, inl, inr, ⊎_elim, ℕ, suc, ◌+◌, ◌/◌, ◌<◌, ◌≤◌, max, Bool, true, false, cond, List, [], ◌∷◌, ◌++◌, length, refl, sym, ◌∙◌, ap, subst, arith}
use Rattle.std.specs.Prelude.{nat_eq}
use Rattle.std.specs.List.{AllByRecursion}
use Rattle.std.proofs.lemmas.List.{append-nil}
use Rattle.card_by_hand.specs.activity_codec.declared.values.Activity.TheVariants.{Rest}
use Rattle.card_by_hand.specs.activity_codec.declared.entries.Entry.{Entry}
use Rattle.card_by_hand.specs.tacho_types.declared.texts.Registration.{Registration}
use Rattle.tach_media.specs.card_layout.declared.files.Application.{Application}
use Rattle.tach_media.specs.card_layout.Application.{IsApplication}
use Rattle.tach_media.specs.card_layout.Files.{image_size_of, place_of}
use Rattle.card_by_hand.specs.card_model.Days.{Day, AreDays}
use Rattle.card_by_hand.specs.card_model.Changes.{trimmed}
use Rattle.card_by_hand.proofs.card_model.Trims.{are_trimmed, trim_from_moment, trimmed_twice}
use Rattle.card_by_hand.specs.card_retention.Expected.{Counted}
use Rattle.card_by_hand.specs.card_retention.Entries.{newest_minute, newest_word}
use Rattle.card_by_hand.specs.card_retention.Shown.{Bound, is_open}
use Rattle.card_by_hand.proofs.card_retention.Closing.{lives_trimmed}
use Rattle.card_by_hand.proofs.card_retention.ListTrims.{entries_trimmed}
use Rattle.card_by_hand.specs.card_image.Fields.{file, card_days, end_mark, session_time}
use Rattle.card_by_hand.specs.card_image.Judging.{IsValid}
use Rattle.card_by_hand.specs.card_image.View.{card_view}
use Rattle.card_by_hand.proofs.card_image.Beside.{days_same, session_same as session_beside}
use Rattle.card_by_hand.specs.card_session.Vehicles.{Vehicles, last_use_in}
use Rattle.card_by_hand.specs.card_session.Books.{Book, mark_of, with_entry, closed}
use Rattle.card_by_hand.specs.card_session.Sessions.{EndsStrictly, IsOpenBook, book_of}
use Rattle.card_by_hand.specs.card_session.Moments.{IsBook, IsCloseMoment}
use Rattle.card_by_hand.specs.card_session.Parts.{IsBeforeGapOf}
use Rattle.card_by_hand.specs.card_session.Inserting.{Follow, lacked, with_cut, with_owed, IsBeforeAll, EndsCut, repaired, IsRepairMoment, IsStill, IsRepaired, IsRepairing, IsNoted, IsNoting, IsShut, IsShutting, InsertingClosed, InsertsOpen, InsertingOpen}
use Rattle.card_by_hand.specs.card_session.Repairs.{first_minute, mark_behind, newest_behind, and_entries, with_entries, lacked_by}
use Rattle.card_by_hand.proofs.card_session.Composing.{told_book}
use Rattle.card_by_hand.proofs.card_session.Preparing.{ends_by, open_date}
use Rattle.card_by_hand.proofs.card_session.Marks.{session_same, mark_told}
use Rattle.card_by_hand.proofs.card_session.Stopping.{mark_at}
use Rattle.card_by_hand.proofs.card_session.Committed.{silent_end, close_shows}
use Rattle.card_by_hand.proofs.card_session.Valid.{valid_strict, flat_of, closed_low}
use Rattle.card_by_hand.proofs.card_session.NewestStays.{newest_by_mark, closed_open, view_newest}
use Rattle.card_by_hand.proofs.card_session.InsertingBooks.{lacked_follow, trimmed_low, cut_ready}
use Rattle.card_by_hand.proofs.card_session.InsertingCards.{noted_same, noting_same}
use Rattle.card_by_hand.proofs.card_session.InsertingUse.{use_inside}
use Rattle.card_by_hand.proofs.card_session.InsertingOpen.{Same, opening_same, reopening_same, reopened_same}
use Rattle.card_by_hand.proofs.card_session.InsertingAgain.{noted_keeps}
use Rattle.card_by_hand.proofs.card_session.Replaying.{with_are, with_before}
use Rattle.card_by_hand.proofs.card_session.Repairing.{lacked_many, owed_at, mark_beside, closed_still}
use Rattle.card_by_hand.proofs.card_session.Renewing.{repair_newest}
use Rattle.card_by_hand.proofs.card_session.Revalid.{low_told}
use Rattle.card_string.specs.Carried.{StringFollowsEntries, Broke, BrokeOf}
use Rattle.card_string.specs.Inserts.{MayReplayOf, MayReplay, ReplaysOf, IsReplayShown, IsAllShown, IsInsertionShown, IsStillShown}
use Rattle.card_string.proofs.Replayed.{GoesIn, Starts, broke_later, begun_later, broke_same, begun_same, none_there, start_all, start_moments, up_to, mark_least}
use Rattle.card_string.proofs.Moved.{goes_moved, goes_broke}
use Rattle.card_string.proofs.Shutting.{day_same, close_broke, close_goes, close_mark}

-- ---- of a book

newest_least : (m : ℕ) (ds : List Day) → m ≤ newest_by_mark m ds
newest_least m ds = by (is_open m (trimmed m ds))
  where
    by : (o : Bool) → m ≤ cond o (suc m) (max m (newest_word (trimmed m ds)))
    by true = omega arith
    by false = omega arith

bytes_same : (slack : Bound) (es : List Entry) → (and_entries slack es).bytes ≡ slack.bytes
bytes_same slack [] = refl
bytes_same slack (e ∷ es) = bytes_same _ es

-- once all entries are there a word may follow
replay_open : (size : ℕ) → 5544 ≤ size → (registration : Registration) (odometer : ℕ) (es : List Entry) (b : Book) → AreDays 0 b.days → IsBeforeAll es b → AllByRecursion (λ e. 1440 ≤ e.minute) es → IsOpenBook (with_owed size registration odometer es b)
replay_open size long registration odometer [] b are before many = before.0
replay_open size long registration odometer (e ∷ es) b are before many =
    let gap : IsBeforeGapOf e.minute b = (before.0, before.1.0) in
    replay_open size long registration odometer es (with_entry size registration odometer 0 b e) (with_are size long registration odometer 0 b are e gap many.0) (with_before size long registration odometer 0 b are e gap many.0 es before.1.1) many.1

module _ (size : ℕ) (long : 5544 ≤ size) (registration : Registration) (odometer : ℕ) (b : Book) (are : AreDays 0 b.days) (strict : EndsCut b) (owed : List Entry) (ordered : Follow 1439 owed)
    (slack : Bound) (covered from next : ℕ) (c : Counted) (all : List Entry) (least : 16 ≤ slack.bytes) (may : MayReplayOf size slack covered from (mark_of b) c all (lacked (mark_of b) owed) b.days) (later : from ≤ first_minute next (lacked (mark_of b) owed))
    (enough : newest_behind (newest_by_mark (mark_of b) b.days) (lacked (mark_of b) owed) < next) where
  abbrev ls : List Entry
  ls = lacked (mark_of b) owed

  abbrev cut : Book
  cut = with_cut (mark_of b) b

  before : IsBeforeAll ls cut
  before = cut_ready 1439 (mark_of b) owed b are refl strict ordered

  many : AllByRecursion (λ e. 1440 ≤ e.minute) ls
  many = lacked_many (mark_of b) owed ordered

  up : AllByRecursion (λ e. e.minute < next) ls
  up = (up_to (mark_of b) next ls (lacked_follow 1439 (mark_of b) owed ordered) (omega (arith, enough, mark_least (mark_of b) (newest_by_mark (mark_of b) b.days) ls (newest_least (mark_of b) b.days)))).0

  cut_are : AreDays 0 (trimmed (mark_of b) b.days)
  cut_are = are_trimmed (mark_of b) 0 b.days are

  twice : trimmed (mark_of b) (trimmed (mark_of b) b.days) ≡ trimmed (mark_of b) b.days
  twice = trimmed_twice (mark_of b) b.days

  cut_goes : BrokeOf size slack covered from (mark_of b) c all b.days → GoesIn size slack covered from c all cut
  cut_goes broke = record {
    lives = lives_trimmed size slack covered from (mark_of b) c b.days broke.rests;
    until = broke.until;
    lists = entries_trimmed (mark_of b) 0 b.days are ∙ broke.lists;
    low = trimmed_low (mark_of b) b.days are;
  }

  starts : Starts size long registration odometer covered slack from c all ls cut
  starts = ⊎_elim
      (λ broke. inl (cut_goes broke.0, broke.1))
      (λ begun. inr (begun_same size slack covered (mark_of b) c all from b.days (trimmed (mark_of b) b.days) twice are cut_are begun.0, begun.1)) may

  -- the repair is done
  abbrev full : Book
  full = repaired size registration odometer owed b

  pub full_goes : GoesIn size (and_entries slack ls) covered next (with_entries covered c ls) (all ++ ls) full
  full_goes = start_all size long registration odometer covered slack from next c all cut cut_are twice least ls starts before many up later

  pub full_open : IsOpenBook full
  full_open = replay_open size long registration odometer ls cut cut_are before many

  pub full_newest : newest_minute (mark_of full) full.days ≡ newest_behind (newest_by_mark (mark_of b) b.days) ls
  full_newest =
      ap (newest_minute (mark_of full)) (sym (flat_of (mark_of full) 0 full.days full_goes.lives.rests.ordered full_goes.low))
      ∙ repair_newest size long registration odometer next b are strict owed ordered up

  -- a moment of it
  abbrev Moment : List Day → Vehicles → Type 0
  Moment ds v = ReplaysOf size slack covered next (mark_of b) c all ls (last_use_in v / 60) ds

  pub cut_moment : (ds : List Day) (v : Vehicles) → AreDays 0 ds → v ≡ b.vehicles → trimmed (mark_of b) ds ≡ trimmed (mark_of b) b.days → Moment ds v
  cut_moment ds v whole same is =
      none_there size long registration odometer covered slack next (mark_of b) c all ls (last_use_in v / 60) ds (ap (λ (o : Vehicles). last_use_in o / 60) same)
      (⊎_elim
      (λ broke. inl (broke_later size slack covered (mark_of b) c all from (first_minute next ls) ds later (broke_same size slack covered (mark_of b) c all from b.days ds is are whole broke.0)))
      (λ begun. inr (begun_later size slack covered (mark_of b) c all from (first_minute next ls) ds later (begun_same size slack covered (mark_of b) c all from b.days ds is are whole begun.0), begun.1)) may)

  pub repair_moment : (ds : List Day) (v : Vehicles) → AreDays 0 ds → IsRepairMoment size registration odometer owed b ds v → Moment ds v
  repair_moment ds v whole (inl cutting) =
      cut_moment ds v whole cutting.1 (⊎_elim (λ shorter. trim_from_moment (mark_of b) b.days ds shorter) (λ done. ap (trimmed (mark_of b)) done ∙ twice) cutting.0)
  repair_moment ds v whole (inr replaying) =
      start_moments size long registration odometer covered slack from next c all cut cut_are twice least ls starts before many up later ds v whole replaying

-- ---- of a card, as its book tells

module _ (app : Application) (slack : Bound) (covered from : ℕ) (c : Counted) (all : List Entry) where
  module _ (y : List ℕ) (b : Book) (is : book_of app y ≡ b) where
    goes_told : GoesIn app.activity slack covered from c all b → StringFollowsEntries app slack covered from c all y × (newest_word (card_days app y) ≤ end_mark app y)
    unfolding book_of
    goes_told g =
        let there : GoesIn app.activity slack covered from c all (book_of app y) = subst (GoesIn app.activity slack covered from c all) (sym is) g in (
          record {
            lives = there.lives;
            until = there.until;
            lists = there.lists;
            silent = silent_end (end_mark app y) (card_days app y) there.lives.rests.ordered there.low;
          },
          there.low,
        )

newest_told : (app : Application) (y : List ℕ) (b : Book) → book_of app y ≡ b → newest_minute (end_mark app y) (card_days app y) ≡ newest_minute (mark_of b) b.days
unfolding book_of
newest_told app y b is = ap (λ (k : Book). newest_minute (mark_of k) k.days) is

newest_here : (app : Application) (y : List ℕ) → newest_minute (mark_of (book_of app y)) (book_of app y).days ≡ newest_minute (end_mark app y) (card_days app y)
unfolding book_of
newest_here app y = refl

open_told : (app : Application) (y z : List ℕ) → card_days app z ≡ card_days app y → end_mark app z ≡ end_mark app y → IsOpenBook (book_of app y) → newest_word (card_days app z) ≤ end_mark app z → IsOpenBook (book_of app z)
unfolding book_of
open_told app y z days mark may low = record {
  ends = ends_by (end_mark app z) (card_days app z) low;
  strict = subst EndsStrictly (sym days) may.strict;
}

word_here : (app : Application) (y : List ℕ) → newest_word (card_days app y) ≤ end_mark app y → newest_word (book_of app y).days ≤ mark_of (book_of app y)
unfolding book_of
word_here app y low = low

are_here : (app : Application) (y : List ℕ) → AreDays 0 (card_days app y) → AreDays 0 (book_of app y).days
unfolding book_of
are_here app y are = are

shut_told : (app : Application) (y : List ℕ) (b : Book) → book_of app y ≡ b → is_open (mark_of b) b.days ≡ false → is_open (end_mark app y) (card_days app y) ≡ false
unfolding book_of
shut_told app y b is shut = ap (λ (k : Book). is_open (mark_of k) k.days) is ∙ shut

-- ---- a card whose session was left open

module _ (app : Application) (sound : IsApplication app) (x : List ℕ) (fits : image_size_of app ≤ length x) (registration : Registration) (long : length registration.0 ≡ 15) (odometer now : ℕ) (owed : List Entry) (ordered : Follow 1439 owed)
    (slack : Bound) (covered from next : ℕ) (c : Counted) (all : List Entry) (least : 16 ≤ slack.bytes) where
  abbrev lacks : List Entry
  lacks = lacked (mark_of (book_of app x)) owed

  abbrev was : ℕ
  was = newest_by_mark (mark_of (book_of app x)) (book_of app x).days

  abbrev whole : Book
  whole = repaired app.activity registration odometer owed (book_of app x)

  -- what is asked of it, by its book
  pub record Asked : Type 0 where
    pub are : AreDays 0 (book_of app x).days
    pub strict : EndsCut (book_of app x)
    pub may : MayReplayOf app.activity slack covered from (mark_of (book_of app x)) c all lacks (book_of app x).days
    pub later : from ≤ first_minute next lacks
    pub enough : newest_behind was lacks < next

  abbrev First : List ℕ → Type 0
  First y = (session_time app y ≡ session_time app x) × ReplaysOf app.activity slack covered next (mark_of (book_of app x)) c all lacks (end_mark app y) (card_days app y)

  abbrev GoesAll : List ℕ → Type 0
  GoesAll y = StringFollowsEntries app (and_entries slack lacks) covered next (with_entries covered c lacks) (all ++ lacks) y

  -- all of them are there, and no word is behind the end mark
  pub record All_on (y : List ℕ) : Type 0 where
    pub goes : GoesAll y
    pub mark : end_mark app y ≡ newest_behind was lacks
    pub low : newest_word (card_days app y) ≤ end_mark app y
    pub shut : is_open (end_mark app y) (card_days app y) ≡ false

  few : 16 ≤ (and_entries slack lacks).bytes
  few = omega (arith, least, bytes_same slack lacks)

  first_told : (y : List ℕ) → ReplaysOf app.activity slack covered next (mark_of (book_of app x)) c all lacks (last_use_in (book_of app y).vehicles / 60) (book_of app y).days
      → ReplaysOf app.activity slack covered next (mark_of (book_of app x)) c all lacks (end_mark app y) (card_days app y)
  unfolding book_of
  first_told y one = one

  -- all of them are there, but for the closing word
  all_first : (y : List ℕ) → end_mark app y ≡ mark_behind (mark_of (book_of app x)) lacks → Broke app (and_entries slack lacks) covered next (with_entries covered c lacks) (all ++ lacks) y
      → ReplaysOf app.activity slack covered next (mark_of (book_of app x)) c all lacks (end_mark app y) (card_days app y)
  all_first y at broke = record { done = lacks; rest = []; split = sym (append-nil lacks); behind = at; left = inl broke }

  module _ (asked : Asked) where
    still_first : (y : List ℕ) → IsStill app x y → First y
    still_first y still = (
      session_same app (IsBook (book_of app x)) x y still,
      first_told y
          (cut_moment app.activity sound.string_least registration odometer (book_of app x) asked.are asked.strict owed ordered slack covered from next c all least asked.may asked.later asked.enough (book_of app y).days (book_of app y).vehicles still.holds.ordered still.told.1
          (ap (trimmed (mark_of (book_of app x))) still.told.0)),
    )

    repairing_first : (y z : List ℕ) → IsStill app x y → IsRepairing app registration odometer owed y z → First z
    repairing_first y z still card = (
      session_same app (IsRepairMoment app.activity registration odometer owed (book_of app y)) y z card ∙ session_same app (IsBook (book_of app x)) x y still,
      first_told z
          (repair_moment app.activity sound.string_least registration odometer (book_of app x) asked.are asked.strict owed ordered slack covered from next c all least asked.may asked.later asked.enough (book_of app z).days (book_of app z).vehicles card.holds.ordered
          (subst (λ (k : Book). IsRepairMoment app.activity registration odometer owed k (book_of app z).days (book_of app z).vehicles) (told_book app (book_of app x) x y still) card.told)),
    )

    -- the repair is done
    module _ (y z : List ℕ) (still : IsStill app x y) (card : IsRepaired app registration odometer owed y z) where
      z_is : book_of app z ≡ whole
      z_is = told_book app (repaired app.activity registration odometer owed (book_of app y)) y z card ∙ ap (repaired app.activity registration odometer owed) (told_book app (book_of app x) x y still)

      z_session : session_time app z ≡ session_time app x
      z_session = session_same app (IsBook (repaired app.activity registration odometer owed (book_of app y))) y z card ∙ session_same app (IsBook (book_of app x)) x y still

      z_size : length z ≡ length x
      z_size = card.outside.same_length ∙ still.outside.same_length

      z_goes : GoesAll z × (newest_word (card_days app z) ≤ end_mark app z)
      z_goes =
          goes_told app (and_entries slack lacks) covered next (with_entries covered c lacks) (all ++ lacks) z whole z_is
          (full_goes app.activity sound.string_least registration odometer (book_of app x) asked.are asked.strict owed ordered slack covered from next c all least asked.may asked.later asked.enough)

      z_mark : end_mark app z ≡ mark_behind (mark_of (book_of app x)) lacks
      z_mark = mark_told app z ∙ ap (λ (k : Book). mark_of k) z_is ∙ owed_at app.activity registration odometer lacks (with_cut (mark_of (book_of app x)) (book_of app x))

      z_newest : newest_minute (end_mark app z) (card_days app z) ≡ newest_behind was lacks
      z_newest = newest_told app z whole z_is
          ∙ full_newest app.activity sound.string_least registration odometer (book_of app x) asked.are asked.strict owed ordered slack covered from next c all least asked.may asked.later asked.enough

      z_open : IsOpenBook (book_of app z)
      z_open = subst IsOpenBook (sym z_is)
          (full_open app.activity sound.string_least registration odometer (book_of app x) asked.are asked.strict owed ordered slack covered from next c all least asked.may asked.later asked.enough)

      -- with the event
      module _ (w : List ℕ) (days : card_days app w ≡ card_days app z) (mark : end_mark app w ≡ end_mark app z) where
        w_goes : GoesAll w
        w_goes = goes_moved app (and_entries slack lacks) covered next (with_entries covered c lacks) (all ++ lacks) z w days mark z_goes.0

        w_low : newest_word (card_days app w) ≤ end_mark app w
        w_low = omega (arith, ap newest_word days, mark, z_goes.1)

        w_newest : newest_minute (end_mark app w) (card_days app w) ≡ newest_behind was lacks
        w_newest = ap (λ (n : ℕ). newest_minute n (card_days app w)) mark ∙ ap (newest_minute (end_mark app z)) days ∙ z_newest

        w_first : ReplaysOf app.activity slack covered next (mark_of (book_of app x)) c all lacks (end_mark app w) (card_days app w)
        w_first = all_first w (mark ∙ z_mark) (goes_broke app (and_entries slack lacks) covered next (with_entries covered c lacks) (all ++ lacks) sound few next w (omega arith) w_goes)

        w_open : IsOpenBook (book_of app w)
        w_open = open_told app z w days mark z_open w_low

        w_are : AreDays 0 (book_of app w).days
        w_are = are_here app w w_goes.lives.rests.ordered

        w_late : newest_minute (end_mark app w) (card_days app w) < next
        w_late = omega (arith, w_newest, asked.enough)

        -- the closing word
        module _ (v : List ℕ) (shutting : IsShutting app w v) where
          v_shown : end_mark app v ≡ end_mark app w → ReplaysOf app.activity slack covered next (mark_of (book_of app x)) c all lacks (end_mark app v) (card_days app v)
          v_shown at =
              all_first v (at ∙ mark ∙ z_mark)
              (close_broke app sound w w_are w_open Rest (and_entries slack lacks) covered next next (with_entries covered c lacks) (all ++ lacks) few (omega arith) w_late w_goes v shutting at)

          v_all : IsBook (closed app.activity Rest (book_of app w)) (book_of app v).days (book_of app v).vehicles → All_on v
          v_all book =
              let is : book_of app v ≡ closed app.activity Rest (book_of app w) = told_book app (closed app.activity Rest (book_of app w)) w v (record { outside = shutting.outside; holds = shutting.holds; points = shutting.points; told = book }) in
              record {
                goes = close_goes app sound w w_are w_open Rest (and_entries slack lacks) covered next next (with_entries covered c lacks) (all ++ lacks) few (omega arith) w_late w_goes v shutting.holds.ordered book
                    (close_shows app sound w w_are (all ++ lacks) w_goes.until w_goes.lists Rest v shutting);
                mark = close_mark app sound w w_are w_open Rest (and_entries slack lacks) covered next next (with_entries covered c lacks) (all ++ lacks) few (omega arith) w_late w_goes v shutting.holds.ordered book (word_here app w w_low)
                    ∙ newest_here app w ∙ w_newest;
                low = low_told app v (closed app.activity Rest (book_of app w)) is (closed_low app.activity sound.string_least (book_of app w) w_are Rest w_open (word_here app w w_low));
                shut = shut_told app v (closed app.activity Rest (book_of app w)) is (closed_open app.activity sound.string_least (book_of app w) w_are Rest w_open);
              }

      noting_first : (w : List ℕ) → IsNoting app now z w → First w
      noting_first w noting =
          let side = noting_same app now z w noting in
          (session_beside app z w side.2 ∙ z_session, w_first w (days_same app z w side.0) (mark_beside app sound z w side.0 side.1 card.points))

      module _ (w : List ℕ) (noted : IsNoted app now z w) where
        w_days : card_days app w ≡ card_days app z
        w_days = days_same app z w (noted_same app now z w noted).0

        w_mark : end_mark app w ≡ end_mark app z
        w_mark = let side = noted_same app now z w noted in mark_beside app sound z w side.0 side.1 card.points

        w_size : length w ≡ length x
        w_size = (noted_keeps app now z w (omega (arith, use_inside app, fits, z_size)) noted).1 ∙ z_size

        shutting_shown : (v : List ℕ) → IsShutting app w v → First v ⊎ All_on v
        shutting_shown v shutting = ⊎_elim
            (λ old. inl (
              session_same app (IsCloseMoment app.activity Rest (book_of app w)) w v shutting ∙ session_beside app z w (noted_same app now z w noted).2 ∙ z_session,
              v_shown w w_days w_mark v shutting (mark_at app (book_of app w) v old.0 ∙ sym (mark_told app w)),
            ))
            (λ book. inr (v_all w w_days w_mark v shutting book)) shutting.told

        shut_all : (v : List ℕ) → IsShut app w v → All_on v
        shut_all v shut = v_all w w_days w_mark v (record { outside = shut.outside; holds = shut.holds; points = shut.points; told = inr shut.told }) shut.told

        -- the current use
        use_all : (v u : List ℕ) → IsShut app w v → Same app v u → All_on u
        use_all v u shut side =
            let there = shut_all v shut in
            let days : card_days app u ≡ card_days app v = days_same app v u side.0 in
            let mark : end_mark app u ≡ end_mark app v = mark_beside app sound v u side.0 side.1 shut.points in
            record {
              goes = goes_moved app (and_entries slack lacks) covered next (with_entries covered c lacks) (all ++ lacks) v u days mark there.goes;
              mark = mark ∙ there.mark;
              low = omega (arith, ap newest_word days, mark, there.low);
              shut = ap (λ (n : ℕ). is_open n (card_days app u)) mark ∙ ap (is_open (end_mark app v)) days ∙ there.shut;
            }

        room : (v : List ℕ) → IsShut app w v → place_of app (file 0x0507) + 19 ≤ length v
        room v shut = omega (arith, use_inside app, fits, w_size, shut.outside.same_length)

    -- AT EACH MOMENT
    pub open_shown : (y : List ℕ) → InsertingOpen app registration odometer owed now x y → First y ⊎ All_on y
    open_shown y (inl still) = inl (still_first y still)
    open_shown y (inr (x1, still, inl repairing)) = inl (repairing_first x1 y still repairing)
    open_shown y (inr (x1, still, inr (x2, mended, inl noting))) = inl (noting_first x1 x2 still mended y noting)
    open_shown y (inr (x1, still, inr (x2, mended, inr (x3, noted, inl shutting)))) = shutting_shown x1 x2 still mended x3 noted y shutting
    open_shown y (inr (x1, still, inr (x2, mended, inr (x3, noted, inr (x4, shut, reopening))))) =
        inr (use_all x1 x2 still mended x3 noted x4 y shut (reopening_same app registration now long x4 y (room x1 x2 still mended x3 noted x4 shut) reopening))

    -- and at its end
    pub open_all : (y : List ℕ) → InsertsOpen app registration odometer owed now x y → All_on y
    open_all y (x1, still, (x2, mended, (x3, noted, (x4, shut, reopened)))) =
        use_all x1 x2 still mended x3 noted x4 y shut (reopened_same app registration now long x4 y (room x1 x2 still mended x3 noted x4 shut) reopened)

-- as the card tells it
module _ (app : Application) (sound : IsApplication app) (x : List ℕ) (fits : image_size_of app ≤ length x) (registration : Registration) (long : length registration.0 ≡ 15) (odometer now : ℕ) (owed : List Entry) (ordered : Follow 1439 owed)
    (slack : Bound) (covered from next : ℕ) (c : Counted) (all : List Entry) (least : 16 ≤ slack.bytes) (valid : IsValid app x) (open_ : nat_eq (session_time app x) 0 ≡ false) (later : from ≤ first_minute next (lacked_by app x owed))
    (enough : newest_behind (card_view app x).newest (lacked_by app x owed) < next) (may : MayReplay app slack covered from c all (lacked_by app x owed) x) where
  asked : (y : List ℕ) → IsStill app x y → Asked app sound x fits registration long odometer now owed ordered slack covered from next c all least
  unfolding book_of card_view
  asked y still =
      let are : AreDays 0 (card_days app x) = subst (λ (ds : List Day). AreDays 0 ds) still.told.0 still.holds.ordered in
      record { are = are; strict = valid_strict app x valid are open_; may = may; later = later; enough = enough }

  all_told : (y : List ℕ) → All_on app sound x fits registration long odometer now owed ordered slack covered from next c all least y → IsAllShown app slack covered next c all (lacked_by app x owed) x y
  unfolding book_of card_view
  all_told y there = record { goes = there.goes; mark = there.mark; word = there.low; shut = there.shut }

  first_still : (y : List ℕ) → InsertingOpen app registration odometer owed now x y → (z : List ℕ) × IsStill app x z
  first_still y (inl still) = (y, still)
  first_still y (inr (z, still, rest)) = (z, still)

  replay_told : (y : List ℕ) → (session_time app y ≡ session_time app x) × ReplaysOf app.activity slack covered next (mark_of (book_of app x)) c all (lacked (mark_of (book_of app x)) owed) (end_mark app y) (card_days app y)
      → IsReplayShown app slack covered next c all (lacked_by app x owed) x y
  unfolding book_of
  replay_told y one = record { session = one.0; first = one.1 }

  pub shows_moments : (y : List ℕ) → InsertingOpen app registration odometer owed now x y → IsInsertionShown app slack covered next c all (lacked_by app x owed) x y
  shows_moments y inserting =
      let still = first_still y inserting in
      ⊎_elim (λ first. inl (replay_told y first)) (λ there. inr (all_told y there))
      (open_shown app sound x fits registration long odometer now owed ordered slack covered from next c all least (asked still.0 still.1) y inserting)

  pub shows_all : (y : List ℕ) → InsertsOpen app registration odometer owed now x y → IsAllShown app slack covered next c all (lacked_by app x owed) x y
  shows_all y inserts = all_told y (open_all app sound x fits registration long odometer now owed ordered slack covered from next c all least (asked inserts.0 inserts.1) y inserts)

-- ---- a card without a session, whose words are closed

module _ (app : Application) (sound : IsApplication app) (x : List ℕ) (fits : image_size_of app ≤ length x) (registration : Registration) (long : length registration.0 ≡ 15) (now : ℕ)
    (slack : Bound) (covered from : ℕ) (c : Counted) (all : List Entry) (goes : StringFollowsEntries app slack covered from c all x) (shut : is_open (end_mark app x) (card_days app x) ≡ false) where
  same_told : (y : List ℕ) → book_of app y ≡ book_of app x → (card_days app y ≡ card_days app x) × (end_mark app y ≡ end_mark app x)
  unfolding book_of
  same_told y is = (ap (λ (k : Book). k.days) is, ap (λ (k : Book). mark_of k) is)

  still_told : (y : List ℕ) → (card_days app y ≡ card_days app x) × (end_mark app y ≡ end_mark app x) → IsStillShown app slack covered from c all x y
  still_told y same = record { days = same.0; mark = same.1; goes = goes_moved app slack covered from c all x y same.0 same.1 goes }

  shut_there : (y : List ℕ) → book_of app y ≡ book_of app x → is_open (mark_of (book_of app y)) (book_of app y).days ≡ false
  unfolding book_of
  shut_there y is = ap (λ (k : Book). is_open (mark_of k) k.days) is ∙ shut

  module _ (y : List ℕ) (still : IsStill app x y) where
    same_book : book_of app y ≡ book_of app x
    same_book = told_book app (book_of app x) x y still

    shut_book : (z : List ℕ) → IsShutting app y z → book_of app z ≡ book_of app x
    shut_book z card =
        let is = closed_still app.activity (book_of app y) (shut_there y same_book) (book_of app z).days (book_of app z).vehicles card.told in
        told_book app (book_of app y) y z (record { outside = card.outside; holds = card.holds; points = card.points; told = is }) ∙ same_book

    use_same : (z w : List ℕ) → IsShut app y z → Same app z w → (card_days app w ≡ card_days app x) × (end_mark app w ≡ end_mark app x)
    use_same z w card side =
        let first = same_told z (shut_book z (record { outside = card.outside; holds = card.holds; points = card.points; told = inr card.told })) in
        (days_same app z w side.0 ∙ first.0, mark_beside app sound z w side.0 side.1 card.points ∙ first.1)

    room_left : (z : List ℕ) → IsShut app y z → place_of app (file 0x0507) + 19 ≤ length z
    room_left z card = omega (arith, use_inside app, fits, still.outside.same_length, card.outside.same_length)

  pub closed_shown : (y : List ℕ) → InsertingClosed app registration now x y → IsStillShown app slack covered from c all x y
  closed_shown y (inl still) = still_told y (same_told y (same_book y still))
  closed_shown y (inr (x1, still, inl shutting)) = still_told y (same_told y (shut_book x1 still y shutting))
  closed_shown y (inr (x1, still, inr (x2, shut_, opening))) = still_told y (use_same x1 still x2 y shut_ (opening_same app registration now long x2 y (room_left x1 still x2 shut_) opening))

-- ---- the newest minute lies on the day of the end mark

module _ (app : Application) (x : List ℕ) where
  pub mark_day : AreDays 0 (card_days app x) → (card_view app x).newest / 1440 ≡ end_mark app x / 1440
  mark_day are = ap (λ (n : ℕ). n / 1440) (view_newest app x) ∙ by (is_open (end_mark app x) (trimmed (end_mark app x) (card_days app x))) refl
    where
      low : newest_word (trimmed (end_mark app x) (card_days app x)) ≤ end_mark app x
      low = trimmed_low (end_mark app x) (card_days app x) are

      by : (o : Bool) → is_open (end_mark app x) (trimmed (end_mark app x) (card_days app x)) ≡ o → newest_by_mark (end_mark app x) (card_days app x) / 1440 ≡ end_mark app x / 1440
      by true is =
          ap (λ (o : Bool). cond o (suc (end_mark app x)) (max (end_mark app x) (newest_word (trimmed (end_mark app x) (card_days app x)))) / 1440) is
          ∙ day_same (end_mark app x) (trimmed (end_mark app x) (card_days app x)) (open_date (end_mark app x) (trimmed (end_mark app x) (card_days app x)) is) low
      by false is =
          let most : max (end_mark app x) (newest_word (trimmed (end_mark app x) (card_days app x))) ≡ end_mark app x = omega (arith, low) in
          ap (λ (o : Bool). cond o (suc (end_mark app x)) (max (end_mark app x) (newest_word (trimmed (end_mark app x) (card_days app x)))) / 1440) is ∙ ap (λ (n : ℕ). n / 1440) most

  pub days_of_open : (registration : Registration) (odometer now : ℕ) (owed : List Entry) (y : List ℕ) → InsertingOpen app registration odometer owed now x y → AreDays 0 (card_days app x)
  unfolding book_of
  days_of_open registration odometer now owed y (inl still) = subst (λ (ds : List Day). AreDays 0 ds) still.told.0 still.holds.ordered
  days_of_open registration odometer now owed y (inr (z, still, rest)) = subst (λ (ds : List Day). AreDays 0 ds) still.told.0 still.holds.ordered
