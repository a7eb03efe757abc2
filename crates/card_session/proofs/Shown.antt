-- The entries that a card shows at each moment of an insertion.
use Rattle.std.proofs.Common.{◌≡◌, ◌≢◌, inl, inr, ⊎_elim, ℕ, ◌+◌, ◌/◌, ◌%◌, ◌<◌, ◌≤◌, Bool, false, cond, ◌||◌, List, [], ◌∷◌, ◌++◌, length, append_assoc, refl, sym, ◌∙◌, ap, subst, arith}
use Rattle.std.specs.Prelude.{◌⊎◌, nat_eq}
use Rattle.std.specs.List.{AllByRecursion}
use Rattle.std.proofs.lemmas.Bool.Decides.{nat_tests}
use Rattle.std.proofs.lemmas.List.{append-nil}
use Rattle.activity_codec.specs.declared.values.Activity.TheVariants.{Rest}
use Rattle.activity_codec.specs.declared.entries.Entry.{Entry}
use Rattle.tacho_types.specs.declared.texts.Registration.{Registration}
use Rattle.card_layout.specs.declared.files.Application.{Application}
use Rattle.card_layout.specs.Application.{IsApplication}
use Rattle.card_layout.specs.Files.{image_size_of, place_of}
use Rattle.card_days.specs.card_model.Days.{Day, AreDays}
use Rattle.card_days.specs.card_model.Changes.{AllLater, date_of, trimmed}
use Rattle.card_days.proofs.card_model.Trims.{are_trimmed}
use Rattle.card_validity.specs.card_retention.Expected.{is_newest}
use Rattle.card_validity.specs.card_retention.Entries.{day_entries, entries_up_to, newest_word}
use Rattle.card_validity.specs.card_retention.Retains.{is_day, entries_in}
use Rattle.card_validity.specs.card_retention.Shown.{AllUpTo, sizes}
use Rattle.card_validity.proofs.card_retention.Listing.{Lists, day_none}
use Rattle.card_validity.proofs.card_retention.ListTrims.{lists_trimmed}
use Rattle.gated_ring.specs.Ring.{PointsInside}
use Rattle.card_validity.specs.card_image.Fields.{file, vehicle_ring, card_days, end_mark, session_time}
use Rattle.card_validity.specs.card_image.Beside.{HaveSameDays, HaveSameVehicles}
use Rattle.card_validity.specs.card_image.Judging.{IsValid}
use Rattle.card_validity.proofs.card_image.Beside.{days_same}
use Rattle.card_session.specs.Vehicles.{Vehicles, last_use_in}
use Rattle.card_session.specs.Books.{Book, mark_of, gap_closed, with_entry}
use Rattle.card_session.specs.Sessions.{book_of}
use Rattle.card_session.specs.Parts.{IsBeforeGapOf}
use Rattle.card_session.specs.Inserting.{Follow, lacked, with_cut, with_owed, IsBeforeAll, IsReplaying, EndsCut, repaired, IsRepairMoment, IsStill, IsRepaired, IsRepairing, IsNoted, IsNoting, IsShut, IsShutting, InsertingClosed, InsertsOpen, InsertingOpen}
use Rattle.card_session.specs.Overwriting.{ShowsEntries}
use Rattle.card_session.specs.Repairs.{mark_behind, HasShown, BeginsLater, lacked_by, ShowsMore}
use Rattle.card_session.proofs.Composing.{told_book}
use Rattle.card_session.proofs.Preparing.{used_at}
use Rattle.card_session.proofs.Surviving.{newest_gapped, keep_survives, lists_survive}
use Rattle.card_session.proofs.Stopping.{before_use}
use Rattle.card_session.proofs.Committed.{silent_end, commit_shows, close_shows}
use Rattle.card_session.proofs.Marks.{mark_told}
use Rattle.card_session.proofs.Revalid.{book_are, days_are, cut_strict, full_is, noted_fine, noted_low, noted_fits}
use Rattle.card_session.proofs.InsertingBooks.{lacked_follow, cut_ready, trimmed_low}
use Rattle.card_session.proofs.InsertingCards.{noted_same, noting_same}
use Rattle.card_session.proofs.InsertingUse.{use_inside}
use Rattle.card_session.proofs.InsertingOpen.{Same, opening_same, reopening_same, reopened_same}
use Rattle.card_session.proofs.Replaying.{with_are, with_before, with_later, replay_low}
use Rattle.card_session.proofs.Repairing.{lacked_many, owed_at, mark_beside}

-- ---- days later than the mark have no entry of before

late_none : (mark date : ℕ) (gone : List Day) → AreDays date gone → AllLater (date_of mark) gone → entries_up_to mark gone ≡ []
late_none mark date [] are later = refl
late_none mark date (d ∷ ds) are later = ap (λ (l : List Entry). l ++ entries_up_to mark ds) (day_none mark d are.1.midnight later.0) ∙ late_none mark d.date ds are.2 later.1

front_entries : (mark date : ℕ) (kept gone : List Day) → AreDays date (kept ++ gone) → AllLater (date_of mark) gone → entries_up_to mark (kept ++ gone) ≡ entries_up_to mark kept
front_entries mark date [] gone are later = late_none mark date gone are later
front_entries mark date (d ∷ ds) gone are later = ap (λ (l : List Entry). day_entries mark d ++ l) (front_entries mark d.date ds gone are.2 later)

apart_day : (mark k : ℕ) (d : Day) → k ≤ mark / 1440 → d.date % 86400 ≡ 0 → date_of mark < d.date → d.date / 86400 ≢ k
apart_day mark k d low midnight later same = omega (arith, low, midnight, later, same)

not_same : (m n : ℕ) → m ≢ n → nat_eq m n ≡ false
not_same m n apart = grind (arith, nat_tests)

late_day : (mark k date : ℕ) (gone : List Day) → k ≤ mark / 1440 → AreDays date gone → AllLater (date_of mark) gone → is_day k (sizes gone) ≡ false
late_day mark k date [] low are later = refl
late_day mark k date (d ∷ ds) low are later =
    ap (λ (b : Bool). b || is_day k (sizes ds)) (not_same (d.date / 86400) k (apart_day mark k d low are.1.midnight later.0)) ∙ late_day mark k d.date ds low are.2 later.1

front_day : (mark k date : ℕ) (kept gone : List Day) → k ≤ mark / 1440 → AreDays date (kept ++ gone) → AllLater (date_of mark) gone → is_day k (sizes (kept ++ gone)) ≡ is_day k (sizes kept)
front_day mark k date [] gone low are later = late_day mark k date gone low are later
front_day mark k date (d ∷ ds) gone low are later = ap (λ (b : Bool). nat_eq (d.date / 86400) k || b) (front_day mark k d.date ds gone low are.2 later)

front_in : (mark : ℕ) (es : List Entry) (kept gone : List Day) → AllUpTo mark es → AreDays 0 (kept ++ gone) → AllLater (date_of mark) gone → entries_in (sizes (kept ++ gone)) es ≡ entries_in (sizes kept) es
front_in mark [] kept gone up are later = refl
front_in mark (e ∷ es) kept gone up are later =
    ap (λ (b : Bool). cond b (e ∷ entries_in (sizes (kept ++ gone)) es) (entries_in (sizes (kept ++ gone)) es)) (front_day mark (e.minute / 1440) 0 kept gone (omega (arith, up.0)) are later)
    ∙ ap (λ (l : List Entry). cond (is_day (e.minute / 1440) (sizes kept)) (e ∷ l) l) (front_in mark es kept gone up.1 are later)

lists_front : (mark : ℕ) (all : List Entry) (days kept gone : List Day) → days ≡ kept ++ gone → AllLater (date_of mark) gone → AreDays 0 days → AllUpTo mark all → Lists mark all days → Lists mark all kept
lists_front mark all days kept gone is later are up lists =
    let whole : AreDays 0 (kept ++ gone) = subst (λ (ds : List Day). AreDays 0 ds) is are in
    let there : Lists mark all (kept ++ gone) = subst (λ (ds : List Day). Lists mark all ds) is lists in
    sym (front_entries mark 0 kept gone whole later) ∙ there ∙ front_in mark all kept gone up whole later

-- ---- entries up to a minute

up_and : (m : ℕ) (es : List Entry) (e : Entry) → m ≤ e.minute → AllUpTo m es → AllUpTo e.minute (es ++ e ∷ [])
up_and m [] e le up = (omega arith, tt)
up_and m (f ∷ es) e le up = (omega (arith, up.0, le), up_and m es e le up.1)

up_all : (m : ℕ) (all es : List Entry) → Follow m es → AllUpTo m all → AllUpTo (mark_behind m es) (all ++ es)
up_all m all [] follow up = subst (AllUpTo m) (sym (append-nil all)) up
up_all m all (e ∷ es) follow up = subst (AllUpTo (mark_behind e.minute es)) (append_assoc all (e ∷ []) es) (up_all e.minute (all ++ e ∷ []) es follow.1 (up_and m all e (omega (arith, follow.0)) up))

none_more : (now : ℕ) (all : List Entry) (ds : List Day) → Lists now all ds → Lists now (all ++ []) ds
none_more now all ds lists = subst (λ (l : List Entry). Lists now l ds) (sym (append-nil all)) lists

-- ---- a replay

module _ (size : ℕ) (long : 5544 ≤ size) (registration : Registration) (odometer : ℕ) where
  module _ (e : Entry) (all : List Entry) (b : Book) (are : AreDays 0 b.days) (low : newest_word b.days ≤ mark_of b) (up : AllUpTo (mark_of b) all) (listed : Lists (mark_of b) all b.days)
      (gap : IsBeforeGapOf e.minute b) (some : 1440 ≤ e.minute) (begins : is_newest (e.minute / 1440) (sizes b.days) ≡ false → mark_of b / 1440 < e.minute / 1440) where
    next_are : AreDays 0 (with_entry size registration odometer 0 b e).days
    next_are = with_are size long registration odometer 0 b are e gap some

    next_shown : Lists e.minute (all ++ e ∷ []) (with_entry size registration odometer 0 b e).days
    next_shown =
        commit_shows size long b are e gap (silent_end (mark_of b) b.days are low) all up listed (λ other. begins (sym (newest_gapped size long b are e.minute (e.minute / 1440)) ∙ other)) 0 next_are

    next_listed : Lists (mark_of (with_entry size registration odometer 0 b e)) (all ++ e ∷ []) (with_entry size registration odometer 0 b e).days
    next_listed = subst (λ (n : ℕ). Lists n (all ++ e ∷ []) (with_entry size registration odometer 0 b e).days) (sym (used_at registration odometer e.minute b.vehicles)) next_shown

    next_up : AllUpTo (mark_of (with_entry size registration odometer 0 b e)) (all ++ e ∷ [])
    next_up = subst (λ (n : ℕ). AllUpTo n (all ++ e ∷ [])) (sym (used_at registration odometer e.minute b.vehicles)) (up_and (mark_of b) all e (omega (arith, gap.1)) up)

    next_low : newest_word (with_entry size registration odometer 0 b e).days ≤ mark_of (with_entry size registration odometer 0 b e)
    next_low = replay_low size long registration odometer 0 (e ∷ []) b are low (gap.0, (gap.1, tt)) (some, tt)

  -- all of them are shown behind those of before
  replay_lists : (es all : List Entry) (b : Book) → AreDays 0 b.days → newest_word b.days ≤ mark_of b → AllUpTo (mark_of b) all → Lists (mark_of b) all b.days → IsBeforeAll es b → AllByRecursion (λ e. 1440 ≤ e.minute) es
      → BeginsLater (mark_of b) es b.days → Lists (mark_of (with_owed size registration odometer es b)) (all ++ es) (with_owed size registration odometer es b).days
  replay_lists [] all b are low up listed before many begins = none_more (mark_of b) all b.days listed
  replay_lists (e ∷ es) all b are low up listed before many begins =
      let gap : IsBeforeGapOf e.minute b = (before.0, before.1.0) in
      let next : Book = with_entry size registration odometer 0 b e in
      subst (λ (l : List Entry). Lists (mark_of (with_owed size registration odometer es next)) l (with_owed size registration odometer es next).days) (append_assoc all (e ∷ []) es)
      (replay_lists es (all ++ e ∷ []) next (next_are e all b are low up listed gap many.0 begins) (next_low e all b are low up listed gap many.0 begins) (next_up e all b are low up listed gap many.0 begins)
      (next_listed e all b are low up listed gap many.0 begins) (with_before size long registration odometer 0 b are e gap many.0 es before.1.1) many.1 (with_later size long registration odometer 0 b are e gap many.0 es before.1.1))

  -- AT EACH MOMENT the first of them are
  replay_shown : (es all : List Entry) (b : Book) → AreDays 0 b.days → newest_word b.days ≤ mark_of b → AllUpTo (mark_of b) all → Lists (mark_of b) all b.days → IsBeforeAll es b → AllByRecursion (λ e. 1440 ≤ e.minute) es
      → BeginsLater (mark_of b) es b.days → (ds : List Day) (v : Vehicles) → IsReplaying size registration odometer es b ds v → HasShown (mark_of b) all es (last_use_in v / 60) ds
  replay_shown [] all b are low up listed before many begins ds v is =
      let at : last_use_in v / 60 ≡ mark_of b = ap (λ (o : Vehicles). last_use_in o / 60) is.1 in
      record {
        done = [];
        rest = [];
        split = refl;
        behind = at;
        shows = none_more (last_use_in v / 60) all ds (subst (λ (n : ℕ). Lists n all ds) (sym at) (subst (λ (l : List Day). Lists (mark_of b) all l) (sym is.0) listed));
      }
  replay_shown (e ∷ es) all b are low up listed before many begins ds v (inl moment) = ⊎_elim
      (λ old. waits (ap (λ (o : Vehicles). last_use_in o / 60) old.0)
      (keep_survives size long b are (Lists (mark_of b) all) (Lists (mark_of b) all) (lists_survive (mark_of b) all up) listed e gap clear registration odometer 0 ds old.1))
      (λ new. ⊎_elim
      (λ unused. waits (before_use registration odometer e.minute b.vehicles v unused)
      (keep_survives size long b are (Lists (mark_of b) all) (Lists (mark_of b) all) (lists_survive (mark_of b) all up) listed e gap clear registration odometer 0 ds (inr (inr (inr new.0)))))
      (λ used.
      let at : last_use_in v / 60 ≡ e.minute = ap (λ (o : Vehicles). last_use_in o / 60) used ∙ used_at registration odometer e.minute b.vehicles in
      record {
        done = e ∷ [];
        rest = es;
        split = refl;
        behind = at;
        shows = subst (λ (n : ℕ). Lists n (all ++ e ∷ []) ds) (sym at) (subst (λ (l : List Day). Lists e.minute (all ++ e ∷ []) l) (sym new.0) (next_shown e all b are low up listed gap many.0 begins));
      })
      new.1)
      moment
    where
      gap : IsBeforeGapOf e.minute b
      gap = (before.0, before.1.0)

      clear : is_newest (e.minute / 1440) (sizes (gap_closed size (mark_of b) e.minute b.days)) ≡ false → mark_of b / 1440 < e.minute / 1440
      clear other = begins (sym (newest_gapped size long b are e.minute (e.minute / 1440)) ∙ other)

      waits : last_use_in v / 60 ≡ mark_of b → Lists (mark_of b) all ds → HasShown (mark_of b) all (e ∷ es) (last_use_in v / 60) ds
      waits at lists = record { done = []; rest = e ∷ es; split = refl; behind = at; shows = none_more (last_use_in v / 60) all ds (subst (λ (n : ℕ). Lists n all ds) (sym at) lists) }
  replay_shown (e ∷ es) all b are low up listed before many begins ds v (inr later) =
      let gap : IsBeforeGapOf e.minute b = (before.0, before.1.0) in
      let next : Book = with_entry size registration odometer 0 b e in
      let one = replay_shown es (all ++ e ∷ []) next (next_are e all b are low up listed gap many.0 begins) (next_low e all b are low up listed gap many.0 begins) (next_up e all b are low up listed gap many.0 begins)
      (next_listed e all b are low up listed gap many.0 begins) (with_before size long registration odometer 0 b are e gap many.0 es before.1.1) many.1 (with_later size long registration odometer 0 b are e gap many.0 es before.1.1) ds v later in
      record {
        done = e ∷ one.done;
        rest = one.rest;
        split = ap (λ (l : List Entry). e ∷ l) one.split;
        behind = one.behind ∙ ap (λ (m : ℕ). mark_behind m one.done) (used_at registration odometer e.minute b.vehicles);
        shows = subst (λ (l : List Entry). Lists (last_use_in v / 60) l ds) (append_assoc all (e ∷ []) one.done) one.shows;
      }

  -- ---- a repair

  module _ (b : Book) (are : AreDays 0 b.days) (strict : EndsCut b) (owed : List Entry) (ordered : Follow 1439 owed) (begins : BeginsLater (mark_of b) (lacked (mark_of b) owed) (trimmed (mark_of b) b.days))
      (all : List Entry) (up : AllUpTo (mark_of b) all) (listed : Lists (mark_of b) all b.days) where
    abbrev lacks : List Entry
    lacks = lacked (mark_of b) owed

    abbrev cut : Book
    cut = with_cut (mark_of b) b

    cut_listed : Lists (mark_of b) all (trimmed (mark_of b) b.days)
    cut_listed = lists_trimmed (mark_of b) all b.days are up listed

    cut_before : IsBeforeAll lacks cut
    cut_before = cut_ready 1439 (mark_of b) owed b are refl strict ordered

    repair_lists : Lists (mark_of (repaired size registration odometer owed b)) (all ++ lacks) (repaired size registration odometer owed b).days
    repair_lists =
        replay_lists lacks all cut (are_trimmed (mark_of b) 0 b.days are) (trimmed_low (mark_of b) b.days are) up cut_listed cut_before (lacked_many (mark_of b) owed ordered) begins

    none_shown : (ds : List Day) (v : Vehicles) → v ≡ b.vehicles → Lists (mark_of b) all ds → HasShown (mark_of b) all lacks (last_use_in v / 60) ds
    none_shown ds v same lists =
        let at : last_use_in v / 60 ≡ mark_of b = ap (λ (o : Vehicles). last_use_in o / 60) same in
        record { done = []; rest = lacks; split = refl; behind = at; shows = none_more (last_use_in v / 60) all ds (subst (λ (n : ℕ). Lists n all ds) (sym at) lists) }

    repair_shown : (ds : List Day) (v : Vehicles) → IsRepairMoment size registration odometer owed b ds v → HasShown (mark_of b) all lacks (last_use_in v / 60) ds
    repair_shown ds v (inl cutting) = ⊎_elim
        (λ shorter. none_shown ds v cutting.1 (lists_front (mark_of b) all b.days ds shorter.gone shorter.is shorter.later are up listed))
        (λ done. none_shown ds v cutting.1 (subst (λ (l : List Day). Lists (mark_of b) all l) (sym done) cut_listed)) cutting.0
    repair_shown ds v (inr replaying) =
        replay_shown lacks all cut (are_trimmed (mark_of b) 0 b.days are) (trimmed_low (mark_of b) b.days are) up cut_listed cut_before (lacked_many (mark_of b) owed ordered) begins ds v replaying

-- ---- a write elsewhere

module _ (app : Application) (sound : IsApplication app) (x c : List ℕ) (days : HaveSameDays app x c) (vehicles : HaveSameVehicles app x c) (points : PointsInside (vehicle_ring app) x) (es : List Entry) where
  shows_beside : ShowsEntries app es x → ShowsEntries app es c
  shows_beside shown =
      subst (λ (ds : List Day). Lists (end_mark app c) es ds) (sym (days_same app x c days))
      (subst (λ (n : ℕ). Lists n es (card_days app x)) (sym (mark_beside app sound x c days vehicles points)) shown)

  up_beside : AllUpTo (end_mark app x) es → AllUpTo (end_mark app c) es
  up_beside up = subst (λ (n : ℕ). AllUpTo n es) (sym (mark_beside app sound x c days vehicles points)) up

-- ---- a card whose session was left open

module _ (app : Application) (sound : IsApplication app) (x : List ℕ) (fits : image_size_of app ≤ length x) (registration : Registration) (long : length registration.0 ≡ 15) (odometer now : ℕ) (owed : List Entry) (ordered : Follow 1439 owed)
    (valid : IsValid app x) (open_ : nat_eq (session_time app x) 0 ≡ false) (begins : BeginsLater (end_mark app x) (lacked_by app x owed) (trimmed (end_mark app x) (card_days app x)))
    (all : List Entry) (up : AllUpTo (end_mark app x) all) (shown : ShowsEntries app all x) where
  abbrev more : List Entry
  more = all ++ lacked (mark_of (book_of app x)) owed

  abbrev All_shown : List ℕ → Type 0
  All_shown y = ShowsEntries app more y

  listed_told : Lists (mark_of (book_of app x)) all (book_of app x).days
  unfolding book_of
  listed_told = shown

  up_told : AllUpTo (mark_of (book_of app x)) all
  unfolding book_of
  up_told = up

  first_told : (y : List ℕ) → HasShown (mark_of (book_of app x)) all (lacked (mark_of (book_of app x)) owed) (last_use_in (book_of app y).vehicles / 60) (book_of app y).days → ShowsMore app all owed x y
  unfolding book_of
  first_told y first = first

  all_told : (y : List ℕ) (b : Book) → book_of app y ≡ b → Lists (mark_of b) more b.days → All_shown y
  unfolding book_of
  all_told y b is lists = subst (λ (k : Book). Lists (mark_of k) more k.days) (sym is) lists

  module _ (y : List ℕ) (still : IsStill app x y) where
    abbrev x_are : AreDays 0 (book_of app x).days
    x_are = days_are app sound x fits registration long odometer now owed ordered valid open_ y still

    abbrev x_strict : EndsCut (book_of app x)
    x_strict = cut_strict app sound x fits registration long odometer now owed ordered valid open_ y still

    x_later : BeginsLater (mark_of (book_of app x)) (lacked (mark_of (book_of app x)) owed) (trimmed (mark_of (book_of app x)) (book_of app x).days)
    unfolding book_of
    x_later = begins

    still_shows : ShowsMore app all owed x y
    still_shows =
        first_told y (none_shown app.activity sound.string_least registration odometer (book_of app x) x_are x_strict owed ordered x_later all up_told listed_told (book_of app y).days (book_of app y).vehicles still.told.1
        (subst (λ (l : List Day). Lists (mark_of (book_of app x)) all l) (sym still.told.0) listed_told))

    repairing_shows : (z : List ℕ) → IsRepairing app registration odometer owed y z → ShowsMore app all owed x z
    repairing_shows z card =
        first_told z (repair_shown app.activity sound.string_least registration odometer (book_of app x) x_are x_strict owed ordered x_later all up_told listed_told (book_of app z).days (book_of app z).vehicles
        (subst (λ (k : Book). IsRepairMoment app.activity registration odometer owed k (book_of app z).days (book_of app z).vehicles) (told_book app (book_of app x) x y still) card.told))

    module _ (z : List ℕ) (card : IsRepaired app registration odometer owed y z) where
      abbrev z_is : book_of app z ≡ repaired app.activity registration odometer owed (book_of app x)
      z_is = full_is app sound x fits registration long odometer now owed ordered valid open_ y still z card

      full_shows : All_shown z
      full_shows =
          all_told z (repaired app.activity registration odometer owed (book_of app x)) z_is
          (repair_lists app.activity sound.string_least registration odometer (book_of app x) x_are x_strict owed ordered x_later all up_told listed_told)

      full_mark : end_mark app z ≡ mark_behind (mark_of (book_of app x)) (lacked (mark_of (book_of app x)) owed)
      full_mark =
          mark_told app z ∙ ap (λ (k : Book). mark_of k) z_is
          ∙ owed_at app.activity registration odometer (lacked (mark_of (book_of app x)) owed) (with_cut (mark_of (book_of app x)) (book_of app x))

      full_up : AllUpTo (end_mark app z) more
      full_up =
          subst (λ (n : ℕ). AllUpTo n more) (sym full_mark)
          (up_all (mark_of (book_of app x)) all (lacked (mark_of (book_of app x)) owed) (lacked_follow 1439 (mark_of (book_of app x)) owed ordered) up_told)

      noting_shows : (c : List ℕ) → IsNoting app now z c → All_shown c
      noting_shows c noting = let side = noting_same app now z c noting in shows_beside app sound z c side.0 side.1 card.points more full_shows

      module _ (c : List ℕ) (noted : IsNoted app now z c) where
        noted_shows : All_shown c
        noted_shows = let side = noted_same app now z c noted in shows_beside app sound z c side.0 side.1 card.points more full_shows

        noted_up : AllUpTo (end_mark app c) more
        noted_up = let side = noted_same app now z c noted in up_beside app sound z c side.0 side.1 card.points more full_up

        shutting_shows : (w : List ℕ) → IsShutting app c w → All_shown w
        shutting_shows w shutting =
            close_shows app sound c
            (book_are app sound c (noted_fine app sound x fits registration long odometer now owed ordered valid open_ y still z card c noted) (noted_low app sound x fits registration long odometer now owed ordered valid open_ y still z card c noted))
            more noted_up noted_shows Rest w shutting

        use_shows : (w v : List ℕ) → IsShut app c w → Same app w v → All_shown v
        use_shows w v shut side =
            shows_beside app sound w v side.0 side.1 shut.points more (shutting_shows w (record { outside = shut.outside; holds = shut.holds; points = shut.points; told = inr shut.told }))

        room : (w : List ℕ) → IsShut app c w → place_of app (file 0x0507) + 19 ≤ length w
        room w shut = omega (arith, use_inside app, noted_fits app sound x fits registration long odometer now owed ordered valid open_ y still z card c noted, shut.outside.same_length)

  shows_open : (y : List ℕ) → InsertingOpen app registration odometer owed now x y → ShowsMore app all owed x y ⊎ All_shown y
  shows_open y (inl still) = inl (still_shows y still)
  shows_open y (inr (x1, still, inl repairing)) = inl (repairing_shows x1 still y repairing)
  shows_open y (inr (x1, still, inr (x2, mended, inl noting))) = inr (noting_shows x1 still x2 mended y noting)
  shows_open y (inr (x1, still, inr (x2, mended, inr (x3, noted, inl shutting)))) = inr (shutting_shows x1 still x2 mended x3 noted y shutting)
  shows_open y (inr (x1, still, inr (x2, mended, inr (x3, noted, inr (x4, shut, reopening))))) =
      inr (use_shows x1 still x2 mended x3 noted x4 y shut (reopening_same app registration now long x4 y (room x1 still x2 mended x3 noted x4 shut) reopening))

  pub shows_owed : (y : List ℕ) → InsertingOpen app registration odometer owed now x y → ShowsMore app all owed x y ⊎ ShowsEntries app (all ++ lacked_by app x owed) y
  unfolding book_of
  shows_owed y inserting = shows_open y inserting

  pub shows_all : (y : List ℕ) → InsertsOpen app registration odometer owed now x y → ShowsEntries app (all ++ lacked_by app x owed) y
  unfolding book_of
  shows_all y (x1, still, (x2, mended, (x3, noted, (x4, shut, reopened)))) =
      use_shows x1 still x2 mended x3 noted x4 y shut (reopened_same app registration now long x4 y (room x1 still x2 mended x3 noted x4 shut) reopened)

-- ---- a card without a session

module _ (app : Application) (sound : IsApplication app) (x : List ℕ) (fits : image_size_of app ≤ length x) (registration : Registration) (long : length registration.0 ≡ 15) (now : ℕ) (all : List Entry) (up : AllUpTo (end_mark app x) all)
    (shown : ShowsEntries app all x) where
  module _ (y : List ℕ) (still : IsStill app x y) where
    shut_up : AllUpTo (end_mark app y) all
    unfolding book_of
    shut_up = subst (λ (k : Book). AllUpTo (mark_of k) all) (sym (told_book app (book_of app x) x y still)) up

    shut_shown : ShowsEntries app all y
    unfolding book_of
    shut_shown = subst (λ (k : Book). Lists (mark_of k) all k.days) (sym (told_book app (book_of app x) x y still)) shown

    words_shown : (z : List ℕ) → IsShutting app y z → ShowsEntries app all z
    words_shown z card = close_shows app sound y still.holds.ordered all shut_up shut_shown Rest z card

    opened_shown : (z w : List ℕ) → IsShut app y z → Same app z w → ShowsEntries app all w
    opened_shown z w shut side =
        shows_beside app sound z w side.0 side.1 shut.points all (words_shown z (record { outside = shut.outside; holds = shut.holds; points = shut.points; told = inr shut.told }))

    shut_room : (z : List ℕ) → IsShut app y z → place_of app (file 0x0507) + 19 ≤ length z
    shut_room z shut = omega (arith, use_inside app, fits, still.outside.same_length, shut.outside.same_length)

  pub shows_closed : (y : List ℕ) → InsertingClosed app registration now x y → ShowsEntries app all y
  shows_closed y (inl still) = shut_shown y still
  shows_closed y (inr (x1, still, inl shutting)) = words_shown x1 still y shutting
  shows_closed y (inr (x1, still, inr (x2, shut, opening))) = opened_shown x1 still x2 y shut (opening_same app registration now long x2 y (shut_room x1 still x2 shut) opening)
