-- The closing word of a card without a session, by the rule of overwriting: the days go on at each moment, also while the end mark is the
-- old one; and an insertion of such a card.
use Rattle.std.proofs.Common.{◌≡◌, ◌⊎◌, inl, inr, ⊎_elim, ℕ, suc, ◌+◌, ◌-◌, ◌/◌, ◌<◌, ◌≤◌, max, Bool, true, false, cond, ◌&&◌, Option, List, [], ◌∷◌, length, refl, sym, ◌∙◌, ap, subst, arith}
use Rattle.std.specs.Prelude.{nat_lt}
use Rattle.card_by_hand.specs.activity_codec.declared.entries.Entry.{Entry}
use Rattle.card_by_hand.specs.activity_codec.declared.values.Activity.{Activity}
use Rattle.card_by_hand.specs.activity_codec.declared.values.Activity.TheVariants.{Rest}
use Rattle.card_by_hand.specs.activity_codec.Words.{word_absent, word_minute}
use Rattle.card_by_hand.specs.tacho_types.declared.texts.Registration.{Registration}
use Rattle.tach_media.specs.card_layout.Application.{IsApplication}
use Rattle.tach_media.specs.card_layout.Files.{image_size_of, place_of}
use Rattle.tach_media.specs.card_layout.declared.files.Application.{Application}
use Rattle.card_by_hand.specs.card_model.Days.{Day, AreDays, last_word}
use Rattle.card_by_hand.specs.card_model.Changes.{OnNewest, Remain, fitting, with_newest, with_word, date_of, trimmed}
use Rattle.card_by_hand.proofs.card_model.Retention.{remain_fitting, remain_some}
use Rattle.card_by_hand.proofs.card_model.Trims.{Behind, trimmed_word}
use Rattle.card_by_hand.specs.card_retention.Expected.{WordDay, more, Counted}
use Rattle.card_by_hand.specs.card_retention.Entries.{newest_minute, newest_word}
use Rattle.card_by_hand.specs.card_retention.Shown.{Bound, AllUpTo, Grows, EndsAbsent, Sound, Sound.Flat, Sound.Tail, Rests, Lives, sizes, is_open, owing}
use Rattle.card_by_hand.proofs.card_retention.Closing.{closed_rests}
use Rattle.card_by_hand.proofs.card_retention.Committing.{Quiet}
use Rattle.card_by_hand.proofs.card_retention.Entering.{before_later, fits_sizes, last_append, on_word}
use Rattle.card_by_hand.proofs.card_retention.Growing.{more_grows, sizes_word}
use Rattle.card_by_hand.proofs.card_retention.ListTrims.{QuietEnd, quiet}
use Rattle.card_by_hand.proofs.card_retention.Stops.{Base, base_days, base_left, absent_shut, open_left, sound_left}
use Rattle.card_by_hand.specs.card_image.Fields.{file, card_days, end_mark, session_time}
use Rattle.card_by_hand.specs.card_image.Judging.{IsValid}
use Rattle.card_by_hand.specs.card_image.View.{card_view}
use Rattle.card_by_hand.proofs.card_image.Beside.{days_same}
use Rattle.card_by_hand.specs.card_session.Books.{Book, mark_of, closed_days, closing_word, latest_of, with_change}
use Rattle.card_by_hand.specs.card_session.Moments.{IsClosingWord, IsCloseMoment}
use Rattle.card_by_hand.specs.card_session.Sessions.{IsOpenBook, newest_in, book_of}
use Rattle.card_by_hand.specs.card_session.Cards.{IsCard}
use Rattle.card_by_hand.specs.card_session.Inserting.{IsStill, IsShut, IsShutting, InsertsClosed, InsertingClosed}
use Rattle.card_by_hand.specs.card_session.Overwriting.{IsSilentBehind}
use Rattle.card_by_hand.proofs.card_session.Committed.{close_shows}
use Rattle.card_by_hand.proofs.card_session.Composing.{told_book}
use Rattle.card_by_hand.proofs.card_session.Following.{closing_minute}
use Rattle.card_by_hand.proofs.card_session.InsertingOpen.{Same, opening_same}
use Rattle.card_by_hand.proofs.card_session.InsertingUse.{use_inside}
use Rattle.card_by_hand.proofs.card_session.Marks.{mark_told}
use Rattle.card_by_hand.proofs.card_session.NewestStays.{newest_by_mark, open_low, view_newest, view_word}
use Rattle.card_by_hand.proofs.card_session.Preparing.{open_date}
use Rattle.card_by_hand.proofs.card_session.Renewing.{x_may, closed_answered}
use Rattle.card_by_hand.proofs.card_session.Repairing.{mark_beside}
use Rattle.card_by_hand.proofs.card_session.Stopping.{book_days, mark_at, closing_absent, lives_later}
use Rattle.card_by_hand.proofs.card_session.Valid.{flat_of}
use Rattle.card_string.specs.Carried.{StringFollowsEntries}
use Rattle.card_string.proofs.Moved.{goes_moved}
use Rattle.card_string.proofs.Shutting.{close_done}

grows_same : (ws : List WordDay) → Grows ws ws
grows_same [] = tt
grows_same (w ∷ ws) = (refl, omega arith, grows_same ws)

silent_all : (mark : ℕ) (ds : List Day) → ((next : ℕ) → Quiet mark next ds) → IsSilentBehind mark ds
silent_all mark [] q = tt
silent_all mark (d ∷ ds) q = (λ t low behind. (q (suc (d.date / 60 + t))).0 t low behind (omega arith), silent_all mark ds (λ next. (q next).1))

-- an entry's word that is open is no later than the mark, where a repair would leave the days
flat_open : (mark top : ℕ) (before : Option Entry) (ds : List Day) → is_open mark ds ≡ true → Sound mark top before ds → trimmed mark ds ≡ ds
flat_open mark top before ds is (Flat same) = same
flat_open mark top before ds is (Tail ends fewer apart) = let shut : is_open mark ds ≡ false = absent_shut mark ds ends in absurd (cc)

module _ (size : ℕ) (long : 5544 ≤ size) (act : Activity) (mark : ℕ) (days : List Day) (slack : Bound) (covered from next : ℕ) (c : Counted) (least : 16 ≤ slack.bytes) (later : from ≤ next) (l : Lives size slack covered from mark c days) where
  ordered : AreDays 0 days
  ordered = l.rests.ordered

  -- some of the oldest days are gone
  pub left_lives : (room : ℕ) (kept : List Day) → 2894 ≤ room → size ≤ room + slack.bytes → Remain room days kept → Lives size slack covered next mark c kept
  left_lives room kept wide fits left =
      let b : Base size slack covered from mark c days l next later long least kept = base_left size slack covered from mark c days l next later long least room days kept wide fits left (base_days size slack covered from mark c days l next later long least) in
      record {
        rests = record {
          ordered = b.ordered;
          rising = l.rests.rising;
          filled = l.rests.filled;
          top = l.rests.top;
          words = l.rests.words;
          entry = l.rests.entry;
          low = l.rests.low;
          next = omega (arith, l.rests.next, later);
          later = omega (arith, l.rests.later, later);
          by_mark = l.rests.by_mark;
          tells = b.tells;
          shows = b.shows;
        };
        sound = b.sound;
      }

  -- the word stands there
  module _ (is : is_open mark days ≡ true) (promised : suc mark < next) where
    abbrev w : ℕ
    w = closing_word (suc mark) act (latest_of days)

    abbrev kept : List Day
    kept = fitting (size - 2) days

    absent : word_absent (closing_word (suc mark) act (latest_of days)) ≡ true
    absent = closing_absent (suc mark) act (latest_of days)

    on_day : OnNewest (λ d. d.date ≡ date_of (suc mark)) kept
    on_day = remain_some (λ d. d.date ≡ date_of (suc mark)) (size - 2) 0 days kept (omega (arith, long)) ordered (remain_fitting (size - 2) days) (open_date mark days is)

    ends : EndsAbsent (with_newest (with_word w) kept)
    ends = on_word (λ d. d.date ≡ date_of (suc mark)) (λ d. word_absent (last_word d.words) ≡ true) w kept (λ d date. ap word_absent (last_append d.words w) ∙ absent) on_day

    flat : trimmed mark kept ≡ kept
    flat =
        let fits = (fits_sizes 0 (size - 2) days (omega (arith, long)) ordered).0 in
        flat_open mark l.rests.top c.before kept (open_left mark (size - 2) days kept fits (remain_fitting (size - 2) days) ∙ is)
        (sound_left mark l.rests.top (size - 2) 0 c.before days kept fits ordered (remain_fitting (size - 2) days) l.sound)

    on_behind : OnNewest (Behind mark w) kept
    on_behind = weaker (λ d. d.date ≡ date_of (suc mark)) (Behind mark w) kept (λ d date. record { day = omega (arith, date); minute = λ same. omega (arith, date, same, closing_minute (suc mark) act (latest_of days)) }) on_day
      where
        weaker : (P Q : Day → Type 0) (ds : List Day) → ((d : Day) → P d → Q d) → OnNewest P ds → OnNewest Q ds
        weaker P Q [] f on = absurd on
        weaker P Q (d ∷ []) f on = f d on
        weaker P Q (d ∷ e ∷ ds) f on = weaker P Q (e ∷ ds) f on

    same_cut : trimmed mark (with_newest (with_word w) kept) ≡ kept
    same_cut = trimmed_word mark w kept on_behind ∙ flat

    word_rests : AreDays 0 (with_newest (with_word w) kept) → Rests size slack covered next mark c (with_newest (with_word w) kept)
    word_rests are = closed_rests size slack covered next mark c days (lives_later size slack covered from next mark c days later l) long least w mark is absent promised (omega arith) (omega arith) are

    pub word_lives : AreDays 0 (with_newest (with_word w) kept) → Lives size slack covered next mark c (with_newest (with_word w) kept)
    word_lives are = by (word_rests are)
      where
        by : Rests size slack covered next mark c (with_newest (with_word w) kept) → Lives size slack covered next mark c (with_newest (with_word w) kept)
        by r = record {
          rests = record {
            ordered = r.ordered;
            rising = r.rising;
            filled = r.filled;
            top = max r.top (suc mark);
            words = omega (arith, r.words);
            entry = λ p at. (omega (arith, (r.entry p at).0), (r.entry p at).1);
            low = before_later (suc (r.top / 1440)) (suc (max r.top (suc mark) / 1440)) c.days (omega arith) r.low;
            next = omega (arith, r.next, promised);
            later = r.later;
            by_mark = r.by_mark;
            tells = λ p at top. absurd (omega (arith, (r.entry p at).1, top));
            shows = r.shows;
          };
          sound = Tail ends grows (λ p at. omega (arith, (r.entry p at).1));
        }
          where
            grows : (n : ℕ) → Grows (owing n mark (trimmed mark (with_newest (with_word w) kept))) (sizes (with_newest (with_word w) kept))
            grows n = subst (λ (ds : List Day). Grows (owing n mark ds) (sizes (with_newest (with_word w) kept))) (sym same_cut)
                (subst (λ (ws : List WordDay). Grows (owing n mark kept) ws) (sym (sizes_word w kept)) (fewer (is_open mark kept && nat_lt (suc mark) n)))
              where
                fewer : (o : Bool) → Grows (cond o (more (sizes kept)) (sizes kept)) (more (sizes kept))
                fewer true = grows_same (more (sizes kept))
                fewer false = more_grows (sizes kept)

    -- and behind the mark no minute tells an entry
    pub word_silent : AreDays 0 (with_newest (with_word w) kept) → IsSilentBehind mark (with_newest (with_word w) kept)
    word_silent are = silent_all mark (with_newest (with_word w) kept) (λ n. quiet mark n 0 (with_newest (with_word w) kept) are
        (on_word (λ d. d.date ≡ date_of (suc mark)) (QuietEnd mark n) w kept
        (λ d date. record {
          begins = omega (arith, date);
          last = omega (arith, date, ap word_minute (last_append d.words w), closing_minute (suc mark) act (latest_of days));
          ends = inl (ap word_absent (last_append d.words w) ∙ absent);
        })
        on_day))

-- ---- on a card

module _ (app : Application) (sound : IsApplication app) (x : List ℕ) (ordered : AreDays 0 (book_of app x).days) (act : Activity) (slack : Bound) (covered from next : ℕ) (c : Counted) (all : List Entry) (least : 16 ≤ slack.bytes) (later : from ≤ next)
    (late : newest_minute (end_mark app x) (card_days app x) < next) (g : StringFollowsEntries app slack covered from c all x) where
  open_late : is_open (end_mark app x) (card_days app x) ≡ true → suc (end_mark app x) < next
  open_late is = by (is_open (end_mark app x) (card_days app x)) is late
    where
      by : (o : Bool) → o ≡ true → cond o (suc (end_mark app x)) (max (end_mark app x) (newest_word (card_days app x))) < next → suc (end_mark app x) < next
      by true is lt = lt
      by false is lt = absurd (cc)

  -- so the days go on with the old end mark
  abbrev GoesBy : List Day → Type 0
  GoesBy ds = Lives app.activity slack covered next (end_mark app x) c ds × (is_open (end_mark app x) ds ≡ false → IsSilentBehind (end_mark app x) ds)

  -- the days as they were, without some of the oldest, or with the word
  abbrev Written : List Day → Type 0
  Written ds = (ds ≡ card_days app x)
      ⊎ ((is_open (end_mark app x) (card_days app x) ≡ true) × (Remain (app.activity - 2) (card_days app x) ds ⊎ (ds ≡ closed_days app.activity (end_mark app x) act (card_days app x))))

  abbrev word : ℕ
  word = closing_word (suc (end_mark app x)) act (latest_of (card_days app x))

  goes_by : (ds : List Day) → AreDays 0 ds → Written ds → GoesBy ds
  goes_by ds are (inl same) = subst GoesBy (sym same) (lives_later app.activity slack covered from next (end_mark app x) c (card_days app x) later g.lives, g.silent)
  goes_by ds are (inr (is, inl left)) = (
    left_lives app.activity sound.string_least act (end_mark app x) (card_days app x) slack covered from next c least later g.lives (app.activity - 2) ds (omega (arith, sound.string_least)) (omega (arith, least)) left,
    λ shut. absurd (apart (sym (open_left (end_mark app x) (app.activity - 2) (card_days app x) ds (fits_sizes 0 (app.activity - 2) (card_days app x) (omega (arith, sound.string_least)) g.lives.rests.ordered).0 left ∙ is) ∙ shut)),
  )
    where
      apart : true ≡ false → ⊥
      apart never = cc
  goes_by ds are (inr (is, inr there)) =
      let changed : ds ≡ with_change app.activity word (card_days app x) = there ∙ ap (λ (o : Bool). cond o (with_change app.activity word (card_days app x)) (card_days app x)) is in
      let with_are : AreDays 0 (with_change app.activity word (card_days app x)) = subst (λ (l : List Day). AreDays 0 l) changed are in
      subst GoesBy (sym changed) (
        word_lives app.activity sound.string_least act (end_mark app x) (card_days app x) slack covered from next c least later g.lives is (open_late is) with_are,
        λ shut. word_silent app.activity sound.string_least act (end_mark app x) (card_days app x) slack covered from next c least later g.lives is (open_late is) with_are,
      )

  -- by its book
  written_told : (y : List ℕ) → IsClosingWord app.activity act (book_of app x) (book_of app y).days → Written (card_days app y)
  unfolding book_of
  written_told y moment = moment

  pub close_stays : (y : List ℕ) → IsCard app (IsCloseMoment app.activity act (book_of app x)) x y → (book_of app y).vehicles ≡ (book_of app x).vehicles → IsClosingWord app.activity act (book_of app x) (book_of app y).days
      → StringFollowsEntries app slack covered next c all y × (end_mark app y ≡ end_mark app x)
  close_stays y card vehicle moment =
      let at : end_mark app y ≡ end_mark app x = mark_at app (book_of app x) y vehicle ∙ sym (mark_told app x) in
      let are : AreDays 0 (card_days app y) = subst (λ (ds : List Day). AreDays 0 ds) (book_days app y) card.holds.ordered in
      let by = goes_by (card_days app y) are (written_told y moment) in (
        record {
          lives = subst (λ (m : ℕ). Lives app.activity slack covered next m c (card_days app y)) (sym at) by.0;
          until = subst (λ (m : ℕ). AllUpTo m all) (sym at) g.until;
          lists = close_shows app sound x ordered all g.until g.lists act y card;
          silent = subst (λ (m : ℕ). is_open m (card_days app y) ≡ false → IsSilentBehind m (card_days app y)) (sym at) by.1;
        },
        at,
      )

-- ---- AN INSERTION of a card without a session, whatever its latest word is

pub goes_later : (app : Application) (slack : Bound) (covered from next : ℕ) (c : Counted) (all : List Entry) (x : List ℕ) → from ≤ next → StringFollowsEntries app slack covered from c all x → StringFollowsEntries app slack covered next c all x
goes_later app slack covered from next c all x le g = record { lives = lives_later app.activity slack covered from next (end_mark app x) c (card_days app x) le g.lives; until = g.until; lists = g.lists; silent = g.silent }

module _ (app : Application) (sound : IsApplication app) (x : List ℕ) (fits : image_size_of app ≤ length x) (registration : Registration) (long : length registration.0 ≡ 15) (now : ℕ) (valid : IsValid app x) (none : session_time app x ≡ 0)
    (slack : Bound) (covered from next : ℕ) (c : Counted) (all : List Entry) (least : 16 ≤ slack.bytes) (later : from ≤ next) (late : newest_minute (end_mark app x) (card_days app x) < next) (g : StringFollowsEntries app slack covered from c all x) where
  same_told : (y : List ℕ) → book_of app y ≡ book_of app x → (card_days app y ≡ card_days app x) × (end_mark app y ≡ end_mark app x)
  unfolding book_of
  same_told y is = (ap (λ (k : Book). k.days) is, ap (λ (k : Book). mark_of k) is)

  module _ (y : List ℕ) (still : IsStill app x y) where
    y_is : book_of app y ≡ book_of app x
    y_is = told_book app (book_of app x) x y still

    y_days : card_days app y ≡ card_days app x
    y_days = (same_told y y_is).0

    y_mark : end_mark app y ≡ end_mark app x
    y_mark = (same_told y y_is).1

    y_goes : StringFollowsEntries app slack covered from c all y
    y_goes = goes_moved app slack covered from c all x y y_days y_mark g

    y_may : IsOpenBook (book_of app y)
    y_may = subst IsOpenBook (sym y_is) (x_may app sound x fits registration long now valid none y still)

    y_late : newest_minute (end_mark app y) (card_days app y) < next
    y_late = subst (λ (ds : List Day). newest_minute (end_mark app y) ds < next) (sym y_days) (subst (λ (m : ℕ). newest_minute m (card_days app x) < next) (sym y_mark) late)

    shutting_goes : (z : List ℕ) → IsShutting app y z → StringFollowsEntries app slack covered next c all z × (end_mark app z / 1440 ≡ end_mark app x / 1440)
    shutting_goes z card = ⊎_elim
        (λ old. let stays = close_stays app sound y still.holds.ordered Rest slack covered from next c all least later y_late y_goes z card old.0 old.1 in (stays.0, ap (λ (m : ℕ). m / 1440) (stays.1 ∙ y_mark)))
        (λ book.
        let done =
        close_done app sound y still.holds.ordered y_may Rest slack covered from next c all least later y_late y_goes z card.holds.ordered book (close_shows app sound y still.holds.ordered all y_goes.until y_goes.lists Rest z card) in
        (done.goes, done.day ∙ ap (λ (m : ℕ). m / 1440) y_mark)) card.told

    use_goes : (z w : List ℕ) → IsShut app y z → Same app z w → StringFollowsEntries app slack covered next c all w × (end_mark app w / 1440 ≡ end_mark app x / 1440)
    use_goes z w card side =
        let first = shutting_goes z (record { outside = card.outside; holds = card.holds; points = card.points; told = inr card.told }) in
        let days : card_days app w ≡ card_days app z = days_same app z w side.0 in
        let mark : end_mark app w ≡ end_mark app z = mark_beside app sound z w side.0 side.1 card.points in
        (goes_moved app slack covered next c all z w days mark first.0, ap (λ (m : ℕ). m / 1440) mark ∙ first.1)

    room_left : (z : List ℕ) → IsShut app y z → place_of app (file 0x0507) + 19 ≤ length z
    room_left z card = omega (arith, use_inside app, fits, still.outside.same_length, card.outside.same_length)

  pub unclosed_shown : (y : List ℕ) → InsertingClosed app registration now x y → StringFollowsEntries app slack covered next c all y × (end_mark app y / 1440 ≡ end_mark app x / 1440)
  unclosed_shown y (inl still) = (goes_later app slack covered from next c all y later (y_goes y still), ap (λ (m : ℕ). m / 1440) (y_mark y still))
  unclosed_shown y (inr (x1, still, inl shutting)) = shutting_goes x1 still y shutting
  unclosed_shown y (inr (x1, still, inr (x2, shut, opening))) = use_goes x1 still x2 y shut (opening_same app registration now long x2 y (room_left x1 still x2 shut) opening)

  book_low : AreDays 0 (card_days app x) → IsOpenBook (book_of app x) → is_open (end_mark app x) (card_days app x) ≡ true → newest_word (card_days app x) ≤ end_mark app x
  unfolding book_of
  book_low are may is = open_low app.activity sound.string_least (book_of app x) are Rest may is

  -- the newest minute of the whole string is not later than that which a session knows then
  pub answered_late : (y : List ℕ) → InsertsClosed app registration now x y → newest_minute (end_mark app x) (card_days app x) ≤ newest_in (book_of app y)
  answered_late y (x1, still, (x2, shut, opened)) =
      let answer = closed_answered app sound x fits registration long now valid none y (x1, still, (x2, shut, opened)) in
      omega (arith, answer, whole (is_open (end_mark app x) (card_days app x)) refl)
    where
      are : AreDays 0 (card_days app x)
      are = g.lives.rests.ordered

      whole : (o : Bool) → is_open (end_mark app x) (card_days app x) ≡ o → newest_minute (end_mark app x) (card_days app x) ≤ max (card_view app x).word (card_view app x).newest
      whole true is =
          let low : newest_word (card_days app x) ≤ end_mark app x = book_low are (x_may app sound x fits registration long now valid none x1 still) is in
          let same : newest_by_mark (end_mark app x) (card_days app x) ≡ newest_minute (end_mark app x) (card_days app x) = ap (newest_minute (end_mark app x)) (flat_of (end_mark app x) 0 (card_days app x) are low) in
          omega (arith, view_newest app x, same)
      whole false is =
          let at : newest_minute (end_mark app x) (card_days app x) ≡ max (end_mark app x) (newest_word (card_days app x)) = ap (λ (o : Bool). cond o (suc (end_mark app x)) (max (end_mark app x) (newest_word (card_days app x)))) is in
          omega (arith, at, view_word app x, view_newest app x, least_of (end_mark app x) (card_days app x))
        where
          least_of : (m : ℕ) (ds : List Day) → m ≤ newest_by_mark m ds
          least_of m ds = by (is_open m (trimmed m ds))
            where
              by : (o : Bool) → m ≤ cond o (suc m) (max m (newest_word (trimmed m ds)))
              by true = omega arith
              by false = omega arith
