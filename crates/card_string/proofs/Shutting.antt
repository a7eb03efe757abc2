-- The closing word that a withdrawal or an insertion writes, by the rule of overwriting: at each moment, and once the end mark is at it.
use Rattle.std.proofs.Common.{◌≡◌, ⊎_elim, ℕ, suc, ◌*◌, ◌/◌, ◌<◌, ◌≤◌, max, Bool, true, false, cond, List, [], ◌∷◌, refl, sym, ◌∙◌, ap, subst, arith}
use Rattle.card_by_hand.specs.activity_codec.declared.entries.Entry.{Entry}
use Rattle.card_by_hand.specs.activity_codec.declared.values.Activity.{Activity}
use Rattle.tach_media.specs.card_layout.Application.{IsApplication}
use Rattle.tach_media.specs.card_layout.declared.files.Application.{Application}
use Rattle.card_by_hand.specs.card_model.Days.{Day, AreDays}
use Rattle.card_by_hand.specs.card_model.Changes.{OnNewest, date_of}
use Rattle.card_by_hand.specs.card_retention.Expected.{Counted}
use Rattle.card_by_hand.specs.card_retention.Entries.{newest_minute, newest_word}
use Rattle.card_by_hand.specs.card_retention.Shown.{Bound, AllUpTo, is_open}
use Rattle.card_by_hand.proofs.card_retention.ListTrims.{entries_trimmed, lists_trimmed}
use Rattle.card_by_hand.proofs.card_retention.Stops.{stop_none}
use Rattle.card_by_hand.specs.card_image.Fields.{card_days, end_mark}
use Rattle.card_by_hand.specs.card_session.Books.{Book, mark_of, closed, closed_days, closing_word, latest_of, last_used, with_change}
use Rattle.card_by_hand.specs.card_session.Moments.{IsBook, IsCloseMoment}
use Rattle.card_by_hand.specs.card_session.Sessions.{IsOpenBook, book_of}
use Rattle.card_by_hand.specs.card_session.Cards.{IsCard}
use Rattle.card_by_hand.specs.card_session.Overwriting.{ShowsEntries, TellsNoLater, IsSilentBehind}
use Rattle.card_by_hand.proofs.card_session.Marks.{mark_told}
use Rattle.card_by_hand.proofs.card_session.Stopping.{book_days, mark_at, mark_moves, closed_leaves, close_leaves}
use Rattle.card_by_hand.proofs.card_session.Committed.{silent_end, close_shows}
use Rattle.card_by_hand.proofs.card_session.Valid.{closing_newest}
use Rattle.card_by_hand.proofs.card_session.NewestStays.{open_low, closed_open}
use Rattle.card_by_hand.proofs.card_session.Preparing.{open_date}
use Rattle.card_string.specs.Carried.{StringFollowsEntries, Broke}
use Rattle.card_string.specs.Closes.{IsClosedShown}

-- the minute after the end mark, on the newest day, lies on the mark's day
pub day_same : (m : ℕ) (ds : List Day) → OnNewest (λ d. d.date ≡ date_of (suc m)) ds → newest_word ds ≤ m → suc m / 1440 ≡ m / 1440
day_same m [] on low = absurd on
day_same m (d ∷ []) on low = omega (arith, on, low)
day_same m (d ∷ e ∷ ds) on low = day_same m (e ∷ ds) on low

pub up_more : (mark m : ℕ) (all : List Entry) → mark ≤ m → AllUpTo mark all → AllUpTo m all
up_more mark m [] le up = tt
up_more mark m (e ∷ all) le up = (omega (arith, le, up.0), up_more mark m all le up.1)

module _ (app : Application) (sound : IsApplication app) (x : List ℕ) (ordered : AreDays 0 (book_of app x).days) (may : IsOpenBook (book_of app x)) (act : Activity) (slack : Bound) (covered from next : ℕ) (c : Counted) (all : List Entry) (least : 16 ≤ slack.bytes) (later : from ≤ next)
    (late : newest_minute (end_mark app x) (card_days app x) < next) (g : StringFollowsEntries app slack covered from c all x) where
  -- with the old end mark
  module _ (y : List ℕ) (card : IsCard app (IsCloseMoment app.activity act (book_of app x)) x y) where
    these : AreDays 0 (card_days app y)
    these = subst (λ (ds : List Day). AreDays 0 ds) (book_days app y) card.holds.ordered

    shown : ShowsEntries app all y
    shown = close_shows app sound x ordered all g.until g.lists act y card

    pub close_broke : end_mark app y ≡ end_mark app x → Broke app slack covered next c all y
    close_broke at = record {
      rests = ⊎_elim (λ old. old.1)
          (λ goes. stop_none app.activity slack covered next (end_mark app y) c (card_days app y) goes next (omega arith) sound.string_least least)
          (close_leaves app sound x slack covered from c least g.lives act next y later late card);
      until = up;
      lists = sym (entries_trimmed (end_mark app y) 0 (card_days app y) these) ∙ lists_trimmed (end_mark app y) all (card_days app y) these up shown;
    }
      where
        up : AllUpTo (end_mark app y) all
        up = subst (λ (m : ℕ). AllUpTo m all) (sym at) g.until

  -- with the closing word, and the end mark at it
  module _ (y : List ℕ) (are : AreDays 0 (book_of app y).days) (book : IsBook (closed app.activity act (book_of app x)) (book_of app y).days (book_of app y).vehicles) where
    at_closed : end_mark app y ≡ mark_of (closed app.activity act (book_of app x))
    at_closed = mark_at app (closed app.activity act (book_of app x)) y book.1

    abbrev ends : Book
    ends = record { days = closed_days app.activity (mark_of (book_of app x)) act (book_of app x).days; vehicles = last_used (60 * suc (mark_of (book_of app x))) (book_of app x).vehicles }

    abbrev w : ℕ
    w = closing_word (suc (mark_of (book_of app x))) act (latest_of (book_of app x).days)

    at_open : is_open (mark_of (book_of app x)) (book_of app x).days ≡ true → end_mark app y ≡ suc (mark_of (book_of app x))
    at_open is = at_closed ∙ ap (λ (o : Bool). mark_of (cond o ends (book_of app x))) is ∙ mark_moves (book_of app x) ordered is

    at_shut : is_open (mark_of (book_of app x)) (book_of app x).days ≡ false → end_mark app y ≡ end_mark app x
    at_shut is = at_closed ∙ ap (λ (o : Bool). mark_of (cond o ends (book_of app x))) is ∙ sym (mark_told app x)

    days_open : is_open (mark_of (book_of app x)) (book_of app x).days ≡ true → card_days app y ≡ with_change app.activity w (book_of app x).days
    days_open is =
        sym (book_days app y) ∙ book.0 ∙ ap (λ (o : Bool). (cond o ends (book_of app x)).days) is
        ∙ ap (λ (o : Bool). cond o (with_change app.activity w (book_of app x).days) (book_of app x).days) is

    days_shut : is_open (mark_of (book_of app x)) (book_of app x).days ≡ false → card_days app y ≡ card_days app x
    days_shut is = sym (book_days app y) ∙ book.0 ∙ ap (λ (o : Bool). (cond o ends (book_of app x)).days) is ∙ book_days app x

    low : (o : Bool) → is_open (mark_of (book_of app x)) (book_of app x).days ≡ o → end_mark app x ≤ end_mark app y
    low true is = omega (arith, at_open is, mark_told app x)
    low false is = omega (arith, at_shut is)

    silent : (o : Bool) → is_open (mark_of (book_of app x)) (book_of app x).days ≡ o → TellsNoLater app y
    silent true is = silent_end (end_mark app y) (card_days app y) (subst (λ (ds : List Day). AreDays 0 ds) (book_days app y) are)
        (omega (arith, at_open is, ap newest_word (days_open is), closing_newest app.activity sound.string_least (book_of app x) ordered act may is))
    silent false is =
        subst (λ (m : ℕ). is_open m (card_days app y) ≡ false → IsSilentBehind m (card_days app y)) (sym (at_shut is))
        (subst (λ (ds : List Day). is_open (end_mark app x) ds ≡ false → IsSilentBehind (end_mark app x) ds) (sym (days_shut is)) g.silent)

    pub close_goes : ShowsEntries app all y → StringFollowsEntries app slack covered next c all y
    close_goes shown = record {
      lives = closed_leaves app sound x slack covered from c least g.lives act next y later late are book;
      until = up_more (end_mark app x) (end_mark app y) all (low (is_open (mark_of (book_of app x)) (book_of app x).days) refl) g.until;
      lists = shown;
      silent = silent (is_open (mark_of (book_of app x)) (book_of app x).days) refl;
    }

    close_day : (o : Bool) → is_open (mark_of (book_of app x)) (book_of app x).days ≡ o → end_mark app y / 1440 ≡ end_mark app x / 1440
    close_day true is =
        let same : suc (mark_of (book_of app x)) / 1440 ≡ mark_of (book_of app x) / 1440 =
        day_same (mark_of (book_of app x)) (book_of app x).days (open_date (mark_of (book_of app x)) (book_of app x).days is) (open_low app.activity sound.string_least (book_of app x) ordered act may is) in
        omega (arith, at_open is, same, mark_told app x)
    close_day false is = ap (λ (n : ℕ). n / 1440) (at_shut is)

    close_shut : is_open (end_mark app y) (card_days app y) ≡ false
    close_shut =
        ap (λ (n : ℕ). is_open n (card_days app y)) at_closed
        ∙ ap (is_open (mark_of (closed app.activity act (book_of app x)))) (sym (book_days app y) ∙ book.0)
        ∙ closed_open app.activity sound.string_least (book_of app x) ordered act may

    pub close_done : ShowsEntries app all y → IsClosedShown app slack covered next c all x y
    close_done shown = record { goes = close_goes shown; day = close_day (is_open (mark_of (book_of app x)) (book_of app x).days) refl; shut = close_shut }

    -- the end mark is the newest minute, where no word stood behind it
    pub close_mark : newest_word (book_of app x).days ≤ mark_of (book_of app x) → end_mark app y ≡ newest_minute (mark_of (book_of app x)) (book_of app x).days
    close_mark below = by (is_open (mark_of (book_of app x)) (book_of app x).days) refl
      where
        whole : (o : Bool) → is_open (mark_of (book_of app x)) (book_of app x).days ≡ o
            → newest_minute (mark_of (book_of app x)) (book_of app x).days ≡ cond o (suc (mark_of (book_of app x))) (max (mark_of (book_of app x)) (newest_word (book_of app x).days))
        whole o is = ap (λ (p : Bool). cond p (suc (mark_of (book_of app x))) (max (mark_of (book_of app x)) (newest_word (book_of app x).days))) is

        by : (o : Bool) → is_open (mark_of (book_of app x)) (book_of app x).days ≡ o → end_mark app y ≡ newest_minute (mark_of (book_of app x)) (book_of app x).days
        by true is = at_open is ∙ sym (whole true is)
        by false is =
            let most : max (mark_of (book_of app x)) (newest_word (book_of app x).days) ≡ mark_of (book_of app x) = omega (arith, below) in
            at_shut is ∙ mark_told app x ∙ sym (whole false is ∙ most)
