-- A session's first keep at each of its moments, by where the end mark stands.
use Rattle.std.proofs.Common.{◌≡◌, ◌⊎◌, inl, inr, ⊎_elim, ℕ, suc, ◌/◌, ◌<◌, ◌≤◌, max, Bool, true, false, cond, Some, List, [], ◌∷◌, ◌++◌, length, refl, sym, ◌∙◌, ap, subst, arith}
use Rattle.std.specs.Prelude.{nat_le}
use Rattle.std.proofs.lemmas.Bool.Decides.{nat_tests}
use Rattle.std.proofs.Math.Nat.{le-max_left}
use Rattle.card_by_hand.specs.activity_codec.declared.entries.Entry.{Entry}
use Rattle.card_by_hand.specs.activity_codec.declared.entries.Manual.{Manual}
use Rattle.tach_media.specs.card_layout.declared.files.Application.{Application}
use Rattle.card_by_hand.specs.card_model.Days.{Day, AreDays}
use Rattle.card_by_hand.specs.card_model.Changes.{trimmed}
use Rattle.card_by_hand.specs.card_retention.Expected.{Counted, with_entry}
use Rattle.card_by_hand.specs.card_retention.Entries.{last_entry, closed_at, newest_word, newest_minute}
use Rattle.card_by_hand.specs.card_retention.Shown.{Bound, AllUpTo, AllBefore, Tells, sizes, is_open}
use Rattle.card_by_hand.proofs.card_retention.ListTrims.{entries_trimmed, lists_trimmed}
use Rattle.card_by_hand.specs.card_image.Fields.{card_days, end_mark}
use Rattle.card_by_hand.specs.card_image.View.{card_view}
use Rattle.card_by_hand.proofs.card_image.Newest.{newest_of_entries}
use Rattle.card_by_hand.proofs.hand_model.OfDay.{spans}
use Rattle.card_by_hand.specs.card_session.Sessions.{Session, book_of}
use Rattle.card_by_hand.specs.card_session.Cards.{grown}
use Rattle.card_by_hand.specs.card_session.Overwriting.{DaysFollowOverwriting, ShowsEntries, BeginsBehind, TellsNoLater, and_entry}
use Rattle.card_by_hand.proofs.card_session.InsertingBooks.{trimmed_low}
use Rattle.card_by_hand.proofs.card_session.Marks.{mark_told}
use Rattle.card_by_hand.proofs.card_session.OnMark.{all_before}
use Rattle.card_by_hand.proofs.card_session.Stopping.{asked_at, book_days, days_there}
use Rattle.card_by_hand.proofs.card_session.Committed.{keep_silent}
use Rattle.card_by_hand.proofs.card_session.NewestStays.{newest_after}
use Rattle.card_by_hand.proofs.card_session.Valid.{flat_of}
use Rattle.card_by_hand.specs.Over.{IsBegunOver}
use Rattle.card_by_hand.specs.First.{IsFirstKeeping, IsKeepingBehind, IsEntering, MayCome, MayFollow, IsFreshFor}
use Rattle.card_by_hand.specs.Wider.{with_hands}
use Rattle.card_by_hand.proofs.FirstLaws.{past_same, past_follows, first_session, first_mark, entering_same, first_shows, first_newest, first_repaired, first_entries, first_entry}
use Rattle.card_by_hand.proofs.Fresh.{alone, follow_or_fresh, first_begins, fresh_entry}
use Rattle.card_string.specs.Carried.{BrokeOf, BegunOf, IsFresh}
use Rattle.card_string.specs.Shows.{IsStopped, IsDone, IsKeepShown, IsFirstReady, IsFirstShown}
use Rattle.card_string.proofs.Begun.{Stops, early_stop, cut_stop, none_gone}
use Rattle.card_string.proofs.Moments.{until_more, later_day, view_newest, keep_shown}

pub first_of_keep : (app : Application) (slack : Bound) (covered : ℕ) (c : Counted) (all : List Entry) (e : Entry) (x y : List ℕ) → IsKeepShown app slack covered c all e x y → IsFirstShown app slack covered c all [] e x y
first_of_keep app slack covered c all e x y k = record { session = k.session; side = k.side; bound = k.bound }

pub keep_of_first : (app : Application) (slack : Bound) (covered : ℕ) (c : Counted) (all : List Entry) (e : Entry) (x y : List ℕ) → IsFirstShown app slack covered c all [] e x y → IsKeepShown app slack covered c all e x y
keep_of_first app slack covered c all e x y k = record { session = k.session; side = k.side; bound = k.bound }

-- its days are days at each moment
entering_ordered : (hs : List Manual) (s : Session) (x c : List ℕ) → IsEntering hs s x c → AreDays 0 (book_of s.application c).days
entering_ordered [] s x c entering = absurd entering
entering_ordered (h ∷ hs) s x c (inl now) = now.card.holds.ordered
entering_ordered (h ∷ hs) s x c (inr behind) =
    subst (λ (a : Application). AreDays 0 (book_of a c).days) behind.2.application (entering_ordered hs behind.0 behind.1 c behind.4)

pub keeping_ordered : (s : Session) (hs : List Manual) (e : Entry) (odometer : ℕ) (x y : List ℕ) → IsFirstKeeping s hs e odometer x y → AreDays 0 (card_days s.application y)
keeping_ordered s hs e odometer x y keeping = subst (λ (ds : List Day). AreDays 0 ds) (book_days s.application y) (by keeping)
  where
    by : IsFirstKeeping s hs e odometer x y → AreDays 0 (book_of s.application y).days
    by (inl entering) = entering_ordered hs s x y entering
    by (inr behind) = subst (λ (a : Application). AreDays 0 (book_of a y).days) (past_same s hs e odometer x y behind).1 behind.keeping.card.holds.ordered

-- ---- the newest minute as a cut leaves it is the end mark, or the minute behind it

cut_newest : (mark : ℕ) (ds : List Day) → AreDays 0 ds → newest_minute mark (trimmed mark ds) ≤ suc mark
cut_newest mark ds are = by (is_open mark (trimmed mark ds))
  where
    by : (o : Bool) → cond o (suc mark) (max mark (newest_word (trimmed mark ds))) ≤ suc mark
    by true = omega arith
    by false = omega (arith, trimmed_low mark ds are)

word_told : (app : Application) (x : List ℕ) → (card_view app x).word ≡ newest_word (card_days app x)
unfolding card_view
word_told app x = refl

-- where a word stands behind the mark, that is the newest anyway
max_word : (w a b mark : ℕ) → mark < w → a ≤ suc mark → b ≤ suc mark → max w a ≡ max w b
max_word w a b mark lt la lb = omega (arith, lt, la, lb)

-- ---- with an entry by hand
module _ (s : Session) (slack : Bound) (covered from : ℕ) (c : Counted) (all : List Entry) (h : Manual) (hs : List Manual) (e : Entry) (odometer : ℕ) (x y : List ℕ) (ready : IsFirstReady s slack covered from c all (h ∷ hs) e x)
    (keeping : IsFirstKeeping s (h ∷ hs) e odometer x y) where
  abbrev app : Application
  app = s.application

  come : MayCome s e.minute x
  come = record { sizes = ready.sizes; knows = ready.session; later = ready.later }

  shut : is_open (end_mark s.application x) (card_days s.application x) ≡ false
  shut = ready.shut (omega arith)

  these : AreDays 0 (card_days s.application y)
  these = keeping_ordered s (h ∷ hs) e odometer x y keeping

  before : AreDays 0 (card_days s.application x)
  before = subst (λ (ds : List Day). AreDays 0 ds) (book_days s.application x) (days_there s x ready.session)

  up : end_mark app y ≡ end_mark app x → AllUpTo (end_mark app y) all
  up at = subst (λ (m : ℕ). AllUpTo m all) (sym at) ready.goes.until

  few : length hs < 8
  few = omega (arith, ready.few)

  first_late : h.minute < e.minute
  first_late = spans h.minute e.minute hs ready.are.lie.1

  sixteen : 16 ≤ slack.bytes
  sixteen = omega (arith, ready.bytes)

  later : from ≤ e.minute
  later = ⊎_elim (λ le. omega (arith, le, first_late)) (λ cut. cut.1) ready.before

  behind_mark : end_mark s.application x < e.minute
  behind_mark = omega (arith, (asked_at s x e.minute ready.later ready.session).1, mark_told s.application x)

  -- ---- the end mark is the old one, and the minute's day, if it is new, is later than that of the mark
  module _ (clear : BeginsBehind s.application e x) where
    may : MayFollow s e.minute x
    may = record { sizes = ready.sizes; knows = ready.session; later = ready.later; clear = clear }

    newest_still : end_mark s.application y ≡ end_mark s.application x → max (card_view s.application x).word (card_view s.application y).newest ≡ max (card_view s.application x).word (card_view s.application x).newest
    newest_still at = by (nat_le (newest_word (card_days s.application x)) (end_mark s.application x)) refl
      where
        le_of : (m n : ℕ) → nat_le m n ≡ true → m ≤ n
        le_of m n is = grind (arith, nat_tests)

        lt_of : (m n : ℕ) → nat_le m n ≡ false → n < m
        lt_of m n is = grind (arith, nat_tests)

        by : (b : Bool) → nat_le (newest_word (card_days s.application x)) (end_mark s.application x) ≡ b
            → max (card_view s.application x).word (card_view s.application y).newest ≡ max (card_view s.application x).word (card_view s.application x).newest
        by true is =
            let flat = flat_of (end_mark s.application x) 0 (card_days s.application x) before (le_of (newest_word (card_days s.application x)) (end_mark s.application x) is) in
            ap (λ (n : ℕ). max (card_view s.application x).word n)
            (first_newest s (h ∷ hs) e odometer x y may ready.are (ap (is_open (end_mark s.application x)) flat ∙ shut) keeping at)
        by false is =
            let mine : (card_view s.application y).newest ≤ suc (end_mark s.application x) = omega (arith, view_newest s.application y, cut_newest (end_mark s.application y) (card_days s.application y) these, at) in
            let its : (card_view s.application x).newest ≤ suc (end_mark s.application x) = omega (arith, view_newest s.application x, cut_newest (end_mark s.application x) (card_days s.application x) before) in
            let late : end_mark s.application x < (card_view s.application x).word = omega (arith, word_told s.application x, lt_of (newest_word (card_days s.application x)) (end_mark s.application x) is) in
            max_word (card_view s.application x).word (card_view s.application y).newest (card_view s.application x).newest (end_mark s.application x) late mine its

    stopped : end_mark s.application y ≡ end_mark s.application x → IsStopped s.application slack covered c all e x y
    stopped at = record {
      mark = at;
      left = inl (record {
        rests = first_repaired s h hs e odometer x y may ready.are few keeping at slack covered from e.minute c ready.bytes later ready.goes.lives;
        until = up at;
        lists = sym (entries_trimmed (end_mark app y) 0 (card_days app y) these)
            ∙ lists_trimmed (end_mark app y) all (card_days app y) these (up at) (first_shows s (h ∷ hs) e odometer x y may ready.are all ready.goes.until ready.goes.lists keeping at);
      });
      newest = newest_still at;
    }

    shown : end_mark s.application y ≡ e.minute → ShowsEntries s.application (all ++ e ∷ []) y
    shown at = first_entry s (h ∷ hs) e odometer x y may ready.are (ready.goes.silent shut) all ready.goes.until ready.goes.lists keeping at

  -- ---- or it is that of the mark, and no day so far is as late
  module _ (fresh : IsFresh s.application c all x) (new : IsFreshFor s e.minute x) where
    low : AllBefore (end_mark s.application x / 1440) (sizes (card_days s.application x))
    low = subst (λ (k : ℕ). AllBefore k (sizes (card_days s.application x))) new.day
        (all_before (e.minute / 1440) e.minute 0 (card_days s.application x) before
        (subst (λ (ds : List Day). newest_word ds < e.minute) (book_days s.application x) (omega (arith, ready.later, ready.session.minute))) refl new.new)

    abbrev Stopping : List Day → Type 0
    Stopping kept = Stops s.application.activity slack covered from c all (end_mark s.application x) (card_days s.application x) ready.goes.lives ready.goes.until ready.goes.lists ready.sizes.string_least sixteen e behind_mark later new.day low fresh.0 fresh.1 kept

    stops_there : end_mark s.application y ≡ end_mark s.application x → Stopping (card_days s.application y)
    stops_there at = ⊎_elim
        (λ gone. early_stop s.application.activity slack covered from c all (end_mark s.application x) (card_days s.application x) ready.goes.lives ready.goes.until ready.goes.lists ready.sizes.string_least sixteen e behind_mark later new.day low fresh.0 fresh.1
        32 (card_days s.application y) (omega arith, ready.bytes) gone)
        (λ o. with_day o)
        (first_begins s h hs e odometer x y new ready.are few keeping at)
      where
        with_day : IsBegunOver s.application.activity (end_mark s.application x) 32 (card_days s.application x) (card_days s.application y) → Stopping (card_days s.application y)
        with_day o = subst Stopping (sym o.is)
            (cut_stop s.application.activity slack covered from c all (end_mark s.application x) (card_days s.application x) ready.goes.lives ready.goes.until ready.goes.lists ready.sizes.string_least sixteen e behind_mark later new.day low fresh.0 fresh.1
            32 o.base (omega arith, ready.bytes) o.left o.young (subst (λ (ds : List Day). AreDays 0 ds) o.is these) o.date o.first)

    fresh_stopped : end_mark s.application y ≡ end_mark s.application x → IsStopped s.application slack covered c all e x y
    fresh_stopped at =
        let k = stops_there at in
        let none = none_gone s.application.activity slack covered from c all (end_mark s.application x) (card_days s.application x) ready.goes.lives ready.goes.until ready.goes.lists ready.sizes.string_least sixteen e behind_mark later new.day low fresh.0 fresh.1 in
        let now : newest_minute (end_mark s.application y) (trimmed (end_mark s.application y) (card_days s.application y)) ≡ end_mark s.application x =
        subst (λ (m : ℕ). newest_minute m (trimmed m (card_days s.application y)) ≡ end_mark s.application x) (sym at) k.newest in
        record {
          mark = at;
          left = ⊎_elim (λ broke. inl broke) (λ begun. inr (begun, omega (arith, new.day, at)))
              (subst (λ (m : ℕ). BrokeOf s.application.activity slack covered e.minute m c all (card_days s.application y) ⊎ BegunOf s.application.activity slack covered e.minute m c all (card_days s.application y)) (sym at) k.left);
          newest = ap (λ (n : ℕ). max (card_view s.application x).word n) (view_newest s.application y ∙ now ∙ sym none.newest ∙ sym (view_newest s.application x));
        }

    fresh_shown : end_mark s.application y ≡ e.minute → ShowsEntries s.application (all ++ e ∷ []) y
    fresh_shown at = fresh_entry s h hs e odometer x y new ready.are (ready.goes.silent shut) all fresh.1 ready.goes.until ready.goes.lists keeping at

  -- ---- the end mark has moved: the minute's entry is there behind all of them
  module _ (at : end_mark s.application y ≡ e.minute) (behind : IsKeepingBehind s (h ∷ hs) e odometer x y) where
    abbrev t : Session
    t = behind.between

    abbrev z : List ℕ
    z = behind.card

    same : behind.between.application ≡ s.application
    same = (past_same s (h ∷ hs) e odometer x y behind).1

    follows : MayFollow behind.between e.minute behind.card
    follows = past_follows s h hs e odometer x y ready.sizes ready.are behind

    at_there : end_mark behind.between.application y ≡ e.minute
    at_there = subst (λ (a : Application). end_mark a y ≡ e.minute) (sym same) at

    silent : TellsNoLater s.application y
    silent = subst (λ (a : Application). TellsNoLater a y) same
        (keep_silent t.application follows.sizes z (days_there t z follows.knows) t.registration odometer (grown t.odometer odometer) e y (asked_at t z e.minute follows.later follows.knows) behind.keeping.card at_there)

    newest : (card_view s.application y).newest ≡ closed_at (Some e)
    newest = subst (λ (a : Application). (card_view a y).newest ≡ closed_at (Some e)) same
        (newest_after t.application follows.sizes z (days_there t z follows.knows) t.registration odometer (grown t.odometer odometer) e (asked_at t z e.minute follows.later follows.knows) y behind.keeping.card at_there)

  lives : end_mark s.application y ≡ e.minute → DaysFollowOverwriting s.application (and_entry slack e) covered (suc e.minute) (with_entry covered (with_hands covered c (h ∷ hs)) e) y
  lives at = first_entries s h hs e odometer x y come ready.are shut slack covered from c (omega (arith, ready.bytes)) ready.before ready.goes.lives keeping at

  done_behind : (at : end_mark s.application y ≡ e.minute) → ShowsEntries s.application (all ++ e ∷ []) y → IsKeepingBehind s (h ∷ hs) e odometer x y → IsDone app slack covered (with_hands covered c (h ∷ hs)) all e x y
  done_behind at lists behind = record {
    mark = at;
    goes = record {
      lives = lives at;
      until = subst (λ (m : ℕ). AllUpTo m (all ++ e ∷ [])) (sym at) (until_more (end_mark app x) e (omega (arith, behind_mark)) all ready.goes.until);
      lists = lists;
      silent = silent at behind;
    };
    newest = newest at behind;
    clear = λ f lt other. let less : e.minute / 1440 < f.minute / 1440 = later_day e f (card_days app y) tells lt other in omega (arith, less, at);
  }
    where
      tells : Tells e (card_days s.application y)
      tells = (lives at).rests.tells e refl (omega (arith, ((lives at).rests.entry e refl).0, (lives at).rests.next))

  done : end_mark s.application y ≡ e.minute → ShowsEntries s.application (all ++ e ∷ []) y → IsDone app slack covered (with_hands covered c (h ∷ hs)) all e x y
  done at lists = by keeping
    where
      by : IsFirstKeeping s (h ∷ hs) e odometer x y → IsDone app slack covered (with_hands covered c (h ∷ hs)) all e x y
      by (inl entering) = absurd (omega (arith, at, (entering_same (h ∷ hs) s x y entering).mark, behind_mark))
      by (inr behind) = done_behind at lists behind

  -- ---- one or the other
  shown_by : (end_mark s.application y ≡ end_mark s.application x → IsStopped s.application slack covered c all e x y) → (end_mark s.application y ≡ e.minute → ShowsEntries s.application (all ++ e ∷ []) y)
      → IsFirstShown s.application slack covered c all (h ∷ hs) e x y
  shown_by stop lists = record {
    session = first_session s (h ∷ hs) e odometer x y keeping;
    side = ⊎_elim (λ old. inl (stop old)) (λ new. inr (done new (lists new))) (first_mark s (h ∷ hs) e odometer x y keeping);
    bound = omega (arith, newest_of_entries s.application y these, le-max_left (card_view s.application y).mark (closed_at (last_entry (card_view s.application y).held.entries)));
  }

  pub hands_shown : IsFirstShown s.application slack covered c all (h ∷ hs) e x y
  hands_shown = ⊎_elim
      (λ follow. shown_by (λ at. stopped follow.clear at) (λ at. shown follow.clear at))
      (λ new. by_fresh new ready.clear)
      (follow_or_fresh s e.minute x come)
    where
      by_fresh : IsFreshFor s e.minute x → BeginsBehind s.application e x ⊎ IsFresh s.application c all x → IsFirstShown s.application slack covered c all (h ∷ hs) e x y
      by_fresh new (inl clear) = shown_by (λ at. stopped clear at) (λ at. shown clear at)
      by_fresh new (inr fresh) = shown_by (λ at. fresh_stopped fresh new at) (λ at. fresh_shown fresh new at)

-- A FIRST KEEP, with entries by hand or none
pub first_shown : (s : Session) (slack : Bound) (covered from : ℕ) (c : Counted) (all : List Entry) (hands : List Manual) (e : Entry) (odometer : ℕ) (x y : List ℕ) → IsFirstReady s slack covered from c all hands e x → IsFirstKeeping s hands e odometer x y
    → IsFirstShown s.application slack covered c all hands e x y
first_shown s slack covered from c all [] e odometer x y ready keeping =
    first_of_keep s.application slack covered c all e x y
    (keep_shown s e odometer x y slack covered from c all ready.sizes (⊎_elim (λ le. le) (λ cut. cut.1) ready.before) ready.later (omega (arith, ready.bytes)) ready.session ready.goes (alone s e odometer x y keeping) ready.clear)
first_shown s slack covered from c all (h ∷ hs) e odometer x y ready keeping = hands_shown s slack covered from c all h hs e odometer x y ready keeping
