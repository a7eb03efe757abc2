-- A keep at each of its moments, by where the end mark stands.
use Rattle.std.proofs.Common.{◌≡◌, ◌⊎◌, inl, inr, ⊎_elim, ℕ, suc, ◌/◌, ◌<◌, ◌≤◌, max, Bool, true, false, List, [], ◌∷◌, ◌++◌, refl, sym, ◌∙◌, ap, subst, arith}
use Rattle.std.specs.Prelude.{nat_eq}
use Rattle.std.proofs.lemmas.Bool.{cases_lt}
use Rattle.std.proofs.lemmas.Bool.Decides.{nat_tests}
use Rattle.std.proofs.Math.Nat.{le-max_left}
use Rattle.card_by_hand.specs.activity_codec.declared.entries.Entry.{Entry}
use Rattle.tach_media.specs.card_layout.Application.{IsApplication}
use Rattle.tach_media.specs.card_layout.declared.files.Application.{Application}
use Rattle.card_by_hand.specs.card_model.Days.{Day, AreDays}
use Rattle.card_by_hand.specs.card_model.Changes.{trimmed}
use Rattle.card_by_hand.specs.card_retention.Expected.{Counted, is_newest, with_entry}
use Rattle.card_by_hand.specs.card_retention.Entries.{last_entry, closed_at, newest_minute}
use Rattle.card_by_hand.specs.card_retention.Shown.{Bound, AllBefore, AllUpTo, Tells, Lives, sizes}
use Rattle.card_by_hand.specs.card_retention.Retains.{entries_in, begun_on}
use Rattle.card_by_hand.proofs.card_retention.Listing.{Lists}
use Rattle.card_by_hand.proofs.card_retention.ListTrims.{entries_trimmed, lists_trimmed}
use Rattle.card_by_hand.specs.card_image.Fields.{card_days, end_mark}
use Rattle.card_by_hand.specs.card_image.View.{card_view}
use Rattle.card_by_hand.proofs.card_image.Newest.{newest_of_entries}
use Rattle.card_by_hand.specs.card_session.Vehicles.{Vehicles, last_use_in}
use Rattle.card_by_hand.specs.card_session.Books.{Book, mark_of, gap_closed, entered_days, travelled, with_entry as book_with}
use Rattle.card_by_hand.specs.card_session.Moments.{IsBeforeMark}
use Rattle.card_by_hand.specs.card_session.Parts.{IsBeforeGapOf}
use Rattle.card_by_hand.specs.card_session.Sessions.{Session, IsSession, book_of}
use Rattle.card_by_hand.specs.card_session.Cards.{IsCardKeeping, grown}
use Rattle.card_by_hand.specs.card_session.Overwriting.{DaysFollowOverwriting, IsRepairable, ShowsEntries, BeginsBehind, and_entry}
use Rattle.card_by_hand.proofs.card_session.Marks.{session_same, mark_told}
use Rattle.card_by_hand.proofs.card_session.Preparing.{used_at}
use Rattle.card_by_hand.proofs.card_session.Stopping.{asked_at, days_there, book_days, mark_at, before_use, keep_leaves, keep_shows}
use Rattle.card_by_hand.proofs.card_session.Committed.{keep_commits, keep_silent}
use Rattle.card_by_hand.proofs.card_session.NewestStays.{newest_before, newest_after}
use Rattle.card_string.proofs.Begun.{Stopping as Begins, was_newest, stops, begun_lives, begun_shows}
use Rattle.card_string.specs.Carried.{StringFollowsEntries, BrokeOf, BegunOf, IsFresh}
use Rattle.card_string.specs.Shows.{IsStopped, IsDone, IsKeepShown}

-- no entry is behind the new mark
pub until_more : (mark : ℕ) (e : Entry) → mark ≤ e.minute → (all : List Entry) → AllUpTo mark all → AllUpTo e.minute (all ++ e ∷ [])
until_more mark e le [] up = (omega arith, tt)
until_more mark e le (x ∷ all) up = (omega (arith, le, up.0), until_more mark e le all up.1)

-- where the newest day is an entry's, that of a later one is the same, or new
same_day : (e f : Entry) (days : List Day) → Tells e days → f.minute / 1440 ≡ e.minute / 1440 → is_newest (f.minute / 1440) (sizes days) ≡ true
same_day e f [] tells at = absurd tells
same_day e f (d ∷ []) tells at = same (d.date / 86400) (f.minute / 1440) (omega (arith, tells.date, at))
  where
    same : (m n : ℕ) → m ≡ n → nat_eq m n ≡ true
    same m n is = grind (arith, nat_tests)
same_day e f (d ∷ g ∷ days) tells at = same_day e f (g ∷ days) tells at

pub later_day : (e f : Entry) (days : List Day) → Tells e days → e.minute < f.minute → is_newest (f.minute / 1440) (sizes days) ≡ false → e.minute / 1440 < f.minute / 1440
later_day e f days tells lt other = ⊎_elim
    (λ less. less)
    (λ le. absurd (apart (sym (same_day e f days tells (omega (arith, le, lt))) ∙ other)))
    (cases_lt (e.minute / 1440) (f.minute / 1440))
  where
    apart : true ≡ false → ⊥
    apart is = cc

pub view_newest : (app : Application) (x : List ℕ) → (card_view app x).newest ≡ newest_minute (end_mark app x) (trimmed (end_mark app x) (card_days app x))
unfolding card_view
view_newest app x = refl

module _ (s : Session) (e : Entry) (odometer : ℕ) (x y : List ℕ) (slack : Bound) (covered from : ℕ) (c : Counted) (all : List Entry) (sound : IsApplication s.application) (later : from ≤ e.minute) (late : s.minute < e.minute) (least : 16 ≤ slack.bytes) (knows : IsSession s x)
    (g : StringFollowsEntries s.application slack covered from c all x) (keeping : IsCardKeeping s e odometer x y) where
  abbrev app : Application
  app = s.application

  before : IsBeforeGapOf e.minute (book_of s.application x)
  before = asked_at s x e.minute late knows

  these : AreDays 0 (card_days s.application y)
  these = subst (λ (ds : List Day). AreDays 0 ds) (book_days s.application y) keeping.card.holds.ordered

  up : end_mark app y ≡ end_mark app x → AllUpTo (end_mark app y) all
  up at = subst (λ (m : ℕ). AllUpTo m all) (sym at) g.until

  -- ---- where the entry's day, if it is new, is later than that of the end mark
  module _ (clear : BeginsBehind s.application e x) where
    stopped : end_mark app y ≡ end_mark app x → IsRepairable app slack covered e.minute c y → IsStopped app slack covered c all e x y
    stopped at rests = record {
      mark = at;
      left = inl (record {
        rests = rests;
        until = up at;
        lists = sym (entries_trimmed (end_mark app y) 0 (card_days app y) these)
            ∙ lists_trimmed (end_mark app y) all (card_days app y) these (up at)
            (keep_shows app sound x (days_there s x knows) all g.until g.lists s.registration odometer (grown s.odometer odometer) e y before clear keeping.card at);
      });
      newest = newest_before app sound x (days_there s x knows) s.registration odometer (grown s.odometer odometer) e before y keeping.card at;
    }

  -- the end mark has moved, the days go on, and the entry is shown
  done : end_mark app y ≡ e.minute → DaysFollowOverwriting app (and_entry slack e) covered (suc e.minute) (with_entry covered c e) y → ShowsEntries app (all ++ e ∷ []) y → IsDone app slack covered c all e x y
  done at lives lists = record {
    mark = at;
    goes = record {
      lives = lives;
      until = subst (λ (m : ℕ). AllUpTo m (all ++ e ∷ [])) (sym at) (until_more (end_mark app x) e (omega (arith, g.lives.rests.later, later)) all g.until);
      lists = lists;
      silent = keep_silent app sound x (days_there s x knows) s.registration odometer (grown s.odometer odometer) e y before keeping.card at;
    };
    newest = newest_after app sound x (days_there s x knows) s.registration odometer (grown s.odometer odometer) e before y keeping.card at;
    clear = λ f lt other. let less : e.minute / 1440 < f.minute / 1440 = later_day e f (card_days app y) tells lt other in omega (arith, less, at);
  }
    where
      tells : Tells e (card_days s.application y)
      tells = lives.rests.tells e refl (omega (arith, (lives.rests.entry e refl).0, lives.rests.next))

  clear_side : BeginsBehind app e x → IsStopped app slack covered c all e x y ⊎ IsDone app slack covered c all e x y
  clear_side clear = ⊎_elim (λ old. inl (stopped clear old.0 old.1))
      (λ new. inr (done new.0 new.1 (keep_commits app sound x (days_there s x knows) all g.until g.lists s.registration odometer (grown s.odometer odometer) e y before clear g.silent keeping.card new.0)))
      (keep_leaves app sound x slack covered from c least g.lives s.registration odometer (grown s.odometer odometer) e y before later clear keeping.card)

  -- ---- where it is that of the end mark, which is later than each day so far
  module _ (here : end_mark s.application x / 1440 ≡ e.minute / 1440) (other : is_newest (e.minute / 1440) (sizes (card_days s.application x)) ≡ false) (fresh : IsFresh s.application c all x) where
    abbrev b : Book
    b = book_of s.application x

    told : end_mark app x ≡ mark_of (book_of s.application x)
    told = mark_told app x

    days_of : card_days app x ≡ (book_of s.application x).days
    days_of = sym (book_days app x)

    lives_there : Lives app.activity slack covered from (mark_of (book_of s.application x)) c (book_of s.application x).days
    lives_there = subst (λ (ds : List Day). Lives app.activity slack covered from (mark_of (book_of s.application x)) c ds) days_of (subst (λ (n : ℕ). Lives app.activity slack covered from n c (card_days app x)) told g.lives)

    until_there : AllUpTo (mark_of (book_of s.application x)) all
    until_there = subst (λ (n : ℕ). AllUpTo n all) told g.until

    lists_there : Lists (mark_of (book_of s.application x)) all (book_of s.application x).days
    lists_there = subst (λ (ds : List Day). Lists (mark_of (book_of s.application x)) all ds) days_of (subst (λ (n : ℕ). Lists n all (card_days app x)) told g.lists)

    here_there : e.minute / 1440 ≡ mark_of (book_of s.application x) / 1440
    here_there = sym here ∙ ap (λ (n : ℕ). n / 1440) told

    other_there : is_newest (e.minute / 1440) (sizes (book_of s.application x).days) ≡ false
    other_there = ap (λ (ds : List Day). is_newest (e.minute / 1440) (sizes ds)) (sym days_of) ∙ other

    fresh_there : AllBefore (mark_of (book_of s.application x) / 1440) c.days
    fresh_there = subst (λ (n : ℕ). AllBefore (n / 1440) c.days) told fresh.0

    empty_there : entries_in (begun_on (mark_of (book_of s.application x) / 1440) ∷ []) all ≡ []
    empty_there = subst (λ (n : ℕ). entries_in (begun_on (n / 1440) ∷ []) all ≡ []) told fresh.1

    abbrev Stopping : List Day → Type 0
    Stopping kept = Begins app.activity slack covered from c all b lives_there until_there lists_there sound.string_least least e before later here_there other_there fresh_there empty_there kept

    begun_stopped : end_mark app y ≡ end_mark app x → Stopping (book_of s.application y).days → IsStopped app slack covered c all e x y
    begun_stopped at k =
        let mark : mark_of (book_of s.application x) ≡ end_mark app y = sym told ∙ sym at in
        let newest : newest_minute (end_mark app y) (trimmed (end_mark app y) (card_days app y)) ≡ end_mark app y =
        subst (λ (n : ℕ). newest_minute n (trimmed n (card_days app y)) ≡ n) mark
        (subst (λ (ds : List Day). newest_minute (mark_of (book_of s.application x)) (trimmed (mark_of (book_of s.application x)) ds) ≡ mark_of (book_of s.application x)) (book_days app y) k.newest) in
        record {
          mark = at;
          left = ⊎_elim (λ broke. inl broke) (λ begun. inr (begun, omega (arith, here, at)))
              (subst (λ (n : ℕ). BrokeOf app.activity slack covered e.minute n c all (card_days app y) ⊎ BegunOf app.activity slack covered e.minute n c all (card_days app y)) mark
              (subst (λ (ds : List Day). BrokeOf app.activity slack covered e.minute (mark_of (book_of s.application x)) c all ds ⊎ BegunOf app.activity slack covered e.minute (mark_of (book_of s.application x)) c all ds) (book_days app y) k.left));
          newest = ap (λ (n : ℕ). max (card_view app x).word n) (view_newest app y ∙ newest ∙ at ∙ sym was ∙ sym (view_newest app x));
        }
      where
        was : newest_minute (end_mark app x) (trimmed (end_mark app x) (card_days app x)) ≡ end_mark app x
        was = subst (λ (n : ℕ). newest_minute n (trimmed n (card_days app x)) ≡ n) (sym told)
            (subst (λ (ds : List Day). newest_minute (mark_of (book_of s.application x)) (trimmed (mark_of (book_of s.application x)) ds) ≡ mark_of (book_of s.application x)) (book_days app x)
            (was_newest app.activity slack covered from c all b lives_there until_there lists_there sound.string_least least e before later here_there other_there fresh_there empty_there))

    stops_at : (kept : List Day) → IsBeforeMark app.activity b (book_with app.activity s.registration odometer (grown s.odometer odometer) b e) e kept → Stopping kept
    stops_at kept moment = stops app.activity slack covered from c all b lives_there until_there lists_there sound.string_least least e before later here_there other_there fresh_there empty_there s.registration odometer (grown s.odometer odometer) kept moment

    begun_done : end_mark app y ≡ e.minute → (book_of s.application y).days ≡ travelled (grown s.odometer odometer) (entered_days app.activity e (gap_closed app.activity (mark_of (book_of s.application x)) e.minute (book_of s.application x).days)) → IsDone app slack covered c all e x y
    begun_done at is = done at
        (subst (λ (ds : List Day). Lives app.activity (and_entry slack e) covered (suc e.minute) (end_mark app y) (with_entry covered c e) ds) (sym is ∙ book_days app y)
        (subst (λ (n : ℕ). Lives app.activity (and_entry slack e) covered (suc e.minute) n (with_entry covered c e) after) (sym at)
        (begun_lives app.activity slack covered from c all b lives_there until_there lists_there sound.string_least least e before later here_there other_there fresh_there empty_there (grown s.odometer odometer) (subst (λ (ds : List Day). AreDays 0 ds) is keeping.card.holds.ordered))))
        (subst (λ (ds : List Day). Lists (end_mark app y) (all ++ e ∷ []) ds) (sym is ∙ book_days app y)
        (subst (λ (n : ℕ). Lists n (all ++ e ∷ []) after) (sym at)
        (begun_shows app.activity slack covered from c all b lives_there until_there lists_there sound.string_least least e before later here_there other_there fresh_there empty_there (grown s.odometer odometer))))
      where
        after : List Day
        after = travelled (grown s.odometer odometer) (entered_days s.application.activity e (gap_closed s.application.activity (mark_of (book_of s.application x)) e.minute (book_of s.application x).days))

    begun_side : IsStopped app slack covered c all e x y ⊎ IsDone app slack covered c all e x y
    begun_side = ⊎_elim
        (λ old. inl (begun_stopped (mark_at app b y old.0 ∙ sym told) (stops_at (book_of s.application y).days old.1)))
        (λ new. ⊎_elim
        (λ unused. inl (begun_stopped (mark_told app y ∙ before_use s.registration odometer e.minute b.vehicles (book_of s.application y).vehicles unused ∙ sym told) (stops_at (book_of s.application y).days (inr (inr (inr new.0))))))
        (λ after. inr (begun_done (mark_told app y ∙ ap (λ (o : Vehicles). last_use_in o / 60) after ∙ used_at s.registration odometer e.minute b.vehicles) new.0))
        new.1) keeping.card.told

  -- ---- either
  side : BeginsBehind app e x ⊎ IsFresh app c all x → IsStopped app slack covered c all e x y ⊎ IsDone app slack covered c all e x y
  side (inl clear) = clear_side clear
  side (inr fresh) = by (is_newest (e.minute / 1440) (sizes (card_days app x))) refl
    where
      by : (n : Bool) → is_newest (e.minute / 1440) (sizes (card_days s.application x)) ≡ n → IsStopped app slack covered c all e x y ⊎ IsDone app slack covered c all e x y
      by true is = clear_side (λ other. absurd (apart (sym is ∙ other)))
        where
          apart : true ≡ false → ⊥
          apart never = cc
      by false is = ⊎_elim
          (λ lt. clear_side (λ other. lt))
          (λ le. begun_side (omega (arith, le, at_most)) is fresh)
          (cases_lt (end_mark s.application x / 1440) (e.minute / 1440))
        where
          at_most : end_mark s.application x ≤ e.minute
          at_most = omega (arith, g.lives.rests.later, later)

  pub keep_shown : BeginsBehind app e x ⊎ IsFresh app c all x → IsKeepShown app slack covered c all e x y
  keep_shown clear = record {
    session = session_same app _ x y keeping.card;
    side = side clear;
    bound = omega (arith, newest_of_entries app y these, le-max_left (card_view app y).mark (closed_at (last_entry (card_view app y).held.entries)));
  }
