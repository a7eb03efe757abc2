-- The first keep on a card whose day of the end mark was begun, at each of its moments.
use Rattle.std.proofs.Common.{◌≡◌, ◌⊎◌, inl, inr, ⊎_elim, ℕ, suc, ◌/◌, ◌<◌, ◌≤◌, max, List, [], ◌∷◌, ◌++◌, refl, sym, ◌∙◌, ap, subst, arith}
use Rattle.std.proofs.Math.Nat.{le-max_left}
use Rattle.card_by_hand.specs.activity_codec.declared.entries.Entry.{Entry}
use Rattle.tach_media.specs.card_layout.Application.{IsApplication}
use Rattle.tach_media.specs.card_layout.declared.files.Application.{Application}
use Rattle.card_by_hand.specs.card_model.Days.{Day, AreDays}
use Rattle.card_by_hand.specs.card_model.Changes.{trimmed}
use Rattle.card_by_hand.specs.card_retention.Expected.{Counted, with_entry}
use Rattle.card_by_hand.specs.card_retention.Entries.{last_entry, closed_at, newest_minute}
use Rattle.card_by_hand.specs.card_retention.Shown.{Bound, AllUpTo, Tells, Lives}
use Rattle.card_by_hand.proofs.card_retention.Listing.{Lists}
use Rattle.card_by_hand.specs.card_image.Fields.{card_days, end_mark}
use Rattle.card_by_hand.specs.card_image.View.{card_view}
use Rattle.card_by_hand.proofs.card_image.Newest.{newest_of_entries}
use Rattle.card_by_hand.specs.card_session.Vehicles.{Vehicles, last_use_in}
use Rattle.card_by_hand.specs.card_session.Books.{Book, mark_of, gap_closed, entered_days, travelled, with_entry as book_with}
use Rattle.card_by_hand.specs.card_session.Moments.{IsBeforeMark}
use Rattle.card_by_hand.specs.card_session.Parts.{IsBeforeGapOf}
use Rattle.card_by_hand.specs.card_session.Sessions.{Session, IsSession, book_of}
use Rattle.card_by_hand.specs.card_session.Cards.{IsCardKeeping, grown}
use Rattle.card_by_hand.specs.card_session.Overwriting.{DaysFollowOverwriting, ShowsEntries, and_entry}
use Rattle.card_by_hand.proofs.card_session.Marks.{session_same, mark_told}
use Rattle.card_by_hand.proofs.card_session.Preparing.{used_at}
use Rattle.card_by_hand.proofs.card_session.Stopping.{asked_at, days_there, book_days, mark_at, before_use}
use Rattle.card_by_hand.proofs.card_session.Committed.{keep_silent}
use Rattle.card_by_hand.proofs.card_session.NewestStays.{newest_after}
use Rattle.card_string.specs.Carried.{Begun, BrokeOf, BegunOf}
use Rattle.card_string.specs.Shows.{IsStopped, IsDone, IsKeepShown}
use Rattle.card_string.proofs.Moments.{until_more, later_day, view_newest}
use Rattle.card_string.proofs.Again.{Stopping, again_newest, again_stops, again_lives, again_shows}

module _ (s : Session) (e : Entry) (odometer : ℕ) (x y : List ℕ) (slack : Bound) (covered from : ℕ) (c : Counted) (all : List Entry) (sound : IsApplication s.application) (later : from ≤ e.minute) (late : s.minute < e.minute) (least : 16 ≤ slack.bytes) (knows : IsSession s x)
    (g : Begun s.application slack covered from c all x) (flat : trimmed (end_mark s.application x) (card_days s.application x) ≡ card_days s.application x) (here : e.minute / 1440 ≡ end_mark s.application x / 1440) (keeping : IsCardKeeping s e odometer x y) where
  abbrev app : Application
  app = s.application

  abbrev b : Book
  b = book_of s.application x

  told : end_mark app x ≡ mark_of (book_of s.application x)
  told = mark_told app x

  before : IsBeforeGapOf e.minute (book_of s.application x)
  before = asked_at s x e.minute late knows

  these : AreDays 0 (card_days s.application y)
  these = subst (λ (ds : List Day). AreDays 0 ds) (book_days s.application y) keeping.card.holds.ordered

  there : BegunOf app.activity slack covered from (mark_of (book_of s.application x)) c all (book_of s.application x).days
  there = subst (λ (ds : List Day). BegunOf app.activity slack covered from (mark_of (book_of s.application x)) c all ds) (sym (book_days app x)) (subst (λ (n : ℕ). BegunOf app.activity slack covered from n c all (card_days app x)) told g)

  flat_there : trimmed (mark_of (book_of s.application x)) (book_of s.application x).days ≡ (book_of s.application x).days
  flat_there = subst (λ (ds : List Day). trimmed (mark_of (book_of s.application x)) ds ≡ ds) (sym (book_days app x)) (subst (λ (n : ℕ). trimmed n (card_days app x) ≡ card_days app x) told flat)

  here_there : e.minute / 1440 ≡ mark_of (book_of s.application x) / 1440
  here_there = here ∙ ap (λ (n : ℕ). n / 1440) told

  mark_before : end_mark app x < e.minute
  mark_before = omega (arith, before.1, told)

  abbrev Stops : List Day → Type 0
  Stops kept = Stopping app.activity slack covered from c all b there flat_there (days_there s x knows) sound.string_least least e before later here_there kept

  was : newest_minute (end_mark app x) (trimmed (end_mark app x) (card_days app x)) ≡ end_mark app x
  was = subst (λ (n : ℕ). newest_minute n (trimmed n (card_days app x)) ≡ n) (sym told)
      (subst (λ (ds : List Day). newest_minute (mark_of (book_of s.application x)) (trimmed (mark_of (book_of s.application x)) ds) ≡ mark_of (book_of s.application x)) (book_days app x)
      (again_newest app.activity slack covered from c all b there flat_there (days_there s x knows) sound.string_least least e before later here_there).newest)

  stopped : end_mark app y ≡ end_mark app x → Stops (book_of s.application y).days → IsStopped app slack covered c all e x y
  stopped at k =
      let mark : mark_of (book_of s.application x) ≡ end_mark app y = sym told ∙ sym at in
      let newest : newest_minute (end_mark app y) (trimmed (end_mark app y) (card_days app y)) ≡ end_mark app y =
      subst (λ (n : ℕ). newest_minute n (trimmed n (card_days app y)) ≡ n) mark
      (subst (λ (ds : List Day). newest_minute (mark_of (book_of s.application x)) (trimmed (mark_of (book_of s.application x)) ds) ≡ mark_of (book_of s.application x)) (book_days app y) k.newest) in
      record {
        mark = at;
        left = ⊎_elim (λ broke. inl broke) (λ begun. inr (begun, omega (arith, here, at)))
            (subst (λ (n : ℕ). BrokeOf app.activity slack covered e.minute n c all (card_days app y) ⊎ BegunOf app.activity slack covered e.minute n c all (card_days app y)) mark
            (subst (λ (ds : List Day). BrokeOf app.activity slack covered e.minute (mark_of (book_of s.application x)) c all ds ⊎ BegunOf app.activity slack covered e.minute (mark_of (book_of s.application x)) c all ds) (book_days app y) k.left));
        newest = ap (λ (n : ℕ). max (card_view app x).word n) (view_newest app y ∙ newest ∙ at ∙ sym was ∙ sym (view_newest app x));
      }

  done : end_mark app y ≡ e.minute → DaysFollowOverwriting app (and_entry slack e) covered (suc e.minute) (with_entry covered c e) y → ShowsEntries app (all ++ e ∷ []) y → IsDone app slack covered c all e x y
  done at lives lists = record {
    mark = at;
    goes = record {
      lives = lives;
      until = subst (λ (m : ℕ). AllUpTo m (all ++ e ∷ [])) (sym at) (until_more (end_mark app x) e (omega (arith, mark_before)) all g.until);
      lists = lists;
      silent = keep_silent app sound x (days_there s x knows) s.registration odometer (grown s.odometer odometer) e y before keeping.card at;
    };
    newest = newest_after app sound x (days_there s x knows) s.registration odometer (grown s.odometer odometer) e before y keeping.card at;
    clear = λ f lt other. let less : e.minute / 1440 < f.minute / 1440 = later_day e f (card_days app y) tells lt other in omega (arith, less, at);
  }
    where
      tells : Tells e (card_days s.application y)
      tells = lives.rests.tells e refl (omega (arith, (lives.rests.entry e refl).0, lives.rests.next))

  stops_at : (kept : List Day) → IsBeforeMark app.activity b (book_with app.activity s.registration odometer (grown s.odometer odometer) b e) e kept → Stops kept
  stops_at kept moment = again_stops app.activity slack covered from c all b there flat_there (days_there s x knows) sound.string_least least e before later here_there s.registration odometer (grown s.odometer odometer) kept moment

  moved : end_mark app y ≡ e.minute → (book_of s.application y).days ≡ travelled (grown s.odometer odometer) (entered_days app.activity e (gap_closed app.activity (mark_of (book_of s.application x)) e.minute (book_of s.application x).days)) → IsDone app slack covered c all e x y
  moved at is = done at
      (subst (λ (ds : List Day). Lives app.activity (and_entry slack e) covered (suc e.minute) (end_mark app y) (with_entry covered c e) ds) (sym is ∙ book_days app y)
      (subst (λ (n : ℕ). Lives app.activity (and_entry slack e) covered (suc e.minute) n (with_entry covered c e) after) (sym at)
      (again_lives app.activity slack covered from c all b there flat_there (days_there s x knows) sound.string_least least e before later here_there (grown s.odometer odometer) (subst (λ (ds : List Day). AreDays 0 ds) is keeping.card.holds.ordered))))
      (subst (λ (ds : List Day). Lists (end_mark app y) (all ++ e ∷ []) ds) (sym is ∙ book_days app y)
      (subst (λ (n : ℕ). Lists n (all ++ e ∷ []) after) (sym at)
      (again_shows app.activity slack covered from c all b there flat_there (days_there s x knows) sound.string_least least e before later here_there (grown s.odometer odometer))))
    where
      after : List Day
      after = travelled (grown s.odometer odometer) (entered_days s.application.activity e (gap_closed s.application.activity (mark_of (book_of s.application x)) e.minute (book_of s.application x).days))

  pub begun_shown : IsKeepShown app slack covered c all e x y
  begun_shown = record {
    session = session_same app _ x y keeping.card;
    side = ⊎_elim
        (λ old. inl (stopped (mark_at app b y old.0 ∙ sym told) (stops_at (book_of s.application y).days old.1)))
        (λ new. ⊎_elim
        (λ unused. inl (stopped (mark_told app y ∙ before_use s.registration odometer e.minute b.vehicles (book_of s.application y).vehicles unused ∙ sym told) (stops_at (book_of s.application y).days (inr (inr (inr new.0))))))
        (λ used. inr (moved (mark_told app y ∙ ap (λ (o : Vehicles). last_use_in o / 60) used ∙ used_at s.registration odometer e.minute b.vehicles) new.0))
        new.1) keeping.card.told;
    bound = omega (arith, newest_of_entries app y these, le-max_left (card_view app y).mark (closed_at (last_entry (card_view app y).held.entries)));
  }
