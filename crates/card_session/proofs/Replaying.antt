-- What a stop in a replay of entries leaves of the days, by the stated overwriting.
use Rattle.std.proofs.Common.{◌≡◌, ◌≢◌, inl, inr, ⊎_elim, ℕ, suc, ◌+◌, ◌-◌, ◌*◌, ◌/◌, ◌<◌, ◌≤◌, max, Bool, true, false, cond, List, [], ◌∷◌, ◌++◌, length, refl, sym, ◌∙◌, ap, subst, arith}
use Rattle.std.specs.Prelude.{nat_eq}
use Rattle.std.specs.List.{AllByRecursion}
use Rattle.std.proofs.lemmas.Bool.Decides.{nat_tests}
use Rattle.activity_codec.specs.declared.entries.Entry.{Entry}
use Rattle.tacho_types.specs.declared.texts.Registration.{Registration}
use Rattle.card_days.specs.card_model.Days.{Day, IsDay, AreDays}
use Rattle.card_days.specs.card_model.Changes.{Remain, TakesWord, IsLater, fitting, new_day, date_of, trimmed}
use Rattle.card_days.proofs.card_model.Retention.{remain_fitting, remain_some}
use Rattle.card_days.proofs.Beginning.{new_is}
use Rattle.card_validity.specs.card_retention.Expected.{Counted, is_newest, with_entry as counted_with}
use Rattle.card_validity.specs.card_retention.Entries.{newest_word}
use Rattle.card_validity.specs.card_retention.Shown.{Bound, Fits, Rests, Lives, sizes}
use Rattle.card_validity.proofs.card_retention.Entering.{fits_sizes, newest_more}
use Rattle.card_validity.proofs.card_retention.Growing.{sizes_word, left_newest, left_of}
use Rattle.card_validity.proofs.card_retention.Stops.{are_left, stop_none}
use Rattle.card_session.specs.Vehicles.{Vehicles, last_use_in}
use Rattle.card_session.specs.Books.{Book, mark_of, with_change, gap_closed, entered_days, travelled, with_entry, with_new_day, day_words, entry_word, tells_state}
use Rattle.card_session.specs.Parts.{IsBeforeGapOf, IsBeforeEntry, with_gap_closed}
use Rattle.card_session.specs.Inserting.{Follow, with_owed, IsBeforeAll, IsReplaying}
use Rattle.card_session.specs.Overwriting.{and_entry}
use Rattle.card_session.specs.Repairs.{first_minute, and_entries, with_entries, HasFirst, BeginsLater}
use Rattle.card_session.proofs.Following.{takes_entry, begins_day}
use Rattle.card_session.proofs.Preparing.{are_with, gap_are, gap_ready, entry_last, used_at}
use Rattle.card_session.proofs.Alike.{alike_km, sizes_alike}
use Rattle.card_session.proofs.Stopping.{before_stop, before_use, goes_on, lives_later}

-- ---- an entry's days are days

later_first : (date m : ℕ) (d : Day) (ds : List Day) → AreDays date (d ∷ ds) → IsLater m (d ∷ ds) → d.date < m
later_first date m d [] are later = later
later_first date m d (e ∷ ds) are later = omega (arith, are.2.0, later_first d.date m e ds are.2 later)

are_append : (date : ℕ) (ds : List Day) (d : Day) → AreDays date ds → date < d.date → IsLater d.date ds → IsDay d → AreDays date (ds ++ d ∷ [])
are_append date [] d are low later is = (low, is, tt)
are_append date (f ∷ []) d are low later is = (are.0, are.1, (later, is, tt))
are_append date (f ∷ g ∷ ds) d are low later is = (are.0, are.1, are_append f.date (g ∷ ds) d are.2 (later_first date d.date f (g ∷ ds) are later) later is)

are_km : (more date : ℕ) (ds : List Day) → AreDays date ds → AreDays date (travelled more ds)
are_km more date [] are = tt
are_km more date (d ∷ []) are = (are.0, record { midnight = are.1.midnight; decimal = are.1.decimal; most = are.1.most; ordered = are.1.ordered }, tt)
are_km more date (d ∷ e ∷ ds) are = (are.0, are.1, are_km more d.date (e ∷ ds) are.2)

later_rest : (m : ℕ) (d : Day) (ds : List Day) → IsLater m (d ∷ ds) → IsLater m ds
later_rest m d [] later = omega (arith, later)
later_rest m d (e ∷ ds) later = later

later_left : (m room : ℕ) (days kept : List Day) → Remain room days kept → IsLater m days → IsLater m kept
later_left m room [] kept left later = subst (IsLater m) (sym left) later
later_left m room (d ∷ ds) kept left later = ⊎_elim
    (λ same. subst (IsLater m) (sym same) later)
    (λ gone. later_left m room ds kept gone.1 (later_rest m d ds later)) left

is_same : (m n : ℕ) → m ≡ n → nat_eq m n ≡ true
is_same m n is = grind (arith, nat_tests)

newest_last : (k : ℕ) (ds : List Day) (d : Day) → d.date / 86400 ≡ k → is_newest k (sizes (ds ++ d ∷ [])) ≡ true
newest_last k [] d at = is_same (d.date / 86400) k at
newest_last k (f ∷ []) d at = newest_last k [] d at
newest_last k (f ∷ g ∷ ds) d at = newest_last k (g ∷ ds) d at

module _ (size : ℕ) (long : 5544 ≤ size) (b : Book) (are : AreDays 0 b.days) (e : Entry) (before : IsBeforeEntry e b) (some : 1440 ≤ e.minute) where
  abbrev few : ℕ
  few = size - (12 + 2 * length (day_words e))

  -- the days with its words
  entered_are : AreDays 0 (entered_days size e b.days)
  entered_are = by (is_newest (e.minute / 1440) (sizes b.days)) (tells_state e b.days) refl
    where
      left : (room : ℕ) → AreDays 0 (fitting room b.days)
      left room = are_left room b.days (fitting room b.days) (remain_fitting room b.days) are

      by : (n told : Bool) → is_newest (e.minute / 1440) (sizes b.days) ≡ n → AreDays 0 (cond n (cond told b.days (with_change size (entry_word e) b.days)) (with_new_day size e b.days))
      by true true is = are
      by true false is =
          are_with (entry_word e) 0 (fitting (size - 2) b.days) (left (size - 2))
          (remain_some (TakesWord (entry_word e)) (size - 2) 0 b.days (fitting (size - 2) b.days) (omega (arith, long)) are (remain_fitting (size - 2) b.days) (takes_entry 0 e b.days are before.0 is before.1))
      by false told is =
          let next = begins_day e b.days some are is before.1 in
          are_append 0 (fitting few b.days) (new_day b.days (date_of e.minute) (day_words e)) (left few) (omega (arith, some))
          (later_left (date_of e.minute) few b.days (fitting few b.days) (remain_fitting few b.days) next.later) (new_is b.days (date_of e.minute) (day_words e) next)

  -- and its day is the newest
  entered_newest : (more : ℕ) → is_newest (e.minute / 1440) (sizes (travelled more (entered_days size e b.days))) ≡ true
  entered_newest more =
      ap (is_newest (e.minute / 1440)) (sizes_alike (entered_days size e b.days) (travelled more (entered_days size e b.days)) (alike_km more (entered_days size e b.days)))
      ∙ by (is_newest (e.minute / 1440) (sizes b.days)) (tells_state e b.days) refl
    where
      fits : Fits (size - 2) (sizes b.days)
      fits = (fits_sizes 0 (size - 2) b.days (omega (arith, long)) are).0

      by : (n told : Bool) → is_newest (e.minute / 1440) (sizes b.days) ≡ n
          → is_newest (e.minute / 1440) (sizes (cond n (cond told b.days (with_change size (entry_word e) b.days)) (with_new_day size e b.days))) ≡ true
      by true true is = is
      by true false is =
          ap (is_newest (e.minute / 1440)) (sizes_word (entry_word e) (fitting (size - 2) b.days)) ∙ newest_more (e.minute / 1440) (sizes (fitting (size - 2) b.days))
          ∙ left_newest (size - 2) (e.minute / 1440) (sizes b.days) (sizes (fitting (size - 2) b.days)) fits (left_of (size - 2) b.days (fitting (size - 2) b.days) (remain_fitting (size - 2) b.days)) ∙ is
      by false told is = newest_last (e.minute / 1440) (fitting few b.days) (new_day b.days (date_of e.minute) (day_words e)) (omega arith)

-- ---- an entry, whole

apart : (k l : ℕ) (b : Book) → is_newest k (sizes b.days) ≡ true → is_newest l (sizes b.days) ≡ false → k ≢ l
apart k l b here there same = let both : is_newest l (sizes b.days) ≡ true = ap (λ (n : ℕ). is_newest n (sizes b.days)) (sym same) ∙ here in cc

module _ (size : ℕ) (long : 5544 ≤ size) (registration : Registration) (odometer covered : ℕ) where
  abbrev pub next_book : Book → Entry → Book
  next_book b e = with_entry size registration odometer 0 b e

  module _ (b : Book) (are : AreDays 0 b.days) (e : Entry) (gap : IsBeforeGapOf e.minute b) (some : 1440 ≤ e.minute) where
    ready : IsBeforeEntry e (with_gap_closed size e.minute b)
    ready = gap_ready size long b are e.minute gap e refl

    pub with_are : AreDays 0 (next_book b e).days
    with_are = are_km 0 0 (entered_days size e (gap_closed size (mark_of b) e.minute b.days)) (entered_are size long (with_gap_closed size e.minute b) (gap_are size long b are e.minute gap) e ready some)

    pub with_before : (es : List Entry) → Follow e.minute es → IsBeforeAll es (next_book b e)
    with_before es follow =
        let last = entry_last size long registration odometer 0 e b are gap in
        (last.0, subst (λ (m : ℕ). Follow m es) (sym last.1) follow)

    pub with_later : (es : List Entry) → Follow e.minute es → BeginsLater (mark_of (next_book b e)) es (next_book b e).days
    with_later [] follow = tt
    with_later (f ∷ es) follow = λ other.
        let there = apart (e.minute / 1440) (f.minute / 1440) (next_book b e) (entered_newest size long (with_gap_closed size e.minute b) (gap_are size long b are e.minute gap) e ready some 0) other in
        later (mark_of (next_book b e)) e.minute f.minute (used_at registration odometer e.minute b.vehicles) follow.0 there
      where
        later : (m k n : ℕ) → m ≡ k → k < n → k / 1440 ≢ n / 1440 → m / 1440 < n / 1440
        later m k n at low apart = omega (arith, at, low, apart)

  -- by the overwriting
  module _ (slack : Bound) (from : ℕ) (c : Counted) (b : Book) (l : Lives size slack covered from (mark_of b) c b.days) (least : 16 ≤ slack.bytes) (e : Entry) (gap : IsBeforeGapOf e.minute b) (after : from ≤ e.minute) (some : 1440 ≤ e.minute) where
    with_lives : Lives size (and_entry slack e) covered (suc e.minute) (mark_of (next_book b e)) (counted_with covered c e) (next_book b e).days
    with_lives =
        subst (λ (m : ℕ). Lives size (and_entry slack e) covered (suc e.minute) m (counted_with covered c e) (next_book b e).days) (sym (used_at registration odometer e.minute b.vehicles))
        (goes_on size slack covered from c b l long least e gap after 0 (with_are b l.rests.ordered e gap some))

  follow_first : (m next : ℕ) (es : List Entry) → Follow m es → m < next → suc m ≤ first_minute next es
  follow_first m next [] follow low = omega (arith, low)
  follow_first m next (e ∷ es) follow low = omega (arith, follow.0)

  -- ENTRIES, one after the other: once all are on the card
  pub replay_lives : (es : List Entry) (slack : Bound) (from next : ℕ) (c : Counted) (b : Book) → Lives size slack covered from (mark_of b) c b.days → 16 ≤ slack.bytes → IsBeforeAll es b
      → AllByRecursion (λ e. 1440 ≤ e.minute) es → AllByRecursion (λ e. e.minute < next) es → from ≤ first_minute next es
      → Lives size (and_entries slack es) covered next (mark_of (with_owed size registration odometer es b)) (with_entries covered c es) (with_owed size registration odometer es b).days
  replay_lives [] slack from next c b l least before many up after = lives_later size slack covered from next (mark_of b) c b.days after l
  replay_lives (e ∷ es) slack from next c b l least before many up after =
      let gap : IsBeforeGapOf e.minute b = (before.0, before.1.0) in
      replay_lives es (and_entry slack e) (suc e.minute) next (counted_with covered c e) (next_book b e) (with_lives slack from c b l least e gap after many.0) least
      (with_before b l.rests.ordered e gap many.0 es before.1.1) many.1 up.1 (follow_first e.minute next es before.1.1 up.0)

  -- no word stands behind the end mark
  pub replay_low : (es : List Entry) (b : Book) → AreDays 0 b.days → newest_word b.days ≤ mark_of b → IsBeforeAll es b → AllByRecursion (λ e. 1440 ≤ e.minute) es
      → newest_word (with_owed size registration odometer es b).days ≤ mark_of (with_owed size registration odometer es b)
  replay_low [] b are low before many = low
  replay_low (e ∷ es) b are low before many =
      let gap : IsBeforeGapOf e.minute b = (before.0, before.1.0) in
      let last = entry_last size long registration odometer 0 e b are gap in
      replay_low es (next_book b e) (with_are b are e gap many.0) (newest_low (newest_word (next_book b e).days) (mark_of (next_book b e)) e.minute last.1 last.2) (with_before b are e gap many.0 es before.1.1) many.1
    where
      newest_low : (w m n : ℕ) → max m w ≡ n → m ≡ n → w ≤ m
      newest_low w m n both at = omega (arith, both, at)

  -- one more of the first
  and_first : (slack : Bound) (next mark now : ℕ) (c : Counted) (e : Entry) (es : List Entry) (ds : List Day) → HasFirst size (and_entry slack e) covered next e.minute (counted_with covered c e) es now ds → HasFirst size slack covered next mark c (e ∷ es) now ds
  and_first slack next mark now c e es ds first = record { done = e ∷ first.done; rest = first.rest; split = ap (λ (l : List Entry). e ∷ l) first.split; behind = first.behind; shows = first.shows }

  -- AT EACH MOMENT
  pub replay_stops : (es : List Entry) (slack : Bound) (from next : ℕ) (c : Counted) (b : Book) → Lives size slack covered from (mark_of b) c b.days → 16 ≤ slack.bytes → IsBeforeAll es b
      → AllByRecursion (λ e. 1440 ≤ e.minute) es → AllByRecursion (λ e. e.minute < next) es → from ≤ first_minute next es → BeginsLater (mark_of b) es b.days
      → (ds : List Day) (v : Vehicles) → AreDays 0 ds → IsReplaying size registration odometer es b ds v → HasFirst size slack covered next (mark_of b) c es (last_use_in v / 60) ds
  replay_stops [] slack from next c b l least before many up after begins ds v are is =
      let at : last_use_in v / 60 ≡ mark_of b = ap (λ (o : Vehicles). last_use_in o / 60) is.1 in
      record {
        done = [];
        rest = [];
        split = refl;
        behind = at;
        shows = subst (λ (n : ℕ). Rests size slack covered next n c (trimmed n ds)) (sym at)
            (subst (λ (l : List Day). Rests size slack covered next (mark_of b) c (trimmed (mark_of b) l)) (sym is.0) (stop_none size slack covered from (mark_of b) c b.days l next after long least));
      }
  replay_stops (e ∷ es) slack from next c b l least before many up after begins ds v are (inl moment) = ⊎_elim
      (λ old. stopped (ap (λ (o : Vehicles). last_use_in o / 60) old.0) (before_stop size slack covered from c b l long least e gap after begins registration odometer 0 ds are old.1))
      (λ new. ⊎_elim
      (λ unused. stopped (before_use registration odometer e.minute b.vehicles v unused) (before_stop size slack covered from c b l long least e gap after begins registration odometer 0 ds are (inr (inr (inr new.0)))))
      (λ used.
      let at : last_use_in v / 60 ≡ mark_of (next_book b e) = ap (λ (o : Vehicles). last_use_in o / 60) used in
      let low = follow_first e.minute next es before.1.1 up.0 in
      record {
        done = e ∷ [];
        rest = es;
        split = refl;
        behind = at ∙ used_at registration odometer e.minute b.vehicles;
        shows = subst (λ (n : ℕ). Rests size (and_entry slack e) covered (first_minute next es) n (counted_with covered c e) (trimmed n ds)) (sym at)
            (subst (λ (l : List Day). Rests size (and_entry slack e) covered (first_minute next es) (mark_of (next_book b e)) (counted_with covered c e) (trimmed (mark_of (next_book b e)) l)) (sym new.0)
            (stop_none size (and_entry slack e) covered (suc e.minute) (mark_of (next_book b e)) (counted_with covered c e) (next_book b e).days (with_lives slack from c b l least e gap after many.0) (first_minute next es) low long least));
      })
      new.1)
      moment
    where
      gap : IsBeforeGapOf e.minute b
      gap = (before.0, before.1.0)

      stopped : last_use_in v / 60 ≡ mark_of b → Rests size slack covered e.minute (mark_of b) c (trimmed (mark_of b) ds) → HasFirst size slack covered next (mark_of b) c (e ∷ es) (last_use_in v / 60) ds
      stopped at rests = record { done = []; rest = e ∷ es; split = refl; behind = at; shows = subst (λ (n : ℕ). Rests size slack covered e.minute n c (trimmed n ds)) (sym at) rests }
  replay_stops (e ∷ es) slack from next c b l least before many up after begins ds v are (inr later) =
      let gap : IsBeforeGapOf e.minute b = (before.0, before.1.0) in
      and_first slack next (mark_of b) (last_use_in v / 60) c e es ds
      (subst (λ (m : ℕ). HasFirst size (and_entry slack e) covered next m (counted_with covered c e) es (last_use_in v / 60) ds) (used_at registration odometer e.minute b.vehicles)
      (replay_stops es (and_entry slack e) (suc e.minute) next (counted_with covered c e) (next_book b e) (with_lives slack from c b l least e gap after many.0) least
      (with_before b l.rests.ordered e gap many.0 es before.1.1) many.1 up.1 (follow_first e.minute next es before.1.1 up.0) (with_later b l.rests.ordered e gap many.0 es before.1.1) ds v are later))
