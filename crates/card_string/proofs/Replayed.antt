-- The entries that an insertion replays, by the rule of overwriting: on a book, at each moment and once all are there.
use Rattle.std.proofs.Common.{◌≡◌, ◌⊎◌, inl, inr, ⊎_elim, ℕ, suc, ◌/◌, ◌%◌, ◌<◌, ◌≤◌, Bool, true, false, cond, Some, List, [], ◌∷◌, ◌++◌, append_assoc, refl, sym, ◌∙◌, ap, subst, arith}
use Rattle.std.specs.Prelude.{nat_eq}
use Rattle.std.specs.List.{AllByRecursion}
use Rattle.std.proofs.lemmas.Bool.{cases_lt}
use Rattle.std.proofs.lemmas.List.{append-nil}
use Rattle.card_by_hand.specs.activity_codec.declared.entries.Entry.{Entry}
use Rattle.card_by_hand.specs.tacho_types.declared.texts.Registration.{Registration}
use Rattle.card_by_hand.specs.card_model.Days.{Day, AreDays}
use Rattle.card_by_hand.specs.card_model.Changes.{trimmed}
use Rattle.card_by_hand.specs.card_retention.Expected.{Counted, is_newest, with_entry as counted_with}
use Rattle.card_by_hand.specs.card_retention.Entries.{closed_at, entries_up_to, newest_word}
use Rattle.card_by_hand.specs.card_retention.Retains.{entries_in, begun_on}
use Rattle.card_by_hand.specs.card_retention.Shown.{Bound, AllBefore, AllUpTo, Rests, Lives, sizes}
use Rattle.card_by_hand.proofs.card_retention.Listing.{Lists}
use Rattle.card_by_hand.proofs.card_retention.ListTrims.{entries_trimmed, lists_trimmed}
use Rattle.card_by_hand.proofs.card_retention.Moments.{rests_later}
use Rattle.card_by_hand.proofs.card_retention.Stops.{stop_none}
use Rattle.card_by_hand.specs.card_session.Vehicles.{Vehicles, last_use_in}
use Rattle.card_by_hand.specs.card_session.Books.{Book, mark_of, gap_closed, with_entry}
use Rattle.card_by_hand.specs.card_session.Moments.{IsKeepMoment, IsBeforeMark}
use Rattle.card_by_hand.specs.card_session.Parts.{IsBeforeGapOf}
use Rattle.card_by_hand.specs.card_session.Inserting.{Follow, with_owed, IsBeforeAll, IsReplaying}
use Rattle.card_by_hand.specs.card_session.Overwriting.{and_entry}
use Rattle.card_by_hand.specs.card_session.Repairs.{first_minute, mark_behind, and_entries, with_entries, BeginsLater, newest_behind}
use Rattle.card_by_hand.proofs.card_session.Preparing.{used_at}
use Rattle.card_by_hand.proofs.card_session.Stopping.{before_stop, before_use, goes_on, lives_later}
use Rattle.card_by_hand.proofs.card_session.Surviving.{newest_gapped, keep_survives, lists_survive}
use Rattle.card_by_hand.proofs.card_session.Committed.{silent_end, commit_shows}
use Rattle.card_by_hand.proofs.card_session.NewestStays.{next_low}
use Rattle.card_by_hand.proofs.card_session.Replaying.{with_are, with_before, with_later}
use Rattle.card_string.specs.Carried.{BrokeOf, BegunOf}
use Rattle.card_string.specs.Inserts.{IsOnDay, ReplaysOf}
use Rattle.card_string.proofs.Moments.{until_more}
use Rattle.card_string.proofs.Begun.{stops, begun_lives, begun_shows}
use Rattle.card_string.proofs.Again.{again_stops, again_lives, again_shows}

-- ---- days that were broken off

module _ (size : ℕ) (slack : Bound) (covered mark : ℕ) (c : Counted) (all : List Entry) where
  -- later entries alone may come
  pub broke_later : (from to : ℕ) (days : List Day) → from ≤ to → BrokeOf size slack covered from mark c all days → BrokeOf size slack covered to mark c all days
  broke_later from to days le b = record { rests = rests_later size slack covered from to mark c (trimmed mark days) le b.rests; until = b.until; lists = b.lists }

  pub begun_later : (from to : ℕ) (days : List Day) → from ≤ to → BegunOf size slack covered from mark c all days → BegunOf size slack covered to mark c all days
  begun_later from to days le b = record {
    older = b.older;
    young = b.young;
    is = b.is;
    date = b.date;
    first = b.first;
    rests = rests_later size slack covered from to mark c b.older le b.rests;
    before = b.before;
    fresh = b.fresh;
    until = b.until;
    lists = b.lists;
    empty = b.empty;
  }

  -- days that a repair would cut to the same
  module _ (from : ℕ) (days other : List Day) (same : trimmed mark other ≡ trimmed mark days) (are : AreDays 0 days) (are_other : AreDays 0 other) where
    same_entries : entries_up_to mark other ≡ entries_up_to mark days
    same_entries = sym (entries_trimmed mark 0 other are_other) ∙ ap (entries_up_to mark) same ∙ entries_trimmed mark 0 days are

    pub broke_same : BrokeOf size slack covered from mark c all days → BrokeOf size slack covered from mark c all other
    broke_same b = record {
      rests = subst (λ (ds : List Day). Rests size slack covered from mark c ds) (sym same) b.rests;
      until = b.until;
      lists = same_entries ∙ b.lists ∙ ap (λ (ds : List Day). entries_in (sizes ds) all) (sym same);
    }

    pub begun_same : BegunOf size slack covered from mark c all days → BegunOf size slack covered from mark c all other
    begun_same b = record {
      older = b.older;
      young = b.young;
      is = same ∙ b.is;
      date = b.date;
      first = b.first;
      rests = b.rests;
      before = b.before;
      fresh = b.fresh;
      until = b.until;
      lists = same_entries ∙ b.lists;
      empty = b.empty;
    }

-- ---- of a book whose end mark no word reaches beyond

pub record GoesIn (size : ℕ) (slack : Bound) (covered from : ℕ) (c : Counted) (all : List Entry) (b : Book) : Type 0 where
  pub lives : Lives size slack covered from (mark_of b) c b.days
  pub until : AllUpTo (mark_of b) all
  pub lists : Lists (mark_of b) all b.days
  pub low : newest_word b.days ≤ mark_of b

pub follow_first : (m next : ℕ) (es : List Entry) → Follow m es → m < next → suc m ≤ first_minute next es
follow_first m next [] follow low = omega (arith, low)
follow_first m next (e ∷ es) follow low = omega (arith, follow.0)

module _ (size : ℕ) (long : 5544 ≤ size) (registration : Registration) (odometer covered : ℕ) where
  -- where it is broken off
  pub broke_of : (slack : Bound) (from next : ℕ) (c : Counted) (all : List Entry) (b : Book) → GoesIn size slack covered from c all b → 16 ≤ slack.bytes → from ≤ next → BrokeOf size slack covered next (mark_of b) c all b.days
  broke_of slack from next c all b g least later = record {
    rests = stop_none size slack covered from (mark_of b) c b.days g.lives next later long least;
    until = g.until;
    lists = sym (entries_trimmed (mark_of b) 0 b.days g.lives.rests.ordered) ∙ lists_trimmed (mark_of b) all b.days g.lives.rests.ordered g.until g.lists;
  }

  -- with an entry
  made : (slack : Bound) (c : Counted) (all : List Entry) (b : Book) (e : Entry) → mark_of b ≤ e.minute → AllUpTo (mark_of b) all
      → Lives size slack covered (suc e.minute) e.minute c (with_entry size registration odometer 0 b e).days
      → Lists e.minute (all ++ e ∷ []) (with_entry size registration odometer 0 b e).days → newest_word (with_entry size registration odometer 0 b e).days ≤ e.minute
      → GoesIn size slack covered (suc e.minute) c (all ++ e ∷ []) (with_entry size registration odometer 0 b e)
  made slack c all b e le until lives lists low =
      let at : mark_of (with_entry size registration odometer 0 b e) ≡ e.minute = used_at registration odometer e.minute b.vehicles in
      record {
        lives = subst (λ (m : ℕ). Lives size slack covered (suc e.minute) m c (with_entry size registration odometer 0 b e).days) (sym at) lives;
        until = subst (λ (m : ℕ). AllUpTo m (all ++ e ∷ [])) (sym at) (until_more (mark_of b) e le all until);
        lists = subst (λ (m : ℕ). Lists m (all ++ e ∷ []) (with_entry size registration odometer 0 b e).days) (sym at) lists;
        low = omega (arith, at, low);
      }

  -- AN ENTRY COMES: at each moment before its end mark what a repair leaves keeps the rule, or its day is begun; and then it is there.
  record Comes (slack : Bound) (from : ℕ) (c : Counted) (all : List Entry) (b : Book) (e : Entry) : Type 0 where
    pub stop : (kept : List Day) → AreDays 0 kept → IsBeforeMark size b (with_entry size registration odometer 0 b e) e kept
        → BrokeOf size slack covered e.minute (mark_of b) c all kept ⊎ (BegunOf size slack covered e.minute (mark_of b) c all kept × (e.minute / 1440 ≡ mark_of b / 1440))
    pub goes : GoesIn size (and_entry slack e) covered (suc e.minute) (counted_with covered c e) (all ++ e ∷ []) (with_entry size registration odometer 0 b e)

  -- one whose day, where it is new, is later than the end mark's
  module _ (slack : Bound) (from : ℕ) (c : Counted) (all : List Entry) (b : Book) (g : GoesIn size slack covered from c all b) (least : 16 ≤ slack.bytes) (e : Entry) (gap : IsBeforeGapOf e.minute b) (after : from ≤ e.minute) (some : 1440 ≤ e.minute) where
    are : AreDays 0 b.days
    are = g.lives.rests.ordered

    one_are : AreDays 0 (with_entry size registration odometer 0 b e).days
    one_are = with_are size long registration odometer covered b are e gap some

    one_low : newest_word (with_entry size registration odometer 0 b e).days ≤ e.minute
    one_low = next_low size long b are registration odometer 0 e gap

    clear_comes : (is_newest (e.minute / 1440) (sizes b.days) ≡ false → mark_of b / 1440 < e.minute / 1440) → Comes slack from c all b e
    clear_comes begins = record {
      stop = λ kept whole moment. inl (record {
        rests = before_stop size slack covered from c b g.lives long least e gap after begins registration odometer 0 kept whole moment;
        until = g.until;
        lists = sym (entries_trimmed (mark_of b) 0 kept whole)
            ∙ lists_trimmed (mark_of b) all kept whole g.until
            (keep_survives size long b are (Lists (mark_of b) all) (Lists (mark_of b) all) (lists_survive (mark_of b) all g.until) g.lists e gap clear registration odometer 0 kept moment);
      });
      goes = made (and_entry slack e) (counted_with covered c e) all b e (omega (arith, gap.1)) g.until
          (goes_on size slack covered from c b g.lives long least e gap after 0 one_are)
          (commit_shows size long b are e gap (silent_end (mark_of b) b.days are g.low) all g.until g.lists clear 0 one_are) one_low;
    }
      where
        clear : is_newest (e.minute / 1440) (sizes (gap_closed size (mark_of b) e.minute b.days)) ≡ false → mark_of b / 1440 < e.minute / 1440
        clear other = begins (sym (newest_gapped size long b are e.minute (e.minute / 1440)) ∙ other)

    -- one on the mark's day, where no day so far is as late
    fresh_comes : e.minute / 1440 ≡ mark_of b / 1440 → is_newest (e.minute / 1440) (sizes b.days) ≡ false → AllBefore (mark_of b / 1440) c.days → entries_in (begun_on (mark_of b / 1440) ∷ []) all ≡ [] → Comes slack from c all b e
    fresh_comes here other fresh empty = record {
      stop = λ kept whole moment. ⊎_elim (λ broke. inl broke) (λ begun. inr (begun, here))
          (stops size slack covered from c all b g.lives g.until g.lists long least e gap after here other fresh empty registration odometer 0 kept moment).left;
      goes = made (and_entry slack e) (counted_with covered c e) all b e (omega (arith, gap.1)) g.until
          (begun_lives size slack covered from c all b g.lives g.until g.lists long least e gap after here other fresh empty 0 one_are)
          (begun_shows size slack covered from c all b g.lives g.until g.lists long least e gap after here other fresh empty 0) one_low;
    }

  -- one whose day was begun
  begun_comes : (slack : Bound) (from : ℕ) (c : Counted) (all : List Entry) (b : Book) → AreDays 0 b.days → 16 ≤ slack.bytes → (e : Entry) → IsBeforeGapOf e.minute b → from ≤ e.minute → 1440 ≤ e.minute → e.minute / 1440 ≡ mark_of b / 1440
      → BegunOf size slack covered from (mark_of b) c all b.days → trimmed (mark_of b) b.days ≡ b.days → Comes slack from c all b e
  begun_comes slack from c all b are least e gap after some here begun flat = record {
    stop = λ kept whole moment. ⊎_elim (λ broke. inl broke) (λ again. inr (again, here))
        (again_stops size slack covered from c all b begun flat are long least e gap after here registration odometer 0 kept moment).left;
    goes =
        let whole : AreDays 0 (with_entry size registration odometer 0 b e).days = with_are size long registration odometer covered b are e gap some in
        made (and_entry slack e) (counted_with covered c e) all b e (omega (arith, gap.1)) begun.until
        (again_lives size slack covered from c all b begun flat are long least e gap after here 0 whole)
        (again_shows size slack covered from c all b begun flat are long least e gap after here 0) (next_low size long b are registration odometer 0 e gap);
  }

  -- ---- at each moment

  -- none of them is there
  pub none_there : (slack : Bound) (next mark : ℕ) (c : Counted) (all es : List Entry) (now : ℕ) (days : List Day) → now ≡ mark
      → BrokeOf size slack covered (first_minute next es) mark c all days ⊎ (BegunOf size slack covered (first_minute next es) mark c all days × IsOnDay mark es) → ReplaysOf size slack covered next mark c all es now days
  none_there slack next mark c all es now days at left = record {
    done = [];
    rest = es;
    split = refl;
    behind = at;
    left = subst (λ (n : ℕ). BrokeOf size slack covered (first_minute next es) n c (all ++ []) days ⊎ (BegunOf size slack covered (first_minute next es) n c (all ++ []) days × IsOnDay n es)) (sym at)
        (subst (λ (l : List Entry). BrokeOf size slack covered (first_minute next es) mark c l days ⊎ (BegunOf size slack covered (first_minute next es) mark c l days × IsOnDay mark es)) (sym (append-nil all)) left);
  }

  -- one more of the first
  and_first : (slack : Bound) (next mark : ℕ) (c : Counted) (all : List Entry) (e : Entry) (es : List Entry) (now : ℕ) (days : List Day) → ReplaysOf size (and_entry slack e) covered next e.minute (counted_with covered c e) (all ++ e ∷ []) es now days
      → ReplaysOf size slack covered next mark c all (e ∷ es) now days
  and_first slack next mark c all e es now days one = record {
    done = e ∷ one.done;
    rest = one.rest;
    split = ap (λ (l : List Entry). e ∷ l) one.split;
    behind = one.behind;
    left = subst
        (λ (l : List Entry). BrokeOf size (and_entries slack (e ∷ one.done)) covered (first_minute next one.rest) now (with_entries covered c (e ∷ one.done)) l days
        ⊎ (BegunOf size (and_entries slack (e ∷ one.done)) covered (first_minute next one.rest) now (with_entries covered c (e ∷ one.done)) l days × IsOnDay now one.rest))
        (append_assoc all (e ∷ []) one.done) one.left;
  }

  -- an entry comes, and then others
  module _ (slack : Bound) (from next : ℕ) (c : Counted) (all : List Entry) (b : Book) (least : 16 ≤ slack.bytes) (e : Entry) (es : List Entry) (comes : Comes slack from c all b e) (behind : suc e.minute ≤ first_minute next es) where
    abbrev one : Book
    one = with_entry size registration odometer 0 b e

    at_one : mark_of one ≡ e.minute
    at_one = used_at registration odometer e.minute b.vehicles

    waits : (ds : List Day) (v : Vehicles) → AreDays 0 ds → last_use_in v / 60 ≡ mark_of b → IsBeforeMark size b one e ds → ReplaysOf size slack covered next (mark_of b) c all (e ∷ es) (last_use_in v / 60) ds
    waits ds v whole at moment = none_there slack next (mark_of b) c all (e ∷ es) (last_use_in v / 60) ds at (comes.stop ds whole moment)

    there : (ds : List Day) (v : Vehicles) → ds ≡ one.days → last_use_in v / 60 ≡ e.minute → ReplaysOf size slack covered next (mark_of b) c all (e ∷ es) (last_use_in v / 60) ds
    there ds v is at =
        and_first slack next (mark_of b) c all e es (last_use_in v / 60) ds
        (none_there (and_entry slack e) next e.minute (counted_with covered c e) (all ++ e ∷ []) es (last_use_in v / 60) ds at (inl broke))
      where
        first : BrokeOf size (and_entry slack e) covered (first_minute next es) (mark_of one) (counted_with covered c e) (all ++ e ∷ []) one.days
        first = broke_of (and_entry slack e) (suc e.minute) (first_minute next es) (counted_with covered c e) (all ++ e ∷ []) one comes.goes least behind

        broke : BrokeOf size (and_entry slack e) covered (first_minute next es) e.minute (counted_with covered c e) (all ++ e ∷ []) ds
        broke = subst (λ (l : List Day). BrokeOf size (and_entry slack e) covered (first_minute next es) e.minute (counted_with covered c e) (all ++ e ∷ []) l) (sym is)
            (subst (λ (m : ℕ). BrokeOf size (and_entry slack e) covered (first_minute next es) m (counted_with covered c e) (all ++ e ∷ []) one.days) at_one first)

    first_moments : (ds : List Day) (v : Vehicles) → AreDays 0 ds → IsKeepMoment size registration odometer 0 e b ds v → ReplaysOf size slack covered next (mark_of b) c all (e ∷ es) (last_use_in v / 60) ds
    first_moments ds v whole moment = ⊎_elim
        (λ old. waits ds v whole (ap (λ (o : Vehicles). last_use_in o / 60) old.0) old.1)
        (λ new. ⊎_elim
        (λ unused. waits ds v whole (before_use registration odometer e.minute b.vehicles v unused) (inr (inr (inr new.0))))
        (λ used. there ds v new.0 (ap (λ (o : Vehicles). last_use_in o / 60) used ∙ at_one))
        new.1)
        moment

    later_moments : (ds : List Day) (v : Vehicles) → ReplaysOf size (and_entry slack e) covered next (mark_of one) (counted_with covered c e) (all ++ e ∷ []) es (last_use_in v / 60) ds → ReplaysOf size slack covered next (mark_of b) c all (e ∷ es) (last_use_in v / 60) ds
    later_moments ds v rest =
        and_first slack next (mark_of b) c all e es (last_use_in v / 60) ds
        (subst (λ (m : ℕ). ReplaysOf size (and_entry slack e) covered next m (counted_with covered c e) (all ++ e ∷ []) es (last_use_in v / 60) ds) at_one rest)

  -- ENTRIES, one after the other, from a book that goes on
  replay_all : (es : List Entry) (slack : Bound) (from next : ℕ) (c : Counted) (all : List Entry) (b : Book) → GoesIn size slack covered from c all b → 16 ≤ slack.bytes → IsBeforeAll es b → AllByRecursion (λ e. 1440 ≤ e.minute) es
      → AllByRecursion (λ e. e.minute < next) es → from ≤ first_minute next es → BeginsLater (mark_of b) es b.days
      → GoesIn size (and_entries slack es) covered next (with_entries covered c es) (all ++ es) (with_owed size registration odometer es b)
  replay_all [] slack from next c all b g least before many up after begins =
      subst (λ (l : List Entry). GoesIn size slack covered next c l b) (sym (append-nil all))
      (record { lives = lives_later size slack covered from next (mark_of b) c b.days after g.lives; until = g.until; lists = g.lists; low = g.low })
  replay_all (e ∷ es) slack from next c all b g least before many up after begins =
      let gap : IsBeforeGapOf e.minute b = (before.0, before.1.0) in
      let are : AreDays 0 b.days = g.lives.rests.ordered in
      subst (λ (l : List Entry). GoesIn size (and_entries (and_entry slack e) es) covered next (with_entries covered (counted_with covered c e) es) l (with_owed size registration odometer es (with_entry size registration odometer 0 b e))) (append_assoc all (e ∷ []) es)
      (replay_all es (and_entry slack e) (suc e.minute) next (counted_with covered c e) (all ++ e ∷ []) (with_entry size registration odometer 0 b e) (clear_comes slack from c all b g least e gap after many.0 begins).goes least
      (with_before size long registration odometer covered b are e gap many.0 es before.1.1) many.1 up.1 (follow_first e.minute next es before.1.1 up.0) (with_later size long registration odometer covered b are e gap many.0 es before.1.1))

  replay_moments : (es : List Entry) (slack : Bound) (from next : ℕ) (c : Counted) (all : List Entry) (b : Book) → GoesIn size slack covered from c all b → 16 ≤ slack.bytes → IsBeforeAll es b → AllByRecursion (λ e. 1440 ≤ e.minute) es
      → AllByRecursion (λ e. e.minute < next) es → from ≤ first_minute next es → BeginsLater (mark_of b) es b.days
      → (ds : List Day) (v : Vehicles) → AreDays 0 ds → IsReplaying size registration odometer es b ds v → ReplaysOf size slack covered next (mark_of b) c all es (last_use_in v / 60) ds
  replay_moments [] slack from next c all b g least before many up after begins ds v whole is =
      none_there slack next (mark_of b) c all [] (last_use_in v / 60) ds (ap (λ (o : Vehicles). last_use_in o / 60) is.1)
      (inl (subst (λ (l : List Day). BrokeOf size slack covered next (mark_of b) c all l) (sym is.0) (broke_of slack from next c all b g least after)))
  replay_moments (e ∷ es) slack from next c all b g least before many up after begins ds v whole (inl moment) =
      let gap : IsBeforeGapOf e.minute b = (before.0, before.1.0) in
      first_moments slack from next c all b least e es (clear_comes slack from c all b g least e gap after many.0 begins) (follow_first e.minute next es before.1.1 up.0) ds v whole moment
  replay_moments (e ∷ es) slack from next c all b g least before many up after begins ds v whole (inr later) =
      let gap : IsBeforeGapOf e.minute b = (before.0, before.1.0) in
      let are : AreDays 0 b.days = g.lives.rests.ordered in
      let comes = clear_comes slack from c all b g least e gap after many.0 begins in
      later_moments slack from next c all b least e es comes (follow_first e.minute next es before.1.1 up.0) ds v
      (replay_moments es (and_entry slack e) (suc e.minute) next (counted_with covered c e) (all ++ e ∷ []) (with_entry size registration odometer 0 b e) comes.goes least
      (with_before size long registration odometer covered b are e gap many.0 es before.1.1) many.1 up.1 (follow_first e.minute next es before.1.1 up.0) (with_later size long registration odometer covered b are e gap many.0 es before.1.1) ds v whole later)

  -- ---- from a first entry on, however it comes

  module _ (slack : Bound) (from next : ℕ) (c : Counted) (all : List Entry) (b : Book) (are : AreDays 0 b.days) (least : 16 ≤ slack.bytes) (e : Entry) (es : List Entry) (comes : Comes slack from c all b e) (before : IsBeforeAll (e ∷ es) b)
      (many : AllByRecursion (λ e. 1440 ≤ e.minute) (e ∷ es)) (up : AllByRecursion (λ e. e.minute < next) (e ∷ es)) where
    gap_there : IsBeforeGapOf e.minute b
    gap_there = (before.0, before.1.0)

    behind_it : suc e.minute ≤ first_minute next es
    behind_it = follow_first e.minute next es before.1.1 up.0

    ready : IsBeforeAll es (with_entry size registration odometer 0 b e)
    ready = with_before size long registration odometer covered b are e gap_there many.0 es before.1.1

    begins_later : BeginsLater (mark_of (with_entry size registration odometer 0 b e)) es (with_entry size registration odometer 0 b e).days
    begins_later = with_later size long registration odometer covered b are e gap_there many.0 es before.1.1

    from_all : GoesIn size (and_entries slack (e ∷ es)) covered next (with_entries covered c (e ∷ es)) (all ++ e ∷ es) (with_owed size registration odometer (e ∷ es) b)
    from_all =
        subst (λ (l : List Entry). GoesIn size (and_entries (and_entry slack e) es) covered next (with_entries covered (counted_with covered c e) es) l (with_owed size registration odometer es (with_entry size registration odometer 0 b e))) (append_assoc all (e ∷ []) es)
        (replay_all es (and_entry slack e) (suc e.minute) next (counted_with covered c e) (all ++ e ∷ []) (with_entry size registration odometer 0 b e) comes.goes least ready many.1 up.1 behind_it begins_later)

    from_moments : (ds : List Day) (v : Vehicles) → AreDays 0 ds → IsReplaying size registration odometer (e ∷ es) b ds v → ReplaysOf size slack covered next (mark_of b) c all (e ∷ es) (last_use_in v / 60) ds
    from_moments ds v whole (inl moment) = first_moments slack from next c all b least e es comes behind_it ds v whole moment
    from_moments ds v whole (inr later) =
        later_moments slack from next c all b least e es comes behind_it ds v
        (replay_moments es (and_entry slack e) (suc e.minute) next (counted_with covered c e) (all ++ e ∷ []) (with_entry size registration odometer 0 b e) comes.goes least ready many.1 up.1 behind_it begins_later ds v whole later)

  -- the book of a cut card, before the entries that it lacks
  abbrev pub Starts : (slack : Bound) (from : ℕ) → Counted → (all es : List Entry) → Book → Type 0
  Starts slack from c all es b =
      (GoesIn size slack covered from c all b × (BeginsLater (mark_of b) es b.days ⊎ (AllBefore (mark_of b / 1440) c.days × (entries_in (begun_on (mark_of b / 1440) ∷ []) all ≡ []))))
      ⊎ (BegunOf size slack covered from (mark_of b) c all b.days × IsOnDay (mark_of b) es)

  module _ (slack : Bound) (from next : ℕ) (c : Counted) (all : List Entry) (b : Book) (are : AreDays 0 b.days) (flat : trimmed (mark_of b) b.days ≡ b.days) (least : 16 ≤ slack.bytes) where
    -- the first of them comes
    first_comes : (e : Entry) (es : List Entry) → IsBeforeGapOf e.minute b → 1440 ≤ e.minute → from ≤ e.minute → Starts slack from c all (e ∷ es) b → Comes slack from c all b e
    first_comes e es gap some after (inl (g, inl begins)) = clear_comes slack from c all b g least e gap after some begins
    first_comes e es gap some after (inl (g, inr fresh)) = by (is_newest (e.minute / 1440) (sizes b.days)) refl
      where
        apart : true ≡ false → ⊥
        apart never = cc

        by : (n : Bool) → is_newest (e.minute / 1440) (sizes b.days) ≡ n → Comes slack from c all b e
        by true is = clear_comes slack from c all b g least e gap after some (λ other. absurd (apart (sym is ∙ other)))
        by false is = ⊎_elim
            (λ lt. clear_comes slack from c all b g least e gap after some (λ other. lt))
            (λ le. fresh_comes slack from c all b g least e gap after some (omega (arith, le, gap.1)) is fresh.0 fresh.1)
            (cases_lt (mark_of b / 1440) (e.minute / 1440))
    first_comes e es gap some after (inr (begun, here)) = begun_comes slack from c all b are least e gap after some here begun flat

    pub start_all : (es : List Entry) → Starts slack from c all es b → IsBeforeAll es b → AllByRecursion (λ e. 1440 ≤ e.minute) es → AllByRecursion (λ e. e.minute < next) es → from ≤ first_minute next es
        → GoesIn size (and_entries slack es) covered next (with_entries covered c es) (all ++ es) (with_owed size registration odometer es b)
    start_all [] (inl (g, begins)) before many up after = replay_all [] slack from next c all b g least before many up after tt
    start_all [] (inr (begun, here)) before many up after = absurd here
    start_all (e ∷ es) starts before many up after =
        from_all slack from next c all b are least e es (first_comes e es (before.0, before.1.0) many.0 after starts) before many up

    pub start_moments : (es : List Entry) → Starts slack from c all es b → IsBeforeAll es b → AllByRecursion (λ e. 1440 ≤ e.minute) es → AllByRecursion (λ e. e.minute < next) es → from ≤ first_minute next es
        → (ds : List Day) (v : Vehicles) → AreDays 0 ds → IsReplaying size registration odometer es b ds v → ReplaysOf size slack covered next (mark_of b) c all es (last_use_in v / 60) ds
    start_moments [] (inl (g, begins)) before many up after ds v whole is = replay_moments [] slack from next c all b g least before many up after tt ds v whole is
    start_moments [] (inr (begun, here)) before many up after ds v whole is = absurd here
    start_moments (e ∷ es) starts before many up after ds v whole is =
        from_moments slack from next c all b are least e es (first_comes e es (before.0, before.1.0) many.0 after starts) before many up ds v whole is

-- ---- minutes

pub up_to : (m next : ℕ) (es : List Entry) → Follow m es → mark_behind m es < next → AllByRecursion (λ e. e.minute < next) es × (m < next)
up_to m next [] follow low = (tt, low)
up_to m next (e ∷ es) follow low =
    let later = up_to e.minute next es follow.1 low in
    ((later.1, later.0), omega (arith, follow.0, later.1))

-- the newest minute behind entries is not earlier than the last of them
pub mark_least : (m n : ℕ) (es : List Entry) → m ≤ n → mark_behind m es ≤ newest_behind n es
mark_least m n [] low = low
mark_least m n (e ∷ es) low = mark_least e.minute (closed_at (Some e)) es (least e)
  where
    least : (e : Entry) → e.minute ≤ closed_at (Some e)
    least e = by (nat_eq (suc e.minute % 1440) 0)
      where
        by : (b : Bool) → e.minute ≤ cond b e.minute (suc e.minute)
        by true = omega arith
        by false = omega arith
