-- A keep on the day of the end mark, where that is later than each day that the string has: a stop leaves it with its first word.
use Rattle.std.proofs.Common.{◌≡◌, ◌⊎◌, inl, inr, ⊎_elim, ℕ, suc, ◌+◌, ◌-◌, ◌*◌, ◌/◌, ◌%◌, ◌<◌, ◌≤◌, max, Bool, true, false, cond, ◌&&◌, Option, Some, None, List, [], ◌∷◌, ◌++◌, length, refl, sym, ◌∙◌, ap, subst, arith}
use Rattle.std.specs.Prelude.{nat_eq, nat_lt, nat_le}
use Rattle.std.proofs.lemmas.Bool.Decides.{nat_tests}
use Rattle.card_by_hand.specs.activity_codec.declared.entries.Entry.{Entry}
use Rattle.card_by_hand.specs.activity_codec.declared.values.Activity.TheVariants.{Rest}
use Rattle.card_by_hand.specs.activity_codec.Words.{word_minute}
use Rattle.card_by_hand.specs.card_model.Days.{Day, AreDays, IsDay}
use Rattle.card_by_hand.specs.card_model.Changes.{Remain, fitting, with_newest, with_word, with_km, with_early, early, cut, new_day, date_of, trimmed}
use Rattle.card_by_hand.proofs.card_model.Retention.{remain_fitting}
use Rattle.card_by_hand.proofs.card_model.Trims.{cut_date}
use Rattle.card_by_hand.specs.card_retention.Expected.{WordDay, Counted, is_newest, with_entry as counted_with}
use Rattle.card_by_hand.specs.card_retention.Shown.{Bound, AllUpTo, AllBefore, Rests, Lives, sizes, size_day}
use Rattle.card_by_hand.specs.card_retention.Entries.{latest, told_by, day_entries, newest_word, newest_minute}
use Rattle.card_by_hand.specs.card_retention.Retains.{entries_in, begun_on}
use Rattle.card_by_hand.proofs.card_retention.Closing.{kept_lives}
use Rattle.card_by_hand.proofs.card_retention.Committing.{Quiet, Olds, told_back, commits}
use Rattle.card_by_hand.proofs.card_retention.Growing.{sizes_append}
use Rattle.card_by_hand.proofs.card_retention.Listing.{Lists, append_in, lists_left}
use Rattle.card_by_hand.proofs.card_retention.ListTrims.{cut_entries}
use Rattle.card_by_hand.proofs.card_retention.Stops.{are_left, stop_none, stop_first}
use Rattle.card_by_hand.proofs.card_retention.Stub.{trimmed_before, trimmed_stub}
use Rattle.card_by_hand.specs.card_session.Books.{Book, mark_of, latest_of, closing_word, gap_closed, entry_word, bare_word, day_words, tells_state, with_change, with_new_day, entered_days, km_after, travelled, with_entry}
use Rattle.card_by_hand.specs.card_session.Moments.{IsBeforeMark, entry_len}
use Rattle.card_by_hand.specs.card_session.Overwriting.{and_entry}
use Rattle.card_by_hand.specs.card_session.Parts.{IsBeforeGapOf}
use Rattle.card_by_hand.proofs.card_session.Alike.{alike_km, are_bare, lives_alike}
use Rattle.card_by_hand.proofs.card_session.Following.{entry_minute, entry_top}
use Rattle.card_by_hand.proofs.card_session.Lasting.{entered_as}
use Rattle.card_by_hand.proofs.card_session.Preparing.{gap_are}
use Rattle.card_by_hand.proofs.card_session.Stopping.{closing_absent}
use Rattle.card_by_hand.proofs.card_session.OnMark.{all_before, before_left, shut_of, newest_of_before, cut_first, shut_first, word_first, bare_tells, none_day, entries_more, day_last, entries_same}
use Rattle.card_by_hand.proofs.card_session.Surviving.{few_bytes}
use Rattle.card_by_hand.specs.tacho_types.declared.texts.Registration.{Registration}
use Rattle.card_string.specs.Carried.{BrokeOf, BegunOf}

above : (m n : ℕ) → n < m → nat_le m n ≡ false
above m n lt = grind (arith, nat_tests)

pub at_most : (m n : ℕ) → m ≤ n → nat_le m n ≡ true
at_most m n le = grind (arith, nat_tests)

pub same : (m n : ℕ) → m ≡ n → nat_eq m n ≡ true
same m n is = grind (arith, nat_tests)

pub apart : (m n : ℕ) → n < m → nat_eq m n ≡ false
apart m n lt = grind (arith, nat_tests)

-- ---- days that are all before the mark's

-- no minute of them is behind the mark
quiet_before : (mark next date : ℕ) (ds : List Day) → AreDays date ds → AllBefore (mark / 1440) (sizes ds) → Quiet mark next ds
quiet_before mark next date [] are b = tt
quiet_before mark next date (d ∷ ds) are b = (λ t low behind before. absurd (omega (arith, low, behind, b.0, are.1.midnight)), quiet_before mark next d.date ds are.2 b.1)

olds_before : (mark next date : ℕ) (ds : List Day) → next / 1440 ≡ mark / 1440 → AreDays date ds → AllBefore (mark / 1440) (sizes ds) → Olds (date_of next) ds
olds_before mark next date [] here are b = tt
olds_before mark next date (d ∷ ds) here are b = (are.1.midnight, omega (arith, b.0, here), olds_before mark next d.date ds here are.2 b.1)

-- ---- a day that begins with an entry

-- before the entry the first word is the latest, and tells none
first_latest : (t : ℕ) (e : Entry) → t < e.minute % 1440 → latest (bare_word ∷ entry_word e ∷ []) t ≡ latest (bare_word ∷ []) t
first_latest t e lt = ap (λ (o : Option ℕ). elim o as (λ _. Option ℕ) [ Some x ↦ Some x | None ↦ cond (nat_le (word_minute bare_word) t) (Some bare_word) None ])
    (ap (λ (b : Bool). cond b (Some (entry_word e)) None) (above (word_minute (entry_word e)) t (omega (arith, lt, entry_minute e))))

entry_latest : (e : Entry) → latest (bare_word ∷ entry_word e ∷ []) (e.minute % 1440) ≡ Some (entry_word e)
entry_latest e = ap (λ (o : Option ℕ). elim o as (λ _. Option ℕ) [ Some x ↦ Some x | None ↦ cond (nat_le (word_minute bare_word) (e.minute % 1440)) (Some bare_word) None ])
    (ap (λ (b : Bool). cond b (Some (entry_word e)) None) (at_most (word_minute (entry_word e)) (e.minute % 1440) (omega (arith, entry_minute e))))

cut_bare : (mark : ℕ) (d : Day) → d.date ≡ date_of mark → d.words ≡ bare_word ∷ [] → (cut mark d).words ≡ bare_word ∷ []
cut_bare mark d at one =
    ap (λ (c : Bool). (cond c (with_early (mark % 1440) d) d).words) (same d.date (date_of mark) at)
    ∙ ap (λ (ws : List ℕ). early (mark % 1440) ws) one
    ∙ ap (λ (c : Bool). cond c (bare_word ∷ []) []) (at_most (word_minute bare_word) (mark % 1440) (first_minute (word_minute bare_word) refl))
  where
    first_minute : (m : ℕ) → m ≡ 0 → m ≤ mark % 1440
    first_minute m is = omega (arith, is)

pub with_last : (f : Day → Day) (ds : List Day) (d : Day) → with_newest f (ds ++ d ∷ []) ≡ ds ++ f d ∷ []
with_last f [] d = refl
with_last f (e ∷ []) d = refl
with_last f (e ∷ g ∷ ds) d = ap (λ (l : List Day). e ∷ l) (with_last f (g ∷ ds) d)

-- behind its first word the mark is the newest minute
pub newest_first : (mark : ℕ) (ds : List Day) (y : Day) → y.date ≡ date_of mark → y.words ≡ bare_word ∷ [] → newest_minute mark (ds ++ y ∷ []) ≡ mark
newest_first mark ds y at words =
    ap (λ (o : Bool). cond o (suc mark) (max mark (newest_word (ds ++ y ∷ [])))) (shut_first mark ds y words) ∙ highest (newest_word (ds ++ y ∷ [])) (omega (arith, word_first ds y words, at))
  where
    highest : (n : ℕ) → n ≤ mark → max mark n ≡ mark
    highest n le = omega (arith, le)

-- ---- days that are all before that of the mark, and the day of an entry behind them

module _ (size : ℕ) (slack : Bound) (covered from : ℕ) (c : Counted) (all : List Entry) (mark : ℕ) (days : List Day) (l : Lives size slack covered from mark c days) (until : AllUpTo mark all) (lists : Lists mark all days) (long : 5544 ≤ size) (least : 16 ≤ slack.bytes)
    (e : Entry) (behind : mark < e.minute) (later : from ≤ e.minute) (here : e.minute / 1440 ≡ mark / 1440) (low : AllBefore (mark / 1440) (sizes days)) (fresh : AllBefore (mark / 1440) c.days) (empty : entries_in (begun_on (mark / 1440) ∷ []) all ≡ []) where
  ordered : AreDays 0 days
  ordered = l.rests.ordered

  -- a stop with the old mark
  pub record Stops (kept : List Day) : Type 0 where
    pub left : BrokeOf size slack covered e.minute mark c all kept ⊎ BegunOf size slack covered e.minute mark c all kept
    pub newest : newest_minute mark (trimmed mark kept) ≡ mark

  -- some of the oldest days are gone
  module _ (n : ℕ) (kept : List Day) (few : (n ≤ 32) × (n ≤ slack.bytes)) (left : Remain (size - n) days kept) where
    are_kept : AreDays 0 kept
    are_kept = are_left (size - n) days kept left ordered

    low_kept : AllBefore (mark / 1440) (sizes kept)
    low_kept = before_left (mark / 1440) (size - n) days kept left low

    lists_kept : Lists mark all kept
    lists_kept = lists_left mark (size - n) 0 all days kept ordered left lists

    stopped_kept : Rests size slack covered e.minute mark c (trimmed mark kept)
    stopped_kept = stop_first size slack covered from mark c days l e.minute later long least (size - n) kept (omega (arith, long, few.0)) (omega (arith, few.1)) left

    pub early_stop : Stops kept
    early_stop = record {
      left = inl (record {
        rests = stopped_kept;
        until = until;
        lists = lists_kept ∙ ap (λ (ds : List Day). entries_in (sizes ds) all) (sym (trimmed_before mark kept are_kept low_kept));
      });
      newest = newest_of_before mark kept are_kept low_kept;
    }

    -- a day that is left with its first word
    pub left_begun : (d y : Day) → d.date ≡ date_of mark → trimmed mark (kept ++ d ∷ []) ≡ kept ++ y ∷ [] → y.date ≡ date_of mark → y.words ≡ bare_word ∷ [] → day_entries mark d ≡ [] → Stops (kept ++ d ∷ [])
    left_begun d y at is date first none = record {
      left = inr (record {
        older = kept;
        young = y;
        is = is;
        date = date;
        first = first;
        rests = subst (λ (ds : List Day). Rests size slack covered e.minute mark c ds) (trimmed_before mark kept are_kept low_kept) stopped_kept;
        before = low_kept;
        fresh = fresh;
        until = until;
        lists = entries_more mark kept d none ∙ lists_kept;
        empty = empty;
      });
      newest = ap (newest_minute mark) is ∙ newest_first mark kept y date first;
    }

    -- the day of the entry stands there
    pub begun_stop : (d : Day) → d.date ≡ date_of e.minute → d.words ≡ bare_word ∷ entry_word e ∷ [] → Stops (kept ++ d ∷ [])
    begun_stop d date two =
        let at : d.date ≡ date_of mark = date ∙ ap (λ (n : ℕ). n * 86400) here in
        left_begun d (cut mark d) at (trimmed_stub mark kept d are_kept low_kept at) (cut_date mark d ∙ at)
        (cut_first mark d bare_word (entry_word e) at two refl (omega (arith, entry_minute e, here, behind)))
        (none_day mark d (λ t le. ap (λ (ws : List ℕ). told_by (d.date / 60 + t) (latest ws t)) two ∙ ap (λ (o : Option ℕ). told_by (d.date / 60 + t) o) (first_latest t e (omega (arith, le, at, here, behind))) ∙ bare_tells (d.date / 60 + t) t))

    -- a day of which a cut leaves the first word
    pub cut_stop : (d : Day) → AreDays 0 (kept ++ d ∷ []) → d.date ≡ date_of mark → (cut mark d).words ≡ bare_word ∷ [] → Stops (kept ++ d ∷ [])
    cut_stop d are at one =
        left_begun d (cut mark d) at (trimmed_stub mark kept d are_kept low_kept at) (cut_date mark d ∙ at) one
        (sym (cut_entries mark d (last_is kept d 0 are)) ∙ none_day mark (cut mark d) (λ t le. ap (λ (ws : List ℕ). told_by ((cut mark d).date / 60 + t) (latest ws t)) one ∙ bare_tells ((cut mark d).date / 60 + t) t))
      where
        last_is : (ds : List Day) (d : Day) (date : ℕ) → AreDays date (ds ++ d ∷ []) → IsDay d
        last_is [] d date are = are.1
        last_is (f ∷ ds) d date are = last_is ds d f.date are.2

    -- its first word does
    pub bare_stop : (d : Day) → d.date ≡ date_of mark → d.words ≡ bare_word ∷ [] → Stops (kept ++ d ∷ [])
    bare_stop d at one =
        left_begun d (cut mark d) at (trimmed_stub mark kept d are_kept low_kept at) (cut_date mark d ∙ at) (cut_bare mark d at one)
        (none_day mark d (λ t le. ap (λ (ws : List ℕ). told_by (d.date / 60 + t) (latest ws t)) one ∙ bare_tells (d.date / 60 + t) t))

    -- once the mark is at the entry
    pub begun_lists : (d : Day) → d.date ≡ date_of e.minute → d.words ≡ bare_word ∷ entry_word e ∷ [] → Lists e.minute (all ++ e ∷ []) (kept ++ d ∷ [])
    begun_lists d date two =
        let on : (size_day d).day ≡ mark / 1440 = omega (arith, date, here) in
        commits mark e kept bare d behind (quiet_before mark e.minute 0 kept are_kept low_kept) (λ t lower above_ below. bare_tells (bare.date / 60 + t) t) (olds_before mark e.minute 0 kept here are_kept low_kept) date refl
        (λ t lower. ap (λ (ws : List ℕ). latest ws t) two ∙ first_latest t e lower)
        (ap (λ (ws : List ℕ). told_by e.minute (latest ws (e.minute % 1440))) two ∙ ap (λ (o : Option ℕ). told_by e.minute o) (entry_latest e) ∙ told_back e e.minute (entry_word e) refl (entry_top e))
        ∙ ap (λ (es : List Entry). es ++ e ∷ []) (entries_more mark kept bare (none_day mark bare (λ t le. bare_tells (bare.date / 60 + t) t)) ∙ lists_kept ∙ sym (entries_same (mark / 1440) (sizes kept) (size_day d) on all empty))
        ∙ ap (λ (es : List Entry). entries_in (sizes kept ++ size_day d ∷ []) all ++ es) (sym (ap (λ (y : Bool). cond y (e ∷ []) []) (day_last (e.minute / 1440) (sizes kept) (size_day d) (same (size_day d).day (e.minute / 1440) (omega (arith, on, here))))))
        ∙ sym (append_in (sizes kept ++ size_day d ∷ []) all (e ∷ []))
        ∙ ap (λ (ws : List WordDay). entries_in ws (all ++ e ∷ [])) (sym (sizes_append kept (d ∷ [])))
      where
        bare : Day
        bare = record { date = date_of e.minute; counter = 0; km = 0; words = bare_word ∷ [] }

  pub none_gone : Stops days
  none_gone = record {
    left = inl (record {
      rests = stop_none size slack covered from mark c days l e.minute later long least;
      until = until;
      lists = lists ∙ ap (λ (ds : List Day). entries_in (sizes ds) all) (sym (trimmed_before mark days ordered low));
    });
    newest = newest_of_before mark days ordered low;
  }

-- ---- the keep that begins the day

module _ (size : ℕ) (slack : Bound) (covered from : ℕ) (c : Counted) (all : List Entry) (b : Book) (l : Lives size slack covered from (mark_of b) c b.days) (until : AllUpTo (mark_of b) all) (lists : Lists (mark_of b) all b.days) (long : 5544 ≤ size) (least : 16 ≤ slack.bytes)
    (e : Entry) (before : IsBeforeGapOf e.minute b) (later : from ≤ e.minute) (here : e.minute / 1440 ≡ mark_of b / 1440) (other : is_newest (e.minute / 1440) (sizes b.days) ≡ false) (fresh : AllBefore (mark_of b / 1440) c.days) (empty : entries_in (begun_on (mark_of b / 1440) ∷ []) all ≡ []) where
  pub after_mark : mark_of b < e.minute
  after_mark = omega (arith, before.1)

  pub low_days : AllBefore (mark_of b / 1440) (sizes b.days)
  low_days = subst (λ (k : ℕ). AllBefore k (sizes b.days)) here (all_before (e.minute / 1440) e.minute 0 b.days l.rests.ordered (omega (arith, before.1)) refl other)

  abbrev pub Stopping : List Day → Type 0
  Stopping kept = Stops size slack covered from c all (mark_of b) b.days l until lists long least e after_mark later here low_days fresh empty kept

  gapped : gap_closed size (mark_of b) e.minute b.days ≡ b.days
  gapped = ap (λ (o : Bool). cond (o && nat_lt (suc (mark_of b)) e.minute) (with_newest (with_word (closing_word (suc (mark_of b)) Rest (latest_of b.days))) (fitting (size - 2) b.days)) b.days) (shut_of (mark_of b) b.days low_days)

  abbrev fewer : List Day
  fewer = fitting (size - 16) b.days

  abbrev young : Day
  young = new_day b.days (date_of e.minute) (bare_word ∷ entry_word e ∷ [])

  words : day_words e ≡ bare_word ∷ entry_word e ∷ []
  words = ap (λ (z : Bool). cond z (entry_word e ∷ []) (bare_word ∷ entry_word e ∷ [])) (apart (e.minute % 1440) 0 (omega (arith, here, after_mark)))

  entered : entered_days size e (gap_closed size (mark_of b) e.minute b.days) ≡ fewer ++ young ∷ []
  entered = ap (λ (ds : List Day). entered_days size e ds) gapped
      ∙ ap (λ (n : Bool). cond n (cond (tells_state e b.days) b.days (with_change size (entry_word e) b.days)) (with_new_day size e b.days)) other
      ∙ ap (λ (ws : List ℕ). fitting (size - (12 + 2 * length ws)) b.days ++ new_day b.days (date_of e.minute) ws ∷ []) words

  km_is : (more : ℕ) → travelled more (entered_days size e (gap_closed size (mark_of b) e.minute b.days)) ≡ fewer ++ with_km (km_after more 0) young ∷ []
  km_is more = ap (λ (ds : List Day). travelled more ds) entered ∙ with_last (λ d. with_km (km_after more d.km) d) fewer young

  oldest_gone : (n : ℕ) (kept : List Day) → n ≤ 16 → Remain (size - n) b.days kept → Stopping kept
  oldest_gone n kept few left = early_stop size slack covered from c all (mark_of b) b.days l until lists long least e after_mark later here low_days fresh empty n kept (omega (arith, few), omega (arith, few, least)) left

  whole : Stopping b.days
  whole = none_gone size slack covered from c all (mark_of b) b.days l until lists long least e after_mark later here low_days fresh empty

  with_day : (d : Day) → d.date ≡ date_of e.minute → d.words ≡ bare_word ∷ entry_word e ∷ [] → Stopping (fewer ++ d ∷ [])
  with_day d date two = begun_stop size slack covered from c all (mark_of b) b.days l until lists long least e after_mark later here low_days fresh empty 16 fewer (omega arith, least) (remain_fitting (size - 16) b.days) d date two

  -- as it was before
  pub was_newest : newest_minute (mark_of b) (trimmed (mark_of b) b.days) ≡ mark_of b
  was_newest = whole.newest

  pub stops : (registration : Registration) (odometer more : ℕ) (kept : List Day) → IsBeforeMark size b (with_entry size registration odometer more b e) e kept → Stopping kept
  stops registration odometer more kept moment = ⊎_elim
      (λ gap. ⊎_elim (λ still. subst Stopping (sym still) whole) (λ gone. oldest_gone 2 kept (omega arith) gone.2) gap)
      (λ rest. ⊎_elim
      (λ there. ⊎_elim
      (λ still. subst Stopping (sym (still ∙ gapped)) whole)
      (λ gone. oldest_gone (entry_len e b.days) kept (few_bytes e b.days) (subst (λ (ds : List Day). Remain (size - entry_len e ds) ds kept) gapped gone.1)) there)
      (λ last. ⊎_elim
      (λ word. subst Stopping (sym (word ∙ entered)) (with_day young refl refl))
      (λ km. subst Stopping (sym (km ∙ km_is more)) (with_day (with_km (km_after more 0) young) refl refl)) last) rest) moment

  -- once the mark has moved
  pub begun_lives : (more : ℕ) → AreDays 0 (travelled more (entered_days size e (gap_closed size (mark_of b) e.minute b.days)))
      → Lives size (and_entry slack e) covered (suc e.minute) e.minute (counted_with covered c e) (travelled more (entered_days size e (gap_closed size (mark_of b) e.minute b.days)))
  begun_lives more there =
      let are : AreDays 0 (gap_closed size (mark_of b) e.minute b.days) = gap_are size long b l.rests.ordered e.minute before in
      lives_alike size (and_entry slack e) covered (suc e.minute) e.minute (counted_with covered c e) (entered_days size e (gap_closed size (mark_of b) e.minute b.days)) (travelled more (entered_days size e (gap_closed size (mark_of b) e.minute b.days)))
      (alike_km more (entered_days size e (gap_closed size (mark_of b) e.minute b.days))) there
      (kept_lives size slack covered from (mark_of b) c b.days l long least e (closing_word (suc (mark_of b)) Rest (latest_of b.days)) (entered_days size e (gap_closed size (mark_of b) e.minute b.days)) later (closing_absent (suc (mark_of b)) Rest (latest_of b.days)) are
      (are_bare more 0 (entered_days size e (gap_closed size (mark_of b) e.minute b.days)) there) (entered_as size e (gap_closed size (mark_of b) e.minute b.days) are))

  pub begun_shows : (more : ℕ) → Lists e.minute (all ++ e ∷ []) (travelled more (entered_days size e (gap_closed size (mark_of b) e.minute b.days)))
  begun_shows more = subst (λ (ds : List Day). Lists e.minute (all ++ e ∷ []) ds) (sym (km_is more))
      (begun_lists size slack covered from c all (mark_of b) b.days l until lists long least e after_mark later here low_days fresh empty 16 fewer (omega arith, least) (remain_fitting (size - 16) b.days) (with_km (km_after more 0) young) refl refl)
