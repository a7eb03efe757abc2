-- Days with an entry by hand more are those that the stated overwriting leaves, where its word counts.
use Rattle.std.proofs.Common.{◌≡◌, ◌⊎◌, ⊎_elim, ℕ, suc, ◌+◌, ◌-◌, ◌*◌, ◌/◌, ◌%◌, ◌<◌, ◌≤◌, max, Bool, true, false, cond, not, Option, Some, None, List, [], ◌∷◌, ◌++◌, length, refl, sym, ◌∙◌, ap, subst, arith}
use Rattle.std.specs.Prelude.{nat_eq, nat_lt, ◌&&◌}
use Rattle.std.proofs.lemmas.Bool.Decides.{nat_tests}
use Rattle.activity_codec.specs.declared.entries.Entry.{Entry}
use Rattle.activity_codec.specs.Words.{word_minute, word_absent}
use Rattle.card_session.specs.card_model.Days.{Day, AreDays, last_word}
use Rattle.card_session.specs.card_model.Changes.{OnNewest, fitting, with_newest, with_word, cut, new_day, date_of, trimmed}
use Rattle.card_session.proofs.card_model.Retention.{remain_fitting}
use Rattle.card_session.proofs.card_model.Trims.{Behind, cut_date, trimmed_word, trimmed_day}
use Rattle.card_session.specs.card_retention.Expected.{WordDay, Counted, more, is_newest, is_closed, closes, expected_days, first_words}
use Rattle.card_session.specs.card_retention.Shown.{Bound, Shows, Left, Grows, Rising, Filled, AllBefore, sizes, size_day, is_open, owing, Rests, EndsAbsent, Sound, Sound.Flat, Sound.Tail, Lives}
use Rattle.card_session.proofs.card_retention.Growing.{shows_word, shows_day, shows_again, shows_left, left_of, left_newest, more_grows, grows_longer, sizes_word, sizes_append}
use Rattle.card_session.proofs.card_retention.Entering.{rising_more, before_more, before_later, before_newest, before_append, before_left, newest_shown, shows_before, rising_sizes, fits_sizes, date_newest, closes_is, on_append, last_append}
use Rattle.card_session.proofs.card_retention.Stops.{open_left, are_left, absent_shut, sound_left}
use Rattle.card_session.proofs.card_retention.Stub.{trimmed_stub}
use Rattle.card_session.specs.Books.{bare_word, with_change}
use Rattle.card_session.specs.ByHand.{words_from, with_day_from, with_word_at}
use Rattle.card_session.proofs.OnMark.{cut_first, shut_first}
use Rattle.hand_model.specs.Counted.{with_by_hand}

-- ---- lists of days with their words

filled_more : (ws : List WordDay) → Filled ws → Filled (more ws)
filled_more [] f = tt
filled_more (w ∷ []) f = (omega arith, tt)
filled_more (w ∷ x ∷ ws) f = (f.0, filled_more (x ∷ ws) f.1)

rising_append : (ws : List WordDay) (v : WordDay) → Rising ws → AllBefore v.day ws → Rising (ws ++ v ∷ [])
rising_append [] v r b = tt
rising_append (w ∷ []) v r b = (b.0, tt)
rising_append (w ∷ x ∷ ws) v r b = (r.0, rising_append (x ∷ ws) v r.1 b.1)

filled_append : (ws : List WordDay) (v : WordDay) → Filled ws → 0 < v.words → Filled (ws ++ v ∷ [])
filled_append [] v f some = (some, tt)
filled_append (w ∷ ws) v f some = (f.0, filled_append ws v f.1 some)

grows_more : (ws vs : List WordDay) → Grows ws vs → Grows ws (more vs)
grows_more [] vs g = tt
grows_more (w ∷ ws) [] g = absurd g
grows_more (w ∷ ws) (v ∷ []) g = (g.0, omega (arith, g.1), rest ws g.2)
  where
    rest : (ws : List WordDay) → Grows ws [] → Grows ws []
    rest ws g = g
grows_more (w ∷ ws) (v ∷ u ∷ vs) g = (g.0, g.1, grows_more ws (u ∷ vs) g.2)

grows_append : (ws vs us : List WordDay) → Grows ws vs → Grows ws (vs ++ us)
grows_append [] vs us g = tt
grows_append (w ∷ ws) [] us g = absurd g
grows_append (w ∷ ws) (v ∷ vs) us g = (g.0, g.1, grows_append ws vs us g.2)

grows_same : (ws : List WordDay) → Grows ws ws
grows_same [] = tt
grows_same (w ∷ ws) = (refl, omega arith, grows_same ws)

-- ---- behind an entry in front of the words of the start no closing word counts

not_lt : (m n : ℕ) → n ≤ m → nat_lt m n ≡ false
not_lt m n le = grind (arith, nat_tests)

never_closed : (covered n : ℕ) (p : Entry) → p.minute < covered → is_closed covered p n ≡ false
never_closed covered n p lt =
    ap (λ (b : Bool). not (nat_eq (suc p.minute % 1440) 0) && (b && nat_lt (suc p.minute) n)) (not_lt covered (suc p.minute) (omega (arith, lt)))
    ∙ by (not (nat_eq (suc p.minute % 1440) 0))
  where
    by : (b : Bool) → (b && false) ≡ false
    by true = refl
    by false = refl

closes_alike : (covered n m : ℕ) (o : Option Entry) (ws : List WordDay) → ((p : Entry) → o ≡ Some p → p.minute < covered) → closes covered o n ws ≡ closes covered o m ws
closes_alike covered n m None ws low = refl
closes_alike covered n m (Some p) ws low =
    ap (λ (b : Bool). cond b (more ws) ws) (never_closed covered n p (low p refl)) ∙ sym (ap (λ (b : Bool). cond b (more ws) ws) (never_closed covered m p (low p refl)))

-- ---- a word at a minute, of no entry: no earlier than it may come; or the end mark is in front of words of the start, to which a cut has left it, and it comes on no earlier day

module _ (size : ℕ) (slack : Bound) (covered from mark : ℕ) (c : Counted) (days : List Day) (l : Lives size slack covered from mark c days) (minute w : ℕ)
    (at : word_minute w ≡ minute % 1440) (absent : word_absent w ≡ true) (mark_before : mark < minute) (later : (from ≤ minute) ⊎ ((mark < covered) × (from / 1440 ≤ minute / 1440))) (to : ℕ) (from_to : from ≤ to) (below : minute < to)
    (shut : is_open mark days ≡ false) (long : 5544 ≤ size) (least : 16 ≤ slack.bytes) where
  abbrev r : Rests size slack covered from mark c days
  r = l.rests

  abbrev x : List WordDay
  x = closes covered c.before minute c.days

  abbrev day : ℕ
  day = minute / 1440

  abbrev young : WordDay
  young = record { day = minute / 1440; words = first_words minute }

  x_rising : Rising x
  x_rising = closes_is Rising covered c.before minute c.days r.rising (rising_more c.days r.rising)

  x_filled : Filled x
  x_filled = closes_is Filled covered c.before minute c.days r.filled (filled_more c.days r.filled)

  top_low : r.top / 1440 ≤ minute / 1440
  top_low = ⊎_elim (λ le. omega (arith, r.next, le)) (λ cut. omega (arith, r.next, cut.1)) later

  x_low : AllBefore (suc (r.top / 1440)) x
  x_low = closes_is (λ k. AllBefore (suc (r.top / 1440)) k) covered c.before minute c.days r.low (before_more (suc (r.top / 1440)) c.days r.low)

  x_before : AllBefore (suc day) x
  x_before = before_later (suc (r.top / 1440)) (suc day) x (omega (arith, top_low)) x_low

  -- the days before it, with no closing word to come
  now : Shows size slack x (sizes days)
  now = ⊎_elim
      (λ le. flat minute (r.shows minute le))
      (λ cut.
      subst (λ (k : List WordDay). Shows size slack k (sizes days)) (closes_alike covered from minute c.before c.days (λ p is. omega (arith, (r.entry p is).1, cut.0)))
      (flat from (r.shows from (omega arith))))
      later
    where
      flat : (n : ℕ) → Shows size slack (expected_days covered n c) (owing n mark days) → Shows size slack (closes covered c.before n c.days) (sizes days)
      flat n shows = subst (λ (o : Bool). Shows size slack (closes covered c.before n c.days) (cond (o && nat_lt (suc mark) n) (more (sizes days)) (sizes days))) shut shows

  few : first_words minute ≤ 2
  few = by (nat_eq (minute % 1440) 0)
    where
      by : (b : Bool) → cond b 1 2 ≤ 2
      by true = omega arith
      by false = omega arith

  some : 0 < first_words minute
  some = by (nat_eq (minute % 1440) 0)
    where
      by : (b : Bool) → 0 < cond b 1 2
      by true = omega arith
      by false = omega arith

  count : length (words_from minute w) ≡ first_words minute
  count = by (nat_eq (minute % 1440) 0)
    where
      by : (b : Bool) → length (cond b (w ∷ []) (8192 ∷ w ∷ [])) ≡ cond b 1 2
      by true = refl
      by false = refl

  last_from : last_word (words_from minute w) ≡ w
  last_from = by (nat_eq (minute % 1440) 0)
    where
      by : (b : Bool) → last_word (cond b (w ∷ []) (8192 ∷ w ∷ [])) ≡ w
      by true = refl
      by false = refl

  -- what is expected with it
  abbrev next : Counted
  next = with_by_hand covered c minute

  next_is : (P : List WordDay → Type 0) → P (more x) → (is_newest day x ≡ false → P (x ++ young ∷ [])) → P next.days
  next_is P one new = by (is_newest day x) refl
    where
      by : (b : Bool) → is_newest day x ≡ b → P (cond b (more x) (x ++ young ∷ []))
      by true is = one
      by false is = new is

  next_rising : Rising next.days
  next_rising = next_is Rising (rising_more x x_rising) (λ new. rising_append x young x_rising (before_newest day x x_rising x_before new))

  next_filled : Filled next.days
  next_filled = next_is Filled (filled_more x x_filled) (λ new. filled_append x young x_filled some)

  next_low : AllBefore (suc day) next.days
  next_low = next_is (λ k. AllBefore (suc day) k) (before_more (suc day) x x_before) (λ new. before_append (suc day) x young x_before (omega arith))

  -- ---- on the newest day

  module _ (newest : is_newest (minute / 1440) (sizes days) ≡ true) where
    abbrev kept : List Day
    kept = fitting (size - 2) days

    newest_x : is_newest day x ≡ true
    newest_x = newest_shown size slack day x (sizes days) x_rising x_before newest now

    kept_shows : Shows size slack x (sizes kept)
    kept_shows = shows_left size slack (size - 2) x (sizes days) (sizes kept) (omega (arith, long, least)) (fits_sizes 0 (size - 2) days (omega (arith, long)) r.ordered).0 (left_of (size - 2) days kept (remain_fitting (size - 2) days)) x_rising now

    kept_newest : is_newest day (sizes kept) ≡ true
    kept_newest = left_newest (size - 2) day (sizes days) (sizes kept) (fits_sizes 0 (size - 2) days (omega (arith, long)) r.ordered).0 (left_of (size - 2) days kept (remain_fitting (size - 2) days)) ∙ newest

    on_shows : Shows size slack next.days (sizes (with_newest (with_word w) kept))
    on_shows =
        subst (λ (b : Bool). Shows size slack (cond b (more x) (x ++ young ∷ [])) (sizes (with_newest (with_word w) kept))) (sym newest_x)
        (subst (λ (k : List WordDay). Shows size slack (more x) k) (sym (sizes_word w kept)) (shows_word size slack day x (sizes kept) x_rising newest_x kept_newest kept_shows))

    kept_are : AreDays 0 kept
    kept_are = are_left (size - 2) days kept (remain_fitting (size - 2) days) r.ordered

    on_as : (P Q : Day → Type 0) (ds : List Day) → ((d : Day) → P d → Q d) → OnNewest P ds → OnNewest Q ds
    on_as P Q [] weaker on = absurd on
    on_as P Q (d ∷ []) weaker on = weaker d on
    on_as P Q (d ∷ e ∷ ds) weaker on = on_as P Q (e ∷ ds) weaker on

    behind : OnNewest (Behind mark w) kept
    behind =
        on_as (λ d. d.date ≡ day * 86400) (Behind mark w) kept (λ d date. record { day = omega (arith, date, mark_before); minute = λ same. omega (arith, date, same, mark_before, at) })
        (date_newest day 0 kept kept_are kept_newest)

    on_ends : (ds : List Day) → OnNewest (Behind mark w) ds → EndsAbsent (with_newest (with_word w) ds)
    on_ends [] on = absurd on
    on_ends (d ∷ []) on = ap word_absent (last_append d.words w) ∙ absent
    on_ends (d ∷ e ∷ []) on = ap word_absent (last_append e.words w) ∙ absent
    on_ends (d ∷ e ∷ f ∷ ds) on = on_ends (e ∷ f ∷ ds) on

    on_grows : (n : ℕ) → Sound mark r.top c.before kept → Grows (owing n mark (trimmed mark (with_newest (with_word w) kept))) (sizes (with_newest (with_word w) kept))
    on_grows n sound =
        subst (λ (t : List Day). Grows (owing n mark t) (sizes (with_newest (with_word w) kept))) (sym (trimmed_word mark w kept behind))
        (subst (λ (k : List WordDay). Grows (owing n mark (trimmed mark kept)) k) (sym (sizes_word w kept)) (by sound))
      where
        due : (b : Bool) → Grows (cond b (more (sizes kept)) (sizes kept)) (more (sizes kept))
        due true = grows_same (more (sizes kept))
        due false = more_grows (sizes kept)

        by : Sound mark r.top c.before kept → Grows (owing n mark (trimmed mark kept)) (more (sizes kept))
        by (Flat same) = subst (λ (t : List Day). Grows (owing n mark t) (more (sizes kept))) (sym same) (due (is_open mark kept && nat_lt (suc mark) n))
        by (Tail ends fewer apart) = grows_more (owing n mark (trimmed mark kept)) (sizes kept) (fewer n)

  -- ---- or with its day

  module _ (other : is_newest (minute / 1440) (sizes days) ≡ false) where
    abbrev room : ℕ
    room = size - (12 + 2 * length (words_from minute w))

    abbrev older : List Day
    older = fitting (size - (12 + 2 * length (words_from minute w))) days

    abbrev begun : Day
    begun = new_day days (date_of minute) (words_from minute w)

    abbrev its : WordDay
    its = record { day = minute / 1440; words = length (words_from minute w) }

    its_is : size_day begun ≡ its
    its_is = ap (λ (n : ℕ). let d : WordDay = record { day = n; words = length (words_from minute w) } in d) (omega arith)

    fits : (Shows size slack x (sizes older)) × AllBefore day (sizes older)
    fits =
        let left : Left room (sizes days) (sizes older) = left_of room days older (remain_fitting room days) in (
          shows_left size slack room x (sizes days) (sizes older) (omega (arith, count, few, least)) (fits_sizes 0 room days (omega (arith, long, count, few)) r.ordered).0 left x_rising now,
          before_left day room (sizes days) (sizes older) left (before_newest day (sizes days) (rising_sizes 0 days r.ordered) (shows_before size slack (suc day) x (sizes days) x_before now) other),
        )

    begun_shows : Shows size slack next.days (sizes older ++ its ∷ [])
    begun_shows = by (is_newest day x) refl
      where
        by : (b : Bool) → is_newest day x ≡ b → Shows size slack (cond b (more x) (x ++ young ∷ [])) (sizes older ++ its ∷ [])
        by true is = shows_again size slack x (sizes older) its x_rising x_filled is fits.1 (omega (arith, count, few)) fits.0
        by false is = shows_day size slack x (sizes older) young its (record { day = refl; words = omega (arith, count) }) (before_newest day x x_rising x_before is) fits.0

    day_shows : Shows size slack next.days (sizes (older ++ begun ∷ []))
    day_shows =
        subst (λ (k : List WordDay). Shows size slack next.days k) (sym (sizes_append older (begun ∷ []) ∙ ap (λ (d : WordDay). sizes older ++ d ∷ []) its_is)) begun_shows

    day_ends : EndsAbsent (older ++ begun ∷ [])
    day_ends = on_append (λ d. word_absent (last_word d.words) ≡ true) older begun (ap word_absent last_from ∙ absent)

    older_are : AreDays 0 older
    older_are = are_left room days older (remain_fitting room days) r.ordered

    shut_older : is_open mark older ≡ false
    shut_older = open_left mark room days older (fits_sizes 0 room days (omega (arith, long, count, few)) r.ordered).0 (remain_fitting room days) ∙ shut

    -- a day behind that of the mark
    later_grows : mark / 1440 < minute / 1440 → (n : ℕ) → Sound mark r.top c.before older → Grows (owing n mark (trimmed mark (older ++ begun ∷ []))) (sizes (older ++ begun ∷ []))
    later_grows lt n sound =
        subst (λ (t : List Day). Grows (owing n mark t) (sizes (older ++ begun ∷ []))) (sym (trimmed_day mark older begun (omega (arith, lt))))
        (subst (λ (k : List WordDay). Grows (owing n mark (trimmed mark older)) k) (sym (sizes_append older (begun ∷ []))) (by sound))
      where
        by : Sound mark r.top c.before older → Grows (owing n mark (trimmed mark older)) (sizes older ++ sizes (begun ∷ []))
        by (Flat same) =
            subst (λ (t : List Day). Grows (owing n mark t) (sizes older ++ sizes (begun ∷ []))) (sym same)
            (subst (λ (o : Bool). Grows (cond (o && nat_lt (suc mark) n) (more (sizes older)) (sizes older)) (sizes older ++ sizes (begun ∷ []))) (sym shut_older) (grows_longer (sizes older) (sizes (begun ∷ []))))
        by (Tail ends fewer apart) = grows_append (owing n mark (trimmed mark older)) (sizes older) (sizes (begun ∷ [])) (fewer n)

    -- that of the mark itself, of which a cut leaves the first word
    same_grows : minute / 1440 ≡ mark / 1440 → (n : ℕ) → Grows (owing n mark (trimmed mark (older ++ begun ∷ []))) (sizes (older ++ begun ∷ []))
    same_grows here n =
        subst (λ (t : List Day). Grows (owing n mark t) (sizes (older ++ begun ∷ []))) (sym (trimmed_stub mark older begun older_are (subst (λ (k : ℕ). AllBefore k (sizes older)) here fits.1) date))
        (subst (λ (o : Bool). Grows (cond (o && nat_lt (suc mark) n) (more (sizes (older ++ cut mark begun ∷ []))) (sizes (older ++ cut mark begun ∷ []))) (sizes (older ++ begun ∷ []))) (sym (shut_first mark older (cut mark begun) first))
        (subst (λ (k : List WordDay). Grows k (sizes (older ++ begun ∷ []))) (sym (sizes_append older (cut mark begun ∷ [])))
        (subst (λ (k : List WordDay). Grows (sizes older ++ sizes (cut mark begun ∷ [])) k) (sym (sizes_append older (begun ∷ []))) (one_shorter (sizes older)))))
      where
        date : begun.date ≡ date_of mark
        date = ap (λ (k : ℕ). k * 86400) here

        not_zero : (k : ℕ) → 0 < k → nat_eq k 0 ≡ false
        not_zero k lt = grind (arith, nat_tests)

        two : words_from minute w ≡ bare_word ∷ w ∷ []
        two = ap (λ (b : Bool). cond b (w ∷ []) (bare_word ∷ w ∷ [])) (not_zero (minute % 1440) (omega (arith, here, mark_before)))

        first : (cut mark begun).words ≡ bare_word ∷ []
        first = cut_first mark begun bare_word w date two refl (omega (arith, at, here, mark_before))

        shorter : length (cut mark begun).words ≤ length begun.words
        shorter = omega (arith, ap (λ (l : List ℕ). length l) first, count, some)

        same_day : begun.date / 86400 ≡ (cut mark begun).date / 86400
        same_day = ap (λ (k : ℕ). k / 86400) (sym (cut_date mark begun))

        one_shorter : (ws : List WordDay) → Grows (ws ++ sizes (cut mark begun ∷ [])) (ws ++ sizes (begun ∷ []))
        one_shorter [] = (same_day, shorter, tt)
        one_shorter (v ∷ ws) = (refl, omega arith, one_shorter ws)

    day_grows : (n : ℕ) → Sound mark r.top c.before older → Grows (owing n mark (trimmed mark (older ++ begun ∷ []))) (sizes (older ++ begun ∷ []))
    day_grows n sound = by (nat_lt (mark / 1440) (minute / 1440)) refl
      where
        lt_of : (m k : ℕ) → nat_lt m k ≡ true → m < k
        lt_of m k is = grind (arith, nat_tests)

        le_of : (m k : ℕ) → nat_lt m k ≡ false → k ≤ m
        le_of m k is = grind (arith, nat_tests)

        by : (b : Bool) → nat_lt (mark / 1440) (minute / 1440) ≡ b → Grows (owing n mark (trimmed mark (older ++ begun ∷ []))) (sizes (older ++ begun ∷ []))
        by true is = later_grows (lt_of (mark / 1440) (minute / 1440) is) n sound
        by false is = same_grows (omega (arith, le_of (mark / 1440) (minute / 1440) is, mark_before)) n

  -- ---- whole

  lives_of : (after : List Day) → AreDays 0 after → EndsAbsent after → Shows size slack next.days (sizes after) → ((n : ℕ) → Grows (owing n mark (trimmed mark after)) (sizes after)) → Lives size slack covered to mark next after
  lives_of after ordered ends shows grows = record {
    rests = record {
      ordered = ordered;
      rising = next_rising;
      filled = next_filled;
      top = max r.top minute;
      words = omega (arith, r.words);
      entry = λ p is. absurd (none p is);
      low = before_later (suc (minute / 1440)) (suc (max r.top minute / 1440)) (with_by_hand covered c minute).days (omega arith) next_low;
      next = omega (arith, r.next, from_to, below);
      later = omega (arith, mark_before, below);
      by_mark = r.by_mark;
      tells = λ p is top. absurd (none p is);
      shows = λ n le. subst (λ (o : Bool). Shows size slack next.days (cond (o && nat_lt (suc mark) n) (more (sizes after)) (sizes after))) (sym (absent_shut mark after ends)) shows;
    };
    sound = Tail ends grows (λ p is. absurd (none p is));
  }
    where
      none : (p : Entry) → None ≡ Some p → ⊥
      none p is = cc

  -- WITH AN ENTRY BY HAND the days live on, its word counted
  pub counted_lives : AreDays 0 (with_word_at size minute w days) → Lives size slack covered to mark (with_by_hand covered c minute) (with_word_at size minute w days)
  counted_lives ordered = by (is_newest (minute / 1440) (sizes days)) refl ordered
    where
      by : (n : Bool) → is_newest (minute / 1440) (sizes days) ≡ n → AreDays 0 (cond n (with_change size w days) (with_day_from size minute w days))
          → Lives size slack covered to mark (with_by_hand covered c minute) (cond n (with_change size w days) (with_day_from size minute w days))
      by true is are =
          lives_of (with_change size w days) are (on_ends is (fitting (size - 2) days) (behind is)) (on_shows is)
          (λ n. on_grows is n (sound_left mark r.top (size - 2) 0 c.before days (fitting (size - 2) days) (fits_sizes 0 (size - 2) days (omega (arith, long)) r.ordered).0 r.ordered (remain_fitting (size - 2) days) l.sound))
      by false is are =
          lives_of (with_day_from size minute w days) are (day_ends is) (day_shows is)
          (λ n. day_grows is n (sound_left mark r.top (size - (12 + 2 * length (words_from minute w))) 0 c.before days (fitting (size - (12 + 2 * length (words_from minute w))) days)
          (fits_sizes 0 (size - (12 + 2 * length (words_from minute w))) days (omega (arith, long, count, few)) r.ordered).0 r.ordered (remain_fitting (size - (12 + 2 * length (words_from minute w))) days) l.sound))
