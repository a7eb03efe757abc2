-- The days as they are written up to the last-kept minute, at each moment of a `keep`.
use Rattle.std.proofs.Common.{◌≡◌, ◌≢◌, ◌⊎◌, inl, inr, ⊎_elim, ℕ, zero, suc, ◌+◌, ◌-◌, ◌*◌, ◌/◌, ◌%◌, ◌<◌, ◌≤◌, Bool, true, false, cond, List, [], ◌∷◌, ◌++◌, length, drop, map, filter, refl, sym, ◌∙◌, ap, subst, arith, length-append, append_assoc, lit≤}
use Rattle.std.specs.Prelude.{◌==◌, nat_le}
use Rattle.std.proofs.lemmas.Bool.{cases_lt}
use Rattle.std.proofs.lemmas.Bool.Decides.{nat_tests}
use Rattle.std.proofs.lemmas.List.{append-nil, map-append}
use Rattle.std.proofs.lemmas.List.Elements.{filter-append}
use Rattle.gated_ring.specs.Ring.{newest_of}
use Rattle.unit_model.specs.declared.layout.TheConstants.{DAY_SLOTS}
use Rattle.unit_model.specs.Days.{StoredDay, Each, word_minute, word_by, bare, day_of, day_kept, days_kept, state_at, UnitMinute}
use Rattle.unit_model.specs.Image.{last_kept, unit_days, slot_date, slot_odometer, slot_words}
use Rattle.unit_model.specs.Changes.{changes, new_words, closing_words, first_states, further_words}
use Rattle.unit_model.proofs.KeptDays.{kept_later, kept_now}
use Rattle.unit_model.proofs.States.{minute_of, each_append, minutes_by, new_minutes}
use Rattle.unit_model.proofs.Slots.{day_at, day_is, all_days}
use Rattle.unit_minutes.specs.Coming.{Coming}
use Rattle.unit_minutes.specs.Image.{Notes, IsNewestDay, Agrees}
use Rattle.unit_minutes.specs.Keeping.{IsBehindLastKept, IsKeeping}
use Rattle.unit_minutes.specs.DaysWith.{day_with, closed_day, begun_day, days_with, last_day_closed, opened_day, AreTurning, AreBetween, written_days, IsKeepingWritten}
use Rattle.unit_minutes.proofs.DaysWith.{with_last, with_same, with_next, closed_last, newest_all, drop_push}
use Rattle.unit_minutes.proofs.Besides.{few_slots}

-- ---- which days stay

-- a day is earlier than that of a minute, or has no word later than it
abbrev IsWithin : ℕ → StoredDay → Type 0
IsWithin k d = (day_of d < k / 1440) ⊎ ((day_of d ≡ k / 1440) × Each (λ w. word_minute w ≤ k % 1440) d.words)

kept-both : (k : ℕ) (a b : List StoredDay) → days_kept k (a ++ b) ≡ days_kept k a ++ days_kept k b
kept-both k a b =
    ap (map (day_kept k)) (filter-append (λ d. nat_le (day_of d) (k / 1440)) a b)
    ∙ map-append (day_kept k) (filter (λ d. nat_le (day_of d) (k / 1440)) a) (filter (λ d. nat_le (day_of d) (k / 1440)) b)

-- the last-kept minute's day behind earlier ones
pub today-stays : (k : ℕ) (older : List StoredDay) (d : StoredDay) → Each (λ e. day_of e < k / 1440) older → day_of d ≡ k / 1440 → Each (λ w. word_minute w ≤ k % 1440) d.words → days_kept k (older ++ d ∷ []) ≡ older ++ d ∷ []
today-stays k older d earlier now low =
    ap (λ (ws : List ℕ). days_kept k (older ++ record { date = d.date; odometer = d.odometer; words = ws } ∷ [])) (sym (append-nil d.words))
    ∙ kept_now k older d.date d.odometer d.words [] now earlier low tt

one-stays : (k : ℕ) (d : StoredDay) → IsWithin k d → days_kept k (d ∷ []) ≡ d ∷ []
one-stays k d (inl earlier) =
    let on : nat_le (day_of d) (k / 1440) ≡ true = grind (arith, nat_tests, earlier) in
    let there : (day_of d == k / 1440) ≡ false = grind (arith, nat_tests, earlier) in
    ap (λ (b : Bool). map (day_kept k) (cond b (d ∷ []) [])) on
    ∙ ap (λ (b : Bool). cond b (record { date = d.date; odometer = d.odometer; words = filter (λ w. nat_le (word_minute w) (k % 1440)) d.words }) d ∷ []) there
one-stays k d (inr today) = today-stays k [] d tt today.0 today.1

pub all-stay : (k : ℕ) (ds : List StoredDay) → Each (IsWithin k) ds → days_kept k ds ≡ ds
all-stay k [] all = refl
all-stay k (d ∷ ds) all = kept-both k (d ∷ []) ds ∙ (λ i. one-stays k d all.0 i ++ all-stay k ds all.1 i)

each-drop : (P : StoredDay → Type 0) (n : ℕ) (ds : List StoredDay) → Each P ds → Each P (drop n ds)
each-drop P zero ds all = all
each-drop P (suc n) [] all = tt
each-drop P (suc n) (d ∷ ds) all = each-drop P n ds all.1

earlier-within : (k m : ℕ) → k ≤ m → (ds : List StoredDay) → Each (λ d. day_of d < k / 1440) ds → Each (IsWithin m) ds
earlier-within k m le [] all = tt
earlier-within k m le (d ∷ ds) all = (inl (let low = all.0 in omega (arith, low, le)), earlier-within k m le ds all.1)

-- ---- an image with which notes agree

-- The last of these days is that of the last-kept minute, behind earlier ones, and has no later word.
record HasToday (k : ℕ) (ds : List StoredDay) : Type 0 where
  some : 0 < k
  older : List StoredDay
  today : StoredDay
  are : ds ≡ older ++ today ∷ []
  earlier : Each (λ d. day_of d < k / 1440) older
  now : day_of today ≡ k / 1440
  low : Each (λ w. word_minute w ≤ k % 1440) today.words

-- there is none before the first minute
abbrev IsClean : ℕ → List StoredDay → Type 0
IsClean k ds = ((k ≡ 0) × (ds ≡ [])) ⊎ HasToday k ds

agreed-clean : (j : Notes) (x : List ℕ) → Agrees j x → IsClean j.kept (unit_days x)
agreed-clean j x agrees = ⊎_elim
    (λ some.
    let js : List ℕ = (agrees.newest some).0 in
    let n : IsNewestDay j x js = (agrees.newest some).1 in
    let d : day_at x j.index ≡ record { date = slot_date x j.index; odometer = slot_odometer x j.index; words = slot_words x j.index j.count } = day_is x j.index j.count n.count n.few in
    let whole : 86400 * (j.kept / 1440) / 86400 ≡ j.kept / 1440 = omega arith in
    inr (record {
      some = some;
      older = map (day_at x) js;
      today = day_at x j.index;
      are = all_days x ∙ ap (map (day_at x)) n.order_is ∙ map-append (day_at x) js (j.index ∷ []);
      earlier = n.earlier;
      now = ap day_of d ∙ ap (λ (s : ℕ). s / 86400) n.date ∙ whole;
      low = subst (λ (e : StoredDay). Each (λ w. word_minute w ≤ j.kept % 1440) e.words) (sym d) n.low;
    }))
    (λ none. let zero_kept : j.kept ≡ 0 = omega (arith, none) in inl (zero_kept, all_days x ∙ ap (map (day_at x)) (agrees.none zero_kept)))
    (cases_lt 0 j.kept)

clean-within : (k : ℕ) (ds : List StoredDay) → IsClean k ds → Each (IsWithin k) ds
clean-within k ds (inl none) = subst (Each (IsWithin k)) (sym none.1) tt
clean-within k ds (inr h) = subst (Each (IsWithin k)) (sym h.are) (each_append (IsWithin k) h.older (h.today ∷ []) (earlier-within k k (omega arith) h.older h.earlier) (inr (h.now, h.low), tt))

-- all its days are written so
pub agreed-written : (j : Notes) (x : List ℕ) → Agrees j x → written_days x ≡ unit_days x
agreed-written j x agrees = ap (λ (k : ℕ). days_kept k (unit_days x)) agrees.kept ∙ all-stay j.kept (unit_days x) (clean-within j.kept (unit_days x) (agreed-clean j x agrees))

-- ---- the words of a minute more

module _ (k : ℕ) (m : Coming) (later : k < m.minute) (day : 1440 ≤ m.minute) (short : m.bits.driver < 16) (short' : m.bits.codriver < 16) where
  abbrev t : ℕ
  t = m.minute % 1440

  new-late : m.minute / 1440 ≡ k / 1440 → (d c : ℕ) → Each (λ w. k % 1440 < word_minute w) (new_words (k % 1440 + 1) t d c m.bits.driver m.bits.codriver)
  new-late same d c = new_minutes (k % 1440 + 1) t d c m.bits.driver m.bits.codriver (omega (arith, same, later)) (omega arith) short short' (λ u. k % 1440 < u) (omega arith) (omega (arith, same, later))

  new-low : m.minute / 1440 ≡ k / 1440 → (d c : ℕ) → Each (λ w. word_minute w ≤ t) (new_words (k % 1440 + 1) t d c m.bits.driver m.bits.codriver)
  new-low same d c = new_minutes (k % 1440 + 1) t d c m.bits.driver m.bits.codriver (omega (arith, same, later)) (omega arith) short short' (λ u. u ≤ t) (omega (arith, same, later)) (omega arith)

  changes-all : (P : ℕ → Type 0) (u d c d' c' : ℕ) → u < 1440 → d' < 16 → c' < 16 → P u → Each (λ w. P (word_minute w)) (changes u d c d' c')
  changes-all P u d c d' c' low s1 s2 holds = minutes_by 0 0 0 0 0 0 (omega arith) (omega arith) (omega arith) (omega arith) P u d c d' c' low s1 s2 holds

  closing-late : (d c : ℕ) → Each (λ w. k % 1440 < word_minute w) (closing_words (k % 1440 + 1) d c)
  closing-late d c = by (k % 1440 + 1 == 1440) refl
    where
      by : (b : Bool) → (k % 1440 + 1 == 1440) ≡ b → Each (λ w. k % 1440 < word_minute w) (cond b [] (changes (k % 1440 + 1) d c bare bare))
      by true is = tt
      by false is = let isnt : k % 1440 + 1 ≢ 1440 = grind (arith, nat_tests, is) in changes-all (λ u. k % 1440 < u) (k % 1440 + 1) d c bare bare (omega (arith, isnt)) (omega arith) (omega arith) (omega arith)

  word-first : (s e : ℕ) → s < 2 → e < 16 → word_minute (word_by s e 0) ≤ t
  word-first s e low s1 = omega (arith, minute_of s e 0 low s1 (lit≤ tt))

  firsts-low : (d c : ℕ) → d < 16 → c < 16 → Each (λ w. word_minute w ≤ t) (first_states t d c)
  firsts-low d c s1 s2 = by (t == 0)
    where
      by : (b : Bool) → Each (λ w. word_minute w ≤ t) (cond b (word_by 0 d 0 ∷ word_by 1 c 0 ∷ []) (word_by 0 bare 0 ∷ word_by 1 bare 0 ∷ []))
      by true = (word-first 0 d (omega arith) s1, (word-first 1 c (omega arith) s2, tt))
      by false = (word-first 0 bare (omega arith) (omega arith), (word-first 1 bare (omega arith) (omega arith), tt))

  further-low : (d c : ℕ) → d < 16 → c < 16 → Each (λ w. word_minute w ≤ t) (further_words t d c)
  further-low d c s1 s2 = by (t == 0)
    where
      by : (b : Bool) → Each (λ w. word_minute w ≤ t) (cond b [] (changes t bare bare d c))
      by true = tt
      by false = changes-all (λ u. u ≤ t) t bare bare d c (omega arith) s1 s2 (omega arith)

  begun-day : day_of (begun_day m) ≡ m.minute / 1440
  begun-day = omega arith

  begun-within : IsWithin m.minute (begun_day m)
  begun-within = inr (
    begun-day,
    each_append (λ w. word_minute w ≤ t) (first_states t m.bits.driver m.bits.codriver) (further_words t m.bits.driver m.bits.codriver)
        (firsts-low m.bits.driver m.bits.codriver short short') (further-low m.bits.driver m.bits.codriver short short'),
  )

  begun-later : k / 1440 < m.minute / 1440 → k / 1440 < day_of (begun_day m)
  begun-later lt = omega (arith, lt, begun-day)

  opened-later : k / 1440 < m.minute / 1440 → k / 1440 < day_of (opened_day m)
  opened-later lt = let same : day_of (opened_day m) ≡ m.minute / 1440 = omega arith in omega (arith, lt, same)

  -- ---- behind a last-kept minute
  module _ (ds : List StoredDay) (h : HasToday k ds) where
    abbrev older : List StoredDay
    older = h.older

    abbrev d : StoredDay
    d = h.today

    -- the day with the minute, and closed
    abbrev more : StoredDay
    more = day_with k m d

    abbrev closed : StoredDay
    closed = closed_day k d

    abbrev shut : List StoredDay
    shut = older ++ closed ∷ []

    shut-are : last_day_closed k ds ≡ shut
    shut-are = ap (last_day_closed k) h.are ∙ closed_last k older d

    with-here : m.minute / 1440 ≡ k / 1440 → days_with k m ds ≡ older ++ more ∷ []
    with-here same = ap (days_with k m) h.are ∙ with_last k m older d ∙ ap (λ (l : List StoredDay). older ++ l) (with_same k m d (h.now ∙ sym same))

    with-there : k / 1440 < m.minute / 1440 → days_with k m ds ≡ shut ++ begun_day m ∷ []
    with-there lt =
        ap (days_with k m) h.are ∙ with_last k m older d ∙ ap (λ (l : List StoredDay). older ++ l) (with_next k m d (let now = h.now in omega (arith, now, lt))) ∙ sym (append_assoc older (closed ∷ []) (begun_day m ∷ []))

    ds-long : length ds ≡ length older + 1
    ds-long = ap length h.are ∙ length-append older (d ∷ [])

    shut-long : length shut ≡ length ds
    shut-long = length-append older (closed ∷ []) ∙ sym ds-long

    -- the words that closed it are later
    shut-kept : (n : ℕ) → n ≤ length older → days_kept k (drop n shut) ≡ drop n ds
    shut-kept n le =
        ap (days_kept k) (drop_push n older closed le)
        ∙ kept_now k (drop n older) d.date d.odometer d.words (closing_words (k % 1440 + 1) (state_at 0 (k % 1440) d.words) (state_at 1 (k % 1440) d.words)) h.now (each-drop (λ e. day_of e < k / 1440) n older h.earlier) h.low
        (closing-late (state_at 0 (k % 1440) d.words) (state_at 1 (k % 1440) d.words))
        ∙ sym (ap (drop n) h.are ∙ drop_push n older d le)

    more-kept : m.minute / 1440 ≡ k / 1440 → days_kept k (older ++ more ∷ []) ≡ ds
    more-kept same =
        kept_now k older d.date d.odometer d.words (new_words (k % 1440 + 1) t (state_at 0 (k % 1440) d.words) (state_at 1 (k % 1440) d.words) m.bits.driver m.bits.codriver) h.now h.earlier h.low
        (new-late same (state_at 0 (k % 1440) d.words) (state_at 1 (k % 1440) d.words))
        ∙ sym h.are

    module _ (few : length ds ≤ DAY_SLOTS) where
      abbrev n0 : ℕ
      n0 = length ds - (DAY_SLOTS - 1)

      low-n0 : n0 ≤ length older
      low-n0 = omega (arith, ds-long, few)

      -- a later day behind the closed ones, of which the oldest may be gone
      shut-push : (e : StoredDay) → k / 1440 < day_of e → days_kept k (newest_of DAY_SLOTS (shut ++ e ∷ [])) ≡ newest_of (DAY_SLOTS - 1) ds
      shut-push e late =
          let gone : length (shut ++ e ∷ []) - DAY_SLOTS ≡ n0 = omega (arith, length-append shut (e ∷ []), shut-long) in
          let inside : n0 ≤ length shut = omega (arith, low-n0, shut-long, ds-long) in
          ap (λ (n : ℕ). days_kept k (drop n (shut ++ e ∷ []))) gone ∙ ap (days_kept k) (drop_push n0 shut e inside) ∙ kept_later k (drop n0 shut) e late ∙ shut-kept n0 low-n0

      -- THE MARK IS THE OLD ONE
      abbrev Old : List StoredDay → Type 0
      Old now = (days_kept k now ≡ ds) ⊎ (days_kept k now ≡ newest_of (DAY_SLOTS - 1) ds)

      with-old : Old (newest_of DAY_SLOTS (days_with k m ds))
      with-old = ⊎_elim
          (λ lt. inr (ap (λ (l : List StoredDay). days_kept k (newest_of DAY_SLOTS l)) (with-there lt) ∙ shut-push (begun_day m) (begun-later lt)))
          (λ ge.
          let same : m.minute / 1440 ≡ k / 1440 = omega (arith, ge, later) in
          let all : length (older ++ more ∷ []) ≤ DAY_SLOTS = omega (arith, length-append older (more ∷ []), ds-long, few) in
          inl (ap (λ (l : List StoredDay). days_kept k (newest_of DAY_SLOTS l)) (with-here same) ∙ ap (days_kept k) (newest_all DAY_SLOTS (older ++ more ∷ []) all) ∙ more-kept same))
          (cases_lt (k / 1440) (m.minute / 1440))

      turning-old : (now : List StoredDay) → k / 1440 < m.minute / 1440 → AreTurning k m ds now → Old now
      turning-old now lt (inl is) = inl (ap (days_kept k) (is ∙ shut-are) ∙ shut-kept 0 (omega arith))
      turning-old now lt (inr (inl is)) =
          let gone : length shut - (DAY_SLOTS - 1) ≡ n0 = omega (arith, shut-long) in
          inr (ap (days_kept k) (is ∙ ap (newest_of (DAY_SLOTS - 1)) shut-are) ∙ ap (λ (n : ℕ). days_kept k (drop n shut)) gone ∙ shut-kept n0 low-n0)
      turning-old now lt (inr (inr is)) =
          inr (ap (days_kept k) (is ∙ ap (λ (l : List StoredDay). newest_of DAY_SLOTS (l ++ opened_day m ∷ [])) shut-are) ∙ shut-push (opened_day m) (opened-later lt))

    -- THE MARK IS THE NEW ONE: all days with the minute stay
    with-within : Each (IsWithin m.minute) (days_with k m ds)
    with-within = ⊎_elim
        (λ lt.
        subst (Each (IsWithin m.minute)) (sym (with-there lt))
        (each_append (IsWithin m.minute) shut (begun_day m ∷ [])
        (each_append (IsWithin m.minute) older (closed ∷ []) (earlier-within k m.minute (omega (arith, later)) older h.earlier) (inl (let now = h.now in omega (arith, now, lt)), tt))
        (begun-within, tt)))
        (λ ge.
        let same : m.minute / 1440 ≡ k / 1440 = omega (arith, ge, later) in
        let words : List ℕ = d.words in
        subst (Each (IsWithin m.minute)) (sym (with-here same))
        (each_append (IsWithin m.minute) older (more ∷ []) (earlier-within k m.minute (omega (arith, later)) older h.earlier) (
          inr (
            h.now ∙ sym same,
            each_append (λ w. word_minute w ≤ t) words (new_words (k % 1440 + 1) t (state_at 0 (k % 1440) words) (state_at 1 (k % 1440) words) m.bits.driver m.bits.codriver)
                (lower words (omega (arith, same, later)) h.low) (new-low same (state_at 0 (k % 1440) words) (state_at 1 (k % 1440) words)),
          ),
          tt,
        )))
        (cases_lt (k / 1440) (m.minute / 1440))
      where
        lower : (ws : List ℕ) → k % 1440 ≤ t → Each (λ w. word_minute w ≤ k % 1440) ws → Each (λ w. word_minute w ≤ t) ws
        lower [] le all = tt
        lower (w ∷ ws) le all = (let low = all.0 in omega (arith, low, le), lower ws le all.1)

  -- ---- with or without a day

  abbrev Stays : List StoredDay → List StoredDay → Type 0
  Stays ds now = (days_kept k now ≡ ds) ⊎ (days_kept k now ≡ newest_of (DAY_SLOTS - 1) ds)

  next-day : k ≡ 0 → k / 1440 < m.minute / 1440
  next-day none = omega (arith, none, day)

  old-with : (ds : List StoredDay) → IsClean k ds → length ds ≤ DAY_SLOTS → Stays ds (newest_of DAY_SLOTS (days_with k m ds))
  old-with ds (inl none) few =
      inl (ap (λ (l : List StoredDay). days_kept k (newest_of DAY_SLOTS (days_with k m l))) none.1 ∙ kept_later k [] (begun_day m) (begun-later (next-day none.0)) ∙ sym none.1)
  old-with ds (inr h) few = with-old ds h few

  old-turning : (ds now : List StoredDay) → IsClean k ds → length ds ≤ DAY_SLOTS → k / 1440 < m.minute / 1440 → AreTurning k m ds now → Stays ds now
  old-turning ds now (inl none) few lt (inl is) = inl (ap (days_kept k) (is ∙ ap (last_day_closed k) none.1) ∙ sym none.1)
  old-turning ds now (inl none) few lt (inr (inl is)) = inl (ap (days_kept k) (is ∙ ap (λ (l : List StoredDay). newest_of (DAY_SLOTS - 1) (last_day_closed k l)) none.1) ∙ sym none.1)
  old-turning ds now (inl none) few lt (inr (inr is)) =
      inl (ap (days_kept k) (is ∙ ap (λ (l : List StoredDay). newest_of DAY_SLOTS (last_day_closed k l ++ opened_day m ∷ [])) none.1) ∙ kept_later k [] (opened_day m) (opened-later lt) ∙ sym none.1)
  old-turning ds now (inr h) few lt turning = turning-old ds h few now lt turning

  new-within : (ds : List StoredDay) → IsClean k ds → Each (IsWithin m.minute) (days_with k m ds)
  new-within ds (inl none) = subst (λ (l : List StoredDay). Each (IsWithin m.minute) (days_with k m l)) (sym none.1) (begun-within, tt)
  new-within ds (inr h) = with-within ds h

-- ---- A MOMENT OF A `keep`, by what the journal says of it
module _ (j : Notes) (m : Coming) (it : UnitMinute) (odometer : ℕ) (x c : List ℕ) (same : it.minute ≡ m.minute) (agrees : Agrees j x) (day : 1440 ≤ m.minute) (later : j.kept < m.minute) (short : m.bits.driver < 16) (short' : m.bits.codriver < 16) where
  abbrev kept : ℕ
  kept = j.kept

  abbrev was_days : List StoredDay
  was_days = unit_days x

  clean : IsClean kept was_days
  clean = agreed-clean j x agrees

  few : length was_days ≤ DAY_SLOTS
  few = few_slots x agrees.pointer

  was : written_days x ≡ was_days
  was = agreed-written j x agrees

  abbrev Side : Type 0
  Side = ((last_kept c ≡ last_kept x) × ((written_days c ≡ written_days x) ⊎ (written_days c ≡ newest_of (DAY_SLOTS - 1) (written_days x))))
      ⊎ ((last_kept c ≡ m.minute) × (written_days c ≡ newest_of DAY_SLOTS (days_with (last_kept x) m (written_days x))))

  -- the days by which they are, where the last-kept minute is the old one
  by-old : last_kept c ≡ last_kept x → Stays kept m later day short short' was_days (unit_days c) → Side
  by-old last stays =
      let now : written_days c ≡ days_kept kept (unit_days c) = ap (λ (n : ℕ). days_kept n (unit_days c)) (last ∙ agrees.kept) in
      inl (last, ⊎_elim (λ is. inl (now ∙ is ∙ sym was)) (λ is. inr (now ∙ is ∙ ap (newest_of (DAY_SLOTS - 1)) (sym was))) stays)

  at-kept : unit_days c ≡ newest_of DAY_SLOTS (days_with (last_kept x) m was_days) → unit_days c ≡ newest_of DAY_SLOTS (days_with kept m was_days)
  at-kept all = all ∙ ap (λ (a : ℕ). newest_of DAY_SLOTS (days_with a m was_days)) agrees.kept

  old-days : (unit_days c ≡ was_days)
      ⊎ ((unit_days c ≡ newest_of DAY_SLOTS (days_with (last_kept x) m was_days)) ⊎ ((last_kept x / 1440 < m.minute / 1440) × AreTurning (last_kept x) m was_days (unit_days c)))
      → Stays kept m later day short short' was_days (unit_days c)
  old-days (inl is) = inl (ap (days_kept kept) is ∙ all-stay kept was_days (clean-within kept was_days clean))
  old-days (inr (inl all)) = subst (Stays kept m later day short short' was_days) (sym (at-kept all)) (old-with kept m later day short short' was_days clean few)
  old-days (inr (inr turning)) =
      old-turning kept m later day short short' was_days (unit_days c) clean few (subst (λ (n : ℕ). n / 1440 < m.minute / 1440) agrees.kept turning.0) (subst (λ (n : ℕ). AreTurning n m was_days (unit_days c)) agrees.kept turning.1)

  by-new : last_kept c ≡ m.minute → unit_days c ≡ newest_of DAY_SLOTS (days_with (last_kept x) m was_days) → Side
  by-new last all =
      let stay : Each (IsWithin m.minute) (unit_days c) = subst (Each (IsWithin m.minute)) (sym (at-kept all))
      (each-drop (IsWithin m.minute) (length (days_with kept m was_days) - DAY_SLOTS) (days_with kept m was_days) (new-within kept m later day short short' was_days clean)) in
      inr (last, ap (λ (n : ℕ). days_kept n (unit_days c)) last ∙ all-stay m.minute (unit_days c) stay ∙ all ∙ ap (λ (l : List StoredDay). newest_of DAY_SLOTS (days_with (last_kept x) m l)) (sym was))

  behind : AreBetween m x c → IsBehindLastKept it odometer x c → Side
  behind between after =
      ⊎_elim
      (λ before. let last = after.last in let kept_is = agrees.kept in absurd (omega (arith, before, last, kept_is, same, later)))
      (by-new (after.last ∙ same))
      between.side

  pub keeping-written : IsKeeping it odometer x c → AreBetween m x c → IsKeepingWritten m x c
  keeping-written moment between = record { side = ⊎_elim (λ before. by-old before.last (old-days between.days)) (behind between) moment.side }
