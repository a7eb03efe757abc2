-- A minute of the history stands in each image of the unit that has its day.
use Rattle.std.proofs.Common.{◌≡◌, ◌⊎◌, inl, inr, ⊎_elim, ℕ, zero, suc, ◌+◌, ◌-◌, ◌*◌, ◌/◌, ◌%◌, ◌<◌, ◌≤◌, Bool, true, false, cond, List, [], ◌∷◌, All, Contains, length, map, drop, refl, subst, ◌∙◌, sym, arith}
use Rattle.std.specs.Prelude.{◌==◌, Option}
use Rattle.std.specs.List.{range_with_len}
use Rattle.std.proofs.lemmas.Bool.Decides.{nat_tests}
use Rattle.std.proofs.lemmas.List.Elements.{All-nil, All-cons, All-head, All-tail, All-append, All-weaker, All-map, All-drop, All-contains, Contains-append_left, Contains-append_right, Contains-append_cases, Contains-push_cases}
use Rattle.unit_rule.proofs.gated_ring.Orders.{range_each, Each as EachNumber}
use Rattle.unit_rule.specs.unit_model.Days.{UnitMinute, ShownDay, StoredDay, day_of, minute_at, minutes_shown, day_shown, shown, padded, unknown_minute, with_minute, day_from, filled, newest_days, minutes_of, Each}
use Rattle.unit_rule.specs.unit_model.Image.{last_kept, recorded, recorded_indices}
use Rattle.unit_rule.specs.unit_model.Decoding.{Decodes}
use Rattle.unit_rule.proofs.unit_model.Slots.{day_at}
use Rattle.unit_rule.proofs.unit_model.Rising.{AreInOrder}
use Rattle.unit_rule.proofs.unit_model.Recorded.{recorded_are, map_of}
use Rattle.unit_rule.proofs.unit_model.WholeDays.{decoded_of}
use Rattle.unit_rule.proofs.unit_model.LastDay.{in_order, none_shown}
use Rattle.unit_rule.proofs.unit_model.Retention.{filled_holds}
use Rattle.run_course.specs.history_model.Minutes.{HistoryMinute}
use Rattle.run_course.specs.history_model.Book.{Rising}
use Rattle.unit_rule.specs.device_rule.Filling.{seen_by_unit, filled_with, FillsDays}

-- a day's minutes are its own
abbrev Own : ShownDay → Type 0
Own d = All (λ (m : UnitMinute). m.minute / 1440 ≡ d.day) d.minutes

-- days come one after the other, from one on, each with its own minutes
abbrev InTurn : ℕ → List ShownDay → Type 0
InTurn from [] = Unit {0}
InTurn from (d ∷ days) = (from ≤ d.day) × Own d × InTurn (suc d.day) days

in-turn_high : (from : ℕ) (days : List ShownDay) → InTurn from days → All (λ d. from ≤ d.day) days
in-turn_high from [] h = All-nil (λ (d : ShownDay). from ≤ d.day)
in-turn_high from (d ∷ days) h = All-cons (λ (e : ShownDay). from ≤ e.day) d days h.0
    (All-weaker (λ (e : ShownDay). suc d.day ≤ e.day) (λ e. from ≤ e.day) (λ e lt. omega (arith, lt, h.0)) days (in-turn_high (suc d.day) days h.2))

-- THE DAYS OF AN IMAGE
each-all : (P : ℕ → Type 0) (xs : List ℕ) → EachNumber P xs → All P xs
each-all P [] each = All-nil P
each-all P (x ∷ xs) each = All-cons P x xs each.0 (each-all P xs each.1)

in-day : (day t : ℕ) → t < 1440 → (1440 * day + t) / 1440 ≡ day
in-day day t h = omega (arith, h)

most-shown : (kept day : ℕ) → minutes_shown kept day ≤ 1440
most-shown kept day = go (day == kept / 1440)
  where
    go : (b : Bool) → cond b (kept % 1440 + 1) 1440 ≤ 1440
    go true = omega arith
    go false = omega arith

shown-own : (n : ℕ) (d : StoredDay) → n ≤ 1440 → Own (shown n d)
shown-own n d most = All-map (λ (m : UnitMinute). m.minute / 1440 ≡ day_of d) (minute_at d) (range_with_len 0 n)
    (each-all (λ (t : ℕ). (1440 * day_of d + t) / 1440 ≡ day_of d) (range_with_len 0 n) (range_each (λ (t : ℕ). (1440 * day_of d + t) / 1440 ≡ day_of d) 0 n (λ t low high. in-day (day_of d) t (omega (arith, high, most)))))

stored-turn : (kept from : ℕ) (days : List StoredDay) → ((d : StoredDay) → Contains days d → from ≤ day_of d) → AreInOrder days → InTurn from (map (day_shown kept) days)
stored-turn kept from [] low order = tt
stored-turn kept from (d ∷ []) low order = (low d (0, omega arith, refl), shown-own (minutes_shown kept (day_of d)) d (most-shown kept (day_of d)), tt)
stored-turn kept from (d ∷ e ∷ days) low order = (
  low d (0, omega arith, refl),
  shown-own (minutes_shown kept (day_of d)) d (most-shown kept (day_of d)),
  stored-turn kept (suc (day_of d)) (e ∷ days) (λ g at. All-contains (λ (g : StoredDay). suc (day_of d) ≤ day_of g) (e ∷ days) g (above d e days order) at) order.1,
)
  where
    above : (d e : StoredDay) (days : List StoredDay) → AreInOrder (d ∷ e ∷ days) → All (λ g. suc (day_of d) ≤ day_of g) (e ∷ days)
    above d e [] order = All-cons (λ (g : StoredDay). suc (day_of d) ≤ day_of g) e [] order.0 (All-nil (λ (g : StoredDay). suc (day_of d) ≤ day_of g))
    above d e (f ∷ days) order = All-cons (λ (g : StoredDay). suc (day_of d) ≤ day_of g) e (f ∷ days) order.0
        (All-weaker (λ (g : StoredDay). suc (day_of e) ≤ day_of g) (λ g. suc (day_of d) ≤ day_of g) (λ g h. omega (arith, h, order.0)) (f ∷ days) (above e f days order.1))

each-shown : (kept k : ℕ) (days : List StoredDay) → Each (λ (d : StoredDay). day_of d ≤ k) days → All (λ (d : ShownDay). d.day ≤ k) (map (day_shown kept) days)
each-shown kept k [] each = All-nil (λ (d : ShownDay). d.day ≤ k)
each-shown kept k (d ∷ days) each = All-cons (λ (e : ShownDay). e.day ≤ k) (day_shown kept d) (map (day_shown kept) days) each.0 (each-shown kept k days each.1)

zero-or : (n : ℕ) → (n ≡ 0) ⊎ (0 < n)
zero-or zero = inl refl
zero-or (suc n) = inr (omega arith)

record IsDaily (k : ℕ) (days : List ShownDay) : Type 0 where
  turn : InTurn 0 days
  until : All (λ (d : ShownDay). d.day ≤ k) days

image-daily : (x : List ℕ) → Decodes x → IsDaily (last_kept x / 1440) (recorded x)
image-daily x decodes = ⊎_elim
    (λ none. subst (IsDaily (last_kept x / 1440)) (sym (none_shown x decodes none)) (record { turn = tt; until = All-nil (λ (d : ShownDay). d.day ≤ last_kept x / 1440) }))
    (λ some.
    let days = map (day_at x) (recorded_indices x) in
    let order = in_order x (decoded_of x decodes) some in
    subst (IsDaily (last_kept x / 1440)) (map_of (day_shown (last_kept x)) (day_at x) (recorded_indices x) ∙ sym (recorded_are x))
    (record { turn = stored-turn (last_kept x) 0 days (λ d at. omega arith) order.0; until = each-shown (last_kept x) (last_kept x / 1440) days order.1 }))
    (zero-or (last_kept x))

-- A MINUTE MORE
padded-own : (n : ℕ) (d : ShownDay) → n ≤ 1440 → Own d → Own (padded n d)
padded-own n d most own = All-append (λ (m : UnitMinute). m.minute / 1440 ≡ d.day) d.minutes (map (λ t. unknown_minute (1440 * d.day + t)) (range_with_len (length d.minutes) (n - length d.minutes))) own
    (All-map (λ (m : UnitMinute). m.minute / 1440 ≡ d.day) (λ t. unknown_minute (1440 * d.day + t)) (range_with_len (length d.minutes) (n - length d.minutes))
    (each-all (λ (t : ℕ). (1440 * d.day + t) / 1440 ≡ d.day) (range_with_len (length d.minutes) (n - length d.minutes))
    (range_each (λ (t : ℕ). (1440 * d.day + t) / 1440 ≡ d.day) (length d.minutes) (n - length d.minutes) (λ t low high. in-day d.day t (omega (arith, low, high, most))))))

with-own : (k : UnitMinute) (d : ShownDay) → d.day ≡ k.minute / 1440 → Own d → Own (with_minute k d)
with-own k d is own = All-append (λ (m : UnitMinute). m.minute / 1440 ≡ d.day) (padded (k.minute % 1440) d).minutes (k ∷ []) (padded-own (k.minute % 1440) d (omega arith) own)
    (All-cons (λ (m : UnitMinute). m.minute / 1440 ≡ d.day) k [] (sym is) (All-nil (λ (m : UnitMinute). m.minute / 1440 ≡ d.day)))

first-own : (k : UnitMinute) → Own (day_from k)
first-own k = with-own k (record { day = k.minute / 1440; minutes = [] }) refl (All-nil (λ (m : UnitMinute). m.minute / 1440 ≡ k.minute / 1440))

filled-turn : (from : ℕ) (days : List ShownDay) (k : UnitMinute) → InTurn from days → All (λ (d : ShownDay). d.day ≤ k.minute / 1440) days → from ≤ k.minute / 1440 → InTurn from (filled days k)
filled-turn from [] k turn until le = (le, first-own k, tt)
filled-turn from (d ∷ []) k turn until le = go (d.day == k.minute / 1440) refl
  where
    go : (b : Bool) → (d.day == k.minute / 1440) ≡ b → InTurn from (cond b (with_minute k d ∷ []) (padded 1440 d ∷ day_from k ∷ []))
    go true is = (turn.0, with-own k d (grind (arith, nat_tests)) turn.1, tt)
    go false is = (turn.0, padded-own 1440 d (omega arith) turn.1, (further is (All-head (λ (e : ShownDay). e.day ≤ k.minute / 1440) d [] until), first-own k, tt))
      where
        further : (d.day == k.minute / 1440) ≡ false → d.day ≤ k.minute / 1440 → suc d.day ≤ k.minute / 1440
        further fails le = grind (arith, nat_tests)
filled-turn from (d ∷ e ∷ days) k turn until le = (
  turn.0,
  turn.1,
  filled-turn (suc d.day) (e ∷ days) k turn.2 (All-tail (λ (e : ShownDay). e.day ≤ k.minute / 1440) d (e ∷ days) until)
      (let first : suc d.day ≤ e.day = turn.2.0 in let last : e.day ≤ k.minute / 1440 = All-head (λ (e : ShownDay). e.day ≤ k.minute / 1440) e days (All-tail (λ (e : ShownDay). e.day ≤ k.minute / 1440) d (e ∷ days) until) in omega (arith, first, last)),
)

filled-until : (n : ℕ) (days : List ShownDay) (k : UnitMinute) → k.minute / 1440 ≤ n → All (λ (d : ShownDay). d.day ≤ n) days → All (λ (d : ShownDay). d.day ≤ n) (filled days k)
filled-until n [] k le until = All-cons (λ (d : ShownDay). d.day ≤ n) (day_from k) [] le (All-nil (λ (d : ShownDay). d.day ≤ n))
filled-until n (d ∷ []) k le until = go (d.day == k.minute / 1440)
  where
    go : (b : Bool) → All (λ (d : ShownDay). d.day ≤ n) (cond b (with_minute k d ∷ []) (padded 1440 d ∷ day_from k ∷ []))
    go true = All-cons (λ (d : ShownDay). d.day ≤ n) (with_minute k d) [] (All-head (λ (d : ShownDay). d.day ≤ n) d [] until) (All-nil (λ (d : ShownDay). d.day ≤ n))
    go false = All-cons (λ (d : ShownDay). d.day ≤ n) (padded 1440 d) (day_from k ∷ []) (All-head (λ (d : ShownDay). d.day ≤ n) d [] until) (All-cons (λ (d : ShownDay). d.day ≤ n) (day_from k) [] le (All-nil (λ (d : ShownDay). d.day ≤ n)))
filled-until n (d ∷ e ∷ days) k le until = All-cons (λ (d : ShownDay). d.day ≤ n) d (filled (e ∷ days) k) (All-head (λ (d : ShownDay). d.day ≤ n) d (e ∷ days) until)
    (filled-until n (e ∷ days) k le (All-tail (λ (d : ShownDay). d.day ≤ n) d (e ∷ days) until))

daily-more : (n : ℕ) (days : List ShownDay) (k : UnitMinute) → n ≤ k.minute / 1440 → IsDaily n days → IsDaily (k.minute / 1440) (filled days k)
daily-more n days k le d =
    let until : All (λ (d : ShownDay). d.day ≤ k.minute / 1440) days = All-weaker (λ (d : ShownDay). d.day ≤ n) (λ d. d.day ≤ k.minute / 1440) (λ d h. omega (arith, h, le)) days d.until in
    record { turn = filled-turn 0 days k d.turn until (omega arith); until = filled-until (k.minute / 1440) days k (omega arith) until }

-- minutes that rise fill days that stay in turn
filled-daily : (first : ℕ) (start : List ShownDay) (past : List HistoryMinute) → IsDaily (first / 1440) start → Rising first past → InTurn 0 (filled_with start past)
filled-daily first start [] daily rising = daily.turn
filled-daily first start (i ∷ past) daily rising =
    filled-daily i.minute (filled start (seen_by_unit i)) past (daily-more (first / 1440) start (seen_by_unit i) (let lt : first < i.minute = rising.0 in omega (arith, lt)) daily) rising.1

-- and show each of them
first-itself : (k : UnitMinute) → Contains (minutes_of (filled [] k)) k
first-itself k = Contains-append_left (day_from k).minutes [] k (Contains-append_right (padded (k.minute % 1440) (record { day = k.minute / 1440; minutes = [] })).minutes (k ∷ []) k (0, omega arith, refl))

fills-itself : (days : List ShownDay) (k : UnitMinute) → Contains (minutes_of (filled days k)) k
fills-itself [] k = first-itself k
fills-itself (d ∷ []) k = go (d.day == k.minute / 1440)
  where
    go : (b : Bool) → Contains (minutes_of (cond b (with_minute k d ∷ []) (padded 1440 d ∷ day_from k ∷ []))) k
    go true = Contains-append_left (with_minute k d).minutes [] k (Contains-append_right (padded (k.minute % 1440) d).minutes (k ∷ []) k (0, omega arith, refl))
    go false = Contains-append_right (padded 1440 d).minutes (minutes_of (day_from k ∷ [])) k (first-itself k)
fills-itself (d ∷ e ∷ days) k = Contains-append_right d.minutes (minutes_of (filled (e ∷ days) k)) k (fills-itself (e ∷ days) k)

stays-filled : (days : List ShownDay) (past : List HistoryMinute) (m : UnitMinute) → Contains (minutes_of days) m → Contains (minutes_of (filled_with days past)) m
stays-filled days [] m at = at
stays-filled days (i ∷ past) m at = stays-filled (filled days (seen_by_unit i)) past m (filled_holds days (seen_by_unit i) m at)

fills-each : (start : List ShownDay) (past : List HistoryMinute) (i : HistoryMinute) → Contains past i → Contains (minutes_of (filled_with start past)) (seen_by_unit i)
fills-each start [] i at = absurd (omega (arith, at.1))
fills-each start (j ∷ past) i at = ⊎_elim
    (λ first. ⊎_elim
    (λ none. absurd (omega (arith, none.1)))
    (λ is. stays-filled (filled start (seen_by_unit j)) past (seen_by_unit i) (subst (λ (h : HistoryMinute). Contains (minutes_of (filled start (seen_by_unit j))) (seen_by_unit h)) is (fills-itself start (seen_by_unit j))))
    (Contains-push_cases [] j i first))
    (λ later. fills-each (filled start (seen_by_unit j)) past i later)
    (Contains-append_cases (j ∷ []) past i at)

-- WHAT IS LEFT of days in turn shows a minute, or has no day as early as its own
left-shows : (from n : ℕ) (days : List ShownDay) (m : UnitMinute) → InTurn from days → Contains (minutes_of days) m → Contains (minutes_of (drop n days)) m ⊎ All (λ (d : ShownDay). m.minute / 1440 < d.day) (drop n days)
left-shows from zero days m turn at = inl at
left-shows from (suc n) [] m turn at = absurd (omega (arith, at.1))
left-shows from (suc n) (d ∷ days) m turn at = ⊎_elim
    (λ here.
    let day : m.minute / 1440 ≡ d.day = All-contains (λ (k : UnitMinute). k.minute / 1440 ≡ d.day) d.minutes m turn.1 here in
    inr (All-drop (λ (e : ShownDay). m.minute / 1440 < e.day) n days (All-weaker (λ (e : ShownDay). suc d.day ≤ e.day) (λ e. m.minute / 1440 < e.day) (λ e h. omega (arith, h, day)) days (in-turn_high (suc d.day) days turn.2))))
    (λ later. left-shows (suc d.day) n days m turn.2 later)
    (Contains-append_cases d.minutes (minutes_of days) m at)

newest-shows : (n : ℕ) (all days : List ShownDay) (m : UnitMinute) (d : ShownDay) → InTurn 0 all → days ≡ newest_days n all → Contains (minutes_of all) m → Contains days d → d.day ≡ m.minute / 1440 → Contains (minutes_of days) m
newest-shows n all days m d turn is at there day = ⊎_elim
    (λ stays. subst (λ (ds : List ShownDay). Contains (minutes_of ds) m) (sym is) stays)
    (λ gone. absurd (let late : m.minute / 1440 < d.day = All-contains (λ (e : ShownDay). m.minute / 1440 < e.day) (drop (length all - n) all) d gone (subst (λ (ds : List ShownDay). Contains ds d) is there) in omega (arith, late, day)))
    (left-shows 0 (length all - n) all m turn at)

-- A MINUTE OF THE HISTORY, where the image has its day
pub stands-in : (x : List ℕ) → Decodes x → (next : Option HistoryMinute) (past : List HistoryMinute) (days : List ShownDay) → Rising (last_kept x) past → FillsDays (recorded x) next past days →
    (i : HistoryMinute) → Contains past i → (d : ShownDay) → Contains days d → d.day ≡ i.minute / 1440 → Contains (minutes_of days) (seen_by_unit i)
stands-in x decodes next past days rising fills i at d there day =
    let turn : InTurn 0 (filled_with (recorded x) past) = filled-daily (last_kept x) (recorded x) past (image-daily x decodes) rising in
    let has : Contains (minutes_of (filled_with (recorded x) past)) (seen_by_unit i) = fills-each (recorded x) past i at in
    ⊎_elim
    (λ whole. newest-shows 366 (filled_with (recorded x) past) days (seen_by_unit i) d turn whole has there day)
    (λ less. newest-shows 365 (filled_with (recorded x) past) days (seen_by_unit i) d turn less.1 has there day)
    fills
