-- The days of an image that decodes come one after the other, each with its own minutes; and so they do with a minute more.
use Rattle.std.proofs.Common.{◌≡◌, ◌⊎◌, inl, inr, ⊎_elim, ℕ, zero, suc, ◌+◌, ◌-◌, ◌*◌, ◌/◌, ◌%◌, ◌<◌, ◌≤◌, Bool, true, false, cond, List, [], ◌∷◌, All, Contains, length, map, refl, subst, ◌∙◌, sym, arith}
use Rattle.std.specs.Prelude.{◌==◌}
use Rattle.std.specs.List.{range_with_len}
use Rattle.std.proofs.lemmas.Bool.Decides.{nat_tests}
use Rattle.std.proofs.lemmas.List.Elements.{All-nil, All-cons, All-head, All-tail, All-append, All-weaker, All-map, All-contains}
use Rattle.gated_ring.proofs.Orders.{range_each, Each as EachNumber}
use Rattle.unit_model.specs.Days.{UnitMinute, ShownDay, StoredDay, day_of, minute_at, minutes_shown, day_shown, shown, padded, unknown_minute, with_minute, day_from, filled, filled_all, Each}
use Rattle.unit_model.specs.Image.{last_kept, recorded, recorded_indices}
use Rattle.unit_model.specs.Decoding.{Decodes}
use Rattle.unit_model.proofs.Slots.{day_at}
use Rattle.unit_model.proofs.Rising.{AreInOrder}
use Rattle.unit_model.proofs.Recorded.{recorded_are, map_of}
use Rattle.unit_model.proofs.WholeDays.{decoded_of}
use Rattle.unit_model.proofs.LastDay.{in_order, none_shown}

-- a day's minutes are its own
abbrev pub Own : ShownDay → Type 0
Own d = All (λ (m : UnitMinute). m.minute / 1440 ≡ d.day) d.minutes

-- days come one after the other, from one on, each with its own minutes
abbrev pub InTurn : ℕ → List ShownDay → Type 0
InTurn from [] = Unit {0}
InTurn from (d ∷ days) = (from ≤ d.day) × Own d × InTurn (suc d.day) days

pub in-turn_high : (from : ℕ) (days : List ShownDay) → InTurn from days → All (λ d. from ≤ d.day) days
in-turn_high from [] h = All-nil (λ (d : ShownDay). from ≤ d.day)
in-turn_high from (d ∷ days) h = All-cons (λ (e : ShownDay). from ≤ e.day) d days h.0
    (All-weaker (λ (e : ShownDay). suc d.day ≤ e.day) (λ e. from ≤ e.day) (λ e lt. omega (arith, lt, h.0)) days (in-turn_high (suc d.day) days h.2))

-- THE DAYS OF AN IMAGE
pub each-all : (P : ℕ → Type 0) (xs : List ℕ) → EachNumber P xs → All P xs
each-all P [] each = All-nil P
each-all P (x ∷ xs) each = All-cons P x xs each.0 (each-all P xs each.1)

in-day : (day t : ℕ) → t < 1440 → (1440 * day + t) / 1440 ≡ day
in-day day t h = omega (arith, h)

most-shown : (kept day : ℕ) → minutes_shown kept day ≤ 1440
most-shown kept day = go (day == kept / 1440)
  where
    go : (b : Bool) → cond b (kept % 1440 + 1) 1440 ≤ 1440
    go true = omega arith
    go false = omega arith

shown-own : (n : ℕ) (d : StoredDay) → n ≤ 1440 → Own (shown n d)
shown-own n d most = All-map (λ (m : UnitMinute). m.minute / 1440 ≡ day_of d) (minute_at d) (range_with_len 0 n)
    (each-all (λ (t : ℕ). (1440 * day_of d + t) / 1440 ≡ day_of d) (range_with_len 0 n) (range_each (λ (t : ℕ). (1440 * day_of d + t) / 1440 ≡ day_of d) 0 n (λ t low high. in-day (day_of d) t (omega (arith, high, most)))))

stored-turn : (kept from : ℕ) (days : List StoredDay) → ((d : StoredDay) → Contains days d → from ≤ day_of d) → AreInOrder days → InTurn from (map (day_shown kept) days)
stored-turn kept from [] low order = tt
stored-turn kept from (d ∷ []) low order = (low d (0, omega arith, refl), shown-own (minutes_shown kept (day_of d)) d (most-shown kept (day_of d)), tt)
stored-turn kept from (d ∷ e ∷ days) low order = (
  low d (0, omega arith, refl),
  shown-own (minutes_shown kept (day_of d)) d (most-shown kept (day_of d)),
  stored-turn kept (suc (day_of d)) (e ∷ days) (λ g at. All-contains (λ (g : StoredDay). suc (day_of d) ≤ day_of g) (e ∷ days) g (above d e days order) at) order.1,
)
  where
    above : (d e : StoredDay) (days : List StoredDay) → AreInOrder (d ∷ e ∷ days) → All (λ g. suc (day_of d) ≤ day_of g) (e ∷ days)
    above d e [] order = All-cons (λ (g : StoredDay). suc (day_of d) ≤ day_of g) e [] order.0 (All-nil (λ (g : StoredDay). suc (day_of d) ≤ day_of g))
    above d e (f ∷ days) order = All-cons (λ (g : StoredDay). suc (day_of d) ≤ day_of g) e (f ∷ days) order.0
        (All-weaker (λ (g : StoredDay). suc (day_of e) ≤ day_of g) (λ g. suc (day_of d) ≤ day_of g) (λ g h. omega (arith, h, order.0)) (f ∷ days) (above e f days order.1))

each-shown : (kept k : ℕ) (days : List StoredDay) → Each (λ (d : StoredDay). day_of d ≤ k) days → All (λ (d : ShownDay). d.day ≤ k) (map (day_shown kept) days)
each-shown kept k [] each = All-nil (λ (d : ShownDay). d.day ≤ k)
each-shown kept k (d ∷ days) each = All-cons (λ (e : ShownDay). e.day ≤ k) (day_shown kept d) (map (day_shown kept) days) each.0 (each-shown kept k days each.1)

zero-or : (n : ℕ) → (n ≡ 0) ⊎ (0 < n)
zero-or zero = inl refl
zero-or (suc n) = inr (omega arith)

pub record IsDaily (k : ℕ) (days : List ShownDay) : Type 0 where
  pub turn : InTurn 0 days
  pub until : All (λ (d : ShownDay). d.day ≤ k) days

pub image-daily : (x : List ℕ) → Decodes x → IsDaily (last_kept x / 1440) (recorded x)
image-daily x decodes = ⊎_elim
    (λ none. subst (IsDaily (last_kept x / 1440)) (sym (none_shown x decodes none)) (record { turn = tt; until = All-nil (λ (d : ShownDay). d.day ≤ last_kept x / 1440) }))
    (λ some.
    let days = map (day_at x) (recorded_indices x) in
    let order = in_order x (decoded_of x decodes) some in
    subst (IsDaily (last_kept x / 1440)) (map_of (day_shown (last_kept x)) (day_at x) (recorded_indices x) ∙ sym (recorded_are x))
    (record { turn = stored-turn (last_kept x) 0 days (λ d at. omega arith) order.0; until = each-shown (last_kept x) (last_kept x / 1440) days order.1 }))
    (zero-or (last_kept x))

-- A MINUTE MORE
padded-own : (n : ℕ) (d : ShownDay) → n ≤ 1440 → Own d → Own (padded n d)
padded-own n d most own = All-append (λ (m : UnitMinute). m.minute / 1440 ≡ d.day) d.minutes (map (λ t. unknown_minute (1440 * d.day + t)) (range_with_len (length d.minutes) (n - length d.minutes))) own
    (All-map (λ (m : UnitMinute). m.minute / 1440 ≡ d.day) (λ t. unknown_minute (1440 * d.day + t)) (range_with_len (length d.minutes) (n - length d.minutes))
    (each-all (λ (t : ℕ). (1440 * d.day + t) / 1440 ≡ d.day) (range_with_len (length d.minutes) (n - length d.minutes))
    (range_each (λ (t : ℕ). (1440 * d.day + t) / 1440 ≡ d.day) (length d.minutes) (n - length d.minutes) (λ t low high. in-day d.day t (omega (arith, low, high, most))))))

with-own : (k : UnitMinute) (d : ShownDay) → d.day ≡ k.minute / 1440 → Own d → Own (with_minute k d)
with-own k d is own = All-append (λ (m : UnitMinute). m.minute / 1440 ≡ d.day) (padded (k.minute % 1440) d).minutes (k ∷ []) (padded-own (k.minute % 1440) d (omega arith) own)
    (All-cons (λ (m : UnitMinute). m.minute / 1440 ≡ d.day) k [] (sym is) (All-nil (λ (m : UnitMinute). m.minute / 1440 ≡ d.day)))

first-own : (k : UnitMinute) → Own (day_from k)
first-own k = with-own k (record { day = k.minute / 1440; minutes = [] }) refl (All-nil (λ (m : UnitMinute). m.minute / 1440 ≡ k.minute / 1440))

filled-turn : (from : ℕ) (days : List ShownDay) (k : UnitMinute) → InTurn from days → All (λ (d : ShownDay). d.day ≤ k.minute / 1440) days → from ≤ k.minute / 1440 → InTurn from (filled days k)
filled-turn from [] k turn until le = (le, first-own k, tt)
filled-turn from (d ∷ []) k turn until le = go (d.day == k.minute / 1440) refl
  where
    go : (b : Bool) → (d.day == k.minute / 1440) ≡ b → InTurn from (cond b (with_minute k d ∷ []) (padded 1440 d ∷ day_from k ∷ []))
    go true is = (turn.0, with-own k d (grind (arith, nat_tests)) turn.1, tt)
    go false is = (turn.0, padded-own 1440 d (omega arith) turn.1, (further is (All-head (λ (e : ShownDay). e.day ≤ k.minute / 1440) d [] until), first-own k, tt))
      where
        further : (d.day == k.minute / 1440) ≡ false → d.day ≤ k.minute / 1440 → suc d.day ≤ k.minute / 1440
        further fails le = grind (arith, nat_tests)
filled-turn from (d ∷ e ∷ days) k turn until le = (
  turn.0,
  turn.1,
  filled-turn (suc d.day) (e ∷ days) k turn.2 (All-tail (λ (e : ShownDay). e.day ≤ k.minute / 1440) d (e ∷ days) until)
      (let first : suc d.day ≤ e.day = turn.2.0 in let last : e.day ≤ k.minute / 1440 = All-head (λ (e : ShownDay). e.day ≤ k.minute / 1440) e days (All-tail (λ (e : ShownDay). e.day ≤ k.minute / 1440) d (e ∷ days) until) in omega (arith, first, last)),
)

filled-until : (n : ℕ) (days : List ShownDay) (k : UnitMinute) → k.minute / 1440 ≤ n → All (λ (d : ShownDay). d.day ≤ n) days → All (λ (d : ShownDay). d.day ≤ n) (filled days k)
filled-until n [] k le until = All-cons (λ (d : ShownDay). d.day ≤ n) (day_from k) [] le (All-nil (λ (d : ShownDay). d.day ≤ n))
filled-until n (d ∷ []) k le until = go (d.day == k.minute / 1440)
  where
    go : (b : Bool) → All (λ (d : ShownDay). d.day ≤ n) (cond b (with_minute k d ∷ []) (padded 1440 d ∷ day_from k ∷ []))
    go true = All-cons (λ (d : ShownDay). d.day ≤ n) (with_minute k d) [] (All-head (λ (d : ShownDay). d.day ≤ n) d [] until) (All-nil (λ (d : ShownDay). d.day ≤ n))
    go false = All-cons (λ (d : ShownDay). d.day ≤ n) (padded 1440 d) (day_from k ∷ []) (All-head (λ (d : ShownDay). d.day ≤ n) d [] until) (All-cons (λ (d : ShownDay). d.day ≤ n) (day_from k) [] le (All-nil (λ (d : ShownDay). d.day ≤ n)))
filled-until n (d ∷ e ∷ days) k le until = All-cons (λ (d : ShownDay). d.day ≤ n) d (filled (e ∷ days) k) (All-head (λ (d : ShownDay). d.day ≤ n) d (e ∷ days) until)
    (filled-until n (e ∷ days) k le (All-tail (λ (d : ShownDay). d.day ≤ n) d (e ∷ days) until))

pub daily-more : (n : ℕ) (days : List ShownDay) (k : UnitMinute) → n ≤ k.minute / 1440 → IsDaily n days → IsDaily (k.minute / 1440) (filled days k)
daily-more n days k le d =
    let until : All (λ (d : ShownDay). d.day ≤ k.minute / 1440) days = All-weaker (λ (d : ShownDay). d.day ≤ n) (λ d. d.day ≤ k.minute / 1440) (λ d h. omega (arith, h, le)) days d.until in
    record { turn = filled-turn 0 days k d.turn until (omega arith); until = filled-until (k.minute / 1440) days k (omega arith) until }

-- minutes that rise fill days that stay in turn
abbrev pub Rising : ℕ → List UnitMinute → Type 0
Rising n [] = Unit {0}
Rising n (k ∷ ks) = (n < k.minute) × Rising k.minute ks

pub all-daily : (n : ℕ) (days : List ShownDay) (ks : List UnitMinute) → IsDaily (n / 1440) days → Rising n ks → InTurn 0 (filled_all days ks)
all-daily n days [] daily rising = daily.turn
all-daily n days (k ∷ ks) daily rising = all-daily k.minute (filled days k) ks (daily-more (n / 1440) days k (let lt : n < k.minute = rising.0 in omega (arith, lt)) daily) rising.1
