-- The days shown while words, days and the last-kept minute are written.
use Rattle.std.proofs.Common.{◌≡◌, ℕ, zero, suc, ◌+◌, ◌-◌, ◌*◌, ◌/◌, ◌%◌, ◌<◌, ◌≤◌, Bool, true, false, cond, List, [], ◌∷◌, ◌++◌, length, map, filter, refl, sym, ◌∙◌, ap, arith}
use Rattle.std.specs.Prelude.{◌==◌, nat_le}
use Rattle.std.specs.List.{range_with_len}
use Rattle.std.proofs.lemmas.Bool.Decides.{nat_tests}
use Rattle.std.proofs.lemmas.List.{append-nil, map-append}
use Rattle.std.proofs.lemmas.List.Elements.{filter-append}
use Rattle.std.proofs.lemmas.List.FromFn.{length-map-range_with_len, map-range_with_len_more}
use Rattle.unit_model.specs.Days.{word_minute, bare, state_at, UnitMinute, ShownDay, StoredDay, day_of, minute_at, shown, day_shown, days_shown, unknown_minute, padded, with_minute, day_from, filled, Each, minute_by}
use Rattle.unit_model.proofs.Words.{range_add}
use Rattle.unit_model.proofs.States.{state_after_append, state_later}

-- two functions that agree on a range
pub map_range_same : {X : Type 0} (f h : ℕ → X) (a n : ℕ) → ((j : ℕ) → a ≤ j → j < a + n → f j ≡ h j) → map f (range_with_len a n) ≡ map h (range_with_len a n)
map_range_same f h a zero all = refl
map_range_same {X} f h a (suc n) all =
    ap (λ (e : X). e ∷ map f (range_with_len (a + 1) n)) (all a (omega arith) (omega arith)) ∙ ap (λ (l : List X). h a ∷ l) (map_range_same f h (a + 1) n (λ j low high. all j (omega arith) (omega arith)))

-- a day whose further minutes are unknown is the one before, padded
pub shown_padded : (n N : ℕ) (d e : StoredDay) → day_of e ≡ day_of d → n ≤ N
    → ((u : ℕ) → u < n → minute_at e u ≡ minute_at d u) → ((u : ℕ) → n ≤ u → u < N → minute_at e u ≡ unknown_minute (1440 * day_of d + u))
    → shown N e ≡ padded N (shown n d)
shown_padded n N d e same le front gap =
    let whole : n + (N - n) ≡ N = omega arith in
    let len : length (map (minute_at d) (range_with_len 0 n)) ≡ n = length-map-range_with_len (minute_at d) 0 n in
    let minutes : map (minute_at e) (range_with_len 0 N) ≡ map (minute_at d) (range_with_len 0 n) ++ map (λ t. unknown_minute (1440 * day_of d + t)) (range_with_len n (N - n)) =
    ap (λ (k : ℕ). map (minute_at e) (range_with_len 0 k)) (sym whole) ∙ ap (map (minute_at e)) (range_add 0 n (N - n) ∙ ap (λ (k : ℕ). range_with_len 0 n ++ range_with_len k (N - n)) (omega arith))
    ∙ map-append (minute_at e) (range_with_len 0 n) (range_with_len n (N - n))
    ∙ ap (λ (l : List UnitMinute). l ++ map (minute_at e) (range_with_len n (N - n))) (map_range_same (minute_at e) (minute_at d) 0 n (λ j low high. front j (omega arith)))
    ∙ ap (λ (l : List UnitMinute). map (minute_at d) (range_with_len 0 n) ++ l) (map_range_same (minute_at e) (λ t. unknown_minute (1440 * day_of d + t)) n (N - n) (λ j low high. gap j low (omega arith))) in
    (λ i. record { day = same i; minutes = minutes i })
    ∙ ap (λ (k : ℕ). record { day = day_of d; minutes = map (minute_at d) (range_with_len 0 n) ++ map (λ t. unknown_minute (1440 * day_of d + t)) (range_with_len k (N - k)) }) (sym len)

-- and with one known minute behind them
pub shown_with : (n t : ℕ) (d e : StoredDay) (k : UnitMinute) → day_of e ≡ day_of d → n ≤ t → k.minute % 1440 ≡ t
    → ((u : ℕ) → u < n → minute_at e u ≡ minute_at d u) → ((u : ℕ) → n ≤ u → u < t → minute_at e u ≡ unknown_minute (1440 * day_of d + u)) → minute_at e t ≡ k
    → shown (t + 1) e ≡ with_minute k (shown n d)
shown_with n t d e k same le at front gap last =
    let before : shown t e ≡ padded t (shown n d) = shown_padded n t d e same le front gap in
    let more : map (minute_at e) (range_with_len 0 (t + 1)) ≡ map (minute_at e) (range_with_len 0 t) ++ minute_at e t ∷ [] = map-range_with_len_more (minute_at e) 0 t t (omega arith) in
    (λ i. record { day = day_of e; minutes = more i })
    ∙ ap (λ (x : ShownDay). record { day = x.day; minutes = x.minutes ++ minute_at e t ∷ [] }) before
    ∙ ap (λ (x : UnitMinute). record { day = day_of d; minutes = (padded t (shown n d)).minutes ++ x ∷ [] }) last
    ∙ ap (λ (u : ℕ). record { day = day_of d; minutes = (padded u (shown n d)).minutes ++ k ∷ [] }) (sym at)

pub days_append : (k : ℕ) (a b : List StoredDay) → days_shown k (a ++ b) ≡ days_shown k a ++ days_shown k b
days_append k a b =
    ap (map (day_shown k)) (filter-append (λ d. nat_le (day_of d) (k / 1440)) a b)
    ∙ map-append (day_shown k) (filter (λ d. nat_le (day_of d) (k / 1440)) a) (filter (λ d. nat_le (day_of d) (k / 1440)) b)

-- a day that is later counts for nothing
pub day_later : (k : ℕ) (days : List StoredDay) (d : StoredDay) → k / 1440 < day_of d → days_shown k (days ++ d ∷ []) ≡ days_shown k days
day_later k days d later =
    let off : nat_le (day_of d) (k / 1440) ≡ false = grind (arith, nat_tests) in
    days_append k days (d ∷ []) ∙ ap (λ (b : Bool). days_shown k days ++ map (day_shown k) (cond b (d ∷ []) [])) off ∙ append-nil (days_shown k days)

-- the day of the last-kept minute, and one before it
pub day_now : (k : ℕ) (d : StoredDay) → day_of d ≡ k / 1440 → days_shown k (d ∷ []) ≡ shown (k % 1440 + 1) d ∷ []
day_now k d now =
    let on : nat_le (day_of d) (k / 1440) ≡ true = grind (arith, nat_tests) in
    let here : (day_of d == k / 1440) ≡ true = grind (arith, nat_tests) in
    ap (λ (b : Bool). map (day_shown k) (cond b (d ∷ []) [])) on ∙ ap (λ (b : Bool). shown (cond b (k % 1440 + 1) 1440) d ∷ []) here

pub day_before : (k : ℕ) (d : StoredDay) (days : List StoredDay) → day_of d < k / 1440 → days_shown k (d ∷ days) ≡ shown 1440 d ∷ days_shown k days
day_before k d days earlier =
    let on : nat_le (day_of d) (k / 1440) ≡ true = grind (arith, nat_tests) in
    let there : (day_of d == k / 1440) ≡ false = grind (arith, nat_tests) in
    ap (λ (b : Bool). map (day_shown k) (cond b (d ∷ filter (λ d. nat_le (day_of d) (k / 1440)) days) (filter (λ d. nat_le (day_of d) (k / 1440)) days))) on
    ∙ ap (λ (b : Bool). shown (cond b (k % 1440 + 1) 1440) d ∷ days_shown k days) there

-- the days before do not depend on the last-kept minute
pub days_before : (k m : ℕ) (days : List StoredDay) → k ≤ m → Each (λ d. day_of d < k / 1440) days → days_shown m days ≡ days_shown k days
days_before k m [] le all = refl
days_before k m (d ∷ days) le all =
    day_before m d days (omega (arith, all.0)) ∙ ap (λ (l : List ShownDay). shown 1440 d ∷ l) (days_before k m days le all.1) ∙ sym (day_before k d days all.0)

pub filled_last : (xs : List ShownDay) (y : ShownDay) (k : UnitMinute) → filled (xs ++ y ∷ []) k ≡ xs ++ filled (y ∷ []) k
filled_last [] y k = refl
filled_last (x ∷ []) y k = refl
filled_last (x ∷ x' ∷ xs) y k = ap (λ (l : List ShownDay). x ∷ l) (filled_last (x' ∷ xs) y k)

pub filled_same : (y : ShownDay) (k : UnitMinute) → y.day ≡ k.minute / 1440 → filled (y ∷ []) k ≡ with_minute k y ∷ []
filled_same y k same =
    let here : (y.day == k.minute / 1440) ≡ true = grind (arith, nat_tests) in
    ap (λ (b : Bool). cond b (with_minute k y ∷ []) (padded 1440 y ∷ day_from k ∷ [])) here

pub filled_next : (y : ShownDay) (k : UnitMinute) → y.day < k.minute / 1440 → filled (y ∷ []) k ≡ padded 1440 y ∷ day_from k ∷ []
filled_next y k earlier =
    let there : (y.day == k.minute / 1440) ≡ false = grind (arith, nat_tests) in
    ap (λ (b : Bool). cond b (with_minute k y ∷ []) (padded 1440 y ∷ day_from k ∷ [])) there

-- words of later minutes on the newest day count for nothing
pub words_later : (k : ℕ) (older : List StoredDay) (date o : ℕ) (words ws : List ℕ) → date / 86400 ≡ k / 1440 → Each (λ w. k % 1440 < word_minute w) ws
    → days_shown k (older ++ record { date = date; odometer = o; words = words ++ ws } ∷ []) ≡ days_shown k (older ++ record { date = date; odometer = o; words = words } ∷ [])
words_later k older date o words ws now later =
    days_append k older (record { date = date; odometer = o; words = words ++ ws } ∷ [])
    ∙ ap (λ (l : List ShownDay). days_shown k older ++ l) (day_now k (record { date = date; odometer = o; words = words ++ ws }) now
    ∙ ap (λ (l : List UnitMinute). record { day = date / 86400; minutes = l } ∷ []) (map_range_same (minute_at (record { date = date; odometer = o; words = words ++ ws })) (minute_at (record { date = date; odometer = o; words = words })) 0 (k % 1440 + 1) (λ u low high. same_minute u (omega arith)))
    ∙ sym (day_now k (record { date = date; odometer = o; words = words }) now))
    ∙ sym (days_append k older (record { date = date; odometer = o; words = words } ∷ []))
  where
    weaker : (u : ℕ) → u ≤ k % 1440 → (xs : List ℕ) → Each (λ w. k % 1440 < word_minute w) xs → Each (λ w. u < word_minute w) xs
    weaker u le [] all = tt
    weaker u le (x ∷ xs) all = (omega (arith, all.0), weaker u le xs all.1)

    same_state : (s u : ℕ) → u ≤ k % 1440 → state_at s u (words ++ ws) ≡ state_at s u words
    same_state s u le = state_after_append s u bare words ws ∙ state_later s u (state_at s u words) ws (weaker u le ws later)

    same_minute : (u : ℕ) → u ≤ k % 1440 → minute_at (record { date = date; odometer = o; words = words ++ ws }) u ≡ minute_at (record { date = date; odometer = o; words = words }) u
    same_minute u le = λ i. minute_by (1440 * (date / 86400) + u) (same_state 0 u le i) (same_state 1 u le i)
