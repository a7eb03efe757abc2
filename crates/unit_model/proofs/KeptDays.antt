-- The days that are not later than the last-kept minute, without later words.
use Rattle.std.proofs.Common.{◌≡◌, ℕ, ◌/◌, ◌%◌, ◌<◌, ◌≤◌, Bool, true, false, cond, List, [], ◌∷◌, ◌++◌, map, filter, refl, ◌∙◌, ap, arith}
use Rattle.std.specs.Prelude.{◌==◌, nat_le}
use Rattle.std.proofs.lemmas.Bool.Decides.{nat_tests}
use Rattle.std.proofs.lemmas.List.{append-nil, map-append}
use Rattle.std.proofs.lemmas.List.Elements.{filter-append}
use Rattle.unit_model.specs.Days.{word_minute, StoredDay, day_of, Each}
use Rattle.unit_model.specs.Days.{day_kept, days_kept}

-- the words that are not later stay, and the later ones go
low_stay : (t : ℕ) (ws : List ℕ) → Each (λ w. word_minute w ≤ t) ws → filter (λ w. nat_le (word_minute w) t) ws ≡ ws
low_stay t [] all = refl
low_stay t (w ∷ ws) all =
    let on : nat_le (word_minute w) t ≡ true = grind (arith, nat_tests, all.0) in
    ap (λ (b : Bool). cond b (w ∷ filter (λ w. nat_le (word_minute w) t) ws) (filter (λ w. nat_le (word_minute w) t) ws)) on ∙ ap (λ (l : List ℕ). w ∷ l) (low_stay t ws all.1)

late_go : (t : ℕ) (ws : List ℕ) → Each (λ w. t < word_minute w) ws → filter (λ w. nat_le (word_minute w) t) ws ≡ []
late_go t [] all = refl
late_go t (w ∷ ws) all =
    let off : nat_le (word_minute w) t ≡ false = grind (arith, nat_tests, all.0) in
    ap (λ (b : Bool). cond b (w ∷ filter (λ w. nat_le (word_minute w) t) ws) (filter (λ w. nat_le (word_minute w) t) ws)) off ∙ late_go t ws all.1

not_late : (t : ℕ) (words late : List ℕ) → Each (λ w. word_minute w ≤ t) words → Each (λ w. t < word_minute w) late → filter (λ w. nat_le (word_minute w) t) (words ++ late) ≡ words
not_late t words late low high =
    filter-append (λ w. nat_le (word_minute w) t) words late
    ∙ ap (λ (l : List ℕ). l ++ filter (λ w. nat_le (word_minute w) t) late) (low_stay t words low) ∙ ap (λ (l : List ℕ). words ++ l) (late_go t late high) ∙ append-nil words

kept_append : (k : ℕ) (a b : List StoredDay) → days_kept k (a ++ b) ≡ days_kept k a ++ days_kept k b
kept_append k a b =
    ap (map (day_kept k)) (filter-append (λ d. nat_le (day_of d) (k / 1440)) a b)
    ∙ map-append (day_kept k) (filter (λ d. nat_le (day_of d) (k / 1440)) a) (filter (λ d. nat_le (day_of d) (k / 1440)) b)

-- a later day goes
pub kept_later : (k : ℕ) (days : List StoredDay) (d : StoredDay) → k / 1440 < day_of d → days_kept k (days ++ d ∷ []) ≡ days_kept k days
kept_later k days d later =
    let off : nat_le (day_of d) (k / 1440) ≡ false = grind (arith, nat_tests, later) in
    kept_append k days (d ∷ []) ∙ ap (λ (b : Bool). days_kept k days ++ map (day_kept k) (cond b (d ∷ []) [])) off ∙ append-nil (days_kept k days)

-- earlier ones stay
kept_earlier : (k : ℕ) (days : List StoredDay) → Each (λ d. day_of d < k / 1440) days → days_kept k days ≡ days
kept_earlier k [] all = refl
kept_earlier k (d ∷ days) all =
    let on : nat_le (day_of d) (k / 1440) ≡ true = grind (arith, nat_tests, all.0) in
    let there : (day_of d == k / 1440) ≡ false = grind (arith, nat_tests, all.0) in
    ap (λ (b : Bool). map (day_kept k) (cond b (d ∷ filter (λ d. nat_le (day_of d) (k / 1440)) days) (filter (λ d. nat_le (day_of d) (k / 1440)) days))) on
    ∙ ap (λ (b : Bool). cond b (record { date = d.date; odometer = d.odometer; words = filter (λ w. nat_le (word_minute w) (k % 1440)) d.words }) d ∷ days_kept k days) there
    ∙ ap (λ (l : List StoredDay). d ∷ l) (kept_earlier k days all.1)

-- and of the last-kept minute's day the words that are not later
pub kept_now : (k : ℕ) (older : List StoredDay) (date o : ℕ) (words late : List ℕ) → date / 86400 ≡ k / 1440 → Each (λ d. day_of d < k / 1440) older
    → Each (λ w. word_minute w ≤ k % 1440) words → Each (λ w. k % 1440 < word_minute w) late
    → days_kept k (older ++ record { date = date; odometer = o; words = words ++ late } ∷ []) ≡ older ++ record { date = date; odometer = o; words = words } ∷ []
kept_now k older date o words late now earlier low high =
    let on : nat_le (date / 86400) (k / 1440) ≡ true = grind (arith, nat_tests, now) in
    let here : (date / 86400 == k / 1440) ≡ true = grind (arith, nat_tests, now) in
    let all : StoredDay = record { date = date; odometer = o; words = words ++ late } in
    kept_append k older (all ∷ [])
    ∙ ap (λ (l : List StoredDay). l ++ days_kept k (all ∷ [])) (kept_earlier k older earlier)
    ∙ ap (λ (b : Bool). older ++ map (day_kept k) (cond b (all ∷ []) [])) on
    ∙ ap (λ (b : Bool). older ++ cond b (record { date = date; odometer = o; words = filter (λ w. nat_le (word_minute w) (k % 1440)) (words ++ late) }) all ∷ []) here
    ∙ ap (λ (ws : List ℕ). older ++ record { date = date; odometer = o; words = ws } ∷ []) (not_late (k % 1440) words late low high)
