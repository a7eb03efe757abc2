-- An image holds one list of days at most, and the walk finds it.
use Rattle.std.proofs.Common.{◌≡◌, ⊎_elim, ℕ, zero, suc, ◌+◌, ◌-◌, ◌*◌, ◌/◌, ◌%◌, ◌<◌, ◌≤◌, Bool, cond, List, [], ◌∷◌, ◌++◌, length, take, drop, refl, sym, ◌∙◌, ap, arith, append_assoc}
use Rattle.std.specs.Prelude.{nat_lt}
use Rattle.std.proofs.lemmas.List.{take_at, drop_at}
use Rattle.std.proofs.lemmas.Nat.{mod-mul-add}
use Rattle.std.proofs.lemmas.Bool.{lt-ltb, le-ltb}
use Rattle.tach_media.specs.Medium.{bytes_at}
use Rattle.card_model.specs.Bytes.{number, decimal}
use Rattle.card_model.specs.Days.{Day, len_of, far, word_bytes, record_of, records, IsDay, AreDays}
use Rattle.card_model.specs.Image.{StringShape, IsStringShape, oldest_pointer, newest_pointer, circle_of, IsPlace, HoldsDays}
use Rattle.card_model.specs.Walk.{words_of, day_told, days_in, days_of}
use Rattle.card_model.proofs.Numbers.{number_two, number_four, decimal_same}
use Rattle.card_model.proofs.Lists.{record_length, len_least, last_len_is, last_least, count_least}
use Rattle.card_model.proofs.Reading.{fills}

words_same : (ws : List ℕ) → words_of (length ws) (word_bytes ws) ≡ ws
words_same [] = refl
words_same (w ∷ ws) = ap (λ (n : ℕ). n ∷ words_of (length ws) (word_bytes ws)) (number_two w) ∙ ap (λ (l : List ℕ). w ∷ l) (words_same ws)

pub day_same : (q : ℕ) (d : Day) → d.counter ≤ 9999 → day_told (record_of q d) ≡ d
day_same q d decimal_fits =
    let count : (length (record_of q d) - 12) / 2 ≡ length d.words = omega (arith, record_length q d) in
    let b : List ℕ = record_of q d in
    ap (λ (n : ℕ). record { date = n; counter = decimal (number (bytes_at (record_of q d) 8 2)); km = number (bytes_at (record_of q d) 10 2); words = words_of ((length (record_of q d) - 12) / 2) (drop 12 (record_of q d)) }) (number_four d.date)
    ∙ ap (λ (n : ℕ). record { date = d.date; counter = n; km = number (bytes_at (record_of q d) 10 2); words = words_of ((length (record_of q d) - 12) / 2) (drop 12 (record_of q d)) }) (decimal_same d.counter decimal_fits)
    ∙ ap (λ (n : ℕ). record { date = d.date; counter = d.counter; km = n; words = words_of ((length (record_of q d) - 12) / 2) (drop 12 (record_of q d)) }) (number_two d.km)
    ∙ ap (λ (n : ℕ). record { date = d.date; counter = d.counter; km = d.km; words = words_of n (word_bytes d.words) }) count
    ∙ ap (λ (ws : List ℕ). record { date = d.date; counter = d.counter; km = d.km; words = ws }) (words_same d.words)

step_same : (most far q : ℕ) (d : Day) (tail : List ℕ) → IsDay d → days_in (suc most) far (record_of q d ++ tail) ≡ cond (nat_lt far (len_of d)) (d ∷ []) (d ∷ days_in most (far - len_of d) tail)
step_same most far q d tail day =
    let n = len_of d in
    let long : length (record_of q d) ≡ len_of d = record_length q d in
    let first : take (len_of d) (record_of q d ++ tail) ≡ record_of q d = take_at (record_of q d) tail (len_of d) long in
    let same : day_told (take (len_of d) (record_of q d ++ tail)) ≡ d = ap day_told first ∙ day_same q d day.decimal in
    ap (λ (n : ℕ). cond (nat_lt n 14) [] (cond (nat_lt far n) (day_told (take n (record_of q d ++ tail)) ∷ []) (day_told (take n (record_of q d ++ tail)) ∷ days_in most (far - n) (drop n (record_of q d ++ tail))))) (number_two (len_of d))
    ∙ ap (λ (b : Bool). cond b [] (cond (nat_lt far (len_of d)) (day_told (take (len_of d) (record_of q d ++ tail)) ∷ []) (day_told (take (len_of d) (record_of q d ++ tail)) ∷ days_in most (far - len_of d) (drop (len_of d) (record_of q d ++ tail))))) (le-ltb (len_of d) 14 (len_least d day))
    ∙ ap (λ (e : Day). cond (nat_lt far (len_of d)) (e ∷ []) (e ∷ days_in most (far - len_of d) (drop (len_of d) (record_of q d ++ tail)))) same
    ∙ ap (λ (l : List ℕ). cond (nat_lt far (len_of d)) (d ∷ []) (d ∷ days_in most (far - len_of d) l)) (drop_at (record_of q d) tail (len_of d) long)

walk_same : (most q date : ℕ) (days : List Day) (rest : List ℕ) → length days ≤ most → AreDays date days → (days ≡ [] → number (bytes_at rest 2 2) ≡ 0) → days_in most (far days) (records q days ++ rest) ≡ days
walk_same zero q date [] rest le are empty = refl
walk_same zero q date (d ∷ ds) rest le are empty = absurd (omega (arith, le))
walk_same (suc most) q date [] rest le are empty =
    ap (λ (n : ℕ). cond (nat_lt n 14) [] (cond (nat_lt 0 n) (day_told (take n rest) ∷ []) (day_told (take n rest) ∷ days_in most (0 - n) (drop n rest)))) (empty refl)
walk_same (suc most) q date (d ∷ []) rest le are empty =
    ap (λ (l : List ℕ). days_in (suc most) 0 l) (append_assoc (record_of q d) [] rest) ∙ step_same most 0 q d rest are.1
    ∙ ap (λ (b : Bool). cond b (d ∷ []) (d ∷ days_in most (0 - len_of d) rest)) (lt-ltb 0 (len_of d) (omega (arith, len_least d are.1)))
walk_same (suc most) q date (d ∷ e ∷ ds) rest le are empty =
    let tail = records (len_of d) (e ∷ ds) ++ rest in
    let more : far (d ∷ e ∷ ds) - len_of d ≡ far (e ∷ ds) = omega arith in
    ap (λ (l : List ℕ). days_in (suc most) (far (d ∷ e ∷ ds)) l) (append_assoc (record_of q d) (records (len_of d) (e ∷ ds)) rest)
    ∙ step_same most (far (d ∷ e ∷ ds)) q d tail are.1
    ∙ ap (λ (b : Bool). cond b (d ∷ []) (d ∷ days_in most (far (d ∷ e ∷ ds) - len_of d) tail)) (le-ltb (far (d ∷ e ∷ ds)) (len_of d) (omega arith))
    ∙ ap (λ (n : ℕ). d ∷ days_in most n tail) more
    ∙ ap (λ (l : List Day). d ∷ l) (walk_same most (len_of d) d.date (e ∷ ds) rest (omega (arith, le)) are.2 (λ none. absurd (nothing none)))
  where
    nothing : e ∷ ds ≡ [] → ⊥
    nothing none = cc

pub distance_is : (size o n k : ℕ) → o < size → n < size → k < size → IsPlace size o k n → (n + size - o) % size ≡ k
distance_is size o n k o_below n_below k_below place = ⊎_elim
    (λ is. let once : n + size - o ≡ 1 * size + k = omega (arith, is) in ap (λ (m : ℕ). m % size) once ∙ mod-mul-add 1 size k k_below)
    (λ is. let none : n + size - o ≡ 0 * size + k = omega (arith, is) in ap (λ (m : ℕ). m % size) none ∙ mod-mul-add 0 size k k_below) place

-- the newest day begins inside the string
pub far_below : (r : StringShape) (shape : IsStringShape r) (x : List ℕ) → r.base + (4 + r.size) ≤ length x → (days : List Day) → HoldsDays r x days → far days < r.size
far_below r shape x inside [] h = omega (arith, shape.low)
far_below r shape x inside (d ∷ ds) h = omega (arith, fills r shape x inside (d ∷ ds) h, last_len_is (d ∷ ds), last_least 0 d ds h.ordered)

-- the walk finds the days that an image holds
pub walked : (r : StringShape) (shape : IsStringShape r) (x : List ℕ) → r.base + (4 + r.size) ≤ length x → (days : List Day) → HoldsDays r x days → days_of r x ≡ days
unfolding days_of
walked r shape x inside days h =
    let few : length days ≤ 984 = omega (arith, count_least 0 days h.ordered, fills r shape x inside days h, shape.high) in
    ap (λ (n : ℕ). days_in 984 n (circle_of r x)) (distance_is r.size (oldest_pointer r x) (newest_pointer r x) (far days) h.oldest.below h.newest.below (far_below r shape x inside days h) h.distance)
    ∙ ap (λ (l : List ℕ). days_in 984 (far days) l) h.spelled ∙ walk_same 984 h.previous 0 days h.rest few h.ordered (λ none. sym (ap (λ (l : List ℕ). number (bytes_at l 2 2)) (h.spelled ∙ ap (λ (ds : List Day). records h.previous ds ++ h.rest) none)) ∙ h.empty none)

-- so it holds one list at most
pub one_list : (r : StringShape) (shape : IsStringShape r) (x : List ℕ) → r.base + (4 + r.size) ≤ length x → (days others : List Day) → HoldsDays r x days → HoldsDays r x others → days ≡ others
one_list r shape x inside days others h g = sym (walked r shape x inside days h) ∙ walked r shape x inside others g
