-- What the clause `days` of `keep` alone says where four wrong bodies differ, so that it refuses them.
use Rattle.std.proofs.Common.{◌≡◌, ⊎_elim, ℕ, ◌+◌, ◌/◌, ◌%◌, ◌<◌, Bool, true, cond, List, [], ◌∷◌, ◌++◌, sym, ◌∙◌, ap, arith}
use Rattle.std.specs.Prelude.{◌==◌}
use Rattle.std.proofs.lemmas.Bool.Decides.{nat_tests}
use Rattle.std.proofs.lemmas.List.{append-nil}
use Rattle.gated_ring.specs.Ring.{newest_of}
use Rattle.unit_model.specs.declared.layout.TheConstants.{DAY_SLOTS}
use Rattle.unit_model.specs.Days.{StoredDay, day_of, state_at, bare, word_by}
use Rattle.unit_model.specs.Changes.{change, changes, new_words}
use Rattle.unit_model.specs.Image.{last_kept, unit_days, spare_bytes}
use Rattle.unit_minutes.specs.DaysWith.{day_with, closed_day, begun_day, days_with}
use Rattle.unit_minutes.specs.declared.kept.KeptMinute.{KeptMinute}
use Rattle.unit_minutes.specs.Kept.{coming_of, HasDaysWith}

-- refused: a body that begins a day without its odometer. Of a unit without days, the day that is begun has the minute's
pub begun_odometer : (k : KeptMinute) (x y : List ℕ) → HasDaysWith k x y → unit_days x ≡ [] → (d : StoredDay) → unit_days y ≡ d ∷ [] → d.odometer ≡ k.odometer.0
begun_odometer k x y has none d is =
    let here : unit_days y ≡ begun_day (coming_of k) ∷ [] = has.days ∙ ap (λ (l : List StoredDay). newest_of DAY_SLOTS (days_with (last_kept x) (coming_of k) l)) none in
    let same : d ∷ [] ≡ begun_day (coming_of k) ∷ [] = sym is ∙ here in
    ap (λ (l : List StoredDay). first l) same
  where
    first : List StoredDay → ℕ
    first [] = 0
    first (e ∷ l) = e.odometer

-- refused: a body that clears the odometer of an older day. Where the minute is of the newest day, the day before it stays as it was
pub older_stays : (k : KeptMinute) (x y : List ℕ) → HasDaysWith k x y → (d e : StoredDay) → unit_days x ≡ d ∷ e ∷ [] → day_of e ≡ k.minute / 1440
    → unit_days y ≡ d ∷ day_with (last_kept x) (coming_of k) e ∷ []
older_stays k x y has d e was same =
    let here : (day_of e == k.minute / 1440) ≡ true = grind (arith, nat_tests) in
    has.days ∙ ap (λ (l : List StoredDay). newest_of DAY_SLOTS (days_with (last_kept x) (coming_of k) l)) was
    ∙ ap (λ (b : Bool). newest_of DAY_SLOTS (d ∷ cond b (day_with (last_kept x) (coming_of k) e ∷ []) (closed_day (last_kept x) e ∷ begun_day (coming_of k) ∷ []))) here

-- refused: a body that fills spare bytes. On the same day none changes
pub spare_stays : (k : KeptMinute) (x y : List ℕ) → HasDaysWith k x y → k.minute / 1440 ≡ last_kept x / 1440 → (i : ℕ) → i < DAY_SLOTS → spare_bytes y i ≡ spare_bytes x i
spare_stays k x y has same i low = ⊎_elim (λ was. was) (λ new. absurd (omega (arith, new.0, same))) (has.spare i low)

-- the same state makes no word
change_same : (s t d : ℕ) → change s t d d ≡ []
change_same s t d = let same : (d == d) ≡ true = grind (arith, nat_tests) in ap (λ (b : Bool). cond b [] (word_by s d t ∷ [])) same

-- the same states make no words in the next minute
no_words : (t d c d' c' : ℕ) → d ≡ d' → c ≡ c' → new_words t t d c d' c' ≡ []
no_words t d c d' c' driver codriver =
    let now : (t == t) ≡ true = grind (arith, nat_tests) in
    ap (λ (b : Bool). cond b (changes t d c d' c') (changes t d c bare bare ++ changes t bare bare d' c')) now
    ∙ (λ i. change 0 t (driver i) d' ++ change 1 t (codriver i) c') ∙ (λ i. change_same 0 t d' i ++ change_same 1 t c' i)

-- refused: a body that writes a word that says nothing new. The next minute of the day with the same states changes no day
pub no_word : (k : KeptMinute) (x y : List ℕ) → HasDaysWith k x y → (d : StoredDay) → unit_days x ≡ d ∷ [] → day_of d ≡ k.minute / 1440 → last_kept x % 1440 + 1 ≡ k.minute % 1440
    → state_at 0 (last_kept x % 1440) d.words ≡ (coming_of k).bits.driver → state_at 1 (last_kept x % 1440) d.words ≡ (coming_of k).bits.codriver → unit_days y ≡ d ∷ []
no_word k x y has d was same next driver codriver =
    let here : (day_of d == k.minute / 1440) ≡ true = grind (arith, nat_tests) in
    let t = k.minute % 1440 in
    let bits = (coming_of k).bits in
    let now = state_at 0 (last_kept x % 1440) d.words in
    let then = state_at 1 (last_kept x % 1440) d.words in
    has.days ∙ ap (λ (l : List StoredDay). newest_of DAY_SLOTS (days_with (last_kept x) (coming_of k) l)) was
    ∙ ap (λ (b : Bool). newest_of DAY_SLOTS (cond b (day_with (last_kept x) (coming_of k) d ∷ []) (closed_day (last_kept x) d ∷ begun_day (coming_of k) ∷ []))) here
    ∙ (λ i. record { date = d.date; odometer = d.odometer; words = d.words ++ new_words (next i) t now then bits.driver bits.codriver } ∷ [])
    ∙ (λ i. record { date = d.date; odometer = d.odometer; words = d.words ++ no_words t now then bits.driver bits.codriver driver codriver i } ∷ [])
    ∙ (λ i. record { date = d.date; odometer = d.odometer; words = append-nil d.words i } ∷ [])
