-- Days, their records, and the ends of their list.
use Rattle.std.proofs.Common.{◌≡◌, ℕ, ◌+◌, ◌*◌, ◌%◌, ◌<◌, ◌≤◌, List, [], ◌∷◌, ◌++◌, length, refl, sym, ◌∙◌, ap, arith, append_assoc, length-append}
use Rattle.card_model.specs.Bytes.{two_bytes}
use Rattle.card_model.specs.Days.{Day, len_of, total, far, last_len, word_bytes, record_of, records, AreWords, IsDay, AreDays}

pub word_bytes-append : (ws vs : List ℕ) → word_bytes (ws ++ vs) ≡ word_bytes ws ++ word_bytes vs
word_bytes-append [] vs = refl
word_bytes-append (w ∷ ws) vs = ap (λ (l : List ℕ). two_bytes w ++ l) (word_bytes-append ws vs)

pub word_bytes_length : (ws : List ℕ) → length (word_bytes ws) ≡ 2 * length ws
word_bytes_length [] = refl
word_bytes_length (w ∷ ws) = omega (arith, word_bytes_length ws)

pub record_length : (q : ℕ) (d : Day) → length (record_of q d) ≡ len_of d
record_length q d = omega (arith, word_bytes_length d.words)

pub records_length : (q : ℕ) (ds : List Day) → length (records q ds) ≡ total ds
records_length q [] = refl
records_length q (d ∷ ds) = omega (arith, length-append (record_of q d) (records (len_of d) ds), record_length q d, records_length (len_of d) ds)

-- the length before the days that follow these
abbrev pub previous_of : ℕ → List Day → ℕ
previous_of q [] = q
previous_of q (d ∷ ds) = previous_of (len_of d) ds

pub records-append : (q : ℕ) (ds es : List Day) → records q (ds ++ es) ≡ records q ds ++ records (previous_of q ds) es
records-append q [] es = refl
records-append q (d ∷ ds) es = ap (λ (l : List ℕ). record_of q d ++ l) (records-append (len_of d) ds es) ∙ sym (append_assoc (record_of q d) (records (len_of d) ds) (records (previous_of (len_of d) ds) es))

pub total-append : (ds es : List Day) → total (ds ++ es) ≡ total ds + total es
total-append [] es = omega arith
total-append (d ∷ ds) es = omega (arith, total-append ds es)

-- the newest of some days begins behind all others
pub far_last : (ds : List Day) (d : Day) → far (ds ++ d ∷ []) ≡ total ds
far_last [] d = refl
far_last (e ∷ []) d = refl
far_last (e ∷ f ∷ ds) d = ap (λ (n : ℕ). len_of e + n) (far_last (f ∷ ds) d)

-- a part of the days at their new end
pub days_after : (date : ℕ) (d : Day) (ds : List Day) → AreDays date (d ∷ ds) → AreDays 0 ds
days_after date d [] are = tt
days_after date d (e ∷ ds) are = (omega (arith, are.2.0), are.2.1, are.2.2)

-- the last of the days
pub last_is : (date : ℕ) (ds : List Day) (d : Day) → AreDays date (ds ++ d ∷ []) → IsDay d
last_is date [] d are = are.1
last_is date (e ∷ ds) d are = last_is e.date ds d are.2

pub last_len_is : (days : List Day) → far days + last_len days ≡ total days
last_len_is [] = refl
last_len_is (d ∷ []) = omega arith
last_len_is (d ∷ e ∷ ds) = omega (arith, last_len_is (e ∷ ds))

pub last_len_last : (ds : List Day) (d : Day) → last_len (ds ++ d ∷ []) ≡ len_of d
last_len_last [] d = refl
last_len_last (e ∷ []) d = refl
last_len_last (e ∷ f ∷ ds) d = last_len_last (f ∷ ds) d

-- the length of a day
pub len_even : (d : Day) → len_of d % 2 ≡ 0
len_even d = omega arith

pub len_most : (d : Day) → IsDay d → len_of d ≤ 2892
len_most d is = omega (arith, is.most)

pub some_words : (ws : List ℕ) → AreWords ws → 0 < length ws
some_words [] are = absurd are
some_words (w ∷ ws) are = omega arith

pub len_least : (d : Day) → IsDay d → 14 ≤ len_of d
len_least d is = omega (arith, some_words d.words is.ordered)

pub last_least : (date : ℕ) (d : Day) (ds : List Day) → AreDays date (d ∷ ds) → 14 ≤ last_len (d ∷ ds)
last_least date d [] are = len_least d are.1
last_least date d (e ∷ ds) are = last_least d.date e ds are.2

-- there are few days in a string
pub count_least : (date : ℕ) (days : List Day) → AreDays date days → 14 * length days ≤ total days
count_least date [] are = omega arith
count_least date (d ∷ ds) are = omega (arith, len_least d are.1, count_least d.date ds are.2)

pub previous_last : (q : ℕ) (ds : List Day) (d : Day) → previous_of q (ds ++ d ∷ []) ≡ len_of d
previous_last q [] d = refl
previous_last q (e ∷ ds) d = previous_last (len_of e) ds d

pub front_days : (date : ℕ) (ds es : List Day) → AreDays date (ds ++ es) → AreDays date ds
front_days date [] es are = tt
front_days date (d ∷ ds) es are = (are.0, are.1, front_days d.date ds es are.2)
