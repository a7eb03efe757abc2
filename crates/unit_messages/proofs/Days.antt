-- The change words in the message of a day.
use Rattle.std.proofs.Common.{◌≡◌, ℕ, zero, suc, ◌+◌, ◌-◌, ◌*◌, ◌<◌, ◌≤◌, ◌^◌, Bool, true, false, List, [], ◌∷◌, ◌++◌, length, map, refl, sym, ◌∙◌, ap, subst, append_assoc, length-append, All, arith}
use Rattle.std.specs.Prelude.{nat_lt, slice_index, ◌&&◌}
use Rattle.std.proofs.lemmas.Bool.Decides.{nat_tests}
use Rattle.std.proofs.lemmas.List.Folds.{list_all-append}
use Rattle.std.proofs.lemmas.List.Elements.{All-nil, All-cons}
use Rattle.unit_model.proofs.Checks.{and_split, and_join}
use Rattle.std.proofs.lemmas.List.{drop_at}
use Rattle.byteorder.specs.Endian.{big_number, big_bytes}
use Rattle.byteorder.specs.Numbers.{length-bytes_high_first, big_from-lt}
use Rattle.card_layout.specs.Images.{number_at}
use Rattle.card_layout.specs.Fields.{joined, IsBytes}
use Rattle.card_layout.proofs.Numbers.{big_bytes-big_number}
use Rattle.card_layout.proofs.Cuts.{IsBytes-drop}
use Rattle.unit_model.specs.Days.{word_minute}
use Rattle.unit_model.specs.Image.{words_at}
use Rattle.unit_model.proofs.Words.{words_split}
use Rattle.message_model.specs.Messages.{DayMessage, AreEntries, counted, word_bytes, day_bytes}
use Rattle.unit_messages.specs.Parts.{words_place, word_count, are_words}
use Rattle.unit_messages.proofs.Cutting.{number_behind, joined_length}

-- each is below 65536
abbrev pub Low : List ℕ → Type 0
Low [] = Unit {0}
Low (w ∷ ws) = (w < 256 ^ 2) × Low ws

pub all_low : (ws : List ℕ) → All (λ w. (w < 2 ^ 16) × (word_minute w < 1440)) ws → Low ws
all_low [] all = tt
all_low (w ∷ ws) all = ((all 0 w (omega arith)).0, all_low ws (λ k d low. all (suc k) d (omega (arith, low))))

-- the words that stand behind some bytes
pub words_behind : (pre ws tail : List ℕ) → Low ws → words_at (pre ++ (joined (word_bytes ws) ++ tail)) (length pre) (length ws) ≡ ws
words_behind pre [] tail low = refl
words_behind pre (w ∷ ws) tail low =
    let more = joined (word_bytes ws) ++ tail in
    let b = pre ++ ((big_bytes 2 w ++ joined (word_bytes ws)) ++ tail) in
    let spelled : b ≡ pre ++ (big_bytes 2 w ++ more) = ap (λ (l : List ℕ). pre ++ l) (append_assoc (big_bytes 2 w) (joined (word_bytes ws)) tail) in
    let shifted : b ≡ (pre ++ big_bytes 2 w) ++ more = spelled ∙ sym (append_assoc pre (big_bytes 2 w) more) in
    let long : length (pre ++ big_bytes 2 w) ≡ length pre + 2 = length-append pre (big_bytes 2 w) ∙ ap (λ (m : ℕ). length pre + m) (length-bytes_high_first 2 w) in
    let first : number_at b (length pre + 2 * 0) 2 ≡ w =
    ap (λ (m : ℕ). number_at b m 2) (let e : length pre + 2 * 0 ≡ length pre = omega arith in e) ∙ ap (λ (l : List ℕ). number_at l (length pre) 2) spelled ∙ number_behind pre more 2 w low.0 in
    let rest : words_at b (length pre + 2 * 1) (length ws) ≡ ws =
    ap (λ (l : List ℕ). words_at l (length pre + 2 * 1) (length ws)) shifted
    ∙ ap (λ (m : ℕ). words_at ((pre ++ big_bytes 2 w) ++ more) m (length ws)) (let e : length pre + 2 * 1 ≡ length (pre ++ big_bytes 2 w) = omega (arith, long) in e)
    ∙ words_behind (pre ++ big_bytes 2 w) ws tail low.1 in
    ap (words_at b (length pre)) (let e : suc (length ws) ≡ 1 + length ws = omega arith in e) ∙ words_split b (length pre) 1 (length ws) ∙ (λ t. first t ∷ rest t)

-- how many bytes words have
pub words_length : (ws : List ℕ) → length (joined (word_bytes ws)) ≡ 2 * length ws
words_length [] = refl
words_length (w ∷ ws) = omega (arith, length-append (big_bytes 2 w) (joined (word_bytes ws)), length-bytes_high_first 2 w, words_length ws)

pub words_many : (ws : List ℕ) → length (word_bytes ws) ≡ length ws
words_many [] = refl
words_many (w ∷ ws) = ap suc (words_many ws)

-- entries of two bytes are words
pub entry_words : (es : List (List ℕ)) → All (λ e. length e ≡ 2) es → IsBytes (joined es) → word_bytes (map (big_number 2) es) ≡ es
entry_words [] all bytes = refl
entry_words (e ∷ es) all bytes =
    let long : length e ≡ 2 = all 0 e (omega arith) in
    let first : IsBytes e = λ i. front e (joined es) i bytes in
    let more : IsBytes (joined es) = subst IsBytes (drop_at e (joined es) (length e) refl) (IsBytes-drop (length e) (e ++ joined es) bytes) in
    let rest = entry_words es (λ k d low. all (suc k) d (omega (arith, low))) more in
    λ t. big_bytes-big_number 2 e long first t ∷ rest t
  where
    front : (a b : List ℕ) (i : ℕ) → IsBytes (a ++ b) → slice_index a i < 256
    front [] b i all = omega arith
    front (x ∷ a) b zero all = all 0
    front (x ∷ a) b (suc i) all = front a b i (λ j. all (suc j))

pub entry_words_low : (es : List (List ℕ)) → All (λ e. length e ≡ 2) es → IsBytes (joined es) → Low (map (big_number 2) es)
entry_words_low [] all bytes = tt
entry_words_low (e ∷ es) all bytes =
    let more : IsBytes (joined es) = subst IsBytes (drop_at e (joined es) (length e) refl) (IsBytes-drop (length e) (e ++ joined es) bytes) in
    (big_from-lt 0 2 e (λ i. front e (joined es) i bytes), entry_words_low es (λ k d low. all (suc k) d (omega (arith, low))) more)
  where
    front : (a b : List ℕ) (i : ℕ) → IsBytes (a ++ b) → slice_index a i < 256
    front [] b i all = omega arith
    front (x ∷ a) b zero all = all 0
    front (x ∷ a) b (suc i) all = front a b i (λ j. all (suc j))

-- where the fields of a day's message stand that are read by their places
pub record IsLaid (m : DayMessage) (b : List ℕ) : Type 0 where
  pub date : number_at b 2 4 ≡ m.date
  pub place : words_place b ≡ 13 + 129 * length m.insertions
  pub count : word_count b ≡ length m.words
  pub words : words_at b (words_place b) (word_count b) ≡ m.words
  pub inside : words_place b + 2 * word_count b ≤ length b

laid_by : (u v : ℕ) (date odometer ins words places conditions signature rest : List ℕ)
    → (u ∷ v ∷ (date ++ (odometer ++ (ins ++ (words ++ (places ++ (conditions ++ (signature ++ []))))))) ++ rest)
    ≡ (u ∷ v ∷ (date ++ odometer)) ++ (ins ++ (words ++ (places ++ (conditions ++ (signature ++ rest)))))
laid_by u v date odometer ins words places conditions signature rest = simp append_assoc

pub day_laid : (u v : ℕ) (m : DayMessage) (rest : List ℕ) → m.date < 2 ^ 32 → AreEntries 2 129 m.insertions → length m.words < 2 ^ 16 → Low m.words → IsLaid m ((u ∷ v ∷ day_bytes m) ++ rest)
day_laid u v m rest low_date ins few low =
    let n = length m.insertions in
    let b = (u ∷ v ∷ day_bytes m) ++ rest in
    let date = big_bytes 4 m.date in
    let odometer = big_bytes 3 m.odometer in
    let after_words = counted 1 m.places ++ (counted 2 m.conditions ++ (m.signature ++ rest)) in
    let pre = u ∷ v ∷ (date ++ odometer) in
    let pre_long : length pre ≡ 9 = omega (arith, length-append date odometer, length-bytes_high_first 4 m.date, length-bytes_high_first 3 m.odometer) in
    let all : b ≡ pre ++ (counted 2 m.insertions ++ (counted 2 (word_bytes m.words) ++ after_words)) =
    laid_by u v date odometer (counted 2 m.insertions) (counted 2 (word_bytes m.words)) (counted 1 m.places) (counted 2 m.conditions) m.signature rest in
    let from_count : b ≡ pre ++ (big_bytes 2 n ++ (joined m.insertions ++ (counted 2 (word_bytes m.words) ++ after_words))) =
    all ∙ ap (λ (l : List ℕ). pre ++ l) (append_assoc (big_bytes 2 n) (joined m.insertions) (counted 2 (word_bytes m.words) ++ after_words)) in
    let date_is : number_at b 2 4 ≡ m.date = ap (λ (l : List ℕ). number_at l 2 4) (date_first date odometer (counted 2 m.insertions ++ (counted 2 (word_bytes m.words) ++ after_words)) b all) ∙ number_behind (u ∷ v ∷ []) (odometer ++ (counted 2 m.insertions ++ (counted 2 (word_bytes m.words) ++ after_words))) 4 m.date low_date in
    let many : number_at b 9 2 ≡ n = ap (λ (p : ℕ). number_at b p 2) (sym pre_long) ∙ ap (λ (l : List ℕ). number_at l (length pre) 2) from_count
    ∙ number_behind pre (joined m.insertions ++ (counted 2 (word_bytes m.words) ++ after_words)) 2 n ins.few in
    let pre2 = pre ++ counted 2 m.insertions in
    let pre2_long : length pre2 ≡ 11 + 129 * n = omega (arith, length-append pre (counted 2 m.insertions), length-append (big_bytes 2 n) (joined m.insertions), length-bytes_high_first 2 n, joined_length 129 m.insertions ins.sized, pre_long) in
    let k = length m.words in
    let words = joined (word_bytes m.words) in
    let at_words : b ≡ pre2 ++ (big_bytes 2 k ++ (words ++ after_words)) =
    all ∙ sym (append_assoc pre (counted 2 m.insertions) (counted 2 (word_bytes m.words) ++ after_words))
    ∙ ap (λ (l : List ℕ). pre2 ++ l) (append_assoc (big_bytes 2 (length (word_bytes m.words))) words after_words)
    ∙ ap (λ (c : ℕ). pre2 ++ (big_bytes 2 c ++ (words ++ after_words))) (words_many m.words) in
    let place : words_place b ≡ 13 + 129 * n = ap (λ (c : ℕ). 13 + 129 * c) many in
    let count : word_count b ≡ k = ap (λ (p : ℕ). number_at b p 2) (let e : words_place b - 2 ≡ length pre2 = omega (arith, place, pre2_long) in e)
    ∙ ap (λ (l : List ℕ). number_at l (length pre2) 2) at_words ∙ number_behind pre2 (words ++ after_words) 2 k few in
    let pre3 = pre2 ++ big_bytes 2 k in
    let pre3_long : length pre3 ≡ 13 + 129 * n = omega (arith, length-append pre2 (big_bytes 2 k), length-bytes_high_first 2 k, pre2_long) in
    let at_first : b ≡ pre3 ++ (words ++ after_words) = at_words ∙ sym (append_assoc pre2 (big_bytes 2 k) (words ++ after_words)) in
    record {
      date = date_is;
      place = place;
      count = count;
      words = (λ t. words_at b (place t) (count t)) ∙ ap (λ (p : ℕ). words_at b p k) (sym pre3_long) ∙ ap (λ (l : List ℕ). words_at l (length pre3) k) at_first ∙ words_behind pre3 m.words after_words low;
      inside = omega (arith, place, count, ap length at_first, length-append pre3 (words ++ after_words), length-append words after_words, words_length m.words, pre3_long);
    }
  where
    date_first : (date odometer more b : List ℕ) → b ≡ (u ∷ v ∷ (date ++ odometer)) ++ more → b ≡ (u ∷ v ∷ []) ++ (date ++ (odometer ++ more))
    date_first date odometer more b is = is ∙ ap (λ (l : List ℕ). u ∷ v ∷ l) (append_assoc date odometer more)

-- words that are tested are those of the day
pub words_tested : (ws : List ℕ) → Low ws → are_words ws ≡ true → All (λ w. (w < 2 ^ 16) × (word_minute w < 1440)) ws
words_tested [] low is = All-nil (λ w. (w < 2 ^ 16) × (word_minute w < 1440))
words_tested (w ∷ ws) low is =
    let both = and_split (nat_lt (word_minute w) 1440) (are_words ws) is in
    All-cons (λ w. (w < 2 ^ 16) × (word_minute w < 1440)) w ws (low.0, lt_of (word_minute w) 1440 both.0) (words_tested ws low.1 both.1)
  where
    lt_of : (a b : ℕ) → nat_lt a b ≡ true → a < b
    lt_of a b is = grind (arith, nat_tests)

pub words_pass : (ws : List ℕ) → All (λ w. (w < 2 ^ 16) × (word_minute w < 1440)) ws → are_words ws ≡ true
words_pass [] all = refl
words_pass (w ∷ ws) all =
    and_join (nat_lt (word_minute w) 1440) (are_words ws) (lt_true (word_minute w) 1440 (all 0 w (omega arith)).1) (words_pass ws (λ k d low. all (suc k) d (omega (arith, low))))
  where
    lt_true : (a b : ℕ) → a < b → nat_lt a b ≡ true
    lt_true a b low = grind (arith, nat_tests)

-- a word more that passes, and one that does not
pub words_on : (b : List ℕ) (p n w : ℕ) → w ≡ number_at b (p + 2 * n) 2 → words_at b p (n + 1) ≡ words_at b p n ++ w ∷ []
words_on b p n w is = words_split b p n 1 ∙ ap (λ (v : ℕ). words_at b p n ++ v ∷ []) (ap (λ (q : ℕ). number_at b q 2) (let e : p + 2 * n + 2 * 0 ≡ p + 2 * n = omega arith in e) ∙ sym is)

pub words_more_pass : (b : List ℕ) (p n w : ℕ) → w ≡ number_at b (p + 2 * n) 2 → are_words (words_at b p n) ≡ true → word_minute w < 1440 → are_words (words_at b p (n + 1)) ≡ true
words_more_pass b p n w is so_far low =
    ap are_words (words_on b p n w is) ∙ list_all-append (λ v. nat_lt (word_minute v) 1440) (words_at b p n) (w ∷ [])
    ∙ and_join (are_words (words_at b p n)) (are_words (w ∷ [])) so_far (let t : nat_lt (word_minute w) 1440 ≡ true = grind (arith, nat_tests) in ap (λ (v : Bool). v && true) t)

pub words_stop : (b : List ℕ) (p n m w : ℕ) → w ≡ number_at b (p + 2 * n) 2 → n < m → 1440 ≤ word_minute w → are_words (words_at b p m) ≡ false
words_stop b p n m w is less high =
    let P = λ (v : ℕ). nat_lt (word_minute v) 1440 in
    let rest = words_at b (p + 2 * (n + 1)) (m - (n + 1)) in
    let fails : nat_lt (word_minute w) 1440 ≡ false = grind (arith, nat_tests) in
    ap (λ (k : ℕ). are_words (words_at b p k)) (let e : m ≡ n + 1 + (m - (n + 1)) = omega (arith, less) in e)
    ∙ ap are_words (words_split b p (n + 1) (m - (n + 1))) ∙ list_all-append P (words_at b p (n + 1)) rest
    ∙ ap (λ (t : Bool). t && are_words rest) (ap are_words (words_on b p n w is) ∙ list_all-append P (words_at b p n) (w ∷ []) ∙ ap (λ (t : Bool). are_words (words_at b p n) && (t && true)) fails ∙ neither (are_words (words_at b p n)))
  where
    neither : (a : Bool) → a && false ≡ false
    neither true = refl
    neither false = refl
