-- Whether the words of a day rise, word by word.
use Rattle.std.proofs.Common.{◌≡◌, ℕ, suc, ◌+◌, ◌<◌, ◌≤◌, Bool, true, false, cond, Option, Some, None, List, [], ◌∷◌, ◌++◌, length, get_or, drop, refl, sym, ◌∙◌, ap, arith, add-one, drop_of_length-le}
use Rattle.std.specs.Prelude.{nat_le, nat_lt, if◌then◌else◌}
use Rattle.std.proofs.Math.Seq.{drop-cons}
use Rattle.std.proofs.lemmas.Grind.{common_steps}
use Rattle.std.proofs.lemmas.Bool.{le-leb}
use Rattle.activity_codec.specs.Words.{word_minute}
use Rattle.card_image.specs.card_model.Days.{Day, total, len_of}
use Rattle.card_image.specs.card_model.Changes.{early}
use Rattle.card_image.specs.card_model.Checks.{first_failing, file_place}
use Rattle.card_image.specs.Judging.{PlacedWord, words_placed, rising_checks, newest_rises}
use Rattle.card_validity.specs.Words.{passes_after}

-- the place of the first of these words, up to a minute of the day, that is not later than the one before it
abbrev pub rising_after : (size oldest so_far limit : ℕ) → Option ℕ → List ℕ → Option ℕ
rising_after size oldest so_far limit before [] = None
rising_after size oldest so_far limit before (w ∷ ws) =
    if nat_le (word_minute w) limit
    then (if passes_after before (word_minute w) then rising_after size oldest (so_far + 2) limit (Some (word_minute w)) ws else Some (file_place size oldest so_far))
    else None

-- behind a word
rising_behind : (size oldest so_far date limit : ℕ) (p : PlacedWord) (ws : List ℕ)
    → first_failing (rising_checks (p ∷ words_placed size oldest so_far date (early limit ws))) ≡ rising_after size oldest so_far limit (Some (word_minute p.word)) ws
rising_behind size oldest so_far date limit p [] = refl
rising_behind size oldest so_far date limit p (w ∷ ws) =
    by (nat_le (word_minute w) limit) (rising_behind size oldest (so_far + 2) date limit (record { date = date; word = w; place = file_place size oldest so_far }) ws)
  where
    by : (t : Bool)
        → first_failing (rising_checks (record { date = date; word = w; place = file_place size oldest so_far } ∷ words_placed size oldest (so_far + 2) date (early limit ws))) ≡ rising_after size oldest (so_far + 2) limit (Some (word_minute w)) ws
        → first_failing (rising_checks (p ∷ words_placed size oldest so_far date (cond t (w ∷ early limit ws) [])))
        ≡ cond t (cond (nat_lt (word_minute p.word) (word_minute w)) (rising_after size oldest (so_far + 2) limit (Some (word_minute w)) ws) (Some (file_place size oldest so_far))) None
    by true rest = ap (λ (o : Option ℕ). cond (nat_lt (word_minute p.word) (word_minute w)) o (Some (file_place size oldest so_far))) rest
    by false rest = refl

-- from the first word on
pub rising_is : (size oldest so_far date limit : ℕ) (ws : List ℕ) → rising_after size oldest so_far limit None ws ≡ first_failing (rising_checks (words_placed size oldest so_far date (early limit ws)))
rising_is size oldest so_far date limit [] = refl
rising_is size oldest so_far date limit (w ∷ ws) =
    by (nat_le (word_minute w) limit) (rising_behind size oldest (so_far + 2) date limit (record { date = date; word = w; place = file_place size oldest so_far }) ws)
  where
    by : (t : Bool)
        → first_failing (rising_checks (record { date = date; word = w; place = file_place size oldest so_far } ∷ words_placed size oldest (so_far + 2) date (early limit ws))) ≡ rising_after size oldest (so_far + 2) limit (Some (word_minute w)) ws
        → cond t (rising_after size oldest (so_far + 2) limit (Some (word_minute w)) ws) None ≡ first_failing (rising_checks (words_placed size oldest so_far date (cond t (w ∷ early limit ws) [])))
    by true rest = sym rest
    by false rest = refl

-- one word more
module _ (size oldest so_far limit : ℕ) (before : Option ℕ) (ws : List ℕ) (i w : ℕ) (there : i < length ws) (is : w ≡ get_or ws i 0) where
  next : drop i ws ≡ w ∷ drop (i + 1) ws
  next = drop-cons ws i 0 there ∙ ap (λ (v : ℕ). v ∷ drop (suc i) ws) (sym is) ∙ ap (λ (k : ℕ). w ∷ drop k ws) (sym (add-one i))

  step : rising_after size oldest so_far limit before (drop i ws)
      ≡ cond (nat_le (word_minute w) limit) (cond (passes_after before (word_minute w)) (rising_after size oldest (so_far + 2) limit (Some (word_minute w)) (drop (i + 1) ws)) (Some (file_place size oldest so_far))) None
  step = ap (rising_after size oldest so_far limit before) next

  pub rising_past : limit < word_minute w → rising_after size oldest so_far limit before (drop i ws) ≡ None
  rising_past late =
      let test : nat_le (word_minute w) limit ≡ false = grind (arith, common_steps) in
      step ∙ ap (λ (t : Bool). cond t (cond (passes_after before (word_minute w)) (rising_after size oldest (so_far + 2) limit (Some (word_minute w)) (drop (i + 1) ws)) (Some (file_place size oldest so_far))) None) test

  module _ (early_enough : word_minute w ≤ limit) where
    in_time : nat_le (word_minute w) limit ≡ true
    in_time = le-leb (word_minute w) limit early_enough

    into : (t : Bool) → passes_after before (word_minute w) ≡ t → rising_after size oldest so_far limit before (drop i ws) ≡ cond t (rising_after size oldest (so_far + 2) limit (Some (word_minute w)) (drop (i + 1) ws)) (Some (file_place size oldest so_far))
    into t test =
        step ∙ ap (λ (b : Bool). cond b (cond (passes_after before (word_minute w)) (rising_after size oldest (so_far + 2) limit (Some (word_minute w)) (drop (i + 1) ws)) (Some (file_place size oldest so_far))) None) in_time
        ∙ ap (λ (b : Bool). cond b (rising_after size oldest (so_far + 2) limit (Some (word_minute w)) (drop (i + 1) ws)) (Some (file_place size oldest so_far))) test

    pub rising_goes : passes_after before (word_minute w) ≡ true → (k : ℕ) → k ≡ so_far + 2 → rising_after size oldest so_far limit before (drop i ws) ≡ rising_after size oldest k limit (Some (word_minute w)) (drop (i + 1) ws)
    rising_goes test k is_next = into true test ∙ ap (λ (n : ℕ). rising_after size oldest n limit (Some (word_minute w)) (drop (i + 1) ws)) (sym is_next)

    pub rising_fails : passes_after before (word_minute w) ≡ false → rising_after size oldest so_far limit before (drop i ws) ≡ Some (file_place size oldest so_far)
    rising_fails test = into false test

pub rising_done : (size oldest so_far limit : ℕ) (before : Option ℕ) (ws : List ℕ) (i : ℕ) → length ws ≤ i → rising_after size oldest so_far limit before (drop i ws) ≡ None
rising_done size oldest so_far limit before ws i past = ap (rising_after size oldest so_far limit before) (drop_of_length-le ws past)

-- no word is later than 2047
pub early_all : (ws : List ℕ) → early 2047 ws ≡ ws
early_all [] = refl
early_all (w ∷ ws) =
    let low : word_minute w ≤ 2047 = omega arith in
    ap (λ (t : Bool). cond t (w ∷ early 2047 ws) []) (le-leb (word_minute w) 2047 low) ∙ ap (λ (l : List ℕ). w ∷ l) (early_all ws)

-- the newest of days is the last of them
pub newest_rises-last : (size oldest k : ℕ) (older : List Day) (d : Day) (n : ℕ) → n ≡ k + total older → newest_rises size oldest k (older ++ d ∷ []) ≡ rising_checks (words_placed size oldest (n + 12) d.date d.words)
newest_rises-last size oldest k [] d n is =
    let same : k + 12 ≡ n + 12 = omega (arith, is) in
    ap (λ (m : ℕ). rising_checks (words_placed size oldest m d.date d.words)) same
newest_rises-last size oldest k (o ∷ []) d n is = newest_rises-last size oldest (k + len_of o) [] d n (omega (arith, is))
newest_rises-last size oldest k (o ∷ p ∷ os) d n is = newest_rises-last size oldest (k + len_of o) (p ∷ os) d n (omega (arith, is))
