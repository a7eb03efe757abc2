-- The words that are kept of a day: one word more before them, and the word that decides a run.
use Rattle.std.proofs.Common.{◌≡◌, ◌⊎◌, inl, inr, ⊎_elim, ◌∙◌, ℕ, zero, suc, ◌+◌, ◌-◌, ◌<◌, ◌≤◌, Bool, true, false, Option, Some, None, option_map, List, [], ◌∷◌, length, take, drop, replicate, get_or, set, refl, ap, sym, subst, arith, length-drop}
use Rattle.std.specs.Prelude.{nat_le, nat_lt, is_some, slice_get, if◌then◌else◌}
use Rattle.std.specs.List.{AllByRecursion}
use Rattle.std.specs.List.Sorted.{IsNonDecreasingBy}
use Rattle.std.proofs.lemmas.Bool.{ltb-true, ltb-false}
use Rattle.std.proofs.lemmas.Bool.Decides.{nat_tests}
use Rattle.std.proofs.Math.ListN.{drop_of_length-le}
use Rattle.std.proofs.Math.Seq.{take-length}
use Rattle.std.proofs.lemmas.List.{drop-set}
use Rattle.activity_codec.specs.Words.{change_of, word_minute}
use Rattle.card_retention.specs.Entries.{latest}
use Rattle.file_view.specs.declared.day_words.Run.{Run}
use Rattle.file_view.specs.Kept.{first_minute, word_before, AreKept}
use Rattle.file_view.specs.Deciding.{IsRun}

split : (t n : ℕ) → (t < n) ⊎ (n ≤ t)
split t n = by (nat_lt t n) refl
  where
    by : (b : Bool) → nat_lt t n ≡ b → (t < n) ⊎ (n ≤ t)
    by true is = inl (ltb-true t n is)
    by false is = inr (ltb-false t n is)

-- where a later word decides, where the word itself does, and where none does
latest_some : (w : ℕ) (ws : List ℕ) (t : ℕ) → is_some (latest ws t) ≡ true → latest (w ∷ ws) t ≡ latest ws t
latest_some w ws t is = by (latest ws t) refl is
  where
    by : (o : Option ℕ) → latest ws t ≡ o → is_some o ≡ true → latest (w ∷ ws) t ≡ latest ws t
    by (Some v) eq some = rw eq refl
    by None eq some = absurd (cc)

latest_own : (w : ℕ) (ws : List ℕ) (t : ℕ) → latest ws t ≡ None → word_minute w ≤ t → latest (w ∷ ws) t ≡ Some w
latest_own w ws t none le = let yes : nat_le (word_minute w) t ≡ true = grind (arith, nat_tests) in rw (none, yes) refl

latest_before : (w : ℕ) (ws : List ℕ) (t : ℕ) → t < word_minute w → latest (w ∷ ws) t ≡ latest ws t
latest_before w ws t lt = by (latest ws t) refl
  where
    no : nat_le (word_minute w) t ≡ false
    no = grind (arith, nat_tests)

    by : (o : Option ℕ) → latest ws t ≡ o → latest (w ∷ ws) t ≡ latest ws t
    by (Some v) eq = rw eq refl
    by None eq = rw (eq, no) refl

-- some word decides each minute from that of the first one on
some_from : (ws : List ℕ) (t : ℕ) → first_minute ws ≤ t → t < 1440 → is_some (latest ws t) ≡ true
some_from [] t le low = absurd (omega (arith, le, low))
some_from (w ∷ ws) t le low = by (latest ws t) refl
  where
    by : (o : Option ℕ) → latest ws t ≡ o → is_some (latest (w ∷ ws) t) ≡ true
    by (Some v) eq = rw eq refl
    by None eq = ap is_some (latest_own w ws t eq le)

-- a word that is earlier than all that are kept is kept
first_least : (ws : List ℕ) → IsNonDecreasingBy word_minute ws → (j d : ℕ) → j < length ws → first_minute ws ≤ word_minute (get_or ws j d)
first_least [] order j d low = absurd (omega (arith, low))
first_least (w ∷ ws) order j d low = order 0 j d (omega arith) low

order_more : (w : ℕ) (ws : List ℕ) → IsNonDecreasingBy word_minute ws → word_minute w < first_minute ws → IsNonDecreasingBy word_minute (w ∷ ws)
order_more w ws order lt zero zero d le low = omega arith
order_more w ws order lt zero (suc j) d le low = let least = first_least ws order j d (omega (arith, low)) in omega (arith, least, lt)
order_more w ws order lt (suc i) zero d le low = absurd (omega (arith, le))
order_more w ws order lt (suc i) (suc j) d le low = order i j d (omega (arith, le)) (omega (arith, low))

first_low : (ws : List ℕ) → AllByRecursion (λ (w : ℕ). word_minute w < 1440) ws → first_minute ws ≤ 1440
first_low [] low = omega arith
first_low (w ∷ ws) low = omega (arith, low.0)

pub kept_more : (kept : List ℕ) (first w : ℕ) (words : List ℕ) → AreKept kept first words → word_minute w < first → AreKept (w ∷ kept) (word_minute w) (w ∷ words)
kept_more kept first w words are lt =
    let before : word_minute w < first_minute kept = subst (λ (n : ℕ). word_minute w < n) are.first_is lt in
    let most = first_low kept are.low in
    record {
      order = order_more w kept are.order before;
      low = (omega (arith, before, most), are.low);
      first_is = refl;
      same = λ t low. ap (λ (o : Option ℕ). elim o as (λ _. Option ℕ) [ Some v ↦ Some v | None ↦ if nat_le (word_minute w) t then Some w else None ]) (are.same t low);
    }

-- one that is not decides none
pub kept_same : (kept : List ℕ) (first w : ℕ) (words : List ℕ) → AreKept kept first words → first ≤ word_minute w → AreKept kept first (w ∷ words)
kept_same kept first w words are le = record {
  order = are.order;
  low = are.low;
  first_is = are.first_is;
  same = λ t low. are.same t low ∙ sym (still t low);
}
  where
    still : (t : ℕ) → t < 1440 → latest (w ∷ words) t ≡ latest words t
    still t low = ⊎_elim
        (λ before. latest_before w words t before)
        (λ later.
        let from : first_minute kept ≤ t = subst (λ (n : ℕ). n ≤ t) are.first_is (omega (arith, le, later)) in
        latest_some w words t (ap is_some (sym (are.same t low)) ∙ some_from kept t from low))
        (split t (word_minute w))

-- where the kept words stand
pub kept_set : (words : List ℕ) (from first minute w : ℕ) (came : List ℕ) → length words ≡ 1440 → from ≤ 1440 → first ≤ from → minute < first → minute ≡ word_minute w
    → AreKept (drop from words) first came → AreKept (drop (from - 1) (set words (from - 1) w)) minute (w ∷ came)
kept_set words from first minute w came size inside room lt minute_is are =
    let behind : from - 1 + 1 ≡ from = omega (arith, room, lt) in
    let front : drop (from - 1) (set words (from - 1) w) ≡ w ∷ drop from words =
    drop-set words (from - 1) w (omega (arith, size, inside, room, lt)) ∙ ap (λ (n : ℕ). w ∷ drop n words) behind in
    subst (λ (l : List ℕ). AreKept l minute (w ∷ came)) (sym front)
    (subst (λ (n : ℕ). AreKept (w ∷ drop from words) n (w ∷ came)) (sym minute_is)
    (kept_more (drop from words) first w came are (omega (arith, minute_is, lt))))

-- no word came
pub none_kept : AreKept (drop 1440 (replicate 1440 0)) 1440 []
none_kept = record { order = λ i j d le low. absurd (omega (arith, low)); low = tt; first_is = refl; same = λ t low. refl }

-- so many words are not later than a minute, and those behind them are
latest_at : (ws : List ℕ) (n t : ℕ) → n ≤ length ws → ((k : ℕ) → k < n → word_minute (get_or ws k 0) ≤ t) → ((k : ℕ) → n ≤ k → k < length ws → t < word_minute (get_or ws k 0)) → latest ws t ≡ word_before ws n
latest_at [] zero t most before behind = refl
latest_at [] (suc n) t most before behind = absurd (omega (arith, most))
latest_at (w ∷ ws) zero t most before behind =
    latest_before w ws t (behind 0 (omega arith) (omega arith))
    ∙ latest_at ws zero t (omega arith) (λ k lt. absurd (omega (arith, lt))) (λ k le lt. behind (suc k) (omega arith) (omega (arith, lt)))
latest_at (w ∷ ws) (suc zero) t most before behind =
    latest_own w ws t (latest_at ws zero t (omega arith) (λ k lt. absurd (omega (arith, lt))) (λ k le lt. behind (suc k) (omega arith) (omega (arith, lt)))) (before 0 (omega arith))
latest_at (w ∷ ws) (suc (suc n)) t most before behind =
    let rest : latest ws t ≡ slice_get ws n =
    latest_at ws (suc n) t (omega (arith, most)) (λ k lt. before (suc k) (omega (arith, lt))) (λ k le lt. behind (suc k) (omega (arith, le)) (omega (arith, lt))) in
    latest_some w ws t (ap is_some rest ∙ there ws n (omega (arith, most))) ∙ rest
  where
    there : (ws : List ℕ) (n : ℕ) → n < length ws → is_some (slice_get ws n) ≡ true
    there [] n low = absurd (omega (arith, low))
    there (w ∷ ws) zero low = refl
    there (w ∷ ws) (suc n) low = there ws n (omega (arith, low))

-- the last of so many words
pub low_at : (ws : List ℕ) → AllByRecursion (λ (w : ℕ). word_minute w < 1440) ws → (k : ℕ) → k < length ws → word_minute (get_or ws k 0) < 1440
low_at [] low k inside = absurd (omega (arith, inside))
low_at (w ∷ ws) low zero inside = low.0
low_at (w ∷ ws) low (suc k) inside = low_at ws low.1 k (omega (arith, inside))

pub word_there : (ws : List ℕ) (n : ℕ) → 0 < n → n ≤ length ws → word_before ws n ≡ Some (get_or ws (n - 1) 0)
word_there ws zero some most = absurd (omega (arith, some))
word_there ws (suc n) some most =
    let before : suc n - 1 ≡ n = omega arith in
    rw before (by ws n (omega (arith, most)))
  where
    by : (ws : List ℕ) (n : ℕ) → n < length ws → slice_get ws n ≡ Some (get_or ws n 0)
    by [] n inside = absurd (omega (arith, inside))
    by (w ∷ ws) zero inside = refl
    by (w ∷ ws) (suc n) inside = by ws n (omega (arith, inside))

-- the minute of the word behind so many
first_there : (ws : List ℕ) (n : ℕ) → n < length ws → first_minute (drop n ws) ≡ word_minute (get_or ws n 0)
first_there [] n low = absurd (omega (arith, low))
first_there (w ∷ ws) zero low = refl
first_there (w ∷ ws) (suc n) low = first_there ws n (omega (arith, low))

dropped_low : (ws : List ℕ) (n : ℕ) → AllByRecursion (λ (w : ℕ). word_minute w < 1440) ws → AllByRecursion (λ (w : ℕ). word_minute w < 1440) (drop n ws)
dropped_low ws zero low = low
dropped_low [] (suc n) low = tt
dropped_low (w ∷ ws) (suc n) low = dropped_low ws n low.1

-- a minute before the word behind so many
pub before_first : (ws : List ℕ) (n minute : ℕ) → n ≤ length ws → minute < 1440 → (n < length ws → minute < word_minute (get_or ws n 0)) → minute < first_minute (drop n ws)
before_first ws n minute most low behind = ⊎_elim
    (λ inside. let next = first_there ws n inside in omega (arith, next, behind inside))
    (λ all. let none : drop n ws ≡ [] = drop_of_length-le ws all in subst (λ (l : List ℕ). minute < first_minute l) (sym none) low)
    (split n (length ws))

-- those that are kept, as a slice has them
pub kept_part : (words : List ℕ) (from : ℕ) → length words ≡ 1440 → take (1440 - from) (drop from words) ≡ drop from words
kept_part words from size =
    let long : 1440 - from ≡ length (drop from words) = omega (arith, size, length-drop from words) in
    ap (λ (n : ℕ). take n (drop from words)) long ∙ take-length (drop from words)

-- a minute that one word decides, up to the next one's
pub run_is : (kept : List ℕ) (first : ℕ) (words : List ℕ) → AreKept kept first words → (n minute : ℕ) → n ≤ length kept
    → (0 < n → word_minute (get_or kept (n - 1) 0) ≤ minute) → (run : Run) → run.change ≡ option_map change_of (word_before kept n) → run.end ≡ first_minute (drop n kept) → IsRun words minute run
run_is kept first words are n minute most before run change_is end_is = record {
  each = λ t le lt.
      let low : t < 1440 = omega (arith, lt, end_is, first_low (drop n kept) (dropped_low kept n are.low)) in
      ap (λ (o : Option ℕ). option_map change_of o)
      (sym (are.same t low)
      ∙ latest_at kept n t most
      (λ k under. let rising = are.order k (n - 1) 0 (omega (arith, under)) (omega (arith, under, most)) in omega (arith, rising, before (omega (arith, under)), le))
      (λ k from inside.
      let rising = are.order n k 0 from inside in
      let next = first_there kept n (omega (arith, from, inside)) in
      omega (arith, rising, next, end_is, lt)))
      ∙ sym change_is;
  inside = let most = first_low (drop n kept) (dropped_low kept n are.low) in omega (arith, end_is, most);
}
