-- Days, their records and the ends of their list.
use Rattle.std.proofs.Common.{◌≡◌, ◌≢◌, ℕ, ◌+◌, ◌*◌, ◌<◌, ◌≤◌, List, [], ◌∷◌, ◌++◌, length, refl, ap, arith, length-append, lit<}
use Rattle.activity_codec.specs.Words.{word_minute}
use Rattle.card_model.specs.Days.{Day, len_of, body, Ascend, AreWords, IsDay, AreDays}
use Rattle.card_model.specs.Changes.{Increase, AreStrict, OnNewest, with_word, TakesWord}
use Rattle.card_model.proofs.Lists.{word_bytes_length}

-- some days are the older ones and the newest
pub record Split (days : List Day) : Type 0 where
  pub older : List Day
  pub newest : Day
  pub is : days ≡ older ++ newest ∷ []

-- days with one more are some
pub some_appended : (ds : List Day) (d : Day) → ds ++ d ∷ [] ≢ []
some_appended [] d none = cc
some_appended (e ∷ ds) d none = cc

pub split : (P : Day → Type 0) (days : List Day) → OnNewest P days → Split days
split P [] on = absurd on
split P (d ∷ []) on = record { older = []; newest = d; is = refl }
split P (d ∷ e ∷ ds) on = let s = split P (e ∷ ds) on in record { older = d ∷ s.older; newest = s.newest; is = ap (λ (l : List Day). d ∷ l) s.is }

pub newest_on : (P : Day → Type 0) (ds : List Day) (d : Day) → OnNewest P (ds ++ d ∷ []) → P d
newest_on P [] d on = on
newest_on P (e ∷ []) d on = on
newest_on P (e ∷ f ∷ ds) d on = newest_on P (f ∷ ds) d on

-- another newest day of the same date
pub another_newest : (date : ℕ) (ds : List Day) (d e : Day) → e.date ≡ d.date → IsDay e → AreDays date (ds ++ d ∷ []) → AreDays date (ds ++ e ∷ [])
another_newest date [] d e same is are = (omega (arith, are.0, same), is, tt)
another_newest date (f ∷ ds) d e same is are = (are.0, are.1, another_newest f.date ds d e same is are.2)

-- words that increase do not decrease, and there are few of them
ascends : (m : ℕ) (ws : List ℕ) → Increase m ws → Ascend m ws
ascends m [] up = tt
ascends m (w ∷ ws) up = (omega (arith, up.0), up.1, ascends (word_minute w) ws up.2)

few : (m : ℕ) (ws : List ℕ) → m < 1440 → Increase m ws → length ws + m < 1440
few m [] low up = omega (arith, low)
few m (w ∷ ws) low up = omega (arith, few (word_minute w) ws up.1 up.2, up.0)

pub strict_words : (ws : List ℕ) → AreStrict ws → AreWords ws
strict_words [] are = are
strict_words (w ∷ ws) are = (are.0, ascends 0 ws are.1)

pub few_strict : (ws : List ℕ) → AreStrict ws → length ws ≤ 1440
few_strict [] are = absurd are
few_strict (w ∷ ws) are = omega (arith, few 0 ws (lit< tt) are.1)

pub longer_day : (w : ℕ) (d : Day) → IsDay d → TakesWord w d → IsDay (with_word w d)
longer_day w d is takes = record { midnight = is.midnight; decimal = is.decimal; most = few_strict (d.words ++ w ∷ []) takes; ordered = strict_words (d.words ++ w ∷ []) takes }

pub longer_by_two : (w : ℕ) (d : Day) → len_of (with_word w d) ≡ len_of d + 2
longer_by_two w d = omega (arith, length-append d.words (w ∷ []))

pub body_long : (d : Day) → length (body d) ≡ 8 + 2 * length d.words
body_long d = omega (arith, word_bytes_length d.words)

-- days that are some have a newest
pub some_newest : (days : List Day) → days ≢ [] → OnNewest (λ e. Unit {0}) days
some_newest [] some = absurd (some refl)
some_newest (d ∷ []) some = tt
some_newest (d ∷ e ∷ ds) some = some_newest (e ∷ ds) (λ none. cc)
