-- The words of a day ascend: where its last one stands, and when a trim leaves all of them.
use Rattle.std.proofs.Common.{◌≡◌, ℕ, ◌<◌, ◌≤◌, Bool, cond, List, [], ◌∷◌, refl, sym, ◌∙◌, ap, subst, arith}
use Rattle.std.proofs.lemmas.Bool.{le-leb}
use Rattle.activity_codec.specs.Words.{word_minute}
use Rattle.card_model.specs.Days.{AreWords, Ascend, last_word}
use Rattle.card_model.specs.Changes.{early}

-- the words of a day ascend from its first minute on
pub words_ascend : (ws : List ℕ) → AreWords ws → Ascend 0 ws
words_ascend [] are = absurd are
words_ascend (w ∷ ws) are = (omega arith, omega (arith, are.0), subst (λ (k : ℕ). Ascend k ws) (sym are.0) are.1)

-- the last of words that ascend is of the day
last_below : (low w : ℕ) (ws : List ℕ) → Ascend low (w ∷ ws) → word_minute (last_word (w ∷ ws)) < 1440
last_below low w [] a = a.1
last_below low w (v ∷ ws) a = last_below (word_minute w) v ws a.2

-- and so is the last word of a day
pub words_below : (ws : List ℕ) → AreWords ws → word_minute (last_word ws) < 1440
words_below [] are = absurd are
words_below (w ∷ ws) are = last_below 0 w ws (words_ascend (w ∷ ws) are)

-- the first of words that ascend is not later than the last
pub first_last : (low w : ℕ) (ws : List ℕ) → Ascend low (w ∷ ws) → word_minute w ≤ word_minute (last_word (w ∷ ws))
first_last low w [] a = omega arith
first_last low w (v ∷ ws) a = omega (arith, a.2.0, first_last (word_minute w) v ws a.2)

-- all words are early where they ascend and the last is not later
early_all : (low m : ℕ) (ws : List ℕ) → Ascend low ws → word_minute (last_word ws) ≤ m → early m ws ≡ ws
early_all low m [] a le = refl
early_all low m (w ∷ []) a le = ap (λ (b : Bool). cond b (w ∷ []) []) (le-leb (word_minute w) m le)
early_all low m (w ∷ v ∷ ws) a le =
    ap (λ (b : Bool). cond b (w ∷ early m (v ∷ ws)) []) (le-leb (word_minute w) m (omega (arith, first_last low w (v ∷ ws) a, le)))
    ∙ ap (λ (l : List ℕ). w ∷ l) (early_all (word_minute w) m (v ∷ ws) a.2 le)

-- and so are all words of a day whose last one is not later
pub early_words_all : (m : ℕ) (ws : List ℕ) → AreWords ws → word_minute (last_word ws) ≤ m → early m ws ≡ ws
early_words_all m ws are le = early_all 0 m ws (words_ascend ws are) le
