-- The newest day is cut behind its last word that is not later.
use Rattle.std.proofs.Common.{◌≡◌, ◌⊎◌, inl, inr, ⊎_elim, ℕ, zero, suc, ◌+◌, ◌<◌, ◌≤◌, Bool, true, false, cond, List, [], ◌∷◌, ◌++◌, length, get_or, refl, sym, ◌∙◌, ap, subst, arith, append_assoc}
use Rattle.std.specs.Prelude.{nat_le}
use Rattle.std.proofs.lemmas.Bool.Decides.{nat_tests}
use Rattle.tach_media.specs.Medium.{put}
use Rattle.card_model.specs.Bytes.{two_bytes}
use Rattle.activity_codec.specs.Words.{word_minute}
use Rattle.card_model.specs.Days.{Day, len_of, total, far, body, record_of, records, word_bytes, Ascend, AreWords, IsDay}
use Rattle.card_model.specs.Image.{StringShape, oldest_pointer, newest_pointer, IsPointer, IsPlace, HoldsDays}
use Rattle.card_model.specs.Changes.{early, with_early}
use Rattle.card_model.proofs.Ascending.{words_ascend}
use Rattle.card_model.proofs.Circle.{put_back}
use Rattle.card_model.proofs.Lists.{word_bytes-append, previous_of, records_length, far_last, last_is}
use Rattle.card_model.proofs.Trims.{early_few, early_words}
use Rattle.card_days.proofs.Lists.{some_appended, another_newest}
use Rattle.card_days.proofs.Places.{Stands}
use Rattle.card_model.proofs.Reading.{spelled_at}

-- the words that go
late : ℕ → List ℕ → List ℕ
late minute [] = []
late minute (w ∷ ws) = cond (nat_le (word_minute w) minute) (late minute ws) (w ∷ ws)

both_parts : (m : ℕ) (ws : List ℕ) → ws ≡ early m ws ++ late m ws
unfolding late
both_parts m [] = refl
both_parts m (w ∷ ws) = by (both_parts m ws) (nat_le (word_minute w) m)
  where
    by : ws ≡ early m ws ++ late m ws → (b : Bool) → w ∷ ws ≡ cond b (w ∷ early m ws) [] ++ cond b (late m ws) (w ∷ ws)
    by so true = ap (λ (l : List ℕ). w ∷ l) so
    by so false = refl

pub early_day : (m : ℕ) (d : Day) → IsDay d → IsDay (with_early m d)
early_day m d is = record { midnight = is.midnight; decimal = is.decimal; most = omega (arith, early_few m d.words, is.most); ordered = early_words m d.words is.ordered }

-- words that ascend from a minute on are not before it
none_before : (m : ℕ) (ws : List ℕ) (j : ℕ) → Ascend m ws → j < length ws → m ≤ word_minute (get_or ws j 0)
none_before m [] j up lt = absurd (omega (arith, lt))
none_before m (w ∷ ws) zero up lt = up.0
none_before m (w ∷ ws) (suc j) up lt = let rest = none_before (word_minute w) ws j up.2 (omega (arith, lt)) in omega (arith, up.0, rest)

rise : (m : ℕ) (ws : List ℕ) (i j : ℕ) → Ascend m ws → i ≤ j → j < length ws → word_minute (get_or ws i 0) ≤ word_minute (get_or ws j 0)
rise m [] i j up le lt = absurd (omega (arith, lt))
rise m (w ∷ ws) zero zero up le lt = omega arith
rise m (w ∷ ws) zero (suc j) up le lt = none_before (word_minute w) ws j up.2 (omega (arith, lt))
rise m (w ∷ ws) (suc i) zero up le lt = absurd (omega (arith, le))
rise m (w ∷ ws) (suc i) (suc j) up le lt = rise (word_minute w) ws i j up.2 (omega (arith, le)) (omega (arith, lt))

-- a word of a day is not later than one behind it
pub words_rise : (ws : List ℕ) (i j : ℕ) → AreWords ws → i ≤ j → j < length ws → word_minute (get_or ws i 0) ≤ word_minute (get_or ws j 0)
words_rise ws i j are le lt = rise 0 ws i j (words_ascend ws are) le lt

-- how many are early, by what a search finds
pub early_is : (m : ℕ) (ws : List ℕ) (k : ℕ) → k ≤ length ws → ((j : ℕ) → j < k → word_minute (get_or ws j 0) ≤ m) → (k ≡ length ws) ⊎ (m < word_minute (get_or ws k 0)) → k ≡ length (early m ws)
early_is m [] k le all end = omega (arith, le)
early_is m (w ∷ ws) zero le all end = ⊎_elim (λ is. absurd (omega (arith, is)))
    (λ late_one. let test : nat_le (word_minute w) m ≡ false = grind (arith, nat_tests) in ap (λ (b : Bool). length (cond b (w ∷ early m ws) [])) (sym test)) end
early_is m (w ∷ ws) (suc k) le all end =
    let first : word_minute w ≤ m = all 0 (omega arith) in
    let test : nat_le (word_minute w) m ≡ true = grind (arith, nat_tests) in
    let rest : k ≡ length (early m ws) = early_is m ws k (omega (arith, le)) (λ j lt. all (suc j) (omega (arith, lt))) (⊎_elim (λ is. inl (omega (arith, is))) (λ lt. inr lt) end) in
    omega (arith, rest) ∙ ap (λ (b : Bool). length (cond b (w ∷ early m ws) [])) (sym test)

-- the commit: the shorter length
pub cut_last : (r : StringShape) (x y : List ℕ) (older : List Day) (d : Day) (m : ℕ) (h : HoldsDays r x (older ++ d ∷ [])) → Stands r (total older + 2) (two_bytes (len_of (with_early m d))) x y → HoldsDays r y (older ++ with_early m d ∷ [])
cut_last r x y older d m h s =
    let e = previous_of h.previous older in
    let f = with_early m d in
    let a = records h.previous older in
    let back = record_of e d ++ ([] ++ h.rest) in
    let same_far : far (older ++ f ∷ []) ≡ far (older ++ d ∷ []) = far_last older f ∙ sym (far_last older d) in
    let words : word_bytes d.words ++ h.rest ≡ word_bytes f.words ++ (word_bytes (late m d.words) ++ h.rest) =
    ap (λ (l : List ℕ). word_bytes l ++ h.rest) (both_parts m d.words) ∙ ap (λ (l : List ℕ). l ++ h.rest) (word_bytes-append (early m d.words) (late m d.words)) ∙ append_assoc (word_bytes f.words) (word_bytes (late m d.words)) h.rest in
    record {
      oldest = subst (λ (k : ℕ). IsPointer r.size k) (sym s.oldest) h.oldest;
      newest = subst (λ (k : ℕ). IsPointer r.size k) (sym s.newest) h.newest;
      distance = subst (λ (k : ℕ). IsPlace r.size k (far (older ++ f ∷ [])) (newest_pointer r y)) (sym s.oldest)
          (subst (λ (k : ℕ). IsPlace r.size (oldest_pointer r x) (far (older ++ f ∷ [])) k) (sym s.newest) (subst (λ (k : ℕ). IsPlace r.size (oldest_pointer r x) k (newest_pointer r x)) (sym same_far) h.distance));
      previous = h.previous;
      rest = word_bytes (late m d.words) ++ h.rest;
      spelled = s.circle ∙ ap (λ (l : List ℕ). put (total older + 2) (two_bytes (len_of f)) l) (h.spelled ∙ spelled_at h.previous older d [] h.rest)
          ∙ ap (λ (k : ℕ). put (k + 2) (two_bytes (len_of f)) (a ++ back)) (sym (records_length h.previous older)) ∙ put_back 2 (two_bytes (len_of f)) a back
          ∙ ap (λ (l : List ℕ). a ++ (two_bytes e ++ (two_bytes (len_of f) ++ (body (record d { words = [] }) ++ l)))) words
          ∙ sym (spelled_at h.previous older f [] (word_bytes (late m d.words) ++ h.rest));
      empty = λ none. absurd (some_appended older f none);
      ordered = another_newest 0 older d f refl (early_day m d (last_is 0 older d h.ordered)) h.ordered;
    }
