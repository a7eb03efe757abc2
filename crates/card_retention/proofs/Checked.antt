-- A closed card that passes the checks of its words: a repair would leave no more than its words.
use Rattle.std.proofs.Common.{◌≡◌, ⊎_elim, ℕ, suc, ◌+◌, ◌/◌, ◌%◌, ◌<◌, ◌≤◌, Bool, true, false, cond, not, ◌&&◌, Option, Some, List, [], ◌∷◌, length, refl, sym, ap, subst, arith}
use Rattle.std.specs.Prelude.{nat_eq, nat_lt, nat_le}
use Rattle.std.proofs.lemmas.Bool.Decides.{nat_tests}
use Rattle.std.proofs.lemmas.Bool.{cases_lt, leb-true, eqb-true}
use Rattle.activity_codec.specs.declared.entries.Entry.{Entry}
use Rattle.activity_codec.specs.Words.{word_absent, word_minute}
use Rattle.card_model.specs.Days.{Day, AreDays, IsDay, AreWords, last_word}
use Rattle.card_model.specs.Changes.{with_newest, until, early, with_early, OnNewest, date_of, cut, trimmed}
use Rattle.card_retention.specs.Expected.{more, Counted}
use Rattle.card_retention.specs.Shown.{Bound, Grows, sizes, is_open, owing, EndsAbsent, Sound, Sound.Flat, Sound.Tail, Rests, Lives}
use Rattle.card_retention.specs.Entries.{newest_word, IsChecked}
use Rattle.card_retention.proofs.Entering.{both}
use Rattle.card_model.proofs.Ascending.{early_words_all}
use Rattle.card_model.proofs.Trims.{early_few, trimmed_cases}
use Rattle.card_retention.proofs.Flat.{UpTo, flat_newest}

-- where a trim cuts nothing the last word is not behind it
pub early_last : (m : ℕ) (ws : List ℕ) → AreWords ws → early m ws ≡ ws → word_minute (last_word ws) ≤ m
early_last m [] are is = absurd are
early_last m (w ∷ ws) are is = go w ws is
  where
    go : (w : ℕ) (ws : List ℕ) → early m (w ∷ ws) ≡ w ∷ ws → word_minute (last_word (w ∷ ws)) ≤ m
    go w [] is = by (nat_le (word_minute w) m) refl is
      where
        by : (b : Bool) → nat_le (word_minute w) m ≡ b → cond b (w ∷ []) [] ≡ w ∷ [] → word_minute w ≤ m
        by true t x = leb-true (word_minute w) m t
        by false t x = absurd (none x)
          where
            none : [] ≡ w ∷ [] → ⊥
            none x = cc
    go w (v ∷ ws) is = by (nat_le (word_minute w) m) is (go v ws)
      where
        by : (b : Bool) → cond b (w ∷ early m (v ∷ ws)) [] ≡ w ∷ v ∷ ws → (early m (v ∷ ws) ≡ v ∷ ws → word_minute (last_word (v ∷ ws)) ≤ m) → word_minute (last_word (v ∷ ws)) ≤ m
        by true x rest = rest (tail x)
          where
            tail : w ∷ early m (v ∷ ws) ≡ w ∷ v ∷ ws → early m (v ∷ ws) ≡ v ∷ ws
            tail x = cc
        by false x rest = absurd (none x)
          where
            none : [] ≡ w ∷ v ∷ ws → ⊥
            none x = cc

-- one day, cut, with the closing word
module _ (mark : ℕ) where
  one_cut : (n : ℕ) (d : Day) (ds : List Day) → d.date ≤ date_of mark → IsDay d → IsChecked mark (d ∷ ds) → (ds ≡ [] → mark < d.date / 60 + word_minute (last_word d.words)) → Grows (owing n mark (cut mark d ∷ [])) (sizes (d ∷ ds))
  one_cut n d ds low is checked behind = by (nat_eq d.date (date_of mark)) refl
    where
      by : (c : Bool) → nat_eq d.date (date_of mark) ≡ c → Grows (owing n mark (cond c (with_early (mark % 1440) d) d ∷ [])) (sizes (d ∷ ds))
      by true at = go (is_open mark (with_early (mark % 1440) d ∷ [])) refl (nat_lt (suc mark) n)
        where
          few : length (early (mark % 1440) d.words) ≤ length d.words
          few = early_few (mark % 1440) d.words

          fewer : is_open mark (with_early (mark % 1440) d ∷ []) ≡ true → length (early (mark % 1440) d.words) < length d.words
          fewer o =
              let parts = both (nat_eq d.date (date_of (suc mark))) (not (word_absent (last_word (early (mark % 1440) d.words)))) o in
              let date : d.date ≡ date_of (suc mark) = eqb-true d.date (date_of (suc mark)) parts.0 in
              let here : d.date ≡ date_of mark = eqb-true d.date (date_of mark) at in
              ⊎_elim
              (λ (none : ds ≡ [] × (early (mark % 1440) d.words ≡ d.words)). absurd (omega (arith, behind none.0, here, early_last (mark % 1440) d.words is.ordered none.1)))
              (λ rest. ⊎_elim (λ less. less) (λ (midnight : suc mark % 1440 ≡ 0). absurd (omega (arith, midnight, here, date))) rest)
              (checked.0 here (present (word_absent (last_word (early (mark % 1440) d.words))) parts.1))
            where
              present : (a : Bool) → not a ≡ true → a ≡ false
              present true x = absurd (cc)
              present false x = refl

          go : (o : Bool) → is_open mark (with_early (mark % 1440) d ∷ []) ≡ o → (g : Bool) → Grows (cond (o && g) (more (sizes (with_early (mark % 1440) d ∷ []))) (sizes (with_early (mark % 1440) d ∷ []))) (sizes (d ∷ ds))
          go true o true = (refl, omega (arith, fewer o), tt)
          go true o false = (refl, few, tt)
          go false o g = (refl, few, tt)
      by false at = go (nat_eq d.date (date_of (suc mark))) (nat_lt (suc mark) n) (apart d.date (date_of (suc mark)) (earlier d.date (date_of mark) low at))
        where
          -- a day before the mark's
          earlier : (a b : ℕ) → a ≤ b → nat_eq a b ≡ false → a < b
          earlier a b le t = grind (arith, nat_tests)

          apart : (a b : ℕ) → a < date_of mark → nat_eq a (date_of (suc mark)) ≡ false
          apart a b lt = not_same a (date_of (suc mark)) (omega (arith, lt))
            where
              not_same : (a b : ℕ) → a < b → nat_eq a b ≡ false
              not_same a b lt = grind (arith, nat_tests)

          go : (o g : Bool) → o ≡ false → Grows (cond ((o && not (word_absent (last_word d.words))) && g) (more (sizes (d ∷ []))) (sizes (d ∷ []))) (sizes (d ∷ ds))
          go false g is = (refl, omega arith, tt)
          go true g is = absurd (cc)

pub under : (n mark date : ℕ) (ds : List Day) → AreDays date ds → IsChecked mark ds → mark < newest_word ds → Grows (owing n mark (trimmed mark ds)) (sizes ds)
under n mark date [] are checked behind = tt
under n mark date (d ∷ []) are checked behind = by (nat_le d.date (date_of mark)) refl
  where
    by : (b : Bool) → nat_le d.date (date_of mark) ≡ b → Grows (owing n mark (with_newest (cut mark) (cond b (d ∷ []) []))) (sizes (d ∷ []))
    by false is = tt
    by true is = one_cut mark n d [] (leb-true d.date (date_of mark) is) are.1 checked (λ _. behind)
under n mark date (d ∷ e ∷ ds) are checked behind = by (nat_le d.date (date_of mark)) refl (under n mark d.date (e ∷ ds) are.2 checked.1 behind)
  where
    owed : (x : Day) (xs : List Day) (b : Bool) → Grows (cond b (more (sizes (x ∷ xs))) (sizes (x ∷ xs))) (sizes (e ∷ ds)) → Grows (cond b (more (sizes (d ∷ x ∷ xs))) (sizes (d ∷ x ∷ xs))) (sizes (d ∷ e ∷ ds))
    owed x xs true g = (refl, omega arith, g)
    owed x xs false g = (refl, omega arith, g)

    nothing : (x : Day) → d ∷ e ∷ ds ≡ [] → ⊥
    nothing x is = cc

    by : (b : Bool) → nat_le d.date (date_of mark) ≡ b → Grows (owing n mark (trimmed mark (e ∷ ds))) (sizes (e ∷ ds)) → Grows (owing n mark (trimmed mark (d ∷ e ∷ ds))) (sizes (d ∷ e ∷ ds))
    by false is rest = subst (λ (l : List Day). Grows (owing n mark l) (sizes (d ∷ e ∷ ds))) (sym (ap (λ (b : Bool). with_newest (cut mark) (cond b (d ∷ until (date_of mark) (e ∷ ds)) [])) is)) tt
    by true is rest = ⊎_elim
        (λ short. ⊎_elim
        (λ none. subst (λ (l : List Day). Grows (owing n mark l) (sizes (d ∷ e ∷ ds))) (sym none) tt)
        (λ one. subst (λ (l : List Day). Grows (owing n mark l) (sizes (d ∷ e ∷ ds))) (sym one) (one_cut mark n d (e ∷ ds) (leb-true d.date (date_of mark) is) are.1 checked (λ none. absurd (some none)))) short.1)
        (λ t. subst (λ (l : List Day). Grows (owing n mark l) (sizes (d ∷ e ∷ ds))) (sym t.whole)
        (owed t.first t.rest (is_open mark (t.first ∷ t.rest) && nat_lt (suc mark) n) (subst (λ (l : List Day). Grows (owing n mark l) (sizes (e ∷ ds))) t.less rest)))
        (trimmed_cases mark date d (e ∷ ds) are)
      where
        some : e ∷ ds ≡ [] → ⊥
        some is = cc

no_word_behind : (mark date : ℕ) (d : Day) (ds : List Day) → AreDays date (d ∷ ds) → newest_word (d ∷ ds) ≤ mark → OnNewest (UpTo mark) (d ∷ ds)
no_word_behind mark date d [] are le = record {
  day = omega (arith, le, are.1.midnight);
  last = λ here. early_words_all (mark % 1440) d.words are.1.ordered (omega (arith, le, here));
}
no_word_behind mark date d (e ∷ ds) are le = no_word_behind mark d.date e ds are.2 le

-- A CLOSED CARD is sound
pub closed_sound : (mark top : ℕ) (before : Option Entry) (ds : List Day) → AreDays 0 ds → IsChecked mark ds → (mark < newest_word ds → EndsAbsent ds) → newest_word ds ≤ top → ((p : Entry) → before ≡ Some p → p.minute ≤ mark) → Sound mark top before ds
closed_sound mark top before [] are checked ends le entry = Flat refl
closed_sound mark top before (d ∷ ds) are checked ends le entry = ⊎_elim
    (λ behind. Tail (ends behind) (λ n. under n mark 0 (d ∷ ds) are checked behind) (λ p is. omega (arith, entry p is, behind, le)))
    (λ none. Flat (flat_newest mark 0 (d ∷ ds) are (no_word_behind mark 0 d ds are none)))
    (cases_lt mark (newest_word (d ∷ ds)))

pub closed_lives : (size : ℕ) (slack : Bound) (covered from mark : ℕ) (c : Counted) (ds : List Day) → (r : Rests size slack covered from mark c ds) → newest_word ds ≤ covered → IsChecked mark ds → (mark < newest_word ds → EndsAbsent ds) → Lives size slack covered from mark c ds
closed_lives size slack covered from mark c ds r word checked ends = record { rests = r; sound = closed_sound mark r.top c.before ds r.ordered checked ends (omega (arith, word, r.words)) (λ p is. (r.entry p is).1) }
