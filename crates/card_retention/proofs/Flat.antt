-- A string without a word behind a minute is as a trim to it would leave it.
use Rattle.std.proofs.Common.{◌≡◌, ℕ, ◌%◌, ◌≤◌, Bool, true, false, cond, List, [], ◌∷◌, refl, sym, ◌∙◌, ap, arith}
use Rattle.std.specs.Prelude.{nat_eq, nat_le}
use Rattle.std.proofs.lemmas.Bool.{eqb-true, le-leb, leb-true}
use Rattle.std.proofs.lemmas.Bool.Decides.{nat_tests}
use Rattle.activity_codec.specs.Words.{word_minute}
use Rattle.card_model.specs.Days.{Day, AreDays, IsDay, last_word}
use Rattle.card_model.specs.Changes.{with_newest, until, early, with_early, date_of, cut, trimmed, OnNewest}
use Rattle.card_model.proofs.Ascending.{early_words_all}

-- no word of it is behind the minute
pub record UpTo (m : ℕ) (d : Day) : Type 0 where
  pub day : d.date ≤ date_of m
  pub last : d.date ≡ date_of m → early (m % 1440) d.words ≡ d.words

pub early_more : (m n : ℕ) (ws : List ℕ) → m ≤ n → early m ws ≡ ws → early n ws ≡ ws
early_more m n [] le is = refl
early_more m n (w ∷ ws) le is = by (nat_le (word_minute w) m) refl is (early_more m n ws le)
  where
    by : (b : Bool) → nat_le (word_minute w) m ≡ b → cond b (w ∷ early m ws) [] ≡ w ∷ ws → (early m ws ≡ ws → early n ws ≡ ws) → early n (w ∷ ws) ≡ w ∷ ws
    by true test is rest = ap (λ (b : Bool). cond b (w ∷ early n ws) []) (le-leb (word_minute w) n (omega (arith, leb-true (word_minute w) m test, le))) ∙ ap (λ (l : List ℕ). w ∷ l) (rest (tail is))
      where
        tail : w ∷ early m ws ≡ w ∷ ws → early m ws ≡ ws
        tail is = cc
    by false test is rest = absurd (none is)
      where
        none : [] ≡ w ∷ ws → ⊥
        none is = cc

up_to_more : (m n : ℕ) (d : Day) → m ≤ n → UpTo m d → UpTo n d
up_to_more m n d le u = record { day = omega (arith, le, u.day); last = λ is. early_more (m % 1440) (n % 1440) d.words (omega (arith, le, u.day, is)) (u.last (omega (arith, le, u.day, is))) }

on_each : (P Q : Day → Type 0) (ds : List Day) → ((d : Day) → P d → Q d) → OnNewest P ds → OnNewest Q ds
on_each P Q [] f on = absurd on
on_each P Q (d ∷ []) f on = f d on
on_each P Q (d ∷ e ∷ ds) f on = on_each P Q (e ∷ ds) f on

cut_none : (m : ℕ) (d : Day) → UpTo m d → cut m d ≡ d
cut_none m d u = by (nat_eq d.date (date_of m)) refl
  where
    by : (b : Bool) → nat_eq d.date (date_of m) ≡ b → cond b (with_early (m % 1440) d) d ≡ d
    by true is = ap (λ (ws : List ℕ). record { date = d.date; counter = d.counter; km = d.km; words = ws }) (u.last (eqb-true d.date (date_of m) is))
    by false is = refl

first_low : (m date : ℕ) (d : Day) (ds : List Day) → AreDays date (d ∷ ds) → OnNewest (UpTo m) (d ∷ ds) → d.date ≤ date_of m
first_low m date d [] are on = on.day
first_low m date d (e ∷ ds) are on = omega (arith, are.2.0, first_low m d.date e ds are.2 on)

cons_newest : (f : Day → Day) (d x : Day) (xs us : List Day) → with_newest f us ≡ x ∷ xs → with_newest f (d ∷ us) ≡ d ∷ x ∷ xs
cons_newest f d x xs [] is = absurd (cc)
cons_newest f d x xs (u ∷ us) is = ap (λ (l : List Day). d ∷ l) is

pub flat_newest : (m date : ℕ) (ds : List Day) → AreDays date ds → OnNewest (UpTo m) ds → trimmed m ds ≡ ds
flat_newest m date [] are on = absurd on
flat_newest m date (d ∷ []) are on = ap (λ (b : Bool). with_newest (cut m) (cond b (d ∷ []) [])) (le-leb d.date (date_of m) on.day) ∙ ap (λ (x : Day). x ∷ []) (cut_none m d on)
flat_newest m date (d ∷ e ∷ ds) are on =
    ap (λ (b : Bool). with_newest (cut m) (cond b (d ∷ until (date_of m) (e ∷ ds)) [])) (le-leb d.date (date_of m) (first_low m date d (e ∷ ds) are on))
    ∙ cons_newest (cut m) d e ds (until (date_of m) (e ∷ ds)) (flat_newest m d.date (e ∷ ds) are.2 on)

-- and the other way round
pub newest_flat : (m : ℕ) (d : Day) (ds : List Day) → trimmed m (d ∷ ds) ≡ d ∷ ds → OnNewest (UpTo m) (d ∷ ds)
newest_flat m d [] is = by (nat_le d.date (date_of m)) refl is
  where
    by : (b : Bool) → nat_le d.date (date_of m) ≡ b → with_newest (cut m) (cond b (d ∷ []) []) ≡ d ∷ [] → UpTo m d
    by false test is = absurd (none is)
      where
        none : [] ≡ d ∷ [] → ⊥
        none is = cc
    by true test is = record { day = leb-true d.date (date_of m) test; last = λ same. words (nat_eq d.date (date_of m)) (eq same) (head is) }
      where
        head : cut m d ∷ [] ≡ d ∷ [] → cut m d ≡ d
        head is = cc

        eq : d.date ≡ date_of m → nat_eq d.date (date_of m) ≡ true
        eq same = by_eq d.date (date_of m) same
          where
            by_eq : (a b : ℕ) → a ≡ b → nat_eq a b ≡ true
            by_eq a b same = grind (arith, nat_tests)

        words : (b : Bool) → b ≡ true → cond b (with_early (m % 1440) d) d ≡ d → early (m % 1440) d.words ≡ d.words
        words true t same = ap (λ (x : Day). x.words) same
        words false t same = absurd (cc)
newest_flat m d (e ∷ ds) is = by (nat_le d.date (date_of m)) is (until (date_of m) (e ∷ ds)) refl (newest_flat m e ds)
  where
    by : (b : Bool) → with_newest (cut m) (cond b (d ∷ until (date_of m) (e ∷ ds)) []) ≡ d ∷ e ∷ ds → (us : List Day) → until (date_of m) (e ∷ ds) ≡ us → (trimmed m (e ∷ ds) ≡ e ∷ ds → OnNewest (UpTo m) (e ∷ ds)) → OnNewest (UpTo m) (e ∷ ds)
    by false is us same rest = absurd (none is)
      where
        none : [] ≡ d ∷ e ∷ ds → ⊥
        none is = cc
    by true is [] same rest = absurd (one (cut m d) (sym (ap (λ (l : List Day). with_newest (cut m) (d ∷ l)) same) ∙ is))
      where
        one : (x : Day) → x ∷ [] ≡ d ∷ e ∷ ds → ⊥
        one x is = cc
    by true is (u ∷ us) same rest = rest (ap (λ (l : List Day). with_newest (cut m) l) same ∙ tail (with_newest (cut m) (u ∷ us)) (sym (ap (λ (l : List Day). with_newest (cut m) (d ∷ l)) same) ∙ is))
      where
        tail : (t : List Day) → d ∷ t ≡ d ∷ e ∷ ds → t ≡ e ∷ ds
        tail t is = cc

pub flat_more : (m n : ℕ) (ds : List Day) → m ≤ n → AreDays 0 ds → trimmed m ds ≡ ds → trimmed n ds ≡ ds
flat_more m n [] le are is = refl
flat_more m n (d ∷ ds) le are is = flat_newest n 0 (d ∷ ds) are (on_each (UpTo m) (UpTo n) (d ∷ ds) (λ x u. up_to_more m n x le u) (newest_flat m d ds is))

-- a day whose last word is not behind the minute
pub record Ends (m : ℕ) (d : Day) : Type 0 where
  pub day : d.date ≡ date_of m
  pub last : word_minute (last_word d.words) ≤ m % 1440

ends_up_to : (m : ℕ) (d : Day) → IsDay d → Ends m d → UpTo m d
ends_up_to m d is ends = record { day = omega (arith, ends.day); last = λ same. early_words_all (m % 1440) d.words is.ordered ends.last }

pub flat_ends : (m : ℕ) (ds : List Day) → AreDays 0 ds → OnNewest (Ends m) ds → trimmed m ds ≡ ds
flat_ends m ds are on = flat_newest m 0 ds are (up 0 ds are on)
  where
    up : (date : ℕ) (ds : List Day) → AreDays date ds → OnNewest (Ends m) ds → OnNewest (UpTo m) ds
    up date [] are on = absurd on
    up date (d ∷ []) are on = ends_up_to m d are.1 on
    up date (d ∷ e ∷ ds) are on = up d.date (e ∷ ds) are.2 on
