-- Words that are written behind good ones are as good.
use Rattle.std.proofs.Common.{◌≡◌, ℕ, ◌+◌, ◌<◌, ◌≤◌, Bool, true, false, not, cond, List, [], ◌∷◌, ◌++◌, length, refl, sym, ◌∙◌, ap, subst, arith, append_assoc, length-append}
use Rattle.std.specs.Prelude.{◌==◌, ◌&&◌, nat_le, nat_lt}
use Rattle.std.specs.List.{list_all}
use Rattle.std.proofs.lemmas.Bool.Decides.{nat_tests}
use Rattle.std.proofs.lemmas.List.{append-nil}
use Rattle.unit_model.specs.Days.{slot_bit, word_minute, word_by, bare, Each}
use Rattle.unit_model.specs.Decoding.{word_checks, is_word_good, is_first_good}
use Rattle.unit_model.specs.Changes.{change, changes, new_words}
use Rattle.unit_model.proofs.States.{slot_of, minute_of}
use Rattle.unit_model.proofs.Checks.{passes, and_split, and_join}

-- one good word more
checks_push : (place : ℕ) (before a : List ℕ) (w : ℕ) → list_all passes (word_checks place before a) ≡ true → is_word_good (before ++ a) w ≡ true → list_all passes (word_checks place before (a ++ w ∷ [])) ≡ true
checks_push place before [] w all good = and_join (is_word_good before w) true (ap (λ (l : List ℕ). is_word_good l w) (sym (append-nil before)) ∙ good) refl
checks_push place before (v ∷ a) w all good =
    let both = and_split (is_word_good before v) (list_all passes (word_checks (place + 2) (before ++ v ∷ []) a)) all in
    and_join (is_word_good before v) (list_all passes (word_checks (place + 2) (before ++ v ∷ []) (a ++ w ∷ []))) both.0
    (checks_push (place + 2) (before ++ v ∷ []) a w both.1 (ap (λ (l : List ℕ). is_word_good l w) (append_assoc before (v ∷ []) a) ∙ good))

-- a word may stand behind another: it is not earlier, and not of the same slot in the same minute
abbrev MayStand : (minute slot : ℕ) → ℕ → Type 0
MayStand minute slot v = (word_minute v ≤ minute) × (word_minute v ≡ minute → slot_bit v < slot)

test_one : (minute slot v : ℕ) → MayStand minute slot v → (nat_le (word_minute v) minute && not (slot_bit v == slot && word_minute v == minute)) ≡ true
test_one minute slot v may = and_join (nat_le (word_minute v) minute) (not (slot_bit v == slot && word_minute v == minute)) (le_true (word_minute v) minute may.0) (apart (word_minute v == minute) refl)
  where
    le_true : (a b : ℕ) → a ≤ b → nat_le a b ≡ true
    le_true a b is = grind (arith, nat_tests)

    eq_of : (a b : ℕ) → (a == b) ≡ true → a ≡ b
    eq_of a b is = grind (arith, nat_tests)

    less_false : (a b : ℕ) → a < b → (a == b) ≡ false
    less_false a b less = grind (arith, nat_tests)

    and_not : (a : Bool) → not (a && false) ≡ true
    and_not true = refl
    and_not false = refl

    apart : (b : Bool) → (word_minute v == minute) ≡ b → not (slot_bit v == slot && word_minute v == minute) ≡ true
    apart true same = ap (λ (t : Bool). not (t && word_minute v == minute)) (less_false (slot_bit v) slot (may.1 (eq_of (word_minute v) minute same)))
    apart false other = ap (λ (t : Bool). not (slot_bit v == slot && t)) other ∙ and_not (slot_bit v == slot)

tests_all : (minute slot : ℕ) (ws : List ℕ) → Each (MayStand minute slot) ws → list_all (λ v. nat_le (word_minute v) minute && not (slot_bit v == slot && word_minute v == minute)) ws ≡ true
tests_all minute slot [] each = refl
tests_all minute slot (v ∷ ws) each =
    and_join (nat_le (word_minute v) minute && not (slot_bit v == slot && word_minute v == minute)) (list_all (λ v. nat_le (word_minute v) minute && not (slot_bit v == slot && word_minute v == minute)) ws) (test_one minute slot v each.0)
    (tests_all minute slot ws each.1)

lt_true : (a b : ℕ) → a < b → nat_lt a b ≡ true
lt_true a b is = grind (arith, nat_tests)

good_behind : (before : List ℕ) (w minute slot : ℕ) → word_minute w ≡ minute → slot_bit w ≡ slot → minute < 1440 → 2 ≤ length before → Each (MayStand minute slot) before → is_word_good before w ≡ true
good_behind before w minute slot minute_is slot_is small two each =
    let tests = list_all (λ v. nat_le (word_minute v) (word_minute w) && not (slot_bit v == slot_bit w && word_minute v == word_minute w)) before in
    and_join (nat_lt (word_minute w) 1440) (tests && is_first_good (length before) w) (lt_true (word_minute w) 1440 (omega (arith, minute_is, small)))
    (and_join tests (is_first_good (length before) w)
    ((λ t. list_all (λ v. nat_le (word_minute v) (minute_is t) && not (slot_bit v == slot_is t && word_minute v == minute_is t)) before) ∙ tests_all minute slot before each)
    (ap (λ (b : Bool). cond b true (slot_bit w == length before && word_minute w == 0)) (lt_true 1 (length before) (omega (arith, two)))))

-- words that are good, and behind which one of this slot may stand in this minute
pub record AreGood (place minute slot : ℕ) (ws : List ℕ) : Type 0 where
  pub checks : list_all passes (word_checks place [] ws) ≡ true
  pub may : Each (MayStand minute slot) ws
  pub two : 2 ≤ length ws

each_push : (P : ℕ → Type 0) (ws : List ℕ) (w : ℕ) → Each P ws → P w → Each P (ws ++ w ∷ [])
each_push P [] w all one = (one, tt)
each_push P (v ∷ ws) w all one = (all.0, each_push P ws w all.1 one)

each_later : (minute slot minute' slot' : ℕ) → minute ≤ minute' → ((v : ℕ) → MayStand minute slot v → MayStand minute' slot' v) → (ws : List ℕ) → Each (MayStand minute slot) ws → Each (MayStand minute' slot') ws
each_later minute slot minute' slot' le more [] all = tt
each_later minute slot minute' slot' le more (v ∷ ws) all = (more v all.0, each_later minute slot minute' slot' le more ws all.1)

change_good : (place t s d e : ℕ) (ws : List ℕ) → s < 2 → t < 1440 → e < 16 → AreGood place t s ws → AreGood place t (s + 1) (ws ++ change s t d e)
change_good place t s d e ws s1 s2 s3 good = by (d == e)
  where
    more : (v : ℕ) → MayStand t s v → MayStand t (s + 1) v
    more v may = (may.0, λ same. omega (arith, may.1 same))

    w : ℕ
    w = word_by s e t

    by : (b : Bool) → AreGood place t (s + 1) (ws ++ cond b [] (word_by s e t ∷ []))
    by true = subst (AreGood place t (s + 1)) (sym (append-nil ws)) (record { checks = good.checks; may = each_later t s t (s + 1) (omega arith) more ws good.may; two = good.two })
    by false = record {
      checks = checks_push place [] ws (word_by s e t) good.checks (good_behind ws (word_by s e t) t s (minute_of s e t s1 s3 (omega (arith, s2))) (slot_of s e t s1 s3 (omega (arith, s2))) s2 good.two good.may);
      may = each_push (MayStand t (s + 1)) ws (word_by s e t) (each_later t s t (s + 1) (omega arith) more ws good.may)
          (omega (arith, minute_of s e t s1 s3 (omega (arith, s2))), λ same. omega (arith, slot_of s e t s1 s3 (omega (arith, s2))));
      two = omega (arith, good.two, length-append ws (word_by s e t ∷ []));
    }

pub changes_good : (place t d c d' c' : ℕ) (ws : List ℕ) → t < 1440 → d' < 16 → c' < 16 → AreGood place t 0 ws → AreGood place t 2 (ws ++ changes t d c d' c')
changes_good place t d c d' c' ws low s1 s2 good =
    subst (AreGood place t 2) (append_assoc ws (change 0 t d d') (change 1 t c c'))
    (change_good place t 1 c c' (ws ++ change 0 t d d') (omega arith) low s2 (change_good place t 0 d d' ws (omega arith) low s1 good))

-- in a later minute each slot may stand behind them
pub good_later : (place u s t : ℕ) (ws : List ℕ) → u < t → AreGood place u s ws → AreGood place t 0 ws
good_later place u s t ws less good = record {
  checks = good.checks;
  may = each_later u s t 0 (omega (arith, less)) (λ v may. (omega (arith, may.0, less), λ same. absurd (omega (arith, may.0, less, same)))) ws good.may;
  two = good.two;
}

pub good_low : (place u t : ℕ) (ws : List ℕ) → list_all passes (word_checks place [] ws) ≡ true → 2 ≤ length ws → Each (λ w. word_minute w ≤ u) ws → u < t → AreGood place t 0 ws
good_low place u t ws checks two low less = record { checks = checks; may = each_low ws low; two = two }
  where
    each_low : (ws : List ℕ) → Each (λ w. word_minute w ≤ u) ws → Each (MayStand t 0) ws
    each_low [] all = tt
    each_low (v ∷ ws) all = ((omega (arith, all.0, less), λ same. absurd (omega (arith, all.0, less, same))), each_low ws all.1)

-- the words of a minute on the day
pub new_good : (place u next t d c d' c' : ℕ) (ws : List ℕ) → u < next → next ≤ t → t < 1440 → d' < 16 → c' < 16 → list_all passes (word_checks place [] ws) ≡ true → 2 ≤ length ws → Each (λ w. word_minute w ≤ u) ws
    → list_all passes (word_checks place [] (ws ++ new_words next t d c d' c')) ≡ true
new_good place u next t d c d' c' ws less le low s1 s2 checks two each = by (next == t) refl
  where
    by : (b : Bool) → (next == t) ≡ b → list_all passes (word_checks place [] (ws ++ cond b (changes t d c d' c') (changes next d c bare bare ++ changes t bare bare d' c'))) ≡ true
    by true same = (changes_good place t d c d' c' ws low s1 s2 (good_low place u t ws checks two each (omega (arith, less, le)))).checks
    by false other =
        let apart : next < t = lt_of next t le other in
        ap (λ (l : List ℕ). list_all passes (word_checks place [] l)) (sym (append_assoc ws (changes next d c bare bare) (changes t bare bare d' c')))
        ∙ (changes_good place t bare bare d' c' (ws ++ changes next d c bare bare) low s1 s2
        (good_later place next 2 t (ws ++ changes next d c bare bare) apart
        (changes_good place next d c bare bare ws (omega (arith, le, low)) (omega arith) (omega arith) (good_low place u next ws checks two each less)))).checks
      where
        lt_of : (a b : ℕ) → a ≤ b → (a == b) ≡ false → a < b
        lt_of a b le isnt = grind (arith, nat_tests)
