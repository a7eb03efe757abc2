-- What a scan of a day's words says of them.
use Rattle.std.proofs.Common.{◌≡◌, ◌≢◌, ◌⊎◌, inl, inr, ⊎_elim, ℕ, ◌+◌, ◌-◌, ◌*◌, ◌/◌, ◌%◌, ◌<◌, ◌≤◌, Bool, true, false, cond, List, [], ◌∷◌, ◌++◌, length, refl, sym, ◌∙◌, ap, subst, arith, Option, Some, None, Result, Ok, not, append_assoc, length-append, min}
use Rattle.std.specs.Prelude.{◌==◌, ◌||◌, nat_le, nat_lt, IfSome}
use Rattle.std.proofs.lemmas.Bool.Decides.{nat_tests}
use Rattle.unit_model.specs.declared.layout.TheConstants.{DAY_WORDS}
use Rattle.unit_model.specs.Days.{slot_bit, word_minute, word_state, state_by, state_at, bare, Each}
use Rattle.unit_model.specs.Decoding.{is_first_good}
use Rattle.unit_memory.specs.Scans.{start, next_scan, driver_next, codriver_next, or_place, scan_from}
use Rattle.unit_memory.specs.declared.words.Scan.{Scan}
use Rattle.std.proofs.lemmas.List.FromFn.{length-map-range_with_len}
use Rattle.gated_ring.specs.Ring.{number_at}
use Rattle.unit_model.specs.Image.{slot_place, slot_words, words_at}
use Rattle.unit_model.specs.Writing.{free_place}
use Rattle.unit_model.proofs.Words.{words_split}
use Rattle.unit_model.proofs.States.{state_after_append, each_append}

-- What holds of the words that were scanned: those not later come first, and the states are those after them.
pub record IsScanned (kept : ℕ) (words : List ℕ) (s : Scan) : Type 0 where
  pub low : List ℕ
  pub late : List ℕ
  pub split : words ≡ low ++ late
  pub counted : length low ≡ s.count
  pub all_low : Each (λ w. word_minute w ≤ kept) low
  pub all_late : Each (λ w. kept < word_minute w) late
  pub order : (late ≡ []) ⊎ (kept < s.minute)
  pub driver : state_at 0 kept low ≡ s.driver
  pub codriver : state_at 1 kept low ≡ s.codriver
  pub few : s.count ≤ min s.next_driver (kept + 1) + min s.next_codriver (kept + 1)

pub scanned_none : (kept : ℕ) → IsScanned kept [] start
scanned_none kept = record { low = []; late = []; split = refl; counted = refl; all_low = tt; all_late = tt; order = inl refl; driver = refl; codriver = refl; few = omega arith }

module _ (kept : ℕ) (words : List ℕ) (s : Scan) (w : ℕ) (was : IsScanned kept words s) (in_order : s.minute ≤ word_minute w) where
  -- a later word
  late_more : (t : Scan) → kept < word_minute w → t.count ≡ s.count → t.driver ≡ s.driver → t.codriver ≡ s.codriver → t.minute ≡ word_minute w
      → s.count ≤ min t.next_driver (kept + 1) + min t.next_codriver (kept + 1) → IsScanned kept (words ++ w ∷ []) t
  late_more t later count driver codriver minute few = record {
    low = was.low;
    late = was.late ++ w ∷ [];
    split = ap (λ (l : List ℕ). l ++ w ∷ []) was.split ∙ append_assoc was.low was.late (w ∷ []);
    counted = was.counted ∙ sym count;
    all_low = was.all_low;
    all_late = each_append (λ v. kept < word_minute v) was.late (w ∷ []) was.all_late (later, tt);
    order = inr (omega (arith, later, minute));
    driver = was.driver ∙ sym driver;
    codriver = was.codriver ∙ sym codriver;
    few = omega (arith, few, count);
  }

  -- a word that is not later
  low_more : (t : Scan) → word_minute w ≤ kept → t.count ≡ s.count + 1 → state_by 0 kept s.driver w ≡ t.driver → state_by 1 kept s.codriver w ≡ t.codriver
      → s.count + 1 ≤ min t.next_driver (kept + 1) + min t.next_codriver (kept + 1) → IsScanned kept (words ++ w ∷ []) t
  low_more t not_later count driver codriver few =
      let none : was.late ≡ [] = ⊎_elim (λ empty. empty) (λ later. absurd (omega (arith, later, in_order, not_later))) was.order in
      record {
        low = was.low ++ w ∷ [];
        late = [];
        split = ap (λ (l : List ℕ). l ++ w ∷ []) (was.split ∙ ap (λ (l : List ℕ). was.low ++ l) none ∙ Rattle.std.proofs.lemmas.List.append-nil was.low) ∙ sym (Rattle.std.proofs.lemmas.List.append-nil (was.low ++ w ∷ []));
        counted = omega (arith, length-append was.low (w ∷ []), was.counted, count);
        all_low = each_append (λ v. word_minute v ≤ kept) was.low (w ∷ []) was.all_low (not_later, tt);
        all_late = tt;
        order = inl refl;
        driver = state_after_append 0 kept bare was.low (w ∷ []) ∙ ap (λ (e : ℕ). state_by 0 kept e w) was.driver ∙ driver;
        codriver = state_after_append 1 kept bare was.low (w ∷ []) ∙ ap (λ (e : ℕ). state_by 1 kept e w) was.codriver ∙ codriver;
        few = omega (arith, few, count);
      }

  counts : (slot e : ℕ) → slot_bit w ≡ slot → word_minute w ≤ kept → state_by slot kept e w ≡ word_state w
  counts slot e at le =
      let a : (slot_bit w == slot) ≡ true = grind (arith, nat_tests) in
      let b : nat_le (word_minute w) kept ≡ true = grind (arith, nat_tests) in
      ap (λ (p : Bool). cond (Rattle.std.specs.Prelude.◌&&◌ p (nat_le (word_minute w) kept)) (word_state w) e) a ∙ ap (λ (p : Bool). cond (Rattle.std.specs.Prelude.◌&&◌ true p) (word_state w) e) b

  counts_not : (slot e : ℕ) → slot_bit w ≢ slot → state_by slot kept e w ≡ e
  counts_not slot e other =
      let a : (slot_bit w == slot) ≡ false = grind (arith, nat_tests) in
      ap (λ (p : Bool). cond (Rattle.std.specs.Prelude.◌&&◌ p (nat_le (word_minute w) kept)) (word_state w) e) a

  abbrev Next : Option Scan → Type 0
  Next o = IfSome o (IsScanned kept (words ++ w ∷ []))

  driver_step_next : slot_bit w ≡ 0 → Next (driver_next kept s w)
  driver_step_next at = by (nat_lt (w % 2048) s.next_driver) refl (nat_lt kept (w % 2048)) refl
    where
      later : Scan
      later = record { count = s.count; driver = s.driver; codriver = s.codriver; minute = w % 2048; next_driver = w % 2048 + 1; next_codriver = s.next_codriver }

      by : (a : Bool) → nat_lt (w % 2048) s.next_driver ≡ a → (b : Bool) → nat_lt kept (w % 2048) ≡ b
          → Next (cond a None (cond b (Some (record { count = s.count; driver = s.driver; codriver = s.codriver; minute = w % 2048; next_driver = w % 2048 + 1; next_codriver = s.next_codriver }))
          (Some (record { count = s.count + 1; driver = w / 2048 % 16; codriver = s.codriver; minute = w % 2048; next_driver = w % 2048 + 1; next_codriver = s.next_codriver }))))
      by true early b is = tt
      by false fits true is =
          let more : kept < word_minute w = grind (arith, nat_tests, is) in
          let free : s.next_driver ≤ w % 2048 = grind (arith, nat_tests, fits) in
          late_more _ more refl refl refl refl (omega (arith, was.few, more, free))
      by false fits false is =
          let low : word_minute w ≤ kept = grind (arith, nat_tests, is) in
          let free : s.next_driver ≤ w % 2048 = grind (arith, nat_tests, fits) in
          low_more _ low refl (counts 0 s.driver at low) (counts_not 1 s.codriver (omega (arith, at))) (omega (arith, was.few, low, free))

  codriver_step_next : slot_bit w ≡ 1 → Next (codriver_next kept s w)
  codriver_step_next at = by (nat_lt (w % 2048) s.next_codriver) refl (nat_lt kept (w % 2048)) refl
    where
      by : (a : Bool) → nat_lt (w % 2048) s.next_codriver ≡ a → (b : Bool) → nat_lt kept (w % 2048) ≡ b
          → Next (cond a None (cond b (Some (record { count = s.count; driver = s.driver; codriver = s.codriver; minute = w % 2048; next_driver = s.next_driver; next_codriver = w % 2048 + 1 }))
          (Some (record { count = s.count + 1; driver = s.driver; codriver = w / 2048 % 16; minute = w % 2048; next_driver = s.next_driver; next_codriver = w % 2048 + 1 }))))
      by true early b is = tt
      by false fits true is =
          let more : kept < word_minute w = grind (arith, nat_tests, is) in
          let free : s.next_codriver ≤ w % 2048 = grind (arith, nat_tests, fits) in
          late_more _ more refl refl refl refl (omega (arith, was.few, more, free))
      by false fits false is =
          let low : word_minute w ≤ kept = grind (arith, nat_tests, is) in
          let free : s.next_codriver ≤ w % 2048 = grind (arith, nat_tests, fits) in
          low_more _ low refl (counts_not 0 s.driver (omega (arith, at))) (counts 1 s.codriver at low) (omega (arith, was.few, low, free))

-- one word more keeps it
pub scanned_more : (kept n : ℕ) (words : List ℕ) (s : Scan) (w : ℕ) → IsScanned kept words s → IfSome (next_scan kept s n w) (IsScanned kept (words ++ w ∷ []))
scanned_more kept n words s w was = by (nat_le 1440 (w % 2048)) (nat_lt (w % 2048) s.minute) refl (is_first_good n w) (w / 32768 % 2 == 0) refl
  where
    by : (a b : Bool) → nat_lt (w % 2048) s.minute ≡ b → (f : Bool) → (d : Bool) → (w / 32768 % 2 == 0) ≡ d
        → IfSome (cond (a || (b || not f)) None (cond d (driver_next kept s w) (codriver_next kept s w))) (IsScanned kept (words ++ w ∷ []))
    by true b early f d is = tt
    by false true early f d is = tt
    by false false fits false d is = tt
    by false false fits true true is = driver_step_next kept words s w was (grind (arith, nat_tests, fits)) (grind (arith, nat_tests, is))
    by false false fits true false is =
        let other : w / 32768 % 2 ≢ 0 = grind (arith, nat_tests, is) in
        codriver_step_next kept words s w was (grind (arith, nat_tests, fits)) (omega (arith, other))

-- a scan of all words
pub scanned_on : (kept base n : ℕ) (words ws : List ℕ) (s t : Scan) → IsScanned kept words s → scan_from kept base n s ws ≡ Ok t → IsScanned kept (words ++ ws) t
scanned_on kept base n words [] s t was is = subst (λ (l : List ℕ). IsScanned kept l t) (sym (Rattle.std.proofs.lemmas.List.append-nil words)) (subst (IsScanned kept words) (ok_same s t is) was)
  where
    ok_same : (s t : Scan) → (let r : Result Scan ℕ = Ok s in r) ≡ Ok t → s ≡ t
    ok_same s t is = cc
scanned_on kept base n words (w ∷ ws) s t was is = by (λ u. scanned_on kept base (n + 1) (words ++ w ∷ []) ws u t) (next_scan kept s n w) (scanned_more kept n words s w was) is
  where
    by : ((u : Scan) → IsScanned kept (words ++ w ∷ []) u → scan_from kept base (n + 1) u ws ≡ Ok t → IsScanned kept ((words ++ w ∷ []) ++ ws) t)
        → (o : Option Scan) → IfSome o (IsScanned kept (words ++ w ∷ [])) → or_place (base + 2 * n) o (λ u. scan_from kept base (n + 1) u ws) ≡ Ok t → IsScanned kept (words ++ w ∷ ws) t
    by more None now is = absurd (cc)
    by more (Some u) now is = subst (λ (l : List ℕ). IsScanned kept l t) (append_assoc words (w ∷ []) ws) (more u now is)

pub scanned_all : (kept base : ℕ) (words : List ℕ) (t : Scan) → scan_from kept base 0 start words ≡ Ok t → IsScanned kept words t
scanned_all kept base words t is = scanned_on kept base 0 [] words start t (scanned_none kept) is

-- two ways to cut a list at one place
pub same_cut : (a b c d : List ℕ) → a ++ b ≡ c ++ d → length a ≡ length c → (a ≡ c) × (b ≡ d)
same_cut a b c d same len = (
  sym (Rattle.std.proofs.lemmas.List.take_at a b (length a) refl) ∙ ap (Rattle.std.proofs.Common.take (length a)) same ∙ Rattle.std.proofs.lemmas.List.take_at c d (length a) (sym len),
  sym (Rattle.std.proofs.lemmas.List.drop_at a b (length a) refl) ∙ ap (Rattle.std.proofs.Common.drop (length a)) same ∙ Rattle.std.proofs.lemmas.List.drop_at c d (length a) (sym len),
)

-- what `load` learns of the last-kept minute's day by its scan
pub record IsScannedDay (kept i stored : ℕ) (s : Scan) (x : List ℕ) : Type 0 where
  pub cut : s.count ≤ stored
  pub low : Each (λ w. word_minute w ≤ kept) (slot_words x i s.count)
  pub late : Each (λ w. kept < word_minute w) (words_at x (free_place i s.count) (stored - s.count))
  pub driver : state_at 0 kept (slot_words x i s.count) ≡ s.driver
  pub codriver : state_at 1 kept (slot_words x i s.count) ≡ s.codriver
  pub few : s.count ≤ 2 * (kept + 1)

pub scanned_day : (kept base i stored : ℕ) (s : Scan) (x : List ℕ) → scan_from kept base 0 start (slot_words x i stored) ≡ Ok s → IsScannedDay kept i stored s x
scanned_day kept base i stored s x is =
    let all = scanned_all kept base (slot_words x i stored) s is in
    let len : length (slot_words x i stored) ≡ stored = length-map-range_with_len (λ j. number_at x (slot_place i + DAY_WORDS.place + 2 * j) 2) 0 stored in
    let cut : s.count ≤ stored = omega (arith, len, ap length all.split, length-append all.low all.late, all.counted) in
    let whole : s.count + (stored - s.count) ≡ stored = omega (arith, cut) in
    let front_length : length all.low ≡ length (slot_words x i s.count) = all.counted ∙ sym (length-map-range_with_len (λ j. number_at x (slot_place i + DAY_WORDS.place + 2 * j) 2) 0 s.count) in
    let parts = same_cut all.low all.late (slot_words x i s.count) (words_at x (free_place i s.count) (stored - s.count))
    (sym all.split ∙ ap (slot_words x i) (sym whole) ∙ words_split x (slot_place i + DAY_WORDS.place) s.count (stored - s.count)) front_length in
    record {
      cut = cut;
      low = subst (Each (λ w. word_minute w ≤ kept)) parts.0 all.all_low;
      late = subst (Each (λ w. kept < word_minute w)) parts.1 all.all_late;
      driver = ap (state_at 0 kept) (sym parts.0) ∙ all.driver;
      codriver = ap (state_at 1 kept) (sym parts.0) ∙ all.codriver;
      few = omega (arith, all.few);
    }
