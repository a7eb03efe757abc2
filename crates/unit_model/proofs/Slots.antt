-- The newest day's slot while it is written.
use Rattle.std.proofs.Common.{◌≡◌, ◌≢◌, ⊎_elim, ℕ, ◌+◌, ◌-◌, ◌*◌, ◌<◌, ◌≤◌, not, cond, List, [], ◌∷◌, ◌++◌, length, map, filter, refl, ◌∙◌, ap, arith}
use Rattle.std.specs.Prelude.{◌==◌}
use Rattle.std.specs.Int.{to_be_bytes, w16}
use Rattle.gated_ring.specs.card_layout.Images.{big_number}
use Rattle.std.proofs.lemmas.List.{map-append}
use Rattle.std.proofs.lemmas.Bool.{cases_lt}
use Rattle.gated_ring.specs.tach_media.Medium.{bytes_at, SameOutside}
use Rattle.gated_ring.proofs.tach_media.Images.{put_outside, part_before, part_after}
use Rattle.gated_ring.specs.Ring.{indices as ring_indices, number_at, pointer, is_there, entry_at, next, order, taken}
use Rattle.unit_model.specs.declared.layout.TheConstants.{DAYS, DAY_COUNT, DAY_SLOTS, DAY_SLOT_SIZE, DAY_WORDS, DAY_WORD_LIMIT, IMAGE_SIZE, LAST_KEPT}
use Rattle.unit_model.specs.Days.{StoredDay, Each}
use Rattle.unit_model.specs.Image.{day_ring, slot_place, last_kept, words_at, unit_day, indices, unit_days, slot_date, slot_odometer, slot_count, slot_words}
use Rattle.unit_model.specs.Writing.{written, free_place, DiffersBehind, with_words}
use Rattle.unit_model.proofs.Words.{words_split}
use Rattle.unit_model.proofs.Numbers.{number_before, number_after, number_put2, number_in, words_before, words_after, words_in, written_outside, written_words, AreShort}

-- the day of an index
abbrev pub day_at : List ℕ → ℕ → StoredDay
day_at x i = unit_day (entry_at day_ring x i)

-- the day by its places in the image
pub day_is : (x : List ℕ) (i n : ℕ) → slot_count x i ≡ n → n ≤ DAY_WORD_LIMIT → day_at x i ≡ record { date = slot_date x i; odometer = slot_odometer x i; words = slot_words x i n }
day_is x i n count few =
    let p = slot_place i in
    let date : number_at (entry_at day_ring x i) 0 4 ≡ slot_date x i = number_in x p DAY_SLOT_SIZE 0 4 (omega arith) ∙ ap (λ (q : ℕ). number_at x q 4) (omega arith) in
    let n_is : number_at (entry_at day_ring x i) 8 2 ≡ n = number_in x p DAY_SLOT_SIZE 8 2 (omega arith) ∙ count in
    let odometer : number_at (entry_at day_ring x i) 4 4 ≡ slot_odometer x i = number_in x p DAY_SLOT_SIZE 4 4 (omega arith) in
    (λ t. record { date = date t; odometer = odometer t; words = words_at (entry_at day_ring x i) 16 (n_is t) })
    ∙ (λ t. record { date = slot_date x i; odometer = slot_odometer x i; words = words_in x p DAY_SLOT_SIZE 16 n (omega (arith, few)) t })

-- images that are the same in all indices but one, and in the pointer
pub record SameButOne (i : ℕ) (x c : List ℕ) : Type 0 where
  pub pointer_is : pointer day_ring c ≡ pointer day_ring x
  pub there : (j : ℕ) → is_there day_ring c j ≡ is_there day_ring x j
  pub entries : (j : ℕ) → j ≢ i → entry_at day_ring c j ≡ entry_at day_ring x j

pub same_indices : (i : ℕ) (x c : List ℕ) → SameButOne i x c → indices c ≡ indices x
unfolding indices ring_indices
same_indices i x c same = λ t. filter (λ j. same.there j t) (order day_ring (next day_ring (same.pointer_is t)))

pub same_taken : (i : ℕ) (x c : List ℕ) → SameButOne i x c → taken day_ring c ≡ taken day_ring x
same_taken i x c same =
    let there : is_there day_ring c (pointer day_ring c) ≡ is_there day_ring x (pointer day_ring x) = same.there (pointer day_ring c) ∙ ap (is_there day_ring x) same.pointer_is in
    λ t. cond (there t) (next day_ring (same.pointer_is t)) (same.pointer_is t)

pub same_days : (i : ℕ) (x c : List ℕ) (js : List ℕ) → SameButOne i x c → Each (λ j. (j < DAY_SLOTS) × (j ≢ i)) js → map (day_at c) js ≡ map (day_at x) js
same_days i x c [] same others = refl
same_days i x c (j ∷ js) same others = ap (λ (e : List ℕ). unit_day e ∷ map (day_at c) js) (same.entries j others.0.1) ∙ ap (λ (l : List StoredDay). day_at x j ∷ l) (same_days i x c js same others.1)

-- a write inside one slot behind its date
pub in_slot : (i p n : ℕ) (x c : List ℕ) → slot_place i + 4 ≤ p → p + n ≤ slot_place i + DAY_SLOT_SIZE → SameOutside p n x c → SameButOne i x c
in_slot i p n x c low high same = record {
  pointer_is = number_before p n DAYS.place 4 x c same (omega (arith, low));
  there = λ j. ap (λ (b : List ℕ). not (big_number 4 b == 0)) (gate j);
  entries = λ j other. ⊎_elim
      (λ less. part_before p n (slot_place j) DAY_SLOT_SIZE x c same (omega (arith, less, low)))
      (λ more. let greater : i < j = omega (arith, more, other) in part_after p n (slot_place j) DAY_SLOT_SIZE x c same (omega (arith, greater, high)))
      (cases_lt j i);
}
  where
    gate : (j : ℕ) → bytes_at c (slot_place j + 0) 4 ≡ bytes_at x (slot_place j + 0) 4
    gate j = ⊎_elim
        (λ less. part_before p n (slot_place j + 0) 4 x c same (omega (arith, less, low)))
        (λ more. part_after p n (slot_place j + 0) 4 x c same (omega (arith, more, high)))
        (cases_lt j (i + 1))

-- a write before the pointer
pub in_front : (i p n : ℕ) (x c : List ℕ) → p + n ≤ DAYS.place → SameOutside p n x c → SameButOne i x c
in_front i p n x c high same = record {
  pointer_is = number_after p n DAYS.place 4 x c same high;
  there = λ j. ap (λ (b : List ℕ). not (big_number 4 b == 0)) (part_after p n (slot_place j + 0) 4 x c same (omega (arith, high)));
  entries = λ j other. part_after p n (slot_place j) DAY_SLOT_SIZE x c same (omega (arith, high));
}

-- the newest day's slot, with what stands there
pub record IsSlot (i : ℕ) (js : List ℕ) (older : List StoredDay) (p k date o n : ℕ) (words x : List ℕ) : Type 0 where
  pub sized : length x ≡ IMAGE_SIZE
  pub pointer_is : pointer day_ring x ≡ p
  pub kept : last_kept x ≡ k
  pub order_is : indices x ≡ js ++ i ∷ []
  pub next_is : taken day_ring x ≡ next day_ring i
  pub older_are : map (day_at x) js ≡ older
  pub date_is : slot_date x i ≡ date
  pub odometer_is : slot_odometer x i ≡ o
  pub count_is : slot_count x i ≡ n
  pub words_are : slot_words x i n ≡ words

pub map_map : (x : List ℕ) (js : List ℕ) → map unit_day (map (entry_at day_ring x) js) ≡ map (day_at x) js
map_map x [] = refl
map_map x (j ∷ js) = ap (λ (l : List StoredDay). day_at x j ∷ l) (map_map x js)

pub all_days : (x : List ℕ) → unit_days x ≡ map (day_at x) (indices x)
unfolding unit_days indices ring_indices
all_days x = map_map x (filter (is_there day_ring x) (order day_ring (next day_ring (pointer day_ring x))))

module _ (i : ℕ) (below : i < DAY_SLOTS) (js : List ℕ) (others : Each (λ j. (j < DAY_SLOTS) × (j ≢ i)) js) (older : List StoredDay) (p k date o n : ℕ) (few : n ≤ DAY_WORD_LIMIT) (words x : List ℕ) (slot : IsSlot i js older p k date o n words x) where
  -- the days are those before and this one
  pub slot_days : unit_days x ≡ older ++ record { date = date; odometer = o; words = words } ∷ []
  slot_days =
      all_days x ∙ ap (map (day_at x)) slot.order_is ∙ map-append (day_at x) js (i ∷ []) ∙ ap (λ (l : List StoredDay). l ++ day_at x i ∷ []) slot.older_are
      ∙ ap (λ (d : StoredDay). older ++ d ∷ []) (day_is x i n slot.count_is few ∙ (λ t. record { date = slot.date_is t; odometer = slot.odometer_is t; words = slot.words_are t }))

  -- a write behind the words changes nothing of it
  pub slot_behind : (c : List ℕ) → DiffersBehind i n x c → IsSlot i js older p k date o n words c
  unfolding last_kept
  slot_behind c same =
      let q = free_place i n in
      let room = DAY_WORDS.size - 2 * n in
      let but = in_slot i q room x c (omega arith) (omega (arith, few)) same in
      record {
        sized = same.same_length ∙ slot.sized;
        pointer_is = but.pointer_is ∙ slot.pointer_is;
        kept = number_before q room LAST_KEPT.place LAST_KEPT.size x c same (omega arith) ∙ slot.kept;
        order_is = same_indices i x c but ∙ slot.order_is;
        next_is = same_taken i x c but ∙ slot.next_is;
        older_are = same_days i x c js but others ∙ slot.older_are;
        date_is = number_before q room (slot_place i) 4 x c same (omega arith) ∙ slot.date_is;
        odometer_is = number_before q room (slot_place i + 4) 4 x c same (omega arith) ∙ slot.odometer_is;
        count_is = number_before q room (slot_place i + DAY_COUNT.place) 2 x c same (omega arith) ∙ slot.count_is;
        words_are = words_before q room (slot_place i + DAY_WORDS.place) n x c same (omega arith) ∙ slot.words_are;
      }

  -- nor does one in front of the days, but of the last-kept minute
  pub slot_front : (a len k' : ℕ) (c : List ℕ) → SameOutside a len x c → a + len ≤ DAYS.place → last_kept c ≡ k' → IsSlot i js older p k' date o n words c
  slot_front a len k' c same high kept =
      let but = in_front i a len x c high same in
      record {
        sized = same.same_length ∙ slot.sized;
        pointer_is = but.pointer_is ∙ slot.pointer_is;
        kept = kept;
        order_is = same_indices i x c but ∙ slot.order_is;
        next_is = same_taken i x c but ∙ slot.next_is;
        older_are = same_days i x c js but others ∙ slot.older_are;
        date_is = number_after a len (slot_place i) 4 x c same (omega (arith, high)) ∙ slot.date_is;
        odometer_is = number_after a len (slot_place i + 4) 4 x c same (omega (arith, high)) ∙ slot.odometer_is;
        count_is = number_after a len (slot_place i + DAY_COUNT.place) 2 x c same (omega (arith, high)) ∙ slot.count_is;
        words_are = words_after a len (slot_place i + DAY_WORDS.place) n x c same (omega (arith, high)) ∙ slot.words_are;
      }

  -- more words, and then their count
  pub slot_counted : (ws : List ℕ) → AreShort ws → n + length ws ≤ DAY_WORD_LIMIT → IsSlot i js older p k date o (n + length ws) (words ++ ws) (with_words i n ws x)
  unfolding last_kept
  slot_counted ws short fits =
      let q = free_place i n in
      let room = DAY_WORDS.size - 2 * n in
      let n' = n + length ws in
      let a = slot_place i + DAY_COUNT.place in
      let y = written q ws x in
      let z = with_words i n ws x in
      let behind : DiffersBehind i n x y = written_outside q room ws x (omega (arith, fits)) (omega (arith, below, few, slot.sized)) in
      let count : SameOutside a 2 y z = put_outside a (to_be_bytes w16 n') y (omega (arith, below, slot.sized, behind.same_length)) in
      let but_y = in_slot i q room x y (omega arith) (omega (arith, few)) behind in
      let but_z = in_slot i a 2 y z (omega arith) (omega arith) count in
      record {
        sized = count.same_length ∙ behind.same_length ∙ slot.sized;
        pointer_is = but_z.pointer_is ∙ but_y.pointer_is ∙ slot.pointer_is;
        kept = number_before a 2 LAST_KEPT.place LAST_KEPT.size y z count (omega arith) ∙ number_before q room LAST_KEPT.place LAST_KEPT.size x y behind (omega arith) ∙ slot.kept;
        order_is = same_indices i y z but_z ∙ same_indices i x y but_y ∙ slot.order_is;
        next_is = same_taken i y z but_z ∙ same_taken i x y but_y ∙ slot.next_is;
        older_are = same_days i y z js but_z others ∙ same_days i x y js but_y others ∙ slot.older_are;
        date_is = number_before a 2 (slot_place i) 4 y z count (omega arith) ∙ number_before q room (slot_place i) 4 x y behind (omega arith) ∙ slot.date_is;
        odometer_is = number_before a 2 (slot_place i + 4) 4 y z count (omega arith) ∙ number_before q room (slot_place i + 4) 4 x y behind (omega arith) ∙ slot.odometer_is;
        count_is = number_put2 a n' y (omega (arith, below, slot.sized, behind.same_length)) (omega (arith, fits));
        words_are =
            words_after a 2 (slot_place i + DAY_WORDS.place) n' y z count (omega arith) ∙ words_split y (slot_place i + DAY_WORDS.place) n (length ws)
            ∙ ap (λ (l : List ℕ). l ++ words_at y q (length ws)) (words_before q room (slot_place i + DAY_WORDS.place) n x y behind (omega arith) ∙ slot.words_are)
            ∙ ap (λ (l : List ℕ). words ++ l) (written_words q ws x (omega (arith, fits, below, slot.sized)) short);
      }
