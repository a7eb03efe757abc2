-- The minutes that the recorded words of the recorded days show.
use Rattle.std.proofs.Common.{◌≡◌, ℕ, ◌+◌, ◌*◌, ◌/◌, ◌%◌, ◌≤◌, min, Bool, true, false, cond, List, [], ◌∷◌, length, filter, Some, option_map, refl, sym, ◌∙◌, ap, arith}
use Rattle.std.specs.Prelude.{◌==◌, ◌&&◌, nat_le, slice_get}
use Rattle.std.proofs.lemmas.Bool.Decides.{nat_tests}
use Rattle.std.proofs.lemmas.Option.{slice_get-map}
use Rattle.unit_model.specs.declared.layout.TheConstants.{DAY_WORD_LIMIT}
use Rattle.unit_model.specs.Days.{slot_bit, word_state, word_minute, state_by, state_after, state_at, bare, UnitMinute, minute_by, ShownDay, minute_at, minutes_shown, day_shown}
use Rattle.unit_model.specs.Image.{last_kept, recorded, slot_date, slot_odometer, slot_count, slot_words, recorded_indices, covered_words, recorded_words}
use Rattle.unit_minutes.specs.Image.{Notes, IsNotes}
use Rattle.unit_minutes.specs.Reading.{AreRight}
use Rattle.unit_model.proofs.Growth.{map_range_same}
use Rattle.unit_minutes.proofs.Shown.{shown}
use Rattle.unit_model.proofs.Slots.{day_at, day_is}
use Rattle.unit_model.proofs.Recorded.{recorded_are, recorded_length}

-- without the words of later minutes a state is the same
state_without : (slot t last s : ℕ) (ws : List ℕ) → t ≤ last → state_after slot t s (filter (λ w. nat_le (word_minute w) last) ws) ≡ state_after slot t s ws
state_without slot t last s [] le = refl
state_without slot t last s (w ∷ ws) le = by (state_without slot t last s ws le) (state_without slot t last (state_by slot t s w) ws le) (nat_le (word_minute w) last) refl
  where
    no_state : (b : Bool) → cond (b && false) (word_state w) s ≡ s
    no_state true = refl
    no_state false = refl

    by : state_after slot t s (filter (λ v. nat_le (word_minute v) last) ws) ≡ state_after slot t s ws → state_after slot t (state_by slot t s w) (filter (λ v. nat_le (word_minute v) last) ws) ≡ state_after slot t (state_by slot t s w) ws
        → (b : Bool) → nat_le (word_minute w) last ≡ b → state_after slot t s (cond b (w ∷ (filter (λ v. nat_le (word_minute v) last) ws)) (filter (λ v. nat_le (word_minute v) last) ws)) ≡ state_after slot t s (w ∷ ws)
    by here next true is = next
    by here next false is =
        let off : nat_le (word_minute w) t ≡ false = grind (arith, nat_tests, is) in
        here ∙ sym (ap (λ (e : ℕ). state_after slot t e ws) (ap (λ (b : Bool). cond ((slot_bit w == slot) && b) (word_state w) s) off ∙ no_state (slot_bit w == slot)))

module _ (x : List ℕ) (i : ℕ) (few : slot_count x i ≤ DAY_WORD_LIMIT) where
  abbrev k : ℕ
  k = last_kept x

  abbrev date : ℕ
  date = slot_date x i

  abbrev o : ℕ
  o = slot_odometer x i

  abbrev all : List ℕ
  all = slot_words x i (slot_count x i)

  covered : covered_words x i ≡ all
  covered = ap (slot_words x i) (let e : min (slot_count x i) DAY_WORD_LIMIT ≡ slot_count x i = omega (arith, few) in e)

  abbrev Shows : Bool → Type 0
  Shows b = day_shown k (record { date = date; odometer = o; words = all }) ≡ day_shown k (record { date = date; odometer = o; words = cond b (filter (λ w. nat_le (word_minute w) (k % 1440)) all) all })

  same : (b : Bool) → (date / 86400 == k / 1440) ≡ b → Shows b
  same false is = refl
  same true is =
      let low : List ℕ = filter (λ w. nat_le (word_minute w) (k % 1440)) all in
      let n_is : minutes_shown k (date / 86400) ≡ k % 1440 + 1 = ap (λ (b : Bool). cond b (k % 1440 + 1) 1440) is in
      let state_is : (slot t : ℕ) → t ≤ k % 1440 → state_at slot t all ≡ state_at slot t low = λ slot t le. sym (state_without slot t (k % 1440) bare all le) in
      ap (λ (l : List UnitMinute). let d : ShownDay = record { day = date / 86400; minutes = l } in d)
      (map_range_same (minute_at (record { date = date; odometer = o; words = all })) (minute_at (record { date = date; odometer = o; words = low })) 0 (minutes_shown k (date / 86400))
      (λ t from to. let le : t ≤ k % 1440 = omega (arith, to, n_is) in λ q. minute_by (1440 * (date / 86400) + t) (state_is 0 t le q) (state_is 1 t le q)))

  -- a day by its recorded words
  pub day_by_words : day_shown k (day_at x i) ≡ day_shown k (record { date = date; odometer = o; words = recorded_words x i })
  day_by_words =
      ap (day_shown k) (day_is x i (slot_count x i) refl few) ∙ same (date / 86400 == k / 1440) refl
      ∙ ap (λ (l : List ℕ). day_shown k (record { date = date; odometer = o; words = cond (date / 86400 == k / 1440) (filter (λ w. nat_le (word_minute w) (k % 1440)) l) l })) (sym covered)

-- the n-th recorded day, by its recorded words
pub recorded_at : (x : List ℕ) (n i : ℕ) → slice_get (recorded_indices x) n ≡ Some i → slot_count x i ≤ DAY_WORD_LIMIT
    → slice_get (recorded x) n ≡ Some (day_shown (last_kept x) (record { date = slot_date x i; odometer = slot_odometer x i; words = recorded_words x i }))
recorded_at x n i is few =
    ap (λ (l : List ShownDay). slice_get l n) (recorded_are x) ∙ slice_get-map (λ i. day_shown (last_kept x) (day_at x i)) (recorded_indices x) n
    ∙ ap (option_map (λ i. day_shown (last_kept x) (day_at x i))) is ∙ ap Some (day_by_words x i few)

-- so many days are recorded
pub days_are : (j : Notes) (ok : IsNotes j) (x : List ℕ) → AreRight j x → length (recorded x) ≡ j.day_count
days_are j ok x right = recorded_length x ∙ (shown j ok x right).len
