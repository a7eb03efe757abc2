-- The unit file of an image shows the image's minutes.
use Rattle.std.proofs.Common.{◌≡◌, ℕ, zero, suc, ◌+◌, ◌*◌, ◌/◌, ◌%◌, ◌<◌, ◌≤◌, Bool, true, false, cond, ◌&&◌, Some, List, [], ◌∷◌, ◌++◌, map, filter, refl, sym, ◌∙◌, ap, arith}
use Rattle.std.specs.Prelude.{nat_le, flat_map, ◌==◌}
use Rattle.std.specs.List.{range_with_len}
use Rattle.std.proofs.lemmas.Bool.Decides.{nat_tests}
use Rattle.unit_model.specs.Days.{StoredDay, ShownDay, UnitMinute, slot_bit, word_state, word_minute, bare, state_by, state_after, state_at, day_of, minute_by, minute_at, minutes_shown, day_shown, minutes_of, day_kept}
use Rattle.unit_model.specs.Image.{last_kept, unit_days, recorded, unit_minutes}
use Rattle.message_model.specs.Messages.{ADay, AnEventList, ASpeedList, ATechnical, EventMessage, SpeedMessage, TechnicalMessage}
use Rattle.message_model.specs.Sending.{sent_days, overview_of, day_message_of, event_message_of, speed_message_of, technical_message_of, messages_of}
use Rattle.message_model.specs.Showing.{minutes_told, minutes_in}

-- words behind a minute say nothing of the minutes up to it
state_kept : (slot t k c : ℕ) (ws : List ℕ) → t ≤ k → state_after slot t c (filter (λ w. nat_le (word_minute w) k) ws) ≡ state_after slot t c ws
state_kept slot t k c [] le = refl
state_kept slot t k c (w ∷ ws) le = by (nat_le (word_minute w) k) refl (λ d. state_kept slot t k d ws le)
  where
    neither : (a : Bool) → a && false ≡ false
    neither true = refl
    neither false = refl

    late : (m : ℕ) → nat_le m k ≡ false → nat_le m t ≡ false
    late m is = grind (arith, nat_tests, le)

    behind : nat_le (word_minute w) k ≡ false → state_by slot t c w ≡ c
    behind is = ap (λ (b : Bool). cond (slot_bit w == slot && b) (word_state w) c) (late (word_minute w) is) ∙ ap (λ (b : Bool). cond b (word_state w) c) (neither (slot_bit w == slot))

    by : (b : Bool) → nat_le (word_minute w) k ≡ b → ((d : ℕ) → state_after slot t d (filter (λ v. nat_le (word_minute v) k) ws) ≡ state_after slot t d ws)
        → state_after slot t c (cond b (w ∷ filter (λ v. nat_le (word_minute v) k) ws) (filter (λ v. nat_le (word_minute v) k) ws)) ≡ state_after slot t (state_by slot t c w) ws
    by true is rest = rest (state_by slot t c w)
    by false is rest = rest c ∙ ap (λ (s : ℕ). state_after slot t s ws) (sym (behind is))

map_range : {X : Type 0} (f g : ℕ → X) (from n : ℕ) → ((t : ℕ) → t < from + n → f t ≡ g t) → map f (range_with_len from n) ≡ map g (range_with_len from n)
map_range f g from zero same = refl
map_range f g from (suc n) same =
    ap (λ y. y ∷ map f (range_with_len (from + 1) n)) (same from (omega arith))
    ∙ ap (λ ys. g from ∷ ys) (map_range f g (from + 1) n (λ t low. same t (omega (arith, low))))

-- a day without the words behind the last-kept minute shows the same minutes
pub day_same : (k : ℕ) (d : StoredDay) → day_shown k (day_kept k d) ≡ day_shown k d
day_same k d = by (day_of d == k / 1440) refl
  where
    less : StoredDay
    less = record { date = d.date; odometer = d.odometer; words = filter (λ w. nat_le (word_minute w) (k % 1440)) d.words }

    minute_same : (t : ℕ) → t ≤ k % 1440 → minute_at less t ≡ minute_at d t
    minute_same t le =
        ap (λ (s : ℕ). minute_by (1440 * day_of d + t) s (state_at 1 t less.words)) (state_kept 0 t (k % 1440) bare d.words le)
        ∙ ap (λ (s : ℕ). minute_by (1440 * day_of d + t) (state_at 0 t d.words) s) (state_kept 1 t (k % 1440) bare d.words le)

    by : (b : Bool) → (day_of d == k / 1440) ≡ b → day_shown k (cond b less d) ≡ day_shown k d
    by false is = refl
    by true is =
        let few : minutes_shown k (day_of d) ≡ k % 1440 + 1 = ap (λ (b : Bool). cond b (k % 1440 + 1) 1440) is in
        ap (λ (ms : List UnitMinute). record { day = day_of d; minutes = ms }) (map_range (minute_at less) (minute_at d) 0 (minutes_shown k (day_of d)) (λ t low. minute_same t (omega (arith, low, few))))

module _ (k : ℕ) (x : List ℕ) (e : EventMessage) (v : SpeedMessage) (t : TechnicalMessage) where
  days_told : (days : List StoredDay) → flat_map (minutes_told (Some (60 * k))) (map (λ d. ADay (day_message_of x d)) (map (day_kept k) days) ++ AnEventList e ∷ ASpeedList v ∷ ATechnical t ∷ []) ≡ minutes_of (map (day_shown k) days)
  unfolding day_message_of
  days_told [] = refl
  days_told (d ∷ days) =
      let whole : 60 * k / 60 ≡ k = omega arith in
      ap (λ (l : List UnitMinute). l ++ flat_map (minutes_told (Some (60 * k))) (map (λ d. ADay (day_message_of x d)) (map (day_kept k) days) ++ AnEventList e ∷ ASpeedList v ∷ ATechnical t ∷ []))
      (ap (λ (n : ℕ). (day_shown n (day_kept k d)).minutes) whole ∙ ap (λ (s : ShownDay). s.minutes) (day_same k d))
      ∙ ap (λ (l : List UnitMinute). (day_shown k d).minutes ++ l) (days_told days)

pub file_minutes : (x : List ℕ) → minutes_in (messages_of x) ≡ unit_minutes x
unfolding messages_of unit_minutes recorded sent_days overview_of
file_minutes x = days_told (last_kept x) x (event_message_of x) (speed_message_of x) (technical_message_of x) (filter (λ d. nat_le (day_of d) (last_kept x / 1440)) (unit_days x))
