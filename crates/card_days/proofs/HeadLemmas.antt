-- The head of a day in the bytes of its record.
use Rattle.std.proofs.Common.{◌≡◌, ℕ, ◌+◌, ◌-◌, ◌*◌, ◌/◌, ◌%◌, ◌<◌, List, [], ◌∷◌, ◌++◌, length, take, drop, refl, sym, ◌∙◌, ap, arith}
use Rattle.tach_media.specs.Medium.{bytes_at}
use Rattle.card_model.specs.Bytes.{number, two_bytes, four_bytes, decimal}
use Rattle.card_model.specs.Days.{Day, len_of, record_of, IsDay}
use Rattle.card_model.proofs.Numbers.{number_two, number_four, decimal_same}
use Rattle.card_days.specs.declared.head.DayHead.{DayHead}
use Rattle.card_days.specs.declared.head.RecordHead.{RecordHead}
use Rattle.card_days.specs.Heads.{head_bytes, day_head_of, day_head}

-- twelve bytes in pairs
pub in_pairs : (b : List ℕ) → take 2 b ++ (take 2 (drop 2 b) ++ (take 2 (drop 4 b) ++ (take 2 (drop 6 b) ++ (take 2 (drop 8 b) ++ drop 10 b)))) ≡ b
in_pairs [] = refl
in_pairs (b0 ∷ []) = refl
in_pairs (b0 ∷ b1 ∷ []) = refl
in_pairs (b0 ∷ b1 ∷ b2 ∷ []) = refl
in_pairs (b0 ∷ b1 ∷ b2 ∷ b3 ∷ []) = refl
in_pairs (b0 ∷ b1 ∷ b2 ∷ b3 ∷ b4 ∷ []) = refl
in_pairs (b0 ∷ b1 ∷ b2 ∷ b3 ∷ b4 ∷ b5 ∷ []) = refl
in_pairs (b0 ∷ b1 ∷ b2 ∷ b3 ∷ b4 ∷ b5 ∷ b6 ∷ []) = refl
in_pairs (b0 ∷ b1 ∷ b2 ∷ b3 ∷ b4 ∷ b5 ∷ b6 ∷ b7 ∷ []) = refl
in_pairs (b0 ∷ b1 ∷ b2 ∷ b3 ∷ b4 ∷ b5 ∷ b6 ∷ b7 ∷ b8 ∷ []) = refl
in_pairs (b0 ∷ b1 ∷ b2 ∷ b3 ∷ b4 ∷ b5 ∷ b6 ∷ b7 ∷ b8 ∷ b9 ∷ rest) = refl

-- a date in two halves
pub date_halves : (high low : ℕ) → high < 65536 → low < 65536 → four_bytes (high * 65536 + low) ≡ two_bytes high ++ two_bytes low
date_halves high low h_short l_short =
    let n = high * 65536 + low in
    let e1 : (high * 65536 + low) / 16777216 ≡ high / 256 = omega (arith, l_short) in
    let e2 : (high * 65536 + low) / 65536 % 256 ≡ high % 256 = ap (λ (m : ℕ). m % 256) (omega (arith, l_short)) in
    let e3 : (high * 65536 + low) / 256 % 256 ≡ low / 256 = omega (arith, l_short) in
    let e4 : (high * 65536 + low) % 256 ≡ low % 256 = omega (arith, l_short) in
    ap (λ (m : ℕ). m ∷ n / 65536 % 256 ∷ n / 256 % 256 ∷ n % 256 ∷ []) e1
    ∙ ap (λ (m : ℕ). high / 256 ∷ m ∷ n / 256 % 256 ∷ n % 256 ∷ []) e2
    ∙ ap (λ (m : ℕ). high / 256 ∷ high % 256 ∷ m ∷ n % 256 ∷ []) e3
    ∙ ap (λ (m : ℕ). high / 256 ∷ high % 256 ∷ low / 256 ∷ m ∷ []) e4

-- the numbers that were read are those of the day
module _ (h : RecordHead) (q : ℕ) (d : Day) (rest : List ℕ) (same : head_bytes h ≡ take 12 (record_of q d ++ rest)) where
  pub len_is : h.len ≡ len_of d
  len_is = sym (number_two h.len) ∙ ap (λ (l : List ℕ). number (bytes_at l 2 2)) same ∙ number_two (len_of d)

  pub date_is : h.date ≡ d.date
  date_is = sym (number_four h.date) ∙ ap (λ (l : List ℕ). number (bytes_at l 4 4)) same ∙ number_four d.date

  pub counter_is : IsDay d → decimal h.counter ≡ d.counter
  counter_is is = ap decimal (sym (number_two h.counter) ∙ ap (λ (l : List ℕ). number (bytes_at l 8 2)) same) ∙ decimal_same d.counter is.decimal

  pub km_is : h.km ≡ d.km
  km_is = sym (number_two h.km) ∙ ap (λ (l : List ℕ). number (bytes_at l 10 2)) same ∙ number_two d.km

  pub head_is : (p : ℕ) → IsDay d → day_head_of h p ≡ day_head p d
  head_is p is =
      let count : (h.len - 12) / 2 ≡ length d.words = omega (arith, len_is) in
      ap (λ (n : ℕ). headed p n (decimal h.counter) h.km ((h.len - 12) / 2)) date_is ∙ ap (λ (n : ℕ). headed p d.date n h.km ((h.len - 12) / 2)) (counter_is is)
      ∙ ap (λ (n : ℕ). headed p d.date d.counter n ((h.len - 12) / 2)) km_is ∙ ap (λ (n : ℕ). headed p d.date d.counter d.km n) count
    where
      headed : ℕ → ℕ → ℕ → ℕ → ℕ → DayHead
      headed place date counter km words = record { place = place; date = record { 0 = date }; counter = record { 0 = counter }; km = record { 0 = km }; words = words }
