-- What stands in the record of a day that is there.
use Rattle.std.proofs.Common.{◌≡◌, ℕ, zero, suc, ◌+◌, ◌*◌, ◌<◌, ◌≤◌, List, [], ◌∷◌, ◌++◌, length, get_or, refl, sym, ◌∙◌, ap, arith}
use Rattle.tach_media.specs.Medium.{bytes_at}
use Rattle.card_model.specs.Bytes.{number, two_bytes, four_bytes, decimal_bytes}
use Rattle.card_model.specs.Days.{Day, len_of, total, records, record_of, word_bytes}
use Rattle.card_model.specs.Image.{StringShape, IsStringShape, oldest_pointer, IsPointer, IsPlace, IsAt, at}
use Rattle.card_model.proofs.Circle.{part_back}
use Rattle.card_model.proofs.Lists.{total-append, records_length, previous_of}
use Rattle.card_model.proofs.Numbers.{number_two}
use Rattle.card_model.proofs.Reading.{place_then, fills, circle_part, spelled_at}

-- a word among the words
word_part : (ws : List ℕ) (i : ℕ) (rest : List ℕ) → i < length ws → bytes_at (word_bytes ws ++ rest) (2 * i) 2 ≡ two_bytes (get_or ws i 0)
word_part [] i rest lt = absurd (omega (arith, lt))
word_part (w ∷ ws) zero rest lt = refl
word_part (w ∷ ws) (suc i) rest lt =
    let far : 2 * suc i ≡ suc (suc (2 * i)) = omega arith in
    ap (λ (n : ℕ). bytes_at (word_bytes (w ∷ ws) ++ rest) n 2) far ∙ word_part ws i rest (omega (arith, lt))

module _ (r : StringShape) (shape : IsStringShape r) (x : List ℕ) (inside : r.base + (4 + r.size) ≤ length x) (p : ℕ) (d : Day) (p_pointer : IsPointer r.size p) (day_at : IsAt r x p d) where
  room : total day_at.older + len_of d ≤ r.size
  room = omega (arith, fills r shape x inside (day_at.older ++ d ∷ day_at.later) day_at.holds, total-append day_at.older (d ∷ day_at.later))

  -- any two bytes of the record
  field : (k q : ℕ) → k + 2 ≤ len_of d → IsPlace r.size p k q → IsPointer r.size q
      → bytes_at x (at r q) 2 ≡ bytes_at (record_of (previous_of day_at.holds.previous day_at.older) d ++ (records (len_of d) day_at.later ++ day_at.holds.rest)) k 2
  field k q fits q_place q_pointer =
      let h = day_at.holds in
      let older = day_at.older in
      let a = records h.previous older in
      let back = record_of (previous_of h.previous older) d ++ (records (len_of d) day_at.later ++ h.rest) in
      sym (circle_part r shape x inside (total older + k) q 2 h.oldest.below (place_then r.size (oldest_pointer r x) (total older) p k q h.oldest.below p_pointer.below q_pointer.below (omega (arith, room, fits)) day_at.place q_place)
      (omega (arith, q_pointer.below, q_pointer.even, shape.even)) (omega (arith, room, fits)))
      ∙ ap (λ (l : List ℕ). bytes_at l (total older + k) 2) (h.spelled ∙ spelled_at h.previous older d day_at.later h.rest)
      ∙ ap (λ (m : ℕ). bytes_at (a ++ back) (m + k) 2) (sym (records_length h.previous older)) ∙ part_back k 2 a back

  pub word_read : (i q : ℕ) → i < length d.words → IsPlace r.size p (12 + 2 * i) q → IsPointer r.size q → number (bytes_at x (at r q) 2) ≡ get_or d.words i 0
  word_read i q lt q_place q_pointer =
      let rest = records (len_of d) day_at.later ++ day_at.holds.rest in
      let e = previous_of day_at.holds.previous day_at.older in
      let front = two_bytes e ++ (two_bytes (len_of d) ++ (four_bytes d.date ++ (decimal_bytes d.counter ++ two_bytes d.km))) in
      ap number (field (12 + 2 * i) q (omega (arith, lt)) q_place q_pointer ∙ part_back (2 * i) 2 front (word_bytes d.words ++ rest) ∙ word_part d.words i rest lt) ∙ number_two (get_or d.words i 0)
