-- Where the fields of messages stand that are read by their places.
use Rattle.std.proofs.Common.{◌≡◌, ◌∙◌, ℕ, ◌+◌, ◌*◌, ◌<◌, ◌≤◌, List, [], ◌∷◌, ◌++◌, length, get_or, take, ap, sym, arith, append_assoc, length-append}
use Rattle.byteorder.specs.Endian.{big_bytes}
use Rattle.byteorder.specs.Numbers.{length-bytes_high_first}
use Rattle.card_layout.specs.Images.{bytes_at, number_at}
use Rattle.card_layout.specs.Fields.{joined}
use Rattle.message_model.specs.Messages.{DayMessage, EventMessage, ADay, AnEventList, counted, word_bytes}
use Rattle.unit_messages.specs.Reading.{BeginsWith}
use Rattle.file_view.proofs.Laid.{number_behind, joined_length, skip, entry_at}

-- the odometer of a day
pub odometer_laid : (m : DayMessage) (b : List ℕ) → BeginsWith (ADay m) b → number_at b 6 3 ≡ m.odometer
odometer_laid m b begins =
    let date = big_bytes 4 m.date in
    let odometer = big_bytes 3 m.odometer in
    let rest = counted 2 m.insertions ++ (counted 2 (word_bytes m.words) ++ (counted 1 m.places ++ (counted 2 m.conditions ++ (m.signature ++ [])))) in
    let pre : List ℕ = 0x76 ∷ 2 ∷ date in
    let long : length pre ≡ 6 = omega (arith, length-bytes_high_first 4 m.date) in
    let spelled : b ≡ pre ++ (odometer ++ (rest ++ begins.rest)) = begins.spelled ∙ by date odometer rest begins.rest in
    ap (λ (l : List ℕ). number_at l 6 3) spelled ∙ ap (λ (p : ℕ). number_at (pre ++ (odometer ++ (rest ++ begins.rest))) p 3) (sym long)
    ∙ number_behind pre (rest ++ begins.rest) 3 m.odometer begins.is_message.odometer
  where
    by : (date odometer rest more : List ℕ) → (0x76 ∷ 2 ∷ (date ++ (odometer ++ rest))) ++ more ≡ (0x76 ∷ 2 ∷ date) ++ (odometer ++ (rest ++ more))
    by date odometer rest more = simp append_assoc

-- the events of a message, behind its faults
pub record AreEventsAt (m : EventMessage) (b : List ℕ) : Type 0 where
  pub faults : number_at b 2 1 ≡ length m.faults
  pub count : number_at b (3 + 82 * length m.faults) 1 ≡ length m.events
  pub event : (i : ℕ) → i < length m.events → bytes_at b (4 + 82 * length m.faults + 83 * i) 83 ≡ get_or m.events i []
  pub inside : 4 + 82 * length m.faults + 83 * length m.events ≤ length b

pub events_laid : (m : EventMessage) (b : List ℕ) → BeginsWith (AnEventList m) b → AreEventsAt m b
events_laid m b begins =
    let is = begins.is_message in
    let n = length m.faults in
    let k = length m.events in
    let rest = big_bytes 4 m.last_control ++ (big_bytes 4 m.first_over ++ (big_bytes 1 m.over_count ++ (counted 1 m.overs ++ (counted 1 m.adjustments ++ (m.signature ++ []))))) in
    let tail = rest ++ begins.rest in
    let pre : List ℕ = 0x76 ∷ 3 ∷ [] in
    let first : b ≡ pre ++ (big_bytes 1 n ++ (joined m.faults ++ (big_bytes 1 k ++ (joined m.events ++ tail)))) =
    begins.spelled ∙ by (big_bytes 1 n) (joined m.faults) (big_bytes 1 k) (joined m.events) rest begins.rest in
    let pre1 : List ℕ = ((0x76 ∷ 3 ∷ []) ++ big_bytes 1 (length m.faults)) ++ joined m.faults in
    let pre1_long : length pre1 ≡ 3 + 82 * n =
    omega (arith, length-append (pre ++ big_bytes 1 n) (joined m.faults), length-append pre (big_bytes 1 n), length-bytes_high_first 1 n, joined_length 82 m.faults is.faults.sized) in
    let second : b ≡ pre1 ++ (big_bytes 1 k ++ (joined m.events ++ tail)) =
    first ∙ sym (append_assoc pre (big_bytes 1 n) (joined m.faults ++ (big_bytes 1 k ++ (joined m.events ++ tail)))) ∙ sym (append_assoc (pre ++ big_bytes 1 n) (joined m.faults) (big_bytes 1 k ++ (joined m.events ++ tail))) in
    let pre2 : List ℕ = (((0x76 ∷ 3 ∷ []) ++ big_bytes 1 (length m.faults)) ++ joined m.faults) ++ big_bytes 1 (length m.events) in
    let pre2_long : length pre2 ≡ 4 + 82 * n = omega (arith, length-append pre1 (big_bytes 1 k), length-bytes_high_first 1 k, pre1_long) in
    let third : b ≡ pre2 ++ (joined m.events ++ tail) = second ∙ sym (append_assoc pre1 (big_bytes 1 k) (joined m.events ++ tail)) in
    record {
      faults = ap (λ (l : List ℕ). number_at l 2 1) first ∙ number_behind pre (joined m.faults ++ (big_bytes 1 k ++ (joined m.events ++ tail))) 1 n is.faults.few;
      count =
          ap (λ (p : ℕ). number_at b p 1) (sym pre1_long) ∙ ap (λ (l : List ℕ). number_at l (length pre1) 1) second
          ∙ number_behind pre1 (joined m.events ++ tail) 1 k is.events.few;
      event = λ i low.
          ap (λ (p : ℕ). bytes_at b (p + 83 * i) 83) (sym pre2_long) ∙ ap (λ (l : List ℕ). bytes_at l (length pre2 + 83 * i) 83) third
          ∙ ap (take 83) (skip pre2 (joined m.events ++ tail) (83 * i)) ∙ entry_at 83 m.events tail i is.events.sized low;
      inside = omega (arith, ap length third, length-append pre2 (joined m.events ++ tail), length-append (joined m.events) tail, joined_length 83 m.events is.events.sized, pre2_long);
    }
  where
    by : (n faults k events rest more : List ℕ) → (0x76 ∷ 3 ∷ ((n ++ faults) ++ ((k ++ events) ++ rest))) ++ more ≡ (0x76 ∷ 3 ∷ []) ++ (n ++ (faults ++ (k ++ (events ++ (rest ++ more)))))
    by n faults k events rest more = simp append_assoc

-- and each is inside
pub event_inside : (m : EventMessage) (b : List ℕ) (i : ℕ) → AreEventsAt m b → i < length m.events → 4 + 82 * length m.faults + 83 * i + 83 ≤ length b
event_inside m b i laid low = omega (arith, laid.inside, low)
