-- Where the entries of a message stand, one list behind the other.
use Rattle.std.proofs.Common.{◌≡◌, ◌∙◌, ℕ, ◌+◌, ◌*◌, ◌<◌, ◌≤◌, ◌^◌, List, [], ◌∷◌, ◌++◌, length, get_or, take, drop, refl, ap, sym, arith, All, append_assoc, length-append}
use Rattle.std.proofs.Math.Nat.{mul-le-mul_left, mul-le-mul_right}
use Rattle.std.proofs.lemmas.List.{length-map, drop_at}
use Rattle.std.proofs.lemmas.List.Elements.{All-map}
use Rattle.byteorder.specs.Endian.{big_bytes}
use Rattle.byteorder.specs.Numbers.{length-bytes_high_first}
use Rattle.card_layout.specs.Images.{bytes_at, number_at}
use Rattle.card_layout.specs.Fields.{joined}
use Rattle.message_model.specs.Messages.{DayMessage, EventMessage, ADay, AnEventList, counted, word_bytes}
use Rattle.unit_messages.specs.Reading.{BeginsWith}
use Rattle.unit_marks.specs.Entries.{BeginWith}
use Rattle.file_view.proofs.Laid.{number_behind, joined_length, skip, entry_at}

-- the same bytes begin with the same
abbrev pub moved : {width size : ℕ} {entries : List (List ℕ)} (bytes other : List ℕ) → other ≡ bytes → BeginWith width size entries bytes → BeginWith width size entries other
moved bytes other same begin = record { are = begin.are; rest = begin.rest; spelled = same ∙ begin.spelled }

-- what is read of entries at the front
pub record AreAtFront (width size : ℕ) (entries : List (List ℕ)) (b rest : List ℕ) : Type 0 where
  pub count : number_at b 0 width ≡ length entries
  pub each : (i : ℕ) → i < length entries → bytes_at b (width + size * i) size ≡ get_or entries i []
  pub end : width + size * length entries ≤ length b
  pub behind : drop (width + size * length entries) b ≡ rest

pub at_front : (width size : ℕ) (entries : List (List ℕ)) (b : List ℕ) (begin : BeginWith width size entries b) → AreAtFront width size entries b begin.rest
at_front width size entries b begin =
    let n : ℕ = length entries in
    let pre : List ℕ = big_bytes width (length entries) in
    let body : List ℕ = joined entries ++ begin.rest in
    let first : b ≡ big_bytes width (length entries) ++ (joined entries ++ begin.rest) = begin.spelled ∙ append_assoc pre (joined entries) begin.rest in
    let pre_long : length (big_bytes width (length entries)) ≡ width = length-bytes_high_first width n in
    let entries_long : length (joined entries) ≡ length entries * size = joined_length size entries begin.are.sized in
    let front_long : length (counted width entries) ≡ width + size * length entries = omega (arith, length-append pre (joined entries), pre_long, entries_long) in
    record {
      count = ap (λ (l : List ℕ). number_at l 0 width) first ∙ number_behind [] body width n begin.are.few;
      each = λ i low.
          ap (λ (p : ℕ). bytes_at b (p + size * i) size) (sym pre_long) ∙ ap (λ (l : List ℕ). bytes_at l (length pre + size * i) size) first
          ∙ ap (take size) (skip pre body (size * i)) ∙ entry_at size entries begin.rest i begin.are.sized low;
      end = omega (arith, ap (λ (l : List ℕ). length l) begin.spelled, length-append (counted width entries) begin.rest, front_long);
      behind = ap (λ (l : List ℕ). drop (width + size * length entries) l) begin.spelled ∙ drop_at (counted width entries) begin.rest (width + size * length entries) front_long;
    }

-- and each is inside
pub entry_inside : (width size : ℕ) (entries : List (List ℕ)) (b rest : List ℕ) (i : ℕ) → AreAtFront width size entries b rest → i < length entries → width + size * i + size ≤ length b
entry_inside width size entries b rest i at low =
    let le : i + 1 ≤ length entries = omega (arith, low) in
    let more : size * (i + 1) ≤ size * length entries = mul-le-mul_left size le in
    omega (arith, at.end, more)

-- a small number times another one
pub times_few : (a b : ℕ) → a < 256 → b < 65536 → a * b ≤ 16711425
times_few a b small few =
    let le : a ≤ 255 = omega (arith, small) in
    let most : a * b ≤ 255 * b = mul-le-mul_right b le in
    omega (arith, most, few)

-- the lists of the message of a day: the insertions, the words, the places
pub record AreDayFronts (m : DayMessage) (b : List ℕ) : Type 0 where
  pub insertions : BeginWith 2 129 m.insertions (drop 9 b)
  pub words : BeginWith 2 2 (word_bytes m.words) insertions.rest
  pub places : BeginWith 1 28 m.places words.rest

pub day_fronts : (m : DayMessage) (b : List ℕ) → BeginsWith (ADay m) b → AreDayFronts m b
day_fronts m b begins =
    let is = begins.is_message in
    let date : List ℕ = big_bytes 4 m.date in
    let odometer : List ℕ = big_bytes 3 m.odometer in
    let tail : List ℕ = counted 2 m.conditions ++ (m.signature ++ []) in
    let pre : List ℕ = 0x76 ∷ 2 ∷ (big_bytes 4 m.date ++ big_bytes 3 m.odometer) in
    let pre_long : length (0x76 ∷ 2 ∷ (big_bytes 4 m.date ++ big_bytes 3 m.odometer)) ≡ 9 =
    omega (arith, length-append date odometer, length-bytes_high_first 4 m.date, length-bytes_high_first 3 m.odometer) in
    let whole : b ≡ (0x76 ∷ 2 ∷ (big_bytes 4 m.date ++ big_bytes 3 m.odometer)) ++ (counted 2 m.insertions ++ (counted 2 (word_bytes m.words) ++ (counted 1 m.places ++ ((counted 2 m.conditions ++ (m.signature ++ [])) ++ begins.rest)))) =
    begins.spelled ∙ by date odometer (counted 2 m.insertions) (counted 2 (word_bytes m.words)) (counted 1 m.places) tail begins.rest in
    record {
      insertions = record {
        are = is.insertions;
        rest = counted 2 (word_bytes m.words) ++ (counted 1 m.places ++ (tail ++ begins.rest));
        spelled = ap (λ (l : List ℕ). drop 9 l) whole ∙ drop_at pre (counted 2 m.insertions ++ (counted 2 (word_bytes m.words) ++ (counted 1 m.places ++ (tail ++ begins.rest)))) 9 pre_long;
      };
      words = record { are = record { few = words_few; sized = words_sized }; rest = counted 1 m.places ++ (tail ++ begins.rest); spelled = refl };
      places = record { are = is.places; rest = tail ++ begins.rest; spelled = refl };
    }
  where
    by : (date odometer insertions words places tail more : List ℕ)
        → (0x76 ∷ 2 ∷ (date ++ (odometer ++ (insertions ++ (words ++ (places ++ tail)))))) ++ more ≡ (0x76 ∷ 2 ∷ (date ++ odometer)) ++ (insertions ++ (words ++ (places ++ (tail ++ more))))
    by date odometer insertions words places tail more = simp append_assoc

    words_few : length (word_bytes m.words) < 256 ^ 2
    words_few = omega (arith, length-map m.words (big_bytes 2), begins.is_message.few)

    words_sized : All (λ e. length e ≡ 2) (word_bytes m.words)
    words_sized = All-map (λ (e : List ℕ). length e ≡ 2) (big_bytes 2) m.words (λ k w low. length-bytes_high_first 2 (get_or m.words k w))

-- the lists of the message of events: the faults, the events, and the over speedings behind nine bytes more
pub record AreEventFronts (m : EventMessage) (b : List ℕ) : Type 0 where
  pub faults : BeginWith 1 82 m.faults (drop 2 b)
  pub events : BeginWith 1 83 m.events faults.rest
  pub overs : BeginWith 1 31 m.overs (drop 9 events.rest)

pub event_fronts : (m : EventMessage) (b : List ℕ) → BeginsWith (AnEventList m) b → AreEventFronts m b
event_fronts m b begins =
    let is = begins.is_message in
    let control : List ℕ = (big_bytes 4 m.last_control ++ big_bytes 4 m.first_over) ++ big_bytes 1 m.over_count in
    let tail : List ℕ = counted 1 m.adjustments ++ (m.signature ++ []) in
    let control_long : length ((big_bytes 4 m.last_control ++ big_bytes 4 m.first_over) ++ big_bytes 1 m.over_count) ≡ 9 =
    omega (
      arith,
      length-append (big_bytes 4 m.last_control ++ big_bytes 4 m.first_over) (big_bytes 1 m.over_count),
      length-append (big_bytes 4 m.last_control) (big_bytes 4 m.first_over),
      length-bytes_high_first 4 m.last_control,
      length-bytes_high_first 4 m.first_over,
      length-bytes_high_first 1 m.over_count,
    ) in
    record {
      faults = record {
        are = is.faults;
        rest = counted 1 m.events ++ (control ++ (counted 1 m.overs ++ (tail ++ begins.rest)));
        spelled = ap (λ (l : List ℕ). drop 2 l) begins.spelled
            ∙ by (counted 1 m.faults) (counted 1 m.events) (big_bytes 4 m.last_control) (big_bytes 4 m.first_over) (big_bytes 1 m.over_count) (counted 1 m.overs) tail begins.rest;
      };
      events = record { are = is.events; rest = control ++ (counted 1 m.overs ++ (tail ++ begins.rest)); spelled = refl };
      overs = record { are = is.overs; rest = tail ++ begins.rest; spelled = drop_at control (counted 1 m.overs ++ (tail ++ begins.rest)) 9 control_long };
    }
  where
    by : (faults events last first count overs tail more : List ℕ)
        → drop 2 ((0x76 ∷ 3 ∷ (faults ++ (events ++ (last ++ (first ++ (count ++ (overs ++ tail))))))) ++ more) ≡ faults ++ (events ++ (((last ++ first) ++ count) ++ (overs ++ (tail ++ more))))
    by faults events last first count overs tail more = simp append_assoc
