-- The pieces of a message of the grammar can be counted.
use Rattle.std.proofs.Common.{◌≡◌, ◌∙◌, ℕ, suc, ◌+◌, ◌*◌, ◌<◌, ◌≤◌, List, [], ◌∷◌, length, arith, length-append}
use Rattle.std.specs.List.{AllByRecursion}
use Rattle.std.proofs.lemmas.List.Elements.{recursion_from_All}
use Rattle.byteorder.specs.Endian.{big_bytes}
use Rattle.byteorder.specs.Numbers.{length-bytes_high_first}
use Rattle.card_layout.specs.Fields.{joined}
use Rattle.message_model.specs.Messages.{Message, AnOverview, ADay, AnEventList, ASpeedList, ATechnical, Overview, DayMessage, EventMessage, SpeedMessage, TechnicalMessage, AreEntries, counted, word_bytes, content_of, overview_bytes, day_bytes, event_bytes, speed_bytes, technical_bytes, IsMessage, IsOverview, IsDayMessage, IsEventMessage, IsSpeedMessage, IsTechnicalMessage}

-- entries of one size
entries_long : (entries : List (List ℕ)) (size : ℕ) → AllByRecursion (λ e. length e ≡ size) entries → length (joined entries) ≡ length entries * size
entries_long [] size each = omega arith
entries_long (e ∷ es) size each =
    let rest = entries_long es size each.1 in
    let here : length e ≡ size = each.0 in
    length-append e (joined es) ∙ (λ t. here t + rest t) ∙ (let one : size + length es * size ≡ suc (length es) * size = omega arith in one)

counted_long : (width size : ℕ) (entries : List (List ℕ)) → AreEntries width size entries → length (counted width entries) ≡ width + length entries * size
counted_long width size entries are =
    length-append (big_bytes width (length entries)) (joined entries)
    ∙ (λ t. length-bytes_high_first width (length entries) t + entries_long entries size (recursion_from_All (λ e. length e ≡ size) entries are.sized) t)

words_long : (words : List ℕ) → length (joined (word_bytes words)) ≡ 2 * length words
words_long [] = omega arith
words_long (w ∷ ws) = let rest = words_long ws in let two = length-bytes_high_first 2 w in let both = length-append (big_bytes 2 w) (joined (word_bytes ws)) in omega (arith, rest, two, both)

word_count_long : (words : List ℕ) → length (counted 2 (word_bytes words)) ≡ 2 + 2 * length words
word_count_long words =
    length-append (big_bytes 2 (length (word_bytes words))) (joined (word_bytes words)) ∙ (λ t. length-bytes_high_first 2 (length (word_bytes words)) t + words_long words t)

pub overview_few : (m : Overview) → IsOverview m → length (overview_bytes m) < 100000
overview_few m is =
    let locks = counted_long 1 98 m.locks is.locks in
    let controls = counted_long 1 31 m.controls is.controls in
    let now = length-bytes_high_first 4 m.now in
    let begin = length-bytes_high_first 4 m.begin in
    let end = length-bytes_high_first 4 m.end in
    let status = length-bytes_high_first 1 m.slot_status in
    let few : length m.locks < 256 = is.locks.few in
    let more : length m.controls < 256 = is.controls.few in
    simp length-append (omega (arith, is.certificates.0, is.certificates.1, is.vehicle.0, is.vehicle.1, now, begin, end, status, is.last, locks, controls, few, more, is.signed))

pub day_long : (m : DayMessage) → IsDayMessage m → length (day_bytes m) ≡ 142 + 129 * length m.insertions + 2 * length m.words + 28 * length m.places + 5 * length m.conditions
day_long m is =
    let date = length-bytes_high_first 4 m.date in
    let odometer = length-bytes_high_first 3 m.odometer in
    let insertions = counted_long 2 129 m.insertions is.insertions in
    let words = word_count_long m.words in
    let places = counted_long 1 28 m.places is.places in
    let conditions = counted_long 2 5 m.conditions is.conditions in
    simp length-append (omega (arith, date, odometer, insertions, words, places, conditions, is.signed))

day_short : (m : DayMessage) → IsDayMessage m → length (day_bytes m) < 251 * 65534
day_short m is =
    let few : length m.insertions < 65536 = is.insertions.few in
    let word_few : length m.words < 65536 = is.few in
    let place_few : length m.places < 256 = is.places.few in
    let condition_few : length m.conditions < 65536 = is.conditions.few in
    omega (arith, day_long m is, few, word_few, place_few, condition_few)

pub event_few : (m : EventMessage) → IsEventMessage m → length (event_bytes m) < 100000
event_few m is =
    let faults = counted_long 1 82 m.faults is.faults in
    let events = counted_long 1 83 m.events is.events in
    let control = length-bytes_high_first 4 m.last_control in
    let first = length-bytes_high_first 4 m.first_over in
    let count = length-bytes_high_first 1 m.over_count in
    let overs = counted_long 1 31 m.overs is.overs in
    let adjustments = counted_long 1 98 m.adjustments is.adjustments in
    let fault_few : length m.faults < 256 = is.faults.few in
    let event_few : length m.events < 256 = is.events.few in
    let over_few : length m.overs < 256 = is.overs.few in
    let adjustment_few : length m.adjustments < 256 = is.adjustments.few in
    simp length-append (omega (arith, faults, events, control, first, count, overs, adjustments, fault_few, event_few, over_few, adjustment_few, is.signed))

speed_short : (m : SpeedMessage) → IsSpeedMessage m → length (speed_bytes m) < 251 * 65534
speed_short m is =
    let blocks = counted_long 2 64 m.blocks is.blocks in
    let few : length m.blocks < 65536 = is.blocks.few in
    simp length-append (omega (arith, blocks, few, is.signed))

-- of as many blocks as there is room for
pub speed_few : (m : SpeedMessage) → IsSpeedMessage m → length m.blocks ≤ 1440 → length (speed_bytes m) < 100000
speed_few m is most =
    let blocks = counted_long 2 64 m.blocks is.blocks in
    simp length-append (omega (arith, blocks, most, is.signed))

pub technical_few : (m : TechnicalMessage) → IsTechnicalMessage m → length (technical_bytes m) < 100000
technical_few m is =
    let calibrations = counted_long 1 167 m.calibrations is.calibrations in
    let few : length m.calibrations < 256 = is.calibrations.few in
    simp length-append (omega (arith, is.unit.0, is.unit.1, calibrations, few, is.signed))

pub message_short : (m : Message) → IsMessage m → length (content_of m) < 251 * 65534
message_short (AnOverview m) is = omega (arith, overview_few m is)
message_short (ADay m) is = day_short m is
message_short (AnEventList m) is = omega (arith, event_few m is)
message_short (ASpeedList m) is = speed_short m is
message_short (ATechnical m) is = omega (arith, technical_few m is)
