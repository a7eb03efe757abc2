-- What stands at the front of bytes: each message of the grammar is read there, and what is read is one.
use Rattle.std.proofs.Common.{◌≡◌, ℕ, suc, ◌+◌, ◌*◌, ◌%◌, ◌<◌, ◌≤◌, ◌^◌, Bool, true, false, cond, ◌&&◌, Option, Some, None, List, [], ◌∷◌, ◌++◌, length, drop, map, refl, sym, ◌∙◌, ap, subst, All, arith}
use Rattle.std.specs.Prelude.{nat_le, ◌==◌, slice_index}
use Rattle.std.proofs.lemmas.List.{length-map, drop_at}
use Rattle.std.proofs.lemmas.List.Elements.{All-nil, All-cons}
use Rattle.byteorder.specs.Endian.{big_number, big_bytes}
use Rattle.byteorder.specs.Numbers.{length-bytes_high_first, big_from-lt}
use Rattle.card_layout.specs.Images.{number_at}
use Rattle.card_layout.specs.Fields.{joined, IsBytes}
use Rattle.card_layout.proofs.Numbers.{big_bytes-big_number}
use Rattle.card_layout.proofs.Cuts.{IsBytes-drop}
use Rattle.unit_model.specs.Image.{words_at}
use Rattle.unit_model.proofs.Checks.{le_true, le_of, and_split}
use Rattle.unit_model.proofs.Finding.{eq_of}
use Rattle.link_model.specs.declared.request.Request.{Request}
use Rattle.link_model.specs.declared.request.Request.TheVariants.{Overview as AskOverview, Day as AskDay, Events as AskEvents, Speed as AskSpeed, Technical as AskTechnical}
use Rattle.message_model.specs.Messages.{Overview, DayMessage, EventMessage, SpeedMessage, TechnicalMessage, Message, AnOverview, ADay, AnEventList, ASpeedList, ATechnical, AreEntries, counted, word_bytes, day_bytes, number_of, content_of, message_bytes, IsOverview, IsDayMessage, IsEventMessage, IsSpeedMessage, IsTechnicalMessage, IsMessage}
use Rattle.unit_messages.specs.declared.reading.MessageRead.{MessageRead}
use Rattle.unit_messages.specs.declared.parts.TheConstants.{OVERVIEW_PARTS, DAY_PARTS, EVENT_PARTS, SPEED_PARTS, TECHNICAL_PARTS}
use Rattle.unit_messages.specs.Parts.{parts_end, read_as, words_place, word_count, are_words, day_at_front, numbered_at_front, at_front}
use Rattle.unit_messages.specs.Reading.{BeginsWith, request_of, IsReadAs, BeginsNoMessage}
use Rattle.unit_messages.proofs.Cutting.{if_some, parts_complete, parts_sound}
use Rattle.unit_messages.proofs.Days.{Low, all_low, words_many, entry_words, entry_words_low, IsLaid, day_laid, words_tested, words_pass}

-- what is read where this message stands at the front
abbrev read_of : Message → Option MessageRead
read_of m = Some (record { request = request_of m; len = length (message_bytes m) })

-- the ends of all parts are the end of the message
whole : (m : Message) → Some (2 + length (content_of m)) ≡ Some (length (message_bytes m))
whole m = ap Some (let e : 2 + length (content_of m) ≡ suc (suc (length (content_of m))) = omega arith in e)

-- EACH MESSAGE IS READ
overview_end : (m : Overview) (rest : List ℕ) → IsOverview m → parts_end (message_bytes (AnOverview m) ++ rest) OVERVIEW_PARTS 2 ≡ Some (length (message_bytes (AnOverview m)))
overview_end m rest is =
    parts_complete OVERVIEW_PARTS
    (m.state_certificate ∷ m.unit_certificate ∷ m.vin ∷ m.registration ∷ big_bytes 4 m.now ∷ big_bytes 4 m.begin ∷ big_bytes 4 m.end
    ∷ big_bytes 1 m.slot_status ∷ m.last_download ∷ counted 1 m.locks ∷ counted 1 m.controls ∷ m.signature ∷ [])
    (0x76 ∷ 1 ∷ []) rest (
      is.certificates.0,
      (
        is.certificates.1,
        (
          is.vehicle.0,
          (
            is.vehicle.1,
            (
              length-bytes_high_first 4 m.now,
              (
                length-bytes_high_first 4 m.begin,
                (
                  length-bytes_high_first 4 m.end,
                  (length-bytes_high_first 1 m.slot_status, (is.last, ((m.locks, is.locks, refl), ((m.controls, is.controls, refl), (is.signed, refl))))),
                ),
              ),
            ),
          ),
        ),
      ),
    )
    ∙ whole (AnOverview m)

day_end : (m : DayMessage) (rest : List ℕ) → IsDayMessage m → parts_end (message_bytes (ADay m) ++ rest) DAY_PARTS 2 ≡ Some (length (message_bytes (ADay m)))
day_end m rest is =
    parts_complete DAY_PARTS
    (big_bytes 4 m.date ∷ big_bytes 3 m.odometer ∷ counted 2 m.insertions ∷ counted 2 (word_bytes m.words) ∷ counted 1 m.places ∷ counted 2 m.conditions ∷ m.signature ∷ [])
    (0x76 ∷ 2 ∷ []) rest (
      length-bytes_high_first 4 m.date,
      (
        length-bytes_high_first 3 m.odometer,
        (
          (m.insertions, is.insertions, refl),
          (
            (word_bytes m.words, record { few = subst (λ (n : ℕ). n < 256 ^ 2) (sym (words_many m.words)) is.few; sized = words_sized m.words }, refl),
            ((m.places, is.places, refl), ((m.conditions, is.conditions, refl), (is.signed, refl))),
          ),
        ),
      ),
    )
    ∙ whole (ADay m)
  where
    words_sized : (ws : List ℕ) → All (λ e. length e ≡ 2) (word_bytes ws)
    words_sized [] = All-nil (λ e. length e ≡ 2)
    words_sized (w ∷ ws) = All-cons (λ e. length e ≡ 2) (big_bytes 2 w) (word_bytes ws) (length-bytes_high_first 2 w) (words_sized ws)

event_end : (m : EventMessage) (rest : List ℕ) → IsEventMessage m → parts_end (message_bytes (AnEventList m) ++ rest) EVENT_PARTS 2 ≡ Some (length (message_bytes (AnEventList m)))
event_end m rest is =
    parts_complete EVENT_PARTS
    (counted 1 m.faults ∷ counted 1 m.events ∷ big_bytes 4 m.last_control ∷ big_bytes 4 m.first_over ∷ big_bytes 1 m.over_count
    ∷ counted 1 m.overs ∷ counted 1 m.adjustments ∷ m.signature ∷ [])
    (0x76 ∷ 3 ∷ []) rest (
      (m.faults, is.faults, refl),
      (
        (m.events, is.events, refl),
        (
          length-bytes_high_first 4 m.last_control,
          (
            length-bytes_high_first 4 m.first_over,
            (length-bytes_high_first 1 m.over_count, ((m.overs, is.overs, refl), ((m.adjustments, is.adjustments, refl), (is.signed, refl)))),
          ),
        ),
      ),
    )
    ∙ whole (AnEventList m)

speed_end : (m : SpeedMessage) (rest : List ℕ) → IsSpeedMessage m → parts_end (message_bytes (ASpeedList m) ++ rest) SPEED_PARTS 2 ≡ Some (length (message_bytes (ASpeedList m)))
speed_end m rest is = parts_complete SPEED_PARTS (counted 2 m.blocks ∷ m.signature ∷ []) (0x76 ∷ 4 ∷ []) rest ((m.blocks, is.blocks, refl), (is.signed, refl)) ∙ whole (ASpeedList m)

technical_end : (m : TechnicalMessage) (rest : List ℕ) → IsTechnicalMessage m → parts_end (message_bytes (ATechnical m) ++ rest) TECHNICAL_PARTS 2 ≡ Some (length (message_bytes (ATechnical m)))
technical_end m rest is =
    parts_complete TECHNICAL_PARTS (m.identification ∷ m.sensor ∷ counted 1 m.calibrations ∷ m.signature ∷ []) (0x76 ∷ 5 ∷ []) rest
    (is.unit.0, (is.unit.1, ((m.calibrations, is.calibrations, refl), (is.signed, refl)))) ∙ whole (ATechnical m)

-- the message of a day, which has two conditions more
day_read : (m : DayMessage) (rest : List ℕ) → IsDayMessage m → day_at_front (message_bytes (ADay m) ++ rest) (parts_end (message_bytes (ADay m) ++ rest) DAY_PARTS 2) ≡ read_of (ADay m)
day_read m rest is =
    let b = message_bytes (ADay m) ++ rest in
    let laid = day_laid 0x76 2 m rest is.date.0 is.insertions is.few (all_low m.words is.words) in
    let good : are_words (words_at b (words_place b) (word_count b)) ≡ true = ap are_words laid.words ∙ words_pass m.words is.words in
    let on_day : (number_at b 2 4 % 86400 == 0) ≡ true = ap (λ (d : ℕ). d % 86400 == 0) laid.date ∙ zero_is (m.date % 86400) is.date.1 in
    let end = length (message_bytes (ADay m)) in
    ap (day_at_front b) (day_end m rest is)
    ∙ ap (λ (t : Bool). cond (t && are_words (words_at b (words_place b) (word_count b))) (read_as (AskDay (number_at b 2 4)) (Some end)) None) on_day
    ∙ ap (λ (t : Bool). cond t (read_as (AskDay (number_at b 2 4)) (Some end)) None) good
    ∙ ap (λ (d : ℕ). read_as (AskDay d) (Some end)) laid.date
  where
    zero_is : (n : ℕ) → n ≡ 0 → (n == 0) ≡ true
    zero_is n e = ap (λ (k : ℕ). k == 0) e

numbered : (m : Message) (rest : List ℕ) → IsMessage m → numbered_at_front (message_bytes m ++ rest) (number_of m) ≡ read_of m
numbered (AnOverview m) rest is = ap (read_as AskOverview) (overview_end m rest is)
numbered (ADay m) rest is = day_read m rest is
numbered (AnEventList m) rest is = ap (read_as AskEvents) (event_end m rest is)
numbered (ASpeedList m) rest is = ap (read_as AskSpeed) (speed_end m rest is)
numbered (ATechnical m) rest is = ap (read_as AskTechnical) (technical_end m rest is)

pub front_complete : (m : Message) (rest : List ℕ) → IsMessage m → at_front (message_bytes m ++ rest) ≡ read_of m
front_complete m rest is =
    let b = message_bytes m ++ rest in
    ap (λ (t : Bool). cond (t && true) (numbered_at_front b (number_of m)) None) (le_true 2 (length b) (omega arith)) ∙ numbered m rest is

-- so where nothing is read no message stands
pub front_none : (b : List ℕ) → at_front b ≡ None → BeginsNoMessage b
front_none b none m begins = let read : at_front b ≡ read_of m = ap at_front begins.spelled ∙ front_complete m begins.rest begins.is_message in absurd (cc)

-- WHAT IS READ IS A MESSAGE
-- a message whose content stands behind two bytes
record Stands (m : Message) (b : List ℕ) (end : ℕ) : Type 0 where
  is_message : IsMessage m
  spelled : drop 2 b ≡ content_of m ++ drop end b
  len : end ≡ 2 + length (content_of m)
  inside : end ≤ length b

-- the message of a day, but for its two conditions
record DayStands (b : List ℕ) (end : ℕ) (m : DayMessage) : Type 0 where
  date : m.date < 2 ^ 32
  odometer : m.odometer < 2 ^ 24
  insertions : AreEntries 2 129 m.insertions
  few : length m.words < 2 ^ 16
  low : Low m.words
  places : AreEntries 1 28 m.places
  conditions : AreEntries 2 5 m.conditions
  signed : length m.signature ≡ 128
  spelled : drop 2 b ≡ day_bytes m ++ drop end b
  len : end ≡ 2 + length (day_bytes m)
  inside : end ≤ length b

module _ (b : List ℕ) (end : ℕ) (bytes : IsBytes b) (some : 2 ≤ length b) where
  abbrev Ends : List (List ℕ) → Type 0
  Ends fs = (drop 2 b ≡ joined fs ++ drop end b) × (end ≡ 2 + length (joined fs)) × (end ≤ length b)

  ends : (fs : List (List ℕ)) → drop 2 b ≡ joined fs ++ drop end b → end ≡ 2 + length (joined fs) → end ≤ length b → Ends fs
  ends fs a e i = (a, e, i)

  stands : (m : Message) (fs : List (List ℕ)) → Ends fs → joined fs ≡ content_of m → IsMessage m → Stands m b end
  stands m fs e same is = record {
    is_message = is;
    spelled = e.0 ∙ ap (λ (l : List ℕ). l ++ drop end b) same;
    len = e.1 ∙ ap (λ (l : List ℕ). 2 + length l) same;
    inside = e.2;
  }

  number_low : (n : ℕ) (f : List ℕ) → IsBytes f → big_number n f < 256 ^ n
  number_low n f fits = big_from-lt 0 n f fits

  overview_stands : parts_end b OVERVIEW_PARTS 2 ≡ Some end → (m : Overview) × Stands (AnOverview m) b end
  overview_stands is =
      let f0 = parts_sound OVERVIEW_PARTS b 2 end bytes some is Ends ends in
      let f1 = f0.3 in
      let f2 = f1.3 in
      let f3 = f2.3 in
      let f4 = f3.3 in
      let f5 = f4.3 in
      let f6 = f5.3 in
      let f7 = f6.3 in
      let f8 = f7.3 in
      let f9 = f8.3 in
      let f10 = f9.3 in
      let f11 = f10.3 in
      let m : Overview = record { state_certificate = f0.0; unit_certificate = f1.0; vin = f2.0; registration = f3.0; now = big_number 4 f4.0; begin = big_number 4 f5.0; end = big_number 4 f6.0; slot_status = big_number 1 f7.0; last_download = f8.0; locks = f9.1.0; controls = f10.1.0; signature = f11.0 } in (
        m,
        stands (AnOverview m) (f0.0 ∷ f1.0 ∷ f2.0 ∷ f3.0 ∷ f4.0 ∷ f5.0 ∷ f6.0 ∷ f7.0 ∷ f8.0 ∷ f9.0 ∷ f10.0 ∷ f11.0 ∷ []) f11.3
            (λ t. joined (f0.0 ∷ f1.0 ∷ f2.0 ∷ f3.0 ∷ sym (big_bytes-big_number 4 f4.0 f4.1 f4.2) t ∷ sym (big_bytes-big_number 4 f5.0 f5.1 f5.2) t ∷ sym (big_bytes-big_number 4 f6.0 f6.1 f6.2) t
            ∷ sym (big_bytes-big_number 1 f7.0 f7.1 f7.2) t ∷ f8.0 ∷ f9.1.2 t ∷ f10.1.2 t ∷ f11.0 ∷ []))
            (record {
              certificates = (f0.1, f1.1);
              vehicle = (f2.1, f3.1);
              times = (number_low 4 f4.0 f4.2, number_low 4 f5.0 f5.2, number_low 4 f6.0 f6.2);
              status = number_low 1 f7.0 f7.2;
              last = f8.1;
              locks = f9.1.1;
              controls = f10.1.1;
              signed = f11.1;
            }),
      )

  event_stands : parts_end b EVENT_PARTS 2 ≡ Some end → (m : EventMessage) × Stands (AnEventList m) b end
  event_stands is =
      let f0 = parts_sound EVENT_PARTS b 2 end bytes some is Ends ends in
      let f1 = f0.3 in
      let f2 = f1.3 in
      let f3 = f2.3 in
      let f4 = f3.3 in
      let f5 = f4.3 in
      let f6 = f5.3 in
      let f7 = f6.3 in
      let m : EventMessage = record { faults = f0.1.0; events = f1.1.0; last_control = big_number 4 f2.0; first_over = big_number 4 f3.0; over_count = big_number 1 f4.0; overs = f5.1.0; adjustments = f6.1.0; signature = f7.0 } in (
        m,
        stands (AnEventList m) (f0.0 ∷ f1.0 ∷ f2.0 ∷ f3.0 ∷ f4.0 ∷ f5.0 ∷ f6.0 ∷ f7.0 ∷ []) f7.3
            (λ t. joined (f0.1.2 t ∷ f1.1.2 t ∷ sym (big_bytes-big_number 4 f2.0 f2.1 f2.2) t ∷ sym (big_bytes-big_number 4 f3.0 f3.1 f3.2) t
            ∷ sym (big_bytes-big_number 1 f4.0 f4.1 f4.2) t ∷ f5.1.2 t ∷ f6.1.2 t ∷ f7.0 ∷ []))
            (record {
              faults = f0.1.1;
              events = f1.1.1;
              control = (number_low 4 f2.0 f2.2, number_low 4 f3.0 f3.2, number_low 1 f4.0 f4.2);
              overs = f5.1.1;
              adjustments = f6.1.1;
              signed = f7.1;
            }),
      )

  speed_stands : parts_end b SPEED_PARTS 2 ≡ Some end → (m : SpeedMessage) × Stands (ASpeedList m) b end
  speed_stands is =
      let f0 = parts_sound SPEED_PARTS b 2 end bytes some is Ends ends in
      let f1 = f0.3 in
      let m : SpeedMessage = record { blocks = f0.1.0; signature = f1.0 } in
      (m, stands (ASpeedList m) (f0.0 ∷ f1.0 ∷ []) f1.3 (λ t. joined (f0.1.2 t ∷ f1.0 ∷ [])) (record { blocks = f0.1.1; signed = f1.1 }))

  technical_stands : parts_end b TECHNICAL_PARTS 2 ≡ Some end → (m : TechnicalMessage) × Stands (ATechnical m) b end
  technical_stands is =
      let f0 = parts_sound TECHNICAL_PARTS b 2 end bytes some is Ends ends in
      let f1 = f0.3 in
      let f2 = f1.3 in
      let f3 = f2.3 in
      let m : TechnicalMessage = record { identification = f0.0; sensor = f1.0; calibrations = f2.1.0; signature = f3.0 } in (
        m,
        stands (ATechnical m) (f0.0 ∷ f1.0 ∷ f2.0 ∷ f3.0 ∷ []) f3.3 (λ t. joined (f0.0 ∷ f1.0 ∷ f2.1.2 t ∷ f3.0 ∷ []))
            (record { unit = (f0.1, f1.1); calibrations = f2.1.1; signed = f3.1 }),
      )

  day_stands : parts_end b DAY_PARTS 2 ≡ Some end → (m : DayMessage) × DayStands b end m
  day_stands is =
      let f0 = parts_sound DAY_PARTS b 2 end bytes some is Ends ends in
      let f1 = f0.3 in
      let f2 = f1.3 in
      let f3 = f2.3 in
      let f4 = f3.3 in
      let f5 = f4.3 in
      let f6 = f5.3 in
      let es = f3.1.0 in
      let entries : IsBytes (joined es) = behind_count (big_bytes 2 (length es)) (joined es) (subst IsBytes f3.1.2 f3.2) in
      let ws = map (big_number 2) es in
      let many : length ws ≡ length es = length-map es (big_number 2) in
      let words : word_bytes ws ≡ es = entry_words es f3.1.1.sized entries in
      let spelled_words : f3.0 ≡ counted 2 (word_bytes ws) = f3.1.2 ∙ ap (counted 2) (sym words) in
      let m : DayMessage = record { date = big_number 4 f0.0; odometer = big_number 3 f1.0; insertions = f2.1.0; words = ws; places = f4.1.0; conditions = f5.1.0; signature = f6.0 } in
      let same : joined (f0.0 ∷ f1.0 ∷ f2.0 ∷ f3.0 ∷ f4.0 ∷ f5.0 ∷ f6.0 ∷ []) ≡ day_bytes m =
      λ t. joined (sym (big_bytes-big_number 4 f0.0 f0.1 f0.2) t ∷ sym (big_bytes-big_number 3 f1.0 f1.1 f1.2) t ∷ f2.1.2 t ∷ spelled_words t ∷ f4.1.2 t ∷ f5.1.2 t ∷ f6.0 ∷ []) in (
        m,
        record {
          date = number_low 4 f0.0 f0.2;
          odometer = number_low 3 f1.0 f1.2;
          insertions = f2.1.1;
          few = subst (λ (n : ℕ). n < 256 ^ 2) (sym many) f3.1.1.few;
          low = entry_words_low es f3.1.1.sized entries;
          places = f4.1.1;
          conditions = f5.1.1;
          signed = f6.1;
          spelled = f6.3.0 ∙ ap (λ (l : List ℕ). l ++ drop end b) same;
          len = f6.3.1 ∙ ap (λ (l : List ℕ). 2 + length l) same;
          inside = f6.3.2;
        },
      )
    where
      behind_count : (a c : List ℕ) → IsBytes (a ++ c) → IsBytes c
      behind_count a c fits = subst IsBytes (drop_at a c (length a) refl) (IsBytes-drop (length a) (a ++ c) fits)

-- bytes of which two are known, and the rest
two_first : (b content more : List ℕ) (x y : ℕ) → 2 ≤ length b → slice_index b 0 ≡ x → slice_index b 1 ≡ y → drop 2 b ≡ content ++ more → b ≡ (x ∷ y ∷ content) ++ more
two_first [] content more x y some a c is = absurd (omega (arith, some))
two_first (u ∷ []) content more x y some a c is = absurd (omega (arith, some))
two_first (u ∷ v ∷ b) content more x y some a c is = λ t. a t ∷ c t ∷ is t

-- where the day's words are read, in bytes that such a message begins
day_laid_at : (b : List ℕ) (end : ℕ) → 2 ≤ length b → (m : DayMessage) → DayStands b end m → IsLaid m b
day_laid_at b end some m s =
    subst (IsLaid m) (sym (two_first b (day_bytes m) (drop end b) (slice_index b 0) (slice_index b 1) some refl refl s.spelled))
    (day_laid (slice_index b 0) (slice_index b 1) m (drop end b) s.date s.insertions s.few s.low)

-- so they stand inside the bytes
pub words_inside : (b : List ℕ) (end : ℕ) → IsBytes b → 2 ≤ length b → parts_end b DAY_PARTS 2 ≡ Some end → words_place b + 2 * word_count b ≤ length b
words_inside b end bytes some is = let made = day_stands b end bytes some is in (day_laid_at b end some made.0 made.1).inside

-- a message of a day that stands at the front, by its parts
pub day_ends : (m : DayMessage) (b : List ℕ) → BeginsWith (ADay m) b → (end : ℕ) × (parts_end b DAY_PARTS 2 ≡ Some end)
day_ends m b begins = (length (message_bytes (ADay m)), ap (λ (l : List ℕ). parts_end l DAY_PARTS 2) begins.spelled ∙ day_end m begins.rest begins.is_message)

pub day_words_laid : (m : DayMessage) (b : List ℕ) → BeginsWith (ADay m) b → IsLaid m b
day_words_laid m b begins =
    let is = begins.is_message in
    subst (IsLaid m) (sym begins.spelled) (day_laid 0x76 2 m begins.rest is.date.0 is.insertions is.few (all_low m.words is.words))

pub record IsRead (b : List ℕ) (read : MessageRead) : Type 0 where
  pub found : IsReadAs b read
  pub inside : read.len ≤ length b
  pub some : 0 < read.len

module _ (b : List ℕ) (bytes : IsBytes b) (some : 2 ≤ length b) (first : slice_index b 0 ≡ 0x76) where
  reads : (m : Message) (end : ℕ) (read : MessageRead) → slice_index b 1 ≡ number_of m → Stands m b end → read ≡ record { request = request_of m; len = end } → IsRead b read
  reads m end read number s is =
      let long : end ≡ length (message_bytes m) = omega (arith, s.len) in
      let len : read.len ≡ end = ap (λ (r : MessageRead). r.len) is in
      record {
        found = record {
          message = m;
          begins = record { is_message = s.is_message; rest = drop end b; spelled = two_first b (content_of m) (drop end b) 0x76 (number_of m) some first number s.spelled };
          len = len ∙ long;
          request = ap (λ (r : MessageRead). r.request) is;
        };
        inside = omega (arith, len, s.inside);
        some = omega (arith, len, long);
      }

  by_end : (request : Request) (o : Option ℕ) (read : MessageRead) → read_as request o ≡ Some read → (end : ℕ) × (o ≡ Some end) × (read ≡ record { request = request; len = end })
  by_end request None read is = absurd (cc)
  by_end request (Some end) read is = (end, refl, let e : read ≡ record { request = request; len = end } = cc in e)

  day_by : (o : Option ℕ) (read : MessageRead) → parts_end b DAY_PARTS 2 ≡ o → slice_index b 1 ≡ 2 → day_at_front b o ≡ Some read → IsRead b read
  day_by None read ended number is = absurd (cc)
  day_by (Some end) read ended number is =
      let made = day_stands b end bytes some ended in
      let m = made.0 in
      let s = made.1 in
      let laid = day_laid_at b end some m s in
      let tests = if_some ((number_at b 2 4 % 86400 == 0) && are_words (words_at b (words_place b) (word_count b))) (read_as (AskDay (number_at b 2 4)) (Some end)) read is in
      let both = and_split (number_at b 2 4 % 86400 == 0) (are_words (words_at b (words_place b) (word_count b))) tests.0 in
      let good = words_tested m.words s.low (ap are_words (sym laid.words) ∙ both.1) in
      let on_day : m.date % 86400 ≡ 0 = ap (λ (d : ℕ). d % 86400) (sym laid.date) ∙ eq_of (number_at b 2 4 % 86400) 0 both.0 in
      let found : read ≡ record { request = AskDay (number_at b 2 4); len = end } = let e = tests.1 in cc in
      reads (ADay m) end read number
      (record {
        is_message = record { date = (s.date, on_day); odometer = s.odometer; insertions = s.insertions; few = s.few; words = good; places = s.places; conditions = s.conditions; signed = s.signed };
        spelled = s.spelled;
        len = s.len;
        inside = s.inside;
      })
      (found ∙ ap (λ (d : ℕ). record { request = AskDay d; len = end }) laid.date)

  numbered_read : (n : ℕ) (read : MessageRead) → slice_index b 1 ≡ n → numbered_at_front b n ≡ Some read → IsRead b read
  numbered_read n read number is = by1 (n == 1) refl is
    where
      by5 : (t : Bool) → (n == 5) ≡ t → cond t (read_as AskTechnical (parts_end b TECHNICAL_PARTS 2)) None ≡ Some read → IsRead b read
      by5 false e is = absurd (cc)
      by5 true e is =
          let found = by_end AskTechnical (parts_end b TECHNICAL_PARTS 2) read is in
          let made = technical_stands b found.0 bytes some found.1 in
          reads (ATechnical made.0) found.0 read (number ∙ eq_of n 5 e) made.1 found.2

      by4 : (t : Bool) → (n == 4) ≡ t → cond t (read_as AskSpeed (parts_end b SPEED_PARTS 2)) (cond (n == 5) (read_as AskTechnical (parts_end b TECHNICAL_PARTS 2)) None) ≡ Some read → IsRead b read
      by4 false e is = by5 (n == 5) refl is
      by4 true e is =
          let found = by_end AskSpeed (parts_end b SPEED_PARTS 2) read is in
          let made = speed_stands b found.0 bytes some found.1 in
          reads (ASpeedList made.0) found.0 read (number ∙ eq_of n 4 e) made.1 found.2

      by3 : (t : Bool) → (n == 3) ≡ t
          → cond t (read_as AskEvents (parts_end b EVENT_PARTS 2)) (cond (n == 4) (read_as AskSpeed (parts_end b SPEED_PARTS 2)) (cond (n == 5) (read_as AskTechnical (parts_end b TECHNICAL_PARTS 2)) None)) ≡ Some read → IsRead b read
      by3 false e is = by4 (n == 4) refl is
      by3 true e is =
          let found = by_end AskEvents (parts_end b EVENT_PARTS 2) read is in
          let made = event_stands b found.0 bytes some found.1 in
          reads (AnEventList made.0) found.0 read (number ∙ eq_of n 3 e) made.1 found.2

      by2 : (t : Bool) → (n == 2) ≡ t
          → cond t (day_at_front b (parts_end b DAY_PARTS 2)) (cond (n == 3) (read_as AskEvents (parts_end b EVENT_PARTS 2)) (cond (n == 4) (read_as AskSpeed (parts_end b SPEED_PARTS 2)) (cond (n == 5) (read_as AskTechnical (parts_end b TECHNICAL_PARTS 2)) None)))
          ≡ Some read → IsRead b read
      by2 false e is = by3 (n == 3) refl is
      by2 true e is = day_by (parts_end b DAY_PARTS 2) read refl (number ∙ eq_of n 2 e) is

      by1 : (t : Bool) → (n == 1) ≡ t
          → cond t (read_as AskOverview (parts_end b OVERVIEW_PARTS 2)) (cond (n == 2) (day_at_front b (parts_end b DAY_PARTS 2)) (cond (n == 3) (read_as AskEvents (parts_end b EVENT_PARTS 2)) (cond (n == 4) (read_as AskSpeed (parts_end b SPEED_PARTS 2)) (cond (n == 5) (read_as AskTechnical (parts_end b TECHNICAL_PARTS 2)) None))))
          ≡ Some read → IsRead b read
      by1 false e is = by2 (n == 2) refl is
      by1 true e is =
          let found = by_end AskOverview (parts_end b OVERVIEW_PARTS 2) read is in
          let made = overview_stands b found.0 bytes some found.1 in
          reads (AnOverview made.0) found.0 read (number ∙ eq_of n 1 e) made.1 found.2

pub front_sound : (b : List ℕ) (read : MessageRead) → IsBytes b → at_front b ≡ Some read → IsRead b read
front_sound b read bytes is =
    let tests = if_some (nat_le 2 (length b) && slice_index b 0 == 0x76) (numbered_at_front b (slice_index b 1)) read is in
    let both = and_split (nat_le 2 (length b)) (slice_index b 0 == 0x76) tests.0 in
    numbered_read b bytes (le_of 2 (length b) both.0) (eq_of (slice_index b 0) 0x76 both.1) (slice_index b 1) read refl tests.1
