-- The bytes of messages tell them in one way.
use Rattle.std.proofs.Common.{◌≡◌, ℕ, suc, ◌<◌, ◌^◌, List, [], ◌∷◌, ◌++◌, length, drop, refl, sym, ◌∙◌, ap, append_assoc, length-append, All, arith}
use Rattle.byteorder.specs.Endian.{big_number, big_bytes}
use Rattle.byteorder.specs.Numbers.{length-bytes_high_first}
use Rattle.card_layout.specs.Fields.{joined}
use Rattle.card_layout.proofs.Numbers.{big_number-big_bytes}
use Rattle.unit_model.specs.Days.{word_minute}
use Rattle.message_model.specs.Messages.{Overview, DayMessage, EventMessage, SpeedMessage, TechnicalMessage, Message, AnOverview, ADay, AnEventList, ASpeedList, ATechnical, counted, word_bytes, overview_bytes, day_bytes, event_bytes, speed_bytes, technical_bytes, number_of, content_of, message_bytes, AreEntries, IsOverview, IsDayMessage, IsEventMessage, IsSpeedMessage, IsTechnicalMessage, IsMessage}

abbrev head : {X : Type 0} → X → List X → X
head d [] = d
head d (x ∷ xs) = x

abbrev tail : {X : Type 0} → List X → List X
tail [] = []
tail (x ∷ xs) = xs

-- two fronts of one length
fronts : (a b r s : List ℕ) → length a ≡ length b → a ++ r ≡ b ++ s → (a ≡ b) × (r ≡ s)
fronts [] [] r s len is = (refl, is)
fronts [] (y ∷ b) r s len is = absurd (omega (arith, len))
fronts (x ∷ a) [] r s len is = absurd (omega (arith, len))
fronts (x ∷ a) (y ∷ b) r s len is =
    let rest = fronts a b r s (omega (arith, len)) (ap tail is) in
    let first : x ≡ y = ap (head 0) is in
    ((λ t. first t ∷ rest.0 t), rest.1)

-- the first of some fields: bytes of one size, a number, entries behind their count
bytes_first : (n : ℕ) (a b : List ℕ) (after later : List (List ℕ)) (r s : List ℕ) → length a ≡ n → length b ≡ n → joined (a ∷ after) ++ r ≡ joined (b ∷ later) ++ s → (a ≡ b) × (joined after ++ r ≡ joined later ++ s)
bytes_first n a b after later r s la lb is = fronts a b (joined after ++ r) (joined later ++ s) (la ∙ sym lb) (sym (append_assoc a (joined after) r) ∙ is ∙ append_assoc b (joined later) s)

number_first : (w m n : ℕ) (after later : List (List ℕ)) (r s : List ℕ) → m < 256 ^ w → n < 256 ^ w → joined (big_bytes w m ∷ after) ++ r ≡ joined (big_bytes w n ∷ later) ++ s → (m ≡ n) × (joined after ++ r ≡ joined later ++ s)
number_first w m n after later r s mlow nlow is =
    let both = bytes_first w (big_bytes w m) (big_bytes w n) after later r s (length-bytes_high_first w m) (length-bytes_high_first w n) is in
    (sym (big_number-big_bytes w m mlow) ∙ ap (big_number w) both.0 ∙ big_number-big_bytes w n nlow, both.1)

-- each entry has one size
abbrev Sized : ℕ → List (List ℕ) → Type 0
Sized size [] = Unit {0}
Sized size (e ∷ es) = (length e ≡ size) × Sized size es

all_sized : (size : ℕ) (es : List (List ℕ)) → All (λ e. length e ≡ size) es → Sized size es
all_sized size [] all = tt
all_sized size (e ∷ es) all = (all 0 e (omega arith), all_sized size es (λ k d low. all (suc k) d (omega (arith, low))))

same_length : (size : ℕ) (es fs : List (List ℕ)) → Sized size es → Sized size fs → length es ≡ length fs → length (joined es) ≡ length (joined fs)
same_length size [] [] se sf len = refl
same_length size [] (f ∷ fs) se sf len = absurd (omega (arith, len))
same_length size (e ∷ es) [] se sf len = absurd (omega (arith, len))
same_length size (e ∷ es) (f ∷ fs) se sf len = omega (arith, length-append e (joined es), length-append f (joined fs), se.0, sf.0, same_length size es fs se.1 sf.1 (omega (arith, len)))

entries_same : (size : ℕ) (es fs : List (List ℕ)) → Sized size es → Sized size fs → length es ≡ length fs → joined es ≡ joined fs → es ≡ fs
entries_same size [] [] se sf len is = refl
entries_same size [] (f ∷ fs) se sf len is = absurd (omega (arith, len))
entries_same size (e ∷ es) [] se sf len is = absurd (omega (arith, len))
entries_same size (e ∷ es) (f ∷ fs) se sf len is =
    let both = fronts e f (joined es) (joined fs) (se.0 ∙ sym sf.0) is in
    let rest = entries_same size es fs se.1 sf.1 (omega (arith, len)) both.1 in
    λ t. both.0 t ∷ rest t

sized_first : (w size : ℕ) (es fs after later : List (List ℕ)) (r s : List ℕ) → length es < 256 ^ w → length fs < 256 ^ w → Sized size es → Sized size fs → joined (counted w es ∷ after) ++ r ≡ joined (counted w fs ∷ later) ++ s → (es ≡ fs) × (joined after ++ r ≡ joined later ++ s)
sized_first w size es fs after later r s few_es few_fs se sf is =
    let apart = number_first w (length es) (length fs) (joined es ∷ after) (joined fs ∷ later) r s few_es few_fs
    (ap (λ (l : List ℕ). l ++ r) (sym (append_assoc (big_bytes w (length es)) (joined es) (joined after))) ∙ is ∙ ap (λ (l : List ℕ). l ++ s) (append_assoc (big_bytes w (length fs)) (joined fs) (joined later))) in
    let both = bytes_first (length (joined es)) (joined es) (joined fs) after later r s refl (sym (same_length size es fs se sf apart.0)) apart.1 in
    (entries_same size es fs se sf apart.0 both.0, both.1)

entries_first : (w size : ℕ) (es fs after later : List (List ℕ)) (r s : List ℕ) → AreEntries w size es → AreEntries w size fs → joined (counted w es ∷ after) ++ r ≡ joined (counted w fs ∷ later) ++ s → (es ≡ fs) × (joined after ++ r ≡ joined later ++ s)
entries_first w size es fs after later r s e f is = sized_first w size es fs after later r s e.few f.few (all_sized size es e.sized) (all_sized size fs f.sized) is

-- words, of two bytes each
sized_words : (ws : List ℕ) → Sized 2 (word_bytes ws)
sized_words [] = tt
sized_words (w ∷ ws) = (length-bytes_high_first 2 w, sized_words ws)

word_count : (ws : List ℕ) → length (word_bytes ws) ≡ length ws
word_count [] = refl
word_count (w ∷ ws) = ap suc (word_count ws)

abbrev Low : List ℕ → Type 0
Low [] = Unit {0}
Low (w ∷ ws) = (w < 256 ^ 2) × Low ws

all_low : (ws : List ℕ) → All (λ w. (w < 2 ^ 16) × (word_minute w < 1440)) ws → Low ws
all_low [] all = tt
all_low (w ∷ ws) all = ((all 0 w (omega arith)).0, all_low ws (λ k d low. all (suc k) d (omega (arith, low))))

words_same : (ws vs : List ℕ) → Low ws → Low vs → word_bytes ws ≡ word_bytes vs → length ws ≡ length vs → ws ≡ vs
words_same [] [] lw lv is len = refl
words_same [] (v ∷ vs) lw lv is len = absurd (omega (arith, len))
words_same (w ∷ ws) [] lw lv is len = absurd (omega (arith, len))
words_same (w ∷ ws) (v ∷ vs) lw lv is len =
    let bytes : big_bytes 2 w ≡ big_bytes 2 v = ap (head []) is in
    let first : w ≡ v = sym (big_number-big_bytes 2 w lw.0) ∙ ap (big_number 2) bytes ∙ big_number-big_bytes 2 v lv.0 in
    let rest = words_same ws vs lw.1 lv.1 (ap tail is) (omega (arith, len)) in
    λ t. first t ∷ rest t

words_first : (ws vs : List ℕ) (after later : List (List ℕ)) (r s : List ℕ) → length ws < 2 ^ 16 → length vs < 2 ^ 16 → Low ws → Low vs → joined (counted 2 (word_bytes ws) ∷ after) ++ r ≡ joined (counted 2 (word_bytes vs) ∷ later) ++ s → (ws ≡ vs) × (joined after ++ r ≡ joined later ++ s)
words_first ws vs after later r s few_ws few_vs lw lv is =
    let both = sized_first 2 2 (word_bytes ws) (word_bytes vs) after later r s (omega (arith, word_count ws, few_ws)) (omega (arith, word_count vs, few_vs)) (sized_words ws) (sized_words vs) is in
    (words_same ws vs lw lv both.0 (sym (word_count ws) ∙ ap (λ (l : List (List ℕ)). length l) both.0 ∙ word_count vs), both.1)

-- EACH MESSAGE
overview_same : (m n : Overview) (r s : List ℕ) → IsOverview m → IsOverview n → overview_bytes m ++ r ≡ overview_bytes n ++ s → (m ≡ n) × (r ≡ s)
overview_same m n r s im in_ is =
    let F : List (List ℕ) = m.unit_certificate ∷ m.vin ∷ m.registration ∷ big_bytes 4 m.now ∷ big_bytes 4 m.begin ∷ big_bytes 4 m.end ∷ big_bytes 1 m.slot_status ∷ m.last_download ∷ counted 1 m.locks ∷ counted 1 m.controls ∷ m.signature ∷ [] in
    let G : List (List ℕ) = n.unit_certificate ∷ n.vin ∷ n.registration ∷ big_bytes 4 n.now ∷ big_bytes 4 n.begin ∷ big_bytes 4 n.end ∷ big_bytes 1 n.slot_status ∷ n.last_download ∷ counted 1 n.locks ∷ counted 1 n.controls ∷ n.signature ∷ [] in
    let state = bytes_first 194 m.state_certificate n.state_certificate F G r s im.certificates.0 in_.certificates.0 is in
    let unit = bytes_first 194 m.unit_certificate n.unit_certificate (drop 1 F) (drop 1 G) r s im.certificates.1 in_.certificates.1 state.1 in
    let vin = bytes_first 17 m.vin n.vin (drop 2 F) (drop 2 G) r s im.vehicle.0 in_.vehicle.0 unit.1 in
    let registration = bytes_first 15 m.registration n.registration (drop 3 F) (drop 3 G) r s im.vehicle.1 in_.vehicle.1 vin.1 in
    let now = number_first 4 m.now n.now (drop 4 F) (drop 4 G) r s im.times.0 in_.times.0 registration.1 in
    let begin = number_first 4 m.begin n.begin (drop 5 F) (drop 5 G) r s im.times.1 in_.times.1 now.1 in
    let end = number_first 4 m.end n.end (drop 6 F) (drop 6 G) r s im.times.2 in_.times.2 begin.1 in
    let status = number_first 1 m.slot_status n.slot_status (drop 7 F) (drop 7 G) r s im.status in_.status end.1 in
    let last = bytes_first 58 m.last_download n.last_download (drop 8 F) (drop 8 G) r s im.last in_.last status.1 in
    let locks = entries_first 1 98 m.locks n.locks (drop 9 F) (drop 9 G) r s im.locks in_.locks last.1 in
    let controls = entries_first 1 31 m.controls n.controls (drop 10 F) (drop 10 G) r s im.controls in_.controls locks.1 in
    let signature = bytes_first 128 m.signature n.signature (drop 11 F) (drop 11 G) r s im.signed in_.signed controls.1 in
    ((λ t. record { state_certificate = state.0 t; unit_certificate = unit.0 t; vin = vin.0 t; registration = registration.0 t; now = now.0 t; begin = begin.0 t; end = end.0 t; slot_status = status.0 t; last_download = last.0 t; locks = locks.0 t; controls = controls.0 t; signature = signature.0 t }), signature.1)

day_same : (m n : DayMessage) (r s : List ℕ) → IsDayMessage m → IsDayMessage n → day_bytes m ++ r ≡ day_bytes n ++ s → (m ≡ n) × (r ≡ s)
day_same m n r s im in_ is =
    let F : List (List ℕ) = big_bytes 3 m.odometer ∷ counted 2 m.insertions ∷ counted 2 (word_bytes m.words) ∷ counted 1 m.places ∷ counted 2 m.conditions ∷ m.signature ∷ [] in
    let G : List (List ℕ) = big_bytes 3 n.odometer ∷ counted 2 n.insertions ∷ counted 2 (word_bytes n.words) ∷ counted 1 n.places ∷ counted 2 n.conditions ∷ n.signature ∷ [] in
    let date = number_first 4 m.date n.date F G r s im.date.0 in_.date.0 is in
    let odometer = number_first 3 m.odometer n.odometer (drop 1 F) (drop 1 G) r s im.odometer in_.odometer date.1 in
    let insertions = entries_first 2 129 m.insertions n.insertions (drop 2 F) (drop 2 G) r s im.insertions in_.insertions odometer.1 in
    let words = words_first m.words n.words (drop 3 F) (drop 3 G) r s im.few in_.few (all_low m.words im.words) (all_low n.words in_.words) insertions.1 in
    let places = entries_first 1 28 m.places n.places (drop 4 F) (drop 4 G) r s im.places in_.places words.1 in
    let conditions = entries_first 2 5 m.conditions n.conditions (drop 5 F) (drop 5 G) r s im.conditions in_.conditions places.1 in
    let signature = bytes_first 128 m.signature n.signature (drop 6 F) (drop 6 G) r s im.signed in_.signed conditions.1 in
    ((λ t. record { date = date.0 t; odometer = odometer.0 t; insertions = insertions.0 t; words = words.0 t; places = places.0 t; conditions = conditions.0 t; signature = signature.0 t }), signature.1)

event_same : (m n : EventMessage) (r s : List ℕ) → IsEventMessage m → IsEventMessage n → event_bytes m ++ r ≡ event_bytes n ++ s → (m ≡ n) × (r ≡ s)
event_same m n r s im in_ is =
    let F : List (List ℕ) = counted 1 m.events ∷ big_bytes 4 m.last_control ∷ big_bytes 4 m.first_over ∷ big_bytes 1 m.over_count ∷ counted 1 m.overs ∷ counted 1 m.adjustments ∷ m.signature ∷ [] in
    let G : List (List ℕ) = counted 1 n.events ∷ big_bytes 4 n.last_control ∷ big_bytes 4 n.first_over ∷ big_bytes 1 n.over_count ∷ counted 1 n.overs ∷ counted 1 n.adjustments ∷ n.signature ∷ [] in
    let faults = entries_first 1 82 m.faults n.faults F G r s im.faults in_.faults is in
    let events = entries_first 1 83 m.events n.events (drop 1 F) (drop 1 G) r s im.events in_.events faults.1 in
    let control = number_first 4 m.last_control n.last_control (drop 2 F) (drop 2 G) r s im.control.0 in_.control.0 events.1 in
    let first = number_first 4 m.first_over n.first_over (drop 3 F) (drop 3 G) r s im.control.1 in_.control.1 control.1 in
    let count = number_first 1 m.over_count n.over_count (drop 4 F) (drop 4 G) r s im.control.2 in_.control.2 first.1 in
    let overs = entries_first 1 31 m.overs n.overs (drop 5 F) (drop 5 G) r s im.overs in_.overs count.1 in
    let adjustments = entries_first 1 98 m.adjustments n.adjustments (drop 6 F) (drop 6 G) r s im.adjustments in_.adjustments overs.1 in
    let signature = bytes_first 128 m.signature n.signature (drop 7 F) (drop 7 G) r s im.signed in_.signed adjustments.1 in
    ((λ t. record { faults = faults.0 t; events = events.0 t; last_control = control.0 t; first_over = first.0 t; over_count = count.0 t; overs = overs.0 t; adjustments = adjustments.0 t; signature = signature.0 t }), signature.1)

speed_same : (m n : SpeedMessage) (r s : List ℕ) → IsSpeedMessage m → IsSpeedMessage n → speed_bytes m ++ r ≡ speed_bytes n ++ s → (m ≡ n) × (r ≡ s)
speed_same m n r s im in_ is =
    let blocks = entries_first 2 64 m.blocks n.blocks (m.signature ∷ []) (n.signature ∷ []) r s im.blocks in_.blocks is in
    let signature = bytes_first 128 m.signature n.signature [] [] r s im.signed in_.signed blocks.1 in
    ((λ t. record { blocks = blocks.0 t; signature = signature.0 t }), signature.1)

technical_same : (m n : TechnicalMessage) (r s : List ℕ) → IsTechnicalMessage m → IsTechnicalMessage n → technical_bytes m ++ r ≡ technical_bytes n ++ s → (m ≡ n) × (r ≡ s)
technical_same m n r s im in_ is =
    let F : List (List ℕ) = m.sensor ∷ counted 1 m.calibrations ∷ m.signature ∷ [] in
    let G : List (List ℕ) = n.sensor ∷ counted 1 n.calibrations ∷ n.signature ∷ [] in
    let identification = bytes_first 116 m.identification n.identification F G r s im.unit.0 in_.unit.0 is in
    let sensor = bytes_first 20 m.sensor n.sensor (drop 1 F) (drop 1 G) r s im.unit.1 in_.unit.1 identification.1 in
    let calibrations = entries_first 1 167 m.calibrations n.calibrations (drop 2 F) (drop 2 G) r s im.calibrations in_.calibrations sensor.1 in
    let signature = bytes_first 128 m.signature n.signature (drop 3 F) (drop 3 G) r s im.signed in_.signed calibrations.1 in
    ((λ t. record { identification = identification.0 t; sensor = sensor.0 t; calibrations = calibrations.0 t; signature = signature.0 t }), signature.1)

behind : (m n : Message) (r s : List ℕ) → message_bytes m ++ r ≡ message_bytes n ++ s → content_of m ++ r ≡ content_of n ++ s
behind m n r s is = ap (λ (l : List ℕ). tail (tail l)) is

numbers : (m n : Message) (r s : List ℕ) → message_bytes m ++ r ≡ message_bytes n ++ s → number_of m ≡ number_of n
numbers m n r s is = ap (λ (l : List ℕ). head 0 (tail l)) is

-- A MESSAGE at the front of bytes is one alone, and so is what follows it
pub one_way : (m n : Message) (r s : List ℕ) → IsMessage m → IsMessage n → message_bytes m ++ r ≡ message_bytes n ++ s → (m ≡ n) × (r ≡ s)
one_way (AnOverview m) (AnOverview n) r s im in_ is = let both = overview_same m n r s im in_ (behind (AnOverview m) (AnOverview n) r s is) in (ap AnOverview both.0, both.1)
one_way (ADay m) (ADay n) r s im in_ is = let both = day_same m n r s im in_ (behind (ADay m) (ADay n) r s is) in (ap ADay both.0, both.1)
one_way (AnEventList m) (AnEventList n) r s im in_ is = let both = event_same m n r s im in_ (behind (AnEventList m) (AnEventList n) r s is) in (ap AnEventList both.0, both.1)
one_way (ASpeedList m) (ASpeedList n) r s im in_ is = let both = speed_same m n r s im in_ (behind (ASpeedList m) (ASpeedList n) r s is) in (ap ASpeedList both.0, both.1)
one_way (ATechnical m) (ATechnical n) r s im in_ is = let both = technical_same m n r s im in_ (behind (ATechnical m) (ATechnical n) r s is) in (ap ATechnical both.0, both.1)
one_way m n r s im in_ is = let one : number_of m ≡ number_of n = numbers m n r s is in absurd (omega (arith, one))
