-- The messages of an image that decodes are of the grammar.
use Rattle.std.proofs.Common.{◌≡◌, ℕ, suc, ◌+◌, ◌*◌, ◌^◌, ◌<◌, ◌≤◌, Bool, true, false, cond, List, [], ◌∷◌, ◌++◌, length, map, filter, All, Some, IfSome, option_map, refl, sym, ap, subst, arith}
use Rattle.std.specs.Prelude.{nat_eq}
use Rattle.std.specs.List.{list_all}
use Rattle.std.proofs.lemmas.List.Elements.{All-nil, All-cons, All-filter, All-append}
use Rattle.gated_ring.specs.Ring.{Shape, size_of, pointer, ring_list}
use Rattle.unit_model.specs.declared.layout.Field.{Field}
use Rattle.unit_model.specs.declared.layout.TheConstants.{VIN, REGISTRATION, IDENTIFICATION, SENSOR, STATE_CERTIFICATE, UNIT_CERTIFICATE, OVER_COUNT}
use Rattle.unit_model.specs.Days.{StoredDay, Each}
use Rattle.unit_model.specs.Image.{number_of, last_kept, recorded_indices}
use Rattle.unit_model.specs.Decoding.{front_checks, ring_checks}
use Rattle.unit_model.proofs.Checks.{passes, good_of, front_split, rings_split}
use Rattle.link_model.specs.declared.request.Request.{Request}
use Rattle.link_model.specs.declared.request.Request.TheVariants.{Overview as AskOverview, Day as AskDay, Events as AskEvents, Speed as AskSpeed, Technical as AskTechnical}
use Rattle.message_model.specs.Records.{insertion_ring, unit_place_ring, speed_ring}
use Rattle.message_model.specs.Messages.{Message, AnOverview, ADay, AnEventList, ASpeedList, ATechnical, DayMessage, AreEntries, IsMessage, IsOverview, IsDayMessage, IsEventMessage, IsSpeedMessage, IsTechnicalMessage, IsUnitFile, message_bytes, overview_bytes, day_bytes, event_bytes, speed_bytes, technical_bytes}
use Rattle.message_model.specs.Sending.{field_of, event_table, over_table, fault_table, entries_in, touches_day, place_in_day, sent_days, period_of, overview_of, day_message_of, event_message_of, speed_message_of, technical_message_of, day_at, message_of, messages_of, unit_file}
use Rattle.unit_messages.proofs.SentDays.{sent_at, recorded_good}
use Rattle.link_loader.specs.Talking.{AreDays, IsUnitImage, CanBeLoaded}
use Rattle.link_loader.proofs.ImageParts.{part_long, number_low, filter_few, table_sized, table_few, ring_sized, ring_few}
use Rattle.link_loader.proofs.Short.{overview_few, day_long, event_few, speed_few, technical_few}
use Rattle.link_loader.proofs.ImageDays.{ok, sent_is, days_good, IsSent, sent_good}

-- the pointers of insertions, places and blocks of speeds are indices, and over speedings are few
pointers : (x : List ℕ) → list_all passes (ring_checks x) ≡ true → (pointer insertion_ring x < 2048) × (pointer unit_place_ring x < 255) × (pointer speed_ring x < 1440)
pointers x all =
    let rings = rings_split x all in
    (rings.insertions, rings.places, rings.speeds)

few_over : (x : List ℕ) → list_all passes (front_checks x) ≡ true → number_of x OVER_COUNT ≤ 255
few_over x all = (front_split x all).overs

some_member : (m : Message) (ms : List Message) → 0 < length (m ∷ ms)
some_member m ms = omega arith

-- no entries
none_are : (width size : ℕ) → 0 < 256 ^ width → AreEntries width size []
none_are width size some = record { few = some; sized = All-nil (λ e. length e ≡ size) }

-- both ends of a period are by this second
period_low : (end : ℕ) (ds : List StoredDay) → AreDays end ds → ((period_of end ds).0 ≤ end) × ((period_of end ds).1 ≤ end)
period_low end [] are = (omega arith, omega arith)
period_low end (d ∷ ds) are = (are.1, omega arith)

-- days of these indices, each of which is good
each_day : (P : StoredDay → Type 0) (x : List ℕ) (js : List ℕ) → Each (λ i. P (sent_at x i)) js → Each P (map (sent_at x) js)
each_day P x [] all = tt
each_day P x (j ∷ js) all = (all.0, each_day P x js all.1)

module _ (x : List ℕ) (image : IsUnitImage x) where
  abbrev sized : length x ≡ 2485808
  sized = image.sized

  -- a field of the image has all its bytes
  field_long : (f : Field) → f.place + f.size ≤ 2485808 → length (field_of f x) ≡ f.size
  field_long f inside = part_long x f.place f.size (omega (arith, inside, sized))

  days : AreDays (60 * last_kept x) (sent_days x)
  days = (days_good x image.decodes).1

  pub time_low : 60 * last_kept x < 2 ^ 32
  time_low =
      let kept = (ok x image.decodes).kept in
      let low : 60 * last_kept x < 4294967296 = omega (arith, kept) in
      low

  -- the entries of a table
  table_entries : (r : Shape) (size : ℕ) → r.base + size_of r ≤ length x → r.width ≡ size → r.count < 256 → AreEntries 1 size (entries_in r x)
  table_entries r size inside is small =
      subst (λ (n : ℕ). AreEntries 1 n (entries_in r x)) is
      (record { few = (let few : length (entries_in r x) < 256 = omega (arith, table_few r x inside, small) in few); sized = table_sized r x inside })

  -- those of a ring that are chosen
  module _ (r : Shape) (inside : r.base + size_of r ≤ length x) (points : pointer r x < r.count) where
    chosen_few : (t : List ℕ → Bool) → length (filter t (ring_list r x)) ≤ r.count
    chosen_few t = omega (arith, filter_few t (ring_list r x), ring_few r x inside points)

    chosen_entries : (width : ℕ) (t : List ℕ → Bool) → r.count < 256 ^ width → AreEntries width r.width (filter t (ring_list r x))
    chosen_entries width t small = record {
      few = let most = chosen_few t in omega (arith, most, small);
      sized = All-filter t (λ e. length e ≡ r.width) (ring_list r x) (ring_sized r x inside points);
    }

  inserted : insertion_ring.base + size_of insertion_ring ≤ length x
  inserted = let e : 2379240 ≤ length x = omega (arith, sized) in e

  placed : unit_place_ring.base + size_of unit_place_ring ≤ length x
  placed = let e : 2386384 ≤ length x = omega (arith, sized) in e

  driven : speed_ring.base + size_of speed_ring ≤ length x
  driven = let e : 2485808 ≤ length x = omega (arith, sized) in e

  at_entries : (pointer insertion_ring x < 2048) × (pointer unit_place_ring x < 255) × (pointer speed_ring x < 1440)
  at_entries = pointers x (good_of x image.decodes).rings

  overview_good : IsOverview (overview_of x)
  unfolding overview_of
  overview_good =
      let period = period_low (60 * last_kept x) (sent_days x) days in
      let time : 60 * last_kept x < 4294967296 = time_low in
      let begin : (period_of (60 * last_kept x) (sent_days x)).0 < 4294967296 = omega (arith, period.0, time) in
      let end : (period_of (60 * last_kept x) (sent_days x)).1 < 4294967296 = omega (arith, period.1, time) in
      let single : 0 < 256 = omega arith in
      record {
        certificates = (field_long STATE_CERTIFICATE (omega arith), field_long UNIT_CERTIFICATE (omega arith));
        vehicle = (field_long VIN (omega arith), field_long REGISTRATION (omega arith));
        times = (time, begin, end);
        status = single;
        last = refl;
        locks = none_are 1 98 single;
        controls = none_are 1 31 single;
        signed = refl;
      }

  -- a recorded day, and how many entries and words it has
  pub record IsShortDay (m : DayMessage) : Type 0 where
    pub insertions : length m.insertions ≤ 2048
    pub words : length m.words ≤ 2880
    pub places : length m.places ≤ 255
    pub conditions : m.conditions ≡ []

  day_good : (i : ℕ) → IsSent x image.decodes i → IsDayMessage (day_message_of x (sent_at x i)) × IsShortDay (day_message_of x (sent_at x i))
  unfolding day_message_of
  day_good i sent =
      let date = (sent_at x i).date in
      let words = sent.few in
      let few : length (sent_at x i).words < 65536 = omega (arith, words) in
      let both : 0 < 65536 = omega arith in
      let many : 2048 < 65536 = omega arith in
      let some : 255 < 256 = omega arith in (
        record {
          date = sent.date;
          odometer = sent.odometer;
          insertions = chosen_entries insertion_ring inserted at_entries.0 2 (touches_day date) many;
          few = few;
          words = sent.words;
          places = chosen_entries unit_place_ring placed at_entries.1 1 (place_in_day date) some;
          conditions = none_are 2 5 both;
          signed = refl;
        },
        record {
          insertions = chosen_few insertion_ring inserted at_entries.0 (touches_day date);
          words = words;
          places = chosen_few unit_place_ring placed at_entries.1 (place_in_day date);
          conditions = refl;
        },
      )

  abbrev pub IsGoodDay : StoredDay → Type 0
  IsGoodDay d = IsDayMessage (day_message_of x d) × IsShortDay (day_message_of x d)

  pub each_good : Each IsGoodDay (sent_days x)
  each_good =
      subst (λ (ds : List StoredDay). Each IsGoodDay ds) (sym (sent_is x image.decodes))
      (each_day IsGoodDay x (recorded_indices x)
      (recorded_good (λ i. IsGoodDay (sent_at x i)) x (ok x image.decodes) (λ i below there. day_good i (sent_good x image.decodes image.bytes i below there))))

  event_good : IsEventMessage (event_message_of x)
  unfolding event_message_of
  event_good =
      let low = few_over x (good_of x image.decodes).front in
      let count : number_of x OVER_COUNT < 256 = omega (arith, low) in
      let none : 0 < 4294967296 = omega arith in
      let single : 0 < 256 = omega arith in
      record {
        faults = table_entries fault_table 82 (let e : 2393642 ≤ length x = omega (arith, sized) in e) refl (let e : 24 < 256 = omega arith in e);
        events = table_entries event_table 83 (let e : 2391364 ≤ length x = omega (arith, sized) in e) refl (let e : 60 < 256 = omega arith in e);
        control = (none, number_low x 572 4 image.bytes, count);
        overs = table_entries over_table 31 (let e : 2391674 ≤ length x = omega (arith, sized) in e) refl (let e : 10 < 256 = omega arith in e);
        adjustments = none_are 1 98 single;
        signed = refl;
      }

  blocks_few : length (speed_message_of x).blocks ≤ 1440
  unfolding speed_message_of
  blocks_few = ring_few speed_ring x driven at_entries.2

  speed_good : IsSpeedMessage (speed_message_of x)
  unfolding speed_message_of
  speed_good = record {
    blocks = record { few = (let most = blocks_few in let few : length (ring_list speed_ring x) < 65536 = omega (arith, most) in few); sized = ring_sized speed_ring x driven at_entries.2 };
    signed = refl;
  }

  technical_good : IsTechnicalMessage (technical_message_of x)
  unfolding technical_message_of
  technical_good =
      let single : 0 < 256 = omega arith in
      record { unit = (field_long IDENTIFICATION (omega arith), field_long SENSOR (omega arith)); calibrations = none_are 1 167 single; signed = refl }

  -- what is said of each message that there is
  module _ (P : Message → Type 0) (first : P (AnOverview (overview_of x))) (each : (d : StoredDay) → IsGoodDay d → P (ADay (day_message_of x d))) (events : P (AnEventList (event_message_of x)))
      (speeds : P (ASpeedList (speed_message_of x))) (last : P (ATechnical (technical_message_of x))) where
    of_day : (second : ℕ) (ds : List StoredDay) → Each IsGoodDay ds → IfSome (option_map (λ d. ADay (day_message_of x d)) (day_at second ds)) P
    of_day second [] all = tt
    of_day second (d ∷ ds) all = by (of_day second ds all.1) (nat_eq d.date second)
      where
        by : IfSome (option_map (λ d. ADay (day_message_of x d)) (day_at second ds)) P → (b : Bool) → IfSome (option_map (λ d. ADay (day_message_of x d)) (cond b (Some d) (day_at second ds))) P
        by rest true = each d all.0
        by rest false = rest

    pub of_request : (request : Request) → IfSome (message_of x request) P
    unfolding message_of
    of_request AskOverview = first
    of_request (AskDay second) = of_day second (sent_days x) each_good
    of_request AskEvents = events
    of_request AskSpeed = speeds
    of_request AskTechnical = last

    of_days : (ds : List StoredDay) → Each IsGoodDay ds → All P (map (λ d. ADay (day_message_of x d)) ds)
    of_days [] all = All-nil P
    of_days (d ∷ ds) all = All-cons P (ADay (day_message_of x d)) (map (λ d. ADay (day_message_of x d)) ds) (each d all.0) (of_days ds all.1)

    pub of_file : All P (messages_of x)
    unfolding messages_of
    of_file =
        let days = map (λ d. ADay (day_message_of x d)) (sent_days x) in
        let technical = ATechnical (technical_message_of x) ∷ [] in
        let speed = ASpeedList (speed_message_of x) ∷ technical in
        let behind = AnEventList (event_message_of x) ∷ speed in
        All-cons P (AnOverview (overview_of x)) (days ++ behind) first
        (All-append P days behind (of_days (sent_days x) each_good)
        (All-cons P (AnEventList (event_message_of x)) speed events
        (All-cons P (ASpeedList (speed_message_of x)) technical speeds (All-cons P (ATechnical (technical_message_of x)) [] last (All-nil P)))))

  pub grammar : (request : Request) → IfSome (message_of x request) IsMessage
  grammar = of_request IsMessage overview_good (λ d good. good.0) event_good speed_good technical_good

  -- and none is longer than a day with all entries and words
  day_room : (d : StoredDay) → IsGoodDay d → length (message_bytes (ADay (day_message_of x d))) ≤ 277236
  day_room d good =
      let m = day_message_of x d in
      let long : length (day_bytes m) ≡ 142 + 129 * length m.insertions + 2 * length m.words + 28 * length m.places + 5 * length m.conditions = day_long m good.0 in
      let none : length m.conditions ≡ 0 = ap length good.1.conditions in
      let all : suc (suc (length (day_bytes m))) ≤ 277236 = omega (arith, long, none, good.1.insertions, good.1.words, good.1.places) in
      all

  other_room : (content : List ℕ) → length content < 100000 → suc (suc (length content)) ≤ 277236
  other_room content few = omega (arith, few)

  room : (request : Request) → IfSome (message_of x request) (λ m. length (message_bytes m) ≤ 277236)
  room = of_request (λ m. length (message_bytes m) ≤ 277236)
      (other_room (overview_bytes (overview_of x)) (overview_few (overview_of x) overview_good)) day_room
      (other_room (event_bytes (event_message_of x)) (event_few (event_message_of x) event_good))
      (other_room (speed_bytes (speed_message_of x)) (speed_few (speed_message_of x) speed_good blocks_few))
      (other_room (technical_bytes (technical_message_of x)) (technical_few (technical_message_of x) technical_good))

  pub can_be_loaded : CanBeLoaded x
  can_be_loaded = record { follow = (days_good x image.decodes).0; days = days; time = time_low; grammar = grammar; room = room }

  pub file_good : IsUnitFile (messages_of x) (unit_file x)
  unfolding messages_of unit_file
  file_good = record { some = some_member (AnOverview (overview_of x)) (map (λ d. ADay (day_message_of x d)) (sent_days x) ++ AnEventList (event_message_of x) ∷ ASpeedList (speed_message_of x) ∷ ATechnical (technical_message_of x) ∷ []); each = of_file IsMessage overview_good (λ d good. good.0) event_good speed_good technical_good; spelled = refl }
