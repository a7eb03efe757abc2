-- The messages of a unit file without those of the first days.
use Rattle.std.proofs.Common.{◌≡◌, ◌∙◌, ℕ, zero, suc, ◌+◌, ◌-◌, ◌≤◌, List, [], ◌∷◌, length, drop, refl, ap, sym, arith}
use Rattle.std.specs.Prelude.{Option, Some, None, true, false, ◌==◌}
use Rattle.file_view.specs.CardFiles.{newest}
use Rattle.file_view.specs.Showing.{before_last}
use Rattle.file_view.specs.UnitFiles.{days_told}
use Rattle.json.specs.Json.{Items, item}
use Rattle.message_model.specs.Messages.{Message, AnOverview, ADay, AnEventList, ASpeedList, ATechnical, DayMessage, message_bytes}
use Rattle.json_fields.proofs.Cutting.{by_test, equal}
use Rattle.file_json.specs.Units.{is_left_out, is_day_message, json_of_messages, json_of_unit, message_shown, messages_in, messages_shown, messages_told, of_last_days, of_no_day, standing_from, standing_shown, without_days}

-- what messages from a place on make, without the first so many of days
abbrev pub messages_behind : (skip place : ℕ) → List Message → Items
messages_behind skip place ms = standing_shown (without_days skip (standing_from place ms))

-- the first of them is left out, or it is not
pub first_out : (skip place : ℕ) (m : Message) (ms : List Message) → is_left_out skip m ≡ true
    → messages_behind skip place (m ∷ ms) ≡ messages_behind (skip - 1) (place + length (message_bytes m)) ms
first_out skip place m ms is = rw is refl

pub first_kept : (skip place : ℕ) (m : Message) (ms : List Message) → is_left_out skip m ≡ false
    → messages_behind skip place (m ∷ ms) ≡ item (message_shown place (message_bytes m)) (messages_behind skip (place + length (message_bytes m)) ms)
first_kept skip place m ms is = rw is refl

-- where none is left out all are told
pub none_out : (place : ℕ) (ms : List Message) → messages_behind 0 place ms ≡ messages_shown place ms
none_out place [] = refl
none_out place (m ∷ ms) = ap (λ (js : Items). item (message_shown place (message_bytes m)) js) (none_out (place + length (message_bytes m)) ms)

pub told_are : (last : Option ℕ) (ms : List Message) → messages_told last ms ≡ messages_behind (before_last last (length (days_told ms))) 0 ms
told_are None ms = sym (none_out 0 ms)
told_are (Some n) ms = refl

-- of as many days as there are all messages are told
pub all_days : (n : ℕ) (ms : List Message) → length (days_told ms) ≤ n → json_of_unit (Some n) ms ≡ json_of_unit None ms
all_days n ms many =
    let none : length (days_told ms) - n ≡ 0 = omega (arith, many) in
    ap (λ (k : ℕ). json_of_messages (messages_behind k 0 ms)) none ∙ ap json_of_messages (none_out 0 ms)

-- ---- the days that are told

-- the messages of those that are not left out
abbrev kept : (skip place : ℕ) → List Message → List Message
kept skip place ms = messages_in (without_days skip (standing_from place ms))

kept_out : (skip place : ℕ) (m : Message) (ms : List Message) → is_left_out skip m ≡ true → kept skip place (m ∷ ms) ≡ kept (skip - 1) (place + length (message_bytes m)) ms
kept_out skip place m ms is = rw is refl

kept_in : (skip place : ℕ) (m : Message) (ms : List Message) → is_left_out skip m ≡ false → kept skip place (m ∷ ms) ≡ m ∷ kept skip (place + length (message_bytes m)) ms
kept_in skip place m ms is = rw is refl

-- a message of no day is not left out, nor is one where none is; one of a day is where some are
stays : (skip : ℕ) (m : Message) → is_day_message m ≡ false → is_left_out skip m ≡ false
stays skip m other = by_test (skip == 0) (λ is. rw is refl) (λ is. rw is other)

goes : (skip : ℕ) (m : Message) → (skip == 0) ≡ false → is_day_message m ≡ true → is_left_out skip m ≡ true
goes skip m some day = rw some day

stays_last : (skip : ℕ) (m : Message) → (skip == 0) ≡ true → is_left_out skip m ≡ false
stays_last skip m none = rw none refl

none_dropped : (skip : ℕ) → drop skip (days_told []) ≡ days_told []
none_dropped zero = refl
none_dropped (suc n) = refl

first_stays : (skip : ℕ) (m : DayMessage) (ds : List DayMessage) → (skip == 0) ≡ true → m ∷ drop skip ds ≡ drop skip (m ∷ ds)
first_stays skip m ds none = rw (equal skip 0 none) refl

one_dropped : (skip : ℕ) (m : DayMessage) (ds : List DayMessage) → (skip == 0) ≡ false → drop (skip - 1) ds ≡ drop skip (m ∷ ds)
one_dropped zero m ds some = absurd (let wrong : true ≡ false = some in cc)
one_dropped (suc n) m ds some = let e : suc n - 1 ≡ n = omega arith in rw e refl

other_kept : (skip place : ℕ) (m : Message) (ms : List Message) → is_day_message m ≡ false → ((l : List Message) → days_told (m ∷ l) ≡ days_told l)
    → days_told (kept skip place (m ∷ ms)) ≡ days_told (kept skip (place + length (message_bytes m)) ms)
other_kept skip place m ms other passed = ap days_told (kept_in skip place m ms (stays skip m other)) ∙ passed (kept skip (place + length (message_bytes m)) ms)

day_stays : (skip place : ℕ) (m : DayMessage) (ms : List Message) → (skip == 0) ≡ true → days_told (kept skip place (ADay m ∷ ms)) ≡ m ∷ days_told (kept skip (place + length (message_bytes (ADay m))) ms)
day_stays skip place m ms none = ap days_told (kept_in skip place (ADay m) ms (stays_last skip (ADay m) none))

-- so their days are the others
days_kept : (skip place : ℕ) (ms : List Message) → days_told (kept skip place ms) ≡ drop skip (days_told ms)
days_kept skip place [] = sym (none_dropped skip)
days_kept skip place (AnOverview m ∷ ms) = other_kept skip place (AnOverview m) ms refl (λ l. refl) ∙ days_kept skip (place + length (message_bytes (AnOverview m))) ms
days_kept skip place (AnEventList m ∷ ms) = other_kept skip place (AnEventList m) ms refl (λ l. refl) ∙ days_kept skip (place + length (message_bytes (AnEventList m))) ms
days_kept skip place (ASpeedList m ∷ ms) = other_kept skip place (ASpeedList m) ms refl (λ l. refl) ∙ days_kept skip (place + length (message_bytes (ASpeedList m))) ms
days_kept skip place (ATechnical m ∷ ms) = other_kept skip place (ATechnical m) ms refl (λ l. refl) ∙ days_kept skip (place + length (message_bytes (ATechnical m))) ms
days_kept skip place (ADay m ∷ ms) =
    by_test (skip == 0)
    (λ none. day_stays skip place m ms none ∙ ap (λ (ds : List DayMessage). m ∷ ds) (days_kept skip (place + length (message_bytes (ADay m))) ms) ∙ first_stays skip m (days_told ms) none)
    (λ some. ap days_told (kept_out skip place (ADay m) ms (goes skip (ADay m) some refl)) ∙ days_kept (skip - 1) (place + length (message_bytes (ADay m))) ms ∙ one_dropped skip m (days_told ms) some)

-- and the days of the messages that are told are those of which `view` shows the minutes
pub days_are_newest : (n : ℕ) (ms : List Message) → days_told (messages_in (of_last_days n ms)) ≡ newest n (days_told ms)
days_are_newest n ms = days_kept (length (days_told ms) - n) 0 ms

-- and each message of no day is told
one_other : (skip place : ℕ) (m : Message) (ms : List Message) → is_day_message m ≡ false → ((l : List Message) → of_no_day (m ∷ l) ≡ m ∷ of_no_day l)
    → of_no_day (kept skip (place + length (message_bytes m)) ms) ≡ of_no_day ms → of_no_day (kept skip place (m ∷ ms)) ≡ of_no_day (m ∷ ms)
one_other skip place m ms other first behind =
    ap of_no_day (kept_in skip place m ms (stays skip m other))
    ∙ first (kept skip (place + length (message_bytes m)) ms)
    ∙ ap (λ (l : List Message). m ∷ l) behind
    ∙ sym (first ms)

others_kept : (skip place : ℕ) (ms : List Message) → of_no_day (kept skip place ms) ≡ of_no_day ms
others_kept skip place [] = refl
others_kept skip place (AnOverview m ∷ ms) = one_other skip place (AnOverview m) ms refl (λ l. refl) (others_kept skip (place + length (message_bytes (AnOverview m))) ms)
others_kept skip place (AnEventList m ∷ ms) = one_other skip place (AnEventList m) ms refl (λ l. refl) (others_kept skip (place + length (message_bytes (AnEventList m))) ms)
others_kept skip place (ASpeedList m ∷ ms) = one_other skip place (ASpeedList m) ms refl (λ l. refl) (others_kept skip (place + length (message_bytes (ASpeedList m))) ms)
others_kept skip place (ATechnical m ∷ ms) = one_other skip place (ATechnical m) ms refl (λ l. refl) (others_kept skip (place + length (message_bytes (ATechnical m))) ms)
others_kept skip place (ADay m ∷ ms) =
    by_test (skip == 0)
    (λ none. ap of_no_day (kept_in skip place (ADay m) ms (stays_last skip (ADay m) none)) ∙ others_kept skip (place + length (message_bytes (ADay m))) ms)
    (λ some. ap of_no_day (kept_out skip place (ADay m) ms (goes skip (ADay m) some refl)) ∙ others_kept (skip - 1) (place + length (message_bytes (ADay m))) ms)

pub others_are_told : (n : ℕ) (ms : List Message) → of_no_day (messages_in (of_last_days n ms)) ≡ of_no_day ms
others_are_told n ms = others_kept (length (days_told ms) - n) 0 ms
