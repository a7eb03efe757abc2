-- The front of a unit file that was read, and what was told by it.
use Rattle.std.proofs.Common.{◌≡◌, ◌∙◌, ℕ, zero, suc, ◌<◌, false, Option, Some, None, List, [], ◌∷◌, ◌++◌, length, map, drop, get_or, refl, ap, sym, subst, arith, All, append_assoc, append-nil, length-append}
use Rattle.std.specs.Prelude.{flat_map, is_some, OnOk, Result, Ok, Err}
use Rattle.std.proofs.lemmas.List.Elements.{All-append, All-nil}
use Rattle.card_layout.specs.Fields.{joined}
use Rattle.unit_model.specs.Days.{UnitMinute}
use Rattle.message_model.specs.Messages.{Message, Overview, DayMessage, AnOverview, ADay, AnEventList, ASpeedList, ATechnical, message_bytes, IsMessage}
use Rattle.message_model.specs.Showing.{time_in, told_day, day_minutes, minutes_told as told_by}
use Rattle.link_model.specs.declared.request.Request.TheVariants.{Overview as AskOverview, Day as AskDay, Events as AskEvents, Speed as AskSpeed, Technical as AskTechnical}
use Rattle.unit_messages.specs.Reading.{BeginsNoMessage, request_of}
use Rattle.file_view.specs.declared.unit.DayAt.{DayAt}
use Rattle.file_view.specs.declared.unit.Told.{Told}
use Rattle.file_view.specs.UnitFiles.{HasNoMessage, days_told}
use Rattle.file_view.specs.UnitShowing.{IsStoredAt, AreStored, AreTold, IsTaken, first_time}

-- the days of messages and of one more
days_of_more : (ms : List Message) (m : Message) → days_told (ms ++ m ∷ []) ≡ days_told ms ++ days_told (m ∷ [])
days_of_more [] m = refl
days_of_more (AnOverview x ∷ ms) m = days_of_more ms m
days_of_more (ADay x ∷ ms) m = ap (λ (l : List DayMessage). x ∷ l) (days_of_more ms m)
days_of_more (AnEventList x ∷ ms) m = days_of_more ms m
days_of_more (ASpeedList x ∷ ms) m = days_of_more ms m
days_of_more (ATechnical x ∷ ms) m = days_of_more ms m

-- the time of messages and of one more
time_of_more : (ms : List Message) (m : Message) → time_in (ms ++ m ∷ []) ≡ first_time (time_in ms) (time_in (m ∷ []))
time_of_more [] m = refl
time_of_more (AnOverview x ∷ ms) m = refl
time_of_more (ADay x ∷ ms) m = time_of_more ms m
time_of_more (AnEventList x ∷ ms) m = time_of_more ms m
time_of_more (ASpeedList x ∷ ms) m = time_of_more ms m
time_of_more (ATechnical x ∷ ms) m = time_of_more ms m

-- one stored day more
stored_more : (bytes : List ℕ) (ds : List DayAt) (ms : List DayMessage) (d : DayAt) (m : DayMessage) → AreStored bytes ds ms → IsStoredAt bytes d m → AreStored bytes (ds ++ d ∷ []) (ms ++ m ∷ [])
stored_more bytes [] ms d m are is = subst (λ (l : List DayMessage). AreStored bytes (d ∷ []) (l ++ m ∷ [])) (sym are) (is, refl)
stored_more bytes (x ∷ ds) [] d m are is = absurd are
stored_more bytes (x ∷ ds) (y ∷ ms) d m are is = (are.0, stored_more bytes ds ms d m are.1 is)

pub stored_at : (bytes : List ℕ) (ds : List DayAt) (ms : List DayMessage) → AreStored bytes ds ms → (i : ℕ) → i < length ds → (d : DayAt) (m : DayMessage) → IsStoredAt bytes (get_or ds i d) (get_or ms i m)
stored_at bytes [] ms are i low d m = absurd (omega (arith, low))
stored_at bytes (x ∷ ds) [] are i low d m = absurd are
stored_at bytes (x ∷ ds) (y ∷ ms) are zero low d m = are.0
stored_at bytes (x ∷ ds) (y ∷ ms) are (suc i) low d m = stored_at bytes ds ms are.1 i (omega (arith, low)) d m

pub stored_count : (bytes : List ℕ) (ds : List DayAt) (ms : List DayMessage) → AreStored bytes ds ms → length ds ≡ length ms
stored_count bytes [] ms are = sym (ap (λ (l : List DayMessage). length l) are)
stored_count bytes (x ∷ ds) [] are = absurd are
stored_count bytes (x ∷ ds) (y ∷ ms) are = ap suc (stored_count bytes ds ms are.1)

-- what is told by one message more: of a day, of an overview, of another
pub told_day_more : (bytes : List ℕ) (ms : List Message) (t u : Told) (d : DayAt) (m : DayMessage) → AreTold bytes ms t → IsStoredAt bytes d m → u.time ≡ t.time → u.days.items ≡ t.days.items ++ d ∷ [] → AreTold bytes (ms ++ ADay m ∷ []) u
told_day_more bytes ms t u d m are is now days = record {
  time = now ∙ are.time ∙ stays (time_in ms) ∙ sym (time_of_more ms (ADay m));
  days = subst (λ (l : List DayAt). AreStored bytes l (days_told (ms ++ ADay m ∷ []))) (sym days) (subst (λ (l : List DayMessage). AreStored bytes (t.days.items ++ d ∷ []) l) (sym (days_of_more ms (ADay m))) (stored_more bytes t.days.items (days_told ms) d m are.days is));
}
  where
    stays : (o : Option ℕ) → o ≡ first_time o None
    stays None = refl
    stays (Some n) = refl

pub told_same : (bytes : List ℕ) (ms : List Message) (t u : Told) (m : Message) → AreTold bytes ms t → days_told (m ∷ []) ≡ [] → u.time ≡ first_time t.time (time_in (m ∷ [])) → u.days.items ≡ t.days.items → AreTold bytes (ms ++ m ∷ []) u
told_same bytes ms t u m are none now days = record {
  time = now ∙ ap (λ (o : Option ℕ). first_time o (time_in (m ∷ []))) are.time ∙ sym (time_of_more ms m);
  days = subst (λ (l : List DayAt). AreStored bytes l (days_told (ms ++ m ∷ []))) (sym days) (subst (λ (l : List DayMessage). AreStored bytes t.days.items l) (sym (days_of_more ms m ∙ ap (λ (l : List DayMessage). days_told ms ++ l) none ∙ append-nil (days_told ms))) are.days);
}

-- some messages stand one after the other up to a place, and this was told by them
pub record UnitFront (bytes : List ℕ) (place : ℕ) (told : Told) : Type 0 where
  pub messages : List Message
  pub some : 0 < length messages
  pub each : All IsMessage messages
  pub spelled : bytes ≡ joined (map message_bytes messages) ++ drop place bytes
  pub place_is : place ≡ length (joined (map message_bytes messages))
  pub told_is : AreTold bytes messages told

bytes_more : (ms : List Message) (m : Message) → joined (map message_bytes (ms ++ m ∷ [])) ≡ joined (map message_bytes ms) ++ message_bytes m
bytes_more [] m = append-nil (message_bytes m)
bytes_more (x ∷ ms) m = ap (λ (l : List ℕ). message_bytes x ++ l) (bytes_more ms m) ∙ sym (append_assoc (message_bytes x) (joined (map message_bytes ms)) (message_bytes m))

-- what is left behind a front
behind : (front rest bytes : List ℕ) (n : ℕ) → bytes ≡ front ++ rest → n ≡ length front → drop n bytes ≡ rest
behind front rest bytes n is count = ap (λ (l : List ℕ). drop n l) is ∙ ap (λ (k : ℕ). drop k (front ++ rest)) count ∙ by front
  where
    by : (l : List ℕ) → drop (length l) (l ++ rest) ≡ rest
    by [] = refl
    by (x ∷ l) = by l

-- nothing was read
pub told_none : (bytes : List ℕ) (t : Told) → t.time ≡ None → t.days.items ≡ [] → AreTold bytes [] t
told_none bytes t now days = record { time = now; days = subst (λ (l : List DayAt). AreStored bytes l []) (sym days) refl }

-- no message is at the front
pub no_message : (bytes : List ℕ) → BeginsNoMessage bytes → HasNoMessage bytes
no_message bytes none = λ m more is spelled. none m (record { is_message = is; rest = more; spelled = spelled })

-- one message behind some
module _ (bytes : List ℕ) (before : List Message) (place end : ℕ) (u : Told) (each : All IsMessage before) (spelled : bytes ≡ joined (map message_bytes before) ++ drop place bytes) (place_is : place ≡ length (joined (map message_bytes before))) (taken : IsTaken bytes before place end u) where
  more : List Message
  more = before ++ taken.message ∷ []

  whole : bytes ≡ joined (map message_bytes (before ++ taken.message ∷ [])) ++ taken.begins.rest
  whole =
      spelled ∙ ap (λ (l : List ℕ). joined (map message_bytes before) ++ l) taken.begins.spelled
      ∙ sym (append_assoc (joined (map message_bytes before)) (message_bytes taken.message) taken.begins.rest)
      ∙ ap (λ (l : List ℕ). l ++ taken.begins.rest) (sym (bytes_more before taken.message))

  count : end ≡ length (joined (map message_bytes (before ++ taken.message ∷ [])))
  count = omega (arith, place_is, taken.end_is, ap (λ (l : List ℕ). length l) (bytes_more before taken.message), length-append (joined (map message_bytes before)) (message_bytes taken.message))

  each_more : All IsMessage (before ++ taken.message ∷ [])
  each_more = All-append IsMessage before (taken.message ∷ []) each one
    where
      one : All IsMessage (taken.message ∷ [])
      one zero d low = taken.begins.is_message
      one (suc k) d low = absurd (omega (arith, low))

  left : drop end bytes ≡ taken.begins.rest
  left = behind (joined (map message_bytes (before ++ taken.message ∷ []))) taken.begins.rest bytes end whole count

  pub front_behind : UnitFront bytes end u
  front_behind = record {
    messages = before ++ taken.message ∷ [];
    some = omega (arith, length-append before (taken.message ∷ []));
    each = each_more;
    spelled = whole ∙ ap (λ (l : List ℕ). joined (map message_bytes (before ++ taken.message ∷ [])) ++ l) (sym left);
    place_is = count;
    told_is = taken.told_is;
  }

-- the first message, and one more
pub unit_front_first : (bytes : List ℕ) (end : ℕ) (u : Told) → IsTaken bytes [] 0 end u → UnitFront bytes end u
unit_front_first bytes end u taken = front_behind bytes [] 0 end u (All-nil IsMessage) refl refl taken

pub unit_front_more : (bytes : List ℕ) (place end : ℕ) (t u : Told) (front : UnitFront bytes place t) → IsTaken bytes front.messages place end u → UnitFront bytes end u
unit_front_more bytes place end t u front taken = front_behind bytes front.messages place end u front.each front.spelled front.place_is taken

-- the first of two times, where there was none
pub first_taken : (o : Option ℕ) (n k : ℕ) → is_some o ≡ false → k ≡ n → Some k ≡ first_time o (Some n)
first_taken None n k none is = ap Some is
first_taken (Some m) n k none is = absurd (cc)

-- what follows where all is well
pub on_ok_by : {A E : Type 0} {P Q : Type 0} → (r : Result A E) → (P → Q) → OnOk r P → OnOk r Q
on_ok_by (Ok a) by is = by is
on_ok_by (Err e) by is = tt

-- the message that answers a request
pub overview_asked : (m : Message) → AskOverview ≡ request_of m → (o : Overview) × (m ≡ AnOverview o)
overview_asked (AnOverview o) is = (o, refl)
overview_asked (ADay d) is = absurd (cc)
overview_asked (AnEventList x) is = absurd (cc)
overview_asked (ASpeedList x) is = absurd (cc)
overview_asked (ATechnical x) is = absurd (cc)

pub day_asked : (m : Message) (date : ℕ) → AskDay date ≡ request_of m → (d : DayMessage) × (m ≡ ADay d) × (date ≡ d.date)
day_asked (AnOverview o) date is = absurd (cc)
day_asked (ADay d) date is = (d, refl, cc)
day_asked (AnEventList x) date is = absurd (cc)
day_asked (ASpeedList x) date is = absurd (cc)
day_asked (ATechnical x) date is = absurd (cc)

-- the other messages tell no time and no day
pub told_other : (bytes : List ℕ) (ms : List Message) (t : Told) (m : Message) → AreTold bytes ms t → days_told (m ∷ []) ≡ [] → time_in (m ∷ []) ≡ None → AreTold bytes (ms ++ m ∷ []) t
told_other bytes ms t m are none untold = told_same bytes ms t t m are none (keeps t.time ∙ ap (λ (o : Option ℕ). first_time t.time o) (sym untold)) refl
  where
    keeps : (o : Option ℕ) → o ≡ first_time o None
    keeps None = refl
    keeps (Some n) = refl

pub events_asked : (m : Message) → AskEvents ≡ request_of m → (days_told (m ∷ []) ≡ []) × (time_in (m ∷ []) ≡ None)
events_asked (AnOverview o) is = absurd (cc)
events_asked (ADay d) is = absurd (cc)
events_asked (AnEventList x) is = (refl, refl)
events_asked (ASpeedList x) is = (refl, refl)
events_asked (ATechnical x) is = (refl, refl)

pub speed_asked : (m : Message) → AskSpeed ≡ request_of m → (days_told (m ∷ []) ≡ []) × (time_in (m ∷ []) ≡ None)
speed_asked (AnOverview o) is = absurd (cc)
speed_asked (ADay d) is = absurd (cc)
speed_asked (AnEventList x) is = (refl, refl)
speed_asked (ASpeedList x) is = (refl, refl)
speed_asked (ATechnical x) is = (refl, refl)

pub technical_asked : (m : Message) → AskTechnical ≡ request_of m → (days_told (m ∷ []) ≡ []) × (time_in (m ∷ []) ≡ None)
technical_asked (AnOverview o) is = absurd (cc)
technical_asked (ADay d) is = absurd (cc)
technical_asked (AnEventList x) is = (refl, refl)
technical_asked (ASpeedList x) is = (refl, refl)
technical_asked (ATechnical x) is = (refl, refl)

-- the minutes of a file are those of its days
pub minutes_by_days : (now : Option ℕ) (messages : List Message) → flat_map (told_by now) messages ≡ flat_map (λ (m : DayMessage). day_minutes now (told_day m)) (days_told messages)
minutes_by_days now [] = refl
minutes_by_days now (AnOverview x ∷ ms) = minutes_by_days now ms
minutes_by_days now (ADay x ∷ ms) = ap (λ (l : List UnitMinute). day_minutes now (told_day x) ++ l) (minutes_by_days now ms)
minutes_by_days now (AnEventList x ∷ ms) = minutes_by_days now ms
minutes_by_days now (ASpeedList x ∷ ms) = minutes_by_days now ms
minutes_by_days now (ATechnical x ∷ ms) = minutes_by_days now ms
