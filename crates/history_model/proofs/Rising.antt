-- The minutes of the history rise, and have ended.
use Rattle.std.proofs.Common.{◌≡◌, ℕ, ◌+◌, ◌/◌, ◌-◌, ◌≤◌, Bool, true, false, cond, Option, Some, None, List, [], ◌∷◌, ◌++◌, zero, suc, map, filter, arith, nat_le}
use Rattle.log_model.specs.minute_model.declared.Rule.{Rule}
use Rattle.log_model.specs.minute_model.declared.Minute.{Minute}
use Rattle.log_model.specs.minute_model.Span.{ungiven_of, count_from, AreNumbered}
use Rattle.log_model.proofs.minute_model.Counted.{decided-minutes, ungiven-most}
use Rattle.log_model.specs.Course.{ToldSecond}
use Rattle.log_model.specs.Spans.{seconds_in, first_in, end_in, AreApart}
use Rattle.history_model.specs.Minutes.{HistoryMinute}
use Rattle.history_model.specs.Presence.{Start}
use Rattle.history_model.specs.History.{seated, minutes_after, decided_of, span_minutes, limited_to, history_by}
use Rattle.history_model.specs.Growth.{as_span, Rises}
use Rattle.history_model.proofs.Deciding.{counted, span-settled}

pub rises-from : (a b until : ℕ) (past : List HistoryMinute) → a ≤ b → Rises b past until → Rises a past until
rises-from a b until [] le h = omega (arith, le, h)
rises-from a b until (i ∷ past) le h = let first : b ≤ i.minute = h.0 in (omega (arith, le, first), h.1)

pub rises-later : (a until later : ℕ) (past : List HistoryMinute) → until ≤ later → Rises a past until → Rises a past later
rises-later a until later [] le h = omega (arith, le, h)
rises-later a until later (i ∷ past) le h = (h.0, rises-later (i.minute + 1) until later past le h.1)

pub rises-parts : (a b c : ℕ) (xs ys : List HistoryMinute) → Rises a xs b → Rises b ys c → Rises a (xs ++ ys) c
rises-parts a b c [] ys h k = rises-from a b c ys h k
rises-parts a b c (x ∷ xs) ys h k = (h.0, rises-parts (x.minute + 1) b c xs ys h.1 k)

rises-filter : (p : HistoryMinute → Bool) (a until : ℕ) (past : List HistoryMinute) → Rises a past until → Rises a (filter p past) until
rises-filter p a until [] h = h
rises-filter p a until (i ∷ past) h = go (p i) (rises-filter p (i.minute + 1) until past h.1)
  where
    go : (b : Bool) → Rises (i.minute + 1) (filter p past) until → Rises a (cond b (i ∷ filter p past) (filter p past)) until
    go true rest = (h.0, rest)
    go false rest = let first : a ≤ i.minute = h.0 in rises-from a (i.minute + 1) until (filter p past) (omega (arith, first)) rest

rises-limited : (o : Option ℕ) (a until : ℕ) (past : List HistoryMinute) → Rises a past until → Rises a (limited_to o past) until
rises-limited None a until past h = h
rises-limited (Some k) a until past h = rises-filter (λ i. nat_le i.minute k) a until past h

-- the minutes of a span, from that of its first second on
rises-counted : (start : Start) (told : List ToldSecond) (past : List HistoryMinute) (ds : List Minute) (a n : ℕ) → map (λ (d : Minute). d.minute) ds ≡ count_from a n → Rises a (minutes_after start told past ds) (a + n)
rises-counted start told past [] a n is = omega arith
rises-counted start told past (d ∷ ds) a zero is = absurd (cc)
rises-counted start told past (d ∷ ds) a (suc n) is =
    let first : d.minute ≡ a = cc in
    let rest : map (λ (d : Minute). d.minute) ds ≡ count_from (a + 1) n = cc in
    let more = rises-counted start told (past ++ seated start told past d ∷ []) ds (a + 1) n rest in
    (omega (arith, first), rises-from (d.minute + 1) (a + 1) (a + suc n) (minutes_after start told (past ++ seated start told past d ∷ []) ds) (omega (arith, first)) (rises-later (a + 1) (a + 1 + n) (a + suc n) (minutes_after start told (past ++ seated start told past d ∷ []) ds) (omega arith) more))

pub rises-span : (rule : Rule) (start : Start) (told : List ToldSecond) (past : List HistoryMinute) (span : List ToldSecond) → AreNumbered (first_in span) (seconds_in span) → Rises (first_in span / 60) (span_minutes rule start told past span) (end_in span / 60)
rises-span rule start told past span h =
    let whole = as_span rule span in
    let all = span-settled rule span h in
    let most = ungiven-most whole all in
    let n = counted span in
    rises-later (first_in span / 60) (first_in span / 60 + (ungiven_of whole - first_in span / 60)) (end_in span / 60) (span_minutes rule start told past span) (omega (arith, most, n))
    (rises-counted start told past (decided_of rule span) (first_in span / 60) (ungiven_of whole - first_in span / 60) (decided-minutes whole h all))

-- the minutes of spans that are apart rise from the first number's to the last one's
pub rises-spans : (rule : Rule) (start : Start) (told : List ToldSecond) (limit : List ToldSecond → List (List ToldSecond) → Option ℕ) (past : List HistoryMinute) (from until : ℕ) (spans : List (List ToldSecond)) → AreApart from spans until →
    Rises (from / 60) (history_by rule start limit told past spans) (until / 60)
rises-spans rule start told limit past from until [] h = omega (arith, h)
rises-spans rule start told limit past from until (span ∷ later) h =
    let begins : from ≤ first_in span = h.1 in
    let own = rises-limited (limit span later) (first_in span / 60) (end_in span / 60) (span_minutes rule start told past span) (rises-span rule start told past span h.2) in
    let more : List HistoryMinute = limited_to (limit span later) (span_minutes rule start told past span) in
    rises-parts (from / 60) (end_in span / 60) (until / 60) more (history_by rule start limit told (past ++ more) later)
    (rises-from (from / 60) (first_in span / 60) (end_in span / 60) more (omega (arith, begins)) own)
    (rises-spans rule start told limit (past ++ more) (end_in span) until later h.3)
