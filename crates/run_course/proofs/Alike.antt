-- The history of spans by two limits and by two lists of seconds: where these tell the same of the minutes, it is the same.
use Rattle.std.proofs.Common.{◌≡◌, ◌⊎◌, inl, inr, ℕ, ◌+◌, ◌-◌, ◌/◌, ◌<◌, ◌≤◌, Bool, true, false, cond, suc, zero, Option, Some, None, List, [], ◌∷◌, ◌++◌, length, map, filter, refl, ap, sym, ◌∙◌, arith}
use Rattle.std.specs.Prelude.{option_to_list}
use Rattle.std.specs.List.{AllByRecursion}
use Rattle.minute_model.specs.declared.Rule.{Rule}
use Rattle.minute_model.specs.declared.Rule.TheVariants.{Original, Amended}
use Rattle.minute_model.specs.declared.Minute.{Minute}
use Rattle.minute_model.specs.Second.{minute_of}
use Rattle.minute_model.specs.Activity.{last}
use Rattle.minute_model.specs.Minute.{minutes_ahead}
use Rattle.minute_model.specs.Span.{ungiven_of, latest, count_from, AreNumbered}
use Rattle.minute_model.proofs.Counted.{decided-minutes}
use Rattle.log_model.specs.declared.lines.Break.{Break}
use Rattle.log_model.specs.Log.{RunLog, kept_after}
use Rattle.log_model.specs.Course.{ToldSecond}
use Rattle.log_model.specs.Spans.{seconds_in, first_in, end_in}
use Rattle.history_model.specs.Minutes.{HistoryMinute}
use Rattle.history_model.specs.Presence.{Start}
use Rattle.history_model.specs.History.{minutes_after, settlings_of, decided_of, span_minutes, limited_to, lost_minute, limit_by, cut_second, limit_of, any_long, history_by, lost_by}
use Rattle.history_model.specs.Growth.{as_span, closed_limit}
use Rattle.history_model.proofs.Deciding.{counted, span-settled}
use Rattle.history_model.proofs.Stilled.{minutes-still}
use Rattle.run_unit_course.specs.Lines.{tells_cut}
use Rattle.run_unit_course.specs.Followed.{IsKnown}
use Rattle.run_unit_course.proofs.Alike.{Alike, decided-empty}

-- TWO LISTS OF SECONDS that tell the same of the minutes of spans
abbrev pub Stays : Rule → Start → (told more : List ToldSecond) → List (List ToldSecond) → Type 0
Stays rule start told more spans =
    AllByRecursion (λ (span : List ToldSecond). (past : List HistoryMinute) → span_minutes rule start told past span ≡ span_minutes rule start more past span) spans

pub stays-same : (rule : Rule) (start : Start) (told : List ToldSecond) (spans : List (List ToldSecond)) → Stays rule start told told spans
stays-same rule start told [] = tt
stays-same rule start told (span ∷ spans) = (λ past. refl, stays-same rule start told spans)

pub stays-front : (rule : Rule) (start : Start) (told more : List ToldSecond) (xs ys : List (List ToldSecond)) → Stays rule start told more (xs ++ ys) → Stays rule start told more xs
stays-front rule start told more [] ys h = tt
stays-front rule start told more (x ∷ xs) ys h = (h.0, stays-front rule start told more xs ys h.1)

-- an empty span has no minute
pub empty-minutes : (rule : Rule) (start : Start) (told : List ToldSecond) (past : List HistoryMinute) → span_minutes rule start told past [] ≡ []
empty-minutes rule start told past = ap (minutes_after start told past) (decided-empty rule)

-- THE MINUTES OF A SPAN are earlier than that of its last second
settled-within : (n last : ℕ) (span : List ToldSecond) → AreNumbered n (seconds_in span) → n + length span ≤ last + 1 → AllByRecursion (λ (u : ℕ). u ≤ last) (settlings_of span)
settled-within n last [] h le = tt
settled-within n last (t ∷ span) h le = go t.course.settled (settled-within (n + 1) last span h.1 (omega (arith, le)))
  where
    here : t.second.number ≤ last
    here = let is : t.second.number ≡ n = h.0 in omega (arith, is, le)

    go : (b : Bool) → AllByRecursion (λ (u : ℕ). u ≤ last) (settlings_of span) →
        AllByRecursion (λ (u : ℕ). u ≤ last) (map (λ (t : ToldSecond). t.second.number) (cond b (t ∷ filter (λ (t : ToldSecond). t.course.settled) span) (filter (λ (t : ToldSecond). t.course.settled) span)))
    go true rest = (here, rest)
    go false rest = rest

latest-within : (end : ℕ) (settlings : List ℕ) → AllByRecursion (λ (t : ℕ). t ≤ end) settlings → latest settlings ≤ end
latest-within end [] all = omega arith
latest-within end (t ∷ settlings) all = let rest = latest-within end settlings all.1 in let le : t ≤ end = all.0 in omega (arith, rest, le)

ahead-some : (rule : Rule) → 1 ≤ minutes_ahead rule
ahead-some Original = omega arith
ahead-some Amended = omega arith

counted-below : (a n until : ℕ) (ds : List Minute) → map (λ (d : Minute). d.minute) ds ≡ count_from a n → a + n ≤ until → AllByRecursion (λ (d : Minute). d.minute < until) ds
counted-below a n until [] is le = tt
counted-below a zero until (d ∷ ds) is le = absurd (cc)
counted-below a (suc n) until (d ∷ ds) is le =
    let first : d.minute ≡ a = cc in
    let rest : map (λ (d : Minute). d.minute) ds ≡ count_from (a + 1) n = cc in
    (omega (arith, first, le), counted-below (a + 1) n until ds rest (omega (arith, le)))

pub span-before : (rule : Rule) (t : ToldSecond) (span : List ToldSecond) → AreNumbered (first_in (t ∷ span)) (seconds_in (t ∷ span)) →
    AllByRecursion (λ (d : Minute). d.minute < (end_in (t ∷ span) - 1) / 60) (decided_of rule (t ∷ span))
span-before rule t span h =
    let whole = as_span rule (t ∷ span) in
    let all = span-settled rule (t ∷ span) h in
    let n = counted (t ∷ span) in
    let some = ahead-some rule in
    let late = latest-within (end_in (t ∷ span) - 1) (settlings_of (t ∷ span)) (settled-within (first_in (t ∷ span)) (end_in (t ∷ span) - 1) (t ∷ span) h (omega arith)) in
    counted-below (whole.first / 60) (ungiven_of whole - whole.first / 60) ((end_in (t ∷ span) - 1) / 60) (decided_of rule (t ∷ span)) (decided-minutes whole h all) (omega (arith, n, some, late))

-- SECONDS that differ in their last one alone, or by it: the minutes before its own
before-all : (n m : ℕ) (ds : List Minute) → n ≤ m → AllByRecursion (λ (d : Minute). d.minute < n) ds → AllByRecursion (λ (d : Minute). d.minute < m) ds
before-all n m [] le h = tt
before-all n m (d ∷ ds) le h = let lt : d.minute < n = h.0 in (omega (arith, lt, le), before-all n m ds le h.1)

pub stays-more : (rule : Rule) (start : Start) (told : List ToldSecond) (t : ToldSecond) (n : ℕ) (spans : List (List ToldSecond)) → n ≤ minute_of t.second → AllByRecursion (λ (span : List ToldSecond). AllByRecursion (λ (d : Minute). d.minute < n) (decided_of rule span)) spans →
    Stays rule start told (told ++ t ∷ []) spans
stays-more rule start told t n [] le h = tt
stays-more rule start told t n (span ∷ spans) le h =
    (λ past. sym (minutes-still start told t past (decided_of rule span) (before-all n (minute_of t.second) (decided_of rule span) le h.0)), stays-more rule start told t n spans le h.1)

pub stays-instead : (rule : Rule) (start : Start) (told : List ToldSecond) (t u : ToldSecond) (n : ℕ) (spans : List (List ToldSecond)) → n ≤ minute_of t.second → n ≤ minute_of u.second →
    AllByRecursion (λ (span : List ToldSecond). AllByRecursion (λ (d : Minute). d.minute < n) (decided_of rule span)) spans → Stays rule start (told ++ t ∷ []) (told ++ u ∷ []) spans
stays-instead rule start told t u n [] le more h = tt
stays-instead rule start told t u n (span ∷ spans) le more h = (
  λ past. minutes-still start told t past (decided_of rule span) (before-all n (minute_of t.second) (decided_of rule span) le h.0)
      ∙ sym (minutes-still start told u past (decided_of rule span) (before-all n (minute_of u.second) (decided_of rule span) more h.0)),
  stays-instead rule start told t u n spans le more h.1,
)

-- THE HISTORIES
none-limited : (k : Option ℕ) → limited_to k [] ≡ []
none-limited None = refl
none-limited (Some k) = refl

none-lost : (k : Option ℕ) → lost_minute k [] ≡ None
none-lost None = refl
none-lost (Some k) = refl

module _ (rule : Rule) (start : Start) (told more : List ToldSecond) (f g : List ToldSecond → List (List ToldSecond) → Option ℕ) where
  more-alike : (past : List HistoryMinute) (span : List ToldSecond) (later : List (List ToldSecond)) → span_minutes rule start told past span ≡ span_minutes rule start more past span → (decided_of rule span ≡ []) ⊎ (f span later ≡ g span later) →
      limited_to (f span later) (span_minutes rule start told past span) ≡ limited_to (g span later) (span_minutes rule start more past span)
  more-alike past span later stay (inl none) =
      ap (λ (ds : List Minute). limited_to (f span later) (minutes_after start told past ds)) none ∙ none-limited (f span later)
      ∙ sym (ap (λ (ds : List Minute). limited_to (g span later) (minutes_after start more past ds)) none ∙ none-limited (g span later))
  more-alike past span later stay (inr same) = ap (limited_to (f span later)) stay ∙ ap (λ (o : Option ℕ). limited_to o (span_minutes rule start more past span)) same

  gone-alike : (past : List HistoryMinute) (span : List ToldSecond) (later : List (List ToldSecond)) → span_minutes rule start told past span ≡ span_minutes rule start more past span → (decided_of rule span ≡ []) ⊎ (f span later ≡ g span later) →
      lost_minute (f span later) (span_minutes rule start told past span) ≡ lost_minute (g span later) (span_minutes rule start more past span)
  gone-alike past span later stay (inl none) =
      ap (λ (ds : List Minute). lost_minute (f span later) (minutes_after start told past ds)) none ∙ none-lost (f span later)
      ∙ sym (ap (λ (ds : List Minute). lost_minute (g span later) (minutes_after start more past ds)) none ∙ none-lost (g span later))
  gone-alike past span later stay (inr same) = ap (lost_minute (f span later)) stay ∙ ap (λ (o : Option ℕ). lost_minute o (span_minutes rule start more past span)) same

  pub histories-alike : (past : List HistoryMinute) (spans : List (List ToldSecond)) → Alike rule f g spans → Stays rule start told more spans → history_by rule start f told past spans ≡ history_by rule start g more past spans
  histories-alike past [] same stays = refl
  histories-alike past (span ∷ later) same stays =
      let now : List HistoryMinute = limited_to (g span later) (span_minutes rule start more past span) in
      ap (λ (is : List HistoryMinute). is ++ history_by rule start f told (past ++ is) later) (more-alike past span later (stays.0 past) same.0)
      ∙ ap (λ (is : List HistoryMinute). now ++ is) (histories-alike (past ++ now) later same.1 stays.1)

  pub losses-alike : (past : List HistoryMinute) (spans : List (List ToldSecond)) → Alike rule f g spans → Stays rule start told more spans → lost_by rule start f told past spans ≡ lost_by rule start g more past spans
  losses-alike past [] same stays = refl
  losses-alike past (span ∷ later) same stays =
      let now : List HistoryMinute = limited_to (g span later) (span_minutes rule start more past span) in
      let gone : Option HistoryMinute = lost_minute (f span later) (span_minutes rule start told past span) in
      ap (λ (is : List HistoryMinute). map (λ i. past ++ (is ++ i ∷ [])) (option_to_list gone) ++ lost_by rule start f told (past ++ is) later) (more-alike past span later (stays.0 past) same.0)
      ∙ ap (λ (o : Option HistoryMinute). map (λ i. past ++ (now ++ i ∷ [])) (option_to_list o) ++ lost_by rule start f told (past ++ now) later) (gone-alike past span later (stays.0 past) same.0)
      ∙ ap (λ (ls : List (List HistoryMinute)). map (λ i. past ++ (now ++ i ∷ [])) (option_to_list (lost_minute (g span later) (span_minutes rule start more past span))) ++ ls) (losses-alike (past ++ now) later same.1 stays.1)

-- TWO LOGS that tell the same of what was kept after the cuts that these breaks tell of
module _ (rule : Rule) (found : List Break) (log later_log : RunLog) (same : (u : ℕ) → tells_cut u found ≡ true → kept_after log u ≡ kept_after later_log u) where
  limit-known : (span : List ToldSecond) → IsKnown rule found span → (decided_of rule span ≡ []) ⊎ (limit_by log (cut_second (last span)) ≡ limit_by later_log (cut_second (last span)))
  limit-known span (inl none) = inl none
  limit-known span (inr known) = inr (
      ap (limit_by log) known.1
      ∙ ap (λ (k : ℕ). Some k) (same known.0 known.2)
      ∙ ap (limit_by later_log) (sym known.1))

  pub known-closed : (spans : List (List ToldSecond)) → AllByRecursion (IsKnown rule found) spans → Alike rule (closed_limit log) (closed_limit later_log) spans
  known-closed [] h = tt
  known-closed (span ∷ later) h = (limit-known span h.0, known-closed later h.1)

  opened : (span : List ToldSecond) (b : Bool) → (decided_of rule span ≡ []) ⊎ (limit_by log (cut_second (last span)) ≡ limit_by later_log (cut_second (last span))) →
      (decided_of rule span ≡ []) ⊎ (cond b (limit_by log (cut_second (last span))) None ≡ cond b (limit_by later_log (cut_second (last span))) None)
  opened span b (inl none) = inl none
  opened span b (inr same) = inr (ap (λ (o : Option ℕ). cond b o None) same)

  -- spans, and others behind them
  pub known-parts : (spans behind : List (List ToldSecond)) → AllByRecursion (IsKnown rule found) spans → Alike rule (limit_of log) (limit_of later_log) behind → Alike rule (limit_of log) (limit_of later_log) (spans ++ behind)
  known-parts [] behind h others = others
  known-parts (span ∷ later) behind h others = (opened span (any_long (later ++ behind)) (limit-known span h.0), known-parts later behind h.1 others)

  pub known-open : (spans : List (List ToldSecond)) → AllByRecursion (IsKnown rule found) spans → Alike rule (limit_of log) (limit_of later_log) spans
  known-open [] h = tt
  known-open (span ∷ later) h = (opened span (any_long later) (limit-known span h.0), known-open later h.1)
