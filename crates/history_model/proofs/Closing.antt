-- The history of spans, and of spans behind them; the limits of their cuts.
use Rattle.std.proofs.Common.{◌≡◌, ℕ, ◌<◌, ◌≤◌, Bool, true, false, cond, ◌||◌, Option, Some, None, List, [], ◌∷◌, ◌++◌, length, map, refl, ap, sym, ◌∙◌, arith, nat_lt, append_assoc, append-nil}
use Rattle.std.specs.Prelude.{option_to_list}
use Rattle.std.specs.List.{AllByRecursion}
use Rattle.std.proofs.lemmas.Bool.Decides.{nat_tests}
use Rattle.std.proofs.lemmas.List.Folds.{list_any-append}
use Rattle.log_model.specs.minute_model.declared.Rule.{Rule}
use Rattle.log_model.specs.minute_model.declared.Minute.{Minute}
use Rattle.log_model.specs.minute_model.Activity.{last}
use Rattle.log_model.specs.Log.{RunLog}
use Rattle.log_model.specs.Course.{ToldSecond}
use Rattle.log_model.specs.Spans.{end_in, AreApart}
use Rattle.history_model.specs.Minutes.{HistoryMinute}
use Rattle.history_model.specs.Presence.{Start}
use Rattle.history_model.specs.History.{seated, minutes_after, decided_of, span_minutes, limited_to, lost_minute, limit_by, cut_second, limit_of, any_long, history_by, lost_by}
use Rattle.history_model.specs.Growth.{closed_limit, SameLimits}
use Rattle.history_model.proofs.Deciding.{short-none}

-- two limits are the same at these spans
abbrev pub Agree : (List ToldSecond → List (List ToldSecond) → Option ℕ) → (List ToldSecond → List (List ToldSecond) → Option ℕ) → List (List ToldSecond) → Type 0
Agree f g [] = Unit {0}
Agree f g (span ∷ later) = (f span later ≡ g span later) × Agree f g later

pub agree-all : (f g : List ToldSecond → List (List ToldSecond) → Option ℕ) → ((span : List ToldSecond) (later : List (List ToldSecond)) → f span later ≡ g span later) → (spans : List (List ToldSecond)) → Agree f g spans
agree-all f g same [] = tt
agree-all f g same (span ∷ later) = (same span later, agree-all f g same later)

-- SOME SPAN HAS TWO SECONDS
either : (b : Bool) → (b || true) ≡ true
either true = refl
either false = refl

neither : (b : Bool) → (b || false) ≡ b
neither true = refl
neither false = refl

long-behind : (later behind : List (List ToldSecond)) → any_long behind ≡ true → any_long (later ++ behind) ≡ true
long-behind later behind long = list_any-append (λ (s : List ToldSecond). nat_lt 1 (length s)) later behind ∙ ap (λ (b : Bool). any_long later || b) long ∙ either (any_long later)

short-behind : (later behind : List (List ToldSecond)) → any_long behind ≡ false → any_long (later ++ behind) ≡ any_long later
short-behind later behind short = list_any-append (λ (s : List ToldSecond). nat_lt 1 (length s)) later behind ∙ ap (λ (b : Bool). any_long later || b) short ∙ neither (any_long later)

-- a later span has two seconds: each cut has its limit
pub agree-closed : (log : RunLog) (behind : List (List ToldSecond)) → any_long behind ≡ true → (spans : List (List ToldSecond)) → Agree (λ span later. limit_of log span (later ++ behind)) (closed_limit log) spans
agree-closed log behind long spans =
    agree-all (λ span later. limit_of log span (later ++ behind)) (closed_limit log)
    (λ span later. ap (λ (b : Bool). cond b (limit_by log (cut_second (last span))) None) (long-behind later behind long)) spans

-- the spans behind have one second each: they change no limit
pub agree-open : (log : RunLog) (behind : List (List ToldSecond)) → any_long behind ≡ false → (spans : List (List ToldSecond)) → Agree (λ span later. limit_of log span (later ++ behind)) (limit_of log) spans
agree-open log behind short spans =
    agree-all (λ span later. limit_of log span (later ++ behind)) (limit_of log)
    (λ span later. ap (λ (b : Bool). cond b (limit_by log (cut_second (last span))) None) (short-behind later behind short)) spans

-- what is told later of cuts that have no limit yet changes none
pub agree-log : (log later : RunLog) (spans : List (List ToldSecond)) → SameLimits log later spans → Agree (limit_of later) (limit_of log) spans
agree-log log later [] same = tt
agree-log log later (span ∷ spans) same = (go (any_long spans) same.0, agree-log log later spans same.1)
  where
    go : (b : Bool) → (b ≡ true → closed_limit later span spans ≡ closed_limit log span spans) → cond b (limit_by later (cut_second (last span))) None ≡ cond b (limit_by log (cut_second (last span))) None
    go true same = same refl
    go false same = refl

-- spans of one second decide nothing
pub shorts-none : (rule : Rule) (from until : ℕ) (spans : List (List ToldSecond)) → AreApart from spans until → any_long spans ≡ false → AllByRecursion (λ (span : List ToldSecond). decided_of rule span ≡ []) spans
shorts-none rule from until [] h short = tt
shorts-none rule from until (span ∷ spans) h short =
    (one span h.0 (first (nat_lt 1 (length span)) (any_long spans) short), shorts-none rule (end_in span) until spans h.3 (second (nat_lt 1 (length span)) (any_long spans) short))
  where
    first : (a b : Bool) → (a || b) ≡ false → a ≡ false
    first true b is = is
    first false b is = refl

    second : (a b : Bool) → (a || b) ≡ false → b ≡ false
    second true true is = is
    second true false is = refl
    second false b is = is

    one : (span : List ToldSecond) → 0 < length span → nat_lt 1 (length span) ≡ false → decided_of rule span ≡ []
    one [] some is = absurd (omega (arith, some))
    one (t ∷ []) some is = short-none rule t
    one (t ∷ u ∷ rest) some is = absurd (let le : length (t ∷ u ∷ rest) ≤ 1 = grind (arith, nat_tests) in omega (arith, le))

module _ (rule : Rule) (start : Start) (told : List ToldSecond) where
  -- what a span adds with a limit, and what it lost
  abbrev adding : Option ℕ → List HistoryMinute → List ToldSecond → List HistoryMinute
  adding k past span = limited_to k (span_minutes rule start told past span)

  abbrev losing : Option ℕ → List HistoryMinute → List ToldSecond → List (List HistoryMinute)
  losing k past span = map (λ i. past ++ (adding k past span ++ i ∷ [])) (option_to_list (lost_minute k (span_minutes rule start told past span)))

  pub history-same : (f g : List ToldSecond → List (List ToldSecond) → Option ℕ) (past : List HistoryMinute) (spans : List (List ToldSecond)) → Agree f g spans → history_by rule start f told past spans ≡ history_by rule start g told past spans
  history-same f g past [] same = refl
  history-same f g past (span ∷ later) same =
      ap (λ (k : Option ℕ). adding k past span ++ history_by rule start f told (past ++ adding k past span) later) same.0
      ∙ ap (λ (is : List HistoryMinute). adding (g span later) past span ++ is) (history-same f g (past ++ adding (g span later) past span) later same.1)

  pub lost-same : (f g : List ToldSecond → List (List ToldSecond) → Option ℕ) (past : List HistoryMinute) (spans : List (List ToldSecond)) → Agree f g spans → lost_by rule start f told past spans ≡ lost_by rule start g told past spans
  lost-same f g past [] same = refl
  lost-same f g past (span ∷ later) same =
      ap (λ (k : Option ℕ). losing k past span ++ lost_by rule start f told (past ++ adding k past span) later) same.0
      ∙ ap (λ (ls : List (List HistoryMinute)). losing (g span later) past span ++ ls) (lost-same f g (past ++ adding (g span later) past span) later same.1)

  -- SPANS, AND THOSE BEHIND THEM
  pub history-parts : (f g : List ToldSecond → List (List ToldSecond) → Option ℕ) (past : List HistoryMinute) (spans behind : List (List ToldSecond)) → Agree (λ span later. f span (later ++ behind)) g spans →
      history_by rule start f told past (spans ++ behind) ≡ history_by rule start g told past spans ++ history_by rule start f told (past ++ history_by rule start g told past spans) behind
  history-parts f g past [] behind same = ap (λ (is : List HistoryMinute). history_by rule start f told is behind) (sym (append-nil past))
  history-parts f g past (span ∷ later) behind same =
      let more : List HistoryMinute = adding (g span later) past span in
      let rest : List HistoryMinute = history_by rule start g told (past ++ more) later in
      ap (λ (k : Option ℕ). adding k past span ++ history_by rule start f told (past ++ adding k past span) (later ++ behind)) same.0
      ∙ ap (λ (is : List HistoryMinute). more ++ is) (history-parts f g (past ++ more) later behind same.1)
      ∙ sym (append_assoc more rest (history_by rule start f told ((past ++ more) ++ rest) behind))
      ∙ ap (λ (is : List HistoryMinute). (more ++ rest) ++ history_by rule start f told is behind) (append_assoc past more rest)

  pub lost-parts : (f g : List ToldSecond → List (List ToldSecond) → Option ℕ) (past : List HistoryMinute) (spans behind : List (List ToldSecond)) → Agree (λ span later. f span (later ++ behind)) g spans →
      lost_by rule start f told past (spans ++ behind) ≡ lost_by rule start g told past spans ++ lost_by rule start f told (past ++ history_by rule start g told past spans) behind
  lost-parts f g past [] behind same = ap (λ (is : List HistoryMinute). lost_by rule start f told is behind) (sym (append-nil past))
  lost-parts f g past (span ∷ later) behind same =
      let more : List HistoryMinute = adding (g span later) past span in
      let lost : List (List HistoryMinute) = losing (g span later) past span in
      let rest : List HistoryMinute = history_by rule start g told (past ++ more) later in
      let others : List (List HistoryMinute) = lost_by rule start g told (past ++ more) later in
      ap (λ (k : Option ℕ). losing k past span ++ lost_by rule start f told (past ++ adding k past span) (later ++ behind)) same.0
      ∙ ap (λ (ls : List (List HistoryMinute)). lost ++ ls) (lost-parts f g (past ++ more) later behind same.1)
      ∙ sym (append_assoc lost others (lost_by rule start f told ((past ++ more) ++ rest) behind))
      ∙ ap (λ (is : List HistoryMinute). (lost ++ others) ++ lost_by rule start f told is behind) (append_assoc past more rest)

  -- spans that decide nothing add nothing
  pub history-none : (f : List ToldSecond → List (List ToldSecond) → Option ℕ) (past : List HistoryMinute) (spans : List (List ToldSecond)) → AllByRecursion (λ (span : List ToldSecond). decided_of rule span ≡ []) spans → history_by rule start f told past spans ≡ []
  history-none f past [] none = refl
  history-none f past (span ∷ later) none =
      ap (λ (ds : List Minute). limited_to (f span later) (minutes_after start told past ds) ++ history_by rule start f told (past ++ limited_to (f span later) (minutes_after start told past ds)) later) none.0 ∙ go (f span later) (history-none f (past ++ []) later none.1)
    where
      go : (k : Option ℕ) → history_by rule start f told (past ++ []) later ≡ [] → limited_to k [] ++ history_by rule start f told (past ++ limited_to k []) later ≡ []
      go None rest = rest
      go (Some k) rest = rest

  pub lost-none : (f : List ToldSecond → List (List ToldSecond) → Option ℕ) (past : List HistoryMinute) (spans : List (List ToldSecond)) → AllByRecursion (λ (span : List ToldSecond). decided_of rule span ≡ []) spans → lost_by rule start f told past spans ≡ []
  lost-none f past [] none = refl
  lost-none f past (span ∷ later) none =
      ap (λ (ds : List Minute). map (λ i. past ++ (limited_to (f span later) (minutes_after start told past ds) ++ i ∷ [])) (option_to_list (lost_minute (f span later) (minutes_after start told past ds))) ++ lost_by rule start f told (past ++ limited_to (f span later) (minutes_after start told past ds)) later) none.0 ∙ go (f span later) (lost-none f (past ++ []) later none.1)
    where
      go : (k : Option ℕ) → lost_by rule start f told (past ++ []) later ≡ [] → map (λ i. past ++ (limited_to k [] ++ i ∷ [])) (option_to_list (lost_minute k [])) ++ lost_by rule start f told (past ++ limited_to k []) later ≡ []
      go None rest = rest
      go (Some k) rest = rest

  -- THE NEWEST SPAN has two seconds: all cuts before it have their limits
  pub history-long : (log : RunLog) (spans : List (List ToldSecond)) (s : List ToldSecond) → any_long (s ∷ []) ≡ true →
      history_by rule start (limit_of log) told [] (spans ++ s ∷ []) ≡ history_by rule start (closed_limit log) told [] spans ++ span_minutes rule start told (history_by rule start (closed_limit log) told [] spans) s
  history-long log spans s long =
      history-parts (limit_of log) (closed_limit log) [] spans (s ∷ []) (agree-closed log (s ∷ []) long spans)
      ∙ ap (λ (is : List HistoryMinute). history_by rule start (closed_limit log) told [] spans ++ is) (append-nil (span_minutes rule start told (history_by rule start (closed_limit log) told [] spans) s))

  pub lost-long : (log : RunLog) (spans : List (List ToldSecond)) (s : List ToldSecond) → any_long (s ∷ []) ≡ true → lost_by rule start (limit_of log) told [] (spans ++ s ∷ []) ≡ lost_by rule start (closed_limit log) told [] spans
  lost-long log spans s long =
      lost-parts (limit_of log) (closed_limit log) [] spans (s ∷ []) (agree-closed log (s ∷ []) long spans)
      ∙ append-nil (lost_by rule start (closed_limit log) told [] spans)

  -- spans behind of one second each: nothing changes
  pub history-short : (log : RunLog) (spans behind : List (List ToldSecond)) → any_long behind ≡ false → AllByRecursion (λ (span : List ToldSecond). decided_of rule span ≡ []) behind →
      history_by rule start (limit_of log) told [] (spans ++ behind) ≡ history_by rule start (limit_of log) told [] spans
  history-short log spans behind short none =
      history-parts (limit_of log) (limit_of log) [] spans behind (agree-open log behind short spans)
      ∙ ap (λ (is : List HistoryMinute). history_by rule start (limit_of log) told [] spans ++ is) (history-none (limit_of log) (history_by rule start (limit_of log) told [] spans) behind none)
      ∙ append-nil (history_by rule start (limit_of log) told [] spans)

  pub lost-short : (log : RunLog) (spans behind : List (List ToldSecond)) → any_long behind ≡ false → AllByRecursion (λ (span : List ToldSecond). decided_of rule span ≡ []) behind →
      lost_by rule start (limit_of log) told [] (spans ++ behind) ≡ lost_by rule start (limit_of log) told [] spans
  lost-short log spans behind short none =
      lost-parts (limit_of log) (limit_of log) [] spans behind (agree-open log behind short spans)
      ∙ ap (λ (ls : List (List HistoryMinute)). lost_by rule start (limit_of log) told [] spans ++ ls) (lost-none (limit_of log) (history_by rule start (limit_of log) told [] spans) behind none)
      ∙ append-nil (lost_by rule start (limit_of log) told [] spans)

  -- decided minutes, and those behind them
  pub minutes-parts : (past : List HistoryMinute) (ds es : List Minute) → minutes_after start told past (ds ++ es) ≡ minutes_after start told past ds ++ minutes_after start told (past ++ minutes_after start told past ds) es
  minutes-parts past [] es = ap (λ (is : List HistoryMinute). minutes_after start told is es) (sym (append-nil past))
  minutes-parts past (d ∷ ds) es =
      let i : HistoryMinute = seated start told past d in
      let rest : List HistoryMinute = minutes_after start told (past ++ i ∷ []) ds in
      ap (λ (is : List HistoryMinute). i ∷ is) (minutes-parts (past ++ i ∷ []) ds es)
      ∙ ap (λ (is : List HistoryMinute). i ∷ (rest ++ minutes_after start told is es)) (append_assoc past (i ∷ []) rest)
