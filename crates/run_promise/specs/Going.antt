-- What is accounted of a card's acceptances, over the steps of a run (profile).
use Rattle.std.specs.Prelude.{◌≡◌, ◌⊎◌, ℕ, suc, ◌+◌, ◌-◌, ◌%◌, ◌/◌, ◌<◌, ◌≤◌, true, false, ◌&&◌, Option, None, List, []}
use Rattle.std.specs.Prelude.{◌∷◌, ◌++◌, All, Contains, length, drop, map, filter}
use Rattle.std.specs.List.{AllByRecursion}
use Rattle.run_course.specs.trace_model.declared.Card.{Card}
use Rattle.run_course.specs.trace_model.declared.Action.{Action}
use Rattle.run_course.specs.trace_model.Trace.{TraceSecond, driven, dark}
use Rattle.run_course.specs.minute_model.Span.{ungiven_of}
use Rattle.run_course.specs.log_model.declared.lines.Break.{Break}
use Rattle.run_course.specs.log_model.declared.lines.Refused.{Refused}
use Rattle.run_course.specs.log_model.Log.{RunLog, cut_in, is_accepting}
use Rattle.run_course.specs.log_model.Slots.{same_card}
use Rattle.run_course.specs.log_model.Causes.{is_cut, second_of}
use Rattle.run_course.specs.log_model.Course.{ToldSecond}
use Rattle.run_course.specs.history_model.Minutes.{HistoryMinute}
use Rattle.run_course.specs.history_model.Book.{Book, all, found, IsMark}
use Rattle.unit_rule.specs.run_unit_course.Lines.{cut_at, found_from}
use Rattle.unit_rule.specs.run_unit_course.Followed.{Lit, Due, Lost, MayPower, MayFail, IsDark}
use Rattle.unit_rule.specs.run_unit_course.Turn.{span_at}
use Rattle.run_course.specs.Moments.{and_break}
use Rattle.run_course.specs.Followed.{Progress, BookFollowsRun}
use Rattle.run_course.specs.Seconds.{GoesOnBy, next_told, DecidedBy, kept_all, broken_at}
use Rattle.unit_rule.specs.safety_model.Recording.{Recording, start_of}
use Rattle.unit_rule.specs.safety_model.Cards.{acceptances}
use Rattle.run_promise.specs.Accounts.{so_far, IsAccount, HasAccounts}

-- the acceptances of a card in a second
abbrev pub acceptances_in : Card → ToldSecond → List ℕ
acceptances_in c t = map (λ f. t.second.number) (filter (λ f. same_card c f.0.card && is_accepting f.1) t.course.found)

-- a break is no cut, or one that is not earlier than a second
abbrev pub IsCutFrom : ℕ → Break → Type 0
IsCutFrom u b = is_cut b ≡ true → u ≤ second_of b

-- AN ACCOUNT while the run goes on: it is of a second that has gone, no minute that is decided later is earlier than
-- that second's, and no earlier cut waits for what is found; and of the minutes of the book those that are earlier than
-- the second's are not later than what the unit had kept.
pub record AccountGoesOn (r : Recording) (c : Card) (first : ℕ) (done : List TraceSecond) (p : Progress)
    (u k : ℕ) : Type 0 where
  pub account : IsAccount (so_far r done p.log) c first p.book u k
  pub before : u < p.next
  pub due : (span : List ToldSecond) → p.supply ≡ Lit span → u / 60 ≤ ungiven_of (span_at r.rule p.next span)
  pub cuts : AllByRecursion (IsCutFrom u) (drop p.unfound p.log.breaks)
  pub later : All (λ i. (i.minute ≤ k) ⊎ (u / 60 ≤ i.minute)) (all p.book)

-- each acceptance so far has one; and while there is power no cut waits for what is found
pub record AreAccounted (r : Recording) (c : Card) (first : ℕ) (done : List TraceSecond) (p : Progress)
    (ks : List ℕ) : Type 0 where
  pub each : (u : ℕ) → Contains (acceptances (so_far r done p.log) c) u
      → (k : ℕ) × Contains ks k × AccountGoesOn r c first done p u k
  pub waits : (span : List ToldSecond) → p.supply ≡ Lit span
      → AllByRecursion (λ (b : Break). is_cut b ≡ false) (drop p.unfound p.log.breaks)

-- AN ACCEPTANCE in a second: the unit had kept this minute last, and none of those before the second and of those that
-- it decides is later.
pub record IsTakenAt (first : ℕ) (old later : Book) (new : List HistoryMinute) (k : ℕ) : Type 0 where
  pub mark : IsMark first later.sure k
  pub newest : All (λ i. i.minute ≤ k) (old.sure ++ new)

-- behind a second with power: the span goes on with it, or it is a cut's; some of what it decided is sure, and no more
-- is in the book
pub record IsBehind (p q : Progress) (later : RunLog) (span : List ToldSecond) (s : TraceSecond) (t : ToldSecond)
    (new : List HistoryMinute) : Type 0 where
  pub log : q.log ≡ later
  pub unfound : q.unfound ≡ p.unfound
  pub next : q.next ≡ suc p.next
  pub supply : ((q.supply ≡ Lit (span ++ t ∷ [])) × (cut_in later s.number ≡ None)) ⊎ (q.supply ≡ Lost)
  pub sure : (front : List HistoryMinute) × (q.book.sure ≡ p.book.sure ++ front)
  pub books : (i : HistoryMinute) → Contains (all q.book) i → Contains (all p.book) i ⊎ Contains new i

-- ONE SECOND MORE with power, whole or a cut's
abbrev pub ASecondIsAccounted : Type 0
ASecondIsAccounted = (r : Recording) (c : Card) (from first : ℕ) (done : List TraceSecond) (p : Progress)
    → BookFollowsRun r.rule (start_of r) from first done p →
    (span : List ToldSecond) → p.supply ≡ Lit span → p.waiting ≡ [] → (s : TraceSecond) (later : RunLog)
    → GoesOnBy p later s →
    (new : List HistoryMinute) → DecidedBy r.rule (start_of r) later done s span p.book new →
    (q : Progress) → IsBehind p q later span s (next_told later done s) new →
    (ks more : List ℕ) → ((k : ℕ) → Contains ks k → Contains more k) →
    (acceptances_in c (next_told later done s) ≡ []) ⊎ ((k : ℕ) × Contains more k × IsTakenAt first p.book q.book new k)
    →
    AreAccounted r c first done p ks → AreAccounted r c first (done ++ s ∷ []) q more

-- WHAT IS SURE behind a second: what was so before it, and the minutes that it kept
abbrev pub KeptMinutesAreSure : Type 0
KeptMinutesAreSure = (front : List HistoryMinute) (i : Option HistoryMinute) (b : Book)
    → (broken_at i (kept_all front b)).sure ≡ b.sure ++ front

-- A POWER-ON finds what was kept,
abbrev pub FoundStaysAccounted : Type 0
FoundStaysAccounted = (r : Recording) (c : Card) (from first : ℕ) (done : List TraceSecond) (p : Progress)
    → BookFollowsRun r.rule (start_of r) from first done p →
    MayPower p.supply p.next → (k : ℕ) → IsMark first (all p.book) k → All (λ i. i.minute ≤ k) p.book.sure
    → (ks : List ℕ) → AreAccounted r c first done p ks →
    AreAccounted r c first done (record p {
      log = record p.log { breaks = found_from p.unfound k p.log.breaks };
      unfound = length (found_from p.unfound k p.log.breaks);
      supply = Lit [];
      book = found k p.book;
      waiting = [];
    }) ks

-- or fails, before a card is accepted.
abbrev pub AFailureStaysAccounted : Type 0
AFailureStaysAccounted = (r : Recording) (c : Card) (from first : ℕ) (done : List TraceSecond) (p : Progress)
    → BookFollowsRun r.rule (start_of r) from first done p →
    MayFail p.supply p.next → p.waiting ≡ [] → (s : TraceSecond) (later : RunLog) → GoesOnBy p later s → (begun : ℕ)
    → acceptances_in c (next_told later done s) ≡ [] →
    (ks : List ℕ) → AreAccounted r c first done p ks →
    AreAccounted r c first (done ++ s ∷ [])
    (record {
      log = later;
      unfound = p.unfound;
      next = suc p.next;
      begun = begun;
      supply = Lost;
      book = p.book;
      waiting = [];
    }) ks

-- DARK SECONDS up to a minute's end,
abbrev pub ADarkMinuteStaysAccounted : Type 0
ADarkMinuteStaysAccounted = (r : Recording) (c : Card) (from first : ℕ) (done : List TraceSecond) (p : Progress)
    → BookFollowsRun r.rule (start_of r) from first done p →
    p.supply ≡ Lost → (n speed : ℕ) (actions : List Action) (refused : List Refused) (begun : ℕ) → 0 < p.next % 60
    → p.next % 60 + n ≤ 60 → (ks : List ℕ) → AreAccounted r c first done p ks →
    AreAccounted r c first (done ++ driven n p.next speed actions)
    (record p { log = record p.log { refused = refused }; next = p.next + n; begun = begun }) ks

-- of an `off` line while there is no power,
abbrev pub AnOffLineStaysAccounted : Type 0
AnOffLineStaysAccounted = (r : Recording) (c : Card) (from first : ℕ) (done : List TraceSecond) (p : Progress)
    → BookFollowsRun r.rule (start_of r) from first done p →
    IsDark p.supply → (n : ℕ) (ks : List ℕ) → AreAccounted r c first done p ks →
    AreAccounted r c first (done ++ dark (suc n) p.next) (record p { next = p.next + suc n; begun = 0; supply = Due })
    ks

-- and while there is.
abbrev pub AnOffCutStaysAccounted : Type 0
AnOffCutStaysAccounted = (r : Recording) (c : Card) (from first : ℕ) (done : List TraceSecond) (p : Progress)
    → BookFollowsRun r.rule (start_of r) from first done p →
    (t : ToldSecond) (span : List ToldSecond) → p.supply ≡ Lit (t ∷ span) → p.waiting ≡ [] → (n : ℕ) (ks : List ℕ)
    → AreAccounted r c first done p ks →
    AreAccounted r c first (done ++ dark (suc n) p.next)
    (record p {
      log = and_break p.log (cut_at (p.next - 1) false p.begun);
      next = p.next
          + suc n;
      begun = 0;
      supply = Due;
    }) ks

-- AT THE START there is none,
abbrev pub NothingIsAccountedYet : Type 0
NothingIsAccountedYet = (r : Recording) (c : Card) (first : ℕ) (p : Progress) → p.supply ≡ Due
    → AreAccounted r c first [] p []

-- and at the end all have theirs.
abbrev pub TheEndIsAccounted : Type 0
TheEndIsAccounted = (r : Recording) (c : Card) (first : ℕ) (p : Progress) (ks : List ℕ) → p.log ≡ r.log
    → AreAccounted r c first r.trace p ks → HasAccounts r c first p.book ks
