-- What each acceptance of a card brought, told as the run goes on (profile): by the minute that the unit had kept last
-- at that time.
use Rattle.std.specs.Prelude.{◌≡◌, ℕ, ◌≤◌, true, List, All, Contains}
use Rattle.std.specs.List.{list_any}
use Rattle.run_course.specs.trace_model.declared.Card.{Card}
use Rattle.run_course.specs.trace_model.Trace.{TraceSecond}
use Rattle.run_course.specs.log_model.Log.{RunLog}
use Rattle.run_course.specs.history_model.Minutes.{HistoryMinute}
use Rattle.run_course.specs.history_model.Book.{Book, IsMark}
use Rattle.unit_rule.specs.safety_model.Recording.{Recording, history_of}
use Rattle.unit_rule.specs.safety_model.Cards.{shows_lost, acceptances, was_kept}

-- the run so far: these seconds of it, and what its log tells so far
abbrev pub so_far : Recording → List TraceSecond → RunLog → Recording
so_far r done log = record {
  rule = r.rule;
  unit = r.unit;
  card_a = r.card_a;
  card_b = r.card_b;
  trace = done;
  log = log;
  stops = r.stops;
}

-- AN ACCEPTANCE in a second, when this was the unit's last-kept minute: that is the one at the start or a sure one, and
-- each minute of the history that the unit had kept by then is not later.
pub record IsAccount (r : Recording) (c : Card) (first : ℕ) (b : Book) (second k : ℕ) : Type 0 where
  pub mark : IsMark first b.sure k
  pub kept : All (λ i. was_kept r c second i.minute ≡ true → i.minute ≤ k) (history_of r)

-- each acceptance so far has its last-kept minute among these
abbrev pub HasAccounts : Recording → Card → (first : ℕ) → Book → List ℕ → Type 0
HasAccounts r c first b ks = (u : ℕ) → Contains (acceptances r c) u
    → (k : ℕ) × Contains ks k × IsAccount r c first b u k

-- the log shows of a minute that it was lost before a second, and each later one
abbrev pub IsShownLost : RunLog → (second : ℕ) → HistoryMinute → Type 0
IsShownLost log second i = (u : ℕ) → second ≤ u → list_any (shows_lost u i.minute) log.breaks ≡ true
