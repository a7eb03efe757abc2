-- A run as it is told: the images at its start, its trace, and its log (profile).
use Rattle.std.specs.Prelude.{◌≡◌, ◌⊎◌, ℕ, Option, Some, None, List, [], ◌∷◌, ◌++◌, Contains}
use Rattle.device_rule.specs.activity_codec.declared.entries.Entry.{Entry}
use Rattle.device_rule.specs.trace_model.declared.Card.{Card}
use Rattle.device_rule.specs.trace_model.declared.Card.TheVariants.{A, B}
use Rattle.device_rule.specs.trace_model.Trace.{TraceSecond}
use Rattle.device_rule.specs.minute_model.declared.Rule.{Rule}
use Rattle.device_rule.specs.log_model.declared.lines.Refused.{Refused}
use Rattle.device_rule.specs.log_model.Log.{RunLog}
use Rattle.device_rule.specs.log_model.Course.{ToldSecond, went}
use Rattle.device_rule.specs.history_model.Minutes.{HistoryMinute}
use Rattle.device_rule.specs.history_model.Presence.{Start, CardStart, expected_entries}
use Rattle.device_rule.specs.history_model.History.{unit_history, with_lost}
use Rattle.device_rule.specs.Own.{own_view, own_number}
use Rattle.device_rule.specs.Views.{UnitView, unit_view, owed, beyond}

-- a run: the rule of minutes, the images that a read gives at the end of the opening, the seconds of the trace, the
-- log, and the refusals of sessions, which stand beside it
pub record Recording : Type 0 where
  pub rule : Rule
  pub unit : List ℕ
  pub card_a : List ℕ
  pub card_b : List ℕ
  pub trace : List TraceSecond
  pub log : RunLog
  pub stops : List Refused

-- the image of a card at the start
abbrev pub card_image : Recording → Card → List ℕ
card_image r A = r.card_a
card_image r B = r.card_b

-- how the seconds of a run went
abbrev pub told_of : Recording → List ToldSecond
told_of r = (went r.log r.trace).told

module _ (r : Recording) where
  -- a unit's image as the run sees it
  abbrev pub unit_seen : List ℕ → UnitView
  unit_seen x = unit_view (own_number r.card_a) (own_number r.card_b) x

  -- what a card brings to the run
  abbrev pub brought : Card → CardStart
  brought c = record {
    entries = (own_view (card_image r c)).held.entries;
    owed = owed c (unit_seen r.unit) (own_view (card_image r c));
    mark = (own_view (card_image r c)).mark;
    word = beyond (own_view (card_image r c));
  }

  -- what both cards bring to it
  abbrev pub start_of : Start
  start_of = record { card_a = brought A; card_b = brought B }

  -- the unit history of the run
  abbrev pub history_of : List HistoryMinute
  history_of = unit_history r.rule start_of r.log (told_of r)

  -- the histories of the run with a lost minute
  abbrev pub lost_of : List (List HistoryMinute)
  lost_of = with_lost r.rule start_of r.log (told_of r)

  -- the expected entries of a card
  abbrev pub expected_of : Card → List Entry
  expected_of c = expected_entries start_of c history_of

-- a device may have stood after these minutes: some of the history from its front, or a history with a lost minute
abbrev pub IsPassed : (past : List HistoryMinute) → (lost : List (List HistoryMinute)) → List HistoryMinute → Type 0
IsPassed past lost some = ((rest : List HistoryMinute) × (past ≡ some ++ rest)) ⊎ Contains lost some

-- the minute that comes next after these, in the history or as a lost one; or none
abbrev pub MayCome : (past : List HistoryMinute) → (lost : List (List HistoryMinute)) → List HistoryMinute →
    Option HistoryMinute → Type 0
MayCome past lost some None = Unit {0}
MayCome past lost some (Some i) = IsPassed past lost (some ++ i ∷ [])
