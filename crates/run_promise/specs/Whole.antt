-- What is there after a run in which no failed call cut the power: every minute (profile).
use Rattle.std.specs.Prelude.{◌≡◌, ◌⊎◌, ℕ, ◌+◌, ◌*◌, ◌≤◌, true, false, List, [], All, Contains, filter}
use Rattle.run_course.specs.trace_model.declared.Card.{Card}
use Rattle.run_course.specs.log_model.Log.{RunLog}
use Rattle.run_course.specs.log_model.Course.{ToldSecond, Visit}
use Rattle.run_course.specs.log_model.Spans.{spans_of}
use Rattle.run_course.specs.log_model.Slots.{same_card}
use Rattle.run_course.specs.log_model.Causes.{cuts, tears, cards_torn}
use Rattle.run_course.specs.history_model.History.{settlings_of}
use Rattle.run_course.specs.history_model.Completeness.{deciding_of}
use Rattle.unit_rule.specs.unit_model.Image.{recorded}
use Rattle.unit_rule.specs.card_image.Own.{IsOwnValid}
use Rattle.unit_rule.specs.safety_model.Recording.{Recording, card_image, told_of, history_of}
use Rattle.unit_rule.specs.safety_model.Unit.{HasEachDecided, IsFilled}
use Rattle.unit_rule.specs.safety_model.Cards.{CardShows, acceptances, was_kept}
use Rattle.unit_rule.specs.safety_model.Safe.{Devices, card_of}

-- no call failed, by the log: each cut is that of an `off` line, each tear that of a `tear` line
abbrev pub NothingFailed : RunLog → Type 0
NothingFailed log = (cuts true log ≡ []) × (tears true log ≡ [])

-- no failed call has torn a card out, by the log: none has torn out any, or of those that it tells of none is this one
abbrev pub IsUntorn : Recording → Card → Type 0
IsUntorn r c = (tears true r.log ≡ []) ⊎ (filter (same_card c) (cards_torn (told_of r)) ≡ [])

-- a `tear` line pulled the card out behind a minute's end, and no later than in the second that decided the minute
pub record IsPulledBehind (r : Recording) (c : Card) (m : ℕ) : Type 0 where
  pub span : List ToldSecond
  pub among : Contains (spans_of (told_of r)) span
  pub t : ToldSecond
  pub there : Contains (told_of r) t
  pub behind : 60 * (m + 1) ≤ t.second.number
  pub before : t.second.number ≤ deciding_of r.rule (settlings_of span) m
  pub pulled : (v : Visit) × (v.card ≡ c) × Contains t.course.pulled v

-- An image shows all expected entries of a card but such ones, retained; and of those that are missing the unit had
-- kept none when the card was accepted.
pub record IsFull (r : Recording) (c : Card) (x : List ℕ) : Type 0 where
  pub shows : CardShows r c x
  pub missing : All (λ e. IsPulledBehind r c e.minute) shows.rest
  pub brought : (u : ℕ) → Contains (acceptances r c) u → All (λ e. was_kept r c u e.minute ≡ false) shows.rest

-- EVERY MINUTE IS THERE: each decided minute stands in the history; each image of the unit at the end has the whole
-- history; and each image of a card that no failed call has torn out, that was valid and was accepted, all of its
-- entries, whatever is told of the other card.
pub record IsWhole (r : Recording) (now : Devices) : Type 0 where
  pub decided : HasEachDecided r.rule (told_of r) (history_of r)
  pub unit : (x : List ℕ) → now.unit.may_leave x → IsFilled (recorded r.unit) (history_of r) x
  pub card : (c : Card) (u : ℕ) → IsUntorn r c → IsOwnValid (card_image r c) → Contains (acceptances r c) u
      → (x : List ℕ) → (card_of now c).may_leave x → IsFull r c x
