-- What is acknowledged: each decided minute, and each entry of a card, but where a call failed or a card was torn out
-- (profile).
use Rattle.std.specs.Prelude.{◌≡◌, ◌⊎◌, ℕ, ◌+◌, ◌*◌, ◌-◌, ◌≤◌, true, List, Contains, map, nat_eq, if◌then◌else◌}
use Rattle.log_model.specs.activity_codec.declared.entries.Entry.{Entry}
use Rattle.log_model.specs.trace_model.declared.Card.{Card}
use Rattle.log_model.specs.run_model.declared.Device.{Device}
use Rattle.log_model.specs.run_model.declared.Device.TheVariants.{Unit as Recorder}
use Rattle.log_model.specs.minute_model.declared.Rule.{Rule}
use Rattle.log_model.specs.minute_model.declared.Minute.{Minute}
use Rattle.log_model.specs.minute_model.Minute.{minutes_ahead, horizon_of}
use Rattle.log_model.specs.declared.lines.Mark.{Mark}
use Rattle.log_model.specs.Log.{RunLog}
use Rattle.log_model.specs.Course.{ToldSecond, Visit}
use Rattle.log_model.specs.Spans.{spans_of}
use Rattle.log_model.specs.Causes.{device_of, cuts, second_of}
use Rattle.history_model.specs.Minutes.{HistoryMinute, on_card}
use Rattle.history_model.specs.Presence.{Start}
use Rattle.history_model.specs.History.{settlings_of, decided_of, unit_history}

-- the deciding second: the last second of the minutes that may bear on it, or that of the settling which ended them
abbrev pub deciding_of : Rule → List ℕ → ℕ → ℕ
deciding_of rule settlings m =
    if nat_eq (horizon_of rule settlings m) (60 * (m + minutes_ahead rule + 1) - 1) then horizon_of rule settlings m
    else horizon_of rule settlings m + 1

-- a device has acknowledged a minute
abbrev pub IsMarked : List Mark → Device → ℕ → Type 0
IsMarked marks device minute = (mark : Mark) × Contains marks mark × (mark.device ≡ device) × (mark.minute ≡ minute)

-- a failed call made a cut in this second
abbrev pub FailedCutIn : RunLog → ℕ → Type 0
FailedCutIn log u = Contains (map second_of (cuts true log)) u

-- the card is torn out or pulled out in a second
abbrev pub TornIn : Card → ToldSecond → Type 0
TornIn card t = (v : Visit) × (v.card ≡ card) × (Contains t.course.torn v ⊎ Contains t.course.pulled v)

-- the card is torn out or pulled out in a second that lies between these two, both included
abbrev pub TornBetween : List ToldSecond → Card → (from to : ℕ) → Type 0
TornBetween told card from to = (t : ToldSecond) × Contains told t × (from ≤ t.second.number) × (t.second.number ≤ to)
    × TornIn card t

-- a failed call made a cut in the last of these seconds, or the card was torn out or pulled out in one of them
abbrev pub BrokenIn : RunLog → List ToldSecond → Card → (from to : ℕ) → Type 0
BrokenIn log told card from to = FailedCutIn log to ⊎ TornBetween told card from to

-- A decided minute is acknowledged by the unit, and its entries by the cards: but where a call failed in the second
-- that decided it, or the card was torn out or pulled out since the minute's end. An `off` line excuses nothing.
pub record IsComplete (rule : Rule) (start : Start) (log : RunLog) (told : List ToldSecond) (marks : List Mark) : Type
    0 where
  pub unit : (span : List ToldSecond) (d : Minute) → Contains (spans_of told) span → Contains (decided_of rule span) d →
      IsMarked marks Recorder d.minute ⊎ FailedCutIn log (deciding_of rule (settlings_of span) d.minute)
  pub card : (span : List ToldSecond) (d : Minute) (i : HistoryMinute) (card : Card) (e : Entry)
      → Contains (spans_of told) span →
      Contains (decided_of rule span) d →
      Contains (unit_history rule start log told) i → i.minute ≡ d.minute → Contains (on_card card i) e →
      IsMarked marks (device_of card) i.minute
      ⊎ BrokenIn log told card (60 * (i.minute + 1)) (deciding_of rule (settlings_of span) i.minute)
