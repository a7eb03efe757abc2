-- A worked row of what was kept by the time that a card is accepted: the minutes that are decided by then, with the cards that
-- were present in them.
use Rattle.std.proofs.Common.{◌≡◌, ℕ, ◌+◌, ◌*◌, Bool, true, false, Option, Some, None, List, [], ◌∷◌, ◌++◌, map, refl}
use Rattle.activity_codec.specs.declared.values.Slot.TheVariants.{Driver, CoDriver}
use Rattle.activity_codec.specs.declared.values.Activity.{Activity}
use Rattle.activity_codec.specs.declared.values.Activity.TheVariants.{Rest, Available, Work, Driving}
use Rattle.trace_model.specs.declared.Card.{Card}
use Rattle.trace_model.specs.declared.Card.TheVariants.{A, B}
use Rattle.trace_model.specs.declared.Action.TheVariants.{Insert, Withdraw}
use Rattle.trace_model.specs.declared.Item.{Item}
use Rattle.trace_model.specs.declared.Item.TheVariants.{Run, Act}
use Rattle.log_model.specs.declared.lines.Verdict.TheVariants.{Accepted}
use Rattle.trace_model.specs.Trace.{TraceSecond, seconds_of}
use Rattle.minute_model.specs.declared.Rule.TheVariants.{Original}
use Rattle.minute_model.specs.Minute.{decided}
use Rattle.log_model.specs.Log.{RunLog, cut_in, is_torn_in, found_in}
use Rattle.log_model.specs.Course.{ToldSecond, went}
use Rattle.log_model.specs.Spans.{spans_of}
use Rattle.history_model.specs.Minutes.{HistoryMinute, card_history}
use Rattle.history_model.specs.Presence.{Start, CardStart, present_in, newest_minute}
use Rattle.run_acts.specs.Owed.{ReachedAt, minutes_before}
use Rattle.worked_promises.proofs.Scenario.{at, finds}

-- two new cards
abbrev new_card : CardStart
new_card = record { entries = []; owed = []; mark = 0; word = 0 }

abbrev new_cards : Start
new_cards = record { card_a = new_card; card_b = new_card }

-- A card is put in at 08:00:58, and withdrawn two seconds later, as 08:01 begins.
abbrev lines : List Item
lines = Act (Insert Driver A) ∷ Run 2 0 ∷ Act (Withdraw Driver) ∷ Run 1 0 ∷ []

abbrev short_log : RunLog
short_log = record { breaks = []; refused = []; finds = finds (at 58) 1 Driver (Accepted 0) ∷ [] }

abbrev both : List TraceSecond
both = seconds_of (at 58) (Act (Insert Driver A) ∷ Run 2 0 ∷ [])

-- the second in which it is withdrawn
abbrev third : TraceSecond
third = record { number = at 60; has_power = true; speed = 0; actions = Withdraw Driver ∷ [] }

-- one settling comes with it, and power has gone on until then
reached : ReachedAt Original short_log (seconds_of (at 58) lines) (at 60)
unfolding spans_of seconds_of went cut_in is_torn_in found_in
reached = record {
  front = both;
  s = third;
  later = [];
  are = refl;
  number = refl;
  earlier = [];
  span = (went short_log both).told;
  spans = refl;
  begins = refl;
  times = 1;
  decided = refl;
}

abbrev minute : (number : ℕ) → Activity → Activity → Option Card → HistoryMinute
minute number driver codriver beside = record { minute = number; driver = record { act = driver; card = Some A }; codriver = record { act = codriver; card = beside } }

-- so 08:00 is decided, and the card was present in it
one_minute_by_then : minutes_before Original new_cards short_log (seconds_of (at 58) lines) (at 60) reached ≡ minute 21123840 Rest Rest None ∷ []
unfolding reached spans_of seconds_of went cut_in is_torn_in found_in decided present_in newest_minute card_history
one_minute_by_then = refl
