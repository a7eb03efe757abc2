-- What was kept before a power-on, as its interruption tells it, and the sizes of events (Annex IB, section III.12;
-- profile).
use Rattle.std.specs.Prelude.{◌≡◌, ℕ, List, [], ◌∷◌, option_map, option_to_list}
use Rattle.run_devices.specs.trace_model.Trace.{TraceSecond}
use Rattle.run_devices.specs.log_model.Log.{RunLog}
use Rattle.run_devices.specs.event_model.declared.kinds.TheConstants.{POWER_INTERRUPTION}
use Rattle.run_devices.specs.event_model.declared.entries.Span.{Span}
use Rattle.run_devices.specs.event_model.Spans.{gap_of}
use Rattle.run_devices.specs.event_model.Events.{Event, Crew, Seen, noted_with, seen_of, seen_spans}
use Rattle.run_devices.specs.run_unit_course.Followed.{IsDark}
use Rattle.run_devices.specs.run_course.Followed.{Progress, BookFollowsRun}
use Rattle.run_devices.specs.run_course.Seconds.{GoesOnBy}
use Rattle.run_events.specs.Gaps.{HasGaps}
use Rattle.run_devices.specs.run_promise.Origin.{Origin, rule_of, start_at, first_of}
use Rattle.run_devices.specs.run_promise.Seconds.{found_again}
use Rattle.run_note_record.specs.EventsSoFar.{interruption}

-- the interruption behind these power spans, where this minute was kept last
abbrev pub interruption_of : (kept : ℕ) → List (List Seen) → (second : ℕ) → Crew → List Event
interruption_of kept [] u crew = []
interruption_of kept (span ∷ spans) u crew = option_to_list
    (option_map {T = Span} {U = Event} (λ gap. noted_with POWER_INTERRUPTION gap.begin gap.end crew) (gap_of kept u))

-- THE UNIT WAS READ as power came back, and showed this last-kept minute: the interruption is told by that.
abbrev pub TheInterruptionIsFound : Type 0
TheInterruptionIsFound = (o : Origin) (done : List TraceSecond) (p : Progress)
    → BookFollowsRun (rule_of o) (start_at o) o.from (first_of o) done p → IsDark p.supply
    → HasGaps p.log p.unfound p.supply done → (k : ℕ) →
    BookFollowsRun (rule_of o) (start_at o) o.from (first_of o) done (found_again k p)
    → (s : TraceSecond) (log : RunLog) → GoesOnBy (found_again k p) log s → (u : ℕ) (crew : Crew) →
    interruption log (seen_spans (seen_of (found_again k p).log done)) u crew
    ≡ interruption_of k (seen_spans (seen_of p.log done)) u crew

-- where no break was told there was no power span before
abbrev pub NoBreakNoSpan : Type 0
NoBreakNoSpan = (done : List TraceSecond) (p : Progress) → IsDark p.supply → HasGaps p.log p.unfound p.supply done
    → p.log.breaks ≡ [] → seen_spans (seen_of p.log done) ≡ []
