-- How a trace with cards is recorded on the unit and both cards (profile).
use Rattle.std.specs.Prelude.{◌≡◌, ◌⊎◌, ◌<◌, ◌^◌, ℕ, true, List, [], length}
use Rattle.tach_media.specs.Medium.{Rose, HasBroken, last_count}
use Rattle.run_model.specs.declared.Device.{Device}
use Rattle.trace_model.specs.declared.Card.{Card}
use Rattle.log_model.specs.Causes.{device_of, cuts, tears}
use Rattle.safety_model.specs.Safe.{Devices, card_of, breakdowns_of}
use Rattle.run_promise.specs.Between.{devices}
use Rattle.run_promise.specs.Whole.{NothingFailed, IsUntorn}
use Rattle.short_promise.specs.InShort.{KeepsInShort}
use Rattle.recorder_with_cards.specs.Words.{HaveTime, AreAfter, log_of, IsFoundLater}
use Rattle.run_opening.specs.Opening.{IsRefused, IsAsItWas}
use Rattle.run_opening.specs.declared.fault.RunFault.{RunFault}
use Rattle.tacho.specs.Alone.{IsForUnit}
use Rattle.recorder_with_cards.specs.Whole.{IsAllThere}
use Rattle.recorder_with_cards.specs.Breakdowns.{BreakdownsAreTold, BreakdownsAreCounted}
use Rattle.recorder_with_cards.specs.Ends.{recording_of, BeginAs, MayRecord, EndsTrace, IsKeptFrom}
use Rattle.run_outcome.specs.declared.outcome.Outcome.{Outcome}
use Rattle.trace_model.specs.declared.Item.{Item}
use Rattle.recorder_with_cards.specs.Writes.{WritesIn}
use Rattle.tacho.specs.declared.end.Fault.{Fault}
use Rattle.tacho.specs.declared.end.Fault.TheVariants.{Done}
use Rattle.tacho.specs.Outside.{Outside}
use Rattle.tacho.specs.Outcomes.{IsEmpty, IsRun, IsRefusal, SourceTells, refusal_of_run}

-- the unit and both cards
abbrev pub devices_of : Outside → Devices
devices_of told = devices told.unit told.card_a.memory told.card_b.memory

-- the source told this trace, each device started with its image alone, and no clock has come to its end
pub record StartWith (unit card_a card_b : List ℕ) (start : ℕ) (items : List Item) (old new : Outside) : Type 0 where
  pub told : SourceTells old start items
  pub begins : BeginAs unit card_a card_b (devices_of old)
  pub clocks : HaveTime (devices_of new)

-- no clock stands in its upper half
pub record HaveLongTime (d : Devices) : Type 0 where
  pub unit : d.unit.clock < 2 ^ 63
  pub card_a : d.card_a.clock < 2 ^ 63
  pub card_b : d.card_b.clock < 2 ^ 63

-- neither stream failed, and no call on a device
pub record AreSound (old new : Outside) : Type 0 where
  pub source : Rose old.source.faults new.source.faults → ⊥
  pub sink : Rose old.sink.faults new.sink.faults → ⊥
  pub unit : Rose old.unit.faults new.unit.faults → ⊥
  pub card_a : Rose old.card_a.memory.faults new.card_a.memory.faults → ⊥
  pub card_b : Rose old.card_b.memory.faults new.card_b.memory.faults → ⊥

-- no device has broken down so often that its count stands at the last value
abbrev pub HaveCounts : Devices → Type 0
HaveCounts d = (device : Device) → breakdowns_of d device < last_count

-- IT WAS REFUSED IN THE OPENING, whatever the devices tell: for the cause that this names, with each device as it was
-- and no outcome.
pub record IsRefusedInOpening (start : ℕ) (old new : Devices) (outcome : Outcome) (by : RunFault) : Type 0 where
  pub cause : IsRefused start old new by
  pub same_unit : IsAsItWas old.unit new.unit
  pub same_a : IsAsItWas old.card_a new.card_a
  pub same_b : IsAsItWas old.card_b new.card_b
  pub empty : IsEmpty outcome

-- or by a unit that was read anew at a power-on
pub record IsNotRecorded (start : ℕ) (old new : Devices) (outcome : Outcome) (fault : Fault) : Type 0 where
  pub by : RunFault
  pub is : fault ≡ refusal_of_run by
  pub when : IsRefusedInOpening start old new outcome by ⊎ IsFoundLater by

-- THE TRACE WAS KEPT FROM BEING RECORDED, for the cause that this end names: a call failed in the opening; or by these
-- images the unit's does not decode, the clock is back, or both cards have one number. Each device is as it was.
pub record IsRefusedBy (unit card_a card_b : List ℕ) (start : ℕ) (old new : Outside) (fault : Fault) : Type 0 where
  pub by : RunFault
  pub is : fault ≡ refusal_of_run by
  pub kept : IsKeptFrom unit card_a card_b start (devices_of old) (devices_of new) by

-- THE TRACE WAS RECORDED ON THE UNIT AND BOTH CARDS, or one of them kept it from being recorded.
pub record EndsWithCards (old new : Outside) (outcome : Outcome) (fault : Fault) : Type 0 where
  -- One of its lines is a card's.
  pub with_cards : (start : ℕ) (items : List Item) → SourceTells old start items → IsForUnit items → ⊥
  -- THE RUN of the trace, where it was recorded: the crash-safety theorem of unit and cards, the auxiliary records that
  -- the unit shows, and the events that the cards show.
  pub run : (start : ℕ) (items : List Item) (unit card_a card_b : List ℕ)
      → StartWith unit card_a card_b start items old new → IsRun fault
      → EndsTrace unit card_a card_b start items outcome (devices_of old) (devices_of new)
  -- IN SHORT: what each image of the unit says of each minute, what stands of what was acknowledged, what a card has,
  -- and that neither is ahead of the other or misses a minute.
  pub short : (start : ℕ) (items : List Item) (unit card_a card_b : List ℕ)
      → StartWith unit card_a card_b start items old new → IsRun fault
      → KeepsInShort (recording_of unit card_a card_b start items outcome) outcome.marks.items (devices_of old)
      (devices_of new)
  -- Each refusal has its cause; the devices are as they were, and there is no outcome.
  pub refused : (start : ℕ) (items : List Item) (unit card_a card_b : List ℕ)
      → StartWith unit card_a card_b start items old new → IsRefusal fault
      → IsRefusedBy unit card_a card_b start old new fault × IsEmpty outcome
  -- And each cause has its end, where nothing failed: what can be recorded is.
  pub records : (start : ℕ) (items : List Item) (unit card_a card_b : List ℕ)
      → StartWith unit card_a card_b start items old new → AreSound old new
      → MayRecord unit card_a card_b start → fault ≡ Done
  pub finds : (start : ℕ) (items : List Item) (unit card_a card_b : List ℕ)
      → StartWith unit card_a card_b start items old new → AreSound old new
      → (MayRecord unit card_a card_b start → ⊥) → IsRefusedBy unit card_a card_b start old new fault
  -- WHATEVER THE DEVICES TELL: no clock and no count has fallen, and none broke down but where a call failed; and a
  -- refusal came in the opening, with each device as it was and no outcome, or of a unit that was read anew at a
  -- power-on.
  pub later : AreAfter (devices_of old) (devices_of new)
  pub early : (start : ℕ) (items : List Item) → SourceTells old start items → IsRefusal fault
      → IsNotRecorded start (devices_of old) (devices_of new) outcome fault
  -- So many writes began at most on each device: by its power-ons, of which there was one at the begin, and one behind
  -- each `off` line and each cut that a failed call made; by the turns of the trace, two for each minute; and by its
  -- actions.
  pub writes : (start : ℕ) (items : List Item) → SourceTells old start items
      → WritesIn start items (length (cuts true (log_of outcome))) (devices_of old) (devices_of new)
  -- So a clock comes to its end in no run that it began in its lower half.
  pub time : (start : ℕ) (items : List Item) → SourceTells old start items → HaveLongTime (devices_of old)
      → HaveTime (devices_of new)
  -- Each cut that a failed call made is a breakdown of the unit more.
  pub broke : HasBroken old.unit new.unit (length (cuts true (log_of outcome)))
  -- And where the trace was recorded and no failed call has cut the power, the unit has not broken down.
  pub calm : IsRun fault → cuts true (log_of outcome) ≡ [] → new.unit.breakdowns ≡ old.unit.breakdowns
  -- And where no failed call has torn a card out, neither card has.
  pub still : IsRun fault → tears true (log_of outcome) ≡ []
      → (new.card_a.memory.breakdowns ≡ old.card_a.memory.breakdowns)
      × (new.card_b.memory.breakdowns ≡ old.card_b.memory.breakdowns)
  -- Nor has a device broken down then more often than the log tells.
  pub told : IsRun fault → BreakdownsAreTold (log_of outcome) (devices_of old) (devices_of new)
  -- So each has broken down just as often as it is told: the unit by cuts, and each card by itself by tears.
  pub counted : (start : ℕ) (items : List Item) (unit card_a card_b : List ℕ)
      → StartWith unit card_a card_b start items old new → IsRun fault
      → BreakdownsAreCounted (recording_of unit card_a card_b start items outcome) (devices_of old) (devices_of new)
  -- Where nothing failed, no call has cut the power or torn out a card.
  pub unbroken : (start : ℕ) (items : List Item) (unit card_a card_b : List ℕ)
      → StartWith unit card_a card_b start items old new → AreSound old new
      → HaveCounts (devices_of old) → NothingFailed (log_of outcome)
  -- So it is of each device by itself: where no call on the unit failed, none has cut the power; and where none failed
  -- on a card, none has torn it out.
  pub uncut : (Rose old.unit.faults new.unit.faults → ⊥) → old.unit.breakdowns < last_count
      → cuts true (log_of outcome) ≡ []
  pub untorn : (start : ℕ) (items : List Item) (unit card_a card_b : List ℕ)
      → StartWith unit card_a card_b start items old new → IsRun fault → (c : Card)
      → (Rose (card_of (devices_of old) c).faults (card_of (devices_of new) c).faults → ⊥)
      → breakdowns_of (devices_of old) (device_of c) < last_count
      → IsUntorn (recording_of unit card_a card_b start items outcome) c
  -- WHERE NO FAILED CALL HAS CUT THE POWER, EVERY MINUTE IS THERE: each decided one stands in the history, the unit has
  -- all of it in its newest days, with each whole kilometre, and a card that was accepted, and that no failed call has
  -- torn out, all of its entries, retained, but those behind whose minute a `tear` line pulled it out.
  pub whole : (start : ℕ) (items : List Item) (unit card_a card_b : List ℕ)
      → StartWith unit card_a card_b start items old new → cuts true (log_of outcome) ≡ [] → IsRun fault
      → IsAllThere (recording_of unit card_a card_b start items outcome) (devices_of new)
