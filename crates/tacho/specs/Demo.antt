-- How `demo` ends: a unit and a card are made new, a demonstration is recorded on them, and the unit is downloaded
-- (profile).
use Rattle.std.specs.Prelude.{◌≡◌, ◌⊎◌, ℕ, true, List, ◌++◌, length, codes, Some, IfSome}
use Rattle.std.specs.Io.KnownBytes.{Appends, Keeps}
use Rattle.tach_media.specs.Medium.{State}
use Rattle.tach_media.specs.Streams.{AppendsFront}
use Rattle.run_model.specs.declared.Device.TheVariants.{Unit as OfUnit}
use Rattle.log_model.specs.Causes.{cuts}
use Rattle.recorder_with_cards.specs.Words.{HaveTime, log_of}
use Rattle.recorder_with_cards.specs.Ends.{MayRecord}
use Rattle.run_opening.specs.Opening.{IsAsItWas}
use Rattle.run_outcome.specs.declared.outcome.Outcome.{Outcome}
use Rattle.unit_download.specs.declared.fault.DownloadFault.{DownloadFault}
use Rattle.unit_download.specs.declared.fault.DownloadFault.TheVariants as download
use Rattle.trace_text.specs.declared.drawn_trace.TheConstants.{FIRST_SECOND}
use Rattle.trace_text.specs.Demo.{demo_items}
use Rattle.tacho.specs.declared.anew.AnewFault.{AnewFault}
use Rattle.tacho.specs.declared.anew.AnewFault.TheVariants.{Unmade, Kept}
use Rattle.tacho.specs.Anew.{MayBeAnew, EndsAnew, WritesAnew}
use Rattle.unit_download.specs.declared.measuring.FileSize.{FileSize}
use Rattle.unit_download.specs.Measures.{IsSizeOf}
use Rattle.tacho.specs.declared.demo_command.TheConstants.{VEHICLE, CARD}
use Rattle.tacho.specs.declared.end.Fault.{Fault}
use Rattle.tacho.specs.declared.end.Fault.TheVariants.{Done, Usage, BadTrace, TooLong, BadUnit, ReadFault, WriteFault}
use Rattle.tacho.specs.declared.end.Fault.TheVariants.{MediumFault, Memory, BadFile, BadCard, Changed, FileFault}
use Rattle.tacho.specs.declared.end.Fault.TheVariants.{LinkEnded}
use Rattle.tacho.specs.Outside.{Outside}
use Rattle.tacho.specs.Outcomes.{IsEmpty, IsRun, refusal_of_run, count_line, outcome_text}
use Rattle.tacho.specs.CardsRecorded.{devices_of, AreSound, HaveLongTime}
use Rattle.tacho.specs.Formatting.{card_image, unit_image}

-- THE SEVEN LINES: those of the outcome, the bytes of the unit's file, and its messages of a day
abbrev pub demo_text : Outcome → FileSize → List ℕ
demo_text outcome size = outcome_text outcome
    ++ (count_line (codes "file") size.bytes ++ count_line (codes "days") size.days)

-- the end where a device failed as it was made new, or the trace was kept from being recorded
abbrev pub refusal_anew : AnewFault → Fault
refusal_anew (Unmade device) = MediumFault device
refusal_anew (Kept fault) = refusal_of_run fault

-- and where the unit was not downloaded; the file is in memory
abbrev pub refusal_of_file : DownloadFault → Fault
refusal_of_file download.Failed = MediumFault OfUnit
refusal_of_file (download.BadUnit place) = BadUnit place
refusal_of_file download.Changed = Changed
refusal_of_file download.WriteFault = Memory
refusal_of_file download.Memory = Memory

-- how `demo` can end
abbrev pub IsDemoEnd : Fault → Type 0
IsDemoEnd Usage = ⊥
IsDemoEnd (BadTrace n) = ⊥
IsDemoEnd (TooLong n) = ⊥
IsDemoEnd ReadFault = ⊥
IsDemoEnd (BadFile place) = ⊥
IsDemoEnd (BadCard field) = ⊥
IsDemoEnd FileFault = ⊥
IsDemoEnd LinkEnded = ⊥
IsDemoEnd _ = Unit {0}

-- unit and card a tell an image, card b started with this one alone, and no clock has come to its end
pub record StartAnew (card_b : List ℕ) (old new : Outside) : Type 0 where
  pub may : MayBeAnew card_b (devices_of old)
  pub clocks : HaveTime (devices_of new)

-- the demonstration was recorded on a new unit, a new card, and card b with this image
abbrev pub IsDemonstrated : (seed : ℕ) → (card_b : List ℕ) → (old new : Outside) → Outcome → Type 0
IsDemonstrated seed card_b old new outcome = EndsAnew (unit_image VEHICLE) (card_image CARD) card_b FIRST_SECOND
    (demo_items seed) outcome (devices_of old) (devices_of new)

-- the seven lines went out, with the size of the unit's file, where the unit tells its image
pub record TellsDemo (Puts : List ℕ → Type 0) (outcome : Outcome) (unit : State) : Type 0 where
  pub size : FileSize
  pub puts : Puts (demo_text outcome size)
  pub measured : IfSome unit.image (λ u. IsSizeOf u size)

-- HOW `demo` ENDS.
pub record EndsDemo (seed : ℕ) (old new : Outside) (outcome : Outcome) (fault : Fault) : Type 0 where
  pub ends : IsDemoEnd fault
  -- THE RUN, where all is done but for what is printed: the crash-safety theorem of a new unit, a new card, and card b.
  pub run : (card_b : List ℕ) → StartAnew card_b old new → IsRun fault → IsDemonstrated seed card_b old new outcome
  -- And however it ends, it was recorded so, or nothing is put down, and card b is as it was.
  pub put_down : (card_b : List ℕ) → StartAnew card_b old new
      → IsDemonstrated seed card_b old new outcome
      ⊎ (IsEmpty outcome × IsAsItWas old.card_b.memory new.card_b.memory)
  -- Whatever fails, so many writes began at most on each device.
  pub writes : WritesAnew FIRST_SECOND (demo_items seed) (length (cuts true (log_of outcome))) (devices_of old)
      (devices_of new)
  -- So a clock comes to its end in no demonstration that it began in its lower half.
  pub time : HaveLongTime (devices_of old) → HaveTime (devices_of new)
  -- Done: exactly the seven lines were printed; at a write fault a front of them; and else nothing.
  pub printed : fault ≡ Done → TellsDemo (Appends old.sink.held new.sink.held) outcome new.unit
  pub front : fault ≡ WriteFault → TellsDemo (AppendsFront old.sink.held new.sink.held) outcome new.unit
  pub nothing : (fault ≡ Done → ⊥) → (fault ≡ WriteFault → ⊥) → Keeps old.sink.held new.sink.held
  -- No unit that tells its image gives no answer, or one that the loader refuses.
  pub changed : fault ≡ Changed → IfSome new.unit.image (λ u. ⊥)
  -- Where nothing failed, memory was there, a run may begin on what was made with card b, whose number is then another
  -- than the new card's, and the unit tells its image, all is done.
  pub finishes : (card_b u : List ℕ) → StartAnew card_b old new → AreSound old new → (fault ≡ Memory → ⊥)
      → MayRecord (unit_image VEHICLE) (card_image CARD) card_b FIRST_SECOND
      → new.unit.image ≡ Some u → fault ≡ Done
