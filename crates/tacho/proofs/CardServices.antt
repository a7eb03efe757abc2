-- How `serve card a` and `serve card b` end, by what the service of a card answers.
use Rattle.std.proofs.Common.{◌≡◌, ◌≤◌, ℕ, refl, subst}
use Rattle.std.specs.Prelude.{Result, Ok, Err, Some, OnOk, IfErr}
use Rattle.std.specs.Io.KnownBytes.{IsAtEnd}
use Rattle.tach_media.specs.Medium.{Rose}
use Rattle.trace_model.specs.declared.Card.TheVariants.{A, B}
use Rattle.run_model.specs.declared.Device.{Device}
use Rattle.run_model.specs.declared.Device.TheVariants.{CardA, CardB}
use Rattle.card_service.specs.declared.serving.CardFault.{CardFault}
use Rattle.card_service.specs.declared.serving.CardFault.TheVariants as service
use Rattle.card_service.specs.Serving.{IsCardServed, IsCaused}
use Rattle.run_outcome.specs.declared.outcome.Outcome.{Outcome}
use Rattle.tacho.specs.declared.end.Fault.TheVariants.{Done, Usage, ReadFault, WriteFault, MediumFault}
use Rattle.tacho.specs.declared.forms.Form.TheVariants.{ServeCard}
use Rattle.tacho.specs.End.{ended_by}
use Rattle.tacho.specs.Outside.{Outside, CardTold, memory_of}
use Rattle.tacho.specs.Outcomes.{IsEmpty}
use Rattle.tacho.specs.ServingCard.{end_of_slot, EndsServeCard}
use Rattle.tacho.specs.Program.{Ends, HasCauses}

-- it never ends for words in no form
slot-usage : (device : Device) (r : Result (Unit {0}) CardFault) → end_of_slot device r ≡ Usage → ⊥
slot-usage device (Ok done) is = cc
slot-usage device (Err service.ReadFault) is = cc
slot-usage device (Err service.WriteFault) is = cc
slot-usage device (Err service.Failed) is = cc
slot-usage device (Err service.Cut) is = cc
slot-usage device (Err service.TooLong) is = cc

-- done: the source has ended
slot-done : {P : Type 0} (device : Device) (r : Result (Unit {0}) CardFault) → end_of_slot device r ≡ Done → OnOk r P → P
slot-done device (Ok done) is end = end
slot-done device (Err service.ReadFault) is end = absurd (cc)
slot-done device (Err service.WriteFault) is end = absurd (cc)
slot-done device (Err service.Failed) is end = absurd (cc)
slot-done device (Err service.Cut) is end = absurd (cc)
slot-done device (Err service.TooLong) is end = absurd (cc)

-- a fault's cause
abbrev Cause : (read wrote failed : Type 0) → Result (Unit {0}) CardFault → Type 0
Cause read wrote failed r = IfErr r (λ fault. IsCaused fault read wrote failed)

slot-read : (read wrote failed : Type 0) (device : Device) (r : Result (Unit {0}) CardFault) → end_of_slot device r ≡ ReadFault → Cause read wrote failed r → read
slot-read read wrote failed device (Err service.ReadFault) is cause = cause
slot-read read wrote failed device (Ok done) is cause = absurd (cc)
slot-read read wrote failed device (Err service.WriteFault) is cause = absurd (cc)
slot-read read wrote failed device (Err service.Failed) is cause = absurd (cc)
slot-read read wrote failed device (Err service.Cut) is cause = absurd (cc)
slot-read read wrote failed device (Err service.TooLong) is cause = absurd (cc)

slot-written : (read wrote failed : Type 0) (device : Device) (r : Result (Unit {0}) CardFault) → end_of_slot device r ≡ WriteFault → Cause read wrote failed r → wrote
slot-written read wrote failed device (Err service.WriteFault) is cause = cause
slot-written read wrote failed device (Ok done) is cause = absurd (cc)
slot-written read wrote failed device (Err service.ReadFault) is cause = absurd (cc)
slot-written read wrote failed device (Err service.Failed) is cause = absurd (cc)
slot-written read wrote failed device (Err service.Cut) is cause = absurd (cc)
slot-written read wrote failed device (Err service.TooLong) is cause = absurd (cc)

slot-failed : (read wrote failed : Type 0) (device other : Device) (r : Result (Unit {0}) CardFault) → end_of_slot device r ≡ MediumFault other → Cause read wrote failed r → (device ≡ other) × failed
slot-failed read wrote failed device other (Err service.Failed) is cause = (cc, cause)
slot-failed read wrote failed device other (Ok done) is cause = absurd (cc)
slot-failed read wrote failed device other (Err service.ReadFault) is cause = absurd (cc)
slot-failed read wrote failed device other (Err service.WriteFault) is cause = absurd (cc)
slot-failed read wrote failed device other (Err service.Cut) is cause = absurd (cc)
slot-failed read wrote failed device other (Err service.TooLong) is cause = absurd (cc)

module _ (device : Device) (r : Result (Unit {0}) CardFault) where
  ends-slot : (before after : CardTold) (old new : Outside) → IsCardServed r before.memory after.memory before.state after.state old.source.left new.source.left old.sink.held new.sink.held
      → OnOk r (IsAtEnd new.source.left) → EndsServeCard device before after old new (end_of_slot device r)
  ends-slot before after old new served end = record { ended = r; ends = refl; served = served; read = λ is. slot-done device r is end }

  caused : (old new : Outside) → Cause (Rose old.source.faults new.source.faults) (Rose old.sink.faults new.sink.faults) (Rose (memory_of device old).faults (memory_of device new).faults) r
      → old.source.faults ≤ new.source.faults → old.sink.faults ≤ new.sink.faults → HasCauses old new (end_of_slot device r)
  caused old new cause reads writes =
      let source_rose : Type 0 = Rose old.source.faults new.source.faults in
      let sink_rose : Type 0 = Rose old.sink.faults new.sink.faults in
      let card_rose : Type 0 = Rose (memory_of device old).faults (memory_of device new).faults in
      record {
        read_fault = λ is. slot-read source_rose sink_rose card_rose device r is cause;
        write_fault = λ is. slot-written source_rose sink_rose card_rose device r is cause;
        medium_fault = λ other is.
            let failed = slot-failed source_rose sink_rose card_rose device other r is cause in
            subst (λ (d : Device). Rose (memory_of d old).faults (memory_of d new).faults) failed.0 failed.1;
        reads = reads;
        writes = writes;
      }

pub slot-a-ends : (old new : Outside) (r : Result (Unit {0}) CardFault)
    → IsCardServed r old.card_a.memory new.card_a.memory old.card_a.state new.card_a.state old.source.left new.source.left old.sink.held new.sink.held
    → OnOk r (IsAtEnd new.source.left)
    → Cause (Rose old.source.faults new.source.faults) (Rose old.sink.faults new.sink.faults) (Rose old.card_a.memory.faults new.card_a.memory.faults) r
    → old.source.faults ≤ new.source.faults → old.sink.faults ≤ new.sink.faults → (outcome : Outcome) → IsEmpty outcome
    → Ends (Some (ServeCard A)) old new (ended_by outcome (end_of_slot CardA r))
slot-a-ends old new r served end cause reads writes outcome none = record {
  status = refl;
  usage = (λ is. absurd (slot-usage CardA r is), λ no_form. absurd (cc));
  form = ends-slot CardA r old.card_a new.card_a old new served end;
  unrecorded = none;
  unpassed = refl;
  causes = caused CardA r old new cause reads writes;
}

pub slot-b-ends : (old new : Outside) (r : Result (Unit {0}) CardFault)
    → IsCardServed r old.card_b.memory new.card_b.memory old.card_b.state new.card_b.state old.source.left new.source.left old.sink.held new.sink.held
    → OnOk r (IsAtEnd new.source.left)
    → Cause (Rose old.source.faults new.source.faults) (Rose old.sink.faults new.sink.faults) (Rose old.card_b.memory.faults new.card_b.memory.faults) r
    → old.source.faults ≤ new.source.faults → old.sink.faults ≤ new.sink.faults → (outcome : Outcome) → IsEmpty outcome
    → Ends (Some (ServeCard B)) old new (ended_by outcome (end_of_slot CardB r))
slot-b-ends old new r served end cause reads writes outcome none = record {
  status = refl;
  usage = (λ is. absurd (slot-usage CardB r is), λ no_form. absurd (cc));
  form = ends-slot CardB r old.card_b new.card_b old new served end;
  unrecorded = none;
  unpassed = refl;
  causes = caused CardB r old new cause reads writes;
}
