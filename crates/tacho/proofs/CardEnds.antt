-- How `card a` and `card b` end, by what the writing of a card file answers.
use Rattle.std.proofs.Common.{◌≡◌, ◌⊎◌, ◌≤◌, ℕ, Bool, inl, inr, refl, subst}
use Rattle.std.specs.Prelude.{Result, Ok, Err, Some, IfSome}
use Rattle.tach_media.specs.Medium.{State, Reads, Rose}
use Rattle.trace_model.specs.declared.Card.TheVariants.{A, B}
use Rattle.run_model.specs.declared.Device.{Device}
use Rattle.run_model.specs.declared.Device.TheVariants.{CardA, CardB}
use Rattle.card_download.specs.declared.fault.CardFileFault.{CardFileFault}
use Rattle.card_download.specs.declared.fault.CardFileFault.TheVariants as writing
use Rattle.card_download.specs.Faults.{has_failed}
use Rattle.card_download.specs.Written.{Writes, IsWriteFault, IsBad}
use Rattle.run_outcome.specs.declared.outcome.Outcome.{Outcome}
use Rattle.tacho.specs.declared.end.Fault.TheVariants.{Done, Usage, ReadFault, WriteFault, MediumFault, BadCard}
use Rattle.tacho.specs.declared.forms.Form.TheVariants.{CardFile}
use Rattle.tacho.specs.End.{ended_by, is_medium_fault}
use Rattle.tacho.specs.Outside.{Outside, SinkTold, CardTold, memory_of}
use Rattle.tacho.specs.Outcomes.{IsEmpty}
use Rattle.tacho.specs.CardFile.{end_of_card, EndsCard}
use Rattle.tacho.specs.Program.{Ends, HasCauses, EndsBefore}

-- it never ends for words in no form, nor by the source
not-usage : (device : Device) (r : Result (Unit {0}) CardFileFault) → end_of_card device r ≡ Usage → ⊥
not-usage device (Ok done) is = cc
not-usage device (Err writing.Failed) is = cc
not-usage device (Err writing.WriteFault) is = cc
not-usage device (Err (writing.BadApplication field)) is = cc

not-read : (device : Device) (r : Result (Unit {0}) CardFileFault) → end_of_card device r ≡ ReadFault → ⊥
not-read device (Ok done) is = cc
not-read device (Err writing.Failed) is = cc
not-read device (Err writing.WriteFault) is = cc
not-read device (Err (writing.BadApplication field)) is = cc

-- the card failed where the call ends so
failed-is : (device : Device) (r : Result (Unit {0}) CardFileFault) → has_failed r ≡ is_medium_fault (end_of_card device r)
failed-is device (Ok done) = refl
failed-is device (Err writing.Failed) = refl
failed-is device (Err writing.WriteFault) = refl
failed-is device (Err (writing.BadApplication field)) = refl

of-write : {P : Type 0} (device : Device) (r : Result (Unit {0}) CardFileFault) → end_of_card device r ≡ WriteFault → (IsWriteFault r → P) → P
of-write device (Err writing.WriteFault) is cause = cause refl
of-write device (Ok done) is cause = absurd (cc)
of-write device (Err writing.Failed) is cause = absurd (cc)
of-write device (Err (writing.BadApplication field)) is cause = absurd (cc)

of-card : (device : Device) (r : Result (Unit {0}) CardFileFault) (old new : State) (other : Device) → end_of_card device r ≡ MediumFault other → Reads old new (has_failed r)
    → (device ≡ other) × Rose old.faults new.faults
of-card device (Err writing.Failed) old new other is reads = (cc, reads.cause.fault refl)
of-card device (Ok done) old new other is reads = absurd (cc)
of-card device (Err writing.WriteFault) old new other is reads = absurd (cc)
of-card device (Err (writing.BadApplication field)) old new other is reads = absurd (cc)

finishes-by : (device : Device) (r : Result (Unit {0}) CardFileFault) (old new : State) (sink : Type 0) → Reads old new (has_failed r) → (IsWriteFault r → sink)
    → (Rose old.faults new.faults → ⊥) → (sink → ⊥) → (end_of_card device r ≡ Done) ⊎ ((field : ℕ) × (end_of_card device r ≡ BadCard field))
finishes-by device (Ok done) old new sink reads wrote card fine = inl refl
finishes-by device (Err writing.Failed) old new sink reads wrote card fine = absurd (card (reads.cause.fault refl))
finishes-by device (Err writing.WriteFault) old new sink reads wrote card fine = absurd (fine (wrote refl))
finishes-by device (Err (writing.BadApplication field)) old new sink reads wrote card fine = inr (field, refl)

module _ (device : Device) (r : Result (Unit {0}) CardFileFault) where
  ends-card : (old new : CardTold) (before after : SinkTold) → IfSome old.memory.image (λ x. Writes r x before.held after.held)
      → (IsWriteFault r → Rose before.faults after.faults) → Reads old.memory new.memory (has_failed r) → EndsCard device old new before after (end_of_card device r)
  ends-card old new before after writes wrote reads = record {
    ended = r;
    ends = refl;
    writes = writes;
    card = subst (λ (failed : Bool). Reads old.memory new.memory failed) (failed-is device r) reads;
    finishes = finishes-by device r old.memory new.memory (Rose before.faults after.faults) reads wrote;
  }

  caused : (old new : Outside) → (IsWriteFault r → Rose old.sink.faults new.sink.faults) → old.source.faults ≤ new.source.faults → old.sink.faults ≤ new.sink.faults
      → Reads (memory_of device old) (memory_of device new) (has_failed r) → HasCauses old new (end_of_card device r)
  caused old new wrote source counts reads = record {
    read_fault = λ is. absurd (not-read device r is);
    write_fault = λ is. of-write device r is wrote;
    medium_fault = λ other is.
        let failed = of-card device r (memory_of device old) (memory_of device new) other is reads in
        subst (λ (d : Device). Rose (memory_of d old).faults (memory_of d new).faults) failed.0 failed.1;
    reads = source;
    writes = counts;
  }

-- so the call ends that was asked for it
pub card-a-ends : (old new : Outside) (r : Result (Unit {0}) CardFileFault) → IfSome old.card_a.memory.image (λ x. Writes r x old.sink.held new.sink.held)
    → (IsWriteFault r → Rose old.sink.faults new.sink.faults) → old.source.faults ≤ new.source.faults → old.sink.faults ≤ new.sink.faults
    → Reads old.card_a.memory new.card_a.memory (has_failed r) → (outcome : Outcome) → IsEmpty outcome
    → Ends (Some (CardFile A)) old new (ended_by outcome (end_of_card CardA r))
card-a-ends old new r writes wrote source counts reads outcome none = record {
  status = refl;
  usage = (λ is. absurd (not-usage CardA r is), λ no_form. absurd (cc));
  form = ends-card CardA r old.card_a new.card_a old.sink new.sink writes wrote reads;
  unrecorded = none;
  unpassed = refl;
  causes = caused CardA r old new wrote source counts reads;
}

pub card-b-ends : (old new : Outside) (r : Result (Unit {0}) CardFileFault) → IfSome old.card_b.memory.image (λ x. Writes r x old.sink.held new.sink.held)
    → (IsWriteFault r → Rose old.sink.faults new.sink.faults) → old.source.faults ≤ new.source.faults → old.sink.faults ≤ new.sink.faults
    → Reads old.card_b.memory new.card_b.memory (has_failed r) → (outcome : Outcome) → IsEmpty outcome
    → Ends (Some (CardFile B)) old new (ended_by outcome (end_of_card CardB r))
card-b-ends old new r writes wrote source counts reads outcome none = record {
  status = refl;
  usage = (λ is. absurd (not-usage CardB r is), λ no_form. absurd (cc));
  form = ends-card CardB r old.card_b new.card_b old.sink new.sink writes wrote reads;
  unrecorded = none;
  unpassed = refl;
  causes = caused CardB r old new wrote source counts reads;
}

-- a field that is named is one for which the card file was not begun
pub is-bad : (device : Device) (r : Result (Unit {0}) CardFileFault) → EndsBefore (Some (CardFile A)) (end_of_card device r) → IsBad r
is-bad device (Err (writing.BadApplication field)) is = tt
is-bad device (Ok done) is = absurd is
is-bad device (Err writing.Failed) is = absurd is
is-bad device (Err writing.WriteFault) is = absurd is
