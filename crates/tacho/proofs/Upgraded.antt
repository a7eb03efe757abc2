-- How `upgrade` ends, by what its calls answered.
use Rattle.std.proofs.Common.{◌≡◌, ◌≤◌, ◌+◌, inl, inr, refl, sym, ap, subst, ℕ, Bool, true, false, Some}
use Rattle.std.specs.Prelude.{Result, Ok, Err, OnOk, IfErr, IfSome}
use Rattle.std.specs.Io.KnownBytes.{Appends}
use Rattle.tach_media.specs.Medium.{State, LeavesOnly, HasCause, Rose}
use Rattle.tach_media.specs.Streams.{AppendsFront}
use Rattle.run_model.specs.declared.Device.{Device}
use Rattle.run_model.specs.declared.Device.TheVariants.{Unit as OfUnit}
use Rattle.unit_model.specs.Decoding.{first_bad_place}
use Rattle.unit_memory.specs.Upgrades.{IsUpgrading}
use Rattle.run_outcome.specs.declared.outcome.Outcome.{Outcome}
use Rattle.tacho.specs.declared.end.Fault.{Fault}
use Rattle.tacho.specs.declared.end.Fault.TheVariants.{Done, BadUnit, WriteFault, MediumFault}
use Rattle.tacho.specs.declared.forms.Form.TheVariants.{Upgrade}
use Rattle.tacho.specs.End.{end_of, ended_by, is_medium_fault, IsBeforeDevices}
use Rattle.tacho.specs.Outside.{Outside, SinkTold, memory_of}
use Rattle.tacho.specs.Outcomes.{IsEmpty}
use Rattle.tacho.specs.Program.{Ends, Spares}
use Rattle.tacho.specs.Upgrading.{upgrade_line, IsUpgradeEnd, IsUpgraded, EndsUpgrade}

-- the unit failed
pub upgrade-failed : (old new : State) (sink : SinkTold) → LeavesOnly old new IsUpgrading → HasCause old new true → new.clock ≤ old.clock + 2 → EndsUpgrade old new sink sink (MediumFault OfUnit)
upgrade-failed old new sink moments cause few = record {
  ends = refl;
  done = λ is. absurd (cc);
  front = λ is. absurd (cc);
  bad_unit = λ place is. absurd (cc);
  moments = moments;
  writes = few;
  cause = cause;
  write_fault = λ is. absurd (cc);
  finishes = λ no_unit no_sink. absurd (no_unit (cause.fault refl));
}

-- it is bad
pub upgrade-bad : (old new : State) (sink : SinkTold) (place : ℕ) → LeavesOnly old new IsUpgrading → HasCause old new false → IfSome old.image (λ x. first_bad_place x ≡ Some place) → new.clock ≡ old.clock → new.clock ≤ old.clock + 2
    → EndsUpgrade old new sink sink (BadUnit place)
upgrade-bad old new sink place moments cause bad clock few = record {
  ends = tt;
  done = λ is. absurd (cc);
  front = λ is. absurd (cc);
  bad_unit = λ p is. let e : place ≡ p = cc in (subst (λ (q : ℕ). IfSome old.image (λ x. first_bad_place x ≡ Some q)) e bad, clock);
  moments = moments;
  writes = few;
  cause = cause;
  write_fault = λ is. absurd (cc);
  finishes = λ no_unit no_sink. inr (place, refl);
}

-- it is upgraded, and the line was printed or the sink failed
pub upgrade-done : {T : Type 0} (newly : Bool) (old new : State) (before after : SinkTold) (r : Result T Fault) → LeavesOnly old new IsUpgrading → HasCause old new false → new.clock ≤ old.clock + 2 → IsUpgraded newly old new
    → OnOk r (Appends before.held after.held (upgrade_line newly)) → IfErr r (λ fault. (fault ≡ WriteFault) × AppendsFront before.held after.held (upgrade_line newly)) → IfErr r (λ fault. Rose before.faults after.faults)
    → EndsUpgrade old new before after (end_of r)
upgrade-done newly old new before after (Ok u) moments cause few upgraded appends front rose = record {
  ends = tt;
  done = λ is. (newly, upgraded, appends);
  front = λ is. absurd (cc);
  bad_unit = λ place is. absurd (cc);
  moments = moments;
  writes = few;
  cause = cause;
  write_fault = λ is. absurd (cc);
  finishes = λ no_unit no_sink. inl refl;
}
upgrade-done newly old new before after (Err fault) moments cause few upgraded appends front rose =
    subst (λ (f : Fault). EndsUpgrade old new before after f) (sym front.0) (record {
      ends = tt;
      done = λ is. absurd (cc);
      front = λ is. (newly, upgraded, front.1);
      bad_unit = λ place is. absurd (cc);
      moments = moments;
      writes = few;
      cause = cause;
      write_fault = λ is. rose;
      finishes = λ no_unit no_sink. absurd (no_sink rose);
    })

-- so the call ends that was asked for it
pub upgrade-ends : {T : Type 0} (old new : Outside) (outcome : Outcome) (r : Result T Fault) → EndsUpgrade old.unit new.unit old.sink new.sink (end_of r) → IsEmpty outcome
    → old.source.faults ≤ new.source.faults → old.sink.faults ≤ new.sink.faults
    → Ends (Some Upgrade) old new (ended_by outcome (end_of r))
upgrade-ends old new outcome r ends none reads writes = record {
  status = refl;
  usage = (λ is. absurd (subst IsUpgradeEnd is ends.ends), λ no. absurd (cc));
  form = ends;
  unrecorded = none;
  unpassed = refl;
  causes = record {
    read_fault = λ is. absurd (subst IsUpgradeEnd is ends.ends);
    write_fault = ends.write_fault;
    medium_fault = λ device is.
        let of_unit : device ≡ OfUnit = subst IsUpgradeEnd is ends.ends in
        subst (λ (d : Device). Rose (memory_of d old).faults (memory_of d new).faults) (sym of_unit) (ends.cause.fault (ap is_medium_fault is));
    reads = reads;
    writes = writes;
  };
}

-- the unit was called at each of its ends
called : (fault : Fault) → IsUpgradeEnd fault → IsBeforeDevices fault → ⊥
called Done ends before = before
called (BadUnit place) ends before = before
called WriteFault ends before = before
called (MediumFault device) ends before = before
called _ ends before = ends

-- the sink stays as it was, but where it was written to
unprinted : {T P : Type 0} (r : Result T Fault) → IfErr r (λ fault. (fault ≡ WriteFault → ⊥) → P) → (end_of r ≡ Done → ⊥) → (end_of r ≡ WriteFault → ⊥) → P
unprinted (Ok u) nothing not_done not_front = absurd (not_done refl)
unprinted (Err fault) nothing not_done not_front = nothing not_front

-- and spares what it does not name
pub upgrade-spares : {T for_unit source sink unit card_a card_b : Type 0} {old new : State} {before after : SinkTold} (r : Result T Fault) → EndsUpgrade old new before after (end_of r) → source → card_a → card_b
    → IfErr r (λ fault. (fault ≡ WriteFault → ⊥) → sink)
    → Spares (Some Upgrade) (end_of r) for_unit source sink unit card_a card_b
upgrade-spares r ends source card_a card_b nothing = record {
  others = (source, card_a, card_b);
  cards = λ is. absurd (cc);
  before = λ first before. absurd (called (end_of r) ends.ends before);
  nothing = λ first not_done not_front. unprinted r nothing not_done not_front;
  unprinted = λ none. absurd none;
}
