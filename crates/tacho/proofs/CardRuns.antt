-- How a trace with cards ends that is recorded on the unit and both cards.
use Rattle.std.proofs.Common.{◌≡◌, ◌∙◌, ◌≤◌, ◌<◌, ◌^◌, ◌⊎◌, inl, inr, ⊎_elim, ℕ, true, refl, sym, subst, arith, List, [], length, Some}
use Rattle.tach_media.specs.Medium.{State, IsCoherent, Rose, HasBroken, last_count}
use Rattle.run_promise.specs.Between.{devices}
use Rattle.run_model.specs.declared.Device.{Device}
use Rattle.run_model.specs.declared.Device.TheVariants.{Unit as OfUnit, CardA, CardB}
use Rattle.trace_model.specs.declared.Card.{Card}
use Rattle.log_model.specs.Causes.{device_of, cuts, tears}
use Rattle.safety_model.specs.Safe.{card_of, breakdowns_of}
use Rattle.recorder_with_cards.specs.Words.{AreAfter, log_of, IsFoundLater, HaveTime}
use Rattle.trace_model.specs.declared.Card.TheVariants.{A, B}
use Rattle.trace_model.specs.declared.Item.{Item}
use Rattle.trace_model.specs.Trace.{total_seconds}
use Rattle.recorder_with_cards.specs.Writes.{WritesIn}
use Rattle.recorder_with_cards.proofs.Writes.{writes-few}
use Rattle.recorder_with_cards.specs.Breakdowns.{BreakdownsAreTold, BreakdownsAreCounted}
use Rattle.trace_text.specs.declared.lines_trace.Form.TheVariants.{Whole}
use Rattle.trace_text.specs.Judged.{IsTraceText}
use Rattle.run_opening.specs.declared.fault.RunFault.{RunFault}
use Rattle.run_opening.specs.declared.fault.RunFault.TheVariants as run
use Rattle.tacho.specs.Alone.{IsForUnit}
use Rattle.recorder_with_cards.specs.Gone.{IsRefusedBy as IsRefusedAt}
use Rattle.recorder_with_cards.proofs.WholeOdometer.{all-there}
use Rattle.recorder_with_cards.proofs.Breakdowns.{are-counted}
use Rattle.recorder_with_cards.proofs.InShort.{recorded-keeps}
use Rattle.recorder_with_cards.specs.Ends.{recording_of, BeginAs, MayRecord, EndsTrace, IsKeptFrom}
use Rattle.run_outcome.specs.declared.outcome.Outcome.{Outcome}
use Rattle.tacho.specs.declared.end.Fault.{Fault}
use Rattle.tacho.specs.declared.end.Fault.TheVariants.{WriteFault, MediumFault}
use Rattle.tacho.specs.Outside.{Outside, memory_of}
use Rattle.tacho.specs.Program.{HasCauses}
use Rattle.tacho.specs.Outcomes.{IsEmpty, IsRun, IsRefusal, SourceTells, refusal_of_run}
use Rattle.tacho.specs.CardsRecorded.{devices_of, StartWith, AreSound, HaveCounts, HaveLongTime, IsRefusedInOpening, EndsWithCards}
use Rattle.tacho.proofs.Recordings.{none-bad, run-refusal, refused-no-run}
use Rattle.tacho.proofs.UnitRuns.{run-done}
use Rattle.tacho.proofs.Unbroken.{none-failed, unbroken-log, cut-none, torn-none}

-- no fault has a cause where nothing failed and the trace may be recorded
none-caused : (old new : Outside) (x a b : List ℕ) (start : ℕ) (fault : RunFault) → AreSound old new → MayRecord x a b start → IsKeptFrom x a b start (devices_of old) (devices_of new) fault → ⊥
none-caused old new x a b start (run.MediumFault OfUnit) sound may h = sound.unit h.cause
none-caused old new x a b start (run.MediumFault CardA) sound may h = sound.card_a h.cause
none-caused old new x a b start (run.MediumFault CardB) sound may h = sound.card_b h.cause
none-caused old new x a b start (run.BadUnit place) sound may h = none-bad x place may.decodes h.cause
none-caused old new x a b start (run.ClockBack kept second) sound may h = let p = may.later in let q = h.cause.1 in let r = h.cause.3 in omega (arith, p, q, r)
none-caused old new x a b start (run.SameCard number) sound may h = may.numbers (h.cause.2 A).0 (h.cause.2 B).0 ((h.cause.2 A).1 ∙ sym (h.cause.2 B).1)

-- the cause of a refusal that names a device
refused-cause : (old new : Outside) (start : ℕ) (before after : Outcome) (fault : RunFault)
    → IsRefusedAt start before after old.unit new.unit old.card_a.memory new.card_a.memory old.card_b.memory new.card_b.memory fault
    → (device : Device) → refusal_of_run fault ≡ MediumFault device → Rose (memory_of device old).faults (memory_of device new).faults
refused-cause old new start before after (run.MediumFault OfUnit) h device is =
    let same : OfUnit ≡ device = cc in
    subst (λ (d : Device). Rose (memory_of d old).faults (memory_of d new).faults) same (⊎_elim (λ was. was.0.0) (λ late. absurd late) h)
refused-cause old new start before after (run.MediumFault CardA) h device is =
    let same : CardA ≡ device = cc in
    subst (λ (d : Device). Rose (memory_of d old).faults (memory_of d new).faults) same (⊎_elim (λ was. was.0.0) (λ late. absurd late) h)
refused-cause old new start before after (run.MediumFault CardB) h device is =
    let same : CardB ≡ device = cc in
    subst (λ (d : Device). Rose (memory_of d old).faults (memory_of d new).faults) same (⊎_elim (λ was. was.0.0) (λ late. absurd late) h)
refused-cause old new start before after (run.BadUnit place) h device is = absurd (cc)
refused-cause old new start before after (run.ClockBack kept second) h device is = absurd (cc)
refused-cause old new start before after (run.SameCard number) h device is = absurd (cc)

pub refused-causes : (old new : Outside) (start : ℕ) (before after : Outcome) (fault : RunFault)
    → IsRefusedAt start before after old.unit new.unit old.card_a.memory new.card_a.memory old.card_b.memory new.card_b.memory fault
    → old.source.faults ≤ new.source.faults → old.sink.faults ≤ new.sink.faults → HasCauses old new (refusal_of_run fault)
refused-causes old new start before after fault h source sink = record {
  read_fault = λ is. absurd (subst IsRefusal is (run-refusal fault));
  write_fault = λ is. absurd (subst IsRefusal is (run-refusal fault));
  medium_fault = λ device is. refused-cause old new start before after fault h device is;
  reads = source;
  writes = sink;
}

-- when a trace was refused, where the outcome had no line
pub refused-when : (start : ℕ) (before after : Outcome) (U V X Y Z W : State) (by : RunFault) → IsEmpty before → IsRefusedAt start before after U V X Y Z W by
    → IsRefusedInOpening start (devices U X Z) (devices V Y W) after by ⊎ IsFoundLater by
refused-when start before after U V X Y Z W by empty refused =
    ⊎_elim (λ h. inl (record { cause = h.0; same_unit = h.1; same_a = h.2; same_b = h.3; empty = subst IsEmpty (sym h.4) empty })) (λ late. inr late) refused

-- where no call failed no device broke down
none-broke : (old new : Outside) → AreSound old new → AreAfter (devices_of old) (devices_of new) → (device : Device) → breakdowns_of (devices_of new) device ≡ breakdowns_of (devices_of old) device
none-broke old new sound later OfUnit = ⊎_elim (λ rose. absurd (sound.unit rose)) (λ same. same) later.unit.unbroken
none-broke old new sound later CardA = ⊎_elim (λ rose. absurd (sound.card_a rose)) (λ same. same) later.card_a.unbroken
none-broke old new sound later CardB = ⊎_elim (λ rose. absurd (sound.card_b rose)) (λ same. same) later.card_b.unbroken

-- so it is of a card
card-unbroken : (old new : Outside) → AreAfter (devices_of old) (devices_of new) → (c : Card) → (Rose (card_of (devices_of old) c).faults (card_of (devices_of new) c).faults → ⊥) → breakdowns_of (devices_of new) (device_of c) ≡ breakdowns_of (devices_of old) (device_of c)
card-unbroken old new later A sound = ⊎_elim (λ rose. absurd (sound rose)) (λ same. same) later.card_a.unbroken
card-unbroken old new later B sound = ⊎_elim (λ rose. absurd (sound rose)) (λ same. same) later.card_b.unbroken

module _ (old new : Outside) (outcome : Outcome) (start : ℕ) (items : List Item) (not_unit : IsForUnit items → ⊥)
    (later : AreAfter (devices_of old) (devices_of new)) (broke : HasBroken old.unit new.unit (length (cuts true (log_of outcome)))) (writes : WritesIn start items (length (cuts true (log_of outcome))) (devices_of old) (devices_of new))
    (short : total_seconds items ≤ 2 ^ 32) (few : length items ≤ 2 ^ 32)
    (is_read : (text : List ℕ) (s : ℕ) (is : List Item) → old.source.left ≡ Some text → IsTraceText Whole text s is → (start ≡ s) × (items ≡ is)) where
  same-trace : (s : ℕ) (is : List Item) → SourceTells old s is → (start ≡ s) × (items ≡ is)
  same-trace s is told = is_read told.text s is told.told told.trace

  time-left : HaveLongTime (devices_of old) → HaveTime (devices_of new)
  time-left long =
      let most = writes-few start items (length (cuts true (log_of outcome))) in
      let on_unit = most.0 in
      let on_card = most.1 in
      record {
        unit = (let a = writes.unit in let b = long.unit in omega (arith, a, b, on_unit, short, few));
        card_a = (let a = writes.card_a in let b = long.card_a in omega (arith, a, b, on_card, short, few));
        card_b = (let a = writes.card_b in let b = long.card_b in omega (arith, a, b, on_card, short, few));
      }

  writes-by : (s : ℕ) (is : List Item) → SourceTells old s is → WritesIn s is (length (cuts true (log_of outcome))) (devices_of old) (devices_of new)
  writes-by s is told =
      let same = same-trace s is told in
      subst (λ (l : List Item). WritesIn s l (length (cuts true (log_of outcome))) (devices_of old) (devices_of new)) same.1 (subst (λ (n : ℕ). WritesIn n items (length (cuts true (log_of outcome))) (devices_of old) (devices_of new)) same.0 writes)

  uncut-by : (Rose old.unit.faults new.unit.faults → ⊥) → old.unit.breakdowns < last_count → cuts true (log_of outcome) ≡ []
  uncut-by sound low = cut-none old.unit new.unit (log_of outcome) later.unit.unbroken broke sound low

  not-unit : (s : ℕ) (is : List Item) → SourceTells old s is → IsForUnit is → ⊥
  not-unit s is told for = not_unit (subst IsForUnit (sym (same-trace s is told).1) for)

  -- THE RUN WAS REFUSED
  pub cards-refused : (fault : RunFault) → IsRefusedInOpening start (devices_of old) (devices_of new) outcome fault ⊎ IsFoundLater fault
      → ((x a b : List ℕ) → BeginAs x a b (devices_of old) → HaveTime (devices_of new) → IsKeptFrom x a b start (devices_of old) (devices_of new) fault × IsEmpty outcome)
      → EndsWithCards old new outcome (refusal_of_run fault)
  cards-refused fault when refused = record {
    with_cards = not-unit;
    run = λ s is x a b starts ran. absurd (refused-no-run (refusal_of_run fault) (run-refusal fault) ran);
    short = λ s is x a b starts ran. absurd (refused-no-run (refusal_of_run fault) (run-refusal fault) ran);
    refused = λ s is x a b starts ref. (record { by = fault; is = refl; kept = kept-from s is x a b starts }, (refused x a b starts.begins starts.clocks).1);
    records = λ s is x a b starts sound may. absurd (none-caused old new x a b s fault sound may (kept-from s is x a b starts));
    finds = λ s is x a b starts sound not. record { by = fault; is = refl; kept = kept-from s is x a b starts };
    later = later;
    broke = broke;
    writes = writes-by;
    time = λ s is told. time-left;
    calm = λ ran. absurd (refused-no-run (refusal_of_run fault) (run-refusal fault) ran);
    still = λ ran. absurd (refused-no-run (refusal_of_run fault) (run-refusal fault) ran);
    told = λ ran. absurd (refused-no-run (refusal_of_run fault) (run-refusal fault) ran);
    counted = λ s is x a b starts ran. absurd (refused-no-run (refusal_of_run fault) (run-refusal fault) ran);
    early = λ s is told ref. record {
      by = fault;
      is = refl;
      when = subst (λ (t : ℕ). IsRefusedInOpening t (devices_of old) (devices_of new) outcome fault ⊎ IsFoundLater fault) (same-trace s is told).0 when;
    };
    unbroken = λ s is x a b starts sound counts. unbroken-log (log_of outcome) (refused x a b starts.begins starts.clocks).1.breaks;
    uncut = uncut-by;
    untorn = λ s is x a b starts ran c sound low. absurd (refused-no-run (refusal_of_run fault) (run-refusal fault) ran);
    whole = λ s is x a b starts uncut ran. absurd (refused-no-run (refusal_of_run fault) (run-refusal fault) ran);
  }
    where
      kept-from : (s : ℕ) (is : List Item) (x a b : List ℕ) → StartWith x a b s is old new → IsKeptFrom x a b s (devices_of old) (devices_of new) fault
      kept-from s is x a b starts =
          subst (λ (t : ℕ). IsKeptFrom x a b t (devices_of old) (devices_of new) fault) (same-trace s is starts.told).0 (refused x a b starts.begins starts.clocks).0

  -- THE RUN IS DONE
  pub cards-run : IsCoherent new.unit → ((x a b : List ℕ) → BeginAs x a b (devices_of old) → HaveTime (devices_of new) → EndsTrace x a b start items outcome (devices_of old) (devices_of new))
      → ((x a b : List ℕ) → BeginAs x a b (devices_of old) → MayRecord x a b start) → (cuts true (log_of outcome) ≡ [] → new.unit.breakdowns ≡ old.unit.breakdowns)
      → (tears true (log_of outcome) ≡ [] → (new.card_a.memory.breakdowns ≡ old.card_a.memory.breakdowns) × (new.card_b.memory.breakdowns ≡ old.card_b.memory.breakdowns))
      → BreakdownsAreTold (log_of outcome) (devices_of old) (devices_of new)
      → (fault : Fault) → IsRun fault → (fault ≡ WriteFault → Rose old.sink.faults new.sink.faults) → EndsWithCards old new outcome fault
  cards-run coherent recorded begun calm still told fault ran rose = record {
    with_cards = not-unit;
    run = λ s is x a b starts done. recorded-as s is x a b starts;
    short = λ s is x a b starts done. recorded-keeps x a b s is outcome (devices_of old) (devices_of new) coherent later.unit.clock (record { ends = recorded-as s is x a b starts; counted = counted-as s is x a b starts });
    refused = λ s is x a b starts ref. absurd (refused-no-run fault ref ran);
    records = λ s is x a b starts sound may. run-done old new fault ran rose sound.sink;
    finds = λ s is x a b starts sound not.
        absurd (not (subst (λ (t : ℕ). MayRecord x a b t) (same-trace s is starts.told).0 (begun x a b starts.begins)));
    later = later;
    broke = broke;
    writes = writes-by;
    time = λ s is told. time-left;
    calm = λ done. calm;
    still = λ done. still;
    told = λ done. told;
    counted = λ s is x a b starts done. counted-as s is x a b starts;
    early = λ s is told ref. absurd (refused-no-run fault ref ran);
    unbroken = unbroken-as;
    uncut = uncut-by;
    untorn = λ s is x a b starts done c sound low. inr
        (torn-none _ (breakdowns_of (devices_of old)) (breakdowns_of (devices_of new)) _ (log_of outcome) c low (card-unbroken old new later c sound) (recorded-as s is x a b starts).ends.caused.causes);
    whole = λ s is x a b starts uncut done. all-there x a b s is outcome (devices_of old) (devices_of new) (recorded-as s is x a b starts) uncut;
  }
    where
      recorded-as : (s : ℕ) (is : List Item) (x a b : List ℕ) → StartWith x a b s is old new → EndsTrace x a b s is outcome (devices_of old) (devices_of new)
      recorded-as s is x a b starts =
          let same = same-trace s is starts.told in
          subst (λ (t : ℕ). EndsTrace x a b t is outcome (devices_of old) (devices_of new)) same.0
          (subst (λ (l : List Item). EndsTrace x a b start l outcome (devices_of old) (devices_of new)) same.1 (recorded x a b starts.begins starts.clocks))

      counted-as : (s : ℕ) (is : List Item) (x a b : List ℕ) → StartWith x a b s is old new → BreakdownsAreCounted (recording_of x a b s is outcome) (devices_of old) (devices_of new)
      counted-as s is x a b starts = are-counted _ (recording_of x a b s is outcome) (devices_of old) (devices_of new) (recorded-as s is x a b starts).ends.caused.causes told

      unbroken-as : (s : ℕ) (is : List Item) (x a b : List ℕ) → StartWith x a b s is old new → AreSound old new → HaveCounts (devices_of old) → (cuts true (log_of outcome) ≡ []) × (tears true (log_of outcome) ≡ [])
      unbroken-as s is x a b starts sound counts =
          none-failed _ (breakdowns_of (devices_of old)) (breakdowns_of (devices_of new)) _ (log_of outcome) counts (none-broke old new sound later) (recorded x a b starts.begins starts.clocks).ends.caused.causes
