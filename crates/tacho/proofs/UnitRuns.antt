-- How a trace without a card's line ends that is recorded on the unit alone.
use Rattle.std.proofs.Common.{◌≡◌, ◌∙◌, ◌≤◌, ◌<◌, ◌⊎◌, ℕ, ◌+◌, ◌^◌, ◌/◌, inl, inr, ⊎_elim, refl, ap, sym, subst, arith, true, List, [], length, Option, Some, None}
use Rattle.std.specs.Prelude.{IfSome, is_some}
use Rattle.tach_media.specs.Medium.{State, IsCoherent, LeavesOnly, Unchanged, Rose, HasBroken, HasBrokenAtMost, last_count}
use Rattle.run_model.specs.declared.Device.{Device}
use Rattle.run_model.specs.declared.Device.TheVariants.{Unit as OfUnit, CardA, CardB}
use Rattle.trace_model.specs.declared.Item.{Item}
use Rattle.trace_model.specs.Trace.{seconds_of, total_seconds}
use Rattle.trace_text.specs.declared.lines_trace.Form.TheVariants.{Whole}
use Rattle.trace_text.specs.Judged.{IsTraceText}
use Rattle.log_model.proofs.Spanning.{seconds-order}
use Rattle.unit_model.specs.Image.{recorded as days_in, odometer_at, last_kept}
use Rattle.unit_model.specs.Decoding.{Decodes, first_bad_place}
use Rattle.unit_model.specs.Versions.{rule_of}
use Rattle.safety_model.specs.Recording.{Recording, start_of}
use Rattle.run_opening.specs.declared.fault.RunFault.{RunFault}
use Rattle.run_opening.specs.declared.fault.RunFault.TheVariants as run
use Rattle.run_opening.specs.Units.{IsUnitRefused}
use Rattle.recorder_with_cards.specs.Words.{log_of, IsFoundLater, IsLater}
use Rattle.recorder_with_cards.specs.Writes.{unit_writes}
use Rattle.recorder_with_cards.proofs.Writes.{writes-few}
use Rattle.log_model.specs.Causes.{cuts, tears}
use Rattle.recorder_with_cards.specs.Ends.{recording_of}
use Rattle.recorder_with_cards.proofs.WholeOdometer.{whole-odometer, day-whole}
use Rattle.run_outcome.specs.declared.outcome.Outcome.{Outcome}
use Rattle.tacho.specs.declared.end.Fault.{Fault}
use Rattle.tacho.specs.declared.end.Fault.TheVariants.{Done, Usage, BadTrace, TooLong, BadUnit, ClockBack, SameCard, ReadFault, WriteFault, MediumFault, Memory, BadFile, BadCard, Changed, FileFault, LinkEnded}
use Rattle.tacho.specs.Blank.{no_image}
use Rattle.tacho.specs.Alone.{IsForUnit, NoVerdict, StartsAs, IsUnitFault, IsRefusedAlone}
use Rattle.tacho.specs.Outside.{Outside, memory_of}
use Rattle.tacho.specs.Program.{HasCauses}
use Rattle.tacho.specs.Outcomes.{IsEmpty, IsRun, IsRefusal, SourceTells, refusal_of_run}
use Rattle.tacho.specs.UnitRecorded.{breakdowns_in, IsSound, HaveCounts, Starts, IsRecorded, IsKept, IsAllThere, IsCaused, EndsOnUnit}
use Rattle.tacho.proofs.Recordings.{none-bad, run-refusal, refused-no-run}
use Rattle.tacho.proofs.Unbroken.{none-failed, unbroken-log, cut-none}
use Rattle.short_promise.proofs.Short.{keeps-alone}

-- the image that a unit tells behind reads alone is the one that it started with
pub told-still : (x y : List ℕ) (old new : State) → IsCoherent old → IsCoherent new → StartsAs x old → LeavesOnly old new Unchanged → new.image ≡ Some y → y ≡ x
told-still x y old new before after alone only told =
    let left : old.may_leave y = ⊎_elim (λ l. l) (λ none. absurd none.2) (only.now y (after.is_left y told)) in
    alone.only y (before.counts_now old.clock y (omega arith) left)

pub still : (x : List ℕ) (old new : State) (P : List ℕ → Type 0) → IsCoherent old → IsCoherent new → StartsAs x old → LeavesOnly old new Unchanged → IfSome new.image P → P x
still x old new P before after alone only holds = by_image new.image refl holds
  where
    by_image : (o : Option (List ℕ)) → new.image ≡ o → IfSome o P → P x
    by_image (Some y) told p = subst P (told-still x y old new before after alone only told) p
    by_image None told p =
        let e : is_some new.image ≡ true = only.tells ∙ alone.tells in
        let f = rw told at e in absurd (cc)

-- when a trace was refused, where the outcome had no line
pub refused-on-unit : (start : ℕ) (before after : Outcome) (U V : State) (by : RunFault) → IsEmpty before → IsRefusedAlone start before after U V by
    → (IsUnitRefused start U V by × LeavesOnly U V Unchanged × IsEmpty after) ⊎ IsFoundLater by
refused-on-unit start before after U V by empty refused = ⊎_elim (λ h. inl (h.0, h.1, subst IsEmpty (sym h.2) empty)) (λ late. inr late) refused

-- so many writes are those of the trace that was read
writes-as : (old new : State) (start s : ℕ) (items is : List Item) (failed : ℕ) → start ≡ s → items ≡ is → new.clock ≤ old.clock + unit_writes start items failed → new.clock ≤ old.clock + unit_writes s is failed
writes-as old new start s items is failed first all few =
    subst (λ (l : List Item). new.clock ≤ old.clock + unit_writes s l failed) all (subst (λ (n : ℕ). new.clock ≤ old.clock + unit_writes n items failed) first few)

-- THE RUN WAS REFUSED by the unit
module _ (old new : Outside) (outcome : Outcome) (start : ℕ) (items : List Item)
    (whole : IsCoherent old.unit) (whole_new : IsCoherent new.unit) (for_unit : IsForUnit items)
    (is_read : (text : List ℕ) (s : ℕ) (is : List Item) → old.source.left ≡ Some text → IsTraceText Whole text s is → (start ≡ s) × (items ≡ is))
    (short : total_seconds items ≤ 2 ^ 32) (few : length items ≤ 2 ^ 32) where
  only-lines : (s : ℕ) (is : List Item) → SourceTells old s is → IsForUnit is
  only-lines s is told = subst IsForUnit (is_read told.text s is told.told told.trace).1 for_unit

  on-read : (fault : RunFault) → (IsUnitRefused start old.unit new.unit fault × LeavesOnly old.unit new.unit Unchanged × IsEmpty outcome) ⊎ IsFoundLater fault → (s : ℕ) (is : List Item) → SourceTells old s is
      → (IsUnitRefused s old.unit new.unit fault × LeavesOnly old.unit new.unit Unchanged × IsEmpty outcome) ⊎ IsFoundLater fault
  on-read fault when s is told =
      subst (λ (t : ℕ). (IsUnitRefused t old.unit new.unit fault × LeavesOnly old.unit new.unit Unchanged × IsEmpty outcome) ⊎ IsFoundLater fault) (is_read told.text s is told.told told.trace).0 when

  writes-by : new.unit.clock ≤ old.unit.clock + unit_writes start items (length (cuts true (log_of outcome))) → (s : ℕ) (is : List Item) → SourceTells old s is → new.unit.clock ≤ old.unit.clock + unit_writes s is (length (cuts true (log_of outcome)))
  writes-by writes s is told =
      let same = is_read told.text s is told.told told.trace in
      writes-as old.unit new.unit start s items is (length (cuts true (log_of outcome))) same.0 same.1 writes

  time-by : new.unit.clock ≤ old.unit.clock + unit_writes start items (length (cuts true (log_of outcome))) → (s : ℕ) (is : List Item) → SourceTells old s is → old.unit.clock < 2 ^ 63 → new.unit.clock < last_count
  time-by writes s is told long = let most = (writes-few start items (length (cuts true (log_of outcome)))).0 in omega (arith, writes, most, long, short, few)

  pub unit-refused : (fault : RunFault) → IsUnitFault old.unit new.unit fault → IsLater old.unit new.unit → HasBroken old.unit new.unit (length (cuts true (log_of outcome))) → new.unit.clock ≤ old.unit.clock + unit_writes start items (length (cuts true (log_of outcome)))
      → (IsUnitRefused start old.unit new.unit fault × LeavesOnly old.unit new.unit Unchanged × IsEmpty outcome) ⊎ IsFoundLater fault
      → ((x : List ℕ) → StartsAs x old.unit → new.unit.clock < last_count → IsUnitRefused start old.unit new.unit fault × LeavesOnly old.unit new.unit Unchanged × IsEmpty outcome)
      → EndsOnUnit old new outcome (refusal_of_run fault)
  unit-refused (run.MediumFault device) of_unit later broke writes when refused = record {
    for_unit = only-lines;
    only = λ d is. let e : device ≡ d = cc in sym e ∙ of_unit.0;
    run = λ s is x told starts no. absurd no;
    short = λ s is x told starts no. absurd no;
    caused = λ s is x told starts no. absurd no;
    bad_unit = λ place x starts is. absurd (cc);
    clock_back = λ kept second x starts is. absurd (cc);
    refused = λ x starts is. let r = refused x starts.alone starts.clock in (r.1, r.2);
    records = λ s is x told starts sound decodes late. absurd (sound.unit of_unit.1);
    finds_bad_unit = λ s is x place told starts sound bad. absurd (sound.unit of_unit.1);
    finds_clock_back = λ s is x told starts sound decodes back. absurd (sound.unit of_unit.1);
    later = later;
    broke = broke;
    writes = writes-by writes;
    time = time-by writes;
    calm = λ no. absurd no;
    told = λ no. absurd no;
    early = λ s is told ref. record { by = (run.MediumFault device); is = refl; when = on-read (run.MediumFault device) when s is told };
    uncut = cut-none old.unit new.unit (log_of outcome) later.unbroken broke;
    unbroken = λ s is x told starts sound counts. unbroken-log (log_of outcome) (refused x starts.alone starts.clock).2.breaks;
    whole = λ s is x told starts sound counts no. absurd no;
  }
  unit-refused (run.BadUnit place) of_unit later broke writes when refused =
      let bad : (x : List ℕ) → Starts x old.unit new.unit → first_bad_place x ≡ Some place = λ x starts.
      let r = refused x starts.alone starts.clock in still x old.unit new.unit (λ y. first_bad_place y ≡ Some place) whole whole_new starts.alone r.1 r.0 in
      record {
        for_unit = only-lines;
        only = λ device is. absurd (cc);
        run = λ s is x told starts no. absurd no;
        short = λ s is x told starts no. absurd no;
        caused = λ s is x told starts no. absurd no;
        bad_unit = λ p x starts is. let e : place ≡ p = cc in bad x starts ∙ ap Some e;
        clock_back = λ kept second x starts is. absurd (cc);
        refused = λ x starts is. let r = refused x starts.alone starts.clock in (r.1, r.2);
        records = λ s is x told starts sound decodes late. absurd (none-bad x place decodes (bad x starts));
        finds_bad_unit = λ s is x p told starts sound found. let e : Some place ≡ Some p = sym (bad x starts) ∙ found in let f : place ≡ p = cc in ap BadUnit f;
        finds_clock_back = λ s is x told starts sound decodes back. absurd (none-bad x place decodes (bad x starts));
        later = later;
        broke = broke;
        writes = writes-by writes;
        time = time-by writes;
        calm = λ no. absurd no;
        told = λ no. absurd no;
        early = λ s is told ref. record { by = (run.BadUnit place); is = refl; when = on-read (run.BadUnit place) when s is told };
        uncut = cut-none old.unit new.unit (log_of outcome) later.unbroken broke;
        unbroken = λ s is x told starts sound counts. unbroken-log (log_of outcome) (refused x starts.alone starts.clock).2.breaks;
        whole = λ s is x told starts sound counts no. absurd no;
      }
  unit-refused (run.ClockBack kept second) of_unit later broke writes when refused =
      let found : (x : List ℕ) → Starts x old.unit new.unit → Decodes x × (last_kept x ≡ kept) = λ x starts.
      let r = refused x starts.alone starts.clock in still x old.unit new.unit (λ y. Decodes y × (last_kept y ≡ kept)) whole whole_new starts.alone r.1 r.0.2 in
      let at : (x : List ℕ) → Starts x old.unit new.unit → (second ≡ start) × (start / 60 ≤ kept) = λ x starts.
      let r = refused x starts.alone starts.clock in (r.0.0, r.0.1) in
      record {
        for_unit = only-lines;
        only = λ device is. absurd (cc);
        run = λ s is x told starts no. absurd no;
        short = λ s is x told starts no. absurd no;
        caused = λ s is x told starts no. absurd no;
        bad_unit = λ p x starts is. absurd (cc);
        clock_back = λ k t x starts is.
            let e : kept ≡ k = cc in let f : second ≡ t = cc in
            let have = found x starts in let w = at x starts in
            (have.0, have.1 ∙ e, subst (λ (u : ℕ). u / 60 ≤ k) (sym w.0 ∙ f) (subst (λ (u : ℕ). start / 60 ≤ u) e w.1));
        refused = λ x starts is. let r = refused x starts.alone starts.clock in (r.1, r.2);
        records = λ s is x told starts sound decodes late.
            let same = (is_read told.text s is told.told told.trace).0 in
            let kept_is = (found x starts).1 in let w = (at x starts).1 in
            let late_here : last_kept x < start / 60 = subst (λ (u : ℕ). last_kept x < u / 60) (sym same) late in
            absurd (omega (arith, late_here, kept_is, w));
        finds_bad_unit = λ s is x p told starts sound bad. absurd (none-bad x p (found x starts).0 bad);
        finds_clock_back = λ s is x told starts sound decodes back.
            let same = (is_read told.text s is told.told told.trace).0 in
            let kept_is = (found x starts).1 in let w = (at x starts).0 in
            ap (λ (k : ℕ). ClockBack k second) (sym kept_is) ∙ ap (ClockBack (last_kept x)) (w ∙ same);
        later = later;
        broke = broke;
        writes = writes-by writes;
        time = time-by writes;
        calm = λ no. absurd no;
        told = λ no. absurd no;
        early = λ s is told ref. record { by = (run.ClockBack kept second); is = refl; when = on-read (run.ClockBack kept second) when s is told };
        uncut = cut-none old.unit new.unit (log_of outcome) later.unbroken broke;
        unbroken = λ s is x told starts sound counts. unbroken-log (log_of outcome) (refused x starts.alone starts.clock).2.breaks;
        whole = λ s is x told starts sound counts no. absurd no;
      }
  unit-refused (run.SameCard number) of_unit later broke writes when refused = absurd of_unit

-- the cause of a refusal that names a device
unit-cause : (old new : Outside) (fault : RunFault) → IsUnitFault old.unit new.unit fault → (device : Device) → refusal_of_run fault ≡ MediumFault device → Rose (memory_of device old).faults (memory_of device new).faults
unit-cause old new (run.MediumFault failed) h device is =
    let named : failed ≡ device = cc in
    subst (λ (d : Device). Rose (memory_of d old).faults (memory_of d new).faults) (sym h.0 ∙ named) h.1
unit-cause old new (run.BadUnit place) h device is = absurd (cc)
unit-cause old new (run.ClockBack kept second) h device is = absurd (cc)
unit-cause old new (run.SameCard number) h device is = absurd h

pub unit-causes : (old new : Outside) (fault : RunFault) → IsUnitFault old.unit new.unit fault → old.source.faults ≤ new.source.faults → old.sink.faults ≤ new.sink.faults → HasCauses old new (refusal_of_run fault)
unit-causes old new fault h source sink = record {
  read_fault = λ is. absurd (subst IsRefusal is (run-refusal fault));
  write_fault = λ is. absurd (subst IsRefusal is (run-refusal fault));
  medium_fault = unit-cause old new fault h;
  reads = source;
  writes = sink;
}

-- a run that went well, or could not be printed, is done where no call failed
pub run-done : (old new : Outside) (fault : Fault) → IsRun fault → (fault ≡ WriteFault → Rose old.sink.faults new.sink.faults) → (Rose old.sink.faults new.sink.faults → ⊥) → fault ≡ Done
run-done old new Done is rose sound = refl
run-done old new WriteFault is rose sound = absurd (sound (rose refl))
run-done old new Usage is rose sound = absurd is
run-done old new (BadTrace n) is rose sound = absurd is
run-done old new (TooLong n) is rose sound = absurd is
run-done old new (BadUnit place) is rose sound = absurd is
run-done old new (ClockBack kept second) is rose sound = absurd is
run-done old new (SameCard number) is rose sound = absurd is
run-done old new ReadFault is rose sound = absurd is
run-done old new (MediumFault device) is rose sound = absurd is
run-done old new Memory is rose sound = absurd is
run-done old new (BadFile place) is rose sound = absurd is
run-done old new (BadCard field) is rose sound = absurd is
run-done old new Changed is rose sound = absurd is
run-done old new FileFault is rose sound = absurd is
run-done old new LinkEnded is rose sound = absurd is

-- THE RUN IS DONE
pub unit-run : (old new : Outside) (outcome : Outcome) (start : ℕ) (items : List Item) → IsForUnit items
    → ((text : List ℕ) (s : ℕ) (is : List Item) → old.source.left ≡ Some text → IsTraceText Whole text s is → (start ≡ s) × (items ≡ is))
    → total_seconds items ≤ 2 ^ 32 → length items ≤ 2 ^ 32
    → ((x : List ℕ) → StartsAs x old.unit → new.unit.clock < last_count → IsRecorded x start items outcome old.unit new.unit)
    → ((x : List ℕ) → StartsAs x old.unit → new.unit.clock < last_count → IsCaused old new start items outcome)
    → ((x : List ℕ) → StartsAs x old.unit → Decodes x × (last_kept x < start / 60))
    → HasBroken old.unit new.unit (length (cuts true (log_of outcome))) → new.unit.clock ≤ old.unit.clock + unit_writes start items (length (cuts true (log_of outcome))) → (cuts true (log_of outcome) ≡ [] → new.unit.breakdowns ≡ old.unit.breakdowns) → HasBrokenAtMost old.unit new.unit (length (cuts true (log_of outcome))) → IsLater old.unit new.unit → new.card_a.memory ≡ old.card_a.memory → new.card_b.memory ≡ old.card_b.memory
    → (fault : Fault) → IsRun fault → (fault ≡ WriteFault → Rose old.sink.faults new.sink.faults) → EndsOnUnit old new outcome fault
unit-run old new outcome start items for_unit is_read short few recorded caused begun broke writes calm told later same_a same_b fault ran rose = record {
  for_unit = λ s is told. subst IsForUnit (is_read told.text s is told.told told.trace).1 for_unit;
  only = λ device is. absurd (subst IsRun is ran);
  run = λ s is x told starts done. of_trace s is x (is_read told.text s is told.told told.trace) (recorded x starts.alone starts.clock);
  short = λ s is x told starts done. short_of s is x (is_read told.text s is told.told told.trace) (in_short x starts);
  caused = λ s is x told starts done. of_causes s is (is_read told.text s is told.told told.trace) (caused x starts.alone starts.clock);
  bad_unit = λ place x starts is. absurd (subst IsRun is ran);
  clock_back = λ kept second x starts is. absurd (subst IsRun is ran);
  refused = λ x starts is. absurd (refused-no-run fault is ran);
  records = λ s is x told starts sound decodes late. run-done old new fault ran rose sound.sink;
  finds_bad_unit = λ s is x place told starts sound bad. absurd (none-bad x place (begun x starts.alone).0 bad);
  finds_clock_back = λ s is x told starts sound decodes back. absurd (not_back s x (is_read told.text s is told.told told.trace).0 (begun x starts.alone).1 back);
  later = later;
  broke = broke;
  writes = λ s is told.
      let same = is_read told.text s is told.told told.trace in
      writes-as old.unit new.unit start s items is (length (cuts true (log_of outcome))) same.0 same.1 writes;
  time = λ s is told long. (let most = (writes-few start items (length (cuts true (log_of outcome)))).0 in omega (arith, writes, most, long, short, few));
  calm = λ done. calm;
  told = λ done. told;
  early = λ s is told ref. absurd (refused-no-run fault ref ran);
  uncut = cut-none old.unit new.unit (log_of outcome) later.unbroken broke;
  unbroken = λ s is x told starts sound counts. unbroken_as x starts sound counts;
  whole = λ s is x told starts sound counts done cards. there s is x (of_trace s is x (is_read told.text s is told.told told.trace) (recorded x starts.alone starts.clock)) (unbroken_as x starts sound counts).0 cards;
}
  where
    there : (s : ℕ) (is : List Item) (x : List ℕ) → IsRecorded x s is outcome old.unit new.unit → cuts true (log_of outcome) ≡ [] → IsAllThere x s is outcome new.unit
    there s is x h none cards =
        let f = h cards in
        let w = f.whole none in
        let r : Recording = recording_of x no_image no_image s is outcome in
        let own = (h (start_of r)).whole none in (
          w.0,
          λ y left. (
            w.1 y left,
            whole-odometer (rule_of x) cards (log_of outcome) s (seconds_of s is) (seconds-order s is) w.0 (days_in x) (odometer_at x) y (w.1 y left) (f.odometer y left),
            λ day odometer records. ⊎_elim (λ was. inl was) (λ begun. inr (day-whole r s (seconds-order s is) own.0 y (own.1 y left) day odometer begun)) (f.days y left day odometer records),
          ),
        )

    none_broke : IsSound old new → (device : Device) → breakdowns_in new device ≡ breakdowns_in old device
    none_broke sound OfUnit = ⊎_elim (λ failed. absurd (sound.unit failed)) (λ same. same) later.unbroken
    none_broke sound CardA = ap (λ (s : State). s.breakdowns) same_a
    none_broke sound CardB = ap (λ (s : State). s.breakdowns) same_b

    unbroken_as : (x : List ℕ) → Starts x old.unit new.unit → IsSound old new → HaveCounts old → (cuts true (log_of outcome) ≡ []) × (tears true (log_of outcome) ≡ [])
    unbroken_as x starts sound counts = none-failed NoVerdict (breakdowns_in old) (breakdowns_in new) _ (log_of outcome) counts (none_broke sound) (caused x starts.alone starts.clock)

    of_trace : (s : ℕ) (is : List Item) (x : List ℕ) → (start ≡ s) × (items ≡ is) → IsRecorded x start items outcome old.unit new.unit → IsRecorded x s is outcome old.unit new.unit
    of_trace s is x same h = subst (λ (t : ℕ). IsRecorded x t is outcome old.unit new.unit) same.0 (subst (λ (l : List Item). IsRecorded x start l outcome old.unit new.unit) same.1 h)

    counted : new.unit.breakdowns < last_count → new.unit.breakdowns ≡ old.unit.breakdowns + length (cuts true (log_of outcome))
    counted below = let most = told below in let least = broke.breakdowns in omega (arith, most, least, below)

    in_short : (x : List ℕ) → Starts x old.unit new.unit → IsKept x start items outcome old.unit new.unit
    in_short x starts cards =
        let f = recorded x starts.alone starts.clock cards in
        let may = begun x starts.alone in
        keeps-alone x (rule_of x) cards (log_of outcome) (seconds_of start items) start may.0 may.1 (seconds-order start items) outcome.marks.items old.unit new.unit f.safe f.last.last f.last.began f.last.held
        (record { acknowledged = f.complete; counted = counted })

    short_of : (s : ℕ) (is : List Item) (x : List ℕ) → (start ≡ s) × (items ≡ is) → IsKept x start items outcome old.unit new.unit → IsKept x s is outcome old.unit new.unit
    short_of s is x same h = subst (λ (t : ℕ). IsKept x t is outcome old.unit new.unit) same.0 (subst (λ (l : List Item). IsKept x start l outcome old.unit new.unit) same.1 h)

    of_causes : (s : ℕ) (is : List Item) → (start ≡ s) × (items ≡ is) → IsCaused old new start items outcome → IsCaused old new s is outcome
    of_causes s is same h = subst (λ (t : ℕ). IsCaused old new t is outcome) same.0 (subst (λ (l : List Item). IsCaused old new start l outcome) same.1 h)

    not_back : (s : ℕ) (x : List ℕ) → start ≡ s → last_kept x < start / 60 → s / 60 ≤ last_kept x → ⊥
    not_back s x same late back = let here : last_kept x < s / 60 = subst (λ (t : ℕ). last_kept x < t / 60) same late in omega (arith, here, back)
