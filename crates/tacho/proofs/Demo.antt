-- How `demo` ends, by what its calls answered.
use Rattle.std.proofs.Common.{◌≡◌, ◌∙◌, ◌≤◌, ℕ, inl, inr, ⊎_elim, refl, sym, subst, arith, true, false, Bool, List, [], ◌∷◌, ◌-◌, ◌*◌, length, Option, Some, None, length-append}
use Rattle.std.specs.Prelude.{Result, Ok, Err, OnOk, IfErr, IfSome}
use Rattle.std.specs.List.{flat_map}
use Rattle.std.specs.Io.KnownBytes.{Appends, Keeps}
use Rattle.tach_media.specs.Medium.{State, IsCoherent, Rose}
use Rattle.unit_model.specs.Decoding.{Decodes, first_bad_place}
use Rattle.tach_media.specs.Streams.{AppendsFront}
use Rattle.run_model.specs.declared.Device.{Device}
use Rattle.run_model.specs.declared.Device.TheVariants.{Unit as OfUnit, CardA, CardB}
use Rattle.trace_model.specs.declared.Item.{Item}
use Rattle.trace_model.specs.declared.Item.TheVariants.{Run}
use Rattle.trace_model.specs.Trace.{total_seconds}
use Rattle.unit_minutes.specs.Reading.{ReadsIfAny}
use Rattle.safety_model.specs.Safe.{Devices}
use Rattle.run_promise.specs.Between.{devices}
use Rattle.log_model.specs.Causes.{cuts}
use Rattle.recorder_with_cards.specs.Words.{HaveTime, log_of}
use Rattle.run_opening.specs.declared.fault.RunFault.TheVariants as run
use Rattle.recorder_with_cards.specs.Ends.{MayRecord}
use Rattle.run_opening.specs.Opening.{IsAsItWas}
use Rattle.run_outcome.specs.declared.outcome.Outcome.{Outcome}
use Rattle.unit_download.specs.declared.fault.DownloadFault.{DownloadFault}
use Rattle.unit_download.specs.declared.fault.DownloadFault.TheVariants as download
use Rattle.unit_download.specs.Ending.{has_failed, IfBad}
use Rattle.activity_codec.specs.declared.day.TheConstants.{DAY_SECONDS}
use Rattle.trace_text.specs.declared.drawn_trace.TheConstants.{PARTS, DAYS, FIRST_SECOND}
use Rattle.trace_text.specs.Demo.{starts, part_of, parts_of, day_of, days_of, demo_items}
use Rattle.recorder_with_cards.proofs.Writes.{writes-few}
use Rattle.trace_text.proofs.Groups.{length-starts, demo-whole}
use Rattle.tacho.specs.declared.anew.AnewFault.{AnewFault}
use Rattle.tacho.specs.declared.anew.AnewFault.TheVariants.{Unmade, Kept}
use Rattle.tacho.specs.Anew.{MayBeAnew, EndsAnew, WritesAnew, IsFailed, IsFailure}
use Rattle.tacho.proofs.Recordings.{none-bad}
use Rattle.tacho.proofs.DemoRead.{is-read, anew-read}
use Rattle.unit_download.specs.declared.measuring.FileSize.{FileSize}
use Rattle.unit_download.specs.Measures.{IsSizeOf}
use Rattle.tacho.specs.declared.demo_command.TheConstants.{VEHICLE, CARD}
use Rattle.tacho.specs.declared.end.Fault.{Fault}
use Rattle.tacho.specs.declared.end.Fault.TheVariants.{ReadFault, WriteFault, MediumFault, Memory, Changed}
use Rattle.tacho.specs.declared.forms.Form.TheVariants.{Demo}
use Rattle.tacho.specs.End.{end_of, ended_by}
use Rattle.tacho.specs.Outside.{Outside, memory_of}
use Rattle.tacho.specs.Outcomes.{IsEmpty, IsRun}
use Rattle.tacho.specs.CardsRecorded.{devices_of, AreSound, HaveLongTime}
use Rattle.tacho.specs.Formatting.{card_image, unit_image}
use Rattle.tacho.specs.Program.{Ends, HasCauses}
use Rattle.tacho.specs.Demo.{demo_text, refusal_anew, refusal_of_file, IsDemoEnd, StartAnew, IsDemonstrated, EndsDemo}

-- HOW MANY ITEMS a demonstration has
parts-count : (xs : List ℕ) → length (flat_map part_of xs) ≡ 3 * length xs
parts-count [] = refl
parts-count (x ∷ xs) = omega (arith, parts-count xs, length-append (part_of x) (flat_map part_of xs))

day-count : (x : ℕ) → length (day_of x) ≡ 25
unfolding day_of parts_of
day-count x = omega (arith, length-append (flat_map part_of (starts 3 PARTS x)) (Run (DAY_SECONDS - total_seconds (flat_map part_of (starts 3 PARTS x))) 0 ∷ []), parts-count (starts 3 PARTS x), length-starts 3 PARTS x)

days-count : (xs : List ℕ) → length (flat_map day_of xs) ≡ 25 * length xs
days-count [] = refl
days-count (x ∷ xs) = omega (arith, days-count xs, day-count x, length-append (day_of x) (flat_map day_of xs))

pub items-few : (x : ℕ) → length (demo_items x) ≤ 4294967295
unfolding days_of
items-few x = omega (arith, days-count (starts (3 * PARTS) DAYS x), length-starts (3 * PARTS) DAYS x)

-- what is held stays so
pub keeps-same : (held : Option (List ℕ)) → Keeps held held
keeps-same None = tt
keeps-same (Some bytes) = refl

-- a refusal is an end of `demo`, but none at which all is done
anew-ends : (fault : AnewFault) → IsDemoEnd (refusal_anew fault)
anew-ends (Unmade device) = tt
anew-ends (Kept (run.MediumFault device)) = tt
anew-ends (Kept (run.BadUnit place)) = tt
anew-ends (Kept (run.ClockBack kept second)) = tt
anew-ends (Kept (run.SameCard number)) = tt

anew-refused : (fault : AnewFault) → IsRun (refusal_anew fault) → ⊥
anew-refused (Unmade device) is = is
anew-refused (Kept (run.MediumFault device)) is = is
anew-refused (Kept (run.BadUnit place)) is = is
anew-refused (Kept (run.ClockBack kept second)) is = is
anew-refused (Kept (run.SameCard number)) is = is

anew-unchanged : (fault : AnewFault) → refusal_anew fault ≡ Changed → ⊥
anew-unchanged (Unmade device) is = cc
anew-unchanged (Kept (run.MediumFault device)) is = cc
anew-unchanged (Kept (run.BadUnit place)) is = cc
anew-unchanged (Kept (run.ClockBack kept second)) is = cc
anew-unchanged (Kept (run.SameCard number)) is = cc

file-ends : (fault : DownloadFault) → IsDemoEnd (refusal_of_file fault)
file-ends download.Failed = tt
file-ends (download.BadUnit place) = tt
file-ends download.Changed = tt
file-ends download.WriteFault = tt
file-ends download.Memory = tt

file-refused : (fault : DownloadFault) → IsRun (refusal_of_file fault) → ⊥
file-refused download.Failed is = is
file-refused (download.BadUnit place) is = is
file-refused download.Changed is = is
file-refused download.WriteFault is = is
file-refused download.Memory is = is

file-changed : (fault : DownloadFault) → refusal_of_file fault ≡ Changed → fault ≡ download.Changed
file-changed download.Changed is = refl
file-changed download.Failed is = absurd (cc)
file-changed (download.BadUnit place) is = absurd (cc)
file-changed download.WriteFault is = absurd (cc)
file-changed download.Memory is = absurd (cc)

-- what was read tells the image that was told before
same-image : (old new : State) (failed : Bool) → failed ≡ false → ReadsIfAny old new failed → new.image ≡ old.image
same-image old new failed fine reads = ⊎_elim (λ none. none.1.same) (λ some. some.same fine) reads

-- the cause of a failed download: the unit had failed no less often before it than at the start
unread-cause : (old new : Outside) (unit : State) (fault : DownloadFault) (device : Device) → old.unit.faults ≤ unit.faults → ReadsIfAny unit new.unit (has_failed {T = FileSize} (Err fault)) → refusal_of_file fault ≡ MediumFault device
    → Rose (memory_of device old).faults (memory_of device new).faults
unread-cause old new unit download.Failed device before reads is =
    let same : OfUnit ≡ device = cc in
    let rose : Rose unit.faults new.unit.faults = ⊎_elim (λ none. absurd (let e = none.0 in cc)) (λ some. some.cause.fault refl) reads in
    let since : Rose old.unit.faults new.unit.faults = omega (arith, before, rose) in
    subst (λ (d : Device). Rose (memory_of d old).faults (memory_of d new).faults) same since
unread-cause old new unit (download.BadUnit place) device before reads is = absurd (cc)
unread-cause old new unit download.Changed device before reads is = absurd (cc)
unread-cause old new unit download.WriteFault device before reads is = absurd (cc)
unread-cause old new unit download.Memory device before reads is = absurd (cc)

-- where nothing failed, and a run may begin on what was made, it is recorded
anew-unfinished : (old new : Outside) (fault : AnewFault) → AreSound old new → IsFailed fault (devices_of old) (devices_of new) → IsFailure fault → ⊥
anew-unfinished old new (Unmade OfUnit) sound failed only = sound.unit failed
anew-unfinished old new (Unmade CardA) sound failed only = sound.card_a failed
anew-unfinished old new (Unmade CardB) sound failed only = sound.card_b failed
anew-unfinished old new (Kept (run.MediumFault OfUnit)) sound failed only = sound.unit failed
anew-unfinished old new (Kept (run.MediumFault CardA)) sound failed only = sound.card_a failed
anew-unfinished old new (Kept (run.MediumFault CardB)) sound failed only = sound.card_b failed
anew-unfinished old new (Kept (run.BadUnit place)) sound failed only = only
anew-unfinished old new (Kept (run.ClockBack kept second)) sound failed only = only
anew-unfinished old new (Kept (run.SameCard number)) sound failed only = only

-- and then its unit is downloaded
unread-unfinished : (seed : ℕ) (old new : Outside) (outcome : Outcome) (unit : State) (b u : List ℕ) (fault : DownloadFault) → AreSound old new → (refusal_of_file fault ≡ Memory → ⊥) → old.unit.faults ≤ unit.faults → IsCoherent new.unit
    → ReadsIfAny unit new.unit (has_failed {T = FileSize} (Err fault)) → IfBad fault (λ place. IfSome unit.image (λ x. first_bad_place x ≡ Some place)) → (fault ≡ download.Changed → IfSome unit.image (λ x. ⊥))
    → IsDemonstrated seed b old new outcome → new.unit.image ≡ Some u → ⊥
unread-unfinished seed old new outcome unit b u download.Failed sound memory before whole reads bad changed recorded told = sound.unit (unread-cause old new unit download.Failed OfUnit before reads refl)
unread-unfinished seed old new outcome unit b u (download.BadUnit place) sound memory before whole reads bad changed recorded told =
    let same : unit.image ≡ Some u = sym (same-image unit new.unit false refl reads) ∙ told in
    let fails : first_bad_place u ≡ Some place = subst (λ (image : Option (List ℕ)). IfSome image (λ x. first_bad_place x ≡ Some place)) same bad in
    let decodes : Decodes u = recorded.ends.ends.safe.unit.decodes u (whole.counts_now recorded.unit_clock u recorded.unit_before (whole.is_left u told)) in
    none-bad u place decodes fails
unread-unfinished seed old new outcome unit b u download.Changed sound memory before whole reads bad changed recorded told =
    let same : unit.image ≡ Some u = sym (same-image unit new.unit false refl reads) ∙ told in
    let none = subst (λ (image : Option (List ℕ)). IfSome image (λ x. ⊥)) same (changed refl) in
    none
unread-unfinished seed old new outcome unit b u download.WriteFault sound memory before whole reads bad changed recorded told = memory refl
unread-unfinished seed old new outcome unit b u download.Memory sound memory before whole reads bad changed recorded told = memory refl

-- and so no clock comes to its end
demo-time : (seed failed : ℕ) (old new : Devices) → WritesAnew FIRST_SECOND (demo_items seed) failed old new → HaveLongTime old → HaveTime new
demo-time seed failed old new few long =
    let seconds = demo-whole seed in
    let items = items-few seed in
    let most = writes-few FIRST_SECOND (demo_items seed) failed in
    let on_unit = most.0 in
    let on_card = most.1 in
    record {
      unit = (let a = few.unit in let b = long.unit in omega (arith, a, b, on_unit, seconds, items));
      card_a = (let a = few.card_a in let b = long.card_a in omega (arith, a, b, on_card, seconds, items));
      card_b = (let a = few.card_b in let b = long.card_b in omega (arith, a, b, on_card, seconds, items));
    }

-- THERE WAS NO MEMORY, before a device was used
pub demo-memory : (seed : ℕ) (old new : Outside) (outcome : Outcome) → new.sink.held ≡ old.sink.held → IsEmpty outcome → IsAsItWas old.card_b.memory new.card_b.memory → WritesAnew FIRST_SECOND (demo_items seed) (length (cuts true (log_of outcome))) (devices_of old) (devices_of new) → EndsDemo seed old new outcome Memory
demo-memory seed old new outcome sink empty same few = record {
  ends = tt;
  writes = few;
  time = λ long. demo-time seed (length (cuts true (log_of outcome))) (devices_of old) (devices_of new) (few) long;
  run = λ b starts is. absurd is;
  put_down = λ b starts. inr (empty, same);
  printed = λ is. absurd (cc);
  front = λ is. absurd (cc);
  nothing = λ undone fine. subst (λ (held : Option (List ℕ)). Keeps old.sink.held held) (sym sink) (keeps-same old.sink.held);
  changed = λ is. absurd (cc);
  finishes = λ b u starts sound memory may told. absurd (memory refl);
}

-- THE DEVICES WERE NOT MADE NEW, or the trace was kept from being recorded
pub demo-refused : (seed : ℕ) (old new : Outside) (outcome : Outcome) (fault : AnewFault) → new.sink.held ≡ old.sink.held → ((b : List ℕ) → StartAnew b old new → IsEmpty outcome × IsAsItWas old.card_b.memory new.card_b.memory)
    → IsFailed fault (devices_of old) (devices_of new) → ((b : List ℕ) → StartAnew b old new → MayRecord (unit_image VEHICLE) (card_image CARD) b FIRST_SECOND → IsFailure fault) → WritesAnew FIRST_SECOND (demo_items seed) (length (cuts true (log_of outcome))) (devices_of old) (devices_of new) → EndsDemo seed old new outcome (refusal_anew fault)
demo-refused seed old new outcome fault sink empty failed only few = record {
  ends = anew-ends fault;
  writes = few;
  time = λ long. demo-time seed (length (cuts true (log_of outcome))) (devices_of old) (devices_of new) (few) long;
  run = λ b starts is. absurd (anew-refused fault is);
  put_down = λ b starts. inr (empty b starts);
  printed = λ is. absurd (anew-refused fault (subst IsRun (sym is) tt));
  front = λ is. absurd (anew-refused fault (subst IsRun (sym is) tt));
  nothing = λ undone fine. subst (λ (held : Option (List ℕ)). Keeps old.sink.held held) (sym sink) (keeps-same old.sink.held);
  changed = λ is. absurd (anew-unchanged fault is);
  finishes = λ b u starts sound memory may told. absurd (anew-unfinished old new fault sound failed (only b starts may));
}

-- what was recorded, and then the unit was read
recorded-so : (seed : ℕ) (old new : Outside) (outcome : Outcome) (unit : State) (failed : Bool) → ReadsIfAny unit new.unit failed
    → ((b : List ℕ) → MayBeAnew b (devices_of old) → HaveTime (devices unit new.card_a.memory new.card_b.memory) → EndsAnew (unit_image VEHICLE) (card_image CARD) b FIRST_SECOND (demo_items seed) outcome (devices_of old) (devices unit new.card_a.memory new.card_b.memory))
    → (b : List ℕ) → StartAnew b old new → IsDemonstrated seed b old new outcome
recorded-so seed old new outcome unit failed reads recorded b starts =
    let is = is-read unit new.unit failed reads in
    anew-read (unit_image VEHICLE) (card_image CARD) b FIRST_SECOND (demo_items seed) outcome (devices_of old) unit new.unit new.card_a.memory new.card_b.memory is
    (recorded b starts.may (record { unit = omega (arith, starts.clocks.unit, is.clock); card_a = starts.clocks.card_a; card_b = starts.clocks.card_b }))

-- so many writes began till then, and no more
written-so : (seed : ℕ) (old new : Outside) (outcome : Outcome) (unit : State) (failed : Bool) → ReadsIfAny unit new.unit failed → WritesAnew FIRST_SECOND (demo_items seed) (length (cuts true (log_of outcome))) (devices_of old) (devices unit new.card_a.memory new.card_b.memory) → WritesAnew FIRST_SECOND (demo_items seed) (length (cuts true (log_of outcome))) (devices_of old) (devices_of new)
written-so seed old new outcome unit failed reads few =
    let is = is-read unit new.unit failed reads in
    record { unit = (let same = is.clock in let most = few.unit in omega (arith, same, most)); card_a = few.card_a; card_b = few.card_b }

-- THE UNIT WAS NOT DOWNLOADED
pub demo-unread : (seed : ℕ) (old new : Outside) (outcome : Outcome) (unit : State) (fault : DownloadFault) → new.sink.held ≡ old.sink.held → ReadsIfAny unit new.unit (has_failed {T = FileSize} (Err fault))
    → ((b : List ℕ) → MayBeAnew b (devices_of old) → HaveTime (devices unit new.card_a.memory new.card_b.memory) → EndsAnew (unit_image VEHICLE) (card_image CARD) b FIRST_SECOND (demo_items seed) outcome (devices_of old) (devices unit new.card_a.memory new.card_b.memory))
    → (fault ≡ download.Changed → IfSome unit.image (λ x. ⊥))
    → old.unit.faults ≤ unit.faults → IsCoherent new.unit → IfBad fault (λ place. IfSome unit.image (λ x. first_bad_place x ≡ Some place))
    → WritesAnew FIRST_SECOND (demo_items seed) (length (cuts true (log_of outcome))) (devices_of old) (devices unit new.card_a.memory new.card_b.memory)
    → EndsDemo seed old new outcome (refusal_of_file fault)
demo-unread seed old new outcome unit fault sink reads recorded changed before whole bad few = record {
  ends = file-ends fault;
  writes = written-so seed old new outcome unit (has_failed {T = FileSize} (Err fault)) reads few;
  time = λ long. demo-time seed (length (cuts true (log_of outcome))) (devices_of old) (devices_of new) (written-so seed old new outcome unit (has_failed {T = FileSize} (Err fault)) reads few) long;
  run = λ b starts is. absurd (file-refused fault is);
  put_down = λ b starts. inl (recorded-so seed old new outcome unit (has_failed {T = FileSize} (Err fault)) reads recorded b starts);
  printed = λ is. absurd (file-refused fault (subst IsRun (sym is) tt));
  front = λ is. absurd (file-refused fault (subst IsRun (sym is) tt));
  nothing = λ undone fine. subst (λ (held : Option (List ℕ)). Keeps old.sink.held held) (sym sink) (keeps-same old.sink.held);
  changed = λ is.
      let of = file-changed fault is in
      let fine : has_failed {T = FileSize} (Err fault) ≡ false = subst (λ (f : DownloadFault). has_failed {T = FileSize} (Err f) ≡ false) (sym of) refl in
      subst (λ (image : Option (List ℕ)). IfSome image (λ u. ⊥)) (sym (same-image unit new.unit (has_failed {T = FileSize} (Err fault)) fine reads)) (changed of);
  finishes = λ b u starts sound memory may told.
      absurd (unread-unfinished seed old new outcome unit b u fault sound memory before whole reads bad changed (recorded-so seed old new outcome unit (has_failed {T = FileSize} (Err fault)) reads recorded b starts) told);
}

-- ALL IS DONE, and the seven lines were printed or the sink failed
pub demo-done : {T : Type 0} (seed : ℕ) (old new : Outside) (outcome : Outcome) (unit : State) (size : FileSize) (r : Result T Fault) → ReadsIfAny unit new.unit false
    → ((b : List ℕ) → MayBeAnew b (devices_of old) → HaveTime (devices unit new.card_a.memory new.card_b.memory) → EndsAnew (unit_image VEHICLE) (card_image CARD) b FIRST_SECOND (demo_items seed) outcome (devices_of old) (devices unit new.card_a.memory new.card_b.memory))
    → IfSome unit.image (λ x. IsSizeOf x size)
    → OnOk r (Appends old.sink.held new.sink.held (demo_text outcome size))
    → IfErr r (λ fault. (fault ≡ WriteFault) × AppendsFront old.sink.held new.sink.held (demo_text outcome size))
    → IfErr r (λ fault. Rose old.sink.faults new.sink.faults)
    → WritesAnew FIRST_SECOND (demo_items seed) (length (cuts true (log_of outcome))) (devices_of old) (devices unit new.card_a.memory new.card_b.memory)
    → EndsDemo seed old new outcome (end_of r)
demo-done seed old new outcome unit size (Ok u) reads recorded measured appends front rose few = record {
  ends = tt;
  writes = written-so seed old new outcome unit false reads few;
  time = λ long. demo-time seed (length (cuts true (log_of outcome))) (devices_of old) (devices_of new) (written-so seed old new outcome unit false reads few) long;
  run = λ b starts is. recorded-so seed old new outcome unit false reads recorded b starts;
  put_down = λ b starts. inl (recorded-so seed old new outcome unit false reads recorded b starts);
  printed = λ is. record { size = size; puts = appends; measured = subst (λ (image : Option (List ℕ)). IfSome image (λ x. IsSizeOf x size)) (sym (same-image unit new.unit false refl reads)) measured };
  front = λ is. absurd (cc);
  nothing = λ undone fine. absurd (undone refl);
  changed = λ is. absurd (cc);
  finishes = λ b v starts sound memory may told. refl;
}
demo-done seed old new outcome unit size (Err fault) reads recorded measured appends front rose few =
    subst (λ (f : Fault). EndsDemo seed old new outcome f) (sym front.0) (record {
      ends = tt;
      writes = written-so seed old new outcome unit false reads few;
      time = λ long. demo-time seed (length (cuts true (log_of outcome))) (devices_of old) (devices_of new) (written-so seed old new outcome unit false reads few) long;
      run = λ b starts is. recorded-so seed old new outcome unit false reads recorded b starts;
      put_down = λ b starts. inl (recorded-so seed old new outcome unit false reads recorded b starts);
      printed = λ is. absurd (cc);
      front = λ is. record { size = size; puts = front.1; measured = subst (λ (image : Option (List ℕ)). IfSome image (λ x. IsSizeOf x size)) (sym (same-image unit new.unit false refl reads)) measured };
      nothing = λ undone fine. absurd (fine refl);
      changed = λ is. absurd (cc);
      finishes = λ b v starts sound memory may told. absurd (sound.sink rose);
    })

never-write : (fault : DownloadFault) → refusal_of_file fault ≡ WriteFault → ⊥
never-write download.Failed is = cc
never-write (download.BadUnit place) is = cc
never-write download.Changed is = cc
never-write download.WriteFault is = cc
never-write download.Memory is = cc

pub unread-causes : (old new : Outside) (unit : State) (fault : DownloadFault) → old.unit.faults ≤ unit.faults → ReadsIfAny unit new.unit (has_failed {T = FileSize} (Err fault)) → old.source.faults ≤ new.source.faults → old.sink.faults ≤ new.sink.faults → HasCauses old new (refusal_of_file fault)
unread-causes old new unit fault before reads source sink = record {
  read_fault = λ is. absurd (subst IsDemoEnd is (file-ends fault));
  write_fault = λ is. absurd (never-write fault is);
  medium_fault = λ device is. unread-cause old new unit fault device before reads is;
  reads = source;
  writes = sink;
}

-- a device failed as it was made new, or in the opening
anew-cause : (old new : Outside) (fault : AnewFault) → IsFailed fault (devices_of old) (devices_of new) → (device : Device) → refusal_anew fault ≡ MediumFault device → Rose (memory_of device old).faults (memory_of device new).faults
anew-cause old new (Unmade OfUnit) failed device is = let same : OfUnit ≡ device = cc in subst (λ (d : Device). Rose (memory_of d old).faults (memory_of d new).faults) same failed
anew-cause old new (Unmade CardA) failed device is = let same : CardA ≡ device = cc in subst (λ (d : Device). Rose (memory_of d old).faults (memory_of d new).faults) same failed
anew-cause old new (Unmade CardB) failed device is = let same : CardB ≡ device = cc in subst (λ (d : Device). Rose (memory_of d old).faults (memory_of d new).faults) same failed
anew-cause old new (Kept (run.MediumFault OfUnit)) failed device is = let same : OfUnit ≡ device = cc in subst (λ (d : Device). Rose (memory_of d old).faults (memory_of d new).faults) same failed
anew-cause old new (Kept (run.MediumFault CardA)) failed device is = let same : CardA ≡ device = cc in subst (λ (d : Device). Rose (memory_of d old).faults (memory_of d new).faults) same failed
anew-cause old new (Kept (run.MediumFault CardB)) failed device is = let same : CardB ≡ device = cc in subst (λ (d : Device). Rose (memory_of d old).faults (memory_of d new).faults) same failed
anew-cause old new (Kept (run.BadUnit place)) failed device is = absurd (cc)
anew-cause old new (Kept (run.ClockBack kept second)) failed device is = absurd (cc)
anew-cause old new (Kept (run.SameCard number)) failed device is = absurd (cc)

pub anew-causes : (old new : Outside) (fault : AnewFault) → IsFailed fault (devices_of old) (devices_of new) → old.source.faults ≤ new.source.faults → old.sink.faults ≤ new.sink.faults → HasCauses old new (refusal_anew fault)
anew-causes old new fault failed source sink = record {
  read_fault = λ is. absurd (subst IsDemoEnd is (anew-ends fault));
  write_fault = λ is. absurd (anew-refused fault (subst IsRun (sym is) tt));
  medium_fault = λ device is. anew-cause old new fault failed device is;
  reads = source;
  writes = sink;
}

-- the lines were printed, or the sink failed
pub printed-causes : {T : Type 0} (old new : Outside) (r : Result T Fault) → IfErr r (λ fault. fault ≡ WriteFault) → IfErr r (λ fault. Rose old.sink.faults new.sink.faults) → old.source.faults ≤ new.source.faults → old.sink.faults ≤ new.sink.faults → HasCauses old new (end_of r)
printed-causes old new (Ok u) write rose source sink = record { read_fault = λ is. absurd (cc); write_fault = λ is. absurd (cc); medium_fault = λ device is. absurd (cc); reads = source; writes = sink }
printed-causes old new (Err fault) write rose source sink = record { read_fault = λ is. absurd (let bad : WriteFault ≡ ReadFault = sym write ∙ is in cc); write_fault = λ is. rose; medium_fault = λ device is. absurd (let bad : WriteFault ≡ MediumFault device = sym write ∙ is in cc); reads = source; writes = sink }

-- the first of two facts of a fault
pub first-of : {T : Type 0} (P Q : Fault → Type 0) (r : Result T Fault) → IfErr r (λ fault. P fault × Q fault) → IfErr r P
first-of P Q (Ok u) h = tt
first-of P Q (Err fault) h = h.0

-- what was recorded is the demonstration
pub as-demo : (seed : ℕ) (x a b : List ℕ) (start : ℕ) (items : List Item) (out : Outcome) (old now : Devices) → a ≡ card_image CARD → start ≡ FIRST_SECOND → items ≡ demo_items seed → EndsAnew x a b start items out old now → EndsAnew x (card_image CARD) b FIRST_SECOND (demo_items seed) out old now
as-demo seed x a b start items out old now image first all h =
    subst (λ (l : List Item). EndsAnew x (card_image CARD) b FIRST_SECOND l out old now) all
    (subst (λ (n : ℕ). EndsAnew x (card_image CARD) b n items out old now) first
    (subst (λ (l : List ℕ). EndsAnew x l b start items out old now) image h))

-- so many writes began as the demonstration takes
pub writes-demo : (seed start : ℕ) (items : List Item) (failed : ℕ) (old now : Devices) → start ≡ FIRST_SECOND → items ≡ demo_items seed → WritesAnew start items failed old now → WritesAnew FIRST_SECOND (demo_items seed) failed old now
writes-demo seed start items failed old now first all few =
    subst (λ (l : List Item). WritesAnew FIRST_SECOND l failed old now) all (subst (λ (n : ℕ). WritesAnew n items failed old now) first few)

-- so the call ends that was asked for it
pub demo-ends : {T : Type 0} (seed : ℕ) (old new : Outside) (outcome : Outcome) (r : Result T Fault) → EndsDemo seed old new outcome (end_of r) → HasCauses old new (end_of r) → Ends (Some (Demo seed)) old new (ended_by outcome (end_of r))
demo-ends seed old new outcome (Ok u) ends causes = record {
  status = refl;
  usage = (λ is. absurd (cc), λ none. absurd (cc));
  form = ends;
  unrecorded = tt;
  unpassed = refl;
  causes = causes;
}
demo-ends seed old new outcome (Err fault) ends causes = record {
  status = refl;
  usage = (λ is. absurd (subst IsDemoEnd is ends.ends), λ none. absurd (cc));
  form = ends;
  unrecorded = tt;
  unpassed = refl;
  causes = causes;
}
