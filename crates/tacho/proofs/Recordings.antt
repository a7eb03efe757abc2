-- How `record` ends, by what its calls answered: whatever the trace was recorded on.
use Rattle.std.proofs.Common.{◌≡◌, ℕ, inl, refl, sym, subst, List, [], ◌∷◌, Some}
use Rattle.std.specs.Prelude.{Result, Ok, Err, OnOk, IfErr, IsTrue}
use Rattle.std.specs.List.{list_all}
use Rattle.std.specs.Io.KnownBytes.{Appends, IsAtEnd}
use Rattle.activity_codec.proofs.ByTest.{by_test}
use Rattle.tach_media.specs.Medium.{Rose}
use Rattle.tach_media.specs.Streams.{AppendsFront}
use Rattle.trace_model.specs.declared.Item.{Item}
use Rattle.trace_text.specs.declared.lines_trace.Form.TheVariants.{Whole}
use Rattle.trace_text.specs.declared.lines_trace.TraceFault.{TraceFault}
use Rattle.trace_text.specs.declared.lines_trace.TraceFault.TheVariants as trace
use Rattle.trace_text.specs.Judged.{IsTraceText, IsBadText, IsLongText, IsFailure}
use Rattle.unit_model.specs.Decoding.{Decodes, Check, first_failing, first_bad_place, checks}
use Rattle.run_opening.specs.declared.fault.RunFault.{RunFault}
use Rattle.run_opening.specs.declared.fault.RunFault.TheVariants as run
use Rattle.run_outcome.specs.declared.outcome.Outcome.{Outcome}
use Rattle.run_outcome.specs.Room.{IsReserved}
use Rattle.tacho.specs.declared.end.Fault.{Fault}
use Rattle.tacho.specs.declared.end.Fault.TheVariants.{Done, Usage, BadTrace, TooLong, BadUnit, ClockBack, SameCard, ReadFault, WriteFault, MediumFault, Memory, BadFile, BadCard, Changed, FileFault, LinkEnded}
use Rattle.tacho.specs.declared.forms.Form.TheVariants.{Record}
use Rattle.tacho.specs.End.{end_of, ended_by, refusal_of, IsBeforeDevices}
use Rattle.tacho.specs.Outside.{Outside, SourceTold}
use Rattle.tacho.specs.Program.{Ends, HasCauses}
use Rattle.tacho.specs.Reading.{JudgesTrace}
use Rattle.tacho.specs.Outcomes.{IsEmpty, outcome_text, IsRecordEnd, IsRun, IsRefusal, refusal_of_run}
use Rattle.tacho.specs.Recorded.{EndsOn, EndsRecord}

-- an outcome that was reserved has no line
pub reserved-empty : (items : List Item) (outcome : Outcome) → IsReserved items outcome → IsEmpty outcome
reserved-empty items outcome is = record { marks = rw is.marks refl; breaks = rw is.breaks refl; refused = rw is.refused refl; finds = rw is.finds refl }

none-fails : (cs : List Check) (place : ℕ) → IsTrue (list_all (λ c. c.passes) cs) → first_failing cs ≡ Some place → ⊥
none-fails [] place all is = cc
none-fails (c ∷ cs) place all is =
    by_test c.passes
    (λ passes. none-fails cs place (rw passes at all) (rw passes at is))
    (λ fails. let e = rw fails at all in absurd (cc))

-- an image that decodes has no bad place
pub none-bad : (x : List ℕ) (place : ℕ) → Decodes x → first_bad_place x ≡ Some place → ⊥
unfolding Decodes first_bad_place
none-bad x place decodes bad = none-fails (checks x) place decodes bad

-- a trace was read, so the text is neither bad nor too long
pub judges-well : (old new : SourceTold) (fault : Fault)
    → ((n : ℕ) → fault ≡ BadTrace n → ⊥) → ((n : ℕ) → fault ≡ TooLong n → ⊥)
    → ((text : List ℕ) (n : ℕ) → old.left ≡ Some text → IsBadText Whole text n → ⊥)
    → ((text : List ℕ) (n : ℕ) → old.left ≡ Some text → IsLongText Whole text n → ⊥)
    → JudgesTrace Whole old new fault
judges-well old new fault not_bad not_long no_bad no_long = record {
  bad_trace = λ text n told is. absurd (not_bad n is);
  too_long = λ text n told is. absurd (not_long n is);
  finds_bad_trace = λ text n told is no_read. absurd (no_bad text n told is);
  finds_too_long = λ text n told is no_read. absurd (no_long text n told is);
}

-- each fault of a run is a refusal
pub run-refusal : (fault : RunFault) → IsRefusal (refusal_of_run fault)
run-refusal (run.MediumFault device) = tt
run-refusal (run.BadUnit place) = tt
run-refusal (run.ClockBack kept second) = tt
run-refusal (run.SameCard number) = tt

-- a run is no refusal, and neither comes before the devices are used
pub refused-no-run : (fault : Fault) → IsRefusal fault → IsRun fault → ⊥
refused-no-run (BadUnit place) refused run = run
refused-no-run (ClockBack kept second) refused run = run
refused-no-run (SameCard number) refused run = run
refused-no-run (MediumFault device) refused run = run
refused-no-run Done refused run = refused
refused-no-run Usage refused run = refused
refused-no-run (BadTrace n) refused run = refused
refused-no-run (TooLong n) refused run = refused
refused-no-run ReadFault refused run = refused
refused-no-run WriteFault refused run = refused
refused-no-run Memory refused run = refused
refused-no-run (BadFile place) refused run = refused
refused-no-run (BadCard field) refused run = refused
refused-no-run Changed refused run = refused
refused-no-run FileFault refused run = refused
refused-no-run LinkEnded refused run = refused

refused-late : (fault : Fault) → IsRefusal fault → IsBeforeDevices fault → ⊥
refused-late (BadUnit place) refused early = early
refused-late (ClockBack kept second) refused early = early
refused-late (SameCard number) refused early = early
refused-late (MediumFault device) refused early = early
refused-late Done refused early = refused
refused-late Usage refused early = refused
refused-late (BadTrace n) refused early = refused
refused-late (TooLong n) refused early = refused
refused-late ReadFault refused early = refused
refused-late WriteFault refused early = refused
refused-late Memory refused early = refused
refused-late (BadFile place) refused early = refused
refused-late (BadCard field) refused early = refused
refused-late Changed refused early = refused
refused-late FileFault refused early = refused
refused-late LinkEnded refused early = refused

refused-ends : (fault : Fault) → IsRefusal fault → IsRecordEnd fault
refused-ends (BadUnit place) refused = tt
refused-ends (ClockBack kept second) refused = tt
refused-ends (SameCard number) refused = tt
refused-ends (MediumFault device) refused = tt
refused-ends Done refused = tt
refused-ends Usage refused = refused
refused-ends (BadTrace n) refused = tt
refused-ends (TooLong n) refused = tt
refused-ends ReadFault refused = tt
refused-ends WriteFault refused = tt
refused-ends Memory refused = tt
refused-ends (BadFile place) refused = refused
refused-ends (BadCard field) refused = refused
refused-ends Changed refused = refused
refused-ends FileFault refused = refused
refused-ends LinkEnded refused = refused

-- NO TRACE WAS READ
pub ends-unread : (old new : Outside) (outcome : Outcome) (fault : TraceFault) → JudgesTrace Whole old.source new.source (refusal_of fault) → IsEmpty outcome
    → ((text : List ℕ) (start : ℕ) (items : List Item) → old.source.left ≡ Some text → IsTraceText Whole text start items → IsFailure fault)
    → (fault ≡ trace.ReadFault → Rose old.source.faults new.source.faults)
    → EndsRecord old new outcome (refusal_of fault)
ends-unread old new outcome trace.ReadFault judges empty failed rose = record {
  ends = tt;
  judges = judges;
  read = λ run. absurd run;
  unread = λ early. empty;
  memory = λ start items told no_read early. absurd (no_read (rose refl));
  on = inl tt;
  printed = λ is. absurd (cc);
  front = λ is. absurd (cc);
}
ends-unread old new outcome (trace.BadLine n) judges empty failed rose = record {
  ends = tt;
  judges = judges;
  read = λ run. absurd run;
  unread = λ early. empty;
  memory = λ start items told no_read early. absurd (failed told.text start items told.told told.trace);
  on = inl tt;
  printed = λ is. absurd (cc);
  front = λ is. absurd (cc);
}
ends-unread old new outcome (trace.TooLong n) judges empty failed rose = record {
  ends = tt;
  judges = judges;
  read = λ run. absurd run;
  unread = λ early. empty;
  memory = λ start items told no_read early. absurd (failed told.text start items told.told told.trace);
  on = inl tt;
  printed = λ is. absurd (cc);
  front = λ is. absurd (cc);
}
ends-unread old new outcome trace.Memory judges empty failed rose = record {
  ends = tt;
  judges = judges;
  read = λ run. absurd run;
  unread = λ early. empty;
  memory = λ start items told no_read early. refl;
  on = inl tt;
  printed = λ is. absurd (cc);
  front = λ is. absurd (cc);
}

-- THERE WAS NO MEMORY for what a trace can bring
pub ends-short : (old new : Outside) (outcome : Outcome)
    → ((text : List ℕ) (n : ℕ) → old.source.left ≡ Some text → IsBadText Whole text n → ⊥)
    → ((text : List ℕ) (n : ℕ) → old.source.left ≡ Some text → IsLongText Whole text n → ⊥)
    → IsEmpty outcome → EndsRecord old new outcome Memory
ends-short old new outcome no_bad no_long empty = record {
  ends = tt;
  judges = judges-well old.source new.source Memory (λ n is. cc) (λ n is. cc) no_bad no_long;
  read = λ run. absurd run;
  unread = λ early. empty;
  memory = λ start items told no_read early. refl;
  on = inl tt;
  printed = λ is. absurd (cc);
  front = λ is. absurd (cc);
}

-- THE RUN WAS REFUSED
pub ends-refused : (old new : Outside) (outcome : Outcome) (fault : Fault)
    → ((text : List ℕ) (n : ℕ) → old.source.left ≡ Some text → IsBadText Whole text n → ⊥)
    → ((text : List ℕ) (n : ℕ) → old.source.left ≡ Some text → IsLongText Whole text n → ⊥)
    → IsRefusal fault → EndsOn old new outcome fault → EndsRecord old new outcome fault
ends-refused old new outcome fault no_bad no_long is on = record {
  ends = refused-ends fault is;
  judges = judges-well old.source new.source fault (λ n e. subst IsRefusal e is) (λ n e. subst IsRefusal e is) no_bad no_long;
  read = λ run. absurd (refused-no-run fault is run);
  unread = λ early. absurd (refused-late fault is early);
  memory = λ start items told no_read early. absurd (refused-late fault is early);
  on = on;
  printed = λ e. absurd (subst IsRefusal e is);
  front = λ e. absurd (subst IsRefusal e is);
}

-- THE RUN IS DONE, and the five lines were printed or the sink failed
pub ends-run : {T : Type 0} (old new : Outside) (outcome : Outcome) (r : Result T Fault)
    → IsAtEnd new.source.left
    → ((text : List ℕ) (n : ℕ) → old.source.left ≡ Some text → IsBadText Whole text n → ⊥)
    → ((text : List ℕ) (n : ℕ) → old.source.left ≡ Some text → IsLongText Whole text n → ⊥)
    → ((fault : Fault) → IsRun fault → (fault ≡ WriteFault → Rose old.sink.faults new.sink.faults) → EndsOn old new outcome fault)
    → OnOk r (Appends old.sink.held new.sink.held (outcome_text outcome))
    → IfErr r (λ fault. (fault ≡ WriteFault) × AppendsFront old.sink.held new.sink.held (outcome_text outcome))
    → IfErr r (λ fault. Rose old.sink.faults new.sink.faults)
    → EndsRecord old new outcome (end_of r)
ends-run old new outcome (Ok u) read no_bad no_long on appends front rose = record {
  ends = tt;
  judges = judges-well old.source new.source Done (λ n is. cc) (λ n is. cc) no_bad no_long;
  read = λ is. read;
  unread = λ is. absurd is;
  memory = λ start items told no_read is. absurd is;
  on = on Done tt (λ is. absurd (cc));
  printed = λ is. appends;
  front = λ is. absurd (cc);
}
ends-run old new outcome (Err fault) read no_bad no_long on appends front rose =
    subst (EndsRecord old new outcome) (sym front.0) (record {
      ends = tt;
      judges = judges-well old.source new.source WriteFault (λ n is. cc) (λ n is. cc) no_bad no_long;
      read = λ is. read;
      unread = λ is. absurd is;
      memory = λ start items told no_read is. absurd is;
      on = on WriteFault tt (λ is. rose);
      printed = λ is. absurd (cc);
      front = λ is. front.1;
    })

-- so the call ends that was asked for it
pub record-ends : {T : Type 0} (old new : Outside) (outcome : Outcome) (r : Result T Fault)
    → EndsRecord old new outcome (end_of r) → HasCauses old new (end_of r)
    → Ends (Some Record) old new (ended_by outcome (end_of r))
record-ends old new outcome (Ok u) ends causes = record {
  status = refl;
  usage = (λ is. absurd (cc), λ none. absurd (cc));
  form = ends;
  unrecorded = tt;
  unpassed = refl;
  causes = causes;
}
record-ends old new outcome (Err fault) ends causes = record {
  status = refl;
  usage = (λ is. absurd (subst IsRecordEnd is ends.ends), λ none. absurd (cc));
  form = ends;
  unrecorded = tt;
  unpassed = refl;
  causes = causes;
}
