-- How `minutes`, the forms that read a file, `help` and `--version` end, by what they answer.
use Rattle.std.proofs.Common.{◌≡◌, ◌≤◌, ◌<◌, ◌⊎◌, inl, inr, refl, ℕ, List, [], length, ap, subst, arith}
use Rattle.std.specs.Prelude.{Result, Ok, Err, Some, OnOk, IfErr, IsErrAnd}
use Rattle.std.specs.Io.KnownBytes.{Appends, IsAtEnd, Keeps}
use Rattle.tach_media.specs.Medium.{Rose}
use Rattle.tach_media.specs.Streams.{AppendsFront}
use Rattle.run_model.specs.declared.Device.{Device}
use Rattle.trace_text.specs.declared.lines_trace.Form.TheVariants.{Minutes as FormOfMinutes}
use Rattle.minute_model.specs.declared.Rule.{Rule}
use Rattle.trace_model.specs.declared.Item.{Item}
use Rattle.trace_text.specs.Judged.{IsTraceText, IsBadText, IsLongText, most_bytes}
use Rattle.tacho.specs.declared.end.Fault.{Fault}
use Rattle.tacho.specs.declared.end.Fault.TheVariants.{Done, Usage, BadTrace, TooLong, ReadFault, WriteFault, MediumFault, Memory, BadFile}
use Rattle.tacho.specs.declared.forms.Form.{Form}
use Rattle.tacho.specs.declared.forms.Form.TheVariants.{Minutes, Read, Help, Version}
use Rattle.tacho.specs.declared.forms.Reading.{Reading}
use Rattle.tacho.specs.End.{end_of, ended_by, IsUnread, IsUnprinted}
use Rattle.tacho.specs.Outside.{Outside}
use Rattle.tacho.specs.Minutes.{PrintsMinutes, IsMinutesEnd, EndsMinutes}
use Rattle.tacho.specs.Read.{Prints, IsBad, IsReadingEnd, EndsReading}
use Rattle.tacho.specs.Help.{help_text, version_text, IsTextEnd, EndsText}
use Rattle.run_outcome.specs.declared.outcome.Outcome.{Outcome}
use Rattle.tacho.specs.Outcomes.{IsEmpty}
use Rattle.tacho.specs.Program.{Ends, EndsForm, IsUnrecorded, IsUnpassed}
use Rattle.tacho.proofs.EndLaws.{prints-end, wanted-end, judges-trace}

pub ends-minutes : {T : Type 0} (rule : Rule) (old new : Outside) (r : Result T Fault)
    → ((text : List ℕ) → old.source.left ≡ Some text → OnOk r ((out : List ℕ) × PrintsMinutes rule text out × Appends old.sink.held new.sink.held out))
    → OnOk r (IsAtEnd new.source.left)
    → ((text : List ℕ) (n : ℕ) → old.source.left ≡ Some text → r ≡ Err (BadTrace n) → IsBadText FormOfMinutes text n)
    → ((text : List ℕ) (n : ℕ) → old.source.left ≡ Some text → r ≡ Err (TooLong n) → IsLongText FormOfMinutes text n)
    → (r ≡ Err ReadFault → Rose old.source.faults new.source.faults)
    → (r ≡ Err WriteFault → Rose old.sink.faults new.sink.faults)
    → ((text : List ℕ) (start : ℕ) (items : List Item) → old.source.left ≡ Some text → IsTraceText FormOfMinutes text start items → IfErr r IsUnprinted)
    → ((text : List ℕ) (n : ℕ) → old.source.left ≡ Some text → IsBadText FormOfMinutes text n → IsErrAnd r (λ fault. (fault ≡ BadTrace n) ⊎ IsUnread fault))
    → ((text : List ℕ) (n : ℕ) → old.source.left ≡ Some text → IsLongText FormOfMinutes text n → IsErrAnd r (λ fault. (fault ≡ TooLong n) ⊎ IsUnread fault))
    → ((text : List ℕ) → old.source.left ≡ Some text → r ≡ Err WriteFault → (out : List ℕ) × PrintsMinutes rule text out × AppendsFront old.sink.held new.sink.held out)
    → IfErr r (λ fault. (fault ≡ Done → ⊥) × IsMinutesEnd fault)
    → EndsMinutes rule old new (end_of r)
ends-minutes rule old new (Ok u) printed read bad long read_fault write_fault prints finds_bad finds_long front other = record {
  ends = tt;
  printed = λ text told is. printed text told;
  read = λ is. read;
  judges = judges-trace old.source new.source (Ok u) bad long read_fault finds_bad finds_long;
  prints = λ text start items told is no_read no_write. inl refl;
  front = λ text told is. absurd (cc);
}
ends-minutes rule old new (Err fault) printed read bad long read_fault write_fault prints finds_bad finds_long front other = record {
  ends = other.1;
  printed = λ text told is. absurd (other.0 is);
  read = λ is. absurd (other.0 is);
  judges = judges-trace old.source new.source (Err fault) bad long read_fault finds_bad finds_long;
  prints = λ text start items told is no_read no_write. prints-end fault (prints text start items told is) (λ e. no_read (read_fault (ap Err e))) (λ e. no_write (write_fault (ap Err e)));
  front = λ text told is. front text told (ap Err is);
}

-- where no stream failed and the file is not too long, it was shown or judged, or memory ran out
judged : (fault : Fault) → IsReadingEnd fault → (fault ≡ ReadFault → ⊥) → (fault ≡ WriteFault → ⊥) → ((n : ℕ) → fault ≡ TooLong n → ⊥)
    → (fault ≡ Done) ⊎ ((fault ≡ Memory) ⊎ ((place : ℕ) × (fault ≡ BadFile place)))
judged Done ends read write long = inl refl
judged Memory ends read write long = inr (inl refl)
judged (BadFile place) ends read write long = inr (inr (place, refl))
judged (TooLong n) ends read write long = absurd (long n refl)
judged ReadFault ends read write long = absurd (read refl)
judged WriteFault ends read write long = absurd (write refl)
judged _ ends read write long = absurd ends

pub ends-reading : {T : Type 0} (PrintsSo : (bytes out : List ℕ) → Type 0) (IsBadAt : (place : ℕ) → List ℕ → Type 0) (old new : Outside) (r : Result T Fault)
    → ((bytes : List ℕ) → old.source.left ≡ Some bytes → OnOk r ((out : List ℕ) × PrintsSo bytes out × Appends old.sink.held new.sink.held out))
    → OnOk r (IsAtEnd new.source.left)
    → ((bytes : List ℕ) (place : ℕ) → old.source.left ≡ Some bytes → r ≡ Err (BadFile place) → IsBadAt place bytes)
    → ((bytes : List ℕ) (n : ℕ) → old.source.left ≡ Some bytes → r ≡ Err (TooLong n) → (n ≡ 0) × (most_bytes < length bytes))
    → ((bytes : List ℕ) → old.source.left ≡ Some bytes → most_bytes < length bytes → IsErrAnd r (λ fault. (fault ≡ TooLong 0) ⊎ IsUnread fault))
    → (r ≡ Err ReadFault → Rose old.source.faults new.source.faults)
    → (r ≡ Err WriteFault → Rose old.sink.faults new.sink.faults)
    → ((bytes : List ℕ) → old.source.left ≡ Some bytes → r ≡ Err WriteFault → (out : List ℕ) × PrintsSo bytes out × AppendsFront old.sink.held new.sink.held out)
    → ((bytes : List ℕ) → old.source.left ≡ Some bytes → r ≡ Err Memory → Keeps old.sink.held new.sink.held ⊎ ((out : List ℕ) × PrintsSo bytes out × AppendsFront old.sink.held new.sink.held out))
    → IfErr r (λ fault. (fault ≡ Done → ⊥) × IsReadingEnd fault)
    → EndsReading PrintsSo IsBadAt old new (end_of r)
ends-reading PrintsSo IsBadAt old new (Ok u) printed read bad long finds_long read_fault write_fault front short other = record {
  ends = tt;
  printed = λ bytes told is. printed bytes told;
  read = λ is. read;
  bad_file = λ bytes place told is. absurd (cc);
  too_long = λ bytes n told is. absurd (cc);
  judges = λ bytes told few no_read no_write. inl refl;
  finds_too_long = λ bytes told many no_read. absurd (finds_long bytes told many);
  front = λ bytes told is. absurd (cc);
  short = λ bytes told is. absurd (cc);
}
ends-reading PrintsSo IsBadAt old new (Err fault) printed read bad long finds_long read_fault write_fault front short other = record {
  ends = other.1;
  printed = λ bytes told is. absurd (other.0 is);
  read = λ is. absurd (other.0 is);
  bad_file = λ bytes place told is. bad bytes place told (ap Err is);
  too_long = λ bytes n told is. long bytes n told (ap Err is);
  judges = λ bytes told few no_read no_write.
      judged fault other.1 (λ e. no_read (read_fault (ap Err e))) (λ e. no_write (write_fault (ap Err e)))
      (λ n e. let many = long bytes n told (ap Err e) in omega (arith, few, many.1));
  finds_too_long = λ bytes told many no_read. wanted-end fault (TooLong 0) (finds_long bytes told many) (λ e. no_read (read_fault (ap Err e)));
  front = λ bytes told is. front bytes told (ap Err is);
  short = λ bytes told is. short bytes told (ap Err is);
}

-- so the call ends that was asked for it, where the form uses the source and the sink alone
streams-end : {T : Type 0} (form : Form) (old new : Outside) (outcome : Outcome) (r : Result T Fault)
    → EndsForm form old new (ended_by outcome (end_of r)) → IsUnrecorded (Some form) outcome → IsUnpassed (Some form) []
    → (end_of r ≡ Usage → ⊥) → ((device : Device) → end_of r ≡ MediumFault device → ⊥)
    → (r ≡ Err ReadFault → Rose old.source.faults new.source.faults)
    → (r ≡ Err WriteFault → Rose old.sink.faults new.sink.faults)
    → (old.source.faults ≤ new.source.faults) × (old.sink.faults ≤ new.sink.faults)
    → Ends (Some form) old new (ended_by outcome (end_of r))
streams-end form old new outcome (Ok u) ends none none_passed no_usage no_medium read_fault write_fault counts = record {
  status = refl;
  usage = (λ is. absurd (cc), λ none. absurd (cc));
  form = ends;
  unrecorded = none;
  unpassed = none_passed;
  causes = record {
    read_fault = λ is. absurd (cc);
    write_fault = λ is. absurd (cc);
    medium_fault = λ device is. absurd (cc);
    reads = counts.0;
    writes = counts.1;
  };
}
streams-end form old new outcome (Err fault) ends none none_passed no_usage no_medium read_fault write_fault counts = record {
  status = refl;
  usage = (λ is. absurd (no_usage is), λ none. absurd (cc));
  form = ends;
  unrecorded = none;
  unpassed = none_passed;
  causes = record {
    read_fault = λ is. read_fault (ap Err is);
    write_fault = λ is. write_fault (ap Err is);
    medium_fault = λ device is. absurd (no_medium device is);
    reads = counts.0;
    writes = counts.1;
  };
}

pub minutes-ends : {T : Type 0} (rule : Rule) (old new : Outside) (r : Result T Fault)
    → EndsMinutes rule old new (end_of r)
    → (r ≡ Err ReadFault → Rose old.source.faults new.source.faults)
    → (r ≡ Err WriteFault → Rose old.sink.faults new.sink.faults)
    → (old.source.faults ≤ new.source.faults) × (old.sink.faults ≤ new.sink.faults)
    → (outcome : Outcome) → IsEmpty outcome
    → Ends (Some (Minutes rule)) old new (ended_by outcome (end_of r))
minutes-ends rule old new r ends read_fault write_fault counts outcome none =
    streams-end (Minutes rule) old new outcome r ends none refl (λ is. subst IsMinutesEnd is ends.ends) (λ device is. subst IsMinutesEnd is ends.ends) read_fault write_fault counts

pub reading-ends : {T : Type 0} (reading : Reading) (old new : Outside) (r : Result T Fault)
    → EndsReading (Prints reading) (IsBad reading) old new (end_of r)
    → (r ≡ Err ReadFault → Rose old.source.faults new.source.faults)
    → (r ≡ Err WriteFault → Rose old.sink.faults new.sink.faults)
    → (old.source.faults ≤ new.source.faults) × (old.sink.faults ≤ new.sink.faults)
    → (outcome : Outcome) → IsEmpty outcome
    → Ends (Some (Read reading)) old new (ended_by outcome (end_of r))
reading-ends reading old new r ends read_fault write_fault counts outcome none =
    streams-end (Read reading) old new outcome r ends none refl (λ is. subst IsReadingEnd is ends.ends) (λ device is. subst IsReadingEnd is ends.ends) read_fault write_fault counts

pub help-ends : {T : Type 0} (old new : Outside) (r : Result T Fault)
    → EndsText help_text old.sink new.sink (end_of r)
    → old.source.faults ≤ new.source.faults → old.sink.faults ≤ new.sink.faults
    → (outcome : Outcome) → IsEmpty outcome
    → Ends (Some Help) old new (ended_by outcome (end_of r))
help-ends old new r ends reads writes outcome none =
    streams-end Help old new outcome r ends none refl (λ is. subst IsTextEnd is ends.ends) (λ device is. subst IsTextEnd is ends.ends)
    (λ is. absurd (subst IsTextEnd (ap end_of is) ends.ends)) (λ is. ends.write_fault (ap end_of is)) (reads, writes)

pub version-ends : {T : Type 0} (old new : Outside) (r : Result T Fault)
    → EndsText version_text old.sink new.sink (end_of r)
    → old.source.faults ≤ new.source.faults → old.sink.faults ≤ new.sink.faults
    → (outcome : Outcome) → IsEmpty outcome
    → Ends (Some Version) old new (ended_by outcome (end_of r))
version-ends old new r ends reads writes outcome none =
    streams-end Version old new outcome r ends none refl (λ is. subst IsTextEnd is ends.ends) (λ device is. subst IsTextEnd is ends.ends)
    (λ is. absurd (subst IsTextEnd (ap end_of is) ends.ends)) (λ is. ends.write_fault (ap end_of is)) (reads, writes)

-- a text was printed, or the sink failed
pub no-other-end : (fault : Fault) → IsTextEnd fault → (fault ≡ Done → ⊥) → (fault ≡ WriteFault → ⊥) → ⊥
no-other-end Done ends done wrote = done refl
no-other-end WriteFault ends done wrote = wrote refl
no-other-end _ ends done wrote = ends
