-- A fault of a service of lines that was passed on.
use Rattle.std.proofs.Common.{◌≡◌, Result, Ok, Err, sym, subst}
use Rattle.std.specs.Prelude.{IsErrAnd}
use Rattle.tach_media.specs.Medium.{State}
use Rattle.unit_minutes.specs.Reading.{ReadsIfAny}
use Rattle.link_session.specs.ServedLines.{have_failed}
use Rattle.link_session.specs.declared.fault.LinesFault.{LinesFault}

-- what it says of the unit
pub lines_reads : {T : Type 0} {old new : State} (r : Result T LinesFault) (e : LinesFault) → IsErrAnd r (λ v. v ≡ e) → ReadsIfAny old new (have_failed {T = Unit {0}} (Err e)) → ReadsIfAny old new (have_failed r)
lines_reads (Ok x) e is reads = absurd is
lines_reads {T} {old} {new} (Err v) e is reads = subst (λ (f : LinesFault). ReadsIfAny old new (have_failed {T = Unit {0}} (Err f))) (sym is) reads
