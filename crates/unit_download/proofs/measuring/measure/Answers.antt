use Rattle.std.proofs.Common.{List, ℕ, Err, ap, subst, refl}
use Rattle.std.specs.Prelude.{Some, IfSome}
use Rattle.std.specs.Io.KnownBytes.{Appends}
use Rattle.unit_model.specs.Decoding.{Decodes}
use Rattle.message_model.specs.Sending.{unit_file}
use Rattle.link_session.proofs.ServeFaults.{passed}
use Rattle.unit_download.specs.declared.fault.DownloadFault.TheVariants.{Changed}
use Rattle.unit_download.proofs.Faults.{fault_is, passed_reads}
use Rattle.unit_download.proofs.ToldDays.{measured-by}
use Rattle.unit_download.proofs.measuring.measure.Goals as goal

pub returns-clause-measured : goal.returns-clause-measured
returns-clause-measured g c =
    measured-by (g.U.Medium.state c.args.unit.now) c.held-bytes.result.now (record { bytes = _; days = c.day_count.result }) (g.met.U.Medium.coherent c.args.unit.now) c.requires.unit refl c.day_count.ensures c.holds_bytes.ensures
    (rw c.held-bytes.ensures (subst (λ (l : List ℕ). IfSome (g.U.Medium.state c.args.unit.now).image (λ x. Decodes x × Appends (Some l) (Some c.exchange_all.new.sink.held) (unit_file x))) c.requires.empty c.in_ok-exchange_all.ensures.downloaded.2.file))

pub returns-in_err-exchange_all-clause-changed : goal.returns-in_err-exchange_all-clause-changed
returns-in_err-exchange_all-clause-changed g c = λ is.
    c.in_err-exchange_all.ensures.downloaded.2.changed (ap Err (fault_is c.from_residual.result c.in_err-exchange_all.field-0.0 Changed c.from_residual.ensures.1 is))

pub returns-in_err-exchange_all-clause-bad : goal.returns-in_err-exchange_all-clause-bad
returns-in_err-exchange_all-clause-bad g c = passed c.from_residual.result _ _ c.from_residual.ensures.1 c.in_err-exchange_all.ensures.downloaded.2.bad

pub returns-in_err-exchange_all-clause-unit : goal.returns-in_err-exchange_all-clause-unit
returns-in_err-exchange_all-clause-unit g c = passed_reads c.from_residual.result c.in_err-exchange_all.field-0.0 c.from_residual.ensures.1 c.in_err-exchange_all.ensures.unit
