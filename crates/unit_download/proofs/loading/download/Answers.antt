use Rattle.std.proofs.lemmas.Grind.{common_steps}
use Rattle.std.proofs.Common.{rules, arith}
use Rattle.unit_download.proofs.Talking.{nothing_began, told_download}
use Rattle.unit_download.proofs.loading.download.Goals as goal

pub returns-in_err-reserve-clause-downloaded : goal.returns-in_err-reserve-clause-downloaded
returns-in_err-reserve-clause-downloaded g c = record {
  downloaded = nothing_began c.from_residual.result _ _ _ c.from_residual.ensures.1 c.requires.fresh;
  file = first_of (search rules, grind (arith, common_steps));
  front = first_of (search rules, grind (arith, common_steps));
  changed = first_of (search rules, grind (arith, common_steps));
  bad = first_of (search rules, grind (arith, common_steps));
  nothing = first_of (search rules, grind (arith, common_steps));
}

pub returns-clause-downloaded : goal.returns-clause-downloaded
returns-clause-downloaded g c =
    let d = c.exchange_all.ensures.downloaded in
    told_download c.exchange_all.result (g.U.Medium.state c.args.unit.now).image c.exchange_all.new.wire d.0 (g.K.Sink.held c.args.sink.now) (g.K.Sink.held c.exchange_all.new.sink) d.1 d.2

pub returns-in_err-reserve-clause-faults : goal.returns-in_err-reserve-clause-faults
returns-in_err-reserve-clause-faults g c = record {
  cause = first_of (search rules, grind (arith, common_steps));
  counts = first_of (search rules, grind (arith, common_steps));
}

pub returns-clause-faults : goal.returns-clause-faults
returns-clause-faults g c = c.exchange_all.ensures.faults
