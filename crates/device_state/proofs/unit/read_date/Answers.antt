use Rattle.std.proofs.Common.{sym, inl}
use Rattle.tach_media.proofs.Runs.{no_reads}
use Rattle.unit_memory.proofs.Told.{one_told}
use Rattle.tach_media.proofs.Runs.{both_told}
use Rattle.device_state.proofs.ToldUnits.{none-at, date-of}
use Rattle.device_state.proofs.unit.read_date.Goals as goal

pub returns-then-days-nth-clause-date : goal.returns-then-days-nth-clause-date
returns-then-days-nth-clause-date g c =
    one_told (g.M.Medium.state c.args.unit.now).image _ c.requires.found (λ x found. sym (none-at x c.args.nth c.days-days.result (c.days-days.ensures.recorded x (inl found)) c.if-days-nth.true))

pub returns-then-days-nth-clause-reads : goal.returns-then-days-nth-clause-reads
returns-then-days-nth-clause-reads g c = no_reads (g.M.Medium.state c.args.unit.now) c.requires.works

pub returns-clause-date : goal.returns-clause-date
returns-clause-date g c =
    both_told (g.M.Medium.state c.args.unit.now).image _ c.requires.found c.in_ok-day.ensures.day (λ x is found day.
    let there = day (inl found) in
    date-of x c.args.nth there.0 c.in_ok-day.day there.1)
