use Rattle.std.proofs.Common.{◌∙◌, ap, refl, inr, arith, rules}
use Rattle.std.specs.Prelude.{is_err}
use Rattle.unit_model.specs.declared.layout.TheConstants.{EVENTS, OVERS, FAULTS}
use Rattle.unit_memory.proofs.Told.{told_all}
use Rattle.unit_minutes.proofs.IfAny.{read_same}
use Rattle.unit_messages.specs.declared.entries.Entries.{Entries}
use Rattle.unit_messages.specs.Chosen.{entries_of}
use Rattle.unit_messages.proofs.Calls.{any_then, any_failed}
use Rattle.unit_messages.proofs.Joints.{at_told}
use Rattle.unit_messages.proofs.Rings.{table_many}
use Rattle.unit_messages.proofs.Outlining.{overs_few}
use Rattle.unit_messages.proofs.outline.finding.event_outline.Goals as goal

pub returns-clause-events : goal.returns-clause-events
returns-clause-events g c =
    told_all (g.M.Medium.state c.args.unit.now).image _ (λ x told.
    let s1 = read_same c.in_ok-faults.ensures.reads ∙ told in
    let s2 = read_same c.in_ok-events.ensures.reads ∙ s1 in
    let s3 = read_same c.in_ok-overs.ensures.reads ∙ s2 in
    let s4 = c.in_ok-first_over.ensures.reads.same refl ∙ s3 in
    let few = overs_few x (at_told _ x told c.requires.decodes) in
    let overs = at_told _ x s4 c.in_ok-over_count.ensures.value in
    record {
      faults = table_many c.fault_entries.result (entries_of FAULTS.place 82 24) x c.in_ok-faults.faults c.fault_entries.ensures.is refl (at_told _ x told c.in_ok-faults.ensures.count);
      events = table_many c.event_entries.result (entries_of EVENTS.place 83 60) x c.in_ok-events.events c.event_entries.ensures.is refl (at_told _ x s1 c.in_ok-events.ensures.count);
      overs = table_many c.over_entries.result (entries_of OVERS.place 31 10) x c.in_ok-overs.overs c.over_entries.ensures.is refl (at_told _ x s2 c.in_ok-overs.ensures.count);
      first_over = at_told _ x s3 c.in_ok-first_over.ensures.value;
      over_count = omega (arith, c.min.ensures, overs, few);
    })

pub returns-clause-range : goal.returns-clause-range
returns-clause-range g c = record {
  faults = omega (arith, c.in_ok-faults.ensures.few, ap (λ (a : Entries). a.count) c.fault_entries.ensures.is);
  events = omega (arith, c.in_ok-events.ensures.few, ap (λ (a : Entries). a.count) c.event_entries.ensures.is);
  overs = omega (arith, c.in_ok-overs.ensures.few, ap (λ (a : Entries). a.count) c.over_entries.ensures.is);
  over_count = omega (arith, c.min.ensures);
}

pub returns-in_err-events-clause-reads : goal.returns-in_err-events-clause-reads
returns-in_err-events-clause-reads g c =
    any_failed (is_err c.from_residual-in_err-events.result) (search rules) (any_then c.in_ok-faults.ensures.reads c.in_err-events.ensures.reads)

pub returns-in_err-overs-clause-reads : goal.returns-in_err-overs-clause-reads
returns-in_err-overs-clause-reads g c =
    any_failed (is_err c.from_residual-in_err-overs.result) (search rules) (any_then (any_then c.in_ok-faults.ensures.reads c.in_ok-events.ensures.reads) c.in_err-overs.ensures.reads)

pub returns-in_err-first_over-clause-reads : goal.returns-in_err-first_over-clause-reads
returns-in_err-first_over-clause-reads g c =
    any_failed (is_err c.from_residual-in_err-first_over.result) (search rules)
    (any_then (any_then (any_then c.in_ok-faults.ensures.reads c.in_ok-events.ensures.reads) c.in_ok-overs.ensures.reads) (inr c.in_err-first_over.ensures.reads))

pub returns-in_err-over_count-clause-reads : goal.returns-in_err-over_count-clause-reads
returns-in_err-over_count-clause-reads g c =
    any_failed (is_err c.from_residual-in_err-over_count.result) (search rules)
    (any_then (any_then (any_then (any_then c.in_ok-faults.ensures.reads c.in_ok-events.ensures.reads) c.in_ok-overs.ensures.reads) (inr c.in_ok-first_over.ensures.reads)) (inr c.in_err-over_count.ensures.reads))

pub returns-clause-reads : goal.returns-clause-reads
returns-clause-reads g c =
    any_then (any_then (any_then (any_then c.in_ok-faults.ensures.reads c.in_ok-events.ensures.reads) c.in_ok-overs.ensures.reads) (inr c.in_ok-first_over.ensures.reads)) (inr c.in_ok-over_count.ensures.reads)
