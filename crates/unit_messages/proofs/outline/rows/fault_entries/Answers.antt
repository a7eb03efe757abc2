use Rattle.std.proofs.Common.{ap, subst, sym, arith}
use Rattle.unit_model.specs.declared.layout.TheConstants.{FAULTS}
use Rattle.unit_messages.specs.declared.entries.Entries.{Entries}
use Rattle.unit_messages.specs.Chosen.{AreEntries, entries_of}
use Rattle.unit_messages.proofs.outline.rows.fault_entries.Goals as goal

pub returns-clause-entries : goal.returns-clause-entries
returns-clause-entries c =
    let are : AreEntries (entries_of FAULTS.place 82 24) = record { inside = omega arith; gate = omega arith; narrow = omega arith; few = omega arith; room = omega arith } in
    subst AreEntries (sym c.table.ensures) are

pub returns-clause-each : goal.returns-clause-each
returns-clause-each c = ap (λ (a : Entries). a.choice) c.table.ensures
