use Rattle.std.proofs.Common.{ap, subst, sym, arith}
use Rattle.unit_model.specs.declared.layout.TheConstants.{EVENTS}
use Rattle.unit_messages.specs.declared.entries.Entries.{Entries}
use Rattle.unit_messages.specs.Chosen.{AreEntries, entries_of}
use Rattle.unit_messages.proofs.outline.rows.event_entries.Goals as goal

pub returns-clause-entries : goal.returns-clause-entries
returns-clause-entries c =
    let are : AreEntries (entries_of EVENTS.place 83 60) = record { inside = omega arith; gate = omega arith; narrow = omega arith; few = omega arith; room = omega arith } in
    subst AreEntries (sym c.table.ensures) are

pub returns-clause-each : goal.returns-clause-each
returns-clause-each c = ap (λ (a : Entries). a.choice) c.table.ensures
