use Rattle.std.proofs.Common.{◌∙◌, sym, arith}
use Rattle.unit_memory.proofs.Told.{told_all}
use Rattle.unit_messages.proofs.Calls.{no_call}
use Rattle.unit_messages.proofs.Joints.{at_told}
use Rattle.unit_messages.proofs.Rings.{table_over, table_read}
use Rattle.unit_messages.proofs.outline.rows.pass_table.Goals as goal

pub returns-then-over-clause-passed : goal.returns-then-over-clause-passed
returns-then-over-clause-passed g c =
    let e = c.args.entries.now in
    told_all (g.M.Medium.state c.args.unit.now).image _ (λ x told many.
    table_over e x c.passes_over-over.new.self c.pass_byte.new.window c.args.window.now c.args.count c.requires.entries (omega (arith, c.requires.unit, (g.met.M.Medium.coherent c.args.unit.now).sized x told)) c.requires.each many
    c.pass_byte.ensures (λ bytes long. c.passes_over-over.ensures.over c.if-over.true bytes (long ∙ sym c.bytes_of-len.ensures)))

pub returns-then-over-clause-reads : goal.returns-then-over-clause-reads
returns-then-over-clause-reads g c = no_call (g.M.Medium.state c.args.unit.now)

pub returns-clause-passed : goal.returns-clause-passed
returns-clause-passed g c =
    let e = c.args.entries.now in
    told_all (g.M.Medium.state c.args.unit.now).image _ (λ x told many.
    table_read e x c.pass.new.window c.pass_byte.new.window c.passes_over-over.new.self c.args.window.now c.args.count c.requires.each many c.pass_byte.ensures (c.passes_over-over.ensures.same c.if-over.false)
    (at_told _ x told c.in_ok-pass.ensures.passed))
