use Rattle.std.proofs.lemmas.Grind.{common_steps}
use Rattle.std.proofs.Common.{rules, ◌≡◌, subst, arith}
use Rattle.card_layout.specs.declared.files.Application.{Application}
use Rattle.tach_media.specs.Medium.{State, LeavesOnly, lent}
use Rattle.card_commands.specs.Ports.{port_state}
use Rattle.card_files.specs.Noting.{IsNotingEvent}
use Rattle.card_session.specs.Inserting.{MayInsert}
use Rattle.device_calls.proofs.Ported.{may_insert_port, port_same, port_leaves}
use Rattle.device_calls.proofs.calls.note_event_on.Goals as goal

pub note_event-requires-clause-fits : goal.note_event-requires-clause-fits
note_event-requires-clause-fits g c =
    (subst (λ (a : Application). MayInsert a (port_state c.resume-port.result.application (lent c.resume-port.result.chip.ghost_name (g.C.Chip.state c.resume-port.result.chip.now)))) c.resume-port.ensures.sizes (may_insert_port c.resume-port.result.sound)).keep.fits

pub note_event-requires-clause-writable : goal.note_event-requires-clause-writable
note_event-requires-clause-writable g c =
    (subst (λ (a : Application). MayInsert a (port_state c.resume-port.result.application (lent c.resume-port.result.chip.ghost_name (g.C.Chip.state c.resume-port.result.chip.now)))) c.resume-port.ensures.sizes (may_insert_port c.resume-port.result.sound)).events

pub returns-clause-note : goal.returns-clause-note
returns-clause-note g c = record {
  noted = first_of (search rules, grind (arith, common_steps));
  moments =
      let name = c.resume-port.result.chip.ghost_name in
      let after = c.note_event.new.medium.chip.ghost_name in
      let X = g.C.Chip.state c.resume-port.result.chip.now in
      let Y = g.C.Chip.state c.note_event.new.medium.chip.now in
      let was : g.C.Chip.state c.resume-port.result.chip.now ≡ g.C.Chip.state c.args.card.now = search rules in
      let same = port_same c.resume-port.result.application c.note_event.new.medium.application name after X Y c.note_event.ensures.moments in
      let run = port_leaves c.resume-port.result.application c.note_event.new.medium.application name after X Y same c.note_event.ensures.moments in
      let moved = subst (λ (s : State). LeavesOnly s (g.C.Chip.state c.note_event.new.medium.chip.now) (IsNotingEvent c.args.app c.args.event.now)) was run in
      search (rules, moved);
}

pub returns-clause-card : goal.returns-clause-card
returns-clause-card g c = record {
  port = first_of (search rules, grind (arith, common_steps));
  settled = first_of (search rules, grind (arith, common_steps));
  cause = first_of (search rules, grind (arith, common_steps));
}
