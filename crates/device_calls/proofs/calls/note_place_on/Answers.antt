use Rattle.std.proofs.lemmas.Grind.{common_steps}
use Rattle.std.proofs.Common.{rules, ◌≡◌, ◌∙◌, ℕ, ◌<◌, Some, List, ap, sym, subst, arith}
use Rattle.card_layout.specs.declared.files.Application.{Application}
use Rattle.card_layout.specs.Files.{place_of, size_of}
use Rattle.std.specs.Prelude.{OnOk, IfSome, Result}
use Rattle.tach_media.specs.Medium.{State, LeavesOnly, LiesInside, IsSettled, last_count, lent}
use Rattle.tach_media.proofs.Runs.{at_image, ok_gives, on_ok}
use Rattle.card_commands.specs.Ports.{port_state, writable_of}
use Rattle.card_validity.specs.card_image.Fields.{file}
use Rattle.card_session.specs.gated_ring.Ring.{PointsInside}
use Rattle.card_files.specs.Rings.{place_ring}
use Rattle.card_files.specs.Noting.{IsNotingPlace}
use Rattle.card_session.specs.Sessions.{MayKeep}
use Rattle.device_calls.proofs.Ported.{may_keep_port, port_same, port_leaves}
use Rattle.device_calls.proofs.Places.{places_may}
use Rattle.device_calls.proofs.calls.note_place_on.Goals as goal

pub note_place-requires-clause-fits : goal.note_place-requires-clause-fits
note_place-requires-clause-fits g c =
    (subst (λ (a : Application). MayKeep a (port_state c.resume-port.result.application (lent c.resume-port.result.chip.ghost_name (g.C.Chip.state c.resume-port.result.chip.now)))) c.resume-port.ensures.sizes (may_keep_port c.resume-port.result.sound)).fits

pub note_place-requires-clause-writable : goal.note_place-requires-clause-writable
note_place-requires-clause-writable g c =
    subst (λ (a : Application). LiesInside (writable_of a) (place_of c.args.app (file 0x0506)) (size_of c.args.app (file 0x0506))) (sym c.resume-port.ensures.sizes) (places_may c.args.app)

pub returns-clause-note : goal.returns-clause-note
returns-clause-note g c = record {
  noted = first_of (search rules, grind (arith, common_steps));
  bad = first_of (search rules, grind (arith, common_steps));
  moments =
      let name = c.resume-port.result.chip.ghost_name in
      let after = c.note_place.new.medium.chip.ghost_name in
      let X = g.C.Chip.state c.resume-port.result.chip.now in
      let Y = g.C.Chip.state c.note_place.new.medium.chip.now in
      let was : g.C.Chip.state c.resume-port.result.chip.now ≡ g.C.Chip.state c.args.card.now = search rules in
      let same = port_same c.resume-port.result.application c.note_place.new.medium.application name after X Y c.note_place.ensures.moments in
      let run = port_leaves c.resume-port.result.application c.note_place.new.medium.application name after X Y same c.note_place.ensures.moments in
      let moved = subst (λ (s : State). LeavesOnly s (g.C.Chip.state c.note_place.new.medium.chip.now) (IsNotingPlace c.args.app c.args.entry.now)) was run in
      search (rules, moved);
}

settled-on : {E : Type 0} (r : Result (Unit {0}) E) (s t : State) → s ≡ t → OnOk r (s.clock < last_count → IsSettled s) → OnOk r (t.clock < last_count → IsSettled t)
settled-on r s t same settled = subst (λ (k : State). OnOk r (k.clock < last_count → IsSettled k)) same settled

pub returns-clause-card : goal.returns-clause-card
returns-clause-card g c = record {
  settled = λ x told inside.
      let was : g.C.Chip.state c.resume-port.result.chip.now ≡ g.C.Chip.state c.args.card.now = search rules in
      let here : (g.C.Chip.state c.resume-port.result.chip.now).image ≡ Some x = ap (λ (s : State). s.image) was ∙ told in
      let all : OnOk c.note_place.result (IfSome (g.C.Chip.state c.resume-port.result.chip.now).image (λ x. PointsInside (place_ring c.args.app) x → (g.C.Chip.state c.note_place.new.medium.chip.now).clock < last_count → IsSettled (g.C.Chip.state c.note_place.new.medium.chip.now))) =
      c.note_place.ensures.settled in
      let settled : OnOk c.note_place.result ((g.C.Chip.state c.note_place.new.medium.chip.now).clock < last_count → IsSettled (g.C.Chip.state c.note_place.new.medium.chip.now)) =
      on_ok c.note_place.result (λ fine. at_image (λ (x : List ℕ). PointsInside (place_ring c.args.app) x → (g.C.Chip.state c.note_place.new.medium.chip.now).clock < last_count → IsSettled (g.C.Chip.state c.note_place.new.medium.chip.now)) here
      (ok_gives c.note_place.result all fine) inside) in
      settled-on c.note_place.result (g.C.Chip.state c.note_place.new.medium.chip.now) (g.C.Chip.state _) (search rules) settled;
  port = first_of (search rules, grind (arith, common_steps));
  cause = first_of (search rules, grind (arith, common_steps));
}
