use Rattle.std.proofs.lemmas.Grind.{common_steps}
use Rattle.std.proofs.Common.{arith, rules, ◌≡◌, [], ◌∷◌, IfSome, sym, ◌∙◌, subst}
use Rattle.card_layout.specs.declared.files.Application.{Application}
use Rattle.tach_media.specs.Medium.{State, LeavesOnly, lent}
use Rattle.card_commands.specs.Ports.{port_state}
use Rattle.card_by_hand.specs.First.{IsFirstKeeping}
use Rattle.card_session.specs.Sessions.{MayKeep, IsSession}
use Rattle.unit_rule.specs.card_string.Shows.{IsFirstShown}
use Rattle.unit_rule.specs.device_rule.Rules.{In}
use Rattle.device_calls.specs.Minute.{MayTake}
use Rattle.device_calls.specs.OnCard.{hands_for}
use Rattle.device_calls.specs.Rule.{CardHolds}
use Rattle.device_calls.proofs.Ported.{may_keep_port, port_same, port_leaves, port_on}
use Rattle.device_calls.proofs.on_card.keep_on_card.Goals as goal

pub keep_by-requires-clause-card : goal.keep_by-requires-clause-card
keep_by-requires-clause-card g c =
    subst (λ (a : Application). MayKeep a (port_state c.resume-port.result.application (lent c.resume-port.result.chip.ghost_name (g.C.Chip.state c.resume-port.result.chip.now)))) (c.resume-port.ensures.sizes ∙ sym c.requires.sizes)
    (may_keep_port c.resume-port.result.sound)

pub returns-clause-keeps : goal.returns-clause-keeps
returns-clause-keeps g c = record {
  session = record {
    same = c.keep_by.ensures.keeps.session.same;
    last = c.keep_by.ensures.keeps.session.last;
    held = c.keep_by.ensures.keeps.session.held;
  };
  keeps = record {
    is = let kept = c.keep_by.ensures.keeps.keeps.is in search (rules, kept);
    moments =
        let name = c.resume-port.result.chip.ghost_name in
        let after = c.keep_by.new.card.chip.ghost_name in
        let X = g.C.Chip.state c.resume-port.result.chip.now in
        let Y = g.C.Chip.state c.keep_by.new.card.chip.now in
        let was : g.C.Chip.state c.resume-port.result.chip.now ≡ g.C.Chip.state c.args.card.now = search rules in
        let same = port_same c.resume-port.result.application c.keep_by.new.card.application name after X Y c.keep_by.ensures.card.leaves in
        let run = port_leaves c.resume-port.result.application c.keep_by.new.card.application name after X Y same c.keep_by.ensures.keeps.keeps.moments in
        let moments = subst (λ (s : State). LeavesOnly s (g.C.Chip.state c.keep_by.new.card.chip.now) (λ x y. IsSession c.args.session.now x → IsFirstKeeping c.args.session.now (hands_for c.args.held.now c.args.kept.now.entry.minute) c.args.kept.now.entry c.args.kept.now.odometer.0 x y)) was run in
        search (rules, moments);
  };
  string = record {
    shown =
        λ w.
        let name = c.resume-port.result.chip.ghost_name in
        let after = c.keep_by.new.card.chip.ghost_name in
        let X = g.C.Chip.state c.resume-port.result.chip.now in
        let Y = g.C.Chip.state c.keep_by.new.card.chip.now in
        let was : g.C.Chip.state c.resume-port.result.chip.now ≡ g.C.Chip.state c.args.card.now = search rules in
        let same = port_same c.resume-port.result.application c.keep_by.new.card.application name after X Y c.keep_by.ensures.card.leaves in
        let run = port_leaves c.resume-port.result.application c.keep_by.new.card.application name after X Y same (c.keep_by.ensures.keeps.string.shown w) in
        let shown = subst (λ (s : State). LeavesOnly s (g.C.Chip.state c.keep_by.new.card.chip.now)
        (λ x y. MayTake c.args.session.now w (hands_for c.args.held.now c.args.kept.now.entry.minute) c.args.kept.now.entry x → IsFirstShown c.args.session.now.application w.slack w.covered w.counted w.all (hands_for c.args.held.now c.args.kept.now.entry.minute) c.args.kept.now.entry x y)) was run in
        search (rules, shown);
    done =
        λ w.
        let done = c.keep_by.ensures.keeps.string.done w in
        search (rules, done);
  };
}

pub returns-clause-card : goal.returns-clause-card
returns-clause-card g c = record {
  port = first_of (search rules, grind (arith, common_steps));
  settled = first_of (search rules, grind (arith, common_steps));
  cause = first_of (search rules, grind (arith, common_steps));
}

pub returns-clause-rule : goal.returns-clause-rule
returns-clause-rule g c = λ k which time w may.
    let name = c.resume-port.result.chip.ghost_name in
    let after = c.keep_by.new.card.chip.ghost_name in
    let X = g.C.Chip.state c.resume-port.result.chip.now in
    let Y = g.C.Chip.state c.keep_by.new.card.chip.now in
    let was : g.C.Chip.state c.resume-port.result.chip.now ≡ g.C.Chip.state c.args.card.now = search rules in
    let owed = subst (λ (z : State). CardHolds k.both which k.book (In time c.args.session.now.minute) [] (c.args.kept.now.entry ∷ []) (g.M.Medium.state c.args.unit.now) z) (sym was) may.owed in
    let takes = subst (λ (z : State). IfSome z.image (MayTake c.args.session.now w (hands_for c.args.held.now c.args.kept.now.entry.minute) c.args.kept.now.entry)) (sym was) may.takes in
    let on = port_on c.resume-port.result.application c.keep_by.new.card.application name after X Y k.both which k.book time c.args.kept.now.entry _ (g.M.Medium.state c.args.unit.now)
    (c.keep_by.ensures.rule k which time w (record { tells = may.tells; holds = may.holds; none = may.none; owed = owed; late = may.late; takes = takes })) in
    search (rules, on)

pub keep_by-requires-clause-may : goal.keep_by-requires-clause-may
keep_by-requires-clause-may g c = c.requires.may
