use Rattle.std.proofs.lemmas.Grind.{common_steps}
use Rattle.std.proofs.Common.{rules, arith}
use Rattle.tach_media.proofs.Runs.{ok_gives, weaken}
use Rattle.device_calls.specs.OnCard.{Anything, hands_for}
use Rattle.device_calls.proofs.EntryOwed.{worked}
use Rattle.device_calls.proofs.OnCard.{hands-are, shown, kept-torn, ends-on_card, all-done}
use Rattle.device_calls.proofs.on_card.keep_by.Goals as goal

pub returns-clause-keeps : goal.returns-clause-keeps
returns-clause-keeps g c = record {
  session = record {
    same = c.keep_with_hands.ensures.same;
    last = c.keep_with_hands.ensures.last;
    held = c.keep_with_hands.ensures.held;
  };
  keeps = record {
    is = c.keep_with_hands.ensures.alters.done;
    moments = c.keep_with_hands.ensures.alters.moments;
  };
  string = record {
    shown =
        λ w.
        weaken c.keep_with_hands.ensures.alters.moments (λ x y told k ready. shown _ w.slack w.covered w.from w.counted w.all (hands_for c.args.held.now c.args.kept.now.entry.minute) c.args.kept.now.entry c.args.kept.now.odometer.0
        (hands-are c.args.session.now c.args.held.now c.args.kept.now.entry.minute c.requires.may.later) x y ready (k ready.carried.session));
    done =
        λ w.
        all-done _ _ w.slack w.covered w.from w.counted w.all (hands_for c.args.held.now c.args.kept.now.entry.minute) c.args.kept.now.entry c.args.kept.now.odometer.0 (hands-are c.args.session.now c.args.held.now c.args.kept.now.entry.minute c.requires.may.later)
        c.keep_with_hands.ensures.same.0 _ _ _ c.keep_with_hands.ensures.alters.done;
  };
}

pub returns-clause-rule : goal.returns-clause-rule
returns-clause-rule g c = λ k which time w may.
    let hands = hands_for c.args.held.now c.args.kept.now.entry.minute in
    let are = hands-are c.args.session.now c.args.held.now c.args.kept.now.entry.minute c.requires.may.later in
    kept-torn k.both which k.started k.due k.book k.marks time _ w.slack w.covered w.from w.counted w.all hands c.args.kept.now.entry c.args.kept.now.odometer.0 are (g.met.M.Medium.coherent c.args.unit.now) may.tells (g.met.C.Medium.coherent c.args.card.now) may.holds may.none may.owed may.late may.takes c.keep_with_hands.ensures.alters.moments _
    (λ well. ends-on_card k.both which k.started k.due k.book k.marks time _ w.slack w.covered w.from w.counted w.all hands c.args.kept.now.entry c.args.kept.now.odometer.0 are (g.met.M.Medium.coherent c.args.unit.now) may.tells (g.met.C.Medium.coherent c.args.card.now) may.holds may.none may.owed may.late may.takes c.keep_with_hands.ensures.alters.moments
    _ (g.met.C.Medium.coherent c.keep_with_hands.new.port) (worked well c.keep_with_hands.ensures.alters.cause).0 (worked well c.keep_with_hands.ensures.alters.cause).1 c.keep_with_hands.ensures.same.0 (ok_gives _ c.keep_with_hands.ensures.last well).0 (ok_gives _ c.keep_with_hands.ensures.alters.done well))

pub returns-clause-card : goal.returns-clause-card
returns-clause-card g c = record {
  leaves = weaken {R = Anything} c.keep_with_hands.ensures.alters.moments (λ x y told k. tt);
  settled = first_of (search rules, grind (arith, common_steps));
  cause = first_of (search rules, grind (arith, common_steps));
}
