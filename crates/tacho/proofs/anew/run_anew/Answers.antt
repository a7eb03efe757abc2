use Rattle.std.proofs.lemmas.Grind.{common_steps}
use Rattle.std.proofs.Common.{◌≡◌, ◌∙◌, Bool, false, refl, sym, subst, arith, rules}
use Rattle.std.specs.Prelude.{is_err}
use Rattle.tach_media.specs.Medium.{HasCause}
use Rattle.tach_media.proofs.Runs.{ok_gives}
use Rattle.run_promise.specs.Between.{devices}
use Rattle.run_opening.proofs.AsItWas.{as-it-is}
use Rattle.tacho.specs.Formatting.{unit_image}
use Rattle.tacho.proofs.DemoDevices.{begins-new, ends-anew, time-before, kept-failed, only-failed}
use Rattle.tacho.proofs.anew.run_anew.Goals as goal

pub returns-in-Err-clause-kept : goal.returns-in-Err-clause-kept
returns-in-Err-clause-kept g c = λ b starts.
    let U = g.U.Medium.state c.args.unit.now in
    let V = g.U.Medium.state c.format_unit.new.unit in
    let X = g.C.Chip.state c.args.card_a.now in
    let Y = g.C.Chip.state c.issue.new.self in
    let Z = g.C.Chip.state c.args.card_b.now in
    let now = devices (g.U.Medium.state c.run_trace.new.unit) (g.C.Chip.state c.run_trace.new.card_a) (g.C.Chip.state c.run_trace.new.card_b) in
    let formed : is_err c.format_unit.result ≡ false = sym c.is_err.ensures.value ∙ c.if-is_err.false in
    let issued : is_err c.issue.result ≡ false = sym c.is_err-2.ensures.value ∙ c.if-is_err-2.false in
    let e = c.in-Err.ensures in
    let then_ = time-before (devices V Y Z) now e.goes.later starts.time in
    let begins = begins-new (unit_image c.args.made.vehicle) c.args.made.image.now b U V X Y Z (g.met.C.Chip.coherent c.args.card_a.now) (c.requires.may.image ∙ sym c.requires.may.size_a) c.requires.may.behind_a
    starts.may
    (ok_gives c.format_unit.result c.format_unit.ensures.formatted formed) (ok_gives c.format_unit.result c.format_unit.ensures.settled formed then_.unit)
    (ok_gives c.issue.result c.issue.ensures.written issued) (ok_gives c.issue.result c.issue.ensures.settled issued then_.card_a) in
    let kept = e.fault (unit_image c.args.made.vehicle) c.args.made.image.now b (record { begins = begins; time = starts.time; few = starts.few }) in
    record {
      nothing = kept.1;
      same_b = kept.0.same_b;
      failure = λ may_record. only-failed (unit_image c.args.made.vehicle) c.args.made.image.now b c.args.trace.now.start (devices V Y Z) now c.in-Err.fault may_record kept.0;
    }

-- where it was not made new no call was made on card b
pub returns-then-is_err-clause-kept : goal.returns-then-is_err-clause-kept
returns-then-is_err-clause-kept g c = λ b starts. record { nothing = refl; same_b = as-it-is (g.C.Chip.state c.args.card_b.now); failure = λ may_record. tt }

pub returns-then-is_err-2-clause-kept : goal.returns-then-is_err-2-clause-kept
returns-then-is_err-2-clause-kept g c = λ b starts. record { nothing = refl; same_b = as-it-is (g.C.Chip.state c.args.card_b.now); failure = λ may_record. tt }

pub returns-in-Err-clause-failed : goal.returns-in-Err-clause-failed
returns-in-Err-clause-failed g c =
    kept-failed c.args.trace.now.start _ _ (g.U.Medium.state c.args.unit.now) (g.U.Medium.state c.format_unit.new.unit) (g.U.Medium.state c.run_trace.new.unit) (g.C.Chip.state c.args.card_a.now) (g.C.Chip.state c.issue.new.self) (g.C.Chip.state c.run_trace.new.card_a)
    (g.C.Chip.state c.args.card_b.now) (g.C.Chip.state c.run_trace.new.card_b) c.in-Err.fault c.format_unit.ensures.cause.faults c.issue.ensures.cause.faults c.in-Err.ensures.refused

pub returns-clause-recorded : goal.returns-clause-recorded
returns-clause-recorded g c = λ b starts.
    let U = g.U.Medium.state c.args.unit.now in
    let V = g.U.Medium.state c.format_unit.new.unit in
    let X = g.C.Chip.state c.args.card_a.now in
    let Y = g.C.Chip.state c.issue.new.self in
    let Z = g.C.Chip.state c.args.card_b.now in
    let now = devices (g.U.Medium.state c.run_trace.new.unit) (g.C.Chip.state c.run_trace.new.card_a) (g.C.Chip.state c.run_trace.new.card_b) in
    let formed : is_err c.format_unit.result ≡ false = sym c.is_err.ensures.value ∙ c.if-is_err.false in
    let issued : is_err c.issue.result ≡ false = sym c.is_err-2.ensures.value ∙ c.if-is_err-2.false in
    let unit_cause = subst (λ (q : Bool). HasCause U V q) formed c.format_unit.ensures.cause in
    let card_cause = subst (λ (q : Bool). HasCause X Y q) issued c.issue.ensures.cause in
    let e = c.in_default.ensures in
    let then_ = time-before (devices V Y Z) now e.goes.later starts.time in
    let begins = begins-new (unit_image c.args.made.vehicle) c.args.made.image.now b U V X Y Z (g.met.C.Chip.coherent c.args.card_a.now) (c.requires.may.image ∙ sym c.requires.may.size_a) c.requires.may.behind_a
    starts.may
    (ok_gives c.format_unit.result c.format_unit.ensures.formatted formed) (ok_gives c.format_unit.result c.format_unit.ensures.settled formed then_.unit)
    (ok_gives c.issue.result c.issue.ensures.written issued) (ok_gives c.issue.result c.issue.ensures.settled issued then_.card_a) in
    ends-anew (unit_image c.args.made.vehicle) c.args.made.image.now b c.args.trace.now.start c.args.trace.now.items c.run_trace.new.outcome U V X Y Z now
    c.format_unit.ensures.moments.later c.issue.ensures.moments.later (unit_cause.unbroken refl) (card_cause.unbroken refl) e.goes.later.unit.clock e.goes.later.card_a.clock c.format_unit.ensures.most (let few = c.issue.ensures.few in let long = c.requires.may.image in omega (arith, few, long)) e.goes.most
    (e.recorded (unit_image c.args.made.vehicle) c.args.made.image.now b (record { begins = begins; time = starts.time; few = starts.few })).ends

-- ---- whatever fails

pub returns-then-is_err-clause-goes : goal.returns-then-is_err-clause-goes
returns-then-is_err-clause-goes g c =
    let made = c.format_unit.ensures.most in
    record {
      most = record { unit = omega (arith, made); card_a = omega arith; card_b = omega arith };
      unit = first_of (search rules, grind (arith, common_steps));
      faults = c.format_unit.ensures.cause.faults;
    }

pub returns-then-is_err-2-clause-goes : goal.returns-then-is_err-2-clause-goes
returns-then-is_err-2-clause-goes g c =
    let made = c.format_unit.ensures.most in
    let few = c.issue.ensures.few in
    let long = c.requires.may.image in
    record {
      most = record { unit = omega (arith, made); card_a = omega (arith, few, long); card_b = omega arith };
      unit = first_of (search rules, grind (arith, common_steps));
      faults = c.format_unit.ensures.cause.faults;
    }

pub returns-in-Err-clause-goes : goal.returns-in-Err-clause-goes
returns-in-Err-clause-goes g c =
    let made = c.format_unit.ensures.most in
    let few = c.issue.ensures.few in
    let long = c.requires.may.image in
    let run = c.in-Err.ensures.goes in
    record {
      most = record { unit = (let most = run.most.unit in omega (arith, made, most)); card_a = (let most = run.most.card_a in omega (arith, few, long, most)); card_b = run.most.card_b };
      unit = first_of (search rules, grind (arith, common_steps));
      faults = (let before = c.format_unit.ensures.cause.faults in let then_ = run.later.unit.faults in omega (arith, before, then_));
    }

pub returns-clause-goes : goal.returns-clause-goes
returns-clause-goes g c =
    let made = c.format_unit.ensures.most in
    let few = c.issue.ensures.few in
    let long = c.requires.may.image in
    let run = c.in_default.ensures.goes in
    record {
      most = record { unit = (let most = run.most.unit in omega (arith, made, most)); card_a = (let most = run.most.card_a in omega (arith, few, long, most)); card_b = run.most.card_b };
      unit = first_of (search rules, grind (arith, common_steps));
      faults = (let before = c.format_unit.ensures.cause.faults in let then_ = run.later.unit.faults in omega (arith, before, then_));
    }
