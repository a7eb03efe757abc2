use Rattle.std.proofs.lemmas.Grind.{common_steps}
use Rattle.std.proofs.Common.{rules, ◌≡◌, ◌∙◌, Bool, true, false, ap, subst, refl, arith}
use Rattle.std.specs.Prelude.{is_err}
use Rattle.activity_codec.specs.declared.values.Slot.TheVariants.{Driver, CoDriver}
use Rattle.card_session.specs.declared.session.Kept.{Kept}
use Rattle.run_devices.specs.run_promise.Between.{devices}
use Rattle.run_minutes.specs.declared.keeper.Keeper.{Keeper}
use Rattle.run_minutes.specs.Keeping.{HasItsRow, entry_in}
use Rattle.run_minutes.specs.Owing.{BooksOwed}
use Rattle.unit_minutes.specs.Image.{IsKeeping}
use Rattle.unit_minutes.specs.Kept.{kept_minute}
use Rattle.run_minutes.proofs.Sessions.{some-goes}
use Rattle.run_minutes.proofs.Faults.{keeping-nothing}
use Rattle.run_minutes.proofs.MinuteBegun.{put-at, cut-first, cut-second, kept-or-cut}
use Rattle.run_minutes.proofs.Speeds.{keeping-speeds}
use Rattle.run_minutes.proofs.OnUnit.{unit-then, unit-by, unit-moments, unit-stands-then, unit-stands-by, unit-stands-cut, journal-stands}
use Rattle.run_minutes.proofs.keeper.Keeper.acknowledge.Goals as goal

pub owe_to-requires-2-clause-row : goal.owe_to-requires-2-clause-row
owe_to-requires-2-clause-row g c =
    some-goes c.args.said.present.codriver (HasItsRow c.args.self.now.cabin.cards (g.M.Medium.state c.args.unit.now)) (HasItsRow c.owe_to.new.self.cabin.cards (g.M.Medium.state c.owe_to.new.unit))
    (c.in_ok-owe_to.ensures.stands.rows refl) c.requires.rows.codriver

-- ---- the unit failed as an entry was put

pub returns-in_err-owe_to-clause-booked : goal.returns-in_err-owe_to-clause-booked
returns-in_err-owe_to-clause-booked g c = λ says.
    let failed : true ≡ is_err c.from_residual.result = search rules in
    let U = g.M.Medium.state c.args.unit.now in
    let U1 = g.M.Medium.state c.owe_to.new.unit in
    let X = g.C.Chip.state c.args.card_a.now in
    let Y = g.D.Chip.state c.args.card_b.now in
    subst (λ (b : Bool). BooksOwed c.args.said.present c.args.said.minute b c.args.self.now.cabin.cards c.owe_to.new.self.cabin.cards c.args.marks.now.items (devices U X Y) (devices U1 X Y)) failed
    (cut-first c.args.said.minute c.args.said.present says c.requires.may.apart c.args.self.now.cabin.cards c.owe_to.new.self.cabin.cards c.args.marks.now.items U U1 X Y
    (put-at c.args.said.present.driver c.kept_in-driver.result.entry (entry_in c.args.said.minute Driver) true c.args.self.now.cabin.cards c.args.self.now.cabin.cards U U1 X Y (ap (λ (k : Kept). k.entry) c.kept_in-driver.ensures) refl c.in_err-owe_to.ensures.booked) c.in_err-owe_to.ensures.travelled)

pub returns-in_err-owe_to-2-clause-booked : goal.returns-in_err-owe_to-2-clause-booked
returns-in_err-owe_to-2-clause-booked g c = λ says.
    let failed : true ≡ is_err c.from_residual-in_err-owe_to-2.result = search rules in
    let U = g.M.Medium.state c.args.unit.now in
    let U1 = g.M.Medium.state c.owe_to.new.unit in
    let U2 = g.M.Medium.state c.owe_to-2.new.unit in
    let X = g.C.Chip.state c.args.card_a.now in
    let Y = g.D.Chip.state c.args.card_b.now in
    subst (λ (b : Bool). BooksOwed c.args.said.present c.args.said.minute b c.args.self.now.cabin.cards c.owe_to-2.new.self.cabin.cards c.args.marks.now.items (devices U X Y) (devices U2 X Y)) failed
    (cut-second c.args.said.minute c.args.said.present says c.requires.may.apart c.args.self.now.cabin.cards c.owe_to-2.new.self.cabin.cards c.args.marks.now.items U U1 X Y
    (put-at c.args.said.present.driver c.kept_in-driver.result.entry (entry_in c.args.said.minute Driver) false c.args.self.now.cabin.cards c.args.self.now.cabin.cards U U1 X Y (ap (λ (k : Kept). k.entry) c.kept_in-driver.ensures) refl c.in_ok-owe_to.ensures.booked) c.in_ok-owe_to.ensures.travelled U2
    (put-at c.args.said.present.codriver c.kept_in-codriver.result.entry (entry_in c.args.said.minute CoDriver) true c.owe_to.new.self.cabin.cards c.args.self.now.cabin.cards U1 U2 X Y (ap (λ (k : Kept). k.entry) c.kept_in-codriver.ensures)
    (ap (λ (k : Keeper). k.cabin.cards) {y = c.args.self.now} c.in_ok-owe_to.ensures.same) c.in_err-owe_to-2.ensures.booked) c.in_err-owe_to-2.ensures.travelled)

-- ---- or as it kept the minute

pub returns-in_err-commit-clause-booked : goal.returns-in_err-commit-clause-booked
returns-in_err-commit-clause-booked g c = λ says.
    let failed : true ≡ is_err c.from_residual-in_err-commit.result = search rules in
    let U = g.M.Medium.state c.args.unit.now in
    let U1 = g.M.Medium.state c.owe_to.new.unit in
    let U2 = g.M.Medium.state c.owe_to-2.new.unit in
    let V = g.M.Medium.state c.commit.new.unit in
    let X = g.C.Chip.state c.args.card_a.now in
    let Y = g.D.Chip.state c.args.card_b.now in
    let e = c.in_err-commit.ensures in
    subst (λ (b : Bool). BooksOwed c.args.said.present c.args.said.minute b c.args.self.now.cabin.cards c.owe_to-2.new.self.cabin.cards c.args.marks.now.items (devices U X Y) (devices V X Y)) failed
    (kept-or-cut c.args.said.minute c.args.said.present says c.requires.may.apart c.args.self.now.cabin.cards c.owe_to-2.new.self.cabin.cards c.args.marks.now.items U U1 X Y
    (put-at c.args.said.present.driver c.kept_in-driver.result.entry (entry_in c.args.said.minute Driver) false c.args.self.now.cabin.cards c.args.self.now.cabin.cards U U1 X Y (ap (λ (k : Kept). k.entry) c.kept_in-driver.ensures) refl c.in_ok-owe_to.ensures.booked) c.in_ok-owe_to.ensures.travelled U2
    (put-at c.args.said.present.codriver c.kept_in-codriver.result.entry (entry_in c.args.said.minute CoDriver) false c.owe_to.new.self.cabin.cards c.args.self.now.cabin.cards U1 U2 X Y (ap (λ (k : Kept). k.entry) c.kept_in-codriver.ensures)
    (ap (λ (k : Keeper). k.cabin.cards) {y = c.args.self.now} c.in_ok-owe_to.ensures.same) c.in_ok-owe_to-2.ensures.booked) c.in_ok-owe_to-2.ensures.travelled V true
    (g.met.M.Medium.coherent c.owe_to-2.new.unit) (g.met.C.Chip.coherent c.args.card_a.now) (g.met.D.Chip.coherent c.args.card_b.now) e.answers.goes.tells e.answers.goes.cause e.rules.holds e.rules.first e.rules.second e.leaves.views e.leaves.travelled
    (ap (λ (k : Keeper). k.cabin.cards) (c.in_ok-owe_to-2.ensures.same ∙ c.in_ok-owe_to.ensures.same)))

-- ---- or it has it

pub returns-clause-booked : goal.returns-clause-booked
returns-clause-booked g c = λ says.
    let U = g.M.Medium.state c.args.unit.now in
    let U1 = g.M.Medium.state c.owe_to.new.unit in
    let U2 = g.M.Medium.state c.owe_to-2.new.unit in
    let V = g.M.Medium.state c.commit.new.unit in
    let X = g.C.Chip.state c.args.card_a.now in
    let Y = g.D.Chip.state c.args.card_b.now in
    let e = c.in_ok-commit.ensures in
    kept-or-cut c.args.said.minute c.args.said.present says c.requires.may.apart c.args.self.now.cabin.cards c.owe_to-2.new.self.cabin.cards c.args.marks.now.items U U1 X Y
    (put-at c.args.said.present.driver c.kept_in-driver.result.entry (entry_in c.args.said.minute Driver) false c.args.self.now.cabin.cards c.args.self.now.cabin.cards U U1 X Y (ap (λ (k : Kept). k.entry) c.kept_in-driver.ensures) refl c.in_ok-owe_to.ensures.booked) c.in_ok-owe_to.ensures.travelled U2
    (put-at c.args.said.present.codriver c.kept_in-codriver.result.entry (entry_in c.args.said.minute CoDriver) false c.owe_to.new.self.cabin.cards c.args.self.now.cabin.cards U1 U2 X Y (ap (λ (k : Kept). k.entry) c.kept_in-codriver.ensures)
    (ap (λ (k : Keeper). k.cabin.cards) {y = c.args.self.now} c.in_ok-owe_to.ensures.same) c.in_ok-owe_to-2.ensures.booked) c.in_ok-owe_to-2.ensures.travelled V false
    (g.met.M.Medium.coherent c.owe_to-2.new.unit) (g.met.C.Chip.coherent c.args.card_a.now) (g.met.D.Chip.coherent c.args.card_b.now) e.answers.goes.tells e.answers.goes.cause e.rules.holds e.rules.first e.rules.second e.leaves.views e.leaves.travelled
    (ap (λ (k : Keeper). k.cabin.cards) (c.in_ok-owe_to-2.ensures.same ∙ c.in_ok-owe_to.ensures.same))

-- ---- the unit goes on

pub returns-in_err-owe_to-clause-goes : goal.returns-in_err-owe_to-clause-goes
returns-in_err-owe_to-clause-goes g c = record {
  all =
      let failed : true ≡ is_err c.from_residual.result = search rules in
      unit-by failed c.in_err-owe_to.ensures.goes.all;
  most = let one = c.in_err-owe_to.ensures.goes.most in omega (arith, one);
}

pub returns-in_err-owe_to-2-clause-goes : goal.returns-in_err-owe_to-2-clause-goes
returns-in_err-owe_to-2-clause-goes g c = record {
  all =
      let failed : true ≡ is_err c.from_residual-in_err-owe_to-2.result = search rules in
      unit-by failed (unit-then c.in_ok-owe_to.ensures.goes.all c.in_err-owe_to-2.ensures.goes.all);
  most = let one = c.in_ok-owe_to.ensures.goes.most in let two = c.in_err-owe_to-2.ensures.goes.most in omega (arith, one, two);
}

pub returns-in_err-commit-clause-goes : goal.returns-in_err-commit-clause-goes
returns-in_err-commit-clause-goes g c = record {
  all =
      let failed : true ≡ is_err c.from_residual-in_err-commit.result = search rules in
      let km = kept_minute c.args.said.minute in
      let n = c.args.said.minute.odometer.0 in
      unit-by failed (unit-then c.in_ok-owe_to.ensures.goes.all (unit-then c.in_ok-owe_to-2.ensures.goes.all
      (unit-moments true (g.M.Medium.state c.owe_to-2.new.unit) (g.M.Medium.state c.commit.new.unit) (IsKeeping km n) (g.met.M.Medium.coherent c.owe_to-2.new.unit) (g.met.M.Medium.coherent c.commit.new.unit) c.in_err-commit.ensures.leaves.moments
      (keeping-speeds km n) (λ x y h. keeping-nothing km n x y h) c.in_err-commit.ensures.answers.goes.cause)));
  most = let one = c.in_ok-owe_to.ensures.goes.most in let two = c.in_ok-owe_to-2.ensures.goes.most in let last = c.in_err-commit.ensures.answers.most in omega (arith, one, two, last);
}

pub returns-clause-goes : goal.returns-clause-goes
returns-clause-goes g c = record {
  all =
      let km = kept_minute c.args.said.minute in
      let n = c.args.said.minute.odometer.0 in
      unit-then c.in_ok-owe_to.ensures.goes.all (unit-then c.in_ok-owe_to-2.ensures.goes.all
      (unit-moments false (g.M.Medium.state c.owe_to-2.new.unit) (g.M.Medium.state c.commit.new.unit) (IsKeeping km n) (g.met.M.Medium.coherent c.owe_to-2.new.unit) (g.met.M.Medium.coherent c.commit.new.unit) c.in_ok-commit.ensures.leaves.moments
      (keeping-speeds km n) (λ x y h. keeping-nothing km n x y h) c.in_ok-commit.ensures.answers.goes.cause));
  most = let one = c.in_ok-owe_to.ensures.goes.most in let two = c.in_ok-owe_to-2.ensures.goes.most in let last = c.in_ok-commit.ensures.answers.most in omega (arith, one, two, last);
}

-- ---- how it stands

pub owe_to-requires-2-clause-ready : goal.owe_to-requires-2-clause-ready
owe_to-requires-2-clause-ready g c = c.in_ok-owe_to.ensures.stands.ready refl

pub commit-requires-clause-ready : goal.commit-requires-clause-ready
commit-requires-clause-ready g c = record {
  unit = c.in_ok-owe_to-2.ensures.stands.unit;
  agrees = (c.in_ok-owe_to-2.ensures.stands.ready refl).agrees;
}

pub commit-requires-clause-may : goal.commit-requires-clause-may
commit-requires-clause-may g c = record {
  low = c.requires.may.low;
  later = let same : c.owe_to-2.new.self.journal.kept ≡ c.args.self.now.journal.kept = ap (λ (k : Keeper). k.journal.kept) (c.in_ok-owe_to-2.ensures.same ∙ c.in_ok-owe_to.ensures.same) in let later = c.requires.may.later in omega (arith, same, later);
  small = let small = c.requires.may.small in first_of (omega (arith, small), search rules, grind (arith, common_steps));
  odometer = c.requires.may.odometer;
}

pub returns-in_err-owe_to-clause-stands : goal.returns-in_err-owe_to-clause-stands
returns-in_err-owe_to-clause-stands g c =
    let failed : true ≡ is_err c.from_residual.result = search rules in
    unit-stands-by failed c.in_err-owe_to.ensures.stands

pub returns-in_err-owe_to-2-clause-stands : goal.returns-in_err-owe_to-2-clause-stands
returns-in_err-owe_to-2-clause-stands g c =
    let failed : true ≡ is_err c.from_residual-in_err-owe_to-2.result = search rules in
    unit-stands-by failed (unit-stands-then c.in_ok-owe_to.ensures.stands c.in_err-owe_to-2.ensures.stands)

pub returns-in_err-commit-clause-stands : goal.returns-in_err-commit-clause-stands
returns-in_err-commit-clause-stands g c =
    let failed : true ≡ is_err c.from_residual-in_err-commit.result = search rules in
    unit-stands-by failed (unit-stands-cut c.args.self.now (record c.owe_to-2.new.self { journal = c.commit.new.journal }) (g.M.Medium.state c.args.unit.now) (g.M.Medium.state c.commit.new.unit) c.commit.ensures.stands.unit)

pub returns-clause-stands : goal.returns-clause-stands
returns-clause-stands g c =
    unit-stands-then c.in_ok-owe_to.ensures.stands (unit-stands-then c.in_ok-owe_to-2.ensures.stands
    (journal-stands c.owe_to-2.new.self c.commit.new.journal (g.M.Medium.state c.owe_to-2.new.unit) (g.M.Medium.state c.commit.new.unit) false c.commit.ensures.stands.unit c.in_ok-commit.ensures.answers.goes.cause (λ well. c.in_ok-commit.ensures.stands.agrees) (λ well. c.in_ok-commit.ensures.stands.rows)))

-- ---- its writes

pub returns-in_err-owe_to-clause-kept : goal.returns-in_err-owe_to-clause-kept
returns-in_err-owe_to-clause-kept g c = record {
  keeper = first_of (search rules, grind (arith, common_steps));
  notes = first_of (search rules, grind (arith, common_steps));
  marked = first_of (search rules, grind (arith, common_steps));
  same = first_of (search rules, grind (arith, common_steps));
}

pub returns-in_err-owe_to-2-clause-kept : goal.returns-in_err-owe_to-2-clause-kept
returns-in_err-owe_to-2-clause-kept g c = record {
  keeper = first_of (search rules, grind (arith, common_steps));
  notes = first_of (search rules, grind (arith, common_steps));
  marked = first_of (search rules, grind (arith, common_steps));
  same = first_of (search rules, grind (arith, common_steps));
}

pub returns-in_err-commit-clause-kept : goal.returns-in_err-commit-clause-kept
returns-in_err-commit-clause-kept g c = record {
  keeper = first_of (search rules, grind (arith, common_steps));
  notes = first_of (search rules, grind (arith, common_steps));
  marked = first_of (search rules, grind (arith, common_steps));
  same = first_of (search rules, grind (arith, common_steps));
}

pub returns-clause-kept : goal.returns-clause-kept
returns-clause-kept g c = record {
  keeper = first_of (search rules, grind (arith, common_steps));
  notes = first_of (search rules, grind (arith, common_steps));
  marked = first_of (search rules, grind (arith, common_steps));
  same = first_of (search rules, grind (arith, common_steps));
}
