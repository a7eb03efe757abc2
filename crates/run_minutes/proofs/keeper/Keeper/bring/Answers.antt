use Rattle.std.proofs.Common.{rules, ◌≡◌, Bool, true, false, Option, Some, None, refl, ap, sym, subst, arith}
use Rattle.std.specs.Prelude.{is_err}
use Rattle.trace_model.specs.declared.Card.{Card}
use Rattle.trace_model.specs.declared.Card.TheVariants.{A, B}
use Rattle.tach_media.specs.Medium.{State, LeavesOnly}
use Rattle.run_crew.specs.Cabin.{crew_of}
use Rattle.run_crew.specs.Cards.{session_of}
use Rattle.run_devices.specs.run_promise.Between.{devices}
use Rattle.run_minutes.specs.declared.keeper.Keeper.{Keeper}
use Rattle.run_minutes.specs.Keeping.{Fate, Still, IsBrought, IsNotingFault, is_this, state_at}
use Rattle.run_minutes.specs.Owing.{BooksBrought}
use Rattle.run_minutes.specs.Calls.{MayBring}
use Rattle.run_minutes.specs.Stand.{standing}
use Rattle.run_minutes.proofs.Goes.{bare-none, keeping_none, goes_of_a, goes_of_b, stands_none, stands_of_a, stands_of_b}
use Rattle.run_minutes.proofs.Units.{unit-stays}
use Rattle.tach_media.proofs.Runs.{ok_gives, starts}
use Rattle.run_minutes.proofs.Fates.{nobody-brought}
use Rattle.run_minutes.proofs.Brought.{brought-booked, nobody-booked}
use Rattle.run_events.proofs.run_speeds.Leaving.{leaves-none}
use Rattle.run_minutes.proofs.Speeds.{fault-leaves}
use Rattle.run_minutes.proofs.Later.{state-by, after-of-a, after-of-b}
use Rattle.run_minutes.proofs.Calm.{brought-calm, calm-of-a, calm-of-b}
use Rattle.run_minutes.proofs.Rests.{brought-rests, rest-of-a, rest-of-b}
use Rattle.run_minutes.specs.Writes.{keep_most}
use Rattle.run_minutes.proofs.Writes.{wrote-none}
use Rattle.run_minutes.proofs.keeper.Keeper.bring.Goals as goal

pub bring_to-requires-clause-may : goal.bring_to-requires-clause-may
bring_to-requires-clause-may g c =
    let is : c.args.said.present ≡ Some A = search rules in
    subst (λ (o : Option Card). MayBring o c.args.said.kept c.args.said.at c.args.self.now c.args.outcome.now.marks c.args.outcome.now.breaks) is c.requires.may

pub bring_to-requires-in-Some-B-clause-may : goal.bring_to-requires-in-Some-B-clause-may
bring_to-requires-in-Some-B-clause-may g c =
    let is : c.args.said.present ≡ Some B = search rules in
    subst (λ (o : Option Card). MayBring o c.args.said.kept c.args.said.at c.args.self.now c.args.outcome.now.marks c.args.outcome.now.breaks) is c.requires.may

pub returns-in-None-clause-brought : goal.returns-in-None-clause-brought
returns-in-None-clause-brought g c =
    let k = c.args.self.now in
    let U = g.M.Medium.state c.args.unit.now in
    let X = g.C.Chip.state c.args.card_a.now in
    let Z = g.D.Chip.state c.args.card_b.now in
    let is : c.args.said.present ≡ None = c.in-None.is in
    subst (λ (o : Option Card). (fate : Fate) × IsBrought o c.args.said.kept c.args.said.at false k k c.args.outcome.now.marks c.args.outcome.now.marks c.args.outcome.now.breaks c.args.outcome.now.breaks fate U U (state_at o X Z) (state_at o X Z)
    × LeavesOnly U U (IsNotingFault fate c.args.said.at.second (crew_of k.cabin)) × BooksBrought o c.args.said.kept false fate k.cabin.cards k.cabin.cards (devices U X Z) (devices U X Z)) (sym is) (
      Still,
      nobody-brought c.args.said.kept c.args.said.at k c.args.outcome.now.marks c.args.outcome.now.breaks U X,
      starts U (IsNotingFault Still c.args.said.at.second (crew_of k.cabin)),
      nobody-booked c.args.said.kept k.cabin.cards (devices U X Z),
    )

pub returns-in-Some-A-clause-brought : goal.returns-in-Some-A-clause-brought
returns-in-Some-A-clause-brought g c =
    let was = c.bring_to.ensures.brought in
    let k = c.args.self.now in
    let v = c.bring_to.new.self in
    let U = g.M.Medium.state c.args.unit.now in
    let V = g.M.Medium.state c.bring_to.new.unit in
    let X = g.C.Chip.state c.args.card_a.now in
    let Y = g.C.Chip.state c.bring_to.new.card in
    let Z = g.D.Chip.state c.args.card_b.now in
    let failed : Bool = is_err c.bring_to.result in
    let is : c.args.said.present ≡ Some A = search rules in
    subst (λ (o : Option Card). (fate : Fate) × IsBrought o c.args.said.kept c.args.said.at failed k v c.args.outcome.now.marks c.bring_to.new.marks c.args.outcome.now.breaks c.bring_to.new.breaks fate U V (state_at o X Z) (state_at o Y Z)
    × LeavesOnly U V (IsNotingFault fate c.args.said.at.second (crew_of v.cabin)) × BooksBrought o c.args.said.kept failed fate k.cabin.cards v.cabin.cards (devices U X Z) (devices V Y Z)) (sym is) (
      was.0,
      was.1,
      was.2,
      brought-booked A c.args.said.kept was.0 k.cabin v.cabin c.args.said.at.second U V X Y Z (g.met.M.Medium.coherent c.args.unit.now) (ap (λ (q : Keeper). q.cabin) was.1.keeper) c.bring_to.ensures.journal failed c.bring_to.ensures.behind.cause.works was.3,
    )

pub returns-in-Some-B-clause-brought : goal.returns-in-Some-B-clause-brought
returns-in-Some-B-clause-brought g c =
    let was = c.bring_to-in-Some-B.ensures.brought in
    let k = c.args.self.now in
    let v = c.bring_to-in-Some-B.new.self in
    let U = g.M.Medium.state c.args.unit.now in
    let V = g.M.Medium.state c.bring_to-in-Some-B.new.unit in
    let X = g.D.Chip.state c.args.card_b.now in
    let Y = g.D.Chip.state c.bring_to-in-Some-B.new.card in
    let Z = g.C.Chip.state c.args.card_a.now in
    let failed : Bool = is_err c.bring_to-in-Some-B.result in
    let is : c.args.said.present ≡ Some B = search rules in
    subst (λ (o : Option Card). (fate : Fate) × IsBrought o c.args.said.kept c.args.said.at failed k v c.args.outcome.now.marks c.bring_to-in-Some-B.new.marks c.args.outcome.now.breaks c.bring_to-in-Some-B.new.breaks fate U V (state_at o Z X) (state_at o Z Y)
    × LeavesOnly U V (IsNotingFault fate c.args.said.at.second (crew_of v.cabin)) × BooksBrought o c.args.said.kept failed fate k.cabin.cards v.cabin.cards (devices U Z X) (devices V Z Y)) (sym is) (
      was.0,
      was.1,
      was.2,
      brought-booked B c.args.said.kept was.0 k.cabin v.cabin c.args.said.at.second U V X Y Z (g.met.M.Medium.coherent c.args.unit.now) (ap (λ (q : Keeper). q.cabin) was.1.keeper) c.bring_to-in-Some-B.ensures.journal failed c.bring_to-in-Some-B.ensures.behind.cause.works was.3,
    )

-- ---- all goes on

pub returns-in-None-clause-goes : goal.returns-in-None-clause-goes
returns-in-None-clause-goes g c = record {
  keeping = keeping_none (standing c.args.self.now c.args.outcome.now.marks c.args.outcome.now.breaks (g.M.Medium.state c.args.unit.now) (g.C.Chip.state c.args.card_a.now) (g.D.Chip.state c.args.card_b.now) (g.C.Chip.card c.args.card_a.now) (g.D.Chip.card c.args.card_b.now));
  most = wrote-none 4 keep_most (devices (g.M.Medium.state c.args.unit.now) (g.C.Chip.state c.args.card_a.now) (g.D.Chip.state c.args.card_b.now));
  speeds = leaves-none (g.M.Medium.state c.args.unit.now);
}

pub returns-in-Some-A-clause-goes : goal.returns-in-Some-A-clause-goes
returns-in-Some-A-clause-goes g c = record {
  keeping =
      let e = c.bring_to.ensures in
      let U = g.M.Medium.state c.args.unit.now in
      let V = g.M.Medium.state c.bring_to.new.unit in
      let X = g.C.Chip.state c.args.card_a.now in
      let Y = g.C.Chip.state c.bring_to.new.card in
      let Z = g.D.Chip.state c.args.card_b.now in
      let b = e.brought.1 in
      let rests : (session_of c.args.self.now.cabin.cards A ≡ None) → Y.breakdowns ≡ X.breakdowns = λ none. ap (λ (s : State). s.breakdowns) (ap g.C.Chip.state (e.bare none)) in
      goes_of_a c.args.said.kept c.args.said.at (is_err c.bring_to.result) c.args.self.now c.bring_to.new.self c.args.outcome.now.marks c.bring_to.new.marks c.args.outcome.now.breaks c.bring_to.new.breaks e.brought.0 U V X Y Z (g.C.Chip.card c.args.card_a.now) (g.C.Chip.card c.bring_to.new.card) (g.D.Chip.card c.args.card_b.now)
      e.journal.keeps e.journal.tells b (record { size = e.behind.size; tells = e.goes.tells; keeps = e.goes.keeps; broken = e.goes.broken })
      (after-of-a U V X Y Z (state-by U V (is_err c.bring_to.result) e.journal.later e.behind.cause) e.goes.later)
      (calm-of-a U V X Y Z (brought-calm A _ _ _ _ _ _ _ _ _ _ _ _ _ _ b rests))
      (rest-of-a c.args.self.now.cabin.cards c.bring_to.new.self.cabin.cards U V X Y Z (brought-rests A _ _ _ _ _ _ _ _ _ _ _ _ _ _ b rests));
  most = record { unit = c.bring_to.ensures.most.0; card_a = c.bring_to.ensures.most.1; card_b = omega arith };
  speeds =
      let was = c.bring_to.ensures.brought in
      fault-leaves was.0 c.args.said.at.second (crew_of c.bring_to.new.self.cabin) (g.M.Medium.state c.args.unit.now) (g.M.Medium.state c.bring_to.new.unit) (g.met.M.Medium.coherent c.args.unit.now) was.2;
}

pub returns-in-Some-B-clause-goes : goal.returns-in-Some-B-clause-goes
returns-in-Some-B-clause-goes g c = record {
  keeping =
      let e = c.bring_to-in-Some-B.ensures in
      let U = g.M.Medium.state c.args.unit.now in
      let V = g.M.Medium.state c.bring_to-in-Some-B.new.unit in
      let X = g.D.Chip.state c.args.card_b.now in
      let Y = g.D.Chip.state c.bring_to-in-Some-B.new.card in
      let Z = g.C.Chip.state c.args.card_a.now in
      let b = e.brought.1 in
      let rests : (session_of c.args.self.now.cabin.cards B ≡ None) → Y.breakdowns ≡ X.breakdowns = λ none. ap (λ (s : State). s.breakdowns) (ap g.D.Chip.state (e.bare none)) in
      goes_of_b c.args.said.kept c.args.said.at (is_err c.bring_to-in-Some-B.result) c.args.self.now c.bring_to-in-Some-B.new.self c.args.outcome.now.marks c.bring_to-in-Some-B.new.marks c.args.outcome.now.breaks c.bring_to-in-Some-B.new.breaks e.brought.0 U V X Y Z (g.D.Chip.card c.args.card_b.now) (g.D.Chip.card c.bring_to-in-Some-B.new.card) (g.C.Chip.card c.args.card_a.now)
      e.journal.keeps e.journal.tells b (record { size = e.behind.size; tells = e.goes.tells; keeps = e.goes.keeps; broken = e.goes.broken })
      (after-of-b U V Z X Y (state-by U V (is_err c.bring_to-in-Some-B.result) e.journal.later e.behind.cause) e.goes.later)
      (calm-of-b U V Z X Y (brought-calm B _ _ _ _ _ _ _ _ _ _ _ _ _ _ b rests))
      (rest-of-b c.args.self.now.cabin.cards c.bring_to-in-Some-B.new.self.cabin.cards U V Z X Y (brought-rests B _ _ _ _ _ _ _ _ _ _ _ _ _ _ b rests));
  most = record { unit = c.bring_to-in-Some-B.ensures.most.0; card_a = omega arith; card_b = c.bring_to-in-Some-B.ensures.most.1 };
  speeds =
      let was = c.bring_to-in-Some-B.ensures.brought in
      fault-leaves was.0 c.args.said.at.second (crew_of c.bring_to-in-Some-B.new.self.cabin) (g.M.Medium.state c.args.unit.now) (g.M.Medium.state c.bring_to-in-Some-B.new.unit) (g.met.M.Medium.coherent c.args.unit.now) was.2;
}

-- ---- the detailed speed stays

-- ---- how it stands

pub returns-in-None-clause-stands : goal.returns-in-None-clause-stands
returns-in-None-clause-stands g c =
    stands_none (standing c.args.self.now c.args.outcome.now.marks c.args.outcome.now.breaks (g.M.Medium.state c.args.unit.now) (g.C.Chip.state c.args.card_a.now) (g.D.Chip.state c.args.card_b.now) (g.C.Chip.card c.args.card_a.now) (g.D.Chip.card c.args.card_b.now))
    c.args.said.at c.requires.ready c.requires.may.minute

pub returns-in-Some-A-clause-stands : goal.returns-in-Some-A-clause-stands
returns-in-Some-A-clause-stands g c =
    let e = c.bring_to.ensures in
    let U = g.M.Medium.state c.args.unit.now in
    let V = g.M.Medium.state c.bring_to.new.unit in
    let X = g.C.Chip.state c.args.card_a.now in
    let Y = g.C.Chip.state c.bring_to.new.card in
    let Z = g.D.Chip.state c.args.card_b.now in
    stands_of_a c.args.said.kept c.args.said.at (is_err c.bring_to.result) c.args.self.now c.bring_to.new.self c.args.outcome.now.marks c.bring_to.new.marks c.args.outcome.now.breaks c.bring_to.new.breaks e.brought.0 U V X Y Z (g.C.Chip.card c.args.card_a.now) (g.C.Chip.card c.bring_to.new.card) (g.D.Chip.card c.args.card_b.now)
    (unit-stays e.journal c.requires.ready.unit_ready.is_unit) e.behind.cause (λ well. ok_gives c.bring_to.result e.behind.ready well) (λ well card h. ok_gives c.bring_to.result (e.behind.rows card h) well)
    e.brought.1 c.requires.may.minute e.behind.card c.requires.ready.card_b

pub returns-in-Some-B-clause-stands : goal.returns-in-Some-B-clause-stands
returns-in-Some-B-clause-stands g c =
    let e = c.bring_to-in-Some-B.ensures in
    let U = g.M.Medium.state c.args.unit.now in
    let V = g.M.Medium.state c.bring_to-in-Some-B.new.unit in
    let X = g.D.Chip.state c.args.card_b.now in
    let Y = g.D.Chip.state c.bring_to-in-Some-B.new.card in
    let Z = g.C.Chip.state c.args.card_a.now in
    stands_of_b c.args.said.kept c.args.said.at (is_err c.bring_to-in-Some-B.result) c.args.self.now c.bring_to-in-Some-B.new.self c.args.outcome.now.marks c.bring_to-in-Some-B.new.marks c.args.outcome.now.breaks c.bring_to-in-Some-B.new.breaks e.brought.0 U V X Y Z (g.D.Chip.card c.args.card_b.now) (g.D.Chip.card c.bring_to-in-Some-B.new.card) (g.C.Chip.card c.args.card_a.now)
    (unit-stays e.journal c.requires.ready.unit_ready.is_unit) e.behind.cause (λ well. ok_gives c.bring_to-in-Some-B.result e.behind.ready well) (λ well card h. ok_gives c.bring_to-in-Some-B.result (e.behind.rows card h) well)
    e.brought.1 c.requires.may.minute e.behind.card c.requires.ready.card_a

-- ---- which cards are not called

pub returns-in-None-clause-calls : goal.returns-in-None-clause-calls
returns-in-None-clause-calls g c = record {
  bare = bare-none c.args.self.now.cabin.cards c.args.card_a.now c.args.card_b.now;
  out = record { card_a = λ out. refl; card_b = λ out. refl };
}

pub returns-in-Some-A-clause-calls : goal.returns-in-Some-A-clause-calls
returns-in-Some-A-clause-calls g c =
    let is : c.args.said.present ≡ Some A = search rules in
    let called : is_this c.args.said.present A ≡ true = ap (λ (o : Option Card). is_this o A) is in
    record {
      bare = record { card_a = c.bring_to.ensures.bare; card_b = λ none. refl };
      out = record { card_a = λ out. let other : is_this c.args.said.present A ≡ false = out in absurd (cc); card_b = λ out. refl };
    }

pub returns-in-Some-B-clause-calls : goal.returns-in-Some-B-clause-calls
returns-in-Some-B-clause-calls g c =
    let is : c.args.said.present ≡ Some B = search rules in
    let called : is_this c.args.said.present B ≡ true = ap (λ (o : Option Card). is_this o B) is in
    record {
      bare = record { card_a = λ none. refl; card_b = c.bring_to-in-Some-B.ensures.bare };
      out = record { card_a = λ out. refl; card_b = λ out. let other : is_this c.args.said.present B ≡ false = out in absurd (cc) };
    }

-- ---- its writes

pub returns-in-None-clause-only : goal.returns-in-None-clause-only
returns-in-None-clause-only g c = refl

pub returns-in-Some-A-clause-only : goal.returns-in-Some-A-clause-only
returns-in-Some-A-clause-only g c = refl

pub returns-in-Some-B-clause-only : goal.returns-in-Some-B-clause-only
returns-in-Some-B-clause-only g c = refl
