use Rattle.std.proofs.Common.{rules, ◌≡◌, ◌∙◌, inl, inr, Bool, true, refl, ap, subst, arith}
use Rattle.std.specs.Prelude.{is_err, not}
use Rattle.tach_media.proofs.Runs.{cause_after, ok_gives}
use Rattle.run_crew.specs.declared.cards.Crew.{Crew}
use Rattle.run_events.specs.Noting.{IsFed}
use Rattle.run_events.specs.Blocks.{IsWatchedOn}
use Rattle.run_events.proofs.Newest.{knows-left}
use Rattle.run_outcome.specs.declared.outcome.Outcome.{Outcome}
use Rattle.run_insertion.proofs.Noted.{noted-ready, noted-row}
use Rattle.run_minutes.specs.run_promise.Between.{devices}
use Rattle.run_minutes.proofs.Goes.{keeping_then, goes_on_unit, stands_by}
use Rattle.run_minutes.proofs.Later.{state-by}
use Rattle.run_acts.specs.declared.run.Run.{Run}
use Rattle.run_acts.specs.Turning.{told_of}
use Rattle.run_acts.specs.Keepings.{KeepsTurn}
use Rattle.run_acts.proofs.TurnBooked.{turn-cut, turn-noted}
use Rattle.run_acts.proofs.TurnNoted.{keeping-then, keeping-cut}
use Rattle.run_acts.proofs.Speeds.{brings-kept, brings-watched}
use Rattle.run_acts.proofs.turning.keep_turn.Goals as goal

-- ---- what is asked

pub keep_all-requires-clause-ready : goal.keep_all-requires-clause-ready
keep_all-requires-clause-ready g c = c.requires.ready

pub keep_all-requires-clause-may : goal.keep_all-requires-clause-may
keep_all-requires-clause-may g c = c.requires.may

pub turn-requires-clause-seconds : goal.turn-requires-clause-seconds
turn-requires-clause-seconds g c = record {
  some = c.requires.watch.some;
  low = c.requires.watch.low;
  minute = c.requires.watch.within;
  fits = c.requires.watch.fits;
}

pub turn-requires-clause-watch : goal.turn-requires-clause-watch
turn-requires-clause-watch g c = record {
  limit = c.requires.watch.limit;
  watches = c.requires.watch.watches;
}

-- the keeping of minutes leaves the blocks of detailed speed
pub turn-requires-clause-unit : goal.turn-requires-clause-unit
turn-requires-clause-unit g c = record {
  unit = c.in_ok-keep_all.ensures.stands.unit;
  works = (c.in_ok-keep_all.ensures.stands.ready refl).unit_ready.works;
  newest = knows-left c.args.run.now.watch.newest (g.M.Medium.state c.args.unit.now) (g.M.Medium.state c.keep_all.new.unit) (g.met.M.Medium.coherent c.args.unit.now) (g.met.M.Medium.coherent c.keep_all.new.unit) c.requires.ready.unit_ready.works c.in_ok-keep_all.ensures.goes.speeds c.requires.watch.newest;
}

-- ---- the minutes are kept, and what had ended is noted

pub returns-clause-kept : goal.returns-clause-kept
returns-clause-kept g c =
    let k = c.in_ok-keep_all.ensures.kept in
    let w = c.turn.ensures.watched in
    let failed : Bool = is_err c.turn.result in
    let old = c.args.run.now in
    let new : Run = record old { keeper = c.keep_all.new.self; watch = c.turn.new.self } in
    let told : Outcome = c.keep_all.new.outcome in
    let U = g.M.Medium.state c.args.unit.now in
    let V = g.M.Medium.state c.keep_all.new.unit in
    let W = g.M.Medium.state c.turn.new.unit in
    let b = turn-noted c.args.turned.decided.now c.args.turned.at (told_of old c.args.outcome.now) (told_of (record old { keeper = c.keep_all.new.self }) told)
    (devices U (g.C.Chip.state c.args.card_a.now) (g.D.Chip.state c.args.card_b.now)) V W (g.C.Chip.state c.keep_all.new.card_a) (g.D.Chip.state c.keep_all.new.card_b)
    (g.met.M.Medium.coherent c.keep_all.new.unit) c.turn.ensures.journal k.reach k.is k.books failed c.turn.ensures.cause.works in
    record {
      kept = record {
        only = refl;
        outcome = c.keep_all.ensures.only;
        how = inr (k.kept, (w.ended, subst (λ (crew : Crew). IsFed old.watch c.turn.new.self old.next c.args.turned.stretch.seconds c.args.turned.stretch.speed crew w.ended) c.crew-crew.ensures w.fed));
      };
      reach = b.0;
      is = b.1;
      books = b.2;
      noted = keeping-then c.args.turned.decided.now c.args.turned.stretch.seconds c.args.turned.stretch.speed c.args.turned.at failed old new c.args.outcome.now told U V W k.reach k.is (g.met.M.Medium.coherent c.keep_all.new.unit) (g.met.M.Medium.coherent c.turn.new.unit) k.noted
          (subst (λ (crew : Crew). IsWatchedOn failed old.watch c.turn.new.self old.next c.args.turned.stretch.seconds c.args.turned.stretch.speed crew V W) c.crew-crew.ensures w) c.turn.ensures.cause.works;
      block = brings-watched c.args.turned.stretch.seconds c.args.turned.stretch.speed failed old new _ U V W c.keep_all.ensures.goes.speeds c.keep_all.ensures.goes.keeping.unit_tells c.turn.ensures.watched;
      last = λ well. k.last refl;
      marks = k.marks;
      stands = k.stands;
      watches = λ well. c.turn.ensures.watches;
      limit = λ well. c.turn.ensures.limit;
      newest = λ well. ok_gives c.turn.result c.turn.ensures.newest well;
    }

pub returns-in_err-keep_all-clause-kept : goal.returns-in_err-keep_all-clause-kept
returns-in_err-keep_all-clause-kept g c =
    let failed : true ≡ is_err c.from_residual.result = search rules in
    let k = c.in_err-keep_all.ensures.kept in
    let old = c.args.run.now in
    let run : Run = record old { keeper = c.keep_all.new.self } in
    let out = c.args.outcome.now in
    let told : Outcome = c.keep_all.new.outcome in
    let U = g.M.Medium.state c.args.unit.now in
    let V = g.M.Medium.state c.keep_all.new.unit in
    let d = devices U (g.C.Chip.state c.args.card_a.now) (g.D.Chip.state c.args.card_b.now) in
    let e = devices V (g.C.Chip.state c.keep_all.new.card_a) (g.D.Chip.state c.keep_all.new.card_b) in
    let b = turn-cut c.args.turned.decided.now c.args.turned.at (told_of old out) (told_of run told) d e k.reach k.is k.books in
    subst (λ (f : Bool). KeepsTurn c.args.turned.decided.now c.args.turned.stretch.seconds c.args.turned.stretch.speed c.args.turned.at f old run out told d e) failed (record {
      kept = record { only = refl; outcome = c.keep_all.ensures.only; how = inl (refl, k.kept, refl) };
      reach = b.0;
      is = b.1;
      books = b.2;
      noted = keeping-cut c.args.turned.decided.now c.args.turned.stretch.seconds c.args.turned.stretch.speed c.args.turned.at old run out told U V k.reach k.is refl k.noted;
      block = brings-kept c.args.turned.stretch.seconds c.args.turned.stretch.speed old run U V c.requires.watch.some c.requires.watch.within c.keep_all.ensures.goes.speeds;
      last = λ well. absurd (cc);
      marks = k.marks;
      stands = k.stands;
      watches = λ well. absurd (cc);
      limit = λ well. absurd (cc);
      newest = λ well. absurd (cc);
    })

-- ---- how it stands

pub returns-clause-stands : goal.returns-clause-stands
returns-clause-stands g c =
    let e = c.in_ok-keep_all.ensures.stands in
    let r = e.ready refl in
    let before = g.met.M.Medium.coherent c.keep_all.new.unit in
    let after = g.met.M.Medium.coherent c.turn.new.unit in
    record {
      unit = c.turn.ensures.unit;
      card_a = e.card_a;
      card_b = e.card_b;
      minute = e.minute;
      cause = cause_after e.cause c.turn.ensures.cause;
      ready = λ well. record { unit_ready = noted-ready before after c.turn.ensures.journal c.keep_all.new.self r.unit_ready (c.turn.ensures.cause.works ∙ ap not well); card_a = r.card_a; card_b = r.card_b };
      rows = λ well card h. noted-row before after c.turn.ensures.journal c.keep_all.new.self r.unit_ready c.keep_all.new.self.cabin.cards card (e.rows refl card h);
    }

pub returns-in_err-keep_all-clause-stands : goal.returns-in_err-keep_all-clause-stands
returns-in_err-keep_all-clause-stands g c =
    let failed : true ≡ is_err c.from_residual.result = search rules in
    stands_by failed c.in_err-keep_all.ensures.stands

-- ---- all goes on

pub returns-clause-goes : goal.returns-clause-goes
returns-clause-goes g c =
    let V = g.M.Medium.state c.keep_all.new.unit in
    let W = g.M.Medium.state c.turn.new.unit in
    let k = c.keep_all.new.self in
    keeping_then c.keep_all.ensures.goes.keeping (goes_on_unit k k c.keep_all.new.outcome.marks c.keep_all.new.outcome.marks c.keep_all.new.outcome.breaks V W (g.C.Chip.state c.keep_all.new.card_a) (g.D.Chip.state c.keep_all.new.card_b) (g.C.Chip.card c.keep_all.new.card_a) (g.D.Chip.card c.keep_all.new.card_b)
    refl refl c.turn.ensures.journal.keeps c.turn.ensures.journal.tells (state-by V W (is_err c.turn.result) c.turn.ensures.journal.later c.turn.ensures.cause))

pub returns-in_err-keep_all-clause-goes : goal.returns-in_err-keep_all-clause-goes
returns-in_err-keep_all-clause-goes g c = c.keep_all.ensures.goes.keeping

pub returns-clause-bare : goal.returns-clause-bare
returns-clause-bare g c = c.keep_all.ensures.bare

pub returns-in_err-keep_all-clause-bare : goal.returns-in_err-keep_all-clause-bare
returns-in_err-keep_all-clause-bare g c = c.keep_all.ensures.bare

-- ---- its writes

pub returns-clause-most : goal.returns-clause-most
returns-clause-most g c = record {
  unit = (let a = c.keep_all.ensures.goes.most.unit in let b = c.turn.ensures.most in omega (arith, a, b));
  card_a = c.keep_all.ensures.goes.most.card_a;
  card_b = c.keep_all.ensures.goes.most.card_b;
}

pub returns-in_err-keep_all-clause-most : goal.returns-in_err-keep_all-clause-most
returns-in_err-keep_all-clause-most g c = record {
  unit = (let a = c.keep_all.ensures.goes.most.unit in omega (arith, a));
  card_a = c.keep_all.ensures.goes.most.card_a;
  card_b = c.keep_all.ensures.goes.most.card_b;
}
