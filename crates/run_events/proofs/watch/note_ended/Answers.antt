use Rattle.tach_media.proofs.Runs.{cause_after, on_ok, ok_gives}
use Rattle.unit_events.proofs.Calling.{journal-then}
use Rattle.run_events.proofs.Noted.{first-moments, both-noted, both-moments}
use Rattle.run_events.proofs.watch.note_ended.Goals as goal

pub note_fast-requires-clause-works : goal.note_fast-requires-clause-works
note_fast-requires-clause-works g c = c.in_ok-note_bare.ensures.cause.works

pub returns-in_err-note_bare-clause-moments : goal.returns-in_err-note_bare-clause-moments
returns-in_err-note_bare-clause-moments g c = first-moments c.args.ended.now c.note_bare.ensures.moments

pub returns-clause-noted : goal.returns-clause-noted
returns-clause-noted g c =
    on_ok c.note_fast.result (λ fine.
    both-noted c.args.ended.now (g.M.Medium.state c.args.unit.now) (g.M.Medium.state c.note_bare.new.unit) (g.M.Medium.state c.note_fast.new.unit) c.note_bare.ensures.moments.tells c.in_ok-note_bare.ensures.noted
    (ok_gives c.note_fast.result c.note_fast.ensures.noted fine))

pub returns-clause-moments : goal.returns-clause-moments
returns-clause-moments g c = both-moments c.args.ended.now c.note_bare.ensures.moments c.in_ok-note_bare.ensures.noted c.note_fast.ensures.moments

pub returns-clause-journal : goal.returns-clause-journal
returns-clause-journal g c = journal-then (g.met.M.Medium.coherent c.args.unit.now) (g.met.M.Medium.coherent c.note_bare.new.unit) c.requires.works c.note_bare.ensures.journal c.note_fast.ensures.journal

pub returns-clause-cause : goal.returns-clause-cause
returns-clause-cause g c = cause_after c.in_ok-note_bare.ensures.cause c.note_fast.ensures.cause
