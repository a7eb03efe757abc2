use Rattle.std.proofs.Common.{◌<◌, Option, IfSome, sym, subst, arith}
use Rattle.std.specs.Prelude.{OnOk, option_map}
use Rattle.tach_media.specs.Medium.{LeavesOnly}
use Rattle.tach_media.proofs.Runs.{starts, no_reads}
use Rattle.tacho_types.specs.declared.card_number.FullCardNumber.{FullCardNumber}
use Rattle.event_model.specs.declared.entries.Over.{Over}
use Rattle.unit_notes.specs.Entries.{over_bytes}
use Rattle.unit_notes.specs.Journal.{LeavesJournal}
use Rattle.unit_notes.specs.Noting.{IsNotingOver, IsOverNoted}
use Rattle.unit_events.proofs.Calling.{still-unit}
use Rattle.run_events.specs.Watching.{OverWith}
use Rattle.run_events.specs.Noting.{IsFastNoted, IsNotingFast}
use Rattle.run_events.proofs.Noted.{itself}
use Rattle.run_events.proofs.watch.note_fast.Goals as goal

pub note_over-requires-clause-begin : goal.note_over-requires-clause-begin
note_over-requires-clause-begin g c =
    let some : 0 < c.in-Some.over.begin = subst (λ (o : Option Over). IfSome o (λ o. 0 < o.begin)) c.in-Some.is c.requires.begin in
    λ gone. omega (arith, some, gone)

pub returns-in-Some-clause-noted : goal.returns-in-Some-clause-noted
returns-in-Some-clause-noted g c =
    subst (λ (o : Option Over). OnOk c.note_over.result (IfSome (g.M.Medium.state c.args.unit.now).image (λ x. IfSome (g.M.Medium.state c.note_over.new.unit).image
    (IsFastNoted (option_map {T = Over} {U = OverWith} (λ over. record { over = over; begin = c.args.ended.now.over_begin; end = c.args.ended.now.end }) o) x)))) (sym c.in-Some.is)
    (subst (λ (d : FullCardNumber). OnOk c.note_over.result (IfSome (g.M.Medium.state c.args.unit.now).image (λ x. IfSome (g.M.Medium.state c.note_over.new.unit).image (IsOverNoted c.in-Some.over.begin (over_bytes c.in-Some.over d) x)))) c.driver_of.ensures c.note_over.ensures.noted)

pub returns-in-Some-clause-moments : goal.returns-in-Some-clause-moments
returns-in-Some-clause-moments g c =
    subst (λ (o : Option Over). LeavesOnly (g.M.Medium.state c.args.unit.now) (g.M.Medium.state c.note_over.new.unit)
    (IsNotingFast (option_map {T = Over} {U = OverWith} (λ over. record { over = over; begin = c.args.ended.now.over_begin; end = c.args.ended.now.end }) o))) (sym c.in-Some.is)
    (subst (λ (d : FullCardNumber). LeavesOnly (g.M.Medium.state c.args.unit.now) (g.M.Medium.state c.note_over.new.unit) (IsNotingOver c.in-Some.over.begin (over_bytes c.in-Some.over d))) c.driver_of.ensures c.note_over.ensures.moments)

pub returns-in-Some-clause-unit : goal.returns-in-Some-clause-unit
returns-in-Some-clause-unit g c = still-unit c.note_over.ensures.moments c.requires.unit

pub returns-in-None-clause-noted : goal.returns-in-None-clause-noted
returns-in-None-clause-noted g c =
    subst (λ (o : Option Over). IfSome (g.M.Medium.state c.args.unit.now).image (λ x. IfSome (g.M.Medium.state c.args.unit.now).image
    (IsFastNoted (option_map {T = Over} {U = OverWith} (λ over. record { over = over; begin = c.args.ended.now.over_begin; end = c.args.ended.now.end }) o) x))) (sym c.in-None.is)
    (itself (g.M.Medium.state c.args.unit.now))

pub returns-in-None-clause-moments : goal.returns-in-None-clause-moments
returns-in-None-clause-moments g c = starts (g.M.Medium.state c.args.unit.now) _

pub returns-in-None-clause-journal : goal.returns-in-None-clause-journal
returns-in-None-clause-journal g c = starts (g.M.Medium.state c.args.unit.now) LeavesJournal

pub returns-in-None-clause-cause : goal.returns-in-None-clause-cause
returns-in-None-clause-cause g c = (no_reads (g.M.Medium.state c.args.unit.now) c.requires.works).cause
