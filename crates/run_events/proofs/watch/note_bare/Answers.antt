use Rattle.std.proofs.Common.{◌≡◌, ◌<◌, Option, IfSome, refl, ap, sym, subst, arith}
use Rattle.std.specs.Prelude.{IsTrue, OnOk, not, ◌&&◌, ◌==◌, option_map}
use Rattle.tach_media.specs.Medium.{LeavesOnly}
use Rattle.tach_media.proofs.Runs.{starts, no_reads}
use Rattle.event_model.specs.declared.entries.Span.{Span}
use Rattle.event_model.specs.Kinds.{purpose_of, purpose_number, is_event}
use Rattle.unit_notes.specs.declared.unit_event.UnitEvent.{UnitEvent}
use Rattle.unit_notes.specs.Entries.{fault_bytes}
use Rattle.unit_notes.specs.Journal.{LeavesJournal}
use Rattle.unit_notes.specs.Noting.{IsNotingEvent, IsEventNoted}
use Rattle.unit_events.proofs.Calling.{still-unit}
use Rattle.run_events.specs.Watching.{BareWith}
use Rattle.run_events.specs.Noting.{IsBareNoted, IsNotingBare}
use Rattle.run_events.proofs.Noted.{itself}
use Rattle.run_events.proofs.watch.note_bare.Goals as goal

pub note_event-requires-clause-kind : goal.note_event-requires-clause-kind
note_event-requires-clause-kind g c = subst (λ (v : UnitEvent). IsTrue (is_event v.kind && not (v.kind == 7))) (sym c.card_bare.ensures) refl

pub note_event-requires-clause-purpose : goal.note_event-requires-clause-purpose
note_event-requires-clause-purpose g c = subst (λ (v : UnitEvent). v.purpose ≡ purpose_number (purpose_of v.kind)) (sym c.card_bare.ensures) refl

pub note_event-requires-clause-begin : goal.note_event-requires-clause-begin
note_event-requires-clause-begin g c =
    let some : 0 < c.in-Some.span.begin = subst (λ (o : Option Span). IfSome o (λ s. 0 < s.begin)) c.in-Some.is c.requires.begin in
    let is = ap (λ (v : UnitEvent). v.begin.0) c.card_bare.ensures in
    λ gone. omega (arith, some, is, gone)

pub returns-in-Some-clause-noted : goal.returns-in-Some-clause-noted
returns-in-Some-clause-noted g c =
    subst (λ (o : Option Span). OnOk c.note_event.result (IfSome (g.M.Medium.state c.args.unit.now).image (λ x. IfSome (g.M.Medium.state c.note_event.new.unit).image
    (IsBareNoted (option_map {T = Span} {U = BareWith} (λ span. record { span = span; begin = c.args.ended.now.bare_begin; end = c.args.ended.now.end }) o) x)))) (sym c.in-Some.is)
    (subst (λ (v : UnitEvent). OnOk c.note_event.result (IfSome (g.M.Medium.state c.args.unit.now).image (λ x. IfSome (g.M.Medium.state c.note_event.new.unit).image (IsEventNoted v.kind (fault_bytes v) x)))) c.card_bare.ensures c.note_event.ensures.noted)

pub returns-in-Some-clause-moments : goal.returns-in-Some-clause-moments
returns-in-Some-clause-moments g c =
    subst (λ (o : Option Span). LeavesOnly (g.M.Medium.state c.args.unit.now) (g.M.Medium.state c.note_event.new.unit)
    (IsNotingBare (option_map {T = Span} {U = BareWith} (λ span. record { span = span; begin = c.args.ended.now.bare_begin; end = c.args.ended.now.end }) o))) (sym c.in-Some.is)
    (subst (λ (v : UnitEvent). LeavesOnly (g.M.Medium.state c.args.unit.now) (g.M.Medium.state c.note_event.new.unit) (IsNotingEvent v.kind (fault_bytes v))) c.card_bare.ensures c.note_event.ensures.moments)

pub returns-in-Some-clause-unit : goal.returns-in-Some-clause-unit
returns-in-Some-clause-unit g c = still-unit c.note_event.ensures.moments c.requires.unit

pub returns-in-None-clause-noted : goal.returns-in-None-clause-noted
returns-in-None-clause-noted g c =
    subst (λ (o : Option Span). IfSome (g.M.Medium.state c.args.unit.now).image (λ x. IfSome (g.M.Medium.state c.args.unit.now).image
    (IsBareNoted (option_map {T = Span} {U = BareWith} (λ span. record { span = span; begin = c.args.ended.now.bare_begin; end = c.args.ended.now.end }) o) x))) (sym c.in-None.is)
    (itself (g.M.Medium.state c.args.unit.now))

pub returns-in-None-clause-moments : goal.returns-in-None-clause-moments
returns-in-None-clause-moments g c = starts (g.M.Medium.state c.args.unit.now) _

pub returns-in-None-clause-journal : goal.returns-in-None-clause-journal
returns-in-None-clause-journal g c = starts (g.M.Medium.state c.args.unit.now) LeavesJournal

pub returns-in-None-clause-cause : goal.returns-in-None-clause-cause
returns-in-None-clause-cause g c = (no_reads (g.M.Medium.state c.args.unit.now) c.requires.works).cause
