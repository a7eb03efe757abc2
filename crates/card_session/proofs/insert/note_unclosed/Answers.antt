use Rattle.std.proofs.Common.{ℕ, List, sym, subst, arith}
use Rattle.tach_media.specs.Medium.{LiesInside}
use Rattle.tach_media.proofs.Runs.{ok_gives, on_ok, from_reads, cause_after}
use Rattle.card_layout.specs.Files.{place_of, size_of}
use Rattle.card_validity.specs.card_image.Fields.{file}
use Rattle.card_session.proofs.InsertingUse.{none_noted, noting, noted}
use Rattle.card_session.proofs.insert.note_unclosed.Goals as goal

pub note_event-requires-clause-fits : goal.note_event-requires-clause-fits
note_event-requires-clause-fits g c = omega (arith, c.requires.card.keep.fits, c.in_ok-held.ensures.reads.leaves.size)

pub note_event-requires-clause-writable : goal.note_event-requires-clause-writable
note_event-requires-clause-writable g c = subst (λ (w : List (ℕ × ℕ)). LiesInside w (place_of c.args.app.now (file 0x0502)) (size_of c.args.app.now (file 0x0502))) (sym c.in_ok-held.ensures.reads.leaves.writable) c.requires.card.events

pub returns-in_err-held-clause-moments : goal.returns-in_err-held-clause-moments
returns-in_err-held-clause-moments g c = from_reads c.in_err-held.ensures.reads.leaves

pub returns-then-held-clause-moments : goal.returns-then-held-clause-moments
returns-then-held-clause-moments g c = from_reads c.in_ok-held.ensures.reads.leaves

pub returns-then-held-clause-noted : goal.returns-then-held-clause-noted
returns-then-held-clause-noted g c = none_noted c.args.app.now c.args.current.now c.args.now.0 c.in_ok-held.held (g.M.Medium.state c.args.port.now) (g.M.Medium.state c.has_event.new.medium) c.in_ok-held.ensures.reads c.in_ok-held.ensures.there c.if-held.true

pub returns-clause-moments : goal.returns-clause-moments
returns-clause-moments g c = noting c.args.app.now c.args.current.now c.args.now.0 c.in_ok-held.held (g.M.Medium.state c.args.port.now) (g.M.Medium.state c.has_event.new.medium) c.in_ok-held.ensures.reads c.in_ok-held.ensures.there c.if-held.false c.note_event.ensures.moments

pub returns-clause-noted : goal.returns-clause-noted
returns-clause-noted g c = on_ok c.note_event.result (λ fine. noted c.args.app.now c.args.current.now c.args.now.0 c.in_ok-held.held (g.M.Medium.state c.args.port.now) (g.M.Medium.state c.has_event.new.medium) c.in_ok-held.ensures.reads c.in_ok-held.ensures.there c.if-held.false (g.M.Medium.state c.note_event.new.medium) (ok_gives c.note_event.result c.note_event.ensures.noted fine))

pub returns-clause-cause : goal.returns-clause-cause
returns-clause-cause g c = cause_after c.in_ok-held.ensures.reads.cause c.note_event.ensures.cause
