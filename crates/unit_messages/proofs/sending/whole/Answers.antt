use Rattle.std.proofs.Common.{◌≡◌, ◌∙◌, ◌*◌, ◌++◌, Some, List, [], ℕ, sym, ap, arith, rules, Bool, false, subst}
use Rattle.tach_media.proofs.Runs.{both_told}
use Rattle.unit_memory.proofs.Told.{told_all, carried}
use Rattle.unit_minutes.proofs.IfAny.{read_same}
use Rattle.unit_minutes.specs.Reading.{ReadsIfAny}
use Rattle.unit_messages.specs.Outlines.{Outlines, asked, length_of}
use Rattle.unit_messages.specs.Sent.{IsPiece}
use Rattle.unit_messages.specs.Faults.{message_failed}
use Rattle.unit_messages.proofs.Calls.{no_call, any_then, any_failed}
use Rattle.unit_messages.proofs.Lengths.{piece_more, whole_is}
use Rattle.unit_messages.proofs.sending.whole.Goals as goal

pub read-requires-clause-outlines : goal.read-requires-clause-outlines
read-requires-clause-outlines g c = carried (Outlines c.args.outline.now) (sym (read_same c.loop-turn.invariant.reads)) c.requires.outlines

pub loop-turn-init : goal.loop-turn-init
loop-turn-init g c =
    let none : c.new-bytes.result.items ≡ [] = search rules in
    record { passed = told_all (g.M.Medium.state c.args.unit.now).image _ (λ x told b sent. none); reads = no_call (g.M.Medium.state c.args.unit.now) }

pub loop-turn-preserved : goal.loop-turn-preserved
loop-turn-preserved g c =
    let o = c.args.outline.now in
    let was = c.loop-turn.invariant in
    let joined : c.append.new.bytes.items ≡ c.loop-turn.bytes.items ++ c.read.new.out.items = c.in_ok-append.ensures.items ∙ ap (λ (l : List ℕ). c.loop-turn.bytes.items ++ l) c.as_slice.ensures.value in
    let here = carried (λ x. IsPiece x (asked o) (c.loop-turn.turn * 252) (Some (length_of o)) c.read.new.out.items) (read_same was.reads) c.in_ok-read.ensures.piece in
    record {
      passed = both_told (g.M.Medium.state c.args.unit.now).image _ was.passed here (λ x told before it b sent.
          piece_more x (asked o) c.loop-turn.bytes.items c.read.new.out.items c.append.new.bytes.items c.loop-turn.turn (length_of o) b sent (before b sent) it joined);
      reads = any_then was.reads c.in_ok-read.ensures.reads;
    }

pub returns-clause-message : goal.returns-clause-message
returns-clause-message g c =
    let o = c.args.outline.now in
    both_told (g.M.Medium.state c.args.unit.now).image _ c.requires.outlines c.loop-turn.invariant.passed (λ x told known before.
    whole_is o x c.loop-turn.bytes.items c.loop-turn.turn (omega (arith, c.requires.unit, (g.met.M.Medium.coherent c.args.unit.now).sized x told)) known (omega (arith, c.len-len.ensures.len)) before)

pub returns-clause-reads : goal.returns-clause-reads
returns-clause-reads g c = c.loop-turn.invariant.reads

pub returns-in_err-read-clause-reads : goal.returns-in_err-read-clause-reads
returns-in_err-read-clause-reads g c = any_failed (message_failed c.from_residual.result) (search rules) (any_then c.loop-turn.invariant.reads c.in_err-read.ensures.reads)

pub returns-in_err-append-clause-reads : goal.returns-in_err-append-clause-reads
returns-in_err-append-clause-reads g c =
    let none : message_failed c.from_residual-in_err-append.result ≡ false = search rules in
    subst (λ (f : Bool). ReadsIfAny (g.M.Medium.state c.args.unit.now) (g.M.Medium.state c.read.new.unit) f) (sym none) (any_then c.loop-turn.invariant.reads c.in_ok-read.ensures.reads)
