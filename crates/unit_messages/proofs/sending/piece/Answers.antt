use Rattle.std.proofs.Common.{◌≡◌, ◌∙◌, Option, Some, None, IfSome, sym, subst, refl, inl}
use Rattle.std.proofs.lemmas.Result.{IfOk-weaker}
use Rattle.unit_model.specs.Decoding.{Decodes}
use Rattle.unit_memory.proofs.Told.{one_told, carried}
use Rattle.unit_minutes.proofs.IfAny.{read_same}
use Rattle.unit_minutes.specs.Image.{IsFoundBy}
use Rattle.unit_minutes.specs.Reading.{AreRight}
use Rattle.link_model.specs.declared.request.Request.{Request}
use Rattle.unit_messages.specs.declared.outline.Plan.{Plan}
use Rattle.unit_messages.specs.Outlines.{Outlines, IsOutlined, asked}
use Rattle.unit_messages.specs.Sent.{IsPiece}
use Rattle.unit_messages.proofs.Calls.{any_then, reads_any}
use Rattle.unit_messages.proofs.Faulting.{ok_always, never_bad, never_none}
use Rattle.unit_messages.proofs.sending.piece.Goals as goal

pub find_outline-requires-clause-right : goal.find_outline-requires-clause-right
find_outline-requires-clause-right g c =
    one_told (g.M.Medium.state c.load.new.unit).image (AreRight c.in_ok-journal.journal) (carried (IsFoundBy c.in_ok-journal.journal) (sym (c.in_ok-journal.ensures.reads.same refl)) c.in_ok-journal.ensures.found) (λ x found. inl found)

pub find_outline-requires-clause-decodes : goal.find_outline-requires-clause-decodes
find_outline-requires-clause-decodes g c = carried Decodes (sym (c.in_ok-journal.ensures.reads.same refl)) c.in_ok-journal.ensures.decodes

pub piece_of-requires-clause-outlines : goal.piece_of-requires-clause-outlines
piece_of-requires-clause-outlines g c =
    one_told (g.M.Medium.state c.find_outline.new.unit).image (Outlines c.in-Some.outline)
    (carried (λ x. IsOutlined x c.args.request.now (Some c.in-Some.outline)) (sym (read_same c.in_ok-found.ensures.reads))
    (subst (λ (f : Option Plan). IfSome (g.M.Medium.state c.load.new.unit).image (λ x. IsOutlined x c.args.request.now f)) c.in-Some.is c.in_ok-found.ensures.outlined)) (λ x both. both.1)

pub returns-in-None-clause-piece : goal.returns-in-None-clause-piece
returns-in-None-clause-piece g c =
    carried (λ x. IsPiece x c.args.request.now c.args.from None c.args.out.now.items) (c.in_ok-journal.ensures.reads.same refl)
    (subst (λ (f : Option Plan). IfSome (g.M.Medium.state c.load.new.unit).image (λ x. IsOutlined x c.args.request.now f)) c.in-None.is c.in_ok-found.ensures.outlined)

pub returns-in-None-clause-reads : goal.returns-in-None-clause-reads
returns-in-None-clause-reads g c = reads_any c.in_ok-journal.ensures.reads c.in_ok-found.ensures.reads

pub returns-in-Some-clause-piece : goal.returns-in-Some-clause-piece
returns-in-Some-clause-piece g c =
    let before = (g.M.Medium.state c.args.unit.now).image in
    let after = (g.M.Medium.state c.find_outline.new.unit).image in
    let items = c.piece_of.new.out.items in
    let request : asked c.in-Some.outline ≡ c.args.request.now = subst (λ (f : Option Plan). IfSome f (λ o. asked o ≡ c.args.request.now)) c.in-Some.is c.in_ok-found.ensures.request in
    let same : after ≡ before = read_same c.in_ok-found.ensures.reads ∙ c.in_ok-journal.ensures.reads.same refl in
    IfOk-weaker c.piece_of.result (λ found. IfSome after (λ x. IsPiece x (asked c.in-Some.outline) c.args.from found items)) (λ found. IfSome before (λ x. IsPiece x c.args.request.now c.args.from found items))
    (λ found it. carried (λ x. IsPiece x c.args.request.now c.args.from found items) same (subst (λ (q : Request). IfSome after (λ x. IsPiece x q c.args.from found items)) request it)) c.piece_of.ensures.piece

pub returns-in-Some-clause-none : goal.returns-in-Some-clause-none
returns-in-Some-clause-none g c = never_none _ c.piece_of.result c.piece_of.ensures.some

pub returns-in-Some-clause-decodes : goal.returns-in-Some-clause-decodes
returns-in-Some-clause-decodes g c = ok_always c.piece_of.result c.in_ok-journal.ensures.decodes

pub returns-in-Some-clause-bad : goal.returns-in-Some-clause-bad
returns-in-Some-clause-bad g c = never_bad c.piece_of.result _ c.piece_of.ensures.failed

pub returns-in-Some-clause-reads : goal.returns-in-Some-clause-reads
returns-in-Some-clause-reads g c = reads_any c.in_ok-journal.ensures.reads (any_then c.in_ok-found.ensures.reads c.piece_of.ensures.reads)
