use Rattle.std.proofs.Common.{◌≡◌, ◌-◌, ◌∙◌, ℕ, List, [], Option, Some, None, min, length, sym, ap, subst}
use Rattle.tach_media.proofs.Runs.{both_told}
use Rattle.unit_memory.proofs.Told.{one_told, carried}
use Rattle.unit_minutes.proofs.IfAny.{read_same}
use Rattle.message_model.specs.Sending.{content_sent}
use Rattle.link_frames.specs.Sending.{IsPart}
use Rattle.link_frames.proofs.Parts.{some_message}
use Rattle.unit_messages.specs.declared.outline.Plan.{Plan}
use Rattle.unit_messages.specs.Outlines.{Outlines, IsOutlined, asked, length_of}
use Rattle.unit_messages.specs.Sent.{IsPiece}
use Rattle.unit_messages.proofs.Calls.{any_then}
use Rattle.link_session.proofs.Parts.{no_part, outlined_part, outlined_knows}
use Rattle.link_session.proofs.asking.part_of.Goals as goal

pub returns-in_default-clause-told : goal.returns-in_default-clause-told
returns-in_default-clause-told g c =
    let request = c.args.request.now in
    let none : c.new-bytes.result.items ≡ [] = c.new-bytes.ensures in
    one_told (g.M.Medium.state c.args.unit.now).image _ c.in_ok-outline.ensures.outlined (λ x is.
    subst (λ (l : List ℕ). IsPart (content_sent x request) c.args.from None l) (sym none)
    (no_part x request c.args.from (subst (λ (f : Option Plan). IsOutlined x request f) c.in_default.is is)))

pub read-requires-clause-outlines : goal.read-requires-clause-outlines
read-requires-clause-outlines g c =
    let request = c.args.request.now in
    carried (Outlines c.in-Some.message) (sym (read_same c.in_ok-outline.ensures.reads))
    (one_told (g.M.Medium.state c.args.unit.now).image _ c.in_ok-outline.ensures.outlined (λ x is. (subst (λ (f : Option Plan). IsOutlined x request f) c.in-Some.is is).1))

pub returns-clause-told : goal.returns-clause-told
returns-clause-told g c =
    let request = c.args.request.now in
    let o = c.in-Some.message in
    let items = c.read.new.out.items in
    both_told (g.M.Medium.state c.args.unit.now).image _ c.in_ok-outline.ensures.outlined
    (carried (λ x. IsPiece x (asked o) c.args.from (Some (length_of o)) items) (read_same c.in_ok-outline.ensures.reads) c.in_ok-read.ensures.piece)
    (λ x told is piece. subst (λ (n : ℕ). IsPart (content_sent x request) c.args.from (Some n) items) (sym c.len.ensures.len)
    (outlined_part x request o c.args.from items c.requires.from (subst (λ (f : Option Plan). IsOutlined x request f) c.in-Some.is is) piece))

pub returns-clause-possible : goal.returns-clause-possible
returns-clause-possible g c =
    let o = c.in-Some.message in
    let items = c.read.new.out.items in
    let fits : length items ≡ min 252 (c.len.result - c.args.from) = c.in_ok-read.ensures.fits ∙ ap (λ (n : ℕ). min 252 (n - c.args.from)) (sym c.len.ensures.len) in
    some_message c.args.from c.len.result items c.requires.from c.len.ensures.some fits

pub returns-clause-outline : goal.returns-clause-outline
returns-clause-outline g c =
    let request = c.args.request.now in
    one_told (g.M.Medium.state c.args.unit.now).image _ c.in_ok-outline.ensures.outlined (λ x is. (subst (λ (f : Option Plan). IsOutlined x request f) c.in-Some.is is).1)

pub returns-in_default-clause-outline : goal.returns-in_default-clause-outline
returns-in_default-clause-outline g c = one_told (g.M.Medium.state c.args.unit.now).image _ c.in_ok-outline.ensures.outlined (λ x is. outlined_knows c.in_ok-outline.outline x c.args.request.now is)

pub returns-clause-reads : goal.returns-clause-reads
returns-clause-reads g c = any_then c.in_ok-outline.ensures.reads c.in_ok-read.ensures.reads
