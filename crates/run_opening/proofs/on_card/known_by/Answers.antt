use Rattle.std.proofs.Common.{rules, ◌≡◌, Some, Result, Ok, Err, IfErr, IfSome, refl, ap, subst, sym, ◌∙◌}
use Rattle.tach_media.proofs.Runs.{from_told}
use Rattle.card_layout.specs.Application.{application_in}
use Rattle.card_commands.specs.Ports.{IsJudged}
use Rattle.card_image.specs.Judging.{first_bad_file}
use Rattle.card_validity.specs.declared.fault.InsertFault.{InsertFault}
use Rattle.card_validity.specs.declared.looking.CardLook.{CardLook}
use Rattle.card_validity.specs.Faults.{IfNotValid, has_failed}
use Rattle.card_validity.specs.Judged.{TellsSizes}
use Rattle.run_crew.specs.declared.cards.Known.{Known}
use Rattle.run_opening.specs.Cards.{IsFoundOn}
use Rattle.run_opening.proofs.Told.{tells-sizes, found-valid, found-invalid}
use Rattle.run_opening.proofs.on_card.known_by.Goals as goal

pub look_by-requires-clause-told : goal.look_by-requires-clause-told
look_by-requires-clause-told g c = from_told (g.C.Chip.state c.args.card.now).image (λ x. IsJudged (application_in x) (Ok c.args.app)) (TellsSizes c.args.app) c.requires.told (λ x is judged. tells-sizes c.args.app x judged.0)

pub returns-in-Ok-clause-found : goal.returns-in-Ok-clause-found
returns-in-Ok-clause-found g c =
    let found = found-valid c.args.app (g.C.Chip.card c.look_by.new.card) (g.C.Chip.state c.args.card.now) (g.C.Chip.state c.look_by.new.card) (g.met.C.Chip.coherent c.args.card.now) c.requires.port.good c.requires.port.size
    c.in-Ok.ensures.port (c.in-Ok.ensures.reads.same refl) c.requires.told c.in-Ok.look c.in-Ok.ensures.look in
    search (rules, found)

pub returns-in-Err-NotValid-clause-found : goal.returns-in-Err-NotValid-clause-found
returns-in-Err-NotValid-clause-found g c =
    let X = g.C.Chip.state c.args.card.now in
    let Y = g.C.Chip.state c.look_by.new.card in
    let fid = c.in-Err-NotValid.field-0-0 in
    let place = c.in-Err-NotValid.field-0-1 in
    let is = c.in-Err-NotValid.is ∙ ap Err c.in-Err-NotValid.field-0-is in
    let same = c.look_by.ensures.reads.same (ap (λ (r : Result CardLook InsertFault). has_failed r) is) in
    let bad = subst (λ (r : Result CardLook InsertFault). IfErr r (λ f. IfNotValid f (λ fid place. IfSome X.image (λ x. first_bad_file c.args.app x ≡ Some (fid, place))))) is c.look_by.ensures.bad in
    let found = found-invalid c.args.app (g.C.Chip.card c.look_by.new.card) X Y (g.met.C.Chip.coherent c.args.card.now) c.requires.port.good c.requires.port.size c.look_by.ensures.port same c.requires.told fid place bad in
    subst (λ (k : Known). IsFoundOn k (g.C.Chip.card c.look_by.new.card) Y) (sym c.without_number.ensures) found
