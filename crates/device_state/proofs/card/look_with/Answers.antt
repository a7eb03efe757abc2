use Rattle.std.proofs.Common.{◌≡◌, Some, Result, Ok, Err, IfErr, IfSome, ap, subst, ◌∙◌}
use Rattle.tach_media.proofs.Runs.{both_told, from_told}
use Rattle.card_layout.specs.Application.{application_in}
use Rattle.card_commands.specs.Ports.{IsJudged}
use Rattle.card_image.specs.Judging.{first_bad_file}
use Rattle.card_validity.specs.declared.fault.InsertFault.{InsertFault}
use Rattle.card_validity.specs.declared.looking.CardLook.{CardLook}
use Rattle.card_validity.specs.Faults.{IfNotValid, IfTimeOverlap}
use Rattle.card_validity.specs.Judged.{TellsSizes}
use Rattle.run_opening.proofs.Told.{tells-sizes}
use Rattle.device_state.specs.declared.card.CardFault.TheVariants.{BadFile}
use Rattle.device_state.specs.Cards.{TellsCard}
use Rattle.device_state.proofs.ToldCards.{tells-valid, tells-bad}
use Rattle.device_state.proofs.card.look_with.Goals as goal

pub look_by-requires-clause-told : goal.look_by-requires-clause-told
look_by-requires-clause-told g c = from_told (g.C.Chip.state c.args.card.now).image (λ x. IsJudged (application_in x) (Ok c.args.app)) (TellsSizes c.args.app) c.requires.told (λ x is judged. tells-sizes c.args.app x judged.0)

pub returns-in-Ok-clause-told : goal.returns-in-Ok-clause-told
returns-in-Ok-clause-told g c =
    both_told (g.C.Chip.state c.args.card.now).image (TellsCard (Ok c.in-Ok.look)) c.requires.told c.in-Ok.ensures.look (λ x is judged look. tells-valid c.args.app x c.in-Ok.look judged look)

pub returns-in-Err-NotValid-clause-told : goal.returns-in-Err-NotValid-clause-told
returns-in-Err-NotValid-clause-told g c =
    let X = g.C.Chip.state c.args.card.now in
    let fid = c.in-Err-NotValid.fid in
    let place = c.in-Err-NotValid.place in
    let is = c.in-Err-NotValid.is ∙ ap Err c.in-Err-NotValid.field-0-is in
    let bad = subst (λ (r : Result CardLook InsertFault). IfErr r (λ f. IfNotValid f (λ fid place. IfSome X.image (λ x. first_bad_file c.args.app x ≡ Some (fid, place))))) is c.look_by.ensures.bad in
    both_told X.image (TellsCard (Err (BadFile fid place))) c.requires.told bad (λ x at judged bad. tells-bad c.args.app x fid place judged bad)

-- a card is never too late here
pub unreachable-requires : goal.unreachable-requires
unreachable-requires g c =
    subst (λ (r : Result CardLook InsertFault). IfErr r (λ f. IfTimeOverlap f (λ stored now. ⊥))) (c.in-Err-TimeOverlap.is ∙ ap Err c.in-Err-TimeOverlap.field-0-is) c.look_by.ensures.in_time
