use Rattle.std.proofs.Common.{rules, ◌≡◌, ◌/◌, ◌≤◌, ℕ, true, List, length, refl, sym, ◌∙◌, ap, subst, arith}
use Rattle.std.specs.Prelude.{is_err, All}
use Rattle.activity_codec.specs.declared.entries.Entry.{Entry}
use Rattle.card_validity.specs.card_image.Fields.{last_use_of}
use Rattle.card_session.specs.declared.words.TheConstants.{LATEST_MINUTE}
use Rattle.card_session.specs.Inserting.{lacked}
use Rattle.card_session.proofs.Composing.{part_failed}
use Rattle.card_session.proofs.OnCard.{may_still}
use Rattle.card_session.proofs.InsertingBooks.{lacked_minutes, lacked_few}
use Rattle.card_session.proofs.InsertingRepair.{cut_failed, cut_then, cut_open}
use Rattle.card_session.proofs.session.CardSession.repair.Goals as goal

pub replay-requires-clause-card : goal.replay-requires-clause-card
replay-requires-clause-card g c = may_still c.args.self.now.application c.cut.new.self.application c.in_ok-cut.ensures.part.leaves c.in_ok-cut.ensures.same.application c.requires.card

pub replay-requires-clause-minutes : goal.replay-requires-clause-minutes
replay-requires-clause-minutes g c = subst (λ (es : List Entry). All (λ e. (1440 ≤ e.minute) × (e.minute ≤ LATEST_MINUTE)) es) (sym c.lacked-lacked.ensures) (lacked_minutes c.mark-mark.result c.args.owed.now c.requires.minutes)

pub returns-in_err-cut-clause-part : goal.returns-in_err-cut-clause-part
returns-in_err-cut-clause-part g c =
    let failed : is_err c.from_residual.result ≡ true = search rules in
    cut_failed c.args.self.now c.mark-mark.result c.args.odometer.0 c.args.owed.now (lacked c.mark-mark.result c.args.owed.now) c.mark-mark.ensures.mark refl 1439 c.requires.ordered c.cut.new.self _ c.in_err-cut.ensures.part failed

pub returns-in_err-replay-clause-part : goal.returns-in_err-replay-clause-part
returns-in_err-replay-clause-part g c =
    let failed : is_err c.from_residual-in_err-replay.result ≡ true = search rules in
    let a = c.in_ok-cut.ensures.same in
    part_failed (cut_then c.args.self.now c.mark-mark.result c.args.odometer.0 c.args.owed.now c.lacked-lacked.result.now c.mark-mark.ensures.mark c.lacked-lacked.ensures 1439 c.requires.ordered c.cut.new.self c.replay.new.self a.application a.registration c.in_ok-cut.ensures.part c.in_err-replay.ensures.part) failed (λ x d was one. one)

pub returns-in_err-replay-clause-same : goal.returns-in_err-replay-clause-same
returns-in_err-replay-clause-same g c =
    let a = c.in_ok-cut.ensures.same in
    let b = c.in_err-replay.ensures.same in
    (b.0 ∙ a.application, b.1 ∙ a.registration, b.2 ∙ a.odometer)

pub returns-in_err-replay-clause-most : goal.returns-in_err-replay-clause-most
returns-in_err-replay-clause-most g c = omega (arith, c.in_ok-cut.ensures.most, c.in_err-replay.ensures.most, ap (λ (es : List Entry). length es) c.lacked-lacked.ensures, lacked_few c.mark-mark.result c.args.owed.now, c.requires.few)

pub returns-clause-same : goal.returns-clause-same
returns-clause-same g c =
    let a = c.in_ok-cut.ensures.same in
    let b = c.in_ok-replay.ensures.same in
    (b.0 ∙ a.application, b.1 ∙ a.registration, b.2 ∙ a.odometer)

pub returns-clause-part : goal.returns-clause-part
returns-clause-part g c =
    let a = c.in_ok-cut.ensures.same in
    cut_then c.args.self.now c.mark-mark.result c.args.odometer.0 c.args.owed.now c.lacked-lacked.result.now c.mark-mark.ensures.mark c.lacked-lacked.ensures 1439 c.requires.ordered c.cut.new.self _ a.application a.registration c.in_ok-cut.ensures.part c.in_ok-replay.ensures.part

pub returns-clause-open : goal.returns-clause-open
returns-clause-open g c =
    let a = c.in_ok-cut.ensures.same in
    cut_open c.args.self.now c.mark-mark.result c.args.odometer.0 c.args.owed.now c.lacked-lacked.result.now c.mark-mark.ensures.mark c.lacked-lacked.ensures 1439 c.requires.ordered c.cut.new.self a.application a.registration c.in_ok-cut.ensures.part c.in_ok-replay.ensures.open

pub returns-clause-count : goal.returns-clause-count
returns-clause-count g c =
    let few : length c.lacked-lacked.result.now ≤ 4 = omega (arith, ap (λ (es : List Entry). length es) c.lacked-lacked.ensures, lacked_few c.mark-mark.result c.args.owed.now, c.requires.few) in
    let is : length c.lacked-lacked.result.now ≡ length (lacked (last_use_of c.args.self.now.vehicle / 60) c.args.owed.now) = ap (λ (es : List Entry). length es) c.lacked-lacked.ensures ∙ ap (λ (m : ℕ). length (lacked m c.args.owed.now)) c.mark-mark.ensures.mark in
    omega (arith, few, is)

pub returns-clause-most : goal.returns-clause-most
returns-clause-most g c = omega (arith, c.in_ok-cut.ensures.most, c.in_ok-replay.ensures.most, ap (λ (es : List Entry). length es) c.lacked-lacked.ensures, lacked_few c.mark-mark.result c.args.owed.now, c.requires.few)

pub overflow_cast-result : goal.overflow_cast-result
overflow_cast-result g c = omega (arith, ap (λ (es : List Entry). length es) c.lacked-lacked.ensures, lacked_few c.mark-mark.result c.args.owed.now, c.requires.few)
