use Rattle.std.proofs.Common.{rules, inl, ◌≡◌, ◌/◌, ◌<◌, ◌≤◌, true, false, Option, length, ◌∙◌, ap, subst, arith}
use Rattle.std.specs.Prelude.{is_err}
use Rattle.card_layout.specs.declared.files.Application.{Application}
use Rattle.card_validity.specs.card_image.Fields.{last_use_of, current_use}
use Rattle.card_files.specs.declared.vehicle.Vehicle.{Vehicle}
use Rattle.card_session.specs.declared.words.TheConstants.{LATEST_MINUTE}
use Rattle.card_session.specs.Sessions.{Session, IsValue}
use Rattle.card_session.specs.Parts.{DoesPart}
use Rattle.card_session.specs.Inserting.{lacked, IsNoted, IsNoting}
use Rattle.card_session.proofs.OnCard.{may_still}
use Rattle.card_session.proofs.InsertingBooks.{each_as}
use Rattle.card_session.proofs.InsertingCards.{repaired_mark}
use Rattle.card_session.proofs.InsertingUse.{insert_still}
use Rattle.card_session.proofs.InsertingMend.{first_done, second_done, third_done, mend_failed}
use Rattle.card_session.proofs.session.CardSession.mend.Goals as goal

pub repair-requires-clause-card : goal.repair-requires-clause-card
repair-requires-clause-card g c = may_still c.args.self.now.application c.finish_drop.new.self.application c.in_ok-finish_drop.ensures.part.leaves c.in_ok-finish_drop.ensures.same.application c.requires.card.keep

pub repair-requires-clause-minutes : goal.repair-requires-clause-minutes
repair-requires-clause-minutes g c = each_as (λ e. (1440 ≤ e.minute) × (e.minute < LATEST_MINUTE)) (λ e. (1440 ≤ e.minute) × (e.minute ≤ LATEST_MINUTE)) c.args.owed.now (λ e both. (both.0, omega (arith, both.1))) c.requires.minutes

pub note_unclosed-requires-clause-sizes : goal.note_unclosed-requires-clause-sizes
note_unclosed-requires-clause-sizes g c = c.self.invariant.sizes

pub note_unclosed-requires-clause-card : goal.note_unclosed-requires-clause-card
note_unclosed-requires-clause-card g c =
    insert_still c.finish_drop.new.self.application c.self.inside.application c.in_ok-replayed.ensures.part.leaves (ap (λ (t : Session). t.application) c.self.view_is ∙ c.in_ok-replayed.ensures.same.0) (insert_still c.args.self.now.application c.finish_drop.new.self.application c.in_ok-finish_drop.ensures.part.leaves c.in_ok-finish_drop.ensures.same.application c.requires.card)

pub returns-in_err-finish_drop-clause-part : goal.returns-in_err-finish_drop-clause-part
returns-in_err-finish_drop-clause-part g c =
    let failed : is_err c.from_residual.result ≡ true = search rules in
    mend_failed c.args.self.now c.args.current.now c.args.odometer.0 c.args.owed.now c.args.now.0 _
    (first_done c.args.self.now c.args.current.now c.args.odometer.0 c.args.owed.now c.args.now.0 c.finish_drop.new.self c.in_err-finish_drop.ensures.part) failed

pub returns-in_err-replayed-clause-part : goal.returns-in_err-replayed-clause-part
returns-in_err-replayed-clause-part g c =
    let failed : is_err c.from_residual-in_err-replayed.result ≡ true = search rules in
    let s = c.args.self.now in
    let a = c.in_ok-finish_drop.ensures.same in
    let b = c.in_err-replayed.ensures.same in
    let marked = repaired_mark s.application.activity s.registration c.args.odometer.0 LATEST_MINUTE c.args.owed.now (each_as (λ e. (1440 ≤ e.minute) × (e.minute < LATEST_MINUTE)) (λ e. e.minute < LATEST_MINUTE) c.args.owed.now (λ e both. both.1) c.requires.minutes) in
    mend_failed s c.args.current.now c.args.odometer.0 c.args.owed.now c.args.now.0 _
    (second_done s c.args.current.now c.args.odometer.0 c.args.owed.now c.args.now.0 c.finish_drop.new.self c.repair.new.self a.application a.registration (b.0 ∙ a.application) marked
    (first_done s c.args.current.now c.args.odometer.0 c.args.owed.now c.args.now.0 c.finish_drop.new.self c.in_ok-finish_drop.ensures.part) c.in_err-replayed.ensures.part (λ fine. absurd (cc))) failed

pub returns-in_err-note_unclosed-clause-part : goal.returns-in_err-note_unclosed-clause-part
returns-in_err-note_unclosed-clause-part g c =
    let failed : is_err c.from_residual-in_err-note_unclosed.result ≡ true = search rules in
    let s = c.args.self.now in
    let current = c.args.current.now in
    let owed = c.args.owed.now in
    let odometer = c.args.odometer.0 in
    let now = c.args.now.0 in
    let a = c.in_ok-finish_drop.ensures.same in
    let b = c.in_ok-replayed.ensures.same in
    let old = g.M.Medium.state c.repair.new.port in
    let new = g.M.Medium.state c.note_unclosed.new.port in
    let value : IsValue c.repair.new.self = subst IsValue c.self.view_is c.self.invariant in
    let marked = repaired_mark s.application.activity s.registration odometer LATEST_MINUTE owed (each_as (λ e. (1440 ≤ e.minute) × (e.minute < LATEST_MINUTE)) (λ e. e.minute < LATEST_MINUTE) owed (λ e both. both.1) c.requires.minutes) in
    let e = c.in_err-note_unclosed.ensures in
    let note = subst (λ (p : Application). DoesPart old new true (λ y z. current ≡ current_use p y → IsNoted p now y z) (λ y c. current ≡ current_use p y → IsNoting p now y c)) (ap (λ (t : Session). t.application) c.self.view_is)
    (record { done = λ fine. absurd (cc); leaves = e.moments; cause = inl e.cause }) in
    mend_failed s current odometer owed now _
    (third_done s current odometer owed now c.repair.new.self value (b.0 ∙ a.application)
    (second_done s current odometer owed now c.finish_drop.new.self c.repair.new.self a.application a.registration (b.0 ∙ a.application) marked
    (first_done s current odometer owed now c.finish_drop.new.self c.in_ok-finish_drop.ensures.part) c.in_ok-replayed.ensures.part (λ fine. c.in_ok-replayed.ensures.open)) note) failed

pub returns-clause-part : goal.returns-clause-part
returns-clause-part g c =
    let s = c.args.self.now in
    let current = c.args.current.now in
    let owed = c.args.owed.now in
    let odometer = c.args.odometer.0 in
    let now = c.args.now.0 in
    let a = c.in_ok-finish_drop.ensures.same in
    let b = c.in_ok-replayed.ensures.same in
    let old = g.M.Medium.state c.repair.new.port in
    let new = g.M.Medium.state c.note_unclosed.new.port in
    let value : IsValue c.repair.new.self = subst IsValue c.self.view_is c.self.invariant in
    let marked = repaired_mark s.application.activity s.registration odometer LATEST_MINUTE owed (each_as (λ e. (1440 ≤ e.minute) × (e.minute < LATEST_MINUTE)) (λ e. e.minute < LATEST_MINUTE) owed (λ e both. both.1) c.requires.minutes) in
    let e = c.in_ok-note_unclosed.ensures in
    let note = subst (λ (p : Application). DoesPart old new false (λ y z. current ≡ current_use p y → IsNoted p now y z) (λ y c. current ≡ current_use p y → IsNoting p now y c)) (ap (λ (t : Session). t.application) c.self.view_is)
    (record { done = λ fine. e.noted; leaves = e.moments; cause = inl e.cause }) in
    third_done s current odometer owed now c.repair.new.self value (b.0 ∙ a.application)
    (second_done s current odometer owed now c.finish_drop.new.self c.repair.new.self a.application a.registration (b.0 ∙ a.application) marked
    (first_done s current odometer owed now c.finish_drop.new.self c.in_ok-finish_drop.ensures.part) c.in_ok-replayed.ensures.part (λ fine. c.in_ok-replayed.ensures.open)) note

pub returns-in_err-finish_drop-clause-same : goal.returns-in_err-finish_drop-clause-same
returns-in_err-finish_drop-clause-same g c = let a = c.in_err-finish_drop.ensures.same in (a.application, a.registration, a.odometer)

pub returns-in_err-replayed-clause-same : goal.returns-in_err-replayed-clause-same
returns-in_err-replayed-clause-same g c =
    let a = c.in_ok-finish_drop.ensures.same in
    let b = c.in_err-replayed.ensures.same in
    (b.0 ∙ a.application, b.1 ∙ a.registration, b.2 ∙ a.odometer)

pub returns-in_err-note_unclosed-clause-same : goal.returns-in_err-note_unclosed-clause-same
returns-in_err-note_unclosed-clause-same g c =
    let a = c.in_ok-finish_drop.ensures.same in
    let b = c.in_ok-replayed.ensures.same in
    (b.0 ∙ a.application, b.1 ∙ a.registration, b.2 ∙ a.odometer)

pub returns-clause-same : goal.returns-clause-same
returns-clause-same g c =
    let a = c.in_ok-finish_drop.ensures.same in
    let b = c.in_ok-replayed.ensures.same in
    (b.0 ∙ a.application, b.1 ∙ a.registration, b.2 ∙ a.odometer)

pub returns-clause-count : goal.returns-clause-count
returns-clause-count g c = c.in_ok-replayed.ensures.count ∙ ap (λ (o : Option Vehicle). length (lacked (last_use_of o / 60) c.args.owed.now)) c.in_ok-finish_drop.ensures.same.vehicle
