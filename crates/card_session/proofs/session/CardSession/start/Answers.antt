use Rattle.std.proofs.Common.{rules, ⊎_elim, ◌≡◌, Bool, true, false, length, sym, ◌∙◌, subst}
use Rattle.std.specs.Prelude.{is_err}
use Rattle.tach_media.specs.Medium.{HasCause}
use Rattle.tach_media.proofs.Runs.{ok_gives}
use Rattle.tacho_types.specs.declared.texts.Registration.{Registration}
use Rattle.card_layout.specs.declared.files.Application.{Application}
use Rattle.card_session.specs.Parts.{DoesPart}
use Rattle.card_session.specs.Inserting.{IsOpened, IsOpening, timed, registered}
use Rattle.card_session.proofs.OnCard.{may_still}
use Rattle.card_session.proofs.Composing.{called_then, called_last}
use Rattle.card_session.proofs.InsertingUse.{insert_still}
use Rattle.card_session.proofs.InsertingOpen.{write_part, opened_same, shut_failed, shut_then, start_failed, started}
use Rattle.card_session.proofs.session.CardSession.start.Goals as goal

pub shut-requires : goal.shut-requires
shut-requires g c = record { card = may_still c.args.self.now.application c.finish_drop.new.self.application c.in_ok-finish_drop.ensures.part.leaves c.in_ok-finish_drop.ensures.same.application c.requires.card.keep }

pub open-requires : goal.open-requires
open-requires g c =
    record { card = insert_still c.finish_drop.new.self.application c.shut.new.self.application c.in_ok-shut.ensures.part.leaves c.in_ok-shut.ensures.same.0 (insert_still c.args.self.now.application c.finish_drop.new.self.application c.in_ok-finish_drop.ensures.part.leaves c.in_ok-finish_drop.ensures.same.application c.requires.card) }

pub returns-in_err-finish_drop-clause-part : goal.returns-in_err-finish_drop-clause-part
returns-in_err-finish_drop-clause-part g c =
    let failed : is_err c.from_residual.result ≡ true = search rules in
    let a = c.in_err-finish_drop.ensures.same in
    start_failed c.args.self.now c.finish_drop.new.self _ c.args.now.0 a.application a.registration c.in_err-finish_drop.ensures.part failed

pub returns-in_err-finish_drop-clause-same : goal.returns-in_err-finish_drop-clause-same
returns-in_err-finish_drop-clause-same g c = let a = c.in_err-finish_drop.ensures.same in (a.application, a.registration, a.odometer)

pub returns-in_err-shut-clause-same : goal.returns-in_err-shut-clause-same
returns-in_err-shut-clause-same g c =
    let a = c.in_ok-finish_drop.ensures.same in
    let b = c.in_err-shut.ensures.same in
    (b.0 ∙ a.application, b.1 ∙ a.registration, b.2 ∙ a.odometer)

pub returns-clause-same : goal.returns-clause-same
returns-clause-same g c =
    let a = c.in_ok-finish_drop.ensures.same in
    let b = c.in_ok-shut.ensures.same in
    (b.0 ∙ a.application, b.1 ∙ a.registration, b.2 ∙ a.odometer)

pub returns-in_err-shut-clause-part : goal.returns-in_err-shut-clause-part
returns-in_err-shut-clause-part g c =
    let failed : is_err c.from_residual-in_err-shut.result ≡ true = search rules in
    let t = c.finish_drop.new.self in
    let a = c.in_ok-finish_drop.ensures.same in
    started c.args.self.now t _ c.args.now.0 a.application a.registration c.in_ok-finish_drop.ensures.part
    (shut_failed t c.shut.new.self _ (IsOpened t.application t.registration c.args.now.0) (IsOpening t.application t.registration c.args.now.0) c.in_err-shut.ensures.part failed)

pub returns-clause-part : goal.returns-clause-part
returns-clause-part g c =
    let t = c.finish_drop.new.self in
    let u = c.shut.new.self in
    let now = c.args.now.0 in
    let late = g.M.Medium.state c.shut.new.port in
    let new = g.M.Medium.state c.open.new.port in
    let o = c.open.ensures in
    let r = c.open.result in
    let a = c.in_ok-finish_drop.ensures.same in
    let same = c.in_ok-shut.ensures.same in
    let opened : DoesPart late new (is_err r) (IsOpened u.application u.registration now) (IsOpening u.application u.registration now) =
    write_part (λ x. timed u.application now (registered u.application u.registration x)) (λ fine. ok_gives r o.written fine) o.moments o.cause in
    let sized : DoesPart late new (is_err r) (IsOpened t.application u.registration now) (IsOpening t.application u.registration now) = subst (λ (p : Application). DoesPart late new (is_err r) (IsOpened p u.registration now) (IsOpening p u.registration now)) same.0 opened in
    let open_here : DoesPart late new (is_err r) (IsOpened t.application t.registration now) (IsOpening t.application t.registration now) = subst (λ (v : Registration). DoesPart late new (is_err r) (IsOpened t.application v now) (IsOpening t.application v now)) same.1 sized in
    let long : length t.registration.0 ≡ 15 = subst (λ (v : Registration). length v.0 ≡ 15) same.1 o.long in
    let may = insert_still c.args.self.now.application t.application c.in_ok-finish_drop.ensures.part.leaves a.application c.requires.card in
    started c.args.self.now t u now a.application a.registration c.in_ok-finish_drop.ensures.part
    (shut_then t u c.in_ok-shut.ensures.value o.value same.0 (g.met.M.Medium.coherent c.finish_drop.new.port) may (IsOpened t.application t.registration now) (IsOpening t.application t.registration now)
    (opened_same t.application t.registration now long) c.in_ok-shut.ensures.part open_here)

pub returns-clause-called : goal.returns-clause-called
returns-clause-called g c = called_last c.in_ok-finish_drop.ensures.part.cause c.in_ok-shut.ensures.part.cause c.open.ensures.cause

pub returns-in_err-shut-clause-called : goal.returns-in_err-shut-clause-called
returns-in_err-shut-clause-called g c =
    let failed : is_err c.from_residual-in_err-shut.result ≡ true = search rules in
    subst (λ (b : Bool). HasCause (g.M.Medium.state c.args.port.now) (g.M.Medium.state c.shut.new.port) b) (sym failed) (called_then c.in_ok-finish_drop.ensures.part.cause (⊎_elim (λ called. called) (λ idle. let no : true ≡ false = idle.0 in absurd (cc)) c.in_err-shut.ensures.part.cause))
