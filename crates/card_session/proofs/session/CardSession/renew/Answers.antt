use Rattle.std.proofs.Common.{rules, ◌≡◌, Bool, true, false, length, refl, sym, subst}
use Rattle.std.specs.Prelude.{is_err}
use Rattle.tach_media.specs.Medium.{HasCause}
use Rattle.tach_media.proofs.Runs.{ok_gives, cause_after}
use Rattle.tacho_types.specs.declared.texts.Registration.{Registration}
use Rattle.card_layout.specs.declared.files.Application.{Application}
use Rattle.card_session.specs.Parts.{DoesPart}
use Rattle.card_session.specs.Inserting.{IsReopened, IsReopening, IsEnded, IsEnding, IsOpened, IsOpening, timed, registered}
use Rattle.card_session.proofs.Composing.{called_then}
use Rattle.card_session.proofs.InsertingUse.{insert_still}
use Rattle.card_session.proofs.InsertingOpen.{write_part, reopened, ending_failed, reopened_same, shut_failed, shut_then, then_failed}
use Rattle.card_session.proofs.session.CardSession.renew.Goals as goal

pub set_session-requires : goal.set_session-requires
set_session-requires g c = record { card = insert_still c.args.self.now.application c.shut.new.self.application c.in_ok-shut.ensures.part.leaves c.in_ok-shut.ensures.same.0 c.requires.card }

pub open-requires : goal.open-requires
open-requires g c = record { card = insert_still c.shut.new.self.application c.shut.new.self.application c.in_ok-set_session.ensures.moments refl (insert_still c.args.self.now.application c.shut.new.self.application c.in_ok-shut.ensures.part.leaves c.in_ok-shut.ensures.same.0 c.requires.card) }

pub returns-in_err-shut-clause-part : goal.returns-in_err-shut-clause-part
returns-in_err-shut-clause-part g c =
    let failed : is_err c.from_residual.result ≡ true = search rules in
    let s = c.args.self.now in
    shut_failed s c.shut.new.self _ (IsReopened s.application s.registration c.args.now.0) (IsReopening s.application s.registration c.args.now.0) c.in_err-shut.ensures.part failed

pub returns-in_err-set_session-clause-part : goal.returns-in_err-set_session-clause-part
returns-in_err-set_session-clause-part g c =
    let failed : is_err c.from_residual-in_err-set_session.result ≡ true = search rules in
    let s = c.args.self.now in
    let t = c.shut.new.self in
    let mid = g.M.Medium.state c.shut.new.port in
    let new = g.M.Medium.state c.set_session.new.port in
    let e = c.in_err-set_session.ensures in
    let same = c.in_ok-shut.ensures.same in
    let ended : DoesPart mid new true (IsEnded t.application) (IsEnding t.application) = write_part (timed t.application 0) (λ fine. absurd (cc)) e.moments e.cause in
    let here : DoesPart mid new true (IsEnded s.application) (IsEnding s.application) = subst (λ (p : Application). DoesPart mid new true (IsEnded p) (IsEnding p)) same.0 ended in
    then_failed s t _ (IsReopened s.application s.registration c.args.now.0) (IsReopened s.application s.registration c.args.now.0) (IsReopening s.application s.registration c.args.now.0) c.in_ok-shut.ensures.part
    (ending_failed s.application s.registration c.args.now.0 here refl) failed

pub returns-clause-part : goal.returns-clause-part
returns-clause-part g c =
    let s = c.args.self.now in
    let t = c.shut.new.self in
    let now = c.args.now.0 in
    let mid = g.M.Medium.state c.shut.new.port in
    let late = g.M.Medium.state c.set_session.new.port in
    let new = g.M.Medium.state c.open.new.port in
    let e = c.in_ok-set_session.ensures in
    let o = c.open.ensures in
    let r = c.open.result in
    let same = c.in_ok-shut.ensures.same in
    let ended : DoesPart mid late false (IsEnded t.application) (IsEnding t.application) = write_part (timed t.application 0) (λ fine. e.written) e.moments e.cause in
    let end_here : DoesPart mid late false (IsEnded s.application) (IsEnding s.application) = subst (λ (p : Application). DoesPart mid late false (IsEnded p) (IsEnding p)) same.0 ended in
    let opened : DoesPart late new (is_err r) (IsOpened t.application t.registration now) (IsOpening t.application t.registration now) =
    write_part (λ x. timed t.application now (registered t.application t.registration x)) (λ fine. ok_gives r o.written fine) o.moments o.cause in
    let sized : DoesPart late new (is_err r) (IsOpened s.application t.registration now) (IsOpening s.application t.registration now) = subst (λ (p : Application). DoesPart late new (is_err r) (IsOpened p t.registration now) (IsOpening p t.registration now)) same.0 opened in
    let open_here : DoesPart late new (is_err r) (IsOpened s.application s.registration now) (IsOpening s.application s.registration now) = subst (λ (v : Registration). DoesPart late new (is_err r) (IsOpened s.application v now) (IsOpening s.application v now)) same.1 sized in
    let long : length s.registration.0 ≡ 15 = subst (λ (v : Registration). length v.0 ≡ 15) same.1 o.long in
    shut_then s t c.in_ok-shut.ensures.value e.value same.0 (g.met.M.Medium.coherent c.args.port.now) c.requires.card (IsReopened s.application s.registration now) (IsReopening s.application s.registration now)
    (reopened_same s.application s.registration now long) c.in_ok-shut.ensures.part (reopened s.application s.registration now end_here open_here)

pub returns-clause-called : goal.returns-clause-called
returns-clause-called g c = called_then c.in_ok-shut.ensures.part.cause (cause_after c.in_ok-set_session.ensures.cause c.open.ensures.cause)

pub returns-in_err-set_session-clause-called : goal.returns-in_err-set_session-clause-called
returns-in_err-set_session-clause-called g c =
    let failed : is_err c.from_residual-in_err-set_session.result ≡ true = search rules in
    subst (λ (b : Bool). HasCause (g.M.Medium.state c.args.port.now) (g.M.Medium.state c.set_session.new.port) b) (sym failed) (called_then c.in_ok-shut.ensures.part.cause c.in_err-set_session.ensures.cause)
