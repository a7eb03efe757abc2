use Rattle.std.proofs.Common.{refl}
use Rattle.tach_media.proofs.Runs.{ok_gives, on_ok, image_then, cause_after}
use Rattle.card_session.specs.Inserting.{timed, registered}
use Rattle.card_session.proofs.InsertingUse.{insert_still, opening_failed, opening}
use Rattle.card_session.proofs.session.CardSession.open.Goals as goal

pub set_session-requires : goal.set_session-requires
set_session-requires g c = record { card = insert_still c.args.self.now.application c.args.self.now.application c.in_ok-set_registration.ensures.moments refl c.requires.card }

pub returns-in_err-set_registration-clause-moments : goal.returns-in_err-set_registration-clause-moments
returns-in_err-set_registration-clause-moments g c = opening_failed c.args.self.now.application c.args.self.now.registration c.args.now.0 c.in_err-set_registration.ensures.moments

pub returns-clause-moments : goal.returns-clause-moments
returns-clause-moments g c = opening c.args.self.now.application c.args.self.now.registration c.args.now.0 c.in_ok-set_registration.ensures.moments c.in_ok-set_registration.ensures.written c.set_session.ensures.moments

pub returns-clause-written : goal.returns-clause-written
returns-clause-written g c =
    let s = c.args.self.now in
    on_ok c.set_session.result (λ fine. image_then (g.M.Medium.state c.args.port.now).image (g.M.Medium.state c.set_registration.new.port).image (g.M.Medium.state c.set_session.new.port).image (registered s.application s.registration) (timed s.application c.args.now.0) c.in_ok-set_registration.ensures.written (ok_gives c.set_session.result c.set_session.ensures.written fine))

pub returns-clause-cause : goal.returns-clause-cause
returns-clause-cause g c = cause_after c.in_ok-set_registration.ensures.cause c.set_session.ensures.cause
