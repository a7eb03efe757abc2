use Rattle.std.proofs.Common.{rules, ◌≡◌, ◌+◌, ◌≤◌, ℕ, length, ◌∙◌, ap, subst, arith}
use Rattle.tach_media.proofs.Runs.{ok_gives, on_ok}
use Rattle.tach_media.specs.Medium.{most_writes}
use Rattle.card_layout.specs.Files.{place_of}
use Rattle.card_validity.specs.card_image.Fields.{file}
use Rattle.card_session.specs.Sessions.{Session}
use Rattle.card_session.proofs.InsertingUse.{in_use, time_written, time_moments}
use Rattle.card_session.proofs.session.CardSession.set_session.Goals as goal

pub write_at-requires-clause-inside : goal.write_at-requires-clause-inside
write_at-requires-clause-inside g c =
    let long : length c.write_time.new.out ≡ 4 = search rules in
    let place = c.session_place.ensures ∙ ap (λ (t : Session). place_of t.application (file 0x0507)) c.self.view_is in
    (in_use c.args.self.now.application (g.M.Medium.state c.args.port.now) c.session_place.result 0 (length c.write_time.new.out) (omega (arith, place)) (omega (arith, long)) c.requires.card).0

pub write_at-requires-clause-writable : goal.write_at-requires-clause-writable
write_at-requires-clause-writable g c =
    let long : length c.write_time.new.out ≡ 4 = search rules in
    let place = c.session_place.ensures ∙ ap (λ (t : Session). place_of t.application (file 0x0507)) c.self.view_is in
    (in_use c.args.self.now.application (g.M.Medium.state c.args.port.now) c.session_place.result 0 (length c.write_time.new.out) (omega (arith, place)) (omega (arith, long)) c.requires.card).1

pub returns-clause-written : goal.returns-clause-written
returns-clause-written g c =
    let place = c.session_place.ensures ∙ ap (λ (t : Session). place_of t.application (file 0x0507)) c.self.view_is in
    on_ok c.write_at.result (λ fine. time_written c.args.self.now.application c.args.seconds c.session_place.result c.write_time.new.out place c.write_time.ensures.bytes (g.M.Medium.state c.args.port.now).image (g.M.Medium.state c.write_at.new.self).image (ok_gives c.write_at.result c.write_at.ensures.written fine))

pub returns-clause-moments : goal.returns-clause-moments
returns-clause-moments g c =
    let long : length c.write_time.new.out ≡ 4 = search rules in
    let place = c.session_place.ensures ∙ ap (λ (t : Session). place_of t.application (file 0x0507)) c.self.view_is in
    time_moments c.args.self.now.application c.args.seconds c.session_place.result c.write_time.new.out place c.write_time.ensures.bytes long c.write_at.ensures.moments

pub returns-clause-settled : goal.returns-clause-settled
returns-clause-settled g c =
    let long : length c.write_time.new.out ≡ 4 = search rules in
    on_ok c.write_at.result (λ fine known. ok_gives c.write_at.result c.write_at.ensures.settled fine (omega (arith, long)) known)

pub returns-clause-most : goal.returns-clause-most
returns-clause-most g c =
    let long : length c.write_time.new.out ≡ 4 = search rules in
    subst (λ (n : ℕ). (g.M.Medium.state c.write_at.new.self).clock ≤ (g.M.Medium.state c.args.port.now).clock + most_writes n) long c.write_at.ensures.few
