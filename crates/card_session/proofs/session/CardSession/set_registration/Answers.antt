use Rattle.std.proofs.Common.{rules, ◌≡◌, ◌+◌, ◌≤◌, ℕ, List, length, sym, ◌∙◌, ap, subst, arith}
use Rattle.tach_media.proofs.Runs.{ok_gives, on_ok}
use Rattle.tach_media.specs.Medium.{most_writes}
use Rattle.card_layout.specs.Files.{place_of}
use Rattle.card_layout.proofs.Sizes.{largest_image}
use Rattle.card_validity.specs.card_image.Fields.{file}
use Rattle.card_session.specs.Sessions.{Session}
use Rattle.card_session.proofs.InsertingUse.{use_inside, in_use, registration_written, registration_moments}
use Rattle.card_session.proofs.session.CardSession.set_registration.Goals as goal

pub overflow_add-place : goal.overflow_add-place
overflow_add-place g c = omega (arith, use_inside c.self.inside.application, largest_image c.self.inside.application c.self.invariant.sizes, c.session_place.ensures)

pub write_at-requires-clause-inside : goal.write_at-requires-clause-inside
write_at-requires-clause-inside g c =
    let long : length c.write_registration.new.out ≡ 15 = search rules in
    let place = c.session_place.ensures ∙ ap (λ (t : Session). place_of t.application (file 0x0507)) c.self.view_is in
    (in_use c.args.self.now.application (g.M.Medium.state c.args.port.now) (c.session_place.result + 4) 4 (length c.write_registration.new.out) (omega (arith, place)) (omega (arith, long)) c.requires.card).0

pub write_at-requires-clause-writable : goal.write_at-requires-clause-writable
write_at-requires-clause-writable g c =
    let long : length c.write_registration.new.out ≡ 15 = search rules in
    let place = c.session_place.ensures ∙ ap (λ (t : Session). place_of t.application (file 0x0507)) c.self.view_is in
    (in_use c.args.self.now.application (g.M.Medium.state c.args.port.now) (c.session_place.result + 4) 4 (length c.write_registration.new.out) (omega (arith, place)) (omega (arith, long)) c.requires.card).1

pub returns-clause-written : goal.returns-clause-written
returns-clause-written g c =
    let place = c.session_place.ensures ∙ ap (λ (t : Session). place_of t.application (file 0x0507)) c.self.view_is in
    on_ok c.write_at.result (λ fine. registration_written c.args.self.now.application c.args.self.now.registration (c.session_place.result + 4) c.write_registration.new.out (omega (arith, place)) (c.write_registration.ensures ∙ ap (λ (t : Session). t.registration.0) c.self.view_is) (g.M.Medium.state c.args.port.now).image (g.M.Medium.state c.write_at.new.self).image (ok_gives c.write_at.result c.write_at.ensures.written fine))

pub returns-clause-moments : goal.returns-clause-moments
returns-clause-moments g c =
    let place = c.session_place.ensures ∙ ap (λ (t : Session). place_of t.application (file 0x0507)) c.self.view_is in
    registration_moments c.args.self.now.application c.args.self.now.registration (c.session_place.result + 4) c.write_registration.new.out (omega (arith, place)) (c.write_registration.ensures ∙ ap (λ (t : Session). t.registration.0) c.self.view_is) c.write_at.ensures.moments

pub returns-clause-most : goal.returns-clause-most
returns-clause-most g c =
    let long : length c.write_registration.new.out ≡ 15 = search rules in
    subst (λ (n : ℕ). (g.M.Medium.state c.write_at.new.self).clock ≤ (g.M.Medium.state c.args.port.now).clock + most_writes n) long c.write_at.ensures.few

pub returns-clause-long : goal.returns-clause-long
returns-clause-long g c =
    let long : length c.write_registration.new.out ≡ 15 = search rules in
    ap (λ (t : Session). length t.registration.0) (sym c.self.view_is) ∙ sym (ap (λ (l : List ℕ). length l) c.write_registration.ensures) ∙ long
