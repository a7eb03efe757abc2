use Rattle.std.proofs.Common.{◌≤◌, ◌+◌, ℕ, refl, sym, ◌∙◌, ap, subst, arith}
use Rattle.activity_codec.specs.Activity.{activity_of}
use Rattle.tach_media.proofs.Runs.{ok_gives, on_ok}
use Rattle.activity_codec.specs.declared.values.Activity.{Activity}
use Rattle.tach_media.specs.Medium.{LeavesOnly, LiesInside}
use Rattle.card_layout.specs.declared.files.Application.{Application}
use Rattle.card_layout.specs.Files.{place_of}
use Rattle.card_validity.specs.card_image.Fields.{file}
use Rattle.card_session.specs.Sessions.{Session, IsOpenBook}
use Rattle.card_session.specs.Moments.{IsCloseMoment}
use Rattle.card_session.specs.Parts.{IsPartMoment}
use Rattle.card_session.proofs.Composing.{called_then}
use Rattle.card_session.proofs.Closing.{may_end, with_activity, words_failed, end_moments, end_closed}
use Rattle.card_session.proofs.session.CardSession.close.Goals as goal

pub write_at-requires-clause-inside : goal.write_at-requires-clause-inside
write_at-requires-clause-inside g c =
    let place = c.session_place.ensures ∙ ap (λ (t : Session). place_of t.application (file 0x0507)) c.self.view_is in
    subst (λ (p : ℕ). p + 4 ≤ (g.M.Medium.state c.close_words.new.port).size) (sym place) (may_end c.args.self.application c.close_words.new.self.application c.in_ok-close_words.ensures.part.leaves c.in_ok-close_words.ensures.same c.requires.card).0

pub write_at-requires-clause-writable : goal.write_at-requires-clause-writable
write_at-requires-clause-writable g c =
    let place = c.session_place.ensures ∙ ap (λ (t : Session). place_of t.application (file 0x0507)) c.self.view_is in
    subst (λ (p : ℕ). LiesInside (g.M.Medium.state c.close_words.new.port).writable p 4) (sym place) (may_end c.args.self.application c.close_words.new.self.application c.in_ok-close_words.ensures.part.leaves c.in_ok-close_words.ensures.same c.requires.card).1

pub returns-in_err-close_words-clause-moments : goal.returns-in_err-close_words-clause-moments
returns-in_err-close_words-clause-moments g c = words_failed c.args.self (activity_of c.args.selected) _ _ refl refl (subst (λ (a : Activity). LeavesOnly (g.M.Medium.state c.args.port.now) (g.M.Medium.state c.close_words.new.port) (IsPartMoment c.args.self IsOpenBook (IsCloseMoment c.args.self.application.activity a))) c.activity.ensures c.in_err-close_words.ensures.part.leaves)

pub returns-clause-moments : goal.returns-clause-moments
returns-clause-moments g c =
    let place = c.session_place.ensures ∙ ap (λ (t : Session). place_of t.application (file 0x0507)) c.self.view_is ∙ ap (λ (p : Application). place_of p (file 0x0507)) c.in_ok-close_words.ensures.same in
    end_moments c.args.self (activity_of c.args.selected) c.session_place.result _ place refl (with_activity c.activity.ensures c.in_ok-close_words.ensures.part) c.write_at.ensures.moments

pub returns-clause-closed : goal.returns-clause-closed
returns-clause-closed g c =
    let place = c.session_place.ensures ∙ ap (λ (t : Session). place_of t.application (file 0x0507)) c.self.view_is ∙ ap (λ (p : Application). place_of p (file 0x0507)) c.in_ok-close_words.ensures.same in
    on_ok c.write_at.result (λ fine. end_closed c.args.self (activity_of c.args.selected) c.session_place.result _ place refl (with_activity c.activity.ensures c.in_ok-close_words.ensures.part) c.write_at.ensures.moments (ok_gives c.write_at.result c.write_at.ensures.written fine))

pub returns-clause-settled : goal.returns-clause-settled
returns-clause-settled g c = on_ok c.write_at.result (λ fine known. ok_gives c.write_at.result c.write_at.ensures.settled fine (omega arith) known)

pub returns-clause-cause : goal.returns-clause-cause
returns-clause-cause g c = called_then c.in_ok-close_words.ensures.part.cause c.write_at.ensures.cause
