use Rattle.std.proofs.Common.{rules, ◌≡◌, ◌+◌, ◌*◌, true, sym, ◌∙◌, ap, subst, arith}
use Rattle.std.specs.Prelude.{is_err, ◌≤◌}
use Rattle.card_days.specs.card_model.Image.{StringShape}
use Rattle.card_days.specs.Plans.{most_drops}
use Rattle.card_validity.specs.card_image.Fields.{day_string}
use Rattle.card_session.specs.Sessions.{Session}
use Rattle.card_session.specs.ByHand.{EndsByHand}
use Rattle.card_session.specs.Parts.{with_gap_closed, with_entry_words, with_more}
use Rattle.card_session.proofs.Composing.{called_then, called_last}
use Rattle.card_session.proofs.OnCard.{may_still}
use Rattle.card_session.proofs.Keeping.{gap_failed, words_then, km_then, use_then, entry_failed}
use Rattle.card_session.proofs.session.CardSession.enter.Goals as goal

pub write_words-requires-clause-card : goal.write_words-requires-clause-card
write_words-requires-clause-card g c = may_still c.args.self.now.application c.close_gap.new.self.application c.in_ok-close_gap.ensures.part.leaves c.in_ok-close_gap.ensures.same.application c.requires.card

pub travel-requires-clause-card : goal.travel-requires-clause-card
travel-requires-clause-card g c = may_still c.close_gap.new.self.application c.write_words.new.self.application c.in_ok-write_words.ensures.part.leaves c.in_ok-write_words.ensures.same.application (may_still c.args.self.now.application c.close_gap.new.self.application c.in_ok-close_gap.ensures.part.leaves c.in_ok-close_gap.ensures.same.application c.requires.card)

pub note_vehicle-requires-clause-card : goal.note_vehicle-requires-clause-card
note_vehicle-requires-clause-card g c = may_still c.write_words.new.self.application c.travel.new.self.application c.in_ok-travel.ensures.part.leaves c.in_ok-travel.ensures.same.application (may_still c.close_gap.new.self.application c.write_words.new.self.application c.in_ok-write_words.ensures.part.leaves c.in_ok-write_words.ensures.same.application (may_still c.args.self.now.application c.close_gap.new.self.application c.in_ok-close_gap.ensures.part.leaves c.in_ok-close_gap.ensures.same.application c.requires.card))

pub returns-in_err-close_gap-clause-part : goal.returns-in_err-close_gap-clause-part
returns-in_err-close_gap-clause-part g c =
    let failed : is_err c.from_residual.result ≡ true = search rules in
    let k = c.args.kept.now in
    gap_failed c.args.self.now c.in_err-close_gap.ensures.value k.odometer.0 c.args.km k.entry _ _ c.in_err-close_gap.ensures.part failed

pub returns-in_err-write_words-clause-part : goal.returns-in_err-write_words-clause-part
returns-in_err-write_words-clause-part g c =
    let failed : is_err c.from_residual-in_err-write_words.result ≡ true = search rules in
    let k = c.args.kept.now in
    let s = c.args.self.now in
    let value = c.in_ok-close_gap.ensures.value in
    let app = c.in_ok-close_gap.ensures.same.application in
    entry_failed s value k.odometer.0 c.args.km k.entry c.write_words.new.self _ (λ b. with_entry_words s.application.activity k.entry (with_gap_closed s.application.activity k.entry.minute b))
    (words_then s value k.odometer.0 c.args.km k.entry c.close_gap.new.self c.write_words.new.self app c.in_ok-close_gap.ensures.part c.in_err-write_words.ensures.part) failed

pub returns-in_err-travel-clause-part : goal.returns-in_err-travel-clause-part
returns-in_err-travel-clause-part g c =
    let failed : is_err c.from_residual-in_err-travel.result ≡ true = search rules in
    let k = c.args.kept.now in
    let s = c.args.self.now in
    let km = c.args.km in
    let value = c.in_ok-close_gap.ensures.value in
    let app1 = c.in_ok-close_gap.ensures.same.application in
    let app2 = c.in_ok-write_words.ensures.same.application ∙ app1 in
    entry_failed s value k.odometer.0 km k.entry c.travel.new.self _ (λ b. with_more km (with_entry_words s.application.activity k.entry (with_gap_closed s.application.activity k.entry.minute b)))
    (km_then s value k.odometer.0 km k.entry c.write_words.new.self c.travel.new.self app2
    (words_then s value k.odometer.0 km k.entry c.close_gap.new.self c.write_words.new.self app1 c.in_ok-close_gap.ensures.part c.in_ok-write_words.ensures.part) c.in_err-travel.ensures.part) failed

pub returns-clause-part : goal.returns-clause-part
returns-clause-part g c =
    let k = c.args.kept.now in
    let s = c.args.self.now in
    let km = c.args.km in
    let value = c.in_ok-close_gap.ensures.value in
    let a = c.in_ok-close_gap.ensures.same in
    let b = c.in_ok-write_words.ensures.same in
    let d = c.in_ok-travel.ensures.same in
    use_then s value k.odometer.0 km k.entry c.travel.new.self _ (d.application ∙ b.application ∙ a.application) (d.registration ∙ b.registration ∙ a.registration)
    (km_then s value k.odometer.0 km k.entry c.write_words.new.self c.travel.new.self (b.application ∙ a.application)
    (words_then s value k.odometer.0 km k.entry c.close_gap.new.self c.write_words.new.self a.application c.in_ok-close_gap.ensures.part c.in_ok-write_words.ensures.part) c.in_ok-travel.ensures.part)
    c.note_vehicle.ensures.part

pub returns-clause-called : goal.returns-clause-called
returns-clause-called g c =
    called_then c.in_ok-close_gap.ensures.part.cause (called_last c.in_ok-write_words.ensures.part.cause c.in_ok-travel.ensures.part.cause c.note_vehicle.ensures.called)

pub returns-clause-most : goal.returns-clause-most
returns-clause-most g c =
    let gap = c.in_ok-close_gap.ensures in
    let words = c.in_ok-write_words.ensures in
    let shape : c.close_gap.new.self.days.shape ≡ c.args.self.now.days.shape = words.value.days ∙ ap day_string gap.same.application ∙ sym gap.value.days in
    let most = subst (λ (q : StringShape). (g.M.Medium.state c.write_words.new.port).clock ≤ (g.M.Medium.state c.close_gap.new.port).clock + (5 + 2 * most_drops q.size c.close_gap.new.self.days.tail.used 16)) shape words.most in
    omega (arith, gap.room, most, c.in_ok-travel.ensures.most, c.note_vehicle.ensures.most)

pub returns-in_err-close_gap-clause-few : goal.returns-in_err-close_gap-clause-few
returns-in_err-close_gap-clause-few g c = λ ends.
    let same = (c.in_err-close_gap.ensures.shut ends).1 in
    omega (arith, same)

pub returns-in_err-write_words-clause-few : goal.returns-in_err-write_words-clause-few
returns-in_err-write_words-clause-few g c = λ ends.
    let shut = c.in_ok-close_gap.ensures.shut ends in
    let same = shut.1 in
    let few = c.in_err-write_words.ensures.few (subst (λ (s : Session). EndsByHand s c.args.kept.now.entry.minute) (sym shut.0) ends) in
    omega (arith, same, few)

pub returns-in_err-travel-clause-few : goal.returns-in_err-travel-clause-few
returns-in_err-travel-clause-few g c = λ ends.
    let shut = c.in_ok-close_gap.ensures.shut ends in
    let same = shut.1 in
    let few = c.in_ok-write_words.ensures.few (subst (λ (s : Session). EndsByHand s c.args.kept.now.entry.minute) (sym shut.0) ends) in
    omega (arith, same, few, c.in_err-travel.ensures.most)

pub returns-clause-few : goal.returns-clause-few
returns-clause-few g c = λ ends.
    let shut = c.in_ok-close_gap.ensures.shut ends in
    let same = shut.1 in
    let few = c.in_ok-write_words.ensures.few (subst (λ (s : Session). EndsByHand s c.args.kept.now.entry.minute) (sym shut.0) ends) in
    omega (arith, same, few, c.in_ok-travel.ensures.most, c.note_vehicle.ensures.most)
