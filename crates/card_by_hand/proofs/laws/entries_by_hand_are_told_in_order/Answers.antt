use Rattle.std.proofs.Common.{◌≡◌, List, refl, sym, ◌∙◌, ap, subst}
use Rattle.card_session.specs.card_model.Days.{Day, AreDays}
use Rattle.card_session.specs.Cards.{grown}
use Rattle.card_session.specs.ByHand.{with_word_at}
use Rattle.card_session.specs.Sessions.{book_of}
use Rattle.card_session.proofs.Stopping.{book_days, days_there}
use Rattle.hand_model.specs.card_image.Fields.{card_days}
use Rattle.hand_model.specs.Manual.{manual_word}
use Rattle.hand_model.specs.ByHand.{by_hand_in, by_hand_up_to}
use Rattle.card_by_hand.specs.Listed.{AreLeft}
use Rattle.card_by_hand.proofs.Listed.{by_hand_more, keep_left}
use Rattle.card_by_hand.proofs.laws.entries_by_hand_are_told_in_order.Goals as goal

pub returns-clause-entered : goal.returns-clause-entered
returns-clause-entered c = λ s next e x y mark sound knows low done.
    let app = s.application in
    let are : AreDays 0 (card_days app x) = subst (λ (ds : List Day). AreDays 0 ds) (book_days app x) (days_there s x knows) in
    let more = by_hand_more app.activity sound.string_least (card_days app x) are e mark low in
    let days : card_days app y ≡ with_word_at app.activity e.minute (manual_word e) (card_days app x) = sym (book_days app y) ∙ done.card.told.0 ∙ ap (with_word_at app.activity e.minute (manual_word e)) (book_days app x) in
    (more.0, more.1, ap (by_hand_up_to mark) days ∙ more.2)

pub returns-clause-keep : goal.returns-clause-keep
returns-clause-keep c = λ s e odometer x y mark keeping.
    subst (λ (ds : List Day). AreLeft (by_hand_up_to mark (card_days s.application x)) (by_hand_up_to mark ds)) (book_days s.application y)
    (subst (λ (ds : List Day). AreLeft (by_hand_up_to mark ds) (by_hand_up_to mark (book_of s.application y).days)) (book_days s.application x)
    (keep_left s.application.activity mark (book_of s.application x) e s.registration odometer (grown s.odometer odometer) (book_of s.application y).days (book_of s.application y).vehicles keeping.card.told))

pub returns-clause-shown : goal.returns-clause-shown
unfolding by_hand_in
returns-clause-shown c = λ app x. refl
