use Rattle.std.proofs.Common.{⊎_elim, arith}
use Rattle.card_by_hand.proofs.card_session.Stopping.{asked_at}
use Rattle.card_by_hand.proofs.card_session.Marks.{mark_told}
use Rattle.card_string.proofs.FirstShown.{first_shown, first_of_keep, keep_of_first}
use Rattle.card_string.proofs.OfCards.{kept_keeping_of}
use Rattle.card_string.proofs.laws.a_first_keep_is_shown.Goals as goal

pub returns-clause-shown : goal.returns-clause-shown
returns-clause-shown c = λ s hands e odometer x y slack covered from counted all ready keeping. first_shown s slack covered from counted all hands e odometer x y ready keeping

pub returns-clause-kept : goal.returns-clause-kept
returns-clause-kept c = λ s t hands e odometer x y slack covered from counted all ready kept.
    let moment = kept_keeping_of s t hands e odometer x y kept in
    ⊎_elim
    (λ old. absurd (omega (arith, old.mark, moment.1, (asked_at s x e.minute ready.later ready.session).1, mark_told s.application x)))
    (λ new. new) (first_shown s slack covered from counted all hands e odometer x y ready moment.0).side

pub returns-clause-keep : goal.returns-clause-keep
returns-clause-keep c = λ app slack covered counted all e x y. (keep_of_first app slack covered counted all e x y, first_of_keep app slack covered counted all e x y)
