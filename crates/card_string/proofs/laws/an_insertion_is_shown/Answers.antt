use Rattle.std.proofs.Common.{◌∙◌, ⊎_elim, ℕ, ap, arith}
use Rattle.card_by_hand.specs.card_image.Fields.{session_time, end_mark}
use Rattle.card_by_hand.specs.card_session.Inserting.{lacked}
use Rattle.card_by_hand.proofs.card_session.Valid.{above_zero}
use Rattle.card_by_hand.proofs.card_session.Repairing.{lacked_again}
use Rattle.card_string.proofs.Unclosed.{unclosed_shown}
use Rattle.card_string.proofs.Inserted.{shows_moments, shows_all, closed_shown}
use Rattle.card_string.proofs.laws.an_insertion_is_shown.Goals as goal

pub returns-clause-moments : goal.returns-clause-moments
returns-clause-moments c = λ app registration odometer now owed x y sound fits long are valid session slack covered from next counted all least later enough may inserting.
    ⊎_elim (λ none. absurd (omega (arith, none.0, session)))
    (λ some. shows_moments app sound x fits registration long odometer now owed are.0 slack covered from next counted all least valid (above_zero (session_time app x) session) later enough may y some.1) inserting

pub returns-clause-done : goal.returns-clause-done
returns-clause-done c = λ app registration odometer now owed x y sound fits long are valid session slack covered from next counted all least later enough may inserted.
    ⊎_elim (λ none. absurd (omega (arith, none.0, session)))
    (λ some. shows_all app sound x fits registration long odometer now owed are.0 slack covered from next counted all least valid (above_zero (session_time app x) session) later enough may y some.1) inserted

pub returns-clause-rest : goal.returns-clause-rest
returns-clause-rest c = λ app now owed x y are slack covered next counted all shown.
    ap (λ (m : ℕ). lacked m owed) shown.first.behind ∙ lacked_again 1439 (end_mark app x) owed shown.first.done shown.first.rest are.0 shown.first.split

pub returns-clause-shut : goal.returns-clause-shut
returns-clause-shut c = λ app registration odometer now owed x y sound fits long none shut slack covered from counted all goes inserting.
    ⊎_elim (λ closed. closed_shown app sound x fits registration long now slack covered from counted all goes shut y closed.1) (λ some. absurd (some.0 none)) inserting

pub returns-clause-unclosed : goal.returns-clause-unclosed
returns-clause-unclosed c = λ app registration odometer now owed x y sound fits long valid none slack covered from next counted all least later late goes inserting.
    ⊎_elim (λ closed. unclosed_shown app sound x fits registration long now valid none slack covered from next counted all least later late goes y closed.1) (λ some. absurd (some.0 none)) inserting
