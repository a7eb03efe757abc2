use Rattle.std.proofs.Common.{◌∙◌, ⊎_elim, ℕ, ap, arith}
use Rattle.card_validity.specs.card_image.Fields.{session_time, end_mark}
use Rattle.card_session.specs.Inserting.{lacked}
use Rattle.card_session.proofs.Valid.{above_zero}
use Rattle.card_session.proofs.Repairing.{lacked_again, leaves_owed, closed_moments, unclosed_moments}
use Rattle.card_session.proofs.laws.a_stop_in_an_insertion_leaves_the_entries.Goals as goal

pub returns-clause-open : goal.returns-clause-open
returns-clause-open c = λ app registration odometer now owed x y sound fits long are valid session slack covered from next counted least rests later enough begins inserting.
    ⊎_elim (λ none. absurd (omega (arith, none.0, session)))
    (λ some. leaves_owed app sound x fits registration long odometer now owed are.0 slack covered from next counted least valid (above_zero (session_time app x) session) rests later enough begins y some.1) inserting

pub returns-clause-rest : goal.returns-clause-rest
returns-clause-rest c = λ app now owed x y are slack covered next counted first.
    ap (λ (m : ℕ). lacked m owed) first.behind ∙ lacked_again 1439 (end_mark app x) owed first.done first.rest are.0 first.split

pub returns-clause-shut : goal.returns-clause-shut
returns-clause-shut c = λ app registration odometer now owed x y sound fits long session shut slack covered from counted goes inserting.
    ⊎_elim (λ none. closed_moments app sound x fits registration long now slack covered from counted goes shut y none.1) (λ some. absurd (some.0 session)) inserting

pub returns-clause-unclosed : goal.returns-clause-unclosed
returns-clause-unclosed c = λ app registration odometer now owed x y sound fits long session slack covered from next counted least later before goes inserting.
    ⊎_elim (λ none. unclosed_moments app sound x fits registration long now slack covered from next counted least later before goes y none.1) (λ some. absurd (some.0 session)) inserting
