use Rattle.std.proofs.Common.{⊎_elim, arith}
use Rattle.card_validity.specs.card_image.Fields.{session_time}
use Rattle.card_session.proofs.Valid.{above_zero}
use Rattle.card_session.proofs.Repairing.{ends_owed, closed_ends, unclosed_ends}
use Rattle.card_session.proofs.laws.an_insertion_leaves_the_entries.Goals as goal

pub returns-clause-open : goal.returns-clause-open
returns-clause-open c = λ app registration odometer now owed x y sound fits long are valid session slack covered from next counted least rests later enough begins inserted.
    ⊎_elim (λ none. absurd (omega (arith, none.0, session)))
    (λ some. ends_owed app sound x fits registration long odometer now owed are.0 slack covered from next counted least valid (above_zero (session_time app x) session) rests later enough begins y some.1) inserted

pub returns-clause-shut : goal.returns-clause-shut
returns-clause-shut c = λ app registration odometer now owed x y sound fits long session shut slack covered from counted goes inserted.
    ⊎_elim (λ none. closed_ends app sound x fits registration long now slack covered from counted goes shut y none.1) (λ some. absurd (some.0 session)) inserted

pub returns-clause-unclosed : goal.returns-clause-unclosed
returns-clause-unclosed c = λ app registration odometer now owed x y sound fits long session slack covered from next counted least later before goes inserted.
    ⊎_elim (λ none. unclosed_ends app sound x fits registration long now slack covered from next counted least later before goes y none.1) (λ some. absurd (some.0 session)) inserted
