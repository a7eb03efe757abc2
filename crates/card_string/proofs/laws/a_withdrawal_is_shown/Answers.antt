use Rattle.card_string.proofs.Withdrawn.{close_shown, withdrawn}
use Rattle.card_string.proofs.laws.a_withdrawal_is_shown.Goals as goal

pub returns-clause-moments : goal.returns-clause-moments
returns-clause-moments c = λ s act x y slack covered from next counted all sound fits later late least knows g closing.
    close_shown s act x slack covered from next counted all sound later late least knows g y fits closing

pub returns-clause-closed : goal.returns-clause-closed
returns-clause-closed c = λ s act x y slack covered from next counted all sound fits later late least knows g done.
    withdrawn s act x slack covered from next counted all sound later late least knows g y fits done
