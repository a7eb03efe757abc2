use Rattle.std.proofs.Common.{⊎_elim, arith}
use Rattle.card_string.proofs.OfCards.{open_holds, open_sits, shut_inserting, shut_sits}
use Rattle.card_string.proofs.laws.an_insertion_keeps_the_string.Goals as goal

pub returns-clause-open : goal.returns-clause-open
returns-clause-open c = λ app registration odometer now owed image h done n next x y sound fits long are valid session up le late holds inserting.
    ⊎_elim (λ none. absurd (omega (arith, none.0, session)))
    (λ some. open_holds app registration odometer now owed image h done n x sound fits long are valid session up holds next le late y some.1) inserting

pub returns-clause-sits : goal.returns-clause-sits
returns-clause-sits c = λ app registration odometer now owed image h done n x y t sound fits long are valid session up le holds inserted same knows.
    ⊎_elim (λ none. absurd (omega (arith, none.0, session)))
    (λ some. open_sits app registration odometer now owed image h done n x sound fits long are valid session up holds le y t some.1 same knows) inserted

pub returns-clause-shut : goal.returns-clause-shut
returns-clause-shut c = λ app registration odometer now owed image h done n next x y sound fits long valid none up le late holds inserting.
    ⊎_elim (λ closed. shut_inserting app registration now image h done n x sound fits long valid none up holds next le late y closed.1) (λ some. absurd (some.0 none)) inserting

pub returns-clause-shut_sits : goal.returns-clause-shut_sits
returns-clause-shut_sits c = λ app registration odometer now owed image h done n x y t sound fits long valid none up holds inserted same knows le.
    ⊎_elim (λ closed. shut_sits app registration now image h done n x sound fits long valid none up holds y t closed.1 same knows le) (λ some. absurd (some.0 none)) inserted
