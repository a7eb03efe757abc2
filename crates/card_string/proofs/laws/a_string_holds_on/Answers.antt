use Rattle.card_string.proofs.Since.{given_holds, beside_holds, later_holds, brought_holds}
use Rattle.card_string.proofs.laws.a_string_holds_on.Goals as goal

pub returns-clause-given : goal.returns-clause-given
returns-clause-given c = λ app image h hands brought n x holds. given_holds app image h hands brought n x holds

pub returns-clause-beside : goal.returns-clause-beside
returns-clause-beside c = λ app image h brought n x y same session holds. beside_holds app image x y same h brought n session holds

pub returns-clause-later : goal.returns-clause-later
returns-clause-later c = λ app image h brought n next x le holds. later_holds app image h brought n next x le holds

pub returns-clause-brought : goal.returns-clause-brought
returns-clause-brought c = λ app image h brought es m n next x whole after holds. brought_holds app image h brought es m n next x whole after holds
