use Rattle.std.proofs.Common.{arith}
use Rattle.card_session.proofs.InsertingUse.{use_inside}
use Rattle.card_session.proofs.InsertingAgain.{inserting_keeps, number_again}
use Rattle.card_session.proofs.laws.an_insertion_leaves_the_number.Goals as goal

pub returns-clause-sizes : goal.returns-clause-sizes
returns-clause-sizes c = λ app registration odometer now owed x y fits long inserting. (inserting_keeps app registration odometer now owed long x y (omega (arith, fits, use_inside app)) inserting).0

pub returns-clause-long : goal.returns-clause-long
returns-clause-long c = λ app registration odometer now owed x y fits long inserting. (inserting_keeps app registration odometer now owed long x y (omega (arith, fits, use_inside app)) inserting).1

pub returns-clause-number : goal.returns-clause-number
returns-clause-number c = λ app registration odometer now owed x y fits long inserting. number_again app registration odometer now owed long x y (omega (arith, fits, use_inside app)) inserting
