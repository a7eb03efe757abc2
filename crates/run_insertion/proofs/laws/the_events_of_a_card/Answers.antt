use Rattle.std.proofs.Common.{arith}
use Rattle.card_session.proofs.InsertingUse.{use_inside}
use Rattle.run_insertion.proofs.CardTables.{all-shown, all-showing, same-file}
use Rattle.run_insertion.proofs.CardInserted.{inserted-shown, inserting-shown, keeping-shown, closing-shown}
use Rattle.run_insertion.proofs.laws.the_events_of_a_card.Goals as goal

pub returns-clause-noted : goal.returns-clause-noted
returns-clause-noted c = λ app events x y plain is. all-shown app events plain x y is

pub returns-clause-noting : goal.returns-clause-noting
returns-clause-noting c = λ app events x y plain is. all-showing app events plain x y is

pub returns-clause-inserted : goal.returns-clause-inserted
returns-clause-inserted c = λ app registration odometer now owed x y fits is. inserted-shown app registration odometer owed now x (omega (arith, fits, use_inside app)) y is

pub returns-clause-inserting : goal.returns-clause-inserting
returns-clause-inserting c = λ app registration odometer now owed x y fits is. inserting-shown app registration odometer owed now x (omega (arith, fits, use_inside app)) y is

pub returns-clause-kept : goal.returns-clause-kept
returns-clause-kept c = λ s entry odometer x y is. keeping-shown s entry odometer x y is

pub returns-clause-closed : goal.returns-clause-closed
returns-clause-closed c = λ s act x y fits is. closing-shown s act x y (omega (arith, fits, use_inside s.application)) is

pub returns-clause-still : goal.returns-clause-still
returns-clause-still c = λ app x y same. same-file app x y same
