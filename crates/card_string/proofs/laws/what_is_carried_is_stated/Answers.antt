use Rattle.card_string.proofs.Stated.{goes_stated, broke_stated, begun_stated}
use Rattle.card_string.proofs.laws.what_is_carried_is_stated.Goals as goal

pub returns-clause-goes : goal.returns-clause-goes
returns-clause-goes c = λ app slack covered from marked counted first all x sound least is g n le. goes_stated app slack covered from marked counted first all x sound least is g n le

pub returns-clause-broke : goal.returns-clause-broke
returns-clause-broke c = λ app slack covered from marked counted first all x begun is b n le. broke_stated app slack covered from marked counted first all x begun is b n le

pub returns-clause-begun : goal.returns-clause-begun
returns-clause-begun c = λ app slack covered from counted first all x begun is b n le. begun_stated app slack covered from counted first all x begun is b n le
