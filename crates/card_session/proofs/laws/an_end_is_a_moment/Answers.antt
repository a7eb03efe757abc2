use Rattle.std.proofs.Common.{inr}
use Rattle.card_session.proofs.Ends.{inserted_moment}
use Rattle.card_session.proofs.laws.an_end_is_a_moment.Goals as goal

pub returns-clause-keep : goal.returns-clause-keep
returns-clause-keep c = λ s next e odometer x y kept. record {
  card = record { outside = kept.card.outside; holds = kept.card.holds; points = kept.card.points; told = inr (kept.card.told.0, inr kept.card.told.1) };
}

pub returns-clause-withdrawal : goal.returns-clause-withdrawal
returns-clause-withdrawal c = λ s act x y closed. inr closed

pub returns-clause-insertion : goal.returns-clause-insertion
returns-clause-insertion c = λ app registration odometer now owed x y inserted. inserted_moment app registration odometer now owed x y inserted
