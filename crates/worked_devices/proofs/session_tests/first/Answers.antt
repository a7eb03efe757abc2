use Rattle.std.proofs.Common.{sym, subst, arith}
use Rattle.card_session.specs.Inserting.{AreOwed}
use Rattle.worked_devices.proofs.session_tests.first.Goals as goal

pub inserted-requires-clause-owed : goal.inserted-requires-clause-owed
inserted-requires-clause-owed c = subst (AreOwed c.args.seconds) (sym c.new-none.ensures) (tt, λ k d low. absurd (omega (arith, low)))
