use Rattle.std.proofs.Common.{◌≡◌, ◌<◌, ◌≤◌, ◌+◌, ◌*◌, ◌/◌, false, take, drop}
use Rattle.hand_model.specs.Holding.{LieBetween, AreOfDay}
use Rattle.card_session.specs.Parts.{DoesPart}
use Rattle.card_session.specs.ByHand.{EndsByHand}
use Rattle.card_by_hand.specs.First.{HasEntered, MayBeEntering}
use Rattle.card_by_hand.proofs.first.enter_all.Given as goal

-- those so far are entered, and the others come behind them
abbrev pub invariant-loop-entry : goal.invariant-loop-entry
invariant-loop-entry g l =
    record {
      same : (l.session.application ≡ l.fn.session.application) × (l.session.registration ≡ l.fn.session.registration) × (l.session.odometer ≡ l.fn.session.odometer);
      lie : LieBetween l.session.minute l.before (drop l.entry-index l.entries);
      day : AreOfDay (l.before / 1440) (drop l.entry-index l.entries);
      part : DoesPart (g.M.Medium.state l.fn.port) (g.M.Medium.state l.port) false (HasEntered (take l.entry-index l.entries) l.fn.session l.session) (MayBeEntering l.entries l.fn.session);
      ends : 0 < l.entry-index → EndsByHand l.session l.before;
      none : l.entry-index ≡ 0 → (g.M.Medium.state l.port).clock ≤ (g.M.Medium.state l.fn.port).clock;
      most : (g.M.Medium.state l.port).clock ≤ (g.M.Medium.state l.fn.port).clock + (5 + 4 * l.entry-index);
    }
