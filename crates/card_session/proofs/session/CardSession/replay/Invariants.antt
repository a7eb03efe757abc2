use Rattle.std.proofs.Common.{◌≡◌, ◌≤◌, ◌+◌, ◌*◌, false, take, drop}
use Rattle.card_session.specs.Parts.{DoesPart}
use Rattle.card_session.proofs.InsertingLoop.{Goes, GoesMoment}
use Rattle.card_session.proofs.session.CardSession.replay.Given as goal

abbrev pub invariant-loop-entry : goal.invariant-loop-entry
invariant-loop-entry g l =
    record {
      same : (l.self.application ≡ l.fn.self.application) × (l.self.registration ≡ l.fn.self.registration) × (l.self.odometer ≡ l.fn.self.odometer);
      part : DoesPart (g.M.Medium.state l.fn.port) (g.M.Medium.state l.port) false (Goes l.fn.self l.self l.odometer.0 l.entries (take l.entry-index l.entries) (drop l.entry-index l.entries)) (GoesMoment l.fn.self l.odometer.0 l.entries);
      most : (g.M.Medium.state l.port).clock ≤ (g.M.Medium.state l.fn.port).clock + 17 * l.entry-index;
    }
