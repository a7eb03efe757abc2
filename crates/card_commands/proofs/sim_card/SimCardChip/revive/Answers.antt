use Rattle.std.proofs.Common.{sym, ◌∙◌}
use Rattle.card_commands.proofs.Soundness.{sound_reads, ok_works}
use Rattle.card_commands.proofs.sim_card.SimCardChip.revive.Goals as goal

pub invariant_of-self : goal.invariant_of-self
invariant_of-self g c = record {
  sound = sound_reads c.enter.new.self.card c.enter.new.self.works c.is_ok-self.result (g.M.Medium.state c.enter.new.self.medium) (g.M.Medium.state c.revive-revived.new.self)
      (g.met.M.Medium.coherent c.enter.new.self.medium) c.enter.new.self.sound c.revive-revived.ensures.moments
      (λ ok. ok_works c.revive-revived.result c.revive-revived.ensures.cause (sym c.is_ok-self.ensures.value ∙ ok));
}
