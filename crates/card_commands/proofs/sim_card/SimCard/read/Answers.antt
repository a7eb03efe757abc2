use Rattle.std.proofs.Common.{sym, ◌∙◌}
use Rattle.card_commands.proofs.Soundness.{sound_reads, ok_works}
use Rattle.card_commands.proofs.sim_card.SimCard.read.Goals as goal

pub invariant_of-self : goal.invariant_of-self
invariant_of-self g c = record {
  sound = sound_reads c.args.self.now.card c.args.self.now.works c.is_ok-self.result (g.M.Medium.state c.args.self.now.medium) (g.M.Medium.state c.read_at-read.new.self)
      (g.met.M.Medium.coherent c.args.self.now.medium) c.args.self.now.sound c.read_at-read.ensures.reads.leaves (λ ok. ok_works c.read_at-read.result c.read_at-read.ensures.reads.cause (sym c.is_ok-self.ensures.value ∙ ok));
}
