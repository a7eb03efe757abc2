use Rattle.std.proofs.Common.{sym, ◌∙◌}
use Rattle.card_commands.proofs.Soundness.{covers_says, sound_issued, ok_works}
use Rattle.card_commands.proofs.sim_card.SimCardChip.issue.Goals as goal

pub issue-issued-requires-clause-writable : goal.issue-issued-requires-clause-writable
issue-issued-requires-clause-writable g c = let s = g.M.Medium.state c.args.self.now.medium in covers_says s.writable 0 s.size c.args.self.now.sound.writable

pub invariant_of-self : goal.invariant_of-self
invariant_of-self g c = record {
  sound = sound_issued c.args.self.now.card c.args.self.now.works c.is_ok-self.result (g.M.Medium.state c.args.self.now.medium) (g.M.Medium.state c.issue-issued.new.medium)
      c.args.self.now.sound c.issue-issued.ensures.moments
      (λ ok. ok_works c.issue-issued.result c.issue-issued.ensures.cause (sym c.is_ok-self.ensures.value ∙ ok));
}
