use Rattle.card_commands.proofs.Soundness.{sound_new}
use Rattle.card_commands.proofs.sim_card.SimCard.new.Goals as goal

pub invariant_of-result : goal.invariant_of-result
invariant_of-result g c = record { sound = sound_new (g.M.Medium.state c.args.medium) c.requires.size c.requires.writable }
