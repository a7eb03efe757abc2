use Rattle.std.proofs.Common.{sym, ◌∙◌, arith, length}
use Rattle.tach_media.proofs.Images.{part_before}
use Rattle.tach_media.proofs.Ranges.{lies_part}
use Rattle.card_commands.proofs.Soundness.{covers_says, sound_after, ok_works}
use Rattle.card_commands.proofs.sim_card.SimCard.write.Goals as goal

pub write_at-written-requires-clause-writable : goal.write_at-written-requires-clause-writable
write_at-written-requires-clause-writable g c =
    let s = g.M.Medium.state c.args.self.now.medium in
    lies_part s.writable 0 s.size c.args.place (length c.args.bytes.now) (omega arith) (omega (arith, c.requires.inside)) (covers_says s.writable 0 s.size c.args.self.now.sound.writable)

pub invariant_of-self : goal.invariant_of-self
invariant_of-self g c = record {
  sound = sound_after c.args.self.now.card c.args.self.now.works c.is_ok-self.result (g.M.Medium.state c.args.self.now.medium) (g.M.Medium.state c.write_at-written.new.self)
      (g.met.M.Medium.coherent c.args.self.now.medium) c.args.self.now.sound c.write_at-written.ensures.moments
      (λ x d told part. part_before c.args.place (length c.args.bytes.now) 33 10 x d part.outside c.requires.behind)
      (λ ok. ok_works c.write_at-written.result c.write_at-written.ensures.cause (sym c.is_ok-self.ensures.value ∙ ok));
}
