use Rattle.std.proofs.Common.{subst, arith}
use Rattle.card_layout.specs.declared.files.Application.{Application}
use Rattle.tach_media.specs.MemMedium.{memory_state}
use Rattle.card_session.specs.Sessions.{MayClose}
use Rattle.card_session.proofs.Memory.{may_close}
use Rattle.worked_devices.proofs.session_tests.withdrawn.Goals as goal

pub close-requires : goal.close-requires
close-requires c = record {
  card = subst (λ (p : Application). MayClose p (memory_state c.args.card.now.log c.args.card.now.counts)) c.application.ensures
      (may_close _ c.args.card.now.log c.args.card.now.counts (omega (arith, c.image_size-least.ensures, c.size-held.ensures, c.if-held-least.false)));
}
