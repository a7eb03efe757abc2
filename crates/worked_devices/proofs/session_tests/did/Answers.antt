use Rattle.std.proofs.Common.{subst, arith}
use Rattle.card_layout.specs.declared.files.Application.{Application}
use Rattle.tach_media.specs.MemMedium.{memory_state}
use Rattle.card_session.specs.Sessions.{MayKeep}
use Rattle.card_session.proofs.Memory.{may_keep}
use Rattle.worked_devices.proofs.session_tests.did.Goals as goal

pub keep-requires-clause-card : goal.keep-requires-clause-card
keep-requires-clause-card c =
    subst (λ (p : Application). MayKeep p (memory_state c.args.card.now.log c.args.card.now.counts)) c.application.ensures
    (may_keep _ c.args.card.now.log c.args.card.now.counts (omega (arith, c.image_size-least.ensures, c.size-held.ensures, c.if-held-least.false)))

pub keep-requires-clause-first : goal.keep-requires-clause-first
keep-requires-clause-first c = omega (arith, c.doing-kept.ensures.minute)

pub keep-requires-clause-last : goal.keep-requires-clause-last
keep-requires-clause-last c = omega (arith, c.doing-kept.ensures.minute, c.requires.minute)

pub keep-requires-clause-fits : goal.keep-requires-clause-fits
keep-requires-clause-fits c = omega (arith, c.doing-kept.ensures.odometer, c.requires.fits)
