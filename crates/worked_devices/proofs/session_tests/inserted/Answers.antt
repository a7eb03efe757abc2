use Rattle.card_session.proofs.Memory.{may_insert}
use Rattle.worked_devices.proofs.session_tests.inserted.Goals as goal

pub insert-requires-clause-card : goal.insert-requires-clause-card
insert-requires-clause-card c = record {
  sizes = c.in-Ok.ensures.sizes;
  card = may_insert c.in-Ok.app c.sizes_of.new.card.log c.sizes_of.new.card.counts c.in-Ok.ensures.fits;
  told = c.in-Ok.ensures.told;
}

pub insert-requires-clause-may : goal.insert-requires-clause-may
insert-requires-clause-may c = record {
  some = c.requires.some;
  last = c.requires.last;
  fits = c.requires.fits;
  owed = c.requires.owed;
}
