use Rattle.std.proofs.Common.{◌∙◌, sym, ap}
use Rattle.card_image.specs.Fields.{day_string}
use Rattle.worked_rows.proofs.Ports.{days_fit, days_writable}
use Rattle.worked_rows.proofs.card.keeping.add_word.Goals as goal

pub add_change-requires-clause-fits : goal.add_change-requires-clause-fits
add_change-requires-clause-fits g c = days_fit c.resume-port.result.sound c.args.days.now.shape (c.requires.days ∙ ap day_string (sym c.resume-port.ensures.sizes))

pub add_change-requires-clause-writable : goal.add_change-requires-clause-writable
add_change-requires-clause-writable g c = days_writable c.resume-port.result.application c.args.days.now.shape (c.requires.days ∙ ap day_string (sym c.resume-port.ensures.sizes))
