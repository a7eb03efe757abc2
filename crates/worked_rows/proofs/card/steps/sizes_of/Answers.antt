use Rattle.std.proofs.Common.{refl}
use Rattle.device_calls.proofs.SizesRead.{sizes-read}
use Rattle.worked_rows.proofs.card.steps.sizes_of.Goals as goal

pub returns-clause-told : goal.returns-clause-told
returns-clause-told g c = sizes-read c.in_ok-app.app (g.C.Chip.state c.args.card.now).image (g.C.Chip.state c.read_sizes.new.chip).image (c.in_ok-app.ensures.reads.same refl) c.in_ok-app.ensures.judged
