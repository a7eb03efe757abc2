use Rattle.std.proofs.Common.{sym, ◌∙◌}
use Rattle.unit_model.specs.Decoding.{Decodes}
use Rattle.unit_model.proofs.Decoded.{decodes_of}
use Rattle.unit_memory.proofs.Told.{one_told}
use Rattle.unit_minutes.proofs.journal.Journal.load.Goals as goal

pub returns-in_ok-journal-in-None-clause-decodes : goal.returns-in_ok-journal-in-None-clause-decodes
returns-in_ok-journal-in-None-clause-decodes g c = one_told (g.M.Medium.state c.args.unit.now).image Decodes c.in_ok-judged.ensures.judged (λ x judged. decodes_of x (sym judged.bad ∙ c.in-None.is))
