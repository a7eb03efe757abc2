use Rattle.std.proofs.Common.{◌∙◌, ap, List}
use Rattle.card_layout.specs.declared.files.CardFile.{CardFile}
use Rattle.card_layout.specs.Files.{range_from}
use Rattle.card_layout.proofs.Ranges.{if_listed, if_inside, if_apart}
use Rattle.card_files.proofs.table.file_range.Goals as goal

pub returns-clause-listed : goal.returns-clause-listed
returns-clause-listed c = if_listed c.args.app.now c.args.fid c.range_in.result (c.range_in.ensures ∙ ap (λ (fs : List CardFile). range_from 0 fs c.args.fid) c.files.ensures.table)

pub returns-clause-inside : goal.returns-clause-inside
returns-clause-inside c = if_inside c.args.app.now c.args.fid c.range_in.result (c.range_in.ensures ∙ ap (λ (fs : List CardFile). range_from 0 fs c.args.fid) c.files.ensures.table)

pub returns-clause-apart : goal.returns-clause-apart
returns-clause-apart c = if_apart c.args.app.now c.args.fid c.range_in.result (c.range_in.ensures ∙ ap (λ (fs : List CardFile). range_from 0 fs c.args.fid) c.files.ensures.table)
