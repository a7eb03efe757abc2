use Rattle.std.proofs.Common.{◌≡◌, ◌≤◌, ◌%◌, refl, arith}
use Rattle.card_layout.specs.declared.files.Fid.{Fid}
use Rattle.card_layout.specs.Files.{files_of}
use Rattle.card_layout.proofs.Sizes.{days_at, of_range}
use Rattle.card_commands.proofs.Updated.{if_writable}
use Rattle.worked_rows.proofs.card.tests.file_of_days.Goals as goal

abbrev fid : Fid
fid = record { 0 = 0x0504 }

pub returns-clause-writable : goal.returns-clause-writable
unfolding files_of
returns-clause-writable c = if_writable c.args.app.now fid c.file_range.result refl c.file_range.ensures.value

pub returns-clause-even : goal.returns-clause-even
returns-clause-even c = of_range (λ r. r.len % 2 ≡ 0) c.args.app.now fid _ c.file_range.result (days_at c.args.app.now) c.file_range.ensures.value (omega (arith, c.requires.string_even))

pub returns-clause-low : goal.returns-clause-low
returns-clause-low c = of_range (λ r. 5548 ≤ r.len) c.args.app.now fid _ c.file_range.result (days_at c.args.app.now) c.file_range.ensures.value (omega (arith, c.requires.string_least))

pub returns-clause-high : goal.returns-clause-high
returns-clause-high c = of_range (λ r. r.len ≤ 13780) c.args.app.now fid _ c.file_range.result (days_at c.args.app.now) c.file_range.ensures.value (omega (arith, c.requires.string_most))
