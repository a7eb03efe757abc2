use Rattle.std.proofs.Common.{◌≡◌, ◌∙◌, sym, length, replicate}
use Rattle.card_layout.specs.declared.files.TheConstants.{LARGEST_IMAGE}
use Rattle.tach_media.proofs.Runs.{on_ok}
use Rattle.tacho.proofs.NoCard.{zeros-read, blank-reads}
use Rattle.tacho.proofs.blank.BlankMedium.read_at.Goals as goal

pub returns-clause-bytes : goal.returns-clause-bytes
returns-clause-bytes c =
    let filled : c.fill.new.self ≡ replicate (length c.args.out.now) 0 = c.fill.ensures.after (λ y h. h) in
    on_ok c.answer.result (λ works. filled ∙ zeros-read LARGEST_IMAGE c.args._place (length c.args.out.now) c.requires)

pub returns-clause-reads : goal.returns-clause-reads
returns-clause-reads c = blank-reads c.args.self.now.broken _ (sym c.answer.ensures)
