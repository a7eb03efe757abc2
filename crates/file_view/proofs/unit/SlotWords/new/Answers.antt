use Rattle.file_view.proofs.unit.SlotWords.new.Goals as goal

pub returns : goal.returns
returns c = (c.new.ensures, c.new-2.ensures)
