use Rattle.std.proofs.Common.{sym, subst, arith}
use Rattle.file_view.specs.Deciding.{Decides}
use Rattle.file_view.specs.UnitShowing.{slot_words}
use Rattle.file_view.proofs.UnitDays.{driver_word, codriver_word}
use Rattle.file_view.proofs.unit.SlotWords.put_word.Goals as goal

pub returns-then-word-lt-CODRIVER : goal.returns-then-word-lt-CODRIVER
returns-then-word-lt-CODRIVER c = λ words decide.
    let parts = driver_word c.args.word words (omega (arith, c.if-word-lt-CODRIVER.true)) in (
      subst (Decides c.put_word.new.self) (sym parts.0) (c.put_word.ensures (slot_words 0 words) decide.0),
      subst (Decides c.args.self.now.codriver) (sym parts.1) decide.1,
    )

pub returns : goal.returns
returns c = λ words decide.
    let parts = codriver_word c.args.word words (omega (arith, c.if-word-lt-CODRIVER.false)) (omega arith) in (
      subst (Decides c.args.self.now.driver) (sym parts.0) decide.0,
      subst (Decides c.put_word-2.new.self) (sym parts.1) (c.put_word-2.ensures (slot_words 1 words) decide.1),
    )
