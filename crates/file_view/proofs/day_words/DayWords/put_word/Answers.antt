use Rattle.std.proofs.Common.{◌≡◌, length, arith, rules}
use Rattle.file_view.proofs.Deciding.{kept_set, kept_same}
use Rattle.file_view.proofs.day_words.DayWords.put_word.Goals as goal

pub returns-then-minute-self : goal.returns-then-minute-self
returns-then-minute-self c = λ words are. kept_same _ c.args.self.now.first c.args.word words are (omega (arith, c.minute_of-minute.ensures, c.if-minute-self.true))

pub returns : goal.returns
returns c = λ words are.
    let size : length c.args.self.now.words ≡ 1440 = first_of (omega arith, search rules) in
    kept_set c.args.self.now.words c.args.self.now.from c.args.self.now.first c.minute_of-minute.result c.args.word words size c.args.self.now.inside c.args.self.now.room c.if-minute-self.false c.minute_of-minute.ensures are
