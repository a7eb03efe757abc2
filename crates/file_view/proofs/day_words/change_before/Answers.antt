use Rattle.std.proofs.Common.{◌≡◌, ◌∙◌, ◌-◌, ◌<◌, Option, Some, Result, Ok, Err, get_or, option_map, ap, sym, arith}
use Rattle.std.specs.Prelude.{IsOk, IfOk}
use Rattle.std.specs.Result.{result_ok}
use Rattle.activity_codec.specs.declared.words.BadMinute.{BadMinute}
use Rattle.activity_codec.specs.declared.words.Change.{Change}
use Rattle.activity_codec.specs.Words.{change_of, word_minute}
use Rattle.file_view.proofs.Deciding.{low_at, word_there}
use Rattle.file_view.proofs.day_words.change_before.Goals as goal

-- the value of a decoding that is good
good_is : (r : Result Change BadMinute) (change : Change) → IsOk r → IfOk r (λ c. c ≡ change) → result_ok r ≡ Some change
good_is (Ok c) change ok same = ap (λ (x : Change). let o : Option Change = Some x in o) same
good_is (Err e) change ok same = absurd cc

pub returns : goal.returns
returns c = λ low.
    let some : 0 < c.args.count = omega (arith, c.if-count-eq0.false) in
    let good : word_minute (get_or c.args.words.now (c.args.count - 1) 0) < 1440 = low_at c.args.words.now low (c.args.count - 1) (omega (arith, some, c.requires)) in
    c.ok.ensures.value
    ∙ good_is c.decode_change.result (change_of (get_or c.args.words.now (c.args.count - 1) 0)) (c.decode_change.ensures.good.1 good) c.decode_change.ensures.value
    ∙ ap (option_map change_of) (sym (word_there c.args.words.now c.args.count some c.requires))
