use Rattle.std.proofs.Common.{◌≡◌, ◌<◌, ◌≤◌, ◌+◌, ◌*◌, ◌%◌, ℕ, true, false, Some, None, length, get_or, sym, ◌∙◌, ap, arith}
use Rattle.card_image.specs.card_model.Image.{oldest_pointer}
use Rattle.card_image.specs.card_model.Checks.{file_place}
use Rattle.card_validity.specs.Words.{passes_after}
use Rattle.card_validity.proofs.Rising.{rising_after, rising_is, rising_goes, rising_fails, rising_past, rising_done}
use Rattle.card_validity.proofs.words.first_not_later.Goals as goal

pub loop-index-init : goal.loop-index-init
loop-index-init c = λ older d met.
    let same : c.args.met.now.so_far + 12 ≡ c.args.met.now.so_far + 12 + 2 * 0 = omega arith in
    ap (λ (n : ℕ). rising_after c.args.days.now.shape.size (oldest_pointer c.args.days.now.shape c.args.image.now) n c.args.limit None d.words) same

pub loop-index-preserved : goal.loop-index-preserved
loop-index-preserved c = λ older d met.
    let i = c.loop-index.index in
    let w = c.word-minute.result in
    let below : i < length d.words = omega (arith, met.words, c.loop-index-test.true) in
    let is : w ≡ get_or d.words i 0 = c.word-minute.ensures d met.here below in
    let in_time : w % 2048 ≤ c.args.limit = omega (arith, c.if-minute-limit.false) in
    let yes : c.is_later.result ≡ true = grind (arith, c.if-not-is_later.false) in
    let later : passes_after c.loop-index.before (w % 2048) ≡ true = sym c.is_later.ensures ∙ yes in
    let next : c.args.met.now.so_far + 12 + 2 * (i + 1) ≡ c.args.met.now.so_far + 12 + 2 * i + 2 = omega arith in
    c.loop-index.invariant older d met
    ∙ rising_goes c.args.days.now.shape.size (oldest_pointer c.args.days.now.shape c.args.image.now) (c.args.met.now.so_far + 12 + 2 * i) c.args.limit c.loop-index.before d.words i w below is in_time later (c.args.met.now.so_far + 12 + 2 * (i + 1)) next

pub returns-then-minute-limit : goal.returns-then-minute-limit
returns-then-minute-limit c = λ older d met.
    let i = c.loop-index.index in
    let w = c.word-minute.result in
    let size = c.args.days.now.shape.size in
    let o = oldest_pointer c.args.days.now.shape c.args.image.now in
    let k = c.args.met.now.so_far + 12 in
    let below : i < length d.words = omega (arith, met.words, c.loop-index-test.true) in
    let is : w ≡ get_or d.words i 0 = c.word-minute.ensures d met.here below in
    let late : c.args.limit < w % 2048 = omega (arith, c.if-minute-limit.true) in
    sym (rising_past size o (k + 2 * i) c.args.limit c.loop-index.before d.words i w below is late) ∙ sym (c.loop-index.invariant older d met) ∙ rising_is size o k d.date c.args.limit d.words

pub returns-then-not-is_later : goal.returns-then-not-is_later
returns-then-not-is_later c = λ older d met.
    let i = c.loop-index.index in
    let w = c.word-minute.result in
    let size = c.args.days.now.shape.size in
    let o = oldest_pointer c.args.days.now.shape c.args.image.now in
    let k = c.args.met.now.so_far + 12 in
    let below : i < length d.words = omega (arith, met.words, c.loop-index-test.true) in
    let is : w ≡ get_or d.words i 0 = c.word-minute.ensures d met.here below in
    let in_time : w % 2048 ≤ c.args.limit = omega (arith, c.if-minute-limit.false) in
    let no : c.is_later.result ≡ false = grind (arith, c.if-not-is_later.true) in
    let fails : passes_after c.loop-index.before (w % 2048) ≡ false = sym c.is_later.ensures ∙ no in
    let place : c.file_place.result ≡ file_place size o (k + 2 * i) = (let e = c.file_place.ensures in let s = c.requires.size in let p = c.requires.oldest in cc) in
    ap (λ (n : ℕ). Some n) place ∙ sym (rising_fails size o (k + 2 * i) c.args.limit c.loop-index.before d.words i w below is in_time fails) ∙ sym (c.loop-index.invariant older d met) ∙ rising_is size o k d.date c.args.limit d.words

pub returns : goal.returns
returns c = λ older d met.
    let i = c.loop-index.index in
    let size = c.args.days.now.shape.size in
    let o = oldest_pointer c.args.days.now.shape c.args.image.now in
    let k = c.args.met.now.so_far + 12 in
    let done : length d.words ≤ i = omega (arith, met.words, c.loop-index-test.false) in
    sym (rising_done size o (k + 2 * i) c.args.limit c.loop-index.before d.words i done) ∙ sym (c.loop-index.invariant older d met) ∙ rising_is size o k d.date c.args.limit d.words
