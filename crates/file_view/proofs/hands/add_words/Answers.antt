use Rattle.std.proofs.Common.{◌≡◌, ◌∙◌, ℕ, ◌+◌, ◌<◌, List, ◌++◌, length, take, get_or, ap, sym, subst, arith, append_assoc, append-nil}
use Rattle.std.proofs.Math.Seq.{take-length}
use Rattle.std.proofs.lemmas.List.{take_more}
use Rattle.activity_codec.specs.Words.{word_minute}
use Rattle.card_days.specs.declared.head.DayHead.{DayHead}
use Rattle.activity_codec.specs.declared.entries.Manual.{Manual}
use Rattle.hand_model.specs.ByHand.{words_by_hand}
use Rattle.hand_model.proofs.Lists.{words_append}
use Rattle.file_view.specs.ByHand.{hand_up_to}
use Rattle.file_view.proofs.Walks.{word_low}
use Rattle.file_view.proofs.hands.add_words.Goals as goal

pub loop-i-init : goal.loop-i-init
loop-i-init c = λ d is. sym (append-nil c.args.list.now.items)

pub loop-i-preserved : goal.loop-i-preserved
loop-i-preserved c = λ d is.
    let i = c.loop-i.i in
    let mark = c.args.mark in
    let count : c.args.head.now.words ≡ length d.words = ap (λ (h : DayHead). h.words) is.head_is in
    let low : c.loop-i.i < length d.words = omega (arith, count) in
    let date : c.args.head.now.date.0 ≡ d.date = ap (λ (h : DayHead). h.date.0) is.head_is in
    let here : c.word.result ≡ get_or d.words c.loop-i.i 0 = c.word.ensures d is.here low in
    let minute : word_minute c.word.result < 1440 = subst (λ (w : ℕ). word_minute w < 1440) (sym here) (word_low d is.day c.loop-i.i low) in
    let told : hand_up_to mark c.args.head.now.date.0 c.word.result ≡ hand_up_to mark d.date (get_or d.words c.loop-i.i 0) =
    ap (λ (n : ℕ). hand_up_to mark n c.word.result) date ∙ ap (hand_up_to mark d.date) here in
    let next : words_by_hand mark d.date (take c.loop-i.i d.words) ++ hand_up_to mark d.date (get_or d.words c.loop-i.i 0) ≡ words_by_hand mark d.date (take (c.loop-i.i + 1) d.words) =
    sym (ap (words_by_hand mark d.date) (take_more d.words c.loop-i.i 0 low) ∙ words_append mark d.date (take c.loop-i.i d.words) (get_or d.words c.loop-i.i 0)) in
    c.in_ok-add_word.ensures minute
    ∙ ap (λ (l : List Manual). l ++ hand_up_to mark c.args.head.now.date.0 c.word.result) (c.loop-i.invariant d is)
    ∙ append_assoc c.args.list.now.items (words_by_hand mark d.date (take c.loop-i.i d.words)) (hand_up_to mark c.args.head.now.date.0 c.word.result)
    ∙ ap (λ (l : List Manual). c.args.list.now.items ++ l) (ap (λ (l : List Manual). words_by_hand mark d.date (take c.loop-i.i d.words) ++ l) told ∙ next)

pub returns : goal.returns
returns c = λ d is.
    let count : c.args.head.now.words ≡ length d.words = ap (λ (h : DayHead). h.words) is.head_is in
    let whole : c.loop-i.i ≡ length d.words = omega (arith, count) in
    c.loop-i.invariant d is
    ∙ ap (λ (l : List ℕ). c.args.list.now.items ++ words_by_hand c.args.mark d.date l) (ap (λ (n : ℕ). take n d.words) whole ∙ take-length d.words)
