use Rattle.std.proofs.Common.{◌≡◌, ◌+◌, ◌-◌, ◌++◌, ℕ, suc, List, option_to_list, length, sym, ◌∙◌, ap, subst, arith}
use Rattle.std.proofs.lemmas.List.{append-nil, length-map}
use Rattle.event_model.specs.Spans.{SpeedSecond, at_speed}
use Rattle.speed_model.specs.Blocks.{blocks_of}
use Rattle.speed_store.specs.Feeding.{KeepsSpeedsOf, block_in}
use Rattle.speed_store.proofs.Feeding.{grows, Ends, ends, time-behind, sixty-in}
use Rattle.speed_store.proofs.minute.SpeedMinute.feed.Goals as goal

pub put-requires : goal.put-requires
put-requires c = let h = c.requires.follows.1 in omega (arith, length-map h.going (λ (s : SpeedSecond). s.speed), ap length h.kept_are, h.few, c.requires.minute)

pub returns-then-behind-lt-MINUTE_SECONDS-clause-fed : goal.returns-then-behind-lt-MINUTE_SECONDS-clause-fed
returns-then-behind-lt-MINUTE_SECONDS-clause-fed c = λ seconds h.
    subst (λ (l : List ℕ). KeepsSpeedsOf l (seconds ++ at_speed c.args.second c.args.n c.args.speed) (c.args.second + c.args.n)) (sym c.put.ensures)
    (grows c.args.n c.args.self.now seconds c.args.second c.args.speed h (omega (arith, c.if-behind-lt-MINUTE_SECONDS.true))).0

pub returns-then-behind-lt-MINUTE_SECONDS-clause-given : goal.returns-then-behind-lt-MINUTE_SECONDS-clause-given
returns-then-behind-lt-MINUTE_SECONDS-clause-given c = λ seconds h.
    (grows c.args.n c.args.self.now seconds c.args.second c.args.speed h (omega (arith, c.if-behind-lt-MINUTE_SECONDS.true))).1 ∙ sym (append-nil (blocks_of seconds))

pub returns-clause-fed : goal.returns-clause-fed
returns-clause-fed c = λ seconds h.
    let n = c.args.n - 1 in
    let is : suc n ≡ c.args.n = omega (arith, c.requires.some) in
    subst (λ (l : List ℕ). KeepsSpeedsOf l (seconds ++ at_speed c.args.second c.args.n c.args.speed) (c.args.second + c.args.n)) (sym c.close.ensures.none)
    (subst (λ (k : ℕ). Ends c.args.self.now seconds c.args.second k c.args.speed) is (ends n c.args.self.now seconds c.args.second c.args.speed h (omega (arith, is, c.requires.minute, c.if-behind-lt-MINUTE_SECONDS.false)))).0

pub returns-clause-given : goal.returns-clause-given
returns-clause-given c = λ seconds h.
    let n = c.args.n - 1 in
    let is : suc n ≡ c.args.n = omega (arith, c.requires.some) in
    let time : c.args.second + c.args.n - 60 ≡ c.args.second - (60 - c.args.n) = omega (arith, c.requires.minute, c.if-behind-lt-MINUTE_SECONDS.false) in
    (subst (λ (k : ℕ). Ends c.args.self.now seconds c.args.second k c.args.speed) is (ends n c.args.self.now seconds c.args.second c.args.speed h (omega (arith, is, c.requires.minute, c.if-behind-lt-MINUTE_SECONDS.false)))).1
    ∙ (λ i. blocks_of seconds ++ option_to_list (block_in (time i) (sym c.put.ensures i))) ∙ ap (λ o. blocks_of seconds ++ option_to_list o) (sym c.close.ensures.block)

pub returns-clause-time : goal.returns-clause-time
returns-clause-time c = time-behind c.close.result (c.args.second - (60 - c.args.n)) (c.args.second + c.args.n) c.close.ensures.time (omega (arith, c.requires.minute, c.if-behind-lt-MINUTE_SECONDS.false))

pub returns-clause-whole : goal.returns-clause-whole
returns-clause-whole c = sixty-in c.close.result (c.args.second - (60 - c.args.n)) c.put.new.self c.close.ensures.block
