use Rattle.std.proofs.Common.{◌<◌, ℕ, List, Option, IfSome, subst}
use Rattle.card_days.specs.declared.head.DayHead.{DayHead}
use Rattle.card_days.specs.Heads.{IsAfter}
use Rattle.card_validity.proofs.Slices.{never_fails, ok_told}
use Rattle.card_validity.proofs.memory.after.Goals as goal

pub unwrap-requires : goal.unwrap-requires
unwrap-requires c = never_fails _ _ c.after.result c.after.ensures.reads

pub returns-clause-after : goal.returns-clause-after
returns-clause-after c =
    let r = c.args.days.now.shape in
    let told = ok_told c.after.result c.unwrap.result (λ (o : Option DayHead). IsAfter r c.new-slice.result c.args.head.now o) c.unwrap.ensures c.after.ensures.after in
    subst (λ (y : List ℕ). IsAfter r y c.args.head.now c.unwrap.result) c.new-slice.ensures told

pub returns-clause-place : goal.returns-clause-place
returns-clause-place c = ok_told c.after.result c.unwrap.result (λ (o : Option DayHead). IfSome o (λ h. h.place < c.args.days.now.shape.size)) c.unwrap.ensures c.after.ensures.place
