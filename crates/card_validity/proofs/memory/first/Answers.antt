use Rattle.std.proofs.Common.{◌≡◌, ◌<◌, ℕ, List, Option, IfSome, subst}
use Rattle.std.specs.Prelude.{slice_get}
use Rattle.card_image.specs.card_model.Days.{Day}
use Rattle.card_image.specs.card_model.Image.{HoldsDays}
use Rattle.card_image.specs.card_model.Walk.{days_of}
use Rattle.card_days.specs.declared.head.DayHead.{DayHead}
use Rattle.card_days.specs.Heads.{heads_of}
use Rattle.card_validity.proofs.Slices.{never_fails, ok_told}
use Rattle.card_validity.proofs.memory.first.Goals as goal

pub unwrap-requires : goal.unwrap-requires
unwrap-requires c = never_fails _ _ c.first.result c.first.ensures.reads

pub returns-clause-first : goal.returns-clause-first
returns-clause-first c =
    let r = c.args.days.now.shape in
    let x = c.args.image.now in
    let told = ok_told c.first.result c.unwrap.result (λ (o : Option DayHead). (days : List Day) → HoldsDays r c.new-slice.result days → o ≡ slice_get (heads_of r c.new-slice.result days) 0) c.unwrap.ensures c.first.ensures.first in
    subst (λ (y : List ℕ). (days : List Day) → HoldsDays r y days → c.unwrap.result ≡ slice_get (heads_of r y days) 0) c.new-slice.ensures told (days_of r x) c.requires.holds

pub returns-clause-place : goal.returns-clause-place
returns-clause-place c = ok_told c.first.result c.unwrap.result (λ (o : Option DayHead). IfSome o (λ h. h.place < c.args.days.now.shape.size)) c.unwrap.ensures c.first.ensures.place
