use Rattle.std.proofs.Common.{◌≡◌, ◌≢◌, ◌/◌, ◌∙◌, ap, arith, refl}
use Rattle.tach_media.proofs.Runs.{both_told}
use Rattle.unit_model.specs.Decoding.{first_failing}
use Rattle.unit_memory.specs.Walks.{next_walk}
use Rattle.unit_memory.specs.Judging.{day_checks_by}
use Rattle.unit_memory.specs.declared.slots.Head.{Head}
use Rattle.unit_memory.proofs.Heads.{none_there, day_there}
use Rattle.unit_memory.proofs.Told.{one_told, carried}
use Rattle.unit_memory.proofs.slots.judge_slot.Goals as goal

pub returns-then-head-eq0-clause-walk : goal.returns-then-head-eq0-clause-walk
returns-then-head-eq0-clause-walk g c = one_told (g.M.Medium.state c.args.unit.now).image _ c.in_ok-head.ensures.head (λ x head. c.next_walk-next.ensures.next ∙ ap (λ (h : Head). next_walk (c.args.kept / 1440) c.args.walk c.args.index h.date) head)

pub returns-then-head-eq0-clause-bad : goal.returns-then-head-eq0-clause-bad
returns-then-head-eq0-clause-bad g c =
    let h = c.in_ok-head.head in
    let none : h.date ≡ 0 = omega arith in
    one_told (g.M.Medium.state c.args.unit.now).image _ c.in_ok-head.ensures.head (λ x head. none_there c.args.kept c.args.walk.latest x c.args.index h head none)

pub returns-clause-walk : goal.returns-clause-walk
returns-clause-walk g c = one_told (g.M.Medium.state c.args.unit.now).image _ c.in_ok-head.ensures.head (λ x head. c.next_walk-next.ensures.next ∙ ap (λ (h : Head). next_walk (c.args.kept / 1440) c.args.walk c.args.index h.date) head)

pub returns-clause-bad : goal.returns-clause-bad
returns-clause-bad g c =
    let h = c.in_ok-head.head in
    let k = c.args.kept in
    let l = c.args.walk.latest in
    let i = c.args.index in
    let bad = c.in_ok-bad.bad in
    let some : h.date ≢ 0 = omega arith in
    both_told (g.M.Medium.state c.args.unit.now).image _ c.in_ok-head.ensures.head (carried (λ x. bad ≡ first_failing (day_checks_by k l h x i)) (c.in_ok-head.ensures.reads.same refl) c.in_ok-bad.ensures.found)
    (λ x is head here. day_there k l x i h bad head some here)
