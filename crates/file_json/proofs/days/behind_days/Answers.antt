use Rattle.std.proofs.Common.{◌≢◌, ◌∙◌, arith, refl, ap, sym, take, drop}
use Rattle.json.specs.Json.{Items}
use Rattle.file_json.specs.Days.{day_len, day_shown, days_from, items_behind, stands_at}
use Rattle.file_json.proofs.Stringing.{none_from, one_passed, stopped, two_of}
use Rattle.file_json.proofs.days.behind_days.Goals as goal

pub walk-init : goal.walk-init
walk-init c = record { within = c.requires; so_far = refl }

pub behind_one-next-requires-clause-there : goal.behind_one-next-requires-clause-there
behind_one-next-requires-clause-there c = (two_of c.walk.left (stands_at c.walk.at c.args.circle.now) (sym c.goes_on.ensures ∙ c.walk-test.true)).1

pub overflow_sub-left : goal.overflow_sub-left
overflow_sub-left c =
    let some : c.walk.left ≢ 0 = (two_of c.walk.left (stands_at c.walk.at c.args.circle.now) (sym c.goes_on.ensures ∙ c.walk-test.true)).0 in
    omega (arith, some)

pub walk-preserved : goal.walk-preserved
walk-preserved c =
    let some : c.walk.left ≢ 0 = (two_of c.walk.left (stands_at c.walk.at c.args.circle.now) (sym c.goes_on.ensures ∙ c.walk-test.true)).0 in
    record {
      within = c.behind_one-next.ensures.within;
      so_far = one_passed c.walk.left (day_shown (take (day_len (drop c.walk.at.place c.args.circle.now)) (drop c.walk.at.place c.args.circle.now))) (days_from c.behind_one-next.result c.args.circle.now) some
          ∙ ap (λ (js : Items). items_behind c.walk.left js) (sym c.behind_one-next.ensures.shown) ∙ c.walk.invariant.so_far;
    }

pub returns-clause-days : goal.returns-clause-days
returns-clause-days c =
    sym (stopped c.walk.left (stands_at c.walk.at c.args.circle.now) (days_from c.walk.at c.args.circle.now) (sym c.goes_on.ensures ∙ c.walk-test.false) (none_from c.walk.at c.args.circle.now))
    ∙ c.walk.invariant.so_far
