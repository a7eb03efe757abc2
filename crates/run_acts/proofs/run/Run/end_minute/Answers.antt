use Rattle.std.proofs.Common.{◌≡◌, ℕ, ◌+◌, ◌-◌, ◌/◌, ◌%◌, subst, arith}
use Rattle.run_crew.specs.Cabin.{KnowsEnded}
use Rattle.run_acts.proofs.run.Run.end_minute.Goals as goal

pub returns-then-self-eq0-clause-ended : goal.returns-then-self-eq0-clause-ended
returns-then-self-eq0-clause-ended c = λ from few h.
    let n = c.args.self.now.next in
    let low = c.requires.low in
    let at : n % 60 ≡ 0 = c.if-self-eq0.true in
    let same : (n - 1) / 60 ≡ n / 60 - 1 = omega (arith, at, low) in
    let next : n / 60 - 1 + 1 ≡ n / 60 = omega (arith, low) in
    let slots = c.end_minute.new.self.slots in
    let was : KnowsEnded from (n / 60 - 1) c.args.self.now.keeper.cabin.slots = subst (λ (m : ℕ). KnowsEnded from m c.args.self.now.keeper.cabin.slots) same h in
    subst (λ (m : ℕ). KnowsEnded from m slots) next (c.end_minute.ensures.ended from (omega (arith, few, next)) was)
