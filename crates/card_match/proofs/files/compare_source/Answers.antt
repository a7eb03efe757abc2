use Rattle.std.proofs.Common.{inl, inr, ℕ, List, take, drop, subst}
use Rattle.card_match.specs.Files.{IsBadUnit}
use Rattle.card_match.proofs.Sources.{parts_are, lacks_only}
use Rattle.card_match.proofs.files.compare_source.Goals as goal

pub returns-in-Err-BadUnitFile-clause-bad : goal.returns-in-Err-BadUnitFile-clause-bad
returns-in-Err-BadUnitFile-clause-bad c =
    let are = parts_are c.args.b.now c.in-Ok.front c.in-Ok.ensures.front in
    let bad : IsBadUnit c.in-Err-BadUnitFile.place c.split_at.result.0.now = rw c.in-Err-BadUnitFile.field-0-is at c.in-Err-BadUnitFile.ensures.bad in
    inr (
    record {
      unit = take c.in-Ok.front.end c.args.b.now;
      card = drop c.in-Ok.front.end c.args.b.now;
      are = are;
      bad = inl (lacks_only c.args.b.now (take c.in-Ok.front.end c.args.b.now) (drop c.in-Ok.front.end c.args.b.now) c.in-Err-BadUnitFile.place are (subst (λ (l : List ℕ). IsBadUnit c.in-Err-BadUnitFile.place l) c.split_at.ensures.front bad));
    })
