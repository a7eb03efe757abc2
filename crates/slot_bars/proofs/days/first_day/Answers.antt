use Rattle.std.proofs.Common.{◌≡◌, ◌∙◌, ℕ, suc, ◌+◌, ◌-◌, ◌≤◌, ◌∷◌, true, false, length, take, drop, ap, sym, subst, arith}
use Rattle.std.proofs.lemmas.List.{length-take-le}
use Rattle.file_view.specs.Histories.{minutes_on}
use Rattle.slot_bars.specs.DaysOf.{days_of}
use Rattle.slot_bars.specs.DayLines.{day_lines, is_behind_at}
use Rattle.slot_bars.proofs.DayRuns.{day_goes_on, behind_low, day_ends, day_is, few_minutes, dated_front, dated_behind}
use Rattle.slot_bars.proofs.days.first_day.Goals as goal

pub lines-init : goal.lines-init
lines-init g c = record { some = omega arith; within = omega (arith, c.requires.some); so_far = omega arith }

pub lines-preserved : goal.lines-preserved
lines-preserved g c =
    let lines = c.args.lines.now in
    let inv = c.lines.invariant in
    let i : ℕ = c.lines.end - 1 in
    let on : is_behind_at c.args.lines.now (c.lines.end - 1) ≡ true = sym c.goes_on.ensures ∙ c.lines-test.true in
    let low = behind_low lines i on in
    let more : c.lines.end - 1 + suc (day_lines (drop (c.lines.end - 1 + 1) c.args.lines.now)) ≡ c.lines.end - 1 + 1 + day_lines (drop (c.lines.end - 1 + 1) c.args.lines.now) = omega arith in
    let place : c.lines.end - 1 + 1 ≡ c.lines.end + 1 - 1 = omega (arith, inv.some) in
    record {
      some = omega arith;
      within = omega (arith, low);
      so_far =
          inv.so_far
          ∙ ap (λ (n : ℕ). c.lines.end - 1 + n) (day_goes_on lines i on)
          ∙ more
          ∙ ap (λ (k : ℕ). k + day_lines (drop k c.args.lines.now)) place;
    }

pub lines-smaller : goal.lines-smaller
lines-smaller g c =
    let on : is_behind_at c.args.lines.now (c.lines.end - 1) ≡ true = sym c.goes_on.ensures ∙ c.lines-test.true in
    omega (arith, behind_low c.args.lines.now (c.lines.end - 1) on, c.lines.invariant.some)

pub returns : goal.returns
returns g c =
    let lines = c.args.lines.now in
    let inv = c.lines.invariant in
    let i : ℕ = c.lines.end - 1 in
    let off : is_behind_at c.args.lines.now (c.lines.end - 1) ≡ false = sym c.goes_on.ensures ∙ c.lines-test.false in
    let value : day_lines c.args.lines.now ≡ c.lines.end = omega (arith, inv.so_far, inv.some, day_ends lines i (omega (arith, inv.some, inv.within)) off) in
    record {
      some = inv.some;
      within = inv.within;
      days = subst (λ (k : ℕ). days_of (minutes_on c.args.lines.now) ≡ minutes_on (take k c.args.lines.now) ∷ days_of (minutes_on (drop k c.args.lines.now))) value (day_is lines c.requires.lines c.requires.some);
      one = record {
        some = omega (arith, length-take-le c.lines.end lines inv.within, inv.some);
        each = dated_front lines c.lines.end c.requires.lines;
        few = subst (λ (k : ℕ). length (minutes_on (take k c.args.lines.now)) ≤ 1440) value (few_minutes lines c.requires.lines);
      };
      more = dated_behind lines c.lines.end c.requires.lines;
    }
