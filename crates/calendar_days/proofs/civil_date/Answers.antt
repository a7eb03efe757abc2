use Rattle.std.proofs.Common.{arith, ◌≡◌, ◌∙◌, ◌<◌, ◌^◌, pos, ◌+ℤ◌, refl, w64, inl}
use Rattle.std.proofs.lemmas.Int.{to_z_pos, by_lt_z}
use Rattle.jiff.specs.Words.{epoch_day, IsEpochDay}
use Rattle.jiff.specs.Types.{Date}
use Rattle.jiff.proofs.Family.{epoch_day-lt}
use Rattle.jiff.proofs.SpanFacts.{signed_arith, date_add-days, can_add-days}
use Rattle.jiff.proofs.OnLiterals.{jiff_on_literals}
use Rattle.calendar_days.proofs.civil_date.Goals as goal

epoch : (d : Date) → d.year ≡ pos 1970 → d.month ≡ 1 → d.day ≡ 1 → epoch_day d ≡ pos 0
unfolding jiff_on_literals
epoch d y m n = rw (y, m, n) refl

pub unreachable-requires : goal.unreachable-requires
unreachable-requires c =
    let small : c.args.day < 2 ^ 63 = omega arith in
    let only = rw (to_z_pos w64 c.args.day small) at c.days.ensures in
    let b = c.date.ensures in
    let m : c.date.result.month ≡ 1 = let e = b.1 in cc in
    let n : c.date.result.day ≡ 1 = let e = b.2 in cc in
    let zero : epoch_day c.date.result ≡ pos 0 = epoch c.date.result b.0 m n in
    let day : IsEpochDay (epoch_day c.date.result +ℤ pos c.args.day) = rw zero (omega (arith, signed_arith)) in
    let no = c.in-Err.ensures.succeeds.1 ((can_add-days c.date.result (pos c.args.day) c.days.result only).1 day) in cc

pub returns-clause-day : goal.returns-clause-day
returns-clause-day c =
    let small : c.args.day < 2 ^ 63 = omega arith in
    let only = rw (to_z_pos w64 c.args.day small) at c.days.ensures in
    let b = c.date.ensures in
    let m : c.date.result.month ≡ 1 = let e = b.1 in cc in
    let n : c.date.result.day ≡ 1 = let e = b.2 in cc in
    let zero : epoch_day c.date.result ≡ pos 0 = epoch c.date.result b.0 m n in
    let sum : epoch_day c.date.result +ℤ pos c.args.day ≡ pos c.args.day = rw zero (omega (arith, signed_arith)) in
    c.in-Ok.ensures.value ∙ date_add-days c.date.result (pos c.args.day) c.days.result only ∙ sum

pub returns-clause-year : goal.returns-clause-year
returns-clause-year c =
    let b = c.date.ensures in
    let m : c.date.result.month ≡ 1 = let e = b.1 in cc in
    let n : c.date.result.day ≡ 1 = let e = b.2 in cc in
    let zero : epoch_day c.date.result ≡ pos 0 = epoch c.date.result b.0 m n in
    let same = returns-clause-day c in
    by_lt_z c.in-Ok.date.year c.date.result.year
    (λ before. absurd (omega (arith, signed_arith, same, zero, epoch_day-lt c.in-Ok.date c.date.result (inl before))))
    (λ after. let first : c.date.result.year ≡ pos 1970 = b.0 in omega (arith, signed_arith))
