-- Worked rows: how many power-ons, turns and writes ten quiet minutes take, some with a cut, a quiet day, and a day with
-- a cut.
use Rattle.std.proofs.Common.{◌≡◌, ℕ, ◌+◌, ◌<◌, [], ◌∷◌, refl, arith}
use Rattle.activity_codec.specs.declared.values.Slot.TheVariants.{Driver}
use Rattle.activity_codec.specs.declared.values.Pick.TheVariants.{Work}
use Rattle.trace_model.specs.declared.Action.TheVariants.{Select}
use Rattle.trace_model.specs.declared.Item.TheVariants.{Run as Driven, Off, Act}
use Rattle.recorder_with_cards.specs.Writes.{power_ons, turns_of, unit_writes, card_writes}
use Rattle.recorder_with_cards.proofs.Turns.{opened, line-turns}

-- from 06:00 on, ten minutes: two turns each, in the first second and in the next
ten_minutes : turns_of 1267423200 (Driven 600 0 ∷ []) ≡ 20
unfolding turns_of
ten_minutes = refl

-- from 06:00:30 on, a minute and a half: 06:00:30 and 31, and 06:01:00 and 01
begun_within : turns_of 1267423230 (Driven 90 50 ∷ []) ≡ 4
unfolding turns_of
begun_within = refl

-- with five minutes without power behind them, an action, and again a minute and a half, from 06:07:00 on
with_a_cut : turns_of 1267423230 (Driven 90 50 ∷ Off 300 ∷ Act (Select Driver Work) ∷ Driven 90 0 ∷ []) ≡ 8
unfolding turns_of
with_a_cut = refl

-- two power-ons, at its begin and behind the `off` line; and one more for each cut that a failed call made, but no more
-- than turns
two_power_ons : power_ons 1267423230 (Driven 90 50 ∷ Off 300 ∷ Act (Select Driver Work) ∷ Driven 90 0 ∷ []) 0 ≡ 2
unfolding power_ons turns_of
two_power_ons = refl

one_failed : power_ons 1267423230 (Driven 90 50 ∷ Off 300 ∷ Act (Select Driver Work) ∷ Driven 90 0 ∷ []) 1 ≡ 3
unfolding power_ons turns_of
one_failed = refl

many_failed : power_ons 1267423230 (Driven 90 50 ∷ Off 300 ∷ Act (Select Driver Work) ∷ Driven 90 0 ∷ []) 100 ≡ 8
unfolding power_ons turns_of
many_failed = refl

-- so many writes at most: two power-ons, eight turns, and the action
on_the_unit : unit_writes 1267423230 (Driven 90 50 ∷ Off 300 ∷ Act (Select Driver Work) ∷ Driven 90 0 ∷ []) 0 ≡ 1034
unfolding power_ons turns_of
on_the_unit = refl

on_a_card : card_writes 1267423230 (Driven 90 50 ∷ Off 300 ∷ Act (Select Driver Work) ∷ Driven 90 0 ∷ []) 0 ≡ 8022
unfolding power_ons turns_of
on_a_card = refl

-- a line of one second has one turn
three_lines : turns_of 1267423230 (Driven 1 50 ∷ Driven 1 51 ∷ Driven 1 52 ∷ []) ≡ 3
unfolding turns_of
three_lines = refl

-- ---- whole days, by the law of a line

one-line : (start n speed : ℕ) → 1 < n → turns_of start (Driven n speed ∷ []) + opened (start + 2) ≡ 2 + opened (start + n)
unfolding turns_of
one-line start n speed long = omega (arith, line-turns n start speed long)

-- a quiet day: 1440 minutes
quiet_day : turns_of 1267401600 (Driven 86400 0 ∷ []) ≡ 2880
unfolding opened
quiet_day = omega (arith, one-line 1267401600 86400 0 (omega arith))

-- it has one power-on, where no failed call cuts the power; and so it begins so many writes at most
quiet_power_ons : power_ons 1267401600 (Driven 86400 0 ∷ []) 0 ≡ 1
unfolding power_ons
quiet_power_ons = let turns = quiet_day in omega (arith, turns)

quiet_unit : unit_writes 1267401600 (Driven 86400 0 ∷ []) 0 ≡ 267934
quiet_unit = let turns = quiet_day in let on = quiet_power_ons in omega (arith, turns, on)

quiet_card : card_writes 1267401600 (Driven 86400 0 ∷ []) 0 ≡ 848872
quiet_card = let turns = quiet_day in let on = quiet_power_ons in omega (arith, turns, on)

two-lines : (start n dark m first last : ℕ) → 1 < n → 1 < m → turns_of start (Driven n first ∷ Off dark ∷ Driven m last ∷ []) + (opened (start + 2) + opened (start + n + dark + 2)) ≡ 4 + (opened (start + n) + opened (start + n + dark + m))
unfolding turns_of
two-lines start n dark m first last long later = omega (arith, line-turns n start first long, line-turns m (start + n + dark) last later)

-- a day with an hour without power, from 08:00:30 on: two turns more than its minutes with power have
day_with_a_cut : turns_of 1267401600 (Driven 28830 50 ∷ Off 3600 ∷ Driven 53970 0 ∷ []) ≡ 2762
unfolding opened
day_with_a_cut = omega (arith, two-lines 1267401600 28830 3600 53970 50 0 (omega arith) (omega arith))

-- and two power-ons
power_ons_with_a_cut : power_ons 1267401600 (Driven 28830 50 ∷ Off 3600 ∷ Driven 53970 0 ∷ []) 0 ≡ 2
unfolding power_ons
power_ons_with_a_cut = let turns = day_with_a_cut in omega (arith, turns)
