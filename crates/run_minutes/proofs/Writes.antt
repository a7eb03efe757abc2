-- Writes that calls begin, from call to call.
use Rattle.std.proofs.Common.{ℕ, ◌+◌, ◌*◌, ◌≤◌, arith}
use Rattle.tach_media.specs.Medium.{State}
use Rattle.run_devices.specs.safety_model.Safe.{Devices}
use Rattle.run_devices.specs.run_promise.Between.{devices}
use Rattle.run_minutes.specs.Writes.{WroteAtMost, minute_most}

pub wrote-none : (u n : ℕ) (d : Devices) → WroteAtMost u n d d
wrote-none u n d = record { unit = omega arith; card_a = omega arith; card_b = omega arith }

pub wrote-then : (u v m n : ℕ) (d e f : Devices) → WroteAtMost u m d e → WroteAtMost v n e f → WroteAtMost (u + v) (m + n) d f
wrote-then u v m n d e f first next = record {
  unit = (let a = first.unit in let b = next.unit in omega (arith, a, b));
  card_a = (let a = first.card_a in let b = next.card_a in omega (arith, a, b));
  card_b = (let a = first.card_b in let b = next.card_b in omega (arith, a, b));
}

pub wrote-more : (u v m n : ℕ) (d e : Devices) → u ≤ v → m ≤ n → WroteAtMost u m d e → WroteAtMost v n d e
wrote-more u v m n d e unit card h = record {
  unit = (let a = h.unit in omega (arith, a, unit));
  card_a = (let a = h.card_a in omega (arith, a, card));
  card_b = (let a = h.card_b in omega (arith, a, card));
}

-- a call on the unit alone
pub wrote-unit : (u n : ℕ) (U V X Y : State) → V.clock ≤ U.clock + u → WroteAtMost u n (devices U X Y) (devices V X Y)
wrote-unit u n U V X Y most = record { unit = most; card_a = omega arith; card_b = omega arith }

-- a minute more
pub wrote-minute : (i : ℕ) (d e f : Devices) → WroteAtMost (26 * i) (minute_most * i) d e → WroteAtMost 26 minute_most e f → WroteAtMost (26 * (i + 1)) (minute_most * (i + 1)) d f
wrote-minute i d e f first next = record {
  unit = (let a = first.unit in let b = next.unit in omega (arith, a, b));
  card_a = (let a = first.card_a in let b = next.card_a in omega (arith, a, b));
  card_b = (let a = first.card_b in let b = next.card_b in omega (arith, a, b));
}

pub wrote-minutes : (i n : ℕ) (d e : Devices) → i ≤ n → WroteAtMost (26 * i) (minute_most * i) d e → WroteAtMost (26 * n) (minute_most * n) d e
wrote-minutes i n d e within h = record {
  unit = (let a = h.unit in omega (arith, a, within));
  card_a = (let a = h.card_a in omega (arith, a, within));
  card_b = (let a = h.card_b in omega (arith, a, within));
}
