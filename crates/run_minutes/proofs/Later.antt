-- What holds of devices after any calls, from call to call.
use Rattle.std.proofs.Common.{◌≡◌, ◌∙◌, ◌⊎◌, ℕ, ◌≤◌, Bool, true, false, inl, inr, refl, ⊎_elim, arith}
use Rattle.tach_media.specs.Medium.{State, HasCause, Rose, revivable}
use Rattle.tach_media.proofs.Runs.{broken_same, broken_then}
use Rattle.run_devices.specs.safety_model.Safe.{Devices}
use Rattle.run_devices.specs.run_promise.Between.{devices}
use Rattle.run_events.specs.run_speeds.Speeds.{LeavesSpeeds}
use Rattle.run_events.proofs.run_speeds.Leaving.{leaves-none, leaves-then}
use Rattle.run_minutes.specs.Later.{IsLater, AreAfter, AreLater}

-- ---- one device

-- no call
pub state-same : (s : State) → IsLater s s
state-same s = record { clock = omega arith; faults = omega arith; breakdowns = omega arith; unbroken = inr refl; tells = broken_same s }

rose-wider : (a b c d : ℕ) → a ≤ b → c ≤ d → Rose b c → Rose a d
rose-wider a b c d low high rose = omega arith

broken-then : (a b c : ℕ) (x y z : ℕ) → a ≤ b → b ≤ c → Rose a b ⊎ (y ≡ x) → Rose b c ⊎ (z ≡ y) → Rose a c ⊎ (z ≡ x)
broken-then a b c x y z low high first next =
    ⊎_elim (λ rose. inl (rose-wider a a b c (omega arith) high rose))
    (λ same. ⊎_elim (λ rose. inl (rose-wider a b c c low (omega arith) rose)) (λ still. inr (still ∙ same)) next) first

-- some calls, and some more
pub state-then : (a b c : State) → IsLater a b → IsLater b c → IsLater a c
state-then a b c first next =
    let k = first.clock in
    let l = next.clock in
    let f = first.faults in
    let g = next.faults in
    let m = first.breakdowns in
    let n = next.breakdowns in
    record {
      clock = omega (arith, k, l);
      faults = omega (arith, f, g);
      breakdowns = omega (arith, m, n);
      unbroken = broken-then a.faults b.faults c.faults a.breakdowns b.breakdowns c.breakdowns f g first.unbroken next.unbroken;
      tells = broken_then first.tells next.tells;
    }

broken-by : (old new : State) (failed : Bool) → HasCause old new failed → Rose old.faults new.faults ⊎ (new.breakdowns ≡ old.breakdowns)
broken-by old new true cause = inl (cause.fault refl)
broken-by old new false cause = inr (cause.unbroken refl)

-- calls that answered so
pub state-by : (old new : State) (failed : Bool) → old.clock ≤ new.clock → HasCause old new failed → IsLater old new
state-by old new failed clock cause = record { clock = clock; faults = cause.faults; breakdowns = cause.breakdowns; unbroken = broken-by old new failed cause; tells = cause.tells }

-- and those before which the device was made to work again
pub state-revived : (old new : State) (failed : Bool) → old.clock ≤ new.clock → HasCause (revivable old) new failed → IsLater old new
state-revived old new failed clock cause = record { clock = clock; faults = cause.faults; breakdowns = cause.breakdowns; unbroken = broken-by (revivable old) new failed cause; tells = record { later = clock; told = cause.tells.told } }

-- ---- the three

pub after-same : (d : Devices) → AreAfter d d
after-same d = record { unit = state-same d.unit; card_a = state-same d.card_a; card_b = state-same d.card_b }

pub after-then : (d e f : Devices) → AreAfter d e → AreAfter e f → AreAfter d f
after-then d e f first next = record {
  unit = state-then d.unit e.unit f.unit first.unit next.unit;
  card_a = state-then d.card_a e.card_a f.card_a first.card_a next.card_a;
  card_b = state-then d.card_b e.card_b f.card_b first.card_b next.card_b;
}

-- calls on the unit alone
pub after-of-unit : (u v a b : State) → IsLater u v → AreAfter (devices u a b) (devices v a b)
after-of-unit u v a b unit = record { unit = unit; card_a = state-same a; card_b = state-same b }

-- on the unit and one card
pub after-of-a : (u v a x b : State) → IsLater u v → IsLater a x → AreAfter (devices u a b) (devices v x b)
after-of-a u v a x b unit card = record { unit = unit; card_a = card; card_b = state-same b }

pub after-of-b : (u v a b y : State) → IsLater u v → IsLater b y → AreAfter (devices u a b) (devices v a y)
after-of-b u v a b y unit card = record { unit = unit; card_a = state-same a; card_b = card }

-- ---- the three, where the detailed speed is left as it is

pub after-of : (d e : Devices) → AreLater d e → AreAfter d e
after-of d e later = record { unit = later.unit; card_a = later.card_a; card_b = later.card_b }

pub later-same : (d : Devices) → AreLater d d
later-same d = record { unit = state-same d.unit; card_a = state-same d.card_a; card_b = state-same d.card_b; speeds = leaves-none d.unit }

pub later-then : (d e f : Devices) → AreLater d e → AreLater e f → AreLater d f
later-then d e f first next = record {
  unit = state-then d.unit e.unit f.unit first.unit next.unit;
  card_a = state-then d.card_a e.card_a f.card_a first.card_a next.card_a;
  card_b = state-then d.card_b e.card_b f.card_b first.card_b next.card_b;
  speeds = leaves-then d.unit e.unit f.unit first.speeds next.speeds;
}

-- calls on the unit alone
pub later-of-unit : (u v a b : State) → IsLater u v → LeavesSpeeds u v → AreLater (devices u a b) (devices v a b)
later-of-unit u v a b unit speeds = record { unit = unit; card_a = state-same a; card_b = state-same b; speeds = speeds }

-- on the unit and one card
pub later-of-a : (u v a x b : State) → IsLater u v → IsLater a x → LeavesSpeeds u v → AreLater (devices u a b) (devices v x b)
later-of-a u v a x b unit card speeds = record { unit = unit; card_a = card; card_b = state-same b; speeds = speeds }

pub later-of-b : (u v a b y : State) → IsLater u v → IsLater b y → LeavesSpeeds u v → AreLater (devices u a b) (devices v a y)
later-of-b u v a b y unit card speeds = record { unit = unit; card_a = state-same a; card_b = card; speeds = speeds }
